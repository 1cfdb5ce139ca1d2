-- What link_zc gives does what the objects' program does if interrupts write to the objects' shared sections.
use Rattle.std.proofs.Common.{◌≡◌, ℕ, ◌+◌, ◌<◌, ◌≤◌, List, [], ◌∷◌, true, refl, arith, ⊎_elim, leb, ltb}
use Rattle.std.specs.Prelude.{◌&&◌, All}
use Rattle.std.proofs.lemmas.Bool.{and_parts, leb-true, ltb-true, or_cases}
use Rattle.std.proofs.lemmas.List.Elements.{All-head, All-tail}
use Rattle.psabi_sym.specs.Data.{data_end}
use Rattle.psabi_sym.specs.Inputs.{Inputs, ParsedInputs, parsed}
use Rattle.psabi_sym.specs.Shared.{shared_ranges}
use Rattle.psabi_sym.proofs.SharedLaws.{shared_within}
use Rattle.moved_runs.specs.Leads.{IsNamed}
use Rattle.moved_runs.proofs.QuietObjects.{length-data_bytes}
use Rattle.rv_decode.specs.Memory.{Region}
use Rattle.shared_cells.specs.SharedRun.{in_ranges}
use Rattle.shrink_layout.specs.Settled.{settled_end}
use Rattle.sym_machine.specs.declared.word.SymByte.{SymByte}
use Rattle.sym_machine.specs.Objects.{program_of}
use Rattle.sym_machine.specs.Program.{Program}
use Rattle.sym_machine.specs.State.{PlainCore}
use Rattle.zc_link.specs.DataApart.{IsCell}
use Rattle.zc_link.specs.Links.{IsImageOf, IsZcLink, Link, slots_of}
use Rattle.zc_link.specs.Pace.{AlignOf, Alone, CallOf, GroupOf, LongOf, Stretch, TableOf, commits_of, pace_of}
use Rattle.zc_link.specs.TextLayout.{TextLayout, stretch_in, zc_layout}
use Rattle.shared_runs.specs.SharesCells.{SharesCells}
use Rattle.shared_runs.proofs.Shares.{shares_cells}

-- a stretch takes as many commits whatever memory holds
steady : (p : Program) (x : Stretch) (s : PlainCore) (memory : List (Region SymByte)) → commits_of p (record s { memory = memory }) x ≡ commits_of p s x
steady p Alone s memory = refl
steady p (AlignOf count) s memory = refl
steady p CallOf s memory = refl
steady p (LongOf op first second) s memory = refl
steady p (GroupOf items commits) s memory = refl
steady p (TableOf slot) s memory = refl

-- an address in ranges that lie between two bounds does so, too
range_within :
    (low high : ℕ) (ranges : List (ℕ × ℕ)) (a : ℕ) → All (λ r. (low ≤ r.0) × (r.0 + r.1 ≤ high)) ranges → in_ranges ranges a ≡ true
    → (low ≤ a) × (a < high)
range_within low high [] a all h = absurd cc
range_within low high (r ∷ rs) a all h = ⊎_elim
    (λ here.
    let q = and_parts (leb r.0 a) (ltb a (r.0 + r.1)) here in
    let bounds = All-head (λ (r : ℕ × ℕ). (low ≤ r.0) × (r.0 + r.1 ≤ high)) r rs all in
    let from = leb-true r.0 a q.0 in
    let to = ltb-true a (r.0 + r.1) q.1 in (omega (arith, bounds, from), omega (arith, bounds, to)))
    (λ rest. range_within low high rs a (All-tail (λ (r : ℕ × ℕ). (low ≤ r.0) × (r.0 + r.1 ≤ high)) r rs all) rest)
    (or_cases (leb r.0 a && ltb a (r.0 + r.1)) (in_ranges rs a) h)

-- shared sections are cells of the program's data
section_cells : (inputs : ParsedInputs) (a : ℕ) → in_ranges (shared_ranges inputs) a ≡ true → IsCell (program_of inputs) a
unfolding program_of
section_cells inputs a h =
    let q = range_within inputs.map.data_low (data_end inputs) (shared_ranges inputs) a (shared_within inputs) h in
    let size = length-data_bytes inputs in
    record { low = q.0; high = omega (arith, q, size) }

-- an image of a layout keeps step with the objects' program if interrupts write to their shared sections
pub image_shares :
    (L : TextLayout) (flags end : ℕ) (elf : List ℕ) (image : IsImageOf L flags end elf)
    → SharesCells (program_of (parsed L.inputs)) image.loaded (pace_of (program_of (parsed L.inputs)) (stretch_in L)) (shared_ranges (parsed L.inputs))
image_shares L flags end elf image =
    let inputs = parsed L.inputs in
    let p = program_of inputs in
    shares_cells p (IsNamed inputs) image.loaded (pace_of p (stretch_in L)) image.simulates (shared_ranges inputs) (section_cells inputs)
    (λ s memory. steady p (stretch_in L s.place) s memory)

-- so does that of a link
pub link_shares :
    (inputs : Inputs) (link : Link) (linked : IsZcLink inputs link)
    → SharesCells (program_of (parsed inputs)) linked.image.loaded (pace_of (program_of (parsed inputs)) (stretch_in (zc_layout inputs (slots_of link))))
    (shared_ranges (parsed inputs))
link_shares inputs link linked =
    image_shares (zc_layout inputs (slots_of link)) 1 (settled_end (parsed inputs) (slots_of link)) link.elf linked.image
