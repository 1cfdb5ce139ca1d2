-- If the places that begin basic blocks have addresses, so have the targets of relocations and the start of objects without a fault.
use Rattle.std.proofs.Common.{◌≡◌, ℕ, Option, Some, None, true, false, cond, refl, sym, ap, ◌∙◌}
use Rattle.std.specs.Prelude.{◌&&◌, is_none, not}
use Rattle.std.specs.Option.{is_some, unwrap_or}
use Rattle.std.proofs.lemmas.Bool.{or_left}
use Rattle.zc_base.specs.declared.place.Place.{Place}
use Rattle.elf32_read.specs.Parts.{SectionParts}
use Rattle.elf32_read.specs.declared.fault.Fault.{Fault}
use Rattle.elf32_read.specs.declared.fault.Fault.TheVariants.{NoEntry}
use Rattle.elf32_read.specs.declared.reloc.Reloc.{Reloc}
use Rattle.psabi_reloc.specs.Kinds.{kind_of}
use Rattle.psabi_sym.specs.Inputs.{Inputs, ParsedInputs, parsed}
use Rattle.psabi_sym.specs.Resolve.{name_target}
use Rattle.psabi_sym.specs.Start.{start_name}
use Rattle.psabi_sym.specs.declared.target.Target.{Target}
use Rattle.psabi_sym.specs.declared.target.Target.TheVariants.{Code, Number, Absent, Nowhere}
use Rattle.block_cut.specs.Faults.{entry_fault, first_fault, is_bad_target}
use Rattle.block_cut.specs.Items.{entry_in, entry_of, is_end_at, is_start_at, is_target_at, target_of}
use Rattle.block_cut.specs.Leaders.{is_leader_at}
use Rattle.block_cut.specs.Relocs.{is_transfer}
use Rattle.block_cut.proofs.ListedLaws.{listed}
use Rattle.moved_runs.proofs.Faultless.{IsGood, all_none, start_at, target_good}
use Rattle.moved_runs.proofs.Led.{AsksIn, reloc_leader}
use Rattle.moved_runs.proofs.StartLed.{name_leader}
use Rattle.zc_link.specs.LaidOut.{ListsLeaders}
use Rattle.zc_link.specs.Standing.{HasValue}

-- ---- targets

-- where there is an address, it is one
pub address_some : (o : Option ℕ) → is_some o ≡ true → (b : ℕ) × (o ≡ Some b)
address_some None h = absurd cc
address_some (Some b) h = (b, refl)

-- if the places that begin basic blocks have addresses
module _ (p : ParsedInputs) (A : Place → Option ℕ) (leaders : ListsLeaders p A) where
  -- a place that begins a basic block has an address
  pub leader_listed : (to : Place) → is_target_at p.objects to ≡ true → is_leader_at p to ≡ true → (b : ℕ) × (A to ≡ Some b)
  leader_listed to target leader = address_some (A to) (leaders to target leader)

  -- what a relocation that asks for something leads to has a value
  pub reloc_value : {o i : ℕ} {s : SectionParts} {r : Reloc} → AsksIn p o i s r → IsGood p (listed o i s) r → HasValue A (target_of p o r)
  reloc_value {o} {i} {s} {r} by fine =
      of (target_of p o r) (λ to leads. leader_listed to (target_good p (listed o i s) r to by.asks fine leads) (reloc_leader p to by leads))
      (ap (λ b. not b && is_bad_target p.objects (is_transfer (kind_of r.kind)) (target_of p o r)) (sym by.asks) ∙ fine.leads)
    where
      of :
          (t : Target) → ((to : Place) → t ≡ Code to → (b : ℕ) × (A to ≡ Some b))
          → is_bad_target p.objects (is_transfer (kind_of r.kind)) t ≡ false → HasValue A t
      of (Code to) place h = place to refl
      of (Number n) place h = (n, refl)
      of (Absent n) place h = (n, refl)
      of Nowhere place h = absurd cc

-- ---- the start

-- where the program starts has an address
pub start_listed :
    (inputs : Inputs) (A : Place → Option ℕ) → first_fault inputs ≡ None → ListsLeaders (parsed inputs) A
    → (b : ℕ) × (A (entry_of (parsed inputs)) ≡ Some b)
unfolding entry_fault
start_listed inputs A none leaders = by (entry_in p) refl (all_none inputs none).entry
  where
    p : ParsedInputs
    p = parsed inputs

    by : (o : Option Place) → entry_in p ≡ o → cond {A = Option (ℕ × Fault)} (is_none o) (Some (0, NoEntry)) None ≡ None → (b : ℕ) × (A (entry_of p) ≡ Some b)
    by None is h = absurd cc
    by (Some q) is h =
        let start = start_at p.objects (name_target p start_name) q is in
        let target = or_left (is_start_at p.objects q) (is_end_at p.objects q) start.starts in
        let there = leader_listed p A leaders q target (name_leader p q start_name start.leads) in
        (there.0, ap (λ o. A (unwrap_or o (record { object = 0; section = 0; offset = 0 }))) is ∙ there.1)
