-- Files of objects without what isn't needed run as the given ones do, with their sections renumbered.
use Rattle.std.proofs.Common.{◌≡◌, ℕ, List, length, refl, sym, ap, ◌∙◌, map, Bool, true, false, None}
use Rattle.std.specs.List.{AllZip}
use Rattle.elf32_write.specs.Writable.{IsObjectOf}
use Rattle.psabi_sym.specs.Inputs.{Inputs, parsed}
use Rattle.block_cut.specs.Faults.{first_fault}
use Rattle.block_cut.proofs.FaultLaws.{faultless}
use Rattle.sym_machine.specs.Objects.{program_of}
use Rattle.moved_runs.specs.Moves.{MovesExactly, SameRuns}
use Rattle.moved_runs.specs.Passes.{ArePassed, renumbered, with_files}
use Rattle.object_passes.specs.Written.{without_marks}
use Rattle.object_passes.proofs.ReadBack.{passed-of}
use Rattle.section_gc.specs.Cleaned.{cleaned}
use Rattle.section_gc.specs.Collected.{Collection, IsCollected, IsCollection, IsInNeeded, collected_files, collected_place}
use Rattle.section_gc.specs.Counts.{listed_bytes, needed_code}
use Rattle.section_gc.specs.Kept.{AreNeeded}
use Rattle.section_gc.proofs.CleaningLaws.{cleaning_of, marks-stay}
use Rattle.section_gc.proofs.Closed.{IsClosed}
use Rattle.section_gc.proofs.ClosedLaws.{closed}
use Rattle.section_gc.proofs.Programs.{clean-runs, programs-move}

-- ---- the result

module _ (inputs : Inputs) (needed : ℕ → ℕ → Bool) (files : List (List ℕ)) (none : first_fault inputs ≡ None) (are : AreNeeded (parsed inputs) needed)
    (read : AllZip IsObjectOf (map without_marks (cleaned needed (parsed inputs).objects)) files) where
  pub inputs-clean : ArePassed (cleaning_of inputs needed) (parsed inputs) (parsed (with_files inputs files))
  inputs-clean = passed-of (cleaning_of inputs needed) (λ o i s. marks-stay (needed o i) s) inputs (λ o i. refl) files none read

  pub inputs-closed : IsClosed (parsed inputs) needed
  inputs-closed = let all = faultless inputs none in closed (parsed inputs) all.relocs needed are all.entry all.entry_found

  -- the programs are the same where code is needed
  pub collected-moves : MovesExactly (IsInNeeded needed) (IsInNeeded needed) (collected_place inputs) (program_of (parsed inputs)) (program_of (parsed (with_files inputs files)))
  collected-moves = programs-move needed (renumbered (parsed inputs).objects) (parsed inputs) (parsed (with_files inputs files)) inputs-clean inputs-closed

  -- the runs are the same, stuck ones too
  pub collected-runs : SameRuns (collected_place inputs) (program_of (parsed inputs)) (program_of (parsed (with_files inputs files)))
  collected-runs = clean-runs needed (renumbered (parsed inputs).objects) (parsed inputs) (parsed (with_files inputs files)) inputs-clean inputs-closed

-- ---- what the code owes

-- what is written of each, and has no fault with the others, is what is promised
pub collected : (inputs : Inputs) (needed : ℕ → ℕ → Bool) (files : List (List ℕ)) → first_fault inputs ≡ None → AreNeeded (parsed inputs) needed
    → files ≡ collected_files inputs needed → AllZip IsObjectOf (map without_marks (cleaned needed (parsed inputs).objects)) files
    → first_fault (with_files inputs files) ≡ None → IsCollected inputs needed files
collected inputs needed files none are is read fine = record {
  given_faultless = none;
  are_needed = are;
  files_are = is;
  faultless = fine;
  moves = collected-moves inputs needed files none are read;
  runs = collected-runs inputs needed files none are read;
}

-- what is needed has one answer
pub one-needed : (inputs : Inputs) (a b : ℕ → ℕ → Bool) → AreNeeded (parsed inputs) a → AreNeeded (parsed inputs) b → a ≡ b
one-needed inputs a b are also = λ k. λ o. λ i. by o i (a o i) refl (b o i) refl k
  where
    by : (o i : ℕ) (x : Bool) → a o i ≡ x → (y : Bool) → b o i ≡ y → a o i ≡ b o i
    by o i true e true f = e ∙ sym f
    by o i false e false f = e ∙ sym f
    by o i true e false f = absurd (let h = also.all o i (are.only o i e) in cc)
    by o i false e true f = absurd (let h = are.all o i (also.only o i f) in cc)

-- two collections of the same objects are the same
pub one-result : (inputs : Inputs) (c d : Collection) → IsCollection inputs c → IsCollection inputs d → c ≡ d
one-result inputs c d x y =
    let same = one-needed inputs x.needed y.needed x.collected.are_needed y.collected.are_needed in
    let files = x.collected.files_are ∙ ap (collected_files inputs) same ∙ sym y.collected.files_are in
    let kept = x.kept ∙ ap (λ needed. length (needed_code needed (parsed inputs).objects)) same ∙ sym y.kept in
    let all = x.all ∙ sym y.all in
    let bytes = x.bytes ∙ ap (λ needed. listed_bytes (needed_code needed (parsed inputs).objects)) same ∙ sym y.bytes in
    let from = x.from ∙ sym y.from in
    λ i. record { files = files i; kept = kept i; all = all i; bytes = bytes i; from = from i }
