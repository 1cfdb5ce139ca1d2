-- The table has it, since an item starts there or the section ends there.
use Rattle.std.proofs.Common.{◌≡◌, ℕ, ◌/◌, ◌%◌, ◌≤◌, Bool, true, false, length, get_or, eqb, refl, sym, ap, ◌∙◌, arith}
use Rattle.std.specs.Prelude.{◌||◌}
use Rattle.std.specs.List.{find}
use Rattle.std.proofs.lemmas.Bool.{eqb-true}
use Rattle.std.proofs.lemmas.Option.{get_or_from_slice_get, slice_get-get_or}
use Rattle.elf32_read.specs.Parts.{SectionParts, is_code_section}
use Rattle.block_cut.specs.Invariants.CodeSection.{ResolvedSection}
use Rattle.block_cut.specs.Invariants.HalfwordTables.{numbered}
use Rattle.block_cut.specs.Items.{starts_on}
use Rattle.block_cut.specs.Resolved.{is_right_at}
use Rattle.block_cut.specs.Whole.{IsWhole}
use Rattle.block_cut.proofs.StartLaws.{start_is}
use Rattle.block_cut.proofs.TextLaws.{reloc_found}
use Rattle.block_cut.proofs.CodeSizeLaws.{step_even}
use Rattle.block_cut.proofs.code_section.CodeSection.reloc_at.Goals as goal

-- it lies inside, or at the end
inside : (s : SectionParts) → is_code_section s ≡ true → IsWhole s → (n : ℕ) (b : Bool) → starts_on s n ≡ b → (b || eqb n (length s.bytes)) ≡ true → (n ≤ length s.bytes) × (n % 2 ≡ 0)
inside s code whole n true start is = let own = start_is s code whole n start in (omega (arith, own.inside), step_even s.compressed n own.words)
inside s code whole n false other is =
    let ends = eqb-true n (length s.bytes) is in
    (omega (arith, ends), ap (λ m. m % 2) ends ∙ step_even s.compressed (length s.bytes) whole.words)

pub returns : goal.returns
returns c =
    let n = c.args.at in
    let is = c.self.invariant in
    let target = ap (λ (x : ResolvedSection). starts_on x.section.section n || eqb n (length x.section.section.bytes)) c.self.view_is ∙ c.requires in
    let lies = inside _ is.is_code is.whole n _ refl target in
    let numbers = c.self.inside.reloc_numbers.items in
    let number = c.index.ensures ∙ sym (get_or_from_slice_get numbers (n / 2) (get_or numbers (n / 2) c.index.result.now) 0 (slice_get-get_or numbers (n / 2) c.index.result.now (omega (arith, lies.0, is.relocs_are.count_is)))) in
    c.numbered.ensures ∙ (λ j. numbered (c.deref.ensures.value j) (number j)) ∙ reloc_found _ _ _ n is.relocs_are lies.1 (omega (arith, lies.0)) ∙ ap (λ (x : ResolvedSection). find (is_right_at n) x.relocs) c.self.view_is
