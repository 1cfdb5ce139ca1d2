-- Data has no relocation that strays; of code it is known by its numbers where items start.
use Rattle.std.proofs.Common.{◌≡◌, IfSome, [], cond, is_none, map, true, false, sym, ap, subst, ◌∙◌}
use Rattle.std.specs.Prelude.{◌&&◌}
use Rattle.elf32_read.specs.Parts.{is_code_section}
use Rattle.psabi_sym.specs.Inputs.{parsed}
use Rattle.block_cut.specs.Invariants.HalfwordTables.{by_halfword, number_on, numbers_of_section}
use Rattle.block_cut.specs.Resolved.{placed_reloc, placed_relocs}
use Rattle.block_cut.proofs.StrayLaws.{placed_data, placed_either}
use Rattle.block_cut.proofs.WordLaws.{code_here}
use Rattle.block_cut.proofs.reloc_targets.relocs_left.Goals as goal

pub returns-then-not-is_code : goal.returns-then-not-is_code
returns-then-not-is_code c =
    let inputs = parsed c.args.objects.now in
    let l = c.args.section.now in
    let other : is_code_section l.section ≡ false = sym c.is_code.ensures ∙ c.if-not-is_code.true in
    c.in_ok-data.ensures ∙ sym (placed_data inputs l other) ∙ sym (ap (λ b. cond (b && is_none c.args.numbers) [] (placed_relocs inputs l)) other)

pub returns : goal.returns
returns c =
    let inputs = parsed c.args.objects.now in
    let l = c.args.section.now in
    let s = l.section in
    let code : is_code_section s ≡ true = sym c.is_code.ensures ∙ c.if-not-is_code.false in
    let here = code_here c.args.objects.now l.object l.index s c.requires.gathered c.requires.section code in
    let own = subst (λ o. IfSome o (λ ns. ns.now ≡ numbers_of_section s)) c.in-Some.is c.requires.numbers in
    c.in_ok-placed.ensures s code here.whole (own ∙ ap (λ b. cond b (by_halfword (number_on s) s) []) code)
    ∙ (λ j. cond (c.is_compressed-compressed.ensures j) (map (placed_reloc s) (c.in_ok-relocs.ensures j)) (c.in_ok-relocs.ensures j))
    ∙ placed_either inputs l code here.whole ∙ sym (λ j. cond (code j && ap is_none c.in-Some.is j) [] (placed_relocs inputs l))
