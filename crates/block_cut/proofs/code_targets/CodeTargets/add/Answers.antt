use Rattle.std.proofs.Common.{◌||◌, ap, get_or, sym, ◌∙◌, arith}
use Rattle.std.specs.List.{list_any}
use Rattle.std.proofs.lemmas.List.{take_all}
use Rattle.std.proofs.lemmas.Option.{slice_get-get_or}
use Rattle.psabi_sym.specs.Inputs.{parsed}
use Rattle.block_cut.specs.Invariants.CodeTargets.{code_leads, is_wrong, is_wrong_code}
use Rattle.block_cut.specs.Leaders.{is_place}
use Rattle.psabi_sym.proofs.UsedLaws.{any_next}
use Rattle.std.proofs.Math.Bool.{or-false, or_assoc}
use Rattle.block_cut.proofs.LedLaws.{adds_all, adds_next, adds_none}
use Rattle.block_cut.proofs.RelocTargetLaws.{any_pushed}
use Rattle.block_cut.proofs.ResolvedLaws.{no_reloc}
use Rattle.block_cut.proofs.code_targets.CodeTargets.add.Goals as goal

pub loop-reloc-init : goal.loop-reloc-init
loop-reloc-init c = record {
  leaders = adds_none (parsed c.args.objects.now).objects c.args.self.now.leaders;
  wrong = sym (or-false c.args.self.now.has_wrong);
}

pub loop-reloc-preserved : goal.loop-reloc-preserved
loop-reloc-preserved c =
    let relocs = c.args.relocs.now in
    let k = c.loop-reloc.reloc-index in
    let at = slice_get-get_or relocs k no_reloc (omega arith) in
    record {
      leaders = adds_next (parsed c.args.objects.now).objects (λ q d. is_place q d.target) relocs k (get_or relocs k no_reloc) c.args.self.now.leaders c.loop-reloc.self.leaders c.add_reloc.new.leaders
          at c.loop-reloc.invariant.leaders c.in_ok-add_reloc.ensures;
      wrong = (λ j. c.loop-reloc.invariant.wrong j || c.is_wrong.ensures j)
          ∙ or_assoc c.args.self.now.has_wrong _ _ ∙ ap (λ b. c.args.self.now.has_wrong || b) (sym (any_next is_wrong relocs k (get_or relocs k no_reloc) at));
    }

pub returns : goal.returns
returns c = λ sections l relocs are.
    let inputs = parsed c.args.objects.now in
    let all = c.args.relocs.now in
    let k = c.loop-reloc.reloc-index in
    let led = adds_all inputs.objects (λ q d. is_place q d.target) all k c.args.self.now.leaders c.loop-reloc.self.leaders (omega arith) c.loop-reloc.invariant.leaders in
    record {
      leaders_are = λ q. led q ∙ (λ j. are.leaders_are q j || list_any (λ d. is_place q d.target) (relocs j)) ∙ any_pushed (code_leads inputs q) sections l;
      wrong_is = c.loop-reloc.invariant.wrong ∙ (λ j. are.wrong_is j || list_any is_wrong ((take_all k all (omega arith) ∙ relocs) j)) ∙ any_pushed (is_wrong_code inputs) sections l;
    }
