use Rattle.std.proofs.Common.{◌∙◌, ◌∷◌, ◌++◌, ◌<◌, [], Bool, None, Option, Some, ap, arith, cond, get_or, sym, ℕ}
use Rattle.std.specs.Option.{option_map_or}
use Rattle.std.proofs.lemmas.Option.{get_or_from_slice_get, slice_get-get_or, slice_get_within}
use Rattle.elf32_read.specs.Header.{section_count}
use Rattle.elf32_read.specs.Parts.{SectionParts, is_kept_section, object_parts, section_parts}
use Rattle.elf32_read.proofs.PartsLaws.{length-sections, section_at}
use Rattle.psabi_sym.specs.Indexed.{IndexedSection, all_sections}
use Rattle.psabi_sym.specs.Inputs.{parsed}
use Rattle.block_cut.proofs.WholeLaws.{section_there}
use Rattle.tail_merge.proofs.SymbolTurns.{number-next, numbers-turn, numbers-whole}
use Rattle.tail_merge.proofs.symbols.kept_numbers.Goals as goal
use Rattle.tail_merge.proofs.symbols.kept_numbers.Goals.{then-is_kept+in_ok-push, else-is_kept+in_ok-push-2}

pub unreachable-requires : goal.unreachable-requires
unreachable-requires c =
    let files = c.args.objects.now.files in
    let file = get_or files c.args.object [] in
    let same = get_or_from_slice_get files c.args.object c.object.result [] c.object.ensures in
    let within : c.loop-i.i < section_count file = omega (arith, c.loop-i-test.true, c.section_count-i-end.ensures.count, ap section_count same) in
    let there = section_there c.args.objects.now c.args.object c.loop-i.i file (slice_get-get_or files c.args.object [] c.requires) within in
    let none = c.in_default.ensures in
    absurd (cc (none, there))

pub section-requires : goal.section-requires
section-requires c = slice_get_within (all_sections (parsed c.args.objects.now).objects) c.in-Some.k _ c.in-Some.ensures.2

pub loop-i-preserved : goal.loop-i-preserved
loop-i-preserved c =
    let files = c.args.objects.now.files in
    let file = get_or files c.args.object [] in
    let ss = (object_parts file).sections in
    let i = c.loop-i.i in
    let number = c.loop-i.next in
    let old = c.loop-i.numbers.items in
    let s = section_parts file i in
    let same = get_or_from_slice_get files c.args.object c.object.result [] c.object.ensures in
    let within : i < section_count file = omega (arith, c.loop-i-test.true, c.section_count-i-end.ensures.count, ap section_count same) in
    let there = section_there c.args.objects.now c.args.object i file (slice_get-get_or files c.args.object [] c.requires) within in
    let here = section_at file i within in
    let own = ap (λ (x : Option IndexedSection). option_map_or (λ (l : IndexedSection). l.section) x s) (sym c.section.ensures ∙ c.in-Some.ensures.2)
    ∙ ap (λ (x : Option SectionParts). option_map_or (λ (t : SectionParts). t) x s) (sym c.in-Some.ensures.1 ∙ there) in
    let kept = sym (c.is_kept.ensures ∙ ap is_kept_section own) in
    let turn = numbers-turn ss i number s old here c.loop-i.invariant.next c.loop-i.invariant.numbers in
    let next = number-next ss i number s here c.loop-i.invariant.next in
    elim c.if-is_kept.branch [
      | then-is_kept+in_ok-push w ↦ record {
        numbers = ap (λ v. v.items) w.numbers-is ∙ w.in_ok-push.ensures.items ∙ ap (λ b. old ++ cond b (Some number) None ∷ []) (sym (kept ∙ w.if-is_kept.true)) ∙ turn;
        next = omega (arith, w.next-is, next, ap {B = ℕ} (λ (b : Bool). cond b 1 0) (kept ∙ w.if-is_kept.true));
        few = omega (arith, w.next-is, c.loop-i.invariant.few);
      }
      | else-is_kept+in_ok-push-2 w ↦ record {
        numbers = ap (λ v. v.items) w.numbers-is ∙ w.in_ok-push-2.ensures.items ∙ ap (λ b. old ++ cond b (Some number) None ∷ []) (sym (kept ∙ w.if-is_kept.false)) ∙ turn;
        next = omega (arith, w.next-is, next, ap {B = ℕ} (λ (b : Bool). cond b 1 0) (kept ∙ w.if-is_kept.false));
        few = omega (arith, w.next-is, c.loop-i.invariant.few);
      }
    ]

pub returns : goal.returns
returns c =
    let files = c.args.objects.now.files in
    let file = get_or files c.args.object [] in
    let same = get_or_from_slice_get files c.args.object c.object.result [] c.object.ensures in
    numbers-whole (object_parts file).sections c.loop-i.i c.loop-i.numbers.items
    (omega (arith, c.loop-i-test.false, c.section_count-i-end.ensures.count, ap section_count same, length-sections file)) c.loop-i.invariant.numbers
