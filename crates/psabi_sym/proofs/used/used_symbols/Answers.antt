use Rattle.std.proofs.Common.{◌≡◌, ◌<◌, ◌++◌, length, map, take, drop, ap, sym, ◌∙◌, arith, Some, slice_get, ◌-◌}
use Rattle.std.proofs.lemmas.List.{get_or-map, take_rest, length-map, map-append}
use Rattle.std.proofs.lemmas.Option.{slice_get-get_or}
use Rattle.elf32_read.specs.Parts.{object_parts}
use Rattle.psabi_sym.specs.Faults.{is_used}
use Rattle.psabi_sym.specs.Indexed.{all_symbols, symbols_in}
use Rattle.psabi_sym.proofs.FlatLaws.{length-parsed, parsed_more, symbols_push}
use Rattle.psabi_sym.proofs.UsedLaws.{drop_first, used_in}
use Rattle.psabi_sym.proofs.used.used_symbols.Goals as goal

pub loop-object-init : goal.loop-object-init
unfolding all_symbols
loop-object-init c = c.new-used.ensures.items

pub loop-object-preserved : goal.loop-object-preserved
loop-object-preserved c =
    let files = c.args.objects.now in
    let i = c.loop-object.object-index in
    let file = c.object-item.result in
    let all = map object_parts files in
    let object = object_parts file in
    let within : i < length files = omega arith in
    let more = parsed_more object_parts files i file within c.object-item.is in
    let index : length (take i all) ≡ i = length-parsed object_parts files i (omega arith) in
    let at : slice_get all i ≡ Some object =
    slice_get-get_or all i object (omega (arith, within, length-map files object_parts))
    ∙ ap Some (get_or-map object_parts files i file object within ∙ ap object_parts (sym c.object-item.is)) in
    let marks = c.deref.result.now in
    let rest : take (length marks - c.min.result) (drop c.min.result marks) ≡ drop 1 marks =
    take_rest marks c.min.result ∙ drop_first marks c.min.result (omega (arith, c.min.ensures, c.len.ensures, c.in_ok-marks.marks.ok.0, ap length c.deref.ensures.value)) in
    let new : drop 1 marks ≡ map (is_used all) (symbols_in (i, object)) = ap (drop 1) (c.deref.ensures.value ∙ c.in_ok-marks.ensures) ∙ used_in all i object at in
    c.in_ok-extend_from_slice.ensures.items
    ∙ (λ j. c.loop-object.invariant j ++ (rest ∙ new ∙ ap (λ n. map (is_used all) (symbols_in (n, object))) (sym index)) j)
    ∙ sym (map-append (is_used all) (all_symbols (take i all)) (symbols_in (length (take i all), object)))
    ∙ ap (map (is_used all)) (sym (symbols_push (take i all) object) ∙ ap all_symbols (sym more))
