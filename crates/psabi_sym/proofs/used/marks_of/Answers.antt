use Rattle.std.proofs.Common.{◌≡◌, ◌<◌, ◌||◌, length, drop, false, get_or, ap, ◌∙◌, arith}
use Rattle.std.proofs.lemmas.List.{get_or-replicate, take_at}
use Rattle.elf32_read.specs.Parts.{object_parts}
use Rattle.elf32_read.specs.Symbols.{symbol_count}
use Rattle.psabi_sym.specs.Faults.{is_used_in}
use Rattle.psabi_sym.proofs.PartLaws.{symbol_count_is}
use Rattle.psabi_sym.proofs.UsedLaws.{marks_are}
use Rattle.psabi_sym.proofs.used.marks_of.Goals as goal

pub returns : goal.returns
returns c =
    let object = object_parts c.args.loaded.now in
    let new = c.mark_object.new.marks in
    let start = c.in_ok-marks.ensures.items_if_clones_equal (λ y e. e) in
    let given : c.deref_mut.result.now ≡ c.in_ok-marks.marks.items = c.deref_mut.ensures.value in
    let same : length new ≡ length c.deref_mut.result.now = c.mark_object.auto.marks in
    let count : length c.in_ok-marks.marks.items ≡ length object.symbols =
    omega (arith, c.in_ok-marks.ensures.len, c.in_ok-marks.marks.ok.0, symbol_count_is c.args.loaded.now, c.symbol_count.ensures, ap symbol_count c.object.ensures.object) in
    take_at new (drop (length new) c.in_ok-marks.marks.items) c.in_ok-marks.marks.len (omega (arith, same, ap length given, c.in_ok-marks.marks.ok.0))
    ∙ marks_are object new (is_used_in object) (omega (arith, same, ap length given, count))
    (λ s within.
    let inside : s < c.symbol_count.result = omega (arith, within, same, ap length given, c.in_ok-marks.ensures.len, c.in_ok-marks.marks.ok.0) in
    c.mark_object.ensures s (omega (arith, within, same))
    ∙ ap (λ b. b || is_used_in object s) (ap (λ l. get_or l s false) (given ∙ start) ∙ get_or-replicate c.symbol_count.result s false false inside))
