use Rattle.std.proofs.Common.{◌≡◌, ◌∙◌, ℕ, List, [], ap, drop, get_or, length, map, refl, sym}
use Rattle.std.proofs.lemmas.Option.{get_or_from_slice_get}
use Rattle.elf32_read.specs.Header.{file_flags}
use Rattle.elf32_read.specs.Parts.{object_parts}
use Rattle.psabi_sym.specs.Inputs.{parsed}
use Rattle.section_gc.specs.Cleaned.{cleaned_symbol}
use Rattle.section_gc.specs.Graph.{has_mark}
use Rattle.section_gc.specs.Remains.{remains_in}
use Rattle.section_gc.proofs.PartLaws.{length-remains}
use Rattle.section_gc.proofs.files.parts_of.Goals as goal

flags-are : (file : List ℕ) → (object_parts file).flags ≡ file_flags file
unfolding object_parts
flags-are file = refl

pub section_parts-requires-clause-count : goal.section_parts-requires-clause-count
section_parts-requires-clause-count c =
    let needed = has_mark (parsed c.args.objects.now).objects c.args.marks.now c.args.object in
    ap length (c.deref.ensures.value ∙ c.in_ok-table.ensures) ∙ length-remains needed (object_parts (get_or c.args.objects.now.files c.args.object []))

pub returns : goal.returns
returns c =
    let file = get_or c.args.objects.now.files c.args.object [] in
    let needed = has_mark (parsed c.args.objects.now).objects c.args.marks.now c.args.object in
    let same = get_or_from_slice_get c.args.objects.now.files c.args.object c.object-given.result [] c.object-given.ensures in
    let flags = c.flags.ensures ∙ ap file_flags (sym same) ∙ sym (flags-are file) in
    let sections = c.in_ok-sections.ensures needed (c.deref.ensures.value ∙ c.in_ok-table.ensures) in
    let table = c.deref-2.ensures.value ∙ c.in_ok-table.ensures ∙ ap (λ f. remains_in needed (object_parts f)) same in
    let symbols = c.in_ok-symbols.ensures needed table
    ∙ ap (λ f. map (cleaned_symbol needed (object_parts f)) (drop 1 (object_parts f).symbols)) (sym same) in
    λ i. record { flags = flags i; sections = sections i; symbols = symbols i }
