use Rattle.std.proofs.Common.{◌≡◌, ◌∙◌, ℕ, List, [], ap, get_or, refl, sym}
use Rattle.std.proofs.lemmas.Option.{get_or_from_slice_get}
use Rattle.elf32_read.specs.Header.{file_flags}
use Rattle.elf32_read.specs.Parts.{object_parts}
use Rattle.psabi_sym.specs.Inputs.{Inputs}
use Rattle.tail_merge.proofs.parts.object_parts.Goals as goal

flags-are : (file : List ℕ) → (object_parts file).flags ≡ file_flags file
unfolding object_parts
flags-are file = refl

pub returns : goal.returns
returns c =
    let inputs = c.objects.result.now in
    let o = c.args.object in
    let read = ap (λ (it : Inputs). get_or it.files o []) (sym c.objects.ensures.same) ∙ get_or_from_slice_get inputs.files o c.object.result [] c.object.ensures in
    let flags = c.flags.ensures ∙ ap file_flags (sym read) ∙ sym (flags-are (get_or c.args.cut.now.files o [])) in
    let sections = c.in_ok-sections.ensures in
    let symbols = c.in_ok-symbols.ensures in
    λ i. record { flags = flags i; sections = sections i; symbols = symbols i }
