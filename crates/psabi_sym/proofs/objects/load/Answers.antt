use Rattle.std.proofs.Common.{◌≡◌, Some, slice_get, ap, sym, ◌∙◌, arith}
use Rattle.std.proofs.lemmas.List.{get_or-map, length-map}
use Rattle.std.proofs.lemmas.Option.{slice_get-get_or}
use Rattle.elf32_read.specs.Object.{object_fault}
use Rattle.psabi_sym.specs.Objects.{contents_of}
use Rattle.psabi_sym.proofs.Gathered.{readable_from}
use Rattle.psabi_sym.proofs.objects.load.Goals as goal

pub new-requires : goal.new-requires
new-requires c =
    let files = c.args.files.now in
    let i = c.loop-file.file-index in
    let file = c.file-item.result in
    let at : slice_get (contents_of files) i ≡ Some file.items =
    slice_get-get_or (contents_of files) i file.items (omega (arith, length-map files (λ f. f.items)))
    ∙ ap Some (get_or-map (λ f. f.items) files i file file.items (omega arith) ∙ ap (λ f. f.items) (sym c.file-item.is)) in
    ap object_fault c.deref.ensures.value ∙ readable_from 0 (contents_of files) i file.items c.requires at
