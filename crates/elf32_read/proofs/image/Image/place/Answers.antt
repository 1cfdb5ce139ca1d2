use Rattle.std.proofs.Common.{◌<◌, ◌/◌, length, Some, sym, ap, ◌∙◌, arith}
use Rattle.std.specs.Prelude.{slice_get}
use Rattle.elf32_read.specs.Places.{place_list}
use Rattle.elf32_read.proofs.Entries.{length-entries_of, slice_get-entries_of}
use Rattle.elf32_read.proofs.image.Image.place.Goals as goal

pub entry-requires : goal.entry-requires
entry-requires c =
    let count = sym (length-entries_of c.self.inside.entries.now) ∙ ap length c.self.invariant.places_read ∙ ap (λ value. length (place_list value.0)) c.self.view_is in
    omega (arith, count, c.requires)

pub returns : goal.returns
returns c =
    let entries = c.self.inside.entries.now in
    let i = c.args.i in
    let same = c.self.invariant.places_read ∙ ap (λ value. place_list value.0) c.self.view_is in
    let inside : i < length entries / 12 = omega (arith, sym (length-entries_of entries) ∙ ap length same, c.requires) in
    ap (λ l. slice_get l i) (sym same) ∙ slice_get-entries_of entries i inside ∙ ap Some (sym c.entry.ensures)
