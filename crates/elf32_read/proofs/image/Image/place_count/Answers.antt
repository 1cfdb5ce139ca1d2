use Rattle.std.proofs.Common.{length, sym, ap, ◌∙◌, arith}
use Rattle.elf32_read.specs.Places.{place_list}
use Rattle.elf32_read.proofs.Entries.{length-entries_of}
use Rattle.elf32_read.proofs.FaultlessImage.{faultless_whole_image}
use Rattle.elf32_read.proofs.image.Image.place_count.Goals as goal

pub overflow_cast-result : goal.overflow_cast-result
overflow_cast-result c = let whole = faultless_whole_image _ _ c.self.invariant.faultless in omega (arith, whole.small, c.self.invariant.entries_within)

pub returns : goal.returns
returns c =
    sym (length-entries_of c.self.inside.entries.now) ∙ ap length c.self.invariant.places_read ∙ ap (λ value. length (place_list value.0)) c.self.view_is
