use Rattle.std.proofs.Common.{◌≡◌, sym, ap, ◌∙◌, map, arith}
use Rattle.std.specs.Prelude.{filter, not, ◌==◌}
use Rattle.std.specs.List.{flat_map, range_with_len}
use Rattle.std.proofs.lemmas.Bool.{and_left}
use Rattle.elf32_read.specs.Header.{content_of, header_of, section_count}
use Rattle.elf32_read.specs.Places.{entries_of, places_sections}
use Rattle.elf32_read.proofs.Tests.{holds_places}
use Rattle.elf32_read.proofs.places.places_in.Goals as goal

-- the file has no sections
pub returns-then-count-eq0 : goal.returns-then-count-eq0
unfolding places_sections
returns-then-count-eq0 c =
    let bytes = c.args.sections.now in
    let none : section_count bytes ≡ 0 = sym c.count.ensures.count ∙ c.if-count-eq0.true in (
      and_left (not (section_count bytes == 0)) _ (ap (λ n. not (n == 0)) none),
      omega arith,
      sym (ap (λ n. flat_map (λ header. entries_of (content_of bytes header)) (filter (holds_places bytes) (map (header_of bytes) (range_with_len 0 n)))) none),
    )
