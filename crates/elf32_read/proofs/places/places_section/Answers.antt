use Rattle.std.proofs.Common.{◌≡◌, ℕ, ◌+◌, ◌∷◌, [], ◌++◌, true, false, length, map, refl, sym, ap, ◌∙◌, arith}
use Rattle.std.specs.Prelude.{◌||◌, filter}
use Rattle.std.specs.List.{list_any, range_with_len}
use Rattle.std.specs.Option.{option_to_list}
use Rattle.elf32_read.specs.Header.{section_count, header_of}
use Rattle.elf32_read.specs.Object.{passes_end}
use Rattle.elf32_read.specs.Places.{places_sections}
use Rattle.elf32_read.proofs.Filtered.{count_more, kept_more, kept_same, kept_length}
use Rattle.elf32_read.proofs.Named.{length-option_to_list, option_to_list-none}
use Rattle.elf32_read.proofs.Tests.{holds_places}
use Rattle.elf32_read.proofs.places.places_section.Goals as goal
use Rattle.elf32_read.proofs.places.places_section.Goals.{then-holds_places+else-is_some, else-holds_places}

-- a second section that lists places is found
pub returns-then-is_some : goal.returns-then-is_some
unfolding places_sections
returns-then-is_some c =
    let holds = holds_places c.args.sections.now in
    let header_at = header_of c.args.sections.now in
    let count = section_count c.args.sections.now in
    let i = c.loop-i.i in
    let this : holds (header_at i) ≡ true = sym (c.holds_places.ensures ∙ ap holds c.header-header.ensures.header) ∙ c.if-holds_places.true in
    let kept : ℕ → ℕ = λ n. length (filter holds (map header_at (range_with_len 0 n))) in
    let one : kept i ≡ 1 = ap length c.loop-i.invariant.found ∙ length-option_to_list c.loop-i.found (sym c.is_some.ensures ∙ c.if-is_some.true) in
    (refl, omega (arith, one, count_more holds header_at i this, kept_length holds header_at count (i + 1) (omega arith)))

pub loop-i-preserved : goal.loop-i-preserved
loop-i-preserved c =
    let bytes = c.args.sections.now in
    let holds = holds_places bytes in
    let header_at = header_of bytes in
    let i = c.loop-i.i in
    let test = c.holds_places.ensures ∙ ap holds c.header-header.ensures.header in
    elim c.if-holds_places.branch [
      | then-holds_places+else-is_some w ↦
          let before = c.loop-i.invariant.found ∙ option_to_list-none c.loop-i.found (sym w.is_some.ensures ∙ w.if-is_some.false) in
          record {
            found = kept_more holds header_at i (sym test ∙ w.if-holds_places.true)
                ∙ (λ j. before j ++ (sym c.header-header.ensures.header j ∷ []))
                ∙ sym (ap option_to_list w.found-is);
            whole = ap (λ o. list_any (passes_end bytes) (option_to_list o)) w.found-is ∙ ap (λ b. b || false) c.header-header.ensures.whole;
          }
      | else-holds_places w ↦
          record {
            found = kept_same holds header_at i (sym test ∙ w.if-holds_places.false)
                ∙ c.loop-i.invariant.found ∙ sym (ap option_to_list w.found-is);
            whole = ap (λ o. list_any (passes_end bytes) (option_to_list o)) w.found-is ∙ c.loop-i.invariant.whole;
          }
    ]
