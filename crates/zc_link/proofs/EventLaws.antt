-- The image's events are those of the program, one by one: what a step adds to the program's, its commits add to the
-- image's.
use Rattle.std.proofs.Common.{◌≡◌, ℕ, List, ◌++◌, map, Option, sym, ap, ◌∙◌}
use Rattle.std.proofs.lemmas.List.{map-append}
use Rattle.zc_base.specs.declared.place.Place.{Place}
use Rattle.rv_decode.specs.State.{Event}
use Rattle.sym_machine.specs.Events.{SymEvent, event_in}

module _ (A : Place → Option ℕ) (xs ys : List SymEvent) (zs : List Event) (same : zs ≡ map (event_in A) xs) where
  -- some are added
  pub events_added : (made : List SymEvent) → ys ≡ xs ++ made → zs ++ map (event_in A) made ≡ map (event_in A) ys
  events_added made told =
      ap (λ l. l ++ map (event_in A) made) same
      ∙ sym (map-append (event_in A) xs made)
      ∙ ap (map (event_in A)) (sym told)

  -- or none
  pub events_kept : ys ≡ xs → zs ≡ map (event_in A) ys
  events_kept told = same ∙ ap (map (event_in A)) (sym told)
