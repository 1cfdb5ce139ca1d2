-- What events write, one event after another.
use Rattle.std.proofs.Common.{◌≡◌, ℕ, List, [], ◌∷◌, ◌++◌, ap, ◌∙◌}
use Rattle.std.proofs.lemmas.Grind.{flat_map-append}
use Rattle.std.proofs.lemmas.List.{append-nil}
use Rattle.rv_decode.specs.State.{Event}
use Rattle.rv_decode.specs.EventBytes.{bytes_to, written_to}

-- with one event more, what it writes comes after what the events before it write
pub written_to-more :
    (outputs : List ℕ) (stream : ℕ) (events : List Event) (e : Event)
    → written_to outputs stream (events ++ e ∷ []) ≡ written_to outputs stream events ++ bytes_to outputs stream e
written_to-more outputs stream events e =
    flat_map-append (bytes_to outputs stream) events (e ∷ []) ∙ ap (λ xs. written_to outputs stream events ++ xs) (append-nil (bytes_to outputs stream e))
