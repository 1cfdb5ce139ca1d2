-- One write after the events before it.
use Rattle.std.proofs.Common.{ℕ, List, [], ◌∷◌, ◌++◌}
use Rattle.rv_decode.specs.State.{Event}
use Rattle.rv_decode.specs.EventBytes.{bytes_to, written_to}
use Rattle.rv_decode.proofs.EventLaws.{written_to-more}
use Rattle.zc_outside.specs.Desk.{Desk, Wrote}
use Rattle.zc_outside.proofs.Desk.{Wrote-append}

pub Wrote-event :
    (outputs : List ℕ) (events : List Event) (e : Event) (a b c : Desk) → Wrote (written_to outputs 1 events) (written_to outputs 2 events) a b → Wrote (bytes_to outputs 1 e) (bytes_to outputs 2 e) b c
    → Wrote (written_to outputs 1 (events ++ e ∷ [])) (written_to outputs 2 (events ++ e ∷ [])) a c
Wrote-event outputs events e a b c before more = rw (written_to-more outputs 1 events e, written_to-more outputs 2 events e) (Wrote-append before more)
