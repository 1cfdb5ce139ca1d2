-- Certificates, and which ones the checker accepts.
use Rattle.std.specs.Prelude.{◌≡◌, ℕ, ◌+◌, Bool, ◌&&◌, ◌==◌, nat_le, List, length}
use Rattle.std.specs.List.{list_all}
use Rattle.pick_check.specs.declared.saving.Saving.{Saving}
use Rattle.pick_check.specs.Best.{IsAssignment, Saves}
use Rattle.pick_check.specs.Bound.{bound_of}
use Rattle.pick_check.specs.Saved.{cost_of, saved_of}

-- a certificate without its savings: slots, three prices, and the net that it claims
pub record Certified : Type 0 where
  pub slots : List ℕ
  pub prices : List ℕ
  pub net : ℕ

-- a certificate is accepted: its net is what the slots save, and is the bound by the prices
pub record IsAccepted (savings : List Saving) (c : Certified) : Type 0 where
  pub assignment : IsAssignment savings c.slots
  pub saves : Saves savings c.slots c.net
  pub bound : c.net ≡ bound_of savings c.prices

-- the test that decides whether a certificate is accepted
unfoldable pub is_accepted : List Saving → Certified → Bool
is_accepted savings c =
    nat_le (length c.slots) 256 && list_all (λ slot. nat_le slot (length savings)) c.slots
    && saved_of savings c.slots == c.net + cost_of c.slots && c.net == bound_of savings c.prices
