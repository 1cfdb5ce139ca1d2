-- The address of a place is that of its piece.
use Rattle.std.proofs.Common.{◌≡◌, ℕ, Some, slice_index, sym, ap, ◌∙◌}
use Rattle.psabi_sym.specs.Inputs.{parsed}
use Rattle.shrink_layout.specs.Settled.{settled_addresses}
use Rattle.shrink_layout.proofs.PlaceAddressLaws.{address_listed, address_there}
use Rattle.shrink_layout.proofs.RolePlaces.{listed_target}
use Rattle.shrink_layout.proofs.settled.Settled.address_at.Goals as goal

some_same : (m n : ℕ) → Some m ≡ Some n → m ≡ n
some_same m n is = cc

pub returns : goal.returns
returns c = λ q a is has.
    let inputs = parsed c.args.self.now.inputs in
    let slots = c.args.self.now.slots in
    let listed = address_listed inputs slots q a is in
    let number = c.piece_at.ensures.known q (listed_target inputs q listed) has in
    let address = c.piece_address.ensures ∙ ap (slice_index (settled_addresses inputs slots)) number in
    some_same _ a (ap Some address ∙ sym (address_there inputs slots q listed) ∙ is)
