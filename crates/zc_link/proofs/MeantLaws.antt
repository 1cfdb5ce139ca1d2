-- What is laid for an item that is one instruction, by what that is made of.
use Rattle.std.proofs.Common.{◌≡◌, ℕ, ℤ, ◌^◌, ◌<◌, Option, Some, None, refl, sym, ap, ◌∙◌, subst}
use Rattle.std.specs.Option.{option_map, option_and_then}
use Rattle.std.proofs.lemmas.Option.{same_Some}
use Rattle.zc_base.specs.declared.place.Place.{Place}
use Rattle.psabi_sym.specs.declared.target.Target.{Target}
use Rattle.rv_decode.specs.Bits.{add32, as_signed}
use Rattle.rv_decode.specs.declared.instr.Instr.{Instr}
use Rattle.block_cut.specs.declared.item.Item.{Item}
use Rattle.sym_machine.specs.AddressParts.{pc_target}
use Rattle.sym_machine.specs.Program.{Program}
use Rattle.zc_link.specs.Image.{Image}
use Rattle.zc_link.specs.Meant.{way_on}
use Rattle.zc_link.specs.Invariants.Stretches.{AloneLaid, OneLaid}
use Rattle.zc_link.specs.Values.{target_value, way}
use Rattle.zc_link.proofs.WayLaws.{way_leads}

-- what a map gives
pub mapped : {X : Type 0} (f : ℕ → X) (o : Option ℕ) (y : X) → option_map f o ≡ Some y → (x : ℕ) × (o ≡ Some x) × (f x ≡ y)
mapped f None y h = absurd cc
mapped f (Some x) y h = (x, refl, same_Some (f x) y h)

-- the two addresses that a distance is taken from and to
pub record WayFound (A : Place → Option ℕ) (items : Place → Option Item) (from : Place) (w : ℕ) : Type 0 where
  pub to : Target
  pub leads : pc_target (items from) ≡ Some to
  pub address : ℕ
  pub listed : A from ≡ Some address
  pub value : ℕ
  pub has : target_value A to ≡ Some value
  pub is : way address value ≡ w

pub way_found : (A : Place → Option ℕ) (items : Place → Option Item) (from : Place) (w : ℕ) → way_on A items from ≡ Some w → WayFound A items from w
way_found A items from w h = by (A from) (pc_target (items from)) refl refl h
  where
    by :
        (o : Option ℕ) (t : Option Target) → A from ≡ o → pc_target (items from) ≡ t
        → option_and_then (λ a. option_map (way a) (option_and_then (target_value A) t)) o ≡ Some w → WayFound A items from w
    by None t at leads g = absurd cc
    by (Some a) None at leads g = absurd cc
    by (Some a) (Some t) at leads g =
        let m = mapped (way a) (target_value A t) w g in
        record { to = t; leads = leads; address = a; listed = at; value = m.0; has = m.1; is = m.2 }

module _ {p : Program} {e : Image} {q : Place} {a : ℕ} {item : Item} (l : OneLaid p e q a item) where
  -- by a number
  pub laid_by : (f : ℕ → Instr) (o : Option ℕ) → option_map f o ≡ Some l.instr → (x : ℕ) × (o ≡ Some x) × AloneLaid p e q a (f x)
  laid_by f o h = let m = mapped f o l.instr h in (m.0, m.1, subst (AloneLaid p e q a) (sym m.2) l.laid)

  -- by a distance
  pub laid_reaching :
      (i : ℤ → Instr) (to : Place) → option_map (λ b. i (as_signed (way a b))) (e.address to) ≡ Some l.instr → a < 2 ^ 32
      → ((b : ℕ) → e.address to ≡ Some b → b < 2 ^ 32) → (d : ℤ) × (e.address to ≡ Some (add32 a d)) × AloneLaid p e q a (i d)
  laid_reaching i to h small all =
      let m = laid_by (λ b. i (as_signed (way a b))) (e.address to) h in
      (as_signed (way a m.0), m.1 ∙ ap Some (sym (way_leads a m.0 small (all m.0 m.1))), m.2)
