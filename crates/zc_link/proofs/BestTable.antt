-- The table of an accepted certificate: its slots lead to places that images list (`slots_led`), and behind it the layout is the shortest, and
-- shorter than without the table by the net (`shortest`). Without Zcmt nothing can be saved, so the certificate has no slots
-- (`table_needs`).
use Rattle.std.proofs.Common.{IsTrue, ◌≡◌, ◌%◌, ◌+◌, ◌≤◌, ◌⊎◌, inl, inr, ℕ, Bool, true, false, cond, List, [], ◌∷◌, Option, None, refl, sym, ap, subst, arith}
use Rattle.std.proofs.lemmas.List.Elements.{All-nil}
use Rattle.zc_base.specs.MemMap.{IsMap}
use Rattle.zc_base.specs.declared.place.Place.{Place}
use Rattle.pick_check.specs.Certified.{Certified, IsAccepted}
use Rattle.pick_check.specs.Saved.{cost_of}
use Rattle.pick_check.specs.declared.saving.Saving.{Saving}
use Rattle.psabi_sym.specs.Faults.{gather_fault}
use Rattle.psabi_sym.specs.Inputs.{Inputs, ParsedInputs, parsed}
use Rattle.block_cut.specs.Faults.{first_fault}
use Rattle.jumptable_pick.specs.Slots.{slot_place, slot_places}
use Rattle.shrink_layout.specs.Pieces.{is_unaligned, pieces_of}
use Rattle.shrink_layout.specs.Savings.{savings_of, table_savings}
use Rattle.shrink_layout.specs.Settled.{settled_end, settled_sizes}
use Rattle.shrink_layout.specs.Units.{AreTargetSlots, IsTargetSlot}
use Rattle.shrink_layout.proofs.FixedSections.{kept_sections}
use Rattle.shrink_layout.proofs.GroupedSites.{AreSlotPlaces}
use Rattle.shrink_layout.proofs.PremiseLaws.{all_even, all_tight, targets}
use Rattle.shrink_layout.proofs.SavedLaws.{net_paid, target_slots}
use Rattle.shrink_layout.proofs.SizesLaws.{sizes_layout, sizes_least}
use Rattle.shrink_layout.proofs.TableLaws.{table_pays_off}
use Rattle.shrink_layout.specs.Table.{TablePays}
use Rattle.zc_link.specs.Links.{IsShortest}
use Rattle.zc_link.proofs.Standing.{gathered}

-- where nothing can be saved, a table that is accepted has no slots, and saves nothing
record IsBare (c : Certified) : Type 0 where
  pub slots : c.slots ≡ []
  pub net : c.net ≡ 0

bare : (c : Certified) → IsAccepted [] c → IsBare c
bare c accepted = by c.slots refl accepted.saves
  where
    by : (slots : List ℕ) → c.slots ≡ slots → 0 ≡ c.net + cost_of slots → IsBare c
    by [] is saves = record { slots = is; net = omega (arith, saves) }
    by (s ∷ ss) is saves = absurd (omega (arith, saves))

module _ (inputs : Inputs) (faultless : first_fault inputs ≡ None) (c : Certified) where
  abbrev p : ParsedInputs
  p = parsed inputs

  abbrev none : gather_fault inputs ≡ None
  none = gathered inputs faultless

  -- what could be saved, by whether the chip has Zcmt
  abbrev savings : Bool → List Saving
  savings b = cond b (savings_of p) []

  abbrev slots : Bool → List (Option Place)
  slots b = slot_places (savings b) c.slots

  -- a slot leads to the target of its saving
  places_are : AreSlotPlaces (savings_of p) (slot_place (savings_of p))
  places_are = record { hole = refl; target = λ k. refl }

  no_slots : IsAccepted [] c → slots false ≡ []
  no_slots accepted = ap (slot_places []) (bare c accepted).slots

  -- which images list
  led : (b : Bool) → IsAccepted (savings b) c → AreTargetSlots p (slots b)
  led true accepted = target_slots inputs none (slot_place (savings_of p)) places_are c.slots accepted.assignment
  led false accepted = subst (AreTargetSlots p) (sym (no_slots accepted)) (record { few = omega arith; each = All-nil (IsTargetSlot p) })

  -- the layout behind it
  laid_shortest : (b : Bool) → IsAccepted (savings b) c → IsMap inputs.map → IsShortest inputs (slots b) c.net
  unfolding settled_sizes
  laid_shortest b accepted is_map =
      let page = is_map.text_page in
      let even : inputs.map.text % 2 ≡ 0 = omega (arith, page) in
      let pays : IsTrue (is_unaligned p) → TablePays p (slots b) = λ unaligned. table_pays_off inputs faultless (slots b) unaligned even in
      record {
        laid = record {
          layout = sizes_layout inputs.map.text (pieces_of p (slots b));
          least = λ unaligned. sizes_least inputs.map.text (pieces_of p (slots b)) even (all_even inputs none (slots b)) (all_tight p (slots b) unaligned) (targets inputs none (slots b));
          pays = pays;
          kept = kept_sections inputs faultless (slots b);
        };
        saves = λ unaligned. saves b accepted (pays unaligned);
      }
    where
      saves : (b : Bool) → IsAccepted (savings b) c → TablePays p (slots b) → settled_end p (slots b) + c.net ≤ settled_end p []
      saves true accepted pays = net_paid inputs none (slot_place (savings_of p)) places_are c.slots c.net accepted.saves pays
      saves false accepted pays = omega (arith, ap (settled_end p) (no_slots accepted), (bare c accepted).net)

  needs : (b : Bool) → inputs.map.extensions.zcmt ≡ b → IsAccepted (savings b) c → (slots b ≡ []) ⊎ (inputs.map.extensions.zcmt ≡ true)
  needs true is accepted = inr is
  needs false is accepted = inl (no_slots accepted)

  module _ (accepted : IsAccepted (table_savings p) c) where
    pub slots_led : AreTargetSlots p (slot_places (table_savings p) c.slots)
    slots_led = led inputs.map.extensions.zcmt accepted

    pub shortest : IsMap inputs.map → IsShortest inputs (slot_places (table_savings p) c.slots) c.net
    shortest = laid_shortest inputs.map.extensions.zcmt accepted

    pub table_needs : (slot_places (table_savings p) c.slots ≡ []) ⊎ (inputs.map.extensions.zcmt ≡ true)
    table_needs = needs inputs.map.extensions.zcmt refl accepted
