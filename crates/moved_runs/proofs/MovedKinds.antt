-- Items under a map of places, by what decides them: what is copied unread names no place, and an item with a relocation names what
-- its target does.
use Rattle.std.proofs.Common.{◌≡◌, ℕ, ◌+◌, ℤ, List, Bool, true, false, cond, eqb, Option, Some, None, refl}
use Rattle.std.specs.Option.{option_map, option_map_or}
use Rattle.zc_base.specs.Fields.{half_in, word_in}
use Rattle.zc_base.specs.declared.place.Place.{Place}
use Rattle.psabi_sym.specs.declared.target.Target.{Target}
use Rattle.psabi_sym.specs.declared.target.Target.TheVariants as target
use Rattle.psabi_reloc.specs.declared.kind.RelocKind.{RelocKind}
use Rattle.psabi_reloc.specs.declared.kind.RelocKind.TheVariants as kind
use Rattle.rv_decode.specs.declared.instr.Instr.{Instr}
use Rattle.rv_decode.specs.declared.instr.Instr.TheVariants as instr
use Rattle.block_cut.specs.Items.{call_item, known_item, raw_in, raw_pair, to_place, transfer_item, transfer_under}
use Rattle.block_cut.specs.Relocs.{instr_in}
use Rattle.block_cut.specs.declared.item.Item.{Item}
use Rattle.block_cut.specs.declared.item.Item.TheVariants as item
use Rattle.moved_runs.specs.Moved.{moved_item, moved_target}

-- the item of an instruction, or what else is there
abbrev pub of_instr : Option Instr → Item → (Instr → Item) → Item
of_instr i raw f = option_map_or f i raw

module _ (M : Place → Place) where
  -- what is copied unread names no place
  abbrev pub IsUnread : Item → Type 0
  IsUnread i = i ≡ moved_item M i

  pub raw-unread : (size : ℕ) (bytes : List ℕ) (n : ℕ) → IsUnread (raw_in size bytes n)
  raw-unread size bytes n = by (eqb size 2)
    where
      by : (b : Bool) → cond b (item.RawShort (half_in bytes n)) (item.Raw (word_in bytes n)) ≡ moved_item M (cond b (item.RawShort (half_in bytes n)) (item.Raw (word_in bytes n)))
      by true = refl
      by false = refl

  pub goes-moved : (f : Place → Item) → ((p : Place) → f (M p) ≡ moved_item M (f p)) → (o : Option Place) (raw : Item) → IsUnread raw → option_map_or f (option_map M o) raw ≡ moved_item M (option_map_or f o raw)
  goes-moved f same None raw u = u
  goes-moved f same (Some p) raw u = same p

  of-moved : (i : Option Instr) (raw : Item) (f g : Instr → Item) → IsUnread raw → ((i : Instr) → f i ≡ moved_item M (g i)) → of_instr i raw f ≡ moved_item M (of_instr i raw g)
  of-moved None raw f g u same = u
  of-moved (Some i) raw f g u same = same i

  to-moved : (t : Target) (f : Place → Item) (other : Item) → ((p : Place) → f (M p) ≡ moved_item M (f p)) → other ≡ moved_item M other → to_place (moved_target M t) f other ≡ moved_item M (to_place t f other)
  to-moved (target.Code q) f other same rest = same q
  to-moved (target.Number n) f other same rest = rest
  to-moved (target.Absent n) f other same rest = rest
  to-moved target.Nowhere f other same rest = rest

  call-moved : (first second : Option Instr) (other : Item) (p : Place) → other ≡ moved_item M other → call_item first second other (M p) ≡ moved_item M (call_item first second other p)
  call-moved (Some (instr.Upper op temp upper)) (Some (instr.Jalr rd base lower)) other p rest = refl
  call-moved first second other p rest = rest

  transfer-moved : (i : Instr) (raw : Item) (p : Place) → IsUnread raw → transfer_item i raw (M p) ≡ moved_item M (transfer_item i raw p)
  transfer-moved (instr.Branch op first second d) raw p u = refl
  transfer-moved (instr.Jal rd d) raw p u = refl
  transfer-moved i raw p u = u

  under-moved : (size : ℕ) (t : Target) (bytes : List ℕ) (n : ℕ) → transfer_under size (moved_target M t) bytes n ≡ moved_item M (transfer_under size t bytes n)
  under-moved size t bytes n =
      let raw = raw_in size bytes n in
      let u = raw-unread size bytes n in
      of-moved (instr_in size bytes n) raw (λ i. to_place (moved_target M t) (transfer_item i raw) raw) (λ i. to_place t (transfer_item i raw) raw) u (λ i. to-moved t (transfer_item i raw) raw (λ p. transfer-moved i raw p u) u)

  low-unread : (t : Target) (bytes : List ℕ) (n : ℕ) → of_instr (instr_in 4 bytes n) (raw_in 4 bytes n) (λ i. to_place (moved_target M t) (item.PcLo i) (raw_in 4 bytes n)) ≡ moved_item M (of_instr (instr_in 4 bytes n) (raw_in 4 bytes n) (λ i. to_place t (item.PcLo i) (raw_in 4 bytes n)))
  low-unread t bytes n = of-moved (instr_in 4 bytes n) (raw_in 4 bytes n) (λ i. to_place (moved_target M t) (item.PcLo i) (raw_in 4 bytes n)) (λ i. to_place t (item.PcLo i) (raw_in 4 bytes n)) refl (λ i. to-moved t (item.PcLo i) (raw_in 4 bytes n) (λ p. refl) refl)

  with-moved : (f : Instr → Target → Item) (t : Target) (bytes : List ℕ) (n : ℕ) → ((i : Instr) → f i (moved_target M t) ≡ moved_item M (f i t)) → of_instr (instr_in 4 bytes n) (raw_in 4 bytes n) (λ i. f i (moved_target M t)) ≡ moved_item M (of_instr (instr_in 4 bytes n) (raw_in 4 bytes n) (λ i. f i t))
  with-moved f t bytes n same = of-moved (instr_in 4 bytes n) (raw_in 4 bytes n) (λ i. f i (moved_target M t)) (λ i. f i t) refl same

  pub known-moved : (k : Option RelocKind) (addend : ℤ) (t : Target) (bytes : List ℕ) (n : ℕ) → known_item k addend (moved_target M t) bytes n ≡ moved_item M (known_item k addend t bytes n)
  known-moved None addend t bytes n = refl
  known-moved (Some kind.Ignored) addend t bytes n = refl
  known-moved (Some kind.Word) addend t bytes n = refl
  known-moved (Some kind.Branch) addend t bytes n = under-moved 4 t bytes n
  known-moved (Some kind.Jal) addend t bytes n = under-moved 4 t bytes n
  known-moved (Some kind.Call) addend t bytes n = to-moved t (call_item (instr_in 4 bytes n) (instr_in 4 bytes (n + 4)) (raw_pair bytes n)) (raw_pair bytes n) (λ p. call-moved (instr_in 4 bytes n) (instr_in 4 bytes (n + 4)) (raw_pair bytes n) p refl) refl
  known-moved (Some kind.PcrelHi20) addend t bytes n = with-moved item.PcHi t bytes n (λ i. refl)
  known-moved (Some kind.PcrelLo12I) addend t bytes n = low-unread t bytes n
  known-moved (Some kind.PcrelLo12S) addend t bytes n = low-unread t bytes n
  known-moved (Some kind.Hi20) addend t bytes n = with-moved item.Hi t bytes n (λ i. refl)
  known-moved (Some kind.Lo12I) addend t bytes n = with-moved item.Lo t bytes n (λ i. refl)
  known-moved (Some kind.Lo12S) addend t bytes n = with-moved item.Lo t bytes n (λ i. refl)
  known-moved (Some kind.RvcBranch) addend t bytes n = under-moved 2 t bytes n
  known-moved (Some kind.RvcJump) addend t bytes n = under-moved 2 t bytes n
  known-moved (Some kind.Align) addend t bytes n = refl
