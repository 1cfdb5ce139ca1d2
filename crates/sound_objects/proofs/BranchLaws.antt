-- Where branches lead, item by item: without a relocation to a place of their own section, and with one to its target. Nothing else is
-- a branch.
use Rattle.std.proofs.Common.{◌≡◌, ℕ, ◌+◌, ℤ, pos, negsuc, ◌+ℤ◌, List, Bool, true, false, cond, Option, Some, None, refl}
use Rattle.std.specs.Option.{option_and_then, option_map_or}
use Rattle.zc_base.specs.declared.place.Place.{Place}
use Rattle.elf32_read.specs.Parts.{ObjectParts, SectionParts}
use Rattle.psabi_sym.specs.declared.target.Target.{Target}
use Rattle.psabi_sym.specs.declared.target.Target.TheVariants as target
use Rattle.psabi_reloc.specs.Kinds.{fits}
use Rattle.psabi_reloc.specs.declared.kind.RelocKind.{RelocKind}
use Rattle.psabi_reloc.specs.declared.kind.RelocKind.TheVariants as kind
use Rattle.rv_decode.specs.declared.instr.Instr.{Instr}
use Rattle.rv_decode.specs.declared.instr.Instr.TheVariants as instr
use Rattle.block_cut.proofs.ReachLaws.{branch_place}
use Rattle.block_cut.specs.Items.{call_item, is_target_at, known_item, place_on, raw_in, raw_pair, spelled_item, target_away, to_place, transfer_item}
use Rattle.block_cut.specs.Relocs.{fits_at, instr_in}
use Rattle.block_cut.specs.declared.item.Item.{Item}
use Rattle.block_cut.specs.declared.item.Item.TheVariants.{Branch, Hi, Jump, Lo, PcHi, PcLo}
use Rattle.sound_objects.specs.Reach.{is_branch, is_branch_kind}

-- a branch leads nowhere, or to a place of the same section
pub data LeadsIn (q : Place) (o : Option Place) : Type 0 where
  Nowhere : o ≡ None → LeadsIn q o
  To : (to : Place) → o ≡ Some to → to.object ≡ q.object → to.section ≡ q.section → LeadsIn q o

-- ---- without a relocation

module _ (objects : List ObjectParts) (q : Place) (raw : Item) (none : branch_place raw ≡ None) where
  jumps : (rd : ℕ) (o : Option Place) → branch_place (option_map_or (Jump rd) o raw) ≡ None
  jumps rd None = none
  jumps rd (Some to) = refl

  away : (z : ℤ) (branch : Place → Item) → ((to : Place) → branch_place (branch to) ≡ Some to) → LeadsIn q (branch_place (option_map_or branch (option_and_then (λ to. cond (is_target_at objects to) (Some to) None) (place_on q z)) raw))
  away (negsuc n) branch leads = Nowhere none
  away (pos n) branch leads = by (is_target_at objects to)
    where
      to : Place
      to = record q { offset = n }

      by : (b : Bool) → LeadsIn q (branch_place (option_map_or branch (cond b (Some (record q { offset = n })) None) raw))
      by true = To (record q { offset = n }) (leads (record q { offset = n })) refl refl
      by false = Nowhere none

  pub spelled_in : (first : Option Instr) → LeadsIn q (branch_place (spelled_item objects q first raw))
  spelled_in None = Nowhere none
  spelled_in (Some (instr.Upper op rd imm)) = Nowhere refl
  spelled_in (Some (instr.Jal rd distance)) = Nowhere (jumps rd (target_away objects q distance))
  spelled_in (Some (instr.Jalr rd base imm)) = Nowhere refl
  spelled_in (Some (instr.Branch op left right distance)) = away (pos q.offset +ℤ distance) (Branch op left right) (λ to. refl)
  spelled_in (Some (instr.Load op rd base imm)) = Nowhere refl
  spelled_in (Some (instr.Store op source base imm)) = Nowhere refl
  spelled_in (Some (instr.WithImm op rd left imm)) = Nowhere refl
  spelled_in (Some (instr.WithReg op rd left right)) = Nowhere refl
  spelled_in (Some (instr.Fence rest)) = Nowhere refl
  spelled_in (Some instr.Ecall) = Nowhere refl
  spelled_in (Some instr.Ebreak) = Nowhere refl
  spelled_in (Some (instr.Csrrw rd source)) = Nowhere none

  pub spelled_no_branch : (first : Option Instr) → is_branch first ≡ false → branch_place (spelled_item objects q first raw) ≡ None
  spelled_no_branch None no_branch = none
  spelled_no_branch (Some (instr.Upper op rd imm)) no_branch = refl
  spelled_no_branch (Some (instr.Jal rd distance)) no_branch = jumps rd (target_away objects q distance)
  spelled_no_branch (Some (instr.Jalr rd base imm)) no_branch = refl
  spelled_no_branch (Some (instr.Branch op left right distance)) no_branch = absurd cc
  spelled_no_branch (Some (instr.Load op rd base imm)) no_branch = refl
  spelled_no_branch (Some (instr.Store op source base imm)) no_branch = refl
  spelled_no_branch (Some (instr.WithImm op rd left imm)) no_branch = refl
  spelled_no_branch (Some (instr.WithReg op rd left right)) no_branch = refl
  spelled_no_branch (Some (instr.Fence rest)) no_branch = refl
  spelled_no_branch (Some instr.Ecall) no_branch = refl
  spelled_no_branch (Some instr.Ebreak) no_branch = refl
  spelled_no_branch (Some (instr.Csrrw rd source)) no_branch = none

-- ---- with one

module _ (t : Target) (raw : Item) (none : branch_place raw ≡ None) where
  -- an item that leads where its target does, if that is a place
  led : (item : Place → Item) → ((to : Place) → branch_place (item to) ≡ None) → branch_place (to_place t item raw) ≡ None
  led item no_branch = by t
    where
      by : (u : Target) → branch_place (to_place u item raw) ≡ None
      by (target.Code to) = no_branch to
      by (target.Number n) = none
      by (target.Absent n) = none
      by target.Nowhere = none

  of_no_branch : (first : Option Instr) (item : Instr → Item) → ((i : Instr) → branch_place (item i) ≡ None) → branch_place (option_map_or item first raw) ≡ None
  of_no_branch None item no_branch = none
  of_no_branch (Some i) item no_branch = no_branch i

  rvc_no_branch : (first second : Option Instr) → fits kind.RvcJump first second ≡ true → branch_place (option_map_or (λ i. to_place t (transfer_item i raw) raw) first raw) ≡ None
  rvc_no_branch (Some (instr.Jal rd distance)) second is = led (Jump rd) (λ to. refl)
  rvc_no_branch first second is = absurd cc

  jal_no_branch : (first second : Option Instr) → fits kind.Jal first second ≡ true → branch_place (option_map_or (λ i. to_place t (transfer_item i raw) raw) first raw) ≡ None
  jal_no_branch (Some (instr.Jal rd distance)) second is = led (Jump rd) (λ to. refl)
  jal_no_branch first second is = absurd cc

  call_no_branch : (first second : Option Instr) → branch_place (to_place t (call_item first second raw) raw) ≡ None
  call_no_branch first second = led (call_item first second raw) (by first second)
    where
      by : (a b : Option Instr) (to : Place) → branch_place (call_item a b raw to) ≡ None
      by (Some (instr.Upper op temp upper)) (Some (instr.Jalr rd base lower)) to = refl
      by a b to = none

  -- a branch leads to its target
  branch_in : (q : Place) → ((to : Place) → t ≡ target.Code to → (to.object ≡ q.object) × (to.section ≡ q.section)) → (first : Option Instr)
      → LeadsIn q (branch_place (option_map_or (λ i. to_place t (transfer_item i raw) raw) first raw))
  branch_in q stays None = Nowhere none
  branch_in q stays (Some i) = by t refl
    where
      at : (to : Place) → (to.object ≡ q.object) × (to.section ≡ q.section) → (j : Instr) → LeadsIn q (branch_place (transfer_item j raw to))
      at to same (instr.Branch op left right distance) = To to refl same.0 same.1
      at to same (instr.Jal rd distance) = Nowhere refl
      at to same j = Nowhere none

      by : (u : Target) → t ≡ u → LeadsIn q (branch_place (to_place u (transfer_item i raw) raw))
      by (target.Code to) is = at to (stays to is) i
      by (target.Number n) is = Nowhere none
      by (target.Absent n) is = Nowhere none
      by target.Nowhere is = Nowhere none

module _ (s : SectionParts) (n : ℕ) (addend : ℤ) (t : Target) where
  abbrev raw : Item
  raw = raw_in 4 s.bytes n

  abbrev first : Option Instr
  first = instr_in 4 s.bytes n

  -- what stands under a relocation of no branch isn't one, if the relocation fits it
  pub known_no_branch : (k : Option RelocKind) → is_branch_kind k ≡ false → fits_at s n addend k ≡ true → branch_place (known_item k addend t s.bytes n) ≡ None
  known_no_branch None other is = refl
  known_no_branch (Some kind.Ignored) other is = refl
  known_no_branch (Some kind.Word) other is = refl
  known_no_branch (Some kind.Branch) other is = absurd cc
  known_no_branch (Some kind.Jal) other is = jal_no_branch t raw refl first (instr_in 4 s.bytes (n + 4)) is
  known_no_branch (Some kind.Call) other is = call_no_branch t (raw_pair s.bytes n) refl first (instr_in 4 s.bytes (n + 4))
  known_no_branch (Some kind.PcrelHi20) other is = of_no_branch t raw refl first (λ i. PcHi i t) (λ i. refl)
  known_no_branch (Some kind.PcrelLo12I) other is = of_no_branch t raw refl first (λ i. to_place t (PcLo i) raw) (λ i. led t raw refl (PcLo i) (λ to. refl))
  known_no_branch (Some kind.PcrelLo12S) other is = of_no_branch t raw refl first (λ i. to_place t (PcLo i) raw) (λ i. led t raw refl (PcLo i) (λ to. refl))
  known_no_branch (Some kind.Hi20) other is = of_no_branch t raw refl first (λ i. Hi i t) (λ i. refl)
  known_no_branch (Some kind.Lo12I) other is = of_no_branch t raw refl first (λ i. Lo i t) (λ i. refl)
  known_no_branch (Some kind.Lo12S) other is = of_no_branch t raw refl first (λ i. Lo i t) (λ i. refl)
  known_no_branch (Some kind.RvcBranch) other is = absurd cc
  known_no_branch (Some kind.RvcJump) other is = rvc_no_branch t (raw_in 2 s.bytes n) refl (instr_in 2 s.bytes n) None is
  known_no_branch (Some kind.Align) other is = refl

  -- a branch leads where its target is
  pub known_in : (q : Place) (k : Option RelocKind) → (is_branch_kind k ≡ true → (to : Place) → t ≡ target.Code to → (to.object ≡ q.object) × (to.section ≡ q.section))
      → fits_at s n addend k ≡ true → LeadsIn q (branch_place (known_item k addend t s.bytes n))
  known_in q (Some kind.Branch) stays is = branch_in t raw refl q (stays refl) first
  known_in q (Some kind.RvcBranch) stays is = branch_in t (raw_in 2 s.bytes n) refl q (stays refl) (instr_in 2 s.bytes n)
  known_in q k stays is = Nowhere (known_no_branch k refl is)
