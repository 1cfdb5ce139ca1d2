-- Items with a relocation: where the bytes that it changes are the same, and its target is moved, the item is the same, moved.
use Rattle.std.proofs.Common.{◌≡◌, ℕ, ◌+◌, ℤ, List, take, drop, true, false, Option, Some, None, refl, sym, ap, ◌∙◌, arith}
use Rattle.std.specs.Option.{option_map_or}
use Rattle.std.proofs.lemmas.List.{drop-drop, drop-take}
use Rattle.zc_base.specs.declared.place.Place.{Place}
use Rattle.elf32_read.specs.Parts.{SectionParts}
use Rattle.psabi_sym.specs.declared.target.Target.{Target}
use Rattle.psabi_reloc.specs.Kinds.{field_length, padding_length}
use Rattle.psabi_reloc.specs.declared.kind.RelocKind.{RelocKind}
use Rattle.psabi_reloc.specs.declared.kind.RelocKind.TheVariants as kind
use Rattle.rv_decode.specs.declared.instr.Instr.{Instr}
use Rattle.block_cut.specs.Items.{call_item, known_item, raw_in, raw_pair, to_place, transfer_item, transfer_under}
use Rattle.block_cut.specs.Relocs.{instr_in, is_bad_kind, is_ignored}
use Rattle.block_cut.specs.declared.item.Item.{Item}
use Rattle.block_cut.specs.declared.item.Item.TheVariants.{Align, Hi, Lo, PcHi, PcLo, Raw, RawPair, RawShort}
use Rattle.moved_runs.specs.Moved.{moved_item, moved_target}
use Rattle.moved_runs.proofs.MovedKinds.{known-moved}
use Rattle.tail_merge.specs.Merged.{is_align_kind}
use Rattle.tail_merge.proofs.ReadLaws.{SameBytes, half-same, long-same, short-same, word-same}

-- ---- the same bytes

-- those behind the first ones
later-same : (j k : ℕ) (xs : List ℕ) (n : ℕ) (ys : List ℕ) (m : ℕ) → SameBytes (j + k) xs n ys m → SameBytes k xs (n + j) ys (m + j)
later-same j k xs n ys m same =
    sym (drop-take j k (drop n xs) ∙ ap (take k) (drop-drop j n xs))
    ∙ ap (drop j) same
    ∙ (drop-take j k (drop m ys) ∙ ap (take k) (drop-drop j m ys))

module _ (xs : List ℕ) (n : ℕ) (ys : List ℕ) (m : ℕ) where
  same-raw-four : SameBytes 4 xs n ys m → raw_in 4 xs n ≡ raw_in 4 ys m
  same-raw-four same = ap Raw (word-same 4 xs n ys m same (omega arith))

  same-raw-two : SameBytes 2 xs n ys m → raw_in 2 xs n ≡ raw_in 2 ys m
  same-raw-two same = ap RawShort (half-same 2 xs n ys m same (omega arith))

  same-instr-four : SameBytes 4 xs n ys m → instr_in 4 xs n ≡ instr_in 4 ys m
  same-instr-four same = long-same 4 xs n ys m same (omega arith)

  same-under-four : (t : Target) → SameBytes 4 xs n ys m → transfer_under 4 t xs n ≡ transfer_under 4 t ys m
  same-under-four t same =
      let i = same-instr-four same in
      let r = same-raw-four same in
      λ j. option_map_or (λ i. to_place t (transfer_item i (r j)) (r j)) (i j) (r j)

  same-under-two : (t : Target) → SameBytes 2 xs n ys m → transfer_under 2 t xs n ≡ transfer_under 2 t ys m
  same-under-two t same =
      let i = short-same 2 xs n ys m same (omega arith) in
      let r = same-raw-two same in
      λ j. option_map_or (λ i. to_place t (transfer_item i (r j)) (r j)) (i j) (r j)

  same-with : (f : Instr → Item → Item) → SameBytes 4 xs n ys m
      → option_map_or (λ i. f i (raw_in 4 xs n)) (instr_in 4 xs n) (raw_in 4 xs n) ≡ option_map_or (λ i. f i (raw_in 4 ys m)) (instr_in 4 ys m) (raw_in 4 ys m)
  same-with f same =
      let i = same-instr-four same in
      let r = same-raw-four same in
      λ j. option_map_or (λ i. f i (r j)) (i j) (r j)

  same-call : (t : Target) → SameBytes 8 xs n ys m
      → to_place t (call_item (instr_in 4 xs n) (instr_in 4 xs (n + 4)) (raw_pair xs n)) (raw_pair xs n) ≡ to_place t (call_item (instr_in 4 ys m) (instr_in 4 ys (m + 4)) (raw_pair ys m)) (raw_pair ys m)
  same-call t same =
      let behind = later-same 4 4 xs n ys m same in
      let first = long-same 8 xs n ys m same (omega arith) in
      let second = long-same 4 xs (n + 4) ys (m + 4) behind (omega arith) in
      let one = word-same 8 xs n ys m same (omega arith) in
      let two = word-same 4 xs (n + 4) ys (m + 4) behind (omega arith) in
      λ j. to_place t (call_item (first j) (second j) (RawPair (one j) (two j))) (RawPair (one j) (two j))

  -- the item of a kind whose field has the same bytes; the addend is of padding alone
  pub known-same : (s : SectionParts) (k : Option RelocKind) (a b : ℤ) (t : Target) → is_ignored k ≡ false → is_bad_kind s k ≡ false
      → (is_align_kind k ≡ true → a ≡ b) → SameBytes (field_length k b) xs n ys m
      → known_item k a t xs n ≡ known_item k b t ys m
  known-same s None a b t asks known padding same = absurd cc
  known-same s (Some kind.Ignored) a b t asks known padding same = absurd cc
  known-same s (Some kind.Word) a b t asks known padding same = refl
  known-same s (Some kind.Branch) a b t asks known padding same = same-under-four t same
  known-same s (Some kind.Jal) a b t asks known padding same = same-under-four t same
  known-same s (Some kind.Call) a b t asks known padding same = same-call t same
  known-same s (Some kind.PcrelHi20) a b t asks known padding same = same-with (λ i raw. PcHi i t) same
  known-same s (Some kind.PcrelLo12I) a b t asks known padding same = same-with (λ i raw. to_place t (PcLo i) raw) same
  known-same s (Some kind.PcrelLo12S) a b t asks known padding same = same-with (λ i raw. to_place t (PcLo i) raw) same
  known-same s (Some kind.Hi20) a b t asks known padding same = same-with (λ i raw. Hi i t) same
  known-same s (Some kind.Lo12I) a b t asks known padding same = same-with (λ i raw. Lo i t) same
  known-same s (Some kind.Lo12S) a b t asks known padding same = same-with (λ i raw. Lo i t) same
  known-same s (Some kind.RvcBranch) a b t asks known padding same = same-under-two t same
  known-same s (Some kind.RvcJump) a b t asks known padding same = same-under-two t same
  known-same s (Some kind.Align) a b t asks known padding same = ap (λ z. Align (padding_length z)) (padding refl)

-- ---- the target

-- padding has none
known-target : (k : Option RelocKind) (a : ℤ) (t u : Target) (xs : List ℕ) (n : ℕ) → (is_align_kind k ≡ false → t ≡ u)
    → known_item k a t xs n ≡ known_item k a u xs n
known-target (Some kind.Align) a t u xs n same = refl
known-target k a t u xs n same = ap (λ t. known_item k a t xs n) (same refl)

-- the item is the same, moved
pub relocated-moved : (M : Place → Place) (s : SectionParts) (k : Option RelocKind) (a b : ℤ) (t u : Target) (xs : List ℕ) (n : ℕ) (ys : List ℕ) (m : ℕ) → is_ignored k ≡ false → is_bad_kind s k ≡ false
    → (is_align_kind k ≡ true → a ≡ b) → (is_align_kind k ≡ false → t ≡ moved_target M u) → SameBytes (field_length k b) xs n ys m
    → known_item k a t xs n ≡ moved_item M (known_item k b u ys m)
relocated-moved M s k a b t u xs n ys m asks known padding target same =
    known-target k a t (moved_target M u) xs n target
    ∙ known-same xs n ys m s k a b (moved_target M u) asks known padding same
    ∙ known-moved M k b u ys m
