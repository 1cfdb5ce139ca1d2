-- Where a section whose tails are shared stands in the result: its items, what follows them, where it ends, and the jumps to hosts.
use Rattle.std.proofs.Common.{◌≡◌, ℕ, zero, suc, ◌+◌, ◌%◌, ◌<◌, ℤ, pos, negsuc, ◌-ℤ◌, List, [], ◌∷◌, length, Bool, true, false, cond, eqb, ltb, Some, None, refl, sym, ap, ◌∙◌, arith, eq-eqb}
use Rattle.std.specs.Prelude.{◌||◌, All}
use Rattle.std.specs.List.{find}
use Rattle.std.specs.Option.{option_map_or}
use Rattle.std.proofs.lemmas.Bool.{false_from_ne_true, ltb-true}
use Rattle.zc_base.specs.Fields.{word_bytes}
use Rattle.zc_base.specs.declared.place.Place.{Place}
use Rattle.elf32_read.specs.Parts.{SectionParts}
use Rattle.psabi_sym.specs.Inputs.{ParsedInputs}
use Rattle.rv_decode.specs.Bits.{FitsIn, IsEven}
use Rattle.rv_decode.specs.declared.instr.Instr.TheVariants as instr
use Rattle.rv_encode.specs.Words.{encoded}
use Rattle.block_cut.specs.Items.{is_end_at, item_at, item_in, item_under, next_at, place_of, raw_in, size_at, size_on, spelled_item, starts_from, starts_in, starts_on}
use Rattle.block_cut.specs.Relocs.{instr_in}
use Rattle.block_cut.specs.declared.item.Item.TheVariants as item
use Rattle.block_cut.proofs.CodeSizeLaws.{step_even}
use Rattle.block_cut.proofs.ItemLaws.{item_at-code, item_there}
use Rattle.block_cut.proofs.StartLaws.{Among, Here, There, among, is_among, start_is}
use Rattle.moved_runs.specs.Passes.{renumbered}
use Rattle.tail_merge.specs.Tails.{CodeItem, Removed, code_item, covers, first_offset, moved_down, tail_start}
use Rattle.tail_merge.specs.Merged.{merged_bytes, merged_place}
use Rattle.tail_merge.proofs.CoveredLaws.{outside-behind, outside-next, outside-stays, stays-first, stays-none}
use Rattle.tail_merge.proofs.DistanceLaws.{IsWay, down-even, way-between}
use Rattle.tail_merge.proofs.HeldLaws.{new-length, removed-ends}
use Rattle.tail_merge.proofs.InstrLaws.{IsOutsideItem, even-tails, held-at, jump-instr}
use Rattle.tail_merge.proofs.ItemsLaws.{item-of-all, items-clear, removed-apart}
use Rattle.tail_merge.proofs.MergedItems.{IsMergedInto, away-made, code-given, code-made, down, gone, here, place-down}
use Rattle.tail_merge.proofs.OffsetLaws.{Outside, down-low}
use Rattle.tail_merge.proofs.PlacedLaws.{IsClear, width_in, width-step}

-- ---- starts

-- all lie before the end, whatever the section
starts-before : (fuel n k : ℕ) (t : SectionParts) → is_among k (starts_from fuel t n) ≡ true → k < length t.bytes
starts-before zero n k t is = absurd cc
starts-before (suc fuel) n k t is = by (starts-before fuel (n + size_on t n) k t) (ltb n (length t.bytes)) refl is
  where
    by : (is_among k (starts_from fuel t (n + size_on t n)) ≡ true → k < length t.bytes) → (b : Bool) → ltb n (length t.bytes) ≡ b
        → is_among k (cond b (n ∷ starts_from fuel t (n + size_on t n)) []) ≡ true → k < length t.bytes
    by rest false past h = absurd cc
    by rest true lt h = of (among n k (starts_from fuel t (n + size_on t n)) h)
      where
        of : Among n k (starts_from fuel t (n + size_on t n)) → k < length t.bytes
        of (Here e) = let low = ltb-true n (length t.bytes) lt in omega (arith, e, low)
        of (There later) = rest later

end-no-start : (t : SectionParts) → starts_on t (length t.bytes) ≡ false
unfolding starts_in
end-no-start t =
    false_from_ne_true (starts_on t (length t.bytes))
    (λ start. let lt = starts-before (length t.bytes) 0 (length t.bytes) t start in omega (arith, lt))

module _ (inputs result : ParsedInputs) (o i : ℕ) (s new : SectionParts) (m : IsMergedInto inputs result o i s new) where
  abbrev there : ℕ → Place
  there n = down inputs result o i s n

  abbrev from : ℕ → Place
  from n = place_of (here inputs result o i s) n

  abbrev rs : List Removed
  rs = gone inputs result o i s

  abbrev IsOutsideThere : ℕ → Type 0
  IsOutsideThere n = IsOutsideItem inputs (here inputs result o i s) m.code m.whole n

  -- ---- items and what follows them

  -- outside of removed tails an item starts where one is moved to
  pub item-is-there : (n : ℕ) → IsOutsideThere n → item_at result (there n) ≡ Some (item_in result new (there n))
  item-is-there n out =
      item_there result (there n) new (code-made inputs result o i s new m n)
      (m.starts n out.start (outside-stays rs n (stays-none rs n out.outside)))

  pub size-there : (n : ℕ) → IsOutsideThere n → size_at result.objects (there n) ≡ size_on s n
  size-there n out = ap (λ x. option_map_or (λ t. size_on t (moved_down rs n)) x 4) (code-made inputs result o i s new m n) ∙ m.sizes n out

  pub size-from : (n : ℕ) → size_at inputs.objects (from n) ≡ size_on s n
  size-from n = ap (λ x. option_map_or (λ t. size_on t n) x 4) (code-given inputs result o i s new m n)

  pub next-clear : (n : ℕ) → IsOutsideThere n → Outside rs (n + size_on s n)
  next-clear n out =
      outside-next rs (code_item inputs (here inputs result o i s) n)
      (item-of-all (λ (c : CodeItem). All (IsClear c) rs) inputs (here inputs result o i s) n out.start (items-clear inputs (here inputs result o i s)))
      out.outside

  next-down : (n : ℕ) → IsOutsideThere n → moved_down rs (n + size_on s n) ≡ moved_down rs n + size_on s n
  next-down n out =
      let c = code_item inputs (here inputs result o i s) n in
      let clear =
      item-of-all (λ (c : CodeItem). All (IsClear c) rs) inputs (here inputs result o i s) n out.start
      (items-clear inputs (here inputs result o i s)) in
      width-step 0 rs c (removed-apart inputs (here inputs result o i s)) clear (held-at inputs (here inputs result o i s) m.code m.whole n out.start).some
      ∙ ap (λ x. moved_down rs n + width_in c x) out.outside

  -- the next place is found behind it
  pub next-there : (n : ℕ) → IsOutsideThere n → next_at result.objects (there n) ≡ merged_place inputs (next_at inputs.objects (from n))
  next-there n out =
      let size = size-there n out in
      let last : moved_down rs n + size_at result.objects (there n) ≡ moved_down rs (n + size_on s n) =
      ap (λ k. moved_down rs n + k) size ∙ sym (next-down n out) in
      (λ j. record { object = o; section = renumbered inputs.objects o i; offset = last j })
      ∙ sym (place-down inputs result o i s new m (n + size_on s n) (next-clear n out))
      ∙ ap (λ k. merged_place inputs (from (n + k))) (sym (size-from n))

  -- ---- the end

  pub end-clear : Outside rs (length s.bytes)
  end-clear = outside-behind rs (length s.bytes) (removed-ends inputs (here inputs result o i s) m.code m.whole)

  end-down : moved_down rs (length s.bytes) ≡ length new.bytes
  end-down = sym (new-length inputs (here inputs result o i s) m.code m.whole) ∙ ap length (sym m.bytes)

  -- where the section ended the new one ends
  pub end-there : is_end_at result.objects (there (length s.bytes)) ≡ true
  end-there =
      ap (λ x. option_map_or (λ t. eqb (moved_down rs (length s.bytes)) (length t.bytes)) x false)
      (code-made inputs result o i s new m (length s.bytes))
      ∙ eq-eqb (moved_down rs (length s.bytes)) (length new.bytes) end-down

  -- and no item starts
  pub nothing-there : item_at result (there (length s.bytes)) ≡ None
  nothing-there =
      item_at-code result (there (length s.bytes)) new (code-made inputs result o i s new m (length s.bytes))
      ∙ ap (λ b. cond b (Some (item_in result new (there (length s.bytes)))) None) (ap (starts_on new) end-down ∙ end-no-start new)

  -- ---- jumps

  even-start : (n : ℕ) → starts_on s n ≡ true → Outside rs n → moved_down rs n % 2 ≡ 0
  even-start n start out =
      down-even 0 rs n (removed-apart inputs (here inputs result o i s)) out (even-tails inputs (here inputs result o i s) m.code m.whole)
      ∙ step_even s.compressed n (start_is s m.code m.whole n start).words

  low-start : (n : ℕ) → starts_on s n ≡ true → Outside rs n → moved_down rs n < length s.bytes
  low-start n start out =
      let low = down-low 0 rs n (removed-apart inputs (here inputs result o i s)) out in
      let inside = (start_is s m.code m.whole n start).inside in
      omega (arith, low, inside)

  near-fits : (a b : ℕ) (z : ℤ) → IsWay a b z → a < 0x4_0000 → b < 0x4_0000 → FitsIn 21 z
  near-fits a b (pos k) way la lb = omega (arith, way, lb)
  near-fits a b (negsuc k) way la lb = omega (arith, way, la)

  near-even : (a b : ℕ) (z : ℤ) → IsWay a b z → a % 2 ≡ 0 → b % 2 ≡ 0 → IsEven z
  near-even a b (pos k) way ea eb = omega (arith, way, ea, eb)
  near-even a b (negsuc k) way ea eb = omega (arith, way, ea, eb)

  -- where a removed tail begins there is a jump to where the host's stands
  pub jump-there : (n : ℕ) (r : Removed) → starts_on s n ≡ true → find (covers n) rs ≡ Some r → n ≡ tail_start r
      → item_at result (there n) ≡ Some (item.Jump 0 (there (first_offset r.host)))
  jump-there n r start found first =
      let h = first_offset r.host in
      let host = (m.hosts n r start found).0 in
      let host-out = (m.hosts n r start found).1 in
      let few = m.short in
      let none = m.jump_relocs n r start found first in
      let four = m.jump_sizes n r start found first in
      let out = outside-stays rs n (stays-first rs n r found first) in
      let distance = pos (moved_down rs h) -ℤ pos (moved_down rs n) in
      let way = way-between (moved_down rs n) (moved_down rs h) in
      let low = low-start n start out in
      let low-host = low-start h host host-out in
      let fits = near-fits (moved_down rs n) (moved_down rs h) distance way (omega (arith, low, few)) (omega (arith, low-host, few)) in
      let even = near-even (moved_down rs n) (moved_down rs h) distance way (even-start n start out) (even-start h host host-out) in
      let at : starts_on s (tail_start r) ≡ true = ap (starts_on s) (sym first) ∙ start in
      let covered : find (covers (tail_start r)) rs ≡ Some r = ap (λ k. find (covers k) rs) (sym first) ∙ found in
      let reads : instr_in 4 (merged_bytes inputs (here inputs result o i s)) (moved_down rs n) ≡ Some (instr.Jal 0 distance) =
      ap (λ k. instr_in 4 (merged_bytes inputs (here inputs result o i s)) (moved_down rs k)) first
      ∙ jump-instr inputs (here inputs result o i s) m.code m.whole r at covered distance
      (ap (λ k. jump_to (moved_down rs h) (moved_down rs k)) (sym first)) fits even in
      let bytes = m.bytes in
      item_there result (there n) new (code-made inputs result o i s new m n) (m.starts n start out)
      ∙ ap Some (
      (λ j. item_under result (there n) (none j) (four j) (bytes j))
      ∙ ap (λ x. spelled_item result.objects (there n) x (raw_in 4 (merged_bytes inputs (here inputs result o i s)) (moved_down rs n))) reads
      ∙ ap (λ x. option_map_or (item.Jump 0) x (raw_in 4 (merged_bytes inputs (here inputs result o i s)) (moved_down rs n)))
      (away-made inputs result o i s new m n h (ap (λ b. b || eqb h (length s.bytes)) host) host-out)
      )
    where
      jump_to : ℕ → ℕ → List ℕ
      jump_to to at = word_bytes (encoded (instr.Jal 0 (pos to -ℤ pos at)))
