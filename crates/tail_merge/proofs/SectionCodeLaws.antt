-- What is written for the items of a section of code is what stands in the section with its tails shared, and each instruction that is
-- spelled has a word.
use Rattle.std.proofs.Common.{◌≡◌, ◌≢◌, ℕ, suc, ◌+◌, ◌-◌, ◌%◌, ◌≤◌, ◌<◌, ℤ, pos, negsuc, ◌-ℤ◌, List, [], ◌∷◌, ◌++◌, length, map, take, drop, get_or, Bool, true, false, cond, eqb, leb, Option, Some, None, refl, sym, ap, ap₂, ◌∙◌, subst, arith, inl, inr, ◌^◌, FitsSigned, to_z, w32}
use Rattle.std.specs.Prelude.{◌&&◌, ◌||◌, All, Contains, MatchOption, filter, not}
use Rattle.std.specs.List.{find, flat_map, fold, list_any}
use Rattle.std.specs.Int.{int_wrap}
use Rattle.std.specs.List.Sorted.{IsNonDecreasingBy}
use Rattle.std.specs.Option.{option_and_then, option_map, option_map_or, unwrap_or}
use Rattle.std.proofs.lemmas.Bool.{and_from, and_parts, cases_lt, eq-eqb, eqb-true, ne_eqb, or_cases}
use Rattle.std.proofs.lemmas.Int.{int_wrap_fits, to_z_pos, wrapping_sub-bits}
use Rattle.std.proofs.lemmas.List.{flat_map_more, get_or-map, length-map, take_all, take_more}
use Rattle.std.proofs.lemmas.List.Elements.{All-head, All-map, All-tail}
use Rattle.std.proofs.lemmas.List.Folds.{list_any_at}
use Rattle.std.proofs.lemmas.List.Sorted.{list_any-IsPermutation}
use Rattle.zc_base.specs.Fields.{word_bytes}
use Rattle.zc_base.specs.declared.place.Place.{Place}
use Rattle.zc_base.proofs.PlaceLaws.{same_place-refl}
use Rattle.elf32_read.specs.Parts.{SectionParts}
use Rattle.elf32_read.specs.declared.reloc.Reloc.{Reloc}
use Rattle.elf32_read.proofs.Listed.{list_any-filter}
use Rattle.rv_decode.specs.Bits.{FitsIn, IsEven}
use Rattle.rv_decode.specs.Immediates.{InRange}
use Rattle.rv_decode.specs.declared.instr.BranchOp.{BranchOp}
use Rattle.rv_decode.specs.declared.instr.Instr.{Instr}
use Rattle.rv_decode.specs.declared.instr.Instr.TheVariants as instr
use Rattle.rv_encode.specs.Words.{encoded}
use Rattle.psabi_sym.specs.Indexed.{IndexedSection}
use Rattle.psabi_sym.specs.Inputs.{Inputs, ParsedInputs, parsed}
use Rattle.block_cut.specs.Items.{instr_item, is_target_at, item_in, item_under, place_of, raw_in, size_on, spelled_item, starts_in, starts_on, target_away}
use Rattle.block_cut.specs.Leaders.{goes_to}
use Rattle.block_cut.specs.Places.{code_place, code_places}
use Rattle.block_cut.specs.Relocs.{instr_in, reloc_on}
use Rattle.block_cut.specs.Resolved.{asks}
use Rattle.block_cut.specs.declared.code_place.CodePlace.{CodePlace}
use Rattle.block_cut.specs.declared.item.Item.{Item}
use Rattle.block_cut.specs.declared.item.Item.TheVariants as item
use Rattle.block_cut.proofs.CodeSizeLaws.{step_even}
use Rattle.block_cut.proofs.InstrLaws.{in_range_in}
use Rattle.block_cut.proofs.ItemLaws.{item_there}
use Rattle.block_cut.proofs.PlainLaws.{target_on}
use Rattle.block_cut.proofs.RawLaws.{raw_by}
use Rattle.block_cut.proofs.SoundLaws.{sound_at}
use Rattle.block_cut.proofs.StartLaws.{start_is}
use Rattle.block_cut.proofs.StrayLaws.{held_on}
use Rattle.block_cut.proofs.WholeLaws.{code_at_is}
use Rattle.moved_runs.proofs.Faultless.{all_none}
use Rattle.moved_runs.proofs.Led.{item_leader}
use Rattle.tail_merge.specs.Merged.{indexed, instr_bytes, item_bytes, jump_bytes, kept_bytes, new_distance, removed_at, transfer_instr}
use Rattle.tail_merge.specs.MovedTails.{AreMovedAt, AreMovedTails, last_before, moved_tail, moved_tails, tail_over}
use Rattle.tail_merge.specs.RemovedTails.{tail_among}
use Rattle.tail_merge.specs.SectionCode.{IsFormOf, IsPlaceInCode, IsTabled, LeadsWithin, asking_offsets, down_distance, form_bytes}
use Rattle.tail_merge.specs.Tails.{CodeItem, Removed, code_item, code_items, covers, first_offset, merged_offset, moved_down, removed_tails, bytes_saved_by, tail_end, tail_start}
use Rattle.tail_merge.specs.declared.moved_tail.MovedTail.{MovedTail}
use Rattle.tail_merge.specs.declared.removed_tail.RemovedTail.{RemovedTail}
use Rattle.tail_merge.specs.declared.section_code.ItemForm.{ItemForm}
use Rattle.tail_merge.specs.declared.section_code.ItemForm.TheVariants.{Own, Nothing, Spelled}
use Rattle.tail_merge.proofs.AskedLaws.{leader-held}
use Rattle.tail_merge.proofs.CoveredLaws.{found-holds, outside-stays, stays-none}
use Rattle.tail_merge.proofs.DistanceLaws.{IsEvenTail, IsWay, still-even, still-fits, way-between, way-of}
use Rattle.tail_merge.proofs.FoundLaws.{HasItems, leader-found, removed-here, removed-items}
use Rattle.tail_merge.proofs.HostLaws.{over-before}
use Rattle.tail_merge.proofs.InstrLaws.{even-tails, held-at}
use Rattle.tail_merge.proofs.ItemsLaws.{removed-apart}
use Rattle.tail_merge.proofs.MergedItems.{away-found}
use Rattle.tail_merge.proofs.MergedPrograms.{code-short}
use Rattle.tail_merge.proofs.MergedRelocs.{IsGoodCode, decides, good-code}
use Rattle.tail_merge.proofs.MovedTailLaws.{down-most, section-table, table-over}
use Rattle.tail_merge.proofs.OffsetLaws.{ApartFrom}
use Rattle.tail_merge.proofs.OpLaws.{item-places, place-there, size-there}
use Rattle.tail_merge.proofs.PairedOffsets.{outside-all}
use Rattle.tail_merge.proofs.PlacedLaws.{down-at, down-in, down-past}
use Rattle.tail_merge.proofs.SharedPlaces.{held-around}

-- ---- offsets that move down stay even

even-down : (rs : List Removed) (n : ℕ) → All IsEvenTail rs → All (λ (r : Removed). tail_start r % 2 ≡ 0) rs → n % 2 ≡ 0 → moved_down rs n % 2 ≡ 0
even-down [] n even starts is = is
even-down (r ∷ rs) n even starts is =
    let size = All-head IsEvenTail r rs even in
    let start = All-head (λ (r : Removed). tail_start r % 2 ≡ 0) r rs starts in
    let rest = even-down rs n (All-tail IsEvenTail r rs even) (All-tail (λ (r : Removed). tail_start r % 2 ≡ 0) r rs starts) is in
    elim (cases_lt (tail_start r) n) [
      | inl later ↦ elim (cases_lt n (tail_end r)) [
        | inl inside ↦ (let down = down-in r rs n later inside in omega (arith, down, start))
        | inr behind ↦ (let down = down-past r rs n later behind in omega (arith, down, rest, size))
      ]
      | inr before ↦ (let down = down-at r rs n before in omega (arith, down, is))
    ]

-- a distance between two offsets of a section fits a jump
short-way : (a b : ℕ) (z : ℤ) → IsWay a b z → a ≤ 0x4_0004 → b ≤ 0x4_0004 → FitsIn 21 z
short-way a b (pos k) way la lb = omega (arith, way, lb)
short-way a b (negsuc k) way la lb = omega (arith, way, la)

even-way : (a b : ℕ) (z : ℤ) → IsWay a b z → a % 2 ≡ 0 → b % 2 ≡ 0 → IsEven z
even-way a b (pos k) way ea eb = omega (arith, way, ea, eb)
even-way a b (negsuc k) way ea eb = omega (arith, way, ea, eb)

-- so it is the signed reading of the difference of words
way-fits : (a b : ℕ) (z : ℤ) → IsWay a b z → a ≤ 0x40_0004 → b ≤ 0x40_0004 → FitsSigned w32 z
way-fits a b (pos k) way la lb = omega (arith, way, lb)
way-fits a b (negsuc k) way la lb = omega (arith, way, la)

pub signed-way : (a b : ℕ) → a ≤ 0x40_0004 → b ≤ 0x40_0004 → to_z w32 ((b + (2 ^ 32 - a)) % 2 ^ 32) ≡ pos b -ℤ pos a
signed-way a b la lb =
    wrapping_sub-bits w32 b a (omega (arith, lb)) (omega (arith, la))
    ∙ (λ i. int_wrap w32 (to_z_pos w32 b (omega (arith, lb)) i -ℤ to_z_pos w32 a (omega (arith, la)) i))
    ∙ int_wrap_fits w32 (pos b -ℤ pos a) (way-fits a b (pos b -ℤ pos a) (way-between a b) la lb)

-- what holds of the offsets of items holds of the first one's
first-holds : (Q : ℕ → Type 0) (cs : List CodeItem) (n : ℕ) → All (λ (c : CodeItem). Q c.offset) cs → Q n → Q (fold (λ (n : ℕ) (c : CodeItem). c.offset) n cs)
first-holds Q [] n all own = own
first-holds Q (c ∷ cs) n all own = first-holds Q cs c.offset (All-tail (λ (c : CodeItem). Q c.offset) c cs all) (All-head (λ (c : CodeItem). Q c.offset) c cs all)

-- ---- entries of a table

-- an entry has the offsets of its tail
abbrev IsEntry : List CodeItem → MovedTail → Type 0
IsEntry items t = (t.start ≡ tail_start (tail_among items t.tail)) × (t.host ≡ first_offset (tail_among items t.tail).host)

last-entry : (items : List CodeItem) (saved : ℕ) (list : List RemovedTail) (n : ℕ) (t : MovedTail) → last_before (moved_tails items saved list) n ≡ Some t → IsEntry items t
last-entry items saved [] n t is = absurd cc
last-entry items saved (x ∷ xs) n t is =
    by (leb (tail_start (tail_among items x)) n) (last_before (moved_tails items (saved + bytes_saved_by (tail_among items x)) xs) n)
    (λ u e. last-entry items (saved + bytes_saved_by (tail_among items x)) xs n u e) is
  where
    by : (b : Bool) (o : Option MovedTail) → ((u : MovedTail) → o ≡ Some u → IsEntry items u) → cond b (Some (unwrap_or o (moved_tail items saved x))) None ≡ Some t → IsEntry items t
    by false o rest h = absurd cc
    by true None rest h = let same : moved_tail items saved x ≡ t = cc in subst (IsEntry items) same (refl, refl)
    by true (Some u) rest h = rest t h

-- ---- offsets of relocations

any-offset : (n : ℕ) (xs : List Reloc) → list_any (λ m. eqb m n) (map (λ (r : Reloc). r.offset) xs) ≡ list_any (λ (r : Reloc). eqb r.offset n) xs
any-offset n [] = refl
any-offset n (x ∷ xs) = ap (λ b. eqb x.offset n || b) (any-offset n xs)

one-passing : (p : Reloc → Bool) (xs : List Reloc) → list_any p xs ≡ true → (r : Reloc) × (Contains xs r × (p r ≡ true))
one-passing p [] is = absurd cc
one-passing p (x ∷ xs) is = by (p x) refl (one-passing p xs) is
  where
    by : (b : Bool) → p x ≡ b → (list_any p xs ≡ true → (r : Reloc) × (Contains xs r × (p r ≡ true))) → (b || list_any p xs) ≡ true → (r : Reloc) × (Contains (x ∷ xs) r × (p r ≡ true))
    by true here rest h = (x, ((0, omega arith, refl), here))
    by false other rest h = let r = rest h in (r.0, ((suc r.1.0.0, omega (arith, r.1.0.1), r.1.0.2), r.1.1))

-- ---- a section of code

module _ (inputs : Inputs) (l : IndexedSection) (tails : List MovedTail) (relocs : List ℕ) (is : IsTabled inputs l tails relocs) where
  abbrev p : ParsedInputs
  p = parsed inputs

  abbrev s : SectionParts
  s = l.section

  abbrev rs : List Removed
  rs = removed_tails p l

  abbrev items : List CodeItem
  items = code_items p l

  abbrev given : ℕ → Item
  given n = item_in p s (place_of l n)

  abbrev among : MovedTail → Removed
  among t = tail_among items t.tail

  good : IsGoodCode p l
  good = good-code inputs is.faultless l is.there is.code

  pub removed-is : removed_at p l.object l.index ≡ rs
  removed-is = removed-here p l.object l.index s is.there is.code

  pub tails-at : AreMovedAt p l.object l.index tails
  tails-at = subst (λ x. MatchOption x (tails ≡ []) (λ s. AreMovedTails p (indexed l.object l.index s) tails)) (sym is.there) is.table

  pub rises : IsNonDecreasingBy (λ (t : MovedTail). t.start) tails
  rises = (section-table p l tails is.table).rises

  -- ---- removed tails

  tails-are : map (tail_among items) is.table.list ≡ rs
  tails-are = is.table.removed.are ∙ ap (λ b. cond b rs []) is.code

  covering : (n : ℕ) → find (covers n) rs ≡ option_map among (tail_over tails n)
  covering n =
      ap (find (covers n)) (sym tails-are) ∙ table-over items 0 0 is.table.list n (subst (ApartFrom 0) (sym tails-are) (removed-apart p l))
      ∙ ap (λ ts. option_map among (tail_over ts n)) (sym is.table.are)

  entry : (n : ℕ) (t : MovedTail) → tail_over tails n ≡ Some t → IsEntry items t
  entry n t over = last-entry items 0 is.table.list n t (ap (λ ts. last_before ts n) (sym is.table.are) ∙ over-before n t (last_before tails n) over)

  -- ---- items begin at even offsets

  abbrev IsEvenStart : ℕ → Type 0
  IsEvenStart n = (n % 2 ≡ 0) × (n ≤ length s.bytes)

  start-even : (n : ℕ) → starts_on s n ≡ true → IsEvenStart n
  start-even n start =
      let st = start_is s good.code good.whole n start in
      let inside = st.inside in
      (step_even s.compressed n st.words, omega (arith, inside))

  items-even : All (λ (c : CodeItem). IsEvenStart c.offset) items
  items-even =
      All-map (λ (c : CodeItem). IsEvenStart c.offset) (code_item p l) (starts_in s)
      (λ k d lt. start-even (get_or (starts_in s) k d) (list_any_at (λ m. eqb m (get_or (starts_in s) k d)) (starts_in s) k d lt (eq-eqb (get_or (starts_in s) k d) (get_or (starts_in s) k d) refl)))

  tails-even : All (HasItems (λ (c : CodeItem). IsEvenStart c.offset)) rs
  tails-even = removed-items (λ (c : CodeItem). IsEvenStart c.offset) p l items-even

  starts-even : All (λ (r : Removed). tail_start r % 2 ≡ 0) rs
  starts-even = λ k d lt. (first-holds IsEvenStart (get_or rs k d).tail 0 (tails-even k d lt).0 (refl, omega arith)).0

  down-is-even : (n : ℕ) → n % 2 ≡ 0 → moved_down rs n % 2 ≡ 0
  down-is-even n even = even-down rs n (even-tails p l good.code good.whole) starts-even even

  short : length s.bytes ≤ 0x4_0000
  short =
      let few = code-short inputs (all_none inputs is.faultless).gathered l.object l.index s is.there is.code in
      let bytes = good.whole.bytes in
      omega (arith, few, bytes)

  host-even : (n : ℕ) (t : MovedTail) → tail_over tails n ≡ Some t → IsEvenStart t.host
  host-even n t over =
      let found : find (covers n) rs ≡ Some (among t) = covering n ∙ ap (option_map among) over in
      let has = found-holds (covers n) (HasItems (λ (c : CodeItem). IsEvenStart c.offset)) rs (among t) tails-even found in
      subst IsEvenStart (sym (entry n t over).1) (first-holds IsEvenStart (among t).host 0 has.1 (refl, omega arith))

  pub host-low : (n : ℕ) (t : MovedTail) → tail_over tails n ≡ Some t → t.host ≤ 0x40_0000
  host-low n t over = let within = (host-even n t over).1 in let few = short in omega (arith, within, few)

  -- ---- in a removed tail

  module _ (n : ℕ) (start : starts_on s n ≡ true) (t : MovedTail) (over : tail_over tails n ≡ Some t) where
    abbrev jump-way : ℤ
    jump-way = pos (moved_down rs t.host) -ℤ pos (moved_down rs n)

    jump-in-range : InRange (instr.Jal 0 jump-way)
    jump-in-range =
        let own = start-even n start in
        let host = host-even n t over in
        let way = way-between (moved_down rs n) (moved_down rs t.host) in
        let most = down-most rs n in
        let most' = down-most rs t.host in
        let few = short in
        let within = own.1 in
        let within' = host.1 in (
          short-way (moved_down rs n) (moved_down rs t.host) jump-way way (omega (arith, most, few, within)) (omega (arith, most', few, within')),
          even-way (moved_down rs n) (moved_down rs t.host) jump-way way (down-is-even n own.0) (down-is-even t.host host.0),
        )

    covered-bytes : item_bytes rs s (code_item p l n) ≡ cond (eqb n (tail_start (among t))) (jump_bytes rs (among t)) []
    covered-bytes =
        ap (λ o. option_map_or (λ r. cond (eqb n (tail_start r)) (jump_bytes rs r) []) o (kept_bytes rs s (code_item p l n))) (covering n ∙ ap (option_map among) over)

    pub jump-form : (d : ℤ) → d ≡ pos (moved_down (removed_at p l.object l.index) t.host) -ℤ pos (moved_down (removed_at p l.object l.index) n) → n ≡ t.start
        → IsFormOf p l n (Spelled (instr.Jal 0 d) 4)
    jump-form d d-is first =
        let same : d ≡ jump-way = d-is ∙ ap (λ gone. pos (moved_down gone t.host) -ℤ pos (moved_down gone n)) removed-is in
        let own = entry n t over in
        let at : n ≡ tail_start (among t) = first ∙ own.0 in
        record {
          bytes =
              ap (λ z. word_bytes (encoded (instr.Jal 0 z))) same
              ∙ (λ i. way-to (own.1 i) (at i))
              ∙ sym (covered-bytes ∙ ap (λ b. cond b (jump_bytes rs (among t)) []) (eq-eqb n (tail_start (among t)) at));
          word = subst (λ z. InRange (instr.Jal 0 z)) (sym same) jump-in-range;
        }
      where
        way-to : ℕ → ℕ → List ℕ
        way-to host from = word_bytes (encoded (instr.Jal 0 (pos (moved_down rs host) -ℤ pos (moved_down rs from))))

    pub later-form : n ≢ t.start → IsFormOf p l n Nothing
    later-form other =
        let own = entry n t over in
        record {
          bytes = sym (covered-bytes ∙ ap (λ b. cond b (jump_bytes rs (among t)) []) (ne_eqb n (tail_start (among t)) (λ e. other (e ∙ sym own.0))));
          word = tt;
        }

  -- ---- in none

  -- a relocation stands where one is found
  any-there : (n : ℕ) → list_any (λ m. eqb m n) relocs ≡ list_any (λ (r : Reloc). asks r && eqb r.offset n) s.relocs
  any-there n =
      sym (list_any-IsPermutation (λ m. eqb m n) (asking_offsets s) relocs is.offsets.same)
      ∙ any-offset n (filter asks s.relocs) ∙ list_any-filter asks (λ (r : Reloc). eqb r.offset n) s.relocs

  reloc-there : (n : ℕ) → list_any (λ m. eqb m n) relocs ≡ true → (r : Reloc) × (reloc_on s n ≡ Some r)
  reloc-there n found =
      let one = one-passing (λ (r : Reloc). asks r && eqb r.offset n) s.relocs (sym (any-there n) ∙ found) in
      let r = one.0 in
      let two = and_parts (asks r) (eqb r.offset n) one.1.1 in
      (r, ap (reloc_on s) (sym (eqb-true r.offset n two.1)) ∙ decides p l good r one.1.0 two.0)

  no-reloc : (n : ℕ) → list_any (λ m. eqb m n) relocs ≡ false → reloc_on s n ≡ None
  no-reloc n none = by (reloc_on s n) refl
    where
      by : (o : Option Reloc) → reloc_on s n ≡ o → o ≡ None
      by None on = refl
      by (Some r) on =
          let held = held_on s n r on in
          let sound = sound_at s n r good.code on in
          let own : asks r ≡ true = ap not sound.asks in
          let test : Reloc → Bool = λ r. asks r && eqb r.offset n in
          let passes : test (get_or s.relocs held.0 r) ≡ true = ap test held.2 ∙ and_from (asks r) (eqb r.offset n) own (eq-eqb r.offset n sound.at) in
          let some = list_any_at test s.relocs held.0 r held.1 passes in
          absurd (let both : true ≡ false = sym some ∙ sym (any-there n) ∙ none in cc)

  -- where a branch or jump leads, and that its new distance has a word
  record IsLed (n : ℕ) (i : Item) : Type 0 where
    low : LeadsWithin (Some i)
    same : transfer_instr (new_distance rs n) i ≡ transfer_instr (down_distance rs n) i
    word : (j : Instr) → transfer_instr (down_distance rs n) i ≡ Some j → InRange j

  raw-led : (n size k : ℕ) → IsLed n (raw_in size s.bytes k)
  raw-led n size k = raw_by (IsLed n) (λ h. record { low = tt; same = refl; word = λ j h. absurd cc }) (λ w. record { low = tt; same = refl; word = λ j h. absurd cc }) size s.bytes k

  op-led : (n : ℕ) (i : Instr) → IsLed n (item.Op i)
  op-led n i = record { low = tt; same = refl; word = λ j h. absurd cc }

  module _ (n : ℕ) (start : starts_on s n ≡ true) (out : find (covers n) rs ≡ None) (none : reloc_on s n ≡ None) where
    spelled : given n ≡ spelled_item p.objects (place_of l n) (instr_in (size_on s n) s.bytes n) (raw_in (size_on s n) s.bytes n)
    spelled = ap (λ r. item_under p (place_of l n) r (size_on s n) s.bytes) none

    -- the offset that it leads to, and the distances
    record IsFar (d : ℤ) (to : Place) : Type 0 where
      low : to.offset ≤ 0x40_0000
      same : new_distance rs n to ≡ down_distance rs n to
      fits : (bits : ℕ) → FitsIn bits d → FitsIn bits (down_distance rs n to)
      even : IsEven d → IsEven (down_distance rs n to)

    far : (d : ℤ) (to : Place) → target_away p.objects (place_of l n) d ≡ Some to → ((k : ℕ) → to ≡ place_of l k → goes_to (place_of l k) (given n) ≡ true) → IsFar d to
    far d to leads goes =
        let away = away-found p (place_of l n) d to leads in
        let k = away.offset in
        let target : is_target_at p.objects (place_of l k) ≡ true = ap (is_target_at p.objects) (sym away.is) ∙ away.target in
        let at = item_there p (place_of l n) s (code_at_is p.objects (place_of l n) s is.there is.code) start in
        let leader = item_leader p (place_of l n) (place_of l k) (given n) at (or_first (goes_to (place_of l k) (given n)) _ (goes k away.is)) in
        let k-out = outside-all rs k (held-around inputs is.faultless l.object l.index s is.there is.code k (leader-held p (place_of l k) target leader)) in
        let n-out = outside-stays rs n (stays-none rs n out) in
        let apart = removed-apart p l in
        let way = way-of n k d away.sum in
        let way' = way-between (moved_down rs n) (moved_down rs k) in
        let offset : to.offset ≡ k = ap (λ (q : Place). q.offset) away.is in
        let e = pos (moved_down rs k) -ℤ pos (moved_down rs n) in
        let is-e : down_distance rs n to ≡ e = ap (λ m. pos (moved_down rs m) -ℤ pos (moved_down rs n)) offset in
        record {
          low = target-within k to offset target;
          same = ap (λ m. pos (merged_offset rs m) -ℤ pos (moved_down rs n)) offset ∙ ap (λ m. pos m -ℤ pos (moved_down rs n)) (leader-found p l good.code good.whole k leader) ∙ sym is-e;
          fits = λ bits f. subst (FitsIn bits) (sym is-e) (still-fits rs apart n k n-out k-out bits d e way way' f);
          even = λ f. subst IsEven (sym is-e) (still-even rs apart n k n-out k-out (even-tails p l good.code good.whole) d e way way' f);
        }
      where
        or_first : (a b : Bool) → a ≡ true → (a || b) ≡ true
        or_first a b e = ap (λ x. x || b) e

        target-within : (k : ℕ) (to : Place) → to.offset ≡ k → is_target_at p.objects (place_of l k) ≡ true → to.offset ≤ 0x40_0000
        target-within k to offset target =
            let on = sym (target_on p.objects (place_of l k) s (code_at_is p.objects (place_of l k) s is.there is.code)) ∙ target in
            let few = short in
            elim (or_cases (starts_on s k) (eqb k (length s.bytes)) on) [
              | inl begins ↦ (let within = (start-even k begins).1 in omega (arith, offset, within, few))
              | inr ends ↦ (let end = eqb-true k (length s.bytes) ends in omega (arith, offset, end, few))
            ]

    led : IsLed n (given n)
    led = subst (IsLed n) (sym spelled) (by (instr_in (size_on s n) s.bytes n) refl)
      where
        raw : Item
        raw = raw_in (size_on s n) s.bytes n

        branch : (op : BranchOp) (first second : ℕ) (d : ℤ) → instr_in (size_on s n) s.bytes n ≡ Some (instr.Branch op first second d) → (o : Option Place) → target_away p.objects (place_of l n) d ≡ o
            → IsLed n (option_map_or (item.Branch op first second) o raw)
        branch op first second d reads None leads = raw-led n (size_on s n) n
        branch op first second d reads (Some to) leads =
            let is-given : given n ≡ item.Branch op first second to =
            spelled ∙ ap (λ x. spelled_item p.objects (place_of l n) x raw) reads ∙ ap (λ o. option_map_or (item.Branch op first second) o raw) leads in
            let f = far d to leads (λ k at. ap (goes_to (place_of l k)) is-given ∙ ap (λ q. goes_to q (item.Branch op first second to)) (sym at) ∙ same_place-refl to) in
            let range = in_range_in (size_on s n) s.bytes n (instr.Branch op first second d) reads in
            record {
              low = f.low;
              same = ap (λ z. Some (instr.Branch op first second z)) f.same;
              word = λ j h. let same : instr.Branch op first second (down_distance rs n to) ≡ j = cc in subst InRange same (f.fits 13 range.0, f.even range.1);
            }

        jump : (rd : ℕ) (d : ℤ) → instr_in (size_on s n) s.bytes n ≡ Some (instr.Jal rd d) → (o : Option Place) → target_away p.objects (place_of l n) d ≡ o → IsLed n (option_map_or (item.Jump rd) o raw)
        jump rd d reads None leads = raw-led n (size_on s n) n
        jump rd d reads (Some to) leads =
            let is-given : given n ≡ item.Jump rd to =
            spelled ∙ ap (λ x. spelled_item p.objects (place_of l n) x raw) reads ∙ ap (λ o. option_map_or (item.Jump rd) o raw) leads in
            let f = far d to leads (λ k at. ap (goes_to (place_of l k)) is-given ∙ ap (λ q. goes_to q (item.Jump rd to)) (sym at) ∙ same_place-refl to) in
            let range = in_range_in (size_on s n) s.bytes n (instr.Jal rd d) reads in
            record {
              low = f.low;
              same = ap (λ z. Some (instr.Jal rd z)) f.same;
              word = λ j h. let same : instr.Jal rd (down_distance rs n to) ≡ j = cc in subst InRange same (f.fits 21 range.0, f.even range.1);
            }

        of : (i : Instr) → instr_in (size_on s n) s.bytes n ≡ Some i → IsLed n (instr_item p.objects (place_of l n) i raw)
        of (instr.Upper op rd imm) reads = op-led n (instr.Upper op rd imm)
        of (instr.Jal rd d) reads = jump rd d reads (target_away p.objects (place_of l n) d) refl
        of (instr.Jalr rd base imm) reads = op-led n (instr.Jalr rd base imm)
        of (instr.Branch op first second d) reads = branch op first second d reads (target_away p.objects (place_of l n) d) refl
        of (instr.Load op rd base imm) reads = op-led n (instr.Load op rd base imm)
        of (instr.Store op source base imm) reads = op-led n (instr.Store op source base imm)
        of (instr.WithImm op rd first imm) reads = op-led n (instr.WithImm op rd first imm)
        of (instr.WithReg op rd first second) reads = op-led n (instr.WithReg op rd first second)
        of (instr.Fence rest) reads = op-led n (instr.Fence rest)
        of instr.Ecall reads = op-led n instr.Ecall
        of instr.Ebreak reads = op-led n instr.Ebreak
        of (instr.Csrrw rd source) reads = raw-led n (size_on s n) n

        by : (o : Option Instr) → instr_in (size_on s n) s.bytes n ≡ o → IsLed n (spelled_item p.objects (place_of l n) o raw)
        by None reads = raw-led n (size_on s n) n
        by (Some i) reads = of i reads

  -- ---- at a place

  module _ (place : CodePlace) (st : IsPlaceInCode p l place) where
    abbrev n : ℕ
    n = place.offset

    abbrev own : List ℕ
    own = take (size_on s n) (drop n s.bytes)

    pub place-item : place.item ≡ Some (given n)
    place-item = ap (λ (q : CodePlace). q.item) st.is ∙ item_there p (place_of l n) s (code_at_is p.objects (place_of l n) s is.there is.code) st.start

    pub place-size : place.size ≡ size_on s n
    place-size = ap (λ (q : CodePlace). q.size) st.is ∙ size-there p l is.there is.code n

    pub place-low : n ≤ 0x40_0000
    place-low = let within = (start-even n st.start).1 in let few = short in omega (arith, within, few)

    pub place-within : n + place.size ≤ length s.bytes
    place-within = let size = place-size in let within = (held-at p l good.code good.whole n st.start).within in omega (arith, size, within)

    module _ (over : tail_over tails n ≡ None) where
      kept : item_bytes rs s (code_item p l n) ≡ kept_bytes rs s (code_item p l n)
      kept = ap (λ o. option_map_or (λ r. cond (eqb n (tail_start r)) (jump_bytes rs r) []) o (kept_bytes rs s (code_item p l n))) (covering n ∙ ap (option_map among) over)

      led-here : reloc_on s n ≡ None → IsLed n (given n)
      led-here none = led n st.start (covering n ∙ ap (option_map among) over) none

      -- with a relocation it is copied
      pub copied-form : list_any (λ m. eqb m n) relocs ≡ true → IsFormOf p l n Own
      copied-form found =
          let r = reloc-there n found in
          record {
            bytes = sym (kept ∙ ap (λ o. option_map_or (λ r. own) o (option_map_or (instr_bytes (size_on s n)) (transfer_instr (new_distance rs n) (given n)) own)) r.1);
            word = tt;
          }

      module _ (absent : list_any (λ m. eqb m n) relocs ≡ false) where
        pub place-leads : LeadsWithin place.item
        place-leads = subst LeadsWithin (sym place-item) (led-here (no-reloc n absent)).low

        transferred : (o : Option Instr) → o ≡ option_and_then (transfer_instr (down_distance (removed_at p l.object l.index) n)) place.item → transfer_instr (down_distance rs n) (given n) ≡ o
        transferred o is-o = sym (is-o ∙ ap (option_and_then (transfer_instr (down_distance (removed_at p l.object l.index) n))) place-item ∙ ap (λ gone. transfer_instr (down_distance gone n) (given n)) removed-is)

        kept-plain : (o : Option Instr) → transfer_instr (down_distance rs n) (given n) ≡ o → item_bytes rs s (code_item p l n) ≡ option_map_or (instr_bytes (size_on s n)) o own
        kept-plain o is-o =
            kept ∙ ap (λ x. option_map_or (λ r. own) x (option_map_or (instr_bytes (size_on s n)) (transfer_instr (new_distance rs n) (given n)) own)) (no-reloc n absent)
            ∙ ap (λ x. option_map_or (instr_bytes (size_on s n)) x own) ((led-here (no-reloc n absent)).same ∙ is-o)

        pub same-form : None ≡ option_and_then (transfer_instr (down_distance (removed_at p l.object l.index) n)) place.item → IsFormOf p l n Own
        same-form is-o = record { bytes = sym (kept-plain None (transferred None is-o)); word = tt }

        pub new-form : (i : Instr) → Some i ≡ option_and_then (transfer_instr (down_distance (removed_at p l.object l.index) n)) place.item → IsFormOf p l n (Spelled i place.size)
        new-form i is-o = record {
          bytes = ap (λ k. instr_bytes k i) place-size ∙ sym (kept-plain (Some i) (transferred (Some i) is-o));
          word = (led-here (no-reloc n absent)).word i (transferred (Some i) is-o);
        }

  -- ---- item after item

  module _ (places starts : List CodePlace) (are : places ≡ code_places p l) (sub : starts ≡ take (length places - 1) places) where
    starts-are : starts ≡ map (code_place p l) (starts_in s)
    starts-are = item-places p l is.there is.code places starts are sub

    pub item-count : length starts ≡ length items
    item-count = ap length starts-are ∙ length-map (starts_in s) (code_place p l) ∙ sym (length-map (starts_in s) (code_item p l))

    pub all-bytes : (k : ℕ) → length starts ≤ k → flat_map (item_bytes rs s) (take k items) ≡ flat_map (item_bytes rs s) items
    all-bytes k high = ap (flat_map (item_bytes rs s)) (take_all k items (let count = item-count in omega (arith, count, high)))

    module _ (k : ℕ) (low : k < length starts) (d place : CodePlace) (here : place ≡ get_or starts k d) where
      abbrev place-at : ℕ
      place-at = get_or (starts_in s) k 0

      in-starts : k < length (starts_in s)
      in-starts = let count = ap length starts-are in let size = length-map (starts_in s) (code_place p l) in omega (arith, low, count, size)

      place-is : place ≡ code_place p l place-at
      place-is = here ∙ place-there p l is.there is.code places starts are sub k low d

      pub start-here : IsPlaceInCode p l place
      start-here =
          subst (IsPlaceInCode p l) (sym place-is)
          (record { is = refl; start = list_any_at (λ m. eqb m place-at) (starts_in s) k 0 in-starts (eq-eqb place-at place-at refl) })

      pub bytes-more : (out given-bytes : List ℕ) (form : ItemForm) → out ≡ flat_map (item_bytes rs s) (take k items) → given-bytes ≡ take place.size (drop place.offset s.bytes)
          → IsFormOf p l place.offset form → out ++ form_bytes given-bytes form ≡ flat_map (item_bytes rs s) (take (k + 1) items)
      bytes-more out given-bytes form so_far bytes-are is-form =
          let f = item_bytes rs s in
          let offset : place.offset ≡ place-at = ap (λ (q : CodePlace). q.offset) place-is in
          let whole : given-bytes ≡ take (size_on s place.offset) (drop place.offset s.bytes) = bytes-are ∙ ap (λ m. take m (drop place.offset s.bytes)) (place-size place start-here) in
          let written : form_bytes given-bytes form ≡ f (code_item p l place-at) = ap (λ o. form_bytes o form) whole ∙ is-form.bytes ∙ ap (λ m. f (code_item p l m)) offset in
          let inside = in-starts in
          let count = length-map (starts_in s) (code_item p l) in
          let next = take_more items k (code_item p l place-at) (omega (arith, count, inside)) in
          let item = get_or-map (code_item p l) (starts_in s) k 0 (code_item p l place-at) inside in
          ap₂ (λ o b. o ++ b) so_far written
          ∙ flat_map_more f [] (take k items) (code_item p l place-at)
          ∙ ap (flat_map f) (sym (next ∙ ap (λ c. take k items ++ c ∷ []) item))
