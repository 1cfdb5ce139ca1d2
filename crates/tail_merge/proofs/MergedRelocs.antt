-- The relocations of a section of code whose equal tails are shared: each that asks for something stands where it moves to, and is
-- right there. So they decide the same items.
use Rattle.std.proofs.Common.{◌≡◌, ℕ, zero, suc, ◌+◌, ◌%◌, ◌≤◌, ◌<◌, ℤ, max, min, List, [], ◌∷◌, filter, length, map, take, drop, Bool, true, false, cond, refl, sym, ap, ap₂, ◌∙◌, subst, arith, eqb, ltb, inl, inr, get_or, slice_get, Option, Some, None}
use Rattle.std.specs.Prelude.{◌&&◌, ◌||◌, not, All, Contains}
use Rattle.std.specs.List.{find}
use Rattle.std.specs.Option.{option_map, option_map_or, option_or}
use Rattle.std.proofs.lemmas.Bool.{and_parts, cases_lt, eq-eqb, eqb-true, le-ltb, lt-ltb, ltb-false, not-true, or_parts}
use Rattle.std.proofs.lemmas.List.{drop-drop, drop-take}
use Rattle.std.proofs.lemmas.List.Elements.{All-cons, All-nil}
use Rattle.std.proofs.lemmas.Option.{slice_get-get_or}
use Rattle.elf32_read.specs.Parts.{SectionParts, is_code_section}
use Rattle.elf32_read.specs.declared.fault.Fault.{Fault}
use Rattle.elf32_read.specs.declared.fault.Fault.TheVariants.{BadTarget, LoPair, RelocKind as KindFault, RelocPlace}
use Rattle.elf32_read.specs.declared.reloc.Reloc.{Reloc}
use Rattle.psabi_reloc.specs.Kinds.{field_length, fits, is_auipc, is_call, is_lui, is_store, is_sum, kind_of}
use Rattle.psabi_reloc.specs.declared.kind.RelocKind.{RelocKind}
use Rattle.psabi_reloc.specs.declared.kind.RelocKind.TheVariants as kind
use Rattle.psabi_sym.specs.Faults.{gather_fault}
use Rattle.psabi_sym.specs.Inputs.{Inputs, ParsedInputs, parsed}
use Rattle.psabi_sym.specs.Indexed.{IndexedSection, section_at}
use Rattle.psabi_sym.proofs.FaultLaws.{neither}
use Rattle.rv_decode.specs.declared.instr.Instr.{Instr}
use Rattle.rv_decode.specs.declared.instr.Instr.TheVariants as instr
use Rattle.block_cut.specs.CodeSizes.{code_step, own_size}
use Rattle.block_cut.specs.Faults.{first_fault, has_bad_target, if_so, is_stray, lacks_pcrel_hi, relocs_fault}
use Rattle.block_cut.specs.Items.{size_on, starts_on, target_of}
use Rattle.block_cut.specs.Relocs.{field_end, field_of, fits_at, instr_in, is_bad_kind, is_bad_place, is_ignored, is_placed, is_sound, overlap, overlaps_another, reloc_on}
use Rattle.block_cut.specs.Resolved.{asks}
use Rattle.block_cut.specs.Whole.{IsWhole}
use Rattle.block_cut.proofs.AskingLaws.{overlaps_same, sound_asks}
use Rattle.block_cut.proofs.DataLaws.{reloc_none}
use Rattle.block_cut.proofs.FaultLaws.{section_fine}
use Rattle.block_cut.proofs.SoundLaws.{IsSoundAt, found_passes, sound_parts}
use Rattle.block_cut.proofs.StartLaws.{along, none_within}
use Rattle.block_cut.proofs.StrayLaws.{held_on}
use Rattle.block_cut.proofs.WholeLaws.{inputs_whole}
use Rattle.tail_merge.specs.Tails.{CodeItem, Removed, code_item, code_items, covers, moved_down, removed_tails}
use Rattle.tail_merge.specs.Merged.{addend_to, is_align_kind, instr_bytes, merged_bytes, merged_reloc, merged_section, new_distance, removed_at, transfer_instr}
use Rattle.tail_merge.proofs.OffsetLaws.{Outside}
use Rattle.tail_merge.proofs.PlacedLaws.{IsClear, width_in, width-step}
use Rattle.tail_merge.proofs.ItemsLaws.{item-of-all, items-clear, removed-apart, removed-items, start-split}
use Rattle.tail_merge.proofs.ReadLaws.{SameBytes, long-same, short-same}
use Rattle.tail_merge.proofs.WrittenLaws.{IsHeld, copied-same}
use Rattle.tail_merge.proofs.HeldLaws.{items-held, new-length, removed-ends}
use Rattle.tail_merge.proofs.CoveredLaws.{IsWholeTail, covered-plain, down-eqb, down-most, down-steps, outside-behind, outside-next, outside-stays, stays-none, sum-steps}

-- ---- sections of code without a fault

-- each relocation that asks for something is right, and stands where an item starts
pub record IsGoodCode (inputs : ParsedInputs) (l : IndexedSection) : Type 0 where
  pub at : section_at inputs.objects l.object l.index ≡ Some l.section
  pub code : is_code_section l.section ≡ true
  pub whole : IsWhole l.section
  pub sound : (r : Reloc) → Contains l.section.relocs r → asks r ≡ true → is_sound l.section r ≡ true
  pub starts : (r : Reloc) → Contains l.section.relocs r → asks r ≡ true → starts_on l.section r.offset ≡ true

no-fault : (a b c d : Bool) (f g h i : Fault) → option_or (if_so a f) (option_or (if_so b g) (option_or (if_so c h) (option_or (if_so d i) None))) ≡ None → (a ≡ false) × (b ≡ false)
no-fault false false c d f g h i e = (refl, refl)
no-fault true b c d f g h i e = absurd cc
no-fault false true c d f g h i e = absurd cc

pub good-code : (inputs : Inputs) → first_fault inputs ≡ None → (l : IndexedSection) → section_at (parsed inputs).objects l.object l.index ≡ Some l.section → is_code_section l.section ≡ true → IsGoodCode (parsed inputs) l
unfolding first_fault
good-code inputs none l at code =
    let one = neither (gather_fault inputs) _ none in
    let two = neither (relocs_fault (parsed inputs)) _ one.1 in
    record {
      at = at;
      code = code;
      whole = inputs_whole inputs l.object l.index l.section one.0 at code;
      sound = λ r held asking. let is = fine two.0 r held in (λ j. asking j && (not (is.0 j) && not (is.1.0 j)));
      starts = λ r held asking. started r asking (fine two.0 r held).1.1;
    }
  where
    fine : relocs_fault (parsed inputs) ≡ None → (r : Reloc) → Contains l.section.relocs r → (is_bad_kind l.section (kind_of r.kind) ≡ false) × ((is_bad_place l.section r ≡ false) × (is_stray l.section r ≡ false))
    fine relocs r held =
        let got : slice_get l.section.relocs held.0 ≡ Some r = slice_get-get_or l.section.relocs held.0 r held.1 ∙ ap Some held.2 in
        let is = no-fault (is_bad_kind l.section (kind_of r.kind)) (is_bad_place l.section r || is_stray l.section r) (lacks_pcrel_hi (parsed inputs) l r) (has_bad_target (parsed inputs) l r)
        (KindFault l.index r.offset) (RelocPlace l.index r.offset) (LoPair l.index r.offset) (BadTarget l.index r.offset)
        (reloc_none (parsed inputs) l.object l.index l.section at (section_fine (parsed inputs) relocs l.object l.index l.section at) held.0 r got) in
        (is.0, or_parts (is_bad_place l.section r) (is_stray l.section r) is.1)

    started : (r : Reloc) → asks r ≡ true → is_stray l.section r ≡ false → starts_on l.section r.offset ≡ true
    started r asking stray = by (starts_on l.section r.offset) refl
      where
        by : (b : Bool) → starts_on l.section r.offset ≡ b → starts_on l.section r.offset ≡ true
        by true is = is
        by false is = absurd (let astray : is_stray l.section r ≡ true = (λ j. code j && (asking j && not (is j))) in cc)

-- ---- what becomes of it

-- a section of code with its equal tails shared
abbrev pub merged_code : ParsedInputs → IndexedSection → SectionParts
merged_code inputs l = record l.section {
  relocs = map (merged_reloc inputs l.object (removed_tails inputs l)) (filter asks l.section.relocs);
  size = length (merged_bytes inputs l);
  bytes = merged_bytes inputs l;
}

pub merged-code : (inputs : ParsedInputs) (l : IndexedSection) → section_at inputs.objects l.object l.index ≡ Some l.section → is_code_section l.section ≡ true → merged_section inputs l.object l.index l.section ≡ merged_code inputs l
merged-code inputs l at code =
    let removed : removed_at inputs l.object l.index ≡ removed_tails inputs l =
    ap (λ o. option_map_or (λ s. cond (is_code_section s) (removed_tails inputs (record { object = l.object; index = l.index; section = s })) []) o []) at
    ∙ ap (λ b. cond b (removed_tails inputs l) []) code in
    let other : SectionParts = record l.section { relocs = map (merged_reloc inputs l.object (removed_at inputs l.object l.index)) (filter asks l.section.relocs) } in
    ap (λ b. cond b (record other { size = length (merged_bytes inputs l); bytes = merged_bytes inputs l }) other) code
    ∙ ap (λ rs. record l.section { relocs = map (merged_reloc inputs l.object rs) (filter asks l.section.relocs); size = length (merged_bytes inputs l); bytes = merged_bytes inputs l }) removed

-- ---- lists of relocations

-- one that passes a test is found, or one before it
found-some : (p : Reloc → Bool) (xs : List Reloc) (x : Reloc) → Contains xs x → p x ≡ true → (y : Reloc) × (find p xs ≡ Some y)
found-some p [] x held passes = absurd (let lt = held.1 in omega (arith, lt))
found-some p (y ∷ ys) x held passes = by (λ there. found-some p ys x there passes) (p y) refl
  where
    later : (Contains ys x → (z : Reloc) × (find p ys ≡ Some z)) → (k : ℕ) → k < length (y ∷ ys) → get_or (y ∷ ys) k x ≡ x → p y ≡ false → (z : Reloc) × (find p ys ≡ Some z)
    later more zero lt is fails = absurd (let same = ap p is in cc)
    later more (suc k) lt is fails = more (k, omega (arith, lt), is)

    by : (Contains ys x → (z : Reloc) × (find p ys ≡ Some z)) → (b : Bool) → p y ≡ b → (z : Reloc) × (cond b (Some y) (find p ys) ≡ Some z)
    by more true here = (y, refl)
    by more false fails = later more held.0 held.1 held.2 fails

-- and stays when those that pass are kept
contains-filter : (p : Reloc → Bool) (xs : List Reloc) (x : Reloc) → Contains xs x → p x ≡ true → Contains (filter p xs) x
contains-filter p [] x held passes = absurd (let lt = held.1 in omega (arith, lt))
contains-filter p (y ∷ ys) x held passes = at (λ there. contains-filter p ys x there passes) held.0 held.1 held.2
  where
    next : Contains (filter p ys) x → (b : Bool) → Contains (cond b (y ∷ filter p ys) (filter p ys)) x
    next there true = (suc there.0, (let lt = there.1 in omega (arith, lt)), there.2)
    next there false = there

    at : (Contains ys x → Contains (filter p ys) x) → (k : ℕ) → k < length (y ∷ ys) → get_or (y ∷ ys) k x ≡ x → Contains (cond (p y) (y ∷ filter p ys) (filter p ys)) x
    at more zero lt is = subst (λ b. Contains (cond b (y ∷ filter p ys) (filter p ys)) x) (sym (ap p is ∙ passes)) (0, omega arith, is)
    at more (suc k) lt is = next (more (k, omega (arith, lt), is)) (p y)

-- a list of one element has no other
one-alone : (xs : List Reloc) (x y : Reloc) → length xs ≤ 1 → Contains xs x → Contains xs y → x ≡ y
one-alone [] x y few hx hy = absurd (let lt = hx.1 in omega (arith, lt))
one-alone (z ∷ w ∷ zs) x y few hx hy = absurd (omega (arith, few))
one-alone (z ∷ []) x y few hx hy = sym (at x hx.0 hx.1 hx.2) ∙ at y hy.0 hy.1 hy.2
  where
    at : (v : Reloc) (k : ℕ) → k < length (z ∷ []) → get_or (z ∷ []) k v ≡ v → z ≡ v
    at v zero lt is = is
    at v (suc k) lt is = absurd (omega (arith, lt))

-- ---- the same instructions at another offset

later-same : (j k : ℕ) (xs : List ℕ) (n : ℕ) (ys : List ℕ) (m : ℕ) → SameBytes (j + k) xs n ys m → SameBytes k xs (n + j) ys (m + j)
later-same j k xs n ys m same =
    ap (take k) (sym (drop-drop j n xs))
    ∙ sym (drop-take j k (drop n xs))
    ∙ ap (drop j) same
    ∙ drop-take j k (drop m ys)
    ∙ ap (take k) (drop-drop j m ys)

branch-first : (first x y : Option Instr) → fits kind.Branch first x ≡ fits kind.Branch first y
branch-first None x y = refl
branch-first (Some (instr.Branch op left right distance)) x y = refl
branch-first (Some i) x y = refl

jal-first : (first x y : Option Instr) → fits kind.Jal first x ≡ fits kind.Jal first y
jal-first None x y = refl
jal-first (Some (instr.Jal rd distance)) x y = refl
jal-first (Some i) x y = refl

-- the field of a relocation, whose addend counts for an ALIGN alone
field-length : (k : Option RelocKind) (a b : ℤ) → field_length k (cond (is_align_kind k) a b) ≡ field_length k a
field-length None a b = refl
field-length (Some kind.Ignored) a b = refl
field-length (Some kind.Word) a b = refl
field-length (Some kind.Branch) a b = refl
field-length (Some kind.Jal) a b = refl
field-length (Some kind.Call) a b = refl
field-length (Some kind.PcrelHi20) a b = refl
field-length (Some kind.PcrelLo12I) a b = refl
field-length (Some kind.PcrelLo12S) a b = refl
field-length (Some kind.Hi20) a b = refl
field-length (Some kind.Lo12I) a b = refl
field-length (Some kind.Lo12S) a b = refl
field-length (Some kind.RvcBranch) a b = refl
field-length (Some kind.RvcJump) a b = refl
field-length (Some kind.Align) a b = refl

pub field-merged : (inputs : ParsedInputs) (o : ℕ) (rs : List Removed) (r : Reloc) → field_of (merged_reloc inputs o rs r) ≡ field_of r
field-merged inputs o rs r = field-length (kind_of r.kind) r.addend (addend_to inputs o r (target_of inputs o r))

module _ (inputs : ParsedInputs) (l : IndexedSection) (good : IsGoodCode inputs l) where
  abbrev s : SectionParts
  s = l.section

  abbrev t : SectionParts
  t = merged_code inputs l

  abbrev rs : List Removed
  rs = removed_tails inputs l

  abbrev D : ℕ → ℕ
  D n = moved_down rs n

  abbrev F : Reloc → Reloc
  F r = merged_reloc inputs l.object rs r

  -- ---- items

  held : All (IsHeld s) (code_items inputs l)
  held = items-held inputs l good.code good.whole

  pub start-clear : (n : ℕ) → starts_on s n ≡ true → All (IsClear (code_item inputs l n)) rs
  start-clear n start = item-of-all (λ (d : CodeItem). All (IsClear d) rs) inputs l n start (items-clear inputs l)

  pub start-held : (n : ℕ) → starts_on s n ≡ true → IsHeld s (code_item inputs l n)
  start-held n start = item-of-all (IsHeld s) inputs l n start held

  -- what lies in no removed tail keeps its size
  pub next-kept : (n : ℕ) → starts_on s n ≡ true → find (covers n) rs ≡ None → D (n + size_on s n) ≡ D n + size_on s n
  next-kept n start none =
      width-step 0 rs (code_item inputs l n) (removed-apart inputs l) (start-clear n start) (start-held n start).some
      ∙ ap (λ o. D n + width_in (code_item inputs l n) o) none

  pub next-outside : (n : ℕ) → starts_on s n ≡ true → find (covers n) rs ≡ None → Outside rs (n + size_on s n)
  next-outside n start none = outside-next rs (code_item inputs l n) (start-clear n start) none

  pub end-outside : Outside rs (length s.bytes)
  end-outside = outside-behind rs (length s.bytes) (removed-ends inputs l good.code good.whole)

  pub length-moved : length t.bytes ≡ D (length s.bytes)
  length-moved = new-length inputs l good.code good.whole

  pub down-length : (n : ℕ) → Outside rs n → n ≤ length s.bytes → D n ≤ length t.bytes
  down-length n out le =
      let most = down-most 0 rs n (length s.bytes) (removed-apart inputs l) out end-outside le in
      let end = length-moved in
      omega (arith, most, end)

  -- offsets stay at whole steps
  sizes-whole : All (λ (d : CodeItem). d.size % code_step s.compressed ≡ 0) (code_items inputs l)
  sizes-whole =
      along s good.code good.whole (λ n xs. All (λ (d : CodeItem). d.size % code_step s.compressed ≡ 0) (map (code_item inputs l) xs))
      (All-nil (λ (d : CodeItem). d.size % code_step s.compressed ≡ 0))
      (λ n xs lt words st above rest. All-cons (λ (d : CodeItem). d.size % code_step s.compressed ≡ 0) (code_item inputs l n) (map (code_item inputs l) xs) st.words rest)

  pub tails-whole : All (IsWholeTail s.compressed) rs
  tails-whole =
      let all = removed-items (λ (d : CodeItem). d.size % code_step s.compressed ≡ 0) inputs l sizes-whole in
      λ k d lt. sum-steps s.compressed (get_or rs k d).tail (all k d lt).0

  pub moved-steps : (n : ℕ) → Outside rs n → n % code_step s.compressed ≡ 0 → D n % code_step s.compressed ≡ 0
  moved-steps n out is = down-steps s.compressed 0 rs n (removed-apart inputs l) tails-whole out is

  -- ---- a relocation that asks for something

  -- it shares bytes with itself alone
  few : (r : Reloc) → asks r ≡ true → is_sound s r ≡ true → length (filter (overlap r) s.relocs) ≤ 1
  few r asking sound =
      let k = kind_of r.kind in
      let two = and_parts (not (is_ignored k)) _ sound in
      let rest = and_parts (not (is_bad_kind s k)) (not (is_bad_place s r)) two.1 in
      let fine : (ltb s.size (field_end r) || (not (is_placed s r) || overlaps_another s.relocs r)) ≡ false =
      ap (λ b. b && (ltb s.size (field_end r) || (not (is_placed s r) || overlaps_another s.relocs r))) (sym asking) ∙ not-true (is_bad_place s r) rest.1 in
      ltb-false 1 (length (filter (overlap r) s.relocs)) (or_parts (not (is_placed s r)) (overlaps_another s.relocs r) (or_parts (ltb s.size (field_end r)) _ fine).1).1

  -- it decides the item where it stands
  pub decides : (r : Reloc) → Contains s.relocs r → asks r ≡ true → reloc_on s r.offset ≡ Some r
  unfolding reloc_on
  decides r there asking =
      let sound = good.sound r there asking in
      let passes : (is_sound s r && eqb r.offset r.offset) ≡ true = ap₂ (λ a b. a && b) sound (eq-eqb r.offset r.offset refl) in
      let found = found-some (λ x. is_sound s x && eqb x.offset r.offset) s.relocs r there passes in
      found.1 ∙ ap Some (sym (same found.0 found.1))
    where
      own : IsSoundAt s r.offset r
      own = sound_parts s r good.code (good.sound r there asking)

      same : (y : Reloc) → find (λ x. is_sound s x && eqb x.offset r.offset) s.relocs ≡ Some y → r ≡ y
      same y is =
          let two = and_parts (is_sound s y) (eqb y.offset r.offset) (found_passes (λ x. is_sound s x && eqb x.offset r.offset) s.relocs y is) in
          let at = eqb-true y.offset r.offset two.1 in
          let other = (sound_parts s y good.code two.0).field.some in
          let some = own.field.some in
          let shares : overlap r y ≡ true = lt-ltb (max r.offset y.offset) (min (field_end r) (field_end y)) (omega (arith, at, some, other)) in
          let itself : overlap r r ≡ true = lt-ltb (max r.offset r.offset) (min (field_end r) (field_end r)) (omega (arith, some)) in
          one-alone (filter (overlap r) s.relocs) r y (few r asking (good.sound r there asking))
          (contains-filter (overlap r) s.relocs r there itself)
          (contains-filter (overlap r) s.relocs y (held_on s r.offset y is) shares)

  -- it stands outside of removed tails, and its field moves as a whole
  pub record IsMovedField (r : Reloc) : Type 0 where
    pub start : starts_on s r.offset ≡ true
    pub none : find (covers r.offset) rs ≡ None
    pub size : size_on s r.offset ≡ field_of r
    pub some : 2 ≤ field_of r
    pub outside : Outside rs r.offset
    pub end_outside : Outside rs (r.offset + field_of r)
    pub end : D (r.offset + field_of r) ≡ D r.offset + field_of r
    pub same : SameBytes (field_of r) t.bytes (D r.offset) s.bytes r.offset

  not-removed : (n : ℕ) (r : Reloc) → starts_on s n ≡ true → reloc_on s n ≡ Some r → find (covers n) rs ≡ None
  not-removed n r start on = by (find (covers n) rs) refl
    where
      by : (o : Option Removed) → find (covers n) rs ≡ o → find (covers n) rs ≡ None
      by None is = is
      by (Some q) is = absurd (let none = covered-plain inputs l n start q is in cc)

  bytes-same : (n : ℕ) (r : Reloc) → starts_on s n ≡ true → reloc_on s n ≡ Some r → find (covers n) rs ≡ None → SameBytes (size_on s n) t.bytes (D n) s.bytes n
  bytes-same n r start on none =
      let split = start-split inputs l n start in
      let own : List ℕ = take (size_on s n) (drop n s.bytes) in
      copied-same inputs l held split.0 split.1 (code_item inputs l n) split.2 (start-held n start).within none
      (ap (λ o. option_map_or (λ r. own) o (option_map_or (instr_bytes (size_on s n)) (transfer_instr (new_distance rs n) (code_item inputs l n).item) own)) on)

  pub moved-field : (r : Reloc) → Contains s.relocs r → asks r ≡ true → IsMovedField r
  moved-field r there asking =
      let n = r.offset in
      let start = good.starts r there asking in
      let on = decides r there asking in
      let none = not-removed n r start on in
      let size : size_on s n ≡ field_of r = ap (λ o. option_map_or field_of o (own_size s.compressed s.bytes n)) on in
      record {
        start = start;
        none = none;
        size = size;
        some = (sound_parts s r good.code (good.sound r there asking)).field.some;
        outside = outside-stays rs n (stays-none rs n none);
        end_outside = subst (λ k. Outside rs (n + k)) size (next-outside n start none);
        end = subst (λ k. D (n + k) ≡ D n + k) size (next-kept n start none);
        same = subst (λ k. SameBytes k t.bytes (D n) s.bytes n) size (bytes-same n r start on none);
      }

  -- ---- it is right where it moves to

  fits-same : (n m : ℕ) (k : Option RelocKind) (a b : ℤ) → SameBytes (field_length k a) t.bytes m s.bytes n → fits_at t m (cond (is_align_kind k) a b) k ≡ fits_at s n a k
  fits-same n m None a b same = refl
  fits-same n m (Some kind.Ignored) a b same = refl
  fits-same n m (Some kind.Word) a b same = refl
  fits-same n m (Some kind.Branch) a b same = ap (λ i. fits kind.Branch i (instr_in 4 t.bytes (m + 4))) (long-same 4 t.bytes m s.bytes n same (omega arith)) ∙ branch-first (instr_in 4 s.bytes n) (instr_in 4 t.bytes (m + 4)) (instr_in 4 s.bytes (n + 4))
  fits-same n m (Some kind.Jal) a b same = ap (λ i. fits kind.Jal i (instr_in 4 t.bytes (m + 4))) (long-same 4 t.bytes m s.bytes n same (omega arith)) ∙ jal-first (instr_in 4 s.bytes n) (instr_in 4 t.bytes (m + 4)) (instr_in 4 s.bytes (n + 4))
  fits-same n m (Some kind.Call) a b same = ap₂ is_call (long-same 8 t.bytes m s.bytes n same (omega arith)) (long-same 4 t.bytes (m + 4) s.bytes (n + 4) (later-same 4 4 t.bytes m s.bytes n same) (omega arith))
  fits-same n m (Some kind.PcrelHi20) a b same = ap is_auipc (long-same 4 t.bytes m s.bytes n same (omega arith))
  fits-same n m (Some kind.PcrelLo12I) a b same = ap is_sum (long-same 4 t.bytes m s.bytes n same (omega arith))
  fits-same n m (Some kind.PcrelLo12S) a b same = ap is_store (long-same 4 t.bytes m s.bytes n same (omega arith))
  fits-same n m (Some kind.Hi20) a b same = ap is_lui (long-same 4 t.bytes m s.bytes n same (omega arith))
  fits-same n m (Some kind.Lo12I) a b same = ap is_sum (long-same 4 t.bytes m s.bytes n same (omega arith))
  fits-same n m (Some kind.Lo12S) a b same = ap is_store (long-same 4 t.bytes m s.bytes n same (omega arith))
  fits-same n m (Some kind.RvcBranch) a b same = ap (λ i. fits kind.RvcBranch i None) (short-same 2 t.bytes m s.bytes n same (omega arith))
  fits-same n m (Some kind.RvcJump) a b same = ap (λ i. fits kind.RvcJump i None) (short-same 2 t.bytes m s.bytes n same (omega arith))
  fits-same n m (Some kind.Align) a b same = refl

  -- two fields overlap where they did
  overlap-merged : (r x : Reloc) → IsMovedField r → IsMovedField x → overlap (F r) (F x) ≡ overlap r x
  overlap-merged r x mr mx =
      let fr = field-merged inputs l.object rs r in
      let fx = field-merged inputs l.object rs x in
      let er = mr.end in
      let ex = mx.end in
      let sr = mr.some in
      let sx = mx.some in
      let zr = mr.size in
      let zx = mx.size in
      elim (cases_lt r.offset x.offset) [
        | inl lt ↦
            let past = behind r x mr mx lt in
            let down = down-most 0 rs (r.offset + field_of r) x.offset (removed-apart inputs l) mr.end_outside mx.outside past in
            le-ltb (max (D r.offset) (D x.offset)) (min (field_end (F r)) (field_end (F x))) (omega (arith, fr, fx, er, down))
            ∙ sym (le-ltb (max r.offset x.offset) (min (field_end r) (field_end x)) (omega (arith, past)))
        | inr ge ↦ elim (cases_lt x.offset r.offset) [
          | inl lt ↦
              let past = behind x r mx mr lt in
              let down = down-most 0 rs (x.offset + field_of x) r.offset (removed-apart inputs l) mx.end_outside mr.outside past in
              le-ltb (max (D r.offset) (D x.offset)) (min (field_end (F r)) (field_end (F x))) (omega (arith, fr, fx, ex, down))
              ∙ sym (le-ltb (max r.offset x.offset) (min (field_end r) (field_end x)) (omega (arith, past)))
          | inr le ↦
              let at : r.offset ≡ x.offset = omega (arith, ge, le) in
              let down = ap D at in
              lt-ltb (max (D r.offset) (D x.offset)) (min (field_end (F r)) (field_end (F x))) (omega (arith, fr, fx, down, sr, sx))
              ∙ sym (lt-ltb (max r.offset x.offset) (min (field_end r) (field_end x)) (omega (arith, at, sr, sx)))
        ]
      ]
    where
      behind : (r x : Reloc) → IsMovedField r → IsMovedField x → r.offset < x.offset → r.offset + field_of r ≤ x.offset
      behind r x mr mx lt =
          let size = mr.size in
          elim (cases_lt x.offset (r.offset + size_on s r.offset)) [
            | inl inside ↦ absurd (let none = none_within s good.code good.whole r.offset x.offset mr.start lt inside in let start = mx.start in cc)
            | inr past ↦ omega (arith, past, size)
          ]

  overlaps-merged : (r : Reloc) → IsMovedField r → overlaps_another t.relocs (F r) ≡ overlaps_another s.relocs r
  overlaps-merged r mr = ap (λ n. ltb 1 n) (all s.relocs (λ x there. there)) ∙ overlaps_same r s.relocs
    where
      all : (xs : List Reloc) → ((x : Reloc) → Contains xs x → Contains s.relocs x) → length (filter (overlap (F r)) (map F (filter asks xs))) ≡ length (filter (overlap r) (filter asks xs))
      all [] sub = refl
      all (x ∷ xs) sub = by (asks x) refl (all xs (λ y there. sub y (suc there.0, (let lt = there.1 in omega (arith, lt)), there.2)))
        where
          more : (b : Bool) → length (filter (overlap (F r)) (map F (filter asks xs))) ≡ length (filter (overlap r) (filter asks xs))
              → length (cond b (F x ∷ filter (overlap (F r)) (map F (filter asks xs))) (filter (overlap (F r)) (map F (filter asks xs)))) ≡ length (cond b (x ∷ filter (overlap r) (filter asks xs)) (filter (overlap r) (filter asks xs)))
          more true rest = ap suc rest
          more false rest = rest

          by : (b : Bool) → asks x ≡ b → length (filter (overlap (F r)) (map F (filter asks xs))) ≡ length (filter (overlap r) (filter asks xs))
              → length (filter (overlap (F r)) (map F (cond b (x ∷ filter asks xs) (filter asks xs)))) ≡ length (filter (overlap r) (cond b (x ∷ filter asks xs) (filter asks xs)))
          by true asking rest =
              ap (λ c. length (cond c (F x ∷ filter (overlap (F r)) (map F (filter asks xs))) (filter (overlap (F r)) (map F (filter asks xs))))) (overlap-merged r x mr (moved-field x (sub x (0, omega arith, refl)) asking))
              ∙ more (overlap r x) rest
          by false quiet rest = rest

  -- so it is right
  pub sound-merged : (r : Reloc) → Contains s.relocs r → asks r ≡ true → is_sound t (F r) ≡ is_sound s r
  sound-merged r there asking =
      let k = kind_of r.kind in
      let own = sound_parts s r good.code (good.sound r there asking) in
      let mr = moved-field r there asking in
      let field = field-merged inputs l.object rs r in
      let end = mr.end in
      let bytes = good.whole.bytes in
      let inside = own.inside in
      let low = down-length (r.offset + field_of r) mr.end_outside (omega (arith, inside, bytes)) in
      let within : ltb t.size (field_end (F r)) ≡ ltb s.size (field_end r) =
      le-ltb t.size (field_end (F r)) (omega (arith, field, end, low)) ∙ sym (le-ltb s.size (field_end r) (omega (arith, inside))) in
      let words : eqb (D r.offset % code_step s.compressed) 0 ≡ eqb (r.offset % code_step s.compressed) 0 =
      eq-eqb (D r.offset % code_step s.compressed) 0 (moved-steps r.offset mr.outside own.words) ∙ sym (eq-eqb (r.offset % code_step s.compressed) 0 own.words) in
      let fit = fits-same r.offset (D r.offset) k r.addend (addend_to inputs l.object r (target_of inputs l.object r)) mr.same in
      let over = overlaps-merged r mr in
      λ i. not (is_ignored k) && (not (is_bad_kind s k) && not (not (is_ignored k) && (within i || (not (not (is_code_section s) || (words i && fit i)) || over i))))

  -- ---- the relocation at an offset

  tested : (n : ℕ) → Outside rs n → (x : Reloc) → Contains s.relocs x → asks x ≡ true → (is_sound t (F x) && eqb (D x.offset) (D n)) ≡ (is_sound s x && eqb x.offset n)
  tested n out x there asking = ap₂ (λ a b. a && b) (sound-merged x there asking) (down-eqb 0 rs x.offset n (removed-apart inputs l) (moved-field x there asking).outside out)

  -- the same is found where its offset moves to; so where a tail is removed there is none
  pub reloc-merged : (n : ℕ) → Outside rs n → reloc_on t (D n) ≡ option_map F (reloc_on s n)
  unfolding reloc_on
  reloc-merged n out = all s.relocs (λ x there. there)
    where
      push : (x : Reloc) (o : Option Reloc) (b : Bool) → cond b (Some (F x)) (option_map F o) ≡ option_map F (cond b (Some x) o)
      push x o true = refl
      push x o false = refl

      all : (xs : List Reloc) → ((x : Reloc) → Contains xs x → Contains s.relocs x) → find (λ r. is_sound t r && eqb r.offset (D n)) (map F (filter asks xs)) ≡ option_map F (find (λ r. is_sound s r && eqb r.offset n) xs)
      all [] sub = refl
      all (x ∷ xs) sub = by (asks x) refl (all xs (λ y there. sub y (suc there.0, (let lt = there.1 in omega (arith, lt)), there.2)))
        where
          quiet : asks x ≡ false → (b : Bool) → (is_sound s x && eqb x.offset n) ≡ b → find (λ r. is_sound s r && eqb r.offset n) xs ≡ cond b (Some x) (find (λ r. is_sound s r && eqb r.offset n) xs)
          quiet none false is = refl
          quiet none true is = absurd (let asking = sound_asks s x n is in cc)

          by : (b : Bool) → asks x ≡ b → find (λ r. is_sound t r && eqb r.offset (D n)) (map F (filter asks xs)) ≡ option_map F (find (λ r. is_sound s r && eqb r.offset n) xs)
              → find (λ r. is_sound t r && eqb r.offset (D n)) (map F (cond b (x ∷ filter asks xs) (filter asks xs))) ≡ option_map F (cond (is_sound s x && eqb x.offset n) (Some x) (find (λ r. is_sound s r && eqb r.offset n) xs))
          by true asking rest =
              let test = tested n out x (sub x (0, omega arith, refl)) asking in
              (λ i. cond (test i) (Some (F x)) (rest i)) ∙ push x (find (λ r. is_sound s r && eqb r.offset n) xs) (is_sound s x && eqb x.offset n)
          by false none rest = rest ∙ ap (option_map F) (quiet none (is_sound s x && eqb x.offset n) refl)
