-- A lower part goes with an `auipc` that has its own relocation: no other stands there, since two relocations in one place crowd each
-- other, which is a fault.
use Rattle.std.proofs.Common.{◌≡◌, ℕ, suc, ◌+◌, ◌<◌, ◌≤◌, ℤ, pos, negsuc, List, [], ◌∷◌, map, filter, length, max, min, Option, Some, None, Bool, true, false, cond, eqb, ltb, leb, refl, sym, ap, ◌∙◌, arith, inl, inr, ◌⊎◌}
use Rattle.std.specs.Prelude.{◌&&◌, ◌||◌, not}
use Rattle.std.specs.List.{find, list_any}
use Rattle.std.specs.Option.{option_map_or}
use Rattle.std.proofs.lemmas.Bool.{and_from, and_parts, eq-eqb, eqb-true, leb-true, lt-ltb, ltb-false, not-false, or_cases, or_parts}
use Rattle.zc_base.specs.declared.place.Place.{Place}
use Rattle.elf32_read.specs.Parts.{SectionParts, is_code_section}
use Rattle.elf32_read.specs.declared.reloc.Reloc.{Reloc}
use Rattle.psabi_reloc.specs.Kinds.{field_length, is_auipc, kind_of}
use Rattle.psabi_reloc.specs.declared.kind.RelocKind.{RelocKind}
use Rattle.psabi_reloc.specs.declared.kind.RelocKind.TheVariants as kind
use Rattle.psabi_sym.specs.Faults.{first_some}
use Rattle.psabi_sym.specs.Inputs.{Inputs, ParsedInputs, parsed}
use Rattle.psabi_sym.specs.Indexed.{IndexedSection, section_at}
use Rattle.psabi_sym.specs.Resolve.{resolved}
use Rattle.psabi_sym.specs.declared.target.Target.TheVariants.{Code}
use Rattle.psabi_sym.proofs.FaultLaws.{neither}
use Rattle.rv_decode.specs.declared.instr.Instr.{Instr}
use Rattle.block_cut.specs.declared.item.Item.TheVariants.{PcHi}
use Rattle.block_cut.specs.Faults.{first_fault, is_pair_at, is_zero_addend, reloc_fault}
use Rattle.block_cut.specs.Items.{code_at, is_target_at, item_at, item_under, known_item, raw_in, size_on, starts_on, target_of}
use Rattle.block_cut.specs.Relocs.{field_end, field_of, instr_in, overlaps_another, is_ignored, is_pcrel_hi, is_pcrel_lo, is_placed, is_sound, has_pcrel_hi_at, overlap, reloc_on}
use Rattle.block_cut.proofs.ItemLaws.{item_there}
use Rattle.block_cut.proofs.ListedLaws.{listed}
use Rattle.block_cut.proofs.PlainLaws.{target_on}
use Rattle.block_cut.proofs.SoundLaws.{sound_at}
use Rattle.block_cut.proofs.WholeLaws.{code_at_is, code_is_section}
use Rattle.moved_runs.proofs.Faultless.{good, reloc_good, section_none}

-- ---- one relocation in a place

-- the one kind
hi_kind : (k : Option RelocKind) → is_pcrel_hi k ≡ true → k ≡ Some kind.PcrelHi20
hi_kind (Some kind.PcrelHi20) h = refl
hi_kind other h = absurd cc

-- an upper part at an offset, and a sound relocation there
abbrev hi_at : ℕ → Reloc → Bool
hi_at n r = is_pcrel_hi (kind_of r.kind) && eqb r.offset n

abbrev sound_on : SectionParts → ℕ → Reloc → Bool
sound_on s n r = is_sound s r && eqb r.offset n

-- two that stand at one offset and change something overlap
overlaps : (n : ℕ) (x y : Reloc) → x.offset ≡ n → y.offset ≡ n → 0 < field_of x → 0 < field_of y → overlap x y ≡ true
overlaps n x y ax ay fx fy = lt-ltb (max x.offset y.offset) (min (field_end x) (field_end y)) (omega arith)

kept : {X : Type 0} (test : X → Bool) (x : X) (xs : List X) → test x ≡ true → length (filter test (x ∷ xs)) ≡ suc (length (filter test xs))
kept test x xs h = ap (λ b. length (cond b (x ∷ filter test xs) (filter test xs))) h

no_fewer : {X : Type 0} (test : X → Bool) (x : X) (xs : List X) → length (filter test xs) ≤ length (filter test (x ∷ xs))
no_fewer test x xs = by (test x)
  where
    by : (b : Bool) → length (filter test xs) ≤ length (cond b (x ∷ filter test xs) (filter test xs))
    by true = omega arith
    by false = omega arith

-- an upper part's field
hi_parts : (n : ℕ) (r : Reloc) → hi_at n r ≡ true → (kind_of r.kind ≡ Some kind.PcrelHi20) × (r.offset ≡ n) × (0 < field_of r)
hi_parts n r h =
    let two = and_parts (is_pcrel_hi (kind_of r.kind)) (eqb r.offset n) h in
    let k = hi_kind (kind_of r.kind) two.0 in
    let size : field_of r ≡ 4 = ap (λ x. field_length x r.addend) k in
    (k, eqb-true r.offset n two.1, omega arith)

-- another relocation at the offset counts as one that overlaps
counted : (n : ℕ) (x : Reloc) (ys : List Reloc) → x.offset ≡ n → 0 < field_of x → list_any (hi_at n) ys ≡ true → 0 < length (filter (overlap x) ys)
counted n x [] at some h = absurd cc
counted n x (y ∷ ys) at some h = by (or_cases (hi_at n y) (list_any (hi_at n) ys) h) (λ later. counted n x ys at some later)
  where
    by : (hi_at n y ≡ true) ⊎ (list_any (hi_at n) ys ≡ true) → (list_any (hi_at n) ys ≡ true → 0 < length (filter (overlap x) ys)) → 0 < length (filter (overlap x) (y ∷ ys))
    by (inl here) rest =
        let parts = hi_parts n y here in
        omega (arith, kept (overlap x) y ys (overlaps n x y at parts.1 some parts.2))
    by (inr later) rest = omega (arith, rest later, no_fewer (overlap x) y ys)

module _ (p : ParsedInputs) (l : IndexedSection) (n : ℕ) where
  abbrev s : SectionParts
  s = l.section

  -- an upper part without a fault is sound
  hi_sound : (r : Reloc) → hi_at n r ≡ true → reloc_fault p l r ≡ None → sound_on s n r ≡ true
  hi_sound r h none =
      let parts = hi_parts n r h in
      let is = good p l r none in
      let asks : is_ignored (kind_of r.kind) ≡ false = ap is_ignored parts.0 in
      and_from (is_sound s r) (eqb r.offset n)
      ((λ j. not (asks j) && (not (is.known j) && not (is.placed j))))
      (eq-eqb r.offset n parts.1)

  -- if there is an upper part at the offset, what is found there is one, unless it is crowded
  found_upper : (ys : List Reloc) (r : Reloc) → first_some (map (reloc_fault p l) ys) ≡ None → list_any (hi_at n) ys ≡ true → find (sound_on s n) ys ≡ Some r → 0 < field_of r → length (filter (overlap r) ys) ≤ 1
      → is_pcrel_hi (kind_of r.kind) ≡ true
  found_upper [] r none some found size few = absurd cc
  found_upper (x ∷ xs) r none some found size few =
      let parts = neither (reloc_fault p l x) (first_some (map (reloc_fault p l) xs)) none in
      by (sound_on s n x) refl found (λ later got. found_upper xs r parts.1 later got size (omega (arith, few, no_fewer (overlap r) x xs))) parts.0
    where
      by : (b : Bool) → sound_on s n x ≡ b → cond b (Some x) (find (sound_on s n) xs) ≡ Some r → (list_any (hi_at n) xs ≡ true → find (sound_on s n) xs ≡ Some r → is_pcrel_hi (kind_of r.kind) ≡ true) → reloc_fault p l x ≡ None → is_pcrel_hi (kind_of r.kind) ≡ true
      by true passes here rest fine =
          let same : x ≡ r = cc in
          let at : r.offset ≡ n = eqb-true r.offset n (ap (λ t. eqb t.offset n) (sym same) ∙ (and_parts (is_sound s x) (eqb x.offset n) passes).1) in
          choose (or_cases (hi_at n x) (list_any (hi_at n) xs) some) same at
        where
          choose : (hi_at n x ≡ true) ⊎ (list_any (hi_at n) xs ≡ true) → x ≡ r → r.offset ≡ n → is_pcrel_hi (kind_of r.kind) ≡ true
          choose (inl hi) same at = ap (λ t. is_pcrel_hi (kind_of t.kind)) (sym same) ∙ (and_parts (is_pcrel_hi (kind_of x.kind)) (eqb x.offset n) hi).0
          choose (inr later) same at =
              let mine : overlap r x ≡ true = ap (overlap r) same ∙ overlaps n r r at at size size in
              absurd (omega (arith, few, kept (overlap r) x xs mine, counted n r xs at size later))
      by false fails here rest fine = choose (or_cases (hi_at n x) (list_any (hi_at n) xs) some)
        where
          choose : (hi_at n x ≡ true) ⊎ (list_any (hi_at n) xs ≡ true) → is_pcrel_hi (kind_of r.kind) ≡ true
          choose (inl hi) = absurd (cc (fails, hi_sound x hi fine))
          choose (inr later) = rest later here

  -- some relocation is found at the offset
  pub some_found : (ys : List Reloc) → first_some (map (reloc_fault p l) ys) ≡ None → list_any (hi_at n) ys ≡ true → (r : Reloc) × (find (sound_on s n) ys ≡ Some r)
  some_found [] none some = absurd cc
  some_found (x ∷ xs) none some =
      let parts = neither (reloc_fault p l x) (first_some (map (reloc_fault p l) xs)) none in
      by (sound_on s n x) refl (λ later. some_found xs parts.1 later) parts.0
    where
      by : (b : Bool) → sound_on s n x ≡ b → (list_any (hi_at n) xs ≡ true → (r : Reloc) × (find (sound_on s n) xs ≡ Some r)) → reloc_fault p l x ≡ None → (r : Reloc) × (cond b (Some x) (find (sound_on s n) xs) ≡ Some r)
      by true passes rest fine = (x, refl)
      by false fails rest fine = choose (or_cases (hi_at n x) (list_any (hi_at n) xs) some)
        where
          choose : (hi_at n x ≡ true) ⊎ (list_any (hi_at n) xs ≡ true) → (r : Reloc) × (find (sound_on s n) xs ≡ Some r)
          choose (inl hi) = absurd (cc (fails, hi_sound x hi fine))
          choose (inr later) = rest later

-- ---- pairs

-- the upper part at a place, with its relocation, and as its item
pub record IsUpperAt (p : ParsedInputs) (from : Place) : Type 0 where
  pub section : SectionParts
  pub code : code_at p.objects from ≡ Some section
  pub first : Instr
  pub reloc : Reloc
  pub on : reloc_on section from.offset ≡ Some reloc
  pub item : item_at p from ≡ Some (PcHi first (target_of p from.object reloc))

module _ (inputs : Inputs) (none : first_fault inputs ≡ None) where
  abbrev p2 : ParsedInputs
  p2 = parsed inputs

  -- a relocation that is found isn't crowded
  few_there : (o i : ℕ) (s : SectionParts) (r : Reloc) (n : ℕ) → section_at p2.objects o i ≡ Some s → is_code_section s ≡ true → reloc_on s n ≡ Some r → length (filter (overlap r) s.relocs) ≤ 1
  few_there o i s r n found code is =
      let sound = sound_at s n r code is in
      let fine = reloc_good inputs none o i n s r found is in
      let placed : (not false && (ltb s.size (field_end r) || (not (is_placed s r) || overlaps_another s.relocs r))) ≡ false =
      ap (λ b. not b && (ltb s.size (field_end r) || (not (is_placed s r) || overlaps_another s.relocs r))) (sym sound.asks) ∙ fine.placed in
      let one = or_parts (ltb s.size (field_end r)) (not (is_placed s r) || overlaps_another s.relocs r) placed in
      let two = or_parts (not (is_placed s r)) (overlaps_another s.relocs r) one.1 in
      ltb-false 1 (length (filter (overlap r) s.relocs)) two.1

  upper_at : (from : Place) (s : SectionParts) → code_at p2.objects from ≡ Some s → starts_on s from.offset ≡ true → has_pcrel_hi_at s from.offset ≡ true → IsUpperAt p2 from
  unfolding reloc_on
  upper_at from s at start upper =
      let n = from.offset in
      let two = code_is_section p2.objects from s at in
      let parts = and_parts (leb (n + 4) (length s.bytes)) _ upper in
      let marks = and_parts (is_auipc (instr_in 4 s.bytes n)) (list_any (hi_at n) s.relocs) parts.1 in
      let l = listed from.object from.section s in
      let fine = section_none inputs none from.object from.section s two.0 in
      let found = some_found p2 l n s.relocs fine marks.1 in
      let r = found.0 in
      let sound = sound_at s n r two.1 found.1 in
      let field = sound.field.some in
      let hi = found_upper p2 l n s.relocs r fine marks.1 found.1 (omega arith) (few_there from.object from.section s r n two.0 two.1 found.1) in
      of (instr_in 4 s.bytes n) refl marks.0 r (hi_kind (kind_of r.kind) hi) found.1
    where
      of :
          (d : Option Instr) → instr_in 4 s.bytes from.offset ≡ d → is_auipc d ≡ true → (r : Reloc) → kind_of r.kind ≡ Some kind.PcrelHi20
          → reloc_on s from.offset ≡ Some r → IsUpperAt p2 from
      of None e auipc r k is = absurd cc
      of (Some i) e auipc r k is = record {
        section = s;
        code = at;
        first = i;
        reloc = r;
        on = is;
        item = item_there p2 from s at start ∙ ap Some
            ((λ j. item_under p2 from (is j) (size_on s from.offset) s.bytes)
            ∙ (λ j. known_item (k j) r.addend (target_of p2 from.object r) s.bytes from.offset)
            ∙ ap (λ d. option_map_or (λ i2. PcHi i2 (target_of p2 from.object r)) d (raw_in 4 s.bytes from.offset)) e);
      }

  -- a lower part's `auipc`
  pub upper_with : (q from : Place) (s : SectionParts) (r : Reloc) → code_at p2.objects q ≡ Some s → reloc_on s q.offset ≡ Some r → is_pcrel_lo (kind_of r.kind) ≡ true → target_of p2 q.object r ≡ Code from
      → is_target_at p2.objects from ≡ true → IsUpperAt p2 from
  upper_with q from s r at is lower leads target =
      let two = code_is_section p2.objects q s at in
      let l = listed q.object q.section s in
      let fine = reloc_good inputs none q.object q.section q.offset s r two.0 is in
      let both : (not (is_zero_addend r.addend) || not (is_pair_at l (resolved p2 q.object r.symbol (pos 0)))) ≡ false =
      ap (λ b. b && (not (is_zero_addend r.addend) || not (is_pair_at l (resolved p2 q.object r.symbol (pos 0))))) (sym lower) ∙ fine.paired in
      let parts = or_parts (not (is_zero_addend r.addend)) (not (is_pair_at l (resolved p2 q.object r.symbol (pos 0)))) both in
      let zero : r.addend ≡ pos 0 = nothing r.addend (not-false (is_zero_addend r.addend) parts.0) in
      let to : resolved p2 q.object r.symbol (pos 0) ≡ Code from = ap (resolved p2 q.object r.symbol) (sym zero) ∙ leads in
      let pair : is_pair_at l (Code from) ≡ true = ap (is_pair_at l) (sym to) ∙ not-false (is_pair_at l (resolved p2 q.object r.symbol (pos 0))) parts.1 in
      let one = and_parts (eqb from.object q.object) _ pair in
      let rest = and_parts (eqb from.section q.section) (has_pcrel_hi_at s from.offset) one.1 in
      let object = eqb-true from.object q.object one.0 in
      let section = eqb-true from.section q.section rest.0 in
      let here = code_at_is p2.objects from s ((λ j. section_at p2.objects (object j) (section j)) ∙ two.0) two.1 in
      let inside = leb-true (from.offset + 4) (length s.bytes) (and_parts (leb (from.offset + 4) (length s.bytes)) _ rest.1).0 in
      let start : starts_on s from.offset ≡ true = starts here target inside in
      upper_at from s here start rest.1
    where
      nothing : (z : ℤ) → is_zero_addend z ≡ true → z ≡ pos 0
      nothing (pos n) h = ap pos (eqb-true n 0 h)
      nothing (negsuc n) h = absurd cc

      starts : code_at p2.objects from ≡ Some s → is_target_at p2.objects from ≡ true → from.offset + 4 ≤ length s.bytes → starts_on s from.offset ≡ true
      starts here target inside =
          by (or_cases (starts_on s from.offset) (eqb from.offset (length s.bytes)) (sym (target_on p2.objects from s here) ∙ target))
        where
          by : (starts_on s from.offset ≡ true) ⊎ (eqb from.offset (length s.bytes) ≡ true) → starts_on s from.offset ≡ true
          by (inl start) = start
          by (inr end) = absurd (omega (arith, eqb-true from.offset (length s.bytes) end))
