-- Relocations that stand where no item starts (`is_stray`). Which offsets items start at depends on the sound relocations alone, and
-- whether one is sound not on the starts: so the starts are there before any relocation is stray. That stray ones don't count either
-- changes nothing (`stray_not_found`). In an object that isn't compressed no sound relocation of code is stray (`sound_starts`), so what
-- is wrong with one there is known before the starts are (`placed_plain`).
use Rattle.std.proofs.Common.{◌≡◌, ◌≢◌, ℕ, zero, suc, ◌+◌, ◌/◌, ◌%◌, ◌<◌, ◌≤◌, List, [], ◌∷◌, length, filter, get_or, map, max, min, Bool, true, false, cond, Option, Some, None, refl, sym, ap, ◌∙◌, arith, inl, inr, eqb, ltb}
use Rattle.std.specs.Prelude.{◌&&◌, ◌||◌, not, Contains}
use Rattle.std.specs.List.{find, list_any}
use Rattle.std.specs.Option.{option_map_or}
use Rattle.std.proofs.lemmas.Bool.{and_parts, cases_lt, eqb-true, le-ltb, lt-ltb, ltb-false, not-true, or_parts}
use Rattle.elf32_read.specs.Parts.{SectionParts, is_code_section}
use Rattle.elf32_read.specs.declared.reloc.Reloc.{Reloc}
use Rattle.psabi_reloc.specs.Kinds.{kind_of}
use Rattle.block_cut.specs.Faults.{is_stray}
use Rattle.block_cut.specs.Items.{size_on, starts_in, starts_on}
use Rattle.block_cut.specs.Relocs.{field_end, field_of, is_bad_kind, is_bad_place, overlaps_another, is_ignored, is_placed, is_sound, overlap, reloc_on}
use Rattle.block_cut.specs.CodeSizes.{own_size, code_step}
use Rattle.psabi_sym.specs.Inputs.{ParsedInputs}
use Rattle.psabi_sym.specs.Indexed.{IndexedSection}
use Rattle.block_cut.specs.Faults.{lacks_pcrel_hi}
use Rattle.block_cut.specs.Leaders.{is_place, section_leads}
use Rattle.block_cut.specs.Resolved.{asks, placed_fault, placed_reloc, placed_relocs, resolved_reloc, resolved_relocs}
use Rattle.block_cut.specs.declared.resolved_reloc.RelocFault.{RelocFault}
use Rattle.block_cut.specs.declared.resolved_reloc.RelocFault.TheVariants.{Kind, Place as PlaceFault, Pair}
use Rattle.block_cut.specs.declared.resolved_reloc.ResolvedReloc.{ResolvedReloc}
use Rattle.zc_base.specs.declared.place.Place.{Place}
use Rattle.block_cut.specs.Whole.{IsWhole}
use Rattle.block_cut.specs.Invariants.HalfwordTables.{number_on}
use Rattle.block_cut.proofs.CodeSizeLaws.{step_even}
use Rattle.block_cut.proofs.LedLaws.{relocs_lead}
use Rattle.block_cut.proofs.WordLaws.{number_other, number_target}
use Rattle.block_cut.proofs.SoundLaws.{IsSoundAt, sound_at, sound_parts}
use Rattle.block_cut.proofs.StartLaws.{IsStart, along, among_first, among_later, is_among, start_is}

-- ---- stray ones don't count

-- a search with a further test that holds of all that passes finds the same
same_find : (p q : Reloc → Bool) (xs : List Reloc) → ((r : Reloc) → p r ≡ true → q r ≡ true) → find (λ r. p r && q r) xs ≡ find p xs
same_find p q [] holds = refl
same_find p q (x ∷ xs) holds = by (p x) refl (same_find p q xs holds)
  where
    by : (b : Bool) → p x ≡ b → find (λ r. p r && q r) xs ≡ find p xs → cond (b && q x) (Some x) (find (λ r. p r && q r) xs) ≡ cond b (Some x) (find p xs)
    by true passes rest = ap (λ c. cond c (Some x) (find (λ r. p r && q r) xs)) (holds x passes)
    by false fails rest = rest

-- where an item starts, what is found is the same if stray relocations are left out
pub stray_not_found : (s : SectionParts) (n : ℕ) → starts_on s n ≡ true → find (λ r. (is_sound s r && eqb r.offset n) && not (is_stray s r)) s.relocs ≡ reloc_on s n
unfolding reloc_on
stray_not_found s n start = same_find (λ r. is_sound s r && eqb r.offset n) (λ r. not (is_stray s r)) s.relocs holds
  where
    none : (a b : Bool) → not (a && (b && false)) ≡ true
    none true true = refl
    none true false = refl
    none false b = refl

    holds : (r : Reloc) → (is_sound s r && eqb r.offset n) ≡ true → not (is_stray s r) ≡ true
    holds r passes =
        let at = eqb-true r.offset n (and_parts (is_sound s r) (eqb r.offset n) passes).1 in
        let here : starts_on s r.offset ≡ true = ap (starts_on s) at ∙ start in
        ap (λ b. not (is_code_section s && (not (is_ignored (kind_of r.kind)) && not b))) here ∙ none (is_code_section s) (not (is_ignored (kind_of r.kind)))

-- ---- objects that aren't compressed

-- an offset is a start, or lies within the item of one
pub data Covers (s : SectionParts) (k : ℕ) (xs : List ℕ) : Type 0 where
  Starts : is_among k xs ≡ true → Covers s k xs
  Within : (m : ℕ) → is_among m xs ≡ true → m < k → k < m + size_on s m → Covers s k xs

-- of two that pass a test in a list, of which at most one does, one is the other
module _ (p : Reloc → Bool) where
  none_passes : (xs : List Reloc) (x : Reloc) → length (filter p xs) ≤ 0 → Contains xs x → p x ≡ true → ⊥
  none_passes [] x few held passes = omega (arith, held.1)
  none_passes (y ∷ ys) x few held passes = by (p y) refl (λ rest own. none_passes ys x rest own passes) held few
    where
      later : (length (filter p ys) ≤ 0 → Contains ys x → ⊥) → (k : ℕ) → k < length (y ∷ ys) → get_or (y ∷ ys) k x ≡ x → p y ≡ false → length (filter p ys) ≤ 0 → ⊥
      later next zero lt is fails rest = cc (is, passes, fails)
      later next (suc k) lt is fails rest = next rest (k, omega (arith, lt), is)

      by : (b : Bool) → p y ≡ b → (length (filter p ys) ≤ 0 → Contains ys x → ⊥) → Contains (y ∷ ys) x → length (cond b (y ∷ filter p ys) (filter p ys)) ≤ 0 → ⊥
      by true here next held few = omega (arith, few)
      by false fails next held few = later next held.0 held.1 held.2 fails few

  one_passes : (xs : List Reloc) (x y : Reloc) → length (filter p xs) ≤ 1 → Contains xs x → Contains xs y → p x ≡ true → p y ≡ true → x ≡ y
  one_passes [] x y few one two passes also = absurd (omega (arith, one.1))
  one_passes (z ∷ zs) x y few one two passes also = by (p z) refl (λ rest own other. one_passes zs x y rest own other passes also) few
    where
      first : p z ≡ true → length (filter p zs) ≤ 0 → (w : Reloc) → Contains (z ∷ zs) w → p w ≡ true → z ≡ w
      first here rest w held passes = at held.0 held.1 held.2
        where
          at : (k : ℕ) → k < length (z ∷ zs) → get_or (z ∷ zs) k w ≡ w → z ≡ w
          at zero lt is = is
          at (suc k) lt is = absurd (none_passes zs w rest (k, omega (arith, lt), is) passes)

      later : (w : Reloc) → Contains (z ∷ zs) w → p w ≡ true → p z ≡ false → Contains zs w
      later w held passes fails = at held.0 held.1 held.2
        where
          at : (k : ℕ) → k < length (z ∷ zs) → get_or (z ∷ zs) k w ≡ w → Contains zs w
          at zero lt is = absurd (cc (is, passes, fails))
          at (suc k) lt is = (k, omega (arith, lt), is)

      by : (b : Bool) → p z ≡ b → (length (filter p zs) ≤ 1 → Contains zs x → Contains zs y → x ≡ y) → length (cond b (z ∷ filter p zs) (filter p zs)) ≤ 1 → x ≡ y
      by true here next few = sym (first here (omega (arith, few)) x one passes) ∙ first here (omega (arith, few)) y two also
      by false fails next few = next few (later x one passes fails) (later y two also fails)

-- what is found is one of the list
found_held : (p : Reloc → Bool) (xs : List Reloc) (r : Reloc) → find p xs ≡ Some r → Contains xs r
found_held p [] r found = absurd cc
found_held p (x ∷ xs) r found = by (p x) (found_held p xs r) found
  where
    by : (b : Bool) → (find p xs ≡ Some r → Contains xs r) → cond b (Some x) (find p xs) ≡ Some r → Contains (x ∷ xs) r
    by true next here = let same : x ≡ r = cc in (0, omega arith, same)
    by false next rest = let held = next rest in (suc held.0, omega (arith, held.1), held.2)

pub held_on : (s : SectionParts) (n : ℕ) (r : Reloc) → reloc_on s n ≡ Some r → Contains s.relocs r
unfolding reloc_on
held_on s n r found = found_held (λ t. is_sound s t && eqb t.offset n) s.relocs r found

-- a sound one shares bytes with itself alone
alone : (s : SectionParts) (r : Reloc) → is_sound s r ≡ true → length (filter (overlap r) s.relocs) ≤ 1
alone s r sound =
    let k = kind_of r.kind in
    let two = and_parts (not (is_ignored k)) _ sound in
    let rest = and_parts (not (is_bad_kind s k)) (not (is_bad_place s r)) two.1 in
    let good : (not (is_ignored k) && (ltb s.size (field_end r) || (not (is_placed s r) || overlaps_another s.relocs r))) ≡ false = not-true (is_bad_place s r) rest.1 in
    let fine : (ltb s.size (field_end r) || (not (is_placed s r) || overlaps_another s.relocs r)) ≡ false =
    ap (λ b. b && (ltb s.size (field_end r) || (not (is_placed s r) || overlaps_another s.relocs r))) (sym two.0) ∙ good in
    ltb-false 1 (length (filter (overlap r) s.relocs)) (or_parts (not (is_placed s r)) (overlaps_another s.relocs r) (or_parts (ltb s.size (field_end r)) _ fine).1).1

module _ (s : SectionParts) (code : is_code_section s ≡ true) (whole : IsWhole s) where
  -- each offset is covered
  pub covered : (k : ℕ) → k < length s.bytes → Covers s k (starts_in s)
  covered k inside = all k (omega arith) inside
    where
      all : (k : ℕ) → 0 ≤ k → k < length s.bytes → Covers s k (starts_in s)
      all = along s code whole (λ n xs. (k : ℕ) → n ≤ k → k < length s.bytes → Covers s k xs)
          (λ k low high. absurd (omega (arith, low, high)))
          (λ n xs lt words st above rest k low high. elim (cases_lt k (n + size_on s n)) [
            | inl within ↦ first n xs k low within
            | inr past ↦ later n xs k (rest k past high)
          ])
        where
          first : (n : ℕ) (xs : List ℕ) (k : ℕ) → n ≤ k → k < n + size_on s n → Covers s k (n ∷ xs)
          first n xs k low within = elim (cases_lt n k) [
            | inl lt ↦ Within n (among_first n n xs refl) lt within
            | inr ge ↦ Starts (among_first n k xs (omega (arith, low, ge)))
          ]

          later : (n : ℕ) (xs : List ℕ) (k : ℕ) → Covers s k xs → Covers s k (n ∷ xs)
          later n xs k (Starts is) = Starts (among_later n k xs is)
          later n xs k (Within m is low high) = Within m (among_later n m xs is) low high

  -- a sound relocation stands where an item starts
  pub sound_starts : s.compressed ≡ false → (r : Reloc) → Contains s.relocs r → is_sound s r ≡ true → starts_on s r.offset ≡ true
  sound_starts plain r held sound = by (covered r.offset (omega (arith, own.inside, own.field.some, whole.bytes)))
    where
      own : IsSoundAt s r.offset r
      own = sound_parts s r code sound

      words : (n : ℕ) → n % code_step s.compressed ≡ 0 → n % 4 ≡ 0
      words n is = ap (λ c. n % code_step c) (sym plain) ∙ is

      by : Covers s r.offset (starts_in s) → starts_on s r.offset ≡ true
      by (Starts is) = is
      by (Within m is low high) = found (reloc_on s m) refl
        where
          start : IsStart s (starts_in s) m
          start = start_is s code whole m is

          found : (o : Option Reloc) → reloc_on s m ≡ o → starts_on s r.offset ≡ true
          found None none =
              let size : size_on s m ≡ 4 = ap (λ o. option_map_or field_of o (own_size s.compressed s.bytes m)) none ∙ ap (λ c. own_size c s.bytes m) plain in
              absurd (omega (arith, size, low, high, words m start.words, words r.offset own.words))
          found (Some t) is =
              let size : size_on s m ≡ field_of t = ap (λ o. option_map_or field_of o (own_size s.compressed s.bytes m)) is in
              let other = sound_at s m t code is in
              let shares : overlap r t ≡ true =
              lt-ltb (max r.offset t.offset) (min (field_end r) (field_end t)) (omega (arith, other.at, low, high, size, own.field.some)) in
              let itself : overlap r r ≡ true = lt-ltb (max r.offset r.offset) (min (field_end r) (field_end r)) (omega (arith, own.field.some)) in
              let same : t ≡ r = one_passes (overlap r) s.relocs t r (alone s r sound) (held_on s m t is) held shares itself in
              absurd (omega (arith, other.at, ap (λ (x : Reloc). x.offset) same, low))

-- ---- relocations that are decided

-- where one doesn't stray, nothing more is wrong with it
same_fault : (f : Option RelocFault) → placed_fault false f ≡ f
same_fault None = refl
same_fault (Some Kind) = refl
same_fault (Some PlaceFault) = refl
same_fault (Some Pair) = refl

placed_same : (s : SectionParts) (d : ResolvedReloc) → (is_code_section s && not (starts_on s d.offset)) ≡ false → placed_reloc s d ≡ d
placed_same s d stays = λ j. record d { fault = (ap (λ b. placed_fault b d.fault) stays ∙ same_fault d.fault) j }

-- none strays in data
pub placed_data : (inputs : ParsedInputs) (l : IndexedSection) → is_code_section l.section ≡ false → placed_relocs inputs l ≡ resolved_relocs inputs l
placed_data inputs l other = all (resolved_relocs inputs l)
  where
    all : (ds : List ResolvedReloc) → map (placed_reloc l.section) ds ≡ ds
    all [] = refl
    all (d ∷ ds) = λ j. placed_same l.section d (ap (λ b. b && not (starts_on l.section d.offset)) other) j ∷ all ds j

-- with the faults of places the relocations lead where they led
pub placed_lead : (inputs : ParsedInputs) (l : IndexedSection) (q : Place) → list_any (λ d. is_place q d.target) (placed_relocs inputs l) ≡ section_leads inputs q l
placed_lead inputs l q = all (resolved_relocs inputs l) ∙ relocs_lead inputs l q
  where
    all : (ds : List ResolvedReloc) → list_any (λ d. is_place q d.target) (map (placed_reloc l.section) ds) ≡ list_any (λ d. is_place q d.target) ds
    all [] = refl
    all (d ∷ ds) = ap (λ b. is_place q d.target || b) (all ds)

-- where no object is compressed, no relocation of code stands where no item starts, unless it has a fault already
pub placed_plain : (inputs : ParsedInputs) (l : IndexedSection) → is_code_section l.section ≡ true → IsWhole l.section → l.section.compressed ≡ false → placed_relocs inputs l ≡ resolved_relocs inputs l
placed_plain inputs l code whole plain = all s.relocs (λ r held. held)
  where
    s : SectionParts
    s = l.section

    -- what is wrong already stays, and what isn't stands where an item starts
    stays : (r : Reloc) → Contains s.relocs r → asks r ≡ true → (kind place pair : Bool) → is_bad_kind s (kind_of r.kind) ≡ kind → is_bad_place s r ≡ place
        → placed_fault (is_code_section s && not (starts_on s r.offset)) (cond kind (Some Kind) (cond place (Some PlaceFault) (cond pair (Some Pair) None))) ≡ cond kind (Some Kind) (cond place (Some PlaceFault) (cond pair (Some Pair) None))
    stays r held asked true place pair bad wrong = refl
    stays r held asked false true pair bad wrong = either (is_code_section s && not (starts_on s r.offset))
      where
        either : (b : Bool) → placed_fault b (Some PlaceFault) ≡ Some PlaceFault
        either true = refl
        either false = refl
    stays r held asked false false pair bad wrong =
        let sound : is_sound s r ≡ true = λ j. asked j && (not (bad j) && not (wrong j)) in
        let start : starts_on s r.offset ≡ true = sound_starts s code whole plain r held sound in
        ap (λ b. placed_fault b (cond pair (Some Pair) None)) (apart (is_code_section s) start) ∙ same_fault (cond pair (Some Pair) None)
      where
        apart : (b : Bool) → starts_on s r.offset ≡ true → (b && not (starts_on s r.offset)) ≡ false
        apart true start = ap not start
        apart false start = refl

    one : (r : Reloc) → Contains s.relocs r → asks r ≡ true → placed_reloc s (resolved_reloc inputs l r) ≡ resolved_reloc inputs l r
    one r held asked =
        λ j. record (resolved_reloc inputs l r) { fault = stays r held asked (is_bad_kind s (kind_of r.kind)) (is_bad_place s r) (lacks_pcrel_hi inputs l r) refl refl j }

    all : (rs : List Reloc) → ((r : Reloc) → Contains rs r → Contains s.relocs r) → map (placed_reloc s) (map (resolved_reloc inputs l) (filter asks rs)) ≡ map (resolved_reloc inputs l) (filter asks rs)
    all [] held = refl
    all (r ∷ rs) held = by (asks r) refl (all rs (λ x there. held x (suc there.0, omega (arith, there.1), there.2)))
      where
        by : (b : Bool) → asks r ≡ b → map (placed_reloc s) (map (resolved_reloc inputs l) (filter asks rs)) ≡ map (resolved_reloc inputs l) (filter asks rs)
            → map (placed_reloc s) (map (resolved_reloc inputs l) (cond b (r ∷ filter asks rs) (filter asks rs))) ≡ map (resolved_reloc inputs l) (cond b (r ∷ filter asks rs) (filter asks rs))
        by true asked rest = λ j. one r (held r (0, omega arith, refl)) asked j ∷ rest j
        by false other rest = rest

-- all that is wrong is known if stray relocations are looked for in compressed objects alone
pub placed_either : (inputs : ParsedInputs) (l : IndexedSection) → is_code_section l.section ≡ true → IsWhole l.section
    → cond l.section.compressed (map (placed_reloc l.section) (resolved_relocs inputs l)) (resolved_relocs inputs l) ≡ placed_relocs inputs l
placed_either inputs l code whole = by l.section.compressed refl
  where
    by : (b : Bool) → l.section.compressed ≡ b → cond b (map (placed_reloc l.section) (resolved_relocs inputs l)) (resolved_relocs inputs l) ≡ placed_relocs inputs l
    by true is = refl
    by false plain = sym (placed_plain inputs l code whole plain)

-- ---- starts by numbers

-- where nothing has a number, no item starts
pub no_start : (s : SectionParts) (n : ℕ) → number_on s n ≡ 0 → starts_on s n ≡ false
no_start s n none = (or_parts (starts_on s n) (eqb n (length s.bytes)) (number_other s n none)).0

-- where the number isn't 0 an item starts, unless that is the end
pub some_start : (s : SectionParts) → is_code_section s ≡ true → IsWhole s → (n : ℕ) → number_on s n ≢ 0 → ltb (n / 2 + 1) (length s.bytes / 2 + 1) ≡ starts_on s n
some_start s code whole n some = by (starts_on s n) refl (number_target s n some)
  where
    even : length s.bytes % 2 ≡ 0
    even = step_even s.compressed (length s.bytes) whole.words

    by : (b : Bool) → starts_on s n ≡ b → (b || eqb n (length s.bytes)) ≡ true → ltb (n / 2 + 1) (length s.bytes / 2 + 1) ≡ b
    by true start is =
        let own = start_is s code whole n start in
        lt-ltb (n / 2 + 1) (length s.bytes / 2 + 1) (omega (arith, own.inside, even, step_even s.compressed n own.words))
    by false other is = let end = eqb-true n (length s.bytes) is in le-ltb (n / 2 + 1) (length s.bytes / 2 + 1) (omega (arith, end))
