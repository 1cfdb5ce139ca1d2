-- A section that is made of fragments: its relocations stand right, items start where fragments begin and nowhere else, and each fragment's
-- relocation says what its item is. A fragment is named by the fragments before and behind it, and its offset is the size of those before.
use Rattle.std.proofs.Common.{◌≡◌, ℕ, ◌+◌, ◌%◌, ◌<◌, ◌≤◌, ◌⊎◌, inl, inr, List, [], ◌∷◌, ◌++◌, length, filter, max, min, Bool, true, false, cond, Option, Some, None, refl, sym, ap, subst, ◌∙◌, arith, eqb, ltb, eq-eqb, append_assoc, length-append}
use Rattle.std.specs.Prelude.{All, ◌&&◌, ◌||◌, not}
use Rattle.std.specs.List.{find}
use Rattle.std.specs.Option.{option_map_or, option_or}
use Rattle.std.proofs.lemmas.Bool.{and_from, and_right, le-ltb, ne_eqb, not_from_false, not_from_true, or_from}
use Rattle.std.proofs.lemmas.List.Concat.{flat_map-append}
use Rattle.std.proofs.lemmas.List.Elements.{All-append, All-cons, All-head, All-nil, All-tail, All-weaker}
use Rattle.std.proofs.lemmas.List.Folds.{find-append}
use Rattle.std.proofs.lemmas.List.Sums.{sum_by-append, sum_by-cons}
use Rattle.elf32_read.specs.Parts.{SectionParts, is_code_section}
use Rattle.elf32_read.specs.declared.reloc.Reloc.{Reloc}
use Rattle.psabi_reloc.specs.Kinds.{kind_of}
use Rattle.psabi_sym.specs.Indexed.{IndexedSection}
use Rattle.psabi_sym.specs.Inputs.{ParsedInputs}
use Rattle.block_cut.specs.CodeSizes.{code_step, own_size}
use Rattle.block_cut.specs.Faults.{reloc_fault}
use Rattle.block_cut.specs.Items.{size_on, starts_on}
use Rattle.block_cut.specs.Relocs.{field_end, field_of, fits_at, is_bad_kind, is_bad_place, is_ignored, is_placed, is_sound, overlap, overlaps_another, reloc_on}
use Rattle.block_cut.specs.Resolved.{asks}
use Rattle.block_cut.specs.Whole.{IsWhole}
use Rattle.block_cut.proofs.StartLaws.{Above, Among, IsStep, along, among, is_among, start_first, start_is}
use Rattle.block_cut.proofs.StartLaws.Among.{Here, There}
use Rattle.sound_objects.specs.Fragments.{CanStand, IsMadeOf, IsFragmentAt, IsUnder, Fragment, FragmentReloc, fragment_size, fragments_bytes, fragments_size, fragment_reloc_at, relocs_at, relocs_from}
use Rattle.sound_objects.specs.Fragments.CanStand.{Alone, Under}
use Rattle.sound_objects.specs.WellFormed.{RelocsAreRight}
use Rattle.sound_objects.proofs.IgnoredLaws.{found_asking, overlaps_asking}
use Rattle.sound_objects.proofs.ListLaws.{all_left, all_right, filter_all, find_none, one_at_most}
use Rattle.sound_objects.proofs.RelocLaws.{LeadsRight, ignored_right, no_reloc_fault, starts_right}
use Rattle.block_cut.proofs.CodeSizeLaws.{own_plain, step_four}

-- ---- sizes

-- a fragment has some whole words
pub record IsSize (n : ℕ) : Type 0 where
  pub some : 4 ≤ n
  pub words : n % 4 ≡ 0

pub fragment_sized : (p : Fragment) → CanStand p → IsSize (fragment_size p)
fragment_sized p (Alone none size) = record { some = omega (arith, size); words = ap (λ n. n % 4) size }
fragment_sized p (Under r is under) = record { some = under.some; words = under.words }

pub bytes_sized : (ps : List Fragment) → length (fragments_bytes ps) ≡ fragments_size ps
bytes_sized [] = refl
bytes_sized (p ∷ ps) = omega (arith, length-append p.bytes (fragments_bytes ps), bytes_sized ps, sum_by-cons fragment_size p ps)

pub size_words : (ps : List Fragment) → All CanStand ps → fragments_size ps % 4 ≡ 0
size_words [] all = refl
size_words (p ∷ ps) all =
    omega (arith, sum_by-cons fragment_size p ps, (fragment_sized p (All-head CanStand p ps all)).words, size_words ps (All-tail CanStand p ps all))

-- one fragment more
pub fragments_size-push : (xs : List Fragment) (p : Fragment) → fragments_size (xs ++ p ∷ []) ≡ fragments_size xs + fragment_size p
fragments_size-push xs p = omega (arith, sum_by-append fragment_size xs (p ∷ []), sum_by-cons fragment_size p [])

-- ---- relocations of fragments

pub relocs_from-append : (at : ℕ) (xs ys : List Fragment) → relocs_from at (xs ++ ys) ≡ relocs_from at xs ++ relocs_from (at + fragments_size xs) ys
relocs_from-append at [] ys = ap (λ n. relocs_from n ys) (omega arith)
relocs_from-append at (x ∷ xs) ys =
    ap (λ l. relocs_at at x.reloc ++ l) (relocs_from-append (at + fragment_size x) xs ys)
    ∙ sym (append_assoc (relocs_at at x.reloc) (relocs_from (at + fragment_size x) xs) (relocs_from (at + fragment_size x + fragments_size xs) ys))
    ∙ ap (λ n. (relocs_at at x.reloc ++ relocs_from (at + fragment_size x) xs) ++ relocs_from n ys) (omega (arith, sum_by-cons fragment_size x xs))

-- where a relocation of fragments lies, and that it asks for something
pub record LiesIn (from to : ℕ) (t : Reloc) : Type 0 where
  pub low : from ≤ t.offset
  pub below : t.offset < to
  pub end : field_end t ≤ to
  pub busy : asks t ≡ true

-- each lies in its fragment
pub relocs_lie : (at : ℕ) (ps : List Fragment) → All CanStand ps → All (LiesIn at (at + fragments_size ps)) (relocs_from at ps)
relocs_lie at [] all = All-nil (LiesIn at (at + 0))
relocs_lie at (p ∷ ps) all =
    let more = sum_by-cons fragment_size p ps in
    All-append (LiesIn at (at + fragments_size (p ∷ ps))) (relocs_at at p.reloc) (relocs_from (at + fragment_size p) ps)
    (here (All-head CanStand p ps all))
    (All-weaker (LiesIn (at + fragment_size p) (at + fragment_size p + fragments_size ps)) (LiesIn at (at + fragments_size (p ∷ ps)))
    (λ t lies. record { low = omega (arith, lies.low); below = omega (arith, lies.below, more); end = omega (arith, lies.end, more); busy = lies.busy })
    (relocs_from (at + fragment_size p) ps) (relocs_lie (at + fragment_size p) ps (All-tail CanStand p ps all)))
  where
    here : CanStand p → All (LiesIn at (at + fragments_size (p ∷ ps))) (relocs_at at p.reloc)
    here (Alone none size) = subst (λ o. All (LiesIn at (at + fragments_size (p ∷ ps))) (relocs_at at o)) (sym none) (All-nil (LiesIn at (at + fragments_size (p ∷ ps))))
    here (Under r is under) =
        let more = sum_by-cons fragment_size p ps in
        subst (λ o. All (LiesIn at (at + fragments_size (p ∷ ps))) (relocs_at at o)) (sym is)
        (All-cons (LiesIn at (at + fragments_size (p ∷ ps))) (fragment_reloc_at at r) [] (record {
          low = omega arith;
          below = omega (arith, more, under.some);
          end = omega (arith, more, under.long);
          busy = not_from_false (is_ignored (kind_of r.kind)) under.asks;
        }) (All-nil (LiesIn at (at + fragments_size (p ∷ ps)))))

-- a section with just these relocations
pub made_of : (fragments : List Fragment) (s : SectionParts) → is_code_section s ≡ true → s.compressed ≡ false → s.bytes ≡ fragments_bytes fragments → s.size ≡ fragments_size fragments → s.relocs ≡ relocs_from 0 fragments → All CanStand fragments
    → IsMadeOf fragments s
made_of fragments s code plain bytes size relocs stand = record {
  code = code;
  plain = plain;
  bytes = bytes;
  size = size;
  relocs =
      ap (filter asks) relocs
      ∙ filter_all asks (relocs_from 0 fragments) (All-weaker (LiesIn 0 (0 + fragments_size fragments)) (λ t. asks t ≡ true) (λ t lies. lies.busy) (relocs_from 0 fragments) (relocs_lie 0 fragments stand));
  stand = stand;
}

-- ---- fields that don't overlap

far_apart : (r t : Reloc) → field_end r ≤ t.offset → overlap r t ≡ false
far_apart r t le = le-ltb (max r.offset t.offset) (min (field_end r) (field_end t)) (omega arith)

near_apart : (r t : Reloc) → field_end t ≤ r.offset → overlap r t ≡ false
near_apart r t le = le-ltb (max r.offset t.offset) (min (field_end r) (field_end t)) (omega arith)

-- ---- a section

-- a relocation stands right
pub record IsFine (s : SectionParts) (r : Reloc) : Type 0 where
  pub known : is_bad_kind s (kind_of r.kind) ≡ false
  pub placed : is_bad_place s r ≡ false
  pub sound : is_sound s r ≡ true

module _ (fragments : List Fragment) (s : SectionParts) (made : IsMadeOf fragments s) where
  module _ (front : List Fragment) (p : Fragment) (back : List Fragment) (split : fragments ≡ front ++ p ∷ back) where
    -- where the fragment stands, and the relocations before and behind it
    abbrev at : ℕ
    at = fragments_size front

    abbrev before : List Reloc
    before = relocs_from 0 front

    abbrev after : List Reloc
    after = relocs_from (at + fragment_size p) back

    abbrev IsBefore : Reloc → Type 0
    IsBefore = LiesIn 0 (0 + at)

    abbrev IsAfter : Reloc → Type 0
    IsAfter = LiesIn (at + fragment_size p) (at + fragment_size p + fragments_size back)

    all_stand : All CanStand (front ++ p ∷ back)
    all_stand = subst (All CanStand) split made.stand

    pub stands : CanStand p
    stands = All-head CanStand p back (all_right CanStand front (p ∷ back) all_stand)

    lie_before : All IsBefore before
    lie_before = relocs_lie 0 front (all_left CanStand front (p ∷ back) all_stand)

    lie_after : All IsAfter after
    lie_after = relocs_lie (at + fragment_size p) back (All-tail CanStand p back (all_right CanStand front (p ∷ back) all_stand))

    size_all : s.size ≡ at + (fragment_size p + fragments_size back)
    size_all = made.size ∙ ap fragments_size split ∙ sum_by-append fragment_size front (p ∷ back) ∙ ap (λ n. at + n) (sum_by-cons fragment_size p back)

    relocs_are : filter asks s.relocs ≡ before ++ (relocs_at at p.reloc ++ after)
    relocs_are = made.relocs ∙ ap (relocs_from 0) split ∙ relocs_from-append 0 front (p ∷ back) ∙ ap (λ n. before ++ relocs_from n (p ∷ back)) (omega arith)

    pub there : IsFragmentAt s at p
    there = record {
      front = fragments_bytes front;
      back = fragments_bytes back;
      bytes = made.bytes ∙ ap fragments_bytes split ∙ flat_map-append (λ (q : Fragment). q.bytes) front (p ∷ back);
      start = bytes_sized front;
    }

    -- no relocation of another fragment stands at its offset
    abbrev stands_at : Reloc → Bool
    stands_at t = is_sound s t && eqb t.offset at

    not_before : All (λ t. stands_at t ≡ false) before
    not_before = All-weaker IsBefore (λ t. stands_at t ≡ false) (λ t lies. and_right (is_sound s t) (eqb t.offset at) (ne_eqb t.offset at (λ e. omega (arith, e, lies.below)))) before lie_before

    not_after : All (λ t. stands_at t ≡ false) after
    not_after =
        let some = (fragment_sized p stands).some in
        All-weaker IsAfter (λ t. stands_at t ≡ false) (λ t lies. and_right (is_sound s t) (eqb t.offset at) (ne_eqb t.offset at (λ e. omega (arith, e, lies.low, some)))) after lie_after

    -- a fragment without a relocation
    pub none_on : p.reloc ≡ None → reloc_on s at ≡ None
    none_on none =
        sym (found_asking s at made.code)
        ∙ ap (find stands_at) (relocs_are ∙ ap (λ o. before ++ (relocs_at at o ++ after)) none)
        ∙ find_none stands_at (before ++ after) (All-append (λ t. stands_at t ≡ false) before after not_before not_after)

    -- a fragment with one
    module _ (r : FragmentReloc) (is : p.reloc ≡ Some r) where
      abbrev own : Reloc
      own = fragment_reloc_at at r

      under : IsUnder p r
      under = by stands
        where
          by : CanStand p → IsUnder p r
          by (Alone none size) = absurd (cc (none, is))
          by (Under q same fits) = let one : q ≡ r = cc (same, is) in subst (IsUnder p) one fits

      relocs_with : filter asks s.relocs ≡ before ++ own ∷ after
      relocs_with = relocs_are ∙ ap (λ o. before ++ (relocs_at at o ++ after)) is

      ends : field_end own ≡ at + fragment_size p
      ends = ap (λ n. at + n) under.long

      alone : overlaps_another s.relocs own ≡ false
      alone =
          sym (overlaps_asking s.relocs own)
          ∙ ap (λ l. overlaps_another l own) relocs_with
          ∙ one_at_most (overlap own) before own after
          (All-weaker IsBefore (λ t. overlap own t ≡ false) (λ t lies. near_apart own t (omega (arith, lies.end))) before lie_before)
          (All-weaker IsAfter (λ t. overlap own t ≡ false) (λ t lies. far_apart own t (omega (arith, ends, lies.low))) after lie_after)

      placed : is_placed s own ≡ true
      placed =
          let words : eqb (at % code_step s.compressed) 0 ≡ true = eq-eqb (at % code_step s.compressed) 0 (step_four s.compressed at (size_words front (all_left CanStand front (p ∷ back) all_stand))) in
          let both = and_from (eqb (at % code_step s.compressed) 0) (fits_at s at r.addend (kind_of r.kind)) words (under.fits s at there) in
          ap (λ b. not b || (eqb (at % code_step s.compressed) 0 && fits_at s at r.addend (kind_of r.kind))) made.code ∙ both

      -- the fragment's relocation has no fault of its own
      pub fine : IsFine s own
      fine =
          let k = kind_of r.kind in
          let known = under.known s made.code in
          let inside : ltb s.size (field_end own) ≡ false = le-ltb s.size (field_end own) (omega (arith, size_all, ends)) in
          let place : is_bad_place s own ≡ false =
          and_right (not (is_ignored k)) (ltb s.size (field_end own) || (not (is_placed s own) || overlaps_another s.relocs own))
          (or_from (ltb s.size (field_end own)) (not (is_placed s own) || overlaps_another s.relocs own) inside
          (or_from (not (is_placed s own)) (overlaps_another s.relocs own) (not_from_true (is_placed s own) placed) alone)) in
          record {
            known = known;
            placed = place;
            sound =
                and_from (not (is_ignored k)) (not (is_bad_kind s k) && not (is_bad_place s own)) (not_from_false (is_ignored k) under.asks)
                (and_from (not (is_bad_kind s k)) (not (is_bad_place s own)) (not_from_false (is_bad_kind s k) known) (not_from_false (is_bad_place s own) place));
          }

      -- the fragment's relocation decides its item
      pub one_on : reloc_on s at ≡ Some own
      one_on =
          let passes : stands_at own ≡ true = and_from (is_sound s own) (eqb at at) fine.sound (eq-eqb at at refl) in
          sym (found_asking s at made.code)
          ∙ ap (find stands_at) relocs_with
          ∙ find-append stands_at before (own ∷ after)
          ∙ ap (λ o. option_or o (cond (stands_at own) (Some own) (find stands_at after))) (find_none stands_at before not_before)
          ∙ ap (λ b. cond b (Some own) (find stands_at after)) passes

    -- ---- where items start

    -- the item at a fragment is as long as the fragment
    pub size_at_fragment : size_on s at ≡ fragment_size p
    size_at_fragment = by stands
      where
        by : CanStand p → size_on s at ≡ fragment_size p
        by (Alone none size) = ap (λ o. option_map_or field_of o (own_size s.compressed s.bytes at)) (none_on none) ∙ own_plain s.compressed s.bytes at made.plain ∙ sym size
        by (Under r is fits) = ap (λ o. option_map_or field_of o (own_size s.compressed s.bytes at)) (one_on r is) ∙ fits.long

    inside : at < length s.bytes
    inside =
        omega (
          arith,
          ap length made.bytes,
          bytes_sized fragments,
          ap fragments_size split,
          sum_by-append fragment_size front (p ∷ back),
          sum_by-cons fragment_size p back,
          (fragment_sized p stands).some,
        )

  -- an item starts at an offset, or the section ends there
  abbrev pub IsEdge : ℕ → Type 0
  IsEdge n = (starts_on s n ≡ true) ⊎ (n ≡ length s.bytes)

  -- the split behind a fragment
  next_split : (front : List Fragment) (p : Fragment) (back : List Fragment) → fragments ≡ front ++ p ∷ back → fragments ≡ (front ++ p ∷ []) ++ back
  next_split front p back split = split ∙ sym (append_assoc front (p ∷ []) back)

  module _ (whole : IsWhole s) where
    edges_on : (front mid back : List Fragment) → fragments ≡ front ++ (mid ++ back) → IsEdge (fragments_size front) → IsEdge (fragments_size front + fragments_size mid)
    edges_on front [] back split edge = subst IsEdge (omega arith) edge
    edges_on front (p ∷ mid) back split edge =
        let long = fragments_size-push front p in
        subst IsEdge (omega (arith, long, sum_by-cons fragment_size p mid))
        (edges_on (front ++ p ∷ []) mid back (next_split front p (mid ++ back) split) (subst IsEdge (sym long) (over edge)))
      where
        over : IsEdge (fragments_size front) → IsEdge (fragments_size front + fragment_size p)
        over (inl start) = subst (λ n. IsEdge (fragments_size front + n)) (size_at_fragment front p (mid ++ back) split) (start_is s made.code whole (fragments_size front) start).next
        over (inr end) = absurd (omega (arith, end, inside front p (mid ++ back) split))

    -- behind each fragment
    pub edge_after : (front back : List Fragment) → fragments ≡ front ++ back → IsEdge (fragments_size front)
    edge_after front back split = subst IsEdge (omega arith) (edges_on [] front back split (start_first s made.code whole))

    -- an item starts at each fragment
    pub start_at : (front : List Fragment) (p : Fragment) (back : List Fragment) → fragments ≡ front ++ p ∷ back → starts_on s (fragments_size front) ≡ true
    start_at front p back split = by (edge_after front (p ∷ back) split)
      where
        by : IsEdge (fragments_size front) → starts_on s (fragments_size front) ≡ true
        by (inl start) = start
        by (inr end) = absurd (omega (arith, end, inside front p back split))

    -- a fragment starts at k; items start nowhere else
    pub record IsFragment (k : ℕ) : Type 0 where
      pub front : List Fragment
      pub fragment : Fragment
      pub back : List Fragment
      pub split : fragments ≡ front ++ fragment ∷ back
      pub is : k ≡ fragments_size front

    pub fragment_on : (k : ℕ) → starts_on s k ≡ true → IsFragment k
    fragment_on k start =
        along s made.code whole (λ n xs. (front back : List Fragment) → fragments ≡ front ++ back → n ≡ fragments_size front → (k : ℕ) → is_among k xs ≡ true → IsFragment k)
        (λ front back split is k among. absurd cc) each [] fragments refl refl k start
      where
        each : (n : ℕ) (xs : List ℕ) → n < length s.bytes → n % code_step s.compressed ≡ 0 → IsStep s n → Above (n + size_on s n) xs
            → ((front back : List Fragment) → fragments ≡ front ++ back → n + size_on s n ≡ fragments_size front → (k : ℕ) → is_among k xs ≡ true → IsFragment k)
            → (front back : List Fragment) → fragments ≡ front ++ back → n ≡ fragments_size front → (k : ℕ) → is_among k (n ∷ xs) ≡ true → IsFragment k
        each n xs lt words step above rest front [] split is k there =
            absurd (omega (arith, lt, is, ap length made.bytes, bytes_sized fragments, ap fragments_size split, sum_by-append fragment_size front []))
        each n xs lt words step above rest front (p ∷ back) split is k there = by (among n k xs there)
          where
            by : Among n k xs → IsFragment k
            by (Here e) = record { front = front; fragment = p; back = back; split = split; is = sym e ∙ is }
            by (There more) =
                rest (front ++ p ∷ []) back (next_split front p back split)
                (ap (λ m. m + size_on s m) is ∙ ap (λ m. fragments_size front + m) (size_at_fragment front p back split) ∙ sym (fragments_size-push front p)) k more

  -- ---- all relocations

  -- what holds of those that ask for nothing and of each fragment's holds of all
  pub relocs_each : (Q : Reloc → Type 0) → ((r : Reloc) → is_ignored (kind_of r.kind) ≡ true → Q r)
      → ((front : List Fragment) (p : Fragment) (back : List Fragment) (r : FragmentReloc) → fragments ≡ front ++ p ∷ back → p.reloc ≡ Some r → Q (fragment_reloc_at (fragments_size front) r)) → All Q s.relocs
  relocs_each Q ignored each = with_idle s.relocs (subst (All Q) (sym made.relocs) (walk [] fragments refl))
    where
      with_idle : (relocs : List Reloc) → All Q (filter asks relocs) → All Q relocs
      with_idle [] all = All-nil Q
      with_idle (r ∷ rs) all = by (is_ignored (kind_of r.kind)) refl (with_idle rs) all
        where
          by : (b : Bool) → is_ignored (kind_of r.kind) ≡ b → (All Q (filter asks rs) → All Q rs) → All Q (cond (not b) (r ∷ filter asks rs) (filter asks rs)) → All Q (r ∷ rs)
          by true idle rest all = All-cons Q r rs (ignored r idle) (rest all)
          by false busy rest all = All-cons Q r rs (All-head Q r (filter asks rs) all) (rest (All-tail Q r (filter asks rs) all))

      of_fragment : (n : ℕ) (o : Option FragmentReloc) → ((r : FragmentReloc) → o ≡ Some r → Q (fragment_reloc_at n r)) → All Q (relocs_at n o)
      of_fragment n None holds = All-nil Q
      of_fragment n (Some r) holds = All-cons Q (fragment_reloc_at n r) [] (holds r refl) (All-nil Q)

      walk : (front back : List Fragment) → fragments ≡ front ++ back → All Q (relocs_from (fragments_size front) back)
      walk front [] split = All-nil Q
      walk front (p ∷ back) split =
          All-append Q (relocs_at (fragments_size front) p.reloc) (relocs_from (fragments_size front + fragment_size p) back)
          (of_fragment (fragments_size front) p.reloc (λ r is. each front p back r split is))
          (subst (λ n. All Q (relocs_from n back)) (fragments_size-push front p) (walk (front ++ p ∷ []) back (next_split front p back split)))

-- all relocations that lead right are right
pub relocs_right : (inputs : ParsedInputs) (l : IndexedSection) (fragments : List Fragment) → IsMadeOf fragments l.section → IsWhole l.section
    → ((front : List Fragment) (p : Fragment) (back : List Fragment) (r : FragmentReloc) → fragments ≡ front ++ p ∷ back → p.reloc ≡ Some r → LeadsRight inputs l (fragment_reloc_at (fragments_size front) r))
    → RelocsAreRight inputs l
relocs_right inputs l fragments made whole each =
    relocs_each fragments l.section made (λ r. reloc_fault inputs l r ≡ None) (ignored_right inputs l)
    (λ front p back r split is.
    let own = fine fragments l.section made front p back split r is in
    let right = each front p back r split is in
    let start = start_at fragments l.section made whole front p back split in
    no_reloc_fault inputs l (fragment_reloc_at (fragments_size front) r) own.known own.placed (starts_right inputs l (fragment_reloc_at (fragments_size front) r) start) right.paired right.leads)
