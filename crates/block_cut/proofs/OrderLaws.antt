-- Relocations in order: their upper parts rise, and one that has no fault by those up to it has none by all.
use Rattle.std.proofs.Common.{is_some, ◌≡◌, ℕ, zero, suc, ◌+◌, ◌-◌, ◌<◌, ◌≤◌, length, get_or, map, filter, take, drop, ℤ, pos, Bool, true, false, cond, List, [], ◌∷◌, ◌++◌, Option, Some, None, refl, sym, ap, subst, ◌∙◌, arith}
use Rattle.std.specs.Prelude.{Contains, IfSome, nat_le, nat_lt, not, ◌&&◌, ◌||◌, ◌==◌}
use Rattle.std.specs.List.{list_any}
use Rattle.std.specs.List.Sorted.{IsNonDecreasing, IsPermutation}
use Rattle.std.proofs.lemmas.List.{append-nil, map-append, take-append-drop}
use Rattle.std.proofs.lemmas.List.Elements.{filter-append}
use Rattle.std.proofs.lemmas.List.Folds.{list_any-append}
use Rattle.std.proofs.lemmas.List.Sorted.{IsNonDecreasingBy-push, IsPermutation-refl}
use Rattle.elf32_read.specs.declared.reloc.Reloc.{Reloc}
use Rattle.psabi_reloc.specs.Kinds.{field_length, is_auipc, kind_of}
use Rattle.psabi_reloc.specs.declared.kind.RelocKind.{RelocKind}
use Rattle.psabi_reloc.specs.declared.kind.RelocKind.TheVariants as kind
use Rattle.psabi_sym.specs.Inputs.{ParsedInputs}
use Rattle.psabi_sym.specs.Indexed.{IndexedSection}
use Rattle.psabi_sym.specs.Resolve.{resolved}
use Rattle.psabi_sym.specs.declared.target.Target.{Target}
use Rattle.psabi_sym.specs.declared.target.Target.TheVariants.{Code, Number, Absent, Nowhere}
use Rattle.block_cut.specs.Faults.{is_pair_at, is_zero_addend, lacks_pcrel_hi}
use Rattle.block_cut.specs.Invariants.Fields.{AreFields, AreFieldsApart, HoldsFields, is_upper, uppers_of}
use Rattle.block_cut.specs.Invariants.Relocated.{with_relocs}
use Rattle.block_cut.specs.Relocs.{field_end, field_of, is_bad_kind, is_bad_place, instr_in, is_ignored, is_pcrel_hi, is_pcrel_lo, is_placed, overlaps_another}
use Rattle.block_cut.specs.Resolved.{own_fault}
use Rattle.block_cut.specs.declared.fields.Fields.{Fields}
use Rattle.block_cut.specs.declared.resolved_reloc.RelocFault.TheVariants.{Kind, Place, Pair}

-- ---- upper parts

-- the field of an upper part has 4 bytes
upper_length : (k : Option RelocKind) (addend : ℤ) → is_pcrel_hi k ≡ true → field_length k addend ≡ 4
upper_length None addend is = absurd cc
upper_length (Some kind.PcrelHi20) addend is = refl
upper_length (Some kind.Ignored) addend is = absurd cc
upper_length (Some kind.Word) addend is = absurd cc
upper_length (Some kind.Branch) addend is = absurd cc
upper_length (Some kind.Jal) addend is = absurd cc
upper_length (Some kind.Call) addend is = absurd cc
upper_length (Some kind.PcrelLo12I) addend is = absurd cc
upper_length (Some kind.PcrelLo12S) addend is = absurd cc
upper_length (Some kind.Hi20) addend is = absurd cc
upper_length (Some kind.Lo12I) addend is = absurd cc
upper_length (Some kind.Lo12S) addend is = absurd cc
upper_length (Some kind.RvcBranch) addend is = absurd cc
upper_length (Some kind.RvcJump) addend is = absurd cc
upper_length (Some kind.Align) addend is = absurd cc

-- no upper part stands where the fields have ended, or after that
uppers_low : (rs : List Reloc) (n : ℕ) → ((r : Reloc) → Contains rs r → 0 < field_of r → field_end r ≤ n) → (k d : ℕ) → k < length (uppers_of rs) → get_or (uppers_of rs) k d ≤ n
uppers_low [] n before k d lt = absurd (omega (arith, lt))
uppers_low (r ∷ rs) n before k d lt = by (uppers_low rs n (λ s held. before s (suc held.0, omega (arith, held.1), held.2))) (is_upper r) refl k lt
  where
    by : ((k d : ℕ) → k < length (uppers_of rs) → get_or (uppers_of rs) k d ≤ n) → (b : Bool) → is_upper r ≡ b → (k : ℕ) → k < length (map (λ s. s.offset) (cond b (r ∷ filter is_upper rs) (filter is_upper rs)))
        → get_or (map (λ s. s.offset) (cond b (r ∷ filter is_upper rs) (filter is_upper rs))) k d ≤ n
    by rest false is k lt = rest k d lt
    by rest true is zero lt =
        let long = upper_length (kind_of r.kind) r.addend is in
        omega (arith, before r (0, omega arith, refl) (omega (arith, long)))
    by rest true is (suc k) lt = rest k d (omega (arith, lt))

-- an upper part that stands where the fields have ended comes after all others
pub upper_next : (rs : List Reloc) (uppers : List ℕ) (s : Reloc) (n : ℕ) → uppers ≡ uppers_of rs → AreFieldsApart n rs → n ≤ s.offset → IsNonDecreasing uppers → IsNonDecreasing (uppers ++ s.offset ∷ [])
upper_next rs uppers s n are apart past rise =
    IsNonDecreasingBy-push (λ m. m) uppers s.offset rise (λ d some.
    let low = uppers_low rs n apart.before (length (uppers_of rs) - 1) d (omega (arith, some, ap length are)) in
    let is : get_or uppers (length uppers - 1) d ≡ get_or (uppers_of rs) (length (uppers_of rs) - 1) d = λ j. get_or (are j) (length (are j) - 1) d in
    omega (arith, low, is, past))

-- one relocation more, which is an upper part or not
pub one_more : (rs : List Reloc) (fields : Fields) (s : Reloc) → HoldsFields rs fields → (b : Bool) → is_upper s ≡ b → (new : Fields) → new.uppers.items ≡ fields.uppers.items ++ cond b (s.offset ∷ []) []
    → IfSome new.end (λ n. AreFieldsApart n (rs ++ s ∷ [])) → IfSome new.end (λ _. (n : ℕ) × ((fields.end ≡ Some n) × (0 < field_of s → n ≤ s.offset))) → HoldsFields (rs ++ s ∷ []) new
one_more rs fields s holds b upper new items apart past = record { uppers = items ∙ more; apart = apart; rise = by new.end past }
  where
    kept : (b : Bool) → map (λ r. r.offset) (cond b (s ∷ []) []) ≡ cond b (s.offset ∷ []) []
    kept true = refl
    kept false = refl

    more : fields.uppers.items ++ cond b (s.offset ∷ []) [] ≡ uppers_of (rs ++ s ∷ [])
    more =
        (λ j. holds.uppers j ++ cond (sym upper j) (s.offset ∷ []) [])
        ∙ sym (ap (map (λ r. r.offset)) (filter-append is_upper rs (s ∷ [])) ∙ map-append (λ r. r.offset) (filter is_upper rs) (filter is_upper (s ∷ [])) ∙ ap (λ us. uppers_of rs ++ us) (kept (is_upper s)))

    risen : (b : Bool) → is_upper s ≡ b → (n : ℕ) → AreFieldsApart n rs → (0 < field_of s → n ≤ s.offset) → IsNonDecreasing fields.uppers.items → IsNonDecreasing (fields.uppers.items ++ cond b (s.offset ∷ []) [])
    risen false is n apart past rise = subst IsNonDecreasing (sym (append-nil fields.uppers.items)) rise
    risen true is n apart past rise = upper_next rs fields.uppers.items s n holds.uppers apart (past (omega (arith, upper_length (kind_of s.kind) s.addend is))) rise

    by : (end : Option ℕ) → IfSome end (λ _. (n : ℕ) × ((fields.end ≡ Some n) × (0 < field_of s → n ≤ s.offset))) → IfSome end (λ _. IsNonDecreasing new.uppers.items)
    by None past = tt
    by (Some m) past =
        subst IsNonDecreasing (sym items)
        (risen b upper past.0 (subst (λ o. IfSome o (λ n. AreFieldsApart n rs)) past.1.0 holds.apart) past.1.1 (subst (λ o. IfSome o (λ n. IsNonDecreasing fields.uppers.items)) past.1.0 holds.rise))

-- ---- what is there

pub none_there : {X : Type 0} (o : Option X) → is_some o ≡ false → o ≡ None
none_there None is = refl
none_there (Some x) is = absurd cc

pub held_there : (o : Option ℕ) (P : ℕ → Type 0) → is_some o ≡ true → IfSome o P → (n : ℕ) × P n
held_there None P some held = absurd cc
held_there (Some n) P some held = (n, held)

-- fields in order are all that is looked up
pub in_order : (relocs : List Reloc) (fields : Fields) → HoldsFields relocs fields → is_some fields.end ≡ true → AreFields relocs fields
in_order relocs fields holds some = record {
  uppers = record {
    same = subst (λ us. IsPermutation us fields.uppers.items) holds.uppers (IsPermutation-refl fields.uppers.items);
    rise = (held_there fields.end (λ n. IsNonDecreasing fields.uppers.items) some holds.rise).1;
  };
  apart = holds.apart;
  ends = λ none. absurd (cc (some, none));
}

-- ---- faults

-- what passes a test among the first of some elements is among all
pub any_taken : {X : Type 0} (p : X → Bool) (xs : List X) (k : ℕ) → list_any p (take k xs) ≡ true → list_any p xs ≡ true
any_taken p xs k is = ap (list_any p) (sym (take-append-drop k xs)) ∙ list_any-append p (take k xs) (drop k xs) ∙ ap (λ b. b || list_any p (drop k xs)) is

module _ (inputs : ParsedInputs) (l : IndexedSection) (k n : ℕ) (apart : AreFieldsApart n l.section.relocs) (r : Reloc) (held : Contains l.section.relocs r) where
  pair_bits : (lo nothing a b c d part all : Bool) → (part ≡ true → all ≡ true)
      → (lo && (not nothing || not (a && (b && (c && (d && part)))))) ≡ false → (lo && (not nothing || not (a && (b && (c && (d && all)))))) ≡ false
  pair_bits false nothing a b c d part all more none = refl
  pair_bits true false a b c d part all more none = absurd cc
  pair_bits true true false b c d part all more none = absurd cc
  pair_bits true true true false c d part all more none = absurd cc
  pair_bits true true true true false d part all more none = absurd cc
  pair_bits true true true true true false part all more none = absurd cc
  pair_bits true true true true true true false all more none = absurd cc
  pair_bits true true true true true true true all more none = ap not (more refl)

  pair : (lo nothing : Bool) (t : Target) → (lo && (not nothing || not (is_pair_at (with_relocs (take k l.section.relocs) l) t))) ≡ false → (lo && (not nothing || not (is_pair_at l t))) ≡ false
  pair lo nothing (Code q) none =
      let upper : Reloc → Bool = λ s. is_pcrel_hi (kind_of s.kind) && s.offset == q.offset in
      pair_bits lo nothing (q.object == l.object) (q.section == l.index) (nat_le (q.offset + 4) (length l.section.bytes)) (is_auipc (instr_in 4 l.section.bytes q.offset))
      (list_any upper (take k l.section.relocs)) (list_any upper l.section.relocs) (any_taken upper l.section.relocs k) none
  pair lo nothing (Number m) none = none
  pair lo nothing (Absent m) none = none
  pair lo nothing Nowhere none = none

  place : (ignored past placed part all : Bool) → all ≡ false → (not ignored && (past || (not placed || part))) ≡ false → (not ignored && (past || (not placed || all))) ≡ false
  place true past placed part all alone none = refl
  place false true placed part all alone none = absurd cc
  place false false false part all alone none = absurd cc
  place false false true part all alone none = alone

  three : (bad place pair : Bool) → cond bad (Some Kind) (cond place (Some Place) (cond pair (Some Pair) None)) ≡ None → (bad ≡ false) × ((place ≡ false) × (pair ≡ false))
  three true place pair none = absurd cc
  three false true pair none = absurd cc
  three false false true none = absurd cc
  three false false false none = (refl, (refl, refl))

  -- a relocation among those that change no byte twice has no fault if it has none by the first of them
  pub taken_fine : own_fault inputs (with_relocs (take k l.section.relocs) l) r ≡ None → own_fault inputs l r ≡ None
  taken_fine none =
      let part = with_relocs (take k l.section.relocs) l in
      let all = three (is_bad_kind part.section (kind_of r.kind)) (is_bad_place part.section r) (lacks_pcrel_hi inputs part r) none in
      let fine_place : is_bad_place l.section r ≡ false =
      place (is_ignored (kind_of r.kind)) (nat_lt l.section.size (field_end r)) (is_placed l.section r) (overlaps_another (take k l.section.relocs) r) (overlaps_another l.section.relocs r) (apart.alone r held) all.1.0 in
      let fine_pair : lacks_pcrel_hi inputs l r ≡ false = pair (is_pcrel_lo (kind_of r.kind)) (is_zero_addend r.addend) (resolved inputs l.object r.symbol (pos 0)) all.1.1 in
      λ j. cond (all.0 j) (Some Kind) (cond (fine_place j) (Some Place) (cond (fine_pair j) (Some Pair) None))
