-- Lists of files whose first ones have too many bytes: their refusal needs no more of the others than the first fault of reading.
use Rattle.std.proofs.Common.{◌≡◌, ℕ, zero, suc, ◌+◌, ◌<◌, ◌≤◌, List, [], ◌∷◌, ◌++◌, length, take, Bool, true, false, ◌||◌, cond, ltb, Option, Some, None, refl, sym, ap, subst, ◌∙◌, arith, length-append}
use Rattle.std.specs.List.{find, range_with_len, sum_by}
use Rattle.std.specs.Option.{option_map, option_or}
use Rattle.std.proofs.lemmas.Bool.{le-ltb, lt-ltb}
use Rattle.std.proofs.lemmas.List.{take-append-le, take_all}
use Rattle.elf32_read.specs.declared.fault.Fault.{Fault}
use Rattle.elf32_read.specs.declared.fault.Fault.TheVariants.{Alignment, BadName, BadSymbol, CodeSize, Flags, NotElf, SectionKind, TooLarge, Truncated}
use Rattle.elf32_read.specs.Fault.{fault_symbol}
use Rattle.elf32_read.specs.Object.{has_bad_alignment, has_bad_name, has_bad_symbol, has_cut_code, has_other_flags, has_too_many_sections, has_unlinked_sections, is_too_long, not_elf, object_fault, truncated}
use Rattle.elf32_read.specs.Rows.{first_of}
use Rattle.psabi_sym.specs.Faults.{are_too_large, fault_from, first_some, gather_fault, most_objects, name_fault, room_fault, sum_fault, sums_of}
use Rattle.psabi_sym.specs.Inputs.{Inputs, parsed}
use Rattle.psabi_sym.proofs.RangeLaws.{none_found_in_range}

-- ---- the first fault of reading

first_of_three : {A : Type 0} (a b c : Option A) → option_or a (option_or b c) ≡ option_or (option_or a b) c
first_of_three None b c = refl
first_of_three (Some x) b c = refl

-- the fault is that of the first files, or else that of the others
pub fault_from_append : (i : ℕ) (first others : List (List ℕ)) → fault_from i (first ++ others) ≡ option_or (fault_from i first) (fault_from (i + length first) others)
fault_from_append i [] others = let same : i ≡ i + 0 = omega arith in ap (λ n. fault_from n others) same
fault_from_append i (file ∷ first) others =
    let here = option_map {T = Fault} {U = ℕ × Fault} (λ fault. (i, fault)) (object_fault file) in
    let same : suc i + length first ≡ i + suc (length first) = omega arith in
    ap (option_or here) (fault_from_append (suc i) first others ∙ ap (λ n. option_or (fault_from (suc i) first) (fault_from n others)) same)
    ∙ first_of_three here (fault_from (suc i) first) (fault_from (i + suc (length first)) others)

-- ---- a fault of reading names no symbol

abbrev NamesNone : Option Fault → Type 0
NamesNone None = Unit {0}
NamesNone (Some fault) = fault_symbol fault ≡ None

abbrev AllNameNone : List (Bool × Fault) → Type 0
AllNameNone [] = Unit {0}
AllNameNone (row ∷ rows) = (fault_symbol row.1 ≡ None) × AllNameNone rows

first_names_none : (rows : List (Bool × Fault)) → AllNameNone rows → NamesNone (first_of rows)
first_names_none [] all = tt
first_names_none (row ∷ rows) all = by row.0 (first_names_none rows all.1)
  where
    by : (b : Bool) → NamesNone (first_of rows) → NamesNone (cond b (Some row.1) (first_of rows))
    by true later = all.0
    by false later = later

object_names_none : (file : List ℕ) → NamesNone (object_fault file)
unfolding object_fault
object_names_none file = first_names_none (
    (is_too_long file, TooLarge) ∷ (not_elf file, NotElf) ∷ (has_too_many_sections file, TooLarge) ∷ (truncated file, Truncated)
    ∷ (has_other_flags file, Flags) ∷ (has_unlinked_sections file, SectionKind) ∷ (has_bad_alignment file, Alignment)
    ∷ (has_cut_code file, CodeSize) ∷ (has_bad_name file, BadName) ∷ (has_bad_symbol file, BadSymbol) ∷ []) (refl, (refl, (refl, (refl, (refl, (refl, (refl, (refl, (refl, (refl, tt))))))))))

pub reading_names_none : (i : ℕ) (files : List (List ℕ)) (index : ℕ) (fault : Fault) → fault_from i files ≡ Some (index, fault) → fault_symbol fault ≡ None
reading_names_none i [] index fault is = absurd cc
reading_names_none i (file ∷ files) index fault is = by (object_fault file) (object_names_none file) (reading_names_none (suc i) files index fault) is
  where
    by : (here : Option Fault) → NamesNone here → (fault_from (suc i) files ≡ Some (index, fault) → fault_symbol fault ≡ None)
        → option_or (option_map {T = Fault} {U = ℕ × Fault} (λ fault. (i, fault)) here) (fault_from (suc i) files) ≡ Some (index, fault) → fault_symbol fault ≡ None
    by None none later found = later found
    by (Some own) none later found = let pair : (i, own) ≡ (index, fault) = cc in let same : own ≡ fault = ap (λ (p : ℕ × Fault). p.1) pair in subst (λ f. fault_symbol f ≡ None) same none

-- ---- the first sum that is too large

-- the sums of the files up to this one are
abbrev pub passes : List (List ℕ) → ℕ → Bool
passes files i = are_too_large (sums_of (take (i + 1) files))

-- a number that is found is found among more
find_more : (p q : ℕ → Bool) (k n m x : ℕ) → ((i : ℕ) → i < k + n → q i ≡ p i) → find p (range_with_len k n) ≡ Some x → find q (range_with_len k (n + m)) ≡ Some x
find_more p q k zero m x same found = absurd cc
find_more p q k (suc n) m x same found =
    let more : suc n + m ≡ suc (n + m) = omega arith in
    ap (λ c. find q (range_with_len k c)) more ∙ ap (λ b. cond b (Some k) (find q (range_with_len (k + 1) (n + m)))) (same k (omega arith)) ∙ by (find_more p q (k + 1) n m x (λ i within. same i (omega arith))) (p k) found
  where
    by : (find p (range_with_len (k + 1) n) ≡ Some x → find q (range_with_len (k + 1) (n + m)) ≡ Some x) → (b : Bool)
        → cond b (Some k) (find p (range_with_len (k + 1) n)) ≡ Some x → cond b (Some k) (find q (range_with_len (k + 1) (n + m))) ≡ Some x
    by later true is = is
    by later false is = later is

-- the first object with which a sum is too large is so with others behind it
pub sum_fault_append : (first others : List (List ℕ)) (index : ℕ) → find (passes first) (range_with_len 0 (length first)) ≡ Some index → sum_fault (first ++ others) ≡ Some (index, TooLarge)
unfolding sum_fault
sum_fault_append first others index found =
    let same : (i : ℕ) → i < 0 + length first → passes (first ++ others) i ≡ passes first i =
    λ i within. let le : i + 1 ≤ length first = omega arith in ap (λ files. are_too_large (sums_of files)) (take-append-le (i + 1) first others le) in
    ap (option_map {T = ℕ} {U = ℕ × Fault} (λ i. (i, TooLarge)))
    (ap (λ n. find (passes (first ++ others)) (range_with_len 0 n)) (length-append first others) ∙ find_more (passes first) (passes (first ++ others)) 0 (length first) (length others) index same found)

-- one of two tests passes
not_neither : (a b : Bool) → a ≡ true → (a || b) ≡ false → ⊥
not_neither true b is none = absurd cc
not_neither false b is none = absurd cc

-- files with too many bytes have such an object
pub long_files : (files : List (List ℕ)) → 0x200_0000 < sum_by length files → find (passes files) (range_with_len 0 (length files)) ≡ None → ⊥
long_files [] long none = absurd (omega arith)
long_files (file ∷ files) long none =
    let all = file ∷ files in
    let count : length files + 1 ≡ length all = omega arith in
    let last : are_too_large (sums_of (take (length files + 1) all)) ≡ false = none_found_in_range (passes all) 0 (length all) (length files) none (omega arith) (omega arith) in
    let whole : are_too_large (sums_of all) ≡ false = ap (λ f. are_too_large (sums_of f)) (sym (ap (λ n. take n all) count ∙ take_all (length all) all (omega arith))) ∙ last in
    let above : ltb 0x200_0000 (sum_by length all) ≡ true = lt-ltb 0x200_0000 (sum_by length all) long in
    let code = ltb 0x4_0000 (sums_of all).code_room in
    not_neither (ltb 0x200_0000 (sum_by length all) || code) (ltb 0x40_0000 ((sums_of all).data_room + 96)) (ap (λ b. b || code) above) whole

-- ---- the refusal

-- a sum comes third
pub sums_third : (inputs : Inputs) (index : ℕ) (fault : Fault) → length inputs.files ≤ 256 → fault_from 0 inputs.files ≡ None → sum_fault inputs.files ≡ Some (index, fault) → gather_fault inputs ≡ Some (index, fault)
unfolding gather_fault
sums_third inputs index fault few readable is =
    let rest = first_some (name_fault (parsed inputs) ∷ room_fault (parsed inputs) ∷ []) in
    (λ j. option_or (cond (le-ltb most_objects (length inputs.files) few j) (Some (most_objects, TooLarge)) None) (option_or (readable j) (option_or (is j) rest)))
