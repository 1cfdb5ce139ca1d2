-- The sums of the result are too large only if its files have too many bytes.
use Rattle.std.proofs.Common.{◌≡◌, ℕ, zero, suc, ◌+◌, ◌≤◌, List, [], ◌∷◌, ◌++◌, length, drop, take, map, filter, refl, ap, ap₂, ◌∙◌, arith, Bool, true, false, cond, ltb, Option, Some, None}
use Rattle.std.specs.Prelude.{◌||◌}
use Rattle.std.specs.List.{AllZip, enumerate_from, find, list_any, range_with_len, sum_by}
use Rattle.std.specs.Option.{option_map}
use Rattle.std.proofs.lemmas.Bool.{le-ltb, ltb-false}
use Rattle.std.proofs.lemmas.List.Sums.{sum_by-cons}
use Rattle.elf32_read.specs.Parts.{ObjectParts, SectionParts, SymbolParts, is_kept_section, object_parts}
use Rattle.elf32_read.specs.declared.fault.Fault.{Fault}
use Rattle.elf32_read.specs.declared.fault.Fault.TheVariants.{TooLarge}
use Rattle.elf32_write.specs.Writable.{IsObjectOf}
use Rattle.psabi_sym.specs.Faults.{are_too_large, common_room, data_room, object_code, object_data, room_in_data, sum_fault, sums_of}
use Rattle.psabi_sym.specs.Inputs.{Inputs, parsed}
use Rattle.psabi_sym.proofs.Gathered.{all_none}
use Rattle.block_cut.specs.Faults.{first_fault}
use Rattle.block_cut.proofs.FaultLaws.{faultless}
use Rattle.moved_runs.specs.Passes.{ArePassesFrom, IsOrderly, IsPassOf, passed_from, renumbered}
use Rattle.moved_runs.proofs.PassData.{dropped-role}
use Rattle.object_passes.specs.Written.{without_marks}
use Rattle.object_passes.proofs.WordRooms.{common-kept, data-kept}
use Rattle.section_gc.specs.Cleaned.{cleaned, cleaned_section, cleaned_symbol}
use Rattle.section_gc.specs.Kept.{AreNeeded}
use Rattle.section_gc.proofs.CleaningLaws.{cleaning, section-keeps, symbol-keeps}
use Rattle.section_gc.proofs.LeftFaultsNames.{object-code-less}
use Rattle.section_gc.proofs.Theorem.{inputs-clean}

-- ---- room for data

data-none : (s : SectionParts) → is_kept_section s ≡ false → data_room s ≡ 0
data-none s dropped = ap (room_in_data s) (dropped-role s dropped)

module _ (n : ℕ → Bool) where
  added-data : (added : List SectionParts) → list_any is_kept_section added ≡ false → sum_by data_room added ≡ 0
  added-data [] none = refl
  added-data (x ∷ xs) none = by (is_kept_section x) refl (λ h. added-data xs h) none
    where
      by : (b : Bool) → is_kept_section x ≡ b → (list_any is_kept_section xs ≡ false → sum_by data_room xs ≡ 0) → (b || list_any is_kept_section xs) ≡ false → sum_by data_room (x ∷ xs) ≡ 0
      by true is rest h = absurd cc
      by false is rest h = omega (arith, sum_by-cons data_room x xs, data-none x is, rest h)

  data-sum : (j : ℕ) (ss added : List SectionParts) → list_any is_kept_section added ≡ false → sum_by data_room (passed_from (λ i s. cleaned_section (n i) s) j ss ++ added) ≡ sum_by data_room ss
  data-sum j [] added none = added-data added none
  data-sum j (s ∷ ss) added none = by (data-sum (j + 1) ss added none) (is_kept_section s) refl
    where
      by : sum_by data_room (passed_from (λ i s. cleaned_section (n i) s) (j + 1) ss ++ added) ≡ sum_by data_room ss → (b : Bool) → is_kept_section s ≡ b
          → sum_by data_room (map (λ e. cleaned_section (n e.0) e.1) (cond b ((j, s) ∷ filter (λ e. is_kept_section e.1) (enumerate_from (j + 1) ss)) (filter (λ e. is_kept_section e.1) (enumerate_from (j + 1) ss))) ++ added) ≡ sum_by data_room (s ∷ ss)
      by le true is = omega (arith, le, sum_by-cons data_room s ss, sum_by-cons data_room (cleaned_section (n j) s) (passed_from (λ i s. cleaned_section (n i) s) (j + 1) ss ++ added), data-kept s (cleaned_section (n j) s) (section-keeps (n j) s))
      by le false is = omega (arith, le, sum_by-cons data_room s ss, data-none s is)

  common-sum : (g : ObjectParts) (ss : List SymbolParts) → IsOrderly g → sum_by common_room (map (cleaned_symbol n g) ss) ≡ sum_by common_room ss
  common-sum g [] order = refl
  common-sum g (s ∷ ss) order = omega (arith, sum_by-cons common_room s ss, sum_by-cons common_room (cleaned_symbol n g s) (map (cleaned_symbol n g) ss), common-kept s (cleaned_symbol n g s) (symbol-keeps n g s order), common-sum g ss order)

-- data take as much room as they did
object-data-same : (needed : ℕ → ℕ → Bool) (number : ℕ → ℕ → ℕ) (n : ℕ) (g r : ObjectParts) → IsPassOf (cleaning needed number) n g r → object_data r ≡ object_data g
object-data-same needed number n g r c =
    ap₂ (λ ss ts. sum_by data_room ss + sum_by common_room (drop 1 ts)) c.sections c.symbols
    ∙ (let a = data-sum (needed n) 0 g.sections c.added c.added_dropped in
    let b = common-sum (needed n) g (drop 1 g.symbols) c.orderly in
    let none = data-none c.null c.null_dropped in
    omega (arith, a, b, none, sum_by-cons data_room c.null (passed_from (λ i s. cleaned_section (needed n i) s) 0 g.sections ++ c.added)))

-- ---- sums over files

module _ (needed : ℕ → ℕ → Bool) (number : ℕ → ℕ → ℕ) where
  record Fewer (k : ℕ) (gs fs : List (List ℕ)) : Type 0 where
    code : (sums_of (take k fs)).code_room ≤ (sums_of (take k gs)).code_room
    «data» : (sums_of (take k fs)).data_room ≡ (sums_of (take k gs)).data_room

  fewer : (n k : ℕ) (gs fs : List (List ℕ)) → ArePassesFrom (cleaning needed number) n (map object_parts gs) (map object_parts fs) → Fewer k gs fs
  fewer n zero gs fs clean = record { code = omega arith; «data» = refl }
  fewer n (suc k) [] [] clean = record { code = omega arith; «data» = refl }
  fewer n (suc k) [] (f ∷ fs) clean = absurd clean
  fewer n (suc k) (g ∷ gs) [] clean = absurd clean
  fewer n (suc k) (g ∷ gs) (f ∷ fs) clean =
      let rest = fewer (n + 1) k gs fs clean.1 in
      let c = object-code-less needed number n (object_parts g) (object_parts f) clean.0 in
      let d = object-data-same needed number n (object_parts g) (object_parts f) clean.0 in
      record {
        code = (let r = rest.code in omega (arith, r, c, sum_by-cons (λ f. object_code (object_parts f)) f (take k fs), sum_by-cons (λ f. object_code (object_parts f)) g (take k gs)));
        «data» = (let r = rest.«data» in omega (arith, r, d, sum_by-cons (λ f. object_data (object_parts f)) f (take k fs), sum_by-cons (λ f. object_data (object_parts f)) g (take k gs)));
      }

bytes-le : (k : ℕ) (fs : List (List ℕ)) → sum_by length (take k fs) ≤ sum_by length fs
bytes-le zero fs = omega arith
bytes-le (suc k) [] = omega arith
bytes-le (suc k) (f ∷ fs) = omega (arith, bytes-le k fs, sum_by-cons length f fs, sum_by-cons length f (take k fs))

find-less : (p q : ℕ → Bool) → ((i : ℕ) → p i ≡ false → q i ≡ false) → (ns : List ℕ) → find p ns ≡ None → find q ns ≡ None
find-less p q fails [] none = refl
find-less p q fails (n ∷ ns) none = by (λ h. find-less p q fails ns h) (p n) refl none
  where
    by : (find p ns ≡ None → find q ns ≡ None) → (b : Bool) → p n ≡ b → cond b (Some n) (find p ns) ≡ None → cond (q n) (Some n) (find q ns) ≡ None
    by rest true is h = absurd cc
    by rest false is h = ap (λ b. cond b (Some n) (find q ns)) (fails n is) ∙ rest h

unmapped : (o : Option ℕ) → option_map {U = ℕ × Fault} (λ i. (i, TooLarge)) o ≡ None → o ≡ None
unmapped None h = refl
unmapped (Some i) h = absurd cc

large-parts : (a b c : Bool) → (a || b || c) ≡ false → (b ≡ false) × (c ≡ false)
large-parts false false false h = (refl, refl)
large-parts true b c h = absurd cc
large-parts false true c h = absurd cc
large-parts false false true h = absurd cc

module _ (inputs : Inputs) (needed : ℕ → ℕ → Bool) (files : List (List ℕ)) (none : first_fault inputs ≡ None) (are : AreNeeded (parsed inputs) needed)
    (read : AllZip IsObjectOf (map without_marks (cleaned needed (parsed inputs).objects)) files) (same : length files ≡ length inputs.files) (few : sum_by length files ≤ 0x200_0000) where
  pub sums-none : sum_fault files ≡ None
  unfolding sum_fault
  sums-none =
      let all = faultless inputs none in
      let given = unmapped (find (λ i. are_too_large (sums_of (take (i + 1) inputs.files))) (range_with_len 0 (length inputs.files))) (all_none inputs all.gathered).sums in
      ap (λ n. option_map {U = ℕ × Fault} (λ i. (i, TooLarge)) (find (λ i. are_too_large (sums_of (take (i + 1) files))) (range_with_len 0 n))) same
      ∙ ap (option_map {U = ℕ × Fault} (λ i. (i, TooLarge)))
      (find-less (λ i. are_too_large (sums_of (take (i + 1) inputs.files))) (λ i. are_too_large (sums_of (take (i + 1) files))) small (range_with_len 0 (length inputs.files)) given)
    where
      small : (i : ℕ) → are_too_large (sums_of (take (i + 1) inputs.files)) ≡ false → are_too_large (sums_of (take (i + 1) files)) ≡ false
      small i h =
          let two = large-parts (ltb 0x200_0000 (sums_of (take (i + 1) inputs.files)).file_bytes) (ltb 0x4_0000 (sums_of (take (i + 1) inputs.files)).code_room) (ltb 0x40_0000 ((sums_of (take (i + 1) inputs.files)).data_room + 96)) h in
          let f = fewer needed (renumbered (parsed inputs).objects) 0 (i + 1) inputs.files files (inputs-clean inputs needed files none are read).objects in
          let c = f.code in
          let d = f.«data» in
          let b = bytes-le (i + 1) files in
          let low = ltb-false 0x4_0000 (sums_of (take (i + 1) inputs.files)).code_room two.0 in
          let low' = ltb-false 0x40_0000 ((sums_of (take (i + 1) inputs.files)).data_room + 96) two.1 in
          let x = le-ltb 0x200_0000 (sums_of (take (i + 1) files)).file_bytes (omega (arith, b, few)) in
          let y = le-ltb 0x4_0000 (sums_of (take (i + 1) files)).code_room (omega (arith, c, low)) in
          let z = le-ltb 0x40_0000 ((sums_of (take (i + 1) files)).data_room + 96) (omega (arith, d, low')) in
          λ i. x i || y i || z i
