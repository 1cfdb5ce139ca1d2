-- Where a file of the result is too large, or their sum is, the first such object is the first fault of the result.
use Rattle.std.proofs.Common.{◌≡◌, ℕ, zero, suc, ◌+◌, ◌*◌, ◌^◌, ◌<◌, ◌≤◌, List, [], ◌∷◌, length, take, filter, map, refl, sym, ap, ap₂, ◌∙◌, arith, Bool, true, false, cond, eqb, leb, ltb, Option, Some, None, slice_get, subst}
use Rattle.std.specs.Prelude.{not, ◌&&◌, ◌||◌}
use Rattle.std.specs.List.{enumerate_from, find, range_with_len, sum_by}
use Rattle.std.specs.Option.{option_map, option_or}
use Rattle.std.proofs.lemmas.Bool.{le-ltb, leb-false, leb-true, lt-ltb, ltb-false}
use Rattle.std.proofs.lemmas.List.{length-map}
use Rattle.std.proofs.lemmas.List.Sums.{sum_by-cons}
use Rattle.std.proofs.lemmas.Option.{slice_get-map}
use Rattle.elf32_read.specs.Header.{begins_as, has_other_section_headers, section_count}
use Rattle.elf32_read.specs.Object.{has_bad_alignment, has_bad_name, has_bad_symbol, has_cut_code, has_other_flags, has_too_many_sections, has_unlinked_sections, is_too_long, not_elf, object_fault, truncated}
use Rattle.elf32_read.specs.Parts.{ObjectParts, SectionParts, is_kept_section, object_parts}
use Rattle.elf32_read.specs.Rows.{first_of}
use Rattle.elf32_read.specs.declared.fault.Fault.{Fault}
use Rattle.elf32_read.specs.declared.fault.Fault.TheVariants.{NotElf, Truncated, Flags, SectionKind, Alignment, CodeSize, BadName, BadSymbol, TooLarge}
use Rattle.elf32_write.specs.ObjectFile.{object_bytes, object_size, section_total}
use Rattle.elf32_write.proofs.FileHeaderBack.{count_back, header_size_back, length-object_bytes, magic_back}
use Rattle.elf32_write.proofs.SoundWords.{words_back}
use Rattle.psabi_sym.specs.Faults.{are_too_large, count_fault, fault_from, first_some, gather_fault, most_objects, name_fault, object_code, object_data, room_fault, sum_fault, sums_of}
use Rattle.psabi_sym.specs.Inputs.{Inputs, parsed}
use Rattle.psabi_sym.proofs.Gathered.{all_none, readable}
use Rattle.block_cut.specs.Faults.{entry_fault, first_fault, range_fault, relocs_fault}
use Rattle.block_cut.proofs.FaultLaws.{faultless}
use Rattle.moved_runs.specs.Passes.{Pass, passed_from, passed_object, passed_objects, with_files}
use Rattle.object_passes.specs.Rooms.{has_relas, part_headers}
use Rattle.object_passes.specs.Sizes.{first_large, first_oversized, is_small_object, passes_sum}
use Rattle.object_passes.proofs.FitPass.{IsFitPass}
use Rattle.object_passes.proofs.OrderlyLaws.{orderly}
use Rattle.object_passes.proofs.RoomLaws.{length-passed, passed-at, passed-got}
use Rattle.object_passes.proofs.SizeLaws.{total-is}
use Rattle.object_passes.proofs.SoundLaws.{too-large}
use Rattle.object_passes.proofs.WordRooms.{NeedsLess, needs-less}
use Rattle.object_passes.proofs.WritableLaws.{all-room, can-be, fit-at, small-each, sound-small}

-- ---- an object with too many sections

third-true : (a b c : Bool) (f g h : Fault) (rest : List (Bool × Fault)) → a ≡ false → b ≡ false → c ≡ true → first_of ((a, f) ∷ (b, g) ∷ (c, h) ∷ rest) ≡ Some h
third-true false false true f g h rest ea eb ec = refl
third-true true b c f g h rest ea eb ec = absurd cc
third-true false true c f g h rest ea eb ec = absurd cc
third-true false false false f g h rest ea eb ec = absurd cc

too-many : (parts : ObjectParts) → 4096 < section_total parts → section_total parts < 2 ^ 16 → object_size parts ≤ 0x40_0000 → object_fault (object_bytes parts) ≡ Some TooLarge
unfolding object_fault
too-many parts many few short =
    let bytes = object_bytes parts in
    let long = le-ltb (length bytes) 52 (omega (arith, length-object_bytes parts)) in
    let sized : has_other_section_headers bytes ≡ false = right-false (not (eqb (section_count bytes) 0)) (ap (λ n. not (eqb n 40)) (header_size_back parts)) in
    third-true (is_too_long bytes) (not_elf bytes) (has_too_many_sections bytes) TooLarge NotElf TooLarge
    ((truncated bytes, Truncated)
    ∷ (has_other_flags bytes, Flags) ∷ (has_unlinked_sections bytes, SectionKind) ∷ (has_bad_alignment bytes, Alignment)
    ∷ (has_cut_code bytes, CodeSize) ∷ (has_bad_name bytes, BadName) ∷ (has_bad_symbol bytes, BadSymbol) ∷ [])
    (le-ltb 0x40_0000 (length bytes) (omega (arith, length-object_bytes parts, short)))
    (three (ltb (length bytes) 52) (not (begins_as 1 bytes)) (has_other_section_headers bytes) long (ap not (magic_back parts)) sized)
    (lt-ltb 4096 (section_count bytes) (omega (arith, count_back parts few, many)))
  where
    right-false : (a : Bool) {b : Bool} → b ≡ false → (a && b) ≡ false
    right-false true e = e
    right-false false e = refl

    three : (a b c : Bool) → a ≡ false → b ≡ false → c ≡ false → (a || b || c) ≡ false
    three false false false ea eb ec = refl
    three true b c ea eb ec = absurd cc
    three false true c ea eb ec = absurd cc
    three false false true ea eb ec = absurd cc

-- a section that is kept has two headers at most
headers-few : (section : ℕ → SectionParts → SectionParts) (i : ℕ) (ss : List SectionParts) → sum_by part_headers (passed_from section i ss) ≤ 2 * length ss
headers-few section i [] = omega arith
headers-few section i (s ∷ ss) = by (headers-few section (i + 1) ss) (is_kept_section s)
  where
    one : (b : Bool) → 1 + cond b 1 0 ≤ 2
    one true = omega arith
    one false = omega arith

    rest : List (ℕ × SectionParts)
    rest = filter (λ e. is_kept_section e.1) (enumerate_from (i + 1) ss)

    by : sum_by part_headers (passed_from section (i + 1) ss) ≤ 2 * length ss → (b : Bool) → sum_by part_headers (map (λ e. section e.0 e.1) (cond b ((i, s) ∷ rest) rest)) ≤ 2 * suc (length ss)
    by le true = omega (arith, le, sum_by-cons part_headers (section i s) (passed_from section (i + 1) ss), one (has_relas (section i s)))
    by le false = omega (arith, le)

module _ (pass : Pass) (o : ℕ) (file : List ℕ) (fine : object_fault file ≡ None) where
  abbrev parts : ObjectParts
  parts = passed_object pass o (object_parts file)

  few-headers : section_total parts < 2 ^ 16
  few-headers = omega (arith, total-is parts, headers-few (pass.section o) 0 (object_parts file).sections, (orderly file fine).few)

  large-fault : is_small_object parts ≡ false → object_fault (object_bytes parts) ≡ Some TooLarge
  large-fault large = by (leb (object_size parts) 0x40_0000) refl (leb (section_total parts) 4096) refl
    where
      by : (short : Bool) → leb (object_size parts) 0x40_0000 ≡ short → (count : Bool) → leb (section_total parts) 4096 ≡ count → object_fault (object_bytes parts) ≡ Some TooLarge
      by false long count is = too-large parts (leb-false (object_size parts) 0x40_0000 long)
      by true short false many = too-many parts (leb-false (section_total parts) 4096 many) few-headers (leb-true (object_size parts) 0x40_0000 short)
      by true short true count = absurd (let both = ap₂ (λ a b. a && b) count short in cc (both, large))

-- ---- the first object that is too large by itself

abbrev large_in : List (ℕ × ObjectParts) → Option ℕ
large_in es = option_map (λ e. e.0) (find (λ e. not (is_small_object e.1)) es)

-- files that are small have no fault, and others are too large
record AreJudged (parts : List ObjectParts) : Type 0 where
  small : (k : ℕ) (p : ObjectParts) → slice_get parts k ≡ Some p → is_small_object p ≡ true → object_fault (object_bytes p) ≡ None
  large : (k : ℕ) (p : ObjectParts) → slice_get parts k ≡ Some p → is_small_object p ≡ false → object_fault (object_bytes p) ≡ Some TooLarge

judged-rest : (p : ObjectParts) (ps : List ObjectParts) → AreJudged (p ∷ ps) → AreJudged ps
judged-rest p ps are = record { small = λ k q at is. are.small (suc k) q at is; large = λ k q at is. are.large (suc k) q at is }

first-fault-from : (n : ℕ) (ps : List ObjectParts) → AreJudged ps → fault_from n (map object_bytes ps) ≡ option_map {U = ℕ × Fault} (λ i. (i, TooLarge)) (large_in (enumerate_from n ps))
first-fault-from n [] are = refl
first-fault-from n (p ∷ ps) are =
    let next : suc n ≡ n + 1 = omega arith in
    by (is_small_object p) refl (ap (λ m. fault_from m (map object_bytes ps)) next ∙ first-fault-from (n + 1) ps (judged-rest p ps are))
  where
    by : (b : Bool) → is_small_object p ≡ b → fault_from (suc n) (map object_bytes ps) ≡ option_map {U = ℕ × Fault} (λ i. (i, TooLarge)) (large_in (enumerate_from (n + 1) ps))
        → option_or (option_map (λ fault. (n, fault)) (object_fault (object_bytes p))) (fault_from (suc n) (map object_bytes ps))
        ≡ option_map {U = ℕ × Fault} (λ i. (i, TooLarge)) (option_map (λ (e : ℕ × ObjectParts). e.0) (cond (not b) (Some (n, p)) (find (λ e. not (is_small_object e.1)) (enumerate_from (n + 1) ps))))
    by true is rest = ap (λ f. option_or (option_map (λ fault. (n, fault)) f) (fault_from (suc n) (map object_bytes ps))) (are.small 0 p refl is) ∙ rest
    by false is rest = ap (λ f. option_or (option_map (λ fault. (n, fault)) f) (fault_from (suc n) (map object_bytes ps))) (are.large 0 p refl is)

-- ---- sums

find-either : (p q r : ℕ → Bool) → ((i : ℕ) → p i ≡ false → q i ≡ r i) → (ns : List ℕ) → find p ns ≡ None → find q ns ≡ find r ns
find-either p q r same [] none = refl
find-either p q r same (n ∷ ns) none = by (λ h. find-either p q r same ns h) (p n) refl none
  where
    by : (find p ns ≡ None → find q ns ≡ find r ns) → (b : Bool) → p n ≡ b → cond b (Some n) (find p ns) ≡ None → cond (q n) (Some n) (find q ns) ≡ cond (r n) (Some n) (find r ns)
    by rest true is h = absurd cc
    by rest false is h = ap₂ (λ b o. cond b (Some n) o) (same n is) (rest h)

unmapped : (o : Option ℕ) → option_map {U = ℕ × Fault} (λ i. (i, TooLarge)) o ≡ None → o ≡ None
unmapped None h = refl
unmapped (Some i) h = absurd cc

large-parts : (a b c : Bool) → (a || b || c) ≡ false → (b ≡ false) × (c ≡ false)
large-parts false false false h = (refl, refl)
large-parts true b c h = absurd cc
large-parts false true c h = absurd cc
large-parts false false true h = absurd cc

sum-sizes : (k : ℕ) (ps : List ObjectParts) → sum_by length (take k (map object_bytes ps)) ≡ sum_by object_size (take k ps)
sum-sizes zero ps = refl
sum-sizes (suc k) [] = refl
sum-sizes (suc k) (p ∷ ps) =
    omega (arith, sum_by-cons length (object_bytes p) (take k (map object_bytes ps)), sum_by-cons object_size p (take k ps), length-object_bytes p, sum-sizes k ps)

record NeedLess (k : ℕ) (fs gs : List (List ℕ)) : Type 0 where
  code : (sums_of (take k fs)).code_room ≤ (sums_of (take k gs)).code_room
  held : (sums_of (take k fs)).data_room ≤ (sums_of (take k gs)).data_room

need-less : (pass : Pass) (n k : ℕ) (gs : List (List ℕ))
    → ((o : ℕ) (file : List ℕ) → slice_get gs o ≡ Some file → NeedsLess (object_parts (object_bytes (passed_object pass (n + o) (object_parts file)))) (object_parts file))
    → NeedLess k (map object_bytes (map (λ e. passed_object pass e.0 e.1) (enumerate_from n (map object_parts gs)))) gs
need-less pass n zero gs each = record { code = omega arith; held = omega arith }
need-less pass n (suc k) [] each = record { code = omega arith; held = omega arith }
need-less pass n (suc k) (g ∷ gs) each =
    let none : n + 0 ≡ n = omega arith in
    let file = object_bytes (passed_object pass n (object_parts g)) in
    let files = map object_bytes (map (λ e. passed_object pass e.0 e.1) (enumerate_from (n + 1) (map object_parts gs))) in
    let own = subst (λ m. NeedsLess (object_parts (object_bytes (passed_object pass m (object_parts g)))) (object_parts g)) none (each 0 g refl) in
    let rest = need-less pass (n + 1) k gs (λ o f at.
    let next : n + suc o ≡ n + 1 + o = omega arith in
    subst (λ m. NeedsLess (object_parts (object_bytes (passed_object pass m (object_parts f)))) (object_parts f)) next (each (suc o) f at)) in
    record {
      code = omega (arith, own.code, rest.code, sum_by-cons (λ f. object_code (object_parts f)) file (take k files), sum_by-cons (λ f. object_code (object_parts f)) g (take k gs));
      held = omega (arith, own.held, rest.held, sum_by-cons (λ f. object_data (object_parts f)) file (take k files), sum_by-cons (λ f. object_data (object_parts f)) g (take k gs));
    }

-- ---- the result

module _ (inputs : Inputs) (pass : Pass) (none : first_fault inputs ≡ None) (fit : IsFitPass pass (parsed inputs).objects) where
  abbrev objects : List ObjectParts
  objects = passed_objects pass (parsed inputs).objects

  abbrev files : List (List ℕ)
  files = map object_bytes objects

  file-fine : (o : ℕ) (file : List ℕ) → slice_get inputs.files o ≡ Some file → object_fault file ≡ None
  file-fine o file at = let all = faultless inputs none in readable inputs o file all.gathered at

  judged : AreJudged objects
  judged = record {
    small = λ k p at is.
        let own = passed-at pass inputs.files k p at in
        let can = can-be inputs pass k own.file none own.at (fit-at inputs pass k own.file fit own.at) (ap is_small_object (sym own.is) ∙ is) in
        ap (λ q. object_fault (object_bytes q)) own.is ∙ can.faultless;
    large = λ k p at is.
        let own = passed-at pass inputs.files k p at in
        ap (λ q. object_fault (object_bytes q)) own.is ∙ large-fault pass k own.file (file-fine k own.file own.at) (ap is_small_object (sym own.is) ∙ is);
  }

  same-count : length files ≡ length inputs.files
  same-count = length-map objects object_bytes ∙ length-passed pass inputs.files

  few : count_fault files ≡ None
  few =
      let all = faultless inputs none in
      let most = (all_none inputs all.gathered).few in
      ap (λ b. cond b (Some (most_objects, TooLarge)) None) (le-ltb most_objects (length files) (omega (arith, most, same-count)))

  less : first_large objects ≡ None → (o : ℕ) (file : List ℕ) → slice_get inputs.files o ≡ Some file → NeedsLess (object_parts (object_bytes (passed_object pass (0 + o) (object_parts file)))) (object_parts file)
  less small o file at =
      let parts = passed_object pass o (object_parts file) in
      let there = passed-got pass (parsed inputs).objects o (object_parts file) (slice_get-map object_parts inputs.files o ∙ ap (option_map object_parts) at) in
      let fits = fit-at inputs pass o file fit at in
      let sound = sound-small inputs pass o file none at fits (small-each objects small o parts there) in
      let back = words_back parts sound (all-room inputs pass o file none at fits) in
      let zero : o ≡ 0 + o = omega arith in
      subst (λ m. NeedsLess (object_parts (object_bytes (passed_object pass m (object_parts file)))) (object_parts file)) zero
      (needs-less pass o file (object_bytes parts) fit.marks fits (orderly file (file-fine o file at)) back)

  sum-is : first_large objects ≡ None → sum_fault files ≡ option_map {U = ℕ × Fault} (λ i. (i, TooLarge)) (find (passes_sum objects) (range_with_len 0 (length objects)))
  unfolding sum_fault
  sum-is small =
      let all = faultless inputs none in
      let given = unmapped (find (λ i. are_too_large (sums_of (take (i + 1) inputs.files))) (range_with_len 0 (length inputs.files))) (all_none inputs all.gathered).sums in
      let many : length objects ≡ length inputs.files = sym (length-map objects object_bytes) ∙ same-count in
      ap (option_map {U = ℕ × Fault} (λ i. (i, TooLarge)))
      (ap (λ n. find (λ i. are_too_large (sums_of (take (i + 1) files))) (range_with_len 0 n)) same-count
      ∙ find-either (λ i. are_too_large (sums_of (take (i + 1) inputs.files))) (λ i. are_too_large (sums_of (take (i + 1) files))) (passes_sum objects) same (range_with_len 0 (length inputs.files)) given
      ∙ ap (λ n. find (passes_sum objects) (range_with_len 0 n)) (sym many))
    where
      same : (i : ℕ) → are_too_large (sums_of (take (i + 1) inputs.files)) ≡ false → are_too_large (sums_of (take (i + 1) files)) ≡ passes_sum objects i
      same i h =
          let two = large-parts (ltb 0x200_0000 (sums_of (take (i + 1) inputs.files)).file_bytes) (ltb 0x4_0000 (sums_of (take (i + 1) inputs.files)).code_room) (ltb 0x40_0000 ((sums_of (take (i + 1) inputs.files)).data_room + 96)) h in
          let few = need-less pass 0 (i + 1) inputs.files (less small) in
          let code = few.code in
          let held = few.held in
          let low = ltb-false 0x4_0000 (sums_of (take (i + 1) inputs.files)).code_room two.0 in
          let low' = ltb-false 0x40_0000 ((sums_of (take (i + 1) inputs.files)).data_room + 96) two.1 in
          let x = ap (ltb 0x200_0000) (sum-sizes (i + 1) objects) in
          let y = le-ltb 0x4_0000 (sums_of (take (i + 1) files)).code_room (omega (arith, code, low)) in
          let z = le-ltb 0x40_0000 ((sums_of (take (i + 1) files)).data_room + 96) (omega (arith, held, low')) in
          (λ j. x j || y j || z j) ∙ last (passes_sum objects i)
        where
          last : (b : Bool) → (b || false || false) ≡ b
          last true = refl
          last false = refl

  pub gather-oversized : (i : ℕ) → first_oversized objects ≡ Some i → gather_fault (with_files inputs files) ≡ Some (i, TooLarge)
  unfolding gather_fault
  gather-oversized i is =
      (λ j. option_or (few j) (option_or (first-fault-from 0 objects judged j) (option_or (sum_fault files) rest))) ∙ by (first_large objects) refl is
    where
      rest : Option (ℕ × Fault)
      rest = first_some (name_fault (parsed (with_files inputs files)) ∷ room_fault (parsed (with_files inputs files)) ∷ [])

      by : (o : Option ℕ) → first_large objects ≡ o → option_or o (find (passes_sum objects) (range_with_len 0 (length objects))) ≡ Some i
          → option_or (option_map {U = ℕ × Fault} (λ i. (i, TooLarge)) (first_large objects)) (option_or (sum_fault files) rest) ≡ Some (i, TooLarge)
      by (Some k) large h = ap (λ o. option_or (option_map {U = ℕ × Fault} (λ i. (i, TooLarge)) o) (option_or (sum_fault files) rest)) (large ∙ h)
      by None large h =
          ap (λ o. option_or (option_map {U = ℕ × Fault} (λ i. (i, TooLarge)) o) (option_or (sum_fault files) rest)) large
          ∙ ap (λ o. option_or o rest) (sum-is large ∙ ap (option_map {U = ℕ × Fault} (λ i. (i, TooLarge))) h)

-- the first object that is too large is the first fault of the result
pub oversized-broken : (inputs : Inputs) (pass : Pass) (i : ℕ) → first_fault inputs ≡ None → IsFitPass pass (parsed inputs).objects → first_oversized (passed_objects pass (parsed inputs).objects) ≡ Some i
    → first_fault (with_files inputs (map object_bytes (passed_objects pass (parsed inputs).objects))) ≡ Some (i, TooLarge)
unfolding first_fault
oversized-broken inputs pass i none fit is =
    let result = parsed (with_files inputs (map object_bytes (passed_objects pass (parsed inputs).objects))) in
    ap (λ o. option_or o (first_some (relocs_fault result ∷ entry_fault result ∷ range_fault result ∷ []))) (gather-oversized inputs pass none fit i is)
