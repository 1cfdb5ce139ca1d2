-- A fault that names a symbol stands in one of the objects that were read, so the line of its refusal is the same if other files come
-- after them.
use Rattle.std.proofs.Common.{◌≡◌, ℕ, zero, suc, ◌+◌, ◌<◌, ◌≤◌, Bool, true, false, List, [], ◌∷◌, ◌++◌, length, map, cond, Option, Some, None, refl, ap, subst, ◌⊎◌, inl, inr, slice_get, arith}
use Rattle.std.specs.Prelude.{drop, nat_lt}
use Rattle.std.specs.List.{enumerate_from, find, flat_map}
use Rattle.std.specs.Option.{option_and_then, option_map, option_or}
use Rattle.std.proofs.lemmas.List.{length-map}
use Rattle.elf32_read.specs.Fault.{fault_symbol}
use Rattle.elf32_read.specs.Object.{object_fault}
use Rattle.elf32_read.specs.Parts.{ObjectParts, SymbolParts, object_parts}
use Rattle.elf32_read.specs.declared.fault.Fault.{Fault}
use Rattle.elf32_read.specs.declared.fault.Fault.TheVariants.{TooLarge}
use Rattle.psabi_sym.specs.Data.{data_end}
use Rattle.psabi_sym.specs.Faults.{count_fault, duplicate_fault, fault_from, gather_fault, most_objects, room_fault, sum_fault, undefined_fault}
use Rattle.psabi_sym.specs.Indexed.{IndexedSymbol, all_symbols, symbols_in}
use Rattle.psabi_sym.specs.Inputs.{Inputs, ParsedInputs, parsed}
use Rattle.psabi_sym.specs.LinkFault.{IsRefusal}
use Rattle.psabi_sym.specs.declared.link_fault.LinkFault.{LinkFault}
use Rattle.psabi_sym.specs.declared.link_fault.LinkFault.TheVariants.{Object, OutOfMemory}
use Rattle.zcld.specs.ErrLine.{after_space, err_line, line, name_in, refusal_text}
use Rattle.zcld.specs.Outcome.{link_outcome}
use Rattle.zcld.proofs.Refusals.{names_in_none, names_none}

-- a fault that was found names no symbol, or stands in one of the first n objects
abbrev IsAmong : ℕ → Option (ℕ × Fault) → Type 0
IsAmong n None = Unit {0}
IsAmong n (Some found) = (fault_symbol found.1 ≡ None) ⊎ (found.0 < n)

either_among : (n : ℕ) (first rest : Option (ℕ × Fault)) → IsAmong n first → IsAmong n rest → IsAmong n (option_or first rest)
either_among n None rest is all = all
either_among n (Some found) rest is all = is

-- ---- faults of files

many_among : (files : List (List ℕ)) → IsAmong (length files) (count_fault files)
many_among files = by (nat_lt most_objects (length files))
  where
    by : (many : Bool) → IsAmong (length files) (cond many (Some (most_objects, TooLarge)) None)
    by true = inl refl
    by false = tt

read_among : (n i : ℕ) (files : List (List ℕ)) → i + length files ≤ n → IsAmong n (fault_from i files)
read_among n i [] within = tt
read_among n i (file ∷ files) within =
    either_among n (option_map {T = Fault} {U = ℕ × Fault} (λ fault. (i, fault)) (object_fault file)) (fault_from (suc i) files) (by (object_fault file)) (read_among n (suc i) files (omega (arith, within)))
  where
    by : (found : Option Fault) → IsAmong n (option_map {T = Fault} {U = ℕ × Fault} (λ fault. (i, fault)) found)
    by None = tt
    by (Some fault) = inr (omega (arith, within))

sums_among : (n : ℕ) (files : List (List ℕ)) → IsAmong n (sum_fault files)
unfolding sum_fault
sums_among n files = by _
  where
    by : (found : Option ℕ) → IsAmong n (option_map {T = ℕ} {U = ℕ × Fault} (λ i. (i, TooLarge)) found)
    by None = tt
    by (Some i) = inl refl

-- ---- faults of names

-- these symbols are of the first n objects
abbrev AreOf : ℕ → List IndexedSymbol → Type 0
AreOf n [] = Unit {0}
AreOf n (l ∷ ls) = (l.object < n) × AreOf n ls

of_both : (n : ℕ) (first rest : List IndexedSymbol) → AreOf n first → AreOf n rest → AreOf n (first ++ rest)
of_both n [] rest are all = all
of_both n (l ∷ first) rest are all = (are.0, of_both n first rest are.1 all)

abbrev indexed : ℕ → ℕ × SymbolParts → IndexedSymbol
indexed i s = record { object = i; index = s.0; symbol = s.1 }

of_object : (n i : ℕ) (symbols : List (ℕ × SymbolParts)) → i < n → AreOf n (map (indexed i) symbols)
of_object n i [] lt = tt
of_object n i (s ∷ symbols) lt = (lt, of_object n i symbols lt)

of_all : (n i : ℕ) (objects : List ObjectParts) → i + length objects ≤ n → AreOf n (flat_map symbols_in (enumerate_from i objects))
of_all n i [] within = tt
of_all n i (o ∷ objects) within =
    of_both n (symbols_in (i, o)) (flat_map symbols_in (enumerate_from (i + 1) objects))
    (of_object n i (drop 1 (enumerate_from 0 o.symbols)) (omega (arith, within))) (of_all n (i + 1) objects (omega (arith, within)))

found_among : (n : ℕ) (fault : IndexedSymbol → Fault) (test : IndexedSymbol → Bool) (symbols : List IndexedSymbol) → AreOf n symbols
    → IsAmong n (option_map {T = IndexedSymbol} {U = ℕ × Fault} (λ l. (l.object, fault l)) (find test symbols))
found_among n fault test [] are = tt
found_among n fault test (l ∷ symbols) are = by (test l) (found_among n fault test symbols are.1)
  where
    by : (is : Bool) → IsAmong n (option_map {T = IndexedSymbol} {U = ℕ × Fault} (λ l. (l.object, fault l)) (find test symbols))
        → IsAmong n (option_map {T = IndexedSymbol} {U = ℕ × Fault} (λ l. (l.object, fault l)) (cond is (Some l) (find test symbols)))
    by true later = inr are.0
    by false later = later

symbols_of : (objects : List ObjectParts) → AreOf (length objects) (all_symbols objects)
unfolding all_symbols
symbols_of objects = of_all (length objects) 0 objects (omega arith)

duplicates_among : (objects : List ObjectParts) → IsAmong (length objects) (duplicate_fault objects)
unfolding duplicate_fault
duplicates_among objects = found_among (length objects) _ _ (all_symbols objects) (symbols_of objects)

undefined_among : (inputs : ParsedInputs) → IsAmong (length inputs.objects) (undefined_fault inputs)
unfolding undefined_fault
undefined_among inputs = found_among (length inputs.objects) _ _ (all_symbols inputs.objects) (symbols_of inputs.objects)

-- ---- the fault of room

room_among : (n : ℕ) (inputs : ParsedInputs) → IsAmong n (room_fault inputs)
unfolding room_fault
room_among n inputs = by (nat_lt inputs.map.stack_low (data_end inputs))
  where
    by : (full : Bool) → IsAmong n (cond full (Some (0, TooLarge)) None)
    by true = inl refl
    by false = tt

-- ---- the first fault

gathered_among : (inputs : Inputs) → IsAmong (length inputs.files) (gather_fault inputs)
unfolding gather_fault
gathered_among inputs =
    let n = length inputs.files in
    let objects = (parsed inputs).objects in
    let many : length objects ≡ n = length-map inputs.files object_parts in
    let names = either_among n (duplicate_fault objects) _ (subst (λ k. IsAmong k (duplicate_fault objects)) many (duplicates_among objects))
    (either_among n (undefined_fault (parsed inputs)) None (subst (λ k. IsAmong k (undefined_fault (parsed inputs))) many (undefined_among (parsed inputs))) tt) in
    either_among n (count_fault inputs.files) _ (many_among inputs.files)
    (either_among n (fault_from 0 inputs.files) _ (read_among n 0 inputs.files (omega arith))
    (either_among n (sum_fault inputs.files) _ (sums_among n inputs.files)
    (either_among n _ _ names (either_among n (room_fault (parsed inputs)) None (room_among n (parsed inputs)) tt))))

-- ---- the line

get_front : {A : Type 0} (xs ys : List A) (i : ℕ) → i < length xs → slice_get xs i ≡ slice_get (xs ++ ys) i
get_front [] ys i lt = absurd (omega (arith, lt))
get_front (x ∷ xs) ys zero lt = refl
get_front (x ∷ xs) ys (suc i) lt = get_front xs ys i (omega (arith, lt))

pub refusal_line : (inputs : Inputs) (more : List (List ℕ)) (fault : LinkFault) → IsRefusal (gather_fault inputs) fault
    → err_line inputs.files (link_outcome fault) ≡ err_line (inputs.files ++ more) (link_outcome fault)
refusal_line inputs more OutOfMemory is = refl
refusal_line inputs more (Object index fault) is = elim (subst (IsAmong (length inputs.files)) is (gathered_among inputs)) [
  | inl nameless ↦ names_in_none (link_outcome (Object index fault)) inputs.files (inputs.files ++ more) (names_none (Object index fault) nameless)
  | inr within ↦
      ap
      (λ (file : Option (List ℕ)). line (refusal_text index fault ++ after_space (option_and_then (λ (f : List ℕ). option_and_then (λ (symbol : ℕ). name_in symbol f) (fault_symbol fault)) file)))
      (get_front inputs.files more index within)
]
