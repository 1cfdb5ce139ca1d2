-- What holds of inputs without a fault: there are few objects, each of them is read, and data end below the stack; and which
-- fault is the first.
use Rattle.std.proofs.Common.{◌≡◌, ℕ, zero, suc, ◌≤◌, List, [], ◌∷◌, length, Option, Some, None, Bool, true, false, cond, refl, ltb, ap, ◌<◌}
use Rattle.std.specs.Prelude.{slice_get}
use Rattle.std.specs.Option.{option_map, option_or}
use Rattle.std.proofs.lemmas.Bool.{le-ltb, lt-ltb, ltb-false}
use Rattle.elf32_read.specs.declared.fault.Fault.{Fault}
use Rattle.elf32_read.specs.declared.fault.Fault.TheVariants.{TooLarge}
use Rattle.elf32_read.specs.Object.{object_fault}
use Rattle.psabi_sym.specs.Data.{data_end}
use Rattle.psabi_sym.specs.Inputs.{Inputs, ParsedInputs, parsed}
use Rattle.psabi_sym.specs.Faults.{count_fault, fault_from, first_some, gather_fault, most_objects, name_fault, room_fault, sum_fault}
use Rattle.psabi_sym.proofs.FaultLaws.{neither}

-- if neither this object nor a later one has a fault, this one has none, and no later one has
none_of_both : (i : ℕ) (fault : Option Fault) (rest : Option (ℕ × Fault)) → option_or (option_map (λ f. (i, f)) fault) rest ≡ None → (fault ≡ None) × (rest ≡ None)
none_of_both i None rest h = (refl, h)
none_of_both i (Some fault) rest h = absurd cc

-- each object is read without a fault
pub readable_from : (i : ℕ) (files : List (List ℕ)) (k : ℕ) (file : List ℕ) → fault_from i files ≡ None → slice_get files k ≡ Some file → object_fault file ≡ None
readable_from i [] k file none is = absurd cc
readable_from i (first ∷ files) zero file none is =
    let same : first ≡ file = cc in
    rw (← same) (none_of_both i (object_fault first) (fault_from (suc i) files) none).0
readable_from i (first ∷ files) (suc k) file none is =
    readable_from (suc i) files k file (none_of_both i (object_fault first) (fault_from (suc i) files) none).1 is

-- inputs without a fault have none of each kind
pub record IsFaultless (inputs : Inputs) : Type 0 where
  pub few : length inputs.files ≤ 256
  pub readable : fault_from 0 inputs.files ≡ None
  pub sums : sum_fault inputs.files ≡ None
  pub names : name_fault (parsed inputs) ≡ None
  pub room : room_fault (parsed inputs) ≡ None

-- few files have no fault of their number
few_files : (files : List (List ℕ)) → count_fault files ≡ None → length files ≤ 256
few_files files = by (ltb most_objects (length files)) refl
  where
    by : (b : Bool) → ltb most_objects (length files) ≡ b → cond {A = Option (ℕ × Fault)} b (Some (most_objects, TooLarge)) None ≡ None → length files ≤ 256
    by true many h = absurd cc
    by false few h = ltb-false most_objects (length files) few

pub all_none : (inputs : Inputs) → gather_fault inputs ≡ None → IsFaultless inputs
unfolding gather_fault
all_none inputs none =
    let room = first_some (room_fault (parsed inputs) ∷ []) in
    let rest = option_or (name_fault (parsed inputs)) room in
    let count = neither (count_fault inputs.files) (option_or (fault_from 0 inputs.files) (option_or (sum_fault inputs.files) rest)) none in
    let read = neither (fault_from 0 inputs.files) (option_or (sum_fault inputs.files) rest) count.1 in
    let sums = neither (sum_fault inputs.files) rest read.1 in
    let names = neither (name_fault (parsed inputs)) room sums.1 in
    record {
      few = few_files inputs.files count.0;
      readable = read.0;
      sums = sums.0;
      names = names.0;
      room = (neither (room_fault (parsed inputs)) None names.1).0;
    }

pub few_gathered : (inputs : Inputs) → gather_fault inputs ≡ None → length inputs.files ≤ 256
few_gathered inputs none = (all_none inputs none).few

pub readable : (inputs : Inputs) (i : ℕ) (file : List ℕ) → gather_fault inputs ≡ None → slice_get inputs.files i ≡ Some file → object_fault file ≡ None
readable inputs i file none is = readable_from 0 inputs.files i file (all_none inputs none).readable is

-- with too many objects that is the fault
pub too_many : (inputs : Inputs) → most_objects < length inputs.files → gather_fault inputs ≡ Some (most_objects, TooLarge)
unfolding gather_fault
too_many inputs many =
    let rest = option_or (fault_from 0 inputs.files) (option_or (sum_fault inputs.files) (first_some (name_fault (parsed inputs) ∷ room_fault (parsed inputs) ∷ []))) in
    ap (λ b. option_or (cond b (Some (most_objects, TooLarge)) None) rest) (lt-ltb most_objects (length inputs.files) many)

-- with few objects the first fault is that of one that can't be read
pub unreadable : (inputs : Inputs) (index : ℕ) (fault : Fault) → length inputs.files ≤ 256 → fault_from 0 inputs.files ≡ Some (index, fault) → gather_fault inputs ≡ Some (index, fault)
unfolding gather_fault
unreadable inputs index fault few is =
    let rest = option_or (sum_fault inputs.files) (first_some (name_fault (parsed inputs) ∷ room_fault (parsed inputs) ∷ [])) in
    (λ j. option_or (cond (le-ltb most_objects (length inputs.files) few j) (Some (most_objects, TooLarge)) None) (option_or (is j) rest))

-- ---- room below the stack

-- data without that fault end no higher than where the stack begins
pub data_below : (inputs : ParsedInputs) → room_fault inputs ≡ None → data_end inputs ≤ inputs.map.stack_low
unfolding room_fault
data_below inputs = by (ltb inputs.map.stack_low (data_end inputs)) refl
  where
    by : (b : Bool) → ltb inputs.map.stack_low (data_end inputs) ≡ b → cond {A = Option (ℕ × Fault)} b (Some (0, TooLarge)) None ≡ None → data_end inputs ≤ inputs.map.stack_low
    by true above none = absurd cc
    by false below none = ltb-false inputs.map.stack_low (data_end inputs) below

pub has_room : (inputs : ParsedInputs) → data_end inputs ≤ inputs.map.stack_low → room_fault inputs ≡ None
unfolding room_fault
has_room inputs below = ap (λ b. cond {A = Option (ℕ × Fault)} b (Some (0, TooLarge)) None) (le-ltb inputs.map.stack_low (data_end inputs) below)
