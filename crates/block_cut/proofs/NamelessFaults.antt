-- Faults of code name no symbol: those of relocations, of the start and of branches.
use Rattle.std.proofs.Common.{◌≡◌, ℕ, Bool, true, false, List, [], ◌∷◌, Option, Some, None, map, cond, is_none, refl, sym, subst}
use Rattle.std.specs.Prelude.{◌||◌}
use Rattle.std.specs.List.{find}
use Rattle.std.specs.Option.{option_map, option_or}
use Rattle.zc_base.specs.declared.place.Place.{Place}
use Rattle.elf32_read.specs.Fault.{fault_symbol}
use Rattle.elf32_read.specs.declared.fault.Fault.{Fault}
use Rattle.elf32_read.specs.declared.fault.Fault.TheVariants.{BadTarget, LoPair, NoEntry, Range, RelocKind, RelocPlace}
use Rattle.elf32_read.specs.declared.reloc.Reloc.{Reloc}
use Rattle.psabi_reloc.specs.Kinds.{kind_of}
use Rattle.psabi_sym.specs.Faults.{first_some, gather_fault}
use Rattle.psabi_sym.specs.Inputs.{Inputs, ParsedInputs, parsed}
use Rattle.psabi_sym.specs.Indexed.{IndexedSection, all_sections}
use Rattle.block_cut.specs.Faults.{entry_fault, first_fault, has_bad_target, if_so, is_out_of_reach, is_stray, lacks_pcrel_hi, range_fault, reloc_fault, relocs_fault, section_fault}
use Rattle.block_cut.specs.Items.{all_places, entry_in}
use Rattle.block_cut.specs.Relocs.{is_bad_kind, is_bad_place}

-- none of these faults names a symbol
abbrev pub IsNameless : {A : Type 0} → (A → Fault) → Option A → Type 0
IsNameless fault_in None = Unit {0}
IsNameless fault_in (Some x) = fault_symbol (fault_in x) ≡ None

abbrev fault_alone : Fault → Fault
fault_alone fault = fault

abbrev pub fault_of : ℕ × Fault → Fault
fault_of found = found.1

either_nameless : {A : Type 0} (f : A → Fault) (first rest : Option A) → IsNameless f first → IsNameless f rest → IsNameless f (option_or first rest)
either_nameless f None rest is all = all
either_nameless f (Some x) rest is all = is

by_tests : (section at : ℕ) (kind place pair target : Bool) → IsNameless fault_alone (first_some (
    if_so kind (RelocKind section at) ∷ if_so place (RelocPlace section at) ∷ if_so pair (LoPair section at) ∷ if_so target (BadTarget section at) ∷ []))
by_tests section at true place pair target = refl
by_tests section at false true pair target = refl
by_tests section at false false true target = refl
by_tests section at false false false true = refl
by_tests section at false false false false = tt

reloc_nameless : (inputs : ParsedInputs) (l : IndexedSection) (r : Reloc) → IsNameless fault_alone (reloc_fault inputs l r)
reloc_nameless inputs l r =
    by_tests l.index r.offset (is_bad_kind l.section (kind_of r.kind)) (is_bad_place l.section r || is_stray l.section r) (lacks_pcrel_hi inputs l r) (has_bad_target inputs l r)

all_nameless : {A B : Type 0} (f : A → Fault) (g : B → Option A) → ((x : B) → IsNameless f (g x)) → (xs : List B) → IsNameless f (first_some (map g xs))
all_nameless f g each [] = tt
all_nameless f g each (x ∷ xs) = either_nameless f (g x) (first_some (map g xs)) (each x) (all_nameless f g each xs)

paired : (i : ℕ) (found : Option Fault) → IsNameless fault_alone found → IsNameless fault_of (option_map (λ fault. (i, fault)) found)
paired i None is = tt
paired i (Some fault) is = is

section_nameless : (inputs : ParsedInputs) (l : IndexedSection) → IsNameless fault_of (section_fault inputs l)
section_nameless inputs l = paired l.object (first_some (map (reloc_fault inputs l) l.section.relocs)) (all_nameless fault_alone (reloc_fault inputs l) (reloc_nameless inputs l) l.section.relocs)

relocs_nameless : (inputs : ParsedInputs) → IsNameless fault_of (relocs_fault inputs)
unfolding relocs_fault
relocs_nameless inputs = all_nameless fault_of (section_fault inputs) (section_nameless inputs) (all_sections inputs.objects)

entry_nameless : (inputs : ParsedInputs) → IsNameless fault_of (entry_fault inputs)
unfolding entry_fault
entry_nameless inputs = by (entry_in inputs)
  where
    by : (e : Option Place) → IsNameless fault_of (cond (is_none e) (Some (0, NoEntry)) None)
    by None = refl
    by (Some p) = tt

range_nameless : (inputs : ParsedInputs) → IsNameless fault_of (range_fault inputs)
unfolding range_fault
range_nameless inputs = by (find (is_out_of_reach inputs) (all_places inputs.objects))
  where
    by : (q : Option Place) → IsNameless fault_of (option_map (λ (q : Place). (q.object, Range q.section q.offset)) q)
    by None = tt
    by (Some q) = refl

-- the first fault of objects that have none between them
pub first_nameless : (inputs : Inputs) → gather_fault inputs ≡ None → IsNameless fault_of (first_fault inputs)
unfolding first_fault
first_nameless inputs gathered =
    either_nameless fault_of (gather_fault inputs) _ (subst (λ o. IsNameless fault_of o) (sym gathered) tt)
    (either_nameless fault_of (relocs_fault (parsed inputs)) _ (relocs_nameless (parsed inputs))
    (either_nameless fault_of (entry_fault (parsed inputs)) _ (entry_nameless (parsed inputs))
    (either_nameless fault_of (range_fault (parsed inputs)) None (range_nameless (parsed inputs)) tt)))
