-- The first fault: those between objects come first, then those of relocations, then a missing start, then branches that don't reach.
use Rattle.std.proofs.Common.{◌≡◌, ℕ, cond, map, Option, Some, None, is_none, refl, sym, ap, ◌∙◌}
use Rattle.std.specs.List.{find}
use Rattle.std.specs.Option.{option_map, option_or, unwrap_or}
use Rattle.zc_base.specs.declared.place.Place.{Place}
use Rattle.elf32_read.specs.declared.fault.Fault.{Fault}
use Rattle.elf32_read.specs.declared.fault.Fault.TheVariants.{NoEntry, Range}
use Rattle.elf32_read.specs.Parts.{SectionParts}
use Rattle.psabi_sym.specs.Faults.{first_some, gather_fault}
use Rattle.psabi_sym.specs.Indexed.{section_at, sections_before}
use Rattle.psabi_sym.specs.Inputs.{Inputs, ParsedInputs, parsed}
use Rattle.psabi_sym.specs.LinkFault.{IsRefusal}
use Rattle.psabi_sym.specs.declared.link_fault.LinkFault.{LinkFault}
use Rattle.psabi_sym.specs.declared.link_fault.LinkFault.TheVariants.{Object, OutOfMemory}
use Rattle.block_cut.specs.Faults.{entry_fault, first_fault, is_out_of_reach, range_fault, relocs_fault, section_fault}
use Rattle.block_cut.specs.Items.{all_places, entry_in, entry_of}
use Rattle.block_cut.proofs.FirstLaws.{none_within}
use Rattle.block_cut.proofs.ListedLaws.{cut_at, listed}

-- ---- the first fault

-- after those between objects one of relocations
pub relocs_refusal : (inputs : Inputs) (fault : LinkFault) → gather_fault inputs ≡ None → IsRefusal (relocs_fault (parsed inputs)) fault → IsRefusal (first_fault inputs) fault
unfolding first_fault
relocs_refusal inputs (Object index fault) none is = λ j. option_or (none j) (option_or (is j) (option_or (entry_fault (parsed inputs)) (option_or (range_fault (parsed inputs)) None)))
relocs_refusal inputs OutOfMemory none is = tt

only_later : (inputs : Inputs) → gather_fault inputs ≡ None → relocs_fault (parsed inputs) ≡ None → first_fault inputs ≡ option_or (entry_fault (parsed inputs)) (option_or (range_fault (parsed inputs)) None)
unfolding first_fault
only_later inputs none fine = λ j. option_or (none j) (option_or (fine j) (option_or (entry_fault (parsed inputs)) (option_or (range_fault (parsed inputs)) None)))

-- without a fault of relocations the first fault is that of the start
pub no_entry : (inputs : Inputs) → gather_fault inputs ≡ None → relocs_fault (parsed inputs) ≡ None → entry_in (parsed inputs) ≡ None → first_fault inputs ≡ Some (0, NoEntry)
unfolding entry_fault
no_entry inputs none fine missing = only_later inputs none fine ∙ ap (λ e. option_or (cond (is_none e) (Some (0, NoEntry)) None) (option_or (range_fault (parsed inputs)) None)) missing

only_range : (inputs : Inputs) (p : Place) → gather_fault inputs ≡ None → relocs_fault (parsed inputs) ≡ None → entry_in (parsed inputs) ≡ Some p → first_fault inputs ≡ option_or (range_fault (parsed inputs)) None
unfolding entry_fault
only_range inputs p none fine found = only_later inputs none fine ∙ ap (λ e. option_or (cond (is_none e) (Some (0, NoEntry)) None) (option_or (range_fault (parsed inputs)) None)) found

-- with a start the first fault is that of a branch that is out of range
pub out_of_range : (inputs : Inputs) (p q : Place) → gather_fault inputs ≡ None → relocs_fault (parsed inputs) ≡ None → entry_in (parsed inputs) ≡ Some p
    → find (is_out_of_reach (parsed inputs)) (all_places (parsed inputs).objects) ≡ Some q → first_fault inputs ≡ Some (q.object, Range q.section q.offset)
unfolding range_fault
out_of_range inputs p q none fine found far =
    only_range inputs p none fine found ∙ ap (λ o. option_or (option_map {U = ℕ × Fault} (λ (r : Place). (r.object, Range r.section r.offset)) o) None) far

-- without a fault of the relocations, the start and the branches there is none
pub no_fault : (inputs : Inputs) (p : Place) → gather_fault inputs ≡ None → relocs_fault (parsed inputs) ≡ None → entry_in (parsed inputs) ≡ Some p
    → find (is_out_of_reach (parsed inputs)) (all_places (parsed inputs).objects) ≡ None → first_fault inputs ≡ None
unfolding range_fault
no_fault inputs p none fine found near =
    only_range inputs p none fine found ∙ ap (λ o. option_or (option_map {U = ℕ × Fault} (λ (r : Place). (r.object, Range r.section r.offset)) o) None) near

-- where the program starts
pub entry_is : (inputs : ParsedInputs) (p : Place) → entry_in inputs ≡ Some p → p ≡ entry_of inputs
entry_is inputs p found = sym (ap (λ e. unwrap_or e (record { object = 0; section = 0; offset = 0 })) found)

-- ---- inputs without a fault

-- if the first of two is none, neither is there
neither : {A : Type 0} (first rest : Option A) → option_or first rest ≡ None → (first ≡ None) × (rest ≡ None)
neither None rest none = (refl, none)
neither (Some x) rest none = absurd cc

-- none between objects, of relocations, or of branches, and `_start` is where an item starts
pub record IsFaultless (inputs : Inputs) : Type 0 where
  pub gathered : gather_fault inputs ≡ None
  pub relocs : relocs_fault (parsed inputs) ≡ None
  pub entry : Place
  pub entry_found : entry_in (parsed inputs) ≡ Some entry
  pub near : find (is_out_of_reach (parsed inputs)) (all_places (parsed inputs).objects) ≡ None

pub faultless : (inputs : Inputs) → first_fault inputs ≡ None → IsFaultless inputs
unfolding first_fault entry_fault range_fault
faultless inputs none =
    let all = neither (gather_fault inputs) _ none in
    let two = neither (relocs_fault (parsed inputs)) _ all.1 in
    by (entry_in (parsed inputs)) refl two.1 all.0 two.0
  where
    mapped : (o : Option Place) → option_map {U = ℕ × Fault} (λ (r : Place). (r.object, Range r.section r.offset)) o ≡ None → o ≡ None
    mapped None h = refl
    mapped (Some q) h = absurd cc

    by : (e : Option Place) → entry_in (parsed inputs) ≡ e → option_or {T = ℕ × Fault} (cond (is_none e) (Some (0, NoEntry)) None) (option_or (range_fault (parsed inputs)) None) ≡ None → gather_fault inputs ≡ None → relocs_fault (parsed inputs) ≡ None → IsFaultless inputs
    by None is missing gathered fine = absurd cc
    by (Some p) is rest gathered fine =
        let range = neither (range_fault (parsed inputs)) None rest in
        record { gathered = gathered; relocs = fine; entry = p; entry_found = is; near = mapped (find (is_out_of_reach (parsed inputs)) (all_places (parsed inputs).objects)) range.0 }

-- ---- relocations

-- if none of all sections has a fault, this one doesn't
pub section_fine : (inputs : ParsedInputs) → relocs_fault inputs ≡ None → (o i : ℕ) (s : SectionParts) → section_at inputs.objects o i ≡ Some s → section_fault inputs (listed o i s) ≡ None
unfolding relocs_fault
section_fine inputs fine o i s at =
    let cut = cut_at inputs.objects o i s at in
    none_within (section_fault inputs) (sections_before inputs.objects o i) (listed o i s) cut.rest (ap (λ l. first_some (map (section_fault inputs) l)) (sym cut.all_are) ∙ fine)
