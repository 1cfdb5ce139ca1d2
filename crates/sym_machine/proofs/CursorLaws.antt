-- The places of a section are what stands there.
use Rattle.std.proofs.Common.{◌≡◌, ℕ, ◌<◌, List, [], length, map, slice_get, Bool, true, false, cond, Option, Some, None, refl, sym, ap, ◌∙◌, subst}
use Rattle.std.specs.List.{HoldsAt}
use Rattle.std.specs.Option.{option_map}
use Rattle.std.proofs.lemmas.Option.{slice_get-map, slice_get_read}
use Rattle.elf32_read.specs.Parts.{is_code_section}
use Rattle.psabi_sym.specs.Inputs.{ParsedInputs}
use Rattle.psabi_sym.specs.Indexed.{IndexedSection}
use Rattle.block_cut.specs.Items.{place_of, targets_in}
use Rattle.block_cut.specs.Places.{code_place, code_places, place_there}
use Rattle.block_cut.specs.declared.code_place.CodePlace.{CodePlace}

pub place_in : (inputs : ParsedInputs) (l : IndexedSection) (places : List CodePlace) (k : ℕ) (x : CodePlace) → places ≡ code_places inputs l → slice_get places k ≡ Some x
    → x ≡ place_there inputs (record { object = l.object; section = l.index; offset = x.offset })
place_in inputs l places k x are at = by (is_code_section l.section) refl
  where
    one : (n : Option ℕ) → option_map (code_place inputs l) n ≡ Some x → x ≡ place_there inputs (place_of l x.offset)
    one None is = absurd cc
    one (Some n) is =
        let own : code_place inputs l n ≡ x = cc in
        subst (λ (y : CodePlace). y ≡ place_there inputs (place_of l y.offset)) own refl

    by : (b : Bool) → is_code_section l.section ≡ b → x ≡ place_there inputs (place_of l x.offset)
    by true code =
        one (slice_get (targets_in l.section) k)
        (sym (ap (λ ps. slice_get ps k) are ∙ ap (λ b. slice_get (cond b (map (code_place inputs l) (targets_in l.section)) []) k) code
        ∙ slice_get-map (code_place inputs l) (targets_in l.section) k) ∙ at)
    by false other =
        let none : None ≡ Some x = sym (ap (λ ps. slice_get ps k) are ∙ ap (λ b. slice_get (cond b (map (code_place inputs l) (targets_in l.section)) []) k) other) ∙ at in
        absurd (cc none)

-- what a look-up found
pub got : (places : List CodePlace) (i : ℕ) (x : CodePlace) → (i < length places) × HoldsAt (λ y. x ≡ y) places i → slice_get places i ≡ Some x
got places i x is = slice_get_read places (length places) i x refl is.0 (is.1 x)
