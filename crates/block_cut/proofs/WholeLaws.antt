-- Code of objects without a fault is in the file whole, and its size is a multiple of its step.
use Rattle.std.proofs.Common.{◌≡◌, ◌≢◌, ℕ, ◌%◌, ◌<◌, List, length, max, true, Option, Some, None, slice_get, refl, sym, ap, ◌∙◌, arith, cond, eqb, Bool, false, inl, inr}
use Rattle.std.specs.Int.{is_power_of_two}
use Rattle.std.specs.List.{list_any, range_with_len}
use Rattle.std.specs.Prelude.{◌&&◌, not}
use Rattle.std.specs.Option.{option_and_then, option_map}
use Rattle.std.proofs.lemmas.Bool.{cases_eq, cases_lt, eqb-true, ltb-false, not-false}
use Rattle.std.proofs.lemmas.Option.{slice_get-map, slice_get_past}
use Rattle.zc_base.specs.declared.place.Place.{Place}
use Rattle.elf32_read.specs.Header.{header_of, section_count}
use Rattle.elf32_read.specs.Kept.{has_flags, is_kept_code}
use Rattle.elf32_read.specs.Object.{object_fault}
use Rattle.elf32_read.specs.Parts.{ObjectParts, SectionParts, is_code_section, object_parts, section_parts}
use Rattle.elf32_read.proofs.Listed.{none_in_range}
use Rattle.elf32_read.proofs.Faultless.{IsAlignment, content_short, content_whole, faultless_whole, is_kept_section-parts, kept_code, no_fault}
use Rattle.psabi_sym.specs.Faults.{gather_fault}
use Rattle.psabi_sym.specs.Inputs.{Inputs, parsed}
use Rattle.psabi_sym.specs.Indexed.{section_at}
use Rattle.psabi_sym.proofs.Gathered.{readable}
use Rattle.psabi_sym.proofs.PartLaws.{section_count_is, section_got}
use Rattle.block_cut.specs.Items.{code_at}
use Rattle.block_cut.specs.CodeSizes.{code_step}
pub use Rattle.block_cut.specs.Whole.{IsWhole}

-- an alignment that isn't one of words
abbrev is_askew : ℕ → Bool
is_askew n = is_power_of_two n && not (eqb (max 4 n % 4) 0)

-- powers of two are, computed
none_askew : list_any is_askew (range_with_len 0 257) ≡ false
unfolding lib.Count.ones
none_askew = refl

-- each alignment of code is a multiple of 4
word_aligned : (n : ℕ) → IsAlignment 256 n → max 4 n % 4 ≡ 0
word_aligned n is = elim (cases_eq n 0) [
  | inl e ↦ ap (λ m. max 4 m % 4) e
  | inr ne ↦
      let low : n < 257 = omega (arith, is.low) in
      let straight : (is_power_of_two n && not (eqb (max 4 n % 4) 0)) ≡ false = none_in_range is_askew 257 n none_askew low in
      let same : not (eqb (max 4 n % 4) 0) ≡ false = ap (λ b. b && not (eqb (max 4 n % 4) 0)) (sym (is.power ne)) ∙ straight in
      eqb-true (max 4 n % 4) 0 (not-false (eqb (max 4 n % 4) 0) same)
]

-- the sections of code of an object are whole
pub file_whole : (file : List ℕ) (i : ℕ) → object_fault file ≡ None → i < section_count file → is_code_section (section_parts file i) ≡ true → IsWhole (section_parts file i)
file_whole file i read lt code =
    let h = header_of file i in
    let kept : is_kept_code file h ≡ true = ap (λ b. b && has_flags 4 h.flags) (sym (is_kept_section-parts file read i lt)) ∙ code in
    let is = kept_code file read i lt kept in
    let not_null : h.kind ≢ 0 = λ e. omega (arith, e, is.kind) in
    let not_nobits : h.kind ≢ 8 = λ e. omega (arith, e, is.kind) in
    let bytes = content_whole file h ((faultless_whole file read).contents i lt) not_null not_nobits in
    record {
      bytes = bytes;
      words = ap (λ n. n % code_step (section_parts file i).compressed) bytes ∙ is.words;
      short = omega (arith, content_short file h, ltb-false 0x40_0000 (length file) (no_fault file read).short);
      low = is.aligned.low;
      aligned = word_aligned h.align is.aligned;
    }

-- a section of a file is one of the inputs
pub section_there : (inputs : Inputs) (o i : ℕ) (file : List ℕ) → slice_get inputs.files o ≡ Some file → i < section_count file → section_at (parsed inputs).objects o i ≡ Some (section_parts file i)
section_there inputs o i file at within =
    ap (option_and_then (λ (object : ObjectParts). slice_get object.sections i)) (slice_get-map object_parts inputs.files o ∙ ap (option_map object_parts) at)
    ∙ section_got file i within

-- a section of the inputs is the one with its index in a file
pub record IsSectionOf (inputs : Inputs) (o i : ℕ) (s : SectionParts) : Type 0 where
  pub file : List ℕ
  pub at : slice_get inputs.files o ≡ Some file
  pub within : i < section_count file
  pub is : s ≡ section_parts file i

pub section_of : (inputs : Inputs) (o i : ℕ) (s : SectionParts) → section_at (parsed inputs).objects o i ≡ Some s → IsSectionOf inputs o i s
section_of inputs o i s is =
    by (slice_get inputs.files o) refl
    (sym (ap (option_and_then (λ (object : ObjectParts). slice_get object.sections i)) (slice_get-map object_parts inputs.files o)) ∙ is)
  where
    by : (found : Option (List ℕ)) → slice_get inputs.files o ≡ found → option_and_then (λ (object : ObjectParts). slice_get object.sections i) (option_map object_parts found) ≡ Some s → IsSectionOf inputs o i s
    by None at is = absurd cc
    by (Some file) at is = elim (cases_lt i (section_count file)) [
      | inl lt ↦
          let same : section_parts file i ≡ s = cc (section_got file i lt, is) in
          record { file = file; at = at; within = lt; is = sym same }
      | inr le ↦ absurd (cc (is, slice_get_past (object_parts file).sections i (omega (arith, le, section_count_is file))))
    ]

-- the sections of code of inputs are whole
pub inputs_whole : (inputs : Inputs) (o i : ℕ) (s : SectionParts) → gather_fault inputs ≡ None → section_at (parsed inputs).objects o i ≡ Some s → is_code_section s ≡ true → IsWhole s
inputs_whole inputs o i s none is code =
    let of = section_of inputs o i s is in
    rw of.is (file_whole of.file i (readable inputs o of.file none of.at) of.within (ap is_code_section (sym of.is) ∙ code))

-- at a place in a section that is code stands that section, and in any other none
pub code_at_is : (objects : List ObjectParts) (q : Place) (s : SectionParts) → section_at objects q.object q.section ≡ Some s → is_code_section s ≡ true → code_at objects q ≡ Some s
code_at_is objects q s found code = ap (option_and_then (λ t. cond (is_code_section t) (Some t) None)) found ∙ ap (λ b. cond b (Some s) None) code

pub code_at_none : (objects : List ObjectParts) (q : Place) (s : SectionParts) → section_at objects q.object q.section ≡ Some s → is_code_section s ≡ false → code_at objects q ≡ None
code_at_none objects q s found other = ap (option_and_then (λ t. cond (is_code_section t) (Some t) None)) found ∙ ap (λ b. cond b (Some s) None) other

-- code is a section that is code
pub code_is_section : (objects : List ObjectParts) (q : Place) (s : SectionParts) → code_at objects q ≡ Some s → (section_at objects q.object q.section ≡ Some s) × (is_code_section s ≡ true)
code_is_section objects q s at = by (section_at objects q.object q.section) refl at
  where
    by : (o : Option SectionParts) → section_at objects q.object q.section ≡ o → option_and_then (λ t. cond (is_code_section t) (Some t) None) o ≡ Some s → (section_at objects q.object q.section ≡ Some s) × (is_code_section s ≡ true)
    by None is at = absurd cc
    by (Some t) is at = tested (is_code_section t) refl at
      where
        tested : (b : Bool) → is_code_section t ≡ b → cond b (Some t) None ≡ Some s → (section_at objects q.object q.section ≡ Some s) × (is_code_section s ≡ true)
        tested true code at = let same : t ≡ s = cc in (is ∙ ap Some same, ap is_code_section (sym same) ∙ code)
        tested false code at = absurd cc

-- the code at a place is whole
pub code_whole : (inputs : Inputs) (q : Place) (s : SectionParts) → gather_fault inputs ≡ None → code_at (parsed inputs).objects q ≡ Some s → IsWhole s
code_whole inputs q s none at =
    let is = code_is_section (parsed inputs).objects q s at in
    inputs_whole inputs q.object q.section s none is.0 is.1
