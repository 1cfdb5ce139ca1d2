-- The content of data in a pass's result is that of the given objects, before words are put into it.
use Rattle.std.proofs.Common.{◌≡◌, ℕ, ◌-◌, ◌++◌, List, replicate, refl, sym, ap, ap₂, ◌∙◌, map, Bool, true, false, cond, eqb, None}
use Rattle.std.specs.List.{fold}
use Rattle.std.specs.Option.{option_map_or}
use Rattle.elf32_read.specs.Parts.{SectionParts, is_code_section, is_kept_section}
use Rattle.psabi_sym.specs.Contents.{data_contents, overlaid, with_content}
use Rattle.psabi_sym.specs.Data.{class_of, data_address, data_end, data_file_end, role_of}
use Rattle.psabi_sym.specs.Indexed.{IndexedSection, all_sections}
use Rattle.psabi_sym.specs.Inputs.{ParsedInputs}
use Rattle.psabi_sym.specs.declared.data_class.DataClass.TheVariants.{SmallData, Common}
use Rattle.psabi_sym.specs.declared.section_row.SectionRole.TheVariants.{Code, InClass, Dropped}
use Rattle.psabi_sym.proofs.ContentLaws.{none_of_code, none_of_dropped}
use Rattle.sym_machine.specs.declared.word.SymByte.{SymByte}
use Rattle.sym_machine.specs.declared.word.SymByte.TheVariants.{Num}
use Rattle.moved_runs.specs.Passes.{ArePassed, Pass}
use Rattle.moved_runs.proofs.PassSections.{passed}
use Rattle.moved_runs.proofs.PassData.{class_end-same, data_address-moved, dropped-role}
use Rattle.moved_runs.proofs.PassListed.{IsThere, fold-clean}

-- the bytes of data before words are put into them
abbrev pub unfilled_bytes : ParsedInputs → List SymByte
unfilled_bytes inputs = map Num (data_contents inputs ++ replicate (data_end inputs - data_file_end inputs) 0)

-- ---- what isn't data has no address

pub no-address : (inputs : ParsedInputs) (l : IndexedSection) → IsThere inputs.objects l → is_kept_section l.section ≡ false → data_address inputs l.object l.index ≡ None
no-address inputs l there dropped = none_of_dropped inputs l.object l.index l.section there (dropped-role l.section dropped)

pub code-role : (s : SectionParts) → is_code_section s ≡ true → role_of s ≡ Code
unfolding role_of
code-role s code = ap (λ c. cond c Code (cond (is_kept_section s) (InClass (class_of s)) Dropped)) code

module _ (pass : Pass) (inputs result : ParsedInputs) (passes : ArePassed pass inputs result) where
  none-content : (inputs : ParsedInputs) (l : IndexedSection) (bytes : List ℕ) → data_address inputs l.object l.index ≡ None → with_content inputs bytes l ≡ bytes
  none-content inputs l bytes none = ap (λ a. cond (eqb l.section.kind 8) bytes (option_map_or (λ at. overlaid (at - inputs.map.data_low) l.section.bytes bytes) a bytes)) none ∙ by (eqb l.section.kind 8)
    where
      by : (b : Bool) → cond b bytes bytes ≡ bytes
      by true = refl
      by false = refl

  content-kept : (l : IndexedSection) (bytes : List ℕ) → IsThere inputs.objects l → is_kept_section l.section ≡ true → with_content result bytes (passed pass l) ≡ with_content inputs bytes l
  content-kept l bytes there kept = by (is_code_section l.section) refl
    where
      same : data_address result l.object (pass.number l.object l.index) ≡ data_address inputs l.object l.index
      same = data_address-moved pass inputs result passes l.object l.index l.section there kept

      by : (c : Bool) → is_code_section l.section ≡ c → with_content result bytes (passed pass l) ≡ with_content inputs bytes l
      by true code =
          let none = none_of_code inputs l.object l.index l.section there (code-role l.section code) in
          none-content result (passed pass l) bytes (same ∙ none) ∙ sym (none-content inputs l bytes none)
      by false plain =
          let k = pass.keeps_sections l.object l.index l.section in
          let kind = k.kind in
          let content = k.bytes plain in
          λ i. cond (eqb (kind i) 8) bytes (option_map_or (λ at. overlaid (at - (passes.map i).data_low) (content i) bytes) (same i) bytes)

  pub contents-same : data_contents result ≡ data_contents inputs
  unfolding data_contents
  contents-same =
      ap₂ (λ e m. fold (with_content result) (replicate (e - m) 0) (all_sections result.objects)) (class_end-same pass inputs result passes SmallData) (λ i. (passes.map i).data_low)
      ∙ fold-clean pass inputs.objects result.objects passes.objects (with_content inputs) (with_content result)
      (λ l bytes there dropped. none-content inputs l bytes (no-address inputs l there dropped))
      (λ l bytes there dropped. none-content result l bytes (no-address result l there dropped))
      content-kept (replicate (data_file_end inputs - inputs.map.data_low) 0)

  pub unfilled-same : unfilled_bytes result ≡ unfilled_bytes inputs
  unfilled-same =
      let end = class_end-same pass inputs result passes Common in
      let file_end = class_end-same pass inputs result passes SmallData in
      λ i. map Num (contents-same i ++ replicate (end i - file_end i) 0)
