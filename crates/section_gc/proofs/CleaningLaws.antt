-- Dropping what isn't needed is a pass: it keeps of sections and symbols what a pass has to.
use Rattle.std.proofs.Common.{◌≡◌, ℕ, ◌<◌, inl, inr, List, [], length, map, refl, sym, ap, ◌∙◌, arith, filter, Bool, true, false, cond, eqb, Option, Some, None, slice_get}
use Rattle.std.specs.Prelude.{◌&&◌, not}
use Rattle.std.specs.List.{enumerate_from}
use Rattle.std.specs.Option.{option_map_or}
use Rattle.std.proofs.lemmas.List.{length-map}
use Rattle.std.proofs.lemmas.List.FromFn.{length-enumerate_from}
use Rattle.std.proofs.lemmas.Option.{slice_get_within}
use Rattle.elf32_read.specs.Parts.{ObjectParts, SectionParts, SymbolParts, is_code_section, is_kept_section}
use Rattle.psabi_sym.specs.Data.{role_of}
use Rattle.psabi_sym.specs.Inputs.{Inputs, parsed}
use Rattle.block_cut.specs.Resolved.{asks}
use Rattle.moved_runs.specs.Passes.{IsOrderly, KeepsSection, KeepsSymbol, Pass, new_number, renumbered}
use Rattle.moved_runs.proofs.PassData.{role-same}
use Rattle.moved_runs.proofs.PassNumbers.{not-eqb, number-low}
use Rattle.section_gc.specs.Cleaned.{cleaned_in, cleaned_object, cleaned_section, cleaned_symbol}

-- ---- sections

pub section-keeps : (b : Bool) (s : SectionParts) → KeepsSection s (cleaned_section b s)
section-keeps b s = by (is_code_section s) refl (not b)
  where
    by : (c : Bool) → is_code_section s ≡ c → (d : Bool) → KeepsSection s (cond (c && d) (record s { align = 1; size = 0; bytes = []; relocs = [] }) (record s { relocs = filter asks s.relocs }))
    by true is true = record {
      name = refl;
      kind = refl;
      flags = refl;
      align = λ plain. absurd (let code = is in cc);
      size = λ plain. absurd (let code = is in cc);
      bytes = λ plain. absurd (let code = is in cc);
    }
    by true is false = record { name = refl; kind = refl; flags = refl; align = λ plain. refl; size = λ plain. refl; bytes = λ plain. refl }
    by false is d = record { name = refl; kind = refl; flags = refl; align = λ plain. refl; size = λ plain. refl; bytes = λ plain. refl }

pub role-clean : (b : Bool) (s : SectionParts) → role_of (cleaned_section b s) ≡ role_of s
role-clean b s = role-same s (cleaned_section b s) (section-keeps b s)

pub clean-data : (b : Bool) (s : SectionParts) → is_code_section s ≡ false → cleaned_section b s ≡ record s { relocs = filter asks s.relocs }
clean-data b s plain = ap (λ c. cond (c && not b) (record s { align = 1; size = 0; bytes = []; relocs = [] }) (record s { relocs = filter asks s.relocs })) plain

pub needed-clean : (b : Bool) (s : SectionParts) → b ≡ true → cleaned_section b s ≡ record s { relocs = filter asks s.relocs }
needed-clean b s is = by (is_code_section s) ∙ refl
  where
    by : (c : Bool) → cond (c && not b) (record s { align = 1; size = 0; bytes = []; relocs = [] }) (record s { relocs = filter asks s.relocs }) ≡ record s { relocs = filter asks s.relocs }
    by true = ap (λ b. cond (not b) (record s { align = 1; size = 0; bytes = []; relocs = [] }) (record s { relocs = filter asks s.relocs })) is
    by false = refl

-- compressed code stays compressed
pub marks-stay : (b : Bool) (s : SectionParts) → (cleaned_section b s).compressed ≡ s.compressed
marks-stay b s = by (is_code_section s && not b)
  where
    by : (c : Bool) → (cond c (record s { align = 1; size = 0; bytes = []; relocs = [] }) (record s { relocs = filter asks s.relocs })).compressed ≡ s.compressed
    by true = refl
    by false = refl

-- ---- symbols

-- a symbol in a section
pub kept-in-section : (b : Bool) (object : ObjectParts) (s : SymbolParts) (home : SectionParts) → IsOrderly object → slice_get object.sections s.home ≡ Some home → eqb s.home 0 ≡ false → KeepsSymbol s (cleaned_in b (new_number object.sections s.home) s home)
kept-in-section needed object s home orderly at other = by (is_kept_section home) (is_code_section home && not needed)
  where
    low : s.home < 0xFFF1
    low = omega (arith, slice_get_within object.sections s.home home at, orderly.few)

    uncommon : eqb s.home 0xFFF2 ≡ false
    uncommon = not-eqb s.home 0xFFF2 (inl (omega (arith, low)))

    number : ℕ
    number = new_number object.sections s.home

    common-number : eqb (new_number object.sections s.home) 0xFFF2 ≡ false
    common-number = not-eqb (new_number object.sections s.home) 0xFFF2 (inl (omega (arith, number-low object s.home orderly)))

    some-number : eqb (new_number object.sections s.home) 0 ≡ false
    some-number = not-eqb (new_number object.sections s.home) 0 (inr (omega arith))

    by : (kept empty : Bool) → KeepsSymbol s (cond (not kept) (record s { value = 0; home = 0xFFF1 }) (cond empty (record s { value = 0; size = 0; home = new_number object.sections s.home }) (record s { home = new_number object.sections s.home })))
    by false empty = record { name = refl; bind = refl; common = sym uncommon; undefined = sym other; whole = λ h. let u = uncommon in absurd cc }
    by true true = record { name = refl; bind = refl; common = common-number ∙ sym uncommon; undefined = some-number ∙ sym other; whole = λ h. let u = uncommon in absurd cc }
    by true false = record { name = refl; bind = refl; common = common-number ∙ sym uncommon; undefined = some-number ∙ sym other; whole = λ h. let u = uncommon in absurd cc }

stays-same : (s : SymbolParts) → KeepsSymbol s s
stays-same s = record { name = refl; bind = refl; common = refl; undefined = refl; whole = λ h. refl }

pub symbol-keeps : (needed : ℕ → Bool) (object : ObjectParts) (s : SymbolParts) → IsOrderly object → KeepsSymbol s (cleaned_symbol needed object s)
symbol-keeps needed object s orderly = by (eqb s.home 0) refl
  where
    in-section : eqb s.home 0 ≡ false → (found : Option SectionParts) → slice_get object.sections s.home ≡ found → KeepsSymbol s (option_map_or (cleaned_in (needed s.home) (new_number object.sections s.home) s) found s)
    in-section other None at = stays-same s
    in-section other (Some home) at = kept-in-section (needed s.home) object s home orderly at other

    by : (b : Bool) → eqb s.home 0 ≡ b → KeepsSymbol s (option_map_or (cleaned_in (needed s.home) (new_number object.sections s.home) s) (cond b None (slice_get object.sections s.home)) s)
    by true is = stays-same s
    by false is = in-section is (slice_get object.sections s.home) refl

-- ---- the pass

abbrev pub cleaning : (ℕ → ℕ → Bool) → (ℕ → ℕ → ℕ) → Pass
cleaning needed number = record {
  section = λ o i s. cleaned_section (needed o i) s;
  symbol = λ o object s. cleaned_symbol (needed o) object s;
  number = number;
  keeps_sections = λ o i s. section-keeps (needed o i) s;
  keeps_symbols = λ o object s orderly. symbol-keeps (needed o) object s orderly;
}

-- over given objects, sections get the numbers that they are written under
abbrev pub cleaning_of : Inputs → (ℕ → ℕ → Bool) → Pass
cleaning_of inputs needed = cleaning needed (renumbered (parsed inputs).objects)

-- there are as many results as objects
pub length-cleaned : (needed : ℕ → ℕ → Bool) (n : ℕ) (objects : List ObjectParts) → length (map (λ e. cleaned_object (needed e.0) e.1) (enumerate_from n objects)) ≡ length objects
length-cleaned needed n objects = length-map (enumerate_from n objects) (λ e. cleaned_object (needed e.0) e.1) ∙ length-enumerate_from n objects
