-- Sharing tails is a pass: it keeps of sections and symbols what a pass has to.
use Rattle.std.proofs.Common.{◌≡◌, ℕ, List, refl, sym, ◌∙◌, arith, length, Bool, true, false, cond, eqb, Option, Some, None, slice_get, inl, inr}
use Rattle.std.specs.Prelude.{◌<◌, not}
use Rattle.std.specs.Option.{option_map_or}
use Rattle.std.proofs.lemmas.Option.{slice_get_within}
use Rattle.elf32_read.specs.Parts.{ObjectParts, SectionParts, SymbolParts, is_code_section, is_kept_section}
use Rattle.psabi_sym.specs.Inputs.{ParsedInputs}
use Rattle.moved_runs.specs.Passes.{IsOrderly, KeepsSection, KeepsSymbol, Pass, new_number, renumbered}
use Rattle.moved_runs.proofs.PassNumbers.{not-eqb, number-low}
use Rattle.tail_merge.specs.Merged.{indexed, merged_bytes, merged_relocs, merged_section, merged_symbol, removed_at, symbol_in, symbol_in_code}
use Rattle.tail_merge.specs.Tails.{Removed}

-- ---- sections

pub merged-keeps : (inputs : ParsedInputs) (o i : ℕ) (s : SectionParts) → KeepsSection s (merged_section inputs o i s)
merged-keeps inputs o i s = by (is_code_section s) refl
  where
    by : (c : Bool) → is_code_section s ≡ c
        → KeepsSection s (cond c (record s { relocs = merged_relocs inputs (indexed o i s); size = length (merged_bytes inputs (indexed o i s)); bytes = merged_bytes inputs (indexed o i s) }) (record s { relocs = merged_relocs inputs (indexed o i s) }))
    by true is = record {
      name = refl;
      kind = refl;
      flags = refl;
      align = λ plain. refl;
      size = λ plain. absurd (let code = is in cc);
      bytes = λ plain. absurd (let code = is in cc);
    }
    by false is = record { name = refl; kind = refl; flags = refl; align = λ plain. refl; size = λ plain. refl; bytes = λ plain. refl }

-- ---- symbols

-- a symbol in a section
in-section-keeps : (removed : List Removed) (object : ObjectParts) (s : SymbolParts) (home : SectionParts) → IsOrderly object → slice_get object.sections s.home ≡ Some home → eqb s.home 0 ≡ false
    → KeepsSymbol s (symbol_in removed (new_number object.sections s.home) s home)
in-section-keeps removed object s home orderly at other = by (is_kept_section home) (is_code_section home)
  where
    low : s.home < 0xFFF1
    low = omega (arith, slice_get_within object.sections s.home home at, orderly.few)

    uncommon : eqb s.home 0xFFF2 ≡ false
    uncommon = not-eqb s.home 0xFFF2 (inl (omega (arith, low)))

    common-number : eqb (new_number object.sections s.home) 0xFFF2 ≡ false
    common-number = not-eqb (new_number object.sections s.home) 0xFFF2 (inl (omega (arith, number-low object s.home orderly)))

    some-number : eqb (new_number object.sections s.home) 0 ≡ false
    some-number = not-eqb (new_number object.sections s.home) 0 (inr (omega arith))

    by : (kept code : Bool) → KeepsSymbol s (cond (not kept) (record s { value = 0; home = 0xFFF1 }) (record (cond code (symbol_in_code removed home s) s) { home = new_number object.sections s.home }))
    by false code = record { name = refl; bind = refl; common = sym uncommon; undefined = sym other; whole = λ h. let u = uncommon in absurd cc }
    by true true = record { name = refl; bind = refl; common = common-number ∙ sym uncommon; undefined = some-number ∙ sym other; whole = λ h. let u = uncommon in absurd cc }
    by true false = record { name = refl; bind = refl; common = common-number ∙ sym uncommon; undefined = some-number ∙ sym other; whole = λ h. let u = uncommon in absurd cc }

stays-same : (s : SymbolParts) → KeepsSymbol s s
stays-same s = record { name = refl; bind = refl; common = refl; undefined = refl; whole = λ h. refl }

pub merged-symbol-keeps : (inputs : ParsedInputs) (o : ℕ) (object : ObjectParts) (s : SymbolParts) → IsOrderly object → KeepsSymbol s (merged_symbol inputs o object s)
merged-symbol-keeps inputs o object s orderly = by (eqb s.home 0) refl
  where
    in-section : eqb s.home 0 ≡ false → (found : Option SectionParts) → slice_get object.sections s.home ≡ found
        → KeepsSymbol s (option_map_or (symbol_in (removed_at inputs o s.home) (new_number object.sections s.home) s) found s)
    in-section other None at = stays-same s
    in-section other (Some home) at = in-section-keeps (removed_at inputs o s.home) object s home orderly at other

    by : (b : Bool) → eqb s.home 0 ≡ b → KeepsSymbol s (option_map_or (symbol_in (removed_at inputs o s.home) (new_number object.sections s.home) s) (cond b None (slice_get object.sections s.home)) s)
    by true is = stays-same s
    by false is = in-section is (slice_get object.sections s.home) refl

-- ---- the pass

abbrev pub merging : ParsedInputs → Pass
merging inputs = record {
  section = λ o i s. merged_section inputs o i s;
  symbol = λ o object s. merged_symbol inputs o object s;
  number = renumbered inputs.objects;
  keeps_sections = λ o i s. merged-keeps inputs o i s;
  keeps_symbols = λ o object s orderly. merged-symbol-keeps inputs o object s orderly;
}
