-- Names of symbols in objects that may be unreadable, and the lines of refusals that end with one.
use Rattle.std.proofs.Common.{◌≡◌, ℕ, ◌<◌, ◌≤◌, List, [], ◌∷◌, ◌++◌, cond, Option, Some, None, sym, ap, ◌∙◌, arith, append_assoc, slice_get}
use Rattle.std.specs.Prelude.{is_none}
use Rattle.std.specs.Option.{option_map}
use Rattle.std.proofs.lemmas.Option.{slice_get_past}
use Rattle.elf32_read.specs.declared.fault.Fault.{Fault}
use Rattle.elf32_read.specs.Object.{object_fault}
use Rattle.elf32_read.specs.Parts.{SymbolParts, object_parts, symbol_parts}
use Rattle.elf32_read.specs.Symbols.{symbol_count, symbol_entry_of}
use Rattle.elf32_read.proofs.PartsLaws.{length-symbols, symbol_at}
use Rattle.zcld.specs.ErrLine.{after_space, err_line, fault_symbol_name, name_in, refusal_text}
use Rattle.zcld.specs.declared.outcome.Outcome.TheVariants.{Refused}

module _ (file : List ℕ) (symbol : ℕ) where
  abbrev found : Option SymbolParts
  found = slice_get (object_parts file).symbols symbol

  -- a file that can be read has the names of its symbols
  readable : object_fault file ≡ None → option_map (λ s. s.name) found ≡ name_in symbol file
  readable none = sym (ap (λ o. cond (is_none o) (option_map (λ s. s.name) found) None) none)

  pub name_found : object_fault file ≡ None → symbol < symbol_count file → (name : List ℕ) → name ≡ (symbol_parts file (symbol_entry_of file symbol)).name
      → Some name ≡ name_in symbol file
  name_found none lt name is = ap Some is ∙ sym (ap (option_map (λ s. s.name)) (symbol_at file symbol lt)) ∙ readable none

  -- an index that the symbol table doesn't have has no name
  pub name_past : object_fault file ≡ None → symbol_count file ≤ symbol → None ≡ name_in symbol file
  name_past none le =
      sym (ap (option_map (λ s. s.name)) (slice_get_past (object_parts file).symbols symbol (omega (arith, le, length-symbols file)))) ∙ readable none

  -- a file that can't be read has none
  pub name_unread : (fault : Fault) → object_fault file ≡ Some fault → None ≡ name_in symbol file
  name_unread fault some = sym (ap (λ o. cond (is_none o) (option_map (λ s. s.name) found) None) some)

-- the text of a refusal, a space, the name and a line feed are its line
pub named_line : (files : List (List ℕ)) (i : ℕ) (fault : Fault) (head name : List ℕ) → head ≡ refusal_text i fault ++ 32 ∷ []
    → Some name ≡ fault_symbol_name files i fault → head ++ (name ++ 10 ∷ []) ≡ err_line files (Refused i fault)
named_line files i fault head name is named =
    let text = refusal_text i fault in
    ap (λ h. h ++ (name ++ 10 ∷ [])) is
    ∙ append_assoc text (32 ∷ []) (name ++ 10 ∷ [])
    ∙ sym (append_assoc text (32 ∷ name) (10 ∷ []))
    ∙ ap (λ o. text ++ after_space o ++ 10 ∷ []) named
