-- The line of an entry that may stand in a text spells it, and no other line does.
use Rattle.std.proofs.Common.{◌≡◌, Some, None, true, List, ℕ, ap, subst, sym, ◌∙◌}
use Rattle.std.specs.List.{join_with_byte}
use Rattle.std.specs.Option.{option_and_then}
use Rattle.std.proofs.lemmas.Bool.{cond-true}
use Rattle.std.proofs.lemmas.List.Splits.{join_with_byte-slice_split}
use Rattle.std.proofs.lemmas.Option.{cond_some, option_and_then_some}
use Rattle.text_lines.specs.Lines.{words_of}
use Rattle.interrupt_plan.specs.SharedPlan.{SharedEntry}
use Rattle.interrupt_plan.specs.Text.{Grammar, IsEntryOf, allows, entry_line, entry_of_words, if_allowed, line_entry}
use Rattle.interrupt_plan.proofs.PlainLaws.{words_back}
use Rattle.interrupt_plan.proofs.SpellLaws.{entry_back, entry_of_is}

-- an entry that may stand in the text is the given one
pub allowed_is : (g : Grammar) (e f : SharedEntry) → if_allowed g e ≡ Some f → (allows g e ≡ true) × (e ≡ f)
allowed_is g e f is = cond_some (allows g e) e f is

module _ (g : Grammar) where
  pub line_entry_is : (line : List ℕ) (e : SharedEntry) → line_entry g line ≡ Some e → (line ≡ entry_line e) × IsEntryOf g e
  line_entry_is line e is =
      option_and_then_some (if_allowed g) (entry_of_words (words_of line)) e is (λ f read may.
      let same = allowed_is g f e may in
      let P : SharedEntry → Type 0 = λ x. (line ≡ entry_line x) × IsEntryOf g x in
      let here = entry_of_is (words_of line) f read in
      subst P same.1 (sym (join_with_byte-slice_split 32 line) ∙ ap (join_with_byte 32) here.0, (same.0, here.1)))

  pub line_entry_back : (e : SharedEntry) → IsEntryOf g e → line_entry g (entry_line e) ≡ Some e
  line_entry_back e is =
      ap (option_and_then (if_allowed g)) (ap entry_of_words (words_back e is.1) ∙ entry_back e is.1)
      ∙ cond-true (allows g e) (Some e) None is.0
