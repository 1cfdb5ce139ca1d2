use Rattle.std.proofs.Common.{◌≡◌, ℕ, Bool, true, false, Option, None, cond, eqb, inl, inr, sym, refl, ◌∙◌, rules}
use Rattle.psabi_sym.specs.Data.{data_address}
use Rattle.psabi_sym.specs.Inputs.{parsed}
use Rattle.psabi_sym.proofs.ContentLaws.{address_of_data, none_of_code, none_of_dropped}
use Rattle.block_cut.proofs.data_words.held_address.Goals as goal

either : (b : Bool) (o : Option ℕ) → o ≡ None → None ≡ cond b None o
either true o none = refl
either false o none = sym none

pub data_address-requires : goal.data_address-requires
data_address-requires c =
    let inputs = parsed c.args.objects.now in
    let l = c.args.section.now in
    let role = sym c.role.ensures ∙ c.in-InClass.is in
    let address = (λ j. data_address inputs (c.object.ensures j) (c.index.ensures j)) ∙ address_of_data inputs l.object l.index l.section c.requires c.in-InClass.field-0 role in
    rw address (search rules)

pub returns-in-Code : goal.returns-in-Code
returns-in-Code c =
    let inputs = parsed c.args.objects.now in
    let l = c.args.section.now in
    let none : data_address inputs l.object l.index ≡ None = elim c.in-Code.is [
      | inl code ↦ none_of_code inputs l.object l.index l.section c.requires (sym c.role.ensures ∙ code)
      | inr dropped ↦ none_of_dropped inputs l.object l.index l.section c.requires (sym c.role.ensures ∙ dropped)
    ] in
    either (eqb l.section.kind 8) (data_address inputs l.object l.index) none
