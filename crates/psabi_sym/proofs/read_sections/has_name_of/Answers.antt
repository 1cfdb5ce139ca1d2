use Rattle.std.proofs.Common.{◌≡◌, ◌<◌, ℕ, Bool, List, length, get_or, sym, ap, ◌∙◌, arith}
use Rattle.std.specs.Prelude.{◌||◌}
use Rattle.std.specs.List.{list_any}
use Rattle.std.proofs.lemmas.List.{get_or-map, length-map, take_all}
use Rattle.std.proofs.lemmas.List.Folds.{list_any_at, list_any_more}
use Rattle.psabi_sym.specs.Data.{is_of_kin}
use Rattle.psabi_sym.specs.Objects.{contents_of}
use Rattle.psabi_sym.proofs.read_sections.has_name_of.Goals as goal

pub returns-then-is_of_kin : goal.returns-then-is_of_kin
returns-then-is_of_kin c = λ parts is.
    let names = c.args.names.now in
    let i = c.loop-name.name-index in
    let name = c.name-item.result in
    let p : List ℕ → Bool = λ base. is_of_kin base parts.name in
    let within : i < length (contents_of names) = omega (arith, length-map names (λ f. f.items)) in
    let here : get_or (contents_of names) i name.items ≡ name.items = get_or-map (λ f. f.items) names i name name.items (omega arith) ∙ ap (λ f. f.items) (sym c.name-item.is) in
    sym (list_any_at p (contents_of names) i name.items within (ap p here ∙ ap p (sym c.deref.ensures.value) ∙ sym (c.is_of_kin.ensures parts is) ∙ c.if-is_of_kin.true))

pub loop-name-preserved : goal.loop-name-preserved
loop-name-preserved c = λ parts is.
    let names = c.args.names.now in
    let i = c.loop-name.name-index in
    let name = c.name-item.result in
    let p : List ℕ → Bool = λ base. is_of_kin base parts.name in
    let within : i < length (contents_of names) = omega (arith, length-map names (λ f. f.items)) in
    let here : get_or (contents_of names) i name.items ≡ name.items = get_or-map (λ f. f.items) names i name name.items (omega arith) ∙ ap (λ f. f.items) (sym c.name-item.is) in
    list_any_more p (contents_of names) i name.items within
    ∙ (λ j. c.loop-name.invariant parts is j || (ap p here ∙ ap p (sym c.deref.ensures.value) ∙ sym (c.is_of_kin.ensures parts is) ∙ c.if-is_of_kin.false) j)

pub returns : goal.returns
returns c = λ parts is.
    let names = c.args.names.now in
    let p : List ℕ → Bool = λ base. is_of_kin base parts.name in
    sym (ap (list_any p) (sym (take_all c.loop-name.name-index (contents_of names) (omega (arith, length-map names (λ f. f.items))))) ∙ c.loop-name.invariant parts is)
