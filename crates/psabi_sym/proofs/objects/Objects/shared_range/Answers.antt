use Rattle.std.proofs.Common.{rules, sym, ◌∙◌, IsSome, subst, ⊎_elim}
use Rattle.psabi_sym.specs.Inputs.{parsed}
use Rattle.psabi_sym.proofs.ContentLaws.{address_of_data, address_read, none_of_code, none_of_dropped}
use Rattle.psabi_sym.proofs.SectionNumbers.{listed_at}
use Rattle.psabi_sym.proofs.SharedLaws.{range_none}
use Rattle.psabi_sym.proofs.objects.Objects.shared_range.Goals as goal

pub data_address-at-requires : goal.data_address-at-requires
data_address-at-requires c =
    let inputs = parsed c.args.self.now in
    let l = c.section-section.result in
    let found = listed_at inputs.objects c.args.k l c.section-section.ensures in
    let is = address_of_data inputs l.object l.index l.section found c.in-InClass.field-0 (sym c.role.ensures ∙ c.in-InClass.is) in
    subst IsSome (sym (address_read inputs l c.object.result c.index.result c.object.ensures c.index.ensures ∙ is)) (search rules)

pub returns-in-Code : goal.returns-in-Code
returns-in-Code c =
    let inputs = parsed c.args.self.now in
    let l = c.section-section.result in
    let found = listed_at inputs.objects c.args.k l c.section-section.ensures in
    let none = ⊎_elim (λ code. none_of_code inputs l.object l.index l.section found (sym c.role.ensures ∙ code)) (λ dropped. none_of_dropped inputs l.object l.index l.section found (sym c.role.ensures ∙ dropped)) c.in-Code.is in
    (l, c.section-section.ensures, sym (range_none inputs l none))
