use Rattle.std.proofs.Common.{◌≡◌, rules, ap, sym, ◌∙◌, arith, IsSome, subst, ⊎_elim}
use Rattle.psabi_sym.specs.Data.{address_in}
use Rattle.psabi_sym.specs.Inputs.{parsed}
use Rattle.psabi_sym.proofs.ContentLaws.{address_in-ge, address_of_data, address_read, content_none, none_of_code, none_of_dropped}
use Rattle.psabi_sym.proofs.objects.Objects.put_section.Goals as goal

pub data_address-requires : goal.data_address-requires
data_address-requires c =
    let l = c.args.section.now in
    let inputs = parsed c.args.self.now in
    let class = c.in-InClass.field-0 in
    let is = address_of_data inputs l.object l.index l.section c.requires class (sym c.role.ensures ∙ c.in-InClass.is) in
    subst IsSome (sym (address_read inputs l c.object.result c.index.result c.object.ensures c.index.ensures ∙ is)) (search rules)

pub overflow_sub-at : goal.overflow_sub-at
overflow_sub-at c =
    let l = c.args.section.now in
    let inputs = parsed c.args.self.now in
    let class = c.in-InClass.field-0 in
    let is = address_of_data inputs l.object l.index l.section c.requires class (sym c.role.ensures ∙ c.in-InClass.is) in
    let address : c.data_address.result ≡ address_in inputs l.object l.index l.section class = cc (is, address_read inputs l c.object.result c.index.result c.object.ensures c.index.ensures, c.data_address.ensures) in
    let map : c.map.result ≡ c.args.self.now.map = c.map.ensures.value in
    omega (arith, address, address_in-ge inputs l.object l.index l.section class, ap (λ m. m.data_low) map)

pub returns-in-Code : goal.returns-in-Code
returns-in-Code c =
    let l = c.args.section.now in
    let inputs = parsed c.args.self.now in
    sym (content_none inputs l.object l.index l.section c.requires c.args.bytes.now
    (⊎_elim (λ code. none_of_code inputs l.object l.index l.section c.requires (sym c.role.ensures ∙ code)) (λ dropped. none_of_dropped inputs l.object l.index l.section c.requires (sym c.role.ensures ∙ dropped)) c.in-Code.is))
