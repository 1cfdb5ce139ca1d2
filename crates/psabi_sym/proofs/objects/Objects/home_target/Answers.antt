use Rattle.std.proofs.Common.{◌≡◌, ◌+◌, ◌%◌, ◌<◌, length, ap, sym, pos, ◌+ℤ◌, w32, ◌∙◌, arith}
use Rattle.std.proofs.lemmas.Int.{to_z-of_z}
use Rattle.std.proofs.lemmas.List.{get_or_read}
use Rattle.psabi_sym.specs.declared.section_row.SectionRole.{SectionRole}
use Rattle.psabi_sym.specs.Data.{address_in, role_of}
use Rattle.psabi_sym.specs.Inputs.{Inputs, inputs_in, parsed}
use Rattle.psabi_sym.specs.Resolve.{code_target, number_target, role_target}
use Rattle.psabi_sym.proofs.AccessLaws.{address_inside, address_is, home_section, home_target_of, home_value_target, no_section_there, number_wrapped, row_inside, row_is, section_there}
use Rattle.psabi_sym.proofs.FoundLaws.{IsFoundSection}
use Rattle.psabi_sym.proofs.objects.Objects.home_target.Goals as goal
use Rattle.psabi_sym.proofs.objects.Objects.home_target.Goals.{In-Some}

abbrev here : In-Some → Inputs
here c = inputs_in c.self.inside.options c.self.inside.objects.items

-- the section of the symbol
found : (c : In-Some) → IsFoundSection (parsed (here c)).objects c.args.row.now.object c.args.row.now.home c.in-Some.k
found c = section_there c.self.invariant c.deref.result.now c.args.row.now.object c.args.row.now.home c.from.result c.in-Some.k c.place.result c.deref.ensures.value c.from.ensures c.place.ensures c.in-Some.is

row_there : (c : In-Some) → c.in-Some.k < length c.self.inside.sections.rows.items
row_there c = row_inside c.self.invariant (found c)

-- where the symbol leads, by its section's role
by_role : (c : In-Some) (role : SectionRole) → role_of (found c).section ≡ role
    → home_value_target (parsed (here c)) c.args.row.now.object c.args.row.now.home c.args.row.now.value c.args.addend
    ≡ role_target (parsed (here c)) c.args.row.now.object c.args.row.now.home c.args.row.now.value c.args.addend (found c).section role
by_role c role is =
    let p = parsed (here c) in
    let r = c.args.row.now in
    home_section p r.object r.home r.value c.args.addend _ c.if-row.false (found c).found ∙ ap (role_target p r.object r.home r.value c.args.addend (found c).section) is

pub returns-in_default : goal.returns-in_default
returns-in_default c =
    let r = c.args.row.now in
    let none = no_section_there c.self.invariant c.deref.result.now r.object r.home c.from.result c.place.result c.deref.ensures.value c.from.ensures c.place.ensures c.in_default.is in
    home_target_of r.object r.home r.value c.args.addend c.self.view_is (sym (home_section _ r.object r.home r.value c.args.addend _ c.if-row.false none))

pub index-requires : goal.index-requires
index-requires c = omega (arith, row_there (goal.at.index-requires c).In-Some, c.self.inside.sections.rows.ok.0)

pub index-requires-in-Code : goal.index-requires-in-Code
index-requires-in-Code c = omega (arith, row_there (goal.at.index-requires-in-Code c).In-Some, c.self.inside.sections.rows.ok.0)

pub index-requires-in-InClass : goal.index-requires-in-InClass
index-requires-in-InClass c =
    omega (arith, address_inside c.self.invariant (found (goal.at.index-requires-in-InClass c).In-Some), c.self.inside.definitions.addresses.ok.0)

pub returns-in-Code : goal.returns-in-Code
returns-in-Code c =
    let r = c.args.row.now in
    let a = (goal.at.returns-in-Code c).In-Some in
    let row = c.index.ensures ∙ row_is c.self.invariant (found a) c.index.result.now in
    let size = ap (λ s. s.size) (sym (c.index-in-Code.ensures ∙ row_is c.self.invariant (found a) c.index-in-Code.result.now)) in
    home_target_of r.object r.home r.value c.args.addend c.self.view_is
    (c.code_target.ensures (found a).section size ∙ ap (λ n. code_target r.object r.home (found a).section (pos r.value +ℤ n)) (to_z-of_z w32 c.args.addend c.ranges.addend)
    ∙ sym (by_role a _ (ap (λ s. s.role) (sym row) ∙ c.in-Code.is)))

pub returns-in-InClass : goal.returns-in-InClass
returns-in-InClass c =
    let r = c.args.row.now in
    let a = (goal.at.returns-in-InClass c).In-Some in
    let row = c.index.ensures ∙ row_is c.self.invariant (found a) c.index.result.now in
    let role = ap (λ s. s.role) (sym row) ∙ c.in-InClass.is in
    let class = c.in-InClass.field-0 in
    let address = get_or_read c.self.inside.definitions.addresses.items c.in-Some.k c.index-in-InClass.result.now (address_inside c.self.invariant (found a)) c.index-in-InClass.ensures 0
    ∙ address_is c.self.invariant (found a) class role in
    home_target_of r.object r.home r.value c.args.addend c.self.view_is
    (c.number_target-in-InClass.ensures ∙ (λ j. number_target ((address j + r.value) % 4294967296) (to_z-of_z w32 c.args.addend c.ranges.addend j))
    ∙ number_wrapped (address_in (parsed (here a)) r.object r.home (found a).section class + r.value) c.args.addend
    ∙ sym (by_role a _ role))

pub returns-in-Dropped : goal.returns-in-Dropped
returns-in-Dropped c =
    let r = c.args.row.now in
    let a = (goal.at.returns-in-Dropped c).In-Some in
    let row = c.index.ensures ∙ row_is c.self.invariant (found a) c.index.result.now in
    home_target_of r.object r.home r.value c.args.addend c.self.view_is (sym (by_role a _ (ap (λ s. s.role) (sym row) ∙ c.in-Dropped.is)))
