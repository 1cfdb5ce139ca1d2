use Rattle.std.proofs.Common.{◌≡◌, ℕ, ◌<◌, length, ap, sym, subst, ◌∙◌, arith, Some, IsSome, Option, refl}
use Rattle.std.specs.Option.{option_and_then}
use Rattle.std.proofs.lemmas.List.{get_or_read}
use Rattle.elf32_read.specs.Parts.{SectionParts}
use Rattle.psabi_sym.specs.Data.{data_address, role_address, role_of}
use Rattle.psabi_sym.specs.Inputs.{Inputs, inputs_in, parsed}
use Rattle.psabi_sym.specs.Indexed.{section_at}
use Rattle.psabi_sym.proofs.AccessLaws.{address_inside, data_address_is, no_section_there, section_there, some_none}
use Rattle.psabi_sym.proofs.FoundLaws.{IsFoundSection}
use Rattle.psabi_sym.proofs.objects.Objects.data_address.Goals as goal
use Rattle.psabi_sym.proofs.objects.Objects.data_address.Goals.{In-Some}

-- by the section that stands there
by_section : {here there : Inputs} (o i : ℕ) (section : Option SectionParts) → here ≡ there → section_at (parsed here).objects o i ≡ section
    → data_address (parsed there) o i ≡ option_and_then (λ s. role_address (parsed here) o i s (role_of s)) section
unfolding data_address
by_section {here} o i section same is =
    ap (λ v. data_address (parsed v) o i) (sym same) ∙ ap (option_and_then (λ (s : SectionParts). role_address (parsed here) o i s (role_of s))) is

abbrev here : In-Some → Inputs
here c = inputs_in c.self.inside.options c.self.inside.objects.items

found : (c : In-Some) → IsFoundSection (parsed (here c)).objects c.args.object c.args.section c.in-Some.k
found c = section_there c.self.invariant c.deref.result.now c.args.object c.args.section c.from.result c.in-Some.k c.place.result c.deref.ensures.value c.from.ensures c.place.ensures c.in-Some.is

address_there : (c : In-Some) → c.in-Some.k < length c.self.inside.definitions.addresses.items
address_there c = address_inside c.self.invariant (found c)

pub index-requires : goal.index-requires
index-requires c = omega (arith, address_there (goal.at.index-requires c).In-Some, c.self.inside.definitions.addresses.ok.0)

pub returns-in-None : goal.returns-in-None
returns-in-None c =
    let none = no_section_there c.self.invariant c.deref.result.now c.args.object c.args.section c.from.result c.place.result c.deref.ensures.value c.from.ensures c.place.ensures c.in-None.is in
    absurd (some_none (subst IsSome (by_section c.args.object c.args.section _ c.self.view_is none) c.requires))

pub returns-in-Some : goal.returns-in-Some
returns-in-Some c =
    let a = (goal.at.returns-in-Some c).In-Some in
    let same = by_section c.args.object c.args.section _ c.self.view_is (found a).found in
    same ∙ data_address_is c.self.invariant (found a) (role_of (found a).section) refl (subst IsSome same c.requires)
    ∙ ap Some (sym (get_or_read c.self.inside.definitions.addresses.items c.in-Some.k c.index.result.now (address_there a) c.index.ensures 0))
