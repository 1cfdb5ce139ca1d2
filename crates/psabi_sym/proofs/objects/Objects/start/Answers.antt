use Rattle.std.proofs.Common.{[], ap, ◌∙◌, pos, refl}
use Rattle.std.specs.Option.{option_map_or}
use Rattle.elf32_read.specs.Parts.{SymbolParts}
use Rattle.psabi_sym.specs.Inputs.{Inputs, inputs_in, parsed}
use Rattle.psabi_sym.specs.Resolve.{definition_target, name_definition}
use Rattle.psabi_sym.specs.declared.target.Target.TheVariants.{Nowhere}
use Rattle.psabi_sym.specs.Start.{start_name}
use Rattle.psabi_sym.proofs.objects.Objects.start.Goals as goal

-- a local symbol that nothing defines leads nowhere, as a name does that nothing defines
pub returns : goal.returns
returns c =
    let here : Inputs = inputs_in c.self.inside.options c.self.inside.objects.items in
    let symbol : SymbolParts = record { name = []; value = 0; size = 0; bind = 0; kind = 0; home = 0 } in
    let start = c.self.invariant.start in
    c.meaning_target.ensures start.names (name_definition (parsed here) start_name) symbol start.start_is refl
    ∙ ap (λ v. option_map_or (definition_target (parsed c.args.self.now) (pos 0)) (name_definition (parsed v) start_name) Nowhere) c.self.view_is
