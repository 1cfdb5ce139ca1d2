-- The first fault that isn't a relocation's is that of the start, or else that of a branch.
use Rattle.std.proofs.Common.{◌≡◌, ℕ, Some, None, sym, ap, ◌∙◌}
use Rattle.elf32_read.specs.declared.fault.Fault.{Fault}
use Rattle.elf32_read.specs.declared.fault.Fault.TheVariants.{Range}
use Rattle.psabi_sym.specs.Inputs.{parsed}
use Rattle.block_cut.specs.Items.{entry_in, start_only}
use Rattle.block_cut.proofs.FaultLaws.{no_entry, no_fault, out_of_range}
use Rattle.block_cut.proofs.cut.entry_in_reach.Goals as goal

pub returns-in_default-clause-err : goal.returns-in_default-clause-err
returns-in_default-clause-err c =
    let inputs = c.args.objects.now in
    let none = c.requires.gathered in
    let missing : entry_in (parsed inputs) ≡ None =
    ap (start_only (parsed inputs).objects) (sym c.start.ensures) ∙ sym c.start_only.ensures ∙ c.in_default.is in
    no_entry inputs none c.requires.relocs missing

pub returns-in-Some-first_out_of_reach-clause-err : goal.returns-in-Some-first_out_of_reach-clause-err
returns-in-Some-first_out_of_reach-clause-err c =
    let inputs = c.args.objects.now in
    let none = c.requires.gathered in
    let q = c.in-Some-first_out_of_reach.place in
    let found : entry_in (parsed inputs) ≡ Some c.in-Some.entry =
    ap (start_only (parsed inputs).objects) (sym c.start.ensures) ∙ sym c.start_only.ensures ∙ c.in-Some.is in
    out_of_range inputs c.in-Some.entry q none c.requires.relocs found (sym c.first_out_of_reach.ensures ∙ c.in-Some-first_out_of_reach.is)
    ∙ ap (λ (n : ℕ). let fault : Fault = Range q.section q.offset in Some (n, fault)) (sym c.from.ensures)

pub returns-clause-entry : goal.returns-clause-entry
returns-clause-entry c = ap (start_only (parsed c.args.objects.now).objects) (sym c.start.ensures) ∙ sym c.start_only.ensures ∙ c.in-Some.is

pub returns-clause-faultless : goal.returns-clause-faultless
returns-clause-faultless c =
    let inputs = c.args.objects.now in
    let none = c.requires.gathered in
    let found : entry_in (parsed inputs) ≡ Some c.in-Some.entry =
    ap (start_only (parsed inputs).objects) (sym c.start.ensures) ∙ sym c.start_only.ensures ∙ c.in-Some.is in
    no_fault inputs c.in-Some.entry none c.requires.relocs found (sym c.first_out_of_reach.ensures ∙ c.in_default-first_out_of_reach.is)
