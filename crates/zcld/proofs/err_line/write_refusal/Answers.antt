use Rattle.std.proofs.Common.{◌∙◌, subst}
use Rattle.psabi_sym.specs.Objects.{contents_of}
use Rattle.zcld.specs.Call.{WritesLine}
use Rattle.zcld.proofs.Names.{named_line}
use Rattle.zcld.proofs.err_line.write_refusal.Goals as goal

pub returns-in-Some-clause-line : goal.returns-in-Some-clause-line
returns-in-Some-clause-line g c =
    let head = c.as_bytes.ensures.value ∙ c.as_str.ensures.value ∙ c.named_fault-head.ensures in
    let line = named_line (contents_of c.args.files.now) c.args.object c.args.fault c.as_bytes.result.now c.in-Some.name.now head c.in-Some.ensures in
    subst (λ t. WritesLine t (g.C.Console.shown c.args.console.now) (g.C.Console.shown c.write_pieces.new.console)) line c.write_pieces.ensures.line
