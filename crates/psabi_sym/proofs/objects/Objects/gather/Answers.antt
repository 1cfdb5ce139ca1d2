use Rattle.std.proofs.Common.{sym, ◌∙◌, arith}
use Rattle.std.proofs.lemmas.List.{length-map}
use Rattle.psabi_sym.specs.Inputs.{Inputs, inputs_in}
use Rattle.psabi_sym.specs.Objects.{contents_of}
use Rattle.psabi_sym.proofs.Gathered.{too_many, unreadable}
use Rattle.psabi_sym.proofs.objects.Objects.gather.Goals as goal

pub returns-then-bytes-gt-MOST_OBJECTS-clause-err : goal.returns-then-bytes-gt-MOST_OBJECTS-clause-err
returns-then-bytes-gt-MOST_OBJECTS-clause-err c =
    let inputs : Inputs = inputs_in c.args.options.now (contents_of c.args.bytes.now) in
    too_many inputs (omega (arith, length-map c.args.bytes.now (λ f. f.items)))

pub returns-in-Some-clause-err : goal.returns-in-Some-clause-err
returns-in-Some-clause-err c =
    let inputs : Inputs = inputs_in c.args.options.now (contents_of c.args.bytes.now) in
    unreadable inputs c.in-Some.index c.in-Some.fault (omega (arith, length-map c.args.bytes.now (λ f. f.items))) (sym c.first_unreadable.ensures ∙ c.in-Some.is)
