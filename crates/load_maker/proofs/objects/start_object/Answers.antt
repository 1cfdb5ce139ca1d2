use Rattle.std.proofs.Common.{◌≡◌, ap, ◌∙◌, arith}
use Rattle.std.proofs.lemmas.List.Elements.{All-same}
use Rattle.std.proofs.lemmas.Result.{IfOk-weaker}
use Rattle.load_maker.specs.First.{IsStartObject}
use Rattle.load_maker.specs.Objects.{start_statements}
use Rattle.load_maker.specs.Statements.{IsInRange, code_size}
use Rattle.load_maker.proofs.CodeLaws.{right_range}
use Rattle.load_maker.proofs.FirstLaws.{first_folded, parts_of}
use Rattle.load_maker.proofs.StartLaws.{start_right, start_size}
use Rattle.load_maker.proofs.objects.start_object.Goals as goal

pub start_parts-requires-clause-range : goal.start_parts-requires-clause-range
start_parts-requires-clause-range c =
    let statements = start_statements c.args.number c.args.functions in
    All-same IsInRange _ statements (c.deref.ensures.value ∙ c.in_ok-statements.ensures) (right_range c.args.functions statements (start_right c.args.number c.args.functions))

pub start_parts-requires-clause-size : goal.start_parts-requires-clause-size
start_parts-requires-clause-size c = omega (arith, ap code_size (c.deref.ensures.value ∙ c.in_ok-statements.ensures), start_size c.args.number c.args.functions, c.requires)

pub returns : goal.returns
returns c =
    let statements = c.deref.result.now in
    IfOk-weaker c.start_parts.result (λ parts. parts ≡ parts_of statements) (IsStartObject c.args.number c.args.functions)
    (first_folded c.args.number c.args.functions statements (c.deref.ensures.value ∙ c.in_ok-statements.ensures)) c.start_parts.ensures
