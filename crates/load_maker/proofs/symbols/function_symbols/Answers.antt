use Rattle.std.proofs.Common.{◌≡◌, ap, ◌++◌, ◌∙◌, ◌+◌, drop, arith}
use Rattle.load_maker.specs.Objects.{function_symbols}
use Rattle.load_maker.specs.Statements.{code_size}
use Rattle.load_maker.proofs.TurnLaws.{sizes_more, symbols_more}
use Rattle.load_maker.proofs.symbols.function_symbols.Goals as goal

pub loop-body-preserved : goal.loop-body-preserved
loop-body-preserved c =
    let bodies = c.args.bodies.now in
    let k = c.loop-body.body-index in
    let i = c.loop-body.i in
    let at = c.loop-body.at in
    let body = c.body-item.result in
    let size = c.code_size-size.result in
    let sized : size ≡ code_size body = c.code_size-size.ensures ∙ ap code_size (c.deref.ensures.value ∙ c.body.view_is) in
    record {
      symbols =
          ap (λ l. l ++ function_symbols (i + 1) (at + size) (drop (k + 1) bodies)) c.in_ok-push.ensures.items
          ∙ symbols_more bodies k body c.loop-body-test.true c.body-item.is size sized c.loop-body.symbols.items i at c.in_ok-name.name.items c.in_ok-name.ensures
          ∙ c.loop-body.invariant.symbols;
      number = omega (arith, c.loop-body.invariant.number);
      size = sizes_more bodies k body c.loop-body-test.true c.body-item.is size sized at ∙ c.loop-body.invariant.size;
    }
