use Rattle.std.proofs.Common.{◌≡◌, ◌%◌, ◌∷◌, ◌++◌, [], pos, map, sym, ap, ◌∙◌, arith, append_assoc}
use Rattle.std.specs.List.{range_with_len}
use Rattle.std.proofs.lemmas.List.FromFn.{map-range_with_len_more}
use Rattle.rv_decode.specs.declared.instr.Instr.TheVariants.{Ecall}
use Rattle.load_maker.specs.Instructions.{addi, lui, sw}
use Rattle.load_maker.specs.declared.register.Register.TheVariants.{Zero, Temp1, A0, A1, A2, A7}
use Rattle.load_maker.specs.declared.statement.Statement.TheVariants.{Plain, Call, WithAddress}
use Rattle.load_maker.proofs.objects.start_statements.Goals as goal

pub loop-i-preserved : goal.loop-i-preserved
loop-i-preserved c =
    c.in_ok-push-2.ensures.items ∙ ap (λ l. l ++ Call c.loop-i.i ∷ []) c.loop-i.invariant
    ∙ ap (λ l. Plain (addi A0 Zero (pos (c.args.number % 2048))) ∷ l) (sym (map-range_with_len_more Call 0 c.loop-i.i c.loop-i.i (omega arith)))

pub returns : goal.returns
returns c =
    let so_far = c.loop-i.statements.items in
    let first = Plain (addi A0 Zero (pos (c.args.number % 2048))) in
    let i : c.loop-i.i ≡ c.args.functions = omega (arith, c.loop-i-test.false, c.loop-i.auto.i-end) in
    let upper = WithAddress 26 (lui Temp1 0) ∷ WithAddress 28 (sw A0 (pos 0) Temp1) ∷ WithAddress 26 (lui A1 0) ∷ WithAddress 27 (addi A1 A1 (pos 0)) ∷ [] in
    let lower =
    Plain (addi A0 Zero (pos 1)) ∷ Plain (addi A2 Zero (pos 4)) ∷ Plain (addi A7 Zero (pos 64)) ∷ Plain Ecall ∷ Plain (addi A0 Zero (pos 0)) ∷ Plain (addi A7 Zero (pos 93)) ∷ Plain Ecall ∷ [] in
    c.in_ok-push_all.ensures
    ∙ (λ j. c.in_ok-extend_from_slice.ensures.items j ++ (Plain (c.addi-3.ensures j) ∷ Plain (c.addi-4.ensures j) ∷ Plain (c.addi-5.ensures j) ∷ Plain Ecall ∷ Plain (c.addi-6.ensures j) ∷ Plain (c.addi-7.ensures j) ∷ Plain Ecall ∷ []))
    ∙ (λ j. (so_far ++ (WithAddress 26 (c.lui.ensures j) ∷ WithAddress 28 (c.sw.ensures j) ∷ WithAddress 26 (c.lui-2.ensures j) ∷ WithAddress 27 (c.addi-2.ensures j) ∷ [])) ++ lower)
    ∙ ap (λ l. (l ++ upper) ++ lower) c.loop-i.invariant
    ∙ append_assoc (first ∷ map Call (range_with_len 0 c.loop-i.i)) upper lower
    ∙ ap (λ n. (first ∷ map Call (range_with_len 0 n)) ++ (upper ++ lower)) i
