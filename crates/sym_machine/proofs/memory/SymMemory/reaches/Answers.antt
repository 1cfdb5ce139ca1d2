use Rattle.std.proofs.Common.{length, ap, ◌∙◌, sym, refl}
use Rattle.std.specs.Prelude.{◌||◌}
use Rattle.rv_decode.specs.Memory.{Data, Stack, extents_of, is_data, lies_in, spans}
use Rattle.sym_machine.specs.Kept.{Kept, regions_of}
use Rattle.sym_machine.specs.Stack.{stack_cells}
use Rattle.sym_machine.proofs.MemoryLaws.{reaches_is}
use Rattle.sym_machine.proofs.memory.SymMemory.reaches.Goals as goal

pub returns-then-spans : goal.returns-then-spans
returns-then-spans c =
    let k : Kept = record { map = c.self.inside.map; bytes = c.self.inside.bytes; stack = stack_cells c.self.inside.stack; from = c.self.inside.from } in
    let stack = spans (record { kind = Stack; at = k.map.stack_low; size = length k.stack }) c.args.a c.args.n in
    let data_is = c.spans.ensures Data ∙ ap (λ n. spans (record { kind = Data; at = k.map.data_low; size = n }) c.args.a c.args.n) c.len-data.ensures.value in
    c.if-spans.true ∙ ap (λ b. b || stack) (sym c.if-spans.true)
    ∙ reaches_is k c.args.a c.args.n c.spans.result stack data_is refl
    ∙ ap (λ m. lies_in is_data (extents_of (regions_of m)) c.args.a c.args.n) c.self.view_is

pub returns-else-spans : goal.returns-else-spans
returns-else-spans c =
    let k : Kept = record { map = c.self.inside.map; bytes = c.self.inside.bytes; stack = stack_cells c.self.inside.stack; from = c.self.inside.from } in
    let data_is = c.spans.ensures Data ∙ ap (λ n. spans (record { kind = Data; at = k.map.data_low; size = n }) c.args.a c.args.n) c.len-data.ensures.value in
    let stack_is = c.spans-else-spans.ensures Stack ∙ ap (λ n. spans (record { kind = Stack; at = k.map.stack_low; size = n }) c.args.a c.args.n) c.len-stack.ensures.value in
    ap (λ b. b || c.spans-else-spans.result) (sym c.if-spans.false)
    ∙ reaches_is k c.args.a c.args.n c.spans.result c.spans-else-spans.result data_is stack_is
    ∙ ap (λ m. lies_in is_data (extents_of (regions_of m)) c.args.a c.args.n) c.self.view_is
