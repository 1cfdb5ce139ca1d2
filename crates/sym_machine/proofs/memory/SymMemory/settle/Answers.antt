use Rattle.std.proofs.Common.{◌≡◌, ◌≤◌, ap, ◌∙◌, arith}
use Rattle.rv_decode.specs.Memory.{changed}
use Rattle.sym_machine.specs.Kept.{Kept, regions_of}
use Rattle.sym_machine.specs.Step.{undefined_below}
use Rattle.sym_machine.specs.Stack.{stack_cells}
use Rattle.sym_machine.proofs.MemoryLaws.{settled_kept}
use Rattle.sym_machine.proofs.memory.SymMemory.settle.Goals as goal

pub returns-clause-regions : goal.returns-clause-regions
returns-clause-regions c =
    let k : Kept = record { map = c.self.inside.map; bytes = c.self.inside.bytes; stack = stack_cells c.self.inside.stack; from = c.self.inside.from } in
    let map : k.map ≡ c.args.self.now.map = ap (λ (m : Kept). m.map) c.self.view_is in
    let low : k.map.stack_low ≤ c.args.sp = omega (arith, c.requires.low, ap (λ m. m.stack_low) map) in
    let high : c.args.sp ≤ k.map.stack_high = omega (arith, c.requires.high, ap (λ m. m.stack_high) map) in
    (settled_kept k c.args.sp (stack_cells c.clear_below.new.self) c.self.invariant c.clear_below.ensures.len c.clear_below.ensures.each low high).1
    ∙ ap (λ (m : Kept). changed (undefined_below m.map c.args.sp) (regions_of m)) c.self.view_is
