-- A byte goes where its address lies.
use Rattle.std.proofs.Common.{◌≡◌, ◌-◌, ◌∷◌, [], length, ap, subst, arith}
use Rattle.rv_decode.specs.Memory.{written}
use Rattle.sym_machine.specs.Kept.{IsChanged, Kept}
use Rattle.sym_machine.specs.Stack.{stack_cells}
use Rattle.sym_machine.proofs.MemoryLaws.{stored_nowhere}
use Rattle.sym_machine.proofs.SpanLaws.{written_byte, written_in_data, written_in_stack}
use Rattle.sym_machine.proofs.memory.SymMemory.put.Goals as goal
use Rattle.sym_machine.proofs.memory.SymMemory.put.Goals.{else-from-a-2-via-then-from-a-2+else-i-len, else-from-a-2-via-else-from-a-2}

pub returns-then-i-len : goal.returns-then-i-len
returns-then-i-len c =
    let k : Kept = record { map = c.self.inside.map; bytes = c.self.inside.bytes; stack = stack_cells c.self.inside.stack; from = c.self.inside.from } in
    let now = c.args.self.now in
    let map : k.map.stack_low ≡ now.map.stack_low = ap (λ (m : Kept). m.map.stack_low) c.self.view_is in
    let from : k.from ≡ now.from = ap (λ (m : Kept). m.from) c.self.view_is in
    let new : Kept = record { map = k.map; bytes = k.bytes; stack = stack_cells c.write.new.self; from = k.from } in
    written_byte now new c.args.a c.args.byte
    (written_in_stack c.self.view_is c.self.invariant c.args.a (c.args.a - c.from-then-from-a.result) (c.args.byte ∷ []) (stack_cells c.write.new.self)
    (omega (arith, map, c.from.ensures, c.from-then-from-a.ensures, c.if-from-a.true)) (omega (arith, from, c.from-then-from-a-2.ensures, c.if-from-a-2.true)) c.write.ensures.len c.write.ensures.each)

pub returns-then-i-len-2 : goal.returns-then-i-len-2
returns-then-i-len-2 c =
    let k : Kept = record { map = c.self.inside.map; bytes = c.self.inside.bytes; stack = stack_cells c.self.inside.stack; from = c.self.inside.from } in
    let now = c.args.self.now in
    let write = c.write-then-i-len-2 in
    let map : k.map.data_low ≡ now.map.data_low = ap (λ (m : Kept). m.map.data_low) c.self.view_is in
    let size : length k.bytes ≡ length now.bytes = ap (λ (m : Kept). length m.bytes) c.self.view_is in
    let new : Kept = record { map = k.map; bytes = write.new.self; stack = k.stack; from = k.from } in
    written_byte now new c.args.a c.args.byte
    (written_in_data c.self.view_is c.self.invariant c.args.a (c.args.a - c.from-then-from-a-3.result) (c.args.byte ∷ []) write.new.self
    (omega (arith, map, c.from-else-from-a.ensures, c.from-then-from-a-3.ensures, c.if-from-a-3.true)) (omega (arith, size, c.len-then-from-a-3.ensures.value, c.if-i-len-2.true)) write.ensures.len write.ensures.each)

pub returns-else-from-a-2 : goal.returns-else-from-a-2
returns-else-from-a-2 c =
    let k : Kept = record { map = c.self.inside.map; bytes = c.self.inside.bytes; stack = stack_cells c.self.inside.stack; from = c.self.inside.from } in
    let is = c.self.invariant in
    subst (λ (m : Kept). IsChanged (written c.args.a 1 (λ _. c.args.byte)) m m) c.self.view_is
    (stored_nowhere k is c.args.a 1 (λ _. c.args.byte)
    (λ j lt l h. omega (arith, c.from.ensures, c.if-from-a.true, is.apart, lt, h, l))
    (λ j lt kept l h. elim c.else-from-a-2.branch [
      | else-from-a-2-via-then-from-a-2+else-i-len w ↦ omega (arith, c.from.ensures, c.from-then-from-a.ensures, w.len.ensures.value, w.if-i-len.false, lt, l, h)
      | else-from-a-2-via-else-from-a-2 w ↦ omega (arith, c.from-then-from-a-2.ensures, w.if-from-a-2.false, kept, h)
    ]))

pub returns-else-i-len-2 : goal.returns-else-i-len-2
returns-else-i-len-2 c =
    let k : Kept = record { map = c.self.inside.map; bytes = c.self.inside.bytes; stack = stack_cells c.self.inside.stack; from = c.self.inside.from } in
    let is = c.self.invariant in
    subst (λ (m : Kept). IsChanged (written c.args.a 1 (λ _. c.args.byte)) m m) c.self.view_is
    (stored_nowhere k is c.args.a 1 (λ _. c.args.byte)
    (λ j lt l h. omega (arith, c.from-else-from-a.ensures, c.from-then-from-a-3.ensures, c.len-then-from-a-3.ensures.value, c.if-i-len-2.false, lt, l, h))
    (λ j lt kept l h. omega (arith, c.from.ensures, c.if-from-a.false, h)))

pub returns-else-from-a-3 : goal.returns-else-from-a-3
returns-else-from-a-3 c =
    let k : Kept = record { map = c.self.inside.map; bytes = c.self.inside.bytes; stack = stack_cells c.self.inside.stack; from = c.self.inside.from } in
    let is = c.self.invariant in
    subst (λ (m : Kept). IsChanged (written c.args.a 1 (λ _. c.args.byte)) m m) c.self.view_is
    (stored_nowhere k is c.args.a 1 (λ _. c.args.byte)
    (λ j lt l h. omega (arith, c.from-else-from-a.ensures, c.if-from-a-3.false, h))
    (λ j lt kept l h. omega (arith, c.from.ensures, c.if-from-a.false, h)))
