use Rattle.std.proofs.Common.{◌≡◌, ◌+◌, ap₂, ap, sym, ◌∙◌, arith, Some}
use Rattle.rv_decode.specs.Memory.{cell_at}
use Rattle.sym_machine.specs.declared.word.SymByte.TheVariants.{Undef}
use Rattle.sym_machine.specs.Change.{then_number}
use Rattle.sym_machine.specs.Kept.{regions_of}
use Rattle.sym_machine.proofs.NumberLaws.{no_number, numbers_more, numbers_none}
use Rattle.sym_machine.proofs.memory.SymMemory.numbers.Goals as goal

pub returns-in-Part : goal.returns-in-Part
returns-in-Part c =
    let memory = regions_of c.args.self.now in
    let at : c.args.a + c.loop-i.i ≡ c.from.result + c.from-in-loop-i.result = ap₂ (λ m n. m + n) (sym c.from.ensures) (sym c.from-in-loop-i.ensures) in
    let byte = ap (cell_at Undef memory) at ∙ sym c.byte.ensures in
    numbers_none memory c.args.a c.loop-i.i c.args.n
    (λ o. ap (λ b. then_number b o) byte ∙ no_number c.byte.result o c.in-Part.is)
    (omega arith)

pub loop-i-preserved : goal.loop-i-preserved
loop-i-preserved c =
    let memory = regions_of c.args.self.now in
    let at : c.args.a + c.loop-i.i ≡ c.from.result + c.from-in-loop-i.result = ap₂ (λ m n. m + n) (sym c.from.ensures) (sym c.from-in-loop-i.ensures) in
    numbers_more memory c.args.a c.loop-i.i c.loop-i.bytes.items c.in-Num.byte c.loop-i.invariant (ap (cell_at Undef memory) at ∙ sym c.byte.ensures ∙ c.in-Num.is)
    ∙ ap Some (sym c.in_ok-push-in-Num.ensures.items)

pub loop-i-init : goal.loop-i-init
loop-i-init c = ap Some (sym c.in_ok-bytes.ensures.items)

pub byte-requires : goal.byte-requires
byte-requires c = omega (arith, c.from.ensures, c.from-in-loop-i.ensures, c.loop-i-test.true, c.ranges.a.fits, c.ranges.n.fits)

pub loop-i-smaller : goal.loop-i-smaller
loop-i-smaller c = omega (arith, c.loop-i-test.true)
