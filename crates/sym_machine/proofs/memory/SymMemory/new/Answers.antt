use Rattle.std.proofs.Common.{◌-◌, length, ap, ◌∙◌, get_or, arith}
use Rattle.rv_decode.proofs.MemoryLaws.{get_or_blank, length_blank}
use Rattle.sym_machine.specs.declared.word.SymByte.TheVariants.{Undef}
use Rattle.sym_machine.proofs.memory.SymMemory.new.Goals as goal

pub invariant_of-result : goal.invariant_of-result
invariant_of-result c =
    let size = c.args.map.stack_high - c.args.map.stack_low in
    record {
      some = c.requires.some;
      top = omega arith;
      clear = c.requires.clear;
      size = ap length c.in_ok-stack.ensures ∙ length_blank size Undef;
      low = omega (arith, c.requires.some);
      high = omega arith;
      apart = c.requires.apart;
      below = λ i lt. ap (λ l. get_or l i Undef) c.in_ok-stack.ensures ∙ get_or_blank size i Undef;
    }
