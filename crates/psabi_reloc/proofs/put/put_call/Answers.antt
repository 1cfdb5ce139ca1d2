use Rattle.std.proofs.Common.{◌≡◌, Some, refl, ap, ◌∙◌, arith}
use Rattle.std.proofs.lemmas.Grind.{common_steps}
use Rattle.psabi_reloc.specs.Parts.{hi20_of, lo12_of}
use Rattle.rv_decode.specs.Bits.{as_word}
use Rattle.rv_decode.specs.declared.instr.Instr.TheVariants.{Upper, Jalr}
use Rattle.rv_decode.specs.declared.instr.UpperOp.TheVariants.{Auipc}
use Rattle.psabi_reloc.proofs.put.put_call.Goals as goal

pub returns-clause-upper : goal.returns-clause-upper
returns-clause-upper c temp imm spelled =
    let x : c.cast_unsigned-x.result ≡ as_word c.args.distance = grind (arith, common_steps) in
    c.put_hi20.ensures.decodes (Upper Auipc temp imm) spelled refl ∙ ap (λ n. Some (Upper Auipc temp (hi20_of n))) x

pub returns-clause-lower : goal.returns-clause-lower
returns-clause-lower c rd temp imm spelled =
    let x : c.cast_unsigned-x.result ≡ as_word c.args.distance = grind (arith, common_steps) in
    c.put_lo12_i.ensures.decodes (Jalr rd temp imm) spelled refl ∙ ap (λ n. Some (Jalr rd temp (lo12_of n))) x
