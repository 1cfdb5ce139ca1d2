use Rattle.std.proofs.Common.{◌≡◌, ◌+◌, ◌*◌, ◌^◌, ap, arith}
use Rattle.psabi_reloc.specs.Parts.{lo12_of}
use Rattle.psabi_reloc.proofs.PutLaws.{store_put}
use Rattle.rv_decode.specs.Bits.{field, signed}
use Rattle.psabi_reloc.proofs.put.put_lo12_s.Goals as goal

pub returns-clause-decodes : goal.returns-clause-decodes
returns-clause-decodes c =
    let w = c.with_seven_and_five in
    let bits : field w.result 25 7 * 2 ^ 5 + field w.result 7 5 ≡ field c.args.x 0 12 = omega arith in
    store_put c.args.word w.result (lo12_of c.args.x) w.ensures.opcode w.ensures.middle (ap (signed 12) bits)
