use Rattle.std.proofs.Common.{◌≡◌, ◌/◌, ◌<◌, ◌^◌, Some, rules}
use Rattle.rv_decode.specs.declared.instr.Instr.TheVariants.{Upper, Jal, Csrrw}
use Rattle.rv_decode.specs.declared.instr.UpperOp.TheVariants.{Lui}
use Rattle.rv_decode.specs.Decode.{decoded}
use Rattle.entry_stub.proofs.StubLaws.{spelled_one_by_one}
use Rattle.entry_stub.proofs.stub.stub.Goals as goal

pub returns-clause-words : goal.returns-clause-words
returns-clause-words c =
    let upper : decoded c.encode.result ≡ Some (Upper Lui 5 (c.args.text / 4096)) = search rules in
    let csrrw : decoded c.encode-2.result ≡ Some (Csrrw 0 5) = search rules in
    let jump : decoded c.encode-3.result ≡ Some (Jal 0 c.args.distance) = search rules in
    let small : c.encode.result < 2 ^ 32 = search rules in
    let small' : c.encode-2.result < 2 ^ 32 = search rules in
    let small'' : c.encode-3.result < 2 ^ 32 = search rules in
    spelled_one_by_one c.encode.result c.encode-2.result c.encode-3.result (Upper Lui 5 (c.args.text / 4096)) (Csrrw 0 5) (Jal 0 c.args.distance)
    small small' small'' upper csrrw jump
    c.put_u32.new.bytes c.put_u32-2.new.bytes c.put_u32-3.new.bytes c.put_u32.ensures c.put_u32-2.ensures c.put_u32-3.ensures
