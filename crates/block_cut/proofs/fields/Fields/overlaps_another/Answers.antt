use Rattle.std.proofs.Common.{◌≡◌, false, is_some, arith}
use Rattle.block_cut.proofs.FieldLaws.{crowded_none}
use Rattle.block_cut.proofs.OrderLaws.{none_there}
use Rattle.block_cut.proofs.fields.Fields.overlaps_another.Goals as goal

pub returns-then-start-end : goal.returns-then-start-end
returns-then-start-end c = λ relocs are held. crowded_none c.args.reloc relocs (omega (arith, c.from-start.ensures, c.field_end-end.ensures, c.if-start-end.true))

pub returns : goal.returns
returns c = λ relocs are held.
    let some : is_some c.args.self.now.end ≡ false = cc (c.is_some.ensures, c.if-is_some.false) in
    c.overlaps_another.ensures relocs c.args.reloc (are.ends (none_there c.args.self.now.end some)) c.from-start.ensures c.field_end-end.ensures
