use Rattle.std.proofs.Common.{true, false, ◌∙◌, ap, sym}
use Rattle.std.proofs.lemmas.List.{append-nil}
use Rattle.block_cut.specs.Relocs.{is_pcrel_hi}
use Rattle.block_cut.proofs.OrderLaws.{one_more}
use Rattle.block_cut.proofs.fields.Fields.add.Goals as goal

pub returns-in_ok-push : goal.returns-in_ok-push
returns-in_ok-push c = λ relocs holds.
    let upper = ap is_pcrel_hi (sym c.requires) ∙ sym c.is_pcrel_hi.ensures ∙ c.if-is_pcrel_hi.true in
    one_more relocs c.args.self.now c.args.reloc holds true upper (record { uppers = c.push.new.self; end = c.end_with-self.result; unordered = c.args.self.now.unordered })
    c.in_ok-push.ensures.items (c.end_with-self.ensures.apart relocs holds.apart) c.end_with-self.ensures.past

pub returns-else-is_pcrel_hi : goal.returns-else-is_pcrel_hi
returns-else-is_pcrel_hi c = λ relocs holds.
    let upper = ap is_pcrel_hi (sym c.requires) ∙ sym c.is_pcrel_hi.ensures ∙ c.if-is_pcrel_hi.false in
    one_more relocs c.args.self.now c.args.reloc holds false upper (record { uppers = c.args.self.now.uppers; end = c.end_with-self.result; unordered = c.args.self.now.unordered })
    (sym (append-nil c.args.self.now.uppers.items)) (c.end_with-self.ensures.apart relocs holds.apart) c.end_with-self.ensures.past
