use Rattle.std.proofs.Common.{sym, ◌∙◌}
use Rattle.block_cut.proofs.WholeLaws.{inputs_whole}
use Rattle.block_cut.proofs.relocated.Relocated.new.Goals as goal

pub returns-clause-is : goal.returns-clause-is
returns-clause-is c = λ inputs relocs none found are.
    let l = c.args.section.now in
    record {
      object = c.object.ensures;
      index = c.index.ensures;
      code = c.is_code.ensures;
      size = c.size.ensures;
      bytes = c.bytes.ensures;
      compressed = c.is_compressed.ensures;
      words = λ yes plain. c.requires.words (sym c.is_code.ensures ∙ yes) (sym c.is_compressed.ensures ∙ plain);
      fields = are;
      whole = λ yes. (inputs_whole inputs l.object l.index l.section none found (sym c.is_code.ensures ∙ yes)).bytes;
    }
