use Rattle.rv_encode.proofs.EncodedLaws.{word_decodes}
use Rattle.rv_encode.proofs.encode.encode.Goals as goal

pub returns-clause-decodes : goal.returns-clause-decodes
returns-clause-decodes c = word_decodes c.word_of.result c.args.i c.word_of.ensures.word c.requires c.word_of.ensures.registers
