use Rattle.std.proofs.Common.{ap}
use Rattle.std.specs.Option.{option_copied}
use Rattle.zc_list.proofs.ReadLaws.{zeros_more}
use Rattle.zc_list.proofs.read_content.read_zeros.Goals as goal

pub returns-in-Some : goal.returns-in-Some
returns-in-Some c =
    zeros_more (option_copied c.args.words) (option_copied c.split_word.result.1) c.in_ok-words.field-0.now c.split_word.result.0.now c.in-Some.field-0.now
    (ap option_copied c.in_ok-words.was) c.split_word.ensures.words (ap option_copied c.in-Some.is)
