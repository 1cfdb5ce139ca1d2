use Rattle.std.proofs.Common.{◌≡◌, ◌++◌}
use Rattle.std.specs.Option.{option_copied, option_map}
use Rattle.text_lines.specs.Lines.{words_in}
use Rattle.zc_list.specs.Spelled.{bytes_of_words}
use Rattle.zc_list.proofs.ReadLaws.{left}
use Rattle.zc_list.proofs.read_content.push_words.Given as goal

abbrev pub invariant-loop-rest : goal.invariant-loop-rest
invariant-loop-rest l = option_map (λ more. l.fn.bytes.items ++ more) (bytes_of_words (words_in (option_copied l.words))) ≡ option_map (λ more. l.bytes.items ++ more) (bytes_of_words (words_in (option_copied l.rest)))

abbrev pub decreases-loop-rest : goal.decreases-loop-rest
decreases-loop-rest l = left (option_copied l.rest)
