use Rattle.std.proofs.Common.{◌≡◌, map, take}
use Rattle.command_words.specs.Command.{texts}
use Rattle.command_words.proofs.read.copied.Given as goal

-- the copies so far
abbrev pub invariant-loop-word : goal.invariant-loop-word
invariant-loop-word l = texts l.copies.items ≡ map (λ word. word.now) (take l.word-index l.words)
