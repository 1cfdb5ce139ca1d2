-- An object that is the first one, in one word: what it says is long, so it stays folded.
use Rattle.std.specs.Prelude.{◌≡◌, ℕ}
use Rattle.elf32_read.specs.Parts.{ObjectParts}
use Rattle.load_maker.specs.Objects.{start_object}

unfoldable pub IsStartObject : ℕ → ℕ → ObjectParts → Type 0
IsStartObject number functions parts = parts ≡ start_object number functions
