-- What `gc` does: it leaves out of the objects the code that the program doesn't need, puts the results, and writes how much code is
-- kept.
use Rattle.std.specs.Prelude.{ℕ, ◌++◌, List, codes, decimal}
use Rattle.psabi_sym.specs.Inputs.{inputs_in}
use Rattle.section_gc.specs.Collected.{Collection, IsBroken, IsCollection}
use Rattle.zc_base.specs.Options.{Options}
use Rattle.zc_outside.specs.World.{World}
use Rattle.zcld.specs.declared.outcome.Outcome.{Outcome}
use Rattle.zcld.specs.ErrLine.{line}
use Rattle.zcld.specs.ObjectNames.{named_from}
use Rattle.zcld.specs.Puts.{Output}
use Rattle.zcld.specs.Rewrites.{Rewrites}

-- a line with two numbers, of which the first counts a part of what the second counts
abbrev pub share_line : List ℕ → ℕ → ℕ → List ℕ
share_line word part whole = line (word ++ codes " " ++ decimal part ++ codes " of " ++ decimal whole)

-- how many sections of code are kept, and how many bytes they have, each of how many
abbrev pub kept_lines : Collection → List ℕ
kept_lines c = share_line (codes "sections") c.kept c.all ++ share_line (codes "code") c.bytes c.from

-- the results under their names, and those lines
abbrev pub gc_output : List ℕ → Collection → Output
gc_output prefix c = record { files = named_from prefix 0 c.files; text = kept_lines c }

-- the work of `gc`, under the options
abbrev pub GcWork : Options → List ℕ → List (List ℕ) → Outcome → World → World → Type 0
GcWork options prefix files =
    Rewrites (IsBroken (inputs_in options files)) (IsCollection (inputs_in options files)) (gc_output prefix)
