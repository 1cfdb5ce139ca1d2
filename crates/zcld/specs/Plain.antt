-- What `plain` does: it links the objects with their instructions as they are, puts the image, and writes how long its
-- text is.
use Rattle.std.specs.Prelude.{◌≡◌, ℕ, ◌⊎◌, ◌++◌, List, [], ◌∷◌, codes, decimal}
use Rattle.psabi_sym.specs.Inputs.{inputs_in}
use Rattle.zc_base.specs.Options.{Options}
use Rattle.zc_outside.specs.Desk.{OnlyWrites}
use Rattle.zc_outside.specs.Shelf.{OnlyPuts}
use Rattle.zc_outside.specs.World.{World}
use Rattle.zc_link.specs.Links.{IsPlainLink, Link}
use Rattle.zcld.specs.declared.outcome.Outcome.{Outcome}
use Rattle.zcld.specs.declared.outcome.Outcome.TheVariants.{OutOfMemory}
use Rattle.zcld.specs.ErrLine.{line}
use Rattle.zcld.specs.Puts.{Output, PutsInTurn}

-- the line that says how many bytes the text has
abbrev pub plain_line : ℕ → List ℕ
plain_line n = line (codes "plain text " ++ decimal n)

-- the image, and the line on its text
abbrev pub plain_output : List ℕ → List ℕ → List ℕ → Output
plain_output out image text = record { files = (out, image) ∷ []; text = text }

-- the link under the options was made, its image was put, and the length of its text written, as far as this outcome says
pub record PutsPlain
    (options : Options) (out : List ℕ) (files : List (List ℕ)) (outcome : Outcome) (before after : World)
    : Type 0 where
  pub link : Link
  pub linked : IsPlainLink (inputs_in options files) link
  pub done : PutsInTurn outcome (plain_output out link.elf (plain_line link.plain.text)) before after
  pub shelf : OnlyPuts before.shelf after.shelf
  pub desk : OnlyWrites before.desk after.desk

-- there was no memory for the link, and nothing was done; or the link was made and put
abbrev pub PlainWork : Options → List ℕ → List (List ℕ) → Outcome → World → World → Type 0
PlainWork options out files outcome before after =
    ((outcome ≡ OutOfMemory) × (after ≡ before)) ⊎ PutsPlain options out files outcome before after
