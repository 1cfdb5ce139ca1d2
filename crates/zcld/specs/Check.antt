-- What `check` does: it reads a certificate, and if that is accepted, it writes what the slots save, which is the most
-- that any slots save.
use Rattle.std.specs.Prelude.{◌≡◌, ℕ, ◌++◌, if◌then◌else◌, List, [], ◌∷◌, codes, decimal, Option, Some, None, Result, Ok, Err}
use Rattle.pick_check.specs.Best.{NoneSavesMore}
use Rattle.pick_check.specs.Certified.{Certified, IsAccepted, is_accepted}
use Rattle.pick_check.specs.Text.{certificate_in}
use Rattle.pick_check.specs.declared.fault.CertFault.{CertFault}
use Rattle.pick_check.specs.declared.read_certificate.TheConstants.{CERTIFICATE_LIMIT}
use Rattle.pick_check.specs.declared.saving.Saving.{Saving}
use Rattle.zc_outside.specs.Desk.{OnlyWrites}
use Rattle.zc_outside.specs.Wanted.{Wanted}
use Rattle.zc_outside.specs.World.{World}
use Rattle.zcld.specs.declared.outcome.FileFault.TheVariants.{Certificate, Rejected}
use Rattle.zcld.specs.declared.outcome.Outcome.{Outcome}
use Rattle.zcld.specs.declared.outcome.Outcome.TheVariants.{BadFile}
use Rattle.zcld.specs.ErrLine.{line}
use Rattle.zcld.specs.Puts.{PutsInTurn, text_alone}
use Rattle.zcld.specs.Task.{first_file}

-- ---- the certificate, and why it is refused

-- a certificate is read up to its limit
abbrev pub check_wanted : List ℕ → List Wanted
check_wanted cert = record { name = cert; limit = CERTIFICATE_LIMIT } ∷ []

-- a text that is no certificate is refused for its first fault, and a certificate if it isn't accepted
abbrev pub certificate_refusal : Result (List Saving × Certified) CertFault → Option Outcome
certificate_refusal (Ok read) = if is_accepted read.0 read.1 then None else Some (BadFile Rejected)
certificate_refusal (Err fault) = Some (BadFile (Certificate fault))

-- why the file, a certificate, is refused
abbrev pub check_refusal : List (List ℕ) → Option Outcome
check_refusal files = certificate_refusal (certificate_in (first_file files))

-- ---- what is written

-- a text spells savings and a certificate that is accepted, whose slots save this much; and no slots save more
pub record Certifies (text : List ℕ) (net : ℕ) : Type 0 where
  pub savings : List Saving
  pub certificate : Certified
  pub spelled : certificate_in text ≡ Ok (savings, certificate)
  pub accepted : IsAccepted savings certificate
  pub saves : certificate.net ≡ net
  pub best : NoneSavesMore savings net

-- the line that says what the slots save
abbrev pub check_line : ℕ → List ℕ
check_line net = line (codes "net " ++ decimal net)

-- the line was written, as far as this outcome says, and the store is unchanged
pub record CheckWork (files : List (List ℕ)) (outcome : Outcome) (before after : World) : Type 0 where
  pub net : ℕ
  pub certifies : Certifies (first_file files) net
  pub printed : PutsInTurn outcome (text_alone (check_line net)) before after
  pub shelf : after.shelf ≡ before.shelf
  pub desk : OnlyWrites before.desk after.desk
