-- What each fault of a certificate's text means.
use Rattle.std.specs.Prelude.{◌≡◌, ℕ, ◌+◌, ◌<◌, List, [], ◌∷◌, ◌++◌, length, All}
use Rattle.pick_check.specs.Certified.{Certified}
use Rattle.pick_check.specs.Text.{FitsCertified, FitsSaving, IsCertText, certificate_lines, text_of}
use Rattle.pick_check.specs.declared.fault.CertFault.{CertFault}
use Rattle.pick_check.specs.declared.fault.CertFault.TheVariants.{BadLine, OutOfMemory, TooLarge}
use Rattle.pick_check.specs.declared.saving.Saving.{Saving}

-- some certificate's text begins with these lines
pub record IsBeginning (lines : List (List ℕ)) : Type 0 where
  pub savings : List Saving
  pub certificate : Certified
  pub others : List (List ℕ)
  pub begins : certificate_lines savings certificate ≡ lines ++ others
  pub savings_fit : All FitsSaving savings
  pub certificate_fits : FitsCertified certificate

-- no certificate's text begins with these lines and the next one
abbrev pub NoneGoesOn : List (List ℕ) → List ℕ → Type 0
NoneGoesOn before rest = (line more : List ℕ) → rest ≡ line ++ 10 ∷ more → IsBeginning (before ++ line ∷ []) → ⊥

-- the text spells no certificate
abbrev pub SpellsNone : List ℕ → Type 0
SpellsNone text = (savings : List Saving) (c : Certified) → IsCertText text savings c → ⊥

-- the lines before a bad line begin some certificate's text; with it they don't, or it is missing, or there is one line too many;
-- memory may run out at any text
pub data IsCertFault (text : List ℕ) : CertFault → Type 0 where
  bad_line : (before : List (List ℕ)) (rest : List ℕ) → text ≡ text_of before ++ rest → IsBeginning before → NoneGoesOn before rest → SpellsNone text → IsCertFault text (BadLine (length before + 1))
  large : 8388608 < length text → IsCertFault text TooLarge
  memory : IsCertFault text OutOfMemory
