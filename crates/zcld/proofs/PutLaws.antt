-- Files that are put one after another, and what a put that is refused leaves.
use Rattle.std.proofs.Common.{◌≡◌, ◌≢◌, ℕ, ◌<◌, List, [], ◌∷◌, ◌++◌, length, take, Option, Some, None, refl, sym, ◌∙◌, inl, arith}
use Rattle.zc_outside.specs.Desk.{Desk}
use Rattle.zc_outside.specs.Files.{Files, KeepsFiles, PutsFile}
use Rattle.zc_outside.specs.Shelf.{OnlyPuts, Shelf}
use Rattle.zc_outside.specs.World.{world}
use Rattle.zcld.specs.declared.outcome.Outcome.{Outcome}
use Rattle.zcld.specs.declared.outcome.Outcome.TheVariants.{WriteFault, OutOfMemory}
use Rattle.zcld.specs.Puts.{HasFiles, IsOtherName, IsUnput, Output, PutsFiles, PutsInTurn, UnputCause}

-- ---- the files

-- none were put yet
pub PutsFiles-none : (a : Option Files) → PutsFiles a a []
PutsFiles-none None = tt
PutsFiles-none (Some f) = (tt, λ q other. refl)

-- files stay
pub PutsFiles-kept : (a b c : Option Files) (files : List (List ℕ × List ℕ)) → PutsFiles a b files → KeepsFiles b c → PutsFiles a c files
PutsFiles-kept None b c files put kept = tt
PutsFiles-kept (Some f) None c files put kept = absurd put
PutsFiles-kept (Some f) (Some g) None files put kept = absurd kept
PutsFiles-kept (Some f) (Some g) (Some h) files put kept = (has files put.0, λ q other. kept q ∙ put.1 q other)
  where
    has : (files : List (List ℕ × List ℕ)) → HasFiles g files → HasFiles h files
    has [] held = tt
    has (file ∷ files) held = (kept file.0 ∙ held.0, has files held.1)

-- a file more, under another name
pub PutsFiles-more :
    (a b c : Option Files) (files : List (List ℕ × List ℕ)) (name bytes : List ℕ) → IsOtherName name files → PutsFiles a b files
    → PutsFile b c name bytes → PutsFiles a c (files ++ (name, bytes) ∷ [])
PutsFiles-more None b c files name bytes other put next = tt
PutsFiles-more (Some f) None c files name bytes other put next = absurd put
PutsFiles-more (Some f) (Some g) None files name bytes other put next = absurd next
PutsFiles-more (Some f) (Some g) (Some h) files name bytes other put next = (has files other put.0, others files put.1)
  where
    has : (files : List (List ℕ × List ℕ)) → IsOtherName name files → HasFiles g files → HasFiles h (files ++ (name, bytes) ∷ [])
    has [] other held = (next.0, tt)
    has (file ∷ files) other held = (next.1 file.0 (λ same. other.0 (sym same)) ∙ held.0, has files other.1 held.1)

    parts : (q : List ℕ) (files : List (List ℕ × List ℕ)) → IsOtherName q (files ++ (name, bytes) ∷ []) → IsOtherName q files × q ≢ name
    parts q [] other = (tt, other.0)
    parts q (file ∷ files) other = let rest = parts q files other.1 in ((other.0, rest.0), rest.1)

    others :
        (files : List (List ℕ × List ℕ)) → ((q : List ℕ) → IsOtherName q files → g q ≡ f q)
        → (q : List ℕ) → IsOtherName q (files ++ (name, bytes) ∷ []) → h q ≡ f q
    others files stays q other = let q_other = parts q files other in next.1 q q_other.1 ∙ stays q q_other.0

-- one file
pub one_put : (a b : Option Files) (name bytes : List ℕ) → PutsFile a b name bytes → PutsFiles a b ((name, bytes) ∷ [])
one_put a b name bytes put = PutsFiles-more a a b [] name bytes tt (PutsFiles-none a) put

-- two files under different names
pub two_put :
    (a b c : Option Files) (name bytes name' bytes' : List ℕ) → name ≢ name' → PutsFile a b name bytes → PutsFile b c name' bytes'
    → PutsFiles a c ((name, bytes) ∷ (name', bytes') ∷ [])
two_put a b c name bytes name' bytes' differ first second =
    PutsFiles-more a b c ((name, bytes) ∷ []) name' bytes' (λ same. differ (sym same), tt) (one_put a b name bytes first) second

-- ---- a put that is refused

-- what it shows, it shows of all puts up to it
UnputCause-after : (outcome : Outcome) (a b c : Shelf) → OnlyPuts a b → UnputCause outcome b c → UnputCause outcome a c
UnputCause-after WriteFault a b c only cause = (omega (arith, only.writes, cause.0), λ sure. cause.1 (only.sure ∙ sure))
UnputCause-after OutOfMemory a b c only cause = omega (arith, only.write_memory, cause)
UnputCause-after other a b c only cause = absurd cause

module _ (output : Output) (before between after : Shelf) (desk : Desk) (count : ℕ) (part : count < length output.files) (put : PutsFiles before.files between.files (take count output.files)) (kept : KeepsFiles between.files after.files) (only : OnlyPuts before between) where
  unput : IsUnput output (world before desk) (world after desk)
  unput = record {
    count = count;
    part = part;
    files = PutsFiles-kept before.files between.files after.files (take count output.files) put kept;
    desk = refl;
  }

  -- the files that were put before it stand
  pub put_refused : (outcome : Outcome) → UnputCause outcome between after → PutsInTurn outcome output (world before desk) (world after desk)
  put_refused WriteFault cause = inl (unput, UnputCause-after WriteFault before between after only cause)
  put_refused OutOfMemory cause = inl (unput, UnputCause-after OutOfMemory before between after only cause)
  put_refused other cause = absurd cause
