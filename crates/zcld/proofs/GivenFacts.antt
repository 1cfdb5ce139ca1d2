-- What is known of texts that a command may be given: which file is which, and how reading them ends.
use Rattle.std.proofs.Common.{◌≡◌, ◌++◌, ℕ, List, [], ◌∷◌, Option, Some, None, refl, sym, ap, append-nil}
use Rattle.std.proofs.lemmas.Option.{none-some}
use Rattle.zc_outside.specs.Shelf.{Shelf}
use Rattle.zc_outside.specs.Wanted.{AreRead, ReadsAll, Wanted}
use Rattle.zc_outside.proofs.Wanted.{AreRead-append, AreUnread-front, AreUnread-rest, KeepsFiles-AreRead}
use Rattle.zcld.specs.Given.{IsGiven, text_file}
use Rattle.zcld.specs.Objects.{last_file, objects_before}
use Rattle.zcld.specs.Task.{UnreadCause}
use Rattle.zcld.specs.Trace.{trace_texts}
use Rattle.zcld.specs.declared.outcome.Outcome.{Outcome}
use Rattle.zcld.specs.declared.outcome.Outcome.TheVariants as outcome

-- ---- which file is which

pub objects_are : (objects : List (List ℕ)) (text : List ℕ) → objects_before (objects ++ text ∷ []) ≡ objects
objects_are [] text = refl
objects_are (o ∷ []) text = refl
objects_are (o ∷ (p ∷ objects)) text = ap (λ os. o ∷ os) (objects_are (p ∷ objects) text)

pub last_is : (objects : List (List ℕ)) (text : List ℕ) → last_file (objects ++ text ∷ []) ≡ text
last_is [] text = refl
last_is (o ∷ []) text = refl
last_is (o ∷ (p ∷ objects)) text = last_is (p ∷ objects) text

pub trace_files :
    (name : Option (List ℕ)) (objects : List (List ℕ)) (text : Option (List ℕ)) → IsGiven name text →
    trace_texts name (objects ++ text_file text) ≡ record { objects = objects; devices = text }
trace_files None objects None given = ap (λ (os : List (List ℕ)). record { objects = os; devices = None }) (append-nil objects)
trace_files None objects (Some bytes) given = absurd (none-some bytes (sym given))
trace_files (Some name) objects None given = absurd (none-some given.0 given.1)
trace_files (Some name) objects (Some bytes) given = λ i. record { objects = objects_are objects bytes i; devices = Some (last_is objects bytes i) }

-- ---- files that are read after others

module _ (first rest : List Wanted) where
  -- the first files can't be had, so not all can
  pub front_unread : (before after : Shelf) (o : Outcome) → UnreadCause first before after o → UnreadCause (first ++ rest) before after o
  front_unread before after outcome.ReadFault cause = AreUnread-front first rest before after cause
  front_unread before after outcome.OutOfMemory cause = tt
  front_unread before after other cause = absurd cause

  module _ (before between after : Shelf) (was : ReadsAll first before between) where
    -- the files after them can't be had
    pub rest_unread : (o : Outcome) → UnreadCause rest between after o → UnreadCause (first ++ rest) before after o
    rest_unread outcome.ReadFault cause = AreUnread-rest first rest before between after was cause
    rest_unread outcome.OutOfMemory cause = tt
    rest_unread other cause = absurd cause

    -- all were read
    pub rest_read :
        (bytes others : List (List ℕ)) → AreRead before.files first bytes → AreRead between.files rest others → AreRead before.files (first ++ rest) (bytes ++ others)
    rest_read bytes others read next =
        AreRead-append before.files first rest bytes others read (KeepsFiles-AreRead before.files between.files rest others was.files next)
