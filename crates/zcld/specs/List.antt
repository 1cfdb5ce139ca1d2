-- What `list` does: it reads an image, and writes its listing, which reads back to the image's segments.
use Rattle.std.specs.Prelude.{◌≡◌, ℕ, ◌⊎◌, List, [], ◌∷◌, Option, Ok}
use Rattle.elf32_read.specs.Segments.{segments_of}
use Rattle.zc_base.specs.declared.mem_map.MemMap.{MemMap}
use Rattle.zc_list.specs.Listing.{list_text}
use Rattle.zc_list.specs.Spelled.{segments_in}
use Rattle.zc_outside.specs.Desk.{OnlyWrites}
use Rattle.zc_outside.specs.Wanted.{Wanted}
use Rattle.zc_outside.specs.World.{World}
use Rattle.zcld.specs.declared.limits.TheConstants.{IMAGE_LIMIT}
use Rattle.zcld.specs.declared.outcome.Outcome.{Outcome}
use Rattle.zcld.specs.declared.outcome.Outcome.TheVariants.{OutOfMemory}
use Rattle.zcld.specs.Puts.{PutsInTurn, text_alone}
use Rattle.zcld.specs.Run.{image_refusal}
use Rattle.zcld.specs.Task.{first_file}

-- an image is read up to its limit
abbrev pub list_wanted : List ℕ → List Wanted
list_wanted image = record { name = image; limit = IMAGE_LIMIT } ∷ []

-- the first fault of the file, an image in the map
abbrev pub list_refusal : MemMap → List (List ℕ) → Option Outcome
list_refusal map files = image_refusal map (first_file files)

-- a text is the listing of an image, and spells the image's segments byte for byte
pub record IsListing (image text : List ℕ) : Type 0 where
  pub lists : text ≡ list_text (segments_of image)
  pub spells : segments_in text ≡ Ok (segments_of image)

-- the listing was written, as far as this outcome says, and the store is unchanged
pub record WritesListing (files : List (List ℕ)) (outcome : Outcome) (before after : World) : Type 0 where
  pub text : List ℕ
  pub listing : IsListing (first_file files) text
  pub printed : PutsInTurn outcome (text_alone text) before after
  pub shelf : after.shelf ≡ before.shelf
  pub desk : OnlyWrites before.desk after.desk

-- the work of `list`: there was no memory for the listing, and nothing was done; or it was written
abbrev pub ListWork : List (List ℕ) → Outcome → World → World → Type 0
ListWork files outcome before after =
    ((outcome ≡ OutOfMemory) × (after ≡ before)) ⊎ WritesListing files outcome before after
