-- What each fault of a listing's text means.
use Rattle.std.specs.Prelude.{◌≡◌, ◌<◌, ℕ, zero, suc, ◌-◌, ◌==◌, if◌then◌else◌, List, [], ◌∷◌, length, All, Err}
use Rattle.elf32_read.specs.Segments.{SegmentData}
use Rattle.zc_list.specs.Listing.{FitsSegment, list_text}
use Rattle.zc_list.specs.Spelled.{segments_in}
use Rattle.zc_list.specs.declared.fault.ListFault.{ListFault}
use Rattle.zc_list.specs.declared.fault.ListFault.TheVariants.{BadLine, OutOfMemory, TooLarge}

-- the first lines of a text, with their line feeds
abbrev pub front : ℕ → List ℕ → List ℕ
front zero text = []
front (suc n) [] = []
front (suc n) (c ∷ cs) = c ∷ (if c == 10 then front n cs else front (suc n) cs)

-- some segments' listing begins with the first n lines of the text
abbrev pub StartsListing : List ℕ → ℕ → Type 0
StartsListing text n = (segments : List SegmentData) × All FitsSegment segments × (front n (list_text segments) ≡ front n text)

-- the line with this number, counted from 1, is the first that no listing has after the lines before it
pub record IsFirstBad (text : List ℕ) (number : ℕ) : Type 0 where
  pub counted : 0 < number
  pub good_before : StartsListing text (number - 1)
  pub bad : StartsListing text number → ⊥

-- a line is bad if it is the first that is; memory may run out at any text
pub data IsListFault (text : List ℕ) : ListFault → Type 0 where
  bad_line : (number : ℕ) → segments_in text ≡ Err number → IsFirstBad text number → IsListFault text (BadLine number)
  large : 268435456 < length text → IsListFault text TooLarge
  memory : IsListFault text OutOfMemory
