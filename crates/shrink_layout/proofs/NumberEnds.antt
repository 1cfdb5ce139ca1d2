-- Numbers at the ends of sections: a section's start has the number after its padding's, and its end that of the next section's padding.
use Rattle.std.proofs.Common.{◌≡◌, ℕ, ◌+◌, ◌≤◌, List, [], ◌∷◌, length, cond, true, Option, Some, ap, arith}
use Rattle.std.specs.List.{sum_by}
use Rattle.std.proofs.lemmas.List.Sums.{sum_by-append, sum_by-cons}
use Rattle.zc_base.specs.declared.place.Place.{Place}
use Rattle.elf32_read.specs.Parts.{ObjectParts, SectionParts, is_code_section}
use Rattle.psabi_sym.specs.Inputs.{ParsedInputs}
use Rattle.psabi_sym.specs.Indexed.{section_at, sections_before}
use Rattle.block_cut.specs.Items.{starts_in}
use Rattle.block_cut.specs.Whole.{IsWhole}
use Rattle.block_cut.proofs.ListedLaws.{before_more, listed}
use Rattle.block_cut.proofs.StartLaws.{before_end_all, before_first_none}
use Rattle.shrink_layout.specs.Pieces.{piece_count, pieces_before, pieces_of}
use Rattle.shrink_layout.proofs.NumberLaws.{before_most}

-- the number of the padding before a section
abbrev pub padding_number : List ObjectParts → ℕ → ℕ → ℕ
padding_number objects o i = 1 + sum_by piece_count (sections_before objects o i)

module _ (objects : List ObjectParts) (o i : ℕ) (s : SectionParts) (found : section_at objects o i ≡ Some s) where
  -- the padding of the next section comes after this section's pieces
  pub padding_number-next : padding_number objects o (i + 1) ≡ padding_number objects o i + piece_count (listed o i s)
  padding_number-next =
      omega (
        arith,
        ap (sum_by piece_count) (before_more objects o i s found),
        sum_by-append piece_count (sections_before objects o i) (listed o i s ∷ []),
        sum_by-cons piece_count (listed o i s) [],
      )

  module _ (code : is_code_section s ≡ true) (whole : IsWhole s) where
    -- a section's start has the number after the padding
    pub number-start : pieces_before objects o i s 0 ≡ padding_number objects o i + 1
    number-start = omega (arith, ap length (before_first_none s code whole))

    -- the end of a section has the number of the next section's padding
    pub number-end : pieces_before objects o i s (length s.bytes) ≡ padding_number objects o (i + 1)
    number-end =
        let own : piece_count (listed o i s) ≡ 1 + length (starts_in s) = ap (λ b. cond b (1 + length (starts_in s)) 0) code in
        omega (arith, ap length (before_end_all s code whole), padding_number-next, own)

-- the number of a section's start isn't beyond the list
pub start_within :
    (inputs : ParsedInputs) (slots : List (Option Place)) (o i : ℕ) (s : SectionParts) → section_at inputs.objects o i ≡ Some s → is_code_section s ≡ true
    → IsWhole s → padding_number inputs.objects o i + 1 ≤ length (pieces_of inputs slots)
start_within inputs slots o i s found code whole = omega (arith, number-start inputs.objects o i s found code whole, before_most inputs slots o i s 0 found code)
