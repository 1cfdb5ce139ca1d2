-- Laws of rows of sections: what a class takes grows by a row that is of the class, and its room is a sum over all rows.
use Rattle.std.proofs.Common.{◌≡◌, ℕ, ◌+◌, ◌<◌, ◌≤◌, Bool, true, false, cond, List, [], ◌∷◌, ◌++◌, length, get_or, take, max, refl, sym, ap, ◌∙◌, arith, map, filter, slice_get, Some}
use Rattle.std.specs.List.{sum_by}
use Rattle.std.proofs.lemmas.List.{append-nil, map-append}
use Rattle.std.proofs.lemmas.Bool.{cond-false, cond-true}
use Rattle.std.proofs.lemmas.List.Elements.{filter_more}
use Rattle.std.proofs.lemmas.List.Sums.{sum_by-cons, sum_by_more_le}
use Rattle.psabi_sym.specs.declared.data_class.DataClass.{DataClass}
use Rattle.psabi_sym.specs.declared.section_row.SectionRow.{SectionRow}
use Rattle.psabi_sym.specs.Blocks.{aligned_up, end_from, room_of, room_of_all}
use Rattle.psabi_sym.specs.Data.{has_class}
use Rattle.psabi_sym.specs.Classes.{same_class}
use Rattle.psabi_sym.specs.declared.data_class.DataClass.TheVariants.{ReadOnly, Data, SmallData, SmallZero, Zero, Common}
use Rattle.psabi_sym.specs.declared.section_row.SectionRole.{SectionRole}
use Rattle.psabi_sym.specs.declared.section_row.SectionRole.TheVariants.{Code, InClass, Dropped}
use Rattle.psabi_sym.specs.Invariants.Rows.{AreAddressed, role_room, row_address, row_block, row_blocks, row_data_room, row_end, row_start}
use Rattle.psabi_sym.proofs.BlockLaws.{aligned_up-lt, end_from_fits, end_from_push}

-- the room that a row takes in a class
abbrev pub class_room : DataClass → SectionRow → ℕ
class_room class r = cond (has_class class r.role) (room_of (row_block r)) 0

-- the room of a class is a sum over all rows
pub rooms_are : (class : DataClass) (rows : List SectionRow) → room_of_all (row_blocks class rows) ≡ sum_by (class_room class) rows
rooms_are class [] = refl
rooms_are class (r ∷ rows) = by (rooms_are class rows) (has_class class r.role) refl
  where
    by : room_of_all (row_blocks class rows) ≡ sum_by (class_room class) rows → (b : Bool) → has_class class r.role ≡ b → room_of_all (row_blocks class (r ∷ rows)) ≡ sum_by (class_room class) (r ∷ rows)
    by rest true is =
        ap (λ b. room_of_all (map row_block (cond b (r ∷ filter (λ s. has_class class s.role) rows) (filter (λ s. has_class class s.role) rows)))) is
        ∙ sum_by-cons room_of (row_block r) (row_blocks class rows)
        ∙ (λ i. cond (sym is i) (room_of (row_block r)) 0 + rest i)
        ∙ sym (sum_by-cons (class_room class) r rows)
    by rest false is =
        ap (λ b. room_of_all (map row_block (cond b (r ∷ filter (λ s. has_class class s.role) rows) (filter (λ s. has_class class s.role) rows)))) is
        ∙ rest
        ∙ (omega (arith, ap (λ b. cond b (room_of (row_block r)) 0) is, sum_by-cons (class_room class) r rows))

-- one row more
pub row_blocks_more : (class : DataClass) (rows : List SectionRow) (k : ℕ) (d : SectionRow) → k < length rows
    → row_blocks class (take (k + 1) rows) ≡ row_blocks class (take k rows) ++ cond (has_class class (get_or rows k d).role) (row_block (get_or rows k d) ∷ []) []
row_blocks_more class rows k d within =
    ap (map row_block) (filter_more (λ s. has_class class s.role) rows k d within)
    ∙ map-append row_block (filter (λ s. has_class class s.role) (take k rows)) _
    ∙ by (get_or rows k d) (has_class class (get_or rows k d).role)
  where
    by : (r : SectionRow) (b : Bool) → row_blocks class (take k rows) ++ map row_block (cond b (r ∷ []) []) ≡ row_blocks class (take k rows) ++ cond b (row_block r ∷ []) []
    by r true = refl
    by r false = refl

-- where a class ends so far, and one more of its rows, fit in the room of the class
pub fits_here : (class : DataClass) (start : ℕ) (rows : List SectionRow) (k : ℕ) (d : SectionRow) → k < length rows → has_class class (get_or rows k d).role ≡ true
    → end_from start (row_blocks class (take k rows)) + (get_or rows k d).size + max 1 (get_or rows k d).align ≤ start + room_of_all (row_blocks class rows)
fits_here class start rows k d within has =
    let here : class_room class (get_or rows k d) ≡ (get_or rows k d).size + max 1 (get_or rows k d).align = ap (λ b. cond b (room_of (row_block (get_or rows k d))) 0) has in
    omega (arith, end_from_fits start (row_blocks class (take k rows)), rooms_are class (take k rows), rooms_are class rows, sum_by_more_le (class_room class) rows k d within)

-- where a class ends after one more row, of it or not
pub end_more : (class : DataClass) (start : ℕ) (rows : List SectionRow) (k : ℕ) (d : SectionRow) → k < length rows → has_class class (get_or rows k d).role ≡ true
    → aligned_up (get_or rows k d).align (end_from start (row_blocks class (take k rows))) + (get_or rows k d).size ≡ end_from start (row_blocks class (take (k + 1) rows))
end_more class start rows k d within has =
    sym (ap (end_from start) (row_blocks_more class rows k d within ∙ ap (λ b. row_blocks class (take k rows) ++ cond b (row_block (get_or rows k d) ∷ []) []) has)
    ∙ end_from_push start (row_blocks class (take k rows)) (row_block (get_or rows k d)))

pub end_same : (class : DataClass) (start : ℕ) (rows : List SectionRow) (k : ℕ) (d : SectionRow) → k < length rows → has_class class (get_or rows k d).role ≡ false
    → end_from start (row_blocks class (take k rows)) ≡ end_from start (row_blocks class (take (k + 1) rows))
end_same class start rows k d within has =
    sym (ap (end_from start) (row_blocks_more class rows k d within ∙ ap (λ b. row_blocks class (take k rows) ++ cond b (row_block (get_or rows k d) ∷ []) []) has ∙ append-nil (row_blocks class (take k rows))))

-- a class goes no further than its room from 16 bytes on
pub row_end-le : (rows : List SectionRow) (at : ℕ) (class : DataClass) → row_end rows at class < at + 16 + room_of_all (row_blocks class rows)
row_end-le rows at class = omega (arith, aligned_up-lt 16 at, end_from_fits (aligned_up 16 at) (row_blocks class rows))

-- a section has room in one class at most
one_class : (role : SectionRole) (n : ℕ)
    → cond (has_class ReadOnly role) n 0 + cond (has_class Data role) n 0 + cond (has_class SmallData role) n 0 + cond (has_class SmallZero role) n 0 + cond (has_class Zero role) n 0 ≤ role_room role n
one_class Code n = omega arith
one_class (InClass ReadOnly) n = omega arith
one_class (InClass Data) n = omega arith
one_class (InClass SmallData) n = omega arith
one_class (InClass SmallZero) n = omega arith
one_class (InClass Zero) n = omega arith
one_class (InClass Common) n = omega arith
one_class Dropped n = omega arith

-- the rooms of the classes are no more than the room of all sections
class_sums : (rows : List SectionRow)
    → sum_by (class_room ReadOnly) rows + sum_by (class_room Data) rows + sum_by (class_room SmallData) rows + sum_by (class_room SmallZero) rows + sum_by (class_room Zero) rows
    ≤ sum_by row_data_room rows
class_sums [] = omega arith
class_sums (r ∷ rs) =
    omega (
      arith,
      sum_by-cons (class_room ReadOnly) r rs,
      sum_by-cons (class_room Data) r rs,
      sum_by-cons (class_room SmallData) r rs,
      sum_by-cons (class_room SmallZero) r rs,
      sum_by-cons (class_room Zero) r rs,
      sum_by-cons row_data_room r rs,
      one_class r.role (room_of (row_block r)),
      class_sums rs,
    )

pub class_rooms : (rows : List SectionRow)
    → room_of_all (row_blocks ReadOnly rows) + room_of_all (row_blocks Data rows) + room_of_all (row_blocks SmallData rows) + room_of_all (row_blocks SmallZero rows) + room_of_all (row_blocks Zero rows)
    ≤ sum_by row_data_room rows
class_rooms rows = omega (arith, rooms_are ReadOnly rows, rooms_are Data rows, rooms_are SmallData rows, rooms_are SmallZero rows, rooms_are Zero rows, class_sums rows)

-- a table after a class was placed
abbrev pub IsTable : List SectionRow → ℕ → DataClass → List ℕ → List ℕ → Type 0
IsTable rows at class old new =
    (k : ℕ) (r : SectionRow) → slice_get rows k ≡ Some r → get_or new k 0 ≡ cond (has_class class r.role) (row_address class (aligned_up 16 at) rows k r) (get_or old k 0)

-- a table after all of them
pub placed_all : (rows : List SectionRow) (low : ℕ) (a0 a1 a2 a3 a4 a5 : List ℕ)
    → IsTable rows low ReadOnly a0 a1
    → IsTable rows (row_end rows low ReadOnly) Data a1 a2
    → IsTable rows (row_end rows (row_end rows low ReadOnly) Data) SmallData a2 a3
    → IsTable rows (row_end rows (row_end rows (row_end rows low ReadOnly) Data) SmallData) SmallZero a3 a4
    → IsTable rows (row_end rows (row_end rows (row_end rows (row_end rows low ReadOnly) Data) SmallData) SmallZero) Zero a4 a5
    → AreAddressed rows low a5
placed_all rows low a0 a1 a2 a3 a4 a5 h1 h2 h3 h4 h5 k r class at = by class
  where
    by : (class : DataClass) → r.role ≡ InClass class → same_class class Common ≡ false → get_or a5 k 0 ≡ row_address class (row_start rows low class) rows k r
    by ReadOnly is other =
        h5 k r at ∙ cond-false _ _ _ (ap (has_class Zero) is) ∙ h4 k r at ∙ cond-false _ _ _ (ap (has_class SmallZero) is)
        ∙ h3 k r at ∙ cond-false _ _ _ (ap (has_class SmallData) is) ∙ h2 k r at ∙ cond-false _ _ _ (ap (has_class Data) is)
        ∙ h1 k r at ∙ cond-true _ _ _ (ap (has_class ReadOnly) is)
    by Data is other =
        h5 k r at ∙ cond-false _ _ _ (ap (has_class Zero) is) ∙ h4 k r at ∙ cond-false _ _ _ (ap (has_class SmallZero) is)
        ∙ h3 k r at ∙ cond-false _ _ _ (ap (has_class SmallData) is) ∙ h2 k r at ∙ cond-true _ _ _ (ap (has_class Data) is)
    by SmallData is other =
        h5 k r at ∙ cond-false _ _ _ (ap (has_class Zero) is) ∙ h4 k r at ∙ cond-false _ _ _ (ap (has_class SmallZero) is)
        ∙ h3 k r at ∙ cond-true _ _ _ (ap (has_class SmallData) is)
    by SmallZero is other =
        h5 k r at ∙ cond-false _ _ _ (ap (has_class Zero) is) ∙ h4 k r at ∙ cond-true _ _ _ (ap (has_class SmallZero) is)
    by Zero is other = h5 k r at ∙ cond-true _ _ _ (ap (has_class Zero) is)
    by Common is other = absurd cc
