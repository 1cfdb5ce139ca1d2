-- If the first of some instructions can't begin a push, a pop or moves, they begin with none of these
-- (`nothing_begins`).
use Rattle.std.proofs.Common.{◌≡◌, ◌∙◌, ℕ, zero, suc, ◌+◌, List, [], ◌∷◌, Option, Some, None, Bool, true, false, cond, map, refl, sym, ap, arith}
use Rattle.std.specs.List.{slice_get}
use Rattle.std.specs.Option.{is_some, option_and_then, option_map}
use Rattle.std.proofs.lemmas.Bool.{or_parts}
use Rattle.std.proofs.lemmas.Option.{none-some, same_Some}
use Rattle.elf32_read.specs.Parts.{SectionParts, is_code_section}
use Rattle.psabi_sym.specs.Inputs.{ParsedInputs}
use Rattle.psabi_sym.specs.Indexed.{IndexedSection}
use Rattle.rv_decode.specs.declared.instr.Instr.{Instr}
use Rattle.zc_base.specs.declared.place.Place.{Place}
use Rattle.block_cut.specs.Items.{code_at, index_on, item_at, place_of, starts_in, starts_on}
use Rattle.block_cut.specs.declared.code_place.CodePlace.{CodePlace}
use Rattle.block_cut.proofs.OrderLaws.{none_there}
use Rattle.frame_match.specs.Groups.{group_role, items_behind, may_have_groups, op_then, ops_behind, ops_from, role_at, role_on, roles_from, roles_in, spot_on}
use Rattle.frame_match.specs.Matches.{before, either_pair, is_begun, longest_of, moves_in}
use Rattle.frame_match.specs.Read.{slot_accessed, is_zero, is_zero_instr, lowered, move_of, moved, op_of, slot_of}
use Rattle.frame_match.specs.Invariants.Frames.{IsSlot}
use Rattle.frame_match.specs.Invariants.Kinds.{IsPop, IsPush, longer_or}
use Rattle.frame_match.specs.Invariants.Runs.{ArePlacesOf, begins_with, op_in, run_from, spots_of}
use Rattle.frame_match.specs.declared.found.Ending.{Ending}
use Rattle.frame_match.specs.declared.found.Ending.TheVariants.{GoesOn, Returns, ZeroFirst, ZeroBeforeRaise, ZeroBeforeReturn}
use Rattle.frame_match.specs.declared.found.Found.{Found}
use Rattle.frame_match.specs.declared.role.Role.{Role}
use Rattle.frame_match.specs.declared.role.Role.TheVariants.{Alone}
use Rattle.frame_match.specs.declared.slot.Access.TheVariants.{Restores}
use Rattle.frame_match.proofs.FoundLaws.{longest_split, pop_longest, push_longest}
use Rattle.frame_match.proofs.RunLaws.{spot_op}

-- an instruction that can't begin a group: it doesn't lower sp, restore a register, move one or set a0 to 0
record BeginsNothing (i : Option Instr) : Type 0 where
  lowers : lowered i ≡ None
  loads : slot_accessed Restores i ≡ None
  moves : moved i ≡ None
  zero : is_zero i ≡ false

begins_nothing : (i : Option Instr) → begins_with i ≡ false → BeginsNothing i
begins_nothing None h = record { lowers = refl; loads = refl; moves = refl; zero = refl }
begins_nothing (Some i) h =
    let one = or_parts (is_some (slot_of Restores i)) _ h in
    let two = or_parts (is_some (move_of i)) _ one.1 in
    let three = or_parts (is_some (lowered (Some i))) (is_zero_instr i) two.1 in
    record {
      lowers = none_there (lowered (Some i)) three.0;
      loads = none_there (slot_of Restores i) one.0;
      moves = none_there (move_of i) two.0;
      zero = three.1;
    }

module _ (is : List Instr) (nothing : BeginsNothing (slice_get is 0)) where
  no_push : (g : Found) → IsPush is g → ⊥
  no_push g p = none-some p.bytes (sym nothing.lowers ∙ p.lowers)

  no_pop : (g : Found) → IsPop is g → ⊥
  no_pop g p = by p.ending p.begun (p.framed.there.each 0 (let s = p.known.small in omega (arith, s)))
    where
      first : (j : ℕ) → IsSlot Restores p.bytes p.left_out j (slice_get is 0) → ⊥
      first j h = none-some _ (sym nothing.loads ∙ h.1)

      by : (e : Ending) → is_begun e is ≡ true → (j : ℕ) × IsSlot Restores p.bytes p.left_out j (slice_get is (before e + 0)) → ⊥
      by GoesOn begun h = first h.0 h.1
      by Returns begun h = first h.0 h.1
      by ZeroFirst begun h = absurd (let zero = nothing.zero in cc (zero, begun))
      by ZeroBeforeRaise begun h = first h.0 h.1
      by ZeroBeforeReturn begun h = first h.0 h.1

  none_found : longest_of is ≡ None
  none_found =
      let pushes = push_longest is None tt (λ g p. absurd (no_push g p)) in
      let pops = pop_longest is None tt (λ g p. absurd (no_pop g p)) in
      let moves : moves_in is ≡ None = ap (λ m. option_map (λ kind. record { items = 2; kind = kind; rest = 0 }) (either_pair m (moved (slice_get is 1)))) nothing.moves in
      longest_split is ∙ (λ j. longer_or (longer_or (pushes j) (pops j)) (moves j))

nothing_begins : (is : List Instr) → begins_with (slice_get is 0) ≡ false → longest_of is ≡ None
nothing_begins is h = none_found is (begins_nothing (slice_get is 0) h)

-- ---- at a place

-- the first instruction of a run is the instruction of its first place
first_op : (inputs : ParsedInputs) (l : IndexedSection) → may_have_groups inputs l.object l.index ≡ true → (ps : List CodePlace) → ArePlacesOf inputs l ps → begins_with (option_and_then op_in (slice_get ps 0)) ≡ false
    → begins_with (slice_get (run_from (spots_of inputs l ps)) 0) ≡ false
first_op inputs l has [] are h = refl
first_op inputs l has (p ∷ ps) are h = by (spot_on inputs l p.offset).op (ap op_in (are 0 p refl) ∙ sym (spot_op inputs l p.offset has)) h
  where
    rest : List Instr
    rest = ops_behind (spots_of inputs l ps)

    by : (o : Option Instr) → op_in p ≡ o → begins_with (op_in p) ≡ false → begins_with (slice_get (op_then o rest) 0) ≡ false
    by None same h = refl
    by (Some i) same h = ap begins_with (sym same) ∙ h

pub nothing_at : (inputs : ParsedInputs) (l : IndexedSection) → may_have_groups inputs l.object l.index ≡ true → (ps : List CodePlace) → ArePlacesOf inputs l ps
    → begins_with (option_and_then op_in (slice_get ps 0)) ≡ false → longest_of (run_from (spots_of inputs l ps)) ≡ None
nothing_at inputs l has ps are h = nothing_begins (run_from (spots_of inputs l ps)) (first_op inputs l has ps are h)

-- where a section may have no groups, none begins
pub nothing_without : (inputs : ParsedInputs) (l : IndexedSection) (ps : List CodePlace) → may_have_groups inputs l.object l.index ≡ false
    → longest_of (run_from (spots_of inputs l ps)) ≡ None
nothing_without inputs l ps lacks = ap longest_of (by ps) ∙ nothing_begins [] refl
  where
    by : (ps : List CodePlace) → run_from (spots_of inputs l ps) ≡ []
    by [] = refl
    by (p ∷ ps) =
        ap (λ b. op_then (cond b (option_and_then op_of (item_at inputs (place_of l p.offset))) None) (ops_behind (spots_of inputs l ps))) lacks

-- and each of its items is written by itself
alone_without : (inputs : ParsedInputs) (l : IndexedSection) → may_have_groups inputs l.object l.index ≡ false → (ns : List ℕ) → roles_from 0 (map (spot_on inputs l) ns) ≡ map (λ n. Alone) ns
alone_without inputs l lacks [] = refl
alone_without inputs l lacks (n ∷ ns) =
    let spot = spot_on inputs l n in
    let rest = map (spot_on inputs l) ns in
    let none : longest_of (ops_from spot rest) ≡ None =
    ap (λ b. longest_of (op_then (cond b (option_and_then op_of (item_at inputs (place_of l n))) None) (ops_behind rest))) lacks ∙ nothing_begins [] refl in
    ap (λ o. group_role spot.place o ∷ roles_from (items_behind (group_role spot.place o)) rest) none ∙ ap (λ rs. Alone ∷ rs) (alone_without inputs l lacks ns)

pub role_without : (inputs : ParsedInputs) (q : Place) (r : Role) → may_have_groups inputs q.object q.section ≡ false → role_at inputs q ≡ Some r → r ≡ Alone
unfolding role_at roles_in
role_without inputs q r lacks is = section (code_at inputs.objects q) is
  where
    alone : (ns : List ℕ) (k : ℕ) → slice_get (map (λ n. Alone) ns) k ≡ Some r → r ≡ Alone
    alone [] k got = absurd (none-some r got)
    alone (n ∷ ns) zero got = sym (same_Some Alone r got)
    alone (n ∷ ns) (suc k) got = alone ns k got

    own : SectionParts → IndexedSection
    own s = record { object = q.object; index = q.section; section = s }

    code : (s : SectionParts) (b : Bool) → slice_get (cond b (roles_from 0 (map (spot_on inputs (own s)) (starts_in s))) []) (index_on s q.offset) ≡ Some r → r ≡ Alone
    code s true got = alone (starts_in s) (index_on s q.offset) (ap (λ (rs : List Role). slice_get rs (index_on s q.offset)) (sym (alone_without inputs (own s) lacks (starts_in s))) ∙ got)
    code s false got = absurd (none-some r got)

    start : (s : SectionParts) (b : Bool) → cond b (slice_get (roles_in inputs (own s)) (index_on s q.offset)) None ≡ Some r → r ≡ Alone
    start s true got = code s (is_code_section s) got
    start s false got = absurd (none-some r got)

    section : (o : Option SectionParts) → option_and_then (role_on inputs q) o ≡ Some r → r ≡ Alone
    section None got = absurd (none-some r got)
    section (Some s) got = start s (starts_on s q.offset) got
