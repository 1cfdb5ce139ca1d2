-- The longest group that instructions begin with depends only on the first 16 of them.
use Rattle.std.proofs.Common.{◌≡◌, ◌∙◌, ℕ, ◌+◌, ◌-◌, ◌≤◌, List, [], ◌∷◌, ◌++◌, Option, Some, None, Bool, true, false, cond, length, take, drop, eqb, refl, sym, ap, arith}
use Rattle.std.specs.Prelude.{◌&&◌}
use Rattle.std.specs.List.{flat_map, fold, slice_get}
use Rattle.std.specs.Option.{option_map, option_map_or, option_to_list}
use Rattle.std.proofs.lemmas.List.{drop-take, length-drop, take-take}
use Rattle.rv_decode.specs.declared.instr.Instr.{Instr}
use Rattle.zc_decode.specs.Lists.{registers_of, saved_registers}
use Rattle.frame_match.specs.declared.found.Ending.{Ending}
use Rattle.frame_match.specs.declared.found.Ending.TheVariants.{GoesOn, Returns, ZeroFirst, ZeroBeforeRaise, ZeroBeforeReturn}
use Rattle.frame_match.specs.declared.slot.Access.{Access}
use Rattle.frame_match.specs.declared.slot.Access.TheVariants.{Restores, Saves}
use Rattle.frame_match.specs.Matches.{are_accesses, before, either_pair, endings, frame_at, frame_by, has_accesses, is_begun, is_frame, lists, longer_of, longest_of, moves_in, pop_by, pop_in, pop_of, pops_in, push_in, push_of, pushes_in, slots_below}
use Rattle.frame_match.specs.Read.{is_zero, lowered, moved}
use Rattle.frame_match.proofs.MemberLaws.{flat_map_same, get_take}

regs_few : (list : ℕ) → length (registers_of list) ≤ 13
regs_few list = by (eqb list 15)
  where
    by : (b : Bool) → length (cond b saved_registers (drop (16 - list) saved_registers)) ≤ 13
    by true = omega arith
    by false = let e : length (drop (16 - list) saved_registers) ≡ 13 - (16 - list) = length-drop (16 - list) saved_registers in omega (arith, e)

part_taken : (is : List Instr) (n k : ℕ) → n + k ≤ 16 → take k (drop n (take 16 is)) ≡ take k (drop n is)
part_taken is n k h =
    let e : 16 ≡ n + (16 - n) = omega (arith, h) in
    ap (λ m. take k (drop n (take m is))) e ∙ ap (take k) (drop-take n (16 - n) is) ∙ take-take k (16 - n) (drop n is) (omega (arith, h))

has_taken : (which : Access) (list bytes : ℕ) (is : List Instr) (n : ℕ) → n ≤ 1 → has_accesses which list bytes (take 16 is) n ≡ has_accesses which list bytes is n
has_taken which list bytes is n h =
    ap (are_accesses which (slots_below bytes (registers_of list))) (part_taken is n (length (registers_of list)) (let f = regs_few list in omega (arith, f, h)))

pushes_taken : (is : List Instr) → pushes_in (take 16 is) ≡ pushes_in is
pushes_taken is =
    ap (λ o. option_map_or (λ bytes. flat_map (λ list. push_in (take 16 is) list bytes) lists) (lowered o) []) (get_take 16 is 0 (omega arith)) ∙ by (lowered (slice_get is 0))
  where
    one : (bytes list : ℕ) → push_in (take 16 is) list bytes ≡ push_in is list bytes
    one bytes list = ap (λ b. cond (is_frame list bytes && b) (push_of list bytes ∷ []) []) (has_taken Saves list bytes is 1 (omega arith))

    by : (o : Option ℕ) → option_map_or (λ bytes. flat_map (λ list. push_in (take 16 is) list bytes) lists) o [] ≡ option_map_or (λ bytes. flat_map (λ list. push_in is list bytes) lists) o []
    by None = refl
    by (Some bytes) = flat_map_same (λ list. push_in (take 16 is) list bytes) (λ list. push_in is list bytes) (one bytes) lists

frame_taken : (e : Ending) (is : List Instr) (k : ℕ) → k ≤ 13 → frame_at e (take 16 is) (before e + k) ≡ frame_at e is (before e + k)
frame_taken GoesOn is k h = λ i. frame_by GoesOn (get_take 16 is (0 + k) (omega (arith, h)) i) (get_take 16 is (0 + k + 1) (omega (arith, h)) i) (get_take 16 is (0 + k + 2) (omega (arith, h)) i)
frame_taken Returns is k h = λ i. frame_by Returns (get_take 16 is (0 + k) (omega (arith, h)) i) (get_take 16 is (0 + k + 1) (omega (arith, h)) i) (get_take 16 is (0 + k + 2) (omega (arith, h)) i)
frame_taken ZeroFirst is k h = λ i. frame_by ZeroFirst (get_take 16 is (1 + k) (omega (arith, h)) i) (get_take 16 is (1 + k + 1) (omega (arith, h)) i) None
frame_taken ZeroBeforeRaise is k h = λ i. frame_by ZeroBeforeRaise (get_take 16 is (0 + k) (omega (arith, h)) i) (get_take 16 is (0 + k + 1) (omega (arith, h)) i) (get_take 16 is (0 + k + 2) (omega (arith, h)) i)
frame_taken ZeroBeforeReturn is k h = λ i. frame_by ZeroBeforeReturn (get_take 16 is (0 + k) (omega (arith, h)) i) (get_take 16 is (0 + k + 1) (omega (arith, h)) i) (get_take 16 is (0 + k + 2) (omega (arith, h)) i)

begun_taken : (e : Ending) (is : List Instr) → is_begun e (take 16 is) ≡ is_begun e is
begun_taken GoesOn is = refl
begun_taken Returns is = refl
begun_taken ZeroFirst is = ap is_zero (get_take 16 is 0 (omega arith))
begun_taken ZeroBeforeRaise is = refl
begun_taken ZeroBeforeReturn is = refl

before_few : (e : Ending) → before e ≤ 1
before_few GoesOn = omega arith
before_few Returns = omega arith
before_few ZeroFirst = omega arith
before_few ZeroBeforeRaise = omega arith
before_few ZeroBeforeReturn = omega arith

pops_taken : (is : List Instr) → pops_in (take 16 is) ≡ pops_in is
pops_taken is =
    flat_map_same (λ list. flat_map (pop_in (take 16 is) list) endings) (λ list. flat_map (pop_in is list) endings)
    (λ list. flat_map_same (pop_in (take 16 is) list) (pop_in is list) (one list) endings) lists
  where
    by_one : (list : ℕ) (e : Ending) (bytes : ℕ) → pop_by (take 16 is) list e bytes ≡ pop_by is list e bytes
    by_one list e bytes = λ i. cond (begun_taken e is i && (is_frame list bytes && has_taken Restores list bytes is (before e) (before_few e) i)) (pop_of e list bytes ∷ []) []

    by : (list : ℕ) (e : Ending) (o : Option ℕ) → option_map_or (pop_by (take 16 is) list e) o [] ≡ option_map_or (pop_by is list e) o []
    by list e None = refl
    by list e (Some bytes) = by_one list e bytes

    one : (list : ℕ) (e : Ending) → pop_in (take 16 is) list e ≡ pop_in is list e
    one list e =
        ap (λ o. option_map_or (pop_by (take 16 is) list e) o []) (frame_taken e is (length (registers_of list)) (regs_few list))
        ∙ by list e (frame_at e is (before e + length (registers_of list)))

moves_taken : (is : List Instr) → moves_in (take 16 is) ≡ moves_in is
moves_taken is = λ i. option_map (λ kind. record { items = 2; kind = kind; rest = 0 }) (either_pair (moved (get_take 16 is 0 (omega arith) i)) (moved (get_take 16 is 1 (omega arith) i)))

longest_taken : (is : List Instr) → longest_of (take 16 is) ≡ longest_of is
unfolding longest_of
longest_taken is = λ i. fold longer_of None (pushes_taken is i ++ (pops_taken is i ++ option_to_list (moves_taken is i)))

-- runs that are the same up to the length of the longest group begin with the same group
pub longest_same : (xs ys : List Instr) → take 16 xs ≡ take 16 ys → longest_of xs ≡ longest_of ys
longest_same xs ys h = sym (longest_taken xs) ∙ ap longest_of h ∙ longest_taken ys
