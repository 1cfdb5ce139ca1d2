-- What other crates need to know of groups: a group has 2 to 16 items, all in its section; the items after its first
-- are inside it, and no basic block begins at these.
use Prim.Native.Nat.{zero}
use Rattle.std.proofs.Common.{◌≡◌, ◌∙◌, ℕ, suc, ◌+◌, ◌-◌, ◌<◌, ◌≤◌, List, [], ◌∷◌, ◌++◌, Option, Some, None, Bool, true, false, cond, drop, length, map, ltb, refl, sym, ap, arith, subst, inl, inr}
use Rattle.std.specs.Prelude.{◌⊎◌, ◌&&◌}
use Rattle.std.specs.List.{fold, slice_get}
use Rattle.std.specs.Option.{is_some, option_map, option_to_list}
use Rattle.std.proofs.lemmas.Bool.{and_parts}
use Rattle.std.proofs.lemmas.Option.{none-some, same_Some}
use Rattle.zc_base.proofs.ListLaws.{get_map}
use Rattle.elf32_read.specs.Parts.{is_code_section}
use Rattle.psabi_sym.specs.Inputs.{ParsedInputs}
use Rattle.psabi_sym.specs.Indexed.{IndexedSection}
use Rattle.rv_decode.specs.declared.instr.Instr.{Instr}
use Rattle.zc_decode.specs.declared.short.Short.{Short}
use Rattle.block_cut.specs.Items.{place_of, starts_in}
use Rattle.block_cut.specs.Leaders.{is_leader_at}
use Rattle.frame_match.specs.Groups.{group_at, items_behind, op_then, ops_behind, ops_from, group_role, roles_from, roles_in, spot_on, Spot}
use Rattle.frame_match.specs.Matches.{all_found, before, ending_items, either_pair, frame_at, longer_of, longest_of, moves_in, pops_in, pushes_in}
use Rattle.frame_match.specs.Read.{slot_accessed, is_return, is_zero, moved, raised}
use Rattle.frame_match.specs.Invariants.Kinds.{IsPop, IsPush}
use Rattle.frame_match.specs.declared.found.Ending.{Ending}
use Rattle.frame_match.specs.declared.found.Ending.TheVariants.{GoesOn, Returns, ZeroFirst, ZeroBeforeRaise, ZeroBeforeReturn}
use Rattle.frame_match.specs.declared.found.Found.{Found}
use Rattle.frame_match.specs.declared.found.Move.{Move}
use Rattle.frame_match.specs.declared.group.Group.{Group}
use Rattle.frame_match.specs.declared.role.Role.{Role}
use Rattle.frame_match.specs.declared.role.Role.TheVariants.{First, Inside}
use Rattle.frame_match.specs.declared.slot.Access.{Access}
use Rattle.frame_match.specs.declared.slot.Access.TheVariants.{Saves}
use Rattle.frame_match.specs.declared.slot.Slot.{Slot}
use Rattle.frame_match.proofs.FoundLaws.{pop_known, push_known}
use Rattle.frame_match.proofs.ListLaws.{known_facts}
use Rattle.frame_match.proofs.MemberLaws.{in_cases, In}
use Rattle.frame_match.proofs.TailLaws.{if_known}

-- ---- the instructions of a group exist

some_within : (is : List Instr) (k : ℕ) → is_some (slice_get is k) ≡ true → k < length is
some_within [] k h = absurd cc
some_within (i ∷ is) zero h = omega arith
some_within (i ∷ is) (suc k) h = let r = some_within is k h in omega (arith, r)

some_used : (which : Access) (o : Option Instr) (d : Slot) → slot_accessed which o ≡ Some d → is_some o ≡ true
some_used which None d h = absurd (none-some d h)
some_used which (Some i) d h = refl

some_raised : (o : Option Instr) (b : ℕ) → raised o ≡ Some b → is_some o ≡ true
some_raised None b h = absurd (none-some b h)
some_raised (Some i) b h = refl

some_return : (o : Option Instr) → is_return o ≡ true → is_some o ≡ true
some_return None h = absurd cc
some_return (Some i) h = refl

some_moved : (o : Option Instr) (m : Move) → moved o ≡ Some m → is_some o ≡ true
some_moved None m h = absurd (none-some m h)
some_moved (Some i) m h = refl

-- ---- sizes

pub record IsSized (is : List Instr) (g : Found) : Type 0 where
  pub least : 2 ≤ g.items
  pub most : g.items ≤ 16
  pub within : g.items ≤ length is

push_sized : (is : List Instr) (g : Found) → IsPush is g → IsSized is g
push_sized is g p =
    let c = (known_facts p.left_out p.known).count in
    let small = p.known.small in
    let items = ap (λ (u : Found). u.items) p.found_is in
    let w = p.framed.there.each (12 - p.left_out) (omega (arith, small)) in
    let last = some_within is (1 + (12 - p.left_out)) (some_used Saves (slice_get is (1 + (12 - p.left_out))) _ w.1.1) in
    record { least = omega (arith, c, small, items); most = omega (arith, c, small, items); within = omega (arith, c, small, items, last) }

-- the last instruction of a pop exists
pop_last : (e : Ending) (is : List Instr) (n b : ℕ) → frame_at e is n ≡ Some b → n + ending_items e ≤ length is
pop_last GoesOn is n b h = let l = some_within is n (some_raised (slice_get is n) b h) in omega (arith, l)
pop_last Returns is n b h =
    let k = if_known (is_return (slice_get is (n + 1))) (raised (slice_get is n)) b h in
    let l = some_within is (n + 1) (some_return (slice_get is (n + 1)) k.0) in
    omega (arith, l)
pop_last ZeroFirst is n b h =
    let k = if_known (is_return (slice_get is (n + 1))) (raised (slice_get is n)) b h in
    let l = some_within is (n + 1) (some_return (slice_get is (n + 1)) k.0) in
    omega (arith, l)
pop_last ZeroBeforeRaise is n b h =
    let k = if_known (is_zero (slice_get is n) && is_return (slice_get is (n + 2))) (raised (slice_get is (n + 1))) b h in
    let l = some_within is (n + 2) (some_return (slice_get is (n + 2)) (and_parts (is_zero (slice_get is n)) (is_return (slice_get is (n + 2))) k.0).1) in
    omega (arith, l)
pop_last ZeroBeforeReturn is n b h =
    let k = if_known (is_zero (slice_get is (n + 1)) && is_return (slice_get is (n + 2))) (raised (slice_get is n)) b h in
    let l = some_within is (n + 2) (some_return (slice_get is (n + 2)) (and_parts (is_zero (slice_get is (n + 1))) (is_return (slice_get is (n + 2))) k.0).1) in
    omega (arith, l)

ends_size : (e : Ending) → (1 ≤ ending_items e) × (before e + ending_items e ≤ 3)
ends_size GoesOn = (omega arith, omega arith)
ends_size Returns = (omega arith, omega arith)
ends_size ZeroFirst = (omega arith, omega arith)
ends_size ZeroBeforeRaise = (omega arith, omega arith)
ends_size ZeroBeforeReturn = (omega arith, omega arith)

pop_sized : (is : List Instr) (g : Found) → IsPop is g → IsSized is g
pop_sized is g p =
    let c = (known_facts p.left_out p.known).count in
    let small = p.known.small in
    let size = p.size in
    let items = ap (λ (u : Found). u.items) p.found_is in
    let last = pop_last p.ending is (before p.ending + p.count) p.bytes p.raises in
    let ends = ends_size p.ending in
    record { least = omega (arith, c, small, size, items, ends.0); most = omega (arith, c, size, items, ends.1); within = omega (arith, c, size, items, last) }

moves_sized : (is : List Instr) (g : Found) → moves_in is ≡ Some g → IsSized is g
moves_sized is g h = by (moved (slice_get is 0)) (moved (slice_get is 1)) refl h
  where
    made : (o : Option Short) → option_map (λ kind. record { items = 2; kind = kind; rest = 0 }) o ≡ Some g → g.items ≡ 2
    made None e = absurd (none-some g e)
    made (Some k) e = sym (ap (λ (u : Found). u.items) (same_Some (record { items = 2; kind = k; rest = 0 }) g e))

    by : (a b : Option Move) → moved (slice_get is 1) ≡ b → option_map (λ kind. record { items = 2; kind = kind; rest = 0 }) (either_pair a b) ≡ Some g → IsSized is g
    by None b second e = absurd (none-some g e)
    by (Some a) None second e = absurd (none-some g e)
    by (Some a) (Some b) second e =
        let items = made (either_pair (Some a) (Some b)) e in
        let last = some_within is 1 (some_moved (slice_get is 1) b second) in
        record { least = omega (arith, items); most = omega (arith, items); within = omega (arith, items, last) }

-- ---- what is found

fold_in : (xs : List Found) (kept : Option Found) (g : Found) → fold longer_of kept xs ≡ Some g → (kept ≡ Some g) ⊎ In g xs
fold_in [] kept g h = inl h
fold_in (x ∷ xs) kept g h = by kept (fold_in xs (longer_of kept x) g h)
  where
    by : (kept : Option Found) → (longer_of kept x ≡ Some g) ⊎ In g xs → (kept ≡ Some g) ⊎ In g (x ∷ xs)
    by kept (inr i) = inr (inr i)
    by None (inl e) = inr (inl (sym (same_Some x g e)))
    by (Some a) (inl e) = go (ltb a.items x.items) e
      where
        go : (b : Bool) → cond b (Some x) (Some a) ≡ Some g → (Some a ≡ Some g) ⊎ In g (x ∷ xs)
        go true e = inr (inl (sym (same_Some x g e)))
        go false e = inl e

in_option : (o : Option Found) (g : Found) → In g (option_to_list o) → o ≡ Some g
in_option None g h = absurd h
in_option (Some f) g (inl e) = ap Some (sym e)
in_option (Some f) g (inr h) = absurd h

found_sized : (is : List Instr) (g : Found) → In g (all_found is) → IsSized is g
found_sized is g h = by (in_cases g (pushes_in is) (pops_in is ++ option_to_list (moves_in is)) h)
  where
    rest : In g (pops_in is) ⊎ In g (option_to_list (moves_in is)) → IsSized is g
    rest (inl i) = pop_sized is g (pop_known is g i)
    rest (inr i) = moves_sized is g (in_option (moves_in is) g i)

    by : In g (pushes_in is) ⊎ In g (pops_in is ++ option_to_list (moves_in is)) → IsSized is g
    by (inl i) = push_sized is g (push_known is g i)
    by (inr i) = rest (in_cases g (pops_in is) (option_to_list (moves_in is)) i)

pub longest_sized : (is : List Instr) (g : Found) → longest_of is ≡ Some g → IsSized is g
unfolding longest_of
longest_sized is g h = by (fold_in (all_found is) None g h)
  where
    by : (None ≡ Some g) ⊎ In g (all_found is) → IsSized is g
    by (inl e) = absurd (none-some g e)
    by (inr i) = found_sized is g i

-- ---- roles

-- an item that goes on a run is no leader, and fewer items are left after it
joined : (left : ℕ) (s : Spot) (ss : List Spot) → suc left ≤ length (ops_behind (s ∷ ss)) → (s.leader ≡ false) × (left ≤ length (ops_behind ss))
joined left s ss h = by s.leader s.op refl h
  where
    by : (b : Bool) (o : Option Instr) → s.leader ≡ b → suc left ≤ length (cond b [] (op_then o (ops_behind ss))) → (s.leader ≡ false) × (left ≤ length (ops_behind ss))
    by true o e h = absurd (omega (arith, h))
    by false None e h = absurd (omega (arith, h))
    by false (Some i) e h = (e, omega (arith, h))

-- a group has no more items after its first than there are instructions
pub left_within : (s : Spot) (ss : List Spot) → items_behind (group_role s.place (longest_of (ops_from s ss))) ≤ length (ops_behind ss)
left_within s ss = by (longest_of (ops_from s ss)) refl
  where
    few : (o : Option Instr) → length (op_then o (ops_behind ss)) ≤ 1 + length (ops_behind ss)
    few None = omega arith
    few (Some i) = omega arith

    by : (o : Option Found) → longest_of (ops_from s ss) ≡ o → items_behind (group_role s.place o) ≤ length (ops_behind ss)
    by None e = omega arith
    by (Some f) e =
        let z = (longest_sized (ops_from s ss) f e).within in
        let l = few s.op in
        omega (arith, z, l)

role_no_inside : (s : Spot) (o : Option Found) → group_role s.place o ≡ Inside → ⊥
role_no_inside s None h = cc
role_no_inside s (Some f) h = cc

inside_leads_not : (left : ℕ) (ss : List Spot) (j : ℕ) (s : Spot) → left ≤ length (ops_behind ss) → slice_get (roles_from left ss) j ≡ Some Inside → slice_get ss j ≡ Some s → s.leader ≡ false
inside_leads_not left [] j s le r g = absurd (none-some s g)
inside_leads_not (suc left) (t ∷ ss) zero s le r g = ap (λ (u : Spot). u.leader) (sym (same_Some t s g)) ∙ (joined left t ss le).0
inside_leads_not (suc left) (t ∷ ss) (suc j) s le r g = inside_leads_not left ss j s (joined left t ss le).1 r g
inside_leads_not zero (t ∷ ss) zero s le r g = absurd (role_no_inside t (longest_of (ops_from t ss)) (same_Some _ _ r))
inside_leads_not zero (t ∷ ss) (suc j) s le r g = inside_leads_not (items_behind (group_role t.place (longest_of (ops_from t ss)))) ss j s (left_within t ss) r g

-- no basic block begins at an item inside a group, by its index in its section
pub inside_no_leader : (inputs : ParsedInputs) (l : IndexedSection) (j n : ℕ) → is_code_section l.section ≡ true
    → slice_get (roles_in inputs l) j ≡ Some Inside → slice_get (starts_in l.section) j ≡ Some n → is_leader_at inputs (place_of l n) ≡ false
unfolding roles_in
inside_no_leader inputs l j n code r g =
    let roles = sym (ap (λ b. slice_get (cond b (roles_from 0 (map (spot_on inputs l) (starts_in l.section))) []) j) code) ∙ r in
    inside_leads_not 0 (map (spot_on inputs l) (starts_in l.section)) j (spot_on inputs l n) (omega arith) roles (get_map (spot_on inputs l) (starts_in l.section) j n g)

-- there are as many roles as items
pub roles_count : (left : ℕ) (ss : List Spot) → length (roles_from left ss) ≡ length ss
roles_count zero [] = refl
roles_count (suc left) [] = refl
roles_count zero (s ∷ ss) = ap suc (roles_count (items_behind (group_role s.place (longest_of (ops_from s ss)))) ss)
roles_count (suc left) (s ∷ ss) = ap suc (roles_count left ss)

-- ---- groups

-- no more instructions stand behind an item than items
pub ops_few : (ss : List Spot) → length (ops_behind ss) ≤ length ss
ops_few [] = omega arith
ops_few (s ∷ ss) = by s.leader s.op (ops_few ss)
  where
    by : (b : Bool) (o : Option Instr) → length (ops_behind ss) ≤ length ss → length (cond b [] (op_then o (ops_behind ss))) ≤ length (s ∷ ss)
    by true o h = omega arith
    by false None h = omega arith
    by false (Some i) h = omega (arith, h)

insides : (left : ℕ) (ss : List Spot) (k : ℕ) → k < left → k < length ss → slice_get (roles_from left ss) k ≡ Some Inside
insides zero ss k less within = absurd (omega (arith, less))
insides (suc left) [] k less within = absurd (omega (arith, within))
insides (suc left) (s ∷ ss) zero less within = refl
insides (suc left) (s ∷ ss) (suc k) less within = insides left ss k (omega (arith, less)) (omega (arith, within))

-- a group that starts at an item is the longest that the instructions from there on begin with, and the items after
-- its first are inside it
pub record StartsGroup (spots : List Spot) (roles : List Role) (j : ℕ) (g : Group) : Type 0 where
  pub spot : Spot
  pub rest : List Spot
  pub here : drop j spots ≡ spot ∷ rest
  pub found : Found
  pub longest : longest_of (ops_from spot rest) ≡ Some found
  pub group : g ≡ group_at spot.place found
  pub sized : IsSized (ops_from spot rest) found
  pub inside : (k : ℕ) → 0 < k → k < g.items → slice_get roles (j + k) ≡ Some Inside

one_on : (s : Spot) (ss : List Spot) (r : Role) (rs : List Role) (j : ℕ) (g : Group) → StartsGroup ss rs j g → StartsGroup (s ∷ ss) (r ∷ rs) (suc j) g
one_on s ss r rs j g x = record {
  spot = x.spot;
  rest = x.rest;
  here = x.here;
  found = x.found;
  longest = x.longest;
  group = x.group;
  sized = x.sized;
  inside = λ k some less. let e : suc j + k ≡ suc (j + k) = omega arith in ap (slice_get (r ∷ rs)) e ∙ x.inside k some less;
}

first_here : (s : Spot) (ss : List Spot) (g : Group) → group_role s.place (longest_of (ops_from s ss)) ≡ First g → StartsGroup (s ∷ ss) (roles_from 0 (s ∷ ss)) 0 g
first_here s ss g h = by (longest_of (ops_from s ss)) refl h
  where
    few : (o : Option Instr) → length (op_then o (ops_behind ss)) ≤ 1 + length (ops_behind ss)
    few None = omega arith
    few (Some i) = omega arith

    by : (o : Option Found) → longest_of (ops_from s ss) ≡ o → group_role s.place o ≡ First g → StartsGroup (s ∷ ss) (roles_from 0 (s ∷ ss)) 0 g
    by None e h = absurd cc
    by (Some f) e h =
        let group : group_at s.place f ≡ g = cc in
        let z = longest_sized (ops_from s ss) f e in
        let l = few s.op in
        let o = ops_few ss in
        let items : f.items ≡ g.items = ap (λ (u : Group). u.items) group in
        let left : items_behind (group_role s.place (longest_of (ops_from s ss))) ≡ f.items - 1 = ap (λ x. items_behind (group_role s.place x)) e in
        record {
          spot = s;
          rest = ss;
          here = refl;
          found = f;
          longest = e;
          group = sym group;
          sized = z;
          inside = λ k some less.
              let w = z.within in
              let n : 0 + k ≡ suc (k - 1) = omega (arith, some) in
              ap (slice_get (roles_from 0 (s ∷ ss))) n
              ∙ insides (items_behind (group_role s.place (longest_of (ops_from s ss)))) ss (k - 1) (omega (arith, some, less, items, left)) (omega (arith, some, less, items, w, l, o));
        }

first_from : (left : ℕ) (ss : List Spot) (j : ℕ) (g : Group) → slice_get (roles_from left ss) j ≡ Some (First g) → StartsGroup ss (roles_from left ss) j g
first_from zero [] j g h = absurd (none-some _ h)
first_from (suc left) [] j g h = absurd (none-some _ h)
first_from (suc left) (s ∷ ss) zero g h = let e = same_Some Inside (First g) h in absurd cc
first_from (suc left) (s ∷ ss) (suc j) g h = one_on s ss Inside (roles_from left ss) j g (first_from left ss j g h)
first_from zero (s ∷ ss) zero g h = first_here s ss g (same_Some _ _ h)
first_from zero (s ∷ ss) (suc j) g h =
    one_on s ss (group_role s.place (longest_of (ops_from s ss))) (roles_from (items_behind (group_role s.place (longest_of (ops_from s ss)))) ss) j g
    (first_from (items_behind (group_role s.place (longest_of (ops_from s ss)))) ss j g h)

-- each group of a section starts at an item, by the index of its first item
pub group_starts : (inputs : ParsedInputs) (l : IndexedSection) (j : ℕ) (g : Group) → is_code_section l.section ≡ true
    → slice_get (roles_in inputs l) j ≡ Some (First g) → StartsGroup (map (spot_on inputs l) (starts_in l.section)) (roles_in inputs l) j g
unfolding roles_in
group_starts inputs l j g code h =
    let same = ap (λ b. cond b (roles_from 0 (map (spot_on inputs l) (starts_in l.section))) []) code in
    subst (λ rs. StartsGroup (map (spot_on inputs l) (starts_in l.section)) rs j g) (sym same)
    (first_from 0 (map (spot_on inputs l) (starts_in l.section)) j g (ap (λ rs. slice_get rs j) (sym same) ∙ h))
