-- The pushes and pops that instructions begin with, by the indices of their instructions.
use Rattle.std.proofs.Common.{◌≡◌, ◌∙◌, ℕ, ◌+◌, List, [], ◌∷◌, ◌++◌, Option, Some, None, cond, length, refl, sym, ap, arith, subst, inl, inr}
use Rattle.std.specs.Prelude.{◌&&◌, IfSome}
use Rattle.std.specs.List.{flat_map, fold, slice_get}
use Rattle.std.specs.Option.{option_map_or, option_to_list}
use Rattle.std.proofs.lemmas.Bool.{and_from, and_parts}
use Rattle.std.proofs.lemmas.Option.{IfSome_then}
use Rattle.rv_decode.specs.declared.instr.Instr.{Instr}
use Rattle.zc_decode.specs.Lists.{registers_of}
use Rattle.frame_match.specs.declared.found.Ending.{Ending}
use Rattle.frame_match.specs.declared.found.Ending.TheVariants.{GoesOn, Returns, ZeroFirst, ZeroBeforeRaise, ZeroBeforeReturn}
use Rattle.frame_match.specs.declared.found.Found.{Found}
use Rattle.frame_match.specs.declared.slot.Access.TheVariants.{Restores, Saves}
use Rattle.frame_match.specs.Matches.{before, endings, frame_at, has_accesses, is_begun, is_frame, lists, longer_of, longest_of, moves_in, pop_by, pop_in, pop_of, pops_in, push_in, push_of, pushes_in}
use Rattle.frame_match.specs.Read.{lowered}
use Rattle.frame_match.specs.Invariants.Frames.{list_leaving_out}
use Rattle.frame_match.specs.Invariants.Kinds.{longer_or, Beats, IsPop, IsPush}
use Rattle.frame_match.proofs.AccessLaws.{fills_from, fills_known}
use Rattle.frame_match.proofs.ListLaws.{known_facts, list_facts}
use Rattle.frame_match.proofs.MemberLaws.{flat_map_cases, fold_append, fold_longer, fold_one, in_cond, in_flat_map, in_range, longest_is, range_cases, In}

-- ---- pushes

pub push_known : (is : List Instr) (g : Found) → In g (pushes_in is) → IsPush is g
push_known is g h = by (lowered (slice_get is 0)) refl h
  where
    made : (bytes list : ℕ) → lowered (slice_get is 0) ≡ Some bytes → In list lists → In g (push_in is list bytes) → IsPush is g
    made bytes list lowers listed i =
        let r = range_cases 4 12 list listed in
        let l = list_facts list r.0 (omega (arith, r.1)) in
        let w = in_cond (is_frame list bytes && has_accesses Saves list bytes is 1) (push_of list bytes) g i in
        let p = and_parts (is_frame list bytes) (has_accesses Saves list bytes is 1) w.0 in
        record {
          left_out = l.left_out;
          known = l.known;
          bytes = bytes;
          lowers = lowers;
          framed = record {
            fits = ap (λ n. is_frame n bytes) l.list_is ∙ p.0;
            there = fills_known Saves bytes l.left_out is 1 l.known (ap (λ n. has_accesses Saves n bytes is 1) l.list_is ∙ p.1);
          };
          found_is = w.1 ∙ ap (λ n. push_of n bytes) (sym l.list_is);
        }

    by : (o : Option ℕ) → lowered (slice_get is 0) ≡ o → In g (option_map_or (λ bytes. flat_map (λ list. push_in is list bytes) lists) o []) → IsPush is g
    by None e i = absurd i
    by (Some bytes) e i = let w = flat_map_cases (λ list. push_in is list bytes) lists g i in made bytes w.0 e w.1 w.2

push_from : (is : List Instr) (g : Found) → IsPush is g → In g (pushes_in is)
push_from is g p =
    let k = known_facts p.left_out p.known in
    let list = list_leaving_out p.left_out in
    let h = k.high in
    let fits = and_from (is_frame list p.bytes) _ p.framed.fits (fills_from Saves p.bytes p.left_out is 1 p.known p.framed.there) in
    let i : In g (push_in is list p.bytes) = subst (λ b. In g (cond b (push_of list p.bytes ∷ []) [])) (sym fits) (inl p.found_is) in
    subst (λ o. In g (option_map_or (λ bytes. flat_map (λ n. push_in is n bytes) lists) o [])) (sym p.lowers)
    (in_flat_map (λ n. push_in is n p.bytes) lists list g (in_range 4 12 list k.low (omega (arith, h))) i)

-- there is at most one push, so it is the longest
pub push_longest : (is : List Instr) (r : Option Found) → IfSome r (λ g. IsPush is g) → ((g : Found) → IsPush is g → r ≡ Some g)
    → fold longer_of None (pushes_in is) ≡ r
push_longest is r known each =
    longest_is (pushes_in is) r (IfSome_then r known (push_from is)) (λ g h. record { best = g; is = each g (push_known is g h); more = inl refl })

-- ---- pops

in_endings : (e : Ending) → In e endings
in_endings GoesOn = inl refl
in_endings Returns = inr (inl refl)
in_endings ZeroFirst = inr (inr (inl refl))
in_endings ZeroBeforeRaise = inr (inr (inr (inl refl)))
in_endings ZeroBeforeReturn = inr (inr (inr (inr (inl refl))))

pub pop_known : (is : List Instr) (g : Found) → In g (pops_in is) → IsPop is g
pop_known is g h =
    let w = flat_map_cases (λ list. flat_map (pop_in is list) endings) lists g h in
    let v = flat_map_cases (pop_in is w.0) endings g w.2 in
    by w.0 v.0 w.1 (frame_at v.0 is (before v.0 + length (registers_of w.0))) refl v.2
  where
    made : (list : ℕ) (e : Ending) (bytes : ℕ) → In list lists → frame_at e is (before e + length (registers_of list)) ≡ Some bytes → In g (pop_by is list e bytes) → IsPop is g
    made list e bytes listed raises i =
        let r = range_cases 4 12 list listed in
        let l = list_facts list r.0 (omega (arith, r.1)) in
        let k = known_facts l.left_out l.known in
        let w = in_cond (is_begun e is && (is_frame list bytes && has_accesses Restores list bytes is (before e))) (pop_of e list bytes) g i in
        let p = and_parts (is_begun e is) (is_frame list bytes && has_accesses Restores list bytes is (before e)) w.0 in
        let q = and_parts (is_frame list bytes) (has_accesses Restores list bytes is (before e)) p.1 in
        record {
          ending = e;
          left_out = l.left_out;
          known = l.known;
          count = length (registers_of list);
          size = ap (λ n. length (registers_of n) + l.left_out) (sym l.list_is) ∙ k.count;
          bytes = bytes;
          begun = p.0;
          raises = raises;
          framed = record {
            fits = ap (λ n. is_frame n bytes) l.list_is ∙ q.0;
            there = fills_known Restores bytes l.left_out is (before e) l.known (ap (λ n. has_accesses Restores n bytes is (before e)) l.list_is ∙ q.1);
          };
          found_is = w.1 ∙ ap (λ n. pop_of e n bytes) (sym l.list_is);
        }

    by : (list : ℕ) (e : Ending) → In list lists → (o : Option ℕ) → frame_at e is (before e + length (registers_of list)) ≡ o → In g (option_map_or (pop_by is list e) o []) → IsPop is g
    by list e listed None at i = absurd i
    by list e listed (Some bytes) at i = made list e bytes listed at i

pop_from : (is : List Instr) (g : Found) → IsPop is g → In g (pops_in is)
pop_from is g p =
    let k = known_facts p.left_out p.known in
    let list = list_leaving_out p.left_out in
    let h = k.high in
    let c = k.count in
    let s = p.size in
    let count : p.count ≡ length (registers_of list) = omega (arith, c, s) in
    let fits = and_from (is_begun p.ending is) _ p.begun (and_from (is_frame list p.bytes) _ p.framed.fits (fills_from Restores p.bytes p.left_out is (before p.ending) p.known p.framed.there)) in
    let i : In g (pop_by is list p.ending p.bytes) = subst (λ b. In g (cond b (pop_of p.ending list p.bytes ∷ []) [])) (sym fits) (inl p.found_is) in
    let raises = subst (λ n. frame_at p.ending is (before p.ending + n) ≡ Some p.bytes) count p.raises in
    let j : In g (pop_in is list p.ending) = subst (λ o. In g (option_map_or (pop_by is list p.ending) o [])) (sym raises) i in
    in_flat_map (λ n. flat_map (pop_in is n) endings) lists list g (in_range 4 12 list k.low (omega (arith, h)))
    (in_flat_map (pop_in is list) endings p.ending g (in_endings p.ending) j)

pub pop_longest : (is : List Instr) (r : Option Found) → IfSome r (λ g. IsPop is g) → ((g : Found) → IsPop is g → Beats r g)
    → fold longer_of None (pops_in is) ≡ r
pop_longest is r known each = longest_is (pops_in is) r (IfSome_then r known (pop_from is)) (λ g h. each g (pop_known is g h))

-- ---- all

pub longest_split : (is : List Instr) → longest_of is ≡ longer_or (longer_or (fold longer_of None (pushes_in is)) (fold longer_of None (pops_in is))) (moves_in is)
unfolding longest_of
longest_split is =
    fold_append None (pushes_in is) (pops_in is ++ option_to_list (moves_in is))
    ∙ fold_append (fold longer_of None (pushes_in is)) (pops_in is) (option_to_list (moves_in is))
    ∙ fold_one _ (moves_in is)
    ∙ ap (λ r. longer_or r (moves_in is)) (fold_longer (fold longer_of None (pushes_in is)) (pops_in is))
