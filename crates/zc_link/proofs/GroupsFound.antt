-- What instructions begin with, by the search for groups, is the group of some kind.
use Rattle.std.proofs.Common.{◌≡◌, ◌≢◌, ℕ, zero, suc, ◌+◌, ◌-◌, ◌%◌, ◌≤◌, List, [], ◌∷◌, ◌++◌, append_assoc, length, length-append, take, drop, Option, Some, None, Bool, true, false, cond, refl, sym, ap, ap₂, ◌∙◌, subst, arith, ℤ, pos, negsuc, eqb, ltb, leb, inl, inr, ⊎_elim}
use Rattle.std.specs.Prelude.{◌&&◌, not, slice_get}
use Rattle.std.specs.List.{flat_map, fold, list_all, list_any}
use Rattle.std.specs.Option.{option_and_then, option_map, option_map_or, option_or, option_to_list}
use Rattle.std.specs.Ordering.{int_eq}
use Rattle.std.proofs.lemmas.Bool.{and_parts, eq-eqb, eqb-true, false≢true, leb-true, or_cases}
use Rattle.std.proofs.lemmas.List.{append-nil, take-append-drop}
use Rattle.std.proofs.lemmas.Bool.Decides.{Decides-int_eq}
use Rattle.rv_decode.specs.declared.instr.Instr.{Instr}
use Rattle.rv_decode.specs.declared.instr.Instr.TheVariants.{Upper, Jal, Jalr, Branch, Load, Store, WithImm, WithReg, Fence, Ecall, Ebreak, Csrrw}
use Rattle.rv_decode.specs.declared.instr.ImmOp.TheVariants.{Addi, Slti, Sltiu, Xori, Ori, Andi, Slli, Srli, Srai}
use Rattle.rv_decode.specs.declared.instr.LoadOp.TheVariants.{Lb, Lh, Lw, Lbu, Lhu}
use Rattle.rv_decode.specs.declared.instr.StoreOp.TheVariants.{Sb, Sh, Sw}
use Rattle.zc_decode.specs.Lists.{stack_adjust_base, registers_of}
use Rattle.zc_decode.specs.Operands.{IsMoved}
use Rattle.zc_decode.specs.declared.short.Short.{Short}
use Rattle.zc_decode.specs.declared.short.Short.TheVariants.{MoveAs, MoveSa}
use Rattle.frame_match.specs.Matches.{all_found, are_accesses, before, ending_items, either_pair, endings, frame_at, frame_by, has_accesses, is_access, is_begun, is_frame, is_from_saved, is_saved, is_to_saved, lists, longer_of, longest_of, moves_in, pair_of, pop_by, pop_in, pop_of, pops_in, push_in, push_of, pushes_in, slots_below}
use Rattle.frame_match.specs.Read.{down_by, is_return, is_return_instr, is_zero, is_zero_instr, lowered, move_of, moved, raised, slot_at_offset, slot_of, sp_move_of, up_by}
use Rattle.frame_match.specs.declared.found.Ending.{Ending}
use Rattle.frame_match.specs.declared.found.Ending.TheVariants.{GoesOn, Returns, ZeroBeforeRaise, ZeroBeforeReturn, ZeroFirst}
use Rattle.frame_match.specs.declared.found.Found.{Found}
use Rattle.frame_match.specs.declared.found.Move.{Move}
use Rattle.frame_match.specs.declared.slot.Access.{Access}
use Rattle.frame_match.specs.declared.slot.Access.TheVariants.{Saves, Restores}
use Rattle.frame_match.specs.declared.slot.Slot.{Slot}
use Rattle.shrink_layout.proofs.PremiseLaws.{Each, each-append}
use Rattle.zc_link.specs.Invariants.Groups.{A0First, A1First, GroupKind, IsFrame, IsGroup, MovesFromSaved, MovesToSaved, PopOf, PushOf, SameSlots, group_half, group_ops, group_rest, slot_loads, lower_sp, move_to, raise_sp, return_to_ra, stores_of, zero_a0}
use Rattle.zc_link.proofs.Slots.{IsOneOf, contained_one, one_contained}

-- ---- what is asked of an instruction

zero_imm : (imm : ℤ) → int_eq imm (pos 0) ≡ true → imm ≡ pos 0
zero_imm imm h = (Decides-int_eq imm (pos 0)).0 h

sp_move_is : (i : Instr) (imm : ℤ) → sp_move_of i ≡ Some imm → i ≡ WithImm Addi 2 2 imm
sp_move_is (Upper op rd imm) k h = absurd cc
sp_move_is (Jal rd distance) k h = absurd cc
sp_move_is (Jalr rd base imm) k h = absurd cc
sp_move_is (Branch op first second distance) k h = absurd cc
sp_move_is (WithReg op rd first second) k h = absurd cc
sp_move_is (Fence rest) k h = absurd cc
sp_move_is Ecall k h = absurd cc
sp_move_is Ebreak k h = absurd cc
sp_move_is (Csrrw rd source) k h = absurd cc
sp_move_is (Load op rd base imm) k h = absurd cc
sp_move_is (Store op source base imm) k h = absurd cc
sp_move_is (WithImm Slti rd first imm) k h = absurd cc
sp_move_is (WithImm Sltiu rd first imm) k h = absurd cc
sp_move_is (WithImm Xori rd first imm) k h = absurd cc
sp_move_is (WithImm Ori rd first imm) k h = absurd cc
sp_move_is (WithImm Andi rd first imm) k h = absurd cc
sp_move_is (WithImm Slli rd first imm) k h = absurd cc
sp_move_is (WithImm Srli rd first imm) k h = absurd cc
sp_move_is (WithImm Srai rd first imm) k h = absurd cc
sp_move_is (WithImm Addi rd first imm) k h = by (eqb rd 2 && eqb first 2) refl h
  where
    by : (b : Bool) → (eqb rd 2 && eqb first 2) ≡ b → cond b (Some imm) None ≡ Some k → WithImm Addi rd first imm ≡ WithImm Addi 2 2 k
    by true is g =
        let q = and_parts (eqb rd 2) (eqb first 2) is in
        let to = eqb-true rd 2 q.0 in
        let from = eqb-true first 2 q.1 in
        let same : imm ≡ k = cc in
        λ j. WithImm Addi (to j) (from j) (same j)
    by false is g = absurd cc

lower_is : (i : Instr) (frame : ℕ) → lowered (Some i) ≡ Some frame → i ≡ lower_sp frame
lower_is i frame h = by (sp_move_of i) refl h
  where
    by : (o : Option ℤ) → sp_move_of i ≡ o → option_and_then down_by o ≡ Some frame → i ≡ lower_sp frame
    by None is g = absurd cc
    by (Some (pos n)) is g = absurd cc
    by (Some (negsuc n)) is g =
        let same : n + 1 ≡ frame = cc in
        let less : n ≡ frame - 1 = omega (arith, same) in
        sp_move_is i (negsuc n) is ∙ ap (λ k. WithImm Addi 2 2 (negsuc k)) less

raise_is : (i : Instr) (frame : ℕ) → raised (Some i) ≡ Some frame → i ≡ raise_sp frame
raise_is i frame h = by (sp_move_of i) refl h
  where
    by : (o : Option ℤ) → sp_move_of i ≡ o → option_and_then up_by o ≡ Some frame → i ≡ raise_sp frame
    by None is g = absurd cc
    by (Some (negsuc n)) is g = absurd cc
    by (Some (pos n)) is g = let same : n ≡ frame = cc in sp_move_is i (pos n) is ∙ ap (λ k. WithImm Addi 2 2 (pos k)) same

zero_is : (i : Instr) → is_zero_instr i ≡ true → i ≡ zero_a0
zero_is (Upper op rd imm) h = absurd cc
zero_is (Jal rd distance) h = absurd cc
zero_is (Jalr rd base imm) h = absurd cc
zero_is (Branch op first second distance) h = absurd cc
zero_is (WithReg op rd first second) h = absurd cc
zero_is (Fence rest) h = absurd cc
zero_is Ecall h = absurd cc
zero_is Ebreak h = absurd cc
zero_is (Csrrw rd source) h = absurd cc
zero_is (Load op rd base imm) h = absurd cc
zero_is (Store op source base imm) h = absurd cc
zero_is (WithImm Slti rd first imm) h = absurd cc
zero_is (WithImm Sltiu rd first imm) h = absurd cc
zero_is (WithImm Xori rd first imm) h = absurd cc
zero_is (WithImm Ori rd first imm) h = absurd cc
zero_is (WithImm Andi rd first imm) h = absurd cc
zero_is (WithImm Slli rd first imm) h = absurd cc
zero_is (WithImm Srli rd first imm) h = absurd cc
zero_is (WithImm Srai rd first imm) h = absurd cc
zero_is (WithImm Addi rd first imm) h =
    let q = and_parts (eqb rd 10) (eqb first 0 && int_eq imm (pos 0)) h in
    let t = and_parts (eqb first 0) (int_eq imm (pos 0)) q.1 in
    let to = eqb-true rd 10 q.0 in
    let from = eqb-true first 0 t.0 in
    let none = zero_imm imm t.1 in
    λ j. WithImm Addi (to j) (from j) (none j)

return_is : (i : Instr) → is_return_instr i ≡ true → i ≡ return_to_ra
return_is (Upper op rd imm) h = absurd cc
return_is (Jal rd distance) h = absurd cc
return_is (Branch op first second distance) h = absurd cc
return_is (WithReg op rd first second) h = absurd cc
return_is (Fence rest) h = absurd cc
return_is Ecall h = absurd cc
return_is Ebreak h = absurd cc
return_is (Csrrw rd source) h = absurd cc
return_is (Load op rd base imm) h = absurd cc
return_is (Store op source base imm) h = absurd cc
return_is (WithImm op rd first imm) h = absurd cc
return_is (Jalr rd base imm) h =
    let q = and_parts (eqb rd 0) (eqb base 1 && int_eq imm (pos 0)) h in
    let t = and_parts (eqb base 1) (int_eq imm (pos 0)) q.1 in
    let to = eqb-true rd 0 q.0 in
    let from = eqb-true base 1 t.0 in
    let none = zero_imm imm t.1 in
    λ j. Jalr (to j) (from j) (none j)

move_is : (i : Instr) (m : Move) → move_of i ≡ Some m → i ≡ move_to m.rd m.source
move_is (Upper op rd imm) m h = absurd cc
move_is (Jal rd distance) m h = absurd cc
move_is (Jalr rd base imm) m h = absurd cc
move_is (Branch op first second distance) m h = absurd cc
move_is (WithReg op rd first second) m h = absurd cc
move_is (Fence rest) m h = absurd cc
move_is Ecall m h = absurd cc
move_is Ebreak m h = absurd cc
move_is (Csrrw rd source) m h = absurd cc
move_is (Load op rd base imm) m h = absurd cc
move_is (Store op source base imm) m h = absurd cc
move_is (WithImm Slti rd first imm) m h = absurd cc
move_is (WithImm Sltiu rd first imm) m h = absurd cc
move_is (WithImm Xori rd first imm) m h = absurd cc
move_is (WithImm Ori rd first imm) m h = absurd cc
move_is (WithImm Andi rd first imm) m h = absurd cc
move_is (WithImm Slli rd first imm) m h = absurd cc
move_is (WithImm Srli rd first imm) m h = absurd cc
move_is (WithImm Srai rd first imm) m h = absurd cc
move_is (WithImm Addi rd source imm) m h = by (int_eq imm (pos 0)) refl h
  where
    by : (b : Bool) → int_eq imm (pos 0) ≡ b → cond b (Some (record { rd = rd; source = source })) None ≡ Some m → WithImm Addi rd source imm ≡ move_to m.rd m.source
    by true is g =
        let same : record { rd = rd; source = source } ≡ m = cc in
        let none = zero_imm imm is in
        λ j. WithImm Addi (same j).rd (same j).source (none j)
    by false is g = absurd cc

-- an access of a slot of sp
slot_is : (base : ℕ) (imm : ℤ) (r : ℕ) (d : Slot) → slot_at_offset base imm r ≡ Some d → (base ≡ 2) × (imm ≡ pos d.offset) × (r ≡ d.register)
slot_is base (negsuc n) r d h = absurd cc
slot_is base (pos n) r d h = by (eqb base 2) refl h
  where
    by : (b : Bool) → eqb base 2 ≡ b → cond b (Some (record { offset = n; register = r })) None ≡ Some d → (base ≡ 2) × (pos n ≡ pos d.offset) × (r ≡ d.register)
    by true is g =
        let same : record { offset = n; register = r } ≡ d = cc in
        (eqb-true base 2 is, ap (λ (x : Slot). pos x.offset) same, ap (λ (x : Slot). x.register) same)
    by false is g = absurd cc

store_is : (i : Instr) (d : Slot) → slot_of Saves i ≡ Some d → i ≡ Store Sw d.register 2 (pos d.offset)
store_is (Upper op rd imm) d h = absurd cc
store_is (Jal rd distance) d h = absurd cc
store_is (Jalr rd base imm) d h = absurd cc
store_is (Branch op first second distance) d h = absurd cc
store_is (WithReg op rd first second) d h = absurd cc
store_is (Fence rest) d h = absurd cc
store_is Ecall d h = absurd cc
store_is Ebreak d h = absurd cc
store_is (Csrrw rd source) d h = absurd cc
store_is (Load op rd base imm) d h = absurd cc
store_is (WithImm op rd first imm) d h = absurd cc
store_is (Store Sb r base imm) d h = absurd cc
store_is (Store Sh r base imm) d h = absurd cc
store_is (Store Sw r base imm) d h = let q = slot_is base imm r d h in λ j. Store Sw (q.2 j) (q.0 j) (q.1 j)

load_is : (i : Instr) (d : Slot) → slot_of Restores i ≡ Some d → i ≡ Load Lw d.register 2 (pos d.offset)
load_is (Upper op rd imm) d h = absurd cc
load_is (Jal rd distance) d h = absurd cc
load_is (Jalr rd base imm) d h = absurd cc
load_is (Branch op first second distance) d h = absurd cc
load_is (WithReg op rd first second) d h = absurd cc
load_is (Fence rest) d h = absurd cc
load_is Ecall d h = absurd cc
load_is Ebreak d h = absurd cc
load_is (Csrrw rd source) d h = absurd cc
load_is (Store op source base imm) d h = absurd cc
load_is (WithImm op rd first imm) d h = absurd cc
load_is (Load Lb r base imm) d h = absurd cc
load_is (Load Lh r base imm) d h = absurd cc
load_is (Load Lbu r base imm) d h = absurd cc
load_is (Load Lhu r base imm) d h = absurd cc
load_is (Load Lw r base imm) d h = let q = slot_is base imm r d h in λ j. Load Lw (q.2 j) (q.0 j) (q.1 j)

-- ---- lists that pass tests

all_passes : {X : Type 0} (test : X → Bool) (x : X) (xs : List X) → list_all test (x ∷ xs) ≡ true → (test x ≡ true) × (list_all test xs ≡ true)
all_passes test x xs h = and_parts (test x) (list_all test xs) h

-- an access of one of some slots
one_of : (which : Access) (i : Instr) (ds : List Slot) → list_any (λ d. is_access which d i) ds ≡ true → (d : Slot) × IsOneOf d ds × (slot_of which i ≡ Some d)
one_of which i [] h = absurd cc
one_of which i (d ∷ ds) h = ⊎_elim
    (λ here. (d, inl refl, access_is here))
    (λ there. let rest = one_of which i ds there in (rest.0, inr rest.1, rest.2))
    (or_cases (is_access which d i) (list_any (λ d. is_access which d i) ds) h)
  where
    access_is : is_access which d i ≡ true → slot_of which i ≡ Some d
    access_is g = by (slot_of which i) refl g
      where
        by : (o : Option Slot) → slot_of which i ≡ o → option_map_or (λ e. eqb e.offset d.offset && eqb e.register d.register) o false ≡ true → slot_of which i ≡ Some d
        by None is t = absurd cc
        by (Some e) is t =
            let q = and_parts (eqb e.offset d.offset) (eqb e.register d.register) t in
            let offset = eqb-true e.offset d.offset q.0 in
            let register = eqb-true e.register d.register q.1 in
            is ∙ ap Some (λ j. record { offset = offset j; register = register j })

-- ---- slots in some order

-- instructions that are the accesses of slots in some order
record InOrder (ops : List Slot → List Instr) (xs : List Instr) (ds : List Slot) : Type 0 where
  order : List Slot
  are : xs ≡ ops order
  same : SameSlots order ds
  long : length (ops order) ≡ length ds

-- the accesses of slots, one after another
record IsAccessList (which : Access) (op : Slot → Instr) (ops : List Slot → List Instr) : Type 0 where
  none : ops [] ≡ []
  more : (d : Slot) (ds : List Slot) → ops (d ∷ ds) ≡ op d ∷ ops ds
  op_is : (i : Instr) (d : Slot) → slot_of which i ≡ Some d → i ≡ op d
  slot : (d : Slot) → slot_of which (op d) ≡ Some d

saves : IsAccessList Saves (λ d. Store Sw d.register 2 (pos d.offset)) stores_of
saves = record { none = refl; more = λ d ds. refl; op_is = store_is; slot = λ d. refl }

restores : IsAccessList Restores (λ d. Load Lw d.register 2 (pos d.offset)) slot_loads
restores = record { none = refl; more = λ d ds. refl; op_is = load_is; slot = λ d. refl }

module _ {which : Access} {op : Slot → Instr} {ops : List Slot → List Instr} (is : IsAccessList which op ops) where
  -- each uses one of these slots
  orders : (ds : List Slot) (xs : List Instr) → list_all (λ i. list_any (λ d. is_access which d i) ds) xs ≡ true → (order : List Slot) × (xs ≡ ops order) × ((d : Slot) → IsOneOf d order → IsOneOf d ds)
  orders ds [] h = ([], sym is.none, λ d m. absurd m)
  orders ds (x ∷ xs) h =
      let q = all_passes (λ i. list_any (λ d. is_access which d i) ds) x xs h in
      let one = one_of which x ds q.0 in
      let rest = orders ds xs q.1 in (
        one.0 ∷ rest.0,
        ap₂ (λ a rest. a ∷ rest) (is.op_is x one.0 one.2) rest.1 ∙ sym (is.more one.0 rest.0),
        λ d m. ⊎_elim (λ here. subst (λ t. IsOneOf t ds) (sym here) one.1) (λ there. rest.2 d there) m,
      )

  -- each slot is used
  used : (order : List Slot) (d : Slot) → list_any (is_access which d) (ops order) ≡ true → IsOneOf d order
  used [] d h = absurd (let g : list_any (is_access which d) [] ≡ true = ap (list_any (is_access which d)) (sym is.none) ∙ h in cc)
  used (e ∷ es) d h = ⊎_elim
      (λ here. inl (sym (same here)))
      (λ there. inr (used es d there))
      (or_cases (is_access which d (op e)) (list_any (is_access which d) (ops es)) (ap (list_any (is_access which d)) (sym (is.more e es)) ∙ h))
    where
      same : is_access which d (op e) ≡ true → e ≡ d
      same g =
          let t : (eqb e.offset d.offset && eqb e.register d.register) ≡ true = sym (ap (λ o. option_map_or (λ (x : Slot). eqb x.offset d.offset && eqb x.register d.register) o false) (is.slot e)) ∙ g in
          let q = and_parts (eqb e.offset d.offset) (eqb e.register d.register) t in
          let offset = eqb-true e.offset d.offset q.0 in
          let register = eqb-true e.register d.register q.1 in
          λ j. record { offset = offset j; register = register j }

  all_used : (order ds : List Slot) → list_all (λ d. list_any (is_access which d) (ops order)) ds ≡ true → (d : Slot) → IsOneOf d ds → IsOneOf d order
  all_used order [] h d m = absurd m
  all_used order (e ∷ es) h d m =
      let q = all_passes (λ d. list_any (is_access which d) (ops order)) e es h in
      ⊎_elim (λ here. subst (λ t. IsOneOf t order) (sym here) (used order e q.0)) (λ there. all_used order es q.1 d there) m

  in_order : (ds : List Slot) (xs : List Instr) → are_accesses which ds xs ≡ true → InOrder ops xs ds
  in_order ds xs h =
      let q = and_parts (eqb (length xs) (length ds)) (list_all (λ i. list_any (λ d. is_access which d i) ds) xs && list_all (λ d. list_any (is_access which d) xs) ds) h in
      let t = and_parts (list_all (λ i. list_any (λ d. is_access which d i) ds) xs) (list_all (λ d. list_any (is_access which d) xs) ds) q.1 in
      let o = orders ds xs t.0 in
      let all = all_used o.0 ds (ap (λ ys. list_all (λ d. list_any (is_access which d) ys) ds) (sym o.1) ∙ t.1) in
      record {
        order = o.0;
        are = o.1;
        same = record {
          each = λ d c. one_contained ds d (o.2 d (contained_one o.0 d c));
          all = λ d c. one_contained o.0 d (all d (contained_one ds d c));
        };
        long = ap length (sym o.1) ∙ eqb-true (length xs) (length ds) q.0;
      }

-- ---- frames

slots_long : (top : ℕ) (rs : List ℕ) → length (slots_below top rs) ≡ length rs
slots_long top [] = refl
slots_long top (r ∷ rs) = ap suc (slots_long (top - 4) rs)

-- a frame of a list that is one of those
frame_from :
    (list frame : ℕ) (order : List Slot) → 4 ≤ list → list ≤ 15 → is_frame list frame ≡ true → SameSlots order (slots_below frame (registers_of list)) → IsFrame list frame order
frame_from list frame order from to is same =
    let q = and_parts (eqb (frame % 16) 0) (leb (stack_adjust_base list) frame && leb frame 2032) is in
    let t = and_parts (leb (stack_adjust_base list) frame) (leb frame 2032) q.1 in
    record { from = from; to = to; whole = eqb-true (frame % 16) 0 q.0; least = leb-true (stack_adjust_base list) frame t.0; most = leb-true frame 2032 t.1; same = same }

-- ---- what is found

-- instructions begin with the items of a group, for which this is written
pub record IsFound (is : List Instr) (f : Found) : Type 0 where
  pub kind : GroupKind
  pub group : IsGroup kind
  pub tail : List Instr
  pub first : is ≡ group_ops kind ++ tail
  pub items : f.items ≡ length (group_ops kind)
  pub half : f.kind ≡ group_half kind
  pub rest : f.rest ≡ group_rest kind

get_drop : {X : Type 0} (n j : ℕ) (xs : List X) → slice_get (drop n xs) j ≡ slice_get xs (n + j)
get_drop zero j xs = let same : j ≡ 0 + j = omega arith in ap (slice_get xs) same
get_drop (suc n) j [] = refl
get_drop (suc n) j (x ∷ xs) = let same : suc (n + j) ≡ suc n + j = omega arith in get_drop n j xs ∙ ap (slice_get (x ∷ xs)) same

each_flat : {X Y : Type 0} (P : Y → Type 0) (f : X → List Y) (test : X → Bool) (xs : List X) → list_all test xs ≡ true → ((x : X) → test x ≡ true → Each P (f x)) → Each P (flat_map f xs)
each_flat P f test [] h each = tt
each_flat P f test (x ∷ xs) h each =
    let q = all_passes test x xs h in
    each-append P (f x) (flat_map f xs) (each x q.0) (each_flat P f test xs q.1 each)

-- what holds of a thing that is found only if a test passes
each_if : {X : Type 0} (P : X → Type 0) (b : Bool) (x : X) → (b ≡ true → P x) → Each P (cond b (x ∷ []) [])
each_if P true x h = (h refl, tt)
each_if P false x h = tt

-- ---- pushes

module _ (is : List Instr) where
  push_found : (frame list : ℕ) → 4 ≤ list → list ≤ 15 → lowered (slice_get is 0) ≡ Some frame → Each (IsFound is) (push_in is list frame)
  push_found frame list from to low =
      each_if (IsFound is) (is_frame list frame && has_accesses Saves list frame is 1) (push_of list frame) (λ h. by is refl low h)
    where
      by : (xs : List Instr) → is ≡ xs → lowered (slice_get xs 0) ≡ Some frame → (is_frame list frame && has_accesses Saves list frame is 1) ≡ true → IsFound is (push_of list frame)
      by [] same g h = absurd cc
      by (i ∷ xs) same g h =
          let rs = registers_of list in
          let ds = slots_below frame rs in
          let q = and_parts (is_frame list frame) (has_accesses Saves list frame is 1) h in
          let o = in_order saves ds (take (length rs) xs) (ap (λ ys. are_accesses Saves ds (take (length rs) (drop 1 ys))) (sym same) ∙ q.1) in
          record {
            kind = PushOf list frame o.order;
            group = frame_from list frame o.order from to q.0 o.same;
            tail = drop (length rs) xs;
            first = same ∙ ap₂ (λ a ys. a ∷ ys) (lower_is i frame g) (sym (take-append-drop (length rs) xs) ∙ ap (λ ys. ys ++ drop (length rs) xs) o.are);
            items = (let long = o.long in omega (arith, long, slots_long frame rs));
            half = refl;
            rest = refl;
          }

  pushes_found : Each (IsFound is) (pushes_in is)
  pushes_found = by (lowered (slice_get is 0)) refl
    where
      by : (o : Option ℕ) → lowered (slice_get is 0) ≡ o → Each (IsFound is) (option_map_or (λ frame. flat_map (λ list. push_in is list frame) lists) o [])
      by None same = tt
      by (Some frame) same =
          each_flat (IsFound is) (λ list. push_in is list frame) (λ l. leb 4 l && leb l 15) lists refl
          (λ list h. let q = and_parts (leb 4 list) (leb list 15) h in push_found frame list (leb-true 4 list q.0) (leb-true list 15 q.1) same)

-- ---- pops

-- what stands before a pop's loads, and behind them
abbrev ops_ahead : Ending → List Instr
ops_ahead GoesOn = []
ops_ahead Returns = []
ops_ahead ZeroFirst = zero_a0 ∷ []
ops_ahead ZeroBeforeRaise = []
ops_ahead ZeroBeforeReturn = []

abbrev ops_behind : Ending → ℕ → List Instr
ops_behind GoesOn frame = raise_sp frame ∷ []
ops_behind Returns frame = raise_sp frame ∷ return_to_ra ∷ []
ops_behind ZeroFirst frame = raise_sp frame ∷ return_to_ra ∷ []
ops_behind ZeroBeforeRaise frame = zero_a0 ∷ raise_sp frame ∷ return_to_ra ∷ []
ops_behind ZeroBeforeReturn frame = raise_sp frame ∷ zero_a0 ∷ return_to_ra ∷ []

pop_is : (e : Ending) (list frame : ℕ) (order : List Slot) → group_ops (PopOf e list frame order) ≡ ops_ahead e ++ (slot_loads order ++ ops_behind e frame)
pop_is GoesOn list frame order = append-nil (slot_loads order ++ raise_sp frame ∷ [])
pop_is Returns list frame order = append_assoc (slot_loads order) (raise_sp frame ∷ []) (return_to_ra ∷ [])
pop_is ZeroFirst list frame order = ap (λ xs. zero_a0 ∷ xs) (append_assoc (slot_loads order) (raise_sp frame ∷ []) (return_to_ra ∷ []))
pop_is ZeroBeforeRaise list frame order = append_assoc (slot_loads order) (zero_a0 ∷ raise_sp frame ∷ []) (return_to_ra ∷ [])
pop_is ZeroBeforeReturn list frame order =
    ap (λ xs. xs ++ return_to_ra ∷ []) (append_assoc (slot_loads order) (raise_sp frame ∷ []) (zero_a0 ∷ []))
    ∙ append_assoc (slot_loads order) (raise_sp frame ∷ zero_a0 ∷ []) (return_to_ra ∷ [])

ahead_long : (e : Ending) → length (ops_ahead e) ≡ before e
ahead_long GoesOn = refl
ahead_long Returns = refl
ahead_long ZeroFirst = refl
ahead_long ZeroBeforeRaise = refl
ahead_long ZeroBeforeReturn = refl

behind_long : (e : Ending) (frame : ℕ) → length (ops_behind e frame) ≡ ending_items e
behind_long GoesOn frame = refl
behind_long Returns frame = refl
behind_long ZeroFirst frame = refl
behind_long ZeroBeforeRaise frame = refl
behind_long ZeroBeforeReturn frame = refl

-- an instruction that is there
raise_there : (o : Option Instr) (frame : ℕ) → raised o ≡ Some frame → o ≡ Some (raise_sp frame)
raise_there None frame h = absurd cc
raise_there (Some i) frame h = ap Some (raise_is i frame h)

zero_there : (o : Option Instr) → is_zero o ≡ true → o ≡ Some zero_a0
zero_there None h = absurd cc
zero_there (Some i) h = ap Some (zero_is i h)

return_there : (o : Option Instr) → is_return o ≡ true → o ≡ Some return_to_ra
return_there None h = absurd cc
return_there (Some i) h = ap Some (return_is i h)

-- a list's first elements
first_is : {X : Type 0} (xs : List X) (x : X) → slice_get xs 0 ≡ Some x → xs ≡ x ∷ drop 1 xs
first_is [] x h = absurd cc
first_is (y ∷ ys) x h = let same : y ≡ x = cc in ap (λ k. k ∷ ys) same

second_is : {X : Type 0} (xs : List X) (x y : X) → slice_get xs 0 ≡ Some x → slice_get xs 1 ≡ Some y → xs ≡ x ∷ y ∷ drop 2 xs
second_is [] x y h g = absurd cc
second_is (z ∷ zs) x y h g = let same : z ≡ x = cc in ap₂ (λ k ks. k ∷ ks) same (first_is zs y g)

third_is : {X : Type 0} (xs : List X) (x y w : X) → slice_get xs 0 ≡ Some x → slice_get xs 1 ≡ Some y → slice_get xs 2 ≡ Some w → xs ≡ x ∷ y ∷ w ∷ drop 3 xs
third_is [] x y w h g k = absurd cc
third_is (z ∷ zs) x y w h g k = let same : z ≡ x = cc in ap₂ (λ t ts. t ∷ ts) same (second_is zs y w g k)

-- a frame that is found only if a test passes
if_some : (b : Bool) (o : Option ℕ) (frame : ℕ) → cond b o None ≡ Some frame → (b ≡ true) × (o ≡ Some frame)
if_some true o frame h = (refl, h)
if_some false o frame h = absurd cc

behind_is : (e : Ending) (frame : ℕ) (xs : List Instr) → frame_by e (slice_get xs 0) (slice_get xs 1) (slice_get xs 2) ≡ Some frame → xs ≡ ops_behind e frame ++ drop (ending_items e) xs
behind_is GoesOn frame xs h = first_is xs (raise_sp frame) (raise_there (slice_get xs 0) frame h)
behind_is Returns frame xs h =
    let q = if_some (is_return (slice_get xs 1)) (raised (slice_get xs 0)) frame h in
    second_is xs (raise_sp frame) return_to_ra (raise_there (slice_get xs 0) frame q.1) (return_there (slice_get xs 1) q.0)
behind_is ZeroFirst frame xs h =
    let q = if_some (is_return (slice_get xs 1)) (raised (slice_get xs 0)) frame h in
    second_is xs (raise_sp frame) return_to_ra (raise_there (slice_get xs 0) frame q.1) (return_there (slice_get xs 1) q.0)
behind_is ZeroBeforeRaise frame xs h =
    let q = if_some (is_zero (slice_get xs 0) && is_return (slice_get xs 2)) (raised (slice_get xs 1)) frame h in
    let t = and_parts (is_zero (slice_get xs 0)) (is_return (slice_get xs 2)) q.0 in
    third_is xs zero_a0 (raise_sp frame) return_to_ra (zero_there (slice_get xs 0) t.0) (raise_there (slice_get xs 1) frame q.1) (return_there (slice_get xs 2) t.1)
behind_is ZeroBeforeReturn frame xs h =
    let q = if_some (is_zero (slice_get xs 1) && is_return (slice_get xs 2)) (raised (slice_get xs 0)) frame h in
    let t = and_parts (is_zero (slice_get xs 1)) (is_return (slice_get xs 2)) q.0 in
    third_is xs (raise_sp frame) zero_a0 return_to_ra (raise_there (slice_get xs 0) frame q.1) (zero_there (slice_get xs 1) t.0) (return_there (slice_get xs 2) t.1)

ahead_is : (e : Ending) (xs : List Instr) → is_begun e xs ≡ true → xs ≡ ops_ahead e ++ drop (before e) xs
ahead_is GoesOn xs h = refl
ahead_is Returns xs h = refl
ahead_is ZeroFirst xs h = first_is xs zero_a0 (zero_there (slice_get xs 0) h)
ahead_is ZeroBeforeRaise xs h = refl
ahead_is ZeroBeforeReturn xs h = refl

module _ (is : List Instr) where
  pop_found : (list : ℕ) (e : Ending) → 4 ≤ list → list ≤ 15 → Each (IsFound is) (pop_in is list e)
  pop_found list e from to = by (frame_at e is (before e + length rs)) refl
    where
      rs : List ℕ
      rs = registers_of list

      inner : List Instr
      inner = drop (before e) is

      last : List Instr
      last = drop (length rs) inner

      found_by : (frame : ℕ) → frame_at e is (before e + length rs) ≡ Some frame → (is_begun e is && (is_frame list frame && has_accesses Restores list frame is (before e))) ≡ true → IsFound is (pop_of e list frame)
      found_by frame at h =
          let ds = slots_below frame rs in
          let q = and_parts (is_begun e is) (is_frame list frame && has_accesses Restores list frame is (before e)) h in
          let t = and_parts (is_frame list frame) (has_accesses Restores list frame is (before e)) q.1 in
          let o = in_order restores ds (take (length rs) inner) t.1 in
          let get : (j : ℕ) → slice_get last j ≡ slice_get is (before e + length rs + j) = λ j.
          let sum : before e + (length rs + j) ≡ before e + length rs + j = omega arith in
          get_drop (length rs) j inner ∙ get_drop (before e) (length rs + j) is ∙ ap (slice_get is) sum in
          let zero_more : before e + length rs + 0 ≡ before e + length rs = omega arith in
          let frame_is : frame_by e (slice_get last 0) (slice_get last 1) (slice_get last 2) ≡ Some frame =
          (λ j. frame_by e ((get 0 ∙ ap (slice_get is) zero_more) j) (get 1 j) (get 2 j)) ∙ at in
          let ops = slot_loads o.order in
          let tail = drop (ending_items e) last in
          let whole : is ≡ ops_ahead e ++ (ops ++ (ops_behind e frame ++ tail)) =
          ahead_is e is q.0 ∙ ap (λ xs. ops_ahead e ++ xs) (sym (take-append-drop (length rs) inner) ∙ ap₂ (λ xs ys. xs ++ ys) o.are (behind_is e frame last frame_is)) in
          let again : group_ops (PopOf e list frame o.order) ++ tail ≡ ops_ahead e ++ (ops ++ (ops_behind e frame ++ tail)) =
          ap (λ xs. xs ++ tail) (pop_is e list frame o.order) ∙ append_assoc (ops_ahead e) (ops ++ ops_behind e frame) tail
          ∙ ap (λ xs. ops_ahead e ++ xs) (append_assoc ops (ops_behind e frame) tail) in
          record {
            kind = PopOf e list frame o.order;
            group = frame_from list frame o.order from to t.0 o.same;
            tail = tail;
            first = whole ∙ sym again;
            items = (
                let long = o.long in
                let all = ap length (pop_is e list frame o.order) in
                omega (arith, long, slots_long frame rs, all, length-append (ops_ahead e) (ops ++ ops_behind e frame), length-append ops (ops_behind e frame), ahead_long e, behind_long e frame));
            half = refl;
            rest = refl;
          }

      by : (o : Option ℕ) → frame_at e is (before e + length rs) ≡ o → Each (IsFound is) (option_map_or (pop_by is list e) o [])
      by None at = tt
      by (Some frame) at =
          each_if (IsFound is) (is_begun e is && (is_frame list frame && has_accesses Restores list frame is (before e))) (pop_of e list frame) (found_by frame at)

  pops_found : Each (IsFound is) (pops_in is)
  pops_found =
      each_flat (IsFound is) (λ list. flat_map (pop_in is list) endings) (λ l. leb 4 l && leb l 15) lists refl
      (λ list h.
      let q = and_parts (leb 4 list) (leb list 15) h in
      each_flat (IsFound is) (pop_in is list) (λ e. true) endings refl (λ e t. pop_found list e (leb-true 4 list q.0) (leb-true list 15 q.1)))

-- ---- moves

saved_is : (r : ℕ) → is_saved r ≡ true → IsMoved r
saved_is r h = ⊎_elim
    (λ low. let q = and_parts (leb 8 r) (leb r 9) low in inl (leb-true 8 r q.0, leb-true r 9 q.1))
    (λ high. let q = and_parts (leb 18 r) (leb r 23) high in inr (leb-true 18 r q.0, leb-true r 23 q.1))
    (or_cases (leb 8 r && leb r 9) (leb 18 r && leb r 23) h)

moved_there : (o : Option Instr) (m : Move) → moved o ≡ Some m → o ≡ Some (move_to m.rd m.source)
moved_there None m h = absurd cc
moved_there (Some i) m h = ap Some (move_is i m h)

-- two moves of which the first is that of a0, and what is written for them
data IsPair (a b : Move) (s : Short) : Type 0 where
  ToSaved : a.source ≡ 10 → b.source ≡ 11 → IsMoved a.rd → IsMoved b.rd → b.rd ≢ a.rd → MoveSa a.rd b.rd ≡ s → IsPair a b s
  FromSaved : a.rd ≡ 10 → b.rd ≡ 11 → IsMoved a.source → IsMoved b.source → MoveAs a.source b.source ≡ s → IsPair a b s

pair_is : (a b : Move) (s : Short) → pair_of a b ≡ Some s → IsPair a b s
pair_is a b s h = by (is_to_saved a b) (is_from_saved a b) refl refl h
  where
    by : (x y : Bool) → is_to_saved a b ≡ x → is_from_saved a b ≡ y → cond x (Some (MoveSa a.rd b.rd)) (cond y (Some (MoveAs a.source b.source)) None) ≡ Some s → IsPair a b s
    by true y to from g =
        let q = and_parts (eqb a.source 10) (eqb b.source 11 && (is_saved a.rd && (is_saved b.rd && not (eqb a.rd b.rd)))) to in
        let t = and_parts (eqb b.source 11) (is_saved a.rd && (is_saved b.rd && not (eqb a.rd b.rd))) q.1 in
        let u = and_parts (is_saved a.rd) (is_saved b.rd && not (eqb a.rd b.rd)) t.1 in
        let v = and_parts (is_saved b.rd) (not (eqb a.rd b.rd)) u.1 in
        ToSaved (eqb-true a.source 10 q.0) (eqb-true b.source 11 t.0) (saved_is a.rd u.0) (saved_is b.rd v.0)
        (λ same. false≢true (sym (ap not (eq-eqb a.rd b.rd (sym same))) ∙ v.1)) cc
    by false true to from g =
        let q = and_parts (eqb a.rd 10) (eqb b.rd 11 && (is_saved a.source && is_saved b.source)) from in
        let t = and_parts (eqb b.rd 11) (is_saved a.source && is_saved b.source) q.1 in
        let u = and_parts (is_saved a.source) (is_saved b.source) t.1 in
        FromSaved (eqb-true a.rd 10 q.0) (eqb-true b.rd 11 t.0) (saved_is a.source u.0) (saved_is b.source u.1) cc
    by false false to from g = absurd cc

module _ (is : List Instr) where
  -- two moves, in either order, are found as one halfword
  abbrev pair_found : Short → Found
  pair_found s = record { items = 2; kind = s; rest = 0 }

  first_pair : (a b : Move) (s : Short) → is ≡ move_to a.rd a.source ∷ move_to b.rd b.source ∷ drop 2 is → IsPair a b s → IsFound is (pair_found s)
  first_pair a b s two (ToSaved sa sb ra rb other same) = record {
    kind = MovesToSaved A0First a.rd b.rd;
    group = (ra, rb, other);
    tail = drop 2 is;
    first = two ∙ ap₂ (λ x y. move_to a.rd x ∷ move_to b.rd y ∷ drop 2 is) sa sb;
    items = refl;
    half = sym same;
    rest = refl;
  }
  first_pair a b s two (FromSaved ra rb sa sb same) = record {
    kind = MovesFromSaved A0First a.source b.source;
    group = (sa, sb);
    tail = drop 2 is;
    first = two ∙ ap₂ (λ x y. move_to x a.source ∷ move_to y b.source ∷ drop 2 is) ra rb;
    items = refl;
    half = sym same;
    rest = refl;
  }

  second_pair : (a b : Move) (s : Short) → is ≡ move_to a.rd a.source ∷ move_to b.rd b.source ∷ drop 2 is → IsPair b a s → IsFound is (pair_found s)
  second_pair a b s two (ToSaved sb sa rb ra other same) = record {
    kind = MovesToSaved A1First b.rd a.rd;
    group = (rb, ra, other);
    tail = drop 2 is;
    first = two ∙ ap₂ (λ x y. move_to a.rd x ∷ move_to b.rd y ∷ drop 2 is) sa sb;
    items = refl;
    half = sym same;
    rest = refl;
  }
  second_pair a b s two (FromSaved rb ra sb sa same) = record {
    kind = MovesFromSaved A1First b.source a.source;
    group = (sb, sa);
    tail = drop 2 is;
    first = two ∙ ap₂ (λ x y. move_to x a.source ∷ move_to y b.source ∷ drop 2 is) ra rb;
    items = refl;
    half = sym same;
    rest = refl;
  }

  moves_found : Each (IsFound is) (option_to_list (moves_in is))
  moves_found = by (moved (slice_get is 0)) (moved (slice_get is 1)) refl refl
    where
      pairs : (a b : Move) → is ≡ move_to a.rd a.source ∷ move_to b.rd b.source ∷ drop 2 is → (o u : Option Short) → pair_of a b ≡ o → pair_of b a ≡ u
          → Each (IsFound is) (option_to_list (option_map (λ kind. record { items = 2; kind = kind; rest = 0 }) (option_or o u)))
      pairs a b two (Some s) u x y = (first_pair a b s two (pair_is a b s x), tt)
      pairs a b two None (Some s) x y = (second_pair a b s two (pair_is b a s y), tt)
      pairs a b two None None x y = tt

      by : (o u : Option Move) → moved (slice_get is 0) ≡ o → moved (slice_get is 1) ≡ u
          → Each (IsFound is) (option_to_list (option_map (λ kind. record { items = 2; kind = kind; rest = 0 }) (either_pair o u)))
      by None u x y = tt
      by (Some a) None x y = tt
      by (Some a) (Some b) x y =
          pairs a b (second_is is (move_to a.rd a.source) (move_to b.rd b.source) (moved_there (slice_get is 0) a x) (moved_there (slice_get is 1) b y)) (pair_of a b) (pair_of b a) refl refl

-- ---- the longest

longest_holds : (P : Found → Type 0) (fs : List Found) (o : Option Found) (f : Found) → Each P fs → ((g : Found) → o ≡ Some g → P g) → fold longer_of o fs ≡ Some f → P f
longest_holds P [] o f each held h = held f h
longest_holds P (x ∷ xs) o f each held h = longest_holds P xs (longer_of o x) f each.1 (next o held) h
  where
    next : (u : Option Found) → ((g : Found) → u ≡ Some g → P g) → (g : Found) → longer_of u x ≡ Some g → P g
    next None before g k = let same : x ≡ g = cc in subst P same each.0
    next (Some u) before g k = either (ltb u.items x.items) k
      where
        either : (b : Bool) → cond b (Some x) (Some u) ≡ Some g → P g
        either true t = let same : x ≡ g = cc in subst P same each.0
        either false t = before g t

-- what is found is a group that the instructions begin with
pub longest_is : (is : List Instr) (f : Found) → longest_of is ≡ Some f → IsFound is f
unfolding longest_of
longest_is is f h =
    longest_holds (IsFound is) (all_found is) None f
    (each-append (IsFound is) (pushes_in is) (pops_in is ++ option_to_list (moves_in is)) (pushes_found is)
    (each-append (IsFound is) (pops_in is) (option_to_list (moves_in is)) (pops_found is) (moves_found is)))
    (λ g k. absurd cc) h
