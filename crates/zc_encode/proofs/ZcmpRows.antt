-- The rows of pushes and pops, of moves, and of table jumps.
use Rattle.std.proofs.Common.{◌≡◌, ℕ, ◌+◌, ◌-◌, ◌*◌, ◌/◌, ◌%◌, ◌^◌, ◌<◌, ◌≤◌, Some, None, Bool, true, false, cond, refl, sym, ap, ◌∙◌, arith, eqb, ltb, leb}
use Rattle.std.specs.Prelude.{◌&&◌}
use Rattle.std.specs.Option.{option_flatten}
use Rattle.std.proofs.lemmas.Bool.{and_parts, cond-false, cond-true, lt-ltb, eqb-true, leb-true, ltb-true, le-ltb, ne_eqb, eqb-false}
use Rattle.rv_decode.specs.Bits.{field}
use Rattle.rv_decode.specs.Decode.{row_of}
use Rattle.zc_decode.specs.Fields.{adjust_of, group_of, index_of, list_of, r1s_of, r2s_of, s_register_of}
use Rattle.zc_decode.specs.Lists.{stack_adjust_base}
use Rattle.zc_decode.specs.Rows.{form_of, unless, zcmp_lists, zcmp_moves}
use Rattle.zc_decode.specs.declared.form.Form.{Form}
use Rattle.zc_decode.specs.declared.form.Form.TheVariants.{CmJalt, CmJt, CmMva01s, CmMvsa01, CmPop, CmPopret, CmPopretz, CmPush}
use Rattle.zc_decode.specs.declared.short.Short.TheVariants.{Push, Pop, PopRet, PopRetz, MoveSa, MoveAs, TableJump}
use Rattle.zc_decode.proofs.FormLaws.{form_in_zcmp}
use Rattle.zc_encode.specs.Halves.{half_of, list_half, move_half, move_sa_half, s_code, table_half}
use Rattle.zc_encode.proofs.HalfLaws.{fields_of}
use Rattle.zc_encode.proofs.NumberLaws.{and_four, when_some}
use Rattle.zc_encode.proofs.RowFits.{InRowOf, RowOf}

-- ---- pushes and pops

record OfList (kind list adjust half : ℕ) : Type 0 where
  small : half < 2 ^ 16
  in_group : group_of half ≡ 0b101_10
  twelfth : field half 10 3 ≡ 4 + kind / 4
  kind_is : field half 8 5 ≡ 16 + kind
  list_is : list_of half ≡ list
  adjust_is : adjust_of half ≡ adjust
  some : ltb (list_of half) 4 ≡ false

of_list : (kind list adjust half : ℕ) → kind < 16 → list_half kind list adjust ≡ Some half → OfList kind list adjust half
of_list kind list adjust half four h =
    let base = stack_adjust_base list in
    let more = adjust - base in
    let t = when_some (leb 4 list && (ltb list 16 && (leb base adjust && (eqb (more % 16) 0 && ltb more 64)))) (half_of 0b101_10 1 (kind * 2 + field list 3 1) (field list 0 3 * 4 + more / 16)) half h in
    let p = and_parts (leb 4 list) (ltb list 16 && (leb base adjust && (eqb (more % 16) 0 && ltb more 64))) t.0 in
    let tests = and_four (ltb list 16) (leb base adjust) (eqb (more % 16) 0) (ltb more 64) p.1 in
    built base (leb-true 4 list p.0) (ltb-true list 16 tests.0) (leb-true base adjust tests.1) (eqb-true (more % 16) 0 tests.2) (ltb-true more 64 tests.3) t.1 refl
  where
    built : (base : ℕ) → 4 ≤ list → list < 16 → base ≤ adjust → (adjust - base) % 16 ≡ 0 → adjust - base < 64 → half ≡ half_of 0b101_10 1 (kind * 2 + field list 3 1) (field list 0 3 * 4 + (adjust - base) / 16) → stack_adjust_base list ≡ base → OfList kind list adjust half
    built base least most more_than whole few is same =
        let f = fields_of 0b101_10 1 (kind * 2 + field list 3 1) (field list 0 3 * 4 + (adjust - base) / 16) half is (omega arith) (omega arith) (omega (arith, four)) (omega (arith, few)) in
        let number : list_of half ≡ list = omega (arith, f.above, f.below, most, few) in
        let more : field half 2 2 ≡ (adjust - base) / 16 = omega (arith, f.below, few) in
        let sum : base + 16 * ((adjust - base) / 16) ≡ adjust = omega (arith, more_than, whole) in
        record {
          small = f.small;
          in_group = f.in_group;
          twelfth = omega (arith, f.twelfth, f.above, four);
          kind_is = omega (arith, f.twelfth, f.above, four);
          list_is = number;
          adjust_is = (λ i. stack_adjust_base (number i) + 16 * more i) ∙ ap (λ b. b + 16 * ((adjust - base) / 16)) same ∙ sum;
          some = ap (λ k. ltb k 4) number ∙ le-ltb list 4 least;
        }

-- the row by its bits 12 to 8
by_kind : (kind list adjust half : ℕ) (l : OfList kind list adjust half) (form : Form) → row_of zcmp_lists (16 + kind) ≡ Some form → form_of half ≡ cond (ltb (list_of half) 4) None (row_of zcmp_lists (field half 8 5)) → form_of half ≡ Some form
by_kind kind list adjust half l form row here = here ∙ ap (λ b. cond b None (row_of zcmp_lists (field half 8 5))) l.some ∙ ap (row_of zcmp_lists) l.kind_is ∙ row

pub push_row : (list adjust half : ℕ) → list_half 0b1000 list adjust ≡ Some half → RowOf CmPush half (Push list adjust)
push_row list adjust half h =
    let l = of_list 0b1000 list adjust half (omega arith) h in
    record { small = l.small; row = by_kind 0b1000 list adjust half l CmPush refl (form_in_zcmp half 0b110 _ l.in_group l.twelfth refl); no_hint = refl; is = λ i. Push (l.list_is i) (l.adjust_is i) }

pub pop_row : (list adjust half : ℕ) → list_half 0b1010 list adjust ≡ Some half → RowOf CmPop half (Pop list adjust)
pop_row list adjust half h =
    let l = of_list 0b1010 list adjust half (omega arith) h in
    record { small = l.small; row = by_kind 0b1010 list adjust half l CmPop refl (form_in_zcmp half 0b110 _ l.in_group l.twelfth refl); no_hint = refl; is = λ i. Pop (l.list_is i) (l.adjust_is i) }

pub popretz_row : (list adjust half : ℕ) → list_half 0b1100 list adjust ≡ Some half → RowOf CmPopretz half (PopRetz list adjust)
popretz_row list adjust half h =
    let l = of_list 0b1100 list adjust half (omega arith) h in
    record { small = l.small; row = by_kind 0b1100 list adjust half l CmPopretz refl (form_in_zcmp half 0b111 _ l.in_group l.twelfth refl); no_hint = refl; is = λ i. PopRetz (l.list_is i) (l.adjust_is i) }

pub popret_row : (list adjust half : ℕ) → list_half 0b1110 list adjust ≡ Some half → RowOf CmPopret half (PopRet list adjust)
popret_row list adjust half h =
    let l = of_list 0b1110 list adjust half (omega arith) h in
    record { small = l.small; row = by_kind 0b1110 list adjust half l CmPopret refl (form_in_zcmp half 0b111 _ l.in_group l.twelfth refl); no_hint = refl; is = λ i. PopRet (l.list_is i) (l.adjust_is i) }

-- ---- moves

-- a register that has a number of three bits is the one of that number
s_code-back : (r : ℕ) → s_code r < 8 → s_register_of (s_code r) ≡ r
s_code-back r lt = either (leb 8 r && ltb r 10) (leb 18 r && ltb r 24) refl refl lt
  where
    either :
        (a b : Bool) → (leb 8 r && ltb r 10) ≡ a → (leb 18 r && ltb r 24) ≡ b → cond a (r - 8) (cond b (r - 16) 8) < 8
        → s_register_of (cond a (r - 8) (cond b (r - 16) 8)) ≡ r
    either true b is other few =
        let p = and_parts (leb 8 r) (ltb r 10) is in
        let least = leb-true 8 r p.0 in
        let most = ltb-true r 10 p.1 in
        let low : r - 8 < 2 = omega (arith, least, most) in
        let sum : 8 + (r - 8) ≡ r = omega (arith, least) in
        cond-true (ltb (r - 8) 2) (8 + (r - 8)) (16 + (r - 8)) (lt-ltb (r - 8) 2 low) ∙ sum
    either false true other is few =
        let p = and_parts (leb 18 r) (ltb r 24) is in
        let least = leb-true 18 r p.0 in
        let high : 2 ≤ r - 16 = omega (arith, least) in
        let sum : 16 + (r - 16) ≡ r = omega (arith, least) in
        cond-false (ltb (r - 16) 2) (8 + (r - 16)) (16 + (r - 16)) (le-ltb (r - 16) 2 high) ∙ sum
    either false false other is few = absurd (omega (arith, few))

record Move (which first second half : ℕ) : Type 0 where
  small : half < 2 ^ 16
  in_group : group_of half ≡ 0b101_10
  operation : field half 10 3 ≡ 0b011
  which_is : field half 5 2 ≡ which
  upper : field half 7 3 ≡ s_code first
  lower : field half 2 3 ≡ s_code second
  first_is : r1s_of half ≡ first
  second_is : r2s_of half ≡ second

move : (which first second half : ℕ) → which < 4 → move_half which first second ≡ Some half → Move which first second half
move which first second half two h =
    let t = when_some (ltb (s_code first) 8 && ltb (s_code second) 8) (half_of 0b101_10 0 (24 + s_code first) (which * 8 + s_code second)) half h in
    let tests = and_parts (ltb (s_code first) 8) (ltb (s_code second) 8) t.0 in
    let a = ltb-true (s_code first) 8 tests.0 in
    let b = ltb-true (s_code second) 8 tests.1 in
    built (s_code first) (s_code second) a b t.1 refl refl (s_code-back first a) (s_code-back second b)
  where
    built : (m n : ℕ) → m < 8 → n < 8 → half ≡ half_of 0b101_10 0 (24 + m) (which * 8 + n) → m ≡ s_code first → n ≡ s_code second → s_register_of m ≡ first → s_register_of n ≡ second → Move which first second half
    built m n lm ln is am an back_m back_n =
        let f = fields_of 0b101_10 0 (24 + m) (which * 8 + n) half is (omega arith) (omega arith) (omega (arith, lm)) (omega (arith, ln, two)) in
        let upper : field half 7 3 ≡ m = omega (arith, f.above, lm) in
        let lower : field half 2 3 ≡ n = omega (arith, f.below, ln, two) in
        record {
          small = f.small;
          in_group = f.in_group;
          operation = omega (arith, f.twelfth, f.above, lm);
          which_is = omega (arith, f.below, ln, two);
          upper = upper ∙ am;
          lower = lower ∙ an;
          first_is = ap s_register_of upper ∙ back_m;
          second_is = ap s_register_of lower ∙ back_n;
        }

pub move_as_row : (first second half : ℕ) → move_half 0b11 first second ≡ Some half → RowOf CmMva01s half (MoveAs first second)
move_as_row first second half h =
    let m = move 0b11 first second half (omega arith) h in
    record { small = m.small; row = form_in_zcmp half 0b011 _ m.in_group m.operation refl ∙ ap (λ n. option_flatten (row_of (zcmp_moves half) n)) m.which_is; no_hint = refl; is = λ i. MoveAs (m.first_is i) (m.second_is i) }

pub move_sa_row : (first second half : ℕ) → move_sa_half first second ≡ Some half → RowOf CmMvsa01 half (MoveSa first second)
move_sa_row first second half h = either (eqb first second) refl h
  where
    either : (t : Bool) → eqb first second ≡ t → cond t None (move_half 0b01 first second) ≡ Some half → RowOf CmMvsa01 half (MoveSa first second)
    either true is g = absurd cc
    either false is g =
        let m = move 0b01 first second half (omega arith) g in
        let apart : eqb (field half 7 3) (field half 2 3) ≡ false = ne_eqb (field half 7 3) (field half 2 3) (λ e. eqb-false first second is (sym m.first_is ∙ ap s_register_of e ∙ m.second_is)) in
        record {
          small = m.small;
          row = form_in_zcmp half 0b011 _ m.in_group m.operation refl ∙ ap (λ n. option_flatten (row_of (zcmp_moves half) n)) m.which_is ∙ ap (λ b. unless b CmMvsa01) apart;
          no_hint = refl;
          is = λ i. MoveSa (m.first_is i) (m.second_is i);
        }

-- ---- table jumps

pub table_row : (index half : ℕ) → table_half index ≡ Some half → InRowOf half (TableJump index)
table_row index half h =
    let t = when_some (ltb index 256) (half_of 0b101_10 0 (index / 32) (index % 32)) half h in
    let lt = ltb-true index 256 t.0 in
    let f = fields_of 0b101_10 0 (index / 32) (index % 32) half t.1 (omega arith) (omega arith) (omega (arith, lt)) (omega arith) in
    let same : index_of half ≡ index = omega (arith, f.above, f.below, lt) in
    let row = form_in_zcmp half 0b000 _ f.in_group (omega (arith, f.twelfth, f.above, lt)) refl in
    either (ltb (index_of half) 32) refl f.small same row
  where
    either : (t : Bool) → ltb (index_of half) 32 ≡ t → half < 2 ^ 16 → index_of half ≡ index → form_of half ≡ Some (cond (ltb (index_of half) 32) CmJt CmJalt) → InRowOf half (TableJump index)
    either true is small same row = (CmJt, record { small = small; row = row ∙ ap (λ b. Some (cond b CmJt CmJalt)) is; no_hint = refl; is = ap TableJump same })
    either false is small same row = (CmJalt, record { small = small; row = row ∙ ap (λ b. Some (cond b CmJt CmJalt)) is; no_hint = refl; is = ap TableJump same })
