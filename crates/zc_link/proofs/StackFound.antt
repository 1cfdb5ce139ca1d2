-- Where a push or a pop starts and the program isn't stuck, sp is set: one of its items needs it, and before that
-- there is at most `addi a0,x0,0`, which keeps sp.
use Rattle.std.specs.List.{list_any}
use Rattle.std.specs.Option.{option_map_or}
use Rattle.std.specs.Prelude.{not, ◌&&◌, ◌||◌, ◌⊎◌}
use Rattle.std.proofs.Common.{◌≡◌, ℕ, List, [], ◌∷◌, ◌++◌, length, Option, Some, None, Ok, Bool, true, false, refl, sym, ap, ◌∙◌, subst, arith, pos, inl, inr}
use Rattle.std.proofs.lemmas.Option.{none-some}
use Rattle.block_cut.specs.declared.item.Item.{Item}
use Rattle.block_cut.specs.declared.item.Item.TheVariants.{Op, RawShort}
use Rattle.rv_decode.specs.declared.instr.ImmOp.TheVariants.{Addi}
use Rattle.rv_decode.specs.declared.instr.Instr.{Instr}
use Rattle.rv_decode.specs.Run.{iterate}
use Rattle.rv_decode.proofs.RegisterLaws.{reads-set_reg_other}
use Rattle.rv_decode.proofs.RunLaws.{bind_ok}
use Rattle.sym_machine.specs.Change.{sets}
use Rattle.sym_machine.specs.Expansions.{item_expansion}
use Rattle.sym_machine.specs.Program.{Program}
use Rattle.sym_machine.specs.Run.{plain_turn}
use Rattle.sym_machine.specs.State.{PlainCore, PlainState, reg_of}
use Rattle.sym_machine.specs.Step.{after_change, in_stack, is_of_frame, is_set, needs_stack}
use Rattle.sym_machine.specs.Words.{imm_word, number_of, number_word, undef_word}
use Rattle.sym_machine.proofs.RunLaws.{turn_found}
use Rattle.sym_machine.proofs.StepLaws.{lacks_stack}
use Rattle.zc_link.specs.Invariants.Groups.{Ending, GoesOn, Returns, Slot, ZeroBeforeRaise, ZeroBeforeReturn, ZeroFirst, ops_before_return, pop_ops, push_ops, raise_sp, slot_loads, zero_a0}
use Rattle.zc_link.specs.Invariants.Stretches.{AreOps}
use Rattle.zc_link.proofs.Straight.{StepOf, step_of}

-- ---- a step of what needs the stack

pub set_found : (p : Program) (s : PlainCore) → lacks_stack p s ≡ false → needs_stack (p.item s.place) ≡ true → is_set p.map s ≡ true
set_found p s found needs = by (is_set p.map s) (ap (λ b. b && not (is_set p.map s)) (sym needs) ∙ found)
  where
    by : (b : Bool) → not b ≡ false → b ≡ true
    by true h = refl
    by false h = absurd cc

-- a halfword that expands needs it if one of its instructions does
pub expansion_needs : (o : Option Item) (is : List Instr) → item_expansion o ≡ Some is → needs_stack o ≡ list_any is_of_frame is
expansion_needs (Some (RawShort half)) is are = ap (λ o. option_map_or (list_any is_of_frame) o false) are
expansion_needs other is are = absurd (none-some is are)

-- ---- a push and a pop

-- one of the instructions needs the stack, behind at most `addi a0,x0,0`
abbrev pub FindStack : List Instr → Type 0
FindStack [] = ⊥
FindStack (i ∷ is) = (is_of_frame i ≡ true) ⊎ ((i ≡ zero_a0) × FindStack is)

pub finds_more : (is js : List Instr) → FindStack is → FindStack (is ++ js)
finds_more [] js f = absurd f
finds_more (i ∷ is) js (inl here) = inl here
finds_more (i ∷ is) js (inr later) = inr (later.0, finds_more is js later.1)

pub push_finds : (frame : ℕ) (order : List Slot) → FindStack (push_ops frame order)
push_finds frame order = inl refl

loads_find : (order : List Slot) (is : List Instr) → FindStack is → FindStack (slot_loads order ++ is)
loads_find [] is f = f
loads_find (d ∷ ds) is f = inl refl

pub pop_finds : (ending : Ending) (frame : ℕ) (order : List Slot) → FindStack (ops_before_return ending frame order)
pop_finds GoesOn frame order = loads_find order (raise_sp frame ∷ []) (inl refl)
pop_finds Returns frame order = loads_find order (raise_sp frame ∷ []) (inl refl)
pop_finds ZeroFirst frame order = inr (refl, loads_find order (raise_sp frame ∷ []) (inl refl))
pop_finds ZeroBeforeRaise frame order = loads_find order (zero_a0 ∷ raise_sp frame ∷ []) (inr (refl, inl refl))
pop_finds ZeroBeforeReturn frame order = finds_more (pop_ops frame order) (zero_a0 ∷ []) (loads_find order (raise_sp frame ∷ []) (inl refl))

-- by one step of all of them
pub any_finds : (is : List Instr) → FindStack is → list_any is_of_frame is ≡ true
any_finds [] f = absurd f
any_finds (i ∷ is) (inl here) = ap (λ b. b || list_any is_of_frame is) here
any_finds (i ∷ is) (inr later) = ap (λ b. is_of_frame i || b) (any_finds is later.1) ∙ either (is_of_frame i)
  where
    either : (b : Bool) → (b || true) ≡ true
    either true = refl
    either false = refl

-- of a halfword that expands to them
pub expansion_set :
    (p : Program) (s : PlainCore) (is ops : List Instr) → ops ≡ is → item_expansion (p.item s.place) ≡ Some is → lacks_stack p s ≡ false → FindStack ops → is_set p.map s ≡ true
expansion_set p s is ops same expands found f =
    set_found p s found (expansion_needs (p.item s.place) is expands ∙ ap (list_any is_of_frame) (sym same) ∙ any_finds ops f)

-- `addi a0,x0,0` keeps sp
zero_keeps : (p : Program) (r r1 : PlainState) → StepOf p zero_a0 r r1 → is_set p.map r1.core ≡ is_set p.map r.core
zero_keeps p r r1 of =
    let w = imm_word Addi (reg_of r.core 0) (pos 0) in
    let c = of.step.change in
    let same : sets 10 w (p.next r.core.place) ≡ c = (let g = of.does in cc) in
    ap (is_set p.map) of.step.end.state
    ∙ ap (λ x. is_set p.map (after_change x r.core)) (sym same)
    ∙ ap (λ x. option_map_or (in_stack p.map) (number_of x) false)
    (reads-set_reg_other (number_word 0) undef_word r.core.regs 10 w 2 (λ (is : 2 ≡ 10). omega (arith, is)))

-- by their steps, one after another
pub finds_set :
    (p : Program) (is : List Instr) (r r' : PlainState) → FindStack is → AreOps p r.core.place is → r.core.exit ≡ None → iterate (plain_turn p) (length is) r ≡ Ok r'
    → is_set p.map r.core ≡ true
finds_set p [] r r' f ops running h = absurd f
finds_set p (i ∷ is) r r' (inl here) ops running h =
    let first = bind_ok (plain_turn p r) (iterate (plain_turn p) (length is)) r' h in
    set_found p r.core (turn_found p r first.0 running first.1) (ap needs_stack ops.0 ∙ here)
finds_set p (i ∷ is) r r' (inr later) ops running h =
    let first = bind_ok (plain_turn p r) (iterate (plain_turn p) (length is)) r' h in
    let of = step_of p zero_a0 r first.0 (omega arith) (ops.0 ∙ ap (λ x. Some (Op x)) later.0) running first.1 in
    sym (zero_keeps p r first.0 of)
    ∙ finds_set p is first.0 r' later.1 (subst (λ q. AreOps p q is) (sym of.came.place) ops.1) of.came.running first.2
