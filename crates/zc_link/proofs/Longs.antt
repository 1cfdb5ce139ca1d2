-- Long branches: one of the opposite condition goes over a jump. If the program's branch isn't taken, that is one commit, and goes to
-- what follows the jump; if it is, both are commits, and between them the states are alike.
use Rattle.std.proofs.Common.{◌≡◌, ℕ, ◌+◌, ◌<◌, List, Option, Some, None, Ok, Bool, true, false, refl, sym, ap, ◌∙◌, subst, arith, cond}
use Rattle.std.specs.Prelude.{not}
use Rattle.zc_base.specs.declared.place.Place.{Place}
use Rattle.interrupt_plan.specs.Plan.{Interrupt}
use Rattle.rv_decode.specs.declared.instr.BranchOp.{BranchOp}
use Rattle.rv_decode.specs.declared.instr.Instr.{Instr}
use Rattle.rv_decode.specs.declared.instr.Instr.TheVariants as instr
use Rattle.rv_decode.specs.declared.instr.Instr.TheVariants.{Jal}
use Rattle.rv_decode.specs.Bits.{add32}
use Rattle.rv_decode.specs.Effect.{Commits, after, onward}
use Rattle.rv_decode.specs.Results.{is_taken}
use Rattle.rv_decode.specs.State.{ZcCore, ZcState, reg_in}
use Rattle.sym_machine.specs.Change.{Change, Goes, branch_does, continues, item_does}
use Rattle.sym_machine.specs.Conditions.{condition}
use Rattle.sym_machine.specs.Program.{Program}
use Rattle.sym_machine.specs.State.{PlainCore, PlainState, reg_of}
use Rattle.sym_machine.specs.Step.{after_change}
use Rattle.zc_decode.specs.declared.short.Short.TheVariants.{Base}
use Rattle.zc_machine.specs.Fetch.{fetched_at}
use Rattle.zc_machine.specs.Run.{committed, zc_turn, zc_turns}
use Rattle.zc_machine.specs.Step.{effect_step}
use Rattle.zc_machine.proofs.TurnLaws.{zc_turns-more}
use Rattle.zc_link.specs.Image.{Image, loaded_core}
use Rattle.zc_link.specs.Pace.{LongOf, commits_of, long_commits}
use Rattle.zc_link.specs.Invariants.Stretches.{LongLaid, OneAt}
use Rattle.zc_link.specs.Invariants.Room.{Room}
use Rattle.zc_link.specs.IsSimulation.{Comes}
use Rattle.zc_link.specs.Sound.{Alike, Ready}
use Rattle.zc_link.proofs.Branches.{condition_is}
use Rattle.zc_link.proofs.Commits.{AfterCuts, after_cuts, zc_turns-one}
use Rattle.zc_link.proofs.Instrs.{IsQuiet}
use Rattle.zc_link.proofs.Ready.{alike_moved, ready_moved}
use Rattle.zc_link.proofs.Singles.{FromSound, below_top, comes_after}

-- ---- whether it is taken

-- whether the program's branch is taken, if that is known
abbrev branch_taken : Program → PlainCore → BranchOp → ℕ → ℕ → Option Bool
branch_taken p s op one two = condition p op (reg_of s one) (reg_of s two)

-- the image's branch is taken just if the program's isn't
other_taken :
    {p : Program} {Named : Place → Type 0} {e : Image} {q : Place} {a : ℕ} {op : BranchOp} {one two : ℕ} {s : PlainCore} {y : ZcCore} (t : Bool) → Room p e → Ready p Named e s y
    → (laid : LongLaid p e q a op one two) → branch_taken p s op one two ≡ Some t → is_taken laid.other (reg_in y one) (reg_in y two) ≡ not t
other_taken {op = op} {one = one} {two = two} {s = s} {y = y} t room ready laid is =
    laid.opposite (reg_in y one) (reg_in y two)
    ∙ ap not (condition_is room op (reg_of s one) (reg_of s two) (reg_in y one) (reg_in y two) t
    (ready.core.words one) (ready.core.words two) (ready.registers one laid.first_low) (ready.registers two laid.second_low) is)

-- the branch has two commits, so the program's branch is taken
pub record IsTaken (p : Program) (s : PlainCore) (op : BranchOp) (one two : ℕ) : Type 0 where
  pub is : branch_taken p s op one two ≡ Some true
  pub commits : commits_of p s (LongOf op one two) ≡ 2

pub known_taken : (p : Program) (s : PlainCore) (op : BranchOp) (one two : ℕ) → 1 < commits_of p s (LongOf op one two) → IsTaken p s op one two
known_taken p s op one two more = by (branch_taken p s op one two) refl
  where
    by : (o : Option Bool) → branch_taken p s op one two ≡ o → IsTaken p s op one two
    by None is = absurd (omega (arith, more, ap long_commits is))
    by (Some false) is = absurd (omega (arith, more, ap long_commits is))
    by (Some true) is = record { is = is; commits = ap long_commits is }

-- the image's branch isn't taken, and goes on to the jump
pub goes_over :
    {p : Program} {Named : Place → Type 0} {e : Image} {a : ℕ} {op : BranchOp} {one two : ℕ} (s : PlainCore) (y : ZcCore) → Room p e → Alike p Named e s y
    → (laid : LongLaid p e s.place a op one two) → branch_taken p s op one two ≡ Some true → is_taken laid.other (reg_in y one) (reg_in y two) ≡ false
goes_over s y room al laid is = other_taken true room al.ready laid is

-- ---- its commits

module _
    {p : Program} {Named : Place → Type 0} {e : Image} {r r' : PlainState} {cuts : ℕ → List Interrupt} {z : ZcState} {op : BranchOp} {one two : ℕ}
    (room : Room p e) (from : FromSound p Named e r r' cuts z) (laid : LongLaid p e r.core.place z.core.pc op one two) where
  -- whether it is taken
  abbrev taken : Option Bool
  taken = branch_taken p r.core op one two

  -- the instruction over the jump
  abbrev over_jump : Instr
  over_jump = instr.Branch laid.other one two laid.over

  abbrev next : Place
  next = p.next r.core.place

  -- the state before the first instruction
  abbrev first : AfterCuts p Named e over_jump laid.at.one.size r.core (cuts 0) z
  first = after_cuts room (cuts 0) (from.are 0) laid.at.one from.sound.alike

  -- the state after it, by whether it is taken
  abbrev after_first : Bool → ZcCore
  after_first t = record (onward first.now laid.at.one.size first.now.regs) { pc = cond t (add32 first.now.pc laid.over) (after first.now laid.at.one.size) }

  first_turn : (t : Bool) → taken ≡ Some t → zc_turn (cuts 0) z ≡ Ok (record z { core = after_first (not t) })
  first_turn t is =
      first.turn
      ∙ ap (λ b. committed (effect_step (Commits (after_first b)) first.now) (record z { core = first.now })) (other_taken t room first.alike.ready laid is)

  -- a change of the program's that only goes to a place
  comes_to :
      (k : ℕ) (y : ZcCore) (to : Place) → zc_turns cuts k z ≡ Ok (record z { core = y }) → Ready p Named e (after_change (continues to) r.core) y
      → e.address to ≡ Some y.pc → continues to ≡ from.step.change → Comes p Named e cuts k z r'
  comes_to k y to runs ready at is =
      comes_after from k y runs (subst (λ c. Ready p Named e (after_change c r.core) y) is ready) (subst IsQuiet is (record { events = refl; taken = refl }))
      (ap (λ (c : Change). e.address c.place) (sym is) ∙ at)

  -- one, over the jump
  over_comes : taken ≡ Some false → continues next ≡ from.step.change → Comes p Named e cuts 1 z r'
  over_comes is same =
      let y = after_first true in
      comes_to 1 y next (zc_turns-one cuts z (record z { core = y }) (first_turn false is)) (ready_moved first.alike.ready next y.pc y.commits)
      (laid.next ∙ ap Some (sym laid.lands ∙ ap (λ a. add32 a laid.over) (sym first.pc))) same

  -- ---- two

  abbrev between : ZcCore
  between = after_first false

  between_pc : between.pc ≡ z.core.pc + laid.at.one.size
  between_pc = sym (below_top z.core.pc first.now.pc laid.at.one.size first.pc laid.at.one.small)

  abbrev second_at : OneAt e between.pc (Base (Jal 0 laid.distance))
  second_at = record {
    size = laid.at.two.size;
    here = ap (fetched_at (loaded_core e)) between_pc ∙ laid.at.two.here;
    small = omega (arith, laid.at.two.small, between_pc);
  }

  -- the state before the jump, and after it
  abbrev second : AfterCuts p Named e (Jal 0 laid.distance) laid.at.two.size r.core (cuts 1) (record z { core = between })
  second = after_cuts room (cuts 1) (from.are 1) second_at (alike_moved between.pc between.commits first.alike)

  abbrev there : ZcCore
  there = record (onward second.now laid.at.two.size second.now.regs) { pc = add32 second.now.pc laid.distance }

  two_come : taken ≡ Some true → continues laid.to ≡ from.step.change → Comes p Named e cuts 2 z r'
  two_come is same =
      let z1 : ZcState = record z { core = between } in
      let runs = zc_turns-more cuts 1 z z1 (record z { core = there }) (zc_turns-one cuts z z1 (first_turn true is)) second.turn in
      comes_to 2 there laid.to runs (ready_moved second.alike.ready laid.to there.pc there.commits)
      (laid.reaches ∙ ap (λ a. Some (add32 a laid.distance)) (sym (second.pc ∙ between_pc))) same

  -- ---- both

  pub long_comes : Comes p Named e cuts (commits_of p r.core (LongOf op one two)) z r'
  long_comes = by taken refl does
    where
      does : branch_does taken laid.to next ≡ Goes from.step.change
      does = ap (λ o. item_does p o r.core next) (sym laid.item) ∙ from.step.does

      by : (o : Option Bool) → taken ≡ o → branch_does o laid.to next ≡ Goes from.step.change → Comes p Named e cuts (long_commits o) z r'
      by None is h = absurd cc
      by (Some false) is h = over_comes is (let same : continues next ≡ from.step.change = cc in same)
      by (Some true) is h = two_come is (let same : continues laid.to ≡ from.step.change = cc in same)
