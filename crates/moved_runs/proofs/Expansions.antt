-- A push, a pop or a pair of moves under a map of places: what it stands for is done one after another, wherever it stands. None of
-- these instructions exits or keeps a link, so nothing needs to be known of the next place; a return goes to a place that is named.
use Rattle.std.proofs.Common.{◌≡◌, ℕ, ◌-◌, ◌%◌, pos, List, [], ◌∷◌, ◌++◌, Option, Some, None, Bool, true, false, cond, refl, sym, ap, ◌∙◌, subst, eqb, inl}
use Rattle.std.specs.Prelude.{◌⊎◌}
use Rattle.std.specs.Option.{option_and_then, option_map_or}
use Rattle.zc_base.specs.declared.mem_map.MemMap.{MemMap}
use Rattle.zc_base.specs.declared.place.Place.{Place}
use Rattle.rv_decode.specs.declared.instr.Instr.{Instr}
use Rattle.rv_decode.specs.declared.instr.Instr.TheVariants.{Jalr, Load, Store, WithImm}
use Rattle.rv_decode.specs.declared.instr.Instr.TheVariants as instr
use Rattle.rv_decode.specs.declared.instr.ImmOp.TheVariants.{Addi}
use Rattle.rv_decode.specs.Effect.{load_width, store_width}
use Rattle.zc_decode.specs.Halfwords.{decoded16}
use Rattle.zc_decode.specs.Lists.{registers_of}
use Rattle.zc_decode.specs.declared.short.Short.{Short}
use Rattle.zc_decode.specs.declared.short.Short.TheVariants.{Base, Push, Pop, PopRet, PopRetz, MoveSa, MoveAs, TableJump}
use Rattle.block_cut.specs.declared.item.Item.{Item}
use Rattle.block_cut.specs.declared.item.Item.TheVariants as item
use Rattle.sym_machine.specs.declared.why.Why.TheVariants.{BadAddress, Misaligned}
use Rattle.sym_machine.specs.Change.{Does, Goes, Stops, accessing, in_memory, item_does, jump_does, load_word, op_does, puts, sets, stored_bytes}
use Rattle.sym_machine.specs.Events.{SymEvent}
use Rattle.sym_machine.specs.Expansions.{expansion, item_expansion, restores, saves}
use Rattle.sym_machine.specs.Program.{Program}
use Rattle.sym_machine.specs.State.{PlainCore, reg_of}
use Rattle.sym_machine.specs.Step.{PlainStep, Went, Stuck, and_then, applied, in_turn, item_step}
use Rattle.sym_machine.specs.Words.{code_of, number_of, sum_word}
use Rattle.moved_runs.specs.Moved.{landing, moved_at, moved_item, moved_step}
use Rattle.moved_runs.specs.Moves.{ItemLeads, Moves, OpLeads, PcMoves}
use Rattle.moved_runs.proofs.States.{NamedCore}
use Rattle.moved_runs.proofs.Effects.{item-moved, op-moved}
use Rattle.moved_runs.proofs.Leads.{item-lead, op-lead}
use Rattle.moved_runs.proofs.Ends.{Fit, GoesOn, Quiet, applied-fit, applied-goes-on, applied-moved, applied-quiet, applied-stays}

-- ---- what items stand for

-- an instruction that neither exits nor keeps a link
abbrev pub IsUnlinked : Instr → Type 0
IsUnlinked (instr.Jalr rd base imm) = rd ≡ 0
IsUnlinked instr.Ecall = ⊥
IsUnlinked i = Unit {0}

abbrev pub AreUnlinked : List Instr → Type 0
AreUnlinked [] = Unit {0}
AreUnlinked (i ∷ is) = IsUnlinked i × AreUnlinked is

both-unlinked : (is js : List Instr) → AreUnlinked is → AreUnlinked js → AreUnlinked (is ++ js)
both-unlinked [] js a b = b
both-unlinked (i ∷ is) js a b = (a.0, both-unlinked is js a.1 b)

saves-unlinked : (top : ℕ) (rs : List ℕ) → AreUnlinked (saves top rs)
saves-unlinked top [] = tt
saves-unlinked top (r ∷ rs) = (tt, saves-unlinked (top - 4) rs)

restores-unlinked : (top : ℕ) (rs : List ℕ) → AreUnlinked (restores top rs)
restores-unlinked top [] = tt
restores-unlinked top (r ∷ rs) = (tt, restores-unlinked (top - 4) rs)

-- not none
abbrev IsSome : List Instr → Type 0
IsSome [] = ⊥
IsSome (i ∷ is) = Unit {0}

behind-some : (is : List Instr) (j : Instr) (js : List Instr) → IsSome (is ++ j ∷ js)
behind-some [] j js = tt
behind-some (i ∷ is) j js = tt

abbrev AreFew : Option (List Instr) → Type 0
AreFew None = Unit {0}
AreFew (Some is) = AreUnlinked is × IsSome is

pop-few : (top : ℕ) (rs : List ℕ) (j : Instr) (js : List Instr) → AreUnlinked (j ∷ js) → AreFew (Some (restores top rs ++ j ∷ js))
pop-few top rs j js a = (both-unlinked (restores top rs) (j ∷ js) (restores-unlinked top rs) a, behind-some (restores top rs) j js)

short-few : (s : Short) → AreFew (expansion s)
short-few (Base i) = tt
short-few (Push list adjust) = ((tt, saves-unlinked adjust (registers_of list)), tt)
short-few (Pop list adjust) = pop-few adjust (registers_of list) (WithImm Addi 2 2 (pos adjust)) [] (tt, tt)
short-few (PopRet list adjust) = pop-few adjust (registers_of list) (WithImm Addi 2 2 (pos adjust)) (Jalr 0 1 (pos 0) ∷ []) (tt, (refl, tt))
short-few (PopRetz list adjust) =
    pop-few adjust (registers_of list) (WithImm Addi 10 0 (pos 0)) (WithImm Addi 2 2 (pos adjust) ∷ Jalr 0 1 (pos 0) ∷ []) (tt, (tt, (refl, tt)))
short-few (MoveSa first second) = ((tt, (tt, tt)), tt)
short-few (MoveAs first second) = ((tt, (tt, tt)), tt)
short-few (TableJump index) = tt

half-few : (o : Option Short) → AreFew (option_and_then expansion o)
half-few None = tt
half-few (Some s) = short-few s

item-few : (i : Item) → AreFew (item_expansion (Some i))
item-few (item.RawShort h) = half-few (decoded16 h)
item-few i = tt

-- an item with its places moved stands for the same
pub expansion-moved : (M : Place → Place) (i : Item) → item_expansion (Some (moved_item M i)) ≡ item_expansion (Some i)
expansion-moved M (item.Op i) = refl
expansion-moved M (item.Hi i t) = refl
expansion-moved M (item.Lo i t) = refl
expansion-moved M (item.PcHi i t) = refl
expansion-moved M (item.PcLo i q) = refl
expansion-moved M (item.Branch op first second to) = refl
expansion-moved M (item.Jump rd to) = refl
expansion-moved M (item.Call rd temp to) = refl
expansion-moved M (item.Align n) = refl
expansion-moved M (item.Word t) = refl
expansion-moved M (item.Raw w) = refl
expansion-moved M (item.RawShort h) = refl
expansion-moved M (item.RawPair v w) = refl

-- ---- one of them

accessing-on : (n : ℕ) (o : Option ℕ) (s : PlainCore) (go : ℕ → Does) → ((a : ℕ) → GoesOn (go a)) → GoesOn (accessing n o s go)
accessing-on n None s go e = tt
accessing-on n (Some a) s go e = both (eqb (a % n) 0) (in_memory s a n)
  where
    both : (b c : Bool) → GoesOn (cond b (cond c (go a) (Stops BadAddress)) (Stops Misaligned))
    both true true = e a
    both true false = tt
    both false c = tt

jump-on : (o : Option Place) (rd : ℕ) (next : Place) → GoesOn (jump_does o rd next)
jump-on None rd next = tt
jump-on (Some q) rd next = refl

op-on : (i : Instr) (s : PlainCore) (next : Place) → IsUnlinked i → GoesOn (op_does i s next)
op-on (instr.Upper op rd imm) s next u = refl
op-on (instr.Jal rd d) s next u = tt
op-on (instr.Jalr rd base imm) s next u = jump-on (code_of (sum_word (reg_of s base) imm)) rd next
op-on (instr.Branch op a b d) s next u = tt
op-on (instr.Load op rd base imm) s next u = accessing-on (load_width op) (number_of (sum_word (reg_of s base) imm)) s (λ a. Goes (sets rd (load_word op s a) next)) (λ a. refl)
op-on (instr.Store op source base imm) s next u = accessing-on (store_width op) (number_of (sum_word (reg_of s base) imm)) s (λ a. Goes (puts a (stored_bytes op (reg_of s source)) next)) (λ a. refl)
op-on (instr.WithImm op rd first imm) s next u = refl
op-on (instr.WithReg op rd a b) s next u = refl
op-on (instr.Fence rest) s next u = refl
op-on instr.Ecall s next u = absurd u
op-on instr.Ebreak s next u = tt
op-on (instr.Csrrw rd source) s next u = tt

op-leads : (K : Place → Type 0) (i : Instr) (next : Place) → IsUnlinked i → OpLeads K i next
op-leads K (instr.Jalr rd base imm) next u = inl u
op-leads K (instr.Upper op rd imm) next u = tt
op-leads K (instr.Jal rd d) next u = tt
op-leads K (instr.Branch op a b d) next u = tt
op-leads K (instr.Load op rd base imm) next u = tt
op-leads K (instr.Store op source base imm) next u = tt
op-leads K (instr.WithImm op rd first imm) next u = tt
op-leads K (instr.WithReg op rd a b) next u = tt
op-leads K (instr.Fence rest) next u = tt
op-leads K instr.Ecall next u = tt
op-leads K instr.Ebreak next u = tt
op-leads K (instr.Csrrw rd source) next u = tt

-- ---- one after another

-- with no exit it doesn't matter where a step is said to have begun
goes-anywhere : (M : Place → Place) (from other : Place) (t : PlainStep) → ((s : PlainCore) (events : List SymEvent) → t ≡ Went s events → s.exit ≡ None) → moved_step M from t ≡ moved_step M other t
goes-anywhere M from other (Stuck why) h = refl
goes-anywhere M from other (Went s events) h =
    let on = h s events refl in
    ap (λ o. Went (moved_at M (landing M from o s.place) s) events) on ∙ ap (λ o. Went (moved_at M (landing M other o s.place) s) events) (sym on)

in_turn-on : (m : MemMap) (is : List Instr) (next : Place) (s s' : PlainCore) (events : List SymEvent) → AreUnlinked is → s.exit ≡ None → in_turn m is next s ≡ Went s' events → s'.exit ≡ None
in_turn-on m [] next s s' events u running h = let same : s ≡ s' = cc in subst (λ (t : PlainCore). t.exit ≡ None) same running
in_turn-on m (i ∷ is) next s s' events u running h = by (applied m s (op_does i s next)) refl h (λ t on g. in_turn-on m is next t s' events u.1 on g)
  where
    by :
        (t : PlainStep) → applied m s (op_does i s next) ≡ t → and_then t (in_turn m is next) ≡ Went s' events
        → ((s1 : PlainCore) → s1.exit ≡ None → in_turn m is next s1 ≡ Went s' events → s'.exit ≡ None) → s'.exit ≡ None
    by (Went s1 made) first g again = again s1 (applied-goes-on m s s1 made (op_does i s next) first (op-on i s next u.0)) g
    by (Stuck why) first g again = absurd cc

module _ (K V : Place → Type 0) (M : Place → Place) (p p' : Program) (law : Moves K V M p p') (m : MemMap) (next : Place) (visited : V next) where
  one-fit : (i : Instr) (s s' : PlainCore) (events : List SymEvent) → IsUnlinked i → NamedCore K s → applied m s (op_does i s next) ≡ Went s' events → Fit K V s'
  one-fit i s s' events u n h = applied-fit K V m s s' events (op_does i s next) h n (op-lead K V law.visits s.place i s next refl n visited (op-leads K i next u))

  in_turn-moved :
      (is : List Instr) (s : PlainCore) → AreUnlinked is → NamedCore K s → s.exit ≡ None
      → in_turn m is (M next) (moved_at M (M s.place) s) ≡ moved_step M (M s.place) (in_turn m is next s)
  in_turn-moved [] s u n running = ap (λ o. Went (moved_at M (landing M (M s.place) o s.place) s) []) (sym running)
  in_turn-moved (i ∷ is) s u n running =
      ap (λ t. and_then t (in_turn m is (M next)))
      (ap (applied m (moved_at M (M s.place) s)) (op-moved K V M p p' law (M s.place) i s next n) ∙ applied-moved M m (M s.place) s (op_does i s next))
      ∙ by (applied m s (op_does i s next)) refl (λ s1 named on. in_turn-moved is s1 u.1 named on)
    where
      by :
          (t : PlainStep) → applied m s (op_does i s next) ≡ t
          → ((s1 : PlainCore) → NamedCore K s1 → s1.exit ≡ None → in_turn m is (M next) (moved_at M (M s1.place) s1) ≡ moved_step M (M s1.place) (in_turn m is next s1))
          → and_then (moved_step M (M s.place) t) (in_turn m is (M next)) ≡ moved_step M (M s.place) (and_then t (in_turn m is next))
      by (Stuck why) first again = refl
      by (Went s1 made) first again =
          let on = applied-goes-on m s s1 made (op_does i s next) first (op-on i s next u.0) in
          let fit = one-fit i s s1 made u.0 n first in
          ap (λ o. in_turn m is (M next) (moved_at M (landing M (M s.place) o s1.place) s1)) on
          ∙ again s1 fit.named on
          ∙ goes-anywhere M (M s1.place) (M s.place) (in_turn m is next s1) (λ s' events h. in_turn-on m is next s1 s' events u.1 on h)

  in_turn-fit : (i : Instr) (is : List Instr) (s s' : PlainCore) (events : List SymEvent) → IsUnlinked i → AreUnlinked is → NamedCore K s → in_turn m (i ∷ is) next s ≡ Went s' events → Fit K V s' × Quiet m s'
  in_turn-fit i [] s s' events u us n h = by (applied m s (op_does i s next)) refl h
    where
      by : (t : PlainStep) → applied m s (op_does i s next) ≡ t → and_then t (in_turn m [] next) ≡ Went s' events → Fit K V s' × Quiet m s'
      by (Stuck why) first g = absurd cc
      by (Went s1 made) first g =
          let same : s1 ≡ s' = cc in
          subst (λ (t : PlainCore). Fit K V t × Quiet m t) same (one-fit i s s1 made u n first, applied-quiet m s s1 made (op_does i s next) first)
  in_turn-fit i (j ∷ js) s s' events u us n h = by (applied m s (op_does i s next)) refl h (λ s1 named g. in_turn-fit j js s1 s' events us.0 us.1 named g)
    where
      by :
          (t : PlainStep) → applied m s (op_does i s next) ≡ t → and_then t (in_turn m (j ∷ js) next) ≡ Went s' events
          → ((s1 : PlainCore) → NamedCore K s1 → in_turn m (j ∷ js) next s1 ≡ Went s' events → Fit K V s' × Quiet m s') → Fit K V s' × Quiet m s'
      by (Stuck why) first g again = absurd cc
      by (Went s1 made) first g again = let fit = one-fit i s s1 made u n first in again s1 fit.named g

  all-fit : (is : List Instr) (s s' : PlainCore) (events : List SymEvent) → AreUnlinked is → IsSome is → NamedCore K s → in_turn m is next s ≡ Went s' events → Fit K V s' × Quiet m s'
  all-fit [] s s' events us some n h = absurd some
  all-fit (i ∷ is) s s' events us some n h = in_turn-fit i is s s' events us.0 us.1 n h

-- ---- whatever stands at a place

module _ (K V : Place → Type 0) (M : Place → Place) (p p' : Program) (law : Moves K V M p p') (m : MemMap) (s : PlainCore) (n : NamedCore K s) (running : s.exit ≡ None) where
  pub step-moved :
      (i : Item) → V (p.next s.place) → ItemLeads K V p s.place i → PcMoves M p p' i
      → item_step [] m p' (Some (moved_item M i)) (moved_at M (M s.place) s) (M (p.next s.place)) ≡ moved_step M (M s.place) (item_step [] m p (Some i) s (p.next s.place))
  step-moved i visited leads pc =
      ap (λ o. option_map_or (λ is. in_turn m is (M next) t) o (applied m t (item_does p' (Some (moved_item M i)) t (M next)))) (expansion-moved M i)
      ∙ by (item_expansion (Some i)) (item-few i)
    where
      next : Place
      next = p.next s.place

      t : PlainCore
      t = moved_at M (M s.place) s

      by :
          (o : Option (List Instr)) → AreFew o
          → option_map_or (λ is. in_turn m is (M next) t) o (applied m t (item_does p' (Some (moved_item M i)) t (M next)))
          ≡ moved_step M (M s.place) (option_map_or (λ is. in_turn m is next s) o (applied m s (item_does p (Some i) s next)))
      by None few = ap (applied m t) (item-moved K V M p p' law i s next n leads pc) ∙ applied-moved M m (M s.place) s (item_does p (Some i) s next)
      by (Some is) few = in_turn-moved K V M p p' law m next visited is s few.0 n running

  pub step-fit :
      (i : Item) (s' : PlainCore) (events : List SymEvent) → V (p.next s.place) → ItemLeads K V p s.place i → item_step [] m p (Some i) s (p.next s.place) ≡ Went s' events
      → Fit K V s' × ((s'.exit ≡ None) ⊎ (s'.place ≡ s.place)) × Quiet m s'
  step-fit i s' events visited leads h = by (item_expansion (Some i)) (item-few i) h
    where
      by :
          (o : Option (List Instr)) → AreFew o → option_map_or (λ is. in_turn m is (p.next s.place) s) o (applied m s (item_does p (Some i) s (p.next s.place))) ≡ Went s' events
          → Fit K V s' × ((s'.exit ≡ None) ⊎ (s'.place ≡ s.place)) × Quiet m s'
      by None few g =
          let d = item_does p (Some i) s (p.next s.place) in
          let l = item-lead K V law.visits s.place p i s refl n visited leads in
          (applied-fit K V m s s' events d g n l, applied-stays K V m s s' events d g l, applied-quiet m s s' events d g)
      by (Some is) few g =
          let fit = all-fit K V M p p' law m (p.next s.place) visited is s s' events few.0 few.1 n g in
          (fit.0, inl (in_turn-on m is (p.next s.place) s s' events few.0 running g), fit.1)
