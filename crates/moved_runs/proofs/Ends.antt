-- How each step ends, under a map of places: sp is set in both or in neither, and the stack's mark is the same; what is named stays
-- named; and afterwards the stack below its mark is undefined (Quiet).
use Rattle.std.proofs.Common.{◌≡◌, ℕ, List, [], ◌∷◌, map, drop, length, Option, None, Bool, true, false, cond, refl, sym, ap, ◌∙◌, subst, get_or, inl, inr}
use Rattle.std.specs.Prelude.{not, ◌||◌, ◌⊎◌, All}
use Rattle.std.specs.List.{fold}
use Rattle.std.specs.Option.{option_map_or}
use Rattle.zc_base.specs.declared.mem_map.MemMap.{MemMap}
use Rattle.zc_base.specs.declared.place.Place.{Place}
use Rattle.rv_decode.specs.Memory.{Region, changed, written}
use Rattle.rv_decode.specs.State.{set_reg}
use Rattle.sym_machine.specs.declared.why.Why.TheVariants.{StackPointer}
use Rattle.sym_machine.specs.declared.word.SymByte.{SymByte}
use Rattle.sym_machine.specs.declared.word.SymByte.TheVariants.{Undef}
use Rattle.sym_machine.specs.declared.word.SymWord.{SymWord}
use Rattle.sym_machine.specs.Words.{number_of}
use Rattle.sym_machine.specs.Change.{Change, Does, Goes, Stops}
use Rattle.sym_machine.specs.Events.{SymEvent}
use Rattle.sym_machine.specs.State.{PlainCore, reg_of}
use Rattle.sym_machine.specs.Step.{Went, Stuck, after_change, applied, ends, in_stack, is_set, mark_for, stack_mark, undefined_below}
use Rattle.sym_machine.proofs.StepLaws.{ended, ends_same, settled, stored, with_stores}
use Rattle.moved_runs.specs.Moved.{landing, moved_at, moved_byte, moved_change, moved_does, moved_memory, moved_regs, moved_step, moved_store, moved_write}
use Rattle.moved_runs.specs.Named.{IsNamedMemory, IsNamedWord}
use Rattle.moved_runs.proofs.Words.{number-moved}
use Rattle.moved_runs.proofs.States.{NamedCore, below-moved, below-named, below-twice, changed-moved, changed-named, reg-moved, set-moved, set-named, written-moved, written-named}
use Rattle.moved_runs.proofs.Leads.{DoesLead, StoresNamed, WritesNamed}

-- words go to registers, one after another
abbrev with_writes : List (ℕ × SymWord) → List SymWord → List SymWord
with_writes ws regs = fold (λ regs w. set_reg regs w.0 w.1) regs ws

-- all that lies in the stack below its mark is undefined
abbrev pub Quiet : MemMap → PlainCore → Type 0
Quiet m s = changed (undefined_below m (stack_mark m s)) s.memory ≡ s.memory

-- ---- a step's end under the map

module _ (M : Place → Place) where
  writes-moved : (ws : List (ℕ × SymWord)) (regs : List SymWord) → with_writes (map (moved_write M) ws) (moved_regs M regs) ≡ moved_regs M (with_writes ws regs)
  writes-moved [] regs = refl
  writes-moved (w ∷ ws) regs = ap (with_writes (map (moved_write M) ws)) (set-moved M regs w.0 w.1) ∙ writes-moved ws (set_reg regs w.0 w.1)

  stores-moved : (ws : List (ℕ × List SymByte)) (memory : List (Region SymByte)) → with_stores (map (moved_store M) ws) (moved_memory M memory) ≡ moved_memory M (with_stores ws memory)
  stores-moved [] memory = refl
  stores-moved (w ∷ ws) memory =
      ap (with_stores (map (moved_store M) ws)) (changed-moved M (written w.0 (length (map (moved_byte M) w.1)) (λ i. get_or (map (moved_byte M) w.1) i Undef)) (written w.0 (length w.1) (λ i. get_or w.1 i Undef)) (written-moved M w.0 w.1) memory)
      ∙ stores-moved ws (stored memory w)

  after-moved : (from : Place) (c : Change) (s : PlainCore) → after_change (moved_change M from c) (moved_at M from s) ≡ moved_at M (landing M from c.exit c.place) (after_change c s)
  after-moved from c s =
      let r = writes-moved c.writes s.regs in
      let m = stores-moved c.stores s.memory in
      λ i. record { place = landing M from c.exit c.place; regs = r i; memory = m i; input = drop c.taken s.input; exit = c.exit }

  -- sp is the same number in both, or none
  pub sp-moved : (q : Place) (s : PlainCore) → number_of (reg_of (moved_at M q s) 2) ≡ number_of (reg_of s 2)
  sp-moved q s = ap number_of (reg-moved M q s 2) ∙ number-moved M (reg_of s 2)

  pub is_set-moved : (m : MemMap) (q : Place) (s : PlainCore) → is_set m (moved_at M q s) ≡ is_set m s
  is_set-moved m q s = ap (λ o. option_map_or (in_stack m) o false) (sp-moved q s)

  pub mark-moved : (m : MemMap) (q : Place) (s : PlainCore) → stack_mark m (moved_at M q s) ≡ stack_mark m s
  mark-moved m q s = ap (mark_for m) (sp-moved q s)

  ends-moved :
      (m : MemMap) (was_set : Bool) (from : Place) (s : PlainCore) (events : List SymEvent)
      → ends m was_set (moved_at M (landing M from s.exit s.place) s) events ≡ moved_step M from (ends m was_set s events)
  unfolding ends
  ends-moved m was_set from s events =
      let t : PlainCore = moved_at M (landing M from s.exit s.place) s in
      let set = is_set-moved m (landing M from s.exit s.place) s in
      let mark = mark-moved m (landing M from s.exit s.place) s in
      (λ i. cond (set i || not was_set) (Went (settled m (mark i) t) events) (Stuck StackPointer))
      ∙ ap (λ memory. cond (is_set m s || not was_set) (Went (record t { memory = memory }) events) (Stuck StackPointer))
      (changed-moved M (undefined_below m (stack_mark m s)) (undefined_below m (stack_mark m s)) (below-moved M m (stack_mark m s)) s.memory)
      ∙ either (is_set m s || not was_set)
    where
      either :
          (b : Bool)
          → cond b (Went (moved_at M (landing M from s.exit s.place) (settled m (stack_mark m s) s)) events) (Stuck StackPointer)
          ≡ moved_step M from (cond b (Went (settled m (stack_mark m s) s) events) (Stuck StackPointer))
      either true = refl
      either false = refl

  -- what is done from a place is done from any other
  pub applied-moved : (m : MemMap) (from : Place) (s : PlainCore) (d : Does) → applied m (moved_at M from s) (moved_does M from d) ≡ moved_step M from (applied m s d)
  applied-moved m from s (Stops why) = refl
  applied-moved m from s (Goes c) =
      (λ i. ends m (is_set-moved m from s i) (after-moved from c s i) c.events) ∙ ends-moved m (is_set m s) from (after_change c s) c.events

-- ---- what a step's end leaves

-- if all was quiet, and sp is as it was, nothing changes
pub ends-quiet : (m : MemMap) (s : PlainCore) (events : List SymEvent) → Quiet m s → ends m (is_set m s) s events ≡ Went s events
ends-quiet m s events quiet = ends_same m (is_set m s) s events refl ∙ (λ i. Went (record s { memory = quiet i }) events)

-- each step leaves all quiet
pub applied-quiet : (m : MemMap) (s s' : PlainCore) (events : List SymEvent) (d : Does) → applied m s d ≡ Went s' events → Quiet m s'
applied-quiet m s s' events (Stops why) h = absurd cc
applied-quiet m s s' events (Goes c) h =
    let t = after_change c s in
    let e = (ended m (is_set m s) t s' c.events events h).0 in
    subst (Quiet m) (sym e.state) (below-twice m (stack_mark m t) t.memory)

-- what is true of a change's exit and place is true of the state after it
applied-lands : (N : Option ℕ → Place → Type 0) (m : MemMap) (s s' : PlainCore) (events : List SymEvent) (c : Change) → applied m s (Goes c) ≡ Went s' events → N c.exit c.place → N s'.exit s'.place
applied-lands N m s s' events c h n = subst (λ (t : PlainCore). N t.exit t.place) (sym (ended m (is_set m s) (after_change c s) s' c.events events h).0.state) n

module _ (K V : Place → Type 0) where
  -- a state that the program may come to: the addresses in it are those of K, and its place is in V
  pub record Fit (s : PlainCore) : Type 0 where
    pub named : NamedCore K s
    pub visits : s.exit ≡ None → V s.place

  writes-named : (ws : List (ℕ × SymWord)) (regs : List SymWord) → WritesNamed K ws → All (IsNamedWord K) regs → All (IsNamedWord K) (with_writes ws regs)
  writes-named [] regs n all = all
  writes-named (w ∷ ws) regs n all = writes-named ws (set_reg regs w.0 w.1) n.1 (one n.0)
    where
      one : (w.0 ≡ 0) ⊎ IsNamedWord K w.1 → All (IsNamedWord K) (set_reg regs w.0 w.1)
      one (inl e) = subst (λ rd. All (IsNamedWord K) (set_reg regs rd w.1)) (sym e) all
      one (inr k) = set-named K regs w.0 w.1 all k

  stores-named : (ws : List (ℕ × List SymByte)) (memory : List (Region SymByte)) → StoresNamed K ws → IsNamedMemory K memory → IsNamedMemory K (with_stores ws memory)
  stores-named [] memory n all = all
  stores-named (w ∷ ws) memory n all = stores-named ws (stored memory w) n.1 (changed-named K (written w.0 (length w.1) (λ i. get_or w.1 i Undef)) (written-named K w.0 w.1 n.0) memory all)

  pub applied-fit : (m : MemMap) (s s' : PlainCore) (events : List SymEvent) (d : Does) → applied m s d ≡ Went s' events → NamedCore K s → DoesLead K V s.place d → Fit s'
  applied-fit m s s' events (Stops why) h n l = absurd cc
  applied-fit m s s' events (Goes c) h n l =
      let t = after_change c s in
      let e = (ended m (is_set m s) t s' c.events events h).0 in
      let fit : Fit (settled m (stack_mark m t) t) = record {
        named = record {
          regs = writes-named c.writes s.regs l.writes n.regs;
          memory = changed-named K (undefined_below m (stack_mark m t)) (below-named K m (stack_mark m t)) t.memory (stores-named c.stores s.memory l.stores n.memory);
        };
        visits = l.place;
      } in
      subst Fit (sym e.state) fit

  -- with the exit the state stays at the place where the step began
  pub applied-stays : (m : MemMap) (s s' : PlainCore) (events : List SymEvent) (d : Does) → applied m s d ≡ Went s' events → DoesLead K V s.place d → (s'.exit ≡ None) ⊎ (s'.place ≡ s.place)
  applied-stays m s s' events (Stops why) h l = absurd cc
  applied-stays m s s' events (Goes c) h l = applied-lands (λ exit place. (exit ≡ None) ⊎ (place ≡ s.place)) m s s' events c h l.stays

-- what isn't an exit leaves none
abbrev pub GoesOn : Does → Type 0
GoesOn (Goes c) = c.exit ≡ None
GoesOn (Stops why) = Unit {0}

pub applied-goes-on : (m : MemMap) (s s' : PlainCore) (events : List SymEvent) (d : Does) → applied m s d ≡ Went s' events → GoesOn d → s'.exit ≡ None
applied-goes-on m s s' events (Stops why) h g = absurd cc
applied-goes-on m s s' events (Goes c) h g = applied-lands (λ exit place. exit ≡ None) m s s' events c h g
