-- Ends of steps of a state as it is kept: the step of the definition ends in the state that is then kept.
use Rattle.std.proofs.Common.{◌≡◌, ◌≢◌, ℕ, ◌-◌, ◌%◌, ◌<◌, List, [], ◌∷◌, length, get_or, set, take, drop, map, min, true, false, Bool, eqb, leb, Option, Some, None, refl, sym, ap, ◌∙◌, arith, inl, inr, get_or-set_same, get_or-set_other, length-set, subst}
use Rattle.std.specs.Prelude.{slice_index_or, not, ◌&&◌, ◌||◌, ◌⊎◌}
use Rattle.std.specs.Option.{option_map_or}
use Rattle.std.proofs.lemmas.Bool.{and_parts, cond-false, eq-eqb, leb-true, ne_eqb}
use Rattle.std.proofs.lemmas.Bool.Decides.{eqb_tells}
use Rattle.std.proofs.lemmas.List.{map-set}
use Rattle.zc_base.specs.declared.mem_map.MemMap.{MemMap}
use Rattle.zc_base.specs.declared.place.Place.{Place}
use Rattle.rv_decode.specs.Devices.{Device}
use Rattle.rv_decode.specs.Memory.{Extent, Stack, changed, extents_of, written}
use Rattle.rv_decode.specs.State.{Exit, Read, Write, set_reg}
use Rattle.sym_machine.specs.declared.arguments.Arguments.{Arguments}
use Rattle.sym_machine.specs.declared.held.Held.{Held}
use Rattle.sym_machine.specs.declared.held.Held.TheVariants as held
use Rattle.sym_machine.specs.declared.answer.SymStep.TheVariants as answer
use Rattle.sym_machine.specs.declared.why.Why.TheVariants.{StackPointer, TargetUnknown}
use Rattle.sym_machine.specs.declared.word.SymByte.{SymByte}
use Rattle.sym_machine.specs.declared.word.SymByte.TheVariants.{Num, Undef}
use Rattle.sym_machine.specs.declared.word.SymWord.{SymWord}
use Rattle.sym_machine.specs.Answer.{StepAnswers}
use Rattle.sym_machine.specs.Change.{Change, Goes, Stops, call_to, exit_does, sets, continues, puts, read_does}
use Rattle.sym_machine.specs.Events.{SymEvent, Numeric}
use Rattle.sym_machine.specs.Kept.{IsChanged, IsKept, IsWorking, Kept, above_only, kept_from, regions_of, word_of, register_words}
use Rattle.sym_machine.specs.Program.{Program, start_memory}
use Rattle.sym_machine.specs.State.{PlainCore, reg_of}
use Rattle.sym_machine.specs.Step.{Stuck, Went, after_change, ends, applied, in_stack, is_set, item_step, mark_for, needs_stack, plain_step, stack_mark, step_with, undefined_below}
use Rattle.sym_machine.specs.Words.{code_word, number_of, number_word, undef_word}
use Rattle.rv_decode.proofs.MemoryLaws.{length_blank}
use Rattle.rv_decode.proofs.RegisterLaws.{length-set_reg, reads-set_reg_other}
use Rattle.rv_decode.proofs.WriteLaws.{changed-after}
use Rattle.sym_machine.proofs.MemoryLaws.{settled_stays}
use Rattle.sym_machine.proofs.StepLaws.{ends_same, ends_stuck, ends_within, item_by, mark_unset, set_by, settled, step_lacking, step_running, unset_unknown}

-- ---- registers

-- a register that is set, but register 0
pub words_set : (R : List Held) (r : ℕ) (w : Held) → r ≢ 0 → register_words (set R r w) ≡ set_reg (register_words R) r (word_of w)
words_set R r w some = map-set word_of R r w ∙ sym (cond-false (eqb r 0) (register_words R) (set (register_words R) r (word_of w)) (ne_eqb r 0 some))

-- registers with one that is neither register 0 nor sp
pub working_set :
    (R : List Held) (k k' : Kept) (r : ℕ) (w : Held) → IsWorking (register_words R) k → IsKept k' → k'.map ≡ k.map → kept_from k' ≡ kept_from k → r ≢ 0 → r ≢ 2
    → IsWorking (register_words (set R r w)) k'
working_set R k k' r w is kept map from some other =
    let same = map-set word_of R r w in record {
      registers_are = record {
        count = ap length same ∙ length-set (register_words R) r (word_of w) ∙ is.registers_are.count;
        first = ap (λ l. get_or l 0 undef_word) same ∙ get_or-set_other (register_words R) r 0 (word_of w) undef_word (λ e. some (sym e)) ∙ is.registers_are.first;
      };
      mark =
          let sp : get_or (register_words (set R r w)) 2 undef_word ≡ get_or (register_words R) 2 undef_word =
          ap (λ l. get_or l 2 undef_word) same ∙ get_or-set_other (register_words R) r 2 (word_of w) undef_word (λ e. other (sym e)) in
          from ∙ is.mark ∙ (λ j. mark_for (sym map j) (number_of (sym sp j)));
      kept = kept;
    }

-- and with another sp
pub working_sp :
    (R : List Held) (k k' : Kept) (w : Held) → IsWorking (register_words R) k → IsKept k' → kept_from k' ≡ mark_for k'.map (number_of (word_of w))
    → IsWorking (register_words (set R 2 w)) k'
working_sp R k k' w is kept from =
    let same = map-set word_of R 2 w in record {
      registers_are = record {
        count = ap length same ∙ length-set (register_words R) 2 (word_of w) ∙ is.registers_are.count;
        first = ap (λ l. get_or l 0 undef_word) same ∙ get_or-set_other (register_words R) 2 0 (word_of w) undef_word (λ e. omega (arith, e)) ∙ is.registers_are.first;
      };
      mark =
          let sp : get_or (register_words (set R 2 w)) 2 undef_word ≡ word_of w =
          ap (λ l. get_or l 2 undef_word) same ∙ get_or-set_same (register_words R) 2 (word_of w) undef_word (omega (arith, is.registers_are.count)) in
          from ∙ ap (λ x. mark_for k'.map (number_of x)) (sym sp);
      kept = kept;
    }

-- and with one that gets no number, which may be sp as long as that isn't set
pub working_lost :
    (R : List Held) (k : Kept) (r : ℕ) (w : Held) → IsWorking (register_words R) k → r ≢ 0 → number_of (word_of w) ≡ None → (r ≡ 2 → kept_from k ≡ k.map.stack_high)
    → IsWorking (register_words (set R r w)) k
working_lost R k r w is some none high = by (eqb_tells r 2)
  where
    by : ((eqb r 2 ≡ true) × (r ≡ 2)) ⊎ ((eqb r 2 ≡ false) × (r ≢ 2)) → IsWorking (register_words (set R r w)) k
    by (inl sp) =
        subst (λ (n : ℕ). IsWorking (register_words (set R n w)) k) (sym sp.1) (working_sp R k k w is is.kept (high sp.1 ∙ ap (mark_for k.map) (sym none)))
    by (inr other) = working_set R k k r w is is.kept refl refl some other.1

-- ---- ends

-- the state that registers and memory are
abbrev pub core_of : Place → List Held → Kept → List ℕ → Option ℕ → PlainCore
core_of place R k input exit = record { place = place; regs = register_words R; memory = regions_of k; input = input; exit = exit }

-- what a call does but for register 0 as its first one
abbrev pub calls : ℕ → ℕ → Place → Place → Change
calls rd temp next to = record (continues to) { writes = (temp, undef_word) ∷ (rd, code_word next) ∷ [] }

pub call_goes : (rd temp : ℕ) (to next : Place) → temp ≢ 0 → call_to rd temp to next ≡ Goes (calls rd temp next to)
call_goes rd temp to next some = cond-false (eqb temp 0) (Stops TargetUnknown) (Goes (calls rd temp next to)) (ne_eqb temp 0 some)

-- a register whose word isn't known
abbrev pub forgotten : Held
forgotten = held.Bytes undef_word

-- if sp is one of two registers that may only be it as long as it isn't set
pub lost_unset : (r t : ℕ) (set : Bool) → ((eqb r 2 || eqb t 2) && set) ≡ false → (r ≡ 2) ⊎ (t ≡ 2) → set ≡ false
lost_unset r t set kept (inl is) = ap (λ b. (b || eqb t 2) && set) (sym (eq-eqb r 2 is)) ∙ kept
lost_unset r t set kept (inr is) = by (eqb r 2) (ap (λ b. (eqb r 2 || b) && set) (sym (eq-eqb t 2 is)) ∙ kept)
  where
    by : (b : Bool) → ((b || true) && set) ≡ false → set ≡ false
    by true h = h
    by false h = h

-- after a call that sets the link register or its first one to other than a number sp is none
call_unknown :
    (s : PlainCore) (many : 2 < length s.regs) (rd temp : ℕ) (to next : Place) → (rd ≡ 2) ⊎ (temp ≡ 2) → number_of (reg_of (after_change (calls rd temp next to) s) 2) ≡ None
call_unknown s many rd temp to next (inl link) =
    let regs = set_reg s.regs temp undef_word in
    ap (λ r. number_of (get_or (set_reg regs r (code_word next)) 2 undef_word)) link
    ∙ ap number_of (get_or-set_same regs 2 (code_word next) undef_word (omega (arith, length-set_reg s.regs temp undef_word, many)))
call_unknown s many rd temp to next (inr part) =
    ap (λ t. number_of (get_or (set_reg (set_reg s.regs t undef_word) rd (code_word next)) 2 undef_word)) part ∙ by_link (eqb_tells rd 2)
  where
    regs : List SymWord
    regs = set s.regs 2 undef_word

    unknown : number_of (get_or regs 2 undef_word) ≡ None
    unknown = ap number_of (get_or-set_same s.regs 2 undef_word undef_word many)

    by_link : ((eqb rd 2 ≡ true) × (rd ≡ 2)) ⊎ ((eqb rd 2 ≡ false) × (rd ≢ 2)) → number_of (get_or (set_reg regs rd (code_word next)) 2 undef_word) ≡ None
    by_link (inl is) =
        ap (λ r. number_of (get_or (set_reg regs r (code_word next)) 2 undef_word)) is.1
        ∙ ap number_of (get_or-set_same regs 2 (code_word next) undef_word (omega (arith, length-set s.regs 2 undef_word, many)))
    by_link (inr is) = ap number_of (reads-set_reg_other (number_word 0) undef_word regs rd (code_word next) 2 (λ e. is.1 (sym e))) ∙ unknown

module _ (k : Kept) (is : IsKept k) (was_set : Bool) (s : PlainCore) (events : List SymEvent) (same : is_set k.map s ≡ was_set) (mark : kept_from k ≡ stack_mark k.map s) where
  -- memory doesn't change
  kept_ends : s.memory ≡ regions_of k → ends k.map was_set s events ≡ Went s events
  kept_ends memory =
      ends_same k.map was_set s events same ∙ ap (λ m. Went (settled k.map m s) events) (sym mark)
      ∙ ap (λ m. Went (record s { memory = m }) events) (ap (changed (undefined_below k.map (kept_from k))) memory ∙ settled_stays k is ∙ sym memory)

  -- memory changes
  changed_ends :
      (f : ℕ → SymByte → SymByte) (k' : Kept) → IsChanged f k k' → s.memory ≡ changed f (regions_of k) → ends k.map was_set s events ≡ Went (record s { memory = regions_of k' }) events
  changed_ends f k' new memory =
      ends_same k.map was_set s events same ∙ ap (λ m. Went (settled k.map m s) events) (sym mark)
      ∙ ap (λ m. Went (record s { memory = m }) events)
      (ap (changed (undefined_below k.map (kept_from k))) memory
      ∙ changed-after (undefined_below k.map (kept_from k)) f (above_only k f) (λ x c. refl) (regions_of k) ∙ sym new.regions)

module _ (k : Kept) (R : List Held) (is : IsWorking (register_words R) k) (place to : Place) (input : List ℕ) (exit : Option ℕ) (running : exit ≡ None) where
  abbrev core : PlainCore
  core = core_of place R k input exit

  -- whether sp is set
  abbrev was : Bool
  was = is_set k.map core

  -- where sp isn't set the stack is kept from its end
  pub kept_high : is_set k.map (core_of place R k input exit) ≡ false → kept_from k ≡ k.map.stack_high
  kept_high unset = is.mark ∙ mark_unset k.map core unset

  -- a state in which sp is the same
  same_sp : (s : PlainCore) → reg_of s 2 ≡ reg_of core 2 → is_set k.map s ≡ was
  same_sp s same = ap (λ w. option_map_or (in_stack k.map) (number_of w) false) same

  same_mark : (s : PlainCore) → reg_of s 2 ≡ reg_of core 2 → kept_from k ≡ stack_mark k.map s
  same_mark s same = is.mark ∙ ap (λ w. mark_for k.map (number_of w)) (sym same)

  -- neither sp nor memory changes
  core_ends : (s : PlainCore) (events : List SymEvent) → reg_of s 2 ≡ reg_of core 2 → s.memory ≡ regions_of k → ends k.map was s events ≡ Went s events
  core_ends s events same memory = kept_ends k is.kept was s events (same_sp s same) (same_mark s same) memory

  pub goes_on : StepAnswers (applied k.map (core_of place R k input exit) (Goes (continues to))) answer.Done (core_of place R k input exit) (core_of to R k input exit)
  goes_on = (
    running,
    running,
    core_ends (after_change (continues to) core) [] refl refl ∙ ap (λ e. Went (core_of to R k input e) []) (sym running),
  )

  -- a register but register 0 and sp is set, with these events
  set_ends : (r : ℕ) (w : Held) (events : List SymEvent) → r ≢ 0 → r ≢ 2
      → ends k.map was (after_change (sets r (word_of w) to) core) events ≡ Went (core_of to (set R r w) k input exit) events
  set_ends r w events some other =
      let s = after_change (sets r (word_of w) to) core in
      let words = words_set R r w some in
      core_ends s events (reads-set_reg_other (number_word 0) undef_word (register_words R) r (word_of w) 2 (λ e. other (sym e))) refl
      ∙ (λ j. Went (record { place = to; regs = sym words j; memory = regions_of k; input = input; exit = sym running j }) events)

  pub gives_on : (r : ℕ) (w : Held) → r ≢ 0 → r ≢ 2
      → StepAnswers (applied k.map (core_of place R k input exit) (Goes (sets r (word_of w) to))) answer.Done (core_of place R k input exit) (core_of to (set R r w) k input exit)
  gives_on r w some other = (running, running, set_ends r w [] some other)

  -- the state after sp got a word
  abbrev sp_given : Held → PlainCore
  sp_given w = after_change (sets 2 (word_of w) to) core

  sp_word : (w : Held) → reg_of (sp_given w) 2 ≡ word_of w
  sp_word w = get_or-set_same (register_words R) 2 (word_of w) undef_word (omega (arith, is.registers_are.count))

  -- sp is set to a number within the stack
  pub gives_sp : (w : Held) (sp : ℕ) (k' : Kept) → number_of (word_of w) ≡ Some sp → in_stack k.map sp ≡ true
      → regions_of k' ≡ changed (undefined_below k.map sp) (regions_of k)
      → StepAnswers (applied k.map (core_of place R k input exit) (Goes (sets 2 (word_of w) to))) answer.Done (core_of place R k input exit) (core_of to (set R 2 w) k' input exit)
  gives_sp w sp k' number inside regions =
      let q = and_parts (leb k.map.stack_low sp) (leb sp k.map.stack_high) inside in (
        running,
        running,
        ends_within k.map was sp (sp_given w) [] (ap number_of (sp_word w) ∙ number) (leb-true k.map.stack_low sp q.0) (leb-true sp k.map.stack_high q.1)
            ∙ (λ j. Went (record { place = to; regs = sym (map-set word_of R 2 w) j; memory = sym regions j; input = input; exit = sym running j }) []),
      )

  -- as long as sp isn't set it gets any word
  pub gives_sp_word : (w : Held) → is_set k.map (core_of place R k input exit) ≡ false → option_map_or (in_stack k.map) (number_of (word_of w)) false ≡ false
      → StepAnswers (applied k.map (core_of place R k input exit) (Goes (sets 2 (word_of w) to))) answer.Done (core_of place R k input exit) (core_of to (set R 2 w) k input exit)
  gives_sp_word w unset out =
      let s = sp_given w in
      let none : is_set k.map s ≡ false = ap (λ x. option_map_or (in_stack k.map) (number_of x) false) (sp_word w) ∙ out in (
        running,
        running,
        kept_ends k is.kept was s [] (none ∙ sym unset) (is.mark ∙ mark_unset k.map core unset ∙ sym (mark_unset k.map s none)) refl
            ∙ (λ j. Went (record { place = to; regs = sym (map-set word_of R 2 w) j; memory = regions_of k; input = input; exit = sym running j }) []),
      )

  -- the state after a call
  called_is : (t r : ℕ) (next : Place) → t ≢ 0 → r ≢ 0
      → Went (after_change (calls r t next to) core) [] ≡ Went (core_of to (set (set R t forgotten) r (held.Code next)) k input exit) []
  called_is t r next some link =
      let words = words_set R t forgotten some in
      let linked = words_set (set R t forgotten) r (held.Code next) link ∙ ap (λ l. set_reg l r (code_word next)) words in
      λ j. Went (record { place = to; regs = sym linked j; memory = regions_of k; input = input; exit = sym running j }) []

  -- a register isn't known any more, and then another one gets a word; neither is sp
  calls_on : (t r : ℕ) (next : Place) → t ≢ 0 → t ≢ 2 → r ≢ 0 → r ≢ 2
      → StepAnswers (applied k.map (core_of place R k input exit) (Goes (calls r t next to))) answer.Done (core_of place R k input exit) (core_of to (set (set R t forgotten) r (held.Code next)) k input exit)
  calls_on t r next some other link apart = (
    running,
    running,
    core_ends s [] (reads-set_reg_other (number_word 0) undef_word (set_reg (register_words R) t undef_word) r (code_word next) 2 (λ e. apart (sym e)) ∙ reads-set_reg_other (number_word 0) undef_word (register_words R) t undef_word 2 (λ e. other (sym e))) refl
        ∙ called_is t r next some link,
  )
    where
      s : PlainCore
      s = after_change (calls r t next to) core

  -- the same if the other one is register 0, which stays
  calls_off : (t : ℕ) (next : Place) → t ≢ 0 → t ≢ 2
      → StepAnswers (applied k.map (core_of place R k input exit) (Goes (calls 0 t next to))) answer.Done (core_of place R k input exit) (core_of to (set R t forgotten) k input exit)
  calls_off t next some other =
      let words = words_set R t forgotten some in
      let s = after_change (calls 0 t next to) core in (
        running,
        running,
        core_ends s [] (reads-set_reg_other (number_word 0) undef_word (register_words R) t undef_word 2 (λ e. other (sym e))) refl
            ∙ (λ j. Went (record { place = to; regs = sym words j; memory = regions_of k; input = input; exit = sym running j }) []),
      )

  -- a call after which sp isn't known, if it wasn't set
  free_ends : (t r : ℕ) (next : Place) → (r ≡ 2) ⊎ (t ≡ 2) → is_set k.map (core_of place R k input exit) ≡ false
      → ends k.map was (after_change (calls r t next to) core) [] ≡ Went (after_change (calls r t next to) core) []
  free_ends t r next sp unset =
      let s = after_change (calls r t next to) core in
      let none : is_set k.map s ≡ false = unset_unknown k.map s (call_unknown core (omega (arith, is.registers_are.count)) r t to next sp) in
      kept_ends k is.kept was s [] (none ∙ sym unset) (is.mark ∙ mark_unset k.map core unset ∙ sym (mark_unset k.map s none)) refl

  -- as long as sp isn't set a call may change it to what isn't known
  calls_free : (t r : ℕ) (next : Place) → t ≢ 0 → r ≢ 0 → (r ≡ 2) ⊎ (t ≡ 2) → is_set k.map (core_of place R k input exit) ≡ false
      → StepAnswers (applied k.map (core_of place R k input exit) (Goes (calls r t next to))) answer.Done (core_of place R k input exit) (core_of to (set (set R t forgotten) r (held.Code next)) k input exit)
  calls_free t r next some link sp unset = (running, running, free_ends t r next sp unset ∙ called_is t r next some link)

  calls_off_free : (next : Place) → is_set k.map (core_of place R k input exit) ≡ false
      → StepAnswers (applied k.map (core_of place R k input exit) (Goes (calls 0 2 next to))) answer.Done (core_of place R k input exit) (core_of to (set R 2 forgotten) k input exit)
  calls_off_free next unset = (
    running,
    running,
    free_ends 2 0 next (inr refl) unset
        ∙ (λ j. Went (record { place = to; regs = sym (map-set word_of R 2 forgotten) j; memory = regions_of k; input = input; exit = sym running j }) []),
  )

  -- a call that leaves sp set if it is
  pub calls_made : (t r : ℕ) (next : Place) → t ≢ 0 → r ≢ 0 → ((eqb r 2 || eqb t 2) && is_set k.map (core_of place R k input exit)) ≡ false
      → StepAnswers (applied k.map (core_of place R k input exit) (Goes (calls r t next to))) answer.Done (core_of place R k input exit) (core_of to (set (set R t forgotten) r (held.Code next)) k input exit)
  calls_made t r next some link kept = by (eqb_tells r 2) (eqb_tells t 2)
    where
      by : ((eqb r 2 ≡ true) × (r ≡ 2)) ⊎ ((eqb r 2 ≡ false) × (r ≢ 2)) → ((eqb t 2 ≡ true) × (t ≡ 2)) ⊎ ((eqb t 2 ≡ false) × (t ≢ 2))
          → StepAnswers (applied k.map core (Goes (calls r t next to))) answer.Done core (core_of to (set (set R t forgotten) r (held.Code next)) k input exit)
      by (inl l) p = calls_free t r next some link (inl l.1) (lost_unset r t was kept (inl l.1))
      by (inr l) (inl p) = calls_free t r next some link (inr p.1) (lost_unset r t was kept (inr p.1))
      by (inr l) (inr p) = calls_on t r next some p.1 link l.1

  pub calls_off_made : (t : ℕ) (next : Place) → t ≢ 0 → ((eqb 0 2 || eqb t 2) && is_set k.map (core_of place R k input exit)) ≡ false
      → StepAnswers (applied k.map (core_of place R k input exit) (Goes (calls 0 t next to))) answer.Done (core_of place R k input exit) (core_of to (set R t forgotten) k input exit)
  calls_off_made t next some kept = by (eqb_tells t 2)
    where
      by : ((eqb t 2 ≡ true) × (t ≡ 2)) ⊎ ((eqb t 2 ≡ false) × (t ≢ 2))
          → StepAnswers (applied k.map core (Goes (calls 0 t next to))) answer.Done core (core_of to (set R t forgotten) k input exit)
      by (inl p) =
          subst (λ (n : ℕ). StepAnswers (applied k.map core (Goes (calls 0 n next to))) answer.Done core (core_of to (set R n forgotten) k input exit)) (sym p.1)
          (calls_off_free next (lost_unset 0 t was kept (inr p.1)))
      by (inr p) = calls_off t next some p.1

  -- bytes are written
  pub puts_on : (a : ℕ) (bytes : List SymByte) (k' : Kept) → IsChanged (written a (length bytes) (λ i. slice_index_or bytes i Undef)) k k'
      → StepAnswers (applied k.map (core_of place R k input exit) (Goes (puts a bytes to))) answer.Done (core_of place R k input exit) (core_of to R k' input exit)
  puts_on a bytes k' new = (
    running,
    running,
    changed_ends k is.kept was (after_change (puts a bytes to) core) [] refl is.mark (written a (length bytes) (λ i. slice_index_or bytes i Undef)) k' new refl
        ∙ ap (λ e. Went (core_of to R k' input e) []) (sym running),
  )

  -- input is read
  pub reads_on : (c : Arguments) (n : ℕ) (k' : Kept) → n ≡ min c.len (length input)
      → IsChanged (written c.at (length (map Num (take n input))) (λ i. slice_index_or (map Num (take n input)) i Undef)) k k'
      → StepAnswers (applied k.map (core_of place R k input exit) (read_does (core_of place R k input exit) to c)) (answer.Read n) (core_of place R k input exit) (core_of to (set R 10 (held.Number n)) k' (drop n input) exit)
  reads_on c n k' count new =
      let change : Change = record { place = to; writes = (10, number_word n) ∷ []; stores = (c.at, map Num (take n input)) ∷ []; taken = n; exit = None; events = Numeric (Read (take n input)) ∷ [] } in
      let s = after_change change core in
      let words = words_set R 10 (held.Number n) (λ e. omega (arith, e)) in
      let sp : reg_of s 2 ≡ reg_of core 2 = get_or-set_other (register_words R) 10 2 (number_word n) undef_word (λ (e : 2 ≡ 10). omega (arith, e)) in
      subst (λ (m : ℕ). StepAnswers (applied k.map (core_of place R k input exit) (Goes (record { place = to; writes = (10, number_word m) ∷ []; stores = (c.at, map Num (take m input)) ∷ []; taken = m; exit = None; events = Numeric (Read (take m input)) ∷ [] }))) (answer.Read n) (core_of place R k input exit) (core_of to (set R 10 (held.Number n)) k' (drop n input) exit))
      count (
        omega (arith, count),
        (
          running,
          running,
          changed_ends k is.kept was s change.events (same_sp s sp) (same_mark s sp) (written c.at (length (map Num (take n input))) (λ i. slice_index_or (map Num (take n input)) i Undef)) k' new refl
              ∙ (λ j. Went (record { place = to; regs = sym words j; memory = regions_of k'; input = drop n input; exit = sym running j }) change.events),
        ),
      )

  -- bytes are written out
  pub writes_on : (c : Arguments) (bytes : List ℕ)
      → applied k.map (core_of place R k input exit) (Goes (record (sets 10 (number_word c.len) to) { events = Numeric (Write c.a0 bytes) ∷ [] })) ≡ Went (core_of to (set R 10 (held.Number c.len)) k input exit) (Numeric (Write c.a0 bytes) ∷ [])
  writes_on c bytes = set_ends 10 (held.Number c.len) (Numeric (Write c.a0 bytes) ∷ []) (λ e. omega (arith, e)) (λ e. omega (arith, e))

  -- the program exits
  pub exits : (a0 : ℕ) → StepAnswers (applied k.map (core_of place R k input exit) (exit_does (Some a0) place)) (answer.Exited (a0 % 256)) (core_of place R k input exit) (core_of place R k input (Some (a0 % 256)))
  exits a0 =
      let s = core_of place R k input (Some (a0 % 256)) in
      inl (running, refl, core_ends s (Numeric (Exit (a0 % 256)) ∷ []) refl refl)

-- ---- sp that isn't allowed where it was set

module _ (map : MemMap) (s : PlainCore) (many : 2 < length s.regs) (set : is_set map s ≡ true) where
  stuck_after : (c : Change) → is_set map (after_change c s) ≡ false → applied map s (Goes c) ≡ Stuck StackPointer
  stuck_after c unset = ap (λ b. ends map b (after_change c s) c.events) set ∙ ends_stuck map (after_change c s) c.events unset

  -- a word that is no number of the stack
  pub sp_stuck : (w : SymWord) (to : Place) → option_map_or (in_stack map) (number_of w) false ≡ false → applied map s (Goes (sets 2 w to)) ≡ Stuck StackPointer
  sp_stuck w to out =
      stuck_after (sets 2 w to) (ap (λ x. option_map_or (in_stack map) (number_of x) false) (get_or-set_same s.regs 2 w undef_word many) ∙ out)

  pub sp_outside : (w : SymWord) (to : Place) (sp : ℕ) → number_of w ≡ Some sp → in_stack map sp ≡ false → applied map s (Goes (sets 2 w to)) ≡ Stuck StackPointer
  sp_outside w to sp is out = sp_stuck w to (ap (λ o. option_map_or (in_stack map) o false) is ∙ out)

  -- a call after which sp is no number, since it gets the next place's address or isn't known
  pub call_stuck : (rd temp : ℕ) (to next : Place) → (rd ≡ 2) ⊎ (temp ≡ 2) → applied map s (Goes (calls rd temp next to)) ≡ Stuck StackPointer
  call_stuck rd temp to next is = stuck_after (calls rd temp next to) (unset_unknown map (after_change (calls rd temp next to) s) (call_unknown s many rd temp to next is))

-- ---- programs

abbrev second : List Extent → Extent
second (a ∷ b ∷ rest) = b
second (a ∷ []) = a
second [] = record { kind = Stack; at = 0; size = 0 }

-- memory that lies where a program's does has its stack where the program has it
module _ (k : Kept) (is : IsKept k) (p : Program) (of : extents_of (regions_of k) ≡ extents_of (start_memory p)) where
  low_is : k.map.stack_low ≡ p.map.stack_low
  low_is = ap (λ es. (second es).at) of

  high_is : k.map.stack_high ≡ p.map.stack_high
  high_is =
      let sizes : k.map.stack_high - k.map.stack_low ≡ p.map.stack_high - p.map.stack_low = sym is.size ∙ ap (λ es. (second es).size) of ∙ length_blank (p.map.stack_high - p.map.stack_low) Undef in
      omega (arith, is.some, low_is, sizes)

  -- whether sp is set by the machine's map or by the program's
  pub set_is : (s : PlainCore) → is_set p.map s ≡ is_set k.map s
  set_is s = set_by p.map k.map s (sym low_is) (sym high_is)

  -- a step of the machine with devices is a step of the program with them, where what it needs is there
  pub step_with_of : (devices : List Device) (s : PlainCore) → s.exit ≡ None → (needs_stack (p.item s.place) && not (is_set k.map s)) ≡ false
      → step_with devices p s ≡ item_step devices k.map p (p.item s.place) s (p.next s.place)
  step_with_of devices s running found =
      step_running devices p s running (ap (λ b. needs_stack (p.item s.place) && not b) (set_is s) ∙ found)
      ∙ item_by devices p.map k.map p (p.item s.place) s (p.next s.place) (sym low_is) (sym high_is)

  -- and so without devices
  pub step_of : (s : PlainCore) → s.exit ≡ None → (needs_stack (p.item s.place) && not (is_set k.map s)) ≡ false
      → plain_step p s ≡ item_step [] k.map p (p.item s.place) s (p.next s.place)
  step_of s running found = step_with_of [] s running found

  -- and where it isn't, the step is stuck
  pub step_without : (devices : List Device) (s : PlainCore) → s.exit ≡ None → needs_stack (p.item s.place) ≡ true → is_set k.map s ≡ false → step_with devices p s ≡ Stuck StackPointer
  step_without devices s running needs unset = step_lacking devices p s running (λ j. needs j && not ((set_is s ∙ unset) j))
