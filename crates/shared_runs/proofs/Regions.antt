-- Interrupts and commits change what regions hold, but not where they lie; and no interrupt is an exit.
use Rattle.std.proofs.Common.{◌≡◌, ℕ, ◌%◌, List, [], ◌∷◌, Option, Some, None, Result, Ok, Err, Bool, true, false, cond, refl, sym, ap, ◌∙◌, eqb, ltb}
use Rattle.std.specs.Prelude.{◌&&◌, ◌||◌, slice_get}
use Rattle.std.specs.Option.{option_map_or}
use Rattle.std.proofs.lemmas.Bool.{cond_both}
use Rattle.interrupt_plan.specs.Plan.{Interrupt}
use Rattle.rv_decode.specs.declared.instr.Instr.{Instr}
use Rattle.rv_decode.specs.declared.instr.Instr.TheVariants.{Upper, Jal, Jalr, Branch, Load, Store, WithImm, WithReg, Fence, Ecall, Ebreak, Csrrw}
use Rattle.rv_decode.specs.Effect as act
use Rattle.rv_decode.specs.Effect.{Effect, Commits, attempting, effect, jumps, load_width, onward, store_width}
use Rattle.rv_decode.specs.declared.device_access.DeviceAccess.{DeviceAccess}
use Rattle.rv_decode.specs.declared.device_access.DeviceAccess.TheVariants as access
use Rattle.rv_decode.specs.Memory.{Extent, byte_of, changed, extents_of, is_data, is_stack, is_text, lies_in, written}
use Rattle.rv_decode.specs.State.{ZcCore, ZcState, reg_in, word_at}
use Rattle.rv_decode.specs.System.{is_system}
use Rattle.rv_decode.proofs.MemoryLaws.{extents-changed}
use Rattle.zc_decode.specs.Accesses.{Access, accesses_of}
use Rattle.zc_decode.specs.Effect.{accessed, all_accessed, entry_at, framed, reaching_all, returned, short_effect, zeroed}
use Rattle.zc_decode.specs.declared.short.Short.{Short}
use Rattle.zc_decode.specs.declared.short.Short.TheVariants.{Base, MoveAs, MoveSa, Pop, PopRet, PopRetz, Push, TableJump}
use Rattle.zc_machine.specs.declared.reason.Reason.{Reason}
use Rattle.zc_machine.specs.declared.reason.Reason.TheVariants.{BadAccess, Illegal}
use Rattle.zc_machine.specs.declared.answer.EnvCall.{EnvCall}
use Rattle.zc_machine.specs.declared.answer.EnvCall.TheVariants as call
use Rattle.zc_machine.specs.Fetch.{Fetched, Found, Missing, fetched_at}
use Rattle.zc_machine.specs.Interrupt.{all_dirtied, all_interrupted, dirtied, done_all, done_of, done_one, interrupted}
use Rattle.zc_machine.specs.Run.{answered, committed, device_answers, is_answered, turn, unanswered, zc_turn}
use Rattle.zc_machine.specs.Step.{Asks, Committed, Ended, Stopped, Wants, ZcStep, buffered, called, effect_step, made, zc_step}
use Rattle.zc_machine.proofs.TurnLaws.{zc_turn-running}

-- a result has one value
pub one_result : {A E : Type 0} (r : Result A E) (x y : A) → r ≡ Ok x → r ≡ Ok y → x ≡ y
one_result r x y one two = cc

-- ---- interrupts

-- regions lie where they lay, and the program has exited if it had
pub record Stays (y z : ZcCore) : Type 0 where
  pub extents : extents_of y.memory ≡ extents_of z.memory
  pub exit : y.exit ≡ z.exit

stays_same : (z : ZcCore) → Stays z z
stays_same z = record { extents = refl; exit = refl }

stays_twice : {x y z : ZcCore} → Stays x y → Stays y z → Stays x z
stays_twice one two = record { extents = one.extents ∙ two.extents; exit = one.exit ∙ two.exit }

stays_changed : (f : ℕ → ℕ → ℕ) (z : ZcCore) → Stays (record z { memory = changed f z.memory }) z
stays_changed f z = record { extents = extents-changed f z.memory; exit = refl }

accessed_stays : (s : Short) (a : Access) (z : ZcCore) → Stays (accessed s a z) z
accessed_stays (Base i) a z = stays_same z
accessed_stays (Push list adjust) a z = stays_changed (written a.at 4 (byte_of (reg_in z a.register))) z
accessed_stays (Pop list adjust) a z = record { extents = refl; exit = refl }
accessed_stays (PopRet list adjust) a z = record { extents = refl; exit = refl }
accessed_stays (PopRetz list adjust) a z = record { extents = refl; exit = refl }
accessed_stays (MoveSa first second) a z = stays_same z
accessed_stays (MoveAs first second) a z = stays_same z
accessed_stays (TableJump index) a z = stays_same z

all_accessed_stays : (s : Short) (xs : List Access) (z : ZcCore) → Stays (all_accessed s xs z) z
all_accessed_stays s [] z = stays_same z
all_accessed_stays s (x ∷ xs) z = stays_twice (all_accessed_stays s xs (accessed s x z)) (accessed_stays s x z)

done_one_stays : (s : Short) (o : Option Access) (z : ZcCore) → Stays (done_one s o z) z
done_one_stays s None z = stays_same z
done_one_stays s (Some a) z =
    cond_both (eqb (a.at % 4) 0 && lies_in is_data (extents_of z.memory) a.at 4) (accessed s a z) z (λ y. Stays y z) (λ _. accessed_stays s a z) (λ _. stays_same z)

done_all_stays : (s : Short) (xs : List Access) (js : List ℕ) (z : ZcCore) → Stays (done_all s xs js z) z
done_all_stays s xs [] z = stays_same z
done_all_stays s xs (j ∷ js) z = stays_twice (done_all_stays s xs js (done_one s (slice_get xs j) z)) (done_one_stays s (slice_get xs j) z)

done_of_stays : (f : Fetched) (js : List ℕ) (z : ZcCore) → Stays (done_of f js z) z
done_of_stays (Found s size) js z = done_all_stays s (accesses_of s (reg_in z 2)) js z
done_of_stays (Missing reason) js z = stays_same z

dirtied_stays : (d : ℕ × ℕ) (z : ZcCore) → Stays (dirtied d z) z
dirtied_stays d z =
    cond_both (lies_in is_stack (extents_of z.memory) d.0 1 && ltb d.0 (reg_in z 2)) (record z { memory = changed (written d.0 1 (λ i. d.1)) z.memory }) z (λ y. Stays y z)
    (λ _. stays_changed (written d.0 1 (λ i. d.1)) z) (λ _. stays_same z)

all_dirtied_stays : (ds : List (ℕ × ℕ)) (z : ZcCore) → Stays (all_dirtied ds z) z
all_dirtied_stays [] z = stays_same z
all_dirtied_stays (d ∷ ds) z = stays_twice (all_dirtied_stays ds (dirtied d z)) (dirtied_stays d z)

pub interrupted_stays : (c : Interrupt) (z : ZcCore) → Stays (interrupted c z) z
interrupted_stays c z = stays_twice (all_dirtied_stays c.dirt (done_of (fetched_at z z.pc) c.done z)) (done_of_stays (fetched_at z z.pc) c.done z)

pub all_interrupted_stays : (cs : List Interrupt) (z : ZcCore) → Stays (all_interrupted cs z) z
all_interrupted_stays [] z = stays_same z
all_interrupted_stays (c ∷ cs) z = stays_twice (all_interrupted_stays cs (interrupted c z)) (interrupted_stays c z)

-- ---- commits

-- what commits leaves the regions there
abbrev Leaves : List Extent → Effect → Type 0
Leaves es (Commits y) = extents_of y.memory ≡ es
Leaves es act.Misaligned = Unit {0}
Leaves es act.BadAccess = Unit {0}
Leaves es (act.Outside x) = Unit {0}
Leaves es act.Break = Unit {0}
Leaves es act.Call = Unit {0}

attempting_leaves : (n a : ℕ) (z : ZcCore) (es : List Extent) (other go : Effect) → Leaves es other → Leaves es go → Leaves es (attempting n a z other go)
attempting_leaves n a z es other go o h =
    cond_both (eqb (a % n) 0) (cond (lies_in is_data (extents_of z.memory) a n) go other) act.Misaligned (Leaves es)
    (λ _. cond_both (lies_in is_data (extents_of z.memory) a n) go other (Leaves es) (λ _. h) (λ _. o)) (λ _. tt)

effect_leaves : (i : Instr) (size : ℕ) (z : ZcCore) → Leaves (extents_of z.memory) (effect i size z)
effect_leaves (Upper op rd imm) size z = refl
effect_leaves (Jal rd distance) size z = refl
effect_leaves (Jalr rd base imm) size z = refl
effect_leaves (Branch op first second distance) size z = refl
effect_leaves (Load op rd base imm) size z = attempting_leaves (load_width op) _ z (extents_of z.memory) _ _ tt refl
effect_leaves (Store op source base imm) size z =
    attempting_leaves (store_width op) _ z (extents_of z.memory) _ _ tt (extents-changed _ z.memory)
effect_leaves (WithImm op rd first imm) size z = refl
effect_leaves (WithReg op rd first second) size z = refl
effect_leaves (Fence rest) size z = refl
effect_leaves Ecall size z = tt
effect_leaves Ebreak size z = tt
effect_leaves (Csrrw rd source) size z = refl

reaching_all_leaves : (xs : List Access) (z : ZcCore) (es : List Extent) (go : Effect) → Leaves es go → Leaves es (reaching_all xs z go)
reaching_all_leaves [] z es go h = h
reaching_all_leaves (x ∷ xs) z es go h = attempting_leaves 4 x.at z es act.BadAccess (reaching_all xs z go) tt (reaching_all_leaves xs z es go h)

-- a push or a pop, whatever registers and place it ends with
frame_leaves :
    (s : Short) (z left : ZcCore) → left.memory ≡ (all_accessed s (accesses_of s (reg_in z 2)) z).memory
    → Leaves (extents_of z.memory) (reaching_all (accesses_of s (reg_in z 2)) z (Commits left))
frame_leaves s z left same =
    reaching_all_leaves (accesses_of s (reg_in z 2)) z (extents_of z.memory) (Commits left) (ap extents_of same ∙ (all_accessed_stays s (accesses_of s (reg_in z 2)) z).extents)

short_leaves : (s : Short) (size : ℕ) (z : ZcCore) → Leaves (extents_of z.memory) (short_effect s size z)
short_leaves (Base i) size z = effect_leaves i size z
short_leaves (Push list adjust) size z = frame_leaves (Push list adjust) z (framed (Push list adjust) size z) refl
short_leaves (Pop list adjust) size z = frame_leaves (Pop list adjust) z (framed (Pop list adjust) size z) refl
short_leaves (PopRet list adjust) size z = frame_leaves (PopRet list adjust) z (returned (framed (PopRet list adjust) size z)) refl
short_leaves (PopRetz list adjust) size z = frame_leaves (PopRetz list adjust) z (returned (zeroed (framed (PopRetz list adjust) size z))) refl
short_leaves (MoveSa first second) size z = refl
short_leaves (MoveAs first second) size z = refl
short_leaves (TableJump index) size z =
    cond_both (lies_in is_text (extents_of z.memory) (entry_at index z) 4) _ act.BadAccess (Leaves (extents_of z.memory)) (λ _. refl) (λ _. tt)

abbrev StepLeaves : List Extent → ZcStep → Type 0
StepLeaves es (Committed y) = extents_of y.memory ≡ es
StepLeaves es (Wants c) = Unit {0}
StepLeaves es (Ended status) = Unit {0}
StepLeaves es (Stopped reason) = Unit {0}
StepLeaves es (Asks x) = Unit {0}

buffered_leaves : (es : List Extent) (z : ZcCore) (c : EnvCall) → StepLeaves es (buffered z c)
buffered_leaves es z c =
    cond_both (eqb (reg_in z 12) 0 || lies_in is_data (extents_of z.memory) (reg_in z 11) (reg_in z 12)) (Wants c) (Stopped BadAccess) (StepLeaves es) (λ _. tt) (λ _. tt)

called_leaves : (es : List Extent) (z : ZcCore) → StepLeaves es (called z)
called_leaves es z =
    cond_both (eqb (reg_in z 17) 93) _ _ (StepLeaves es) (λ _. tt)
    (λ _. cond_both (eqb (reg_in z 17) 63 && eqb (reg_in z 10) 0) _ _ (StepLeaves es) (λ _. buffered_leaves es z _)
    (λ _. cond_both (eqb (reg_in z 17) 64 && (eqb (reg_in z 10) 1 || eqb (reg_in z 10) 2)) _ _ (StepLeaves es) (λ _. buffered_leaves es z _) (λ _. tt)))

made_leaves : (f : Fetched) (z : ZcCore) → StepLeaves (extents_of z.memory) (made f z)
made_leaves (Found s size) z = by (short_effect s size z) (short_leaves s size z)
  where
    by : (x : Effect) → Leaves (extents_of z.memory) x → StepLeaves (extents_of z.memory) (effect_step x z)
    by (Commits y) h = h
    by act.Misaligned h = tt
    by act.BadAccess h = tt
    by (act.Outside x) h = tt
    by act.Break h = tt
    by act.Call h = called_leaves (extents_of z.memory) z
made_leaves (Missing reason) z = missed_leaves reason
  where
    -- an instruction of the system asks a device
    missed_leaves : (why : Reason) → StepLeaves (extents_of z.memory) (made (Missing why) z)
    missed_leaves Illegal =
        cond_both (lies_in is_text (extents_of z.memory) z.pc 4 && is_system (word_at z z.pc)) _ (Stopped Illegal) (StepLeaves (extents_of z.memory)) (λ _. tt) (λ _. tt)
    missed_leaves other = tt

answered_extents : (c : EnvCall) (r r' : ZcState) → answered c r ≡ Ok r' → extents_of r'.core.memory ≡ extents_of r.core.memory
answered_extents (call.Exit status) r r' h = ap (λ (x : ZcState). extents_of x.core.memory) (one_result (answered (call.Exit status) r) r' _ h refl)
answered_extents (call.Read at len) r r' h = ap (λ (x : ZcState). extents_of x.core.memory) (one_result (answered (call.Read at len) r) r' _ h refl) ∙ extents-changed _ r.core.memory
answered_extents (call.Write fd at len) r r' h = ap (λ (x : ZcState). extents_of x.core.memory) (one_result (answered (call.Write fd at len) r) r' _ h refl)

committed_extents : (step : ZcStep) (r r' : ZcState) → StepLeaves (extents_of r.core.memory) step → committed step r ≡ Ok r' → extents_of r'.core.memory ≡ extents_of r.core.memory
committed_extents (Committed y) r r' leaves h = let same : record r { core = y } ≡ r' = cc in ap (λ x. extents_of x.core.memory) (sym same) ∙ leaves
committed_extents (Wants c) r r' leaves h = answered_extents c r r' h
committed_extents (Ended status) r r' leaves h = let same : r ≡ r' = cc in ap (λ x. extents_of x.core.memory) (sym same)
committed_extents (Stopped reason) r r' leaves h = absurd cc
committed_extents (Asks x) r r' leaves h = by x (is_answered r.devices x) h
  where
    by : (x : DeviceAccess) (b : Bool) → cond b (Ok (device_answers x r)) (Err (unanswered x)) ≡ Ok r' → extents_of r'.core.memory ≡ extents_of r.core.memory
    by x false g = absurd cc
    by (access.Load op a rd size) true g = let same : device_answers (access.Load op a rd size) r ≡ r' = cc in ap (λ y. extents_of y.core.memory) (sym same)
    by (access.Store op a word size) true g = let same : device_answers (access.Store op a word size) r ≡ r' = cc in ap (λ y. extents_of y.core.memory) (sym same)
    by (access.System word operand) true g = let same : device_answers (access.System word operand) r ≡ r' = cc in ap (λ y. extents_of y.core.memory) (sym same)

-- a commit leaves regions where they lie
pub turn_extents : (r r' : ZcState) → zc_turn [] r ≡ Ok r' → extents_of r'.core.memory ≡ extents_of r.core.memory
unfolding turn zc_step
turn_extents r r' h = by r.core.exit refl
  where
    step : StepLeaves (extents_of r.core.memory) (zc_step r.core)
    step = going r.core.exit
      where
        going : (o : Option ℕ) → StepLeaves (extents_of r.core.memory) (option_map_or Ended o (made (fetched_at r.core r.core.pc) r.core))
        going None = made_leaves (fetched_at r.core r.core.pc) r.core
        going (Some status) = tt

    by : (o : Option ℕ) → r.core.exit ≡ o → extents_of r'.core.memory ≡ extents_of r.core.memory
    by None running = committed_extents (zc_step r.core) r r' step (sym (zc_turn-running [] r running) ∙ h)
    by (Some status) exited =
        let same : Ok r ≡ Ok r' = sym (ap (λ x. option_map_or (λ _. Ok r) x (committed (zc_step r.core) r)) exited) ∙ h in
        let is : r ≡ r' = cc in
        ap (λ x. extents_of x.core.memory) (sym is)
