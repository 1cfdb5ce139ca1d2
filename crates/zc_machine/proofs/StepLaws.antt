-- What each kind of step shows of the state that it is made in.
use Rattle.std.specs.Int.{w32, cast_unsigned}
use Rattle.std.specs.Option.{option_map_or}
use Rattle.std.specs.Prelude.{◌&&◌, ◌||◌}
use Rattle.std.proofs.Common.{◌≡◌, ℕ, ◌+◌, ◌*◌, ◌/◌, ◌%◌, ◌^◌, ◌≤◌, ◌⊎◌, inl, inr, ⊎_elim, List, [], ◌∷◌, Bool, true, false, cond, eqb, ltb, Option, Some, None, refl, ap, subst, arith}
use Rattle.std.proofs.lemmas.Bool.{and_parts, eqb-true, or_cases}
use Rattle.rv_decode.specs.Formats.{rs1_of}
use Rattle.rv_decode.specs.State.{ZcCore, reg_in, word_at}
use Rattle.rv_decode.specs.System.{is_system, system_operand}
use Rattle.rv_decode.specs.Bits.{add32}
use Rattle.rv_decode.specs.declared.device_access.DeviceAccess.{DeviceAccess}
use Rattle.rv_decode.specs.declared.device_access.DeviceAccess.TheVariants as access
use Rattle.rv_decode.specs.declared.instr.LoadOp.{LoadOp}
use Rattle.rv_decode.specs.declared.instr.LoadOp.TheVariants.{Lb, Lh, Lw, Lbu, Lhu}
use Rattle.rv_decode.specs.declared.instr.StoreOp.{StoreOp}
use Rattle.rv_decode.specs.declared.instr.StoreOp.TheVariants.{Sb, Sh, Sw}
use Rattle.rv_decode.specs.Effect.{Effect, Commits, BadAccess, Misaligned, effect, Outside, attempting, gives, jumps, load_result, load_width, onward, store_width, stored}
use Rattle.rv_decode.specs.Memory.{extents_of, is_data, is_text, lies_in}
use Rattle.rv_decode.specs.declared.instr.Instr.{Instr}
use Rattle.rv_decode.specs.declared.instr.Instr.TheVariants.{Upper, Jal, Jalr, Branch, Load, Store, WithImm, WithReg, Fence, Ecall, Ebreak, Csrrw}
use Rattle.zc_decode.specs.Accesses.{Access, accesses_of}
use Rattle.zc_decode.specs.Effect.{all_accessed, entry_at, framed, reaching_all, returned, short_effect, table_jumps, zeroed}
use Rattle.zc_decode.specs.declared.short.Short.{Short}
use Rattle.zc_decode.specs.declared.short.Short.TheVariants.{Base, Push, Pop, PopRet, PopRetz, MoveSa, MoveAs, TableJump}
use Rattle.zc_machine.specs.declared.reason.Reason.{Reason}
use Rattle.zc_machine.specs.declared.reason.Reason.TheVariants as reason
use Rattle.zc_machine.specs.declared.reason.Reason.TheVariants.{Illegal, UnknownCall}
use Rattle.zc_machine.specs.declared.answer.EnvCall.{EnvCall}
use Rattle.zc_machine.specs.declared.answer.EnvCall.TheVariants.{Exit, Read, Write}
use Rattle.zc_machine.proofs.CutLaws.{all_accessed_keeps}
use Rattle.zc_machine.specs.Buffer.{InMemory}
use Rattle.zc_machine.specs.Fetch.{Fetched, Found, Missing, fetched_at}
use Rattle.zc_machine.specs.Shown.{EndsWithin}
use Rattle.zc_machine.specs.Step.{ZcStep, Committed, Wants, Ended, Stopped, Asks, buffered, called, effect_step, made, zc_step}

-- what holds of an access that is made, of an aligned one elsewhere, and of each stop, holds of an access
pub access_step : (P : ZcStep → Type 0) (z : ZcCore) (n a : ℕ) (other go : Effect) → P (effect_step go z) → (eqb (a % n) 0 ≡ true → P (effect_step other z)) → ((reason : Reason) → P (Stopped reason)) → P (effect_step (attempting n a z other go) z)
access_step P z n a other go made elsewhere stopped = either (eqb (a % n) 0) (lies_in is_data (extents_of z.memory) a n) refl
  where
    either : (b c : Bool) → eqb (a % n) 0 ≡ b → P (effect_step (cond b (cond c go other) Misaligned) z)
    either true true aligned = made
    either true false aligned = elsewhere aligned
    either false c aligned = stopped reason.Misaligned

-- an access at a multiple of its width ends at 2^32 or before
load_within : (op : LoadOp) (sum : ℕ) → eqb (sum % 2 ^ 32 % load_width op) 0 ≡ true → sum % 2 ^ 32 + load_width op ≤ 2 ^ 32
load_within Lb sum aligned = omega arith
load_within Lh sum aligned = omega (arith, eqb-true (sum % 2 ^ 32 % 2) 0 aligned)
load_within Lw sum aligned = omega (arith, eqb-true (sum % 2 ^ 32 % 4) 0 aligned)
load_within Lbu sum aligned = omega arith
load_within Lhu sum aligned = omega (arith, eqb-true (sum % 2 ^ 32 % 2) 0 aligned)

store_within : (op : StoreOp) (sum : ℕ) → eqb (sum % 2 ^ 32 % store_width op) 0 ≡ true → sum % 2 ^ 32 + store_width op ≤ 2 ^ 32
store_within Sb sum aligned = omega arith
store_within Sh sum aligned = omega (arith, eqb-true (sum % 2 ^ 32 % 2) 0 aligned)
store_within Sw sum aligned = omega (arith, eqb-true (sum % 2 ^ 32 % 4) 0 aligned)

-- a commit counts and doesn't exit, the status of an exit is the low byte of a0, what is read and written is told by a0, a1 and
-- a2 and lies in memory, only an exit ends, and a device is asked for no byte beyond 2^32
abbrev pub Shows : ZcCore → ZcStep → Type 0
Shows z (Committed z') = (z'.commits ≡ z.commits + 1) × (z'.exit ≡ z.exit)
Shows z (Wants (Exit status)) = status ≡ reg_in z 10 % 256
Shows z (Wants (Read at len)) = (at ≡ reg_in z 11) × (len ≡ reg_in z 12) × InMemory z at len
Shows z (Wants (Write fd at len)) = (at ≡ reg_in z 11) × (len ≡ reg_in z 12) × InMemory z at len × ((fd ≡ 1) ⊎ (fd ≡ 2))
Shows z (Ended status) = z.exit ≡ Some status
Shows z (Stopped reason) = Unit {0}
Shows z (Asks x) = EndsWithin x

module _ (z : ZcCore) where
  abbrev read : EnvCall
  read = Read (reg_in z 11) (reg_in z 12)

  abbrev write : EnvCall
  write = Write (reg_in z 10) (reg_in z 11) (reg_in z 12)

  buffer_shows : (c : EnvCall) → (InMemory z (reg_in z 11) (reg_in z 12) → Shows z (Wants c)) → Shows z (buffered z c)
  buffer_shows c shows = either (eqb (reg_in z 12) 0 || lies_in is_data (extents_of z.memory) (reg_in z 11) (reg_in z 12)) refl
    where
      either : (b : Bool) → (eqb (reg_in z 12) 0 || lies_in is_data (extents_of z.memory) (reg_in z 11) (reg_in z 12)) ≡ b → Shows z (cond b (Wants c) (Stopped reason.BadAccess))
      either true h = shows (λ some. ⊎_elim
          (λ none. absurd (let zero = eqb-true (reg_in z 12) 0 none in omega (arith, some, zero)))
          (λ lies. lies)
          (or_cases (eqb (reg_in z 12) 0) (lies_in is_data (extents_of z.memory) (reg_in z 11) (reg_in z 12)) h))
      either false h = tt

  -- a stream that is written to has the number 1 or 2
  stream : (eqb (reg_in z 17) 64 && (eqb (reg_in z 10) 1 || eqb (reg_in z 10) 2)) ≡ true → (reg_in z 10 ≡ 1) ⊎ (reg_in z 10 ≡ 2)
  stream h = ⊎_elim
      (λ out. inl (eqb-true (reg_in z 10) 1 out))
      (λ err. inr (eqb-true (reg_in z 10) 2 err))
      (or_cases (eqb (reg_in z 10) 1) (eqb (reg_in z 10) 2) (and_parts (eqb (reg_in z 17) 64) (eqb (reg_in z 10) 1 || eqb (reg_in z 10) 2) h).1)

  call_shows : Shows z (called z)
  call_shows = by_number (eqb (reg_in z 17) 93) (eqb (reg_in z 17) 63 && eqb (reg_in z 10) 0) (eqb (reg_in z 17) 64 && (eqb (reg_in z 10) 1 || eqb (reg_in z 10) 2)) refl
    where
      by_number :
          (a b c : Bool) → (eqb (reg_in z 17) 64 && (eqb (reg_in z 10) 1 || eqb (reg_in z 10) 2)) ≡ c
          → Shows z (cond a (Wants (Exit (reg_in z 10 % 256))) (cond b (buffered z read) (cond c (buffered z write) (Stopped UnknownCall))))
      by_number true b c is = refl
      by_number false true c is = buffer_shows read (λ m. (refl, refl, m))
      by_number false false true is = buffer_shows write (λ m. (refl, refl, m, stream is))
      by_number false false false is = tt

  effect_shows : (i : Instr) (size : ℕ) → Shows z (effect_step (effect i size z) z)
  effect_shows (Upper op rd imm) size = (refl, refl)
  effect_shows (Jal rd distance) size = (refl, refl)
  effect_shows (Jalr rd base imm) size = (refl, refl)
  effect_shows (Branch op first second distance) size = (refl, refl)
  effect_shows (Load op rd base imm) size =
      let a = add32 (reg_in z base) imm in access_step (Shows z) z (load_width op) a (Outside (access.Load op a rd size)) (gives (load_result op z a) rd size z) (refl, refl)
      (load_within op (reg_in z base + cast_unsigned w32 imm)) (λ reason. tt)
  effect_shows (Store op source base imm) size =
      let a = add32 (reg_in z base) imm in access_step (Shows z) z (store_width op) a (Outside (access.Store op a (reg_in z source) size)) (Commits (onward (stored (store_width op) a (reg_in z source) z) size z.regs)) (refl, refl)
      (store_within op (reg_in z base + cast_unsigned w32 imm)) (λ reason. tt)
  effect_shows (WithImm op rd first imm) size = (refl, refl)
  effect_shows (WithReg op rd first second) size = (refl, refl)
  effect_shows (Fence rest) size = (refl, refl)
  effect_shows Ecall size = call_shows
  effect_shows Ebreak size = tt
  effect_shows (Csrrw rd source) size = (refl, refl)

  -- a push or pop
  frames_show : (left : ZcCore) (xs : List Access) → (left.commits ≡ z.commits + 1) × (left.exit ≡ z.exit) → Shows z (effect_step (reaching_all xs z (Commits left)) z)
  frames_show left [] shows = shows
  frames_show left (a ∷ rest) shows = access_step (Shows z) z 4 a.at BadAccess (reaching_all rest z (Commits left)) (frames_show left rest shows) (λ aligned. tt) (λ reason. tt)

  -- the commit of a push or a pop
  framed_shows : (s : Short) → let y = all_accessed s (accesses_of s (reg_in z 2)) z in (y.commits + 1 ≡ z.commits + 1) × (y.exit ≡ z.exit)
  framed_shows s = let kept = all_accessed_keeps s (accesses_of s (reg_in z 2)) z in (ap (λ n. n + 1) kept.commits, kept.exit)

  table_shows : (index size : ℕ) → Shows z (effect_step (table_jumps index size z) z)
  table_shows index size = either (lies_in is_text (extents_of z.memory) (entry_at index z) 4)
    where
      either : (b : Bool) → Shows z (effect_step (cond b (jumps (word_at z (entry_at index z) / 2 * 2) (cond (ltb index 32) 0 1) size z) BadAccess) z)
      either true = (refl, refl)
      either false = tt

  short_shows : (s : Short) (size : ℕ) → Shows z (effect_step (short_effect s size z) z)
  short_shows (Base i) size = effect_shows i size
  short_shows (Push list adjust) size = frames_show (framed (Push list adjust) size z) (accesses_of (Push list adjust) (reg_in z 2)) (framed_shows (Push list adjust))
  short_shows (Pop list adjust) size = frames_show (framed (Pop list adjust) size z) (accesses_of (Pop list adjust) (reg_in z 2)) (framed_shows (Pop list adjust))
  short_shows (PopRet list adjust) size =
      frames_show (returned (framed (PopRet list adjust) size z)) (accesses_of (PopRet list adjust) (reg_in z 2)) (framed_shows (PopRet list adjust))
  short_shows (PopRetz list adjust) size =
      frames_show (returned (zeroed (framed (PopRetz list adjust) size z))) (accesses_of (PopRetz list adjust) (reg_in z 2)) (framed_shows (PopRetz list adjust))
  short_shows (MoveSa first second) size = (refl, refl)
  short_shows (MoveAs first second) size = (refl, refl)
  short_shows (TableJump index) size = table_shows index size

  -- where no instruction is fetched, one of the system may ask
  missed_shows : (reason : Reason) → Shows z (made (Missing reason) z)
  missed_shows Illegal = either (lies_in is_text (extents_of z.memory) z.pc 4 && is_system (word_at z z.pc))
    where
      either : (b : Bool) → Shows z (cond b (Asks (access.System (word_at z z.pc) (system_operand (word_at z z.pc) (reg_in z (rs1_of (word_at z z.pc)))))) (Stopped Illegal))
      either true = tt
      either false = tt
  missed_shows reason.BadAccess = tt
  missed_shows reason.Misaligned = tt
  missed_shows reason.Break = tt
  missed_shows UnknownCall = tt

  made_shows : (f : Fetched) → Shows z (made f z)
  made_shows (Found s size) = short_shows s size
  made_shows (Missing reason) = missed_shows reason

  from_shows : (x : Option ℕ) → z.exit ≡ x → Shows z (option_map_or Ended x (made (fetched_at z z.pc) z))
  from_shows None e = made_shows (fetched_at z z.pc)
  from_shows (Some status) e = e

  pub step_shows : Shows z (zc_step z)
  unfolding zc_step
  step_shows = from_shows z.exit refl

  -- the status of the exit that is wanted
  pub exit_status : (status : ℕ) → zc_step z ≡ Wants (Exit status) → status ≡ reg_in z 10 % 256
  exit_status status e = subst (Shows z) e step_shows

  -- a read that is wanted has a buffer in memory, told by a1 and a2
  pub read_shows : (at len : ℕ) → zc_step z ≡ Wants (Read at len) → (at ≡ reg_in z 11) × (len ≡ reg_in z 12) × InMemory z at len
  read_shows at len e = subst (Shows z) e step_shows

  -- a write's buffer lies in memory, and it is to stream 1 or 2
  pub write_shows : (fd at len : ℕ) → zc_step z ≡ Wants (Write fd at len) → (at ≡ reg_in z 11) × (len ≡ reg_in z 12) × InMemory z at len × ((fd ≡ 1) ⊎ (fd ≡ 2))
  write_shows fd at len e = subst (Shows z) e step_shows

  -- an access that is asked ends at 2^32 or before
  pub asks_within : (x : DeviceAccess) → zc_step z ≡ Asks x → EndsWithin x
  asks_within x e = subst (Shows z) e step_shows
