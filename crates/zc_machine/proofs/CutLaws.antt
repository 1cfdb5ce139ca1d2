-- What accesses, interrupts and bytes written from outside keep.
use Rattle.std.proofs.Common.{◌≡◌, ◌≢◌, ℕ, zero, suc, ◌-◌, List, [], ◌∷◌, drop, Bool, true, false, cond, eqb, refl, sym, ◌∙◌, Option, Some, None, arith, ltb}
use Rattle.std.specs.Prelude.{All, negsuc, slice_get, ◌&&◌}
use Rattle.std.proofs.lemmas.List.Elements.{All-drop, All-from_recursion, All-head, All-tail}
use Rattle.interrupt_plan.specs.Plan.{Interrupt}
use Rattle.rv_decode.specs.Bits.{add32}
use Rattle.rv_decode.specs.Memory.{changed, written, extents_of, is_stack, lies_in}
use Rattle.rv_decode.specs.State.{ZcCore, reg_in, word_at}
use Rattle.rv_decode.proofs.RegisterLaws.{reads-set_reg_other}
use Rattle.rv_decode.specs.declared.instr.Instr.{Instr}
use Rattle.zc_decode.specs.Accesses.{Access, accesses_of, sp_after, words_below}
use Rattle.zc_decode.specs.Effect.{accessed, all_accessed, restored}
use Rattle.zc_decode.specs.Lists.{registers_of, saved_registers}
use Rattle.zc_decode.specs.declared.short.Short.{Short}
use Rattle.zc_decode.specs.declared.short.Short.TheVariants.{Base, Push, Pop, PopRet, PopRetz, MoveSa, MoveAs, TableJump}
use Rattle.zc_machine.specs.Fetch.{Fetched, Found, Missing, fetched_at}
use Rattle.zc_machine.specs.Interrupt.{all_dirtied, all_interrupted, dirtied, done_all, done_of, done_one, interrupted}
use Rattle.zc_machine.specs.Poked.{is_segment, poked_core}
use Rattle.zc_machine.proofs.FrameLaws.{is_possible}

-- pc, the number of commits, and the exit
pub record Keeps (y z : ZcCore) : Type 0 where
  pub pc : z.pc ≡ y.pc
  pub commits : z.commits ≡ y.commits
  pub exit : z.exit ≡ y.exit

pub Keeps-refl : (z : ZcCore) → Keeps z z
Keeps-refl z = record { pc = refl; commits = refl; exit = refl }

pub Keeps-trans : (x y z : ZcCore) → Keeps x y → Keeps y z → Keeps x z
Keeps-trans x y z p q = record { pc = q.pc ∙ p.pc; commits = q.commits ∙ p.commits; exit = q.exit ∙ p.exit }

-- ---- accesses

accessed_keeps : (s : Short) (a : Access) (z : ZcCore) → Keeps z (accessed s a z)
accessed_keeps (Base i) a z = Keeps-refl z
accessed_keeps (Push list adjust) a z = record { pc = refl; commits = refl; exit = refl }
accessed_keeps (Pop list adjust) a z = record { pc = refl; commits = refl; exit = refl }
accessed_keeps (PopRet list adjust) a z = record { pc = refl; commits = refl; exit = refl }
accessed_keeps (PopRetz list adjust) a z = record { pc = refl; commits = refl; exit = refl }
accessed_keeps (MoveSa first second) a z = Keeps-refl z
accessed_keeps (MoveAs first second) a z = Keeps-refl z
accessed_keeps (TableJump index) a z = Keeps-refl z

pub all_accessed_keeps : (s : Short) (xs : List Access) (z : ZcCore) → Keeps z (all_accessed s xs z)
all_accessed_keeps s [] z = Keeps-refl z
all_accessed_keeps s (a ∷ rest) z = Keeps-trans z (accessed s a z) (all_accessed s rest (accessed s a z)) (accessed_keeps s a z) (all_accessed_keeps s rest (accessed s a z))

done_one_keeps : (s : Short) (a : Option Access) (z : ZcCore) → Keeps z (done_one s a z)
done_one_keeps s None z = Keeps-refl z
done_one_keeps s (Some a) z = either (is_possible a z)
  where
    either : (b : Bool) → Keeps z (cond b (accessed s a z) z)
    either true = accessed_keeps s a z
    either false = Keeps-refl z

done_all_keeps : (s : Short) (xs : List Access) (done : List ℕ) (z : ZcCore) → Keeps z (done_all s xs done z)
done_all_keeps s xs [] z = Keeps-refl z
done_all_keeps s xs (j ∷ js) z =
    let y = done_one s (slice_get xs j) z in
    Keeps-trans z y (done_all s xs js y) (done_one_keeps s (slice_get xs j) z) (done_all_keeps s xs js y)

done_of_keeps : (f : Fetched) (done : List ℕ) (z : ZcCore) → Keeps z (done_of f done z)
done_of_keeps (Found s size) done z = done_all_keeps s (accesses_of s (reg_in z 2)) done z
done_of_keeps (Missing reason) done z = Keeps-refl z

-- where no push or pop stands, no access is made
pub done_of-base : (i : Instr) (size : ℕ) (done : List ℕ) (z : ZcCore) → done_of (Found (Base i) size) done z ≡ z
done_of-base i size done z = none done
  where
    none : (done : List ℕ) → done_all (Base i) [] done z ≡ z
    none [] = refl
    none (j ∷ js) = none js

-- ---- interrupts

dirtied_keeps : (d : ℕ × ℕ) (z : ZcCore) → Keeps z (dirtied d z)
dirtied_keeps d z = either (lies_in is_stack (extents_of z.memory) d.0 1 && ltb d.0 (reg_in z 2))
  where
    either : (b : Bool) → Keeps z (cond b (record z { memory = changed (written d.0 1 (λ i. d.1)) z.memory }) z)
    either true = record { pc = refl; commits = refl; exit = refl }
    either false = Keeps-refl z

all_dirtied_keeps : (ds : List (ℕ × ℕ)) (z : ZcCore) → Keeps z (all_dirtied ds z)
all_dirtied_keeps [] z = Keeps-refl z
all_dirtied_keeps (d ∷ ds) z = Keeps-trans z (dirtied d z) (all_dirtied ds (dirtied d z)) (dirtied_keeps d z) (all_dirtied_keeps ds (dirtied d z))

pub cut_keeps : (c : Interrupt) (z : ZcCore) → Keeps z (interrupted c z)
cut_keeps c z =
    let y = done_of (fetched_at z z.pc) c.done z in
    Keeps-trans z y (all_dirtied c.dirt y) (done_of_keeps (fetched_at z z.pc) c.done z) (all_dirtied_keeps c.dirt y)

pub all_cuts_keep : (cuts : List Interrupt) (z : ZcCore) → Keeps z (all_interrupted cuts z)
all_cuts_keep [] z = Keeps-refl z
all_cuts_keep (c ∷ cs) z = Keeps-trans z (interrupted c z) (all_interrupted cs (interrupted c z)) (cut_keeps c z) (all_cuts_keep cs (interrupted c z))

-- ---- bytes written from outside

pub poked_keeps : (c : ℕ × ℕ) (z : ZcCore) → Keeps z (poked_core c z)
poked_keeps c z = either (lies_in is_segment (extents_of z.memory) c.0 1)
  where
    either : (b : Bool) → Keeps z (cond b (record z { memory = changed (written c.0 1 (λ i. c.1)) z.memory }) z)
    either true = record { pc = refl; commits = refl; exit = refl }
    either false = Keeps-refl z

-- ---- sp

-- no list has sp
not_sp : (list : ℕ) → All (λ r. r ≢ 2) (registers_of list)
not_sp list = either (eqb list 15)
  where
    not_saved : All (λ r. r ≢ 2) saved_registers
    not_saved = All-from_recursion (λ r. r ≢ 2) saved_registers (omega arith, (omega arith, (omega arith, (omega arith, (omega arith, (omega arith, (omega arith, (omega arith, (omega arith, (omega arith, (omega arith, (omega arith, (omega arith, tt)))))))))))))

    either : (b : Bool) → All (λ r. r ≢ 2) (cond b saved_registers (drop (16 - list) saved_registers))
    either true = not_saved
    either false = All-drop (λ r. r ≢ 2) (16 - list) saved_registers not_saved

word_of_list : (rs : List ℕ) (top j : ℕ) (a : Access) → All (λ r. r ≢ 2) rs → slice_get (words_below top rs) j ≡ Some a → a.register ≢ 2
word_of_list [] top j a known got = absurd cc
word_of_list (r ∷ rs) top zero a known got = let same : a.register ≡ r = cc in λ e. All-head (λ r. r ≢ 2) r rs known (sym same ∙ e)
word_of_list (r ∷ rs) top (suc j) a known got = word_of_list rs (add32 top (negsuc 3)) j a (All-tail (λ r. r ≢ 2) r rs known) got

-- no access is of sp
access_of : (s : Short) (sp j : ℕ) (a : Access) → slice_get (accesses_of s sp) j ≡ Some a → a.register ≢ 2
access_of (Base i) sp j a got = absurd cc
access_of (Push list adjust) sp j a got = word_of_list (registers_of list) sp j a (not_sp list) got
access_of (Pop list adjust) sp j a got = word_of_list (registers_of list) (sp_after (Pop list adjust) sp) j a (not_sp list) got
access_of (PopRet list adjust) sp j a got = word_of_list (registers_of list) (sp_after (PopRet list adjust) sp) j a (not_sp list) got
access_of (PopRetz list adjust) sp j a got = word_of_list (registers_of list) (sp_after (PopRetz list adjust) sp) j a (not_sp list) got
access_of (MoveSa first second) sp j a got = absurd cc
access_of (MoveAs first second) sp j a got = absurd cc
access_of (TableJump index) sp j a got = absurd cc

restored_sp : (a : Access) (z : ZcCore) → a.register ≢ 2 → reg_in (restored a z) 2 ≡ reg_in z 2
restored_sp a z other = reads-set_reg_other 0 0 z.regs a.register (word_at z a.at) 2 (λ e. other (sym e))

accessed_sp : (s : Short) (a : Access) (z : ZcCore) → a.register ≢ 2 → reg_in (accessed s a z) 2 ≡ reg_in z 2
accessed_sp (Base i) a z other = refl
accessed_sp (Push list adjust) a z other = refl
accessed_sp (Pop list adjust) a z other = restored_sp a z other
accessed_sp (PopRet list adjust) a z other = restored_sp a z other
accessed_sp (PopRetz list adjust) a z other = restored_sp a z other
accessed_sp (MoveSa first second) a z other = refl
accessed_sp (MoveAs first second) a z other = refl
accessed_sp (TableJump index) a z other = refl

done_one_sp : (s : Short) (sp j : ℕ) (z : ZcCore) (a : Option Access) → slice_get (accesses_of s sp) j ≡ a → reg_in (done_one s a z) 2 ≡ reg_in z 2
done_one_sp s sp j z None got = refl
done_one_sp s sp j z (Some a) got = either (is_possible a z)
  where
    either : (b : Bool) → reg_in (cond b (accessed s a z) z) 2 ≡ reg_in z 2
    either true = accessed_sp s a z (access_of s sp j a got)
    either false = refl

done_all_sp : (s : Short) (sp : ℕ) (done : List ℕ) (z : ZcCore) → reg_in (done_all s (accesses_of s sp) done z) 2 ≡ reg_in z 2
done_all_sp s sp [] z = refl
done_all_sp s sp (j ∷ js) z =
    done_all_sp s sp js (done_one s (slice_get (accesses_of s sp) j) z) ∙ done_one_sp s sp j z (slice_get (accesses_of s sp) j) refl

done_of_sp : (f : Fetched) (done : List ℕ) (z : ZcCore) → reg_in (done_of f done z) 2 ≡ reg_in z 2
done_of_sp (Found s size) done z = done_all_sp s (reg_in z 2) done z
done_of_sp (Missing reason) done z = refl

all_dirtied_sp : (ds : List (ℕ × ℕ)) (z : ZcCore) → reg_in (all_dirtied ds z) 2 ≡ reg_in z 2
all_dirtied_sp [] z = refl
all_dirtied_sp (d ∷ ds) z = all_dirtied_sp ds (dirtied d z) ∙ either (lies_in is_stack (extents_of z.memory) d.0 1 && ltb d.0 (reg_in z 2))
  where
    either : (b : Bool) → reg_in (cond b (record z { memory = changed (written d.0 1 (λ i. d.1)) z.memory }) z) 2 ≡ reg_in z 2
    either true = refl
    either false = refl

-- an interrupt keeps sp
pub cut_keeps_sp : (c : Interrupt) (z : ZcCore) → reg_in (interrupted c z) 2 ≡ reg_in z 2
cut_keeps_sp c z = all_dirtied_sp c.dirt (done_of (fetched_at z z.pc) c.done z) ∙ done_of_sp (fetched_at z z.pc) c.done z
