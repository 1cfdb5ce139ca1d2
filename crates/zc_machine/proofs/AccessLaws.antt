-- Loads and stores that lie in memory at a multiple of their width are made, and a store writes the low bytes of its word. A
-- table jump goes by its entry, and an instruction of the system by the word at pc.
use Rattle.std.proofs.Common.{◌≡◌, ℕ, zero, suc, ◌*◌, ◌/◌, ◌%◌, ◌<◌, List, eqb, ltb, Bool, cond, true, false, Option, Some, None, refl, ap, ◌∙◌, arith, slice_index}
use Rattle.std.specs.Prelude.{◌&&◌}
use Rattle.std.specs.Int.{to_le_bytes, w32}
use Rattle.std.proofs.lemmas.Bool.{cond-true}
use Rattle.std.proofs.lemmas.Option.{cond_some}
use Rattle.rv_decode.specs.Effect.{Effect, BadAccess, Misaligned, attempting, jumps}
use Rattle.rv_decode.specs.Memory.{Region, byte_of, changed, extents_of, is_data, is_text, lies_in, written}
use Rattle.rv_decode.specs.Formats.{rs1_of}
use Rattle.rv_decode.specs.State.{ZcCore, reg_in, word_at}
use Rattle.rv_decode.specs.System.{is_system, system_operand}
use Rattle.rv_decode.specs.declared.device_access.DeviceAccess.TheVariants as access
use Rattle.zc_decode.specs.Effect.{entry_at, table_jumps}
use Rattle.zc_machine.specs.Step.{ZcStep, Asks, Stopped, unread}
use Rattle.zc_machine.specs.declared.reason.Reason.TheVariants.{Illegal}
use Rattle.zc_machine.proofs.RegionLaws.{written-same}

-- an access that is made
pub reaching-made : (n a : ℕ) (z : ZcCore) (other go : Effect) → eqb (a % n) 0 ≡ true → lies_in is_data (extents_of z.memory) a n ≡ true → attempting n a z other go ≡ go
reaching-made n a z other go aligned lies =
    cond-true (eqb (a % n) 0) (cond (lies_in is_data (extents_of z.memory) a n) go other) Misaligned aligned
    ∙ cond-true (lies_in is_data (extents_of z.memory) a n) go other lies

-- each byte of a word
byte_same : (word i : ℕ) → i < 4 → slice_index (to_le_bytes w32 word) i ≡ byte_of word i
byte_same word zero lt = omega arith
byte_same word (suc zero) lt = omega arith
byte_same word (suc (suc zero)) lt = omega arith
byte_same word (suc (suc (suc zero))) lt = omega arith
byte_same word (suc (suc (suc (suc i)))) lt = absurd (omega arith)

-- the four bytes of a word are written
pub changed-word : (a word : ℕ) (rs : List (Region ℕ)) → changed (written a 4 (slice_index (to_le_bytes w32 word))) rs ≡ changed (written a 4 (byte_of word)) rs
changed-word a word rs = ap (λ f. changed f rs) (λ i x c. written-same a 4 (slice_index (to_le_bytes w32 word)) (byte_of word) (byte_same word) x c i)

-- a table jump goes by its entry, if that lies in code
pub table_jump-made :
    (index size entry : ℕ) (z : ZcCore) → cond (lies_in is_text (extents_of z.memory) (entry_at index z) 4) (Some (word_at z (entry_at index z))) None ≡ Some entry
    → table_jumps index size z ≡ jumps (entry / 2 * 2) (cond (ltb index 32) 0 1) size z
table_jump-made index size entry z is =
    let q = cond_some (lies_in is_text (extents_of z.memory) (entry_at index z) 4) (word_at z (entry_at index z)) entry is in
    cond-true (lies_in is_text (extents_of z.memory) (entry_at index z) 4) (jumps (word_at z (entry_at index z) / 2 * 2) (cond (ltb index 32) 0 1) size z) BadAccess q.0
    ∙ ap (λ w. jumps (w / 2 * 2) (cond (ltb index 32) 0 1) size z) q.1

-- what the machine does where its tables have no instruction, if this word of code, or none, stands at pc
abbrev pub unread_by : ZcCore → Option ℕ → ZcStep
unread_by z None = Stopped Illegal
unread_by z (Some word) = cond (is_system word) (Asks (access.System word (system_operand word (reg_in z (rs1_of word))))) (Stopped Illegal)

pub unread_is : (z : ZcCore) → unread z ≡ unread_by z (cond (lies_in is_text (extents_of z.memory) z.pc 4) (Some (word_at z z.pc)) None)
unread_is z = either (lies_in is_text (extents_of z.memory) z.pc 4)
  where
    word : ℕ
    word = word_at z z.pc

    either : (b : Bool) → cond (b && is_system word) (Asks (access.System word (system_operand word (reg_in z (rs1_of word))))) (Stopped Illegal) ≡ unread_by z (cond b (Some word) None)
    either true = refl
    either false = refl
