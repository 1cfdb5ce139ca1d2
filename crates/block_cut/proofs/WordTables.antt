-- The instructions of a section's words, in a table: their number, and the entry for an offset.
use Rattle.std.proofs.Common.{◌≡◌, ℕ, ◌+◌, ◌*◌, ◌/◌, ◌%◌, ◌≤◌, List, length, Some, slice_get, ap, ◌∙◌, arith}
use Rattle.std.proofs.lemmas.List.FromFn.{length-map-range_with_len}
use Rattle.elf32_read.proofs.Listed.{slice_get-listed}
use Rattle.block_cut.specs.Instrs.{instrs_in}
use Rattle.block_cut.specs.Relocs.{instr_in}

pub instr_count : (bytes : List ℕ) → length (instrs_in bytes) ≡ length bytes / 4
instr_count bytes = length-map-range_with_len (λ k. instr_in 4 bytes (4 * k)) 0 (length bytes / 4)

-- the word at an offset that is a multiple of 4, if it is whole
pub instr_there : (bytes : List ℕ) (n : ℕ) → n % 4 ≡ 0 → n + 4 ≤ length bytes → slice_get (instrs_in bytes) (n / 4) ≡ Some (instr_in 4 bytes n)
instr_there bytes n words inside =
    let at : 4 * (n / 4) ≡ n = omega (arith, words) in
    slice_get-listed (λ k. instr_in 4 bytes (4 * k)) (length bytes / 4) (n / 4) (omega (arith, inside, words)) ∙ ap (λ m. Some (instr_in 4 bytes m)) at
