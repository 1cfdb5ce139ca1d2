use Rattle.std.proofs.Common.{◌+◌, ◌<◌, ◌≤◌, ◌/◌, None, cond, get_or, length, sym, ap, ◌∙◌, arith}
use Rattle.std.proofs.lemmas.Bool.{le-leb, lt-leb}
use Rattle.std.proofs.lemmas.Option.{get_or_from_slice_get}
use Rattle.block_cut.specs.Instrs.{instrs_in}
use Rattle.block_cut.specs.Relocs.{instr_in}
use Rattle.block_cut.proofs.WordTables.{instr_count, instr_there}
use Rattle.block_cut.proofs.section_words.instr_on.Goals as goal

pub returns-in-None : goal.returns-in-None
returns-in-None c = λ bytes are words.
    let at = c.args.at in
    let past : length bytes < at + 4 = omega (arith, words, c.in-None.ensures.lookup.3, ap length are, instr_count bytes) in
    sym (ap (λ b. cond b (instr_in 4 bytes at) None) (lt-leb (at + 4) (length bytes) past))

pub returns-in-Some : goal.returns-in-Some
returns-in-Some c = λ bytes are words.
    let at = c.args.at in
    let instr = c.in-Some.instr.now in
    let inside : at + 4 ≤ length bytes = omega (arith, words, c.in-Some.ensures.lookup.3.0, ap length are, instr_count bytes) in
    c.in-Some.ensures.lookup.1 ∙ ap (λ l. get_or l (at / 4) instr) are
    ∙ get_or_from_slice_get (instrs_in bytes) (at / 4) (instr_in 4 bytes at) instr (instr_there bytes at words inside)
    ∙ sym (ap (λ b. cond b (instr_in 4 bytes at) None) (le-leb (at + 4) (length bytes) inside))
