use Rattle.std.proofs.Common.{ℕ, Option, ◌++◌, ◌∷◌, [], ◌*◌, map, sym, ap, ◌∙◌, arith}
use Rattle.std.specs.List.{range_with_len}
use Rattle.std.proofs.lemmas.List.FromFn.{map-range_with_len_more}
use Rattle.rv_decode.specs.Decode.{decoded}
use Rattle.rv_decode.specs.declared.instr.Instr.{Instr}
use Rattle.block_cut.specs.Relocs.{instr_in}
use Rattle.block_cut.proofs.section_words.decode_words.Goals as goal

pub loop-k-preserved : goal.loop-k-preserved
loop-k-preserved c =
    let k = c.loop-k.k in
    let f : ℕ → Option Instr = λ k. instr_in 4 c.args.bytes.now (4 * k) in
    c.in_ok-push.ensures.items ∙ ap (λ l. l ++ c.decode.result ∷ []) c.loop-k.invariant
    ∙ ap (λ r. map f (range_with_len 0 k) ++ r ∷ []) (c.decode.ensures ∙ ap decoded c.u32_at.ensures)
    ∙ sym (map-range_with_len_more f 0 k k (omega arith))
