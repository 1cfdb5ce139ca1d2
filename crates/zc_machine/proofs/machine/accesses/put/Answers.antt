use Rattle.std.proofs.Common.{if◌then◌else◌, List, ℕ, length, slice_index, sym, ap, ◌∙◌}
use Rattle.rv_decode.specs.Effect.{store_width}
use Rattle.rv_decode.specs.Memory.{byte_of, changed, written}
use Rattle.rv_decode.specs.declared.instr.StoreOp.{StoreOp}
use Rattle.zc_machine.proofs.AccessLaws.{changed-word}
use Rattle.zc_machine.proofs.machine.accesses.put.Goals as goal

pub returns-in-Sw-clause-after : goal.returns-in-Sw-clause-after
returns-in-Sw-clause-after c =
    let a = c.args.a in
    let old = c.args.memory.now in
    let word = c.args.word in
    let put = c.write-in-Sw in
    let bytes = ap (λ (xs : List ℕ). changed (written a (length xs) (slice_index xs)) old) c.to_le_bytes-bytes.ensures ∙ changed-word a word old in
    put.ensures.after ∙ ap (λ m. if put.result then m else old) (bytes ∙ sym (ap (λ (op : StoreOp). changed (written a (store_width op) (byte_of word)) old) c.in-Sw.is))
