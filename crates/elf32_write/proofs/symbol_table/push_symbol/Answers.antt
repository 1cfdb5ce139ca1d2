-- An entry is appended in three pieces.
use Rattle.std.proofs.Common.{ℕ, ◌+◌, ◌*◌, List, [], ◌∷◌, ◌++◌}
use Rattle.std.specs.List.{flat_map}
use Rattle.std.proofs.lemmas.Result.{on_ok_weaker}
use Rattle.zc_base.specs.Fields.{half_bytes, word_bytes}
use Rattle.elf32_write.proofs.Appends.{appended}
use Rattle.elf32_write.proofs.symbol_table.push_symbol.Goals as goal

pub returns-clause-appended : goal.returns-clause-appended
returns-clause-appended c =
    let start = c.args.out.now.items in
    let symbol = c.args.symbol in
    let words : List ℕ = flat_map word_bytes (symbol.name ∷ symbol.value ∷ symbol.size ∷ []) in
    let info : List ℕ = (16 * symbol.bind + symbol.kind) ∷ 0 ∷ [] in
    let two = appended start words info _ _ c.in_ok-push_words.ensures c.in_ok-extend_from_slice.ensures.items in
    on_ok_weaker c.push_half.result (λ e. appended start (words ++ info) (half_bytes symbol.home) _ _ two e) c.push_half.ensures
