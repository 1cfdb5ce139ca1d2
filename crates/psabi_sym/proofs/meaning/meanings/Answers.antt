use Rattle.std.proofs.Common.{length, map, arith}
use Rattle.std.proofs.lemmas.List.FromFn.{fill_by_all}
use Rattle.psabi_sym.specs.Invariants.Meanings.{meaning_at}
use Rattle.psabi_sym.specs.declared.meaning.Meaning.TheVariants.{Nothing}
use Rattle.psabi_sym.proofs.meaning.meanings.Goals as goal

pub returns : goal.returns
returns c = λ found is.
    fill_by_all (meaning_at (map (λ name. name.now) c.args.names.now) c.args.tables.now.strong.now c.args.tables.now.commons.now found c.args.numbers.now)
    c.loop-k.meanings.items (length c.args.names.now) Nothing c.loop-k.invariant.count (λ k within. c.loop-k.invariant.done found is k (omega arith))
