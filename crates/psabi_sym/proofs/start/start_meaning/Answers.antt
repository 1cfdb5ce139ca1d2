use Rattle.std.proofs.Common.{[], get_or, map, below_more, sym, ap, ◌∙◌, arith}
use Rattle.std.proofs.lemmas.List.{get_or_default, get_or_past}
use Rattle.psabi_sym.specs.Names.{same_name}
use Rattle.psabi_sym.specs.Invariants.Rows.{name_number}
use Rattle.psabi_sym.specs.Start.{start_name}
use Rattle.psabi_sym.specs.declared.meaning.Meaning.TheVariants.{Nothing, Symbol}
use Rattle.psabi_sym.proofs.StartLaws.{borrowed_test, first_seen}
use Rattle.psabi_sym.proofs.start.start_meaning.Goals as goal

pub returns-then-eq : goal.returns-then-eq
returns-then-eq c =
    let names = c.args.names.now in
    let meanings = c.args.meanings.now in
    let k = c.loop-k.k in
    let here = borrowed_test names k start_name (record { ref_ptr = (0, 0); now = [] }) _ (omega arith) (sym c.if-eq.true ∙ c.eq.ensures ∙ ap (λ t. same_name (get_or names k (record { ref_ptr = (0, 0); now = [] })).now t) c.as_slice.ensures) in
    let at = first_seen names start_name k (omega arith) c.loop-k.invariant (λ lt. here) in
    get_or_default meanings k (Symbol _) Nothing (omega arith) ∙ ap (λ n. get_or meanings n Nothing) (sym at)

pub loop-k-preserved : goal.loop-k-preserved
loop-k-preserved c =
    below_more _ _ c.loop-k.invariant (borrowed_test c.args.names.now c.loop-k.k start_name (record { ref_ptr = (0, 0); now = [] }) _ (omega arith) (sym c.if-eq.false ∙ c.eq.ensures ∙ ap (λ t. same_name (get_or c.args.names.now c.loop-k.k (record { ref_ptr = (0, 0); now = [] })).now t) c.as_slice.ensures))

pub returns : goal.returns
returns c =
    let names = c.args.names.now in
    let at = first_seen names start_name c.loop-k.k (omega arith) c.loop-k.invariant (λ lt. absurd (omega arith)) in
    sym (get_or_past c.args.meanings.now (name_number (map (λ name. name.now) names) start_name) Nothing (omega (arith, at)))
