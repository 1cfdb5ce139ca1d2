use Rattle.std.proofs.Common.{ℕ, List, Bor, refl, sym, subst}
use Rattle.std.proofs.lemmas.List.{length-map}
use Rattle.psabi_sym.specs.Inputs.{read_from}
use Rattle.psabi_sym.specs.Invariants.Rows.{row_defines}
use Rattle.psabi_sym.specs.Invariants.Tables.{AreNamed}
use Rattle.psabi_sym.proofs.NumberLaws.{definition_row_goes}
use Rattle.psabi_sym.proofs.NumberedLaws.{named_rows}
use Rattle.psabi_sym.proofs.named.define_names.Goals as goal

pub strong_definitions-requires : goal.strong_definitions-requires
strong_definitions-requires c =
    named_rows (row_defines 1) (definition_row_goes 1 refl) c.requires.symbols refl (length-map c.args.rows.now.names.now (λ (name : Bor (List ℕ)). name.now))

pub undefined_symbol-requires : goal.undefined_symbol-requires
undefined_symbol-requires c =
    (c.args.options.now, subst (AreNamed (read_from c.args.objects.now c.args.options.now) c.args.rows.now.symbols.now) (sym c.deref-2.ensures.value) c.in_ok-definitions.ensures.0.named)
