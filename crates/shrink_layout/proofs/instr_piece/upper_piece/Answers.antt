-- The halfword of an instruction with the upper part of a number is that of the instruction with this part.
use Rattle.std.proofs.Common.{◌≡◌, ◌∙◌, Some, sym, ap, subst, ⊎_elim}
use Rattle.block_cut.specs.declared.item.Item.TheVariants as item
use Rattle.psabi_reloc.specs.Parts.{hi20_of}
use Rattle.psabi_reloc.specs.Patched.{with_upper}
use Rattle.psabi_sym.specs.declared.target.Target.{Target}
use Rattle.psabi_sym.specs.declared.target.Target.TheVariants.{Absent, Number}
use Rattle.rv_decode.specs.declared.instr.Instr.{Instr}
use Rattle.shrink_layout.specs.Invariants.Numbers.{IsHalfAt}
use Rattle.shrink_layout.specs.Units.{OneItem}
use Rattle.shrink_layout.proofs.instr_piece.upper_piece.Goals as goal

pub returns-in-Number-clause-half : goal.returns-in-Number-clause-half
returns-in-Number-clause-half c =
    let same : c.with_upper.result ≡ with_upper c.args.i (hi20_of c.in-Number.x) = c.with_upper.ensures ∙ ap (with_upper c.args.i) c.hi20.ensures.value in
    let half = c.instr_piece.result.half in
    let own : IsHalfAt (Some (OneItem (item.Op (with_upper c.args.i (hi20_of c.in-Number.x))))) half =
    subst (λ (j : Instr). IsHalfAt (Some (OneItem (item.Op j))) half) same c.instr_piece.ensures.half in
    ⊎_elim
    (λ (e : c.args.t ≡ Number c.in-Number.x). subst (λ (t : Target). IsHalfAt (Some (OneItem (item.Hi c.args.i t))) half) (sym e) own)
    (λ (e : c.args.t ≡ Absent c.in-Number.x). subst (λ (t : Target). IsHalfAt (Some (OneItem (item.Hi c.args.i t))) half) (sym e) own)
    c.in-Number.is
