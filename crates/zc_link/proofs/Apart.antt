-- Interrupts and cells of data lie apart. An interrupt writes in the stack, and makes accesses of a push or pop there; a cell lies in
-- data, and the stack begins at or after data's end: so an interrupt does the same whatever data hold. And so do the commits of a group,
-- of another stretch of several instructions, and of the stub.
use Rattle.std.proofs.Common.{◌≡◌, ℕ, suc, ◌<◌, List, Option, Some, None, refl, sym, ap, ◌∙◌, arith}
use Rattle.std.specs.Prelude.{◌⊎◌}
use Rattle.zc_base.specs.declared.place.Place.{Place}
use Rattle.rv_decode.specs.declared.instr.Instr.{Instr}
use Rattle.rv_decode.specs.State.{ZcState}
use Rattle.sym_machine.specs.Program.{Program}
use Rattle.sym_machine.specs.Expansions.{item_expansion}
use Rattle.sym_machine.specs.State.{PlainState}
use Rattle.zc_link.specs.Image.{Image}
use Rattle.zc_link.specs.Invariants.Laid.{Laid}
use Rattle.zc_link.specs.Pace.{AlignOf, Alone, CallOf, GroupOf, LongOf, Stretch, TableOf, commits_of, pace_of, span_of}
use Rattle.zc_link.specs.DataApart.{CommitsApart, CutsApart, FromLoad, FromPair, OnWay, Pokes, poked}
use Rattle.zc_link.proofs.Bare.{bare_apart, bares_no_access}
use Rattle.zc_link.proofs.Cuts.{stack_within}
use Rattle.zc_link.proofs.GroupWay.{group_commits_apart, group_cuts_apart}
use Rattle.zc_link.proofs.NoAccess.{NoAccess, cut_writes}
use Rattle.zc_link.proofs.OnWay.{IsNoGroup, pair_bare, pair_group, pair_no_access, pair_expansion}
use Rattle.zc_link.proofs.Start.{lead_bare}
use Rattle.zc_link.proofs.WithByte.{all_dirtied_with, with_byte}

-- ---- on the way

module _ {p : Program} {Named : Place → Type 0} {e : Image} {stretch : Place → Stretch} (laid : Laid p Named e stretch) where
  -- with the cell written, too, an instruction without accesses stands at pc
  cuts_apart_from : {From : ℕ → ZcState → Type 0} → ((k : ℕ) (z : ZcState) → OnWay p From (suc k) z → NoAccess e z.core) → CutsApart p From
  cuts_apart_from none k z way c is a b cell small =
      let here = none k z way in
      cut_writes c (none k (poked a b z) (Pokes k z a b cell small way))
      ∙ all_dirtied_with a b c.dirt z.core (λ x h same.
      let within = stack_within laid.room z.core here.text.extents x h in
      let under = laid.room.under in
      let high = cell.high in
      omega (arith, within.0, same, under, high))
      ∙ ap (with_byte a b) (sym (cut_writes c here))

  -- where a group starts, or another stretch
  either_kind : (P : Type 0) (x : Stretch) → (IsNoGroup x → P) → ((items commits : ℕ) → x ≡ GroupOf items commits → P) → P
  either_kind P Alone other group = other tt
  either_kind P (AlignOf count) other group = other tt
  either_kind P CallOf other group = other tt
  either_kind P (LongOf op first second) other group = other tt
  either_kind P (GroupOf items commits) other group = group items commits refl
  either_kind P (TableOf slot) other group = other tt

  pub cuts_apart : (r : PlainState) → CutsApart p (FromPair p Named e (pace_of p stretch) r)
  cuts_apart r = either_kind (CutsApart p (FromPair p Named e (pace_of p stretch) r)) (stretch r.core.place)
      (λ other. by_item other (item_expansion (p.item r.core.place)) refl)
      (λ items commits is. group_cuts_apart laid.room (pair_group laid r items commits is))
    where
      by_item : IsNoGroup (stretch r.core.place) → (o : Option (List Instr)) → item_expansion (p.item r.core.place) ≡ o → CutsApart p (FromPair p Named e (pace_of p stretch) r)
      by_item other None one = cuts_apart_from (pair_no_access laid r other one)
      by_item other (Some is) are = group_cuts_apart laid.room (pair_expansion laid r other is are)

  pub lead_cuts_apart : CutsApart p (FromLoad p e)
  lead_cuts_apart = cuts_apart_from (bares_no_access laid.room (lead_bare laid))

  pub commits_apart :
      (r : PlainState) → (1 < span_of (stretch r.core.place)) ⊎ (1 < commits_of p r.core (stretch r.core.place))
      → CommitsApart p (FromPair p Named e (pace_of p stretch) r)
  commits_apart r more = either_kind (CommitsApart p (FromPair p Named e (pace_of p stretch) r)) (stretch r.core.place)
      (λ other. bare_apart laid.room (pair_bare laid r other more))
      (λ items commits is. group_commits_apart laid.room (pair_group laid r items commits is))

  pub lead_commits_apart : CommitsApart p (FromLoad p e)
  lead_commits_apart = bare_apart laid.room (lead_bare laid)
