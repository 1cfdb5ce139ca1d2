-- Shared tails keep all runs that aren't stuck, within twice the steps.
use Rattle.std.proofs.Common.{◌≡◌, ℕ, ℤ, Bool, true, false, Option, Some, None, refl, sym, ap, ap₂, ◌∙◌, subst, inl, inr, ⊎_elim}
use Rattle.std.specs.Prelude.{◌⊎◌}
use Rattle.std.specs.Option.{option_map}
use Rattle.zc_base.specs.declared.place.Place.{Place}
use Rattle.rv_decode.specs.declared.instr.Instr.{Instr}
use Rattle.rv_decode.specs.declared.instr.Instr.TheVariants as instr
use Rattle.psabi_sym.specs.declared.target.Target.{Target}
use Rattle.block_cut.specs.declared.item.Item.{Item}
use Rattle.block_cut.specs.declared.item.Item.TheVariants as item
use Rattle.sym_machine.specs.AddressParts.{pc_target}
use Rattle.sym_machine.specs.Conditions.{is_solid}
use Rattle.sym_machine.specs.Program.{Program}
use Rattle.moved_runs.specs.Moved.{moved_item, moved_target}
use Rattle.moved_runs.specs.Moves.{IsDead, IsReturn, KeepsItem, KeepsRuns, MovesSharing, OpLeads, OpReturns, PcMoves, SharesItem}
use Rattle.moved_runs.proofs.Words.{pc-target-moved}
use Rattle.moved_runs.proofs.Runs.{keeps-runs}
use Rattle.tail_merge.specs.Merging.{MovesUppers}
use Rattle.tail_merge.specs.Sharing.{IsOutsideTails, IsSharing, IsTailItem, Tails, shared_from, shared_place}

solid-dead : (i : Item) → IsDead i → is_solid (Some i) ≡ true
solid-dead (item.Align n) d = absurd d
solid-dead i d = refl

-- an item where the machine is stuck is no upper part
dead-target : (i : Item) → IsDead i → pc_target (Some i) ≡ None
dead-target (item.PcHi i t) d = absurd d
dead-target i d = refl

solid-moved : (M : Place → Place) (i : Item) → is_solid (Some (moved_item M i)) ≡ is_solid (Some i)
solid-moved M (item.Align n) = refl
solid-moved M i = refl

no-link : (K : Place → Type 0) (op : Instr) (next : Place) → ((rd base : ℕ) (imm : ℤ) → op ≡ instr.Jalr rd base imm → rd ≡ 0) → OpLeads K op next
no-link K (instr.Jalr rd base imm) next link = inl (link rd base imm refl)
no-link K op next link = tt

module _ (K : Place → Type 0) (t : Tails) (p p' : Program) (is : IsSharing K t p p') where
  abbrev M : Place → Place
  M q = shared_place t q

  abbrev V : Place → Type 0
  V q = Unit {0}

  at-none : (q : Place) → t.host q ≡ None → M q ≡ t.moved q
  at-none q e = ap (shared_from t.moved q (t.head q)) e

  at-head : (q h : Place) → t.host q ≡ Some h → t.head q ≡ true → M q ≡ t.moved q
  at-head q h e b = ap₂ (shared_from t.moved q) b e

  at-inner : (q h : Place) → t.host q ≡ Some h → t.head q ≡ false → M q ≡ t.moved h
  at-inner q h e b = ap₂ (shared_from t.moved q) b e

  -- a named place is where it moves
  at-named : (q : Place) → K q → M q ≡ t.moved q
  at-named q k = by (t.host q) refl (is.leaders q k)
    where
      by : (o : Option Place) → t.host q ≡ o → (t.host q ≡ None) ⊎ (t.head q ≡ true) → M q ≡ t.moved q
      by None e c = at-none q e
      by (Some h) e (inl n) = absurd cc
      by (Some h) e (inr b) = at-head q h e b

  -- the host's operation stands where it moves
  host-op : (q h : Place) → (x : IsTailItem p t q h) → p'.item (t.moved h) ≡ Some (item.Op x.op)
  host-op q h x = ⊎_elim (λ d. absurd d) (λ (o : IsOutsideTails p p' t h (item.Op x.op)). o.item) (is.outside h (item.Op x.op) x.kept x.same)

  -- and goes on in step with the tail's
  onward : (q h : Place) (i : Item) → p.item q ≡ Some i → IsTailItem p t q h → (p'.next (t.moved h) ≡ M (p.next q)) ⊎ IsReturn i
  onward q h i e x = goes x.goes
    where
      same : item.Op x.op ≡ i
      same = let s : Some (item.Op x.op) ≡ Some i = sym x.here ∙ e in cc

      returns : (op : Instr) → item.Op op ≡ i → OpReturns op → IsReturn i
      returns op e r = subst IsReturn e r

      goes : OpReturns x.op ⊎ ((t.host (p.next q) ≡ Some (p.next h)) × (t.head (p.next q) ≡ false)) → (p'.next (t.moved h) ≡ M (p.next q)) ⊎ IsReturn i
      goes (inl r) = inr (returns x.op same r)
      goes (inr g) = ⊎_elim
          (λ d. absurd d)
          (λ (o : IsOutsideTails p p' t h (item.Op x.op)). inl (o.next ∙ at-none (p.next h) (is.tails (p.next q) (p.next h) g.0).kept ∙ sym (at-inner (p.next q) (p.next h) g.0 g.1)))
          (is.outside h (item.Op x.op) x.kept x.same)

  -- the `auipc` of a lower part stays
  pc-stays : (q r : Place) (i : Instr) → p.item q ≡ Some (item.PcLo i r) → p'.item (M r) ≡ option_map (moved_item M) (p.item r)
  pc-stays q r i e = by (t.host r) refl
    where
      pair : (j : Instr) × (x : Target) × (p.item r ≡ Some (item.PcHi j x))
      pair = is.pairs q r i e

      by : (o : Option Place) → t.host r ≡ o → p'.item (M r) ≡ option_map (moved_item M) (p.item r)
      by (Some h) s = let x = is.tails r h s in absurd (let d : Some (item.Op x.op) ≡ Some (item.PcHi pair.0 pair.1) = sym x.here ∙ pair.2 in cc)
      by None s = ⊎_elim
          (λ d. absurd d)
          (λ (o : IsOutsideTails p p' t r (item.PcHi pair.0 pair.1)). ap p'.item (at-none r s) ∙ o.item ∙ ap (option_map (moved_item M)) (sym pair.2))
          (is.outside r (item.PcHi pair.0 pair.1) s pair.2)

  pc-moves : (q : Place) (i : Item) → p.item q ≡ Some i → PcMoves M p p' i
  pc-moves q (item.PcLo i r) e = ap pc_target (pc-stays q r i e) ∙ pc-target-moved M (p.item r)
  pc-moves q i e = tt

  -- outside of the tails
  keeps : (q : Place) (i : Item) → t.host q ≡ None → p.item q ≡ Some i → IsOutsideTails p p' t q i → KeepsItem K V M p p' q i
  keeps q i s e o = record {
    there = ap p'.item (at-none q s) ∙ o.item;
    onward = inl (ap p'.next (at-none q s) ∙ o.next);
    leads = is.leads q i e;
    pc = pc-moves q i e;
  }

  -- a later item of a tail is the host's
  inner : (q h : Place) (i : Item) → t.host q ≡ Some h → t.head q ≡ false → p.item q ≡ Some i → KeepsItem K V M p p' q i
  inner q h i s b e =
      let x = is.tails q h s in
      let same : item.Op x.op ≡ i = (let s : Some (item.Op x.op) ≡ Some i = sym x.here ∙ e in cc) in
      let at = at-inner q h s b in
      record {
        there = ap p'.item at ∙ host-op q h x ∙ ap (λ j. Some (moved_item M j)) same;
        onward = moved-onward at (onward q h i e x);
        leads = is.leads q i e;
        pc = pc-moves q i e;
      }
    where
      moved-onward : M q ≡ t.moved h → (p'.next (t.moved h) ≡ M (p.next q)) ⊎ IsReturn i → (p'.next (M q) ≡ M (p.next q)) ⊎ IsReturn i
      moved-onward at (inl n) = inl (ap p'.next at ∙ n)
      moved-onward at (inr r) = inr r

  -- its first item is a jump to the host's
  shares : (q h : Place) (i : Item) → t.host q ≡ Some h → t.head q ≡ true → p.item q ≡ Some i → SharesItem K M p p' q i
  shares q h i s b e =
      let x = is.tails q h s in
      record {
        op = x.op;
        is = let s : Some i ≡ Some (item.Op x.op) = sym e ∙ x.here in cc;
        host = t.moved h;
        jump = ap p'.item (at-head q h s b) ∙ is.jumps q h s b;
        same = host-op q h x;
        onward = onward q h i e x;
        leads = no-link K x.op (p.next q) x.link;
      }

  items : (q : Place) (i : Item) → p.item q ≡ Some i → KeepsItem K V M p p' q i ⊎ (SharesItem K M p p' q i ⊎ IsDead i)
  items q i e = by (t.host q) refl (t.head q) refl
    where
      by : (o : Option Place) → t.host q ≡ o → (b : Bool) → t.head q ≡ b → KeepsItem K V M p p' q i ⊎ (SharesItem K M p p' q i ⊎ IsDead i)
      by None s b h = ⊎_elim (λ d. inr (inr d)) (λ o. inl (keeps q i s e o)) (is.outside q i s e)
      by (Some h) s true b = inr (inl (shares q h i s b e))
      by (Some h) s false b = inl (inner q h i s b e)

  solid : (q : Place) → K q → is_solid (p'.item (M q)) ≡ is_solid (p.item q)
  solid q k = by (p.item q) refl
    where
      some : (i : Item) → p.item q ≡ Some i → KeepsItem K V M p p' q i ⊎ (SharesItem K M p p' q i ⊎ IsDead i) → is_solid (p'.item (M q)) ≡ is_solid (Some i)
      some i e (inl x) = ap is_solid x.there ∙ solid-moved M i
      some i e (inr (inl x)) = ap is_solid x.jump ∙ ap (λ z. is_solid (Some z)) (sym x.is)
      some i e (inr (inr d)) = is.dead q i k e d ∙ sym (solid-dead i d)

      by : (o : Option Item) → p.item q ≡ o → is_solid (p'.item (M q)) ≡ is_solid o
      by None e = ap is_solid (is.ends q k e)
      by (Some i) e = some i e (items q i e)

  pub sharing-moves : MovesSharing K V M p p'
  sharing-moves = record {
    moves = record {
      entry = is.entry;
      bytes = is.bytes;
      named = is.named;
      map = is.map;
      visited = tt;
      visits = λ q k. tt;
      follows = λ q i v e. tt;
      apart = λ q r kq kr e. is.apart q r kq kr (sym (at-named q kq) ∙ e ∙ at-named r kr);
      solid = solid;
    };
    starts = is.starts;
    items = λ q i v e. items q i e;
  }

  -- a run that isn't stuck is one of the result of at most twice the steps, under the map
  pub sharing-runs : KeepsRuns (shared_place t) p p'
  sharing-runs = keeps-runs K V M p p' sharing-moves

  -- upper parts that may be named lead to the same, if none comes to stand in place of an item where the machine is stuck
  pub sharing-uppers : ((q : Place) (i : Item) → K q → p.item q ≡ Some i → IsDead i → pc_target (p'.item (M q)) ≡ None) → MovesUppers K M p p'
  sharing-uppers upper q k = by (p.item q) refl
    where
      some : (i : Item) → p.item q ≡ Some i → KeepsItem K V M p p' q i ⊎ (SharesItem K M p p' q i ⊎ IsDead i) → pc_target (p'.item (M q)) ≡ option_map (moved_target M) (pc_target (Some i))
      some i e (inl x) = ap pc_target x.there ∙ pc-target-moved M (Some i)
      some i e (inr (inl x)) = ap pc_target x.jump ∙ ap (λ j. option_map (moved_target M) (pc_target (Some j))) (sym x.is)
      some i e (inr (inr d)) = upper q i k e d ∙ ap (option_map (moved_target M)) (sym (dead-target i d))

      by : (o : Option Item) → p.item q ≡ o → pc_target (p'.item (M q)) ≡ option_map (moved_target M) (pc_target o)
      by None e = ap pc_target (is.ends q k e)
      by (Some i) e = some i e (items q i e)
