-- What each item comes to, by cases on all of them: an item that is one instruction is one commit, by the law of its format. At other
-- items the symbolic machine is stuck, or they are several instructions, so there is nothing to show.
use Rattle.std.proofs.Common.{◌≡◌, ℕ, List, Option, Some, None, refl, sym, ap, ◌∙◌, subst, ℤ, ◌<◌}
use Rattle.zc_base.specs.declared.place.Place.{Place}
use Rattle.interrupt_plan.specs.Plan.{Interrupt}
use Rattle.std.specs.Option.{option_map}
use Rattle.std.proofs.lemmas.Option.{none-some, same_Some}
use Rattle.psabi_reloc.specs.Parts.{hi20_of, lo12_of}
use Rattle.psabi_reloc.specs.Patched.{with_imm, with_upper}
use Rattle.psabi_sym.specs.declared.target.Target.{Target}
use Rattle.rv_decode.specs.declared.instr.BranchOp.{BranchOp}
use Rattle.rv_decode.specs.declared.instr.Instr.{Instr}
use Rattle.rv_decode.specs.declared.instr.Instr.TheVariants as instr
use Rattle.rv_decode.specs.Bits.{add32, as_signed}
use Rattle.rv_decode.specs.State.{ZcCore, ZcState, reg_in}
use Rattle.block_cut.specs.declared.item.Item.{Item}
use Rattle.block_cut.specs.declared.item.Item.TheVariants.{Op, Hi, Lo, PcHi, PcLo, Branch, Jump, Call, Align, Word, Raw, RawShort, RawPair}
use Rattle.sym_machine.specs.AddressParts.{pc_target}
use Rattle.sym_machine.specs.Change.{Goes, branch_does, jump_does, op_does, item_does}
use Rattle.sym_machine.specs.Conditions.{condition}
use Rattle.sym_machine.specs.Program.{Program}
use Rattle.sym_machine.specs.State.{PlainState, reg_of}
use Rattle.sym_machine.specs.Words.{sum_word}
use Rattle.zc_link.specs.Image.{Image}
use Rattle.moved_runs.specs.Leads.{Leads}
use Rattle.moved_runs.specs.Named.{IsNamedTarget}
use Rattle.zc_link.specs.Invariants.Stretches.{AloneLaid, ItemLaid, OneLaid}
use Rattle.zc_link.specs.Invariants.Room.{Room}
use Rattle.zc_link.specs.IsSimulation.{Comes}
use Rattle.zc_link.specs.Sound.{Ready}
use Rattle.zc_link.specs.Stands.{WordStands}
use Rattle.zc_link.specs.Meant.{way_on}
use Rattle.zc_link.specs.Values.{target_value, value_in, way}
use Rattle.zc_link.proofs.MeantLaws.{laid_by, laid_reaching, way_found}
use Rattle.zc_link.proofs.Calls.{jump_call_comes}
use Rattle.zc_link.proofs.Environment.{call_comes}
use Rattle.zc_link.proofs.Instrs.{GoesOn, branch_moves, fence_goes, imm_goes, jalr_moves, jump_moves, load_goes, moves_on, reg_goes, store_goes, upper_goes}
use Rattle.zc_link.proofs.Relocated.{hi_goes, lo_moves, pc_hi_goes, pc_lo_moves}
use Rattle.zc_link.proofs.Singles.{FromSound, single_comes}
use Rattle.zc_link.proofs.Words.{sum_stands}

-- what the `auipc` at a place leads to is named
pc_named : {p : Program} {Named : Place → Type 0} → Leads p Named → (q : Place) (t : Target) → pc_target (p.item q) ≡ Some t → IsNamedTarget Named t
pc_named {p} {Named} leads q t h = by (p.item q) refl h
  where
    by : (o : Option Item) → p.item q ≡ o → pc_target o ≡ Some t → IsNamedTarget Named t
    by None is g = absurd cc
    by (Some (Op i)) is g = absurd cc
    by (Some (Hi i u)) is g = absurd cc
    by (Some (Lo i u)) is g = absurd cc
    by (Some (PcHi i t1)) is g = let same : t1 ≡ t = cc in subst (IsNamedTarget Named) same (leads.item q (PcHi i t1) is)
    by (Some (PcLo i from)) is g = absurd cc
    by (Some (Branch op first second to)) is g = absurd cc
    by (Some (Jump rd to)) is g = absurd cc
    by (Some (Call rd temp to)) is g = absurd cc
    by (Some (Align bytes)) is g = absurd cc
    by (Some (Word u)) is g = absurd cc
    by (Some (Raw word)) is g = absurd cc
    by (Some (RawShort half)) is g = absurd cc
    by (Some (RawPair first second)) is g = absurd cc

module _ {p : Program} {Named : Place → Type 0} {e : Image} {r r' : PlainState} {cuts : ℕ → List Interrupt} {z : ZcState} (room : Room p e) (leads : Leads p Named) (from : FromSound p Named e r r' cuts z) where
  -- an instruction that goes on
  goes_comes :
      {i : Instr} → (laid : AloneLaid p e r.core.place z.core.pc i)
      → ((y : ZcCore) → y.pc ≡ z.core.pc → Ready p Named e r.core y → GoesOn p Named e i laid.at.size from.step.change r.core (p.next r.core.place) y) → Comes p Named e cuts 1 z r'
  goes_comes laid law = single_comes room from laid (λ y at al listed. moves_on listed (law y at al.ready))

  -- the sum of a register and an immediate stands for the machine's
  base_sum :
      {y : ZcCore} (base : ℕ) (imm : ℤ) → Ready p Named e r.core y → base < 32
      → WordStands (value_in p e.address) (sum_word (reg_of r.core base) imm) (add32 (reg_in y base) imm)
  base_sum {y} base imm ready low =
      sum_stands (value_in p e.address) (reg_of r.core base) imm (reg_in y base) (ready.core.words base) (ready.registers base low)

  -- ---- items without relocation

  op_comes :
      (i : Instr) → p.item r.core.place ≡ Some (Op i) → AloneLaid p e r.core.place z.core.pc i → op_does i r.core (p.next r.core.place) ≡ Goes from.step.change
      → Comes p Named e cuts 1 z r'
  op_comes (instr.Upper op rd imm) item laid h = goes_comes laid (λ y at ready.
      upper_goes room ready laid.at.size from.step.change (p.next r.core.place) op rd imm h)
  op_comes (instr.Jal rd distance) item laid h = absurd cc
  op_comes (instr.Jalr rd base imm) item laid h = single_comes room from laid (λ y at al listed.
      jalr_moves room al.ready laid.at.size from.step.change (p.next r.core.place) listed rd base imm (sum_word (reg_of r.core base) imm)
      (leads.next r.core.place (Op (instr.Jalr rd base imm)) item refl) (base_sum base imm al.ready laid.registers.1) h)
  op_comes (instr.Branch op first second distance) item laid h = absurd cc
  op_comes (instr.Load op rd base imm) item laid h = goes_comes laid (λ y at ready.
      load_goes room ready laid.at.size from.step.change (p.next r.core.place) op rd base imm (sum_word (reg_of r.core base) imm)
      (base_sum base imm ready laid.registers.1) h)
  op_comes (instr.Store op source base imm) item laid h = goes_comes laid (λ y at ready.
      store_goes room ready laid.at.size from.step.change (p.next r.core.place) op source base imm (sum_word (reg_of r.core base) imm)
      laid.registers.0 (base_sum base imm ready laid.registers.1) h)
  op_comes (instr.WithImm op rd first imm) item laid h = goes_comes laid (λ y at ready.
      imm_goes room ready laid.at.size from.step.change (p.next r.core.place) op rd first imm laid.registers.1 h)
  op_comes (instr.WithReg op rd first second) item laid h = goes_comes laid (λ y at ready.
      reg_goes room ready laid.at.size from.step.change (p.next r.core.place) op rd first second laid.registers.1 laid.registers.2 h)
  op_comes (instr.Fence rest) item laid h = goes_comes laid (λ y at ready. fence_goes room ready laid.at.size from.step.change (p.next r.core.place) rest h)
  op_comes instr.Ecall item laid h = call_comes room from laid h
  op_comes instr.Ebreak item laid h = absurd cc
  op_comes (instr.Csrrw rd source) item laid h = absurd cc

  -- ---- branches and jumps to places

  -- an item whose instruction has a distance to its target
  reaching :
      {item : Item} (i : ℤ → Instr) (to : Place) (l : OneLaid p e r.core.place z.core.pc item) → option_map (λ b. i (as_signed (way z.core.pc b))) (e.address to) ≡ Some l.instr
      → (d : ℤ) × (e.address to ≡ Some (add32 z.core.pc d)) × AloneLaid p e r.core.place z.core.pc (i d)
  reaching i to l is = laid_reaching l i to is (room.even r.core.place z.core.pc from.sound.place).2 (λ b at. (room.even to b at).2)

  branch_comes :
      (op : BranchOp) (first second : ℕ) (to : Place) → OneLaid p e r.core.place z.core.pc (Branch op first second to)
      → branch_does (condition p op (reg_of r.core first) (reg_of r.core second)) to (p.next r.core.place) ≡ Goes from.step.change
      → Comes p Named e cuts 1 z r'
  branch_comes op first second to l h =
      let m = reaching (instr.Branch op first second) to l l.is in
      single_comes room from m.2 (λ y at al listed.
      branch_moves room al.ready m.2.at.size from.step.change (p.next r.core.place) listed op first second m.0 to m.2.registers.0 m.2.registers.1
      (m.1 ∙ ap (λ a. Some (add32 a m.0)) (sym at)) h)

  jump_comes :
      (rd : ℕ) (to : Place) → p.item r.core.place ≡ Some (Jump rd to) → OneLaid p e r.core.place z.core.pc (Jump rd to)
      → jump_does (Some to) rd (p.next r.core.place) ≡ Goes from.step.change → Comes p Named e cuts 1 z r'
  jump_comes rd to item l h =
      let m = reaching (instr.Jal rd) to l l.is in
      single_comes room from m.2 (λ y at al listed.
      jump_moves room al.ready m.2.at.size from.step.change (p.next r.core.place) listed (instr.Jal rd m.0) rd (add32 y.pc m.0) to
      (leads.next r.core.place (Jump rd to) item refl) refl (m.1 ∙ ap (λ a. Some (add32 a m.0)) (sym at)) h)

  -- ---- parts of addresses

  hi_comes :
      (i : Instr) (t : Target) → OneLaid p e r.core.place z.core.pc (Hi i t) → item_does p (Some (Hi i t)) r.core (p.next r.core.place) ≡ Goes from.step.change
      → Comes p Named e cuts 1 z r'
  hi_comes i t l h =
      let m = laid_by l (λ x. with_upper i (hi20_of x)) (target_value e.address t) l.is in
      goes_comes m.2 (λ y at ready. hi_goes room ready m.2.at.size from.step.change (p.next r.core.place) i t m.0 m.1 h)

  lo_comes :
      (i : Instr) (t : Target) → p.item r.core.place ≡ Some (Lo i t) → OneLaid p e r.core.place z.core.pc (Lo i t)
      → item_does p (Some (Lo i t)) r.core (p.next r.core.place) ≡ Goes from.step.change → Comes p Named e cuts 1 z r'
  lo_comes i t item l h =
      let m = laid_by l (λ x. with_imm i (lo12_of x)) (target_value e.address t) l.is in
      single_comes room from m.2 (λ y at al listed.
      lo_moves room al.ready m.2.at.size from.step.change (p.next r.core.place) listed i t m.0 m.1 (leads.item r.core.place (Lo i t) item) m.2.registers
      (leads.next r.core.place (Lo i t) item) h)

  -- an item with the upper part of the distance from here
  pc_hi_comes :
      (i : Instr) (t : Target) → p.item r.core.place ≡ Some (PcHi i t) → OneLaid p e r.core.place z.core.pc (PcHi i t)
      → item_does p (Some (PcHi i t)) r.core (p.next r.core.place) ≡ Goes from.step.change → Comes p Named e cuts 1 z r'
  pc_hi_comes i t item l h =
      let m = laid_by l (λ x. with_upper i (hi20_of (way z.core.pc x))) (target_value e.address t) l.is in
      goes_comes m.2 (λ y at ready.
      subst (λ a. GoesOn p Named e (with_upper i (hi20_of (way a m.0))) m.2.at.size from.step.change r.core (p.next r.core.place) y) at
      (pc_hi_goes room ready m.2.at.size from.step.change (p.next r.core.place) i r.core.place t m.0 (ap pc_target item)
      (from.sound.place ∙ ap Some (sym at)) m.1 h))

  -- an item with the lower part of the distance from another place
  pc_lo_comes :
      (i : Instr) (q : Place) → p.item r.core.place ≡ Some (PcLo i q) → OneLaid p e r.core.place z.core.pc (PcLo i q)
      → item_does p (Some (PcLo i q)) r.core (p.next r.core.place) ≡ Goes from.step.change → Comes p Named e cuts 1 z r'
  pc_lo_comes i q item l h =
      let m = laid_by l (λ w. with_imm i (lo12_of w)) (way_on e.address p.item q) l.is in
      let f = way_found e.address p.item q m.0 m.1 in
      let laid = subst (λ w. AloneLaid p e r.core.place z.core.pc (with_imm i (lo12_of w))) (sym f.is) m.2 in
      single_comes room from laid (λ y at al listed.
      pc_lo_moves room al.ready laid.at.size from.step.change (p.next r.core.place) listed i q f.to f.address f.value f.leads (pc_named leads q) f.listed f.has
      laid.registers (leads.next r.core.place (PcLo i q) item) h)

  -- ---- all items

  pub item_comes :
      (o : Option Item) → p.item r.core.place ≡ o → ItemLaid p e r.core.place z.core.pc o
      → item_does p o r.core (p.next r.core.place) ≡ Goes from.step.change → Comes p Named e cuts 1 z r'
  item_comes None item laid h = absurd cc
  item_comes (Some (Op i)) item l h = op_comes i item (subst (AloneLaid p e r.core.place z.core.pc) (sym (same_Some i l.instr l.is)) l.laid) h
  item_comes (Some (Hi i t)) item laid h = hi_comes i t laid h
  item_comes (Some (Lo i t)) item laid h = lo_comes i t item laid h
  item_comes (Some (PcHi i t)) item laid h = pc_hi_comes i t item laid h
  item_comes (Some (PcLo i q)) item laid h = pc_lo_comes i q item laid h
  item_comes (Some (Branch op first second to)) item laid h = branch_comes op first second to laid h
  item_comes (Some (Jump rd to)) item laid h = jump_comes rd to item laid h
  item_comes (Some (Call rd temp to)) item l h =
      let m = reaching (instr.Jal rd) to l l.is in
      jump_call_comes room from rd temp to m.0 (leads.next r.core.place (Call rd temp to) item refl) m.1 m.2 h
  item_comes (Some (Align bytes)) item laid h = absurd (none-some laid.instr laid.is)
  item_comes (Some (Word t)) item laid h = absurd cc
  item_comes (Some (Raw word)) item laid h = absurd cc
  item_comes (Some (RawShort half)) item laid h = absurd cc
  item_comes (Some (RawPair first second)) item laid h = absurd cc
