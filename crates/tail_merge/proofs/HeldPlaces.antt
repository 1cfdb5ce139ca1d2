-- The places that the program of objects without a fault may hold: what its items name, and where it may come back to.
use Rattle.std.proofs.Common.{◌≡◌, List, Option, Some, None, true, refl, sym, subst, inl, inr}
use Rattle.std.specs.Prelude.{IsSome}
use Rattle.zc_base.specs.declared.place.Place.{Place}
use Rattle.elf32_read.specs.Parts.{ObjectParts}
use Rattle.psabi_sym.specs.Inputs.{Inputs, ParsedInputs, parsed}
use Rattle.psabi_sym.specs.declared.target.Target.{Target}
use Rattle.psabi_sym.specs.declared.target.Target.TheVariants.{Code, Number, Absent, Nowhere}
use Rattle.rv_decode.specs.declared.instr.Instr.{Instr}
use Rattle.rv_decode.specs.declared.instr.Instr.TheVariants as instr
use Rattle.block_cut.specs.Faults.{first_fault}
use Rattle.block_cut.specs.Items.{is_start_at, item_at, next_at, target_of}
use Rattle.block_cut.specs.Leaders.{ends_block, is_jalr}
use Rattle.block_cut.specs.declared.item.Item.{Item}
use Rattle.block_cut.specs.declared.item.Item.TheVariants as item
use Rattle.block_cut.proofs.ItemLaws.{item_found}
use Rattle.block_cut.proofs.ListedLaws.{listed}
use Rattle.block_cut.proofs.SoundLaws.{sound_at}
use Rattle.block_cut.proofs.StartItems.{item_starts}
use Rattle.block_cut.proofs.WholeLaws.{code_is_section}
use Rattle.sym_machine.specs.AddressParts.{pc_target}
use Rattle.sym_machine.specs.Objects.{program_of}
use Rattle.moved_runs.specs.Leads.{IsNamed, Leads, NamesItem}
use Rattle.moved_runs.specs.Moves.{IsNamedOption, ItemLeads, OpLeads}
use Rattle.moved_runs.specs.Named.{IsNamedTarget}
use Rattle.moved_runs.proofs.Faultless.{reloc_good, target_good}
use Rattle.moved_runs.proofs.Pairs.{IsUpperAt, upper_with}
use Rattle.moved_runs.proofs.ProgramLeads.{leads_faultless}
use Rattle.tail_merge.specs.Merging.{IsAnywhere, IsHeld}
use Rattle.tail_merge.proofs.ItemOrigins.{OfItem, item-of}

module _ (inputs : Inputs) (none : first_fault inputs ≡ None) where
  abbrev given : ParsedInputs
  given = parsed inputs

  abbrev objects : List ObjectParts
  objects = given.objects

  abbrev K : Place → Type 0
  K q = IsHeld given q

  -- ---- places that are held

  named-held : (q : Place) → IsNamed given q → K q
  named-held q (inl named) = inl (starts (item_at given q) refl named.0, named.1)
    where
      starts : (o : Option Item) → item_at given q ≡ o → IsSome o → is_start_at objects q ≡ true
      starts None is some = absurd cc
      starts (Some i) is some = item_starts given q i is
  named-held q (inr end) = inr (inl end)

  target-held : (t : Target) → IsNamedTarget (IsNamed given) t → IsNamedTarget K t
  target-held (Code q) named = named-held q named
  target-held (Number n) named = tt
  target-held (Absent n) named = tt
  target-held Nowhere named = tt

  -- ---- items

  abbrev leads : Leads (program_of given) (IsNamed given)
  leads = leads_faultless inputs none

  -- the `auipc` that a lower part goes with
  upper-there : (q r : Place) (i : Instr) → item_at given q ≡ Some (item.PcLo i r) → IsUpperAt given r
  upper-there q r i is =
      let found = item_found given q (item.PcLo i r) is in
      let s = found.section in
      let two = code_is_section objects q s found.code in
      subst (OfItem (λ (i : Instr). Unit {0}) (IsUpperAt given)) found.item
      (item-of (λ (i : Instr). Unit {0}) (IsUpperAt given) given q s (λ none i is. tt)
      (λ r on lower to leads.
      let asks = (sound_at s q.offset r two.1 on).asks in
      let fine = reloc_good inputs none q.object q.section q.offset s r two.0 on in
      upper_with inputs none q to s r found.code on lower leads (target_good given (listed q.object q.section s) r to asks fine leads)))

  pub pairs-held : (q r : Place) (i : Instr) → (program_of given).item q ≡ Some (item.PcLo i r)
      → (j : Instr) × (x : Target) × ((program_of given).item r ≡ Some (item.PcHi j x))
  unfolding program_of
  pairs-held q r i is = let upper = upper-there q r i is in (upper.first, target_of given r.object upper.reloc, upper.item)

  op-held : (i : Instr) (next : Place) → (is_jalr i ≡ true → K next) → OpLeads K i next
  op-held (instr.Jalr rd base imm) next held = inr (held refl)
  op-held i next held = tt

  held-from : (q : Place) (i : Item) → item_at given q ≡ Some i → NamesItem (IsNamed given) i → (ends_block i ≡ true → K (next_at objects q))
      → ItemLeads K IsAnywhere (program_of given) q i
  unfolding program_of
  held-from q (item.Op i) is names next = op-held i (next_at objects q) next
  held-from q (item.Hi i t) is names next = target-held t names
  held-from q (item.Lo i t) is names next = (target-held t names, op-held i (next_at objects q) next)
  held-from q (item.PcHi i t) is names next = inr (inr (i, t, is))
  held-from q (item.PcLo i r) is names next =
      let upper = upper-there q r i is in
      let t = target_of given r.object upper.reloc in (
        inr (inr (upper.first, t, upper.item)),
        subst (λ o. IsNamedOption K (pc_target o)) (sym upper.item) (target-held t (leads.item r (item.PcHi upper.first t) upper.item)),
        op-held i (next_at objects q) next,
      )
  held-from q (item.Branch op first second to) is names next = tt
  held-from q (item.Jump rd to) is names next = (tt, inr (next refl))
  held-from q (item.Call rd temp to) is names next = (tt, inr (next refl))
  held-from q (item.Align n) is names next = tt
  held-from q (item.Word t) is names next = tt
  held-from q (item.Raw w) is names next = tt
  held-from q (item.RawShort h) is names next = tt
  held-from q (item.RawPair v w) is names next = tt

  pub leads-held : (q : Place) (i : Item) → (program_of given).item q ≡ Some i → ItemLeads K IsAnywhere (program_of given) q i
  unfolding program_of
  leads-held q i is = held-from q i is (leads.item q i is) (λ ends. named-held (next_at objects q) (leads.next q i is ends))
