-- A stretch's law is its step: from a sound pair the steps of its items are its commits, whatever interrupts come before them.
use Rattle.std.proofs.Common.{◌≡◌, ℕ, ◌<◌, List, map, Option, Some, None, Ok, refl, sym, subst, ⊎_elim, arith}
use Rattle.zc_base.specs.declared.place.Place.{Place}
use Rattle.interrupt_plan.specs.Plan.{AreInterrupts, Interrupt}
use Rattle.rv_decode.specs.declared.instr.Instr.{Instr}
use Rattle.rv_decode.specs.Devices.{AreOutside}
use Rattle.rv_decode.specs.Run.{iterate}
use Rattle.rv_decode.specs.State.{ZcState}
use Rattle.block_cut.specs.declared.item.Item.{Item}
use Rattle.block_cut.specs.declared.item.Item.TheVariants.{Call}
use Rattle.sym_machine.specs.Devices.{device_does}
use Rattle.sym_machine.specs.Events.{event_in}
use Rattle.sym_machine.specs.Program.{Program}
use Rattle.sym_machine.specs.Run.{plain_turn}
use Rattle.sym_machine.specs.Expansions.{item_expansion}
use Rattle.sym_machine.specs.State.{PlainState}
use Rattle.zc_link.specs.Image.{Image}
use Rattle.moved_runs.specs.Leads.{Leads}
use Rattle.zc_link.specs.Pace.{AlignOf, Alone, CallOf, GroupOf, LongOf, Stretch, TableOf, commits_of, span_of}
use Rattle.zc_link.specs.Invariants.Stretches.{ByCall, ByJump, GoesTo, ItemLaid, StretchLaid}
use Rattle.zc_link.specs.Invariants.Room.{Room}
use Rattle.zc_link.specs.IsSimulation.{Comes, IsInside}
use Rattle.zc_link.specs.Sound.{Sound}
use Rattle.sym_machine.proofs.RunLaws.{stepped, stepped_either, stepped_expansion}
use Rattle.zc_link.proofs.Calls.{call_comes}
use Rattle.zc_link.proofs.Devices.{device_comes}
use Rattle.zc_link.proofs.GroupsCome.{group_comes, group_inside}
use Rattle.zc_link.proofs.Items.{item_comes}
use Rattle.zc_link.proofs.Longs.{long_comes}
use Rattle.zc_link.proofs.Padding.{align_comes}
use Rattle.zc_link.proofs.ExpansionsCome.{expansion_comes, expansion_laid}
use Rattle.zc_link.proofs.Singles.{FromSound}
use Rattle.zc_link.proofs.Straight.{one_turn}
use Rattle.zc_link.proofs.TableJumps.{table_comes}

pub stretch_comes :
    {p : Program} {Named : Place → Type 0} {e : Image} (r : PlainState) {r' : PlainState} {z : ZcState} (x : Stretch) → Room p e → Leads p Named → (cuts : ℕ → List Interrupt) → AreInterrupts cuts → Sound p Named e r.core z
    → z.events ≡ map (event_in e.address) r.events → z.devices ≡ r.devices → AreOutside p.map r.devices → StretchLaid p e r.core.place z.core.pc x → iterate (plain_turn p) (span_of x) r ≡ Ok r'
    → Comes p Named e cuts (commits_of p r.core x) z r'
stretch_comes {p} {Named} {e} r {r'} {z} x room leads cuts are so same devices outside laid h = by x laid h
  where
    -- an item that is one instruction, and that no device answers
    IsOwn : Option Item → Type 0
    IsOwn o = (item_expansion o ≡ None) × (device_does r.devices p o r.core (p.next r.core.place) ≡ None)

    from : IsOwn (p.item r.core.place) → iterate (plain_turn p) 1 r ≡ Ok r' → FromSound p Named e r r' cuts z
    from own g = record { sound = so; same = same; are = are; step = stepped p r r' so.alike.running own.0 own.1 (one_turn p r r' g) }

    -- a jump or a call is such an item
    goes_own : {rd : ℕ} {to : Place} → GoesTo p r.core.place rd to → IsOwn (p.item r.core.place)
    goes_own (ByJump item) = subst IsOwn (sym item) (refl, refl)
    goes_own (ByCall temp item) = subst IsOwn (sym item) (refl, refl)

    -- one instruction goes on by itself, or a device answers it
    alone : (o : Option (List Instr)) → item_expansion (p.item r.core.place) ≡ o → ItemLaid p e r.core.place z.core.pc (p.item r.core.place) → iterate (plain_turn p) 1 r ≡ Ok r' → Comes p Named e cuts 1 z r'
    alone None single item g = ⊎_elim
        (λ own. item_comes room leads (record { sound = so; same = same; are = are; step = own }) (p.item r.core.place) refl item own.does)
        (λ device. device_comes room (record { sound = so; same = same; devices = devices; outside = outside; are = are; step = device }) (p.item r.core.place) item device.does)
        (stepped_either p r r' so.alike.running single (one_turn p r r' g))
    alone (Some is) expands item g =
        let known = expansion_laid p r.core.place (p.item r.core.place) is item expands in
        expansion_comes room (record { sound = so; same = same; are = are }) known.short is known.kind expands known.laid
        (stepped_expansion p is r r' so.alike.running expands (one_turn p r r' g))

    by : (y : Stretch) → StretchLaid p e r.core.place z.core.pc y → iterate (plain_turn p) (span_of y) r ≡ Ok r' → Comes p Named e cuts (commits_of p r.core y) z r'
    by Alone item g = alone (item_expansion (p.item r.core.place)) refl item g
    by (AlignOf count) align g = align_comes count room (from (subst IsOwn (sym align.item) (refl, refl)) g) align
    by CallOf call g = call_comes room (from (subst IsOwn (sym call.item) (refl, refl)) g) call (leads.next r.core.place (Call call.rd call.temp call.to) call.item refl)
    by (LongOf op first second) long g = long_comes room (from (subst IsOwn (sym long.item) (refl, refl)) g) long
    by (GroupOf items commits) group g = group_comes room (record { sound = so; same = same; are = are }) group g
    by (TableOf slot) table g = table_comes room leads (from (goes_own table.goes) g) table

-- a stretch of one item has no place inside, and those inside a group aren't listed
pub stretch_inside :
    (p : Program) (e : Image) (a : ℕ) (r r' : PlainState) (x : Stretch) (k : ℕ) → StretchLaid p e r.core.place a x → 0 < k → k < span_of x → r.core.exit ≡ None
    → iterate (plain_turn p) k r ≡ Ok r' → IsInside e r r'
stretch_inside p e a r r' Alone k laid some lt running h = absurd (omega (arith, some, lt))
stretch_inside p e a r r' (AlignOf count) k laid some lt running h = absurd (omega (arith, some, lt))
stretch_inside p e a r r' CallOf k laid some lt running h = absurd (omega (arith, some, lt))
stretch_inside p e a r r' (LongOf op first second) k laid some lt running h = absurd (omega (arith, some, lt))
stretch_inside p e a r r' (GroupOf items commits) k laid some lt running h = group_inside k r r' laid some lt running h
stretch_inside p e a r r' (TableOf slot) k laid some lt running h = absurd (omega (arith, some, lt))
