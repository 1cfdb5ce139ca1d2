-- On the way from a sound pair it is known what stands at pc as long as commits are left: of a group one of its
-- instructions, and else what has no accesses, so no push or pop. A stretch of several commits that is no group has none
-- that looks at memory, and one of one commit has what the program goes on from.
use Rattle.std.proofs.Common.{◌≡◌, ℕ, zero, suc, ◌<◌, List, [], ◌∷◌, Option, Some, None, Ok, refl, sym, ap, ◌∙◌, subst, inr, ⊎_elim, arith}
use Rattle.std.specs.Prelude.{◌⊎◌}
use Rattle.std.proofs.lemmas.Bool.{cases_lt}
use Rattle.std.proofs.lemmas.Option.{none-some}
use Rattle.zc_base.specs.declared.place.Place.{Place}
use Rattle.rv_decode.specs.declared.instr.BranchOp.{BranchOp}
use Rattle.rv_decode.specs.declared.instr.Instr.{Instr}
use Rattle.rv_decode.specs.declared.instr.Instr.TheVariants as instr
use Rattle.rv_decode.specs.declared.instr.Instr.TheVariants.{Jal, Jalr, Upper}
use Rattle.rv_decode.specs.declared.instr.UpperOp.TheVariants.{Auipc}
use Rattle.rv_decode.specs.Devices.{Device}
use Rattle.rv_decode.specs.Run.{iterate}
use Rattle.rv_decode.specs.State.{ZcCore, ZcState}
use Rattle.rv_decode.proofs.RunLaws.{bind_ok}
use Rattle.block_cut.specs.declared.item.Item.{Item}
use Rattle.block_cut.specs.declared.item.Item.TheVariants.{Op, Hi, Lo, PcHi, PcLo, Branch, Jump, Call, Align, Word, Raw, RawShort, RawPair}
use Rattle.sym_machine.specs.Change.{Change, Goes, item_does}
use Rattle.sym_machine.specs.Devices.{device_does}
use Rattle.sym_machine.specs.Program.{Program}
use Rattle.sym_machine.specs.Run.{plain_turn}
use Rattle.sym_machine.specs.Expansions.{item_expansion}
use Rattle.sym_machine.specs.State.{PlainCore, PlainState}
use Rattle.sym_machine.proofs.RunLaws.{stepped_either, stepped_expansion}
use Rattle.zc_decode.specs.declared.short.Short.TheVariants.{TableJump}
use Rattle.zc_link.specs.Image.{Image}
use Rattle.zc_link.specs.Invariants.Laid.{Laid}
use Rattle.zc_link.specs.Pace.{AlignOf, Alone, CallOf, GroupOf, LongOf, Stretch, TableOf, commits_of, pace_of, span_of}
use Rattle.zc_link.specs.Invariants.Stretches.{ByCall, ByJump, GoesTo, ItemLaid, LongLaid, StretchLaid}
use Rattle.zc_link.specs.DataApart.{FromPair, OnWay, all_poked, poked_plain}
use Rattle.zc_link.specs.Sound.{Alike}
use Rattle.zc_link.proofs.Bare.{Bares, OnBare, bares_no_access, nops_bare, two_bare}
use Rattle.zc_link.proofs.GroupFrom.{group_from}
use Rattle.zc_link.proofs.GroupWay.{OnGroup}
use Rattle.zc_link.proofs.Longs.{goes_over, known_taken}
use Rattle.zc_link.proofs.NoAccess.{NoAccess, NoAccessAt, base_at, one_no_access, short_at, unread_no_access}
use Rattle.zc_link.proofs.ExpansionsCome.{expansion_laid}
use Rattle.zc_link.proofs.ExpansionsFrom.{expansion_from}
use Rattle.zc_link.proofs.Straight.{one_turn}
use Rattle.zc_link.proofs.SystemSteps.{named_system}

-- ---- what the program goes on from

-- the instruction of an item that is one
item_alone :
    (p : Program) {e : Image} (q next : Place) {a : ℕ} (s : PlainCore) {c : Change} (o : Option Item) → ItemLaid p e q a o → item_does p o s next ≡ Goes c
    → NoAccessAt e a
item_alone p q next s None laid goes = absurd cc
item_alone p q next s (Some (Op i)) laid goes = base_at laid.laid.at
item_alone p q next s (Some (Hi i t)) laid goes = base_at laid.laid.at
item_alone p q next s (Some (Lo i t)) laid goes = base_at laid.laid.at
item_alone p q next s (Some (PcHi i t)) laid goes = base_at laid.laid.at
item_alone p q next s (Some (PcLo i from)) laid goes = base_at laid.laid.at
item_alone p q next s (Some (Branch op first second to)) laid goes = base_at laid.laid.at
item_alone p q next s (Some (Jump rd to)) laid goes = base_at laid.laid.at
item_alone p q next s (Some (Call rd temp to)) laid goes = base_at laid.laid.at
item_alone p q next s (Some (Align bytes)) laid goes = absurd (none-some laid.instr laid.is)
item_alone p q next s (Some (Word t)) laid goes = absurd cc
item_alone p q next s (Some (Raw word)) laid goes = absurd cc
item_alone p q next s (Some (RawShort half)) laid goes = absurd cc
item_alone p q next s (Some (RawPair first second)) laid goes = absurd cc

-- or that a device answers
item_answered :
    (ds : List Device) (p : Program) {e : Image} (q next : Place) {a : ℕ} (s : PlainCore) {c : Change} (o : Option Item) → ItemLaid p e q a o
    → device_does ds p o s next ≡ Some (Goes c) → NoAccessAt e a
item_answered ds p q next s None laid does = absurd cc
item_answered ds p q next s (Some (Op i)) laid does = base_at laid.laid.at
item_answered ds p q next s (Some (Hi i t)) laid does = base_at laid.laid.at
item_answered ds p q next s (Some (Lo i t)) laid does = base_at laid.laid.at
item_answered ds p q next s (Some (PcHi i t)) laid does = base_at laid.laid.at
item_answered ds p q next s (Some (PcLo i from)) laid does = base_at laid.laid.at
item_answered ds p q next s (Some (Branch op first second to)) laid does = base_at laid.laid.at
item_answered ds p q next s (Some (Jump rd to)) laid does = base_at laid.laid.at
item_answered ds p q next s (Some (Call rd temp to)) laid does = base_at laid.laid.at
item_answered ds p q next s (Some (Align bytes)) laid does = absurd cc
item_answered ds p q next s (Some (Word t)) laid does = absurd cc
item_answered ds p q next s (Some (Raw word)) laid does = unread_no_access (laid (named_system ds p word s next _ does).system).at
item_answered ds p q next s (Some (RawShort half)) laid does = absurd cc
item_answered ds p q next s (Some (RawPair first second)) laid does = absurd cc

-- a stretch that is no group
abbrev pub IsNoGroup : Stretch → Type 0
IsNoGroup Alone = Unit {0}
IsNoGroup (AlignOf count) = Unit {0}
IsNoGroup CallOf = Unit {0}
IsNoGroup (LongOf op first second) = Unit {0}
IsNoGroup (GroupOf items commits) = ⊥
IsNoGroup (TableOf slot) = Unit {0}

-- cells of data that are written leave the program where it is
poked_place : (cells : List (ℕ × ℕ)) (r : PlainState) → (all_poked cells r).core.place ≡ r.core.place
poked_place [] r = refl
poked_place (c ∷ cs) r = poked_place cs (poked_plain c r)

poked_exit : (cells : List (ℕ × ℕ)) (r : PlainState) → (all_poked cells r).core.exit ≡ r.core.exit
poked_exit [] r = refl
poked_exit (c ∷ cs) r = poked_exit cs (poked_plain c r)

module _ {p : Program} {Named : Place → Type 0} {e : Image} {stretch : Place → Stretch} (laid : Laid p Named e stretch) where
  -- ---- stretches of several instructions

  -- a long branch of two commits is taken, so its first instruction goes on to the jump
  long_bare :
      (s : PlainCore) (y : ZcCore) (op : BranchOp) (first second : ℕ) → Alike p Named e s y → LongLaid p e s.place y.pc op first second
      → 1 < commits_of p s (LongOf op first second) → Bares e (commits_of p s (LongOf op first second)) y.regs y.pc
  long_bare s y op first second al long more =
      let taken = known_taken p s op first second more in
      subst (λ n. Bares e n y.regs y.pc) (sym taken.commits)
      (two_bare e y.regs y.pc (instr.Branch long.other first second long.over) (Jal 0 long.distance) tt (goes_over s y laid.room al long taken.is) tt long.at)

  -- a stretch of several instructions has none that looks at memory, if it is no group
  stretch_bare :
      (s : PlainCore) (y : ZcCore) (x : Stretch) → IsNoGroup x → Alike p Named e s y → StretchLaid p e s.place y.pc x → (1 < span_of x) ⊎ (1 < commits_of p s x)
      → Bares e (commits_of p s x) y.regs y.pc
  stretch_bare s y Alone other al item more = ⊎_elim (λ steps. absurd (omega (arith, steps))) (λ commits. absurd (omega (arith, commits))) more
  stretch_bare s y (AlignOf count) other al align more = nops_bare e count y.regs y.pc align.end align.nops
  stretch_bare s y CallOf other al call more = two_bare e y.regs y.pc (Upper Auipc call.temp call.upper) (Jalr call.rd call.temp call.lower) tt tt tt call.at
  stretch_bare s y (LongOf op first second) other al long more =
      ⊎_elim (λ steps. absurd (omega (arith, steps))) (λ commits. long_bare s y op first second al long commits) more
  stretch_bare s y (GroupOf items count) other al group more = absurd other
  stretch_bare s y (TableOf slot) other al table more = ⊎_elim (λ steps. absurd (omega (arith, steps))) (λ commits. absurd (omega (arith, commits))) more

  -- ---- the way

  module _ (r : PlainState) where
    abbrev From : ℕ → ZcState → Type 0
    From = FromPair p Named e (pace_of p stretch) r

    pub pair_bare :
        IsNoGroup (stretch r.core.place) → (1 < span_of (stretch r.core.place)) ⊎ (1 < commits_of p r.core (stretch r.core.place)) → (k : ℕ) (z : ZcState) → From k z → OnBare e k z
    pair_bare other more k z from = record {
      going = from.sound.alike.going;
      same = record { extents = from.sound.alike.extents; text = from.sound.alike.text };
      bares = subst (λ n. Bares e n z.core.regs z.core.pc) (sym from.commits)
          (stretch_bare r.core z.core (stretch r.core.place) other from.sound.alike (laid.each r.core.place z.core.pc from.sound.place) more);
    }

    first_at : IsNoGroup (stretch r.core.place) → item_expansion (p.item r.core.place) ≡ None → (k : ℕ) (z : ZcState) → From k z → 0 < k → NoAccessAt e z.core.pc
    first_at other one k z from some =
        by (stretch r.core.place) other (laid.each r.core.place z.core.pc from.sound.place) from.steps (let same = from.commits in omega (arith, same, some))
      where
        by :
            (x : Stretch) → IsNoGroup x → StretchLaid p e r.core.place z.core.pc x → iterate (plain_turn p) (span_of x) (all_poked from.cells r) ≡ Ok from.after
            → 0 < commits_of p r.core x → NoAccessAt e z.core.pc
        by Alone single item steps more =
            let r1 = all_poked from.cells r in
            let first = bind_ok (plain_turn p r1) (iterate (plain_turn p) 0) from.after steps in
            ⊎_elim
            (λ own.
            item_alone p r.core.place (p.next r1.core.place) r1.core (p.item r.core.place) item
            (ap (λ q. item_does p (p.item q) r1.core (p.next r1.core.place)) (sym (poked_place from.cells r)) ∙ own.does))
            (λ device.
            item_answered r1.devices p r.core.place (p.next r1.core.place) r1.core (p.item r.core.place) item
            (ap (λ q. device_does r1.devices p (p.item q) r1.core (p.next r1.core.place)) (sym (poked_place from.cells r)) ∙ device.does))
            (stepped_either p r1 first.0 (poked_exit from.cells r ∙ from.sound.alike.running) (ap (λ q. item_expansion (p.item q)) (poked_place from.cells r) ∙ one) first.1)
        by (AlignOf zero) single align steps more = absurd (omega (arith, more))
        by (AlignOf (suc count)) single align steps more = base_at align.nops.0
        by CallOf single call steps more = base_at call.at.one
        by (LongOf op first second) single long steps more = base_at long.at.one
        by (GroupOf items commits) single group steps more = absurd single
        by (TableOf slot) single table steps more = short_at (TableJump slot) (λ sp. refl) table.at

    pub pair_no_access : IsNoGroup (stretch r.core.place) → item_expansion (p.item r.core.place) ≡ None → (k : ℕ) (z : ZcState) → OnWay p From (suc k) z → NoAccess e z.core
    pair_no_access other one = ⊎_elim
        (λ more. bares_no_access laid.room (pair_bare other (inr more)))
        (λ few. one_no_access laid.room (λ k z from. (
          (let same = from.commits in omega (arith, same, few)),
          λ some. record { text = record { extents = from.sound.alike.extents; text = from.sound.alike.text }; here = first_at other one k z from some },
        )))
        (cases_lt 1 (commits_of p r.core (stretch r.core.place)))

    -- a push, a pop or two moves that the objects have as one halfword is at pc, with its accesses in the stack
    pub pair_expansion :
        IsNoGroup (stretch r.core.place) → (is : List Instr) → item_expansion (p.item r.core.place) ≡ Some is → (k : ℕ) (z : ZcState) → From k z → 0 < k → OnGroup laid.room k z.core
    pair_expansion other is are k z from some =
        by (stretch r.core.place) other (laid.each r.core.place z.core.pc from.sound.place) from.steps from.commits
      where
        no : {A : Type 0} (item : Item) → p.item r.core.place ≡ Some item → item_expansion (Some item) ≡ None → A
        no item at none = absurd (none-some is (sym none ∙ ap item_expansion (sym at) ∙ are))

        site : {A : Type 0} {rd : ℕ} {to : Place} → GoesTo p r.core.place rd to → A
        site (ByJump item) = no _ item refl
        site (ByCall temp item) = no _ item refl

        by :
            (x : Stretch) → IsNoGroup x → StretchLaid p e r.core.place z.core.pc x → iterate (plain_turn p) (span_of x) (all_poked from.cells r) ≡ Ok from.after → k ≡ commits_of p r.core x
            → OnGroup laid.room k z.core
        by Alone single item steps one =
            let r1 = all_poked from.cells r in
            let known = expansion_laid p r.core.place (p.item r.core.place) is item are in
            let turn = one_turn p r1 from.after steps in
            let expands = ap (λ q. item_expansion (p.item q)) (poked_place from.cells r) ∙ are in
            subst (λ n. OnGroup laid.room n z.core) (sym one)
            (expansion_from laid.room r from.after z from.cells from.sound from.are known.short is known.kind expands known.laid
            (stepped_expansion p is r1 from.after (poked_exit from.cells r ∙ from.sound.alike.running) expands turn))
        by (AlignOf count) single align steps one = no _ align.item refl
        by CallOf single call steps one = no _ call.item refl
        by (LongOf op first second) single long steps one = no _ long.item refl
        by (GroupOf items commits) single group steps one = absurd single
        by (TableOf slot) single table steps one = site table.goes

    -- a group's instructions are at pc, with their accesses in the stack
    pub pair_group : (items commits : ℕ) → stretch r.core.place ≡ GroupOf items commits → (k : ℕ) (z : ZcState) → From k z → 0 < k → OnGroup laid.room k z.core
    pair_group items commits is k z from some =
        let group = subst (StretchLaid p e r.core.place z.core.pc) is (laid.each r.core.place z.core.pc from.sound.place) in
        let steps = ap (λ x. iterate (plain_turn p) (span_of x) (all_poked from.cells r)) (sym is) ∙ from.steps in
        subst (λ n. OnGroup laid.room n z.core) (ap (commits_of p r.core) (sym is) ∙ sym from.commits)
        (group_from laid.room r from.after z from.cells from.sound from.are group steps)
