-- Items of a section of code as removed tails and their hosts have them: each stands where it says, and where two encode to the same
-- word they are the same operation.
use Rattle.std.proofs.Common.{◌≡◌, ℕ, ◌+◌, ◌≤◌, ◌<◌, List, [], ◌∷◌, length, map, true, false, eqb, Option, Some, None, refl, sym, ap, ◌∙◌, subst}
use Rattle.std.specs.Prelude.{All}
use Rattle.std.specs.List.{AllByRecursion as Each, list_any}
use Rattle.std.specs.Option.{option_map_or}
use Rattle.std.proofs.lemmas.Bool.{eq-eqb, eqb-true, or_left, or_right}
use Rattle.std.proofs.lemmas.List.Elements.{All-head, All-tail, recursion_from_All}
use Rattle.zc_base.specs.declared.place.Place.{Place}
use Rattle.elf32_read.specs.Parts.{is_code_section}
use Rattle.psabi_sym.specs.Inputs.{ParsedInputs}
use Rattle.psabi_sym.specs.Indexed.{IndexedSection}
use Rattle.rv_decode.specs.Decode.{decoded}
use Rattle.rv_decode.specs.Immediates.{InRange}
use Rattle.rv_decode.specs.Registers.{HasRegisters}
use Rattle.rv_decode.specs.declared.instr.Instr.{Instr}
use Rattle.rv_encode.specs.Words.{encoded}
use Rattle.rv_encode.proofs.EncodedLaws.{encoded-decodes}
use Rattle.block_cut.specs.Items.{item_in, place_of, size_on, starts_in, starts_on}
use Rattle.block_cut.specs.Whole.{IsWhole}
use Rattle.block_cut.specs.declared.item.Item.{Item}
use Rattle.block_cut.specs.declared.item.Item.TheVariants as item
use Rattle.block_cut.proofs.InstrLaws.{in_range_in, registers_in}
use Rattle.tail_merge.specs.Tails.{CodeItem, Removed, code_item, code_items, goes_on, op_in_item, removed_from, removed_tails, same_op, stands_in_tail}
use Rattle.tail_merge.proofs.TailLaws.{IsRemovedTail, IsRun, NoInnerLeader, from-removed, removed-are, removed-cases}
use Rattle.tail_merge.proofs.ItemsLaws.{items-forward}
use Rattle.tail_merge.proofs.WrittenLaws.{IsHeld}
use Rattle.tail_merge.proofs.HeldLaws.{items-held}
use Rattle.tail_merge.proofs.ItemOrigins.{OfItem, item-of}
use Rattle.tail_merge.proofs.TailHosts.{IsHosted, IsKept, all-hosted, each-both, each-weaker}
use Rattle.tail_merge.proofs.PairedItems.{IsKnown}

-- an operation that two items are
pub record IsSameOp (c d : CodeItem) : Type 0 where
  pub op : Instr
  pub here : c.item ≡ item.Op op
  pub there : d.item ≡ item.Op op

op-is : (x : Item) (i : Instr) → op_in_item x ≡ Some i → x ≡ item.Op i
op-is (item.Op j) i h = let same : j ≡ i = cc in ap item.Op same
op-is x i h = absurd cc

module _ (inputs : ParsedInputs) (l : IndexedSection) where
  -- an item of the section
  pub record IsItemOf (c : CodeItem) : Type 0 where
    pub is : c ≡ code_item inputs l c.offset
    pub start : starts_on l.section c.offset ≡ true
    pub some : 0 < c.size
    pub within : c.offset + c.size ≤ length l.section.bytes

  -- ---- operations

  abbrev IsSpelled : Instr → Type 0
  IsSpelled i = InRange i × HasRegisters i

  spelled : (c : CodeItem) (i : Instr) → IsItemOf c → c.item ≡ item.Op i → IsSpelled i
  spelled c i own is =
      let q = place_of l c.offset in
      let same : item_in inputs l.section q ≡ item.Op i = sym (ap (λ (x : CodeItem). x.item) own.is) ∙ is in
      subst (OfItem IsSpelled (λ (r : Place). Unit {0})) same
      (item-of IsSpelled (λ (r : Place). Unit {0}) inputs q l.section
      (λ none i spells. (in_range_in (size_on l.section c.offset) l.section.bytes c.offset i spells, registers_in (size_on l.section c.offset) l.section.bytes c.offset i spells))
      (λ r on lower to leads. tt))

  pub same-op-is : (c d : CodeItem) → IsItemOf c → IsItemOf d → same_op c d ≡ true → IsSameOp c d
  same-op-is c d own host same = by (op_in_item c.item) refl (op_in_item d.item) refl same
    where
      by : (o : Option Instr) → op_in_item c.item ≡ o → (p : Option Instr) → op_in_item d.item ≡ p
          → option_map_or (λ i. option_map_or (λ j. eqb (encoded i) (encoded j)) p false) o false ≡ true → IsSameOp c d
      by None e p f h = absurd cc
      by (Some i) e None f h = absurd cc
      by (Some i) e (Some j) f h =
          let here = op-is c.item i e in
          let there = op-is d.item j f in
          let first = spelled c i own here in
          let second = spelled d j host there in
          let both : Some i ≡ Some j =
          sym (encoded-decodes i first.0 first.1) ∙ ap decoded (eqb-true (encoded i) (encoded j) h) ∙ encoded-decodes j second.0 second.1 in
          let is : i ≡ j = cc in
          record { op = i; here = here; there = there ∙ ap item.Op (sym is) }

  pub same-stands : (c d : CodeItem) → IsItemOf c → IsItemOf d → same_op c d ≡ true → stands_in_tail c ≡ true → stands_in_tail d ≡ true
  same-stands c d own host same stands =
      let ops = same-op-is c d own host same in
      ap (λ x. option_map_or goes_on (op_in_item x) false) (ops.there ∙ sym ops.here) ∙ stands

  pub size-some : (c : CodeItem) → IsItemOf c → 0 < c.size
  size-some c own = own.some

  -- ---- all items

  module _ (code : is_code_section l.section ≡ true) (whole : IsWhole l.section) where
    from-items : (ns : List ℕ) → ((m : ℕ) → list_any (λ k. eqb k m) ns ≡ true → starts_on l.section m ≡ true)
        → All (IsHeld l.section) (map (code_item inputs l) ns) → Each IsItemOf (map (code_item inputs l) ns)
    from-items [] starts held = tt
    from-items (n ∷ ns) starts held =
        let own = All-head (IsHeld l.section) (code_item inputs l n) (map (code_item inputs l) ns) held in (
          record {
            is = refl;
            start = starts n (or_left (eqb n n) (list_any (λ k. eqb k n) ns) (eq-eqb n n refl));
            some = own.some;
            within = own.within;
          },
          from-items ns (λ m later. starts m (or_right (eqb n m) (list_any (λ k. eqb k m) ns) later)) (All-tail (IsHeld l.section) (code_item inputs l n) (map (code_item inputs l) ns) held),
        )

    pub items-are : Each IsItemOf (code_items inputs l)
    items-are = from-items (starts_in l.section) (λ m is. is) (items-held inputs l code whole)

    -- ---- all removed tails

    -- what is known of removed tails, of which these are all
    abbrev AreKnown : List Removed → Type 0
    AreKnown rs = Each (IsKnown IsItemOf (λ (d : CodeItem). IsKept rs d.offset) size-some) rs

    found-known : AreKnown (removed_from [] [] (code_items inputs l))
    found-known =
        let rs = removed_from [] [] (code_items inputs l) in
        each-weaker (λ (r : Removed). IsHosted IsItemOf size-some same-stands [] rs r × IsRemovedTail r) (IsKnown IsItemOf (λ (d : CodeItem). IsKept rs d.offset) size-some)
        (λ r both.
        let hosted = both.0 in
        let shared = both.1.0 in
        record {
          tail = hosted.tail;
          tail_chain = hosted.tail_chain;
          host = hosted.host;
          host_chain = hosted.host_chain;
          outside = each-weaker (λ (d : CodeItem). IsKept [] d.offset × IsKept rs d.offset) (λ (d : CodeItem). IsKept rs d.offset) (λ d kept. kept.1) r.host hosted.outside;
          same = shared.same;
          ends = λ c cs e. (subst IsRun e shared.run).0;
          goes = λ c cs e. recursion_from_All (λ (d : CodeItem). stands_in_tail d ≡ true) cs (subst IsRun e shared.run).1;
        }) rs
        (each-both (IsHosted IsItemOf size-some same-stands [] rs) IsRemovedTail rs (all-hosted IsItemOf size-some same-stands (code_items inputs l) (items-forward inputs l) items-are)
        (recursion_from_All IsRemovedTail rs (from-removed [] [] (code_items inputs l))))

    pub all-known : AreKnown (removed_tails inputs l)
    all-known = removed-cases AreKnown inputs l tt found-known

    -- what else is known: no basic block begins inside
    pub all-plain : Each (λ (r : Removed). NoInnerLeader r.tail) (removed_tails inputs l)
    all-plain =
        each-weaker IsRemovedTail (λ (r : Removed). NoInnerLeader r.tail) (λ r is. is.0.leaders) (removed_tails inputs l)
        (recursion_from_All IsRemovedTail (removed_tails inputs l) (removed-are inputs l))
