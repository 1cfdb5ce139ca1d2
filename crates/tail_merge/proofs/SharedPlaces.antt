-- The removed tails of all sections as a table of places: where it leads is where places are found, a program holds no place inside of
-- a removed tail, and the places that it holds stay apart.
use Rattle.std.proofs.Common.{◌≡◌, ℕ, ◌+◌, ◌≤◌, ◌<◌, List, [], ◌∷◌, length, map, Bool, true, false, eqb, ltb, Option, Some, None, refl, sym, ap, ◌∙◌, subst, arith, inl, inr}
use Rattle.std.specs.Prelude.{ℤ, ◌⊎◌, ◌||◌}
use Rattle.std.specs.List.{AllByRecursion as Each, AllZip, find, list_any}
use Rattle.std.specs.Option.{option_map, option_map_or}
use Rattle.std.proofs.lemmas.Bool.{cases_lt, eqb-true, ltb-true, or_cases}
use Rattle.std.proofs.lemmas.List.Elements.{recursion_from_All}
use Rattle.zc_base.specs.declared.place.Place.{Place}
use Rattle.elf32_read.specs.Parts.{ObjectParts, SectionParts, is_code_section}
use Rattle.rv_decode.specs.declared.instr.Instr.{Instr}
use Rattle.rv_decode.specs.declared.instr.Instr.TheVariants as instr
use Rattle.psabi_sym.specs.Inputs.{Inputs, ParsedInputs, parsed}
use Rattle.psabi_sym.specs.Indexed.{IndexedSection, section_at}
use Rattle.block_cut.specs.Faults.{first_fault}
use Rattle.block_cut.specs.Items.{code_at, is_start_at, item_at, next_at, place_of, size_on, starts_in, starts_on}
use Rattle.block_cut.specs.Leaders.{is_leader_at}
use Rattle.block_cut.specs.Whole.{IsWhole}
use Rattle.block_cut.specs.declared.item.Item.TheVariants as item
use Rattle.block_cut.proofs.ItemLaws.{item_there}
use Rattle.block_cut.proofs.StartItems.{item_starts}
use Rattle.block_cut.proofs.WholeLaws.{code_at_is, inputs_whole}
use Rattle.sym_machine.specs.Objects.{program_of}
use Rattle.moved_runs.specs.Moves.{OpReturns}
use Rattle.moved_runs.specs.Passes.{renumbered}
use Rattle.moved_runs.proofs.Faultless.{all_none}
use Rattle.tail_merge.specs.Merged.{indexed, removed_at, removed_in}
use Rattle.tail_merge.specs.Merging.{IsHeld}
use Rattle.tail_merge.specs.Sharing.{IsTailItem, Tails}
use Rattle.tail_merge.specs.Tails.{CodeItem, Removed, bytes_of_all, code_item, code_items, covers, ends_tail, first_offset, goes_on, host_offset, moved_down, op_in_item, removed_tails, returns, same_op, stands_in_tail, tail_end, tail_start}
use Rattle.tail_merge.proofs.TailLaws.{IsRemovedTail, NoInnerLeader, removed-are}
use Rattle.tail_merge.proofs.ItemsLaws.{AreClean, IsApart, IsClean, all-clean, items-forward, removed-apart}
use Rattle.tail_merge.proofs.FoundLaws.{HasItems, none-removed, removed-here, removed-items}
use Rattle.tail_merge.proofs.TailHosts.{IsKept, each-both, each-weaker}
use Rattle.tail_merge.proofs.PairedItems.{IsChained, IsKnown, IsOwn, IsPair, begins_at, each-own, kept-none, pair-found, paired, paired_in}
use Rattle.tail_merge.proofs.PairedOffsets.{IsAround, begins-around, first-paired, host-none, kept-around, none-covers, paired-in-tail, plain-in-tail, tail-within}
use Rattle.tail_merge.proofs.TailItems.{IsItemOf, IsSameOp, all-known, all-plain, same-op-is, size-some}

-- a jump by a register that keeps no link
returns-is : (i : Instr) → returns i ≡ true → OpReturns i
returns-is (instr.Jalr rd base imm) h = eqb-true rd 0 h
returns-is i h = absurd cc

no-jalr : (i : Instr) (rd base : ℕ) (imm : ℤ) → goes_on i ≡ true → i ≡ instr.Jalr rd base imm → rd ≡ 0
no-jalr i rd base imm goes is = absurd (let stops : goes_on i ≡ false = ap goes_on is in cc)

-- an item is an operation
abbrev IsOpItem : CodeItem → Type 0
IsOpItem c = (i : Instr) × (c.item ≡ item.Op i)

-- what holds of the items at some offsets
each-at : (Q : CodeItem → Type 0) (f : ℕ → CodeItem) (ns : List ℕ) (n : ℕ) → Each Q (map f ns) → list_any (λ k. eqb k n) ns ≡ true → Q (f n)
each-at Q f [] n all is = absurd cc
each-at Q f (m ∷ ms) n all is = by (or_cases (eqb m n) (list_any (λ k. eqb k n) ms) is) (λ later. each-at Q f ms n all.1 later)
  where
    by : (eqb m n ≡ true) ⊎ (list_any (λ k. eqb k n) ms ≡ true) → (list_any (λ k. eqb k n) ms ≡ true → Q (f n)) → Q (f n)
    by (inl here) rest = subst (λ k. Q (f k)) (eqb-true m n here) all.0
    by (inr later) rest = rest later

-- one of some that is where one begins
begins-one : (J : Removed → Type 0) (rs : List Removed) (n : ℕ) → Each J rs → begins_at rs n ≡ true → (r : Removed) × (J r × (tail_start r ≡ n))
begins-one J [] n all h = absurd cc
begins-one J (r ∷ rs) n all h = by (eqb (tail_start r) n) refl h (λ later. begins-one J rs n all.1 later)
  where
    by : (b : Bool) → eqb (tail_start r) n ≡ b → (b || begins_at rs n) ≡ true
        → (begins_at rs n ≡ true → (r : Removed) × (J r × (tail_start r ≡ n))) → (r : Removed) × (J r × (tail_start r ≡ n))
    by true e is rest = (r, (all.0, eqb-true (tail_start r) n e))
    by false e is rest = rest is

module _ (inputs : Inputs) (none : first_fault inputs ≡ None) where
  abbrev given : ParsedInputs
  given = parsed inputs

  abbrev objects : List ObjectParts
  objects = given.objects

  abbrev K : Place → Type 0
  K q = IsHeld given q

  abbrev gone : ℕ → ℕ → List Removed
  gone o i = removed_at given o i

  -- where places move, the host's place of one in a removed tail, and whether it is the tail's first
  abbrev pub tail_table : Tails
  tail_table = record {
    moved = λ q. record { object = q.object; section = renumbered objects q.object q.section; offset = moved_down (gone q.object q.section) q.offset };
    host = λ q. option_map (λ n. record q { offset = n }) (paired_in (gone q.object q.section) q.offset);
    head = λ q. begins_at (gone q.object q.section) q.offset;
  }

  -- a section of code
  pub record IsCodeOf (o i : ℕ) : Type 0 where
    pub section : SectionParts
    pub there : section_at objects o i ≡ Some section
    pub code : is_code_section section ≡ true

  pub code-or-none : (o i : ℕ) → IsCodeOf o i ⊎ (gone o i ≡ [])
  code-or-none o i = by (section_at objects o i) refl
    where
      code : (s : SectionParts) → section_at objects o i ≡ Some s → (b : Bool) → is_code_section s ≡ b → IsCodeOf o i ⊎ (gone o i ≡ [])
      code s is true c = inl (record { section = s; there = is; code = c })
      code s is false c = inr (none-removed given o i s is c)

      by : (x : Option SectionParts) → section_at objects o i ≡ x → IsCodeOf o i ⊎ (gone o i ≡ [])
      by None is = inr (ap (λ x. option_map_or (λ s. removed_in given (indexed o i s)) x []) is)
      by (Some s) is = code s is (is_code_section s) refl

  -- ---- in a section of code

  module _ (o i : ℕ) (s : SectionParts) (there : section_at objects o i ≡ Some s) (code : is_code_section s ≡ true) where
    abbrev l : IndexedSection
    l = indexed o i s

    abbrev rs : List Removed
    rs = removed_tails given l

    abbrev I : CodeItem → Type 0
    I c = IsItemOf given l c

    abbrev Known : Removed → Type 0
    Known r = IsKnown (IsItemOf given l) (λ d. IsKept rs d.offset) (size-some given l) r

    whole : IsWhole s
    whole = inputs_whole inputs o i s (all_none inputs none).gathered there code

    here : gone o i ≡ rs
    here = removed-here given o i s there code

    known : Each Known rs
    known = all-known given l code whole

    chained : Each (IsChained (IsItemOf given l) (size-some given l)) rs
    chained = each-weaker Known (IsChained (IsItemOf given l) (size-some given l)) (λ r k. (k.tail_chain, k.tail)) rs known

    code-here : (n : ℕ) → code_at objects (place_of l n) ≡ Some s
    code-here n = code_at_is objects (place_of l n) s there code

    item-here : (c : CodeItem) → I c → item_at given (place_of l c.offset) ≡ Some c.item
    item-here c own = item_there given (place_of l c.offset) s (code-here c.offset) own.start ∙ ap Some (sym (ap (λ (x : CodeItem). x.item) own.is))

    next-here : (c : CodeItem) → I c → next_at objects (place_of l c.offset) ≡ place_of l (c.offset + c.size)
    next-here c own =
        ap (λ k. place_of l (c.offset + k)) (ap (λ x. option_map_or (λ s. size_on s c.offset) x 4) (code-here c.offset) ∙ sym (ap (λ (x : CodeItem). x.size) own.is))

    host-here : (n : ℕ) → tail_table.host (place_of l n) ≡ option_map (λ k. place_of l k) (paired_in rs n)
    host-here n = ap (λ rs. option_map (λ k. place_of l k) (paired_in rs n)) here

    -- ---- an item of a removed tail

    pub tail-item : (n k : ℕ) → paired_in rs n ≡ Some k → IsTailItem (program_of given) tail_table (place_of l n) (place_of l k)
    unfolding program_of
    tail-item n k is =
        let pair = pair-found (IsItemOf given l) (λ d. IsKept rs d.offset) (size-some given l) 0 rs n k (removed-apart given l) known is in
        let ops = same-op-is given l pair.c pair.d pair.own pair.host pair.same in
        record {
          op = ops.op;
          here = ap (λ m. item_at given (place_of l m)) (sym pair.at) ∙ item-here pair.c pair.own ∙ ap Some ops.here;
          same = ap (λ m. item_at given (place_of l m)) (sym pair.to) ∙ item-here pair.d pair.host ∙ ap Some ops.there;
          kept = host-here k ∙ ap (option_map (λ m. place_of l m)) (kept-none (IsItemOf given l) (size-some given l) rs k chained (subst (IsKept rs) pair.to pair.kept));
          goes = goes pair ops pair.ahead;
          link = λ rd base imm e. link ops.op rd base imm e (ends ops pair.ahead);
        }
      where
        Pair : Type 0
        Pair = IsPair (IsItemOf given l) (λ d. IsKept rs d.offset) (size-some given l) rs n k

        Ahead : CodeItem → CodeItem → Type 0
        Ahead c d = (ends_tail c ≡ true) ⊎ ((stands_in_tail c ≡ true) × ((paired_in rs (n + c.size) ≡ Some (k + d.size)) × (begins_at rs (n + c.size) ≡ false)))

        ends : {c d : CodeItem} → (ops : IsSameOp c d) → Ahead c d → (returns ops.op ≡ true) ⊎ (goes_on ops.op ≡ true)
        ends ops (inl e) = inl (ap (λ x. option_map_or returns (op_in_item x) false) (sym ops.here) ∙ e)
        ends ops (inr on) = inr (ap (λ x. option_map_or goes_on (op_in_item x) false) (sym ops.here) ∙ on.0)

        link : (op : Instr) (rd base : ℕ) (imm : ℤ) → op ≡ instr.Jalr rd base imm → (returns op ≡ true) ⊎ (goes_on op ≡ true) → rd ≡ 0
        link op rd base imm e (inl end) = subst OpReturns e (returns-is op end)
        link op rd base imm e (inr on) = no-jalr op rd base imm on e

        goes : (pair : Pair) (ops : IsSameOp pair.c pair.d) → Ahead pair.c pair.d
            → OpReturns ops.op ⊎ ((tail_table.host (next_at objects (place_of l n)) ≡ Some (next_at objects (place_of l k))) × (tail_table.head (next_at objects (place_of l n)) ≡ false))
        goes pair ops (inl e) = inl (returns-is ops.op (ap (λ x. option_map_or returns (op_in_item x) false) (sym ops.here) ∙ e))
        goes pair ops (inr on) =
            let from : next_at objects (place_of l n) ≡ place_of l (n + pair.c.size) =
            ap (λ m. next_at objects (place_of l m)) (sym pair.at) ∙ next-here pair.c pair.own ∙ ap (λ m. place_of l (m + pair.c.size)) pair.at in
            let to : next_at objects (place_of l k) ≡ place_of l (k + pair.d.size) =
            ap (λ m. next_at objects (place_of l m)) (sym pair.to) ∙ next-here pair.d pair.host ∙ ap (λ m. place_of l (m + pair.d.size)) pair.to in
            inr (
              ap tail_table.host from ∙ host-here (n + pair.c.size) ∙ ap (option_map (λ m. place_of l m)) on.1.0 ∙ ap Some (sym to),
              ap tail_table.head from ∙ ap (λ rs. begins_at rs (n + pair.c.size)) here ∙ on.1.1,
            )

    -- ---- places that are held

    ops-of : (cs ds : List CodeItem) → AllZip (λ c d. same_op c d ≡ true) cs ds → Each I cs → Each I ds → Each IsOpItem cs
    ops-of [] ds same own host = tt
    ops-of (c ∷ cs) [] same own host = absurd same
    ops-of (c ∷ cs) (d ∷ ds) same own host =
        let ops = same-op-is given l c d own.0 host.0 same.0 in
        ((ops.op, ops.here), ops-of cs ds same.1 own.1 host.1)

    clean-start : (n : ℕ) → starts_on s n ≡ true → IsClean (code_items given l) n
    clean-start n start =
        let items = code_items given l in
        (each-at (AreClean items) (code_item given l) (starts_in s) n (recursion_from_All (AreClean items) items (all-clean 0 items (items-forward given l))) start).0

    -- no item of a removed tail lies around where an item starts
    apart-tails : (n : ℕ) → starts_on s n ≡ true → Each (λ (r : Removed). Each (IsApart n) r.tail) rs
    apart-tails n start =
        each-weaker (HasItems (IsApart n)) (λ (r : Removed). Each (IsApart n) r.tail) (λ r has. recursion_from_All (IsApart n) r.tail has.0) rs
        (recursion_from_All (HasItems (IsApart n)) rs (removed-items (IsApart n) given l (clean-start n start)))

    -- what starts strictly inside of one is an operation where no basic block begins
    start-around : (n : ℕ) → starts_on s n ≡ true → ((c : CodeItem) → c.offset ≡ n → I c → c.leader ≡ false → IsOpItem c → ⊥)
        → Each (IsAround n) rs
    start-around n start never =
        each-weaker (λ (r : Removed). Known r × (Each (IsApart n) r.tail × NoInnerLeader r.tail)) (IsAround n)
        (λ r is. around r is.0 is.1.0 is.1.1) rs
        (each-both Known (λ (r : Removed). Each (IsApart n) r.tail × NoInnerLeader r.tail) rs known
        (each-both (λ (r : Removed). Each (IsApart n) r.tail) (λ (r : Removed). NoInnerLeader r.tail) rs (apart-tails n start) (all-plain given l code whole)))
      where
        around : (r : Removed) → Known r → Each (IsApart n) r.tail → NoInnerLeader r.tail → IsAround n r
        around r is apart leaders =
            elim (cases_lt (tail_start r) n) [
              | inl more ↦ elim (cases_lt n (tail_end r)) [
                | inl less ↦ absurd (
                    let x = plain-in-tail (λ c. I c × IsOpItem c) r.tail n is.tail_chain (each-both I IsOpItem r.tail is.tail (ops-of r.tail r.host is.same is.tail is.host)) apart leaders more less in
                    never x.c x.at x.own.0 x.plain x.own.1)
                | inr past ↦ inr past
              ]
              | inr le ↦ inl le
            ]

    end-around : Each (IsAround (length s.bytes)) rs
    end-around =
        each-weaker Known (IsAround (length s.bytes))
        (λ r is. inr (tail-within r.tail (length s.bytes) is.tail_chain (each-weaker I (λ (c : CodeItem). c.offset + c.size ≤ length s.bytes) (λ c own. own.within) r.tail is.tail))) rs known

    start-here : (n : ℕ) → is_start_at objects (place_of l n) ≡ true → starts_on s n ≡ true
    start-here n start = sym (ap (λ x. option_map_or (λ s. starts_on s n) x false) (code-here n)) ∙ start

    pub held-around : (n : ℕ) → K (place_of l n) → Each (IsAround n) rs
    held-around n (inl led) =
        start-around n (start-here n led.0) (λ c at own plain op.
        let leads : c.leader ≡ is_leader_at given (place_of l n) = ap (λ (x : CodeItem). x.leader) own.is ∙ ap (λ m. is_leader_at given (place_of l m)) at in
        let leader = led.1 in
        cc)
    held-around n (inr (inl end)) =
        let at : eqb n (length s.bytes) ≡ true = sym (ap (λ x. option_map_or (λ (s : SectionParts). eqb n (length s.bytes)) x false) (code-here n)) ∙ end in
        subst (λ m. Each (IsAround m) rs) (sym (eqb-true n (length s.bytes) at)) end-around
    held-around n (inr (inr (j, t, is))) =
        start-around n (start-here n (item_starts given (place_of l n) (item.PcHi j t) is)) (λ c at own plain op.
        let found : Some (item.PcHi j t) ≡ Some (item.Op op.0) = sym is ∙ ap (λ m. item_at given (place_of l m)) (sym at) ∙ item-here c own ∙ ap Some op.1 in
        cc)

    -- a place around which nothing is removed, and where nothing begins, has no host
    no-host : (n : ℕ) → Each (IsAround n) rs → begins_at rs n ≡ false → tail_table.host (place_of l n) ≡ None
    no-host n around nothing = host-here n ∙ ap (option_map (λ k. place_of l k)) (kept-none (IsItemOf given l) (size-some given l) rs n chained (kept-around rs n around nothing))

    pub held-leaders : (n : ℕ) → K (place_of l n) → (tail_table.host (place_of l n) ≡ None) ⊎ (tail_table.head (place_of l n) ≡ true)
    held-leaders n k = by (begins_at rs n) refl
      where
        by : (b : Bool) → begins_at rs n ≡ b → (tail_table.host (place_of l n) ≡ None) ⊎ (tail_table.head (place_of l n) ≡ true)
        by true e = inr (ap (λ rs. begins_at rs n) here ∙ e)
        by false e = inl (no-host n (held-around n k) e)

    -- ---- where places are found

    -- at the first of a removed tail nothing else is found
    pub none-found : (n : ℕ) → begins_at rs n ≡ true → host_offset rs n ≡ None
    none-found n begins = host-none (IsItemOf given l) (size-some given l) rs n chained (begins-around 0 rs n (removed-apart given l) begins)

    -- ---- items outside

    -- an item without a host is covered by no removed tail
    pub not-covered : (n : ℕ) → starts_on s n ≡ true → paired_in rs n ≡ None → find (covers n) rs ≡ None
    not-covered n start alone =
        none-covers rs n
        (each-weaker (λ (r : Removed). Known r × (Each (IsApart n) r.tail × IsOwn (IsItemOf given l) (size-some given l) rs r)) (λ (r : Removed). (n < tail_start r) ⊎ (tail_end r ≤ n))
        (λ r is. by r is.0 is.1.0 is.1.1) rs
        (each-both Known (λ (r : Removed). Each (IsApart n) r.tail × IsOwn (IsItemOf given l) (size-some given l) rs r) rs known
        (each-both (λ (r : Removed). Each (IsApart n) r.tail) (IsOwn (IsItemOf given l) (size-some given l) rs) rs (apart-tails n start)
        (each-own (IsItemOf given l) (size-some given l) 0 rs (removed-apart given l) chained))))
      where
        by : (r : Removed) → Known r → Each (IsApart n) r.tail
            → ((m : ℕ) → tail_start r ≤ m → m < tail_end r → paired_in rs m ≡ paired r.tail r.host m)
            → (n < tail_start r) ⊎ (tail_end r ≤ n)
        by r is apart own =
            elim (cases_lt n (tail_start r)) [
              | inl before ↦ inl before
              | inr low ↦ elim (cases_lt n (tail_end r)) [
                | inl high ↦ absurd (
                    let some = paired-in-tail r.tail r.host n is.tail_chain apart is.same low high in
                    let both : None ≡ Some some.0 = sym alone ∙ own n low high ∙ some.1 in
                    cc)
                | inr past ↦ inr past
              ]
            ]

    -- the host's first item goes with a removed tail's first
    pub first-host : (J : Removed → Type 0) → Each J rs → (n k : ℕ) → begins_at rs n ≡ true → paired_in rs n ≡ Some k
        → (r : Removed) × (J r × ((tail_start r ≡ n) × (first_offset r.host ≡ k)))
    first-host J all n k begins is =
        let long = each-weaker IsRemovedTail (λ (r : Removed). 4 < bytes_of_all r.tail) (λ r x. long-is r x.1) rs (recursion_from_All IsRemovedTail rs (removed-are given l)) in
        let one = begins-one (λ r. (Known r × J r) × ((4 < bytes_of_all r.tail) × IsOwn (IsItemOf given l) (size-some given l) rs r)) rs n
        (each-both (λ (r : Removed). Known r × J r) (λ (r : Removed). (4 < bytes_of_all r.tail) × IsOwn (IsItemOf given l) (size-some given l) rs r) rs (each-both Known J rs known all)
        (each-both (λ (r : Removed). 4 < bytes_of_all r.tail) (IsOwn (IsItemOf given l) (size-some given l) rs) rs long (each-own (IsItemOf given l) (size-some given l) 0 rs (removed-apart given l) chained))) begins in
        let r = one.0 in
        let is-known = one.1.0.0.0 in
        let more = one.1.0.1.0 in
        let same : paired_in rs (tail_start r) ≡ Some (first_offset r.host) =
        one.1.0.1.1 (tail_start r) (omega arith) (omega (arith, more)) ∙ first-paired (IsItemOf given l) (size-some given l) r.tail r.host is-known.tail_chain is-known.tail is-known.same more in
        let both : Some (first_offset r.host) ≡ Some k = sym same ∙ ap (paired_in rs) one.1.1 ∙ is in
        let to : first_offset r.host ≡ k = cc in
        (r, (one.1.0.0.1, (one.1.1, to)))
      where
        long-is : (r : Removed) → ltb 4 (bytes_of_all r.tail) ≡ true → 4 < bytes_of_all r.tail
        long-is r h = ltb-true 4 (bytes_of_all r.tail) h
