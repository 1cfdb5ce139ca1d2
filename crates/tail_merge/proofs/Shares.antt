-- Merged objects run as the given ones: the table of removed tails meets what sharing them takes.
use Rattle.std.proofs.Common.{◌≡◌, ℕ, List, [], length, Bool, true, false, eqb, Option, Some, None, slice_get, refl, sym, ap, ap₂, ◌∙◌, subst, inl, inr}
use Rattle.std.specs.Prelude.{◌≤◌, ◌+◌, ◌⊎◌, map}
use Rattle.std.specs.List.{AllZip, find}
use Rattle.std.specs.Option.{option_and_then, option_map, option_map_or}
use Rattle.std.proofs.lemmas.Bool.{and_parts}
use Rattle.zc_base.specs.MemMap.{IsMap, data_limit}
use Rattle.zc_base.specs.declared.place.Place.{Place}
use Rattle.elf32_read.specs.Parts.{ObjectParts, SectionParts, is_code_section, is_kept_section}
use Rattle.elf32_write.specs.Writable.{IsObjectOf}
use Rattle.psabi_sym.specs.Inputs.{Inputs, ParsedInputs, parsed}
use Rattle.psabi_sym.specs.Data.{data_end}
use Rattle.psabi_sym.specs.Indexed.{section_at}
use Rattle.block_cut.specs.Faults.{first_fault}
use Rattle.block_cut.specs.Items.{code_at, entry_of, is_end_at, is_start_at, item_at, next_at, starts_on}
use Rattle.block_cut.specs.Leaders.{is_leader_at}
use Rattle.block_cut.specs.declared.item.Item.{Item}
use Rattle.block_cut.specs.declared.item.Item.TheVariants as item
use Rattle.block_cut.proofs.FaultLaws.{faultless}
use Rattle.block_cut.proofs.ItemLaws.{item_found}
use Rattle.block_cut.proofs.StartItems.{item_starts, no_item_starts}
use Rattle.block_cut.proofs.WholeLaws.{code_is_section}
use Rattle.sym_machine.specs.Conditions.{is_solid}
use Rattle.sym_machine.specs.AddressParts.{pc_target}
use Rattle.sym_machine.specs.Objects.{program_of}
use Rattle.moved_runs.specs.Moved.{moved_byte, moved_item}
use Rattle.moved_runs.specs.Moves.{IsDead, KeepsRuns, MovesSharing, StartsQuiet}
use Rattle.moved_runs.specs.Passes.{ArePassed, new_number, renumbered, with_files}
use Rattle.moved_runs.proofs.PassNumbers.{own-number}
use Rattle.moved_runs.proofs.QuietObjects.{objects-quiet}
use Rattle.object_passes.specs.Written.{without_marks}
use Rattle.tail_merge.specs.Merged.{indexed, merged, merged_place, removed_at}
use Rattle.tail_merge.specs.Merging.{IsAnywhere, IsHeld, MovesUppers}
use Rattle.tail_merge.specs.Sharing.{IsOutsideTails, IsSharing, IsTailItem, Tails, shared_from, shared_place}
use Rattle.tail_merge.specs.Tails.{Removed, covers, host_offset, moved_down, removed_tails, tail_start}
use Rattle.tail_merge.proofs.AskedLaws.{code-whole}
use Rattle.tail_merge.proofs.DataLaws.{bytes-merged, merged-named}
use Rattle.tail_merge.proofs.EntryLaws.{entry-leader, entry-merged}
use Rattle.tail_merge.proofs.InputsLaws.{inputs-merged}
use Rattle.tail_merge.proofs.MergedInto.{all-merged-into}
use Rattle.tail_merge.proofs.MergedPrograms.{AreMergedInto, dead-solid, dead-upper, down_place, end-moved, found-down, jump-moved, outside-moved}
use Rattle.tail_merge.proofs.MergingLaws.{merging}
use Rattle.tail_merge.proofs.OffsetLaws.{down-apart}
use Rattle.tail_merge.proofs.SharingLaws.{sharing-moves, sharing-runs, sharing-uppers}
use Rattle.tail_merge.proofs.ItemsLaws.{removed-apart}
use Rattle.tail_merge.proofs.FoundLaws.{removed-here}
use Rattle.tail_merge.proofs.HeldPlaces.{leads-held, pairs-held}
use Rattle.tail_merge.proofs.PairedItems.{begins_at, paired_in}
use Rattle.tail_merge.proofs.PairedOffsets.{first-covers, host-paired, outside-all}
use Rattle.tail_merge.proofs.SharedPlaces.{IsCodeOf, code-or-none, first-host, held-around, held-leaders, none-found, not-covered, tail-item, tail_table}

module _ (inputs : Inputs) (none : first_fault inputs ≡ None) where
  abbrev given : ParsedInputs
  given = parsed inputs

  abbrev objects : List ObjectParts
  objects = given.objects

  abbrev K : Place → Type 0
  K q = IsHeld given q

  abbrev t : Tails
  t = tail_table inputs none

  abbrev gone : Place → List Removed
  gone q = removed_at given q.object q.section

  -- ---- places that are held lie in code

  record IsInCode (q : Place) : Type 0 where
    section : SectionParts
    there : section_at objects q.object q.section ≡ Some section
    code : is_code_section section ≡ true

  in-code : (q : Place) (f : SectionParts → Bool) → option_map_or f (code_at objects q) false ≡ true → IsInCode q
  in-code q f = by (code_at objects q) refl
    where
      by : (o : Option SectionParts) → code_at objects q ≡ o → option_map_or f o false ≡ true → IsInCode q
      by None at h = absurd cc
      by (Some s) at h = let is = code_is_section objects q s at in record { section = s; there = is.0; code = is.1 }

  start-in : (q : Place) → is_start_at objects q ≡ true → IsInCode q
  start-in q start = in-code q (λ s. starts_on s q.offset) start

  held-in : (q : Place) → K q → IsInCode q
  held-in q (inl led) = start-in q led.0
  held-in q (inr (inl end)) = in-code q (λ s. eqb q.offset (length s.bytes)) end
  held-in q (inr (inr (j, x, is))) = start-in q (item_starts given q (item.PcHi j x) is)

  leaders : (q : Place) → K q → (t.host q ≡ None) ⊎ (t.head q ≡ true)
  leaders q k = let c = held-in q k in held-leaders inputs none q.object q.section c.section c.there c.code q.offset k

  -- ---- they stay apart

  kept-code : (s : SectionParts) → is_code_section s ≡ true → is_kept_section s ≡ true
  kept-code s code = (and_parts (is_kept_section s) _ code).0

  own-section : (o x y : ℕ) (s u : SectionParts) → section_at objects o x ≡ Some s → is_kept_section s ≡ true
      → section_at objects o y ≡ Some u → is_kept_section u ≡ true
      → renumbered objects o x ≡ renumbered objects o y → x ≡ y
  own-section o x y s u at-x kept-x at-y kept-y = by (slice_get objects o) at-x at-y
    where
      by : (found : Option ObjectParts) → option_and_then (λ (object : ObjectParts). slice_get object.sections x) found ≡ Some s
          → option_and_then (λ (object : ObjectParts). slice_get object.sections y) found ≡ Some u
          → option_map_or (λ (object : ObjectParts). new_number object.sections x) found 0 ≡ option_map_or (λ (object : ObjectParts). new_number object.sections y) found 0 → x ≡ y
      by None a b same = absurd cc
      by (Some g) a b same = own-number g.sections x y s u a kept-x b kept-y same

  apart : (q r : Place) → K q → K r → t.moved q ≡ t.moved r → q ≡ r
  apart q r kq kr e =
      let a = held-in q kq in
      let b = held-in r kr in
      let object : q.object ≡ r.object = ap (λ (x : Place). x.object) e in
      let number : renumbered objects q.object q.section ≡ renumbered objects q.object r.section =
      ap (λ (x : Place). x.section) e ∙ ap (λ o. renumbered objects o r.section) (sym object) in
      let there : section_at objects q.object r.section ≡ Some b.section = ap (λ o. section_at objects o r.section) object ∙ b.there in
      let section : q.section ≡ r.section = own-section q.object q.section r.section a.section b.section a.there (kept-code a.section a.code) there (kept-code b.section b.code) number in
      let other : K (record { object = q.object; section = q.section; offset = r.offset }) = subst K (λ j. record { object = sym object j; section = sym section j; offset = r.offset }) kr in
      let rs = removed_tails given (indexed q.object q.section a.section) in
      let here : gone q ≡ rs = removed-here given q.object q.section a.section a.there a.code in
      let down : moved_down rs q.offset ≡ moved_down rs r.offset =
      ap (λ rs. moved_down rs q.offset) (sym here) ∙ ap (λ (x : Place). x.offset) e
      ∙ (λ j. moved_down (removed_at given (sym object j) (sym section j)) r.offset) ∙ ap (λ rs. moved_down rs r.offset) here in
      let offset : q.offset ≡ r.offset =
      down-apart 0 rs q.offset r.offset (removed-apart given (indexed q.object q.section a.section))
      (outside-all rs q.offset (held-around inputs none q.object q.section a.section a.there a.code q.offset kq))
      (outside-all rs r.offset (held-around inputs none q.object q.section a.section a.there a.code r.offset other)) down in
      λ j. record { object = object j; section = section j; offset = offset j }

  -- ---- removed tails

  -- a host's place, by its offset
  record IsHostAt (q h : Place) : Type 0 where
    offset : ℕ
    paired : paired_in (gone q) q.offset ≡ Some offset
    is : record q { offset = offset } ≡ h

  host-at : (q h : Place) → t.host q ≡ Some h → IsHostAt q h
  host-at q h is = by (paired_in (gone q) q.offset) refl is
    where
      by : (o : Option ℕ) → paired_in (gone q) q.offset ≡ o → option_map (λ n. record q { offset = n }) o ≡ Some h → IsHostAt q h
      by None e f = absurd cc
      by (Some k) e f = let same : record q { offset = k } ≡ h = cc in record { offset = k; paired = e; is = same }

  no-code : (q h : Place) → gone q ≡ [] → t.host q ≡ Some h → ⊥
  no-code q h empty is = let nothing : t.host q ≡ None = ap (λ rs. option_map (λ n. record q { offset = n }) (paired_in rs q.offset)) empty in cc

  tails : (q h : Place) → t.host q ≡ Some h → IsTailItem (program_of given) t q h
  tails q h is = by (code-or-none inputs none q.object q.section)
    where
      by : IsCodeOf inputs none q.object q.section ⊎ (gone q ≡ []) → IsTailItem (program_of given) t q h
      by (inr empty) = absurd (no-code q h empty is)
      by (inl c) =
          let got = host-at q h is in
          let here = removed-here given q.object q.section c.section c.there c.code in
          subst (IsTailItem (program_of given) t q) got.is
          (tail-item inputs none q.object q.section c.section c.there c.code q.offset got.offset (ap (λ rs. paired_in rs q.offset) (sym here) ∙ got.paired))

  -- ---- where places are found

  nothing-found : (q : Place) → begins_at (gone q) q.offset ≡ true → host_offset (gone q) q.offset ≡ None
  nothing-found q begins = by (code-or-none inputs none q.object q.section)
    where
      by : IsCodeOf inputs none q.object q.section ⊎ (gone q ≡ []) → host_offset (gone q) q.offset ≡ None
      by (inr empty) = absurd (let never : begins_at (gone q) q.offset ≡ false = ap (λ rs. begins_at rs q.offset) empty in cc)
      by (inl c) =
          let here = removed-here given q.object q.section c.section c.there c.code in
          ap (λ rs. host_offset rs q.offset) here
          ∙ none-found inputs none q.object q.section c.section c.there c.code q.offset (ap (λ rs. begins_at rs q.offset) (sym here) ∙ begins)

  found-at : (q : Place) → shared_place t q ≡ merged_place given q
  found-at q = by (begins_at (gone q) q.offset) refl (paired_in (gone q) q.offset) refl
    where
      found : Option ℕ → Place
      found o = record {
        object = q.object;
        section = renumbered objects q.object q.section;
        offset = option_map_or (moved_down (gone q)) o (moved_down (gone q) q.offset);
      }

      by : (b : Bool) → begins_at (gone q) q.offset ≡ b → (o : Option ℕ) → paired_in (gone q) q.offset ≡ o → shared_from t.moved q b (option_map (λ n. record q { offset = n }) o) ≡ merged_place given q
      by true e None f = ap found (sym (nothing-found q e))
      by true e (Some k) f = ap found (sym (nothing-found q e))
      by false e None f = ap found (sym (host-paired (gone q) q.offset e ∙ f))
      by false e (Some k) f = ap found (sym (host-paired (gone q) q.offset e ∙ f))

  pub found-there : shared_place t ≡ merged_place given
  found-there = λ j q. found-at q j

  -- ---- items outside

  unpaired : (q : Place) (o : Option ℕ) → option_map (λ n. record q { offset = n }) o ≡ None → o ≡ None
  unpaired q None e = refl
  unpaired q (Some k) e = absurd cc

  uncovered : (q : Place) (i : Item) → item_at given q ≡ Some i → t.host q ≡ None → find (covers q.offset) (gone q) ≡ None
  uncovered q i is alone =
      let found = item_found given q i is in
      let s = found.section in
      let two = code_is_section objects q s found.code in
      let here = removed-here given q.object q.section s two.0 two.1 in
      ap (find (covers q.offset)) here
      ∙ not-covered inputs none q.object q.section s two.0 two.1 q.offset found.start (ap (λ rs. paired_in rs q.offset) (sym here) ∙ unpaired q (paired_in (gone q) q.offset) alone)

  -- ---- the result

  module _ (result : ParsedInputs) (passed : ArePassed (merging given) given result) where
    abbrev M : Place → Place
    M q = merged_place given q

    into : AreMergedInto given result
    into =
        all-merged-into inputs none result passed
        (λ o i s found code n k. outside-all (removed_tails given (indexed o i s)) n (held-around inputs none o i s found code n k))

    -- a removed tail's first place is where the jump to its host's stands
    head-jump : (q h : Place) → t.host q ≡ Some h → t.head q ≡ true → item_at result (t.moved q) ≡ Some (item.Jump 0 (t.moved h))
    unfolding program_of
    head-jump q h is head = by (code-or-none inputs none q.object q.section)
      where
        by : IsCodeOf inputs none q.object q.section ⊎ (gone q ≡ []) → item_at result (t.moved q) ≡ Some (item.Jump 0 (t.moved h))
        by (inr empty) = absurd (no-code q h empty is)
        by (inl c) =
            let got = host-at q h is in
            let s = c.section in
            let rs = removed_tails given (indexed q.object q.section s) in
            let here : gone q ≡ rs = removed-here given q.object q.section s c.there c.code in
            let one = first-host inputs none q.object q.section s c.there c.code (λ r. find (covers (tail_start r)) rs ≡ Some r) (first-covers 0 rs (removed-apart given (indexed q.object q.section s)))
            q.offset got.offset (ap (λ rs. begins_at rs q.offset) (sym here) ∙ head) (ap (λ rs. paired_in rs q.offset) (sym here) ∙ got.paired) in
            let r = one.0 in
            let covered : find (covers q.offset) (gone q) ≡ Some r =
            ap (find (covers q.offset)) here ∙ ap (λ m. find (covers m) rs) (sym one.1.1.0) ∙ one.1.0 in
            let x = tails q h is in
            jump-moved given result into q (item.Op x.op) r x.here covered (sym one.1.1.0)
            ∙ ap (λ m. Some (item.Jump 0 (t.moved (record q { offset = m })))) one.1.1.1
            ∙ ap (λ h. Some (item.Jump 0 (t.moved h))) got.is

    -- an item where the machine is stuck is in no removed tail
    dead-alone : (q : Place) (i : Item) → item_at given q ≡ Some i → IsDead i → t.host q ≡ None
    unfolding program_of
    dead-alone q i is dead = by (t.host q) refl
      where
        by : (o : Option Place) → t.host q ≡ o → t.host q ≡ None
        by None e = e
        by (Some h) e =
            let x = tails q h e in
            let both : Some i ≡ Some (item.Op x.op) = sym is ∙ x.here in
            let same : i ≡ item.Op x.op = cc in
            absurd (subst IsDead same dead)

    -- an item starts where one is found that the program may hold
    held-there : (q : Place) (i : Item) → K q → item_at given q ≡ Some i → (j : Item) × (item_at result (M q) ≡ Some j)
    held-there q i k is = by (t.host q) refl (leaders q k)
      where
        solid : (o : Option Item) → item_at result (M q) ≡ o → is_solid o ≡ true → (j : Item) × (item_at result (M q) ≡ Some j)
        solid None e h = absurd cc
        solid (Some j) e h = (j, e)

        out : find (covers q.offset) (gone q) ≡ None
            → IsDead i ⊎ ((item_at result (down_place given q) ≡ Some (moved_item M i)) × (next_at result.objects (down_place given q) ≡ M (next_at objects q)))
            → (j : Item) × (item_at result (M q) ≡ Some j)
        out free (inl dead) = solid (item_at result (M q)) refl (dead-solid given result into q i is free dead)
        out free (inr both) = (moved_item M i, ap (item_at result) (found-down given result into q i is free) ∙ both.0)

        by : (o : Option Place) → t.host q ≡ o → (t.host q ≡ None) ⊎ (t.head q ≡ true) → (j : Item) × (item_at result (M q) ≡ Some j)
        by None e c = let free = uncovered q i is e in out free (outside-moved given result into q i is free)
        by (Some h) e (inl never) = absurd cc
        by (Some h) e (inr head) =
            let there : M q ≡ t.moved q = sym (found-at q) ∙ ap₂ (shared_from t.moved q) head e in
            (item.Jump 0 (t.moved h), ap (item_at result) there ∙ head-jump q h e head)

    -- ---- the start

    entry : entry_of result ≡ M (entry_of given)
    entry =
        let all = faultless inputs none in
        let q = all.entry in
        let leads = entry-leader given q all.entry_found in
        entry-merged given result passed (code-whole inputs none) q all.entry_found (starts q leads (item_at given q) refl)
      where
        starts : (q : Place) → (is_start_at objects q ≡ true) × (is_leader_at given q ≡ true) → (o : Option Item) → item_at given q ≡ o
            → is_start_at result.objects (M q) ≡ true
        starts q leads None e = absurd (let never = no_item_starts given q e in let start = leads.0 in cc)
        starts q leads (Some i) e = let x = held-there q i (inl leads) e in item_starts result (M q) x.0 x.1

    -- ---- the whole

    held-end : (q : Place) → K q → item_at given q ≡ None → is_end_at objects q ≡ true
    held-end q (inl led) e = absurd (let never = no_item_starts given q e in let start = led.0 in cc)
    held-end q (inr (inl end)) e = end
    held-end q (inr (inr (j, x, is))) e = absurd cc

    shares : StartsQuiet (program_of given) → IsSharing (λ q. IsHeld given q) t (program_of given) (program_of result)
    unfolding program_of
    shares quiet = record {
      starts = quiet;
      entry = entry ∙ ap (λ N. N (entry_of given)) (sym found-there);
      bytes = bytes-merged inputs none result passed ∙ ap (λ N. map (moved_byte N) (program_of given).bytes) (sym found-there);
      named = merged-named inputs none;
      map = passed.map;
      leaders = leaders;
      apart = apart;
      leads = leads-held inputs none;
      pairs = pairs-held inputs none;
      ends = λ q k e. ap (λ N. item_at result (N q)) found-there ∙ (end-moved given result into q (held-end q k e)).1;
      dead = λ q i k e d. ap (λ N. is_solid (item_at result (N q))) found-there ∙ dead-solid given result into q i e (uncovered q i e (dead-alone q i e d)) d;
      outside = λ q i alone e. outer q i (outside-moved given result into q i e (uncovered q i e alone));
      tails = tails;
      jumps = head-jump;
    }
      where
        outer : (q : Place) (i : Item)
            → IsDead i ⊎ ((item_at result (down_place given q) ≡ Some (moved_item M i)) × (next_at result.objects (down_place given q) ≡ M (next_at objects q)))
            → IsDead i ⊎ IsOutsideTails (program_of given) (program_of result) t q i
        outer q i (inl dead) = inl dead
        outer q i (inr both) = inr (record {
          item = both.0 ∙ ap (λ N. Some (moved_item N i)) (sym found-there);
          next = both.1 ∙ ap (λ N. N (next_at objects q)) (sym found-there);
        })

    pub passed-shares : StartsQuiet (program_of given)
        → MovesSharing (IsHeld given) IsAnywhere (merged_place given) (program_of given) (program_of result)
    passed-shares quiet =
        subst (λ N. MovesSharing (IsHeld given) IsAnywhere N (program_of given) (program_of result)) found-there
        (sharing-moves (λ q. IsHeld given q) t (program_of given) (program_of result) (shares quiet))

    pub passed-uppers : StartsQuiet (program_of given) → MovesUppers (IsHeld given) (merged_place given) (program_of given) (program_of result)
    unfolding program_of
    passed-uppers quiet =
        subst (λ N. MovesUppers (IsHeld given) N (program_of given) (program_of result)) found-there
        (sharing-uppers (λ q. IsHeld given q) t (program_of given) (program_of result) (shares quiet)
        (λ q i k e d. ap (λ N. pc_target (item_at result (N q))) found-there ∙ dead-upper given result into q i e (uncovered q i e (dead-alone q i e d)) d))

    pub passed-runs : StartsQuiet (program_of given) → KeepsRuns (merged_place given) (program_of given) (program_of result)
    passed-runs quiet =
        subst (λ N. KeepsRuns N (program_of given) (program_of result)) found-there (sharing-runs (λ q. IsHeld given q) t (program_of given) (program_of result) (shares quiet))

-- ---- files of merged objects

module _ (inputs : Inputs) (files : List (List ℕ)) (none : first_fault inputs ≡ None) (is : IsMap inputs.map) (room : data_end (parsed inputs) ≤ inputs.map.data_low + data_limit inputs.map)
    (read : AllZip IsObjectOf (map without_marks (merged (parsed inputs))) files) where
  quiet : StartsQuiet (program_of (parsed inputs))
  quiet = objects-quiet (parsed inputs) is room

  -- at each place stands the same item, a jump to the same operation, or one at which the machine is stuck
  pub merged-shares : MovesSharing (IsHeld (parsed inputs)) IsAnywhere (merged_place (parsed inputs)) (program_of (parsed inputs)) (program_of (parsed (with_files inputs files)))
  merged-shares = passed-shares inputs none (parsed (with_files inputs files)) (inputs-merged inputs files none read) quiet

  -- upper parts at places that the program may hold have the same targets
  pub merged-uppers : MovesUppers (IsHeld (parsed inputs)) (merged_place (parsed inputs)) (program_of (parsed inputs)) (program_of (parsed (with_files inputs files)))
  merged-uppers = passed-uppers inputs none (parsed (with_files inputs files)) (inputs-merged inputs files none read) quiet

  -- what the given program comes to in some steps, this one does in at most twice as many
  pub merged-runs : KeepsRuns (merged_place (parsed inputs)) (program_of (parsed inputs)) (program_of (parsed (with_files inputs files)))
  merged-runs = passed-runs inputs none (parsed (with_files inputs files)) (inputs-merged inputs files none read) quiet
