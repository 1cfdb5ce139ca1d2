-- What each section of code becomes in the result: all that its items there stand on.
use Rattle.std.proofs.Common.{◌≡◌, ℕ, ◌≤◌, ◌<◌, inl, inr, List, [], ◌∷◌, Bool, true, false, cond, Some, None, refl, sym, ap, ◌∙◌, subst, arith}
use Rattle.std.specs.Prelude.{not}
use Rattle.std.specs.List.{AllByRecursion as Each, AllZip, find, fold}
use Rattle.std.proofs.lemmas.Bool.{and_parts, ltb-true, or_left}
use Rattle.std.specs.Option.{option_map}
use Rattle.std.proofs.lemmas.List.Elements.{recursion_from_All}
use Rattle.std.proofs.lemmas.Option.{slice_get-get_or}
use Rattle.elf32_read.specs.Parts.{SectionParts, is_code_section, is_kept_section}
use Rattle.elf32_read.specs.declared.reloc.Reloc.{Reloc}
use Rattle.psabi_sym.specs.Indexed.{IndexedSection, section_at}
use Rattle.psabi_sym.specs.Inputs.{Inputs, ParsedInputs, parsed}
use Rattle.psabi_reloc.specs.Kinds.{kind_of}
use Rattle.block_cut.specs.Faults.{first_fault}
use Rattle.block_cut.specs.Items.{is_target_at, item_in, place_of, starts_on, target_of}
use Rattle.block_cut.specs.Leaders.{goes_to}
use Rattle.block_cut.specs.Relocs.{reloc_on}
use Rattle.block_cut.proofs.ItemLaws.{item_there}
use Rattle.block_cut.proofs.SoundLaws.{sound_at}
use Rattle.block_cut.proofs.StrayLaws.{held_on}
use Rattle.block_cut.proofs.WholeLaws.{code_at_is}
use Rattle.moved_runs.specs.Moved.{moved_target}
use Rattle.moved_runs.specs.Passes.{ArePassed}
use Rattle.moved_runs.proofs.Faultless.{all_none}
use Rattle.moved_runs.proofs.Led.{item_leader}
use Rattle.moved_runs.proofs.PassSections.{section-moved}
use Rattle.tail_merge.specs.Tails.{CodeItem, Removed, bytes_of_all, covers, first_offset, removed_tails, same_op, tail_end, tail_start}
use Rattle.tail_merge.specs.Merged.{indexed, is_align_kind, merged_place, merged_reloc, merged_section, removed_at}
use Rattle.tail_merge.specs.Merging.{IsHeld}
use Rattle.tail_merge.proofs.AskedLaws.{asked-merged, leader-held}
use Rattle.tail_merge.proofs.CoveredLaws.{outside-stays, stays-none}
use Rattle.tail_merge.proofs.FoundLaws.{removed-here}
use Rattle.tail_merge.proofs.ItemsLaws.{removed-apart}
use Rattle.tail_merge.proofs.MergedItems.{IsMergedInto}
use Rattle.tail_merge.proofs.MergedPrograms.{AreMergedInto, code-short}
use Rattle.tail_merge.proofs.MergedRelocs.{IsGoodCode, good-code}
use Rattle.tail_merge.proofs.MergedSections.{new-bytes, new-code, new-reloc, new-reloc-none, new-size, new-size-jump, new-start}
use Rattle.tail_merge.proofs.MergingLaws.{merging}
use Rattle.tail_merge.proofs.OffsetLaws.{ApartFrom, Outside}
use Rattle.tail_merge.proofs.PairedItems.{IsChained, IsKnown}
use Rattle.tail_merge.proofs.PairedOffsets.{IsAround, host-none, outside-all}
use Rattle.tail_merge.proofs.TailHosts.{IsKept, IsOutsideOf, each-both, each-weaker, starts-above}
use Rattle.tail_merge.proofs.TailItems.{IsItemOf, all-known, size-some}
use Rattle.tail_merge.proofs.TailLaws.{IsRemovedTail, removed-are}

-- what lies outside of removed tails lies around each of them
outside-around : (m : ℕ) (rs : List Removed) (n : ℕ) → ApartFrom m rs → Outside rs n → Each (IsAround n) rs
outside-around m [] n a out = tt
outside-around m (r ∷ rs) n a (inl before) =
    let long = a.1 in
    (inl before, each-weaker (λ (t : Removed). tail_end r ≤ tail_start t) (IsAround n) (λ t above. inl (omega (arith, before, long, above))) rs (starts-above (tail_end r) rs a.2))
outside-around m (r ∷ rs) n a (inr behind) = (inr behind.0, outside-around (tail_end r) rs n a.2 behind.1)

-- what holds of each removed tail holds of one that is found
each-found : (Q : Removed → Type 0) (p : Removed → Bool) (rs : List Removed) (r : Removed) → Each Q rs → find p rs ≡ Some r → Q r
each-found Q p [] r all found = absurd cc
each-found Q p (t ∷ ts) r all found = by (p t) found (each-found Q p ts r all.1)
  where
    by : (b : Bool) → cond b (Some t) (find p ts) ≡ Some r → (find p ts ≡ Some r → Q r) → Q r
    by true h rest = let same : t ≡ r = cc in subst Q same all.0
    by false h rest = rest h

-- and what holds of each item of a list holds of the first one, which is the last of the list
first-of : (Q : CodeItem → Type 0) (d : CodeItem) (ds : List CodeItem) → Q d → Each Q ds
    → (c : CodeItem) × (Q c × (fold (λ (n : ℕ) (c : CodeItem). c.offset) d.offset ds ≡ c.offset))
first-of Q d [] own all = (d, (own, refl))
first-of Q d (e ∷ ds) own all = first-of Q e ds all.0 all.1

module _ (inputs : Inputs) (none : first_fault inputs ≡ None) (result : ParsedInputs)
    (passed : ArePassed (merging (parsed inputs)) (parsed inputs) result) where
  abbrev p : ParsedInputs
  p = parsed inputs

  -- no place that the program may hold lies inside of a removed tail
  abbrev pub AreHeldOutside : Type 0
  AreHeldOutside =
      (o i : ℕ) (s : SectionParts) → section_at p.objects o i ≡ Some s → is_code_section s ≡ true → (n : ℕ) → IsHeld p
      (place_of (indexed o i s) n) → Outside (removed_tails p (indexed o i s)) n

  module _ (held : AreHeldOutside) (o i : ℕ) (s : SectionParts) (found : section_at p.objects o i ≡ Some s) (code : is_code_section s ≡ true) where
    abbrev l : IndexedSection
    l = indexed o i s

    abbrev rs : List Removed
    rs = removed_tails p l

    abbrev new : SectionParts
    new = merged_section p o i s

    good : IsGoodCode p l
    good = good-code inputs none l found code

    abbrev I : CodeItem → Type 0
    I c = IsItemOf p l c

    abbrev Known : Removed → Type 0
    Known r = IsKnown (IsItemOf p l) (λ d. IsKept rs d.offset) (size-some p l) r

    known : Each Known rs
    known = all-known p l good.code good.whole

    chained : Each (IsChained (IsItemOf p l) (size-some p l)) rs
    chained = each-weaker Known (IsChained (IsItemOf p l) (size-some p l)) (λ r k. (k.tail_chain, k.tail)) rs known

    -- a branch or jump leads to where a basic block begins
    leads-outside : (n k : ℕ) → starts_on s n ≡ true → is_target_at p.objects (place_of l k) ≡ true
        → goes_to (place_of l k) (item_in p s (place_of l n)) ≡ true → Outside rs k
    leads-outside n k start target goes =
        let at = item_there p (place_of l n) s (code_at_is p.objects (place_of l n) s found code) start in
        let leader =
        item_leader p (place_of l n) (place_of l k) (item_in p s (place_of l n)) at
        (or_left (goes_to (place_of l k) (item_in p s (place_of l n))) _ goes) in
        held o i s found code k (leader-held p (place_of l k) target leader)

    -- a host begins where an item does, and in no removed tail
    host-first : (r : Removed) → Known r → IsRemovedTail r → (starts_on s (first_offset r.host) ≡ true) × Outside rs (first_offset r.host)
    host-first r is long = by r.tail r.host is.same (ltb-true 4 (bytes_of_all r.tail) long.1) is.host is.outside
      where
        by : (cs ds : List CodeItem) → AllZip (λ c d. same_op c d ≡ true) cs ds → 4 < bytes_of_all cs → Each I ds
            → Each (λ (d : CodeItem). IsKept rs d.offset) ds → (starts_on s (first_offset ds) ≡ true) × Outside rs (first_offset ds)
        by [] ds same more own kept = absurd (let zero : bytes_of_all [] ≡ 0 = refl in omega (arith, more, zero))
        by (c ∷ cs) [] same more own kept = absurd same
        by (c ∷ cs) (d ∷ ds) same more own kept =
            let first =
            first-of (λ (c : CodeItem). I c × IsKept rs c.offset) d ds (own.0, kept.0)
            (each-both I (λ (c : CodeItem). IsKept rs c.offset) ds own.1 kept.1) in
            let offset : first_offset (d ∷ ds) ≡ first.0.offset = first.1.1 in (
              ap (starts_on s) offset ∙ first.1.0.0.start,
              subst (Outside rs) (sym offset)
                  (outside-all rs first.0.offset (each-weaker (IsOutsideOf first.0.offset) (IsAround first.0.offset) (λ r out. around r first.0.offset out) rs first.1.0.1)),
            )
          where
            around : (r : Removed) (n : ℕ) → IsOutsideOf n r → IsAround n r
            around r n (inl lt) = inl (omega (arith, lt))
            around r n (inr past) = inr past

    -- what decides an item leads to where its target is found
    target-moves : (n : ℕ) (r : Reloc) → reloc_on s n ≡ Some r → is_align_kind (kind_of r.kind) ≡ false
        → target_of result o (merged_reloc p o (removed_at p o i) r) ≡ moved_target (merged_place p) (target_of p o r)
    target-moves n r on other =
        let there = held_on s n r on in
        asked-merged inputs none o i there.0 s r found (slice_get-get_or s.relocs there.0 r there.1 ∙ ap Some there.2)
        (ap not (sound_at s n r code on).asks) result passed (removed_at p o i) other

    pub merged-into : IsMergedInto p result o i s new
    merged-into =
        let here = removed-here p o i s found code in
        let kept = (and_parts (is_kept_section s) _ code).0 in
        let size = code-short inputs (all_none inputs none).gathered o i s found code in
        let bytes = good.whole.bytes in
        record {
          found = found;
          code = code;
          whole = good.whole;
          there = section-moved (merging p) p.objects result.objects passed.objects o i s found kept;
          new_code = new-code p l good new refl;
          bytes = new-bytes p l good new refl;
          short = omega (arith, size, bytes);
          hostless = λ n out. host-none (IsItemOf p l) (size-some p l) rs n chained (outside-around 0 rs n (removed-apart p l) out);
          led = leads-outside;
          starts = λ n start out. new-start p l good new refl n out ∙ start;
          sizes = λ n out. new-size p l good new refl n out.start out.outside;
          relocs = λ n out. new-reloc p l good new refl n (outside-stays rs n (stays-none rs n out.outside))
              ∙ ap (λ gone. option_map (merged_reloc p o gone) (reloc_on s n)) (sym here);
          targets = λ n r out on other. target-moves n r on other;
          jump_relocs = λ n r start covered first. new-reloc-none p l good new refl n start r covered first;
          jump_sizes = λ n r start covered first. new-size-jump p l good new refl n start r covered first;
          hosts = λ n r start covered.
              let both =
              each-found (λ r. Known r × IsRemovedTail r) (covers n) rs r
              (each-both Known IsRemovedTail rs known (recursion_from_All IsRemovedTail rs (removed-are p l))) covered in
              host-first r both.0 both.1;
        }

  -- all sections of code
  pub all-merged-into : AreHeldOutside → AreMergedInto p result
  all-merged-into held = record { new = λ o i s. merged_section p o i s; each = λ o i s found code. merged-into held o i s found code }
