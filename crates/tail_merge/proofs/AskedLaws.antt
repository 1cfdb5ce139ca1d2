-- What each relocation that asks for something leads to, in objects without a fault: a number, or a place that a program may hold. In
-- merged objects it leads to where that is found.
use Rattle.std.proofs.Common.{◌≡◌, ℕ, ◌⊎◌, inl, inr, ℤ, pos, negsuc, List, refl, sym, ap, ◌∙◌, Bool, true, false, cond, Option, Some, None, slice_get}
use Rattle.std.specs.Prelude.{◌&&◌, ◌||◌, not}
use Rattle.std.proofs.lemmas.Bool.{eqb-true, or_cases}
use Rattle.std.proofs.lemmas.List.Folds.{list_any_at}
use Rattle.std.proofs.lemmas.Option.{get_or_from_slice_get, slice_get_within}
use Rattle.zc_base.specs.declared.place.Place.{Place}
use Rattle.elf32_read.specs.Parts.{SectionParts}
use Rattle.elf32_read.specs.declared.reloc.Reloc.{Reloc}
use Rattle.psabi_reloc.specs.Kinds.{kind_of}
use Rattle.psabi_reloc.specs.declared.kind.RelocKind.{RelocKind}
use Rattle.psabi_reloc.specs.declared.kind.RelocKind.TheVariants as kind
use Rattle.psabi_sym.specs.Inputs.{Inputs, ParsedInputs, parsed}
use Rattle.psabi_sym.specs.Indexed.{section_at}
use Rattle.psabi_sym.specs.Resolve.{resolved}
use Rattle.psabi_sym.specs.declared.target.Target.{Target}
use Rattle.psabi_sym.specs.declared.target.Target.TheVariants.{Code, Number, Absent, Nowhere}
use Rattle.block_cut.specs.Faults.{first_fault, is_bad_target, is_pair_at, is_zero_addend}
use Rattle.block_cut.specs.Items.{is_end_at, is_start_at, is_target_at, target_of}
use Rattle.block_cut.specs.Leaders.{is_leader_at}
use Rattle.block_cut.specs.Relocs.{is_ignored, is_pcrel_lo, is_transfer}
use Rattle.block_cut.specs.Resolved.{asks}
use Rattle.block_cut.proofs.DataLaws.{reloc_none}
use Rattle.block_cut.proofs.FaultLaws.{section_fine}
use Rattle.block_cut.proofs.ListedLaws.{listed}
use Rattle.block_cut.proofs.WholeLaws.{inputs_whole}
use Rattle.moved_runs.specs.Moved.{moved_target}
use Rattle.moved_runs.specs.Named.{IsNamedTarget}
use Rattle.moved_runs.specs.Passes.{ArePassed}
use Rattle.moved_runs.proofs.Faultless.{IsGood, all_none, good, target_good}
use Rattle.moved_runs.proofs.Led.{AsksIn, reloc_leader}
use Rattle.tail_merge.specs.Merged.{addend_to, is_align_kind, merged_place, merged_reloc, new_value}
use Rattle.tail_merge.specs.Merging.{IsHeld}
use Rattle.tail_merge.specs.Tails.{Removed}
use Rattle.tail_merge.proofs.EntryLaws.{zero-stays}
use Rattle.tail_merge.proofs.MergingLaws.{merging}
use Rattle.tail_merge.proofs.ResolvedLaws.{AreWhole, IsSomewhere, addend-same, addend_from, target-merged}

-- a leader where an item starts, or the end of a section of code, is a place that a program may hold
pub leader-held : (inputs : ParsedInputs) (q : Place) → is_target_at inputs.objects q ≡ true → is_leader_at inputs q ≡ true → IsHeld inputs q
leader-held inputs q target leader = by (or_cases (is_start_at inputs.objects q) (is_end_at inputs.objects q) target)
  where
    by : (is_start_at inputs.objects q ≡ true) ⊎ (is_end_at inputs.objects q ≡ true) → IsHeld inputs q
    by (inl start) = inl (start, leader)
    by (inr end) = inr (inl end)

module _ (inputs : Inputs) (none : first_fault inputs ≡ None) where
  abbrev p : ParsedInputs
  p = parsed inputs

  pub code-whole : AreWhole p
  code-whole = λ o i s at code. inputs_whole inputs o i s (all_none inputs none).gathered at code

  module _ (o i k : ℕ) (s : SectionParts) (r : Reloc) (at : section_at p.objects o i ≡ Some s) (is : slice_get s.relocs k ≡ Some r) where
    pub asked-good : IsGood p (listed o i s) r
    asked-good = good p (listed o i s) r (reloc_none p o i s at (section_fine p (all_none inputs none).relocs o i s at) k r is)

    module _ (asked : asks r ≡ true) where
      quiet : (b : Bool) → not b ≡ true → b ≡ false
      quiet false h = refl
      quiet true h = absurd cc

      pub asks-in : AsksIn p o i s r
      asks-in = record {
        found = at;
        asks = quiet (is_ignored (kind_of r.kind)) asked;
        among = λ test passes. list_any_at test s.relocs k r (slice_get_within s.relocs k r is) (ap test (get_or_from_slice_get s.relocs k r r is) ∙ passes);
      }

      pub asked-leader : (q : Place) → target_of p o r ≡ Code q → is_leader_at p q ≡ true
      asked-leader q leads = reloc_leader p q asks-in leads

      pub asked-target : (q : Place) → target_of p o r ≡ Code q → is_target_at p.objects q ≡ true
      asked-target q leads = target_good p (listed o i s) r q (quiet (is_ignored (kind_of r.kind)) asked) asked-good leads

      pub asked-named : IsNamedTarget (IsHeld p) (target_of p o r)
      asked-named = by (target_of p o r) refl
        where
          by : (t : Target) → target_of p o r ≡ t → IsNamedTarget (IsHeld p) t
          by (Code q) leads = leader-held p q (asked-target q leads) (asked-leader q leads)
          by (Number n) leads = tt
          by (Absent n) leads = tt
          by Nowhere leads = tt

      pub asked-somewhere : IsSomewhere (target_of p o r)
      asked-somewhere = by (target_of p o r) refl
        where
          bad : (a transfers : Bool) → a ≡ true → (a && is_bad_target p.objects transfers Nowhere) ≡ false → ⊥
          bad true transfers e h = cc
          bad false transfers e h = cc

          by : (t : Target) → target_of p o r ≡ t → IsSomewhere t
          by (Code q) leads = tt
          by (Number n) leads = tt
          by (Absent n) leads = tt
          by Nowhere leads =
              bad (asks r) (is_transfer (kind_of r.kind)) asked (sym (ap (λ t. asks r && is_bad_target p.objects (is_transfer (kind_of r.kind)) t) leads) ∙ asked-good.leads)

      -- it leads to where the place that it led to is found
      pub asked-merged : (result : ParsedInputs) → ArePassed (merging p) p result → (removed : List Removed) → is_align_kind (kind_of r.kind) ≡ false
          → target_of result o (merged_reloc p o removed r) ≡ moved_target (merged_place p) (target_of p o r)
      asked-merged result passes removed leads = target-merged p result passes code-whole o removed r leads asked-somewhere

    -- ---- lower parts

    no-addend : (z : ℤ) → is_zero_addend z ≡ true → z ≡ pos 0
    no-addend (pos n) h = ap pos (eqb-true n 0 h)
    no-addend (negsuc n) h = absurd cc

    no-align : (k : Option RelocKind) → is_pcrel_lo k ≡ true → is_align_kind k ≡ false
    no-align (Some kind.PcrelLo12I) h = refl
    no-align (Some kind.PcrelLo12S) h = refl
    no-align k h = absurd cc

    lo-asks : (k : Option RelocKind) → is_pcrel_lo k ≡ true → not (is_ignored k) ≡ true
    lo-asks (Some kind.PcrelLo12I) h = refl
    lo-asks (Some kind.PcrelLo12S) h = refl
    lo-asks k h = absurd cc

    lo-parts : (lo zero pair : Bool) → lo ≡ true → (lo && (not zero || not pair)) ≡ false → (zero ≡ true) × (pair ≡ true)
    lo-parts true true true e h = (refl, refl)
    lo-parts true false pair e h = absurd cc
    lo-parts true true false e h = absurd cc
    lo-parts false zero pair e h = absurd cc

    -- the given addend of a lower part is 0, and so is the new one
    pub lo-addend : is_pcrel_lo (kind_of r.kind) ≡ true → (r.addend ≡ pos 0) × ((removed : List Removed) → (merged_reloc p o removed r).addend ≡ pos 0)
    lo-addend lo =
        let parts = lo-parts (is_pcrel_lo (kind_of r.kind)) (is_zero_addend r.addend) (is_pair_at (listed o i s) (resolved p o r.symbol (pos 0))) lo asked-good.paired in
        let zero = no-addend r.addend parts.0 in
        let asked : asks r ≡ true = lo-asks (kind_of r.kind) lo in
        let leader : (q : Place) → resolved p o r.symbol (pos 0) ≡ Code q → is_leader_at p q ≡ true = λ q leads. asked-leader asked q (ap (resolved p o r.symbol) zero ∙ leads) in (
          zero,
          λ removed. ap (λ b. cond b r.addend (addend_to p o r (target_of p o r))) (no-align (kind_of r.kind) lo)
              ∙ addend-same p o r (target_of p o r)
              ∙ ap (λ a. addend_from p (resolved p o r.symbol a) (new_value p o r.symbol) a) zero
              ∙ zero-stays p code-whole o r.symbol leader,
        )
