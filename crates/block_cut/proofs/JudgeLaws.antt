-- The first fault of relocations, by those that are decided: what asks for nothing has none, and what has a fault by itself has that.
use Rattle.std.proofs.Common.{◌≡◌, ℕ, pos, List, [], ◌∷◌, map, filter, Bool, true, false, cond, Option, Some, None, refl, sym, ap, ◌∙◌}
use Rattle.std.specs.Prelude.{◌&&◌, ◌||◌, not, nat_lt}
use Rattle.std.specs.Option.{option_map, option_or}
use Rattle.elf32_read.specs.Parts.{is_code_section}
use Rattle.elf32_read.specs.declared.fault.Fault.{Fault}
use Rattle.elf32_read.specs.declared.fault.Fault.TheVariants as fault
use Rattle.elf32_read.specs.declared.reloc.Reloc.{Reloc}
use Rattle.psabi_reloc.specs.Kinds.{kind_of}
use Rattle.psabi_reloc.specs.declared.kind.RelocKind.{RelocKind}
use Rattle.psabi_reloc.specs.declared.kind.RelocKind.TheVariants as kind
use Rattle.psabi_sym.specs.Faults.{first_some}
use Rattle.psabi_sym.specs.Inputs.{ParsedInputs}
use Rattle.psabi_sym.specs.Indexed.{IndexedSection}
use Rattle.psabi_sym.specs.Resolve.{resolved}
use Rattle.block_cut.specs.Faults.{has_bad_target, if_so, is_bad_target, is_pair_at, is_stray, is_zero_addend, lacks_pcrel_hi, reloc_fault, section_fault}
use Rattle.block_cut.specs.Items.{starts_on, target_of}
use Rattle.block_cut.specs.Relocs.{field_end, is_bad_kind, is_bad_place, is_placed, overlaps_another, is_ignored, is_pcrel_lo, is_transfer}
use Rattle.block_cut.specs.Resolved.{asks, fault_of, placed_fault, placed_reloc, placed_relocs, resolved_fault, resolved_reloc}
use Rattle.block_cut.specs.declared.resolved_reloc.RelocFault.TheVariants.{Kind, Place, Pair}

module _ (inputs : ParsedInputs) (l : IndexedSection) where
  -- what asks for nothing has no fault
  ignored_none : (r : Reloc) → asks r ≡ false → reloc_fault inputs l r ≡ None
  ignored_none r nothing = by (kind_of r.kind) refl nothing
    where
      by : (k : Option RelocKind) → kind_of r.kind ≡ k → not (is_ignored k) ≡ false → reloc_fault inputs l r ≡ None
      by None is nothing = absurd cc
      by (Some kind.Word) is nothing = absurd cc
      by (Some kind.Branch) is nothing = absurd cc
      by (Some kind.Jal) is nothing = absurd cc
      by (Some kind.Call) is nothing = absurd cc
      by (Some kind.PcrelHi20) is nothing = absurd cc
      by (Some kind.PcrelLo12I) is nothing = absurd cc
      by (Some kind.PcrelLo12S) is nothing = absurd cc
      by (Some kind.Hi20) is nothing = absurd cc
      by (Some kind.Lo12I) is nothing = absurd cc
      by (Some kind.Lo12S) is nothing = absurd cc
      by (Some kind.RvcBranch) is nothing = absurd cc
      by (Some kind.RvcJump) is nothing = absurd cc
      by (Some kind.Align) is nothing = absurd cc
      by (Some kind.Ignored) is nothing = λ j. none (fine j) (place j || stray j) (pair j) (target j)
        where
          none : Bool → Bool → Bool → Bool → Option Fault
          none a b c d = first_some (if_so a (fault.RelocKind l.index r.offset) ∷ if_so b (fault.RelocPlace l.index r.offset) ∷ if_so c (fault.LoPair l.index r.offset) ∷ if_so d (fault.BadTarget l.index r.offset) ∷ [])

          bad : (b : Bool) → (not b && (not true && not false) || false) ≡ false
          bad true = refl
          bad false = refl

          fine : is_bad_kind l.section (kind_of r.kind) ≡ false
          fine = ap (is_bad_kind l.section) is ∙ bad (is_code_section l.section)

          rest : Bool
          rest = nat_lt l.section.size (field_end r) || (not (is_placed l.section r) || overlaps_another l.section.relocs r)

          place : is_bad_place l.section r ≡ false
          place = ap (λ k. not (is_ignored k) && rest) is

          apart : (b : Bool) → (b && false) ≡ false
          apart true = refl
          apart false = refl

          stray : is_stray l.section r ≡ false
          stray = ap (λ k. is_code_section l.section && (not (is_ignored k) && not (starts_on l.section r.offset))) is ∙ apart (is_code_section l.section)

          lone : Bool
          lone = not (is_zero_addend r.addend) || not (is_pair_at l (resolved inputs l.object r.symbol (pos 0)))

          pair : lacks_pcrel_hi inputs l r ≡ false
          pair = ap (λ k. is_pcrel_lo k && lone) is

          target : has_bad_target inputs l r ≡ false
          target = ap (λ k. not (is_ignored k) && is_bad_target inputs.objects (is_transfer k) (target_of inputs l.object r)) is

  -- what asks for something has what is wrong with it by itself, and else what is wrong with its target
  resolved_is : (r : Reloc) → asks r ≡ true → resolved_fault inputs.objects l.index (placed_reloc l.section (resolved_reloc inputs l r)) ≡ reloc_fault inputs l r
  resolved_is r asked =
      by (is_bad_kind l.section (kind_of r.kind)) (is_bad_place l.section r) (lacks_pcrel_hi inputs l r) (code && not starts)
      ∙ ap (λ b. first_some (
      if_so (is_bad_kind l.section (kind_of r.kind)) (fault.RelocKind l.index r.offset)
      ∷ if_so (is_bad_place l.section r || (code && (b && not starts))) (fault.RelocPlace l.index r.offset)
      ∷ if_so (lacks_pcrel_hi inputs l r) (fault.LoPair l.index r.offset)
      ∷ if_so (b && leads) (fault.BadTarget l.index r.offset)
      ∷ [])) (sym asked)
    where
      code : Bool
      code = is_code_section l.section

      starts : Bool
      starts = starts_on l.section r.offset

      leads : Bool
      leads = is_bad_target inputs.objects (is_transfer (kind_of r.kind)) (target_of inputs l.object r)

      last : (b : Bool) → if_so b (fault.BadTarget l.index r.offset) ≡ option_or (if_so b (fault.BadTarget l.index r.offset)) None
      last true = refl
      last false = refl

      by : (bad place pair strays : Bool)
          → fault_of (placed_fault strays (cond bad (Some Kind) (cond place (Some Place) (cond pair (Some Pair) None)))) (if_so leads (fault.BadTarget l.index r.offset)) l.index r.offset
          ≡ first_some (if_so bad (fault.RelocKind l.index r.offset) ∷ if_so (place || strays) (fault.RelocPlace l.index r.offset) ∷ if_so pair (fault.LoPair l.index r.offset) ∷ if_so leads (fault.BadTarget l.index r.offset) ∷ [])
      by true place pair strays = refl
      by false true pair true = refl
      by false true pair false = refl
      by false false true true = refl
      by false false false true = refl
      by false false true false = refl
      by false false false false = last leads

  -- the first fault of a section's relocations is the first one of those that are resolved
  pub first_resolved : first_some (map (resolved_fault inputs.objects l.index) (placed_relocs inputs l)) ≡ first_some (map (reloc_fault inputs l) l.section.relocs)
  first_resolved = all l.section.relocs
    where
      all : (rs : List Reloc) → first_some (map (resolved_fault inputs.objects l.index) (map (placed_reloc l.section) (map (resolved_reloc inputs l) (filter asks rs)))) ≡ first_some (map (reloc_fault inputs l) rs)
      all [] = refl
      all (r ∷ rs) = by (asks r) refl (all rs)
        where
          by : (b : Bool) → asks r ≡ b → first_some (map (resolved_fault inputs.objects l.index) (map (placed_reloc l.section) (map (resolved_reloc inputs l) (filter asks rs)))) ≡ first_some (map (reloc_fault inputs l) rs)
              → first_some (map (resolved_fault inputs.objects l.index) (map (placed_reloc l.section) (map (resolved_reloc inputs l) (cond b (r ∷ filter asks rs) (filter asks rs))))) ≡ option_or (reloc_fault inputs l r) (first_some (map (reloc_fault inputs l) rs))
          by true asked rest = λ j. option_or (resolved_is r asked j) (rest j)
          by false nothing rest = rest ∙ ap (λ o. option_or o (first_some (map (reloc_fault inputs l) rs))) (sym (ignored_none r nothing))

  -- the first fault of a section's relocations, with its object's index
  pub section_resolved : option_map {U = ℕ × Fault} (λ (f : Fault). (l.object, f)) (first_some (map (resolved_fault inputs.objects l.index) (placed_relocs inputs l))) ≡ section_fault inputs l
  section_resolved = ap (option_map {U = ℕ × Fault} (λ (f : Fault). (l.object, f))) first_resolved
