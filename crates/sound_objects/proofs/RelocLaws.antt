-- Relocations without a fault: those that are right in each way, and those that ask for nothing.
use Rattle.std.proofs.Common.{◌≡◌, Bool, true, false, Option, Some, None, refl, ap}
use Rattle.std.specs.Prelude.{◌&&◌, ◌||◌, not}
use Rattle.std.proofs.lemmas.Bool.{and_left, and_right, not_from_true}
use Rattle.elf32_read.specs.Parts.{SectionParts, is_code_section}
use Rattle.elf32_read.specs.declared.reloc.Reloc.{Reloc}
use Rattle.psabi_sym.specs.Indexed.{IndexedSection}
use Rattle.psabi_sym.specs.Inputs.{ParsedInputs}
use Rattle.psabi_reloc.specs.Kinds.{kind_of}
use Rattle.psabi_reloc.specs.declared.kind.RelocKind.{RelocKind}
use Rattle.psabi_reloc.specs.declared.kind.RelocKind.TheVariants.{Ignored}
use Rattle.block_cut.specs.Faults.{has_bad_target, is_stray, lacks_pcrel_hi, reloc_fault}
use Rattle.block_cut.specs.Items.{starts_on}
use Rattle.block_cut.specs.Relocs.{is_bad_kind, is_bad_place, is_ignored, is_pcrel_lo}

-- what is ignored may stand anywhere, and is no lower part of a pair
ignored_known : (s : SectionParts) (k : Option RelocKind) → is_ignored k ≡ true → is_bad_kind s k ≡ false
ignored_known s None ignored = absurd cc
ignored_known s (Some Ignored) ignored = by (is_code_section s)
  where
    by : (code : Bool) → ((not code && false) || false) ≡ false
    by true = refl
    by false = refl
ignored_known s (Some k) ignored = absurd cc

ignored_alone : (k : Option RelocKind) → is_ignored k ≡ true → is_pcrel_lo k ≡ false
ignored_alone None ignored = refl
ignored_alone (Some Ignored) ignored = refl
ignored_alone (Some k) ignored = absurd cc

module _ (inputs : ParsedInputs) (l : IndexedSection) (r : Reloc) where
  -- a relocation that is right in each way has no fault
  pub no_reloc_fault : is_bad_kind l.section (kind_of r.kind) ≡ false → is_bad_place l.section r ≡ false → is_stray l.section r ≡ false → lacks_pcrel_hi inputs l r ≡ false → has_bad_target inputs l r ≡ false
      → reloc_fault inputs l r ≡ None
  no_reloc_fault kind place start pair target = rw (kind, place, start, pair, target) refl

  -- where an item starts it doesn't stray
  pub starts_right : starts_on l.section r.offset ≡ true → is_stray l.section r ≡ false
  starts_right start = and_right (is_code_section l.section) _ (and_right (not (is_ignored (kind_of r.kind))) _ (ap not start))

  -- a relocation that asks for nothing has no fault
  pub ignored_right : is_ignored (kind_of r.kind) ≡ true → reloc_fault inputs l r ≡ None
  ignored_right ignored =
      let idle = not_from_true (is_ignored (kind_of r.kind)) ignored in
      no_reloc_fault (ignored_known l.section (kind_of r.kind) ignored) (and_left (not (is_ignored (kind_of r.kind))) _ idle)
      (and_right (is_code_section l.section) _ (and_left (not (is_ignored (kind_of r.kind))) _ idle))
      (and_left (is_pcrel_lo (kind_of r.kind)) _ (ignored_alone (kind_of r.kind) ignored)) (and_left (not (is_ignored (kind_of r.kind))) _ idle)

-- what is left to show of a relocation that stands right: where it leads, and if it is a lower part, its upper part
pub record LeadsRight (inputs : ParsedInputs) (l : IndexedSection) (r : Reloc) : Type 0 where
  pub paired : lacks_pcrel_hi inputs l r ≡ false
  pub leads : has_bad_target inputs l r ≡ false
