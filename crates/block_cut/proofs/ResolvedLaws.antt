-- What is resolved of a section's relocations: the one that says what stands at an offset is found among them, with its item and size.
use Rattle.std.proofs.Common.{◌≡◌, ℕ, ◌+◌, ◌≤◌, min, ℤ, pos, Bool, true, false, cond, List, [], ◌∷◌, ◌++◌, map, filter, take, Option, Some, None, slice_get, refl, ap, ◌∙◌, arith}
use Rattle.std.specs.Prelude.{◌&&◌, not, ◌==◌}
use Rattle.std.specs.List.{find}
use Rattle.std.specs.Option.{option_map}
use Rattle.std.proofs.lemmas.List.{append-nil, map-append}
use Rattle.std.proofs.lemmas.List.Elements.{filter-append}
use Rattle.elf32_read.specs.Parts.{is_code_section}
use Rattle.elf32_read.specs.declared.reloc.Reloc.{Reloc}
use Rattle.psabi_reloc.specs.Kinds.{field_length, kind_of}
use Rattle.psabi_reloc.specs.declared.kind.RelocKind.{RelocKind}
use Rattle.psabi_reloc.specs.declared.kind.RelocKind.TheVariants.{Ignored, Word, Branch, Jal, Call, PcrelHi20, PcrelLo12I, PcrelLo12S, Hi20, Lo12I, Lo12S, RvcBranch, RvcJump, Align}
use Rattle.psabi_sym.specs.Inputs.{ParsedInputs}
use Rattle.psabi_sym.specs.Indexed.{IndexedSection}
use Rattle.psabi_sym.specs.declared.target.Target.{Target}
use Rattle.psabi_sym.specs.declared.target.Target.TheVariants.{Code}
use Rattle.block_cut.specs.Faults.{lacks_pcrel_hi}
use Rattle.block_cut.specs.Items.{known_item, target_of}
use Rattle.block_cut.specs.Relocs.{field_of, is_bad_kind, is_bad_place, is_ignored, is_sound, reloc_on}
use Rattle.block_cut.specs.Resolved.{asks, is_right, is_right_at, resolved_item, resolved_reloc, resolved_relocs}
use Rattle.block_cut.specs.declared.resolved_reloc.ResolvedReloc.{ResolvedReloc}
use Rattle.block_cut.specs.declared.resolved_reloc.RelocFault.TheVariants.{Kind, Place, Pair}
use Rattle.block_cut.proofs.SoundLaws.{IsSoundAt, sound_at}
use Rattle.block_cut.proofs.TakeLaws.{take_next}

-- what stands for one past the end of a list, and for such a section
abbrev pub no_reloc : ResolvedReloc
no_reloc = record { target = Code (record { object = 0; section = 0; offset = 0 }); offset = 0; size = 0; kind = None; fault = None }

abbrev pub no_section : IndexedSection
no_section = record { object = 0; index = 0; section = record { name = []; kind = 0; flags = 0; align = 0; size = 0; bytes = []; relocs = []; compressed = false } }

-- ---- which one stands at an offset

-- what is found of the values of what is kept is the value of what is found
find_kept : {X Y : Type 0} (f : X → Y) (keeps : X → Bool) (p : Y → Bool) (q : X → Bool) → ((x : X) → (keeps x && p (f x)) ≡ q x) → (xs : List X)
    → find p (map f (filter keeps xs)) ≡ option_map f (find q xs)
find_kept f keeps p q same [] = refl
find_kept f keeps p q same (x ∷ xs) = by (keeps x) (p (f x)) (q x) refl (same x) (find_kept f keeps p q same xs)
  where
    by : (k here own : Bool) → p (f x) ≡ here → (k && here) ≡ own → find p (map f (filter keeps xs)) ≡ option_map f (find q xs)
        → find p (map f (cond k (x ∷ filter keeps xs) (filter keeps xs))) ≡ option_map f (cond own (Some x) (find q xs))
    by true here own at is rest = ap (λ b. cond b (Some (f x)) (find p (map f (filter keeps xs)))) (at ∙ is) ∙ found own rest
      where
        found : (b : Bool) → find p (map f (filter keeps xs)) ≡ option_map f (find q xs) → cond b (Some (f x)) (find p (map f (filter keeps xs))) ≡ option_map f (cond b (Some x) (find q xs))
        found true rest = refl
        found false rest = rest
    by false here own at is rest = rest ∙ ap (λ b. option_map f (cond b (Some x) (find q xs))) is

-- a relocation decides an item exactly if its kind and its place are right
right_is : (kind place pair : Bool) → is_right (cond kind (Some Kind) (cond place (Some Place) (cond pair (Some Pair) None))) ≡ (not kind && not place)
right_is true place pair = refl
right_is false true pair = refl
right_is false false true = refl
right_is false false false = refl

-- the one at an offset of a section, resolved
pub resolved_on : (inputs : ParsedInputs) (l : IndexedSection) (n : ℕ) → find (is_right_at n) (resolved_relocs inputs l) ≡ option_map (resolved_reloc inputs l) (reloc_on l.section n)
unfolding reloc_on
resolved_on inputs l n = find_kept (resolved_reloc inputs l) asks (is_right_at n) (λ r. is_sound l.section r && r.offset == n) same l.section.relocs
  where
    by : (ignored kind place here : Bool) → (not ignored && ((not kind && not place) && here)) ≡ ((not ignored && (not kind && not place)) && here)
    by true kind place here = refl
    by false kind place here = refl

    same : (r : Reloc) → (asks r && is_right_at n (resolved_reloc inputs l r)) ≡ (is_sound l.section r && r.offset == n)
    same r =
        ap (λ b. asks r && (b && r.offset == n)) (right_is (is_bad_kind l.section (kind_of r.kind)) (is_bad_place l.section r) (lacks_pcrel_hi inputs l r))
        ∙ by (is_ignored (kind_of r.kind)) (is_bad_kind l.section (kind_of r.kind)) (is_bad_place l.section r) (r.offset == n)

-- ---- what it says

-- of the addend an item needs only how many bytes the relocation changes
field_tells : (k : Option RelocKind) (addend : ℤ) (t : Target) (bytes : List ℕ) (n : ℕ) → known_item k (pos (field_length k addend)) t bytes n ≡ known_item k addend t bytes n
field_tells None addend t bytes n = refl
field_tells (Some Ignored) addend t bytes n = refl
field_tells (Some Word) addend t bytes n = refl
field_tells (Some Branch) addend t bytes n = refl
field_tells (Some Jal) addend t bytes n = refl
field_tells (Some Call) addend t bytes n = refl
field_tells (Some PcrelHi20) addend t bytes n = refl
field_tells (Some PcrelLo12I) addend t bytes n = refl
field_tells (Some PcrelLo12S) addend t bytes n = refl
field_tells (Some Hi20) addend t bytes n = refl
field_tells (Some Lo12I) addend t bytes n = refl
field_tells (Some Lo12S) addend t bytes n = refl
field_tells (Some RvcBranch) addend t bytes n = refl
field_tells (Some RvcJump) addend t bytes n = refl
field_tells (Some Align) addend t bytes n = refl

-- the resolved relocation at an offset of code: its offset, the number of bytes that it changes, and its item
pub record IsResolvedAt (inputs : ParsedInputs) (l : IndexedSection) (n : ℕ) (r : Reloc) : Type 0 where
  pub at : (resolved_reloc inputs l r).offset ≡ n
  pub size : (resolved_reloc inputs l r).size ≡ field_of r
  pub item : (bytes : List ℕ) (m : ℕ) → resolved_item (resolved_reloc inputs l r) bytes m ≡ known_item (kind_of r.kind) r.addend (target_of inputs l.object r) bytes m

pub resolved_at : (inputs : ParsedInputs) (l : IndexedSection) (n : ℕ) (r : Reloc) → is_code_section l.section ≡ true → reloc_on l.section n ≡ Some r → IsResolvedAt inputs l n r
resolved_at inputs l n r code found =
    let is : IsSoundAt l.section n r = sound_at l.section n r code found in
    let short : field_of r ≤ 255 = is.field.short in
    let size : min 255 (field_of r) ≡ field_of r = omega arith in
    record {
      at = is.at;
      size = size;
      item = λ bytes m. ap (λ k. known_item (kind_of r.kind) (pos k) (target_of inputs l.object r) bytes m) size
          ∙ field_tells (kind_of r.kind) r.addend (target_of inputs l.object r) bytes m;
    }

-- ---- one after another

module _ {X Y : Type 0} (f : X → Y) (keeps : X → Bool) (xs : List X) (k : ℕ) (x : X) (at : slice_get xs k ≡ Some x) where
  -- the values of what is kept, with one element more
  kept_more : map f (filter keeps (take (k + 1) xs)) ≡ map f (filter keeps (take k xs)) ++ cond (keeps x) (f x ∷ []) []
  kept_more =
      ap (λ l. map f (filter keeps l)) (take_next xs k x at) ∙ ap (map f) (filter-append keeps (take k xs) (x ∷ []))
      ∙ map-append f (filter keeps (take k xs)) (filter keeps (x ∷ [])) ∙ ap (λ l. map f (filter keeps (take k xs)) ++ l) (by (keeps x))
    where
      by : (b : Bool) → map f (cond b (x ∷ []) []) ≡ cond b (f x ∷ []) []
      by true = refl
      by false = refl

  pub kept_next : keeps x ≡ true → map f (filter keeps (take (k + 1) xs)) ≡ map f (filter keeps (take k xs)) ++ f x ∷ []
  kept_next kept = kept_more ∙ ap (λ b. map f (filter keeps (take k xs)) ++ cond b (f x ∷ []) []) kept

  pub kept_other : keeps x ≡ false → map f (filter keeps (take (k + 1) xs)) ≡ map f (filter keeps (take k xs))
  kept_other other =
      kept_more ∙ ap (λ b. map f (filter keeps (take k xs)) ++ cond b (f x ∷ []) []) other ∙ append-nil (map f (filter keeps (take k xs)))
