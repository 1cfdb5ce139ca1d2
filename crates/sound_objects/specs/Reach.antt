-- Two ways for all branches of a section to reach in the plain layout: the section is short, or it has none.
use Rattle.std.specs.Prelude.{◌≡◌, ◌≤◌, ◌+◌, ◌==◌, ◌&&◌, ℕ, Bool, true, false, not, List, length, All, Option, Some, None}
use Rattle.std.specs.List.{sum_by}
use Rattle.zc_base.specs.declared.place.Place.{Place}
use Rattle.elf32_read.specs.declared.reloc.Reloc.{Reloc}
use Rattle.psabi_reloc.specs.Kinds.{kind_of}
use Rattle.psabi_reloc.specs.declared.kind.RelocKind.{RelocKind}
use Rattle.psabi_reloc.specs.declared.kind.RelocKind.TheVariants as kind
use Rattle.psabi_sym.specs.Faults.{reloc_room}
use Rattle.psabi_sym.specs.Indexed.{IndexedSection}
use Rattle.psabi_sym.specs.Inputs.{ParsedInputs}
use Rattle.psabi_sym.specs.declared.target.Target.TheVariants.{Code}
use Rattle.rv_decode.specs.declared.instr.Instr.{Instr}
use Rattle.rv_decode.specs.declared.instr.Instr.TheVariants as instr
use Rattle.block_cut.specs.Items.{size_on, starts_on, target_of}
use Rattle.block_cut.specs.Relocs.{instr_in, reloc_on}
use Rattle.sound_objects.specs.Fragments.{Fragment, FragmentReloc}

-- the kind of a branch, and a branch
abbrev pub is_branch_kind : Option RelocKind → Bool
is_branch_kind (Some kind.Branch) = true
is_branch_kind (Some kind.RvcBranch) = true
is_branch_kind other = false

abbrev pub is_branch : Option Instr → Bool
is_branch (Some (instr.Branch op first second distance)) = true
is_branch other = false

-- ---- sections

-- a relocation leads no branch out of its section
abbrev pub StaysIn : ParsedInputs → IndexedSection → Reloc → Type 0
StaysIn inputs l r = is_branch_kind (kind_of r.kind) ≡ true → (q : Place) → target_of inputs l.object r ≡ Code q
    → (q.object ≡ l.object) × (q.section ≡ l.index)

-- a section is short: with the room of its ALIGNs it is no longer than a branch reaches, and its branches stay in it
pub record IsShort (inputs : ParsedInputs) (l : IndexedSection) : Type 0 where
  pub room : length l.section.bytes + sum_by reloc_room l.section.relocs ≤ 4094
  pub stay : All (StaysIn inputs l) l.section.relocs

-- a section has no branches: none of its relocations is a branch's, and where an item has no relocation its instruction
-- is no branch
pub record IsBranchless (l : IndexedSection) : Type 0 where
  pub relocs : All (λ r. is_branch_kind (kind_of r.kind) ≡ false) l.section.relocs
  pub bare :
      (n : ℕ) → starts_on l.section n ≡ true → reloc_on l.section n ≡ None
      → is_branch (instr_in (size_on l.section n) l.section.bytes n) ≡ false

-- ---- fragments

-- a fragment has no relocation that is a branch's or ALIGN (43)
abbrev pub is_no_branch_or_align : Option FragmentReloc → Bool
is_no_branch_or_align None = true
is_no_branch_or_align (Some r) = not (is_branch_kind (kind_of r.kind)) && not (r.kind == 43)

-- a fragment isn't a branch without a relocation
abbrev pub is_no_bare_branch : Option FragmentReloc → List ℕ → Bool
is_no_bare_branch None bytes = not (is_branch (instr_in 4 bytes 0))
is_no_bare_branch (Some r) bytes = true

-- no fragment has such a relocation
abbrev pub HaveNoBranchOrAlign : List Fragment → Type 0
HaveNoBranchOrAlign fragments = All (λ p. is_no_branch_or_align p.reloc ≡ true) fragments

-- no fragment is such a branch
abbrev pub HaveNoBareBranch : List Fragment → Type 0
HaveNoBareBranch fragments = All (λ p. is_no_bare_branch p.reloc p.bytes ≡ true) fragments
