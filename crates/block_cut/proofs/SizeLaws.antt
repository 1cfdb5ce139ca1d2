-- The item at a place lies in its section with its bytes.
use Rattle.std.proofs.Common.{◌≡◌, ℕ, ◌+◌, ◌%◌, ◌≤◌, List, true, false, Option, Some, None, refl, ap, arith}
use Rattle.std.specs.Option.{option_map_or}
use Rattle.zc_base.specs.declared.place.Place.{Place}
use Rattle.psabi_sym.specs.Faults.{gather_fault}
use Rattle.psabi_sym.specs.Inputs.{Inputs, parsed}
use Rattle.block_cut.specs.declared.item.Item.{Item}
use Rattle.elf32_read.specs.Parts.{ObjectParts, SectionParts, is_code_section}
use Rattle.elf32_read.specs.declared.reloc.Reloc.{Reloc}
use Rattle.block_cut.specs.CodeSizes.{own_size}
use Rattle.block_cut.specs.Items.{code_at, item_at, size_at, size_on}
use Rattle.block_cut.specs.Relocs.{field_of, reloc_on}
use Rattle.block_cut.proofs.CodeSizeLaws.{own_plain, step_plain}
use Rattle.block_cut.proofs.PlainLaws.{item_here}
use Rattle.block_cut.proofs.SoundLaws.{sound_at}
use Rattle.block_cut.proofs.StartLaws.{start_is, step}

pub record IsSized (inputs : Inputs) (q : Place) : Type 0 where
  pub short : size_at (parsed inputs).objects q ≤ 255
  pub inside : q.offset + size_at (parsed inputs).objects q ≤ 0x40_0000

pub item_sized : (inputs : Inputs) → gather_fault inputs ≡ None → (q : Place) (i : Item) → item_at (parsed inputs) q ≡ Some i → IsSized inputs q
item_sized inputs none q i is =
    let own = item_here inputs none q i is in
    let s = own.section in
    let start = start_is s own.code_is own.whole q.offset own.start in
    let st = step s own.code_is own.whole q.offset start.words start.inside in
    record { short = omega (arith, own.size, st.short); inside = omega (arith, own.size, st.inside, own.whole.short) }

-- where no object is compressed, sizes are whole words
pub words_at : (objects : List ObjectParts) (q : Place) (s : SectionParts) → code_at objects q ≡ Some s → is_code_section s ≡ true → s.compressed ≡ false → size_at objects q % 4 ≡ 0
words_at objects q s at code plain =
    let size : size_at objects q ≡ size_on s q.offset = ap (λ o. option_map_or (λ t. size_on t q.offset) o 4) at in
    omega (arith, size, by (reloc_on s q.offset) refl)
  where
    own : ℕ
    own = own_size s.compressed s.bytes q.offset

    by : (o : Option Reloc) → reloc_on s q.offset ≡ o → size_on s q.offset % 4 ≡ 0
    by None on =
        let size : size_on s q.offset ≡ own = ap (λ o. option_map_or field_of o own) on in
        omega (arith, size, own_plain s.compressed s.bytes q.offset plain)
    by (Some r) on =
        let size : size_on s q.offset ≡ field_of r = ap (λ o. option_map_or field_of o own) on in
        omega (arith, size, step_plain s.compressed (field_of r) plain (sound_at s q.offset r code on).field.words)
