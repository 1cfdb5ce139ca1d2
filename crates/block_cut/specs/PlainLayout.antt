-- Where code lies if it is written as it is: sections one after another, each item with its own size, and padding as its place needs.
use Rattle.std.specs.Prelude.{ℕ, ◌+◌, ◌-◌, nat_lt, max, if◌then◌else◌, List, length, filter, Option, Some, None}
use Rattle.std.specs.List.{fold}
use Rattle.std.specs.Option.{option_map, option_map_or}
use Rattle.zc_base.specs.declared.counts.Counts.{Counts}
use Rattle.zc_base.specs.declared.place.Place.{Place}
use Rattle.elf32_read.specs.Parts.{SectionParts, is_code_section}
use Rattle.psabi_sym.specs.Blocks.{aligned_up}
use Rattle.psabi_sym.specs.Faults.{power_above}
use Rattle.psabi_sym.specs.Inputs.{ParsedInputs}
use Rattle.psabi_sym.specs.Indexed.{IndexedSection, all_sections, sections_before}
use Rattle.block_cut.specs.Items.{all_items, code_at, is_target_at, place_of, size_on, starts_in, item_in}
use Rattle.block_cut.specs.declared.item.Item.{Item}
use Rattle.block_cut.specs.declared.item.Item.TheVariants.{Align}

-- ---- items

-- the bytes of padding that an item is
abbrev pub padding_of : Item → Option ℕ
padding_of (Align bytes) = Some bytes
padding_of item = None

-- the address after an item of `size` bytes at an address: padding goes up to the next multiple of the power of two above its
-- bytes
abbrev pub after_item : ℕ → ℕ → Item → ℕ
after_item a size item = option_map_or (λ bytes. aligned_up (power_above bytes) a) (padding_of item) (a + size)

-- the address after the item that starts at an offset of a section
abbrev pub after_start : ParsedInputs → IndexedSection → ℕ → ℕ → ℕ
after_start inputs l a n = after_item a (size_on l.section n) (item_in inputs l.section (place_of l n))

-- the address after the items that start at offsets, one after another from an address on
abbrev pub after_starts : ParsedInputs → IndexedSection → ℕ → List ℕ → ℕ
after_starts inputs l a ns = fold (after_start inputs l) a ns

-- ---- sections

-- where a section of code begins if what comes before it ends at an address: it is aligned to 4 at least
abbrev pub section_begin : ℕ → SectionParts → ℕ
section_begin a s = aligned_up (max 4 s.align) a

-- where a section ends, if what comes before it ends at an address; what isn't code takes no room
abbrev pub section_end : ParsedInputs → ℕ → IndexedSection → ℕ
section_end inputs a l = if is_code_section l.section then after_starts inputs l (section_begin a l.section) (starts_in l.section) else a

-- where the code of sections ends
abbrev pub plain_end_of : ParsedInputs → List IndexedSection → ℕ
plain_end_of inputs sections = fold (section_end inputs) inputs.map.text sections

-- where a section of code begins: after the sections before it
abbrev pub plain_start : ParsedInputs → ℕ → ℕ → SectionParts → ℕ
plain_start inputs o i s = section_begin (plain_end_of inputs (sections_before inputs.objects o i)) s

-- where all code ends
unfoldable pub plain_end : ParsedInputs → ℕ
plain_end inputs = plain_end_of inputs (all_sections inputs.objects)

-- ---- places

-- where items start in a section before an offset
abbrev pub starts_before : SectionParts → ℕ → List ℕ
starts_before s n = filter (λ m. nat_lt m n) (starts_in s)

-- the address of a place in a section
abbrev pub address_on : ParsedInputs → Place → SectionParts → ℕ
address_on inputs q s =
    after_starts inputs (record { object = q.object; index = q.section; section = s }) (plain_start inputs q.object q.section s) (starts_before s q.offset)

-- the address of a place where an item starts or a section of code ends; other places have none
unfoldable pub plain_address : ParsedInputs → Place → Option ℕ
plain_address inputs q =
    if is_target_at inputs.objects q then option_map (address_on inputs q) (code_at inputs.objects q) else None

-- the number of the text's bytes, and of its items; code that is written as it is has no short forms
abbrev pub plain_counts : ParsedInputs → Counts
plain_counts inputs = record {
  text = plain_end inputs - inputs.map.text;
  items = length (all_items inputs);
  short = 0;
  long = 0;
  pushes = 0;
  pops = 0;
  moves = 0;
  table = 0;
}
