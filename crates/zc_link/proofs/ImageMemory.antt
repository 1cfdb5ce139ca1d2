-- Where the memory of an image lies and how it begins, whatever its text is, under every map that a link may be made for: it has a
-- text, and data that are as long as the program's.
use Rattle.std.proofs.Common.{◌≡◌, ℕ, ◌+◌, ◌-◌, ◌<◌, ◌≤◌, List, [], ◌∷◌, ◌++◌, length, replicate, Bool, true, false, cond, refl, sym, ap, ◌∙◌, subst, inl, inr, ⊎_elim, arith, leb, get_or, length-append}
use Rattle.std.specs.Prelude.{◌||◌}
use Rattle.std.proofs.lemmas.Bool.{and_from, and_parts, cond-false, cond-true, le-leb, leb-true, or_cases, or_from, or_left, or_right}
use Rattle.std.proofs.lemmas.List.{length-replicate}
use Rattle.std.proofs.lemmas.List.Elements.{All-cons, All-nil}
use Rattle.zc_base.specs.MemMap.{IsMap, data_limit}
use Rattle.zc_base.specs.declared.mem_map.MemMap.{MemMap}
use Rattle.elf32_read.specs.Segments.{SegmentData}
use Rattle.elf32_write.specs.Loadable.{segments}
use Rattle.elf32_write.specs.Parts.{Parts}
use Rattle.rv_decode.specs.Memory.{Data, Extent, Stack, Text, blank, cell_at, extents_of, is_data, is_text, lies_in, spans}
use Rattle.rv_decode.specs.State.{byte_in}
use Rattle.rv_decode.proofs.MemoryLaws.{get_or_blank, length_blank, spans_before}
use Rattle.sym_machine.specs.Program.{Program, data_high, start_memory}
use Rattle.sym_machine.specs.declared.word.SymByte.{SymByte}
use Rattle.sym_machine.specs.declared.word.SymByte.TheVariants.{Undef}
use Rattle.zc_machine.specs.Load.{first_core}
use Rattle.zc_machine.specs.Memory.{Apart, AreApart}
use Rattle.zc_machine.specs.Poked.{is_segment}
use Rattle.zc_machine.proofs.LoadLaws.{code_byte, code_lies}
use Rattle.zc_link.specs.Places.{listed_address}
use Rattle.zc_link.specs.Image.{Image, loaded_core}
use Rattle.zc_link.specs.Invariants.Room.{SpansMemory}
use Rattle.zc_link.proofs.Adds.{AreBytes, bytes_append}

either_below : {x y : ℕ} (b : Bool) → x < 256 → y < 256 → cond b x y < 256
either_below true h k = h
either_below false h k = k

blank_below : (n k : ℕ) → get_or (blank n 0) k 0 < 256
blank_below n k = let z = get_or_blank {X = ℕ} n k 0 in omega arith

-- parts under a program's map: a text that is short, and data that are as long as the program's
pub record AreLaidOut (p : Program) (parts : Parts) : Type 0 where
  pub is_map : IsMap p.map
  pub text_at : parts.text_at ≡ p.map.text
  pub data_at : parts.data_at ≡ p.map.data_low
  pub short : length parts.text ≤ 0x9_0000
  pub size : length p.bytes ≡ length parts.data_bytes + parts.zero
  pub room : length parts.data_bytes + parts.zero ≤ data_limit p.map
  pub text_are : AreBytes parts.text
  pub data_are : AreBytes parts.data_bytes

-- what an image with these parts holds
abbrev pub image_of : MemMap → Parts → Image
image_of map parts = record { entry = parts.entry; segments = segments parts; address = listed_address parts.places; map = map }

-- the bytes of data with the zeros after them
abbrev pub data_cells : Parts → List ℕ
data_cells parts = parts.data_bytes ++ replicate parts.zero 0

module _ (p : Program) (parts : Parts) (out : AreLaidOut p parts) where
  abbrev memory : MemMap
  memory = p.map

  abbrev image : Image
  image = image_of memory parts

  abbrev text : List ℕ
  text = parts.text

  abbrev stack_size : ℕ
  stack_size = memory.stack_high - memory.stack_low

  abbrev cells : List ℕ
  cells = parts.data_bytes ++ blank (length parts.data_bytes + parts.zero - length parts.data_bytes) 0

  cells_are : cells ≡ data_cells parts
  unfolding blank
  cells_are = let n : length parts.data_bytes + parts.zero - length parts.data_bytes ≡ parts.zero = omega arith in ap (λ k. parts.data_bytes ++ replicate k 0) n

  pub length-data_cells : length (data_cells parts) ≡ length parts.data_bytes + parts.zero
  length-data_cells = length-append parts.data_bytes (replicate parts.zero 0) ∙ (let r : length (replicate {A = ℕ} parts.zero 0) ≡ parts.zero = length-replicate parts.zero 0 in omega arith)

  length-cells : length cells ≡ length parts.data_bytes + parts.zero
  length-cells = ap length cells_are ∙ length-data_cells

  abbrev words : List ℕ
  words = text ++ blank (length text - length text) 0

  length-words : length words ≡ length text
  length-words = length-append text (blank {X = ℕ} (length text - length text) 0) ∙ (let b = length_blank {X = ℕ} (length text - length text) 0 in omega arith)

  -- ---- where it lies

  abbrev text_extent : Extent
  text_extent = record { kind = Text; at = parts.text_at; size = length words }

  abbrev data_extent : Extent
  data_extent = record { kind = Data; at = parts.data_at; size = length cells }

  abbrev stack_extent : Extent
  stack_extent = record { kind = Stack; at = memory.stack_low; size = length (blank {X = ℕ} stack_size 0) }

  stack_reaches : (a n : ℕ) → memory.stack_low ≤ a → a + n ≤ memory.stack_high → lies_in is_data (extents_of (loaded_core image).memory) a n ≡ true
  unfolding first_core
  stack_reaches a n low high =
      let size = length_blank {X = ℕ} stack_size 0 in
      or_right (spans data_extent a n) _
      (or_left (spans stack_extent a n) false
      (and_from (leb memory.stack_low a) (leb (a + n) (memory.stack_low + length (blank {X = ℕ} stack_size 0))) (le-leb memory.stack_low a low) (le-leb (a + n) (memory.stack_low + length (blank {X = ℕ} stack_size 0)) (omega arith))))

  data_reaches : (a n : ℕ) → memory.data_low ≤ a → a + n ≤ data_high p → lies_in is_data (extents_of (loaded_core image).memory) a n ≡ true
  unfolding first_core
  data_reaches a n low high =
      let size = length-cells in
      let known_size = out.size in
      let at = out.data_at in
      or_left (spans data_extent a n) _
      (and_from (leb parts.data_at a) (leb (a + n) (parts.data_at + length cells)) (le-leb parts.data_at a (omega (arith, low, at))) (le-leb (a + n) (parts.data_at + length cells) (omega (arith, high, size, known_size, at))))

  pub reaches : (a n : ℕ) → 0 < n → SpansMemory p a n → lies_in is_data (extents_of (loaded_core image).memory) a n ≡ true
  reaches a n some (inl d) = data_reaches a n d.0 d.1
  reaches a n some (inr d) = stack_reaches a n d.0 d.1

  -- all data lies within the map
  pub bounded : (a n : ℕ) → lies_in is_data (extents_of (loaded_core image).memory) a n ≡ true → (memory.text ≤ a) × (a + n ≤ memory.stack_high)
  unfolding first_core
  bounded a n h =
      let map = out.is_map in
      let size = length-cells in
      let room = out.room in
      let at = out.data_at in
      let stack = length_blank {X = ℕ} stack_size 0 in
      ⊎_elim
      (λ d. let b = bounds data_extent a n d in (omega (arith, b.0, at, map.code), omega (arith, b.1, size, room, at, map.below, map.stack)))
      (λ rest. ⊎_elim
      (λ k. let b = bounds stack_extent a n k in (omega (arith, b.0, map.code, map.below), omega (arith, b.1, stack, map.stack)))
      (λ (none : false ≡ true). absurd cc)
      (or_cases (spans stack_extent a n) false rest))
      (or_cases (spans data_extent a n) (spans stack_extent a n || false) h)
    where
      bounds : (x : Extent) (a n : ℕ) → spans x a n ≡ true → (x.at ≤ a) × (a + n ≤ x.at + x.size)
      bounds x a n is = let q = and_parts (leb x.at a) (leb (a + n) (x.at + x.size)) is in (leb-true x.at a q.0, leb-true (a + n) (x.at + x.size) q.1)

  -- an address of text lies below all data
  pub text_apart : (a : ℕ) → lies_in is_text (extents_of (loaded_core image).memory) a 1 ≡ true → lies_in is_data (extents_of (loaded_core image).memory) a 1 ≡ false
  unfolding first_core
  text_apart a h =
      let map = out.is_map in
      let size = length-words in
      let short = out.short in
      let at = out.text_at in
      let data_at = out.data_at in
      let high : a + 1 ≤ parts.text_at + length words = ⊎_elim (λ t. leb-true (a + 1) (parts.text_at + length words) (and_parts (leb parts.text_at a) (leb (a + 1) (parts.text_at + length words)) t).1) (λ f. absurd cc) (or_cases (spans (record { kind = Text; at = parts.text_at; size = length words }) a 1) false h) in
      let below : a < parts.data_at = omega (arith, high, size, short, at, data_at, map.code) in
      or_from (spans data_extent a 1) _ (spans_before data_extent a 1 below)
      (or_from (spans stack_extent a 1) false (spans_before stack_extent a 1 (omega (arith, below, data_at, map.below))) refl)

  -- an address of data lies in the segment of data
  pub data_lies : (a : ℕ) → memory.data_low ≤ a → a < data_high p → lies_in is_segment (extents_of (loaded_core image).memory) a 1 ≡ true
  unfolding first_core
  data_lies a low high =
      let size = length-cells in
      let known_size = out.size in
      let at = out.data_at in
      or_left (spans data_extent a 1) _
      (and_from (leb parts.data_at a) (leb (a + 1) (parts.data_at + length cells)) (le-leb parts.data_at a (omega (arith, low, at))) (le-leb (a + 1) (parts.data_at + length cells) (omega (arith, high, size, known_size, at))))

  -- no two regions have an address in common
  pub regions_apart : AreApart (extents_of (loaded_core image).memory)
  unfolding first_core
  regions_apart =
      let map = out.is_map in
      let text_size = length-words in
      let data_size = length-cells in
      let size = length_blank {X = ℕ} stack_size 0 in
      let short = out.short in
      let most = out.room in
      let at = out.text_at in
      let data_at = out.data_at in (
        omega (arith, text_size, short, at, map.code, map.room),
        All-cons (Apart text_extent) data_extent (stack_extent ∷ []) (omega (arith, text_size, short, at, data_at, map.code))
            (All-cons (Apart text_extent) stack_extent [] (omega (arith, text_size, short, at, map.code, map.below)) (All-nil (Apart text_extent))),
        (
          omega (arith, data_size, most, data_at, map.room),
          All-cons (Apart data_extent) stack_extent [] (omega (arith, data_size, most, data_at, map.below)) (All-nil (Apart data_extent)),
          (omega (arith, size, map.stack, map.top), All-nil (Apart stack_extent), tt),
        ),
      )

  -- ---- how it begins

  pub bytes : (a : ℕ) → byte_in (loaded_core image) a < 256
  unfolding first_core
  bytes a =
      let none : 0 < 256 = omega arith in
      either_below _ (bytes_append text (blank (length text - length text) 0) out.text_are (blank_below (length text - length text)) (a - parts.text_at))
      (either_below _ (bytes_append parts.data_bytes (blank (length parts.data_bytes + parts.zero - length parts.data_bytes) 0) out.data_are (blank_below (length parts.data_bytes + parts.zero - length parts.data_bytes)) (a - parts.data_at))
      (either_below _ (blank_below stack_size (a - memory.stack_low)) none))

  -- a byte of text is the file's
  abbrev text_part : SegmentData
  text_part = record { at = parts.text_at; size = length text; code = true; bytes = text }

  abbrev data_part : SegmentData
  data_part = record { at = parts.data_at; size = length parts.data_bytes + parts.zero; code = false; bytes = parts.data_bytes }

  pub text_byte : (a : ℕ) → p.map.text ≤ a → a < p.map.text + length text → byte_in (loaded_core image) a ≡ get_or text (a - p.map.text) 0
  unfolding first_core
  text_byte a low high =
      let at = out.text_at in
      code_byte text_part (data_part ∷ []) p.map refl a (omega (arith, low, at)) (omega (arith, high, at)) ∙ ap (λ n. get_or text (a - n) 0) at

  pub text_lies : (a n : ℕ) → p.map.text ≤ a → a + n ≤ p.map.text + length text → lies_in is_text (extents_of (loaded_core image).memory) a n ≡ true
  unfolding first_core
  text_lies a n low high = let at = out.text_at in code_lies text_part (data_part ∷ []) p.map refl a n (omega (arith, low, at)) (omega (arith, high, at))

  -- a byte of data of the loaded machine is the image's
  pub data_byte : (a : ℕ) → memory.data_low ≤ a → a < data_high p → byte_in (loaded_core image) a ≡ get_or (data_cells parts) (a - memory.data_low) 0
  unfolding first_core
  data_byte a low high =
      let map = out.is_map in
      let size = length-words in
      let short = out.short in
      let at = out.text_at in
      let data_at = out.data_at in
      let cells_size = length-cells in
      let known_size = out.size in
      let text_extent : Extent = record { kind = Text; at = parts.text_at; size = length words } in
      let after_text : spans text_extent a 1 ≡ false = after text_extent a (omega (arith, low, size, short, at, map.code)) in
      let inside : spans data_extent a 1 ≡ true =
      and_from (leb parts.data_at a) (leb (a + 1) (parts.data_at + length cells)) (le-leb parts.data_at a (omega (arith, low, data_at))) (le-leb (a + 1) (parts.data_at + length cells) (omega (arith, high, cells_size, known_size, data_at))) in
      cond-false (spans text_extent a 1) (get_or words (a - parts.text_at) 0) _ after_text
      ∙ cond-true (spans data_extent a 1) (get_or cells (a - parts.data_at) 0) _ inside
      ∙ (λ j. get_or (cells_are j) (a - data_at j) 0)
    where
      after : (e : Extent) (a : ℕ) → e.at + e.size ≤ a → spans e a 1 ≡ false
      after e a past = by (spans e a 1) refl
        where
          by : (b : Bool) → spans e a 1 ≡ b → b ≡ false
          by true h = let q = and_parts (leb e.at a) (leb (a + 1) (e.at + e.size)) h in absurd (omega (arith, past, leb-true (a + 1) (e.at + e.size) q.1))
          by false h = refl

  -- what holds of the program's bytes of data, at their addresses, and of what isn't defined, holds of its first memory
  pub first_cell : (P : SymByte → Type 0) (a : ℕ) → (memory.data_low ≤ a → a < data_high p → P (get_or p.bytes (a - memory.data_low) Undef)) → P Undef → P (cell_at Undef (start_memory p) a)
  first_cell P a here undefined = by_data (spans program_data a 1) refl
    where
      program_data : Extent
      program_data = record { kind = Data; at = memory.data_low; size = length p.bytes }

      rest : SymByte
      rest = cond (spans (record { kind = Stack; at = memory.stack_low; size = length (blank stack_size Undef) }) a 1) (get_or (blank stack_size Undef) (a - memory.stack_low) Undef) Undef

      by_stack : (b : Bool) → P (cond b (get_or (blank stack_size Undef) (a - memory.stack_low) Undef) Undef)
      by_stack true = subst P (sym (get_or_blank stack_size (a - memory.stack_low) Undef)) undefined
      by_stack false = undefined

      by_data : (b : Bool) → spans program_data a 1 ≡ b → P (cond b (get_or p.bytes (a - memory.data_low) Undef) rest)
      by_data true inside =
          let q = and_parts (leb memory.data_low a) (leb (a + 1) (memory.data_low + length p.bytes)) inside in
          let low = leb-true memory.data_low a q.0 in
          let high = leb-true (a + 1) (memory.data_low + length p.bytes) q.1 in
          here low (omega (arith, high))
      by_data false outside = by_stack (spans (record { kind = Stack; at = memory.stack_low; size = length (blank stack_size Undef) }) a 1)
