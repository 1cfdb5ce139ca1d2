-- The first state's memory.
use Rattle.std.proofs.Common.{◌≡◌, ℕ, ◌+◌, ◌-◌, ◌<◌, ◌≤◌, List, [], ◌∷◌, length, Bool, true, false, cond, refl, ap, ◌∙◌, arith, leb, ⊎_elim, get_or, length-append}
use Rattle.std.specs.Prelude.{◌&&◌}
use Rattle.std.proofs.lemmas.Bool.{and_parts, and_from, leb-true, le-leb, or_cases, or_left, cond-true}
use Rattle.std.proofs.lemmas.List.{get_or_append_left}
use Rattle.zc_base.specs.declared.mem_map.MemMap.{MemMap}
use Rattle.elf32_read.specs.Segments.{SegmentData}
use Rattle.rv_decode.specs.Memory.{Stack, Text, Data, blank, cell_at, extent_of, extents_of, is_stack, is_text, lies_in, spans}
use Rattle.rv_decode.proofs.MemoryLaws.{length_blank}
use Rattle.zc_machine.specs.Load.{first_memory, region_of}

-- no segment is the stack
segment_no_stack : (s : SegmentData) (a n : ℕ) → (is_stack (region_of s).kind && spans (extent_of (region_of s)) a n) ≡ false
segment_no_stack s a n = either s.code
  where
    either : (b : Bool) → (is_stack (cond b Text Data) && spans (extent_of (region_of s)) a n) ≡ false
    either true = refl
    either false = refl

-- what lies in the stack's region lies between the map's bounds
pub stack_bounds : (segments : List SegmentData) (m : MemMap) (a n : ℕ) → 0 < n → lies_in is_stack (extents_of (first_memory segments m)) a n ≡ true → (m.stack_low ≤ a) × (a + n ≤ m.stack_high)
stack_bounds [] m a n some h = ⊎_elim
    (λ here.
    let q = and_parts (leb m.stack_low a) (leb (a + n) (m.stack_low + length (blank (m.stack_high - m.stack_low) 0))) here in
    let low = leb-true m.stack_low a q.0 in
    let high = leb-true (a + n) (m.stack_low + length (blank (m.stack_high - m.stack_low) 0)) q.1 in
    let size = length_blank {X = ℕ} (m.stack_high - m.stack_low) 0 in
    (low, omega arith))
    (λ none. absurd cc)
    (or_cases (spans (record { kind = Stack; at = m.stack_low; size = length (blank (m.stack_high - m.stack_low) 0) }) a n) false h)
stack_bounds (s ∷ ss) m a n some h = ⊎_elim
    (λ here. absurd (let no = segment_no_stack s a n in cc))
    (λ rest. stack_bounds ss m a n some rest)
    (or_cases (is_stack (region_of s).kind && spans (extent_of (region_of s)) a n) (lies_in is_stack (extents_of (first_memory ss m)) a n) h)

-- ---- a segment of code that stands first

module _ (s : SegmentData) (ss : List SegmentData) (m : MemMap) (is_code : s.code ≡ true) where
  length_region : s.at + length s.bytes ≤ s.at + length (region_of s).cells
  length_region = omega (arith, length-append s.bytes (blank (s.size - length s.bytes) 0))

  first_spans : (a n : ℕ) → s.at ≤ a → a + n ≤ s.at + length s.bytes → spans (extent_of (region_of s)) a n ≡ true
  first_spans a n low high = and_from (leb s.at a) (leb (a + n) (s.at + length (region_of s).cells)) (le-leb s.at a low) (le-leb (a + n) (s.at + length (region_of s).cells) (omega (arith, length_region)))

  -- the bytes of a segment of code are text
  pub code_lies : (a n : ℕ) → s.at ≤ a → a + n ≤ s.at + length s.bytes → lies_in is_text (extents_of (first_memory (s ∷ ss) m)) a n ≡ true
  code_lies a n low high =
      or_left (is_text (cond s.code Text Data) && spans (extent_of (region_of s)) a n) (lies_in is_text (extents_of (first_memory ss m)) a n)
      (and_from (is_text (cond s.code Text Data)) (spans (extent_of (region_of s)) a n) (ap (λ b. is_text (cond b Text Data)) is_code) (first_spans a n low high))

  -- the bytes of a segment of code are those of the file
  pub code_byte : (a : ℕ) → s.at ≤ a → a < s.at + length s.bytes → cell_at 0 (first_memory (s ∷ ss) m) a ≡ get_or s.bytes (a - s.at) 0
  code_byte a low high =
      let inside : a - s.at < length s.bytes = omega arith in
      cond-true (spans (extent_of (region_of s)) a 1) _ _ (first_spans a 1 low (omega arith))
      ∙ get_or_append_left s.bytes (blank (s.size - length s.bytes) 0) 0 (a - s.at) inside
