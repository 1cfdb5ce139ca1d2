-- What the machine keeps of a state, and the state that this stands for.
use Rattle.std.specs.Prelude.{◌≡◌, ℕ, ◌+◌, ◌-◌, ◌^◌, ◌<◌, ◌≤◌, List, [], ◌∷◌, length, map, slice_index_or}
use Rattle.zc_base.specs.declared.mem_map.MemMap.{MemMap}
use Rattle.rv_decode.specs.Memory.{Region, Data, Stack, cell_at, changed, extents_of}
use Rattle.sym_machine.specs.declared.held.Held.{Held}
use Rattle.sym_machine.specs.declared.held.Held.TheVariants as held
use Rattle.sym_machine.specs.declared.span.Span.{Span}
use Rattle.sym_machine.specs.declared.span.Span.TheVariants as span
use Rattle.sym_machine.specs.declared.word.SymByte.{SymByte}
use Rattle.sym_machine.specs.declared.word.SymByte.TheVariants.{Undef}
use Rattle.sym_machine.specs.declared.word.SymWord.{SymWord}
use Rattle.sym_machine.specs.Program.{Program, start_memory}
use Rattle.sym_machine.specs.State.{IsRegisters, PlainCore}
use Rattle.sym_machine.specs.Step.{mark_for, undefined_below}
use Rattle.sym_machine.specs.Words.{code_word, number_of, number_word, undef_word}

-- ---- words

-- the word that a register holds
abbrev pub word_of : Held → SymWord
word_of (held.Number n) = number_word n
word_of (held.Code q) = code_word q
word_of (held.Bytes w) = w

-- the words of registers
abbrev pub register_words : List Held → List SymWord
register_words registers = map word_of registers

-- ---- memory

-- the map, the bytes of data and of the stack, and the address from which on those of the stack are kept
pub record Kept : Type 0 where
  pub map : MemMap
  pub bytes : List SymByte
  pub stack : List SymByte
  pub from : ℕ

-- memory as the program sees it: the regions of data and of the stack, whose bytes these are
abbrev pub regions_of : Kept → List (Region SymByte)
regions_of k =
    record { kind = Data; at = k.map.data_low; cells = k.bytes }
    ∷ record { kind = Stack; at = k.map.stack_low; cells = k.stack }
    ∷ []

-- the lowest address whose byte is kept
abbrev pub kept_from : Kept → ℕ
kept_from k = k.from

-- the stack isn't empty, ends below 2^32, and is as long as the map says. What is kept of it begins in it or at its end, and its
-- bytes below are undefined. Data lie below it, and at 112 or above, where no frame ends that goes on at address 0: the largest
-- frame has 112 bytes, 64 for ra and s0 to s11 and 48 more (Zcmp, cm.push)
pub record IsKept (k : Kept) : Type 0 where
  pub some : k.map.stack_low < k.map.stack_high
  pub top : k.map.stack_high < 2 ^ 32
  pub clear : 112 ≤ k.map.data_low
  pub size : length k.stack ≡ k.map.stack_high - k.map.stack_low
  pub low : k.map.stack_low ≤ k.from
  pub high : k.from ≤ k.map.stack_high
  pub apart : k.map.data_low + length k.bytes ≤ k.map.stack_low
  pub below : (i : ℕ) → k.map.stack_low + i < k.from → slice_index_or k.stack i Undef ≡ Undef

-- a change of each byte, after which the stack below what is kept is undefined, as it was
abbrev pub above_only : Kept → (ℕ → SymByte → SymByte) → ℕ → SymByte → SymByte
above_only k f a old = undefined_below k.map (kept_from k) a (f a old)

-- memory with this change, of which as much is kept as before
pub record IsChanged (f : ℕ → SymByte → SymByte) (old new : Kept) : Type 0 where
  pub kept : IsKept new
  pub map : new.map ≡ old.map
  pub from : kept_from new ≡ kept_from old
  pub regions : regions_of new ≡ changed (above_only old f) (regions_of old)

-- where n bytes from an address on are kept
abbrev pub IsSpan : Kept → ℕ → ℕ → Span → Type 0
IsSpan k a n (span.Data i) = (a ≡ k.map.data_low + i) × (i + n ≤ length k.bytes)
IsSpan k a n (span.Stack i) = (a ≡ k.map.stack_low + i) × (i + n ≤ length k.stack) × (k.from ≤ a)
IsSpan k a n span.Below = (k.map.stack_low ≤ a) × (a + n ≤ k.from)
IsSpan k a n span.Elsewhere = k ≡ k

-- the word of the four bytes from an address on
abbrev pub sym_word_at : List (Region SymByte) → ℕ → SymWord
sym_word_at memory a =
    record { b0 = cell_at Undef memory a; b1 = cell_at Undef memory (a + 1); b2 = cell_at Undef memory (a + 2); b3 = cell_at Undef memory (a + 3) }

-- ---- states

-- a state, with the map by which its memory lies
pub record Working : Type 0 where
  pub core : PlainCore
  pub map : MemMap

-- registers, and memory that is kept from sp up, or from the stack's end up where sp isn't set
pub record IsWorking (registers : List SymWord) (memory : Kept) : Type 0 where
  pub registers_are : IsRegisters registers
  pub mark : kept_from memory ≡ mark_for memory.map (number_of (slice_index_or registers 2 undef_word))
  pub kept : IsKept memory

-- a state of this program: its memory lies where the program's does
abbrev pub IsOf : Program → PlainCore → Type 0
IsOf p s = extents_of s.memory ≡ extents_of (start_memory p)
