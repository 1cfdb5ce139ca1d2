-- Which instruction an item is at an address in a layout (RISC-V ELF psABI, "Relocations").
use Rattle.std.specs.Prelude.{ℕ, Option, Some, None}
use Rattle.std.specs.Option.{option_map, option_and_then}
use Rattle.zc_base.specs.declared.place.Place.{Place}
use Rattle.psabi_reloc.specs.Parts.{hi20_of, lo12_of}
use Rattle.psabi_reloc.specs.Patched.{with_imm, with_upper}
use Rattle.rv_decode.specs.declared.instr.Instr.{Instr}
use Rattle.rv_decode.specs.declared.instr.Instr.TheVariants as instr
use Rattle.rv_decode.specs.Bits.{as_signed}
use Rattle.block_cut.specs.declared.item.Item.{Item}
use Rattle.block_cut.specs.declared.item.Item.TheVariants.{Op, Hi, Lo, PcHi, PcLo, Branch, Jump, Call, Align, Word, Raw, RawShort, RawPair}
use Rattle.sym_machine.specs.AddressParts.{pc_target}
use Rattle.zc_link.specs.Values.{target_value, way}

-- the distance from the `auipc` at a place to what its relocation resolves to, if A gives the addresses of places
abbrev pub way_on : (Place → Option ℕ) → (Place → Option Item) → Place → Option ℕ
way_on A items from = option_and_then (λ a. option_map (way a) (option_and_then (target_value A) (pc_target (items from)))) (A from)

-- the one instruction that an item is at an address; for a call this is one jump. None for padding, for an address, for what is
-- copied unread, and for what leads nowhere
abbrev pub meant : (Place → Option ℕ) → (Place → Option Item) → ℕ → Item → Option Instr
meant A items a (Op i) = Some i
meant A items a (Hi i t) = option_map (λ x. with_upper i (hi20_of x)) (target_value A t)
meant A items a (Lo i t) = option_map (λ x. with_imm i (lo12_of x)) (target_value A t)
meant A items a (PcHi i t) = option_map (λ x. with_upper i (hi20_of (way a x))) (target_value A t)
meant A items a (PcLo i from) = option_map (λ w. with_imm i (lo12_of w)) (way_on A items from)
meant A items a (Branch op first second to) = option_map (λ b. instr.Branch op first second (as_signed (way a b))) (A to)
meant A items a (Jump rd to) = option_map (λ b. instr.Jal rd (as_signed (way a b))) (A to)
meant A items a (Call rd temp to) = option_map (λ b. instr.Jal rd (as_signed (way a b))) (A to)
meant A items a (Align n) = None
meant A items a (Word t) = None
meant A items a (Raw word) = None
meant A items a (RawShort half) = None
meant A items a (RawPair first second) = None
