-- What the symbolic machine's values are in an image in which A gives the addresses of places
-- (RISC-V ELF psABI, "Relocations").
use Rattle.std.specs.Prelude.{ℕ, ◌+◌, ◌-◌, ◌*◌, ◌%◌, ◌^◌, Option, Some, None}
use Rattle.std.specs.Option.{option_map, option_and_then}
use Rattle.zc_base.specs.declared.place.Place.{Place}
use Rattle.psabi_sym.specs.declared.target.Target.{Target}
use Rattle.psabi_sym.specs.declared.target.Target.TheVariants as target
use Rattle.psabi_reloc.specs.Parts.{hi20_of}
use Rattle.sym_machine.specs.declared.word.Value.{Value}
use Rattle.sym_machine.specs.declared.word.Value.TheVariants.{Code, AbsHi, PcHi}
use Rattle.sym_machine.specs.AddressParts.{pc_target}
use Rattle.sym_machine.specs.Program.{Program}

-- the address of a symbol's target
abbrev pub target_value : (Place → Option ℕ) → Target → Option ℕ
target_value A (target.Code q) = A q
target_value A (target.Number n) = Some n
target_value A (target.Absent n) = Some n
target_value A target.Nowhere = None

-- the distance from an address to another, modulo 2^32
abbrev pub way : ℕ → ℕ → ℕ
way a t = (t + (2 ^ 32 - a)) % 2 ^ 32

-- the number that a value is: a place's address, the upper part of one, or what an `auipc` at a place gives for where it leads:
-- its own address plus the upper part of the distance, modulo 2^32
abbrev pub value_in : Program → (Place → Option ℕ) → Value → Option ℕ
value_in p A (Code q) = A q
value_in p A (AbsHi q) = option_map (λ x. hi20_of x * 2 ^ 12) (A q)
value_in p A (PcHi q) =
    let to = option_and_then (target_value A) (pc_target (p.item q)) in
    option_and_then (λ a. option_map (λ t. (a + hi20_of (way a t) * 2 ^ 12) % 2 ^ 32) to) (A q)
