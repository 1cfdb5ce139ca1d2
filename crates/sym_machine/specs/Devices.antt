-- What a device answers: loads and stores that the machine itself is stuck at, since they reach no memory, and instructions of the
-- system.
use Rattle.std.specs.Prelude.{ℕ, ◌%◌, ◌==◌, ◌&&◌, min, if◌then◌else◌, List, [], ◌∷◌, length, take, Option, Some, None}
use Rattle.std.specs.Option.{option_and_then, option_map, option_map_or, option_or}
use Rattle.zc_base.specs.declared.place.Place.{Place}
use Rattle.rv_decode.specs.declared.instr.Instr.{Instr}
use Rattle.rv_decode.specs.declared.instr.Instr.TheVariants as instr
use Rattle.rv_decode.specs.declared.instr.LoadOp.{LoadOp}
use Rattle.rv_decode.specs.declared.instr.StoreOp.{StoreOp}
use Rattle.rv_decode.specs.declared.instr.StoreOp.TheVariants.{Sw}
use Rattle.rv_decode.specs.Devices.{Device, has_registers, in_devices, number_from, widened}
use Rattle.rv_decode.specs.Effect.{load_width, store_width}
use Rattle.rv_decode.specs.Formats.{rd_of, rs1_of}
use Rattle.rv_decode.specs.State.{Load, Store, System}
use Rattle.rv_decode.specs.System.{is_system, system_width, takes_register}
use Rattle.block_cut.specs.declared.item.Item.{Item}
use Rattle.block_cut.specs.declared.item.Item.TheVariants.{Op, Lo, PcLo, Raw}
use Rattle.sym_machine.specs.declared.known.Known.{Known}
use Rattle.sym_machine.specs.declared.known.Known.TheVariants.{Number, Code, Unknown}
use Rattle.sym_machine.specs.declared.word.SymByte.{SymByte}
use Rattle.sym_machine.specs.declared.word.SymWord.{SymWord}
use Rattle.sym_machine.specs.declared.why.Why.TheVariants.{ArgumentUnknown}
use Rattle.sym_machine.specs.AddressParts.{low_sum, pc_low_sum, pc_target}
use Rattle.sym_machine.specs.Change.{Change, Does, Goes, Stops, base_register, continues, sets, stored_bytes, then_number}
use Rattle.sym_machine.specs.Conditions.{known_of}
use Rattle.sym_machine.specs.Events.{SymEvent, Numeric, StoresCode, HandsCode}
use Rattle.sym_machine.specs.Program.{Program}
use Rattle.sym_machine.specs.State.{PlainCore, reg_of}
use Rattle.sym_machine.specs.Words.{code_of, number_of, number_word, sum_word}

-- where an access of n bytes reaches a device: its address is a number, a multiple of n, and in one of them; one by sp reaches
-- memory alone
abbrev pub device_address : List Device → ℕ → ℕ → Option ℕ → Option ℕ
device_address devices base n None = None
device_address devices base n (Some a) =
    if base == 2 then None else (if a % n == 0 then (if in_devices devices a n then Some a else None) else None)

-- an answer of `width` bytes, or of all that are left, is taken from the front of the input, with the event that it makes; the value
-- of their number goes to a register
abbrev pub answered_with : ℕ → (List ℕ → SymEvent) → ℕ → (ℕ → ℕ) → PlainCore → Place → Change
answered_with width event rd value s next =
    let count = min width (length s.input) in
    let bytes = take count s.input in
    record (sets rd (number_word (value (number_from bytes))) next) { taken = count; events = event bytes ∷ [] }

-- a load
abbrev pub device_load : LoadOp → ℕ → PlainCore → Place → ℕ → Change
device_load op rd s next a =
    answered_with (load_width op) (λ bytes. Numeric (Load a (load_width op) bytes)) rd (widened op) s next

-- the numbers that bytes are, if all are numbers
abbrev pub byte_numbers : List SymByte → Option (List ℕ)
byte_numbers [] = Some []
byte_numbers (b ∷ bytes) = then_number b (byte_numbers bytes)

-- the place whose address a store sends, if it sends a whole word
abbrev pub stored_code : StoreOp → SymWord → Option Place
stored_code Sw w = code_of w
stored_code op w = None

-- the event of a store of a word: its bytes, if they are numbers, or the address of a place
abbrev pub store_event : StoreOp → SymWord → ℕ → Option SymEvent
store_event op w a =
    option_or (option_map (λ numbers. Numeric (Store a numbers)) (byte_numbers (stored_bytes op w)))
    (option_map (StoresCode a) (stored_code op w))

-- a store changes nothing else
abbrev pub device_store : StoreOp → SymWord → Place → ℕ → Option Change
device_store op w next a = option_map (λ e. record (continues next) { events = e ∷ [] }) (store_event op w a)

-- a load or store, by the word of the sum of its base and its immediate
abbrev pub device_by_sum : List Device → Instr → SymWord → PlainCore → Place → Option Change
device_by_sum devices (instr.Load op rd base imm) w s next =
    option_map (device_load op rd s next) (device_address devices base (load_width op) (number_of w))
device_by_sum devices (instr.Store op source base imm) w s next =
    option_and_then (device_store op (reg_of s source) next) (device_address devices base (store_width op) (number_of w))
device_by_sum devices i w s next = None

-- an instruction of the system, with the event that it is by the bytes that it gets
abbrev pub system_answered : ℕ → (List ℕ → SymEvent) → PlainCore → Place → Change
system_answered word event s next = answered_with (system_width word) event (rd_of word) (λ n. n) s next

-- by what its register is known to hold: a number, or the address of a place
abbrev pub system_by_register : ℕ → Known → PlainCore → Place → Does
system_by_register word (Number n) s next = Goes (system_answered word (λ bytes. Numeric (System word n bytes)) s next)
system_by_register word (Code q) s next = Goes (system_answered word (HandsCode word q) s next)
system_by_register word Unknown s next = Stops ArgumentUnknown

-- by its operand, which may be five bits of the word
abbrev pub system_does : ℕ → PlainCore → Place → Does
system_does word s next =
    if takes_register word then system_by_register word (known_of (reg_of s (rs1_of word))) s next
    else system_by_register word (Number (rs1_of word)) s next

-- what stands at a place, if a device has to do with it
abbrev pub device_does : List Device → Program → Option Item → PlainCore → Place → Option Does
device_does devices p (Some (Op (instr.Load op rd base imm))) s next =
    option_map Goes (device_by_sum devices (instr.Load op rd base imm) (sum_word (reg_of s base) imm) s next)
device_does devices p (Some (Op (instr.Store op source base imm))) s next =
    option_map Goes (device_by_sum devices (instr.Store op source base imm) (sum_word (reg_of s base) imm) s next)
device_does devices p (Some (Lo i t)) s next = option_map Goes (device_by_sum devices i (low_sum t (reg_of s (base_register i))) s next)
device_does devices p (Some (PcLo i q)) s next =
    option_map Goes (device_by_sum devices i (pc_low_sum q (pc_target (p.item q)) (reg_of s (base_register i))) s next)
device_does devices p (Some (Raw word)) s next =
    if has_registers devices && is_system word then Some (system_does word s next) else None
device_does devices p other s next = None

-- what it does with these devices: where the machine itself goes on, it does what it does there
abbrev pub does_with : List Device → Program → Option Item → PlainCore → Place → Does → Does
does_with [] p o s next does = does
does_with (d ∷ ds) p o s next (Goes c) = Goes c
does_with (d ∷ ds) p o s next (Stops why) = option_map_or (λ does. does) (device_does (d ∷ ds) p o s next) (Stops why)
