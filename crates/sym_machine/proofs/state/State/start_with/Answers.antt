-- Memory lies where the program's does, and is kept from the stack's end, whether sp is set or not.
use Rattle.std.proofs.Common.{◌≡◌, ℕ, ◌-◌, ◌^◌, ◌<◌, ◌≤◌, ◌∷◌, [], List, None, Bool, true, false, cond, refl, ap, ◌∙◌, arith}
use Rattle.std.specs.Prelude.{◌&&◌}
use Rattle.std.proofs.lemmas.Bool.{le-leb}
use Rattle.zc_base.specs.declared.mem_map.MemMap.{MemMap}
use Rattle.zc_base.specs.MemMap.{data_limit}
use Rattle.psabi_sym.specs.Inputs.{Inputs, parsed}
use Rattle.rv_decode.specs.Memory.{Data, Stack, blank}
use Rattle.rv_decode.specs.State.{start_regs}
use Rattle.sym_machine.specs.declared.word.SymByte.TheVariants.{Undef}
use Rattle.sym_machine.specs.declared.word.SymWord.{SymWord}
use Rattle.sym_machine.specs.Kept.{regions_of}
use Rattle.sym_machine.specs.Objects.{data_bytes, program_of}
use Rattle.sym_machine.specs.Program.{Program, start_memory}
use Rattle.sym_machine.specs.State.{start_plain}
use Rattle.sym_machine.specs.Step.{mark_for}
use Rattle.sym_machine.specs.Words.{number_of, number_word, undef_word}
use Rattle.sym_machine.proofs.WordLaws.{number_back}
use Rattle.sym_machine.proofs.state.State.start_with.Goals as goal

-- sp at the start
abbrev first_sp : Bool → ℕ → SymWord
first_sp sp_set end = cond sp_set (number_word end) undef_word

abbrev first_words : Bool → ℕ → List SymWord
first_words sp_set end = start_regs (number_word 0) (first_sp sp_set end) undef_word

-- the stack is kept from its end
first_mark : (sp_set : Bool) (map : MemMap) → map.stack_low ≤ map.stack_high → map.stack_high < 2 ^ 32 → mark_for map (number_of (first_sp sp_set map.stack_high)) ≡ map.stack_high
first_mark false map ordered top = refl
first_mark true map ordered top =
    ap (mark_for map) (number_back map.stack_high top)
    ∙ (λ j. cond (le-leb map.stack_low map.stack_high ordered j && le-leb map.stack_high map.stack_high (omega arith) j) map.stack_high map.stack_high)

first_is : (sp_set : Bool) (p : Program) (input : List ℕ)
    → record { place = p.entry; regs = first_words sp_set p.map.stack_high; memory = start_memory p; input = input; exit = None } ≡ start_plain sp_set p input
first_is true p input = refl
first_is false p input = refl

pub returns : goal.returns
unfolding program_of
returns c =
    let inputs = c.args.cut.now in
    let same : c.objects.result.now ≡ inputs = c.objects.ensures.same in
    let map : c.map-map.result ≡ inputs.map = c.map-map.ensures.value ∙ ap (λ (i : Inputs). i.map) same in
    let bytes : c.in_ok-data.data ≡ data_bytes (parsed inputs) = c.in_ok-data.ensures.bytes in
    let memory : regions_of c.in_ok-memory.memory ≡ start_memory (program_of (parsed inputs)) =
    ap regions_of c.in_ok-memory.ensures
    ∙ (λ j. record { kind = Data; at = (map j).data_low; cells = bytes j } ∷ record { kind = Stack; at = (map j).stack_low; cells = blank ((map j).stack_high - (map j).stack_low) Undef } ∷ []) in
    let regs = c.first_registers.ensures ∙ ap (λ (m : MemMap). first_words c.args.sp_set m.stack_high) map in
    (λ j. record { place = c.entry.ensures j; regs = regs j; memory = memory j; input = c.args.answers; exit = None })
    ∙ first_is c.args.sp_set (program_of (parsed inputs)) c.args.answers

pub new-requires-clause-apart : goal.new-requires-clause-apart
new-requires-clause-apart c =
    let map : c.map-map.result ≡ c.args.cut.now.map = c.map-map.ensures.value ∙ ap (λ (i : Inputs). i.map) c.objects.ensures.same in
    omega (arith, c.map-map.ensures.is_map.below, c.in_ok-data.ensures.most, ap data_limit map)

pub new-requires-clause-clear : goal.new-requires-clause-clear
new-requires-clause-clear c = omega (arith, c.map-map.ensures.is_map.above, c.map-map.ensures.is_map.code)
