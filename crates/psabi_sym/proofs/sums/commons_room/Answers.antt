use Rattle.std.proofs.Common.{◌≡◌, ◌≤◌, ◌<◌, ◌+◌, ◌-◌, ℕ, List, None, Some, suc, drop, take, slice_get, ap, ◌∙◌, arith}
use Rattle.std.specs.List.{sum_by}
use Rattle.std.proofs.lemmas.List.{length-drop, take_all}
use Rattle.elf32_read.specs.Object.{object_fault}
use Rattle.elf32_read.specs.Parts.{object_parts, symbol_parts}
use Rattle.elf32_read.specs.Symbols.{symbol_count, symbol_entry_of}
use Rattle.elf32_read.proofs.Faultless.{few_symbols}
use Rattle.psabi_sym.specs.Faults.{common_room}
use Rattle.psabi_sym.proofs.PartLaws.{symbol_count_is, symbol_got}
use Rattle.psabi_sym.proofs.SumLaws.{slice_get-drop_one, sum_next}
use Rattle.psabi_sym.proofs.sums.commons_room.Goals as goal

-- an object of at most 4 MiB has few symbols
few : (file : List ℕ) → object_fault file ≡ None → symbol_count file ≤ 0x4_0000
few file none = omega (arith, few_symbols file none)

pub overflow_add-room : goal.overflow_add-room
overflow_add-room c =
    omega (arith, few c.args.loaded.now c.object-object.ensures.faultless, ap symbol_count c.object-object.ensures.object, c.symbol_count-i-end.ensures, c.loop-i.invariant.most, c.common_room-room.ensures.most)

pub loop-i-preserved : goal.loop-i-preserved
loop-i-preserved c =
    let file = c.args.loaded.now in
    let i = c.loop-i.i in
    let read = c.object-object.result in
    let same : read ≡ file = c.object-object.ensures.object in
    let within : i < symbol_count file = omega (arith, ap symbol_count same, c.symbol_count-i-end.ensures) in
    let parts = symbol_parts file (symbol_entry_of file i) in
    let back : suc (i - 1) ≡ i = omega arith in
    let at : slice_get (drop 1 (object_parts file).symbols) (i - 1) ≡ Some parts =
    slice_get-drop_one (object_parts file).symbols (i - 1) ∙ ap (slice_get (object_parts file).symbols) back ∙ symbol_got file i within in
    let room : c.common_room-room.result ≡ common_room parts =
    c.common_room-room.ensures.value read ∙ ap (λ e. common_room (symbol_parts read e)) c.symbol_entry.ensures ∙ ap (λ f. common_room (symbol_parts f (symbol_entry_of f i))) same in
    let next : i - 1 + 1 ≡ i + 1 - 1 = omega arith in
    record {
      room = omega (arith, sum_next common_room (drop 1 (object_parts file).symbols) (i - 1) parts at, c.loop-i.invariant.room, room, ap (λ n. sum_by common_room (take n (drop 1 (object_parts file).symbols))) next);
      most = omega (arith, c.loop-i.invariant.most, c.common_room-room.ensures.most);
      within = omega arith;
    }

pub returns-clause-value : goal.returns-clause-value
returns-clause-value c =
    let file = c.args.loaded.now in
    let all = drop 1 (object_parts file).symbols in
    c.loop-i.invariant.room
    ∙ ap (sum_by common_room) (take_all (c.loop-i.i - 1) all (omega (arith, length-drop 1 (object_parts file).symbols, symbol_count_is file, ap symbol_count c.object-object.ensures.object, c.symbol_count-i-end.ensures)))

pub returns-clause-most : goal.returns-clause-most
returns-clause-most c =
    omega (arith, few c.args.loaded.now c.object-object.ensures.faultless, ap symbol_count c.object-object.ensures.object, c.symbol_count-i-end.ensures, c.loop-i.invariant.most, c.loop-i.invariant.within)
