use Rattle.std.proofs.Common.{◌<◌, ◌∙◌, ap, arith, drop}
use Rattle.elf32_read.specs.Parts.{object_parts, symbol_parts}
use Rattle.elf32_read.specs.Symbols.{symbol_count, symbol_entry_of}
use Rattle.psabi_sym.proofs.PartLaws.{symbol_count_is, symbol_got}
use Rattle.object_passes.specs.Rooms.{name_size, symbols_room}
use Rattle.object_passes.proofs.RoomLaws.{names-end, names-next}
use Rattle.object_passes.proofs.sizes.symbol_names_size.Goals as goal

pub returns-then-size-gt-MOST_FILE_BYTES : goal.returns-then-size-gt-MOST_FILE_BYTES
returns-then-size-gt-MOST_FILE_BYTES c =
    let file = c.args.object.now in
    let i = c.loop-i.i in
    let symbols = (object_parts file).symbols in
    let within : i < symbol_count file = omega (arith, c.symbol_count-i-end.ensures, c.loop-i-test.true) in
    let s = symbol_parts file (symbol_entry_of file i) in
    let next = names-next symbols i s c.loop-i.size c.name_size-size.result (symbols_room (drop 1 symbols)) (symbol_got file i within) (c.name_size-size.ensures.value ∙ ap name_size c.symbol.ensures.name) c.loop-i.invariant.sum in
    omega (arith, next, c.if-size-gt-MOST_FILE_BYTES.true)

pub loop-i-preserved : goal.loop-i-preserved
loop-i-preserved c =
    let file = c.args.object.now in
    let i = c.loop-i.i in
    let symbols = (object_parts file).symbols in
    let within : i < symbol_count file = omega (arith, c.symbol_count-i-end.ensures, c.loop-i-test.true) in
    let s = symbol_parts file (symbol_entry_of file i) in
    record {
      sum = names-next symbols i s c.loop-i.size c.name_size-size.result (symbols_room (drop 1 symbols)) (symbol_got file i within) (c.name_size-size.ensures.value ∙ ap name_size c.symbol.ensures.name) c.loop-i.invariant.sum;
      most = c.if-size-gt-MOST_FILE_BYTES.false;
    }

pub returns : goal.returns
returns c =
    let file = c.args.object.now in
    let symbols = (object_parts file).symbols in
    (names-end symbols c.loop-i.i c.loop-i.size (symbols_room (drop 1 symbols)) (omega (arith, c.loop-i-test.false, c.symbol_count-i-end.ensures, symbol_count_is file)) c.loop-i.invariant.sum, c.loop-i.invariant.most)
