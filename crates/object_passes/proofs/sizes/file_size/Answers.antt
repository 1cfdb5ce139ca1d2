use Rattle.std.proofs.Common.{◌∙◌, ◌+◌, ◌*◌, ap, arith, sym, subst, inl, inr, max}
use Rattle.psabi_sym.proofs.Gathered.{readable}
use Rattle.psabi_sym.proofs.PartLaws.{symbol_count_is}
use Rattle.object_passes.specs.Rooms.{IsSmallSize}
use Rattle.object_passes.proofs.RoomLaws.{found-large, found-small, names-large, sections-large, size-found}
use Rattle.object_passes.proofs.sizes.file_size.Goals as goal
use Rattle.object_passes.proofs.sizes.file_size.Goals.{then-sections-gt-MOST_SECTIONS-via-then-sections-gt-MOST_SECTIONS, then-sections-gt-MOST_SECTIONS-via-else-sections-gt-MOST_SECTIONS+then-size-gt-MOST_FILE_BYTES}

pub returns-in_err-room-clause-size : goal.returns-in_err-room-clause-size
returns-in_err-room-clause-size c pass parts left at =
    subst (IsSmallSize parts) (sym c.from_residual.ensures) (sections-large pass c.args.objects.now.files c.args.object parts at (λ file there. c.in_err-room.ensures.room pass file left there))

pub returns-in_err-names-clause-size : goal.returns-in_err-names-clause-size
returns-in_err-names-clause-size c pass parts left at =
    let fine = readable c.args.objects.now c.args.object c.object-read.result c.recall_invariant.ensures.faultless c.object-read.ensures in
    subst (IsSmallSize parts) (sym c.from_residual-in_err-names.ensures)
    (names-large pass c.args.objects.now.files c.args.object parts at c.object-read.result c.object-read.ensures fine c.in_err-names.ensures)

pub overflow_add-sections : goal.overflow_add-sections
overflow_add-sections c = omega (arith, c.in_ok-room.ensures.few)

pub overflow_mul-size-2 : goal.overflow_mul-size-2
overflow_mul-size-2 c = omega (arith, c.in_ok-room.ensures.few)

pub overflow_add-size-5 : goal.overflow_add-size-5
overflow_add-size-5 c =
    omega (arith, c.in_ok-room.ensures.most, c.in_ok-room.ensures.few, c.in_ok-names.ensures.1, c.padded_length.ensures, c.padded_length-2.ensures, c.from-symbols.ensures, c.max.ensures, c.symbol_count.type_inv)

pub returns-then-sections-gt-MOST_SECTIONS-clause-size : goal.returns-then-sections-gt-MOST_SECTIONS-clause-size
returns-then-sections-gt-MOST_SECTIONS-clause-size c pass parts left at =
    let files = c.args.objects.now.files in
    let file = c.object-read.result in
    let fine = readable c.args.objects.now c.args.object file c.recall_invariant.ensures.faultless c.object-read.ensures in
    let room = c.in_ok-room.room in
    let room_is = (c.in_ok-room.ensures.room pass file left c.object-read.ensures).0 in
    let symbols_is = c.from-symbols.ensures ∙ c.max.ensures ∙ ap (λ n. max n 1) (c.symbol_count.ensures ∙ sym (symbol_count_is file)) in
    let found = size-found pass files c.args.object parts at file c.object-read.ensures fine room c.in_ok-names.names c.from-symbols.result room_is c.in_ok-names.ensures.0 symbols_is in
    let size = (λ i. 52 + room.content + 16 * c.from-symbols.result + c.padded_length.ensures i + c.padded_length-2.ensures i + 40 * (4 + room.headers)) ∙ found in
    let large = found-large pass files c.args.object parts at file c.object-read.ensures fine room c.in_ok-names.names c.from-symbols.result room_is c.in_ok-names.ensures.0 symbols_is
    (52 + room.content + 16 * c.from-symbols.result + c.padded_length.result + c.padded_length-2.result + 40 * (4 + room.headers)) size in
    elim c.then-sections-gt-MOST_SECTIONS.branch [
      | then-sections-gt-MOST_SECTIONS-via-then-sections-gt-MOST_SECTIONS w ↦ large (inl w.if-sections-gt-MOST_SECTIONS.true)
      | then-sections-gt-MOST_SECTIONS-via-else-sections-gt-MOST_SECTIONS+then-size-gt-MOST_FILE_BYTES w ↦ large (inr w.if-size-gt-MOST_FILE_BYTES.true)
    ]

pub returns-clause-size : goal.returns-clause-size
returns-clause-size c pass parts left at =
    let files = c.args.objects.now.files in
    let file = c.object-read.result in
    let fine = readable c.args.objects.now c.args.object file c.recall_invariant.ensures.faultless c.object-read.ensures in
    let room = c.in_ok-room.room in
    let room_is = (c.in_ok-room.ensures.room pass file left c.object-read.ensures).0 in
    let symbols_is = c.from-symbols.ensures ∙ c.max.ensures ∙ ap (λ n. max n 1) (c.symbol_count.ensures ∙ sym (symbol_count_is file)) in
    let found = size-found pass files c.args.object parts at file c.object-read.ensures fine room c.in_ok-names.names c.from-symbols.result room_is c.in_ok-names.ensures.0 symbols_is in
    let size = (λ i. 52 + room.content + 16 * c.from-symbols.result + c.padded_length.ensures i + c.padded_length-2.ensures i + 40 * (4 + room.headers)) ∙ found in
    (found-small pass files c.args.object parts at file c.object-read.ensures fine room c.in_ok-names.names c.from-symbols.result room_is c.in_ok-names.ensures.0 symbols_is (52 + room.content + 16 * c.from-symbols.result + c.padded_length.result + c.padded_length-2.result + 40 * (4 + room.headers)) size c.if-sections-gt-MOST_SECTIONS.false c.if-size-gt-MOST_FILE_BYTES.false, size)
