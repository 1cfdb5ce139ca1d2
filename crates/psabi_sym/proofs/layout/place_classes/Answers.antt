use Rattle.std.proofs.Common.{◌≡◌, arith, ap, subst, ◌∙◌}
use Rattle.psabi_sym.specs.declared.data_class.DataClass.TheVariants.{ReadOnly, Data, SmallData, SmallZero, Zero}
use Rattle.psabi_sym.specs.Blocks.{aligned_up}
use Rattle.psabi_sym.specs.Invariants.Rows.{row_end}
use Rattle.psabi_sym.proofs.RowLaws.{IsTable, class_rooms, placed_all, row_end-le}
use Rattle.psabi_sym.proofs.layout.place_classes.Goals as goal

pub place_class-read_only-requires-clause-room : goal.place_class-read_only-requires-clause-room
place_class-read_only-requires-clause-room c = omega (arith, class_rooms c.args.rows.now)

pub place_class-data-requires-clause-room : goal.place_class-data-requires-clause-room
place_class-data-requires-clause-room c = omega (arith, class_rooms c.args.rows.now, row_end-le c.args.rows.now c.args.low ReadOnly, c.place_class-read_only.ensures.end)

pub place_class-file_end-requires-clause-room : goal.place_class-file_end-requires-clause-room
place_class-file_end-requires-clause-room c = omega (arith, class_rooms c.args.rows.now, row_end-le c.args.rows.now c.args.low ReadOnly, row_end-le c.args.rows.now c.place_class-read_only.result Data, c.place_class-read_only.ensures.end, c.place_class-data.ensures.end)

pub place_class-small_zero_end-requires-clause-room : goal.place_class-small_zero_end-requires-clause-room
place_class-small_zero_end-requires-clause-room c = omega (arith, class_rooms c.args.rows.now, row_end-le c.args.rows.now c.args.low ReadOnly, row_end-le c.args.rows.now c.place_class-read_only.result Data, row_end-le c.args.rows.now c.place_class-data.result SmallData, c.place_class-read_only.ensures.end, c.place_class-data.ensures.end, c.place_class-file_end.ensures.end)

pub place_class-end-requires-clause-room : goal.place_class-end-requires-clause-room
place_class-end-requires-clause-room c = omega (arith, class_rooms c.args.rows.now, row_end-le c.args.rows.now c.args.low ReadOnly, row_end-le c.args.rows.now c.place_class-read_only.result Data, row_end-le c.args.rows.now c.place_class-data.result SmallData, row_end-le c.args.rows.now c.place_class-file_end.result SmallZero, c.place_class-read_only.ensures.end, c.place_class-data.ensures.end, c.place_class-file_end.ensures.end, c.place_class-small_zero_end.ensures.end)

pub aligned_up-requires : goal.aligned_up-requires
aligned_up-requires c = omega (arith, class_rooms c.args.rows.now, row_end-le c.args.rows.now c.args.low ReadOnly, row_end-le c.args.rows.now c.place_class-read_only.result Data, row_end-le c.args.rows.now c.place_class-data.result SmallData, row_end-le c.args.rows.now c.place_class-file_end.result SmallZero, row_end-le c.args.rows.now c.place_class-small_zero_end.result Zero, c.place_class-read_only.ensures.end, c.place_class-data.ensures.end, c.place_class-file_end.ensures.end, c.place_class-small_zero_end.ensures.end, c.place_class-end.ensures.end)

pub aligned_up-requires-2 : goal.aligned_up-requires-2
aligned_up-requires-2 c = omega (arith, class_rooms c.args.rows.now, row_end-le c.args.rows.now c.args.low ReadOnly, row_end-le c.args.rows.now c.place_class-read_only.result Data, row_end-le c.args.rows.now c.place_class-data.result SmallData, row_end-le c.args.rows.now c.place_class-file_end.result SmallZero, row_end-le c.args.rows.now c.place_class-small_zero_end.result Zero, c.place_class-read_only.ensures.end, c.place_class-data.ensures.end, c.place_class-file_end.ensures.end, c.place_class-small_zero_end.ensures.end, c.place_class-end.ensures.end)

pub returns-clause-ends : goal.returns-clause-ends
returns-clause-ends c =
    let rows = c.args.rows.now in
    let low = c.args.low in
    let e1 : c.place_class-read_only.result ≡ row_end rows low ReadOnly = c.place_class-read_only.ensures.end in
    let e2 : c.place_class-data.result ≡ row_end rows (row_end rows low ReadOnly) Data = c.place_class-data.ensures.end ∙ ap (λ n. row_end rows n Data) e1 in
    let e3 : c.place_class-file_end.result ≡ row_end rows (row_end rows (row_end rows low ReadOnly) Data) SmallData = c.place_class-file_end.ensures.end ∙ ap (λ n. row_end rows n SmallData) e2 in
    let e4 : c.place_class-small_zero_end.result ≡ row_end rows (row_end rows (row_end rows (row_end rows low ReadOnly) Data) SmallData) SmallZero = c.place_class-small_zero_end.ensures.end ∙ ap (λ n. row_end rows n SmallZero) e3 in
    record {
      small_data = c.aligned_up.ensures.value ∙ ap (aligned_up 16) e2;
      file_end = e3;
      small_zero = c.aligned_up-2.ensures.value ∙ ap (aligned_up 16) e3;
      end = c.place_class-end.ensures.end ∙ ap (λ n. row_end rows n Zero) e4;
      most = omega (arith, class_rooms c.args.rows.now, row_end-le c.args.rows.now c.args.low ReadOnly, row_end-le c.args.rows.now c.place_class-read_only.result Data, row_end-le c.args.rows.now c.place_class-data.result SmallData, row_end-le c.args.rows.now c.place_class-file_end.result SmallZero, row_end-le c.args.rows.now c.place_class-small_zero_end.result Zero, c.place_class-read_only.ensures.end, c.place_class-data.ensures.end, c.place_class-file_end.ensures.end, c.place_class-small_zero_end.ensures.end, c.place_class-end.ensures.end);
      small_data_most = omega (arith, class_rooms c.args.rows.now, row_end-le c.args.rows.now c.args.low ReadOnly, row_end-le c.args.rows.now c.place_class-read_only.result Data, row_end-le c.args.rows.now c.place_class-data.result SmallData, row_end-le c.args.rows.now c.place_class-file_end.result SmallZero, row_end-le c.args.rows.now c.place_class-small_zero_end.result Zero, c.place_class-read_only.ensures.end, c.place_class-data.ensures.end, c.place_class-file_end.ensures.end, c.place_class-small_zero_end.ensures.end, c.place_class-end.ensures.end, c.aligned_up.ensures.most);
    }

pub returns-clause-addresses : goal.returns-clause-addresses
returns-clause-addresses c =
    let rows = c.args.rows.now in
    let low = c.args.low in
    let e1 : c.place_class-read_only.result ≡ row_end rows low ReadOnly = c.place_class-read_only.ensures.end in
    let e2 : c.place_class-data.result ≡ row_end rows (row_end rows low ReadOnly) Data = c.place_class-data.ensures.end ∙ ap (λ n. row_end rows n Data) e1 in
    let e3 : c.place_class-file_end.result ≡ row_end rows (row_end rows (row_end rows low ReadOnly) Data) SmallData = c.place_class-file_end.ensures.end ∙ ap (λ n. row_end rows n SmallData) e2 in
    let e4 : c.place_class-small_zero_end.result ≡ row_end rows (row_end rows (row_end rows (row_end rows low ReadOnly) Data) SmallData) SmallZero = c.place_class-small_zero_end.ensures.end ∙ ap (λ n. row_end rows n SmallZero) e3 in
    placed_all rows low c.args.addresses.now c.place_class-read_only.new.addresses c.place_class-data.new.addresses c.place_class-file_end.new.addresses c.place_class-small_zero_end.new.addresses c.place_class-end.new.addresses
    c.place_class-read_only.ensures.placed
    (subst (λ n. IsTable rows n Data c.place_class-read_only.new.addresses c.place_class-data.new.addresses) e1 c.place_class-data.ensures.placed)
    (subst (λ n. IsTable rows n SmallData c.place_class-data.new.addresses c.place_class-file_end.new.addresses) e2 c.place_class-file_end.ensures.placed)
    (subst (λ n. IsTable rows n SmallZero c.place_class-file_end.new.addresses c.place_class-small_zero_end.new.addresses) e3 c.place_class-small_zero_end.ensures.placed)
    (subst (λ n. IsTable rows n Zero c.place_class-small_zero_end.new.addresses c.place_class-end.new.addresses) e4 c.place_class-end.ensures.placed)
