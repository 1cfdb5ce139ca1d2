use Rattle.std.proofs.Common.{◌≡◌, ℕ, ◌+◌, ◌-◌, ◌%◌, length, slice_index, ap, ◌∙◌, arith}
use Rattle.rv_decode.specs.Memory.{blank, cells_changed, written}
use Rattle.rv_decode.proofs.MemoryLaws.{length_blank}
use Rattle.zc_machine.specs.Pages.{Paged}
use Rattle.zc_machine.proofs.WriteLaws.{blank-written}
use Rattle.zc_machine.proofs.pages.Pages.new.Goals as goal

pub write-requires : goal.write-requires
write-requires c =
    let size = ap (λ (p : Paged). length p.cells) c.in_ok-pages.ensures in
    omega (arith, size, length_blank {X = ℕ} c.max-size.result 0, c.max-size.ensures)

pub returns : goal.returns
returns c =
    let bytes = c.args.bytes.now in
    let change = written 0 (length bytes) (slice_index bytes) in
    let rest : c.max-size.result ≡ length bytes + (c.args.size - length bytes) = omega (arith, c.max-size.ensures) in
    c.write.ensures
    ∙ ap (λ (p : Paged). record p { cells = cells_changed change 0 p.cells }) c.in_ok-pages.ensures
    ∙ (λ i. record { skip = c.args.at % 4096; cells = cells_changed change 0 (blank (rest i) 0) })
    ∙ (λ i. record { skip = c.args.at % 4096; cells = blank-written bytes (c.args.size - length bytes) i })
