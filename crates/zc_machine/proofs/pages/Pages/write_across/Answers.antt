use Rattle.std.proofs.Common.{◌≡◌, ◌-◌, ◌+◌, List, ℕ, length, take, drop, sym, ap, slice_index, ◌∙◌, arith}
use Rattle.std.proofs.lemmas.List.{length-drop, length-take}
use Rattle.rv_decode.specs.Memory.{cells_changed, written}
use Rattle.rv_decode.proofs.MemoryLaws.{length-cells_changed}
use Rattle.zc_machine.specs.Pages.{Paged}
use Rattle.zc_machine.proofs.WriteLaws.{cells_written_more, cells_written_none}
use Rattle.zc_machine.proofs.pages.Pages.write_across.Goals as goal

pub loop-done-init : goal.loop-done-init
loop-done-init c = record {
  within = omega arith;
  same = sym (λ i. record c.args.self.now { cells = cells_written_none c.args.index (slice_index c.args.bytes.now) 0 c.args.self.now.cells i });
}

pub room-requires : goal.room-requires
room-requires c =
    let kept = ap (λ (p : Paged). length p.cells) c.loop-done.invariant.same in
    let size = length-cells_changed (written c.args.index c.loop-done.done (slice_index c.args.bytes.now)) 0 c.args.self.now.cells in
    omega (arith, kept, size, c.requires, c.loop-done.invariant.within)

pub write_page-requires-clause-within : goal.write_page-requires-clause-within
write_page-requires-clause-within c =
    let done = c.loop-done.done in
    let bytes = c.args.bytes.now in
    let kept = ap (λ (p : Paged). length p.cells) c.loop-done.invariant.same in
    let size = length-cells_changed (written c.args.index done (slice_index bytes)) 0 c.args.self.now.cells in
    omega (arith, kept, size, c.requires, length-take (c.min-end.result - done) (drop done bytes), length-drop done bytes, c.min-end.ensures)

pub loop-done-preserved : goal.loop-done-preserved
loop-done-preserved c =
    let index = c.args.index in
    let bytes = c.args.bytes.now in
    let done = c.loop-done.done in
    let m : ℕ = c.min-end.result - done in
    let piece : List ℕ = take m (drop done bytes) in
    let cells = c.args.self.now.cells in
    let same = c.loop-done.invariant.same in
    let size : length piece ≡ m = omega (arith, length-take m (drop done bytes), length-drop done bytes, c.min-end.ensures) in
    let sum : done + m ≡ c.min-end.result = omega (arith, c.min-end.ensures, c.loop-done.invariant.within) in
    let all = cells_written_more index bytes done m cells (omega (arith, c.min-end.ensures, c.loop-done.invariant.within)) ∙ ap (λ k. cells_changed (written index k (slice_index bytes)) 0 cells) sum in
    record {
      within = omega (arith, c.min-end.ensures);
      same =
          c.write_page.ensures
          ∙ (λ i. record { skip = (same i).skip; cells = cells_changed (written (index + done) (size i) (slice_index piece)) 0 (same i).cells })
          ∙ (λ i. record { skip = c.args.self.now.skip; cells = all i });
    }
