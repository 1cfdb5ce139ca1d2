use Rattle.std.proofs.Common.{◌≡◌, get_or, set, length, slice_index, sym, ap, ◌∙◌, arith}
use Rattle.std.proofs.lemmas.Bool.{and_parts}
use Rattle.rv_decode.specs.Memory.{extent_of, spans}
use Rattle.zc_machine.specs.Region.{allowed}
use Rattle.zc_machine.proofs.RegionLaws.{item_changed, written_region}
use Rattle.zc_machine.proofs.memory.write.Goals as goal

pub returns-then-holds-clause-after : goal.returns-then-holds-clause-after
returns-then-holds-clause-after c =
    let i = c.loop-region.region-index in
    let r = c.region-item.result in
    let n = length c.args.bytes.now in
    let same = c.loop-region.invariant.same in
    let given = slice_index c.args.bytes.now in
    let here = and_parts (allowed c.args.access r.kind) (spans (extent_of r) c.args.address n) (cc c.if-holds.ensures) in
    let is : r ≡ get_or c.args.regions.now i r = c.region-item.is ∙ ap (λ rs. get_or rs i r) same in
    ap (λ rs. set rs i c.write.new.self) same
    ∙ ap (set c.args.regions.now i) (c.write.ensures ∙ ap (written_region c.args.address n given) (sym c.region-item.is))
    ∙ item_changed c.args.address n given c.args.regions.now i r c.requires.apart (omega arith) is here.1
