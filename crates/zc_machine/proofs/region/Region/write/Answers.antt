use Rattle.std.proofs.Common.{◌≡◌, ℕ, ◌-◌, length, slice_index, true, sym, ap, ◌∙◌}
use Rattle.rv_decode.specs.Memory.{Region, cells_changed, is_data, written}
use Rattle.zc_machine.specs.Pages.{Paged}
use Rattle.zc_machine.specs.Region.{kind_of_region}
use Rattle.zc_machine.proofs.RegionLaws.{cells_in_pages, region_written}
use Rattle.zc_machine.proofs.region.Region.write.Goals as goal

pub returns : goal.returns
returns c =
    let r = c.self.inside in
    let n = length c.args.bytes.now in
    let given = slice_index c.args.bytes.now in
    let change = cells_changed (written (c.args.address - r.at) n given) 0 in
    let in_pages : is_data (kind_of_region r.kind) ≡ true = ap (λ (x : Region ℕ). is_data x.kind) c.self.view_is ∙ c.requires.data in
    let made = ap (λ (p : Paged). p.cells) c.write.ensures in
    region_written r.kind r.at c.args.address n given r.code r.pages.cells r.code c.write.new.self.cells c.args.self.now c.self.view_is c.requires.within
    (cells_in_pages r.kind r.code c.write.new.self.cells in_pages ∙ made ∙ ap change (sym (cells_in_pages r.kind r.code r.pages.cells in_pages)))
