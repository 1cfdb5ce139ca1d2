use Rattle.std.proofs.Common.{[], cond, map, sym, ap, ◌∙◌}
use Rattle.block_cut.specs.Items.{targets_in}
use Rattle.block_cut.specs.Places.{code_place}
use Rattle.block_cut.specs.Resolved.{placed_relocs}
use Rattle.block_cut.specs.Invariants.HalfwordTables.{by_halfword, number_on}
use Rattle.block_cut.specs.Invariants.SectionItems.{section_tables}
use Rattle.block_cut.proofs.section_items.data_section.Goals as goal

pub returns : goal.returns
unfolding section_tables
returns c = λ inputs l other. record {
  text_is = λ j. record {
    numbers = (c.new.ensures.items ∙ sym (ap (λ b. cond b (by_halfword (number_on l.section) l.section) []) other)) j;
    places = (c.new-2.ensures.items ∙ sym (ap (λ b. cond b (map (code_place inputs l) (targets_in l.section)) []) other)) j;
  };
  relocs_are = c.new-3.ensures.items ∙ sym (ap (λ b. cond b (placed_relocs inputs l) []) other);
}
