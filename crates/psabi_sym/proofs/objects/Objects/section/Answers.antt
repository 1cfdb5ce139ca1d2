use Rattle.std.proofs.Common.{◌≡◌, List, ℕ, get_or, ap, sym, ◌∙◌, arith, Some, slice_get}
use Rattle.std.proofs.lemmas.Option.{get_or_from_slice_get, slice_get_within}
use Rattle.elf32_read.specs.Header.{section_count}
use Rattle.elf32_read.specs.Parts.{section_parts}
use Rattle.psabi_sym.specs.Data.{role_of}
use Rattle.psabi_sym.specs.Inputs.{Inputs, parsed}
use Rattle.psabi_sym.specs.Indexed.{all_sections}
use Rattle.psabi_sym.specs.declared.section_row.SectionRow.{SectionRow}
use Rattle.psabi_sym.proofs.AccessLaws.{IsNumberedRow, numbered_row}
use Rattle.psabi_sym.proofs.objects.Objects.section.Goals as goal

-- the file that was read is that of the section
file_is : {names files : List (List ℕ)} {k : ℕ} {row : SectionRow} (there : IsNumberedRow names files k row) (file : List ℕ) → file ≡ get_or files row.object file → file ≡ there.of.file
file_is {files = files} there file is =
    is ∙ ap (λ r. get_or files r.object file) there.row_is ∙ get_or_from_slice_get files there.listed.object there.of.file file there.of.at

pub index-requires : goal.index-requires
index-requires c =
    let there = numbered_row c.self.invariant c.args.self.now c.args.k c.index-row.result.now c.self.view_is c.requires c.index-row.ensures in
    let files = c.self.inside.objects.items in
    omega (arith, slice_get_within files there.listed.object there.of.file there.of.at, ap (λ r. r.object) there.row_is, c.self.inside.objects.ok.0)

pub new-requires-clause-within : goal.new-requires-clause-within
new-requires-clause-within c =
    let there = numbered_row c.self.invariant c.args.self.now c.args.k c.index-row.result.now c.self.view_is c.requires c.index-row.ensures in
    omega (arith, there.of.within, ap section_count (file_is there c.index.result.now c.index.ensures), ap (λ r. r.index) there.row_is)

pub new-requires-clause-role : goal.new-requires-clause-role
new-requires-clause-role c =
    let there = numbered_row c.self.invariant c.args.self.now c.args.k c.index-row.result.now c.self.view_is c.requires c.index-row.ensures in
    ap (λ r. r.role) there.row_is ∙ ap role_of there.of.is
    ∙ sym (λ j. role_of (section_parts (file_is there c.index.result.now c.index.ensures j) (there.row_is j).index))

pub returns : goal.returns
returns c =
    let there = numbered_row c.self.invariant c.args.self.now c.args.k c.index-row.result.now c.self.view_is c.requires c.index-row.ensures in
    let same = file_is there c.index.result.now c.index.ensures in
    ap (λ (v : Inputs). slice_get (all_sections (parsed v).objects) c.args.k) (sym c.self.view_is) ∙ there.at
    ∙ ap Some (sym (c.new.ensures
    ∙ (λ j. record { object = (there.row_is j).object; index = (there.row_is j).index; section = section_parts (same j) (there.row_is j).index })
    ∙ (λ j. record { object = there.listed.object; index = there.listed.index; section = sym there.of.is j })))
