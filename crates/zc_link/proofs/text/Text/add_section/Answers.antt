-- What isn't code adds nothing, and code begins after a gap.
use Rattle.std.proofs.Common.{◌≡◌, ℕ, ◌+◌, ◌-◌, ◌<◌, ◌≤◌, ◌^◌, List, None, Some, true, length, sym, ap, ◌∙◌, subst, arith, slice_get}
use Rattle.std.proofs.lemmas.Bool.{eqb-false, eqb-true}
use Rattle.psabi_sym.specs.Inputs.{Inputs, parsed}
use Rattle.psabi_sym.specs.Faults.{gather_fault}
use Rattle.psabi_sym.specs.Indexed.{IndexedSection, all_sections}
use Rattle.zc_base.specs.declared.mem_map.MemMap.{MemMap}
use Rattle.elf32_read.specs.Parts.{is_code_section}
use Rattle.block_cut.specs.Items.{place_of}
use Rattle.block_cut.specs.Places.{code_places}
use Rattle.block_cut.specs.declared.code_place.CodePlace.{CodePlace}
use Rattle.zc_link.specs.LaidOut.{code_end_after}
use Rattle.zc_link.specs.TextLayout.{TextLayout}
use Rattle.zc_link.specs.Standing.{BeginsSection}
use Rattle.zc_link.proofs.LaidLaws.{address_small}
use Rattle.zc_link.proofs.Sections.{begins_late, begins_section, no_places, other_section, some_places}
use Rattle.zc_link.proofs.Standing.{gathered}
use Rattle.zc_link.proofs.Walk.{GivesAddress, before, first_address, first_has, listed_there}
use Rattle.zc_link.proofs.text.Text.add_section.Given as given
use Rattle.zc_link.proofs.text.Text.add_section.Goals as goal
use Rattle.zc_link.proofs.text.Text.add_section.Goals.{Else-is_empty}

-- the section with a number, and its places
module _ (L : TextLayout) (k : ℕ) (within : k < length (all_sections (parsed L.inputs).objects)) where
  abbrev section : IndexedSection
  section = (listed_there (all_sections (parsed L.inputs).objects) k within).0

  abbrev at : slice_get (all_sections (parsed L.inputs).objects) k ≡ Some section
  at = (listed_there (all_sections (parsed L.inputs).objects) k within).1

  places_are :
      (cut : Inputs) → cut ≡ L.inputs → (own : List CodePlace)
      → ((l : IndexedSection) → slice_get (all_sections (parsed cut).objects) k ≡ Some l → own ≡ code_places (parsed cut) l)
      → own ≡ code_places (parsed L.inputs) section
  places_are cut same own are =
      are section (ap (λ (x : Inputs). slice_get (all_sections (parsed x).objects) k) same ∙ at) ∙ ap (λ (x : Inputs). code_places (parsed x) section) same

-- ---- it is code

module _ (g : given.Over) (c : Else-is_empty g) where
  abbrev L : TextLayout
  L = g.L.Layout.layout c.args.layout.now

  abbrev here : IndexedSection
  here = section L c.args.k c.requires.section

  abbrev there : slice_get (all_sections (parsed L.inputs).objects) c.args.k ≡ Some here
  there = at L c.args.k c.requires.section

  none : gather_fault L.inputs ≡ None
  none = gathered L.inputs c.cut-cut.ensures.ready.faultless

  code : is_code_section here.section ≡ true
  code =
      some_places (parsed L.inputs) here c.places.result.now
      (places_are L c.args.k c.requires.section c.cut-cut.result.now c.cut-cut.ensures.same c.places.result.now c.places.ensures)
      (eqb-false (length c.places.result.now) 0 (sym c.is_empty.ensures ∙ c.if-is_empty.false))

  -- the section begins at an address that isn't before the text's end
  module _
      (begin : ℕ) (found : GivesAddress L c.args.k 0 begin) where
    first : L.address (place_of here 0) ≡ Some begin
    first = first_address L none c.cut-cut.ensures.ready c.cut-cut.ensures.laid c.args.k here there code begin found

    late : code_end_after L (before L c.args.k) ≤ begin
    late = begins_late L c.args.k here there c.cut-cut.ensures.laid code begin first

    small : begin < 2 ^ 32
    small = address_small L c.cut-cut.ensures.ready.is_map c.cut-cut.ensures.laid (place_of here 0) begin first

-- ---- the goals

pub returns-then-is_empty : goal.returns-then-is_empty
returns-then-is_empty g c =
    let L = g.L.Layout.layout c.args.layout.now in
    let own = c.places.result.now in
    let are = places_are L c.args.k c.requires.section c.cut-cut.result.now c.cut-cut.ensures.same own c.places.ensures in
    let section = section L c.args.k c.requires.section in
    other_section L c.args.k section (at L c.args.k c.requires.section) c.args.self.now.text.items c.args.self.now.places.items
    (no_places (parsed L.inputs) section own are (eqb-true (length own) 0 (sym c.is_empty.ensures ∙ c.if-is_empty.true))) c.requires.before

pub address_at-begin-requires : goal.address_at-begin-requires
address_at-begin-requires g c =
    let a = (goal.at.address_at-begin-requires g c).Else-is_empty in
    first_has (L g a) (none g a) c.cut-cut.ensures.ready c.cut-cut.ensures.laid c.args.k (here g a) (there g a) (code g a)

pub overflow_cast-end : goal.overflow_cast-end
overflow_cast-end g c =
    let a = (goal.at.overflow_cast-end g c).Else-is_empty in
    let begin = c.address_at-begin.result in
    let found = c.address_at-begin.ensures in
    record { fits = omega (arith, late g a begin found, small g a begin found, c.requires.before.ends, c.len.ensures) }

pub overflow_add-end : goal.overflow_add-end
overflow_add-end g c =
    let a = (goal.at.overflow_add-end g c).Else-is_empty in
    let begin = c.address_at-begin.result in
    let found = c.address_at-begin.ensures in
    let map : c.map.result ≡ (L g a).inputs.map = c.map.ensures.value ∙ ap (λ (x : Inputs). x.map) (c.objects.ensures.same ∙ c.cut-cut.ensures.same) in
    record { fits = omega (arith, late g a begin found, small g a begin found, c.requires.before.ends, c.len.ensures, ap (λ (m : MemMap). m.text) map) }

pub overflow_sub-begin : goal.overflow_sub-begin
overflow_sub-begin g c =
    let a = (goal.at.overflow_sub-begin g c).Else-is_empty in
    let map : c.map.result ≡ (L g a).inputs.map = c.map.ensures.value ∙ ap (λ (x : Inputs). x.map) (c.objects.ensures.same ∙ c.cut-cut.ensures.same) in
    omega (arith, late g a c.address_at-begin.result c.address_at-begin.ensures, c.requires.before.ends, c.len.ensures, ap (λ (m : MemMap). m.text) map)

pub add_places-requires : goal.add_places-requires
add_places-requires g c =
    let a = (goal.at.add_places-requires g c).Else-is_empty in
    let begin = c.address_at-begin.result in
    let text = c.args.self.now.text.items in
    let places = c.args.self.now.places.items in
    let map : c.map.result ≡ (L g a).inputs.map = c.map.ensures.value ∙ ap (λ (x : Inputs). x.map) (c.objects.ensures.same ∙ c.cut-cut.ensures.same) in
    let n = begin - (c.map.result.text + c.len.result) in
    let gap : n ≡ begin - code_end_after (L g a) (before (L g a) c.args.k) = omega (arith, c.requires.before.ends, c.len.ensures, ap (λ (m : MemMap). m.text) map) in
    subst (λ t. BeginsSection (L g a) c.args.k t places) (sym {A = List ℕ} c.in_ok-add_zeros.ensures)
    (begins_section (L g a) c.args.k (here g a) (there g a) c.cut-cut.ensures.laid (code g a) begin (first g a begin c.address_at-begin.ensures) text places n gap c.requires.before)
