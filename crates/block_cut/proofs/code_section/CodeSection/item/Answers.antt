-- The item is the relocation's, or else what the bytes spell.
use Rattle.std.proofs.Common.{◌≡◌, ℕ, ◌+◌, ◌%◌, ◌≤◌, List, Option, IfSome, Some, None, true, false, cond, eqb, length, sym, ap, subst, ◌∙◌, arith}
use Rattle.std.specs.List.{find}
use Rattle.std.specs.Option.{option_copied, option_map_or}
use Rattle.psabi_sym.specs.Indexed.{IndexedSection}
use Rattle.psabi_sym.specs.Inputs.{parsed}
use Rattle.rv_decode.specs.Immediates.{InRange}
use Rattle.rv_decode.specs.declared.instr.Instr.{Instr}
use Rattle.zc_base.specs.declared.place.Place.{Place}
use Rattle.block_cut.specs.CodeSizes.{own_size}
use Rattle.block_cut.specs.Instrs.{CodeBytes}
use Rattle.block_cut.specs.Items.{code_at, place_of, raw_in, spelled_item, starts_on}
use Rattle.block_cut.specs.Relocs.{instr_in}
use Rattle.block_cut.specs.Resolved.{is_right_at, resolved_item}
use Rattle.block_cut.specs.Invariants.CodeSection.{IsNumberedCode, ResolvedSection}
use Rattle.block_cut.specs.Invariants.HalfwordTables.{HasRoom, by_halfword, number_on, read_length}
use Rattle.block_cut.specs.declared.resolved_reloc.ResolvedReloc.{ResolvedReloc}
use Rattle.block_cut.proofs.StartLaws.{start_is}
use Rattle.block_cut.proofs.TableLaws.{item_with, item_without}
use Rattle.block_cut.proofs.CodeSizeLaws.{OwnSize, own_is, own_read, step_plain}
use Rattle.block_cut.proofs.InstrLaws.{in_range_in}
use Rattle.block_cut.proofs.WordLaws.{code_here}
use Rattle.block_cut.proofs.code_section.CodeSection.item.Goals as goal

module _ (own : ResolvedSection) (content : CodeBytes) (reloc_numbers place_numbers : List ℕ) (is : IsNumberedCode own content reloc_numbers place_numbers)
    (value : ResolvedSection) (same : own ≡ value) (n : ℕ) (starts : starts_on value.section.section n ≡ true) where
  starts_own : starts_on own.section.section n ≡ true
  starts_own = ap (λ (x : ResolvedSection). starts_on x.section.section n) same ∙ starts

  -- an item starts at a step of the code, and has the bytes that say which it is
  aligned : content.compressed ≡ false → n % 4 ≡ 0
  aligned plain =
      let s = own.section.section in
      step_plain s.compressed n (sym is.compressed_is ∙ plain) (start_is s is.is_code is.whole n starts_own).words

  room : (reloc : Option ResolvedReloc) → reloc ≡ find (is_right_at n) value.relocs → HasRoom content n reloc
  room reloc found = subst (HasRoom content n) (ap (λ (x : ResolvedSection). find (is_right_at n) x.relocs) same ∙ sym found) (is.rooms n starts_own)

  -- what is read without a relocation lies inside
  inside : (reloc : Option ResolvedReloc) (size : ℕ) → reloc ≡ find (is_right_at n) value.relocs → reloc ≡ None → size ≡ own_size content.compressed content.bytes n → n + cond (eqb size 2) 2 4 ≤ length content.bytes
  inside reloc size found none size_is =
      let own : n + own_size content.compressed content.bytes n ≤ length content.bytes =
      subst (λ o. n + option_map_or (λ (d : ResolvedReloc). read_length d.kind) o (own_size content.compressed content.bytes n) ≤ length content.bytes) none (room reloc found) in
      omega (arith, own, size_is, own_read size (subst OwnSize (sym size_is) (own_is content.compressed content.bytes n)))

  bytes_are : content.bytes ≡ value.section.section.bytes
  bytes_are = is.bytes_are ∙ ap (λ (x : ResolvedSection). x.section.section.bytes) same

  compressed_is : content.compressed ≡ value.section.section.compressed
  compressed_is = is.compressed_is ∙ ap (λ (x : ResolvedSection). x.section.section.compressed) same

  numbers_are : place_numbers ≡ by_halfword (number_on value.section.section) value.section.section
  numbers_are = is.places_are ∙ ap (λ (x : ResolvedSection). by_halfword (number_on x.section.section) x.section.section) same

pub reloc_item-requires-clause-aligned : goal.reloc_item-requires-clause-aligned
reloc_item-requires-clause-aligned c = aligned _ _ _ _ c.self.invariant c.args.self.now c.self.view_is c.args.at c.requires.starts

pub reloc_item-requires-clause-room : goal.reloc_item-requires-clause-room
reloc_item-requires-clause-room c =
    subst (HasRoom c.self.inside.content c.args.at) (ap option_copied c.in-Some.is) (room _ _ _ _ c.self.invariant c.args.self.now c.self.view_is c.args.at c.requires.starts (option_copied c.args.reloc) c.requires.reloc)

pub instr-instr-requires-clause-aligned : goal.instr-instr-requires-clause-aligned
instr-instr-requires-clause-aligned c = aligned _ _ _ _ c.self.invariant c.args.self.now c.self.view_is c.args.at c.requires.starts

pub instr-instr-requires-clause-inside : goal.instr-instr-requires-clause-inside
instr-instr-requires-clause-inside c =
    inside _ _ _ _ c.self.invariant c.args.self.now c.self.view_is c.args.at c.requires.starts (option_copied c.args.reloc) c.own_size-size.result c.requires.reloc (ap option_copied c.in-None.is) c.own_size-size.ensures

pub raw-requires : goal.raw-requires
raw-requires c =
    inside _ _ _ _ c.self.invariant c.args.self.now c.self.view_is c.args.at c.requires.starts (option_copied c.args.reloc) c.own_size-size.result c.requires.reloc (ap option_copied c.in-None.is) c.own_size-size.ensures

pub item_of-requires : goal.item_of-requires
item_of-requires c = each c.instr-instr.result (sym c.instr-instr.ensures)
  where
    each : (o : Option Instr) → instr_in c.own_size-size.result c.self.inside.content.bytes c.args.at ≡ o → IfSome o InRange
    each None is = tt
    each (Some i) is = in_range_in c.own_size-size.result c.self.inside.content.bytes c.args.at i is

pub returns-in-Some : goal.returns-in-Some
returns-in-Some c = λ inputs of resolved.
    let l = c.args.self.now.section in
    let n = c.args.at in
    let found = sym (ap (λ (x : ResolvedSection). find (is_right_at n) x.relocs) resolved) ∙ sym c.requires.reloc ∙ ap option_copied c.in-Some.is in
    c.reloc_item.ensures ∙ ap (λ b. resolved_item c.in-Some.reloc.now b n) (bytes_are _ _ _ _ c.self.invariant c.args.self.now c.self.view_is n c.requires.starts)
    ∙ item_with (parsed inputs) l n c.in-Some.reloc.now of.is_code found

pub returns-in-None : goal.returns-in-None
returns-in-None c = λ inputs of resolved.
    let value = c.args.self.now in
    let l = value.section in
    let n = c.args.at in
    let here = code_here inputs l.object l.index l.section of.faultless of.found of.is_code in
    let objects = (parsed inputs).objects in
    let q : Place = record { object = c.object.result; section = c.index.result; offset = n } in
    let section = ap (λ (x : ResolvedSection). x.section) c.self.view_is in
    let object : c.object.result ≡ l.object = c.object.ensures ∙ ap (λ (x : IndexedSection). x.object) section in
    let index : c.index.result ≡ l.index = c.index.ensures ∙ ap (λ (x : IndexedSection). x.index) section in
    let same : q ≡ place_of l n = λ j. record { object = object j; section = index j; offset = n } in
    let bytes = bytes_are _ _ _ _ c.self.invariant value c.self.view_is n c.requires.starts in
    let own : ℕ = own_size l.section.compressed l.section.bytes n in
    let size : c.own_size-size.result ≡ own = c.own_size-size.ensures ∙ (λ j. own_size (compressed_is _ _ _ _ c.self.invariant value c.self.view_is n c.requires.starts j) (bytes j) n) in
    let instr : c.instr-instr.result ≡ instr_in own l.section.bytes n = c.instr-instr.ensures ∙ (λ j. instr_in (size j) (bytes j) n) in
    let raw : c.raw.result ≡ raw_in own l.section.bytes n = c.raw.ensures ∙ (λ j. raw_in (size j) (bytes j) n) in
    let found = sym (ap (λ (x : ResolvedSection). find (is_right_at n) x.relocs) resolved) ∙ sym c.requires.reloc ∙ ap option_copied c.in-None.is in
    c.item_of.ensures objects l.section (ap (code_at objects) same ∙ here.at n) here.whole
    (c.deref.ensures.value ∙ numbers_are _ _ _ _ c.self.invariant value c.self.view_is n c.requires.starts)
    ∙ (λ j. spelled_item objects (same j) (instr j) (raw j))
    ∙ item_without (parsed inputs) l n found
