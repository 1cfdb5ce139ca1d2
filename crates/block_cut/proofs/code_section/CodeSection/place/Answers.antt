-- An item starts there or the section ends there, and never both.
use Rattle.std.proofs.Common.{◌≡◌, Bool, true, false, cond, Some, None, length, eqb, refl, sym, ap, subst, ◌∙◌}
use Rattle.std.specs.Prelude.{◌||◌}
use Rattle.std.specs.List.{find}
use Rattle.std.specs.Option.{option_map_or}
use Rattle.std.proofs.lemmas.Bool.{ne_eqb}
use Rattle.psabi_sym.specs.Inputs.{parsed}
use Rattle.block_cut.specs.CodeSizes.{own_size}
use Rattle.block_cut.specs.Invariants.CodeSection.{ResolvedSection}
use Rattle.block_cut.specs.Items.{item_in, place_of, size_on, starts_on}
use Rattle.block_cut.specs.Resolved.{is_right_at}
use Rattle.block_cut.specs.Whole.{IsWhole}
use Rattle.block_cut.specs.declared.resolved_reloc.ResolvedReloc.{ResolvedReloc}
use Rattle.block_cut.proofs.TableLaws.{sized_on}
use Rattle.block_cut.proofs.WordLaws.{end_other}
use Rattle.block_cut.proofs.code_section.CodeSection.place.Goals.{then-is_end, else-is_end}
use Rattle.block_cut.proofs.code_section.CodeSection.place.Goals as goal

-- if it isn't the end it is a start
start_there : (a b : Bool) → (a || b) ≡ true → b ≡ false → a ≡ true
start_there true b is other = refl
start_there false b is other = absurd (cc (is, other))

pub item-requires-clause-starts : goal.item-requires-clause-starts
item-requires-clause-starts c =
    let value = c.args.self.now in
    let s = value.section.section in
    let n = c.args.at in
    let bytes = c.self.invariant.bytes_are ∙ ap (λ (x : ResolvedSection). x.section.section.bytes) c.self.view_is in
    let long = c.len.ensures ∙ ap length bytes in
    start_there (starts_on s n) (eqb n (length s.bytes)) c.requires (ne_eqb n (length s.bytes) (λ e. c.if-is_end.false (e ∙ sym long)))

pub returns : goal.returns
returns c = λ inputs of resolved.
    let value = c.args.self.now in
    let s = value.section.section in
    let n = c.args.at in
    let bytes = c.self.invariant.bytes_are ∙ ap (λ (x : ResolvedSection). x.section.section.bytes) c.self.view_is in
    let long = c.len.ensures ∙ ap length bytes in
    let compressed = c.self.invariant.compressed_is ∙ ap (λ (x : ResolvedSection). x.section.section.compressed) c.self.view_is in
    let found = c.reloc_at-reloc.ensures ∙ ap (λ (x : ResolvedSection). find (is_right_at n) x.relocs) resolved in
    let size : c.size_with.result ≡ size_on s n =
    c.size_with.ensures ∙ (λ j. option_map_or (λ (d : ResolvedReloc). d.size) (found j) (own_size (compressed j) (bytes j) n)) ∙ sized_on (parsed inputs) value.section n of.is_code in
    let item : c.if-is_end.result ≡ cond (starts_on s n) (Some (item_in (parsed inputs) s (place_of value.section n))) None = elim c.if-is_end.branch [
      | then-is_end w ↦
          let ends : n ≡ length s.bytes = w.if-is_end.true ∙ long in
          w.result-is ∙ sym (ap (λ b. cond b (Some (item_in (parsed inputs) s (place_of value.section n))) None) (ap (starts_on s) ends ∙ end_other s of.is_code (subst (λ (x : ResolvedSection). IsWhole x.section.section) c.self.view_is c.self.invariant.whole)))
      | else-is_end w ↦
          let start : starts_on s n ≡ true = start_there (starts_on s n) (eqb n (length s.bytes)) c.requires (ne_eqb n (length s.bytes) (λ e. w.if-is_end.false (e ∙ sym long))) in
          w.result-is ∙ ap Some (w.item.ensures inputs of resolved) ∙ sym (ap (λ b. cond b (Some (item_in (parsed inputs) s (place_of value.section n))) None) start)
    ] in
    λ j. record { item = item j; address = c.args.address; offset = n; size = size j }
