use Rattle.std.proofs.Common.{◌≡◌, ℕ, Vec, Global, List, None, is_some, true, sym, ap, subst, ◌∙◌}
use Rattle.std.specs.Prelude.{IfSome}
use Rattle.elf32_read.specs.declared.reloc.Reloc.{Reloc}
use Rattle.block_cut.specs.declared.fields.Fields.{Fields}
use Rattle.block_cut.specs.Invariants.Fields.{AreEnds, AreFields, AreFieldsApart, HoldsFields, IsSortedOf}
use Rattle.block_cut.proofs.fields.Fields.new.Goals as goal
use Rattle.block_cut.proofs.fields.Fields.new.Goals.{then-is_none+in_ok-fields-2, else-is_none}

made : (relocs : List Reloc) (held fields : Fields) (sorted : Vec ℕ Global) → HoldsFields relocs held → fields.uppers ≡ held.uppers → fields.end ≡ held.end
    → (fields.end ≡ None → AreEnds relocs fields.unordered) → IsSortedOf fields.uppers.items sorted.items → AreFields relocs (record fields { uppers = sorted })
made relocs held fields sorted holds uppers end ends is = record {
  uppers = subst (λ l. IsSortedOf l sorted.items) (ap (λ v. v.items) uppers ∙ holds.uppers) is;
  apart = subst (λ o. IfSome o (λ n. AreFieldsApart n relocs)) (sym end) holds.apart;
  ends = ends;
}

pub returns : goal.returns
returns c =
    let relocs = c.args.section.now.section.relocs in
    let held = c.in_ok-fields.fields in
    let fields = c.if-is_none.fields in
    elim c.if-is_none.branch [
      | then-is_none+in_ok-fields-2 w ↦
          made relocs held fields c.sort.new.numbers c.in_ok-fields.ensures (ap (λ f. f.uppers) w.fields-is) (ap (λ f. f.end) w.fields-is)
          (λ none. rw w.fields-is w.in_ok-fields-2.ensures) c.sort.ensures
      | else-is_none w ↦
          let some : is_some held.end ≡ true = cc (c.is_none.ensures, w.if-is_none.false) in
          made relocs held fields c.sort.new.numbers c.in_ok-fields.ensures (ap (λ f. f.uppers) w.fields-is) (ap (λ f. f.end) w.fields-is)
          (λ none. let e = ap is_some (sym (ap (λ f. f.end) w.fields-is) ∙ none) in absurd (cc (e, some))) c.sort.ensures
    ]
