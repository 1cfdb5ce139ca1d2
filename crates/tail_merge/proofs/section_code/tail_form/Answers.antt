use Rattle.std.proofs.Common.{◌≡◌, ◌∙◌, of_z, rules, subst, sym, to_z, w32}
use Rattle.std.specs.Prelude.{IfSome}
use Rattle.psabi_sym.specs.Inputs.{parsed}
use Rattle.rv_decode.specs.declared.instr.Instr.TheVariants.{Jal}
use Rattle.tail_merge.specs.SectionCode.{IsFormOf}
use Rattle.tail_merge.specs.declared.section_code.ItemForm.TheVariants.{Spelled}
use Rattle.tail_merge.proofs.SectionCodeLaws.{host-low, jump-form, later-form, place-low, tails-at}
use Rattle.tail_merge.proofs.section_code.tail_form.Goals as goal

pub returns-then-place-tail : goal.returns-then-place-tail
returns-then-place-tail c = λ inputs l relocs is st over.
    let tails = c.args.tails.now in
    let t = c.args.tail in
    let n = c.args.place.now.offset in
    let zero : c.unwrap.result ≡ 0 = subst (λ o. IfSome o (λ r. r ≡ 0)) c.unwrap.ensures c.new.ensures.some in
    let d = to_z w32 (of_z w32 c.distance.result) in
    let back : to_z w32 (of_z w32 c.distance.result) ≡ c.distance.result = search rules in
    let way = c.distance.ensures (parsed inputs) l.object l.index (tails-at inputs l tails relocs is) (place-low inputs l tails relocs is c.args.place.now st) (host-low inputs l tails relocs is n t over) in
    subst (λ rd. IsFormOf (parsed inputs) l n (Spelled (Jal rd d) 4)) (sym zero) (jump-form inputs l tails relocs is n st.start t over d (back ∙ way) c.if-place-tail.true)

pub returns-else-place-tail : goal.returns-else-place-tail
returns-else-place-tail c = λ inputs l relocs is st over.
    later-form inputs l c.args.tails.now relocs is c.args.place.now.offset st.start c.args.tail over c.if-place-tail.false
