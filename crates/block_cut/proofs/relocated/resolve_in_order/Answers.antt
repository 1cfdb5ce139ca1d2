-- While relocations are in order, what is decided by those up to one is decided by all.
use Rattle.std.proofs.Common.{◌≡◌, ◌+◌, ◌++◌, ◌∷◌, [], min, map, filter, take, None, is_some, true, sym, ap, subst, ◌∙◌, arith}
use Rattle.std.specs.Prelude.{Contains, not}
use Rattle.std.proofs.lemmas.List.{take_all}
use Rattle.std.proofs.lemmas.List.Elements.{Contains-push}
use Rattle.psabi_reloc.specs.Kinds.{kind_of}
use Rattle.psabi_sym.specs.Inputs.{parsed}
use Rattle.block_cut.specs.Invariants.Fields.{AreFieldsApart, HoldsFields}
use Rattle.block_cut.specs.Items.{target_of}
use Rattle.block_cut.specs.Invariants.Relocated.{IsRelocated, with_relocs}
use Rattle.block_cut.specs.Relocs.{field_of, is_ignored}
use Rattle.block_cut.specs.Resolved.{asks, own_fault, resolved_reloc}
use Rattle.block_cut.proofs.ApartLaws.{contains_at}
use Rattle.block_cut.proofs.OrderLaws.{held_there, in_order, none_there, taken_fine}
use Rattle.block_cut.proofs.ResolvedLaws.{kept_next, kept_other}
use Rattle.block_cut.proofs.TakeLaws.{take_next}
use Rattle.block_cut.proofs.relocated.resolve_in_order.Goals as goal
use Rattle.block_cut.proofs.relocated.resolve_in_order.Goals.{then-not-is_ignored+else-is_some+in_ok-push, else-not-is_ignored}

pub loop-k-init : goal.loop-k-init
loop-k-init c =
    let some : is_some c.none.result.end ≡ true = ap is_some c.none.ensures.end in
    record {
      is = c.new-relocated.ensures.is c.args.objects.now [] c.requires.gathered c.requires.section (in_order [] c.none.result c.none.ensures.holds some);
      holds = subst (HoldsFields []) (sym c.new-relocated.ensures.fields) c.none.ensures.holds;
      some = ap (λ f. is_some f.end) c.new-relocated.ensures.fields ∙ some;
      relocs = λ n apart. c.in_ok-relocs.ensures.items;
    }

pub loop-k-preserved : goal.loop-k-preserved
loop-k-preserved c =
    let inputs = parsed c.args.objects.now in
    let l = c.args.section.now in
    let all = l.section.relocs in
    let k = c.loop-k.k in
    let r = c.reloc-reloc.result in
    let at = c.reloc-reloc.ensures in
    let before = c.loop-k.invariant in
    let part = with_relocs (take (k + 1) all) l in
    let more = sym (take_next all k r at) in
    let holds : HoldsFields (take (k + 1) all) c.add.new.self = subst (λ rs. HoldsFields rs c.add.new.self) more (c.in_ok-add.ensures (take k all) before.holds) in
    let some : is_some c.add.new.self.end ≡ true = cc (c.is_none.ensures, c.if-is_none.false) in
    let asked : asks r ≡ not c.is_ignored.result = ap (λ kind. not (is_ignored kind)) (sym c.of-kind.ensures) ∙ ap not (sym c.is_ignored.ensures) in
    let is : IsRelocated part (record c.loop-k.relocated { fields = c.add.new.self }) = record {
      object = before.is.object;
      index = before.is.index;
      code = before.is.code;
      size = before.is.size;
      bytes = before.is.bytes;
      compressed = before.is.compressed;
      words = before.is.words;
      fields = in_order (take (k + 1) all) c.add.new.self holds some;
      whole = before.is.whole;
    } in
    record {
      is = is;
      holds = holds;
      some = some;
      relocs = λ n apart. elim c.if-not-is_ignored.branch [
        | then-not-is_ignored+else-is_some+in_ok-push w ↦
            let own = w.resolve-resolved.ensures part is (subst (λ rs. Contains rs r) more (Contains-push (take k all) r)) in
            let none : own_fault inputs part r ≡ None = ap (λ d. d.fault) (sym own) ∙ none_there w.resolve-resolved.result.fault (sym w.is_some.ensures ∙ w.if-is_some.false) in
            let fine = taken_fine inputs l (k + 1) n apart r (contains_at all k r at) none in
            let same : resolved_reloc inputs part r ≡ resolved_reloc inputs l r = λ j. record { target = target_of inputs l.object r; offset = r.offset; size = min 255 (field_of r); kind = kind_of r.kind; fault = (none ∙ sym fine) j } in
            ap (λ v. v.items) w.relocs-is ∙ w.in_ok-push.ensures.items ∙ (λ j. before.relocs n apart j ++ (own ∙ same) j ∷ [])
            ∙ sym (kept_next (resolved_reloc inputs l) asks all k r at (asked ∙ ap not w.if-not-is_ignored.true))
        | else-not-is_ignored w ↦
            ap (λ v. v.items) w.relocs-is ∙ before.relocs n apart ∙ sym (kept_other (resolved_reloc inputs l) asks all k r at (asked ∙ ap not w.if-not-is_ignored.false))
      ];
    }

pub returns : goal.returns
returns c =
    let l = c.args.section.now in
    let all = l.section.relocs in
    let k = c.loop-k.k in
    let whole = take_all k all (omega (arith, c.reloc_count-k-end.ensures)) in
    let apart = held_there c.loop-k.relocated.fields.end (λ n. AreFieldsApart n (take k all)) c.loop-k.invariant.some c.loop-k.invariant.holds.apart in
    c.loop-k.invariant.relocs apart.0 (subst (AreFieldsApart apart.0) whole apart.1)
    ∙ ap (λ rs. map (resolved_reloc (parsed c.args.objects.now) l) (filter asks rs)) whole
