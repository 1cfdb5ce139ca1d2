-- By what the item is.
use Rattle.std.proofs.Common.{◌≡◌, ◌≢◌, ℕ, ℤ, inl, inr, refl, sym, ap, ◌∙◌, subst, take, drop}
use Rattle.psabi_reloc.specs.Parts.{hi20_of, lo12_of}
use Rattle.psabi_sym.specs.Inputs.{parsed}
use Rattle.block_cut.specs.Items.{size_at}
use Rattle.rv_decode.specs.Bits.{as_signed, as_word}
use Rattle.rv_decode.specs.declared.instr.Instr.TheVariants as instr
use Rattle.rv_decode.specs.declared.instr.UpperOp.TheVariants.{Auipc}
use Rattle.block_cut.specs.Relocs.{instr_in}
use Rattle.zc_link.specs.Codes.{code_bytes}
use Rattle.zc_link.specs.LaidOut.{HasBranchSize, HasCallSize, HasForm, HasJumpSize}
use Rattle.zc_link.specs.Standing.{HasOwnSize}
use Rattle.zc_link.specs.Values.{way}
use Rattle.zc_link.specs.Written.{SpellsWord}
use Rattle.zc_link.proofs.ItemBytes.{align_written, branch_form, branch_stands, branch_written, call_form, call_stands, call_written, jump_stands, pair_written, patched_left, raw_written, short_written}
use Rattle.zc_link.proofs.WayLaws.{taken, taken_is, way_word}
use Rattle.zc_link.proofs.item.item_code.Goals as goal

pub branch_code-requires : goal.branch_code-requires
branch_code-requires g c =
    let L = g.L.Layout.layout c.args.layout.now in
    let e = c.args.start in
    let b = c.in-Branch in
    let s = branch_stands L e.code.now e.at c.args.item e.address c.args.size c.requires.stands b.op b.first b.second b.to b.is in
    let far = c.distance_to-distance.ensures s.address s.listed in (
      b.op,
      b.first,
      b.second,
      refl,
      subst (HasBranchSize (instr.Branch b.op b.first b.second) c.args.size) (sym (taken_is e.address s.address _ far ∙ far))
          (branch_form L e.code.now e.at c.args.item e.address c.args.size c.requires.stands b.op b.first b.second b.to b.is),
    )

pub distance_to-distance-requires : goal.distance_to-distance-requires
distance_to-distance-requires g c =
    let e = c.args.start in
    let b = c.in-Branch in
    let s = branch_stands (g.L.Layout.layout c.args.layout.now) e.code.now e.at c.args.item e.address c.args.size c.requires.stands b.op b.first b.second b.to b.is in
    (s.address, s.listed)

pub distance_to-requires : goal.distance_to-requires
distance_to-requires g c =
    let e = c.args.start in
    let j = c.in-Jump in
    let s = jump_stands (g.L.Layout.layout c.args.layout.now) e.code.now e.at c.args.item e.address c.args.size c.requires.stands j.rd j.to j.is in
    (s.address, s.listed)

pub jump_code-requires : goal.jump_code-requires
jump_code-requires g c =
    let L = g.L.Layout.layout c.args.layout.now in
    let e = c.args.start in
    let j = c.in-Jump in
    let s = jump_stands L e.code.now e.at c.args.item e.address c.args.size c.requires.stands j.rd j.to j.is in
    let far = c.distance_to.ensures s.address s.listed in
    subst (HasJumpSize j.rd c.args.size) (sym (taken_is e.address s.address _ far ∙ far))
    (subst (HasForm L.address e.address (size_at (parsed L.inputs).objects e.at) c.args.size) j.is c.requires.stands.form s.address s.listed)

-- a call that isn't two words is a jump
one_jump : (rd n : ℕ) (d : ℤ) → n ≢ 8 → HasCallSize rd n d → HasJumpSize rd n d
one_jump rd n d other (inl eight) = absurd (other eight)
one_jump rd n d other (inr jump) = jump

pub jump_code-requires-else-size-eq8 : goal.jump_code-requires-else-size-eq8
jump_code-requires-else-size-eq8 g c =
    let L = g.L.Layout.layout c.args.layout.now in
    let e = c.args.start in
    let k = c.in-Call in
    let s = call_stands L e.code.now e.at c.args.item e.address c.args.size c.requires.stands k.rd k.temp k.to k.is in
    let far = c.distance_to-else-size-eq8.ensures s.address s.listed in
    subst (HasJumpSize k.rd c.args.size) (sym (taken_is e.address s.address _ far ∙ far))
    (one_jump k.rd c.args.size (as_signed (way e.address s.address)) c.if-size-eq8.false (call_form L e.code.now e.at c.args.item e.address c.args.size c.requires.stands k.rd k.temp k.to k.is))

pub short_code-requires-clause-patched : goal.short_code-requires-clause-patched
short_code-requires-clause-patched g c =
    let other = c.in_default in
    patched_left c.args.item other.not-Branch other.not-Jump (λ rd temp to. other.not-Call rd temp to) other.not-Align other.not-Raw other.not-RawShort other.not-RawPair

pub returns-in-Branch : goal.returns-in-Branch
returns-in-Branch g c =
    let L = g.L.Layout.layout c.args.layout.now in
    let e = c.args.start in
    let b = c.in-Branch in
    branch_written L e.code.now e.at c.args.item e.address c.args.size c.requires.stands b.op b.first b.second b.to b.is (taken c.distance_to-distance.result) _
    (λ b at. taken_is e.address b _ (c.distance_to-distance.ensures b at) ∙ c.distance_to-distance.ensures b at) (c.branch_code.ensures b.op b.first b.second refl)

pub returns-then-size-eq8 : goal.returns-then-size-eq8
returns-then-size-eq8 g c =
    let L = g.L.Layout.layout c.args.layout.now in
    let e = c.args.start in
    let k = c.in-Call in
    let s = call_stands L e.code.now e.at c.args.item e.address c.args.size c.requires.stands k.rd k.temp k.to k.is in
    let far = c.distance_to-then-size-eq8.ensures s.address s.listed in
    let size : size_at (parsed L.inputs).objects e.at ≡ 8 = subst (λ i. HasOwnSize i (size_at (parsed L.inputs).objects e.at)) k.is c.requires.stands.size in
    let first = ap (λ m. instr_in m e.code.now e.at.offset) (sym size) ∙ s.first_spells in
    let whole : as_word (taken c.distance_to-then-size-eq8.result) ≡ way e.address s.address = ap as_word (taken_is e.address s.address _ far ∙ far) ∙ way_word e.address s.address in
    call_written L e.code.now e.at c.args.item e.address c.args.size c.requires.stands k.rd k.temp k.to k.is _ c.if-size-eq8.true
    (subst (λ x. SpellsWord (take 4 (code_bytes c.call_code.result)) (instr.Upper Auipc k.temp (hi20_of x))) whole (c.call_code.ensures.upper k.temp s.upper first))
    (subst (λ x. SpellsWord (drop 4 (code_bytes c.call_code.result)) (instr.Jalr k.rd k.temp (lo12_of x))) whole (c.call_code.ensures.lower k.rd k.temp s.lower s.second_spells))

pub returns-in-Align : goal.returns-in-Align
returns-in-Align g c =
    let e = c.args.start in
    align_written (g.L.Layout.layout c.args.layout.now) e.code.now e.at c.args.item e.address c.args.size c.requires.stands c.in-Align.field-0 c.in-Align.is

pub returns-in-Raw : goal.returns-in-Raw
returns-in-Raw g c =
    let e = c.args.start in
    raw_written (g.L.Layout.layout c.args.layout.now) e.code.now e.at c.args.item e.address c.args.size c.requires.stands _ c.own_bytes.ensures.octets
    c.in-Raw.field-0 c.in-Raw.is c.own_bytes.ensures.own

pub returns-in-RawShort : goal.returns-in-RawShort
returns-in-RawShort g c =
    let e = c.args.start in
    short_written (g.L.Layout.layout c.args.layout.now) e.code.now e.at c.args.item e.address c.args.size c.requires.stands _ c.own_bytes-in-RawShort.ensures.octets
    c.in-RawShort.field-0 c.in-RawShort.is c.own_bytes-in-RawShort.ensures.own

pub returns-in-RawPair : goal.returns-in-RawPair
returns-in-RawPair g c =
    let e = c.args.start in
    pair_written (g.L.Layout.layout c.args.layout.now) e.code.now e.at c.args.item e.address c.args.size c.requires.stands _ c.own_bytes-in-RawPair.ensures.octets
    c.in-RawPair.field-0 c.in-RawPair.field-1 c.in-RawPair.is c.own_bytes-in-RawPair.ensures.own
