use Rattle.std.proofs.Common.{◌≡◌, ℤ, pos, negsuc, sym, ap, subst, ◌∙◌, arith, to_z, of_z, w32}
use Rattle.std.specs.Option.{option_map_or}
use Rattle.std.proofs.lemmas.Int.{to_z-of_z}
use Rattle.rv_decode.specs.Bits.{FitsIn}
use Rattle.rv_decode.specs.Immediates.{InRange}
use Rattle.block_cut.specs.declared.item.Item.TheVariants.{Branch, Jump}
use Rattle.block_cut.specs.Items.{instr_item, target_away}
use Rattle.block_cut.proofs.spelled.instr_item.Goals as goal

-- a distance of at most 21 bits is read back from its word
read_back : (z : ℤ) → FitsIn 21 z → to_z w32 (of_z w32 z) ≡ z
read_back (pos n) lt = to_z-of_z w32 (pos n) (omega (arith, lt))
read_back (negsuc n) lt = to_z-of_z w32 (negsuc n) (omega (arith, lt))

far : (z : ℤ) → FitsIn 13 z → FitsIn 21 z
far (pos n) lt = omega (arith, lt)
far (negsuc n) lt = omega (arith, lt)

pub returns-in-Some : goal.returns-in-Some
returns-in-Some c = λ objects s at whole are.
    let q = c.args.q in
    let raw = c.args.raw in
    let same = read_back c.in-Jal.distance (subst InRange c.in-Jal.is c.requires).0 in
    let found = ap (target_away objects q) (sym same) ∙ sym (c.target_away.ensures objects s at whole are) ∙ c.in-Some.is in
    sym (ap (λ i. instr_item objects q i raw) c.in-Jal.is ∙ ap (λ t. option_map_or (Jump c.in-Jal.rd) t raw) found)

pub returns-in-None : goal.returns-in-None
returns-in-None c = λ objects s at whole are.
    let q = c.args.q in
    let raw = c.args.raw in
    let same = read_back c.in-Jal.distance (subst InRange c.in-Jal.is c.requires).0 in
    let found = ap (target_away objects q) (sym same) ∙ sym (c.target_away.ensures objects s at whole are) ∙ c.in-None.is in
    sym (ap (λ i. instr_item objects q i raw) c.in-Jal.is ∙ ap (λ t. option_map_or (Jump c.in-Jal.rd) t raw) found)

pub returns-in-Some-target_away : goal.returns-in-Some-target_away
returns-in-Some-target_away c = λ objects s at whole are.
    let q = c.args.q in
    let raw = c.args.raw in
    let b = c.in-Branch in
    let same = read_back b.distance (far b.distance (subst InRange b.is c.requires).0) in
    let found = ap (target_away objects q) (sym same) ∙ sym (c.target_away-in-Branch.ensures objects s at whole are) ∙ c.in-Some-target_away.is in
    sym (ap (λ i. instr_item objects q i raw) b.is ∙ ap (λ t. option_map_or (Branch b.op b.first b.second) t raw) found)

pub returns-in-None-target_away : goal.returns-in-None-target_away
returns-in-None-target_away c = λ objects s at whole are.
    let q = c.args.q in
    let raw = c.args.raw in
    let b = c.in-Branch in
    let same = read_back b.distance (far b.distance (subst InRange b.is c.requires).0) in
    let found = ap (target_away objects q) (sym same) ∙ sym (c.target_away-in-Branch.ensures objects s at whole are) ∙ c.in-None-target_away.is in
    sym (ap (λ i. instr_item objects q i raw) b.is ∙ ap (λ t. option_map_or (Branch b.op b.first b.second) t raw) found)
