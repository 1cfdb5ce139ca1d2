-- A place has a mark exactly if an item starts there: a section ends after its last item.
use Rattle.std.proofs.Common.{◌≡◌, ◌∙◌, None, ap, arith, sym}
use Rattle.psabi_sym.specs.Faults.{gather_fault}
use Rattle.psabi_sym.specs.Inputs.{parsed}
use Rattle.frame_match.proofs.RoleLaws.{marked_start, no_role, place_within, unmarked_start}
use Rattle.frame_match.proofs.planned.Planned.role_by.Goals as goal

pub index-requires : goal.index-requires
index-requires c =
    let inside = c.self.inside in
    let h = place_within _ c.args.self.now inside.groups.items inside.sections.items c.self.view_is c.self.invariant c.requires.0 c.args.number c.requires.2 in
    omega (arith, h, inside.sections.ok.0)

pub role_at-requires : goal.role_at-requires
role_at-requires c =
    let inside = c.self.inside in
    let none : gather_fault c.args.self.now ≡ None = ap gather_fault (sym c.self.view_is) ∙ c.recall_invariant.ensures.gathered in
    let start = marked_start _ c.args.self.now inside.groups.items inside.sections.items c.self.view_is c.self.invariant c.requires.0 c.args.number c.requires.2 c.index.result.now
    c.index.ensures none c.requires.1 (omega (arith, c.if-number-len.true, c.len.ensures)) in
    (c.requires.0, start, c.requires.2)

pub returns-then-number-len : goal.returns-then-number-len
returns-then-number-len c q target has =
    let inside = c.self.inside in
    let none : gather_fault c.args.self.now ≡ None = ap gather_fault (sym c.self.view_is) ∙ c.recall_invariant.ensures.gathered in
    let start = marked_start _ c.args.self.now inside.groups.items inside.sections.items c.self.view_is c.self.invariant q c.args.number has c.index.result.now
    c.index.ensures none target (omega (arith, c.if-number-len.true, c.len.ensures)) in
    sym (c.role_at.ensures q start has)

pub returns-else-number-len : goal.returns-else-number-len
returns-else-number-len c q target has =
    let inside = c.self.inside in
    sym (no_role (parsed c.args.self.now) q (unmarked_start _ c.args.self.now inside.groups.items inside.sections.items c.self.view_is c.self.invariant q c.args.number has
    c.index.result.now c.index.ensures (omega (arith, c.if-number-len.false, c.len.ensures))))
