use Rattle.std.proofs.Common.{◌∙◌, Some, ap, arith, sym}
use Rattle.std.proofs.lemmas.Option.{get_or_from_slice_get, slice_get_within}
use Rattle.frame_match.specs.declared.role.Role.TheVariants.{First}
use Rattle.frame_match.proofs.RoleLaws.{apart_role, index_within, section_within, start_role, within_role}
use Rattle.frame_match.proofs.planned.Planned.role_at.Goals as goal

pub index-requires : goal.index-requires
index-requires c =
    let inside = c.self.inside in
    let h = section_within _ c.args.self.now inside.groups.items inside.sections.items c.self.view_is c.self.invariant c.requires.0 c.args.number c.requires.1 c.requires.2 in
    omega (arith, h, inside.sections.ok.0)

pub get-requires : goal.get-requires
get-requires c =
    let inside = c.self.inside in
    index_within _ c.args.self.now inside.groups.items inside.sections.items c.self.view_is c.self.invariant c.requires.0 c.args.number c.requires.1 c.requires.2 c.index.result.now c.index.ensures

pub index-requires-in-Start : goal.index-requires-in-Start
index-requires-in-Start c =
    let inside = c.self.inside in
    let w = start_role _ c.args.self.now inside.groups.items inside.sections.items c.self.view_is c.self.invariant c.requires.0 c.args.number c.requires.1 c.requires.2 c.index.result.now c.in-Start.n c.index.ensures c.in-Start.ensures in
    let h = slice_get_within inside.groups.items c.in-Start.n w.0 w.1 in
    omega (arith, h, inside.groups.ok.0)

pub returns-in-Apart : goal.returns-in-Apart
returns-in-Apart c q start has =
    let inside = c.self.inside in
    apart_role _ c.args.self.now inside.groups.items inside.sections.items c.self.view_is c.self.invariant q c.args.number start has c.index.result.now c.index.ensures c.in-Apart.ensures

pub returns-in-Start : goal.returns-in-Start
returns-in-Start c q start has =
    let inside = c.self.inside in
    let w = start_role _ c.args.self.now inside.groups.items inside.sections.items c.self.view_is c.self.invariant q c.args.number start has c.index.result.now c.in-Start.n c.index.ensures c.in-Start.ensures in
    w.2 ∙ ap (λ g. Some (First g)) (sym (c.index-in-Start.ensures ∙ get_or_from_slice_get inside.groups.items c.in-Start.n w.0 c.index-in-Start.result.now w.1))

pub returns-in-Within : goal.returns-in-Within
returns-in-Within c q start has =
    let inside = c.self.inside in
    within_role _ c.args.self.now inside.groups.items inside.sections.items c.self.view_is c.self.invariant q c.args.number start has c.index.result.now c.index.ensures c.in-Within.ensures
