use Rattle.std.proofs.Common.{◌≡◌, ◌<◌, true, sym, subst}
use Rattle.rv_decode.specs.Memory.{extents_of, is_data, lies_in}
use Rattle.rv_decode.specs.State.{ZcCore, reg_in}
use Rattle.zc_machine.proofs.StepLaws.{read_shows}
use Rattle.zc_machine.proofs.machine.Machine.answer_read_from.Goals as goal

pub fill-requires : goal.fill-requires
fill-requires c =
    let z = c.args.self.now in
    let wanted = c.requires.wanted in
    let shown = read_shows z wanted.0 wanted.1 wanted.2 in
    let lies : 0 < reg_in z 12 → lies_in is_data (extents_of z.memory) (reg_in z 11) (reg_in z 12) ≡ true =
    subst (λ n. 0 < n → lies_in is_data (extents_of z.memory) (reg_in z 11) n ≡ true) shown.1
    (subst (λ a. 0 < wanted.1 → lies_in is_data (extents_of z.memory) a wanted.1 ≡ true) shown.0 shown.2) in
    subst (λ (y : ZcCore). 0 < reg_in y 12 → lies_in is_data (extents_of y.memory) (reg_in y 11) (reg_in y 12) ≡ true) (sym c.self.view_is) lies
