use Rattle.std.proofs.Common.{◌≡◌, ◌<◌, true, length, slice_index, ap, ◌∙◌, sym, arith}
use Rattle.rv_decode.specs.Memory.{changed, extents_of, is_data, lies_in, written}
use Rattle.rv_decode.specs.State.{ZcCore, reg_in}
use Rattle.rv_decode.proofs.MemoryLaws.{lies_inside}
use Rattle.zc_machine.specs.Answer.{has_read}
use Rattle.zc_machine.proofs.RegionLaws.{changed-made}
use Rattle.zc_machine.proofs.StepLaws.{read_shows}
use Rattle.zc_machine.proofs.machine.Machine.answer_read.Goals as goal

pub prove-unreachable-requires : goal.prove-unreachable-requires
prove-unreachable-requires c =
    let wanted = c.requires.wanted in
    let shown = read_shows c.args.self.now wanted.0 wanted.1 wanted.2 in
    let len : wanted.1 ≡ c.from.result = shown.1 ∙ sym (ap (λ (z : ZcCore). reg_in z 12) c.self.view_is) ∙ sym c.from.ensures in
    omega (arith, len, wanted.3, c.if-prove.true)

pub returns : goal.returns
returns c =
    let z = c.args.self.now in
    let bytes = c.args.bytes.now in
    let n = length bytes in
    let wanted = c.requires.wanted in
    let shown = read_shows z wanted.0 wanted.1 wanted.2 in
    let few = wanted.3 in
    let lies : 0 < n → lies_in is_data (extents_of z.memory) (reg_in z 11) n ≡ true =
    λ some. lies_inside is_data (extents_of z.memory) wanted.0 wanted.1 (reg_in z 11) n (shown.2 (omega (arith, some, few))) (omega (arith, shown)) (omega (arith, shown, few)) in
    let made : 0 < n → c.write.result ≡ true = λ some. c.write.ensures.reached ∙ ap (λ (y : ZcCore). lies_in is_data (extents_of y.memory) (reg_in y 11) n) c.self.view_is ∙ lies some in
    let memory : c.write.new.self ≡ changed (written (reg_in z 11) n (slice_index bytes)) z.memory =
    c.write.ensures.after
    ∙ changed-made _ n (slice_index bytes) c.self.inside.memory c.write.result made
    ∙ ap (λ (y : ZcCore). changed (written (reg_in y 11) n (slice_index bytes)) y.memory) c.self.view_is in
    λ i. record (has_read bytes (c.self.view_is i)) { memory = memory i }
