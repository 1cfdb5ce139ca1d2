use Rattle.std.proofs.Common.{◌≡◌, ℕ, ◌+◌, ◌<◌, List, [], ◌∷◌, ◌++◌, Bool, true, false, cond, eqb, length, take, get_or, append-nil, refl, sym, ap, ap₂, ◌∙◌, arith}
use Rattle.std.specs.List.{list_any}
use Rattle.std.proofs.lemmas.List.{length-set, length-take-le, take_all, take_more, take_more_set}
use Rattle.rv_decode.specs.EventBytes.{shown_bytes}
use Rattle.devices.proofs.ShownLaws.{shown_more}
use Rattle.devices.proofs.environment.shown_bytes.Goals as goal
use Rattle.devices.proofs.environment.shown_bytes.Goals.{then-is_output, else-is_output}

-- what is shown of one byte more
next_shown :
    (outputs : List ℕ) (a : ℕ) (bytes : List ℕ) (i d : ℕ) (b : Bool) → i < length bytes → b ≡ list_any (λ x. eqb x (a + i)) outputs
    → shown_bytes outputs a (take i bytes) ++ cond b (get_or bytes i d ∷ []) [] ≡ shown_bytes outputs a (take (i + 1) bytes)
next_shown outputs a bytes i d b lt is =
    let size : length (take i bytes) ≡ i = length-take-le i bytes (omega arith) in
    sym (ap (shown_bytes outputs a) (take_more bytes i d lt)
    ∙ shown_more outputs a (take i bytes) (get_or bytes i d)
    ∙ ap (λ t. shown_bytes outputs a (take i bytes) ++ cond t (get_or bytes i d ∷ []) []) (ap (λ k. list_any (λ x. eqb x (a + k)) outputs) size ∙ sym is))

pub loop-i-init : goal.loop-i-init
loop-i-init c = record { room = refl; within = omega arith; bytes = refl }

pub loop-i-preserved : goal.loop-i-preserved
loop-i-preserved c =
    let kept = c.loop-i.invariant in
    let within = kept.within in
    let bytes = c.args.bytes.now in
    let i = c.loop-i.i in
    let b = get_or bytes i 0 in
    elim c.if-is_output.branch [
      | then-is_output w ↦
          record {
            room = ap length w.shown-is ∙ length-set c.loop-i.shown c.loop-i.count b ∙ kept.room;
            within = omega (arith, w.count-is, within);
            bytes =
                ap₂ take w.count-is w.shown-is
                ∙ take_more_set c.loop-i.shown c.loop-i.count b (omega (arith, within, kept.room, c.requires.few))
                ∙ ap (λ xs. xs ++ b ∷ []) kept.bytes
                ∙ next_shown c.args.devices.now.outputs c.args.at bytes i 0 true (omega arith) (sym w.if-is_output.true ∙ c.is_output.ensures);
          }
      | else-is_output w ↦
          record {
            room = ap length w.shown-is ∙ kept.room;
            within = omega (arith, w.count-is, within);
            bytes =
                ap₂ take w.count-is w.shown-is
                ∙ kept.bytes
                ∙ sym (append-nil (shown_bytes c.args.devices.now.outputs c.args.at (take i bytes)))
                ∙ next_shown c.args.devices.now.outputs c.args.at bytes i 0 false (omega arith) (sym w.if-is_output.false ∙ c.is_output.ensures);
          }
    ]

pub returns-clause-few : goal.returns-clause-few
returns-clause-few c = let within = c.loop-i.invariant.within in omega (arith, within, c.requires.few)

pub returns-clause-bytes : goal.returns-clause-bytes
returns-clause-bytes c = c.loop-i.invariant.bytes ∙ ap (shown_bytes c.args.devices.now.outputs c.args.at) (take_all c.loop-i.i c.args.bytes.now (omega arith))
