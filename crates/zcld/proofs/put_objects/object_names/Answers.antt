-- A name more.
use Rattle.std.proofs.Common.{◌≡◌, ◌+◌, [], ◌∷◌, ◌++◌, sym, ap, ◌∙◌, arith}
use Rattle.std.proofs.lemmas.List.{map-append}
use Rattle.std.specs.String.{string_bytes}
use Rattle.command_words.specs.Command.{texts}
use Rattle.zcld.specs.ObjectNames.{names_from, object_name}
use Rattle.zcld.proofs.ObjectFiles.{names_more}
use Rattle.zcld.proofs.put_objects.object_names.Goals as goal

pub loop-i-preserved : goal.loop-i-preserved
loop-i-preserved c =
    let prefix = c.args.prefix.now in
    let names = c.loop-i.names.items in
    let name = c.in_ok-object_name.field-0 in
    let first : c.loop-i.i ≡ 0 + c.loop-i.i = omega arith in
    let named : string_bytes name ≡ object_name prefix (0 + c.loop-i.i) = c.in_ok-object_name.ensures ∙ ap (object_name prefix) first in
    ap texts c.in_ok-push.ensures.items
    ∙ map-append string_bytes names (name ∷ [])
    ∙ ap (λ all. all ++ string_bytes name ∷ []) c.loop-i.invariant
    ∙ ap (λ last. names_from prefix 0 c.loop-i.i ++ last ∷ []) named
    ∙ sym (names_more prefix 0 c.loop-i.i)
