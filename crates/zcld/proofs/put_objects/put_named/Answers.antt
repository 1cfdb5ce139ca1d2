-- Without memory for the names nothing is put.
use Rattle.std.proofs.Common.{◌∙◌, length, ap, sym, refl, inl, inr}
use Rattle.std.proofs.lemmas.List.{length-map}
use Rattle.std.proofs.lemmas.Result.{err_from_is_err_and}
use Rattle.std.specs.String.{string_bytes}
use Rattle.command_words.specs.Command.{texts}
use Rattle.zcld.proofs.ObjectFiles.{names_count}
use Rattle.zcld.proofs.MakeFacts.{if_err, on_ok}
use Rattle.zcld.proofs.put_objects.put_named.Goals as goal

pub returns-in_err-names-clause-err : goal.returns-in_err-names-clause-err
returns-in_err-names-clause-err g c =
    let p = err_from_is_err_and c.from_residual.result c.from_residual.ensures.1 in rw (p.1, p.2) (inl (refl, refl))

pub put_all-requires : goal.put_all-requires
put_all-requires g c =
    ap length c.as_slice.ensures.value
    ∙ sym (length-map c.in_ok-names.names.items string_bytes)
    ∙ ap length c.in_ok-names.ensures
    ∙ names_count c.args.prefix.now 0 (length c.args.objects.now)

pub returns-clause-ok : goal.returns-clause-ok
returns-clause-ok g c =
    let named = ap texts c.as_slice.ensures.value ∙ c.in_ok-names.ensures in
    on_ok c.put_all.result (λ puts. puts c.args.prefix.now named) c.put_all.ensures.ok

pub returns-clause-err : goal.returns-clause-err
returns-clause-err g c =
    let named = ap texts c.as_slice.ensures.value ∙ c.in_ok-names.ensures in
    if_err c.put_all.result (λ outcome puts. inr (λ text desk. puts c.args.prefix.now text desk named)) c.put_all.ensures.err
