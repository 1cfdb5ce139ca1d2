-- Objects are put in turn; where one can't be put, those before it stand.
use Rattle.std.proofs.Common.{◌≡◌, ◌+◌, ◌<◌, length, get_or, take, sym, ap, subst, ◌∙◌, arith}
use Rattle.std.proofs.Math.ListN.{length-map}
use Rattle.std.proofs.lemmas.List.{get_or-map, take_all}
use Rattle.std.proofs.lemmas.Result.{err_from_is_err_and}
use Rattle.std.specs.String.{string_bytes}
use Rattle.psabi_sym.specs.Objects.{contents_of}
use Rattle.zc_outside.specs.Files.{PutsFile}
use Rattle.zc_outside.proofs.Shelf.{OnlyPuts-refl, OnlyPuts-trans}
use Rattle.zcld.specs.ObjectNames.{named_from, names_from, object_name}
use Rattle.zcld.specs.Puts.{PutsFiles}
use Rattle.zcld.proofs.ObjectFiles.{name_at, named_count, named_more, other_names}
use Rattle.zcld.proofs.PutLaws.{PutsFiles-more, PutsFiles-none, put_refused}
use Rattle.zcld.proofs.put_objects.put_all.Goals as goal

pub loop-i-init : goal.loop-i-init
loop-i-init g c = record {
  put = λ prefix named. PutsFiles-none (g.S.Store.shown c.args.store.now).files;
  only = OnlyPuts-refl (g.S.Store.shown c.args.store.now);
}

pub returns-in_err-put-clause-err : goal.returns-in_err-put-clause-err
returns-in_err-put-clause-err g c =
    let shown = g.S.Store.shown in
    let objects = contents_of c.args.objects.now in
    let count : length objects ≡ length c.args.objects.now = simp (length-map) in
    let p = err_from_is_err_and c.from_residual.result c.from_residual.ensures.1 in
    rw (p.1, p.2)
    (λ prefix text desk named.
    put_refused (record { files = named_from prefix 0 objects; text = text }) (shown c.args.store.now) (shown c.loop-i.store) (shown c.put.new.store) desk
    c.loop-i.i (omega (arith, count, named_count prefix 0 objects)) (c.loop-i.invariant.put prefix named) c.in_err-put.ensures.err c.loop-i.invariant.only
    c.in_err-put.field-0.0 c.in_err-put.ensures.cause)

pub returns-in_err-put-clause-puts : goal.returns-in_err-put-clause-puts
returns-in_err-put-clause-puts g c = OnlyPuts-trans c.loop-i.invariant.only c.put.ensures.puts

pub loop-i-preserved : goal.loop-i-preserved
loop-i-preserved g c =
    let shown = g.S.Store.shown in
    let objects = contents_of c.args.objects.now in
    let names = c.args.names.now in
    let count : length objects ≡ length c.args.objects.now = simp (length-map) in
    let i = c.loop-i.i in
    let before = (shown c.args.store.now).files in
    let here = (shown c.loop-i.store).files in
    let after = (shown c.put.new.store).files in
    let bytes = c.index-objects-i.result.items in
    let within : i < length objects = omega (arith, count) in
    let is : bytes ≡ get_or objects i bytes =
    ap (λ file. file.items) c.index-objects-i.is ∙ sym (get_or-map (λ file. file.items) c.args.objects.now i c.index-objects-i.result bytes c.loop-i-test.true) in
    let name = c.index-names-i.result in
    record {
      put = λ prefix named.
          let same : string_bytes name ≡ get_or (names_from prefix 0 (length c.args.objects.now)) i (string_bytes name) =
          ap string_bytes c.index-names-i.is ∙ sym (get_or-map string_bytes names i name (string_bytes name) (omega (arith, c.requires)))
          ∙ ap (λ texts. get_or texts i (string_bytes name)) named in
          let at : string_bytes name ≡ object_name prefix (0 + i) = name_at prefix 0 (length c.args.objects.now) i (string_bytes name) c.loop-i-test.true same in
          let put : PutsFile here after (object_name prefix (0 + i)) bytes =
          subst (λ b. PutsFile here after (object_name prefix (0 + i)) b) c.as_slice.ensures.value
          (subst (λ n. PutsFile here after n c.as_slice.result.now) (c.as_str.ensures.value ∙ at) c.in_ok-put.ensures.ok) in
          let other = other_names prefix (0 + i) 0 objects i (omega arith) (omega arith) in
          subst (λ files. PutsFiles before after files) (sym (named_more prefix 0 objects i bytes within is))
          (PutsFiles-more before here after (take i (named_from prefix 0 objects)) (object_name prefix (0 + i)) bytes other (c.loop-i.invariant.put prefix named) put);
      only = OnlyPuts-trans c.loop-i.invariant.only c.put.ensures.puts;
    }

pub returns-clause-ok : goal.returns-clause-ok
returns-clause-ok g c = λ prefix named.
    let objects = contents_of c.args.objects.now in
    let count : length objects ≡ length c.args.objects.now = simp (length-map) in
    subst (λ files. PutsFiles (g.S.Store.shown c.args.store.now).files (g.S.Store.shown c.loop-i.store).files files)
    (take_all c.loop-i.i (named_from prefix 0 objects) (omega (arith, count, named_count prefix 0 objects))) (c.loop-i.invariant.put prefix named)

pub returns-clause-puts : goal.returns-clause-puts
returns-clause-puts g c = c.loop-i.invariant.only
