-- The object at hand joins those before it, and those after it aren't read if it can't be had.
use Rattle.std.proofs.Common.{◌≡◌, ◌++◌, ◌∷◌, [], length, ltb, take, ap, subst, ◌∙◌, arith, length-append}
use Rattle.std.proofs.lemmas.List.{take_all}
use Rattle.std.proofs.lemmas.Result.{err_from_is_err_and}
use Rattle.command_words.specs.Command.{texts}
use Rattle.zc_outside.specs.Wanted.{AreRead}
use Rattle.zc_outside.proofs.Wanted.{AreRead-more, ReadCause-stop, ReadsAll-more, ReadsAll-stop}
use Rattle.zcld.specs.Objects.{objects_wanted}
use Rattle.zcld.specs.declared.limits.TheConstants.{OBJECT_LIMIT}
use Rattle.zcld.proofs.Refusals.{unread}
use Rattle.zcld.proofs.objects.read_all.Goals as goal

pub returns-in_err-file-clause-err : goal.returns-in_err-file-clause-err
returns-in_err-file-clause-err g c =
    let shown = g.S.Store.shown in
    let fault = c.in_err-file.field-0.0 in
    let own = rw c.as_str.ensures.value at c.in_err-file.ensures.cause in
    let cause = ReadCause-stop OBJECT_LIMIT c.args.names.now c.loop-i.i c.index-names-i.result c.loop-i-test.true c.index-names-i.is
    (shown c.args.store.now) (shown c.loop-i.store) (shown c.read_file.new.store) fault c.loop-i.invariant.reads own in
    let p = err_from_is_err_and c.from_residual.result c.from_residual.ensures.1 in
    rw p.1 (unread (objects_wanted (texts c.args.names.now)) (shown c.args.store.now) (shown c.read_file.new.store) fault _ p.2 cause)

pub returns-in_err-file-clause-reads : goal.returns-in_err-file-clause-reads
returns-in_err-file-clause-reads g c =
    let next = rw c.as_str.ensures.value at c.read_file.ensures.reads in
    ReadsAll-stop OBJECT_LIMIT c.args.names.now c.loop-i.i c.index-names-i.result c.loop-i-test.true c.index-names-i.is c.loop-i.invariant.reads next

pub returns-in_err-add-clause-reads : goal.returns-in_err-add-clause-reads
returns-in_err-add-clause-reads g c =
    let next = rw c.as_str.ensures.value at c.read_file.ensures.reads in
    ReadsAll-stop OBJECT_LIMIT c.args.names.now c.loop-i.i c.index-names-i.result c.loop-i-test.true c.index-names-i.is c.loop-i.invariant.reads next

pub loop-i-preserved : goal.loop-i-preserved
loop-i-preserved g c =
    let before = (g.S.Store.shown c.args.store.now).files in
    let here = (g.S.Store.shown c.loop-i.store).files in
    let so_far = c.loop-i.invariant.read in
    let next = rw c.as_str.ensures.value at c.read_file.ensures.reads in
    let last = rw c.as_str.ensures.value at c.in_ok-file.ensures.ok in
    let file = c.in_ok-file.file.items in
    let more = AreRead-more OBJECT_LIMIT c.args.names.now c.loop-i.i c.index-names-i.result c.loop-i-test.true c.index-names-i.is in
    record {
      read = (
        so_far.0 ++ file ∷ [],
        more before here so_far.0 file c.loop-i.invariant.reads.files so_far.1 last,
        c.in_ok-add.ensures.keeps so_far.0 so_far.2 so_far.3,
        omega (arith, length-append so_far.0 (file ∷ []), so_far.3),
      );
      reads = ReadsAll-more OBJECT_LIMIT c.args.names.now c.loop-i.i c.index-names-i.result c.loop-i-test.true c.index-names-i.is c.loop-i.invariant.reads next;
      many = c.add.ensures.many ∙ c.loop-i.invariant.many;
    }

pub returns-clause-ok : goal.returns-clause-ok
returns-clause-ok g c =
    let before = (g.S.Store.shown c.args.store.now).files in
    let so_far = c.loop-i.invariant.read in
    let all : take c.loop-i.i c.args.names.now ≡ c.args.names.now = take_all c.loop-i.i c.args.names.now (omega arith) in
    let count : length c.args.names.now ≡ length so_far.0 = omega (arith, so_far.3) in
    record {
      files = so_far.0;
      read = subst (λ names. AreRead before (objects_wanted (texts names)) so_far.0) all so_far.1;
      kept = record { keeps = so_far.2; many = c.loop-i.invariant.many ∙ ap (ltb 256) count };
    }
