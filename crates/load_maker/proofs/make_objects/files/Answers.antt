use Rattle.std.proofs.Common.{◌<◌, length, subst, sym, ap, ◌∙◌, arith}
use Rattle.std.specs.Prelude.{All}
use Rattle.std.specs.List.{flat_map}
use Rattle.elf32_write.specs.ObjectFile.{object_bytes}
use Rattle.elf32_write.specs.Writable.{IsWritable}
use Rattle.psabi_sym.specs.Objects.{contents_of}
use Rattle.load_maker.specs.Objects.{group, group_count, group_object}
use Rattle.load_maker.specs.Statements.{IsInRange, code_size}
use Rattle.load_maker.proofs.BodyLaws.{code_of, group_short, length-functions_from}
use Rattle.load_maker.proofs.CodeLaws.{right_range}
use Rattle.load_maker.proofs.FileLaws.{files_all, files_more}
use Rattle.load_maker.proofs.WrittenLaws.{group_right, group_written}
use Rattle.load_maker.proofs.make_objects.files.Goals as goal

pub file_of-requires-clause-within : goal.file_of-requires-clause-within
file_of-requires-clause-within c =
    omega (arith, c.loop-k-test.true, ap length (c.deref.ensures.value ∙ c.in_ok-bodies.ensures), length-functions_from c.args.functions 0 c.args.number)

pub file_of-requires-clause-size : goal.file_of-requires-clause-size
file_of-requires-clause-size c =
    omega (arith, ap (λ l. code_size (flat_map (λ body. body) (group l c.loop-k.k))) (c.deref.ensures.value ∙ c.in_ok-bodies.ensures), group_short c.args.number c.args.functions c.loop-k.k)

pub file_of-requires-clause-range : goal.file_of-requires-clause-range
file_of-requires-clause-range c =
    let code = code_of c.args.number c.args.functions c.loop-k.k in
    let within : c.loop-k.k < group_count c.args.functions = omega arith in
    subst (λ l. All IsInRange (flat_map (λ body. body) (group l c.loop-k.k))) (sym (c.deref.ensures.value ∙ c.in_ok-bodies.ensures))
    (right_range c.args.functions code (group_right c.args.number c.args.functions c.loop-k.k c.requires within))

pub file_of-requires-clause-writable : goal.file_of-requires-clause-writable
file_of-requires-clause-writable c =
    let within : c.loop-k.k < group_count c.args.functions = omega arith in
    subst (λ l. IsWritable (group_object l c.loop-k.k)) (sym (c.deref.ensures.value ∙ c.in_ok-bodies.ensures))
    (group_written c.args.number c.args.functions c.loop-k.k c.requires within).writable

pub loop-k-preserved : goal.loop-k-preserved
loop-k-preserved c =
    ap contents_of c.in_ok-push-2.ensures.items
    ∙ files_more c.args.number c.args.functions c.loop-k.k c.loop-k.files.items c.in_ok-file_of.field-0 c.loop-k.invariant
    (c.in_ok-file_of.ensures ∙ ap (λ l. object_bytes (group_object l c.loop-k.k)) (c.deref.ensures.value ∙ c.in_ok-bodies.ensures))

pub returns : goal.returns
returns c = files_all c.args.number c.args.functions c.loop-k.k c.loop-k.files.items c.loop-k.invariant (omega arith)
