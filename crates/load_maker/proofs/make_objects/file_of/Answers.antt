use Rattle.std.proofs.Common.{◌*◌, length, subst, sym, ap, ◌∙◌, arith}
use Rattle.std.specs.List.{flat_map}
use Rattle.std.specs.Prelude.{All}
use Rattle.elf32_write.specs.Writable.{IsWritable}
use Rattle.load_maker.specs.Objects.{function_object}
use Rattle.load_maker.specs.Statements.{IsInRange, code_size}
use Rattle.load_maker.proofs.FileLaws.{group_few}
use Rattle.load_maker.proofs.make_objects.file_of.Goals as goal

pub function_object-requires-clause-number : goal.function_object-requires-clause-number
function_object-requires-clause-number c = omega (arith, ap length c.group_of.ensures, group_few c.args.bodies.now c.args.k, c.requires.small)

pub function_object-requires-clause-size : goal.function_object-requires-clause-size
function_object-requires-clause-size c = omega (arith, ap (λ l. code_size (flat_map (λ body. body) l)) c.group_of.ensures, c.requires.size)

pub function_object-requires-clause-range : goal.function_object-requires-clause-range
function_object-requires-clause-range c = subst (λ l. All IsInRange (flat_map (λ body. body) l)) (sym c.group_of.ensures) c.requires.range

pub write_object-requires : goal.write_object-requires
write_object-requires c = subst IsWritable (sym (c.in_ok-parts.ensures ∙ ap (function_object (8 * c.args.k)) c.group_of.ensures)) c.requires.writable
