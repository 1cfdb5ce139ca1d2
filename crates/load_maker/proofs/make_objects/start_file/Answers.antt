use Rattle.std.proofs.Common.{subst, sym, ap, ◌∙◌}
use Rattle.elf32_write.specs.ObjectFile.{object_bytes}
use Rattle.elf32_write.specs.Writable.{IsWritable}
use Rattle.load_maker.proofs.FirstLaws.{first_unfolded}
use Rattle.load_maker.proofs.WrittenLaws.{start_written}
use Rattle.load_maker.proofs.make_objects.start_file.Goals as goal

pub write_object-requires : goal.write_object-requires
write_object-requires c =
    subst IsWritable (sym (first_unfolded c.args.number c.args.functions _ c.in_ok-parts.ensures)) (start_written c.args.number c.args.functions c.requires).writable

pub returns : goal.returns
returns c = c.in_ok-file.ensures.bytes ∙ ap object_bytes (first_unfolded c.args.number c.args.functions _ c.in_ok-parts.ensures)
