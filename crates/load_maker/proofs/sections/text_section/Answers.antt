use Rattle.std.proofs.Common.{◌≡◌, map, false, ◌∙◌, arith}
use Rattle.sound_objects.specs.Fragments.{fragments_size}
use Rattle.load_maker.specs.Objects.{symbol_of}
use Rattle.load_maker.specs.Statements.{named_by, fragment_of}
use Rattle.load_maker.proofs.CodeLaws.{bytes_any, bytes_long, code_sized}
use Rattle.load_maker.proofs.sections.text_section.Goals as goal

pub overflow_cast-result : goal.overflow_cast-result
overflow_cast-result c =
    let long = bytes_long c.args.statements.now _ c.in_ok-bytes.ensures in
    omega (arith, c.len.ensures, c.in_ok-bytes.bytes.ok, long, c.requires.size)

pub returns-clause-text : goal.returns-clause-text
returns-clause-text c =
    let statements = c.args.statements.now in
    let symbol = symbol_of c.args.others (named_by c.args.named.now.keys statements) in
    let long = bytes_long statements _ c.in_ok-bytes.ensures in
    let size : c.len.result ≡ fragments_size (map (fragment_of symbol) statements) =
    omega (arith, c.len.ensures, c.in_ok-bytes.bytes.ok, long, code_sized symbol statements) in
    let bytes = c.in_ok-bytes.ensures ∙ bytes_any (λ function. 0) symbol statements in
    λ j. record {
      name = c.in_ok-name.ensures.items j;
      kind = 1;
      flags = 6;
      align = 4;
      size = size j;
      bytes = bytes j;
      relocs = c.in_ok-relocs.ensures.relocs j;
      compressed = false;
    }
