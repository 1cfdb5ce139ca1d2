-- The sections of the generated objects can be written.
use Rattle.std.proofs.Common.{◌≡◌, ℕ, ◌+◌, ◌<◌, ◌≤◌, ◌^◌, List, ◌∷◌, ◌++◌, length, map, false, Some, refl, arith}
use Rattle.std.specs.Prelude.{All}
use Rattle.std.proofs.lemmas.List.Elements.{All-from_recursion, All-nil}
use Rattle.std.proofs.lemmas.Option.{slice_get_within}
use Rattle.elf32_read.specs.Object.{is_bad_alignment}
use Rattle.elf32_read.specs.declared.reloc.Reloc.{Reloc}
use Rattle.elf32_write.specs.Ranges.{IsRelocSized, IsSectionSized}
use Rattle.elf32_write.proofs.SoundParts.{IsSoundSection}
use Rattle.sound_objects.specs.Fragments.{Fragment, relocs_at, relocs_from}
use Rattle.sound_objects.proofs.FragmentLaws.{bytes_sized, size_words}
use Rattle.load_maker.specs.Objects.{result_section, symbol_of, text_section_of}
use Rattle.load_maker.specs.Statements.{code_size, named_by, fragment_of, reloc_to}
use Rattle.load_maker.specs.declared.statement.Statement.{Statement}
use Rattle.load_maker.specs.declared.statement.Statement.TheVariants.{Plain, Call, WithAddress}
use Rattle.load_maker.proofs.CodeLaws.{IsRight, code_made, code_sized, each_reloc, relocs_sized}
use Rattle.load_maker.proofs.NamedLaws.{called_has}

align_fine : is_bad_alignment 256 4 ≡ false
unfolding lib.Count.ones
align_fine = refl

align_data : is_bad_alignment 4096 4 ≡ false
unfolding lib.Count.ones
align_data = refl

module _ (n others : ℕ) (defined : List ℕ) (statements : List Statement) (right : All (IsRight n) statements) where
  abbrev named : List ℕ
  named = named_by defined statements

  abbrev symbol : ℕ → ℕ
  symbol = symbol_of others named

  abbrev fragments : List Fragment
  fragments = map (fragment_of symbol) statements

  -- the relocations of code name symbols that exist
  relocs_below : (m : ℕ) → 1 < m → 1 + others + length named ≤ m → All (λ r. r.symbol < m) (relocs_from 0 fragments)
  relocs_below m some most = each_reloc symbol (λ (r : Reloc). r.symbol < m) statements each
    where
      each : (at : ℕ) (front : List Statement) (s : Statement) (back : List Statement) → statements ≡ front ++ s ∷ back → All (λ (r : Reloc). r.symbol < m) (relocs_at at (fragment_of symbol s).reloc)
      each at front (Plain i) back split = All-nil (λ (r : Reloc). r.symbol < m)
      each at front (Call i) back split =
          let has = called_has defined statements front back i split in
          All-from_recursion (λ (r : Reloc). r.symbol < m) (relocs_at at (Some (reloc_to 18 (symbol i)))) (omega (arith, has.2, slice_get_within named has.0 i has.1, most), tt)
      each at front (WithAddress kind i) back split = All-from_recursion (λ (r : Reloc). r.symbol < m) (relocs_at at (Some (reloc_to kind 1))) (some, tt)

  pub text_writable : (m : ℕ) → 1 < m → 1 + others + length named ≤ m → IsSoundSection 0 m (text_section_of others named statements)
  text_writable m some most = record {
    name = refl;
    kind = refl;
    plain = refl;
    bytes = bytes_sized fragments;
    kept = λ kept. record {
      kind = refl;
      shared = refl;
      align = align_fine;
      code = λ code. record { kind = refl; read_only = refl; size = size_words fragments (code_made n symbol statements right).stand };
    };
    dropped = λ dropped. absurd cc;
    relocs = relocs_below m some most;
  }

  pub text_sized : code_size statements < 2 ^ 32 → IsSectionSized (text_section_of others named statements)
  text_sized small = record { kind = omega arith; flags = omega arith; align = omega arith; size = omega (arith, code_sized symbol statements, small) }

  pub text_relocs_sized : code_size statements < 2 ^ 32 → All IsRelocSized (text_section_of others named statements).relocs
  text_relocs_sized small = relocs_sized symbol n 0 statements (omega (arith, small)) right

pub result_writable : (m : ℕ) → IsSoundSection 0 m result_section
result_writable m = record {
  name = refl;
  kind = refl;
  plain = refl;
  bytes = refl;
  kept = λ kept. record { kind = refl; shared = refl; align = align_data; code = λ code. absurd cc };
  dropped = λ dropped. absurd cc;
  relocs = All-nil (λ (r : Reloc). r.symbol < m);
}

pub result_sized : IsSectionSized result_section
result_sized = record { kind = omega arith; flags = omega arith; align = omega arith; size = omega arith }
