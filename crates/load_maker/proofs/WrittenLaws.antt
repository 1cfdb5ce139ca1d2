-- Each generated object can be written, and its file is short.
use Rattle.std.proofs.Common.{◌≡◌, ℕ, zero, suc, ◌+◌, ◌*◌, ◌^◌, ◌<◌, ◌≤◌, List, [], ◌∷◌, ◌++◌, length, map, drop, refl, ap, subst, ◌∙◌, sym, arith, length-append}
use Rattle.std.specs.Prelude.{All}
use Rattle.std.specs.List.{range_with_len, sum_by}
use Rattle.std.proofs.lemmas.List.{drop_at, length-drop, length-map}
use Rattle.std.proofs.lemmas.List.Elements.{All-append, All-cons, All-from_recursion, All-head, All-nil, All-tail, All-weaker}
use Rattle.std.proofs.lemmas.List.FromFn.{length-range_with_len}
use Rattle.std.proofs.lemmas.List.Sums.{sum_by-cons}
use Rattle.elf32_read.specs.Parts.{ObjectParts, SectionParts, SymbolParts}
use Rattle.elf32_write.specs.ObjectFile.{object_size}
use Rattle.elf32_write.specs.Ranges.{IsPartsSized, IsRelocSized, IsSectionSized, IsSymbolSized}
use Rattle.elf32_write.proofs.SoundParts.{AreSoundParts, IsSoundSection, IsSoundSymbol}
use Rattle.sound_objects.specs.Parts.{CanBeWritten}
use Rattle.sound_objects.proofs.PartsLaws.{sound_written}
use Rattle.sound_objects.proofs.FragmentLaws.{bytes_sized}
use Rattle.sound_objects.proofs.SizeLaws.{bytes_room, count_most, rela_name_room, relocs_room, section_name_room, size_most, symbol_name_room}
use Rattle.load_maker.specs.Functions.{functions_from}
use Rattle.load_maker.specs.Objects.{function_symbols, group_count, group_object, made_parts, result_section, result_symbol, start_object, start_statements, start_symbol, symbol_of, text_section_of, undefined_symbol}
use Rattle.load_maker.specs.Statements.{all_called, code_size, named_by, fragment_of}
use Rattle.load_maker.specs.declared.make_objects.TheConstants.{FUNCTION_LIMIT}
use Rattle.load_maker.specs.declared.statement.Statement.{Statement}
use Rattle.load_maker.specs.declared.statement.Statement.TheVariants.{Plain, Call, WithAddress}
use Rattle.load_maker.proofs.BodyLaws.{bodies_of, code_of, group_inner, group_long, group_short}
use Rattle.load_maker.proofs.CodeLaws.{IsRight, code_sized, few_relocs, few_statements, inner_right}
use Rattle.load_maker.proofs.NamedLaws.{IsMore, folded, named_few}
use Rattle.load_maker.proofs.StartLaws.{start_right, start_size}
use Rattle.load_maker.proofs.SymbolLaws.{IsOfFunction, function_sized, function_writable, functions_are, home_small, length-function_symbols, names_short, undefined_are}
use Rattle.load_maker.proofs.WritableLaws.{result_sized, result_writable, text_relocs_sized, text_sized, text_writable}

-- ---- the functions that an object names

called_below : (n : ℕ) (statements : List Statement) → All (IsRight n) statements → All (λ j. j < n) (all_called statements)
called_below n [] right = All-nil (λ j. j < n)
called_below n (Plain i ∷ rest) right = called_below n rest (All-tail (IsRight n) (Plain i) rest right)
called_below n (Call i ∷ rest) right =
    All-cons (λ j. j < n) i (all_called rest) (All-head (IsRight n) (Call i) rest right) (called_below n rest (All-tail (IsRight n) (Call i) rest right))
called_below n (WithAddress kind i ∷ rest) right = called_below n rest (All-tail (IsRight n) (WithAddress kind i) rest right)

-- the names are those of the functions that an object defines, and others below a number
pub names_more : (n : ℕ) (defined : List ℕ) (statements : List Statement) → All (IsRight n) statements → IsMore (λ j. j < n) defined (named_by defined statements)
names_more n defined statements right = folded (λ j. j < n) defined (all_called statements) (called_below n statements right)

pub record AreNamed (n first count : ℕ) (statements : List Statement) : Type 0 where
  pub long : count ≤ length (named_by (range_with_len first count) statements)
  pub below : All (λ j. j < n) (drop count (named_by (range_with_len first count) statements))

pub are_named : (n first count : ℕ) (statements : List Statement) → All (IsRight n) statements → AreNamed n first count statements
are_named n first count statements right =
    let more = names_more n (range_with_len first count) statements right in
    let dropped : drop count (named_by (range_with_len first count) statements) ≡ more.rest =
    ap (drop count) more.are ∙ drop_at (range_with_len first count) more.rest count (length-range_with_len first count) in
    record {
      long = omega (arith, ap length more.are, length-append (range_with_len first count) more.rest, length-range_with_len first count);
      below = subst (All (λ j. j < n)) (sym dropped) more.all;
    }

-- ---- the first object

module _ (number n : ℕ) (few : n ≤ FUNCTION_LIMIT) where
  abbrev statements : List Statement
  statements = start_statements number n

  abbrev named : List ℕ
  named = named_by [] statements

  abbrev text : SectionParts
  text = text_section_of 2 named statements

  abbrev others : List SymbolParts
  others = map undefined_symbol named

  right : All (IsRight n) statements
  right = start_right number n

  size : code_size statements ≡ 48 + 8 * n
  size = start_size number n

  pub start_others : All (IsOfFunction (code_size statements)) others
  start_others = undefined_are n (code_size statements) few named (are_named n 0 0 statements right).below

  start_short : object_size (start_object number n) ≤ 130000
  start_short =
      omega (
        arith,
        few,
        size_most (start_object number n),
        sum_by-cons bytes_room text (result_section ∷ []),
        sum_by-cons relocs_room text (result_section ∷ []),
        sum_by-cons section_name_room text (result_section ∷ []),
        sum_by-cons rela_name_room text (result_section ∷ []),
        sum_by-cons bytes_room result_section [],
        sum_by-cons relocs_room result_section [],
        sum_by-cons section_name_room result_section [],
        sum_by-cons rela_name_room result_section [],
        bytes_sized (map (fragment_of (symbol_of 2 named)) statements),
        code_sized (symbol_of 2 named) statements,
        few_relocs (symbol_of 2 named) 0 statements,
        few_statements statements,
        size,
        length-map named undefined_symbol,
        named_few 0 0 statements,
        sum_by-cons symbol_name_room result_symbol (start_symbol ∷ others),
        sum_by-cons symbol_name_room start_symbol others,
        names_short (code_size statements) others start_others,
      )

  start_sound : AreSoundParts (start_object number n)
  start_sound =
      let p = start_object number n in
      let m : ℕ = 1 + length p.symbols in
      let many = length-map named undefined_symbol in
      record {
        flags = refl;
        sections = All-from_recursion (IsSoundSection 0 m) p.sections (text_writable n 2 [] statements right m (omega arith) (omega (arith, many)), (result_writable m, tt));
        symbols =
            All-cons (IsSoundSymbol p) result_symbol (start_symbol ∷ others) (record {
              name = refl;
              bind = omega arith;
              kind = omega arith;
              other_kind = refl;
              local = refl;
              home = home_small p result_symbol (omega arith);
              common = λ e. absurd (omega (arith, e));
              within = λ kept. omega arith;
            })
            (All-cons (IsSoundSymbol p) start_symbol others (record {
              name = refl;
              bind = omega arith;
              kind = omega arith;
              other_kind = refl;
              local = refl;
              home = home_small p start_symbol (omega arith);
              common = λ e. absurd (omega (arith, e));
              within = λ kept. omega arith;
            })
            (All-weaker (IsOfFunction (code_size statements)) (IsSoundSymbol p)
            (λ s is. function_writable (code_size statements) s p text (result_section ∷ []) refl (code_sized (symbol_of 2 named) statements) is) others start_others));
        count = omega (arith, count_most p.sections p.symbols);
        size = omega (arith, start_short);
      }

  start_sized : IsPartsSized (start_object number n).sections (start_object number n).symbols
  start_sized =
      let p = start_object number n in
      let small : code_size statements < 2 ^ 32 = omega (arith, size, few) in
      record {
        sections_sized = All-from_recursion IsSectionSized p.sections (text_sized n 2 [] statements right small, (result_sized, tt));
        relocs_sized = All-from_recursion (λ (s : SectionParts). All IsRelocSized s.relocs) p.sections (text_relocs_sized n 2 [] statements right small, (All-nil IsRelocSized, tt));
        symbols_sized =
            All-cons IsSymbolSized result_symbol (start_symbol ∷ others) (record { value = omega arith; size = omega arith; home = omega arith })
            (All-cons IsSymbolSized start_symbol others (record { value = omega arith; size = omega arith; home = omega arith })
            (All-weaker (IsOfFunction (code_size statements)) IsSymbolSized (λ s is. function_sized (code_size statements) s small is) others start_others));
      }

  pub start_written : CanBeWritten (start_object number n)
  start_written = sound_written (start_object number n) start_sound start_sized

-- ---- the others

module _ (number n k : ℕ) (few : n ≤ FUNCTION_LIMIT) (within : k < group_count n) where
  abbrev bodies : List (List Statement)
  bodies = bodies_of number n k

  abbrev code : List Statement
  code = code_of number n k

  abbrev own : List SymbolParts
  own = function_symbols (8 * k) 0 bodies

  abbrev group_named : List ℕ
  group_named = named_by (range_with_len (8 * k) (length bodies)) code

  abbrev group_text : SectionParts
  group_text = text_section_of 0 group_named code

  abbrev called : List SymbolParts
  called = map undefined_symbol (drop (length bodies) group_named)

  pub group_right : All (IsRight n) code
  group_right = inner_right n code (group_inner number n k)

  pub group_symbols : All (IsOfFunction (code_size code)) (own ++ called)
  group_symbols =
      All-append (IsOfFunction (code_size code)) own called
      (functions_are (code_size code) (8 * k) 0 bodies (omega (arith, group_long number n k, few, within)) (omega arith) (omega (arith, group_short number n k)))
      (undefined_are n (code_size code) few (drop (length bodies) group_named) (are_named n (8 * k) (length bodies) code group_right).below)

  -- the number of symbols
  group_many : length (own ++ called) ≡ length group_named
  group_many =
      omega (
        arith,
        length-append own called,
        length-function_symbols (8 * k) 0 bodies,
        length-map (drop (length bodies) group_named) undefined_symbol,
        length-drop (length bodies) group_named,
        (are_named n (8 * k) (length bodies) code group_right).long,
      )

  group_size : object_size (group_object (functions_from n 0 number) k) ≤ 12000
  group_size =
      omega (
        arith,
        size_most (group_object (functions_from n 0 number) k),
        sum_by-cons bytes_room group_text [],
        sum_by-cons relocs_room group_text [],
        sum_by-cons section_name_room group_text [],
        sum_by-cons rela_name_room group_text [],
        bytes_sized (map (fragment_of (symbol_of 0 group_named)) code),
        code_sized (symbol_of 0 group_named) code,
        group_short number n k,
        few_relocs (symbol_of 0 group_named) 0 code,
        few_statements code,
        group_many,
        named_few (8 * k) (length bodies) code,
        group_long number n k,
        names_short (code_size code) (own ++ called) group_symbols,
      )

  group_sound : AreSoundParts (group_object (functions_from n 0 number) k)
  group_sound =
      let p = group_object (functions_from n 0 number) k in
      let m : ℕ = 1 + length (own ++ called) in
      let some : 1 < m = omega (arith, group_many, (are_named n (8 * k) (length bodies) code group_right).long, group_long number n k, within) in
      let defined = range_with_len (8 * k) (length bodies) in
      record {
        flags = refl;
        sections = All-from_recursion (IsSoundSection 0 m) p.sections (text_writable n 0 defined code group_right m some (omega (arith, group_many)), tt);
        symbols =
            All-weaker (IsOfFunction (code_size code)) (IsSoundSymbol p)
            (λ s is. function_writable (code_size code) s p group_text [] refl (code_sized (symbol_of 0 group_named) code) is) (own ++ called) group_symbols;
        count = omega (arith, count_most p.sections p.symbols);
        size = omega (arith, group_size);
      }

  group_sized : IsPartsSized (group_object (functions_from n 0 number) k).sections (group_object (functions_from n 0 number) k).symbols
  group_sized =
      let p = group_object (functions_from n 0 number) k in
      let small : code_size code < 2 ^ 32 = omega (arith, group_short number n k) in
      let defined = range_with_len (8 * k) (length bodies) in
      record {
        sections_sized = All-from_recursion IsSectionSized p.sections (text_sized n 0 defined code group_right small, tt);
        relocs_sized = All-from_recursion (λ (s : SectionParts). All IsRelocSized s.relocs) p.sections (text_relocs_sized n 0 defined code group_right small, tt);
        symbols_sized = All-weaker (IsOfFunction (code_size code)) IsSymbolSized (λ s is. function_sized (code_size code) s small is) (own ++ called) group_symbols;
      }

  pub group_written : CanBeWritten (group_object (functions_from n 0 number) k)
  group_written = sound_written (group_object (functions_from n 0 number) k) group_sound group_sized

-- ---- all of them

pub all_groups : (P : ObjectParts → Type 0) (number n : ℕ) → ((k : ℕ) → k < group_count n → P (group_object (functions_from n 0 number) k)) → (a m : ℕ) → a + m ≤ group_count n
    → All P (map (group_object (functions_from n 0 number)) (range_with_len a m))
all_groups P number n each a zero le = All-nil P
all_groups P number n each a (suc m) le =
    All-cons P (group_object (functions_from n 0 number) a) (map (group_object (functions_from n 0 number)) (range_with_len (a + 1) m))
    (each a (omega (arith, le))) (all_groups P number n each (a + 1) m (omega (arith, le)))

pub made_written : (number n : ℕ) → n ≤ FUNCTION_LIMIT → All CanBeWritten (made_parts number n)
made_written number n few =
    All-cons CanBeWritten (start_object number n) (map (group_object (functions_from n 0 number)) (range_with_len 0 (group_count n)))
    (start_written number n few) (all_groups CanBeWritten number n (λ k within. group_written number n k few within) 0 (group_count n) (omega arith))

pub sum_most : (f : ObjectParts → ℕ) (most : ℕ) (ps : List ObjectParts) → All (λ p. f p ≤ most) ps → sum_by f ps ≤ most * length ps
sum_most f most [] all = omega arith
sum_most f most (p ∷ ps) all =
    omega (arith, sum_by-cons f p ps, All-head (λ q. f q ≤ most) p ps all, sum_most f most ps (All-tail (λ q. f q ≤ most) p ps all))

pub made_count : (number n : ℕ) → length (made_parts number n) ≡ 1 + group_count n
made_count number n = omega (arith, length-map (range_with_len 0 (group_count n)) (group_object (functions_from n 0 number)), length-range_with_len 0 (group_count n))

pub made_short : (number n : ℕ) → n ≤ FUNCTION_LIMIT → sum_by object_size (made_parts number n) ≤ 0x200_0000
made_short number n few =
    let groups = map (group_object (functions_from n 0 number)) (range_with_len 0 (group_count n)) in
    omega (
      arith,
      few,
      sum_by-cons object_size (start_object number n) groups,
      start_short number n few,
      sum_most object_size 12000 groups (all_groups (λ p. object_size p ≤ 12000) number n (λ k within. group_size number n k few within) 0 (group_count n) (omega arith)),
      made_count number n,
    )
