-- Relocations as they are gathered, statement by statement: those so far, and then those of the rest, are all.
use Rattle.std.proofs.Common.{◌≡◌, ℕ, pos, ◌+◌, ◌<◌, ◌≤◌, List, [], ◌∷◌, ◌++◌, length, map, drop, get_or, refl, sym, ap, subst, ◌∙◌, arith, eqb, append-nil, append_assoc}
use Rattle.std.specs.List.{position_or_len}
use Rattle.std.proofs.lemmas.List.{drop_all, drop_more, length-drop}
use Rattle.std.proofs.lemmas.List.Sums.{sum_by-cons}
use Rattle.elf32_read.specs.declared.reloc.Reloc.{Reloc}
use Rattle.rv_decode.specs.declared.instr.Instr.{Instr}
use Rattle.sound_objects.specs.Fragments.{relocs_from}
use Rattle.load_maker.specs.Objects.{symbol_of}
use Rattle.load_maker.specs.Statements.{code_size, named_by, fragment_of, size_of, with_number}
use Rattle.load_maker.specs.declared.statement.Statement.{Statement}
use Rattle.load_maker.specs.declared.statement.Statement.TheVariants.{Plain, Call, WithAddress}
use Rattle.load_maker.proofs.NamedLaws.{call_symbol, with_few}

module _ (others : ℕ) (first : List ℕ) (statements : List Statement) where
  -- the functions that are named at the end
  abbrev pub all_named : List ℕ
  all_named = named_by first statements

  abbrev pub all_relocs : ℕ → List Statement → List Reloc
  all_relocs at rest = relocs_from at (map (fragment_of (symbol_of others all_named)) rest)

  -- the functions that are named so far, the relocations so far, and where the rest of the statements stands
  pub record Gathers (named : List ℕ) (relocs : List Reloc) (at : ℕ) (rest : List Statement) : Type 0 where
    pub names : named_by named rest ≡ all_named
    pub are : relocs ++ all_relocs at rest ≡ all_relocs 0 statements
    pub size : at + code_size rest ≡ code_size statements
    pub few : length named + length rest ≤ length first + length statements

  pub moved : (names named : List ℕ) (more relocs : List Reloc) (next at : ℕ) (rest : List Statement) → named ≡ names → relocs ≡ more → at ≡ next → Gathers names more next rest → Gathers named relocs at rest
  moved names named more relocs next at rest a b d gathers =
      subst (λ x. Gathers x relocs at rest) (sym a) (subst (λ x. Gathers names x at rest) (sym b) (subst (λ x. Gathers names more x rest) (sym d) gathers))

  -- at the start none are gathered
  pub gathers_none : (relocs : List Reloc) → relocs ≡ [] → Gathers first relocs 0 statements
  gathers_none relocs none = record { names = refl; are = ap (λ l. l ++ all_relocs 0 statements) none; size = omega arith; few = omega arith }

  -- at the end all are gathered
  module _ (named : List ℕ) (relocs : List Reloc) (at k : ℕ) (le : length statements ≤ k) (gathers : Gathers named relocs at (drop k statements)) where
    all : Gathers named relocs at []
    all = subst (Gathers named relocs at) (drop_all k statements le) gathers

    pub named_end : named ≡ all_named
    named_end = all.names

    pub relocs_end : relocs ≡ all_relocs 0 statements
    relocs_end = sym (append-nil relocs) ∙ all.are

  module _ (named : List ℕ) (relocs : List Reloc) (at k : ℕ) (s : Statement) (lt : k < length statements) (is : s ≡ get_or statements k s) (gathers : Gathers named relocs at (drop k statements)) where
    abbrev rest : List Statement
    rest = drop (k + 1) statements

    -- the statement at a place is the next one
    next : (t : Statement) → s ≡ t → Gathers named relocs at (t ∷ rest)
    next t same = subst (Gathers named relocs at) (drop_more statements k s lt ∙ ap (λ u. u ∷ rest) (sym is ∙ same)) gathers

    -- the statement's end lies within the code
    pub stays_within : at + size_of s ≤ code_size statements
    stays_within =
        let now = next s refl in
        omega (arith, now.size, sum_by-cons size_of s rest)

    -- there are still fewer named functions than there may be
    pub few_so_far : length named < length first + length statements
    few_so_far = omega (arith, lt, gathers.few, length-drop k statements)

    pub plain_step : (i : Instr) → s ≡ Plain i → Gathers named relocs (at + 4) rest
    plain_step i same =
        let now = next (Plain i) same in
        record { names = now.names; are = now.are; size = omega (arith, now.size, sum_by-cons size_of (Plain i) rest); few = omega (arith, now.few) }

    pub result_step : (kind : ℕ) (i : Instr) → s ≡ WithAddress kind i → Gathers named (relocs ++ record { offset = at; symbol = 1; kind = kind; addend = pos 0 } ∷ []) (at + 4) rest
    result_step kind i same =
        let now = next (WithAddress kind i) same in
        record {
          names = now.names;
          are = append_assoc relocs (record { offset = at; symbol = 1; kind = kind; addend = pos 0 } ∷ []) (all_relocs (at + 4) rest) ∙ now.are;
          size = omega (arith, now.size, sum_by-cons size_of (WithAddress kind i) rest);
          few = omega (arith, now.few);
        }

    pub call_step : (i symbol : ℕ) → s ≡ Call i → symbol ≡ 1 + others + position_or_len (λ j. eqb i j) named
        → Gathers (with_number named i) (relocs ++ record { offset = at; symbol = symbol; kind = 18; addend = pos 0 } ∷ []) (at + 8) rest
    call_step i symbol same at_symbol =
        let now = next (Call i) same in
        let is_symbol : symbol ≡ symbol_of others all_named i = at_symbol ∙ call_symbol others named all_named i (position_or_len (λ j. eqb i j) named) rest refl now.names in
        record {
          names = now.names;
          are =
              append_assoc relocs (record { offset = at; symbol = symbol; kind = 18; addend = pos 0 } ∷ []) (all_relocs (at + 8) rest)
              ∙ ap (λ n. relocs ++ (record { offset = at; symbol = n; kind = 18; addend = pos 0 } ∷ all_relocs (at + 8) rest)) is_symbol ∙ now.are;
          size = omega (arith, now.size, sum_by-cons size_of (Call i) rest);
          few = omega (arith, now.few, with_few named i);
        }
