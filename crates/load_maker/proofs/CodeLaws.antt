-- The code that statements become.
use Rattle.std.proofs.Common.{◌≡◌, ℕ, pos, ◌+◌, ◌*◌, ◌^◌, ◌<◌, ◌≤◌, List, [], ◌∷◌, ◌++◌, length, map, true, false, Some, refl, sym, ap, ◌∙◌, arith, append_assoc}
use Rattle.std.specs.Prelude.{All}
use Rattle.std.proofs.lemmas.List.Elements.{All-append, All-cons, All-head, All-map, All-nil, All-tail, All-weaker}
use Rattle.std.proofs.lemmas.List.Sums.{sum_by-cons}
use Rattle.elf32_read.specs.declared.reloc.Reloc.{Reloc}
use Rattle.elf32_write.specs.Ranges.{IsRelocSized}
use Rattle.psabi_reloc.specs.Kinds.{is_lui, is_store, is_sum, kind_of}
use Rattle.rv_decode.specs.declared.instr.Instr.{Instr}
use Rattle.rv_decode.specs.Decode.{decoded}
use Rattle.rv_decode.specs.Immediates.{InRange}
use Rattle.rv_encode.specs.Words.{encoded}
use Rattle.block_cut.specs.Relocs.{is_pcrel_lo, is_transfer}
use Rattle.sound_objects.specs.Fragments.{CanStand, IsMadeOf, Fragment, fragment_size, fragments_bytes, fragments_size, relocs_at, relocs_from, word_under}
use Rattle.sound_objects.specs.Reach.{HaveNoBranchOrAlign, is_no_branch_or_align}
use Rattle.sound_objects.proofs.FragmentLaws.{bytes_sized, made_of}
use Rattle.sound_objects.proofs.UnderLaws.{pair_stands, store_stands, sum_stands, upper_stands, word_stands}
use Rattle.load_maker.specs.Instructions.{auipc, jalr}
use Rattle.load_maker.specs.Objects.{code_parts}
use Rattle.load_maker.specs.Statements.{IsInRange, code_size, fragment_of, reloc_to, size_of}
use Rattle.load_maker.specs.declared.register.Register.TheVariants.{Ra}
use Rattle.load_maker.specs.declared.statement.Statement.{Statement}
use Rattle.load_maker.specs.declared.statement.Statement.TheVariants.{Plain, Call, WithAddress}
use Rattle.load_maker.proofs.BodyLaws.{IsInner}

-- ---- sizes and bytes

fragment_sized : (symbol : ℕ → ℕ) (s : Statement) → fragment_size (fragment_of symbol s) ≡ size_of s
fragment_sized symbol (Plain i) = refl
fragment_sized symbol (Call i) = refl
fragment_sized symbol (WithAddress kind i) = refl

pub code_sized : (symbol : ℕ → ℕ) (statements : List Statement) → fragments_size (map (fragment_of symbol) statements) ≡ code_size statements
code_sized symbol [] = refl
code_sized symbol (s ∷ rest) =
    omega (arith, sum_by-cons fragment_size (fragment_of symbol s) (map (fragment_of symbol) rest), sum_by-cons size_of s rest, fragment_sized symbol s, code_sized symbol rest)

fragment_any : (f g : ℕ → ℕ) (s : Statement) → (fragment_of f s).bytes ≡ (fragment_of g s).bytes
fragment_any f g (Plain i) = refl
fragment_any f g (Call i) = refl
fragment_any f g (WithAddress kind i) = refl

-- the bytes don't depend on symbols
pub bytes_any : (f g : ℕ → ℕ) (statements : List Statement) → fragments_bytes (map (fragment_of f) statements) ≡ fragments_bytes (map (fragment_of g) statements)
bytes_any f g [] = refl
bytes_any f g (s ∷ rest) = λ i. fragment_any f g s i ++ bytes_any f g rest i

-- the code has as many bytes as the statements say
pub bytes_long : (statements : List Statement) (bytes : List ℕ) → bytes ≡ fragments_bytes (map (fragment_of (λ function. 0)) statements) → length bytes ≡ code_size statements
bytes_long statements bytes are =
    let fragments = map (fragment_of (λ function. 0)) statements in
    ap length are ∙ bytes_sized fragments ∙ code_sized (λ function. 0) statements

pub few_statements : (statements : List Statement) → 4 * length statements ≤ code_size statements
few_statements [] = omega arith
few_statements (Plain i ∷ rest) = omega (arith, few_statements rest, sum_by-cons size_of (Plain i) rest)
few_statements (Call i ∷ rest) = omega (arith, few_statements rest, sum_by-cons size_of (Call i) rest)
few_statements (WithAddress kind i ∷ rest) = omega (arith, few_statements rest, sum_by-cons size_of (WithAddress kind i) rest)

-- ---- statements that are right

-- an instruction that takes a part of an address, by the type of its relocation
pub record TakesPart (kind : ℕ) (i : Instr) : Type 0 where
  pub range : InRange i
  pub byte : kind < 2 ^ 8
  pub stands : CanStand (word_under (reloc_to kind 1) (encoded i))
  pub no_branch : is_no_branch_or_align (Some (reloc_to kind 1)) ≡ true
  pub lone : is_pcrel_lo (kind_of kind) ≡ false
  pub stays : is_transfer (kind_of kind) ≡ false

pub takes_upper : (i : Instr) → InRange i → encoded i < 2 ^ 32 → is_lui (decoded (encoded i)) ≡ true → TakesPart 26 i
takes_upper i range small is = record { range = range; byte = omega arith; stands = upper_stands 1 (pos 0) (encoded i) small is; no_branch = refl; lone = refl; stays = refl }

pub takes_sum : (i : Instr) → InRange i → encoded i < 2 ^ 32 → is_sum (decoded (encoded i)) ≡ true → TakesPart 27 i
takes_sum i range small is = record { range = range; byte = omega arith; stands = sum_stands 1 (pos 0) (encoded i) small is; no_branch = refl; lone = refl; stays = refl }

pub takes_store : (i : Instr) → InRange i → encoded i < 2 ^ 32 → is_store (decoded (encoded i)) ≡ true → TakesPart 28 i
takes_store i range small is = record { range = range; byte = omega arith; stands = store_stands 1 (pos 0) (encoded i) small is; no_branch = refl; lone = refl; stays = refl }

-- a statement has words, calls a function below a number, and takes parts of addresses as its type says
abbrev pub IsRight : ℕ → Statement → Type 0
IsRight n (Plain i) = InRange i
IsRight n (Call i) = i < n
IsRight n (WithAddress kind i) = TakesPart kind i

pub inner_right : (n : ℕ) (statements : List Statement) → All (IsInner n) statements → All (IsRight n) statements
inner_right n = All-weaker (IsInner n) (IsRight n) each
  where
    each : (s : Statement) → IsInner n s → IsRight n s
    each (Plain i) inner = inner
    each (Call i) inner = inner
    each (WithAddress kind i) inner = absurd inner

pub right_range : (n : ℕ) (statements : List Statement) → All (IsRight n) statements → All IsInRange statements
right_range n = All-weaker (IsRight n) IsInRange each
  where
    each : (s : Statement) → IsRight n s → IsInRange s
    each (Plain i) right = right
    each (Call i) right = tt
    each (WithAddress kind i) right = right.range

module _ (n : ℕ) (symbol : ℕ → ℕ) where
  stands : (s : Statement) → IsRight n s → CanStand (fragment_of symbol s)
  unfolding decoded encoded
  stands (Plain i) right = word_stands (encoded i)
  stands (Call i) right = pair_stands (symbol i) (pos 0) (encoded (auipc Ra 0)) (encoded (jalr Ra (pos 0) Ra)) (omega arith) (omega arith) refl
  stands (WithAddress kind i) right = right.stands

  no_branch : (s : Statement) → IsRight n s → is_no_branch_or_align (fragment_of symbol s).reloc ≡ true
  no_branch (Plain i) right = refl
  no_branch (Call i) right = refl
  no_branch (WithAddress kind i) right = right.no_branch

  module _ (statements : List Statement) (right : All (IsRight n) statements) where
    -- a section of such code is made of its fragments, none of which is ALIGN or leads a branch
    pub code_made : IsMadeOf (map (fragment_of symbol) statements) (code_parts (map (fragment_of symbol) statements))
    code_made =
        made_of (map (fragment_of symbol) statements) (code_parts (map (fragment_of symbol) statements)) refl refl refl refl refl
        (All-map CanStand (fragment_of symbol) statements (All-weaker (IsRight n) (λ s. CanStand (fragment_of symbol s)) stands statements right))

    pub code_no_branch : HaveNoBranchOrAlign (map (fragment_of symbol) statements)
    code_no_branch =
        All-map (λ (p : Fragment). is_no_branch_or_align p.reloc ≡ true) (fragment_of symbol) statements
        (All-weaker (IsRight n) (λ s. is_no_branch_or_align (fragment_of symbol s).reloc ≡ true) no_branch statements right)

-- ---- relocations

module _ (symbol : ℕ → ℕ) where
  -- what holds of the relocation of each statement, by where it stands among them, holds of all
  pub each_reloc : (Q : Reloc → Type 0) (statements : List Statement)
      → ((at : ℕ) (front : List Statement) (s : Statement) (back : List Statement) → statements ≡ front ++ s ∷ back → All Q (relocs_at at (fragment_of symbol s).reloc))
      → All Q (relocs_from 0 (map (fragment_of symbol) statements))
  each_reloc Q statements each = walk 0 [] statements refl
    where
      walk : (at : ℕ) (front back : List Statement) → statements ≡ front ++ back → All Q (relocs_from at (map (fragment_of symbol) back))
      walk at front [] split = All-nil Q
      walk at front (s ∷ back) split =
          All-append Q (relocs_at at (fragment_of symbol s).reloc) (relocs_from (at + fragment_size (fragment_of symbol s)) (map (fragment_of symbol) back))
          (each at front s back split)
          (walk (at + fragment_size (fragment_of symbol s)) (front ++ s ∷ []) back (split ∙ sym (append_assoc front (s ∷ []) back)))

  pub few_relocs : (at : ℕ) (statements : List Statement) → length (relocs_from at (map (fragment_of symbol) statements)) ≤ length statements
  few_relocs at [] = omega arith
  few_relocs at (Plain i ∷ rest) = omega (arith, few_relocs (at + 4) rest)
  few_relocs at (Call i ∷ rest) = omega (arith, few_relocs (at + 8) rest)
  few_relocs at (WithAddress kind i ∷ rest) = omega (arith, few_relocs (at + 4) rest)

  -- their numbers have room
  pub relocs_sized : (n at : ℕ) (statements : List Statement) → at + code_size statements < 2 ^ 32 → All (IsRight n) statements
      → All IsRelocSized (relocs_from at (map (fragment_of symbol) statements))
  relocs_sized n at [] small right = All-nil IsRelocSized
  relocs_sized n at (Plain i ∷ rest) small right =
      relocs_sized n (at + 4) rest (omega (arith, small, sum_by-cons size_of (Plain i) rest)) (All-tail (IsRight n) (Plain i) rest right)
  relocs_sized n at (Call i ∷ rest) small right =
      All-cons IsRelocSized (record { offset = at; symbol = symbol i; kind = 18; addend = pos 0 }) (relocs_from (at + 8) (map (fragment_of symbol) rest))
      (record { offset = omega (arith, small); kind = omega arith; addend = omega arith })
      (relocs_sized n (at + 8) rest (omega (arith, small, sum_by-cons size_of (Call i) rest)) (All-tail (IsRight n) (Call i) rest right))
  relocs_sized n at (WithAddress kind i ∷ rest) small right =
      All-cons IsRelocSized (record { offset = at; symbol = 1; kind = kind; addend = pos 0 }) (relocs_from (at + 4) (map (fragment_of symbol) rest))
      (record { offset = omega (arith, small); kind = (All-head (IsRight n) (WithAddress kind i) rest right).byte; addend = omega arith })
      (relocs_sized n (at + 4) rest (omega (arith, small, sum_by-cons size_of (WithAddress kind i) rest)) (All-tail (IsRight n) (WithAddress kind i) rest right))

  -- ---- where a fragment stands

  -- the statement that a fragment is made of
  pub record IsFrom (statements : List Statement) (front : List Fragment) (p : Fragment) : Type 0 where
    pub before : List Statement
    pub statement : Statement
    pub after : List Statement
    pub split : statements ≡ before ++ statement ∷ after
    pub front_is : front ≡ map (fragment_of symbol) before
    pub is : p ≡ fragment_of symbol statement

  pub fragment_from : (statements : List Statement) (front : List Fragment) (p : Fragment) (back : List Fragment) → map (fragment_of symbol) statements ≡ front ++ p ∷ back → IsFrom statements front p
  fragment_from [] [] p back split = absurd cc
  fragment_from [] (f ∷ front) p back split = absurd cc
  fragment_from (s ∷ rest) [] p back split =
      let same : fragment_of symbol s ≡ p = cc in
      record { before = []; statement = s; after = rest; split = refl; front_is = refl; is = sym same }
  fragment_from (s ∷ rest) (f ∷ front) p back split =
      let same : fragment_of symbol s ≡ f = cc in
      let more : map (fragment_of symbol) rest ≡ front ++ p ∷ back = cc in
      let own = fragment_from rest front p back more in
      record {
        before = s ∷ own.before;
        statement = own.statement;
        after = own.after;
        split = λ i. s ∷ own.split i;
        front_is = λ i. sym same i ∷ own.front_is i;
        is = own.is;
      }
