-- The symbols of functions, and what is known of each symbol that can be written.
use Rattle.std.proofs.Common.{◌≡◌, ℕ, zero, suc, ◌+◌, ◌*◌, ◌%◌, ◌^◌, ◌<◌, ◌≤◌, List, [], ◌∷◌, ◌++◌, length, map, true, false, Some, slice_get, decimal, refl, sym, ap, subst, ◌∙◌, arith, eqb}
use Rattle.std.specs.Prelude.{All, IfSome, ◌||◌, not, nat_lt}
use Rattle.std.specs.List.{flat_map, list_any, sum_by}
use Rattle.std.proofs.lemmas.Bool.{lt-ltb, ne_eqb, or_left}
use Rattle.std.proofs.lemmas.Fmt.{decimal_by_steps, length-decimal-le}
use Rattle.std.proofs.lemmas.List.Elements.{All-cons, All-head, All-nil, All-tail}
use Rattle.std.proofs.lemmas.List.Folds.{list_any-append}
use Rattle.std.proofs.lemmas.List.Sums.{sum_by-append, sum_by-cons}
use Rattle.elf32_read.specs.Parts.{ObjectParts, SectionParts, SymbolParts}
use Rattle.elf32_write.specs.ObjectFile.{section_total}
use Rattle.elf32_write.specs.Ranges.{IsSymbolSized}
use Rattle.elf32_write.specs.Writable.{is_name, null_part}
use Rattle.elf32_write.proofs.SoundParts.{IsSoundSymbol, LiesInSection, has_home}
use Rattle.elf32_write.proofs.Stages.{length-file_sections}
use Rattle.psabi_sym.specs.Faults.{common_room}
use Rattle.sound_objects.proofs.SizeLaws.{symbol_name_room}
use Rattle.load_maker.specs.Objects.{function_name, function_symbol, function_symbols, undefined_symbol}
use Rattle.load_maker.specs.Statements.{code_size, size_of}
use Rattle.load_maker.specs.declared.make_objects.TheConstants.{FUNCTION_LIMIT}
use Rattle.load_maker.specs.declared.statement.Statement.{Statement}

-- ---- symbols of functions

pub length-function_symbols : (i at : ℕ) (bodies : List (List Statement)) → length (function_symbols i at bodies) ≡ length bodies
length-function_symbols i at [] = refl
length-function_symbols i at (body ∷ rest) = ap (λ n. suc n) (length-function_symbols (i + 1) (at + code_size body) rest)

-- the symbol of a function, by its number and the functions before it
pub record IsFunctionAt (i at : ℕ) (bodies : List (List Statement)) (j : ℕ) (s : SymbolParts) : Type 0 where
  pub front : List (List Statement)
  pub body : List Statement
  pub back : List (List Statement)
  pub split : bodies ≡ front ++ body ∷ back
  pub is : s ≡ function_symbol (i + j) (at + code_size (flat_map (λ b. b) front)) body

pub function_at : (i at : ℕ) (bodies : List (List Statement)) (j : ℕ) (s : SymbolParts) → slice_get (function_symbols i at bodies) j ≡ Some s → IsFunctionAt i at bodies j s
function_at i at [] j s is = absurd cc
function_at i at (body ∷ rest) zero s is =
    let same : function_symbol i at body ≡ s = cc in
    record { front = []; body = body; back = rest; split = refl; is = sym same ∙ (λ k. function_symbol (first k) (second k) body) }
  where
    first : i ≡ i + 0
    first = omega arith

    second : at ≡ at + 0
    second = omega arith
function_at i at (body ∷ rest) (suc j) s is =
    let more = function_at (i + 1) (at + code_size body) rest j s is in
    let number : i + 1 + j ≡ i + suc j = omega arith in
    let place : at + code_size body + code_size (flat_map (λ b. b) more.front) ≡ at + code_size (body ++ flat_map (λ b. b) more.front) =
    omega (arith, sum_by-append size_of body (flat_map (λ b. b) more.front)) in
    record {
      front = body ∷ more.front;
      body = more.body;
      back = more.back;
      split = ap (λ l. body ∷ l) more.split;
      is = more.is ∙ (λ k. function_symbol (number k) (place k) more.body);
    }

-- each function has a symbol
pub function_there : (i at : ℕ) (bodies : List (List Statement)) (j : ℕ) → j < length bodies → (s : SymbolParts) × (slice_get (function_symbols i at bodies) j ≡ Some s)
function_there i at [] j lt = absurd (omega arith)
function_there i at (body ∷ rest) zero lt = (function_symbol i at body, refl)
function_there i at (body ∷ rest) (suc j) lt = function_there (i + 1) (at + code_size body) rest j (omega (arith, lt))

-- ---- names

-- decimal digits aren't zero bytes
no_zero : (n : ℕ) → n < 2 ^ 64 → list_any (λ byte. eqb byte 0) (decimal n) ≡ false
no_zero = decimal_by_steps (λ n ds. list_any (λ byte. eqb byte 0) ds ≡ false)
    (λ n lt. λ i. ne_eqb (48 + n) 0 (λ e. omega (arith, e)) i || false)
    (λ n ds le none. list_any-append (λ byte. eqb byte 0) ds ((48 + n % 10) ∷ []) ∙ (λ i. none i || (ne_eqb (48 + n % 10) 0 (λ e. omega (arith, e)) i || false)))

is_function_name : (i : ℕ) → i < 2 ^ 64 → is_name (function_name i) ≡ true
is_function_name i lt = ap not (no_zero i lt)

short_name : (i : ℕ) → i < FUNCTION_LIMIT → length (function_name i) ≤ 5
short_name i lt = omega (arith, length-decimal-le 4 i (omega arith) (omega (arith, lt)) (omega (arith, lt)))

-- ---- symbols that can be written

-- a function's, that lies in a section 1 of this size, or one that is undefined
pub data IsOfFunction (size : ℕ) (s : SymbolParts) : Type 0 where
  Defined : (i at : ℕ) (body : List Statement) → i < FUNCTION_LIMIT → at ≤ size → code_size body < 2 ^ 32 → s ≡ function_symbol i at body → IsOfFunction size s
  Undefined : (i : ℕ) → i < FUNCTION_LIMIT → s ≡ undefined_symbol i → IsOfFunction size s

pub home_small : (p : ObjectParts) (s : SymbolParts) → s.home < 4 → has_home p s ≡ true
home_small p s lt =
    let many : s.home < section_total p = omega (arith, length-file_sections p.sections p.symbols, lt) in
    or_left (nat_lt s.home (section_total p) || eqb s.home 0xFFF1) (eqb s.home 0xFFF2) (or_left (nat_lt s.home (section_total p)) (eqb s.home 0xFFF1) (lt-ltb s.home (section_total p) many))

module _ (size : ℕ) (s : SymbolParts) where
  pub function_writable : (p : ObjectParts) (text : SectionParts) (rest : List SectionParts) → p.sections ≡ text ∷ rest → text.size ≡ size → IsOfFunction size s → IsSoundSymbol p s
  function_writable p text rest are long (Defined i at body lt le small is) = subst (IsSoundSymbol p) (sym is) (record {
    name = is_function_name i (omega (arith, lt));
    bind = omega arith;
    kind = omega arith;
    other_kind = refl;
    local = refl;
    home = home_small p (function_symbol i at body) (omega arith);
    common = λ e. absurd (omega (arith, e));
    within = subst (λ l. IfSome (slice_get (null_part ∷ l) 1) (LiesInSection (function_symbol i at body))) (sym are) (λ kept. omega (arith, le, long));
  })
  function_writable p text rest are long (Undefined i lt is) = subst (IsSoundSymbol p) (sym is) (record {
    name = is_function_name i (omega (arith, lt));
    bind = omega arith;
    kind = omega arith;
    other_kind = refl;
    local = refl;
    home = home_small p (undefined_symbol i) (omega arith);
    common = λ e. absurd (omega (arith, e));
    within = λ kept. absurd cc;
  })

  pub function_sized : size < 2 ^ 32 → IsOfFunction size s → IsSymbolSized s
  function_sized small (Defined i at body lt le long is) = subst IsSymbolSized (sym is) (record { value = omega (arith, le, small); size = long; home = omega arith })
  function_sized small (Undefined i lt is) = subst IsSymbolSized (sym is) (record { value = omega arith; size = omega arith; home = omega arith })

  name_short : IsOfFunction size s → symbol_name_room s ≤ 7
  name_short (Defined i at body lt le long is) = subst (λ t. symbol_name_room t ≤ 7) (sym is) (omega (arith, short_name i lt))
  name_short (Undefined i lt is) = subst (λ t. symbol_name_room t ≤ 7) (sym is) (omega (arith, short_name i lt))

  uncommon : IsOfFunction size s → common_room s ≡ 0
  uncommon (Defined i at body lt le long is) = ap common_room is
  uncommon (Undefined i lt is) = ap common_room is

pub names_short : (size : ℕ) (ss : List SymbolParts) → All (IsOfFunction size) ss → sum_by symbol_name_room ss ≤ 7 * length ss
names_short size [] all = omega arith
names_short size (s ∷ ss) all =
    omega (arith, sum_by-cons symbol_name_room s ss, name_short size s (All-head (IsOfFunction size) s ss all), names_short size ss (All-tail (IsOfFunction size) s ss all))

pub none_common : (size : ℕ) (ss : List SymbolParts) → All (IsOfFunction size) ss → sum_by common_room ss ≡ 0
none_common size [] all = refl
none_common size (s ∷ ss) all =
    omega (arith, sum_by-cons common_room s ss, uncommon size s (All-head (IsOfFunction size) s ss all), none_common size ss (All-tail (IsOfFunction size) s ss all))

-- ---- those of an object

pub undefined_are : (n size : ℕ) → n ≤ FUNCTION_LIMIT → (js : List ℕ) → All (λ j. j < n) js → All (IsOfFunction size) (map undefined_symbol js)
undefined_are n size le [] all = All-nil (IsOfFunction size)
undefined_are n size le (j ∷ js) all =
    All-cons (IsOfFunction size) (undefined_symbol j) (map undefined_symbol js)
    (Undefined j (omega (arith, le, All-head (λ i. i < n) j js all)) refl) (undefined_are n size le js (All-tail (λ i. i < n) j js all))

pub functions_are : (size i at : ℕ) (bodies : List (List Statement)) → i + length bodies ≤ FUNCTION_LIMIT → at + code_size (flat_map (λ body. body) bodies) ≤ size → size < 2 ^ 32
    → All (IsOfFunction size) (function_symbols i at bodies)
functions_are size i at [] le room small = All-nil (IsOfFunction size)
functions_are size i at (body ∷ rest) le room small =
    let more = sum_by-append size_of body (flat_map (λ b. b) rest) in
    All-cons (IsOfFunction size) (function_symbol i at body) (function_symbols (i + 1) (at + code_size body) rest)
    (Defined i at body (omega (arith, le)) (omega (arith, room)) (omega (arith, room, more, small)) refl)
    (functions_are size (i + 1) (at + code_size body) rest (omega (arith, le)) (omega (arith, room, more)) small)
