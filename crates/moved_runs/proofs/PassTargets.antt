-- What symbols of a pass's result lead to, if each that is defined in an object leads to where its target is moved.
use Rattle.std.proofs.Common.{◌≡◌, ℕ, zero, suc, ◌<◌, ℤ, pos, ◌⊎◌, inl, inr, List, [], ◌∷◌, length, drop, refl, sym, ap, ap₂, ◌∙◌, arith, Bool, true, false, cond, eqb, Option, Some, None, slice_get, subst}
use Rattle.std.specs.Prelude.{◌&&◌, ◌||◌, not}
use Rattle.std.specs.Int.{w32, cast_unsigned}
use Rattle.std.specs.Option.{option_and_then, option_map, option_map_or}
use Rattle.std.proofs.lemmas.Option.{get_or_from_slice_get, slice_get-map, slice_get_past, slice_get_within}
use Rattle.std.proofs.lemmas.List.Elements.{All-get_or}
use Rattle.zc_base.specs.declared.place.Place.{Place}
use Rattle.elf32_read.specs.Parts.{ObjectParts, SectionParts, SymbolParts, is_code_section, is_kept_section}
use Rattle.psabi_sym.specs.Data.{class_of, role_of}
use Rattle.psabi_sym.specs.Inputs.{ParsedInputs}
use Rattle.psabi_sym.specs.Indexed.{IndexedSymbol, section_at, symbol_at}
use Rattle.psabi_sym.specs.Names.{goes_by_name}
use Rattle.psabi_sym.specs.Resolve.{Definition, definition_target, home_target, name_definition, name_target, number_target, resolved, role_target, symbol_target, undefined_target}
use Rattle.psabi_sym.specs.Resolve.Definition.{InObject, AtNumber}
use Rattle.psabi_sym.specs.declared.section_row.SectionRole.TheVariants as role
use Rattle.psabi_sym.specs.declared.target.Target.{Target}
use Rattle.psabi_sym.specs.declared.target.Target.TheVariants.{Absent, Nowhere}
use Rattle.moved_runs.specs.Moved.{moved_target}
use Rattle.moved_runs.specs.Passes.{ArePassed, IsHomed, IsOrderly, Pass}
use Rattle.moved_runs.proofs.PassNames.{Defined, Numbered, SameDefinition, Undefined, definition-same}
use Rattle.moved_runs.proofs.PassNumbers.{not-eqb}
use Rattle.moved_runs.proofs.PassSections.{result-of}
use Rattle.moved_runs.proofs.PassSymbols.{IsPassedSymbol}

abbrev pub section_target : ParsedInputs → ℕ → ℕ → ℕ → ℤ → SectionParts → Target
section_target inputs o i value addend section = role_target inputs o i value addend section (role_of section)

abbrev pub named_target : ParsedInputs → SymbolParts → ℤ → Target
named_target inputs s addend = option_map_or (definition_target inputs addend) (name_definition inputs s.name) (undefined_target s addend)

-- ---- a section

pub data-role : (h : SectionParts) → is_kept_section h ≡ true → is_code_section h ≡ false → role_of h ≡ role.InClass (class_of h)
unfolding role_of
data-role h kept plain = ap₂ (λ c k. cond c role.Code (cond k (role.InClass (class_of h)) role.Dropped)) plain kept

-- ---- where a symbol is in a section of an orderly object

pub low-home : (g : ObjectParts) (s : SymbolParts) → IsOrderly g → s.home < length g.sections → eqb s.home 0xFFF1 ≡ false
low-home g s orderly low = not-eqb s.home 0xFFF1 (inl (omega (arith, low, orderly.few)))

pub absolute : (g : ObjectParts) (s : SymbolParts) → IsOrderly g → s.home ≡ 0xFFF1 → slice_get g.sections s.home ≡ None
absolute g s orderly is = slice_get_past g.sections s.home (omega (arith, is, orderly.few))

pub in-section : (inputs : ParsedInputs) (o : ℕ) (g : ObjectParts) (s : SymbolParts) (addend : ℤ) → slice_get inputs.objects o ≡ Some g → s.home < length g.sections → IsOrderly g
    → home_target inputs o s addend ≡ option_map_or (section_target inputs o s.home s.value addend) (slice_get g.sections s.home) Nowhere
in-section inputs o g s addend at low orderly =
    ap (λ b. cond b (number_target s.value addend) (option_map_or (section_target inputs o s.home s.value addend) (section_at inputs.objects o s.home) Nowhere)) (low-home g s orderly low)
    ∙ ap (λ x. option_map_or (section_target inputs o s.home s.value addend) (option_and_then (λ (object : ObjectParts). slice_get object.sections s.home) x) Nowhere) at

-- ---- symbols of an object

second : {X : Type 0} (xs : List X) (k : ℕ) → slice_get xs (suc k) ≡ slice_get (drop 1 xs) k
second [] zero = refl
second [] (suc k) = refl
second (x ∷ xs) k = refl

pub homed-at : (g : ObjectParts) (k : ℕ) (s : SymbolParts) → IsOrderly g → slice_get g.symbols (suc k) ≡ Some s → IsHomed g s
homed-at g k s orderly is =
    let here = sym (second g.symbols k) ∙ is in
    subst (IsHomed g) (get_or_from_slice_get (drop 1 g.symbols) k s s here) (All-get_or (IsHomed g) (drop 1 g.symbols) k s (slice_get_within (drop 1 g.symbols) k s here) orderly.homes)

module _ (pass : Pass) (inputs result : ParsedInputs) (passes : ArePassed pass inputs result) (M : Place → Place) where
  pub symbol-got : (o k : ℕ) (g : ObjectParts) (s : SymbolParts) → slice_get inputs.objects o ≡ Some g → slice_get g.symbols (suc k) ≡ Some s → symbol_at result.objects o (suc k) ≡ Some (pass.symbol o g s)
  symbol-got o k g s at is =
      let r = result-of pass inputs.objects result.objects passes.objects o g at in
      ap (option_and_then (λ (object : ObjectParts). slice_get object.symbols (suc k))) r.is
      ∙ ap (λ ss. slice_get ss (suc k)) r.clean.symbols
      ∙ slice_get-map (pass.symbol o g) (drop 1 g.symbols) k
      ∙ ap (option_map (pass.symbol o g)) (sym (second g.symbols k) ∙ is)

  -- ---- where definitions lead

  -- a symbol with an addend leads to where its target with another addend is moved
  abbrev pub SymbolMoves : ℤ → ℤ → IndexedSymbol → Type 0
  SymbolMoves a b l = (m : IndexedSymbol) → IsPassedSymbol pass inputs.objects l m → eqb l.symbol.home 0 ≡ false → home_target result m.object m.symbol b ≡ moved_target M (home_target inputs l.object l.symbol a)

  abbrev pub DefinitionMoves : ℤ → ℤ → Option Definition → Type 0
  DefinitionMoves a b None = b ≡ a
  DefinitionMoves a b (Some (AtNumber n)) = b ≡ a
  DefinitionMoves a b (Some (InObject l)) = SymbolMoves a b l

  -- a name by itself
  pub name-moved : (name : List ℕ) → DefinitionMoves (pos 0) (pos 0) (name_definition inputs name) → name_target result name ≡ moved_target M (name_target inputs name)
  name-moved name = by (name_definition inputs name) (name_definition result name) (definition-same pass inputs result passes name)
    where
      by : (d e : Option Definition) → SameDefinition pass inputs result passes d e → DefinitionMoves (pos 0) (pos 0) d
          → option_map_or (definition_target result (pos 0)) e Nowhere ≡ moved_target M (option_map_or (definition_target inputs (pos 0)) d Nowhere)
      by d e Undefined it = refl
      by d e (Numbered n) it = refl
      by d e (Defined l m c other) it = it m c other

  undefined-same : (s t : SymbolParts) (addend : ℤ) → t.bind ≡ s.bind → undefined_target t addend ≡ moved_target M (undefined_target s addend)
  undefined-same s t addend same = ap (λ b. cond (eqb b 2) (Absent (cast_unsigned w32 addend)) Nowhere) same ∙ by (eqb s.bind 2)
    where
      by : (b : Bool) → cond b (Absent (cast_unsigned w32 addend)) Nowhere ≡ moved_target M (cond b (Absent (cast_unsigned w32 addend)) Nowhere)
      by true = refl
      by false = refl

  named-moved : (s t : SymbolParts) (a b : ℤ) → t.name ≡ s.name → t.bind ≡ s.bind → DefinitionMoves a b (name_definition inputs s.name) → named_target result t b ≡ moved_target M (named_target inputs s a)
  named-moved s t a b name bind it =
      ap (λ n. option_map_or (definition_target result b) (name_definition result n) (undefined_target t b)) name
      ∙ by (name_definition inputs s.name) (name_definition result s.name) (definition-same pass inputs result passes s.name) it
    where
      by : (d e : Option Definition) → SameDefinition pass inputs result passes d e → DefinitionMoves a b d
          → option_map_or (definition_target result b) e (undefined_target t b) ≡ moved_target M (option_map_or (definition_target inputs a) d (undefined_target s a))
      by d e Undefined it = ap (undefined_target t) it ∙ undefined-same s t a bind
      by d e (Numbered n) it = ap (number_target n) it
      by d e (Defined l m c other) it = it m c other

  -- ---- symbols

  -- what defines a symbol: itself, or what its name stands for
  pub record DefinesMoved (o i : ℕ) (s : SymbolParts) (a b : ℤ) : Type 0 where
    pub named : goes_by_name s ≡ true → DefinitionMoves a b (name_definition inputs s.name)
    pub own : goes_by_name s ≡ false → SymbolMoves a b (record { object = o; index = i; symbol = s })

  symbol-moved : (o i : ℕ) (g : ObjectParts) (s : SymbolParts) (a b : ℤ) → slice_get inputs.objects o ≡ Some g → IsOrderly g → IsHomed g s → DefinesMoved o i s a b
      → symbol_target result o (pass.symbol o g s) b ≡ moved_target M (symbol_target inputs o s a)
  symbol-moved o i g s a b at orderly homed it =
      let same = pass.keeps_symbols o g s orderly in
      ap₂ (λ c n. cond (c || not (eqb n 0)) (named_target result (pass.symbol o g s) b) (home_target result o (pass.symbol o g s) b)) same.common same.bind
      ∙ by (goes_by_name s) refl
    where
      -- what is its own definition isn't undefined
      other : goes_by_name s ≡ false → eqb s.home 0 ≡ false
      other own = local (eqb s.home 0xFFF2) (eqb s.bind 0) (eqb s.home 0) own homed.somewhere
        where
          local : (c b h : Bool) → (c || not b) ≡ false → (b && h) ≡ false → h ≡ false
          local c true h own somewhere = somewhere
          local true false h own somewhere = absurd cc
          local false false h own somewhere = absurd cc

      by : (n : Bool) → goes_by_name s ≡ n
          → cond n (named_target result (pass.symbol o g s) b) (home_target result o (pass.symbol o g s) b) ≡ moved_target M (cond n (named_target inputs s a) (home_target inputs o s a))
      by true is = let same = pass.keeps_symbols o g s orderly in named-moved s (pass.symbol o g s) a b same.name same.bind (it.named is)
      by false is = it.own is (record { object = o; index = i; symbol = pass.symbol o g s }) (record { object = refl; index = refl; given = g; given_is = at; orderly = orderly; homed = homed; symbol = refl }) (other is)

  -- a symbol by its object's index and its own; symbol 0 is a number
  pub symbol-resolved : (o k : ℕ) (g : ObjectParts) (s : SymbolParts) (a b : ℤ) → slice_get inputs.objects o ≡ Some g → slice_get g.symbols (suc k) ≡ Some s → DefinesMoved o (suc k) s a b
      → resolved result o (suc k) b ≡ moved_target M (resolved inputs o (suc k) a)
  unfolding resolved
  symbol-resolved o k g s a b at is it =
      let r = result-of pass inputs.objects result.objects passes.objects o g at in
      let given : symbol_at inputs.objects o (suc k) ≡ Some s = ap (option_and_then (λ (object : ObjectParts). slice_get object.symbols (suc k))) at ∙ is in
      ap (λ x. option_map_or (λ symbol. symbol_target result o symbol b) x Nowhere) (symbol-got o k g s at is)
      ∙ symbol-moved o (suc k) g s a b at r.clean.orderly (homed-at g k s r.clean.orderly is) it
      ∙ sym (ap (λ x. moved_target M (option_map_or (λ symbol. symbol_target inputs o symbol a) x Nowhere)) given)
