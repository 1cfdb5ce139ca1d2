-- What `_start` stands for, by its number among names: nothing if it has none.
use Rattle.std.proofs.Common.{◌≡◌, ℕ, ◌+◌, ◌<◌, ◌≤◌, Bool, true, false, cond, List, [], ◌∷◌, length, get_or, Some, None, refl, sym, ap, ◌∙◌, arith, All, ◌&&◌, eqb, map, Bor}
use Rattle.std.specs.List.{find}
use Rattle.std.specs.Option.{option_map, option_or}
use Rattle.std.proofs.lemmas.Bool.{and_right}
use Rattle.std.proofs.lemmas.List.{get_or-map, length-map}
use Rattle.std.proofs.lemmas.List.Sums.{position_or_len_is}
use Rattle.std.proofs.lemmas.List.Elements.{All-head, All-tail}
use Rattle.psabi_sym.specs.declared.data_class.DataClass.TheVariants.{Common}
use Rattle.psabi_sym.specs.Blocks.{aligned_up, placed_from}
use Rattle.psabi_sym.specs.Data.{class_start, common_address, common_block, commons_placed}
use Rattle.psabi_sym.specs.Inputs.{ParsedInputs}
use Rattle.psabi_sym.specs.Indexed.{IndexedSymbol, all_symbols}
use Rattle.psabi_sym.specs.Names.{first_definition, goes_by_name, is_definition, same_name}
use Rattle.psabi_sym.specs.Invariants.Numbered.{HaveNumbers}
use Rattle.psabi_sym.specs.Resolve.{linker_number, linker_numbers, name_definition}
use Rattle.psabi_sym.specs.Resolve.Definition.{InObject, AtNumber}
use Rattle.psabi_sym.specs.Invariants.Rows.{name_number}
use Rattle.psabi_sym.specs.Start.{start_name}
use Rattle.psabi_sym.proofs.BridgeLaws.{HasNumber, placed_numbered}
use Rattle.psabi_sym.proofs.NumberLaws.{definition_goes, same_is, same_swap}

-- a search that finds nothing
find_none : {X : Type 0} (p : X → Bool) (xs : List X) → All (λ x. p x ≡ false) xs → find p xs ≡ None
find_none p [] none = refl
find_none p (x ∷ xs) none =
    ap (λ b. cond b (Some x) (find p xs)) (All-head (λ y. p y ≡ false) x xs none) ∙ find_none p xs (All-tail (λ y. p y ≡ false) x xs none)

-- a test of a borrowed name is one of the name
pub borrowed_test : (names : List (Bor (List ℕ))) (k : ℕ) (name : List ℕ) (d : Bor (List ℕ)) (b : Bool) → k < length names → b ≡ same_name (get_or names k d).now name → same_name name (get_or (map (λ n. n.now) names) k []) ≡ b
borrowed_test names k name d b within is =
    ap (same_name name) (get_or-map (λ (n : Bor (List ℕ)). n.now) names k d [] within) ∙ same_swap name (get_or names k d).now ∙ sym is

-- where a name is first seen
pub first_seen : (names : List (Bor (List ℕ))) (name : List ℕ) (k : ℕ) → k ≤ length names → ((j : ℕ) → j < k → same_name name (get_or (map (λ n. n.now) names) j []) ≡ false)
    → (k < length names → same_name name (get_or (map (λ n. n.now) names) k []) ≡ true) → name_number (map (λ n. n.now) names) name ≡ k
first_seen names name k le before here =
    let long = length-map names (λ (n : Bor (List ℕ)). n.now) in
    position_or_len_is (same_name name) (map (λ n. n.now) names) k [] (omega (arith, le, long)) before (λ lt. here (omega (arith, lt, long)))

-- `_start` is no name of the linker's
no_linker_number : (inputs : ParsedInputs) → linker_number (linker_numbers inputs) start_name ≡ None
unfolding linker_number
no_linker_number inputs = refl

module _ (names : List (List ℕ)) (inputs : ParsedInputs)
    (numbered : HaveNumbers names (all_symbols inputs.objects))
    (none : length names ≤ name_number names start_name) where
  -- a symbol whose name has a number has another name
  other : (l : IndexedSymbol) → name_number names l.symbol.name < length names → same_name l.symbol.name start_name ≡ false
  other l there = by (same_name l.symbol.name start_name) refl
    where
      by : (b : Bool) → same_name l.symbol.name start_name ≡ b → same_name l.symbol.name start_name ≡ false
      by true is = absurd (omega (arith, there, none, ap (name_number names) (same_is l.symbol.name start_name is)))
      by false is = is

  no_definition : (bind : ℕ) → eqb bind 0 ≡ false → first_definition bind inputs.objects start_name ≡ None
  no_definition bind bound =
      find_none (λ l. is_definition bind l.symbol && same_name l.symbol.name start_name) (all_symbols inputs.objects)
      (λ k d within. by (get_or (all_symbols inputs.objects) k d) (is_definition bind (get_or (all_symbols inputs.objects) k d).symbol) refl (numbered k d within))
    where
      by : (l : IndexedSymbol) (b : Bool) → is_definition bind l.symbol ≡ b → (goes_by_name l.symbol ≡ true → name_number names l.symbol.name < length names)
          → (is_definition bind l.symbol && same_name l.symbol.name start_name) ≡ false
      by l true is there = and_right (is_definition bind l.symbol) (same_name l.symbol.name start_name) (other l (there (definition_goes bind l.symbol bound is)))
      by l false is there = ap (λ b. b && same_name l.symbol.name start_name) is

  no_common : (at : ℕ) (ls : List IndexedSymbol) → All (λ l. HasNumber names l.symbol) ls
      → find (λ e. same_name e.0.symbol.name start_name) (placed_from (common_block inputs.objects) at ls) ≡ None
  no_common at [] all = refl
  no_common at (l ∷ ls) all =
      let b = common_block inputs.objects l in
      let begin = aligned_up b.align at in
      ap (λ t. cond t (Some (l, begin)) (find (λ e. same_name e.0.symbol.name start_name) (placed_from (common_block inputs.objects) (begin + b.size) ls)))
      (other l (All-head (λ m. HasNumber names m.symbol) l ls all).within)
      ∙ no_common (begin + b.size) ls (All-tail (λ m. HasNumber names m.symbol) l ls all)

  -- nothing defines it
  pub no_start : name_definition inputs start_name ≡ None
  unfolding name_definition common_address
  no_start =
      λ j. option_or (option_map InObject (no_definition 1 refl j))
      (option_or (option_map AtNumber (option_map (λ e. e.1) (no_common (class_start inputs Common) (commons_placed inputs.objects) (placed_numbered names inputs.objects numbered) j)))
      (option_or (option_map InObject (no_definition 2 refl j)) (option_map AtNumber (no_linker_number inputs j))))
