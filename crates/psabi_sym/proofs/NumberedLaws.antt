-- Laws of numbered symbols: more names leave the rows as they are, and one more symbol adds its row.
use Rattle.std.proofs.Common.{◌≡◌, ℕ, ◌+◌, ◌<◌, ◌≤◌, Bool, true, false, cond, List, [], ◌∷◌, ◌++◌, length, refl, sym, ap, ◌∙◌, arith, map, All, length-append, subst}
use Rattle.std.proofs.lemmas.List.{map_push}
use Rattle.std.proofs.lemmas.List.Elements.{All-head, All-map, All-same, All-push, All-tail, All-weaker}
use Rattle.elf32_read.specs.Parts.{SymbolParts}
use Rattle.psabi_sym.specs.Indexed.{IndexedSymbol}
use Rattle.psabi_sym.specs.Names.{goes_by_name}
use Rattle.psabi_sym.specs.Invariants.Numbered.{HaveNumbers, IsNumbered}
use Rattle.psabi_sym.specs.Invariants.Rows.{name_number, row_goes_by_name, symbol_number, symbol_row, with_name, with_symbol}
use Rattle.psabi_sym.specs.declared.symbol_row.SymbolRow.{SymbolRow}
use Rattle.psabi_sym.proofs.NumberLaws.{length-with_name, number_kept, symbol_number_is}

-- names grow by one at most, and those that were there keep their numbers
pub record Grow (names grown : List (List ℕ)) : Type 0 where
  pub kept : (name : List ℕ) → name_number names name < length names → name_number grown name ≡ name_number names name
  pub longer : length names ≤ length grown
  pub few : length grown ≤ length names + 1

-- names only grow with one symbol more
pub grow_by : (names : List (List ℕ)) (s : SymbolParts) → Grow names (with_symbol names s)
grow_by names s = by (goes_by_name s)
  where
    by : (b : Bool) → Grow names (cond b (with_name names s.name) names)
    by true = record {
      kept = λ name there. number_kept names s.name name there;
      longer = (length-with_name names s.name).0;
      few = (length-with_name names s.name).1;
    }
    by false = record { kept = λ name there. refl; longer = omega arith; few = omega arith }

module _ (names grown : List (List ℕ)) (grow : Grow names grown) where
  -- rows stay as names are added
  row_kept : (l : IndexedSymbol) → (goes_by_name l.symbol ≡ true → name_number names l.symbol.name < length names) → symbol_row names l ≡ symbol_row grown l
  row_kept l there = λ j. record (symbol_row names l) { name = by (goes_by_name l.symbol) refl j }
    where
      by : (b : Bool) → goes_by_name l.symbol ≡ b → symbol_number names l.symbol ≡ symbol_number grown l.symbol
      by true goes = symbol_number_is names l.symbol goes ∙ sym (grow.kept l.symbol.name (there goes)) ∙ sym (symbol_number_is grown l.symbol goes)
      by false stays = (λ j. cond (stays j) (name_number names l.symbol.name) 0) ∙ (λ j. cond (sym stays j) (name_number grown l.symbol.name) 0)

  rows_kept : (listed : List IndexedSymbol) → HaveNumbers names listed → map (symbol_row names) listed ≡ map (symbol_row grown) listed
  rows_kept [] all = refl
  rows_kept (l ∷ ls) all =
      let P = λ (m : IndexedSymbol). goes_by_name m.symbol ≡ true → name_number names m.symbol.name < length names in
      let rest = rows_kept ls (All-tail P l ls all) in
      λ j. row_kept l (All-head P l ls all) j ∷ rest j

  -- one symbol more, with its name if it goes by it
  pub numbered_more : (listed : List IndexedSymbol) (rows : List SymbolRow) (l : IndexedSymbol) → IsNumbered names listed rows
      → (goes_by_name l.symbol ≡ true → name_number grown l.symbol.name < length grown) → IsNumbered grown (listed ++ l ∷ []) (rows ++ symbol_row grown l ∷ [])
  numbered_more listed rows l before named =
      let P = λ (m : IndexedSymbol). goes_by_name m.symbol ≡ true → name_number grown m.symbol.name < length grown in
      let kept : All P listed =
      All-weaker (λ m. goes_by_name m.symbol ≡ true → name_number names m.symbol.name < length names) P
      (λ m there goes. omega (arith, grow.kept m.symbol.name (there goes), there goes, grow.longer)) listed before.numbered in
      record {
        rows_are =
            ap (λ t. t ++ symbol_row grown l ∷ []) (before.rows_are ∙ rows_kept listed before.numbered)
            ∙ sym (map_push (symbol_row grown) listed l);
        numbered = All-push P listed l kept named;
        few = omega (arith, grow.few, before.few, length-append listed (l ∷ []));
      }

-- numbered rows, with equal names, symbols and rows
pub numbered_as : {names names' : List (List ℕ)} {listed listed' : List IndexedSymbol} {rows rows' : List SymbolRow}
    → names ≡ names' → listed ≡ listed' → rows ≡ rows' → IsNumbered names listed rows → IsNumbered names' listed' rows'
numbered_as {names} {names'} {listed} {listed'} {rows} {rows'} n l r h =
    subst (λ x. IsNumbered names' listed' x) r (subst (λ x. IsNumbered names' x rows) l (subst (λ x. IsNumbered x listed rows) n h))

-- each row that goes by its name has a number among the names, however many these are; so has each that passes a test which only such rows pass
pub named_rows : (passes : SymbolRow → Bool) {names : List (List ℕ)} {listed : List IndexedSymbol} {rows rows' : List SymbolRow} {n : ℕ}
    → ((r : SymbolRow) → passes r ≡ true → row_goes_by_name r ≡ true) → IsNumbered names listed rows → rows' ≡ rows → length names ≡ n
    → All (λ r. passes r ≡ true → r.name < n) rows'
named_rows passes {names} {listed} {rows' = rows'} goes numbered same count =
    let P = λ (r : SymbolRow). passes r ≡ true → r.name < length names in
    subst (λ m. All (λ r. passes r ≡ true → r.name < m) rows') count
    (All-same P rows' (map (symbol_row names) listed) (same ∙ numbered.rows_are)
    (All-map P (symbol_row names) listed
    (All-weaker (λ l. goes_by_name l.symbol ≡ true → name_number names l.symbol.name < length names) (λ l. P (symbol_row names l))
    (λ l there passed. omega (arith, there (goes (symbol_row names l) passed), symbol_number_is names l.symbol (goes (symbol_row names l) passed))) listed numbered.numbered)))
