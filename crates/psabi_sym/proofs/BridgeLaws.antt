-- From rows to sections and symbols: what tables by rows have is what the definitions say.
use Rattle.std.proofs.Common.{◌≡◌, ℕ, suc, ◌+◌, ◌<◌, Bool, true, false, cond, eqb, not, ◌&&◌, List, [], ◌∷◌, length, get_or, map, max, refl, sym, ap, ◌∙◌, arith, filter, Option, Some, None, is_none, All}
use Rattle.std.specs.List.{find, fold}
use Rattle.std.specs.Option.{option_map, option_map_or}
use Rattle.std.proofs.lemmas.Bool.{and_parts}
use Rattle.std.proofs.lemmas.List.Elements.{All-cons, All-filter, All-head, All-nil, All-tail}
use Rattle.elf32_read.specs.Parts.{ObjectParts, SymbolParts}
use Rattle.psabi_sym.specs.declared.data_class.DataClass.{DataClass}
use Rattle.psabi_sym.specs.declared.symbol_row.SymbolRow.{SymbolRow}
use Rattle.psabi_sym.specs.Blocks.{aligned_up, end_from, placed_from}
use Rattle.psabi_sym.specs.Data.{blocks_in, common_block, commons_placed, has_class, role_of}
use Rattle.psabi_sym.specs.Faults.{is_second, same_symbol}
use Rattle.psabi_sym.specs.Indexed.{IndexedSection, IndexedSymbol, all_symbols}
use Rattle.psabi_sym.specs.Names.{first_definition, firsts, goes_by_name, is_common, is_definition, same_name, strong_definition}
use Rattle.psabi_sym.specs.Invariants.Numbered.{HaveNumbers}
use Rattle.psabi_sym.specs.Invariants.Rows.{first_row, first_rows, name_number, placed_rows, row_address_of, row_is_second, row_block, row_blocks, row_common_block, row_defines, row_is_common, row_room, row_takes_room, section_row, symbol_number, symbol_row}
use Rattle.psabi_sym.proofs.NumberLaws.{common_goes, definition_goes, number_same, same_is, symbol_number_is}

-- ---- lists

pub find-map : {X Y : Type 0} (f : X → Y) (p : Y → Bool) (q : X → Bool) (xs : List X) → All (λ x. p (f x) ≡ q x) xs → find p (map f xs) ≡ option_map f (find q xs)
find-map f p q [] same = refl
find-map f p q (x ∷ xs) same = by (q x) (All-head (λ y. p (f y) ≡ q y) x xs same) (find-map f p q xs (All-tail (λ y. p (f y) ≡ q y) x xs same))
  where
    by : (b : Bool) → p (f x) ≡ b → find p (map f xs) ≡ option_map f (find q xs) → find p (map f (x ∷ xs)) ≡ option_map f (cond b (Some x) (find q xs))
    by true is rest = ap (λ t. cond t (Some (f x)) (find p (map f xs))) is
    by false is rest = ap (λ t. cond t (Some (f x)) (find p (map f xs))) is ∙ rest

pub filter-map : {X Y : Type 0} (f : X → Y) (p : Y → Bool) (q : X → Bool) (xs : List X) → All (λ x. p (f x) ≡ q x) xs → filter p (map f xs) ≡ map f (filter q xs)
filter-map f p q [] same = refl
filter-map f p q (x ∷ xs) same = by (q x) (All-head (λ y. p (f y) ≡ q y) x xs same) (filter-map f p q xs (All-tail (λ y. p (f y) ≡ q y) x xs same))
  where
    by : (b : Bool) → p (f x) ≡ b → filter p (map f xs) ≡ map f (filter q xs) → filter p (map f (x ∷ xs)) ≡ map f (cond b (x ∷ filter q xs) (filter q xs))
    by true is rest = (λ j. cond (is j) (f x ∷ filter p (map f xs)) (filter p (map f xs))) ∙ ap (λ t. f x ∷ t) rest
    by false is rest = (λ j. cond (is j) (f x ∷ filter p (map f xs)) (filter p (map f xs))) ∙ rest

pub map-map : {X Y Z : Type 0} (g : Y → Z) (f : X → Y) (xs : List X) → map g (map f xs) ≡ map (λ x. g (f x)) xs
map-map g f [] = refl
map-map g f (x ∷ xs) = ap (λ t. g (f x) ∷ t) (map-map g f xs)

pub map-same : {X Y : Type 0} (f g : X → Y) (xs : List X) → All (λ x. f x ≡ g x) xs → map f xs ≡ map g xs
map-same f g [] same = refl
map-same f g (x ∷ xs) same = λ j. All-head (λ y. f y ≡ g y) x xs same j ∷ map-same f g xs (All-tail (λ y. f y ≡ g y) x xs same) j

-- ---- sections

pub row_blocks_are : (fixed : List (List ℕ)) (class : DataClass) (sections : List IndexedSection) → row_blocks class (map (section_row fixed) sections) ≡ blocks_in class sections
row_blocks_are fixed class [] = refl
row_blocks_are fixed class (s ∷ ss) = by (has_class class (role_of s.section)) (row_blocks_are fixed class ss)
  where
    by : (b : Bool) → row_blocks class (map (section_row fixed) ss) ≡ blocks_in class ss
        → map row_block (cond b (section_row fixed s ∷ filter (λ r. has_class class r.role) (map (section_row fixed) ss)) (filter (λ r. has_class class r.role) (map (section_row fixed) ss)))
        ≡ map (λ l. record { align = l.section.align; size = l.section.size })
        (cond b (s ∷ filter (λ l. has_class class (role_of l.section)) ss) (filter (λ l. has_class class (role_of l.section)) ss))
    by true rest = ap (λ t. row_block (section_row fixed s) ∷ t) rest
    by false rest = rest

-- ---- symbols

-- firsts keep what each symbol has
All-firsts : (P : IndexedSymbol → Type 0) (ls : List IndexedSymbol) → All P ls → All P (firsts ls)
All-firsts P [] all = all
All-firsts P (l ∷ ls) all =
    All-cons P l _ (All-head P l ls all) (All-filter (λ m. not (same_name m.symbol.name l.symbol.name)) P (firsts ls) (All-firsts P ls (All-tail P l ls all)))

-- a symbol that goes by its name, and has a number
pub record HasNumber (names : List (List ℕ)) (s : SymbolParts) : Type 0 where
  pub goes : goes_by_name s ≡ true
  pub within : name_number names s.name < length names

-- a test of a name by number, of symbols that go by their names
named_and : (names : List (List ℕ)) (b : Bool) (name : List ℕ) (l : IndexedSymbol) → (b ≡ true → goes_by_name l.symbol ≡ true) → name_number names name < length names
    → (b && eqb (symbol_number names l.symbol) (name_number names name)) ≡ (b && same_name l.symbol.name name)
named_and names true name l goes there = ap (λ n. eqb n (name_number names name)) (symbol_number_is names l.symbol (goes refl)) ∙ number_same names l.symbol.name name there
named_and names false name l goes there = refl

module _ (names : List (List ℕ)) (objects : List ObjectParts) (numbered : HaveNumbers names (all_symbols objects)) where
  rows : List SymbolRow
  rows = map (symbol_row names) (all_symbols objects)

  -- the first definition of a name
  pub first_row_is : (bind : ℕ) (name : List ℕ) → eqb bind 0 ≡ false → name_number names name < length names
      → first_row bind (map (symbol_row names) (all_symbols objects)) (name_number names name) ≡ option_map (symbol_row names) (first_definition bind objects name)
  first_row_is bind name other there =
      find-map (symbol_row names) (λ r. row_defines bind r && eqb r.name (name_number names name)) (λ l. is_definition bind l.symbol && same_name l.symbol.name name) (all_symbols objects)
      (λ k d within.
      let l = get_or (all_symbols objects) k d in
      named_and names (is_definition bind l.symbol) name l (definition_goes bind l.symbol other) there)

  -- the room of a name
  pub common_block_is : (m : IndexedSymbol) → name_number names m.symbol.name < length names
      → row_common_block (map (symbol_row names) (all_symbols objects)) (name_number names m.symbol.name) ≡ common_block objects m
  common_block_is m there =
      let name = m.symbol.name in
      let commons = filter (λ l. is_common l.symbol && same_name l.symbol.name name) (all_symbols objects) in
      let same = filter-map (symbol_row names) (λ r. row_is_common r && eqb r.name (name_number names name)) (λ l. is_common l.symbol && same_name l.symbol.name name) (all_symbols objects)
      (λ k d within.
      let l = get_or (all_symbols objects) k d in
      named_and names (is_common l.symbol) name l (common_goes l.symbol) there) in
      λ j. record {
        align = (ap (λ rs. fold max 0 (map (λ r. max 1 r.value) rs)) same ∙ ap (fold max 0) (map-map (λ r. max 1 r.value) (symbol_row names) commons)) j;
        size = (ap (λ rs. fold max 0 (map (λ r. r.size) rs)) same ∙ ap (fold max 0) (map-map (λ r. r.size) (symbol_row names) commons)) j;
      }

  is_none-map : (o : Option IndexedSymbol) → is_none (option_map (symbol_row names) o) ≡ is_none o
  is_none-map None = refl
  is_none-map (Some l) = refl

  -- the firsts of each name
  firsts_are : (ls : List IndexedSymbol) → All (λ l. HasNumber names l.symbol) ls → first_rows (map (symbol_row names) ls) ≡ map (symbol_row names) (firsts ls)
  firsts_are [] all = refl
  firsts_are (l ∷ ls) all =
      let here = All-head (λ m. HasNumber names m.symbol) l ls all in
      let others = All-tail (λ m. HasNumber names m.symbol) l ls all in
      ap (λ t. symbol_row names l ∷ t)
      ((λ j. filter (λ s. not (eqb s.name (symbol_number_is names l.symbol here.goes j))) (firsts_are ls others j))
      ∙ filter-map (symbol_row names) (λ s. not (eqb s.name (name_number names l.symbol.name))) (λ m. not (same_name m.symbol.name l.symbol.name)) (firsts ls)
      (λ k d within.
      let m = get_or (firsts ls) k d in
      ap not (ap (λ n. eqb n (name_number names l.symbol.name)) (symbol_number_is names m.symbol (All-firsts (λ n. HasNumber names n.symbol) ls others k d within).goes)
      ∙ number_same names m.symbol.name l.symbol.name here.within)))

  -- what takes room has a number
  taking_numbered : (ls : List IndexedSymbol) → HaveNumbers names ls → All (λ l. HasNumber names l.symbol) (filter (λ l. is_common l.symbol && is_none (strong_definition objects l.symbol.name)) ls)
  taking_numbered [] all = All-nil (λ (l : IndexedSymbol). HasNumber names l.symbol)
  taking_numbered (l ∷ ls) all =
      let P = λ (m : IndexedSymbol). goes_by_name m.symbol ≡ true → name_number names m.symbol.name < length names in
      by (is_common l.symbol && is_none (strong_definition objects l.symbol.name)) refl (All-head P l ls all) (taking_numbered ls (All-tail P l ls all))
    where
      by : (b : Bool) → (is_common l.symbol && is_none (strong_definition objects l.symbol.name)) ≡ b → (goes_by_name l.symbol ≡ true → name_number names l.symbol.name < length names)
          → All (λ m. HasNumber names m.symbol) (filter (λ m. is_common m.symbol && is_none (strong_definition objects m.symbol.name)) ls)
          → All (λ m. HasNumber names m.symbol) (cond b (l ∷ filter (λ m. is_common m.symbol && is_none (strong_definition objects m.symbol.name)) ls) (filter (λ m. is_common m.symbol && is_none (strong_definition objects m.symbol.name)) ls))
      by true is there rest =
          let goes = common_goes l.symbol (and_parts (is_common l.symbol) (is_none (strong_definition objects l.symbol.name)) is).0 in
          All-cons (λ m. HasNumber names m.symbol) l _ (record { goes = goes; within = there goes }) rest
      by false is there rest = rest

  -- what is placed
  pub placed_are : placed_rows (map (symbol_row names) (all_symbols objects)) (map (symbol_row names) (all_symbols objects)) ≡ map (symbol_row names) (commons_placed objects)
  unfolding placed_rows commons_placed
  placed_are =
      ap first_rows (filter-map (symbol_row names) (row_takes_room (map (symbol_row names) (all_symbols objects))) (λ l. is_common l.symbol && is_none (strong_definition objects l.symbol.name)) (all_symbols objects)
      (λ k d within. row_takes (get_or (all_symbols objects) k d) (is_common (get_or (all_symbols objects) k d).symbol) refl (numbered k d within)))
      ∙ firsts_are (filter (λ l. is_common l.symbol && is_none (strong_definition objects l.symbol.name)) (all_symbols objects)) (taking_numbered (all_symbols objects) numbered)
    where
      row_takes : (l : IndexedSymbol) (b : Bool) → is_common l.symbol ≡ b → (goes_by_name l.symbol ≡ true → name_number names l.symbol.name < length names)
          → (is_common l.symbol && is_none (first_row 1 (map (symbol_row names) (all_symbols objects)) (symbol_number names l.symbol))) ≡ (is_common l.symbol && is_none (strong_definition objects l.symbol.name))
      row_takes l true is there =
          let goes = common_goes l.symbol is in
          ap (λ t. is_common l.symbol && t)
          (ap (λ n. is_none (first_row 1 (map (symbol_row names) (all_symbols objects)) n)) (symbol_number_is names l.symbol goes)
          ∙ ap is_none (first_row_is 1 l.symbol.name refl (there goes)) ∙ is_none-map (strong_definition objects l.symbol.name))
      row_takes l false is there = (λ j. is j && is_none (first_row 1 (map (symbol_row names) (all_symbols objects)) (symbol_number names l.symbol))) ∙ (λ j. sym is j && is_none (strong_definition objects l.symbol.name))

  -- the room of a symbol's name
  room_is : (l : IndexedSymbol) → HasNumber names l.symbol → row_room (map (symbol_row names) (all_symbols objects)) (symbol_row names l) ≡ common_block objects l
  room_is l here = ap (row_common_block (map (symbol_row names) (all_symbols objects))) (symbol_number_is names l.symbol here.goes) ∙ common_block_is l here.within

  -- where all that is placed ends
  ends_are : (ls : List IndexedSymbol) → All (λ l. HasNumber names l.symbol) ls
      → map (row_room (map (symbol_row names) (all_symbols objects))) (map (symbol_row names) ls) ≡ map (common_block objects) ls
  ends_are ls all =
      map-map (row_room (map (symbol_row names) (all_symbols objects))) (symbol_row names) ls
      ∙ map-same (λ l. row_room (map (symbol_row names) (all_symbols objects)) (symbol_row names l)) (common_block objects) ls
      (λ k d within. room_is (get_or ls k d) (all k d within))

  -- the address of a name among what is placed
  address_is : (start : ℕ) (name : List ℕ) → name_number names name < length names → (ls : List IndexedSymbol) → All (λ l. HasNumber names l.symbol) ls
      → row_address_of (placed_from (row_room (map (symbol_row names) (all_symbols objects))) start (map (symbol_row names) ls)) (name_number names name)
      ≡ option_map (λ e. e.1) (find (λ e. same_name e.0.symbol.name name) (placed_from (common_block objects) start ls))
  address_is start name there [] all = refl
  address_is start name there (l ∷ ls) all =
      let room = row_room (map (symbol_row names) (all_symbols objects)) in
      let here = All-head (λ m. HasNumber names m.symbol) l ls all in
      let b = common_block objects l in
      let begin = aligned_up b.align start in
      ap (λ c. row_address_of ((symbol_row names l, aligned_up c.align start) ∷ placed_from room (aligned_up c.align start + c.size) (map (symbol_row names) ls)) (name_number names name)) (room_is l here)
      ∙ ap (λ t. option_map {T = SymbolRow × ℕ} (λ e. e.1) (cond t (Some (symbol_row names l, begin)) (find (λ e. eqb e.0.name (name_number names name)) (placed_from room (begin + b.size) (map (symbol_row names) ls))))) (ap (λ n. eqb n (name_number names name)) (symbol_number_is names l.symbol here.goes) ∙ number_same names l.symbol.name name there)
      ∙ by (same_name l.symbol.name name) begin (begin + b.size) (address_is (begin + b.size) name there ls (All-tail (λ m. HasNumber names m.symbol) l ls all))
    where
      by : (t : Bool) (begin next : ℕ)
          → row_address_of (placed_from (row_room (map (symbol_row names) (all_symbols objects))) next (map (symbol_row names) ls)) (name_number names name)
          ≡ option_map (λ e. e.1) (find (λ e. same_name e.0.symbol.name name) (placed_from (common_block objects) next ls))
          → option_map {T = SymbolRow × ℕ} (λ e. e.1) (cond t (Some (symbol_row names l, begin)) (find (λ e. eqb e.0.name (name_number names name)) (placed_from (row_room (map (symbol_row names) (all_symbols objects))) next (map (symbol_row names) ls))))
          ≡ option_map {T = IndexedSymbol × ℕ} (λ e. e.1) (cond t (Some (l, begin)) (find (λ e. same_name e.0.symbol.name name) (placed_from (common_block objects) next ls)))
      by true begin next rest = refl
      by false begin next rest = rest

  -- what is placed has a number
  pub placed_numbered : All (λ l. HasNumber names l.symbol) (commons_placed objects)
  unfolding commons_placed
  placed_numbered =
      All-firsts (λ l. HasNumber names l.symbol) (filter (λ l. is_common l.symbol && is_none (strong_definition objects l.symbol.name)) (all_symbols objects)) (taking_numbered (all_symbols objects) numbered)

  -- a name that is common, and where all end
  pub common_is : (start : ℕ) (name : List ℕ) → name_number names name < length names
      → row_address_of (placed_from (row_room (map (symbol_row names) (all_symbols objects))) start (placed_rows (map (symbol_row names) (all_symbols objects)) (map (symbol_row names) (all_symbols objects)))) (name_number names name)
      ≡ option_map (λ e. e.1) (find (λ e. same_name e.0.symbol.name name) (placed_from (common_block objects) start (commons_placed objects)))
  common_is start name there =
      ap (λ rs. row_address_of (placed_from (row_room (map (symbol_row names) (all_symbols objects))) start rs) (name_number names name)) placed_are
      ∙ address_is start name there (commons_placed objects) placed_numbered

  pub commons_end : (start : ℕ)
      → end_from start (map (row_room (map (symbol_row names) (all_symbols objects))) (placed_rows (map (symbol_row names) (all_symbols objects)) (map (symbol_row names) (all_symbols objects))))
      ≡ end_from start (map (common_block objects) (commons_placed objects))
  commons_end start = ap (λ rs. end_from start (map (row_room (map (symbol_row names) (all_symbols objects))) rs)) placed_are ∙ ap (end_from start) (ends_are (commons_placed objects) placed_numbered)

  -- a second strong definition
  pub second_is : (l : IndexedSymbol) → (goes_by_name l.symbol ≡ true → name_number names l.symbol.name < length names)
      → row_is_second (map (symbol_row names) (all_symbols objects)) (symbol_row names l) ≡ is_second objects l
  second_is l there = by (is_definition 1 l.symbol) refl
    where
      first_is : (o : Option IndexedSymbol)
          → option_map_or (λ first. not (eqb first.object l.object && eqb first.index l.index)) (option_map (symbol_row names) o) false ≡ option_map_or (λ first. not (same_symbol first l)) o false
      first_is None = refl
      first_is (Some first) = refl

      by : (b : Bool) → is_definition 1 l.symbol ≡ b → row_is_second (map (symbol_row names) (all_symbols objects)) (symbol_row names l) ≡ is_second objects l
      by true is =
          let goes = definition_goes 1 l.symbol refl is in
          ap (λ n. is_definition 1 l.symbol && option_map_or (λ first. not (eqb first.object l.object && eqb first.index l.index)) (first_row 1 (map (symbol_row names) (all_symbols objects)) n) false) (symbol_number_is names l.symbol goes)
          ∙ ap (λ o. is_definition 1 l.symbol && option_map_or (λ first. not (eqb first.object l.object && eqb first.index l.index)) o false) (first_row_is 1 l.symbol.name refl (there goes))
          ∙ ap (λ b. is_definition 1 l.symbol && b) (first_is (strong_definition objects l.symbol.name))
      by false is =
          (λ j. is j && option_map_or (λ first. not (eqb first.object l.object && eqb first.index l.index)) (first_row 1 (map (symbol_row names) (all_symbols objects)) (symbol_number names l.symbol)) false)
          ∙ (λ j. sym is j && option_map_or (λ first. not (same_symbol first l)) (strong_definition objects l.symbol.name) false)

  pub duplicate_is : option_map {U = ℕ × ℕ} (λ r. (r.object, r.index)) (find (row_is_second (map (symbol_row names) (all_symbols objects))) (map (symbol_row names) (all_symbols objects)))
      ≡ option_map (λ l. (l.object, l.index)) (find (is_second objects) (all_symbols objects))
  duplicate_is =
      ap (option_map {U = ℕ × ℕ} (λ r. (r.object, r.index)))
      (find-map (symbol_row names) (row_is_second (map (symbol_row names) (all_symbols objects))) (is_second objects) (all_symbols objects)
      (λ k d within. second_is (get_or (all_symbols objects) k d) (numbered k d within)))
      ∙ by (find (is_second objects) (all_symbols objects))
    where
      by : (o : Option IndexedSymbol) → option_map {U = ℕ × ℕ} (λ r. (r.object, r.index)) (option_map (symbol_row names) o) ≡ option_map (λ l. (l.object, l.index)) o
      by None = refl
      by (Some l) = refl

-- the name with a number is the name
pub number_at : (names : List (List ℕ)) (name d : List ℕ) → name_number names name < length names → get_or names (name_number names name) d ≡ name
number_at [] name d there = absurd (omega arith)
number_at (x ∷ xs) name d there = by (same_name name x) refl (number_at xs name d)
  where
    by : (b : Bool) → same_name name x ≡ b → (name_number xs name < length xs → get_or xs (name_number xs name) d ≡ name) → get_or (x ∷ xs) (name_number (x ∷ xs) name) d ≡ name
    by true is rest = ap (λ t. get_or (x ∷ xs) (cond (not t) (1 + name_number xs name) 0) d) is ∙ sym (same_is name x is)
    by false is rest =
        let inside : name_number xs name < length xs = omega (arith, there, ap (λ t. cond (not t) (1 + name_number xs name) 0) is) in
        let next : 1 + name_number xs name ≡ suc (name_number xs name) = omega arith in
        ap (λ t. get_or (x ∷ xs) (cond (not t) (1 + name_number xs name) 0) d) is ∙ ap (λ n. get_or (x ∷ xs) n d) next ∙ rest inside
