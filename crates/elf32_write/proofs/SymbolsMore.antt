-- The table of symbols, one symbol more.
use Rattle.std.proofs.Common.{◌≡◌, ℕ, ◌+◌, ◌<◌, ◌≤◌, List, [], ◌∷◌, ◌++◌, length, get_or, take, drop, All, subst, sym, ap, ◌∙◌, arith, append-nil, length-append, take-append-drop}
use Rattle.std.specs.List.{flat_map}
use Rattle.std.proofs.lemmas.List.{map-append, take_more}
use Rattle.std.proofs.lemmas.List.Elements.{All-more}
use Rattle.std.proofs.lemmas.List.Concat.{flat_map-append}
use Rattle.elf32_read.specs.Parts.{SymbolParts}
use Rattle.elf32_write.specs.NameTable.{name_bytes, name_table}
use Rattle.elf32_write.specs.Entries.{strtab_names, symbol_bytes, written_entries, written_entry}
use Rattle.elf32_write.proofs.EachAfter.{each_after_push, name_table_push}

-- the first names have no longer a table than all
pub name_table_within : (names : List (List ℕ)) (rest : List (List ℕ)) → length (name_table names) ≤ length (name_table (names ++ rest))
name_table_within names rest =
    let both = ap length (flat_map-append name_bytes names rest) ∙ length-append (flat_map name_bytes names) (flat_map name_bytes rest) in
    omega (arith, both)

pub symbol_names_within : (xs : List SymbolParts) (i : ℕ) → length (name_table (strtab_names (take i xs))) ≤ length (name_table (strtab_names xs))
symbol_names_within xs i =
    let cut : strtab_names xs ≡ strtab_names (take i xs) ++ strtab_names (drop i xs) =
    ap strtab_names (sym (take-append-drop i xs)) ∙ map-append (λ (s : SymbolParts). s.name) (take i xs) (drop i xs) in
    let within = name_table_within (strtab_names (take i xs)) (strtab_names (drop i xs)) in
    omega (arith, within, ap (λ l. length (name_table l)) cut)

-- a list's elements up to one, and that one
pub taken : {X : Type 0} (xs : List X) (i : ℕ) (x : X) → i < length xs → x ≡ get_or xs i x → take (i + 1) xs ≡ take i xs ++ x ∷ []
taken xs i x lt is = take_more xs i x lt ∙ ap (λ y. take i xs ++ y ∷ []) (sym is)

-- what holds of the elements up to one, and of that one
pub all_more : {X : Type 0} (P : X → Type 0) (xs : List X) (i : ℕ) (x : X) → i < length xs → x ≡ get_or xs i x → All P (take i xs) → P x → All P (take (i + 1) xs)
all_more P xs i x lt is before here = All-more P xs i x lt before (subst P is here)

pub names_more : (before : List SymbolParts) (s : SymbolParts) → name_table (strtab_names before) ++ name_bytes s.name ≡ name_table (strtab_names (before ++ s ∷ []))
names_more before s = sym (ap name_table (map-append (λ (b : SymbolParts). b.name) before (s ∷ [])) ∙ name_table_push (strtab_names before) s.name)

pub entries_more : (before : List SymbolParts) (s : SymbolParts) → flat_map symbol_bytes (written_entries before) ++ symbol_bytes (written_entry before s) ≡ flat_map symbol_bytes (written_entries (before ++ s ∷ []))
entries_more before s =
    let entry = written_entry before s in
    let last : flat_map symbol_bytes (entry ∷ []) ≡ symbol_bytes entry = append-nil (symbol_bytes entry) in
    sym (ap (λ l. flat_map symbol_bytes ((written_entries []) ++ l)) (each_after_push written_entry before s)
    ∙ flat_map-append symbol_bytes (written_entries before) (entry ∷ [])
    ∙ ap (λ l. flat_map symbol_bytes (written_entries before) ++ l) last)
