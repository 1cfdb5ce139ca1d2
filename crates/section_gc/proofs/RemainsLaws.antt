-- What is left of sections, section after section, and what becomes of a symbol by it.
use Rattle.std.proofs.Common.{◌≡◌, ℕ, ◌+◌, List, [], ◌∷◌, ◌++◌, length, map, filter, take, refl, sym, ap, ap₂, ◌∙◌, arith, Bool, true, false, cond, eqb, Option, Some, None, slice_get}
use Rattle.std.specs.Prelude.{not, ◌&&◌}
use Rattle.std.specs.List.{enumerate_from}
use Rattle.std.specs.Option.{option_map, option_map_or}
use Rattle.std.proofs.lemmas.Bool.{and_parts}
use Rattle.std.proofs.lemmas.List.{length-append}
use Rattle.std.proofs.lemmas.List.Elements.{filter-append}
use Rattle.std.proofs.lemmas.Option.{slice_get-map}
use Rattle.elf32_read.specs.Kept.{has_flags}
use Rattle.elf32_read.specs.Parts.{ObjectParts, SectionParts, SymbolParts, is_code_section, is_kept_section}
use Rattle.psabi_sym.specs.Data.{class_of, role_of}
use Rattle.psabi_sym.specs.Indexed.{IndexedSection, all_sections}
use Rattle.psabi_sym.specs.Invariants.Rows.{section_row}
use Rattle.psabi_sym.specs.declared.section_row.SectionRow.{SectionRow}
use Rattle.psabi_sym.specs.declared.section_row.SectionRole.{SectionRole}
use Rattle.psabi_sym.specs.declared.section_row.SectionRole.TheVariants.{Code, InClass, Dropped}
use Rattle.psabi_sym.proofs.SectionNumbers.{listed_at}
use Rattle.block_cut.specs.Resolved.{asks}
use Rattle.block_cut.proofs.TakeLaws.{take_next}
use Rattle.moved_runs.specs.Passes.{new_number}
use Rattle.object_passes.proofs.ListLaws.{entries, entry-at, made-more}
use Rattle.reach.specs.Reach.{mark_of}
use Rattle.section_gc.specs.Cleaned.{cleaned_in, cleaned_section, cleaned_symbol}
use Rattle.section_gc.specs.Graph.{has_mark}
use Rattle.section_gc.specs.Remains.{is_something, is_whole, remains_in, remains_of}
use Rattle.section_gc.specs.declared.remains.Remains.{Remains}
use Rattle.section_gc.specs.declared.remains.Remains.TheVariants.{Nothing, Empty, Whole}
use Rattle.section_gc.proofs.EdgeLaws.{node-is}

-- ---- one section

-- what is left by a role
abbrev pub role_remains : Bool → ℕ → SectionRole → Remains
role_remains needed n Code = cond (not needed) (Empty n) (Whole n)
role_remains needed n (InClass class) = Whole n
role_remains needed n Dropped = Nothing

pub role-remains : (needed : Bool) (n : ℕ) (s : SectionParts) → role_remains needed n (role_of s) ≡ remains_of needed n s
unfolding role_of
role-remains needed n s = by (is_code_section s) refl (is_kept_section s) refl
  where
    by : (c : Bool) → is_code_section s ≡ c → (k : Bool) → is_kept_section s ≡ k
        → role_remains needed n (cond c Code (cond k (InClass (class_of s)) Dropped)) ≡ cond (not k) Nothing (cond (c && not needed) (Empty n) (Whole n))
    by true code true kept = refl
    by true code false kept = absurd (let both = and_parts (is_kept_section s) (has_flags 4 s.flags) code in cc (kept, both.0))
    by false code true kept = refl
    by false code false kept = refl

-- a section is left if it is kept
pub something-kept : (needed : Bool) (n : ℕ) (s : SectionParts) → is_something (remains_of needed n s) ≡ is_kept_section s
something-kept needed n s = by (is_kept_section s) (is_code_section s && not needed)
  where
    by : (k e : Bool) → is_something (cond (not k) Nothing (cond e (Empty n) (Whole n))) ≡ k
    by false e = refl
    by true true = refl
    by true false = refl

-- a section that is kept is needed if its node is marked
pub mark-at : (objects : List ObjectParts) (marks : List Bool) (k : ℕ) (l : IndexedSection) → slice_get (all_sections objects) k ≡ Some l → has_mark objects marks l.object l.index ≡ (is_kept_section l.section && mark_of marks k)
mark-at objects marks k l at = ap₂ (λ s n. option_map_or is_kept_section s false && mark_of marks n) (listed_at objects k l at) (node-is objects k l at)

remains-marked : (mark : Bool) (n : ℕ) (s : SectionParts) → remains_of (is_kept_section s && mark) n s ≡ remains_of mark n s
remains-marked mark n s = by (is_kept_section s) (is_code_section s)
  where
    by : (k c : Bool) → cond (not k) Nothing (cond (c && not (k && mark)) (Empty n) (Whole n)) ≡ cond (not k) Nothing (cond (c && not mark) (Empty n) (Whole n))
    by true c = refl
    by false c = refl

-- what is left of a section that is kept is the whole section or an empty one
pub whole-section : (b : Bool) (n : ℕ) (s : SectionParts) → is_kept_section s ≡ true → cleaned_section (is_whole (remains_of b n s)) s ≡ cleaned_section b s
whole-section b n s kept =
    ap (λ k. cleaned_section (is_whole (cond (not k) Nothing (cond (is_code_section s && not b) (Empty n) (Whole n)))) s) kept
    ∙ by (is_code_section s) b
  where
    by : (c b : Bool) → cond (c && not (is_whole (cond (c && not b) (Empty n) (Whole n)))) (record s { align = 1; size = 0; bytes = []; relocs = [] }) (record s { relocs = filter asks s.relocs })
        ≡ cond (c && not b) (record s { align = 1; size = 0; bytes = []; relocs = [] }) (record s { relocs = filter asks s.relocs })
    by true true = refl
    by true false = refl
    by false b = refl

-- ---- the table

-- one section more
pub remains-turn : (objects : List ObjectParts) (marks : List Bool) (object : ObjectParts) (o i k : ℕ) (s : SectionParts) (number : ℕ) (r : Remains) (old : List Remains) → slice_get object.sections i ≡ Some s
    → slice_get (all_sections objects) k ≡ Some (record { object = o; index = i; section = s }) → number ≡ new_number object.sections i → r ≡ remains_of (mark_of marks k) number s
    → old ≡ map (λ e. remains_of (has_mark objects marks o e.0) (new_number object.sections e.0) e.1) (take i (enumerate_from 0 object.sections))
    → old ++ r ∷ [] ≡ map (λ e. remains_of (has_mark objects marks o e.0) (new_number object.sections e.0) e.1) (take (i + 1) (enumerate_from 0 object.sections))
remains-turn objects marks object o i k s number r old here at numbered is before =
    ap (λ r. old ++ r ∷ []) (is ∙ ap (λ n. remains_of (mark_of marks k) n s) numbered ∙ sym (remains-marked (mark_of marks k) (new_number object.sections i) s)
    ∙ ap (λ b. remains_of b (new_number object.sections i) s) (sym (mark-at objects marks k (record { object = o; index = i; section = s }) at)))
    ∙ made-more (λ e. remains_of (has_mark objects marks o e.0) (new_number object.sections e.0) e.1) (enumerate_from 0 object.sections) i (i, s) old (entry-at object.sections i s here) before

-- the number of the next section
pub number-more : (ss : List SectionParts) (i : ℕ) (s : SectionParts) → slice_get ss i ≡ Some s → new_number ss (i + 1) ≡ new_number ss i + cond (is_kept_section s) 1 0
number-more ss i s at =
    omega (
      arith,
      ap (λ l. length (filter is_kept_section l)) (take_next ss i s at),
      ap length (filter-append is_kept_section (take i ss) (s ∷ [])),
      length-append (filter is_kept_section (take i ss)) (filter is_kept_section (s ∷ [])),
      by (is_kept_section s),
    )
  where
    by : (b : Bool) → length (cond b (s ∷ []) []) ≡ cond b 1 0
    by true = refl
    by false = refl

-- what the table says of a section
pub remains-at : (needed : ℕ → Bool) (object : ObjectParts) (i : ℕ) → slice_get (remains_in needed object) i ≡ option_map (remains_of (needed i) (new_number object.sections i)) (slice_get object.sections i)
remains-at needed object i =
    slice_get-map f (enumerate_from 0 object.sections) i
    ∙ ap (option_map f) (entries 0 object.sections i)
    ∙ by (slice_get object.sections i)
  where
    f : ℕ × SectionParts → Remains
    f e = remains_of (needed e.0) (new_number object.sections e.0) e.1

    zeros : 0 + i ≡ i
    zeros = omega arith

    by : (o : Option SectionParts) → option_map f (option_map (λ x. (0 + i, x)) o) ≡ option_map (remains_of (needed i) (new_number object.sections i)) o
    by None = refl
    by (Some s) = ap (λ m. Some (f (m, s))) zeros

-- ---- symbols

-- what becomes of a symbol, by what is left of its section
abbrev pub in_remains : SymbolParts → Remains → SymbolParts
in_remains s Nothing = record s { value = 0; home = 0xFFF1 }
in_remains s (Empty number) = record s { value = 0; size = 0; home = number }
in_remains s (Whole number) = record s { home = number }

in-cleaned : (b : Bool) (n : ℕ) (s : SymbolParts) (home : SectionParts) → cleaned_in b n s home ≡ in_remains s (remains_of b n home)
in-cleaned b n s home = by (is_kept_section home) (is_code_section home && not b)
  where
    by : (k e : Bool) → cond (not k) (record s { value = 0; home = 0xFFF1 }) (cond e (record s { value = 0; size = 0; home = n }) (record s { home = n })) ≡ in_remains s (cond (not k) Nothing (cond e (Empty n) (Whole n)))
    by false e = refl
    by true true = refl
    by true false = refl

-- a symbol with a home goes by the table
pub symbol-by : (needed : ℕ → Bool) (object : ObjectParts) (s : SymbolParts) (found : Option Remains) → eqb s.home 0 ≡ false → slice_get (remains_in needed object) s.home ≡ found → cleaned_symbol needed object s ≡ option_map_or (in_remains s) found s
symbol-by needed object s found other at =
    ap (λ b. option_map_or (cleaned_in (needed s.home) (new_number object.sections s.home) s) (cond b None (slice_get object.sections s.home)) s) other
    ∙ by (slice_get object.sections s.home)
    ∙ ap (λ o. option_map_or (in_remains s) o s) (sym (remains-at needed object s.home) ∙ at)
  where
    by : (o : Option SectionParts) → option_map_or (cleaned_in (needed s.home) (new_number object.sections s.home) s) o s ≡ option_map_or (in_remains s) (option_map (remains_of (needed s.home) (new_number object.sections s.home)) o) s
    by None = refl
    by (Some home) = in-cleaned (needed s.home) (new_number object.sections s.home) s home

-- ---- for the code

-- the role of a section, by its row
pub row-role : (names : List (List ℕ)) (objects : List ObjectParts) (k : ℕ) (l m : IndexedSection) (r : SectionRow) → slice_get (all_sections objects) k ≡ Some l → slice_get (all_sections objects) k ≡ Some m → r ≡ section_row names l → r.role ≡ role_of m.section
row-role names objects k l m r first second is =
    let same : l ≡ m = cc (first, second) in
    ap (λ (r : SectionRow). r.role) is ∙ ap (λ (l : IndexedSection). role_of l.section) same

-- the number of the next section, by whether this one is left
pub next-number : (ss : List SectionParts) (i n : ℕ) (s : SectionParts) (needed b : Bool) (number next : ℕ) → slice_get ss i ≡ Some s → number ≡ new_number ss i → is_something (remains_of needed n s) ≡ b
    → next ≡ number + cond b 1 0 → next ≡ new_number ss (i + 1)
next-number ss i n s needed b number next at numbered left is =
    is ∙ (λ j. numbered j + cond (sym left j) 1 0) ∙ ap (λ b. new_number ss i + cond b 1 0) (something-kept needed n s) ∙ sym (number-more ss i s at)
