-- What becomes of symbols, by the new numbers of their sections.
use Rattle.std.proofs.Common.{◌≡◌, ℕ, ◌+◌, ◌-◌, ◌≤◌, ◌<◌, List, [], ◌∷◌, ◌++◌, length, map, filter, take, drop, suc, Bool, true, false, cond, refl, sym, ap, ◌∙◌, subst, arith, eqb, Option, Some, None, slice_get}
use Rattle.std.specs.Prelude.{◌&&◌, ◌||◌, not}
use Rattle.std.specs.List.{enumerate_from}
use Rattle.std.specs.Option.{option_map, option_map_or}
use Rattle.std.proofs.lemmas.Bool.{eq-eqb, eqb-true, ne_eqb}
use Rattle.std.proofs.lemmas.List.{length-append, length-drop, take_all}
use Rattle.std.proofs.lemmas.List.FromFn.{length-enumerate_from}
use Rattle.std.proofs.lemmas.List.Elements.{filter-append}
use Rattle.std.proofs.lemmas.Option.{slice_get-map}
use Rattle.elf32_read.specs.Lent.{IsSymbol}
use Rattle.elf32_read.specs.Parts.{ObjectParts, SectionParts, SymbolParts, is_code_section, is_kept_section}
use Rattle.elf32_read.specs.declared.symbol.Symbol.{Symbol}
use Rattle.psabi_sym.specs.Faults.{gather_fault}
use Rattle.psabi_sym.specs.Indexed.{section_at}
use Rattle.psabi_sym.specs.Inputs.{Inputs, ParsedInputs, parsed}
use Rattle.zc_base.specs.declared.place.Place.{Place}
use Rattle.block_cut.specs.Items.{is_target_at, starts_in, starts_on}
use Rattle.block_cut.proofs.PlainLaws.{target_on}
use Rattle.block_cut.proofs.RelocTargetLaws.{any_pushed}
use Rattle.block_cut.proofs.StartLaws.{start_is}
use Rattle.block_cut.proofs.TakeLaws.{take_next}
use Rattle.block_cut.proofs.WholeLaws.{code_at_is, inputs_whole}
use Rattle.moved_runs.specs.Passes.{new_number}
use Rattle.object_passes.proofs.ListLaws.{entries, entry-at, made-more, second}
use Rattle.tail_merge.specs.Merged.{is_edge, merged_symbol, removed_at, symbol_in, symbol_in_code}
use Rattle.tail_merge.specs.MovedTails.{kept_number, kept_numbers}

-- ---- numbers of sections

-- one section more
pub numbers-turn : (ss : List SectionParts) (i number : ℕ) (s : SectionParts) (old : List (Option ℕ)) → slice_get ss i ≡ Some s → number ≡ new_number ss i → old ≡ map (kept_number ss) (take i (enumerate_from 0 ss))
    → old ++ cond (is_kept_section s) (Some number) None ∷ [] ≡ map (kept_number ss) (take (i + 1) (enumerate_from 0 ss))
numbers-turn ss i number s old at is before =
    ap (λ n. old ++ cond (is_kept_section s) (Some n) None ∷ []) is
    ∙ made-more (kept_number ss) (enumerate_from 0 ss) i (i, s) old (entry-at ss i s at) before

pub number-next : (ss : List SectionParts) (i number : ℕ) (s : SectionParts) → slice_get ss i ≡ Some s → number ≡ new_number ss i → number + cond (is_kept_section s) 1 0 ≡ new_number ss (i + 1)
number-next ss i number s at is =
    omega (
      arith,
      is,
      ap (λ l. length (filter is_kept_section l)) (take_next ss i s at),
      ap length (filter-append is_kept_section (take i ss) (s ∷ [])),
      length-append (filter is_kept_section (take i ss)) (filter is_kept_section (s ∷ [])),
      by (is_kept_section s),
    )
  where
    by : (b : Bool) → length (cond b (s ∷ []) []) ≡ cond b 1 0
    by true = refl
    by false = refl

-- what the numbers say of a section
pub number-at : (object : ObjectParts) (i : ℕ) → slice_get (kept_numbers object) i ≡ option_map (λ s. kept_number object.sections (i, s)) (slice_get object.sections i)
number-at object i =
    slice_get-map (kept_number object.sections) (enumerate_from 0 object.sections) i
    ∙ ap (option_map (kept_number object.sections)) (entries 0 object.sections i)
    ∙ by (slice_get object.sections i)
  where
    zeros : 0 + i ≡ i
    zeros = omega arith

    by : (o : Option SectionParts) → option_map (kept_number object.sections) (option_map (λ x. (0 + i, x)) o) ≡ option_map (λ s. kept_number object.sections (i, s)) o
    by None = refl
    by (Some s) = ap (λ m. Some (kept_number object.sections (m, s))) zeros

-- ---- edges

eqb-turned : (a b : ℕ) → eqb a b ≡ eqb b a
eqb-turned a b = by (eqb a b) refl (eqb b a) refl
  where
    by : (x : Bool) → eqb a b ≡ x → (y : Bool) → eqb b a ≡ y → x ≡ y
    by true e true f = refl
    by false e false f = refl
    by true e false f = let same = eq-eqb b a (sym (eqb-true a b e)) in cc
    by false e true f = let same = eq-eqb a b (sym (eqb-true b a f)) in cc

pub edge-there : (objects : List ObjectParts) (q : Place) (s : SectionParts) → section_at objects q.object q.section ≡ Some s → is_code_section s ≡ true → is_target_at objects q ≡ is_edge s q.offset
edge-there objects q s at code =
    target_on objects q s (code_at_is objects q s at code)
    ∙ ap (λ b. starts_on s q.offset || b) (eqb-turned q.offset (length s.bytes))
    ∙ any_pushed (λ m. eqb m q.offset) (starts_in s) (length s.bytes)

-- an edge lies in its section
pub edge-low : (inputs : Inputs) → gather_fault inputs ≡ None → (o i n : ℕ) (s : SectionParts) → section_at (parsed inputs).objects o i ≡ Some s → is_code_section s ≡ true → is_edge s n ≡ true → n ≤ 0x40_0000
edge-low inputs none o i n s at code edge =
    let whole = inputs_whole inputs o i s none at code in
    let short = whole.short in
    by (starts_on s n) refl (eqb (length s.bytes) n) refl (any_pushed (λ m. eqb m n) (starts_in s) (length s.bytes) ∙ edge) short
  where
    by : (a : Bool) → starts_on s n ≡ a → (b : Bool) → eqb (length s.bytes) n ≡ b → (a || b) ≡ true → length s.bytes ≤ 0x40_0000 → n ≤ 0x40_0000
    by true start b e h short = let inside = (start_is s code (inputs_whole inputs o i s none at code) n start).inside in omega (arith, inside, short)
    by false start true e h short = let same = eqb-true (length s.bytes) n e in omega (arith, same, short)
    by false start false e h short = absurd cc

-- what is past all code is none
pub past-edges : (inputs : Inputs) → gather_fault inputs ≡ None → (o i n : ℕ) (s : SectionParts) → section_at (parsed inputs).objects o i ≡ Some s → is_code_section s ≡ true → 0x40_0000 < n → is_edge s n ≡ false
past-edges inputs none o i n s at code past = by (is_edge s n) refl
  where
    by : (b : Bool) → is_edge s n ≡ b → is_edge s n ≡ false
    by false e = e
    by true e = absurd (let low = edge-low inputs none o i n s at code e in omega (arith, low, past))

pub both-none : (a b : Bool) (x : Option ℕ) → b ≡ false → cond (a && b) x None ≡ None
both-none true false x e = refl
both-none false b x e = refl
both-none true true x e = absurd cc

-- ---- one symbol

-- a symbol with this home is lent, as it is in no section, or in one that is dropped
pub lent-dropped : (symbol : Symbol) (s : SymbolParts) → IsSymbol symbol s → IsSymbol (record symbol { value = 0; home = 0xFFF1 }) (record s { value = 0; home = 0xFFF1 })
lent-dropped symbol s is = record { name = is.name; value = refl; size = is.size; bind = is.bind; kind = is.kind; home = refl }

pub lent-home : (symbol : Symbol) (s : SymbolParts) (number : ℕ) → IsSymbol symbol s → IsSymbol (record symbol { home = number }) (record s { home = number })
lent-home symbol s number is = record { name = is.name; value = is.value; size = is.size; bind = is.bind; kind = is.kind; home = refl }

-- what the number of its section says of a symbol
pub symbol-by : (inputs : ParsedInputs) (o : ℕ) (object : ObjectParts) (s : SymbolParts) → eqb s.home 0 ≡ false
    → merged_symbol inputs o object s ≡ option_map_or (symbol_in (removed_at inputs o s.home) (new_number object.sections s.home) s) (slice_get object.sections s.home) s
symbol-by inputs o object s other = ap (λ b. option_map_or (symbol_in (removed_at inputs o s.home) (new_number object.sections s.home) s) (cond b None (slice_get object.sections s.home)) s) other

module _ (inputs : ParsedInputs) (o : ℕ) (object : ObjectParts) (s : SymbolParts) (other : eqb s.home 0 ≡ false) where
  pub symbol-nowhere : slice_get (kept_numbers object) s.home ≡ None → merged_symbol inputs o object s ≡ s
  symbol-nowhere none = by (slice_get object.sections s.home) (sym (number-at object s.home) ∙ none) (symbol-by inputs o object s other)
    where
      by : (x : Option SectionParts) → option_map (λ (t : SectionParts). kept_number object.sections (s.home, t)) x ≡ None
          → merged_symbol inputs o object s ≡ option_map_or (symbol_in (removed_at inputs o s.home) (new_number object.sections s.home) s) x s → merged_symbol inputs o object s ≡ s
      by None h is = is
      by (Some t) h is = absurd cc

  pub symbol-dropped : slice_get (kept_numbers object) s.home ≡ Some None → merged_symbol inputs o object s ≡ record s { value = 0; home = 0xFFF1 }
  symbol-dropped got = by (slice_get object.sections s.home) (sym (number-at object s.home) ∙ got) (symbol-by inputs o object s other)
    where
      by : (x : Option SectionParts) → option_map (λ (t : SectionParts). kept_number object.sections (s.home, t)) x ≡ Some None
          → merged_symbol inputs o object s ≡ option_map_or (symbol_in (removed_at inputs o s.home) (new_number object.sections s.home) s) x s → merged_symbol inputs o object s ≡ record s { value = 0; home = 0xFFF1 }
      by None h is = absurd cc
      by (Some t) h is = kept (is_kept_section t) refl (ap (λ (x : Option (Option ℕ)). option_map_or (λ y. y) x None) h)
        where
          kept : (b : Bool) → is_kept_section t ≡ b → cond b (Some (new_number object.sections s.home)) None ≡ None → merged_symbol inputs o object s ≡ record s { value = 0; home = 0xFFF1 }
          kept true e h = absurd cc
          kept false e h = is ∙ ap (λ b. cond (not b) (record s { value = 0; home = 0xFFF1 }) (record (cond (is_code_section t) (symbol_in_code (removed_at inputs o s.home) t s) s) { home = new_number object.sections s.home })) e

  pub record IsSymbolIn (number : ℕ) : Type 0 where
    pub section : SectionParts
    pub section_is : slice_get object.sections s.home ≡ Some section
    pub merged : merged_symbol inputs o object s ≡ record (cond (is_code_section section) (symbol_in_code (removed_at inputs o s.home) section s) s) { home = number }

  pub symbol-kept : (number : ℕ) → slice_get (kept_numbers object) s.home ≡ Some (Some number) → IsSymbolIn number
  symbol-kept number got = by (slice_get object.sections s.home) refl (sym (number-at object s.home) ∙ got) (symbol-by inputs o object s other)
    where
      by : (x : Option SectionParts) → slice_get object.sections s.home ≡ x → option_map (λ (t : SectionParts). kept_number object.sections (s.home, t)) x ≡ Some (Some number)
          → merged_symbol inputs o object s ≡ option_map_or (symbol_in (removed_at inputs o s.home) (new_number object.sections s.home) s) x s → IsSymbolIn number
      by None at h is = absurd cc
      by (Some t) at h is = kept (is_kept_section t) refl (ap (λ (x : Option (Option ℕ)). option_map_or (λ y. y) x None) h)
        where
          kept : (b : Bool) → is_kept_section t ≡ b → cond b (Some (new_number object.sections s.home)) None ≡ Some number → IsSymbolIn number
          kept false e h = absurd cc
          kept true e h =
              let same : new_number object.sections s.home ≡ number = ap (λ (y : Option ℕ). option_map_or (λ n. n) y number) h in
              record {
                section = t;
                section_is = at;
                merged = is ∙ ap (λ b. cond (not b) (record s { value = 0; home = 0xFFF1 }) (record (cond (is_code_section t) (symbol_in_code (removed_at inputs o s.home) t s) s) { home = new_number object.sections s.home })) e
                    ∙ ap (λ n. record (cond (is_code_section t) (symbol_in_code (removed_at inputs o s.home) t s) s) { home = n }) same;
              }

-- what is written of a symbol is one
pub one-part : (symbol : Symbol) (part s : SymbolParts) → IsSymbol symbol part → IsSymbol symbol s → part ≡ s
one-part symbol part s is also = λ i. record {
  name = (sym is.name ∙ also.name) i;
  value = (sym is.value ∙ also.value) i;
  size = (sym is.size ∙ also.size) i;
  bind = (sym is.bind ∙ also.bind) i;
  kind = (sym is.kind ∙ also.kind) i;
  home = (sym is.home ∙ also.home) i;
}

-- one symbol more
pub symbols-turn : (f : SymbolParts → SymbolParts) (xs : List SymbolParts) (i : ℕ) (s : SymbolParts) (old : List SymbolParts) → 1 ≤ i → slice_get xs i ≡ Some s → old ≡ map f (take (i - 1) (drop 1 xs))
    → old ++ f s ∷ [] ≡ map f (take (i + 1 - 1) (drop 1 xs))
symbols-turn f xs i s old some at before =
    let back : i ≡ suc (i - 1) = omega (arith, some) in
    let next : i - 1 + 1 ≡ i + 1 - 1 = omega (arith, some) in
    let here = sym (second xs (i - 1)) ∙ ap (slice_get xs) (sym back) ∙ at in
    made-more f (drop 1 xs) (i - 1) s old here before ∙ ap (λ k. map f (take k (drop 1 xs))) next

-- all of them
pub symbols-whole : (f : SymbolParts → SymbolParts) (xs : List SymbolParts) (i : ℕ) (old : List SymbolParts) → length xs ≤ i → old ≡ map f (take (i - 1) (drop 1 xs)) → old ≡ map f (drop 1 xs)
symbols-whole f xs i old many before = before ∙ ap (map f) (take_all (i - 1) (drop 1 xs) (omega (arith, length-drop 1 xs, many)))

pub numbers-whole : (ss : List SectionParts) (i : ℕ) (old : List (Option ℕ)) → length ss ≤ i → old ≡ map (kept_number ss) (take i (enumerate_from 0 ss)) → old ≡ map (kept_number ss) (enumerate_from 0 ss)
numbers-whole ss i old many before = before ∙ ap (map (kept_number ss)) (take_all i (enumerate_from 0 ss) (omega (arith, length-enumerate_from 0 ss, many)))

-- ---- a symbol that is lent

-- a size by where the symbol ends
pub size-by : (b : Bool) (x v : ℕ) (o : Option ℕ) → o ≡ cond b (Some x) None → option_map_or (λ e. e - v) o 0 ≡ cond b (x - v) 0
size-by true x v o is = ap (λ o. option_map_or (λ e. e - v) o 0) is
size-by false x v o is = ap (λ o. option_map_or (λ e. e - v) o 0) is

module _ (inputs : ParsedInputs) (o : ℕ) (object : ObjectParts) (symbol : Symbol) (s : SymbolParts) (is : IsSymbol symbol s) (other : symbol.home ≡ 0 → ⊥) where
  placed : eqb s.home 0 ≡ false
  placed = ne_eqb s.home 0 (λ e. other (is.home ∙ e))

  pub lent-nowhere : slice_get (kept_numbers object) symbol.home ≡ None → IsSymbol symbol (merged_symbol inputs o object s)
  lent-nowhere none = subst (IsSymbol symbol) (sym (symbol-nowhere inputs o object s placed (ap (slice_get (kept_numbers object)) (sym is.home) ∙ none))) is

  pub lent-out : slice_get (kept_numbers object) symbol.home ≡ Some None → IsSymbol (record symbol { value = 0; home = 0xFFF1 }) (merged_symbol inputs o object s)
  lent-out got =
      subst (IsSymbol (record symbol { value = 0; home = 0xFFF1 })) (sym (symbol-dropped inputs o object s placed (ap (slice_get (kept_numbers object)) (sym is.home) ∙ got)))
      (lent-dropped symbol s is)

  pub record IsLentIn (number : ℕ) : Type 0 where
    pub home : SectionParts
    pub home_is : slice_get object.sections symbol.home ≡ Some home
    pub plain : is_code_section home ≡ false → IsSymbol (record symbol { home = number }) (merged_symbol inputs o object s)
    pub code : is_code_section home ≡ true → (moved : Symbol) → IsSymbol moved (symbol_in_code (removed_at inputs o symbol.home) home s) → IsSymbol (record moved { home = number }) (merged_symbol inputs o object s)

  pub lent-in : (number : ℕ) → slice_get (kept_numbers object) symbol.home ≡ Some (Some number) → IsLentIn number
  lent-in number got =
      let kept = symbol-kept inputs o object s placed number (ap (slice_get (kept_numbers object)) (sym is.home) ∙ got) in
      let home = kept.section in
      let becomes = λ (b : Bool). record (cond b (symbol_in_code (removed_at inputs o s.home) home s) s) { home = number } in
      record {
        home = home;
        home_is = ap (slice_get object.sections) is.home ∙ kept.section_is;
        plain = λ other. subst (IsSymbol (record symbol { home = number })) (sym (kept.merged ∙ ap becomes other)) (lent-home symbol s number is);
        code = λ code moved lent. subst (IsSymbol (record moved { home = number })) (sym (kept.merged ∙ ap becomes code))
            (lent-home moved (symbol_in_code (removed_at inputs o s.home) home s) number (subst (λ h. IsSymbol moved (symbol_in_code (removed_at inputs o h) home s)) is.home lent));
      }
