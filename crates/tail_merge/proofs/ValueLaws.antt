-- The symbols of objects without a fault stand within their sections, and so do those that a relocation leads to code by.
use Rattle.std.proofs.Common.{◌≡◌, ℕ, zero, suc, ◌+◌, ◌≤◌, ◌<◌, ℤ, pos, negsuc, ◌+ℤ◌, List, [], ◌∷◌, map, drop, Bool, true, false, cond, refl, sym, ap, ◌∙◌, subst, arith, eqb, leb, Option, Some, None, slice_get}
use Rattle.std.specs.Prelude.{◌≢◌, ◌&&◌, ◌||◌, not, All}
use Rattle.std.specs.Int.{cast_unsigned, w32}
use Rattle.std.specs.List.{enumerate_from, find, flat_map}
use Rattle.std.specs.Option.{option_and_then, option_map, option_map_or, option_or}
use Rattle.std.proofs.lemmas.Bool.{and_parts, eqb-false, eqb-true, leb-true, ne_eqb, or_parts}
use Rattle.std.proofs.lemmas.List.Concat.{flat_map-cons}
use Rattle.std.proofs.lemmas.List.Elements.{All-append, All-cons, All-head, All-nil, All-tail}
use Rattle.std.proofs.lemmas.Option.{slice_get-map, slice_get_within}
use Rattle.zc_base.specs.declared.place.Place.{Place}
use Rattle.elf32_read.specs.Header.{header_of, section_count}
use Rattle.elf32_read.specs.Kept.{has_flags, is_kept}
use Rattle.elf32_read.specs.Parts.{ObjectParts, SectionParts, SymbolParts, is_code_section, is_kept_section, object_parts, section_parts, symbol_parts}
use Rattle.elf32_read.specs.Symbols.{symbol_count, symbol_entry_of}
use Rattle.elf32_read.proofs.Faultless.{is_kept_section-parts, other_symbol}
use Rattle.elf32_read.proofs.PartsLaws.{length-symbols, symbol_at}
use Rattle.psabi_sym.specs.Data.{common_address, is_code_role, role_of}
use Rattle.psabi_sym.specs.Faults.{gather_fault}
use Rattle.psabi_sym.specs.Indexed.{IndexedSymbol, all_symbols, section_at, symbol_at as symbol-of, symbols_in}
use Rattle.psabi_sym.specs.Inputs.{Inputs, ParsedInputs, parsed}
use Rattle.psabi_sym.specs.Names.{is_common, is_definition, same_name, strong_definition, weak_definition}
use Rattle.psabi_sym.specs.Resolve.{Definition, InObject, AtNumber, definition_target, home_target, linker_number, linker_numbers, name_definition, number_target, offset_within, resolved, role_target, symbol_target, undefined_target}
use Rattle.psabi_sym.specs.declared.section_row.SectionRole.{SectionRole}
use Rattle.psabi_sym.specs.declared.section_row.SectionRole.TheVariants as role
use Rattle.psabi_sym.specs.declared.target.Target.TheVariants.{Code, Absent, Nowhere}
use Rattle.psabi_sym.proofs.Gathered.{readable}
use Rattle.psabi_sym.proofs.PlaceLaws.{code_is}
use Rattle.block_cut.proofs.SoundLaws.{found_passes}
use Rattle.block_cut.proofs.WholeLaws.{inputs_whole, section_of}
use Rattle.tail_merge.specs.Merged.{defining_value, definition_of, new_value, removed_at}
use Rattle.tail_merge.specs.Tails.{moved_down}

-- ---- all symbols

module _ (P : IndexedSymbol → Type 0) where
  symbols-from : (o n : ℕ) (xs : List SymbolParts) → ((k : ℕ) (s : SymbolParts) → slice_get xs k ≡ Some s → P (record { object = o; index = n + k; symbol = s }))
      → All P (map (λ (e : ℕ × SymbolParts). record { object = o; index = e.0; symbol = e.1 }) (enumerate_from n xs))
  symbols-from o n [] each = All-nil P
  symbols-from o n (x ∷ xs) each =
      let none : n + 0 ≡ n = omega arith in
      All-cons P (record { object = o; index = n; symbol = x }) (map (λ (e : ℕ × SymbolParts). record { object = o; index = e.0; symbol = e.1 }) (enumerate_from (n + 1) xs))
      (subst (λ m. P (record { object = o; index = m; symbol = x })) none (each 0 x refl))
      (symbols-from o (n + 1) xs (λ k s at. let next : n + suc k ≡ n + 1 + k = omega arith in subst (λ m. P (record { object = o; index = m; symbol = s })) next (each (suc k) s at)))

  symbols-each : (o : ℕ) (g : ObjectParts) → ((k : ℕ) (s : SymbolParts) → slice_get g.symbols (suc k) ≡ Some s → P (record { object = o; index = suc k; symbol = s })) → All P (symbols_in (o, g))
  symbols-each o g each = by g.symbols each
    where
      by : (xs : List SymbolParts) → ((k : ℕ) (s : SymbolParts) → slice_get xs (suc k) ≡ Some s → P (record { object = o; index = suc k; symbol = s }))
          → All P (map (λ (e : ℕ × SymbolParts). record { object = o; index = e.0; symbol = e.1 }) (drop 1 (enumerate_from 0 xs)))
      by [] each = All-nil P
      by (x ∷ xs) each = symbols-from o 1 xs (λ k s at. let next : suc k ≡ 1 + k = omega arith in subst (λ m. P (record { object = o; index = m; symbol = s })) next (each k s at))

  objects-from : (n : ℕ) (gs : List ObjectParts) → ((k : ℕ) (g : ObjectParts) → slice_get gs k ≡ Some g → All P (symbols_in (n + k, g))) → All P (flat_map symbols_in (enumerate_from n gs))
  objects-from n [] each = All-nil P
  objects-from n (g ∷ gs) each =
      let none : n + 0 ≡ n = omega arith in
      subst (All P) (sym (flat_map-cons symbols_in (n, g) (enumerate_from (n + 1) gs)))
      (All-append P (symbols_in (n, g)) (flat_map symbols_in (enumerate_from (n + 1) gs)) (subst (λ m. All P (symbols_in (m, g))) none (each 0 g refl))
      (objects-from (n + 1) gs (λ k h at. let next : n + suc k ≡ n + 1 + k = omega arith in subst (λ m. All P (symbols_in (m, h))) next (each (suc k) h at))))

  -- what holds of each symbol of each object but symbol 0
  pub symbols-all : (objects : List ObjectParts) → ((o k : ℕ) (s : SymbolParts) → symbol-of objects o (suc k) ≡ Some s → P (record { object = o; index = suc k; symbol = s })) → All P (all_symbols objects)
  unfolding all_symbols
  symbols-all objects each =
      objects-from 0 objects (λ o g at. let none : o ≡ 0 + o = omega arith in subst (λ m. All P (symbols_in (m, g))) none
      (symbols-each o g (λ k s here. each o k s (ap (option_and_then (λ (object : ObjectParts). slice_get object.symbols (suc k))) at ∙ here))))

found-all : {X : Type 0} (P : X → Type 0) (test : X → Bool) (xs : List X) (x : X) → All P xs → find test xs ≡ Some x → P x
found-all P test [] x all is = absurd cc
found-all P test (y ∷ ys) x all is = by (test y) (λ h. found-all P test ys x (All-tail P y ys all) h) is
  where
    by : (b : Bool) → (find test ys ≡ Some x → P x) → cond b (Some y) (find test ys) ≡ Some x → P x
    by true rest h = let same : y ≡ x = cc in subst P same (All-head P y ys all)
    by false rest h = rest h

-- what defines a name is a symbol that has a home
named-all : (P : IndexedSymbol → Type 0) (inputs : ParsedInputs) (name : List ℕ) (l : IndexedSymbol) → All P (all_symbols inputs.objects) → name_definition inputs name ≡ Some (InObject l) → P l × (eqb l.symbol.home 0 ≡ false)
unfolding name_definition
named-all P inputs name l all is = by (strong_definition inputs.objects name) (weak_definition inputs.objects name) refl refl is
  where
    defines : (bind : ℕ) → find (λ (l : IndexedSymbol). is_definition bind l.symbol && same_name l.symbol.name name) (all_symbols inputs.objects) ≡ Some l → P l × (eqb l.symbol.home 0 ≡ false)
    defines bind found =
        let test = λ (l : IndexedSymbol). is_definition bind l.symbol && same_name l.symbol.name name in
        let passes = (and_parts (is_definition bind l.symbol) (same_name l.symbol.name name) (found_passes test (all_symbols inputs.objects) l found)).0 in
        let first = (and_parts (eqb l.symbol.bind bind && not (eqb l.symbol.home 0)) (not (is_common l.symbol)) passes).0 in
        let second = (and_parts (eqb l.symbol.bind bind) (not (eqb l.symbol.home 0)) first).1 in
        (found-all P test (all_symbols inputs.objects) l all found, no (eqb l.symbol.home 0) second)
      where
        no : (b : Bool) → not b ≡ true → b ≡ false
        no true h = absurd cc
        no false h = refl

    later : (c : Option ℕ) (w : Option IndexedSymbol) (n : Option ℕ) → weak_definition inputs.objects name ≡ w → option_or (option_map AtNumber c) (option_or (option_map InObject w) (option_map AtNumber n)) ≡ Some (InObject l) → P l × (eqb l.symbol.home 0 ≡ false)
    later (Some c) w n weak h = absurd cc
    later None (Some x) n weak h = let same : x ≡ l = cc in defines 2 (weak ∙ ap Some same)
    later None None (Some n) weak h = absurd cc
    later None None None weak h = absurd cc

    by : (s w : Option IndexedSymbol) → strong_definition inputs.objects name ≡ s → weak_definition inputs.objects name ≡ w
        → option_or (option_map InObject s) (option_or (option_map AtNumber (common_address inputs name)) (option_or (option_map InObject w) (option_map AtNumber (linker_number (linker_numbers inputs) name)))) ≡ Some (InObject l) → P l × (eqb l.symbol.home 0 ≡ false)
    by (Some x) w strong weak h = let same : x ≡ l = cc in defines 1 (strong ∙ ap Some same)
    by None w strong weak h = later (common_address inputs name) w (linker_number (linker_numbers inputs) name) weak h

-- ---- symbols within their sections

-- a symbol in code doesn't stand behind its end
abbrev pub IsLow : ParsedInputs → IndexedSymbol → Type 0
IsLow inputs l = eqb l.symbol.home 0 ≡ false → (s : SectionParts) → section_at inputs.objects l.object l.symbol.home ≡ Some s → is_code_section s ≡ true → l.symbol.value ≤ s.size

record IsEntryOf (inputs : Inputs) (o k : ℕ) (s : SymbolParts) : Type 0 where
  file : List ℕ
  at : slice_get inputs.files o ≡ Some file
  within : k < symbol_count file
  is : s ≡ symbol_parts file (symbol_entry_of file k)

entry-of : (inputs : Inputs) (o k : ℕ) (s : SymbolParts) → symbol-of (parsed inputs).objects o k ≡ Some s → IsEntryOf inputs o k s
entry-of inputs o k s is = by (slice_get inputs.files o) refl
  where
    by : (f : Option (List ℕ)) → slice_get inputs.files o ≡ f → IsEntryOf inputs o k s
    by None at = absurd (
        let none : symbol-of (parsed inputs).objects o k ≡ None = ap (option_and_then (λ (object : ObjectParts). slice_get object.symbols k)) (slice_get-map object_parts inputs.files o ∙ ap (option_map object_parts) at) in
        cc (none, is)
        )
    by (Some file) at =
        let here : slice_get (object_parts file).symbols k ≡ Some s = sym (ap (option_and_then (λ (object : ObjectParts). slice_get object.symbols k)) (slice_get-map object_parts inputs.files o ∙ ap (option_map object_parts) at)) ∙ is in
        let within : k < symbol_count file = omega (arith, slice_get_within (object_parts file).symbols k s here, length-symbols file) in
        let there = symbol_at file k within in
        record { file = file; at = at; within = within; is = cc (here, there) }

symbol-low : (inputs : Inputs) → gather_fault inputs ≡ None → (o k : ℕ) (s : SymbolParts) → symbol-of (parsed inputs).objects o (suc k) ≡ Some s → IsLow (parsed inputs) (record { object = o; index = suc k; symbol = s })
symbol-low inputs none o k s is home section at code =
    let of = entry-of inputs o (suc k) s is in
    let there = section_of inputs o s.home section at in
    let same : of.file ≡ there.file = ap (λ (f : Option (List ℕ)). option_map_or (λ f. f) f of.file) (sym of.at ∙ there.at) in
    let entry = symbol_entry_of of.file (suc k) in
    let fine = readable inputs o of.file none of.at in
    let good = other_symbol of.file fine (suc k) (omega arith) of.within in
    let homed : s.home ≡ entry.home = ap (λ (s : SymbolParts). s.home) of.is in
    let valued : s.value ≡ entry.value = ap (λ (s : SymbolParts). s.value) of.is in
    let within : entry.home < section_count of.file = subst (λ f. entry.home < section_count f) (sym same) (let lt = there.within in omega (arith, lt, homed)) in
    let own : section ≡ section_parts of.file entry.home = there.is ∙ (λ i. section_parts (sym same i) (homed i)) in
    let kept : is_kept of.file (header_of of.file entry.home) ≡ true =
    sym (is_kept_section-parts of.file fine entry.home within) ∙ ap is_kept_section (sym own) ∙ (and_parts (is_kept_section section) (has_flags 4 section.flags) code).0 in
    let placed : entry.home ≢ 0 = λ e. eqb-false s.home 0 home (homed ∙ e) in
    let low = good.within placed within kept in
    let size : section.size ≡ (header_of of.file entry.home).size = ap (λ (s : SectionParts). s.size) own in
    omega (arith, low, valued, size)

pub symbols-low : (inputs : Inputs) → gather_fault inputs ≡ None → All (IsLow (parsed inputs)) (all_symbols (parsed inputs).objects)
symbols-low inputs none = symbols-all (IsLow (parsed inputs)) (parsed inputs).objects (λ o k s at. symbol-low inputs none o k s at)

-- ---- where code is led to

-- a symbol that leads to a place of code stands in the place's section
record IsHome (inputs : ParsedInputs) (o : ℕ) (s : SymbolParts) (addend : ℤ) (p : Place) : Type 0 where
  object : p.object ≡ o
  section : p.section ≡ s.home
  sum : pos s.value +ℤ addend ≡ pos p.offset
  parts : SectionParts
  parts_are : section_at inputs.objects o s.home ≡ Some parts
  code : is_code_section parts ≡ true
  inside : p.offset ≤ parts.size

offset-is : (size : ℕ) (z : ℤ) (n : ℕ) → offset_within size z ≡ Some n → (z ≡ pos n) × (n ≤ size)
offset-is size (pos k) n is = by (leb k size) refl is
  where
    by : (b : Bool) → leb k size ≡ b → cond b (Some k) None ≡ Some n → (pos k ≡ pos n) × (n ≤ size)
    by true le h = let same : k ≡ n = cc in (ap pos same, (let low = leb-true k size le in omega (arith, low, same)))
    by false le h = absurd cc
offset-is size (negsuc k) n is = absurd cc

code-home : (inputs : ParsedInputs) (o : ℕ) (s : SymbolParts) (addend : ℤ) (p : Place) → home_target inputs o s addend ≡ Code p → IsHome inputs o s addend p
code-home inputs o s addend p is = absolute (eqb s.home 0xFFF1) is
  where
    found : (parts : SectionParts) → section_at inputs.objects o s.home ≡ Some parts → is_code_section parts ≡ true → (n : Option ℕ) → offset_within parts.size (pos s.value +ℤ addend) ≡ n
        → option_map_or (λ n. Code (record { object = o; section = s.home; offset = n })) n Nowhere ≡ Code p → IsHome inputs o s addend p
    found parts at code None within h = absurd cc
    found parts at code (Some n) within h =
        let same : (record { object = o; section = s.home; offset = n }) ≡ p = cc in
        let offset = offset-is parts.size (pos s.value +ℤ addend) n within in
        let last : n ≡ p.offset = ap (λ (p : Place). p.offset) same in
        record {
          object = sym (ap (λ (p : Place). p.object) same);
          section = sym (ap (λ (p : Place). p.section) same);
          sum = offset.0 ∙ ap pos last;
          parts = parts;
          parts_are = at;
          code = code;
          inside = (let low = offset.1 in omega (arith, low, last));
        }

    by_role : (parts : SectionParts) → section_at inputs.objects o s.home ≡ Some parts → (r : SectionRole) → role_of parts ≡ r → role_target inputs o s.home s.value addend parts r ≡ Code p → IsHome inputs o s addend p
    by_role parts at role.Code is h = found parts at (sym (code_is parts) ∙ ap is_code_role is) (offset_within parts.size (pos s.value +ℤ addend)) refl h
    by_role parts at (role.InClass class) is h = absurd cc
    by_role parts at role.Dropped is h = absurd cc

    in_section : (x : Option SectionParts) → section_at inputs.objects o s.home ≡ x → option_map_or (λ section. role_target inputs o s.home s.value addend section (role_of section)) x Nowhere ≡ Code p → IsHome inputs o s addend p
    in_section None at h = absurd cc
    in_section (Some parts) at h = by_role parts at (role_of parts) refl h

    absolute : (b : Bool) → cond b (number_target s.value addend) (option_map_or (λ section. role_target inputs o s.home s.value addend section (role_of section)) (section_at inputs.objects o s.home) Nowhere) ≡ Code p → IsHome inputs o s addend p
    absolute true h = absurd cc
    absolute false h = in_section (section_at inputs.objects o s.home) refl h

-- a symbol and an addend that lead to a place of code: the symbol's definition has this value in the place's section
pub record IsLedFrom (inputs : ParsedInputs) (o k : ℕ) (addend : ℤ) (p : Place) : Type 0 where
  pub value : ℕ
  pub new : new_value inputs o k ≡ moved_down (removed_at inputs p.object p.section) value
  pub sum : pos value +ℤ addend ≡ pos p.offset
  pub low : value ≤ 0x40_0000
  pub inside : p.offset ≤ 0x40_0000

module _ (inputs : Inputs) (none : gather_fault inputs ≡ None) (addend : ℤ) (p : Place) where
  led-home : (o k : ℕ) (l : IndexedSymbol) → new_value (parsed inputs) o k ≡ moved_down (removed_at (parsed inputs) l.object l.symbol.home) l.symbol.value → IsLow (parsed inputs) l → eqb l.symbol.home 0 ≡ false
      → home_target (parsed inputs) l.object l.symbol addend ≡ Code p → IsLedFrom (parsed inputs) o k addend p
  led-home o k l new low home is =
      let at = code-home (parsed inputs) l.object l.symbol addend p is in
      let whole = inputs_whole inputs l.object l.symbol.home at.parts none at.parts_are at.code in
      let value = low home at.parts at.parts_are at.code in
      let short = whole.short in
      let bytes = whole.bytes in
      let inside = at.inside in
      record {
        value = l.symbol.value;
        new = new ∙ (λ i. moved_down (removed_at (parsed inputs) (sym at.object i) (sym at.section i)) l.symbol.value);
        sum = at.sum;
        low = omega (arith, value, short, bytes);
        inside = omega (arith, inside, short, bytes);
      }

  led-name : (o k : ℕ) (s : SymbolParts) → new_value (parsed inputs) o k ≡ defining_value (parsed inputs) (name_definition (parsed inputs) s.name)
      → option_map_or (definition_target (parsed inputs) addend) (name_definition (parsed inputs) s.name) (undefined_target s addend) ≡ Code p → IsLedFrom (parsed inputs) o k addend p
  led-name o k s new is = by (name_definition (parsed inputs) s.name) refl new is
    where
      undefined : (b : Bool) → cond b (Absent (cast_unsigned w32 addend)) Nowhere ≡ Code p → ⊥
      undefined true h = absurd cc
      undefined false h = absurd cc

      by : (d : Option Definition) → name_definition (parsed inputs) s.name ≡ d → new_value (parsed inputs) o k ≡ defining_value (parsed inputs) d → option_map_or (definition_target (parsed inputs) addend) d (undefined_target s addend) ≡ Code p
          → IsLedFrom (parsed inputs) o k addend p
      by None defined new h = absurd (undefined (eqb s.bind 2) h)
      by (Some (AtNumber n)) defined new h = absurd cc
      by (Some (InObject l)) defined new h =
          let named = named-all (IsLow (parsed inputs)) (parsed inputs) s.name l (symbols-low inputs none) defined in
          led-home o k l new named.0 named.1 h

  local-home : (o k : ℕ) (s : SymbolParts) → symbol-of (parsed inputs).objects o (suc k) ≡ Some s → (is_common s || not (eqb s.bind 0)) ≡ false → eqb s.home 0 ≡ false
  local-home o k s is own =
      let of = entry-of inputs o (suc k) s is in
      let fine = readable inputs o of.file none of.at in
      let good = other_symbol of.file fine (suc k) (omega arith) of.within in
      let homed : s.home ≡ (symbol_entry_of of.file (suc k)).home = ap (λ (s : SymbolParts). s.home) of.is in
      let bound : s.bind ≡ (symbol_entry_of of.file (suc k)).bind = ap (λ (s : SymbolParts). s.bind) of.is in
      let local : s.bind ≡ 0 = zero-of s.bind (or_parts (is_common s) (not (eqb s.bind 0)) own).1 in
      ne_eqb s.home 0 (λ e. good.defined (sym bound ∙ local) (sym homed ∙ e))
    where
      zero-of : (n : ℕ) → not (eqb n 0) ≡ false → n ≡ 0
      zero-of n h = by (eqb n 0) refl h
        where
          by : (b : Bool) → eqb n 0 ≡ b → not b ≡ false → n ≡ 0
          by true e h = eqb-true n 0 e
          by false e h = absurd cc

  pub led-from : (o k : ℕ) → resolved (parsed inputs) o k addend ≡ Code p → IsLedFrom (parsed inputs) o k addend p
  unfolding resolved
  led-from o zero is = absurd cc
  led-from o (suc k) is = by (symbol-of (parsed inputs).objects o (suc k)) refl is
    where
      goes : (s : SymbolParts) → symbol-of (parsed inputs).objects o (suc k) ≡ Some s → (b : Bool) → (is_common s || not (eqb s.bind 0)) ≡ b
          → cond b (option_map_or (definition_target (parsed inputs) addend) (name_definition (parsed inputs) s.name) (undefined_target s addend)) (home_target (parsed inputs) o s addend) ≡ Code p → IsLedFrom (parsed inputs) o (suc k) addend p
      goes s at true by_name h =
          led-name o (suc k) s (
          ap (λ x. option_map_or (λ s. defining_value (parsed inputs) (definition_of (parsed inputs) o (suc k) s)) x 0) at
          ∙ ap (λ b. defining_value (parsed inputs) (cond b (name_definition (parsed inputs) s.name) (Some (InObject (record { object = o; index = suc k; symbol = s }))))) by_name
          ) h
      goes s at false by_name h =
          led-home o (suc k) (record { object = o; index = suc k; symbol = s }) (
          ap (λ x. option_map_or (λ s. defining_value (parsed inputs) (definition_of (parsed inputs) o (suc k) s)) x 0) at
          ∙ ap (λ b. defining_value (parsed inputs) (cond b (name_definition (parsed inputs) s.name) (Some (InObject (record { object = o; index = suc k; symbol = s }))))) by_name
          ) (symbol-low inputs none o k s at) (local-home o k s at by_name) h

      by : (x : Option SymbolParts) → symbol-of (parsed inputs).objects o (suc k) ≡ x → option_map_or (λ symbol. symbol_target (parsed inputs) o symbol addend) x Nowhere ≡ Code p → IsLedFrom (parsed inputs) o (suc k) addend p
      by None at h = absurd cc
      by (Some s) at h = goes s at (is_common s || not (eqb s.bind 0)) refl h
