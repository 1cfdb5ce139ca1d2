-- Three lists of objects: code that nothing names goes, and code that data name, or that is fixed, stays.
use Rattle.std.proofs.Common.{◌≡◌, ℕ, zero, suc, ◌<◌, pos, List, [], ◌∷◌, length, refl, ap, arith, Bool, true, false, Option, Some, None, subst, sym, get_or}
use Rattle.std.specs.Prelude.{◌&&◌, codes, Contains}
use Rattle.std.specs.Option.{option_map_or}
use Rattle.zc_base.specs.MemMap.{standard_map}
use Rattle.zc_base.specs.declared.place.Place.{Place}
use Rattle.elf32_read.specs.Parts.{SectionParts, SymbolParts, is_code_section, is_kept_section}
use Rattle.elf32_read.specs.declared.reloc.Reloc.{Reloc}
use Rattle.elf32_write.specs.Writable.{null_part, null_symbol_part}
use Rattle.psabi_sym.specs.Fixed.{is_fixed, is_fixed_at}
use Rattle.psabi_sym.specs.Inputs.{ParsedInputs}
use Rattle.psabi_sym.specs.Indexed.{all_sections, section_at}
use Rattle.psabi_sym.specs.declared.target.Target.TheVariants.{Code}
use Rattle.block_cut.specs.Items.{entry_in, target_of}
use Rattle.section_gc.specs.Cleaned.{cleaned}
use Rattle.section_gc.specs.Counts.{all_code, listed_bytes, needed_code}
use Rattle.section_gc.specs.Kept.{AreNeeded, Needed, Start, Data, Fixed, Referred, Refers}

-- ---- the objects

-- `li a0,3`, `li a7,93`, `ecall`
text : SectionParts
text = record { name = codes ".text"; kind = 1; flags = 6; align = 4; size = 12; bytes = 0x13 ∷ 0x05 ∷ 0x30 ∷ 0x00 ∷ 0x93 ∷ 0x08 ∷ 0xd0 ∷ 0x05 ∷ 0x73 ∷ 0x00 ∷ 0x00 ∷ 0x00 ∷ []; relocs = []; compressed = false }

-- `li a0,1`, `ret`
other : SectionParts
other = record { name = codes ".text.f"; kind = 1; flags = 6; align = 4; size = 8; bytes = 0x13 ∷ 0x05 ∷ 0x10 ∷ 0x00 ∷ 0x67 ∷ 0x80 ∷ 0x00 ∷ 0x00 ∷ []; relocs = []; compressed = false }

-- a word of data with the address of the symbol 2
words : SectionParts
words = record { name = codes ".data"; kind = 1; flags = 3; align = 4; size = 4; bytes = 0 ∷ 0 ∷ 0 ∷ 0 ∷ []; relocs = (record { offset = 0; symbol = 2; kind = 1; addend = pos 0 }) ∷ []; compressed = false }

-- a section that isn't linked, and a symbol in it
comment : SectionParts
comment = record { name = codes ".comment"; kind = 1; flags = 0; align = 1; size = 1; bytes = 7 ∷ []; relocs = []; compressed = false }

symbol : List ℕ → ℕ → ℕ → SymbolParts
symbol name bind home = record { name = name; value = 0; size = 8; bind = bind; kind = 0; home = home }

first : ParsedInputs
first = record { objects = (record { flags = 0; sections = null_part ∷ comment ∷ text ∷ other ∷ []; symbols = null_symbol_part ∷ symbol (codes "_start") 1 2 ∷ symbol (codes "f") 1 3 ∷ symbol (codes "c") 0 1 ∷ [] }) ∷ []; map = standard_map; fixed = [] }

second : ParsedInputs
second = record { objects = (record { flags = 0; sections = null_part ∷ comment ∷ text ∷ other ∷ words ∷ []; symbols = null_symbol_part ∷ symbol (codes "_start") 1 2 ∷ symbol (codes "f") 1 3 ∷ symbol (codes "c") 0 1 ∷ [] }) ∷ []; map = standard_map; fixed = [] }

-- ---- what is needed of the first

needed-first : ℕ → ℕ → Bool
needed-first zero (suc (suc zero)) = true
needed-first o i = false

result-first : cleaned needed-first first.objects ≡ (record {
  flags = 0;
  sections = text ∷ record other { align = 1; size = 0; bytes = [] } ∷ [];
  symbols = symbol (codes "_start") 1 1 ∷ (record (symbol (codes "f") 1 2) { size = 0 }) ∷ (record (symbol (codes "c") 0 1) { home = 0xFFF1 }) ∷ [];
}) ∷ []
unfolding first needed-first text other comment symbol
result-first = refl

counts-first : (length (needed_code needed-first first.objects) ≡ 1) × (length (all_code first.objects) ≡ 2) × (listed_bytes (needed_code needed-first first.objects) ≡ 12) × (listed_bytes (all_code first.objects) ≡ 20)
unfolding first needed-first text other comment symbol all_sections
counts-first = (refl, refl, refl, refl)

place : ℕ → Place
place i = record { object = 0; section = i; offset = 0 }

entry-first : entry_in first ≡ Some (place 2)
unfolding first text other comment symbol place Rattle.psabi_sym.specs.Resolve.name_definition Rattle.psabi_sym.specs.Indexed.all_symbols Rattle.psabi_sym.specs.Data.role_of Rattle.block_cut.specs.Items.starts_in Rattle.block_cut.specs.Relocs.reloc_on
entry-first = refl

-- its sections are code without relocations, or dropped
sections-first : (o i : ℕ) (s : SectionParts) → section_at first.objects o i ≡ Some s → (s.relocs ≡ []) × ((is_kept_section s ≡ true) → is_code_section s ≡ true)
unfolding first text other comment
sections-first zero zero s at = let same : null_part ≡ s = cc in subst (λ s. (s.relocs ≡ []) × ((is_kept_section s ≡ true) → is_code_section s ≡ true)) same (refl, λ h. absurd cc)
sections-first zero (suc zero) s at = let same : comment ≡ s = cc in subst (λ s. (s.relocs ≡ []) × ((is_kept_section s ≡ true) → is_code_section s ≡ true)) same (refl, λ h. absurd cc)
sections-first zero (suc (suc zero)) s at = let same : text ≡ s = cc in subst (λ s. (s.relocs ≡ []) × ((is_kept_section s ≡ true) → is_code_section s ≡ true)) same (refl, λ h. refl)
sections-first zero (suc (suc (suc zero))) s at = let same : other ≡ s = cc in subst (λ s. (s.relocs ≡ []) × ((is_kept_section s ≡ true) → is_code_section s ≡ true)) same (refl, λ h. refl)
sections-first zero (suc (suc (suc (suc i)))) s at = absurd cc
sections-first (suc o) i s at = absurd cc

none-of : (rs : List Reloc) (r : Reloc) → rs ≡ [] → Contains rs r → ⊥
none-of rs r is its = let lt : its.0 < length rs = its.1 in let none = ap length is in omega (arith, lt, none)

-- without names nothing is fixed
none-fixed : (inputs : ParsedInputs) (o i : ℕ) → inputs.fixed ≡ [] → is_fixed_at inputs o i ≡ true → ⊥
none-fixed inputs o i none h = by (section_at inputs.objects o i) (subst (λ names. option_map_or (is_fixed names) (section_at inputs.objects o i) false ≡ true) none h)
  where
    no-name : (b : Bool) → (b && false) ≡ true → ⊥
    no-name true h = cc
    no-name false h = cc

    by : (s : Option SectionParts) → option_map_or (is_fixed []) s false ≡ true → ⊥
    by None h = cc
    by (Some s) h = no-name (is_code_section s) h

needed-all-first : (o i : ℕ) → Needed first o i → needed-first o i ≡ true
unfolding first needed-first place
needed-all-first o i (Start p e) = let same : place 2 ≡ p = let f = entry-first in cc in subst (λ (q : Place). needed-first q.object q.section ≡ true) same refl
needed-all-first o i (Data x y s at kept plain) = absurd (let is = (sections-first x y s at).1 kept in cc)
needed-all-first o i (Fixed x y h) = absurd (none-fixed first x y refl h)
needed-all-first o i (Referred x y to need refers) = absurd (none-of refers.section.relocs refers.reloc (sections-first x y refers.section refers.section_is).0 refers.its)

are-needed-first : AreNeeded first needed-first
unfolding needed-first place
are-needed-first = record { all = needed-all-first; only = only }
  where
    only : (o i : ℕ) → needed-first o i ≡ true → Needed first o i
    only zero (suc (suc zero)) h = Start (place 2) entry-first
    only zero zero h = absurd cc
    only zero (suc zero) h = absurd cc
    only zero (suc (suc (suc i))) h = absurd cc
    only (suc o) i h = absurd cc

-- ---- what is needed of the second

needed-second : ℕ → ℕ → Bool
needed-second zero (suc (suc zero)) = true
needed-second zero (suc (suc (suc zero))) = true
needed-second zero (suc (suc (suc (suc zero)))) = true
needed-second o i = false

result-second : cleaned needed-second second.objects ≡ (record {
  flags = 0;
  sections = text ∷ other ∷ words ∷ [];
  symbols = symbol (codes "_start") 1 1 ∷ symbol (codes "f") 1 2 ∷ (record (symbol (codes "c") 0 1) { home = 0xFFF1 }) ∷ [];
}) ∷ []
unfolding second needed-second text other comment words symbol
result-second = refl

counts-second : (length (needed_code needed-second second.objects) ≡ 2) × (length (all_code second.objects) ≡ 2) × (listed_bytes (needed_code needed-second second.objects) ≡ 20) × (listed_bytes (all_code second.objects) ≡ 20)
unfolding second needed-second text other comment words symbol all_sections
counts-second = (refl, refl, refl, refl)

entry-second : entry_in second ≡ Some (place 2)
unfolding second text other comment words symbol place Rattle.psabi_sym.specs.Resolve.name_definition Rattle.psabi_sym.specs.Indexed.all_symbols Rattle.psabi_sym.specs.Data.role_of Rattle.block_cut.specs.Items.starts_in Rattle.block_cut.specs.Relocs.reloc_on
entry-second = refl

word : Reloc
word = record { offset = 0; symbol = 2; kind = 1; addend = pos 0 }

target-second : target_of second 0 word ≡ Code (place 3)
unfolding second text other comment words symbol place word Rattle.psabi_sym.specs.Resolve.resolved Rattle.psabi_sym.specs.Resolve.name_definition Rattle.psabi_sym.specs.Indexed.all_symbols Rattle.psabi_sym.specs.Data.role_of
target-second = refl

-- the words refer to the other code
refers-second : Refers second 0 4 (place 3)
unfolding second words word
refers-second = record { section = words; section_is = refl; kept = refl; reloc = word; its = (0, omega arith, refl); asks = refl; leads = target-second }

-- what each of its sections is
data Kinds (s : SectionParts) : ℕ → ℕ → Type 0 where
  Bare : (o i : ℕ) → s.relocs ≡ [] → (is_kept_section s ≡ true → is_code_section s ≡ true) → Kinds s o i
  Words : s ≡ words → Kinds s 0 4

sections-second : (o i : ℕ) (s : SectionParts) → section_at second.objects o i ≡ Some s → Kinds s o i
unfolding second text other comment
sections-second zero zero s at = let same : null_part ≡ s = cc in Bare 0 0 (ap (λ (t : SectionParts). t.relocs) (sym same)) (λ h. absurd (let k = ap is_kept_section same in cc))
sections-second zero (suc zero) s at = let same : comment ≡ s = cc in Bare 0 1 (ap (λ (t : SectionParts). t.relocs) (sym same)) (λ h. absurd (let k = ap is_kept_section same in cc))
sections-second zero (suc (suc zero)) s at = let same : text ≡ s = cc in Bare 0 2 (ap (λ (t : SectionParts). t.relocs) (sym same)) (λ h. ap is_code_section (sym same))
sections-second zero (suc (suc (suc zero))) s at = let same : other ≡ s = cc in Bare 0 3 (ap (λ (t : SectionParts). t.relocs) (sym same)) (λ h. ap is_code_section (sym same))
sections-second zero (suc (suc (suc (suc zero)))) s at = let same : words ≡ s = cc in Words (sym same)
sections-second zero (suc (suc (suc (suc (suc i))))) s at = absurd cc
sections-second (suc o) i s at = absurd cc

one-of : (w r : Reloc) → Contains (w ∷ []) r → w ≡ r
one-of w r its = by its.0 its.1 its.2
  where
    by : (k : ℕ) → k < 1 → get_or (w ∷ []) k r ≡ r → w ≡ r
    by zero lt is = is
    by (suc k) lt is = absurd (omega arith)

needed-all-second : (o i : ℕ) → Needed second o i → needed-second o i ≡ true
unfolding second needed-second place words word
needed-all-second o i (Start p e) = let same : place 2 ≡ p = let f = entry-second in cc in subst (λ (q : Place). needed-second q.object q.section ≡ true) same refl
needed-all-second o i (Data x y s at kept plain) = by x y (sections-second x y s at)
  where
    by : (x y : ℕ) → Kinds s x y → needed-second x y ≡ true
    by x y (Bare a b none code) = absurd (let is = code kept in cc)
    by x y (Words is) = refl
needed-all-second o i (Fixed x y h) = absurd (none-fixed second x y refl h)
needed-all-second o i (Referred x y to need refers) = by x y (sections-second x y refers.section refers.section_is) refers.leads
  where
    by : (x y : ℕ) → Kinds refers.section x y → target_of second x refers.reloc ≡ Code to → needed-second to.object to.section ≡ true
    by x y (Bare a b none code) leads = absurd (none-of refers.section.relocs refers.reloc none refers.its)
    by x y (Words is) leads =
        let one = one-of word refers.reloc (subst (λ (s : SectionParts). Contains s.relocs refers.reloc) is refers.its) in
        let same : place 3 ≡ to = let t = target-second in let m = ap (target_of second 0) one in cc in
        subst (λ (q : Place). needed-second q.object q.section ≡ true) same refl

are-needed-second : AreNeeded second needed-second
unfolding needed-second place words refers-second
are-needed-second = record { all = needed-all-second; only = only }
  where
    data-needed : Needed second 0 4
    data-needed = Data 0 4 words refers-second.section_is refl refl

    only : (o i : ℕ) → needed-second o i ≡ true → Needed second o i
    only zero (suc (suc zero)) h = Start (place 2) entry-second
    only zero (suc (suc (suc zero))) h = Referred 0 4 (place 3) data-needed refers-second
    only zero (suc (suc (suc (suc zero)))) h = data-needed
    only zero zero h = absurd cc
    only zero (suc zero) h = absurd cc
    only zero (suc (suc (suc (suc (suc i))))) h = absurd cc
    only (suc o) i h = absurd cc

-- ---- what is needed of the first if a name fixes its other code

third : ParsedInputs
third = record first { fixed = codes ".text.f" ∷ [] }

needed-third : ℕ → ℕ → Bool
needed-third zero (suc (suc zero)) = true
needed-third zero (suc (suc (suc zero))) = true
needed-third o i = false

entry-third : entry_in third ≡ Some (place 2)
unfolding third first text other comment symbol place Rattle.psabi_sym.specs.Resolve.name_definition Rattle.psabi_sym.specs.Indexed.all_symbols Rattle.psabi_sym.specs.Data.role_of Rattle.block_cut.specs.Items.starts_in Rattle.block_cut.specs.Relocs.reloc_on
entry-third = refl

fixed-third : is_fixed_at third 0 3 ≡ true
unfolding third first text other comment
fixed-third = refl

fixed-needed : (o i : ℕ) → is_fixed_at third o i ≡ true → needed-third o i ≡ true
unfolding third first text other comment needed-third
fixed-needed zero zero h = absurd cc
fixed-needed zero (suc zero) h = absurd cc
fixed-needed zero (suc (suc zero)) h = refl
fixed-needed zero (suc (suc (suc zero))) h = refl
fixed-needed zero (suc (suc (suc (suc i)))) h = absurd cc
fixed-needed (suc o) i h = absurd cc

needed-all-third : (o i : ℕ) → Needed third o i → needed-third o i ≡ true
unfolding third needed-third place
needed-all-third o i (Start p e) = let same : place 2 ≡ p = let f = entry-third in cc in subst (λ (q : Place). needed-third q.object q.section ≡ true) same refl
needed-all-third o i (Data x y s at kept plain) = absurd (let is = (sections-first x y s at).1 kept in cc)
needed-all-third o i (Fixed x y h) = fixed-needed x y h
needed-all-third o i (Referred x y to need refers) = absurd (none-of refers.section.relocs refers.reloc (sections-first x y refers.section refers.section_is).0 refers.its)

are-needed-third : AreNeeded third needed-third
unfolding needed-third place
are-needed-third = record { all = needed-all-third; only = only }
  where
    only : (o i : ℕ) → needed-third o i ≡ true → Needed third o i
    only zero (suc (suc zero)) h = Start (place 2) entry-third
    only zero (suc (suc (suc zero))) h = Fixed 0 3 fixed-third
    only zero zero h = absurd cc
    only zero (suc zero) h = absurd cc
    only zero (suc (suc (suc (suc i)))) h = absurd cc
    only (suc o) i h = absurd cc
