-- What is left of objects can be written: what a pass owes for it.
use Rattle.std.proofs.Common.{◌≡◌, ℕ, ◌%◌, ◌<◌, ◌≤◌, [], refl, sym, ap, ◌∙◌, arith, Bool, true, false, cond, Option, Some, None, filter, subst}
use Rattle.std.specs.Prelude.{◌&&◌, not}
use Rattle.std.specs.Option.{option_map_or}
use Rattle.std.proofs.lemmas.List.Elements.{All-filter, All-nil}
use Rattle.elf32_read.specs.Compressed.{code_step, has_rvc}
use Rattle.elf32_read.specs.Object.{is_bad_alignment}
use Rattle.elf32_read.specs.Parts.{ObjectParts, SectionParts, SymbolParts, is_code_section, is_kept_section}
use Rattle.elf32_read.specs.declared.reloc.Reloc.{Reloc}
use Rattle.psabi_sym.specs.Faults.{code_room}
use Rattle.psabi_sym.specs.Inputs.{Inputs, parsed}
use Rattle.block_cut.specs.Resolved.{asks}
use Rattle.moved_runs.specs.Passes.{home_of, new_number}
use Rattle.object_passes.proofs.FitPass.{IsFitPass, IsFitSection, IsFitSymbol}
use Rattle.section_gc.specs.Cleaned.{cleaned_in, cleaned_section}
use Rattle.section_gc.proofs.CleaningLaws.{cleaning_of, marks-stay}
use Rattle.section_gc.proofs.LeftFaultsNames.{code-less}

-- ---- sections

-- a section that is emptied or not
abbrev emptied : Bool → SectionParts → SectionParts
emptied c s = cond c (record s { align = 1; size = 0; bytes = []; relocs = [] }) (record s { relocs = filter asks s.relocs })

one-aligned : is_bad_alignment 256 1 ≡ false
unfolding lib.Count.ones
one-aligned = refl

none-left : (c : Bool) → 0 % code_step c ≡ 0
none-left true = refl
none-left false = refl

fit-emptied : (flags : ℕ) (s : SectionParts) (c : Bool) → code_room (emptied c s) ≤ code_room s → IsFitSection flags s (emptied c s)
fit-emptied flags s true room = record {
  symbols = λ n all. All-nil (λ (r : Reloc). r.symbol < n);
  kinds = λ n all. All-nil (λ (r : Reloc). r.kind < n);
  whole = λ code whole. record { bytes = refl; align = one-aligned; size = none-left (has_rvc flags) };
  less = λ code. omega arith;
  room = room;
}
fit-emptied flags s false room = record {
  symbols = λ n all. All-filter asks (λ r. r.symbol < n) s.relocs all;
  kinds = λ n all. All-filter asks (λ r. r.kind < n) s.relocs all;
  whole = λ code whole. record { bytes = whole.bytes; align = whole.align; size = whole.size };
  less = λ code. omega arith;
  room = room;
}

fit-section : (flags : ℕ) (b : Bool) (s : SectionParts) → IsFitSection flags s (cleaned_section b s)
fit-section flags b s = fit-emptied flags s (is_code_section s && not b) (code-less b s)

-- ---- symbols

-- a symbol in a section that is dropped, emptied or neither
abbrev housed : Bool → Bool → ℕ → SymbolParts → SymbolParts
housed kept empty n s =
    cond (not kept) (record s { value = 0; home = 0xFFF1 }) (cond empty (record s { value = 0; size = 0; home = n }) (record s { home = n }))

kind-stays : (b : Bool) (n : ℕ) (s : SymbolParts) (found : Option SectionParts) → (option_map_or (cleaned_in b n s) found s).kind ≡ s.kind
kind-stays b n s None = refl
kind-stays b n s (Some home) = by (is_kept_section home) (is_code_section home && not b)
  where
    by : (kept empty : Bool) → (housed kept empty n s).kind ≡ s.kind
    by false empty = refl
    by true true = refl
    by true false = refl

dropped-home : (b : Bool) (n : ℕ) (s : SymbolParts) (home : SectionParts) → is_kept_section home ≡ false → (cleaned_in b n s home).home ≡ 0xFFF1
dropped-home b n s home dropped = ap (λ k. (housed k (is_code_section home && not b) n s).home) dropped

kept-home : (b : Bool) (n : ℕ) (s : SymbolParts) (home : SectionParts) → is_kept_section home ≡ true → (cleaned_in b n s home).home ≡ n
kept-home b n s home kept = ap (λ k. (housed k (is_code_section home && not b) n s).home) kept ∙ by (is_code_section home && not b)
  where
    by : (empty : Bool) → (housed true empty n s).home ≡ n
    by true = refl
    by false = refl

within-home : (b : Bool) (n : ℕ) (s : SymbolParts) (home : SectionParts) → is_kept_section home ≡ true → s.value ≤ home.size → (cleaned_in b n s home).value ≤ (cleaned_section b home).size
within-home b n s home kept low =
    subst (λ k. (housed k (is_code_section home && not b) n s).value ≤ (cleaned_section b home).size) (sym kept) (by (is_code_section home && not b))
  where
    by : (empty : Bool) → (housed true empty n s).value ≤ (emptied empty home).size
    by true = omega arith
    by false = low

fit-symbol : (inputs : Inputs) (needed : ℕ → ℕ → Bool) (o : ℕ) (object : ObjectParts) (s : SymbolParts) → IsFitSymbol (cleaning_of inputs needed) o object s
fit-symbol inputs needed o object s =
    let n = new_number object.sections s.home in
    let b = needed o s.home in
    record {
      kind = kind-stays b n s (home_of object s);
      homeless = λ none. ap (λ found. option_map_or (cleaned_in b n s) found s) none;
      dropped = λ home is dropped. ap (λ found. (option_map_or (cleaned_in b n s) found s).home) is ∙ dropped-home b n s home dropped;
      kept = λ home is kept. ap (λ found. (option_map_or (cleaned_in b n s) found s).home) is ∙ kept-home b n s home kept;
      within = λ home is kept low.
          subst (λ found. (option_map_or (cleaned_in b n s) found s).value ≤ (cleaned_section b home).size) (sym is) (within-home b n s home kept low);
    }

-- ---- all objects

pub cleaning-fit : (inputs : Inputs) (needed : ℕ → ℕ → Bool) → IsFitPass (cleaning_of inputs needed) (parsed inputs).objects
cleaning-fit inputs needed = record {
  marks = λ o i s. marks-stay (needed o i) s;
  each = λ o object at. record {
    sections = λ i s there kept. fit-section object.flags (needed o i) s;
    symbols = λ k s there. fit-symbol inputs needed o object s;
  };
}
