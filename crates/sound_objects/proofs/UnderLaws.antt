-- Fragments that can stand in code: a word, a call, and a word under a part of an address.
use Rattle.std.proofs.Common.{◌≡◌, ℕ, ◌+◌, ◌<◌, ◌^◌, ℤ, List, ◌++◌, length, Bool, true, false, Option, refl, sym, ap, ◌∙◌, arith, append_assoc, length-append}
use Rattle.zc_base.specs.Fields.{word_bytes, word_in}
use Rattle.elf32_read.specs.Parts.{SectionParts, is_code_section}
use Rattle.elf32_write.proofs.After.{word_in-append, word_of_bytes}
use Rattle.psabi_reloc.specs.Kinds.{field_length, is_call, is_lui, is_store, is_sum, kind_of}
use Rattle.rv_decode.specs.Decode.{decoded}
use Rattle.rv_decode.specs.declared.instr.Instr.{Instr}
use Rattle.block_cut.specs.Relocs.{fits_at, is_bad_kind, is_ignored}
use Rattle.sound_objects.specs.Fragments.{CanStand, FragmentReloc, pair_under, word_fragment, word_under}
use Rattle.sound_objects.specs.Fragments.CanStand.{Alone, Under}

-- a word is read where it stands
pub word_there : (s : SectionParts) (front back : List ℕ) (n w : ℕ) → w < 2 ^ 32 → s.bytes ≡ front ++ (word_bytes w ++ back) → length front ≡ n → word_in s.bytes n ≡ w
unfolding word_in
word_there s front back n w small are start =
    ap (λ l. word_in l n) are ∙ word_in-append front (word_bytes w ++ back) n 0 (sym start ∙ omega arith) ∙ word_of_bytes w small

pub word_stands : (w : ℕ) → CanStand (word_fragment w)
word_stands w = Alone refl refl

-- ---- a word under a relocation

module _ (symbol : ℕ) (addend : ℤ) (w : ℕ) (small : w < 2 ^ 32) where
  -- the relocation of a type
  abbrev of_type : ℕ → FragmentReloc
  of_type kind = record { kind = kind; symbol = symbol; addend = addend }

  -- a type of 4 bytes whose test of the instruction passes
  by_test : (kind : ℕ) (test : Option Instr → Bool) → test (decoded w) ≡ true → field_length (kind_of kind) addend ≡ 4 → is_ignored (kind_of kind) ≡ false
      → ((s : SectionParts) → is_code_section s ≡ true → is_bad_kind s (kind_of kind) ≡ false)
      → ((s : SectionParts) (n : ℕ) → fits_at s n addend (kind_of kind) ≡ test (decoded (word_in s.bytes n))) → CanStand (word_under (of_type kind) w)
  by_test kind test is long asks known fits = Under (of_type kind) refl (record {
    some = omega arith;
    words = refl;
    long = long;
    asks = asks;
    known = known;
    fits = λ s n at. fits s n ∙ ap (λ v. test (decoded v)) (word_there s at.front at.back n w small at.bytes at.start) ∙ is;
  })

  -- HI20 (26) asks for a `lui`
  pub upper_stands : is_lui (decoded w) ≡ true → CanStand (word_under (of_type 26) w)
  upper_stands is = by_test 26 is_lui is refl refl (λ s code. rw code refl) (λ s n. refl)

  -- LO12_I (27) asks for an `addi`, a load or a `jalr`
  pub sum_stands : is_sum (decoded w) ≡ true → CanStand (word_under (of_type 27) w)
  sum_stands is = by_test 27 is_sum is refl refl (λ s code. rw code refl) (λ s n. refl)

  -- LO12_S (28) asks for a store
  pub store_stands : is_store (decoded w) ≡ true → CanStand (word_under (of_type 28) w)
  store_stands is = by_test 28 is_store is refl refl (λ s code. rw code refl) (λ s n. refl)

-- ---- a call

-- CALL (18) asks for an `auipc` and a `jalr` over its register
pub pair_stands : (symbol : ℕ) (addend : ℤ) (first second : ℕ) → first < 2 ^ 32 → second < 2 ^ 32 → is_call (decoded first) (decoded second) ≡ true
    → CanStand (pair_under (record { kind = 18; symbol = symbol; addend = addend }) first second)
pair_stands symbol addend first second one two is = Under (record { kind = 18; symbol = symbol; addend = addend }) refl (record {
  some = omega arith;
  words = refl;
  long = refl;
  asks = refl;
  known = λ s code. rw code refl;
  fits = λ s n at.
      let upper : word_in s.bytes n ≡ first = word_there s at.front (word_bytes second ++ at.back) n first one at.bytes at.start in
      let split : s.bytes ≡ (at.front ++ word_bytes first) ++ (word_bytes second ++ at.back) = at.bytes ∙ sym (append_assoc at.front (word_bytes first) (word_bytes second ++ at.back)) in
      let start : length (at.front ++ word_bytes first) ≡ n + 4 = omega (arith, length-append at.front (word_bytes first), at.start) in
      let lower : word_in s.bytes (n + 4) ≡ second = word_there s (at.front ++ word_bytes first) at.back (n + 4) second two split start in
      (λ i. is_call (decoded (upper i)) (decoded (lower i))) ∙ is;
})
