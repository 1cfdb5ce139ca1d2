-- Sections that are made of fragments without ALIGN and without relocations of branches: they are short if the fragments are, and have no
-- branches if no word is one.
use Rattle.std.proofs.Common.{◌≡◌, ℕ, ◌+◌, ◌<◌, ◌≤◌, ◌^◌, List, [], ◌∷◌, ◌++◌, length, true, false, cond, Option, Some, None, refl, sym, ap, subst, ◌∙◌, arith, eqb}
use Rattle.std.specs.Prelude.{All, not}
use Rattle.std.specs.List.{sum_by}
use Rattle.std.proofs.lemmas.Bool.{and_parts, eqb-true, false_from_ne_true, not-true, not_from_false}
use Rattle.std.proofs.lemmas.List.{get_or_append_left}
use Rattle.std.proofs.lemmas.List.Elements.{All-head, All-tail, All-weaker}
use Rattle.std.proofs.lemmas.List.Sums.{sum_by-cons}
use Rattle.zc_base.specs.Fields.{word_bytes, word_in}
use Rattle.elf32_read.specs.Parts.{SectionParts}
use Rattle.elf32_read.specs.declared.reloc.Reloc.{Reloc}
use Rattle.elf32_write.proofs.After.{word_in-append, word_of_bytes}
use Rattle.psabi_sym.specs.Faults.{align_room, reloc_room}
use Rattle.psabi_sym.specs.Indexed.{IndexedSection}
use Rattle.psabi_sym.specs.Inputs.{ParsedInputs}
use Rattle.psabi_reloc.specs.Kinds.{kind_of}
use Rattle.psabi_reloc.specs.declared.kind.RelocKind.{RelocKind}
use Rattle.psabi_reloc.specs.declared.kind.RelocKind.TheVariants.{Ignored}
use Rattle.rv_decode.specs.Decode.{decoded}
use Rattle.block_cut.specs.Items.{size_on, starts_on}
use Rattle.std.specs.Option.{option_map_or}
use Rattle.block_cut.specs.CodeSizes.{own_size}
use Rattle.block_cut.specs.Relocs.{field_of, instr_in, is_ignored, reloc_on}
use Rattle.block_cut.proofs.CodeSizeLaws.{own_plain}
use Rattle.block_cut.specs.Whole.{IsWhole}
use Rattle.sound_objects.specs.Fragments.{CanStand, IsMadeOf, IsFragmentAt, Fragment, FragmentReloc, fragment_size, fragments_size, fragment_reloc_at}
use Rattle.sound_objects.specs.Fragments.CanStand.{Alone, Under}
use Rattle.sound_objects.specs.Reach.{HaveNoBareBranch, HaveNoBranchOrAlign, IsBranchless, IsShort, StaysIn, is_branch, is_branch_kind, is_no_bare_branch, is_no_branch_or_align}
use Rattle.sound_objects.proofs.ListLaws.{all_right}
use Rattle.sound_objects.proofs.FragmentLaws.{IsFragment, bytes_sized, one_on, fragment_on, relocs_each, stands, there}

-- ---- words

-- the bytes of a word are read back as the word
pub word_back : (w : ℕ) → w < 2 ^ 32 → word_in (word_bytes w) 0 ≡ w
unfolding word_in
word_back w small = word_of_bytes w small

pub word_no_bare_branch : (w : ℕ) → w < 2 ^ 32 → is_branch (decoded w) ≡ false → is_no_bare_branch None (word_bytes w) ≡ true
word_no_bare_branch w small no_branch = not_from_false (is_branch (decoded (word_in (word_bytes w) 0))) (ap (λ v. is_branch (decoded v)) (word_back w small) ∙ no_branch)

-- the first word of four bytes and more
first_word : (xs ys : List ℕ) → 4 ≤ length xs → word_in (xs ++ ys) 0 ≡ word_in xs 0
unfolding word_in
first_word xs ys long =
    let e0 = get_or_append_left xs ys 0 0 (omega (arith, long)) in
    let e1 = get_or_append_left xs ys 0 (0 + 1) (omega (arith, long)) in
    let e2 = get_or_append_left xs ys 0 (0 + 2) (omega (arith, long)) in
    let e3 = get_or_append_left xs ys 0 (0 + 3) (omega (arith, long)) in
    rw (e0, e1, e2, e3) refl

-- a fragment's first word stands in the section
fragment_word : (s : SectionParts) (n : ℕ) (p : Fragment) → 4 ≤ fragment_size p → IsFragmentAt s n p → word_in s.bytes n ≡ word_in p.bytes 0
fragment_word s n p long at =
    ap (λ l. word_in l n) at.bytes ∙ word_in-append at.front (p.bytes ++ at.back) n 0 (sym at.start ∙ omega arith) ∙ first_word p.bytes at.back long

-- ---- relocations

-- a relocation that is neither of a branch nor ALIGN
pub record IsNoBranchOrAlign (r : Reloc) : Type 0 where
  pub no_branch : is_branch_kind (kind_of r.kind) ≡ false
  pub no_align : eqb r.kind 43 ≡ false

ignored_no_branch : (r : Reloc) → is_ignored (kind_of r.kind) ≡ true → IsNoBranchOrAlign r
ignored_no_branch r ignored = record {
  no_branch = other (kind_of r.kind) ignored;
  no_align = false_from_ne_true (eqb r.kind 43) (λ is.
      let align : is_ignored (kind_of r.kind) ≡ false = ap (λ n. is_ignored (kind_of n)) (eqb-true r.kind 43 is) in
      absurd (cc (ignored, align)));
}
  where
    other : (k : Option RelocKind) → is_ignored k ≡ true → is_branch_kind k ≡ false
    other None is = refl
    other (Some Ignored) is = refl
    other (Some k) is = absurd cc

-- relocations without ALIGN take no room
roomless : (relocs : List Reloc) → All IsNoBranchOrAlign relocs → sum_by reloc_room relocs ≡ 0
unfolding reloc_room
roomless [] all = refl
roomless (r ∷ rs) all =
    let own : reloc_room r ≡ 0 = ap (λ b. cond b (align_room r.addend) 0) (All-head IsNoBranchOrAlign r rs all).no_align in
    omega (arith, sum_by-cons reloc_room r rs, own, roomless rs (All-tail IsNoBranchOrAlign r rs all))

-- ---- sections

module _ (fragments : List Fragment) (s : SectionParts) (made : IsMadeOf fragments s) (no_branch : HaveNoBranchOrAlign fragments) where
  pub made_no_branch : All IsNoBranchOrAlign s.relocs
  made_no_branch = relocs_each fragments s made IsNoBranchOrAlign ignored_no_branch own
    where
      own : (front : List Fragment) (p : Fragment) (back : List Fragment) (r : FragmentReloc) → fragments ≡ front ++ p ∷ back → p.reloc ≡ Some r → IsNoBranchOrAlign (fragment_reloc_at (fragments_size front) r)
      own front p back r split is =
          let P = λ (q : Fragment). is_no_branch_or_align q.reloc ≡ true in
          let one : is_no_branch_or_align p.reloc ≡ true = All-head P p back (all_right P front (p ∷ back) (subst (All P) split no_branch)) in
          let two = and_parts (not (is_branch_kind (kind_of r.kind))) (not (eqb r.kind 43)) (ap is_no_branch_or_align (sym is) ∙ one) in
          record { no_branch = not-true (is_branch_kind (kind_of r.kind)) two.0; no_align = not-true (eqb r.kind 43) two.1 }

  pub made_roomless : sum_by reloc_room s.relocs ≡ 0
  made_roomless = roomless s.relocs made_no_branch

  bare_no_branch : IsWhole s → HaveNoBareBranch fragments → (n : ℕ) → starts_on s n ≡ true → reloc_on s n ≡ None → is_branch (instr_in (size_on s n) s.bytes n) ≡ false
  bare_no_branch whole no_bare_branch n start none = ap (λ m. is_branch (instr_in m s.bytes n)) four ∙ of_fragment (fragment_on fragments s made whole n start)
    where
      four : size_on s n ≡ 4
      four = ap (λ o. option_map_or field_of o (own_size s.compressed s.bytes n)) none ∙ own_plain s.compressed s.bytes n made.plain

      of_fragment : IsFragment fragments s made whole n → is_branch (instr_in 4 s.bytes n) ≡ false
      of_fragment at = by (stands fragments s made at.front at.fragment at.back at.split)
        where
          by : CanStand at.fragment → is_branch (instr_in 4 s.bytes n) ≡ false
          by (Under r is under) = absurd (cc (none, ap (reloc_on s) at.is ∙ one_on fragments s made at.front at.fragment at.back at.split r is))
          by (Alone bare size) =
              let P = λ (q : Fragment). is_no_bare_branch q.reloc q.bytes ≡ true in
              let own : is_no_bare_branch at.fragment.reloc at.fragment.bytes ≡ true = All-head P at.fragment at.back (all_right P at.front (at.fragment ∷ at.back) (subst (All P) at.split no_bare_branch)) in
              let no_branch = not-true (is_branch (instr_in 4 at.fragment.bytes 0)) (ap (λ o. is_no_bare_branch o at.fragment.bytes) (sym bare) ∙ own) in
              ap (λ m. is_branch (instr_in 4 s.bytes m)) at.is
              ∙ ap (λ v. is_branch (decoded v)) (fragment_word s (fragments_size at.front) at.fragment (omega (arith, size)) (there fragments s made at.front at.fragment at.back at.split)) ∙ no_branch

module _ (l : IndexedSection) (fragments : List Fragment) (made : IsMadeOf fragments l.section) (no_branch : HaveNoBranchOrAlign fragments) where
  -- a section of such fragments is short
  pub made_short : (inputs : ParsedInputs) → fragments_size fragments ≤ 4094 → IsShort inputs l
  made_short inputs short = record {
    room = omega (arith, ap length made.bytes, bytes_sized fragments, made_roomless fragments l.section made no_branch, short);
    stay = All-weaker IsNoBranchOrAlign (StaysIn inputs l) (λ r own is. absurd (cc (is, own.no_branch))) l.section.relocs (made_no_branch fragments l.section made no_branch);
  }

  -- a section of such fragments has no branches
  pub made_branchless : IsWhole l.section → HaveNoBareBranch fragments → IsBranchless l
  made_branchless whole no_bare_branch = record {
    relocs = All-weaker IsNoBranchOrAlign (λ r. is_branch_kind (kind_of r.kind) ≡ false) (λ r own. own.no_branch) l.section.relocs (made_no_branch fragments l.section made no_branch);
    bare = bare_no_branch fragments l.section made no_branch whole no_bare_branch;
  }
