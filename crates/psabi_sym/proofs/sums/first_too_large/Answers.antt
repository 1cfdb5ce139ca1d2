use Rattle.std.proofs.Common.{◌≡◌, ◌<◌, ◌+◌, ◌-◌, ◌*◌, ◌^◌, ℕ, List, ◌∷◌, Bool, true, false, Some, cond, suc, take, length, get_or, ap, sym, ◌∙◌, arith}
use Rattle.std.specs.List.{find, range_with_len, sum_by}
use Rattle.std.proofs.lemmas.List.Sums.{sum_by_more}
use Rattle.elf32_read.specs.Parts.{object_parts}
use Rattle.psabi_sym.specs.Faults.{are_too_large, object_code, object_data, sums_of, with_object}
use Rattle.psabi_sym.specs.declared.sums.Sums.{Sums}
use Rattle.psabi_sym.proofs.sums.first_too_large.Goals as goal

-- what is left begins with this index
range_next : (i n : ℕ) → i < n → range_with_len i (n - i) ≡ i ∷ range_with_len (i + 1) (n - (i + 1))
range_next i n lt = let some : n - i ≡ suc (n - (i + 1)) = omega arith in ap (range_with_len i) some

-- the sums with one more file
sums_next : (files : List (List ℕ)) (i : ℕ) (file : List ℕ) (before after : Sums) → i < length files → file ≡ get_or files i file → before ≡ sums_of (take i files)
    → after ≡ with_object before file → after ≡ sums_of (take (i + 1) files)
sums_next files i file before after within is so_far more = more ∙ ap (λ s. with_object s file) so_far ∙ (λ j. record {
  file_bytes = (ap (λ f. sum_by length (take i files) + length f) is ∙ sym (sum_by_more length files i file within)) j;
  code_room = (ap (λ f. sum_by (λ g. object_code (object_parts g)) (take i files) + object_code (object_parts f)) is
      ∙ sym (sum_by_more (λ g. object_code (object_parts g)) files i file within)) j;
  data_room = (ap (λ f. sum_by (λ g. object_data (object_parts g)) (take i files) + object_data (object_parts f)) is
      ∙ sym (sum_by_more (λ g. object_data (object_parts g)) files i file within)) j;
})

-- the test of this index
abbrev passes : List (List ℕ) → ℕ → Bool
passes files i = are_too_large (sums_of (take (i + 1) files))

search_next : (files : List (List ℕ)) (i : ℕ) → i < length files
    → find (passes files) (range_with_len i (length files - i)) ≡ cond (passes files i) (Some i) (find (passes files) (range_with_len (i + 1) (length files - (i + 1))))
search_next files i within = ap (find (passes files)) (range_next i (length files) within)

pub returns-then-are_too_large : goal.returns-then-are_too_large
returns-then-are_too_large c =
    let files = c.args.objects.now in
    let i = c.loop-i.i in
    let within : i < length files = omega arith in
    let sums = sums_next files i c.index-objects-i.result c.loop-i.sums c.with-sums.result within c.index-objects-i.is c.loop-i.invariant.sums c.with-sums.ensures.value in
    let here : passes files i ≡ true = ap are_too_large (sym sums) ∙ sym c.are_too_large.ensures ∙ c.if-are_too_large.true in
    sym (c.loop-i.invariant.rest ∙ search_next files i within ∙ ap (λ b. cond b (Some i) (find (passes files) (range_with_len (i + 1) (length files - (i + 1))))) here)

pub loop-i-preserved : goal.loop-i-preserved
loop-i-preserved c =
    let files = c.args.objects.now in
    let i = c.loop-i.i in
    let within : i < length files = omega arith in
    let sums = sums_next files i c.index-objects-i.result c.loop-i.sums c.with-sums.result within c.index-objects-i.is c.loop-i.invariant.sums c.with-sums.ensures.value in
    let here : passes files i ≡ false = ap are_too_large (sym sums) ∙ sym c.are_too_large.ensures ∙ c.if-are_too_large.false in
    record {
      sums = sums;
      rest = c.loop-i.invariant.rest ∙ search_next files i within ∙ ap (λ b. cond b (Some i) (find (passes files) (range_with_len (i + 1) (length files - (i + 1))))) here;
      most =
          let next = c.with-sums.ensures.most (2 ^ 54 * i) c.loop-i.invariant.most in
          record {
            file_bytes = omega (arith, next.file_bytes);
            code_room = omega (arith, next.code_room);
            data_room = omega (arith, next.data_room);
          };
    }
