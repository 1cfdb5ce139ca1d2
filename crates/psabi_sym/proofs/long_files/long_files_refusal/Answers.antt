-- The refusal is the first fault of reading, in the files that are kept or in the others, or else the sum that is too large.
use Rattle.std.proofs.Common.{◌≡◌, ◌≤◌, ◌+◌, ◌++◌, ℕ, List, Option, Some, None, length, refl, sym, ap, subst, ◌∙◌, arith, length-append}
use Rattle.std.proofs.lemmas.List.{length-map}
use Rattle.std.specs.List.{find, range_with_len}
use Rattle.std.specs.Option.{option_or}
use Rattle.elf32_read.specs.declared.fault.Fault.{Fault}
use Rattle.elf32_read.specs.declared.fault.Fault.TheVariants.{TooLarge}
use Rattle.psabi_sym.specs.Faults.{fault_from}
use Rattle.psabi_sym.specs.Inputs.{inputs_in}
use Rattle.psabi_sym.specs.Objects.{contents_of}
use Rattle.psabi_sym.proofs.Gathered.{unreadable}
use Rattle.psabi_sym.proofs.LongLaws.{fault_from_append, long_files, passes, reading_names_none, sum_fault_append, sums_third}
use Rattle.psabi_sym.proofs.long_files.long_files_refusal.Goals as goal

-- few files, together
few : (kept others : List (List ℕ)) (n : ℕ) → length kept ≡ n → n + length others ≤ 256 → length (kept ++ others) ≤ 256
few kept others n count most = omega (arith, length-append kept others)

-- the first fault of reading, by that of the files that are kept and that of the others
reading : (kept others : List (List ℕ)) (n : ℕ) {own later both : Option (ℕ × Fault)} → length kept ≡ n → own ≡ fault_from 0 kept → later ≡ fault_from n others
    → option_or own later ≡ both → fault_from 0 (kept ++ others) ≡ both
reading kept others n {own} count is is_later both =
    let from : 0 + length kept ≡ n = omega arith in
    fault_from_append 0 kept others ∙ (λ j. option_or (sym is j) (fault_from (from j) others)) ∙ ap (option_or own) (sym is_later) ∙ both

pub returns-in-Some : goal.returns-in-Some
returns-in-Some c =
    let kept = contents_of c.args.kept.now in
    let count : length kept ≡ length c.args.kept.now = length-map c.args.kept.now (λ file. file.items) in
    λ others options most later.
    let found = reading kept others _ count c.first_unreadable.ensures later (ap (λ o. option_or o c.args.later) c.in-Some.is) in (
      unreadable (inputs_in options (kept ++ others)) c.in-Some.index c.in-Some.fault (few kept others _ count most) found,
      reading_names_none 0 (kept ++ others) c.in-Some.index c.in-Some.fault found,
    )

pub returns-in-Some-later : goal.returns-in-Some-later
returns-in-Some-later c =
    let kept = contents_of c.args.kept.now in
    let count : length kept ≡ length c.args.kept.now = length-map c.args.kept.now (λ file. file.items) in
    λ others options most later.
    let found = reading kept others _ count c.first_unreadable.ensures later (ap (λ o. option_or o c.args.later) c.in_default.is ∙ c.in-Some-later.is) in (
      unreadable (inputs_in options (kept ++ others)) c.in-Some-later.index c.in-Some-later.fault (few kept others _ count most) found,
      reading_names_none 0 (kept ++ others) c.in-Some-later.index c.in-Some-later.fault found,
    )

pub unreachable-requires : goal.unreachable-requires
unreachable-requires c =
    let same = c.deref.ensures.value ∙ c.in-Ok.ensures in
    long_files (contents_of c.args.kept.now) c.requires.long (subst (λ f. find (passes f) (range_with_len 0 (length f)) ≡ None) same (sym c.first_too_large.ensures ∙ c.in-None.is))

pub returns-in-Some-first_too_large : goal.returns-in-Some-first_too_large
returns-in-Some-first_too_large c =
    let kept = contents_of c.args.kept.now in
    let count : length kept ≡ length c.args.kept.now = length-map c.args.kept.now (λ file. file.items) in
    let same = c.deref.ensures.value ∙ c.in-Ok.ensures in
    let index = c.in-Some-first_too_large.index in
    let found = subst (λ f. find (passes f) (range_with_len 0 (length f)) ≡ Some index) same (sym c.first_too_large.ensures ∙ c.in-Some-first_too_large.is) in
    λ others options most later. (
      sums_third (inputs_in options (kept ++ others)) index TooLarge (few kept others _ count most)
          (reading kept others _ count c.first_unreadable.ensures later (ap (λ o. option_or o c.args.later) c.in_default.is ∙ c.in_default-later.is))
          (sum_fault_append kept others index found),
      refl,
    )
