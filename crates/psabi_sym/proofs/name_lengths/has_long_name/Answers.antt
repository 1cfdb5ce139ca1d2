use Rattle.std.proofs.Common.{◌≡◌, ◌<◌, ◌≤◌, ◌+◌, ◌-◌, ℕ, length, get_or, drop, sym, ◌∙◌, arith, ◌⊎◌, inl, inr}
use Rattle.std.proofs.lemmas.Bool.{cases_lt}
use Rattle.std.proofs.lemmas.List.{get_or-drop, get_or-take}
use Rattle.elf32_read.specs.Names.{name_at}
use Rattle.psabi_sym.proofs.LongNames.{name_stops}
use Rattle.psabi_sym.proofs.name_lengths.has_long_name.Goals as goal

pub loop-at-preserved : goal.loop-at-preserved
loop-at-preserved c =
    let table = c.args.table.now in
    let at = c.loop-at.at in
    let j = c.in-Some.k in
    let few : j < 64 = omega arith in
    let zero : get_or table (at + j) 0 ≡ 0 =
    sym (get_or-drop at table j 0) ∙ sym (get_or-take (at + 64 - at) (drop at table) j 0 (omega (arith, few))) ∙ c.in-Some.ensures.1 in
    let ends : (k : ℕ) → k < at + (j + 1) → ((k < at) ⊎ (at ≤ k)) → length (name_at table k) < 64 = λ k within which. elim which [
      | inl before ↦ c.loop-at.invariant.short k before
      | inr from ↦ omega (arith, name_stops table k (at + j) (omega (arith, within)) zero, few, from)
    ] in
    record { within = omega arith; short = λ k within. ends k within (cases_lt k at) }
