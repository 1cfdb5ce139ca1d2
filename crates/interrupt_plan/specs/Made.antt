-- Plans that are generated from a number. `x` is the state of the pseudo-random numbers before the next draw.
use Rattle.std.specs.Prelude.{ℕ, zero, suc, ◌+◌, ◌/◌, ◌%◌, ◌^◌, ◌==◌, List, [], ◌∷◌, filter}
use Rattle.std.specs.List.{range_with_len}
use Rattle.zc_base.specs.Draws.{drawn, stepped}
use Rattle.interrupt_plan.specs.Plan.{Entry}

-- the completed accesses by a drawn number: the numbers 0 to 12 whose bits are set, ascending
abbrev pub drawn_accesses : ℕ → List ℕ
drawn_accesses bits = filter (λ access. bits / 2 ^ access % 2 == 1) (range_with_len 0 13)

-- n bytes in the page below the top of the standard stack; the address is drawn before the byte
abbrev pub dirt_from : ℕ → ℕ → List (ℕ × ℕ)
dirt_from zero x = []
dirt_from (suc n) x = (0x0FFF_F000 + drawn (stepped x) % 4096, drawn (stepped (stepped x)) % 256) ∷ dirt_from n (stepped (stepped x))

-- the state after `dirt_from` drew n bytes
abbrev pub after_dirt : ℕ → ℕ → ℕ
after_dirt zero x = x
after_dirt (suc n) x = after_dirt n (stepped (stepped x))

-- an interrupt at most 63 commits after the one before it, which was at `at`
abbrev pub cut_after : ℕ → ℕ → Entry
cut_after at x = record {
  at = at + drawn (stepped x) % 64;
  cut = record { done = drawn_accesses (drawn (stepped (stepped x))); dirt = dirt_from 4 (stepped (stepped x)) };
}

-- n interrupts after the commit `at`, each at most 63 commits after the one before it
abbrev pub cuts_from : ℕ → ℕ → ℕ → List Entry
cuts_from zero at x = []
cuts_from (suc n) at x = cut_after at x ∷ cuts_from n (at + drawn (stepped x) % 64) (after_dirt 4 (stepped (stepped x)))

-- the plan that is generated from a number
unfoldable pub made_plan : ℕ → ℕ → List Entry
made_plan number count = cuts_from count 0 number
