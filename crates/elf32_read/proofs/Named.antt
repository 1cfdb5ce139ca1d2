-- Names by the end of the last name in their table, and lists of at most one section.
use Rattle.std.proofs.Common.{◌≡◌, ℕ, ◌≤◌, ◌<◌, List, [], length, true, false, Option, Some, None, refl, ap, ◌∙◌}
use Rattle.std.specs.Prelude.{is_some, nat_lt, not}
use Rattle.std.specs.Option.{option_to_list}
use Rattle.std.proofs.lemmas.Bool.{le-ltb, lt-ltb}
use Rattle.elf32_read.specs.Names.{has_end}

-- the list of an option that is `Some` has one element
pub length-option_to_list : {X : Type 0} (found : Option X) → is_some found ≡ true → length (option_to_list found) ≡ 1
length-option_to_list None some = absurd cc
length-option_to_list (Some x) some = refl

-- the list of `None` is empty
pub option_to_list-none : {X : Type 0} (found : Option X) → is_some found ≡ false → option_to_list found ≡ []
option_to_list-none None none = refl
option_to_list-none (Some x) none = absurd cc

-- a name that begins after the end of the last name isn't terminated
pub ends_past : (names : List ℕ) (end at : ℕ) → ((k : ℕ) → has_end names k ≡ nat_lt k end) → end ≤ at → not (has_end names at) ≡ true
ends_past names end at ends past = ap not (ends at ∙ le-ltb at end past)

-- a name that begins before the end of the last name is terminated
pub ends_within : (names : List ℕ) (end at : ℕ) → ((k : ℕ) → has_end names k ≡ nat_lt k end) → at < end → not (has_end names at) ≡ false
ends_within names end at ends within = ap not (ends at ∙ lt-ltb at end within)
