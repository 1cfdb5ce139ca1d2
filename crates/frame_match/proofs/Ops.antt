-- Instructions at places, where each place has one: an instruction has the same index as its place.
use Prim.Native.Nat.{zero}
use Rattle.std.proofs.Common.{◌≡◌, ◌∙◌, ℕ, suc, List, [], ◌∷◌, Option, Some, None, true, refl}
use Rattle.std.specs.List.{slice_get}
use Rattle.std.specs.Option.{is_some, option_and_then}
use Rattle.rv_decode.specs.declared.instr.Instr.{Instr}
use Rattle.block_cut.specs.declared.code_place.CodePlace.{CodePlace}
use Rattle.frame_match.specs.Groups.{op_then}
use Rattle.frame_match.specs.Invariants.Runs.{op_in, ops_of, HaveOps}

-- with one more instruction before them, the indices of the others are larger by one
get_then : (o : Option Instr) (is : List Instr) (n : ℕ) → is_some o ≡ true → slice_get (op_then o is) (suc n) ≡ slice_get is n
get_then None is n h = absurd cc
get_then (Some i) is n h = refl

first_then : (o : Option Instr) (is : List Instr) → is_some o ≡ true → slice_get (op_then o is) 0 ≡ o
first_then None is h = absurd cc
first_then (Some i) is h = refl

pub get-ops_of : (ps : List CodePlace) → HaveOps ps → (n : ℕ) → slice_get (ops_of ps) n ≡ option_and_then op_in (slice_get ps n)
get-ops_of [] ops n = refl
get-ops_of (p ∷ ps) ops zero = first_then (op_in p) (ops_of ps) (ops 0 p refl)
get-ops_of (p ∷ ps) ops (suc n) =
    get_then (op_in p) (ops_of ps) n (ops 0 p refl) ∙ get-ops_of ps (λ k q h. ops (suc k) q h) n
