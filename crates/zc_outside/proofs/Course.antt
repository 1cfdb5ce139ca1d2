-- Writes to one stream, a piece at a time.
use Rattle.std.proofs.Common.{◌≡◌, ℕ, ◌≤◌, ◌+◌, List, [], ◌++◌, length, take, Bool, true, false, cond, eqb, refl, sym, subst, arith, length-append}
use Rattle.std.proofs.lemmas.List.{take-append-le}
use Rattle.std.proofs.Math.Seq.{take-append-add}
use Rattle.zc_outside.specs.Course.{WrotePart, WroteTo, sent}
use Rattle.zc_outside.specs.Desk.{Desk, Wrote}
use Rattle.zc_outside.proofs.Desk.{Wrote-append}

-- what two pieces put on a stream together is what they put there one after the other
sent-append : (stream : ℕ) (xs ys : List ℕ) (number : ℕ) → sent stream xs number ++ sent stream ys number ≡ sent stream (xs ++ ys) number
sent-append stream xs ys number = either (eqb stream number)
  where
    either : (b : Bool) → cond b xs [] ++ cond b ys [] ≡ cond b (xs ++ ys) []
    either true = refl
    either false = refl

pub WroteTo-append : (stream : ℕ) (xs ys : List ℕ) (a b c : Desk) → WroteTo stream xs a b → WroteTo stream ys b c → WroteTo stream (xs ++ ys) a c
WroteTo-append stream xs ys a b c first second =
    subst (λ o. Wrote o (sent stream (xs ++ ys) 2) a c) (sent-append stream xs ys 1)
    (subst (λ e. Wrote (sent stream xs 1 ++ sent stream ys 1) e a c) (sent-append stream xs ys 2) (Wrote-append first second))

-- the whole of one piece was written, and then a part of the next one
pub WroteTo-WrotePart : (stream : ℕ) (xs ys : List ℕ) (a b c : Desk) → WroteTo stream xs a b → WrotePart stream ys b c → WrotePart stream (xs ++ ys) a c
WroteTo-WrotePart stream xs ys a b c first second = record {
  count = length xs + second.count;
  part = omega (arith, length-append xs ys, second.part);
  wrote = subst (λ bytes. WroteTo stream bytes a c) (sym (take-append-add xs ys second.count)) (WroteTo-append stream xs (take second.count ys) a b c first second.wrote);
}

-- a part of a piece is also a part of the piece with another one after it
pub WrotePart-append : (stream : ℕ) (xs ys : List ℕ) (a b : Desk) → WrotePart stream xs a b → WrotePart stream (xs ++ ys) a b
WrotePart-append stream xs ys a b first = record {
  count = first.count;
  part = omega (arith, length-append xs ys, first.part);
  wrote = let within : first.count ≤ length xs = omega (arith, first.part) in subst (λ bytes. WroteTo stream bytes a b) (sym (take-append-le first.count xs ys within)) first.wrote;
}
