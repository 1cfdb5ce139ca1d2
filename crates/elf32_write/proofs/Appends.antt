-- Bytes appended one after another.
use Rattle.std.proofs.Common.{◌≡◌, ℕ, ◌≤◌, List, [], ◌∷◌, ◌++◌, length, take, ap, ◌∙◌, append_assoc, arith, Result, Ok, Err}
use Rattle.std.specs.Prelude.{replicate, is_ok, if◌then◌else◌, OnOk}
use Rattle.std.proofs.lemmas.List.{take-replicate}
use Rattle.elf32_write.specs.Image.{pad, padded}

-- two appends are one of both
pub appended : (start first second one both : List ℕ) → one ≡ start ++ first → both ≡ one ++ second → both ≡ start ++ (first ++ second)
appended start first second one both e f = f ∙ ap (λ l. l ++ second) e ∙ append_assoc start first second

-- bytes, and as many of three zeros as make their length a multiple of 4
pub padded_appended : {T E : Type 0} (result : Result T E) (start bytes one both : List ℕ) (count : ℕ) → count ≡ pad (length bytes) → one ≡ start ++ bytes → both ≡ (if is_ok result then one ++ take count (0 ∷ 0 ∷ 0 ∷ []) else one) → OnOk result (both ≡ start ++ padded bytes)
padded_appended (Ok value) start bytes one both count same e f =
    let few : pad (length bytes) ≤ 3 = omega arith in
    let zeros : take count (0 ∷ 0 ∷ 0 ∷ []) ≡ replicate (pad (length bytes)) 0 = ap (λ n. take n (0 ∷ 0 ∷ 0 ∷ [])) same ∙ take-replicate {X = ℕ} (pad (length bytes)) 3 0 few in
    appended start bytes (replicate (pad (length bytes)) 0) one both e (f ∙ ap (λ l. one ++ l) zeros)
padded_appended (Err error) start bytes one both count same e f = tt

-- the bytes of an array that was filled first
pub filled_appended : {T E : Type 0} (result : Result T E) (start filled bytes both : List ℕ) → filled ≡ bytes → both ≡ (if is_ok result then start ++ filled else start) → OnOk result (both ≡ start ++ bytes)
filled_appended (Ok value) start filled bytes both same e = e ∙ ap (λ l. start ++ l) same
filled_appended (Err error) start filled bytes both same e = tt
