-- Names read back from their table.
use Rattle.std.proofs.Common.{◌≡◌, ℕ, suc, ◌+◌, List, [], ◌∷◌, ◌++◌, length, take, drop, true, false, not, ◌&&◌, ◌||◌, ◌==◌, cond, nat_eq, refl, ap, ◌∙◌, arith, append_assoc, drop_at}
use Rattle.std.specs.List.{flat_map, list_any, prefix_len, starts_with, take_while}
use Rattle.std.specs.Cmp.Lexicographic.{pointwise}
use Rattle.std.proofs.lemmas.Bool.{not-true, or_parts, and_left}
use Rattle.std.proofs.lemmas.List.Concat.{flat_map-append}
use Rattle.elf32_read.specs.Names.{has_end, is_name_at, name_at}
use Rattle.elf32_write.specs.NameTable.{name_bytes, name_start, name_table}
use Rattle.elf32_write.specs.Writable.{is_name}

-- the first byte of a name is no zero, and the rest is a name
name_parts : (byte : ℕ) (bytes : List ℕ) → is_name (byte ∷ bytes) ≡ true → ((byte == 0) ≡ false) × (is_name bytes ≡ true)
name_parts byte bytes named =
    let parts = or_parts (byte == 0) (list_any (λ b. b == 0) bytes) (not-true (byte == 0 || list_any (λ b. b == 0) bytes) named) in
    (parts.0, ap not parts.1)

-- up to the zero after it stands the name
until_zero : (name rest : List ℕ) → is_name name ≡ true → take_while (λ byte. not (byte == 0)) (name ++ 0 ∷ rest) ≡ name
until_zero [] rest named = refl
until_zero (byte ∷ bytes) rest named =
    let parts = name_parts byte bytes named in
    let more = until_zero bytes rest parts.1 in
    let count = prefix_len (λ byte. not (byte == 0)) (bytes ++ 0 ∷ rest) in
    let one : 1 + count ≡ suc count = omega arith in
    ap (λ b. take (cond (not b) (1 + prefix_len (λ byte. not (byte == 0)) (bytes ++ 0 ∷ rest)) 0) (byte ∷ bytes ++ 0 ∷ rest)) parts.0
    ∙ ap (λ n. take n (byte ∷ bytes ++ 0 ∷ rest)) one ∙ ap (λ l. byte ∷ l) more

-- after a name there is a zero
zero_after : (name rest : List ℕ) → list_any (λ byte. byte == 0) (name ++ 0 ∷ rest) ≡ true
zero_after [] rest = refl
zero_after (byte ∷ bytes) rest =
    elim (byte == 0) as (λ b. (b || list_any (λ byte. byte == 0) (bytes ++ 0 ∷ rest)) ≡ true) [
      | true ↦ refl
      | false ↦ zero_after bytes rest
    ]

nat_eq_sym : (a b : ℕ) → nat_eq a b ≡ nat_eq b a
nat_eq_sym a b = grind arith

-- a name is tested by its bytes and the zero after it
tested : (name wanted rest : List ℕ) → is_name name ≡ true → is_name wanted ≡ true → starts_with nat_eq (name ++ 0 ∷ rest) (wanted ++ 0 ∷ []) ≡ pointwise nat_eq name wanted
tested [] [] rest named want = refl
tested [] (w ∷ ws) rest named want = and_left (w == 0) _ (name_parts w ws want).0
tested (b ∷ bs) [] rest named want = and_left (nat_eq 0 b) _ (nat_eq_sym 0 b ∙ (name_parts b bs named).0)
tested (b ∷ bs) (w ∷ ws) rest named want =
    let more = tested bs ws rest (name_parts b bs named).1 (name_parts w ws want).1 in
    λ i. nat_eq_sym w b i && more i

-- in the table of names, where this one begins, stand its bytes and a zero, or it is empty and there is a zero
pub record Stands (name : List ℕ) (table : List ℕ) (at : ℕ) : Type 0 where
  pub read : name_at table at ≡ name
  pub ended : has_end table at ≡ true
  pub known : (wanted : List ℕ) → is_name wanted ≡ true → is_name_at wanted table at ≡ pointwise nat_eq name wanted

pub name_back : (before : List (List ℕ)) (name : List ℕ) (rest : List (List ℕ)) (table : List ℕ) → table ≡ name_table (before ++ name ∷ rest) → is_name name ≡ true → Stands name table (name_start (length (name_table before)) name)
name_back before [] rest table e named = rw e (record {
  read = refl;
  ended = refl;
  known = λ wanted want. tested [] wanted (flat_map name_bytes (before ++ [] ∷ rest)) refl want;
})
name_back before (byte ∷ bytes) rest table e named =
    let name = byte ∷ bytes in
    let after = flat_map name_bytes rest in
    let split : table ≡ name_table before ++ (name ++ 0 ∷ after) =
    e ∙ ap (λ l. 0 ∷ l) (flat_map-append name_bytes before (name ∷ rest)) ∙ ap (λ l. name_table before ++ l) (append_assoc name (0 ∷ []) after) in
    let there : drop (length (name_table before)) table ≡ name ++ 0 ∷ after = ap (drop (length (name_table before))) split ∙ drop_at (name_table before) (name ++ 0 ∷ after) (length (name_table before)) refl in
    record {
      read = ap (take_while (λ byte. not (byte == 0))) there ∙ until_zero name after named;
      ended = ap (list_any (λ byte. byte == 0)) there ∙ zero_after name after;
      known = λ wanted want. ap (λ l. starts_with nat_eq l (wanted ++ 0 ∷ [])) there ∙ tested name wanted after named want;
    }
