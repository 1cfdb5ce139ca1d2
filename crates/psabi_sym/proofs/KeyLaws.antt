-- Laws of keys. Two texts are one exactly if their keys are (`key_test`): their parts have the same length, since tails have
-- whole blocks, and a tail has one number. So a text has the place among texts that its key has among keys, where the map has it
-- (`text_found`) or where it is put (`text_added`).
use Rattle.std.proofs.Common.{◌≡◌, ℕ, ◌+◌, ◌%◌, Bool, true, false, cond, eqb, not, ◌||◌, Some, None, List, [], ◌∷◌, ◌++◌, length, get_or, take, refl, sym, ap, ◌∙◌, arith, subst, ◌⊎◌, inl, inr, length-append}
use Rattle.std.specs.Prelude.{◌==◌, ◌&&◌}
use Rattle.std.specs.BTreeMap.{BTreeMap, is_at}
use Rattle.std.specs.Map.{lookup}
use Rattle.std.specs.Cmp.Lexicographic.{slice_cmp}
use Rattle.std.specs.Ordering.{is_eq, nat_cmp, ordering_then}
use Rattle.std.specs.declared.cmp.Ordering.{Ordering}
use Rattle.std.specs.declared.cmp.Ordering.TheVariants.{Less, Equal, Greater}
use Rattle.std.proofs.lemmas.Bool.Decides.{nat_tests}
use Rattle.std.proofs.lemmas.Map.Text.{is_eq-slice_cmp}
use Rattle.std.specs.List.{list_any, position_or_len}
use Rattle.std.specs.Option.{unwrap_or}
use Rattle.std.proofs.Math.Seq.{take-append_seam}
use Rattle.std.proofs.lemmas.Bool.{and_from, and_parts, cases_Bool, eq-eqb, eqb-true, ne_eqb}
use Rattle.std.proofs.lemmas.List.{append_cancel_left}
use Rattle.std.proofs.lemmas.List.Folds.{list_any-append, position_or_len_push}
use Rattle.std.proofs.lemmas.Slice.Eq.{bytes_eq-Decides}
use Rattle.psabi_sym.specs.Invariants.Keys.{AreKeys, AreNumberedTexts, AreTails, IsAdded, IsKey, hash_of, first_key_of, same_key}
use Rattle.psabi_sym.specs.Names.{same_name}
use Rattle.psabi_sym.specs.Invariants.Rows.{name_number, with_name}
use Rattle.psabi_sym.specs.declared.key.Key.{Key}
use Rattle.psabi_sym.proofs.NumberLaws.{number_added, position_last, position_within, same_is}

-- keys that are the same have the same hash, rest and part
same_parts : (k l : Key) → same_key k l ≡ true → (k.hash ≡ l.hash) × (k.rest ≡ l.rest) × (k.part.now ≡ l.part.now)
same_parts k l e =
    let first = and_parts (k.hash == l.hash && k.rest == l.rest) (same_name k.part.now l.part.now) e in
    let both = and_parts (k.hash == l.hash) (k.rest == l.rest) first.0 in
    (eqb-true k.hash l.hash both.0, eqb-true k.rest l.rest both.1, same_is k.part.now l.part.now first.1)

same_from : (k l : Key) → k.hash ≡ l.hash → k.rest ≡ l.rest → k.part.now ≡ l.part.now → same_key k l ≡ true
same_from k l hash rest part =
    and_from _ _ (and_from _ _ (eq-eqb k.hash l.hash hash) (eq-eqb k.rest l.rest rest)) ((bytes_eq-Decides k.part.now l.part.now).1 part)

-- the test of two keys doesn't depend on their order
key_swap : (k l : Key) → same_key k l ≡ same_key l k
key_swap k l = by (cases_Bool (same_key k l)) (cases_Bool (same_key l k))
  where
    turned : (k l : Key) → same_key k l ≡ true → same_key l k ≡ true
    turned k l e = let is = same_parts k l e in same_from l k (sym is.0) (sym is.1) (sym is.2)

    by : ((same_key k l ≡ true) ⊎ (same_key k l ≡ false)) → ((same_key l k ≡ true) ⊎ (same_key l k ≡ false)) → same_key k l ≡ same_key l k
    by (inl e) _ = e ∙ sym (turned k l e)
    by (inr e) (inl f) = absurd (cc (e, turned l k f))
    by (inr e) (inr f) = e ∙ sym f

-- the order of keys: by hashes, then by rests, then by parts
abbrev pub key_cmp : Key → Key → Ordering
key_cmp k l = ordering_then (nat_cmp k.hash l.hash) (ordering_then (nat_cmp k.rest l.rest) (slice_cmp nat_cmp k.part.now l.part.now))

-- it tells whether two keys are one
pub order_test : (k : Key) → is_at (key_cmp k) ≡ same_key k
order_test k = λ i l. by (nat_cmp k.hash l.hash) (nat_cmp k.rest l.rest) (slice_cmp nat_cmp k.part.now l.part.now) (number k.hash l.hash) (number k.rest l.rest) (is_eq-slice_cmp k.part.now l.part.now) i
  where
    number : (x y : ℕ) → is_eq (nat_cmp x y) ≡ (x == y)
    number x y = grind (arith, nat_tests)

    last : (b c : Ordering) → is_eq (ordering_then b c) ≡ (is_eq b && is_eq c)
    last Less c = refl
    last Equal c = refl
    last Greater c = refl

    by : (a b c : Ordering) {p q r : Bool} → is_eq a ≡ p → is_eq b ≡ q → is_eq c ≡ r → is_eq (ordering_then a (ordering_then b c)) ≡ (p && q && r)
    by Less b c e f g = λ i. e i && f i && g i
    by Equal b c e f g = last b c ∙ (λ i. e i && f i && g i)
    by Greater b c e f g = λ i. e i && f i && g i

-- the place of a key, with one key more
place_more : (keys : List Key) (k q : Key) → list_any (same_key k) keys ≡ false
    → first_key_of (keys ++ k ∷ []) q ≡ cond (same_key k q) (Some (length keys)) (first_key_of keys q)
place_more keys k q none = by (same_key k q) refl (list_any (same_key q) keys) refl
  where
    at : ℕ
    at = position_or_len (same_key q) keys

    pushed : first_key_of (keys ++ k ∷ []) q
        ≡ cond (list_any (same_key q) keys || (same_key q k || false)) (Some (cond (eqb at (length keys)) (length keys + cond (same_key q k) 0 1) at)) None
    pushed = λ i. cond (list_any-append (same_key q) keys (k ∷ []) i) (Some (position_or_len_push (same_key q) keys k i)) None

    last : (b : Bool) → cond b (length keys + 0) (length keys) ≡ length keys
    last true = omega arith
    last false = refl

    by : (b : Bool) → same_key k q ≡ b → (a : Bool) → list_any (same_key q) keys ≡ a
        → first_key_of (keys ++ k ∷ []) q ≡ cond b (Some (length keys)) (cond a (Some at) None)
    by true e true f =
        let is = same_parts k q e in
        let alike : list_any (same_key k) keys ≡ list_any (same_key q) keys =
        λ i. list_any (λ l. is.0 i == l.hash && is.1 i == l.rest && same_name (is.2 i) l.part.now) keys in
        absurd (cc (none, alike, f))
    by true e false f =
        let here : same_key q k ≡ true = key_swap q k ∙ e in
        let end : at ≡ length keys = position_last (same_key q) keys f in
        pushed
        ∙ (λ i. cond (f i || (here i || false)) (Some (cond (eqb (end i) (length keys)) (length keys + cond (here i) 0 1) (end i))) None)
        ∙ ap Some (last (eqb (length keys) (length keys)))
    by false e true f =
        let there : eqb at (length keys) ≡ false = ne_eqb at (length keys) (λ same. absurd (omega (arith, position_within (same_key q) keys f, same))) in
        pushed ∙ (λ i. cond (f i || (same_key q k || false)) (Some (cond (there i) (length keys + cond (same_key q k) 0 1) at)) None)
    by false e false f =
        pushed
        ∙ (λ i. cond (f i || ((key_swap q k ∙ e) i || false)) (Some (cond (eqb at (length keys)) (length keys + cond (same_key q k) 0 1) at)) None)

-- two texts whose first parts have one length
append_split : (p q s t : List ℕ) → length p ≡ length q → p ++ s ≡ q ++ t → (p ≡ q) × (s ≡ t)
append_split p q s t long same =
    let first : p ≡ q = sym (take-append_seam p s) ∙ ap (λ l. take (length p) l) same ∙ ap (λ n. take n (q ++ t)) long ∙ take-append_seam q t in
    (first, append_cancel_left q s t (ap (λ l. l ++ s) (sym first) ∙ same))

module _ (blocks : ℕ) (tails : List (List ℕ)) (are : AreTails tails) where
  -- the tail of a key has whole blocks
  tail_whole : (k : Key) (t : List ℕ) → IsKey blocks tails k t → length (get_or tails k.rest []) % 64 ≡ 0
  tail_whole k t is = are.whole k.rest [] is.rest

  -- texts that are one have one key
  one_key : (k l : Key) (s t : List ℕ) → IsKey blocks tails k s → IsKey blocks tails l t → s ≡ t → same_key k l ≡ true
  one_key k l s t is js same =
      let a = get_or tails k.rest [] in
      let b = get_or tails l.rest [] in
      let whole : k.part.now ++ a ≡ l.part.now ++ b = sym is.text_is ∙ same ∙ js.text_is in
      let long : length k.part.now ≡ length l.part.now =
      omega (arith, is.part, js.part, tail_whole k s is, tail_whole l t js, ap length whole, length-append k.part.now a, length-append l.part.now b) in
      let parts = append_split k.part.now l.part.now a b long whole in
      let rest : k.rest ≡ l.rest = sym (are.numbered k.rest is.rest) ∙ ap (name_number tails) parts.1 ∙ are.numbered l.rest js.rest in
      same_from k l (is.hash ∙ ap hash_of parts.0 ∙ sym js.hash) rest parts.0

  -- keys that are the same have one text
  one_text : (k l : Key) (s t : List ℕ) → IsKey blocks tails k s → IsKey blocks tails l t → same_key k l ≡ true → s ≡ t
  one_text k l s t is js same =
      let parts = same_parts k l same in
      is.text_is ∙ (λ i. parts.2 i ++ get_or tails (parts.1 i) []) ∙ sym js.text_is

  key_test : (k l : Key) (s t : List ℕ) → IsKey blocks tails k s → IsKey blocks tails l t → same_key k l ≡ same_name s t
  key_test k l s t is js = by (cases_Bool (same_key k l)) (cases_Bool (same_name s t))
    where
      by : ((same_key k l ≡ true) ⊎ (same_key k l ≡ false)) → ((same_name s t ≡ true) ⊎ (same_name s t ≡ false)) → same_key k l ≡ same_name s t
      by (inl e) _ = e ∙ sym ((bytes_eq-Decides s t).1 (one_text k l s t is js e))
      by (inr e) (inl f) = absurd (cc (e, one_key k l s t is js (same_is s t f)))
      by (inr e) (inr f) = e ∙ sym f

  -- there are as many keys as texts
  pub keys-length : (keys : List Key) (texts : List (List ℕ)) → AreKeys blocks tails keys texts → length keys ≡ length texts
  keys-length [] [] all = refl
  keys-length [] (s ∷ texts) all = absurd all
  keys-length (l ∷ keys) [] all = absurd all
  keys-length (l ∷ keys) (s ∷ texts) all = omega (arith, keys-length keys texts all.1)

  any_text : (k : Key) (t : List ℕ) → IsKey blocks tails k t → (keys : List Key) (texts : List (List ℕ)) → AreKeys blocks tails keys texts
      → list_any (same_key k) keys ≡ list_any (same_name t) texts
  any_text k t is [] [] all = refl
  any_text k t is [] (s ∷ texts) all = absurd all
  any_text k t is (l ∷ keys) [] all = absurd all
  any_text k t is (l ∷ keys) (s ∷ texts) all = λ i. key_test k l t s is all.0 i || any_text k t is keys texts all.1 i

  place_of_text : (k : Key) (t : List ℕ) → IsKey blocks tails k t → (keys : List Key) (texts : List (List ℕ)) → AreKeys blocks tails keys texts
      → position_or_len (same_key k) keys ≡ name_number texts t
  place_of_text k t is [] [] all = refl
  place_of_text k t is [] (s ∷ texts) all = absurd all
  place_of_text k t is (l ∷ keys) [] all = absurd all
  place_of_text k t is (l ∷ keys) (s ∷ texts) all =
      λ i. cond (not (key_test k l t s is all.0 i)) (1 + place_of_text k t is keys texts all.1 i) 0

  keys-push : (k : Key) (t : List ℕ) → IsKey blocks tails k t → (keys : List Key) (texts : List (List ℕ)) → AreKeys blocks tails keys texts
      → AreKeys blocks tails (keys ++ k ∷ []) (texts ++ t ∷ [])
  keys-push k t is [] [] all = (is, tt)
  keys-push k t is [] (s ∷ texts) all = absurd all
  keys-push k t is (l ∷ keys) [] all = absurd all
  keys-push k t is (l ∷ keys) (s ∷ texts) all = (all.0, keys-push k t is keys texts all.1)

  module _ (numbers : BTreeMap Key ℕ) (texts : List (List ℕ)) (all : AreNumberedTexts blocks tails numbers texts) (k : Key) (t : List ℕ) (is : IsKey blocks tails k t) where
    -- a text whose key has a number
    pub text_found : (n : ℕ) → lookup (same_key k) numbers.entries ≡ Some n → IsAdded blocks tails texts texts numbers t n
    text_found n found = by (list_any (same_key k) all.keys) refl
      where
        at : ℕ
        at = position_or_len (same_key k) all.keys

        by : (b : Bool) → list_any (same_key k) all.keys ≡ b → IsAdded blocks tails texts texts numbers t n
        by true e =
            let same : n ≡ at = ap (λ o. unwrap_or o n) (sym found ∙ all.places k ∙ ap (λ b. cond b (Some at) None) e) in
            let number = same ∙ place_of_text k t is all.keys texts all.keys_are in
            record {
              numbered = all;
              texts_are = ap (λ b. cond b texts (texts ++ t ∷ [])) (sym e ∙ any_text k t is all.keys texts all.keys_are);
              number_is = number;
              within = omega (arith, same, position_within (same_key k) all.keys e, keys-length all.keys texts all.keys_are);
            }
        by false e = absurd (cc (found, all.places k ∙ ap (λ b. cond b (Some at) None) e))

    -- a text whose key has none
    pub text_added : (numbers' : BTreeMap Key ℕ) (texts' : List (List ℕ)) (n : ℕ) → lookup (same_key k) numbers.entries ≡ None
        → ((q : Key) → lookup (same_key q) numbers'.entries ≡ cond (same_key k q) (Some n) (lookup (same_key q) numbers.entries))
        → texts' ≡ texts ++ t ∷ [] → n ≡ length texts → IsAdded blocks tails texts texts' numbers' t n
    text_added numbers' texts' n none updates texts_are last = by (list_any (same_key k) all.keys) refl
      where
        by : (b : Bool) → list_any (same_key k) all.keys ≡ b → IsAdded blocks tails texts texts' numbers' t n
        by true e = absurd (cc (none, all.places k ∙ ap (λ b. cond b (Some (position_or_len (same_key k) all.keys)) None) e))
        by false e =
            let absent : list_any (same_name t) texts ≡ false = sym (any_text k t is all.keys texts all.keys_are) ∙ e in
            let added : texts' ≡ with_name texts t = texts_are ∙ ap (λ b. cond b texts (texts ++ t ∷ [])) (sym absent) in
            let end : n ≡ length all.keys = omega (arith, last, keys-length all.keys texts all.keys_are) in
            record {
              numbered = record {
                keys = all.keys ++ k ∷ [];
                keys_are = subst (λ ts. AreKeys blocks tails (all.keys ++ k ∷ []) ts) (sym texts_are) (keys-push k t is all.keys texts all.keys_are);
                places = λ q. updates q ∙ (λ i. cond (same_key k q) (Some (end i)) (all.places q i)) ∙ sym (place_more all.keys k q e);
              };
              texts_are = added;
              number_is = last ∙ sym (position_last (same_name t) texts absent) ∙ sym (number_added texts t) ∙ ap (λ l. name_number l t) (sym added);
              within = omega (arith, last, ap length texts_are, length-append texts (t ∷ []));
            }
