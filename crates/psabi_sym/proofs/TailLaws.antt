-- Laws of tails. Tails keep their numbers as more are added (`tails_more`, `extends_with`), so keys and ends stay those of the
-- same texts (`numbered_extend`, `end_extends`). From the end of a name at the next byte follows that at this one: the name is longer
-- by the byte (`name_step`), and its tail is the same (`end_more`), or a block and that tail (`block_key`), which is then numbered
-- (`block_added`).
use Rattle.std.proofs.Common.{◌≡◌, ℕ, ◌+◌, ◌-◌, ◌%◌, ◌<◌, ◌≤◌, ◌≢◌, Bool, true, false, cond, eqb, not, ◌||◌, List, [], ◌∷◌, ◌++◌, suc, length, get_or, take, drop, refl, sym, ap, ◌∙◌, arith, ◌⊎◌, inl, inr, Bor, length-append, length-take, length-drop, add-one, subst}
use Rattle.std.specs.Prelude.{◌==◌}
use Rattle.std.specs.BTreeMap.{BTreeMap}
use Rattle.std.specs.List.{list_any, prefix_len, take_while}
use Rattle.std.proofs.Math.Seq.{drop-cons, get_or-append_seam}
use Rattle.std.proofs.lemmas.Bool.{cases_lt, ne_eqb}
use Rattle.std.proofs.lemmas.List.{drop_all, get_or-append-add, get_or_append_left, take-append-drop}
use Rattle.std.proofs.lemmas.List.Elements.{All-push}
use Rattle.std.proofs.lemmas.List.Sums.{prefix_len-le-length, take_while-cons}
use Rattle.elf32_read.specs.Names.{name_at}
use Rattle.psabi_sym.specs.Invariants.Keys.{AreKeys, AreNameEnds, AreNumberedTexts, AreTails, AreTextBlocks, Extends, IsAdded, IsEnd, IsKey, hash_of, lent, tails_of}
use Rattle.psabi_sym.specs.Names.{same_name}
use Rattle.psabi_sym.specs.Invariants.Rows.{name_number, with_name}
use Rattle.psabi_sym.specs.declared.key.Key.{Key}
use Rattle.psabi_sym.specs.declared.name_ends.NameEnd.{NameEnd}
use Rattle.psabi_sym.proofs.NumberLaws.{number_added, number_kept, position_last, same_is}

-- ---- numbers

-- the name with a number is at that number
pub number_get : (names : List (List ℕ)) (t d : List ℕ) → name_number names t < length names → get_or names (name_number names t) d ≡ t
number_get [] t d within = absurd (omega arith)
number_get (x ∷ xs) t d within = by (same_name t x) refl (number_get xs t d)
  where
    by : (b : Bool) → same_name t x ≡ b → (name_number xs t < length xs → get_or xs (name_number xs t) d ≡ t) → get_or (x ∷ xs) (name_number (x ∷ xs) t) d ≡ t
    by true e rest = ap (λ b. get_or (x ∷ xs) (cond (not b) (1 + name_number xs t) 0) d) e ∙ sym (same_is t x e)
    by false e rest =
        ap (λ b. get_or (x ∷ xs) (cond (not b) (1 + name_number xs t) 0) d) e
        ∙ get_or-append-add (x ∷ []) xs (name_number xs t) d
        ∙ rest (omega (arith, within, ap (λ b. cond (not b) (1 + name_number xs t) 0) e))

-- ---- more tails

pub extends_with : (tails : List (List ℕ)) (t : List ℕ) → Extends tails (with_name tails t)
extends_with tails t = by (list_any (same_name t) tails)
  where
    by : (b : Bool) → Extends tails (cond b tails (tails ++ t ∷ []))
    by true = record { longer = omega arith; kept = λ k within. refl }
    by false = record { longer = omega (arith, length-append tails (t ∷ [])); kept = λ k within. get_or_append_left tails (t ∷ []) [] k within }

pub tails_more : (tails : List (List ℕ)) (t : List ℕ) → AreTails tails → length t % 64 ≡ 0 → AreTails (with_name tails t)
tails_more tails t are whole = by (list_any (same_name t) tails) refl
  where
    more : List (List ℕ)
    more = tails ++ t ∷ []

    by : (b : Bool) → list_any (same_name t) tails ≡ b → AreTails (cond b tails more)
    by true e = are
    by false e = record {
      whole = All-push (λ tail. length tail % 64 ≡ 0) tails t are.whole whole;
      numbered = λ k within. at k within (cases_lt k (length tails));
    }
      where
        grown : with_name tails t ≡ more
        grown = ap (λ b. cond b tails more) e

        at : (k : ℕ) → k < length more → ((k < length tails) ⊎ (length tails ≤ k)) → name_number more (get_or more k []) ≡ k
        at k within (inl old) =
            let here = get_or_append_left tails (t ∷ []) [] k old in
            let number = are.numbered k old in
            ap (name_number more) here ∙ ap (λ l. name_number l (get_or tails k [])) (sym grown)
            ∙ number_kept tails t (get_or tails k []) (omega (arith, number, old)) ∙ number
        at k within (inr new) =
            let last : k ≡ length tails = omega (arith, new, within, length-append tails (t ∷ [])) in
            ap (λ n. name_number more (get_or more n [])) last ∙ ap (name_number more) (get_or-append_seam tails t [] [])
            ∙ ap (λ l. name_number l t) (sym grown) ∙ number_added tails t ∙ position_last (same_name t) tails e ∙ sym last

pub extends_trans : {a b c : List (List ℕ)} → Extends a b → Extends b c → Extends a c
extends_trans {a} {b} {c} first second = record {
  longer = omega (arith, first.longer, second.longer);
  kept = λ k within. second.kept k (omega (arith, within, first.longer)) ∙ first.kept k within;
}

pub extends_same : (a : List (List ℕ)) → Extends a a
extends_same a = record { longer = omega arith; kept = λ k within. refl }

keys_extend : (blocks : ℕ) (tails tails' : List (List ℕ)) → Extends tails tails' → (keys : List Key) (texts : List (List ℕ)) → AreKeys blocks tails keys texts → AreKeys blocks tails' keys texts
keys_extend blocks tails tails' more [] [] all = tt
keys_extend blocks tails tails' more [] (t ∷ texts) all = absurd all
keys_extend blocks tails tails' more (k ∷ keys) [] all = absurd all
keys_extend blocks tails tails' more (k ∷ keys) (t ∷ texts) all = (
  record {
    hash = all.0.hash;
    part = all.0.part;
    rest = omega (arith, all.0.rest, more.longer);
    text_is = all.0.text_is ∙ ap (λ l. k.part.now ++ l) (sym (more.kept k.rest all.0.rest));
  },
  keys_extend blocks tails tails' more keys texts all.1,
)

pub numbered_extend : (blocks : ℕ) (tails tails' : List (List ℕ)) → Extends tails tails' → (numbers : BTreeMap Key ℕ) (texts : List (List ℕ)) → AreNumberedTexts blocks tails numbers texts → AreNumberedTexts blocks tails' numbers texts
numbered_extend blocks tails tails' more numbers texts all = record {
  keys = all.keys;
  keys_are = keys_extend blocks tails tails' more all.keys texts all.keys_are;
  places = all.places;
}

pub end_extends : (tails tails' : List (List ℕ)) (name : List ℕ) (end : NameEnd) → Extends tails tails' → IsEnd tails name end → IsEnd tails' name end
end_extends tails tails' name end more is = record {
  length_is = is.length_is;
  tail = omega (arith, is.tail, more.longer);
  tail_is = more.kept end.tail is.tail ∙ is.tail_is;
}

-- ---- a byte more

-- the bytes of a name are those from where it begins
pub name_prefix : (table : List ℕ) (at : ℕ) → name_at table at ≡ take (length (name_at table at)) (drop at table)
name_prefix table at =
    let more : ℕ → Bool = λ byte. not (byte == 0) in
    let l = drop at table in
    let n = prefix_len more l in
    let long : length (take n l) ≡ n = length-take n l ∙ omega (arith, prefix_len-le-length more l) in
    ap (λ k. take k l) (sym long)

pub name_slice : (table : List ℕ) (at n : ℕ) → n ≡ length (name_at table at) → take (at + n - at) (drop at table) ≡ name_at table at
name_slice table at n long = let count : at + n - at ≡ length (name_at table at) = omega (arith, long) in ap (λ k. take k (drop at table)) count ∙ sym (name_prefix table at)

-- the name lies in the table
pub name_within : (table : List ℕ) (at : ℕ) → at ≤ length table → at + length (name_at table at) ≤ length table
name_within table at within =
    let more : ℕ → Bool = λ byte. not (byte == 0) in
    let l = drop at table in
    omega (arith, within, length-take (prefix_len more l) l, prefix_len-le-length more l, length-drop at table)

-- nothing begins at the end
pub name_past : (table : List ℕ) (at : ℕ) → length table ≤ at → name_at table at ≡ []
name_past table at past = ap (take_while (λ byte. not (byte == 0))) (drop_all at table past)

pub name_step : (table : List ℕ) (at : ℕ) → at < length table → get_or table at 0 ≢ 0 → name_at table at ≡ get_or table at 0 ∷ name_at table (at + 1)
name_step table at within some =
    let more : ℕ → Bool = λ byte. not (byte == 0) in
    let x = get_or table at 0 in
    ap (take_while more) (drop-cons table at 0 within) ∙ take_while-cons more x (drop (suc at) table)
    ∙ ap (λ b. cond (not b) (x ∷ take_while more (drop (suc at) table)) []) (ne_eqb x 0 some)
    ∙ ap (λ n. x ∷ take_while more (drop n table)) (sym (add-one at))

-- the name that begins at a zero has no bytes
pub name_none : (table : List ℕ) (at : ℕ) → at < length table → get_or table at 0 ≡ 0 → name_at table at ≡ []
name_none table at within none =
    let more : ℕ → Bool = λ byte. not (byte == 0) in
    ap (take_while more) (drop-cons table at 0 within) ∙ take_while-cons more (get_or table at 0) (drop (suc at) table)
    ∙ ap (λ x. cond (not (eqb x 0)) (x ∷ take_while more (drop (suc at) table)) []) none

module _ (tails : List (List ℕ)) (x : ℕ) (name name' : List ℕ) (step : name ≡ x ∷ name') (next : NameEnd) (is : IsEnd tails name' next) where
  -- the tail of a longer name
  tail_from : (n : ℕ) → n ≡ next.length % 64 + 1 → get_or tails next.tail [] ≡ drop n name
  tail_from n long =
      is.tail_is ∙ ap (λ k. drop k (x ∷ name')) (sym (add-one (next.length % 64)) ∙ sym long) ∙ ap (drop n) (sym step)

  pub end_more : (next.length + 1) % 64 ≢ 0 → IsEnd tails name (record { length = next.length + 1; tail = next.tail })
  end_more some = record {
    length_is = omega (arith, ap length step, is.length_is);
    tail = is.tail;
    tail_is = tail_from ((next.length + 1) % 64) (omega (arith, some));
  }

  pub block_key : (next.length + 1) % 64 ≡ 0 → (key : Key) (text : List ℕ) → text ≡ name → key.hash ≡ hash_of key.part.now → key.part.now ≡ take 64 text → key.rest ≡ next.tail → IsKey 1 tails key text
  block_key none key text same hash part rest =
      let long : 64 ≤ length text = omega (arith, none, ap length same, ap length step, is.length_is) in
      record {
        hash = hash;
        part = omega (arith, ap length part, length-take 64 text, long);
        rest = omega (arith, rest, is.tail);
        text_is =
            sym (take-append-drop 64 text)
            ∙ (λ i. sym part i ++ (ap (drop 64) same ∙ sym (tail_from 64 (omega (arith, none))) ∙ ap (λ n. get_or tails n []) (sym rest)) i);
      }

-- a block is numbered
module _ (numbers numbers' : BTreeMap Key ℕ) (texts texts' : List (Bor (List ℕ))) (are : AreTextBlocks numbers texts) (x : ℕ) (name name' : List ℕ) (step : name ≡ x ∷ name') (whole : length name % 64 ≡ 0) (n : ℕ) (is : IsAdded 1 (tails_of texts) (lent texts) (lent texts') numbers' name n) where
  grown : tails_of texts' ≡ with_name (tails_of texts) name
  grown = ap (λ l. [] ∷ l) is.texts_are ∙ subst (λ t. [] ∷ with_name (lent texts) t ≡ with_name (tails_of texts) t) (sym step) (by (list_any (same_name (x ∷ name')) (lent texts)))
    where
      by : (b : Bool) → [] ∷ cond b (lent texts) (lent texts ++ (x ∷ name') ∷ []) ≡ cond (false || b) ([] ∷ lent texts) ([] ∷ lent texts ++ (x ∷ name') ∷ [])
      by true = refl
      by false = refl

  pub block_extends : Extends (tails_of texts) (tails_of texts')
  block_extends = subst (λ t. Extends (tails_of texts) t) (sym grown) (extends_with (tails_of texts) name)

  pub block_added : AreTextBlocks numbers' texts'
  block_added = record {
    tails = subst AreTails (sym grown) (tails_more (tails_of texts) name are.tails whole);
    numbered = numbered_extend 1 (tails_of texts) (tails_of texts') block_extends numbers' (lent texts') is.numbered;
  }

  pub block_end : (long : ℕ) → long ≡ length name → IsEnd (tails_of texts') name (record { length = long; tail = n + 1 })
  block_end long same =
      let next : n + 1 ≡ 1 + n = omega arith in
      let here : get_or (tails_of texts') (n + 1) [] ≡ name =
      ap (λ k. get_or (tails_of texts') k []) next ∙ get_or-append-add ([] ∷ []) (lent texts') n []
      ∙ ap (λ k. get_or (lent texts') k []) is.number_is ∙ number_get (lent texts') name [] (omega (arith, is.number_is, is.within)) in
      record {
        length_is = same;
        tail = omega (arith, is.within);
        tail_is = let none : long % 64 ≡ 0 = omega (arith, same, whole) in here ∙ sym (ap (λ k. drop k name) none);
      }

-- a name of a table has a key
pub end_key : (tails : List (List ℕ)) (name : List ℕ) (end : NameEnd) → IsEnd tails name end → (key : Key) (text : List ℕ) → text ≡ name → key.hash ≡ hash_of key.part.now → key.part.now ≡ take (end.length % 64) text → key.rest ≡ end.tail → IsKey 0 tails key text
end_key tails name end is key text same hash part rest = record {
  hash = hash;
  part = omega (arith, ap length part, length-take (end.length % 64) text, ap length same, is.length_is);
  rest = omega (arith, rest, is.tail);
  text_is =
      sym (take-append-drop (end.length % 64) text)
      ∙ (λ i. sym part i ++ (ap (drop (end.length % 64)) same ∙ sym is.tail_is ∙ ap (λ n. get_or tails n []) (sym rest)) i);
}

-- the name's end lies in the table
pub ends_within : (texts : List (Bor (List ℕ))) (table : List ℕ) (ends : List NameEnd) → AreNameEnds texts table ends → (at : ℕ) (d : NameEnd) → at < length table → at + (get_or ends at d).length ≤ length table
ends_within texts table ends are at d inside = let within : at ≤ length table = omega (arith, inside) in omega (arith, name_within table at within, (are.each at d inside).length_is)
