-- Names that are told apart by a part of a bounded length and the number of the rest, so that names that end alike aren't read
-- whole.
use Rattle.std.specs.Borrow.{Bor}
use Rattle.std.specs.Prelude.{◌≡◌, ◌+◌, ◌/◌, ◌%◌, ◌^◌, ◌<◌, ◌≤◌, ◌==◌, ◌&&◌, ℕ, Bool, if◌then◌else◌, Option, Some, None, List, [], ◌∷◌, ◌++◌, length, map, drop, All, slice_index_or}
use Rattle.std.specs.BTreeMap.{BTreeMap}
use Rattle.std.specs.Hash.{slice, u8}
use Rattle.std.specs.Hash.FoldHasher.{finish, initial, write}
use Rattle.std.specs.List.{fold, list_any, position_or_len}
use Rattle.std.specs.Map.{lookup}
use Rattle.elf32_read.specs.Names.{name_at}
use Rattle.psabi_sym.specs.Names.{same_name}
use Rattle.psabi_sym.specs.Invariants.Rows.{name_number, with_name}
use Rattle.psabi_sym.specs.declared.key.Key.{Key}
use Rattle.psabi_sym.specs.declared.name_ends.NameEnd.{NameEnd}
use Rattle.psabi_sym.specs.declared.names.Names.{Names}
use Rattle.psabi_sym.specs.declared.texts.Texts.{Texts}

-- what is lent
abbrev pub lent : List (Bor (List ℕ)) → List (List ℕ)
lent texts = map (λ text. text.now) texts

-- tails have whole blocks of 64 bytes, and each one number; number 0 is that of the empty one
pub record AreTails (tails : List (List ℕ)) : Type 0 where
  pub whole : All (λ tail. length tail % 64 ≡ 0) tails
  pub numbered : (k : ℕ) → k < length tails → name_number tails (slice_index_or tails k []) ≡ k

-- the hash of a part, by which keys are ordered first: the upper half of 64 bits
abbrev pub hash_of : List ℕ → ℕ
hash_of part = finish (fold write initial (slice u8 part)) / 2 ^ 32

-- two keys are one
abbrev pub same_key : Key → Key → Bool
same_key k l = k.hash == l.hash && k.rest == l.rest && same_name k.part.now l.part.now

-- the key is that of a text: a part with `blocks` whole blocks, and then a tail
pub record IsKey (blocks : ℕ) (tails : List (List ℕ)) (key : Key) (text : List ℕ) : Type 0 where
  pub hash : key.hash ≡ hash_of key.part.now
  pub part : length key.part.now / 64 ≡ blocks
  pub rest : key.rest < length tails
  pub text_is : text ≡ key.part.now ++ slice_index_or tails key.rest []

-- the keys are those of the texts, in order
abbrev pub AreKeys : ℕ → List (List ℕ) → List Key → List (List ℕ) → Type 0
AreKeys blocks tails [] [] = Unit {0}
AreKeys blocks tails (key ∷ keys) (text ∷ texts) = IsKey blocks tails key text × AreKeys blocks tails keys texts
AreKeys blocks tails [] (text ∷ texts) = ⊥
AreKeys blocks tails (key ∷ keys) [] = ⊥

-- the place of a key among keys
abbrev pub first_key_of : List Key → Key → Option ℕ
first_key_of keys k = if list_any (same_key k) keys then Some (position_or_len (same_key k) keys) else None

-- each text has a key, and the map has the place of each key among these
pub record AreNumberedTexts (blocks : ℕ) (tails : List (List ℕ)) (numbers : BTreeMap Key ℕ) (texts : List (List ℕ)) : Type 0 where
  pub keys : List Key
  pub keys_are : AreKeys blocks tails keys texts
  pub places : (k : Key) → lookup (same_key k) numbers.entries ≡ first_key_of keys k

-- the text has this number among the texts; it is the last one if it wasn't there before
pub record IsAdded (blocks : ℕ) (tails before after : List (List ℕ)) (numbers : BTreeMap Key ℕ) (text : List ℕ) (n : ℕ) : Type 0 where
  pub numbered : AreNumberedTexts blocks tails numbers after
  pub texts_are : after ≡ with_name before text
  pub number_is : n ≡ name_number after text
  pub within : n < length after

-- the blocks' texts are the tails but for the empty one, with keys of one block and a tail
abbrev pub tails_of : List (Bor (List ℕ)) → List (List ℕ)
tails_of texts = [] ∷ lent texts

pub record AreTextBlocks (numbers : BTreeMap Key ℕ) (texts : List (Bor (List ℕ))) : Type 0 where
  pub tails : AreTails (tails_of texts)
  pub numbered : AreNumberedTexts 1 (tails_of texts) numbers (lent texts)

-- tails that were there keep their numbers
pub record Extends (before after : List (List ℕ)) : Type 0 where
  pub longer : length before ≤ length after
  pub kept : (k : ℕ) → k < length before → slice_index_or after k [] ≡ slice_index_or before k []

-- after more tails were put in, at most `most` of them
pub record HaveMoreTexts (before after : Texts) (most : ℕ) : Type 0 where
  pub are : AreTextBlocks after.numbers after.texts.items
  pub more : Extends (tails_of before.texts.items) (tails_of after.texts.items)
  pub room : length after.texts.items ≤ length before.texts.items + most

-- how long a name is, and the number of its longest tail
pub record IsEnd (tails : List (List ℕ)) (name : List ℕ) (end : NameEnd) : Type 0 where
  pub length_is : end.length ≡ length name
  pub tail : end.tail < length tails
  pub tail_is : slice_index_or tails end.tail [] ≡ drop (end.length % 64) name

-- the ends of the names that begin at each byte of a table
pub record AreNameEnds (texts : List (Bor (List ℕ))) (table : List ℕ) (ends : List NameEnd) : Type 0 where
  pub count : length ends ≡ length table
  pub each : (k : ℕ) (d : NameEnd) → k < length table → IsEnd (tails_of texts) (name_at table k) (slice_index_or ends k d)

-- the ends of those names that have a block or more; a table without such names may have no ends
pub record AreLongEnds (texts : List (Bor (List ℕ))) (table : List ℕ) (ends : List NameEnd) : Type 0 where
  pub each : (k : ℕ) (d : NameEnd) → k < length table → 64 ≤ length (name_at table k)
      → (k < length ends) × IsEnd (tails_of texts) (name_at table k) (slice_index_or ends k d)

-- names that were numbered, in the order of their numbers
abbrev pub names_of : Names → List (List ℕ)
names_of names = lent names.names.texts.items

-- the names have keys of less than a block, and a tail
pub record AreNames (names : Names) : Type 0 where
  pub tails : AreTextBlocks names.tails.numbers names.tails.texts.items
  pub numbered : AreNumberedTexts 0 (tails_of names.tails.texts.items) names.names.numbers (names_of names)

-- the same names, with at most `most` more tails
pub record HaveRead (before after : Names) (most : ℕ) : Type 0 where
  pub are : AreNames after
  pub names : names_of after ≡ names_of before
  pub room : length after.tails.texts.items ≤ length before.tails.texts.items + most

-- names with one more, if it is new, over the same tails
pub record HaveAdded (before after : Names) (name : List ℕ) : Type 0 where
  pub are : AreNames after
  pub names : names_of after ≡ with_name (names_of before) name
  pub tails : after.tails ≡ before.tails
