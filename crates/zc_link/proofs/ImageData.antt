-- Words of data over the bytes that files hold: in the image, and in the program's first memory. So each byte of this stands for
-- that of the image.
use Rattle.std.proofs.Common.{◌≡◌, ℕ, zero, suc, ◌+◌, ◌-◌, ◌<◌, ◌≤◌, ◌⊎◌, inl, inr, List, [], ◌∷◌, ◌++◌, map, length, replicate, take, drop, get_or, Option, Some, None, true, false, refl, sym, ap, ◌∙◌, subst, arith, append_assoc, length-append}
use Rattle.std.specs.Prelude.{All}
use Rattle.std.specs.List.{fold}
use Rattle.std.specs.Option.{unwrap_or}
use Rattle.std.proofs.lemmas.Bool.{cases_lt}
use Rattle.std.proofs.lemmas.List.{drop-append-le, get_or-append-add, get_or-drop, get_or-map, get_or-take, get_or_append_left, length-map, length-take-le, take-append-le, take_all}
use Rattle.std.proofs.lemmas.List.Elements.{All-get_or, All-head, All-tail}
use Rattle.std.proofs.lemmas.List.Sums.{fold_more}
use Rattle.zc_base.specs.Fields.{with_word, word_bytes}
use Rattle.zc_base.specs.declared.place.Place.{Place}
use Rattle.psabi_reloc.specs.Kinds.{kind_of}
use Rattle.psabi_reloc.specs.declared.kind.RelocKind.{RelocKind}
use Rattle.psabi_reloc.specs.declared.kind.RelocKind.TheVariants as kind
use Rattle.psabi_sym.specs.Contents.{data_contents, overlaid}
use Rattle.psabi_sym.specs.Data.{data_end, data_file_end}
use Rattle.psabi_sym.specs.Inputs.{Inputs, ParsedInputs, parsed}
use Rattle.psabi_sym.specs.declared.target.Target.{Target}
use Rattle.psabi_sym.specs.declared.target.Target.TheVariants as target
use Rattle.psabi_sym.proofs.ContentLaws.{length-data_contents, length-overlaid}
use Rattle.block_cut.specs.DataWords.{data_words}
use Rattle.block_cut.specs.Faults.{first_fault}
use Rattle.block_cut.specs.Items.{target_of}
use Rattle.block_cut.specs.Relocs.{is_ignored, is_word}
use Rattle.block_cut.proofs.ListedLaws.{listed}
use Rattle.block_cut.specs.declared.data_word.DataWord.{DataWord}
use Rattle.sym_machine.specs.AddressParts.{bytes_of, target_word}
use Rattle.sym_machine.specs.Objects.{data_bytes}
use Rattle.sym_machine.specs.declared.word.SymByte.{SymByte}
use Rattle.sym_machine.specs.declared.word.SymByte.TheVariants.{Num, Undef}
use Rattle.sym_machine.specs.declared.word.Value.{Value}
use Rattle.sym_machine.specs.declared.word.Value.TheVariants as value
use Rattle.zc_link.specs.LaidOut.{ListsLeaders}
use Rattle.moved_runs.specs.Named.{IsNamedTarget}
use Rattle.zc_link.specs.ImageParts.{data_value, image_data, with_data_word}
use Rattle.zc_link.specs.Standing.{HasValue}
use Rattle.moved_runs.specs.Leads.{IsNamed}
use Rattle.zc_link.specs.Sound.{NamesByte}
use Rattle.zc_link.specs.Stands.{ByteStands}
use Rattle.zc_link.specs.Values.{target_value}
use Rattle.moved_runs.proofs.Faultless.{target_good}
use Rattle.zc_link.proofs.Faultless.{reloc_value}
use Rattle.moved_runs.proofs.Led.{AsksIn, leader_named, reloc_leader}
use Rattle.zc_link.proofs.Within.{IsWithin, all_words, content_within, word_field, words_within}

-- ---- one list over another

-- a word that is written is one that lies over the bytes
pub word_overlaid : (bytes : List ℕ) (at v : ℕ) → at + 4 ≤ length bytes → with_word bytes at v ≡ overlaid at (word_bytes v) bytes
unfolding with_word
word_overlaid bytes at v within =
    let whole : take (length bytes - at) (word_bytes v) ≡ word_bytes v = take_all (length bytes - at) (word_bytes v) (omega arith) in
    ap (λ l. take at bytes ++ (l ++ drop (at + 4) bytes)) (sym whole)

module _ {X : Type 0} (at : ℕ) (new old : List X) (within : at + length new ≤ length old) where
  whole_over : overlaid at new old ≡ take at old ++ (new ++ drop (at + length new) old)
  whole_over = ap (λ l. take at old ++ (l ++ drop (at + length new) old)) (take_all (length old - at) new (omega arith))

  front : length (take at old) ≡ at
  front = length-take-le at old (omega arith)

  -- what is found before it, in it, and after it
  pub over_before : (k : ℕ) (d : X) → k < at → get_or (overlaid at new old) k d ≡ get_or old k d
  over_before k d lt =
      ap (λ l. get_or l k d) whole_over ∙ get_or_append_left (take at old) (new ++ drop (at + length new) old) d k (omega (arith, front, lt)) ∙ get_or-take at old k d lt

  pub over_there : (j : ℕ) (d : X) → j < length new → get_or (overlaid at new old) (at + j) d ≡ get_or new j d
  over_there j d lt =
      let index : at + j ≡ length (take at old) + j = omega (arith, front) in
      ap (λ l. get_or l (at + j) d) whole_over ∙ ap (λ k. get_or (take at old ++ (new ++ drop (at + length new) old)) k d) index
      ∙ get_or-append-add (take at old) (new ++ drop (at + length new) old) j d ∙ get_or_append_left new (drop (at + length new) old) d j lt

  pub over_after : (j : ℕ) (d : X) → get_or (overlaid at new old) (at + length new + j) d ≡ get_or old (at + length new + j) d
  over_after j d =
      let index : at + length new + j ≡ length (take at old) + (length new + j) = omega (arith, front) in
      ap (λ l. get_or l (at + length new + j) d) whole_over ∙ ap (λ k. get_or (take at old ++ (new ++ drop (at + length new) old)) k d) index
      ∙ get_or-append-add (take at old) (new ++ drop (at + length new) old) (length new + j) d ∙ get_or-append-add new (drop (at + length new) old) j d
      ∙ get_or-drop (at + length new) old j d

  -- more after the old list stays after it
  pub over_append : (more : List X) → overlaid at new (old ++ more) ≡ overlaid at new old ++ more
  over_append more =
      let longer : at + length new ≤ length (old ++ more) = omega (arith, within, length-append old more) in
      let all : take (length (old ++ more) - at) new ≡ new = take_all (length (old ++ more) - at) new (omega (arith, longer)) in
      ap (λ l. take at (old ++ more) ++ (l ++ drop (at + length new) (old ++ more))) all
      ∙ (λ j. take-append-le at old more (omega arith) j ++ (new ++ drop-append-le (at + length new) old more within j))
      ∙ ap (λ l. take at old ++ l) (sym (append_assoc new (drop (at + length new) old) more))
      ∙ sym (append_assoc (take at old) (new ++ drop (at + length new) old) more)
      ∙ ap (λ l. l ++ more) (sym whole_over)

-- ---- words over bytes

module _ (p : ParsedInputs) (A : Place → Option ℕ) where
  -- the length stays
  pub length-filled : (ws : List DataWord) (bytes : List ℕ) → length (fold (with_data_word p A) bytes ws) ≡ length bytes
  length-filled [] bytes = refl
  length-filled (w ∷ ws) bytes = length-filled ws (with_data_word p A bytes w) ∙ length-overlaid (w.at - p.map.data_low) (word_bytes (data_value A w)) bytes

  pub length-image_data : length (image_data p A) ≡ data_file_end p - p.map.data_low
  unfolding image_data
  length-image_data = length-filled (data_words p) (data_contents p) ∙ length-data_contents p

  -- words are filled in the same if zeros follow the bytes
  filled_append : (ws : List DataWord) (bytes more : List ℕ) → All (IsWithin p) ws → length bytes ≡ data_file_end p - p.map.data_low → fold (with_data_word p A) bytes ws ++ more ≡ fold (with_data_word p A) (bytes ++ more) ws
  filled_append [] bytes more within size = refl
  filled_append (w ∷ ws) bytes more within size =
      let here = All-head (IsWithin p) w ws within in
      let at = w.at - p.map.data_low in
      let v = word_bytes (data_value A w) in
      filled_append ws (with_data_word p A bytes w) more (All-tail (IsWithin p) w ws within) (length-overlaid at v bytes ∙ size)
      ∙ ap (λ b. fold (with_data_word p A) b ws) (sym (over_append at v bytes (omega (arith, here.0, here.1, size)) more))

-- the program's bytes with those of a target's word over them
abbrev with_target_word : ParsedInputs → List SymByte → DataWord → List SymByte
with_target_word inputs bytes w = overlaid (w.at - inputs.map.data_low) (bytes_of (target_word w.target)) bytes

-- ---- bytes that stand for others

module _ (p : ParsedInputs) (A : Place → Option ℕ) (Named : Place → Type 0) (V : Value → Option ℕ) (place : (q : Place) → V (value.Code q) ≡ A q) where
  -- a byte stands for another, and names what a program may name
  abbrev Fine : SymByte → ℕ → Type 0
  Fine s b = ByteStands V s b × NamesByte Named s

  -- two lists, byte by byte
  pub record AreFine (ss : List SymByte) (bs : List ℕ) : Type 0 where
    pub same : length ss ≡ length bs
    pub each : (k : ℕ) → k < length bs → Fine (get_or ss k Undef) (get_or bs k 0)

  -- the bytes of numbers
  numbers_fine : (bs : List ℕ) → AreFine (map Num bs) bs
  numbers_fine bs = record {
    same = length-map bs Num;
    each = λ k lt. subst (λ s. Fine s (get_or bs k 0)) (sym (get_or-map Num bs k 0 Undef lt)) (refl, tt);
  }

  -- the bytes of a target that is a number
  number_fine : (x n : ℕ) → x ≡ n → AreFine (bytes_of (target_word (target.Number n))) (word_bytes x)
  number_fine x n same = record { same = refl; each = byte }
    where
      byte : (k : ℕ) → k < 4 → Fine (get_or (bytes_of (target_word (target.Number n))) k Undef) (get_or (word_bytes x) k 0)
      byte zero lt = (omega arith, tt)
      byte (suc zero) lt = (omega arith, tt)
      byte (suc (suc zero)) lt = (omega arith, tt)
      byte (suc (suc (suc zero))) lt = (omega arith, tt)
      byte (suc (suc (suc (suc k)))) lt = absurd (omega arith)

  code_fine : (x : ℕ) (q : Place) → A q ≡ Some x → Named q → AreFine (bytes_of (target_word (target.Code q))) (word_bytes x)
  code_fine x q at named = record { same = refl; each = byte }
    where
      byte : (k : ℕ) → k < 4 → Fine (get_or (bytes_of (target_word (target.Code q))) k Undef) (get_or (word_bytes x) k 0)
      byte zero lt = ((x, place q ∙ at, omega arith), named)
      byte (suc zero) lt = ((x, place q ∙ at, omega arith), named)
      byte (suc (suc zero)) lt = ((x, place q ∙ at, omega arith), named)
      byte (suc (suc (suc zero))) lt = ((x, place q ∙ at, omega arith), named)
      byte (suc (suc (suc (suc k)))) lt = absurd (omega arith)

  target_fine : (t : Target) → HasValue A t → IsNamedTarget Named t → AreFine (bytes_of (target_word t)) (word_bytes (unwrap_or (target_value A t) 0))
  target_fine (target.Code q) has named = code_fine (unwrap_or (A q) 0) q (has.1 ∙ ap Some (sym (ap (λ o. unwrap_or o 0) has.1))) named
  target_fine (target.Number n) has named = number_fine n n refl
  target_fine (target.Absent n) has named = number_fine n n refl
  target_fine target.Nowhere has named = absurd (let no = has.1 in cc)

  -- bytes that are put over others
  over_fine : (at : ℕ) (ss new_s : List SymByte) (bs new_b : List ℕ) → at + length new_b ≤ length bs → AreFine ss bs → AreFine new_s new_b → AreFine (overlaid at new_s ss) (overlaid at new_b bs)
  over_fine at ss new_s bs new_b within old new = record {
    same = length-overlaid at new_s ss ∙ old.same ∙ sym (length-overlaid at new_b bs);
    each = λ k lt. by k (omega (arith, lt, length-overlaid at new_b bs)) (cases_lt k at) (cases_lt k (at + length new_b));
  }
    where
      within_s : at + length new_s ≤ length ss
      within_s = omega (arith, within, old.same, new.same)

      by : (k : ℕ) → k < length bs → (k < at) ⊎ (at ≤ k) → (k < at + length new_b) ⊎ (at + length new_b ≤ k) → Fine (get_or (overlaid at new_s ss) k Undef) (get_or (overlaid at new_b bs) k 0)
      by k lt (inl low) other =
          subst (λ s. Fine s (get_or (overlaid at new_b bs) k 0)) (sym (over_before at new_s ss within_s k Undef low))
          (subst (Fine (get_or ss k Undef)) (sym (over_before at new_b bs within k 0 low)) (old.each k lt))
      by k lt (inr from) (inl inside) =
          let j = k - at in
          let index : at + j ≡ k = omega arith in
          let short : j < length new_b = omega arith in
          let short_s : j < length new_s = omega (arith, short, new.same) in
          subst (λ i. Fine (get_or (overlaid at new_s ss) i Undef) (get_or (overlaid at new_b bs) i 0)) index
          (subst (λ s. Fine s (get_or (overlaid at new_b bs) (at + j) 0)) (sym (over_there at new_s ss within_s j Undef short_s))
          (subst (Fine (get_or new_s j Undef)) (sym (over_there at new_b bs within j 0 short)) (new.each j short)))
      by k lt (inr from) (inr past) =
          let j = k - (at + length new_b) in
          let index : at + length new_b + j ≡ k = omega arith in
          let index_s : at + length new_s + j ≡ k = omega (arith, new.same, past) in
          let one : get_or (overlaid at new_s ss) k Undef ≡ get_or ss k Undef =
          subst (λ i. get_or (overlaid at new_s ss) i Undef ≡ get_or ss i Undef) index_s (over_after at new_s ss within_s j Undef) in
          let two : get_or (overlaid at new_b bs) k 0 ≡ get_or bs k 0 =
          subst (λ i. get_or (overlaid at new_b bs) i 0 ≡ get_or bs i 0) index (over_after at new_b bs within j 0) in
          subst (λ s. Fine s (get_or (overlaid at new_b bs) k 0)) (sym one) (subst (Fine (get_or ss k Undef)) (sym two) (old.each k lt))

  -- all words
  pub record IsFineWord (w : DataWord) : Type 0 where
    pub within : IsWithin p w
    pub has : HasValue A w.target
    pub named : IsNamedTarget Named w.target

  filled_fine : (ws : List DataWord) (ss : List SymByte) (bs : List ℕ) → All IsFineWord ws → data_file_end p - p.map.data_low ≤ length bs → AreFine ss bs
      → AreFine (fold (with_target_word p) ss ws) (fold (with_data_word p A) bs ws)
  filled_fine [] ss bs fine size are = are
  filled_fine (w ∷ ws) ss bs fine size are =
      let here = All-head IsFineWord w ws fine in
      let at = w.at - p.map.data_low in
      let v = word_bytes (data_value A w) in
      let low = here.within.0 in
      let high = here.within.1 in
      filled_fine ws (with_target_word p ss w) (with_data_word p A bs w) (All-tail IsFineWord w ws fine) (omega (arith, size, length-overlaid at v bs))
      (over_fine at ss (bytes_of (target_word w.target)) bs v (omega (arith, low, high, size)) are (target_fine w.target here.has here.named))

-- ---- the objects' words

module _ (inputs : Inputs) (none : first_fault inputs ≡ None) where
  abbrev p0 : ParsedInputs
  p0 = parsed inputs

  target_named : (t : Target) → ((to : Place) → t ≡ target.Code to → IsNamed p0 to) → IsNamedTarget (IsNamed p0) t
  target_named (target.Code to) each = each to refl
  target_named (target.Number n) each = tt
  target_named (target.Absent n) each = tt
  target_named target.Nowhere each = tt

  word_asks : (k : Option RelocKind) → is_word k ≡ true → is_ignored k ≡ false
  word_asks (Some kind.Ignored) h = absurd cc
  word_asks other h = refl

  -- what a word is to hold has a value
  words_valued : (A : Place → Option ℕ) → ListsLeaders p0 A → All (λ w. HasValue A w.target) (data_words p0)
  words_valued A leaders = all_words inputs none (λ w. HasValue A w.target) (λ o i at s r found content address word fine among.
      reloc_value p0 A leaders (record { found = found; asks = word_asks (kind_of r.kind) word; among = among }) fine)

  module _ (A : Place → Option ℕ) (leaders : ListsLeaders p0 A) (V : Value → Option ℕ) (place : (q : Place) → V (value.Code q) ≡ A q) where
    words_fine : All (IsFineWord p0 A (IsNamed p0) V place) (data_words p0)
    words_fine = all_words inputs none (IsFineWord p0 A (IsNamed p0) V place) (λ o i at s r found content address word fine among.
        let within = content_within p0 o i at s found content address in
        let field = word_field p0 (listed o i s) r word fine in
        let asks : AsksIn p0 o i s r = record { found = found; asks = word_asks (kind_of r.kind) word; among = among } in
        record {
          within = (omega (arith, within.0), omega (arith, within.1, field));
          has = reloc_value p0 A leaders asks fine;
          named = target_named (target_of p0 o r)
              (λ to leads. leader_named p0 to (target_good p0 (listed o i s) r to asks.asks fine leads) (reloc_leader p0 to asks leads));
        })

    -- the program's bytes of data stand for the image's
    pub data_fine : AreFine p0 A (IsNamed p0) V place (data_bytes p0) (image_data p0 A ++ replicate (data_end p0 - data_file_end p0) 0)
    unfolding data_bytes image_data
    data_fine =
        let zeros = replicate (data_end p0 - data_file_end p0) 0 in
        let cs = data_contents p0 in
        let size = length-data_contents p0 in
        let whole : fold (with_data_word p0 A) cs (data_words p0) ++ zeros ≡ fold (with_data_word p0 A) (cs ++ zeros) (data_words p0) = filled_append p0 A (data_words p0) cs zeros (words_within inputs none) size in
        subst (AreFine p0 A (IsNamed p0) V place (fold (with_target_word p0) (map Num (data_contents p0 ++ replicate (data_end p0 - data_file_end p0) 0)) (data_words p0))) (sym whole)
        (filled_fine p0 A (IsNamed p0) V place (data_words p0) (map Num (cs ++ zeros)) (cs ++ zeros) words_fine (omega (arith, size, length-append cs zeros)) (numbers_fine p0 A (IsNamed p0) V place (cs ++ zeros)))

-- ---- in the code

-- the word at hand lies among the bytes
pub word_there : (inputs : Inputs) → first_fault inputs ≡ None → (ws : List DataWord) (k : ℕ) (d : DataWord) → ws ≡ data_words (parsed inputs) → k < length ws → IsWithin (parsed inputs) (get_or ws k d)
word_there inputs none ws k d are lt = All-get_or (IsWithin (parsed inputs)) ws k d lt (subst (All (IsWithin (parsed inputs))) (sym are) (words_within inputs none))

-- what a word is to hold has a value
pub value_there : (inputs : Inputs) → first_fault inputs ≡ None → (A : Place → Option ℕ) → ListsLeaders (parsed inputs) A → (ws : List DataWord) (k : ℕ) (d : DataWord) → ws ≡ data_words (parsed inputs) → k < length ws
    → HasValue A (get_or ws k d).target
value_there inputs none A leaders ws k d are lt = All-get_or (λ w. HasValue A w.target) ws k d lt (subst (All (λ w. HasValue A w.target)) (sym are) (words_valued inputs none A leaders))

-- one word more is put over the bytes
pub word_put : (p : ParsedInputs) (A : Place → Option ℕ) (ws : List DataWord) (k : ℕ) (d : DataWord) (start v : ℕ) (bytes bytes' contents : List ℕ) → k < length ws → start ≡ p.map.data_low → v ≡ data_value A (get_or ws k d)
    → (get_or ws k d).at - start + 4 ≤ length bytes → bytes' ≡ with_word bytes ((get_or ws k d).at - start) v → bytes ≡ fold (with_data_word p A) contents (take k ws)
    → bytes' ≡ fold (with_data_word p A) contents (take (k + 1) ws)
word_put p A ws k d start v bytes bytes' contents lt low is within put before =
    let w = get_or ws k d in
    put ∙ word_overlaid bytes (w.at - start) v within
    ∙ (λ j. overlaid (w.at - low j) (word_bytes (is j)) (before j))
    ∙ sym (fold_more (with_data_word p A) contents ws k d lt)
