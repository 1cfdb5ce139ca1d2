-- The bytes of data in a pass's result are the given ones, moved, if the words that hold addresses are; and what they name is what
-- those words' targets do.
use Rattle.std.proofs.Common.{◌≡◌, ℕ, zero, suc, ◌+◌, ◌-◌, List, [], ◌∷◌, ◌++◌, length, take, drop, replicate, refl, sym, ap, ap₂, ◌∙◌, map, filter, Bool, true, false, cond, eqb, Option, Some, None, subst}
use Rattle.std.specs.Prelude.{not, All}
use Rattle.std.specs.List.{flat_map, fold}
use Rattle.std.specs.Option.{option_map_or}
use Rattle.std.proofs.lemmas.List.{length-map}
use Rattle.std.proofs.lemmas.List.Elements.{All-append, All-cons, All-drop, All-head, All-nil, All-tail, All-take}
use Rattle.zc_base.specs.declared.place.Place.{Place}
use Rattle.elf32_read.specs.Parts.{is_code_section, is_kept_section}
use Rattle.elf32_read.specs.declared.reloc.Reloc.{Reloc}
use Rattle.psabi_sym.specs.Contents.{data_contents, overlaid}
use Rattle.psabi_sym.specs.Data.{data_address, data_end, data_file_end}
use Rattle.psabi_sym.specs.Inputs.{ParsedInputs}
use Rattle.psabi_sym.specs.Indexed.{IndexedSection, all_sections}
use Rattle.psabi_sym.specs.declared.target.Target.{Target}
use Rattle.psabi_sym.specs.declared.target.Target.TheVariants as target
use Rattle.psabi_sym.proofs.ContentLaws.{none_of_code}
use Rattle.psabi_reloc.specs.Kinds.{kind_of}
use Rattle.psabi_reloc.specs.declared.kind.RelocKind.{RelocKind}
use Rattle.psabi_reloc.specs.declared.kind.RelocKind.TheVariants as kind
use Rattle.block_cut.specs.DataWords.{data_word, data_words, data_words_in}
use Rattle.block_cut.specs.Items.{target_of}
use Rattle.block_cut.specs.Relocs.{is_ignored, is_word}
use Rattle.block_cut.specs.Resolved.{asks}
use Rattle.block_cut.specs.declared.data_word.DataWord.{DataWord}
use Rattle.sym_machine.specs.declared.word.SymByte.{SymByte}
use Rattle.sym_machine.specs.declared.word.SymByte.TheVariants.{Num}
use Rattle.sym_machine.specs.AddressParts.{bytes_of, target_word}
use Rattle.sym_machine.specs.Objects.{data_bytes}
use Rattle.moved_runs.specs.Moved.{moved_byte, moved_data, moved_target}
use Rattle.moved_runs.specs.Named.{IsNamedByte, IsNamedTarget}
use Rattle.moved_runs.specs.Passes.{ArePassed, Pass}
use Rattle.moved_runs.proofs.PassContents.{code-role, no-address, unfilled_bytes, unfilled-same}
use Rattle.moved_runs.proofs.PassData.{data_address-moved}
use Rattle.moved_runs.proofs.PassListed.{IsThere, all-there, flat-clean}
use Rattle.moved_runs.proofs.PassSections.{passed}

-- a word goes over the bytes from an address on
abbrev pub with_word : ParsedInputs → List SymByte → DataWord → List SymByte
with_word inputs bytes w = overlaid (w.at - inputs.map.data_low) (bytes_of (target_word w.target)) bytes

-- ---- the words of a section

-- what fills in a word asks for something
pub word-asks : (r : Reloc) → is_word (kind_of r.kind) ≡ true → asks r ≡ true
word-asks r is = by (kind_of r.kind) is
  where
    by : (k : Option RelocKind) → is_word k ≡ true → not (is_ignored k) ≡ true
    by (Some kind.Word) h = refl
    by (Some kind.Ignored) h = absurd cc
    by None h = refl
    by (Some k) h = absurd cc

pub none-words : (inputs : ParsedInputs) (l : IndexedSection) → data_address inputs l.object l.index ≡ None → data_words_in inputs l ≡ []
none-words inputs l none = ap (λ a. cond (eqb l.section.kind 8) [] (option_map_or (λ at. map (data_word inputs l at) (filter (λ r. is_word (kind_of r.kind)) l.section.relocs)) a [])) none ∙ by (eqb l.section.kind 8) []
  where
    by : (b : Bool) (e : List DataWord) → cond b e e ≡ e
    by true e = refl
    by false e = refl

-- ---- what data name

module _ (K : Place → Type 0) (inputs : ParsedInputs) where
  abbrev pub IsNamedWordOf : DataWord → Type 0
  IsNamedWordOf w = IsNamedTarget K w.target

  -- what each word of a section of data leads to is named
  abbrev pub NamesWords : IndexedSection → Type 0
  NamesWords l = All (λ r. is_word (kind_of r.kind) ≡ true → IsNamedTarget K (target_of inputs l.object r)) l.section.relocs

  words-named : (l : IndexedSection) (at : ℕ) (rs : List Reloc) → All (λ r. is_word (kind_of r.kind) ≡ true → IsNamedTarget K (target_of inputs l.object r)) rs
      → All IsNamedWordOf (map (data_word inputs l at) (filter (λ r. is_word (kind_of r.kind)) rs))
  words-named l at [] leads = All-nil IsNamedWordOf
  words-named l at (r ∷ rs) leads = by (words-named l at rs (All-tail (λ r. is_word (kind_of r.kind) ≡ true → IsNamedTarget K (target_of inputs l.object r)) r rs leads)) (is_word (kind_of r.kind)) refl
    where
      here : is_word (kind_of r.kind) ≡ true → IsNamedTarget K (target_of inputs l.object r)
      here = All-head (λ r. is_word (kind_of r.kind) ≡ true → IsNamedTarget K (target_of inputs l.object r)) r rs leads

      by : All IsNamedWordOf (map (data_word inputs l at) (filter (λ r. is_word (kind_of r.kind)) rs)) → (b : Bool) → is_word (kind_of r.kind) ≡ b
          → All IsNamedWordOf (map (data_word inputs l at) (cond b (r ∷ filter (λ r. is_word (kind_of r.kind)) rs) (filter (λ r. is_word (kind_of r.kind)) rs)))
      by rest true is = All-cons IsNamedWordOf (data_word inputs l at r) (map (data_word inputs l at) (filter (λ r. is_word (kind_of r.kind)) rs)) (here is) rest
      by rest false is = rest

  four-named : (a b c d : SymByte) → IsNamedByte K a → IsNamedByte K b → IsNamedByte K c → IsNamedByte K d → All (IsNamedByte K) (a ∷ b ∷ c ∷ d ∷ [])
  four-named a b c d ka kb kc kd =
      All-cons (IsNamedByte K) a (b ∷ c ∷ d ∷ []) ka (All-cons (IsNamedByte K) b (c ∷ d ∷ []) kb (All-cons (IsNamedByte K) c (d ∷ []) kc (All-cons (IsNamedByte K) d [] kd (All-nil (IsNamedByte K)))))

  word-bytes-named : (t : Target) → IsNamedTarget K t → All (IsNamedByte K) (bytes_of (target_word t))
  word-bytes-named (target.Code q) k = four-named _ _ _ _ k k k k
  word-bytes-named (target.Number x) k = four-named _ _ _ _ tt tt tt tt
  word-bytes-named (target.Absent x) k = four-named _ _ _ _ tt tt tt tt
  word-bytes-named target.Nowhere k = four-named _ _ _ _ tt tt tt tt

  fold-named : (bytes : List SymByte) (ws : List DataWord) → All (IsNamedByte K) bytes → All IsNamedWordOf ws → All (IsNamedByte K) (fold (with_word inputs) bytes ws)
  fold-named bytes [] all named = all
  fold-named bytes (w ∷ ws) all named =
      let at = w.at - inputs.map.data_low in
      let new = bytes_of (target_word w.target) in
      fold-named (with_word inputs bytes w) ws
      (All-append (IsNamedByte K) (take at bytes) (take (length bytes - at) new ++ drop (at + length new) bytes) (All-take (IsNamedByte K) at bytes all)
      (All-append (IsNamedByte K) (take (length bytes - at) new) (drop (at + length new) bytes) (All-take (IsNamedByte K) (length bytes - at) new (word-bytes-named w.target (All-head IsNamedWordOf w ws named))) (All-drop (IsNamedByte K) (at + length new) bytes all)))
      (All-tail IsNamedWordOf w ws named)

  numbers-named : (ns : List ℕ) → All (IsNamedByte K) (map Num ns)
  numbers-named [] = All-nil (IsNamedByte K)
  numbers-named (n ∷ ns) = All-cons (IsNamedByte K) (Num n) (map Num ns) tt (numbers-named ns)

  module _ (names : (l : IndexedSection) → IsThere inputs.objects l → is_kept_section l.section ≡ true → is_code_section l.section ≡ false → NamesWords l) where
    section-words : (l : IndexedSection) → IsThere inputs.objects l → All IsNamedWordOf (data_words_in inputs l)
    section-words l there = kept (is_kept_section l.section) refl
      where
        empty : data_words_in inputs l ≡ [] → All IsNamedWordOf (data_words_in inputs l)
        empty none = subst (All IsNamedWordOf) (sym none) (All-nil IsNamedWordOf)

        each : NamesWords l → (b : Bool) (a : Option ℕ) → All IsNamedWordOf (cond b [] (option_map_or (λ at. map (data_word inputs l at) (filter (λ r. is_word (kind_of r.kind)) l.section.relocs)) a []))
        each leads true a = All-nil IsNamedWordOf
        each leads false None = All-nil IsNamedWordOf
        each leads false (Some at) = words-named l at l.section.relocs leads

        code : (b : Bool) → is_code_section l.section ≡ b → is_kept_section l.section ≡ true → All IsNamedWordOf (data_words_in inputs l)
        code true is kept = empty (none-words inputs l (none_of_code inputs l.object l.index l.section there (code-role l.section is)))
        code false is kept = each (names l there kept is) (eqb l.section.kind 8) (data_address inputs l.object l.index)

        kept : (b : Bool) → is_kept_section l.section ≡ b → All IsNamedWordOf (data_words_in inputs l)
        kept false is = empty (none-words inputs l (no-address inputs l there is))
        kept true is = code (is_code_section l.section) refl is

    all-words : (ls : List IndexedSection) → All (IsThere inputs.objects) ls → All IsNamedWordOf (flat_map (data_words_in inputs) ls)
    all-words [] there = All-nil IsNamedWordOf
    all-words (l ∷ ls) there =
        All-append IsNamedWordOf (data_words_in inputs l) (flat_map (data_words_in inputs) ls) (section-words l (All-head (IsThere inputs.objects) l ls there))
        (all-words ls (All-tail (IsThere inputs.objects) l ls there))

    pub bytes-named : All (IsNamedByte K) (data_bytes inputs)
    unfolding data_bytes data_words
    bytes-named =
        fold-named (unfilled_bytes inputs) (data_words inputs) (numbers-named (data_contents inputs ++ replicate (data_end inputs - data_file_end inputs) 0))
        (all-words (all_sections inputs.objects) (all-there inputs.objects))

-- ---- the result

module _ (pass : Pass) (inputs result : ParsedInputs) (passes : ArePassed pass inputs result) (M : Place → Place) where
  -- the words of a section of data lead to where the given ones' targets are moved
  abbrev pub MovesWords : IndexedSection → Type 0
  MovesWords l =
      (at : ℕ) → map (data_word result (passed pass l) at) (filter (λ r. is_word (kind_of r.kind)) (pass.section l.object l.index l.section).relocs)
      ≡ map (moved_data M) (map (data_word inputs l at) (filter (λ r. is_word (kind_of r.kind)) l.section.relocs))

  module _ (moves : (l : IndexedSection) → IsThere inputs.objects l → is_kept_section l.section ≡ true → is_code_section l.section ≡ false → MovesWords l) where
    words-in-moved : (l : IndexedSection) → IsThere inputs.objects l → is_kept_section l.section ≡ true → data_words_in result (passed pass l) ≡ map (moved_data M) (data_words_in inputs l)
    words-in-moved l there kept = by (is_code_section l.section) refl
      where
        same : data_address result l.object (pass.number l.object l.index) ≡ data_address inputs l.object l.index
        same = data_address-moved pass inputs result passes l.object l.index l.section there kept

        by : (c : Bool) → is_code_section l.section ≡ c → data_words_in result (passed pass l) ≡ map (moved_data M) (data_words_in inputs l)
        by true code =
            let none = none_of_code inputs l.object l.index l.section there (code-role l.section code) in
            none-words result (passed pass l) (same ∙ none) ∙ ap (map (moved_data M)) (sym (none-words inputs l none))
        by false plain =
            let kind = (pass.keeps_sections l.object l.index l.section).kind in
            (λ i. cond (eqb (kind i) 8) [] (option_map_or (λ at. map (data_word result (passed pass l) at) (filter (λ r. is_word (kind_of r.kind)) (pass.section l.object l.index l.section).relocs)) (same i) []))
            ∙ each (moves l there kept plain) (eqb l.section.kind 8) (data_address inputs l.object l.index)
          where
            each : MovesWords l → (b : Bool) (a : Option ℕ)
                → cond b [] (option_map_or (λ at. map (data_word result (passed pass l) at) (filter (λ r. is_word (kind_of r.kind)) (pass.section l.object l.index l.section).relocs)) a [])
                ≡ map (moved_data M) (cond b [] (option_map_or (λ at. map (data_word inputs l at) (filter (λ r. is_word (kind_of r.kind)) l.section.relocs)) a []))
            each words true a = refl
            each words false None = refl
            each words false (Some at) = words at

    pub words-moved : data_words result ≡ map (moved_data M) (data_words inputs)
    unfolding data_words
    words-moved =
        flat-clean pass inputs.objects result.objects passes.objects (moved_data M) (data_words_in inputs) (data_words_in result)
        (λ l there dropped. none-words inputs l (no-address inputs l there dropped))
        (λ l there dropped. none-words result l (no-address result l there dropped))
        words-in-moved

    -- ---- bytes

    map-take : {X Y : Type 0} (f : X → Y) (n : ℕ) (xs : List X) → take n (map f xs) ≡ map f (take n xs)
    map-take f zero xs = refl
    map-take f (suc n) [] = refl
    map-take f (suc n) (x ∷ xs) = ap (λ t. f x ∷ t) (map-take f n xs)

    map-drop : {X Y : Type 0} (f : X → Y) (n : ℕ) (xs : List X) → drop n (map f xs) ≡ map f (drop n xs)
    map-drop f zero xs = refl
    map-drop f (suc n) [] = refl
    map-drop f (suc n) (x ∷ xs) = map-drop f n xs

    map-app : {X Y : Type 0} (f : X → Y) (xs ys : List X) → map f xs ++ map f ys ≡ map f (xs ++ ys)
    map-app f [] ys = refl
    map-app f (x ∷ xs) ys = ap (λ t. f x ∷ t) (map-app f xs ys)

    overlaid-map : {X : Type 0} (f : X → X) (at : ℕ) (new old : List X) → overlaid at (map f new) (map f old) ≡ map f (overlaid at new old)
    overlaid-map f at new old =
        ap₂ (λ n m. take at (map f old) ++ (take (n - at) (map f new) ++ drop (at + m) (map f old))) (length-map old f) (length-map new f)
        ∙ ap₂ (λ xs ys. xs ++ ys) (map-take f at old) (ap₂ (λ xs ys. xs ++ ys) (map-take f (length old - at) new) (map-drop f (at + length new) old) ∙ map-app f (take (length old - at) new) (drop (at + length new) old))
        ∙ map-app f (take at old) (take (length old - at) new ++ drop (at + length new) old)

    word-moved : (t : Target) → bytes_of (target_word (moved_target M t)) ≡ map (moved_byte M) (bytes_of (target_word t))
    word-moved (target.Code q) = refl
    word-moved (target.Number n) = refl
    word-moved (target.Absent n) = refl
    word-moved target.Nowhere = refl

    fold-words : (bytes : List SymByte) (ws : List DataWord) → fold (with_word result) (map (moved_byte M) bytes) (map (moved_data M) ws) ≡ map (moved_byte M) (fold (with_word inputs) bytes ws)
    fold-words bytes [] = refl
    fold-words bytes (w ∷ ws) =
        ap₂ (λ m (t : List SymByte). fold (with_word result) (overlaid (w.at - m) t (map (moved_byte M) bytes)) (map (moved_data M) ws)) (λ i. (passes.map i).data_low) (word-moved w.target)
        ∙ ap (λ b. fold (with_word result) b (map (moved_data M) ws)) (overlaid-map (moved_byte M) (w.at - inputs.map.data_low) (bytes_of (target_word w.target)) bytes)
        ∙ fold-words (with_word inputs bytes w) ws

    numbers-stay : (ns : List ℕ) → map Num ns ≡ map (moved_byte M) (map Num ns)
    numbers-stay [] = refl
    numbers-stay (n ∷ ns) = ap (λ t. Num n ∷ t) (numbers-stay ns)

    unfilled-moved : unfilled_bytes result ≡ map (moved_byte M) (unfilled_bytes inputs)
    unfilled-moved = unfilled-same pass inputs result passes ∙ numbers-stay (data_contents inputs ++ replicate (data_end inputs - data_file_end inputs) 0)

    pub bytes-moved : data_bytes result ≡ map (moved_byte M) (data_bytes inputs)
    unfolding data_bytes
    bytes-moved = ap₂ (λ b ws. fold (with_word result) b ws) unfilled-moved words-moved ∙ fold-words (unfilled_bytes inputs) (data_words inputs)
