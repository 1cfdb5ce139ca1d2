-- The lines of a segment's bytes begin with the line of its first bytes, and go on with the lines of the others.
use Rattle.std.proofs.Common.{◌≡◌, ◌⊎◌, ℕ, zero, suc, ◌+◌, ◌-◌, ◌*◌, ◌/◌, ◌%◌, ◌^◌, ◌<◌, ◌≤◌, Some, None, Bool, true, false, cond, List, [], ◌∷◌, ◌++◌, length, take, drop, eqb, ltb, leb, eqb-true, eq-eqb, inl, inr, refl, sym, ap, ap₂, subst, ◌∙◌, arith, append-nil, length-append}
use Rattle.std.specs.Prelude.{All, not, ◌&&◌}
use Rattle.std.proofs.Math.Seq.{drop-append_seam, take-append_seam}
use Rattle.std.proofs.lemmas.Bool.{and_parts, cases_lt, cond-false, cond-true, eqb-false, le-leb, leb-true, lt-ltb, ltb-true, ne_eqb, not-true}
use Rattle.std.proofs.lemmas.List.{drop_all, length-take, take-append-drop, take_all}
use Rattle.std.proofs.lemmas.List.Elements.{All-from_recursion, All-head, All-tail, All-take}
use Rattle.std.proofs.lemmas.Option.{cond_some, none-some}
use Rattle.text_lines.proofs.OptionLaws.{picked}
use Rattle.elf32_read.specs.Segments.{SegmentData}
use Rattle.instruction_text.specs.Texts.{IsMachineCode, machine_code_bytes}
use Rattle.instruction_text.specs.declared.machine_code.MachineCode.{MachineCode}
use Rattle.instruction_text.specs.declared.machine_code.MachineCode.TheVariants.{Half, Word}
use Rattle.zc_list.specs.Listing.{Bytes, Content, Instruction, Zeros, code_contents, content_size, file_contents, half_code, sixteens, word_code}
use Rattle.zc_list.specs.Spelled.{Between, ListState, after_content, inside, is_cut_short, with_bytes, fits_in_room}
use Rattle.zc_list.proofs.ContentLaws.{FitsContent}

-- the bytes from the file that a line stands for
abbrev pub content_bytes : Content → List ℕ
content_bytes (Instruction code) = machine_code_bytes code
content_bytes (Bytes bytes) = bytes
content_bytes (Zeros n) = []

-- ---- code

-- an instruction, before other bytes
code_next : (code : MachineCode) (rest : List ℕ) → IsMachineCode code → code_contents (machine_code_bytes code ++ rest) ≡ Instruction code ∷ code_contents rest
unfolding code_contents
code_next (Half h) [] is =
    let a : ℕ = h % 256 in
    let b : ℕ = h / 256 % 256 in
    let whole : a + 2 ^ 8 * b ≡ h = omega (arith, is.0) in
    cond-false (eqb (a % 4) 3) (Bytes (a ∷ (b ∷ [])) ∷ []) (half_code a b ∷ []) (ne_eqb (a % 4) 3 (λ e. is.1 (omega (arith, e)))) ∙ ap (λ n. Instruction (Half n) ∷ []) whole
code_next (Half h) (c ∷ []) is =
    let a : ℕ = h % 256 in
    let b : ℕ = h / 256 % 256 in
    let whole : a + 2 ^ 8 * b ≡ h = omega (arith, is.0) in
    cond-false (eqb (a % 4) 3) (Bytes (a ∷ (b ∷ (c ∷ []))) ∷ []) (half_code a b ∷ code_contents (c ∷ [])) (ne_eqb (a % 4) 3 (λ e. is.1 (omega (arith, e)))) ∙ ap (λ n. Instruction (Half n) ∷ code_contents (c ∷ [])) whole
code_next (Half h) (c ∷ (d ∷ rest)) is =
    let a : ℕ = h % 256 in
    let b : ℕ = h / 256 % 256 in
    let whole : a + 2 ^ 8 * b ≡ h = omega (arith, is.0) in
    cond-false (eqb (a % 4) 3) (word_code a b c d ∷ code_contents rest) (half_code a b ∷ code_contents (c ∷ (d ∷ rest))) (ne_eqb (a % 4) 3 (λ e. is.1 (omega (arith, e)))) ∙ ap (λ n. Instruction (Half n) ∷ code_contents (c ∷ (d ∷ rest))) whole
code_next (Word w) rest is =
    let a : ℕ = w % 256 in
    let b : ℕ = w / 256 % 256 in
    let c : ℕ = w / 65536 % 256 in
    let d : ℕ = w / 16777216 % 256 in
    let whole : a + 2 ^ 8 * b + 2 ^ 16 * c + 2 ^ 24 * d ≡ w = omega (arith, is.0) in
    cond-true (eqb (a % 4) 3) (word_code a b c d ∷ code_contents rest) (half_code a b ∷ code_contents (c ∷ (d ∷ rest))) (eq-eqb (a % 4) 3 (omega (arith, is.1))) ∙ ap (λ n. Instruction (Word n) ∷ code_contents rest) whole

-- bytes that are too short for an instruction
short_contents : (bytes : List ℕ) → is_cut_short bytes ≡ true → code_contents bytes ≡ Bytes bytes ∷ []
unfolding code_contents
short_contents [] short = absurd cc
short_contents (a ∷ []) short = refl
short_contents (a ∷ (b ∷ [])) short = cond-true (eqb (a % 4) 3) (Bytes (a ∷ (b ∷ [])) ∷ []) (half_code a b ∷ []) short
short_contents (a ∷ (b ∷ (c ∷ []))) short = cond-true (eqb (a % 4) 3) (Bytes (a ∷ (b ∷ (c ∷ []))) ∷ []) (half_code a b ∷ code_contents (c ∷ [])) short
short_contents (a ∷ (b ∷ (c ∷ (d ∷ bytes)))) short = absurd cc

-- ---- data

-- sixteen bytes, before others
data_next : (bytes rest : List ℕ) → length bytes ≡ 16 → file_contents false (bytes ++ rest) ≡ Bytes bytes ∷ file_contents false rest
unfolding file_contents
data_next bytes rest size =
    let count : (length (bytes ++ rest) + 15) / 16 ≡ suc ((length rest + 15) / 16) = omega (arith, size, length-append bytes rest) in
    ap (λ n. sixteens n (bytes ++ rest)) count
    ∙ ap₂ (λ first others. Bytes first ∷ sixteens ((length rest + 15) / 16) others)
    (ap (λ n. take n (bytes ++ rest)) (sym size) ∙ take-append_seam bytes rest) (ap (λ n. drop n (bytes ++ rest)) (sym size) ∙ drop-append_seam bytes rest)

-- fewer
data_last : (bytes : List ℕ) → 0 < length bytes → length bytes < 16 → file_contents false bytes ≡ Bytes bytes ∷ []
unfolding file_contents
data_last bytes some few =
    let count : (length bytes + 15) / 16 ≡ suc zero = omega (arith, some, few) in
    ap (λ n. sixteens n bytes) count ∙ ap (λ first. Bytes first ∷ []) (take_all 16 bytes (omega (arith, few)))

-- ---- the first line

-- of no bytes there is no line
pub none_contents : (code : Bool) → file_contents code [] ≡ []
unfolding file_contents code_contents
none_contents true = refl
none_contents false = refl

-- what the first line stands for, the bytes after it, and whether it is the last line
pub record First (code : Bool) (bytes : List ℕ) : Type 0 where
  pub content : Content
  pub rest : List ℕ
  pub last : Bool
  pub fits : FitsContent content
  pub some : 0 < length (content_bytes content)
  pub size : content_size content ≡ length (content_bytes content)
  pub same : bytes ≡ content_bytes content ++ rest
  pub next : file_contents code bytes ≡ content ∷ file_contents code rest
  pub after : (done : List SegmentData) (s : SegmentData) → s.code ≡ code → after_content done s false content ≡ fits_in_room done s (content_bytes content) last
  pub ended : last ≡ true → rest ≡ []

-- sixteen bytes or fewer, before others only if they are sixteen
data_contents : (bytes rest : List ℕ) → 0 < length bytes → length bytes ≤ 16 → (length bytes < 16 → rest ≡ []) → file_contents false (bytes ++ rest) ≡ Bytes bytes ∷ file_contents false rest
data_contents bytes rest some few alone = either (cases_lt (length bytes) 16)
  where
    either : (length bytes < 16) ⊎ (16 ≤ length bytes) → file_contents false (bytes ++ rest) ≡ Bytes bytes ∷ file_contents false rest
    either (inl less) =
        let none = alone less in
        ap (λ r. file_contents false (bytes ++ r)) none ∙ ap (file_contents false) (append-nil bytes) ∙ data_last bytes some less
        ∙ ap (λ cs. Bytes bytes ∷ cs) (sym (ap (file_contents false) none ∙ none_contents false))
    either (inr more) = data_next bytes rest (omega (arith, few, more))

some_code : (code : MachineCode) → 0 < length (machine_code_bytes code)
some_code (Half h) = omega arith
some_code (Word w) = omega arith

first_code : (code : MachineCode) (rest : List ℕ) → IsMachineCode code → First true (machine_code_bytes code ++ rest)
unfolding file_contents
first_code code rest is = record {
  content = Instruction code;
  rest = rest;
  last = false;
  fits = is;
  some = some_code code;
  size = refl;
  same = refl;
  next = code_next code rest is;
  after = λ done s kind. cond-true s.code (fits_in_room done s (machine_code_bytes code) false) None kind;
  ended = λ h. absurd cc;
}

first_short : (bytes : List ℕ) → 0 < length bytes → All (λ b. b < 256) bytes → is_cut_short bytes ≡ true → First true bytes
unfolding file_contents code_contents
first_short bytes some small short = record {
  content = Bytes bytes;
  rest = [];
  last = true;
  fits = (some, small);
  some = some;
  size = refl;
  same = sym (append-nil bytes);
  next = short_contents bytes short;
  after = λ done s kind.
      cond-true s.code (cond (is_cut_short bytes) (fits_in_room done s bytes true) None) (cond (leb (length bytes) 16) (fits_in_room done s bytes (ltb (length bytes) 16)) None) kind
      ∙ cond-true (is_cut_short bytes) (fits_in_room done s bytes true) None short;
  ended = λ _. refl;
}

first_data : (bytes rest : List ℕ) → 0 < length bytes → length bytes ≤ 16 → All (λ b. b < 256) bytes → (length bytes < 16 → rest ≡ []) → First false (bytes ++ rest)
first_data bytes rest some few small alone = record {
  content = Bytes bytes;
  rest = rest;
  last = ltb (length bytes) 16;
  fits = (some, small);
  some = some;
  size = refl;
  same = refl;
  next = data_contents bytes rest some few alone;
  after = λ done s kind.
      cond-false s.code (cond (is_cut_short bytes) (fits_in_room done s bytes true) None) (cond (leb (length bytes) 16) (fits_in_room done s bytes (ltb (length bytes) 16)) None) kind
      ∙ cond-true (leb (length bytes) 16) (fits_in_room done s bytes (ltb (length bytes) 16)) None (le-leb (length bytes) 16 few);
  ended = λ h. alone (ltb-true (length bytes) 16 h);
}

code_view : (bytes : List ℕ) → 0 < length bytes → All (λ b. b < 256) bytes → First true bytes
code_view [] some small = absurd (omega (arith, some))
code_view (a ∷ []) some small = first_short (a ∷ []) some small refl
code_view (a ∷ (b ∷ rest)) some small = either (eqb (a % 4) 3) refl
  where
    one : a < 256
    one = All-head (λ x. x < 256) a (b ∷ rest) small

    behind : All (λ x. x < 256) (b ∷ rest)
    behind = All-tail (λ x. x < 256) a (b ∷ rest) small

    two : b < 256
    two = All-head (λ x. x < 256) b rest behind

    others : All (λ x. x < 256) rest
    others = All-tail (λ x. x < 256) b rest behind

    word : (cs : List ℕ) → All (λ x. x < 256) cs → All (λ x. x < 256) (a ∷ (b ∷ cs)) → a % 4 ≡ 3 → eqb (a % 4) 3 ≡ true → First true (a ∷ (b ∷ cs))
    word [] s all low test = first_short (a ∷ (b ∷ [])) (omega arith) all test
    word (c ∷ []) s all low test = first_short (a ∷ (b ∷ (c ∷ []))) (omega arith) all test
    word (c ∷ (d ∷ cs)) s all low test =
        let three = All-head (λ x. x < 256) c (d ∷ cs) s in
        let four = All-head (λ x. x < 256) d cs (All-tail (λ x. x < 256) c (d ∷ cs) s) in
        let w : ℕ = a + 2 ^ 8 * b + 2 ^ 16 * c + 2 ^ 24 * d in
        let first : w % 256 ≡ a = omega (arith, one, two, three, four) in
        let second : w / 256 % 256 ≡ b = omega (arith, one, two, three, four) in
        let third : w / 65536 % 256 ≡ c = omega (arith, one, two, three, four) in
        let fourth : w / 16777216 % 256 ≡ d = omega (arith, one, two, three, four) in
        let P : List ℕ → Type 0 = First true in
        subst P (ap₂ (λ x y. x ∷ (y ∷ (w / 65536 % 256 ∷ (w / 16777216 % 256 ∷ cs)))) first second ∙ ap₂ (λ x y. a ∷ (b ∷ (x ∷ (y ∷ cs)))) third fourth)
        (first_code (Word w) cs (omega (arith, one, two, three, four), omega (arith, low)))

    either : (t : Bool) → eqb (a % 4) 3 ≡ t → First true (a ∷ (b ∷ rest))
    either true test = word rest others small (eqb-true (a % 4) 3 test) test
    either false test =
        let h : ℕ = a + 2 ^ 8 * b in
        let first : h % 256 ≡ a = omega (arith, one, two) in
        let second : h / 256 % 256 ≡ b = omega (arith, one, two) in
        let low = eqb-false (a % 4) 3 test in
        let P : List ℕ → Type 0 = First true in
        subst P (ap₂ (λ x y. x ∷ (y ∷ rest)) first second) (first_code (Half h) rest (omega (arith, one, two), λ e. low (omega (arith, e))))

data_view : (bytes : List ℕ) → 0 < length bytes → All (λ b. b < 256) bytes → First false bytes
data_view bytes some small =
    let P : List ℕ → Type 0 = First false in
    let size = length-take 16 bytes in
    subst P (take-append-drop 16 bytes)
    (first_data (take 16 bytes) (drop 16 bytes) (omega (arith, size, some)) (omega (arith, size)) (All-take (λ b. b < 256) 16 bytes small) (λ few. drop_all 16 bytes (omega (arith, size, few))))

-- the first line of some bytes
pub first_of_bytes : (code : Bool) (bytes : List ℕ) → 0 < length bytes → All (λ b. b < 256) bytes → First code bytes
first_of_bytes true bytes some small = code_view bytes some small
first_of_bytes false bytes some small = data_view bytes some small

-- ---- a line that was read

-- a line may stand there: it has bytes for which there is room, and lines that follow it are those of the bytes after it
pub record Took (done : List SegmentData) (s : SegmentData) (last : Bool) (content : Content) (state : ListState) : Type 0 where
  pub open_yet : last ≡ false
  pub ends : Bool
  pub room : length s.bytes + length (content_bytes content) ≤ s.size
  pub inside_is : inside done (with_bytes s (content_bytes content)) ends ≡ state
  pub small : All (λ b. b < 256) (content_bytes content)
  pub size : content_size content ≡ length (content_bytes content)
  pub next : (rest : List ℕ) → (ends ≡ true → rest ≡ []) → file_contents s.code (content_bytes content ++ rest) ≡ content ∷ file_contents s.code rest

-- zeros are all that is missing
pub record TookZeros (done : List SegmentData) (s : SegmentData) (content : Content) (state : ListState) : Type 0 where
  pub zeros : content ≡ Zeros (s.size - length s.bytes)
  pub between : Between (done ++ s ∷ []) ≡ state

small_code : (code : MachineCode) → All (λ b. b < 256) (machine_code_bytes code)
small_code (Half h) = All-from_recursion (λ b. b < 256) (machine_code_bytes (Half h)) (omega arith, (omega arith, tt))
small_code (Word w) = All-from_recursion (λ b. b < 256) (machine_code_bytes (Word w)) (omega arith, (omega arith, (omega arith, (omega arith, tt))))

roomy : (done : List SegmentData) (s : SegmentData) (bytes : List ℕ) (last : Bool) (state : ListState) → fits_in_room done s bytes last ≡ Some state
    → (length s.bytes + length bytes ≤ s.size) × (inside done (with_bytes s bytes) last ≡ state)
roomy done s bytes last state is =
    let parts = cond_some (leb (length s.bytes + length bytes) s.size) (inside done (with_bytes s bytes) last) state is in
    (leb-true (length s.bytes + length bytes) s.size parts.0, parts.1)

took_code : (done : List SegmentData) (s : SegmentData) (last : Bool) (code : MachineCode) (state : ListState) → IsMachineCode code → after_content done s last (Instruction code) ≡ Some state → Took done s last (Instruction code) state
unfolding file_contents
took_code done s last code state fits is =
    let parts = picked (not last && s.code) (fits_in_room done s (machine_code_bytes code) false) state is in
    let tests = and_parts (not last) s.code parts.0 in
    let found = roomy done s (machine_code_bytes code) false state parts.1 in
    record {
      open_yet = not-true last tests.0;
      ends = false;
      room = found.0;
      inside_is = found.1;
      small = small_code code;
      size = refl;
      next = λ rest _. ap (λ k. file_contents k (machine_code_bytes code ++ rest)) tests.1 ∙ code_next code rest fits ∙ sym (ap (λ k. Instruction code ∷ file_contents k rest) tests.1);
    }

took_bytes : (done : List SegmentData) (s : SegmentData) (last : Bool) (bytes : List ℕ) (state : ListState) → (0 < length bytes) × All (λ b. b < 256) bytes → after_content done s last (Bytes bytes) ≡ Some state → Took done s last (Bytes bytes) state
unfolding file_contents code_contents
took_bytes done s true bytes state fits is = absurd (none-some state is)
took_bytes done s false bytes state fits is = either s.code refl is
  where
    short : s.code ≡ true → is_cut_short bytes ≡ true → (rest : List ℕ) → rest ≡ [] → file_contents s.code (bytes ++ rest) ≡ Bytes bytes ∷ file_contents s.code rest
    short kind cut rest none =
        ap (λ k. file_contents k (bytes ++ rest)) kind ∙ ap (λ r. code_contents (bytes ++ r)) none ∙ ap code_contents (append-nil bytes) ∙ short_contents bytes cut
        ∙ sym (ap (λ k. Bytes bytes ∷ file_contents k rest) kind ∙ ap (λ r. Bytes bytes ∷ code_contents r) none)

    either : (k : Bool) → s.code ≡ k
        → cond k (cond (is_cut_short bytes) (fits_in_room done s bytes true) None) (cond (leb (length bytes) 16) (fits_in_room done s bytes (ltb (length bytes) 16)) None) ≡ Some state
        → Took done s false (Bytes bytes) state
    either true kind h =
        let parts = picked (is_cut_short bytes) (fits_in_room done s bytes true) state h in
        let found = roomy done s bytes true state parts.1 in
        record {
          open_yet = refl;
          ends = true;
          room = found.0;
          inside_is = found.1;
          small = fits.1;
          size = refl;
          next = λ rest none. short kind parts.0 rest (none refl);
        }
    either false kind h =
        let parts = picked (leb (length bytes) 16) (fits_in_room done s bytes (ltb (length bytes) 16)) state h in
        let found = roomy done s bytes (ltb (length bytes) 16) state parts.1 in
        record {
          open_yet = refl;
          ends = ltb (length bytes) 16;
          room = found.0;
          inside_is = found.1;
          small = fits.1;
          size = refl;
          next = λ rest none.
              ap (λ k. file_contents k (bytes ++ rest)) kind ∙ data_contents bytes rest fits.0 (leb-true (length bytes) 16 parts.0) (λ few. none (lt-ltb (length bytes) 16 few))
              ∙ sym (ap (λ k. Bytes bytes ∷ file_contents k rest) kind);
        }

took_zeros : (done : List SegmentData) (s : SegmentData) (last : Bool) (n : ℕ) (state : ListState) → after_content done s last (Zeros n) ≡ Some state → TookZeros done s (Zeros n) state
took_zeros done s last n state is =
    let parts = cond_some (eqb n (s.size - length s.bytes)) (Between (done ++ (s ∷ []))) state is in
    record { zeros = ap Zeros (eqb-true n (s.size - length s.bytes) parts.0); between = parts.1 }

pub taken : (done : List SegmentData) (s : SegmentData) (last : Bool) (content : Content) (state : ListState) → FitsContent content → after_content done s last content ≡ Some state
    → Took done s last content state ⊎ TookZeros done s content state
taken done s last (Instruction code) state fits is = inl (took_code done s last code state fits is)
taken done s last (Bytes bytes) state fits is = inl (took_bytes done s last bytes state fits is)
taken done s last (Zeros n) state fits is = inr (took_zeros done s last n state is)
