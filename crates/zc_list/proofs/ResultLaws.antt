-- What the results of reading a text mean for the text.
use Rattle.std.proofs.Common.{◌≡◌, ℕ, Some, None, Ok, Err, true, false, Result, List, [], ◌∷◌, refl, sym, ap, ◌∙◌}
use Rattle.std.specs.Prelude.{IfErr, IfOk, MatchResult, bytes_eq, codes}
use Rattle.std.specs.Option.{option_map}
use Rattle.std.proofs.lemmas.Bool.{cond-false, cond-true}
use Rattle.elf32_read.specs.Segments.{SegmentData}
use Rattle.text_lines.specs.Lines.{lines_of, words_of}
use Rattle.zc_list.specs.Fault.{IsListFault, bad_line, memory}
use Rattle.zc_list.specs.Listing.{IsListText}
use Rattle.zc_list.specs.Reader.{StopsAt, segment_with}
use Rattle.zc_list.specs.Spelled.{Between, Ended, Untitled, after_line, inside, read_lines, segment_of_words, segments_in}
use Rattle.zc_list.specs.declared.fault.ListFault.{ListFault}
use Rattle.zc_list.specs.declared.fault.ListFault.TheVariants.{BadLine, OutOfMemory, TooLarge}
use Rattle.zc_list.specs.declared.read_head.Head.{Head}
use Rattle.zc_list.proofs.ExactLaws.{text_is_list}
use Rattle.zc_list.proofs.FrontLaws.{bad_line_first}
use Rattle.zc_list.proofs.ReadLaws.{line_bad, line_good}
use Rattle.zc_list.proofs.RunLaws.{list_back}

-- ---- lines between segments

pub end_step : (done : List SegmentData) (line : List ℕ) → bytes_eq line (codes "end") ≡ true → after_line (Between done) line ≡ Some (Ended done)
end_step done line is = cond-true (bytes_eq line (codes "end")) (Some (Ended done)) (option_map (λ s. inside done s false) (segment_of_words (words_of line))) is

pub head_step : (done : List SegmentData) (line : List ℕ) (head : Head) → bytes_eq line (codes "end") ≡ false → Some (segment_with head []) ≡ segment_of_words (words_of line)
    → after_line (Between done) line ≡ Some (inside done (segment_with head []) false)
head_step done line head other is =
    cond-false (bytes_eq line (codes "end")) (Some (Ended done)) (option_map (λ s. inside done s false) (segment_of_words (words_of line))) other
    ∙ ap (option_map (λ s. inside done s false)) (sym is)

-- ---- the first line

pub untitled : (text : List ℕ) → lines_of text ≡ text ∷ [] → segments_in text ≡ Err 1
unfolding segments_in
untitled text is = ap (read_lines Untitled 1) is

pub other_title : (text title rest : List ℕ) → lines_of text ≡ title ∷ lines_of rest → bytes_eq title (codes "zcld list 1") ≡ false → segments_in text ≡ Err 1
unfolding segments_in
other_title text title rest is other =
    line_bad Untitled 1 text title rest is (cond-false (bytes_eq title (codes "zcld list 1")) (Some (Between [])) None other)

pub titled : (text title rest : List ℕ) → lines_of text ≡ title ∷ lines_of rest → bytes_eq title (codes "zcld list 1") ≡ true → segments_in text ≡ read_lines (Between []) 2 (lines_of rest)
unfolding segments_in
titled text title rest is same =
    line_good Untitled (Between []) 1 text title rest is (cond-true (bytes_eq title (codes "zcld list 1")) (Some (Between [])) None same)

-- ---- results

pub StopsAt-weaker : (fault : ListFault) (P Q : ℕ → Type 0) → ((n : ℕ) → P n → Q n) → StopsAt fault P → StopsAt fault Q
StopsAt-weaker (BadLine n) P Q then stops = then n stops
StopsAt-weaker TooLarge P Q then stops = stops
StopsAt-weaker OutOfMemory P Q then stops = tt

pub spelled : {V : Type 0} (r : Result V ListFault) (items : V → List SegmentData) (text : List ℕ) → IfOk r (λ v. segments_in text ≡ Ok (items v)) → IfOk r (λ v. IsListText text (items v))
spelled (Ok v) items text ok = text_is_list text (items v) ok
spelled (Err fault) items text ok = tt

pub faulty : {V : Type 0} (r : Result V ListFault) (text : List ℕ) → IfErr r (λ fault. StopsAt fault (λ n. segments_in text ≡ Err n)) → IfErr r (IsListFault text)
faulty (Ok v) text err = tt
faulty (Err (BadLine n)) text err = bad_line n err (bad_line_first text n err)
faulty (Err TooLarge) text err = absurd err
faulty (Err OutOfMemory) text err = memory

same_ok : (a b : List SegmentData) → ◌≡◌ {A = Result (List SegmentData) ℕ} (Ok a) (Ok b) → a ≡ b
same_ok a b is = cc

no_ok : {A : Type 0} (n : ℕ) (a : List SegmentData) → ◌≡◌ {A = Result (List SegmentData) ℕ} (Err n) (Ok a) → A
no_ok n a is = absurd cc

-- the listing of segments is read as these, unless memory runs out
pub complete : {V : Type 0} (r : Result V ListFault) (items : V → List SegmentData) (text : List ℕ) → IfOk r (λ v. segments_in text ≡ Ok (items v)) → IfErr r (λ fault. StopsAt fault (λ n. segments_in text ≡ Err n))
    → (segments : List SegmentData) → IsListText text segments → MatchResult r (λ v. items v ≡ segments) (λ fault. fault ≡ OutOfMemory)
complete (Ok v) items text ok err segments is = same_ok (items v) segments (sym ok ∙ ap segments_in is.spells ∙ list_back segments is.fits)
complete (Err (BadLine n)) items text ok err segments is = no_ok n segments (sym err ∙ ap segments_in is.spells ∙ list_back segments is.fits)
complete (Err TooLarge) items text ok err segments is = absurd err
complete (Err OutOfMemory) items text ok err segments is = refl
