-- What the fault that is found means for the text: the lines before a bad line begin some certificate's text. Whether
-- a line is bad depends only on this line and those before it, so no certificate's text goes on with it.
use Rattle.std.proofs.Common.{◌≡◌, ◌⊎◌, ℕ, ◌+◌, ◌<◌, ◌≤◌, Some, None, Ok, Err, Bool, true, false, cond, Option, Result, List, [], ◌∷◌, ◌++◌, map, length, take, drop, ltb, eqb, inl, inr, refl, ap, ap₂, sym, subst, ◌∙◌, append_assoc, length-append, length-drop, length-take, arith}
use Rattle.std.specs.Prelude.{All, codes}
use Rattle.std.specs.List.{join_with_byte}
use Rattle.std.proofs.lemmas.Bool.{cond-false, eq-eqb, ltb-false, ltb-true}
use Rattle.std.proofs.lemmas.List.{drop-append-le, length-map}
use Rattle.std.proofs.lemmas.List.Elements.{All-cons, All-head, All-nil, All-same, All-tail}
use Rattle.std.proofs.lemmas.List.Splits.{join_with_byte-slice_split, slice_split_at}
use Rattle.text_lines.specs.Lines.{lines_of}
use Rattle.text_lines.proofs.PlainLaws.{IsLine}
use Rattle.text_lines.proofs.SplitLaws.{some_part}
use Rattle.pick_check.specs.Certified.{Certified}
use Rattle.pick_check.specs.Fault.{IsBeginning, IsCertFault, NoneGoesOn, bad_line, large, memory}
use Rattle.pick_check.specs.declared.fault.CertFault.{CertFault}
use Rattle.pick_check.specs.declared.fault.CertFault.TheVariants.{BadLine, OutOfMemory, TooLarge}
use Rattle.pick_check.specs.declared.saving.Saving.{Saving}
use Rattle.pick_check.specs.Text.{AreWithin, FitsSaving, FitsSlot, certificate_in, certificate_lines, certificate_of, certified, end_then, ends_here, last_in, last_lines, net_limits, net_line, net_in_line, net_then, only, price_limits, prices_in_line, read_first, read_then, read_while, saving_line, saving_in_line, savings_then, slot_line, slot_in_line, slots_then}
use Rattle.pick_check.proofs.LineLaws.{net_read, only_is, prices_read, saving_read, slot_read}
use Rattle.pick_check.proofs.TextLaws.{behind, behind_more, certificate_read, joined, last_ok, lines_are, lines_back, lines_read_back, no_ok, whole}
use Rattle.pick_check.proofs.WhileLaws.{all_same, step_first, while_all, while_is, while_same, while_short}

-- ---- faults

same_err : {B : Type 0} (a b : CertFault) → ◌≡◌ {A = Result B CertFault} (Err a) (Err b) → a ≡ b
same_err a b is = cc

same_number : (a b : ℕ) → BadLine a ≡ BadLine b → a ≡ b
same_number a b is = cc

wrong : {A B : Type 0} (y : B) (fault : CertFault) → ◌≡◌ {A = Result B CertFault} (Ok y) (Err fault) → A
wrong y fault is = absurd cc

certified_err : (savings : List Saving) (slots : List ℕ) (r : Result (List ℕ × ℕ) CertFault) (fault : CertFault) → certified savings slots r ≡ Err fault → r ≡ Err fault
certified_err savings slots (Ok last) fault is = wrong (whole savings slots last) fault is
certified_err savings slots (Err other) fault is = let same : other ≡ fault = same_err other fault is in ap Err same

-- ---- the line at which reading stops, and the lines before it

-- lines before a bad one, which has a number if the first of them has that number
record Stops (number : ℕ) (lines : List (List ℕ)) (fault : CertFault) (Begins : List (List ℕ) → Type 0) : Type 0 where
  before : List (List ℕ)
  bad : List ℕ
  others : List (List ℕ)
  parts : lines ≡ before ++ bad ∷ others
  names : BadLine (number + length before) ≡ fault
  begins : Begins before

-- a list of lines begins with these lines
abbrev BeginsWith : List (List ℕ) → List (List ℕ) → Type 0
BeginsWith lines before = (others : List (List ℕ)) × (lines ≡ before ++ others)

abbrev BeginsNet : List (List ℕ) → Type 0
BeginsNet before = (net : ℕ) × AreWithin net_limits (net ∷ []) × BeginsWith (net_line net ∷ codes "end" ∷ []) before

abbrev BeginsLast : List (List ℕ) → Type 0
BeginsLast before = (prices : List ℕ) × (net : ℕ) × AreWithin price_limits prices × AreWithin net_limits (net ∷ []) × BeginsWith (last_lines prices net) before

-- reading stops at the first line
at_once : (number : ℕ) (line : List ℕ) (lines : List (List ℕ)) (fault : CertFault) (Begins : List (List ℕ) → Type 0) → BadLine number ≡ fault → Begins [] → Stops number (line ∷ lines) fault Begins
at_once number line lines fault Begins is begins =
    let same : number + 0 ≡ number = omega arith in
    record {
      before = [];
      bad = line;
      others = lines;
      parts = refl;
      names = ap BadLine same ∙ is;
      begins = begins;
    }

-- reading stops after the first line
one_later : (number : ℕ) (line : List ℕ) (lines : List (List ℕ)) (fault : CertFault) (Begins Later : List (List ℕ) → Type 0) → Stops (number + 1) lines fault Later → ((before : List (List ℕ)) → Later before → Begins (line ∷ before)) → Stops number (line ∷ lines) fault Begins
one_later number line lines fault Begins Later later onto =
    let same : number + length (line ∷ later.before) ≡ number + 1 + length later.before = omega arith in
    record {
      before = line ∷ later.before;
      bad = later.bad;
      others = later.others;
      parts = ap (λ ls. line ∷ ls) later.parts;
      names = ap BadLine same ∙ later.names;
      begins = onto later.before later.begins;
    }

abbrev zero_prices : List ℕ
zero_prices = 0 ∷ 0 ∷ 0 ∷ []

zeros_fit : AreWithin price_limits zero_prices
zeros_fit = (omega arith, (omega arith, (omega arith, tt)))

zero_fits : AreWithin net_limits (0 ∷ [])
zero_fits = (omega arith, tt)

end_stops : (number : ℕ) (prices : List ℕ) (net : ℕ) (lines : List (List ℕ)) (fault : CertFault) → 0 < length lines → end_then number prices net lines ≡ Err fault → Stops number lines fault (BeginsWith (codes "end" ∷ []))
end_stops number prices net [] fault some is = absurd (omega (arith, some))
end_stops number prices net (line ∷ []) fault some is = at_once number line [] fault (BeginsWith (codes "end" ∷ [])) (same_err (BadLine number) fault is) (codes "end" ∷ [], refl)
end_stops number prices net (line ∷ (next ∷ lines)) fault some is = either (only (codes "end") line) refl is
  where
    behind_end : (b : Bool) → cond b (last_ok prices net) (Err (BadLine (number + 1))) ≡ Err fault → BadLine (number + 1) ≡ fault
    behind_end true h = let last : List ℕ × ℕ = (prices, net) in wrong last fault h
    behind_end false h = same_err (BadLine (number + 1)) fault h

    either : (o : Option (List ℕ)) → only (codes "end") line ≡ o → read_then number o (λ end. cond (ends_here (next ∷ lines)) (last_ok prices net) (Err (BadLine (number + 1)))) ≡ Err fault → Stops number (line ∷ (next ∷ lines)) fault (BeginsWith (codes "end" ∷ []))
    either None bad h = at_once number line (next ∷ lines) fault (BeginsWith (codes "end" ∷ [])) (same_err (BadLine number) fault h) (codes "end" ∷ [], refl)
    either (Some x) good h =
        one_later number line (next ∷ lines) fault (BeginsWith (codes "end" ∷ [])) (BeginsWith [])
        (at_once (number + 1) next lines fault (BeginsWith []) (behind_end (ends_here (next ∷ lines)) h) ([], refl))
        (λ before later. (later.0, ap₂ (λ l ls. l ∷ ls) (sym (only_is (codes "end") line x good)) later.1))

net_stops : (number : ℕ) (prices : List ℕ) (lines : List (List ℕ)) (fault : CertFault) → 0 < length lines → net_then number prices lines ≡ Err fault → Stops number lines fault BeginsNet
net_stops number prices [] fault some is = absurd (omega (arith, some))
net_stops number prices (line ∷ []) fault some is = at_once number line [] fault BeginsNet (same_err (BadLine number) fault is) (0, zero_fits, (net_line 0 ∷ codes "end" ∷ [], refl))
net_stops number prices (line ∷ (next ∷ lines)) fault some is = either (net_in_line line) refl is
  where
    either : (o : Option ℕ) → net_in_line line ≡ o → read_then number o (λ net. end_then (number + 1) prices net (next ∷ lines)) ≡ Err fault → Stops number (line ∷ (next ∷ lines)) fault BeginsNet
    either None bad h = at_once number line (next ∷ lines) fault BeginsNet (same_err (BadLine number) fault h) (0, zero_fits, (net_line 0 ∷ codes "end" ∷ [], refl))
    either (Some net) good h =
        let read = net_read line net good in
        one_later number line (next ∷ lines) fault BeginsNet (BeginsWith (codes "end" ∷ []))
        (end_stops (number + 1) prices net (next ∷ lines) fault (omega arith) h)
        (λ before later. (net, read.1, (later.0, ap₂ (λ l ls. l ∷ ls) (sym read.0) later.1)))

last_stops : (number : ℕ) (lines : List (List ℕ)) (fault : CertFault) → 0 < length lines → last_in number lines ≡ Err fault → Stops number lines fault BeginsLast
unfolding last_in
last_stops number [] fault some is = absurd (omega (arith, some))
last_stops number (line ∷ []) fault some is = at_once number line [] fault BeginsLast (same_err (BadLine number) fault is) (zero_prices, 0, zeros_fit, zero_fits, (last_lines zero_prices 0, refl))
last_stops number (line ∷ (next ∷ lines)) fault some is = either (prices_in_line line) refl is
  where
    either : (o : Option (List ℕ)) → prices_in_line line ≡ o → read_then number o (λ prices. net_then (number + 1) prices (next ∷ lines)) ≡ Err fault → Stops number (line ∷ (next ∷ lines)) fault BeginsLast
    either None bad h = at_once number line (next ∷ lines) fault BeginsLast (same_err (BadLine number) fault h) (zero_prices, 0, zeros_fit, zero_fits, (last_lines zero_prices 0, refl))
    either (Some prices) good h =
        let read = prices_read line prices good in
        one_later number line (next ∷ lines) fault BeginsLast BeginsNet
        (net_stops (number + 1) prices (next ∷ lines) fault (omega arith) h)
        (λ before later. (prices, later.0, read.1, later.1, (later.2.0, ap₂ (λ l ls. l ∷ ls) (sym read.0) later.2.1)))

-- lines of these savings and slots, and then lines that begin the last ones, begin a certificate
beginning : (savings : List Saving) (slots : List ℕ) (before : List (List ℕ)) → All FitsSaving savings → All FitsSlot slots → length slots ≤ 256 → BeginsLast before → IsBeginning (codes "zcld certificate 1" ∷ behind savings slots before)
beginning savings slots before savings_fit slots_fit few last = record {
  savings = savings;
  certificate = record { slots = slots; prices = last.0; net = last.1 };
  others = last.4.0;
  begins = ap (λ ls. codes "zcld certificate 1" ∷ behind savings slots ls) last.4.1 ∙ ap (λ ls. codes "zcld certificate 1" ∷ ls) (sym (behind_more savings slots before last.4.0));
  savings_fit = savings_fit;
  certificate_fits = record { few = few; slots_fit = slots_fit; prices_fit = last.2; net_fits = last.3 };
}

nothing_yet : IsBeginning []
nothing_yet = record {
  savings = [];
  certificate = record { slots = []; prices = zero_prices; net = 0 };
  others = certificate_lines [] (record { slots = []; prices = zero_prices; net = 0 });
  begins = refl;
  savings_fit = All-nil FitsSaving;
  certificate_fits = record { few = omega arith; slots_fit = All-nil FitsSlot; prices_fit = zeros_fit; net_fits = zero_fits };
}

savings_stop : (title : List ℕ) (lines : List (List ℕ)) (fault : CertFault) → title ≡ codes "zcld certificate 1" → 0 < length lines → savings_then lines ≡ Err fault → Stops 1 (title ∷ lines) fault IsBeginning
savings_stop title lines fault is some h =
    let found = read_while saving_in_line lines in
    let others = drop (length found) lines in
    let chosen = take 256 (read_while slot_in_line others) in
    let left = drop (length chosen) others in
    let savings = while_all saving_in_line saving_line FitsSaving saving_read lines in
    let slots = while_is slot_in_line slot_line FitsSlot slot_read 256 others in
    let few : length chosen ≤ 256 = omega (arith, length-take 256 (read_while slot_in_line others)) in
    let others_size = length-drop (length found) lines in
    let left_size = length-drop (length chosen) others in
    let short = while_short saving_in_line lines some in
    let slots_short = while_short slot_in_line others (omega (arith, others_size, short)) in
    let chosen_size = length-take 256 (read_while slot_in_line others) in
    let last = last_stops (length found + length chosen + 2) left fault (omega (arith, left_size, chosen_size, slots_short)) (certified_err found chosen (last_in (length found + length chosen + 2) left) fault h) in
    let size = length-append (map saving_line found) (map slot_line chosen ++ last.before) in
    let slots_size = length-append (map slot_line chosen) last.before in
    let one = length-map found saving_line in
    let two = length-map chosen slot_line in
    let number : 1 + length (title ∷ behind found chosen last.before) ≡ length found + length chosen + 2 + length last.before = omega (arith, size, slots_size, one, two) in
    let P : List (List ℕ) → Type 0 = IsBeginning in
    record {
      before = title ∷ behind found chosen last.before;
      bad = last.bad;
      others = last.others;
      parts = ap (λ ls. title ∷ ls) (savings.0 ∙ ap (λ ls. map saving_line found ++ ls) (slots.0 ∙ ap (λ ls. map slot_line chosen ++ ls) last.parts) ∙ sym (behind_more found chosen last.before (last.bad ∷ last.others)));
      names = ap BadLine number ∙ last.names;
      begins = subst (λ t. P (t ∷ behind found chosen last.before)) (sym is) (beginning found chosen last.before savings.1 slots.1 few last.begins);
    }

lines_stop : (lines : List (List ℕ)) (fault : CertFault) → 0 < length lines → certificate_of lines ≡ Err fault → Stops 1 lines fault IsBeginning
unfolding certificate_of
lines_stop [] fault some is = absurd (omega (arith, some))
lines_stop (line ∷ []) fault some is = at_once 1 line [] fault IsBeginning (same_err (BadLine 1) fault is) nothing_yet
lines_stop (line ∷ (next ∷ lines)) fault some is = either (only (codes "zcld certificate 1") line) refl is
  where
    either : (o : Option (List ℕ)) → only (codes "zcld certificate 1") line ≡ o → read_then 1 o (λ title. savings_then (next ∷ lines)) ≡ Err fault → Stops 1 (line ∷ (next ∷ lines)) fault IsBeginning
    either None bad h = at_once 1 line (next ∷ lines) fault IsBeginning (same_err (BadLine 1) fault h) nothing_yet
    either (Some x) good h = savings_stop line (next ∷ lines) fault (only_is (codes "zcld certificate 1") line x good) (omega arith) h

-- ---- the number of a bad line

low : {Begins : List (List ℕ) → Type 0} (number k : ℕ) (lines : List (List ℕ)) → Stops number lines (BadLine k) Begins → number ≤ k
low number k lines stops = let same = same_number (number + length stops.before) k stops.names in omega (arith, same)

some_left : (xs : List (List ℕ)) (a : List ℕ) (al : List (List ℕ)) → 0 < length (xs ++ a ∷ al)
some_left xs a al = omega (arith, length-append xs (a ∷ al))

-- whether a line is read or bad doesn't depend on what follows the last of these lines
step_same : {A B : Type 0} (number k : ℕ) (o : Option A) (f g : A → Result B CertFault) → ((x : A) → f x ≡ Err (BadLine k) → g x ≡ Err (BadLine k)) → read_then number o f ≡ Err (BadLine k) → read_then number o g ≡ Err (BadLine k)
step_same number k None f g same h = h
step_same number k (Some x) f g same h = same x h

module _ (a : List ℕ) (al : List (List ℕ)) (b : List ℕ) (bl : List (List ℕ)) (k : ℕ) where
  first_same : {A B : Type 0} (read : List ℕ → Option A) (number : ℕ) (x : List ℕ) (xs : List (List ℕ)) (f : A → List (List ℕ) → Result B CertFault) → ((y : A) → f y (xs ++ a ∷ al) ≡ Err (BadLine k) → f y (xs ++ b ∷ bl) ≡ Err (BadLine k)) → read_then number (read_first read (x ∷ (xs ++ a ∷ al))) (λ y. f y (xs ++ a ∷ al)) ≡ Err (BadLine k) → read_then number (read_first read (x ∷ (xs ++ b ∷ bl))) (λ y. f y (xs ++ b ∷ bl)) ≡ Err (BadLine k)
  first_same read number x xs f same h =
      let left = step_first read x (xs ++ a ∷ al) (some_left xs a al) in
      let right = step_first read x (xs ++ b ∷ bl) (some_left xs b bl) in
      ap (λ o. read_then number o (λ y. f y (xs ++ b ∷ bl))) right
      ∙ step_same number k (read x) (λ y. f y (xs ++ a ∷ al)) (λ y. f y (xs ++ b ∷ bl)) same (ap (λ o. read_then number o (λ y. f y (xs ++ a ∷ al))) (sym left) ∙ h)

  not_end : (line : List ℕ) (lines : List (List ℕ)) → 0 < length lines → ends_here (line ∷ lines) ≡ false
  not_end line [] some = absurd (omega (arith, some))
  not_end line (next ∷ lines) some = refl

  end_chosen : (c : Bool) (y : List ℕ × ℕ) (n : ℕ) → cond c (Ok y) (Err (BadLine n)) ≡ Err (BadLine k) → n ≡ k
  end_chosen true y n h = wrong y (BadLine k) h
  end_chosen false y n h = same_number n k (same_err (BadLine n) (BadLine k) h)

  nothing_left : (prices : List ℕ) (net number : ℕ) (xs : List (List ℕ)) → number + 1 + length xs ≡ k + 1 → cond (ends_here (xs ++ a ∷ al)) (last_ok prices net) (Err (BadLine (number + 1))) ≡ Err (BadLine k) → cond (ends_here (xs ++ b ∷ bl)) (last_ok prices net) (Err (BadLine (number + 1))) ≡ Err (BadLine k)
  nothing_left prices net number [] size h = let last : List ℕ × ℕ = (prices, net) in let same = end_chosen (ends_here (a ∷ al)) last (number + 1) h in absurd (omega (arith, same, size))
  nothing_left prices net number (x ∷ xs) size h =
      let last : List ℕ × ℕ = (prices, net) in
      cond-false (ends_here (x ∷ (xs ++ b ∷ bl))) (last_ok prices net) (Err (BadLine (number + 1))) (not_end x (xs ++ b ∷ bl) (some_left xs b bl))
      ∙ ap (λ n. Err (BadLine n)) (end_chosen (ends_here (x ∷ (xs ++ a ∷ al))) last (number + 1) h)

  end_same : (prices : List ℕ) (net number : ℕ) (xs : List (List ℕ)) → number + length xs ≡ k + 1 → end_then number prices net (xs ++ a ∷ al) ≡ Err (BadLine k) → end_then number prices net (xs ++ b ∷ bl) ≡ Err (BadLine k)
  end_same prices net number [] size h = let le = low number k (a ∷ al) (end_stops number prices net (a ∷ al) (BadLine k) (omega arith) h) in absurd (omega (arith, le, size))
  end_same prices net number (x ∷ xs) size h =
      first_same (only (codes "end")) number x xs (λ end lines. cond (ends_here lines) (last_ok prices net) (Err (BadLine (number + 1)))) (λ end h'. nothing_left prices net number xs (omega (arith, size)) h') h

  net_same : (prices : List ℕ) (number : ℕ) (xs : List (List ℕ)) → number + length xs ≡ k + 1 → net_then number prices (xs ++ a ∷ al) ≡ Err (BadLine k) → net_then number prices (xs ++ b ∷ bl) ≡ Err (BadLine k)
  net_same prices number [] size h = let le = low number k (a ∷ al) (net_stops number prices (a ∷ al) (BadLine k) (omega arith) h) in absurd (omega (arith, le, size))
  net_same prices number (x ∷ xs) size h =
      first_same net_in_line number x xs (λ net lines. end_then (number + 1) prices net lines) (λ net h'. end_same prices net (number + 1) xs (omega (arith, size)) h') h

  last_same : (number : ℕ) (xs : List (List ℕ)) → number + length xs ≡ k + 1 → last_in number (xs ++ a ∷ al) ≡ Err (BadLine k) → last_in number (xs ++ b ∷ bl) ≡ Err (BadLine k)
  unfolding last_in
  last_same number [] size h = let le = low number k (a ∷ al) (last_stops number (a ∷ al) (BadLine k) (omega arith) h) in absurd (omega (arith, le, size))
  last_same number (x ∷ xs) size h =
      first_same prices_in_line number x xs (λ prices lines. net_then (number + 1) prices lines) (λ prices h'. net_same prices (number + 1) xs (omega (arith, size)) h') h

  -- the savings and the slots are the same, since fewer lines than these are read
  slots_same : (savings : List Saving) (xs : List (List ℕ)) → length savings + 2 + length xs ≡ k + 1 → slots_then savings (xs ++ a ∷ al) ≡ Err (BadLine k) → slots_then savings (xs ++ b ∷ bl) ≡ Err (BadLine k)
  slots_same savings xs size h =
      let left = xs ++ a ∷ al in
      let right = xs ++ b ∷ bl in
      let slots = take 256 (read_while slot_in_line left) in
      let number = length savings + length slots + 2 in
      let chosen_size = length-take 256 (read_while slot_in_line left) in
      let short = while_short slot_in_line left (some_left xs a al) in
      let left_size = length-drop (length slots) left in
      let failed = certified_err savings slots (last_in number (drop (length slots) left)) (BadLine k) h in
      let le = low number k (drop (length slots) left) (last_stops number (drop (length slots) left) (BadLine k) (omega (arith, left_size, chosen_size, short)) failed) in
      let few : length slots < length xs = omega (arith, le, size) in
      let same = while_same slot_in_line 256 xs a al b bl few in
      let zs = drop (length slots) xs in
      let zs_size = length-drop (length slots) xs in
      let on_left = drop-append-le (length slots) xs (a ∷ al) (omega (arith, few)) in
      let on_right = drop-append-le (length slots) xs (b ∷ bl) (omega (arith, few)) in
      ap (λ ys. certified savings ys (last_in (length savings + length ys + 2) (drop (length ys) right))) same
      ∙ ap (λ ls. certified savings slots (last_in number ls)) on_right
      ∙ ap (certified savings slots) (last_same number zs (omega (arith, size, few, zs_size)) (ap (last_in number) (sym on_left) ∙ failed))

  savings_same : (xs : List (List ℕ)) → 2 + length xs ≡ k + 1 → savings_then (xs ++ a ∷ al) ≡ Err (BadLine k) → savings_then (xs ++ b ∷ bl) ≡ Err (BadLine k)
  savings_same xs size h =
      let left = xs ++ a ∷ al in
      let right = xs ++ b ∷ bl in
      let savings = read_while saving_in_line left in
      let others = drop (length savings) left in
      let slots = take 256 (read_while slot_in_line others) in
      let number = length savings + length slots + 2 in
      let others_size = length-drop (length savings) left in
      let slots_size = length-drop (length slots) others in
      let chosen_size = length-take 256 (read_while slot_in_line others) in
      let short = while_short saving_in_line left (some_left xs a al) in
      let slots_short = while_short slot_in_line others (omega (arith, others_size, short)) in
      let failed = certified_err savings slots (last_in number (drop (length slots) others)) (BadLine k) h in
      let le = low number k (drop (length slots) others) (last_stops number (drop (length slots) others) (BadLine k) (omega (arith, slots_size, chosen_size, slots_short)) failed) in
      let few : length savings < length xs = omega (arith, le, size) in
      let same = all_same saving_in_line xs a al b bl few in
      let zs_size = length-drop (length savings) xs in
      let on_left = drop-append-le (length savings) xs (a ∷ al) (omega (arith, few)) in
      let on_right = drop-append-le (length savings) xs (b ∷ bl) (omega (arith, few)) in
      ap (λ ys. slots_then ys (drop (length ys) right)) same
      ∙ ap (slots_then savings) on_right
      ∙ slots_same savings (drop (length savings) xs) (omega (arith, size, few, zs_size)) (ap (slots_then savings) (sym on_left) ∙ h)

  lines_same : (xs : List (List ℕ)) → 1 + length xs ≡ k + 1 → certificate_of (xs ++ a ∷ al) ≡ Err (BadLine k) → certificate_of (xs ++ b ∷ bl) ≡ Err (BadLine k)
  unfolding certificate_of
  lines_same [] size h = let le = low 1 k (a ∷ al) (lines_stop (a ∷ al) (BadLine k) (omega arith) h) in absurd (omega (arith, le, size))
  lines_same (x ∷ xs) size h =
      first_same (only (codes "zcld certificate 1")) 1 x xs (λ title lines. savings_then lines) (λ title h'. savings_same xs (omega (arith, size)) h') h

-- ---- the whole text

-- no certificate's text goes on with the bad line
none_goes_on : (before : List (List ℕ)) (rest : List ℕ) → All IsLine before → certificate_of (before ++ lines_of rest) ≡ Err (BadLine (length before + 1)) → NoneGoesOn before rest
none_goes_on before rest plain stops line more is goes =
    let lines = lines_are goes.savings goes.certificate goes.savings_fit goes.certificate_fits in
    let begun = before ++ line ∷ [] in
    let all = All-same IsLine (begun ++ goes.others) (certificate_lines goes.savings goes.certificate) (sym goes.begins) lines in
    let here : IsLine line = last_of before line goes.others all in
    let after = some_part (λ b. eqb b 10) more in
    let cut = ap lines_of is ∙ slice_split_at (λ b. eqb b 10) line 10 more here (eq-eqb 10 10 refl) ∙ ap (λ ls. line ∷ ls) after.2 in
    let moved = ap (λ ls. before ++ ls) cut ∙ sym (append_assoc before (line ∷ []) (after.0 ∷ after.1)) in
    let size = length-append before (line ∷ []) in
    let stopped = ap certificate_of (sym moved) ∙ stops in
    let last = some_list goes.others in
    let also = lines_same after.0 after.1 last.0 last.1 (length before + 1) begun (omega (arith, size)) stopped in
    let whole = ap (λ ls. certificate_of (ls ++ [] ∷ [])) goes.begins ∙ ap certificate_of (append_assoc begun goes.others ([] ∷ []) ∙ ap (λ ls. begun ++ ls) last.2) ∙ also in
    let y : List Saving × Certified = (goes.savings, goes.certificate) in
    wrong y (BadLine (length before + 1)) (sym (lines_read_back goes.savings goes.certificate goes.savings_fit goes.certificate_fits) ∙ whole)
  where
    last_of : (xs : List (List ℕ)) (x : List ℕ) (ys : List (List ℕ)) → All IsLine ((xs ++ x ∷ []) ++ ys) → IsLine x
    last_of [] x ys all = All-head IsLine x ys all
    last_of (z ∷ xs) x ys all = last_of xs x ys (All-tail IsLine z ((xs ++ x ∷ []) ++ ys) all)

    some_list : (xs : List (List ℕ)) → (y : List ℕ) × (ys : List (List ℕ)) × (xs ++ [] ∷ [] ≡ y ∷ ys)
    some_list [] = ([], [], refl)
    some_list (x ∷ xs) = (x, xs ++ [] ∷ [], refl)

plain_before : (before : List (List ℕ)) → IsBeginning before → All IsLine before
plain_before before is =
    front before is.others (All-same IsLine (before ++ is.others) (certificate_lines is.savings is.certificate) (sym is.begins) (lines_are is.savings is.certificate is.savings_fit is.certificate_fits))
  where
    front : (xs ys : List (List ℕ)) → All IsLine (xs ++ ys) → All IsLine xs
    front [] ys all = All-nil IsLine
    front (x ∷ xs) ys all = All-cons IsLine x xs (All-head IsLine x (xs ++ ys) all) (front xs ys (All-tail IsLine x (xs ++ ys) all))

same_fault : (text : List ℕ) (a b : CertFault) → a ≡ b → IsCertFault text a → IsCertFault text b
same_fault text a b same here = let P : CertFault → Type 0 = IsCertFault text in subst P same here

text_stops : (text : List ℕ) (fault : CertFault) → length text ≤ 8388608 → certificate_in text ≡ Err fault → certificate_of (lines_of text) ≡ Err fault → IsCertFault text fault
text_stops text fault small found h =
    let some = some_part (λ b. eqb b 10) text in
    let size = ap length some.2 in
    let stops = lines_stop (lines_of text) fault (omega (arith, size)) h in
    let rest = join_with_byte 10 (stops.bad ∷ stops.others) in
    let spells = sym (join_with_byte-slice_split 10 text) ∙ ap (join_with_byte 10) stops.parts ∙ joined stops.before stops.bad stops.others in
    let plain = plain_before stops.before stops.begins in
    let number : 1 + length stops.before ≡ length stops.before + 1 = omega arith in
    let named = ap BadLine (sym number) ∙ stops.names in
    let again = ap certificate_of (sym (ap lines_of spells ∙ lines_back stops.before rest plain)) ∙ h ∙ ap Err (sym named) in
    same_fault text (BadLine (length stops.before + 1)) fault named
    (bad_line stops.before rest spells stops.begins (none_goes_on stops.before rest plain again)
    (λ savings c is. let y : List Saving × Certified = (savings, c) in no_ok fault y (sym found ∙ certificate_read text savings c is small)))

limited : (text : List ℕ) (fault : CertFault) (b : Bool) → ltb 8388608 (length text) ≡ b → certificate_in text ≡ Err fault → cond b (Err TooLarge) (certificate_of (lines_of text)) ≡ Err fault → IsCertFault text fault
limited text fault true is found h = same_fault text TooLarge fault (same_err TooLarge fault h) (large (ltb-true 8388608 (length text) is))
limited text fault false is found h = text_stops text fault (ltb-false 8388608 (length text) is) found h

-- a fault that is found in the text, or running out of memory
pub fault_read : (text : List ℕ) (fault : CertFault) → (fault ≡ OutOfMemory) ⊎ (certificate_in text ≡ Err fault) → IsCertFault text fault
unfolding certificate_in
fault_read text fault (inl want) = same_fault text OutOfMemory fault (sym want) memory
fault_read text fault (inr found) = limited text fault (ltb 8388608 (length text)) refl found found
