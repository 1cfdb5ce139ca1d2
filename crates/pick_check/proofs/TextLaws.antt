-- The text of a certificate spells it, and no other text does.
use Rattle.std.proofs.Common.{◌≡◌, ◌⊎◌, ℕ, ◌+◌, ◌<◌, ◌≤◌, Some, None, Ok, Err, Bool, true, false, cond, Option, Result, List, [], ◌∷◌, ◌++◌, map, length, take, drop, ltb, eqb, inl, inr, refl, ap, ap₂, sym, subst, ◌∙◌, append-nil, append_assoc, length-append, length-take, arith}
use Rattle.std.specs.Prelude.{All, codes}
use Rattle.std.specs.List.{join_with_byte}
use Rattle.std.proofs.lemmas.Bool.{cond-false, cond-true, eq-eqb, false≢true, le-ltb, lt-ltb}
use Rattle.std.proofs.lemmas.List.{drop_at, length-map, take_all}
use Rattle.std.proofs.lemmas.List.Elements.{All-append, All-cons, All-head, All-map, All-nil, All-tail, All-weaker}
use Rattle.std.proofs.lemmas.List.Splits.{join_with_byte-slice_split, slice_split_at}
use Rattle.std.proofs.lemmas.Slice.Eq.{bytes_eq-Decides}
use Rattle.text_lines.specs.Lines.{lines_of}
use Rattle.text_lines.proofs.PlainLaws.{IsLine}
use Rattle.pick_check.specs.Certified.{Certified}
use Rattle.pick_check.specs.declared.fault.CertFault.{CertFault}
use Rattle.pick_check.specs.declared.fault.CertFault.TheVariants.{BadLine, OutOfMemory, TooLarge}
use Rattle.pick_check.specs.declared.saving.Saving.{Saving}
use Rattle.pick_check.specs.Text.{AreWithin, FitsCertified, FitsSaving, FitsSlot, IsCertText, certificate_in, certificate_lines, certificate_of, certificate_text, certified, end_then, ends_here, last_in, last_lines, net_limits, net_line, net_in_line, net_then, only, price_limits, price_line, prices_in_line, read_first, read_then, read_while, saving_line, saving_in_line, savings_then, slot_line, slot_in_line, slots_then, text_of}
use Rattle.pick_check.proofs.LineLaws.{net_back, net_is_line, net_read, only_is, price_is_line, price_no_saving, price_no_slot, prices_back, prices_read, saving_back, saving_is_line, saving_read, slot_back, slot_is_line, slot_no_saving, slot_read}
use Rattle.pick_check.proofs.PlainLaws.{end_line, title_line}
use Rattle.pick_check.proofs.WhileLaws.{first_split, step_first, while_all, while_back, while_is}

-- ---- what a result came from

pub no_ok : {A B : Type 0} (fault : CertFault) (y : B) → ◌≡◌ {A = Result B CertFault} (Err fault) (Ok y) → A
no_ok fault y is = absurd cc

same_ok : {B : Type 0} (x y : B) → ◌≡◌ {A = Result B CertFault} (Ok x) (Ok y) → x ≡ y
same_ok x y is = cc

then_ok : {A B : Type 0} (number : ℕ) (o : Option A) (f : A → Result B CertFault) (y : B) → read_then number o f ≡ Ok y → (x : A) × (o ≡ Some x) × (f x ≡ Ok y)
then_ok number None f y is = no_ok (BadLine number) y is
then_ok number (Some x) f y is = (x, refl, is)

chosen_ok : {B : Type 0} (b : Bool) (x y : B) (fault : CertFault) → cond b (Ok x) (Err fault) ≡ Ok y → (b ≡ true) × (x ≡ y)
chosen_ok true x y fault is = (refl, same_ok x y is)
chosen_ok false x y fault is = no_ok fault y is

first_is : {A : Type 0} (read : List ℕ → Option A) (lines : List (List ℕ)) (x : A) → read_first read lines ≡ Some x → (line : List ℕ) × (lines ≡ line ∷ drop 1 lines) × (read line ≡ Some x)
first_is read lines x is =
    let parts = first_split read lines x is in
    (parts.0, parts.3 ∙ ap (λ ls. parts.0 ∷ ls) (sym (ap (drop 1) parts.3)), parts.4)

-- the last lines were read
abbrev pub last_ok : List ℕ → ℕ → Result (List ℕ × ℕ) CertFault
last_ok prices net = Ok (prices, net)

-- ---- lines, each with its line feed

pub lines_back : (lines : List (List ℕ)) (rest : List ℕ) → All IsLine lines → lines_of (text_of lines ++ rest) ≡ lines ++ lines_of rest
lines_back [] rest lack = refl
lines_back (line ∷ lines) rest lack =
    ap lines_of (append_assoc (line ++ 10 ∷ []) (text_of lines) rest ∙ append_assoc line (10 ∷ []) (text_of lines ++ rest))
    ∙ slice_split_at (λ b. eqb b 10) line 10 (text_of lines ++ rest) (All-head IsLine line lines lack) (eq-eqb 10 10 refl)
    ∙ ap (λ ls. line ∷ ls) (lines_back lines rest (All-tail IsLine line lines lack))

pub text_lines : (lines : List (List ℕ)) → All IsLine lines → lines_of (text_of lines) ≡ lines ++ [] ∷ []
text_lines [] lack = refl
text_lines (line ∷ lines) lack =
    ap lines_of (append_assoc line (10 ∷ []) (text_of lines))
    ∙ slice_split_at (λ b. eqb b 10) line 10 (text_of lines) (All-head IsLine line lines lack) (eq-eqb 10 10 refl)
    ∙ ap (λ ls. line ∷ ls) (text_lines lines (All-tail IsLine line lines lack))

pub joined : (lines : List (List ℕ)) (rest : List ℕ) (more : List (List ℕ)) → join_with_byte 10 (lines ++ rest ∷ more) ≡ text_of lines ++ join_with_byte 10 (rest ∷ more)
joined [] rest more = refl
joined (line ∷ []) rest more = sym (append_assoc (line ++ 10 ∷ []) [] (join_with_byte 10 (rest ∷ more)) ∙ append_assoc line (10 ∷ []) (join_with_byte 10 (rest ∷ more)))
joined (line ∷ (next ∷ lines)) rest more =
    ap (λ t. line ++ 10 ∷ t) (joined (next ∷ lines) rest more)
    ∙ sym (append_assoc (line ++ 10 ∷ []) (text_of (next ∷ lines)) (join_with_byte 10 (rest ∷ more)) ∙ append_assoc line (10 ∷ []) (text_of (next ∷ lines) ++ join_with_byte 10 (rest ∷ more)))

-- ---- a certificate's lines are read as that certificate

last_back : (number : ℕ) (prices : List ℕ) (net : ℕ) → AreWithin price_limits prices → AreWithin net_limits (net ∷ []) → last_in number (last_lines prices net ++ [] ∷ []) ≡ Ok (prices, net)
unfolding last_in
last_back number prices net prices_fit net_fits =
    let end : List (List ℕ) = codes "end" ∷ [] ∷ [] in
    ap (λ o. read_then number o (λ ps. net_then (number + 1) ps (net_line net ∷ end))) (prices_back prices prices_fit)
    ∙ ap (λ o. read_then (number + 1) o (λ n. end_then (number + 1 + 1) prices n end)) (net_back net net_fits)

-- the line after the savings is no saving's, and the line after the slots is no slot's
no_saving : (slots prices : List ℕ) (others : List (List ℕ)) → All FitsSlot slots → AreWithin price_limits prices → 0 < length others → read_first saving_in_line (map slot_line slots ++ price_line prices ∷ others) ≡ None
no_saving [] prices others slots_fit prices_fit some = step_first saving_in_line (price_line prices) others some ∙ price_no_saving prices prices_fit
no_saving (slot ∷ slots) prices others slots_fit prices_fit some =
    let size = length-append (map slot_line slots) (price_line prices ∷ others) in
    step_first saving_in_line (slot_line slot) (map slot_line slots ++ price_line prices ∷ others) (omega (arith, size)) ∙ slot_no_saving slot (All-head FitsSlot slot slots slots_fit)

slots_back : (savings : List Saving) (slots : List ℕ) (lines : List (List ℕ)) → All FitsSlot slots → length slots ≤ 256 → 0 < length lines → read_first slot_in_line lines ≡ None → slots_then savings (map slot_line slots ++ lines) ≡ certified savings slots (last_in (length savings + length slots + 2) lines)
slots_back savings slots lines fits few some none =
    let all = map slot_line slots ++ lines in
    let read = while_back slot_in_line slot_line slots lines (All-weaker FitsSlot (λ slot. slot_in_line (slot_line slot) ≡ Some slot) slot_back slots fits) some none in
    ap (λ xs. certified savings xs (last_in (length savings + length xs + 2) (drop (length xs) all))) (ap (take 256) read ∙ take_all 256 slots few)
    ∙ ap (λ ls. certified savings slots (last_in (length savings + length slots + 2) ls)) (drop_at (map slot_line slots) lines (length slots) (length-map slots slot_line))

savings_back : (savings : List Saving) (lines : List (List ℕ)) → All FitsSaving savings → 0 < length lines → read_first saving_in_line lines ≡ None → savings_then (map saving_line savings ++ lines) ≡ slots_then savings lines
savings_back savings lines fits some none =
    let all = map saving_line savings ++ lines in
    let read = while_back saving_in_line saving_line savings lines (All-weaker FitsSaving (λ s. saving_in_line (saving_line s) ≡ Some s) saving_back savings fits) some none in
    ap (λ xs. slots_then xs (drop (length xs) all)) read
    ∙ ap (slots_then savings) (drop_at (map saving_line savings) lines (length savings) (length-map savings saving_line))

-- the lines after the first, as they are read
abbrev pub behind : List Saving → List ℕ → List (List ℕ) → List (List ℕ)
behind savings slots last = map saving_line savings ++ (map slot_line slots ++ last)

pub behind_more : (savings : List Saving) (slots : List ℕ) (last more : List (List ℕ)) → behind savings slots last ++ more ≡ behind savings slots (last ++ more)
behind_more savings slots last more =
    append_assoc (map saving_line savings) (map slot_line slots ++ last) more ∙ ap (λ ls. map saving_line savings ++ ls) (append_assoc (map slot_line slots) last more)

pub lines_read_back : (savings : List Saving) (c : Certified) → All FitsSaving savings → FitsCertified c → certificate_of (certificate_lines savings c ++ [] ∷ []) ≡ Ok (savings, c)
unfolding certificate_of
lines_read_back savings c fits is =
    let last = last_lines c.prices c.net ++ [] ∷ [] in
    let all = behind savings c.slots (last_lines c.prices c.net) ++ [] ∷ [] in
    let size = length-append (behind savings c.slots (last_lines c.prices c.net)) ([] ∷ []) in
    let slots_size = length-append (map slot_line c.slots) last in
    ap (λ o. read_then 1 o (λ t. savings_then all)) (step_first (only (codes "zcld certificate 1")) (codes "zcld certificate 1") all (omega (arith, size)))
    ∙ ap savings_then (behind_more savings c.slots (last_lines c.prices c.net) ([] ∷ []))
    ∙ savings_back savings (map slot_line c.slots ++ last) fits (omega (arith, slots_size))
    (no_saving c.slots c.prices (net_line c.net ∷ codes "end" ∷ [] ∷ []) is.slots_fit is.prices_fit (omega arith))
    ∙ slots_back savings c.slots last is.slots_fit is.few (omega arith) (price_no_slot c.prices is.prices_fit)
    ∙ ap (certified savings c.slots) (last_back (length savings + length c.slots + 2) c.prices c.net is.prices_fit is.net_fits)

-- ---- lines that are read as a certificate are its lines

pub ends_are : (lines : List (List ℕ)) → ends_here lines ≡ true → lines ≡ [] ∷ []
ends_are [] is = absurd (false≢true is)
ends_are (rest ∷ []) is = ap (λ r. r ∷ []) ((bytes_eq-Decides rest []).0 is)
ends_are (line ∷ (next ∷ lines)) is = absurd (false≢true is)

end_read : (number : ℕ) (prices : List ℕ) (net : ℕ) (lines : List (List ℕ)) (last : List ℕ × ℕ) → end_then number prices net lines ≡ Ok last → (lines ≡ codes "end" ∷ [] ∷ []) × ((prices, net) ≡ last)
end_read number prices net lines last is =
    let first = then_ok number (read_first (only (codes "end")) lines) (λ end. cond (ends_here (drop 1 lines)) (Ok (prices, net)) (Err (BadLine (number + 1)))) last is in
    let end = chosen_ok (ends_here (drop 1 lines)) (prices, net) last (BadLine (number + 1)) first.2 in
    let line = first_is (only (codes "end")) lines first.0 first.1 in
    (line.1 ∙ ap₂ (λ l ls. l ∷ ls) (only_is (codes "end") line.0 first.0 line.2) (ends_are (drop 1 lines) end.0), end.1)

net_then_read : (number : ℕ) (prices : List ℕ) (lines : List (List ℕ)) (last : List ℕ × ℕ) → net_then number prices lines ≡ Ok last → (lines ≡ net_line last.1 ∷ codes "end" ∷ [] ∷ []) × (prices ≡ last.0) × AreWithin net_limits (last.1 ∷ [])
net_then_read number prices lines last is =
    let first = then_ok number (read_first net_in_line lines) (λ net. end_then (number + 1) prices net (drop 1 lines)) last is in
    let line = first_is net_in_line lines first.0 first.1 in
    let net = net_read line.0 first.0 line.2 in
    let end = end_read (number + 1) prices first.0 (drop 1 lines) last first.2 in
    let same = ap (λ p. p.1) end.1 in
    (line.1 ∙ ap₂ (λ l ls. l ∷ ls) (net.0 ∙ ap net_line same) end.0, ap (λ p. p.0) end.1, subst (λ n. AreWithin net_limits (n ∷ [])) same net.1)

last_read : (number : ℕ) (lines : List (List ℕ)) (last : List ℕ × ℕ) → last_in number lines ≡ Ok last → (lines ≡ last_lines last.0 last.1 ++ [] ∷ []) × AreWithin price_limits last.0 × AreWithin net_limits (last.1 ∷ [])
unfolding last_in
last_read number lines last is =
    let first = then_ok number (read_first prices_in_line lines) (λ prices. net_then (number + 1) prices (drop 1 lines)) last is in
    let line = first_is prices_in_line lines first.0 first.1 in
    let prices = prices_read line.0 first.0 line.2 in
    let net = net_then_read (number + 1) first.0 (drop 1 lines) last first.2 in
    (line.1 ∙ ap₂ (λ l ls. l ∷ ls) (prices.0 ∙ ap price_line net.1) net.0, subst (AreWithin price_limits) net.1 prices.1, net.2)

-- what is read, from its parts
abbrev pub whole : List Saving → List ℕ → List ℕ × ℕ → List Saving × Certified
whole savings slots last = (savings, record { slots = slots; prices = last.0; net = last.1 })

certified_ok : (savings : List Saving) (slots : List ℕ) (r : Result (List ℕ × ℕ) CertFault) (y : List Saving × Certified) → certified savings slots r ≡ Ok y → (last : List ℕ × ℕ) × (r ≡ Ok last) × (whole savings slots last ≡ y)
certified_ok savings slots (Ok last) y is = (last, refl, same_ok (whole savings slots last) y is)
certified_ok savings slots (Err fault) y is = no_ok fault y is

ReadLines : List (List ℕ) → List Saving × Certified → Type 0
ReadLines lines y = (lines ≡ certificate_lines y.0 y.1 ++ [] ∷ []) × All FitsSaving y.0 × FitsCertified y.1

pub lines_read : (lines : List (List ℕ)) (y : List Saving × Certified) → certificate_of lines ≡ Ok y → (lines ≡ certificate_lines y.0 y.1 ++ [] ∷ []) × All FitsSaving y.0 × FitsCertified y.1
unfolding certificate_of ReadLines
lines_read lines y is =
    let first = then_ok 1 (read_first (only (codes "zcld certificate 1")) lines) (λ title. savings_then (drop 1 lines)) y is in
    let title = first_is (only (codes "zcld certificate 1")) lines first.0 first.1 in
    let rest = drop 1 lines in
    let savings = while_all saving_in_line saving_line FitsSaving saving_read rest in
    let found = read_while saving_in_line rest in
    let others = drop (length found) rest in
    let slots = while_is slot_in_line slot_line FitsSlot slot_read 256 others in
    let chosen = take 256 (read_while slot_in_line others) in
    let few : length chosen ≤ 256 = length_chosen 256 (read_while slot_in_line others) in
    let end = certified_ok found chosen (last_in (length found + length chosen + 2) (drop (length chosen) others)) y first.2 in
    let last = last_read (length found + length chosen + 2) (drop (length chosen) others) end.0 end.1 in
    let spelled = title.1
    ∙ ap₂ (λ l ls. l ∷ ls) (only_is (codes "zcld certificate 1") title.0 first.0 title.2)
    (savings.0 ∙ ap (λ ls. map saving_line found ++ ls) (slots.0 ∙ ap (λ ls. map slot_line chosen ++ ls) last.0)
    ∙ sym (behind_more found chosen (last_lines end.0.0 end.0.1) ([] ∷ []))) in
    subst (ReadLines lines) end.2 (spelled, savings.1, record { few = few; slots_fit = slots.1; prices_fit = last.1; net_fits = last.2 })
  where
    length_chosen : (n : ℕ) (xs : List ℕ) → length (take n xs) ≤ n
    length_chosen n xs = omega (arith, length-take n xs)

-- ---- the whole text

pub lines_are : (savings : List Saving) (c : Certified) → All FitsSaving savings → FitsCertified c → All IsLine (certificate_lines savings c)
lines_are savings c fits is =
    All-cons IsLine (codes "zcld certificate 1") (map saving_line savings ++ (map slot_line c.slots ++ last_lines c.prices c.net)) title_line
    (All-append IsLine (map saving_line savings) (map slot_line c.slots ++ last_lines c.prices c.net)
    (All-map IsLine saving_line savings (All-weaker FitsSaving (λ s. IsLine (saving_line s)) saving_is_line savings fits))
    (All-append IsLine (map slot_line c.slots) (last_lines c.prices c.net)
    (All-map IsLine slot_line c.slots (All-weaker FitsSlot (λ slot. IsLine (slot_line slot)) slot_is_line c.slots is.slots_fit))
    (All-cons IsLine (price_line c.prices) (net_line c.net ∷ codes "end" ∷ []) (price_is_line c.prices is.prices_fit)
    (All-cons IsLine (net_line c.net) (codes "end" ∷ []) (net_is_line c.net is.net_fits)
    (All-cons IsLine (codes "end") [] end_line (All-nil IsLine))))))

pub too_large : (text : List ℕ) → 8388608 < length text → certificate_in text ≡ Err TooLarge
unfolding certificate_in
too_large text over = cond-true (ltb 8388608 (length text)) (Err TooLarge) (certificate_of (lines_of text)) (lt-ltb 8388608 (length text) over)

pub within_limit : (text : List ℕ) → length text ≤ 8388608 → certificate_in text ≡ certificate_of (lines_of text)
unfolding certificate_in
within_limit text small = cond-false (ltb 8388608 (length text)) (Err TooLarge) (certificate_of (lines_of text)) (le-ltb 8388608 (length text) small)

pub certificate_read : (text : List ℕ) (savings : List Saving) (c : Certified) → IsCertText text savings c → length text ≤ 8388608 → certificate_in text ≡ Ok (savings, c)
unfolding certificate_text
certificate_read text savings c is small =
    within_limit text small
    ∙ ap certificate_of (ap lines_of is.spells ∙ text_lines (certificate_lines savings c) (lines_are savings c is.savings_fit is.certificate_fits))
    ∙ lines_read_back savings c is.savings_fit is.certificate_fits

not_large : (text : List ℕ) (y : List Saving × Certified) (b : Bool) → cond b (Err TooLarge) (certificate_of (lines_of text)) ≡ Ok y → certificate_of (lines_of text) ≡ Ok y
not_large text y true ok = no_ok TooLarge y ok
not_large text y false ok = ok

pub text_read : (text : List ℕ) (savings : List Saving) (c : Certified) → certificate_in text ≡ Ok (savings, c) → IsCertText text savings c
unfolding certificate_in certificate_text
text_read text savings c ok =
    let read = lines_read (lines_of text) (savings, c) (not_large text (savings, c) (ltb 8388608 (length text)) ok) in
    record {
      spells = sym (join_with_byte-slice_split 10 text) ∙ ap (join_with_byte 10) read.0 ∙ joined (certificate_lines savings c) [] [] ∙ append-nil (text_of (certificate_lines savings c));
      savings_fit = read.1;
      certificate_fits = read.2;
    }

-- reading the text of a certificate finds no fault in it
pub refused : (text : List ℕ) (fault : CertFault) (savings : List Saving) (c : Certified) → (fault ≡ OutOfMemory) ⊎ (certificate_in text ≡ Err fault) → IsCertText text savings c → length text ≤ 8388608 → (◌≡◌ {A = Result (List Saving × Certified) CertFault} (Err fault) (Ok (savings, c))) ⊎ (◌≡◌ {A = Result (List Saving × Certified) CertFault} (Err fault) (Err OutOfMemory))
refused text fault savings c (inl memory) is small = inr (ap Err memory)
refused text fault savings c (inr bad) is small = let good = certificate_read text savings c is small in absurd cc

-- the text of a certificate isn't read as another certificate
pub same_certificate : (text : List ℕ) (y : List Saving × Certified) (savings : List Saving) (c : Certified) → certificate_in text ≡ Ok y → IsCertText text savings c → length text ≤ 8388608 → y ≡ (savings, c)
same_certificate text y savings c ok is small = let good = certificate_read text savings c is small in cc
