-- What is written: each line is its name followed by its numbers, each after a space, and the text is within the limit.
use Rattle.std.proofs.Common.{◌≡◌, ℕ, ◌+◌, ◌*◌, ◌^◌, ◌<◌, ◌≤◌, List, [], ◌∷◌, ◌++◌, map, length, get_or, take, refl, ap, sym, ◌∙◌, append-nil, append_assoc, length-append, arith, Ok}
use Rattle.std.specs.Prelude.{All, codes, flat_map}
use Rattle.std.specs.Fmt.{decimal}
use Rattle.std.proofs.lemmas.Fmt.{length-decimal-le}
use Rattle.std.proofs.lemmas.List.{map-append, take_more}
use Rattle.std.proofs.lemmas.List.Elements.{All-head, All-tail}
use Rattle.pick_check.specs.Certified.{Certified}
use Rattle.pick_check.specs.declared.saving.Saving.{Saving}
use Rattle.pick_check.specs.Text.{AreWithin, FitsCertified, FitsSaving, FitsSlot, certificate_in, certificate_text, last_lines, line_with, net_limits, net_line, price_limits, price_line, saving_line, saving_numbers, slot_line, text_of}
use Rattle.pick_check.proofs.TextLaws.{certificate_read}

-- ---- a line

-- a number after a space
abbrev pub spaced : ℕ → List ℕ
spaced n = 32 ∷ decimal n

pub line_is : (name ns : List ℕ) → line_with name ns ≡ name ++ flat_map spaced ns
line_is name [] = sym (append-nil name)
line_is name (n ∷ ns) = ap (λ t. name ++ 32 ∷ t) (line_is (decimal n) ns)

-- a line is put together
pub line_pushed : (old name text : List ℕ) (ns pushed : List ℕ) → text ≡ old ++ (name ++ flat_map spaced pushed) → pushed ≡ ns → text ++ 10 ∷ [] ≡ old ++ (line_with name ns ++ 10 ∷ [])
line_pushed old name text ns pushed is all =
    ap (λ t. t ++ 10 ∷ []) (is ∙ ap (λ xs. old ++ (name ++ flat_map spaced xs)) all ∙ ap (λ l. old ++ l) (sym (line_is name ns)))
    ∙ append_assoc old (line_with name ns) (10 ∷ [])

number_size : (k n : ℕ) (ns : List ℕ) → 0 < k → n < 10 ^ k → n < 2 ^ 64 → length (flat_map spaced (n ∷ ns)) ≤ k + 1 + length (flat_map spaced ns)
number_size k n ns some below small =
    let size = length-append (spaced n) (flat_map spaced ns) in
    let digits = length-decimal-le k n some below small in
    omega (arith, size, digits)

ended_size : (name ns : List ℕ) → length (line_with name ns ++ 10 ∷ []) ≡ length name + length (flat_map spaced ns) + 1
ended_size name ns =
    let line = ap length (line_is name ns) in
    let parts = length-append name (flat_map spaced ns) in
    let end = length-append (line_with name ns) (10 ∷ []) in
    omega (arith, line, parts, end)

saving_size : (s : Saving) → FitsSaving s → length (saving_line s ++ 10 ∷ []) ≤ 52
saving_size s fits =
    let t = s.target in
    let object : t.object ≤ 65535 = fits.0 in
    let section : t.section ≤ 65535 = fits.1.0 in
    let offset : t.offset ≤ 4294967295 = fits.1.1.0 in
    let jumps : s.jump_sites ≤ 4294967295 = fits.1.1.1.0 in
    let calls : s.call_sites ≤ 4294967295 = fits.1.1.1.1.0 in
    let size = ended_size (codes "saving") (saving_numbers s) in
    let a = number_size 5 t.object (t.section ∷ t.offset ∷ s.jump_sites ∷ s.call_sites ∷ []) (omega arith) (omega (arith, object)) (omega (arith, object)) in
    let b = number_size 5 t.section (t.offset ∷ s.jump_sites ∷ s.call_sites ∷ []) (omega arith) (omega (arith, section)) (omega (arith, section)) in
    let c = number_size 10 t.offset (s.jump_sites ∷ s.call_sites ∷ []) (omega arith) (omega (arith, offset)) (omega (arith, offset)) in
    let d = number_size 10 s.jump_sites (s.call_sites ∷ []) (omega arith) (omega (arith, jumps)) (omega (arith, jumps)) in
    let e = number_size 10 s.call_sites [] (omega arith) (omega (arith, calls)) (omega (arith, calls)) in
    omega (arith, size, a, b, c, d, e)

slot_size : (slot : ℕ) → FitsSlot slot → length (slot_line slot ++ 10 ∷ []) ≤ 16
slot_size slot fits =
    let below : slot ≤ 4294967295 = fits.0 in
    let size = ended_size (codes "slot") (slot ∷ []) in
    let digits = number_size 10 slot [] (omega arith) (omega (arith, below)) (omega (arith, below)) in
    omega (arith, size, digits)

price_size : (prices : List ℕ) → AreWithin price_limits prices → length (price_line prices ++ 10 ∷ []) ≤ 39
price_size [] fits = absurd fits
price_size (p ∷ []) fits = absurd fits.1
price_size (p ∷ (q ∷ [])) fits = absurd fits.1.1
price_size (p ∷ (q ∷ (r ∷ []))) fits =
    let first : p ≤ 4294967295 = fits.0 in
    let second : q ≤ 4294967295 = fits.1.0 in
    let third : r ≤ 4294967295 = fits.1.1.0 in
    let size = ended_size (codes "price") (p ∷ q ∷ r ∷ []) in
    let a = number_size 10 p (q ∷ r ∷ []) (omega arith) (omega (arith, first)) (omega (arith, first)) in
    let b = number_size 10 q (r ∷ []) (omega arith) (omega (arith, second)) (omega (arith, second)) in
    let c = number_size 10 r [] (omega arith) (omega (arith, third)) (omega (arith, third)) in
    omega (arith, size, a, b, c)
price_size (p ∷ (q ∷ (r ∷ (s ∷ prices)))) fits = absurd fits.1.1.1

net_size : (net : ℕ) → AreWithin net_limits (net ∷ []) → length (net_line net ++ 10 ∷ []) ≤ 25
net_size net fits =
    let below : net ≤ 18446744073709551615 = fits.0 in
    let size = ended_size (codes "net") (net ∷ []) in
    let digits = number_size 20 net [] (omega arith) (omega (arith, below)) (omega (arith, below)) in
    omega (arith, size, digits)

-- ---- all lines

pub text_more : (xs ys : List (List ℕ)) → text_of (xs ++ ys) ≡ text_of xs ++ text_of ys
text_more [] ys = refl
text_more (x ∷ xs) ys = ap (λ t. (x ++ 10 ∷ []) ++ t) (text_more xs ys) ∙ sym (append_assoc (x ++ 10 ∷ []) (text_of xs) (text_of ys))

-- the lines of one element more
pub lines_pushed : {A : Type 0} (spell : A → List ℕ) (old text new : List ℕ) (xs : List A) (i : ℕ) (d : A) → i < length xs → text ≡ old ++ text_of (map spell (take i xs)) → new ≡ text ++ (spell (get_or xs i d) ++ 10 ∷ []) → new ≡ old ++ text_of (map spell (take (i + 1) xs))
lines_pushed spell old text new xs i d lt so_far is =
    let x = get_or xs i d in
    let front = text_of (map spell (take i xs)) in
    let more = ap (λ ys. text_of (map spell ys)) (take_more xs i d lt) ∙ ap text_of (map-append spell (take i xs) (x ∷ [])) ∙ text_more (map spell (take i xs)) (spell x ∷ []) ∙ ap (λ t. front ++ t) (append-nil (spell x ++ 10 ∷ [])) in
    is ∙ ap (λ t. t ++ (spell x ++ 10 ∷ [])) so_far ∙ append_assoc old front (spell x ++ 10 ∷ []) ∙ ap (λ t. old ++ t) (sym more)

savings_size : (savings : List Saving) → All FitsSaving savings → length (text_of (map saving_line savings)) ≤ 52 * length savings
savings_size [] fits = omega arith
savings_size (s ∷ savings) fits =
    let size = length-append (saving_line s ++ 10 ∷ []) (text_of (map saving_line savings)) in
    let here = saving_size s (All-head FitsSaving s savings fits) in
    let others = savings_size savings (All-tail FitsSaving s savings fits) in
    omega (arith, size, here, others)

slots_size : (slots : List ℕ) → All FitsSlot slots → length (text_of (map slot_line slots)) ≤ 16 * length slots
slots_size [] fits = omega arith
slots_size (slot ∷ slots) fits =
    let size = length-append (slot_line slot ++ 10 ∷ []) (text_of (map slot_line slots)) in
    let here = slot_size slot (All-head FitsSlot slot slots fits) in
    let others = slots_size slots (All-tail FitsSlot slot slots fits) in
    omega (arith, size, here, others)

last_size : (prices : List ℕ) (net : ℕ) → AreWithin price_limits prices → AreWithin net_limits (net ∷ []) → length (text_of (last_lines prices net)) ≤ 68
last_size prices net prices_fit net_fits =
    let end : List ℕ = text_of (codes "end" ∷ []) in
    let size = length-append (price_line prices ++ 10 ∷ []) ((net_line net ++ 10 ∷ []) ++ end) in
    let others = length-append (net_line net ++ 10 ∷ []) end in
    omega (arith, size, others, price_size prices prices_fit, net_size net net_fits)

-- the text, as it is put together
pub text_is : (savings : List Saving) (c : Certified) → certificate_text savings c ≡ ((codes "zcld certificate 1\n" ++ text_of (map saving_line savings)) ++ text_of (map slot_line c.slots)) ++ text_of (last_lines c.prices c.net)
unfolding certificate_text
text_is savings c =
    let title : List ℕ = codes "zcld certificate 1\n" in
    let first = text_of (map saving_line savings) in
    let second = text_of (map slot_line c.slots) in
    let third = text_of (last_lines c.prices c.net) in
    ap (λ t. title ++ t) (text_more (map saving_line savings) (map slot_line c.slots ++ last_lines c.prices c.net) ∙ ap (λ t. first ++ t) (text_more (map slot_line c.slots) (last_lines c.prices c.net)))
    ∙ sym (append_assoc (title ++ first) second third ∙ append_assoc title first (second ++ third))

pub text_size : (savings : List Saving) (c : Certified) → length savings ≤ 160000 → All FitsSaving savings → FitsCertified c → length (certificate_text savings c) ≤ 8388608
text_size savings c few fits is =
    let title : List ℕ = codes "zcld certificate 1\n" in
    let first = text_of (map saving_line savings) in
    let second = text_of (map slot_line c.slots) in
    let third = text_of (last_lines c.prices c.net) in
    let whole = ap length (text_is savings c) in
    let a = length-append ((title ++ first) ++ second) third in
    let b = length-append (title ++ first) second in
    let d = length-append title first in
    let long : length title ≡ 19 = refl in
    omega (arith, whole, a, b, d, long, few, is.few, savings_size savings fits, slots_size c.slots is.slots_fit, last_size c.prices c.net is.prices_fit is.net_fits)

pub read_back : (text : List ℕ) (savings : List Saving) (c : Certified) → text ≡ certificate_text savings c → length savings ≤ 160000 → All FitsSaving savings → FitsCertified c → certificate_in text ≡ Ok (savings, c)
read_back text savings c is few fits fit =
    let size = text_size savings c few fits fit in
    let same = ap length is in
    certificate_read text savings c (record { spells = is; savings_fit = fits; certificate_fits = fit }) (omega (arith, size, same))

-- the parts that were put together, one after another, are the text
pub put_together : (savings : List Saving) (c : Certified) (slots prices : List ℕ) (net : ℕ) (start first second third bytes : List ℕ) → slots ≡ c.slots → prices ≡ c.prices → net ≡ c.net → start ≡ codes "zcld certificate 1\n" → first ≡ start ++ text_of (map saving_line savings) → second ≡ first ++ text_of (map slot_line slots) → third ≡ second ++ text_of (last_lines prices net) → bytes ≡ third → bytes ≡ certificate_text savings c
put_together savings c slots prices net start first second third bytes same_slots same_prices same_net begins with_savings with_slots with_last whole =
    let savings_text = text_of (map saving_line savings) in
    let slots_text = text_of (map slot_line c.slots) in
    let last_text = text_of (last_lines c.prices c.net) in
    let one = with_savings ∙ ap (λ t. t ++ savings_text) begins in
    let two = with_slots ∙ ap (λ s. first ++ text_of (map slot_line s)) same_slots ∙ ap (λ t. t ++ slots_text) one in
    let last = ap (λ p. text_of (last_lines p net)) same_prices ∙ ap (λ n. text_of (last_lines c.prices n)) same_net in
    let three = with_last ∙ ap (λ t. second ++ t) last ∙ ap (λ t. t ++ last_text) two in
    whole ∙ three ∙ sym (text_is savings c)
