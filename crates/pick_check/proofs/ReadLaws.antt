-- What the reader finds, line by line, and what follows for the whole text.
use Rattle.std.proofs.Common.{◌≡◌, ◌⊎◌, ℕ, ◌+◌, ◌<◌, ◌≤◌, Some, None, Ok, Err, false, cond, Result, List, [], ◌++◌, length, take, drop, inl, inr, ap, sym, ◌∙◌, append-nil, arith}
use Rattle.std.specs.Prelude.{IfErr, IfOk, codes}
use Rattle.std.specs.List.{join_with_byte}
use Rattle.std.specs.Result.{result_map_both}
use Rattle.std.proofs.lemmas.Bool.{cond-false, false_from_ne_true}
use Rattle.std.proofs.lemmas.List.{take_all, take_at}
use Rattle.std.proofs.lemmas.List.Splits.{join_with_byte-slice_split}
use Rattle.text_lines.specs.Lines.{lines_of}
use Rattle.pick_check.specs.Certified.{Certified}
use Rattle.pick_check.specs.Fault.{IsCertFault}
use Rattle.pick_check.specs.declared.fault.CertFault.{CertFault}
use Rattle.pick_check.specs.declared.fault.CertFault.TheVariants.{BadLine, OutOfMemory}
use Rattle.pick_check.specs.declared.saving.Saving.{Saving}
use Rattle.pick_check.specs.Text.{IsCertText, ReadsEachCert, certificate_in, certificate_of, certified, end_then, ends_here, last_in, net_in_line, net_then, only, prices_in_line, read_first, read_then, read_while, saving_in_line, savings_then, slot_in_line, slots_then}
use Rattle.pick_check.proofs.FaultLaws.{fault_read}
use Rattle.pick_check.proofs.TextLaws.{ends_are, last_ok, refused, same_certificate, text_read, within_limit}
use Rattle.pick_check.proofs.WhileLaws.{while_none}

-- ---- the last lines

-- something follows the last line feed, or there is another line
some_behind : (rest : List ℕ) → 0 < length rest → ends_here (lines_of rest) ≡ false
some_behind rest some =
    false_from_ne_true (ends_here (lines_of rest)) (λ ends.
    let same = sym (join_with_byte-slice_split 10 rest) ∙ ap (join_with_byte 10) (ends_are (lines_of rest) ends) in
    let size = ap length same in
    omega (arith, some, size))

module _ (number : ℕ) (text : List ℕ) where
  pub bad_prices : read_first prices_in_line (lines_of text) ≡ None → last_in number (lines_of text) ≡ Err (BadLine number)
  unfolding last_in
  bad_prices bad = ap (λ o. read_then number o (λ prices. net_then (number + 1) prices (drop 1 (lines_of text)))) bad

  module _ (prices second : List ℕ) (priced : read_first prices_in_line (lines_of text) ≡ Some prices) (there : lines_of second ≡ drop 1 (lines_of text)) where
    behind_prices : last_in number (lines_of text) ≡ net_then (number + 1) prices (lines_of second)
    unfolding last_in
    behind_prices = ap (λ o. read_then number o (λ ps. net_then (number + 1) ps (drop 1 (lines_of text)))) priced ∙ ap (net_then (number + 1) prices) (sym there)

    pub bad_net : read_first net_in_line (lines_of second) ≡ None → last_in number (lines_of text) ≡ Err (BadLine (number + 1))
    bad_net bad = behind_prices ∙ ap (λ o. read_then (number + 1) o (λ net. end_then (number + 1 + 1) prices net (drop 1 (lines_of second)))) bad

    module _ (net : ℕ) (third : List ℕ) (counted : read_first net_in_line (lines_of second) ≡ Some net) (then_there : lines_of third ≡ drop 1 (lines_of second)) where
      behind_net : last_in number (lines_of text) ≡ end_then (number + 1 + 1) prices net (lines_of third)
      behind_net = behind_prices ∙ ap (λ o. read_then (number + 1) o (λ n. end_then (number + 1 + 1) prices n (drop 1 (lines_of second)))) counted ∙ ap (end_then (number + 1 + 1) prices net) (sym then_there)

      pub bad_end : read_first (only (codes "end")) (lines_of third) ≡ None → last_in number (lines_of text) ≡ Err (BadLine (number + 2))
      bad_end bad =
          let same : number + 1 + 1 ≡ number + 2 = omega arith in
          behind_net
          ∙ ap (λ o. read_then (number + 1 + 1) o (λ end. cond (ends_here (drop 1 (lines_of third))) (last_ok prices net) (Err (BadLine (number + 1 + 1 + 1))))) bad
          ∙ ap (λ n. Err (BadLine n)) same

      module _ (rest : List ℕ) (ended : read_first (only (codes "end")) (lines_of third) ≡ Some (codes "end")) (last_there : lines_of rest ≡ drop 1 (lines_of third)) where
        behind_end : last_in number (lines_of text) ≡ cond (ends_here (lines_of rest)) (last_ok prices net) (Err (BadLine (number + 1 + 1 + 1)))
        behind_end =
            behind_net
            ∙ ap (λ o. read_then (number + 1 + 1) o (λ end. cond (ends_here (drop 1 (lines_of third))) (last_ok prices net) (Err (BadLine (number + 1 + 1 + 1))))) ended
            ∙ ap (λ ls. cond (ends_here ls) (last_ok prices net) (Err (BadLine (number + 1 + 1 + 1)))) (sym last_there)

        pub more_behind : 0 < length rest → last_in number (lines_of text) ≡ Err (BadLine (number + 3))
        more_behind some =
            let same : number + 1 + 1 + 1 ≡ number + 3 = omega arith in
            behind_end ∙ cond-false (ends_here (lines_of rest)) (last_ok prices net) (Err (BadLine (number + 1 + 1 + 1))) (some_behind rest some) ∙ ap (λ n. Err (BadLine n)) same

        pub nothing_behind : rest ≡ [] → last_in number (lines_of text) ≡ Ok (prices, net)
        nothing_behind none = behind_end ∙ ap (λ r. cond (ends_here (lines_of r)) (last_ok prices net) (Err (BadLine (number + 1 + 1 + 1)))) none

-- ---- all lines

-- at most 256 slots, up to a line that isn't a slot's
slots_chosen : (slots : List ℕ) (lines rest : List (List ℕ)) → read_while slot_in_line lines ≡ slots ++ read_while slot_in_line rest → length slots ≤ 256 → (read_first slot_in_line rest ≡ None) ⊎ (length slots ≡ 256) → take 256 (read_while slot_in_line lines) ≡ slots
slots_chosen slots lines rest so_far few (inl none) =
    ap (take 256) (so_far ∙ ap (λ xs. slots ++ xs) (while_none slot_in_line rest none) ∙ append-nil slots) ∙ take_all 256 slots few
slots_chosen slots lines rest so_far few (inr full) = ap (take 256) so_far ∙ take_at slots (read_while slot_in_line rest) 256 full

pub no_title : (lines : List (List ℕ)) → read_first (only (codes "zcld certificate 1")) lines ≡ None → certificate_of lines ≡ Err (BadLine 1)
unfolding certificate_of
no_title lines bad = ap (λ o. read_then 1 o (λ title. savings_then (drop 1 lines))) bad

-- after the title, the savings and the slots come the last lines
lines_found : (lines : List (List ℕ)) (x first second third : List ℕ) (savings : List Saving) (slots : List ℕ)
    → read_first (only (codes "zcld certificate 1")) lines ≡ Some x → lines_of first ≡ drop 1 lines
    → read_while saving_in_line (lines_of first) ≡ savings → lines_of second ≡ drop (length savings) (lines_of first)
    → take 256 (read_while slot_in_line (lines_of second)) ≡ slots → lines_of third ≡ drop (length slots) (lines_of second)
    → certificate_of lines ≡ certified savings slots (last_in (length savings + length slots + 2) (lines_of third))
unfolding certificate_of
lines_found lines x first second third savings slots titled at_first are_savings at_second are_slots at_third =
    ap (λ o. read_then 1 o (λ title. savings_then (drop 1 lines))) titled
    ∙ ap savings_then (sym at_first)
    ∙ ap (λ xs. slots_then xs (drop (length xs) (lines_of first))) are_savings
    ∙ ap (slots_then savings) (sym at_second)
    ∙ ap (λ xs. certified savings xs (last_in (length savings + length xs + 2) (drop (length xs) (lines_of second)))) are_slots
    ∙ ap (λ ls. certified savings slots (last_in (length savings + length slots + 2) ls)) (sym at_third)

-- the lines with slots as they are read, where the lengths have other names
pub lines_read : (lines : List (List ℕ)) (x first second third : List ℕ) (savings : List Saving) (slots : List ℕ) (m n : ℕ)
    → read_first (only (codes "zcld certificate 1")) lines ≡ Some x → lines_of first ≡ drop 1 lines
    → read_while saving_in_line (lines_of first) ≡ savings → lines_of second ≡ drop (length savings) (lines_of first)
    → read_while slot_in_line (lines_of second) ≡ slots ++ read_while slot_in_line (lines_of third) → length slots ≤ 256
    → (read_first slot_in_line (lines_of third) ≡ None) ⊎ (length slots ≡ 256) → lines_of third ≡ drop (length slots) (lines_of second)
    → m ≡ length savings → n ≡ length slots
    → certificate_of lines ≡ certified savings slots (last_in (2 + m + n) (lines_of third))
lines_read lines x first second third savings slots m n titled at_first are_savings at_second so_far few last at_third long long' =
    let chosen = slots_chosen slots (lines_of second) (lines_of third) so_far few last in
    let number : length savings + length slots + 2 ≡ 2 + m + n = omega (arith, long, long') in
    lines_found lines x first second third savings slots titled at_first are_savings at_second chosen at_third
    ∙ ap (λ k. certified savings slots (last_in k (lines_of third))) number

-- ---- the whole text

pub reads_ok : {V : Type 0} (text : List ℕ) (r : Result V CertFault) (f : V → List Saving × Certified) → length text ≤ 8388608 → IfOk r (λ x. certificate_of (lines_of text) ≡ Ok (f x)) → IfOk r (λ x. certificate_in text ≡ Ok (f x))
reads_ok text (Ok x) f small ok = within_limit text small ∙ ok
reads_ok text (Err fault) f small ok = tt

pub reads_err : {V : Type 0} (text : List ℕ) (r : Result V CertFault) → length text ≤ 8388608 → IfErr r (λ fault. (fault ≡ OutOfMemory) ⊎ (certificate_of (lines_of text) ≡ Err fault)) → IfErr r (λ fault. (fault ≡ OutOfMemory) ⊎ (certificate_in text ≡ Err fault))
reads_err text (Ok x) small err = tt
reads_err text (Err fault) small (inl memory) = inl memory
reads_err text (Err fault) small (inr bad) = inr (within_limit text small ∙ bad)

pub reads_fault : {V : Type 0} (text : List ℕ) (r : Result V CertFault) → IfErr r (λ fault. (fault ≡ OutOfMemory) ⊎ (certificate_in text ≡ Err fault)) → IfErr r (IsCertFault text)
reads_fault text (Ok x) err = tt
reads_fault text (Err fault) err = fault_read text fault err

pub reads_spelled : {V : Type 0} (text : List ℕ) (r : Result V CertFault) (f : V → List Saving × Certified) → IfOk r (λ x. certificate_in text ≡ Ok (f x)) → IfOk r (λ x. IsCertText text (f x).0 (f x).1)
reads_spelled text (Ok x) f ok = text_read text (f x).0 (f x).1 ok
reads_spelled text (Err fault) f ok = tt

pub reads_each : {V : Type 0} (text : List ℕ) (r : Result V CertFault) (f : V → List Saving × Certified) → IfOk r (λ x. certificate_in text ≡ Ok (f x)) → IfErr r (λ fault. (fault ≡ OutOfMemory) ⊎ (certificate_in text ≡ Err fault)) → ReadsEachCert text (result_map_both f (λ fault. fault) r)
reads_each text (Ok x) f ok err savings c is small = inl (ap Ok (same_certificate text (f x) savings c ok is small))
reads_each text (Err fault) f ok err savings c is small = refused text fault savings c err is small
