-- The first of some things that has a name, one thing after another; and a row by its number.
use Rattle.std.proofs.Common.{◌≡◌, ℕ, ◌+◌, ◌<◌, Option, Some, None, true, false, cond, List, drop, length, get_or, refl, sym, ap, ◌∙◌}
use Rattle.std.specs.Prelude.{bytes_eq}
use Rattle.std.specs.List.{slice_get}
use Rattle.std.specs.Option.{option_map}
use Rattle.std.proofs.lemmas.List.{at_drop_more}
use Rattle.std.proofs.lemmas.Option.{none-some, same_Some}
use Rattle.zc_decode.specs.Hints.{row_number}
use Rattle.zc_decode.specs.declared.form.Form.{Form}
use Rattle.zc_decode.specs.declared.form.Form.TheVariants.{CAddi4spn, CLw, CSw, CLbu, CLhu, CLh, CSb, CSh, CNop, CAddi, CJal, CLi, CAddi16sp, CLui, CSrli, CSrai, CAndi, CSub, CXor, COr, CAnd, CMul, CZextB, CNot, CJ, CBeqz, CBnez, CSlli, CLwsp, CJr, CMv, CEbreak, CJalr, CAdd, CSwsp, CmPush, CmPop, CmPopretz, CmPopret, CmMvsa01, CmMva01s, CmJt, CmJalt}
use Rattle.instruction_text.specs.Names.{all_forms, first_named}

-- ---- the first with a name

module _ {A : Type 0} (name_of : A → List ℕ) (xs : List A) (i : ℕ) (d : A) (name : List ℕ) (within : i < length xs) where
  step : first_named name_of (drop i xs) name ≡ cond (bytes_eq (name_of (get_or xs i d)) name) (Some (get_or xs i d)) (first_named name_of (drop (i + 1) xs) name)
  step = at_drop_more (λ ys. first_named name_of ys name) xs i d within

  pub named_here : bytes_eq (name_of (get_or xs i d)) name ≡ true → first_named name_of (drop i xs) name ≡ Some (get_or xs i d)
  named_here same = step ∙ ap (λ b. cond b (Some (get_or xs i d)) (first_named name_of (drop (i + 1) xs) name)) same

  pub named_later : bytes_eq (name_of (get_or xs i d)) name ≡ false → first_named name_of (drop i xs) name ≡ first_named name_of (drop (i + 1) xs) name
  named_later other = step ∙ ap (λ b. cond b (Some (get_or xs i d)) (first_named name_of (drop (i + 1) xs) name)) other

-- ---- rows by number

numbered : (form : Form) → slice_get all_forms (row_number form) ≡ Some form
numbered CAddi4spn = refl
numbered CLw = refl
numbered CSw = refl
numbered CLbu = refl
numbered CLhu = refl
numbered CLh = refl
numbered CSb = refl
numbered CSh = refl
numbered CNop = refl
numbered CAddi = refl
numbered CJal = refl
numbered CLi = refl
numbered CAddi16sp = refl
numbered CLui = refl
numbered CSrli = refl
numbered CSrai = refl
numbered CAndi = refl
numbered CSub = refl
numbered CXor = refl
numbered COr = refl
numbered CAnd = refl
numbered CMul = refl
numbered CZextB = refl
numbered CNot = refl
numbered CJ = refl
numbered CBeqz = refl
numbered CBnez = refl
numbered CSlli = refl
numbered CLwsp = refl
numbered CJr = refl
numbered CMv = refl
numbered CEbreak = refl
numbered CJalr = refl
numbered CAdd = refl
numbered CSwsp = refl
numbered CmPush = refl
numbered CmPop = refl
numbered CmPopretz = refl
numbered CmPopret = refl
numbered CmMvsa01 = refl
numbered CmMva01s = refl
numbered CmJt = refl
numbered CmJalt = refl

-- the row with the number of a row is that row
pub form_by_number : (row : Option Form) (n : ℕ) → option_map row_number row ≡ Some n → slice_get all_forms n ≡ row
form_by_number None n is = absurd (none-some n is)
form_by_number (Some form) n is = ap (slice_get all_forms) (sym (same_Some (row_number form) n is)) ∙ numbered form
