-- The walk of a subcommand over options in the plain form.
use Rattle.std.proofs.Common.{◌≡◌, ◌∙◌, ◌<◌, ◌≤◌, ℕ, Bool, true, false, zero, suc, refl, sym, ap, ap₂, subst, arith, List, [], ◌∷◌, ◌++◌, map, length, get_or, set, Option, Some, None, is_some, not, if◌then◌else◌, ◌&&◌}
use Rattle.std.specs.Prelude.{slice_get}
use Rattle.std.specs.Option.{option_and_then, option_map_or}
use Rattle.std.specs.List.{fold, list_all, position}
use Rattle.std.specs.Str.{bytes_eq}
use Rattle.std.proofs.lemmas.Bool.{and_parts, not-true}
use Rattle.std.proofs.lemmas.List.{get_or-map}
use Rattle.std.proofs.lemmas.List.Quantifiers.{position-Some}
use Rattle.std.proofs.lemmas.Option.{none-some, option_and_then_some}
use Rattle.clap.specs.Faults.{settle_fault, turn_fault, walk_fault}
use Rattle.clap.specs.Kinds.{Kinds, or_else}
use Rattle.clap.specs.Lexer.{long_of, short_of}
use Rattle.clap.specs.Simple.{Shape, filled}
use Rattle.clap.specs.Walk.{Held, Rule, Text, Walk, arg_by_id, arg_by_long, idle, option, settled, settled_rows, walk_from, walked}
use Rattle.command_words.specs.Command.{Spelled, Words}
use Rattle.command_words.specs.PlainForm.{begins_with_dash, dashed, spelled_from, with_value}
use Rattle.command_words.specs.Table.{OptionSyntax, Syntax, option_rule}
use Rattle.command_words.proofs.Given.{Given, has_row-given, lookup, lookup_new, lookup_other, not_given, replaced, same_bytes, rows_for, same_text, value_of}

-- each element has the property
abbrev pub Each : {X : Type 0} → (X → Type 0) → List X → Type 0
Each P [] = Unit {0}
Each P (x ∷ xs) = P x × Each P xs

pub each_at : {X : Type 0} (P : X → Type 0) (xs : List X) (i : ℕ) (d : X) → i < length xs → Each P xs → P (get_or xs i d)
each_at P [] i d lt h = absurd (omega arith)
each_at P (x ∷ xs) zero d lt h = h.0
each_at P (x ∷ xs) (suc i) d lt h = each_at P xs i d (omega arith) h.1

pub each_to : {X : Type 0} (P Q : X → Type 0) (xs : List X) → ((x : X) → P x → Q x) → Each P xs → Each Q xs
each_to P Q [] step h = tt
each_to P Q (x ∷ xs) step h = (step x h.0, each_to P Q xs step h.1)

pub each_both : {X : Type 0} (P Q R : X → Type 0) (xs : List X) → ((x : X) → P x → Q x → R x) → Each P xs → Each Q xs → Each R xs
each_both P Q R [] step h k = tt
each_both P Q R (x ∷ xs) step h k = (step x h.0 k.0, each_both P Q R xs step h.1 k.1)

all_get : {X : Type 0} (p : X → Bool) (xs : List X) (i : ℕ) (d : X) → i < length xs → list_all p xs ≡ true → p (get_or xs i d) ≡ true
all_get p [] i d lt h = absurd (omega arith)
all_get p (x ∷ xs) zero d lt h = (and_parts (p x) (list_all p xs) h).0
all_get p (x ∷ xs) (suc i) d lt h = all_get p xs i d (omega arith) (and_parts (p x) (list_all p xs) h).1

pub or_else_none : (kinds : Kinds) → or_else kinds [] ≡ kinds
or_else_none [] = refl
or_else_none (k ∷ ks) = refl

-- ---- words with no dash

pub record IsNoFlag (word : Text) : Type 0 where
  pub dashes : bytes_eq word (45 ∷ 45 ∷ []) ≡ false
  pub long : long_of word ≡ None
  pub short : short_of word ≡ None

pub no_flag : (word : Text) → begins_with_dash word ≡ false → IsNoFlag word
no_flag [] h = record { dashes = refl; long = refl; short = refl }
no_flag (x ∷ xs) h = record { dashes = rw h refl; long = rw h refl; short = rw h refl }

-- ---- options

-- the name of an option is a long name of the command, of one option
pub record OptionFits (c : List Rule) (o : OptionSyntax) : Type 0 where
  pub written : long_of (dashed o.name) ≡ Some (o.name, None)
  pub apart : bytes_eq (dashed o.name) (45 ∷ 45 ∷ []) ≡ false
  pub by_long : arg_by_long c o.name ≡ Some (filled (option_rule o))
  pub by_id : arg_by_id c o.name ≡ Some (filled (option_rule o))

abbrev pub is_apart : Text → OptionSyntax → Bool
is_apart name o = not (bytes_eq name o.name) && not (bytes_eq o.name name)

-- no two options have one name
abbrev pub are_apart : List OptionSyntax → Bool
are_apart [] = true
are_apart (o ∷ os) = list_all (is_apart o.name) os && are_apart os

-- between two words, where nothing waits
abbrev pub idle_at : ℕ → Held → Walk
idle_at position h = record { held = h; waiting = idle; position = position; is_trailing = false; stopped = None }

-- between an option and its value
abbrev pub waiting_at : ℕ → Text → Held → Walk
waiting_at position name h = record { held = h; waiting = option name; position = position; is_trailing = false; stopped = None }

-- what is held with these values of an argument, once what was pending is settled
abbrev pub held_with : List Rule → Text → List Text → Held → Held
held_with c name values h = record (settled c h) { pending = Some (name, values) }

module _ (s : Shape) (o : OptionSyntax) (fits : OptionFits s.rules o) (position : ℕ) (h : Held) where
  pub option_walked : walked s.rules [] (idle_at position h) (dashed o.name) ≡ waiting_at position o.name (held_with s.rules o.name [] h)
  unfolding walked
  option_walked = rw (fits.apart, fits.written, fits.by_long) refl

  pub option_faultless : turn_fault s [] (idle_at position h) (dashed o.name) ≡ settle_fault s.rules s.args_override_self h
  option_faultless = rw (fits.apart, fits.written, fits.by_long) (or_else_none (settle_fault s.rules s.args_override_self h))

  module _ (v : Text) (plain : IsNoFlag v) where
    pub value_walked : walked s.rules [] (waiting_at position o.name (held_with s.rules o.name [] h)) v ≡ idle_at position (held_with s.rules o.name (v ∷ []) h)
    unfolding walked
    value_walked = rw (plain.dashes, plain.long, plain.short, fits.by_id, same_bytes o.name) refl

    pub value_faultless : turn_fault s [] (waiting_at position o.name (held_with s.rules o.name [] h)) v ≡ []
    value_faultless = rw (plain.dashes, plain.long, plain.short) refl

-- ---- where a walk stands

-- the values of this argument are pending
abbrev pub pends : Text → Option (Text × List Text) → Bool
pends name pending = option_map_or (λ p. bytes_eq p.0 name) pending false

-- the walk holds what was given, with nothing wrong, and nothing of these names
pub record At (s : Shape) (names : List Text) (given : Given) (h : Held) : Type 0 where
  pub rows : settled_rows s.rules h.pending h.rows ≡ rows_for given
  pub fault : settle_fault s.rules s.args_override_self h ≡ []
  pub apart : Each (λ name. pends name h.pending ≡ false) names
  pub fresh : Each (λ name. lookup name given ≡ None) names

-- one more option and its value
pub more_given : (s : Shape) (names : List Text) (given : Given) (h : Held) (o : OptionSyntax) (v : Text) → OptionFits s.rules o → At s names given h
    → lookup o.name given ≡ None → Each (λ name. bytes_eq o.name name ≡ false) names
    → At s names (given ++ (o.name, v, []) ∷ []) (held_with s.rules o.name (v ∷ []) h)
more_given s names given h o v fits at new apart = record {
  rows = rw (fits.by_id, at.rows) (replaced o.name v [] given new);
  fault = rw (fits.by_id, at.rows, has_row-given o.name given, new) refl;
  apart = apart;
  fresh = each_both (λ name. bytes_eq o.name name ≡ false) (λ name. lookup name given ≡ None) (λ name. lookup name (given ++ (o.name, v, []) ∷ []) ≡ None) names
      (λ name other none. lookup_other name o.name v [] given other ∙ none) apart at.fresh;
}

-- ---- the values of a form's options

abbrev pub values_of : List OptionSyntax → Given → List (Option Text)
values_of options given = map (λ o. value_of o.name given) options

value_other : (id n v : Text) (vs : List Text) (given : Given) → bytes_eq n id ≡ false → value_of id given ≡ value_of id (given ++ (n, v, vs) ∷ [])
value_other id n v vs given other = ap (option_and_then (λ (vs : List Text). slice_get vs 0)) (sym (lookup_other id n v vs given other))

-- the values of options stay where a positional word is added
pub options_stay : (n v : Text) (vs : List Text) (given : Given) (os : List OptionSyntax) → Each (λ o. bytes_eq n o.name ≡ false) os → values_of os given ≡ values_of os (given ++ (n, v, vs) ∷ [])
options_stay n v vs given [] apart = refl
options_stay n v vs given (o ∷ os) apart =
    ap₂ (λ (x : Option Text) (xs : List (Option Text)). x ∷ xs) (value_other o.name n v vs given apart.0) (options_stay n v vs given os apart.1)

others_same : (n v : Text) (given : Given) (os : List OptionSyntax) → list_all (is_apart n) os ≡ true → values_of os given ≡ values_of os (given ++ (n, v, []) ∷ [])
others_same n v given [] apart = refl
others_same n v given (o ∷ os) apart =
    let parts = and_parts (is_apart n o) (list_all (is_apart n) os) apart in
    let here = and_parts (not (bytes_eq n o.name)) (not (bytes_eq o.name n)) parts.0 in
    ap₂ (λ (x : Option Text) (xs : List (Option Text)). x ∷ xs) (value_other o.name n v [] given (not-true (bytes_eq n o.name) here.0)) (others_same n v given os parts.1)

-- the value of an option is put at its place
set_here : (os : List OptionSyntax) (i : ℕ) (d : OptionSyntax) (v : Text) (given : Given) → i < length os → are_apart os ≡ true → lookup (get_or os i d).name given ≡ None
    → set (values_of os given) i (Some v) ≡ values_of os (given ++ ((get_or os i d).name, v, []) ∷ [])
set_here [] i d v given lt apart new = absurd (omega arith)
set_here (o ∷ os) zero d v given lt apart new =
    let parts = and_parts (list_all (is_apart o.name) os) (are_apart os) apart in
    ap₂ (λ (x : Option Text) (xs : List (Option Text)). x ∷ xs) (sym (ap (option_and_then (λ (vs : List Text). slice_get vs 0)) (lookup_new o.name v [] given new)))
    (others_same o.name v given os parts.0)
set_here (o ∷ os) (suc i) d v given lt apart new =
    let parts = and_parts (list_all (is_apart o.name) os) (are_apart os) apart in
    let below : i < length os = omega arith in
    let there = all_get (is_apart o.name) os i d below parts.0 in
    let other = and_parts (not (bytes_eq o.name (get_or os i d).name)) (not (bytes_eq (get_or os i d).name o.name)) there in
    ap₂ (λ (x : Option Text) (xs : List (Option Text)). x ∷ xs) (value_other o.name (get_or os i d).name v [] given (not-true (bytes_eq (get_or os i d).name o.name) other.1))
    (set_here os i d v given below parts.1 new)

-- what it takes to add a value: the word is the name of an option of the form, which has none yet
pub record Taken (s : Shape) (names : List Text) (options : List OptionSyntax) (given : Given) (word value : Text) (more : List (Option Text)) : Type 0 where
  pub one : OptionSyntax
  pub fits : OptionFits s.rules one
  pub apart : Each (λ name. bytes_eq one.name name ≡ false) names
  pub spelt : dashed one.name ≡ word
  pub new : lookup one.name given ≡ None
  pub after : more ≡ values_of options (given ++ (one.name, value, []) ∷ [])

abbrev no_option : OptionSyntax
no_option = record { name = []; required = false }

module _ (s : Shape) (names : List Text) (form : Syntax) (fit : Each (OptionFits s.rules) form.options) (apart : are_apart form.options ≡ true)
    (other : Each (λ o. Each (λ name. bytes_eq o.name name ≡ false) names) form.options) (given : Given) where
  by_place : (word value : Text) (more : List (Option Text)) (i : ℕ) → i < length form.options → bytes_eq (dashed (get_or form.options i no_option).name) word ≡ true
      → (if is_some (get_or (values_of form.options given) i None) then None else Some (set (values_of form.options given) i (Some value))) ≡ Some more
      → Taken s names form.options given word value more
  by_place word value more i lt same e = go (value_of (get_or form.options i no_option).name given) refl (rw (get_or-map (λ (o : OptionSyntax). value_of o.name given) form.options i no_option None lt) at e)
    where
      go : (found : Option Text) → value_of (get_or form.options i no_option).name given ≡ found
          → (if is_some (value_of (get_or form.options i no_option).name given) then None else Some (set (values_of form.options given) i (Some value))) ≡ Some more
          → Taken s names form.options given word value more
      go (Some x) is e =
          let none = rw is at e in absurd (none-some more none)
      go None is e =
          let new = not_given (get_or form.options i no_option).name given is in
          let is_more = rw is at e in
          record {
            one = get_or form.options i no_option;
            fits = each_at (OptionFits s.rules) form.options i no_option lt fit;
            apart = each_at (λ (o : OptionSyntax). Each (λ name. bytes_eq o.name name ≡ false) names) form.options i no_option lt other;
            spelt = same_text (dashed (get_or form.options i no_option).name) word same;
            new = new;
            after = sym (ap (λ o. Rattle.std.specs.Option.unwrap_or o more) is_more) ∙ set_here form.options i no_option value given lt apart new;
          }

  pub taken : (word value : Text) (more : List (Option Text)) → with_value form (values_of form.options given) word value ≡ Some more → Taken s names form.options given word value more
  unfolding with_value
  taken word value more e =
      option_and_then_some _ (position (λ (o : OptionSyntax). bytes_eq (dashed o.name) word) form.options) more e (λ i found here.
      let at = position-Some (λ (o : OptionSyntax). bytes_eq (dashed o.name) word) form.options i no_option found in
      by_place word value more i at.0 at.1 here)

-- ---- the walk over options

-- a walk over words comes to the positional words, with this given, and nothing was wrong
pub record Comes (s : Shape) (names : List Text) (options : List OptionSyntax) (words : List Text) (h : Held) (values : List (Option Text)) (positional : List Text) : Type 0 where
  pub end : Held
  pub given : Given
  pub walk : fold (walked s.rules []) (walk_from h) words ≡ fold (walked s.rules []) (walk_from end) positional
  pub faults : walk_fault s [] (walk_from h) words ≡ walk_fault s [] (walk_from end) positional
  pub at : At s names given end
  pub kept : values ≡ values_of options given
  pub short : length positional ≤ length words

abbrev values_in : Spelled → List (Option Text)
values_in (Words values positional) = values

abbrev positional_in : Spelled → List Text
positional_in (Words values positional) = positional

module _ (s : Shape) (names : List Text) (form : Syntax) (fit : Each (OptionFits s.rules) form.options) (apart : are_apart form.options ≡ true)
    (other : Each (λ o. Each (λ name. bytes_eq o.name name ≡ false) names) form.options) (values' : List (Option Text)) (positional : List Text) where
  stays : (words : List Text) (values : List (Option Text)) (given : Given) (h : Held) → At s names given h → values ≡ values_of form.options given
      → Some (Words values words) ≡ Some (Words values' positional) → Comes s names form.options words h values' positional
  stays words values given h at is e =
      let same : Words values words ≡ Words values' positional = ap (λ o. Rattle.std.specs.Option.unwrap_or o (Words values words)) e in
      record {
        end = h;
        given = given;
        walk = ap (fold (walked s.rules []) (walk_from h)) (ap positional_in same);
        faults = ap (walk_fault s [] (walk_from h)) (ap positional_in same);
        at = at;
        kept = sym (ap values_in same) ∙ is;
        short = let e = ap length (ap positional_in same) in omega arith;
      }

  -- an option and its value are taken
  takes : (o : OptionSyntax) (value : Text) (words : List Text) (h : Held) (given : Given) → OptionFits s.rules o → IsNoFlag value → At s names given h
      → Comes s names form.options words (held_with s.rules o.name (value ∷ []) h) values' positional → Comes s names form.options (dashed o.name ∷ value ∷ words) h values' positional
  unfolding walk_fault
  takes o value words h given fits plain at rest = record {
    end = rest.end;
    given = rest.given;
    walk = ap (λ w. fold (walked s.rules []) w words) (ap (λ w. walked s.rules [] w value) (option_walked s o fits 1 h) ∙ value_walked s o fits 1 h value plain) ∙ rest.walk;
    faults =
        ap (λ k. or_else k (or_else (turn_fault s [] (walked s.rules [] (walk_from h) (dashed o.name)) value) (walk_fault s [] (walked s.rules [] (walked s.rules [] (walk_from h) (dashed o.name)) value) words)))
        (option_faultless s o fits 1 h ∙ at.fault)
        ∙ ap (λ w. or_else (turn_fault s [] w value) (walk_fault s [] (walked s.rules [] w value) words)) (option_walked s o fits 1 h)
        ∙ ap₂ (λ k w. or_else k (walk_fault s [] w words)) (value_faultless s o fits 1 h value plain) (value_walked s o fits 1 h value plain)
        ∙ rest.faults;
    at = rest.at;
    kept = rest.kept;
    short = let e = rest.short in omega arith;
  }

  module _ (word value : Text) (words : List Text) (values : List (Option Text)) (h : Held) (given : Given) (at : At s names given h) (is : values ≡ values_of form.options given)
      (rest : (more : List (Option Text)) (given' : Given) (h' : Held) → At s names given' h' → more ≡ values_of form.options given'
      → spelled_from form more words ≡ Some (Words values' positional) → Comes s names form.options words h' values' positional) where
    after_name : begins_with_dash value ≡ false → option_and_then (λ more. spelled_from form more words) (with_value form values word value) ≡ Some (Words values' positional)
        → Comes s names form.options (word ∷ value ∷ words) h values' positional
    after_name plain e = option_and_then_some _ (with_value form values word value) (Words values' positional) e (λ more found left.
        let t = taken s names form fit apart other given word value more (rw is at found) in
        subst (λ (w : Text). Comes s names form.options (w ∷ value ∷ words) h values' positional) t.spelt
        (takes t.one value words h given t.fits (no_flag value plain) at
        (rest more (given ++ (t.one.name, value, []) ∷ []) (held_with s.rules t.one.name (value ∷ []) h) (more_given s names given h t.one value t.fits at t.new t.apart) t.after left)))

    by_value : (b : Bool) → begins_with_dash value ≡ b
        → (if b then None else option_and_then (λ more. spelled_from form more words) (with_value form values word value)) ≡ Some (Words values' positional)
        → Comes s names form.options (word ∷ value ∷ words) h values' positional
    by_value true is_flag e = absurd (none-some (Words values' positional) e)
    by_value false plain e = after_name plain e

    by_word : (b : Bool)
        → (if not b then Some (Words values (word ∷ value ∷ words)) else
        (if begins_with_dash value then None else option_and_then (λ more. spelled_from form more words) (with_value form values word value))) ≡ Some (Words values' positional)
        → Comes s names form.options (word ∷ value ∷ words) h values' positional
    by_word false e = stays (word ∷ value ∷ words) values given h at is e
    by_word true e = by_value (begins_with_dash value) refl e

  pub comes : (words : List Text) (values : List (Option Text)) (given : Given) (h : Held) → At s names given h → values ≡ values_of form.options given
      → spelled_from form values words ≡ Some (Words values' positional) → Comes s names form.options words h values' positional
  comes [] values given h at is e = stays [] values given h at is e
  comes (word ∷ []) values given h at is e = stays (word ∷ []) values given h at is e
  comes (word ∷ value ∷ words) values given h at is e =
      by_word word value words values h given at is (λ more given' h' at' is' left. comes words more given' h' at' is' left) (begins_with_dash word) e
