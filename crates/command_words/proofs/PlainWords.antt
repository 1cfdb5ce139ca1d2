-- The walk of a subcommand over positional words in the plain form, and its end.
use Rattle.std.proofs.Common.{◌≡◌, ◌∙◌, ◌≤◌, ◌+◌, ℕ, Bool, true, false, suc, refl, sym, ap, ap₂, arith, List, [], ◌∷◌, ◌++◌, length, min, Some, None, not, if◌then◌else◌, ◌&&◌, ◌||◌, append_assoc, append-nil}
use Rattle.std.specs.List.{fold, list_any}
use Rattle.std.specs.Str.{bytes_eq}
use Rattle.std.proofs.lemmas.Bool.{and_parts, le-ltb, ne_eqb, not-true}
use Rattle.clap.specs.Faults.{default_fault, defaults_fault, level_fault, turn_fault, walk_fault}
use Rattle.clap.specs.Kinds.{or_else, range_kinds, values_kinds}
use Rattle.clap.specs.Lexer.{usize_max}
use Rattle.clap.specs.Simple.{Shape, filled, with_index}
use Rattle.clap.specs.Takes.{is_given}
use Rattle.clap.specs.Walk.{Held, Row, Rule, Text, Walk, arg_by_id, arg_by_index, has_row, nothing_held, positional, rows_after, walk_from, walked, with_default}
use Rattle.clap.specs.declared.builder.value_parser.ValueParser.TheVariants as vp
use Rattle.command_words.specs.PlainForm.{begins_with_dash, has_no_option}
use Rattle.command_words.specs.Table.{one, positional_rule, several}
use Rattle.command_words.proofs.Given.{Given, appended, has_row-given, lookup, lookup_other, replaced, rows_for, same_bytes}
use Rattle.command_words.proofs.PlainOptions.{At, Each, IsNoFlag, each_both, held_with, idle_at, no_flag}

-- ---- one positional word

pub record SingleFits (c : List Rule) (place : ℕ) (name : Text) : Type 0 where
  pub by_index : arg_by_index c place ≡ Some (with_index place (filled (positional_rule (one name))))
  pub by_id : arg_by_id c name ≡ Some (with_index place (filled (positional_rule (one name))))

module _ (s : Shape) (place next : ℕ) (name : Text) (fits : SingleFits s.rules place name) (is_next : min (place + 1) usize_max ≡ next)
    (h : Held) (names : List Text) (given : Given) (at : At s (name ∷ names) given h) (w : Text) where
  pub single_walked : IsNoFlag w → walked s.rules [] (idle_at place h) w ≡ idle_at next (held_with s.rules name (w ∷ []) h)
  unfolding walked
  single_walked plain = rw (plain.dashes, plain.long, plain.short, fits.by_index, at.apart.0, is_next) refl

  pub single_faultless : IsNoFlag w → turn_fault s [] (idle_at place h) w ≡ []
  single_faultless plain = rw (plain.dashes, plain.long, plain.short, fits.by_index, at.apart.0, at.fault) refl

  pub single_given : Each (λ n. bytes_eq name n ≡ false) names → At s names (given ++ (name, w, []) ∷ []) (held_with s.rules name (w ∷ []) h)
  single_given apart = record {
    rows = rw (fits.by_id, at.rows) (replaced name w [] given at.fresh.0);
    fault = rw (fits.by_id, at.rows, has_row-given name given, at.fresh.0) refl;
    apart = apart;
    fresh = each_both (λ n. bytes_eq name n ≡ false) (λ n. lookup n given ≡ None) (λ n. lookup n (given ++ (name, w, []) ∷ []) ≡ None) names
        (λ n other none. lookup_other n name w [] given other ∙ none) apart at.fresh.1;
  }

-- ---- several positional words

pub record SeveralFits (c : List Rule) (name : Text) : Type 0 where
  pub by_index : arg_by_index c 1 ≡ Some (with_index 1 (filled (positional_rule (several name))))
  pub by_id : arg_by_id c name ≡ Some (with_index 1 (filled (positional_rule (several name))))

-- among the positional words
abbrev pub reading_at : List Rule → Text → List Text → Held → Walk
reading_at c name values h = record { held = held_with c name values h; waiting = positional; position = 1; is_trailing = false; stopped = None }

values_pass : (vs : List Text) → values_kinds false vp.String vs ≡ []
values_pass [] = refl
values_pass (v ∷ vs) = values_pass vs

enough : (n : ℕ) → suc n ≤ usize_max → range_kinds 1 usize_max (suc n) ≡ []
enough n few = rw (ne_eqb (suc n) 0 (λ e. omega (arith, e)), le-ltb (suc n) 1 (omega arith), le-ltb usize_max (suc n) few) refl

module _ (s : Shape) (name : Text) (fits : SeveralFits s.rules name) (h : Held) where
  first_walked : (names : List Text) (given : Given) → At s (name ∷ names) given h → (w : Text) → IsNoFlag w → walked s.rules [] (idle_at 1 h) w ≡ reading_at s.rules name (w ∷ []) h
  unfolding walked
  first_walked names given at w plain = rw (plain.dashes, plain.long, plain.short, fits.by_index, at.apart.0) refl

  first_faultless : (names : List Text) (given : Given) → At s (name ∷ names) given h → (w : Text) → IsNoFlag w → turn_fault s [] (idle_at 1 h) w ≡ []
  first_faultless names given at w plain = rw (plain.dashes, plain.long, plain.short, fits.by_index, at.apart.0, at.fault) refl

  next_walked : (v : Text) (vs : List Text) (w : Text) → IsNoFlag w → walked s.rules [] (reading_at s.rules name (v ∷ vs) h) w ≡ reading_at s.rules name (v ∷ (vs ++ w ∷ [])) h
  unfolding walked
  next_walked v vs w plain = rw (plain.dashes, plain.long, plain.short, fits.by_index, same_bytes name) refl

  next_faultless : (v : Text) (vs : List Text) (w : Text) → IsNoFlag w → turn_fault s [] (reading_at s.rules name (v ∷ vs) h) w ≡ []
  next_faultless v vs w plain = rw (plain.dashes, plain.long, plain.short, fits.by_index, same_bytes name) refl

  rest_walked : (v : Text) (vs ws : List Text) → has_no_option ws ≡ true → fold (walked s.rules []) (reading_at s.rules name (v ∷ vs) h) ws ≡ reading_at s.rules name (v ∷ (vs ++ ws)) h
  rest_walked v vs [] plain = ap (λ xs. reading_at s.rules name (v ∷ xs) h) (sym (append-nil vs))
  rest_walked v vs (w ∷ ws) plain =
      let parts = and_parts (not (begins_with_dash w)) (has_no_option ws) plain in
      ap (λ x. fold (walked s.rules []) x ws) (next_walked v vs w (no_flag w (not-true (begins_with_dash w) parts.0)))
      ∙ rest_walked v (vs ++ w ∷ []) ws parts.1
      ∙ ap (λ xs. reading_at s.rules name (v ∷ xs) h) (append_assoc vs (w ∷ []) ws)

  rest_faultless : (v : Text) (vs ws : List Text) → has_no_option ws ≡ true → walk_fault s [] (reading_at s.rules name (v ∷ vs) h) ws ≡ []
  unfolding walk_fault
  rest_faultless v vs [] plain = refl
  rest_faultless v vs (w ∷ ws) plain =
      let parts = and_parts (not (begins_with_dash w)) (has_no_option ws) plain in
      let flag = no_flag w (not-true (begins_with_dash w) parts.0) in
      ap₂ (λ k x. or_else k (walk_fault s [] x ws)) (next_faultless v vs w flag) (next_walked v vs w flag) ∙ rest_faultless v (vs ++ w ∷ []) ws parts.1

  module _ (given : Given) (at : At s (name ∷ []) given h) (w : Text) (ws : List Text) (plain : has_no_option (w ∷ ws) ≡ true) where
    pub several_walked : fold (walked s.rules []) (walk_from h) (w ∷ ws) ≡ reading_at s.rules name (w ∷ ws) h
    several_walked =
        let parts = and_parts (not (begins_with_dash w)) (has_no_option ws) plain in
        ap (λ x. fold (walked s.rules []) x ws) (first_walked [] given at w (no_flag w (not-true (begins_with_dash w) parts.0))) ∙ rest_walked w [] ws parts.1

    pub several_faultless : walk_fault s [] (walk_from h) (w ∷ ws) ≡ []
    unfolding walk_fault
    several_faultless =
        let parts = and_parts (not (begins_with_dash w)) (has_no_option ws) plain in
        let flag = no_flag w (not-true (begins_with_dash w) parts.0) in
        ap₂ (λ k x. or_else k (walk_fault s [] x ws)) (first_faultless [] given at w flag) (first_walked [] given at w flag) ∙ rest_faultless w [] ws parts.1

    pub several_given : length (w ∷ ws) ≤ usize_max → At s [] (given ++ (name, w, ws) ∷ []) (held_with s.rules name (w ∷ ws) h)
    several_given few = record {
      rows = rw (fits.by_id, at.rows) (appended name w ws given at.fresh.0);
      fault = rw fits.by_id (ap₂ or_else (enough (length ws) few) (values_pass (w ∷ ws)));
      apart = tt;
      fresh = tt;
    }

-- ---- the end of a walk

same_either : {X : Type 0} (b : Bool) (x : X) → (if b then x else x) ≡ x
same_either true x = refl
same_either false x = refl

or_true : (b : Bool) → (b || true) ≡ true
or_true true = refl
or_true false = refl

pub no_defaults : (c : List Rule) (rows : List Row) → Each (λ a. a.defaults ≡ []) c → fold with_default rows c ≡ rows
no_defaults [] rows h = refl
no_defaults (a ∷ c) rows h =
    let here : with_default rows a ≡ rows = rw h.0 (same_either (has_row a.id rows) rows) in
    ap (λ rs. fold with_default rs c) here ∙ no_defaults c rows h.1

pub no_default_faults : (c : List Rule) (rows : List Row) → Each (λ a. a.defaults ≡ []) c → defaults_fault rows c ≡ []
unfolding defaults_fault
no_default_faults [] rows h = refl
no_default_faults (a ∷ c) rows h =
    let here : with_default rows a ≡ rows = rw h.0 (same_either (has_row a.id rows) rows) in
    let fine : default_fault rows a ≡ [] = rw (h.0, or_true (has_row a.id rows)) refl in
    ap₂ (λ k rs. or_else k (defaults_fault rs c)) fine here ∙ no_default_faults c rows h.1

-- an argument is required and was not given
abbrev pub lacks : List Row → Rule → Bool
lacks rows a = a.required && not (is_given a.id rows)

-- what the law asks of a subcommand's own settings
pub record IsPlainLeaf (s : Shape) : Type 0 where
  pub defaults : Each (λ a. a.defaults ≡ []) s.rules
  pub help : s.arg_required_else_help ≡ false
  pub required : s.subcommand_required ≡ false
  pub negates : s.subcommand_negates_reqs ≡ false

pub record Reads (s : Shape) (words : List Text) (given : Given) : Type 0 where
  pub faultless : level_fault s [] nothing_held words false [] ≡ []
  pub rows : rows_after s.rules [] words ≡ rows_for given

pub finishes : (s : Shape) (leaf : IsPlainLeaf s) (words : List Text) (end : Walk) (given : Given) → fold (walked s.rules []) (walk_from nothing_held) words ≡ end
    → walk_fault s [] (walk_from nothing_held) words ≡ [] → At s [] given end.held → list_any (lacks (rows_for given)) s.rules ≡ false → Reads s words given
finishes s leaf words end given walk faults at has = record {
  faultless = rw (walk, faults, at.fault, at.rows, no_default_faults s.rules (rows_for given) leaf.defaults, no_defaults s.rules (rows_for given) leaf.defaults, leaf.help, leaf.required, leaf.negates, has) refl;
  rows = rw (walk, at.rows) (no_defaults s.rules (rows_for given) leaf.defaults);
}
