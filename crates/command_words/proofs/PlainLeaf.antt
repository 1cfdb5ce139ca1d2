-- What a subcommand reads of words in the plain form.
use Rattle.std.proofs.Common.{◌≡◌, ◌∙◌, ◌≤◌, Bool, true, false, refl, sym, ap, ap₂, arith, List, [], ◌∷◌, ◌++◌, map, drop, length, Option, Some, None, is_some, not, if◌then◌else◌, ◌&&◌, ◌||◌, true≢false}
use Rattle.std.specs.Option.{unwrap_or}
use Rattle.std.specs.List.{list_all, list_any, zip}
use Rattle.std.specs.Str.{bytes_eq}
use Rattle.std.proofs.lemmas.Bool.{and_parts, eqb-true, not-true}
use Rattle.std.proofs.lemmas.Option.{none-some, option_and_then_some}
use Rattle.clap.specs.Faults.{walk_fault}
use Rattle.clap.specs.Lexer.{long_of, usize_max}
use Rattle.clap.specs.Kinds.{or_else}
use Rattle.clap.specs.Simple.{Shape, filled}
use Rattle.clap.specs.Takes.{is_given}
use Rattle.clap.specs.Walk.{Row, Rule, Text, arg_by_id, arg_by_long, nothing_held, walked}
use Rattle.command_words.specs.Command.{Spelled, Words}
use Rattle.command_words.specs.PlainForm.{begins_with_dash, dashed, has_no_option, has_required, is_complete, no_values, spelled_from, spelled_words, takes_words}
use Rattle.command_words.specs.Table.{OptionSyntax, PositionalSyntax, Syntax, one, option_rule, several}
use Rattle.command_words.proofs.Given.{Given, is_given-given, is_some-value, lookup, lookup_new, lookup_other, rows_for, value_of, same_text}
use Rattle.command_words.proofs.PlainOptions.{At, Comes, Each, OptionFits, are_apart, comes, each_to, held_with, no_flag, options_stay, values_of}
use Rattle.command_words.proofs.PlainWords.{IsPlainLeaf, Reads, SeveralFits, SingleFits, finishes, lacks, several_faultless, several_given, several_walked, single_faultless, single_given, single_walked}

-- a subcommand with these options, and positional words of these names
pub record Leaf (s : Shape) (options : List OptionSyntax) (names : List Text) (more : List Rule) : Type 0 where
  pub plain : IsPlainLeaf s
  pub fit : Each (OptionFits s.rules) options
  pub apart : are_apart options ≡ true
  pub other : Each (λ o. Each (λ name. bytes_eq o.name name ≡ false) names) options
  pub back : Each (λ name. Each (λ o. bytes_eq name o.name ≡ false) options) names
  pub rules : s.rules ≡ map (λ o. filled (option_rule o)) options ++ more
  pub rest : (rows : List Row) → Each (λ name. is_given name rows ≡ true) names → list_any (lacks rows) more ≡ false

-- ---- before the first word

each_from : {X : Type 0} (P : X → Type 0) (xs : List X) → ((x : X) → P x) → Each P xs
each_from P [] h = tt
each_from P (x ∷ xs) h = (h x, each_from P xs h)

start : (s : Shape) (names : List Text) → At s names [] nothing_held
start s names = record { rows = refl; fault = refl; apart = each_from _ names (λ name. refl); fresh = each_from _ names (λ name. refl) }

none_given : (options : List OptionSyntax) → map (λ option. None) options ≡ values_of options []
none_given [] = refl
none_given (o ∷ os) = ap (λ (vs : List (Option Text)). None ∷ vs) (none_given os)

-- ---- what is required

any_append : {X : Type 0} (p : X → Bool) (xs ys : List X) → list_any p xs ≡ false → list_any p ys ≡ false → list_any p (xs ++ ys) ≡ false
any_append p [] ys none rest = rest
any_append p (x ∷ xs) ys none rest = go (p x) none (any_append p xs ys)
  where
    go : (b : Bool) → (b || list_any p xs) ≡ false → (list_any p xs ≡ false → list_any p ys ≡ false → list_any p (xs ++ ys) ≡ false) → (b || list_any p (xs ++ ys)) ≡ false
    go true e next = absurd (true≢false e)
    go false e next = next e rest

required_here : (r b : Bool) → (not r || b) ≡ true → (r && not b) ≡ false
required_here true true e = refl
required_here true false e = sym e
required_here false b e = refl

options_required : (options : List OptionSyntax) (given : Given) → list_all (λ (option, value). not option.required || is_some value) (zip options (values_of options given)) ≡ true
    → list_any (lacks (rows_for given)) (map (λ o. filled (option_rule o)) options) ≡ false
options_required [] given h = refl
options_required (o ∷ os) given h =
    let parts = and_parts (not o.required || is_some (value_of o.name given)) _ h in
    let b = rw is_some-value at parts.0 in
    let here : (o.required && not (is_given o.name (rows_for given))) ≡ false = rw (is_given-given o.name given) (required_here o.required (is_some (lookup o.name given)) b) in
    rw (here) (options_required os given parts.1)

-- ---- what the plain form says

-- the words are complete
pub record IsComplete (form : Syntax) (words : List Text) (values : List (Option Text)) (positional : List Text) : Type 0 where
  pub from : spelled_from form (no_values form) words ≡ Some (Words values positional)
  pub required : has_required form values ≡ true
  pub count : takes_words form.positionals (length positional) ≡ true
  pub plain : has_no_option positional ≡ true

complete_at : (form : Syntax) (words : List Text) (found : Spelled) (values : List (Option Text)) (positional : List Text) → spelled_from form (no_values form) words ≡ Some found
    → (b : Bool) → is_complete form found ≡ b → (if b then Some found else None) ≡ Some (Words values positional) → IsComplete form words values positional
unfolding is_complete
complete_at form words found values positional from false is e = absurd (none-some (Words values positional) e)
complete_at form words found values positional from true is e =
    let same : found ≡ Words values positional = ap (λ o. unwrap_or o found) e in
    let all = rw same at is in
    let outer = and_parts (has_required form values && takes_words form.positionals (length positional)) (has_no_option positional) all in
    let inner = and_parts (has_required form values) (takes_words form.positionals (length positional)) outer.0 in
    record { from = from ∙ ap Some same; required = inner.0; count = inner.1; plain = outer.1 }

complete : (form : Syntax) (words : List Text) (values : List (Option Text)) (positional : List Text) → spelled_words form words ≡ Some (Words values positional) → IsComplete form words values positional
unfolding spelled_words
complete form words values positional e =
    option_and_then_some _ (spelled_from form (no_values form) words) (Words values positional) e (λ found from left.
    complete_at form words found values positional from (is_complete form found) refl left)

-- ---- the three shapes of positional words

-- what a subcommand finds: nothing is wrong, and its options have their values
pub record Finds (s : Shape) (options : List OptionSyntax) (words : List Text) (values : List (Option Text)) (given : Given) : Type 0 where
  pub reads : Reads s words given
  pub kept : values ≡ values_of options given

module _ (s : Shape) (command : Text) (options : List OptionSyntax) (words : List Text) (values : List (Option Text)) where
  abbrev form : List PositionalSyntax → Syntax
  form positionals = record { name = command; options = options; positionals = positionals }

  module _ (names : List Text) (more : List Rule) (leaf : Leaf s options names more) where
    begins : (positionals : List PositionalSyntax) (positional : List Text) → IsComplete (form positionals) words values positional → Comes s names options words nothing_held values positional
    begins positionals positional done =
        comes s names (form positionals) leaf.fit leaf.apart leaf.other values positional words (no_values (form positionals)) [] nothing_held (start s names) (none_given options) done.from

    nothing_lacks : (positionals : List PositionalSyntax) (positional : List Text) → IsComplete (form positionals) words values positional → (given : Given) → values ≡ values_of options given
        → Each (λ name. is_given name (rows_for given) ≡ true) names → list_any (lacks (rows_for given)) s.rules ≡ false
    nothing_lacks positionals positional done given kept has =
        rw leaf.rules (any_append (lacks (rows_for given)) (map (λ o. filled (option_rule o)) options) more (options_required options given (rw kept at done.required)) (leaf.rest (rows_for given) has))

  given_now : (name : Text) (given : Given) (vs : List Text) → lookup name given ≡ Some vs → is_given name (rows_for given) ≡ true
  given_now name given vs is = is_given-given name given ∙ ap is_some is

  -- a positional argument of one or more words
  pub several_found : (name : Text) (more : List Rule) → Leaf s options (name ∷ []) more → SeveralFits s.rules name → length words ≤ usize_max
      → (positional : List Text) → spelled_words (form (several name ∷ [])) words ≡ Some (Words values positional)
      → (given : Given) × Finds s options words values given × (lookup name given ≡ Some positional)
  several_found name more leaf fits few [] e =
      let done = complete (form (several name ∷ [])) words values [] e in absurd (true≢false (sym done.count))
  several_found name more leaf fits few (w ∷ ws) e =
      let done = complete (form (several name ∷ [])) words values (w ∷ ws) e in
      let c = begins (name ∷ []) more leaf (several name ∷ []) (w ∷ ws) done in
      let new = lookup_new name w ws c.given c.at.fresh.0 in
      let kept = c.kept ∙ options_stay name w ws c.given options leaf.back.0 in
      let short : length (w ∷ ws) ≤ usize_max = omega (arith, c.short, few) in (
        c.given ++ (name, w, ws) ∷ [],
        record {
          reads = finishes s leaf.plain words _ _ (c.walk ∙ several_walked s name fits c.end c.given c.at w ws done.plain) (c.faults ∙ several_faultless s name fits c.end c.given c.at w ws done.plain)
              (several_given s name fits c.end c.given c.at w ws done.plain short)
              (nothing_lacks (name ∷ []) more leaf (several name ∷ []) (w ∷ ws) done _ kept (given_now name _ _ new, tt));
          kept = kept;
        },
        new,
      )

  -- a positional argument of one word
  pub one_found : (name : Text) (more : List Rule) → Leaf s options (name ∷ []) more → SingleFits s.rules 1 name
      → (positional : List Text) → spelled_words (form (one name ∷ [])) words ≡ Some (Words values positional)
      → (given : Given) × (word : Text) × Finds s options words values given × (lookup name given ≡ Some (word ∷ [])) × (positional ≡ word ∷ [])
  unfolding walk_fault
  one_found name more leaf fits [] e =
      let done = complete (form (one name ∷ [])) words values [] e in absurd (true≢false (sym done.count))
  one_found name more leaf fits (w ∷ v ∷ ws) e =
      let done = complete (form (one name ∷ [])) words values (w ∷ v ∷ ws) e in
      let same = eqb-true (length (w ∷ v ∷ ws)) 1 done.count in
      absurd (omega arith)
  one_found name more leaf fits (w ∷ []) e =
      let done = complete (form (one name ∷ [])) words values (w ∷ []) e in
      let c = begins (name ∷ []) more leaf (one name ∷ []) (w ∷ []) done in
      let new = lookup_new name w [] c.given c.at.fresh.0 in
      let kept = c.kept ∙ options_stay name w [] c.given options leaf.back.0 in
      let flag = no_flag w (not-true (begins_with_dash w) (and_parts (not (begins_with_dash w)) true done.plain).0) in (
        c.given ++ (name, w, []) ∷ [],
        w,
        record {
          reads = finishes s leaf.plain words _ _ (c.walk ∙ single_walked s 1 2 name fits refl c.end [] c.given c.at w flag)
              (c.faults ∙ ap (λ k. or_else k []) (single_faultless s 1 2 name fits refl c.end [] c.given c.at w flag))
              (single_given s 1 2 name fits refl c.end [] c.given c.at w tt)
              (nothing_lacks (name ∷ []) more leaf (one name ∷ []) (w ∷ []) done _ kept (given_now name _ _ new, tt));
          kept = kept;
        },
        new,
        refl,
      )

  -- two words
  pub two_found : (name next : Text) (more : List Rule) → Leaf s options (name ∷ next ∷ []) more → SingleFits s.rules 1 name → SingleFits s.rules 2 next
      → bytes_eq name next ≡ false → bytes_eq next name ≡ false
      → (positional : List Text) → spelled_words (form (one name ∷ one next ∷ [])) words ≡ Some (Words values positional)
      → (given : Given) × (word after : Text) × Finds s options words values given × (lookup name given ≡ Some (word ∷ [])) × (lookup next given ≡ Some (after ∷ [])) × (positional ≡ word ∷ after ∷ [])
  unfolding walk_fault
  two_found name next more leaf fits fits' apart apart' [] e =
      let done = complete (form (one name ∷ one next ∷ [])) words values [] e in absurd (true≢false (sym done.count))
  two_found name next more leaf fits fits' apart apart' (w ∷ []) e =
      let done = complete (form (one name ∷ one next ∷ [])) words values (w ∷ []) e in absurd (true≢false (sym done.count))
  two_found name next more leaf fits fits' apart apart' (w ∷ v ∷ x ∷ ws) e =
      let done = complete (form (one name ∷ one next ∷ [])) words values (w ∷ v ∷ x ∷ ws) e in
      let same = eqb-true (length (w ∷ v ∷ x ∷ ws)) 2 done.count in
      absurd (omega arith)
  two_found name next more leaf fits fits' apart apart' (w ∷ v ∷ []) e =
      let done = complete (form (one name ∷ one next ∷ [])) words values (w ∷ v ∷ []) e in
      let c = begins (name ∷ next ∷ []) more leaf (one name ∷ one next ∷ []) (w ∷ v ∷ []) done in
      let plain = and_parts (not (begins_with_dash w)) (has_no_option (v ∷ [])) done.plain in
      let flag = no_flag w (not-true (begins_with_dash w) plain.0) in
      let flag' = no_flag v (not-true (begins_with_dash v) (and_parts (not (begins_with_dash v)) true plain.1).0) in
      let given1 : Given = c.given ++ (name, w, []) ∷ [] in
      let held1 = held_with s.rules name (w ∷ []) c.end in
      let at1 = single_given s 1 2 name fits refl c.end (next ∷ []) c.given c.at w (apart, tt) in
      let new1 = lookup_new name w [] c.given c.at.fresh.0 in
      let new2 = lookup_new next v [] given1 at1.fresh.0 in
      let still = lookup_other name next v [] given1 apart' ∙ new1 in
      let kept = c.kept ∙ options_stay name w [] c.given options leaf.back.0 ∙ options_stay next v [] given1 options leaf.back.1.0 in (
        given1 ++ (next, v, []) ∷ [],
        w,
        v,
        record {
          reads = finishes s leaf.plain words _ _
              (c.walk ∙ ap (λ x. walked s.rules [] x v) (single_walked s 1 2 name fits refl c.end (next ∷ []) c.given c.at w flag)
              ∙ single_walked s 2 3 next fits' refl held1 [] given1 at1 v flag')
              (c.faults ∙ ap₂ (λ k x. or_else k (walk_fault s [] x (v ∷ []))) (single_faultless s 1 2 name fits refl c.end (next ∷ []) c.given c.at w flag) (single_walked s 1 2 name fits refl c.end (next ∷ []) c.given c.at w flag)
              ∙ ap (λ k. or_else k []) (single_faultless s 2 3 next fits' refl held1 [] given1 at1 v flag'))
              (single_given s 2 3 next fits' refl held1 [] given1 at1 v tt)
              (nothing_lacks (name ∷ next ∷ []) more leaf (one name ∷ one next ∷ []) (w ∷ v ∷ []) done _ kept (given_now name _ _ still, (given_now next _ _ new2, tt)));
          kept = kept;
        },
        still,
        new2,
        refl,
      )

-- ---- a subcommand by tests, which compute at one that is written out

-- the argument is not required, or has one of the names
abbrev pub is_named : List Text → Rule → Bool
is_named names a = not a.required || list_any (λ name. bytes_eq name a.id) names

pub record IsLeafOf (s : Shape) (options : List OptionSyntax) (names : List Text) : Type 0 where
  pub defaults : map (λ (a : Rule). a.defaults) s.rules ≡ map (λ a. []) s.rules
  pub help : s.arg_required_else_help ≡ false
  pub required : s.subcommand_required ≡ false
  pub negates : s.subcommand_negates_reqs ≡ false
  pub written : map (λ (o : OptionSyntax). long_of (dashed o.name)) options ≡ map (λ o. Some (o.name, None)) options
  pub dashes : map (λ (o : OptionSyntax). bytes_eq (dashed o.name) (45 ∷ 45 ∷ [])) options ≡ map (λ o. false) options
  pub by_long : map (λ (o : OptionSyntax). arg_by_long s.rules o.name) options ≡ map (λ o. Some (filled (option_rule o))) options
  pub by_id : map (λ (o : OptionSyntax). arg_by_id s.rules o.name) options ≡ map (λ o. Some (filled (option_rule o))) options
  pub apart : are_apart options ≡ true
  pub other : list_all (λ (o : OptionSyntax). list_all (λ name. not (bytes_eq o.name name)) names) options ≡ true
  pub back : list_all (λ name. list_all (λ (o : OptionSyntax). not (bytes_eq name o.name)) options) names ≡ true
  pub rules : s.rules ≡ map (λ o. filled (option_rule o)) options ++ drop (length options) s.rules
  pub rest : list_all (is_named names) (drop (length options) s.rules) ≡ true

abbrev head_or : {X : Type 0} → X → List X → X
head_or d [] = d
head_or d (x ∷ xs) = x

abbrev tail_of : {X : Type 0} → List X → List X
tail_of [] = []
tail_of (x ∷ xs) = xs

each_same : {X Y : Type 0} (f g : X → Y) (xs : List X) → map f xs ≡ map g xs → Each (λ x. f x ≡ g x) xs
each_same f g [] e = tt
each_same f g (x ∷ xs) e = (ap (head_or (f x)) e, each_same f g xs (ap tail_of e))

each_all : {X : Type 0} (p : X → Bool) (xs : List X) → list_all p xs ≡ true → Each (λ x. p x ≡ true) xs
each_all p [] e = tt
each_all p (x ∷ xs) e =
    let parts = and_parts (p x) (list_all p xs) e in
    (parts.0, each_all p xs parts.1)

each_not : {X : Type 0} (p : X → Bool) (xs : List X) → list_all (λ x. not (p x)) xs ≡ true → Each (λ x. p x ≡ false) xs
each_not p xs e = each_to (λ x. not (p x) ≡ true) (λ x. p x ≡ false) xs (λ x h. not-true (p x) h) (each_all (λ x. not (p x)) xs e)

each_fits : (c : List Rule) (os : List OptionSyntax) → Each (λ o. long_of (dashed o.name) ≡ Some (o.name, None)) os → Each (λ o. bytes_eq (dashed o.name) (45 ∷ 45 ∷ []) ≡ false) os
    → Each (λ o. arg_by_long c o.name ≡ Some (filled (option_rule o))) os → Each (λ o. arg_by_id c o.name ≡ Some (filled (option_rule o))) os → Each (OptionFits c) os
each_fits c [] w d l i = tt
each_fits c (o ∷ os) w d l i = (record { written = w.0; apart = d.0; by_long = l.0; by_id = i.0 }, each_fits c os w.1 d.1 l.1 i.1)

given_named : (rows : List Row) (names : List Text) (id : Text) → Each (λ name. is_given name rows ≡ true) names → list_any (λ name. bytes_eq name id) names ≡ true → is_given id rows ≡ true
given_named rows [] id has e = absurd (true≢false (sym e))
given_named rows (name ∷ names) id has e = go (bytes_eq name id) refl e (given_named rows names id has.1)
  where
    go : (b : Bool) → bytes_eq name id ≡ b → (b || list_any (λ n. bytes_eq n id) names) ≡ true → (list_any (λ n. bytes_eq n id) names ≡ true → is_given id rows ≡ true) → is_given id rows ≡ true
    go true same h next = ap (λ n. is_given n rows) (sym (same_text name id same)) ∙ has.0
    go false other h next = next h

named_given : (names : List Text) (more : List Rule) → list_all (is_named names) more ≡ true → (rows : List Row) → Each (λ name. is_given name rows ≡ true) names → list_any (lacks rows) more ≡ false
named_given names [] e rows has = refl
named_given names (a ∷ more) e rows has =
    let parts = and_parts (is_named names a) (list_all (is_named names) more) e in
    go a.required (list_any (λ name. bytes_eq name a.id) names) refl parts.0 (named_given names more parts.1 rows has)
  where
    go : (r b : Bool) → list_any (λ name. bytes_eq name a.id) names ≡ b → (not r || b) ≡ true → list_any (lacks rows) more ≡ false → ((r && not (is_given a.id rows)) || list_any (lacks rows) more) ≡ false
    go true true is h next = rw (given_named rows names a.id has is) next
    go true false is h next = absurd (true≢false (sym h))
    go false b is h next = next

pub leaf_of : (s : Shape) (options : List OptionSyntax) (names : List Text) → IsLeafOf s options names → Leaf s options names (drop (length options) s.rules)
leaf_of s options names t = record {
  plain = record { defaults = each_same _ _ s.rules t.defaults; help = t.help; required = t.required; negates = t.negates };
  fit = each_fits s.rules options (each_same _ _ options t.written) (each_same _ _ options t.dashes) (each_same _ _ options t.by_long) (each_same _ _ options t.by_id);
  apart = t.apart;
  other = each_to _ _ options (λ (o : OptionSyntax) h. each_not (λ name. bytes_eq o.name name) names h) (each_all _ options t.other);
  back = each_to _ _ names (λ name h. each_not (λ (o : OptionSyntax). bytes_eq name o.name) options h) (each_all _ names t.back);
  rules = t.rules;
  rest = named_given names (drop (length options) s.rules) t.rest;
}
