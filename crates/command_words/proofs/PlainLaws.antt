-- Words in the plain form spell the command that they spell without clap: each command by its own subcommand, and then all of them.
use Rattle.std.proofs.Common.{◌≡◌, ◌∙◌, ◌≤◌, ℕ, Bool, true, false, refl, sym, ap, ap₂, arith, List, [], ◌∷◌, ◌++◌, length, get_or, Option, Some, None, is_some, true≢false, if◌then◌else◌, codes}
use Rattle.std.specs.Prelude.{find, slice_get}
use Rattle.std.specs.Option.{option_and_then, option_map, option_map_or, unwrap_or}
use Rattle.std.specs.Str.{bytes_eq}
use Rattle.std.proofs.lemmas.Option.{none-some}
use Rattle.clap.specs.Lexer.{usize_max}
use Rattle.clap.specs.Simple.{App, Shape, built, help_shape}
use Rattle.clap.specs.Walk.{Row, Text, first_of}
use Rattle.clap.proofs.OnLiterals.{clap_on_literals}
use Rattle.command_words.specs.Command.{Command, Meaning, Spelled, Words, check_of, command_of, found_in, gc_of, in_options, listing_of, make_of, meaning, meaning_named, meanings, merge_of, plain_of, read_by_clap, run_of, share_of, trace_of, values_in, zc_of}
use Rattle.command_words.specs.PlainForm.{IsReadAsPlain, is_plain_form, plain_command_of, spelled_words}
use Rattle.command_words.specs.Table.{OptionSyntax, Syntax, check_syntax, gc_syntax, list_syntax, make_syntax, merge_syntax, one, plain_syntax, program_app, run_syntax, several, share_syntax, trace_syntax, zc_syntax}
use Rattle.command_words.proofs.Given.{Given, all_of-given, first_of-given, lookup, rows_for, same_text}
use Rattle.command_words.proofs.PlainOptions.{Each, values_of}
use Rattle.command_words.proofs.PlainWords.{Reads, SeveralFits, SingleFits}
use Rattle.command_words.proofs.PlainLeaf.{IsLeafOf, leaf_of, one_found, several_found, two_found}
use Rattle.command_words.proofs.PlainTop.{Enters, top_reads}

-- the whole command as it is built, and its subcommands
unfoldable built_app : App
built_app = built program_app

unfoldable sub : ℕ → Shape
sub i = get_or built_app.subs i help_shape

bare : program_app.top.no_binary_name ≡ true
unfolding program_app
bare = refl

-- ---- what is found of a command's arguments

values_read : (options : List OptionSyntax) (given : Given) → values_in options (rows_for given) ≡ values_of options given
values_read [] given = refl
values_read (o ∷ os) given = ap₂ (λ (x : Option Text) (xs : List (Option Text)). x ∷ xs) (first_of-given o.name given) (values_read os given)

-- clap reads a command's words as they are spelled
pub record IsRead (form : Syntax) (words : List Text) (spelled : Spelled) : Type 0 where
  pub rows : List Row
  pub read : read_by_clap program_app (form.name ∷ words) ≡ Some (form.name, rows)
  pub has : found_in form rows ≡ spelled

first_at : (name w : Text) (given : Given) → lookup name given ≡ Some (w ∷ []) → first_of name (rows_for given) ≡ Some w
first_at name w given is = first_of-given name given ∙ ap (option_and_then (λ (vs : List Text). slice_get vs 0)) is

-- the words of one positional word that was found
abbrev alone : Option Text → List Text
alone found = unwrap_or (option_map (λ word. word ∷ []) found) []

module _ (name : Text) (options : List OptionSyntax) (s : Shape) (enters : Enters built_app name s) (words : List Text) where
  read : (given : Given) → Reads s words given → read_by_clap program_app (name ∷ words) ≡ Some (name, rows_for given)
  unfolding built_app
  read given reads = top_reads program_app built_app name s words given refl bare enters reads

  several_read : (n : Text) → IsLeafOf s options (n ∷ []) → SeveralFits s.rules n → length words ≤ usize_max → (spelled : Spelled)
      → spelled_words (record { name = name; options = options; positionals = several n ∷ [] }) words ≡ Some spelled
      → IsRead (record { name = name; options = options; positionals = several n ∷ [] }) words spelled
  several_read n leaf fits few (Words values positional) e =
      let r = several_found s name options words values n _ (leaf_of s options (n ∷ []) leaf) fits few positional e in
      record {
        rows = rows_for r.0;
        read = read r.0 r.1.reads;
        has = ap₂ Words (values_read options r.0 ∙ sym r.1.kept) (ap (λ o. unwrap_or o []) (all_of-given n r.0 ∙ r.2));
      }

  one_read : (n : Text) → IsLeafOf s options (n ∷ []) → SingleFits s.rules 1 n → (spelled : Spelled)
      → spelled_words (record { name = name; options = options; positionals = one n ∷ [] }) words ≡ Some spelled
      → IsRead (record { name = name; options = options; positionals = one n ∷ [] }) words spelled
  one_read n leaf fits (Words values positional) e =
      let r = one_found s name options words values n _ (leaf_of s options (n ∷ []) leaf) fits positional e in
      record {
        rows = rows_for r.0;
        read = read r.0 r.2.reads;
        has = ap₂ Words (values_read options r.0 ∙ sym r.2.kept) (ap alone (first_at n r.1 r.0 r.3) ∙ sym r.4);
      }

  two_read : (n m : Text) → IsLeafOf s options (n ∷ m ∷ []) → SingleFits s.rules 1 n → SingleFits s.rules 2 m → bytes_eq n m ≡ false → bytes_eq m n ≡ false → (spelled : Spelled)
      → spelled_words (record { name = name; options = options; positionals = one n ∷ one m ∷ [] }) words ≡ Some spelled
      → IsRead (record { name = name; options = options; positionals = one n ∷ one m ∷ [] }) words spelled
  two_read n m leaf fits fits' apart apart' (Words values positional) e =
      let r = two_found s name options words values n m _ (leaf_of s options (n ∷ m ∷ []) leaf) fits fits' apart apart' positional e in
      record {
        rows = rows_for r.0;
        read = read r.0 r.3.reads;
        has = ap₂ Words (values_read options r.0 ∙ sym r.3.kept) (ap₂ (λ a b. alone a ++ alone b) (first_at n r.1 r.0 r.4) (first_at m r.2 r.0 r.5) ∙ sym r.6);
      }

-- ---- each command

-- words in the plain form of a command spell what it makes of them
abbrev ReadsForm : List Text → Meaning → Type 0
ReadsForm words m = is_some (spelled_words m.form words) ≡ true → command_of (m.form.name ∷ words) ≡ option_and_then m.command (spelled_words m.form words)

form_read : (m : Meaning) (words : List Text) → ((rows : List Row) → meaning m.form.name rows ≡ m.command (found_in m.form rows))
    → ((spelled : Spelled) → spelled_words m.form words ≡ Some spelled → IsRead m.form words spelled)
    → (o : Option Spelled) → spelled_words m.form words ≡ o → is_some o ≡ true → command_of (m.form.name ∷ words) ≡ option_and_then m.command o
form_read m words means reads None is h = absurd (true≢false (sym h))
form_read m words means reads (Some spelled) is h =
    let r = reads spelled is in
    ap (option_and_then (λ (f : Text × List Row). meaning f.0 f.1)) r.read ∙ means r.rows ∙ ap m.command r.has

-- `plain`
plain_enters : Enters built_app (codes "plain") (sub 0)
unfolding built_app sub program_app clap_on_literals
plain_enters = record { named = refl; found = refl; other = refl; same = refl; defaults = (refl, tt); negates = refl; free = refl }

plain_leaf : IsLeafOf (sub 0) plain_syntax.options (codes "OBJ" ∷ [])
unfolding built_app sub program_app clap_on_literals
plain_leaf = record { defaults = refl; help = refl; required = refl; negates = refl; written = refl; dashes = refl; by_long = refl; by_id = refl; apart = refl; other = refl; back = refl; rules = refl; rest = refl }

plain_words : SeveralFits (sub 0).rules (codes "OBJ")
unfolding built_app sub program_app clap_on_literals
plain_words = record { by_index = refl; by_id = refl }

plain_read : (words : List Text) → length words ≤ usize_max → ReadsForm words (record { form = plain_syntax; command = in_options plain_of })
plain_read words few =
    form_read (record { form = plain_syntax; command = in_options plain_of }) words (λ rows. refl)
    (several_read (codes "plain") plain_syntax.options (sub 0) plain_enters words (codes "OBJ") plain_leaf plain_words few) _ refl

-- `zc`
zc_enters : Enters built_app (codes "zc") (sub 1)
unfolding built_app sub program_app clap_on_literals
zc_enters = record { named = refl; found = refl; other = refl; same = refl; defaults = (refl, tt); negates = refl; free = refl }

zc_leaf : IsLeafOf (sub 1) zc_syntax.options (codes "OBJ" ∷ [])
unfolding built_app sub program_app clap_on_literals
zc_leaf = record { defaults = refl; help = refl; required = refl; negates = refl; written = refl; dashes = refl; by_long = refl; by_id = refl; apart = refl; other = refl; back = refl; rules = refl; rest = refl }

zc_words : SeveralFits (sub 1).rules (codes "OBJ")
unfolding built_app sub program_app clap_on_literals
zc_words = record { by_index = refl; by_id = refl }

zc_read : (words : List Text) → length words ≤ usize_max → ReadsForm words (record { form = zc_syntax; command = in_options zc_of })
zc_read words few =
    form_read (record { form = zc_syntax; command = in_options zc_of }) words (λ rows. refl)
    (several_read (codes "zc") zc_syntax.options (sub 1) zc_enters words (codes "OBJ") zc_leaf zc_words few) _ refl

-- `run`
run_enters : Enters built_app (codes "run") (sub 2)
unfolding built_app sub program_app clap_on_literals
run_enters = record { named = refl; found = refl; other = refl; same = refl; defaults = (refl, tt); negates = refl; free = refl }

run_leaf : IsLeafOf (sub 2) run_syntax.options (codes "IMAGE" ∷ [])
unfolding built_app sub program_app clap_on_literals
run_leaf = record { defaults = refl; help = refl; required = refl; negates = refl; written = refl; dashes = refl; by_long = refl; by_id = refl; apart = refl; other = refl; back = refl; rules = refl; rest = refl }

run_words : SingleFits (sub 2).rules 1 (codes "IMAGE")
unfolding built_app sub program_app clap_on_literals
run_words = record { by_index = refl; by_id = refl }

run_read : (words : List Text) → ReadsForm words (record { form = run_syntax; command = in_options run_of })
run_read words =
    form_read (record { form = run_syntax; command = in_options run_of }) words (λ rows. refl)
    (one_read (codes "run") run_syntax.options (sub 2) run_enters words (codes "IMAGE") run_leaf run_words) _ refl

-- `trace`
trace_enters : Enters built_app (codes "trace") (sub 3)
unfolding built_app sub program_app clap_on_literals
trace_enters = record { named = refl; found = refl; other = refl; same = refl; defaults = (refl, tt); negates = refl; free = refl }

trace_leaf : IsLeafOf (sub 3) trace_syntax.options (codes "OBJ" ∷ [])
unfolding built_app sub program_app clap_on_literals
trace_leaf = record { defaults = refl; help = refl; required = refl; negates = refl; written = refl; dashes = refl; by_long = refl; by_id = refl; apart = refl; other = refl; back = refl; rules = refl; rest = refl }

trace_words : SeveralFits (sub 3).rules (codes "OBJ")
unfolding built_app sub program_app clap_on_literals
trace_words = record { by_index = refl; by_id = refl }

trace_read : (words : List Text) → length words ≤ usize_max → ReadsForm words (record { form = trace_syntax; command = in_options trace_of })
trace_read words few =
    form_read (record { form = trace_syntax; command = in_options trace_of }) words (λ rows. refl)
    (several_read (codes "trace") trace_syntax.options (sub 3) trace_enters words (codes "OBJ") trace_leaf trace_words few) _ refl

-- `check`
check_enters : Enters built_app (codes "check") (sub 4)
unfolding built_app sub program_app clap_on_literals
check_enters = record { named = refl; found = refl; other = refl; same = refl; defaults = (refl, tt); negates = refl; free = refl }

check_leaf : IsLeafOf (sub 4) check_syntax.options (codes "CERT" ∷ [])
unfolding built_app sub program_app clap_on_literals
check_leaf = record { defaults = refl; help = refl; required = refl; negates = refl; written = refl; dashes = refl; by_long = refl; by_id = refl; apart = refl; other = refl; back = refl; rules = refl; rest = refl }

check_words : SingleFits (sub 4).rules 1 (codes "CERT")
unfolding built_app sub program_app clap_on_literals
check_words = record { by_index = refl; by_id = refl }

check_read : (words : List Text) → ReadsForm words (record { form = check_syntax; command = check_of })
check_read words =
    form_read (record { form = check_syntax; command = check_of }) words (λ rows. refl)
    (one_read (codes "check") check_syntax.options (sub 4) check_enters words (codes "CERT") check_leaf check_words) _ refl

-- `make`
make_enters : Enters built_app (codes "make") (sub 5)
unfolding built_app sub program_app clap_on_literals
make_enters = record { named = refl; found = refl; other = refl; same = refl; defaults = (refl, tt); negates = refl; free = refl }

make_leaf : IsLeafOf (sub 5) make_syntax.options (codes "NUMBER" ∷ codes "FUNCTIONS" ∷ [])
unfolding built_app sub program_app clap_on_literals
make_leaf = record { defaults = refl; help = refl; required = refl; negates = refl; written = refl; dashes = refl; by_long = refl; by_id = refl; apart = refl; other = refl; back = refl; rules = refl; rest = refl }

make_words : SingleFits (sub 5).rules 1 (codes "NUMBER") × SingleFits (sub 5).rules 2 (codes "FUNCTIONS")
unfolding built_app sub program_app clap_on_literals
make_words = (record { by_index = refl; by_id = refl }, record { by_index = refl; by_id = refl })

make_read : (words : List Text) → ReadsForm words (record { form = make_syntax; command = make_of })
make_read words =
    form_read (record { form = make_syntax; command = make_of }) words (λ rows. refl)
    (two_read (codes "make") make_syntax.options (sub 5) make_enters words (codes "NUMBER") (codes "FUNCTIONS") make_leaf make_words.0 make_words.1 refl refl) _ refl

-- `gc`
gc_enters : Enters built_app (codes "gc") (sub 6)
unfolding built_app sub program_app clap_on_literals
gc_enters = record { named = refl; found = refl; other = refl; same = refl; defaults = (refl, tt); negates = refl; free = refl }

gc_leaf : IsLeafOf (sub 6) gc_syntax.options (codes "OBJ" ∷ [])
unfolding built_app sub program_app clap_on_literals
gc_leaf = record { defaults = refl; help = refl; required = refl; negates = refl; written = refl; dashes = refl; by_long = refl; by_id = refl; apart = refl; other = refl; back = refl; rules = refl; rest = refl }

gc_words : SeveralFits (sub 6).rules (codes "OBJ")
unfolding built_app sub program_app clap_on_literals
gc_words = record { by_index = refl; by_id = refl }

gc_read : (words : List Text) → length words ≤ usize_max → ReadsForm words (record { form = gc_syntax; command = in_options gc_of })
gc_read words few =
    form_read (record { form = gc_syntax; command = in_options gc_of }) words (λ rows. refl)
    (several_read (codes "gc") gc_syntax.options (sub 6) gc_enters words (codes "OBJ") gc_leaf gc_words few) _ refl

-- `merge`
merge_enters : Enters built_app (codes "merge") (sub 7)
unfolding built_app sub program_app clap_on_literals
merge_enters = record { named = refl; found = refl; other = refl; same = refl; defaults = (refl, tt); negates = refl; free = refl }

merge_leaf : IsLeafOf (sub 7) merge_syntax.options (codes "OBJ" ∷ [])
unfolding built_app sub program_app clap_on_literals
merge_leaf = record { defaults = refl; help = refl; required = refl; negates = refl; written = refl; dashes = refl; by_long = refl; by_id = refl; apart = refl; other = refl; back = refl; rules = refl; rest = refl }

merge_words : SeveralFits (sub 7).rules (codes "OBJ")
unfolding built_app sub program_app clap_on_literals
merge_words = record { by_index = refl; by_id = refl }

merge_read : (words : List Text) → length words ≤ usize_max → ReadsForm words (record { form = merge_syntax; command = in_options merge_of })
merge_read words few =
    form_read (record { form = merge_syntax; command = in_options merge_of }) words (λ rows. refl)
    (several_read (codes "merge") merge_syntax.options (sub 7) merge_enters words (codes "OBJ") merge_leaf merge_words few) _ refl

-- `share`
share_enters : Enters built_app (codes "share") (sub 8)
unfolding built_app sub program_app clap_on_literals
share_enters = record { named = refl; found = refl; other = refl; same = refl; defaults = (refl, tt); negates = refl; free = refl }

share_leaf : IsLeafOf (sub 8) share_syntax.options (codes "OBJ" ∷ [])
unfolding built_app sub program_app clap_on_literals
share_leaf = record { defaults = refl; help = refl; required = refl; negates = refl; written = refl; dashes = refl; by_long = refl; by_id = refl; apart = refl; other = refl; back = refl; rules = refl; rest = refl }

share_words : SeveralFits (sub 8).rules (codes "OBJ")
unfolding built_app sub program_app clap_on_literals
share_words = record { by_index = refl; by_id = refl }

share_read : (words : List Text) → length words ≤ usize_max → ReadsForm words (record { form = share_syntax; command = in_options share_of })
share_read words few =
    form_read (record { form = share_syntax; command = in_options share_of }) words (λ rows. refl)
    (several_read (codes "share") share_syntax.options (sub 8) share_enters words (codes "OBJ") share_leaf share_words few) _ refl

-- `list`
list_enters : Enters built_app (codes "list") (sub 9)
unfolding built_app sub program_app clap_on_literals
list_enters = record { named = refl; found = refl; other = refl; same = refl; defaults = (refl, tt); negates = refl; free = refl }

list_leaf : IsLeafOf (sub 9) list_syntax.options (codes "IMAGE" ∷ [])
unfolding built_app sub program_app clap_on_literals
list_leaf = record { defaults = refl; help = refl; required = refl; negates = refl; written = refl; dashes = refl; by_long = refl; by_id = refl; apart = refl; other = refl; back = refl; rules = refl; rest = refl }

list_words : SingleFits (sub 9).rules 1 (codes "IMAGE")
unfolding built_app sub program_app clap_on_literals
list_words = record { by_index = refl; by_id = refl }

list_read : (words : List Text) → ReadsForm words (record { form = list_syntax; command = in_options listing_of })
list_read words =
    form_read (record { form = list_syntax; command = in_options listing_of }) words (λ rows. refl)
    (one_read (codes "list") list_syntax.options (sub 9) list_enters words (codes "IMAGE") list_leaf list_words) _ refl

-- ---- all commands

forms_read : (words : List Text) → length words ≤ usize_max → Each (ReadsForm words) meanings
forms_read words few = (plain_read words few, (zc_read words few, (run_read words, (trace_read words few, (check_read words, (make_read words, (gc_read words few, (merge_read words few, (share_read words few, (list_read words, tt))))))))))

-- words of a command that is one of these
module _ (name : Text) (words : List Text) where
  of_one : (ms : List Meaning) → Each (ReadsForm words) ms
      → option_map_or (λ (m : Meaning). is_some (spelled_words m.form words)) (find (λ m. bytes_eq name m.form.name) ms) false ≡ true
      → command_of (name ∷ words) ≡ option_and_then (λ (m : Meaning). option_and_then m.command (spelled_words m.form words)) (find (λ m. bytes_eq name m.form.name) ms)
  of_one [] reads h = absurd (true≢false (sym h))
  of_one (m ∷ ms) reads h = go (bytes_eq name m.form.name) refl h (of_one ms reads.1)
    where
      go : (b : Bool) → bytes_eq name m.form.name ≡ b
          → option_map_or (λ (m : Meaning). is_some (spelled_words m.form words)) (if b then Some m else find (λ m. bytes_eq name m.form.name) ms) false ≡ true
          → (option_map_or (λ (m : Meaning). is_some (spelled_words m.form words)) (find (λ m. bytes_eq name m.form.name) ms) false ≡ true
          → command_of (name ∷ words) ≡ option_and_then (λ (m : Meaning). option_and_then m.command (spelled_words m.form words)) (find (λ m. bytes_eq name m.form.name) ms))
          → command_of (name ∷ words) ≡ option_and_then (λ (m : Meaning). option_and_then m.command (spelled_words m.form words)) (if b then Some m else find (λ m. bytes_eq name m.form.name) ms)
      go true same h next = ap (λ n. command_of (n ∷ words)) (same_text name m.form.name same) ∙ reads.0 h
      go false other h next = next h

reads_plain : (words : List Text) → length words ≤ usize_max → is_plain_form words ≡ true → command_of words ≡ plain_command_of words
reads_plain [] few h = absurd (true≢false (sym h))
reads_plain (name ∷ words) few h = of_one name words meanings (forms_read words (omega arith)) h

-- words that spell a command are in the plain form
some_before : {A B : Type 0} (f : A → Option B) (o : Option A) (y : B) → option_and_then f o ≡ Some y → is_some o ≡ true
some_before f None y e = absurd (none-some y e)
some_before f (Some x) y e = refl

plain_before : (words : List Text) (command : Command) (o : Option Meaning) → option_and_then (λ m. option_and_then m.command (spelled_words m.form words)) o ≡ Some command
    → option_map_or (λ m. is_some (spelled_words m.form words)) o false ≡ true
plain_before words command None e = absurd (none-some command e)
plain_before words command (Some m) e = some_before m.command (spelled_words m.form words) command e

is_plain : (words : List Text) (command : Command) → plain_command_of words ≡ Some command → is_plain_form words ≡ true
is_plain [] command e = absurd (none-some command e)
is_plain (name ∷ words) command e = plain_before words command (meaning_named name) e

pub read_as_plain : (words : List Text) → IsReadAsPlain words
read_as_plain words = record {
  reads = reads_plain words;
  finds = λ few command e. reads_plain words few (is_plain words command e) ∙ e;
}
