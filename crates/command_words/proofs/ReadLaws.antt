-- What clap's clauses say of the one command.
use Rattle.std.proofs.Common.{◌≡◌, true, refl, sym, subst, List, [], ◌∷◌, Option, None, Ok, Err, inl, inr}
use Rattle.clap.specs.Faults.{fault_of, is_simple_and_free}
use Rattle.clap.specs.Kinds.{FailsBy, IsAmong, Kinds}
use Rattle.clap.specs.Simple.{App, HasMatchesOf, is_simple, subcommand_of, subcommand_rows_of}
use Rattle.clap.specs.Values.{kind_of}
use Rattle.clap.specs.Walk.{Row, Text}
use Rattle.clap.specs.declared.error.Error.{Error}
use Rattle.clap.specs.declared.error.kind.ErrorKind.TheVariants.{OutOfMemory}
use Rattle.clap.specs.declared.parser.matches.ArgMatches.{ArgMatches}
use Rattle.clap.proofs.OnLiterals.{clap_on_literals}
use Rattle.command_words.specs.Command.{if_faultless, read_by_clap}
use Rattle.command_words.specs.Table.{program_app}

-- the app is one of which clap's definitions tell all
app_is_simple : is_simple program_app ≡ true
unfolding program_app clap_on_literals
app_is_simple = refl

app_is_free : is_simple_and_free program_app ≡ true
unfolding program_app clap_on_literals
app_is_free = refl

-- ---- an error

among_some : (e : Error) (ks : Kinds) (found : Option (Text × List Row)) → IsAmong (kind_of e) ks → if_faultless ks found ≡ None
among_some e [] found h = absurd h
among_some e (k ∷ ks) found h = refl

-- for another cause than memory it comes only where a step of the reading fails
refuses : (words : List Text) (e : Error) → FailsBy {T = ArgMatches} (fault_of program_app words) (Err e) → (kind_of e ≡ OutOfMemory → ⊥) → read_by_clap program_app words ≡ None
unfolding read_by_clap
refuses words e (inl memory) other = absurd (other memory)
refuses words e (inr among) other = among_some e (fault_of program_app words) (subcommand_of program_app words) among

-- with an error of another cause than memory nothing is read
pub err_reads_none : (app : App) (words : List Text) (e : Error) → app ≡ program_app
    → (is_simple_and_free app ≡ true → FailsBy {T = ArgMatches} (fault_of app words) (Err e)) → (kind_of e ≡ OutOfMemory → ⊥)
    → read_by_clap program_app words ≡ None
err_reads_none app words e is fails other =
    let at = subst (λ (a : App). is_simple_and_free a ≡ true → FailsBy {T = ArgMatches} (fault_of a words) (Err e)) is fails in
    refuses words e (at app_is_free) other

-- ---- matches

reads : (words : List Text) (m : ArgMatches) → FailsBy (fault_of program_app words) (Ok m) → HasMatchesOf program_app words m → read_by_clap program_app words ≡ subcommand_rows_of m
unfolding read_by_clap
reads words m none rows = rw none (sym (rows app_is_simple).1)

-- the matches hold what is read
pub ok_reads : (app : App) (words : List Text) (m : ArgMatches) → app ≡ program_app
    → (is_simple_and_free app ≡ true → FailsBy (fault_of app words) (Ok m)) → HasMatchesOf app words m
    → read_by_clap program_app words ≡ subcommand_rows_of m
ok_reads app words m is takes has =
    let at = subst (λ (a : App). is_simple_and_free a ≡ true → FailsBy (fault_of a words) (Ok m)) is takes in
    reads words m (at app_is_free) (subst (λ (a : App). HasMatchesOf a words m) is has)
