-- What the one command reads of a subcommand's name and the words after it.
use Rattle.std.proofs.Common.{◌≡◌, ◌∙◌, true, false, refl, sym, ap, ap₂, List, [], ◌∷◌, Some}
use Rattle.std.specs.List.{find, fold, list_any}
use Rattle.std.specs.Str.{bytes_eq}
use Rattle.clap.specs.Faults.{built_fault, fault_of, level_fault, walk_fault}
use Rattle.clap.specs.Simple.{App, Shape, argument_words, built, entered, label_of, names_of, subcommand_of}
use Rattle.clap.specs.Walk.{Text, answers_to, idle, nothing_held, rows_after, stop_after, subcommand_met, walk_from, walked}
use Rattle.clap.proofs.WalkLemmas.{walk_stopped}
use Rattle.clap.proofs.FaultLemmas.{stopped_fault}
use Rattle.command_words.specs.Command.{if_faultless, read_by_clap}
use Rattle.command_words.proofs.Given.{Given, rows_for}
use Rattle.command_words.proofs.PlainOptions.{Each, or_else_none}
use Rattle.command_words.proofs.PlainWords.{Reads, lacks, no_default_faults, no_defaults}

-- the built command enters the subcommand s at this name
pub record Enters (b : App) (name : Text) (s : Shape) : Type 0 where
  pub named : subcommand_met (names_of b) idle name ≡ Some name
  pub found : find (λ x. answers_to name (label_of x)) b.subs ≡ Some s
  pub other : bytes_eq name (Rattle.std.specs.Prelude.codes "help") ≡ false
  pub same : s.name ≡ name
  pub defaults : Each (λ a. a.defaults ≡ []) b.top.rules
  pub negates : b.top.subcommand_negates_reqs ≡ false
  pub free : list_any (lacks []) b.top.rules ≡ false

module _ (b : App) (name : Text) (s : Shape) (enters : Enters b name s) (words : List Text) where
  -- the walk stops at the name, and leaves the words
  stopped : fold (walked b.top.rules (names_of b)) (walk_from nothing_held) (name ∷ words) ≡ record (walk_from nothing_held) { stopped = Some (name, words) }
  unfolding walked
  stopped = rw enters.named (sym (walk_stopped b.top.rules (names_of b) (walk_from nothing_held) name [] words))

  faultless : walk_fault b.top (names_of b) (walk_from nothing_held) (name ∷ words) ≡ []
  unfolding walk_fault walked
  faultless = rw (enters.named, enters.other) (stopped_fault b.top (names_of b) (walk_from nothing_held) (name, []) words)

  pub top_faults : built_fault b nothing_held (name ∷ words) ≡ level_fault s [] nothing_held words false []
  top_faults =
      rw (stopped, faultless, enters.found, no_default_faults b.top.rules [] enters.defaults, no_defaults b.top.rules [] enters.defaults, enters.negates, enters.free)
      (or_else_none (level_fault s [] nothing_held words false []))

  pub top_enters : entered b (fold (walked b.top.rules (names_of b)) (walk_from nothing_held) (name ∷ words)).stopped ≡ Some (name, rows_after s.rules [] words)
  top_enters = rw (stopped, enters.found, enters.same) refl

module _ (a b : App) (words : List Text) (is : built a ≡ b) (bare : a.top.no_binary_name ≡ true) where
  all_words : argument_words a words ≡ words
  all_words = rw bare refl

  faults_are : fault_of a words ≡ built_fault b nothing_held words
  faults_are = ap₂ (λ (x : App) (ws : List Text). built_fault x nothing_held ws) is all_words

  entered_is : subcommand_of a words ≡ entered b (fold (walked b.top.rules (names_of b)) (walk_from nothing_held) words).stopped
  entered_is = ap₂ (λ (x : App) (ws : List Text). entered x (stop_after x.top.rules (names_of x) ws)) is all_words

-- what the command reads where the subcommand reads
pub top_reads : (a b : App) (name : Text) (s : Shape) (words : List Text) (given : Given) → built a ≡ b → a.top.no_binary_name ≡ true → Enters b name s → Reads s words given
    → read_by_clap a (name ∷ words) ≡ Some (name, rows_for given)
unfolding read_by_clap
top_reads a b name s words given is bare enters reads =
    ap₂ if_faultless (faults_are a b (name ∷ words) is bare ∙ top_faults b name s enters words ∙ reads.faultless)
    (entered_is a b (name ∷ words) is bare ∙ top_enters b name s enters words ∙ ap (λ rs. Some (name, rs)) reads.rows)
