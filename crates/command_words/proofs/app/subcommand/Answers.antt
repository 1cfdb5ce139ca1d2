use Rattle.std.proofs.Common.{◌≡◌, ◌∙◌, sym, ap, ap₂, [], ℕ, ◌+◌, ◌<◌, ◌||◌, length, List, ◌∷◌, ◌++◌, map, take, get_or, append_assoc}
use Rattle.std.proofs.lemmas.List.{map-append, take_more}
use Rattle.clap.specs.Simple.{App, new_shape, with_rule}
use Rattle.clap.specs.Walk.{Rule, Text}
use Rattle.command_words.specs.Table.{option_of, option_rule, positional_of, positional_rule}
use Rattle.command_words.proofs.app.subcommand.Goals as goal

-- a command with these rules
abbrev leaf : Text → List Rule → App
leaf name rules = record { top = record (new_shape name) { rules = rules }; subs = [] }

-- one more rule, after those of a loop so far
rules_more :
    {X Y : Type 0} (f : Y → Rule) (g : X → Y) (before : List Rule) (xs : List X) (i : ℕ) (d : X) → i < length xs →
    (before ++ map f (map g (take i xs))) ++ f (g (get_or xs i d)) ∷ [] ≡ before ++ map f (map g (take (i + 1) xs))
rules_more f g before xs i d lt =
    append_assoc before (map f (map g (take i xs))) (f (g (get_or xs i d)) ∷ [])
    ∙ ap (λ rs. before ++ rs)
    (sym (ap (λ ys. map f (map g ys)) (take_more xs i d lt) ∙ ap (map f) (map-append g (take i xs) (get_or xs i d ∷ []))
    ∙ map-append f (map g (take i xs)) (g (get_or xs i d) ∷ [])))

pub loop-option-preserved : goal.loop-option-preserved
loop-option-preserved c = (
  c.in_ok-command.ensures.shape c.option_arg.ensures.local
      ∙ ap₂ with_rule c.loop-option.invariant.0 c.option_arg.ensures.rule
      ∙ ap (leaf c.args.form.now.name.now) (rules_more option_rule option_of [] _ _ _ c.loop-option-test.true),
  c.in_ok-command.ensures.globals ∙ ap₂ (λ a b. a || b) c.loop-option.invariant.1 c.option_arg.ensures.local,
)

pub loop-positional-preserved : goal.loop-positional-preserved
loop-positional-preserved c = (
  c.in_ok-command-2.ensures.shape c.positional_arg.ensures.local
      ∙ ap₂ with_rule c.loop-positional.invariant.0 c.positional_arg.ensures.rule
      ∙ ap (leaf c.args.form.now.name.now)
      (rules_more positional_rule positional_of (map option_rule (map option_of c.args.form.now.options.now)) _ _ _ c.loop-positional-test.true),
  c.in_ok-command-2.ensures.globals ∙ ap₂ (λ a b. a || b) c.loop-positional.invariant.1 c.positional_arg.ensures.local,
)
