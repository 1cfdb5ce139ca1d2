use Rattle.std.proofs.Common.{◌∙◌, sym, ap, ap₂, List, Option, Some, Vec, Global, ℕ}
use Rattle.std.specs.Option.{option_and_then, option_map}
use Rattle.clap.specs.Walk.{Text}
use Rattle.zc_base.specs.Options.{Options, listed_names}
use Rattle.zc_base.specs.declared.mem_map.MemMap.{MemMap}
use Rattle.command_words.proofs.read.given_options.Goals as goal

-- the options of names and a map
abbrev told : Option (List Text) → Option MemMap → Option Options
told names memory = option_and_then (λ m. option_map (λ fixed. record { map = m; fixed = fixed }) names) memory

-- the names as they are held
abbrev held : Option (Vec (Vec ℕ Global) Global) → Option (List Text)
held names = option_map (λ all. listed_names all.items) names

pub returns-in_default-clause-value : goal.returns-in_default-clause-value
returns-in_default-clause-value c = ap (told _) (sym c.in_default.is ∙ c.given_map.ensures.value)

pub returns-in_default-2-clause-value : goal.returns-in_default-2-clause-value
returns-in_default-2-clause-value c =
    ap₂ told (sym (ap held c.in_default-2.is) ∙ c.in_ok-fixed.ensures) (sym c.in-Some.is ∙ c.given_map.ensures.value)

pub returns-clause-value : goal.returns-clause-value
returns-clause-value c =
    ap Some c.new.ensures
    ∙ ap₂ told (sym (ap held c.in-Some-2.is) ∙ c.in_ok-fixed.ensures) (sym c.in-Some.is ∙ c.given_map.ensures.value)
