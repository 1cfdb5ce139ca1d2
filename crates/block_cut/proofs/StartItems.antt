-- An item starts at a place exactly if there is one: both look for the section of code, and then for the start in it.
use Rattle.std.proofs.Common.{◌≡◌, Bool, true, false, cond, Option, Some, None, refl, ap, ◌∙◌}
use Rattle.std.specs.Option.{option_map_or}
use Rattle.zc_base.specs.declared.place.Place.{Place}
use Rattle.elf32_read.specs.Parts.{SectionParts}
use Rattle.psabi_sym.specs.Inputs.{ParsedInputs}
use Rattle.block_cut.specs.Items.{code_at, is_start_at, item_at, item_in, starts_on}
use Rattle.block_cut.specs.declared.item.Item.{Item}
use Rattle.block_cut.proofs.ItemLaws.{item_at-code, item_found}

pub item_starts : (inputs : ParsedInputs) (p : Place) (i : Item) → item_at inputs p ≡ Some i → is_start_at inputs.objects p ≡ true
item_starts inputs p i is = let found = item_found inputs p i is in ap (λ o. option_map_or (λ s. starts_on s p.offset) o false) found.code ∙ found.start

pub no_item_starts : (inputs : ParsedInputs) (p : Place) → item_at inputs p ≡ None → is_start_at inputs.objects p ≡ false
no_item_starts inputs p is = by (code_at inputs.objects p) refl
  where
    by : (o : Option SectionParts) → code_at inputs.objects p ≡ o → is_start_at inputs.objects p ≡ false
    by None at = ap (λ o. option_map_or (λ s. starts_on s p.offset) o false) at
    by (Some s) at = tested (starts_on s p.offset) refl
      where
        tested : (b : Bool) → starts_on s p.offset ≡ b → is_start_at inputs.objects p ≡ false
        tested true start = absurd (cc (is, item_at-code inputs p s at, ap (λ b. cond b (Some (item_in inputs s p)) None) start))
        tested false start = ap (λ o. option_map_or (λ t. starts_on t p.offset) o false) at ∙ start
