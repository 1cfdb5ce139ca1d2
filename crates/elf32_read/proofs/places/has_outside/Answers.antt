use Rattle.std.proofs.Common.{◌≡◌, ◌/◌, length, true, sym, ap, ◌∙◌}
use Rattle.elf32_read.specs.Places.{place_entry_at, is_outside}
use Rattle.elf32_read.proofs.Listed.{list_any_listed}
use Rattle.elf32_read.proofs.places.has_outside.Goals as goal

-- the current entry has an address outside the region for code
pub returns-then-is_outside : goal.returns-then-is_outside
returns-then-is_outside c =
    let entries = c.args.entries.now in
    let i = c.loop-i.i in
    let memory = c.args.map.now in
    let this : is_outside memory (place_entry_at entries i) ≡ true = sym (c.is_outside.ensures ∙ ap (is_outside memory) c.entry.ensures) ∙ c.if-is_outside.true in
    sym (list_any_listed (is_outside memory) (place_entry_at entries) (length entries / 12) i c.loop-i-test.true this)
