-- What is needed of a program: it names only places that it may name. Which ones these are is a parameter, and for objects they are
-- leaders of basic blocks and ends of sections.
use Rattle.std.specs.Prelude.{◌≡◌, ◌⊎◌, IsSome, IsTrue, true, Some}
use Rattle.zc_base.specs.declared.place.Place.{Place}
use Rattle.psabi_sym.specs.Inputs.{ParsedInputs}
use Rattle.block_cut.specs.Items.{is_end_at, item_at}
use Rattle.block_cut.specs.Leaders.{ends_block, is_leader_at}
use Rattle.block_cut.specs.declared.item.Item.{Item}
use Rattle.block_cut.specs.declared.item.Item.TheVariants.{Op, Hi, Lo, PcHi, PcLo, Branch, Jump, Call, Align, Word, Raw, RawShort, RawPair}
use Rattle.sym_machine.specs.Program.{Program}
use Rattle.moved_runs.specs.Named.{IsNamedTarget}

-- an item names only such places: where it leads, or whose address it gives; a lower part counts by the `auipc` that it goes with
abbrev pub NamesItem : (Place → Type 0) → Item → Type 0
NamesItem Named (Op i) = Unit {0}
NamesItem Named (Hi i t) = IsNamedTarget Named t
NamesItem Named (Lo i t) = IsNamedTarget Named t
NamesItem Named (PcHi i t) = IsNamedTarget Named t
NamesItem Named (PcLo i from) = Unit {0}
NamesItem Named (Branch op first second to) = Named to
NamesItem Named (Jump rd to) = Named to
NamesItem Named (Call rd temp to) = Named to
NamesItem Named (Align bytes) = Unit {0}
NamesItem Named (Word t) = Unit {0}
NamesItem Named (Raw word) = Unit {0}
NamesItem Named (RawShort half) = Unit {0}
NamesItem Named (RawPair first second) = Unit {0}

-- each item names only such places, and the place after an item that ends a basic block is one
pub record Leads (p : Program) (Named : Place → Type 0) : Type 0 where
  pub item : (q : Place) (i : Item) → p.item q ≡ Some i → NamesItem Named i
  pub next : (q : Place) (i : Item) → p.item q ≡ Some i → ends_block i ≡ true → Named (p.next q)

-- a place whose address the program of objects may hold: that of an item that leads a basic block, or the end of a section of code
abbrev pub IsNamed : ParsedInputs → Place → Type 0
IsNamed inputs q = (IsSome (item_at inputs q) × IsTrue (is_leader_at inputs q)) ⊎ IsTrue (is_end_at inputs.objects q)
