use Rattle.std.proofs.Common.{refl, ap, ◌∙◌}
use Rattle.psabi_sym.specs.Invariants.Keys.{IsAdded, lent, names_of, tails_of}
use Rattle.psabi_sym.specs.Invariants.Rows.{name_number, with_name}
use Rattle.psabi_sym.proofs.names.Names.number.Goals as goal

pub name_with_key-requires : goal.name_with_key-requires
name_with_key-requires c = (c.args.self.now.tails.texts.items, c.requires.ends)

-- the name is added
added : (c : goal.In_ok-number) → IsAdded 0 (tails_of c.args.self.now.tails.texts.items) (names_of c.args.self.now) (lent c.number.new.self.texts.items) c.number.new.self.numbers c.name_with_key.result.0.now c.in_ok-number.number
added c =
    let tails = tails_of c.args.self.now.tails.texts.items in
    c.in_ok-number.ensures 0 tails c.requires.are.tails.tails (c.name_with_key.ensures.key c.args.self.now.tails.texts.items c.requires.ends) c.requires.are.numbered

pub returns-clause-added : goal.returns-clause-added
returns-clause-added c = record {
  are = record { tails = c.requires.are.tails; numbered = (added c).numbered };
  names = (added c).texts_are ∙ ap (with_name (names_of c.args.self.now)) c.name_with_key.ensures.name;
  tails = refl;
}

pub returns-clause-number : goal.returns-clause-number
returns-clause-number c = (added c).number_is ∙ ap (name_number (lent c.number.new.self.texts.items)) c.name_with_key.ensures.name

pub returns-clause-within : goal.returns-clause-within
returns-clause-within c = (added c).within
