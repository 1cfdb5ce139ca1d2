use Rattle.std.proofs.Common.{refl}
use Rattle.psabi_sym.specs.Invariants.Keys.{names_of, tails_of}
use Rattle.psabi_sym.proofs.TailLaws.{numbered_extend}
use Rattle.psabi_sym.proofs.names.Names.read.Goals as goal

pub returns-clause-read : goal.returns-clause-read
returns-clause-read c =
    let old = c.args.self.now in
    let grown = c.in_ok-ends.ensures.grown in
    record {
      are = record {
        tails = grown.are;
        numbered = numbered_extend 0 (tails_of old.tails.texts.items) (tails_of c.name_ends.new.tails.texts.items) grown.more old.names.numbers (names_of old) c.requires.are.numbered;
      };
      names = refl;
      room = grown.room;
    }
