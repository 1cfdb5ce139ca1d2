-- Several takes from a console, and several writes to it, in sequence.
use Rattle.std.proofs.Common.{ℕ, List, [], ◌++◌, sym, subst, IsTrue, arith}
use Rattle.zc_outside.proofs.Kept.{KeepsBytes-refl, KeepsBytes-trans, Adds-none, Adds-Adds, Rose-earlier}
use Rattle.zc_outside.specs.Desk.{Desk, OnlyTakes, OnlyWrites, WriteCause, Wrote}
use Rattle.zc_outside.specs.declared.console.ConsoleFault.{ConsoleFault}
use Rattle.zc_outside.specs.declared.console.ConsoleFault.TheVariants.{Failed, OutOfMemory}

-- no take
pub OnlyTakes-refl : (s : Desk) → OnlyTakes s s
OnlyTakes-refl s = grind (arith, KeepsBytes-refl)

-- one take after another
pub OnlyTakes-trans : {a b c : Desk} → OnlyTakes a b → OnlyTakes b c → OnlyTakes a c
OnlyTakes-trans first second = grind (arith, KeepsBytes-trans)

-- no write
pub OnlyWrites-refl : (s : Desk) → OnlyWrites s s
OnlyWrites-refl s = grind (arith, KeepsBytes-refl)

-- one write after another
pub OnlyWrites-trans : {a b c : Desk} → OnlyWrites a b → OnlyWrites b c → OnlyWrites a c
OnlyWrites-trans first second = grind (arith, KeepsBytes-trans)

-- what a refused write shows, it shows of all writes up to it
pub WriteCause-after : (a b c : Desk) (fault : ConsoleFault) → OnlyWrites a b → WriteCause b c fault → WriteCause a c fault
WriteCause-after a b c Failed first cause =
    (Rose-earlier a.write_faults b.write_faults c.write_faults first.writes cause.0, λ sure. cause.1 (subst IsTrue (sym first.sure) sure))
WriteCause-after a b c OutOfMemory first cause =
    Rose-earlier a.write_memory_faults b.write_memory_faults c.write_memory_faults first.write_memory cause

-- nothing was written
pub Wrote-none : (s : Desk) → Wrote [] [] s s
Wrote-none s = record { out = Adds-none s.out; err = Adds-none s.err }

-- the bytes of two writes, one after the other
pub Wrote-append :
    {out err out' err' : List ℕ} {a b c : Desk} → Wrote out err a b → Wrote out' err' b c → Wrote (out ++ out') (err ++ err') a c
Wrote-append {out = out} {err = err} {out' = out'} {err' = err'} {a = a} {b = b} {c = c} first second =
    record { out = Adds-Adds a.out b.out c.out out out' first.out second.out; err = Adds-Adds a.err b.err c.err err err' first.err second.err }
