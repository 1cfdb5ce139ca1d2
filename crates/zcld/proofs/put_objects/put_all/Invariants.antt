use Rattle.std.proofs.Common.{◌≡◌, ℕ, List, length, take}
use Rattle.command_words.specs.Command.{texts}
use Rattle.psabi_sym.specs.Objects.{contents_of}
use Rattle.zc_outside.specs.Shelf.{OnlyPuts}
use Rattle.zcld.specs.ObjectNames.{named_from, names_from}
use Rattle.zcld.specs.Puts.{PutsFiles}
use Rattle.zcld.proofs.put_objects.put_all.Given as goal

-- the first objects, up to this one, were put, and nothing else was done
abbrev pub invariant-loop-i : goal.invariant-loop-i
invariant-loop-i g l = let shown = g.S.Store.shown in record {
  put :
      (prefix : List ℕ) → texts l.fn.names ≡ names_from prefix 0 (length l.fn.objects) →
      PutsFiles (shown l.fn.store).files (shown l.store).files (take l.i (named_from prefix 0 (contents_of l.fn.objects)));
  only : OnlyPuts (shown l.fn.store) (shown l.store);
}
