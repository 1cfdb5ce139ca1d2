-- So far the text has the sections before the one at hand.
use Rattle.zc_link.specs.Written.{IsTextOf}
use Rattle.zc_link.proofs.Walk.{before}
use Rattle.zc_link.proofs.text.Text.lay.Given as goal

abbrev pub invariant-loop-k : goal.invariant-loop-k
invariant-loop-k g l = IsTextOf (g.L.Layout.layout l.layout) (before (g.L.Layout.layout l.layout) l.k) l.laid.text.items l.laid.places.items
