-- Pieces that are written one after another, until one is refused: what stands then is a part of them all.
use Rattle.std.proofs.Common.{◌≡◌, ℕ, suc, ◌<◌, List, ◌∷◌, ◌++◌, length, get_or, take, drop, Result, Ok, Err, IfErr, OnErr, true, IsTrue, sym, ap, ◌∙◌, ◌⊎◌, inl, inr, append_assoc}
use Rattle.std.proofs.lemmas.Grind.{flat_map-append}
use Rattle.std.proofs.Math.Seq.{split_at}
use Rattle.std.specs.List.{flat_map}
use Rattle.std.specs.Result.{is_err}
use Rattle.zc_outside.specs.Desk.{Desk, OnlyWrites, WriteCause}
use Rattle.zc_outside.specs.Streams.{Adds, AddsPart}
use Rattle.zc_outside.specs.declared.console.ConsoleFault.{ConsoleFault}
use Rattle.zc_outside.specs.declared.console.ConsoleFault.TheVariants.{Failed, OutOfMemory}
use Rattle.zc_outside.proofs.Desk.{WriteCause-after}
use Rattle.zc_outside.proofs.Kept.{Adds-AddsPart, AddsPart-append}
use Rattle.zcld.specs.Call.{WritesLine}

module _ {X : Type 0} (bytes : X → List ℕ) (pieces : List X) (i : ℕ) (piece : X) (within : i < length pieces) where
  -- the pieces before it, the piece, and those after it
  around : flat_map bytes pieces ≡ (flat_map bytes (take i pieces) ++ bytes (get_or pieces i piece)) ++ flat_map bytes (drop (suc i) pieces)
  around =
      ap (flat_map bytes) (split_at pieces i piece within)
      ∙ flat_map-append bytes (take i pieces) (get_or pieces i piece ∷ drop (suc i) pieces)
      ∙ sym (append_assoc (flat_map bytes (take i pieces)) (bytes (get_or pieces i piece)) (flat_map bytes (drop (suc i) pieces)))

  pub refused_line :
      {A : Type 0} (result : Result A ConsoleFault) (before between after : Desk) → is_err result ≡ true → OnlyWrites before between →
      Adds before.err between.err (flat_map bytes (take i pieces)) → OnErr result (AddsPart between.err after.err (bytes (get_or pieces i piece))) →
      IfErr result (WriteCause between after) → WritesLine (flat_map bytes pieces) before after
  refused_line (Ok done) before between after is only written part cause = absurd (cc)
  refused_line (Err fault) before between after is only written part cause =
      let last = flat_map bytes (take i pieces) ++ bytes (get_or pieces i piece) in
      let whole = Adds-AddsPart before.err between.err after.err (flat_map bytes (take i pieces)) (bytes (get_or pieces i piece)) written part in
      inr (fault, WriteCause-after before between after fault only cause, rw around (AddsPart-append before.err after.err last (flat_map bytes (drop (suc i) pieces)) whole))

-- a console that is sure leaves nothing of the text out but for want of memory
pub sure_line :
    (text : List ℕ) (before after : Desk) → WritesLine text before after → IsTrue before.sure →
    Adds before.err after.err text ⊎ WriteCause before after OutOfMemory
sure_line text before after (inl whole) sure = inl whole
sure_line text before after (inr (Failed, cause, part)) sure = absurd (cause.1 sure)
sure_line text before after (inr (OutOfMemory, cause, part)) sure = inr cause
