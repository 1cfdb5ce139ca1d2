-- What is known of a command that puts files and writes a text: the text is written after the files were put; how that ends,
-- and what it does to the counts.
use Rattle.std.proofs.Common.{◌≡◌, ℕ, List, [], IsTrue, length, refl, ap, ◌⊎◌, inl, inr, arith}
use Rattle.zc_outside.specs.Desk.{Desk, OnlyWrites}
use Rattle.zc_outside.specs.Shelf.{OnlyPuts, Shelf}
use Rattle.zc_outside.specs.World.{World, world}
use Rattle.zcld.specs.declared.outcome.Outcome.{Outcome}
use Rattle.zcld.specs.declared.outcome.Outcome.TheVariants.{Done, WriteFault, OutOfMemory}
use Rattle.zcld.specs.Puts.{IsUnput, Output, PutsFiles, PutsInTurn, UnputCause, text_alone}
use Rattle.zcld.specs.Task.{Task}
use Rattle.zcld.proofs.Answering.{IsAnswer, IsFaulted, Moves}

-- not all of no files were put
none_unput : (output : Output) (before after : World) → output.files ≡ [] → IsUnput output before after → ⊥
none_unput output before after none unput = omega (arith, unput.part, ap length none)

-- a text that is written after files were put
pub put_then_printed :
    (outcome : Outcome) (files : List (List ℕ × List ℕ)) (text : List ℕ) (before between : Shelf) (desk after : Desk) →
    PutsFiles before.files between.files files → PutsInTurn outcome (text_alone text) (world between desk) (world between after) →
    PutsInTurn outcome (record { files = files; text = text }) (world before desk) (world between after)
put_then_printed Done files text before between desk after put printed = record { files = put; out = printed.out; err = printed.err }
put_then_printed WriteFault files text before between desk after put printed = elim printed [
  | inl file ↦ absurd (none_unput (text_alone text) (world between desk) (world between after) refl file.0)
  | inr part ↦ inr (record { files = put; text = part.0.text; out = part.0.out; err = part.0.err }, part.1)
]
put_then_printed OutOfMemory files text before between desk after put printed = elim printed [
  | inl file ↦ absurd (none_unput (text_alone text) (world between desk) (world between after) refl file.0)
  | inr part ↦ inr (record { files = put; text = part.0.text; out = part.0.out; err = part.0.err }, part.1)
]
put_then_printed other files text before between desk after put printed = absurd printed

-- a put or a write that failed was counted, at an outside that isn't sure; a command that puts nothing has no files
module _ (task : Task) (files : List (List ℕ)) (output : Output) (puts : IsTrue task.puts ⊎ (output.files ≡ [])) where
  pub output_ends : (outcome : Outcome) (before after : World) → PutsInTurn outcome output before after → IsAnswer outcome ⊎ IsFaulted task files outcome before after
  output_ends Done before after put = inl tt
  output_ends OutOfMemory before after put = inl tt
  output_ends WriteFault before after put = inr (record {
    known = λ e. cc;
    counted = λ clean. elim put [
      | inl file ↦ elim puts [ inl some ↦ clean.put some file.1.0 | inr none ↦ none_unput output before after none file.0 ]
      | inr text ↦ clean.written text.1.0
    ];
    unsure = λ sure. elim put [ inl file ↦ file.1.1 sure.store | inr text ↦ text.1.1 sure.console ];
  })
  output_ends other before after put = absurd put

-- a put that failed was counted, at a store that isn't sure
pub unput_ends :
    (task : Task) (files : List (List ℕ)) → IsTrue task.puts → (outcome : Outcome) (before after : World) →
    UnputCause outcome before.shelf after.shelf → IsAnswer outcome ⊎ IsFaulted task files outcome before after
unput_ends task files puts WriteFault before after cause = inr (record { known = λ e. cc; counted = λ clean. clean.put puts cause.0; unsure = λ sure. cause.1 sure.store })
unput_ends task files puts OutOfMemory before after cause = inl tt
unput_ends task files puts other before after cause = absurd cause

-- only files were put, and only the text was written
pub output_moves : (before after : World) → OnlyPuts before.shelf after.shelf → OnlyWrites before.desk after.desk → Moves before after
output_moves before after puts writes = record {
  shelf = puts;
  reads = omega (arith, writes.reads);
  writes = writes.writes;
  taken = omega (arith, writes.taken);
  sure = writes.sure;
  counted = λ sure. (writes.reads, writes.counted sure);
}
