-- From what a command performs up to a world, and the outcome's line from there, to what follows for outsides that tell and
-- are sure: it holds of each command whose `Facts` hold.
use Rattle.std.proofs.Common.{◌≡◌, ◌≢◌, ℕ, ◌≤◌, List, Option, Some, None, IsTrue, refl, sym, ap, subst, ◌∙◌, ◌⊎◌, inl, inr, arith}
use Rattle.std.proofs.lemmas.Option.{same_Some, none-some}
use Rattle.zc_outside.specs.Files.{Files}
use Rattle.zc_outside.specs.Shelf.{OnlyPuts, Shelf}
use Rattle.zc_outside.specs.Wanted.{AreHeld, AreRead, AreUnread, IsOneLong, Wanted}
use Rattle.zc_outside.specs.World.{World}
use Rattle.zc_outside.proofs.Shelf.{OnlyPuts-refl, OnlyPuts-trans}
use Rattle.zc_outside.proofs.Wanted.{AreRead-AreHeld, AreRead-not-long, AreRead-same, AreUnread-sure}
use Rattle.zcld.specs.declared.outcome.Outcome.{Outcome}
use Rattle.zcld.specs.declared.outcome.Outcome.TheVariants.{Usage, ReadFault, WriteFault, OutOfMemory}
use Rattle.zcld.specs.Call.{Answers, CountsFaults, IsClean, IsFileRead, IsNoFault, IsSure, Reports, TellsAll}
use Rattle.zcld.specs.Input.{IsShortInput}
use Rattle.zcld.specs.Task.{OnlyRead, Performs, Task, UnreadCause}

-- ---- what is known of a command

-- the outcome is neither Usage nor a fault of the outside
abbrev pub IsAnswer : Outcome → Type 0
IsAnswer Usage = ⊥
IsAnswer ReadFault = ⊥
IsAnswer WriteFault = ⊥
IsAnswer other = Unit {0}

-- the outcome isn't Usage; and a fault that can stop the command with these files was counted, by an outside that isn't sure
pub record IsFaulted (task : Task) (files : List (List ℕ)) (outcome : Outcome) (before after : World) : Type 0 where
  pub known : outcome ≢ Usage
  pub counted : IsClean task files before after → ⊥
  pub unsure : IsSure task files before → ⊥

-- what work does to the counts: of a store's, only that of writes may rise
pub record Moves (before after : World) : Type 0 where
  pub shelf : OnlyPuts before.shelf after.shelf
  pub reads : before.desk.read_faults ≤ after.desk.read_faults
  pub writes : before.desk.write_faults ≤ after.desk.write_faults
  pub taken : before.desk.taken ≤ after.desk.taken
  pub sure : after.desk.sure ≡ before.desk.sure
  pub counted :
      IsTrue before.desk.sure →
      (after.desk.read_faults ≡ before.desk.read_faults) × (after.desk.write_faults ≡ before.desk.write_faults)

-- the three facts of a command: what it refuses files with, how its work ends, and what that does to the counts
pub record Facts (task : Task) (Work : List (List ℕ) → Outcome → World → World → Type 0) : Type 0 where
  pub refuses : (files : List (List ℕ)) (outcome : Outcome) → task.refusal files ≡ Some outcome → IsAnswer outcome
  pub ends :
      (files : List (List ℕ)) (outcome : Outcome) (before after : World) → Work files outcome before after →
      IsAnswer outcome ⊎ IsFaulted task files outcome before after
  pub moves : (files : List (List ℕ)) (outcome : Outcome) (before after : World) → Work files outcome before after → Moves before after

-- want of memory is an answer
pub no_memory : (outcome : Outcome) → outcome ≡ OutOfMemory → IsAnswer outcome
no_memory outcome is = subst IsAnswer (sym is) tt

answer_known : (outcome : Outcome) → IsAnswer outcome → outcome ≢ Usage
answer_known Usage answer = absurd answer
answer_known other answer = λ e. cc

answer_fault : (outcome : Outcome) → IsAnswer outcome → IsNoFault outcome
answer_fault ReadFault answer = absurd answer
answer_fault WriteFault answer = absurd answer
answer_fault other answer = record { no_read = λ e. cc; no_write = λ e. cc }

-- ---- counts

-- none of the counts that decide falls
record Grows (before after : World) : Type 0 where
  pub reads : before.shelf.read_faults ≤ after.shelf.read_faults
  pub longs : before.shelf.long_files ≤ after.shelf.long_files
  pub writes : before.shelf.write_faults ≤ after.shelf.write_faults
  pub input : before.desk.read_faults ≤ after.desk.read_faults
  pub taken : before.desk.taken ≤ after.desk.taken
  pub output : before.desk.write_faults ≤ after.desk.write_faults

-- nor while files are read
read_grows : (wanted : List Wanted) (before after : World) → OnlyRead wanted before after → Grows before after
read_grows wanted before after only = record {
  reads = only.shelf.reads;
  longs = only.shelf.longs;
  writes = omega (arith, only.shelf.writes);
  input = omega (arith, ap (λ d. d.read_faults) only.desk);
  taken = omega (arith, ap (λ d. d.taken) only.desk);
  output = omega (arith, ap (λ d. d.write_faults) only.desk);
}

-- nor while the command works
moves_grow : (before after : World) → Moves before after → Grows before after
moves_grow before after moves = record {
  reads = omega (arith, moves.shelf.reads);
  longs = omega (arith, moves.shelf.longs);
  writes = moves.shelf.writes;
  input = moves.reads;
  taken = moves.taken;
  output = moves.writes;
}

-- what isn't counted over the whole isn't counted in between
clean_within :
    (task : Task) (files : List (List ℕ)) (a b c d : World) → Grows a b → Grows c d → IsClean task files a d → IsClean task files b c
clean_within task files a b c d first last clean = record {
  read = record {
    reads = λ rose. clean.read.reads (omega (arith, first.reads, last.reads, rose));
    longs = λ rose. clean.read.longs (omega (arith, first.longs, last.longs, rose));
  };
  put = λ puts rose. clean.put puts (omega (arith, first.writes, last.writes, rose));
  taken = λ takes. (
    λ rose. (clean.taken takes).0 (omega (arith, first.input, last.input, rose)),
    λ rose. (clean.taken takes).1 (omega (arith, first.taken, last.taken, rose)),
  );
  written = λ rose. clean.written (omega (arith, first.output, last.output, rose));
}

-- nothing was done
pub no_moves : (world : World) → Moves world world
no_moves world = record {
  shelf = OnlyPuts-refl world.shelf;
  reads = omega arith;
  writes = omega arith;
  taken = omega arith;
  sure = refl;
  counted = λ sure. (refl, refl);
}

-- this was done, and then that
pub moves_on : (a b c : World) → Moves a b → Moves b c → Moves a c
moves_on a b c first next = record {
  shelf = OnlyPuts-trans first.shelf next.shelf;
  reads = omega (arith, first.reads, next.reads);
  writes = omega (arith, first.writes, next.writes);
  taken = omega (arith, first.taken, next.taken);
  sure = next.sure ∙ first.sure;
  counted = λ sure.
      let early = first.counted sure in
      let late = next.counted (first.sure ∙ sure) in
      (late.0 ∙ early.0, late.1 ∙ early.1);
}

-- a fault that was counted at the end was counted over the whole
pub faulted_later :
    (task : Task) (files : List (List ℕ)) (outcome : Outcome) (a b c : World) → Moves a b → (IsSure task files a → IsSure task files b) →
    IsFaulted task files outcome b c → IsFaulted task files outcome a c
faulted_later task files outcome a b c moves stays fault = record {
  known = fault.known;
  counted = λ clean. fault.counted (clean_within task files a b c c (moves_grow a b moves) (moves_grow c c (no_moves c)) clean);
  unsure = λ sure. fault.unsure (stays sure);
}

-- the outcome's line was written
line_moves : (text : List ℕ) (before after : World) → Reports text before after → Moves before after
line_moves text before after line = record {
  shelf = subst (λ s. OnlyPuts before.shelf s) (sym line.shelf) (OnlyPuts-refl before.shelf);
  reads = omega (arith, line.only.reads);
  writes = line.only.writes;
  taken = omega (arith, line.only.taken);
  sure = line.only.sure;
  counted = λ sure. (line.only.reads, line.only.counted sure);
}

-- what an outside that is sure counts over reading, work and the line
all_counts : (task : Task) (a b c d : World) → OnlyRead task.wanted a b → Moves b c → Moves c d → CountsFaults task a d
all_counts task a b c d read work line = record {
  store = λ sure held.
      let counted = read.shelf.counted sure held in
      let sure_then = read.shelf.sure ∙ sure in (
        line.shelf.reads ∙ work.shelf.reads ∙ counted.0,
        line.shelf.counted (work.shelf.sure ∙ sure_then) ∙ work.shelf.counted sure_then ∙ read.shelf.writes,
        elim counted.1 [ inl same ↦ inl (line.shelf.longs ∙ work.shelf.longs ∙ same) | inr long ↦ inr long ],
      );
  console = λ sure.
      let sure_then = ap (λ d. d.sure) read.desk ∙ sure in
      let worked = work.counted sure_then in
      let written = line.counted (work.sure ∙ sure_then) in
      (written.0 ∙ worked.0 ∙ ap (λ d. d.read_faults) read.desk, written.1 ∙ worked.1 ∙ ap (λ d. d.write_faults) read.desk);
  stays = (line.shelf.sure ∙ work.shelf.sure ∙ read.shelf.sure, line.sure ∙ work.sure ∙ ap (λ d. d.sure) read.desk);
}

-- ---- the files

-- files that are told are those that are read
told_same :
    (files : Option Files) (wanted : List Wanted) (told read : List (List ℕ)) → TellsAll files wanted told → AreRead files wanted read →
    told ≡ read
told_same None wanted told read tells is_read = absurd tells
told_same (Some f) wanted told read tells is_read = AreRead-same f wanted told read tells is_read

-- their names are held, and none is too long
told_held :
    (files : Option Files) (wanted : List Wanted) (told : List (List ℕ)) → TellsAll files wanted told →
    AreHeld files wanted × ¬ IsOneLong files wanted
told_held None wanted told tells = absurd tells
told_held (Some f) wanted told tells = (AreRead-AreHeld f wanted told tells, AreRead-not-long f wanted told tells)

-- files that can't be had: memory ran out, or a fault of reading was counted
unread_ends :
    (wanted : List Wanted) (outcome : Outcome) (before after : Shelf) → UnreadCause wanted before after outcome →
    (outcome ≡ OutOfMemory) ⊎ ((outcome ≡ ReadFault) × AreUnread wanted before after)
unread_ends wanted ReadFault before after cause = inr (refl, cause)
unread_ends wanted OutOfMemory before after cause = inl refl
unread_ends wanted other before after cause = absurd cause

-- a failed read and a file that is too long are counted
unread_counted : (wanted : List Wanted) (before after : World) → AreUnread wanted before.shelf after.shelf → IsFileRead before after → ⊥
unread_counted wanted before after unread read = elim unread [ inl failed ↦ read.reads failed.0 | inr long ↦ read.longs long.0 ]

-- ---- what follows

-- if the files are told, a fault that can stop the command with them was counted up to a world, by an outside that isn't sure
record IsStopped (task : Task) (outcome : Outcome) (before left : World) : Type 0 where
  pub known : outcome ≢ Usage
  pub counted : (told : List (List ℕ)) → TellsAll before.shelf.files task.wanted told → IsClean task told before left → ⊥
  pub unsure : (told : List (List ℕ)) → TellsAll before.shelf.files task.wanted told → IsSure task told before → ⊥

module _ (task : Task) (Work : List (List ℕ) → Outcome → World → World → Type 0) (facts : Facts task Work) (files : List (List ℕ)) (outcome : Outcome) (before left : World) (does : Performs task Work files outcome before left) where
  -- how a command ends
  ended : IsAnswer outcome ⊎ IsStopped task outcome before left
  ended = elim does [
    | inl unread ↦ elim (unread_ends task.wanted outcome before.shelf left.shelf unread.cause) [
      | inl memory ↦ inl (no_memory outcome memory)
      | inr fault ↦ inr (record {
        known = λ e. cc;
        counted = λ told tells clean. unread_counted task.wanted before left fault.1 clean.read;
        unsure = λ told tells sure.
            let held = told_held before.shelf.files task.wanted told tells in
            AreUnread-sure task.wanted before.shelf left.shelf sure.store held.0 held.1 fault.1;
      })
    ]
    | inr (inl refused) ↦ inl (facts.refuses files outcome refused.refused)
    | inr (inr worked) ↦ elim (facts.ends files outcome worked.between left worked.work) [
      | inl answer ↦ inl answer
      | inr fault ↦ inr (record {
        known = fault.known;
        counted = λ told tells clean.
            let with_read = subst (λ fs. IsClean task fs before left) (told_same before.shelf.files task.wanted told files tells worked.read) clean in
            fault.counted (clean_within task files before worked.between left left (read_grows task.wanted before worked.between worked.only) (moves_grow left left (no_moves left)) with_read);
        unsure = λ told tells sure.
            let with_read = subst (λ fs. IsSure task fs before) (told_same before.shelf.files task.wanted told files tells worked.read) sure in
            fault.unsure (record {
              store = worked.only.shelf.sure ∙ with_read.store;
              console = ap (λ d. d.sure) worked.only.desk ∙ with_read.console;
              input = λ takes. subst (λ d. IsShortInput d.input) (sym worked.only.desk) (with_read.input takes);
            });
      })
    ]
  ]

  -- the outcome is never Usage
  pub performed_known : outcome ≢ Usage
  performed_known = elim ended [ inl answer ↦ answer_known outcome answer | inr stopped ↦ stopped.known ]

  -- the world after the files were read, and what was counted from there
  moved : (between : World) × OnlyRead task.wanted before between × Moves between left
  moved = elim does [
    | inl unread ↦ (left, unread.only, no_moves left)
    | inr (inl refused) ↦ (left, refused.only, no_moves left)
    | inr (inr worked) ↦ (worked.between, worked.only, facts.moves files outcome worked.between left worked.work)
  ]

  module _ (text : List ℕ) (after : World) (line : Reports text left after) where
    -- what isn't counted over the call isn't counted up to its line
    clean_before : (told : List (List ℕ)) → IsClean task told before after → IsClean task told before left
    clean_before told = clean_within task told before before left after (moves_grow before before (no_moves before)) (moves_grow left after (line_moves text left after line))

    -- and so it is of the files
    read_before : IsFileRead before after → IsFileRead before left
    read_before read = record {
      reads = λ rose. read.reads (omega (arith, ap (λ s. s.read_faults) line.shelf, rose));
      longs = λ rose. read.longs (omega (arith, ap (λ s. s.long_files) line.shelf, rose));
    }

    -- a refusal that told files have is named
    names :
        (told : List (List ℕ)) → TellsAll before.shelf.files task.wanted told → (refused : Outcome) → task.refusal told ≡ Some refused →
        IsFileRead before after → (outcome ≡ refused) ⊎ (outcome ≡ OutOfMemory)
    names told tells refused is read = elim does [
      | inl unread ↦ elim (unread_ends task.wanted outcome before.shelf left.shelf unread.cause) [
        | inl memory ↦ inr memory
        | inr fault ↦ absurd (unread_counted task.wanted before left fault.1 (read_before read))
      ]
      | inr (inl was) ↦
          let same = told_same before.shelf.files task.wanted told files tells was.read in
          inl (same_Some outcome refused (sym was.refused ∙ sym (ap task.refusal same) ∙ is))
      | inr (inr worked) ↦
          let same = told_same before.shelf.files task.wanted told files tells worked.read in
          absurd (none-some refused (sym worked.accepted ∙ sym (ap task.refusal same) ∙ is))
    ]

    pub performed_answers : (told : List (List ℕ)) → TellsAll before.shelf.files task.wanted told → Answers task outcome told before after
    performed_answers told tells = record {
      names = names told tells;
      complete = λ clean. elim ended [ inl answer ↦ answer_fault outcome answer | inr stopped ↦ absurd (stopped.counted told tells (clean_before told clean)) ];
      sure = λ sure. elim ended [ inl answer ↦ answer_fault outcome answer | inr stopped ↦ absurd (stopped.unsure told tells sure) ];
    }

    pub performed_counts : CountsFaults task before after
    performed_counts = let world = moved in all_counts task before world.0 left after world.1 world.2 (line_moves text left after line)
