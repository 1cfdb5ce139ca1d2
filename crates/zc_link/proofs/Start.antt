-- The start is sound, after the stub if there is one: data stand for the machine's as they are loaded, sp is the stack's
-- end if it is set, and nothing is known of the other registers and of the stack.
use Rattle.std.proofs.Common.{◌≡◌, ◌≢◌, ℕ, zero, suc, ◌+◌, ◌-◌, ◌^◌, ◌<◌, ◌≤◌, List, [], length, Some, Bool, true, false, cond, refl, sym, ap, ◌∙◌, subst, inl, inr, ⊎_elim, arith, eqb, leb, get_or, replicate}
use Rattle.std.specs.Prelude.{◌&&◌, All}
use Rattle.std.proofs.lemmas.Bool.{and_parts, cases_Bool, cases_lt, cond-false, cond_both, eqb-false, eqb-true, false≢true, leb-true, ne_eqb}
use Rattle.std.proofs.lemmas.List.{get_or-replicate, get_or_past, length-replicate}
use Rattle.zc_base.specs.declared.place.Place.{Place}
use Rattle.interrupt_plan.specs.Plan.{AreInterrupts, Interrupt}
use Rattle.rv_decode.specs.Memory.{blank, cell_at, extents_of, is_stack, is_text, lies_in}
use Rattle.rv_decode.specs.Devices.{Device}
use Rattle.rv_decode.specs.State.{IsCore, ZcCore, ZcState, byte_in, reg_in, start_regs}
use Rattle.rv_decode.proofs.MemoryLaws.{get_or_blank, stack_is_data}
use Rattle.rv_decode.proofs.RegisterLaws.{reads}
use Rattle.sym_machine.specs.declared.word.SymByte.{SymByte}
use Rattle.sym_machine.specs.declared.word.SymByte.TheVariants.{Undef}
use Rattle.sym_machine.specs.declared.word.SymWord.{SymWord}
use Rattle.sym_machine.specs.Program.{Program, data_high, start_memory}
use Rattle.sym_machine.specs.State.{PlainCore, first_plain, reg_of, start_plain}
use Rattle.sym_machine.specs.Words.{number_word, undef_word}
use Rattle.zc_machine.specs.Load.{first_core}
use Rattle.zc_machine.specs.Run.{first_state_with}
use Rattle.zc_link.specs.DataApart.{FromLoad}
use Rattle.zc_link.specs.Image.{Image, IsFirstState, loaded_core}
use Rattle.zc_link.specs.Invariants.Laid.{AtEntry, Begins, BehindStub, Laid, StubLaid}
use Rattle.zc_link.specs.Pace.{lead_of, Stretch}
use Rattle.zc_link.specs.IsSimulation.{Comes}
use Rattle.zc_link.specs.Sound.{Alike, NamesWord}
use Rattle.zc_link.specs.Stands.{ByteStands, IsMemory, WordStands}
use Rattle.zc_link.specs.Values.{value_in}
use Rattle.zc_link.proofs.Bare.{Bares, OnBare}
use Rattle.zc_link.proofs.Cuts.{stack_within}
use Rattle.zc_link.proofs.Stub.{OnStub, lead_bares, none_lead, started, started_alike, stub_comes, stub_lead, stub_leads}
use Rattle.zc_link.proofs.Words.{number_names, number_stands, undef_names, undef_stands}

get_or_same : {Z : Type 0} (n i : ℕ) (z : Z) → get_or (replicate n z) i z ≡ z
get_or_same n i z = ⊎_elim
    (λ lt. get_or-replicate n i z z lt)
    (λ le. get_or_past (replicate n z) i z (let l = length-replicate n z in omega arith))
    (cases_lt i n)

-- what holds of x0, of sp and of the other registers holds of each
start_reads :
    {X Y : Type 0} (R : X → Y → Type 0) (x0 sp other : X) (y0 sp' other' : Y) → R x0 y0 → R sp sp' → R other other'
    → (r : ℕ) → R (reads x0 other (start_regs x0 sp other) r) (reads y0 other' (start_regs y0 sp' other') r)
start_reads R x0 sp other y0 sp' other' zeros stacks others zero = zeros
start_reads R x0 sp other y0 sp' other' zeros stacks others (suc zero) = others
start_reads R x0 sp other y0 sp' other' zeros stacks others (suc (suc zero)) = stacks
start_reads R x0 sp other y0 sp' other' zeros stacks others (suc (suc (suc r))) =
    let some : eqb (suc (suc (suc r))) 0 ≡ false = ne_eqb (suc (suc (suc r))) 0 (λ e. omega arith) in
    rw (some, get_or_same 29 r other, get_or_same 29 r other') others

-- the state that is loaded is a first state
pub loaded_first : (e : Image) → IsFirstState true e (loaded_core e)
unfolding first_core
loaded_first e = record { pc = refl; count = refl; sp = λ set. refl; words = λ r other. others r (⊎_elim (λ not_sp. not_sp) (λ (unset : true ≡ false). absurd (false≢true (sym unset))) other); extents = refl; bytes = λ a. inl refl; exit = refl }
  where
    others : (r : ℕ) → r ≢ 2 → reads 0 0 (start_regs 0 e.map.stack_high 0) r < 2 ^ 32
    others zero other = omega arith
    others (suc zero) other = omega arith
    others (suc (suc zero)) other = absurd (other refl)
    others (suc (suc (suc r))) other =
        let some : eqb (suc (suc (suc r))) 0 ≡ false = ne_eqb (suc (suc (suc r))) 0 (λ e. omega arith) in
        rw (some, get_or_same {Z = ℕ} 29 r 0) (omega arith)

-- the program's start with this word in sp
abbrev with_sp : Program → SymWord → List ℕ → PlainCore
with_sp p sp input = record (first_plain p input) { regs = start_regs (number_word 0) sp undef_word }

-- nothing is known of the stack, which begins at or after data's end
stack_unknown : (p : Program) → data_high p ≤ p.map.stack_low → (a : ℕ) → p.map.stack_low ≤ a → cell_at Undef (start_memory p) a ≡ Undef
stack_unknown p under a low =
    cond-false (leb p.map.data_low a && leb (a + 1) (data_high p)) _ _ (no_data (leb p.map.data_low a && leb (a + 1) (data_high p)) refl)
    ∙ cond_both (leb p.map.stack_low a && leb (a + 1) (p.map.stack_low + length stack)) (get_or stack (a - p.map.stack_low) Undef) Undef (λ c. c ≡ Undef)
    (λ _. get_or_blank (p.map.stack_high - p.map.stack_low) (a - p.map.stack_low) Undef)
    (λ _. refl)
  where
    stack : List SymByte
    stack = blank (p.map.stack_high - p.map.stack_low) Undef

    no_data : (b : Bool) → (leb p.map.data_low a && leb (a + 1) (data_high p)) ≡ b → b ≡ false
    no_data true h =
        let high = leb-true (a + 1) (data_high p) (and_parts (leb p.map.data_low a) (leb (a + 1) (data_high p)) h).1 in
        absurd (omega (arith, high, under, low))
    no_data false h = refl

module _ {p : Program} {Named : Place → Type 0} {e : Image} {piece : Place → Stretch} (laid : Laid p Named e piece) where
  high_same : p.map.stack_high ≡ e.map.stack_high
  high_same = ap (λ m. m.stack_high) (sym laid.room.map)

  start_names : (sp : SymWord) (input : List ℕ) → NamesWord Named sp → (r : ℕ) → NamesWord Named (reg_of (with_sp p sp input) r)
  start_names sp input names r =
      start_reads {Y = ℕ} (λ w n. NamesWord Named w) (number_word 0) sp undef_word 0 0 0 (number_names Named 0) names (undef_names Named) r

  -- ---- a first state

  module _ (sp_set : Bool) (first : ZcCore) (is : IsFirstState sp_set e first) where
    start_stands :
        (sp : SymWord) (input : List ℕ) → WordStands (value_in p e.address) sp (reg_in first 2) → (r : ℕ)
        → WordStands (value_in p e.address) (reg_of (with_sp p sp input) r) (reg_in first r)
    start_stands sp input stands zero = number_stands (value_in p e.address) 0
    start_stands sp input stands (suc zero) = undef_stands (value_in p e.address) (reg_in first 1)
    start_stands sp input stands (suc (suc zero)) = stands
    start_stands sp input stands (suc (suc (suc r))) =
        let some : eqb (suc (suc (suc r))) 0 ≡ false = ne_eqb (suc (suc (suc r))) 0 (λ e. omega arith) in
        subst (λ w. WordStands (value_in p e.address) w (reg_in first (suc (suc (suc r)))))
        (sym (ap (λ b. cond b (number_word 0) (get_or (replicate 29 undef_word) r undef_word)) some ∙ get_or_same 29 r undef_word))
        (undef_stands (value_in p e.address) (reg_in first (suc (suc (suc r)))))

    start_core : IsCore first
    start_core = record {
      count = is.count;
      words = λ r. words r (eqb r 2) refl;
      bytes = λ a. ⊎_elim (λ same. rw same (laid.bytes a)) (λ stack. stack.1) (is.bytes a);
    }
      where
        words : (r : ℕ) (b : Bool) → eqb r 2 ≡ b → reg_in first r < 2 ^ 32
        words r true here = ⊎_elim
            (λ set. let at = eqb-true r 2 here in rw (at, is.sp set) (omega (arith, laid.room.top, high_same)))
            (λ unset. is.words r (inr unset))
            (cases_Bool sp_set)
        words r false here = is.words r (inl (eqb-false r 2 here))

    -- nothing is known of the stack, and the rest is as it was loaded
    start_memory_stands :
        (a : ℕ) → IsMemory p a → ByteStands (value_in p e.address) (cell_at Undef (start_memory p) a) (byte_in first a)
    start_memory_stands a within = ⊎_elim
        (λ same. subst (ByteStands (value_in p e.address) (cell_at Undef (start_memory p) a)) (sym same) (laid.first a within))
        (λ stack.
        let low = (stack_within laid.room first is.extents a stack.0).0 in
        subst (λ c. ByteStands (value_in p e.address) c (byte_in first a)) (sym (stack_unknown p laid.room.under a low)) tt)
        (is.bytes a)

    start_text : (a : ℕ) → lies_in is_text (extents_of (loaded_core e).memory) a 1 ≡ true → byte_in first a ≡ byte_in (loaded_core e) a
    start_text a text = ⊎_elim
        (λ same. same)
        (λ stack.
        let held = stack_is_data (extents_of (loaded_core e).memory) a 1 (ap (λ es. lies_in is_stack es a 1) (sym is.extents) ∙ stack.0) in
        absurd (false≢true (sym (laid.room.apart a text) ∙ held)))
        (is.bytes a)

    -- a word that sp may start with
    record StartsSp (sp : SymWord) : Type 0 where
      stands : WordStands (value_in p e.address) sp (reg_in first 2)
      names : NamesWord Named sp

    -- the states are alike as if the image started where the program does
    start_alike :
        (sp : SymWord) → StartsSp sp → (input : List ℕ) → All (λ b. b < 256) input → (start : ℕ) → e.address p.entry ≡ Some start
        → Alike p Named (started e start) (with_sp p sp input) first
    unfolding first_core
    start_alike sp by input bytes start at = record {
      ready = record {
        running = refl;
        going = is.exit;
        plain = record { count = refl; input = bytes };
        core = start_core;
        registers = λ r lt. start_stands sp input by.stands r;
        memory = start_memory_stands;
        names = record { registers = λ r lt. start_names sp input by.names r; memory = laid.names };
        lies = refl;
        extents = is.extents;
        text = start_text;
        table = λ elsewhere. absurd (elsewhere at);
      };
      below = λ a low lt. stack_unknown p laid.room.under a low;
    }

    -- k commits lead from the first state to a sound pair
    abbrev StartsAfter : SymWord → ℕ → (ℕ → List Interrupt) → List Device → List ℕ → Type 0
    StartsAfter sp k cuts devices input =
        Comes p Named e cuts k (first_state_with first devices input) (record { core = with_sp p sp input; events = []; devices = devices })

    starts_at_once :
        (sp : SymWord) → StartsSp sp → (devices : List Device) (input : List ℕ) → All (λ b. b < 256) input → (cuts : ℕ → List Interrupt)
        → e.address p.entry ≡ Some e.entry → StartsAfter sp 0 cuts devices input
    starts_at_once sp by devices input bytes cuts at = record {
      after = first_state_with first devices input;
      runs = refl;
      together = inl record {
        alike = started_alike {z = first} e.entry first.pc first.jvt first.commits (λ elsewhere. absurd (elsewhere at))
            (start_alike sp by input bytes e.entry at);
        input = refl;
        place = at ∙ ap Some (sym is.pc);
      };
      events = refl;
    }

    -- the program doesn't know t0 at its start
    starts_behind :
        (sp : SymWord) → StartsSp sp → (devices : List Device) (input : List ℕ) → All (λ b. b < 256) input → (cuts : ℕ → List Interrupt)
        → AreInterrupts cuts → StubLaid p e first.pc → StartsAfter sp 3 cuts devices input
    starts_behind sp by devices input bytes cuts are stub =
        let on : OnStub p Named e cuts (with_sp p sp input) (first_state_with first devices input) =
        record { are = are; stub = stub; alike = start_alike sp by input bytes (stub_leads stub) stub.leads } in
        let past = stub_comes laid.room on in
        record {
          after = record (first_state_with first devices input) { core = past.there };
          runs = past.runs;
          together = inl record { alike = past.alike; input = refl; place = past.place };
          events = refl;
        }

    starts_with :
        (sp : SymWord) → StartsSp sp → (devices : List Device) (input : List ℕ) → All (λ b. b < 256) input → (cuts : ℕ → List Interrupt)
        → AreInterrupts cuts → StartsAfter sp (lead_of p e) cuts devices input
    starts_with sp starts devices input bytes cuts are = by laid.begins
      where
        by : Begins p e → StartsAfter sp (lead_of p e) cuts devices input
        by (AtEntry at) =
            subst (λ k. StartsAfter sp k cuts devices input) (sym (none_lead p e at)) (starts_at_once sp starts devices input bytes cuts at)
        by (BehindStub stub) =
            subst (λ k. StartsAfter sp k cuts devices input) (sym (stub_lead stub))
            (starts_behind sp starts devices input bytes cuts are (subst (StubLaid p e) (sym is.pc) stub))

  -- sp is the stack's end, or the program doesn't know it
  pub starts :
      (sp_set : Bool) (first : ZcCore) → IsFirstState sp_set e first → (devices : List Device) (input : List ℕ) → All (λ b. b < 256) input
      → (cuts : ℕ → List Interrupt) → AreInterrupts cuts
      → Comes p Named e cuts (lead_of p e) (first_state_with first devices input)
      (record { core = start_plain sp_set p input; events = []; devices = devices })
  starts true first is = starts_with true first is (number_word p.map.stack_high) (record {
    stands = rw (is.sp refl, high_same) (number_stands (value_in p e.address) e.map.stack_high);
    names = number_names Named p.map.stack_high;
  })
  starts false first is =
      starts_with false first is undef_word (record { stands = undef_stands (value_in p e.address) (reg_in first 2); names = undef_names Named })

  -- no commit before the start looks at memory
  pub lead_bare : (k : ℕ) (z : ZcState) → FromLoad p e k z → OnBare e k z
  lead_bare k z from = subst (OnBare e k) (sym from.loads) (record {
    going = from.starts.exit;
    same = record { extents = from.starts.extents; text = start_text from.setting.sp_set from.first from.starts };
    bares = subst (λ n. Bares e n from.first.regs from.first.pc) (sym from.commits)
        (subst (Bares e (lead_of p e) from.first.regs) (sym from.starts.pc) (lead_bares from.first.regs laid.begins));
  })
