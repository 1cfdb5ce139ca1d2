-- Events: without devices they are numbers alone (AreNumeric), and so the same in every image; and what one more of them writes.
use Rattle.std.proofs.Common.{◌≡◌, ℕ, zero, suc, ◌%◌, List, [], ◌∷◌, ◌++◌, length, map, min, take, Option, Some, None, Ok, Bool, true, false, cond, eqb, refl, sym, ap, ◌∙◌, subst}
use Rattle.std.specs.Option.{option_map_or}
use Rattle.std.proofs.lemmas.Grind.{flat_map-append}
use Rattle.std.proofs.lemmas.List.{append-nil, map-append}
use Rattle.zc_base.specs.declared.place.Place.{Place}
use Rattle.zc_base.specs.declared.mem_map.MemMap.{MemMap}
use Rattle.block_cut.specs.declared.item.Item.{Item}
use Rattle.block_cut.specs.declared.item.Item.TheVariants as item
use Rattle.rv_decode.specs.declared.instr.Instr.{Instr}
use Rattle.rv_decode.specs.declared.instr.Instr.TheVariants as instr
use Rattle.rv_decode.specs.declared.instr.ImmOp.TheVariants.{Addi}
use Rattle.rv_decode.specs.declared.instr.UpperOp.{UpperOp}
use Rattle.rv_decode.specs.declared.instr.UpperOp.TheVariants.{Lui, Auipc}
use Rattle.rv_decode.specs.Effect.{load_width, store_width}
use Rattle.rv_decode.specs.EventBytes.{written_to}
use Rattle.rv_decode.specs.Run.{iterate}
use Rattle.rv_decode.specs.State.{Event, Exit, Read, Write}
use Rattle.rv_decode.proofs.RunLaws.{bind_ok}
use Rattle.sym_machine.specs.declared.arguments.Arguments.{Arguments}
use Rattle.sym_machine.specs.declared.why.Why.TheVariants.{ArgumentUnknown, BadAddress, Misaligned, TargetUnknown, UnknownCall}
use Rattle.sym_machine.specs.declared.word.SymWord.{SymWord}
use Rattle.sym_machine.specs.declared.word.Value.TheVariants as value
use Rattle.sym_machine.specs.AddressParts.{high_word, low_sum, pc_low_sum, pc_target}
use Rattle.sym_machine.specs.Change.{Does, Goes, Stops, accessing, arguments_of, base_register, branch_does, by_sum, call_does, call_to, continues, exit_does, in_memory, is_buffer, is_output, item_does, jump_does, load_word, numbers_at, op_does, puts, read_does, sets, stored_bytes, upper_does, with_buffer, write_does}
use Rattle.sym_machine.specs.Conditions.{condition}
use Rattle.sym_machine.specs.Events.{SymEvent, Numeric, event_in, sym_bytes_to, sym_written_to}
use Rattle.sym_machine.specs.Expansions.{item_expansion}
use Rattle.sym_machine.specs.Program.{Program}
use Rattle.sym_machine.specs.Run.{plain_turn, program_after_with, recorded}
use Rattle.sym_machine.specs.State.{PlainCore, PlainState, reg_of}
use Rattle.sym_machine.specs.Step.{PlainStep, Went, Stuck, after_change, and_then, applied, in_turn, is_set, plain_step, step_with}
use Rattle.sym_machine.specs.Words.{code_of, code_word, number_of, number_word, sum_word, undef_word, value_word}
use Rattle.sym_machine.proofs.StepLaws.{ended, found_stack, step_expansion, step_past_exit, step_single}

-- ---- events that are numbers alone

pub record AreNumeric (events : List SymEvent) : Type 0 where
  pub numbers : List Event
  pub are : events ≡ map Numeric numbers

pub numeric_none : AreNumeric []
numeric_none = record { numbers = []; are = refl }

pub numeric_one : (e : Event) → AreNumeric (Numeric e ∷ [])
numeric_one e = record { numbers = e ∷ []; are = refl }

pub numeric_append : (xs ys : List SymEvent) → AreNumeric xs → AreNumeric ys → AreNumeric (xs ++ ys)
numeric_append xs ys x y = record {
  numbers = x.numbers ++ y.numbers;
  are = (λ j. x.are j ++ y.are j) ∙ sym (map-append Numeric x.numbers y.numbers);
}

-- in every image they are these numbers
pub numeric_in : (A : Place → Option ℕ) (xs : List SymEvent) (are : AreNumeric xs) → map (event_in A) xs ≡ are.numbers
numeric_in A xs are = ap (map (event_in A)) are.are ∙ by are.numbers
  where
    by : (es : List Event) → map (event_in A) (map Numeric es) ≡ es
    by [] = refl
    by (e ∷ es) = ap (λ l. e ∷ l) (by es)

pub numeric_same : (A B : Place → Option ℕ) (xs : List SymEvent) → AreNumeric xs → map (event_in A) xs ≡ map (event_in B) xs
numeric_same A B xs are = numeric_in A xs are ∙ sym (numeric_in B xs are)

-- they are known by what they are in an image
pub numeric_known : (A : Place → Option ℕ) (xs ys : List SymEvent) → AreNumeric xs → AreNumeric ys → map (event_in A) xs ≡ map (event_in A) ys → xs ≡ ys
numeric_known A xs ys x y same =
    x.are ∙ ap (map Numeric) (sym (numeric_in A xs x) ∙ same ∙ numeric_in A ys y) ∙ sym y.are

-- and write what the numbers write
pub numeric_written : (outputs : List ℕ) (stream : ℕ) (es : List Event) → sym_written_to outputs stream (map Numeric es) ≡ written_to outputs stream es
numeric_written outputs stream [] = refl
numeric_written outputs stream (e ∷ es) = ap (λ l. sym_bytes_to outputs stream (Numeric e) ++ l) (numeric_written outputs stream es)

-- ---- what items do

-- a change with such events
abbrev pub IsNumeric : Does → Type 0
IsNumeric (Goes c) = AreNumeric c.events
IsNumeric (Stops why) = Unit {0}

by_accessing : (n : ℕ) (o : Option ℕ) (s : PlainCore) (go : ℕ → Does) → ((a : ℕ) → IsNumeric (go a)) → IsNumeric (accessing n o s go)
by_accessing n None s go each = tt
by_accessing n (Some a) s go each = by (eqb (a % n) 0) (in_memory s a n)
  where
    by : (b c : Bool) → IsNumeric (cond b (cond c (go a) (Stops BadAddress)) (Stops Misaligned))
    by true true = each a
    by true false = tt
    by false c = tt

by_jump : (o : Option Place) (rd : ℕ) (next : Place) → IsNumeric (jump_does o rd next)
by_jump None rd next = tt
by_jump (Some q) rd next = numeric_none

by_branch : (o : Option Bool) (to next : Place) → IsNumeric (branch_does o to next)
by_branch None to next = tt
by_branch (Some taken) to next = numeric_none

by_buffer : (known : ℕ → Bool) (s : PlainCore) (go : Arguments → Does) → ((c : Arguments) → IsNumeric (go c)) → IsNumeric (with_buffer known s go)
by_buffer known s go each = by (arguments_of (number_of (reg_of s 10)) (number_of (reg_of s 11)) (number_of (reg_of s 12)))
  where
    either : (c : Arguments) (b d : Bool) → IsNumeric (cond b (cond d (go c) (Stops BadAddress)) (Stops UnknownCall))
    either c true true = each c
    either c true false = tt
    either c false d = tt

    by : (o : Option Arguments) → IsNumeric (option_map_or (λ c. cond (known c.a0) (cond (is_buffer s c) (go c) (Stops BadAddress)) (Stops UnknownCall)) o (Stops ArgumentUnknown))
    by None = tt
    by (Some c) = either c (known c.a0) (is_buffer s c)

by_write : (s : PlainCore) (next : Place) (c : Arguments) → IsNumeric (write_does s next c)
by_write s next c = by (numbers_at s.memory c.at c.len)
  where
    by : (o : Option (List ℕ))
        → IsNumeric (option_map_or (λ bytes. Goes (record (sets 10 (number_word c.len) next) { events = Numeric (Write c.a0 bytes) ∷ [] })) o (Stops ArgumentUnknown))
    by None = tt
    by (Some bytes) = numeric_one (Write c.a0 bytes)

by_exit : (o : Option ℕ) (at : Place) → IsNumeric (exit_does o at)
by_exit None at = tt
by_exit (Some a0) at = numeric_one (Exit (a0 % 256))

by_call : (o : Option ℕ) (s : PlainCore) (next : Place) → IsNumeric (call_does o s next)
by_call None s next = tt
by_call (Some a7) s next = by (eqb a7 93) (eqb a7 63) (eqb a7 64)
  where
    read : IsNumeric (with_buffer (λ a0. eqb a0 0) s (read_does s next))
    read = by_buffer (λ a0. eqb a0 0) s (read_does s next) (λ c. numeric_one (Read (take (min c.len (length s.input)) s.input)))

    write : IsNumeric (with_buffer is_output s (write_does s next))
    write = by_buffer is_output s (write_does s next) (by_write s next)

    by : (x y z : Bool)
        → IsNumeric (cond x (exit_does (number_of (reg_of s 10)) s.place) (cond y (with_buffer (λ a0. eqb a0 0) s (read_does s next)) (cond z (with_buffer is_output s (write_does s next)) (Stops UnknownCall))))
    by true y z = by_exit (number_of (reg_of s 10)) s.place
    by false true z = read
    by false false true = write
    by false false false = tt

numeric_sum : (i : Instr) (w : SymWord) (s : PlainCore) (next : Place) → IsNumeric (by_sum i w s next)
numeric_sum (instr.Jalr rd base imm) w s next = by_jump (code_of w) rd next
numeric_sum (instr.Load op rd base imm) w s next = by_accessing (load_width op) (number_of w) s (λ a. Goes (sets rd (load_word op s a) next)) (λ a. numeric_none)
numeric_sum (instr.Store op source base imm) w s next =
    by_accessing (store_width op) (number_of w) s (λ a. Goes (puts a (stored_bytes op (reg_of s source)) next)) (λ a. numeric_none)
numeric_sum (instr.WithImm Addi rd first imm) w s next = numeric_none
numeric_sum other w s next = tt

numeric_op : (i : Instr) (s : PlainCore) (next : Place) → IsNumeric (op_does i s next)
numeric_op (instr.Upper op rd imm) s next = numeric_none
numeric_op (instr.Jal rd distance) s next = tt
numeric_op (instr.Jalr rd base imm) s next = numeric_sum (instr.Jalr rd base imm) (sum_word (reg_of s base) imm) s next
numeric_op (instr.Branch op first second distance) s next = tt
numeric_op (instr.Load op rd base imm) s next = numeric_sum (instr.Load op rd base imm) (sum_word (reg_of s base) imm) s next
numeric_op (instr.Store op source base imm) s next = numeric_sum (instr.Store op source base imm) (sum_word (reg_of s base) imm) s next
numeric_op (instr.WithImm op rd first imm) s next = numeric_none
numeric_op (instr.WithReg op rd first second) s next = numeric_none
numeric_op (instr.Fence rest) s next = numeric_none
numeric_op instr.Ecall s next = by_call (number_of (reg_of s 17)) s next
numeric_op instr.Ebreak s next = tt
numeric_op (instr.Csrrw rd source) s next = tt

by_upper : (op : UpperOp) (i : Instr) (w : SymWord) (next : Place) → IsNumeric (upper_does op i w next)
by_upper Lui (instr.Upper Lui rd imm) w next = numeric_none
by_upper Auipc (instr.Upper Auipc rd imm) w next = numeric_none
by_upper op other w next = tt

by_call_to : (rd temp : ℕ) (to next : Place) → IsNumeric (call_to rd temp to next)
by_call_to rd temp to next = by (eqb temp 0)
  where
    by : (b : Bool) → IsNumeric (cond b (Stops TargetUnknown) (Goes (record (continues to) { writes = (temp, undef_word) ∷ (rd, code_word next) ∷ [] })))
    by true = tt
    by false = numeric_none

pub numeric_item : (p : Program) (o : Option Item) (s : PlainCore) (next : Place) → IsNumeric (item_does p o s next)
numeric_item p None s next = tt
numeric_item p (Some (item.Op i)) s next = numeric_op i s next
numeric_item p (Some (item.Hi i t)) s next = by_upper Lui i (high_word t) next
numeric_item p (Some (item.Lo i t)) s next = numeric_sum i (low_sum t (reg_of s (base_register i))) s next
numeric_item p (Some (item.PcHi i t)) s next = by_upper Auipc i (value_word (value.PcHi s.place)) next
numeric_item p (Some (item.PcLo i q)) s next = numeric_sum i (pc_low_sum q (pc_target (p.item q)) (reg_of s (base_register i))) s next
numeric_item p (Some (item.Branch op first second to)) s next = by_branch (condition p op (reg_of s first) (reg_of s second)) to next
numeric_item p (Some (item.Jump rd to)) s next = by_jump (Some to) rd next
numeric_item p (Some (item.Call rd temp to)) s next = by_call_to rd temp to next
numeric_item p (Some (item.Align bytes)) s next = numeric_none
numeric_item p (Some (item.Word t)) s next = tt
numeric_item p (Some (item.Raw word)) s next = tt
numeric_item p (Some (item.RawShort half)) s next = tt
numeric_item p (Some (item.RawPair first second)) s next = tt

-- ---- steps and runs

-- instructions one after another have no event
pub in_turn_silent : (map : MemMap) (is : List Instr) (next : Place) (s s' : PlainCore) (events : List SymEvent) → in_turn map is next s ≡ Went s' events → events ≡ []
in_turn_silent map [] next s s' events h = cc
in_turn_silent map (i ∷ is) next s s' events h = by (applied map s (op_does i s next)) h (λ m g. in_turn_silent map is next m s' events g)
  where
    by : (t : PlainStep) → and_then t (in_turn map is next) ≡ Went s' events → ((m : PlainCore) → in_turn map is next m ≡ Went s' events → events ≡ []) → events ≡ []
    by (Went m none) g again = again m g
    by (Stuck why) g again = absurd cc

-- without devices the events of a step are numbers alone
pub step_numeric : (p : Program) (s s' : PlainCore) (events : List SymEvent) → plain_step p s ≡ Went s' events → AreNumeric events
step_numeric p s s' events went = by_state s.exit refl
  where
    here : Option Item
    here = p.item s.place

    by_does : (d : Does) → IsNumeric d → applied p.map s d ≡ Went s' events → AreNumeric events
    by_does (Goes c) is h = subst AreNumeric (sym (ended p.map (is_set p.map s) (after_change c s) s' c.events events h).1) is
    by_does (Stops why) is h = absurd cc

    by_item : s.exit ≡ None → (o : Option (List Instr)) → item_expansion here ≡ o → AreNumeric events
    by_item running None single =
        by_does (item_does p here s (p.next s.place)) (numeric_item p here s (p.next s.place))
        (sym (step_single [] p s running (found_stack [] p s s' events running went) single) ∙ went)
    by_item running (Some is) are =
        subst AreNumeric
        (sym (in_turn_silent p.map is (p.next s.place) s s' events (sym (step_expansion [] p s is running (found_stack [] p s s' events running went) are) ∙ went)))
        numeric_none

    by_state : (e : Option ℕ) → s.exit ≡ e → AreNumeric events
    by_state None running = by_item running (item_expansion here) refl
    by_state (Some status) exited =
        let same : Went s [] ≡ Went s' events = sym (step_past_exit [] p s status exited) ∙ went in
        subst AreNumeric (let e : [] ≡ events = cc in e) numeric_none

pub turn_numeric : (p : Program) (r r' : PlainState) → r.devices ≡ [] → plain_turn p r ≡ Ok r' → AreNumeric r.events → AreNumeric r'.events × (r'.devices ≡ [])
unfolding plain_turn
turn_numeric p r r' none h before = by (plain_step p r.core) refl (ap (λ ds. recorded (step_with ds p r.core) r) (sym none) ∙ h)
  where
    by : (t : PlainStep) → plain_step p r.core ≡ t → recorded t r ≡ Ok r' → AreNumeric r'.events × (r'.devices ≡ [])
    by (Went s events) is g =
        let same : record r { core = s; events = r.events ++ events } ≡ r' = cc in (
          subst (λ (t : PlainState). AreNumeric t.events) same (numeric_append r.events events before (step_numeric p r.core s events is)),
          ap (λ (t : PlainState). t.devices) (sym same) ∙ none,
        )
    by (Stuck why) is g = absurd cc

pub turns_numeric : (p : Program) (n : ℕ) (r r' : PlainState) → r.devices ≡ [] → iterate (plain_turn p) n r ≡ Ok r' → AreNumeric r.events → AreNumeric r'.events
turns_numeric p zero r r' none h before = subst (λ (t : PlainState). AreNumeric t.events) (let same : r ≡ r' = cc in same) before
turns_numeric p (suc n) r r' none h before =
    let first = bind_ok (plain_turn p r) (iterate (plain_turn p) n) r' h in
    let one = turn_numeric p r first.0 none first.1 before in
    turns_numeric p n first.0 r' one.1 first.2 one.0

pub run_numeric : (p : Program) (first : PlainCore) (n : ℕ) (r : PlainState) → program_after_with p first [] n ≡ Ok r → AreNumeric r.events
unfolding program_after_with
run_numeric p first n r h = turns_numeric p n (record { core = first; events = []; devices = [] }) r refl h numeric_none

-- ---- what one event more writes

pub sym_written-more :
    (outputs : List ℕ) (stream : ℕ) (events : List SymEvent) (x : SymEvent)
    → sym_written_to outputs stream (events ++ x ∷ []) ≡ sym_written_to outputs stream events ++ sym_bytes_to outputs stream x
sym_written-more outputs stream events x =
    flat_map-append (sym_bytes_to outputs stream) events (x ∷ []) ∙ ap (λ xs. sym_written_to outputs stream events ++ xs) (append-nil (sym_bytes_to outputs stream x))
