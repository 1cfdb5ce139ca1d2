-- Accesses to devices. The program is stuck there by itself, since its load or store reaches no memory, and a device answers. The
-- image's memory lies within the map, and devices outside it: so the machine reaches no memory either, and asks the same device for the
-- same bytes at the same address. A store may send the address of a place, which is the word that the machine stores.
use Rattle.std.specs.Option.{option_and_then, option_map, option_map_or, option_or}
use Rattle.std.proofs.Common.{◌≡◌, ℕ, ◌+◌, ◌%◌, ◌^◌, ◌<◌, ◌≤◌, List, [], ◌∷◌, ◌++◌, length, map, min, take, drop, Option, Some, None, Ok, Err, Bool, true, false, cond, refl, sym, ap, ap₂, ◌∙◌, subst, inl, inr, ⊎_elim, arith, eqb, leb, ℤ}
use Rattle.std.specs.Prelude.{◌&&◌, ◌⊎◌, All}
use Rattle.std.proofs.lemmas.Bool.{and_parts, cases_Bool, cond-false, cond-true, eq-eqb, eqb-true, leb-true, or_cases}
use Rattle.std.proofs.lemmas.List.Elements.{All-head, All-tail}
use Rattle.std.proofs.lemmas.Option.{same_Some}
use Rattle.zc_base.specs.Fields.{word_bytes}
use Rattle.zc_base.specs.declared.mem_map.MemMap.{MemMap}
use Rattle.zc_base.specs.declared.place.Place.{Place}
use Rattle.interrupt_plan.specs.Plan.{Interrupt}
use Rattle.psabi_reloc.specs.Parts.{lo12_of}
use Rattle.psabi_sym.specs.declared.target.Target.{Target}
use Rattle.psabi_reloc.specs.Patched.{with_imm}
use Rattle.rv_decode.specs.declared.instr.Instr.{Instr}
use Rattle.rv_decode.specs.declared.instr.Instr.TheVariants as instr
use Rattle.rv_decode.specs.declared.instr.LoadOp.{LoadOp}
use Rattle.rv_decode.specs.declared.instr.LoadOp.TheVariants.{Lb, Lh, Lw, Lbu, Lhu}
use Rattle.rv_decode.specs.declared.instr.StoreOp.{StoreOp}
use Rattle.rv_decode.specs.declared.instr.StoreOp.TheVariants.{Sb, Sh, Sw}
use Rattle.rv_decode.specs.Bits.{add32}
use Rattle.rv_decode.specs.declared.device_access.DeviceAccess.{DeviceAccess}
use Rattle.rv_decode.specs.declared.device_access.DeviceAccess.TheVariants as access
use Rattle.rv_decode.specs.Devices.{AreOutside, Device, IsOutside, Range, Registers, in_devices, number_from, sent_bytes, widened}
use Rattle.rv_decode.specs.Effect.{Commits, Effect, Outside, attempting, effect, gives, load_result, load_width, onward, store_width, stored}
use Rattle.rv_decode.specs.Memory.{byte_of, extents_of, is_data, lies_in}
use Rattle.rv_decode.specs.State.{Load, Store, ZcCore, ZcState, reg_in, set_reg}
use Rattle.block_cut.specs.declared.item.Item.{Item}
use Rattle.block_cut.specs.declared.item.Item.TheVariants.{Op, Hi, Lo, PcHi, PcLo, Branch, Jump, Call, Align, Word, Raw, RawShort, RawPair}
use Rattle.sym_machine.specs.declared.word.SymByte.{SymByte}
use Rattle.sym_machine.specs.declared.word.SymByte.TheVariants.{Num, Part, Undef}
use Rattle.sym_machine.specs.declared.word.SymWord.{SymWord}
use Rattle.sym_machine.specs.AddressParts.{low_sum, pc_low_sum, pc_target}
use Rattle.sym_machine.specs.Change.{Change, Goes, base_register, continues, stored_bytes, then_number}
use Rattle.sym_machine.specs.Devices.{byte_numbers, device_address, device_by_sum, device_does, device_load, device_store, store_event, stored_code}
use Rattle.sym_machine.specs.Events.{SymEvent, Numeric, StoresCode, event_in}
use Rattle.sym_machine.specs.Program.{Program}
use Rattle.sym_machine.specs.State.{PlainState, reg_of}
use Rattle.sym_machine.specs.Words.{code_of, number_of, number_word, sum_word}
use Rattle.sym_machine.specs.declared.word.Value.{Value}
use Rattle.zc_machine.specs.Run.{committed, device_answers, is_answered, unanswered, zc_turn}
use Rattle.zc_machine.specs.Step.{effect_step}
use Rattle.zc_link.specs.Image.{Image, loaded_core}
use Rattle.zc_link.specs.IsSimulation.{Comes}
use Rattle.zc_link.specs.Invariants.Room.{Room}
use Rattle.zc_link.specs.Sound.{Ready}
use Rattle.zc_link.specs.Stands.{ByteStands, WordStands}
use Rattle.zc_link.specs.Invariants.Stretches.{AloneLaid, ItemLaid, OneLaid}
use Rattle.zc_link.specs.Meant.{way_on}
use Rattle.zc_link.specs.Values.{target_value, value_in, way}
use Rattle.zc_link.proofs.Addresses.{code_is, low_stands, pc_low_stands}
use Rattle.zc_link.proofs.Buffers.{taken_bytes}
use Rattle.zc_link.proofs.Commits.{after_cuts}
use Rattle.zc_link.proofs.DeviceSteps.{FromAnswered, answer_comes, goes_same, number_below}
use Rattle.zc_link.proofs.Ready.{ready_fed, ready_moved, ready_set}
use Rattle.zc_link.proofs.MeantLaws.{laid_by, way_found}
use Rattle.zc_link.proofs.Relocated.{base_low}
use Rattle.zc_link.proofs.Singles.{below_top}
use Rattle.zc_link.proofs.SystemSteps.{named_system, system_comes}
use Rattle.zc_link.proofs.Words.{number_is, number_names, number_stands, sum_stands}

-- ---- options

mapped : {A B : Type 0} (f : A → B) (o : Option A) (y : B) → option_map f o ≡ Some y → (x : A) × (o ≡ Some x) × (f x ≡ y)
mapped f None y h = absurd cc
mapped f (Some x) y h = (x, refl, cc)

then_some : {A B : Type 0} (f : A → Option B) (o : Option A) (y : B) → option_and_then f o ≡ Some y → (x : A) × (o ≡ Some x) × (f x ≡ Some y)
then_some f None y h = absurd cc
then_some f (Some x) y h = (x, refl, h)

-- a change that goes on
goes_of : (o : Option Change) (c : Change) → option_map Goes o ≡ Some (Goes c) → o ≡ Some c
goes_of None c h = absurd cc
goes_of (Some d) c h = ap Some (goes_same d c (same_Some (Goes d) (Goes c) h))

-- ---- where a device lies

-- n bytes in a device are outside the map
outside_map :
    (map : MemMap) (ds : List Device) (a n : ℕ) → AreOutside map ds → in_devices ds a n ≡ true → (a + n ≤ map.text) ⊎ (map.stack_high ≤ a)
outside_map map [] a n outside h = absurd cc
outside_map map (Registers ∷ ds) a n outside h = outside_map map ds a n (All-tail (IsOutside map) Registers ds outside) h
outside_map map (Range d ∷ ds) a n outside h = ⊎_elim
    (λ here.
    let q = and_parts (leb d.at a) (leb (a + n) (d.at + d.size)) here in
    let low = leb-true d.at a q.0 in
    let high = leb-true (a + n) (d.at + d.size) q.1 in
    ⊎_elim (λ below. inl (omega (arith, high, below))) (λ above. inr (omega (arith, low, above))) (All-head (IsOutside map) (Range d) ds outside))
    (λ later. outside_map map ds a n (All-tail (IsOutside map) (Range d) ds outside) later)
    (or_cases (leb d.at a && leb (a + n) (d.at + d.size)) (in_devices ds a n) h)

-- so they are no memory of the image
no_memory :
    {p : Program} {e : Image} → Room p e → (ds : List Device) (a n : ℕ) → 0 < n → AreOutside p.map ds → in_devices ds a n ≡ true
    → lies_in is_data (extents_of (loaded_core e).memory) a n ≡ false
no_memory {p} {e} room ds a n some outside h = ⊎_elim
    (λ lies.
    let b = room.bounded a n lies in
    ⊎_elim (λ below. absurd (omega (arith, some, below, b.0))) (λ above. absurd (omega (arith, some, above, b.1))) (outside_map p.map ds a n outside h))
    (λ no. no)
    (cases_Bool (lies_in is_data (extents_of (loaded_core e).memory) a n))

-- an access by this word goes to a device at this address
record Reached (ds : List Device) (n a : ℕ) (o : Option ℕ) : Type 0 where
  is : o ≡ Some a
  aligned : a % n ≡ 0
  device : in_devices ds a n ≡ true

reached : (ds : List Device) (base n : ℕ) (o : Option ℕ) (a : ℕ) → device_address ds base n o ≡ Some a → Reached ds n a o
reached ds base n None a h = absurd cc
reached ds base n (Some m) a h = by (eqb base 2) (eqb (m % n) 0) (in_devices ds m n) refl refl h
  where
    by :
        (x y v : Bool) → eqb (m % n) 0 ≡ y → in_devices ds m n ≡ v → cond x None (cond y (cond v (Some m) None) None) ≡ Some a
        → Reached ds n a (Some m)
    by true y v aligned lies g = absurd cc
    by false false v aligned lies g = absurd cc
    by false true false aligned lies g = absurd cc
    by false true true aligned lies g =
        let same : m ≡ a = cc in
        record {
          is = ap Some same;
          aligned = subst (λ k. k % n ≡ 0) same (eqb-true (m % n) 0 aligned);
          device = subst (λ k. in_devices ds k n ≡ true) same lies;
        }

-- ---- numbers that are loaded

-- what a load makes of them is a word
widened_below : (op : LoadOp) (bytes : List ℕ) → All (λ b. b < 256) bytes → length bytes ≤ load_width op → widened op (number_from bytes) < 2 ^ 32
widened_below Lb bytes are few = omega arith
widened_below Lh bytes are few = omega arith
widened_below Lw bytes are few = (number_below bytes are).2 few
widened_below Lbu bytes are few = let n = (number_below bytes are).0 few in omega (arith, n)
widened_below Lhu bytes are few = let n = (number_below bytes are).1 few in omega (arith, n)

-- ---- numbers that are stored

-- a byte that is a number is the machine's, and so are those behind it
record FirstIs (m : ℕ) (rest : Option (List ℕ)) (all : List ℕ) : Type 0 where
  numbers : List ℕ
  later : rest ≡ Some numbers
  is : all ≡ m ∷ numbers

first_is : (V : Value → Option ℕ) (b : SymByte) (m : ℕ) (rest : Option (List ℕ)) (all : List ℕ) → ByteStands V b m → then_number b rest ≡ Some all → FirstIs m rest all
first_is V (Num k) m None all st h = absurd cc
first_is V (Num k) m (Some numbers) all st h = record { numbers = numbers; later = refl; is = (let same : k ∷ numbers ≡ all = cc in sym same ∙ ap (λ x. x ∷ numbers) (sym st)) }
first_is V (Part v i) m rest all st h = absurd cc
first_is V Undef m rest all st h = absurd cc

none_left : (all : List ℕ) → Some [] ≡ Some all → all ≡ []
none_left all h = cc

-- the lowest byte is the low eight bits
lowest : (n : ℕ) → byte_of n 0 ≡ n % 256
lowest n = omega arith

-- so what the program sends is what the machine does
sends : (V : Value → Option ℕ) (op : StoreOp) (w : SymWord) (n : ℕ) (all : List ℕ) → WordStands V w n → byte_numbers (stored_bytes op w) ≡ Some all → all ≡ sent_bytes op n
sends V Sb w n all st h =
    let one = first_is V w.b0 (byte_of n 0) (Some []) all st.b0 h in
    one.is ∙ ap₂ (λ b l. b ∷ l) (lowest n) (none_left one.numbers one.later)
sends V Sh w n all st h =
    let one = first_is V w.b0 (byte_of n 0) (byte_numbers (w.b1 ∷ [])) all st.b0 h in
    let two = first_is V w.b1 (byte_of n 1) (Some []) one.numbers st.b1 one.later in
    one.is ∙ ap₂ (λ b l. b ∷ l) (lowest n) (two.is ∙ ap (λ l. byte_of n 1 ∷ l) (none_left two.numbers two.later))
sends V Sw w n all st h =
    let one = first_is V w.b0 (byte_of n 0) (byte_numbers (w.b1 ∷ w.b2 ∷ w.b3 ∷ [])) all st.b0 h in
    let two = first_is V w.b1 (byte_of n 1) (byte_numbers (w.b2 ∷ w.b3 ∷ [])) one.numbers st.b1 one.later in
    let three = first_is V w.b2 (byte_of n 2) (byte_numbers (w.b3 ∷ [])) two.numbers st.b2 two.later in
    let four = first_is V w.b3 (byte_of n 3) (Some []) three.numbers st.b3 three.later in
    one.is ∙ ap₂ (λ b l. b ∷ l) (lowest n) (two.is ∙ ap (λ l. byte_of n 1 ∷ l) (three.is ∙ ap (λ l. byte_of n 2 ∷ l) (four.is ∙ ap (λ l. byte_of n 3 ∷ l) (none_left four.numbers four.later))))

-- the event of a store that sends numbers
numbers_told :
    (V : Value → Option ℕ) (A : Place → Option ℕ) (op : StoreOp) (w : SymWord) (n a : ℕ) (numbers : List ℕ) (event : SymEvent) → WordStands V w n
    → byte_numbers (stored_bytes op w) ≡ Some numbers → Some (Numeric (Store a numbers)) ≡ Some event → event_in A event ≡ Store a (sent_bytes op n)
numbers_told V A op w n a numbers event st are is =
    ap (event_in A) (sym (same_Some (Numeric (Store a numbers)) event is)) ∙ ap (Store a) (sends V op w n numbers st are)

-- of one that sends a place's address
code_told :
    {p : Program} {e : Image} → Room p e → (op : StoreOp) (w : SymWord) (n a : ℕ) (event : SymEvent) → n < 2 ^ 32 → WordStands (value_in p e.address) w n
    → option_map (StoresCode a) (stored_code op w) ≡ Some event → event_in e.address event ≡ Store a (sent_bytes op n)
code_told room Sb w n a event small st is = absurd cc
code_told room Sh w n a event small st is = absurd cc
code_told {p} {e} room Sw w n a event small st is =
    let code = mapped (StoresCode a) (code_of w) event is in
    ap (event_in e.address) (sym code.2)
    ∙ ap (λ o. Store a (word_bytes (option_map_or (λ x. x) o 0))) (code_is room w n code.0 small st code.1)

-- of any
store_told :
    {p : Program} {e : Image} → Room p e → (op : StoreOp) (w : SymWord) (n a : ℕ) (event : SymEvent) → n < 2 ^ 32 → WordStands (value_in p e.address) w n
    → store_event op w a ≡ Some event → event_in e.address event ≡ Store a (sent_bytes op n)
store_told {p} {e} room op w n a event small st h = by (byte_numbers (stored_bytes op w)) refl h
  where
    by : (o : Option (List ℕ)) → byte_numbers (stored_bytes op w) ≡ o
        → option_or (option_map (λ numbers. Numeric (Store a numbers)) o) (option_map (StoresCode a) (stored_code op w)) ≡ Some event
        → event_in e.address event ≡ Store a (sent_bytes op n)
    by (Some numbers) are is = numbers_told (value_in p e.address) e.address op w n a numbers event st are is
    by None none is = code_told room op w n a event small st is

some_load : (op : LoadOp) → 0 < load_width op
some_load Lb = omega arith
some_load Lh = omega arith
some_load Lw = omega arith
some_load Lbu = omega arith
some_load Lhu = omega arith

some_store : (op : StoreOp) → 0 < store_width op
some_store Sb = omega arith
some_store Sh = omega arith
some_store Sw = omega arith

-- ---- the step of both

module _ {p : Program} {Named : Place → Type 0} {e : Image} {r r' : PlainState} {cuts : ℕ → List Interrupt} {z : ZcState} (room : Room p e) (from : FromAnswered p Named e r r' cuts z) where
  -- an access outside memory is a device's
  asks :
      {i : Instr} (laid : AloneLaid p e r.core.place z.core.pc i) (now : ZcCore) (n a : ℕ) (x : DeviceAccess) (go : Effect) → extents_of now.memory ≡ extents_of (loaded_core e).memory
      → zc_turn (cuts 0) z ≡ committed (effect_step (effect laid.here laid.at.size now) now) (record z { core = now })
      → effect i laid.at.size now ≡ attempting n a now (Outside x) go → 0 < n → a % n ≡ 0 → in_devices r.devices a n ≡ true → is_answered z.devices x ≡ in_devices z.devices a n
      → zc_turn (cuts 0) z ≡ Ok (device_answers x (record z { core = now }))
  asks laid now n a x go extents turn does some aligned device answers =
      let away : lies_in is_data (extents_of now.memory) a n ≡ false = ap (λ es. lies_in is_data es a n) extents ∙ no_memory room r.devices a n some from.outside device in
      let out : attempting n a now (Outside x) go ≡ Outside x = cond-true (eqb (a % n) 0) _ _ (eq-eqb (a % n) 0 aligned) ∙ cond-false (lies_in is_data (extents_of now.memory) a n) _ _ away in
      let yes : is_answered z.devices x ≡ true = answers ∙ ap (λ ds. in_devices ds a n) from.devices ∙ device in
      turn
      ∙ ap (λ f. committed (effect_step f now) (record z { core = now })) (laid.same laid.at.size now ∙ does ∙ out)
      ∙ cond-true (is_answered z.devices x) (Ok (device_answers x (record z { core = now }))) (Err (unanswered x)) yes

  -- a load
  load_comes :
      (op : LoadOp) (rd base : ℕ) (k : ℤ) (w : SymWord) → AloneLaid p e r.core.place z.core.pc (instr.Load op rd base k)
      → ((y : ZcCore) → Ready p Named e r.core y → WordStands (value_in p e.address) w (add32 (reg_in y base) k))
      → device_by_sum r.devices (instr.Load op rd base k) w r.core (p.next r.core.place) ≡ Some from.step.change → Comes p Named e cuts 1 z r'
  load_comes op rd base k w laid stands h =
      let s = r.core in
      let next = p.next s.place in
      let V = value_in p e.address in
      let size = laid.at.size in
      let n = load_width op in
      let y = after_cuts room (cuts 0) (from.are 0) laid.at from.sound.alike in
      let now = y.now in
      let found = mapped (device_load op rd s next) (device_address r.devices base n (number_of w)) from.step.change h in
      let a : ℕ = found.0 in
      let at = reached r.devices base n (number_of w) a found.1 in
      let same : a ≡ add32 (reg_in now base) k = number_is V w (add32 (reg_in now base) k) a (omega arith) (stands now y.alike.ready) at.is in
      let t = taken_bytes n s.input z.input from.sound.input in
      let count = min n (length s.input) in
      let bytes = take count s.input in
      let v : ℕ = widened op (number_from bytes) in
      let small : v < 2 ^ 32 = widened_below op bytes (t.are y.alike.plain.input) t.short in
      let core : ZcCore = onward now size (set_reg now.regs rd v) in
      let turn : zc_turn (cuts 0) z ≡ Ok (device_answers (access.Load op a rd size) (record z { core = now })) =
      asks laid now n a (access.Load op a rd size) _ y.alike.extents y.turn
      (ap (λ b. effect_at op rd size now b) (sym same)) (some_load op) at.aligned at.device refl in
      answer_comes from (device_load op rd s next a) (Numeric (Load a n bytes)) core (drop n z.input) found.2 refl refl
      (turn ∙ ap (λ l. Ok (record z { core = onward now size (set_reg now.regs rd (widened op (number_from l))); input = drop n z.input; events = z.events ++ Load a n l ∷ [] })) (sym t.same))
      (laid.next ∙ ap Some (below_top z.core.pc now.pc size y.pc laid.at.small)) t.rest
      (ready_moved (ready_fed (ready_set y.alike.ready rd v (number_word v) small (number_stands V v) (number_names Named v)) count) next _ _)
    where
      effect_at : LoadOp → ℕ → ℕ → ZcCore → ℕ → Effect
      effect_at op rd size now b = attempting (load_width op) b now (Outside (access.Load op b rd size)) (gives (load_result op now b) rd size now)

  -- a store
  store_comes :
      (op : StoreOp) (source base : ℕ) (k : ℤ) (w : SymWord) → source < 32 → AloneLaid p e r.core.place z.core.pc (instr.Store op source base k)
      → ((y : ZcCore) → Ready p Named e r.core y → WordStands (value_in p e.address) w (add32 (reg_in y base) k))
      → device_by_sum r.devices (instr.Store op source base k) w r.core (p.next r.core.place) ≡ Some from.step.change → Comes p Named e cuts 1 z r'
  store_comes op source base k w low laid stands h =
      let s = r.core in
      let next = p.next s.place in
      let V = value_in p e.address in
      let size = laid.at.size in
      let n = store_width op in
      let y = after_cuts room (cuts 0) (from.are 0) laid.at from.sound.alike in
      let now = y.now in
      let found = then_some (device_store op (reg_of s source) next) (device_address r.devices base n (number_of w)) from.step.change h in
      let a : ℕ = found.0 in
      let at = reached r.devices base n (number_of w) a found.1 in
      let same : a ≡ add32 (reg_in now base) k = number_is V w (add32 (reg_in now base) k) a (omega arith) (stands now y.alike.ready) at.is in
      let store = mapped (λ event. record (continues next) { events = event ∷ [] }) (store_event op (reg_of s source) a) from.step.change found.2 in
      let event : SymEvent = store.0 in
      let word : ℕ = reg_in now source in
      let told : event_in e.address event ≡ Store a (sent_bytes op word) =
      store_told room op (reg_of s source) word a event (y.alike.core.words source) (y.alike.registers source low) store.1 in
      let core : ZcCore = onward now size now.regs in
      let turn : zc_turn (cuts 0) z ≡ Ok (device_answers (access.Store op a word size) (record z { core = now })) =
      asks laid now n a (access.Store op a word size) _ y.alike.extents y.turn
      (ap (λ b. effect_at op word size now b) (sym same)) (some_store op) at.aligned at.device refl in
      answer_comes from (record (continues next) { events = event ∷ [] }) event core z.input store.2 refl refl
      (turn ∙ ap (λ x. Ok (record z { core = core; input = z.input; events = z.events ++ x ∷ [] })) (sym told))
      (laid.next ∙ ap Some (below_top z.core.pc now.pc size y.pc laid.at.small)) from.sound.input
      (ready_moved y.alike.ready next _ _)
    where
      effect_at : StoreOp → ℕ → ℕ → ZcCore → ℕ → Effect
      effect_at op word size now b = attempting (store_width op) b now (Outside (access.Store op b word size)) (Commits (onward (stored (store_width op) b word now) size now.regs))

  -- ---- items

  -- by the word of a sum
  sum_comes :
      (i : Instr) (k : ℤ) (w : SymWord) (laid : AloneLaid p e r.core.place z.core.pc (with_imm i k))
      → ((y : ZcCore) → Ready p Named e r.core y → WordStands (value_in p e.address) w (add32 (reg_in y (base_register i)) k))
      → option_map Goes (device_by_sum r.devices i w r.core (p.next r.core.place)) ≡ Some (Goes from.step.change) → Comes p Named e cuts 1 z r'
  sum_comes (instr.Upper op rd imm) k w laid stands h = absurd cc
  sum_comes (instr.Jal rd distance) k w laid stands h = absurd cc
  sum_comes (instr.Jalr rd base imm) k w laid stands h = absurd cc
  sum_comes (instr.Branch op first second distance) k w laid stands h = absurd cc
  sum_comes (instr.Load op rd base imm) k w laid stands h = load_comes op rd base k w laid stands (goes_of _ from.step.change h)
  sum_comes (instr.Store op source base imm) k w laid stands h = store_comes op source base k w laid.registers.0 laid stands (goes_of _ from.step.change h)
  sum_comes (instr.WithImm op rd first imm) k w laid stands h = absurd cc
  sum_comes (instr.WithReg op rd first second) k w laid stands h = absurd cc
  sum_comes (instr.Fence rest) k w laid stands h = absurd cc
  sum_comes instr.Ecall k w laid stands h = absurd cc
  sum_comes instr.Ebreak k w laid stands h = absurd cc
  sum_comes (instr.Csrrw rd source) k w laid stands h = absurd cc

  -- an instruction without relocation
  op_comes :
      (i : Instr) → AloneLaid p e r.core.place z.core.pc i → device_does r.devices p (Some (Op i)) r.core (p.next r.core.place) ≡ Some (Goes from.step.change)
      → Comes p Named e cuts 1 z r'
  op_comes (instr.Upper op rd imm) laid h = absurd cc
  op_comes (instr.Jal rd distance) laid h = absurd cc
  op_comes (instr.Jalr rd base imm) laid h = absurd cc
  op_comes (instr.Branch op first second distance) laid h = absurd cc
  op_comes (instr.Load op rd base imm) laid h =
      load_comes op rd base imm (sum_word (reg_of r.core base) imm) laid
      (λ y ready. sum_stands (value_in p e.address) (reg_of r.core base) imm (reg_in y base) (ready.core.words base) (ready.registers base laid.registers.1)) (goes_of _ from.step.change h)
  op_comes (instr.Store op source base imm) laid h =
      store_comes op source base imm (sum_word (reg_of r.core base) imm) laid.registers.0 laid
      (λ y ready. sum_stands (value_in p e.address) (reg_of r.core base) imm (reg_in y base) (ready.core.words base) (ready.registers base laid.registers.1)) (goes_of _ from.step.change h)
  op_comes (instr.WithImm op rd first imm) laid h = absurd cc
  op_comes (instr.WithReg op rd first second) laid h = absurd cc
  op_comes (instr.Fence rest) laid h = absurd cc
  op_comes instr.Ecall laid h = absurd cc
  op_comes instr.Ebreak laid h = absurd cc
  op_comes (instr.Csrrw rd source) laid h = absurd cc

  -- one with the lower part of an address
  lo_comes :
      (i : Instr) (t : Target) → OneLaid p e r.core.place z.core.pc (Lo i t) → device_does r.devices p (Some (Lo i t)) r.core (p.next r.core.place) ≡ Some (Goes from.step.change)
      → Comes p Named e cuts 1 z r'
  lo_comes i t l h =
      let m = laid_by l (λ x. with_imm i (lo12_of x)) (target_value e.address t) l.is in
      let base = base_register i in
      sum_comes i (lo12_of m.0) (low_sum t (reg_of r.core base)) m.2
      (λ y ready. low_stands room t (reg_of r.core base) (reg_in y base) m.0 (ready.core.words base) m.1 (ready.registers base (base_low i (lo12_of m.0) m.2.registers))) h

  -- one with the lower part of the distance from another place
  pc_lo_comes :
      (i : Instr) (q : Place) → OneLaid p e r.core.place z.core.pc (PcLo i q) → device_does r.devices p (Some (PcLo i q)) r.core (p.next r.core.place) ≡ Some (Goes from.step.change)
      → Comes p Named e cuts 1 z r'
  pc_lo_comes i q l h =
      let m = laid_by l (λ w. with_imm i (lo12_of w)) (way_on e.address p.item q) l.is in
      let f = way_found e.address p.item q m.0 m.1 in
      let laid = subst (λ w. AloneLaid p e r.core.place z.core.pc (with_imm i (lo12_of w))) (sym f.is) m.2 in
      let base = base_register i in
      let k = lo12_of (way f.address f.value) in
      sum_comes i k (pc_low_sum q (pc_target (p.item q)) (reg_of r.core base)) laid
      (λ y ready. pc_low_stands room q f.to f.address f.value (reg_of r.core base) (reg_in y base) (ready.core.words base) f.leads f.listed f.has (ready.registers base (base_low i k laid.registers))) h

  pub device_comes :
      (o : Option Item) → ItemLaid p e r.core.place z.core.pc o → device_does r.devices p o r.core (p.next r.core.place) ≡ Some (Goes from.step.change)
      → Comes p Named e cuts 1 z r'
  device_comes None laid h = absurd cc
  device_comes (Some (Op i)) l h = op_comes i (subst (AloneLaid p e r.core.place z.core.pc) (sym (same_Some i l.instr l.is)) l.laid) h
  device_comes (Some (Hi i t)) laid h = absurd cc
  device_comes (Some (Lo i t)) laid h = lo_comes i t laid h
  device_comes (Some (PcHi i t)) laid h = absurd cc
  device_comes (Some (PcLo i q)) laid h = pc_lo_comes i q laid h
  device_comes (Some (Branch op first second to)) laid h = absurd cc
  device_comes (Some (Jump rd to)) laid h = absurd cc
  device_comes (Some (Call rd temp to)) laid h = absurd cc
  device_comes (Some (Align bytes)) laid h = absurd cc
  device_comes (Some (Word t)) laid h = absurd cc
  device_comes (Some (Raw word)) laid h =
      let known = named_system r.devices p word r.core (p.next r.core.place) (Goes from.step.change) h in
      system_comes room from word (laid known.system) known.system known.registers known.does
  device_comes (Some (RawShort half)) laid h = absurd cc
  device_comes (Some (RawPair first second)) laid h = absurd cc
