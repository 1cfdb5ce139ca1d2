-- Steps that devices answer.
use Rattle.std.proofs.Common.{◌≡◌, ◌≢◌, ℕ, ◌+◌, ◌%◌, ◌^◌, ◌<◌, ◌≤◌, inl, inr, List, [], ◌∷◌, length, min, take, drop, Bool, true, false, cond, eqb, Option, Some, None, refl, sym, ap, ◌∙◌, ⊎_elim, subst, arith}
use Rattle.std.specs.Prelude.{not, ◌||◌}
use Rattle.std.specs.Option.{option_and_then, option_map, option_map_or, option_or}
use Rattle.std.proofs.lemmas.Bool.{cond-false, cond-true, eqb-true}
use Rattle.std.proofs.lemmas.List.{drop_min, take_min}
use Rattle.zc_base.specs.declared.mem_map.MemMap.{MemMap}
use Rattle.zc_base.specs.declared.place.Place.{Place}
use Rattle.block_cut.specs.declared.item.Item.{Item}
use Rattle.rv_decode.specs.declared.instr.Instr.{Instr}
use Rattle.rv_decode.specs.declared.instr.Instr.TheVariants as instr
use Rattle.rv_decode.specs.declared.instr.StoreOp.{StoreOp}
use Rattle.rv_decode.specs.declared.instr.StoreOp.TheVariants.{Sb, Sh, Sw}
use Rattle.rv_decode.specs.Devices.{Device, in_devices, number_from, sent_bytes}
use Rattle.rv_decode.specs.Effect.{load_width, store_width}
use Rattle.rv_decode.specs.Formats.{rd_of, rs1_of}
use Rattle.rv_decode.specs.State.{Store, System}
use Rattle.rv_decode.specs.System.{system_width, takes_register}
use Rattle.sym_machine.specs.declared.known.Known.{Known}
use Rattle.sym_machine.specs.declared.known.Known.TheVariants.{Number, Code, Unknown}
use Rattle.sym_machine.specs.declared.answer.SymStep.{SymStep}
use Rattle.sym_machine.specs.declared.answer.SymStep.TheVariants as answer
use Rattle.sym_machine.specs.declared.word.SymWord.{SymWord}
use Rattle.sym_machine.specs.declared.why.Why.{Why}
use Rattle.sym_machine.specs.declared.why.Why.TheVariants.{ArgumentUnknown, BadAddress, Misaligned, StackPointer}
use Rattle.sym_machine.specs.Answer.{DevicesAnswer, RunsOn, StepAnswers, answer_bytes, system_event}
use Rattle.sym_machine.specs.Change.{Change, Does, Goes, Stops, accessing, item_does, continues, in_memory, sets, stored_bytes}
use Rattle.sym_machine.specs.Devices.{byte_numbers, device_address, device_by_sum, device_does, device_load, device_store, does_with, store_event, stored_code, system_by_register, system_does}
use Rattle.sym_machine.specs.Events.{SymEvent, HandsCode, Numeric, StoresCode}
use Rattle.sym_machine.specs.Expansions.{item_expansion}
use Rattle.sym_machine.specs.Conditions.{known_of}
use Rattle.sym_machine.specs.Invariants.Asked.{FindsDevice, IsReachedAt, operand_of, where_stuck}
use Rattle.sym_machine.specs.Program.{Program}
use Rattle.sym_machine.specs.State.{PlainCore, reg_of}
use Rattle.sym_machine.specs.Step.{PlainStep, Went, Stuck, after_change, applied, ends, in_turn, is_set, item_step, plain_step, stack_mark, step_with}
use Rattle.sym_machine.specs.Words.{number_of, number_word}
use Rattle.sym_machine.proofs.StepLaws.{ended, goes_with, settled}

-- ---- a change that takes input and has an event

-- a step with this input left, and with these events
abbrev pub retold : List ℕ → List SymEvent → PlainStep → PlainStep
retold input events (Went s none) = Went (record s { input = input }) events
retold input events (Stuck why) = Stuck why

ends_retold :
    (map : MemMap) (was_set : Bool) (s : PlainCore) (input : List ℕ) (events : List SymEvent)
    → ends map was_set (record s { input = input }) events ≡ retold input events (ends map was_set s [])
unfolding ends
ends_retold map was_set s input events = by (is_set map s || not was_set)
  where
    by : (b : Bool) → cond b (Went (settled map (stack_mark map s) (record s { input = input })) events) (Stuck StackPointer)
        ≡ retold input events (cond b (Went (settled map (stack_mark map s) s) []) (Stuck StackPointer))
    by true = refl
    by false = refl

-- an answer of as many bytes, or all that are left: it takes input, gives a register a number, and is an event
module _
    (map : MemMap) (s : PlainCore) (rd : ℕ) (next : Place) (width n : ℕ) (value : List ℕ → ℕ) (event : List ℕ → SymEvent) (is : n ≡ value (take width s.input)) where
  -- what is taken
  abbrev given : List ℕ
  given = take (min width (length s.input)) s.input

  abbrev answered : Change
  answered = record (sets rd (number_word (value given)) next) { taken = min width (length s.input); events = event given ∷ [] }

  answer_retold : applied map s (Goes answered) ≡ retold (drop width s.input) (event given ∷ []) (applied map s (Goes (sets rd (number_word n) next)))
  answer_retold =
      let number : value given ≡ n = ap value (take_min width s.input) ∙ sym is in
      (λ j. ends map (is_set map s) (record (after_change (sets rd (number_word (number j)) next) s) { input = drop_min width s.input j }) (event given ∷ []))
      ∙ ends_retold map (is_set map s) (after_change (sets rd (number_word n) next) s) (drop width s.input) (event given ∷ [])

  -- it goes on
  pub answer_on : (s' : PlainCore) → RunsOn (applied map s (Goes (sets rd (number_word n) next))) [] s s'
      → RunsOn (applied map s (Goes (record (sets rd (number_word (value (take (min width (length s.input)) s.input))) next) { taken = min width (length s.input); events = event (take (min width (length s.input)) s.input) ∷ [] })))
      (event (take (min width (length s.input)) s.input) ∷ []) s (record s' { input = drop width s.input })
  answer_on s' went = (went.0, went.1, answer_retold ∙ ap (retold (drop width s.input) (event given ∷ [])) went.2)

  -- or it is stuck, since sp can't have the number
  pub answer_stuck : (why : Why) → applied map s (Goes (sets rd (number_word n) next)) ≡ Stuck why
      → applied map s (Goes (record (sets rd (number_word (value (take (min width (length s.input)) s.input))) next) { taken = min width (length s.input); events = event (take (min width (length s.input)) s.input) ∷ [] })) ≡ Stuck why
  answer_stuck why stuck = answer_retold ∙ ap (retold (drop width s.input) (event given ∷ [])) stuck

-- an instruction of the system does what it does by its operand
system_is : (word : ℕ) (s : PlainCore) (next : Place) → system_does word s next ≡ system_by_register word (operand_of word s) s next
system_is word s next = by (takes_register word)
  where
    by : (b : Bool) → cond b (system_by_register word (known_of (reg_of s (rs1_of word))) s next) (system_by_register word (Number (rs1_of word)) s next)
        ≡ system_by_register word (cond b (known_of (reg_of s (rs1_of word))) (Number (rs1_of word))) s next
    by true = refl
    by false = refl

-- if that is known, it goes on with its answer, or is stuck
module _ (map : MemMap) (s : PlainCore) (word n : ℕ) (next : Place) (is : n ≡ number_from (take (system_width word) s.input)) where
  pub system_on :
      (operand : Known) (s' : PlainCore) → operand ≢ Unknown → operand ≡ operand_of word s → RunsOn (applied map s (Goes (sets (rd_of word) (number_word n) next))) [] s s'
      → RunsOn (applied map s (system_does word s next)) (system_event word operand (answer_bytes (system_width word) s)) s (record s' { input = drop (system_width word) s.input })
  system_on operand s' known operand_is went =
      subst (λ (d : Does). RunsOn (applied map s d) (system_event word operand (answer_bytes (system_width word) s)) s (record s' { input = drop (system_width word) s.input }))
      (ap (λ o. system_by_register word o s next) operand_is ∙ sym (system_is word s next)) (by operand known)
    where
      by : (o : Known) → o ≢ Unknown
          → RunsOn (applied map s (system_by_register word o s next)) (system_event word o (answer_bytes (system_width word) s)) s (record s' { input = drop (system_width word) s.input })
      by (Number m) some = answer_on map s (rd_of word) next (system_width word) n number_from (λ bytes. Numeric (System word m bytes)) is s' went
      by (Code q) some = answer_on map s (rd_of word) next (system_width word) n number_from (HandsCode word q) is s' went
      by Unknown some = absurd (some refl)

  pub system_stuck :
      (operand : Known) (why : Why) → operand ≢ Unknown → operand ≡ operand_of word s → applied map s (Goes (sets (rd_of word) (number_word n) next)) ≡ Stuck why
      → applied map s (system_does word s next) ≡ Stuck why
  system_stuck operand why known operand_is stuck =
      subst (λ (d : Does). applied map s d ≡ Stuck why) (ap (λ o. system_by_register word o s next) operand_is ∙ sym (system_is word s next)) (by operand known)
    where
      by : (o : Known) → o ≢ Unknown → applied map s (system_by_register word o s next) ≡ Stuck why
      by (Number m) some = answer_stuck map s (rd_of word) next (system_width word) n number_from (λ bytes. Numeric (System word m bytes)) is why stuck
      by (Code q) some = answer_stuck map s (rd_of word) next (system_width word) n number_from (HandsCode word q) is why stuck
      by Unknown some = absurd (some refl)

-- if it isn't, it is stuck
pub system_off : (map : MemMap) (s : PlainCore) (word : ℕ) (next : Place) → Unknown ≡ operand_of word s → applied map s (system_does word s next) ≡ Stuck ArgumentUnknown
system_off map s word next unknown = ap (applied map s) (system_is word s next ∙ ap (λ o. system_by_register word o s next) (sym unknown))

-- ---- stores

-- a store sends its bytes, or a place's address
pub store_on :
    (map : MemMap) (s s' : PlainCore) (op : StoreOp) (w : SymWord) (next : Place) (a : ℕ) (e : SymEvent) → store_event op w a ≡ Some e
    → RunsOn (applied map s (Goes (continues next))) [] s s'
    → RunsOn (applied map s (option_map_or Goes (device_store op w next a) (Stops BadAddress))) (e ∷ []) s s'
store_on map s s' op w next a e sends went =
    let change : Change = record (continues next) { events = e ∷ [] } in
    let does : option_map_or Goes (device_store op w next a) (Stops BadAddress) ≡ Goes change =
    ap (λ o. option_map_or Goes (option_map (λ x. record (continues next) { events = x ∷ [] }) o) (Stops BadAddress)) sends in
    let told = ends_retold map (is_set map s) (after_change (continues next) s) s.input (e ∷ []) in
    let end = (ended map (is_set map s) (after_change (continues next) s) s' [] [] went.2).0 in
    let input : s.input ≡ s'.input = ap (λ (t : PlainCore). t.input) (sym end.state) in (
      went.0,
      went.1,
      ap (applied map s) does ∙ told ∙ ap (retold s.input (e ∷ [])) went.2 ∙ ap (λ l. Went (record s' { input = l }) (e ∷ [])) input,
    )

pub sends_numbers : (op : StoreOp) (w : SymWord) (a n : ℕ) → byte_numbers (stored_bytes op w) ≡ Some (sent_bytes op n) → store_event op w a ≡ Some (Numeric (Store a (sent_bytes op n)))
sends_numbers op w a n numbers = ap (λ o. option_or (option_map (λ bytes. Numeric (Store a bytes)) o) (option_map (StoresCode a) (stored_code op w))) numbers

-- where its bytes aren't numbers it sends a place's address, or nothing
pub sends_place : (op : StoreOp) (w : SymWord) (a : ℕ) → byte_numbers (stored_bytes op w) ≡ None → store_event op w a ≡ option_map (StoresCode a) (stored_code op w)
sends_place op w a none = ap (λ o. option_or (option_map (λ bytes. Numeric (Store a bytes)) o) (option_map (StoresCode a) (stored_code op w))) none

-- a store that sends nothing is stuck
pub store_off :
    (op : StoreOp) (w : SymWord) (next : Place) (a : ℕ) → store_event op w a ≡ None → option_map_or Goes (device_store op w next a) (Stops BadAddress) ≡ Stops BadAddress
store_off op w next a none = ap (λ o. option_map_or Goes (option_map (λ x. record (continues next) { events = x ∷ [] }) o) (Stops BadAddress)) none

-- a store's bytes end below 2^32
pub store_within : (op : StoreOp) (a : ℕ) → a < 2 ^ 32 → a % store_width op ≡ 0 → a + store_width op ≤ 2 ^ 32
store_within Sb a below aligned = omega (arith, below)
store_within Sh a below aligned = omega (arith, below, aligned)
store_within Sw a below aligned = omega (arith, below, aligned)

-- ---- where an access goes

module _ (devices : List Device) (base n a : ℕ) where
  pub by_sp : eqb base 2 ≡ true → device_address devices base n (Some a) ≡ None
  by_sp is = cond-true (eqb base 2) None (cond (eqb (a % n) 0) (cond (in_devices devices a n) (Some a) None) None) is

  pub misaligned : eqb (a % n) 0 ≡ false → device_address devices base n (Some a) ≡ None
  misaligned is = either (eqb base 2) ∙ cond-false (eqb (a % n) 0) (cond (in_devices devices a n) (Some a) None) None is
    where
      either : (b : Bool) → cond b None (cond (eqb (a % n) 0) (cond (in_devices devices a n) (Some a) None) None) ≡ cond (eqb (a % n) 0) (cond (in_devices devices a n) (Some a) None) None
      either true = sym (cond-false (eqb (a % n) 0) (cond (in_devices devices a n) (Some a) None) None is)
      either false = refl

  pub no_device : in_devices devices a n ≡ false → device_address devices base n (Some a) ≡ None
  no_device is = ap (λ b. cond (eqb base 2) None (cond (eqb (a % n) 0) (cond b (Some a) None) None)) is ∙ either (eqb base 2) (eqb (a % n) 0)
    where
      none : Option ℕ
      none = None

      either : (b c : Bool) → cond b none (cond c none none) ≡ none
      either true c = refl
      either false true = refl
      either false false = refl

  pub in_reach : (s : PlainCore) → eqb (a % n) 0 ≡ true → in_memory s a n ≡ true → IsReachedAt n (Some a) s
  in_reach s aligned there = (a, λ go. (λ j. cond (aligned j) (cond (there j) (go a) (Stops BadAddress)) (Stops Misaligned)))

  pub found : (s : PlainCore) → eqb base 2 ≡ false → eqb (a % n) 0 ≡ true → in_memory s a n ≡ false → in_devices devices a n ≡ true → FindsDevice devices base n (Some a) s (Some a)
  found s other aligned out there = (
    (λ j. cond (other j) None (cond (aligned j) (cond (there j) (Some a) None) None)),
    eqb-true (a % n) 0 aligned,
    λ go. (λ j. cond (aligned j) (cond (out j) (go a) (Stops BadAddress)) (Stops Misaligned)),
  )

-- ---- what devices make of it

-- with no change by them it is what it is
where_stuck_none : (d : Does) → where_stuck None d ≡ d
where_stuck_none (Goes c) = refl
where_stuck_none (Stops why) = refl

-- no device answers, or memory has the bytes
pub not_asked :
    (devices : List Device) (base n : ℕ) (address : Option ℕ) (s : PlainCore) (answer : ℕ → Option Change) (go : ℕ → Change)
    → FindsDevice devices base n address s None
    → where_stuck (option_map Goes (option_and_then answer (device_address devices base n address))) (accessing n address s (λ a. Goes (go a)))
    ≡ accessing n address s (λ a. Goes (go a))
not_asked devices base n address s answer go (inl none) =
    ap (λ o. where_stuck (option_map Goes (option_and_then answer o)) (accessing n address s (λ a. Goes (go a)))) none ∙ where_stuck_none (accessing n address s (λ a. Goes (go a)))
not_asked devices base n address s answer go (inr (a, reach)) =
    let goes = reach (λ a. Goes (go a)) in
    ap (where_stuck (option_map Goes (option_and_then answer (device_address devices base n address)))) goes ∙ sym goes

-- a device answers
pub asked :
    (devices : List Device) (base n a : ℕ) (address : Option ℕ) (s : PlainCore) (answer : ℕ → Option Change) (go : ℕ → Does)
    → FindsDevice devices base n address s (Some a)
    → where_stuck (option_map Goes (option_and_then answer (device_address devices base n address))) (accessing n address s go) ≡ option_map_or Goes (answer a) (Stops BadAddress)
asked devices base n a address s answer go found =
    (λ j. where_stuck (option_map Goes (option_and_then answer (found.0 j))) (found.2 go j)) ∙ by (answer a)
  where
    by : (o : Option Change) → option_map_or (λ does. does) (option_map Goes o) (Stops BadAddress) ≡ option_map_or Goes o (Stops BadAddress)
    by None = refl
    by (Some c) = refl

-- a load's answer as one that there may not be
pub load_by : (o : Option ℕ) (f : ℕ → Change) → option_map f o ≡ option_and_then (λ a. Some (f a)) o
load_by None f = refl
load_by (Some a) f = refl

no_address : (base n : ℕ) (address : Option ℕ) → device_address [] base n address ≡ None
no_address base n None = refl
no_address base n (Some a) = no_device [] base n a refl

pub sum_none : (i : Instr) (w : SymWord) (s : PlainCore) (next : Place) → option_map Goes (device_by_sum [] i w s next) ≡ None
sum_none (instr.Load op rd base imm) w s next = ap (λ o. option_map Goes (option_map (device_load op rd s next) o)) (no_address base (load_width op) (number_of w))
sum_none (instr.Store op source base imm) w s next =
    ap (λ o. option_map Goes (option_and_then (device_store op (reg_of s source) next) o)) (no_address base (store_width op) (number_of w))
sum_none other w s next = refl

-- what an item does with devices, by what they do if it is asked
does_asked :
    (devices : List Device) (p : Program) (item : Option Item) (s : PlainCore) (next : Place) (device : List Device → Option Does) (d : Does)
    → ((ds : List Device) → device_does ds p item s next ≡ device ds) → device [] ≡ None → does_with devices p item s next d ≡ where_stuck (device devices) d
does_asked [] p item s next device d same none = sym (ap (λ o. where_stuck o d) none ∙ where_stuck_none d)
does_asked (x ∷ ds) p item s next device (Goes c) same none = refl
does_asked (x ∷ ds) p item s next device (Stops why) same none = ap (λ o. option_map_or (λ does. does) o (Stops why)) (same (x ∷ ds))

-- or if it is never asked
pub does_alone :
    (devices : List Device) (p : Program) (item : Option Item) (s : PlainCore) (next : Place) (d : Does)
    → ((ds : List Device) → device_does ds p item s next ≡ None) → does_with devices p item s next d ≡ d
does_alone devices p item s next d none = does_asked devices p item s next (λ ds. None) d none refl ∙ where_stuck_none d

-- ---- items

-- an item that no device is asked for
pub item_alone :
    (devices : List Device) (map : MemMap) (p : Program) (item : Option Item) (s : PlainCore) (next : Place)
    → ((ds : List Device) → device_does ds p item s next ≡ None) → item_step devices map p item s next ≡ item_step [] map p item s next
item_alone devices map p item s next none =
    ap (λ d. option_map_or (λ is. in_turn map is next s) (item_expansion item) (applied map s d)) (does_alone devices p item s next (item_does p item s next) none)

-- one that they are asked for, with what they answer to it
pub item_asked :
    (devices : List Device) (map : MemMap) (p : Program) (item : Option Item) (s s' : PlainCore) (next : Place) (device : List Device → Option Does) (d : Does) (r : Option SymStep)
    → item_expansion item ≡ None → item_does p item s next ≡ d → ((ds : List Device) → device_does ds p item s next ≡ device ds) → device [] ≡ None
    → DevicesAnswer (applied map s (where_stuck (device devices) d)) (applied map s d) r s s'
    → DevicesAnswer (item_step devices map p item s next) (item_step [] map p item s next) r s s'
item_asked devices map p item s s' next device d r single does same none told =
    subst (λ (t : PlainStep). DevicesAnswer t (item_step [] map p item s next) r s s')
    (sym (here devices (where_stuck (device devices) d) (does_asked devices p item s next device (item_does p item s next) same none ∙ ap (where_stuck (device devices)) does)))
    (subst (λ (t : PlainStep). DevicesAnswer (applied map s (where_stuck (device devices) d)) t r s s') (sym (here [] d does)) told)
  where
    here : (ds : List Device) (e : Does) → does_with ds p item s next (item_does p item s next) ≡ e → item_step ds map p item s next ≡ applied map s e
    here ds e is = (λ j. option_map_or (λ is. in_turn map is next s) (single j) (applied map s (is j)))

-- ---- with devices, whatever the answer was

-- an answer of the machine itself stays, unless it is stuck
pub answers_with :
    (devices : List Device) (p : Program) (a : SymStep) (s s' : PlainCore) → ((place : Place) (why : Why) → a ≢ answer.Stuck place why)
    → StepAnswers (plain_step p s) a s s' → StepAnswers (step_with devices p s) a s s'
answers_with devices p answer.Done s s' other h = (h.0, h.1, goes_with devices p s s' [] h.2)
answers_with devices p (answer.Read count) s s' other h = (h.0, (h.1.0, h.1.1, goes_with devices p s s' _ h.1.2))
answers_with devices p (answer.Wrote fd bytes) s s' other h = (h.0, (h.1.0, h.1.1, goes_with devices p s s' _ h.1.2))
answers_with devices p (answer.Loaded op at) s s' other h = (h.0, h.1, goes_with devices p s s' _ h.2)
answers_with devices p (answer.Stored sent) s s' other h = (h.0, (h.1.0, h.1.1, goes_with devices p s s' _ h.1.2))
answers_with devices p (answer.StoredCode at place) s s' other h = (h.0, h.1, goes_with devices p s s' _ h.2)
answers_with devices p (answer.System word operand) s s' other h = (h.0, h.1, goes_with devices p s s' _ h.2)
answers_with devices p (answer.Exited status) s s' other h =
    ⊎_elim (λ now. inl (now.0, now.1, goes_with devices p s s' _ now.2)) (λ before. inr (before.0, before.1, goes_with devices p s s' [] before.2)) h
answers_with devices p (answer.Stuck place why) s s' other h = absurd (other place why refl)
