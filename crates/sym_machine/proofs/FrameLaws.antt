-- The words of a frame, one access after another: each that can be made leaves sp and where memory lies, so the first k come to a
-- state from which the rest is left (saving_more, loading_to); and if the first one can't be made, all of it is stuck (saves_stuck,
-- loads_stuck).
use Rattle.std.proofs.Common.{◌≡◌, ◌≢◌, ℕ, zero, suc, pos, ◌+◌, ◌-◌, ◌*◌, ◌%◌, ◌^◌, ◌<◌, ◌≤◌, List, [], ◌∷◌, ◌++◌, length, Some, Bool, true, false, cond, refl, sym, ap, ◌∙◌, subst, arith, drop, get_or, set, eqb, leb, get_or-set_same}
use Rattle.std.specs.Prelude.{All, ◌&&◌, ◌||◌, nat_le}
use Rattle.std.proofs.Math.Seq.{drop-cons}
use Rattle.std.proofs.lemmas.Bool.{and_from, and_parts, cond-false, cond-true, eq-eqb, eqb-true, le-leb, leb-true, ne_eqb}
use Rattle.std.proofs.lemmas.List.Elements.{All-get_or}
use Rattle.zc_base.specs.declared.mem_map.MemMap.{MemMap}
use Rattle.zc_base.specs.declared.place.Place.{Place}
use Rattle.rv_decode.specs.declared.instr.Instr.{Instr}
use Rattle.rv_decode.specs.declared.instr.Instr.TheVariants.{Load, Store}
use Rattle.rv_decode.specs.declared.instr.LoadOp.TheVariants.{Lw}
use Rattle.rv_decode.specs.declared.instr.StoreOp.TheVariants.{Sw}
use Rattle.rv_decode.specs.Bits.{add32}
use Rattle.rv_decode.specs.Memory.{Data, Stack, changed, extents_of, is_data, lies_in, spans}
use Rattle.rv_decode.specs.State.{set_reg}
use Rattle.rv_decode.proofs.MemoryLaws.{lies_inside}
use Rattle.rv_decode.proofs.RegisterLaws.{length-set_reg, reads-set_reg_other}
use Rattle.sym_machine.specs.AddressParts.{bytes_of}
use Rattle.sym_machine.specs.Change.{Does, Goes, Stops, accessing, in_memory, load_does, load_word, op_does, puts, sets, store_does}
use Rattle.sym_machine.specs.Expansions.{restores, saves}
use Rattle.sym_machine.specs.Invariants.Frames.{AreReached, HasStack, IsFrameBytes, IsFrameRegister, IsInStack, IsLoading, IsObstacle, IsReached, word_address}
use Rattle.sym_machine.specs.Kept.{IsKept, Kept, regions_of}
use Rattle.sym_machine.specs.State.{PlainCore, reg_of}
use Rattle.sym_machine.specs.Step.{Stuck, Went, after_change, and_then, applied, in_turn, is_set, undefined_below}
use Rattle.sym_machine.specs.Words.{number_of, number_word, numeric, sum_word, undef_word}
use Rattle.sym_machine.specs.declared.why.Why.{Why}
use Rattle.sym_machine.specs.declared.why.Why.TheVariants.{BadAddress, Misaligned}
use Rattle.sym_machine.specs.declared.word.SymWord.{SymWord}
use Rattle.sym_machine.proofs.MemoryLaws.{reaches_is}
use Rattle.sym_machine.proofs.StepLaws.{ended, ends_within, extents-made, set_to, settled}
use Rattle.sym_machine.proofs.WordLaws.{number_back}

-- ---- accesses

-- the address of an access by sp
address_is : (w : SymWord) (sp off : ℕ) → sp < 2 ^ 32 → number_of w ≡ Some sp → number_of (sum_word w (pos off)) ≡ Some (add32 sp (pos off))
address_is w sp off small is = by (eqb off 0) refl
  where
    below : add32 sp (pos off) < 2 ^ 32
    below = omega arith

    by : (b : Bool) → eqb off 0 ≡ b → number_of (cond b w (numeric (number_of w) (λ n. add32 n (pos off)))) ≡ Some (add32 sp (pos off))
    by true none =
        let zero : off ≡ 0 = eqb-true off 0 none in
        let same : sp ≡ add32 sp (pos 0) = omega (arith, small) in
        is ∙ ap Some (same ∙ ap (λ k. add32 sp (pos k)) (sym zero))
    by false some = ap (λ o. number_of (numeric o (λ n. add32 n (pos off)))) is ∙ number_back (add32 sp (pos off)) below

-- whether an access can be made depends on where memory lies alone
access_same : (s t : PlainCore) (a : ℕ) (go : ℕ → Does) → extents_of t.memory ≡ extents_of s.memory → accessing 4 (Some a) t go ≡ accessing 4 (Some a) s go
access_same s t a go same = ap (λ es. cond (eqb (a % 4) 0) (cond (lies_in is_data es a 4) (go a) (Stops BadAddress)) (Stops Misaligned)) same

pub reached_same : (s t : PlainCore) (sp top n : ℕ) → extents_of t.memory ≡ extents_of s.memory → AreReached s sp top n → AreReached t sp top n
reached_same s t sp top n same are = record { room = are.room; each = λ k few go. access_same s t (word_address sp top k) go same ∙ are.each k few go }

pub obstacle_same : (s t : PlainCore) (sp top : ℕ) (why : Why) → extents_of t.memory ≡ extents_of s.memory → IsObstacle s sp top why → IsObstacle t sp top why
obstacle_same s t sp top why same is = λ go. access_same s t (word_address sp top 0) go same ∙ is go

-- each word of a frame that lies in memory as a whole can be loaded and stored
pub reached_whole :
    (s : PlainCore) (sp top n : ℕ) → sp + top < 2 ^ 32 → sp % 4 ≡ 0 → top % 4 ≡ 0 → 4 * n ≤ top → in_memory s sp top ≡ true → AreReached s sp top n
reached_whole s sp top n small aligned_sp aligned_top room inside = record { room = room; each = each }
  where
    each : (k : ℕ) → k < n → IsReached s (word_address sp top k)
    each k few go =
        let at : word_address sp top k ≡ sp + (top - 4 * (k + 1)) = omega (arith, small) in
        let aligned : (sp + (top - 4 * (k + 1))) % 4 ≡ 0 = omega (arith, aligned_sp, aligned_top, few, room) in
        let within : in_memory s (sp + (top - 4 * (k + 1))) 4 ≡ true =
        lies_inside is_data (extents_of s.memory) sp top (sp + (top - 4 * (k + 1))) 4 inside (omega arith) (omega (arith, few, room)) in
        ap (λ a. accessing 4 (Some a) s go) at
        ∙ cond-true (eqb ((sp + (top - 4 * (k + 1))) % 4) 0) _ _ (eq-eqb ((sp + (top - 4 * (k + 1))) % 4) 0 aligned)
        ∙ cond-true (in_memory s (sp + (top - 4 * (k + 1))) 4) _ _ within
        ∙ ap go (sym at)

-- ---- where a frame lies

none_of : (b : Bool) → (b ≡ true → ⊥) → b ≡ false
none_of true never = absurd (never refl)
none_of false never = refl

-- a frame at an address that is no multiple of 4
pub frame_misaligned : (s : PlainCore) (sp top : ℕ) → IsFrameBytes top → sp % 4 ≢ 0 → IsObstacle s sp top Misaligned
frame_misaligned s sp top frame odd go =
    let highest : ℕ = word_address sp top 0 in
    cond-false (eqb (highest % 4) 0) _ _ (ne_eqb (highest % 4) 0 (λ e. odd (omega (arith, e, frame.some, frame.words))))

-- data lie below the stack and not near address 0, so a frame that begins in the stack lies there as a whole, or its highest word lies
-- nowhere
module _ (k : Kept) (is : IsKept k) (s : PlainCore) (memory : s.memory ≡ regions_of k) (sp top : ℕ) (low : k.map.stack_low ≤ sp) (high : sp ≤ k.map.stack_high) (frame : IsFrameBytes top) where
  -- the highest word
  abbrev highest : ℕ
  highest = word_address sp top 0

  pub frame_inside : (nat_le k.map.stack_low (add32 sp (pos top)) && nat_le (add32 sp (pos top)) k.map.stack_high) ≡ true → sp % 4 ≡ 0 → IsInStack k.map s sp top
  frame_inside inside aligned =
      let q = and_parts (leb k.map.stack_low (add32 sp (pos top))) (leb (add32 sp (pos top)) k.map.stack_high) inside in
      let from = leb-true k.map.stack_low (add32 sp (pos top)) q.0 in
      let to = leb-true (add32 sp (pos top)) k.map.stack_high q.1 in
      let small : sp + top < 2 ^ 32 = omega (arith, from, high, frame.most, is.apart, is.clear, is.top) in
      let fits : sp + top ≤ k.map.stack_low + length k.stack = omega (arith, to, small, is.size, is.low, is.high) in
      let there : true ≡ spans (record { kind = Stack; at = k.map.stack_low; size = length k.stack }) sp top =
      sym (and_from (leb k.map.stack_low sp) (leb (sp + top) (k.map.stack_low + length k.stack)) (le-leb k.map.stack_low sp low) (le-leb (sp + top) (k.map.stack_low + length k.stack) fits)) in
      let data_there = spans (record { kind = Data; at = k.map.data_low; size = length k.bytes }) sp top in
      let reaches : in_memory s sp top ≡ true = ap (λ m. lies_in is_data (extents_of m) sp top) memory ∙ sym (reaches_is k sp top data_there true refl there) ∙ or_true data_there in
      record { end = inside; reached = λ n room. reached_whole s sp top n small aligned frame.words room reaches }
    where
      or_true : (b : Bool) → (b || true) ≡ true
      or_true true = refl
      or_true false = refl

  pub frame_outside : (nat_le k.map.stack_low (add32 sp (pos top)) && nat_le (add32 sp (pos top)) k.map.stack_high) ≡ false → sp % 4 ≡ 0 → IsObstacle s sp top BadAddress
  frame_outside outside aligned go =
      let at : highest % 4 ≡ 0 = omega (arith, aligned, frame.some, frame.words) in
      cond-true (eqb (highest % 4) 0) _ _ (eq-eqb (highest % 4) 0 at) ∙ cond-false (in_memory s highest 4) _ _ nowhere
    where
      in_data : spans (record { kind = Data; at = k.map.data_low; size = length k.bytes }) highest 4 ≡ false
      in_data = none_of _ (λ h.
          let q = and_parts (leb k.map.data_low highest) (leb (highest + 4) (k.map.data_low + length k.bytes)) h in
          let from = leb-true k.map.data_low highest q.0 in
          let to = leb-true (highest + 4) (k.map.data_low + length k.bytes) q.1 in
          omega (arith, from, to, low, high, frame.some, frame.most, is.apart, is.clear, is.top))

      in_stack : spans (record { kind = Stack; at = k.map.stack_low; size = length k.stack }) highest 4 ≡ false
      in_stack = none_of _ (λ h.
          let q = and_parts (leb k.map.stack_low highest) (leb (highest + 4) (k.map.stack_low + length k.stack)) h in
          let from = leb-true k.map.stack_low highest q.0 in
          let to = leb-true (highest + 4) (k.map.stack_low + length k.stack) q.1 in
          let size = is.size in
          let begins : k.map.stack_low ≤ add32 sp (pos top) = omega (arith, from, to, size, low, high, frame.some, frame.most, frame.words, is.apart, is.clear, is.top) in
          let ends : add32 sp (pos top) ≤ k.map.stack_high = omega (arith, from, to, size, is.low, is.high, low, high, frame.some, frame.most, frame.words, is.apart, is.clear, is.top) in
          let inside = and_from (leb k.map.stack_low (add32 sp (pos top))) (leb (add32 sp (pos top)) k.map.stack_high) (le-leb k.map.stack_low (add32 sp (pos top)) begins) (le-leb (add32 sp (pos top)) k.map.stack_high ends) in
          let differ = sym inside ∙ outside in
          absurd cc)

      nowhere : in_memory s highest 4 ≡ false
      nowhere = ap (λ m. lies_in is_data (extents_of m) highest 4) memory ∙ sym (reaches_is k highest 4 false false (sym in_data) (sym in_stack))

-- the offset of the next word, its address, and the registers that are left
module _ (sp top k : ℕ) (registers : List ℕ) (few : k < length registers) where
  offset_is : top - 4 * k - 4 ≡ top - 4 * (k + 1)
  offset_is = omega arith

  address_at : add32 sp (pos (top - 4 * k - 4)) ≡ word_address sp top k
  address_at = ap (λ o. add32 sp (pos o)) offset_is

  left_is : drop k registers ≡ get_or registers k 0 ∷ drop (suc k) registers
  left_is = drop-cons registers k 0 few

one : (k : ℕ) → suc k ≡ k + 1
one k = omega arith

-- ---- stores

module _ (map : MemMap) (sp top : ℕ) (registers : List ℕ) (next : Place) (first : PlainCore) where
  -- the state in a loop over the registers, of which k are saved
  pub record IsSaving (k : ℕ) (s : PlainCore) : Type 0 where
    pub regs : s.regs ≡ first.regs
    pub extents : extents_of s.memory ≡ extents_of first.memory
    pub same : in_turn map (saves top registers) next first ≡ in_turn map (saves (top - 4 * k) (drop k registers)) next s

  module _ (small : sp < 2 ^ 32) (number : number_of (reg_of first 2) ≡ Some sp) where
    -- what the next store does
    next_store : (k : ℕ) (s : PlainCore) → k < length registers → IsSaving k s
        → op_does (Store Sw (get_or registers k 0) 2 (pos (top - 4 * k - 4))) s next
        ≡ accessing 4 (Some (word_address sp top k)) first (λ a. Goes (puts a (bytes_of (reg_of s (get_or registers k 0))) next))
    next_store k s few is =
        let r : ℕ = get_or registers k 0 in
        let sp_is : number_of (reg_of s 2) ≡ Some sp = ap (λ l. number_of (reg_of (record s { regs = l }) 2)) is.regs ∙ number in
        ap (λ o. store_does Sw (reg_of s r) o s next) (address_is (reg_of s 2) sp (top - 4 * k - 4) small sp_is ∙ ap Some (address_at sp top k registers few))
        ∙ access_same first s (word_address sp top k) (λ a. Goes (puts a (bytes_of (reg_of s r)) next)) is.extents

    pub saving_more :
        (k : ℕ) (s s' : PlainCore) → k < length registers → IsReached first (word_address sp top k) → IsSaving k s
        → applied map s (Goes (puts (word_address sp top k) (bytes_of (reg_of s (get_or registers k 0))) next)) ≡ Went s' [] → IsSaving (k + 1) s'
    saving_more k s s' few reached is h =
        let r : ℕ = get_or registers k 0 in
        let change = puts (word_address sp top k) (bytes_of (reg_of s r)) next in
        let does = next_store k s few is ∙ reached (λ a. Goes (puts a (bytes_of (reg_of s r)) next)) in
        record {
          regs = ap (λ (t : PlainCore). t.regs) (ended map (is_set map s) (after_change change s) s' [] [] h).0.state ∙ is.regs;
          extents = extents-made map s s' (Goes change) [] h ∙ is.extents;
          same =
              is.same ∙ ap (λ l. in_turn map (saves (top - 4 * k) l) next s) (left_is sp top k registers few)
              ∙ ap (λ d. and_then (applied map s d) (in_turn map (saves (top - 4 * k - 4) (drop (suc k) registers)) next)) does
              ∙ ap (λ t. and_then t (in_turn map (saves (top - 4 * k - 4) (drop (suc k) registers)) next)) h
              ∙ (λ j. in_turn map (saves (offset_is sp top k registers few j) (drop (one k j) registers)) next s');
        }

    -- before the first store
    saving_none : IsSaving 0 first
    saving_none = record {
      regs = refl;
      extents = refl;
      same = (let all : top ≡ top - 4 * 0 = omega arith in ap (λ t. in_turn map (saves t registers) next first) all);
    }

    -- where the first store can't be made, all of it is stuck
    pub saves_stuck : (why : Why) → 0 < length registers → IsObstacle first sp top why → in_turn map (saves top registers) next first ≡ Stuck why
    saves_stuck why some is =
        let does : op_does (Store Sw (get_or registers 0 0) 2 (pos (top - 4 * 0 - 4))) first next ≡ Stops why =
        next_store 0 first some saving_none ∙ is (λ a. Goes (puts a (bytes_of (reg_of first (get_or registers 0 0))) next)) in
        saving_none.same ∙ ap (λ l. in_turn map (saves (top - 4 * 0) l) next first) (left_is sp top 0 registers some)
        ∙ ap (λ d. and_then (applied map first d) (in_turn map (saves (top - 4 * 0 - 4) (drop 1 registers)) next)) does

-- ---- loads

-- a register that isn't sp is set, and sp and all of memory stay
pub record IsSet (map : MemMap) (sp r : ℕ) (w : SymWord) (s s' : PlainCore) : Type 0 where
  pub stack : HasStack map sp s'
  pub memory : s'.memory ≡ s.memory
  pub regs : s'.regs ≡ set_reg s.regs r w

pub sets_other : (map : MemMap) (sp r : ℕ) (w : SymWord) (next : Place) (s s' : PlainCore) → r ≢ 2 → HasStack map sp s → applied map s (Goes (sets r w next)) ≡ Went s' [] → IsSet map sp r w s s'
sets_other map sp r w next s s' other stack h =
    let end = (ended map (is_set map s) (after_change (sets r w next) s) s' [] [] h).0 in
    let kept : number_of (reg_of (after_change (sets r w next) s) 2) ≡ Some sp = ap number_of (reads-set_reg_other (number_word 0) undef_word s.regs r w 2 (λ e. other (sym e))) ∙ stack.number in
    let mark = (set_to map sp (after_change (sets r w next) s) kept stack.low stack.high).mark in
    let regs : s'.regs ≡ set_reg s.regs r w = ap (λ (t : PlainCore). t.regs) end.state in
    let memory : s'.memory ≡ s.memory = ap (λ (t : PlainCore). t.memory) end.state ∙ ap (λ n. changed (undefined_below map n) s.memory) mark ∙ stack.settled in
    record {
      stack = record {
        count = ap length regs ∙ length-set_reg s.regs r w ∙ stack.count;
        number = ap (λ l. number_of (reg_of (record s { regs = l }) 2)) regs ∙ kept;
        low = stack.low;
        high = stack.high;
        settled = ap (changed (undefined_below map sp)) memory ∙ stack.settled ∙ sym memory;
      };
      memory = memory;
      regs = regs;
    }

module _ (map : MemMap) (sp top : ℕ) (registers : List ℕ) (next : Place) (first : PlainCore) (small : sp < 2 ^ 32) (known : All IsFrameRegister registers) where
  -- what the next load does
  next_load : (k : ℕ) (s : PlainCore) → k < length registers → IsLoading map sp top k registers next first s
      → op_does (Load Lw (get_or registers k 0) 2 (pos (top - 4 * k - 4))) s next
      ≡ accessing 4 (Some (word_address sp top k)) first (λ a. Goes (sets (get_or registers k 0) (load_word Lw s a) next))
  next_load k s few is =
      let r : ℕ = get_or registers k 0 in
      ap (λ o. load_does Lw r o s next) (address_is (reg_of s 2) sp (top - 4 * k - 4) small is.stack.number ∙ ap Some (address_at sp top k registers few))
      ∙ access_same first s (word_address sp top k) (λ a. Goes (sets r (load_word Lw s a) next)) (ap extents_of is.memory)

  pub loading_more :
      (k : ℕ) (s s' : PlainCore) → k < length registers → IsReached first (word_address sp top k) → IsLoading map sp top k registers next first s
      → applied map s (Goes (sets (get_or registers k 0) (load_word Lw s (word_address sp top k)) next)) ≡ Went s' [] → IsLoading map sp top (k + 1) registers next first s'
  loading_more k s s' few reached is h =
      let r : ℕ = get_or registers k 0 in
      let w = load_word Lw s (word_address sp top k) in
      let fits : IsFrameRegister r = All-get_or IsFrameRegister registers k 0 few known in
      let after = sets_other map sp r w next s s' fits.2 is.stack h in
      let does = next_load k s few is ∙ reached (λ a. Goes (sets r (load_word Lw s a) next)) in
      let same_word : w ≡ load_word Lw first (word_address sp top k) = ap (λ m. load_word Lw (record s { memory = m }) (word_address sp top k)) is.memory in
      let index : k + 1 - 1 ≡ k = omega arith in
      let some : r ≢ 0 = (λ e. (let positive = fits.0 in omega (arith, positive, e))) in
      let set_is : reg_of s' r ≡ w =
      cond-false (eqb r 0) _ _ (ne_eqb r 0 some)
      ∙ ap (λ l. get_or l r undef_word) (after.regs ∙ cond-false (eqb r 0) s.regs (set s.regs r w) (ne_eqb r 0 some))
      ∙ get_or-set_same s.regs r w undef_word (let below = fits.1 in omega (arith, below, is.stack.count)) in
      record {
        stack = after.stack;
        memory = after.memory ∙ is.memory;
        last = λ some. ap (λ i. reg_of s' (get_or registers i 0)) index ∙ set_is ∙ same_word ∙ ap (λ i. load_word Lw first (word_address sp top i)) (sym index);
        same = λ js.
            is.same js ∙ ap (λ l. in_turn map (restores (top - 4 * k) l ++ js) next s) (left_is sp top k registers few)
            ∙ ap (λ d. and_then (applied map s d) (in_turn map (restores (top - 4 * k - 4) (drop (suc k) registers) ++ js) next)) does
            ∙ ap (λ t. and_then t (in_turn map (restores (top - 4 * k - 4) (drop (suc k) registers) ++ js) next)) h
            ∙ (λ j. in_turn map (restores (offset_is sp top k registers few j) (drop (one k j) registers) ++ js) next s');
      }

  module _ (stack : HasStack map sp first) where
    -- before the first load
    pub loading_none : IsLoading map sp top 0 registers next first first
    loading_none = record {
      stack = stack;
      memory = refl;
      last = λ some. absurd (omega (arith, some));
      same = λ js. (let all : top ≡ top - 4 * 0 = omega arith in ap (λ t. in_turn map (restores t registers ++ js) next first) all);
    }

    pub record Loading (k : ℕ) : Type 0 where
      pub state : PlainCore
      pub is : IsLoading map sp top k registers next first state

    -- the first k loads can be made, and then the rest is left
    pub loading_to : (k : ℕ) → k ≤ length registers → ((i : ℕ) → i < k → IsReached first (word_address sp top i)) → Loading k
    loading_to zero few reached = record { state = first; is = loading_none }
    loading_to (suc k) few reached =
        let before = loading_to k (omega (arith, few)) (λ i less. reached i (omega (arith, less))) in
        let s = before.state in
        let within : k < length registers = omega (arith, few) in
        let r : ℕ = get_or registers k 0 in
        let fits : IsFrameRegister r = All-get_or IsFrameRegister registers k 0 within known in
        let change = sets r (load_word Lw s (word_address sp top k)) next in
        let sp_is : number_of (reg_of (after_change change s) 2) ≡ Some sp =
        ap number_of (reads-set_reg_other (number_word 0) undef_word s.regs r (load_word Lw s (word_address sp top k)) 2 (λ e. fits.2 (sym e))) ∙ before.is.stack.number in
        let s' = settled map sp (after_change change s) in
        let made : applied map s (Goes change) ≡ Went s' [] = ends_within map (is_set map s) sp (after_change change s) [] sp_is stack.low stack.high in
        record { state = s'; is = subst (λ m. IsLoading map sp top m registers next first s') (sym (one k)) (loading_more k s s' within (reached k (omega arith)) before.is made) }

    -- where the first load can't be made, all of it is stuck, whatever comes behind
    pub loads_stuck : (why : Why) (js : List Instr) → 0 < length registers → IsObstacle first sp top why → in_turn map (restores top registers ++ js) next first ≡ Stuck why
    loads_stuck why js some is =
        let r : ℕ = get_or registers 0 0 in
        let does : op_does (Load Lw r 2 (pos (top - 4 * 0 - 4))) first next ≡ Stops why =
        next_load 0 first some loading_none ∙ is (λ a. Goes (sets r (load_word Lw first a) next)) in
        loading_none.same js ∙ ap (λ l. in_turn map (restores (top - 4 * 0) l ++ js) next first) (left_is sp top 0 registers some)
        ∙ ap (λ d. and_then (applied map first d) (in_turn map (restores (top - 4 * 0 - 4) (drop 1 registers) ++ js) next)) does
