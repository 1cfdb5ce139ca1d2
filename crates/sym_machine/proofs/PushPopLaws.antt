-- Pushes and pops as a whole: what they come to if all accesses can be made, and the cause if they are stuck, in the order of what
-- they stand for. A pop's loads and its a0 leave a state (Loaded) from which sp is raised and the pop goes on or returns.
use Rattle.std.proofs.Common.{◌≡◌, ℕ, suc, pos, negsuc, ◌+◌, ◌-◌, ◌*◌, ◌%◌, ◌^◌, ◌<◌, ◌≤◌, List, [], ◌∷◌, ◌++◌, length, Some, None, Bool, true, false, cond, refl, sym, ap, ◌∙◌, subst, arith, drop, get_or, eqb, leb, ltb, get_or-set_other, get_or-set_same}
use Rattle.std.specs.Prelude.{All, ◌&&◌}
use Rattle.std.proofs.Math.Seq.{drop-length}
use Rattle.std.proofs.lemmas.Bool.{and_parts, cond-false, leb-true, ne_eqb}
use Rattle.std.proofs.lemmas.List.Elements.{All-drop, All-from_recursion}
use Rattle.zc_base.specs.declared.mem_map.MemMap.{MemMap}
use Rattle.zc_base.specs.declared.place.Place.{Place}
use Rattle.rv_decode.specs.declared.instr.Instr.{Instr}
use Rattle.rv_decode.specs.declared.instr.Instr.TheVariants.{Jalr, WithImm}
use Rattle.rv_decode.specs.declared.instr.ImmOp.TheVariants.{Addi}
use Rattle.rv_decode.specs.declared.instr.LoadOp.TheVariants.{Lw}
use Rattle.rv_decode.specs.Bits.{add32}
use Rattle.rv_decode.specs.Memory.{changed}
use Rattle.sym_machine.specs.Change.{Goes, jump_does, load_word, sets}
use Rattle.sym_machine.specs.Expansions.{restores, saves}
use Rattle.sym_machine.specs.Invariants.Frames.{AreReached, HasStack, IsFrameBytes, IsFrameRegister, IsLoading, IsObstacle, IsZeroed, behind_loads, pop_target, word_address}
use Rattle.sym_machine.specs.State.{PlainCore, reg_of}
use Rattle.sym_machine.specs.Step.{Stuck, Went, after_change, and_then, applied, in_stack, in_turn, is_set, undefined_below}
use Rattle.sym_machine.specs.Words.{code_of, code_word, number_of, number_word, numeric, undef_word}
use Rattle.sym_machine.specs.declared.state.frames.PopEnd.{PopEnd}
use Rattle.sym_machine.specs.declared.state.frames.PopEnd.TheVariants.{GoesOn, Returns, ReturnsZero}
use Rattle.sym_machine.specs.declared.why.Why.{Why}
use Rattle.sym_machine.specs.declared.why.Why.TheVariants.{StackPointer, TargetUnknown}
use Rattle.sym_machine.specs.declared.word.SymByte.{SymByte}
use Rattle.sym_machine.specs.declared.word.SymByte.TheVariants.{Undef}
use Rattle.sym_machine.specs.declared.word.SymWord.{SymWord}
use Rattle.sym_machine.proofs.FrameLaws.{loading_to, obstacle_same, saves_stuck, sets_other}
use Rattle.rv_decode.proofs.WriteLaws.{changed-after}
use Rattle.sym_machine.proofs.StateLaws.{sp_outside}
use Rattle.sym_machine.proofs.StepLaws.{ends_within, extents-made, set_to, settled}
use Rattle.sym_machine.proofs.WordLaws.{number_back}
use Rattle.zc_decode.specs.Lists.{registers_of, saved_registers}
use Rattle.zc_decode.specs.Operands.{IsFrameSize}
use Rattle.zc_decode.proofs.OperandLaws.{frame_list, frame_range, frame_room}

-- ---- sp moves

module _ (map : MemMap) (s : PlainCore) (many : 2 < length s.regs) (to : ℕ) (small : to < 2 ^ 32) (next : Place) where
  sp_set : number_of (reg_of (after_change (sets 2 (number_word to) next) s) 2) ≡ Some to
  sp_set = ap number_of (get_or-set_same s.regs 2 (number_word to) undef_word many) ∙ number_back to small

  -- the state after that
  abbrev moved : PlainCore
  moved = settled map to (after_change (sets 2 (number_word to) next) s)

  move_goes : in_stack map to ≡ true → applied map s (Goes (sets 2 (number_word to) next)) ≡ Went moved []
  move_goes inside =
      let q = and_parts (leb map.stack_low to) (leb to map.stack_high) inside in
      ends_within map (is_set map s) to (after_change (sets 2 (number_word to) next) s) [] sp_set (leb-true map.stack_low to q.0) (leb-true to map.stack_high q.1)

  move_stuck : is_set map s ≡ true → in_stack map to ≡ false → applied map s (Goes (sets 2 (number_word to) next)) ≡ Stuck StackPointer
  move_stuck set out = sp_outside map s many set (number_word to) next to (number_back to small) out

-- ---- pushes

-- sp is lowered by a frame
pub lowered_is : (sp frame : ℕ) → 0 < frame → frame < 2 ^ 31 → (sp + (2 ^ 32 - frame)) % 2 ^ 32 ≡ add32 sp (negsuc (frame - 1))
lowered_is sp frame some small = ap (λ n. (sp + n) % 2 ^ 32) (let same : 2 ^ 32 - frame ≡ 2 ^ 32 - suc (frame - 1) = omega (arith, some) in same)

module _ (map : MemMap) (s : PlainCore) (sp adjust : ℕ) (stack : HasStack map sp s) (registers : List ℕ) (next : Place) where
  abbrev lowered : ℕ
  lowered = add32 sp (negsuc (adjust - 1))

  below : add32 sp (negsuc (adjust - 1)) < 2 ^ 32
  below = omega arith

  many : 2 < length s.regs
  many = omega (arith, stack.count)

  abbrev all : List Instr
  all = WithImm Addi 2 2 (negsuc (adjust - 1)) ∷ saves adjust registers

  lowers : in_turn map all next s ≡ and_then (applied map s (Goes (sets 2 (number_word lowered) next))) (in_turn map (saves adjust registers) next)
  lowers = ap (λ o. and_then (applied map s (Goes (sets 2 (numeric o (λ n. add32 n (negsuc (adjust - 1)))) next))) (in_turn map (saves adjust registers) next)) stack.number

  -- sp would leave the stack
  pub push_outside : in_stack map (add32 sp (negsuc (adjust - 1))) ≡ false → in_turn map (WithImm Addi 2 2 (negsuc (adjust - 1)) ∷ saves adjust registers) next s ≡ Stuck StackPointer
  push_outside out = lowers ∙ ap (λ t. and_then t (in_turn map (saves adjust registers) next)) (move_stuck map s many lowered below next (set_to map sp s stack.number stack.low stack.high).set out)

  -- a store can't be made
  pub push_stuck :
      (why : Why) → in_stack map (add32 sp (negsuc (adjust - 1))) ≡ true → 0 < length registers → IsObstacle s (add32 sp (negsuc (adjust - 1))) adjust why
      → in_turn map (WithImm Addi 2 2 (negsuc (adjust - 1)) ∷ saves adjust registers) next s ≡ Stuck why
  push_stuck why inside some is =
      let s1 = moved map s many lowered below next in
      let h = move_goes map s many lowered below next inside in
      let number : number_of (reg_of s1 2) ≡ Some lowered = sp_set map s many lowered below next in
      lowers ∙ ap (λ t. and_then t (in_turn map (saves adjust registers) next)) h
      ∙ saves_stuck map lowered adjust registers next s1 below number why some
      (obstacle_same s s1 lowered adjust why (extents-made map s s1 (Goes (sets 2 (number_word lowered) next)) [] h) is)

  -- all of it can be made
  pub push_goes :
      (s1 s2 : PlainCore) → applied map s (Goes (sets 2 (number_word (add32 sp (negsuc (adjust - 1)))) next)) ≡ Went s1 [] → in_turn map (saves adjust registers) next s1 ≡ Went s2 []
      → in_turn map (WithImm Addi 2 2 (negsuc (adjust - 1)) ∷ saves adjust registers) next s ≡ Went s2 []
  push_goes s1 s2 h rest = lowers ∙ ap (λ t. and_then t (in_turn map (saves adjust registers) next)) h ∙ rest

-- ---- pops

-- no register of a list is register 0 or sp
pub list_registers : (list : ℕ) → All IsFrameRegister (registers_of list)
list_registers list = by (eqb list 15)
  where
    all_saved : All IsFrameRegister saved_registers
    all_saved = All-from_recursion IsFrameRegister saved_registers ((omega arith, omega arith, λ (e : 27 ≡ 2). omega (arith, e)), ((omega arith, omega arith, λ (e : 26 ≡ 2). omega (arith, e)), ((omega arith, omega arith, λ (e : 25 ≡ 2). omega (arith, e)), ((omega arith, omega arith, λ (e : 24 ≡ 2). omega (arith, e)), ((omega arith, omega arith, λ (e : 23 ≡ 2). omega (arith, e)), ((omega arith, omega arith, λ (e : 22 ≡ 2). omega (arith, e)), ((omega arith, omega arith, λ (e : 21 ≡ 2). omega (arith, e)), ((omega arith, omega arith, λ (e : 20 ≡ 2). omega (arith, e)), ((omega arith, omega arith, λ (e : 19 ≡ 2). omega (arith, e)), ((omega arith, omega arith, λ (e : 18 ≡ 2). omega (arith, e)), ((omega arith, omega arith, λ (e : 9 ≡ 2). omega (arith, e)), ((omega arith, omega arith, λ (e : 8 ≡ 2). omega (arith, e)), ((omega arith, omega arith, λ (e : 1 ≡ 2). omega (arith, e)), tt)))))))))))))

    by : (b : Bool) → All IsFrameRegister (cond b saved_registers (drop (16 - list) saved_registers))
    by true = all_saved
    by false = All-drop IsFrameRegister (16 - list) saved_registers all_saved

-- what is known of a list and its frame, in the code's names for them
pub record IsListed (frame : ℕ) (rs : List ℕ) : Type 0 where
  pub size : IsFrameBytes frame
  pub known : All IsFrameRegister rs
  pub some : 0 < length rs
  pub last : get_or rs (length rs - 1) 0 ≡ 1
  pub room : 4 * length rs ≤ frame

pub is_listed : (list adjust frame : ℕ) (rs : List ℕ) → IsFrameSize list adjust → frame ≡ adjust → rs ≡ registers_of list → IsListed frame rs
is_listed list adjust frame rs size frame_is rs_is =
    let of = frame_list list adjust size in
    let range = frame_range list adjust size in
    let room = frame_room list adjust size in
    record {
      size = record { some = omega (arith, frame_is, range.least); most = omega (arith, frame_is, range.most); words = omega (arith, frame_is, range.whole) };
      known = subst (All IsFrameRegister) (sym rs_is) (list_registers list);
      some = subst (λ (l : List ℕ). 0 < length l) (sym rs_is) of.some;
      last = subst (λ (l : List ℕ). get_or l (length l - 1) 0 ≡ 1) (sym rs_is) of.last;
      room = subst (λ (l : List ℕ). 4 * length l ≤ frame) (sym rs_is) (omega (arith, room, frame_is));
    }

-- what stands behind sp's rise
abbrev pub returns_of : PopEnd → List Instr
returns_of GoesOn = []
returns_of Returns = Jalr 0 1 (pos 0) ∷ []
returns_of ReturnsZero = Jalr 0 1 (pos 0) ∷ []

module _ (map : MemMap) (sp frame : ℕ) (end : PopEnd) (registers : List ℕ) (next : Place) (first : PlainCore) where
  -- the word that ra gets
  abbrev ra_word : SymWord
  ra_word = load_word Lw first (word_address sp frame (length registers - 1))

  -- the state behind the loads and a0
  pub record Loaded (z : PlainCore) : Type 0 where
    pub stack : HasStack map sp z
    pub ra : reg_of z 1 ≡ load_word Lw first (word_address sp frame (length registers - 1))
    pub same : in_turn map (restores frame registers ++ behind_loads end frame) next first ≡ in_turn map (WithImm Addi 2 2 (pos frame) ∷ returns_of end) next z

  module _ (some : 0 < length registers) (last : get_or registers (length registers - 1) 0 ≡ 1) where
    -- all loads are made
    behind : (s : PlainCore) → IsLoading map sp frame (length registers) registers next first s
        → in_turn map (restores frame registers ++ behind_loads end frame) next first ≡ in_turn map (behind_loads end frame) next s
    behind s is =
        is.same (behind_loads end frame)
        ∙ ap (λ l. in_turn map (restores (frame - 4 * length registers) l ++ behind_loads end frame) next s) (drop-length registers)

    ra_is : (s : PlainCore) → IsLoading map sp frame (length registers) registers next first s → reg_of s 1 ≡ ra_word
    ra_is s is = ap (reg_of s) (sym last) ∙ is.last some

  -- and a0 is 0, if the pop returns 0
  zeroed : (e : PopEnd) (s z : PlainCore) (w : SymWord) → HasStack map sp s → reg_of s 1 ≡ w → IsZeroed e map next s z
      → HasStack map sp z × (reg_of z 1 ≡ w) × (in_turn map (behind_loads e frame) next s ≡ in_turn map (WithImm Addi 2 2 (pos frame) ∷ returns_of e) next z)
  zeroed GoesOn s z w stack ra is = (subst (HasStack map sp) (sym is) stack, ap (λ t. reg_of t 1) is ∙ ra, ap (in_turn map (WithImm Addi 2 2 (pos frame) ∷ []) next) (sym is))
  zeroed Returns s z w stack ra is = (subst (HasStack map sp) (sym is) stack, ap (λ t. reg_of t 1) is ∙ ra, ap (in_turn map (WithImm Addi 2 2 (pos frame) ∷ Jalr 0 1 (pos 0) ∷ []) next) (sym is))
  zeroed ReturnsZero s z w stack ra is =
      let after = sets_other map sp 10 (number_word 0) next s z (λ (e : 10 ≡ 2). omega (arith, e)) stack is in (
        after.stack,
        ap (λ l. get_or l 1 undef_word) after.regs ∙ get_or-set_other s.regs 10 1 (number_word 0) undef_word (λ (e : 1 ≡ 10). omega (arith, e)) ∙ ra,
        ap (λ t. and_then t (in_turn map (WithImm Addi 2 2 (pos frame) ∷ Jalr 0 1 (pos 0) ∷ []) next)) is,
      )

  record AZeroed (e : PopEnd) (s : PlainCore) : Type 0 where
    state : PlainCore
    is : IsZeroed e map next s state

  zero_some : (e : PopEnd) (s : PlainCore) → HasStack map sp s → AZeroed e s
  zero_some GoesOn s stack = record { state = s; is = refl }
  zero_some Returns s stack = record { state = s; is = refl }
  zero_some ReturnsZero s stack =
      let change = sets 10 (number_word 0) next in
      let kept : number_of (reg_of (after_change change s) 2) ≡ Some sp = ap number_of (get_or-set_other s.regs 10 2 (number_word 0) undef_word (λ (e : 2 ≡ 10). omega (arith, e))) ∙ stack.number in
      record { state = settled map sp (after_change change s); is = ends_within map (is_set map s) sp (after_change change s) [] kept stack.low stack.high }

  module _ (some : 0 < length registers) (last : get_or registers (length registers - 1) 0 ≡ 1) where
    pub loaded_of : (s z : PlainCore) → IsLoading map sp frame (length registers) registers next first s → IsZeroed end map next s z → Loaded z
    loaded_of s z is done =
        let q = zeroed end s z ra_word is.stack (ra_is some last s is) done in
        record { stack = q.0; ra = q.1; same = behind some last s is ∙ q.2 }

    pub record ALoaded : Type 0 where
      pub state : PlainCore
      pub is : Loaded state

    -- if all loads can be made, there is a state after them
    pub loaded_some : sp < 2 ^ 32 → All IsFrameRegister registers → HasStack map sp first → AreReached first sp frame (length registers) → ALoaded
    loaded_some small known stack reached =
        let at = loading_to map sp frame registers next first small known stack (length registers) (omega arith) reached.each in
        let cleared = zero_some end at.state at.is.stack in
        record { state = cleared.state; is = loaded_of at.state cleared.state at.is cleared.is }

-- ---- behind the loads

module _ (map : MemMap) (sp frame : ℕ) (next : Place) (z : PlainCore) (stack : HasStack map sp z) (some : 0 < frame) where
  abbrev raised : ℕ
  raised = add32 sp (pos frame)

  raised_small : add32 sp (pos frame) < 2 ^ 32
  raised_small = omega arith

  many_z : 2 < length z.regs
  many_z = omega (arith, stack.count)

  abbrev s3 : PlainCore
  s3 = moved map z many_z raised raised_small next

  raise_is : (is : List Instr) → in_turn map (WithImm Addi 2 2 (pos frame) ∷ is) next z ≡ and_then (applied map z (Goes (sets 2 (number_word raised) next))) (in_turn map is next)
  raise_is is =
      ap (λ w. and_then (applied map z (Goes (sets 2 w next))) (in_turn map is next))
      (cond-false (eqb frame 0) (reg_of z 2) (numeric (number_of (reg_of z 2)) (λ n. add32 n (pos frame))) (ne_eqb frame 0 (λ e. omega (arith, e, some)))
      ∙ ap (λ o. numeric o (λ n. add32 n (pos frame))) stack.number)

  module _ (inside : in_stack map (add32 sp (pos frame)) ≡ true) where
    raise_goes : (is : List Instr) → in_turn map (WithImm Addi 2 2 (pos frame) ∷ is) next z ≡ in_turn map is next s3
    raise_goes is = raise_is is ∙ ap (λ t. and_then t (in_turn map is next)) (move_goes map z many_z raised raised_small next inside)

    ra_stays : reg_of s3 1 ≡ reg_of z 1
    ra_stays = get_or-set_other z.regs 2 1 (number_word raised) undef_word (λ (e : 1 ≡ 2). omega (arith, e))

    -- ra has no place's address
    pub return_stuck : (end : PopEnd) → pop_target end (code_of (reg_of z 1)) next ≡ None → in_turn map (WithImm Addi 2 2 (pos frame) ∷ returns_of end) next z ≡ Stuck TargetUnknown
    return_stuck end none = raise_goes (returns_of end) ∙ by end none
      where
        by : (e : PopEnd) → pop_target e (code_of (reg_of z 1)) next ≡ None → in_turn map (returns_of e) next s3 ≡ Stuck TargetUnknown
        by GoesOn h = absurd cc
        by Returns h = ap (λ o. and_then (applied map s3 (jump_does o 0 next)) (in_turn map [] next)) (ap code_of ra_stays ∙ h)
        by ReturnsZero h = ap (λ o. and_then (applied map s3 (jump_does o 0 next)) (in_turn map [] next)) (ap code_of ra_stays ∙ h)

    -- below sp all stays undefined
    settled_again : changed (undefined_below map raised) (changed (undefined_below map raised) z.memory) ≡ changed (undefined_below map raised) z.memory
    settled_again = changed-after (undefined_below map raised) (undefined_below map raised) (undefined_below map raised) twice z.memory
      where
        again : (b : Bool) (c : SymByte) → cond b Undef (cond b Undef c) ≡ cond b Undef c
        again true c = refl
        again false c = refl

        twice : (x : ℕ) (c : SymByte) → undefined_below map raised x (undefined_below map raised x c) ≡ undefined_below map raised x c
        twice x c = again (leb map.stack_low x && ltb x raised) c

    -- ra's place comes next
    return_goes : (to : Place) → code_of (reg_of z 1) ≡ Some to → in_turn map (Jalr 0 1 (pos 0) ∷ []) next s3 ≡ Went (moved map z many_z raised raised_small to) []
    return_goes to is =
        let q = and_parts (leb map.stack_low raised) (leb raised map.stack_high) inside in
        ap (λ o. and_then (applied map s3 (jump_does o 0 next)) (in_turn map [] next)) (ap code_of ra_stays ∙ is)
        ∙ ap (λ t. and_then t (in_turn map [] next))
        (ends_within map (is_set map s3) raised (after_change (sets 0 (code_word next) to) s3) [] (sp_set map z many_z raised raised_small next) (leb-true map.stack_low raised q.0) (leb-true raised map.stack_high q.1))
        ∙ ap (λ m. Went (record (moved map z many_z raised raised_small to) { memory = m }) []) settled_again

    -- sp is raised, and the pop goes on or returns
    pub pop_goes :
        (end : PopEnd) (to : Place) (s4 : PlainCore) → pop_target end (code_of (reg_of z 1)) next ≡ Some to → applied map z (Goes (sets 2 (number_word (add32 sp (pos frame))) to)) ≡ Went s4 []
        → in_turn map (WithImm Addi 2 2 (pos frame) ∷ returns_of end) next z ≡ Went s4 []
    pop_goes end to s4 is h = raise_goes (returns_of end) ∙ by end is ∙ sym (move_goes map z many_z raised raised_small to inside) ∙ h
      where
        by : (e : PopEnd) → pop_target e (code_of (reg_of z 1)) next ≡ Some to → in_turn map (returns_of e) next s3 ≡ Went (moved map z many_z raised raised_small to) []
        by GoesOn i = (let same : next ≡ to = cc in ap (λ n. Went (moved map z many_z raised raised_small n) []) same)
        by Returns i = return_goes to i
        by ReturnsZero i = return_goes to i
