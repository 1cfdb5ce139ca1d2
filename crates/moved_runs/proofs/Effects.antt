-- What items do, under a map of places.
use Rattle.std.proofs.Common.{◌≡◌, ℕ, zero, suc, ◌+◌, ◌%◌, min, length, List, [], ◌∷◌, map, take, Option, Some, None, Bool, true, false, cond, refl, sym, ap, ap₂, ◌∙◌, eqb, ℤ}
use Rattle.std.specs.Prelude.{◌&&◌, ◌||◌, not}
use Rattle.std.specs.Option.{option_map, option_map_or}
use Rattle.zc_base.specs.declared.place.Place.{Place}
use Rattle.rv_decode.specs.declared.instr.Instr.{Instr}
use Rattle.rv_decode.specs.declared.instr.Instr.TheVariants as instr
use Rattle.rv_decode.specs.declared.instr.UpperOp.{UpperOp}
use Rattle.rv_decode.specs.declared.instr.UpperOp.TheVariants.{Lui, Auipc}
use Rattle.rv_decode.specs.declared.instr.ImmOp.TheVariants.{Addi}
use Rattle.rv_decode.specs.declared.instr.LoadOp.{LoadOp}
use Rattle.rv_decode.specs.declared.instr.LoadOp.TheVariants.{Lb, Lh, Lw, Lbu, Lhu}
use Rattle.rv_decode.specs.declared.instr.StoreOp.{StoreOp}
use Rattle.rv_decode.specs.declared.instr.StoreOp.TheVariants.{Sb, Sh, Sw}
use Rattle.rv_decode.specs.declared.instr.BranchOp.{BranchOp}
use Rattle.rv_decode.specs.declared.instr.BranchOp.TheVariants.{Beq, Bne, Blt, Bge, Bltu, Bgeu}
use Rattle.rv_decode.specs.Effect.{load_width, store_width}
use Rattle.rv_decode.specs.Memory.{Region, cell_at, is_data, lies_in}
use Rattle.rv_decode.specs.State.{Read, Write}
use Rattle.block_cut.specs.declared.item.Item.{Item}
use Rattle.block_cut.specs.declared.item.Item.TheVariants as item
use Rattle.sym_machine.specs.declared.arguments.Arguments.{Arguments}
use Rattle.sym_machine.specs.declared.known.Known.{Known}
use Rattle.sym_machine.specs.declared.known.Known.TheVariants as known
use Rattle.sym_machine.specs.declared.why.Why.TheVariants.{ArgumentUnknown, BadAddress, Misaligned, TargetUnknown, UnknownCall}
use Rattle.sym_machine.specs.declared.word.SymByte.{SymByte}
use Rattle.sym_machine.specs.declared.word.SymByte.TheVariants.{Num, Part, Undef}
use Rattle.sym_machine.specs.declared.word.SymWord.{SymWord}
use Rattle.sym_machine.specs.declared.word.Value.TheVariants as value
use Rattle.sym_machine.specs.AddressParts.{high_word, low_sum, pc_low_sum, pc_target}
use Rattle.sym_machine.specs.Change.{Does, Goes, Stops, accessing, arguments_of, base_register, branch_does, by_sum, call_does, call_to, continues, exit_does, in_memory, is_buffer, is_output, item_does, jump_does, load_does, load_word, numbers_at, op_does, puts, read_does, sets, store_does, stored_bytes, then_number, upper_does, with_buffer, write_does}
use Rattle.sym_machine.specs.Conditions.{condition, equal_words, known_of, numeric_condition}
use Rattle.sym_machine.specs.Events.{Numeric}
use Rattle.sym_machine.specs.Program.{Program}
use Rattle.sym_machine.specs.State.{PlainCore, cell_of, reg_of}
use Rattle.sym_machine.specs.Words.{code_of, code_word, imm_word, number_of, number_word, reg_word, sign_of, sum_word, undef_word, value_word}
use Rattle.moved_runs.specs.Moved.{moved_at, moved_byte, moved_does, moved_item, moved_memory, moved_target, moved_word}
use Rattle.moved_runs.specs.Named.{IsNamedWord}
use Rattle.moved_runs.specs.Moves.{ItemLeads, Moves, PcMoves}
use Rattle.moved_runs.proofs.Words.{KnownNamed, code-moved, high-moved, imm-moved, known-moved, known-named, low-moved, low-named, moved_known, number-moved, pc-low-moved, pc-low-named, reg-word-moved, same-moved, sign-moved, sum-moved, sum-named, upper-moved}
use Rattle.moved_runs.proofs.States.{NamedCore, cell-moved, extents-moved, memory-moved, reg-moved, reg-named}

numbers-stay : (M : Place → Place) (ns : List ℕ) → map (moved_byte M) (map Num ns) ≡ map Num ns
numbers-stay M [] = refl
numbers-stay M (n ∷ ns) = ap (λ t. Num n ∷ t) (numbers-stay M ns)

module _ (K V : Place → Type 0) (M : Place → Place) (p p' : Program) (law : Moves K V M p p') where
  -- ---- branches

  places-moved : (q r : Place) → K q → K r → equal_words p' (known.Code (M q)) (known.Code (M r)) ≡ equal_words p (known.Code q) (known.Code r)
  places-moved q r kq kr =
      let a = same-moved M K law.apart q r kq kr in
      let b = law.solid q kq in
      let c = law.solid r kr in
      λ i. cond (a i) (Some true) (cond (b i && c i) (Some false) None)

  equal-moved : (x y : Known) → KnownNamed M K law.apart x → KnownNamed M K law.apart y → equal_words p' (moved_known M x) (moved_known M y) ≡ equal_words p x y
  equal-moved (known.Number m) (known.Number n) a b = refl
  equal-moved (known.Number m) (known.Code q) a b = refl
  equal-moved (known.Number m) known.Unknown a b = refl
  equal-moved (known.Code q) (known.Number n) a b = refl
  equal-moved (known.Code q) (known.Code r) a b = places-moved q r a b
  equal-moved (known.Code q) known.Unknown a b = refl
  equal-moved known.Unknown (known.Number n) a b = refl
  equal-moved known.Unknown (known.Code q) a b = refl
  equal-moved known.Unknown known.Unknown a b = refl

  words-moved : (a b : SymWord) → IsNamedWord K a → IsNamedWord K b → equal_words p' (known_of (moved_word M a)) (known_of (moved_word M b)) ≡ equal_words p (known_of a) (known_of b)
  words-moved a b na nb =
      ap₂ (equal_words p') (known-moved M K law.apart a na) (known-moved M K law.apart b nb)
      ∙ equal-moved (known_of a) (known_of b) (known-named M K law.apart a na) (known-named M K law.apart b nb)

  condition-moved : (op : BranchOp) (a b : SymWord) → IsNamedWord K a → IsNamedWord K b → condition p' op (moved_word M a) (moved_word M b) ≡ condition p op a b
  condition-moved Beq a b na nb = words-moved a b na nb
  condition-moved Bne a b na nb = ap (option_map not) (words-moved a b na nb)
  condition-moved Blt a b na nb = ap₂ (numeric_condition Blt) (number-moved M a) (number-moved M b)
  condition-moved Bge a b na nb = ap₂ (numeric_condition Bge) (number-moved M a) (number-moved M b)
  condition-moved Bltu a b na nb = ap₂ (numeric_condition Bltu) (number-moved M a) (number-moved M b)
  condition-moved Bgeu a b na nb = ap₂ (numeric_condition Bgeu) (number-moved M a) (number-moved M b)

module _ (K V : Place → Type 0) (M : Place → Place) (p p' : Program) (law : Moves K V M p p') (from : Place) where
  branch-moved : (o : Option Bool) (to next : Place) → branch_does o (M to) (M next) ≡ moved_does M from (branch_does o to next)
  branch-moved None to next = refl
  branch-moved (Some true) to next = refl
  branch-moved (Some false) to next = refl

  -- ---- memory

  in-moved : (s : PlainCore) (a n : ℕ) → in_memory (moved_at M from s) a n ≡ in_memory s a n
  in-moved s a n = ap (λ es. lies_in is_data es a n) (extents-moved M s.memory)

  accessing-moved : (n : ℕ) (o : Option ℕ) (s : PlainCore) (go' go : ℕ → Does) → ((a : ℕ) → go' a ≡ moved_does M from (go a)) → accessing n o (moved_at M from s) go' ≡ moved_does M from (accessing n o s go)
  accessing-moved n None s go' go e = refl
  accessing-moved n (Some a) s go' go e = ap (λ t. cond (eqb (a % n) 0) (cond t (go' a) (Stops BadAddress)) (Stops Misaligned)) (in-moved s a n) ∙ both (eqb (a % n) 0) (in_memory s a n)
    where
      both : (b c : Bool) → cond b (cond c (go' a) (Stops BadAddress)) (Stops Misaligned) ≡ moved_does M from (cond b (cond c (go a) (Stops BadAddress)) (Stops Misaligned))
      both true true = e a
      both true false = refl
      both false c = refl

  load-word-moved : (op : LoadOp) (s : PlainCore) (a : ℕ) → load_word op (moved_at M from s) a ≡ moved_word M (load_word op s a)
  load-word-moved Lb s a = let x = cell-moved M from s a in let z = ap sign_of x ∙ sign-moved M (cell_of s a) in λ i. record { b0 = x i; b1 = z i; b2 = z i; b3 = z i }
  load-word-moved Lh s a = let x = cell-moved M from s a in let y = cell-moved M from s (a + 1) in let z = ap sign_of y ∙ sign-moved M (cell_of s (a + 1)) in λ i. record { b0 = x i; b1 = y i; b2 = z i; b3 = z i }
  load-word-moved Lw s a = let x = cell-moved M from s a in let y = cell-moved M from s (a + 1) in let z = cell-moved M from s (a + 2) in let w = cell-moved M from s (a + 3) in λ i. record { b0 = x i; b1 = y i; b2 = z i; b3 = w i }
  load-word-moved Lbu s a = let x = cell-moved M from s a in λ i. record { b0 = x i; b1 = Num 0; b2 = Num 0; b3 = Num 0 }
  load-word-moved Lhu s a = let x = cell-moved M from s a in let y = cell-moved M from s (a + 1) in λ i. record { b0 = x i; b1 = y i; b2 = Num 0; b3 = Num 0 }

  load-moved : (op : LoadOp) (rd : ℕ) (o : Option ℕ) (s : PlainCore) (next : Place) → load_does op rd o (moved_at M from s) (M next) ≡ moved_does M from (load_does op rd o s next)
  load-moved op rd o s next =
      accessing-moved (load_width op) o s (λ a. Goes (sets rd (load_word op (moved_at M from s) a) (M next))) (λ a. Goes (sets rd (load_word op s a) next))
      (λ a. ap (λ w. Goes (sets rd w (M next))) (load-word-moved op s a))

  stored-moved : (op : StoreOp) (w : SymWord) → stored_bytes op (moved_word M w) ≡ map (moved_byte M) (stored_bytes op w)
  stored-moved Sb w = refl
  stored-moved Sh w = refl
  stored-moved Sw w = refl

  store-moved : (op : StoreOp) (w : SymWord) (o : Option ℕ) (s : PlainCore) (next : Place) → store_does op (moved_word M w) o (moved_at M from s) (M next) ≡ moved_does M from (store_does op w o s next)
  store-moved op w o s next =
      accessing-moved (store_width op) o s (λ a. Goes (puts a (stored_bytes op (moved_word M w)) (M next))) (λ a. Goes (puts a (stored_bytes op w) next))
      (λ a. ap (λ b. Goes (puts a b (M next))) (stored-moved op w))

  -- ---- sums

  jump-moved : (o : Option Place) (rd : ℕ) (next : Place) → jump_does (option_map M o) rd (M next) ≡ moved_does M from (jump_does o rd next)
  jump-moved None rd next = refl
  jump-moved (Some q) rd next = refl

  sum-does : (i : Instr) (w : SymWord) (s : PlainCore) (next : Place) → IsNamedWord K w → by_sum i (moved_word M w) (moved_at M from s) (M next) ≡ moved_does M from (by_sum i w s next)
  sum-does (instr.Jalr rd base imm) w s next n = ap (λ o. jump_does o rd (M next)) (code-moved M K law.apart w n) ∙ jump-moved (code_of w) rd next
  sum-does (instr.Load op rd base imm) w s next n = ap (λ o. load_does op rd o (moved_at M from s) (M next)) (number-moved M w) ∙ load-moved op rd (number_of w) s next
  sum-does (instr.Store op source base imm) w s next n =
      ap₂ (λ v o. store_does op v o (moved_at M from s) (M next)) (reg-moved M from s source) (number-moved M w) ∙ store-moved op (reg_of s source) (number_of w) s next
  sum-does (instr.WithImm Addi rd first imm) w s next n = refl
  sum-does i w s next n = refl

  own-sum : (i : Instr) (base : ℕ) (imm : ℤ) (s : PlainCore) (next : Place) → NamedCore K s → by_sum i (sum_word (reg_of (moved_at M from s) base) imm) (moved_at M from s) (M next) ≡ moved_does M from (by_sum i (sum_word (reg_of s base) imm) s next)
  own-sum i base imm s next n =
      ap (λ w. by_sum i w (moved_at M from s) (M next)) (ap (λ w. sum_word w imm) (reg-moved M from s base) ∙ sum-moved M (reg_of s base) imm)
      ∙ sum-does i (sum_word (reg_of s base) imm) s next (sum-named K (reg_of s base) imm (reg-named K s base n))

  -- ---- environment calls

  number-reg : (s : PlainCore) (r : ℕ) → number_of (reg_of (moved_at M from s) r) ≡ number_of (reg_of s r)
  number-reg s r = ap number_of (reg-moved M from s r) ∙ number-moved M (reg_of s r)

  exit-moved : (o : Option ℕ) (at : Place) → exit_does o from ≡ moved_does M from (exit_does o at)
  exit-moved None at = refl
  exit-moved (Some n) at = refl

  abbrev buffered : (ℕ → Bool) → Option Arguments → PlainCore → (Arguments → Does) → Does
  buffered known o s go = option_map_or (λ c. cond (known c.a0) (cond (is_buffer s c) (go c) (Stops BadAddress)) (Stops UnknownCall)) o (Stops ArgumentUnknown)

  buffered-moved : (test : ℕ → Bool) (o : Option Arguments) (s : PlainCore) (go' go : Arguments → Does) → ((c : Arguments) → go' c ≡ moved_does M from (go c)) → buffered test o (moved_at M from s) go' ≡ moved_does M from (buffered test o s go)
  buffered-moved test None s go' go e = refl
  buffered-moved test (Some c) s go' go e =
      ap (λ b. cond (test c.a0) (cond (eqb c.len 0 || b) (go' c) (Stops BadAddress)) (Stops UnknownCall)) (in-moved s c.at c.len)
      ∙ both (test c.a0) (is_buffer s c)
    where
      both : (a b : Bool) → cond a (cond b (go' c) (Stops BadAddress)) (Stops UnknownCall) ≡ moved_does M from (cond a (cond b (go c) (Stops BadAddress)) (Stops UnknownCall))
      both true true = e c
      both true false = refl
      both false b = refl

  buffer-moved : (test : ℕ → Bool) (s : PlainCore) (go' go : Arguments → Does) → ((c : Arguments) → go' c ≡ moved_does M from (go c)) → with_buffer test (moved_at M from s) go' ≡ moved_does M from (with_buffer test s go)
  buffer-moved test s go' go e =
      let a = number-reg s 10 in
      let b = number-reg s 11 in
      let c = number-reg s 12 in
      (λ i. buffered test (arguments_of (a i) (b i) (c i)) (moved_at M from s) go')
      ∙ buffered-moved test (arguments_of (number_of (reg_of s 10)) (number_of (reg_of s 11)) (number_of (reg_of s 12))) s go' go e

  read-moved : (s : PlainCore) (next : Place) (c : Arguments) → read_does (moved_at M from s) (M next) c ≡ moved_does M from (read_does s next c)
  read-moved s next c =
      let bytes = take ((min c.len (length s.input))) s.input in
      ap (λ cells. Goes (record (continues (M next)) { writes = (10, number_word ((min c.len (length s.input)))) ∷ []; stores = (c.at, cells) ∷ []; taken = min c.len (length s.input); events = Numeric (Read bytes) ∷ [] })) (sym (numbers-stay M bytes))

  then-moved : (b : SymByte) (o : Option (List ℕ)) → then_number (moved_byte M b) o ≡ then_number b o
  then-moved (Num n) None = refl
  then-moved (Num n) (Some bs) = refl
  then-moved (Part v i) o = refl
  then-moved Undef o = refl

  numbers-at-moved : (memory : List (Region SymByte)) (a n : ℕ) → numbers_at (moved_memory M memory) a n ≡ numbers_at memory a n
  numbers-at-moved memory a zero = refl
  numbers-at-moved memory a (suc n) =
      ap₂ (λ b o. then_number b o) (memory-moved M memory a) (numbers-at-moved memory (suc a) n)
      ∙ then-moved (cell_at Undef memory a) (numbers_at memory (suc a) n)

  abbrev output_does : Option (List ℕ) → Place → Arguments → Does
  output_does o next c = option_map_or (λ bytes. Goes (record (sets 10 (number_word c.len) next) { events = Numeric (Write c.a0 bytes) ∷ [] })) o (Stops ArgumentUnknown)

  output-moved : (o : Option (List ℕ)) (next : Place) (c : Arguments) → output_does o (M next) c ≡ moved_does M from (output_does o next c)
  output-moved None next c = refl
  output-moved (Some bytes) next c = refl

  write-moved : (s : PlainCore) (next : Place) (c : Arguments) → write_does (moved_at M from s) (M next) c ≡ moved_does M from (write_does s next c)
  write-moved s next c = ap (λ o. output_does o (M next) c) (numbers-at-moved s.memory c.at c.len) ∙ output-moved (numbers_at s.memory c.at c.len) next c

  call-moved : (o : Option ℕ) (s : PlainCore) (next : Place) → call_does o (moved_at M from s) (M next) ≡ moved_does M from (call_does o s next)
  call-moved None s next = refl
  call-moved (Some a7) s next =
      let x = ap (λ o. exit_does o from) (number-reg s 10) ∙ exit-moved (number_of (reg_of s 10)) s.place in
      let y = buffer-moved (λ a0. eqb a0 0) s (read_does (moved_at M from s) (M next)) (read_does s next) (read-moved s next) in
      let z = buffer-moved is_output s (write_does (moved_at M from s) (M next)) (write_does s next) (write-moved s next) in
      (λ i. cond (eqb a7 93) (x i) (cond (eqb a7 63) (y i) (cond (eqb a7 64) (z i) (Stops UnknownCall))))
      ∙ three (eqb a7 93) (eqb a7 63) (eqb a7 64) (exit_does (number_of (reg_of s 10)) s.place) (with_buffer (λ a0. eqb a0 0) s (read_does s next)) (with_buffer is_output s (write_does s next))
    where
      three : (a b c : Bool) (x y z : Does) → cond a (moved_does M from x) (cond b (moved_does M from y) (cond c (moved_does M from z) (Stops UnknownCall))) ≡ moved_does M from (cond a x (cond b y (cond c z (Stops UnknownCall))))
      three true b c x y z = refl
      three false true c x y z = refl
      three false false true x y z = refl
      three false false false x y z = refl

  -- ---- items

  -- an operation without relocation does the same wherever it stands
  pub op-moved : (i : Instr) (s : PlainCore) (next : Place) → NamedCore K s → op_does i (moved_at M from s) (M next) ≡ moved_does M from (op_does i s next)
  op-moved (instr.Upper op rd imm) s next n = ap (λ w. Goes (sets rd w (M next))) (upper-moved M op imm)
  op-moved (instr.Jal rd d) s next n = refl
  op-moved (instr.Jalr rd base imm) s next n = own-sum (instr.Jalr rd base imm) base imm s next n
  op-moved (instr.Branch op a b d) s next n = refl
  op-moved (instr.Load op rd base imm) s next n = own-sum (instr.Load op rd base imm) base imm s next n
  op-moved (instr.Store op source base imm) s next n = own-sum (instr.Store op source base imm) base imm s next n
  op-moved (instr.WithImm op rd first imm) s next n =
      ap (λ w. Goes (sets rd w (M next))) (ap (λ w. imm_word op w imm) (reg-moved M from s first) ∙ imm-moved M K law.apart op (reg_of s first) imm (reg-named K s first n))
  op-moved (instr.WithReg op rd a b) s next n =
      ap (λ w. Goes (sets rd w (M next))) (ap₂ (reg_word op a b) (reg-moved M from s a) (reg-moved M from s b) ∙ reg-word-moved M K law.apart op a b (reg_of s a) (reg_of s b) (reg-named K s a n) (reg-named K s b n))
  op-moved (instr.Fence rest) s next n = refl
  op-moved instr.Ecall s next n = ap (λ o. call_does o (moved_at M from s) (M next)) (number-reg s 17) ∙ call-moved (number_of (reg_of s 17)) s next
  op-moved instr.Ebreak s next n = refl
  op-moved (instr.Csrrw rd source) s next n = refl

  upper-does-moved : (op : UpperOp) (i : Instr) (w : SymWord) (next : Place) → upper_does op i (moved_word M w) (M next) ≡ moved_does M from (upper_does op i w next)
  upper-does-moved Lui (instr.Upper Lui rd imm) w next = refl
  upper-does-moved Lui (instr.Upper Auipc rd imm) w next = refl
  upper-does-moved Auipc (instr.Upper Lui rd imm) w next = refl
  upper-does-moved Auipc (instr.Upper Auipc rd imm) w next = refl
  upper-does-moved op i w next = refl

  call-to-moved : (rd temp : ℕ) (to next : Place) → call_to rd temp (M to) (M next) ≡ moved_does M from (call_to rd temp to next)
  call-to-moved rd temp to next = by (eqb temp 0)
    where
      by : (b : Bool) → cond b (Stops TargetUnknown) (Goes (record (continues (M to)) { writes = (temp, undef_word) ∷ (rd, code_word (M next)) ∷ [] })) ≡ moved_does M from (cond b (Stops TargetUnknown) (Goes (record (continues to) { writes = (temp, undef_word) ∷ (rd, code_word next) ∷ [] })))
      by true = refl
      by false = refl

module _ (K V : Place → Type 0) (M : Place → Place) (p p' : Program) (law : Moves K V M p p') where
  -- each item, at its own place moved
  pub item-moved : (i : Item) (s : PlainCore) (next : Place) → NamedCore K s → ItemLeads K V p s.place i → PcMoves M p p' i → item_does p' (Some (moved_item M i)) (moved_at M (M s.place) s) (M next) ≡ moved_does M (M s.place) (item_does p (Some i) s next)
  item-moved (item.Op i) s next n l pc = op-moved K V M p p' law (M s.place) i s next n
  item-moved (item.Hi i t) s next n l pc = ap (λ w. upper_does Lui i w (M next)) (high-moved M t) ∙ upper-does-moved K V M p p' law (M s.place) Lui i (high_word t) next
  item-moved (item.Lo i t) s next n l pc =
      let named = reg-named K s (base_register i) n in
      ap (λ w. by_sum i w (moved_at M (M s.place) s) (M next)) (ap (low_sum (moved_target M t)) (reg-moved M (M s.place) s (base_register i)) ∙ low-moved M K law.apart t (reg_of s (base_register i)) l.0 named)
      ∙ sum-does K V M p p' law (M s.place) i (low_sum t (reg_of s (base_register i))) s next (low-named K t (reg_of s (base_register i)) l.0 named)
  item-moved (item.PcHi i t) s next n l pc = upper-does-moved K V M p p' law (M s.place) Auipc i (value_word (value.PcHi s.place)) next
  item-moved (item.PcLo i q) s next n l pc =
      let named = reg-named K s (base_register i) n in
      ap (λ w. by_sum i w (moved_at M (M s.place) s) (M next))
      (ap (pc_low_sum (M q) (pc_target (p'.item (M q)))) (reg-moved M (M s.place) s (base_register i))
      ∙ pc-low-moved M K law.apart q (pc_target (p.item q)) (pc_target (p'.item (M q))) (reg_of s (base_register i)) l.0 pc named)
      ∙ sum-does K V M p p' law (M s.place) i (pc_low_sum q (pc_target (p.item q)) (reg_of s (base_register i))) s next (pc-low-named K q (pc_target (p.item q)) (reg_of s (base_register i)) l.1)
  item-moved (item.Branch op first second to) s next n l pc =
      ap (λ o. branch_does o (M to) (M next))
      (ap₂ (condition p' op) (reg-moved M (M s.place) s first) (reg-moved M (M s.place) s second) ∙ condition-moved K V M p p' law op (reg_of s first) (reg_of s second) (reg-named K s first n) (reg-named K s second n))
      ∙ branch-moved K V M p p' law (M s.place) (condition p op (reg_of s first) (reg_of s second)) to next
  item-moved (item.Jump rd to) s next n l pc = refl
  item-moved (item.Call rd temp to) s next n l pc = call-to-moved K V M p p' law (M s.place) rd temp to next
  item-moved (item.Align a) s next n l pc = refl
  item-moved (item.Word t) s next n l pc = refl
  item-moved (item.Raw w) s next n l pc = refl
  item-moved (item.RawShort h) s next n l pc = refl
  item-moved (item.RawPair v w) s next n l pc = refl
