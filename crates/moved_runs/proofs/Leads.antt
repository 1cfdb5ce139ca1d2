-- The changes that items make name places that are named, and lead to places that are visited.
use Rattle.std.proofs.Common.{◌≡◌, ℕ, ◌%◌, min, length, List, [], ◌∷◌, map, take, Option, Some, None, Bool, true, false, cond, refl, eqb, ℤ, inl, inr}
use Rattle.std.specs.Prelude.{◌⊎◌, ◌+◌, All}
use Rattle.std.specs.Option.{option_map_or}
use Rattle.std.proofs.lemmas.List.Elements.{All-cons, All-nil}
use Rattle.zc_base.specs.declared.place.Place.{Place}
use Rattle.rv_decode.specs.declared.instr.Instr.{Instr}
use Rattle.rv_decode.specs.declared.instr.Instr.TheVariants as instr
use Rattle.rv_decode.specs.declared.instr.UpperOp.{UpperOp}
use Rattle.rv_decode.specs.declared.instr.UpperOp.TheVariants.{Lui, Auipc}
use Rattle.rv_decode.specs.declared.instr.ImmOp.TheVariants.{Addi}
use Rattle.rv_decode.specs.declared.instr.LoadOp.{LoadOp}
use Rattle.rv_decode.specs.declared.instr.LoadOp.TheVariants.{Lb, Lh, Lw, Lbu, Lhu}
use Rattle.rv_decode.specs.declared.instr.StoreOp.{StoreOp}
use Rattle.rv_decode.specs.declared.instr.StoreOp.TheVariants.{Sb, Sh, Sw}
use Rattle.rv_decode.specs.Effect.{load_width, store_width}
use Rattle.rv_decode.specs.State.{Write}
use Rattle.block_cut.specs.declared.item.Item.{Item}
use Rattle.block_cut.specs.declared.item.Item.TheVariants as item
use Rattle.sym_machine.specs.declared.arguments.Arguments.{Arguments}
use Rattle.sym_machine.specs.declared.why.Why.TheVariants.{ArgumentUnknown, BadAddress, Misaligned, TargetUnknown, UnknownCall}
use Rattle.sym_machine.specs.declared.word.SymByte.{SymByte}
use Rattle.sym_machine.specs.declared.word.SymByte.TheVariants.{Num}
use Rattle.sym_machine.specs.declared.word.SymWord.{SymWord}
use Rattle.sym_machine.specs.declared.word.Value.TheVariants as value
use Rattle.sym_machine.specs.AddressParts.{bytes_of, high_word, low_sum, pc_low_sum, pc_target}
use Rattle.sym_machine.specs.Change.{Change, Does, Goes, Stops, accessing, arguments_of, base_register, branch_does, by_sum, call_does, call_to, continues, exit_does, in_memory, is_buffer, is_output, item_does, jump_does, load_word, numbers_at, op_does, puts, read_does, sets, stored_bytes, upper_does, with_buffer, write_does}
use Rattle.sym_machine.specs.Conditions.{condition}
use Rattle.sym_machine.specs.Events.{Numeric}
use Rattle.sym_machine.specs.Program.{Program}
use Rattle.sym_machine.specs.State.{PlainCore, cell_of, reg_of}
use Rattle.sym_machine.specs.Words.{code_of, code_word, imm_word, number_of, number_word, reg_word, sum_word, undef_word, upper_word, value_word}
use Rattle.moved_runs.specs.Named.{IsNamedByte, IsNamedWord}
use Rattle.moved_runs.specs.Moves.{IsNamedLink, ItemLeads, OpLeads}
use Rattle.moved_runs.proofs.Words.{code-named, high-named, imm-named, low-named, number-named, pc-low-named, reg-word-named, sign-named, sum-named, undef-named, upper-named, value-named}
use Rattle.moved_runs.proofs.States.{NamedCore, cell-named, reg-named}

-- a word for a register is named, unless it is for register 0
abbrev pub WritesNamed : (Place → Type 0) → List (ℕ × SymWord) → Type 0
WritesNamed K [] = Unit {0}
WritesNamed K (w ∷ ws) = ((w.0 ≡ 0) ⊎ IsNamedWord K w.1) × WritesNamed K ws

abbrev pub StoresNamed : (Place → Type 0) → List (ℕ × List SymByte) → Type 0
StoresNamed K [] = Unit {0}
StoresNamed K (w ∷ ws) = All (IsNamedByte K) w.1 × StoresNamed K ws

-- a step that began at a place; an exit stays there
pub record Leading (K V : Place → Type 0) (at : Place) (c : Change) : Type 0 where
  pub stays : (c.exit ≡ None) ⊎ (c.place ≡ at)
  pub writes : WritesNamed K c.writes
  pub stores : StoresNamed K c.stores
  pub place : c.exit ≡ None → V c.place

abbrev pub DoesLead : (Place → Type 0) → (Place → Type 0) → Place → Does → Type 0
DoesLead K V at (Goes c) = Leading K V at c
DoesLead K V at (Stops why) = Unit {0}

numbers-named : (K : Place → Type 0) (ns : List ℕ) → All (IsNamedByte K) (map Num ns)
numbers-named K [] = All-nil (IsNamedByte K)
numbers-named K (n ∷ ns) = All-cons (IsNamedByte K) (Num n) (map Num ns) tt (numbers-named K ns)

module _ (K V : Place → Type 0) (visits : (q : Place) → K q → V q) (from : Place) where
  sets-lead : (rd : ℕ) (w : SymWord) (next : Place) → ((rd ≡ 0) ⊎ IsNamedWord K w) → V next → DoesLead K V from (Goes (sets rd w next))
  sets-lead rd w next n v = record { stays = inl refl; writes = (n, tt); stores = tt; place = λ _. v }

  puts-lead : (a : ℕ) (bytes : List SymByte) (next : Place) → All (IsNamedByte K) bytes → V next → DoesLead K V from (Goes (puts a bytes next))
  puts-lead a bytes next n v = record { stays = inl refl; writes = tt; stores = (n, tt); place = λ _. v }

  on-lead : (next : Place) → V next → DoesLead K V from (Goes (continues next))
  on-lead next v = record { stays = inl refl; writes = tt; stores = tt; place = λ _. v }

  link-named : (rd : ℕ) (next : Place) → IsNamedLink K rd next → (rd ≡ 0) ⊎ IsNamedWord K (code_word next)
  link-named rd next (inl e) = inl e
  link-named rd next (inr k) = inr (value-named K (value.Code next) k)

  bytes-named : (w : SymWord) → IsNamedWord K w → All (IsNamedByte K) (bytes_of w)
  bytes-named w n = All-cons (IsNamedByte K) w.b0 (w.b1 ∷ w.b2 ∷ w.b3 ∷ []) n.b0 (All-cons (IsNamedByte K) w.b1 (w.b2 ∷ w.b3 ∷ []) n.b1 (All-cons (IsNamedByte K) w.b2 (w.b3 ∷ []) n.b2 (All-cons (IsNamedByte K) w.b3 [] n.b3 (All-nil (IsNamedByte K)))))

  stored-named : (op : StoreOp) (w : SymWord) → IsNamedWord K w → All (IsNamedByte K) (stored_bytes op w)
  stored-named Sb w n = All-cons (IsNamedByte K) w.b0 [] n.b0 (All-nil (IsNamedByte K))
  stored-named Sh w n = All-cons (IsNamedByte K) w.b0 (w.b1 ∷ []) n.b0 (All-cons (IsNamedByte K) w.b1 [] n.b1 (All-nil (IsNamedByte K)))
  stored-named Sw w n = bytes-named w n

  load-word-named : (op : LoadOp) (s : PlainCore) (a : ℕ) → NamedCore K s → IsNamedWord K (load_word op s a)
  load-word-named Lb s a n = let z = sign-named K (cell_of s a) in record { b0 = cell-named K s a n; b1 = z; b2 = z; b3 = z }
  load-word-named Lh s a n = let z = sign-named K (cell_of s (a + 1)) in record { b0 = cell-named K s a n; b1 = cell-named K s (a + 1) n; b2 = z; b3 = z }
  load-word-named Lw s a n = record { b0 = cell-named K s a n; b1 = cell-named K s (a + 1) n; b2 = cell-named K s (a + 2) n; b3 = cell-named K s (a + 3) n }
  load-word-named Lbu s a n = record { b0 = cell-named K s a n; b1 = tt; b2 = tt; b3 = tt }
  load-word-named Lhu s a n = record { b0 = cell-named K s a n; b1 = cell-named K s (a + 1) n; b2 = tt; b3 = tt }

  accessing-lead : (n : ℕ) (o : Option ℕ) (s : PlainCore) (go : ℕ → Does) → ((a : ℕ) → DoesLead K V from (go a)) → DoesLead K V from (accessing n o s go)
  accessing-lead n None s go e = tt
  accessing-lead n (Some a) s go e = both (eqb (a % n) 0) (in_memory s a n)
    where
      both : (b c : Bool) → DoesLead K V from (cond b (cond c (go a) (Stops BadAddress)) (Stops Misaligned))
      both true true = e a
      both true false = tt
      both false c = tt

  jump-lead : (o : Option Place) (rd : ℕ) (next : Place) → ((q : Place) → o ≡ Some q → V q) → IsNamedLink K rd next → DoesLead K V from (jump_does o rd next)
  jump-lead None rd next named l = tt
  jump-lead (Some q) rd next named l = sets-lead rd (code_word next) q (link-named rd next l) (named q refl)

  sum-lead : (i : Instr) (w : SymWord) (s : PlainCore) (next : Place) → IsNamedWord K w → NamedCore K s → V next → OpLeads K i next → DoesLead K V from (by_sum i w s next)
  sum-lead (instr.Jalr rd base imm) w s next n c v l = jump-lead (code_of w) rd next (λ q e. visits q (code-named (λ x. x) K (λ a b ka kb e. e) w q n e)) l
  sum-lead (instr.Load op rd base imm) w s next n c v l = accessing-lead (load_width op) (number_of w) s (λ a. Goes (sets rd (load_word op s a) next)) (λ a. sets-lead rd (load_word op s a) next (inr (load-word-named op s a c)) v)
  sum-lead (instr.Store op source base imm) w s next n c v l = accessing-lead (store_width op) (number_of w) s (λ a. Goes (puts a (stored_bytes op (reg_of s source)) next)) (λ a. puts-lead a (stored_bytes op (reg_of s source)) next (stored-named op (reg_of s source) (reg-named K s source c)) v)
  sum-lead (instr.WithImm Addi rd first imm) w s next n c v l = sets-lead rd w next (inr n) v
  sum-lead i w s next n c v l = tt

  own-lead : (i : Instr) (base : ℕ) (imm : ℤ) (s : PlainCore) (next : Place) → NamedCore K s → V next → OpLeads K i next → DoesLead K V from (by_sum i (sum_word (reg_of s base) imm) s next)
  own-lead i base imm s next c v l = sum-lead i (sum_word (reg_of s base) imm) s next (sum-named K (reg_of s base) imm (reg-named K s base c)) c v l

  exit-lead : (o : Option ℕ) (at : Place) → at ≡ from → DoesLead K V from (exit_does o at)
  exit-lead None at e = tt
  exit-lead (Some n) at here = record { stays = inr here; writes = tt; stores = tt; place = λ e. absurd cc }

  buffered-lead : (known : ℕ → Bool) (o : Option Arguments) (s : PlainCore) (go : Arguments → Does) → ((c : Arguments) → DoesLead K V from (go c)) → DoesLead K V from (option_map_or (λ c. cond (known c.a0) (cond (is_buffer s c) (go c) (Stops BadAddress)) (Stops UnknownCall)) o (Stops ArgumentUnknown))
  buffered-lead known None s go e = tt
  buffered-lead known (Some c) s go e = both (known c.a0) (is_buffer s c)
    where
      both : (a b : Bool) → DoesLead K V from (cond a (cond b (go c) (Stops BadAddress)) (Stops UnknownCall))
      both true true = e c
      both true false = tt
      both false b = tt

  read-lead : (s : PlainCore) (next : Place) (c : Arguments) → V next → DoesLead K V from (read_does s next c)
  read-lead s next c v = record {
    stays = inl refl;
    writes = (inr (number-named K (min c.len (length s.input))), tt);
    stores = (numbers-named K (take (min c.len (length s.input)) s.input), tt);
    place = λ _. v;
  }

  output-lead : (o : Option (List ℕ)) (next : Place) (c : Arguments) → V next → DoesLead K V from (option_map_or (λ bytes. Goes (record (sets 10 (number_word c.len) next) { events = Numeric (Write c.a0 bytes) ∷ [] })) o (Stops ArgumentUnknown))
  output-lead None next c v = tt
  output-lead (Some bytes) next c v = record { stays = inl refl; writes = (inr (number-named K c.len), tt); stores = tt; place = λ _. v }

  call-lead : (o : Option ℕ) (s : PlainCore) (next : Place) → s.place ≡ from → V next → DoesLead K V from (call_does o s next)
  call-lead None s next here v = tt
  call-lead (Some a7) s next here v =
      three (eqb a7 93) (eqb a7 63) (eqb a7 64) (exit_does (number_of (reg_of s 10)) s.place) (with_buffer (λ a0. eqb a0 0) s (read_does s next)) (with_buffer is_output s (write_does s next))
      (exit-lead (number_of (reg_of s 10)) s.place here)
      (buffered-lead (λ a0. eqb a0 0) (arguments_of (number_of (reg_of s 10)) (number_of (reg_of s 11)) (number_of (reg_of s 12))) s (read_does s next) (λ a. read-lead s next a v))
      (buffered-lead is_output (arguments_of (number_of (reg_of s 10)) (number_of (reg_of s 11)) (number_of (reg_of s 12))) s (write_does s next) (λ a. output-lead (numbers_at s.memory a.at a.len) next a v))
    where
      three : (a b d : Bool) (x y z : Does) → DoesLead K V from x → DoesLead K V from y → DoesLead K V from z → DoesLead K V from (cond a x (cond b y (cond d z (Stops UnknownCall))))
      three true b d x y z e f g = e
      three false true d x y z e f g = f
      three false false true x y z e f g = g
      three false false false x y z e f g = tt

  pub op-lead : (i : Instr) (s : PlainCore) (next : Place) → s.place ≡ from → NamedCore K s → V next → OpLeads K i next → DoesLead K V from (op_does i s next)
  op-lead (instr.Upper op rd imm) s next here c v l = sets-lead rd (upper_word op imm) next (inr (upper-named K op imm)) v
  op-lead (instr.Jal rd d) s next here c v l = tt
  op-lead (instr.Jalr rd base imm) s next here c v l = own-lead (instr.Jalr rd base imm) base imm s next c v l
  op-lead (instr.Branch op a b d) s next here c v l = tt
  op-lead (instr.Load op rd base imm) s next here c v l = own-lead (instr.Load op rd base imm) base imm s next c v l
  op-lead (instr.Store op source base imm) s next here c v l = own-lead (instr.Store op source base imm) base imm s next c v l
  op-lead (instr.WithImm op rd first imm) s next here c v l = sets-lead rd (imm_word op (reg_of s first) imm) next (inr (imm-named K op (reg_of s first) imm (reg-named K s first c))) v
  op-lead (instr.WithReg op rd a b) s next here c v l = sets-lead rd (reg_word op a b (reg_of s a) (reg_of s b)) next (inr (reg-word-named K op a b (reg_of s a) (reg_of s b) (reg-named K s a c) (reg-named K s b c))) v
  op-lead (instr.Fence rest) s next here c v l = on-lead next v
  op-lead instr.Ecall s next here c v l = call-lead (number_of (reg_of s 17)) s next here v
  op-lead instr.Ebreak s next here c v l = tt
  op-lead (instr.Csrrw rd source) s next here c v l = tt

  upper-lead : (op : UpperOp) (i : Instr) (w : SymWord) (next : Place) → IsNamedWord K w → V next → DoesLead K V from (upper_does op i w next)
  upper-lead Lui (instr.Upper Lui rd imm) w next n v = sets-lead rd w next (inr n) v
  upper-lead Lui (instr.Upper Auipc rd imm) w next n v = tt
  upper-lead Auipc (instr.Upper Lui rd imm) w next n v = tt
  upper-lead Auipc (instr.Upper Auipc rd imm) w next n v = sets-lead rd w next (inr n) v
  upper-lead op i w next n v = tt

  branch-lead : (o : Option Bool) (to next : Place) → V to → V next → DoesLead K V from (branch_does o to next)
  branch-lead None to next v w = tt
  branch-lead (Some true) to next v w = on-lead to v
  branch-lead (Some false) to next v w = on-lead next w

  call-to-lead : (rd temp : ℕ) (to next : Place) → V to → IsNamedLink K rd next → DoesLead K V from (call_to rd temp to next)
  call-to-lead rd temp to next v l = by (eqb temp 0)
    where
      by : (b : Bool) → DoesLead K V from (cond b (Stops TargetUnknown) (Goes (record (continues to) { writes = (temp, undef_word) ∷ (rd, code_word next) ∷ [] })))
      by true = tt
      by false = record { stays = inl refl; writes = (inr (undef-named K), (link-named rd next l, tt)); stores = tt; place = λ _. v }

  pub item-lead : (p : Program) (i : Item) (s : PlainCore) → s.place ≡ from → NamedCore K s → V (p.next s.place) → ItemLeads K V p s.place i → DoesLead K V from (item_does p (Some i) s (p.next s.place))
  item-lead p (item.Op i) s here c v l = op-lead i s (p.next s.place) here c v l
  item-lead p (item.Hi i t) s here c v l = upper-lead Lui i (high_word t) (p.next s.place) (high-named K t l) v
  item-lead p (item.Lo i t) s here c v l = sum-lead i (low_sum t (reg_of s (base_register i))) s (p.next s.place) (low-named K t (reg_of s (base_register i)) l.0 (reg-named K s (base_register i) c)) c v l.1
  item-lead p (item.PcHi i t) s here c v l = upper-lead Auipc i (value_word (value.PcHi s.place)) (p.next s.place) (value-named K (value.PcHi s.place) l) v
  item-lead p (item.PcLo i q) s here c v l = sum-lead i (pc_low_sum q (pc_target (p.item q)) (reg_of s (base_register i))) s (p.next s.place) (pc-low-named K q (pc_target (p.item q)) (reg_of s (base_register i)) l.1) c v l.2
  item-lead p (item.Branch op first second to) s here c v l = branch-lead (condition p op (reg_of s first) (reg_of s second)) to (p.next s.place) l v
  item-lead p (item.Jump rd to) s here c v l = sets-lead rd (code_word (p.next s.place)) to (link-named rd (p.next s.place) l.1) l.0
  item-lead p (item.Call rd temp to) s here c v l = call-to-lead rd temp to (p.next s.place) l.0 l.1
  item-lead p (item.Align a) s here c v l = on-lead (p.next s.place) v
  item-lead p (item.Word t) s here c v l = tt
  item-lead p (item.Raw w) s here c v l = tt
  item-lead p (item.RawShort h) s here c v l = tt
  item-lead p (item.RawPair v w) s here c k l = tt
