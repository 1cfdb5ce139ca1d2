-- What one instruction does, whatever the place and pc: if the symbolic machine makes a change, the machine's effect commits,
-- and the states are ready again. First what all instructions come to, then a law for each format.
use Rattle.std.proofs.Common.{◌≡◌, ℕ, ◌+◌, ◌*◌, ◌/◌, ◌%◌, ◌^◌, ◌<◌, [], Option, Some, None, Bool, true, false, cond, refl, sym, ap, ◌∙◌, subst, arith, ℤ}
use Rattle.zc_base.specs.declared.place.Place.{Place}
use Rattle.rv_decode.specs.declared.instr.Instr.{Instr}
use Rattle.rv_decode.specs.declared.instr.Instr.TheVariants.{Branch, Fence, Jalr, Load, Store, Upper, WithImm, WithReg}
use Rattle.rv_decode.specs.declared.instr.BranchOp.{BranchOp}
use Rattle.rv_decode.specs.declared.instr.ImmOp.{ImmOp}
use Rattle.rv_decode.specs.declared.instr.LoadOp.{LoadOp}
use Rattle.rv_decode.specs.declared.instr.LoadOp.TheVariants.{Lb, Lh, Lw, Lbu, Lhu}
use Rattle.rv_decode.specs.declared.instr.RegOp.{RegOp}
use Rattle.rv_decode.specs.declared.instr.StoreOp.{StoreOp}
use Rattle.rv_decode.specs.declared.instr.StoreOp.TheVariants.{Sb, Sh, Sw}
use Rattle.rv_decode.specs.declared.instr.UpperOp.{UpperOp}
use Rattle.rv_decode.specs.Bits.{add32}
use Rattle.rv_decode.specs.Effect.{Commits, after, effect, gives, jumps, load_result, load_width, onward, store_width, stored}
use Rattle.rv_decode.specs.Results.{imm_result, reg_result, upper_result}
use Rattle.rv_decode.specs.State.{ZcCore, reg_in, set_reg}
use Rattle.rv_decode.proofs.ResultLaws.{imm_result-below, reg_result-below, upper_result-below}
use Rattle.sym_machine.specs.declared.word.SymWord.{SymWord}
use Rattle.sym_machine.specs.declared.word.Value.{Value}
use Rattle.sym_machine.specs.Change.{Change, Goes, branch_does, sets, jump_does, load_does, load_word, continues, puts, store_does, stored_bytes}
use Rattle.sym_machine.specs.Conditions.{condition}
use Rattle.sym_machine.specs.Program.{Program}
use Rattle.sym_machine.specs.State.{PlainCore, reg_of}
use Rattle.sym_machine.specs.Step.{after_change}
use Rattle.sym_machine.specs.Words.{code_of, code_word, imm_word, number_of, reg_word, upper_word}
use Rattle.zc_link.specs.Image.{Image}
use Rattle.zc_link.specs.Invariants.Room.{Room}
use Rattle.zc_link.specs.Sound.{NamesWord, Ready}
use Rattle.zc_link.specs.Stands.{WordStands}
use Rattle.zc_link.specs.Values.{value_in}
use Rattle.zc_link.proofs.Accesses.{load_below, load_names, load_stands, made_there, reached, stored_agrees}
use Rattle.zc_link.proofs.Addresses.{code_is, code_names, code_stands}
use Rattle.zc_link.proofs.Branches.{condition_is}
use Rattle.zc_link.proofs.Operations.{imm_names, imm_word_stands, reg_names, reg_word_stands, upper_names, upper_word_stands}
use Rattle.zc_link.proofs.Ready.{ready_moved, ready_set}
use Rattle.zc_link.proofs.Writes.{ready_changed}

-- ---- what instructions come to

-- a change without an event that takes no input
pub record IsQuiet (c : Change) : Type 0 where
  pub events : c.events ≡ []
  pub taken : c.taken ≡ 0

-- the effect commits, and the states after the change and after the commit are ready
pub record Made (p : Program) (Named : Place → Type 0) (e : Image) (i : Instr) (size : ℕ) (c : Change) (s : PlainCore) (z : ZcCore) : Type 0 where
  pub after : ZcCore
  pub commits : effect i size z ≡ Commits after
  pub ready : Ready p Named e (after_change c s) after
  pub quiet : IsQuiet c

-- both machines go on to what follows the instruction, be it listed or not
pub record GoesOn (p : Program) (Named : Place → Type 0) (e : Image) (i : Instr) (size : ℕ) (c : Change) (s : PlainCore) (next : Place) (z : ZcCore) : Type 0 where
  pub made : Made p Named e i size c s z
  pub place : c.place ≡ next
  pub pc : made.after.pc ≡ (z.pc + size) % 2 ^ 32

-- or both go to a listed place
pub record Moves (p : Program) (Named : Place → Type 0) (e : Image) (i : Instr) (size : ℕ) (c : Change) (s : PlainCore) (z : ZcCore) : Type 0 where
  pub made : Made p Named e i size c s z
  pub place : e.address c.place ≡ Some made.after.pc

-- what goes on moves, if the next place is listed
pub moves_on :
    {p : Program} {Named : Place → Type 0} {e : Image} {i : Instr} {size : ℕ} {c : Change} {s : PlainCore} {next : Place} {z : ZcCore}
    → e.address next ≡ Some ((z.pc + size) % 2 ^ 32) → GoesOn p Named e i size c s next z → Moves p Named e i size c s z
moves_on {e = e} listed goes = record { made = goes.made; place = ap e.address goes.place ∙ listed ∙ ap Some (sym goes.pc) }

-- ---- formats that go on

some_load : (op : LoadOp) → 0 < load_width op
some_load Lb = omega arith
some_load Lh = omega arith
some_load Lw = omega arith
some_load Lbu = omega arith
some_load Lhu = omega arith

some_store : (op : StoreOp) → 0 < store_width op
some_store Sb = omega arith
some_store Sh = omega arith
some_store Sw = omega arith

module _ {p : Program} {Named : Place → Type 0} {e : Image} {s : PlainCore} {z : ZcCore} (room : Room p e) (ready : Ready p Named e s z) (size : ℕ) (c : Change) (next : Place) where
  abbrev V : Value → Option ℕ
  V = value_in p e.address

  -- a result that goes to a register
  pub register_goes :
      (i : Instr) (rd v : ℕ) (w : SymWord) → effect i size z ≡ gives v rd size z → v < 2 ^ 32
      → WordStands V w v → NamesWord Named w → Goes (sets rd w next) ≡ Goes c → GoesOn p Named e i size c s next z
  register_goes i rd v w does small stands names h = subst (λ x. GoesOn p Named e i size x s next z) same (record {
    made = record {
      after = onward z size (set_reg z.regs rd v);
      commits = does;
      ready = ready_moved (ready_set ready rd v w small stands names) next _ _;
      quiet = record { events = refl; taken = refl };
    };
    place = refl;
    pc = refl;
  })
    where
      same : sets rd w next ≡ c
      same = cc

  -- an operation on a register and an immediate
  pub imm_goes :
      (op : ImmOp) (rd first : ℕ) (imm : ℤ) → first < 32 → Goes (sets rd (imm_word op (reg_of s first) imm) next) ≡ Goes c
      → GoesOn p Named e (WithImm op rd first imm) size c s next z
  imm_goes op rd first imm low h =
      let n = reg_in z first in
      register_goes (WithImm op rd first imm) rd (imm_result op n imm) (imm_word op (reg_of s first) imm) refl (imm_result-below op n imm (ready.core.words first))
      (imm_word_stands room op (reg_of s first) imm n (ready.core.words first) (ready.registers first low))
      (imm_names Named op (reg_of s first) imm (ready.names.registers first low)) h

  -- an operation on two registers
  pub reg_goes :
      (op : RegOp) (rd first second : ℕ) → first < 32 → second < 32
      → Goes (sets rd (reg_word op first second (reg_of s first) (reg_of s second)) next) ≡ Goes c → GoesOn p Named e (WithReg op rd first second) size c s next z
  reg_goes op rd first second low_first low_second h =
      let m = reg_in z first in
      let n = reg_in z second in
      register_goes (WithReg op rd first second) rd (reg_result op m n) (reg_word op first second (reg_of s first) (reg_of s second)) refl
      (reg_result-below op m n (ready.core.words first) (ready.core.words second))
      (reg_word_stands room op first second (reg_of s first) (reg_of s second) m n (ready.core.words first) (ready.core.words second)
      (λ zero. ap (reg_in z) zero) (λ zero. ap (reg_in z) zero) (ready.registers first low_first) (ready.registers second low_second))
      (reg_names Named op first second (reg_of s first) (reg_of s second) (ready.names.registers first low_first) (ready.names.registers second low_second)) h

  -- an upper immediate
  pub upper_goes : (op : UpperOp) (rd imm : ℕ) → Goes (sets rd (upper_word op imm) next) ≡ Goes c → GoesOn p Named e (Upper op rd imm) size c s next z
  upper_goes op rd imm h =
      register_goes (Upper op rd imm) rd (upper_result op z.pc imm) (upper_word op imm) refl (upper_result-below op z.pc imm) (upper_word_stands room op z.pc imm)
      (upper_names Named op imm) h

  -- a fence
  pub fence_goes : (rest : ℕ) → Goes (continues next) ≡ Goes c → GoesOn p Named e (Fence rest) size c s next z
  fence_goes rest h = subst (λ x. GoesOn p Named e (Fence rest) size x s next z) same (record {
    made = record {
      after = onward z size z.regs;
      commits = refl;
      ready = ready_moved ready next _ _;
      quiet = record { events = refl; taken = refl };
    };
    place = refl;
    pc = refl;
  })
    where
      same : continues next ≡ c
      same = cc

  -- a load, by the word of its sum
  pub load_goes :
      (op : LoadOp) (rd base : ℕ) (k : ℤ) (w : SymWord) → WordStands V w (add32 (reg_in z base) k)
      → load_does op rd (number_of w) s next ≡ Goes c → GoesOn p Named e (Load op rd base k) size c s next z
  load_goes op rd base k w stands h =
      let a = add32 (reg_in z base) k in
      let ok = reached room ready (load_width op) w a (λ x. Goes (sets rd (load_word op s x) next)) c (omega arith) stands h in
      register_goes (Load op rd base k) rd (load_result op z a) (load_word op s a)
      (made_there room ready (load_width op) a _ (gives (load_result op z a) rd size z) (some_load op) ok.aligned ok.spans)
      (load_below room ready op a) (load_stands room ready op a ok.spans) (load_names room ready op a ok.spans) ok.goes

  -- a store
  pub store_goes :
      (op : StoreOp) (source base : ℕ) (k : ℤ) (w : SymWord) → source < 32 → WordStands V w (add32 (reg_in z base) k)
      → store_does op (reg_of s source) (number_of w) s next ≡ Goes c → GoesOn p Named e (Store op source base k) size c s next z
  store_goes op source base k w low stands h =
      let n = store_width op in
      let a = add32 (reg_in z base) k in
      let ok = reached room ready n w a (λ x. Goes (puts x (stored_bytes op (reg_of s source)) next)) c (omega arith) stands h in
      let agrees = stored_agrees room op (reg_of s source) (reg_in z source) a ok.spans (ready.registers source low) (ready.names.registers source low) in
      let same : puts a (stored_bytes op (reg_of s source)) next ≡ c = (let g = ok.goes in cc) in
      subst (λ x. GoesOn p Named e (Store op source base k) size x s next z) same (record {
        made = record {
          after = onward (stored n a (reg_in z source) z) size z.regs;
          commits = made_there room ready n a _ (Commits (onward (stored n a (reg_in z source) z) size z.regs)) (some_store op) ok.aligned ok.spans;
          ready = ready_moved (ready_changed room _ _ agrees ready) next _ _;
          quiet = record { events = refl; taken = refl };
        };
        place = refl;
        pc = refl;
      })

  -- ---- formats that go to a place

  module _ (listed : e.address next ≡ Some (after z size)) where
    -- a jump to a place: a register gets the address of the next one
    pub jump_moves :
        (i : Instr) (rd pc : ℕ) (to : Place) → Named next → effect i size z ≡ jumps pc rd size z → e.address to ≡ Some pc
        → jump_does (Some to) rd next ≡ Goes c → Moves p Named e i size c s z
    jump_moves i rd pc to named does at h = subst (λ x. Moves p Named e i size x s z) same (record {
      made = record {
        after = record (onward z size (set_reg z.regs rd (after z size))) { pc = pc };
        commits = does;
        ready = ready_moved (ready_set ready rd (after z size) (code_word next) (omega arith) (code_stands room next (after z size) listed) (code_names Named next named)) to _ _;
        quiet = record { events = refl; taken = refl };
      };
      place = at;
    })
      where
        same : sets rd (code_word next) to ≡ c
        same = cc

    -- `jalr`, by the word of its sum
    pub jalr_moves :
        (rd base : ℕ) (k : ℤ) (w : SymWord) → Named next → WordStands V w (add32 (reg_in z base) k)
        → jump_does (code_of w) rd next ≡ Goes c → Moves p Named e (Jalr rd base k) size c s z
    jalr_moves rd base k w named stands h = known (code_of w) refl h
      where
        known : (o : Option Place) → code_of w ≡ o → jump_does o rd next ≡ Goes c → Moves p Named e (Jalr rd base k) size c s z
        known None is g = absurd cc
        known (Some q) is g =
            let n : ℕ = add32 (reg_in z base) k in
            let at = code_is room w n q (omega arith) stands is in
            let even = (room.even q n at).0 in
            let same : n ≡ n / 2 * 2 = omega (arith, even) in
            jump_moves (Jalr rd base k) rd (n / 2 * 2) q named refl (at ∙ ap Some same) g

    -- a branch whose condition is known
    pub branch_moves :
        (op : BranchOp) (first second : ℕ) (distance : ℤ) (to : Place) → first < 32 → second < 32 → e.address to ≡ Some (add32 z.pc distance)
        → branch_does (condition p op (reg_of s first) (reg_of s second)) to next ≡ Goes c → Moves p Named e (Branch op first second distance) size c s z
    branch_moves op first second distance to low_first low_second at h = known (condition p op (reg_of s first) (reg_of s second)) refl h
      where
        lands : (t : Bool) → e.address (cond t to next) ≡ Some (cond t (add32 z.pc distance) (after z size))
        lands true = at
        lands false = listed

        known : (o : Option Bool) → condition p op (reg_of s first) (reg_of s second) ≡ o → branch_does o to next ≡ Goes c → Moves p Named e (Branch op first second distance) size c s z
        known None is g = absurd cc
        known (Some t) is g =
            let taken =
            condition_is room op (reg_of s first) (reg_of s second) (reg_in z first) (reg_in z second) t (ready.core.words first) (ready.core.words second)
            (ready.registers first low_first) (ready.registers second low_second) is in
            let same : continues (cond t to next) ≡ c = cc in
            subst (λ x. Moves p Named e (Branch op first second distance) size x s z) same (record {
              made = record {
                after = record (onward z size z.regs) { pc = cond t (add32 z.pc distance) (after z size) };
                commits = ap (λ b. Commits (record (onward z size z.regs) { pc = cond b (add32 z.pc distance) (after z size) })) taken;
                ready = ready_moved ready (cond t to next) _ _;
                quiet = record { events = refl; taken = refl };
              };
              place = lands t;
            })
