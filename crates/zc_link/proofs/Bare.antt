-- Commits that don't look at memory: they do the same whatever data hold, and leave memory as it is. So do those of a stretch of several
-- instructions, from the first to the last, whatever interrupts come and whatever cells of data are written between them.
use Rattle.std.specs.Option.{option_map_or}
use Rattle.std.proofs.Common.{◌≡◌, ℕ, zero, suc, ◌+◌, ◌<◌, List, [], None, Ok, cond, false, refl, sym, ap, ◌∙◌, subst, arith, pos}
use Rattle.rv_decode.specs.Bits.{add32}
use Rattle.rv_decode.specs.declared.instr.Instr.{Instr}
use Rattle.rv_decode.specs.declared.instr.Instr.TheVariants.{Upper, Jal, Jalr, Branch, Load, Store, WithImm, WithReg, Fence, Ecall, Ebreak, Csrrw}
use Rattle.rv_decode.specs.declared.instr.ImmOp.TheVariants.{Addi}
use Rattle.rv_decode.specs.Effect.{Commits, after, effect}
use Rattle.rv_decode.specs.Memory.{cell_at, extents_of}
use Rattle.rv_decode.specs.Results.{is_taken}
use Rattle.rv_decode.specs.State.{ZcCore, ZcState}
use Rattle.rv_decode.proofs.RegisterLaws.{reads}
use Rattle.sym_machine.specs.Program.{Program}
use Rattle.zc_decode.specs.declared.short.Short.TheVariants.{Base}
use Rattle.zc_machine.specs.Fetch.{Found, fetched_at}
use Rattle.zc_machine.specs.Interrupt.{interrupted}
use Rattle.zc_machine.specs.Run.{committed, zc_turn}
use Rattle.zc_machine.specs.Step.{Ended, effect_step, made, zc_step}
use Rattle.zc_machine.proofs.FetchLaws.{SameText, fetched_same}
use Rattle.zc_machine.proofs.TurnLaws.{zc_turn-running}
use Rattle.zc_link.specs.Image.{Image, loaded_core}
use Rattle.zc_link.specs.Invariants.Stretches.{Nops, OneAt, TwoAt}
use Rattle.zc_link.specs.Invariants.Room.{Room}
use Rattle.zc_link.specs.DataApart.{CommitsApart, Cuts, IsCell, OnWay, Pokes, Starts, Turns, poked}
use Rattle.zc_link.proofs.NoAccess.{KeepsText, NoAccess, base_at, cut_kept, here_fetched, poked_kept}
use Rattle.zc_link.proofs.Singles.{below_top}
use Rattle.zc_link.proofs.WithByte.{with_byte}

-- ---- instructions

-- an instruction that neither loads nor stores nor calls
abbrev pub IsBare : Instr → Type 0
IsBare (Upper op rd imm) = Unit {0}
IsBare (Jal rd distance) = Unit {0}
IsBare (Jalr rd base imm) = Unit {0}
IsBare (Branch op first second distance) = Unit {0}
IsBare (Load op rd base imm) = ⊥
IsBare (Store op source base imm) = ⊥
IsBare (WithImm op rd first imm) = Unit {0}
IsBare (WithReg op rd first second) = Unit {0}
IsBare (Fence rest) = Unit {0}
IsBare Ecall = ⊥
IsBare Ebreak = ⊥
IsBare (Csrrw rd source) = Unit {0}

-- with these registers an instruction goes on to the next one: a branch does if it isn't taken
abbrev pub IsOn : Instr → List ℕ → Type 0
IsOn (Upper op rd imm) regs = Unit {0}
IsOn (Jal rd distance) regs = ⊥
IsOn (Jalr rd base imm) regs = ⊥
IsOn (Branch op first second distance) regs = is_taken op (reads 0 0 regs first) (reads 0 0 regs second) ≡ false
IsOn (Load op rd base imm) regs = ⊥
IsOn (Store op source base imm) regs = ⊥
IsOn (WithImm op rd first imm) regs = Unit {0}
IsOn (WithReg op rd first second) regs = Unit {0}
IsOn (Fence rest) regs = Unit {0}
IsOn Ecall regs = ⊥
IsOn Ebreak regs = ⊥
IsOn (Csrrw rd source) regs = Unit {0}

-- the effect of such an instruction: it commits, memory and the exit stay, and with another byte in memory it does the same
record BareEffect (i : Instr) (size : ℕ) (y : ZcCore) : Type 0 where
  left : ZcCore
  commits : effect i size y ≡ Commits left
  memory : left.memory ≡ y.memory
  exit : left.exit ≡ y.exit
  pc : IsOn i y.regs → left.pc ≡ after y size
  apart : (a b : ℕ) → effect i size (with_byte a b y) ≡ Commits (with_byte a b left)

bare_effect : (i : Instr) (size : ℕ) (y : ZcCore) → IsBare i → BareEffect i size y
bare_effect (Upper op rd imm) size y bare = record { left = _; commits = refl; memory = refl; exit = refl; pc = λ _. refl; apart = λ a b. refl }
bare_effect (Jal rd distance) size y bare = record { left = _; commits = refl; memory = refl; exit = refl; pc = λ on. absurd on; apart = λ a b. refl }
bare_effect (Jalr rd base imm) size y bare = record { left = _; commits = refl; memory = refl; exit = refl; pc = λ on. absurd on; apart = λ a b. refl }
bare_effect (Branch op first second distance) size y bare = record { left = _; commits = refl; memory = refl; exit = refl; pc = λ on. ap (λ b. cond b (add32 y.pc distance) (after y size)) on; apart = λ a b. refl }
bare_effect (Load op rd base imm) size y bare = absurd bare
bare_effect (Store op source base imm) size y bare = absurd bare
bare_effect (WithImm op rd first imm) size y bare = record { left = _; commits = refl; memory = refl; exit = refl; pc = λ _. refl; apart = λ a b. refl }
bare_effect (WithReg op rd first second) size y bare = record { left = _; commits = refl; memory = refl; exit = refl; pc = λ _. refl; apart = λ a b. refl }
bare_effect (Fence rest) size y bare = record { left = _; commits = refl; memory = refl; exit = refl; pc = λ _. refl; apart = λ a b. refl }
bare_effect Ecall size y bare = absurd bare
bare_effect Ebreak size y bare = absurd bare
bare_effect (Csrrw rd source) size y bare = record { left = _; commits = refl; memory = refl; exit = refl; pc = λ _. refl; apart = λ a b. refl }

-- ---- several of them

-- from an address on there are this many such instructions, one after another; each but the last goes on, the first with these
-- registers and those after it with any
abbrev pub Bares : Image → ℕ → List ℕ → ℕ → Type 0
Bares e zero regs a = Unit {0}
Bares e (suc k) regs a = (i : Instr) × (at : OneAt e a (Base i)) × IsBare i × (0 < k → IsOn i regs × ((later : List ℕ) → Bares e k later (a + at.size)))

pub nops_bare : (e : Image) (count : ℕ) (regs : List ℕ) (a b : ℕ) → Nops e a count b → Bares e count regs a
nops_bare e zero regs a b nops = tt
nops_bare e (suc count) regs a b nops = (WithImm Addi 0 0 (pos 0), nops.0, tt, λ _. (tt, λ later. nops_bare e count later (a + nops.0.size) b nops.1))

pub one_bare : (e : Image) (regs : List ℕ) (a : ℕ) (i : Instr) → IsBare i → OneAt e a (Base i) → Bares e 1 regs a
one_bare e regs a i bare at = (i, at, bare, λ more. absurd (omega (arith, more)))

pub two_bare : (e : Image) (regs : List ℕ) (a : ℕ) (i j : Instr) → IsBare i → IsOn i regs → IsBare j → TwoAt e a (Base i) (Base j) → Bares e 2 regs a
two_bare e regs a i j bare on last at = (i, at.one, bare, λ _. (on, λ later. one_bare e later (a + at.one.size) j last at.two))

-- a state from which k such instructions are still to be committed
pub record OnBare (e : Image) (k : ℕ) (z : ZcState) : Type 0 where
  pub going : z.core.exit ≡ None
  pub same : SameText (loaded_core e) z.core
  pub bares : Bares e k z.core.regs z.core.pc

-- an instruction without accesses stands at pc
abbrev bare_here : {e : Image} {k : ℕ} {z : ZcState} → OnBare e (suc k) z → NoAccess e z.core
bare_here on = record { text = on.same; here = base_at on.bares.1 }

-- if only memory outside the text changes, there are still k of them to be committed
bare_kept : {e : Image} {k : ℕ} {z : ZcState} (y : ZcCore) → OnBare e k z → KeepsText e z.core y → OnBare e k (record z { core = y })
bare_kept {e} {k} y on kept = record {
  going = ap (λ x. x.exit) kept.rest ∙ on.going;
  same = kept.text;
  bares = subst (λ x. Bares e k x.regs x.pc) (sym kept.rest) on.bares;
}

-- ---- commits

module _ {p : Program} {e : Image} (room : Room p e) where
  -- what a turn without interrupts then is
  bare_turn : (i : Instr) (size : ℕ) (z : ZcState) (y : ZcCore) → z.core.exit ≡ None → fetched_at z.core z.core.pc ≡ Found (Base i) size → effect i size z.core ≡ Commits y
      → zc_turn [] z ≡ Ok (record z { core = y })
  unfolding zc_step
  bare_turn i size z y going here does =
      zc_turn-running [] z going
      ∙ ap (λ o. committed (option_map_or Ended o (made (fetched_at z.core z.core.pc) z.core)) z) going
      ∙ ap (λ f. committed (made f z.core) z) here
      ∙ ap (λ x. committed (effect_step x z.core) z) does

  -- one of the instructions is committed
  record BareTurn (k : ℕ) (z z' : ZcState) : Type 0 where
    on : OnBare e k z'
    apart : (a b : ℕ) → IsCell p a → zc_turn [] (poked a b z) ≡ Ok (poked a b z')

  turned : (k : ℕ) (z z' : ZcState) → OnBare e (suc k) z → zc_turn [] z ≡ Ok z' → BareTurn k z z'
  turned k z z' on turn =
      let i = on.bares.0 in
      let at = on.bares.1 in
      let does = bare_effect i at.size z.core on.bares.2 in
      let here = here_fetched (bare_here on) in
      let is : record z { core = does.left } ≡ z' = (let both = sym (bare_turn i at.size z does.left on.going here does.commits) ∙ turn in cc) in
      subst (BareTurn k z) is (record {
        on = record {
          going = does.exit ∙ on.going;
          same = record {
            extents = ap extents_of does.memory ∙ on.same.extents;
            text = λ a text. ap (λ memory. cell_at 0 memory a) does.memory ∙ on.same.text a text;
          };
          bares = rest i z.core.regs k does.left.regs (on.bares.3) (λ more. does.pc more ∙ sym (below_top z.core.pc z.core.pc at.size refl at.small));
        };
        apart = λ a b cell.
            let other = (poked_kept room a b z cell on.same).text in
            bare_turn i at.size (poked a b z) (with_byte a b does.left) on.going (fetched_same (loaded_core e) (poked a b z).core other z.core.pc ∙ at.here) (does.apart a b);
      })
    where
      rest :
          (i : Instr) (regs : List ℕ) {b pc : ℕ} (n : ℕ) (left : List ℕ) → (0 < n → IsOn i regs × ((later : List ℕ) → Bares e n later b)) → (IsOn i regs → pc ≡ b)
          → Bares e n left pc
      rest i regs zero left more lands = tt
      rest i regs (suc n) left more lands = let m = more (omega arith) in subst (Bares e (suc n) left) (sym (lands m.0)) (m.1 left)

  -- ---- on the way

  module _ {From : ℕ → ZcState → Type 0} (from : (k : ℕ) (z : ZcState) → From k z → OnBare e k z) where
    on_way : {k : ℕ} {z : ZcState} → OnWay p From k z → OnBare e k z
    on_way (Starts k z is) = from k z is
    on_way (Cuts k z c is way) = let on = on_way way in bare_kept (interrupted c z.core) on (cut_kept room c z.core (bare_here on))
    on_way (Pokes k z a b is small way) = let on = on_way way in bare_kept (poked a b z).core on (poked_kept room a b z is on.same)
    on_way (Turns k z z' way turn) = (turned k z z' (on_way way) turn).on

    pub bares_no_access : (k : ℕ) (z : ZcState) → OnWay p From (suc k) z → NoAccess e z.core
    bares_no_access k z way = bare_here (on_way way)

    pub bare_apart : CommitsApart p From
    bare_apart = record {
      running = λ k z way. (on_way way).going;
      same = λ k z z' way turn a b cell small. (turned k z z' (on_way way) turn).apart a b cell;
    }
