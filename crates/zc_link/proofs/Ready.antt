-- States stay Ready if they move to another place and pc, if input is taken, if a register is set in both, and if the program forgets
-- one: what an instruction changes is a chain of such changes. They stay Alike if these leave sp, or sp isn't set.
use Rattle.std.specs.Prelude.{◌⊎◌}
use Rattle.std.proofs.Common.{◌≡◌, ◌≢◌, ℕ, ◌^◌, ◌<◌, None, false, drop, refl, ap, ◌∙◌, sym, arith, inl, inr, ⊎_elim}
use Rattle.std.proofs.lemmas.Bool.{cases_eq}
use Rattle.std.proofs.lemmas.List.Elements.{All-drop}
use Rattle.zc_base.specs.declared.place.Place.{Place}
use Rattle.rv_decode.specs.State.{ZcCore, reg_in, set_reg}
use Rattle.rv_decode.proofs.RegisterLaws.{length-set_reg, reads-set_reg_other, set_reg_both, set_reg_core, set_reg_each}
use Rattle.sym_machine.specs.declared.word.SymWord.{SymWord}
use Rattle.sym_machine.specs.Program.{Program}
use Rattle.sym_machine.specs.State.{PlainCore}
use Rattle.sym_machine.specs.Step.{is_set, mark_for, stack_mark}
use Rattle.sym_machine.specs.Words.{number_of, number_word, undef_word}
use Rattle.sym_machine.proofs.StepLaws.{mark_high, mark_unset}
use Rattle.zc_link.specs.Image.{Image}
use Rattle.zc_link.specs.Sound.{Alike, NamesWord, Ready}
use Rattle.zc_link.specs.Stands.{WordStands}
use Rattle.zc_link.specs.Values.{value_in}
use Rattle.zc_link.proofs.Words.{undef_names, undef_stands}

module _ {p : Program} {Named : Place → Type 0} {e : Image} {s : PlainCore} {z : ZcCore} (ready : Ready p Named e s z) where
  -- nothing of Ready speaks of the place, of pc, or of the number of commits
  pub ready_moved : (q : Place) (pc commits : ℕ) → Ready p Named e (record s { place = q; exit = None }) (record z { pc = pc; commits = commits })
  ready_moved q pc commits = record {
    running = refl;
    going = ready.going;
    plain = record { count = ready.plain.count; input = ready.plain.input };
    core = record { count = ready.core.count; words = ready.core.words; bytes = ready.core.bytes };
    registers = ready.registers;
    memory = ready.memory;
    names = record { registers = ready.names.registers; memory = ready.names.memory };
    lies = ready.lies;
    extents = ready.extents;
    text = ready.text;
    table = ready.table;
  }

  -- nor what of the input is left, but that it is bytes
  pub ready_fed : (n : ℕ) → Ready p Named e (record s { input = drop n s.input }) z
  ready_fed n = record {
    running = ready.running;
    going = ready.going;
    plain = record { count = ready.plain.count; input = All-drop (λ b. b < 256) n s.input ready.plain.input };
    core = ready.core;
    registers = ready.registers;
    memory = ready.memory;
    names = record { registers = ready.names.registers; memory = ready.names.memory };
    lies = ready.lies;
    extents = ready.extents;
    text = ready.text;
    table = ready.table;
  }

  -- a register gets a word, and a number that the word stands for
  pub ready_set :
      (rd v : ℕ) (w : SymWord) → v < 2 ^ 32 → WordStands (value_in p e.address) w v → NamesWord Named w
      → Ready p Named e (record s { regs = set_reg s.regs rd w }) (record z { regs = set_reg z.regs rd v })
  ready_set rd v w small stands names = record {
    running = ready.running;
    going = ready.going;
    plain = record { count = length-set_reg s.regs rd w ∙ ready.plain.count; input = ready.plain.input };
    core = set_reg_core z rd v ready.core small;
    registers = λ r lt.
        set_reg_both (WordStands (value_in p e.address)) (number_word 0) undef_word 0 0 s.regs z.regs rd r w v
        (ready.plain.count ∙ sym ready.core.count) stands (ready.registers r lt);
    memory = ready.memory;
    names = record {
      registers = λ r lt. set_reg_each (NamesWord Named) (number_word 0) undef_word s.regs rd r w names (ready.names.registers r lt);
      memory = ready.names.memory;
    };
    lies = ready.lies;
    extents = ready.extents;
    text = ready.text;
    table = ready.table;
  }

  -- the program forgets what a register holds
  pub ready_forgets : (rd : ℕ) → Ready p Named e (record s { regs = set_reg s.regs rd undef_word }) z
  ready_forgets rd = record {
    running = ready.running;
    going = ready.going;
    plain = record { count = length-set_reg s.regs rd undef_word ∙ ready.plain.count; input = ready.plain.input };
    core = ready.core;
    registers = λ r lt.
        set_reg_each (λ w. WordStands (value_in p e.address) w (reg_in z r)) (number_word 0) undef_word s.regs rd r undef_word
        (undef_stands (value_in p e.address) (reg_in z r)) (ready.registers r lt);
    memory = ready.memory;
    names = record {
      registers = λ r lt. set_reg_each (NamesWord Named) (number_word 0) undef_word s.regs rd r undef_word (undef_names Named) (ready.names.registers r lt);
      memory = ready.names.memory;
    };
    lies = ready.lies;
    extents = ready.extents;
    text = ready.text;
    table = ready.table;
  }

-- what is alike stays so if pc and the number of commits change
pub alike_moved : {p : Program} {Named : Place → Type 0} {e : Image} {s : PlainCore} {z : ZcCore} (pc commits : ℕ) → Alike p Named e s z → Alike p Named e s (record z { pc = pc; commits = commits })
alike_moved pc commits al = record {
  ready = record {
    running = al.running;
    going = al.going;
    plain = al.plain;
    core = record { count = al.core.count; words = al.core.words; bytes = al.core.bytes };
    registers = al.registers;
    memory = al.memory;
    names = al.names;
    lies = al.lies;
    extents = al.extents;
    text = al.text;
    table = al.table;
  };
  below = al.below;
}

-- states are still alike if the program forgets a register in which the machine gets a word: one other than sp, or sp,
-- if it isn't set
pub alike_forgets :
    {p : Program} {Named : Place → Type 0} {e : Image} {s : PlainCore} {z : ZcCore} (rd v pc commits : ℕ) → (rd ≢ 2) ⊎ (is_set p.map s ≡ false)
    → v < 2 ^ 32 → Alike p Named e s z
    → Alike p Named e (record s { regs = set_reg s.regs rd undef_word; exit = None })
    (record z { pc = pc; regs = set_reg z.regs rd v; commits = commits })
alike_forgets {p} {Named} {e} {s} {z} rd v pc commits other small al = record {
  ready =
      ready_moved
      (ready_set al.ready rd v undef_word small (undef_stands (value_in p e.address) v) (undef_names Named))
      s.place pc commits;
  below = λ a low lt. al.below a low (mark a lt (cases_eq rd 2));
}
  where
    forgotten : PlainCore
    forgotten = record s { regs = set_reg s.regs rd undef_word; exit = None }

    mark : (a : ℕ) → a < stack_mark p.map forgotten → (rd ≡ 2) ⊎ (rd ≢ 2) → a < stack_mark p.map s
    mark a lt (inl is) =
        let high = mark_high p.map forgotten in
        let all = mark_unset p.map s (⊎_elim (λ apart. absurd (apart is)) (λ unset. unset) other) in
        omega (arith, lt, high, all)
    mark a lt (inr apart) =
        let word = reads-set_reg_other (number_word 0) undef_word s.regs rd undef_word 2 (λ is. apart (sym is)) in
        let same : stack_mark p.map forgotten ≡ stack_mark p.map s = ap (λ w. mark_for p.map (number_of w)) word in
        omega (arith, lt, same)
