-- The end of a step, said once for all items: the bytes of the stack below its mark become undefined. So states that are
-- ready come to states that are alike.
use Rattle.std.proofs.Common.{◌≡◌, ℕ, Option, Bool, true, false, cond, refl, sym, ◌∙◌, subst, ltb, leb}
use Rattle.std.specs.Prelude.{◌&&◌}
use Rattle.std.proofs.lemmas.Bool.{and_from, cond-true, cond_both, le-leb, lt-ltb}
use Rattle.zc_base.specs.declared.mem_map.MemMap.{MemMap}
use Rattle.zc_base.specs.declared.place.Place.{Place}
use Rattle.rv_decode.specs.State.{ZcCore, ZcState, byte_in}
use Rattle.rv_decode.proofs.MemoryLaws.{cell-changed_default, extents-changed}
use Rattle.sym_machine.specs.declared.word.SymByte.{SymByte}
use Rattle.sym_machine.specs.declared.word.SymByte.TheVariants.{Undef}
use Rattle.sym_machine.specs.Program.{Program}
use Rattle.sym_machine.specs.State.{PlainCore, cell_of}
use Rattle.sym_machine.specs.Step.{stack_mark, undefined_below}
use Rattle.sym_machine.proofs.StepLaws.{Ended, settled}
use Rattle.zc_link.specs.Image.{Image}
use Rattle.zc_link.specs.Sound.{Alike, NamesByte, Ready}
use Rattle.zc_link.specs.Stands.{ByteStands, Stands}
use Rattle.zc_link.specs.Values.{value_in}

-- ---- bytes that become undefined

settled-cell : (map : MemMap) (mark : ℕ) (s : PlainCore) (a : ℕ) → cell_of (settled map mark s) a ≡ undefined_below map mark a (cell_of s a)
settled-cell map mark s a = cell-changed_default (undefined_below map mark) s.memory a Undef (again (leb map.stack_low a && ltb a mark))
  where
    again : (b : Bool) → cond b Undef Undef ≡ Undef
    again true = refl
    again false = refl

-- what holds of a byte, and of an undefined one, holds of it after
settled_holds : (P : SymByte → Type 0) (map : MemMap) (mark : ℕ) (s : PlainCore) (a : ℕ) → P Undef → P (cell_of s a) → P (cell_of (settled map mark s) a)
settled_holds P map mark s a undefined before =
    subst P (sym (settled-cell map mark s a)) (cond_both (leb map.stack_low a && ltb a mark) Undef (cell_of s a) P (λ _. undefined) (λ _. before))

-- ---- states

-- registers and memory stand for what they stood for
pub ends_stands : {p : Program} {A : Place → Option ℕ} {was_set : Bool} {s s' : PlainCore} {z : ZcState} → Ended p.map was_set s s' → Stands p A s z → Stands p A s' z
ends_stands {p} {A} {s = s} {z = z} end h = subst (λ x. Stands p A x z) (sym end.state) (record {
  registers = h.registers;
  memory = λ a m. settled_holds (λ c. ByteStands (value_in p A) c (byte_in z.core a)) p.map (stack_mark p.map s) s a tt (h.memory a m);
  input = h.input;
  place = h.place;
})

-- after an end, states that are ready are alike
pub ends_alike :
    {p : Program} {Named : Place → Type 0} {e : Image} {was_set : Bool} {s s' : PlainCore} {z : ZcCore} → Ended p.map was_set s s' → Ready p Named e s z → Alike p Named e s' z
ends_alike {p} {Named} {e} {s = s} {z = z} end ready = subst (λ x. Alike p Named e x z) (sym end.state) (record {
  ready = record {
    running = ready.running;
    going = ready.going;
    plain = record { count = ready.plain.count; input = ready.plain.input };
    core = ready.core;
    registers = ready.registers;
    memory = λ a m. settled_holds (λ c. ByteStands (value_in p e.address) c (byte_in z a)) p.map mark s a tt (ready.memory a m);
    names = record {
      registers = ready.names.registers;
      memory = λ a m. settled_holds (NamesByte Named) p.map mark s a tt (ready.names.memory a m);
    };
    lies = extents-changed (undefined_below p.map mark) s.memory ∙ ready.lies;
    extents = ready.extents;
    text = ready.text;
    table = ready.table;
  };
  below = λ a low lt.
      settled-cell p.map mark s a
      ∙ cond-true (leb p.map.stack_low a && ltb a mark) Undef (cell_of s a)
      (and_from (leb p.map.stack_low a) (ltb a mark) (le-leb p.map.stack_low a low) (lt-ltb a mark lt));
})
  where
    mark : ℕ
    mark = stack_mark p.map s
