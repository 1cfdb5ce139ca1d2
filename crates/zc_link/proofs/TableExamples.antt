-- An image with a jump table, computed: a stub, a jump through slot 0 and a call through slot 32, with holes between the
-- two slots.
use Rattle.std.specs.Prelude.{◌≡◌, ℕ, ◌+◌, ◌==◌, if◌then◌else◌, List, [], ◌∷◌, ◌++◌, replicate, Option, Some, None, Result, Ok, Err, true, refl, pos}
use Rattle.std.proofs.Common.{arith}
use Rattle.zc_base.specs.MemMap.{all_extensions}
use Rattle.zc_base.specs.Fields.{word_bytes}
use Rattle.zc_base.specs.declared.place.Place.{Place}
use Rattle.rv_decode.specs.declared.instr.Instr.TheVariants.{Csrrw, Jal, Upper, WithImm}
use Rattle.rv_decode.specs.declared.instr.ImmOp.TheVariants.{Addi}
use Rattle.rv_decode.specs.declared.instr.UpperOp.TheVariants.{Lui}
use Rattle.rv_decode.specs.Decode.{decoded}
use Rattle.rv_decode.specs.Memory.{blank}
use Rattle.rv_decode.specs.State.{ZcState, reg_in}
use Rattle.block_cut.specs.declared.item.Item.{Item}
use Rattle.block_cut.specs.declared.item.Item.TheVariants.{Call, Jump, Op}
use Rattle.sym_machine.specs.Program.{Program}
use Rattle.zc_decode.specs.Halfwords.{decoded16}
use Rattle.zc_decode.specs.Rows.{form_of}
use Rattle.zc_decode.specs.declared.short.Short.TheVariants.{Base, TableJump}
use Rattle.zc_machine.specs.declared.reason.Reason.{Reason}
use Rattle.zc_machine.specs.Fetch.{Found, fetched_at}
use Rattle.zc_machine.specs.Load.{first_core}
use Rattle.zc_machine.specs.Run.{first_state, turn, zc_turns}
use Rattle.zc_machine.specs.Step.{zc_step}
use Rattle.zc_link.specs.Image.{Image, loaded_core}
use Rattle.zc_link.specs.Invariants.Laid.{BehindStub, Begins}
use Rattle.zc_link.specs.Pace.{TableOf, lead_of}
use Rattle.zc_link.specs.Invariants.Stretches.{ByCall, ByJump, StretchLaid}

abbrev place_at : ℕ → Place
place_at offset = record { object = 0; section = 1; offset = offset }

-- addi a0,x0,7; jal x0 to offset 0, where the program starts; a call of offset 4 by an auipc and a jalr
abbrev items : ℕ → Option Item
items offset =
    if offset == 0 then Some (Op (WithImm Addi 10 0 (pos 7))) else
    (if offset == 4 then Some (Jump 0 (place_at 0)) else
    (if offset == 8 then Some (Call 1 6 (place_at 4)) else None))

abbrev program : Program
program = record {
  item = λ q. items q.offset;
  next = λ q. record q { offset = q.offset + (if q.offset == 8 then 8 else 4) };
  entry = place_at 4;
  map = record { text = 0x10000; data_low = 0x20000; stack_low = 0x30000; stack_high = 0x40000; extensions = all_extensions };
  bytes = [];
}

-- the table; lui t0,0x10; csrrw x0,jvt,t0; jal x0,6; c.li a0,7; cm.jt 0; cm.jalt 32
abbrev text : List ℕ
text =
    word_bytes 0x10090 ++ replicate 124 0 ++ word_bytes 0x10092
    ++ word_bytes 0x000102B7 ++ word_bytes 0x01729073 ++ word_bytes 0x0060006F ++ 0x1D ∷ 0x45 ∷ 0x02 ∷ 0xA0 ∷ 0x82 ∷ 0xA0 ∷ []

abbrev image : Image
image = record {
  entry = 0x10084;
  segments = record { code = true; at = 0x10000; size = 150; bytes = text } ∷ [];
  address = λ q. if q.offset == 0 then Some 0x10090 else
      (if q.offset == 4 then Some 0x10092 else
      (if q.offset == 8 then Some 0x10094 else
      (if q.offset == 16 then Some 0x10096 else None)));
  map = record { text = 0x10000; data_low = 0x20000; stack_low = 0x30000; stack_high = 0x40000; extensions = all_extensions };
}

-- ---- what is fetched

upper_at : fetched_at (loaded_core image) 0x10084 ≡ Found (Base (Upper Lui 5 0x10)) 4
unfolding first_core blank decoded
upper_at = refl

sets_at : fetched_at (loaded_core image) 0x10088 ≡ Found (Base (Csrrw 0 5)) 4
unfolding first_core blank decoded
sets_at = refl

goes_at : fetched_at (loaded_core image) 0x1008C ≡ Found (Base (Jal 0 (pos 6))) 4
unfolding first_core blank decoded
goes_at = refl

jump_at : fetched_at (loaded_core image) 0x10092 ≡ Found (TableJump 0) 2
unfolding first_core blank decoded16 form_of
jump_at = refl

call_at : fetched_at (loaded_core image) 0x10094 ≡ Found (TableJump 32) 2
unfolding first_core blank decoded16 form_of
call_at = refl

-- ---- the stub

other_start : image.address program.entry ≡ Some image.entry → ⊥
other_start h = apart 0x10092 0x10084 h (λ same. omega (arith, same))
  where
    apart : (a b : ℕ) → Some a ≡ Some b → (a ≡ b → ⊥) → ⊥
    apart a b same other = let is : a ≡ b = cc in other is

begins : Begins program image
begins = BehindStub (record {
  whole = refl;
  small = omega arith;
  upper = record { size = 4; here = upper_at; small = omega arith };
  sets = record { size = 4; here = sets_at; small = omega arith };
  distance = pos 6;
  goes = record { size = 4; here = goes_at; small = omega arith };
  leads = refl;
  elsewhere = other_start;
})

three_commits_lead : lead_of program image ≡ 3
three_commits_lead = refl

-- ---- jumps and calls

jump_laid : StretchLaid program image (place_at 4) 0x10092 (TableOf 0)
unfolding first_core blank
jump_laid = record {
  to = place_at 0;
  goes = ByJump refl;
  at = record { size = 2; here = jump_at; small = omega arith };
  entry = record { small = omega arith; lies = refl; leads = refl };
  elsewhere = other_start;
  next = refl;
}

call_laid : StretchLaid program image (place_at 8) 0x10094 (TableOf 32)
unfolding first_core blank
call_laid = record {
  to = place_at 4;
  goes = ByCall 6 refl;
  at = record { size = 2; here = call_at; small = omega arith };
  entry = record { small = omega arith; lies = refl; leads = refl };
  elsewhere = other_start;
  next = refl;
}

-- ---- a run

-- pc, jvt and ra of a state
abbrev shown : Result ZcState Reason → Option (ℕ × ℕ × ℕ)
shown (Ok r) = Some (r.core.pc, r.core.jvt, reg_in r.core 1)
shown (Err reason) = None

-- the stub, and the jump
jumped : shown (zc_turns (λ k. []) 4 (first_state (loaded_core image) [])) ≡ Some (0x10090, 0x10000, 0)
unfolding first_core blank decoded decoded16 form_of turn zc_step
jumped = refl

-- the call, with jvt set
called :
    shown (zc_turns (λ k. []) 1 (first_state (record (loaded_core image) { pc = 0x10094; jvt = 0x10000 }) []))
    ≡ Some (0x10092, 0x10000, 0x10096)
unfolding first_core blank decoded decoded16 form_of turn zc_step
called = refl
