-- Groups that are laid, computed: a whole push, a split pop that returns 0, whose loads stand in the other order, and a pair of moves.
use Rattle.std.proofs.Common.{◌≡◌, ℕ, zero, suc, ◌+◌, ◌<◌, List, [], ◌∷◌, Option, Some, None, true, refl, arith, pos, negsuc, inl, inr}
use Rattle.std.specs.Prelude.{◌==◌, if◌then◌else◌, Contains}
use Rattle.zc_base.specs.MemMap.{all_extensions}
use Rattle.zc_base.specs.declared.place.Place.{Place}
use Rattle.rv_decode.specs.Memory.{blank}
use Rattle.rv_decode.specs.declared.instr.Instr.TheVariants.{Jalr, Load, Store, WithImm}
use Rattle.rv_decode.specs.declared.instr.ImmOp.TheVariants.{Addi}
use Rattle.rv_decode.specs.declared.instr.LoadOp.TheVariants.{Lw}
use Rattle.rv_decode.specs.declared.instr.StoreOp.TheVariants.{Sw}
use Rattle.block_cut.specs.declared.item.Item.{Item}
use Rattle.block_cut.specs.declared.item.Item.TheVariants.{Op}
use Rattle.sym_machine.specs.Program.{Program}
use Rattle.zc_decode.specs.Halfwords.{decoded16}
use Rattle.zc_decode.specs.Rows.{form_of}
use Rattle.zc_decode.specs.declared.short.Short.TheVariants.{Base, MoveAs, PopRetz, Push}
use Rattle.zc_machine.specs.Fetch.{Found, fetched_at}
use Rattle.zc_machine.specs.Load.{first_core}
use Rattle.zc_link.specs.Invariants.Groups.{A1First, IsFrame, MovesFromSaved, PopOf, PushOf, Slot, ZeroBeforeRaise}
use Rattle.zc_link.specs.Image.{Image, loaded_core}
use Rattle.zc_link.specs.Invariants.Stretches.{GroupLaid, place_items_on}
use Rattle.zc_link.proofs.Slots.{IsOneOf, contained_one, one_contained}

abbrev place_at : ℕ → Place
place_at offset = record { object = 0; section = 1; offset = offset }

-- addi sp,sp,-16; sw ra,12(sp); lw ra,104(sp); lw s0,108(sp); addi a0,x0,0; addi sp,sp,112; jalr x0,0(ra); addi a1,s2,0; addi a0,s1,0
abbrev items : ℕ → Option Item
items offset =
    if offset == 0 then Some (Op (WithImm Addi 2 2 (negsuc 15))) else
    (if offset == 4 then Some (Op (Store Sw 1 2 (pos 12))) else
    (if offset == 8 then Some (Op (Load Lw 1 2 (pos 104))) else
    (if offset == 12 then Some (Op (Load Lw 8 2 (pos 108))) else
    (if offset == 16 then Some (Op (WithImm Addi 10 0 (pos 0))) else
    (if offset == 20 then Some (Op (WithImm Addi 2 2 (pos 112))) else
    (if offset == 24 then Some (Op (Jalr 0 1 (pos 0))) else
    (if offset == 28 then Some (Op (WithImm Addi 11 18 (pos 0))) else
    (if offset == 32 then Some (Op (WithImm Addi 10 9 (pos 0))) else None))))))))

abbrev program : Program
program = record {
  item = λ q. items q.offset;
  next = λ q. record q { offset = q.offset + 4 };
  entry = record { object = 0; section = 1; offset = 0 };
  map = record { text = 0x10000; data_low = 0x20000; stack_low = 0x30000; stack_high = 0x40000; extensions = all_extensions };
  bytes = [];
}

-- cm.push {ra},-16; c.addi16sp sp,48; cm.popretz {ra,s0},64; cm.mva01s s1,s2
abbrev image : Image
image = record {
  entry = 0x10000;
  segments = record { code = true; at = 0x10000; size = 8; bytes = 0x42 ∷ 0xB8 ∷ 0x45 ∷ 0x61 ∷ 0x5E ∷ 0xBC ∷ 0xEA ∷ 0xAC ∷ [] } ∷ [];
  address = λ q. if q.offset == 0 then Some 0x10000 else (if q.offset == 8 then Some 0x10002 else (if q.offset == 28 then Some 0x10006 else (if q.offset == 36 then Some 0x10008 else None)));
  map = record { text = 0x10000; data_low = 0x20000; stack_low = 0x30000; stack_high = 0x40000; extensions = all_extensions };
}

-- ---- what is fetched

push_at : fetched_at (loaded_core image) 0x10000 ≡ Found (Push 4 16) 2
unfolding first_core blank decoded16 form_of
push_at = refl

rest_at : fetched_at (loaded_core image) 0x10002 ≡ Found (Base (WithImm Addi 2 2 (pos 48))) 2
unfolding first_core blank decoded16 form_of
rest_at = refl

pop_at : fetched_at (loaded_core image) 0x10004 ≡ Found (PopRetz 5 64) 2
unfolding first_core blank decoded16 form_of
pop_at = refl

moves_at : fetched_at (loaded_core image) 0x10006 ≡ Found (MoveAs 9 18) 2
unfolding first_core blank decoded16 form_of
moves_at = refl

-- ---- frames

abbrev ra_alone : List Slot
ra_alone = record { offset = 12; register = 1 } ∷ []

push_frame : IsFrame 4 16 ra_alone
push_frame = record { from = omega arith; to = omega arith; whole = refl; least = omega arith; most = omega arith; same = record { each = λ d c. c; all = λ d c. c } }

abbrev ra_first : List Slot
ra_first = record { offset = 104; register = 1 } ∷ record { offset = 108; register = 8 } ∷ []

abbrev s0_first : List Slot
s0_first = record { offset = 108; register = 8 } ∷ record { offset = 104; register = 1 } ∷ []

swapped : (c d x : Slot) → Contains (c ∷ d ∷ []) x → Contains (d ∷ c ∷ []) x
swapped c d x h = by (contained_one (c ∷ d ∷ []) x h)
  where
    by : IsOneOf x (c ∷ d ∷ []) → Contains (d ∷ c ∷ []) x
    by (inl here) = one_contained (d ∷ c ∷ []) x (inr (inl here))
    by (inr (inl here)) = one_contained (d ∷ c ∷ []) x (inl here)
    by (inr (inr none)) = absurd none

pop_frame : IsFrame 5 112 ra_first
pop_frame = record {
  from = omega arith;
  to = omega arith;
  whole = refl;
  least = omega arith;
  most = omega arith;
  same = record {
    each = λ d c. swapped (record { offset = 104; register = 1 }) (record { offset = 108; register = 8 }) d c;
    all = λ d c. swapped (record { offset = 108; register = 8 }) (record { offset = 104; register = 1 }) d c;
  };
}

-- ---- groups

push_laid : GroupLaid program image (place_at 0) 0x10000 2 1
push_laid = record {
  kind = PushOf 4 16 ra_alone;
  is = push_frame;
  ops = (refl, (refl, tt));
  items_are = refl;
  commits_are = refl;
  end = 0x10002;
  at = record { half = record { size = 2; here = push_at; small = omega arith }; rest = inl (refl, refl) };
  inside = inside;
  next = refl;
}
  where
    inside : (k : ℕ) → 0 < k → k < 2 → image.address (place_items_on program (place_at 0) k) ≡ None
    inside zero some lt = absurd (omega (arith, some))
    inside (suc zero) some lt = refl
    inside (suc (suc k)) some lt = absurd (omega (arith, lt))

pop_laid : GroupLaid program image (place_at 8) 0x10002 5 2
pop_laid = record {
  kind = PopOf ZeroBeforeRaise 5 112 ra_first;
  is = pop_frame;
  ops = (refl, (refl, (refl, (refl, (refl, tt)))));
  items_are = refl;
  commits_are = refl;
  end = 0x10006;
  at = record {
    middle = 0x10004;
    rest = inr (omega arith, record { here = WithImm Addi 2 2 (pos 48); same = λ size z. refl; at = record { size = 2; here = rest_at; small = omega arith } }, refl);
    half = record { size = 2; here = pop_at; small = omega arith };
    ends = refl;
  };
  inside = inside;
  next = refl;
}
  where
    inside : (k : ℕ) → 0 < k → k < 5 → image.address (place_items_on program (place_at 8) k) ≡ None
    inside zero some lt = absurd (omega (arith, some))
    inside (suc zero) some lt = refl
    inside (suc (suc zero)) some lt = refl
    inside (suc (suc (suc zero))) some lt = refl
    inside (suc (suc (suc (suc zero)))) some lt = refl
    inside (suc (suc (suc (suc (suc k))))) some lt = absurd (omega (arith, lt))

moves_laid : GroupLaid program image (place_at 28) 0x10006 2 1
moves_laid = record {
  kind = MovesFromSaved A1First 9 18;
  is = (inl (omega arith, omega arith), inr (omega arith, omega arith));
  ops = (refl, (refl, tt));
  items_are = refl;
  commits_are = refl;
  end = 0x10008;
  at = record { half = record { size = 2; here = moves_at; small = omega arith }; ends = refl };
  inside = inside;
  next = refl;
}
  where
    inside : (k : ℕ) → 0 < k → k < 2 → image.address (place_items_on program (place_at 28) k) ≡ None
    inside zero some lt = absurd (omega (arith, some))
    inside (suc zero) some lt = refl
    inside (suc (suc k)) some lt = absurd (omega (arith, lt))
