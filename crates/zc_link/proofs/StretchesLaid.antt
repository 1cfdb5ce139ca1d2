-- The text that was written lies in its image as a layout owes: at each listed place stand the instructions of its item.
use Rattle.std.proofs.Common.{◌≡◌, ℕ, ℤ, pos, negsuc, ◌+◌, ◌-◌, ◌-ℤ◌, ◌%◌, ◌^◌, ◌<◌, ◌≤◌, ◌⊎◌, inl, inr, zero, suc, List, length, Option, Some, None, Bool, true, false, cond, eqb, refl, sym, ap, ◌∙◌, subst, arith, drop, get_or}
use Rattle.std.specs.Prelude.{All, ◌&&◌}
use Rattle.std.specs.Option.{is_some, option_map_or}
use Rattle.std.proofs.Math.IntN.{+ℤ-neg_ℤ_cancel}
use Rattle.std.proofs.lemmas.Bool.{cases_lt}
use Rattle.std.proofs.lemmas.List.{length-drop, length-take-le}
use Rattle.std.proofs.lemmas.Option.{none-some, same_Some, slice_get_within}
use Rattle.zc_base.specs.Fields.{half_bytes, word_bytes}
use Rattle.zc_base.specs.MemMap.{IsMap}
use Rattle.zc_base.specs.declared.place.Place.{Place}
use Rattle.elf32_write.specs.Parts.{Parts}
use Rattle.psabi_reloc.specs.Parts.{hi20_of, lo12_of}
use Rattle.psabi_sym.specs.Faults.{gather_fault}
use Rattle.psabi_sym.specs.Inputs.{ParsedInputs, parsed}
use Rattle.rv_decode.specs.Bits.{FitsIn, add32, as_signed}
use Rattle.rv_decode.specs.Normal.{SameEffect}
use Rattle.rv_decode.specs.Registers.{HasRegisters}
use Rattle.rv_decode.proofs.NormalLaws.{normal_same}
use Rattle.rv_decode.specs.declared.instr.BranchOp.{BranchOp}
use Rattle.rv_decode.specs.declared.instr.Instr.{Instr}
use Rattle.rv_decode.specs.declared.instr.Instr.TheVariants as instr
use Rattle.rv_decode.specs.declared.instr.UpperOp.TheVariants.{Auipc}
use Rattle.rv_decode.proofs.DecodeLaws.{decoded-in_range, decoded-registers}
use Rattle.rv_decode.proofs.SystemLaws.{system-low_bits, system-not_decoded}
use Rattle.block_cut.specs.Items.{after_items, is_start_at, item_at, next_at, starts_on}
use Rattle.block_cut.specs.declared.item.Item.{Item}
use Rattle.block_cut.specs.declared.item.Item.TheVariants.{Op, Hi, Lo, PcHi, PcLo, Branch, Jump, Call, Align, Word, Raw, RawShort, RawPair}
use Rattle.block_cut.proofs.ItemLaws.{item_found}
use Rattle.frame_match.specs.declared.group.Group.{Group}
use Rattle.shrink_layout.specs.Pieces.{group_size}
use Rattle.shrink_layout.specs.Units.{CodeUnit, OneGroup, OneItem, OneSite, jump_of, unit_items}
use Rattle.sym_machine.specs.Conditions.{is_solid}
use Rattle.sym_machine.specs.Program.{Program}
use Rattle.zc_decode.specs.declared.short.Short.TheVariants.{Base, TableJump}
use Rattle.zc_encode.specs.Halves.{encoded16}
use Rattle.zc_link.specs.Copied.{bytes_from}
use Rattle.zc_link.specs.Front.{image_entry}
use Rattle.zc_link.specs.Image.{Image}
use Rattle.zc_link.specs.LaidOut.{IsLaidOut, linked_by}
use Rattle.zc_link.specs.Pace.{Alone, CallOf, LongOf, commits_in, stretch_of}
use Rattle.zc_link.specs.Invariants.Stretches.{AloneLaid, ByCall, ByJump, CallLaid, GoesTo, GroupLaid, ItemLaid, LongLaid, OneLaid, StretchLaid, TableLaid, place_items_on}
use Rattle.zc_link.specs.TextLayout.{TextLayout, behind, size_in, stretch_in}
use Rattle.zc_link.specs.Written.{HoldsFront, HoldsPlace, HoldsUnit, IsLongBranch, IsLongCall, IsOpWritten, IsSpelled, IsWritten, SpellsMeant, WithWay}
use Rattle.zc_link.specs.Meant.{meant}
use Rattle.zc_link.specs.Values.{way}
use Rattle.zc_link.proofs.Adds.{drop_are, four_bytes, take_are, two_bytes}
use Rattle.zc_link.proofs.WayLaws.{way_leads}
use Rattle.zc_link.proofs.Fetched.{StandAt, half_at_address, nops_at, one_at, spelled_at, stand_at, stand_first, stand_next, unread_at}
use Rattle.zc_link.proofs.FrontLaws.{stub_elsewhere}
use Rattle.zc_link.proofs.GroupItems.{group_known}
use Rattle.zc_link.proofs.GroupsLaid.{commits_are, group_at}
use Rattle.zc_link.proofs.ImageMemory.{AreLaidOut, image_of}
use Rattle.zc_link.proofs.ItemRegisters.{item_registers, meant_registers}
use Rattle.zc_link.proofs.LaidLaws.{address_small}
use Rattle.zc_link.proofs.Lookup.{found_holds}
use Rattle.zca_zcb_pass.proofs.HalfNormals.{IsHalfNormal, half_normal}
use Rattle.zc_link.proofs.PartLaws.{call_reaches}
use Rattle.zc_link.proofs.CopiedBytes.{copied_half, copied_word}
use Rattle.zc_link.proofs.SizedPieces.{behind_item, size_is}
use Rattle.zc_link.proofs.TablesLaid.{slot_holds}

-- ---- by how it is spelled

-- one instruction doesn't have eight bytes
spelled_short : (n : ℕ) (bytes : List ℕ) (i : Instr) → IsSpelled n bytes i → eqb n 8 ≡ false
spelled_short n bytes i (inl w) = ap (λ k. eqb k 8) w.0
spelled_short n bytes i (inr h) = ap (λ k. eqb k 8) h.0

-- `ecall` has no short form
ecall_long : (n : ℕ) (bytes : List ℕ) (i : Instr) → IsSpelled n bytes i → i ≡ instr.Ecall → n ≡ 4
ecall_long n bytes i (inl w) is = w.0
ecall_long n bytes i (inr h) is = let none : encoded16 (Base i) ≡ None = ap (λ j. encoded16 (Base j)) is in absurd (let one = h.1.first in cc (one, none))

-- a jump after a word goes as far as the branch that it stands for, less the word
after_word : (a : ℕ) (d : ℤ) → FitsIn 21 (d -ℤ pos 4) → add32 (a + 4) (d -ℤ pos 4) ≡ add32 a d
after_word a (negsuc n) fits = omega (arith, fits)
after_word a (pos n) fits = near n (cases_lt n 4)
  where
    near : (n : ℕ) → (n < 4) ⊎ (4 ≤ n) → add32 (a + 4) (pos n -ℤ pos 4) ≡ add32 a (pos n)
    near zero (inl lt) = omega arith
    near (suc zero) (inl lt) = omega arith
    near (suc (suc zero)) (inl lt) = omega arith
    near (suc (suc (suc zero))) (inl lt) = omega arith
    near (suc (suc (suc (suc n)))) (inl lt) = absurd (omega (arith, lt))
    near n (inr le) =
        let more : n - 4 + 4 ≡ n = omega (arith, le) in
        ap (λ m. add32 (a + 4) (pos m -ℤ pos 4)) (sym more) ∙ ap (add32 (a + 4)) (+ℤ-neg_ℤ_cancel (pos (n - 4)) (pos 4)) ∙ omega (arith, le)

-- ---- what is laid

-- a program of the objects' items in an image that lists these addresses, and starts where the layout says
pub record ShowsLayout (L : TextLayout) (program : Program) (e : Image) : Type 0 where
  pub item : program.item ≡ item_at (parsed L.inputs)
  pub next : program.next ≡ next_at (parsed L.inputs).objects
  pub map : program.map ≡ L.inputs.map
  pub listed : e.address ≡ L.address
  pub entry : e.entry ≡ image_entry L

module _ (L : TextLayout) (is_map : IsMap L.inputs.map) (laid : IsLaidOut L) (program : Program) (parts : Parts) (out : AreLaidOut program parts)
    (shows : ShowsLayout L program (image_of program.map parts)) where
  abbrev p : ParsedInputs
  p = parsed L.inputs

  abbrev A : Place → Option ℕ
  A = L.address

  abbrev here : Image
  here = image_of program.map parts

  -- each place's address is the layout's
  listed_at : (q : Place) → here.address q ≡ A q
  listed_at q = λ j. shows.listed j q

  -- the next place
  next_listed : (q : Place) (b : ℕ) → A (next_at p.objects q) ≡ Some b → here.address (program.next q) ≡ Some b
  next_listed q b next = (λ j. shows.listed j (shows.next j q)) ∙ next

  -- an address is even, and a word
  even_word : (q : Place) (a : ℕ) → A q ≡ Some a → (a % 2 ≡ 0) × (0 < a) × (a < 2 ^ 32)
  even_word q a at =
      let low = laid.low q a at in
      let high = laid.high q a at in
      let short = laid.short in
      (laid.even q a at, omega (arith, low, is_map.above), omega (arith, high, short, is_map.code, is_map.room))

  -- an item that is one instruction
  alone : (q : Place) (a n : ℕ) (bytes : List ℕ) (i : Instr) → HasRegisters i → A (next_at p.objects q) ≡ Some (a + n) → StandAt program parts out a bytes → IsSpelled n bytes i → AloneLaid program here q a i
  alone q a n bytes i registers next st sp =
      let is = spelled_at program parts out a n bytes i st sp in
      record {
        registers = registers;
        here = is.here;
        same = is.same;
        at = is.at;
        four = λ ecall. is.long ∙ ecall_long n bytes i sp ecall;
        next = next_listed q (a + n) next ∙ ap (λ k. Some (a + k)) (sym is.long);
      }

  -- a branch of two
  long_laid :
      (q : Place) (a n : ℕ) (op : BranchOp) (first second : ℕ) (to : Place) (bytes : List ℕ) → n ≡ 8 → A q ≡ Some a
      → A (next_at p.objects q) ≡ Some (a + n) → StandAt program parts out a bytes → WithWay A a to (λ w. IsLongBranch op first second (as_signed w) bytes)
      → program.item q ≡ Some (Branch op first second to) → LongLaid program here q a op first second
  unfolding one_at
  long_laid q a n op first second to bytes eight at next st w same =
      let d = as_signed (way a w.0) in
      let l = w.2 in
      let leads : A to ≡ Some (add32 a d) = w.1 ∙ ap Some (sym (way_leads a w.0 (even_word q a at).2 (even_word to w.0 w.1).2)) in
      let both = subst (StandAt program parts out a) l.both st in
      let four : a + length l.first ≡ a + 4 = ap (λ x. a + length x) l.over.are in
      let registers = decoded-registers l.over.word (instr.Branch l.other first second (pos 8)) l.over.spells in
      let small = even_word (next_at p.objects q) (a + n) next in
      let end : a + n ≡ a + 4 + 4 = omega (arith, eight) in
      record {
        to = to;
        item = same;
        first_low = registers.0;
        second_low = registers.1;
        other = l.other;
        opposite = l.opposite;
        over = pos 8;
        distance = d -ℤ pos 4;
        at = record {
          one = one_at program parts out a l.first (instr.Branch l.other first second (pos 8)) (stand_first program parts out a l.first l.second both) l.over;
          two = one_at program parts out (a + 4) l.second (instr.Jal 0 (d -ℤ pos 4))
              (subst (λ x. StandAt program parts out x l.second) four (stand_next program parts out a l.first l.second both)) l.jump;
        };
        lands = omega (arith, small.2, eight);
        reaches = (λ j. shows.listed j to) ∙ leads ∙ ap Some (sym (after_word a d (decoded-in_range l.jump.word (instr.Jal 0 (d -ℤ pos 4)) l.jump.spells).0));
        next = next_listed q (a + n) next ∙ ap Some end;
      }

  -- a call of two
  call_laid : (q : Place) (a n rd temp : ℕ) (to : Place) (bytes : List ℕ) → n ≡ 8 → A q ≡ Some a → A (next_at p.objects q) ≡ Some (a + n) → StandAt program parts out a bytes
      → WithWay A a to (λ w. IsLongCall rd temp w bytes) → program.item q ≡ Some (Call rd temp to) → CallLaid program here q a
  unfolding one_at
  call_laid q a n rd temp to bytes eight at next st found same =
      let address = found.0 in
      let w = found.2 in
      let both = subst (StandAt program parts out a) w.both st in
      let four : a + length w.first ≡ a + 4 = ap (λ l. a + length l) w.upper.are in
      let first = decoded-registers w.upper.word (instr.Upper Auipc temp (hi20_of (way a address))) w.upper.spells in
      let one = even_word q a at in
      let two = even_word to address found.1 in
      let end : a + n ≡ a + 4 + 4 = omega (arith, eight) in
      record {
        rd = rd;
        temp = temp;
        to = to;
        item = same;
        temp_low = first;
        upper = hi20_of (way a address);
        lower = lo12_of (way a address);
        at = record {
          one = one_at program parts out a w.first (instr.Upper Auipc temp (hi20_of (way a address))) (stand_first program parts out a w.first w.second both) w.upper;
          two = one_at program parts out (a + 4) w.second (instr.Jalr rd temp (lo12_of (way a address)))
              (subst (λ x. StandAt program parts out x w.second) four (stand_next program parts out a w.first w.second both)) w.lower;
        };
        reaches = (λ j. shows.listed j to) ∙ found.1 ∙ ap Some (sym (call_reaches a address one.2 two.2 two.0));
        next = next_listed q (a + n) next ∙ ap Some end;
      }

  -- ---- each stretch

  -- what is written for an item of n bytes at a place
  pub record WrittenAt (q : Place) (a n : ℕ) (item : Item) (bytes : List ℕ) : Type 0 where
    pub own : ℕ → List ℕ
    pub is : item_at p q ≡ Some item
    pub at : A q ≡ Some a
    pub next : A (next_at p.objects q) ≡ Some (a + n)
    pub stands : StandAt program parts out a bytes
    pub written : IsWritten L q own a n item bytes
    pub short : (half : ℕ) → item ≡ RawShort half → (n ≡ 2) × (half < 2 ^ 16) × (bytes ≡ half_bytes half)
    pub long : (word : ℕ) → item ≡ Raw word → (n ≡ 4) × (word < 2 ^ 32) × (bytes ≡ word_bytes word)

  -- the program has the objects' items
  same_item : (q : Place) (item : Item) → item_at p q ≡ Some item → program.item q ≡ Some item
  same_item q item is = (λ j. shows.item j q) ∙ is

  -- an item that is one instruction
  item_laid : (q : Place) (a : ℕ) (item : Item) → item_at p q ≡ Some item → ItemLaid program here q a (Some item) → ItemLaid program here q a (program.item q)
  item_laid q a item is = subst (ItemLaid program here q a) (sym (same_item q item is))

  -- an item that is written as one instruction
  one_laid :
      (q : Place) (a n : ℕ) (item : Item) (bytes : List ℕ) → item_at p q ≡ Some item → A (next_at p.objects q) ≡ Some (a + n) → StandAt program parts out a bytes
      → SpellsMeant L a n item bytes → OneLaid program here q a item
  one_laid q a n item bytes is next stands m =
      record {
        instr = m.instr;
        is = (λ j. meant (shows.listed j) (shows.item j) a item) ∙ m.is;
        laid = alone q a n bytes m.instr (meant_registers A (item_at p) a item m.instr (item_registers p q item is) m.is) next stands m.spelled;
      }

  -- a branch: in eight bytes it is two instructions, and else one
  branch_laid :
      (q : Place) (a n : ℕ) (op : BranchOp) (first second : ℕ) (to : Place) (bytes : List ℕ) → WrittenAt q a n (Branch op first second to) bytes
      → StretchLaid program here q a (stretch_of n (Some (OneItem (Branch op first second to))))
  branch_laid q a n op first second to bytes w = by w.written
    where
      by : IsWritten L q w.own a n (Branch op first second to) bytes → StretchLaid program here q a (stretch_of n (Some (OneItem (Branch op first second to))))
      by (inl m) =
          subst (λ b. StretchLaid program here q a (cond b (LongOf op first second) Alone)) (sym (spelled_short n bytes m.instr m.spelled))
          (item_laid q a (Branch op first second to) w.is (one_laid q a n (Branch op first second to) bytes w.is w.next w.stands m))
      by (inr l) =
          let eight : eqb n 8 ≡ true = ap (λ k. eqb k 8) l.0 in
          subst (λ b. StretchLaid program here q a (cond b (LongOf op first second) Alone)) (sym eight)
          (long_laid q a n op first second to bytes l.0 w.at w.next w.stands l.1 (same_item q (Branch op first second to) w.is))

  -- a call is laid
  calling_laid : (q : Place) (a n rd temp : ℕ) (to : Place) (bytes : List ℕ) → WrittenAt q a n (Call rd temp to) bytes → StretchLaid program here q a (stretch_of n (Some (OneItem (Call rd temp to))))
  calling_laid q a n rd temp to bytes w = by w.written
    where
      by : IsWritten L q w.own a n (Call rd temp to) bytes → StretchLaid program here q a (stretch_of n (Some (OneItem (Call rd temp to))))
      by (inl m) =
          subst (λ b. StretchLaid program here q a (cond b CallOf Alone)) (sym (spelled_short n bytes m.instr m.spelled))
          (item_laid q a (Call rd temp to) w.is (one_laid q a n (Call rd temp to) bytes w.is w.next w.stands m))
      by (inr two) =
          let eight : eqb n 8 ≡ true = ap (λ k. eqb k 8) two.0 in
          subst (λ b. StretchLaid program here q a (cond b CallOf Alone)) (sym eight)
          (call_laid q a n rd temp to bytes two.0 w.at w.next w.stands two.1 (same_item q (Call rd temp to) w.is))

  -- an instruction without relocation is written as itself, or its halfword in the object is copied
  op_laid : (q : Place) (a n : ℕ) (i : Instr) (bytes : List ℕ) → WrittenAt q a n (Op i) bytes → OneLaid program here q a (Op i)
  unfolding alone half_at_address
  op_laid q a n i bytes w = by (L.keeps_halfwords q) w.written
    where
      one : IsSpelled n bytes i → OneLaid program here q a (Op i)
      one sp = one_laid q a n (Op i) bytes w.is w.next w.stands (record { instr = i; is = refl; spelled = sp })

      by : (keeps : Bool) → IsOpWritten keeps w.own n i bytes → OneLaid program here q a (Op i)
      by false sp = one sp
      by true (inl word) = one (inl word)
      by true (inr two) =
          let c = two.1 in
          record {
            instr = i;
            is = refl;
            laid = record {
              registers = item_registers p q (Op i) w.is;
              here = c.spelled;
              same = subst (SameEffect c.spelled) c.normal (λ size z. sym (normal_same c.spelled size z));
              at = half_at_address program parts out a c.half bytes (Base c.spelled) w.stands c.small c.are c.spells;
              four = λ ecall. absurd (subst IsHalfNormal (c.normal ∙ ecall) (half_normal c.half c.spelled c.spells));
              next = next_listed q (a + n) w.next ∙ ap (λ m. Some (a + m)) two.0;
            };
          }

  -- any item
  stretch_laid : (q : Place) (a n : ℕ) (item : Item) (bytes : List ℕ) → WrittenAt q a n item bytes → StretchLaid program here q a (stretch_of n (Some (OneItem item)))
  unfolding alone half_at_address
  stretch_laid q a n (Op i) bytes w = item_laid q a (Op i) w.is (op_laid q a n i bytes w)
  stretch_laid q a n (Hi i t) bytes w = item_laid q a (Hi i t) w.is (one_laid q a n (Hi i t) bytes w.is w.next w.stands w.written)
  stretch_laid q a n (Lo i t) bytes w = item_laid q a (Lo i t) w.is (one_laid q a n (Lo i t) bytes w.is w.next w.stands w.written)
  stretch_laid q a n (PcHi i t) bytes w = item_laid q a (PcHi i t) w.is (one_laid q a n (PcHi i t) bytes w.is w.next w.stands w.written)
  stretch_laid q a n (PcLo i from) bytes w = item_laid q a (PcLo i from) w.is (one_laid q a n (PcLo i from) bytes w.is w.next w.stands w.written)
  stretch_laid q a n (Branch op first second to) bytes w = branch_laid q a n op first second to bytes w
  stretch_laid q a n (Jump rd to) bytes w = item_laid q a (Jump rd to) w.is (one_laid q a n (Jump rd to) bytes w.is w.next w.stands w.written)
  stretch_laid q a n (Call rd temp to) bytes w = calling_laid q a n rd temp to bytes w
  stretch_laid q a n (Align k) bytes w =
      let one = laid.even q a w.at in
      let two = laid.even (next_at p.objects q) (a + n) w.next in
      record {
        bytes = k;
        item = same_item q (Align k) w.is;
        end = a + n;
        nops = nops_at program parts out a n bytes (omega (arith, one, two)) w.stands w.written;
        next = next_listed q (a + n) w.next;
      }
  stretch_laid q a n (Word t) bytes w = item_laid q a (Word t) w.is tt
  stretch_laid q a n (Raw word) bytes w =
      let four = w.long word refl in
      item_laid q a (Raw word) w.is (λ system. record {
        at = unread_at program parts out a word (subst (StandAt program parts out a) four.2 w.stands) four.1 (system-low_bits word system) (system-not_decoded word system);
        next = next_listed q (a + n) w.next ∙ ap (λ m. Some (a + m)) four.0;
      })
  stretch_laid q a n (RawShort half) bytes w =
      let two = w.short half refl in
      item_laid q a (RawShort half) w.is (λ short spells. record {
        at = half_at_address program parts out a half bytes short w.stands two.1 two.2 spells;
        next = next_listed q (a + n) w.next ∙ ap (λ m. Some (a + m)) two.0;
      })
  stretch_laid q a n (RawPair first second) bytes w = item_laid q a (RawPair first second) w.is tt

  -- ---- all

  -- where nothing is written no item starts
  nothing_there : (q : Place) (a : ℕ) → A q ≡ Some a → L.unit q ≡ None → (o : Option Item) → item_at p q ≡ o → ItemLaid program here q a o
  nothing_there q a at unit None is = tt
  nothing_there q a at unit (Some item) is =
      let found = item_found p q item is in
      let start : is_start_at p.objects q ≡ true = ap (λ o. option_map_or (λ s. starts_on s q.offset) o false) found.code ∙ found.start in
      let some : is_some (L.unit q) ≡ true = laid.written q ∙ (λ j. is_some (at j) && start j) in
      absurd (cc (some, ap is_some unit))

  -- the bytes of what is written at a place stand at its address
  stands_there :
      (q : Place) (a : ℕ) (u : CodeUnit) (h : HoldsUnit L parts.text (q, a) u) → StandAt program parts out a (bytes_from parts.text (a - L.inputs.map.text) h.size)
  stands_there q a u h =
      let start : program.map.text ≡ L.inputs.map.text = ap (λ m. m.text) shows.map in
      let st = stand_at program parts out a h.size (omega (arith, h.low, start)) (omega (arith, h.within, start)) in
      subst (λ x. StandAt program parts out a (bytes_from parts.text (a - x) h.size)) start st

  -- the bytes of what is written there are as many as its size, and each is one
  bytes_there :
      (q : Place) (a n : ℕ) (u : CodeUnit) (h : HoldsUnit L parts.text (q, a) u) → h.size ≡ n
      → (length (bytes_from parts.text (a - L.inputs.map.text) h.size) ≡ n) × ((k : ℕ) → get_or (bytes_from parts.text (a - L.inputs.map.text) h.size) k 0 < 256)
  bytes_there q a n u h size =
      let from = a - L.inputs.map.text in (
        length-take-le h.size (drop from parts.text) (omega (arith, length-drop from parts.text, h.low, h.within)) ∙ size,
        take_are h.size (drop from parts.text) (drop_are from parts.text out.text_are),
      )

  -- two bytes that are copied stand as their number there
  short_there :
      (q : Place) (a half : ℕ) → A q ≡ Some a → L.unit q ≡ Some (OneItem (RawShort half)) → (h : HoldsUnit L parts.text (q, a) (OneItem (RawShort half)))
      → (h.size ≡ 2) × (half < 2 ^ 16) × (bytes_from parts.text (a - L.inputs.map.text) h.size ≡ half_bytes half)
  short_there q a half at unit h =
      let lies = laid.each q a (OneItem (RawShort half)) unit at in
      let size : h.size ≡ 2 = sym (size_is L q a h.size at h.next) ∙ size_is L q a lies.size at lies.next ∙ lies.form in
      let bytes = bytes_there q a 2 (OneItem (RawShort half)) h size in
      let number = copied_half p q h.section half lies.is h.here in
      let two = two_bytes h.section.bytes q.offset (bytes_from parts.text (a - L.inputs.map.text) h.size) (sym h.written) bytes.0 bytes.1 in
      (size, subst (λ n. n < 2 ^ 16) (sym number) two.0, two.1 ∙ ap half_bytes (sym number))

  -- and so do four
  long_there :
      (q : Place) (a word : ℕ) → A q ≡ Some a → L.unit q ≡ Some (OneItem (Raw word)) → (h : HoldsUnit L parts.text (q, a) (OneItem (Raw word)))
      → (h.size ≡ 4) × (word < 2 ^ 32) × (bytes_from parts.text (a - L.inputs.map.text) h.size ≡ word_bytes word)
  long_there q a word at unit h =
      let lies = laid.each q a (OneItem (Raw word)) unit at in
      let size : h.size ≡ 4 = sym (size_is L q a h.size at h.next) ∙ size_is L q a lies.size at lies.next ∙ lies.form in
      let bytes = bytes_there q a 4 (OneItem (Raw word)) h size in
      let number = copied_word p q h.section word lies.is h.here in
      let four = four_bytes h.section.bytes q.offset (bytes_from parts.text (a - L.inputs.map.text) h.size) (sym h.written) bytes.0 bytes.1 in
      (size, subst (λ n. n < 2 ^ 32) (sym number) four.0, four.1 ∙ ap word_bytes (sym number))

  -- an item by itself
  unit_laid :
      (q : Place) (a : ℕ) (item : Item) → A q ≡ Some a → L.unit q ≡ Some (OneItem item) → HoldsUnit L parts.text (q, a) (OneItem item)
      → StretchLaid program here q a (stretch_of (size_in L q) (Some (OneItem item)))
  unit_laid q a item at unit h =
      subst (λ n. StretchLaid program here q a (stretch_of n (Some (OneItem item)))) (sym (size_is L q a h.size at h.next))
      (stretch_laid q a h.size item (bytes_from parts.text (a - L.inputs.map.text) h.size)
      (record {
        own = bytes_from h.section.bytes q.offset;
        is = (laid.each q a (OneItem item) unit at).is;
        at = at;
        next = ap A (sym (behind_item L q item unit)) ∙ h.next;
        stands = stands_there q a (OneItem item) h;
        written = h.written;
        short = λ half is.
            short_there q a half at (unit ∙ ap (λ i. Some (OneItem i)) is) (subst (λ i. HoldsUnit L parts.text (q, a) (OneItem i)) is h);
        long = λ word is.
            long_there q a word at (unit ∙ ap (λ i. Some (OneItem i)) is) (subst (λ i. HoldsUnit L parts.text (q, a) (OneItem i)) is h);
      }))

  -- the places after a place
  places_on : (k : ℕ) (q : Place) → place_items_on program q k ≡ after_items p.objects k q
  places_on zero q = refl
  places_on (suc k) q = ap (λ (f : Place → Place). place_items_on program (f q) k) shows.next ∙ places_on k (next_at p.objects q)

  -- a group
  group_laid :
      gather_fault L.inputs ≡ None → (q : Place) (a : ℕ) (g : Group) → A q ≡ Some a → L.unit q ≡ Some (OneGroup g)
      → HoldsUnit L parts.text (q, a) (OneGroup g) → GroupLaid program here q a g.items (commits_in g)
  group_laid none q a g at unit h =
      let lies = laid.each q a (OneGroup g) unit at in
      let known = group_known L.inputs none q g lies.is in
      let size : h.size ≡ group_size g = sym (size_is L q a h.size at h.next) ∙ size_is L q a lies.size at lies.next ∙ lies.form in
      let last : behind L q ≡ after_items p.objects g.items q = ap (λ u. after_items p.objects (option_map_or unit_items u 1) q) unit in
      record {
        kind = known.kind;
        is = known.is;
        ops = known.ops program shows.item shows.next;
        items_are = known.items;
        commits_are = commits_are g known.kind known.rest;
        end = a + h.size;
        at = group_at program parts out g known.kind known.half known.rest a h.size (bytes_from parts.text (a - L.inputs.map.text) h.size) size
            (stands_there q a (OneGroup g) h) h.written;
        inside = λ k some few. ap here.address (places_on k q) ∙ listed_at (after_items p.objects k q) ∙ (lies.inside k some few).1;
        next = ap here.address (places_on g.items q) ∙ listed_at (after_items p.objects g.items q) ∙ ap A (sym last) ∙ h.next;
      }

  -- where a jump or call goes
  goes_there : (q : Place) (i : Item) (rd : ℕ) (to : Place) → program.item q ≡ Some i → jump_of i ≡ Some (rd, to) → GoesTo program q rd to
  goes_there q (Op i) rd to at is = absurd (none-some (rd, to) is)
  goes_there q (Hi i t) rd to at is = absurd (none-some (rd, to) is)
  goes_there q (Lo i t) rd to at is = absurd (none-some (rd, to) is)
  goes_there q (PcHi i t) rd to at is = absurd (none-some (rd, to) is)
  goes_there q (PcLo i from) rd to at is = absurd (none-some (rd, to) is)
  goes_there q (Branch op first second other) rd to at is = absurd (none-some (rd, to) is)
  goes_there q (Jump r other) rd to at is =
      let same = same_Some (r, other) (rd, to) is in
      ByJump (at ∙ ap (λ (x : ℕ × Place). Some (Jump x.0 x.1)) same)
  goes_there q (Call r temp other) rd to at is =
      let same = same_Some (r, other) (rd, to) is in
      ByCall temp (at ∙ ap (λ (x : ℕ × Place). Some (Call x.0 temp x.1)) same)
  goes_there q (Align bytes) rd to at is = absurd (none-some (rd, to) is)
  goes_there q (Word t) rd to at is = absurd (none-some (rd, to) is)
  goes_there q (Raw word) rd to at is = absurd (none-some (rd, to) is)
  goes_there q (RawShort half) rd to at is = absurd (none-some (rd, to) is)
  goes_there q (RawPair first second) rd to at is = absurd (none-some (rd, to) is)

  -- a jump or call through the table
  site_laid :
      HoldsFront L parts.text → (q : Place) (a n : ℕ) → A q ≡ Some a → L.unit q ≡ Some (OneSite n) → HoldsUnit L parts.text (q, a) (OneSite n)
      → TableLaid program here q a n
  unfolding half_at_address
  site_laid front q a n at unit h =
      let lies = laid.each q a (OneSite n) unit at in
      let site = lies.is in
      let to = address_of (A site.to) site.listed in
      let some : 0 < length L.slots = omega (arith, slice_get_within L.slots n (Some site.to) site.leads) in
      let size : h.size ≡ 2 = sym (size_is L q a h.size at h.next) ∙ size_is L q a lies.size at lies.next ∙ lies.form in
      let behind_it : behind L q ≡ next_at p.objects q = ap (λ u. after_items p.objects (option_map_or unit_items u 1) q) unit in
      record {
        to = site.to;
        goes = goes_there q site.item (linked_by n) site.to (same_item q site.item site.is) site.goes;
        at = half_at_address program parts out a h.written.half (bytes_from parts.text (a - L.inputs.map.text) h.size) (TableJump n) (stands_there q a (OneSite n) h)
            h.written.small h.written.are h.written.spells;
        entry = slot_holds L program parts out shows.map front n site.to to.0 site.leads to.1 (address_small L is_map laid site.to to.0 to.1) (listed_at site.to ∙ to.1);
        elsewhere = λ same. stub_elsewhere L is_map laid some program.entry (sym (listed_at program.entry) ∙ same ∙ ap Some shows.entry);
        next = next_listed q (a + h.size) (ap A (sym behind_it) ∙ h.next) ∙ ap (λ m. Some (a + m)) size;
      }
    where
      address_of : (o : Option ℕ) → is_some o ≡ true → (b : ℕ) × (o ≡ Some b)
      address_of None some = absurd cc
      address_of (Some b) some = (b, refl)

  -- each listed place's stretch
  pub each :
      gather_fault L.inputs ≡ None → HoldsFront L parts.text → All (HoldsPlace L parts.text) parts.places → (q : Place) (a : ℕ) → here.address q ≡ Some a
      → StretchLaid program here q a (stretch_in L q)
  each none front holds q a listed = by (sym (listed_at q) ∙ listed) (L.unit q) refl
    where
      by : A q ≡ Some a → (u : Option CodeUnit) → L.unit q ≡ u → StretchLaid program here q a (stretch_of (size_in L q) u)
      by at None unit = subst (ItemLaid program here q a) (λ j. sym shows.item j q) (nothing_there q a at unit (item_at p q) refl)
      by at (Some (OneItem item)) unit =
          unit_laid q a item at unit (found_holds (HoldsPlace L parts.text) parts.places q a holds listed (OneItem item) unit)
      by at (Some (OneGroup g)) unit =
          group_laid none q a g at unit (found_holds (HoldsPlace L parts.text) parts.places q a holds listed (OneGroup g) unit)
      by at (Some (OneSite n)) unit =
          site_laid front q a n at unit (found_holds (HoldsPlace L parts.text) parts.places q a holds listed (OneSite n) unit)

  -- places with room of their own have addresses of their own
  pub distinct : (q r : Place) (a : ℕ) → is_solid (program.item q) ≡ true → is_solid (program.item r) ≡ true → here.address q ≡ Some a → here.address r ≡ Some a → q ≡ r
  distinct q r a solid_q solid_r at_q at_r =
      laid.distinct q r a (ap is_solid (λ j. sym shows.item j q) ∙ solid_q) (ap is_solid (λ j. sym shows.item j r) ∙ solid_r) (sym (listed_at q) ∙ at_q) (sym (listed_at r) ∙ at_r)

  -- the addresses of listed places are even
  pub even : (q : Place) (a : ℕ) → here.address q ≡ Some a → (a % 2 ≡ 0) × (0 < a) × (a < 2 ^ 32)
  even q a at = even_word q a (sym (listed_at q) ∙ at)
