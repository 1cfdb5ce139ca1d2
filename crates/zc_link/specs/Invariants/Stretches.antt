-- What is written for the stretch that starts at a listed place: its instructions, from the place's address on.
use Rattle.std.specs.Prelude.{◌≡◌, ℕ, zero, suc, ℤ, pos, ◌+◌, ◌*◌, ◌/◌, ◌%◌, ◌^◌, ◌<◌, ◌⊎◌, true, List, [], ◌∷◌, length, Option, Some, None}
use Rattle.zc_base.specs.declared.place.Place.{Place}
use Rattle.rv_decode.specs.declared.instr.Instr.{Instr}
use Rattle.rv_decode.specs.declared.instr.Instr.TheVariants as instr
use Rattle.rv_decode.specs.declared.instr.Instr.TheVariants.{Ecall, Jal, Jalr, Upper, WithImm}
use Rattle.rv_decode.specs.declared.instr.BranchOp.{BranchOp}
use Rattle.rv_decode.specs.declared.instr.ImmOp.TheVariants.{Addi}
use Rattle.rv_decode.specs.declared.instr.UpperOp.TheVariants.{Auipc}
use Rattle.rv_decode.specs.Bits.{add32}
use Rattle.rv_decode.specs.Memory.{extents_of, is_text, lies_in}
use Rattle.rv_decode.specs.Normal.{SameEffect}
use Rattle.rv_decode.specs.Registers.{HasRegisters}
use Rattle.rv_decode.specs.State.{word_at}
use Rattle.rv_decode.specs.System.{is_system}
use Rattle.block_cut.specs.declared.item.Item.{Item}
use Rattle.block_cut.specs.declared.item.Item.TheVariants.{Op, Branch, Jump, Call, Align, Word, Raw, RawShort, RawPair}
use Rattle.sym_machine.specs.Program.{Program}
use Rattle.zca_zcb_pass.specs.Forms.{IsOpposite}
use Rattle.zc_decode.specs.Halfwords.{decoded16}
use Rattle.zc_decode.specs.declared.short.Short.{Short}
use Rattle.zc_decode.specs.declared.short.Short.TheVariants.{Base, MoveAs, MoveSa, Push, TableJump}
use Rattle.zc_machine.specs.declared.reason.Reason.TheVariants.{Illegal}
use Rattle.zc_machine.specs.Fetch.{Found, Missing, fetched_at}
use Rattle.zc_link.specs.Invariants.Groups.{Ending, GroupKind, IsGroup, MovesFromSaved, MovesToSaved, PopOf, PushOf, frame_adjust, group_commits, group_ops, lower_sp, pop_kind, raise_sp, rest_of}
use Rattle.zc_link.specs.Image.{Image, loaded_core}
use Rattle.zc_link.specs.LaidOut.{linked_by}
use Rattle.zc_link.specs.Meant.{meant}
use Rattle.zc_link.specs.Pace.{Stretch, Alone, AlignOf, CallOf, GroupOf, LongOf, TableOf}

-- ---- instructions

-- this instruction is at an address, in `size` bytes
pub record OneAt (e : Image) (a : ℕ) (short : Short) : Type 0 where
  pub size : ℕ
  pub here : fetched_at (loaded_core e) a ≡ Found short size
  pub small : a + size < 2 ^ 32

-- two instructions are at an address, one after the other
pub record TwoAt (e : Image) (a : ℕ) (first second : Short) : Type 0 where
  pub one : OneAt e a first
  pub two : OneAt e (a + one.size) second

-- an instruction or one with the same effect is at an address, and the next place comes after it; `ecall` has no short form
pub record AloneLaid (p : Program) (e : Image) (q : Place) (a : ℕ) (i : Instr) : Type 0 where
  pub registers : HasRegisters i
  pub here : Instr
  pub same : SameEffect here i
  pub at : OneAt e a (Base here)
  pub four : i ≡ Ecall → at.size ≡ 4
  pub next : e.address (p.next q) ≡ Some (a + at.size)

-- ---- items

-- the one instruction that an item is at an address
pub record OneLaid (p : Program) (e : Image) (q : Place) (a : ℕ) (item : Item) : Type 0 where
  pub instr : Instr
  pub is : meant e.address p.item a item ≡ Some instr
  pub laid : AloneLaid p e q a instr

-- the instruction of one of the objects' halfwords is at an address, and the next place comes after it
pub record ShortLaid (p : Program) (e : Image) (q : Place) (a : ℕ) (short : Short) : Type 0 where
  pub at : OneAt e a short
  pub next : e.address (p.next q) ≡ Some (a + at.size)

-- a word is at an address, where no instruction is fetched
pub record UnreadAt (e : Image) (a word : ℕ) : Type 0 where
  pub lies : lies_in is_text (extents_of (loaded_core e).memory) a 4 ≡ true
  pub is : word_at (loaded_core e) a ≡ word
  pub here : fetched_at (loaded_core e) a ≡ Missing Illegal
  pub small : a + 4 < 2 ^ 32

-- an instruction of the system is at an address, and the next place comes after it
pub record SystemLaid (p : Program) (e : Image) (q : Place) (a word : ℕ) : Type 0 where
  pub at : UnreadAt e a word
  pub next : e.address (p.next q) ≡ Some (a + 4)

-- an item that is one instruction; where the symbolic machine is stuck or a section ends, nothing is owed, and padding isn't one
-- instruction
abbrev pub ItemLaid : Program → Image → Place → ℕ → Option Item → Type 0
ItemLaid p e q a None = Unit {0}
ItemLaid p e q a (Some (Word t)) = Unit {0}
ItemLaid p e q a (Some (Raw word)) = is_system word ≡ true → SystemLaid p e q a word
ItemLaid p e q a (Some (RawShort half)) = (short : Short) → decoded16 half ≡ Some short → ShortLaid p e q a short
ItemLaid p e q a (Some (RawPair first second)) = Unit {0}
ItemLaid p e q a (Some item) = OneLaid p e q a item

-- ---- items of several instructions

-- `count` instructions that do nothing (`addi x0,x0,0`) come one after another, from address a to address b
abbrev pub Nops : Image → ℕ → ℕ → ℕ → Type 0
Nops e a zero b = b ≡ a
Nops e a (suc count) b = (at : OneAt e a (Base (WithImm Addi 0 0 (pos 0)))) × Nops e (a + at.size) count b

-- an ALIGN and its padding
pub record AlignLaid (p : Program) (e : Image) (q : Place) (a count : ℕ) : Type 0 where
  pub bytes : ℕ
  pub item : p.item q ≡ Some (Align bytes)
  pub end : ℕ
  pub nops : Nops e a count end
  pub next : e.address (p.next q) ≡ Some end

-- a call of two words: an `auipc` and a `jalr` whose parts lead from here to the place
pub record CallLaid (p : Program) (e : Image) (q : Place) (a : ℕ) : Type 0 where
  pub rd : ℕ
  pub temp : ℕ
  pub to : Place
  pub item : p.item q ≡ Some (Call rd temp to)
  pub temp_low : temp < 32
  pub upper : ℕ
  pub lower : ℤ
  pub at : TwoAt e a (Base (Upper Auipc temp upper)) (Base (Jalr rd temp lower))
  pub reaches : e.address to ≡ Some (add32 ((a + upper * 2 ^ 12) % 2 ^ 32) lower / 2 * 2)
  pub next : e.address (p.next q) ≡ Some (a + at.one.size + at.two.size)

-- a branch of two instructions: one of the opposite condition over both, and a jump to the place
pub record LongLaid (p : Program) (e : Image) (q : Place) (a : ℕ) (op : BranchOp) (first second : ℕ) : Type 0 where
  pub to : Place
  pub item : p.item q ≡ Some (Branch op first second to)
  pub first_low : first < 32
  pub second_low : second < 32
  pub other : BranchOp
  pub opposite : IsOpposite op other
  pub over : ℤ
  pub distance : ℤ
  pub at : TwoAt e a (Base (instr.Branch other first second over)) (Base (Jal 0 distance))
  pub lands : add32 a over ≡ a + at.one.size + at.two.size
  pub reaches : e.address to ≡ Some (add32 (a + at.one.size) distance)
  pub next : e.address (p.next q) ≡ Some (a + at.one.size + at.two.size)

-- ---- groups

-- the place k items on
abbrev pub place_items_on : Program → Place → ℕ → Place
place_items_on p q zero = q
place_items_on p q (suc k) = place_items_on p (p.next q) k

-- from a place on the items are these instructions, without relocation
abbrev pub AreOps : Program → Place → List Instr → Type 0
AreOps p q [] = Unit {0}
AreOps p q (i ∷ is) = (p.item q ≡ Some (Op i)) × AreOps p (p.next q) is

-- an instruction stands at an address, or one with the same effect
pub record FormAt (e : Image) (a : ℕ) (i : Instr) : Type 0 where
  pub here : Instr
  pub same : SameEffect here i
  pub at : OneAt e a (Base here)

-- from an address to another stands what moves sp by the rest of a frame, if there is a rest
abbrev pub RestAt : Image → ℕ → ℕ → Instr → ℕ → Type 0
RestAt e a rest i end = ((rest ≡ 0) × (end ≡ a)) ⊎ ((0 < rest) × (form : FormAt e a i) × (end ≡ a + form.at.size))

-- a push: its halfword at address a, and then what moves sp by the rest of its frame, up to the address `end`
pub record PushAt (e : Image) (a list frame end : ℕ) : Type 0 where
  pub half : OneAt e a (Push list (frame_adjust list frame))
  pub rest : RestAt e (a + half.size) (rest_of list frame) (lower_sp (rest_of list frame)) end

-- a pop: what moves sp by the rest of its frame, from address a on, and then its halfword, up to the address `end`
pub record PopAt (e : Image) (a : ℕ) (ending : Ending) (list frame end : ℕ) : Type 0 where
  pub middle : ℕ
  pub rest : RestAt e a (rest_of list frame) (raise_sp (rest_of list frame)) middle
  pub half : OneAt e middle (pop_kind ending list (frame_adjust list frame))
  pub ends : end ≡ middle + half.size

-- one halfword, from address a to the address `end`
pub record HalfAt (e : Image) (a : ℕ) (short : Short) (end : ℕ) : Type 0 where
  pub half : OneAt e a short
  pub ends : end ≡ a + half.size

-- a group, from address a to the address `end`
abbrev pub GroupAt : Image → ℕ → GroupKind → ℕ → Type 0
GroupAt e a (PushOf list frame order) end = PushAt e a list frame end
GroupAt e a (PopOf ending list frame order) end = PopAt e a ending list frame end
GroupAt e a (MovesToSaved order first second) end = HalfAt e a (MoveSa first second) end
GroupAt e a (MovesFromSaved order first second) end = HalfAt e a (MoveAs first second) end

-- from a place on, `items` items are a group, which is written as `commits` instructions; the places inside it aren't listed, and
-- the one after it is
pub record GroupLaid (p : Program) (e : Image) (q : Place) (a items commits : ℕ) : Type 0 where
  pub kind : GroupKind
  pub is : IsGroup kind
  pub ops : AreOps p q (group_ops kind)
  pub items_are : items ≡ length (group_ops kind)
  pub commits_are : commits ≡ group_commits kind
  pub end : ℕ
  pub at : GroupAt e a kind end
  pub inside : (k : ℕ) → 0 < k → k < items → e.address (place_items_on p q k) ≡ None
  pub next : e.address (place_items_on p q items) ≡ Some end

-- ---- the jump table

-- a place's item goes to another place, and puts the next address in this register
pub data GoesTo (p : Program) (q : Place) (rd : ℕ) (to : Place) : Type 0 where
  ByJump : p.item q ≡ Some (Jump rd to) → GoesTo p q rd to
  ByCall : (temp : ℕ) → p.item q ≡ Some (Call rd temp to) → GoesTo p q rd to

-- the address of a slot of the table, with which the text begins
abbrev pub slot_address : Image → ℕ → ℕ
slot_address e slot = e.map.text + 4 * slot

-- a slot of the table is a word of the text, which holds a place's address
pub record SlotHolds (e : Image) (slot : ℕ) (to : Place) : Type 0 where
  pub small : slot_address e slot < 2 ^ 32
  pub lies : lies_in is_text (extents_of (loaded_core e).memory) (slot_address e slot) 4 ≡ true
  pub leads : e.address to ≡ Some (word_at (loaded_core e) (slot_address e slot))

-- a jump or call through a slot of the table; the image doesn't start at the program's start, so that jvt is the table's
-- address
pub record TableLaid (p : Program) (e : Image) (q : Place) (a slot : ℕ) : Type 0 where
  pub to : Place
  pub goes : GoesTo p q (linked_by slot) to
  pub at : OneAt e a (TableJump slot)
  pub entry : SlotHolds e slot to
  pub elsewhere : e.address p.entry ≡ Some e.entry → ⊥
  pub next : e.address (p.next q) ≡ Some (a + at.size)

-- ---- stretches

abbrev pub StretchLaid : Program → Image → Place → ℕ → Stretch → Type 0
StretchLaid p e q a Alone = ItemLaid p e q a (p.item q)
StretchLaid p e q a (AlignOf count) = AlignLaid p e q a count
StretchLaid p e q a CallOf = CallLaid p e q a
StretchLaid p e q a (LongOf op first second) = LongLaid p e q a op first second
StretchLaid p e q a (GroupOf items commits) = GroupLaid p e q a items commits
StretchLaid p e q a (TableOf slot) = TableLaid p e q a slot
