-- How many steps of the program are matched by how many commits of the machine.
use Rattle.std.specs.Prelude.{ℕ, ◌+◌, ◌-◌, ◌/◌, ◌%◌, Bool, true, false, ◌==◌, if◌then◌else◌, Option, Some, None}
use Rattle.zc_base.specs.declared.place.Place.{Place}
use Rattle.rv_decode.specs.declared.instr.BranchOp.{BranchOp}
use Rattle.block_cut.specs.declared.item.Item.TheVariants.{Branch, Call, Align}
use Rattle.frame_match.specs.declared.group.Group.{Group}
use Rattle.shrink_layout.specs.Units.{CodeUnit, OneGroup, OneItem, OneSite}
use Rattle.sym_machine.specs.Conditions.{condition}
use Rattle.sym_machine.specs.Program.{Program}
use Rattle.sym_machine.specs.State.{PlainCore, reg_of}
use Rattle.zc_link.specs.Image.{Image}

-- a number of steps by the place, and a number of commits by the program's state
pub record Pace : Type 0 where
  pub span : Place → ℕ
  pub weight : PlainCore → ℕ

-- ---- stretches

-- what starts at a place: an item that is one instruction; an ALIGN of `count` instructions; a call of two; a branch of two; a
-- group of `items` items in `commits` instructions; or a jump or call through a slot of the jump table
pub data Stretch : Type 0 where
  Alone : Stretch
  AlignOf : (count : ℕ) → Stretch
  CallOf : Stretch
  LongOf : (op : BranchOp) → (first second : ℕ) → Stretch
  GroupOf : (items commits : ℕ) → Stretch
  TableOf : (slot : ℕ) → Stretch

-- the number of items of a stretch
abbrev pub span_of : Stretch → ℕ
span_of Alone = 1
span_of (AlignOf count) = 1
span_of CallOf = 1
span_of (LongOf op first second) = 1
span_of (GroupOf items commits) = items
span_of (TableOf slot) = 1

-- the commits of a branch of two instructions: both if it is taken, and else only the first, which goes over the second
abbrev pub long_commits : Option Bool → ℕ
long_commits None = 1
long_commits (Some false) = 1
long_commits (Some true) = 2

-- the number of commits of a stretch, by the program's state
abbrev pub commits_of : Program → PlainCore → Stretch → ℕ
commits_of p s Alone = 1
commits_of p s (AlignOf count) = count
commits_of p s CallOf = 2
commits_of p s (LongOf op first second) = long_commits (condition p op (reg_of s first) (reg_of s second))
commits_of p s (GroupOf items commits) = commits
commits_of p s (TableOf slot) = 1

-- the pace of an image in which these stretches start at places
abbrev pub pace_of : Program → (Place → Stretch) → Pace
pace_of p stretch = record { span = λ q. span_of (stretch q); weight = λ s. commits_of p s (stretch s.place) }

-- ---- stretches of a layout

-- the number of bytes between two addresses
abbrev pub bytes_between : Option ℕ → Option ℕ → ℕ
bytes_between None b = 0
bytes_between (Some a) None = 0
bytes_between (Some a) (Some b) = b - a

-- the number of instructions that fill n bytes of padding: words, and a halfword if words don't
abbrev pub padding_commits : ℕ → ℕ
padding_commits n = n / 4 + n % 4 / 2

-- the number of instructions of a group: one, or two if one doesn't move sp by all of its frame
abbrev pub commits_in : Group → ℕ
commits_in g = if g.rest == 0 then 1 else 2

-- the stretch of what is written in n bytes
abbrev pub stretch_of : ℕ → Option CodeUnit → Stretch
stretch_of n (Some (OneItem (Branch op first second to))) = if n == 8 then LongOf op first second else Alone
stretch_of n (Some (OneItem (Call rd temp to))) = if n == 8 then CallOf else Alone
stretch_of n (Some (OneItem (Align bytes))) = AlignOf (padding_commits n)
stretch_of n (Some (OneGroup g)) = GroupOf g.items (commits_in g)
stretch_of n (Some (OneSite slot)) = TableOf slot
stretch_of n _ = Alone

-- ---- the start

-- the number of commits before the program's start: none if the image starts there, or else the three of the stub that sets jvt
abbrev pub lead_from : Option ℕ → ℕ → ℕ
lead_from None entry = 3
lead_from (Some start) entry = if start == entry then 0 else 3

abbrev pub lead_of : Program → Image → ℕ
lead_of p e = lead_from (e.address p.entry) e.entry
