-- The definitions on small cases, computed.
use Rattle.std.specs.Prelude.{◌≡◌, ℕ, List, [], ◌∷◌, true, false, Some, None, refl}
use Rattle.zc_base.specs.declared.place.Place.{Place}
use Rattle.rv_decode.specs.declared.instr.BranchOp.TheVariants.{Beq}
use Rattle.block_cut.specs.declared.item.Item.TheVariants.{Align, Branch, Call, RawPair}
use Rattle.shrink_layout.specs.Units.{OneItem}
use Rattle.zc_link.specs.Pace.{AlignOf, Alone, bytes_between, CallOf, lead_from, long_commits, LongOf, padding_commits, stretch_of}
use Rattle.zc_link.specs.Places.{listed_address}
use Rattle.zc_link.proofs.PartLaws.{pc_upper}

place_at : ℕ → Place
place_at offset = record { object = 0; section = 1; offset = offset }

places : List (Place × ℕ)
places = (place_at 0, 0x10000) ∷ (place_at 4, 0x10002) ∷ []

listed : listed_address places (place_at 4) ≡ Some 0x10002
unfolding places place_at
listed = refl

not_listed : listed_address places (place_at 2) ≡ None
unfolding places place_at
not_listed = refl

other_section : listed_address places (record { object = 0; section = 2; offset = 4 }) ≡ None
unfolding places place_at
other_section = refl

-- no commit comes before a program whose start is the image's entry; or else three do, of the stub
starts_at_the_entry : lead_from (Some 0x10000) 0x10000 ≡ 0
starts_at_the_entry = refl

starts_after_the_stub : lead_from (Some 0x10010) 0x10004 ≡ 3
starts_after_the_stub = refl

-- a long branch that isn't taken goes over its jump
over_the_jump : long_commits (Some false) ≡ 1
over_the_jump = refl

by_the_jump : long_commits (Some true) ≡ 2
by_the_jump = refl

-- in eight bytes a branch and a call are two instructions, and else one
long_branch : stretch_of 8 (Some (OneItem (Branch Beq 10 11 (place_at 4)))) ≡ LongOf Beq 10 11
long_branch = refl

short_branch : stretch_of 2 (Some (OneItem (Branch Beq 10 0 (place_at 4)))) ≡ Alone
short_branch = refl

call_of_two : stretch_of 8 (Some (OneItem (Call 1 1 (place_at 4)))) ≡ CallOf
call_of_two = refl

call_of_one : stretch_of 4 (Some (OneItem (Call 1 1 (place_at 4)))) ≡ Alone
call_of_one = refl

-- eight bytes that are copied unread are one piece too
pair_of_words : stretch_of 8 (Some (OneItem (RawPair 0 0))) ≡ Alone
pair_of_words = refl

-- padding of a word and a halfword, and of none
padding_piece : stretch_of 6 (Some (OneItem (Align 6))) ≡ AlignOf 2
padding_piece = refl

padding_of_six : padding_commits 6 ≡ 2
padding_of_six = refl

no_padding : padding_commits (bytes_between (Some 0x10010) (Some 0x10010)) ≡ 0
no_padding = refl

-- what an `auipc` gives: within 2048 bytes of the target, on either side
forwards : pc_upper 0x10000 0x100FFC ≡ 0x101000
forwards = refl

backwards : pc_upper 0x10010 0x10000 ≡ 0x10010
backwards = refl
