-- Items, states and changes under a map of places: each place in them is moved.
use Rattle.std.specs.Prelude.{ℕ, List, map, Option, Some, None, Result, Ok, Err}
use Rattle.zc_base.specs.declared.place.Place.{Place}
use Rattle.psabi_sym.specs.declared.target.Target.{Target}
use Rattle.psabi_sym.specs.declared.target.Target.TheVariants as target
use Rattle.block_cut.specs.declared.data_word.DataWord.{DataWord}
use Rattle.block_cut.specs.declared.item.Item.{Item}
use Rattle.block_cut.specs.declared.item.Item.TheVariants as item
use Rattle.rv_decode.specs.Memory.{Region}
use Rattle.sym_machine.specs.declared.why.Why.{Why}
use Rattle.sym_machine.specs.declared.word.Value.{Value}
use Rattle.sym_machine.specs.declared.word.Value.TheVariants.{Code, AbsHi, PcHi}
use Rattle.sym_machine.specs.declared.word.SymByte.{SymByte}
use Rattle.sym_machine.specs.declared.word.SymByte.TheVariants.{Num, Part, Undef}
use Rattle.sym_machine.specs.declared.word.SymWord.{SymWord}
use Rattle.sym_machine.specs.Change.{Change, Does, Goes, Stops}
use Rattle.sym_machine.specs.State.{PlainCore, PlainState}
use Rattle.sym_machine.specs.Step.{PlainStep, Went, Stuck}

-- ---- targets and items

abbrev pub moved_target : (Place → Place) → Target → Target
moved_target M (target.Code q) = target.Code (M q)
moved_target M (target.Number n) = target.Number n
moved_target M (target.Absent n) = target.Absent n
moved_target M target.Nowhere = target.Nowhere

abbrev pub moved_item : (Place → Place) → Item → Item
moved_item M (item.Op i) = item.Op i
moved_item M (item.Hi i t) = item.Hi i (moved_target M t)
moved_item M (item.Lo i t) = item.Lo i (moved_target M t)
moved_item M (item.PcHi i t) = item.PcHi i (moved_target M t)
moved_item M (item.PcLo i q) = item.PcLo i (M q)
moved_item M (item.Branch op first second to) = item.Branch op first second (M to)
moved_item M (item.Jump rd to) = item.Jump rd (M to)
moved_item M (item.Call rd temp to) = item.Call rd temp (M to)
moved_item M (item.Align n) = item.Align n
moved_item M (item.Word t) = item.Word (moved_target M t)
moved_item M (item.Raw w) = item.Raw w
moved_item M (item.RawShort h) = item.RawShort h
moved_item M (item.RawPair v w) = item.RawPair v w

abbrev pub moved_data : (Place → Place) → DataWord → DataWord
moved_data M w = record { at = w.at; target = moved_target M w.target }

-- ---- states

abbrev pub moved_value : (Place → Place) → Value → Value
moved_value M (Code q) = Code (M q)
moved_value M (AbsHi q) = AbsHi (M q)
moved_value M (PcHi q) = PcHi (M q)

abbrev pub moved_byte : (Place → Place) → SymByte → SymByte
moved_byte M (Num n) = Num n
moved_byte M (Part v i) = Part (moved_value M v) i
moved_byte M Undef = Undef

abbrev pub moved_word : (Place → Place) → SymWord → SymWord
moved_word M w = record { b0 = moved_byte M w.b0; b1 = moved_byte M w.b1; b2 = moved_byte M w.b2; b3 = moved_byte M w.b3 }

abbrev pub moved_region : (Place → Place) → Region SymByte → Region SymByte
moved_region M r = record r { cells = map (moved_byte M) r.cells }

abbrev pub moved_memory : (Place → Place) → List (Region SymByte) → List (Region SymByte)
moved_memory M memory = map (moved_region M) memory

abbrev pub moved_regs : (Place → Place) → List SymWord → List SymWord
moved_regs M regs = map (moved_word M) regs

-- a state under the map, standing at a place that is given
abbrev pub moved_at : (Place → Place) → Place → PlainCore → PlainCore
moved_at M q s = record { place = q; regs = moved_regs M s.regs; memory = moved_memory M s.memory; input = s.input; exit = s.exit }

-- a state under the map, with its events; its own place is moved as well
abbrev pub moved_state : (Place → Place) → PlainState → PlainState
moved_state M r = record r { core = moved_at M (M r.core.place) r.core }

-- what a run comes to: a state, or the place where the machine is stuck, and why
abbrev pub moved_result : (Place → Place) → Result PlainState (Place × Why) → Result PlainState (Place × Why)
moved_result M (Ok r) = Ok (moved_state M r)
moved_result M (Err e) = Err (M e.0, e.1)

-- ---- steps

-- where a step that began at a place ends up; with the exit it stays there
abbrev pub landing : (Place → Place) → Place → Option ℕ → Place → Place
landing M from None q = M q
landing M from (Some status) q = from

abbrev pub moved_write : (Place → Place) → ℕ × SymWord → ℕ × SymWord
moved_write M w = (w.0, moved_word M w.1)

abbrev pub moved_store : (Place → Place) → ℕ × List SymByte → ℕ × List SymByte
moved_store M w = (w.0, map (moved_byte M) w.1)

-- a change, by a step that begins at a place
abbrev pub moved_change : (Place → Place) → Place → Change → Change
moved_change M from c = record {
  place = landing M from c.exit c.place;
  writes = map (moved_write M) c.writes;
  stores = map (moved_store M) c.stores;
  taken = c.taken;
  exit = c.exit;
  events = c.events;
}

abbrev pub moved_does : (Place → Place) → Place → Does → Does
moved_does M from (Goes c) = Goes (moved_change M from c)
moved_does M from (Stops why) = Stops why

abbrev pub moved_step : (Place → Place) → Place → PlainStep → PlainStep
moved_step M from (Went s events) = Went (moved_at M (landing M from s.exit s.place) s) events
moved_step M from (Stuck why) = Stuck why
