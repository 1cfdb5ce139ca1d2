-- An image that does what a program does, does what another program does whose places are moved: the values in a state of the other
-- program are those of the state with its places moved, since the places in it are named, and there `auipc` items have the same
-- targets, moved.
use Rattle.std.proofs.Common.{◌≡◌, ℕ, List, length, Option, Some, None, refl, sym, ap, ◌∙◌, subst, arith, inl, inr, true≢false}
use Rattle.std.specs.Prelude.{◌+◌, ◌*◌, ◌%◌, ◌^◌, ◌⊎◌, IsSome, map}
use Rattle.std.specs.Option.{option_and_then, option_map}
use Rattle.std.proofs.lemmas.List.{length-map}
use Rattle.zc_base.specs.declared.mem_map.MemMap.{MemMap}
use Rattle.zc_base.specs.declared.place.Place.{Place}
use Rattle.block_cut.specs.declared.item.Item.{Item}
use Rattle.psabi_reloc.specs.Parts.{hi20_of}
use Rattle.psabi_sym.specs.Inputs.{Inputs, parsed}
use Rattle.psabi_sym.specs.declared.target.Target.{Target}
use Rattle.psabi_sym.specs.declared.target.Target.TheVariants as target
use Rattle.rv_decode.specs.State.{ZcState, byte_in, reg_in}
use Rattle.sym_machine.specs.AddressParts.{pc_target}
use Rattle.sym_machine.specs.Events.{event_in}
use Rattle.sym_machine.specs.Objects.{program_of}
use Rattle.sym_machine.specs.Program.{Program}
use Rattle.sym_machine.specs.State.{PlainCore, PlainState, cell_of, first_plain, reg_of}
use Rattle.sym_machine.specs.declared.word.SymByte.{SymByte}
use Rattle.sym_machine.specs.declared.word.SymByte.TheVariants.{Num, Part, Undef}
use Rattle.sym_machine.specs.declared.word.SymWord.{SymWord}
use Rattle.sym_machine.specs.declared.word.Value.{Value}
use Rattle.sym_machine.specs.declared.word.Value.TheVariants.{AbsHi, Code, PcHi}
use Rattle.sym_machine.proofs.EventLaws.{numeric_same, run_numeric}
use Rattle.moved_runs.specs.Moved.{moved_at, moved_byte, moved_item, moved_result, moved_state, moved_target, moved_value, moved_word}
use Rattle.moved_runs.specs.Moves.{IsMovedState, KeepsRuns, Moves, MovesExactly, MovesSharing}
use Rattle.moved_runs.specs.Named.{IsNamedByte, IsNamedValue, IsNamedWord}
use Rattle.moved_runs.specs.Passes.{with_files}
use Rattle.moved_runs.proofs.Runs.{after-named, same-runs, sharing-named}
use Rattle.moved_runs.proofs.States.{NamedCore, cell-moved, cell-named, reg-moved, reg-named}
use Rattle.moved_runs.proofs.Words.{pc-target-moved}
use Rattle.section_gc.specs.Collected.{Collection, IsCollection, IsInNeeded, collected_place}
use Rattle.tail_merge.specs.Merged.{merged_place}
use Rattle.tail_merge.specs.Merging.{IsAnywhere, IsHeld, IsMerging, Merging, MovesUppers}
use Rattle.zc_link.specs.Image.{Image}
use Rattle.zc_link.specs.Preserves.{FollowsWithin, Preserves, aligns_of}
use Rattle.zc_link.specs.Stands.{ByteStands, IsMemory, Stands, WordStands}
use Rattle.zc_link.specs.Values.{target_value, value_in, way}
use Rattle.zc_link.proofs.Induction.{without_devices}
use Rattle.zcld.specs.Headline.{PreservesMoved}

-- an image with each place looked up where it was moved to
abbrev moved_image : (Place → Place) → Image → Image
moved_image M e = record e { address = λ q. e.address (M q) }

module _ (K V : Place → Type 0) (M : Place → Place) (p p' : Program) (moves : Moves K V M p p') (uppers : MovesUppers K M p p') where
  -- addresses of data and of the stack are the same
  memory_same : (a : ℕ) → IsMemory p a → IsMemory p' a
  memory_same a is =
      let map = moves.map in
      let count : length p'.bytes ≡ length p.bytes = ap length moves.bytes ∙ length-map p.bytes (moved_byte M) in
      let low = ap (λ (m : MemMap). m.data_low) map in
      let stack_low = ap (λ (m : MemMap). m.stack_low) map in
      let stack_high = ap (λ (m : MemMap). m.stack_high) map in
      elim is [
        | inl here ↦ inl (omega (arith, here.0, low), omega (arith, here.1, low, count))
        | inr stack ↦ inr (omega (arith, stack.0, stack_low), omega (arith, stack.1, stack_high))
      ]

  module _ (A : Place → Option ℕ) where
    -- the address of a place, where it was moved to
    abbrev moved_address : Place → Option ℕ
    moved_address q = A (M q)

    target_same : (o : Option Target) → option_and_then (target_value A) (option_map (moved_target M) o) ≡ option_and_then (target_value moved_address) o
    target_same None = refl
    target_same (Some (target.Code t)) = refl
    target_same (Some (target.Number n)) = refl
    target_same (Some (target.Absent n)) = refl
    target_same (Some target.Nowhere) = refl

    value_same : (v : Value) → IsNamedValue K v → value_in p' A (moved_value M v) ≡ value_in p moved_address v
    value_same (Code q) k = refl
    value_same (AbsHi q) k = refl
    value_same (PcHi q) k =
        let same : option_and_then (target_value A) (pc_target (p'.item (M q))) ≡ option_and_then (target_value moved_address) (pc_target (p.item q)) =
        ap (option_and_then (target_value A)) (uppers q k) ∙ target_same (pc_target (p.item q)) in
        ap (λ (o : Option ℕ). option_and_then (λ a. option_map (λ t. (a + hi20_of (way a t) * 2 ^ 12) % 2 ^ 32) o) (A (M q))) same

    byte_stands : (b : SymByte) (x : ℕ) → IsNamedByte K b → ByteStands (value_in p' A) (moved_byte M b) x → ByteStands (value_in p moved_address) b x
    byte_stands (Num n) x k h = h
    byte_stands (Part v i) x k h = (h.0, sym (value_same v k) ∙ h.1, h.2)
    byte_stands Undef x k h = tt

    word_stands : (w : SymWord) (n : ℕ) → IsNamedWord K w → WordStands (value_in p' A) (moved_word M w) n → WordStands (value_in p moved_address) w n
    word_stands w n k h = record {
      b0 = byte_stands w.b0 _ k.b0 h.b0;
      b1 = byte_stands w.b1 _ k.b1 h.b1;
      b2 = byte_stands w.b2 _ k.b2 h.b2;
      b3 = byte_stands w.b3 _ k.b3 h.b3;
    }

    -- what the state with its places moved stands for, the state does; it stands at its own place, moved, unless it has exited
    stands : (s : PlainCore) (q : Place) (z : ZcState) → NamedCore K s → (s.exit ≡ None → q ≡ M s.place) → Stands p' A (moved_at M q s) z → Stands p moved_address s z
    stands s q z named own h = record {
      registers = λ r lt. word_stands (reg_of s r) (reg_in z.core r) (reg-named K s r named) (subst (λ w. WordStands (value_in p' A) w (reg_in z.core r)) (reg-moved M q s r) (h.registers r lt));
      memory = λ a is. byte_stands (cell_of s a) (byte_in z.core a) (cell-named K s a named) (subst (λ b. ByteStands (value_in p' A) b (byte_in z.core a)) (cell-moved M q s a) (h.memory a (memory_same a is)));
      input = h.input;
      place = λ running. sym (ap A (own running)) ∙ h.place running;
    }

-- step for step
module _ (K V : Place → Type 0) (M : Place → Place) (p p' : Program) (exact : MovesExactly K V M p p') where
  -- where a place is moved to stands the same item, moved, or none
  item_moved : (q : Place) → K q → p'.item (M q) ≡ option_map (moved_item M) (p.item q)
  item_moved q k = by (p.item q) refl
    where
      by : (o : Option Item) → p.item q ≡ o → p'.item (M q) ≡ option_map (moved_item M) o
      by (Some i) is = let kept = exact.keeps q i (exact.moves.visits q k) is in kept.there
      by None is = exact.nowhere q (exact.moves.visits q k) is

  exact_uppers : MovesUppers K M p p'
  exact_uppers q k = ap pc_target (item_moved q k) ∙ pc-target-moved M (p.item q)

  follows_moved : (e : Image) → FollowsWithin 64 p' e → FollowsWithin 64 p (moved_image M e)
  follows_moved e follows input n s small runs =
      let there = same-runs K V M p p' exact input n ∙ ap (moved_result M) runs in
      let so = follows input n (moved_state M s) small there in (
        so.0,
        so.1,
        λ plan is.
            let z = so.2 plan is in (
              z.0,
              z.1,
              record {
                events = z.2.events ∙ numeric_same e.address (λ q. e.address (M q)) s.events (run_numeric p (first_plain p input) n s runs);
                stands = λ known. stands K V M p p' exact.moves exact_uppers e.address s.core (M s.core.place) z.0 (after-named K V M p p' exact input n s runs) (λ running. refl) (z.2.stands known);
              },
            ),
      )

-- within twice the steps
module _ (K V : Place → Type 0) (M : Place → Place) (p p' : Program) (sharing : MovesSharing K V M p p') (uppers : MovesUppers K M p p') (keeps : KeepsRuns M p p') where
  -- if it is known where the one state stands, or it has exited, the same holds of the other
  known_there : (A : Place → Option ℕ) (r t : PlainState) → IsMovedState M r t → IsSome (A (M r.core.place)) ⊎ IsSome r.core.exit → IsSome (A t.core.place) ⊎ IsSome t.core.exit
  known_there A r t moved known = by r.core.exit refl
    where
      by : (o : Option ℕ) → r.core.exit ≡ o → IsSome (A t.core.place) ⊎ IsSome t.core.exit
      by None running = elim known [
        | inl place ↦ inl (subst (λ q. IsSome (A q)) (sym (moved.place running)) place)
        | inr exited ↦ absurd (true≢false (sym (subst IsSome running exited)))
      ]
      by (Some status) exited = let same : t.core.exit ≡ Some status = ap (λ (s : PlainCore). s.exit) moved.core ∙ exited in let some : IsSome (Some status) = refl in inr (subst IsSome (sym same) some)

  follows_shared : (e : Image) → FollowsWithin 64 p' e → FollowsWithin 128 p (moved_image M e)
  follows_shared e follows input n r small runs =
      let came = keeps input n r runs in
      let t = came.2 in
      let moved : IsMovedState M r t = came.4 in
      let so = follows input came.0 t small came.3 in
      let twice = came.1 in
      let few = so.1 in (
        so.0,
        omega (arith, few, twice),
        λ plan is.
            let z = so.2 plan is in (
              z.0,
              z.1,
              record {
                events =
                    z.2.events ∙ ap (map (event_in e.address)) moved.events
                    ∙ numeric_same e.address (λ q. e.address (M q)) r.events (run_numeric p (first_plain p input) n r runs);
                stands = λ known. stands K V M p p' sharing.moves uppers e.address r.core t.core.place z.0 (sharing-named K V M p p' sharing input n r runs) moved.place
                    (subst (λ s. Stands p' e.address s z.0) moved.core (z.2.stands (known_there e.address r t moved known)));
              },
            ),
      )

-- an image of what is left of objects preserves them
pub collection_preserves : (inputs : Inputs) (c : Collection) → IsCollection inputs c → (elf : List ℕ) → Preserves (with_files inputs c.files) elf
    → PreservesMoved 64 (collected_place inputs) inputs elf
collection_preserves inputs c is elf preserves = record {
  image = preserves.image;
  read = preserves.read;
  follows = follows_moved (IsInNeeded is.needed) (IsInNeeded is.needed) (collected_place inputs) (program_of (parsed inputs)) (program_of (parsed (with_files inputs c.files)))
      is.collected.moves preserves.image
      (without_devices (program_of (parsed (with_files inputs c.files))) (aligns_of (parsed (with_files inputs c.files))) preserves.image preserves.follows);
}

-- and so does one of objects with equal tails shared
pub merging_preserves : (inputs : Inputs) (m : Merging) → IsMerging inputs m → (elf : List ℕ) → Preserves (with_files inputs m.files) elf
    → PreservesMoved 128 (merged_place (parsed inputs)) inputs elf
merging_preserves inputs m is elf preserves = record {
  image = preserves.image;
  read = preserves.read;
  follows = follows_shared (IsHeld (parsed inputs)) IsAnywhere (merged_place (parsed inputs)) (program_of (parsed inputs)) (program_of (parsed (with_files inputs m.files)))
      is.merged.shares is.merged.uppers is.merged.runs preserves.image
      (without_devices (program_of (parsed (with_files inputs m.files))) (aligns_of (parsed (with_files inputs m.files))) preserves.image preserves.follows);
}
