-- The items of a section whose tails are shared: outside of the removed tails the same stand, with their places moved, and at each
-- removed tail's start a jump to its host.
use Rattle.std.proofs.Common.{◌≡◌, ℕ, ◌≤◌, ◌⊎◌, inl, inr, ℤ, pos, negsuc, ◌+ℤ◌, ◌-ℤ◌, List, [], length, Bool, true, false, cond, eqb, Option, Some, None, refl, sym, ap, ◌∙◌, subst, arith, eq-eqb}
use Rattle.std.specs.Prelude.{◌||◌}
use Rattle.std.specs.List.{find}
use Rattle.std.specs.Option.{option_and_then, option_map, option_map_or}
use Rattle.std.proofs.lemmas.Bool.{eqb-true}
use Rattle.zc_base.specs.Fields.{half_in, word_in}
use Rattle.zc_base.specs.declared.place.Place.{Place}
use Rattle.zc_base.proofs.PlaceLaws.{same_place-refl}
use Rattle.elf32_read.specs.Parts.{ObjectParts, SectionParts, is_code_section}
use Rattle.elf32_read.specs.declared.reloc.Reloc.{Reloc}
use Rattle.psabi_sym.specs.Indexed.{IndexedSection, section_at}
use Rattle.psabi_sym.specs.Inputs.{ParsedInputs}
use Rattle.psabi_reloc.specs.Kinds.{kind_of}
use Rattle.rv_decode.specs.declared.instr.BranchOp.{BranchOp}
use Rattle.rv_decode.specs.declared.instr.Instr.{Instr}
use Rattle.rv_decode.specs.declared.instr.Instr.TheVariants as instr
use Rattle.zc_decode.specs.Halfwords.{decoded16}
use Rattle.zc_decode.specs.declared.short.Short.{Short}
use Rattle.zc_decode.specs.declared.short.Short.TheVariants.{Base, Push, Pop, PopRet, PopRetz, MoveSa, MoveAs, TableJump}
use Rattle.block_cut.specs.CodeSizes.{own_size}
use Rattle.block_cut.specs.Items.{code_at, instr_item, is_target_at, item_in, item_under, known_item, place_of, place_on, raw_in, size_on, spelled_item, starts_on, target_away, target_of}
use Rattle.block_cut.specs.Leaders.{goes_to}
use Rattle.block_cut.specs.Relocs.{field_of, instr_in, normal_base, reloc_on}
use Rattle.block_cut.specs.Whole.{IsWhole}
use Rattle.block_cut.specs.declared.item.Item.{Item}
use Rattle.block_cut.specs.declared.item.Item.TheVariants as item
use Rattle.block_cut.proofs.PlainLaws.{target_on}
use Rattle.block_cut.proofs.RawLaws.{raw_by}
use Rattle.block_cut.proofs.SoundLaws.{sound_at}
use Rattle.block_cut.proofs.WholeLaws.{code_at_is}
use Rattle.sym_machine.specs.AddressParts.{pc_target}
use Rattle.sym_machine.specs.Conditions.{is_solid}
use Rattle.sym_machine.specs.Expansions.{expansion}
use Rattle.moved_runs.specs.Moved.{moved_item, moved_target}
use Rattle.moved_runs.specs.Moves.{IsDead}
use Rattle.moved_runs.specs.Passes.{renumbered}
use Rattle.moved_runs.proofs.MovedKinds.{raw-unread}
use Rattle.tail_merge.specs.Tails.{Removed, covers, first_offset, host_offset, merged_offset, moved_down, removed_tails, tail_start}
use Rattle.tail_merge.specs.Merged.{addend_to, indexed, instr_bytes, is_align_kind, merged_bytes, merged_place, merged_reloc, new_distance, removed_at, removed_in, transfer_instr}
use Rattle.tail_merge.proofs.CoveredLaws.{outside-stays, stays-none}
use Rattle.tail_merge.proofs.DistanceLaws.{IsWay, still-even, still-fits, there-and-back, way-between, way-of}
use Rattle.tail_merge.proofs.HeldLaws.{new-length}
use Rattle.tail_merge.proofs.InstrLaws.{IsNoFurther, IsOutsideItem, branch-back, even-tails, held-at, jump-back, new-instr, same-instr, same-plain, same-under}
use Rattle.tail_merge.proofs.ItemsLaws.{removed-apart}
use Rattle.tail_merge.proofs.OffsetLaws.{Outside}
use Rattle.tail_merge.proofs.ReadLaws.{SameBytes, half-same, word-same}
use Rattle.tail_merge.proofs.RelocatedItems.{relocated-moved}

-- neither padding nor an `auipc` with a relocation
abbrev pub IsNeither : Item → Type 0
IsNeither i = (is_solid (Some i) ≡ true) × (pc_target (Some i) ≡ None)

-- what stands at a place in the result: the same item, moved, or in place of one where the machine is stuck anything but padding and
-- upper parts
abbrev pub IsItemThere : (Place → Place) → Item → Item → Type 0
IsItemThere M i j = (IsDead i × IsNeither j) ⊎ (j ≡ moved_item M i)

-- ---- what is copied unread

-- it is no branch and no jump
raw-transfers : (distance : Place → ℤ) (size : ℕ) (bytes : List ℕ) (n : ℕ) → transfer_instr distance (raw_in size bytes n) ≡ None
raw-transfers distance size bytes n = raw_by (λ i. transfer_instr distance i ≡ None) (λ h. refl) (λ w. refl) size bytes n

same-raw : (size : ℕ) → (size ≡ 2) ⊎ (size ≡ 4) → (xs : List ℕ) (n : ℕ) (ys : List ℕ) (m : ℕ) → SameBytes size xs n ys m
    → raw_in size xs n ≡ raw_in size ys m
same-raw size (inl two) xs n ys m same =
    subst (λ k. raw_in k xs n ≡ raw_in k ys m) (sym two) (ap item.RawShort (half-same size xs n ys m same (omega (arith, two))))
same-raw size (inr four) xs n ys m same =
    subst (λ k. raw_in k xs n ≡ raw_in k ys m) (sym four) (ap item.Raw (word-same size xs n ys m same (omega (arith, four))))

-- where it spells an instruction the machine is stuck at it
raw-dead : (size : ℕ) (bytes : List ℕ) (n : ℕ) (i : Instr) → instr_in size bytes n ≡ Some i → IsDead (raw_in size bytes n)
raw-dead size bytes n i is = by (eqb size 2) refl
  where
    short : (o : Option Short) → normal_base o ≡ Some i → option_and_then expansion o ≡ None
    short None h = absurd cc
    short (Some (Base j)) h = refl
    short (Some (Push list adjust)) h = absurd cc
    short (Some (Pop list adjust)) h = absurd cc
    short (Some (PopRet list adjust)) h = absurd cc
    short (Some (PopRetz list adjust)) h = absurd cc
    short (Some (MoveSa first second)) h = absurd cc
    short (Some (MoveAs first second)) h = absurd cc
    short (Some (TableJump index)) h = absurd cc

    by : (b : Bool) → eqb size 2 ≡ b → IsDead (cond b (item.RawShort (half_in bytes n)) (item.Raw (word_in bytes n)))
    by false other = tt
    by true two = short (decoded16 (half_in bytes n)) (subst (λ k. instr_in k bytes n ≡ Some i) (eqb-true size 2 two) is)

-- a branch, a jump or raw bytes are neither
goes-solid : (f : Place → Item) → ((p : Place) → IsNeither (f p)) → (o : Option Place) (size : ℕ) (bytes : List ℕ) (n : ℕ)
    → IsNeither (option_map_or f o (raw_in size bytes n))
goes-solid f solid None size bytes n = raw_by IsNeither (λ h. (refl, refl)) (λ w. (refl, refl)) size bytes n
goes-solid f solid (Some p) size bytes n = solid p

-- ---- where a distance leads

-- the place that a distance leads to
pub record IsAway (inputs : ParsedInputs) (q : Place) (d : ℤ) (to : Place) : Type 0 where
  pub offset : ℕ
  pub sum : pos q.offset +ℤ d ≡ pos offset
  pub is : to ≡ record q { offset = offset }
  pub target : is_target_at inputs.objects to ≡ true

pub away-found : (inputs : ParsedInputs) (q : Place) (d : ℤ) (to : Place) → target_away inputs.objects q d ≡ Some to → IsAway inputs q d to
away-found inputs q d to found = by (pos q.offset +ℤ d) refl found
  where
    tested : (m : ℕ) → pos q.offset +ℤ d ≡ pos m → (b : Bool) → is_target_at inputs.objects (record q { offset = m }) ≡ b
        → cond b (Some (record q { offset = m })) None ≡ Some to → IsAway inputs q d to
    tested m sum false leads h = absurd cc
    tested m sum true leads h =
        let same : record q { offset = m } ≡ to = cc in
        record { offset = m; sum = sum; is = sym same; target = ap (is_target_at inputs.objects) (sym same) ∙ leads }

    by : (z : ℤ) → pos q.offset +ℤ d ≡ z
        → option_and_then (λ (p : Place). cond (is_target_at inputs.objects p) (Some p) None) (place_on q z) ≡ Some to
        → IsAway inputs q d to
    by (pos m) sum h = tested m sum (is_target_at inputs.objects (record q { offset = m })) refl h
    by (negsuc m) sum h = absurd cc

-- ---- branches and jumps

-- an item that goes to a place, and the instruction that goes a distance
record IsTransfer (M : Place → Place) (f : Place → Item) (g : ℤ → Instr) : Type 0 where
  reads : (objects : List ObjectParts) (q : Place) (d : ℤ) (raw : Item)
      → instr_item objects q (g d) raw ≡ option_map_or f (target_away objects q d) raw
  transfers : (distance : Place → ℤ) (p : Place) → transfer_instr distance (f p) ≡ Some (g (distance p))
  goes : (p : Place) → goes_to p (f p) ≡ true
  moves : (p : Place) → f (M p) ≡ moved_item M (f p)
  solid : (p : Place) → IsNeither (f p)
  back : (size : ℕ) → (size ≡ 2) ⊎ (size ≡ 4) → (bytes : List ℕ) (n : ℕ) (d e : ℤ) → instr_in size bytes n ≡ Some (g d) → IsNoFurther d e
      → instr_in size (instr_bytes size (g e)) 0 ≡ Some (g e)

branch-transfer : (M : Place → Place) (op : BranchOp) (first second : ℕ) → IsTransfer M (item.Branch op first second) (instr.Branch op first second)
branch-transfer M op first second = record {
  reads = λ objects q d raw. refl;
  transfers = λ distance p. refl;
  goes = same_place-refl;
  moves = λ p. refl;
  solid = λ p. (refl, refl);
  back = λ size sizes bytes n d e is less. branch-back size sizes bytes n op first second d e is less;
}

jump-transfer : (M : Place → Place) (rd : ℕ) → IsTransfer M (item.Jump rd) (instr.Jal rd)
jump-transfer M rd = record {
  reads = λ objects q d raw. refl;
  transfers = λ distance p. refl;
  goes = same_place-refl;
  moves = λ p. refl;
  solid = λ p. (refl, refl);
  back = λ size sizes bytes n d e is less. jump-back size sizes bytes n rd d e is less;
}

-- ---- a section of code, and what becomes of it

module _ (inputs result : ParsedInputs) (o i : ℕ) (s : SectionParts) where
  abbrev pub here : IndexedSection
  here = indexed o i s

  abbrev pub gone : List Removed
  gone = removed_tails inputs here

  -- where what stays in it moves to
  abbrev pub down : ℕ → Place
  down n = record { object = o; section = renumbered inputs.objects o i; offset = moved_down gone n }

  -- the section that it becomes. What no removed tail has inside has no host, and a branch or jump leads to no later item of one;
  -- items start where they are moved to, with their sizes and their relocations, and these lead where the targets are moved to.
  -- Where a removed tail begins, four bytes without relocation do, and where its host's begins is in none
  pub record IsMergedInto (new : SectionParts) : Type 0 where
    pub found : section_at inputs.objects o i ≡ Some s
    pub code : is_code_section s ≡ true
    pub whole : IsWhole s
    pub there : section_at result.objects o (renumbered inputs.objects o i) ≡ Some new
    pub new_code : is_code_section new ≡ true
    pub bytes : new.bytes ≡ merged_bytes inputs here
    pub short : length s.bytes ≤ 0x4_0000
    pub hostless : (n : ℕ) → Outside gone n → host_offset gone n ≡ None
    pub led : (n k : ℕ) → starts_on s n ≡ true → is_target_at inputs.objects (place_of here k) ≡ true
        → goes_to (place_of here k) (item_in inputs s (place_of here n)) ≡ true → Outside gone k
    pub starts : (n : ℕ) → starts_on s n ≡ true → Outside gone n → starts_on new (moved_down gone n) ≡ true
    pub sizes : (n : ℕ) → IsOutsideItem inputs here code whole n → size_on new (moved_down gone n) ≡ size_on s n
    pub relocs : (n : ℕ) → IsOutsideItem inputs here code whole n
        → reloc_on new (moved_down gone n) ≡ option_map (merged_reloc inputs o (removed_at inputs o i)) (reloc_on s n)
    pub targets : (n : ℕ) (r : Reloc) → IsOutsideItem inputs here code whole n → reloc_on s n ≡ Some r → is_align_kind (kind_of r.kind) ≡ false
        → target_of result o (merged_reloc inputs o (removed_at inputs o i) r) ≡ moved_target (merged_place inputs) (target_of inputs o r)
    pub jump_relocs : (n : ℕ) (r : Removed) → starts_on s n ≡ true → find (covers n) gone ≡ Some r → n ≡ tail_start r
        → reloc_on new (moved_down gone n) ≡ None
    pub jump_sizes : (n : ℕ) (r : Removed) → starts_on s n ≡ true → find (covers n) gone ≡ Some r → n ≡ tail_start r
        → size_on new (moved_down gone n) ≡ 4
    pub hosts : (n : ℕ) (r : Removed) → starts_on s n ≡ true → find (covers n) gone ≡ Some r
        → (starts_on s (first_offset r.host) ≡ true) × Outside gone (first_offset r.host)

  module _ (new : SectionParts) (m : IsMergedInto new) where
    abbrev M : Place → Place
    M p = merged_place inputs p

    abbrev IsOutsideHere : ℕ → Type 0
    IsOutsideHere n = IsOutsideItem inputs here m.code m.whole n

    abbrev given : ℕ → Item
    given n = item_in inputs s (place_of here n)

    abbrev made : ℕ → Item
    made n = item_in result new (down n)

    -- ---- places

    pub removed-is : removed_at inputs o i ≡ gone
    removed-is = ap (λ x. option_map_or (λ t. removed_in inputs (indexed o i t)) x []) m.found ∙ ap (λ b. cond b gone []) m.code

    merged-down : (n : ℕ) → Outside gone n → merged_offset gone n ≡ moved_down gone n
    merged-down n out = ap (λ h. option_map_or (moved_down gone) h (moved_down gone n)) (m.hostless n out)

    -- what stays is found where it moves to
    pub place-down : (n : ℕ) → Outside gone n → M (place_of here n) ≡ down n
    place-down n out =
        let offset : merged_offset (removed_at inputs o i) n ≡ moved_down gone n = ap (λ rs. merged_offset rs n) removed-is ∙ merged-down n out in
        λ j. record { object = o; section = renumbered inputs.objects o i; offset = offset j }

    pub code-given : (n : ℕ) → code_at inputs.objects (place_of here n) ≡ Some s
    code-given n = code_at_is inputs.objects (place_of here n) s m.found m.code

    pub code-made : (n : ℕ) → code_at result.objects (down n) ≡ Some new
    code-made n = code_at_is result.objects (down n) new m.there m.new_code

    -- code may lead where a start or the end moves to
    pub target-made : (n : ℕ) → (starts_on s n || eqb n (length s.bytes)) ≡ true → Outside gone n → is_target_at result.objects (down n) ≡ true
    target-made n is out = target_on result.objects (down n) new (code-made n) ∙ by (starts_on s n) refl is
      where
        by : (b : Bool) → starts_on s n ≡ b → (b || eqb n (length s.bytes)) ≡ true
            → (starts_on new (moved_down gone n) || eqb (moved_down gone n) (length new.bytes)) ≡ true
        by true start is = ap (λ b. b || eqb (moved_down gone n) (length new.bytes)) (m.starts n start out)
        by false other is =
            let end : n ≡ length s.bytes = eqb-true n (length s.bytes) is in
            let moved : moved_down gone n ≡ length new.bytes =
            ap (moved_down gone) end ∙ sym (new-length inputs here m.code m.whole) ∙ ap length (sym m.bytes) in
            or-second (starts_on new (moved_down gone n)) (eqb (moved_down gone n) (length new.bytes)) (eq-eqb (moved_down gone n) (length new.bytes) moved)
          where
            or-second : (a b : Bool) → b ≡ true → (a || b) ≡ true
            or-second true b is = refl
            or-second false b is = is

    -- the distance between two offsets leads from the one to the other
    pub away-made : (n k : ℕ) → (starts_on s k || eqb k (length s.bytes)) ≡ true → Outside gone k
        → target_away result.objects (down n) (pos (moved_down gone k) -ℤ pos (moved_down gone n)) ≡ Some (down k)
    away-made n k is out =
        ap (λ z. option_and_then (λ (to : Place). cond (is_target_at result.objects to) (Some to) None) (place_on (down n) z))
        (there-and-back (moved_down gone n) (moved_down gone k))
        ∙ ap (λ b. cond b (Some (down k)) None) (target-made k is out)

    -- ---- items without relocation

    given-plain : (n : ℕ) → reloc_on s n ≡ None
        → given n ≡ spelled_item inputs.objects (place_of here n) (instr_in (size_on s n) s.bytes n) (raw_in (size_on s n) s.bytes n)
    given-plain n none = ap (λ r. item_under inputs (place_of here n) r (size_on s n) s.bytes) none

    made-plain : (n : ℕ) → IsOutsideHere n → reloc_on s n ≡ None
        → made n ≡ spelled_item result.objects (down n) (instr_in (size_on s n) (merged_bytes inputs here) (moved_down gone n)) (raw_in (size_on s n) (merged_bytes inputs here) (moved_down gone n))
    made-plain n out none =
        let reloc : reloc_on new (moved_down gone n) ≡ None = m.relocs n out ∙ ap (option_map (merged_reloc inputs o (removed_at inputs o i))) none in
        let size = m.sizes n out in
        let bytes = m.bytes in
        λ j. item_under result (down n) (reloc j) (size j) (bytes j)

    -- the same bytes
    made-same : (n : ℕ) → IsOutsideHere n → reloc_on s n ≡ None → transfer_instr (new_distance gone n) (given n) ≡ None → (x : Option Instr)
        → instr_in (size_on s n) s.bytes n ≡ x
        → made n ≡ spelled_item result.objects (down n) x (raw_in (size_on s n) s.bytes n)
    made-same n out none plain x is =
        let size = size_on s n in
        let sizes = (held-at inputs here m.code m.whole n out.start).size none in
        let same = same-plain inputs here m.code m.whole n out plain in
        let reads : instr_in size (merged_bytes inputs here) (moved_down gone n) ≡ x =
        same-instr size sizes (merged_bytes inputs here) (moved_down gone n) s.bytes n same ∙ is in
        let unread = same-raw size sizes (merged_bytes inputs here) (moved_down gone n) s.bytes n same in
        made-plain n out none ∙ (λ j. spelled_item result.objects (down n) (reads j) (unread j))

    -- what leads nowhere stays
    stays : (n : ℕ) → IsOutsideHere n → reloc_on s n ≡ None → (x : Option Instr) → instr_in (size_on s n) s.bytes n ≡ x
        → ((raw : Item) → transfer_instr (new_distance gone n) raw ≡ None → transfer_instr (new_distance gone n) (spelled_item inputs.objects (place_of here n) x raw) ≡ None)
        → ((raw : Item) → raw ≡ moved_item M raw → spelled_item result.objects (down n) x raw ≡ moved_item M (spelled_item inputs.objects (place_of here n) x raw))
        → IsItemThere M (given n) (made n)
    stays n out none x is plain moves =
        let size = size_on s n in
        let raw = raw_in size s.bytes n in
        let is-given : given n ≡ spelled_item inputs.objects (place_of here n) x raw =
        given-plain n none ∙ ap (λ x. spelled_item inputs.objects (place_of here n) x raw) is in
        let transfers = ap (transfer_instr (new_distance gone n)) is-given ∙ plain raw (raw-transfers (new_distance gone n) size s.bytes n) in
        inr (made-same n out none transfers x is ∙ moves raw (raw-unread M size s.bytes n) ∙ ap (moved_item M) (sym is-given))

    -- a branch or jump
    module _ (f : Place → Item) (g : ℤ → Instr) (t : IsTransfer M f g) (n : ℕ) (out : IsOutsideHere n) (none : reloc_on s n ≡ None) (d : ℤ)
        (is : instr_in (size_on s n) s.bytes n ≡ Some (g d)) where
      given-goes : (x : Option Place) → target_away inputs.objects (place_of here n) d ≡ x
          → given n ≡ option_map_or f x (raw_in (size_on s n) s.bytes n)
      given-goes x leads =
          let raw = raw_in (size_on s n) s.bytes n in
          given-plain n none ∙ ap (λ x. spelled_item inputs.objects (place_of here n) x raw) is
          ∙ t.reads inputs.objects (place_of here n) d raw ∙ ap (λ x. option_map_or f x raw) leads

      -- that leads nowhere is copied unread
      goes-nowhere : target_away inputs.objects (place_of here n) d ≡ None → IsItemThere M (given n) (made n)
      goes-nowhere leads =
          let size = size_on s n in
          let raw = raw_in size s.bytes n in
          let is-raw : given n ≡ raw = given-goes None leads in
          let plain = ap (transfer_instr (new_distance gone n)) is-raw ∙ raw-transfers (new_distance gone n) size s.bytes n in
          let is-made : made n ≡ option_map_or f (target_away result.objects (down n) d) raw =
          made-same n out none plain (Some (g d)) is ∙ t.reads result.objects (down n) d raw in
          inl (subst IsDead (sym is-raw) (raw-dead size s.bytes n (g d) is), subst IsNeither (sym is-made) (goes-solid f t.solid (target_away result.objects (down n) d) size s.bytes n))

      -- and else has its new distance
      goes-there : (to : Place) → target_away inputs.objects (place_of here n) d ≡ Some to → IsItemThere M (given n) (made n)
      goes-there to leads =
          let size = size_on s n in
          let sizes = (held-at inputs here m.code m.whole n out.start).size none in
          let away = away-found inputs (place_of here n) d to leads in
          let k = away.offset in
          let is-given : given n ≡ f to = given-goes (Some to) leads in
          let offset : to.offset ≡ k = ap (λ (p : Place). p.offset) away.is in
          let far : Outside gone k =
          m.led n k out.start (ap (is_target_at inputs.objects) (sym away.is) ∙ away.target)
          (ap (goes_to (place_of here k)) is-given ∙ ap (λ q. goes_to q (f to)) (sym away.is) ∙ t.goes to) in
          let own : Outside gone n = outside-stays gone n (stays-none gone n out.outside) in
          let target : (starts_on s k || eqb k (length s.bytes)) ≡ true =
          sym (target_on inputs.objects (place_of here k) s (code-given k)) ∙ ap (is_target_at inputs.objects) (sym away.is) ∙ away.target in
          let e = pos (moved_down gone k) -ℤ pos (moved_down gone n) in
          let distance : new_distance gone n to ≡ e =
          ap (λ x. pos x -ℤ pos (moved_down gone n)) (ap (merged_offset gone) offset ∙ merged-down k far) in
          let transfers : transfer_instr (new_distance gone n) (given n) ≡ Some (g e) =
          ap (transfer_instr (new_distance gone n)) is-given ∙ t.transfers (new_distance gone n) to ∙ ap (λ z. Some (g z)) distance in
          let reads =
          new-instr inputs here m.code m.whole n out none (g e) transfers
          ∙ t.back size sizes s.bytes n d e is (no-further k d own far (way-of n k d away.sum)) in
          let raw = raw_in size (merged_bytes inputs here) (moved_down gone n) in
          inr (
          made-plain n out none ∙ ap (λ x. spelled_item result.objects (down n) x raw) reads ∙ t.reads result.objects (down n) e raw
          ∙ ap (λ x. option_map_or f x raw) (away-made n k target far)
          ∙ ap f (sym (ap M away.is ∙ place-down k far)) ∙ t.moves to ∙ ap (moved_item M) (sym is-given)
          )
        where
          no-further : (k : ℕ) (d : ℤ) → Outside gone n → Outside gone k → IsWay n k d
              → IsNoFurther d (pos (moved_down gone k) -ℤ pos (moved_down gone n))
          no-further k d own far way =
              let e = pos (moved_down gone k) -ℤ pos (moved_down gone n) in
              let way' = way-between (moved_down gone n) (moved_down gone k) in
              let apart = removed-apart inputs here in
              record {
                fits = λ bits fits. still-fits gone apart n k own far bits d e way way' fits;
                even = λ even. still-even gone apart n k own far (even-tails inputs here m.code m.whole) d e way way' even;
              }

      transfer-stays : IsItemThere M (given n) (made n)
      transfer-stays = by (target_away inputs.objects (place_of here n) d) refl
        where
          by : (x : Option Place) → target_away inputs.objects (place_of here n) d ≡ x → IsItemThere M (given n) (made n)
          by None leads = goes-nowhere leads
          by (Some to) leads = goes-there to leads

    plain-stays : (n : ℕ) → IsOutsideHere n → reloc_on s n ≡ None → IsItemThere M (given n) (made n)
    plain-stays n out none = by (instr_in (size_on s n) s.bytes n) refl
      where
        of : (i : Instr) → instr_in (size_on s n) s.bytes n ≡ Some i → IsItemThere M (given n) (made n)
        of (instr.Upper op rd imm) is = stays n out none (Some (instr.Upper op rd imm)) is (λ raw plain. refl) (λ raw u. refl)
        of (instr.Jal rd d) is = transfer-stays (item.Jump rd) (instr.Jal rd) (jump-transfer M rd) n out none d is
        of (instr.Jalr rd base imm) is = stays n out none (Some (instr.Jalr rd base imm)) is (λ raw plain. refl) (λ raw u. refl)
        of (instr.Branch op first second d) is =
            transfer-stays (item.Branch op first second) (instr.Branch op first second) (branch-transfer M op first second) n out none d is
        of (instr.Load op rd base imm) is = stays n out none (Some (instr.Load op rd base imm)) is (λ raw plain. refl) (λ raw u. refl)
        of (instr.Store op source base imm) is = stays n out none (Some (instr.Store op source base imm)) is (λ raw plain. refl) (λ raw u. refl)
        of (instr.WithImm op rd first imm) is = stays n out none (Some (instr.WithImm op rd first imm)) is (λ raw plain. refl) (λ raw u. refl)
        of (instr.WithReg op rd first second) is = stays n out none (Some (instr.WithReg op rd first second)) is (λ raw plain. refl) (λ raw u. refl)
        of (instr.Fence rest) is = stays n out none (Some (instr.Fence rest)) is (λ raw plain. refl) (λ raw u. refl)
        of instr.Ecall is = stays n out none (Some instr.Ecall) is (λ raw plain. refl) (λ raw u. refl)
        of instr.Ebreak is = stays n out none (Some instr.Ebreak) is (λ raw plain. refl) (λ raw u. refl)
        of (instr.Csrrw rd source) is = stays n out none (Some (instr.Csrrw rd source)) is (λ raw plain. plain) (λ raw u. u)

        by : (x : Option Instr) → instr_in (size_on s n) s.bytes n ≡ x → IsItemThere M (given n) (made n)
        by None is = stays n out none None is (λ raw plain. plain) (λ raw u. u)
        by (Some i) is = of i is

    -- ---- items with one

    relocated-stays : (n : ℕ) → IsOutsideHere n → (r : Reloc) → reloc_on s n ≡ Some r → made n ≡ moved_item M (given n)
    relocated-stays n out r on =
        let sound = sound_at s n r m.code on in
        let moved = merged_reloc inputs o (removed_at inputs o i) r in
        let reloc : reloc_on new (moved_down gone n) ≡ Some moved =
        m.relocs n out ∙ ap (option_map (merged_reloc inputs o (removed_at inputs o i))) on in
        let size : size_on s n ≡ field_of r = ap (λ x. option_map_or field_of x (own_size s.compressed s.bytes n)) on in
        let same : SameBytes (field_of r) (merged_bytes inputs here) (moved_down gone n) s.bytes n =
        subst (λ k. SameBytes k (merged_bytes inputs here) (moved_down gone n) s.bytes n) size (same-under inputs here m.code m.whole n out r on) in
        ap (λ x. item_under result (down n) x (size_on new (moved_down gone n)) new.bytes) reloc
        ∙ ap (λ bytes. known_item (kind_of r.kind) moved.addend (target_of result o moved) bytes (moved_down gone n)) m.bytes
        ∙ relocated-moved M s (kind_of r.kind) moved.addend r.addend (target_of result o moved) (target_of inputs o r)
        (merged_bytes inputs here) (moved_down gone n) s.bytes n sound.asks sound.known
        (λ align. ap (λ b. cond b r.addend (addend_to inputs o r (target_of inputs o r))) align) (λ other. m.targets n r out on other) same
        ∙ ap (λ x. moved_item M (item_under inputs (place_of here n) x (size_on s n) s.bytes)) (sym on)

    -- ---- outside of removed tails

    pub item-stays : (n : ℕ) → IsOutsideHere n → IsItemThere M (given n) (made n)
    item-stays n out = by (reloc_on s n) refl
      where
        by : (x : Option Reloc) → reloc_on s n ≡ x → IsItemThere M (given n) (made n)
        by None none = plain-stays n out none
        by (Some r) on = inr (relocated-stays n out r on)
