-- What stands where tails are removed: operations without relocation. And which offsets lie outside of removed tails.
use Rattle.std.proofs.Common.{◌≡◌, ℕ, ◌+◌, ◌-◌, ◌%◌, ◌≤◌, ◌<◌, List, [], ◌∷◌, map, Bool, true, false, cond, refl, sym, ap, ap₂, ◌∙◌, subst, arith, eqb, ltb, leb, inl, inr, get_or, Option, Some, None}
use Rattle.std.specs.Prelude.{◌⊎◌, ◌&&◌, ℤ, All}
use Rattle.std.specs.List.{find}
use Rattle.std.specs.Option.{option_map_or}
use Rattle.std.proofs.lemmas.Bool.{and_parts, cases_eq, cases_lt, eq-eqb, eqb-true, le-leb, le-ltb, leb-true, lt-leb, lt-ltb, ltb-true, ne_eqb}
use Rattle.std.proofs.lemmas.List.Elements.{All-cons, All-head, All-nil, All-tail}
use Rattle.std.proofs.lemmas.List.Sums.{sum_by-cons}
use Rattle.zc_base.specs.declared.place.Place.{Place}
use Rattle.elf32_read.specs.declared.reloc.Reloc.{Reloc}
use Rattle.psabi_reloc.specs.Kinds.{kind_of}
use Rattle.psabi_reloc.specs.declared.kind.RelocKind.{RelocKind}
use Rattle.psabi_reloc.specs.declared.kind.RelocKind.TheVariants as kind
use Rattle.psabi_sym.specs.Inputs.{ParsedInputs}
use Rattle.psabi_sym.specs.Indexed.{IndexedSection}
use Rattle.psabi_sym.specs.declared.target.Target.{Target}
use Rattle.psabi_sym.specs.declared.target.Target.TheVariants as target
use Rattle.rv_decode.specs.declared.instr.Instr.{Instr}
use Rattle.rv_decode.specs.declared.instr.Instr.TheVariants as instr
use Rattle.block_cut.specs.CodeSizes.{code_step}
use Rattle.block_cut.specs.Items.{call_item, item_under, known_item, place_of, raw_in, raw_pair, size_on, starts_in, starts_on, target_of, to_place, transfer_item, transfer_under}
use Rattle.block_cut.specs.Relocs.{instr_in, reloc_on}
use Rattle.block_cut.specs.declared.item.Item.{Item}
use Rattle.block_cut.specs.declared.item.Item.TheVariants as item
use Rattle.block_cut.proofs.CodeSizeLaws.{step_sum}
use Rattle.block_cut.proofs.SoundLaws.{found_passes}
use Rattle.block_cut.proofs.StartLaws.{among_first, among_later, is_among}
use Rattle.tail_merge.specs.Tails.{CodeItem, Removed, bytes_of_all, code_item, code_items, covers, first_offset, goes_on, moved_down, op_in_item, removed_tails, returns, tail_end, tail_start}
use Rattle.tail_merge.proofs.TailLaws.{IsRemovedTail, IsRun, removed-are}
use Rattle.tail_merge.proofs.OffsetLaws.{ApartFrom, Outside, down-apart, down-before, down-behind, down-floor, down-order, start_of}
use Rattle.tail_merge.proofs.PlacedLaws.{IsClear}
use Rattle.tail_merge.proofs.ItemsLaws.{AreClean, HasItems, IsApart, all-clean, item-around, item-of-all, items-forward, removed-items}

-- what holds of all of a list holds of what is found there
pub found-holds : {X : Type 0} (p : X → Bool) (P : X → Type 0) (xs : List X) (x : X) → All P xs → find p xs ≡ Some x → P x
found-holds p P [] x all is = absurd cc
found-holds p P (y ∷ ys) x all is = by (p y) (found-holds p P ys x (All-tail P y ys all)) is
  where
    by : (b : Bool) → (find p ys ≡ Some x → P x) → cond b (Some y) (find p ys) ≡ Some x → P x
    by true rest is = let same : y ≡ x = cc in subst P same (All-head P y ys all)
    by false rest is = rest is

-- ---- items that are operations

abbrev pub IsOp : CodeItem → Type 0
IsOp c = (i : Instr) × (op_in_item c.item ≡ Some i)

op-is : (test : Instr → Bool) (c : CodeItem) → option_map_or test (op_in_item c.item) false ≡ true → IsOp c
op-is test c h = by (op_in_item c.item) refl h
  where
    by : (o : Option Instr) → op_in_item c.item ≡ o → option_map_or test o false ≡ true → IsOp c
    by None is h = absurd cc
    by (Some i) is h = (i, is)

run-ops : (cs : List CodeItem) → IsRun cs → All IsOp cs
run-ops [] run = All-nil IsOp
run-ops (c ∷ cs) run = All-cons IsOp c cs (op-is returns c run.0) (λ k d lt. op-is goes_on (get_or cs k d) (run.1 k d lt))

-- what is copied unread is none
raw-op : (size : ℕ) (bytes : List ℕ) (n : ℕ) → op_in_item (raw_in size bytes n) ≡ None
raw-op size bytes n = by (eqb size 2)
  where
    by : (b : Bool) → op_in_item (cond b (item.RawShort (Rattle.zc_base.specs.Fields.half_in bytes n)) (item.Raw (Rattle.zc_base.specs.Fields.word_in bytes n))) ≡ None
    by true = refl
    by false = refl

to-op : (t : Target) (f : Place → Item) (other : Item) → ((p : Place) → op_in_item (f p) ≡ None) → op_in_item other ≡ None → op_in_item (to_place t f other) ≡ None
to-op (target.Code q) f other each rest = each q
to-op (target.Number n) f other each rest = rest
to-op (target.Absent n) f other each rest = rest
to-op target.Nowhere f other each rest = rest

of-op : (o : Option Instr) (raw : Item) (f : Instr → Item) → op_in_item raw ≡ None → ((i : Instr) → op_in_item (f i) ≡ None) → op_in_item (option_map_or f o raw) ≡ None
of-op None raw f none each = none
of-op (Some i) raw f none each = each i

transfer-op : (i : Instr) (raw : Item) (p : Place) → op_in_item raw ≡ None → op_in_item (transfer_item i raw p) ≡ None
transfer-op (instr.Branch op first second d) raw p none = refl
transfer-op (instr.Jal rd d) raw p none = refl
transfer-op i raw p none = none

under-op : (size : ℕ) (t : Target) (bytes : List ℕ) (n : ℕ) → op_in_item (transfer_under size t bytes n) ≡ None
under-op size t bytes n =
    let raw = raw_in size bytes n in
    let none = raw-op size bytes n in
    of-op (instr_in size bytes n) raw (λ i. to_place t (transfer_item i raw) raw) none (λ i. to-op t (transfer_item i raw) raw (λ p. transfer-op i raw p none) none)

call-op : (first second : Option Instr) (other : Item) (p : Place) → op_in_item other ≡ None → op_in_item (call_item first second other p) ≡ None
call-op (Some (instr.Upper op temp upper)) (Some (instr.Jalr rd base lower)) other p none = refl
call-op first second other p none = none

low-op : (t : Target) (bytes : List ℕ) (n : ℕ) → op_in_item (option_map_or (λ i. to_place t (item.PcLo i) (raw_in 4 bytes n)) (instr_in 4 bytes n) (raw_in 4 bytes n)) ≡ None
low-op t bytes n = of-op (instr_in 4 bytes n) (raw_in 4 bytes n) (λ i. to_place t (item.PcLo i) (raw_in 4 bytes n)) refl (λ i. to-op t (item.PcLo i) (raw_in 4 bytes n) (λ p. refl) refl)

-- no relocation makes an operation
known-op : (k : Option RelocKind) (addend : ℤ) (t : Target) (bytes : List ℕ) (n : ℕ) → op_in_item (known_item k addend t bytes n) ≡ None
known-op None addend t bytes n = refl
known-op (Some kind.Ignored) addend t bytes n = refl
known-op (Some kind.Word) addend t bytes n = refl
known-op (Some kind.Branch) addend t bytes n = under-op 4 t bytes n
known-op (Some kind.Jal) addend t bytes n = under-op 4 t bytes n
known-op (Some kind.Call) addend t bytes n = to-op t (call_item (instr_in 4 bytes n) (instr_in 4 bytes (n + 4)) (raw_pair bytes n)) (raw_pair bytes n) (λ p. call-op (instr_in 4 bytes n) (instr_in 4 bytes (n + 4)) (raw_pair bytes n) p refl) refl
known-op (Some kind.PcrelHi20) addend t bytes n = of-op (instr_in 4 bytes n) (raw_in 4 bytes n) (λ i. item.PcHi i t) refl (λ i. refl)
known-op (Some kind.PcrelLo12I) addend t bytes n = low-op t bytes n
known-op (Some kind.PcrelLo12S) addend t bytes n = low-op t bytes n
known-op (Some kind.Hi20) addend t bytes n = of-op (instr_in 4 bytes n) (raw_in 4 bytes n) (λ i. item.Hi i t) refl (λ i. refl)
known-op (Some kind.Lo12I) addend t bytes n = of-op (instr_in 4 bytes n) (raw_in 4 bytes n) (λ i. item.Lo i t) refl (λ i. refl)
known-op (Some kind.Lo12S) addend t bytes n = of-op (instr_in 4 bytes n) (raw_in 4 bytes n) (λ i. item.Lo i t) refl (λ i. refl)
known-op (Some kind.RvcBranch) addend t bytes n = under-op 2 t bytes n
known-op (Some kind.RvcJump) addend t bytes n = under-op 2 t bytes n
known-op (Some kind.Align) addend t bytes n = refl

-- so an operation has none
pub op-plain : (inputs : ParsedInputs) (l : IndexedSection) (n : ℕ) → IsOp (code_item inputs l n) → reloc_on l.section n ≡ None
op-plain inputs l n op = by (reloc_on l.section n) refl
  where
    by : (o : Option Reloc) → reloc_on l.section n ≡ o → reloc_on l.section n ≡ None
    by None is = is
    by (Some r) is =
        let none : op_in_item (code_item inputs l n).item ≡ None =
        ap (λ o. op_in_item (item_under inputs (place_of l n) o (size_on l.section n) l.section.bytes)) is
        ∙ known-op (kind_of r.kind) r.addend (target_of inputs l.object r) l.section.bytes n in
        let some = op.1 in
        absurd cc

-- ---- items in removed tails

-- where a tail of items begins, if it has any
start-low : (cs : List CodeItem) (n : ℕ) → first_offset cs ≤ n → n < first_offset cs + bytes_of_all cs → start_of (first_offset cs + bytes_of_all cs) cs ≤ n
start-low [] n low high = absurd (omega (arith, high))
start-low (c ∷ cs) n low high = low

covered-item : (P : CodeItem → Type 0) (r : Removed) → HasItems P r → (n : ℕ) → covers n r ≡ true → (c : CodeItem) × P c × (c.offset ≤ n) × (n < c.offset + c.size)
covered-item P r own n h =
    let both = and_parts (leb (tail_start r) n) (ltb n (tail_end r)) h in
    let high = ltb-true n (tail_end r) both.1 in
    item-around P (tail_end r) r.tail own.1 own.0 n (start-low r.tail n (leb-true (tail_start r) n both.0) high) high

-- the items of a section, each by its own offset
own-items : (inputs : ParsedInputs) (l : IndexedSection) → All (λ (c : CodeItem). c ≡ code_item inputs l c.offset) (code_items inputs l)
own-items inputs l = all (starts_in l.section)
  where
    all : (ns : List ℕ) → All (λ (c : CodeItem). c ≡ code_item inputs l c.offset) (map (code_item inputs l) ns)
    all [] = All-nil (λ (c : CodeItem). c ≡ code_item inputs l c.offset)
    all (n ∷ ns) = All-cons (λ (c : CodeItem). c ≡ code_item inputs l c.offset) (code_item inputs l n) (map (code_item inputs l) ns) refl (all ns)

abbrev IsNear : ParsedInputs → IndexedSection → ℕ → CodeItem → Type 0
IsNear inputs l n c = (c ≡ code_item inputs l c.offset) × IsApart n c

-- an item that starts in a removed tail is one of its items
pub covered-is : (P : CodeItem → Type 0) (inputs : ParsedInputs) (l : IndexedSection) (n : ℕ) → starts_on l.section n ≡ true → (r : Removed) → find (covers n) (removed_tails inputs l) ≡ Some r → All P r.tail → P (code_item inputs l n)
covered-is P inputs l n start r found holds =
    let items = code_items inputs l in
    let apart : All (IsApart n) items = (item-of-all (AreClean items) inputs l n start (all-clean 0 items (items-forward inputs l))).0 in
    let own = own-items inputs l in
    let near : All (IsNear inputs l n) items = λ k d lt. (own k d lt, apart k d lt) in
    let tail = found-holds (covers n) (HasItems (IsNear inputs l n)) (removed_tails inputs l) r (removed-items (IsNear inputs l n) inputs l near) found in
    let there = tail.0 in
    let both : All (λ (c : CodeItem). IsNear inputs l n c × P c) r.tail = λ k d lt. (there k d lt, holds k d lt) in
    let c = covered-item (λ (c : CodeItem). IsNear inputs l n c × P c) r (both, tail.1) n (found_passes (covers n) (removed_tails inputs l) r found) in
    at c.0 c.1.0.0 c.1.0.1 c.1.1 c.2 c.3
  where
    at : (c : CodeItem) → c ≡ code_item inputs l c.offset → IsApart n c → P c → c.offset ≤ n → n < c.offset + c.size → P (code_item inputs l n)
    at c is (inl before) h low high = let same : c.offset ≡ n = omega (arith, before, low) in subst P (is ∙ ap (code_item inputs l) same) h
    at c is (inr behind) h low high = absurd (omega (arith, behind, high))

-- it is an operation, so it has no relocation
pub covered-op : (inputs : ParsedInputs) (l : IndexedSection) (n : ℕ) → starts_on l.section n ≡ true → (r : Removed) → find (covers n) (removed_tails inputs l) ≡ Some r → IsOp (code_item inputs l n)
covered-op inputs l n start r found =
    let is = found-holds (covers n) IsRemovedTail (removed_tails inputs l) r (removed-are inputs l) found in
    covered-is IsOp inputs l n start r found (run-ops r.tail is.0.run)

pub covered-plain : (inputs : ParsedInputs) (l : IndexedSection) (n : ℕ) → starts_on l.section n ≡ true → (r : Removed) → find (covers n) (removed_tails inputs l) ≡ Some r → reloc_on l.section n ≡ None
covered-plain inputs l n start r found = op-plain inputs l n (covered-op inputs l n start r found)

-- ---- where removed tails begin

-- an item starts at each offset of a section's items
item-starts : (inputs : ParsedInputs) (l : IndexedSection) → All (λ (c : CodeItem). starts_on l.section c.offset ≡ true) (code_items inputs l)
item-starts inputs l = all (starts_in l.section) (λ n there. there)
  where
    all : (ns : List ℕ) → ((n : ℕ) → is_among n ns ≡ true → starts_on l.section n ≡ true) → All (λ (c : CodeItem). starts_on l.section c.offset ≡ true) (map (code_item inputs l) ns)
    all [] sub = All-nil (λ (c : CodeItem). starts_on l.section c.offset ≡ true)
    all (n ∷ ns) sub =
        All-cons (λ (c : CodeItem). starts_on l.section c.offset ≡ true) (code_item inputs l n) (map (code_item inputs l) ns) (sub n (among_first n n ns refl))
        (all ns (λ m there. sub m (among_later n m ns there)))

-- what holds of the offsets of a tail's items holds of where it begins
first-holds : (P : ℕ → Type 0) (cs : List CodeItem) → 4 < bytes_of_all cs → All (λ (c : CodeItem). P c.offset) cs → P (first_offset cs)
first-holds P [] long all = absurd (omega (arith, long))
first-holds P (c ∷ cs) long all = last c cs all
  where
    last : (c : CodeItem) (cs : List CodeItem) → All (λ (c : CodeItem). P c.offset) (c ∷ cs) → P (first_offset (c ∷ cs))
    last c [] all = All-head (λ (c : CodeItem). P c.offset) c [] all
    last c (d ∷ cs) all = last d cs (All-tail (λ (c : CodeItem). P c.offset) c (d ∷ cs) all)

pub tails-start : (inputs : ParsedInputs) (l : IndexedSection) → All (λ (r : Removed). starts_on l.section (tail_start r) ≡ true) (removed_tails inputs l)
tails-start inputs l =
    let items = removed-items (λ (c : CodeItem). starts_on l.section c.offset ≡ true) inputs l (item-starts inputs l) in
    λ k r lt.
    let tail = get_or (removed_tails inputs l) k r in
    first-holds (λ n. starts_on l.section n ≡ true) tail.tail (ltb-true 4 (bytes_of_all tail.tail) (removed-are inputs l k r lt).1) (items k r lt).0

-- each lies in no other
tails-behind : (m : ℕ) (rs : List Removed) → ApartFrom m rs → All (λ (r : Removed). m ≤ tail_start r) rs
tails-behind m [] a = All-nil (λ (r : Removed). m ≤ tail_start r)
tails-behind m (r ∷ rs) a =
    let low = a.0 in
    let long = a.1 in
    let rest = tails-behind (tail_end r) rs a.2 in
    All-cons (λ (r : Removed). m ≤ tail_start r) r rs low (λ k d lt. let behind = rest k d lt in omega (arith, low, long, behind))

pub tails-found : (m : ℕ) (rs : List Removed) → ApartFrom m rs → All (λ (r : Removed). find (covers (tail_start r)) rs ≡ Some r) rs
tails-found m [] a = All-nil (λ (r : Removed). find (covers (tail_start r)) [] ≡ Some r)
tails-found m (r ∷ rs) a =
    let long = a.1 in
    let here : covers (tail_start r) r ≡ true = ap₂ (λ a b. a && b) (le-leb (tail_start r) (tail_start r) (omega arith)) (lt-ltb (tail_start r) (tail_end r) (omega (arith, long))) in
    let rest = tails-found (tail_end r) rs a.2 in
    let behind = tails-behind (tail_end r) rs a.2 in
    All-cons (λ (q : Removed). find (covers (tail_start q)) (r ∷ rs) ≡ Some q) r rs (ap (λ b. cond b (Some r) (find (covers (tail_start r)) rs)) here)
    (λ k d lt. later (get_or rs k d) (behind k d lt) (rest k d lt))
  where
    later : (q : Removed) → tail_end r ≤ tail_start q → find (covers (tail_start q)) rs ≡ Some q → find (covers (tail_start q)) (r ∷ rs) ≡ Some q
    later q behind found =
        let none : covers (tail_start q) r ≡ false = ap (λ b. leb (tail_start r) (tail_start q) && b) (le-ltb (tail_start q) (tail_end r) behind) ∙ neither (leb (tail_start r) (tail_start q)) in
        ap (λ b. cond b (Some r) (find (covers (tail_start q)) rs)) none ∙ found
      where
        neither : (b : Bool) → (b && false) ≡ false
        neither true = refl
        neither false = refl

-- ---- offsets outside of removed tails

-- an offset isn't strictly inside of a removed tail: it lies in none, or one begins there
abbrev pub stays_at : List Removed → ℕ → Bool
stays_at rs n = option_map_or (λ r. eqb n (tail_start r)) (find (covers n) rs) true

not-covered : (n : ℕ) (r : Removed) → covers n r ≡ false → (n < tail_start r) ⊎ (tail_end r ≤ n)
not-covered n r h =
    elim (cases_lt n (tail_start r)) [
      | inl lt ↦ inl lt
      | inr low ↦ elim (cases_lt n (tail_end r)) [
        | inl inside ↦ absurd (let is : covers n r ≡ true = ap₂ (λ a b. a && b) (le-leb (tail_start r) n low) (lt-ltb n (tail_end r) inside) in cc)
        | inr past ↦ inr past
      ]
    ]

pub outside-stays : (rs : List Removed) (n : ℕ) → stays_at rs n ≡ true → Outside rs n
outside-stays [] n h = tt
outside-stays (r ∷ rs) n h = by (covers n r) refl (outside-stays rs n) h
  where
    past : (n < tail_start r) ⊎ (tail_end r ≤ n) → Outside rs n → Outside (r ∷ rs) n
    past (inl lt) rest = inl (omega (arith, lt))
    past (inr le) rest = inr (le, rest)

    by : (b : Bool) → covers n r ≡ b → (stays_at rs n ≡ true → Outside rs n) → option_map_or (λ r. eqb n (tail_start r)) (cond b (Some r) (find (covers n) rs)) true ≡ true → Outside (r ∷ rs) n
    by true is rest h = inl (omega (arith, eqb-true n (tail_start r) h))
    by false is rest h = past (not-covered n r is) (rest h)

pub stays-none : (rs : List Removed) (n : ℕ) → find (covers n) rs ≡ None → stays_at rs n ≡ true
stays-none rs n none = ap (λ o. option_map_or (λ r. eqb n (tail_start r)) o true) none

pub stays-first : (rs : List Removed) (n : ℕ) (r : Removed) → find (covers n) rs ≡ Some r → n ≡ tail_start r → stays_at rs n ≡ true
stays-first rs n r found first = ap (λ o. option_map_or (λ r. eqb n (tail_start r)) o true) found ∙ eq-eqb n (tail_start r) first

-- before all removed tails there is none
stays-before : (m : ℕ) (rs : List Removed) (n : ℕ) → ApartFrom m rs → n < m → stays_at rs n ≡ true
stays-before m [] n a lt = refl
stays-before m (r ∷ rs) n a lt =
    let low = a.0 in
    let long = a.1 in
    let none : covers n r ≡ false = ap (λ b. b && ltb n (tail_end r)) (lt-leb (tail_start r) n (omega (arith, low, lt))) in
    ap (λ b. option_map_or (λ r. eqb n (tail_start r)) (cond b (Some r) (find (covers n) rs)) true) none
    ∙ stays-before (tail_end r) rs n a.2 (omega (arith, low, lt, long))

-- what isn't strictly inside of a removed tail stays
pub stays-outside : (m : ℕ) (rs : List Removed) (n : ℕ) → ApartFrom m rs → Outside rs n → stays_at rs n ≡ true
stays-outside m [] n a out = refl
stays-outside m (r ∷ rs) n a out = by (covers n r) refl out (λ o. stays-outside (tail_end r) rs n a.2 o) (λ lt. stays-before (tail_end r) rs n a.2 lt)
  where
    by : (b : Bool) → covers n r ≡ b → (n ≤ tail_start r) ⊎ ((tail_end r ≤ n) × Outside rs n) → (Outside rs n → stays_at rs n ≡ true) → (n < tail_end r → stays_at rs n ≡ true)
        → option_map_or (λ r. eqb n (tail_start r)) (cond b (Some r) (find (covers n) rs)) true ≡ true
    by true is (inl before) more less =
        let both = and_parts (leb (tail_start r) n) (ltb n (tail_end r)) is in
        let low = leb-true (tail_start r) n both.0 in
        eq-eqb n (tail_start r) (omega (arith, before, low))
    by true is (inr behind) more less =
        let both = and_parts (leb (tail_start r) n) (ltb n (tail_end r)) is in
        let past = behind.0 in
        let high = ltb-true n (tail_end r) both.1 in
        absurd (omega (arith, past, high))
    by false is (inl before) more less = let long = a.1 in less (omega (arith, before, long))
    by false is (inr behind) more less = more behind.1

-- the end of an item that stays, too
pub outside-next : (rs : List Removed) (c : CodeItem) → All (IsClear c) rs → find (covers c.offset) rs ≡ None → Outside rs (c.offset + c.size)
outside-next [] c clear none = tt
outside-next (r ∷ rs) c clear none = by (covers c.offset r) refl (outside-next rs c (All-tail (IsClear c) r rs clear)) none
  where
    past : (c.offset < tail_start r) ⊎ (tail_end r ≤ c.offset) → IsClear c r → Outside rs (c.offset + c.size) → Outside (r ∷ rs) (c.offset + c.size)
    past out (inl before) rest = inl before
    past out (inr (inr behind)) rest = inr (omega (arith, behind), rest)
    past (inl lt) (inr (inl (low, high))) rest = absurd (omega (arith, lt, low))
    past (inr le) (inr (inl (low, high))) rest = inr (omega (arith, le), rest)

    by : (b : Bool) → covers c.offset r ≡ b → (find (covers c.offset) rs ≡ None → Outside rs (c.offset + c.size)) → cond b (Some r) (find (covers c.offset) rs) ≡ None → Outside (r ∷ rs) (c.offset + c.size)
    by true is rest none = absurd cc
    by false is rest none = past (not-covered c.offset r is) (All-head (IsClear c) r rs clear) (rest none)

-- and what lies behind all removed tails
pub outside-behind : (rs : List Removed) (n : ℕ) → All (λ (r : Removed). tail_end r ≤ n) rs → Outside rs n
outside-behind [] n ends = tt
outside-behind (r ∷ rs) n ends = inr (All-head (λ (r : Removed). tail_end r ≤ n) r rs ends, outside-behind rs n (All-tail (λ (r : Removed). tail_end r ≤ n) r rs ends))

-- ---- where offsets outside of removed tails move

pub down-most : (m : ℕ) (rs : List Removed) (x y : ℕ) → ApartFrom m rs → Outside rs x → Outside rs y → x ≤ y → moved_down rs x ≤ moved_down rs y
down-most m rs x y a ox oy le =
    elim (cases_lt x y) [
      | inl lt ↦ (let less = down-order m rs x y a ox oy lt in omega (arith, less))
      | inr ge ↦ (let at : x ≡ y = omega (arith, le, ge) in let same = ap (moved_down rs) at in omega (arith, same))
    ]

pub down-eqb : (m : ℕ) (rs : List Removed) (x y : ℕ) → ApartFrom m rs → Outside rs x → Outside rs y → eqb (moved_down rs x) (moved_down rs y) ≡ eqb x y
down-eqb m rs x y a ox oy =
    elim (cases_eq x y) [
      | inl e ↦ eq-eqb (moved_down rs x) (moved_down rs y) (ap (moved_down rs) e) ∙ sym (eq-eqb x y e)
      | inr ne ↦ ne_eqb (moved_down rs x) (moved_down rs y) (λ e. ne (down-apart m rs x y a ox oy e)) ∙ sym (ne_eqb x y ne)
    ]

abbrev pub IsWholeTail : Bool → Removed → Type 0
IsWholeTail c r = bytes_of_all r.tail % code_step c ≡ 0

-- the items of a tail have whole steps, if each of them has
pub sum-steps : (c : Bool) (cs : List CodeItem) → All (λ (d : CodeItem). d.size % code_step c ≡ 0) cs → bytes_of_all cs % code_step c ≡ 0
sum-steps true [] all = refl
sum-steps false [] all = refl
sum-steps c (d ∷ cs) all =
    ap (λ n. n % code_step c) (sum_by-cons (λ (d : CodeItem). d.size) d cs)
    ∙ step_sum c d.size (bytes_of_all cs) (All-head (λ (d : CodeItem). d.size % code_step c ≡ 0) d cs all) (sum-steps c cs (All-tail (λ (d : CodeItem). d.size % code_step c ≡ 0) d cs all))

less-steps : (c : Bool) (n k : ℕ) → n % code_step c ≡ 0 → k % code_step c ≡ 0 → 4 < k → k ≤ n → (n - (k - 4)) % code_step c ≡ 0
less-steps true n k one two long le = omega (arith, one, two, long, le)
less-steps false n k one two long le = omega (arith, one, two, long, le)

pub down-steps : (c : Bool) (m : ℕ) (rs : List Removed) (n : ℕ) → ApartFrom m rs → All (IsWholeTail c) rs → Outside rs n → n % code_step c ≡ 0 → moved_down rs n % code_step c ≡ 0
down-steps c m [] n a whole o is = is
down-steps c m (r ∷ rs) n a whole (inl before) is = ap (λ k. k % code_step c) (down-before r rs n before) ∙ is
down-steps c m (r ∷ rs) n a whole (inr behind) is =
    let long = a.1 in
    let floor = down-floor (tail_end r) rs n a.2 behind.1 behind.0 in
    ap (λ k. k % code_step c) (down-behind r rs n long behind.0)
    ∙ less-steps c (moved_down rs n) (bytes_of_all r.tail) (down-steps c (tail_end r) rs n a.2 (All-tail (IsWholeTail c) r rs whole) behind.1 is)
    (All-head (IsWholeTail c) r rs whole) long (omega (arith, floor))
