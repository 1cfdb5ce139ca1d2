-- The forms of items: the size that a layout gives an item's piece is one that the item may have at its address (`has_form`), since the
-- form of the piece reaches its target. All addresses are near each other, so a jump always reaches.
use Rattle.std.proofs.Common.{◌≡◌, ℕ, suc, ◌+◌, ◌-◌, ◌%◌, ◌^◌, ◌<◌, ◌≤◌, ◌⊎◌, ℤ, pos, negsuc, ◌-ℤ◌, Bool, true, false, cond, List, Option, Some, refl, sym, ap, ◌∙◌, subst, arith, eqb, ltb, inl, inr, max}
use Rattle.std.specs.Prelude.{IsTrue, ◌&&◌}
use Rattle.std.specs.Option.{option_map_or}
use Rattle.std.proofs.lemmas.Bool.{and_from, and_parts, cases_lt, eq-eqb, lt-ltb}
use Rattle.std.proofs.lemmas.Option.{none-some, same_Some}
use Rattle.zc_base.specs.declared.extensions.Extensions.{Extensions}
use Rattle.zc_base.specs.declared.place.Place.{Place}
use Rattle.elf32_read.specs.Parts.{ObjectParts}
use Rattle.psabi_reloc.specs.Parts.{hi20_of, lo12_of}
use Rattle.psabi_reloc.specs.Patched.{with_imm, with_upper}
use Rattle.psabi_reloc.specs.Reaches.{branch_reach, jal_reach, short_branch_reach, short_jump_reach}
use Rattle.psabi_sym.specs.Blocks.{aligned_up}
use Rattle.psabi_sym.specs.Faults.{power_above}
use Rattle.psabi_sym.specs.Fixed.{is_fixed_at}
use Rattle.psabi_sym.specs.Inputs.{ParsedInputs}
use Rattle.psabi_sym.specs.declared.target.Target.{Target}
use Rattle.psabi_sym.specs.declared.target.Target.TheVariants.{Code, Number, Absent, Nowhere}
use Rattle.rv_decode.specs.Bits.{as_signed}
use Rattle.rv_decode.specs.declared.instr.BranchOp.{BranchOp}
use Rattle.rv_decode.specs.declared.instr.Instr.{Instr}
use Rattle.rv_decode.specs.declared.instr.Instr.TheVariants as instr
use Rattle.block_cut.specs.Items.{size_at}
use Rattle.block_cut.specs.declared.item.Item.{Item}
use Rattle.block_cut.specs.declared.item.Item.TheVariants.{Op, Hi, Lo, PcHi, PcLo, Branch, Jump, Call, Align, Word, Raw, RawShort, RawPair}
use Rattle.sym_machine.specs.Conditions.{is_solid}
use Rattle.shrink_layout.specs.declared.piece.Piece.{Piece}
use Rattle.shrink_layout.specs.declared.piece.Piece.TheVariants as piece
use Rattle.shrink_layout.specs.Halves.{fixed_instr, fixed_part}
use Rattle.shrink_layout.specs.Forms.{HasAlignment, IsForm, distance, form_reaches, target, width}
use Rattle.shrink_layout.specs.Pieces.{instr_size_on, is_short, is_short_branch, is_short_jump, is_short_on, item_piece_at, jump_piece, kept_piece, part_size, piece_number_at, piece_of}
use Rattle.shrink_layout.proofs.ChipLaws.{short_on-short}
use Rattle.shrink_layout.proofs.Distances.{distance_back, distance_on}
use Rattle.zc_link.specs.LaidOut.{HasBranchSize, HasForm, HasJumpSize, HasOwnHalf, HasSize, OfWay}
use Rattle.zc_link.specs.Standing.{HasOwnSize}
use Rattle.zc_link.specs.Values.{way}
use Rattle.zc_link.proofs.ShortWays.{way_distance}
use Rattle.zc_link.proofs.SettledLawsShort.{branch_short, jump_short}

-- ---- ways

-- a `jal` reaches this far
pub jal_settled : (a b : ℕ) → a % 2 ≡ 0 → b % 2 ≡ 0 → b ≤ a + 0x9_0004 → a ≤ b + 0x9_0004 → jal_reach (distance a b) ≡ true
jal_settled a b ea eb near back = elim (cases_lt b a) [
  | inr le ↦
      let n = b - a in
      ap jal_reach (distance_on a b le) ∙ and_from (ltb n (2 ^ 20)) (eqb (n % 2) 0) (lt-ltb n (2 ^ 20) (omega arith)) (eq-eqb (n % 2) 0 (omega arith))
  | inl lt ↦
      let k = a - b - 1 in
      ap jal_reach (distance_back a b lt) ∙ and_from (ltb k (2 ^ 20)) (eqb (k % 2) 1) (lt-ltb k (2 ^ 20) (omega arith)) (eq-eqb (k % 2) 1 (omega arith))
]

-- from four bytes on it is so much less
less_four : (a b : ℕ) → distance a b -ℤ pos 4 ≡ distance (a + 4) b
less_four a b = elim (cases_lt b a) [
  | inr le ↦
      ap (λ z. z -ℤ pos 4) (distance_on a b le) ∙ elim (cases_lt (b - a) 4) [
        | inr far ↦
            distance_on 4 (b - a) far
            ∙ (let same : b - a - 4 ≡ b - (a + 4) = omega arith in ap pos same)
            ∙ sym (distance_on (a + 4) b (omega arith))
        | inl short ↦
            distance_back 4 (b - a) short
            ∙ (let same : 4 - (b - a) - 1 ≡ a + 4 - b - 1 = omega arith in ap negsuc same)
            ∙ sym (distance_back (a + 4) b (omega arith))
      ]
  | inl lt ↦
      let more : negsuc (a - b - 1) -ℤ pos 4 ≡ negsuc (suc (a - b - 1 + 3)) = refl in
      ap (λ z. z -ℤ pos 4) (distance_back a b lt) ∙ more
      ∙ (let same : suc (a - b - 1 + 3) ≡ a + 4 - b - 1 = omega arith in ap negsuc same)
      ∙ sym (distance_back (a + 4) b (omega arith))
]

-- ---- what a layout gives

-- the address of a place is that of its number, it is even, and lies near the text's start
pub record IsNear (objects : List ObjectParts) (address : ℕ → ℕ) (text : ℕ) (q : Place) (b : ℕ) : Type 0 where
  pub number : address (piece_number_at objects q) ≡ b
  pub even : b % 2 ≡ 0
  pub low : text ≤ b
  pub few : b ≤ text + 0x9_0000

module _
    (inputs : ParsedInputs) (A : Place → Option ℕ) (address : ℕ → ℕ) (text : ℕ) (small : text + 0x9_0000 < 2 ^ 32)
    (near : (q : Place) (b : ℕ) → A q ≡ Some b → IsNear inputs.objects address text q b) where
  abbrev objects : List ObjectParts
  objects = inputs.objects

  -- ---- instructions

  -- an item whose instruction is known before the layout
  known_form : (item : Item) (i : Instr) → fixed_instr item ≡ Some i → HasSize item (instr_size_on inputs.map.extensions i)
  known_form item i is = by (is_short_on inputs.map.extensions i) refl
    where
      by : (b : Bool) → is_short_on inputs.map.extensions i ≡ b
          → (◌≡◌ {A = ℕ} (cond b 2 4) 4) ⊎ ((◌≡◌ {A = ℕ} (cond b 2 4) 2) × IsTrue (option_map_or is_short (fixed_instr item) false))
      by true e = inr (refl, ap (λ o. option_map_or is_short o false) is ∙ short_on-short inputs.map.extensions i e)
      by false e = inl refl

  part_form : (item : Item) (t : Target) (f : ℕ → Instr) → fixed_instr item ≡ fixed_part t f → HasSize item (part_size inputs.map.extensions t f)
  part_form item (Code q) f is = inl refl
  part_form item (Number n) f is = known_form item (f n) is
  part_form item (Absent n) f is = known_form item (f n) is
  part_form item Nowhere f is = inl refl

  module _ (a : ℕ) (even : a % 2 ≡ 0) (low : text ≤ a) (few : a ≤ text + 0x9_0000) where
    -- ---- branches and jumps

    -- the distance to a place with an address is that to its piece's
    way_near : (to : Place) (b : ℕ) → A to ≡ Some b → as_signed (way a b) ≡ distance a (address (piece_number_at objects to))
    way_near to b is =
        let there = near to b is in
        way_distance a b (omega (arith, few, small)) (omega (arith, there.few, small)) (omega (arith, there.few, low)) (omega (arith, few, there.low))
        ∙ ap (distance a) (sym there.number)

    jal_near : (to : Place) (b : ℕ) → A to ≡ Some b → jal_reach (as_signed (way a b)) ≡ true
    jal_near to b is =
        let there = near to b is in
        ap jal_reach (way_near to b is ∙ ap (distance a) there.number)
        ∙ jal_settled a b even there.even (omega (arith, there.few, low)) (omega (arith, few, there.low))

    long_near : (to : Place) (b : ℕ) → A to ≡ Some b → jal_reach (as_signed (way a b) -ℤ pos 4) ≡ true
    long_near to b is =
        let there = near to b is in
        ap (λ z. jal_reach (z -ℤ pos 4)) (way_near to b is ∙ ap (distance a) there.number)
        ∙ ap jal_reach (less_four a b)
        ∙ jal_settled (a + 4) b (omega (arith, even)) there.even (omega (arith, there.few, low)) (omega (arith, few, there.low))

    -- of two bytes only if it has a short form
    module _ (op : BranchOp) (first second : ℕ) (short : Bool) (has : short ≡ true → is_short (instr.Branch op first second (pos 0)) ≡ true) where
      abbrev branch : ℤ → Instr
      branch d = instr.Branch op first second d

      branch_form :
          (to : Place) (size : ℕ) → IsForm (piece.Branch (piece_number_at objects to) short) size
          → form_reaches (piece.Branch (piece_number_at objects to) short) size a (address (piece_number_at objects to)) ≡ true
          → OfWay A a to (HasBranchSize branch size)
      branch_form to size form reach b is = by short refl form
        where
          at : (n : ℕ) → size ≡ n → form_reaches (piece.Branch (piece_number_at objects to) short) n a (address (piece_number_at objects to)) ≡ true
          at n same = ap (λ m. form_reaches (piece.Branch (piece_number_at objects to) short) m a (address (piece_number_at objects to))) (sym same) ∙ reach

          four : size ≡ 4 → HasBranchSize branch size (as_signed (way a b))
          four same = inl (same, ap branch_reach (way_near to b is) ∙ at 4 same)

          eight : size ≡ 8 → HasBranchSize branch size (as_signed (way a b))
          eight same = inr (inr (same, long_near to b is))

          by : (s : Bool) → short ≡ s → IsForm (piece.Branch (piece_number_at objects to) s) size → HasBranchSize branch size (as_signed (way a b))
          by true e (inl same) =
              inr (inl (same, branch_short op first second (pos 0) (as_signed (way a b)) (has e) (ap short_branch_reach (way_near to b is) ∙ at 2 same)))
          by true e (inr (inl same)) = four same
          by true e (inr (inr same)) = eight same
          by false e (inl same) = four same
          by false e (inr same) = eight same

    module _ (rd : ℕ) (short : Bool) (has : short ≡ true → is_short (instr.Jal rd (pos 0)) ≡ true) where
      jump_form :
          (to : Place) (size : ℕ) → IsForm (jump_piece objects to short) size
          → form_reaches (jump_piece objects to short) size a (address (target (jump_piece objects to short))) ≡ true
          → OfWay A a to (HasJumpSize rd (width (jump_piece objects to short) size a))
      jump_form to size form reach b is = by short refl form reach
        where
          by :
              (s : Bool) → short ≡ s → IsForm (jump_piece objects to s) size
              → form_reaches (jump_piece objects to s) size a (address (target (jump_piece objects to s))) ≡ true
              → HasJumpSize rd (width (jump_piece objects to s) size a) (as_signed (way a b))
          by true e (inl same) reach =
              let at : short_jump_reach (distance a (address (piece_number_at objects to))) ≡ true =
              ap (λ m. form_reaches (piece.Jump (piece_number_at objects to)) m a (address (piece_number_at objects to))) (sym same) ∙ reach in
              inr (same, jump_short rd (pos 0) (as_signed (way a b)) (has e) (ap short_jump_reach (way_near to b is) ∙ at))
          by true e (inr same) reach = inl (same, jal_near to b is)
          by false e same reach = inl (same, jal_near to b is)

    -- ---- all items

    align_form : (n : ℕ) → 0 < n → a + (n - a % n) % n ≡ aligned_up n a
    unfolding aligned_up
    align_form n some =
        let same : max 1 n ≡ n = omega (arith, some) in
        ap (λ m. a + (m - a % m) % m) (sym same)

    -- an item may have the size that its piece has
    free_form :
        (own : ℕ) (item : Item) (size : ℕ) → HasAlignment (piece_of inputs item) → IsForm (piece_of inputs item) size
        → form_reaches (piece_of inputs item) size a (address (target (piece_of inputs item))) ≡ true
        → HasForm A a own (width (piece_of inputs item) size a) item
    free_form own (Op i) size aligned form reach = inr (subst (HasSize (Op i)) (sym form) (known_form (Op i) i refl))
    free_form own (Hi i t) size aligned form reach = subst (HasSize (Hi i t)) (sym form) (part_form (Hi i t) t (λ x. with_upper i (hi20_of x)) refl)
    free_form own (Lo i t) size aligned form reach = subst (HasSize (Lo i t)) (sym form) (part_form (Lo i t) t (λ x. with_imm i (lo12_of x)) refl)
    free_form own (PcHi i t) size aligned form reach = form
    free_form own (PcLo i from) size aligned form reach = form
    free_form own (Branch op first second to) size aligned form reach = branch_form op first second (is_short_branch op first second) (λ short. short) to size form reach
    free_form own (Jump rd to) size aligned form reach = jump_form rd (is_short_jump rd) (λ short. short) to size form reach
    free_form own (Call rd temp to) size aligned form reach = λ b is. inr (jump_form rd (is_short_jump rd) (λ short. short) to size form reach b is)
    free_form own (Align bytes) size aligned form reach = align_form (power_above bytes) aligned
    free_form own (Word t) size aligned form reach = form
    free_form own (Raw word) size aligned form reach = form
    free_form own (RawShort half) size aligned form reach = form
    free_form own (RawPair first second) size aligned form reach = form

    -- so may one that keeps its bytes
    kept_form :
        (own : ℕ) (item : Item) (size : ℕ) → HasAlignment (kept_piece inputs own item) → IsForm (kept_piece inputs own item) size
        → form_reaches (kept_piece inputs own item) size a (address (target (kept_piece inputs own item))) ≡ true
        → HasForm A a own (width (kept_piece inputs own item) size a) item
    kept_form own (Op i) size aligned form reach = inl form
    kept_form own (Hi i t) size aligned form reach = inl form
    kept_form own (Lo i t) size aligned form reach = inl form
    kept_form own (PcHi i t) size aligned form reach = form
    kept_form own (PcLo i from) size aligned form reach = form
    kept_form own (Branch op first second to) size aligned form reach =
        branch_form op first second (eqb own 2 && is_short_branch op first second) (λ short. (and_parts (eqb own 2) (is_short_branch op first second) short).1) to size form reach
    kept_form own (Jump rd to) size aligned form reach =
        jump_form rd (eqb own 2 && is_short_jump rd) (λ short. (and_parts (eqb own 2) (is_short_jump rd) short).1) to size form reach
    kept_form own (Call rd temp to) size aligned form reach = λ b is. inl form
    kept_form own (Align bytes) size aligned form reach = align_form (power_above bytes) aligned
    kept_form own (Word t) size aligned form reach = form
    kept_form own (Raw word) size aligned form reach = form
    kept_form own (RawShort half) size aligned form reach = form
    kept_form own (RawPair first second) size aligned form reach = form

    -- by whether the section of its place is fixed
    pub has_form :
        (q : Place) (item : Item) (size : ℕ) → HasAlignment (item_piece_at inputs q item) → IsForm (item_piece_at inputs q item) size
        → form_reaches (item_piece_at inputs q item) size a (address (target (item_piece_at inputs q item))) ≡ true
        → HasForm A a (size_at inputs.objects q) (width (item_piece_at inputs q item) size a) item
    has_form q item size = by (is_fixed_at inputs q.object q.section)
      where
        piece_by : Bool → Piece
        piece_by b = cond b (kept_piece inputs (size_at inputs.objects q) item) (piece_of inputs item)

        by : (b : Bool) → HasAlignment (piece_by b) → IsForm (piece_by b) size → form_reaches (piece_by b) size a (address (target (piece_by b))) ≡ true
            → HasForm A a (size_at inputs.objects q) (width (piece_by b) size a) item
        by true = kept_form (size_at inputs.objects q) item size
        by false = free_form (size_at inputs.objects q) item size

-- ---- two bytes

two_short_on : (extensions : Extensions) (j i : Instr) (size : ℕ) → Some j ≡ Some i → size ≡ instr_size_on extensions j → size ≡ 2 → is_short_on extensions i ≡ true
two_short_on extensions j i size same form two = ap (is_short_on extensions) (sym (same_Some j i same)) ∙ by (is_short_on extensions j) form
  where
    by : (b : Bool) → size ≡ cond b 2 4 → b ≡ true
    by true is = refl
    by false is = absurd (omega (arith, is, two))

-- in these an instruction that is known before the layout has a short form, and the chip has it
free_short_on :
    (inputs : ParsedInputs) (item : Item) (i : Instr) (size a : ℕ) → fixed_instr item ≡ Some i → IsForm (piece_of inputs item) size
    → width (piece_of inputs item) size a ≡ 2 → is_short_on inputs.map.extensions i ≡ true
free_short_on inputs (Op j) i size a known form two = two_short_on inputs.map.extensions j i size known form two
free_short_on inputs (Hi j (Number n)) i size a known form two = two_short_on inputs.map.extensions (with_upper j (hi20_of n)) i size known form two
free_short_on inputs (Hi j (Absent n)) i size a known form two = two_short_on inputs.map.extensions (with_upper j (hi20_of n)) i size known form two
free_short_on inputs (Hi j (Code q)) i size a known form two = absurd (none-some i known)
free_short_on inputs (Hi j Nowhere) i size a known form two = absurd (none-some i known)
free_short_on inputs (Lo j (Number n)) i size a known form two = two_short_on inputs.map.extensions (with_imm j (lo12_of n)) i size known form two
free_short_on inputs (Lo j (Absent n)) i size a known form two = two_short_on inputs.map.extensions (with_imm j (lo12_of n)) i size known form two
free_short_on inputs (Lo j (Code q)) i size a known form two = absurd (none-some i known)
free_short_on inputs (Lo j Nowhere) i size a known form two = absurd (none-some i known)
free_short_on inputs (PcHi j t) i size a known form two = absurd (none-some i known)
free_short_on inputs (PcLo j from) i size a known form two = absurd (none-some i known)
free_short_on inputs (Branch op first second to) i size a known form two = absurd (none-some i known)
free_short_on inputs (Jump rd to) i size a known form two = absurd (none-some i known)
free_short_on inputs (Call rd temp to) i size a known form two = absurd (none-some i known)
free_short_on inputs (Align bytes) i size a known form two = absurd (none-some i known)
free_short_on inputs (Word t) i size a known form two = absurd (none-some i known)
free_short_on inputs (Raw word) i size a known form two = absurd (none-some i known)
free_short_on inputs (RawShort half) i size a known form two = absurd (none-some i known)
free_short_on inputs (RawPair first second) i size a known form two = absurd (none-some i known)

pub known_short_on :
    (inputs : ParsedInputs) (q : Place) (item : Item) (i : Instr) (size a : ℕ) → is_fixed_at inputs q.object q.section ≡ false → fixed_instr item ≡ Some i
    → IsForm (item_piece_at inputs q item) size → width (item_piece_at inputs q item) size a ≡ 2 → is_short_on inputs.map.extensions i ≡ true
known_short_on inputs q item i size a free known form two =
    let is : item_piece_at inputs q item ≡ piece_of inputs item = ap (λ b. cond b (kept_piece inputs (size_at inputs.objects q) item) (piece_of inputs item)) free in
    free_short_on inputs item i size a known (subst (λ p. IsForm p size) is form) (ap (λ p. width p size a) (sym is) ∙ two)

-- or, where bytes are kept, two of its own, and no relocation
kept_half :
    (inputs : ParsedInputs) (own : ℕ) (item : Item) (size a : ℕ) → IsForm (kept_piece inputs own item) size → width (kept_piece inputs own item) size a ≡ 2
    → HasOwnHalf own item
kept_half inputs own (Op j) size a form two i known = (sym form ∙ two, ap Op (same_Some j i known))
kept_half inputs own (Hi j t) size a form two i known = absurd (omega (arith, form, two))
kept_half inputs own (Lo j t) size a form two i known = absurd (omega (arith, form, two))
kept_half inputs own (PcHi j t) size a form two i known = absurd (none-some i known)
kept_half inputs own (PcLo j from) size a form two i known = absurd (none-some i known)
kept_half inputs own (Branch op first second to) size a form two i known = absurd (none-some i known)
kept_half inputs own (Jump rd to) size a form two i known = absurd (none-some i known)
kept_half inputs own (Call rd temp to) size a form two i known = absurd (none-some i known)
kept_half inputs own (Align bytes) size a form two i known = absurd (none-some i known)
kept_half inputs own (Word t) size a form two i known = absurd (none-some i known)
kept_half inputs own (Raw word) size a form two i known = absurd (none-some i known)
kept_half inputs own (RawShort half) size a form two i known = absurd (none-some i known)
kept_half inputs own (RawPair first second) size a form two i known = absurd (none-some i known)

pub own_half :
    (inputs : ParsedInputs) (q : Place) (item : Item) (size a : ℕ) → is_fixed_at inputs q.object q.section ≡ true
    → IsForm (item_piece_at inputs q item) size → width (item_piece_at inputs q item) size a ≡ 2 → HasOwnHalf (size_at inputs.objects q) item
own_half inputs q item size a fixed form two =
    let own = size_at inputs.objects q in
    let is : item_piece_at inputs q item ≡ kept_piece inputs own item = ap (λ b. cond b (kept_piece inputs own item) (piece_of inputs item)) fixed in
    kept_half inputs own item size a (subst (λ p. IsForm p size) is form) (ap (λ p. width p size a) (sym is) ∙ two)

-- ---- room of their own

two_at_least : (b : Bool) → 0 < cond {A = ℕ} b 2 4
two_at_least true = omega arith
two_at_least false = omega arith

part_some : (extensions : Extensions) (t : Target) (f : ℕ → Instr) → 0 < part_size extensions t f
part_some extensions (Code q) f = omega arith
part_some extensions (Number n) f = two_at_least (is_short_on extensions (f n))
part_some extensions (Absent n) f = two_at_least (is_short_on extensions (f n))
part_some extensions Nowhere f = omega arith

branch_some : (t : ℕ) (b : Bool) (size : ℕ) → IsForm (piece.Branch t b) size → 0 < size
branch_some t true size (inl same) = omega (arith, same)
branch_some t true size (inr (inl same)) = omega (arith, same)
branch_some t true size (inr (inr same)) = omega (arith, same)
branch_some t false size (inl same) = omega (arith, same)
branch_some t false size (inr same) = omega (arith, same)

jump_some :
    (objects : List ObjectParts) (to : Place) (b : Bool) (size a : ℕ) → IsForm (jump_piece objects to b) size
    → 0 < width (jump_piece objects to b) size a
jump_some objects to true size a (inl same) = omega (arith, same)
jump_some objects to true size a (inr same) = omega (arith, same)
jump_some objects to false size a same = omega (arith, same)

-- what isn't padding takes some bytes
free_some :
    (inputs : ParsedInputs) (item : Item) (size a : ℕ) → is_solid (Some item) ≡ true → IsForm (piece_of inputs item) size
    → 0 < width (piece_of inputs item) size a
free_some inputs (Op i) size a solid form = omega (arith, form, two_at_least (is_short_on inputs.map.extensions i))
free_some inputs (Hi i t) size a solid form = omega (arith, form, part_some inputs.map.extensions t (λ x. with_upper i (hi20_of x)))
free_some inputs (Lo i t) size a solid form = omega (arith, form, part_some inputs.map.extensions t (λ x. with_imm i (lo12_of x)))
free_some inputs (PcHi i t) size a solid form = omega (arith, form)
free_some inputs (PcLo i from) size a solid form = omega (arith, form)
free_some inputs (Branch op first second to) size a solid form = branch_some (piece_number_at inputs.objects to) (is_short (instr.Branch op first second (pos 0))) size form
free_some inputs (Jump rd to) size a solid form = jump_some inputs.objects to (is_short (instr.Jal rd (pos 0))) size a form
free_some inputs (Call rd temp to) size a solid form = jump_some inputs.objects to (is_short (instr.Jal rd (pos 0))) size a form
free_some inputs (Align bytes) size a solid form = absurd cc
free_some inputs (Word t) size a solid form = omega (arith, form)
free_some inputs (Raw word) size a solid form = omega (arith, form)
free_some inputs (RawShort half) size a solid form = omega (arith, form)
free_some inputs (RawPair first second) size a solid form = omega (arith, form)

kept_some :
    (inputs : ParsedInputs) (own : ℕ) (item : Item) (size a : ℕ) → is_solid (Some item) ≡ true → HasOwnSize item own → IsForm (kept_piece inputs own item) size
    → 0 < width (kept_piece inputs own item) size a
kept_some inputs own (Op i) size a solid (inl two) form = omega (arith, form, two)
kept_some inputs own (Op i) size a solid (inr four) form = omega (arith, form, four)
kept_some inputs own (Hi i t) size a solid has form = omega (arith, form)
kept_some inputs own (Lo i t) size a solid has form = omega (arith, form)
kept_some inputs own (PcHi i t) size a solid has form = omega (arith, form)
kept_some inputs own (PcLo i from) size a solid has form = omega (arith, form)
kept_some inputs own (Branch op first second to) size a solid has form =
    branch_some (piece_number_at inputs.objects to) (eqb own 2 && is_short_branch op first second) size form
kept_some inputs own (Jump rd to) size a solid has form = jump_some inputs.objects to (eqb own 2 && is_short_jump rd) size a form
kept_some inputs own (Call rd temp to) size a solid has form = omega (arith, form)
kept_some inputs own (Align bytes) size a solid has form = absurd cc
kept_some inputs own (Word t) size a solid has form = omega (arith, form)
kept_some inputs own (Raw word) size a solid has form = omega (arith, form)
kept_some inputs own (RawShort half) size a solid has form = omega (arith, form)
kept_some inputs own (RawPair first second) size a solid has form = omega (arith, form)

pub width_some :
    (inputs : ParsedInputs) (q : Place) (item : Item) (size a : ℕ) → is_solid (Some item) ≡ true → HasOwnSize item (size_at inputs.objects q)
    → IsForm (item_piece_at inputs q item) size → 0 < width (item_piece_at inputs q item) size a
width_some inputs q item size a solid has = by (is_fixed_at inputs q.object q.section)
  where
    piece_by : Bool → Piece
    piece_by b = cond b (kept_piece inputs (size_at inputs.objects q) item) (piece_of inputs item)

    by : (b : Bool) → IsForm (piece_by b) size → 0 < width (piece_by b) size a
    by true = kept_some inputs (size_at inputs.objects q) item size a solid has
    by false = free_some inputs item size a solid
