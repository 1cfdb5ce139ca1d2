-- Code made smaller needs no extension that the chip lacks (`fits_chip`): what is written is words and halfwords, one after another (`IsOne`), and
-- the chip has each of the halfwords, since it is the short form that the chip has of an instruction that is known before the layout, a jump, a
-- branch or an `addi`, which are of Zca, or a group or a jump through the table, which are there only if the chip has Zcmp or Zcmt.
use Rattle.std.proofs.Common.{◌≡◌, ◌≢◌, ◌<◌, ◌≤◌, ◌^◌, ◌+◌, ◌-◌, ◌*◌, ◌/◌, ◌%◌, ◌⊎◌, inl, inr, ℕ, zero, suc, List, [], ◌∷◌, ◌++◌, length, Option, Some, None, Bool, true, false, cond, refl, sym, ap, subst, ◌∙◌, arith, eqb, ltb, ℤ}
use Rattle.std.specs.Prelude.{All}
use Rattle.std.specs.Option.{option_map, option_map_or}
use Rattle.std.proofs.lemmas.Bool.{and_from, cond-false, cond-true, eq-eqb, ne_eqb}
use Rattle.std.proofs.lemmas.Option.{none-some, same_Some}
use Rattle.zc_base.specs.Fields.{half_bytes, word_bytes}
use Rattle.zc_base.specs.MemMap.{IsMap}
use Rattle.zc_base.specs.declared.extensions.Extensions.{Extensions}
use Rattle.zc_base.specs.declared.place.Place.{Place}
use Rattle.psabi_sym.specs.Fixed.{is_fixed_at}
use Rattle.psabi_sym.specs.Inputs.{Inputs, parsed}
use Rattle.psabi_sym.specs.declared.target.Target.TheVariants as target
use Rattle.rv_decode.specs.Bits.{as_signed, field}
use Rattle.rv_decode.specs.declared.instr.BranchOp.{BranchOp}
use Rattle.rv_decode.specs.declared.instr.BranchOp.TheVariants.{Beq, Bne, Blt, Bge, Bltu, Bgeu}
use Rattle.rv_decode.specs.declared.instr.Instr.{Instr}
use Rattle.rv_decode.specs.declared.instr.Instr.TheVariants as instr
use Rattle.rv_decode.specs.declared.instr.RegOp.TheVariants.{Mul}
use Rattle.rv_decode.proofs.DecodeLaws.{decoded-low_bits}
use Rattle.zc_decode.specs.Extensions.{has_half, has_row}
use Rattle.zc_decode.specs.Fields.{high_reg_of, low_reg_of}
use Rattle.zc_decode.specs.Halfwords.{decoded16, spelled}
use Rattle.zc_decode.specs.Rows.{form_of}
use Rattle.zc_decode.specs.declared.form.Form.{Form}
use Rattle.zc_decode.specs.declared.form.Form.TheVariants.{CLbu, CLhu, CLh, CSb, CSh, CMul, CZextB, CNot, CmPush, CmPop, CmPopretz, CmPopret, CmMvsa01, CmMva01s, CmJt, CmJalt}
use Rattle.zc_decode.specs.declared.short.Short.{Short}
use Rattle.zc_decode.specs.declared.short.Short.TheVariants.{Base, TableJump}
use Rattle.zc_encode.specs.Encoding.{normal_short}
use Rattle.zc_encode.specs.Halves.{encoded16, half_for}
use Rattle.zc_encode.proofs.JumpRows.{branch_row, jal_row}
use Rattle.block_cut.specs.Faults.{first_fault}
use Rattle.block_cut.specs.Items.{size_at}
use Rattle.block_cut.specs.declared.item.Item.{Item}
use Rattle.block_cut.specs.declared.item.Item.TheVariants.{Op, Hi, Lo, PcHi, PcLo, Branch, Jump, Call, Align, Word, Raw, RawShort, RawPair}
use Rattle.frame_match.specs.declared.group.Group.{Group}
use Rattle.shrink_layout.specs.Halves.{fixed_instr}
use Rattle.shrink_layout.specs.Pieces.{is_short_on, slot_at, unit_at}
use Rattle.shrink_layout.specs.Units.{CodeUnit, OneGroup, OneItem, OneSite, is_push, rest_instr}
use Rattle.shrink_layout.proofs.ChipLaws.{rest_half, row_half, short_on-half}
use Rattle.shrink_layout.proofs.UnitLaws.{unit_group, unit_site}
use Rattle.zc_link.specs.Copied.{bytes_from}
use Rattle.zc_link.specs.ImageParts.{listed_places}
use Rattle.zc_link.specs.Invariants.Groups.{GoesOn, GroupKind, MovesFromSaved, MovesToSaved, PopOf, PushOf, Returns, ZeroBeforeRaise, ZeroBeforeReturn, ZeroFirst, group_half}
use Rattle.zc_link.specs.LaidOut.{HasForm, IsLaidOut, UnitForm}
use Rattle.zc_link.specs.Supported.{FitsChip, is_opaque, is_supported}
use Rattle.zc_link.specs.TextLayout.{TextLayout, behind, zc_layout}
use Rattle.zc_link.specs.Values.{way}
use Rattle.zc_link.specs.Written.{HoldsPlace, IsGroupWritten, IsOpWritten, IsSpelled, IsWritten, SpellsHalf, SpellsWord, UnitWritten, copies, nop, padding, short_nop}
use Rattle.zc_link.proofs.Fetched.{short_low}
use Rattle.zc_link.proofs.GroupItems.{group_known, needs_zcmp}
use Rattle.zc_link.proofs.Lookup.{found_holds, lookup}
use Rattle.zc_link.proofs.MeantLaws.{mapped}
use Rattle.zc_link.proofs.SettledLaws.{item_short_on, settled_is_laid_out}
use Rattle.zc_link.proofs.SizedPieces.{size_is}
use Rattle.zc_link.proofs.Standing.{gathered}

-- ---- rows

-- a jump or a branch
abbrev is_transfer : Short → Bool
is_transfer (Base (instr.Jal rd distance)) = true
is_transfer (Base (instr.Branch op first second distance)) = true
is_transfer other = false

-- a row that spells one is of Zca
transfer_row : (extensions : Extensions) (form : Form) (half : ℕ) → is_transfer (normal_short (spelled form half)) ≡ true → has_row extensions form ≡ true
transfer_row extensions CLbu half is = absurd cc
transfer_row extensions CLhu half is = absurd cc
transfer_row extensions CLh half is = absurd cc
transfer_row extensions CSb half is = absurd cc
transfer_row extensions CSh half is = absurd cc
transfer_row extensions CMul half is = absurd (by (ltb (high_reg_of half) (low_reg_of half)) is)
  where
    by : (b : Bool)
        → is_transfer (Base (cond b (instr.WithReg Mul (high_reg_of half) (low_reg_of half) (high_reg_of half)) (instr.WithReg Mul (high_reg_of half) (high_reg_of half) (low_reg_of half)))) ≡ true
        → ⊥
    by true h = cc
    by false h = cc
transfer_row extensions CZextB half is = absurd cc
transfer_row extensions CNot half is = absurd cc
transfer_row extensions CmPush half is = absurd cc
transfer_row extensions CmPop half is = absurd cc
transfer_row extensions CmPopretz half is = absurd cc
transfer_row extensions CmPopret half is = absurd cc
transfer_row extensions CmMvsa01 half is = absurd cc
transfer_row extensions CmMva01s half is = absurd cc
transfer_row extensions CmJt half is = absurd cc
transfer_row extensions CmJalt half is = absurd cc
transfer_row extensions form half is = refl

-- a push, a pop or two moves
abbrev is_grouped : Short → Bool
is_grouped (Base i) = false
is_grouped (TableJump index) = false
is_grouped other = true

-- a row that spells one is of Zcmp
group_row : (extensions : Extensions) → extensions.zcmp ≡ true → (form : Form) (half : ℕ) → is_grouped (spelled form half) ≡ true → has_row extensions form ≡ true
group_row extensions zcmp CmPush half is = zcmp
group_row extensions zcmp CmPop half is = zcmp
group_row extensions zcmp CmPopretz half is = zcmp
group_row extensions zcmp CmPopret half is = zcmp
group_row extensions zcmp CmMvsa01 half is = zcmp
group_row extensions zcmp CmMva01s half is = zcmp
group_row extensions zcmp form half is = absurd cc

-- a jump through the table
abbrev is_table_jump : Short → Bool
is_table_jump (TableJump index) = true
is_table_jump other = false

-- a row that spells one is of Zcmt
table_row : (extensions : Extensions) → extensions.zcmt ≡ true → (form : Form) (half : ℕ) → is_table_jump (spelled form half) ≡ true → has_row extensions form ≡ true
table_row extensions zcmt CmJt half is = zcmt
table_row extensions zcmt CmJalt half is = zcmt
table_row extensions zcmt form half is = absurd cc

-- ---- halfwords

jal_half : (extensions : Extensions) (rd half : ℕ) (i : Instr) (distance : ℤ) → instr.Jal rd distance ≡ i → encoded16 (Base i) ≡ Some half → has_half extensions half ≡ true
jal_half extensions rd half i distance same is =
    let r = jal_row rd half distance (ap (λ i. encoded16 (Base i)) same ∙ is) in
    row_half extensions half r.0 r.1.row (transfer_row extensions r.0 half (ap is_transfer r.1.is))

-- the halfword of a branch in normal form
normal_branch_half : (extensions : Extensions) (op : BranchOp) (first second half : ℕ) (distance : ℤ) → half_for (instr.Branch op first second distance) ≡ Some half → has_half extensions half ≡ true
normal_branch_half extensions op first second half distance is =
    let r = branch_row op first second half distance is in
    row_half extensions half r.0 r.1.row (transfer_row extensions r.0 half (ap is_transfer r.1.is))

branch_half : (extensions : Extensions) (op : BranchOp) (first second half : ℕ) (distance : ℤ) → encoded16 (Base (instr.Branch op first second distance)) ≡ Some half → has_half extensions half ≡ true
branch_half extensions Beq first second half distance is = by (ltb first second) is
  where
    by : (b : Bool) → half_for (cond b (instr.Branch Beq second first distance) (instr.Branch Beq first second distance)) ≡ Some half → has_half extensions half ≡ true
    by true h = normal_branch_half extensions Beq second first half distance h
    by false h = normal_branch_half extensions Beq first second half distance h
branch_half extensions Bne first second half distance is = by (ltb first second) is
  where
    by : (b : Bool) → half_for (cond b (instr.Branch Bne second first distance) (instr.Branch Bne first second distance)) ≡ Some half → has_half extensions half ≡ true
    by true h = normal_branch_half extensions Bne second first half distance h
    by false h = normal_branch_half extensions Bne first second half distance h
branch_half extensions Blt first second half distance is = absurd cc
branch_half extensions Bge first second half distance is = absurd cc
branch_half extensions Bltu first second half distance is = absurd cc
branch_half extensions Bgeu first second half distance is = absurd cc

-- a halfword that decodes is of the row that spells it
decoded_half : (extensions : Extensions) (half : ℕ) (short : Short) → decoded16 half ≡ Some short → ((form : Form) → spelled form half ≡ short → has_row extensions form ≡ true) → has_half extensions half ≡ true
unfolding has_half decoded16
decoded_half extensions half short is sure = by (form_of half) is
  where
    by : (o : Option Form) → option_map (λ form. spelled form half) o ≡ Some short → option_map_or (has_row extensions) o false ≡ true
    by None h = absurd (none-some short h)
    by (Some form) h = sure form (same_Some (spelled form half) short h)

-- padding of two bytes is c.nop
nop_half : (extensions : Extensions) → has_half extensions short_nop ≡ true
unfolding has_half form_of
nop_half extensions = refl

-- a word begins with other bits than a halfword
half_low : (extensions : Extensions) (half : ℕ) → has_half extensions half ≡ true → field half 0 2 ≢ 3
unfolding has_half decoded16
half_low extensions half is = by (form_of half) refl is
  where
    by : (o : Option Form) → form_of half ≡ o → option_map_or (has_row extensions) o false ≡ true → field half 0 2 ≢ 3
    by None row h = absurd cc
    by (Some form) row h = short_low half (spelled form half) (ap (option_map (λ form. spelled form half)) row)

-- ---- one word or halfword

record IsWord (bytes : List ℕ) : Type 0 where
  pub word : ℕ
  pub are : bytes ≡ word_bytes word
  pub low : field word 0 2 ≡ 3

record IsHalf (extensions : Extensions) (bytes : List ℕ) : Type 0 where
  pub half : ℕ
  pub small : half < 2 ^ 16
  pub are : bytes ≡ half_bytes half
  pub has : has_half extensions half ≡ true

-- these bytes are a word, or a halfword that the chip has
abbrev IsOne : Extensions → List ℕ → Type 0
IsOne extensions bytes = IsWord bytes ⊎ IsHalf extensions bytes

word_then : (extensions : Extensions) (word : ℕ) (rest : List ℕ) → field word 0 2 ≡ 3 → is_supported extensions rest ≡ true → is_supported extensions (word_bytes word ++ rest) ≡ true
word_then extensions word rest low more =
    let three : eqb (word % 256 % 4) 3 ≡ true = eq-eqb (word % 256 % 4) 3 (omega (arith, low)) in
    cond-true (eqb (word % 256 % 4) 3) (is_supported extensions rest) _ three ∙ more

half_then : (extensions : Extensions) (half : ℕ) (rest : List ℕ) → half < 2 ^ 16 → has_half extensions half ≡ true → is_supported extensions rest ≡ true
    → is_supported extensions (half_bytes half ++ rest) ≡ true
half_then extensions half rest small has more = by rest more
  where
    same : half % 256 + 256 * (half / 256 % 256) ≡ half
    same = omega (arith, small)

    own : has_half extensions (half % 256 + 256 * (half / 256 % 256)) ≡ true
    own = ap (has_half extensions) same ∙ has

    by : (rest : List ℕ) → is_supported extensions rest ≡ true → is_supported extensions (half_bytes half ++ rest) ≡ true
    by [] more = own
    by (c ∷ []) more = absurd cc
    by (c ∷ d ∷ rest) more =
        let other : eqb (half % 256 % 4) 3 ≡ false = ne_eqb (half % 256 % 4) 3 (λ e. half_low extensions half has (omega (arith, e))) in
        cond-false (eqb (half % 256 % 4) 3) (is_supported extensions rest) _ other ∙ and_from _ (is_supported extensions (c ∷ d ∷ rest)) own more

-- before others, and alone
one_then : (extensions : Extensions) (bytes rest : List ℕ) → IsOne extensions bytes → is_supported extensions rest ≡ true → is_supported extensions (bytes ++ rest) ≡ true
one_then extensions bytes rest (inl w) more = ap (λ b. is_supported extensions (b ++ rest)) w.are ∙ word_then extensions w.word rest w.low more
one_then extensions bytes rest (inr h) more = ap (λ b. is_supported extensions (b ++ rest)) h.are ∙ half_then extensions h.half rest h.small h.has more

one_alone : (extensions : Extensions) (bytes : List ℕ) → IsOne extensions bytes → is_supported extensions bytes ≡ true
one_alone extensions bytes (inl w) = ap (is_supported extensions) w.are ∙ word_then extensions w.word [] w.low refl
one_alone extensions bytes (inr h) = ap (is_supported extensions) h.are ∙ half_then extensions h.half [] h.small h.has refl

two_ones : (extensions : Extensions) (bytes first second : List ℕ) → bytes ≡ first ++ second → IsOne extensions first → IsOne extensions second → is_supported extensions bytes ≡ true
two_ones extensions bytes first second both one two = ap (is_supported extensions) both ∙ one_then extensions first second one (one_alone extensions second two)

word_one : (extensions : Extensions) (bytes : List ℕ) (i : Instr) → SpellsWord bytes i → IsOne extensions bytes
word_one extensions bytes i w = inl (record { word = w.word; are = w.are; low = decoded-low_bits w.word i w.spells })

spelled_one : (extensions : Extensions) (n : ℕ) (bytes : List ℕ) (i : Instr) → IsSpelled n bytes i
    → (n ≡ 2 → (half : ℕ) → encoded16 (Base i) ≡ Some half → has_half extensions half ≡ true) → IsOne extensions bytes
spelled_one extensions n bytes i (inl word) sure = word_one extensions bytes i word.1
spelled_one extensions n bytes i (inr short) sure =
    let s = short.1 in
    inr (record { half = s.half; small = s.small; are = s.are; has = sure short.0 s.half s.first })

half_one : (extensions : Extensions) (bytes : List ℕ) (short : Short) → SpellsHalf bytes short
    → ((form : Form) (half : ℕ) → spelled form half ≡ short → has_row extensions form ≡ true) → IsOne extensions bytes
half_one extensions bytes short s sure =
    inr (record { half = s.half; small = s.small; are = s.are; has = decoded_half extensions s.half short s.spells (λ form is. sure form s.half is) })

copies_supported : (extensions : Extensions) (count : ℕ) → is_supported extensions (copies nop count) ≡ true
copies_supported extensions zero = refl
copies_supported extensions (suc count) = copies_supported extensions count

padding_supported : (extensions : Extensions) (n : ℕ) → is_supported extensions (padding n) ≡ true
padding_supported extensions n = by (eqb (n % 4) 2)
  where
    by : (b : Bool) → is_supported extensions (cond b (half_bytes short_nop) [] ++ copies nop (n / 4)) ≡ true
    by true = half_then extensions short_nop (copies nop (n / 4)) (omega arith) (nop_half extensions) (copies_supported extensions (n / 4))
    by false = copies_supported extensions (n / 4)

-- ---- items

module _
    (extensions : Extensions) (inputs : Inputs) (slots : List (Option Place)) (q : Place) (free : is_fixed_at (parsed inputs) q.object q.section ≡ false)
    (own : ℕ → List ℕ) (a size n : ℕ) (bytes : List ℕ) where
  abbrev layout : TextLayout
  layout = zc_layout inputs slots

  -- what is known of an item before it is seen which one it is
  abbrev IsKnown : Item → Type 0
  IsKnown item = n ≡ 2 → (i : Instr) → fixed_instr item ≡ Some i → is_short_on extensions i ≡ true

  -- an instruction that is known before the layout
  known_supported : (item : Item) (i : Instr) → IsKnown item → fixed_instr item ≡ Some i → IsSpelled n bytes i → is_supported extensions bytes ≡ true
  known_supported item i known is spells =
      one_alone extensions bytes (spelled_one extensions n bytes i spells (λ two half first. short_on-half extensions i half (known two i is) first))

  -- one of four bytes
  word_supported : (i : Instr) → n ≡ 4 → IsSpelled n bytes i → is_supported extensions bytes ≡ true
  word_supported i four spells = one_alone extensions bytes (spelled_one extensions n bytes i spells (λ two. absurd (omega (arith, four, two))))

  item_supported :
      (item : Item) → IsKnown item → HasForm layout.address a size n item → is_opaque (OneItem item) ≡ false → IsWritten layout q own a n item bytes
      → is_supported extensions bytes ≡ true
  item_supported (Op i) known form read w = known_supported (Op i) i known refl (subst (λ b. IsOpWritten b own n i bytes) free w)
  item_supported (Hi i (target.Number x)) known form read w = known_supported (Hi i (target.Number x)) w.instr known w.is w.spelled
  item_supported (Hi i (target.Absent x)) known form read w = known_supported (Hi i (target.Absent x)) w.instr known w.is w.spelled
  item_supported (Hi i (target.Code to)) known (inl four) read w = word_supported w.instr four w.spelled
  item_supported (Hi i (target.Code to)) known (inr short) read w = absurd (let no = short.1 in cc)
  item_supported (Hi i target.Nowhere) known form read w = absurd (none-some w.instr w.is)
  item_supported (Lo i (target.Number x)) known form read w = known_supported (Lo i (target.Number x)) w.instr known w.is w.spelled
  item_supported (Lo i (target.Absent x)) known form read w = known_supported (Lo i (target.Absent x)) w.instr known w.is w.spelled
  item_supported (Lo i (target.Code to)) known (inl four) read w = word_supported w.instr four w.spelled
  item_supported (Lo i (target.Code to)) known (inr short) read w = absurd (let no = short.1 in cc)
  item_supported (Lo i target.Nowhere) known form read w = absurd (none-some w.instr w.is)
  item_supported (PcHi i t) known form read w = word_supported w.instr form w.spelled
  item_supported (PcLo i from) known form read w = word_supported w.instr form w.spelled
  item_supported (Branch op first second to) known form read (inl w) =
      let m = mapped (λ b. instr.Branch op first second (as_signed (way a b))) (layout.address to) w.instr w.is in
      one_alone extensions bytes (spelled_one extensions n bytes w.instr w.spelled
      (λ two half is. branch_half extensions op first second half (as_signed (way a m.0)) (ap (λ i. encoded16 (Base i)) m.2 ∙ is)))
  item_supported (Branch op first second to) known form read (inr long) =
      let b = long.1.2 in
      two_ones extensions bytes b.first b.second b.both (word_one extensions b.first _ b.over) (word_one extensions b.second _ b.jump)
  item_supported (Jump rd to) known form read w =
      let m = mapped (λ b. instr.Jal rd (as_signed (way a b))) (layout.address to) w.instr w.is in
      one_alone extensions bytes (spelled_one extensions n bytes w.instr w.spelled (λ two half is. jal_half extensions rd half w.instr (as_signed (way a m.0)) m.2 is))
  item_supported (Call rd temp to) known form read (inl w) =
      let m = mapped (λ b. instr.Jal rd (as_signed (way a b))) (layout.address to) w.instr w.is in
      one_alone extensions bytes (spelled_one extensions n bytes w.instr w.spelled (λ two half is. jal_half extensions rd half w.instr (as_signed (way a m.0)) m.2 is))
  item_supported (Call rd temp to) known form read (inr long) =
      let c = long.1.2 in
      two_ones extensions bytes c.first c.second c.both (word_one extensions c.first _ c.upper) (word_one extensions c.second _ c.lower)
  item_supported (Align k) known form read w = ap (is_supported extensions) w ∙ padding_supported extensions n
  item_supported (Word t) known form read w = absurd cc
  item_supported (Raw word) known form read w = absurd cc
  item_supported (RawShort half) known form read w = absurd cc
  item_supported (RawPair first second) known form read w = absurd cc

-- ---- groups

kind_grouped : (kind : GroupKind) → is_grouped (group_half kind) ≡ true
kind_grouped (PushOf list frame order) = refl
kind_grouped (PopOf GoesOn list frame order) = refl
kind_grouped (PopOf Returns list frame order) = refl
kind_grouped (PopOf ZeroFirst list frame order) = refl
kind_grouped (PopOf ZeroBeforeRaise list frame order) = refl
kind_grouped (PopOf ZeroBeforeReturn list frame order) = refl
kind_grouped (MovesToSaved order first second) = refl
kind_grouped (MovesFromSaved order first second) = refl

group_supported : (extensions : Extensions) (n : ℕ) (g : Group) (bytes : List ℕ) → extensions.zcmp ≡ true → is_grouped g.kind ≡ true → IsGroupWritten n g bytes → is_supported extensions bytes ≡ true
group_supported extensions n g bytes zcmp grouped = by
  where
    one : (half : List ℕ) → SpellsHalf half g.kind → IsOne extensions half
    one half s = half_one extensions half g.kind s (λ form h is. group_row extensions zcmp form h (ap is_grouped is ∙ grouped))

    by : IsGroupWritten n g bytes → is_supported extensions bytes ≡ true
    by (inl w) = one_alone extensions bytes (one bytes w.1)
    by (inr w) =
        let s = w.1 in
        let rest : IsOne extensions s.other = spelled_one extensions (n - 2) s.other (rest_instr g) s.rest (λ two half is. rest_half extensions g half is) in
        either (is_push g.kind) s.half s.other s.both (one s.half s.spells) rest
      where
        either : (b : Bool) (half other : List ℕ) → bytes ≡ cond b (half ++ other) (other ++ half) → IsOne extensions half → IsOne extensions other → is_supported extensions bytes ≡ true
        either true half other both first second = two_ones extensions bytes half other both first second
        either false half other both first second = two_ones extensions bytes other half both second first

-- ---- all that is written

module _
    (inputs : Inputs) (faultless : first_fault inputs ≡ None) (is_map : IsMap inputs.map) (slots : List (Option Place)) (few : length slots ≤ 256)
    (table : (slots ≡ []) ⊎ (inputs.map.extensions.zcmt ≡ true)) where
  abbrev L : TextLayout
  L = zc_layout inputs slots

  laid : IsLaidOut L
  laid = settled_is_laid_out inputs faultless is_map slots few

  -- without slots no jump goes through the table
  site_needs : (q : Place) (slot : ℕ) → unit_at (parsed inputs) slots q ≡ Some (OneSite slot) → inputs.map.extensions.zcmt ≡ true
  unfolding slot_at
  site_needs q slot is = by table
    where
      by : (slots ≡ []) ⊎ (inputs.map.extensions.zcmt ≡ true) → inputs.map.extensions.zcmt ≡ true
      by (inr has) = has
      by (inl empty) =
          let has = (unit_site (parsed inputs) (slot_at (parsed inputs) slots) q slot is).1 in
          absurd (none-some slot (ap (λ s. slot_at (parsed inputs) s q) (sym empty) ∙ has))

  unit_supported :
      (q : Place) (a n : ℕ) (own : ℕ → List ℕ) (bytes : List ℕ) (u : CodeUnit) → L.unit q ≡ Some u → is_opaque u ≡ false → is_fixed_at (parsed inputs) q.object q.section ≡ false
      → L.address q ≡ Some a → L.address (behind L q) ≡ Some (a + n) → UnitForm L.address a (size_at (parsed inputs).objects q) n u → UnitWritten L q own a n u bytes
      → is_supported inputs.map.extensions bytes ≡ true
  unit_supported q a n own bytes (OneItem item) unit read free at next form w =
      item_supported inputs.map.extensions inputs slots q free own a (size_at (parsed inputs).objects q) n bytes item
      (λ two i is. item_short_on inputs faultless is_map slots few q a item i free unit at (size_is L q a n at next ∙ two) is) form read w
  unit_supported q a n own bytes (OneGroup g) unit read free at next form w =
      let role = unit_group (parsed inputs) (slot_at (parsed inputs) slots) q g unit in
      let known = group_known inputs (gathered inputs faultless) q g role in
      group_supported inputs.map.extensions n g bytes (needs_zcmp inputs (gathered inputs faultless) q g role) (ap is_grouped known.half ∙ kind_grouped known.kind) w
  unit_supported q a n own bytes (OneSite slot) unit read free at next form w = site w
    where
      site : SpellsHalf bytes (TableJump slot) → is_supported inputs.map.extensions bytes ≡ true
      site w =
          one_alone inputs.map.extensions bytes
          (half_one inputs.map.extensions bytes (TableJump slot) w (λ form half is. table_row inputs.map.extensions (site_needs q slot unit) form half (ap is_table_jump is)))

  module _ (text : List ℕ) (holds : All (HoldsPlace L text) (listed_places L)) where
    units :
        (q : Place) (a end : ℕ) (u : CodeUnit) → L.unit q ≡ Some u → is_opaque u ≡ false → is_fixed_at (parsed inputs) q.object q.section ≡ false
        → L.address q ≡ Some a → L.address (behind L q) ≡ Some end
        → is_supported inputs.map.extensions (bytes_from text (a - inputs.map.text) (end - a)) ≡ true
    units q a end u unit read free at next =
        let h = found_holds (HoldsPlace L text) (listed_places L) q a holds (lookup L laid.only q ∙ at) u unit in
        let lies = laid.each q a u unit at in
        let size : h.size ≡ end - a = omega (arith, same_Some (a + h.size) end (sym h.next ∙ next)) in
        let same : lies.size ≡ h.size = omega (arith, same_Some (a + lies.size) (a + h.size) (sym lies.next ∙ h.next)) in
        let form : UnitForm L.address a (size_at (parsed inputs).objects q) h.size u =
        subst (λ n. UnitForm L.address a (size_at (parsed inputs).objects q) n u) same lies.form in
        subst (λ n. is_supported inputs.map.extensions (bytes_from text (a - inputs.map.text) n) ≡ true) size
        (unit_supported q a h.size (bytes_from h.section.bytes q.offset) (bytes_from text (a - inputs.map.text) h.size) u unit read free at h.next form h.written)

    pub fits_chip : FitsChip L text
    fits_chip = record { units = units; front = table }
