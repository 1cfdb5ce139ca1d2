-- Halfwords by what is written for pieces, and which of them are of jumps and calls through the table.
use Rattle.std.proofs.Common.{◌≡◌, ℕ, zero, suc, List, [], ◌∷◌, ◌++◌, length, Option, Some, None, true, false, slice_get, slice_index, refl, ap, sym, subst, ◌∙◌, arith}
use Rattle.std.specs.Option.{option_map}
use Rattle.std.proofs.lemmas.Option.{none-some, same_Some}
use Rattle.zc_base.specs.declared.place.Place.{Place}
use Rattle.psabi_sym.specs.Faults.{gather_fault}
use Rattle.psabi_sym.specs.Inputs.{Inputs, parsed}
use Rattle.psabi_sym.specs.Indexed.{all_sections}
use Rattle.rv_decode.specs.declared.instr.Instr.{Instr}
use Rattle.zc_decode.specs.Halfwords.{decoded16, spelled}
use Rattle.zc_decode.specs.Rows.{form_of}
use Rattle.zc_decode.specs.declared.short.Short.{Short}
use Rattle.zc_decode.specs.declared.short.Short.TheVariants.{Base, Push, Pop, PopRet, PopRetz, MoveSa, MoveAs, TableJump}
use Rattle.zc_encode.specs.Encoding.{normal_short}
use Rattle.zc_encode.specs.Halves.{encoded16}
use Rattle.zc_encode.proofs.ZcmpRows.{table_row}
use Rattle.zca_zcb_pass.specs.Forms.{HasEffectOf}
use Rattle.shrink_layout.specs.Halves.{IsSiteHalf}
use Rattle.shrink_layout.specs.Invariants.Made.{AreHalvesOf, all_owners}
use Rattle.shrink_layout.specs.Invariants.Numbers.{AreHalves, IsHalfAt, is_table_half, is_table_jump}
use Rattle.shrink_layout.specs.Pieces.{unit_at}
use Rattle.shrink_layout.specs.Units.{CodeUnit, OneGroup, OneItem, OneSite}
use Rattle.shrink_layout.proofs.NumberLaws.{laid_there, length-laid_in, length-pieces_of}

-- ---- which spell a jump or call through the table

-- 0 doesn't
pub no_table_half : is_table_half 0 ≡ false
unfolding decoded16 form_of
no_table_half = refl

-- a halfword with the effect of a 32-bit instruction is no jump through the table
pub effect_no_table : (i : Instr) (half : ℕ) → HasEffectOf i half → is_table_half half ≡ false
effect_no_table i half has = ap is_table_jump has.1

-- the halfword of a slot is a jump through the table
pub table_half_is : (slot half : ℕ) → encoded16 (TableJump slot) ≡ Some half → is_table_half half ≡ true
unfolding decoded16
table_half_is slot half is =
    let row = table_row slot half is in
    ap (λ o. is_table_jump (option_map (λ form. spelled form half) o)) row.1.row ∙ by (spelled row.0 half) row.1.is
  where
    by : (s : Short) → normal_short s ≡ TableJump slot → is_table_jump (Some s) ≡ true
    by (Base i) h = absurd cc
    by (Push list adjust) h = absurd cc
    by (Pop list adjust) h = absurd cc
    by (PopRet list adjust) h = absurd cc
    by (PopRetz list adjust) h = absurd cc
    by (MoveSa first second) h = absurd cc
    by (MoveAs first second) h = absurd cc
    by (TableJump index) h = refl

-- ---- those of pieces

-- the halfwords of two lists
pub halves-append : (owners more : List (Option CodeUnit)) (halves others : List ℕ) → AreHalvesOf owners halves → AreHalvesOf more others → AreHalvesOf (owners ++ more) (halves ++ others)
halves-append [] more [] others one two = two
halves-append [] more (h ∷ halves) others one two = absurd one
halves-append (owner ∷ owners) more [] others one two = absurd one
halves-append (owner ∷ owners) more (h ∷ halves) others one two = (one.0, halves-append owners more halves others one.1 two)

-- there are as many halfwords as owners
pub length-halves : (owners : List (Option CodeUnit)) (halves : List ℕ) → AreHalvesOf owners halves → length halves ≡ length owners
length-halves [] [] are = refl
length-halves [] (h ∷ halves) are = absurd are
length-halves (owner ∷ owners) [] are = absurd are
length-halves (owner ∷ owners) (h ∷ halves) are = ap suc (length-halves owners halves are.1)

-- the halfword of one owner
half_got : (owners : List (Option CodeUnit)) (halves : List ℕ) → AreHalvesOf owners halves → (k : ℕ) (o : Option CodeUnit) → slice_get owners k ≡ Some o → IsHalfAt o (slice_index halves k)
half_got [] halves are k o is = absurd (none-some o is)
half_got (owner ∷ owners) [] are k o is = absurd are
half_got (owner ∷ owners) (h ∷ halves) are zero o is = subst (λ x. IsHalfAt x h) (same_Some owner o is) are.0
half_got (owner ∷ owners) (h ∷ halves) are (suc k) o is = half_got owners halves are.1 k o is

-- the halfwords of all pieces
pub all_halves : (inputs : Inputs) → gather_fault inputs ≡ None → (slots : List (Option Place)) (halves : List ℕ)
    → AreHalvesOf (all_owners (parsed inputs) slots) halves → AreHalves (parsed inputs) slots halves
all_halves inputs none slots halves are =
    let given = parsed inputs in
    let owners = all_owners given slots in (
      omega (arith, length-halves owners halves are, length-laid_in (λ s. None) (unit_at given slots) (all_sections given.objects), length-pieces_of given slots),
      λ q i is. half_got owners halves are _ (unit_at given slots q) (laid_there inputs none None (λ s. None) (unit_at given slots) q i is),
    )

-- ---- of one piece

-- the halfword of a jump or call through the table is kept if that is what is written
pub site_half_by : (o : Option CodeUnit) (half : ℕ) → IsHalfAt o half → is_table_half half ≡ true → IsSiteHalf o (Some half)
site_half_by None half is table = absurd (cc (is, table))
site_half_by (Some (OneItem i)) half is table = absurd (cc (is.1, table))
site_half_by (Some (OneGroup g)) half is table = absurd (cc (is, table))
site_half_by (Some (OneSite slot)) half is table = sym is

-- another halfword is none of a jump through the table
pub no_site_half_by : (o : Option CodeUnit) (half : ℕ) → IsHalfAt o half → is_table_half half ≡ false → IsSiteHalf o None
no_site_half_by None half is other = refl
no_site_half_by (Some (OneItem i)) half is other = refl
no_site_half_by (Some (OneGroup g)) half is other = refl
no_site_half_by (Some (OneSite slot)) half is other = absurd (cc (table_half_is slot half is, other))
