-- What a test tells of each halfword of the tables. It is computed, 256 halfwords at a time, for each group that has a row.
use Rattle.std.proofs.Common.{◌≡◌, ℕ, zero, suc, ◌+◌, ◌*◌, ◌/◌, ◌%◌, ◌^◌, ◌<◌, List, [], ◌∷◌, map, Option, Some, None, Bool, true, refl, sym, ap, ◌∙◌, arith}
use Rattle.std.specs.Prelude.{◌==◌, if◌then◌else◌}
use Rattle.std.specs.Option.{option_flatten}
use Rattle.std.proofs.lemmas.Bool.{agree_below, agree_below_at}
use Rattle.rv_decode.specs.Decode.{row_of}
use Rattle.rv_decode.specs.Bits.{field}
use Rattle.rv_decode.specs.Formats.{rd_of}
use Rattle.rv_decode.proofs.RowLaws.{EachRow, row_found}
use Rattle.zc_decode.specs.Fields.{addi4spn_of, group_of, lui_of}
use Rattle.zc_decode.specs.Rows.{form_of, groups, jump_row, operations, unless, zcb_memory, zcmp_rows}
use Rattle.zc_decode.specs.declared.form.Form.{Form}
use Rattle.zc_decode.specs.declared.form.Form.TheVariants.{CAddi, CAddi16sp, CAddi4spn, CBeqz, CBnez, CJ, CJal, CLi, CLui, CLw, CLwsp, CNop, CSlli, CSw, CSwsp}

-- whether a halfword with this row passes a test
abbrev pub passes : (Form → ℕ → Bool) → ℕ → Option Form → Bool
passes test half None = true
passes test half (Some form) = test form half

-- the same of the halfword with a number; the match computes the number once
unfoldable pub tried : (Form → ℕ → Bool) → (ℕ → Option Form) → ℕ → Bool
tried test row zero = passes test 0 (row 0)
tried test row (suc n) = passes test (suc n) (row (suc n))

unfoldable pub yes : ℕ → Bool
yes n = true

-- the halfword of a group with these bits 12 to 2
unfoldable pub half_at : ℕ → ℕ → ℕ → ℕ
half_at group high low = group / 4 * 8192 + (high * 256 + low) * 4 + group % 4

-- whether 256 halfwords of a group with the same high bits pass
unfoldable pub page : (Form → ℕ → Bool) → ℕ → (ℕ → Option Form) → ℕ → Bool
page test group row high = agree_below (λ low. tried test row (half_at group high low)) yes 256

-- the rows of each group, as functions, so that no halfword's group is looked up
abbrev pub group_rows : List (ℕ × (ℕ → Option Form))
group_rows =
    (0b000_00, λ h. unless (addi4spn_of h == 0) CAddi4spn) ∷
    (0b010_00, λ h. Some CLw) ∷
    (0b110_00, λ h. Some CSw) ∷
    (0b100_00, λ h. row_of zcb_memory (field h 10 3 * 2 + field h 6 1)) ∷
    (0b000_01, λ h. Some (if rd_of h == 0 then CNop else CAddi)) ∷
    (0b001_01, λ h. Some CJal) ∷
    (0b010_01, λ h. Some CLi) ∷
    (0b011_01, λ h. unless (lui_of h == 0) (if rd_of h == 2 then CAddi16sp else CLui)) ∷
    (0b100_01, λ h. option_flatten (row_of (operations h) (field h 10 2))) ∷
    (0b101_01, λ h. Some CJ) ∷
    (0b110_01, λ h. Some CBeqz) ∷
    (0b111_01, λ h. Some CBnez) ∷
    (0b000_10, λ h. unless (field h 12 1 == 1) CSlli) ∷
    (0b010_10, λ h. unless (rd_of h == 0) CLwsp) ∷
    (0b100_10, jump_row) ∷
    (0b101_10, λ h. option_flatten (row_of (zcmp_rows h) (field h 10 3))) ∷
    (0b110_10, λ h. Some CSwsp) ∷
    []

-- what is computed: each group's halfwords pass
abbrev pub AllPass : (Form → ℕ → Bool) → Type 0
AllPass test = EachRow (λ group row. agree_below (page test group row) yes 8 ≡ true) group_rows

-- if all halfwords of a group pass, each of them does
at_group :
    (test : Form → ℕ → Bool) (half : ℕ) → half < 2 ^ 16 → (group : ℕ) (row : ℕ → Option Form) → agree_below (page test group row) yes 8 ≡ true
    → group_of half ≡ group → passes test half (row half) ≡ true
unfolding tried half_at page yes
at_group test half small group row all in_group = same half ∙ sym (ap (tried test row) whole) ∙ here
  where
    whole : half_at group (half / 1024 % 8) (half / 4 % 256) ≡ half
    whole = omega (arith, small, in_group)

    same : (n : ℕ) → passes test n (row n) ≡ tried test row n
    same zero = refl
    same (suc n) = refl

    here : tried test row (half_at group (half / 1024 % 8) (half / 4 % 256)) ≡ true
    here =
        agree_below_at (λ low. tried test row (half_at group (half / 1024 % 8) low)) yes 256 (half / 4 % 256)
        (agree_below_at (page test group row) yes 8 (half / 1024 % 8) all (omega arith)) (omega arith)

at_rows :
    (test : Form → ℕ → Bool) (half : ℕ) → half < 2 ^ 16 → (rows : List (ℕ × (ℕ → Option Form)))
    → EachRow (λ group row. agree_below (page test group row) yes 8 ≡ true) rows
    → EachRow (λ group row. group_of half ≡ group → passes test half row ≡ true) (map (λ r. (r.0, r.1 half)) rows)
at_rows test half small [] all = tt
at_rows test half small (r ∷ rows) all = (at_group test half small r.0 r.1 all.0, at_rows test half small rows all.1)

-- each halfword of the tables passes
pub each_passes : (test : Form → ℕ → Bool) → AllPass test → (half : ℕ) → half < 2 ^ 16 → passes test half (form_of half) ≡ true
unfolding form_of
each_passes test all half small = either (row_of (groups half) (group_of half)) refl
  where
    each : EachRow (λ group row. group_of half ≡ group → passes test half row ≡ true) (groups half)
    each = at_rows test half small group_rows all

    either : (o : Option (Option Form)) → row_of (groups half) (group_of half) ≡ o → passes test half (option_flatten o) ≡ true
    either None found = refl
    either (Some row) found = row_found (λ group row. group_of half ≡ group → passes test half row ≡ true) (groups half) (group_of half) row each found refl
