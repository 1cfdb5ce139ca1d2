-- What is written for a group: the bytes of its halfword, alone or with those of the instruction that moves sp by the rest of its frame.
use Rattle.std.proofs.Common.{◌≡◌, ◌∙◌, ℕ, ◌+◌, ◌-◌, ◌<◌, ◌^◌, inl, inr, ◌++◌, Bool, true, false, cond, eqb, Some, None, refl, sym, ap, subst, arith, pos, negsuc, List}
use Rattle.std.specs.Option.{is_some, option_map}
use Rattle.std.proofs.lemmas.Bool.{eqb-true, false_from_ne_true}
use Rattle.zc_base.specs.Fields.{half_bytes, word_bytes}
use Rattle.rv_decode.specs.Decode.{decoded}
use Rattle.rv_decode.specs.Immediates.{InRange}
use Rattle.rv_decode.specs.declared.instr.ImmOp.TheVariants.{Addi}
use Rattle.rv_decode.specs.declared.instr.Instr.TheVariants as instr
use Rattle.frame_match.specs.declared.group.Group.{Group}
use Rattle.zc_decode.specs.Halfwords.{decoded16, spelled}
use Rattle.zc_decode.specs.declared.short.Short.{Short}
use Rattle.zc_decode.specs.declared.short.Short.TheVariants.{Base, MoveAs, MoveSa, Pop, PopRet, PopRetz, Push, TableJump}
use Rattle.zc_encode.specs.Encoding.{IsEncoding, normal_short}
use Rattle.zc_encode.specs.Halves.{encoded16}
use Rattle.zca_zcb_pass.specs.Forms.{HasEffectOf}
use Rattle.shrink_layout.specs.Pieces.{group_size, instr_size}
use Rattle.shrink_layout.specs.Units.{is_push, rest_instr}
use Rattle.zc_link.specs.Standing.{HasHalf, HasNoWord}
use Rattle.zc_link.specs.Written.{IsSplit, IsSpelled, SpellsHalf}
use Rattle.zc_link.proofs.Adds.{AreBytes, bytes_append, half_are, word_are}

-- ---- halfwords

-- an instruction that has no 32-bit form is its own normal form
normal_itself : (s : Short) → HasNoWord s → normal_short s ≡ s
normal_itself (Base i) other = absurd other
normal_itself (Push list adjust) other = refl
normal_itself (Pop list adjust) other = refl
normal_itself (PopRet list adjust) other = refl
normal_itself (PopRetz list adjust) other = refl
normal_itself (MoveSa first second) other = refl
normal_itself (MoveAs first second) other = refl
normal_itself (TableJump index) other = refl

-- two instructions with one normal form that has no 32-bit form are the same
same_normal : (x s : Short) → HasNoWord s → normal_short x ≡ s → x ≡ s
same_normal (Base i) s other same = absurd (subst HasNoWord (sym same) other)
same_normal (Push list adjust) s other same = same
same_normal (Pop list adjust) s other same = same
same_normal (PopRet list adjust) s other same = same
same_normal (PopRetz list adjust) s other same = same
same_normal (MoveSa first second) s other same = same
same_normal (MoveAs first second) s other same = same
same_normal (TableJump index) s other same = same

-- an instruction's first halfword is that instruction
pub half_spells : (s : Short) (half : ℕ) → HasHalf s → encoded16 s ≡ Some half → IsEncoding s (Some half) → SpellsHalf (half_bytes half) s
unfolding decoded16
half_spells s half has is first = record {
  half = half;
  small = first.spells.small;
  are = refl;
  first = is;
  spells = ap (option_map (λ form. spelled form half)) first.spells.row
      ∙ ap Some (same_normal (spelled first.form half) s has.0 (first.spells.same ∙ normal_itself s has.0));
}

-- ---- two instructions

module _ (g : Group) (some : 0 < g.rest) (half : ℕ) (spells : SpellsHalf (half_bytes half) g.kind) where
  -- the size of the rest
  size_with : (n : ℕ) → instr_size (rest_instr g) ≡ n → group_size g ≡ 2 + n
  size_with n is = ap (λ b. cond b 2 (2 + instr_size (rest_instr g))) (no_zero g.rest some) ∙ ap (λ m. 2 + m) is
    where
      no_zero : (m : ℕ) → 0 < m → eqb m 0 ≡ false
      no_zero m lt = false_from_ne_true (eqb m 0) (λ e. omega (arith, lt, eqb-true m 0 e))

  -- bytes of the rest stand behind a push and before a pop
  module _ (other : List ℕ) (rest : IsSpelled (group_size g - 2) other (rest_instr g)) where
    rest_behind : is_push g.kind ≡ true → IsSplit (group_size g) g (half_bytes half ++ other)
    rest_behind push = record {
      half = half_bytes half;
      other = other;
      both = sym (ap (λ b. cond b (half_bytes half ++ other) (other ++ half_bytes half)) push);
      spells = spells;
      rest = rest;
    }

    rest_before : is_push g.kind ≡ false → IsSplit (group_size g) g (other ++ half_bytes half)
    rest_before pop = record {
      half = half_bytes half;
      other = other;
      both = sym (ap (λ b. cond b (half_bytes half ++ other) (other ++ half_bytes half)) pop);
      spells = spells;
      rest = rest;
    }

  -- the instruction for the rest of the frame has a short form
  module _ (short : ℕ) (small : short < 2 ^ 16) (found : encoded16 (Base (rest_instr g)) ≡ Some short) (same : HasEffectOf (rest_instr g) short) where
    four : group_size g ≡ 4
    four = size_with 2 (ap (λ o. cond (is_some o) 2 4) found)

    rest_half : IsSpelled (group_size g - 2) (half_bytes short) (rest_instr g)
    rest_half = inr (ap (λ n. n - 2) four, record { half = short; small = small; are = refl; first = found; same = same })

    pub push_halves : is_push g.kind ≡ true → IsSplit (group_size g) g (half_bytes half ++ half_bytes short)
    push_halves = rest_behind (half_bytes short) rest_half

    pub pop_halves : is_push g.kind ≡ false → IsSplit (group_size g) g (half_bytes short ++ half_bytes half)
    pop_halves = rest_before (half_bytes short) rest_half

    pub halves_long : group_size g ≡ 4
    halves_long = four

  -- or has none
  module _ (word : ℕ) (small : word < 2 ^ 32) (none : encoded16 (Base (rest_instr g)) ≡ None) (is : decoded word ≡ Some (rest_instr g)) where
    six : group_size g ≡ 6
    six = size_with 4 (ap (λ o. cond (is_some o) 2 4) none)

    rest_word : IsSpelled (group_size g - 2) (word_bytes word) (rest_instr g)
    rest_word = inl (ap (λ n. n - 2) six, record { word = word; small = small; are = refl; spells = is })

    pub push_word : is_push g.kind ≡ true → IsSplit (group_size g) g (half_bytes half ++ word_bytes word)
    push_word = rest_behind (word_bytes word) rest_word

    pub pop_word : is_push g.kind ≡ false → IsSplit (group_size g) g (word_bytes word ++ half_bytes half)
    pop_word = rest_before (word_bytes word) rest_word

    pub word_long : group_size g ≡ 6
    word_long = six

-- ---- bytes

pub halves_are : (a b : ℕ) → AreBytes (half_bytes a ++ half_bytes b)
halves_are a b = bytes_append (half_bytes a) (half_bytes b) (half_are a) (half_are b)

pub half_word_are : (a b : ℕ) → AreBytes (half_bytes a ++ word_bytes b)
half_word_are a b = bytes_append (half_bytes a) (word_bytes b) (half_are a) (word_are b)

pub word_half_are : (a b : ℕ) → AreBytes (word_bytes a ++ half_bytes b)
word_half_are a b = bytes_append (word_bytes a) (half_bytes b) (word_are a) (half_are b)

-- what moves sp by less than 2^11 is an immediate
pub rest_range : (g : Group) → g.rest < 2 ^ 11 → InRange (rest_instr g)
rest_range g low = by (is_push g.kind)
  where
    by : (b : Bool) → InRange (instr.WithImm Addi 2 2 (cond b (negsuc (g.rest - 1)) (pos g.rest)))
    by true = omega (arith, low)
    by false = omega (arith, low)
