-- The instructions that a halfword of Zcmp expands to are those of a group without a rest, and the halfword is the one that is written
-- for that group: its list is one that pushes and pops have, it moves sp by what one halfword may with that list, and two registers that
-- it sets differ (HasOperands).
use Rattle.std.proofs.Common.{◌≡◌, ℕ, ◌-◌, List, [], ◌∷◌, ◌++◌, Some, refl, sym, ap, ◌∙◌, arith}
use Rattle.std.proofs.lemmas.Option.{none-some, same_Some}
use Rattle.std.proofs.lemmas.List.{append_assoc}
use Rattle.rv_decode.specs.declared.instr.Instr.{Instr}
use Rattle.sym_machine.specs.Expansions.{expansion, restores, saves}
use Rattle.zc_decode.specs.Halfwords.{decoded16}
use Rattle.zc_decode.specs.Lists.{registers_of}
use Rattle.zc_decode.specs.Operands.{HasOperands, IsFrameSize}
use Rattle.zc_decode.specs.declared.short.Short.{Short}
use Rattle.zc_decode.specs.declared.short.Short.TheVariants.{Base, Push, Pop, PopRet, PopRetz, MoveSa, MoveAs, TableJump}
use Rattle.zc_decode.proofs.OperandLaws.{frame_range, spelled_operands}
use Rattle.zc_machine.specs.Fetch.{Found}
use Rattle.zc_link.specs.Image.{Image}
use Rattle.zc_link.specs.Invariants.Stretches.{OneAt}
use Rattle.zc_link.specs.Invariants.Groups.{A0First, GoesOn, GroupKind, IsFrame, IsGroup, MovesFromSaved, MovesToSaved, PopOf, PushOf, Returns, Slot, ZeroBeforeRaise, frame_adjust, group_half, group_ops, group_rest, slot_loads, lower_sp, raise_sp, rest_of, return_to_ra, slots_below, stores_of, zero_a0}

-- the instructions are those of a group without a rest, and the halfword is the group's
pub record IsExpansionKind (short : Short) (is : List Instr) : Type 0 where
  pub kind : GroupKind
  pub group : IsGroup kind
  pub ops : group_ops kind ≡ is
  pub half : group_half kind ≡ short
  pub rest : group_rest kind ≡ 0

-- where the halfword stands, the group's stands
abbrev pub kind_at : {e : Image} {a : ℕ} {short : Short} {is : List Instr} → (k : IsExpansionKind short is) → OneAt e a short → OneAt e a (group_half k.kind)
kind_at k at = record { size = at.size; here = at.here ∙ ap (λ s. Found s at.size) (sym k.half); small = at.small }

stores_are : (top : ℕ) (rs : List ℕ) → stores_of (slots_below top rs) ≡ saves top rs
stores_are top [] = refl
stores_are top (r ∷ rs) = λ j. saves top (r ∷ []) ++ stores_are (top - 4) rs j

loads_are : (top : ℕ) (rs : List ℕ) → slot_loads (slots_below top rs) ≡ restores top rs
loads_are top [] = refl
loads_are top (r ∷ rs) = λ j. restores top (r ∷ []) ++ loads_are (top - 4) rs j

-- ---- frames

module _ (list adjust : ℕ) (size : IsFrameSize list adjust) where
  abbrev slots : List Slot
  slots = slots_below adjust (registers_of list)

  is_frame : IsFrame list adjust (slots_below adjust (registers_of list))
  is_frame =
      let range = frame_range list adjust size in
      record {
        from = size.from;
        to = size.to;
        whole = range.whole;
        least = (let is = size.is in omega (arith, is));
        most = (let most = range.most in omega (arith, most));
        same = record { each = λ d m. m; all = λ d m. m };
      }

  -- the frame of a halfword has no rest
  none : rest_of list adjust ≡ 0
  none = (let is = size.is in let few = size.few in omega (arith, is, few))

  all : frame_adjust list adjust ≡ adjust
  all = (let n = none in omega (arith, n))

  -- the loads of slots, and what stands behind them
  behind_loads : (is js : List Instr) → (slot_loads slots ++ is) ++ js ≡ restores adjust (registers_of list) ++ (is ++ js)
  behind_loads is js = append_assoc (slot_loads slots) is js ∙ ap (λ l. l ++ (is ++ js)) (loads_are adjust (registers_of list))

-- ---- kinds

kind_of : (short : Short) → HasOperands short → (is : List Instr) → expansion short ≡ Some is → IsExpansionKind short is
kind_of (Push list adjust) size is are = record {
  kind = PushOf list adjust (slots_below adjust (registers_of list));
  group = is_frame list adjust size;
  ops = ap (λ l. lower_sp adjust ∷ l) (stores_are adjust (registers_of list)) ∙ same_Some _ is are;
  half = ap (Push list) (all list adjust size);
  rest = none list adjust size;
}
kind_of (Pop list adjust) size is are = record {
  kind = PopOf GoesOn list adjust (slots_below adjust (registers_of list));
  group = is_frame list adjust size;
  ops = behind_loads list adjust size (raise_sp adjust ∷ []) [] ∙ same_Some _ is are;
  half = ap (Pop list) (all list adjust size);
  rest = none list adjust size;
}
kind_of (PopRetz list adjust) size is are = record {
  kind = PopOf ZeroBeforeRaise list adjust (slots_below adjust (registers_of list));
  group = is_frame list adjust size;
  ops = behind_loads list adjust size (zero_a0 ∷ raise_sp adjust ∷ []) (return_to_ra ∷ []) ∙ same_Some _ is are;
  half = ap (PopRetz list) (all list adjust size);
  rest = none list adjust size;
}
kind_of (PopRet list adjust) size is are = record {
  kind = PopOf Returns list adjust (slots_below adjust (registers_of list));
  group = is_frame list adjust size;
  ops = behind_loads list adjust size (raise_sp adjust ∷ []) (return_to_ra ∷ []) ∙ same_Some _ is are;
  half = ap (PopRet list) (all list adjust size);
  rest = none list adjust size;
}
kind_of (MoveSa first second) moved is are = record { kind = MovesToSaved A0First first second; group = moved; ops = same_Some _ is are; half = refl; rest = refl }
kind_of (MoveAs first second) moved is are = record { kind = MovesFromSaved A0First first second; group = moved; ops = same_Some _ is are; half = refl; rest = refl }
kind_of (Base i) any is are = absurd (none-some is are)
kind_of (TableJump index) any is are = absurd (none-some is are)

-- the kind of a halfword that expands to instructions
pub expansion_kind : (half : ℕ) (short : Short) (is : List Instr) → decoded16 half ≡ Some short → expansion short ≡ Some is → IsExpansionKind short is
expansion_kind half short is spells are = kind_of short (spelled_operands half short spells) is are
