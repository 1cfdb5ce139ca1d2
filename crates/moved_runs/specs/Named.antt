-- Words and memory that hold addresses, or parts of addresses, only of places with a certain property.
use Rattle.std.specs.Prelude.{List, All}
use Rattle.zc_base.specs.declared.place.Place.{Place}
use Rattle.psabi_sym.specs.declared.target.Target.{Target}
use Rattle.psabi_sym.specs.declared.target.Target.TheVariants as target
use Rattle.rv_decode.specs.Memory.{Region}
use Rattle.sym_machine.specs.declared.word.Value.{Value}
use Rattle.sym_machine.specs.declared.word.Value.TheVariants.{Code, AbsHi, PcHi}
use Rattle.sym_machine.specs.declared.word.SymByte.{SymByte}
use Rattle.sym_machine.specs.declared.word.SymByte.TheVariants.{Num, Part, Undef}
use Rattle.sym_machine.specs.declared.word.SymWord.{SymWord}

abbrev pub IsNamedValue : (Place → Type 0) → Value → Type 0
IsNamedValue K (Code q) = K q
IsNamedValue K (AbsHi q) = K q
IsNamedValue K (PcHi q) = K q

abbrev pub IsNamedByte : (Place → Type 0) → SymByte → Type 0
IsNamedByte K (Num n) = Unit {0}
IsNamedByte K (Part v i) = IsNamedValue K v
IsNamedByte K Undef = Unit {0}

pub record IsNamedWord (K : Place → Type 0) (w : SymWord) : Type 0 where
  pub b0 : IsNamedByte K w.b0
  pub b1 : IsNamedByte K w.b1
  pub b2 : IsNamedByte K w.b2
  pub b3 : IsNamedByte K w.b3

abbrev pub IsNamedMemory : (Place → Type 0) → List (Region SymByte) → Type 0
IsNamedMemory K memory = All (λ r. All (IsNamedByte K) r.cells) memory

abbrev pub IsNamedTarget : (Place → Type 0) → Target → Type 0
IsNamedTarget K (target.Code q) = K q
IsNamedTarget K (target.Number n) = Unit {0}
IsNamedTarget K (target.Absent n) = Unit {0}
IsNamedTarget K target.Nowhere = Unit {0}
