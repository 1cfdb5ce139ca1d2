-- Classes of data, in their order in memory.
use Rattle.std.specs.Prelude.{Bool, true, false, List, [], ◌∷◌}
use Rattle.psabi_sym.specs.declared.data_class.DataClass.{DataClass}
use Rattle.psabi_sym.specs.declared.data_class.DataClass.TheVariants.{ReadOnly, Data, SmallData, SmallZero, Zero, Common}

-- whether two classes are one
abbrev pub same_class : DataClass → DataClass → Bool
same_class ReadOnly ReadOnly = true
same_class Data Data = true
same_class SmallData SmallData = true
same_class SmallZero SmallZero = true
same_class Zero Zero = true
same_class Common Common = true
same_class first second = false

-- the classes that stand before a class in memory
abbrev pub classes_before : DataClass → List DataClass
classes_before ReadOnly = []
classes_before Data = ReadOnly ∷ []
classes_before SmallData = ReadOnly ∷ Data ∷ []
classes_before SmallZero = ReadOnly ∷ Data ∷ SmallData ∷ []
classes_before Zero = ReadOnly ∷ Data ∷ SmallData ∷ SmallZero ∷ []
classes_before Common = ReadOnly ∷ Data ∷ SmallData ∷ SmallZero ∷ Zero ∷ []
