-- An object that isn't kept may have the first fault of those that aren't.
use Rattle.std.proofs.Common.{◌≡◌, ◌+◌, ◌++◌, ◌∷◌, [], ℕ, List, Option, Some, None, length, inr, refl, sym, ap, ◌∙◌, arith, append_assoc, length-append}
use Rattle.std.specs.Option.{option_map, option_or}
use Rattle.elf32_read.specs.Object.{object_fault}
use Rattle.elf32_read.specs.declared.fault.Fault.{Fault}
use Rattle.psabi_sym.specs.Faults.{fault_from}
use Rattle.psabi_sym.specs.Objects.{contents_of}
use Rattle.psabi_sym.proofs.LongLaws.{fault_from_append}
use Rattle.zcld.proofs.objects.Reading.add.Goals as goal

or_none : {A : Type 0} (o : Option A) → option_or o None ≡ o
or_none None = refl
or_none (Some x) = refl

-- the first fault of the others with one more
later_more : (i n : ℕ) (others : List (List ℕ)) (file : List ℕ) (before : Option (ℕ × Fault)) → i + length others ≡ n → before ≡ fault_from i others
    → option_or before (option_map {T = Fault} {U = ℕ × Fault} (λ fault. (n, fault)) (object_fault file)) ≡ fault_from i (others ++ file ∷ [])
later_more i n others file before at is =
    (λ j. option_or (is j) (option_map {T = Fault} {U = ℕ × Fault} (λ fault. (sym at j, fault)) (object_fault file)))
    ∙ ap (option_or (fault_from i others)) (sym (or_none (option_map {T = Fault} {U = ℕ × Fault} (λ fault. (i + length others, fault)) (object_fault file))))
    ∙ sym (fault_from_append i others (file ∷ []))

pub returns-then-self-gt-MOST_BYTES-clause-keeps : goal.returns-then-self-gt-MOST_BYTES-clause-keeps
returns-then-self-gt-MOST_BYTES-clause-keeps c = λ read keeps count.
    let kept = contents_of c.args.self.now.files.items in
    let at : length kept + length keeps.others ≡ c.args.index = omega (arith, length-append kept keeps.others, ap length keeps.read_are, count) in
    record {
      others = keeps.others ++ c.args.file.items ∷ [];
      read_are = ap (λ r. r ++ c.args.file.items ∷ []) keeps.read_are ∙ append_assoc kept keeps.others (c.args.file.items ∷ []);
      bytes_are = keeps.bytes_are;
      all = inr (inr c.if-self-gt-MOST_BYTES.true);
      later_is = λ one.
          c.earlier_read_fault-self.ensures
          ∙ ap (λ file. option_or c.args.self.now.later (option_map {T = Fault} {U = ℕ × Fault} (λ fault. (c.args.index, fault)) (object_fault file))) c.deref.ensures.value
          ∙ later_more (length kept) c.args.index keeps.others c.args.file.items c.args.self.now.later at (keeps.later_is one);
    }
