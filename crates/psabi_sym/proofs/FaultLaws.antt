-- Faults by an object's index and a symbol's, and the first of several.
use Rattle.std.proofs.Common.{◌≡◌, ℕ, Option, Some, None, refl}
use Rattle.std.specs.Option.{option_map, option_or}
use Rattle.elf32_read.specs.declared.fault.Fault.{Fault}
use Rattle.psabi_sym.specs.Indexed.{IndexedSymbol}

-- a symbol that was found, as a fault
pub fault_of : (f : ℕ → Fault) (o : Option IndexedSymbol) → option_map {U = ℕ × Fault} (λ l. (l.object, f l.index)) o ≡ option_map {T = ℕ × ℕ} {U = ℕ × Fault} (λ p. (p.0, f p.1)) (option_map (λ l. (l.object, l.index)) o)
fault_of f None = refl
fault_of f (Some l) = refl

-- neither of two
pub neither : {A : Type 0} (a b : Option A) → option_or a b ≡ None → (a ≡ None) × (b ≡ None)
neither None b h = (refl, h)
neither (Some x) b h = absurd cc
