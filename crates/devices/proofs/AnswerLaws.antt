-- Copies of bytes.
use Rattle.std.proofs.Common.{◌≡◌, ℕ, zero, suc, List, [], ◌++◌, refl, ap, ◌∙◌}
use Rattle.devices.specs.Lines.{repeated}

pub repeated_none : (n : ℕ) (bytes : List ℕ) → bytes ≡ [] → repeated n bytes ≡ []
repeated_none zero bytes none = refl
repeated_none (suc n) bytes none = ap (λ b. b ++ repeated n bytes) none ∙ repeated_none n bytes none
