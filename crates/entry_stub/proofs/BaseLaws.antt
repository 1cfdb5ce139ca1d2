-- What the stub's three instructions do.
use Rattle.std.proofs.Common.{◌≡◌, ℕ, ℤ, ◌+◌, ◌*◌, ◌/◌, ◌%◌, ◌^◌, ◌<◌, get_or, refl, ◌∙◌, arith, get_or-set_same, set}
use Rattle.rv_decode.specs.Bits.{add32}
use Rattle.rv_decode.specs.Results.{upper_result}
use Rattle.rv_decode.specs.declared.instr.UpperOp.TheVariants.{Lui}
use Rattle.entry_stub.specs.Stub.{SetsBase}

module _ (text : ℕ) (page : text % 4096 ≡ 0) (small : text < 2 ^ 32) where
  address_is : (pc : ℕ) → upper_result Lui pc (text / 4096) ≡ text
  address_is pc = omega (arith, page)

  base_is : (v : ℕ) → v ≡ text → v / 64 * 64 ≡ text
  base_is v is = omega (arith, page)

twice : (pc : ℕ) (distance : ℤ) → add32 (((pc + 4) % 2 ^ 32 + 4) % 2 ^ 32) distance ≡ add32 (pc + 8) distance
twice pc distance = omega arith

pub sets_base : (text : ℕ) (distance : ℤ) → text % 4096 ≡ 0 → text < 2 ^ 32 → SetsBase text distance
sets_base text distance page small z count =
    let v : ℕ = upper_result Lui z.pc (text / 4096) in
    let is : v ≡ text = address_is text page small z.pc in
    let held : get_or (set z.regs 5 v) 5 0 ≡ v = get_or-set_same z.regs 5 v 0 (omega (arith, count)) in
    let base : get_or (set z.regs 5 v) 5 0 / 64 * 64 ≡ text = base_is text page small _ (held ∙ is) in
    let pc = twice z.pc distance in
    let commits : z.commits + 1 + 1 + 1 ≡ z.commits + 3 = omega arith in
    (_, refl, (_, refl, (_, refl, λ i. record z { pc = pc i; regs = set z.regs 5 (is i); jvt = base i; commits = commits i })))
