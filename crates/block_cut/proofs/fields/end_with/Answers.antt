use Rattle.std.proofs.Common.{◌≡◌, ◌<◌, ◌≤◌, ℕ, ◌++◌, ◌∷◌, [], Option, None, Some, refl, arith, subst, sym}
use Rattle.std.specs.Prelude.{IfSome}
use Rattle.block_cut.specs.Invariants.Fields.{AreFieldsApart}
use Rattle.block_cut.proofs.ApartLaws.{apart_next, apart_same}
use Rattle.block_cut.proofs.fields.end_with.Goals as goal

-- what has no bytes may begin anywhere
still : (before : Option ℕ) (offset length : ℕ) → length ≡ 0 → IfSome before (λ _. (n : ℕ) × ((before ≡ Some n) × (0 < length → n ≤ offset)))
still None offset length none = tt
still (Some n) offset length none = (n, (refl, λ some. absurd (omega (arith, some, none))))

pub returns-then-start-end-clause-past : goal.returns-then-start-end-clause-past
returns-then-start-end-clause-past c = still c.args.before c.args.reloc.offset _ (omega (arith, c.from-start.ensures, c.field_end-end.ensures, c.if-start-end.true))

pub returns-then-start-end-clause-apart : goal.returns-then-start-end-clause-apart
returns-then-start-end-clause-apart c = λ relocs are. apart_same relocs c.args.reloc c.args.before are (omega (arith, c.from-start.ensures, c.field_end-end.ensures, c.if-start-end.true))

pub returns-clause-past : goal.returns-clause-past
returns-clause-past c = (c.in_ok-before.field-0, (c.in_ok-before.was, λ some. omega (arith, c.from-start.ensures, c.if-branch.false)))

pub returns-clause-apart : goal.returns-clause-apart
returns-clause-apart c = λ relocs are.
    let s = c.args.reloc in
    let m = c.in_ok-before.field-0 in
    let so_far = subst (λ o. IfSome o (λ n. AreFieldsApart n relocs)) c.in_ok-before.was are in
    subst (λ n. AreFieldsApart n (relocs ++ s ∷ [])) (sym c.field_end-end.ensures)
    (apart_next relocs s m so_far (omega (arith, c.from-start.ensures, c.if-branch.false)))
