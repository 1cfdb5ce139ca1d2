-- Calls in sequence: what one call kept or counted, the next call finds.
use Rattle.std.proofs.Common.{◌≡◌, ℕ, ◌+◌, ◌≤◌, List, [], ◌++◌, length, take, Option, Some, None, refl, sym, ◌∙◌, ap, arith, append_assoc}
use Rattle.std.proofs.Math.Seq.{take-append-add}
use Rattle.std.proofs.lemmas.List.{append-nil, length-append, take-append-le}
use Rattle.zc_outside.specs.Files.{Files, HasFile, Holds, IsLong, KeepsFiles, PutsFile, Rose}
use Rattle.zc_outside.specs.Streams.{KeepsBytes, Adds, AddsPart}

-- ---- counts

-- a count that rose has risen still, or is at its largest value, after it rose further
pub Rose-later : (before now later : ℕ) → Rose before now → now ≤ later → Rose before later
Rose-later before now later rose more = omega arith

-- a count that rose from a later value rose from the earlier one
pub Rose-earlier : (earlier before now : ℕ) → earlier ≤ before → Rose before now → Rose earlier now
Rose-earlier earlier before now less rose = omega arith

-- ---- files

-- files are kept while nothing happens
pub KeepsFiles-refl : (a : Option Files) → KeepsFiles a a
KeepsFiles-refl None = tt
KeepsFiles-refl (Some f) = λ q. refl

-- files stay over two calls that keep them
pub KeepsFiles-trans : (a b c : Option Files) → KeepsFiles a b → KeepsFiles b c → KeepsFiles a c
KeepsFiles-trans None b c first second = tt
KeepsFiles-trans (Some f) None c first second = absurd first
KeepsFiles-trans (Some f) (Some g) None first second = second
KeepsFiles-trans (Some f) (Some g) (Some h) first second = λ q. second q ∙ first q

-- a file that is read from kept files was there before
pub KeepsFiles-HasFile : (a b : Option Files) (name bytes : List ℕ) → KeepsFiles a b → HasFile b name bytes → HasFile a name bytes
KeepsFiles-HasFile None b name bytes kept has = tt
KeepsFiles-HasFile (Some f) None name bytes kept has = absurd kept
KeepsFiles-HasFile (Some f) (Some g) name bytes kept has = sym (kept name) ∙ has

-- a name that is held stays so
pub KeepsFiles-Holds : (a b : Option Files) (name : List ℕ) → KeepsFiles a b → Holds a name → Holds b name
KeepsFiles-Holds None b name kept held = absurd held
KeepsFiles-Holds (Some f) None name kept held = absurd kept
KeepsFiles-Holds (Some f) (Some g) name kept held = (held.0, kept name ∙ held.1)

-- a kept file that is too long was so before
pub KeepsFiles-IsLong : (a b : Option Files) (name : List ℕ) (limit : ℕ) → KeepsFiles a b → IsLong b name limit → IsLong a name limit
KeepsFiles-IsLong None b name limit kept long = tt
KeepsFiles-IsLong (Some f) None name limit kept long = absurd kept
KeepsFiles-IsLong (Some f) (Some g) name limit kept long = (long.0, sym (kept name) ∙ long.1, long.2)

-- a file that is put into kept files is put into the files before
pub KeepsFiles-PutsFile :
    (a b c : Option Files) (name bytes : List ℕ) → KeepsFiles a b → PutsFile b c name bytes → PutsFile a c name bytes
KeepsFiles-PutsFile None b c name bytes kept put = tt
KeepsFiles-PutsFile (Some f) None c name bytes kept put = absurd kept
KeepsFiles-PutsFile (Some f) (Some g) None name bytes kept put = put
KeepsFiles-PutsFile (Some f) (Some g) (Some h) name bytes kept put = (put.0, λ q other. put.1 q other ∙ kept q)

-- a file that was put is still there after calls that keep files
pub PutsFile-KeepsFiles :
    (a b c : Option Files) (name bytes : List ℕ) → PutsFile a b name bytes → KeepsFiles b c → PutsFile a c name bytes
PutsFile-KeepsFiles None b c name bytes put kept = tt
PutsFile-KeepsFiles (Some f) None c name bytes put kept = absurd put
PutsFile-KeepsFiles (Some f) (Some g) None name bytes put kept = kept
PutsFile-KeepsFiles (Some f) (Some g) (Some h) name bytes put kept = (kept name ∙ put.0, λ q other. kept q ∙ put.1 q other)

-- ---- streams

-- bytes are kept while nothing happens
pub KeepsBytes-refl : (xs : Option (List ℕ)) → KeepsBytes xs xs
KeepsBytes-refl None = tt
KeepsBytes-refl (Some xs) = refl

-- bytes stay over two calls that keep them
pub KeepsBytes-trans : (xs ys zs : Option (List ℕ)) → KeepsBytes xs ys → KeepsBytes ys zs → KeepsBytes xs zs
KeepsBytes-trans None ys zs first second = tt
KeepsBytes-trans (Some xs) None zs first second = absurd first
KeepsBytes-trans (Some xs) (Some ys) None first second = second
KeepsBytes-trans (Some xs) (Some ys) (Some zs) first second = second ∙ first

-- nothing is added while nothing happens
pub Adds-none : (xs : Option (List ℕ)) → Adds xs xs []
Adds-none None = tt
Adds-none (Some xs) = sym (append-nil xs)

-- bytes that are kept have nothing added
pub KeepsBytes-Adds-none : (xs ys : Option (List ℕ)) → KeepsBytes xs ys → Adds xs ys []
KeepsBytes-Adds-none None ys kept = tt
KeepsBytes-Adds-none (Some xs) None kept = kept
KeepsBytes-Adds-none (Some xs) (Some ys) kept = kept ∙ sym (append-nil xs)

-- a piece that is added to kept bytes is added to the bytes before
pub KeepsBytes-Adds :
    (xs ys zs : Option (List ℕ)) (piece : List ℕ) → KeepsBytes xs ys → Adds ys zs piece → Adds xs zs piece
KeepsBytes-Adds None ys zs piece kept added = tt
KeepsBytes-Adds (Some xs) None zs piece kept added = absurd kept
KeepsBytes-Adds (Some xs) (Some ys) None piece kept added = added
KeepsBytes-Adds (Some xs) (Some ys) (Some zs) piece kept added = added ∙ ap (λ front. front ++ piece) kept

-- a part that is added to kept bytes is added to the bytes before
pub KeepsBytes-AddsPart :
    (xs ys zs : Option (List ℕ)) (piece : List ℕ) → KeepsBytes xs ys → AddsPart ys zs piece → AddsPart xs zs piece
KeepsBytes-AddsPart None ys zs piece kept added = tt
KeepsBytes-AddsPart (Some xs) None zs piece kept added = absurd kept
KeepsBytes-AddsPart (Some xs) (Some ys) None piece kept added = added
KeepsBytes-AddsPart (Some xs) (Some ys) (Some zs) piece kept added =
    (added.0, added.1, added.2 ∙ ap (λ front. front ++ take added.0 piece) kept)

-- a piece that was added is still there after calls that keep the bytes
pub Adds-KeepsBytes :
    (xs ys zs : Option (List ℕ)) (piece : List ℕ) → Adds xs ys piece → KeepsBytes ys zs → Adds xs zs piece
Adds-KeepsBytes None ys zs piece added kept = tt
Adds-KeepsBytes (Some xs) None zs piece added kept = absurd added
Adds-KeepsBytes (Some xs) (Some ys) None piece added kept = kept
Adds-KeepsBytes (Some xs) (Some ys) (Some zs) piece added kept = kept ∙ added

-- two pieces that were added one after the other are one piece
pub Adds-Adds :
    (xs ys zs : Option (List ℕ)) (first second : List ℕ) →
    Adds xs ys first → Adds ys zs second → Adds xs zs (first ++ second)
Adds-Adds None ys zs first second added next = tt
Adds-Adds (Some xs) None zs first second added next = absurd added
Adds-Adds (Some xs) (Some ys) None first second added next = next
Adds-Adds (Some xs) (Some ys) (Some zs) first second added next =
    next ∙ ap (λ front. front ++ second) added ∙ append_assoc xs first second

-- a piece and a part of the next are a part of both
pub Adds-AddsPart :
    (xs ys zs : Option (List ℕ)) (first second : List ℕ) →
    Adds xs ys first → AddsPart ys zs second → AddsPart xs zs (first ++ second)
Adds-AddsPart None ys zs first second added next = tt
Adds-AddsPart (Some xs) None zs first second added next = absurd added
Adds-AddsPart (Some xs) (Some ys) None first second added next = next
Adds-AddsPart (Some xs) (Some ys) (Some zs) first second added next =
    let n = length first + next.0 in
    let joined : (xs ++ first) ++ take next.0 second ≡ xs ++ take n (first ++ second) = append_assoc xs first (take next.0 second) ∙ ap (λ part. xs ++ part) (sym (take-append-add first second next.0)) in
    (n, omega (arith, length-append first second, next.1), next.2 ∙ ap (λ front. front ++ take next.0 second) added ∙ joined)

-- a part of the first of two pieces is a part of both
pub AddsPart-append :
    (xs ys : Option (List ℕ)) (first second : List ℕ) → AddsPart xs ys first → AddsPart xs ys (first ++ second)
AddsPart-append None ys first second added = tt
AddsPart-append (Some xs) None first second added = added
AddsPart-append (Some xs) (Some ys) first second added =
    let within : added.0 ≤ length first = omega (arith, added.1) in
    (added.0, omega (arith, length-append first second, added.1), added.2 ∙ ap (λ part. xs ++ part) (sym (take-append-le added.0 first second within)))
