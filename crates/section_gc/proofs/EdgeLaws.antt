-- The graph of sections, as it is built: node after node, and edge after edge.
use Rattle.std.proofs.Common.{◌≡◌, ℕ, ◌+◌, List, [], ◌∷◌, ◌++◌, length, map, filter, take, refl, sym, ap, ap₂, ◌∙◌, append_assoc, append-nil, arith, Bool, true, false, cond, Some, None, slice_get}
use Rattle.std.specs.List.{enumerate_from, flat_map}
use Rattle.std.specs.Option.{option_map_or}
use Rattle.std.proofs.lemmas.List.{length-take-le, map-append}
use Rattle.std.proofs.lemmas.List.Concat.{flat_map-append}
use Rattle.std.proofs.lemmas.List.Elements.{filter-append}
use Rattle.std.proofs.lemmas.Option.{slice_get_within}
use Rattle.zc_base.specs.declared.place.Place.{Place}
use Rattle.elf32_read.specs.Parts.{ObjectParts}
use Rattle.elf32_write.proofs.Relocated.{enumerate_from-append}
use Rattle.psabi_sym.specs.Indexed.{IndexedSection, IsSectionNumber, all_sections, section_at}
use Rattle.psabi_sym.specs.declared.target.Target.{Target}
use Rattle.psabi_sym.specs.declared.target.Target.TheVariants.{Code}
use Rattle.psabi_sym.proofs.SectionNumbers.{before_number}
use Rattle.block_cut.proofs.TakeLaws.{take_next}
use Rattle.section_gc.specs.Graph.{is_root, node_of, nodes_at, root_nodes_from, target_nodes}

-- ---- nodes

-- the number of a section is its node
pub node-is : (objects : List ObjectParts) (k : ℕ) (l : IndexedSection) → slice_get (all_sections objects) k ≡ Some l → node_of objects l.object l.index ≡ k
node-is objects k l at =
    let within = slice_get_within (all_sections objects) k l at in
    ap length (before_number objects k l at) ∙ length-take-le k (all_sections objects) (omega (arith, within))

pub nodes-some : (objects : List ObjectParts) (o i k : ℕ) → IsSectionNumber objects o i (Some k) → nodes_at objects o i ≡ k ∷ []
nodes-some objects o i k is =
    ap (λ s. option_map_or (λ _. node_of objects o i ∷ []) s []) is.1
    ∙ ap (λ n. n ∷ []) (node-is objects k (record { object = o; index = i; section = is.0 }) is.2)

pub nodes-none : (objects : List ObjectParts) (o i : ℕ) → section_at objects o i ≡ None → nodes_at objects o i ≡ []
nodes-none objects o i is = ap (λ s. option_map_or (λ _. node_of objects o i ∷ []) s []) is

-- a target's node is added, or there is none to add
pub target-added : (objects : List ObjectParts) (t : Target) (q : Place) (k : ℕ) (old new : List ℕ) → t ≡ Code q → IsSectionNumber objects q.object q.section (Some k) → new ≡ old ++ k ∷ [] → new ≡ old ++ target_nodes objects t
target-added objects t q k old new is number added =
    added ∙ ap (λ l. old ++ l) (sym (nodes-some objects q.object q.section k number) ∙ ap (target_nodes objects) (sym is))

pub target-missing : (objects : List ObjectParts) (t : Target) (q : Place) (old : List ℕ) → t ≡ Code q → section_at objects q.object q.section ≡ None → old ≡ old ++ target_nodes objects t
target-missing objects t q old is none =
    sym (append-nil old) ∙ ap (λ l. old ++ l) (sym (nodes-none objects q.object q.section none) ∙ ap (target_nodes objects) (sym is))

-- ---- lists that grow

-- what a list gives, with what one more element gives
pub flat-more : {X : Type 0} (f : X → List ℕ) (xs : List X) (k : ℕ) (x : X) (old new : List ℕ) → slice_get xs k ≡ Some x → old ≡ flat_map f (take k xs) → new ≡ old ++ f x → new ≡ flat_map f (take (k + 1) xs)
flat-more f xs k x old new at before more =
    more ∙ ap (λ l. l ++ f x) before
    ∙ ap (λ l. flat_map f (take k xs) ++ l) (sym (append-nil (f x)))
    ∙ sym (flat_map-append f (take k xs) (x ∷ []))
    ∙ ap (flat_map f) (sym (take_next xs k x at))

-- what becomes of a list's elements, with what becomes of one more
pub map-more : {X V Y : Type 0} (g : V → Y) (f : X → Y) (xs : List X) (k : ℕ) (x : X) (old new : List V) (v : V) → slice_get xs k ≡ Some x → map g old ≡ map f (take k xs) → new ≡ old ++ v ∷ [] → g v ≡ f x → map g new ≡ map f (take (k + 1) xs)
map-more g f xs k x old new v at before more one =
    ap (map g) more ∙ map-append g old (v ∷ [])
    ∙ ap₂ (λ l y. l ++ y ∷ []) before one
    ∙ sym (map-append f (take k xs) (x ∷ []))
    ∙ ap (map f) (sym (take_next xs k x at))

-- the nodes that are needed by themselves, with that of one more section if it is such
pub roots-more : (fixed : List (List ℕ)) (ls : List IndexedSection) (k : ℕ) (l : IndexedSection) → slice_get ls k ≡ Some l
    → root_nodes_from fixed 0 (take (k + 1) ls) ≡ root_nodes_from fixed 0 (take k ls) ++ cond (is_root fixed l.section) (k ∷ []) []
roots-more fixed ls k l at =
    let within = slice_get_within ls k l at in
    let short : 0 + length (take k ls) ≡ k = omega (arith, length-take-le k ls (omega (arith, within))) in
    ap (λ xs. map (λ (e : ℕ × IndexedSection). e.0) (filter is_among xs))
    (ap (enumerate_from 0) (take_next ls k l at) ∙ enumerate_from-append 0 (take k ls) (l ∷ []) ∙ ap (λ n. enumerate_from 0 (take k ls) ++ (n, l) ∷ []) short)
    ∙ ap (map (λ (e : ℕ × IndexedSection). e.0)) (filter-append is_among (enumerate_from 0 (take k ls)) ((k, l) ∷ []))
    ∙ map-append (λ (e : ℕ × IndexedSection). e.0) (filter is_among (enumerate_from 0 (take k ls))) (filter is_among ((k, l) ∷ []))
    ∙ ap (λ xs. root_nodes_from fixed 0 (take k ls) ++ xs) (by (is_root fixed l.section))
  where
    is_among : ℕ × IndexedSection → Bool
    is_among e = is_root fixed e.1.section

    by : (b : Bool) → map (λ (e : ℕ × IndexedSection). e.0) (cond b ((k, l) ∷ []) []) ≡ cond b (k ∷ []) []
    by true = refl
    by false = refl

-- a root is added, or none is
pub root-added : (fixed : List (List ℕ)) (ls : List IndexedSection) (k : ℕ) (l : IndexedSection) (first old new : List ℕ) → slice_get ls k ≡ Some l → is_root fixed l.section ≡ true → old ≡ first ++ root_nodes_from fixed 0 (take k ls)
    → new ≡ old ++ k ∷ [] → new ≡ first ++ root_nodes_from fixed 0 (take (k + 1) ls)
root-added fixed ls k l first old new at its before more =
    more ∙ ap (λ l. l ++ k ∷ []) before ∙ append_assoc first (root_nodes_from fixed 0 (take k ls)) (k ∷ [])
    ∙ ap (λ l. first ++ l) (sym (roots-more fixed ls k l at ∙ ap (λ b. root_nodes_from fixed 0 (take k ls) ++ cond b (k ∷ []) []) its))

pub root-passed : (fixed : List (List ℕ)) (ls : List IndexedSection) (k : ℕ) (l : IndexedSection) (first old : List ℕ) → slice_get ls k ≡ Some l → is_root fixed l.section ≡ false → old ≡ first ++ root_nodes_from fixed 0 (take k ls)
    → old ≡ first ++ root_nodes_from fixed 0 (take (k + 1) ls)
root-passed fixed ls k l first old at other before =
    before
    ∙ ap (λ l. first ++ l) (sym (roots-more fixed ls k l at ∙ ap (λ b. root_nodes_from fixed 0 (take k ls) ++ cond b (k ∷ []) []) other ∙ append-nil (root_nodes_from fixed 0 (take k ls))))
