-- Laws of the walk over a graph.
use Rattle.std.proofs.Common.{◌≡◌, ℕ, zero, suc, ◌+◌, ◌<◌, ◌⊎◌, inl, inr, List, [], ◌∷◌, ◌++◌, length, take, Bool, true, false, cond, eqb, refl, sym, ap, ap₂, ◌∙◌, subst, arith, get_or, set}
use Rattle.std.specs.Prelude.{◌||◌, All, Contains, Vec, replicate}
use Rattle.std.specs.declared.alloc.Global.{Global}
use Rattle.std.proofs.lemmas.Bool.{eqb-true, eq-eqb, ne_eqb}
use Rattle.std.proofs.lemmas.List.{length-append, length-replicate}
use Rattle.std.proofs.lemmas.List.Elements.{Contains-append_left, Contains-push, Contains-push_cases}
use Rattle.reach.specs.declared.walk.Walk.{Walk}
use Rattle.reach.specs.Invariants.{Found, IsUnderWay, is_among, unmarked, walk_left}
use Rattle.reach.specs.Reach.{AreInside, Edge, MarksReached, Reached, Root, edges_of, mark_of}

-- ---- a mark

unmarked-set : (marks : List Bool) (n : ℕ) → n < length marks → mark_of marks n ≡ false → suc (unmarked (set marks n true)) ≡ unmarked marks
unmarked-set [] n lt none = absurd (omega arith)
unmarked-set (b ∷ bs) zero lt none = ap (λ c. cond c (unmarked bs) (suc (unmarked bs))) (sym none)
unmarked-set (true ∷ bs) (suc n) lt none = unmarked-set bs n (omega arith) none
unmarked-set (false ∷ bs) (suc n) lt none = ap suc (unmarked-set bs n (omega arith) none)

mark-set : (marks : List Bool) (n k : ℕ) → n < length marks → mark_of (set marks n true) k ≡ (mark_of marks k || eqb n k)
mark-set [] n k lt = absurd (omega arith)
mark-set (b ∷ bs) zero zero lt = by b
  where
    by : (b : Bool) → true ≡ (b || true)
    by true = refl
    by false = refl
mark-set (b ∷ bs) zero (suc k) lt = by (mark_of bs k) ∙ ap (λ e. mark_of bs k || e) (sym (ne_eqb 0 (suc k) (λ e. absurd (omega (arith, e)))))
  where
    by : (c : Bool) → c ≡ (c || false)
    by true = refl
    by false = refl
mark-set (b ∷ bs) (suc n) zero lt = by b ∙ ap (λ e. b || e) (sym (ne_eqb (suc n) 0 (λ e. absurd (omega (arith, e)))))
  where
    by : (c : Bool) → c ≡ (c || false)
    by true = refl
    by false = refl
mark-set (b ∷ bs) (suc n) (suc k) lt = mark-set bs n k (omega arith) ∙ ap (λ e. mark_of bs k || e) (same (eqb n k) refl)
  where
    same : (c : Bool) → eqb n k ≡ c → c ≡ eqb (suc n) (suc k)
    same true e = sym (eq-eqb (suc n) (suc k) (ap suc (eqb-true n k e)))
    same false e = sym (ne_eqb (suc n) (suc k) (λ h. let t = eq-eqb n k (let m = h in omega arith) in absurd cc))

length-set : {X : Type 0} (xs : List X) (n : ℕ) (x : X) → length (set xs n x) ≡ length xs
length-set [] n x = refl
length-set (y ∷ ys) zero x = refl
length-set (y ∷ ys) (suc n) x = ap suc (length-set ys n x)

-- a new node is marked and pending
pub noted : (w v : Walk) (node : ℕ) → node < length w.marks.items → mark_of w.marks.items node ≡ false → v.marks.items ≡ set w.marks.items node true → v.pending.items ≡ w.pending.items ++ node ∷ [] → Found (λ k. eqb node k) w v
noted w v node lt none marks pending = record {
  size = ap length marks ∙ length-set w.marks.items node true;
  marks = λ k. ap (λ m. mark_of m k) marks ∙ mark-set w.marks.items node k lt;
  added = λ k is. by k (mark_of w.marks.items k) (eqb node k) refl refl (sym (mark-set w.marks.items node k lt) ∙ ap (λ m. mark_of m k) (sym marks) ∙ is);
  kept = λ k its. subst (λ l. Contains l k) (sym pending) (Contains-append_left w.pending.items (node ∷ []) k its);
  fresh = λ k its. from k (Contains-push_cases w.pending.items node k (subst (λ l. Contains l k) pending its));
  same = ap₂ (λ m p. unmarked m + length p) marks pending ∙ (let one = unmarked-set w.marks.items node lt none in let two = length-append w.pending.items (node ∷ []) in omega (arith, one, two));
}
  where
    by : (k : ℕ) (a b : Bool) → mark_of w.marks.items k ≡ a → eqb node k ≡ b → (mark_of w.marks.items k || eqb node k) ≡ true → (mark_of w.marks.items k ≡ true) ⊎ Contains v.pending.items k
    by k true b ea eb is = inl ea
    by k false true ea eb is = inr (subst (λ n. Contains v.pending.items n) (eqb-true node k eb) (subst (λ l. Contains l node) (sym pending) (Contains-push w.pending.items node)))
    by k false false ea eb is = absurd cc

    from : (k : ℕ) → Contains w.pending.items k ⊎ (node ≡ k) → Contains w.pending.items k ⊎ (eqb node k ≡ true)
    from k (inl old) = inl old
    from k (inr same) = inr (eq-eqb node k same)

-- ---- several nodes, one after another

pub none-noted : (w : Walk) → Found (λ k. false) w w
none-noted w = record { size = refl; marks = λ k. by (mark_of w.marks.items k); added = λ k is. inl is; kept = λ k its. its; fresh = λ k its. inl its; same = refl }
  where
    by : (b : Bool) → b ≡ (b || false)
    by true = refl
    by false = refl

pub then-noted : (p q r : ℕ → Bool) → ((k : ℕ) → r k ≡ (p k || q k)) → (u v w : Walk) → Found p u v → Found q v w → Found r u w
then-noted p q r is u v w a b = record {
  size = b.size ∙ a.size;
  marks = λ k. b.marks k ∙ ap (λ m. m || q k) (a.marks k) ∙ assoc (mark_of u.marks.items k) (p k) (q k) ∙ ap (λ t. mark_of u.marks.items k || t) (sym (is k));
  added = λ k m. first k (b.added k m);
  kept = λ k its. b.kept k (a.kept k its);
  fresh = λ k its. second k (b.fresh k its);
  same = b.same ∙ a.same;
}
  where
    assoc : (a b c : Bool) → ((a || b) || c) ≡ (a || (b || c))
    assoc true b c = refl
    assoc false true c = refl
    assoc false false c = refl

    first : (k : ℕ) → (mark_of v.marks.items k ≡ true) ⊎ Contains w.pending.items k → (mark_of u.marks.items k ≡ true) ⊎ Contains w.pending.items k
    first k (inr its) = inr its
    first k (inl m) = again (a.added k m)
      where
        again : (mark_of u.marks.items k ≡ true) ⊎ Contains v.pending.items k → (mark_of u.marks.items k ≡ true) ⊎ Contains w.pending.items k
        again (inl m) = inl m
        again (inr its) = inr (b.kept k its)

    left-true : (a b : Bool) → a ≡ true → (a || b) ≡ true
    left-true true b e = refl
    left-true false b e = absurd cc

    right-true : (a b : Bool) → b ≡ true → (a || b) ≡ true
    right-true true b e = refl
    right-true false b e = e

    second : (k : ℕ) → Contains v.pending.items k ⊎ (q k ≡ true) → Contains u.pending.items k ⊎ (r k ≡ true)
    second k (inr t) = inr (is k ∙ right-true (p k) (q k) t)
    second k (inl its) = again (a.fresh k its)
      where
        again : Contains u.pending.items k ⊎ (p k ≡ true) → Contains u.pending.items k ⊎ (r k ≡ true)
        again (inl its) = inl its
        again (inr t) = inr (is k ∙ left-true (p k) (q k) t)

among-append : (xs ys : List ℕ) (k : ℕ) → is_among (xs ++ ys) k ≡ (is_among xs k || is_among ys k)
among-append [] ys k = refl
among-append (x ∷ xs) ys k = ap (λ t. eqb x k || t) (among-append xs ys k) ∙ assoc (eqb x k) (is_among xs k) (is_among ys k)
  where
    assoc : (a b c : Bool) → (a || (b || c)) ≡ ((a || b) || c)
    assoc true b c = refl
    assoc false b c = refl

-- one more node
pub noted-more : (nodes : List ℕ) (i node : ℕ) (u v w : Walk) → take (i + 1) nodes ≡ take i nodes ++ node ∷ [] → Found (is_among (take i nodes)) u v → Found (λ k. eqb node k) v w → Found (is_among (take (i + 1) nodes)) u w
noted-more nodes i node u v w more a b =
    then-noted (is_among (take i nodes)) (λ k. eqb node k) (is_among (take (i + 1) nodes))
    (λ k. ap (λ l. is_among l k) more ∙ among-append (take i nodes) (node ∷ []) k ∙ ap (λ t. is_among (take i nodes) k || t) (by (eqb node k))) u v w a b
  where
    by : (b : Bool) → (b || false) ≡ b
    by true = refl
    by false = refl

pub mark-read : (marks : List Bool) (n : ℕ) (b : Bool) → n < length marks → b ≡ get_or marks n b → b ≡ false → mark_of marks n ≡ false
mark-read [] n b lt is none = absurd (omega arith)
mark-read (m ∷ ms) zero b lt is none = sym is ∙ none
mark-read (m ∷ ms) (suc n) b lt is none = mark-read ms n b (omega arith) is none

-- ---- the walk

among-contains : (xs : List ℕ) (k : ℕ) → is_among xs k ≡ true → Contains xs k
among-contains [] k h = absurd cc
among-contains (x ∷ xs) k h = by (λ h. among-contains xs k h) (eqb x k) refl h
  where
    by : (is_among xs k ≡ true → Contains xs k) → (b : Bool) → eqb x k ≡ b → (b || is_among xs k) ≡ true → Contains (x ∷ xs) k
    by rest true e h = (0, omega arith, eqb-true x k e)
    by rest false e h = let its = rest h in (suc its.0, (let lt = its.1 in omega arith), its.2)

contains-is_among : (xs : List ℕ) (k i : ℕ) → i < length xs → get_or xs i k ≡ k → is_among xs k ≡ true
contains-is_among [] k i lt is = absurd (omega arith)
contains-is_among (x ∷ xs) k zero lt is = ap (λ b. b || is_among xs k) (eq-eqb x k is)
contains-is_among (x ∷ xs) k (suc i) lt is = ap (λ t. eqb x k || t) (contains-is_among xs k i (omega arith) is) ∙ by (eqb x k)
  where
    by : (b : Bool) → (b || true) ≡ true
    by true = refl
    by false = refl

none-is_among : (k : ℕ) → Contains {X = ℕ} [] k → ⊥
none-is_among k its = let lt = its.1 in omega (arith, lt)

none-marked : (n k : ℕ) → mark_of (replicate n false) k ≡ false
none-marked zero k = refl
none-marked (suc n) zero = refl
none-marked (suc n) (suc k) = none-marked n k

module _ (graph : List (Vec ℕ Global)) (roots : List ℕ) where
  -- the walk after the roots were found
  pub begun : (u v : Walk) → u.marks.items ≡ replicate (length graph) false → u.pending.items ≡ [] → Found (is_among roots) u v → IsUnderWay graph roots v
  begun u v marks pending noted = record {
    size = noted.size ∙ ap length marks ∙ length-replicate (length graph) false;
    sound = λ k is. Root k (among-contains roots k (sym (only k) ∙ is));
    pending = λ k its. only k ∙ among-of k (noted.fresh k its);
    followed = λ k is. new k (noted.added k is);
    start = λ k its. only k ∙ contains-is_among roots k its.0 its.1 its.2;
  }
    where
      only : (k : ℕ) → mark_of v.marks.items k ≡ is_among roots k
      only k = noted.marks k ∙ ap (λ b. b || is_among roots k) (ap (λ m. mark_of m k) marks ∙ none-marked (length graph) k)

      among-of : (k : ℕ) → Contains u.pending.items k ⊎ (is_among roots k ≡ true) → is_among roots k ≡ true
      among-of k (inr h) = h
      among-of k (inl its) = absurd (none-is_among k (subst (λ l. Contains l k) pending its))

      new : (k : ℕ) → (mark_of u.marks.items k ≡ true) ⊎ Contains v.pending.items k → Contains v.pending.items k ⊎ ((b : ℕ) → Contains (edges_of graph k) b → mark_of v.marks.items b ≡ true)
      new k (inr its) = inl its
      new k (inl is) = absurd (let no = ap (λ m. mark_of m k) marks ∙ none-marked (length graph) k in cc)

  -- a node's edges were followed
  pub turned : (w u v : Walk) (node : ℕ) → IsUnderWay graph roots w → u.marks.items ≡ w.marks.items → w.pending.items ≡ u.pending.items ++ node ∷ [] → Found (is_among (edges_of graph node)) u v → IsUnderWay graph roots v
  turned w u v node is marks pending noted = record {
    size = noted.size ∙ ap length marks ∙ is.size;
    sound = λ k m. sound-of k (mark_of w.marks.items k) refl (sym (now k) ∙ m);
    pending = λ k its. now k ∙ marked-of k (noted.fresh k its);
    followed = λ k m. follow k (noted.added k m);
    start = λ k its. now k ∙ kept-true (mark_of w.marks.items k) (is_among (edges_of graph node) k) (is.start k its);
  }
    where
      now : (k : ℕ) → mark_of v.marks.items k ≡ (mark_of w.marks.items k || is_among (edges_of graph node) k)
      now k = noted.marks k ∙ ap (λ m. mark_of m k || is_among (edges_of graph node) k) marks

      kept-true : (a b : Bool) → a ≡ true → (a || b) ≡ true
      kept-true true b e = refl
      kept-true false b e = absurd cc

      new-true : (a b : Bool) → b ≡ true → (a || b) ≡ true
      new-true true b e = refl
      new-true false b e = e

      popped : mark_of w.marks.items node ≡ true
      popped = is.pending node (subst (λ l. Contains l node) (sym pending) (Contains-push u.pending.items node))

      still : (k : ℕ) → mark_of w.marks.items k ≡ true → mark_of v.marks.items k ≡ true
      still k m = now k ∙ kept-true (mark_of w.marks.items k) (is_among (edges_of graph node) k) m

      sound-of : (k : ℕ) (b : Bool) → mark_of w.marks.items k ≡ b → (mark_of w.marks.items k || is_among (edges_of graph node) k) ≡ true → Reached graph roots k
      sound-of k true m h = is.sound k m
      sound-of k false m h = Edge node k (is.sound node popped) (among-contains (edges_of graph node) k (sym (ap (λ b. b || is_among (edges_of graph node) k) m) ∙ h))

      marked-of : (k : ℕ) → Contains u.pending.items k ⊎ (is_among (edges_of graph node) k ≡ true) → (mark_of w.marks.items k || is_among (edges_of graph node) k) ≡ true
      marked-of k (inl its) = kept-true (mark_of w.marks.items k) (is_among (edges_of graph node) k) (is.pending k (subst (λ l. Contains l k) (sym pending) (Contains-append_left u.pending.items (node ∷ []) k its)))
      marked-of k (inr h) = new-true (mark_of w.marks.items k) (is_among (edges_of graph node) k) h

      own : (b : ℕ) → Contains (edges_of graph node) b → mark_of v.marks.items b ≡ true
      own b its = now b ∙ new-true (mark_of w.marks.items b) (is_among (edges_of graph node) b) (contains-is_among (edges_of graph node) b its.0 its.1 its.2)

      follow : (k : ℕ) → (mark_of u.marks.items k ≡ true) ⊎ Contains v.pending.items k → Contains v.pending.items k ⊎ ((b : ℕ) → Contains (edges_of graph k) b → mark_of v.marks.items b ≡ true)
      follow k (inr its) = inl its
      follow k (inl m) = old (is.followed k (sym (ap (λ l. mark_of l k) marks) ∙ m))
        where
          which : Contains u.pending.items k ⊎ (node ≡ k) → Contains v.pending.items k ⊎ ((b : ℕ) → Contains (edges_of graph k) b → mark_of v.marks.items b ≡ true)
          which (inl its) = inl (noted.kept k its)
          which (inr same) = inr (subst (λ n. (b : ℕ) → Contains (edges_of graph n) b → mark_of v.marks.items b ≡ true) same own)

          old : Contains w.pending.items k ⊎ ((b : ℕ) → Contains (edges_of graph k) b → mark_of w.marks.items b ≡ true) → Contains v.pending.items k ⊎ ((b : ℕ) → Contains (edges_of graph k) b → mark_of v.marks.items b ≡ true)
          old (inr all) = inr (λ b its. still b (all b its))
          old (inl its) = which (Contains-push_cases u.pending.items node k (subst (λ l. Contains l k) pending its))

  -- a step of the walk leaves less work (`walk_left`)
  pub less : (w u v : Walk) (node : ℕ) → u.marks.items ≡ w.marks.items → w.pending.items ≡ u.pending.items ++ node ∷ [] → Found (is_among (edges_of graph node)) u v → walk_left v < walk_left w
  less w u v node marks pending noted =
      let one = noted.same in
      let two = ap unmarked marks in
      let three = ap length pending in
      let four = length-append u.pending.items (node ∷ []) in
      omega (arith, one, two, three, four)

  -- once no node is pending, exactly the reached nodes are marked
  pub finished : (w : Walk) → IsUnderWay graph roots w → w.pending.items ≡ [] → MarksReached graph roots w.marks.items
  finished w is none = record { size = is.size; all = all; only = is.sound }
    where
      closed : (a b : ℕ) → Contains w.pending.items a ⊎ ((b : ℕ) → Contains (edges_of graph a) b → mark_of w.marks.items b ≡ true) → Contains (edges_of graph a) b → mark_of w.marks.items b ≡ true
      closed a b (inl its) e = absurd (none-is_among a (subst (λ l. Contains l a) none its))
      closed a b (inr all) e = all b e

      all : (k : ℕ) → Reached graph roots k → mark_of w.marks.items k ≡ true
      all k (Root r its) = is.start r its
      all k (Edge a b reached its) = closed a b (is.followed a (all a reached)) its

-- a marked node is within the graph
inside : (marks : List Bool) (k : ℕ) → mark_of marks k ≡ true → k < length marks
inside [] k h = absurd cc
inside (m ∷ ms) zero h = omega arith
inside (m ∷ ms) (suc k) h = let lt = inside ms k h in omega arith

edges-at : (graph : List (Vec ℕ Global)) (node : ℕ) (v : Vec ℕ Global) → node < length graph → v ≡ get_or graph node v → edges_of graph node ≡ v.items
edges-at [] node v lt is = absurd (omega arith)
edges-at (g ∷ gs) zero v lt is = ap (λ (x : Vec ℕ Global). x.items) (sym is)
edges-at (g ∷ gs) (suc node) v lt is = edges-at gs node v (omega arith) is

module _ (graph : List (Vec ℕ Global)) (roots : List ℕ) where
  pub pending-inside : (w : Walk) (node : ℕ) (rest : List ℕ) → IsUnderWay graph roots w → w.pending.items ≡ rest ++ node ∷ [] → node < length graph
  pending-inside w node rest is pending =
      let marked = is.pending node (subst (λ l. Contains l node) (sym pending) (Contains-push rest node)) in
      let lt = inside w.marks.items node marked in
      let size = is.size in
      omega (arith, lt, size)

  pub pending-inside-is : (w : Walk) (node : ℕ) (rest : List ℕ) (v : Vec ℕ Global) → IsUnderWay graph roots w → w.pending.items ≡ rest ++ node ∷ [] → v ≡ get_or graph node v → edges_of graph node ≡ v.items
  pending-inside-is w node rest v is pending at = edges-at graph node v (pending-inside w node rest is pending) at

  pub all-inside : (w : Walk) (node : ℕ) (nodes : List ℕ) → IsUnderWay graph roots w → AreInside graph → edges_of graph node ≡ nodes → All (λ k. k < length w.marks.items) nodes
  all-inside w node nodes is inside same = subst (λ n. All (λ k. k < n) nodes) (sym is.size) (subst (All (λ k. k < length graph)) same (inside node))

pub no-items : (xs : List ℕ) → length xs ≡ 0 → xs ≡ []
no-items [] e = refl
no-items (x ∷ xs) e = absurd (omega (arith, e))
