-- How a tree of hosts changes: each run that is added gives nodes to the lists of words that have none, and all others stay.
use Rattle.std.proofs.Common.{◌≡◌, ℕ, suc, ◌+◌, ◌*◌, ◌<◌, ◌≤◌, List, [], ◌∷◌, ◌++◌, length, Bool, true, false, cond, eqb, ltb, Option, Some, None, drop, ◌-◌, refl, sym, ap, ◌∙◌, subst, arith, get_or, inl, inr}
use Rattle.std.specs.Prelude.{◌||◌, ◌&&◌, nat_eq, ◌⊎◌}
use Rattle.std.specs.Cmp.Lexicographic.{pointwise, same_text, other_text, bytes_decides}
use Rattle.std.specs.Option.{option_and_then, option_map, option_or}
use Rattle.std.proofs.lemmas.Bool.{and_parts, and_from, or_cases, eqb-true, eq-eqb, ne_eqb, false_from_ne_true}
use Rattle.std.specs.BTreeMap.{BTreeMap, is_at}
use Rattle.std.specs.Map.{lookup}
use Rattle.std.specs.Ordering.{nat_cmp}
use Rattle.std.proofs.lemmas.List.{drop-map, drop_all, drop_more, length-append, length-drop, length-map}
use Rattle.std.proofs.Math.ListN.{get_or-append}
use Rattle.std.proofs.Math.Seq.{get_or-append_seam}
use Rattle.tail_merge.specs.HostTree.{AddsChild, AreNodes, HoldsHosts, HoldsRuns, HostRun, IsAdding, IsDeepest, IsHostTree, are_last, child_in, first_host, words_node, item_words}
use Rattle.tail_merge.specs.declared.host_tree.HostTree.{HostTree}
use Rattle.tail_merge.specs.declared.tail_item.TailItem.{TailItem}

-- ---- hosts

-- the first host of some and one more
first-push : (hosts : List HostRun) (h : HostRun) (ws : List ℕ) → first_host (hosts ++ h ∷ []) ws ≡ option_or (first_host hosts ws) (cond (are_last ws h.run) (Some h.end) None)
first-push [] h ws = refl
first-push (g ∷ hosts) h ws = by (first-push hosts h ws) (are_last ws g.run)
  where
    by : first_host (hosts ++ h ∷ []) ws ≡ option_or (first_host hosts ws) (cond (are_last ws h.run) (Some h.end) None)
        → (b : Bool) → cond b (Some g.end) (first_host (hosts ++ h ∷ []) ws) ≡ option_or (cond b (Some g.end) (first_host hosts ws)) (cond (are_last ws h.run) (Some h.end) None)
    by rest true = refl
    by rest false = rest

or-none : (o : Option ℕ) → option_or o None ≡ o
or-none None = refl
or-none (Some n) = refl

none-before : (o p : Option ℕ) → option_or o p ≡ None → o ≡ None
none-before None p e = refl
none-before (Some n) p e = absurd cc

-- the last words of others are no more than these
last-length : (ws vs : List ℕ) → are_last ws vs ≡ true → length ws ≤ length vs
last-length ws [] is = let same = ap length (same_text ws [] (sym is)) in omega (arith, same)
last-length ws (v ∷ vs) is = by (last-length ws vs) (or_cases (pointwise nat_eq ws (v ∷ vs)) (are_last ws vs) is)
  where
    by : (are_last ws vs ≡ true → length ws ≤ length vs) → (pointwise nat_eq ws (v ∷ vs) ≡ true) ⊎ (are_last ws vs ≡ true) → length ws ≤ suc (length vs)
    by rest (inl all) = let same = ap length (same_text ws (v ∷ vs) (sym all)) in omega (arith, same)
    by rest (inr later) = let low = rest later in omega (arith, low)

not-last : (w : ℕ) (ws : List ℕ) → are_last (w ∷ ws) ws ≡ false
not-last w ws = false_from_ne_true (are_last (w ∷ ws) ws) (λ is. absurd (let low = last-length (w ∷ ws) ws is in omega (arith, low)))

-- a host of no run is that of no words
pub run-begun : (child : ℕ → ℕ → Option ℕ) (ends : List ℕ) (hosts : List HostRun) (host : ℕ) → HoldsHosts child ends hosts → HoldsHosts child ends (hosts ++ record { end = host; run = [] } ∷ [])
run-begun child ends hosts host holds = λ w ws. holds w ws ∙ sym (first-push hosts (record { end = host; run = [] }) (w ∷ ws) ∙ or-none (first_host hosts (w ∷ ws)))

-- ---- nodes

module _ (child : ℕ → ℕ → Option ℕ) (count : ℕ) (nodes : AreNodes child count) where
  pub node-within : (ws : List ℕ) (n : ℕ) → words_node child ws ≡ Some n → n < count
  node-within [] n is = let root = nodes.root in let same : 0 ≡ n = cc in omega (arith, root, same)
  node-within (w ∷ ws) n is = by (words_node child ws) is
    where
      by : (o : Option ℕ) → option_and_then (λ m. child m w) o ≡ Some n → n < count
      by None e = absurd cc
      by (Some m) e = nodes.within m w n e

-- a node's child is that of one more word
pub node-more : (child : ℕ → ℕ → Option ℕ) (node word : ℕ) (ws : List ℕ) (o : Option ℕ) → words_node child ws ≡ Some node → child node word ≡ o → words_node child (word ∷ ws) ≡ o
node-more child node word ws o here is = ap (option_and_then (λ n. child n word)) here ∙ is

-- a host whose run has a node already, with one word more
module _ (child : ℕ → ℕ → Option ℕ) (ends : List ℕ) (node word host c : ℕ) (ws : List ℕ)
    (here : words_node child ws ≡ Some node) (there : child node word ≡ Some c) (hosts : List HostRun)
    (holds : HoldsHosts child ends (hosts ++ record { end = host; run = ws } ∷ [])) where
  found-first : first_host hosts (word ∷ ws) ≡ Some (get_or ends c 0)
  found-first =
      sym (or-none (first_host hosts (word ∷ ws)))
      ∙ ap (λ b. option_or (first_host hosts (word ∷ ws)) (cond b (Some host) None)) (sym (not-last word ws))
      ∙ sym (first-push hosts (record { end = host; run = ws }) (word ∷ ws)) ∙ sym (holds word ws)
      ∙ ap (option_map (λ n. get_or ends n 0)) (node-more child node word ws (Some c) here there)

  pub run-found : HoldsHosts child ends (hosts ++ record { end = host; run = word ∷ ws } ∷ [])
  run-found v vs = holds v vs ∙ first-push hosts (record { end = host; run = ws }) (v ∷ vs) ∙ by (pointwise nat_eq (v ∷ vs) (word ∷ ws)) refl ∙ sym (first-push hosts (record { end = host; run = word ∷ ws }) (v ∷ vs))
    where
      by : (b : Bool) → pointwise nat_eq (v ∷ vs) (word ∷ ws) ≡ b → option_or (first_host hosts (v ∷ vs)) (cond (are_last (v ∷ vs) ws) (Some host) None) ≡ option_or (first_host hosts (v ∷ vs)) (cond (b || are_last (v ∷ vs) ws) (Some host) None)
      by false e = refl
      by true e =
          let first = ap (first_host hosts) (same_text (v ∷ vs) (word ∷ ws) (sym e)) ∙ found-first in
          ap (λ o. option_or o (cond (are_last (v ∷ vs) ws) (Some host) None)) first ∙ sym (ap (λ o. option_or o (Some host)) first)

-- a node's new child
module _ (child child' : ℕ → ℕ → Option ℕ) (ends : List ℕ) (node word host : ℕ) (ws : List ℕ)
    (nodes : AreNodes child (length ends)) (here : words_node child ws ≡ Some node) (none : child node word ≡ None)
    (added : (n w : ℕ) → child' n w ≡ cond (eqb n node && eqb w word) (Some (length ends)) (child n w)) where
  is_new : List ℕ → Bool
  is_new vs = pointwise nat_eq vs (word ∷ ws)

  -- the new node has no children
  childless : (v : ℕ) → child' (length ends) v ≡ None
  childless v = added (length ends) v ∙ ap (λ b. cond (b && eqb v word) (Some (length ends)) (child (length ends) v)) other ∙ old (child (length ends) v) refl
    where
      other : eqb (length ends) node ≡ false
      other = ne_eqb (length ends) node (λ e. absurd (let low = node-within child (length ends) nodes ws node here in omega (arith, low, e)))

      old : (o : Option ℕ) → child (length ends) v ≡ o → o ≡ None
      old None e = refl
      old (Some c) e = absurd (let low = nodes.parent (length ends) v c e in omega (arith, low))

  longer_tail : (v : ℕ) (vs : List ℕ) → vs ≡ word ∷ ws → pointwise nat_eq (v ∷ vs) (word ∷ ws) ≡ false
  longer_tail v vs is = false_from_ne_true (pointwise nat_eq (v ∷ vs) (word ∷ ws)) (λ e. absurd (let same = ap length (same_text (v ∷ vs) (word ∷ ws) (sym e)) in let same' = ap length is in omega (arith, same, same')))

  -- which child of an old node the new one is
  same-test : (v n : ℕ) (vs : List ℕ) → words_node child vs ≡ Some n → (eqb n node && eqb v word) ≡ pointwise nat_eq (v ∷ vs) (word ∷ ws)
  same-test v n vs is = by (pointwise nat_eq (v ∷ vs) (word ∷ ws)) refl (eqb n node && eqb v word) refl
    where
      by : (b : Bool) → pointwise nat_eq (v ∷ vs) (word ∷ ws) ≡ b → (c : Bool) → (eqb n node && eqb v word) ≡ c → c ≡ b
      by true e true t = refl
      by false e false t = refl
      by false e true t =
          let parts = and_parts (eqb n node) (eqb v word) t in
          let first = eqb-true n node parts.0 in
          let second = eqb-true v word parts.1 in
          let old : words_node child vs ≡ Some node = is ∙ ap Some first in
          let rest = nodes.alone vs ws node old here in
          let same : v ∷ vs ≡ word ∷ ws = cc in
          absurd (other_text (v ∷ vs) (word ∷ ws) (sym e) same)
      by true e false t =
          let same = same_text (v ∷ vs) (word ∷ ws) (sym e) in
          let head : v ≡ word = cc in
          let tail : vs ≡ ws = cc in
          let known = ap (words_node child) tail in
          let number : n ≡ node = cc in
          let both = and_from (eqb n node) (eqb v word) (eq-eqb n node number) (eq-eqb v word head) in
          absurd cc

  pub new-node : (vs : List ℕ) → words_node child' vs ≡ cond (pointwise nat_eq vs (word ∷ ws)) (Some (length ends)) (words_node child vs)
  new-node [] = refl
  new-node (v ∷ vs) = ap (option_and_then (λ n. child' n v)) (new-node vs) ∙ by (pointwise nat_eq vs (word ∷ ws)) refl (words_node child vs) refl
    where
      by : (b : Bool) → pointwise nat_eq vs (word ∷ ws) ≡ b → (o : Option ℕ) → words_node child vs ≡ o
          → option_and_then (λ n. child' n v) (cond b (Some (length ends)) o) ≡ cond (pointwise nat_eq (v ∷ vs) (word ∷ ws)) (Some (length ends)) (option_and_then (λ n. child n v) o)
      by true e o is =
          let same = same_text vs (word ∷ ws) (sym e) in
          let gone : o ≡ None = sym is ∙ ap (words_node child) same ∙ node-more child node word ws None here none in
          childless v ∙ sym (ap (λ b. cond b (Some (length ends)) (option_and_then (λ n. child n v) o)) (longer_tail v vs same) ∙ ap (option_and_then (λ n. child n v)) gone)
      by false e None is = sym (ap (λ b. cond b (Some (length ends)) None) (false_from_ne_true (pointwise nat_eq (v ∷ vs) (word ∷ ws)) absent))
        where
          absent : pointwise nat_eq (v ∷ vs) (word ∷ ws) ≡ true → ⊥
          absent t =
              let same = same_text (v ∷ vs) (word ∷ ws) (sym t) in
              let tail : vs ≡ ws = cc in
              let known = ap (words_node child) tail in
              absurd cc
      by false e (Some n) is = added n v ∙ ap (λ b. cond b (Some (length ends)) (child n v)) (same-test v n vs is)

  -- nodes stay apart
  number-of : (vs : List ℕ) (n : ℕ) → words_node child' vs ≡ Some n → ((vs ≡ word ∷ ws) × (n ≡ length ends)) ⊎ (words_node child vs ≡ Some n)
  number-of vs n is = by (pointwise nat_eq vs (word ∷ ws)) refl (sym (new-node vs) ∙ is)
    where
      by : (b : Bool) → pointwise nat_eq vs (word ∷ ws) ≡ b → cond b (Some (length ends)) (words_node child vs) ≡ Some n → ((vs ≡ word ∷ ws) × (n ≡ length ends)) ⊎ (words_node child vs ≡ Some n)
      by true e h = inl (same_text vs (word ∷ ws) (sym e), let same : n ≡ length ends = cc in same)
      by false e h = inr h

  child-of : (n w c : ℕ) → child' n w ≡ Some c → ((n ≡ node) × (c ≡ length ends)) ⊎ (child n w ≡ Some c)
  child-of n w c is = by (eqb n node && eqb w word) refl (sym (added n w) ∙ is)
    where
      by : (b : Bool) → (eqb n node && eqb w word) ≡ b → cond b (Some (length ends)) (child n w) ≡ Some c → ((n ≡ node) × (c ≡ length ends)) ⊎ (child n w ≡ Some c)
      by true e h = inl (eqb-true n node (and_parts (eqb n node) (eqb w word) e).0, let same : c ≡ length ends = cc in same)
      by false e h = inr h

  pub nodes-added : AreNodes child' (length (ends ++ host ∷ []))
  nodes-added = record { root = omega (arith, more); within = within; parent = parent; alone = alone }
    where
      more : length (ends ++ host ∷ []) ≡ length ends + 1
      more = length-append ends (host ∷ [])

      within : (n w c : ℕ) → child' n w ≡ Some c → c < length (ends ++ host ∷ [])
      within n w c is = by (child-of n w c is)
        where
          by : ((n ≡ node) × (c ≡ length ends)) ⊎ (child n w ≡ Some c) → c < length (ends ++ host ∷ [])
          by (inl new) = let e = new.1 in omega (arith, e, more)
          by (inr old) = let low = nodes.within n w c old in omega (arith, low, more)

      parent : (n w c : ℕ) → child' n w ≡ Some c → n < length (ends ++ host ∷ [])
      parent n w c is = by (child-of n w c is)
        where
          by : ((n ≡ node) × (c ≡ length ends)) ⊎ (child n w ≡ Some c) → n < length (ends ++ host ∷ [])
          by (inl new) = let low = node-within child (length ends) nodes ws node here in let e = new.0 in omega (arith, low, e, more)
          by (inr old) = let low = nodes.parent n w c old in omega (arith, low, more)

      alone : (us vs : List ℕ) (n : ℕ) → words_node child' us ≡ Some n → words_node child' vs ≡ Some n → us ≡ vs
      alone us vs n is is' = by (number-of us n is) (number-of vs n is')
        where
          by : ((us ≡ word ∷ ws) × (n ≡ length ends)) ⊎ (words_node child us ≡ Some n) → ((vs ≡ word ∷ ws) × (n ≡ length ends)) ⊎ (words_node child vs ≡ Some n) → us ≡ vs
          by (inl a) (inl b) = a.0 ∙ sym b.0
          by (inl a) (inr b) = absurd (let low = node-within child (length ends) nodes vs n b in let e = a.1 in omega (arith, low, e))
          by (inr a) (inl b) = absurd (let low = node-within child (length ends) nodes us n a in let e = b.1 in omega (arith, low, e))
          by (inr a) (inr b) = nodes.alone us vs n a b

  pub node-added : words_node child' (word ∷ ws) ≡ Some (length ends)
  node-added = new-node (word ∷ ws) ∙ ap (λ b. cond b (Some (length ends)) (words_node child (word ∷ ws))) ((bytes_decides (word ∷ ws) (word ∷ ws)).1 refl)

  -- and the host's run has one word more
  module _ (hosts : List HostRun) (holds : HoldsHosts child ends (hosts ++ record { end = host; run = ws } ∷ [])) where
    new-first : (vs : List ℕ) → vs ≡ word ∷ ws → first_host hosts vs ≡ None
    new-first vs is = ap (first_host hosts) is ∙ none-before (first_host hosts (word ∷ ws)) (cond (are_last (word ∷ ws) ws) (Some host) None) (sym (first-push hosts (record { end = host; run = ws }) (word ∷ ws)) ∙ sym (holds word ws) ∙ ap (option_map (λ n. get_or ends n 0)) (node-more child node word ws None here none))

    kept : (o : Option ℕ) → ((n : ℕ) → o ≡ Some n → n < length ends) → option_map (λ n. get_or (ends ++ host ∷ []) n 0) o ≡ option_map (λ n. get_or ends n 0) o
    kept None low = refl
    kept (Some n) low = ap Some (get_or-append ends (host ∷ []) 0 n (low n refl))

    pub run-added : HoldsHosts child' (ends ++ host ∷ []) (hosts ++ record { end = host; run = word ∷ ws } ∷ [])
    run-added v vs = ap (option_map (λ n. get_or (ends ++ host ∷ []) n 0)) (new-node (v ∷ vs)) ∙ by (pointwise nat_eq (v ∷ vs) (word ∷ ws)) refl ∙ sym (first-push hosts (record { end = host; run = word ∷ ws }) (v ∷ vs))
      where
        by : (b : Bool) → pointwise nat_eq (v ∷ vs) (word ∷ ws) ≡ b
            → option_map (λ n. get_or (ends ++ host ∷ []) n 0) (cond b (Some (length ends)) (words_node child (v ∷ vs))) ≡ option_or (first_host hosts (v ∷ vs)) (cond (b || are_last (v ∷ vs) ws) (Some host) None)
        by true e =
            ap Some (get_or-append_seam ends host [] 0)
            ∙ sym (ap (λ o. option_or o (Some host)) (new-first (v ∷ vs) (same_text (v ∷ vs) (word ∷ ws) (sym e))))
        by false e = kept (words_node child (v ∷ vs)) (λ n is. node-within child (length ends) nodes (v ∷ vs) n is) ∙ holds v vs ∙ first-push hosts (record { end = host; run = ws }) (v ∷ vs)

-- ---- what is found

-- words that have a node are the last ones of its host's run, and of no host's before
pub first-found : (child : ℕ → ℕ → Option ℕ) (ends : List ℕ) (hosts : List HostRun) → HoldsHosts child ends hosts → (ws : List ℕ) (n : ℕ) → words_node child ws ≡ Some n → 0 < length ws → first_host hosts ws ≡ Some (get_or ends n 0)
first-found child ends hosts holds [] n is some = absurd (omega (arith, some))
first-found child ends hosts holds (w ∷ ws) n is some = sym (holds w ws) ∙ ap (option_map (λ m. get_or ends m 0)) is

-- and without one more node no host's run has one more word
pub none-found : (child : ℕ → ℕ → Option ℕ) (ends : List ℕ) (hosts : List HostRun) → HoldsHosts child ends hosts → (w : ℕ) (ws : List ℕ) (n : ℕ) → words_node child ws ≡ Some n → child n w ≡ None → first_host hosts (w ∷ ws) ≡ None
none-found child ends hosts holds w ws n is none = sym (holds w ws) ∙ ap (option_map (λ m. get_or ends m 0)) (node-more child n w ws None is none)

-- one more word from the end
pub words-step : (items : List TailItem) (k : ℕ) (d : TailItem) → k < length items → drop (length items - (k + 1)) (item_words items) ≡ (get_or items (length items - 1 - k) d).word ∷ drop (length items - k) (item_words items)
words-step items k d low =
    let here : length items - (k + 1) ≡ length items - 1 - k = omega (arith, low) in
    let next : length items - (k + 1) + 1 ≡ length items - k = omega (arith, low) in
    drop-map (λ (u : TailItem). u.word) (length items - (k + 1)) items
    ∙ ap item_words (drop_more items (length items - (k + 1)) d (omega (arith, low)) ∙ ap (λ i. get_or items i d ∷ drop (length items - (k + 1) + 1) items) here ∙ ap (λ i. get_or items (length items - 1 - k) d ∷ drop i items) next)
    ∙ ap (λ ws. (get_or items (length items - 1 - k) d).word ∷ ws) (sym (drop-map (λ (u : TailItem). u.word) (length items - k) items))

pub no-words : (items : List TailItem) (n : ℕ) → length items ≤ n → drop n (item_words items) ≡ []
no-words items n low = drop_all n (item_words items) (let same = length-map items (λ (u : TailItem). u.word) in omega (arith, low, same))

-- ---- the empty tree

module _ (child : ℕ → ℕ → Option ℕ) (none : (n w : ℕ) → child n w ≡ None) where
  no-node : (w : ℕ) (ws : List ℕ) → words_node child (w ∷ ws) ≡ None
  no-node w ws = by (words_node child ws)
    where
      by : (o : Option ℕ) → option_and_then (λ n. child n w) o ≡ None
      by None = refl
      by (Some n) = none n w

  pub nodes-none : (count : ℕ) → 0 < count → AreNodes child count
  nodes-none count some = record { root = some; within = λ n w c is. absurd (let e = none n w in cc); parent = λ n w c is. absurd (let e = none n w in cc); alone = alone }
    where
      alone : (ws vs : List ℕ) (n : ℕ) → words_node child ws ≡ Some n → words_node child vs ≡ Some n → ws ≡ vs
      alone [] [] n a b = refl
      alone [] (v ∷ vs) n a b = absurd (let e = no-node v vs in cc)
      alone (w ∷ ws) vs n a b = absurd (let e = no-node w ws in cc)

  pub holds-none : (ends : List ℕ) → HoldsHosts child ends []
  holds-none ends w ws = ap (option_map (λ n. get_or ends n 0)) (no-node w ws)

pub childless-map : (m : BTreeMap ℕ ℕ) → m.entries ≡ [] → (n w : ℕ) → child_in m n w ≡ None
childless-map m empty n w = ap (λ (es : List (ℕ × ℕ)). cond (ltb w 4294967296) (lookup (is_at (nat_cmp (n * 4294967296 + w))) es) None) empty ∙ both (ltb w 4294967296) None
  where
    both : (b : Bool) (o : Option ℕ) → cond b o o ≡ o
    both true o = refl
    both false o = refl

-- ---- the loop that adds a run

pub adding-begun : (tree : HostTree) (items : List TailItem) (host : ℕ) → IsHostTree tree → IsAdding tree tree items host 0 0
adding-begun tree items host nodes =
    let none = no-words items (length items - 0) (omega arith) in
    record {
      tree = nodes;
      here = ap (words_node (child_in tree.children)) none;
      runs = λ hosts holds. subst (λ ws. HoldsRuns tree (hosts ++ record { end = host; run = ws } ∷ [])) (sym none) (run-begun (child_in tree.children) tree.hosts.items hosts host holds);
    }

pub adding-found : (start now : HostTree) (items : List TailItem) (host k node c : ℕ) (d : TailItem) → IsAdding start now items host k node → k < length items
    → child_in now.children node (get_or items (length items - 1 - k) d).word ≡ Some c → IsAdding start now items host (k + 1) c
adding-found start now items host k node c d is low found =
    let word = (get_or items (length items - 1 - k) d).word in
    let ws = drop (length items - k) (item_words items) in
    let step = words-step items k d low in
    record {
      tree = is.tree;
      here = ap (words_node (child_in now.children)) step ∙ node-more (child_in now.children) node word ws (Some c) is.here found;
      runs = λ hosts holds. subst (λ vs. HoldsRuns now (hosts ++ record { end = host; run = vs } ∷ [])) (sym step) (run-found (child_in now.children) now.hosts.items node word host c ws is.here found hosts (is.runs hosts holds));
    }

pub adding-added : (start now new : HostTree) (items : List TailItem) (host k node c : ℕ) (d : TailItem) → IsAdding start now items host k node → k < length items
    → child_in now.children node (get_or items (length items - 1 - k) d).word ≡ None → AddsChild now new node (get_or items (length items - 1 - k) d).word host c → IsAdding start new items host (k + 1) c
adding-added start now new items host k node c d is low none adds =
    let word = (get_or items (length items - 1 - k) d).word in
    let ws = drop (length items - k) (item_words items) in
    let step = words-step items k d low in
    let ends = now.hosts.items in
    let child = child_in now.children in
    let child' = child_in new.children in
    let added : (n w : ℕ) → child' n w ≡ cond (eqb n node && eqb w word) (Some (length ends)) (child n w) = λ n w. adds.children n w ∙ ap (λ m. cond (eqb n node && eqb w word) (Some m) (child n w)) adds.number in
    record {
      tree = subst (λ es. AreNodes child' (length es)) (sym adds.hosts) (nodes-added child child' ends node word host ws is.tree is.here none added);
      here = ap (words_node child') step ∙ node-added child child' ends node word host ws is.tree is.here none added ∙ ap Some (sym adds.number);
      runs = λ hosts holds. subst (λ es. HoldsHosts child' es (hosts ++ record { end = host; run = drop (length items - (k + 1)) (item_words items) } ∷ [])) (sym adds.hosts)
          (subst (λ vs. HoldsHosts child' (ends ++ host ∷ []) (hosts ++ record { end = host; run = vs } ∷ [])) (sym step) (run-added child child' ends node word host ws is.tree is.here none added hosts (is.runs hosts holds)));
    }

pub adding-done : (start now : HostTree) (items : List TailItem) (host k node : ℕ) → IsAdding start now items host k node → length items ≤ k → (hosts : List HostRun) → HoldsRuns start hosts → HoldsRuns now (hosts ++ record { end = host; run = item_words items } ∷ [])
adding-done start now items host k node is high hosts holds =
    let none : length items - k ≡ 0 = omega (arith, high) in
    subst (λ n. HoldsRuns now (hosts ++ record { end = host; run = drop n (item_words items) } ∷ [])) none (is.runs hosts holds)

-- ---- the loop that looks for a tail

pub found-index : (tree : HostTree) → IsHostTree tree → (ws : List ℕ) (node : ℕ) → words_node (child_in tree.children) ws ≡ Some node → node < length tree.hosts.items
found-index tree nodes ws node is = node-within (child_in tree.children) (length tree.hosts.items) nodes ws node is

-- the node of so many last words, and none of one more
pub deepest-none : (tree : HostTree) (items : List TailItem) (k node : ℕ) (d : TailItem) → words_node (child_in tree.children) (drop (length items - k) (item_words items)) ≡ Some node → k < length items
    → child_in tree.children node (get_or items (length items - 1 - k) d).word ≡ None → (hosts : List HostRun) → HoldsRuns tree hosts
    → IsDeepest hosts (item_words items) (record { host = get_or tree.hosts.items node 0; count = k })
deepest-none tree items k node d here low none hosts holds =
    let same = length-map items (λ (u : TailItem). u.word) in
    let ws = drop (length items - k) (item_words items) in
    let left : length (item_words items) - k ≡ length items - k = omega (arith, same) in
    let left' : length (item_words items) - (k + 1) ≡ length items - (k + 1) = omega (arith, same) in
    let count = length-drop (length items - k) (item_words items) in
    record {
      within = omega (arith, same, low);
      first = λ some. ap (λ n. first_host hosts (drop n (item_words items))) left ∙ first-found (child_in tree.children) tree.hosts.items hosts holds ws node here (omega (arith, some, count, same, low));
      no_more = λ more. ap (λ n. first_host hosts (drop n (item_words items))) left' ∙ ap (first_host hosts) (words-step items k d low)
          ∙ none-found (child_in tree.children) tree.hosts.items hosts holds (get_or items (length items - 1 - k) d).word ws node here none;
    }

pub deepest-all : (tree : HostTree) (items : List TailItem) (k node : ℕ) → words_node (child_in tree.children) (drop (length items - k) (item_words items)) ≡ Some node → length items ≤ k → (hosts : List HostRun) → HoldsRuns tree hosts
    → IsDeepest hosts (item_words items) (record { host = get_or tree.hosts.items node 0; count = length items })
deepest-all tree items k node here high hosts holds =
    let same = length-map items (λ (u : TailItem). u.word) in
    let none : length items - k ≡ 0 = omega (arith, high) in
    let none' : length (item_words items) - length items ≡ 0 = omega (arith, same) in
    let all = ap (λ n. words_node (child_in tree.children) (drop n (item_words items))) (sym none) ∙ here in
    record {
      within = omega (arith, same);
      first = λ some. ap (λ n. first_host hosts (drop n (item_words items))) none' ∙ first-found (child_in tree.children) tree.hosts.items hosts holds (item_words items) node all (omega (arith, some, same));
      no_more = λ more. absurd (omega (arith, more, same));
    }
