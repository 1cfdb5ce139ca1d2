-- The sections whose nodes are reached are those that are needed.
use Rattle.std.proofs.Common.{◌≡◌, ℕ, zero, suc, ◌+◌, ◌<◌, ◌⊎◌, inl, inr, List, [], ◌∷◌, ◌++◌, length, map, filter, get_or, refl, sym, ap, ◌∙◌, subst, arith, Bool, true, false, cond, Option, Some, None, slice_get}
use Rattle.std.specs.Prelude.{◌||◌, not, All, Contains, Vec}
use Rattle.std.specs.List.{enumerate_from, flat_map}
use Rattle.std.specs.Option.{option_map, option_map_or, unwrap_or}
use Rattle.std.specs.declared.alloc.Global.{Global}
use Rattle.std.proofs.lemmas.Bool.{and_from, and_parts, or_left, or_right}
use Rattle.std.proofs.lemmas.List.{length-map}
use Rattle.std.proofs.lemmas.List.Elements.{All-append, All-cons, All-nil, Contains-append_cases, Contains-append_left, Contains-append_right}
use Rattle.std.proofs.lemmas.Option.{slice_get-map, slice_get_within}
use Rattle.zc_base.specs.declared.place.Place.{Place}
use Rattle.elf32_read.specs.Parts.{SectionParts, is_code_section, is_kept_section}
use Rattle.elf32_read.specs.declared.reloc.Reloc.{Reloc}
use Rattle.psabi_reloc.specs.Kinds.{kind_of}
use Rattle.psabi_sym.specs.Data.{class_of, role_of}
use Rattle.psabi_sym.specs.Fixed.{is_fixed, is_fixed_at}
use Rattle.psabi_sym.specs.Indexed.{IndexedSection, all_sections, section_at}
use Rattle.psabi_sym.specs.Inputs.{Inputs, ParsedInputs, parsed}
use Rattle.psabi_sym.specs.declared.section_row.SectionRole.TheVariants as role
use Rattle.psabi_sym.specs.declared.target.Target.{Target}
use Rattle.psabi_sym.specs.declared.target.Target.TheVariants as target
use Rattle.psabi_sym.proofs.SectionNumbers.{listed_at, number_of_section}
use Rattle.block_cut.specs.Faults.{first_fault, relocs_fault}
use Rattle.block_cut.proofs.FaultLaws.{faultless}
use Rattle.block_cut.specs.Items.{entry_in, entry_of, target_of}
use Rattle.block_cut.specs.Relocs.{is_ignored}
use Rattle.block_cut.specs.Resolved.{asks}
use Rattle.reach.specs.Reach.{AreInside, Edge, MarksReached, Reached, Root, edges_of, mark_of}
use Rattle.section_gc.specs.Graph.{is_data_role, is_root, has_mark, node_of, nodes_at, reloc_nodes, root_nodes_from, section_nodes, target_nodes}
use Rattle.section_gc.specs.Kept.{AreNeeded, Data, Fixed, Needed, Referred, Start}
use Rattle.section_gc.proofs.Closed.{IsKeptThere}
use Rattle.section_gc.proofs.ClosedLaws.{needed-there}
use Rattle.section_gc.proofs.EdgeLaws.{node-is}

-- ---- elements of lists that are put together

module _ {X Y : Type 0} (f : X → List Y) where
  contains-flat : (xs : List X) (x : X) (k : ℕ) (y : Y) → k < length xs → get_or xs k x ≡ x → Contains (f x) y → Contains (flat_map f xs) y
  contains-flat [] x k y lt is its = absurd (omega arith)
  contains-flat (z ∷ xs) x zero y lt is its = Contains-append_left (f z) (flat_map f xs) y (subst (λ w. Contains (f w) y) (sym is) its)
  contains-flat (z ∷ xs) x (suc k) y lt is its = Contains-append_right (f z) (flat_map f xs) y (contains-flat xs x k y (omega arith) is its)

  record FromOne (xs : List X) (y : Y) : Type 0 where
    one : X
    its : Contains xs one
    gives : Contains (f one) y

  flat-contains : (xs : List X) (y : Y) → Contains (flat_map f xs) y → FromOne xs y
  flat-contains [] y its = absurd (let lt = its.1 in omega (arith, lt))
  flat-contains (x ∷ xs) y its = by (λ h. flat-contains xs y h) (Contains-append_cases (f x) (flat_map f xs) y its)
    where
      by : (Contains (flat_map f xs) y → FromOne xs y) → Contains (f x) y ⊎ Contains (flat_map f xs) y → FromOne (x ∷ xs) y
      by rest (inl here) = record { one = x; its = (0, omega arith, refl); gives = here }
      by rest (inr there) =
          let r = rest there in
          record { one = r.one; its = (suc r.its.0, (let lt = r.its.1 in omega arith), r.its.2); gives = r.gives }

none-contains : {X : Type 0} (x : X) → Contains [] x → ⊥
none-contains x its = let lt = its.1 in omega (arith, lt)

one-contains : (x y : ℕ) → Contains (x ∷ []) y → x ≡ y
one-contains x y its = by its.0 its.1 its.2
  where
    by : (k : ℕ) → k < 1 → get_or (x ∷ []) k y ≡ y → x ≡ y
    by zero lt is = is
    by (suc k) lt is = absurd (omega arith)

-- ---- sections of data

data-kept : (s : SectionParts) → is_data_role (role_of s) ≡ true → (is_kept_section s ≡ true) × (is_code_section s ≡ false)
unfolding role_of
data-kept s is = by (is_code_section s) (is_kept_section s) is
  where
    by : (c k : Bool) → is_data_role (cond c role.Code (cond k (role.InClass (class_of s)) role.Dropped)) ≡ true → (k ≡ true) × (c ≡ false)
    by true k h = absurd cc
    by false true h = (refl, refl)
    by false false h = absurd cc

kept-data : (s : SectionParts) → is_kept_section s ≡ true → is_code_section s ≡ false → is_data_role (role_of s) ≡ true
unfolding role_of
kept-data s kept plain = (λ i. is_data_role (cond (plain i) role.Code (cond (kept i) (role.InClass (class_of s)) role.Dropped)))

-- ---- sections that are needed by themselves

record IsRootNode (fixed : List (List ℕ)) (n : ℕ) (ls : List IndexedSection) (node : ℕ) : Type 0 where
  k : ℕ
  node_is : node ≡ n + k
  section : IndexedSection
  at : slice_get ls k ≡ Some section
  by_itself : is_root fixed section.section ≡ true

module _ (fixed : List (List ℕ)) where
  -- the nodes of a section and of later ones, by whether it is needed by itself
  abbrev with-first : Bool → ℕ → IndexedSection → List IndexedSection → List ℕ
  with-first b n l ls =
      map (λ (e : ℕ × IndexedSection). e.0) (cond b ((n, l) ∷ filter (λ e. is_root fixed e.1.section) (enumerate_from (n + 1) ls)) (filter (λ e. is_root fixed e.1.section) (enumerate_from (n + 1) ls)))

  root-nodes : (n : ℕ) (ls : List IndexedSection) (node : ℕ) → Contains (root_nodes_from fixed n ls) node → IsRootNode fixed n ls node
  root-nodes n [] node its = absurd (none-contains node its)
  root-nodes n (l ∷ ls) node its = by (λ h. root-nodes (n + 1) ls node h) (is_root fixed l.section) refl its
    where
      later : IsRootNode fixed (n + 1) ls node → IsRootNode fixed n (l ∷ ls) node
      later d = record { k = suc d.k; node_is = omega (arith, d.node_is); section = d.section; at = d.at; by_itself = d.by_itself }

      by : (Contains (root_nodes_from fixed (n + 1) ls) node → IsRootNode fixed (n + 1) ls node) → (b : Bool) → is_root fixed l.section ≡ b
          → Contains (with-first b n l ls) node → IsRootNode fixed n (l ∷ ls) node
      by rest false is its = later (rest its)
      by rest true is its = first its.0 its.1 its.2
        where
          first : (j : ℕ) → j < length (n ∷ root_nodes_from fixed (n + 1) ls) → get_or (n ∷ root_nodes_from fixed (n + 1) ls) j node ≡ node → IsRootNode fixed n (l ∷ ls) node
          first zero lt same = record { k = 0; node_is = omega (arith, same); section = l; at = refl; by_itself = is }
          first (suc j) lt same = later (rest (j, omega (arith, lt), same))

  root-among : (n : ℕ) (ls : List IndexedSection) (k : ℕ) (l : IndexedSection) → slice_get ls k ≡ Some l → is_root fixed l.section ≡ true → Contains (root_nodes_from fixed n ls) (n + k)
  root-among n [] k l at is = absurd cc
  root-among n (m ∷ ls) zero l at is =
      let same : m ≡ l = cc in
      let root : is_root fixed m.section ≡ true = ap (λ (x : IndexedSection). is_root fixed x.section) same ∙ is in
      subst (λ b. Contains (with-first b n m ls) (n + 0)) (sym root) (0, omega arith, omega arith)
  root-among n (m ∷ ls) (suc k) l at is = by (is_root fixed m.section) (subst (Contains (root_nodes_from fixed (n + 1) ls)) (omega arith) (root-among (n + 1) ls k l at is))
    where
      by : (b : Bool) → Contains (root_nodes_from fixed (n + 1) ls) (n + suc k) → Contains (with-first b n m ls) (n + suc k)
      by true its = Contains-append_right (n ∷ []) (root_nodes_from fixed (n + 1) ls) (n + suc k) its
      by false its = its

-- ---- the graph

module _ (inputs : ParsedInputs) (graph : List (Vec ℕ Global)) (edges : map (λ (v : Vec ℕ Global). v.items) graph ≡ map (section_nodes inputs) (all_sections inputs.objects)) where
  pub nodes-are : length graph ≡ length (all_sections inputs.objects)
  nodes-are = sym (length-map graph (λ (v : Vec ℕ Global). v.items)) ∙ ap length edges ∙ length-map (all_sections inputs.objects) (section_nodes inputs)

  got : (k : ℕ) → option_map (λ (v : Vec ℕ Global). v.items) (slice_get graph k) ≡ option_map (section_nodes inputs) (slice_get (all_sections inputs.objects) k)
  got k = sym (slice_get-map (λ (v : Vec ℕ Global). v.items) graph k) ∙ ap (λ ls. slice_get ls k) edges ∙ slice_get-map (section_nodes inputs) (all_sections inputs.objects) k

  edges-at : (k : ℕ) (l : IndexedSection) → slice_get (all_sections inputs.objects) k ≡ Some l → edges_of graph k ≡ section_nodes inputs l
  edges-at k l at = by (slice_get graph k) (got k ∙ ap (option_map (section_nodes inputs)) at)
    where
      by : (o : Option (Vec ℕ Global)) → option_map (λ (v : Vec ℕ Global). v.items) o ≡ Some (section_nodes inputs l) → option_map_or (λ (v : Vec ℕ Global). v.items) o [] ≡ section_nodes inputs l
      by None e = absurd cc
      by (Some v) e = let same : v.items ≡ section_nodes inputs l = cc in same

  -- ---- each edge leads to a node

  abbrev IsNode : ℕ → Type 0
  IsNode k = k < length graph

  number-node : (o i : ℕ) (s : SectionParts) → section_at inputs.objects o i ≡ Some s → node_of inputs.objects o i < length graph
  number-node o i s at =
      let number = number_of_section inputs.objects o i s at in
      let within = slice_get_within (all_sections inputs.objects) number.0 (record { object = o; index = i; section = s }) number.1 in
      omega (arith, node-is inputs.objects number.0 (record { object = o; index = i; section = s }) number.1, within, nodes-are)

  nodes-inside : (o i : ℕ) → All IsNode (nodes_at inputs.objects o i)
  nodes-inside o i = by (section_at inputs.objects o i) refl
    where
      by : (s : Option SectionParts) → section_at inputs.objects o i ≡ s → All IsNode (option_map_or (λ _. node_of inputs.objects o i ∷ []) s [])
      by None at = All-nil IsNode
      by (Some s) at = All-cons IsNode (node_of inputs.objects o i) [] (number-node o i s at) (All-nil IsNode)

  target-inside : (t : Target) → All IsNode (target_nodes inputs.objects t)
  target-inside (target.Code q) = nodes-inside q.object q.section
  target-inside (target.Number n) = All-nil IsNode
  target-inside (target.Absent n) = All-nil IsNode
  target-inside target.Nowhere = All-nil IsNode

  reloc-inside : (o : ℕ) (r : Reloc) → All IsNode (reloc_nodes inputs o r)
  reloc-inside o r = by (asks r)
    where
      by : (b : Bool) → All IsNode (cond b (target_nodes inputs.objects (target_of inputs o r)) [])
      by true = target-inside (target_of inputs o r)
      by false = All-nil IsNode

  all-inside : (o : ℕ) (rs : List Reloc) → All IsNode (flat_map (reloc_nodes inputs o) rs)
  all-inside o [] = All-nil IsNode
  all-inside o (r ∷ rs) = All-append IsNode (reloc_nodes inputs o r) (flat_map (reloc_nodes inputs o) rs) (reloc-inside o r) (all-inside o rs)

  pub edges-inside : AreInside graph
  edges-inside k = by (slice_get graph k) (slice_get (all_sections inputs.objects) k) (got k)
    where
      by : (o : Option (Vec ℕ Global)) (l : Option IndexedSection) → option_map (λ (v : Vec ℕ Global). v.items) o ≡ option_map (section_nodes inputs) l → All IsNode (option_map_or (λ (v : Vec ℕ Global). v.items) o [])
      by None l e = All-nil IsNode
      by (Some v) None e = absurd cc
      by (Some v) (Some l) e = let same : section_nodes inputs l ≡ v.items = cc in subst (All IsNode) same (all-inside l.object l.section.relocs)

  roots-within : (n : ℕ) (ls : List IndexedSection) → All (λ k. k < n + length ls) (root_nodes_from inputs.fixed n ls)
  roots-within n [] = All-nil (λ k. k < n + 0)
  roots-within n (l ∷ ls) = by (is_root inputs.fixed l.section) (subst (λ m. All (λ k. k < m) (root_nodes_from inputs.fixed (n + 1) ls)) (omega arith) (roots-within (n + 1) ls))
    where
      by : (b : Bool) → All (λ k. k < n + suc (length ls)) (root_nodes_from inputs.fixed (n + 1) ls) → All (λ k. k < n + suc (length ls)) (with-first inputs.fixed b n l ls)
      by true rest = All-cons (λ k. k < n + suc (length ls)) n (root_nodes_from inputs.fixed (n + 1) ls) (omega arith) rest
      by false rest = rest

  abbrev pub roots : Place → List ℕ
  roots entry = nodes_at inputs.objects entry.object entry.section ++ root_nodes_from inputs.fixed 0 (all_sections inputs.objects)

  pub roots-inside : (entry : Place) → All IsNode (roots entry)
  roots-inside entry =
      All-append IsNode (nodes_at inputs.objects entry.object entry.section) (root_nodes_from inputs.fixed 0 (all_sections inputs.objects)) (nodes-inside entry.object entry.section)
      (subst (λ m. All (λ k. k < m) (root_nodes_from inputs.fixed 0 (all_sections inputs.objects))) (let same : 0 + length (all_sections inputs.objects) ≡ length graph = omega (arith, nodes-are) in same) (roots-within 0 (all_sections inputs.objects)))

  -- ---- what is reached is needed, and what is needed is reached

  module _ (fine : relocs_fault inputs ≡ None) (entry : Place) (starts : entry_in inputs ≡ Some entry) where
    nodes-there : (o i : ℕ) (s : SectionParts) → section_at inputs.objects o i ≡ Some s → Contains (nodes_at inputs.objects o i) (node_of inputs.objects o i)
    nodes-there o i s at = subst (λ x. Contains (option_map_or (λ _. node_of inputs.objects o i ∷ []) x []) (node_of inputs.objects o i)) (sym at) (0, omega arith, refl)

    refers-node : (o : ℕ) (r : Reloc) (to : Place) → is_ignored (kind_of r.kind) ≡ false → target_of inputs o r ≡ target.Code to → IsKeptThere inputs to.object to.section → Contains (reloc_nodes inputs o r) (node_of inputs.objects to.object to.section)
    refers-node o r to asked leads there =
        subst (λ l. Contains l (node_of inputs.objects to.object to.section))
        (sym (ap (λ b. cond b (target_nodes inputs.objects (target_of inputs o r)) []) (ap not asked) ∙ ap (target_nodes inputs.objects) leads))
        (nodes-there to.object to.section there.section there.at)

    -- what is needed by itself is reached
    rooted : (x y : ℕ) (s : SectionParts) → section_at inputs.objects x y ≡ Some s → is_root inputs.fixed s ≡ true → Reached graph (roots entry) (node_of inputs.objects x y)
    rooted x y s at root =
        let number = number_of_section inputs.objects x y s at in
        let here = node-is inputs.objects number.0 (record { object = x; index = y; section = s }) number.1 in
        let its = root-among inputs.fixed 0 (all_sections inputs.objects) number.0 (record { object = x; index = y; section = s }) number.1 root in
        let same : 0 + number.0 ≡ node_of inputs.objects x y = omega (arith, here) in
        Root (node_of inputs.objects x y)
        (Contains-append_right (nodes_at inputs.objects entry.object entry.section) (root_nodes_from inputs.fixed 0 (all_sections inputs.objects)) (node_of inputs.objects x y) (subst (Contains (root_nodes_from inputs.fixed 0 (all_sections inputs.objects))) same its))

    reached : (o i : ℕ) → Needed inputs o i → Reached graph (roots entry) (node_of inputs.objects o i)
    reached o i (Start p e) =
        let same : entry ≡ p = cc (starts, e) in
        let there = needed-there inputs fine p.object p.section (Start p e) in
        subst (λ (q : Place). Reached graph (roots q) (node_of inputs.objects p.object p.section)) (sym same)
        (Root (node_of inputs.objects p.object p.section)
        (Contains-append_left (nodes_at inputs.objects p.object p.section) (root_nodes_from inputs.fixed 0 (all_sections inputs.objects)) (node_of inputs.objects p.object p.section) (nodes-there p.object p.section there.section there.at)))
    reached o i (Data x y s at kept plain) = rooted x y s at (or_left (is_data_role (role_of s)) (is_fixed inputs.fixed s) (kept-data s kept plain))
    reached o i (Fixed x y fixed) = by (section_at inputs.objects x y) refl fixed
      where
        by : (s : Option SectionParts) → section_at inputs.objects x y ≡ s → option_map_or (is_fixed inputs.fixed) s false ≡ true → Reached graph (roots entry) (node_of inputs.objects x y)
        by None at h = absurd cc
        by (Some s) at h = rooted x y s at (or_right (is_data_role (role_of s)) (is_fixed inputs.fixed s) h)
    reached o i (Referred x y to need refers) =
        let l : IndexedSection = record { object = x; index = y; section = refers.section } in
        let number = number_of_section inputs.objects x y refers.section refers.section_is in
        let here = node-is inputs.objects number.0 l number.1 in
        let there = needed-there inputs fine to.object to.section (Referred x y to need refers) in
        Edge (node_of inputs.objects x y) (node_of inputs.objects to.object to.section) (reached x y need)
        (subst (λ ns. Contains ns (node_of inputs.objects to.object to.section)) (sym (ap (edges_of graph) here ∙ edges-at number.0 l number.1))
        (contains-flat (reloc_nodes inputs x) refers.section.relocs refers.reloc refers.its.0 (node_of inputs.objects to.object to.section) refers.its.1 refers.its.2
        (refers-node x refers.reloc to refers.asks refers.leads there)))

    -- a node is that of a section that is needed
    record IsNeededNode (node : ℕ) : Type 0 where
      object : ℕ
      index : ℕ
      node_is : node_of inputs.objects object index ≡ node
      need : Needed inputs object index

    at-node : (o i k : ℕ) → Contains (nodes_at inputs.objects o i) k → node_of inputs.objects o i ≡ k
    at-node o i k its = by (section_at inputs.objects o i) its
      where
        by : (s : Option SectionParts) → Contains (option_map_or (λ _. node_of inputs.objects o i ∷ []) s []) k → node_of inputs.objects o i ≡ k
        by None its = absurd (none-contains k its)
        by (Some s) its = one-contains (node_of inputs.objects o i) k its

    root-need : (l : IndexedSection) → section_at inputs.objects l.object l.index ≡ Some l.section → (b : Bool) → is_data_role (role_of l.section) ≡ b → (b || is_fixed inputs.fixed l.section) ≡ true → Needed inputs l.object l.index
    root-need l at true is root = let kept = data-kept l.section is in Data l.object l.index l.section at kept.0 kept.1
    root-need l at false is root = Fixed l.object l.index (ap (λ s. option_map_or (is_fixed inputs.fixed) s false) at ∙ root)

    root-needed : (k : ℕ) → Contains (roots entry) k → IsNeededNode k
    root-needed k its = by (Contains-append_cases (nodes_at inputs.objects entry.object entry.section) (root_nodes_from inputs.fixed 0 (all_sections inputs.objects)) k its)
      where
        by : Contains (nodes_at inputs.objects entry.object entry.section) k ⊎ Contains (root_nodes_from inputs.fixed 0 (all_sections inputs.objects)) k → IsNeededNode k
        by (inl its) = record { object = entry.object; index = entry.section; node_is = at-node entry.object entry.section k its; need = Start entry starts }
        by (inr its) =
            let d = root-nodes inputs.fixed 0 (all_sections inputs.objects) k its in
            let l = d.section in
            record {
              object = l.object;
              index = l.index;
              node_is = omega (arith, node-is inputs.objects d.k l d.at, d.node_is);
              need = root-need l (listed_at inputs.objects d.k l d.at) (is_data_role (role_of l.section)) refl d.by_itself;
            }

    record NodeFrom (o : ℕ) (r : Reloc) (k : ℕ) : Type 0 where
      to : Place
      asked : is_ignored (kind_of r.kind) ≡ false
      leads : target_of inputs o r ≡ target.Code to
      node_is : node_of inputs.objects to.object to.section ≡ k

    node-refers : (o : ℕ) (r : Reloc) (k : ℕ) → Contains (reloc_nodes inputs o r) k → NodeFrom o r k
    node-refers o r k its = tested (is_ignored (kind_of r.kind)) refl (target_of inputs o r) refl its
      where
        tested : (b : Bool) → is_ignored (kind_of r.kind) ≡ b → (t : Target) → target_of inputs o r ≡ t → Contains (cond (not b) (target_nodes inputs.objects t) []) k → NodeFrom o r k
        tested false a (target.Code q) e its = record { to = q; asked = a; leads = e; node_is = at-node q.object q.section k its }
        tested false a (target.Number n) e its = absurd (none-contains k its)
        tested false a (target.Absent n) e its = absurd (none-contains k its)
        tested false a target.Nowhere e its = absurd (none-contains k its)
        tested true a t e its = absurd (none-contains k its)

    needed-node : (k : ℕ) → Reached graph (roots entry) k → IsNeededNode k
    needed-node k (Root r its) = root-needed r its
    needed-node k (Edge a b from its) = step (needed-node a from)
      where
        step : IsNeededNode a → IsNeededNode b
        step n =
            let there = needed-there inputs fine n.object n.index n.need in
            let l : IndexedSection = record { object = n.object; index = n.index; section = there.section } in
            let number = number_of_section inputs.objects n.object n.index there.section there.at in
            let here = sym n.node_is ∙ node-is inputs.objects number.0 l number.1 in
            let from = flat-contains (reloc_nodes inputs n.object) there.section.relocs b (subst (λ ns. Contains ns b) (ap (edges_of graph) here ∙ edges-at number.0 l number.1) its) in
            let node = node-refers n.object from.one b from.gives in
            record {
              object = node.to.object;
              index = node.to.section;
              node_is = node.node_is;
              need = Referred n.object n.index node.to n.need (record { section = there.section; section_is = there.at; kept = there.kept; reloc = from.one; its = from.its; asks = node.asked; leads = node.leads });
            }

    -- the marks are those of what is needed
    pub marks-needed : (marks : List Bool) → MarksReached graph (roots entry) marks → AreNeeded inputs (has_mark inputs.objects marks)
    marks-needed marks found = record { all = all; only = only }
      where
        all : (o i : ℕ) → Needed inputs o i → has_mark inputs.objects marks o i ≡ true
        all o i need =
            let there = needed-there inputs fine o i need in
            and_from (option_map_or is_kept_section (section_at inputs.objects o i) false) (mark_of marks (node_of inputs.objects o i))
            (ap (λ s. option_map_or is_kept_section s false) there.at ∙ there.kept) (found.all (node_of inputs.objects o i) (reached o i need))

        only : (o i : ℕ) → has_mark inputs.objects marks o i ≡ true → Needed inputs o i
        only o i h = by (section_at inputs.objects o i) refl two.0
          where
            two : (option_map_or is_kept_section (section_at inputs.objects o i) false ≡ true) × (mark_of marks (node_of inputs.objects o i) ≡ true)
            two = and_parts (option_map_or is_kept_section (section_at inputs.objects o i) false) (mark_of marks (node_of inputs.objects o i)) h

            by : (s : Option SectionParts) → section_at inputs.objects o i ≡ s → option_map_or is_kept_section s false ≡ true → Needed inputs o i
            by None at kept = absurd cc
            by (Some s) at kept =
                let node = needed-node (node_of inputs.objects o i) (found.only (node_of inputs.objects o i) two.1) in
                let there = needed-there inputs fine node.object node.index node.need in
                let l : IndexedSection = record { object = o; index = i; section = s } in
                let m : IndexedSection = record { object = node.object; index = node.index; section = there.section } in
                let own = number_of_section inputs.objects o i s at in
                let other = number_of_section inputs.objects node.object node.index there.section there.at in
                let numbers : other.0 ≡ own.0 = sym (node-is inputs.objects other.0 m other.1) ∙ node.node_is ∙ node-is inputs.objects own.0 l own.1 in
                let same : m ≡ l = cc (sym other.1 ∙ ap (slice_get (all_sections inputs.objects)) numbers ∙ own.1) in
                moved same node.need
              where
                moved : {l m : IndexedSection} → m ≡ l → Needed inputs m.object m.index → Needed inputs l.object l.index
                moved e need = subst (λ (x : IndexedSection). Needed inputs x.object x.index) e need

-- ---- for the code

module _ (inputs : Inputs) (graph : List (Vec ℕ Global)) (nodes : List ℕ) (none : first_fault inputs ≡ None)
    (edges : map (λ (v : Vec ℕ Global). v.items) graph ≡ map (section_nodes (parsed inputs)) (all_sections (parsed inputs).objects))
    (are : nodes ≡ nodes_at (parsed inputs).objects (entry_of (parsed inputs)).object (entry_of (parsed inputs)).section ++ root_nodes_from inputs.fixed 0 (all_sections (parsed inputs).objects)) where
  pub nodes-within : All (λ k. k < length graph) nodes
  nodes-within = subst (All (λ k. k < length graph)) (sym are) (roots-inside (parsed inputs) graph edges (entry_of (parsed inputs)))

  pub found-needed : (marks : List Bool) → MarksReached graph nodes marks → AreNeeded (parsed inputs) (has_mark (parsed inputs).objects marks)
  found-needed marks found =
      let all = faultless inputs none in
      let start : entry_of (parsed inputs) ≡ all.entry = ap (λ e. unwrap_or e (record { object = 0; section = 0; offset = 0 })) all.entry_found in
      marks-needed (parsed inputs) graph edges all.relocs (entry_of (parsed inputs)) (all.entry_found ∙ ap Some (sym start)) marks (subst (λ ns. MarksReached graph ns marks) are found)

  pub marks-count : (marks : List Bool) → MarksReached graph nodes marks → length marks ≡ length (all_sections (parsed inputs).objects)
  marks-count marks found = found.size ∙ nodes-are (parsed inputs) graph edges
