-- The runs of hosts as a tree. A run is the items up to an end that can stand in a tail with it; here it is the list of their words.
use Rattle.std.specs.Prelude.{◌≡◌, ◌<◌, ◌≤◌, ℕ, ◌+◌, ◌-◌, ◌*◌, ◌^◌, Bool, ◌&&◌, ◌||◌, ◌==◌, nat_eq, nat_lt, if◌then◌else◌, List, [], ◌∷◌, ◌++◌, drop, length, map, slice_index_or, Option, Some, None}
use Rattle.std.specs.BTreeMap.{BTreeMap, get}
use Rattle.std.specs.Cmp.Lexicographic.{pointwise}
use Rattle.std.specs.Option.{option_and_then, option_map}
use Rattle.std.specs.Ordering.{nat_cmp}
use Rattle.tail_merge.specs.declared.host_tree.FoundHost.{FoundHost}
use Rattle.tail_merge.specs.declared.host_tree.HostTree.{HostTree}
use Rattle.tail_merge.specs.declared.tail_item.TailItem.{TailItem}

-- the words of items
abbrev pub item_words : List TailItem → List ℕ
item_words items = map (λ t. t.word) items

-- ---- what a tree stands for

-- a host: the number of the item that ends it, and its run
pub record HostRun : Type 0 where
  pub end : ℕ
  pub run : List ℕ

-- words are the last ones of others
abbrev pub are_last : List ℕ → List ℕ → Bool
are_last ws [] = pointwise nat_eq ws []
are_last ws (v ∷ vs) = pointwise nat_eq ws (v ∷ vs) || are_last ws vs

-- the first of some hosts whose run ends with these words
abbrev pub first_host : List HostRun → List ℕ → Option ℕ
first_host [] ws = None
first_host (h ∷ hs) ws = if are_last ws h.run then Some h.end else first_host hs ws

-- ---- nodes

-- a node's child by one more word, which is less than 2 ^ 32
abbrev pub child_in : BTreeMap ℕ ℕ → ℕ → ℕ → Option ℕ
child_in children node word = if nat_lt word (2 ^ 32) then get nat_cmp children (node * 2 ^ 32 + word) else None

-- the node of words, from the last one on
abbrev pub words_node : (ℕ → ℕ → Option ℕ) → List ℕ → Option ℕ
words_node child [] = Some 0
words_node child (w ∷ ws) = option_and_then (λ n. child n w) (words_node child ws)

-- children are among so many nodes, and no two lists of words have the same node
pub record AreNodes (child : ℕ → ℕ → Option ℕ) (count : ℕ) : Type 0 where
  pub root : 0 < count
  pub within : (n w c : ℕ) → child n w ≡ Some c → c < count
  pub parent : (n w c : ℕ) → child n w ≡ Some c → n < count
  pub alone : (ws vs : List ℕ) (n : ℕ) → words_node child ws ≡ Some n → words_node child vs ≡ Some n → ws ≡ vs

abbrev pub IsHostTree : HostTree → Type 0
IsHostTree tree = AreNodes (child_in tree.children) (length tree.hosts.items)

-- each node has the first host whose run ends with the node's words, and words without a node end no host's run
abbrev pub HoldsHosts : (ℕ → ℕ → Option ℕ) → List ℕ → List HostRun → Type 0
HoldsHosts child ends hosts =
    (w : ℕ) (ws : List ℕ) → option_map (λ n. slice_index_or ends n 0) (words_node child (w ∷ ws)) ≡ first_host hosts (w ∷ ws)

abbrev pub HoldsRuns : HostTree → List HostRun → Type 0
HoldsRuns tree hosts = HoldsHosts (child_in tree.children) tree.hosts.items hosts

-- a child was added to a node, with the host that it is of
pub record AddsChild (old new : HostTree) (node word host child : ℕ) : Type 0 where
  pub hosts : new.hosts.items ≡ old.hosts.items ++ host ∷ []
  pub number : child ≡ length old.hosts.items
  pub children :
      (n w : ℕ) → child_in new.children n w ≡ (if n == node && w == word then Some child else child_in old.children n w)

-- so many of the last words are the last ones of a host's run, that of the first such host, and one more are of none
pub record IsDeepest (hosts : List HostRun) (words : List ℕ) (found : FoundHost) : Type 0 where
  pub within : found.count ≤ length words
  pub first : 0 < found.count → first_host hosts (drop (length words - found.count) words) ≡ Some found.host
  pub no_more : found.count < length words → first_host hosts (drop (length words - (found.count + 1)) words) ≡ None

-- so many of the last items of a host's run were added: they have this node
pub record IsAdding (start now : HostTree) (items : List TailItem) (host k node : ℕ) : Type 0 where
  pub tree : IsHostTree now
  pub here : words_node (child_in now.children) (drop (length items - k) (item_words items)) ≡ Some node
  pub runs :
      (hosts : List HostRun) → HoldsRuns start hosts
      → HoldsRuns now (hosts ++ record { end = host; run = drop (length items - k) (item_words items) } ∷ [])
