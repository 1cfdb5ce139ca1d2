-- The search for removed tails does what their definition says, item by item.
use Rattle.std.proofs.Common.{◌≡◌, ℕ, zero, suc, ◌+◌, ◌-◌, ◌<◌, ◌≤◌, List, [], ◌∷◌, ◌++◌, length, map, take, drop, Bool, true, false, cond, leb, ltb, Some, refl, sym, ap, ap₂, ◌∙◌, subst, arith, get_or, inl, inr}
use Rattle.std.specs.Prelude.{◌⊎◌, not, reverse, All}
use Rattle.std.specs.List.{AllByRecursion, sum_by}
use Rattle.std.proofs.lemmas.Bool.{cases_lt}
use Rattle.std.proofs.lemmas.List.{append-nil, append_assoc, drop-map, drop-take, drop_all, drop_more, get_or-map, length-map, length-reverse, length-take-le, map_push, reverse-append, reverse-reverse, take-map}
use Rattle.std.proofs.lemmas.List.Folds.{fold-map}
use Rattle.std.proofs.lemmas.List.Elements.{All-head, All-nil, All-push, All-tail, All-take}
use Rattle.std.proofs.lemmas.List.Sorted.{IsPermutation-reverse, sum_by-IsPermutation}
use Rattle.tail_merge.specs.HostTree.{HoldsRuns, HostRun, IsDeepest, first_host, item_words}
use Rattle.tail_merge.specs.RemovedTails.{IsAmong, tail_among}
use Rattle.tail_merge.specs.TailItems.{agreeing_words, host_run, inner_tail_words, inner_words, run_words, tail_item, tail_words}
use Rattle.tail_merge.specs.TailSearch.{AreFoundUpTo, HasOwnWord, IsEndAt, IsEndBefore, ending_at}
use Rattle.tail_merge.specs.Tails.{CodeItem, bytes_of_all, ends_tail, longest_tail, removed_from, shared}
use Rattle.tail_merge.specs.declared.host_tree.FoundHost.{FoundHost}
use Rattle.tail_merge.specs.declared.host_tree.HostTree.{HostTree}
use Rattle.tail_merge.specs.declared.removed_tail.RemovedTail.{RemovedTail}
use Rattle.tail_merge.specs.declared.tail_item.TailItem.{TailItem}
use Rattle.tail_merge.proofs.CommonTails.{ShareAtMost, first-among, first_sharing, longest-first, longest-stays, none-sharing, shared-words}
use Rattle.tail_merge.proofs.WordLaws.{agreeing-length, agreeing-other, drop-reverse, last-agreeing, reverse-more}

-- ---- lists

map-reverse : {A B : Type 0} (f : A → B) (xs : List A) → map f (reverse xs) ≡ reverse (map f xs)
map-reverse f [] = refl
map-reverse f (x ∷ xs) = ap (map f) (reverse-append (x ∷ []) xs) ∙ map_push f (reverse xs) x ∙ ap (λ ys. ys ++ f x ∷ []) (map-reverse f xs) ∙ sym (reverse-append (f x ∷ []) (map f xs))

all-reverse : {A : Type 0} (P : A → Type 0) (xs : List A) → All P xs → All P (reverse xs)
all-reverse P [] all = All-nil P
all-reverse P (x ∷ xs) all = subst (All P) (sym (reverse-append (x ∷ []) xs)) (All-push P (reverse xs) x (all-reverse P xs (All-tail P x xs all)) (All-head P x xs all))

short-take : {A : Type 0} (k : ℕ) (xs : List A) → length (take k xs) ≤ k
short-take zero xs = omega arith
short-take (suc k) [] = omega arith
short-take (suc k) (x ∷ xs) = let next = short-take k xs in omega (arith, next)

inner-length : (ts : List TailItem) → length (inner_words ts) ≤ length ts
inner-length [] = omega arith
inner-length (t ∷ ts) = by (inner-length ts) t.inner
  where
    by : length (inner_words ts) ≤ length ts → (b : Bool) → length (cond b (t.word ∷ inner_words ts) []) ≤ suc (length ts)
    by next true = omega (arith, next)
    by next false = omega arith

run-length : (ts : List TailItem) → length (run_words ts) ≤ length ts
run-length [] = omega arith
run-length (t ∷ ts) = let next = inner-length ts in omega (arith, next)

ended-length : (b : Bool) (ws : List ℕ) (n : ℕ) → length ws ≤ n → length (cond b [] ws) ≤ n
ended-length true ws n low = omega arith
ended-length false ws n low = low

inner-tail-length : (ts : List TailItem) → length (inner_tail_words ts) ≤ length ts
inner-tail-length [] = omega arith
inner-tail-length (t ∷ ts) = by (ended-length t.leader (inner_tail_words ts) (length ts) (inner-tail-length ts)) t.inner
  where
    by : length (cond t.leader [] (inner_tail_words ts)) ≤ length ts → (b : Bool) → length (cond b (t.word ∷ cond t.leader [] (inner_tail_words ts)) []) ≤ suc (length ts)
    by next true = omega (arith, next)
    by next false = omega arith

tail-length : (ts : List TailItem) → length (tail_words ts) ≤ length ts
tail-length [] = omega arith
tail-length (t ∷ ts) = let next = ended-length t.leader (inner_tail_words ts) (length ts) (inner-tail-length ts) in omega (arith, next)

weaker-ends : (cs : List CodeItem) (n : ℕ) (hs : List ℕ) → AllByRecursion (IsEndBefore cs n) hs → AllByRecursion (IsEndBefore cs (n + 1)) hs
weaker-ends cs n [] all = tt
weaker-ends cs n (h ∷ hs) all = (record { before = let low = all.0.before in omega (arith, low); is_end = all.0.is_end }, weaker-ends cs n hs all.1)

ends-push : (cs : List CodeItem) (n h : ℕ) (hs : List ℕ) → AllByRecursion (IsEndBefore cs n) hs → IsEndBefore cs n h → AllByRecursion (IsEndBefore cs n) (hs ++ h ∷ [])
ends-push cs n h [] all one = (one, tt)
ends-push cs n h (g ∷ hs) all one = (all.0, ends-push cs n h hs all.1 one)

-- ---- the items of a section

module _ (cs : List CodeItem) (own : All HasOwnWord cs) where
  before-items : (n : ℕ) → reverse (take n (map tail_item cs)) ≡ map tail_item (reverse (take n cs))
  before-items n = ap reverse (take-map tail_item n cs) ∙ sym (map-reverse tail_item (take n cs))

  own-before : (n : ℕ) → All HasOwnWord (reverse (take n cs))
  own-before n = all-reverse HasOwnWord (take n cs) (All-take HasOwnWord n cs own)

  share-is : (n h : ℕ) → IsEndAt cs n → IsEndAt cs h
      → shared (ending_at cs n) (ending_at cs h) ≡ agreeing_words (tail_words (reverse (take (n + 1) (map tail_item cs)))) (run_words (reverse (take (h + 1) (map tail_item cs))))
  share-is n h a b =
      ap₂ shared a.here b.here ∙ shared-words a.end b.end (reverse (take n cs)) (reverse (take h cs)) a.ends b.ends (own-before n) (own-before h)
      ∙ ap₂ (λ xs ys. agreeing_words (tail_words xs) (run_words ys)) (sym (before-items (n + 1) ∙ ap (map tail_item) a.here)) (sym (before-items (h + 1) ∙ ap (map tail_item) b.here))

  module _ (n : ℕ) (inside : n < length cs) (at : IsEndAt cs n) (hosts : List ℕ) (are : AllByRecursion (IsEndBefore cs n) hosts) where
    -- what of the end's tail can be removed
    abbrev own_words : List ℕ
    own_words = tail_words (reverse (take (n + 1) (map tail_item cs)))

    abbrev runs_of : List ℕ → List HostRun
    runs_of hs = map (host_run (map tail_item cs)) hs

    first-same : (k : ℕ) → k ≤ length own_words → (hs : List ℕ) → AllByRecursion (IsEndBefore cs n) hs → first_host (runs_of hs) (reverse (take k own_words)) ≡ first_sharing (ending_at cs n) (ending_at cs) k hs
    first-same k low [] all = refl
    first-same k low (h ∷ hs) all =
        ap (λ b. cond b (Some h) (first_host (runs_of hs) (reverse (take k own_words)))) (last-agreeing own_words (run_words (reverse (take (h + 1) (map tail_item cs)))) k low ∙ ap (leb k) (sym (share-is n h at all.0.is_end)))
        ∙ ap (λ o. cond (leb k (shared (ending_at cs n) (ending_at cs h))) (Some h) o) (first-same k low hs all.1)

    -- none shares more than can be removed
    at-most-all : (k : ℕ) → length own_words ≤ k → (hs : List ℕ) → AllByRecursion (IsEndBefore cs n) hs → ShareAtMost (ending_at cs n) (ending_at cs) k hs
    at-most-all k high [] all = tt
    at-most-all k high (h ∷ hs) all =
        (let same = share-is n h at all.0.is_end in let low = agreeing-length own_words (run_words (reverse (take (h + 1) (map tail_item cs)))) in omega (arith, same, low, high), at-most-all k high hs all.1)

    own-length : length own_words ≤ length (ending_at cs n)
    own-length = let low = tail-length (reverse (take (n + 1) (map tail_item cs))) in let same = ap length (before-items (n + 1)) in let count = length-map (reverse (take (n + 1) cs)) tail_item in omega (arith, low, same, count)

    module _ (found : FoundHost) (deepest : IsDeepest (runs_of hosts) (reverse own_words) found) where
      low : found.count ≤ length own_words
      low = let w = deepest.within in let same = length-reverse own_words in omega (arith, w, same)

      last-words : (k : ℕ) → k ≤ length own_words → drop (length (reverse own_words) - k) (reverse own_words) ≡ reverse (take k own_words)
      last-words k small = ap (λ m. drop (m - k) (reverse own_words)) (length-reverse own_words) ∙ drop-reverse own_words k small

      pub sharing-first : 0 < found.count → first_sharing (ending_at cs n) (ending_at cs) found.count hosts ≡ Some found.host
      sharing-first some = sym (ap (first_host (runs_of hosts)) (last-words found.count low) ∙ first-same found.count low hosts are) ∙ deepest.first some

      at-most : ShareAtMost (ending_at cs n) (ending_at cs) found.count hosts
      at-most = by (cases_lt found.count (length own_words))
        where
          by : (found.count < length own_words) ⊎ (length own_words ≤ found.count) → ShareAtMost (ending_at cs n) (ending_at cs) found.count hosts
          by (inl less) =
              let one : found.count + 1 ≤ length own_words = omega (arith, less) in
              let more : found.count < length (reverse own_words) = let same = length-reverse own_words in omega (arith, less, same) in
              none-sharing (ending_at cs n) (ending_at cs) found.count hosts (sym (ap (first_host (runs_of hosts)) (last-words (found.count + 1) one) ∙ first-same (found.count + 1) one hosts are) ∙ deepest.no_more more)
          by (inr all) = at-most-all found.count all hosts are

      pub longest-is : longest_tail (ending_at cs n) (map (ending_at cs) hosts) ≡ tail_among cs (record { end = n; host = found.host; count = found.count })
      longest-is = by found.count refl
        where
          by : (k : ℕ) → found.count ≡ k → longest_tail (ending_at cs n) (map (ending_at cs) hosts) ≡ tail_among cs (record { end = n; host = found.host; count = k })
          by zero e = longest-stays (ending_at cs n) (ending_at cs) (record { tail = []; host = [] }) 0 (omega arith) hosts (subst (λ k. ShareAtMost (ending_at cs n) (ending_at cs) k hosts) e at-most)
          by (suc k) e =
              longest-first (ending_at cs n) (ending_at cs) (suc k) found.host (let all = own-length in omega (arith, e, low, all)) (record { tail = []; host = [] }) (omega arith) hosts
              (subst (λ k. ShareAtMost (ending_at cs n) (ending_at cs) k hosts) e at-most)
              (subst (λ k. first_sharing (ending_at cs n) (ending_at cs) k hosts ≡ Some found.host) e (sharing-first (omega (arith, e))))

      pub among-is : 0 < found.count → IsAmong cs (record { end = n; host = found.host; count = found.count })
      among-is some =
          let which = first-among (ending_at cs n) (ending_at cs) (IsEndBefore cs n) found.count found.host hosts are (sharing-first some) in
          let same = share-is n found.host at which.0.is_end in
          let other = agreeing-other own_words (run_words (reverse (take (found.host + 1) (map tail_item cs)))) in
          let run = run-length (reverse (take (found.host + 1) (map tail_item cs))) in
          let turned = length-reverse (take (found.host + 1) (map tail_item cs)) in
          let short = short-take (found.host + 1) (map tail_item cs) in
          let high = which.1 in
          record { end = inside; host = which.0.before; count = omega (arith, high, same, other, run, turned, short) }

-- ---- one item after another

-- what the definition gives of an end and what is behind it
end-step : (hosts : List (List CodeItem)) (before rest : List CodeItem) (c : CodeItem) → ends_tail c ≡ true
    → removed_from hosts before (c ∷ rest) ≡ cond (ltb 4 (bytes_of_all (longest_tail (c ∷ before) hosts).tail)) (longest_tail (c ∷ before) hosts ∷ removed_from hosts (c ∷ before) rest) (removed_from (hosts ++ (c ∷ before) ∷ []) (c ∷ before) rest)
end-step hosts before rest c ends =
    ap (λ b. cond (not b) (removed_from hosts (c ∷ before) rest) (cond (ltb 4 (bytes_of_all (longest_tail (c ∷ before) hosts).tail)) (longest_tail (c ∷ before) hosts ∷ removed_from hosts (c ∷ before) rest) (removed_from (hosts ++ (c ∷ before) ∷ []) (c ∷ before) rest))) ends

pub found-none : (cs : List CodeItem) (tree : HostTree) → HoldsRuns tree [] → AreFoundUpTo cs 0 tree []
found-none cs tree holds = record { hosts = []; are_ends = tt; runs = holds; among = All-nil (IsAmong cs); rest = refl }

pub found-all : (cs : List CodeItem) (n : ℕ) (tree : HostTree) (removed : List RemovedTail) → length cs ≤ n → AreFoundUpTo cs n tree removed → map (tail_among cs) removed ≡ removed_from [] [] cs
found-all cs n tree removed all found = sym (found.rest ∙ ap (λ rest. map (tail_among cs) removed ++ removed_from (map (ending_at cs) found.hosts) (reverse (take n cs)) rest) (drop_all n cs all) ∙ append-nil (map (tail_among cs) removed))

module _ (cs : List CodeItem) (n : ℕ) (inside : n < length cs) (c : CodeItem) (is : get_or cs n c ≡ c) where
  split : drop n cs ≡ c ∷ drop (n + 1) cs
  split = drop_more cs n c inside ∙ ap (λ d. d ∷ drop (n + 1) cs) is

  pub ending : ending_at cs n ≡ c ∷ reverse (take n cs)
  ending = reverse-more cs n c inside ∙ ap (λ d. d ∷ reverse (take n cs)) is

  module _ (tree : HostTree) (removed : List RemovedTail) (found : AreFoundUpTo cs n tree removed) where
    hosts : List (List CodeItem)
    hosts = map (ending_at cs) found.hosts

    -- what is no end
    pub found-passed : ends_tail c ≡ false → AreFoundUpTo cs (n + 1) tree removed
    found-passed other = record {
      hosts = found.hosts;
      are_ends = weaker-ends cs n found.hosts found.are_ends;
      runs = found.runs;
      among = found.among;
      rest = found.rest ∙ ap (λ rest. map (tail_among cs) removed ++ rest) step;
    }
      where
        step : removed_from (map (ending_at cs) found.hosts) (reverse (take n cs)) (drop n cs) ≡ removed_from (map (ending_at cs) found.hosts) (reverse (take (n + 1) cs)) (drop (n + 1) cs)
        step =
            ap (removed_from (map (ending_at cs) found.hosts) (reverse (take n cs))) split
            ∙ ap (λ b. cond (not b) (removed_from (map (ending_at cs) found.hosts) (c ∷ reverse (take n cs)) (drop (n + 1) cs)) (cond (ltb 4 (bytes_of_all (longest_tail (c ∷ reverse (take n cs)) (map (ending_at cs) found.hosts)).tail))
            (longest_tail (c ∷ reverse (take n cs)) (map (ending_at cs) found.hosts) ∷ removed_from (map (ending_at cs) found.hosts) (c ∷ reverse (take n cs)) (drop (n + 1) cs))
            (removed_from (map (ending_at cs) found.hosts ++ (c ∷ reverse (take n cs)) ∷ []) (c ∷ reverse (take n cs)) (drop (n + 1) cs)))) other
            ∙ ap (λ before. removed_from (map (ending_at cs) found.hosts) before (drop (n + 1) cs)) (sym ending)

    -- an end, by the longest tail that it shares
    module _ (ends : ends_tail c ≡ true) (t : RemovedTail) (longest_is : longest_tail (ending_at cs n) (map (ending_at cs) found.hosts) ≡ tail_among cs t) where
      end-is : (b : Bool) → ltb 4 (bytes_of_all (tail_among cs t).tail) ≡ b
          → removed_from (map (ending_at cs) found.hosts) (reverse (take n cs)) (drop n cs)
          ≡ cond b (tail_among cs t ∷ removed_from (map (ending_at cs) found.hosts) (ending_at cs n) (drop (n + 1) cs)) (removed_from (map (ending_at cs) found.hosts ++ ending_at cs n ∷ []) (ending_at cs n) (drop (n + 1) cs))
      end-is b long =
          ap (removed_from (map (ending_at cs) found.hosts) (reverse (take n cs))) split ∙ end-step (map (ending_at cs) found.hosts) (reverse (take n cs)) (drop (n + 1) cs) c ends
          ∙ ap (λ before. cond (ltb 4 (bytes_of_all (longest_tail before (map (ending_at cs) found.hosts)).tail)) (longest_tail before (map (ending_at cs) found.hosts) ∷ removed_from (map (ending_at cs) found.hosts) before (drop (n + 1) cs))
          (removed_from (map (ending_at cs) found.hosts ++ before ∷ []) before (drop (n + 1) cs))) (sym ending)
          ∙ ap (λ r. cond (ltb 4 (bytes_of_all r.tail)) (r ∷ removed_from (map (ending_at cs) found.hosts) (ending_at cs n) (drop (n + 1) cs)) (removed_from (map (ending_at cs) found.hosts ++ ending_at cs n ∷ []) (ending_at cs n) (drop (n + 1) cs))) longest_is
          ∙ ap (λ b. cond b (tail_among cs t ∷ removed_from (map (ending_at cs) found.hosts) (ending_at cs n) (drop (n + 1) cs)) (removed_from (map (ending_at cs) found.hosts ++ ending_at cs n ∷ []) (ending_at cs n) (drop (n + 1) cs))) long

      pub found-removed : IsAmong cs t → ltb 4 (bytes_of_all (tail_among cs t).tail) ≡ true → AreFoundUpTo cs (n + 1) tree (removed ++ t ∷ [])
      found-removed among long = record {
        hosts = found.hosts;
        are_ends = weaker-ends cs n found.hosts found.are_ends;
        runs = found.runs;
        among = All-push (IsAmong cs) removed t found.among among;
        rest = found.rest ∙ ap (λ rest. map (tail_among cs) removed ++ rest) (end-is true long)
            ∙ sym (append_assoc (map (tail_among cs) removed) (tail_among cs t ∷ []) (removed_from (map (ending_at cs) found.hosts) (ending_at cs n) (drop (n + 1) cs)))
            ∙ ap (λ them. them ++ removed_from (map (ending_at cs) found.hosts) (ending_at cs n) (drop (n + 1) cs)) (sym (map_push (tail_among cs) removed t));
      }

      pub found-added : (tree' : HostTree) → HoldsRuns tree' (map (host_run (map tail_item cs)) found.hosts ++ host_run (map tail_item cs) n ∷ []) → ltb 4 (bytes_of_all (tail_among cs t).tail) ≡ false → AreFoundUpTo cs (n + 1) tree' removed
      found-added tree' holds short = record {
        hosts = found.hosts ++ n ∷ [];
        are_ends = ends-push cs (n + 1) n found.hosts (weaker-ends cs n found.hosts found.are_ends) (record { before = omega arith; is_end = record { end = c; here = ending; ends = ends } });
        runs = subst (HoldsRuns tree') (sym (map_push (host_run (map tail_item cs)) found.hosts n)) holds;
        among = found.among;
        rest = found.rest ∙ ap (λ rest. map (tail_among cs) removed ++ rest) (end-is false short ∙ ap (λ hs. removed_from hs (ending_at cs n) (drop (n + 1) cs)) (sym (map_push (ending_at cs) found.hosts n)));
      }

-- ---- the bytes of a tail

sum-tail-items : (cs : List CodeItem) → sum_by (λ (t : TailItem). t.size) (map tail_item cs) ≡ bytes_of_all cs
sum-tail-items cs = fold-map (λ n (t : TailItem). n + t.size) tail_item 0 cs

-- by the items of the section
pub tail-bytes : (cs : List CodeItem) (n k : ℕ) → n < length cs → k ≤ n + 1 → sum_by (λ (t : TailItem). t.size) (drop (n + 1 - k) (take (n + 1) (map tail_item cs))) ≡ bytes_of_all (take k (ending_at cs n))
tail-bytes cs n k inside low =
    let count = length-take-le (n + 1) cs (omega (arith, inside)) in
    let turned = length-reverse (take (n + 1) cs) in
    let size : length (reverse (take (n + 1) cs)) ≡ n + 1 = turned ∙ count in
    let part : drop (n + 1 - k) (take (n + 1) cs) ≡ reverse (take k (ending_at cs n)) =
    ap (drop (n + 1 - k)) (sym (reverse-reverse (take (n + 1) cs))) ∙ ap (λ m. drop (m - k) (reverse (reverse (take (n + 1) cs)))) (sym size)
    ∙ drop-reverse (reverse (take (n + 1) cs)) k (omega (arith, size, low)) in
    ap (λ ts. sum_by (λ (t : TailItem). t.size) (drop (n + 1 - k) ts)) (take-map tail_item (n + 1) cs)
    ∙ ap (sum_by (λ (t : TailItem). t.size)) (drop-map tail_item (n + 1 - k) (take (n + 1) cs) ∙ ap (map tail_item) part)
    ∙ sum-tail-items (reverse (take k (ending_at cs n)))
    ∙ sum_by-IsPermutation (λ (c : CodeItem). c.size) (take k (ending_at cs n)) (reverse (take k (ending_at cs n))) (IsPermutation-reverse (take k (ending_at cs n)))

-- ---- the steps as the code has them

-- a part of a list
part-is : {A : Type 0} (xs : List A) (from to : ℕ) → from ≤ to → take (to - from) (drop from xs) ≡ drop from (take to xs)
part-is xs from to low = sym (drop-take from (to - from) xs) ∙ (let all : from + (to - from) ≡ to = omega (arith, low) in ap (λ n. drop from (take n xs)) all)

module _ (items : List TailItem) (cs : List CodeItem) (same : items ≡ map tail_item cs) (own : All HasOwnWord cs) (n : ℕ) (inside : n < length items) (at : IsEndAt cs n)
    (tree : HostTree) (removed : List RemovedTail) (found : AreFoundUpTo cs n tree removed) (best : FoundHost) (block : ℕ) (low : block ≤ n)
    (tail_is : item_words (drop block (take (n + 1) items)) ≡ reverse (tail_words (reverse (take (n + 1) items))))
    (few : best.count ≤ n + 1)
    (deepest : (hosts : List HostRun) → HoldsRuns tree hosts → IsDeepest hosts (item_words (take (n + 1 - block) (drop block items))) best) where
  inside-section : n < length cs
  inside-section = let size = ap length same in let count = length-map cs tail_item in omega (arith, inside, size, count)

  end-there : get_or cs n at.end ≡ at.end
  end-there = let first = reverse-more cs n at.end inside-section in let second = at.here in let both : get_or cs n at.end ∷ reverse (take n cs) ≡ at.end ∷ reverse (take n cs) = sym first ∙ second in cc

  deepest-here : IsDeepest (map (host_run (map tail_item cs)) found.hosts) (reverse (tail_words (reverse (take (n + 1) (map tail_item cs))))) best
  deepest-here =
      let words : item_words (take (n + 1 - block) (drop block items)) ≡ reverse (tail_words (reverse (take (n + 1) (map tail_item cs)))) =
      ap item_words (part-is items block (n + 1) (omega (arith, low))) ∙ tail_is ∙ ap (λ ts. reverse (tail_words (reverse (take (n + 1) ts)))) same in
      subst (λ ws. IsDeepest (map (host_run (map tail_item cs)) found.hosts) ws best) words (deepest (map (host_run (map tail_item cs)) found.hosts) found.runs)

  best-is : longest_tail (ending_at cs n) (map (ending_at cs) found.hosts) ≡ tail_among cs (record { end = n; host = best.host; count = best.count })
  best-is = longest-is cs own n inside-section at found.hosts found.are_ends best deepest-here

  bytes-are : sum_by (λ (t : TailItem). t.size) (take (n + 1 - (n + 1 - best.count)) (drop (n + 1 - best.count) items)) ≡ bytes_of_all (take best.count (ending_at cs n))
  bytes-are =
      ap (sum_by (λ (t : TailItem). t.size)) (part-is items (n + 1 - best.count) (n + 1) (omega arith) ∙ ap (λ ts. drop (n + 1 - best.count) (take (n + 1) ts)) same)
      ∙ tail-bytes cs n best.count inside-section few

  pub end-removed : ltb 4 (sum_by (λ (t : TailItem). t.size) (take (n + 1 - (n + 1 - best.count)) (drop (n + 1 - best.count) items))) ≡ true
      → AreFoundUpTo cs (n + 1) tree (removed ++ record { end = n; host = best.host; count = best.count } ∷ [])
  end-removed is =
      let long = ap (ltb 4) (sym bytes-are) ∙ is in
      found-removed cs n inside-section at.end end-there tree removed found at.ends (record { end = n; host = best.host; count = best.count }) best-is
      (among-is cs own n inside-section at found.hosts found.are_ends best deepest-here (some best.count long)) long
    where
      some : (k : ℕ) → ltb 4 (bytes_of_all (take k (ending_at cs n))) ≡ true → 0 < k
      some zero long = absurd cc
      some (suc k) long = omega arith

  pub end-added : (run : ℕ) → run ≤ n → item_words (drop run (take (n + 1) items)) ≡ reverse (run_words (reverse (take (n + 1) items)))
      → ltb 4 (sum_by (λ (t : TailItem). t.size) (take (n + 1 - (n + 1 - best.count)) (drop (n + 1 - best.count) items))) ≡ false
      → (tree' : HostTree) → ((hosts : List HostRun) → HoldsRuns tree hosts → HoldsRuns tree' (hosts ++ record { end = n; run = item_words (take (n + 1 - run) (drop run items)) } ∷ []))
      → AreFoundUpTo cs (n + 1) tree' removed
  end-added run low-run run-is is tree' adds =
      let short = ap (ltb 4) (sym bytes-are) ∙ is in
      let words : item_words (take (n + 1 - run) (drop run items)) ≡ reverse (run_words (reverse (take (n + 1) (map tail_item cs)))) =
      ap item_words (part-is items run (n + 1) (omega (arith, low-run))) ∙ run-is ∙ ap (λ ts. reverse (run_words (reverse (take (n + 1) ts)))) same in
      found-added cs n inside-section at.end end-there tree removed found at.ends (record { end = n; host = best.host; count = best.count }) best-is tree'
      (subst (λ ws. HoldsRuns tree' (map (host_run (map tail_item cs)) found.hosts ++ record { end = n; run = ws } ∷ [])) words (adds (map (host_run (map tail_item cs)) found.hosts) found.runs)) short

module _ (items : List TailItem) (cs : List CodeItem) (same : items ≡ map tail_item cs) (n : ℕ) (inside : n < length items) (d : TailItem) where
  code-item : (c : CodeItem) × ((e : CodeItem) → get_or cs n e ≡ c)
  code-item = there cs n (let size = ap length same in let count = length-map cs tail_item in omega (arith, inside, size, count))
    where
      there : (cs : List CodeItem) (n : ℕ) → n < length cs → (c : CodeItem) × ((e : CodeItem) → get_or cs n e ≡ c)
      there [] n low = absurd (omega (arith, low))
      there (c ∷ cs) zero low = (c, λ e. refl)
      there (c ∷ cs) (suc n) low = there cs n (omega (arith, low))

  inside-code : n < length cs
  inside-code = let size = ap length same in let count = length-map cs tail_item in omega (arith, inside, size, count)

  item-is : get_or items n d ≡ tail_item code-item.0
  item-is = ap (λ ts. get_or ts n d) same ∙ get_or-map tail_item cs n code-item.0 d inside-code ∙ ap tail_item (code-item.1 code-item.0)

  -- an item that ends tails, and one that doesn't
  pub is-end : (get_or items n d).ends ≡ true → IsEndAt cs n
  is-end ends = record { end = code-item.0; here = ending cs n inside-code code-item.0 (code-item.1 code-item.0); ends = ap (λ (t : TailItem). t.ends) (sym item-is) ∙ ends }

  pub no-end : (get_or items n d).ends ≡ false → (tree : HostTree) (removed : List RemovedTail) → AreFoundUpTo cs n tree removed → AreFoundUpTo cs (n + 1) tree removed
  no-end ends tree removed found = found-passed cs n inside-code code-item.0 (code-item.1 code-item.0) tree removed found (ap (λ (t : TailItem). t.ends) (sym item-is) ∙ ends)
