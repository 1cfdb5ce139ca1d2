-- Pushes and pops. A step meets the first obstacle, or makes all accesses and commits. One after another: an access changes no
-- obstacle of the rest. Together: what is saved is one write, and what is restored comes from the cells that are reached. Each
-- law that the code's proofs cite speaks of a state y, as the code has it, that is the clauses' z.
use Rattle.std.proofs.Common.{◌≡◌, ℕ, zero, suc, ◌+◌, ◌-◌, ◌*◌, ◌%◌, ◌^◌, ◌<◌, ◌≤◌, List, [], ◌∷◌, ◌++◌, length, drop, take, get_or, set, get_or-set_other, drop-cons, add-one, Bool, true, false, cond, eqb, Option, Some, None, refl, sym, ap, ap₂, ◌∙◌, arith, slice_index, length-append, length-drop, ◌⊎◌, inl, inr, ⊎_elim}
use Rattle.std.specs.Prelude.{◌&&◌, All, is_none, is_some, negsuc, slice_get}
use Rattle.std.specs.Option.{option_map, option_map_or, option_or}
use Rattle.std.proofs.lemmas.Bool.{cases_eq, cases_lt, cond-false, cond-true, eq-eqb, ne_eqb}
use Rattle.std.proofs.lemmas.List.{get_or-append_right, get_or-drop, get_or-take, get_or_append_left, length-take-le}
use Rattle.std.proofs.lemmas.List.Elements.{All-head, All-tail}
use Rattle.std.proofs.lemmas.Option.{slice_get-get_or, slice_get_past}
use Rattle.zc_base.specs.Fields.{with_word, word_bytes, word_in}
use Rattle.rv_decode.specs.Bits.{add32}
use Rattle.rv_decode.specs.Effect.{Effect, BadAccess, Commits, Misaligned, onward}
use Rattle.rv_decode.specs.Memory.{Region, byte_of, changed, extents_of, is_data, lies_in, written}
use Rattle.rv_decode.specs.State.{ZcCore, byte_in, reg_in, set_reg, word_at}
use Rattle.rv_decode.proofs.MemoryLaws.{extents-changed, lies_inside, untouched}
use Rattle.rv_decode.proofs.WriteLaws.{changed-after, written_there}
use Rattle.zc_decode.specs.Accesses.{Access, sp_after, words_below}
use Rattle.zc_decode.specs.Effect.{all_accessed, framed, reaching_all, restored, returned, saved, short_effect, zeroed}
use Rattle.zc_decode.specs.Lists.{registers_of}
use Rattle.zc_decode.specs.declared.short.Short.TheVariants.{Push, Pop, PopRet, PopRetz}
use Rattle.zc_machine.specs.Answer.{answer_of, core_after}
use Rattle.zc_machine.specs.declared.answer.Step.{Step}
use Rattle.zc_machine.specs.declared.answer.Step.TheVariants as answer
use Rattle.zc_machine.specs.Frames.{all_made, obstacle, popped, pushed, word_obstacle, words_put, words_taken}
use Rattle.zc_machine.specs.Memory.{Reaches}
use Rattle.zc_machine.specs.Step.{ZcStep, Committed, Stopped, effect_step}
use Rattle.zc_machine.specs.declared.reason.Reason.{Reason}
use Rattle.zc_machine.specs.declared.reason.Reason.TheVariants as reason
use Rattle.zc_machine.specs.declared.region.AccessKind.TheVariants.{Data}
use Rattle.zc_machine.proofs.RegionLaws.{changed-written_none, written-same}

-- ---- accesses one after another

pub all_accessed-push : (list adjust : ℕ) (xs : List Access) (z : ZcCore) → all_accessed (Push list adjust) xs z ≡ all_made saved xs z
all_accessed-push list adjust [] z = refl
all_accessed-push list adjust (a ∷ rest) z = all_accessed-push list adjust rest (saved a z)

pub all_accessed-pop : (list adjust : ℕ) (xs : List Access) (z : ZcCore) → all_accessed (Pop list adjust) xs z ≡ all_made restored xs z
all_accessed-pop list adjust [] z = refl
all_accessed-pop list adjust (a ∷ rest) z = all_accessed-pop list adjust rest (restored a z)

pub all_accessed-pop_ret : (list adjust : ℕ) (xs : List Access) (z : ZcCore) → all_accessed (PopRet list adjust) xs z ≡ all_made restored xs z
all_accessed-pop_ret list adjust [] z = refl
all_accessed-pop_ret list adjust (a ∷ rest) z = all_accessed-pop_ret list adjust rest (restored a z)

pub all_accessed-pop_retz : (list adjust : ℕ) (xs : List Access) (z : ZcCore) → all_accessed (PopRetz list adjust) xs z ≡ all_made restored xs z
all_accessed-pop_retz list adjust [] z = refl
all_accessed-pop_retz list adjust (a ∷ rest) z = all_accessed-pop_retz list adjust rest (restored a z)

-- no instruction commits by them
pub commits-saved : (xs : List Access) (z : ZcCore) → (all_made saved xs z).commits ≡ z.commits
commits-saved [] z = refl
commits-saved (a ∷ rest) z = commits-saved rest (saved a z)

pub commits-restored : (xs : List Access) (z : ZcCore) → (all_made restored xs z).commits ≡ z.commits
commits-restored [] z = refl
commits-restored (a ∷ rest) z = commits-restored rest (restored a z)

pub commits-saved_if : (b : Bool) (xs : List Access) (w z : ZcCore) → w ≡ cond b (all_made saved xs z) z → w.commits ≡ z.commits
commits-saved_if true xs w z is = ap (λ (s : ZcCore). s.commits) is ∙ commits-saved xs z
commits-saved_if false xs w z is = ap (λ (s : ZcCore). s.commits) is

pub commits-restored_if : (b : Bool) (xs : List Access) (w z : ZcCore) → w ≡ cond b (all_made restored xs z) z → w.commits ≡ z.commits
commits-restored_if true xs w z is = ap (λ (s : ZcCore). s.commits) is ∙ commits-restored xs z
commits-restored_if false xs w z is = ap (λ (s : ZcCore). s.commits) is

-- ---- obstacles

-- one access, and then the rest
step_after : (b c : Bool) (z : ZcCore) (rest go : Effect) (o : Option Reason) → effect_step rest z ≡ option_map_or Stopped o (effect_step go z) → effect_step (cond b (cond c rest BadAccess) Misaligned) z ≡ option_map_or Stopped (option_or (cond b (cond c None (Some reason.BadAccess)) (Some reason.Misaligned)) o) (effect_step go z)
step_after true true z rest go o same = same
step_after true false z rest go o same = refl
step_after false c z rest go o same = refl

-- an instruction with accesses stops at the first obstacle, and else goes on
pub effect_step-reaching_all : (xs : List Access) (z : ZcCore) (go : Effect) → effect_step (reaching_all xs z go) z ≡ option_map_or Stopped (obstacle xs z) (effect_step go z)
effect_step-reaching_all [] z go = refl
effect_step-reaching_all (a ∷ rest) z go =
    step_after (eqb (a.at % 4) 0) (lies_in is_data (extents_of z.memory) a.at 4) z (reaching_all rest z go) go (obstacle rest z) (effect_step-reaching_all rest z go)

-- obstacles depend only on where the regions lie
pub obstacle-extents : (xs : List Access) (y z : ZcCore) → extents_of y.memory ≡ extents_of z.memory → obstacle xs y ≡ obstacle xs z
obstacle-extents [] y z same = refl
obstacle-extents (a ∷ rest) y z same =
    ap₂ option_or (ap (λ es. cond (eqb (a.at % 4) 0) (cond (lies_in is_data es a.at 4) None (Some reason.BadAccess)) (Some reason.Misaligned)) same) (obstacle-extents rest y z same)

-- where there is none, there is none at the first and none at the rest
pub first_free : (p q : Option Reason) → is_none (option_or p q) ≡ true → is_none p ≡ true
first_free None q free = refl
first_free (Some reason) q free = free

pub rest_free : (p q : Option Reason) → is_none (option_or p q) ≡ true → is_none q ≡ true
rest_free None q free = free
rest_free (Some reason) q free = absurd cc

-- a word can be loaded and stored at an access
abbrev pub is_possible : Access → ZcCore → Bool
is_possible a z = eqb (a.at % 4) 0 && lies_in is_data (extents_of z.memory) a.at 4

pub free_possible : (a : Access) (z : ZcCore) → is_none (word_obstacle a.at z) ≡ true → is_possible a z ≡ true
free_possible a z free = either (eqb (a.at % 4) 0) (lies_in is_data (extents_of z.memory) a.at 4) free
  where
    either : (b c : Bool) → is_none (cond b (cond c None (Some reason.BadAccess)) (Some reason.Misaligned)) ≡ true → (b && c) ≡ true
    either true true free = refl
    either true false free = absurd cc
    either false c free = absurd cc

-- ---- words together

-- the word below an address that is no less than 4
below : (top : ℕ) → 4 ≤ top → top < 2 ^ 32 → add32 top (negsuc 3) ≡ top - 4
below top enough small = omega arith

-- all words of a part of memory for data can be loaded and stored
pub together_free :
    (rs : List ℕ) (low end n : ℕ) (z : ZcCore) → end ≡ 4 * length rs → low + end < 2 ^ 32 → low % 4 ≡ 0 → end ≤ n → (0 < n → lies_in is_data (extents_of z.memory) low n ≡ true)
    → obstacle (words_below (low + end) rs) z ≡ None
together_free [] low end n z is small aligned within lies = refl
together_free (r ∷ rs) low end n z is small aligned within lies =
    let at : add32 (low + end) (negsuc 3) ≡ low + (end - 4) = below (low + end) (omega arith) small ∙ omega arith in
    let here = cond-true (eqb ((low + (end - 4)) % 4) 0) (cond (lies_in is_data (extents_of z.memory) (low + (end - 4)) 4) None (Some reason.BadAccess)) (Some reason.Misaligned) (eq-eqb ((low + (end - 4)) % 4) 0 (omega arith))
    ∙ cond-true (lies_in is_data (extents_of z.memory) (low + (end - 4)) 4) None (Some reason.BadAccess) (lies_inside is_data (extents_of z.memory) low n (low + (end - 4)) 4 (lies (omega arith)) (omega arith) (omega arith)) in
    ap (λ t. option_or (word_obstacle t z) (obstacle (words_below t rs) z)) at
    ∙ ap₂ option_or here (together_free rs low (end - 4) n z (omega arith) (omega arith) aligned (omega arith) lies)

-- ---- a word among bytes

module _ (bytes : List ℕ) (at v : ℕ) (room : at + 4 ≤ length bytes) where
  front : length (take at bytes) ≡ at
  front = length-take-le at bytes (omega arith)

  pub length-with_word : length (with_word bytes at v) ≡ length bytes
  unfolding with_word
  length-with_word = omega (arith, length-append (take at bytes) (word_bytes v ++ drop (at + 4) bytes), front, length-drop (at + 4) bytes)

  -- behind it nothing changes
  with_word-after : (k : ℕ) → at + 4 ≤ k → get_or (with_word bytes at v) k 0 ≡ get_or bytes k 0
  unfolding with_word
  with_word-after k later =
      let back : at + 4 + (k - at - 4) ≡ k = omega arith in
      get_or-append_right (take at bytes) (word_bytes v ++ drop (at + 4) bytes) at k 0 front (omega arith)
      ∙ get_or-append_right (word_bytes v) (drop (at + 4) bytes) 4 (k - at) 0 refl (omega arith)
      ∙ get_or-drop (at + 4) bytes (k - at - 4) 0
      ∙ ap (λ j. get_or bytes j 0) back

  byte_at : (i : ℕ) → i < 4 → get_or (word_bytes v) i 0 ≡ byte_of v i
  byte_at zero lt = omega arith
  byte_at (suc zero) lt = omega arith
  byte_at (suc (suc zero)) lt = omega arith
  byte_at (suc (suc (suc zero))) lt = omega arith
  byte_at (suc (suc (suc (suc i)))) lt = absurd (omega arith)

  -- at the address are the word's bytes
  with_word-at : (i : ℕ) → i < 4 → get_or (with_word bytes at v) (at + i) 0 ≡ byte_of v i
  unfolding with_word
  with_word-at i lt =
      let same : at + i - at ≡ i = omega arith in
      get_or-append_right (take at bytes) (word_bytes v ++ drop (at + 4) bytes) at (at + i) 0 front (omega arith)
      ∙ ap (λ j. get_or (word_bytes v ++ drop (at + 4) bytes) j 0) same
      ∙ get_or_append_left (word_bytes v) (drop (at + 4) bytes) 0 i lt
      ∙ byte_at i lt

-- words that are put leave what lies behind them
words_put-after :
    (regs rs : List ℕ) (end : ℕ) (bytes : List ℕ) (k : ℕ) → end ≡ 4 * length rs → end ≤ length bytes → end ≤ k
    → get_or (words_put regs rs end bytes) k 0 ≡ get_or bytes k 0
words_put-after regs [] end bytes k is room later = refl
words_put-after regs (r ∷ rs) end bytes k is room later =
    let v = slice_index regs r in
    words_put-after regs rs (end - 4) (with_word bytes (end - 4) v) k (omega arith) (omega (arith, length-with_word bytes (end - 4) v (omega arith))) (omega arith)
    ∙ with_word-after bytes (end - 4) v (omega arith) k (omega arith)

-- ---- two writes in one

-- a write of m bytes, and one of n behind them
written-joined : (a m n : ℕ) (f g : ℕ → ℕ) → ((i : ℕ) → i < n → f (m + i) ≡ g i) → (x c : ℕ) → written a m f x (written (a + m) n g x c) ≡ written a (m + n) f x c
written-joined a m n f g given x c = by_place (cases_lt x a) (cases_lt x (a + m)) (cases_lt x (a + (m + n)))
  where
    by_place : (x < a) ⊎ (a ≤ x) → (x < a + m) ⊎ (a + m ≤ x) → (x < a + (m + n)) ⊎ (a + (m + n) ≤ x) → written a m f x (written (a + m) n g x c) ≡ written a (m + n) f x c
    by_place (inl before) second third =
        untouched a m f x (written (a + m) n g x c) (λ low high. omega (arith, low, before))
        ∙ untouched (a + m) n g x c (λ low high. omega (arith, low, before))
        ∙ sym (untouched a (m + n) f x c (λ low high. omega (arith, low, before)))
    by_place (inr low) (inl within) third = written_there a m f x (written (a + m) n g x c) low within ∙ sym (written_there a (m + n) f x c low (omega (arith, within)))
    by_place (inr low) (inr later) (inl within) =
        let same : m + (x - (a + m)) ≡ x - a = omega (arith, later) in
        untouched a m f x (written (a + m) n g x c) (λ l high. omega (arith, high, later))
        ∙ written_there (a + m) n g x c later (omega (arith, within))
        ∙ sym (given (x - (a + m)) (omega (arith, within, later)))
        ∙ ap f same
        ∙ sym (written_there a (m + n) f x c low within)
    by_place (inr low) (inr later) (inr past) =
        untouched a m f x (written (a + m) n g x c) (λ l high. omega (arith, high, later))
        ∙ untouched (a + m) n g x c (λ l high. omega (arith, high, past))
        ∙ sym (untouched a (m + n) f x c (λ l high. omega (arith, high, past)))

-- ---- a whole list

reg_in-index : (z : ZcCore) (r : ℕ) → slice_index z.regs 0 ≡ 0 → reg_in z r ≡ slice_index z.regs r
reg_in-index z r none = ⊎_elim
    (λ zero. ap (reg_in z) zero ∙ sym none ∙ ap (slice_index z.regs) (sym zero))
    (λ other. cond-false (eqb r 0) 0 (slice_index z.regs r) (ne_eqb r 0 other))
    (cases_eq r 0)

-- registers that are saved below an address are the bytes that their words make
pub saved_together :
    (rs : List ℕ) (low end : ℕ) (bytes : List ℕ) (z : ZcCore) → end ≡ 4 * length rs → low + end < 2 ^ 32 → end ≤ length bytes → slice_index z.regs 0 ≡ 0
    → all_made saved (words_below (low + end) rs) z ≡ record z { memory = changed (written low end (slice_index (words_put z.regs rs end bytes))) z.memory }
saved_together [] low end bytes z is small room none =
    let gone : changed (written low 0 (slice_index bytes)) z.memory ≡ z.memory = changed-written_none low (slice_index bytes) z.memory in
    ap (λ m. record z { memory = m }) (sym gone ∙ ap (λ n. changed (written low n (slice_index bytes)) z.memory) (sym is))
saved_together (r ∷ rs) low end bytes z is small room none =
    ap (λ t. all_made saved (words_below t rs) (saved (record { at = t; register = r }) z)) at
    ∙ saved_together rs low (end - 4) (with_word bytes (end - 4) v) y (omega arith) (omega arith) (omega (arith, long)) none
    ∙ ap (λ m. record z { memory = m }) (changed-after (written low (end - 4) given) (written (low + (end - 4)) 4 (byte_of (reg_in z r))) (written low end given) joined z.memory)
  where
    v : ℕ
    v = slice_index z.regs r

    at : add32 (low + end) (negsuc 3) ≡ low + (end - 4)
    at = below (low + end) (omega arith) small ∙ omega arith

    y : ZcCore
    y = saved (record { at = low + (end - 4); register = r }) z

    long : length (with_word bytes (end - 4) v) ≡ length bytes
    long = length-with_word bytes (end - 4) v (omega arith)

    given : ℕ → ℕ
    given = slice_index (words_put z.regs rs (end - 4) (with_word bytes (end - 4) v))

    word : (i : ℕ) → i < 4 → given (end - 4 + i) ≡ byte_of (reg_in z r) i
    word i lt =
        words_put-after z.regs rs (end - 4) (with_word bytes (end - 4) v) (end - 4 + i) (omega arith) (omega (arith, long)) (omega arith)
        ∙ with_word-at bytes (end - 4) v (omega arith) i lt
        ∙ ap (λ w. byte_of w i) (sym (reg_in-index z r none))

    joined : (x c : ℕ) → written low (end - 4) given x (written (low + (end - 4)) 4 (byte_of (reg_in z r)) x c) ≡ written low end given x c
    joined x c =
        let whole : end - 4 + 4 ≡ end = omega arith in
        written-joined low (end - 4) 4 given (byte_of (reg_in z r)) word x c ∙ ap (λ n. written low n given x c) whole

-- a word that is reached
word_reached : (z : ZcCore) (low k : ℕ) (cells : List ℕ) → Reaches Data z.memory low cells → k + 4 ≤ length cells → word_at z (low + k) ≡ word_in cells k
unfolding word_in
word_reached z low k cells reach within =
    omega (arith, byte (low + k) k refl (omega arith), byte (low + k + 1) (k + 1) (omega arith) (omega arith), byte (low + k + 2) (k + 2) (omega arith) (omega arith), byte (low + k + 3) (k + 3) (omega arith) (omega arith))
  where
    byte : (x i : ℕ) → x ≡ low + i → i < length cells → byte_in z x ≡ slice_index cells i
    byte x i is lt = ap (byte_in z) is ∙ reach.holds i lt

-- registers that are restored from below an address get the words of what is reached
pub restored_together :
    (rs : List ℕ) (low end : ℕ) (cells : List ℕ) (z : ZcCore) → end ≡ 4 * length rs → low + end < 2 ^ 32 → end ≤ length cells → All (λ r. (0 < r) × (r < 32)) rs → Reaches Data z.memory low cells
    → all_made restored (words_below (low + end) rs) z ≡ record z { regs = words_taken cells rs end z.regs }
restored_together [] low end cells z is small room known reach = refl
restored_together (r ∷ rs) low end cells z is small room known reach =
    ap (λ t. all_made restored (words_below t rs) (restored (record { at = t; register = r }) z)) at
    ∙ ap (λ regs. all_made restored (words_below (low + (end - 4)) rs) (record z { regs = regs })) given
    ∙ restored_together rs low (end - 4) cells (record z { regs = set z.regs r (word_in cells (end - 4)) }) (omega arith) (omega arith) (omega arith) (All-tail (λ r. (0 < r) × (r < 32)) r rs known) reach
  where
    at : add32 (low + end) (negsuc 3) ≡ low + (end - 4)
    at = below (low + end) (omega arith) small ∙ omega arith

    some : 0 < r
    some = (All-head (λ r. (0 < r) × (r < 32)) r rs known).0

    given : set_reg z.regs r (word_at z (low + (end - 4))) ≡ set z.regs r (word_in cells (end - 4))
    given =
        cond-false (eqb r 0) z.regs (set z.regs r (word_at z (low + (end - 4)))) (ne_eqb r 0 (λ e. omega (arith, e, some)))
        ∙ ap (set z.regs r) (word_reached z low (end - 4) cells reach (omega arith))

-- register 0 stays
pub zero_taken : (rs : List ℕ) (end : ℕ) (cells regs : List ℕ) → All (λ r. (0 < r) × (r < 32)) rs → slice_index (words_taken cells rs end regs) 0 ≡ slice_index regs 0
zero_taken [] end cells regs known = refl
zero_taken (r ∷ rs) end cells regs known =
    let some : 0 < r = (All-head (λ r. (0 < r) × (r < 32)) r rs known).0 in
    zero_taken rs (end - 4) cells (set regs r (word_in cells (end - 4))) (All-tail (λ r. (0 < r) × (r < 32)) r rs known)
    ∙ get_or-set_other regs r 0 (word_in cells (end - 4)) 0 (λ e. omega (arith, e, some))

-- ---- the same of a state y that is z, as the code has it

pub free_at :
    (rs : List ℕ) (low end top : ℕ) (y z : ZcCore) → low + end ≡ top → end ≡ 4 * length rs → top < 2 ^ 32 → low % 4 ≡ 0 → y ≡ z → (0 < end → lies_in is_data (extents_of y.memory) low end ≡ true)
    → is_none (obstacle (words_below top rs) z) ≡ true
free_at rs low end top y z sum is small aligned same lies =
    ap (λ (s : ZcCore). is_none (obstacle (words_below top rs) s)) (sym same)
    ∙ ap (λ t. is_none (obstacle (words_below t rs) y)) (sym sum)
    ∙ ap is_none (together_free rs low end end y is (omega arith) aligned (omega arith) lies)

pub restored_at :
    (rs : List ℕ) (low end top : ℕ) (cells regs : List ℕ) (y z : ZcCore) → low + end ≡ top → end ≡ 4 * length rs → top < 2 ^ 32 → end ≤ length cells → All (λ r. (0 < r) × (r < 32)) rs → Reaches Data y.memory low cells → y ≡ z
    → regs ≡ words_taken cells rs end y.regs → record y { regs = regs } ≡ all_made restored (words_below top rs) z
restored_at rs low end top cells regs y z sum is small room known reach same given =
    ap (λ regs. record y { regs = regs }) given
    ∙ sym (restored_together rs low end cells y is (omega arith) room known reach)
    ∙ ap (λ t. all_made restored (words_below t rs) y) sum
    ∙ ap (all_made restored (words_below top rs)) same

pub saved_at :
    (rs : List ℕ) (low end top : ℕ) (bytes given : List ℕ) (y z : ZcCore) (b : Bool) (memory : List (Region ℕ)) → low + end ≡ top → end ≡ 4 * length rs → top < 2 ^ 32 → end ≤ length bytes → slice_index y.regs 0 ≡ 0 → y ≡ z
    → given ≡ words_put y.regs rs end bytes → end ≤ length given → memory ≡ cond b (changed (written low (length (take end given)) (slice_index (take end given))) y.memory) y.memory
    → record y { memory = memory } ≡ cond b (all_made saved (words_below top rs) z) z
saved_at rs low end top bytes given y z false memory sum is small room none same put long wrote = ap (λ m. record y { memory = m }) wrote ∙ same
saved_at rs low end top bytes given y z true memory sum is small room none same put long wrote =
    let front : length (take end given) ≡ end = length-take-le end given long in
    ap (λ m. record y { memory = m }) (wrote
    ∙ ap (λ n. changed (written low n (slice_index (take end given))) y.memory) front
    ∙ ap (λ f. changed f y.memory) (λ i x c. written-same low end (slice_index (take end given)) (slice_index given) (λ k lt. get_or-take end given k 0 lt) x c i)
    ∙ ap (λ g. changed (written low end (slice_index g)) y.memory) put)
    ∙ sym (saved_together rs low end bytes y is (omega arith) room none)
    ∙ ap (λ t. all_made saved (words_below t rs) y) sum
    ∙ ap (all_made saved (words_below top rs)) same

pub saved_one_at :
    (at r : ℕ) (y z : ZcCore) (b : Bool) (memory : List (Region ℕ)) → at % 4 ≡ 0 → slice_index y.regs 0 ≡ 0 → y ≡ z → b ≡ lies_in is_data (extents_of y.memory) at 4
    → memory ≡ cond b (changed (written at 4 (byte_of (slice_index y.regs r))) y.memory) y.memory
    → record y { memory = memory } ≡ cond (is_possible (record { at = at; register = r }) z) (saved (record { at = at; register = r }) z) z
saved_one_at at r y z b memory aligned none same is wrote =
    either (lies_in is_data (extents_of y.memory) at 4) (wrote ∙ ap (λ c. cond c (changed (written at 4 (byte_of (slice_index y.regs r))) y.memory) y.memory) is)
    ∙ ap (λ c. cond (c && lies_in is_data (extents_of y.memory) at 4) (saved a y) y) (sym (eq-eqb (at % 4) 0 aligned))
    ∙ ap (λ (s : ZcCore). cond (is_possible a s) (saved a s) s) same
  where
    a : Access
    a = record { at = at; register = r }

    either : (c : Bool) → memory ≡ cond c (changed (written at 4 (byte_of (slice_index y.regs r))) y.memory) y.memory → record y { memory = memory } ≡ cond (true && c) (saved a y) y
    either true m = ap (λ m. record y { memory = m }) (m ∙ ap (λ w. changed (written at 4 (byte_of w)) y.memory) (sym (reg_in-index y r none)))
    either false m = ap (λ m. record y { memory = m }) m

-- ---- word by word

module _ (change : Access → ZcCore → ZcCore) (kept : (a : Access) (z : ZcCore) → extents_of (change a z).memory ≡ extents_of z.memory) where
  -- after the access of the register with an index no obstacle comes, and the rest makes what is made from there
  next_made :
      (rs : List ℕ) (i at r : ℕ) (y w : ZcCore) → i < length rs → r ≡ get_or rs i 0 → is_none (obstacle (words_below at (drop i rs)) y) ≡ true
      → w ≡ cond (is_possible (record { at = add32 at (negsuc 3); register = r }) y) (change (record { at = add32 at (negsuc 3); register = r }) y) y
      → (is_none (obstacle (words_below (add32 at (negsuc 3)) (drop (i + 1) rs)) w) ≡ true)
      × (all_made change (words_below (add32 at (negsuc 3)) (drop (i + 1) rs)) w ≡ all_made change (words_below at (drop i rs)) y)
  next_made rs i at r y w lt is free made = (
    ap is_none (ap (λ xs. obstacle (words_below next xs) w) (rest) ∙ obstacle-extents (words_below next (drop (suc i) rs)) w y (ap (λ (s : ZcCore). extents_of s.memory) now ∙ kept a y)) ∙ rest_free (word_obstacle next y) (obstacle (words_below next (drop (suc i) rs)) y) free_all,
    ap (λ xs. all_made change (words_below next xs) w) rest ∙ ap (all_made change (words_below next (drop (suc i) rs))) now ∙ sym (ap (λ xs. all_made change (words_below at xs) y) cons),
  )
    where
      next : ℕ
      next = add32 at (negsuc 3)

      a : Access
      a = record { at = next; register = r }

      rest : drop (i + 1) rs ≡ drop (suc i) rs
      rest = ap (λ k. drop k rs) (add-one i)

      cons : drop i rs ≡ r ∷ drop (suc i) rs
      cons = drop-cons rs i 0 lt ∙ ap (λ x. x ∷ drop (suc i) rs) (sym is)

      free_all : is_none (option_or (word_obstacle next y) (obstacle (words_below next (drop (suc i) rs)) y)) ≡ true
      free_all = ap (λ xs. is_none (obstacle (words_below at xs) y)) (sym cons) ∙ free

      now : w ≡ change a y
      now = made ∙ cond-true (is_possible a y) (change a y) y (free_possible a y (first_free (word_obstacle next y) (obstacle (words_below next (drop (suc i) rs)) y) free_all))

pub next_saved :
    (rs : List ℕ) (i at r : ℕ) (y w : ZcCore) → i < length rs → r ≡ get_or rs i 0 → is_none (obstacle (words_below at (drop i rs)) y) ≡ true
    → w ≡ cond (is_possible (record { at = add32 at (negsuc 3); register = r }) y) (saved (record { at = add32 at (negsuc 3); register = r }) y) y
    → (is_none (obstacle (words_below (add32 at (negsuc 3)) (drop (i + 1) rs)) w) ≡ true)
    × (all_made saved (words_below (add32 at (negsuc 3)) (drop (i + 1) rs)) w ≡ all_made saved (words_below at (drop i rs)) y)
next_saved = next_made saved (λ a z. extents-changed (written a.at 4 (byte_of (reg_in z a.register))) z.memory)

pub next_restored :
    (rs : List ℕ) (i at r : ℕ) (y w : ZcCore) → i < length rs → r ≡ get_or rs i 0 → is_none (obstacle (words_below at (drop i rs)) y) ≡ true
    → w ≡ cond (is_possible (record { at = add32 at (negsuc 3); register = r }) y) (restored (record { at = add32 at (negsuc 3); register = r }) y) y
    → (is_none (obstacle (words_below (add32 at (negsuc 3)) (drop (i + 1) rs)) w) ≡ true)
    × (all_made restored (words_below (add32 at (negsuc 3)) (drop (i + 1) rs)) w ≡ all_made restored (words_below at (drop i rs)) y)
next_restored = next_made restored (λ a z. refl)

-- the first obstacle
some_first : (p q : Option Reason) → is_some p ≡ true → option_or p q ≡ p
some_first None q some = absurd cc
some_first (Some reason) q some = refl

none_first : (p q : Option Reason) → is_some p ≡ false → option_or p q ≡ q
none_first None q none = refl
none_first (Some reason) q none = absurd cc

pub obstacle_later :
    (rs : List ℕ) (i at : ℕ) (y : ZcCore) → i < length rs → is_some (word_obstacle (add32 at (negsuc 3)) y) ≡ false
    → obstacle (words_below (add32 at (negsuc 3)) (drop (i + 1) rs)) y ≡ obstacle (words_below at (drop i rs)) y
obstacle_later rs i at y lt none =
    ap (λ k. obstacle (words_below (add32 at (negsuc 3)) (drop k rs)) y) (add-one i)
    ∙ sym (ap (λ xs. obstacle (words_below at xs) y) (drop-cons rs i 0 lt)
    ∙ none_first (word_obstacle (add32 at (negsuc 3)) y) (obstacle (words_below (add32 at (negsuc 3)) (drop (suc i) rs)) y) none)

pub obstacle_here :
    (rs : List ℕ) (i at : ℕ) (y : ZcCore) → i < length rs → is_some (word_obstacle (add32 at (negsuc 3)) y) ≡ true
    → obstacle (words_below at (drop i rs)) y ≡ word_obstacle (add32 at (negsuc 3)) y
obstacle_here rs i at y lt some =
    ap (λ xs. obstacle (words_below at xs) y) (drop-cons rs i 0 lt)
    ∙ some_first (word_obstacle (add32 at (negsuc 3)) y) (obstacle (words_below (add32 at (negsuc 3)) (drop (suc i) rs)) y) some

-- ---- pushes and pops

module _ (list adjust size : ℕ) (z : ZcCore) where
  abbrev pub pushed_words : List Access
  pushed_words = words_below (reg_in z 2) (registers_of list)

  abbrev pub popped_words : List Access
  popped_words = words_below (sp_after (Pop list adjust) (reg_in z 2)) (registers_of list)

  pub push_step : effect_step (short_effect (Push list adjust) size z) z ≡ option_map_or Stopped (obstacle pushed_words z) (Committed (onward (pushed list adjust z) size (pushed list adjust z).regs))
  push_step =
      effect_step-reaching_all pushed_words z (Commits (framed (Push list adjust) size z))
      ∙ ap (λ (y : ZcCore). option_map_or Stopped (obstacle pushed_words z) (Committed (onward y size (set_reg y.regs 2 (sp_after (Push list adjust) (reg_in z 2)))))) (all_accessed-push list adjust pushed_words z)

  pub pop_step : effect_step (short_effect (Pop list adjust) size z) z ≡ option_map_or Stopped (obstacle popped_words z) (Committed (onward (popped list adjust z) size (popped list adjust z).regs))
  pop_step =
      effect_step-reaching_all popped_words z (Commits (framed (Pop list adjust) size z))
      ∙ ap (λ (y : ZcCore). option_map_or Stopped (obstacle popped_words z) (Committed (onward y size (set_reg y.regs 2 (sp_after (Pop list adjust) (reg_in z 2)))))) (all_accessed-pop list adjust popped_words z)

  pub pop_ret_step : effect_step (short_effect (PopRet list adjust) size z) z ≡ option_map_or Stopped (obstacle popped_words z) (Committed (returned (onward (popped list adjust z) size (popped list adjust z).regs)))
  pop_ret_step =
      effect_step-reaching_all popped_words z (Commits (returned (framed (PopRet list adjust) size z)))
      ∙ ap (λ (y : ZcCore). option_map_or Stopped (obstacle popped_words z) (Committed (returned (onward y size (set_reg y.regs 2 (sp_after (Pop list adjust) (reg_in z 2))))))) (all_accessed-pop_ret list adjust popped_words z)

  pub pop_retz_step :
      effect_step (short_effect (PopRetz list adjust) size z) z ≡ option_map_or Stopped (obstacle popped_words z) (Committed (returned (zeroed (onward (popped list adjust z) size (popped list adjust z).regs))))
  pop_retz_step =
      effect_step-reaching_all popped_words z (Commits (returned (zeroed (framed (PopRetz list adjust) size z))))
      ∙ ap (λ (y : ZcCore). option_map_or Stopped (obstacle popped_words z) (Committed (returned (zeroed (onward y size (set_reg y.regs 2 (sp_after (Pop list adjust) (reg_in z 2)))))))) (all_accessed-pop_retz list adjust popped_words z)

-- a step that meets an obstacle stops and leaves the state
pub stops :
    (z w moved : ZcCore) (o found : Option Reason) (reason : Reason) (step left : ZcStep) → step ≡ option_map_or Stopped found left → o ≡ found → o ≡ Some reason → w ≡ cond (is_none o) moved z
    → (answer.Stopped reason ≡ answer_of step) × (w ≡ core_after step z)
stops z w moved o found reason step left is why meets after =
    let stopped = is ∙ ap (λ p. option_map_or Stopped p left) (sym why ∙ meets) in
    (sym (ap answer_of stopped), after ∙ ap (λ (p : Option Reason). cond (is_none p) moved z) meets ∙ sym (ap (λ s. core_after s z) stopped))

-- an instruction whose accesses meet no obstacle commits what is then made of the state after them
pub goes_on :
    (z w moved last : ZcCore) (make : ZcCore → ZcCore) (o found : Option Reason) (step : ZcStep) (result : Step) → step ≡ option_map_or Stopped found (Committed (make moved)) → o ≡ found → o ≡ None → w ≡ cond (is_none o) moved z
    → result ≡ answer.Committed → last ≡ make w → (result ≡ answer_of step) × (last ≡ core_after step z)
goes_on z w moved last make o found step result is why free after committed then =
    let made = is ∙ ap (λ p. option_map_or Stopped p (Committed (make moved))) (sym why ∙ free) in
    (committed ∙ sym (ap answer_of made), then ∙ ap make (after ∙ ap (λ (p : Option Reason). cond (is_none p) moved z) free) ∙ sym (ap (λ s. core_after s z) made))

-- ---- an access by its number

pub slice_get-words_below :
    (rs : List ℕ) (top j : ℕ) → j < 256 → slice_get (words_below top rs) j ≡ option_map (λ r. record { at = (top + (2 ^ 32 - 4 * (j + 1))) % 2 ^ 32; register = r }) (slice_get rs j)
slice_get-words_below [] top j small = refl
slice_get-words_below (r ∷ rs) top zero small = let same : add32 top (negsuc 3) ≡ (top + (2 ^ 32 - 4 * (0 + 1))) % 2 ^ 32 = omega arith in ap (λ a. Some (record { at = a; register = r })) same
slice_get-words_below (r ∷ rs) top (suc j) small =
    let same : (add32 top (negsuc 3) + (2 ^ 32 - 4 * (j + 1))) % 2 ^ 32 ≡ (top + (2 ^ 32 - 4 * (suc j + 1))) % 2 ^ 32 = omega arith in
    slice_get-words_below rs (add32 top (negsuc 3)) j (omega arith) ∙ ap (λ a. option_map (λ r. record { at = a; register = r }) (slice_get rs j)) same

-- the access of a list, as the code finds it
pub access_at :
    (list rs : List ℕ) (top number index again : ℕ) → rs ≡ list → index ≡ number → again ≡ number → index < length rs → number < 256
    → slice_get (words_below top list) number ≡ Some (record { at = (top + (2 ^ 32 - 4 * (again + 1))) % 2 ^ 32; register = get_or rs index 0 })
access_at list rs top number index again same is also lt small =
    slice_get-words_below list top number small
    ∙ ap (option_map (λ r. record { at = (top + (2 ^ 32 - 4 * (number + 1))) % 2 ^ 32; register = r })) (ap (λ xs. slice_get xs number) (sym same) ∙ slice_get-get_or rs number 0 (omega arith))
    ∙ ap₂ (λ j k. Some (record { at = (top + (2 ^ 32 - 4 * (j + 1))) % 2 ^ 32; register = get_or rs k 0 })) (sym also) (sym is)

pub no_access : (list rs : List ℕ) (top number index : ℕ) → rs ≡ list → index ≡ number → length rs ≤ index → number < 256 → slice_get (words_below top list) number ≡ None
no_access list rs top number index same is past small =
    slice_get-words_below list top number small
    ∙ ap (option_map (λ r. record { at = (top + (2 ^ 32 - 4 * (number + 1))) % 2 ^ 32; register = r })) (ap (λ xs. slice_get xs number) (sym same) ∙ slice_get_past rs number (omega arith))
