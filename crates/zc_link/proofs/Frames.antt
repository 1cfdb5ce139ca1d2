-- A push or a pop does what its items do one after another, in whatever order of its slots; a pop does so whatever its slots' registers
-- held before. This speaks of the machine alone.
use Rattle.std.proofs.Common.{◌≡◌, ◌≢◌, ℕ, ◌+◌, ◌-◌, ◌*◌, ◌^◌, ◌<◌, ◌≤◌, List, [], ◌∷◌, length, refl, sym, ap, ◌∙◌, subst, arith, pos, negsuc, inl, inr, ⊎_elim}
use Rattle.std.proofs.lemmas.Bool.{cases_eq}
use Rattle.rv_decode.specs.Bits.{add32}
use Rattle.rv_decode.specs.Effect.{Commits, Effect, onward, reaching}
use Rattle.rv_decode.specs.Memory.{Region, byte_of, cell_at, extents_of}
use Rattle.rv_decode.specs.Results.{reg_result}
use Rattle.rv_decode.specs.State.{ZcCore, byte_in, reg_in, set_reg, word_at}
use Rattle.rv_decode.specs.declared.instr.RegOp.TheVariants.{Add, Sub}
use Rattle.rv_decode.proofs.RegisterLaws.{length-set_reg, reads, reads-set_reg_other, reads-set_reg_same}
use Rattle.zc_decode.specs.Accesses.{Access, words_below}
use Rattle.zc_decode.specs.Effect.{all_accessed, reaching_all, restored, returned, saved, short_effect, zeroed}
use Rattle.zc_decode.specs.Lists.{registers_of}
use Rattle.zc_decode.specs.declared.short.Short.TheVariants.{Pop, PopRet, PopRetz, Push}
use Rattle.zc_link.specs.Invariants.Groups.{Ending, GoesOn, Returns, Slot, ZeroBeforeRaise, ZeroBeforeReturn, ZeroFirst, frame_adjust, slot_loads, pop_kind, pop_ops, push_ops, raise_sp, slots_below, stores_of}
use Rattle.zc_link.proofs.Effects.{AreReached, Effects, IsReached, KeepsRest, commits_same, effects_apart, keeps_both, keeps_same, loads_are, reaches, stores_are, sum_is}
use Rattle.zc_link.proofs.Slots.{FrameFacts, IsOneOf, slots_apart}
use Rattle.zc_link.proofs.SlotWords.{length-read_all, read_all, read_given, reads_out, reads_same, written_all, written_extents, written_given, written_same}

-- ---- words one below the other are slots

pub below_is : (base top : ℕ) → 4 ≤ top → base + top < 2 ^ 32 → add32 (base + top) (negsuc 3) ≡ base + (top - 4)
below_is base top room small = omega (arith, room, small)

-- an access of a register at an address
abbrev access_at : ℕ → ℕ → Access
access_at a r = record { at = a; register = r }

module _ (base : ℕ) where
  -- accesses to slots that lie in memory are made
  all_reached :
      (rs : List ℕ) (top : ℕ) (z : ZcCore) (go : Effect) → 4 * length rs ≤ top → base + top < 2 ^ 32 → AreReached (extents_of z.memory) base (slots_below top rs)
      → reaching_all (words_below (base + top) rs) z go ≡ go
  all_reached [] top z go room small reach = refl
  all_reached (r ∷ rs) top z go room small reach =
      let four : 4 ≤ top = omega (arith, room) in
      ap (λ a. reaching 4 a z (reaching_all (words_below a rs) z go)) (below_is base top four small)
      ∙ reaches (base + (top - 4)) z _ (reaching_all (words_below (base + (top - 4)) rs) z go) (reach (record { offset = top - 4; register = r }) (inl refl))
      ∙ all_reached rs (top - 4) z go (omega (arith, room)) (omega (arith, small)) (λ d m. reach d (inr m))

  all_saved :
      (list adjust : ℕ) (rs : List ℕ) (top : ℕ) (z : ZcCore) → 4 * length rs ≤ top → base + top < 2 ^ 32
      → all_accessed (Push list adjust) (words_below (base + top) rs) z ≡ record z { memory = written_all (λ r. byte_of (reg_in z r)) base (slots_below top rs) z.memory }
  all_saved list adjust [] top z room small = refl
  all_saved list adjust (r ∷ rs) top z room small =
      let four : 4 ≤ top = omega (arith, room) in
      ap (λ a. all_accessed (Push list adjust) (access_at a r ∷ words_below a rs) z) (below_is base top four small)
      ∙ all_saved list adjust rs (top - 4) (saved (access_at (base + (top - 4)) r) z) (omega (arith, room)) (omega (arith, small))

  all_restored :
      (list adjust : ℕ) (rs : List ℕ) (top : ℕ) (z : ZcCore) → 4 * length rs ≤ top → base + top < 2 ^ 32
      → all_accessed (Pop list adjust) (words_below (base + top) rs) z ≡ record z { regs = read_all (word_at z) base (slots_below top rs) z.regs }
  all_restored list adjust [] top z room small = refl
  all_restored list adjust (r ∷ rs) top z room small =
      let four : 4 ≤ top = omega (arith, room) in
      ap (λ a. all_accessed (Pop list adjust) (access_at a r ∷ words_below a rs) z) (below_is base top four small)
      ∙ all_restored list adjust rs (top - 4) (restored (access_at (base + (top - 4)) r) z) (omega (arith, room)) (omega (arith, small))

-- ---- a push

-- a push with its own adjustment, beside the state zf after the items one after another, which lower sp by the whole frame
pub record PushMade (list frame size : ℕ) (z zf : ZcCore) : Type 0 where
  pub memory : List (Region ℕ)
  pub does :
      short_effect (Push list (frame_adjust list frame)) size z
      ≡ Commits (onward (record z { memory = memory }) size (set_reg z.regs 2 (reg_in z 2 - frame_adjust list frame)))
  pub bytes : (x : ℕ) → cell_at 0 memory x ≡ byte_in zf x
  pub extents : extents_of memory ≡ extents_of z.memory
  pub extents_f : extents_of zf.memory ≡ extents_of z.memory
  pub regs_f : zf.regs ≡ set_reg z.regs 2 (reg_in z 2 - frame)
  pub rest_f : KeepsRest z zf

module _ {list frame : ℕ} {order : List Slot} (facts : FrameFacts list frame order) where
  abbrev rs : List ℕ
  rs = registers_of list

  -- an address lies in one slot
  apart : (base x : ℕ) (c d : Slot) → IsOneOf c (slots_below frame rs) → IsOneOf d (slots_below frame rs) → (base + c.offset ≤ x) × (x < base + c.offset + 4) → (base + d.offset ≤ x) × (x < base + d.offset + 4) → c ≡ d
  apart base x c d m n k l = slots_apart frame base rs x c d facts.room m n k l

  pub push_made : (size : ℕ) (z zf : ZcCore) → length z.regs ≡ 32 → frame ≤ reg_in z 2 → reg_in z 2 < 2 ^ 32 → Effects (push_ops frame order) z zf → PushMade list frame size z zf
  push_made size z zf long deep small h =
      let most = facts.most in
      let some = facts.some in
      let sum = facts.sum in
      let base : ℕ = reg_in z 2 - frame in
      let v : add32 (reg_in z 2) (negsuc (frame - 1)) ≡ base = omega (arith, deep, small, some, most) in
      let y : ZcCore = onward z h.0 (set_reg z.regs 2 base) in
      let is_y : h.1 ≡ y = commits_same (onward z h.0 (set_reg z.regs 2 (add32 (reg_in z 2) (negsuc (frame - 1))))) h.1 h.2 ∙ ap (λ x. onward z h.0 (set_reg z.regs 2 x)) v in
      let at : reg_in y 2 ≡ base = reads-set_reg_same 0 0 z.regs 2 base (λ (none : 2 ≡ 0). omega (arith, none)) (omega (arith, long)) in
      let st = stores_are base order y zf at (λ d m. let u = facts.under d m in omega (arith, u, deep, small)) (subst (λ x. Effects (stores_of order) x zf) is_y h.3) in
      let whole : base + frame ≡ reg_in z 2 = omega (arith, deep) in
      let fits : base + frame < 2 ^ 32 = omega (arith, whole, small) in
      let given : ℕ → ℕ → ℕ = λ r. byte_of (reg_in z r) in
      let mem : List (Region ℕ) = written_all given base (slots_below frame rs) z.memory in
      let same_given : written_all (λ r. byte_of (reg_in y r)) base order z.memory ≡ written_all given base order z.memory =
      written_given (λ r. byte_of (reg_in y r)) given base order z.memory (λ d m. ap byte_of (reads-set_reg_other 0 0 z.regs 2 base d.register (facts.register d m).no_sp)) in
      let adjust = frame_adjust list frame in
      let low : ℕ = reg_result Sub (reg_in z 2) adjust in
      let lower : low ≡ reg_in z 2 - adjust = omega (arith, sum, deep, small, most) in
      let left : ℕ → ZcCore = λ t. (let x = all_accessed (Push list adjust) (words_below t rs) z in onward x size (set_reg x.regs 2 low)) in
      record {
        memory = mem;
        does =
            ap (λ t. reaching_all (words_below t rs) z (Commits (left t))) (sym whole)
            ∙ all_reached base rs frame z (Commits (left (base + frame))) facts.room fits (λ d m. st.reach d (facts.same.back d m))
            ∙ ap (λ (x : ZcCore). Commits (onward x size (set_reg x.regs 2 low))) (all_saved base list adjust rs frame z facts.room fits)
            ∙ ap (λ v. Commits (onward (record z { memory = mem }) size (set_reg z.regs 2 v))) lower;
        bytes = λ x.
            sym (written_same given base order (slots_below frame rs) z.memory facts.same (apart base) x)
            ∙ ap (λ t. cell_at 0 t x) (sym same_given ∙ sym st.memory);
        extents = written_extents given base (slots_below frame rs) z.memory;
        extents_f = ap extents_of st.memory ∙ written_extents (λ r. byte_of (reg_in y r)) base order z.memory;
        regs_f = st.regs;
        rest_f = keeps_both (record { exit = refl; jvt = refl }) st.rest;
      }

-- ---- a pop

-- the state after a pop, by how it ends
abbrev pub ended : Ending → ZcCore → ZcCore
ended GoesOn z = z
ended Returns z = returned z
ended ZeroFirst z = returned (zeroed z)
ended ZeroBeforeRaise z = returned (zeroed z)
ended ZeroBeforeReturn z = returned (zeroed z)

-- the loads are those of a pop that goes on
ret_restored : (list adjust : ℕ) (xs : List Access) (z : ZcCore) → all_accessed (PopRet list adjust) xs z ≡ all_accessed (Pop list adjust) xs z
ret_restored list adjust [] z = refl
ret_restored list adjust (a ∷ xs) z = ret_restored list adjust xs (restored a z)

retz_restored : (list adjust : ℕ) (xs : List Access) (z : ZcCore) → all_accessed (PopRetz list adjust) xs z ≡ all_accessed (Pop list adjust) xs z
retz_restored list adjust [] z = refl
retz_restored list adjust (a ∷ xs) z = retz_restored list adjust xs (restored a z)

-- the effect of a pop, with sp as it is afterwards
pop_effect :
    (ending : Ending) (list adjust size : ℕ) (z : ZcCore)
    → short_effect (pop_kind ending list adjust) size z
    ≡ (let top = reg_result Add (reg_in z 2) adjust in
    let y = all_accessed (Pop list adjust) (words_below top (registers_of list)) z in
    reaching_all (words_below top (registers_of list)) z (Commits (ended ending (onward y size (set_reg y.regs 2 top)))))
pop_effect GoesOn list adjust size z = refl
pop_effect Returns list adjust size z =
    let top : ℕ = reg_result Add (reg_in z 2) adjust in
    let xs : List Access = words_below top (registers_of list) in
    ap (λ (y : ZcCore). reaching_all xs z (Commits (returned (onward y size (set_reg y.regs 2 top))))) (ret_restored list adjust xs z)
pop_effect ZeroFirst list adjust size z =
    let top : ℕ = reg_result Add (reg_in z 2) adjust in
    let xs : List Access = words_below top (registers_of list) in
    ap (λ (y : ZcCore). reaching_all xs z (Commits (returned (zeroed (onward y size (set_reg y.regs 2 top)))))) (retz_restored list adjust xs z)
pop_effect ZeroBeforeRaise list adjust size z =
    let top : ℕ = reg_result Add (reg_in z 2) adjust in
    let xs : List Access = words_below top (registers_of list) in
    ap (λ (y : ZcCore). reaching_all xs z (Commits (returned (zeroed (onward y size (set_reg y.regs 2 top)))))) (retz_restored list adjust xs z)
pop_effect ZeroBeforeReturn list adjust size z =
    let top : ℕ = reg_result Add (reg_in z 2) adjust in
    let xs : List Access = words_below top (registers_of list) in
    ap (λ (y : ZcCore). reaching_all xs z (Commits (returned (zeroed (onward y size (set_reg y.regs 2 top)))))) (retz_restored list adjust xs z)

-- what a pop makes from the state z, in which the slots' registers may hold anything, beside the state zf after its items one after
-- another from y
pub record PopMade (ending : Ending) (list frame size : ℕ) (y z zf : ZcCore) : Type 0 where
  pub regs : List ℕ
  pub does : short_effect (pop_kind ending list (frame_adjust list frame)) size z ≡ Commits (ended ending (onward z size regs))
  pub same :
      (r : ℕ) → (r ≢ 2 → ((d : Slot) → IsOneOf d (slots_below frame (registers_of list)) → d.register ≢ r) → reg_in z r ≡ reg_in y r) → reads 0 0 regs r ≡ reg_in zf r
  pub long : length regs ≡ 32
  pub long_f : length zf.regs ≡ 32
  pub memory_f : zf.memory ≡ y.memory
  pub rest_f : KeepsRest y zf

-- two lists of registers in both of which sp is set
set_sp :
    (xs ys : List ℕ) (v w r : ℕ) → length xs ≡ 32 → length ys ≡ 32 → v ≡ w → (r ≢ 2 → reads 0 0 xs r ≡ reads 0 0 ys r)
    → reads 0 0 (set_reg xs 2 v) r ≡ reads 0 0 (set_reg ys 2 w) r
set_sp xs ys v w r long_x long_y is same = ⊎_elim
    (λ here.
    let two : 2 ≢ 0 = λ (none : 2 ≡ 0). omega (arith, none) in
    ap (reads 0 0 (set_reg xs 2 v)) here
    ∙ reads-set_reg_same 0 0 xs 2 v two (omega (arith, long_x))
    ∙ is
    ∙ sym (reads-set_reg_same 0 0 ys 2 w two (omega (arith, long_y)))
    ∙ sym (ap (reads 0 0 (set_reg ys 2 w)) here))
    (λ other. reads-set_reg_other 0 0 xs 2 v r other ∙ same other ∙ sym (reads-set_reg_other 0 0 ys 2 w r other))
    (cases_eq r 2)

module _ {list frame : ℕ} {order : List Slot} (facts : FrameFacts list frame order) where
  pub pop_made :
      (ending : Ending) (size rest : ℕ) (y z zf : ZcCore) → length y.regs ≡ 32 → length z.regs ≡ 32 → rest + frame_adjust list frame ≡ frame → reg_in y 2 + frame < 2 ^ 32
      → reg_in z 2 ≡ reg_in y 2 + rest → extents_of z.memory ≡ extents_of y.memory
      → ((d : Slot) → IsOneOf d (slots_below frame (registers_of list)) → word_at z (reg_in y 2 + d.offset) ≡ word_at y (reg_in y 2 + d.offset))
      → Effects (pop_ops frame order) y zf → PopMade ending list frame size y z zf
  pop_made ending size rest y z zf long_y long_z sum small at ext words h =
      let rs = registers_of list in
      let adjust = frame_adjust list frame in
      let base : ℕ = reg_in y 2 in
      let parts = effects_apart (slot_loads order) (raise_sp frame ∷ []) y zf h in
      let ye : ZcCore = parts.0 in
      let ld = loads_are base order y ye refl (λ d m. let u = facts.under d m in (omega (arith, u, small), (facts.register d m).no_sp)) parts.1 in
      let last = sum_is 2 2 (pos frame) ye zf parts.2 in
      let sp_e : reg_in ye 2 ≡ base = ap (λ l. reads 0 0 l 2) ld.regs ∙ reads_out (word_at y) base order y.regs 2 (λ d m. (facts.register d m).no_sp) in
      let top : reg_result Add (reg_in z 2) adjust ≡ base + frame = omega (arith, at, sum, small) in
      let top_f : add32 (reg_in ye 2) (pos frame) ≡ base + frame = omega (arith, sp_e, small) in
      let new : List ℕ = read_all (word_at z) base (slots_below frame rs) z.regs in
      let long_n : length new ≡ 32 = length-read_all (word_at z) base (slots_below frame rs) z.regs ∙ long_z in
      let long_e : length ye.regs ≡ 32 = ap length ld.regs ∙ length-read_all (word_at y) base order y.regs ∙ long_y in
      let left : ℕ → ZcCore = λ t. (let x = all_accessed (Pop list adjust) (words_below t rs) z in ended ending (onward x size (set_reg x.regs 2 t))) in
      record {
        regs = set_reg new 2 (base + frame);
        does =
            pop_effect ending list adjust size z
            ∙ ap (λ t. reaching_all (words_below t rs) z (Commits (left t))) top
            ∙ all_reached base rs frame z (Commits (left (base + frame))) facts.room small (λ d m. subst (λ es. IsReached es (base + d.offset)) (sym ext) (ld.reach d (facts.same.back d m)))
            ∙ ap (λ (x : ZcCore). Commits (ended ending (onward x size (set_reg x.regs 2 (base + frame))))) (all_restored base list adjust rs frame z facts.room small);
        same = λ r others. sym (
            ap (λ x. reg_in x r) last.1
            ∙ set_sp ye.regs new (add32 (reg_in ye 2) (pos frame)) (base + frame) r long_e long_n top_f (λ other.
            ap (λ l. reads 0 0 l r) (ld.regs ∙ sym (read_given (word_at z) (word_at y) base order y.regs (λ d m. words d (facts.same.into d m))))
            ∙ reads_same (word_at z) base order (slots_below frame rs) y.regs z.regs facts.same long_y long_z facts.once
            (λ d m. let q = facts.register d (facts.same.back d m) in (q.under, q.some)) r (λ none. sym (others other none))));
        long = length-set_reg new 2 (base + frame) ∙ long_n;
        long_f = ap (λ x. length x.regs) last.1 ∙ length-set_reg ye.regs 2 (add32 (reg_in ye 2) (pos frame)) ∙ long_e;
        memory_f = ap (λ x. x.memory) last.1 ∙ ld.memory;
        rest_f = keeps_both ld.rest (keeps_both (record { exit = refl; jvt = refl }) (keeps_same last.1));
      }
