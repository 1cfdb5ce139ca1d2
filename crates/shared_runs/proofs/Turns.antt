-- On the way between two sound pairs, interrupts and commits do the same whatever cells of data hold. So to write each interrupt's
-- cells after it comes to the same as to write them all first; and if nothing is written first, it comes to the same as to write
-- them all at the end.
use Rattle.std.proofs.Common.{◌≡◌, ℕ, zero, suc, ◌<◌, List, [], ◌∷◌, ◌++◌, Bool, true, false, None, Ok, cond, map, refl, sym, ap, ◌∙◌, subst, arith, append_assoc}
use Rattle.std.specs.Prelude.{All, filter, flat_map}
use Rattle.std.proofs.lemmas.List.{append-nil}
use Rattle.std.proofs.lemmas.List.Elements.{All-append, All-cons, All-head, All-nil, All-tail, filter-append}
use Rattle.interrupt_plan.specs.Plan.{Interrupt, IsInterrupt}
use Rattle.interrupt_plan.specs.SharedPlan.{SharedEntry}
use Rattle.rv_decode.specs.Memory.{extents_of, written}
use Rattle.rv_decode.specs.Run.{◌>>=◌}
use Rattle.rv_decode.specs.State.{ZcCore, ZcState, byte_in}
use Rattle.rv_decode.proofs.MemoryLaws.{extents-changed}
use Rattle.rv_decode.proofs.RunLaws.{bind_ok}
use Rattle.shared_cells.specs.SharedRun.{all_shared, cells_written, in_ranges}
use Rattle.sym_machine.specs.Program.{Program}
use Rattle.zc_machine.specs.Interrupt.{all_interrupted, interrupted}
use Rattle.zc_machine.specs.Poked.{poked_core}
use Rattle.zc_machine.specs.Run.{committed, turn, turns, zc_turn, zc_turns}
use Rattle.zc_machine.specs.Step.{zc_step}
use Rattle.zc_machine.proofs.TurnLaws.{turn-running, zc_turn-running}
use Rattle.zc_link.specs.DataApart.{CellsLie, CommitsApart, Cuts, CutsApart, IsCell, OnWay, Pokes, Turns, poked}
use Rattle.zc_link.specs.Image.{Image, loaded_core}
use Rattle.shared_runs.proofs.Regions.{all_interrupted_stays, interrupted_stays, one_result, turn_extents}
use Rattle.shared_runs.proofs.Written.{IsWrite, all_written, all_written-append, byte_there, poked_back, poked_there, small_there, written_exit, written_extents}

-- what an entry's values must be
abbrev pub IsEntry : SharedEntry → Type 0
IsEntry e = IsInterrupt e.entry.cut × All (λ c. c.1 < 256) e.cells

abbrev pub AreEntries : (ℕ → List SharedEntry) → Type 0
AreEntries entries = (k : ℕ) → All IsEntry (entries k)

-- the state with another core
abbrev with_core : ZcState → ZcCore → ZcState
with_core z y = record z { core = y }

-- the interrupts of entries
abbrev pub cuts_in : List SharedEntry → List Interrupt
cuts_in es = map (λ e. e.entry.cut) es

module _ {p : Program} {e : Image} (lie : CellsLie p e) (ranges : List (ℕ × ℕ)) (within : (a : ℕ) → in_ranges ranges a ≡ true → IsCell p a) where
  -- ---- the cells that are written

  abbrev kept : List (ℕ × ℕ) → List (ℕ × ℕ)
  kept cs = filter (λ c. in_ranges ranges c.0) cs

  abbrev pub cells_in : List SharedEntry → List (ℕ × ℕ)
  cells_in es = kept (flat_map (λ e. e.cells) es)

  -- the cells before each of w commits
  abbrev pub cells_of : (ℕ → List SharedEntry) → ℕ → List (ℕ × ℕ)
  cells_of entries zero = []
  cells_of entries (suc w) = cells_in (entries 0) ++ cells_of (λ k. entries (suc k)) w

  kept_are : (cs : List (ℕ × ℕ)) → All (λ c. c.1 < 256) cs → All (IsWrite p) (kept cs)
  kept_are [] small = All-nil (IsWrite p)
  kept_are (c ∷ cs) small = by (in_ranges ranges c.0) refl (kept_are cs (All-tail (λ (k : ℕ × ℕ). k.1 < 256) c cs small))
    where
      by : (b : Bool) → in_ranges ranges c.0 ≡ b → All (IsWrite p) (kept cs) → All (IsWrite p) (cond b (c ∷ kept cs) (kept cs))
      by true is rest = All-cons (IsWrite p) c (kept cs) (within c.0 is, All-head (λ (k : ℕ × ℕ). k.1 < 256) c cs small) rest
      by false is rest = rest

  cells_in-cons : (x : SharedEntry) (es : List SharedEntry) → cells_in (x ∷ es) ≡ kept x.cells ++ cells_in es
  cells_in-cons x es = filter-append (λ (c : ℕ × ℕ). in_ranges ranges c.0) x.cells (flat_map (λ e. e.cells) es)

  cells_in_are : (es : List SharedEntry) → All IsEntry es → All (IsWrite p) (cells_in es)
  cells_in_are [] are = All-nil (IsWrite p)
  cells_in_are (x ∷ es) are =
      subst (All (IsWrite p)) (sym (cells_in-cons x es))
      (All-append (IsWrite p) (kept x.cells) (cells_in es) (kept_are x.cells (All-head IsEntry x es are).1) (cells_in_are es (All-tail IsEntry x es are)))

  pub cells_are : (w : ℕ) (entries : ℕ → List SharedEntry) → AreEntries entries → All (IsWrite p) (cells_of entries w)
  cells_are zero entries are = All-nil (IsWrite p)
  cells_are (suc w) entries are =
      All-append (IsWrite p) (cells_in (entries 0)) (cells_of (λ k. entries (suc k)) w) (cells_in_are (entries 0) (are 0)) (cells_are w (λ k. entries (suc k)) (λ k. are (suc k)))

  -- the machine's regions lie as they were loaded
  abbrev pub HasRegions : ZcState → Type 0
  HasRegions z = extents_of z.core.memory ≡ extents_of (loaded_core e).memory

  regions_poked : (a b : ℕ) (z : ZcState) → HasRegions z → HasRegions (poked a b z)
  regions_poked a b z regions = extents-changed (written a 1 (λ _. b)) z.core.memory ∙ regions

  -- the cells of one entry: those in the ranges are written
  cells_same : (cs : List (ℕ × ℕ)) (z : ZcState) → All (λ c. c.1 < 256) cs → HasRegions z → with_core z (cells_written ranges cs z.core) ≡ all_written (kept cs) z
  cells_same [] z small regions = refl
  cells_same (c ∷ cs) z small regions =
      by (in_ranges ranges c.0) refl (λ y r. cells_same cs y (All-tail (λ (k : ℕ × ℕ). k.1 < 256) c cs small) r)
    where
      by :
          (b : Bool) → in_ranges ranges c.0 ≡ b → ((y : ZcState) → HasRegions y → with_core y (cells_written ranges cs y.core) ≡ all_written (kept cs) y)
          → with_core z (cells_written ranges cs (cond b (poked_core c z.core) z.core)) ≡ all_written (cond b (c ∷ kept cs) (kept cs)) z
      by true is rest =
          ap (λ y. with_core z (cells_written ranges cs y)) (poked_there lie c.0 c.1 (within c.0 is) (All-head (λ (k : ℕ × ℕ). k.1 < 256) c cs small) z.core regions)
          ∙ rest (poked c.0 c.1 z) (regions_poked c.0 c.1 z regions)
      by false is rest = rest z regions

  -- ---- interrupts

  module _ {From : ℕ → ZcState → Type 0} (apart : CutsApart p From) where
    abbrev cut : Interrupt → ZcState → ZcState
    cut c z = with_core z (interrupted c z.core)

    abbrev all_cut : List Interrupt → ZcState → ZcState
    all_cut cs z = with_core z (all_interrupted cs z.core)

    way_written : {k : ℕ} (cs : List (ℕ × ℕ)) (z : ZcState) → All (IsWrite p) cs → OnWay p From (suc k) z → OnWay p From (suc k) (all_written cs z)
    way_written [] z are way = way
    way_written {k} (c ∷ cs) z are way =
        let first = All-head (IsWrite p) c cs are in
        way_written cs (poked c.0 c.1 z) (All-tail (IsWrite p) c cs are) (Pokes k z c.0 c.1 first.0 first.1 way)

    -- an interrupt, and cells: in either order
    cut_written : {k : ℕ} (c : Interrupt) (cs : List (ℕ × ℕ)) (z : ZcState) → IsInterrupt c → All (IsWrite p) cs → OnWay p From (suc k) z → cut c (all_written cs z) ≡ all_written cs (cut c z)
    cut_written c [] z is are way = refl
    cut_written {k} c (d ∷ cs) z is are way =
        let first = All-head (IsWrite p) d cs are in
        cut_written c cs (poked d.0 d.1 z) is (All-tail (IsWrite p) d cs are) (Pokes k z d.0 d.1 first.0 first.1 way)
        ∙ ap (λ y. all_written cs (with_core z y)) (apart k z way c is d.0 d.1 first.0 first.1)

    all_cut_written :
        {k : ℕ} (es : List SharedEntry) (cs : List (ℕ × ℕ)) (z : ZcState) → All IsEntry es → All (IsWrite p) cs → OnWay p From (suc k) z
        → all_cut (cuts_in es) (all_written cs z) ≡ all_written cs (all_cut (cuts_in es) z)
    all_cut_written [] cs z is are way = refl
    all_cut_written {k} (x ∷ es) cs z is are way =
        let c = x.entry.cut in
        let one = (All-head IsEntry x es is).0 in
        ap (all_cut (cuts_in es)) (cut_written c cs z one are way)
        ∙ all_cut_written es cs (cut c z) (All-tail IsEntry x es is) are (Cuts k z c one way)

    way_cut : {k : ℕ} (es : List SharedEntry) (z : ZcState) → All IsEntry es → OnWay p From (suc k) z → OnWay p From (suc k) (all_cut (cuts_in es) z)
    way_cut [] z is way = way
    way_cut {k} (x ∷ es) z is way = way_cut es (cut x.entry.cut z) (All-tail IsEntry x es is) (Cuts k z x.entry.cut (All-head IsEntry x es is).0 way)

    -- each interrupt with its cells: all cells may be written after all interrupts
    shared_same :
        {k : ℕ} (es : List SharedEntry) (z : ZcState) → All IsEntry es → OnWay p From (suc k) z → HasRegions z
        → with_core z (all_shared ranges es z.core) ≡ all_written (cells_in es) (all_cut (cuts_in es) z)
    shared_same [] z is way regions = refl
    shared_same {k} (x ∷ es) z is way regions =
        let one = All-head IsEntry x es is in
        let rest = All-tail IsEntry x es is in
        let c = x.entry.cut in
        let z1 = cut c z in
        let mine = kept_are x.cells one.1 in
        let regions1 : HasRegions z1 = (interrupted_stays c z.core).extents ∙ regions in
        let way1 = Cuts k z c one.0 way in
        let z2 = all_written (kept x.cells) z1 in
        ap (λ (y : ZcState). with_core y (all_shared ranges es y.core)) (cells_same x.cells z1 one.1 regions1)
        ∙ shared_same es z2 rest (way_written (kept x.cells) z1 mine way1) (written_extents (kept x.cells) z1 ∙ regions1)
        ∙ ap (all_written (cells_in es)) (all_cut_written es (kept x.cells) z1 rest mine way1)
        ∙ sym (all_written-append (kept x.cells) (cells_in es) (all_cut (cuts_in es) z1))
        ∙ ap (λ cs. all_written cs (all_cut (cuts_in es) z1)) (sym (cells_in-cons x es))

    -- ---- one turn

    -- what happens before a commit, and then the commit
    happens_first : (happens : ZcCore → ZcCore) (z x : ZcState) → z.core.exit ≡ None → x.core.exit ≡ None → with_core z (happens z.core) ≡ x → turn happens z ≡ zc_turn [] x
    happens_first happens z x going running same =
        turn-running happens z going ∙ ap (λ (y : ZcState). committed (zc_step y.core) y) same ∙ sym (zc_turn-running [] x running)

    turn_shared :
        {k : ℕ} (es : List SharedEntry) (z : ZcState) → All IsEntry es → OnWay p From (suc k) z → HasRegions z → z.core.exit ≡ None
        → turn (all_shared ranges es) z ≡ zc_turn [] (all_written (cells_in es) (all_cut (cuts_in es) z))
    turn_shared es z is way regions going =
        happens_first (all_shared ranges es) z (all_written (cells_in es) (all_cut (cuts_in es) z)) going
        (written_exit (cells_in es) (all_cut (cuts_in es) z) ∙ (all_interrupted_stays (cuts_in es) z.core).exit ∙ going) (shared_same es z is way regions)

    turn_cut :
        {k : ℕ} (es : List SharedEntry) (cs : List (ℕ × ℕ)) (z : ZcState) → All IsEntry es → All (IsWrite p) cs → OnWay p From (suc k) z → z.core.exit ≡ None
        → zc_turn (cuts_in es) (all_written cs z) ≡ zc_turn [] (all_written cs (all_cut (cuts_in es) z))
    turn_cut es cs z is are way going =
        happens_first (all_interrupted (cuts_in es)) (all_written cs z) (all_written cs (all_cut (cuts_in es) z)) (written_exit cs z ∙ going)
        (written_exit cs (all_cut (cuts_in es) z) ∙ (all_interrupted_stays (cuts_in es) z.core).exit ∙ going) (all_cut_written es cs z is are way)

    -- ---- states whose cells hold bytes

    pub record IsTame (z : ZcState) : Type 0 where
      pub regions : HasRegions z
      pub bytes : (a : ℕ) → IsCell p a → byte_in z.core a < 256

    tame_poked : (a b : ℕ) (z : ZcState) → IsCell p a → b < 256 → IsTame z → IsTame (poked a b z)
    tame_poked a b z cell small tame = record {
      regions = regions_poked a b z tame.regions;
      bytes = λ x is. small_there lie a b cell small z.core x tame.regions (tame.bytes x is);
    }

    tame_written : (cs : List (ℕ × ℕ)) (z : ZcState) → All (IsWrite p) cs → IsTame z → IsTame (all_written cs z)
    tame_written [] z are tame = tame
    tame_written (c ∷ cs) z are tame =
        let first = All-head (IsWrite p) c cs are in
        tame_written cs (poked c.0 c.1 z) (All-tail (IsWrite p) c cs are) (tame_poked c.0 c.1 z first.0 first.1 tame)

    -- an interrupt leaves the byte of a cell, since it does the same if that byte is written before it or after it
    tame_cut : {k : ℕ} (c : Interrupt) (z : ZcState) → IsInterrupt c → OnWay p From (suc k) z → IsTame z → IsTame (cut c z)
    tame_cut {k} c z is way tame = record { regions = (interrupted_stays c z.core).extents ∙ tame.regions; bytes = bytes }
      where
        bytes : (a : ℕ) → IsCell p a → byte_in (interrupted c z.core) a < 256
        bytes a cell =
            let o = byte_in z.core a in
            let small = tame.bytes a cell in
            let none : 0 < 256 = omega arith in
            let other = poked a 0 z in
            let after = cut c other in
            let regions : HasRegions after = (interrupted_stays c other.core).extents ∙ regions_poked a 0 z tame.regions in
            let same : interrupted c z.core ≡ (poked a o after).core =
            ap (λ (y : ZcState). interrupted c y.core) (sym (poked_back lie a 0 cell none z tame.regions)) ∙ apart k other (Pokes k z a 0 cell none way) c is a o cell small in
            let at : byte_in (interrupted c z.core) a ≡ o = ap (λ y. byte_in y a) same ∙ byte_there lie a o cell small after.core regions in
            omega (arith, at, small)

    tame_all_cut : {k : ℕ} (es : List SharedEntry) (z : ZcState) → All IsEntry es → OnWay p From (suc k) z → IsTame z → IsTame (all_cut (cuts_in es) z)
    tame_all_cut [] z is way tame = tame
    tame_all_cut {k} (x ∷ es) z is way tame =
        let one = (All-head IsEntry x es is).0 in
        tame_all_cut es (cut x.entry.cut z) (All-tail IsEntry x es is) (Cuts k z x.entry.cut one way) (tame_cut x.entry.cut z one way tame)

    -- ---- commits

    module _ (commits : CommitsApart p From) where
      -- a commit with a byte written before it is one without, and then the byte is written: the byte from before is written back
      commit_back :
          {k : ℕ} (a b : ℕ) (z v : ZcState) → IsCell p a → b < 256 → OnWay p From (suc k) z → IsTame z → zc_turn [] (poked a b z) ≡ Ok v
          → (y : ZcState) × (zc_turn [] z ≡ Ok y) × (v ≡ poked a b y)
      commit_back {k} a b z v cell small way tame made =
          let o = byte_in z.core a in
          let back = commits.same k (poked a b z) v (Pokes k z a b cell small way) made a o cell (tame.bytes a cell) in
          let here : zc_turn [] z ≡ Ok (poked a o v) = ap (zc_turn []) (sym (poked_back lie a b cell small z tame.regions)) ∙ back in
          let again = commits.same k z (poked a o v) way here a b cell small in
          (poked a o v, here, one_result (zc_turn [] (poked a b z)) v (poked a b (poked a o v)) made again)

      commits_back :
          {k : ℕ} (cs : List (ℕ × ℕ)) (z v : ZcState) → All (IsWrite p) cs → OnWay p From (suc k) z → IsTame z → zc_turn [] (all_written cs z) ≡ Ok v
          → (y : ZcState) × (zc_turn [] z ≡ Ok y) × (v ≡ all_written cs y)
      commits_back [] z v are way tame made = (v, made, refl)
      commits_back {k} (c ∷ cs) z v are way tame made =
          let first = All-head (IsWrite p) c cs are in
          let rest = commits_back cs (poked c.0 c.1 z) v (All-tail (IsWrite p) c cs are) (Pokes k z c.0 c.1 first.0 first.1 way) (tame_poked c.0 c.1 z first.0 first.1 tame) made in
          let one = commit_back c.0 c.1 z rest.0 first.0 first.1 way tame rest.1 in
          (one.0, one.1, rest.2 ∙ ap (all_written cs) one.2)

      -- a commit leaves the byte of a cell
      tame_commit : {k : ℕ} (z y : ZcState) → OnWay p From (suc k) z → IsTame z → zc_turn [] z ≡ Ok y → IsTame y
      tame_commit {k} z y way tame made = record { regions = regions; bytes = bytes }
        where
          regions : HasRegions y
          regions = turn_extents z y made ∙ tame.regions

          bytes : (a : ℕ) → IsCell p a → byte_in y.core a < 256
          bytes a cell =
              let o = byte_in z.core a in
              let small = tame.bytes a cell in
              let none : 0 < 256 = omega arith in
              let other = commits.same k z y way made a 0 cell none in
              let back = commits.same k (poked a 0 z) (poked a 0 y) (Pokes k z a 0 cell none way) other a o cell small in
              let here : zc_turn [] z ≡ Ok (poked a o (poked a 0 y)) = ap (zc_turn []) (sym (poked_back lie a 0 cell none z tame.regions)) ∙ back in
              let same = one_result (zc_turn [] z) y (poked a o (poked a 0 y)) made here in
              let at : byte_in y.core a ≡ o = ap (λ (s : ZcState). byte_in s.core a) same ∙ byte_there lie a o cell small (poked a 0 y).core (regions_poked a 0 y regions) in
              omega (arith, at, small)

      commits_forward :
          {k : ℕ} (cs : List (ℕ × ℕ)) (z y : ZcState) → All (IsWrite p) cs → OnWay p From (suc k) z → zc_turn [] z ≡ Ok y
          → zc_turn [] (all_written cs z) ≡ Ok (all_written cs y)
      commits_forward [] z y are way made = made
      commits_forward {k} (c ∷ cs) z y are way made =
          let first = All-head (IsWrite p) c cs are in
          commits_forward cs (poked c.0 c.1 z) (poked c.0 c.1 y) (All-tail (IsWrite p) c cs are) (Pokes k z c.0 c.1 first.0 first.1 way)
          (commits.same k z y way made c.0 c.1 first.0 first.1)

      -- ---- all cells at the end

      pub cells_last :
          (w : ℕ) (entries : ℕ → List SharedEntry) (cs : List (ℕ × ℕ)) (z v : ZcState) → AreEntries entries → All (IsWrite p) cs → OnWay p From w z → HasRegions z
          → zc_turns (λ k. cuts_in (entries k)) w z ≡ Ok v
          → turns (λ k. all_shared ranges (entries k)) w (all_written cs z) ≡ Ok (all_written (cs ++ cells_of entries w) v)
      cells_last zero entries cs z v is are way regions h =
          ap (λ o. o >>= (λ (y : ZcState). Ok (all_written cs y))) h ∙ ap (λ ds. Ok (all_written ds v)) (sym (append-nil cs))
      cells_last (suc w) entries cs z v is are way regions h =
          let es = entries 0 in
          let later : ℕ → List SharedEntry = λ k. entries (suc k) in
          let mine = cells_in es in
          let step = bind_ok (zc_turn (cuts_in es) z) (zc_turns (λ k. cuts_in (later k)) w) v h in
          let going = commits.running w z way in
          let y = all_cut (cuts_in es) z in
          let way1 = way_cut es z (is 0) way in
          let all = All-append (IsWrite p) cs mine are (cells_in_are es (is 0)) in
          let made : zc_turn [] y ≡ Ok step.0 = sym (turn_cut es [] z (is 0) (All-nil (IsWrite p)) way going) ∙ step.1 in
          let regions1 : HasRegions y = (all_interrupted_stays (cuts_in es) z.core).extents ∙ regions in
          let first : turn (all_shared ranges es) (all_written cs z) ≡ Ok (all_written (cs ++ mine) step.0) =
          turn_shared es (all_written cs z) (is 0) (way_written cs z are way) (written_extents cs z ∙ regions) (written_exit cs z ∙ going)
          ∙ ap (λ (x : ZcState). zc_turn [] (all_written mine x)) (all_cut_written es cs z (is 0) are way)
          ∙ ap (zc_turn []) (sym (all_written-append cs mine y))
          ∙ commits_forward (cs ++ mine) y step.0 all way1 made in
          ap (λ o. o >>= turns (λ k. all_shared ranges (later k)) w) first
          ∙ cells_last w later (cs ++ mine) step.0 v (λ k. is (suc k)) all (Turns w y step.0 way1 made) (turn_extents y step.0 made ∙ regions1) step.2
          ∙ ap (λ ds. Ok (all_written ds v)) (append_assoc cs mine (cells_of later w))

    -- ---- all cells first

    pub cells_first :
        (w : ℕ) (entries : ℕ → List SharedEntry) (z v : ZcState) → AreEntries entries → OnWay p From w z → IsTame z → z.core.exit ≡ None → (1 < w → CommitsApart p From)
        → zc_turns (λ k. cuts_in (entries k)) w (all_written (cells_of entries w) z) ≡ Ok v → turns (λ k. all_shared ranges (entries k)) w z ≡ Ok v
    cells_first zero entries z v is way tame going commits h = h
    cells_first (suc zero) entries z v is way tame going commits h =
        let es = entries 0 in
        let mine = cells_in es in
        let are = cells_are 1 entries is in
        let step = bind_ok (zc_turn (cuts_in es) (all_written (mine ++ []) z)) (zc_turns (λ k. cuts_in (entries (suc k))) 0) v h in
        let first : turn (all_shared ranges es) z ≡ Ok step.0 =
        turn_shared es z (is 0) way tame.regions going
        ∙ ap (λ cs. zc_turn [] (all_written cs (all_cut (cuts_in es) z))) (sym (append-nil mine))
        ∙ sym (turn_cut es (mine ++ []) z (is 0) are way going) ∙ step.1 in
        ap (λ o. o >>= turns (λ k. all_shared ranges (entries (suc k))) 0) first ∙ step.2
    cells_first (suc (suc w)) entries z v is way tame going commits h =
        let apart_too = commits (omega arith) in
        let es = entries 0 in
        let later : ℕ → List SharedEntry = λ k. entries (suc k) in
        let mine = cells_in es in
        let rest = cells_of later (suc w) in
        let are = cells_are (suc (suc w)) entries is in
        let mine_are = cells_in_are es (is 0) in
        let rest_are = cells_are (suc w) later (λ k. is (suc k)) in
        let step = bind_ok (zc_turn (cuts_in es) (all_written (mine ++ rest) z)) (zc_turns (λ k. cuts_in (later k)) (suc w)) v h in
        let y = all_cut (cuts_in es) z in
        let x = all_written mine y in
        let way1 = way_written mine y mine_are (way_cut es z (is 0) way) in
        let tame1 = tame_written mine y mine_are (tame_all_cut es z (is 0) way tame) in
        let made : zc_turn [] (all_written rest x) ≡ Ok step.0 =
        ap (zc_turn []) (sym (all_written-append mine rest y)) ∙ sym (turn_cut es (mine ++ rest) z (is 0) are way going) ∙ step.1 in
        let back = commits_back apart_too rest x step.0 rest_are way1 tame1 made in
        let way2 = Turns (suc w) x back.0 way1 back.1 in
        ap (λ o. o >>= turns (λ k. all_shared ranges (later k)) (suc w)) (turn_shared es z (is 0) way tame.regions going ∙ back.1)
        ∙ cells_first (suc w) later back.0 v (λ k. is (suc k)) way2 (tame_commit apart_too x back.0 way1 tame1 back.1) (apart_too.running w back.0 way2) (λ more. apart_too)
        (ap (zc_turns (λ k. cuts_in (later k)) (suc w)) (sym back.2) ∙ step.2)
