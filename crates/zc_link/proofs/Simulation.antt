-- A laid image keeps step with the program: the start is sound, each piece's law is its step, and cells of data lie apart from
-- interrupts. So the image follows the program under every plan, and its file preserves the objects' program.
use Rattle.std.proofs.Common.{◌≡◌, ℕ, List, Some, ◌<◌, None, Ok, Option, refl}
use Rattle.std.specs.Prelude.{IsSome}
use Rattle.std.proofs.lemmas.Bool.{false≢true}
use Rattle.zc_base.specs.declared.place.Place.{Place}
use Rattle.psabi_sym.specs.Inputs.{Inputs, parsed}
use Rattle.sym_machine.specs.Objects.{program_of}
use Rattle.rv_decode.specs.Run.{iterate}
use Rattle.sym_machine.specs.Program.{Program}
use Rattle.sym_machine.specs.Run.{plain_turn}
use Rattle.sym_machine.specs.State.{PlainState}
use Rattle.zc_link.specs.Image.{Image, image_in}
use Rattle.zc_link.specs.Invariants.Laid.{Laid}
use Rattle.zc_link.specs.Pace.{Stretch, pace_of, span_of}
use Rattle.zc_link.specs.Preserves.{FollowsAlways, Preserves, aligns_of}
use Rattle.zc_link.specs.IsSimulation.{IsPaced, IsSimulation, IsInside}
use Rattle.zc_link.proofs.Apart.{commits_apart, cuts_apart, lead_commits_apart, lead_cuts_apart}
use Rattle.zc_link.proofs.Induction as induction
use Rattle.zc_link.proofs.Stretches.{stretch_comes, stretch_inside}
use Rattle.zc_link.proofs.Start.{starts}

module _ (p : Program) (Named : Place → Type 0) (e : Image) (stretch : Place → Stretch) (laid : Laid p Named e stretch) where
  pub simulates : IsSimulation p Named e (pace_of p stretch)
  simulates = record {
    some = laid.some;
    few = laid.few;
    step = λ r r' h cuts are z so same devices outside.
        stretch_comes r (stretch r.core.place) laid.room laid.leads cuts are so same devices outside (laid.each r.core.place z.core.pc so.place) h;
    inside = λ k r r' some lt listed running h. inside k r r' some lt running h (e.address r.core.place) refl listed;
    start = λ w first is bytes cuts are. starts laid w.sp_set first is w.devices w.input bytes cuts are;
    cells = laid.cells;
    cuts_apart = cuts_apart laid;
    commits_apart = commits_apart laid;
    lead_cuts_apart = lead_cuts_apart laid;
    lead_commits_apart = lead_commits_apart laid;
  }
    where
      -- the stretch at a listed place is laid there
      inside :
          (k : ℕ) (r r' : PlainState) → 0 < k → k < span_of (stretch r.core.place) → r.core.exit ≡ None → iterate (plain_turn p) k r ≡ Ok r' → (o : Option ℕ) → e.address r.core.place ≡ o
          → IsSome o → IsInside e r r'
      inside k r r' some lt running h (Some a) is listed = stretch_inside p e a r r' (stretch r.core.place) k (laid.each r.core.place a is) some lt running h
      inside k r r' some lt running h None is listed = absurd (false≢true listed)

  pub follows : (aligns : ℕ) → IsPaced p (pace_of p stretch) aligns → FollowsAlways p aligns e
  follows aligns paced = induction.follows p Named e (pace_of p stretch) simulates aligns paced

-- ---- files

-- a file whose image is laid for the objects' program preserves it
pub laid_preserves :
    (inputs : Inputs) (elf : List ℕ) (Named : Place → Type 0) (e : Image) (stretch : Place → Stretch) → image_in elf inputs.map ≡ Some e → Laid (program_of (parsed inputs)) Named e stretch
    → IsPaced (program_of (parsed inputs)) (pace_of (program_of (parsed inputs)) stretch) (aligns_of (parsed inputs)) → Preserves inputs elf
laid_preserves inputs elf Named e stretch read laid paced =
    record { image = e; read = read; follows = follows (program_of (parsed inputs)) Named e stretch laid (aligns_of (parsed inputs)) paced }
