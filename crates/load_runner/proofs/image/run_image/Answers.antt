-- The machine starts in the initial state of the link's image.
use Rattle.std.proofs.Common.{◌∙◌, ℕ, List, ap, ap₂}
use Rattle.zc_base.specs.declared.mem_map.MemMap.{MemMap}
use Rattle.zc_link.specs.Links.{Link}
use Rattle.zc_machine.specs.Load.{first_core_of}
use Rattle.load_runner.proofs.image.run_image.Goals as goal

pub run_machine-requires : goal.run_machine-requires
run_machine-requires c =
    let image = ap (λ (i : List ℕ × MemMap). i.0) c.in-Ok.ensures.0 ∙ c.as_slice.ensures.value ∙ ap (λ (l : Link). l.elf) c.linked.view_is in
    let map = ap (λ (i : List ℕ × MemMap). i.1) c.in-Ok.ensures.0 ∙ c.standard.ensures in
    record { elf = c.args.linked.now.elf; first = c.in_ok-machine.ensures ∙ ap₂ first_core_of image map; exits = c.requires.exits }
