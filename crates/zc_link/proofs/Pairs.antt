-- The `auipc` that a lower part goes with leads to what has an address, if the places that begin basic blocks have.
use Rattle.std.proofs.Common.{◌≡◌, ℕ, Option, Some, None, true, ap, ◌∙◌}
use Rattle.std.specs.Option.{option_and_then, option_map}
use Rattle.zc_base.specs.declared.place.Place.{Place}
use Rattle.elf32_read.specs.Parts.{SectionParts}
use Rattle.elf32_read.specs.declared.reloc.Reloc.{Reloc}
use Rattle.psabi_reloc.specs.Kinds.{kind_of}
use Rattle.psabi_sym.specs.Inputs.{Inputs, ParsedInputs, parsed}
use Rattle.psabi_sym.specs.declared.target.Target.TheVariants.{Code}
use Rattle.block_cut.specs.Faults.{first_fault}
use Rattle.block_cut.specs.Items.{code_at, is_target_at, item_at, target_of}
use Rattle.block_cut.specs.Relocs.{is_pcrel_lo, reloc_on}
use Rattle.block_cut.proofs.SoundLaws.{sound_at}
use Rattle.block_cut.proofs.WholeLaws.{code_is_section}
use Rattle.sym_machine.specs.AddressParts.{pc_target}
use Rattle.moved_runs.proofs.Faultless.{reloc_good}
use Rattle.moved_runs.proofs.Led.{asks_at, reloc_leader}
use Rattle.moved_runs.proofs.Pairs.{upper_with}
use Rattle.zc_link.specs.LaidOut.{ListsLeaders}
use Rattle.zc_link.specs.Values.{target_value, way}
use Rattle.zc_link.specs.Standing.{HasWay}
use Rattle.zc_link.proofs.Faultless.{leader_listed, reloc_value}

module _ (inputs : Inputs) (none : first_fault inputs ≡ None) (A : Place → Option ℕ) (leaders : ListsLeaders (parsed inputs) A) where
  abbrev p2 : ParsedInputs
  p2 = parsed inputs

  -- a lower part's `auipc`
  pub goes_with : (q from : Place) (s : SectionParts) (r : Reloc) → code_at p2.objects q ≡ Some s → reloc_on s q.offset ≡ Some r → is_pcrel_lo (kind_of r.kind) ≡ true → target_of p2 q.object r ≡ Code from
      → is_target_at p2.objects from ≡ true → HasWay A (item_at p2) from
  goes_with q from s r at is lower leads target =
      let upper = upper_with inputs none q from s r at is lower leads target in
      let own = code_is_section p2.objects from upper.section upper.code in
      let sound = sound_at upper.section from.offset upper.reloc own.1 upper.on in
      let has = reloc_value p2 A leaders (asks_at p2 from upper.section upper.reloc upper.code upper.on sound.asks)
      (reloc_good inputs none from.object from.section from.offset upper.section upper.reloc own.0 upper.on) in
      let two = code_is_section p2.objects q s at in
      let asks = asks_at p2 q s r at is (sound_at s q.offset r two.1 is).asks in
      let address = leader_listed p2 A leaders from target (reloc_leader p2 from asks leads) in (
        way address.0 has.0,
        (λ j. option_and_then (λ a. option_map (way a) (option_and_then (target_value A) (pc_target (upper.item j)))) (address.1 j))
            ∙ ap (option_map (way address.0)) has.1,
      )
