-- The headline: what stands under OUT after `zc` or `plain` has ended with Done or `share` with the end of its run, and under PREFIX0.o
-- and so on after `gc` or `merge` has ended with Done, over a store that tells its files.
use Rattle.std.specs.Prelude.{◌≡◌, ℕ, List, length, map, Option, Some, ⊤}
use Rattle.psabi_sym.specs.Inputs.{Inputs, inputs_in, parsed}
use Rattle.section_gc.specs.Collected.{collected_place}
use Rattle.sym_machine.specs.Objects.{program_of}
use Rattle.tail_merge.specs.Merged.{merged_place}
use Rattle.zc_base.specs.Options.{Options}
use Rattle.zc_base.specs.declared.place.Place.{Place}
use Rattle.zc_link.specs.Image.{Image, image_in}
use Rattle.zc_link.specs.Preserves.{FollowsWithin, Preserves}
use Rattle.zc_outside.specs.Files.{Files}
use Rattle.command_words.specs.Command.{Command, Gc, Merge, Plain, Share, Zc}
use Rattle.zcld.specs.declared.outcome.Outcome.{Outcome}
use Rattle.zcld.specs.declared.outcome.Outcome.TheVariants.{Done, Exited, Spent, Stopped}
use Rattle.zcld.specs.ObjectNames.{names_from}

-- objects stood under the names, and under OUT stands an image that does what their program does, both in the memory
-- map of the options, under every plan of interrupts
abbrev pub HoldsImage : Options → List ℕ → List (List ℕ) → Files → Files → Type 0
HoldsImage options out names before after =
    (objects : List (List ℕ)) × (elf : List ℕ) × (map before names ≡ map Some objects) × (after out ≡ Some elf)
    × Preserves (inputs_in options objects) elf

-- the file is an image without a fault, and under every plan of interrupts it does what the objects' program does, within so many
-- commits for each step, if each of the program's places is looked up where it was moved to
pub record PreservesMoved (most : ℕ) (moved : Place → Place) (inputs : Inputs) (elf : List ℕ) : Type 0 where
  pub image : Image
  pub read : image_in elf inputs.map ≡ Some image
  pub follows : FollowsWithin most (program_of (parsed inputs)) (record image { address = λ q. image.address (moved q) })

-- objects stood under the names, and as many results stand under PREFIX0.o and so on; whatever image does what the results' program
-- does, does what the objects' program does in this way, all under the options
abbrev pub HoldsResults : Options → (Inputs → List ℕ → Type 0) → List ℕ → List (List ℕ) → Files → Files → Type 0
HoldsResults options Follows prefix names before after =
    (objects results : List (List ℕ)) × (map before names ≡ map Some objects) × (length results ≡ length objects)
    × (map after (names_from prefix 0 (length results)) ≡ map Some results)
    × ((elf : List ℕ) → Preserves (inputs_in options results) elf → Follows (inputs_in options objects) elf)

-- under the options that the words give, `zc` or `plain` that ended with Done put such an image, `gc` and `merge` such results, and `share`
-- whose run came to its end such an image, if the store told its files before and tells them after. `gc` moves sections. `merge`
-- moves items, and a step into a removed tail takes a jump before it
abbrev pub Links : Option Command → Outcome → Option Files → Option Files → Type 0
Links (Some (Zc options out cert names)) Done (Some before) (Some after) = HoldsImage options out names before after
Links (Some (Plain options out names)) Done (Some before) (Some after) = HoldsImage options out names before after
Links (Some (Gc options prefix names)) Done (Some before) (Some after) =
    HoldsResults options (λ inputs. PreservesMoved 64 (collected_place inputs) inputs) prefix names before after
Links (Some (Merge options prefix names)) Done (Some before) (Some after) =
    HoldsResults options (λ inputs. PreservesMoved 128 (merged_place (parsed inputs)) inputs) prefix names before after
Links (Some (Share options out plan steps names)) (Exited code) (Some before) (Some after) =
    HoldsImage options out names before after
Links (Some (Share options out plan steps names)) (Stopped reason pc) (Some before) (Some after) =
    HoldsImage options out names before after
Links (Some (Share options out plan steps names)) Spent (Some before) (Some after) = HoldsImage options out names before after
Links command outcome before after = ⊤
