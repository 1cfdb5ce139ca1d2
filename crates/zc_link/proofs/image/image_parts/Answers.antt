-- The parts are those of the layout, so the file that is made of them is its image.
use Rattle.std.proofs.Common.{◌≡◌, ◌∙◌, ◌-◌, ℕ, List, ap, sym, subst, length}
use Rattle.elf32_write.specs.Image.{NumbersFit, image_bytes}
use Rattle.psabi_sym.specs.Data.{data_end, data_file_end}
use Rattle.psabi_sym.specs.Inputs.{Inputs, parsed}
use Rattle.zc_base.specs.declared.mem_map.MemMap.{MemMap}
use Rattle.zc_base.specs.declared.place.Place.{Place}
use Rattle.zc_link.specs.Front.{image_entry}
use Rattle.zc_link.specs.ImageParts.{image_data, listed_places, parts_of}
use Rattle.zc_link.specs.TextLayout.{TextLayout}
use Rattle.zc_link.proofs.Adds.{AreBytes}
use Rattle.zc_link.proofs.ImageData.{length-image_data}
use Rattle.zc_link.proofs.ImageFile.{HasDataRoom, fits, is_image}
use Rattle.zc_link.proofs.image.image_parts.Given as given
use Rattle.zc_link.proofs.image.image_parts.Goals as goal
use Rattle.zc_link.proofs.image.image_parts.Goals.{After-entry}

-- the parts of a layout's image, from each of them
parts_same : (L : TextLayout) (flags : ℕ) (map : MemMap) (entry end : ℕ) (text bytes : List ℕ) (places : List (Place × ℕ)) → map ≡ L.inputs.map → entry ≡ image_entry L
    → places ≡ listed_places L → bytes ≡ image_data (parsed L.inputs) L.address → end ≡ data_end (parsed L.inputs) - data_file_end (parsed L.inputs)
    → record { entry = entry; flags = flags; text_at = map.text; text = text; data_at = map.data_low; data_bytes = bytes; zero = end; places = places } ≡ parts_of L flags text
parts_same L flags map entry end text bytes places is_map is_entry is_places is_bytes is_end =
    λ i. record {
      entry = is_entry i;
      flags = flags;
      text_at = (is_map i).text;
      text = text;
      data_at = (is_map i).data_low;
      data_bytes = is_bytes i;
      zero = is_end i;
      places = is_places i;
    }

-- the layout
abbrev of : (g : given.Over) → After-entry g → TextLayout
of g c = g.L.Layout.layout c.args.layout.now

-- the objects are its inputs
same : (g : given.Over) (c : After-entry g) → c.objects-objects.result.now ≡ (of g c).inputs
same g c = c.objects-objects.ensures.same ∙ c.cut.ensures.same

-- the places are those that it lists
places_same : (g : given.Over) (c : After-entry g) → c.in_ok-laid.laid.places.items ≡ listed_places (of g c)
unfolding listed_places
places_same g c = c.in_ok-laid.ensures.listed

-- all that is given
written : (g : given.Over) (c : After-entry g)
    → record { entry = c.entry.result; flags = c.args.flags; text_at = c.map-map.result.text; text = c.in_ok-laid.laid.text.items; data_at = c.map-map.result.data_low; data_bytes = c.in_ok-bytes.bytes.items; zero = c.zeros_after-zero.result; places = c.in_ok-laid.laid.places.items }
    ≡ parts_of (of g c) c.args.flags c.in_ok-laid.laid.text.items
written g c =
    parts_same (of g c) c.args.flags c.map-map.result c.entry.result c.zeros_after-zero.result c.in_ok-laid.laid.text.items c.in_ok-bytes.bytes.items c.in_ok-laid.laid.places.items
    (c.map-map.ensures.value ∙ ap (λ (x : Inputs). x.map) (same g c)) c.entry.ensures (places_same g c) c.in_ok-bytes.ensures
    (c.zeros_after-zero.ensures.value ∙ ap (λ (x : Inputs). data_end (parsed x) - data_file_end (parsed x)) (same g c))

-- what is known of the data
room : (g : given.Over) (c : After-entry g) → HasDataRoom (parsed (of g c).inputs)
room g c = subst (λ (x : Inputs). HasDataRoom (parsed x)) (same g c) c.zeros_after-zero.ensures.most

data_are : (g : given.Over) (c : After-entry g) → AreBytes (image_data (parsed (of g c).inputs) (of g c).address)
data_are g c = subst AreBytes (c.deref.ensures.value ∙ c.in_ok-bytes.ensures) c.zeros_after-zero.ensures.range

pub zeros_after-zero-requires : goal.zeros_after-zero-requires
zeros_after-zero-requires g c =
    let layout = g.L.Layout.layout c.args.layout.now in
    ap length (c.deref.ensures.value ∙ c.in_ok-bytes.ensures) ∙ length-image_data (parsed layout.inputs) layout.address
    ∙ ap (λ (x : Inputs). data_file_end (parsed x) - x.map.data_low) (sym (c.objects-objects.ensures.same ∙ c.cut.ensures.same))

pub returns-clause-fit : goal.returns-clause-fit
returns-clause-fit g c =
    let a = (goal.at.returns-clause-fit g c).After-entry in
    subst NumbersFit (sym (written g a))
    (fits (of g a) a.cut.ensures.ready a.cut.ensures.laid a.args.flags a.requires (room g a) a.in_ok-laid.laid.text.items a.in_ok-laid.laid.places.items a.in_ok-laid.ensures (data_are g a))

pub returns-clause-image : goal.returns-clause-image
returns-clause-image g c =
    let a = (goal.at.returns-clause-image g c).After-entry in
    is_image (of g a) a.cut.ensures.ready a.cut.ensures.laid a.args.flags a.requires (room g a) a.in_ok-laid.laid.text.items a.in_ok-laid.laid.places.items a.in_ok-laid.ensures (data_are g a)
    _ (ap image_bytes (written g a))
