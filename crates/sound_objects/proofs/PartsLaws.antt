-- The files of parts: they read as the parts, with section 0 and symbol 0 before and what is added behind, and are sound if what is
-- said of the parts holds.
use Rattle.std.proofs.Common.{◌≡◌, ℕ, zero, suc, ◌+◌, ◌<◌, ◌≤◌, List, [], ◌∷◌, ◌++◌, length, map, true, false, Option, Some, None, slice_get, refl, sym, ap, subst, ◌∙◌, arith}
use Rattle.std.specs.Prelude.{◌||◌, All}
use Rattle.std.specs.List.{list_any, sum_by}
use Rattle.std.specs.Option.{option_and_then, option_map}
use Rattle.std.proofs.lemmas.Bool.{or_parts}
use Rattle.std.proofs.lemmas.List.{length-map, map-append}
use Rattle.std.proofs.lemmas.List.Elements.{All-head, All-map, All-tail, All-weaker}
use Rattle.std.proofs.lemmas.List.Sums.{sum_by-append, sum_by-cons}
use Rattle.std.proofs.lemmas.Option.{slice_get-map, slice_get_within}
use Rattle.zc_base.specs.declared.mem_map.MemMap.{MemMap}
use Rattle.elf32_read.specs.Header.{section_count}
use Rattle.elf32_read.specs.Object.{object_fault}
use Rattle.elf32_read.specs.Parts.{ObjectParts, SectionParts, SymbolParts, is_code_section, is_kept_section, object_parts, section_parts}
use Rattle.elf32_write.specs.FileSections.{FileSection, added_sections}
use Rattle.elf32_write.specs.ObjectFile.{object_bytes, object_size}
use Rattle.elf32_write.specs.Ranges.{IsPartsSized}
use Rattle.elf32_write.specs.Writable.{IsObjectOf, added_part, added_parts, in_object, null_part}
use Rattle.elf32_write.proofs.FileHeaderBack.{length-object_bytes}
use Rattle.elf32_write.proofs.ObjectBack.{object_back}
use Rattle.elf32_write.proofs.SoundBack.{sound_readable, sound_writable}
use Rattle.elf32_write.proofs.SoundParts.{AreSoundParts}
use Rattle.psabi_sym.specs.Data.{data_end, role_of}
use Rattle.psabi_sym.specs.Faults.{code_room, common_room, data_room, gather_fault, object_code, object_data}
use Rattle.psabi_sym.specs.Indexed.{IndexedSection, symbol_at}
use Rattle.psabi_sym.specs.Inputs.{ParsedInputs, parsed}
use Rattle.psabi_sym.proofs.PartLaws.{section_count_is, section_got}
use Rattle.psabi_sym.proofs.RoomLaws.{data_end-sums}
use Rattle.block_cut.specs.Faults.{first_fault}
use Rattle.block_cut.specs.Items.{entry_in}
use Rattle.block_cut.specs.Whole.{IsWhole}
use Rattle.block_cut.proofs.WholeLaws.{file_whole}
use Rattle.sound_objects.specs.Parts.{AreWellFormed, CanBeWritten, inputs_of_parts, objects_of, parts_code, parts_data, read_of}
use Rattle.sound_objects.specs.WellFormed.{AllBranchesReach, AllRelocsAreRight, HaveDefinitions, AreSingle, HasSection}
use Rattle.sound_objects.proofs.FaultlessLaws.{well_formed_faultless}
use Rattle.sound_objects.proofs.ListLaws.{all_at}

-- ---- reading back

-- parts whose file has no fault, section by section and symbol by symbol, can be written
pub sound_written : (p : ObjectParts) → AreSoundParts p → IsPartsSized p.sections p.symbols → CanBeWritten p
sound_written p sound sized = record { writable = sound_writable p sound sized; flags = (sound_readable p sound sized).flags; sized = sized }

-- a file of parts that can be written is an object of them
pub written_object : (p : ObjectParts) → CanBeWritten p → IsObjectOf p (object_bytes p)
written_object p can = object_back p can.writable can.flags can.sized

pub reads_as : (p : ObjectParts) → CanBeWritten p → object_parts (object_bytes p) ≡ read_of p
reads_as p can =
    let back = written_object p can in
    λ i. record { flags = back.flags i; sections = back.sections i; symbols = back.symbols i }

all_read : (parts : List ObjectParts) → All CanBeWritten parts → map object_parts (map object_bytes parts) ≡ map read_of parts
all_read [] all = refl
all_read (p ∷ parts) all =
    let head = reads_as p (All-head CanBeWritten p parts all) in
    let tail = all_read parts (All-tail CanBeWritten p parts all) in
    λ i. head i ∷ tail i

pub parsed_is : (memory : MemMap) (parts : List ObjectParts) → All CanBeWritten parts → parsed (inputs_of_parts memory parts) ≡ objects_of memory parts
parsed_is memory parts all = λ i. record { objects = all_read parts all i; map = memory; fixed = [] }

-- ---- sums

-- what is dropped takes no room
dropped_code : (s : SectionParts) → is_kept_section s ≡ false → code_room s ≡ 0
unfolding role_of
dropped_code s dropped = rw dropped refl

dropped_data : (s : SectionParts) → is_kept_section s ≡ false → data_room s ≡ 0
unfolding role_of
dropped_data s dropped = rw dropped refl

none_roomy : (room : SectionParts → ℕ) → ((s : SectionParts) → is_kept_section s ≡ false → room s ≡ 0) → (ss : List SectionParts) → list_any is_kept_section ss ≡ false → sum_by room ss ≡ 0
none_roomy room none [] dropped = refl
none_roomy room none (s ∷ ss) dropped =
    let two = or_parts (is_kept_section s) (list_any is_kept_section ss) dropped in
    omega (arith, sum_by-cons room s ss, none s two.0, none_roomy room none ss two.1)

-- a section is kept whatever its object's flags are
kept_same : (flags : ℕ) (ss : List SectionParts) → list_any is_kept_section (map (in_object flags) ss) ≡ list_any is_kept_section ss
kept_same flags [] = refl
kept_same flags (s ∷ ss) = ap (λ b. is_kept_section s || b) (kept_same flags ss)

-- what is added is dropped
added_dropped : (p : ObjectParts) → CanBeWritten p → list_any is_kept_section (map (in_object p.flags) (added_parts p)) ≡ false
added_dropped p can = kept_same p.flags (added_parts p) ∙ (written_object p can).dropped

-- the sections of a file take the room of the given ones
given_room : (room : SectionParts → ℕ) → ((s : SectionParts) → is_kept_section s ≡ false → room s ≡ 0) → (p : ObjectParts) → CanBeWritten p
    → sum_by room (read_of p).sections ≡ sum_by room (map (in_object p.flags) p.sections)
given_room room none p can =
    let put = in_object p.flags in
    let null = put null_part in
    omega (
      arith,
      sum_by-cons room null (map put (p.sections ++ added_parts p)),
      ap (sum_by room) (map-append put p.sections (added_parts p)),
      sum_by-append room (map put p.sections) (map put (added_parts p)),
      none null refl,
      none_roomy room none (map put (added_parts p)) (added_dropped p can),
    )

code_is : (p : ObjectParts) → CanBeWritten p → object_code (object_parts (object_bytes p)) ≡ parts_code p
code_is p can = ap object_code (reads_as p can) ∙ given_room code_room dropped_code p can

read_data : (p : ObjectParts) → CanBeWritten p → object_data (read_of p) ≡ parts_data p
read_data p can = ap (λ n. n + sum_by common_room p.symbols) (given_room data_room dropped_data p can)

data_is : (p : ObjectParts) → CanBeWritten p → object_data (object_parts (object_bytes p)) ≡ parts_data p
data_is p can = ap object_data (reads_as p can) ∙ read_data p can

-- sums over files are sums over parts
sum_same : (f : List ℕ → ℕ) (g : ObjectParts → ℕ) → ((p : ObjectParts) → CanBeWritten p → f (object_bytes p) ≡ g p) → (parts : List ObjectParts) → All CanBeWritten parts
    → sum_by f (map object_bytes parts) ≡ sum_by g parts
sum_same f g same [] all = refl
sum_same f g same (p ∷ parts) all =
    omega (
      arith,
      sum_by-cons f (object_bytes p) (map object_bytes parts),
      sum_by-cons g p parts,
      same p (All-head CanBeWritten p parts all),
      sum_same f g same parts (All-tail CanBeWritten p parts all),
    )

-- data of files end no higher than the sums of the parts say
sum_read : (parts : List ObjectParts) → All CanBeWritten parts → sum_by object_data (map read_of parts) ≡ sum_by parts_data parts
sum_read [] all = refl
sum_read (p ∷ parts) all =
    omega (
      arith,
      sum_by-cons object_data (read_of p) (map read_of parts),
      sum_by-cons parts_data p parts,
      read_data p (All-head CanBeWritten p parts all),
      sum_read parts (All-tail CanBeWritten p parts all),
    )

pub parts_end : (memory : MemMap) (parts : List ObjectParts) → All CanBeWritten parts → data_end (objects_of memory parts) ≤ memory.data_low + sum_by parts_data parts + 96
parts_end memory parts all = omega (arith, data_end-sums (objects_of memory parts), sum_read parts all)

-- ---- sections and symbols

-- a section of what the files read as: a given one, or one that is dropped and has no relocations
pub data IsSectionIn (parts : List ObjectParts) (l : IndexedSection) : Type 0 where
  Given : (p : ObjectParts) (k : ℕ) → slice_get parts l.object ≡ Some p → l.index ≡ suc k → slice_get (map (in_object p.flags) p.sections) k ≡ Some l.section → IsSectionIn parts l
  Bare : is_kept_section l.section ≡ false → l.section.relocs ≡ [] → IsSectionIn parts l

-- an element of two lists
data IsOneOf {X : Type 0} (xs ys : List X) (k : ℕ) (x : X) : Type 0 where
  OfFirst : slice_get xs k ≡ Some x → IsOneOf xs ys k x
  OfSecond : (j : ℕ) → slice_get ys j ≡ Some x → IsOneOf xs ys k x

one_of : {X : Type 0} (xs ys : List X) (k : ℕ) (x : X) → slice_get (xs ++ ys) k ≡ Some x → IsOneOf xs ys k x
one_of [] ys k x at = OfSecond k at
one_of (y ∷ xs) ys zero x at = OfFirst at
one_of (y ∷ xs) ys (suc k) x at = by (one_of xs ys k x at)
  where
    by : IsOneOf xs ys k x → IsOneOf (y ∷ xs) ys (suc k) x
    by (OfFirst is) = OfFirst is
    by (OfSecond j is) = OfSecond j is

dropped_at : (ss : List SectionParts) (j : ℕ) (s : SectionParts) → list_any is_kept_section ss ≡ false → slice_get ss j ≡ Some s → is_kept_section s ≡ false
dropped_at [] j s dropped at = absurd cc
dropped_at (t ∷ ss) zero s dropped at =
    let same : t ≡ s = cc in
    ap is_kept_section (sym same) ∙ (or_parts (is_kept_section t) (list_any is_kept_section ss) dropped).0
dropped_at (t ∷ ss) (suc j) s dropped at = dropped_at ss j s (or_parts (is_kept_section t) (list_any is_kept_section ss) dropped).1 at

bare_at : (flags : ℕ) (fs : List FileSection) (j : ℕ) (s : SectionParts) → slice_get (map (in_object flags) (map added_part fs)) j ≡ Some s → s.relocs ≡ []
bare_at flags [] j s at = absurd cc
bare_at flags (f ∷ fs) zero s at = let same : in_object flags (added_part f) ≡ s = cc in ap (λ (t : SectionParts). t.relocs) (sym same)
bare_at flags (f ∷ fs) (suc j) s at = bare_at flags fs j s at

-- an object of what the files read as is one of the parts
part_at : (parts : List ObjectParts) (o : ℕ) {X : Type 0} (f : ObjectParts → Option X) (x : X) → option_and_then f (slice_get (map read_of parts) o) ≡ Some x
    → (p : ObjectParts) × (slice_get parts o ≡ Some p) × (f (read_of p) ≡ Some x)
part_at parts o f x is = by (slice_get parts o) refl (ap (option_and_then f) (sym (slice_get-map read_of parts o)) ∙ is)
  where
    by : (found : Option ObjectParts) → slice_get parts o ≡ found → option_and_then f (option_map read_of found) ≡ Some x
        → (p : ObjectParts) × (slice_get parts o ≡ Some p) × (f (read_of p) ≡ Some x)
    by None at is = absurd cc
    by (Some p) at is = (p, at, is)

pub section_in : (parts : List ObjectParts) → All CanBeWritten parts → (l : IndexedSection) → HasSection (map read_of parts) l → IsSectionIn parts l
section_in parts all l has = of_part own.0 own.1 l.index refl own.2
  where
    own : (p : ObjectParts) × (slice_get parts l.object ≡ Some p) × (slice_get (read_of p).sections l.index ≡ Some l.section)
    own = part_at parts l.object (λ object. slice_get object.sections l.index) l.section has

    of_part : (p : ObjectParts) → slice_get parts l.object ≡ Some p → (i : ℕ) → l.index ≡ i → slice_get (read_of p).sections i ≡ Some l.section → IsSectionIn parts l
    of_part p at zero index is =
        let same : in_object p.flags null_part ≡ l.section = cc in
        Bare (ap is_kept_section (sym same)) (ap (λ (s : SectionParts). s.relocs) (sym same))
    of_part p at (suc k) index is = by (one_of given added k l.section (ap (λ ss. slice_get ss k) (sym (map-append (in_object p.flags) p.sections (added_parts p))) ∙ is))
      where
        given : List SectionParts
        given = map (in_object p.flags) p.sections

        added : List SectionParts
        added = map (in_object p.flags) (added_parts p)

        by : IsOneOf given added k l.section → IsSectionIn parts l
        by (OfFirst found) = Given p k at index found
        by (OfSecond j found) =
            Bare (dropped_at added j l.section (added_dropped p (all_at CanBeWritten parts l.object p all at)) found)
            (bare_at p.flags (added_sections p.sections p.symbols) j l.section found)

-- symbols other than symbol 0 are given
pub symbol_in : (parts : List ObjectParts) (o i : ℕ) (s : SymbolParts) → symbol_at (map read_of parts) o (suc i) ≡ Some s
    → (p : ObjectParts) × (slice_get parts o ≡ Some p) × (slice_get p.symbols i ≡ Some s)
symbol_in parts o i s is = part_at parts o (λ object. slice_get object.symbols (suc i)) s is

-- ---- code is whole

pub written_whole : (p : ObjectParts) → CanBeWritten p → (i : ℕ) (s : SectionParts) → slice_get (read_of p).sections i ≡ Some s → is_code_section s ≡ true → IsWhole s
written_whole p can i s at code =
    let file = object_bytes p in
    let here : slice_get (object_parts file).sections i ≡ Some s = ap (λ (o : ObjectParts). slice_get o.sections i) (reads_as p can) ∙ at in
    let within : i < section_count file = omega (arith, slice_get_within (object_parts file).sections i s here, section_count_is file) in
    let same : section_parts file i ≡ s = cc (section_got file i within, here) in
    subst IsWhole same (file_whole file i (written_object p can).faultless within (ap is_code_section same ∙ code))

-- ---- the whole

pub are_faultless : (memory : MemMap) (parts : List ObjectParts) → AreWellFormed memory parts → first_fault (inputs_of_parts memory parts) ≡ None
are_faultless memory parts sound = well_formed_faultless (inputs_of_parts memory parts) (record {
  few = omega (arith, length-map parts object_bytes, sound.few);
  readable =
      All-map (λ f. object_fault f ≡ None) object_bytes parts
      (All-weaker CanBeWritten (λ p. object_fault (object_bytes p) ≡ None) (λ p can. (written_object p can).faultless) parts sound.written);
  small = record {
    file_bytes = omega (arith, sum_same length object_size (λ p can. length-object_bytes p) parts sound.written, sound.small.file_bytes);
    code_room = omega (arith, sum_same (λ f. object_code (object_parts f)) parts_code code_is parts sound.written, sound.small.code_room);
    data_room = omega (arith, sum_same (λ f. object_data (object_parts f)) parts_data data_is parts sound.written, sound.small.data_room);
  };
  single = subst (λ (i : ParsedInputs). AreSingle i.objects) (sym is) sound.single;
  defined = subst HaveDefinitions (sym is) sound.defined;
  room = subst (λ (i : ParsedInputs). data_end i ≤ i.map.stack_low) (sym is) sound.room;
  relocs = subst AllRelocsAreRight (sym is) sound.relocs;
  entry = sound.entry;
  entry_found = subst (λ (i : ParsedInputs). entry_in i ≡ Some sound.entry) (sym is) sound.entry_found;
  near = subst (λ (i : ParsedInputs). gather_fault (inputs_of_parts memory parts) ≡ None → AllBranchesReach i) (sym is) sound.near;
})
  where
    is : parsed (inputs_of_parts memory parts) ≡ objects_of memory parts
    is = parsed_is memory parts sound.written
