-- The file of a layout's image: it reads back as the image of the text that was laid and the data, which is laid as a layout owes; so
-- it does what the objects' program does. And what it copies is the objects'.
use Rattle.std.proofs.Common.{◌≡◌, ℕ, ◌+◌, ◌-◌, ◌%◌, ◌<◌, ◌≤◌, List, [], ◌∷◌, length, filter, replicate, Option, Some, None, true, zero, suc, refl, sym, ap, ◌∙◌, subst, arith, get_or, length-append, cond}
use Rattle.std.specs.Prelude.{All}
use Rattle.std.proofs.lemmas.List.{length-replicate}
use Rattle.std.proofs.lemmas.Option.{none-some}
use Rattle.zc_base.specs.MemMap.{data_limit}
use Rattle.zc_base.specs.declared.place.Place.{Place}
use Rattle.elf32_read.specs.Header.{are_known_flags}
use Rattle.elf32_read.specs.Parts.{SectionParts}
use Rattle.elf32_read.specs.Places.{place_list}
use Rattle.elf32_read.specs.Segments.{SegmentData, segments_of}
use Rattle.elf32_write.specs.Image.{NumbersFit, image_bytes}
use Rattle.elf32_write.specs.Loadable.{IsLoadable, ReadsBack}
use Rattle.elf32_write.specs.Parts.{Parts}
use Rattle.elf32_write.proofs.ImageBack.{image_back}
use Rattle.psabi_sym.specs.Data.{data_end, data_file_end}
use Rattle.psabi_sym.specs.Faults.{gather_fault}
use Rattle.psabi_sym.specs.Inputs.{Inputs, ParsedInputs, parsed}
use Rattle.psabi_sym.specs.Indexed.{all_sections}
use Rattle.psabi_sym.proofs.ContentLaws.{data_file_end-le, data_low-le}
use Rattle.rv_decode.specs.Memory.{cell_at}
use Rattle.rv_decode.specs.State.{byte_in}
use Rattle.block_cut.specs.Items.{code_at, entry_of, item_at, size_at}
use Rattle.block_cut.specs.declared.item.Item.{Item}
use Rattle.block_cut.specs.declared.item.Item.TheVariants.{Op, Hi, Lo, PcHi, PcLo, Branch, Jump, Call, Align, Word, Raw, RawShort, RawPair}
use Rattle.shrink_layout.specs.Units.{CodeUnit, OneGroup, OneItem, OneSite, jump_of}
use Rattle.zc_link.proofs.GroupItems.{group_op}
use Rattle.sym_machine.specs.Objects.{data_bytes, program_of}
use Rattle.sym_machine.specs.Program.{Program, start_memory}
use Rattle.sym_machine.specs.declared.word.SymByte.TheVariants.{Undef}
use Rattle.sym_machine.specs.declared.word.Value.{Value}
use Rattle.zc_link.specs.Copied.{IsCopiedTo, ItemCopied, bytes_from}
use Rattle.zc_link.specs.Front.{image_entry, start_address}
use Rattle.zc_link.specs.Image.{Image, image_in, loaded_core}
use Rattle.zc_link.specs.ImageParts.{image_data, listed_places, parts_of}
use Rattle.zc_link.specs.Invariants.Laid.{AtEntry, Begins, BehindStub, Laid, StubLaid}
use Rattle.zc_link.specs.LaidOut.{HasForm, IsLaidOut, LiesAt, text_end, linked_by}
use Rattle.zc_link.specs.IsSimulation.{IsPaced, IsSimulation}
use Rattle.zc_link.specs.Links.{IsImageOf}
use Rattle.zc_link.specs.Pace.{pace_of}
use Rattle.zc_link.specs.Places.{listed_address}
use Rattle.zc_link.specs.Preserves.{Preserves, aligns_of}
use Rattle.zc_link.specs.Invariants.Room.{Room}
use Rattle.moved_runs.specs.Leads.{IsNamed}
use Rattle.zc_link.specs.Sound.{NamesByte}
use Rattle.zc_link.specs.Standing.{IsReady}
use Rattle.zc_link.specs.Stands.{ByteStands}
use Rattle.zc_link.specs.TextLayout.{TextLayout, behind, stretch_in}
use Rattle.zc_link.specs.Values.{target_value, value_in}
use Rattle.zc_link.specs.Written.{HoldsPlace, HoldsUnit, IsTextOf, IsWritten}
use Rattle.zc_link.proofs.ImageMemory.{AreLaidOut, image_of}
use Rattle.zc_link.proofs.Adds.{AreBytes}
use Rattle.zc_link.proofs.ImageData.{AreFine, data_fine, length-image_data}
use Rattle.moved_runs.proofs.Faultless.{all_none}
use Rattle.zc_link.proofs.FrontLaws.{front_within, size_some, starts_at_stub, starts_there}
use Rattle.zc_link.proofs.LaidLaws.{unit_there}
use Rattle.zc_link.proofs.StretchesLaid.{ShowsLayout, distinct, each, even}
use Rattle.zc_link.proofs.SizedPieces.{few, some}
use Rattle.zc_link.proofs.TablesLaid.{stub_laid}
use Rattle.zc_link.proofs.Lookup.{found_holds, listed_placed, lookup}
use Rattle.zc_link.proofs.ListedPlaces.{are_inside, ascends, entries, places_few}
use Rattle.moved_runs.proofs.ProgramLeads.{leads_faultless}
use Rattle.zc_link.proofs.Paced.{is_paced}
use Rattle.zc_link.proofs.Simulation.{laid_preserves, simulates}
use Rattle.std.specs.Option.{is_some}
use Rattle.sym_machine.specs.declared.word.Value.TheVariants as value
use Rattle.zc_link.proofs.ImageMemory as memory

-- all data has 4 MiB at most
abbrev pub HasDataRoom : ParsedInputs → Type 0
HasDataRoom p = data_end p ≤ p.map.data_low + data_limit p.map

-- ---- what is copied

-- where bytes are those of the objects, or an address, they are copied as they should be
copied_item :
    (L : TextLayout) (q : Place) (B : Place → Option ℕ) (own bytes : ℕ → List ℕ) (a size n : ℕ) (item : Item) → L.address ≡ B → HasForm L.address a size n item
    → IsWritten L q own a n item (bytes n) → ItemCopied B own bytes item
copied_item L q B own bytes a size n (Op i) same form w = tt
copied_item L q B own bytes a size n (Hi i t) same form w = tt
copied_item L q B own bytes a size n (Lo i t) same form w = tt
copied_item L q B own bytes a size n (PcHi i t) same form w = tt
copied_item L q B own bytes a size n (PcLo i from) same form w = tt
copied_item L q B own bytes a size n (Branch op first second to) same form w = tt
copied_item L q B own bytes a size n (Jump rd to) same form w = tt
copied_item L q B own bytes a size n (Call rd temp to) same form w = tt
copied_item L q B own bytes a size n (Align k) same form w = tt
copied_item L q B own bytes a size n (Word t) same form w = (w.0, ap (λ f. target_value f t) (sym same) ∙ w.1, ap bytes (sym form) ∙ w.2)
copied_item L q B own bytes a size n (Raw word) same form w = ap bytes (sym form) ∙ w
copied_item L q B own bytes a size n (RawShort half) same form w = ap bytes (sym form) ∙ w
copied_item L q B own bytes a size n (RawPair first second) same form w = ap bytes (sym form) ∙ w

-- of jumps and calls nothing is copied
jump_copied :
    (B : Place → Option ℕ) (own bytes : ℕ → List ℕ) (item : Item) (rd : ℕ) (to : Place) → jump_of item ≡ Some (rd, to) → ItemCopied B own bytes item
jump_copied B own bytes (Op i) rd to is = tt
jump_copied B own bytes (Hi i t) rd to is = tt
jump_copied B own bytes (Lo i t) rd to is = tt
jump_copied B own bytes (PcHi i t) rd to is = tt
jump_copied B own bytes (PcLo i from) rd to is = tt
jump_copied B own bytes (Branch op first second at) rd to is = tt
jump_copied B own bytes (Jump r at) rd to is = tt
jump_copied B own bytes (Call r temp at) rd to is = tt
jump_copied B own bytes (Align k) rd to is = tt
jump_copied B own bytes (Word t) rd to is = absurd (none-some (rd, to) is)
jump_copied B own bytes (Raw word) rd to is = absurd (none-some (rd, to) is)
jump_copied B own bytes (RawShort half) rd to is = absurd (none-some (rd, to) is)
jump_copied B own bytes (RawPair first second) rd to is = absurd (none-some (rd, to) is)

-- ---- the image

-- an address of this text, and even
record IsEntryIn (start size a : ℕ) : Type 0 where
  pub even : a % 2 ≡ 0
  pub low : start ≤ a
  pub high : a ≤ start + size

-- addresses of places alone
code_value : (Place → Option ℕ) → Value → Option ℕ
code_value A (value.Code q) = A q
code_value A (value.AbsHi q) = None
code_value A (value.PcHi q) = None

-- e_flags that say whether there are 16-bit instructions are known
known_flags : (flags : ℕ) → flags ≤ 1 → are_known_flags flags ≡ true
known_flags zero le = refl
known_flags (suc zero) le = refl
known_flags (suc (suc n)) le = absurd (omega (arith, le))

module _ (L : TextLayout) (ready : IsReady L.inputs) (lies : IsLaidOut L) (flags : ℕ) (one : flags ≤ 1) (room : HasDataRoom (parsed L.inputs)) (text : List ℕ) (places : List (Place × ℕ))
    (laid : IsTextOf L (all_sections (parsed L.inputs).objects) text places) (data_are : AreBytes (image_data (parsed L.inputs) L.address)) where
  abbrev inputs : Inputs
  inputs = L.inputs

  abbrev p3 : ParsedInputs
  p3 = parsed inputs

  abbrev A : Place → Option ℕ
  A = L.address

  abbrev program : Program
  program = program_of p3

  abbrev parts : Parts
  parts = parts_of L flags text

  -- objects without a fault have none between them
  none : gather_fault inputs ≡ None
  none = (all_none inputs ready.faultless).gathered

  -- the text's places are those that an image lists
  listed : places ≡ listed_places L
  unfolding listed_places
  listed = laid.listed

  -- each with its address
  placed : All (λ e. A e.0 ≡ Some e.1) (listed_places L)
  placed = listed_placed L lies.only

  -- the text holds what is written at each listed place
  holds : All (HoldsPlace L text) (listed_places L)
  holds = subst (All (HoldsPlace L text)) listed laid.holds

  -- the text ends where the layout's does
  ends : inputs.map.text + length text ≡ text_end L
  ends = laid.ends

  -- the text is short
  short : length text ≤ 0x9_0000
  short = omega (arith, ends, lies.short)

  -- data are short too
  memory_size : length (image_data p3 A) + (data_end p3 - data_file_end p3) ≤ data_limit inputs.map
  memory_size = omega (arith, length-image_data p3 A, data_low-le p3, data_file_end-le p3, room)

  -- the image has as many bytes of data as the program
  bytes_size : length (data_bytes p3) ≡ length (image_data p3 A) + (data_end p3 - data_file_end p3)
  unfolding code_value
  bytes_size =
      let zeros = replicate (data_end p3 - data_file_end p3) 0 in
      let same = (data_fine inputs ready.faultless A lies.leaders (code_value A) (λ q. refl)).same in
      same ∙ length-append (image_data p3 A) zeros ∙ (let r : length (replicate {A = ℕ} (data_end p3 - data_file_end p3) 0) ≡ data_end p3 - data_file_end p3 = length-replicate (data_end p3 - data_file_end p3) 0 in omega arith)

  -- the image's memory lies as the program's does
  out : AreLaidOut program parts
  unfolding program_of
  out = record {
    is_map = ready.is_map;
    text_at = refl;
    data_at = refl;
    short = short;
    size = bytes_size;
    room = memory_size;
    text_are = laid.octets;
    data_are = data_are;
  }

  abbrev e : Image
  e = image_of inputs.map parts

  -- the image lists the layout's addresses
  listed_are : e.address ≡ A
  listed_are = λ j q. lookup L lies.only q j

  -- the image shows the layout of the objects' program
  pub shows : ShowsLayout L program e
  unfolding program_of
  shows = record { item = refl; next = refl; map = refl; listed = listed_are; entry = refl }

  -- ---- memory

  -- a place's value is its address
  V : Value → Option ℕ
  V = value_in program e.address

  -- the value of a code address is the layout's address
  place_value : (q : Place) → V (value.Code q) ≡ A q
  unfolding V
  place_value q = λ j. listed_are j q

  -- each byte of the program's data stands for the image's
  fine : AreFine p3 A (IsNamed p3) V place_value (data_bytes p3) (memory.data_cells parts)
  fine = data_fine inputs ready.faultless A lies.leaders V place_value

  -- an address of data is that of a byte
  cell_within : (a : ℕ) → program.map.data_low ≤ a → a < program.map.data_low + length program.bytes → a - program.map.data_low < length (memory.data_cells parts)
  unfolding program_of
  cell_within a low high = let same = fine.same in omega (arith, low, high, same)

  -- memory begins with bytes that stand for the image's
  first : (a : ℕ) → ByteStands (value_in program e.address) (cell_at Undef (start_memory program) a) (byte_in (loaded_core e) a)
  unfolding program_of V
  first a = memory.first_cell program parts out (λ c. ByteStands (value_in program e.address) c (byte_in (loaded_core e) a)) a
      (λ low high. subst (ByteStands (value_in program e.address) (get_or (data_bytes p3) (a - inputs.map.data_low) Undef)) (sym (memory.data_byte program parts out a low high))
      (fine.each (a - inputs.map.data_low) (cell_within a low high)).0) tt

  -- memory begins with addresses of places only that the program may name
  names : (a : ℕ) → NamesByte (IsNamed p3) (cell_at Undef (start_memory program) a)
  unfolding program_of
  names a = memory.first_cell program parts out (NamesByte (IsNamed p3)) a (λ low high. (fine.each (a - inputs.map.data_low) (cell_within a low high)).1) tt

  -- regions and places lie as they should
  rooms : Room program e
  unfolding program_of
  rooms =
      let size = bytes_size in
      let data_part = memory_size in
      let map = ready.is_map in
      record {
        map = refl;
        top = map.top;
        some = omega (arith, map.stack);
        deep = omega (arith, map.below, map.code);
        under = omega (arith, size, data_part, map.below);
        reaches = memory.reaches program parts out;
        bounded = memory.bounded program parts out;
        apart = memory.text_apart program parts out;
        even = even L map lies program parts out shows;
        distinct = distinct L map lies program parts out shows;
      }

  -- the image starts where the program does, or at the stub
  begins : Begins program e
  unfolding program_of
  begins = by (length L.slots) refl
    where
      by : (n : ℕ) → length L.slots ≡ n → Begins program e
      by zero none = AtEntry ((λ j. listed_are j (entry_of p3)) ∙ lies.start ∙ ap Some (sym (starts_there L none)))
      by (suc n) some =
          let any : 0 < length L.slots = omega (arith, some) in
          BehindStub (subst (StubLaid program e) (sym (starts_at_stub L any)) (stub_laid L program parts out refl laid.front any lies listed_are refl))

  -- the entry is an even address of the text
  entry_is : IsEntryIn inputs.map.text (length text) (image_entry L)
  entry_is = by (length L.slots) refl
    where
      by : (n : ℕ) → length L.slots ≡ n → IsEntryIn inputs.map.text (length text) (image_entry L)
      by zero none =
          let is = starts_there L none in
          let start = start_address L in
          let even = lies.even (entry_of p3) start lies.start in
          let low = lies.low (entry_of p3) start lies.start in
          let high = lies.high (entry_of p3) start lies.start in
          record { even = omega (arith, is, even); low = omega (arith, is, low); high = omega (arith, is, high, ends) }
      by (suc n) some =
          let any : 0 < length L.slots = omega (arith, some) in
          let is = starts_at_stub L any in
          let within = front_within L text laid.front in
          let page = ready.is_map.text_page in
          record {
            even = omega (arith, is, page);
            low = omega (arith, is);
            high = omega (arith, is, within, size_some L.slots any);
          }

  -- all of it is laid
  laid_out : Laid program (IsNamed p3) e (stretch_in L)
  unfolding program_of
  laid_out = record {
    room = rooms;
    leads = leads_faultless inputs ready.faultless;
    begins = begins;
    some = some L lies;
    few = few L lies program;
    each = each L ready.is_map lies program parts out shows none laid.front holds;
    first = λ a m. first a;
    names = λ a m. names a;
    bytes = memory.bytes program parts out;
    cells = record { apart = memory.regions_apart program parts out; lies = λ a cell. memory.data_lies program parts out a cell.low cell.high; under = rooms.under };
  }

  -- ---- the file

  -- the parts fit in a file
  pub fits : NumbersFit parts
  fits =
      let few = places_few L none in
      let map = ready.is_map in
      record {
        file = omega (arith, short, few, memory_size);
        data_memory = omega (arith, memory_size);
        data_end = omega (arith, memory_size, map.room);
      }

  -- a loader accepts the parts
  loadable : IsLoadable parts inputs.map
  loadable =
      let few = places_few L none in
      let map = ready.is_map in
      record {
        text_at = refl;
        data_at = refl;
        words = omega (arith, map.room);
        file = omega (arith, short, few, memory_size);
        flags = known_flags flags one;
        text = omega (arith, short, map.code);
        data_memory = memory_size;
        entry_even = entry_is.even;
        entry_low = entry_is.low;
        entry_high = entry_is.high;
        entries = entries L none map lies (listed_places L) placed;
        ascending = ascends L none map lies;
        inside = are_inside L none map lies (listed_places L) placed;
      }

  -- the file reads back as these parts
  back : ReadsBack parts inputs.map (image_bytes parts)
  back = image_back parts inputs.map fits loadable

  -- the file is read as this image
  read : image_in (image_bytes parts) inputs.map ≡ Some e
  unfolding image_in
  read =
      (λ i. cond (is_some (back.faultless i)) None (Some (record {
        entry = back.entry i;
        segments = back.segments_back i;
        address = listed_address (back.places i);
        map = inputs.map;
      })))

  -- its stretches go on
  paced : IsPaced program (pace_of program (stretch_in L)) (aligns_of p3)
  paced = is_paced L none lies

  -- which does what the program does
  preserves : Preserves inputs (image_bytes parts)
  preserves = laid_preserves inputs (image_bytes parts) (IsNamed p3) e (stretch_in L) read laid_out paced

  -- step by step
  keeps : IsSimulation program (IsNamed p3) e (pace_of program (stretch_in L))
  keeps = simulates program (IsNamed p3) e (stretch_in L) laid_out

  abbrev text_part : SegmentData
  text_part = record { at = inputs.map.text; size = length text; code = true; bytes = text }

  -- the one segment of code is the text
  sole : filter (λ s. s.code) (segments_of (image_bytes parts)) ≡ text_part ∷ []
  sole = ap (filter (λ s. s.code)) back.segments_back

  -- what it copies is the objects'
  copied : IsCopiedTo p3 (listed_address (place_list (image_bytes parts))) text_part
  copied q a s item here at is =
      let found : listed_address (listed_places L) q ≡ Some a = ap (λ l. listed_address l q) (sym back.places) ∙ here in
      let listed_at : A q ≡ Some a = sym (λ j. listed_are j q) ∙ found in
      let there = unit_there L lies q item a is listed_at in
      of q a s item there.0 at is (lies.each q a there.0 there.1 listed_at) (found_holds (HoldsPlace L text) (listed_places L) q a holds found there.0 there.1)
    where
      addresses : A ≡ listed_address (place_list (image_bytes parts))
      addresses = sym listed_are ∙ ap listed_address (sym back.places)

      size_same : (o : Option ℕ) (a m n : ℕ) → o ≡ Some (a + m) → o ≡ Some (a + n) → m ≡ n
      size_same o a m n one two = let same : a + m ≡ a + n = cc (sym one ∙ two) in omega (arith, same)

      of :
          (q : Place) (a : ℕ) (s : SectionParts) (item : Item) (u : CodeUnit) → code_at p3.objects q ≡ Some s → item_at p3 q ≡ Some item
          → LiesAt L q a u → HoldsUnit L text (q, a) u
          → ItemCopied (listed_address (place_list (image_bytes parts))) (bytes_from s.bytes q.offset) (bytes_from text (a - inputs.map.text)) item
      of q a s item (OneItem i) at is form h =
          let size : form.size ≡ h.size = size_same (A (behind L q)) a form.size h.size form.next h.next in
          let same : h.section ≡ s = cc (sym h.here ∙ at) in
          let one : i ≡ item = cc (sym form.is ∙ is) in
          subst (ItemCopied (listed_address (place_list (image_bytes parts))) (bytes_from s.bytes q.offset) (bytes_from text (a - inputs.map.text))) one
          (copied_item L q (listed_address (place_list (image_bytes parts))) (bytes_from s.bytes q.offset) (bytes_from text (a - inputs.map.text)) a (size_at p3.objects q) h.size i addresses
          (subst (λ n. HasForm A a (size_at p3.objects q) n i) size form.form)
          (subst (λ t. IsWritten L q (bytes_from t.bytes q.offset) a h.size i (bytes_from text (a - inputs.map.text) h.size)) same h.written))
      of q a s item (OneGroup g) at is form h =
          let first = group_op inputs none q g form.is in
          let one : Op first.0 ≡ item = cc (sym first.1 ∙ is) in
          subst (ItemCopied (listed_address (place_list (image_bytes parts))) (bytes_from s.bytes q.offset) (bytes_from text (a - inputs.map.text))) one tt
      of q a s item (OneSite n) at is form h =
          let site = form.is in
          jump_copied (listed_address (place_list (image_bytes parts))) (bytes_from s.bytes q.offset) (bytes_from text (a - inputs.map.text)) item (linked_by n) site.to
          (let one : site.item ≡ item = cc (sym site.is ∙ is) in ap jump_of (sym one) ∙ site.goes)

  -- the file is one of the layout's image
  pub is_image : (elf : List ℕ) → elf ≡ image_bytes parts → IsImageOf L flags (text_end L) elf
  is_image elf written = subst (IsImageOf L flags (text_end L)) (sym written) (record {
    parts = record { text = text; bytes = refl; front = laid.front; holds = holds; gaps = laid.gaps };
    preserves = preserves;
    loaded = e;
    read = read;
    simulates = keeps;
    paced = paced;
    text = text_part;
    alone = sole;
    start = refl;
    ends = ends;
    copied = copied;
    places = back.places;
  })
