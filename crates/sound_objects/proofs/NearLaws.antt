-- Branches that reach: those of a short section, and those of a section that has none.
use Rattle.std.proofs.Common.{◌≡◌, ℕ, suc, ◌+◌, ◌-◌, ◌%◌, ◌≤◌, inl, inr, pos, negsuc, ◌+ℤ◌, ◌-ℤ◌, List, length, Bool, true, false, Option, Some, None, refl, sym, ap, subst, ◌∙◌, arith, eqb, ltb, eq-eqb}
use Rattle.std.specs.Prelude.{All, ◌&&◌, ◌||◌, not}
use Rattle.std.specs.List.{sum_by}
use Rattle.std.specs.Option.{option_map_or}
use Rattle.std.proofs.Math.IntN.{+ℤ-neg_ℤ_cancel, +ℤ_comm}
use Rattle.std.proofs.lemmas.Bool.{and_from, cases_lt, lt-ltb}
use Rattle.zc_base.specs.MemMap.{IsMap}
use Rattle.zc_base.specs.declared.mem_map.MemMap.{MemMap}
use Rattle.zc_base.specs.declared.place.Place.{Place}
use Rattle.elf32_read.specs.Parts.{ObjectParts, SectionParts, is_code_section}
use Rattle.elf32_read.specs.declared.reloc.Reloc.{Reloc}
use Rattle.psabi_sym.specs.Faults.{gather_fault, reloc_room}
use Rattle.psabi_sym.specs.Fixed.{is_fixed_at}
use Rattle.psabi_sym.specs.Indexed.{IndexedSection, sections_before}
use Rattle.psabi_sym.specs.Inputs.{Inputs, ParsedInputs, parsed}
use Rattle.psabi_reloc.specs.Kinds.{kind_of}
use Rattle.psabi_reloc.specs.Reaches.{branch_reach}
use Rattle.block_cut.specs.Faults.{distance_between, is_out_of_reach, leaves_fixed}
use Rattle.block_cut.proofs.ReachLaws.{branch_place, is_far_branch, out_plain}
use Rattle.block_cut.proofs.SizeLaws.{words_at}
use Rattle.block_cut.specs.Items.{code_at, item_at, item_in, item_under, place_of, raw_in, size_at, size_on, starts_on, target_of}
use Rattle.block_cut.specs.PlainLayout.{plain_address, plain_end_of, plain_start, starts_before}
use Rattle.block_cut.specs.Relocs.{instr_in, is_sound, reloc_on}
use Rattle.block_cut.specs.declared.item.Item.{Item}
use Rattle.block_cut.proofs.ItemLaws.{item_there}
use Rattle.block_cut.proofs.PlainLaws.{IsHere, address_bounds, here, offset_end, offset_rises, spot}
use Rattle.block_cut.proofs.RawLaws.{raw_by}
use Rattle.block_cut.proofs.RoomLaws.{after_starts-ge, items_fit, section_end-code}
use Rattle.block_cut.proofs.SoundLaws.{sound_at}
use Rattle.block_cut.proofs.WholeLaws.{code_at_is}
use Rattle.sound_objects.specs.Parts.{CanBeWritten, inputs_of_parts, objects_of}
use Rattle.sound_objects.specs.Reach.{IsBranchless, IsShort, StaysIn, is_branch_kind}
use Rattle.sound_objects.specs.WellFormed.{BranchesReach, HasSection}
use Rattle.sound_objects.proofs.BranchLaws.{LeadsIn, known_in, known_no_branch, spelled_in, spelled_no_branch}
use Rattle.sound_objects.proofs.BranchLaws.LeadsIn.{Nowhere, To}
use Rattle.sound_objects.proofs.ListLaws.{all_found}
use Rattle.sound_objects.proofs.PartsLaws.{parsed_is}

-- ---- distances

on_by : (a n : ℕ) → pos (a + n) -ℤ pos a ≡ pos n
on_by a n =
    let sum : n + a ≡ a + n = omega arith in
    ap (λ m. pos m -ℤ pos a) (sym sum) ∙ +ℤ-neg_ℤ_cancel (pos n) (pos a)

back_by : (b k : ℕ) → pos b -ℤ pos (b + suc k) ≡ negsuc k
back_by b k =
    let down : pos (b + suc k) +ℤ negsuc k ≡ pos b = +ℤ-neg_ℤ_cancel (pos b) (pos (suc k)) in
    let up : negsuc k +ℤ pos (b + suc k) ≡ pos b = +ℤ_comm (negsuc k) (pos (b + suc k)) ∙ down in
    ap (λ z. z -ℤ pos (b + suc k)) (sym up) ∙ +ℤ-neg_ℤ_cancel (negsuc k) (pos (b + suc k))

near_reach : (a b : ℕ) → a % 2 ≡ 0 → b % 2 ≡ 0 → a ≤ b + 4094 → b ≤ a + 4094 → branch_reach (pos b -ℤ pos a) ≡ true
near_reach a b one two low high = elim (cases_lt b a) [
  | inl lt ↦
      let k : ℕ = a - b - 1 in
      let sum : b + suc k ≡ a = omega arith in
      ap (λ m. branch_reach (pos b -ℤ pos m)) (sym sum) ∙ ap branch_reach (back_by b k)
      ∙ and_from (ltb k 4096) (eqb (k % 2) 1) (lt-ltb k 4096 (omega arith)) (eq-eqb (k % 2) 1 (omega arith))
  | inr le ↦
      let k : ℕ = b - a in
      let sum : a + k ≡ b = omega arith in
      ap (λ m. branch_reach (pos m -ℤ pos a)) (sym sum) ∙ ap branch_reach (on_by a k)
      ∙ and_from (ltb k 4096) (eqb (k % 2) 0) (lt-ltb k 4096 (omega arith)) (eq-eqb (k % 2) 0 (omega arith))
]

-- ---- items

and_false : (b : Bool) → (b && false) ≡ false
and_false true = refl
and_false false = refl

module _ (inputs : ParsedInputs) (q : Place) (i : Item) (is : item_at inputs q ≡ Some i) (words : size_at inputs.objects q % 4 ≡ 0) where
  -- whether a branch misses a place
  abbrev misses : Place → Bool
  misses to = is_far_branch inputs q to || leaves_fixed inputs q to

  -- whether what has no 2 bytes is out of reach, by where it leads if it is a branch
  out_is : (o : Option Place) → branch_place i ≡ o → is_out_of_reach inputs q ≡ option_map_or misses o false
  out_is o leads = out_plain inputs q i is (λ e. omega (arith, e, words)) ∙ ap (λ x. option_map_or misses x false) leads

  -- what leads nowhere isn't out of reach
  no_branch_near : branch_place i ≡ None → is_out_of_reach inputs q ≡ false
  no_branch_near no_branch = out_is None no_branch

  -- nor is what leads to a place of its own section that is near if both have addresses
  led_near : (to : Place) → branch_place i ≡ Some to → to.object ≡ q.object → to.section ≡ q.section → ((a b : ℕ) → plain_address inputs q ≡ Some a → plain_address inputs to ≡ Some b → branch_reach (pos b -ℤ pos a) ≡ true)
      → is_out_of_reach inputs q ≡ false
  led_near to leads object section near = out_is (Some to) leads ∙ (λ j. by (plain_address inputs q) (plain_address inputs to) refl refl j || stays j)
    where
      stays : leaves_fixed inputs q to ≡ false
      stays =
          (λ j. is_fixed_at inputs q.object q.section && not (eq-eqb q.object to.object (sym object) j && eq-eqb q.section to.section (sym section) j))
          ∙ and_false (is_fixed_at inputs q.object q.section)

      by : (x y : Option ℕ) → plain_address inputs q ≡ x → plain_address inputs to ≡ y → option_map_or (λ d. not (branch_reach d)) (distance_between x y) false ≡ false
      by None y one two = refl
      by (Some a) None one two = refl
      by (Some a) (Some b) one two = ap not (near a b one two)

-- ---- sections

module _ (inputs : ParsedInputs) (l : IndexedSection) (has : HasSection inputs.objects l) (code : is_code_section l.section ≡ true) where
  code_here : (n : ℕ) → code_at inputs.objects (place_of l n) ≡ Some l.section
  code_here n = code_at_is inputs.objects (place_of l n) l.section has code

  item_here : (n : ℕ) → starts_on l.section n ≡ true → item_at inputs (place_of l n) ≡ Some (item_in inputs l.section (place_of l n))
  item_here n start = item_there inputs (place_of l n) l.section (code_here n) start

  -- a relocation that says what stands at an offset is one of the section's
  all_on : (P : Reloc → Type 0) (n : ℕ) (r : Reloc) → All P l.section.relocs → reloc_on l.section n ≡ Some r → P r
  unfolding reloc_on
  all_on P n r all is = all_found P (λ t. is_sound l.section t && eqb t.offset n) l.section.relocs r all is

  -- what is copied unread is no branch
  raw_leads : (n : ℕ) → branch_place (raw_in (size_on l.section n) l.section.bytes n) ≡ None
  raw_leads n = raw_by (λ i. branch_place i ≡ None) (λ half. refl) (λ word. refl) (size_on l.section n) l.section.bytes n

  -- where no object is compressed, sizes are whole words
  words_here : l.section.compressed ≡ false → (n : ℕ) → size_at inputs.objects (place_of l n) % 4 ≡ 0
  words_here plain n = words_at inputs.objects (place_of l n) l.section (code_here n) code plain

  -- a section without branches
  pub branchless_reach : l.section.compressed ≡ false → IsBranchless l → BranchesReach inputs l
  branchless_reach plain none n start =
      no_branch_near inputs (place_of l n) (item_in inputs l.section (place_of l n)) (item_here n start) (words_here plain n) (by (reloc_on l.section n) refl)
    where
      by : (o : Option Reloc) → reloc_on l.section n ≡ o → branch_place (item_under inputs (place_of l n) o (size_on l.section n) l.section.bytes) ≡ None
      by None is = spelled_no_branch inputs.objects (place_of l n) (raw_in (size_on l.section n) l.section.bytes n) (raw_leads n) (instr_in (size_on l.section n) l.section.bytes n) (none.bare n start is)
      by (Some r) is =
          known_no_branch l.section n r.addend (target_of inputs l.object r) (kind_of r.kind)
          (all_on (λ t. is_branch_kind (kind_of t.kind) ≡ false) n r none.relocs is) (sound_at l.section n r code is).fits

  -- where the branches of a section lead that stay in it
  leads_in : All (StaysIn inputs l) l.section.relocs → (n : ℕ) → LeadsIn (place_of l n) (branch_place (item_in inputs l.section (place_of l n)))
  leads_in stay n = by (reloc_on l.section n) refl
    where
      by : (o : Option Reloc) → reloc_on l.section n ≡ o → LeadsIn (place_of l n) (branch_place (item_under inputs (place_of l n) o (size_on l.section n) l.section.bytes))
      by None is = spelled_in inputs.objects (place_of l n) (raw_in (size_on l.section n) l.section.bytes n) (raw_leads n) (instr_in (size_on l.section n) l.section.bytes n)
      by (Some r) is =
          known_in l.section n r.addend (target_of inputs l.object r) (place_of l n) (kind_of r.kind)
          (all_on (StaysIn inputs l) n r stay is) (sound_at l.section n r code is).fits

module _ (inputs : Inputs) (none : gather_fault inputs ≡ None) (is_map : IsMap inputs.map) where
  -- an address in a section of code: no further from the section's start than its bytes and the room of its ALIGNs
  record LiesFrom (begin most a : ℕ) : Type 0 where
    pub low : begin ≤ a
    pub high : a ≤ begin + most
    pub even : a % 2 ≡ 0

  lies : (q : Place) (s : SectionParts) (a : ℕ) → code_at (parsed inputs).objects q ≡ Some s → plain_address (parsed inputs) q ≡ Some a
      → LiesFrom (plain_start (parsed inputs) q.object q.section s) (length s.bytes + sum_by reloc_room s.relocs) a
  lies q s a code is = by (here inputs none q a is)
    where
      by : IsHere (parsed inputs) q a → LiesFrom (plain_start (parsed inputs) q.object q.section s) (length s.bytes + sum_by reloc_room s.relocs) a
      by at =
          let t = at.section in
          let same : t ≡ s = cc (at.code, code) in
          let begin = plain_start (parsed inputs) q.object q.section t in
          let own : LiesFrom begin (length t.bytes + sum_by reloc_room t.relocs) a = record {
            low = omega (arith, at.address, after_starts-ge (parsed inputs) (spot q t) begin (starts_before t q.offset));
            high = omega (
              arith,
              at.address,
              offset_rises (parsed inputs) q t at.code_is at.whole q.offset (length t.bytes) at.inside,
              offset_end (parsed inputs) q t at.code_is at.whole,
              section_end-code (parsed inputs) (plain_end_of (parsed inputs) (sections_before (parsed inputs).objects q.object q.section)) (spot q t) at.code_is,
              items_fit t at.code_is at.whole (parsed inputs) q.object q.section begin,
            );
            even = (address_bounds inputs none is_map q a is).words;
          } in
          subst (λ x. LiesFrom (plain_start (parsed inputs) q.object q.section x) (length x.bytes + sum_by reloc_room x.relocs) a) same own

  -- two places of a short section are near
  both_near : (q to : Place) (s : SectionParts) (a b : ℕ) → code_at (parsed inputs).objects q ≡ Some s → to.object ≡ q.object → to.section ≡ q.section
      → length s.bytes + sum_by reloc_room s.relocs ≤ 4094 → plain_address (parsed inputs) q ≡ Some a → plain_address (parsed inputs) to ≡ Some b → branch_reach (pos b -ℤ pos a) ≡ true
  both_near q to s a b code object section short one two =
      let there : code_at (parsed inputs).objects to ≡ Some s = (λ j. code_at (parsed inputs).objects (record { object = object j; section = section j; offset = q.offset })) ∙ code in
      let begin : plain_start (parsed inputs) to.object to.section s ≡ plain_start (parsed inputs) q.object q.section s = λ j. plain_start (parsed inputs) (object j) (section j) s in
      let first = lies q s a code one in
      let second = lies to s b there two in
      near_reach a b first.even second.even (omega (arith, begin, first.low, first.high, second.low, second.high, short)) (omega (arith, begin, first.low, first.high, second.low, second.high, short))

  -- a short section
  pub short_reach : (l : IndexedSection) → HasSection (parsed inputs).objects l → is_code_section l.section ≡ true → l.section.compressed ≡ false → IsShort (parsed inputs) l → BranchesReach (parsed inputs) l
  short_reach l has code plain short n start = by (leads_in (parsed inputs) l has code short.stay n)
    where
      is : item_at (parsed inputs) (place_of l n) ≡ Some (item_in (parsed inputs) l.section (place_of l n))
      is = item_here (parsed inputs) l has code n start

      words : size_at (parsed inputs).objects (place_of l n) % 4 ≡ 0
      words = words_here (parsed inputs) l has code plain n

      by : LeadsIn (place_of l n) (branch_place (item_in (parsed inputs) l.section (place_of l n))) → is_out_of_reach (parsed inputs) (place_of l n) ≡ false
      by (Nowhere no_branch) = no_branch_near (parsed inputs) (place_of l n) (item_in (parsed inputs) l.section (place_of l n)) is words no_branch
      by (To to leads object section) =
          led_near (parsed inputs) (place_of l n) (item_in (parsed inputs) l.section (place_of l n)) is words to leads object section
          (λ a b one two. both_near (place_of l n) to l.section a b (code_here (parsed inputs) l has code n) object section short.room one two)

-- a short section of parts that are written
pub parts_short_reach : (memory : MemMap) (parts : List ObjectParts) → All CanBeWritten parts → gather_fault (inputs_of_parts memory parts) ≡ None → IsMap memory
    → (l : IndexedSection) → HasSection (objects_of memory parts).objects l → is_code_section l.section ≡ true → l.section.compressed ≡ false → IsShort (objects_of memory parts) l → BranchesReach (objects_of memory parts) l
parts_short_reach memory parts all none is_map =
    subst (λ (i : ParsedInputs). (l : IndexedSection) → HasSection i.objects l → is_code_section l.section ≡ true → l.section.compressed ≡ false → IsShort i l → BranchesReach i l)
    (parsed_is memory parts all) (short_reach (inputs_of_parts memory parts) none is_map)
