-- Objects with equal tails shared can be written, if they aren't too large: what a pass owes for it. If one is, it is the first fault.
use Rattle.std.proofs.Common.{◌≡◌, ℕ, ◌%◌, ◌<◌, ◌≤◌, List, [], ◌∷◌, length, map, filter, refl, sym, ap, ◌∙◌, arith, Bool, true, false, cond, eqb, Option, Some, None, slice_get, get_or, subst}
use Rattle.std.specs.Prelude.{not, All}
use Rattle.std.specs.List.{sum_by}
use Rattle.std.specs.Option.{option_and_then, option_map, option_map_or}
use Rattle.std.proofs.lemmas.Bool.{eqb-true}
use Rattle.std.proofs.lemmas.List.Elements.{All-filter, All-map}
use Rattle.std.proofs.lemmas.List.Sums.{sum_by-cons}
use Rattle.std.proofs.lemmas.Option.{slice_get-map}
use Rattle.elf32_read.specs.Compressed.{code_step, has_rvc}
use Rattle.elf32_read.specs.Parts.{ObjectParts, SectionParts, SymbolParts, is_code_section, is_kept_section, object_parts}
use Rattle.elf32_read.specs.declared.fault.Fault.TheVariants.{TooLarge}
use Rattle.elf32_read.specs.declared.reloc.Reloc.{Reloc}
use Rattle.elf32_write.specs.Writable.{IsWritable}
use Rattle.psabi_reloc.specs.Kinds.{kind_of}
use Rattle.psabi_sym.specs.Data.{class_of, role_of}
use Rattle.psabi_sym.specs.Faults.{align_room, code_room, counted_bytes, reloc_room, room_in_code}
use Rattle.psabi_sym.specs.Indexed.{IndexedSection, section_at}
use Rattle.psabi_sym.specs.Inputs.{Inputs, ParsedInputs, parsed}
use Rattle.psabi_sym.specs.declared.section_row.SectionRole.TheVariants.{Code, InClass, Dropped}
use Rattle.block_cut.specs.Faults.{first_fault}
use Rattle.block_cut.specs.Items.{target_of}
use Rattle.block_cut.specs.Resolved.{asks}
use Rattle.moved_runs.specs.Passes.{home_of, new_number, with_files}
use Rattle.moved_runs.proofs.PassContents.{code-role}
use Rattle.moved_runs.proofs.PassData.{role-same}
use Rattle.object_passes.specs.Sizes.{first_oversized}
use Rattle.object_passes.specs.Written.{without_marks}
use Rattle.object_passes.proofs.FitPass.{IsFitPass, IsFitSection, IsFitSymbol, IsWholeCode}
use Rattle.object_passes.proofs.OversizedLaws.{oversized-broken}
use Rattle.object_passes.proofs.WordRooms.{asking-room, mark-of-file}
use Rattle.object_passes.proofs.WritableLaws.{can-be-written}
use Rattle.tail_merge.specs.Tails.{Removed, moved_down, removed_tails}
use Rattle.tail_merge.specs.Merged.{addend_to, indexed, is_align_kind, merged, merged_bytes, merged_object, merged_reloc, merged_relocs, merged_section, removed_at, symbol_in, symbol_in_code}
use Rattle.tail_merge.specs.Merging.{merged_files}
use Rattle.tail_merge.proofs.FoundLaws.{down-keeps}
use Rattle.tail_merge.proofs.HeldLaws.{bytes-saved}
use Rattle.tail_merge.proofs.InputsLaws.{merged-marks}
use Rattle.tail_merge.proofs.ItemsLaws.{removed-apart}
use Rattle.tail_merge.proofs.MergedRelocs.{IsGoodCode, end-outside, good-code, length-moved, merged-code, merged_code, moved-steps}
use Rattle.tail_merge.proofs.MergingLaws.{merged-keeps, merging}

-- ---- relocations

-- an ALIGN keeps its addend, so it takes the room that it took
same-room : (inputs : ParsedInputs) (o : ℕ) (rs : List Removed) (r : Reloc) → reloc_room (merged_reloc inputs o rs r) ≡ reloc_room r
unfolding reloc_room
same-room inputs o rs r = by (eqb r.kind 43) refl
  where
    by : (b : Bool) → eqb r.kind 43 ≡ b → cond b (align_room (merged_reloc inputs o rs r).addend) 0 ≡ cond b (align_room r.addend) 0
    by true is = ap (λ k. align_room (cond (is_align_kind (kind_of k)) r.addend (addend_to inputs o r (target_of inputs o r)))) (eqb-true r.kind 43 is)
    by false is = refl

relocs-room : (inputs : ParsedInputs) (o : ℕ) (removed : List Removed) (rs : List Reloc) → sum_by reloc_room (map (merged_reloc inputs o removed) rs) ≡ sum_by reloc_room rs
relocs-room inputs o removed [] = refl
relocs-room inputs o removed (r ∷ rs) =
    omega (
      arith,
      sum_by-cons reloc_room (merged_reloc inputs o removed r) (map (merged_reloc inputs o removed) rs),
      sum_by-cons reloc_room r rs,
      same-room inputs o removed r,
      relocs-room inputs o removed rs,
    )

-- ---- sections

counted-less : (c : Bool) (a b : ℕ) → a ≤ b → counted_bytes c a ≤ counted_bytes c b
counted-less true a b le = omega (arith, le)
counted-less false a b le = omega (arith, le)

-- what isn't code takes no room in it
plain-room : (s u : SectionParts) → is_code_section s ≡ false → room_in_code u (role_of s) ≡ 0
unfolding role_of
plain-room s u plain = ap (λ c. room_in_code u (cond c Code (cond (is_kept_section s) (InClass (class_of s)) Dropped))) plain ∙ by (is_kept_section s)
  where
    by : (k : Bool) → room_in_code u (cond k (InClass (class_of s)) Dropped) ≡ 0
    by true = refl
    by false = refl

module _ (inputs : Inputs) (none : first_fault inputs ≡ None) (o i : ℕ) (s : SectionParts) (at : section_at (parsed inputs).objects o i ≡ Some s) where
  abbrev l : IndexedSection
  l = indexed o i s

  abbrev t : SectionParts
  t = merged_section (parsed inputs) o i s

  relocs-are : t.relocs ≡ merged_relocs (parsed inputs) l
  relocs-are = by (is_code_section s)
    where
      by : (c : Bool) → (cond c (record s { relocs = merged_relocs (parsed inputs) l; size = length (merged_bytes (parsed inputs) l); bytes = merged_bytes (parsed inputs) l }) (record s { relocs = merged_relocs (parsed inputs) l })).relocs ≡ merged_relocs (parsed inputs) l
      by true = refl
      by false = refl

  module _ (code : is_code_section s ≡ true) where
    good : IsGoodCode (parsed inputs) l
    good = good-code inputs none l at code

    code-is : t ≡ merged_code (parsed inputs) l
    code-is = merged-code (parsed inputs) l at code

    pub size-is : t.size ≡ length (merged_bytes (parsed inputs) l)
    size-is = ap (λ (u : SectionParts). u.size) code-is

    -- code is no longer
    pub code-less : length (merged_bytes (parsed inputs) l) ≤ s.size
    code-less = let saved = bytes-saved (parsed inputs) l code good.whole in let whole = good.whole.bytes in omega (arith, saved, whole)

    -- what lies in the section lies in what becomes of it
    pub value-within : (n : ℕ) → n ≤ s.size → moved_down (removed_tails (parsed inputs) l) n ≤ t.size
    value-within n le =
        let whole = good.whole.bytes in
        let order = down-keeps 0 (removed_tails (parsed inputs) l) n (length s.bytes) (removed-apart (parsed inputs) l) (omega (arith, le, whole)) in
        let end = length-moved (parsed inputs) l good in
        let size = size-is in
        omega (arith, order, end, size)

    whole-steps : length (merged_bytes (parsed inputs) l) % code_step s.compressed ≡ 0
    whole-steps =
        ap (λ n. n % code_step s.compressed) (length-moved (parsed inputs) l good)
        ∙ moved-steps (parsed inputs) l good (length s.bytes) (end-outside (parsed inputs) l good) good.whole.words

    whole-code : (flags : ℕ) → s.compressed ≡ has_rvc flags → IsWholeCode flags s → IsWholeCode flags t
    whole-code flags mark w =
        subst (IsWholeCode flags) (sym code-is)
        (record { bytes = refl; align = w.align; size = subst (λ c. length (merged_bytes (parsed inputs) l) % code_step c ≡ 0) mark whole-steps })

    less-room : room_in_code t Code ≤ room_in_code s Code
    less-room =
        let bytes = counted-less s.compressed (length (merged_bytes (parsed inputs) l)) s.size code-less in
        let aligns = relocs-room (parsed inputs) o (removed_tails (parsed inputs) l) (filter asks s.relocs) in
        let fewer = asking-room s.relocs in
        subst (λ u. room_in_code u Code ≤ room_in_code s Code) (sym code-is) (omega (arith, bytes, aligns, fewer))

  room-less : code_room t ≤ code_room s
  room-less = subst (λ r. room_in_code t r ≤ code_room s) (sym (role-same s t (merged-keeps (parsed inputs) o i s))) (by (is_code_section s) refl)
    where
      by : (c : Bool) → is_code_section s ≡ c → room_in_code t (role_of s) ≤ room_in_code s (role_of s)
      by true code = subst (λ r. room_in_code t r ≤ room_in_code s r) (sym (code-role s code)) (less-room code)
      by false plain = let no-room = plain-room s t plain in omega (arith, no-room)

  pub fit-section : (flags : ℕ) → s.compressed ≡ has_rvc flags → IsFitSection flags s t
  fit-section flags mark =
      let change = merged_reloc (parsed inputs) o (removed_at (parsed inputs) o i) in
      record {
        symbols = λ n all. subst (All (λ (r : Reloc). r.symbol < n)) (sym relocs-are) (All-map (λ r. r.symbol < n) change (filter asks s.relocs) (All-filter asks (λ r. r.symbol < n) s.relocs all));
        kinds = λ n all. subst (All (λ (r : Reloc). r.kind < n)) (sym relocs-are) (All-map (λ r. r.kind < n) change (filter asks s.relocs) (All-filter asks (λ r. r.kind < n) s.relocs all));
        whole = λ code w. whole-code code flags mark w;
        less = λ code. (let size = size-is code in let less = code-less code in omega (arith, size, less));
        room = room-less;
      }

-- ---- symbols

-- a symbol in a section that is dropped, or else in code or data
abbrev lodged : List Removed → ℕ → SymbolParts → SectionParts → Bool → Bool → SymbolParts
lodged removed n s home kept code = cond (not kept) (record s { value = 0; home = 0xFFF1 }) (record (cond code (symbol_in_code removed home s) s) { home = n })

kind-stays : (removed : List Removed) (n : ℕ) (s : SymbolParts) (found : Option SectionParts) → (option_map_or (symbol_in removed n s) found s).kind ≡ s.kind
kind-stays removed n s None = refl
kind-stays removed n s (Some home) = by (is_kept_section home) (is_code_section home)
  where
    by : (kept code : Bool) → (lodged removed n s home kept code).kind ≡ s.kind
    by false code = refl
    by true true = refl
    by true false = refl

module _ (inputs : Inputs) (none : first_fault inputs ≡ None) (o : ℕ) (object : ObjectParts) (at : slice_get (parsed inputs).objects o ≡ Some object) (s : SymbolParts) where
  abbrev removed : List Removed
  removed = removed_at (parsed inputs) o s.home

  abbrev number : ℕ
  number = new_number object.sections s.home

  there : (home : SectionParts) → home_of object s ≡ Some home → section_at (parsed inputs).objects o s.home ≡ Some home
  there home is = ap (option_and_then (λ (g : ObjectParts). slice_get g.sections s.home)) at ∙ by (eqb s.home 0) is
    where
      by : (b : Bool) → cond b None (slice_get object.sections s.home) ≡ Some home → slice_get object.sections s.home ≡ Some home
      by true h = absurd cc
      by false h = h

  removed-is : (home : SectionParts) → home_of object s ≡ Some home → is_code_section home ≡ true → removed ≡ removed_tails (parsed inputs) (indexed o s.home home)
  removed-is home is code =
      ap (λ found. option_map_or (λ h. cond (is_code_section h) (removed_tails (parsed inputs) (indexed o s.home h)) []) found []) (there home is)
      ∙ ap (λ b. cond b (removed_tails (parsed inputs) (indexed o s.home home)) []) code

  within-home : (home : SectionParts) → home_of object s ≡ Some home → is_kept_section home ≡ true → s.value ≤ home.size → (symbol_in removed number s home).value ≤ (merged_section (parsed inputs) o s.home home).size
  within-home home is kept low =
      subst (λ k. (lodged removed number s home k (is_code_section home)).value ≤ (merged_section (parsed inputs) o s.home home).size) (sym kept) (by (is_code_section home) refl)
    where
      by : (c : Bool) → is_code_section home ≡ c → (lodged removed number s home true c).value ≤ (merged_section (parsed inputs) o s.home home).size
      by true code =
          let moved = ap (λ rs. moved_down rs s.value) (removed-is home is code) in
          let low' = value-within inputs none o s.home home (there home is) code s.value low in
          omega (arith, moved, low')
      by false plain = let same = (merged-keeps (parsed inputs) o s.home home).size plain in omega (arith, same, low)

  pub fit-symbol : IsFitSymbol (merging (parsed inputs)) o object s
  fit-symbol = record {
    kind = kind-stays removed number s (home_of object s);
    homeless = λ no-home. ap (λ found. option_map_or (symbol_in removed number s) found s) no-home;
    dropped = λ home is dropped. ap (λ found. (option_map_or (symbol_in removed number s) found s).home) is ∙ ap (λ k. (lodged removed number s home k (is_code_section home)).home) dropped;
    kept = λ home is kept. ap (λ found. (option_map_or (symbol_in removed number s) found s).home) is ∙ ap (λ k. (lodged removed number s home k (is_code_section home)).home) kept;
    within = λ home is kept low.
        subst (λ found. (option_map_or (symbol_in removed number s) found s).value ≤ (merged_section (parsed inputs) o s.home home).size) (sym is) (within-home home is kept low);
  }

-- ---- all objects

-- a section has the mark of its object
mark-in : (files : List (List ℕ)) (o i : ℕ) (object : ObjectParts) (s : SectionParts) → slice_get (map object_parts files) o ≡ Some object → slice_get object.sections i ≡ Some s → s.compressed ≡ has_rvc object.flags
mark-in files o i object s at there = by (slice_get files o) refl
  where
    by : (found : Option (List ℕ)) → slice_get files o ≡ found → s.compressed ≡ has_rvc object.flags
    by None is = absurd (cc (at, slice_get-map object_parts files o ∙ ap (option_map object_parts) is))
    by (Some file) is =
        let same : object_parts file ≡ object = cc (at, slice_get-map object_parts files o ∙ ap (option_map object_parts) is) in
        subst (λ (g : ObjectParts). s.compressed ≡ has_rvc g.flags) same (mark-of-file file i s (ap (λ (g : ObjectParts). slice_get g.sections i) same ∙ there))

pub merging-fit : (inputs : Inputs) → first_fault inputs ≡ None → IsFitPass (merging (parsed inputs)) (parsed inputs).objects
merging-fit inputs none = record {
  marks = merged-marks (parsed inputs);
  each = λ o object at. record {
    sections = λ i s there kept.
        fit-section inputs none o i s (ap (option_and_then (λ (g : ObjectParts). slice_get g.sections i)) at ∙ there) object.flags (mark-in inputs.files o i object s at there);
    symbols = λ k s there. fit-symbol inputs none o object at s;
  };
}

-- ---- what follows

-- each of the merged objects can be written, if none is too large
pub merged-writable : (inputs : Inputs) (o : ℕ) → o < length inputs.files → first_fault inputs ≡ None → first_oversized (merged (parsed inputs)) ≡ None
    → IsWritable (without_marks (merged_object (parsed inputs) o (object_parts (get_or inputs.files o []))))
merged-writable inputs o within none small = can-be-written inputs (merging (parsed inputs)) o within none (merging-fit inputs none) small

-- the first that is too large is the first fault of the result
pub merged-oversized-broken : (inputs : Inputs) (i : ℕ) → first_fault inputs ≡ None → first_oversized (merged (parsed inputs)) ≡ Some i
    → first_fault (with_files inputs (merged_files inputs)) ≡ Some (i, TooLarge)
merged-oversized-broken inputs i none is = oversized-broken inputs (merging (parsed inputs)) i none (merging-fit inputs none) is
