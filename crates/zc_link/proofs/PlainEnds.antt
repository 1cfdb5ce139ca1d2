-- In the plain layout the end of a section of code has the address where the section ends. So code ends by these addresses where the
-- plain layout ends.
use Rattle.std.proofs.Common.{◌≡◌, ℕ, ◌+◌, List, [], ◌∷◌, length, Bool, true, false, cond, Option, Some, None, refl, sym, ap, ◌∙◌, subst, inr, arith}
use Rattle.std.specs.Option.{unwrap_or}
use Rattle.std.proofs.lemmas.List.Sums.{fold-append}
use Rattle.zc_base.specs.declared.place.Place.{Place}
use Rattle.elf32_read.specs.Parts.{SectionParts, is_code_section}
use Rattle.psabi_sym.specs.Faults.{gather_fault}
use Rattle.psabi_sym.specs.Inputs.{Inputs, ParsedInputs, parsed}
use Rattle.psabi_sym.specs.Indexed.{IndexedSection, section_at, sections_before}
use Rattle.block_cut.specs.Items.{code_at, place_of}
use Rattle.block_cut.specs.PlainLayout.{plain_address, plain_end, plain_end_of, section_end as plain_section_end}
use Rattle.block_cut.proofs.ListedLaws.{before_more, listed}
use Rattle.block_cut.proofs.PlainLaws.{offset_end, place_address}
use Rattle.block_cut.proofs.RoomLaws.{section_end-other}
use Rattle.block_cut.proofs.WholeLaws.{code_at_is, code_whole}
use Rattle.zc_link.specs.LaidOut.{code_end_after, laid_section_end, text_end}
use Rattle.zc_link.specs.TextLayout.{TextLayout, front_end, plain_layout}
use Rattle.zc_link.proofs.EachSection.{before_each, of_all}

-- a section that is code is found at its places
pub code_found :
    (p : ParsedInputs) (o i n : ℕ) (s : SectionParts) → section_at p.objects o i ≡ Some s → is_code_section s ≡ true
    → code_at p.objects (record { object = o; section = i; offset = n }) ≡ Some s
code_found p o i n s found code = code_at_is p.objects (record { object = o; section = i; offset = n }) s found code

module _ (inputs : Inputs) (none : gather_fault inputs ≡ None) where
  abbrev p : ParsedInputs
  p = parsed inputs

  abbrev L : TextLayout
  L = plain_layout inputs

  abbrev A : Place → Option ℕ
  A = plain_address p

  -- nothing stands in front
  pub front_is : front_end L ≡ inputs.map.text
  front_is = omega arith

  -- sections end by their addresses where they do in the plain layout
  abbrev AreEnds : List IndexedSection → Type 0
  AreEnds ls = code_end_after L ls ≡ plain_end_of p ls

  -- one section more in the plain layout
  section_ends :
      (o i : ℕ) (s : SectionParts) → section_at p.objects o i ≡ Some s
      → laid_section_end L (plain_end_of p (sections_before p.objects o i)) (listed o i s)
      ≡ plain_section_end p (plain_end_of p (sections_before p.objects o i)) (listed o i s)
  section_ends o i s found = by (is_code_section s) refl
    where
      l : IndexedSection
      l = listed o i s

      end : ℕ
      end = plain_end_of p (sections_before p.objects o i)

      by : (b : Bool) → is_code_section s ≡ b → laid_section_end L end l ≡ plain_section_end p end l
      by true code =
          let q = place_of l (length s.bytes) in
          let at = code_found p o i (length s.bytes) s found code in
          ap (λ b. cond b (unwrap_or (A q) end) end) code
          ∙ ap (λ x. unwrap_or x end) (place_address p q s at (inr refl))
          ∙ offset_end p q s code (code_whole inputs q s none at)
      by false other = ap (λ b. cond b (unwrap_or (A (place_of l (length s.bytes))) end) end) other ∙ sym (section_end-other p end l other)

  one_more : (o i : ℕ) (s : SectionParts) → section_at p.objects o i ≡ Some s → AreEnds (sections_before p.objects o i) → AreEnds (sections_before p.objects o (i + 1))
  one_more o i s found before =
      let earlier = sections_before p.objects o i in
      let l = listed o i s in
      subst AreEnds (sym (before_more p.objects o i s found))
      (fold-append (laid_section_end L) (front_end L) earlier (l ∷ [])
      ∙ ap (λ e. laid_section_end L e l) before ∙ section_ends o i s found
      ∙ sym (fold-append (plain_section_end p) inputs.map.text earlier (l ∷ [])))

  -- the sections before one
  pub ends_before : (o i : ℕ) (s : SectionParts) → section_at p.objects o i ≡ Some s → AreEnds (sections_before p.objects o i)
  ends_before = before_each p.objects AreEnds front_is one_more

  -- all sections in the plain layout
  pub text_end_is : text_end L ≡ plain_end p
  unfolding plain_end
  text_end_is = of_all p.objects AreEnds front_is one_more
