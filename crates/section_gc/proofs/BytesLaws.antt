-- The bytes of data of cleaned objects: words that hold addresses lead to where the given ones' targets are moved.
use Rattle.std.proofs.Common.{◌≡◌, ℕ, ◌+◌, List, [], ◌∷◌, refl, sym, ap, ◌∙◌, map, filter, Bool, true, false, cond}
use Rattle.std.specs.Prelude.{All}
use Rattle.std.proofs.lemmas.List.Elements.{All-head, All-tail}
use Rattle.zc_base.specs.declared.place.Place.{Place}
use Rattle.elf32_read.specs.Parts.{SectionParts, is_code_section, is_kept_section}
use Rattle.elf32_read.specs.declared.reloc.Reloc.{Reloc}
use Rattle.psabi_sym.specs.Inputs.{ParsedInputs}
use Rattle.psabi_sym.specs.Indexed.{IndexedSection}
use Rattle.psabi_reloc.specs.Kinds.{kind_of}
use Rattle.block_cut.specs.DataWords.{data_word}
use Rattle.block_cut.specs.Items.{target_of}
use Rattle.block_cut.specs.Relocs.{is_word}
use Rattle.block_cut.specs.Resolved.{asks}
use Rattle.sym_machine.specs.Objects.{data_bytes}
use Rattle.moved_runs.specs.Moved.{moved_byte, moved_data, moved_target}
use Rattle.moved_runs.specs.Passes.{ArePassed}
use Rattle.moved_runs.proofs.PassBytes.{MovesWords, bytes-moved, word-asks}
use Rattle.moved_runs.proofs.PassListed.{IsThere}
use Rattle.moved_runs.proofs.PassSections.{passed}
use Rattle.section_gc.specs.Cleaned.{moved_by}
use Rattle.section_gc.proofs.Closed.{IsClosed}
use Rattle.section_gc.proofs.CleaningLaws.{clean-data, cleaning}
use Rattle.section_gc.proofs.ResolveLaws.{IsNeededTarget, resolved-clean}

module _ (needed : ℕ → ℕ → Bool) (number : ℕ → ℕ → ℕ) (inputs result : ParsedInputs) (clean : ArePassed (cleaning needed number) inputs result) where
  -- ---- words

  abbrev M : Place → Place
  M q = moved_by number q

  pub target-clean : (o : ℕ) (r : Reloc) → IsNeededTarget needed (target_of inputs o r) → target_of result o r ≡ moved_target M (target_of inputs o r)
  target-clean o r it = resolved-clean needed number inputs result clean o r.symbol r.addend it

  words-kept : (o : ℕ) (at : ℕ) (l : IndexedSection) (m : IndexedSection) → l.object ≡ o → m.object ≡ o → (rs : List Reloc) → All (λ r. asks r ≡ true → IsNeededTarget needed (target_of inputs o r)) rs
      → map (data_word result m at) (filter (λ r. is_word (kind_of r.kind)) (filter asks rs)) ≡ map (moved_data M) (map (data_word inputs l at) (filter (λ r. is_word (kind_of r.kind)) rs))
  words-kept o at l m lo mo [] leads = refl
  words-kept o at l m lo mo (r ∷ rs) leads =
      by (words-kept o at l m lo mo rs (All-tail (λ r. asks r ≡ true → IsNeededTarget needed (target_of inputs o r)) r rs leads)) (asks r) refl (is_word (kind_of r.kind)) refl
    where
      here : asks r ≡ true → IsNeededTarget needed (target_of inputs o r)
      here = All-head (λ r. asks r ≡ true → IsNeededTarget needed (target_of inputs o r)) r rs leads

      tested : (b : Bool) → is_word (kind_of r.kind) ≡ b → map (data_word result m at) (cond (is_word (kind_of r.kind)) (r ∷ filter (λ r. is_word (kind_of r.kind)) (filter asks rs)) (filter (λ r. is_word (kind_of r.kind)) (filter asks rs))) ≡ map (data_word result m at) (cond b (r ∷ filter (λ r. is_word (kind_of r.kind)) (filter asks rs)) (filter (λ r. is_word (kind_of r.kind)) (filter asks rs)))
      tested b is = ap (λ b. map (data_word result m at) (cond b (r ∷ filter (λ r. is_word (kind_of r.kind)) (filter asks rs)) (filter (λ r. is_word (kind_of r.kind)) (filter asks rs)))) is

      by : map (data_word result m at) (filter (λ r. is_word (kind_of r.kind)) (filter asks rs)) ≡ map (moved_data M) (map (data_word inputs l at) (filter (λ r. is_word (kind_of r.kind)) rs))
          → (a : Bool) → asks r ≡ a → (b : Bool) → is_word (kind_of r.kind) ≡ b
          → map (data_word result m at) (filter (λ r. is_word (kind_of r.kind)) (cond a (r ∷ filter asks rs) (filter asks rs))) ≡ map (moved_data M) (map (data_word inputs l at) (cond b (r ∷ filter (λ r. is_word (kind_of r.kind)) rs) (filter (λ r. is_word (kind_of r.kind)) rs)))
      by rest true asked true is =
          let to = ap (λ o. target_of result o r) mo ∙ target-clean o r (here asked) ∙ ap (λ o. moved_target M (target_of inputs o r)) (sym lo) in
          tested true is ∙ (λ i. record { at = at + r.offset; target = to i } ∷ rest i)
      by rest true asked false is = tested false is ∙ rest
      by rest false asked true is = let no = word-asks r is in absurd cc
      by rest false asked false is = rest

  module _ (closed : IsClosed inputs needed) where
    words-in-clean : (l : IndexedSection) → IsThere inputs.objects l → is_kept_section l.section ≡ true → is_code_section l.section ≡ false → MovesWords (cleaning needed number) inputs result clean M l
    words-in-clean l there kept plain = λ at.
        let leads = closed.leads l.object l.index l.section there (closed.data_needed l.object l.index l.section there kept plain) in
        ap (λ (s : SectionParts). map (data_word result (passed (cleaning needed number) l) at) (filter (λ r. is_word (kind_of r.kind)) s.relocs)) (clean-data (needed l.object l.index) l.section plain)
        ∙ words-kept l.object at l (passed (cleaning needed number) l) refl refl l.section.relocs leads

    pub bytes-clean : data_bytes result ≡ map (moved_byte M) (data_bytes inputs)
    bytes-clean = bytes-moved (cleaning needed number) inputs result clean M words-in-clean
