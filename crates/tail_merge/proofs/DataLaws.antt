-- The data of merged objects are the given ones, moved: they lie where they were, and words lead to where the given ones' targets are
-- found.
use Rattle.std.proofs.Common.{◌≡◌, ℕ, ◌+◌, List, [], ◌∷◌, length, refl, ap, ◌∙◌, map, filter, Bool, true, false, cond, Option, Some, None, get_or}
use Rattle.std.specs.Prelude.{All}
use Rattle.std.proofs.lemmas.List.Elements.{All-head, All-tail}
use Rattle.std.proofs.lemmas.Option.{slice_get-get_or}
use Rattle.zc_base.specs.declared.place.Place.{Place}
use Rattle.elf32_read.specs.Parts.{SectionParts, is_code_section, is_kept_section}
use Rattle.elf32_read.specs.declared.reloc.Reloc.{Reloc}
use Rattle.psabi_reloc.specs.Kinds.{kind_of}
use Rattle.psabi_reloc.specs.declared.kind.RelocKind.{RelocKind}
use Rattle.psabi_reloc.specs.declared.kind.RelocKind.TheVariants as kind
use Rattle.psabi_sym.specs.Inputs.{Inputs, ParsedInputs, parsed}
use Rattle.psabi_sym.specs.Indexed.{IndexedSection}
use Rattle.block_cut.specs.DataWords.{data_word}
use Rattle.block_cut.specs.Faults.{first_fault}
use Rattle.block_cut.specs.Items.{target_of}
use Rattle.block_cut.specs.Relocs.{is_word}
use Rattle.block_cut.specs.Resolved.{asks}
use Rattle.sym_machine.specs.Objects.{data_bytes}
use Rattle.moved_runs.specs.Moved.{moved_byte, moved_data, moved_target}
use Rattle.moved_runs.specs.Named.{IsNamedByte}
use Rattle.moved_runs.specs.Passes.{ArePassed}
use Rattle.moved_runs.proofs.PassBytes.{MovesWords, bytes-moved, bytes-named, word-asks}
use Rattle.moved_runs.proofs.PassListed.{IsThere}
use Rattle.moved_runs.proofs.PassSections.{passed}
use Rattle.tail_merge.specs.Merged.{is_align_kind, merged_bytes, merged_place, merged_reloc, merged_relocs, merged_section}
use Rattle.tail_merge.specs.Merging.{IsHeld}
use Rattle.tail_merge.proofs.AskedLaws.{asked-merged, asked-named}
use Rattle.tail_merge.proofs.FoundLaws.{none-removed}
use Rattle.tail_merge.proofs.MergingLaws.{merging}

-- data keep all but their relocations
pub merged-data : (inputs : ParsedInputs) (o i : ℕ) (s : SectionParts) → is_code_section s ≡ false → merged_section inputs o i s ≡ record s { relocs = merged_relocs inputs (record { object = o; index = i; section = s }) }
merged-data inputs o i s plain =
    ap (λ c. cond c (record s { relocs = merged_relocs inputs l; size = length (merged_bytes inputs l); bytes = merged_bytes inputs l }) (record s { relocs = merged_relocs inputs l })) plain
  where
    l : IndexedSection
    l = record { object = o; index = i; section = s }

word-leads : (k : Option RelocKind) → is_word k ≡ true → is_align_kind k ≡ false
word-leads (Some kind.Word) h = refl
word-leads k h = absurd cc

module _ (inputs : Inputs) (none : first_fault inputs ≡ None) where
  abbrev p : ParsedInputs
  p = parsed inputs

  abbrev M : Place → Place
  M q = merged_place p q

  -- what data name
  pub merged-named : All (IsNamedByte (IsHeld p)) (data_bytes p)
  merged-named = bytes-named (IsHeld p) p (λ l there kept plain. λ k d lt is.
      asked-named inputs none l.object l.index k l.section (get_or l.section.relocs k d) there (slice_get-get_or l.section.relocs k d lt) (word-asks (get_or l.section.relocs k d) is))

  module _ (result : ParsedInputs) (passes : ArePassed (merging p) p result) where
    -- a relocation that asks leads to where its target is found
    abbrev Leads : ℕ → Reloc → Type 0
    Leads o r = asks r ≡ true → is_align_kind (kind_of r.kind) ≡ false → target_of result o (merged_reloc p o [] r) ≡ moved_target M (target_of p o r)

    words-kept : (at : ℕ) (l m : IndexedSection) → m.object ≡ l.object → (rs : List Reloc) → All (Leads l.object) rs
        → map (data_word result m at) (filter (λ r. is_word (kind_of r.kind)) (map (merged_reloc p l.object []) (filter asks rs)))
        ≡ map (moved_data M) (map (data_word p l at) (filter (λ r. is_word (kind_of r.kind)) rs))
    words-kept at l m same [] leads = refl
    words-kept at l m same (r ∷ rs) leads = by (words-kept at l m same rs (All-tail (Leads l.object) r rs leads)) (asks r) refl (is_word (kind_of r.kind)) refl
      where
        rest-of : List Reloc → List Reloc
        rest-of rs = filter (λ r. is_word (kind_of r.kind)) (map (merged_reloc p l.object []) (filter asks rs))

        by : map (data_word result m at) (rest-of rs) ≡ map (moved_data M) (map (data_word p l at) (filter (λ r. is_word (kind_of r.kind)) rs))
            → (a : Bool) → asks r ≡ a → (b : Bool) → is_word (kind_of r.kind) ≡ b
            → map (data_word result m at) (filter (λ r. is_word (kind_of r.kind)) (map (merged_reloc p l.object []) (cond a (r ∷ filter asks rs) (filter asks rs))))
            ≡ map (moved_data M) (map (data_word p l at) (cond b (r ∷ filter (λ r. is_word (kind_of r.kind)) rs) (filter (λ r. is_word (kind_of r.kind)) rs)))
        by rest true asked true is =
            let to = ap (λ o. target_of result o (merged_reloc p l.object [] r)) same ∙ All-head (Leads l.object) r rs leads asked (word-leads (kind_of r.kind) is) in
            ap (λ b. map (data_word result m at) (cond b (merged_reloc p l.object [] r ∷ rest-of rs) (rest-of rs))) is ∙ (λ i. record { at = at + r.offset; target = to i } ∷ rest i)
        by rest true asked false is = ap (λ b. map (data_word result m at) (cond b (merged_reloc p l.object [] r ∷ rest-of rs) (rest-of rs))) is ∙ rest
        by rest false asked true is = let no = word-asks r is in absurd cc
        by rest false asked false is = rest

    words-merged : (l : IndexedSection) → IsThere p.objects l → is_kept_section l.section ≡ true → is_code_section l.section ≡ false → MovesWords (merging p) p result passes M l
    words-merged l there kept plain = λ at.
        ap (λ (s : SectionParts). map (data_word result (passed (merging p) l) at) (filter (λ r. is_word (kind_of r.kind)) s.relocs)) (merged-data p l.object l.index l.section plain)
        ∙ ap (λ removed. map (data_word result (passed (merging p) l) at) (filter (λ r. is_word (kind_of r.kind)) (map (merged_reloc p l.object removed) (filter asks l.section.relocs)))) (none-removed p l.object l.index l.section there plain)
        ∙ words-kept at l (passed (merging p) l) refl l.section.relocs (λ k d lt asked leads.
        asked-merged inputs none l.object l.index k l.section (get_or l.section.relocs k d) there (slice_get-get_or l.section.relocs k d lt) asked result passes [] leads)

    pub bytes-merged : data_bytes result ≡ map (moved_byte M) (data_bytes p)
    bytes-merged = bytes-moved (merging p) p result passes M words-merged
