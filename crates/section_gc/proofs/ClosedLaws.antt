-- What is needed is closed, if no fault stands.
use Rattle.std.proofs.Common.{◌≡◌, ℕ, List, [], ◌∷◌, length, refl, sym, ap, ◌∙◌, Bool, true, false, cond, Option, Some, None, slice_get, get_or, subst}
use Rattle.std.specs.Prelude.{◌&&◌, ◌||◌, not, All, Contains}
use Rattle.std.specs.Option.{option_and_then, option_map_or, option_or}
use Rattle.std.proofs.lemmas.Bool.{and_parts}
use Rattle.std.proofs.lemmas.List.Elements.{All-from_get_or, All-nil, Contains-get_or}
use Rattle.std.proofs.lemmas.Option.{slice_get-get_or}
use Rattle.zc_base.specs.declared.place.Place.{Place}
use Rattle.elf32_read.specs.Parts.{SectionParts, is_code_section, is_kept_section}
use Rattle.elf32_read.specs.declared.fault.Fault.{Fault}
use Rattle.elf32_read.specs.declared.fault.Fault.TheVariants.{BadTarget, LoPair, RelocKind, RelocPlace}
use Rattle.elf32_read.specs.declared.reloc.Reloc.{Reloc}
use Rattle.psabi_sym.specs.Fixed.{is_fixed, is_fixed_at}
use Rattle.psabi_sym.specs.Inputs.{ParsedInputs}
use Rattle.psabi_sym.specs.Indexed.{section_at}
use Rattle.psabi_sym.specs.Resolve.{name_target}
use Rattle.psabi_sym.specs.Start.{start_name}
use Rattle.psabi_sym.specs.declared.target.Target.{Target}
use Rattle.psabi_sym.specs.declared.target.Target.TheVariants as target
use Rattle.psabi_reloc.specs.Kinds.{kind_of}
use Rattle.block_cut.specs.Faults.{if_so, has_bad_target, is_stray, lacks_pcrel_hi, is_bad_target, relocs_fault}
use Rattle.block_cut.specs.Items.{code_at, entry_in, is_end_at, is_start_at, is_target_at, start_only, starts_on, target_of}
use Rattle.block_cut.specs.Relocs.{is_bad_kind, is_bad_place, is_ignored, is_transfer}
use Rattle.block_cut.proofs.DataLaws.{reloc_none}
use Rattle.block_cut.proofs.FaultLaws.{section_fine}
use Rattle.block_cut.proofs.ListedLaws.{listed}
use Rattle.block_cut.proofs.WholeLaws.{code_is_section}
use Rattle.block_cut.specs.Resolved.{asks}
use Rattle.section_gc.specs.Kept.{AreNeeded, Needed, Start, Data, Fixed, Referred}
use Rattle.section_gc.proofs.Closed.{IsClosed, IsKeptThere}
use Rattle.section_gc.proofs.ResolveLaws.{IsNeededTarget}

module _ (inputs : ParsedInputs) (fine : relocs_fault inputs ≡ None) where
  -- ---- a relocation without a fault isn't astray

  not-astray : (a b c d : Bool) (f g h i : Fault) → option_or (if_so a f) (option_or (if_so b g) (option_or (if_so c h) (option_or (if_so d i) None))) ≡ None → d ≡ false
  not-astray false false false false f g h i e = refl
  not-astray true b c d f g h i e = absurd cc
  not-astray false true c d f g h i e = absurd cc
  not-astray false false true d f g h i e = absurd cc
  not-astray false false false true f g h i e = absurd cc

  leads-on : (o i k : ℕ) (s : SectionParts) (r : Reloc) → section_at inputs.objects o i ≡ Some s → slice_get s.relocs k ≡ Some r → has_bad_target inputs (listed o i s) r ≡ false
  leads-on o i k s r at is =
      not-astray (is_bad_kind s (kind_of r.kind)) (is_bad_place s r || is_stray s r) (lacks_pcrel_hi inputs (listed o i s) r) (has_bad_target inputs (listed o i s) r)
      (RelocKind i r.offset) (RelocPlace i r.offset) (LoPair i r.offset) (BadTarget i r.offset) (reloc_none inputs o i s at (section_fine inputs fine o i s at) k r is)

  -- ---- places in kept code

  in-code : (q : Place) (s : SectionParts) → code_at inputs.objects q ≡ Some s → IsKeptThere inputs q.object q.section
  in-code q s at =
      let is = code_is_section inputs.objects q s at in
      record { section = s; at = is.0; kept = first (is_kept_section s) _ is.1 }
    where
      first : (a b : Bool) → (a && b) ≡ true → a ≡ true
      first true b h = refl
      first false b h = absurd cc

  started-there : (q : Place) → is_start_at inputs.objects q ≡ true → IsKeptThere inputs q.object q.section
  started-there q = by (code_at inputs.objects q) refl
    where
      by : (c : Option SectionParts) → code_at inputs.objects q ≡ c → option_map_or (λ s. starts_on s q.offset) c false ≡ true → IsKeptThere inputs q.object q.section
      by None is h = absurd cc
      by (Some s) is h = in-code q s is

  target-there : (q : Place) → is_target_at inputs.objects q ≡ true → IsKeptThere inputs q.object q.section
  target-there q = by (code_at inputs.objects q) refl
    where
      by : (c : Option SectionParts) → code_at inputs.objects q ≡ c → (option_map_or (λ s. starts_on s q.offset) c false || is_end_at inputs.objects q) ≡ true → IsKeptThere inputs q.object q.section
      by None is h = absurd (let e = ap (λ c. option_map_or (λ (s : SectionParts). Rattle.std.specs.Prelude.nat_eq q.offset (length s.bytes)) c false) is in cc)
      by (Some s) is h = in-code q s is

  -- what asks and leads to a place leads to kept code
  lands : (transfers : Bool) (a : Bool) (q : Place) → a ≡ true → (a && is_bad_target inputs.objects transfers (target.Code q)) ≡ false → is_target_at inputs.objects q ≡ true
  lands transfers true q e h = by (is_target_at inputs.objects q) h
    where
      by : (b : Bool) → not b ≡ false → b ≡ true
      by true h = refl
      by false h = absurd cc
  lands transfers false q e h = absurd cc

  somewhere : (transfers : Bool) (a : Bool) → a ≡ true → (a && is_bad_target inputs.objects transfers target.Nowhere) ≡ false → ⊥
  somewhere transfers true e h = cc
  somewhere transfers false e h = cc

  -- ---- the start

  start-place : (t : Target) (p : Place) → start_only inputs.objects t ≡ Some p → (t ≡ target.Code p) × (is_start_at inputs.objects p ≡ true)
  start-place (target.Code q) p h = by (is_start_at inputs.objects q) refl h
    where
      by : (b : Bool) → is_start_at inputs.objects q ≡ b → cond b (Some q) None ≡ Some p → (target.Code q ≡ target.Code p) × (is_start_at inputs.objects p ≡ true)
      by true is h = let same : q ≡ p = cc in (ap target.Code same, ap (is_start_at inputs.objects) (sym same) ∙ is)
      by false is h = absurd cc
  start-place (target.Number n) p h = absurd cc
  start-place (target.Absent n) p h = absurd cc
  start-place target.Nowhere p h = absurd cc

  not-quiet : (r : Reloc) → is_ignored (kind_of r.kind) ≡ false → asks r ≡ true
  not-quiet r h = ap not h

  -- what is fixed is kept code
  fixed-there : (o i : ℕ) → is_fixed_at inputs o i ≡ true → IsKeptThere inputs o i
  fixed-there o i = by (section_at inputs.objects o i) refl
    where
      by : (s : Option SectionParts) → section_at inputs.objects o i ≡ s → option_map_or (is_fixed inputs.fixed) s false ≡ true → IsKeptThere inputs o i
      by None at h = absurd cc
      by (Some s) at h = record {
        section = s;
        at = at;
        kept = (and_parts (is_kept_section s) _ (and_parts (is_code_section s) _ h).0).0;
      }

  -- ---- what is needed is kept

  pub needed-there : (o i : ℕ) → Needed inputs o i → IsKeptThere inputs o i
  needed-there o i (Start p e) = started-there p (start-place (name_target inputs start_name) p e).1
  needed-there o i (Data x y s at kept plain) = record { section = s; at = at; kept = kept }
  needed-there o i (Fixed x y fixed) = fixed-there x y fixed
  needed-there o i (Referred from j to need refers) = target-there to (leads-to refers.its)
    where
      leads-to : Contains refers.section.relocs refers.reloc → is_target_at inputs.objects to ≡ true
      leads-to its =
          let got : slice_get refers.section.relocs its.0 ≡ Some refers.reloc = slice_get-get_or refers.section.relocs its.0 refers.reloc its.1 ∙ ap Some its.2 in
          let led = leads-on from j its.0 refers.section refers.reloc refers.section_is got in
          lands (is_transfer (kind_of refers.reloc.kind)) (asks refers.reloc) to (not-quiet refers.reloc refers.asks)
          (sym (ap (λ t. asks refers.reloc && is_bad_target inputs.objects (is_transfer (kind_of refers.reloc.kind)) t) refers.leads) ∙ led)

  -- ---- the whole

  pub closed : (needed : ℕ → ℕ → Bool) → AreNeeded inputs needed → (p : Place) → entry_in inputs ≡ Some p → IsClosed inputs needed
  closed needed are p found = record {
    there = λ o i h. needed-there o i (are.only o i h);
    data_needed = λ o i s at kept plain. are.all o i (Data o i s at kept plain);
    leads = λ o i s at h. each o i s at (needed-there o i (are.only o i h)) (are.only o i h);
    entry = p;
    entry_is = found;
    starts = start (name_target inputs start_name) refl found;
  }
    where
      start : (t : Target) → name_target inputs start_name ≡ t → start_only inputs.objects t ≡ Some p → IsNeededTarget needed t
      start t is h = let here = start-place t p h in subst (IsNeededTarget needed) (sym here.0) (are.all p.object p.section (Start p found))

      one : (o i k : ℕ) (s : SectionParts) (r : Reloc) → section_at inputs.objects o i ≡ Some s → is_kept_section s ≡ true → Needed inputs o i → slice_get s.relocs k ≡ Some r → Contains s.relocs r → asks r ≡ true → (t : Target) → target_of inputs o r ≡ t → IsNeededTarget needed t
      one o i k s r at kept need got its asked (target.Code q) is =
          are.all q.object q.section (Referred o i q need (record { section = s; section_is = at; kept = kept; reloc = r; its = its; asks = quiet (is_ignored (kind_of r.kind)) asked; leads = is }))
        where
          quiet : (b : Bool) → not b ≡ true → b ≡ false
          quiet false h = refl
          quiet true h = absurd cc
      one o i k s r at kept need got its asked (target.Number n) is = tt
      one o i k s r at kept need got its asked (target.Absent n) is = tt
      one o i k s r at kept need got its asked target.Nowhere is =
          somewhere (is_transfer (kind_of r.kind)) (asks r) asked
          (sym (ap (λ t. asks r && is_bad_target inputs.objects (is_transfer (kind_of r.kind)) t) is) ∙ leads-on o i k s r at got)

      each : (o i : ℕ) (s : SectionParts) → section_at inputs.objects o i ≡ Some s → IsKeptThere inputs o i → Needed inputs o i → All (λ r. asks r ≡ true → IsNeededTarget needed (target_of inputs o r)) s.relocs
      each o i s at there need = from s.relocs refl
        where
          kept : is_kept_section s ≡ true
          kept = let at' = there.at in let same : there.section ≡ s = cc in ap is_kept_section (sym same) ∙ there.kept

          from : (rs : List Reloc) → s.relocs ≡ rs → All (λ r. asks r ≡ true → IsNeededTarget needed (target_of inputs o r)) s.relocs
          from [] is = subst (All (λ r. asks r ≡ true → IsNeededTarget needed (target_of inputs o r))) (sym is) (All-nil (λ r. asks r ≡ true → IsNeededTarget needed (target_of inputs o r)))
          from (d ∷ rs) is =
              All-from_get_or (λ r. asks r ≡ true → IsNeededTarget needed (target_of inputs o r)) s.relocs d
              (λ k lt asked. one o i k s (get_or s.relocs k d) at kept need (slice_get-get_or s.relocs k d lt) (Contains-get_or s.relocs k d lt) asked (target_of inputs o (get_or s.relocs k d)) refl)
