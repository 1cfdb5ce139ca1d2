-- A symbol that stands at a leader leads to where that is found without an addend, and so the program starts where the given start is
-- found.
use Rattle.std.proofs.Common.{◌≡◌, ℕ, zero, suc, ◌+◌, pos, ◌-ℤ◌, List, refl, sym, ap, ◌∙◌, arith, Bool, true, false, cond, eqb, leb, Option, Some, None, subst}
use Rattle.std.specs.Int.{w32, cast_unsigned}
use Rattle.std.specs.Option.{option_map_or, unwrap_or}
use Rattle.std.proofs.Math.IntN.{+ℤ-neg_ℤ_cancel}
use Rattle.zc_base.specs.declared.place.Place.{Place}
use Rattle.elf32_read.specs.Parts.{SectionParts, SymbolParts, is_code_section}
use Rattle.psabi_sym.specs.Data.{is_code_role, role_of}
use Rattle.psabi_sym.specs.Inputs.{ParsedInputs}
use Rattle.psabi_sym.specs.Indexed.{section_at, symbol_at}
use Rattle.psabi_sym.specs.Names.{goes_by_name}
use Rattle.psabi_sym.specs.Resolve.{Definition, definition_target, home_target, name_definition, name_target, number_target, resolved, role_target, symbol_target, undefined_target}
use Rattle.psabi_sym.specs.Resolve.Definition.{InObject, AtNumber}
use Rattle.psabi_sym.specs.Start.{start_name}
use Rattle.psabi_sym.specs.declared.section_row.SectionRole.{SectionRole}
use Rattle.psabi_sym.specs.declared.section_row.SectionRole.TheVariants as role
use Rattle.psabi_sym.specs.declared.target.Target.{Target}
use Rattle.psabi_sym.specs.declared.target.Target.TheVariants.{Code, Number, Absent, Nowhere}
use Rattle.psabi_sym.proofs.PlaceLaws.{code_is}
use Rattle.block_cut.specs.Items.{entry_in, entry_of, is_start_at, start_only}
use Rattle.block_cut.specs.Leaders.{is_leader_at}
use Rattle.moved_runs.specs.Moved.{moved_target}
use Rattle.moved_runs.specs.Passes.{ArePassed}
use Rattle.moved_runs.proofs.Faultless.{start_at}
use Rattle.moved_runs.proofs.PassTargets.{DefinitionMoves, SymbolMoves, name-moved}
use Rattle.moved_runs.proofs.StartLed.{name_leader}
use Rattle.tail_merge.specs.Merged.{defining_value, definition_of, indexed, merged_place, new_value, removed_at}
use Rattle.tail_merge.specs.Tails.{merged_offset, moved_down}
use Rattle.tail_merge.proofs.FoundLaws.{leader-found, removed-here}
use Rattle.tail_merge.proofs.MergingLaws.{merging}
use Rattle.tail_merge.proofs.ResolvedLaws.{AreWhole, IsSomewhere, addend_from, defines-merged, moved_value}

module _ (inputs : ParsedInputs) where
  -- where a symbol that stands in code is
  record IsHome (o : ℕ) (s : SymbolParts) (q : Place) : Type 0 where
    section : SectionParts
    there : section_at inputs.objects o s.home ≡ Some section
    code : is_code_section section ≡ true
    same : record { object = o; section = s.home; offset = s.value } ≡ q

  home-place : (o : ℕ) (s : SymbolParts) (q : Place) → home_target inputs o s (pos 0) ≡ Code q → IsHome o s q
  home-place o s q = by (eqb s.home 0xFFF1)
    where
      in-code : (h : SectionParts) → section_at inputs.objects o s.home ≡ Some h → (r : SectionRole) → role_of h ≡ r → role_target inputs o s.home s.value (pos 0) h r ≡ Code q → IsHome o s q
      in-code h at role.Code is e = record { section = h; there = at; code = sym (code_is h) ∙ ap is_code_role is; same = offset (leb (s.value + 0) h.size) e }
        where
          offset : (b : Bool) → option_map_or (λ n. Code (record { object = o; section = s.home; offset = n })) (cond b (Some (s.value + 0)) None) Nowhere ≡ Code q → record { object = o; section = s.home; offset = s.value } ≡ q
          offset true e =
              let sum : s.value ≡ s.value + 0 = omega arith in
              let there : record { object = o; section = s.home; offset = s.value + 0 } ≡ q = cc in
              ap (λ n. record { object = o; section = s.home; offset = n }) sum ∙ there
          offset false e = absurd cc
      in-code h at (role.InClass class) is e = absurd cc
      in-code h at role.Dropped is e = absurd cc

      found : (x : Option SectionParts) → section_at inputs.objects o s.home ≡ x → option_map_or (λ h. role_target inputs o s.home s.value (pos 0) h (role_of h)) x Nowhere ≡ Code q → IsHome o s q
      found None at e = absurd cc
      found (Some h) at e = in-code h at (role_of h) refl e

      by : (b : Bool) → cond b (number_target s.value (pos 0)) (option_map_or (λ h. role_target inputs o s.home s.value (pos 0) h (role_of h)) (section_at inputs.objects o s.home) Nowhere) ≡ Code q → IsHome o s q
      by true e = absurd cc
      by false e = found (section_at inputs.objects o s.home) refl e

  nothing-left : (x y : ℕ) → x ≡ y → pos x -ℤ pos y ≡ pos 0
  nothing-left x y same =
      let sum : x ≡ 0 + y = omega (arith, same) in
      ap (λ z. pos z -ℤ pos y) sum ∙ +ℤ-neg_ℤ_cancel (pos 0) (pos y)

  module _ (whole : AreWhole inputs) where
    -- a leader
    abbrev pub LeadsToLeader : Target → Type 0
    LeadsToLeader t = (q : Place) → t ≡ Code q → is_leader_at inputs q ≡ true

    pub home-zero : (o : ℕ) (s : SymbolParts) → LeadsToLeader (home_target inputs o s (pos 0)) → addend_from inputs (home_target inputs o s (pos 0)) (moved_value inputs o s) (pos 0) ≡ pos 0
    home-zero o s leader = by (home_target inputs o s (pos 0)) refl
      where
        by : (t : Target) → home_target inputs o s (pos 0) ≡ t → addend_from inputs t (moved_value inputs o s) (pos 0) ≡ pos 0
        by (Code q) is =
            let home = home-place o s q is in
            let h = home.section in
            let leads : is_leader_at inputs (record { object = o; section = s.home; offset = s.value }) ≡ true = ap (is_leader_at inputs) home.same ∙ leader q is in
            let found = leader-found inputs (indexed o s.home h) home.code (whole o s.home h home.there home.code) s.value leads in
            let offset : (merged_place inputs q).offset ≡ merged_offset (removed_at inputs o s.home) s.value = ap (λ p. (merged_place inputs p).offset) (sym home.same) in
            let removed = removed-here inputs o s.home h home.there home.code in
            nothing-left (merged_place inputs q).offset (moved_value inputs o s) (offset ∙ ap (λ rs. merged_offset rs s.value) removed ∙ found ∙ sym (ap (λ rs. moved_down rs s.value) removed))
        by (Number n) is = refl
        by (Absent n) is = refl
        by Nowhere is = refl

    definition-zero : (s : SymbolParts) (d : Option Definition) → LeadsToLeader (option_map_or (definition_target inputs (pos 0)) d (undefined_target s (pos 0)))
        → addend_from inputs (option_map_or (definition_target inputs (pos 0)) d (undefined_target s (pos 0))) (defining_value inputs d) (pos 0) ≡ pos 0
    definition-zero s None leader = by (eqb s.bind 2)
      where
        by : (b : Bool) → addend_from inputs (cond b (Absent (cast_unsigned w32 (pos 0))) Nowhere) 0 (pos 0) ≡ pos 0
        by true = refl
        by false = refl
    definition-zero s (Some (AtNumber n)) leader = refl
    definition-zero s (Some (InObject l)) leader = home-zero l.object l.symbol leader

    -- what stands at a leader by itself needs no addend
    pub zero-stays : (o k : ℕ) → LeadsToLeader (resolved inputs o k (pos 0)) → addend_from inputs (resolved inputs o k (pos 0)) (new_value inputs o k) (pos 0) ≡ pos 0
    unfolding resolved
    zero-stays o zero leader = refl
    zero-stays o (suc k) leader = by (symbol_at inputs.objects o (suc k)) leader
      where
        by : (x : Option SymbolParts) → LeadsToLeader (option_map_or (λ symbol. symbol_target inputs o symbol (pos 0)) x Nowhere)
            → addend_from inputs (option_map_or (λ symbol. symbol_target inputs o symbol (pos 0)) x Nowhere) (option_map_or (λ s. defining_value inputs (definition_of inputs o (suc k) s)) x 0) (pos 0) ≡ pos 0
        by None leader = refl
        by (Some s) leader = either (goes_by_name s) leader
          where
            either : (b : Bool) → LeadsToLeader (cond b (option_map_or (definition_target inputs (pos 0)) (name_definition inputs s.name) (undefined_target s (pos 0))) (home_target inputs o s (pos 0)))
                → addend_from inputs (cond b (option_map_or (definition_target inputs (pos 0)) (name_definition inputs s.name) (undefined_target s (pos 0))) (home_target inputs o s (pos 0)))
                (defining_value inputs (cond b (name_definition inputs s.name) (Some (InObject (record { object = o; index = suc k; symbol = s }))))) (pos 0) ≡ pos 0
            either true leader = definition-zero s (name_definition inputs s.name) leader
            either false leader = home-zero o s leader

-- ---- names

module _ (inputs result : ParsedInputs) (passes : ArePassed (merging inputs) inputs result) (whole : AreWhole inputs) where
  abbrev M : Place → Place
  M q = merged_place inputs q

  -- where a name leads by itself
  pub name-merged : (name : List ℕ) → IsSomewhere (name_target inputs name) → name_target result name ≡ moved_target M (name_target inputs name)
  name-merged name it = name-moved (merging inputs) inputs result passes M name (by (name_definition inputs name) (λ q leads. name_leader inputs q name leads) it)
    where
      by : (d : Option Definition) → LeadsToLeader inputs whole (option_map_or (definition_target inputs (pos 0)) d Nowhere) → IsSomewhere (option_map_or (definition_target inputs (pos 0)) d Nowhere)
          → DefinitionMoves (merging inputs) inputs result passes M (pos 0) (pos 0) d
      by None leader it = refl
      by (Some (AtNumber n)) leader it = refl
      by (Some (InObject l)) leader it =
          subst (λ z. SymbolMoves (merging inputs) inputs result passes M (pos 0) z l) (home-zero inputs whole l.object l.symbol leader) (defines-merged inputs result passes whole (pos 0) l it)

  -- ---- the start

  module _ (entry : Place) (found : entry_in inputs ≡ Some entry) (starts : is_start_at result.objects (merged_place inputs entry) ≡ true) where
    -- the program starts where the given start is found
    pub entry-found : entry_in result ≡ Some (merged_place inputs entry)
    entry-found =
        let is = start_at inputs.objects (name_target inputs start_name) entry found in
        ap (start_only result.objects) (name-merged start_name (subst IsSomewhere (sym is.leads) tt) ∙ ap (moved_target M) is.leads)
        ∙ ap (λ b. cond b (Some (merged_place inputs entry)) None) starts

    pub entry-merged : entry_of result ≡ merged_place inputs (entry_of inputs)
    entry-merged =
        ap (λ e. unwrap_or e (record { object = 0; section = 0; offset = 0 })) entry-found
        ∙ sym (ap (λ e. merged_place inputs (unwrap_or e (record { object = 0; section = 0; offset = 0 }))) found)

-- the start is a leader, where an item starts
pub entry-leader : (inputs : ParsedInputs) (entry : Place) → entry_in inputs ≡ Some entry → (is_start_at inputs.objects entry ≡ true) × (is_leader_at inputs entry ≡ true)
entry-leader inputs entry found =
    let is = start_at inputs.objects (name_target inputs start_name) entry found in
    (is.starts, name_leader inputs entry start_name is.leads)
