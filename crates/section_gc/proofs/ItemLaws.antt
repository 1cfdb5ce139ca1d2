-- The items of cleaned objects: at places of needed sections the same stand, with their places moved.
use Rattle.std.proofs.Common.{◌≡◌, ℕ, ◌+◌, ℤ, pos, negsuc, ◌+ℤ◌, List, [], ◌∷◌, length, refl, sym, ap, ap₂, ◌∙◌, Bool, true, false, cond, eqb, Option, Some, None, subst}
use Rattle.std.specs.Prelude.{◌&&◌, ◌||◌, All}
use Rattle.std.specs.List.{find}
use Rattle.std.specs.Option.{option_and_then, option_map, option_map_or, unwrap_or}
use Rattle.std.proofs.lemmas.List.Elements.{All-head, All-tail}
use Rattle.zc_base.specs.declared.place.Place.{Place}
use Rattle.elf32_read.specs.Parts.{ObjectParts, SectionParts, is_code_section}
use Rattle.elf32_read.specs.declared.reloc.Reloc.{Reloc}
use Rattle.psabi_sym.specs.Inputs.{ParsedInputs}
use Rattle.psabi_sym.specs.Indexed.{section_at}
use Rattle.psabi_sym.specs.Resolve.{name_target}
use Rattle.psabi_sym.specs.Start.{start_name}
use Rattle.psabi_sym.specs.declared.target.Target.{Target}
use Rattle.psabi_sym.specs.declared.target.Target.TheVariants as target
use Rattle.psabi_reloc.specs.Kinds.{kind_of}
use Rattle.rv_decode.specs.declared.instr.Instr.{Instr}
use Rattle.rv_decode.specs.declared.instr.Instr.TheVariants as instr
use Rattle.block_cut.specs.Items.{code_at, entry_in, entry_of, instr_item, is_end_at, is_start_at, is_target_at, item_at, item_in, item_under, known_item, next_at, place_on, raw_in, size_on, spelled_item, start_only, starts_on, target_away, target_of}
use Rattle.block_cut.specs.Relocs.{is_sound, instr_in, reloc_on}
use Rattle.block_cut.specs.declared.item.Item.{Item}
use Rattle.block_cut.specs.declared.item.Item.TheVariants as item
use Rattle.block_cut.specs.Resolved.{asks}
use Rattle.block_cut.proofs.AskingLaws.{asked, reloc_same, size_same, sound_asks, starts_same}
use Rattle.section_gc.specs.Cleaned.{moved_by}
use Rattle.moved_runs.proofs.MovedKinds.{IsUnread, goes-moved, known-moved, raw-unread}
use Rattle.moved_runs.specs.Passes.{ArePassed}
use Rattle.moved_runs.specs.Moved.{moved_item, moved_target}
use Rattle.section_gc.proofs.Closed.{IsClosed}
use Rattle.moved_runs.proofs.PassSections.{section-moved}
use Rattle.section_gc.proofs.CleaningLaws.{cleaning, needed-clean}
use Rattle.section_gc.proofs.ResolveLaws.{IsNeededTarget, name-clean}
use Rattle.section_gc.proofs.BytesLaws.{target-clean}

-- a section, if it is code
abbrev pub code_only : SectionParts → Option SectionParts
code_only s = cond (is_code_section s) (Some s) None

-- a place, if code may lead there
abbrev pub target_only : List ObjectParts → Place → Option Place
target_only objects p = cond (is_target_at objects p) (Some p) None

-- ---- what is found

found-in : (p : Reloc → Bool) (P : Reloc → Type 0) (xs : List Reloc) (r : Reloc) → All P xs → find p xs ≡ Some r → P r × (p r ≡ true)
found-in p P [] r all is = absurd cc
found-in p P (x ∷ xs) r all is = by (λ later. found-in p P xs r (All-tail P x xs all) later) (p x) refl is
  where
    by : (find p xs ≡ Some r → P r × (p r ≡ true)) → (b : Bool) → p x ≡ b → cond b (Some x) (find p xs) ≡ Some r → P r × (p r ≡ true)
    by rest true h is = let same : x ≡ r = cc in subst (λ y. P y × (p y ≡ true)) same (All-head P x xs all, h)
    by rest false h is = rest is

-- ---- places

-- the item at a place of a section, if one starts there
abbrev pub item_from : ParsedInputs → Place → SectionParts → Option Item
item_from inputs q s = cond (starts_on s q.offset) (Some (item_in inputs s q)) None

module _ (needed : ℕ → ℕ → Bool) (number : ℕ → ℕ → ℕ) (inputs result : ParsedInputs) (clean : ArePassed (cleaning needed number) inputs result) (closed : IsClosed inputs needed) where
  abbrev M : Place → Place
  M q = moved_by number q

  -- a place in a needed section
  abbrev pub Stays : Place → Type 0
  Stays q = needed q.object q.section ≡ true

  -- code, and what isn't
  only-clean : (s : SectionParts) → code_only (asked s) ≡ option_map asked (code_only s)
  only-clean s = by (is_code_section s)
    where
      by : (b : Bool) → cond b (Some (asked s)) None ≡ option_map asked (cond b (Some s) None)
      by true = refl
      by false = refl

  code-at-clean : (q : Place) → Stays q → code_at result.objects (M q) ≡ option_map asked (code_at inputs.objects q)
  code-at-clean q k =
      let there = closed.there q.object q.section k in
      ap (option_and_then code_only) (section-moved (cleaning needed number) inputs.objects result.objects clean.objects q.object q.section there.section there.at there.kept)
      ∙ ap code_only (needed-clean (needed q.object q.section) there.section k)
      ∙ only-clean there.section
      ∙ ap (λ x. option_map asked (option_and_then code_only x)) (sym there.at)

  start-clean : (q : Place) → Stays q → is_start_at result.objects (M q) ≡ is_start_at inputs.objects q
  start-clean q k = ap (λ x. option_map_or (λ s. starts_on s q.offset) x false) (code-at-clean q k) ∙ by (code_at inputs.objects q)
    where
      by : (x : Option SectionParts) → option_map_or (λ s. starts_on s q.offset) (option_map asked x) false ≡ option_map_or (λ s. starts_on s q.offset) x false
      by None = refl
      by (Some s) = starts_same s q.offset

  end-clean : (q : Place) → Stays q → is_end_at result.objects (M q) ≡ is_end_at inputs.objects q
  end-clean q k = ap (λ x. option_map_or (λ s. eqb q.offset (length s.bytes)) x false) (code-at-clean q k) ∙ by (code_at inputs.objects q)
    where
      by : (x : Option SectionParts) → option_map_or (λ s. eqb q.offset (length s.bytes)) (option_map asked x) false ≡ option_map_or (λ s. eqb q.offset (length s.bytes)) x false
      by None = refl
      by (Some s) = refl

  pub target-at-clean : (q : Place) → Stays q → is_target_at result.objects (M q) ≡ is_target_at inputs.objects q
  target-at-clean q k = ap₂ (λ a b. a || b) (start-clean q k) (end-clean q k)

  pub next-clean : (q : Place) → Stays q → next_at result.objects (M q) ≡ M (next_at inputs.objects q)
  next-clean q k = ap (λ x. record { object = q.object; section = number q.object q.section; offset = q.offset + option_map_or (λ s. size_on s q.offset) x 4 }) (code-at-clean q k) ∙ by (code_at inputs.objects q)
    where
      by : (x : Option SectionParts) → (record { object = q.object; section = number q.object q.section; offset = q.offset + option_map_or (λ s. size_on s q.offset) (option_map asked x) 4 }) ≡ M (record q { offset = q.offset + option_map_or (λ s. size_on s q.offset) x 4 })
      by None = refl
      by (Some s) = ap (λ n. M (record q { offset = q.offset + n })) (size_same s q.offset)

  -- ---- items without relocation

  only-target : (p : Place) → Stays p → target_only result.objects (M p) ≡ option_map M (target_only inputs.objects p)
  only-target p k = ap (λ b. cond b (Some (M p)) None) (target-at-clean p k) ∙ by (is_target_at inputs.objects p)
    where
      by : (b : Bool) → cond b (Some (M p)) None ≡ option_map M (cond b (Some p) None)
      by true = refl
      by false = refl

  away-clean : (q : Place) (distance : ℤ) → Stays q → target_away result.objects (M q) distance ≡ option_map M (target_away inputs.objects q distance)
  away-clean q distance k = by (pos q.offset +ℤ distance)
    where
      by : (z : ℤ) → option_and_then (target_only result.objects) (place_on (M q) z) ≡ option_map M (option_and_then (target_only inputs.objects) (place_on q z))
      by (pos n) = only-target (record q { offset = n }) k
      by (negsuc n) = refl

  instr-clean : (q : Place) (i : Instr) (raw : Item) → IsUnread M raw → Stays q → instr_item result.objects (M q) i raw ≡ moved_item M (instr_item inputs.objects q i raw)
  instr-clean q (instr.Upper op rd imm) raw u k = refl
  instr-clean q (instr.Jal rd d) raw u k = ap (λ o. option_map_or (item.Jump rd) o raw) (away-clean q d k) ∙ goes-moved M (item.Jump rd) (λ p. refl) (target_away inputs.objects q d) raw u
  instr-clean q (instr.Jalr rd base imm) raw u k = refl
  instr-clean q (instr.Branch op a b d) raw u k = ap (λ o. option_map_or (item.Branch op a b) o raw) (away-clean q d k) ∙ goes-moved M (item.Branch op a b) (λ p. refl) (target_away inputs.objects q d) raw u
  instr-clean q (instr.Load op rd base imm) raw u k = refl
  instr-clean q (instr.Store op source base imm) raw u k = refl
  instr-clean q (instr.WithImm op rd first imm) raw u k = refl
  instr-clean q (instr.WithReg op rd first second) raw u k = refl
  instr-clean q (instr.Fence rest) raw u k = refl
  instr-clean q instr.Ecall raw u k = refl
  instr-clean q instr.Ebreak raw u k = refl
  instr-clean q (instr.Csrrw rd source) raw u k = u

  spelled-clean : (q : Place) (i : Option Instr) (raw : Item) → IsUnread M raw → Stays q → spelled_item result.objects (M q) i raw ≡ moved_item M (spelled_item inputs.objects q i raw)
  spelled-clean q None raw u k = u
  spelled-clean q (Some i) raw u k = instr-clean q i raw u k

  -- ---- items

  -- what the relocation at an offset of a needed section leads to is needed
  pub reloc-needed : (q : Place) (s : SectionParts) (r : Reloc) → Stays q → section_at inputs.objects q.object q.section ≡ Some s → reloc_on s q.offset ≡ Some r → IsNeededTarget needed (target_of inputs q.object r)
  unfolding reloc_on
  reloc-needed q s r k at is =
      let both = found-in (λ r. is_sound s r && eqb r.offset q.offset) (λ r. asks r ≡ true → IsNeededTarget needed (target_of inputs q.object r)) s.relocs r (closed.leads q.object q.section s at k) is in
      both.0 (sound_asks s r q.offset both.1)

  item-in-clean : (q : Place) (s : SectionParts) → Stays q → section_at inputs.objects q.object q.section ≡ Some s → item_in result (asked s) (M q) ≡ moved_item M (item_in inputs s q)
  item-in-clean q s k at =
      ap₂ (λ r size. item_under result (M q) r size s.bytes) (reloc_same s q.offset) (size_same s q.offset)
      ∙ by (reloc_on s q.offset) refl (size_on s q.offset)
    where
      by : (r : Option Reloc) → reloc_on s q.offset ≡ r → (size : ℕ) → item_under result (M q) r size s.bytes ≡ moved_item M (item_under inputs q r size s.bytes)
      by None is size = spelled-clean q (instr_in size s.bytes q.offset) (raw_in size s.bytes q.offset) (raw-unread M size s.bytes q.offset) k
      by (Some r) is size =
          ap (λ t. known_item (kind_of r.kind) r.addend t s.bytes q.offset) (target-clean needed number inputs result clean q.object r (reloc-needed q s r k at is))
          ∙ known-moved M (kind_of r.kind) r.addend (target_of inputs q.object r) s.bytes q.offset

  pub item-clean : (q : Place) → Stays q → item_at result (M q) ≡ option_map (moved_item M) (item_at inputs q)
  unfolding item_at
  item-clean q k =
      let there = closed.there q.object q.section k in
      ap (option_and_then (item_from result (M q))) (code-at-clean q k)
      ∙ ap (λ x. option_and_then (item_from result (M q)) (option_map asked (option_and_then code_only x))) there.at
      ∙ by there.section there.at (is_code_section there.section)
      ∙ ap (λ x. option_map (moved_item M) (option_and_then (item_from inputs q) (option_and_then code_only x))) (sym there.at)
    where
      from : (s : SectionParts) → section_at inputs.objects q.object q.section ≡ Some s → (b : Bool) → cond b (Some (item_in result (asked s) (M q))) None ≡ option_map (moved_item M) (cond b (Some (item_in inputs s q)) None)
      from s at true = ap Some (item-in-clean q s k at)
      from s at false = refl

      by : (s : SectionParts) → section_at inputs.objects q.object q.section ≡ Some s → (b : Bool) → option_and_then (item_from result (M q)) (option_map asked (cond b (Some s) None)) ≡ option_map (moved_item M) (option_and_then (item_from inputs q) (cond b (Some s) None))
      by s at false = refl
      by s at true = ap (λ b. cond b (Some (item_in result (asked s) (M q))) None) (starts_same s q.offset) ∙ from s at (starts_on s q.offset)

  -- ---- the start

  start-only-clean : (t : Target) → IsNeededTarget needed t → start_only result.objects (moved_target M t) ≡ option_map M (start_only inputs.objects t)
  start-only-clean (target.Code q) k = ap (λ b. cond b (Some (M q)) None) (start-clean q k) ∙ by (is_start_at inputs.objects q)
    where
      by : (b : Bool) → cond b (Some (M q)) None ≡ option_map M (cond b (Some q) None)
      by true = refl
      by false = refl
  start-only-clean (target.Number n) k = refl
  start-only-clean (target.Absent n) k = refl
  start-only-clean target.Nowhere k = refl

  pub entry-in-clean : entry_in result ≡ option_map M (entry_in inputs)
  entry-in-clean =
      ap (start_only result.objects) (name-clean needed number inputs result clean start_name closed.starts)
      ∙ start-only-clean (name_target inputs start_name) closed.starts

  pub entry-clean : entry_of result ≡ M (entry_of inputs)
  entry-clean =
      ap (λ e. unwrap_or e (record { object = 0; section = 0; offset = 0 })) (entry-in-clean ∙ ap (option_map M) closed.entry_is)
      ∙ ap (λ e. M (unwrap_or e (record { object = 0; section = 0; offset = 0 }))) (sym closed.entry_is)
