-- The program of cleaned objects is the given one with its places moved.
use Rattle.std.proofs.Common.{◌≡◌, ℕ, ◌+◌, ℤ, pos, negsuc, ◌+ℤ◌, List, refl, sym, ap, ◌∙◌, Bool, true, false, cond, eqb, Option, Some, None, slice_get, subst, inl, inr}
use Rattle.std.specs.Prelude.{All}
use Rattle.std.specs.Option.{option_and_then, option_map, option_map_or, unwrap_or}
use Rattle.std.proofs.lemmas.List.Elements.{All-weaker}
use Rattle.zc_base.specs.Fields.{half_in, word_in}
use Rattle.zc_base.specs.declared.place.Place.{Place}
use Rattle.elf32_read.specs.Parts.{ObjectParts, SectionParts, is_code_section}
use Rattle.elf32_read.specs.declared.reloc.Reloc.{Reloc}
use Rattle.psabi_sym.specs.Inputs.{ParsedInputs}
use Rattle.psabi_sym.specs.Indexed.{section_at}
use Rattle.psabi_sym.specs.Resolve.{name_target}
use Rattle.psabi_sym.specs.Start.{start_name}
use Rattle.psabi_sym.specs.declared.target.Target.{Target}
use Rattle.psabi_sym.specs.declared.target.Target.TheVariants as target
use Rattle.psabi_reloc.specs.Kinds.{kind_of}
use Rattle.psabi_reloc.specs.declared.kind.RelocKind.{RelocKind}
use Rattle.psabi_reloc.specs.declared.kind.RelocKind.TheVariants as kind
use Rattle.rv_decode.specs.declared.instr.Instr.{Instr}
use Rattle.rv_decode.specs.declared.instr.Instr.TheVariants as instr
use Rattle.block_cut.specs.Items.{call_item, entry_of, instr_item, is_start_at, is_target_at, item_at, item_in, item_under, known_item, place_on, raw_in, raw_pair, size_on, spelled_item, start_only, starts_on, target_of, to_place, transfer_item, transfer_under}
use Rattle.block_cut.specs.Relocs.{instr_in, is_word, reloc_on}
use Rattle.block_cut.specs.declared.item.Item.{Item}
use Rattle.block_cut.specs.declared.item.Item.TheVariants as item
use Rattle.sym_machine.specs.AddressParts.{pc_target}
use Rattle.sym_machine.specs.Conditions.{is_solid}
use Rattle.sym_machine.specs.Objects.{data_bytes, program_of}
use Rattle.block_cut.specs.Resolved.{asks}
use Rattle.section_gc.specs.Cleaned.{moved_by}
use Rattle.moved_runs.specs.Passes.{ArePassed}
use Rattle.moved_runs.specs.Moved.{moved_item}
use Rattle.moved_runs.specs.Named.{IsNamedByte, IsNamedTarget}
use Rattle.moved_runs.specs.Moves.{IsNamedOption, ItemLeads, KeepsItem, MovesExactly, OpLeads, PcMoves, SameRuns}
use Rattle.section_gc.proofs.Closed.{IsClosed, IsKeptThere}
use Rattle.moved_runs.proofs.MovedKinds.{of_instr}
use Rattle.moved_runs.proofs.PassBytes.{bytes-named, word-asks}
use Rattle.moved_runs.proofs.PassNumbers.{own-number}
use Rattle.moved_runs.proofs.PassSections.{result-of}
use Rattle.section_gc.proofs.CleaningLaws.{cleaning}
use Rattle.section_gc.proofs.ResolveLaws.{IsNeededTarget}
use Rattle.section_gc.proofs.BytesLaws.{bytes-clean}
use Rattle.section_gc.proofs.ItemLaws.{code_only, target_only, entry-clean, item-clean, item_from, next-clean, reloc-needed}
use Rattle.moved_runs.proofs.Words.{pc-target-moved}
use Rattle.moved_runs.proofs.Runs.{same-runs}

-- ---- what items name

-- the places that an item names
abbrev ItemNames : (Place → Type 0) → Item → Type 0
ItemNames K (item.Hi i t) = IsNamedTarget K t
ItemNames K (item.Lo i t) = IsNamedTarget K t
ItemNames K (item.PcHi i t) = IsNamedTarget K t
ItemNames K (item.PcLo i q) = K q
ItemNames K (item.Branch op first second to) = K to
ItemNames K (item.Jump rd to) = K to
ItemNames K (item.Call rd temp to) = K to
ItemNames K (item.Word t) = IsNamedTarget K t
ItemNames K (item.Op i) = Unit {0}
ItemNames K (item.Align n) = Unit {0}
ItemNames K (item.Raw w) = Unit {0}
ItemNames K (item.RawShort h) = Unit {0}
ItemNames K (item.RawPair v w) = Unit {0}

module _ (needed : ℕ → ℕ → Bool) (number : ℕ → ℕ → ℕ) (inputs result : ParsedInputs) (clean : ArePassed (cleaning needed number) inputs result) (closed : IsClosed inputs needed) where
  abbrev M : Place → Place
  M q = moved_by number q

  abbrev K : Place → Type 0
  K q = needed q.object q.section ≡ true

  target-names : (t : Target) → IsNeededTarget needed t → IsNamedTarget K t
  target-names (target.Code q) it = it
  target-names (target.Number n) it = tt
  target-names (target.Absent n) it = tt
  target-names target.Nowhere it = tt

  raw-names : (size : ℕ) (bytes : List ℕ) (n : ℕ) → ItemNames K (raw_in size bytes n)
  raw-names size bytes n = by (eqb size 2)
    where
      by : (b : Bool) → ItemNames K (cond b (item.RawShort (half_in bytes n)) (item.Raw (word_in bytes n)))
      by true = tt
      by false = tt

  away-names : (f : Place → Item) → ((p : Place) → K p → ItemNames K (f p)) → (q : Place) → K q → (z : ℤ) (raw : Item) → ItemNames K raw → ItemNames K (option_map_or f (option_and_then (target_only inputs.objects) (place_on q z)) raw)
  away-names f names q k (negsuc n) raw u = u
  away-names f names q k (pos n) raw u = by (is_target_at inputs.objects (record q { offset = n }))
    where
      by : (b : Bool) → ItemNames K (option_map_or f (cond b (Some (record q { offset = n })) None) raw)
      by true = names (record q { offset = n }) k
      by false = u

  instr-names : (q : Place) (i : Instr) (raw : Item) → ItemNames K raw → K q → ItemNames K (instr_item inputs.objects q i raw)
  instr-names q (instr.Jal rd d) raw u k = away-names (item.Jump rd) (λ p h. h) q k (pos q.offset +ℤ d) raw u
  instr-names q (instr.Branch op a b d) raw u k = away-names (item.Branch op a b) (λ p h. h) q k (pos q.offset +ℤ d) raw u
  instr-names q (instr.Upper op rd imm) raw u k = tt
  instr-names q (instr.Jalr rd base imm) raw u k = tt
  instr-names q (instr.Load op rd base imm) raw u k = tt
  instr-names q (instr.Store op source base imm) raw u k = tt
  instr-names q (instr.WithImm op rd first imm) raw u k = tt
  instr-names q (instr.WithReg op rd first second) raw u k = tt
  instr-names q (instr.Fence rest) raw u k = tt
  instr-names q instr.Ecall raw u k = tt
  instr-names q instr.Ebreak raw u k = tt
  instr-names q (instr.Csrrw rd source) raw u k = u

  spelled-names : (q : Place) (i : Option Instr) (raw : Item) → ItemNames K raw → K q → ItemNames K (spelled_item inputs.objects q i raw)
  spelled-names q None raw u k = u
  spelled-names q (Some i) raw u k = instr-names q i raw u k

  of-names : (i : Option Instr) (raw : Item) (f : Instr → Item) → ItemNames K raw → ((i : Instr) → ItemNames K (f i)) → ItemNames K (of_instr i raw f)
  of-names None raw f u names = u
  of-names (Some i) raw f u names = names i

  to-names : (t : Target) (f : Place → Item) (other : Item) → ((p : Place) → K p → ItemNames K (f p)) → ItemNames K other → IsNeededTarget needed t → ItemNames K (to_place t f other)
  to-names (target.Code q) f other names rest it = names q it
  to-names (target.Number n) f other names rest it = rest
  to-names (target.Absent n) f other names rest it = rest
  to-names target.Nowhere f other names rest it = rest

  transfer-names : (i : Instr) (raw : Item) (p : Place) → ItemNames K raw → K p → ItemNames K (transfer_item i raw p)
  transfer-names (instr.Branch op a b d) raw p u k = k
  transfer-names (instr.Jal rd d) raw p u k = k
  transfer-names i raw p u k = u

  call-names : (first second : Option Instr) (w v : ℕ) (p : Place) → K p → ItemNames K (call_item first second (item.RawPair w v) p)
  call-names (Some (instr.Upper op temp upper)) (Some (instr.Jalr rd base lower)) w v p k = k
  call-names first second w v p k = tt

  under-names : (size : ℕ) (t : Target) (bytes : List ℕ) (n : ℕ) → IsNeededTarget needed t → ItemNames K (transfer_under size t bytes n)
  under-names size t bytes n it =
      let raw = raw_in size bytes n in
      let u = raw-names size bytes n in
      of-names (instr_in size bytes n) raw (λ i. to_place t (transfer_item i raw) raw) u (λ i. to-names t (transfer_item i raw) raw (λ p k. transfer-names i raw p u k) u it)

  low-names : (t : Target) (bytes : List ℕ) (n : ℕ) → IsNeededTarget needed t → ItemNames K (of_instr (instr_in 4 bytes n) (raw_in 4 bytes n) (λ i. to_place t (item.PcLo i) (raw_in 4 bytes n)))
  low-names t bytes n it = of-names (instr_in 4 bytes n) (raw_in 4 bytes n) (λ i. to_place t (item.PcLo i) (raw_in 4 bytes n)) tt (λ i. to-names t (item.PcLo i) (raw_in 4 bytes n) (λ p h. h) tt it)

  with-names : (f : Instr → Target → Item) (t : Target) (bytes : List ℕ) (n : ℕ) → ((i : Instr) → ItemNames K (f i t)) → ItemNames K (of_instr (instr_in 4 bytes n) (raw_in 4 bytes n) (λ i. f i t))
  with-names f t bytes n names = of-names (instr_in 4 bytes n) (raw_in 4 bytes n) (λ i. f i t) tt names

  known-names : (k : Option RelocKind) (addend : ℤ) (t : Target) (bytes : List ℕ) (n : ℕ) → IsNeededTarget needed t → ItemNames K (known_item k addend t bytes n)
  known-names None addend t bytes n it = tt
  known-names (Some kind.Ignored) addend t bytes n it = tt
  known-names (Some kind.Word) addend t bytes n it = target-names t it
  known-names (Some kind.Branch) addend t bytes n it = under-names 4 t bytes n it
  known-names (Some kind.Jal) addend t bytes n it = under-names 4 t bytes n it
  known-names (Some kind.Call) addend t bytes n it = to-names t (call_item (instr_in 4 bytes n) (instr_in 4 bytes (n + 4)) (raw_pair bytes n)) (raw_pair bytes n) (λ p h. call-names (instr_in 4 bytes n) (instr_in 4 bytes (n + 4)) (word_in bytes n) (word_in bytes (n + 4)) p h) tt it
  known-names (Some kind.PcrelHi20) addend t bytes n it = with-names item.PcHi t bytes n (λ i. target-names t it)
  known-names (Some kind.PcrelLo12I) addend t bytes n it = low-names t bytes n it
  known-names (Some kind.PcrelLo12S) addend t bytes n it = low-names t bytes n it
  known-names (Some kind.Hi20) addend t bytes n it = with-names item.Hi t bytes n (λ i. target-names t it)
  known-names (Some kind.Lo12I) addend t bytes n it = with-names item.Lo t bytes n (λ i. target-names t it)
  known-names (Some kind.Lo12S) addend t bytes n it = with-names item.Lo t bytes n (λ i. target-names t it)
  known-names (Some kind.RvcBranch) addend t bytes n it = under-names 2 t bytes n it
  known-names (Some kind.RvcJump) addend t bytes n it = under-names 2 t bytes n it
  known-names (Some kind.Align) addend t bytes n it = tt

  item-in-names : (q : Place) (s : SectionParts) → K q → section_at inputs.objects q.object q.section ≡ Some s → ItemNames K (item_in inputs s q)
  item-in-names q s k at = by (reloc_on s q.offset) refl
    where
      by : (r : Option Reloc) → reloc_on s q.offset ≡ r → ItemNames K (item_under inputs q r (size_on s q.offset) s.bytes)
      by None is = spelled-names q (instr_in (size_on s q.offset) s.bytes q.offset) (raw_in (size_on s q.offset) s.bytes q.offset) (raw-names (size_on s q.offset) s.bytes q.offset) k
      by (Some r) is = known-names (kind_of r.kind) r.addend (target_of inputs q.object r) s.bytes q.offset (reloc-needed needed number inputs result clean closed q s r k at is)

  item-names : (q : Place) (i : Item) → K q → item_at inputs q ≡ Some i → ItemNames K i
  unfolding item_at
  item-names q i k is =
      let there = closed.there q.object q.section k in
      code there.section there.at (is_code_section there.section) (sym (ap (λ x. option_and_then (item_from inputs q) (option_and_then code_only x)) there.at) ∙ is)
    where
      started : (s : SectionParts) → section_at inputs.objects q.object q.section ≡ Some s → (b : Bool) → cond b (Some (item_in inputs s q)) None ≡ Some i → ItemNames K i
      started s at true h = let same : item_in inputs s q ≡ i = cc in subst (ItemNames K) same (item-in-names q s k at)
      started s at false h = absurd cc

      code : (s : SectionParts) → section_at inputs.objects q.object q.section ≡ Some s → (b : Bool) → option_and_then (item_from inputs q) (cond b (Some s) None) ≡ Some i → ItemNames K i
      code s at false h = absurd cc
      code s at true h = started s at (starts_on s q.offset) h

  -- ---- what data name

  data-named : All (IsNamedByte K) (data_bytes inputs)
  data-named =
      bytes-named K inputs
      (λ l there kept plain. All-weaker (λ r. asks r ≡ true → IsNeededTarget needed (target_of inputs l.object r)) (λ r. is_word (kind_of r.kind) ≡ true → IsNamedTarget K (target_of inputs l.object r))
      (λ r leads is. target-names (target_of inputs l.object r) (leads (word-asks r is))) l.section.relocs
      (closed.leads l.object l.index l.section there (closed.data_needed l.object l.index l.section there kept plain)))

  -- ---- the start

  entry-needed : K (entry_of inputs)
  entry-needed = by (name_target inputs start_name) closed.starts closed.entry_is
    where
      started : (q : Place) → K q → (b : Bool) → cond b (Some q) None ≡ Some closed.entry → K (unwrap_or (cond b (Some q) None) (record { object = 0; section = 0; offset = 0 }))
      started q k true h = k
      started q k false h = absurd cc

      by : (t : Target) → IsNeededTarget needed t → start_only inputs.objects t ≡ Some closed.entry → K (unwrap_or (start_only inputs.objects t) (record { object = 0; section = 0; offset = 0 }))
      by (target.Code q) it h = started q it (is_start_at inputs.objects q) h
      by (target.Number n) it h = absurd cc
      by (target.Absent n) it h = absurd cc
      by target.Nowhere it h = absurd cc

  -- ---- places stay apart

  apart : (q r : Place) → K q → K r → M q ≡ M r → q ≡ r
  apart q r kq kr e =
      let object : q.object ≡ r.object = ap (λ (x : Place). x.object) e in
      let offset : q.offset ≡ r.offset = ap (λ (x : Place). x.offset) e in
      let numbers : number q.object q.section ≡ number q.object r.section = ap (λ (x : Place). x.section) e ∙ ap (λ o. number o r.section) (sym object) in
      let there : needed q.object r.section ≡ true = ap (λ o. needed o r.section) object ∙ kr in
      let a = closed.there q.object q.section kq in
      let b = closed.there q.object r.section there in
      let section = in-object q.object q.section r.section a b (slice_get inputs.objects q.object) refl numbers in
      λ i. record { object = object i; section = section i; offset = offset i }
    where
      in-object : (o x y : ℕ) → IsKeptThere inputs o x → IsKeptThere inputs o y → (found : Option ObjectParts) → slice_get inputs.objects o ≡ found → number o x ≡ number o y → x ≡ y
      in-object o x y a b None is same = absurd (let none = ap (option_and_then (λ (object : ObjectParts). slice_get object.sections x)) is in let at = a.at in cc)
      in-object o x y a b (Some g) is same =
          let r = result-of (cleaning needed number) inputs.objects result.objects clean.objects o g is in
          let at-x = sym (ap (option_and_then (λ (object : ObjectParts). slice_get object.sections x)) is) ∙ a.at in
          let at-y = sym (ap (option_and_then (λ (object : ObjectParts). slice_get object.sections y)) is) ∙ b.at in
          own-number g.sections x y a.section b.section at-x a.kept at-y b.kept (sym (r.clean.numbers x) ∙ same ∙ r.clean.numbers y)

  -- ---- the programs

  leads-from : (q : Place) (i : Item) → K q → ItemNames K i → ItemLeads K K (program_of inputs) q i
  unfolding program_of
  leads-from q (item.Op (instr.Jalr rd base imm)) k names = inr k
  leads-from q (item.Op i) k names = tt
  leads-from q (item.Hi i t) k names = names
  leads-from q (item.Lo i t) k names = (names, op i)
    where
      op : (i : Instr) → OpLeads K i ((program_of inputs).next q)
      op (instr.Jalr rd base imm) = inr k
      op i = tt
  leads-from q (item.PcHi i t) k names = k
  leads-from q (item.PcLo i r) k names = (names, way (item_at inputs r) refl, op i)
    where
      op : (i : Instr) → OpLeads K i ((program_of inputs).next q)
      op (instr.Jalr rd base imm) = inr k
      op i = tt

      of : (j : Item) → ItemNames K j → IsNamedOption K (pc_target (Some j))
      of (item.PcHi i t) named = named
      of j named = tt

      way : (o : Option Item) → item_at inputs r ≡ o → IsNamedOption K (pc_target o)
      way None e = tt
      way (Some j) e = of j (item-names r j names e)
  leads-from q (item.Branch op first second to) k names = names
  leads-from q (item.Jump rd to) k names = (names, inr k)
  leads-from q (item.Call rd temp to) k names = (names, inr k)
  leads-from q (item.Align n) k names = tt
  leads-from q (item.Word t) k names = tt
  leads-from q (item.Raw w) k names = tt
  leads-from q (item.RawShort h) k names = tt
  leads-from q (item.RawPair v w) k names = tt

  pc-moves : (i : Item) → ItemNames K i → PcMoves M (program_of inputs) (program_of result) i
  unfolding program_of
  pc-moves (item.PcLo i r) k = ap pc_target (item-clean needed number inputs result clean closed r k) ∙ pc-target-moved M (item_at inputs r)
  pc-moves i k = tt

  solid-moved : (o : Option Item) → is_solid (option_map (moved_item M) o) ≡ is_solid o
  solid-moved None = refl
  solid-moved (Some (item.Align n)) = refl
  solid-moved (Some i) = refl

  keeps : (q : Place) (i : Item) → K q → item_at inputs q ≡ Some i → KeepsItem K K M (program_of inputs) (program_of result) q i
  unfolding program_of
  keeps q i k is = record {
    there = item-clean needed number inputs result clean closed q k ∙ ap (option_map (moved_item M)) is;
    onward = inl (next-clean needed number inputs result clean closed q k);
    leads = leads-from q i k (item-names q i k is);
    pc = pc-moves i (item-names q i k is);
  }

  pub programs-move : MovesExactly (λ (q : Place). needed q.object q.section ≡ true) (λ (q : Place). needed q.object q.section ≡ true) (moved_by number) (program_of inputs) (program_of result)
  unfolding program_of
  programs-move = record {
    moves = record {
      entry = entry-clean needed number inputs result clean closed;
      bytes = bytes-clean needed number inputs result clean closed;
      map = clean.map;
      visited = entry-needed;
      visits = λ q k. k;
      named = data-named;
      apart = apart;
      follows = λ q i k is. k;
      solid = λ q k. ap is_solid (item-clean needed number inputs result clean closed q k) ∙ solid-moved (item_at inputs q);
    };
    keeps = λ q i k is. keeps q i k is;
    nowhere = λ q k is. item-clean needed number inputs result clean closed q k ∙ ap (option_map (moved_item M)) is;
  }

  -- the runs
  pub clean-runs : SameRuns (moved_by number) (program_of inputs) (program_of result)
  clean-runs = same-runs (λ (q : Place). needed q.object q.section ≡ true) (λ (q : Place). needed q.object q.section ≡ true) (moved_by number) (program_of inputs) (program_of result) programs-move
