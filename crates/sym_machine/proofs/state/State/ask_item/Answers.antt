-- A load or store is asked by its word, and a word that no table has as an instruction of the system; no device answers anything else.
use Rattle.std.proofs.Common.{rules, ◌≡◌, ◌≢◌, ℕ, [], Some, None, Option, List, ap, sym, ◌∙◌, refl, ⊎_elim, subst}
use Rattle.std.specs.Option.{option_map}
use Rattle.psabi_sym.specs.Inputs.{parsed}
use Rattle.psabi_sym.specs.declared.target.Target.{Target}
use Rattle.zc_base.specs.declared.place.Place.{Place}
use Rattle.rv_decode.specs.Devices.{Device}
use Rattle.rv_decode.specs.declared.instr.Instr.{Instr}
use Rattle.rv_decode.specs.declared.instr.Instr.TheVariants as instr
use Rattle.block_cut.specs.declared.item.Item.{Item}
use Rattle.block_cut.specs.declared.item.Item.TheVariants.{Op, Lo, PcLo, Raw}
use Rattle.sym_machine.specs.declared.answer.SymStep.{SymStep}
use Rattle.sym_machine.specs.declared.word.SymWord.{SymWord}
use Rattle.sym_machine.specs.AddressParts.{low_sum, pc_low_sum, pc_target}
use Rattle.sym_machine.specs.Answer.{DevicesAnswer}
use Rattle.sym_machine.specs.declared.why.Why.TheVariants.{NoInstruction}
use Rattle.sym_machine.specs.Change.{Goes, Stops, base_register, by_sum, item_does}
use Rattle.sym_machine.specs.Devices.{device_by_sum, device_does}
use Rattle.sym_machine.specs.Expansions.{item_expansion}
use Rattle.sym_machine.specs.Invariants.Asked.{device_system, where_stuck}
use Rattle.sym_machine.specs.Kept.{Working, word_of}
use Rattle.sym_machine.specs.Objects.{program_of}
use Rattle.sym_machine.specs.Program.{Program}
use Rattle.sym_machine.specs.State.{PlainCore, reg_of}
use Rattle.sym_machine.specs.Step.{applied, item_step}
use Rattle.sym_machine.specs.Words.{sum_word}
use Rattle.sym_machine.proofs.DeviceLaws.{item_alone, item_asked, sum_none}
use Rattle.sym_machine.proofs.state.State.ask_item.Goals as goal

module _ (devices : List Device) (p : Program) (w : Working) (s' : PlainCore) (next : Place) (r : Option SymStep) where
  -- what devices answer to an item
  abbrev Item_told : Item → Type 0
  Item_told item = DevicesAnswer (item_step devices w.map p (Some item) w.core next) (item_step [] w.map p (Some item) w.core next) r w.core s'

  -- and to a load or store by a word
  abbrev Told : Instr → SymWord → Type 0
  Told i word =
      DevicesAnswer (applied w.map w.core (where_stuck (option_map Goes (device_by_sum devices i word w.core next)) (by_sum i word w.core next)))
      (applied w.map w.core (by_sum i word w.core next)) r w.core s'

  -- a load or store that is an item
  told_item : (o : Option Item) (i : Instr) (word : SymWord) → item_expansion o ≡ None → item_does p o w.core next ≡ by_sum i word w.core next
      → ((ds : List Device) → device_does ds p o w.core next ≡ option_map Goes (device_by_sum ds i word w.core next)) → Told i word
      → DevicesAnswer (item_step devices w.map p o w.core next) (item_step [] w.map p o w.core next) r w.core s'
  told_item o i word single does same told =
      item_asked devices w.map p o w.core s' next (λ ds. option_map Goes (device_by_sum ds i word w.core next)) (by_sum i word w.core next) r single does same
      (sum_none i word w.core next) told

  op_told : (i j : Instr) (word sum : SymWord) → i ≡ j → word ≡ sum → Told i word → Told j sum
  op_told i j word sum is same told = subst (λ (v : SymWord). Told j v) same (subst (λ (k : Instr). Told k word) is told)

-- nothing else is a load or store, or a word that no table has
other_item :
    (p : Program) (item : Item) (s : PlainCore) (next : Place) → ((i : Instr) → item ≢ Op i) → ((i : Instr) (t : Target) → item ≢ Lo i t) → ((i : Instr) (q : Place) → item ≢ PcLo i q)
    → ((word : ℕ) → item ≢ Raw word) → (devices : List Device) → device_does devices p (Some item) s next ≡ None
other_item p (Op i) s next op lo pc raw devices = absurd (op i refl)
other_item p (Lo i t) s next op lo pc raw devices = absurd (lo i t refl)
other_item p (PcLo i q) s next op lo pc raw devices = absurd (pc i q refl)
other_item p (Raw word) s next op lo pc raw devices = absurd (raw word refl)
other_item p item s next op lo pc raw devices = refl

pub returns-in-Load-clause-answered : goal.returns-in-Load-clause-answered
returns-in-Load-clause-answered c =
    let p : Program = program_of (parsed c.args.cut.now) in
    let w : Working = c.args.self.now in
    let s = w.core in
    let s' = c.ask_access.new.self.core in
    let r = c.ask_access.result in
    let devices = c.args.devices.now.all in
    let next = c.args.next in
    let base = c.in-Load.base in
    let imm = c.in-Load.imm in
    let word : word_of c.sum-word.result ≡ sum_word (reg_of s base) imm = search rules in
    ⊎_elim
    (λ load.
    let i = instr.Load load.0 load.1 base imm in
    subst (Item_told devices p w s' next r) (sym (c.in-Op.is ∙ ap Op load.2))
    (told_item devices p w s' next r (Some (Op i)) i (sum_word (reg_of s base) imm) refl refl (λ ds. refl)
    (op_told devices p w s' next r c.in-Op.instr i (word_of c.sum-word.result) (sum_word (reg_of s base) imm) load.2 word c.ask_access.ensures.answered)))
    (λ store.
    let i = instr.Store store.0 store.1 base imm in
    subst (Item_told devices p w s' next r) (sym (c.in-Op.is ∙ ap Op store.2))
    (told_item devices p w s' next r (Some (Op i)) i (sum_word (reg_of s base) imm) refl refl (λ ds. refl)
    (op_told devices p w s' next r c.in-Op.instr i (word_of c.sum-word.result) (sum_word (reg_of s base) imm) store.2 word c.ask_access.ensures.answered)))
    c.in-Load.is

pub returns-in-Lo-clause-answered : goal.returns-in-Lo-clause-answered
returns-in-Lo-clause-answered c =
    let p : Program = program_of (parsed c.args.cut.now) in
    let w : Working = c.args.self.now in
    let s = w.core in
    let s' = c.ask_access-in-Lo.new.self.core in
    let r = c.ask_access-in-Lo.result in
    let devices = c.args.devices.now.all in
    let next = c.args.next in
    let i = c.in-Lo.instr in
    let t = c.in-Lo.target in
    let sum = low_sum t (reg_of s (base_register i)) in
    let word = c.low_sum-word.ensures ∙ ap (low_sum t) c.base.ensures in
    subst (Item_told devices p w s' next r) (sym c.in-Lo.is)
    (told_item devices p w s' next r (Some (Lo i t)) i sum refl refl (λ ds. refl)
    (op_told devices p w s' next r i i (word_of c.low_sum-word.result) sum refl word c.ask_access-in-Lo.ensures.answered))

pub returns-in-PcLo-clause-answered : goal.returns-in-PcLo-clause-answered
returns-in-PcLo-clause-answered c =
    let p : Program = program_of (parsed c.args.cut.now) in
    let w : Working = c.args.self.now in
    let s = w.core in
    let s' = c.ask_access-in-PcLo.new.self.core in
    let r = c.ask_access-in-PcLo.result in
    let devices = c.args.devices.now.all in
    let next = c.args.next in
    let i = c.in-PcLo.instr in
    let q = c.in-PcLo.q in
    let sum = pc_low_sum q (pc_target (p.item q)) (reg_of s (base_register i)) in
    let word = c.pc_low_sum-word.ensures ∙ ap (pc_low_sum q (pc_target (p.item q))) c.base-in-PcLo.ensures in
    subst (Item_told devices p w s' next r) (sym c.in-PcLo.is)
    (told_item devices p w s' next r (Some (PcLo i q)) i sum refl refl (λ ds. refl)
    (op_told devices p w s' next r i i (word_of c.pc_low_sum-word.result) sum refl word c.ask_access-in-PcLo.ensures.answered))

pub returns-in-Raw-clause-answered : goal.returns-in-Raw-clause-answered
returns-in-Raw-clause-answered c =
    let p : Program = program_of (parsed c.args.cut.now) in
    let w : Working = c.args.self.now in
    let s' = c.ask_system.new.self.core in
    let r = c.ask_system.result in
    let devices = c.args.devices.now.all in
    let word = c.in-Raw.word in
    subst (Item_told devices p w s' c.args.next r) (sym c.in-Raw.is)
    (item_asked devices w.map p (Some (Raw word)) w.core s' c.args.next (λ ds. device_system ds word w.core c.args.next) (Stops NoInstruction) r refl refl (λ ds. refl) refl c.ask_system.ensures)

pub returns-in_default-clause-answered : goal.returns-in_default-clause-answered
returns-in_default-clause-answered c =
    let p : Program = program_of (parsed c.args.cut.now) in
    let w : Working = c.args.self.now in (
      refl,
      item_alone c.args.devices.now.all w.map p (Some c.args.item.now) w.core c.args.next
          (other_item p c.args.item.now w.core c.args.next (λ i. c.in_default.not-Op i) (λ i t. c.in_default.not-Lo i t) (λ i q. c.in_default.not-PcLo i q) (λ word. c.in_default.not-Raw word)),
    )
