use Rattle.std.proofs.Common.{◌%◌, List, Bor, subst, ◌≡◌, ◌≤◌, ◌+◌, ◌-◌, ℕ, length, get_or, take, drop, ap, arith}
use Rattle.std.proofs.lemmas.List.{length-map, length-take}
use Rattle.elf32_read.specs.Names.{name_at}
use Rattle.psabi_sym.specs.Invariants.Keys.{IsAdded, lent, tails_of}
use Rattle.psabi_sym.proofs.NumberLaws.{length-with_name}
use Rattle.psabi_sym.proofs.TailLaws.{block_added, block_end, block_extends, block_key, end_more, name_slice, name_step}
use Rattle.psabi_sym.proofs.name_ends.end_before.Goals as goal

pub returns-then-length-ne0-clause-end : goal.returns-then-length-ne0-clause-end
returns-then-length-ne0-clause-end c =
    let table = c.args.table.now in
    end_more (tails_of c.args.tails.now.texts.items) (get_or table c.args.at 0) (name_at table c.args.at) (name_at table (c.args.at + 1))
    (name_step table c.args.at c.requires.inside.0 c.if-table-at-eq0.false) c.args.next c.requires.next c.if-length-ne0.true

pub slice_bounds-new-end : goal.slice_bounds-new-end
slice_bounds-new-end c =
    let table = c.args.table.now in
    let n = c.args.next.length + 1 in
    let part = take (c.args.at + n - c.args.at) (drop c.args.at table) in
    let longer : n ≡ length (name_at table c.args.at) = omega (arith, ap length (name_step table c.args.at c.requires.inside.0 c.if-table-at-eq0.false), c.requires.next.length_is) in
    omega (arith, c.if-length-ne0.false, longer, ap length (name_slice table c.args.at n longer), length-take 64 part)

-- the name has a number
named : (c : goal.In_ok-number) → IsAdded 1 (tails_of c.args.tails.now.texts.items) (lent c.args.tails.now.texts.items) (lent c.number.new.self.texts.items) c.number.new.self.numbers (name_at c.args.table.now c.args.at) c.in_ok-number.number
named c =
    let table = c.args.table.now in
    let at = c.args.at in
    let name = name_at table at in
    let old = c.args.tails.now in
    let tails = tails_of old.texts.items in
    let step = name_step table at c.requires.inside.0 c.if-table-at-eq0.false in
    let slice = name_slice table at (c.args.next.length + 1) (omega (arith, ap length step, c.requires.next.length_is)) in
    subst (λ t. IsAdded 1 tails (lent old.texts.items) (lent c.number.new.self.texts.items) c.number.new.self.numbers t c.in_ok-number.number) slice
    (c.in_ok-number.ensures 1 tails c.requires.tails.tails
    (block_key tails (get_or table at 0) name (name_at table (at + 1)) step c.args.next c.requires.next c.if-length-ne0.false c.new-key.result _ slice c.new-key.ensures.hash c.new-key.ensures.part c.new-key.ensures.rest)
    c.requires.tails.numbered)

-- it has whole blocks
whole : (c : goal.In_ok-number) → length (name_at c.args.table.now c.args.at) % 64 ≡ 0
whole c = omega (arith, ap length (name_step c.args.table.now c.args.at c.requires.inside.0 c.if-table-at-eq0.false), c.requires.next.length_is, c.if-length-ne0.false)

-- there is one tail more at most
more : (c : goal.In_ok-number) → length c.number.new.self.texts.items ≤ length c.args.tails.now.texts.items + 1
more c =
    let old = lent c.args.tails.now.texts.items in
    omega (arith, ap length (named c).texts_are, (length-with_name old (name_at c.args.table.now c.args.at)).1, length-map c.number.new.self.texts.items (λ (x : Bor (List ℕ)). x.now), length-map c.args.tails.now.texts.items (λ (x : Bor (List ℕ)). x.now))

pub overflow_add-result : goal.overflow_add-result
overflow_add-result c = omega (arith, (named c).within, length-map c.number.new.self.texts.items (λ (x : Bor (List ℕ)). x.now), more c, c.requires.room)

pub returns-clause-grown : goal.returns-clause-grown
returns-clause-grown c =
    let old = c.args.tails.now in
    let step = name_step c.args.table.now c.args.at c.requires.inside.0 c.if-table-at-eq0.false in
    record {
      are = block_added old.numbers c.number.new.self.numbers old.texts.items c.number.new.self.texts.items c.requires.tails _ _ _ step (whole c) c.in_ok-number.number (named c);
      more = block_extends old.numbers c.number.new.self.numbers old.texts.items c.number.new.self.texts.items c.requires.tails _ _ _ step (whole c) c.in_ok-number.number (named c);
      room = more c;
    }

pub returns-clause-end : goal.returns-clause-end
returns-clause-end c =
    let old = c.args.tails.now in
    let step = name_step c.args.table.now c.args.at c.requires.inside.0 c.if-table-at-eq0.false in
    block_end old.numbers c.number.new.self.numbers old.texts.items c.number.new.self.texts.items c.requires.tails _ _ _
    step (whole c) c.in_ok-number.number (named c) (c.args.next.length + 1) (omega (arith, ap length step, c.requires.next.length_is))
