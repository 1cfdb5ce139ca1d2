-- Each word lies among the bytes, and is put over them.
use Rattle.std.proofs.Common.{◌≡◌, ℕ, ◌+◌, ◌-◌, ◌<◌, ◌≤◌, ◌++◌, List, Option, None, length, take, drop, get_or, sym, ap, ◌∙◌, arith}
use Rattle.std.specs.List.{fold}
use Rattle.std.specs.Option.{unwrap_or}
use Rattle.std.proofs.lemmas.Grind.{common_steps}
use Rattle.std.proofs.lemmas.List.{take_all}
use Rattle.zc_base.specs.Fields.{with_word}
use Rattle.zc_base.specs.declared.mem_map.MemMap.{MemMap}
use Rattle.zc_base.specs.declared.place.Place.{Place}
use Rattle.psabi_sym.specs.Contents.{data_contents}
use Rattle.psabi_sym.specs.Inputs.{Inputs, ParsedInputs, parsed}
use Rattle.psabi_sym.specs.declared.target.Target.TheVariants.{Code}
use Rattle.psabi_sym.proofs.ContentLaws.{length-data_contents}
use Rattle.block_cut.specs.DataWords.{data_words}
use Rattle.block_cut.specs.Faults.{first_fault}
use Rattle.block_cut.specs.declared.data_word.DataWord.{DataWord}
use Rattle.zc_link.specs.ImageParts.{data_value, image_data, with_data_word}
use Rattle.zc_link.proofs.ImageData.{length-filled, value_there, word_put, word_there}
use Rattle.zc_link.proofs.image.data_bytes.Given as given
use Rattle.zc_link.proofs.image.data_bytes.Goals as goal
use Rattle.zc_link.proofs.image.data_bytes.Goals.{After-data_words-word-items}

-- what the check has where the list ends
abbrev none_here : DataWord
none_here = record { at = 0; target = Code (record { object = 0; section = 0; offset = 0 }) }

-- the layout's inputs
abbrev of : (g : given.Over) → After-data_words-word-items g → Inputs
of g c = (g.L.Layout.layout c.args.layout.now).inputs

-- the words are theirs, and data begin where their map has them
words_are : (g : given.Over) (c : After-data_words-word-items g) → c.data_words-word-items.result.now ≡ data_words (parsed (of g c))
words_are g c = c.data_words-word-items.ensures ∙ ap (λ (x : Inputs). data_words (parsed x)) c.cut-2.ensures.same

starts : (g : given.Over) (c : After-data_words-word-items g) → c.map-start.result.data_low ≡ (of g c).map.data_low
starts g c = ap (λ (m : MemMap). m.data_low) (c.map-start.ensures.value ∙ ap (λ (x : Inputs). x.map) (c.objects-objects.ensures.same ∙ c.cut.ensures.same))

-- the word at hand lies above their start, and ends among the bytes
above : (inputs : Inputs) → first_fault inputs ≡ None → (ws : List DataWord) → ws ≡ data_words (parsed inputs) → (k : ℕ) → k < length ws → (start : ℕ) → start ≡ inputs.map.data_low
    → start ≤ (get_or ws k none_here).at
above inputs none ws are k lt start low = let within = word_there inputs none ws k none_here are lt in omega (arith, low, within.0)

module _ (inputs : Inputs) (none : first_fault inputs ≡ None) (A : Place → Option ℕ) (ws : List DataWord) (are : ws ≡ data_words (parsed inputs)) (k : ℕ) (lt : k < length ws) (start : ℕ) (low : start ≡ inputs.map.data_low)
    (bytes held : List ℕ) (same : bytes ≡ held) (so_far : held ≡ fold (with_data_word (parsed inputs) A) (data_contents (parsed inputs)) (take k (data_words (parsed inputs)))) where
  abbrev p : ParsedInputs
  p = parsed inputs

  room : (get_or ws k none_here).at - start + 4 ≤ length bytes
  room =
      let within = word_there inputs none ws k none_here are lt in
      let long = ap length (same ∙ so_far) ∙ length-filled p A (take k (data_words p)) (data_contents p) ∙ length-data_contents p in
      omega (arith, low, within.0, within.1, long)

  -- with one word more put over the bytes
  put_more : (v : ℕ) (more whole : List ℕ) → whole ≡ more → v ≡ data_value A (get_or ws k none_here) → more ≡ with_word bytes ((get_or ws k none_here).at - start) v
      → whole ≡ fold (with_data_word p A) (data_contents p) (take (k + 1) (data_words p))
  put_more v more whole back is put =
      back
      ∙ word_put p A ws k none_here start v bytes more (data_contents p) lt low is room put (same ∙ so_far ∙ ap (λ l. fold (with_data_word p A) (data_contents p) (take k l)) (sym are))
      ∙ ap (λ l. fold (with_data_word p A) (data_contents p) (take (k + 1) l)) are

-- after all words the bytes are those of the image
whole : (inputs : Inputs) (A : Place → Option ℕ) (ws : List DataWord) → ws ≡ data_words (parsed inputs) → (k : ℕ) → length ws ≤ k → (bytes : List ℕ)
    → bytes ≡ fold (with_data_word (parsed inputs) A) (data_contents (parsed inputs)) (take k (data_words (parsed inputs))) → bytes ≡ image_data (parsed inputs) A
unfolding image_data
whole inputs A ws are k past bytes so_far =
    so_far ∙ ap (λ l. fold (with_data_word (parsed inputs) A) (data_contents (parsed inputs)) l) (take_all k (data_words (parsed inputs)) (omega (arith, past, ap length are)))

pub overflow_sub-at : goal.overflow_sub-at
overflow_sub-at g c =
    let a = (goal.at.overflow_sub-at g c).After-data_words-word-items in
    above (of g a) a.cut.ensures.ready.faultless c.data_words-word-items.result.now (words_are g a) c.loop-word.word-index c.loop-word-test.true c.map-start.result.data_low (starts g a)

pub target_value-requires : goal.target_value-requires
target_value-requires g c =
    let a = (goal.at.target_value-requires g c).After-data_words-word-items in
    value_there (of g a) a.cut.ensures.ready.faultless (g.L.Layout.layout c.args.layout.now).address a.cut.ensures.laid.leaders c.data_words-word-items.result.now c.loop-word.word-index none_here (words_are g a) c.loop-word-test.true

pub put_u32-requires : goal.put_u32-requires
put_u32-requires g c =
    let a = (goal.at.put_u32-requires g c).After-data_words-word-items in
    room (of g a) a.cut.ensures.ready.faultless (g.L.Layout.layout c.args.layout.now).address c.data_words-word-items.result.now (words_are g a) c.loop-word.word-index c.loop-word-test.true c.map-start.result.data_low (starts g a)
    c.as_mut_slice.result.now c.loop-word.bytes.items c.as_mut_slice.ensures.value c.loop-word.invariant

pub loop-word-preserved : goal.loop-word-preserved
loop-word-preserved g c =
    let a = (goal.at.loop-word-preserved g c).After-data_words-word-items in
    let back : take c.loop-word.bytes.len (c.put_u32.new.bytes ++ drop (length c.put_u32.new.bytes) c.loop-word.bytes.items) ≡ c.put_u32.new.bytes = grind (arith, common_steps) in
    put_more (of g a) a.cut.ensures.ready.faultless (g.L.Layout.layout c.args.layout.now).address c.data_words-word-items.result.now (words_are g a) c.loop-word.word-index c.loop-word-test.true c.map-start.result.data_low (starts g a)
    c.as_mut_slice.result.now c.loop-word.bytes.items c.as_mut_slice.ensures.value c.loop-word.invariant c.target_value.result c.put_u32.new.bytes _ back (sym (ap (λ o. unwrap_or o 0) c.target_value.ensures)) c.put_u32.ensures

pub returns : goal.returns
returns g c =
    let a = (goal.at.returns g c).After-data_words-word-items in
    whole (of g a) (g.L.Layout.layout c.args.layout.now).address c.data_words-word-items.result.now (words_are g a) c.loop-word.word-index (omega (arith, c.loop-word-test.false)) c.loop-word.bytes.items c.loop-word.invariant
