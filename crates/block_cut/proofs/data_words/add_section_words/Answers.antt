use Rattle.std.proofs.Common.{◌≡◌, ◌+◌, ◌≤◌, true, ◌++◌, filter, map, sym, ap, subst, ◌∙◌, arith}
use Rattle.std.specs.Prelude.{All}
use Rattle.std.proofs.lemmas.List.{append-nil}
use Rattle.psabi_sym.specs.Data.{data_end}
use Rattle.psabi_sym.specs.Inputs.{parsed}
use Rattle.psabi_sym.proofs.PlaceLaws.{code_is}
use Rattle.psabi_sym.specs.Data.{is_code_role}
use Rattle.block_cut.specs.DataWords.{resolved_word}
use Rattle.block_cut.specs.Relocs.{is_word}
use Rattle.block_cut.proofs.DataLaws.{held_is, words_held, words_low, words_unheld}
use Rattle.block_cut.proofs.data_words.add_section_words.Goals as goal

pub add_words-requires : goal.add_words-requires
add_words-requires c =
    let inputs = parsed c.args.objects.now in
    let l = c.args.section.now in
    let at = c.in-Some.at in
    let held = held_is inputs l c.requires.section at (sym c.held_address.ensures ∙ c.in-Some.is) in
    let low = words_low inputs l c.requires.section c.requires.faultless at held in
    let all : All (λ d. is_word d.kind ≡ true → at + d.offset ≤ data_end inputs) c.args.relocs.now =
    subst (All (λ d. is_word d.kind ≡ true → at + d.offset ≤ data_end inputs)) (sym (c.requires.relocs (sym (code_is l.section) ∙ ap is_code_role held.role))) low in
    let map = c.recall_invariant.ensures.is_map in
    λ k d lt word. omega (arith, all k d lt word, c.recall_invariant.ensures.data, map.room)

pub returns-in-None : goal.returns-in-None
returns-in-None c =
    let none = words_unheld (parsed c.args.objects.now) c.args.section.now (sym c.held_address.ensures ∙ c.in-None.is) in
    sym (ap (λ ws. c.args.words.now.items ++ ws) none ∙ append-nil c.args.words.now.items)

pub returns-in_ok-add_words-in-Some : goal.returns-in_ok-add_words-in-Some
returns-in_ok-add_words-in-Some c =
    let inputs = parsed c.args.objects.now in
    let l = c.args.section.now in
    let held = held_is inputs l c.requires.section c.in-Some.at (sym c.held_address.ensures ∙ c.in-Some.is) in
    c.in_ok-add_words-in-Some.ensures
    ∙ ap (λ ds. c.args.words.now.items ++ map (resolved_word c.in-Some.at) (filter (λ d. is_word d.kind) ds)) (c.requires.relocs (sym (code_is l.section) ∙ ap is_code_role held.role))
    ∙ ap (λ ws. c.args.words.now.items ++ ws) (sym (words_held inputs l c.in-Some.at held))
