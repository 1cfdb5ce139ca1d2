use Rattle.std.proofs.Common.{◌≡◌, ◌-◌, ◌++◌, rules, take, drop, length, replicate, ap, ap₂, sym, ◌∙◌, arith, ℕ, List}
use Rattle.std.specs.List.{fold}
use Rattle.std.proofs.lemmas.Grind.{common_steps}
use Rattle.std.proofs.lemmas.List.{take_all}
use Rattle.std.proofs.lemmas.List.Sums.{fold_more}
use Rattle.std.proofs.lemmas.Option.{get_or_from_slice_get, slice_get_within}
use Rattle.psabi_sym.specs.Contents.{data_contents, with_content}
use Rattle.psabi_sym.specs.Data.{data_file_end}
use Rattle.psabi_sym.specs.Inputs.{parsed}
use Rattle.psabi_sym.specs.Indexed.{all_sections}
use Rattle.psabi_sym.proofs.ContentLaws.{data_low-le}
use Rattle.psabi_sym.proofs.SectionNumbers.{listed_at}
use Rattle.psabi_sym.proofs.objects.Objects.data_contents.Goals as goal

pub overflow_sub-size : goal.overflow_sub-size
overflow_sub-size c =
    let map : c.map.result ≡ c.args.self.now.map = c.map.ensures.value in
    omega (arith, data_low-le (parsed c.args.self.now), c.data_file_end.ensures, ap (λ m. m.data_low) map)

pub loop-k-init : goal.loop-k-init
loop-k-init c =
    let map : c.map.result ≡ c.args.self.now.map = c.map.ensures.value in
    let size : c.data_file_end.result - c.map.result.data_low ≡ data_file_end (parsed c.args.self.now) - c.args.self.now.map.data_low = ap₂ (λ e m. e - m.data_low) c.data_file_end.ensures map in
    c.in_ok-bytes.ensures.items_if_clones_equal (λ y h. search rules) ∙ ap (λ n. replicate n 0) size

pub put_section-requires : goal.put_section-requires
put_section-requires c = listed_at (parsed c.args.self.now).objects c.loop-k.k c.section.result c.section.ensures

pub loop-k-preserved : goal.loop-k-preserved
loop-k-preserved c =
    let k = c.loop-k.k in
    let inputs = parsed c.args.self.now in
    let all = all_sections inputs.objects in
    let l = c.section.result in
    let zeros : List ℕ = replicate (data_file_end inputs - inputs.map.data_low) 0 in
    let back : take c.loop-k.bytes.len (c.put_section.new.bytes ++ drop (length c.put_section.new.bytes) c.loop-k.bytes.items) ≡ c.put_section.new.bytes = grind (arith, common_steps) in
    back ∙ c.put_section.ensures
    ∙ ap (λ b. with_content inputs b l) (c.as_mut_slice.ensures.value ∙ c.loop-k.invariant)
    ∙ sym (fold_more (with_content inputs) zeros all k l (slice_get_within all k l c.section.ensures) ∙ ap (with_content inputs (fold (with_content inputs) zeros (take k all))) (get_or_from_slice_get all k l l c.section.ensures))

pub returns : goal.returns
unfolding data_contents
returns c =
    let inputs = parsed c.args.self.now in
    let all = all_sections inputs.objects in
    c.loop-k.invariant
    ∙ ap (fold (with_content inputs) (replicate (data_file_end inputs - inputs.map.data_low) 0)) (take_all c.loop-k.k all (omega (arith, c.section_count-k-end.ensures.count)))
