use Rattle.std.proofs.Common.{◌≡◌, ℕ, ◌+◌, ◌-◌, ◌≤◌, ◌++◌, List, length, map, replicate, length-append, ap, ◌∙◌, arith}
use Rattle.std.proofs.lemmas.List.{length-map, length-replicate}
use Rattle.std.proofs.lemmas.Result.{IfOk-weaker}
use Rattle.zc_base.specs.MemMap.{data_limit}
use Rattle.psabi_sym.specs.Data.{data_file_end}
use Rattle.psabi_sym.specs.Inputs.{parsed}
use Rattle.psabi_sym.proofs.ContentLaws.{data_file_end-le, data_low-le, length-data_contents}
use Rattle.sym_machine.specs.declared.word.SymByte.TheVariants.{Num}
use Rattle.sym_machine.proofs.first_data.unfilled.Goals as goal

pub overflow_sub-zeros : goal.overflow_sub-zeros
overflow_sub-zeros c = omega (arith, data_file_end-le (parsed c.args.objects.now), c.data_file_end.ensures, c.data_end.ensures.value)

pub numbers-requires-clause-few : goal.numbers-requires-clause-few
numbers-requires-clause-few c =
    let inputs = parsed c.args.objects.now in
    let contents : length c.in_ok-contents.contents.items ≡ data_file_end inputs - inputs.map.data_low = ap length c.in_ok-contents.ensures ∙ length-data_contents inputs in
    omega (arith, contents, c.data_end.ensures.most, c.data_file_end.ensures, data_low-le inputs, data_file_end-le inputs, c.data_end.ensures.value)

pub returns-clause-most : goal.returns-clause-most
returns-clause-most c =
    let inputs = parsed c.args.objects.now in
    let bytes = c.deref.result.now in
    let size : ℕ = c.len.result + (c.data_end.result - c.data_file_end.result) in
    let contents : length c.in_ok-contents.contents.items ≡ data_file_end inputs - inputs.map.data_low = ap length c.in_ok-contents.ensures ∙ length-data_contents inputs in
    let long : length bytes ≡ length c.in_ok-contents.contents.items = ap length c.deref.ensures.value in
    let few : size ≤ data_limit inputs.map = omega (arith, contents, c.data_end.ensures.most, c.data_file_end.ensures, data_low-le inputs, data_file_end-le inputs, c.data_end.ensures.value) in
    let zeros : List ℕ = replicate (size - length bytes) 0 in
    let sum : length (map Num (bytes ++ zeros)) ≡ size =
    length-map (bytes ++ zeros) Num ∙ length-append bytes zeros ∙ (let e : length bytes + length zeros ≡ size = omega (arith, length-replicate {A = ℕ} (size - length bytes) 0, long) in e) in
    IfOk-weaker c.numbers.result _ _ (λ found is. omega (arith, ap length is, sum, few)) c.numbers.ensures
