-- Objects that are too many or have too many bytes are refused, whatever the others are.
use Rattle.std.proofs.Common.{◌≡◌, ◌+◌, ◌++◌, ◌≤◌, length, refl, sym, ap, subst, ◌∙◌, arith, length-append}
use Rattle.std.proofs.lemmas.Bool.{ltb-false, ltb-true}
use Rattle.std.proofs.lemmas.List.{length-map}
use Rattle.psabi_sym.specs.Faults.{fault_from, gather_fault}
use Rattle.psabi_sym.specs.Inputs.{inputs_in}
use Rattle.psabi_sym.specs.LinkFault.{IsRefusal}
use Rattle.psabi_sym.specs.Objects.{contents_of}
use Rattle.psabi_sym.proofs.Gathered.{too_many}
use Rattle.zcld.proofs.objects.Reading.refusal.Goals as goal

pub returns-then-self-clause-some : goal.returns-then-self-clause-some
returns-then-self-clause-some c = λ read all options. (too_many (inputs_in options read) (ltb-true 256 (length read) (sym all.many ∙ c.if-self.true)), refl)

pub returns-then-self-gt-MOST_BYTES-clause-some : goal.returns-then-self-gt-MOST_BYTES-clause-some
returns-then-self-gt-MOST_BYTES-clause-some c = λ read all options.
    let keeps = all.keeps in
    let files = c.as_slice.result.now in
    let kept = contents_of files in
    let kept_are : kept ≡ contents_of c.args.self.now.files.items = ap contents_of c.as_slice.ensures.value in
    let count : length kept ≡ length files = length-map files (λ file. file.items) in
    let few : length read ≤ 256 = ltb-false 256 (length read) (sym all.many ∙ c.if-self.false) in
    let same : kept ++ keeps.others ≡ read = ap (λ k. k ++ keeps.others) kept_are ∙ sym keeps.read_are in
    let both : length files + length keeps.others ≤ 256 = omega (arith, few, count, length-append kept keeps.others, ap length same) in
    let later = keeps.later_is c.if-self.false ∙ ap (λ n. fault_from n keeps.others) (sym (ap length kept_are) ∙ count) in
    let refused = c.long_files_refusal.ensures keeps.others options both later in
    (subst (λ files. IsRefusal (gather_fault (inputs_in options files)) c.long_files_refusal.result) same refused.0, refused.1)
