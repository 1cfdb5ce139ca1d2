-- The files of a pass's result, object after object, and why they may be refused.
use Rattle.std.proofs.Common.{◌≡◌, ℕ, ◌+◌, ◌<◌, List, [], ◌∷◌, ◌++◌, length, map, take, get_or, sym, ap, ◌∙◌, subst, None}
use Rattle.std.specs.Prelude.{Vec}
use Rattle.std.specs.List.{AllZip}
use Rattle.std.specs.Option.{option_or}
use Rattle.std.specs.declared.alloc.Global.{Global}
use Rattle.std.proofs.lemmas.List.{map-append}
use Rattle.elf32_read.specs.Parts.{object_parts}
use Rattle.elf32_write.specs.ObjectFile.{object_bytes}
use Rattle.elf32_write.specs.Writable.{IsObjectOf}
use Rattle.psabi_sym.specs.Faults.{gather_fault}
use Rattle.psabi_sym.specs.Inputs.{Inputs, parsed}
use Rattle.psabi_sym.specs.LinkFault.{IsRefusal}
use Rattle.psabi_sym.specs.Objects.{contents_of}
use Rattle.psabi_sym.specs.declared.link_fault.LinkFault.{LinkFault}
use Rattle.psabi_sym.specs.declared.link_fault.LinkFault.TheVariants.{Object, OutOfMemory}
use Rattle.block_cut.specs.Faults.{entry_fault, first_fault, range_fault, relocs_fault}
use Rattle.block_cut.proofs.TakeLaws.{take_next}
use Rattle.moved_runs.specs.Passes.{Pass, passed_object, passed_objects}
use Rattle.moved_runs.proofs.PassZips.{zip-append}
use Rattle.object_passes.specs.Written.{without_marks}
use Rattle.object_passes.proofs.ListLaws.{made-more}
use Rattle.object_passes.proofs.RoomLaws.{passed-there}

-- ---- one object more

pub files-turn : (pass : Pass) (files : List (List ℕ)) (o : ℕ) (old new : List (Vec ℕ Global)) (file : Vec ℕ Global) → o < length files
    → contents_of old ≡ map object_bytes (take o (passed_objects pass (map object_parts files))) → new ≡ old ++ file ∷ []
    → file.items ≡ object_bytes (passed_object pass o (object_parts (get_or files o [])))
    → contents_of new ≡ map object_bytes (take (o + 1) (passed_objects pass (map object_parts files)))
files-turn pass files o old new file within before more is =
    ap contents_of more ∙ map-append (λ (v : Vec ℕ Global). v.items) old (file ∷ []) ∙ ap (λ f. contents_of old ++ f ∷ []) is
    ∙ made-more object_bytes (passed_objects pass (map object_parts files)) o (passed_object pass o (object_parts (get_or files o []))) (contents_of old) (passed-there pass files o within) before

pub backs-turn : (pass : Pass) (files : List (List ℕ)) (o : ℕ) (old new : List (Vec ℕ Global)) (file : Vec ℕ Global) → o < length files
    → AllZip IsObjectOf (map without_marks (take o (passed_objects pass (map object_parts files)))) (contents_of old) → new ≡ old ++ file ∷ []
    → IsObjectOf (without_marks (passed_object pass o (object_parts (get_or files o [])))) file.items
    → AllZip IsObjectOf (map without_marks (take (o + 1) (passed_objects pass (map object_parts files)))) (contents_of new)
backs-turn pass files o old new file within before more is =
    let all = passed_objects pass (map object_parts files) in
    let one = passed_object pass o (object_parts (get_or files o [])) in
    let parts : map without_marks (take (o + 1) all) ≡ map without_marks (take o all) ++ without_marks one ∷ [] =
    ap (map without_marks) (take_next all o one (passed-there pass files o within)) ∙ map-append without_marks (take o all) (one ∷ []) in
    let written : contents_of new ≡ contents_of old ++ file.items ∷ [] = ap contents_of more ∙ map-append (λ (v : Vec ℕ Global). v.items) old (file ∷ []) in
    subst (λ fs. AllZip IsObjectOf (map without_marks (take (o + 1) all)) fs) (sym written)
    (subst (λ ps. AllZip IsObjectOf ps (contents_of old ++ file.items ∷ [])) (sym parts)
    (zip-append IsObjectOf (map without_marks (take o all)) (without_marks one ∷ []) (contents_of old) (file.items ∷ []) before (is, tt)))

-- ---- refusals

-- a fault between objects is the first
pub gather_first : (inputs : Inputs) (fault : LinkFault) → IsRefusal (gather_fault inputs) fault → IsRefusal (first_fault inputs) fault
unfolding first_fault
gather_first inputs (Object index fault) is =
    ap (λ g. option_or g (option_or (relocs_fault (parsed inputs)) (option_or (entry_fault (parsed inputs)) (option_or (range_fault (parsed inputs)) None)))) is
gather_first inputs OutOfMemory is = tt
