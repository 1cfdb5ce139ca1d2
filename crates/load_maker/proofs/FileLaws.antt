-- The loop that writes the objects' files: each turn adds the file of the next group of functions, and after the last group
-- the files are those of `made_objects`.
use Rattle.std.proofs.Common.{◌≡◌, ℕ, ◌+◌, ◌-◌, ◌*◌, ◌≤◌, List, [], ◌∷◌, ◌++◌, length, map, min, take, drop, Vec, sym, ap, ◌∙◌, arith}
use Rattle.std.specs.List.{range_with_len}
use Rattle.std.specs.declared.alloc.Global.{Global}
use Rattle.std.proofs.lemmas.List.{length-drop, length-take, map_push, take_min}
use Rattle.std.proofs.lemmas.List.FromFn.{map-range_with_len_more}
use Rattle.elf32_write.specs.ObjectFile.{object_bytes}
use Rattle.psabi_sym.specs.Objects.{contents_of}
use Rattle.psabi_sym.proofs.BridgeLaws.{map-map}
use Rattle.load_maker.specs.Functions.{functions_from}
use Rattle.load_maker.specs.Objects.{group, group_count, group_object, made_objects, start_object}
use Rattle.load_maker.specs.declared.statement.Statement.{Statement}

pub group_slice : (bodies : List (List Statement)) (k first end : ℕ) → first ≡ 8 * k → end ≡ min (length bodies) (first + 8) → take (end - first) (drop first bodies) ≡ group bodies k
group_slice bodies k first end one two =
    let rest = drop (8 * k) bodies in
    let few : end - first ≡ min 8 (length rest) = omega (arith, one, two, length-drop (8 * k) bodies) in
    ap (λ n. take n (drop first bodies)) few ∙ ap (λ n. take (min 8 (length rest)) (drop n bodies)) one ∙ take_min 8 rest

pub group_few : (bodies : List (List Statement)) (k : ℕ) → length (group bodies k) ≤ 8
group_few bodies k = omega (arith, length-take 8 (drop (8 * k) bodies))

abbrev pub group_file : ℕ → ℕ → ℕ → List ℕ
group_file number n k = object_bytes (group_object (functions_from n 0 number) k)

pub files_more : (number n k : ℕ) (files : List (Vec ℕ Global)) (file : Vec ℕ Global)
    → contents_of files ≡ object_bytes (start_object number n) ∷ map (group_file number n) (range_with_len 0 k) → file.items ≡ group_file number n k
    → contents_of (files ++ file ∷ []) ≡ object_bytes (start_object number n) ∷ map (group_file number n) (range_with_len 0 (k + 1))
files_more number n k files file are is =
    map_push (λ (f : Vec ℕ Global). f.items) files file ∙ (λ j. are j ++ is j ∷ [])
    ∙ ap (λ l. object_bytes (start_object number n) ∷ l) (sym (map-range_with_len_more (group_file number n) 0 k k (omega arith)))

pub files_all : (number n k : ℕ) (files : List (Vec ℕ Global))
    → contents_of files ≡ object_bytes (start_object number n) ∷ map (group_file number n) (range_with_len 0 k) → k ≡ group_count n → contents_of files ≡ made_objects number n
unfolding made_objects
files_all number n k files are all =
    are
    ∙ ap (λ l. object_bytes (start_object number n) ∷ l)
    (ap (λ m. map (group_file number n) (range_with_len 0 m)) all ∙ sym (map-map object_bytes (group_object (functions_from n 0 number)) (range_with_len 0 (group_count n))))
