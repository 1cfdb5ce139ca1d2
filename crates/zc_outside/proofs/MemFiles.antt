-- The files of a store in memory: its map, seen as a list of names with their bytes, looks up and inserts as the map
-- does.
use Rattle.std.proofs.Common.{◌≡◌, ℕ, true, false, cond, List, [], ◌∷◌, Some, refl, ap, ◌∙◌}
use Rattle.std.specs.BTreeMap.{insert_entry}
use Rattle.std.specs.Map.{lookup}
use Rattle.std.specs.Option.{option_map}
use Rattle.std.specs.Cmp.Lexicographic.{slice_cmp, nat_list_cmp_total}
use Rattle.std.specs.FinMap.Entries.{by_order, find-put}
use Rattle.std.specs.Global.{Global, Vec}
use Rattle.std.specs.Ordering.{nat_cmp, is_eq, match_ordering}
use Rattle.std.specs.String.{string_bytes, string_cmp}
use Rattle.std.specs.declared.string.String.{String}
use Rattle.std.specs.declared.cmp.Ordering.TheVariants.{Less, Equal, Greater}
use Rattle.std.proofs.lemmas.Bool.{false_from_ne_true}
use Rattle.std.proofs.lemmas.Map.Text.{is_eq-slice_cmp}
use Rattle.std.proofs.lemmas.Slice.Eq.{bytes_eq-Decides}
use Rattle.zc_outside.specs.Files.{PutsFile}
use Rattle.zc_outside.specs.MemStore.{file_in, with_file, files_of}

-- a name is found where the map finds it
pub file_in-files_of :
    (entries : List (String Global × Vec ℕ)) (name : List ℕ) →
    file_in (files_of entries) name ≡ option_map (λ bytes. bytes.items) (lookup (λ key. is_eq (slice_cmp nat_cmp name (string_bytes key))) entries)
file_in-files_of [] name = refl
file_in-files_of (e ∷ entries) name =
    let rest = lookup (λ key. is_eq (slice_cmp nat_cmp name (string_bytes key))) entries in
    elim (is_eq (slice_cmp nat_cmp name (string_bytes e.0))) as (λ b. cond b (Some e.1.items) (file_in (files_of entries) name) ≡ option_map (λ bytes. bytes.items) (cond b (Some e.1) rest)) [
      | true ↦ refl
      | false ↦ file_in-files_of entries name
    ]

-- an insertion into the map is one into the files
pub files_of-insert :
    (entries : List (String Global × Vec ℕ)) (name : String Global) (bytes : Vec ℕ) →
    files_of (insert_entry string_cmp entries name bytes) ≡ with_file (files_of entries) (string_bytes name) bytes.items
files_of-insert [] name bytes = refl
files_of-insert (e ∷ entries) name bytes =
    elim (slice_cmp nat_cmp (string_bytes name) (string_bytes e.0)) as (λ o.
    files_of (match_ordering o ((name, bytes) ∷ e ∷ entries) ((e.0, bytes) ∷ entries) (e ∷ insert_entry string_cmp entries name bytes))
    ≡ by_order o ((string_bytes name, bytes.items) ∷ files_of (e ∷ entries)) ((string_bytes e.0, bytes.items) ∷ files_of entries)
    ((string_bytes e.0, e.1.items) ∷ with_file (files_of entries) (string_bytes name) bytes.items)) [
      | Less ↦ refl
      | Equal ↦ refl
      | Greater ↦ ap (λ rest. (string_bytes e.0, e.1.items) ∷ rest) (files_of-insert entries name bytes)
    ]

-- the name has the new bytes, and all other names have the bytes that they had
pub with_file-PutsFile :
    (files : List (List ℕ × List ℕ)) (name bytes : List ℕ) →
    PutsFile (Some (file_in files)) (Some (file_in (with_file files name bytes))) name bytes
with_file-PutsFile files name bytes =
    let found = find-put (slice_cmp nat_cmp) nat_list_cmp_total in (
      found name name bytes files ∙ ap (λ b. cond b (Some bytes) (file_in files name)) (is_eq-slice_cmp name name ∙ (bytes_eq-Decides name name).1 refl),
      λ q other. found q name bytes files ∙ ap (λ b. cond b (Some bytes) (file_in files q)) (is_eq-slice_cmp q name ∙ false_from_ne_true _ (λ same. other ((bytes_eq-Decides q name).0 same))),
    )

-- for `grind`: what the map's clauses say of the files
pub ruleset map_as_files = (file_in-files_of, files_of-insert)
