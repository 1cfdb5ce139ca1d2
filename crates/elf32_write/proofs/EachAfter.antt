-- What is made of each element and of those before it, and what a table of sections holds with one more.
use Rattle.std.proofs.Common.{◌≡◌, ℕ, ◌+◌, List, [], ◌∷◌, ◌++◌, length, sym, ap, ◌∙◌, append_assoc, append-nil}
use Rattle.std.specs.List.{flat_map}
use Rattle.std.proofs.lemmas.List.{map-append}
use Rattle.std.proofs.lemmas.List.Concat.{flat_map-append}
use Rattle.elf32_write.specs.Image.{padded}
use Rattle.elf32_write.specs.NameTable.{name_bytes, name_start, name_table}
use Rattle.elf32_write.specs.EachAfter.{each_after}
use Rattle.elf32_write.specs.FileSections.{FileSection, names_of_sections}
use Rattle.elf32_write.specs.ObjectFile.{contents, headers_for, written_header}
use Rattle.elf32_write.specs.SectionTable.{HoldsSections}
use Rattle.elf32_write.specs.declared.section_table.SectionTable.{SectionTable}

-- a value for each element of two lists, those of the second after the first
pub each_after-append : {X Y : Type 0} (f : List X → X → Y) (before xs ys : List X) → each_after f before (xs ++ ys) ≡ each_after f before xs ++ each_after f (before ++ xs) ys
each_after-append f before [] ys = ap (λ b. each_after f b ys) (sym (append-nil before))
each_after-append f before (x ∷ xs) ys =
    let rest = each_after-append f (before ++ x ∷ []) xs ys in
    let joined : (before ++ x ∷ []) ++ xs ≡ before ++ (x ∷ xs) = append_assoc before (x ∷ []) xs in
    λ i. f before x ∷ (rest ∙ ap (λ b. each_after f (before ++ x ∷ []) xs ++ each_after f b ys) joined) i

-- a value for each element, with one element more
pub each_after_push : {X Y : Type 0} (f : List X → X → Y) (xs : List X) (x : X) → each_after f [] (xs ++ x ∷ []) ≡ each_after f [] xs ++ f xs x ∷ []
each_after_push f xs x = each_after-append f [] xs (x ∷ [])

-- a table of names with one more
pub name_table_push : (names : List (List ℕ)) (name : List ℕ) → name_table (names ++ name ∷ []) ≡ name_table names ++ name_bytes name
name_table_push names name =
    let one : flat_map name_bytes (name ∷ []) ≡ name_bytes name = append-nil (name_bytes name) in
    ap (λ l. 0 ∷ l) (flat_map-append name_bytes names (name ∷ []) ∙ ap (λ l. flat_map name_bytes names ++ l) one)

-- a table of sections with one more, which has its header
pub holds_more : (before : List FileSection) (s : FileSection) (old new : SectionTable) (name offset : ℕ) → HoldsSections before old → new.contents.items ≡ old.contents.items ++ padded s.content → new.names.items ≡ old.names.items ++ name_bytes s.name → new.headers.items ≡ old.headers.items ++ record { name = name; kind = s.kind; flags = s.flags; address = 0; offset = offset; size = s.size; link = s.link; info = s.info; align = s.align; entry_size = s.entry_size } ∷ [] → name ≡ name_start (length old.names.items) s.name → offset ≡ 52 + length old.contents.items → HoldsSections (before ++ s ∷ []) new
holds_more before s old new name offset held contents_new names_new headers_new named placed =
    let start : name ≡ name_start (length (name_table (names_of_sections before))) s.name = named ∙ ap (λ l. name_start (length l) s.name) held.names_held in
    let at : offset ≡ 52 + length (contents before) = placed ∙ ap (λ l. 52 + length l) held.contents_held in
    let header : (record { name = name; kind = s.kind; flags = s.flags; address = 0; offset = offset; size = s.size; link = s.link; info = s.info; align = s.align; entry_size = s.entry_size }) ≡ written_header before s =
    λ i. record { name = start i; kind = s.kind; flags = s.flags; address = 0; offset = at i; size = s.size; link = s.link; info = s.info; align = s.align; entry_size = s.entry_size } in
    let names = map-append (λ (b : FileSection). b.name) before (s ∷ []) in
    let last : contents (s ∷ []) ≡ padded s.content = append-nil (padded s.content) in
    record {
      contents_held = contents_new ∙ ap (λ l. l ++ padded s.content) held.contents_held ∙ ap (λ l. contents before ++ l) (sym last) ∙ sym (flat_map-append (λ b. padded b.content) before (s ∷ []));
      names_held = names_new ∙ ap (λ l. l ++ name_bytes s.name) held.names_held ∙ sym (name_table_push (names_of_sections before) s.name) ∙ ap name_table (sym names);
      headers_held = headers_new ∙ (λ i. held.headers_held i ++ header i ∷ []) ∙ sym (ap (λ l. (headers_for []) ++ l) (each_after_push written_header before s));
    }
