-- The files that a command reads, one after another, and what their reads do to a store.
use Rattle.std.specs.Prelude.{◌≡◌, ℕ, ◌≤◌, ◌⊎◌, IsTrue, List, [], ◌∷◌, length, map, Option, ⊤}
use Rattle.zc_outside.specs.declared.read_files.ReadFault.{ReadFault}
use Rattle.zc_outside.specs.declared.read_files.ReadFault.TheVariants.{Unread, OutOfMemory}
use Rattle.zc_outside.specs.Files.{Files, HasFile, Holds, IsLong, KeepsFiles, Rose}
use Rattle.zc_outside.specs.Shelf.{Shelf}

-- a file that a command reads: its name, and the most bytes that it may have
pub record Wanted : Type 0 where
  pub name : List ℕ
  pub limit : ℕ

-- files by their names, each of at most `limit` bytes
abbrev pub each_within : ℕ → List (List ℕ) → List Wanted
each_within limit names = map (λ name. record { name = name; limit = limit }) names

-- the file was read: these are the bytes under its name, if the store tells its files, and no more than its limit
pub record IsRead (files : Option Files) (file : Wanted) (bytes : List ℕ) : Type 0 where
  pub held : HasFile files file.name bytes
  pub short : length bytes ≤ file.limit

-- the files were read, one after another
abbrev pub AreRead : Option Files → List Wanted → List (List ℕ) → Type 0
AreRead files [] [] = ⊤
AreRead files [] (bytes ∷ others) = ⊥
AreRead files (file ∷ wanted) [] = ⊥
AreRead files (file ∷ wanted) (bytes ∷ others) = IsRead files file bytes × AreRead files wanted others

-- the files are told, and each of these names is held
abbrev pub AreHeld : Option Files → List Wanted → Type 0
AreHeld files [] = ⊤
AreHeld files (file ∷ wanted) = Holds files file.name × AreHeld files wanted

-- one of the files is longer than its limit, if the store tells its files
abbrev pub IsOneLong : Option Files → List Wanted → Type 0
IsOneLong files [] = ⊥
IsOneLong files (file ∷ wanted) = IsLong files file.name file.limit ⊎ IsOneLong files wanted

-- what reading these files, or the first of them, does to a store: its files stay, and only the counts of reads may
-- rise; if the store is sure and holds all the names, no read failed, and only a file that is too long was counted
pub record ReadsAll (wanted : List Wanted) (before after : Shelf) : Type 0 where
  pub files : KeepsFiles before.files after.files
  pub reads : before.read_faults ≤ after.read_faults
  pub longs : before.long_files ≤ after.long_files
  pub writes : after.write_faults ≡ before.write_faults
  pub write_memory : after.write_memory_faults ≡ before.write_memory_faults
  pub sure : after.sure ≡ before.sure
  pub counted :
      IsTrue before.sure → AreHeld before.files wanted →
      (after.read_faults ≡ before.read_faults) × ((after.long_files ≡ before.long_files) ⊎ IsOneLong before.files wanted)

-- why the files can't be read: a read failed, and the store isn't sure or doesn't hold all the names; or a file is too
-- long
abbrev pub AreUnread : List Wanted → Shelf → Shelf → Type 0
AreUnread wanted before after =
    (Rose before.read_faults after.read_faults × (IsTrue before.sure → AreHeld before.files wanted → ⊥))
    ⊎ (Rose before.long_files after.long_files × IsOneLong before.files wanted)

-- what a refusal to read the files shows: one of the causes of `AreUnread`, or memory ran out
abbrev pub ReadCause : List Wanted → Shelf → Shelf → ReadFault → Type 0
ReadCause wanted before after Unread = AreUnread wanted before after
ReadCause wanted before after OutOfMemory = ⊤
