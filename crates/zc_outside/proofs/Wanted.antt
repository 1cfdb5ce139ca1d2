-- Several reads of files in sequence.
use Rattle.std.proofs.Common.{◌≡◌, ◌≢◌, ℕ, ◌+◌, ◌<◌, length, take, drop, map, get_or, inl, inr, List, [], ◌∷◌, ◌++◌, Option, Some, IsTrue, refl, sym, ap, ◌∙◌, arith}
use Rattle.std.proofs.lemmas.List.{map-append, take_more, take-append-drop}
use Rattle.std.specs.Global.{Global}
use Rattle.std.specs.String.{string_bytes}
use Rattle.std.specs.declared.string.String.{String}
use Rattle.zc_outside.specs.declared.read_files.ReadFault.{ReadFault}
use Rattle.zc_outside.specs.declared.read_files.ReadFault.TheVariants as read_fault
use Rattle.zc_outside.specs.declared.store.StoreFault.{StoreFault}
use Rattle.zc_outside.specs.declared.store.StoreFault.TheVariants.{Failed, TooLong, OutOfMemory}
use Rattle.zc_outside.specs.Files.{Files, KeepsFiles}
use Rattle.zc_outside.specs.Shelf.{GetCause, OnlyReads, Shelf}
use Rattle.zc_outside.specs.Wanted.{AreHeld, AreRead, AreUnread, IsOneLong, IsRead, ReadCause, ReadsAll, Wanted, each_within}
use Rattle.zc_outside.proofs.Kept.{KeepsFiles-refl, KeepsFiles-trans, KeepsFiles-HasFile, KeepsFiles-Holds, KeepsFiles-IsLong, Rose-earlier}

-- ---- which names are held, and which files are too long

-- if files are held, the first of them are
AreHeld-front : (files : Option Files) (first rest : List Wanted) → AreHeld files (first ++ rest) → AreHeld files first
AreHeld-front files [] rest held = tt
AreHeld-front files (file ∷ first) rest held = (held.0, AreHeld-front files first rest held.1)

-- if files are held, the others after the first are
AreHeld-rest : (files : Option Files) (first rest : List Wanted) → AreHeld files (first ++ rest) → AreHeld files rest
AreHeld-rest files [] rest held = held
AreHeld-rest files (file ∷ first) rest held = AreHeld-rest files first rest held.1

-- names stay held in kept files
KeepsFiles-AreHeld : (a b : Option Files) (wanted : List Wanted) → KeepsFiles a b → AreHeld a wanted → AreHeld b wanted
KeepsFiles-AreHeld a b [] kept held = tt
KeepsFiles-AreHeld a b (file ∷ wanted) kept held = (KeepsFiles-Holds a b file.name kept held.0, KeepsFiles-AreHeld a b wanted kept held.1)

-- if one of the first files is too long, one of all files is
IsOneLong-front : (files : Option Files) (first rest : List Wanted) → IsOneLong files first → IsOneLong files (first ++ rest)
IsOneLong-front files [] rest long = absurd long
IsOneLong-front files (file ∷ first) rest long = elim long [ inl here ↦ inl here | inr later ↦ inr (IsOneLong-front files first rest later) ]

-- if one of the files after the first ones is too long, one of all files is
IsOneLong-rest : (files : Option Files) (first rest : List Wanted) → IsOneLong files rest → IsOneLong files (first ++ rest)
IsOneLong-rest files [] rest long = long
IsOneLong-rest files (file ∷ first) rest long = inr (IsOneLong-rest files first rest long)

-- a kept file that is too long was so before
KeepsFiles-IsOneLong : (a b : Option Files) (wanted : List Wanted) → KeepsFiles a b → IsOneLong b wanted → IsOneLong a wanted
KeepsFiles-IsOneLong a b [] kept long = absurd long
KeepsFiles-IsOneLong a b (file ∷ wanted) kept long =
    elim long [ inl here ↦ inl (KeepsFiles-IsLong a b file.name file.limit kept here) | inr later ↦ inr (KeepsFiles-IsOneLong a b wanted kept later) ]

-- ---- what was read

-- files that are read from kept files were there before
pub KeepsFiles-AreRead :
    (a b : Option Files) (wanted : List Wanted) (bytes : List (List ℕ)) → KeepsFiles a b → AreRead b wanted bytes → AreRead a wanted bytes
KeepsFiles-AreRead a b [] [] kept read = tt
KeepsFiles-AreRead a b [] (x ∷ bytes) kept read = absurd read
KeepsFiles-AreRead a b (file ∷ wanted) [] kept read = absurd read
KeepsFiles-AreRead a b (file ∷ wanted) (x ∷ bytes) kept read =
    (record { held = KeepsFiles-HasFile a b file.name x kept read.0.held; short = read.0.short }, KeepsFiles-AreRead a b wanted bytes kept read.1)

-- some files were read, and then the others
pub AreRead-append :
    (files : Option Files) (first rest : List Wanted) (bytes others : List (List ℕ)) →
    AreRead files first bytes → AreRead files rest others → AreRead files (first ++ rest) (bytes ++ others)
AreRead-append files [] rest [] others read next = next
AreRead-append files [] rest (x ∷ bytes) others read next = absurd read
AreRead-append files (file ∷ first) rest [] others read next = absurd read
AreRead-append files (file ∷ first) rest (x ∷ bytes) others read next = (read.0, AreRead-append files first rest bytes others read.1 next)

-- ---- what reads do to a store

-- nothing was read
pub ReadsAll-none : (s : Shelf) → ReadsAll [] s s
ReadsAll-none s = record { files = KeepsFiles-refl s.files; reads = omega arith; longs = omega arith; writes = refl; write_memory = refl; sure = refl; counted = λ sure held. (refl, inl refl) }

-- a read of one file
pub ReadsAll-one : (file : Wanted) {a b : Shelf} → OnlyReads file.name file.limit a b → ReadsAll (file ∷ []) a b
ReadsAll-one file reads = grind arith

-- some files were read, and then the others: what both do to the store
pub ReadsAll-append :
    {first rest : List Wanted} {a b c : Shelf} → ReadsAll first a b → ReadsAll rest b c → ReadsAll (first ++ rest) a c
ReadsAll-append {first = first} {rest = rest} {a = a} {b = b} {c = c} read next = record {
  files = KeepsFiles-trans a.files b.files c.files read.files next.files;
  reads = omega arith;
  longs = omega arith;
  writes = next.writes ∙ read.writes;
  write_memory = next.write_memory ∙ read.write_memory;
  sure = next.sure ∙ read.sure;
  counted = λ sure held.
      let before = read.counted sure (AreHeld-front a.files first rest held) in
      let later = next.counted (read.sure ∙ sure) (KeepsFiles-AreHeld a.files b.files rest read.files (AreHeld-rest a.files first rest held)) in (
        later.0 ∙ before.0,
        elim before.1 [
          | inl same ↦ elim later.1 [
            | inl still ↦ inl (still ∙ same)
            | inr long ↦ inr (IsOneLong-rest a.files first rest (KeepsFiles-IsOneLong a.files b.files rest read.files long))
          ]
          | inr long ↦ inr (IsOneLong-front a.files first rest long)
        ],
      );
}

-- reads of the first files are reads of them all that stopped there
pub ReadsAll-front : {first : List Wanted} (rest : List Wanted) {a b : Shelf} → ReadsAll first a b → ReadsAll (first ++ rest) a b
ReadsAll-front {first = first} rest {a = a} {b = b} reads = record {
  files = reads.files;
  reads = reads.reads;
  longs = reads.longs;
  writes = reads.writes;
  write_memory = reads.write_memory;
  sure = reads.sure;
  counted = λ sure held.
      let counted = reads.counted sure (AreHeld-front a.files first rest held) in
      (counted.0, elim counted.1 [ inl same ↦ inl same | inr long ↦ inr (IsOneLong-front a.files first rest long) ]);
}

-- ---- why files can't be read

-- one file can't be read
pub AreUnread-one :
    (file : Wanted) (a b : Shelf) (fault : StoreFault) → fault ≢ OutOfMemory → GetCause file.name file.limit a b fault → AreUnread (file ∷ []) a b
AreUnread-one file a b Failed other cause = inl (cause.0, λ sure held. cause.1 sure held.0)
AreUnread-one file a b (TooLong taken) other cause = inr (cause.0, inl cause.2)
AreUnread-one file a b OutOfMemory other cause = absurd (other refl)

-- one of the first files can't be read, so not all can
pub AreUnread-front : (first rest : List Wanted) (a b : Shelf) → AreUnread first a b → AreUnread (first ++ rest) a b
AreUnread-front first rest a b unread = elim unread [
  | inl failed ↦ inl (failed.0, λ sure held. failed.1 sure (AreHeld-front a.files first rest held))
  | inr long ↦ inr (long.0, IsOneLong-front a.files first rest long.1)
]

-- the first files were read, and one of the others can't be, so not all can
pub AreUnread-rest :
    (first rest : List Wanted) (a b c : Shelf) → ReadsAll first a b → AreUnread rest b c → AreUnread (first ++ rest) a c
AreUnread-rest first rest a b c read unread = elim unread [
  | inl failed ↦
      let held_then = λ (held : AreHeld a.files (first ++ rest)). KeepsFiles-AreHeld a.files b.files rest read.files (AreHeld-rest a.files first rest held) in
      inl (Rose-earlier a.read_faults b.read_faults c.read_faults read.reads failed.0, λ sure held. failed.1 (read.sure ∙ sure) (held_then held))
  | inr long ↦
      inr (
        Rose-earlier a.long_files b.long_files c.long_files read.longs long.0,
        IsOneLong-rest a.files first rest (KeepsFiles-IsOneLong a.files b.files rest read.files long.1),
      )
]

-- ---- stores that tell their files

-- files that are read twice have the same bytes
pub AreRead-same :
    (f : Files) (wanted : List Wanted) (xs ys : List (List ℕ)) → AreRead (Some f) wanted xs → AreRead (Some f) wanted ys → xs ≡ ys
AreRead-same f [] [] [] read again = refl
AreRead-same f [] [] (y ∷ ys) read again = absurd again
AreRead-same f [] (x ∷ xs) ys read again = absurd read
AreRead-same f (file ∷ wanted) [] ys read again = absurd read
AreRead-same f (file ∷ wanted) (x ∷ xs) [] read again = absurd again
AreRead-same f (file ∷ wanted) (x ∷ xs) (y ∷ ys) read again =
    let same : Some x ≡ Some y = sym read.0.held ∙ again.0.held in
    let rest = AreRead-same f wanted xs ys read.1 again.1 in
    cc

-- files that can be read are held
pub AreRead-AreHeld : (f : Files) (wanted : List Wanted) (xs : List (List ℕ)) → AreRead (Some f) wanted xs → AreHeld (Some f) wanted
AreRead-AreHeld f [] xs read = tt
AreRead-AreHeld f (file ∷ wanted) [] read = absurd read
AreRead-AreHeld f (file ∷ wanted) (x ∷ xs) read = ((x, read.0.held), AreRead-AreHeld f wanted xs read.1)

-- no file that can be read is too long
pub AreRead-not-long : (f : Files) (wanted : List Wanted) (xs : List (List ℕ)) → AreRead (Some f) wanted xs → ¬ IsOneLong (Some f) wanted
AreRead-not-long f [] xs read long = absurd long
AreRead-not-long f (file ∷ wanted) [] read long = absurd read
AreRead-not-long f (file ∷ wanted) (x ∷ xs) read long = elim long [
  | inl here ↦
      let same : Some here.0 ≡ Some x = sym here.1 ∙ read.0.held in
      let lengths : length here.0 ≡ length x = cc in
      absurd (omega (arith, lengths, here.2, read.0.short))
  | inr later ↦ AreRead-not-long f wanted xs read.1 later
]

-- if a sure store holds all the files and no file is too long, `AreUnread` doesn't hold
pub AreUnread-sure :
    (wanted : List Wanted) (a b : Shelf) → IsTrue a.sure → AreHeld a.files wanted → ¬ IsOneLong a.files wanted → ¬ AreUnread wanted a b
AreUnread-sure wanted a b sure held short unread =
    elim unread [ inl failed ↦ failed.1 sure held | inr long ↦ short long.1 ]

-- ---- a loop over names, of which some were read

-- a list of names is the first ones followed by the others
each_within-split :
    (limit : ℕ) (names : List (String Global)) (i : ℕ) →
    each_within limit (map string_bytes names)
    ≡ each_within limit (map string_bytes (take i names)) ++ each_within limit (map string_bytes (drop i names))
each_within-split limit names i = ap (λ all. each_within limit (map string_bytes all)) (sym (take-append-drop i names)) ∙ simp map-append

module _ (limit : ℕ) (names : List (String Global)) (i : ℕ) (name : String Global) (within : i < length names) (is : name ≡ get_or names i name) where
  -- the file of the current name
  abbrev file : Wanted
  file = record { name = string_bytes name; limit = limit }

  -- one more file after the ones before it
  each_within-more : each_within limit (map string_bytes (take (i + 1) names)) ≡ each_within limit (map string_bytes (take i names)) ++ file ∷ []
  each_within-more = ap (λ front. each_within limit (map string_bytes front)) (take_more names i name within ∙ ap (λ x. take i names ++ x ∷ []) (sym is)) ∙ simp map-append

  -- the current file was read, like the ones before it
  pub AreRead-more :
      (a b : Option Files) (bytes : List (List ℕ)) (next : List ℕ) → KeepsFiles a b →
      AreRead a (each_within limit (map string_bytes (take i names))) bytes → IsRead b file next →
      AreRead a (each_within limit (map string_bytes (take (i + 1) names))) (bytes ++ next ∷ [])
  AreRead-more a b bytes next kept read last =
      let front = each_within limit (map string_bytes (take i names)) in
      rw each_within-more (AreRead-append a front (file ∷ []) bytes (next ∷ []) read (KeepsFiles-AreRead a b (file ∷ []) (next ∷ []) kept (last, tt)))

  -- the read of the current file, after the reads before it
  pub ReadsAll-more :
      {a b c : Shelf} → ReadsAll (each_within limit (map string_bytes (take i names))) a b → ReadsAll (file ∷ []) b c →
      ReadsAll (each_within limit (map string_bytes (take (i + 1) names))) a c
  ReadsAll-more read next = rw each_within-more (ReadsAll-append read next)

  -- the loop may stop at a file that can't be read
  pub ReadsAll-stop :
      {a b c : Shelf} → ReadsAll (each_within limit (map string_bytes (take i names))) a b → ReadsAll (file ∷ []) b c →
      ReadsAll (each_within limit (map string_bytes names)) a c
  ReadsAll-stop read next = rw (each_within-split limit names (i + 1)) (ReadsAll-front _ (ReadsAll-more read next))

  -- the loop stops with the cause that this file has
  pub ReadCause-stop :
      (a b c : Shelf) (fault : ReadFault) → ReadsAll (each_within limit (map string_bytes (take i names))) a b → ReadCause (file ∷ []) b c fault →
      ReadCause (each_within limit (map string_bytes names)) a c fault
  ReadCause-stop a b c read_fault.Unread read cause =
      let front = each_within limit (map string_bytes (take i names)) in
      let more : AreUnread (each_within limit (map string_bytes (take (i + 1) names))) a c = rw each_within-more (AreUnread-rest front (file ∷ []) a b c read cause) in
      rw (each_within-split limit names (i + 1)) (AreUnread-front (each_within limit (map string_bytes (take (i + 1) names))) (each_within limit (map string_bytes (drop (i + 1) names))) a c more)
  ReadCause-stop a b c read_fault.OutOfMemory read cause = tt
