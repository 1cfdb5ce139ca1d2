-- One compressed object makes the image's code compressed.
use Rattle.std.proofs.Common.{◌≡◌, ℕ, ◌<◌, ◌≤◌, List, [], Bool, false, get_or, length, map, sym, ap, ◌∙◌, arith}
use Rattle.std.specs.Prelude.{if◌then◌else◌}
use Rattle.std.specs.List.{list_any}
use Rattle.std.proofs.lemmas.Bool.{or_from}
use Rattle.std.proofs.lemmas.List.{get_or-map, length-map, take_all}
use Rattle.std.proofs.lemmas.List.Folds.{list_any_at, list_any_more}
use Rattle.elf32_read.specs.Compressed.{has_rvc}
use Rattle.elf32_read.specs.Header.{file_flags}
use Rattle.elf32_read.specs.Parts.{ObjectParts, object_parts}
use Rattle.psabi_sym.specs.Inputs.{parsed}
use Rattle.zc_link.proofs.plain.plain_flags.Goals as goal

-- an object is compressed
abbrev is_compressed : ObjectParts → Bool
is_compressed object = has_rvc object.flags

-- an object is compressed by the flags of its file
by_file : (files : List (List ℕ)) (i : ℕ) → i < length files → is_compressed (get_or (map object_parts files) i (object_parts [])) ≡ has_rvc (file_flags (get_or files i []))
unfolding object_parts
by_file files i within = ap is_compressed (get_or-map object_parts files i [] (object_parts []) within)

-- the flags by whether some object is
abbrev flags : Bool → ℕ
flags b = if b then 1 else 0

pub returns-then-compressed-clause-value : goal.returns-then-compressed-clause-value
returns-then-compressed-clause-value c =
    let files = c.args.objects.now.files in
    let objects = (parsed c.args.objects.now).objects in
    let i = c.loop-i.i in
    let within : i < length files = omega arith in
    let is = by_file files i within ∙ sym c.compressed.ensures ∙ c.if-compressed.true in
    sym (ap flags (list_any_at is_compressed objects i (object_parts []) (omega (arith, within, length-map files object_parts)) is))

pub loop-i-preserved : goal.loop-i-preserved
loop-i-preserved c =
    let files = c.args.objects.now.files in
    let objects = (parsed c.args.objects.now).objects in
    let i = c.loop-i.i in
    let within : i < length files = omega arith in
    let other = by_file files i within ∙ sym c.compressed.ensures ∙ c.if-compressed.false in
    list_any_more is_compressed objects i (object_parts []) (omega (arith, within, length-map files object_parts)) ∙ or_from _ _ c.loop-i.invariant other

pub returns-clause-value : goal.returns-clause-value
returns-clause-value c =
    let files = c.args.objects.now.files in
    let objects = (parsed c.args.objects.now).objects in
    let past : length objects ≤ c.loop-i.i = omega (arith, length-map files object_parts) in
    let none : list_any is_compressed objects ≡ false = sym (ap (list_any is_compressed) (take_all c.loop-i.i objects past)) ∙ c.loop-i.invariant in
    sym (ap flags none)
