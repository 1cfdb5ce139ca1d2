use Rattle.std.proofs.Common.{◌≡◌, ◌+◌, ◌<◌, ℕ, List, [], length, true, Option, Some, None, cond, sym, ap, subst, ◌∙◌, arith}
use Rattle.std.specs.Prelude.{◌&&◌, nat_lt, MatchOption}
use Rattle.std.specs.List.{flat_map}
use Rattle.std.proofs.lemmas.Bool.{ltb-false}
use Rattle.std.proofs.lemmas.List.{append-nil}
use Rattle.elf32_read.specs.Header.{IsOnly, header_of, section_count}
use Rattle.elf32_read.specs.Kept.{is_kept}
use Rattle.elf32_read.specs.Parts.{relocs_held, relocs_of}
use Rattle.elf32_read.specs.Relocs.{relas_for}
use Rattle.elf32_read.proofs.Alone.{Found, found_more, found_only, found_same}
use Rattle.elf32_read.proofs.Tests.{changes}
use Rattle.elf32_read.proofs.relas.rela_for.Goals as goal
use Rattle.elf32_read.proofs.relas.rela_for.Goals.{then-changes, else-changes}

-- the relocations of a kept section are the content of its only RELA section
held : (bytes : List ℕ) (section : ℕ) (found : Option ℕ) → is_kept bytes (header_of bytes section) ≡ true → IsOnly (changes section) bytes found → MatchOption found (relocs_of bytes section ≡ []) (λ rela. (rela < section_count bytes) × (relocs_of bytes section ≡ relocs_held bytes (header_of bytes rela)))
held bytes section None kept only =
    ap (λ b. cond b (flat_map (relocs_held bytes) (relas_for bytes section)) []) kept ∙ ap (flat_map (relocs_held bytes)) only
held bytes section (Some rela) kept only =
    (only.0, ap (λ b. cond b (flat_map (relocs_held bytes) (relas_for bytes section)) []) kept ∙ ap (flat_map (relocs_held bytes)) only.1 ∙ append-nil (relocs_held bytes (header_of bytes rela)))

pub loop-i-preserved : goal.loop-i-preserved
loop-i-preserved c =
    let bytes = c.args.sections.now in
    let header_at = header_of bytes in
    let section = c.args.section in
    let i = c.loop-i.i in
    let kept : is_kept bytes (header_at section) ≡ true = sym (c.is_kept.ensures ∙ ap (is_kept bytes) c.header.ensures.header) ∙ c.if-not-is_kept.false in
    let once = ltb-false 1 (length (relas_for bytes section)) (sym (ap (λ b. b && nat_lt 1 (length (relas_for bytes section))) kept) ∙ c.requires.once) in
    elim c.if-changes.branch [
      | then-changes w ↦
          subst (Found (changes section) header_at (i + 1)) (sym w.found-is) (found_more (changes section) header_at (section_count bytes) i c.loop-i.found once (omega arith) c.loop-i.invariant (sym c.changes.ensures ∙ w.if-changes.true))
      | else-changes w ↦
          subst (Found (changes section) header_at (i + 1)) (sym w.found-is) (found_same (changes section) header_at i c.loop-i.found c.loop-i.invariant (sym c.changes.ensures ∙ w.if-changes.false))
    ]

pub returns : goal.returns
returns c =
    let bytes = c.args.sections.now in
    let section = c.args.section in
    let kept : is_kept bytes (header_of bytes section) ≡ true = sym (c.is_kept.ensures ∙ ap (is_kept bytes) c.header.ensures.header) ∙ c.if-not-is_kept.false in
    let all : c.loop-i.i ≡ section_count bytes = omega arith in
    held bytes section c.loop-i.found kept (found_only (changes section) bytes c.loop-i.found (subst (λ n. Found (changes section) (header_of bytes) n c.loop-i.found) all c.loop-i.invariant))
