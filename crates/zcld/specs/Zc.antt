-- What `zc` does: it links the objects, puts the image and then the certificate, and writes the report.
use Rattle.std.specs.Prelude.{◌≡◌, ℕ, ◌⊎◌, ◌==◌, if◌then◌else◌, List, [], ◌∷◌, length, Option, Some, None}
use Rattle.std.specs.List.{count_by}
use Rattle.psabi_sym.specs.Fixed.{is_fixed}
use Rattle.psabi_sym.specs.Indexed.{all_sections}
use Rattle.psabi_sym.specs.Inputs.{ParsedInputs, inputs_in, parsed}
use Rattle.zc_base.specs.Options.{Options}
use Rattle.pick_check.specs.Text.{certificate_text}
use Rattle.size_report.specs.Report.{report_text}
use Rattle.zc_outside.specs.Desk.{OnlyWrites}
use Rattle.zc_outside.specs.Shelf.{OnlyPuts}
use Rattle.zc_outside.specs.World.{World}
use Rattle.zc_link.specs.Links.{IsZcLink, Link}
use Rattle.zcld.specs.declared.outcome.Outcome.{Outcome}
use Rattle.zcld.specs.declared.outcome.Outcome.TheVariants.{OutOfMemory}
use Rattle.zcld.specs.declared.zc.ZcResults.{ZcResults}
use Rattle.zcld.specs.Puts.{Output, PutsInTurn}

-- how many sections of the objects are fixed
abbrev pub fixed_count : ParsedInputs → ℕ
fixed_count inputs = count_by (λ l. is_fixed inputs.fixed l.section) (all_sections inputs.objects)

-- this, if names of fixed sections are given
abbrev pub fixed_told : ParsedInputs → Option ℕ
fixed_told inputs = if length inputs.fixed == 0 then None else Some (fixed_count inputs)

-- the image and then the certificate of its table, and the report of the link, with how many sections are fixed if that is
-- told
abbrev pub zc_output : List ℕ → List ℕ → Option ℕ → Link → Output
zc_output out cert fixed link = record {
  files = (out, link.elf) ∷ (cert, certificate_text link.savings link.certificate) ∷ [];
  text = report_text (record { plain = link.plain; zc = link.zc; fixed = fixed }) link.savings link.certificate;
}

-- what `zc` puts and writes, as the program holds it
abbrev pub output_of : List ℕ → List ℕ → ZcResults → Output
output_of out cert results = record {
  files = (out, results.image.items) ∷ (cert, results.certificate.items) ∷ [];
  text = results.report.items;
}

-- the link under the options was made, its image and the certificate were put, and the report was written, as far as this
-- outcome says
pub record PutsZc
    (options : Options) (out cert : List ℕ) (files : List (List ℕ)) (outcome : Outcome) (before after : World)
    : Type 0 where
  pub link : Link
  pub linked : IsZcLink (inputs_in options files) link
  pub done :
      PutsInTurn outcome (zc_output out cert (fixed_told (parsed (inputs_in options files))) link) before after
  pub shelf : OnlyPuts before.shelf after.shelf
  pub desk : OnlyWrites before.desk after.desk

-- there was no memory for the link, and nothing was done; or the link was made and put
abbrev pub ZcWork : Options → List ℕ → List ℕ → List (List ℕ) → Outcome → World → World → Type 0
ZcWork options out cert files outcome before after =
    ((outcome ≡ OutOfMemory) × (after ≡ before)) ⊎ PutsZc options out cert files outcome before after
