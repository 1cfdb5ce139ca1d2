-- Refusals: why files can't be had, as an outcome. Of objects: a fault that stands between them is their first; one that code has names
-- nothing, so its line is the same for all files.
use Rattle.std.proofs.Common.{◌≡◌, ℕ, List, [], ◌∷◌, ◌++◌, Option, Some, None, slice_get, refl, sym, ap, subst, ◌∙◌}
use Rattle.std.specs.Option.{option_and_then, option_or}
use Rattle.elf32_read.specs.Fault.{fault_symbol}
use Rattle.elf32_read.specs.declared.fault.Fault.{Fault}
use Rattle.psabi_sym.specs.Faults.{first_some, gather_fault}
use Rattle.psabi_sym.specs.Inputs.{Inputs, parsed}
use Rattle.psabi_sym.specs.LinkFault.{IsNameless, IsRefusal}
use Rattle.psabi_sym.specs.declared.link_fault.LinkFault.{LinkFault}
use Rattle.psabi_sym.specs.declared.link_fault.LinkFault.TheVariants.{Object, OutOfMemory}
use Rattle.block_cut.specs.Faults.{entry_fault, first_fault, range_fault, relocs_fault}
use Rattle.block_cut.proofs.NamelessFaults.{IsNameless as HasNoName, fault_of, first_nameless}
use Rattle.zcld.specs.ErrLine.{NamesNothing, after_space, err_line, fault_symbol_name, line, name_in, refusal_text}
use Rattle.zc_outside.specs.Shelf.{Shelf}
use Rattle.zc_outside.specs.Wanted.{ReadCause, Wanted}
use Rattle.zc_outside.specs.declared.read_files.ReadFault.{ReadFault}
use Rattle.zc_outside.specs.declared.read_files.ReadFault.TheVariants as read
use Rattle.zcld.specs.Outcome.{link_outcome, read_outcome}
use Rattle.zcld.specs.Task.{UnreadCause}
use Rattle.zcld.specs.declared.outcome.Outcome.{Outcome}

-- why files can't be had, as the outcome that comes of it
pub unread : (wanted : List Wanted) (before after : Shelf) (fault : ReadFault) (outcome : Outcome) → outcome ≡ read_outcome fault → ReadCause wanted before after fault → UnreadCause wanted before after outcome
unread wanted before after read.Unread outcome is cause = subst (λ o. UnreadCause wanted before after o) (sym is) cause
unread wanted before after read.OutOfMemory outcome is cause = subst (λ o. UnreadCause wanted before after o) (sym is) tt

-- ---- objects

pub gather_refuses : (inputs : Inputs) (fault : LinkFault) → IsRefusal (gather_fault inputs) fault → IsRefusal (first_fault inputs) fault
unfolding first_fault
gather_refuses inputs (Object index fault) is =
    ap (λ f. option_or f (first_some (relocs_fault (parsed inputs) ∷ entry_fault (parsed inputs) ∷ range_fault (parsed inputs) ∷ []))) is
gather_refuses inputs OutOfMemory is = tt

-- ---- the line of a refusal that names no symbol

no_name : (files : List (List ℕ)) (i : ℕ) (fault : Fault) → fault_symbol fault ≡ None → fault_symbol_name files i fault ≡ None
no_name files i fault is = by (slice_get files i)
  where
    by : (file : Option (List ℕ)) → option_and_then (λ (file : List ℕ). option_and_then (λ (symbol : ℕ). name_in symbol file) (fault_symbol fault)) file ≡ None
    by None = refl
    by (Some file) = ap (λ s. option_and_then (λ (symbol : ℕ). name_in symbol file) s) is

line_without_name : (files : List (List ℕ)) (i : ℕ) (fault : Fault) → fault_symbol fault ≡ None → err_line files (link_outcome (Object i fault)) ≡ line (refusal_text i fault ++ [])
line_without_name files i fault is = ap (λ name. line (refusal_text i fault ++ after_space name)) (no_name files i fault is)

-- a fault that names no symbol
pub names_none : (fault : LinkFault) → IsNameless fault → NamesNothing (link_outcome fault)
names_none OutOfMemory none = λ files. refl
names_none (Object index fault) none = λ files. line_without_name files index fault none ∙ sym (line_without_name [] index fault none)

pub names_nothing : (inputs : Inputs) (fault : LinkFault) → gather_fault inputs ≡ None → IsRefusal (first_fault inputs) fault → NamesNothing (link_outcome fault)
names_nothing inputs OutOfMemory gathered is = names_none OutOfMemory tt
names_nothing inputs (Object index fault) gathered is =
    names_none (Object index fault) (subst (λ o. HasNoName fault_of o) is (first_nameless inputs gathered))

-- a line that names nothing is the same for any files
pub names_in_none : (outcome : Outcome) (left files : List (List ℕ)) → NamesNothing outcome → err_line left outcome ≡ err_line files outcome
names_in_none outcome left files nothing = nothing left ∙ sym (nothing files)
