-- The file can't be had, or it is refused, or its listing is written. No line names anything, so it is the same for any files.
use Rattle.std.proofs.Common.{◌≡◌, [], ◌∷◌, Some, None, rules, refl, sym, inl, inr, subst}
use Rattle.elf32_read.specs.Image.{image_fault}
use Rattle.zc_outside.specs.World.{world}
use Rattle.zcld.specs.List.{IsListing, list_wanted}
use Rattle.zcld.specs.Puts.{PutsInTurn, text_alone}
use Rattle.zcld.specs.Run.{image_refusal}
use Rattle.zcld.specs.Task.{UnreadCause}
use Rattle.zcld.proofs.ListFacts.{image_names_nothing}
use Rattle.zcld.proofs.Refusals.{names_in_none, unread}
use Rattle.zcld.proofs.list.list.Goals as goal

pub returns-in-Err : goal.returns-in-Err
returns-in-Err g c = λ left. record {
  files = left;
  line = refl;
  does = inl (record {
    only = record { shelf = c.read_file.ensures.reads; desk = refl };
    cause =
        unread (list_wanted c.args.args.image.now) (g.S.Store.shown c.args.store.now) (g.S.Store.shown c.read_file.new.store) c.in-Err.fault c.from.result c.from.ensures c.in-Err.ensures.cause;
  });
}

pub returns : goal.returns
returns g c = λ left.
    let file = c.in-Ok.file.items in
    let outcome = c.in-Err-listing.outcome in
    elim c.in-Err-listing.ensures.err [
      | inl refused ↦ record {
        files = file ∷ [];
        line = names_in_none outcome left (file ∷ []) (image_names_nothing (image_fault c.as_slice.result.now c.args.args.map) outcome refused);
        does = inr (inl (record {
          only = record { shelf = c.read_file.ensures.reads; desk = refl };
          read = search rules;
          refused = subst (λ f. image_refusal c.args.args.map f ≡ Some outcome) c.as_slice.ensures.value refused;
        }));
      }
      | inr memory ↦ record {
        files = left;
        line = refl;
        does = inl (record {
          only = record { shelf = c.read_file.ensures.reads; desk = refl };
          cause = subst (λ o. UnreadCause (list_wanted c.args.args.image.now) (g.S.Store.shown c.args.store.now) (g.S.Store.shown c.read_file.new.store) o) (sym memory) tt;
        });
      }
    ]

pub returns-in-Ok-listing : goal.returns-in-Ok-listing
returns-in-Ok-listing g c = λ left.
    let file = c.in-Ok.file.items in
    let text = c.in-Ok-listing.text.items in
    let shelf = g.S.Store.shown c.read_file.new.store in
    let between = world shelf (g.C.Console.shown c.args.console.now) in
    let after = world shelf (g.C.Console.shown c.print_text.new.console) in
    record {
      files = file ∷ [];
      line = names_in_none c.print_text.result left (file ∷ []) c.print_text.ensures.line;
      does = inr (inr (record {
        between = between;
        only = record { shelf = c.read_file.ensures.reads; desk = refl };
        read = search rules;
        accepted = subst (λ f. image_refusal c.args.args.map f ≡ None) c.as_slice.ensures.value c.in-Ok-listing.ensures.accepted;
        work = inr (record {
          text = text;
          listing = subst (λ f. IsListing f text) c.as_slice.ensures.value c.in-Ok-listing.ensures.ok;
          printed = subst (λ t. PutsInTurn c.print_text.result (text_alone t) between after) c.as_slice-in-Ok-listing.ensures.value (c.print_text.ensures.done shelf);
          shelf = refl;
          desk = c.print_text.ensures.writes;
        });
      }));
    }
