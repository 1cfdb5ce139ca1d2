-- The line that is written is that of the certificate's net. No line names anything, so it is the same for any files.
use Rattle.std.proofs.Common.{◌≡◌, ◌∙◌, [], ◌∷◌, Some, rules, refl, sym, inl, inr, subst}
use Rattle.pick_check.specs.Text.{certificate_in}
use Rattle.zc_outside.specs.World.{world}
use Rattle.zcld.specs.Check.{certificate_refusal, check_line, check_wanted}
use Rattle.zcld.specs.Puts.{PutsInTurn, text_alone}
use Rattle.zcld.specs.Task.{UnreadCause}
use Rattle.zcld.proofs.CheckFacts.{certificate_names_nothing}
use Rattle.zcld.proofs.Refusals.{names_in_none, unread}
use Rattle.zcld.proofs.check.check.Goals as goal

pub returns-in-Err : goal.returns-in-Err
returns-in-Err g c = λ left. record {
  files = left;
  line = refl;
  does = inl (record {
    only = record { shelf = c.read_file.ensures.reads; desk = refl };
    cause =
        unread (check_wanted c.args.cert.now) (g.S.Store.shown c.args.store.now) (g.S.Store.shown c.read_file.new.store) c.in-Err.fault c.from.result c.from.ensures c.in-Err.ensures.cause;
  });
}

pub returns : goal.returns
returns g c = λ left.
    let text = c.in-Ok.text.items in
    let outcome = c.in-Err-accepted_net.outcome in
    elim c.in-Err-accepted_net.ensures.err [
      | inl refused ↦ record {
        files = text ∷ [];
        line = names_in_none outcome left (text ∷ []) (certificate_names_nothing (certificate_in c.as_slice.result.now) outcome refused);
        does = inr (inl (record {
          only = record { shelf = c.read_file.ensures.reads; desk = refl };
          read = search rules;
          refused = subst (λ t. certificate_refusal (certificate_in t) ≡ Some outcome) c.as_slice.ensures.value refused;
        }));
      }
      | inr memory ↦ record {
        files = left;
        line = refl;
        does = inl (record {
          only = record { shelf = c.read_file.ensures.reads; desk = refl };
          cause = subst (λ o. UnreadCause (check_wanted c.args.cert.now) (g.S.Store.shown c.args.store.now) (g.S.Store.shown c.read_file.new.store) o) (sym memory) tt;
        });
      }
    ]

pub returns-in-Ok-accepted_net : goal.returns-in-Ok-accepted_net
returns-in-Ok-accepted_net g c = λ left.
    let text = c.in-Ok.text.items in
    let net = c.in-Ok-accepted_net.net in
    let line : c.as_str.result.now ≡ check_line net = c.as_str.ensures.value ∙ c.numbered_line-line.ensures in
    let shelf = g.S.Store.shown c.read_file.new.store in
    let between = world shelf (g.C.Console.shown c.args.console.now) in
    let after = world shelf (g.C.Console.shown c.print_line.new.console) in
    record {
      files = text ∷ [];
      line = names_in_none c.print_line.result left (text ∷ []) c.print_line.ensures.line;
      does = inr (inr (record {
        between = between;
        only = record { shelf = c.read_file.ensures.reads; desk = refl };
        read = search rules;
        accepted = search rules;
        work = record {
          net = net;
          certifies = search rules;
          printed = subst (λ t. PutsInTurn c.print_line.result (text_alone t) between after) line (c.print_line.ensures.done shelf);
          shelf = refl;
          desk = c.print_line.ensures.writes;
        };
      }));
    }
