use Rattle.std.proofs.Common.{List, ℕ, ◌∷◌, [], ◌++◌, get_or, ap, sym, ◌∙◌, arith}
use Rattle.migration_types.specs.declared.cert.Entry.TheVariants.{Nothing}
use Rattle.cert_text.specs.Grammar.{entry_line}
use Rattle.cert_text.proofs.Written.{entry_written}
use Rattle.cert_text.proofs.entry_lines.push_entries.Goals as goal

pub loop-page-preserved : goal.loop-page-preserved
loop-page-preserved c =
    let page = c.loop-page.page in
    c.in_ok-push_entry.ensures
    ∙ (ap (λ (t : List ℕ). t ++ (entry_line page (get_or c.args.entries.now page Nothing) ++ 10 ∷ [])) c.loop-page.invariant
    ∙ sym (entry_written c.args.out.now.items c.args.entries.now page Nothing (omega arith)))
