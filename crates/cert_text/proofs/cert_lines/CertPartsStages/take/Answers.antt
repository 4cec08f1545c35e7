use Rattle.std.proofs.Common.{arith, refl}
use Rattle.std.proofs.lemmas.Result.{err_from_is_err_and}
use Rattle.cert_text.specs.declared.cert_lines.CertStage.TheVariants.{Entries}
use Rattle.cert_text.specs.inner.CertDraft.{draft_of}
use Rattle.cert_text.specs.inner.Held.{held_by}
use Rattle.cert_text.proofs.Laws.{live_at, no_run_line, run_taken, entry_came, no_entry_line}
use Rattle.cert_text.proofs.cert_lines.CertPartsStages.take.Goals as goal

pub returns-in_ok-line-in-Entries-clause-ok : goal.returns-in_ok-line-in-Entries-clause-ok
returns-in_ok-line-in-Entries-clause-ok c =
    let i = c.args.self.now in
    let d = draft_of i in
    run_taken c.args.stage d c.line.new.self.version c.line.new.self.size c.line.new.self.lines c.args.line.now c.in-Entries.is c.requires (omega (arith, i.entries.ok.0)) c.in_ok-line-in-Entries.ensures.version c.in_ok-line-in-Entries.ensures.size c.in_ok-line-in-Entries.ensures.ok

pub returns-in_err-line-in-Entries-clause-refused : goal.returns-in_err-line-in-Entries-clause-refused
returns-in_err-line-in-Entries-clause-refused c =
    let p = err_from_is_err_and c.from_residual-in_err-line-in-Entries.result c.from_residual-in_err-line-in-Entries.ensures.1 in
    let i = c.args.self.now in
    let d = draft_of i in
    rw (p.1, p.2) (λ other. no_run_line c.args.stage d (held_by c.args.stage d) c.args.line.now refl c.in-Entries.is c.requires (omega (arith, i.entries.ok.0)) (c.in_err-line-in-Entries.ensures.refused other))

pub returns-in_ok-take_entry-in-Entries-clause-ok : goal.returns-in_ok-take_entry-in-Entries-clause-ok
returns-in_ok-take_entry-in-Entries-clause-ok c =
    let i = c.args.self.now in
    let d = draft_of i in
    let count = (live_at c.args.stage Entries d c.in-Entries.is c.requires).count in
    entry_came c.args.stage d c.version-version.result c.size-else-len-self.result c.args.line.now c.take_entry.new.entries.items c.version-version.ensures c.size-else-len-self.ensures c.in-Entries.is c.requires (omega (arith, i.entries.ok.0)) c.in_ok-take_entry-in-Entries.ensures.ok

pub returns-in_err-take_entry-in-Entries-clause-refused : goal.returns-in_err-take_entry-in-Entries-clause-refused
returns-in_err-take_entry-in-Entries-clause-refused c =
    let p = err_from_is_err_and c.from_residual-in_err-take_entry-in-Entries.result c.from_residual-in_err-take_entry-in-Entries.ensures.1 in
    let i = c.args.self.now in
    let d = draft_of i in
    let count = (live_at c.args.stage Entries d c.in-Entries.is c.requires).count in
    rw (p.1, p.2) (λ other. no_entry_line c.args.stage d c.version-version.result c.size-else-len-self.result c.args.line.now c.version-version.ensures c.size-else-len-self.ensures c.in-Entries.is c.requires (omega (arith, i.entries.ok.0)) (c.in_err-take_entry-in-Entries.ensures.refused other))
