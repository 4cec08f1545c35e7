use Rattle.std.proofs.Common.{subst, arith, refl}
use Rattle.migration_types.specs.declared.version.Version.{Version}
use Rattle.migration_types.specs.declared.size.Size.{Size}
use Rattle.cert_text.specs.inner.Taken.{TakesEntries}
use Rattle.cert_text.specs.inner.CertDraft.{draft_of}
use Rattle.cert_text.specs.inner.Held.{held_by}
use Rattle.cert_text.proofs.Laws.{live_at, entries_taken}
use Rattle.cert_text.specs.declared.cert_lines.CertStage.TheVariants.{Entries}
use Rattle.cert_text.proofs.cert_lines.CertParts.lines_by.Goals as goal

pub returns-else-len-self-clause-taken : goal.returns-else-len-self-clause-taken
returns-else-len-self-clause-taken g c =
    let i = c.args.self.now in
    let d = draft_of i in
    let live = live_at c.args.stage Entries d c.in-Entries.is c.requires.live in
    let count = live.count in
    entries_taken c.args.stage d (held_by c.args.stage (draft_of i)) c.take_entries.new.entries.items c.args.bytes.now c.take_entries.result.0.now c.take_entries.result.1 c.in-Entries.is refl c.requires.live (omega (arith, i.entries.ok.0)) (subst (λ (size : Size). TakesEntries i.runs.version size i.entries.items c.take_entries.new.entries.items c.args.bytes.now c.take_entries.result.0.now c.take_entries.result.1) c.size-size.ensures (subst (λ (version : Version). TakesEntries version c.size-size.result i.entries.items c.take_entries.new.entries.items c.args.bytes.now c.take_entries.result.0.now c.take_entries.result.1) c.version-version.ensures c.take_entries.ensures.taken))
