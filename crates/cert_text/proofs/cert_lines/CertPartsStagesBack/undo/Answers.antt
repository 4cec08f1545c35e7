use Rattle.std.proofs.Common.{arith, refl}
use Rattle.cert_text.specs.inner.CertDraft.{draft_of}
use Rattle.cert_text.specs.inner.Held.{held_by}
use Rattle.cert_text.proofs.Back.{entry_undone, live_undone, none_from_length}
use Rattle.cert_text.proofs.cert_lines.CertPartsStagesBack.undo.Goals as goal

pub returns-else-not-drop_entry-clause-back : goal.returns-else-not-drop_entry-clause-back
returns-else-not-drop_entry-clause-back c =
    let i = c.args.self.now in
    entry_undone c.args.stage i.runs.version i.runs.size i.pages i.entries.items c.drop_entry.new.entries.items i.runs.lines (held_by c.args.stage (draft_of i)) refl c.in-Entries.is (none_from_length i.runs.lines (omega (arith, c.count.ensures, c.if-count-gt0.false))) c.if-not-drop_entry.ensures

pub returns-else-not-drop_entry-clause-live : goal.returns-else-not-drop_entry-clause-live
returns-else-not-drop_entry-clause-live c =
    let i = c.args.self.now in
    live_undone c.args.stage i.runs.version i.runs.size i.pages i.entries.items c.drop_entry.new.entries.items i.runs.lines c.requires.live c.in-Entries.is (none_from_length i.runs.lines (omega (arith, c.count.ensures, c.if-count-gt0.false))) c.if-not-drop_entry.ensures
