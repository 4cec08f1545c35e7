use Rattle.std.proofs.Common.{arith, refl}
use Rattle.cert_text.specs.declared.cert_lines.CertStage.TheVariants.{Entries}
use Rattle.cert_text.specs.inner.CertDraft.{draft_of}
use Rattle.cert_text.specs.inner.Held.{held_by}
use Rattle.cert_text.proofs.Laws.{live_at}
use Rattle.cert_text.proofs.Back.{lines_came}
use Rattle.cert_text.proofs.cert_lines.CertPartsStagesBack.count.Goals as goal

pub overflow_add-result : goal.overflow_add-result
overflow_add-result c =
    let i = c.args.self.now in
    let f = live_at c.args.stage Entries (draft_of i) c.in-Entries.is c.requires in
    let count = f.count in
    let few = f.few_pages in
    omega (arith, i.entries.ok.0, c.few.ensures, c.count.ensures)

pub overflow_add-result-in-Entries : goal.overflow_add-result-in-Entries
overflow_add-result-in-Entries c =
    let i = c.args.self.now in
    let f = live_at c.args.stage Entries (draft_of i) c.in-Entries.is c.requires in
    let count = f.count in
    let few = f.few_pages in
    omega (arith, i.entries.ok.0, c.few.ensures, c.count.ensures)

pub returns-in-Entries : goal.returns-in-Entries
returns-in-Entries c =
    let i = c.args.self.now in
    let long = lines_came c.args.stage (draft_of i) (held_by c.args.stage (draft_of i)) refl c.in-Entries.is in
    omega (arith, i.entries.ok.0, c.count.ensures)
