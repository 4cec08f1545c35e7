use Rattle.std.proofs.Common.{◌≡◌, List, Ok, refl, subst}
use Rattle.std.specs.Borrow.{Bor}
use Rattle.clap.specs.Words.{Text}
use Rattle.command_words.specs.Table.{asked_names, folders_names, several_names}
use Rattle.session_commands.specs.Texts.{WritesSession}
use Rattle.text_access.specs.Names.{names_of}
use Rattle.commands.proofs.Done.{bare_done, folders_done, job_done, several_done}
use Rattle.commands.proofs.program.grant.Goals as goal

pub returns-in-None : goal.returns-in-None
returns-in-None g c =
    let done = c.perform-done in
    rw c.in-None.is (bare_done _ _ _ _ _ _ _ _ _ done.result c.settle.result done.ensures.few (rw c.bare_job.ensures at done.ensures.told) (rw c.bare_job.ensures at done.ensures.lines) done.ensures.kept done.ensures.gains c.settle.ensures.settled c.settle.ensures.gains)

pub returns-in-Some-Job : goal.returns-in-Some-Job
returns-in-Some-Job g c =
    let done = c.perform-done-in-Some-Job in
    rw (c.in-Some-Job.is, c.in-Some-Job.field-0-is) (job_done _ _ _ _ _ _ _ _ _ done.result c.settle-in-Some-Job.result (asked_names c.in-Some-Job.job) done.ensures.few done.ensures.told done.ensures.lines done.ensures.kept done.ensures.gains c.settle-in-Some-Job.ensures.settled c.settle-in-Some-Job.ensures.gains)

pub returns-in-Some-Several : goal.returns-in-Some-Several
returns-in-Some-Several g c =
    let done = c.asked_several-done in
    rw (c.in-Some-Several.is, c.in-Some-Several.field-0-is) (several_done _ _ _ _ _ _ _ _ _ done.result c.settle-in-Some-Several.result (several_names c.in-Some-Several.several) done.ensures.known done.ensures.unread done.ensures.told refl done.ensures.gains c.settle-in-Some-Several.ensures.settled c.settle-in-Some-Several.ensures.gains)

pub returns-in-Some-Folders : goal.returns-in-Some-Folders
returns-in-Some-Folders g c =
    let texts = c.args.console.now.texts.now in
    let done = c.perform_session-done in
    let folders = c.in-Some-Folders.folders in
    let written = subst (λ (names : List (Bor Text)). done.result ≡ Ok 0 → WritesSession (g.S.TextSource.names_in texts) (g.S.TextSource.bytes_of texts) (names_of names) folders.lacking (g.O.Write.contents c.args.console.now.output) (g.O.Write.contents done.new.console.output)) c.as_slice.ensures.value done.ensures.written in
    rw (c.in-Some-Folders.is, c.in-Some-Folders.field-0-is) (folders_done _ _ _ _ _ _ _ _ _ done.result c.settle-in-Some-Folders.result (folders_names folders) done.ensures.known done.ensures.unread written done.ensures.refused refl done.ensures.gains c.settle-in-Some-Folders.ensures.settled c.settle-in-Some-Folders.ensures.gains)
