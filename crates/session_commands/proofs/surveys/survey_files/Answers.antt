use Rattle.walked_sessions.proofs.Pieces.{any_ok}
use Rattle.session_commands.proofs.Surveying.{a_name, all_surveyed, next_logs}
use Rattle.session_commands.proofs.surveys.survey_files.Goals as goal

pub loop-file-init : goal.loop-file-init
loop-file-init g c = λ name named begun. begun name

pub loop-file-preserved : goal.loop-file-preserved
loop-file-preserved g c = λ name named begun.
    let under = c.in_ok-survey_file.ensures name named in
    next_logs (g.S.TextSource.bytes_of c.args.texts.now) name c.args.files.now c.loop-file.file-index c.file-item.result c.loop-file.logs c.survey_file.new.logs c.loop-file-test.true c.file-item.is (c.loop-file.invariant name under.0 begun) under.1

pub returns : goal.returns
returns g c = any_ok c.check_names.result (λ folders begun found.
    let held = a_name c.loop-file.recording in
    all_surveyed (g.S.TextSource.names_in c.args.texts.now) (g.S.TextSource.bytes_of c.args.texts.now) held.0 folders c.args.files.now c.loop-file.file-index c.loop-file.logs c.loop-file-test.false (c.loop-file.invariant held.0 held.1 begun) found)
