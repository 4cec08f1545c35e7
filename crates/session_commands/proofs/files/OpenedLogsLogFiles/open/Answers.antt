use Rattle.std.proofs.Common.{◌≡◌, ◌∙◌, ℕ, [], List, Option, ◌+◌, arith, sym, subst, length, ap, string_bytes}
use Rattle.std.proofs.lemmas.List.{length-map}
use Rattle.std.proofs.lemmas.Result.{err_from_is_err_and}
use Rattle.recorder_files.specs.Said.{CameTo, Standing}
use Rattle.recorder_files.specs.declared.lines.Party.TheVariants.{Of}
use Rattle.session_commands.specs.Logs.{log_in}
use Rattle.session_commands.specs.declared.found.FoundLog.{FoundLog}
use Rattle.session_commands.specs.Files.{bytes_in}
use Rattle.session_commands.proofs.Firsts.{AreFirst, next_first}
use Rattle.session_commands.proofs.Opened.{all_opened, fault_at}
use Rattle.session_commands.proofs.files.OpenedLogsLogFiles.open.Goals as goal

pub loop-place-preserved : goal.loop-place-preserved
loop-place-preserved g c =
    let bytes = g.S.TextSource.bytes_of c.args.self.now.texts.now in
    let items = (log_in c.args.self.now.logs.now c.args.log).paths.items in
    let same : c.as_slice-paths.result.now ≡ items = c.as_slice-paths.ensures.value ∙ ap (λ (log : FoundLog). log.paths.items) c.log.ensures in
    let R = λ (known : Option (List ℕ)) (s : Standing). CameTo (Of c.args.log) known s [] in
    subst (λ (files : List Standing). AreFirst R (bytes_in bytes c.args.self.now.logs.now c.args.log) (c.loop-place.place + 1) files) (sym c.in-Ok.ensures.items)
    (next_first R bytes (λ path. string_bytes path) items c.as_slice-paths.result.now c.loop-place.place c.index-paths-place.result c.as_str-path.result.now c.loop-place.files.items c.in_ok-file.file same c.loop-place-test.true c.index-paths-place.is c.as_str-path.ensures.value c.loop-place.invariant c.in_ok-file.ensures.opened)

pub returns-clause-opened : goal.returns-clause-opened
returns-clause-opened g c =
    let items = (log_in c.args.self.now.logs.now c.args.log).paths.items in
    let same : c.as_slice-paths.result.now ≡ items = c.as_slice-paths.ensures.value ∙ ap (λ (log : FoundLog). log.paths.items) c.log.ensures in
    all_opened _ _ c.loop-place.place c.loop-place.files.items (omega (arith, length-map items (λ path. g.S.TextSource.bytes_of c.args.self.now.texts.now (string_bytes path)), ap length same, c.loop-place.auto.place-end, c.loop-place-test.false)) c.loop-place.invariant

pub returns-in_err-file-clause-refused : goal.returns-in_err-file-clause-refused
returns-in_err-file-clause-refused g c =
    let bytes = g.S.TextSource.bytes_of c.args.self.now.texts.now in
    let items = (log_in c.args.self.now.logs.now c.args.log).paths.items in
    let same : c.as_slice-paths.result.now ≡ items = c.as_slice-paths.ensures.value ∙ ap (λ (log : FoundLog). log.paths.items) c.log.ensures in
    let p = err_from_is_err_and c.from_residual.result c.from_residual.ensures.1 in
    rw (p.1, p.2) (fault_at (Of c.args.log) bytes (λ path. string_bytes path) items c.as_slice-paths.result.now c.loop-place.place c.index-paths-place.result c.as_str-path.result.now _ same c.loop-place-test.true c.index-paths-place.is c.as_str-path.ensures.value c.in_err-file.ensures.refused)
