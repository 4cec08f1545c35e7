use Rattle.std.proofs.Common.{◌≡◌, [], Some, None, IfSome, subst, sym}
use Rattle.command_words.specs.declared.requests.Targets.{Targets}
use Rattle.command_words.specs.Words.{target_names}
use Rattle.text_access.specs.Names.{files_of}
use Rattle.commands.specs.Runs.{AreFiles, IsMadeAndPut, IsRunOver}
use Rattle.commands.specs.Saving.{IsSaved, name_of}
use Rattle.commands.proofs.Put.{made_and_put, own_zero, put_fault}
use Rattle.commands.proofs.WholeFolders.{shown_of_folders}
use Rattle.commands.proofs.outputs.run_into.Goals as goal

pub returns-clause-fault : goal.returns-clause-fault
returns-clause-fault g c = put_fault c.run-made.result c.put-status.result _ _ _ c.run-made.ensures.done.gains.1 c.run-made.ensures.done.fault c.put-status.ensures.status

pub returns-clause-put : goal.returns-clause-put
returns-clause-put g c = λ known.
    let files = files_of (g.D.TextSource.bytes_of c.args.console.texts.now.disk) (g.D.TextSource.names_in c.args.console.texts.now.disk) in
    let theirs : AreFiles c.args.reading c.targets-targets.result = record { accepted = c.targets-targets.ensures.accepted; bare = c.targets-targets.ensures.bare; refused = c.targets-targets.ensures.refused } in
    subst (λ account. IfSome (g.A.Account.written account) (λ text. IsMadeAndPut (IsRunOver c.args.reading files (g.I.Read.remaining c.args.console.input) None (Some [], g.E.Write.contents c.args.console.errors)) (AreFiles c.args.reading) (g.S.TextSink.named c.args.sink.now, g.O.Write.contents c.args.console.output) (g.S.TextSink.named c.put-status.new.sink, g.O.Write.contents c.put-status.new.output) (g.E.Write.contents c.put-status.new.errors) c.put-status.result)) c.new.ensures
    (made_and_put (λ before. IsRunOver c.args.reading files (g.I.Read.remaining c.args.console.input) None (before, g.E.Write.contents c.args.console.errors)) (AreFiles c.args.reading) c.targets-targets.result (g.S.TextSink.named c.args.sink.now, g.O.Write.contents c.args.console.output) (g.S.TextSink.named c.put-status.new.sink, g.O.Write.contents c.put-status.new.output) (g.E.Write.contents c.run-made.new.console.errors) (g.E.Write.contents c.put-status.new.errors) c.run-made.new.lines c.run-made.result c.put-status.result
    (λ text. c.into_pieces.result.fault ≡ None → IsSaved g.S.TextSink.draft_of (name_of c.into_pieces.result.name) c.into_pieces.result.draft c.into_pieces.result.held.items text)
    (name_of c.into_pieces.result.name) g.A.Account.name (g.A.Account.written c.new.result.account) (g.A.Account.written c.run-made.new.console.output.account) theirs
    (subst (λ account. IfSome (g.A.Account.written account) (λ text. (text ≡ []) × ((targets : Targets) → AreFiles c.args.reading targets → (target_names targets).1 ≡ g.A.Account.name))) (sym c.new.ensures) c.requires)
    c.run-made.ensures.done.gains.0
    c.run-made.ensures.done
    c.into_pieces.ensures.named (c.into_pieces.ensures.whole known)
    (λ answer whole. (c.put-status.ensures.put known answer whole, c.put-status.ensures.left known answer whole))
    c.put-status.ensures.status)

pub returns-clause-folders : goal.returns-clause-folders
returns-clause-folders g c = λ zero. shown_of_folders _ _ _ (c.run-made.ensures.headlines (own_zero c.run-made.result c.put-status.result _ _ c.put-status.ensures.status zero))
