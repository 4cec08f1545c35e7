use Rattle.std.proofs.Common.{refl}
use Rattle.clap.specs.Words.{Text}
use Rattle.command_words.specs.declared.requests.Request.{Request}
use Rattle.command_words.specs.declared.requests.Request.TheVariants.{Draw}
use Rattle.commands.specs.Told.{EndsAsked}
use Rattle.commands.proofs.Drawn.{told_alone, told_along}
use Rattle.text_access.specs.Names.{files_of}
use Rattle.commands.proofs.answering.asked_draw.Goals as goal

pub returns-in-None-clause-told : goal.returns-in-None-clause-told
returns-in-None-clause-told g c =
    told_alone (Draw c.args.topic c.args.name c.args.further) c.args.topic c.args.name c.args.further
    (λ (a : Request Text). EndsAsked a (files_of (g.S.TextSource.bytes_of c.args.console.now.texts.now) (g.S.TextSource.names_in c.args.console.now.texts.now)) (g.S.TextSource.text_in c.args.console.now.texts.now) (g.I.Read.remaining c.args.console.now.input) (g.O.Write.contents c.args.console.now.output, g.E.Write.contents c.args.console.now.errors) (g.O.Write.contents c.perform_one.new.console.output, g.E.Write.contents c.perform_one.new.console.errors) c.perform_one.result)
    refl c.in-None.is c.perform_one.ensures.told

pub returns-in-Some-clause-told : goal.returns-in-Some-clause-told
returns-in-Some-clause-told g c =
    told_along (Draw c.args.topic c.args.name c.args.further) c.args.topic c.args.name c.in-Some.second c.args.further
    (λ (a : Request Text). EndsAsked a (files_of (g.S.TextSource.bytes_of c.args.console.now.texts.now) (g.S.TextSource.names_in c.args.console.now.texts.now)) (g.S.TextSource.text_in c.args.console.now.texts.now) (g.I.Read.remaining c.args.console.now.input) (g.O.Write.contents c.args.console.now.output, g.E.Write.contents c.args.console.now.errors) (g.O.Write.contents c.perform_two.new.console.output, g.E.Write.contents c.perform_two.new.console.errors) c.perform_two.result)
    refl c.in-Some.is c.perform_two.ensures.told
