use Rattle.command_texts.specs.Several.{style_of}
use Rattle.text_access.proofs.Fronts.{same_gains}
use Rattle.command_texts.proofs.Listed.{few_listed, few_read, named_anyhow, unread_known, unread_listed, unread_there}
use Rattle.text_access.specs.Names.{files_of}
use Rattle.command_texts.proofs.several.list_one.Goals as goal

pub returns-in-Ok-clause-listed : goal.returns-in-Ok-clause-listed
returns-in-Ok-clause-listed g c =
    let n = c.in-Ok.ensures.named in
    c.list_found.ensures.listed n.0 n.3.0 (named_anyhow c.args.name.now (files_of (g.S.TextSource.bytes_of c.args.console.now.texts.now) (g.S.TextSource.names_in c.args.console.now.texts.now)) (g.C.Text.Taker.taken_in (g.S.TextSource.text_in c.args.console.now.texts.now)) _ n.0 n.1) n.2 n.3.1 n.3.2

pub returns-in-Ok-clause-known : goal.returns-in-Ok-clause-known
returns-in-Ok-clause-known g c = let n = c.in-Ok.ensures.named in few_listed c.list_found.result (c.list_found.ensures.few n.0 n.2)

pub returns-in-Ok-clause-unread : goal.returns-in-Ok-clause-unread
returns-in-Ok-clause-unread g c = let n = c.in-Ok.ensures.named in few_read _ c.list_found.result (c.list_found.ensures.few n.0 n.2)

pub returns-in-Err-clause-listed : goal.returns-in-Err-clause-listed
returns-in-Err-clause-listed g c = unread_listed _ _ _ _ _ (style_of c.args.listing) c.args.name.now (g.O.Write.contents c.args.console.now.output, g.E.Write.contents c.args.console.now.errors) _ c.list_unread.result c.list_unread.ensures.told

pub returns-in-Err-clause-known : goal.returns-in-Err-clause-known
returns-in-Err-clause-known g c = unread_known _ c.list_unread.result c.list_unread.ensures.told

pub returns-in-Err-clause-unread : goal.returns-in-Err-clause-unread
returns-in-Err-clause-unread g c = unread_there _ c.list_unread.result c.list_unread.ensures.told

pub returns-in-Err-clause-gains : goal.returns-in-Err-clause-gains
returns-in-Err-clause-gains g c = (same_gains _, c.list_unread.ensures.gains)
