use Rattle.std.proofs.Common.{[], ◌∷◌, ◌∙◌, Option, subst, sym}
use Rattle.std.specs.Prelude.{IfSome}
use Rattle.text_access.specs.Names.{files_of}
use Rattle.text_access.proofs.Fronts.{both_gain}
use Rattle.session_commands.specs.Windows.{IsMadeIn}
use Rattle.session_commands.specs.inner.Answered.{IsCutFrom}
use Rattle.session_commands.specs.declared.windowing.Windowed.{Windowed}
use Rattle.session_commands.proofs.Answered.{folder_cut}
use Rattle.session_commands.proofs.windowing.cut_under.Goals as goal

pub returns-in-Ok-Some-clause-cut : goal.returns-in-Ok-Some-clause-cut
returns-in-Ok-Some-clause-cut g c =
    let t = g.S.TextSource in
    let texts = c.args.texts.now in
    let Is = IsMadeIn (t.names_in texts) (t.bytes_of texts) (c.args.name.now ∷ []) in
    let cut = subst (λ (found : Option Windowed). IfSome found (IsCutFrom Is c.args.window)) c.in-Ok-Some.field-0-is c.in-Ok-Some.ensures.cut in
    folder_cut c.args.window c.args.name.now (files_of (t.bytes_of texts) (t.names_in texts)) (t.text_in texts) (g.I.Read.remaining c.args.input.now) c.in-Ok-Some.found (sym c.eq.ensures ∙ c.if-eq.false) cut

pub returns-in-Err-clause-gains : goal.returns-in-Err-clause-gains
returns-in-Err-clause-gains g c = both_gain _ _ _ c.cut_folder.ensures.gains c.unmade.ensures.gains
