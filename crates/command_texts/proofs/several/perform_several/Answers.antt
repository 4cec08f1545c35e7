use Rattle.std.proofs.Common.{◌≡◌, ℕ, List, sym}
use Rattle.std.proofs.lemmas.List.{length-map}
use Rattle.std.specs.Borrow.{Bor}
use Rattle.command_texts.specs.Several.{IsListStatus, TellsOneUnread, style_of}
use Rattle.text_access.specs.Names.{names_of}
use Rattle.text_access.proofs.Fronts.{both_gain}
use Rattle.command_texts.proofs.Listed.{same_status, several_ends}
use Rattle.command_texts.proofs.several.perform_several.Goals as goal

pub returns-clause-known : goal.returns-clause-known
returns-clause-known g c = same_status IsListStatus c.in_ok-well.status c.write_end.result c.write_end.ensures.status c.in_ok-well.ensures.known

pub returns-clause-unread : goal.returns-clause-unread
returns-clause-unread g c = same_status (λ (s : ℕ). s ≡ 3 → TellsOneUnread (g.E.Write.contents c.args.console.now.errors) (g.E.Write.contents c.list_each.new.console.errors)) c.in_ok-well.status c.write_end.result c.write_end.ensures.status c.in_ok-well.ensures.unread

pub returns-clause-told : goal.returns-clause-told
returns-clause-told g c =
    several_ends _ _ _ _ _ (style_of c.args.listing) (names_of c.args.names.now) (g.O.Write.contents c.args.console.now.output, g.E.Write.contents c.args.console.now.errors) (g.O.Write.contents c.list_each.new.console.output, g.E.Write.contents c.list_each.new.console.errors) _ c.in_ok-well.well _ c.in_ok-well.status c.write_end.result c.in_ok-well.ensures.listed (sym (length-map c.args.names.now (λ (name : Bor (List ℕ)). name.now))) c.write_end.ensures.status c.write_end.ensures.text c.write_end.ensures.stop c.write_end.ensures.gains

pub returns-clause-gains : goal.returns-clause-gains
returns-clause-gains g c =
    let before = c.in_ok-well.ensures.gains in
    (both_gain _ _ _ before.0 c.write_end.ensures.gains, before.1)
