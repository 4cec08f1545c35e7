use Rattle.std.proofs.lemmas.Option.{MatchOption-at_none}
use Rattle.session_story.specs.Values.{IsOtherAtHalt}
use Rattle.session_story.specs.declared.values.CellValue.{CellValue}
use Rattle.session_story.proofs.Causing.{not_wrong}
use Rattle.session_story.proofs.faults.given_first.Goals as goal

pub given_right-requires-clause-right : goal.given_right-requires-clause-right
given_right-requires-clause-right c =
    let s = c.args.session.now in
    not_wrong s c.args.read c.args.page.now.page (MatchOption-at_none ((h : CellValue) → IsOtherAtHalt s c.args.read h → ⊥) (IsOtherAtHalt s c.args.read) c.in-None.is c.in_ok-held.ensures)
