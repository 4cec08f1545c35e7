use Rattle.std.proofs.Common.{inl, inr, sym, ◌∙◌}
use Rattle.std.proofs.lemmas.Option.{MatchOption-at_none, MatchOption-at_some}
use Rattle.session_story.specs.Explained.{IsExplained, IsUnexplained}
use Rattle.session_story.proofs.faults.cause_of.Goals as goal

pub returns-in-Some : goal.returns-in-Some
returns-in-Some c =
    let s = c.args.session.now in
    let page = c.args.page.now.page in
    record {
      reads = sym c.is_read.ensures ∙ c.if-not-is_read.false;
      wrong = inl (MatchOption-at_some (IsUnexplained s c.args.place page) (IsExplained s c.args.place page) c.in-Some.cause c.in-Some.is c.in_ok-cause.ensures);
    }

pub returns-in_ok-left_of-in-None : goal.returns-in_ok-left_of-in-None
returns-in_ok-left_of-in-None c =
    let s = c.args.session.now in
    let page = c.args.page.now.page in
    record {
      reads = sym c.is_read.ensures ∙ c.if-not-is_read.false;
      wrong = inr (MatchOption-at_none (IsUnexplained s c.args.place page) (IsExplained s c.args.place page) c.in-None.is c.in_ok-cause.ensures, c.in_ok-left_of-in-None.ensures);
    }
