use Rattle.std.proofs.Common.{List, sym, subst}
use Rattle.std.proofs.lemmas.Option.{MatchOption-at_none, MatchOption-at_some}
use Rattle.std.proofs.lemmas.Result.{IfOk-weaker}
use Rattle.page_facts.specs.FaultyPages.{AreFaultyPages}
use Rattle.page_facts.specs.declared.faulty.FaultyPage.{FaultyPage}
use Rattle.session_story.specs.Apart.{AreFaultyApart}
use Rattle.session_story.specs.inner.Touched.{AreNotApart, NoneApart}
use Rattle.session_story.proofs.Untouched.{apart_kept, none_faulty}
use Rattle.session_story.proofs.apart.faulty_apart.Goals as goal

pub returns-in_default : goal.returns-in_default
returns-in_default c =
    let s = c.args.session.now in
    subst (AreFaultyApart s) (sym c.new.ensures.items) (none_faulty s (MatchOption-at_none (NoneApart s) (AreNotApart s) c.in_default.is c.in_ok-marks.ensures))

pub returns : goal.returns
returns c =
    let s = c.args.session.now in
    let pages = c.deref-2.result.now in
    let by = MatchOption-at_some (NoneApart s) (AreNotApart s) c.in-Some.marks c.in-Some.is c.in_ok-marks.ensures in
    let faulty = subst (λ (xs : List FaultyPage). AreFaultyPages s xs) (sym c.deref-2.ensures.value) c.in_ok-faulty.ensures in
    IfOk-weaker c.unmarked.result _ _ (λ kept e. subst (λ (xs : List FaultyPage). AreFaultyApart s xs) (sym e) (apart_kept s c.in-Some.marks pages by faulty)) c.unmarked.ensures
