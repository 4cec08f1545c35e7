use Rattle.audit_model.specs.World.{IsSafe}
use Rattle.judged_texts.specs.Checked.{SpellsOneSession, OfSpelled}
use Rattle.judged_texts.specs.Audited.{IsUnsafe}
use Rattle.postcopy_c.proofs.Held.{not_incomplete, by_other, by_safe, by_fault, exactly_by_kinds}
use Rattle.postcopy_c.proofs.completing.tell_missing.Goals as goal

pub returns-clause-told : goal.returns-clause-told
returns-clause-told c = (c.tell_shown-shown.result, c.tell_shown-shown.ensures.told, c.held_to_complete.ensures.held)

pub returns-clause-one_session : goal.returns-clause-one_session
returns-clause-one_session c = by_other (SpellsOneSession c.args.session.now) c.tell_shown-shown.result.kind c.held_to_complete.result.kind c.held_to_complete.ensures.kinds c.tell_shown-shown.ensures.one_session

pub returns-clause-safe : goal.returns-clause-safe
returns-clause-safe c = by_safe (OfSpelled c.args.session.now IsSafe) c.tell_shown-shown.result.kind c.held_to_complete.result.kind c.held_to_complete.ensures.kinds
    (not_incomplete _ _ _ _ c.tell_shown-shown.result c.tell_shown-shown.ensures.told) c.tell_shown-shown.ensures.safe

pub returns-clause-exactly : goal.returns-clause-exactly
returns-clause-exactly c = exactly_by_kinds c.args.session.now c.tell_shown-shown.result.kind c.held_to_complete.result.kind c.held_to_complete.ensures.kinds
    (not_incomplete _ _ _ _ c.tell_shown-shown.result c.tell_shown-shown.ensures.told) c.tell_shown-shown.ensures.exactly

pub returns-clause-faulty : goal.returns-clause-faulty
returns-clause-faulty c = by_fault (OfSpelled c.args.session.now IsUnsafe) c.tell_shown-shown.result.kind c.held_to_complete.result.kind c.held_to_complete.ensures.kinds c.tell_shown-shown.ensures.faulty
