use Rattle.std.proofs.Common.{◌≡◌, ℕ, List, Option, Some, None, sym, ap, ◌∙◌}
use Rattle.std.specs.Prelude.{slice_get}
use Rattle.migration_types.specs.declared.records.GuestRec.{GuestRec}
use Rattle.session_story.specs.Scans.{last_before}
use Rattle.session_story.specs.Values.{sets}
use Rattle.session_story.specs.inner.Cells.{set_by}
use Rattle.session_story.proofs.Setting.{value_by, flat_is_set}
use Rattle.session_story.proofs.values.held_at.Goals as goal

pub returns-in-Some-clause-held : goal.returns-in-Some-clause-held
returns-in-Some-clause-held c =
    let s = c.args.session.now in
    let page = c.args.page in
    let cell = c.args.cell in
    let n = c.in-Some.n in
    let by : Some n ≡ last_before (λ m. sets page cell) s.guest c.args.to = c.in-Some.ensures ∙ ap (λ (log : List GuestRec). last_before (λ m. sets page cell) log c.args.to) c.guest-guest.ensures in
    record {
      value = c.set_by-value.ensures ∙ (ap (λ (log : List GuestRec). set_by (slice_get log n)) c.guest-guest.ensures ∙ (ap (λ (o : Option ℕ). value_by s page cell o) by ∙ sym (flat_is_set s page cell c.args.to)));
      by = by;
    }

pub returns-in_ok-value-in-None-clause-held : goal.returns-in_ok-value-in-None-clause-held
returns-in_ok-value-in-None-clause-held c =
    let s = c.args.session.now in
    let page = c.args.page in
    let cell = c.args.cell in
    let by : None ≡ last_before (λ m. sets page cell) s.guest c.args.to = c.in-None.ensures ∙ ap (λ (log : List GuestRec). last_before (λ m. sets page cell) log c.args.to) c.guest-guest.ensures in
    record {
      value = c.in_ok-value-in-None.ensures ∙ (ap (λ (o : Option ℕ). value_by s page cell o) by ∙ sym (flat_is_set s page cell c.args.to));
      by = c.last_of-by.ensures ∙ ap (λ (log : List GuestRec). last_before (λ m. sets page cell) log c.args.to) c.guest-guest.ensures;
    }
