use Rattle.std.proofs.Common.{ℕ, Option, Some, None, MatchOption}
use Rattle.migration_types.specs.declared.records.LogName.TheVariants.{Guest, Source, Link, Lane, Pager}
use Rattle.migration_types.specs.Receipts.{Name}
use Rattle.migration_types.specs.Sessions.{Recorded}
use Rattle.session_story.specs.Places.{HasNoneOf, HasNoRecord, IsAtLineOf}
use Rattle.session_story.proofs.Absent.{none_of}
use Rattle.session_story.proofs.lines.record_on.Goals as goal

module _ (s : Recorded) (line : ℕ) (guest : HasNoneOf s line Guest) (source : HasNoneOf s line Source) (link : HasNoneOf s line Link) (lane : HasNoneOf s line Lane) where
  -- no log has a record there
  of_all : HasNoneOf s line Pager → HasNoRecord s line
  of_all pager Guest = guest
  of_all pager Source = source
  of_all pager Link = link
  of_all pager Lane = lane
  of_all pager Pager = pager

  at_last : (o : Option Name) → MatchOption o (HasNoneOf s line Pager) (λ name. IsAtLineOf s name.0 line name.1) → MatchOption o (HasNoRecord s line) (λ name. IsAtLineOf s name.0 line name.1)
  at_last None is = of_all is
  at_last (Some name) is = is

pub returns : goal.returns
returns c =
    let s = c.args.session.now in
    let line = c.args.line in
    let stands = λ (name : Name). IsAtLineOf s name.0 line name.1 in
    let guest = none_of stands c.record_in.result c.record_in.ensures c.in_default.not-Some in
    let source = none_of stands c.record_in-2.result c.record_in-2.ensures c.in_default-record_in.not-Some in
    let link = none_of stands c.record_in-3.result c.record_in-3.ensures c.in_default-record_in-2.not-Some in
    let lane = none_of stands c.record_in-4.result c.record_in-4.ensures c.in_default-record_in-3.not-Some in
    at_last s line guest source link lane c.record_in-5.result c.record_in-5.ensures
