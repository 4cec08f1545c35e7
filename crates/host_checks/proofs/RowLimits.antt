-- Logs whose records are within the limits, by what each record consists of.
use Rattle.std.proofs.Common.{List, [], ◌∷◌, None}
use Rattle.std.specs.Prelude.{◌↔◌}
use Rattle.std.specs.List.{AllByRecursion}
use Rattle.migration_types.specs.declared.version.Version.{Version}
use Rattle.migration_types.specs.declared.session.Logs.{Logs}
use Rattle.migration_types.specs.declared.records.LogName.TheVariants as log
use Rattle.migration_types.specs.declared.records.GuestRec.{GuestRec}
use Rattle.migration_types.specs.declared.records.SourceRec.{SourceRec}
use Rattle.migration_types.specs.declared.records.LinkRec.{LinkRec}
use Rattle.migration_types.specs.declared.records.LaneRec.{LaneRec}
use Rattle.migration_types.specs.declared.records.PagerRec.{PagerRec}
use Rattle.migration_types.specs.Extents.{Extent}
use Rattle.migration_types.specs.Sessions.{HasSourceRec, GuestRecFits, SourceRecFits, LinkRecFits, LaneRecFits, PagerRecFits}
use Rattle.migration_types.specs.Rows.{guest_row, source_row, link_row, lane_row, pager_row, source_contents, pager_contents}
use Rattle.migration_types.specs.Follow.{RowFits}
use Rattle.host_checks.specs.inner.Limits.{AreOfMachine}

all_from : {X : Type 0} (P Q : X → Type 0) → ((x : X) → Q x ↔ P x) → (xs : List X) → AllByRecursion P xs → AllByRecursion Q xs
all_from P Q same [] all = all
all_from P Q same (x ∷ xs) all = ((same x).1 all.0, all_from P Q same xs all.1)

all_both : {X : Type 0} (P Q : X → Type 0) (xs : List X) → AllByRecursion P xs → AllByRecursion Q xs → AllByRecursion (λ x. P x × Q x) xs
all_both P Q [] p q = tt
all_both P Q (x ∷ xs) p q = ((p.0, q.0), all_both P Q xs p.1 q.1)

pub of_rows : (v : Version) (e : Extent) (logs : Logs)
    → ((w : Version) (x : Extent) (r : GuestRec) → GuestRecFits x r ↔ RowFits w x log.Guest (guest_row r) None)
    → ((w : Version) (x : Extent) (r : SourceRec) → SourceRecFits x r ↔ (RowFits w x log.Source (source_row r) (source_contents r) × HasSourceRec x.size r))
    → ((w : Version) (x : Extent) (r : LinkRec) → LinkRecFits x r ↔ RowFits w x log.Link (link_row r) None)
    → ((w : Version) (x : Extent) (r : LaneRec) → LaneRecFits w x r ↔ RowFits w x log.Lane (lane_row r) None)
    → ((w : Version) (x : Extent) (r : PagerRec) → PagerRecFits w x r ↔ RowFits w x log.Pager (pager_row r) (pager_contents r))
    → AllByRecursion (λ r. RowFits v e log.Guest (guest_row r) None) logs.guest
    → AllByRecursion (λ r. RowFits v e log.Source (source_row r) (source_contents r)) logs.source
    → AllByRecursion (λ r. HasSourceRec e.size r) logs.source
    → AllByRecursion (λ r. RowFits v e log.Link (link_row r) None) logs.link
    → AllByRecursion (λ r. RowFits v e log.Lane (lane_row r) None) logs.lane
    → AllByRecursion (λ r. RowFits v e log.Pager (pager_row r) (pager_contents r)) logs.pager
    → AreOfMachine v e logs
of_rows v e logs g s k l p guest source has link lane pager = record {
  guest = all_from (λ r. RowFits v e log.Guest (guest_row r) None) (GuestRecFits e) (g v e) logs.guest guest;
  source =
      all_from (λ r. RowFits v e log.Source (source_row r) (source_contents r) × HasSourceRec e.size r) (SourceRecFits e) (s v e) logs.source
      (all_both (λ r. RowFits v e log.Source (source_row r) (source_contents r)) (λ r. HasSourceRec e.size r) logs.source source has);
  link = all_from (λ r. RowFits v e log.Link (link_row r) None) (LinkRecFits e) (k v e) logs.link link;
  lane = all_from (λ r. RowFits v e log.Lane (lane_row r) None) (LaneRecFits v e) (l v e) logs.lane lane;
  pager = all_from (λ r. RowFits v e log.Pager (pager_row r) (pager_contents r)) (PagerRecFits v e) (p v e) logs.pager pager;
}
