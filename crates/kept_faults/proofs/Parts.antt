-- A front of the first records of a session's logs is a front of the session.
use Rattle.std.proofs.Common.{◌≡◌, ◌<◌, ◌≤◌, ap, ◌∙◌, arith}
use Rattle.std.specs.Option.{option_map}
use Rattle.std.proofs.lemmas.List.{length-take, take-take}
use Rattle.migration_types.specs.declared.records.LogName.{LogName}
use Rattle.migration_types.specs.declared.records.LogName.TheVariants.{Guest, Source, Link, Lane, Pager}
use Rattle.migration_types.specs.Receipts.{Name}
use Rattle.migration_types.specs.Rows.{row_of, guest_row, source_row, link_row, lane_row, pager_row}
use Rattle.migration_types.specs.Sessions.{Recorded, log_length}
use Rattle.audit_model.specs.Mergings.{Cursors}
use Rattle.recorder_files.specs.Fronts.{IsFront, cut_to}
use Rattle.kept_faults.proofs.Taken.{taken_at}

module _ (s : Recorded) (d c : Cursors) where
  -- each log has as many records as were taken, or all of them
  lengths : (log : LogName) → (log_length (cut_to d s) log ≤ d log) × (log_length (cut_to d s) log ≤ log_length s log)
  lengths Guest = (omega (arith, length-take (d Guest) s.guest), omega (arith, length-take (d Guest) s.guest))
  lengths Source = (omega (arith, length-take (d Source) s.source), omega (arith, length-take (d Source) s.source))
  lengths Link = (omega (arith, length-take (d Link) s.link), omega (arith, length-take (d Link) s.link))
  lengths Lane = (omega (arith, length-take (d Lane) s.lane), omega (arith, length-take (d Lane) s.lane))
  lengths Pager = (omega (arith, length-take (d Pager) s.pager), omega (arith, length-take (d Pager) s.pager))

  same_row : (name : Name) → name.1 < d name.0 → row_of (cut_to d s) name ≡ row_of s name
  same_row (Guest, n) lt = ap (option_map guest_row) (taken_at (d Guest) s.guest n lt)
  same_row (Source, n) lt = ap (option_map source_row) (taken_at (d Source) s.source n lt)
  same_row (Link, n) lt = ap (option_map link_row) (taken_at (d Link) s.link n lt)
  same_row (Lane, n) lt = ap (option_map lane_row) (taken_at (d Lane) s.lane n lt)
  same_row (Pager, n) lt = ap (option_map pager_row) (taken_at (d Pager) s.pager n lt)

  pub below : IsFront (cut_to d s) c → (log : LogName) → c log ≤ d log
  below front log = let within = front.within log in let le = (lengths log).0 in omega (arith, within, le)

  pub is_front_of_whole : IsFront (cut_to d s) c → IsFront s c
  is_front_of_whole front = record {
    within = λ log. let within = front.within log in let le = (lengths log).1 in omega (arith, within, le);
    there = λ name row is lt.
        let le = below front name.0 in
        front.there name row (same_row name (omega (arith, lt, le)) ∙ is) lt;
  }

  pub cut_again : ((log : LogName) → c log ≤ d log) → cut_to c (cut_to d s) ≡ cut_to c s
  cut_again less =
      let guest = take-take (c Guest) (d Guest) s.guest (less Guest) in
      let source = take-take (c Source) (d Source) s.source (less Source) in
      let link = take-take (c Link) (d Link) s.link (less Link) in
      let lane = take-take (c Lane) (d Lane) s.lane (less Lane) in
      let pager = take-take (c Pager) (d Pager) s.pager (less Pager) in
      λ i. record { version = s.version; geometry = s.geometry; init = s.init; guest = guest i; source = source i; link = link i; lane = lane i; pager = pager i }
