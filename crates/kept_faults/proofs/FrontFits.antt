-- Logs that are cut fit the machine, and are within the limits, where the session is.
use Rattle.std.proofs.Common.{◌≡◌, ℕ, ◌≤◌, List, take, Option, Some, None, refl, ap, ◌∙◌, arith}
use Rattle.std.specs.Prelude.{slice_get}
use Rattle.std.specs.Option.{option_map}
use Rattle.std.proofs.lemmas.List.{length-take}
use Rattle.migration_types.specs.declared.records.LogName.{LogName}
use Rattle.migration_types.specs.declared.records.LogName.TheVariants.{Guest, Source, Link, Lane, Pager}
use Rattle.migration_types.specs.Receipts.{Name}
use Rattle.migration_types.specs.Rows.{Consists, row_of, guest_row, source_row, link_row, lane_row, pager_row, source_contents, pager_contents}
use Rattle.migration_types.specs.Sessions.{Recorded, IsSession, log_length}
use Rattle.audit_model.specs.Names.{if_there}
use Rattle.audit_model.specs.Fitting.{contents_of, Fits, IsWithinLimits}
use Rattle.audit_model.specs.Mergings.{Cursors}
use Rattle.audit_model.proofs.Fits.{of_record, session_is}
use Rattle.recorder_files.specs.Fronts.{cut_to}
use Rattle.kept_faults.proofs.Taken.{taken_is}

row_taken : {A : Type 0} (row_by : A → Consists) (k : ℕ) (log : List A) (n : ℕ) (row : Consists) → option_map row_by (slice_get (take k log) n) ≡ Some row → option_map row_by (slice_get log n) ≡ Some row
row_taken row_by k log n row is =
    let f = of_record row_by (take k log) n row is in
    let r = taken_is k log n f.0 f.1 in
    ap (option_map row_by) r.1 ∙ ap (λ (x : Consists). Some x) f.2

contents_taken : {A : Type 0} (contents_by : A → Option (List ℕ)) (k : ℕ) (log : List A) (n : ℕ) (content : List ℕ) → if_there contents_by (slice_get (take k log) n) ≡ Some content → if_there contents_by (slice_get log n) ≡ Some content
contents_taken {A} contents_by k log n content is = go (slice_get (take k log) n) refl is
  where
    go : (o : Option A) → slice_get (take k log) n ≡ o → if_there contents_by o ≡ Some content → if_there contents_by (slice_get log n) ≡ Some content
    go None at e = absurd (cc)
    go (Some x) at e = let r = taken_is k log n x at in ap (if_there contents_by) r.1 ∙ e

module _ (c : Cursors) (s : Recorded) where
  row_was : (name : Name) (row : Consists) → row_of (cut_to c s) name ≡ Some row → row_of s name ≡ Some row
  row_was (Guest, n) row is = row_taken guest_row (c Guest) s.guest n row is
  row_was (Source, n) row is = row_taken source_row (c Source) s.source n row is
  row_was (Link, n) row is = row_taken link_row (c Link) s.link n row is
  row_was (Lane, n) row is = row_taken lane_row (c Lane) s.lane n row is
  row_was (Pager, n) row is = row_taken pager_row (c Pager) s.pager n row is

  contents_were : (name : Name) (content : List ℕ) → contents_of (cut_to c s) name ≡ Some content → contents_of s name ≡ Some content
  contents_were (Source, n) content is = contents_taken source_contents (c Source) s.source n content is
  contents_were (Pager, n) content is = contents_taken pager_contents (c Pager) s.pager n content is
  contents_were (Guest, n) content is = absurd (cc)
  contents_were (Link, n) content is = absurd (cc)
  contents_were (Lane, n) content is = absurd (cc)

  pub still_fits : Fits s → Fits (cut_to c s)
  still_fits fits = record {
    init = fits.init;
    logs = λ name row is. fits.logs name row (row_was name row is);
    source = λ n r is. fits.source n r (taken_is (c Source) s.source n r is).1;
    fields = λ name row is. fits.fields name row (row_was name row is);
    contents = λ name content is. fits.contents name content (contents_were name content is);
  }

  no_longer : (log : LogName) → log_length (cut_to c s) log ≤ log_length s log
  no_longer Guest = omega (arith, length-take (c Guest) s.guest)
  no_longer Source = omega (arith, length-take (c Source) s.source)
  no_longer Link = omega (arith, length-take (c Link) s.link)
  no_longer Lane = omega (arith, length-take (c Lane) s.lane)
  no_longer Pager = omega (arith, length-take (c Pager) s.pager)

  still_within : IsWithinLimits s → IsWithinLimits (cut_to c s)
  still_within within = record {
    size = record { size = within.size.size; extent = within.size.extent; few = λ log. let most = within.size.few log in let less = no_longer log in omega (arith, most, less) };
    numbers = λ name row is. within.numbers name row (row_was name row is);
  }

  pub still_session : IsSession s → IsSession (cut_to c s)
  still_session session =
      let parts = (session_is s).0 session in
      (session_is (cut_to c s)).1 (still_fits parts.0, still_within parts.1)
