-- Thinned logs fit the machine, and are within the limits, where the session is.
use Rattle.std.proofs.Common.{◌≡◌, ℕ, zero, suc, ◌<◌, ◌≤◌, Bool, true, false, List, length, map, Option, Some, None, refl, sym, ap, ◌∙◌, subst, arith}
use Rattle.std.specs.Prelude.{slice_get}
use Rattle.std.specs.List.{AllByRecursion}
use Rattle.std.specs.Option.{option_map}
use Rattle.std.proofs.lemmas.List.{length-map}
use Rattle.std.proofs.lemmas.Option.{slice_get-map}
use Rattle.migration_types.specs.declared.records.LogName.{LogName}
use Rattle.migration_types.specs.declared.records.LogName.TheVariants.{Guest, Source, Link, Lane, Pager}
use Rattle.migration_types.specs.declared.records.SourceRec.{SourceRec}
use Rattle.migration_types.specs.declared.records.SourceRec.TheVariants.{Halted}
use Rattle.migration_types.specs.declared.records.PagerRec.{PagerRec}
use Rattle.migration_types.specs.declared.records.PagerRec.TheVariants.{Fault}
use Rattle.migration_types.specs.Contents.{IsContent}
use Rattle.migration_types.specs.Limits.{limits}
use Rattle.migration_types.specs.Receipts.{Name}
use Rattle.migration_types.specs.Rows.{Consists, row_of, guest_row, source_row, pager_row, source_contents, pager_contents}
use Rattle.migration_types.specs.Sessions.{Recorded, IsSession, HasLog, HasSourceRec, log_length}
use Rattle.audit_model.specs.Fitting.{FieldIsOf, contents_of, Fits, NamesInReach, IsWithinLimits}
use Rattle.audit_model.specs.Windows.{tallied, rank}
use Rattle.audit_model.proofs.Fits.{of_record, session_is}
use Rattle.audit_model.proofs.Ranks.{kept_length}
use Rattle.kept_faults.specs.Thinned.{thin_source, thin_pager, thinned}
use Rattle.kept_faults.proofs.Kept.{aligned_by_length, kept_from}
use Rattle.kept_faults.proofs.Names.{same_mapped}

-- ranks are at most places
pub rank_most : (marks : List Bool) (n : ℕ) → rank marks n ≤ n
rank_most marks zero = omega arith
rank_most marks (suc n) = go (slice_get marks n) (rank_most marks n)
  where
    go : (o : Option Bool) → rank marks n ≤ n → tallied o (rank marks n) ≤ suc n
    go None le = omega (arith, le)
    go (Some true) le = omega (arith, le)
    go (Some false) le = omega (arith, le)

-- what stands in a log with other numbers, without them
mapped_from : {A : Type 0} (f : A → A) (log : List A) (n : ℕ) (y : A) → slice_get (map f log) n ≡ Some y → (x : A) × (slice_get log n ≡ Some x) × (f x ≡ y)
mapped_from {A} f log n y is = go (slice_get log n) refl (sym (slice_get-map f log n) ∙ is)
  where
    go : (o : Option A) → slice_get log n ≡ o → option_map f o ≡ Some y → (x : A) × (slice_get log n ≡ Some x) × (f x ≡ y)
    go None at e = absurd (cc)
    go (Some x) at e = let same : f x ≡ y = cc in (x, at, same)

module _ (marks : List Bool) (s : Recorded) (marked : length marks ≡ length s.guest) where
  -- what holds of each row of the session, whatever records of the guest are named, holds of each row of thinned logs
  rows : (P : Consists → Type 0) → ((i : ℕ) → P (source_row (Halted i)) → P (source_row (Halted (rank marks i)))) → ((i : ℕ) → P (pager_row (Fault i)) → P (pager_row (Fault (rank marks i)))) →
      ((name : Name) (row : Consists) → row_of s name ≡ Some row → P row) → (name : Name) (row : Consists) → row_of (thinned marks s) name ≡ Some row → P row
  rows P halted fault all (Guest, m) row is =
      let f = of_record guest_row (thinned marks s).guest m row is in
      let g = kept_from marks s.guest m f.0 f.1 in
      subst P f.2 (all (Guest, g.0) (guest_row f.0) (ap (option_map guest_row) g.1))
  rows P halted fault all (Source, m) row is =
      let f = of_record source_row (thinned marks s).source m row is in
      let g = mapped_from (thin_source marks) s.source m f.0 f.1 in
      subst P f.2 (subst (λ (y : SourceRec). P (source_row y)) g.2 (new g.0 (all (Source, m) (source_row g.0) (ap (option_map source_row) g.1))))
    where
      new : (x : SourceRec) → P (source_row x) → P (source_row (thin_source marks x))
      new (Halted i) h = halted i h
      new x h = h
  rows P halted fault all (Link, m) row is = all (Link, m) row is
  rows P halted fault all (Lane, m) row is = all (Lane, m) row is
  rows P halted fault all (Pager, m) row is =
      let f = of_record pager_row (thinned marks s).pager m row is in
      let g = mapped_from (thin_pager marks) s.pager m f.0 f.1 in
      subst P f.2 (subst (λ (y : PagerRec). P (pager_row y)) g.2 (new g.0 (all (Pager, m) (pager_row g.0) (ap (option_map pager_row) g.1))))
    where
      new : (x : PagerRec) → P (pager_row x) → P (pager_row (thin_pager marks x))
      new (Fault i) h = fault i h
      new x h = h

  pub fits_thin : Fits s → Fits (thinned marks s)
  fits_thin fits = record {
    init = fits.init;
    logs = λ name row is. has_log name row is;
    source = λ m y is. has_source m y is;
    fields = rows (λ row. AllByRecursion (FieldIsOf s.version s.geometry) row.fields) (λ i h. h) (λ i h. h) fits.fields;
    contents = λ name content is. contents name content is;
  }
    where
      has_log : (name : Name) (row : Consists) → row_of (thinned marks s) name ≡ Some row → HasLog s.version name.0
      has_log (Guest, m) row is = tt
      has_log (Source, m) row is = tt
      has_log (Link, m) row is = tt
      has_log (Lane, m) row is = fits.logs (Lane, m) row is
      has_log (Pager, m) row is = tt

      has_source : (m : ℕ) (y : SourceRec) → slice_get (thinned marks s).source m ≡ Some y → HasSourceRec s.geometry.size y
      has_source m y is =
          let g = mapped_from (thin_source marks) s.source m y is in
          subst (HasSourceRec s.geometry.size) g.2 (still g.0 (fits.source m g.0 g.1))
        where
          still : (x : SourceRec) → HasSourceRec s.geometry.size x → HasSourceRec s.geometry.size (thin_source marks x)
          still (Halted i) h = tt
          still x h = h

      source_same : (x : SourceRec) → source_contents (thin_source marks x) ≡ source_contents x
      source_same (Halted i) = refl
      source_same x = refl

      pager_same : (x : PagerRec) → pager_contents (thin_pager marks x) ≡ pager_contents x
      pager_same (Fault i) = refl
      pager_same x = refl

      contents : (name : Name) (content : List ℕ) → contents_of (thinned marks s) name ≡ Some content → IsContent s.geometry.cells content
      contents (Source, m) content is = fits.contents (Source, m) content (sym (same_mapped (thin_source marks) source_contents source_contents source_same s.source m) ∙ is)
      contents (Pager, m) content is = fits.contents (Pager, m) content (sym (same_mapped (thin_pager marks) pager_contents pager_contents pager_same s.pager m) ∙ is)
      contents (Guest, m) content is = absurd (cc)
      contents (Link, m) content is = absurd (cc)
      contents (Lane, m) content is = absurd (cc)

  within_thin : IsWithinLimits s → IsWithinLimits (thinned marks s)
  within_thin within = record {
    size = record { size = within.size.size; extent = within.size.extent; few = λ l. few l };
    numbers = rows (λ row. AllByRecursion (NamesInReach s.geometry.size) row.fields) (λ i h. (less i h.0, tt)) (λ i h. (less i h.0, tt)) within.numbers;
  }
    where
      less : (i : ℕ) → i < (limits s.geometry.size).records → rank marks i < (limits s.geometry.size).records
      less i lt = let le = rank_most marks i in omega (arith, le, lt)

      few : (l : LogName) → log_length (thinned marks s) l ≤ (limits s.geometry.size).records
      few Guest = let all = kept_length marks s.guest (aligned_by_length marks s.guest marked) in let le = rank_most marks (length s.guest) in let most = within.size.few Guest in omega (arith, all, le, most)
      few Source = let all = length-map s.source (thin_source marks) in let most = within.size.few Source in omega (arith, all, most)
      few Link = within.size.few Link
      few Lane = within.size.few Lane
      few Pager = let all = length-map s.pager (thin_pager marks) in let most = within.size.few Pager in omega (arith, all, most)

  pub session_thin : IsSession s → IsSession (thinned marks s)
  session_thin session =
      let parts = (session_is s).0 session in
      (session_is (thinned marks s)).1 (fits_thin parts.0, within_thin parts.1)
