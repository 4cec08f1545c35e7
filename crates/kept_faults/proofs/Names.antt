-- Names with thinned logs: their logs, their order and their pages.
use Rattle.std.proofs.Common.{◌≡◌, ℕ, ◌<◌, ◌≤◌, ◌⊎◌, inl, inr, Bool, true, false, List, map, Option, Some, None, refl, sym, ap, ◌∙◌, subst, arith}
use Rattle.std.specs.Prelude.{slice_get}
use Rattle.std.specs.Option.{option_map}
use Rattle.std.proofs.lemmas.Bool.{cases_lt}
use Rattle.std.proofs.lemmas.Option.{slice_get-map}
use Rattle.migration_types.specs.declared.records.LogName.{LogName}
use Rattle.migration_types.specs.declared.records.LogName.TheVariants.{Guest, Source, Link, Lane, Pager}
use Rattle.migration_types.specs.declared.records.GuestRec.{GuestRec}
use Rattle.migration_types.specs.declared.records.SourceRec.{SourceRec}
use Rattle.migration_types.specs.declared.records.SourceRec.TheVariants.{Halted, State, Send, Again, Ask, Done, Back}
use Rattle.migration_types.specs.declared.records.PagerRec.{PagerRec}
use Rattle.migration_types.specs.declared.records.PagerRec.TheVariants.{Got, Pull, Ready, Fault, Join, Want, Place, Zero, Skip, All}
use Rattle.migration_types.specs.Paged.{guest_page, source_page, pager_page}
use Rattle.migration_types.specs.Receipts.{Name, log_index}
use Rattle.migration_types.specs.Sessions.{Recorded}
use Rattle.audit_model.specs.Names.{if_there}
use Rattle.audit_model.specs.Windows.{rank}
use Rattle.audit_model.proofs.Ranks.{kept_at, rank_up, rank_less}
use Rattle.audit_model.proofs.WindowFaults.{is_there}
use Rattle.page_facts.specs.PageFaults.{page_at, Precedes}
use Rattle.kept_faults.specs.Thinned.{thin_source, thin_pager, thinned, thin_name, IsKept, IsThinning}
use Rattle.kept_faults.proofs.FrontFirst.{same_log_by}
use Rattle.kept_faults.proofs.Kept.{aligned, kept_from, kept_or_gone}

-- a name stays in its log
pub same_log : (marks : List Bool) (name : Name) → (thin_name marks name).0 ≡ name.0
same_log marks (Guest, n) = refl
same_log marks (Source, n) = refl
same_log marks (Link, n) = refl
same_log marks (Lane, n) = refl
same_log marks (Pager, n) = refl

pub renamed : (marks : List Bool) (log : LogName) (n : ℕ) → thin_name marks (log, n) ≡ (log, (thin_name marks (log, n)).1)
renamed marks Guest n = refl
renamed marks Source n = refl
renamed marks Link n = refl
renamed marks Lane n = refl
renamed marks Pager n = refl

-- names of kept records keep their order
pub order_to : (marks : List Bool) (log : LogName) (m n : ℕ) → IsKept marks (log, m) → m < n → (thin_name marks (log, m)).1 < (thin_name marks (log, n)).1
order_to marks Guest m n mark lt = rank_less marks m n mark lt
order_to marks Source m n mark lt = lt
order_to marks Link m n mark lt = lt
order_to marks Lane m n mark lt = lt
order_to marks Pager m n mark lt = lt

pub order_from : (marks : List Bool) (log : LogName) (m n : ℕ) → (thin_name marks (log, m)).1 < (thin_name marks (log, n)).1 → m < n
order_from marks Guest m n lt = go (cases_lt m n)
  where
    go : (m < n) ⊎ (n ≤ m) → m < n
    go (inl less) = less
    go (inr more) = let up = rank_up marks n m more in absurd (omega (arith, lt, up))
order_from marks Source m n lt = lt
order_from marks Link m n lt = lt
order_from marks Lane m n lt = lt
order_from marks Pager m n lt = lt

same_index : (marks : List Bool) (name : Name) → log_index (thin_name marks name).0 ≡ log_index name.0
same_index marks name = ap (λ (l : LogName). log_index l) (same_log marks name)

pub precedes_to : (marks : List Bool) (a b : Name) → IsKept marks a → Precedes a b → Precedes (thin_name marks a) (thin_name marks b)
precedes_to marks a b kept (inl lt) = let e = same_index marks a in let f = same_index marks b in inl (omega (arith, lt, e, f))
precedes_to marks (l, m) (k, n) kept (inr both) =
    let e = same_index marks (l, m) in
    let f = same_index marks (k, n) in
    let g = both.0 in
    inr (omega (arith, e, f, g), subst (λ h. (thin_name marks (l, m)).1 < (thin_name marks (h, n)).1) (same_log_by l k g) (order_to marks l m n kept both.1))

pub precedes_from : (marks : List Bool) (a b : Name) → Precedes (thin_name marks a) (thin_name marks b) → Precedes a b
precedes_from marks a b (inl lt) = let e = same_index marks a in let f = same_index marks b in inl (omega (arith, lt, e, f))
precedes_from marks (l, m) (k, n) (inr both) =
    let e = same_index marks (l, m) in
    let f = same_index marks (k, n) in
    let g = both.0 in
    let h : log_index l ≡ log_index k = omega (arith, e, f, g) in
    inr (h, order_from marks l m n (subst (λ i. (thin_name marks (l, m)).1 < (thin_name marks (i, n)).1) (sym (same_log_by l k h)) both.1))

pub same_mapped : {A B : Type 0} (f : A → A) (say say' : A → Option B) → ((x : A) → say' (f x) ≡ say x) → (log : List A) (n : ℕ) → if_there say' (slice_get (map f log) n) ≡ if_there say (slice_get log n)
same_mapped {A} f say say' same log n = ap (if_there say') (slice_get-map f log n) ∙ go (slice_get log n)
  where
    go : (o : Option A) → if_there say' (option_map f o) ≡ if_there say o
    go None = refl
    go (Some x) = same x

-- the name is that of a record of the guest that goes
pub record Goes (marks : List Bool) (name : Name) : Type 0 where
  pub place : ℕ
  pub is : name ≡ (Guest, place)
  pub is_gone : slice_get marks place ≡ Some false

module _ (marks : List Bool) (s : Recorded) (thin : IsThinning marks s) where
  -- a kept record has its page
  pub same_page : (name : Name) → IsKept marks name → page_at (thinned marks s) (thin_name marks name) ≡ page_at s name
  same_page (Guest, n) mark = go (slice_get s.guest n) refl
    where
      go : (o : Option GuestRec) → slice_get s.guest n ≡ o → if_there guest_page (slice_get (thinned marks s).guest (rank marks n)) ≡ if_there guest_page (slice_get s.guest n)
      go None is = absurd (is_there marks s.guest (aligned marks s thin) n mark is)
      go (Some x) is = ap (if_there guest_page) (kept_at marks s.guest n x is mark) ∙ sym (ap (if_there guest_page) is)
  same_page (Source, n) mark = same_mapped (thin_source marks) source_page source_page same s.source n
    where
      same : (x : SourceRec) → source_page (thin_source marks x) ≡ source_page x
      same (Halted i) = refl
      same State = refl
      same (Send p content) = refl
      same (Again i) = refl
      same (Ask i) = refl
      same Done = refl
      same Back = refl
  same_page (Link, n) mark = refl
  same_page (Lane, n) mark = refl
  same_page (Pager, n) mark = same_mapped (thin_pager marks) pager_page pager_page same s.pager n
    where
      same : (x : PagerRec) → pager_page (thin_pager marks x) ≡ pager_page x
      same (Fault i) = refl
      same (Got i) = refl
      same (Pull i) = refl
      same Ready = refl
      same (Join i) = refl
      same (Want r) = refl
      same (Place r got content) = refl
      same (Zero r) = refl
      same (Skip i) = refl
      same All = refl

  -- a record of a page is kept, or it is one of the guest's that goes
  pub stays_or_goes : (name : Name) (page : ℕ) → page_at s name ≡ Some page → IsKept marks name ⊎ Goes marks name
  stays_or_goes (Guest, n) page at = go (slice_get s.guest n) refl at
    where
      by_mark : (slice_get marks n ≡ Some true) ⊎ (slice_get marks n ≡ Some false) → (slice_get marks n ≡ Some true) ⊎ Goes marks (Guest, n)
      by_mark (inl mark) = inl mark
      by_mark (inr gone) = inr (record { place = n; is = refl; is_gone = gone })

      go : (o : Option GuestRec) → slice_get s.guest n ≡ o → if_there guest_page o ≡ Some page → (slice_get marks n ≡ Some true) ⊎ Goes marks (Guest, n)
      go None is at = absurd (cc)
      go (Some x) is at = by_mark (kept_or_gone marks s thin n x is)
  stays_or_goes (Source, n) page at = inl tt
  stays_or_goes (Link, n) page at = inl tt
  stays_or_goes (Lane, n) page at = inl tt
  stays_or_goes (Pager, n) page at = inl tt

  -- with thinned logs each record of a page was kept
  pub was_kept : (name : Name) (page : ℕ) → page_at (thinned marks s) name ≡ Some page → (old : Name) × IsKept marks old × (thin_name marks old ≡ name)
  was_kept (Guest, m) page at = go (slice_get (thinned marks s).guest m) refl at
    where
      go : (o : Option GuestRec) → slice_get (thinned marks s).guest m ≡ o → if_there guest_page o ≡ Some page → (old : Name) × IsKept marks old × (thin_name marks old ≡ (Guest, m))
      go None is at = absurd (cc)
      go (Some x) is at = let f = kept_from marks s.guest m x is in ((Guest, f.0), f.2, ap (λ k. (Guest, k)) f.3)
  was_kept (Source, n) page at = ((Source, n), tt, refl)
  was_kept (Link, n) page at = ((Link, n), tt, refl)
  was_kept (Lane, n) page at = ((Lane, n), tt, refl)
  was_kept (Pager, n) page at = ((Pager, n), tt, refl)
