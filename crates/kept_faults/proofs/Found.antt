-- Each page is clean or has a first fault.
use Rattle.std.proofs.Common.{◌≡◌, ℕ, zero, suc, ◌<◌, ◌≤◌, ◌⊎◌, inl, inr, Option, Some, None, refl, sym, ap, ◌∙◌, subst, arith}
use Rattle.std.proofs.lemmas.Bool.{cases_lt, cases_order}
use Rattle.migration_types.specs.declared.records.LogName.{LogName}
use Rattle.migration_types.specs.declared.records.LogName.TheVariants.{Guest, Source, Link, Lane, Pager}
use Rattle.migration_types.specs.Receipts.{Name, log_index}
use Rattle.migration_types.specs.Sessions.{Recorded, log_length}
use Rattle.audit_model.specs.declared.reasons.PageReason.{PageReason}
use Rattle.audit_model.specs.Faults.{IsPageFault}
use Rattle.page_facts.specs.declared.page_fault.PageFault.{PageFault}
use Rattle.page_facts.specs.PageFaults.{page_at, Precedes, IsFaultless, IsLeastReason, IsFirstFault}
use Rattle.page_facts.proofs.FirstOfAll.{reasons_at}
use Rattle.kept_faults.proofs.FrontFirst.{same_log_by, page_within}

-- the logs by their places
abbrev log_of : ℕ → LogName
log_of zero = Guest
log_of (suc zero) = Source
log_of (suc (suc zero)) = Link
log_of (suc (suc (suc zero))) = Lane
log_of (suc (suc (suc (suc n)))) = Pager

index_of : (i : ℕ) → i < 5 → log_index (log_of i) ≡ i
index_of zero lt = refl
index_of (suc zero) lt = refl
index_of (suc (suc zero)) lt = refl
index_of (suc (suc (suc zero))) lt = refl
index_of (suc (suc (suc (suc zero)))) lt = refl
index_of (suc (suc (suc (suc (suc n))))) lt = absurd (omega arith)

few_logs : (l : LogName) → log_index l < 5
few_logs Guest = omega arith
few_logs Source = omega arith
few_logs Link = omega arith
few_logs Lane = omega arith
few_logs Pager = omega arith

module _ (s : Recorded) (page : ℕ) where
  -- the record has no fault of this page
  abbrev IsNone : Name → Type 0
  IsNone name = page_at s name ≡ Some page → IsFaultless s name

  record IsFault (name : Name) : Type 0 where
    pub reason : PageReason
    pub is_of : page_at s name ≡ Some page
    pub is_reason : IsLeastReason s name reason

  at : (name : Name) → IsFault name ⊎ IsNone name
  at name = go (page_at s name) refl (reasons_at s name)
    where
      by : (p : ℕ) → page_at s name ≡ Some p → (r : PageReason) → IsLeastReason s name r → (p ≡ page) ⊎ ((p < page) ⊎ (page < p)) → IsFault name ⊎ IsNone name
      by p of r is (inl same) = inl (record { reason = r; is_of = of ∙ ap (λ (q : ℕ). Some q) same; is_reason = is })
      by p of r is (inr (inl less)) = inr (λ mine. let e : Some p ≡ Some page = sym of ∙ mine in let f : p ≡ page = cc in absurd (omega (arith, less, f)))
      by p of r is (inr (inr more)) = inr (λ mine. let e : Some p ≡ Some page = sym of ∙ mine in let f : p ≡ page = cc in absurd (omega (arith, more, f)))

      go : (o : Option ℕ) → page_at s name ≡ o → IsFaultless s name ⊎ ((r : PageReason) × IsLeastReason s name r) → IsFault name ⊎ IsNone name
      go None of is = inr (λ mine. let e : None ≡ Some page = sym of ∙ mine in absurd (cc))
      go (Some p) of (inl is) = inr (λ mine. is)
      go (Some p) of (inr is) = by p of is.0 is.1 (cases_order p page)

  -- the first of a log's faults below a place, or none
  record IsFirstIn (log : LogName) (k : ℕ) : Type 0 where
    pub place : ℕ
    pub below : place < k
    pub is_fault : IsFault (log, place)
    pub is_first : (n : ℕ) → n < place → IsNone (log, n)

  in_log : (log : LogName) (k : ℕ) → IsFirstIn log k ⊎ ((n : ℕ) → n < k → IsNone (log, n))
  in_log log zero = inr (λ n lt. absurd (omega (arith, lt)))
  in_log log (suc k) = go (in_log log k) (at (log, k))
    where
      last : ((n : ℕ) → n < k → IsNone (log, n)) → IsNone (log, k) → (n : ℕ) → n < suc k → (n < k) ⊎ (k ≤ n) → IsNone (log, n)
      last none here n lt (inl less) = none n less
      last none here n lt (inr more) = let e : k ≡ n = omega (arith, lt, more) in subst (λ m. IsNone (log, m)) e here

      go : IsFirstIn log k ⊎ ((n : ℕ) → n < k → IsNone (log, n)) → IsFault (log, k) ⊎ IsNone (log, k) → IsFirstIn log (suc k) ⊎ ((n : ℕ) → n < suc k → IsNone (log, n))
      go (inl f) here = let lt = f.below in inl (record { place = f.place; below = omega (arith, lt); is_fault = f.is_fault; is_first = f.is_first })
      go (inr none) (inl fault) = inl (record { place = k; below = omega arith; is_fault = fault; is_first = none })
      go (inr none) (inr here) = inr (λ n lt. last none here n lt (cases_lt n k))

  abbrev AreNone : ℕ → Type 0
  AreNone i = (name : Name) → log_index name.0 < i → IsNone name

  first_is : (i : ℕ) → i < 5 → AreNone i → (f : IsFirstIn (log_of i) (log_length s (log_of i))) → IsFirstFault s page (record { page = page; log = log_of i; place = f.place; reason = f.is_fault.reason })
  first_is i few none f = record {
    is_among = refl;
    is_of = f.is_fault.is_of;
    is_reason = f.is_fault.is_reason;
    is_first = λ other name among mine before. earlier name (mine ∙ ap (λ (q : ℕ). Some q) among) before;
  }
    where
      earlier : (name : Name) → page_at s name ≡ Some page → Precedes name (log_of i, f.place) → IsFaultless s name
      earlier name mine (inl lt) = let e = index_of i few in none name (omega (arith, lt, e)) mine
      earlier name mine (inr both) =
          let same = same_log_by name.0 (log_of i) both.0 in
          let at_it : Path Name name (log_of i, name.1) = λ j. (same j, name.1) in
          subst (IsFaultless s) (sym at_it) (f.is_first name.1 both.1 (sym (ap (page_at s) at_it) ∙ mine))

  none_more : (i : ℕ) → i < 5 → AreNone i → ((n : ℕ) → n < log_length s (log_of i) → IsNone (log_of i, n)) → AreNone (suc i)
  none_more i few none here name lt = go (cases_lt (log_index name.0) i)
    where
      go : (log_index name.0 < i) ⊎ (i ≤ log_index name.0) → IsNone name
      go (inl less) = none name less
      go (inr more) = λ mine.
          let e = index_of i few in
          let same = same_log_by name.0 (log_of i) (omega (arith, lt, more, e)) in
          let at_it : Path Name name (log_of i, name.1) = λ j. (same j, name.1) in
          let within : name.1 < log_length s (log_of i) = subst (λ l. name.1 < log_length s l) same (page_within s name page mine) in
          subst (IsFaultless s) (sym at_it) (here name.1 within (sym (ap (page_at s) at_it) ∙ mine))

  abbrev HasFirst : Type 0
  HasFirst = (f : PageFault) × IsFirstFault s page f

  in_logs : (i : ℕ) → i ≤ 5 → HasFirst ⊎ AreNone i
  in_logs zero few = inr (λ name lt. absurd (omega (arith, lt)))
  in_logs (suc i) few = go (in_logs i (omega arith)) (in_log (log_of i) (log_length s (log_of i)))
    where
      go : HasFirst ⊎ AreNone i → IsFirstIn (log_of i) (log_length s (log_of i)) ⊎ ((n : ℕ) → n < log_length s (log_of i) → IsNone (log_of i, n)) → HasFirst ⊎ AreNone (suc i)
      go (inl first) here = inl first
      go (inr none) (inl f) = inl (record { page = page; log = log_of i; place = f.place; reason = f.is_fault.reason }, first_is i (omega (arith, few)) none f)
      go (inr none) (inr here) = inr (none_more i (omega (arith, few)) none here)

  -- where a record has a fault of the page, the page has a first fault
  pub has_first : (name : Name) (r : PageReason) → page_at s name ≡ Some page → IsPageFault s r name → HasFirst
  has_first name r mine fault = go (in_logs 5 (omega arith))
    where
      go : HasFirst ⊎ AreNone 5 → HasFirst
      go (inl first) = first
      go (inr none) = absurd (none name (few_logs name.0) mine r fault)
