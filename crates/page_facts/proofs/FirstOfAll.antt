-- The first fault of a log is the first of the session where the logs before it have none.
use Rattle.std.proofs.Common.{◌≡◌, ℕ, ◌<◌, ◌≤◌, ◌⊎◌, inl, inr, true, false, length, Option, Some, None, refl, sym, ap, subst, arith}
use Rattle.std.specs.Option.{MatchOption}
use Rattle.std.proofs.lemmas.Bool.{cases_lt, cases_order}
use Rattle.std.proofs.lemmas.Option.{slice_get_past}
use Rattle.migration_types.specs.declared.records.LogName.{LogName}
use Rattle.migration_types.specs.declared.records.LogName.TheVariants.{Guest, Source, Link, Lane, Pager}
use Rattle.migration_types.specs.Receipts.{Name}
use Rattle.migration_types.specs.Sessions.{Recorded, log_length, line_of}
use Rattle.audit_model.specs.declared.reasons.PageReason.{PageReason}
use Rattle.audit_model.specs.Faults.{GuestFault, SourceFault, PagerFault, if_fault, IsPageFault, HasNoPageFault}
use Rattle.audit_model.specs.Reasons.{page_rank}
use Rattle.audit_model.specs.FirstFault.{IsFirstPageFault}
use Rattle.audit_model.specs.inner.PageFaultTests.{fault_test}
use Rattle.audit_model.proofs.PageFaultTests.{fault_Decides}
use Rattle.page_facts.specs.declared.page_fault.PageFault.{PageFault}
use Rattle.page_facts.specs.PageFaults.{IsFaultless, IsLeastReason}
use Rattle.page_facts.specs.inner.FirstOfLog.{reason_at, IsCleanLog, IsFirstOfLog, AreMovedClean, IsFirstMoved}
use Rattle.page_facts.proofs.LeastReason.{same_rank, least_rank, least_is}

-- a record for which no test of a fault holds has none, and the least reason for which one holds is its least
pub faultless_at : (s : Recorded) (name : Name) → reason_at s name ≡ None → IsFaultless s name
faultless_at s name e r f =
    let t : fault_test s r name ≡ true = (fault_Decides s r name).1 f in
    let n : fault_test s r name ≡ false = (least_is (λ reason. fault_test s reason name)).none e r (least_rank r) in
    cc

pub least_reason_at : (s : Recorded) (name : Name) (r : PageReason) → reason_at s name ≡ Some r → IsLeastReason s name r
least_reason_at s name r e =
    let is = least_is (λ reason. fault_test s reason name) in
    record {
      is_fault = (fault_Decides s r name).0 (is.holds r e);
      is_least = λ t f. is.least r e t (least_rank t) ((fault_Decides s t name).1 f);
    }

-- each record has no fault or a least reason, and no other than that
pub reasons_at : (s : Recorded) (name : Name) → IsFaultless s name ⊎ ((r : PageReason) × IsLeastReason s name r)
reasons_at s name = go (reason_at s name) refl
  where
    go : (o : Option PageReason) → reason_at s name ≡ o → IsFaultless s name ⊎ ((r : PageReason) × IsLeastReason s name r)
    go None e = inl (faultless_at s name e)
    go (Some r) e = inr (r, least_reason_at s name r e)

pub one_least : (s : Recorded) (name : Name) (a b : PageReason) → IsLeastReason s name a → IsLeastReason s name b → a ≡ b
one_least s name a b one other =
    let le = one.is_least b other.is_fault in
    let ge = other.is_least a one.is_fault in
    same_rank a b (omega (arith, le, ge))

-- behind a log's end there is no fault
past_end : (s : Recorded) (log : LogName) (n : ℕ) → log_length s log ≤ n → IsFaultless s (log, n)
past_end s Guest n le = λ r f. subst (λ o. if_fault (GuestFault s r n) o) (slice_get_past s.guest n le) f
past_end s Source n le = λ r f. subst (λ o. if_fault (SourceFault s r) o) (slice_get_past s.source n le) f
past_end s Link n le = λ r f. f
past_end s Lane n le = λ r f. f
past_end s Pager n le = λ r f. subst (λ o. if_fault (PagerFault s r n) o) (slice_get_past s.pager n le) f

within : (s : Recorded) (log : LogName) (n : ℕ) (t : PageReason) → IsPageFault s t (log, n) → n < log_length s log
within s log n t fault = go (cases_lt n (log_length s log))
  where
    go : (n < log_length s log) ⊎ (log_length s log ≤ n) → n < log_length s log
    go (inl l) = l
    go (inr l) = absurd (past_end s log n l t fault)

-- the first of a log beside another fault
abbrev IsAfter : Recorded → PageReason → Name → PageReason → Name → Type 0
IsAfter s reason name r other = (line_of s name < line_of s other) ⊎ ((line_of s name ≡ line_of s other) × (page_rank reason ≤ page_rank r))

same_line : (s : Recorded) (log : LogName) (a b : ℕ) → a < b → line_of s (log, a) < line_of s (log, b)
same_line s Guest a b lt = omega arith
same_line s Source a b lt = omega arith
same_line s Link a b lt = omega arith
same_line s Lane a b lt = omega arith
same_line s Pager a b lt = omega arith

in_log : (s : Recorded) (log : LogName) (f : PageFault) → IsFirstOfLog s log f → (r : PageReason) (n : ℕ) → IsPageFault s r (log, n) → IsAfter s f.reason (log, f.place) r (log, n)
in_log s log f first r n fault = go (cases_order n f.place)
  where
    go : (n ≡ f.place) ⊎ ((n < f.place) ⊎ (f.place < n)) → IsAfter s f.reason (log, f.place) r (log, n)
    go (inl same) = inr (ap (λ k. line_of s (log, k)) (sym same), first.is_reason.is_least r (subst (λ k. IsPageFault s r (log, k)) same fault))
    go (inr (inl lt)) = absurd (first.is_clean_below n lt r fault)
    go (inr (inr gt)) = inl (same_line s log f.place n gt)

-- the first of the session, its log being named
named : (s : Recorded) (log : LogName) (f : PageFault) → IsFirstOfLog s log f → ((r : PageReason) (other : Name) → IsPageFault s r other → IsAfter s f.reason (log, f.place) r other) → IsFirstPageFault s f.reason (f.log, f.place)
named s log f first after = subst (λ (l : LogName). IsFirstPageFault s f.reason (l, f.place)) (sym first.is_log) (record { is_fault = first.is_reason.is_fault; is_first = after })

pub guest_first : (s : Recorded) (f : PageFault) → IsFirstOfLog s Guest f → IsFirstPageFault s f.reason (f.log, f.place)
guest_first s f first = let lt : f.place < length s.guest = within s Guest f.place f.reason first.is_reason.is_fault in named s Guest f first (λ r other. go r other lt)
  where
    go : (r : PageReason) (other : Name) → f.place < length s.guest → IsPageFault s r other → IsAfter s f.reason (Guest, f.place) r other
    go r (Guest, n) lt fault = in_log s Guest f first r n fault
    go r (Source, n) lt fault = inl (omega arith)
    go r (Link, n) lt fault = inl (omega arith)
    go r (Lane, n) lt fault = inl (omega arith)
    go r (Pager, n) lt fault = inl (omega arith)

source_first : (s : Recorded) (f : PageFault) → IsCleanLog s Guest → IsFirstOfLog s Source f → IsFirstPageFault s f.reason (f.log, f.place)
source_first s f guest first = let lt : f.place < length s.source = within s Source f.place f.reason first.is_reason.is_fault in named s Source f first (λ r other. go r other lt)
  where
    go : (r : PageReason) (other : Name) → f.place < length s.source → IsPageFault s r other → IsAfter s f.reason (Source, f.place) r other
    go r (Guest, n) lt fault = absurd (guest n r fault)
    go r (Source, n) lt fault = in_log s Source f first r n fault
    go r (Link, n) lt fault = absurd fault
    go r (Lane, n) lt fault = absurd fault
    go r (Pager, n) lt fault = inl (omega arith)

pager_first : (s : Recorded) (f : PageFault) → IsCleanLog s Guest → IsCleanLog s Source → IsFirstOfLog s Pager f → IsFirstPageFault s f.reason (f.log, f.place)
pager_first s f guest source first = named s Pager f first go
  where
    go : (r : PageReason) (other : Name) → IsPageFault s r other → IsAfter s f.reason (Pager, f.place) r other
    go r (Guest, n) fault = absurd (guest n r fault)
    go r (Source, n) fault = absurd (source n r fault)
    go r (Link, n) fault = absurd fault
    go r (Lane, n) fault = absurd fault
    go r (Pager, n) fault = in_log s Pager f first r n fault

moved_first : (s : Recorded) (f : PageFault) → IsCleanLog s Guest → IsFirstMoved s f → IsFirstPageFault s f.reason (f.log, f.place)
moved_first s f guest (inl first) = source_first s f guest first
moved_first s f guest (inr first) = pager_first s f guest first.0 first.1

no_fault : (s : Recorded) → IsCleanLog s Guest → AreMovedClean s → HasNoPageFault s
no_fault s guest moved r (Guest, n) fault = guest n r fault
no_fault s guest moved r (Source, n) fault = moved.0 n r fault
no_fault s guest moved r (Link, n) fault = fault
no_fault s guest moved r (Lane, n) fault = fault
no_fault s guest moved r (Pager, n) fault = moved.1 n r fault

-- what the source's and the pager's logs have, where the guest's has none
pub moved_of_all : (s : Recorded) (o : Option PageFault) → IsCleanLog s Guest → MatchOption o (AreMovedClean s) (IsFirstMoved s) → MatchOption o (HasNoPageFault s) (λ f. IsFirstPageFault s f.reason (f.log, f.place))
moved_of_all s None guest moved = no_fault s guest moved
moved_of_all s (Some f) guest moved = moved_first s f guest moved
