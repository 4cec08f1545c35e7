-- The first fault of a page, by its findings.
use Rattle.std.proofs.Common.{◌≡◌, ℕ, ◌<◌, inl, inr, Bool, true, false, cond, not, ◌&&◌, ◌||◌, List, length, Option, Some, None, refl, sym, ap, ◌∙◌, subst, arith, eq-eqb}
use Rattle.std.specs.Prelude.{slice_get, ◌==◌, is_some}
use Rattle.std.specs.Option.{MatchOption}
use Rattle.std.proofs.lemmas.Bool.{eqb-true, and_parts, and_from}
use Rattle.migration_types.specs.declared.records.LogName.{LogName}
use Rattle.migration_types.specs.declared.records.LogName.TheVariants.{Guest, Source, Link, Lane, Pager}
use Rattle.migration_types.specs.declared.records.GuestRec.{GuestRec}
use Rattle.migration_types.specs.declared.records.GuestRec.TheVariants.{Read, Write, Release, Miss, Halt, Resume, See}
use Rattle.migration_types.specs.declared.records.SourceRec.{SourceRec}
use Rattle.migration_types.specs.declared.records.SourceRec.TheVariants.{Halted, State, Send, Again, Ask, Done, Back}
use Rattle.migration_types.specs.declared.records.PagerRec.{PagerRec}
use Rattle.migration_types.specs.declared.records.PagerRec.TheVariants.{Got, Pull, Ready, Fault, Join, Want, Place, Zero, Skip, All}
use Rattle.migration_types.specs.Memory.{page_of}
use Rattle.migration_types.specs.Receipts.{Name, log_index}
use Rattle.migration_types.specs.Sessions.{Recorded}
use Rattle.audit_model.specs.declared.reasons.PageReason.{PageReason}
use Rattle.audit_model.specs.declared.reasons.PageReason.TheVariants.{Read as WrongRead, Early, Given, Stale, Twice, Altered, Unfit, Over}
use Rattle.audit_model.specs.Flat.{flat, in_ledger, at_halt, home, is_target}
use Rattle.audit_model.specs.Names.{if_there}
use Rattle.audit_model.specs.Shape.{passes, is_placement_of, earlier}
use Rattle.audit_model.specs.Certificates.{is_access_of}
use Rattle.audit_model.specs.Faults.{IsEarly, IsOver, GuestFault, PagerFault, if_fault, IsPageFault}
use Rattle.audit_model.specs.inner.PageFaultTests.{is_flat_page, is_wrong_read, is_given, is_stale, is_second, is_altered, is_unfit, fault_test}
use Rattle.audit_model.proofs.Cuts.{same_from_test}
use Rattle.audit_model.proofs.PageFaultTests.{fault_Decides}
use Rattle.migration_types.specs.Paged.{guest_page, source_page, pager_page}
use Rattle.migration_types.specs.Paged.{of_page}
use Rattle.page_facts.specs.Tables.{first_before}
use Rattle.page_facts.specs.Judged.{is_wrong_send, is_wrong_read as reads_wrong, is_altered as is_placed_wrong}
use Rattle.page_facts.specs.Moved.{is_again}
use Rattle.page_facts.specs.Findings.{IsFindings}
use Rattle.page_facts.specs.declared.findings.Findings.{Findings}
use Rattle.page_facts.specs.declared.page_fault.PageFault.{PageFault}
use Rattle.page_facts.specs.PageFaults.{page_at, Precedes, IsFaultless, IsLeastReason, IsClean, IsFirstFault}
use Rattle.page_facts.specs.inner.FirstOfLog.{or_else, reason_at}
use Rattle.page_facts.specs.inner.OfFindings.{early_of, over_of, told, least, placed_reason, reason_of, altered_reason, sent_reason, or_next, guest_fault, source_fault, pager_fault, page_fault}
use Rattle.page_facts.proofs.Before.{first_none, first_some}
use Rattle.page_facts.proofs.Listing.{first_is, none_is_first, some_is_first, send_only, altered_only, placed_is}
use Rattle.page_facts.proofs.Looking.{earlier_some}
use Rattle.page_facts.proofs.RightEntry.{target_is}
use Rattle.page_facts.proofs.FirstOfAll.{faultless_at, least_reason_at}
use Rattle.page_facts.proofs.FirstFaults.{FirstBy, or_also, no_reason, one_more, one_alone}
use Rattle.page_facts.proofs.Touching.{comes_early, early_parts, early_from, early_is, over, over_is, is_over, over_from}

-- ---- a page's records of one log

abbrev IsCleanIn : Recorded → ℕ → LogName → Type 0
IsCleanIn s page log = (n : ℕ) → page_at s (log, n) ≡ Some page → IsFaultless s (log, n)

record IsFirstIn (s : Recorded) (page : ℕ) (log : LogName) (f : PageFault) : Type 0 where
  is_page : f.page ≡ page
  is_log : f.log ≡ log
  is_of : page_at s (log, f.place) ≡ Some page
  is_reason : IsLeastReason s (log, f.place) f.reason
  below : (n : ℕ) → n < f.place → page_at s (log, n) ≡ Some page → IsFaultless s (log, n)

there_is : {A : Type 0} (page_of : A → Option ℕ) (o : Option A) (page : ℕ) → if_there page_of o ≡ Some page → (r : A) × (o ≡ Some r) × (of_page page_of page r ≡ true)
there_is page_of None page e = absurd (cc)
there_is page_of (Some r) page e = (r, refl, go (page_of r) refl e)
  where
    go : (o : Option ℕ) → page_of r ≡ o → o ≡ Some page → of_page page_of page r ≡ true
    go None is e = absurd (cc)
    go (Some p) is e = let same : p ≡ page = cc in ap (λ o. Rattle.migration_types.specs.Paged.is_page o page) is ∙ eq-eqb p page same

is_there : {A : Type 0} (page_of : A → Option ℕ) (o : Option A) (page : ℕ) (r : A) → o ≡ Some r → of_page page_of page r ≡ true → if_there page_of o ≡ Some page
is_there page_of o page r is own = ap (λ o. if_there page_of o) is ∙ go (page_of r) refl
  where
    go : (o : Option ℕ) → page_of r ≡ o → o ≡ Some page
    go None e = let f : of_page page_of page r ≡ false = ap (λ o. Rattle.migration_types.specs.Paged.is_page o page) e in absurd (cc)
    go (Some p) e = let t : (p == page) ≡ true = sym (ap (λ o. Rattle.migration_types.specs.Paged.is_page o page) e) ∙ own in ap (λ k. Some k) (eqb-true p page t)

-- the first by the reasons of a page's records is the first of the log
module _ {A : Type 0} (s : Recorded) (page : ℕ) (name : LogName) (log : List A) (page_of : A → Option ℕ) (is_at : (n : ℕ) → page_at s (name, n) ≡ if_there page_of (slice_get log n)) (why : ℕ → A → Option PageReason) (least_is : (n : ℕ) (r : A) → slice_get log n ≡ Some r → of_page page_of page r ≡ true → reason_at s (name, n) ≡ why n r) where
  clear_at : (n : ℕ) → ((r : A) → slice_get log n ≡ Some r → of_page page_of page r ≡ true → why n r ≡ None) → page_at s (name, n) ≡ Some page → IsFaultless s (name, n)
  clear_at n none at = let h = there_is page_of (slice_get log n) page (sym (is_at n) ∙ at) in faultless_at s (name, n) (least_is n h.0 h.1 h.2 ∙ none h.0 h.1 h.2)

  first_in : (o : Option PageFault) → FirstBy page name log (of_page page_of page) why o → MatchOption o (IsCleanIn s page name) (IsFirstIn s page name)
  first_in None clear = λ n at. clear_at n (λ r is own. clear.each n r is own) at
  first_in (Some f) first = record {
    is_page = first.is_page;
    is_log = first.is_log;
    is_of = is_at f.place ∙ is_there page_of (slice_get log f.place) page first.by first.stands first.is_own;
    is_reason = least_reason_at s (name, f.place) f.reason (least_is f.place first.by first.stands first.is_own ∙ first.is_why);
    below = λ n lt at. clear_at n (λ r is own. first.below n r lt is own) at;
  }

-- the test of a fault is any other that tells it
fault_is : (s : Recorded) (r : PageReason) (name : Name) (b : Bool) → (b ≡ true → IsPageFault s r name) → (IsPageFault s r name → b ≡ true) → fault_test s r name ≡ b
fault_is s r name b to from = go (fault_test s r name) refl b refl
  where
    go : (t : Bool) → fault_test s r name ≡ t → (c : Bool) → b ≡ c → t ≡ c
    go true e true f = refl
    go false e false f = refl
    go true e false f = let yes = from ((fault_Decides s r name).0 e) in absurd (cc)
    go false e true f = let yes = (fault_Decides s r name).1 (to f) in absurd (cc)

-- ---- the guest's records

module _ (s : Recorded) (page : ℕ) where
  read_only : (n : ℕ) (r : GuestRec) → reads_wrong s page n r ≡ true → of_page guest_page page r ≡ true
  read_only n (Read v p c x) t = (and_parts (p == page) _ t).0
  read_only n (Write v p c x) t = absurd (cc)
  read_only n (Release v p) t = absurd (cc)
  read_only n (Miss v p) t = absurd (cc)
  read_only n Halt t = absurd (cc)
  read_only n (Resume i) t = absurd (cc)
  read_only n (See k) t = absurd (cc)

  access_only : (r : GuestRec) → is_access_of page r ≡ true → of_page guest_page page r ≡ true
  access_only (Read v p c x) t = t
  access_only (Write v p c x) t = t
  access_only (Release v p) t = absurd (cc)
  access_only (Miss v p) t = absurd (cc)
  access_only Halt t = absurd (cc)
  access_only (Resume i) t = absurd (cc)
  access_only (See k) t = absurd (cc)

  same_page : (q : ℕ) (r : GuestRec) → of_page guest_page page r ≡ true → is_access_of q r ≡ true → q ≡ page
  same_page q (Read v p c x) own t = sym (eqb-true p q t) ∙ eqb-true p page own
  same_page q (Write v p c x) own t = sym (eqb-true p q t) ∙ eqb-true p page own
  same_page q (Release v p) own t = absurd (cc)
  same_page q (Miss v p) own t = absurd (cc)
  same_page q Halt own t = absurd (cc)
  same_page q (Resume i) own t = absurd (cc)
  same_page q (See k) own t = absurd (cc)

  early_only : (n : ℕ) (r : GuestRec) → comes_early s page n r ≡ true → of_page guest_page page r ≡ true
  early_only n r t = access_only r (early_parts s page n r t).access

  early_test : (n : ℕ) (r : GuestRec) → slice_get s.guest n ≡ Some r → of_page guest_page page r ≡ true → fault_test s Early (Guest, n) ≡ comes_early s page n r
  early_test n r is own = fault_is s Early (Guest, n) (comes_early s page n r) to from
    where
      to : comes_early s page n r ≡ true → IsPageFault s Early (Guest, n)
      to t =
          let p = early_parts s page n r t in
          subst (λ o. if_fault (GuestFault s Early n) o) (sym is) (page, record { is_access = p.access; is_late = target_is (home s n) p.late; is_kept = p.kept; is_uncovered = p.unseen })

      by : IsEarly s n r page → comes_early s page n r ≡ true
      by e = early_from s page n r (record { access = e.is_access; late = ap (λ h. is_target h) e.is_late; kept = e.is_kept; unseen = e.is_uncovered })

      from : IsPageFault s Early (Guest, n) → comes_early s page n r ≡ true
      from f =
          let e : GuestFault s Early n r = subst (λ o. if_fault (GuestFault s Early n) o) is f in
          by (subst (λ q. IsEarly s n r q) (same_page e.0 r own e.1.is_access) e.1)

  abbrev guest_why : ℕ → GuestRec → Option PageReason
  guest_why = or_also (reads_wrong s page) (λ r. WrongRead) (or_also (comes_early s page) (λ r. Early) no_reason)

  guest_least : (n : ℕ) (r : GuestRec) → slice_get s.guest n ≡ Some r → of_page guest_page page r ≡ true → reason_at s (Guest, n) ≡ guest_why n r
  guest_least n r is own =
      ap (λ b. or_else b WrongRead (or_else (fault_test s Early (Guest, n)) Early None)) (ap (λ o. passes (is_wrong_read s n) o) is ∙ go r own)
      ∙ ap (λ b. or_else (reads_wrong s page n r) WrongRead (or_else b Early None)) (early_test n r is own)
    where
      go : (r : GuestRec) → of_page guest_page page r ≡ true → is_wrong_read s n r ≡ reads_wrong s page n r
      go (Read v p c x) e = ap (λ b. b && not (x == flat s n p c)) (sym e)
      go (Write v p c x) e = refl
      go (Release v p) e = refl
      go (Miss v p) e = refl
      go Halt e = refl
      go (Resume i) e = refl
      go (See k) e = refl

  module _ (f : Findings) (are : IsFindings s page f) where
    guest_in : MatchOption (guest_fault page f) (IsCleanIn s page Guest) (IsFirstIn s page Guest)
    guest_in = first_in s page Guest s.guest guest_page (λ n. refl) guest_why guest_least (guest_fault page f)
        (one_more page Guest s.guest (of_page guest_page page) (reads_wrong s page) read_only (λ r. WrongRead) WrongRead f.wrong_read (sym are.wrong_read) (λ k r e is. refl) (or_also (comes_early s page) (λ r. Early) no_reason) (told page Guest Early (early_of f))
        (one_alone page Guest s.guest (of_page guest_page page) (comes_early s page) early_only (λ r. Early) Early (early_of f) (early_is s page f are) (λ k r e is. refl)))

    -- ---- the source's records

    abbrev source_why : ℕ → SourceRec → Option PageReason
    source_why = or_also (is_wrong_send s page) (λ r. sent_reason f.released) no_reason

    source_least : (n : ℕ) (r : SourceRec) → slice_get s.source n ≡ Some r → of_page source_page page r ≡ true → reason_at s (Source, n) ≡ source_why n r
    source_least n r is own = ap (λ o. or_else (passes (is_given s) o) Given (or_else (passes (is_stale s) o) Stale None)) is ∙ go r own
      where
        pick : (stale given : Bool) → or_else given Given (or_else stale Stale None) ≡ or_else (stale || given) (sent_reason given) None
        pick true true = refl
        pick true false = refl
        pick false true = refl
        pick false false = refl

        go : (r : SourceRec) → of_page source_page page r ≡ true → or_else (is_given s r) Given (or_else (is_stale s r) Stale None) ≡ or_else (is_wrong_send s page n r) (sent_reason f.released) None
        go (Send p content) e =
            let same : p ≡ page = eqb-true p page e in
            pick (not (is_flat_page s (at_halt s) p content)) (in_ledger s (at_halt s) p)
            ∙ ap (λ b. or_else (not (is_flat_page s (at_halt s) p content) || in_ledger s (at_halt s) p) (sent_reason b) None) (ap (λ q. in_ledger s (at_halt s) q) same ∙ sym are.released)
            ∙ ap (λ b. or_else (b && (not (is_flat_page s (at_halt s) p content) || in_ledger s (at_halt s) p)) (sent_reason f.released) None) (sym e)
        go (Halted h) e = absurd (cc)
        go State e = absurd (cc)
        go (Again i) e = absurd (cc)
        go (Ask i) e = absurd (cc)
        go Done e = absurd (cc)
        go Back e = absurd (cc)

    source_in : MatchOption (source_fault page f) (IsCleanIn s page Source) (IsFirstIn s page Source)
    source_in = first_in s page Source s.source source_page (λ n. refl) source_why source_least (source_fault page f)
        (one_alone page Source s.source (of_page source_page page) (is_wrong_send s page) (send_only s page) (λ r. sent_reason f.released) (sent_reason f.released) f.wrong_send (sym are.wrong_send) (λ k r e is. refl))

    -- ---- the pager's records

    again_only : (n : ℕ) (r : PagerRec) → is_again s page n r ≡ true → of_page pager_page page r ≡ true
    again_only n r t = placed_is page r ∙ (and_parts (is_placement_of page r) _ t).0

    twice_is : (n : ℕ) → earlier (is_placement_of page) s.pager n ≡ is_some (first_before (λ m. is_placement_of page) s.pager n)
    twice_is n = earlier_some (is_placement_of page) s.pager n ∙ some_is_first (λ m. is_placement_of page) s.pager n

    -- the first placement, where it may come after a release at the target
    abbrev comes_over : ℕ → PagerRec → Bool
    comes_over n r = (is_placement_of page r && not (is_some (first_before (λ m. is_placement_of page) s.pager n))) && over s page f are

    over_only : (n : ℕ) (r : PagerRec) → comes_over n r ≡ true → of_page pager_page page r ≡ true
    over_only n r t = placed_is page r ∙ (and_parts (is_placement_of page r) _ (and_parts (is_placement_of page r && not (is_some (first_before (λ m. is_placement_of page) s.pager n))) (over s page f are) t).0).0

    -- what the fault says of a placement
    abbrev OverAt : ℕ → ℕ → Type 0
    OverAt n p = (earlier (is_placement_of p) s.pager n ≡ false) × IsOver s p

    over_to : (n : ℕ) (r : PagerRec) → of_page pager_page page r ≡ true → OverAt n page → PagerFault s Over n r
    over_to n (Place p got content) own h = subst (λ q. OverAt n q) (sym (eqb-true p page own)) h
    over_to n (Zero p) own h = subst (λ q. OverAt n q) (sym (eqb-true p page own)) h
    over_to n (Got d) own h = absurd (cc)
    over_to n (Pull d) own h = absurd (cc)
    over_to n Ready own h = absurd (cc)
    over_to n (Fault i) own h = absurd (cc)
    over_to n (Join q) own h = absurd (cc)
    over_to n (Want q) own h = absurd (cc)
    over_to n (Skip k) own h = absurd (cc)
    over_to n All own h = absurd (cc)

    over_back : (n : ℕ) (r : PagerRec) → of_page pager_page page r ≡ true → PagerFault s Over n r → OverAt n page
    over_back n (Place p got content) own h = subst (λ q. OverAt n q) (eqb-true p page own) h
    over_back n (Zero p) own h = subst (λ q. OverAt n q) (eqb-true p page own) h
    over_back n (Got d) own h = absurd h
    over_back n (Pull d) own h = absurd h
    over_back n Ready own h = absurd h
    over_back n (Fault i) own h = absurd h
    over_back n (Join q) own h = absurd h
    over_back n (Want q) own h = absurd h
    over_back n (Skip k) own h = absurd h
    over_back n All own h = absurd h

    is_no : (b : Bool) → not b ≡ true → b ≡ false
    is_no false e = refl
    is_no true e = absurd (cc)

    over_test : (n : ℕ) (r : PagerRec) → slice_get s.pager n ≡ Some r → of_page pager_page page r ≡ true → fault_test s Over (Pager, n) ≡ comes_over n r
    over_test n r is own = fault_is s Over (Pager, n) (comes_over n r) to from
      where
        to : comes_over n r ≡ true → IsPageFault s Over (Pager, n)
        to t =
            let p = and_parts (is_placement_of page r && not (is_some (first_before (λ m. is_placement_of page) s.pager n))) (over s page f are) t in
            let q = and_parts (is_placement_of page r) (not (is_some (first_before (λ m. is_placement_of page) s.pager n))) p.0 in
            subst (λ o. if_fault (PagerFault s Over n) o) (sym is) (over_to n r own (twice_is n ∙ is_no _ q.1, is_over s page f are p.1))

        from : IsPageFault s Over (Pager, n) → comes_over n r ≡ true
        from h =
            let o = over_back n r own (subst (λ o. if_fault (PagerFault s Over n) o) is h) in
            and_from (is_placement_of page r && not (is_some (first_before (λ m. is_placement_of page) s.pager n))) (over s page f are)
            (and_from (is_placement_of page r) (not (is_some (first_before (λ m. is_placement_of page) s.pager n))) (sym (placed_is page r) ∙ own) (ap (λ b. not b) (sym (twice_is n) ∙ o.0)))
            (over_from s page f are o.1)

    over_first : first_before comes_over s.pager (length s.pager) ≡ over_of f
    over_first = go (over s page f are) refl f.placement (sym are.placement) ∙ sym (over_is s page f are)
      where
        when : Bool → ℕ → PagerRec → Bool
        when b n r = (is_placement_of page r && not (is_some (first_before (λ m. is_placement_of page) s.pager n))) && b

        off : (b : Bool) → (b && false) ≡ false
        off true = refl
        off false = refl

        unplaced : (b c : Bool) (n : ℕ) (r : PagerRec) → is_placement_of page r ≡ false → ((is_placement_of page r && b) && c) ≡ false
        unplaced b c n r e = ap (λ x. (x && b) && c) e

        go : (b : Bool) → over s page f are ≡ b → (o : Option ℕ) → first_before (λ m. is_placement_of page) s.pager (length s.pager) ≡ o → first_before comes_over s.pager (length s.pager) ≡ cond b o None
        go false e o k = none_is_first comes_over s.pager (length s.pager) (λ m r is lt. ap (λ b. when b m r) e ∙ off (is_placement_of page r && not (is_some (first_before (λ m. is_placement_of page) s.pager m))))
        go true e None k = none_is_first comes_over s.pager (length s.pager) (λ m r is lt. unplaced _ _ m r (first_none (λ m. is_placement_of page) s.pager (length s.pager) k m r is lt))
        go true e (Some n) k =
            let at = first_some (λ m. is_placement_of page) s.pager (length s.pager) n k in
            let none = none_is_first (λ m. is_placement_of page) s.pager n (λ m r is lt. at.is_first m r is lt) in
            first_is comes_over s.pager (length s.pager) n (record {
              by = at.by;
              stands = at.stands;
              passes_test = and_from (is_placement_of page at.by && not (is_some (first_before (λ m. is_placement_of page) s.pager n))) (over s page f are) (and_from (is_placement_of page at.by) (not (is_some (first_before (λ m. is_placement_of page) s.pager n))) at.passes_test (ap (λ o. not (is_some o)) none)) e;
              below = at.below;
              is_first = λ m r is lt. unplaced _ _ m r (at.is_first m r is lt);
            })

    abbrev over_why : ℕ → PagerRec → Option PageReason
    over_why = or_also comes_over (λ r. Over) no_reason

    abbrev placed_why : ℕ → PagerRec → Option PageReason
    placed_why = or_also (is_placed_wrong s page) placed_reason over_why

    abbrev pager_why : ℕ → PagerRec → Option PageReason
    pager_why = or_also (is_again s page) (λ r. Twice) placed_why

    pager_least : (n : ℕ) (r : PagerRec) → slice_get s.pager n ≡ Some r → of_page pager_page page r ≡ true → reason_at s (Pager, n) ≡ pager_why n r
    pager_least n r is own =
        ap (λ o. or_else (passes (is_second s n) o) Twice (or_else (passes (is_altered s) o) Altered (or_else (passes (is_unfit s) o) Unfit (or_else (fault_test s Over (Pager, n)) Over None)))) is
        ∙ go r own (or_else (fault_test s Over (Pager, n)) Over None)
        ∙ ap (λ b. or_else (is_again s page n r) Twice (or_else (is_placed_wrong s page n r) (placed_reason r) (or_else b Over None))) (over_test n r is own)
      where
        again : ℕ → Bool
        again q = is_some (first_before (λ m. is_placement_of q) s.pager n)

        go : (r : PagerRec) → of_page pager_page page r ≡ true → (rest : Option PageReason) → or_else (is_second s n r) Twice (or_else (is_altered s r) Altered (or_else (is_unfit s r) Unfit rest)) ≡ or_else (is_again s page n r) Twice (or_else (is_placed_wrong s page n r) (placed_reason r) rest)
        go (Place p got content) e rest =
            ap (λ q. or_else (earlier (is_placement_of q) s.pager n) Twice (or_else (not (is_flat_page s (at_halt s) p content)) Altered rest)) (eqb-true p page e)
            ∙ ap (λ b. or_else b Twice (or_else (not (is_flat_page s (at_halt s) p content)) Altered rest)) (twice_is n)
            ∙ ap (λ b. or_else (b && again page) Twice (or_else (b && not (is_flat_page s (at_halt s) p content)) Altered rest)) (sym e)
        go (Zero p) e rest =
            ap (λ q. or_else (earlier (is_placement_of q) s.pager n) Twice (or_else (not (in_ledger s (at_halt s) p)) Unfit rest)) (eqb-true p page e)
            ∙ ap (λ b. or_else b Twice (or_else (not (in_ledger s (at_halt s) p)) Unfit rest)) (twice_is n)
            ∙ ap (λ b. or_else (b && again page) Twice (or_else (b && not (in_ledger s (at_halt s) p)) Unfit rest)) (sym e)
        go (Got d) e rest = absurd (cc)
        go (Pull d) e rest = absurd (cc)
        go Ready e rest = absurd (cc)
        go (Fault i) e rest = absurd (cc)
        go (Join q) e rest = absurd (cc)
        go (Want q) e rest = absurd (cc)
        go (Skip k) e rest = absurd (cc)
        go All e rest = absurd (cc)

    altered_told : (o : Option ℕ) (k : ℕ) (r : PagerRec) → o ≡ Some k → slice_get s.pager k ≡ Some r → altered_reason s o ≡ placed_reason r
    altered_told o k r e is = ap (λ x. altered_reason s x) e ∙ ap (λ x. reason_of x) is

    pager_in : MatchOption (pager_fault s page f) (IsCleanIn s page Pager) (IsFirstIn s page Pager)
    pager_in = first_in s page Pager s.pager pager_page (λ n. refl) pager_why pager_least (pager_fault s page f)
        (one_more page Pager s.pager (of_page pager_page page) (is_again s page) again_only (λ r. Twice) Twice f.again (sym are.again) (λ k r e is. refl) placed_why (least (told page Pager (altered_reason s f.altered) f.altered) (told page Pager Over (over_of f)))
        (one_more page Pager s.pager (of_page pager_page page) (is_placed_wrong s page) (altered_only s page) placed_reason (altered_reason s f.altered) f.altered (sym are.altered) (altered_told f.altered) over_why (told page Pager Over (over_of f))
        (one_alone page Pager s.pager (of_page pager_page page) comes_over over_only (λ r. Over) Over (over_of f) over_first (λ k r e is. refl))))

    -- ---- the first of the three

    clean_in : IsCleanIn s page Guest → IsCleanIn s page Source → IsCleanIn s page Pager → IsClean s page
    clean_in g o p = record { each = λ q name same at. go name (at ∙ ap (λ k. Some k) same) }
      where
        go : (name : Name) → page_at s name ≡ Some page → IsFaultless s name
        go (Guest, n) at = g n at
        go (Source, n) at = o n at
        go (Link, n) at = λ r f. f
        go (Lane, n) at = λ r f. f
        go (Pager, n) at = p n at

    -- the logs before this one have no fault of the page
    abbrev CleanBefore : LogName → Type 0
    CleanBefore log = (name : Name) → page_at s name ≡ Some page → log_index name.0 < log_index log → IsFaultless s name

    found_in : (log : LogName) (x : PageFault) → CleanBefore log → IsFirstIn s page log x → IsFirstFault s page x
    found_in log x before first = record {
      is_among = first.is_page;
      is_of = ap (λ (l : LogName). page_at s (l, x.place)) first.is_log ∙ first.is_of ∙ ap (λ (p : ℕ). Some p) (sym first.is_page);
      is_reason = subst (λ (l : LogName). IsLeastReason s (l, x.place) x.reason) (sym first.is_log) first.is_reason;
      is_first = λ q name same at precedes. go name (at ∙ ap (λ k. Some k) same) precedes;
    }
      where
        same_log : (a b : LogName) → log_index a ≡ log_index b → a ≡ b
        same_log a b e = same_from_test a b (eq-eqb (log_index a) (log_index b) e)

        go : (name : Name) → page_at s name ≡ Some page → Precedes name (x.log, x.place) → IsFaultless s name
        go name at (inl lt) = before name at (subst (λ (l : LogName). log_index name.0 < log_index l) first.is_log lt)
        go name at (inr same) =
            let one : name.0 ≡ log = same_log name.0 x.log same.0 ∙ first.is_log in
            subst (λ (l : LogName). IsFaultless s (l, name.1)) (sym one) (first.below name.1 same.1 (ap (λ (l : LogName). page_at s (l, name.1)) (sym one) ∙ at))

    pub page_fault_is : MatchOption (page_fault s page f) (IsClean s page) (IsFirstFault s page)
    page_fault_is = go (guest_fault page f) guest_in
      where
        before_source : IsCleanIn s page Guest → CleanBefore Source
        before_source g (Guest, n) at lt = g n at
        before_source g (Source, n) at lt = absurd (omega (arith, lt))
        before_source g (Link, n) at lt = λ r f. f
        before_source g (Lane, n) at lt = λ r f. f
        before_source g (Pager, n) at lt = absurd (omega (arith, lt))

        before_pager : IsCleanIn s page Guest → IsCleanIn s page Source → CleanBefore Pager
        before_pager g o (Guest, n) at lt = g n at
        before_pager g o (Source, n) at lt = o n at
        before_pager g o (Link, n) at lt = λ r f. f
        before_pager g o (Lane, n) at lt = λ r f. f
        before_pager g o (Pager, n) at lt = absurd (omega (arith, lt))

        before_guest : CleanBefore Guest
        before_guest name at lt = absurd (omega (arith, lt))

        last : IsCleanIn s page Guest → IsCleanIn s page Source → (o : Option PageFault) → MatchOption o (IsCleanIn s page Pager) (IsFirstIn s page Pager) → MatchOption o (IsClean s page) (IsFirstFault s page)
        last g o None p = clean_in g o p
        last g o (Some x) p = found_in Pager x (before_pager g o) p

        next : IsCleanIn s page Guest → (o : Option PageFault) → MatchOption o (IsCleanIn s page Source) (IsFirstIn s page Source) → MatchOption (or_next o (pager_fault s page f)) (IsClean s page) (IsFirstFault s page)
        next g None o = last g o (pager_fault s page f) pager_in
        next g (Some x) o = found_in Source x (before_source g) o

        go : (o : Option PageFault) → MatchOption o (IsCleanIn s page Guest) (IsFirstIn s page Guest) → MatchOption (or_next o (or_next (source_fault page f) (pager_fault s page f))) (IsClean s page) (IsFirstFault s page)
        go None g = next g (source_fault page f) source_in
        go (Some x) g = found_in Guest x before_guest g
