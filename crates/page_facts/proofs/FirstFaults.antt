-- The first fault of a page in a log, one reason after the other.
use Rattle.std.proofs.Common.{◌≡◌, ℕ, ◌<◌, ◌≤◌, ◌⊎◌, inl, inr, Bool, true, false, cond, List, length, Option, Some, None, refl, sym, ap, ◌∙◌, subst, arith}
use Rattle.std.specs.Prelude.{slice_get}
use Rattle.std.specs.Option.{MatchOption}
use Rattle.std.proofs.lemmas.Bool.{cases_lt}
use Rattle.std.proofs.lemmas.Option.{slice_get_within}
use Rattle.migration_types.specs.declared.records.LogName.{LogName}
use Rattle.migration_types.specs.Receipts.{log_index}
use Rattle.audit_model.specs.declared.reasons.PageReason.{PageReason}
use Rattle.page_facts.specs.Tables.{first_before}
use Rattle.page_facts.specs.declared.page_fault.PageFault.{PageFault}
use Rattle.page_facts.specs.inner.FirstOfLog.{or_else}
use Rattle.page_facts.specs.inner.OfFindings.{fault, told, precedes, least}
use Rattle.page_facts.proofs.Before.{first_none, first_some}
use Rattle.page_facts.proofs.Lines.{precedes_is, is_precedes}

-- why a record is a fault, of those records of a log that are a page's own: of none of them, or first of this one
pub record IsClearBy {A : Type 0} (log : List A) (own : A → Bool) (why : ℕ → A → Option PageReason) : Type 0 where
  pub each : (n : ℕ) (r : A) → slice_get log n ≡ Some r → own r ≡ true → why n r ≡ None

pub record IsFirstBy {A : Type 0} (page : ℕ) (name : LogName) (log : List A) (own : A → Bool) (why : ℕ → A → Option PageReason) (f : PageFault) : Type 0 where
  pub is_page : f.page ≡ page
  pub is_log : f.log ≡ name
  pub by : A
  pub stands : slice_get log f.place ≡ Some by
  pub is_own : own by ≡ true
  pub is_why : why f.place by ≡ Some f.reason
  pub below : (n : ℕ) (r : A) → n < f.place → slice_get log n ≡ Some r → own r ≡ true → why n r ≡ None

abbrev pub FirstBy : {A : Type 0} → ℕ → LogName → List A → (A → Bool) → (ℕ → A → Option PageReason) → Option PageFault → Type 0
FirstBy page name log own why o = MatchOption o (IsClearBy log own why) (IsFirstBy page name log own why)

-- this reason before the others
abbrev pub or_also : {A : Type 0} → (ℕ → A → Bool) → (A → PageReason) → (ℕ → A → Option PageReason) → ℕ → A → Option PageReason
or_also test reason why n r = or_else (test n r) (reason r) (why n r)

abbrev pub no_reason : {A : Type 0} → ℕ → A → Option PageReason
no_reason n r = None

alone : (o : Option PageFault) → least o None ≡ o
alone None = refl
alone (Some f) = refl

module _ {A : Type 0} (page : ℕ) (name : LogName) (log : List A) (own : A → Bool) (t : ℕ → A → Bool) (only : (n : ℕ) (r : A) → t n r ≡ true → own r ≡ true) (at : A → PageReason) (reason : PageReason) (place : Option ℕ) (is_place : first_before t log (length log) ≡ place) (is_reason : (k : ℕ) (r : A) → place ≡ Some k → slice_get log k ≡ Some r → reason ≡ at r) where
  -- before the first that passes none does
  fails : (o : Option ℕ) → first_before t log (length log) ≡ o → (n : ℕ) (r : A) → slice_get log n ≡ Some r → ((k : ℕ) → o ≡ Some k → n < k) → t n r ≡ false
  fails None e n r is lt = first_none t log (length log) e n r is (slice_get_within log n r is)
  fails (Some k) e n r is lt = (first_some t log (length log) k e).is_first n r is (lt k refl)

  module _ (why : ℕ → A → Option PageReason) where
    passed : (n : ℕ) (r : A) (a : PageReason) → a ≡ at r → t n r ≡ true → or_also t at why n r ≡ Some a
    passed n r a e h = ap (λ b. or_else b (at r) (why n r)) h ∙ ap (λ (x : PageReason). Some x) (sym e)

    failed : (n : ℕ) (r : A) → t n r ≡ false → or_also t at why n r ≡ why n r
    failed n r h = ap (λ b. or_else b (at r) (why n r)) h

    -- the first by this reason, where the others' first is not before it
    here : (k : ℕ) → first_before t log (length log) ≡ Some k → ((r : A) → slice_get log k ≡ Some r → reason ≡ at r) → ((n : ℕ) (r : A) → n < k → slice_get log n ≡ Some r → own r ≡ true → why n r ≡ None) → IsFirstBy page name log own (or_also t at why) (fault page name k reason)
    here k e same before =
        let first = first_some t log (length log) k e in
        record {
          is_page = refl;
          is_log = refl;
          by = first.by;
          stands = first.stands;
          is_own = only k first.by first.passes_test;
          is_why = passed k first.by reason (same first.by first.stands) first.passes_test;
          below = λ n r lt is mine. failed n r (first.is_first n r is lt) ∙ before n r lt is mine;
        }

    -- the first by the others, where the first by this reason is not before it or of the same record
    there : (f : PageFault) → IsFirstBy page name log own why f → ((n : ℕ) (r : A) → slice_get log n ≡ Some r → n ≤ f.place → t n r ≡ false) → IsFirstBy page name log own (or_also t at why) f
    there f first none = record {
      is_page = first.is_page;
      is_log = first.is_log;
      by = first.by;
      stands = first.stands;
      is_own = first.is_own;
      is_why = failed f.place first.by (none f.place first.by first.stands (omega arith)) ∙ first.is_why;
      below = λ n r lt is mine. failed n r (none n r is (omega (arith, lt))) ∙ first.below n r lt is mine;
    }

    go : (p : Option ℕ) → first_before t log (length log) ≡ p → ((k : ℕ) (r : A) → p ≡ Some k → slice_get log k ≡ Some r → reason ≡ at r) → (o : Option PageFault) → FirstBy page name log own why o → FirstBy page name log own (or_also t at why) (least (told page name reason p) o)
    go None e same None rest = record { each = λ n r is mine. failed n r (fails None e n r is (λ k i. absurd (cc))) ∙ rest.each n r is mine }
    go None e same (Some f) rest = there f rest (λ n r is le. fails None e n r is (λ k i. absurd (cc)))
    go (Some k) e same None rest = here k e (λ r is. same k r refl is) (λ n r lt is mine. rest.each n r is mine)
    go (Some k) e same (Some f) rest = by (precedes f (fault page name k reason)) refl
      where
        less : precedes f (fault page name k reason) ≡ true → f.place < k
        less p = parts (precedes_is f (fault page name k reason) p)
          where
            parts : (log_index f.log < log_index name) ⊎ ((log_index f.log ≡ log_index name) × (f.place < k)) → f.place < k
            parts (inl lt) = let one = ap (λ (l : LogName). log_index l) rest.is_log in absurd (omega (arith, lt, one))
            parts (inr two) = two.1

        no_less : precedes f (fault page name k reason) ≡ false → (f.place < k) ⊎ (k ≤ f.place) → k ≤ f.place
        no_less p (inr le) = le
        no_less p (inl lt) = let yes = is_precedes f (fault page name k reason) (inr (ap (λ (l : LogName). log_index l) rest.is_log, lt)) in absurd (cc)

        by : (b : Bool) → precedes f (fault page name k reason) ≡ b → FirstBy page name log own (or_also t at why) (cond b (Some f) (Some (fault page name k reason)))
        by true p = let lt = less p in there f rest (λ n r is le. fails (Some k) e n r is (λ j i. let one : k ≡ j = cc in omega (arith, lt, le, one)))
        by false p = let le = no_less p (cases_lt f.place k) in here k e (λ r is. same k r refl is) (λ n r lt is mine. rest.below n r (omega (arith, lt, le)) is mine)

    pub one_more : (o : Option PageFault) → FirstBy page name log own why o → FirstBy page name log own (or_also t at why) (least (told page name reason place) o)
    one_more o rest = go place is_place is_reason o rest

  -- this reason alone
  pub one_alone : FirstBy page name log own (or_also t at no_reason) (told page name reason place)
  one_alone = subst (λ (o : Option PageFault). FirstBy page name log own (or_also t at no_reason) o) (alone (told page name reason place)) (one_more no_reason None (record { each = λ n r is mine. refl }))
