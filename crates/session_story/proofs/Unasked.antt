-- The pages that the source is asked for, record by record.
use Rattle.std.proofs.Common.{◌≡◌, ℕ, suc, ◌+◌, Bool, true, false, cond, not, ◌||◌, ◌&&◌, List, Some, refl, sym, ap, ◌∙◌, subst, arith}
use Rattle.std.specs.Prelude.{slice_get, ◌==◌}
use Rattle.migration_types.specs.declared.records.SourceRec.{SourceRec}
use Rattle.migration_types.specs.declared.records.SourceRec.TheVariants.{Halted, State, Send, Again, Ask, Done, Back}
use Rattle.migration_types.specs.Sessions.{Recorded}
use Rattle.audit_model.specs.Flat.{changed}
use Rattle.audit_model.specs.Shape.{passes}
use Rattle.page_facts.specs.Tables.{IsTable}
use Rattle.page_store.specs.Tables.{Values, values, IsWith, with_value}
use Rattle.session_story.specs.Counted.{asked_after, asked_for, is_push, was_asked}
use Rattle.session_story.specs.inner.Asked.{asked_by, is_unasked}

-- ---- what a record leaves

or_marked : (b c : Bool) → cond b true c ≡ (b || (c && true))
or_marked true c = refl
or_marked false true = refl
or_marked false false = refl

and_unmarked : (b c : Bool) → cond b false c ≡ (c && not b)
and_unmarked true true = refl
and_unmarked true false = refl
and_unmarked false true = refl
and_unmarked false false = refl

-- the page that is asked for is marked
pub marked_asked : (s : Recorded) (r : SourceRec) (page : ℕ) (at : ℕ → Bool) → asked_for s r ≡ Some page → with_value page true at ≡ asked_by s r at
marked_asked s (Ask up) page at is = λ i q. each q i
  where
    each : (q : ℕ) → with_value page true at q ≡ asked_by s (Ask up) at q
    each q = or_marked (page == q) (at q) ∙ ap (λ o. passes (λ p. p == q) o || (at q && true)) (sym is)
marked_asked s (Halted h) page at is = absurd (cc)
marked_asked s State page at is = absurd (cc)
marked_asked s (Send p content) page at is = absurd (cc)
marked_asked s (Again n) page at is = absurd (cc)
marked_asked s Done page at is = absurd (cc)
marked_asked s Back page at is = absurd (cc)

-- the page that is sent is not
pub unmarked_sent : (s : Recorded) (page : ℕ) (content : List ℕ) (at : ℕ → Bool) → with_value page false at ≡ asked_by s (Send page content) at
unmarked_sent s page content at = λ i q. and_unmarked (page == q) (at q) i

-- ---- one record more

asked_next : (s : Recorded) (n : ℕ) (r : SourceRec) → slice_get s.source n ≡ Some r → asked_by s r (λ page. was_asked s page n) ≡ (λ page. was_asked s page (suc n))
asked_next s n r is = λ i p. page p i
  where
    page : (p : ℕ) → asked_by s r (λ q. was_asked s q n) p ≡ was_asked s p (suc n)
    page p = ap (λ o. changed (asked_after s p) o (was_asked s p n)) (sym is)

pub asked_on : (s : Recorded) (n : ℕ) (r : SourceRec) (old new : Values Bool) → slice_get s.source n ≡ Some r → IsTable s.geometry.pages old (λ page. was_asked s page n) → IsWith old new (asked_by s r (values old)) → IsTable s.geometry.pages new (λ page. was_asked s page (n + 1))
asked_on s n r old new is was on =
    let one : suc n ≡ n + 1 = omega arith in
    subst (λ k. IsTable s.geometry.pages new (λ page. was_asked s page k)) one (record {
      pages_are = on.pages ∙ was.pages_are;
      values_are = on.values_are ∙ ap (asked_by s r) was.values_are ∙ asked_next s n r is;
    })

-- a record that sends a page which is not among those that are asked for sends it unasked
pub unasked_is : (s : Recorded) (n : ℕ) (r : SourceRec) (at : ℕ → Bool) → at ≡ (λ page. was_asked s page n) → is_unasked at r ≡ is_push s n r
unasked_is s n (Send page content) at is = ap (λ (f : ℕ → Bool). not (f page)) is
unasked_is s n (Halted h) at is = refl
unasked_is s n State at is = refl
unasked_is s n (Again m) at is = refl
unasked_is s n (Ask up) at is = refl
unasked_is s n Done at is = refl
unasked_is s n Back at is = refl
