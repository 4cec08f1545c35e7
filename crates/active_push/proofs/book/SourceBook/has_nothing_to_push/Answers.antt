use Rattle.std.proofs.Common.{◌≡◌, ℕ, Bool, true, false, nat_eq, sym, ap, ◌∙◌, subst, refl}
use Rattle.std.specs.Prelude.{MatchBool}
use Rattle.migration_types.specs.PageSets.{Pages, size_below}
use Rattle.active_push.specs.SourcePart.{source_push, silent, unsent}
use Rattle.active_push.specs.Books.{SourceKept, part_of}
use Rattle.active_push.specs.inner.Wanted.{HasNext}
use Rattle.std.proofs.lemmas.Bool.{eqb-true, eqb-false}
use Rattle.active_push.specs.contracts.book.SourceBook.{the_view}
use Rattle.active_push.proofs.Calls.{push_none, push_some}
use Rattle.active_push.proofs.book.SourceBook.has_nothing_to_push.Goals as goal

pub returns-else-self : goal.returns-else-self
returns-else-self c = subst (λ (k : SourceKept). MatchBool (nat_eq c.left.result 0) (source_push (part_of k) ≡ silent (part_of k)) (HasNext (part_of k))) c.self.view_is (go (nat_eq c.left.result 0) refl)
  where
    k : SourceKept
    k = the_view c.self.inside

    size : c.left.result ≡ size_below k.frames.geometry.pages (unsent (part_of k))
    size = c.left.ensures ∙ ap (λ (s : Pages). size_below k.bubbles.geometry.pages s) c.self.invariant.unsent_is ∙ ap (λ (n : ℕ). size_below n (unsent (part_of k))) (ap (λ e. e.pages) c.self.invariant.bubbles)

    go : (t : Bool) → nat_eq c.left.result 0 ≡ t → MatchBool t (source_push (part_of k) ≡ silent (part_of k)) (HasNext (part_of k))
    go true t = push_none (part_of k) c.if-self.false (sym size ∙ eqb-true c.left.result 0 t)
    go false t = push_some (part_of k) c.if-self.false (λ e. eqb-false c.left.result 0 t (size ∙ e))
