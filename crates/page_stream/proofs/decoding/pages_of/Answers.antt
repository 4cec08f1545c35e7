use Rattle.std.proofs.Common.{◌≡◌, ◌<◌, ◌≤◌, ◌++◌, ◌∷◌, [], ap, arith, sym, ◌∙◌, append_assoc, refl}
use Rattle.std.proofs.lemmas.List.{append-nil}
use Rattle.std.specs.List.{flat_map}
use Rattle.page_stream.specs.Bytes.{number_bytes}
use Rattle.page_stream.proofs.Words.{next_number, few_numbers, more_numbers, nil_of}
use Rattle.page_stream.proofs.decoding.pages_of.Goals as goal
use Rattle.page_stream.proofs.decoding.pages_of.Goals.{then-page-next-via-then-page-next, then-page-next-via-else-page-next+then-page-pages}

pub returns-then-page-next : goal.returns-then-page-next
returns-then-page-next c = λ ps r e.
    let h = c.loop-page.invariant.only ps r e in
    let n = next_number c.loop-page.next c.args.geometry.pages c.in-Some.page c.in-Some.after.now h.0 c.in-Some.ensures.1 c.keeps_limits.ensures.few_pages h.1 (sym c.in-Some.ensures.0 ∙ h.2) in
    elim c.then-page-next.branch [
      | then-page-next-via-then-page-next w ↦ absurd (omega (arith, n.1, w.if-page-next.true))
      | then-page-next-via-else-page-next+then-page-pages w ↦ absurd (omega (arith, n.2, w.if-page-pages.true))
    ]

pub loop-page-preserved : goal.loop-page-preserved
loop-page-preserved c =
    let pushed : c.push.new.self.items ≡ c.loop-page.pages.items ++ c.in-Some.page ∷ [] = grind (arith, c.in_ok-push.ensures, c.new.ensures) in
    record {
      whole = c.loop-page.invariant.whole ∙ ap (λ t. flat_map number_bytes c.loop-page.pages.items ++ t) c.in-Some.ensures.0 ∙ more_numbers c.loop-page.pages.items c.in-Some.page c.in-Some.after.now ∙ ap (λ t. flat_map number_bytes t ++ c.in-Some.after.now) (sym pushed);
      back = λ ps r.
          let n : c.in-Some.page < c.args.geometry.pages = omega arith in
          let m : c.loop-page.next ≤ c.in-Some.page = omega arith in
          rw (pushed, append_assoc c.loop-page.pages.items (c.in-Some.page ∷ []) ps) (c.loop-page.invariant.back (c.in-Some.page ∷ ps) (m, n, r));
      only = λ ps r e.
          let h = c.loop-page.invariant.only ps r e in
          let n = next_number c.loop-page.next c.args.geometry.pages c.in-Some.page c.in-Some.after.now h.0 c.in-Some.ensures.1 c.keeps_limits.ensures.few_pages h.1 (sym c.in-Some.ensures.0 ∙ h.2) in
          (n.0, n.3, n.4);
    }

pub returns-then-is_empty : goal.returns-then-is_empty
returns-then-is_empty c =
    let none : c.loop-page.rest.now ≡ [] = nil_of c.loop-page.rest.now (grind (arith, c.is_empty.ensures, c.if-is_empty.true)) in (
      rw (← append-nil c.loop-page.pages.items) (c.loop-page.invariant.back [] tt),
      c.loop-page.invariant.whole ∙ rw (none, append-nil (flat_map number_bytes c.loop-page.pages.items)) refl,
    )

pub returns-else-is_empty : goal.returns-else-is_empty
returns-else-is_empty c = λ ps r e.
    let h = c.loop-page.invariant.only ps r e in
    let none : c.loop-page.rest.now ≡ [] = few_numbers c.loop-page.next c.args.geometry.pages c.loop-page.rest.now h.0 c.in_default.ensures h.2 in
    absurd (grind (arith, none, c.is_empty.ensures, c.if-is_empty.false))
