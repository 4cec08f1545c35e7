use Rattle.std.proofs.Common.{◌≡◌, ◌++◌, ℕ, List, length, ap, sym, refl, ◌∙◌, arith}
use Rattle.std.specs.List.{flat_map}
use Rattle.page_stream.specs.Bytes.{number_bytes}
use Rattle.page_stream.proofs.Words.{same_number, only_state, length_numbers, rises_few}
use Rattle.page_stream.proofs.decoding.state_of.Goals as goal

pub returns-then-rest-count : goal.returns-then-rest-count
returns-then-rest-count c = only_state c.args.geometry c.args.number c.args.fields.now (λ rel r e.
    let s = same_number c.in-Some.count (length rel) c.in-Some.rest.now (flat_map number_bytes rel) c.in-Some.ensures.1 (omega (arith, rises_few c.args.geometry.pages rel r, c.keeps_limits.ensures.few_pages)) (sym c.in-Some.ensures.0 ∙ e) in
    absurd (omega (arith, s.0, ap length s.1, length_numbers rel, c.if-rest-count.true)))

pub returns-in_ok-released-in-Some-2 : goal.returns-in_ok-released-in-Some-2
returns-in_ok-released-in-Some-2 c =
    let h = (rw c.in-Some-2.is at c.in_ok-pages_of-in-Some.ensures) in
    let count : c.in-Some.count ≡ length c.in-Some-2.pages.items = omega (arith, ap length h.1, length_numbers c.in-Some-2.pages.items, c.if-rest-count.false) in
    record {
      fits = record { number = c.requires; fields = rw c.in_ok-released-in-Some-2.ensures h.0 };
      kind_is = refl;
      number_is = refl;
      fields_are = rw c.in_ok-released-in-Some-2.ensures (c.in-Some.ensures.0 ∙ rw (← count) (ap (λ (t : List ℕ). number_bytes c.in-Some.count ++ t) h.1));
    }
