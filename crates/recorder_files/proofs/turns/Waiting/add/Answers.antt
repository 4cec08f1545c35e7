use Rattle.std.proofs.Common.{◌≡◌, Some, None, inl, inr, refl, sym, subst, ◌∙◌, set, slice_get, length, vec_len, arith, rules, heap_items}
use Rattle.std.proofs.lemmas.Option.{get_or_from_slice_get, slice_get_read, slice_get_within}
use Rattle.recorder_files.specs.inner.Turns.{IsInOrder, IsQueued, place_of}
use Rattle.recorder_files.proofs.Waiting.{placed_now, placed_on, queued_now, queued_on}
use Rattle.recorder_files.proofs.turns.Waiting.add.Goals as goal

pub returns-in_err-push-clause-kept : goal.returns-in_err-push-clause-kept
returns-in_err-push-clause-kept c =
    let same : heap_items c.push.new.self ≡ heap_items c.args.self.now.queue = c.in_err-push.ensures.unchanged.0 in
    record { order = subst IsInOrder (sym same) c.requires.order; least = λ n j queued. c.requires.least n j (subst (λ q. IsQueued q n j) same queued) }

pub returns-then-heads-index-clause-others : goal.returns-then-heads-index-clause-others
returns-then-heads-index-clause-others c = λ n j within waits.
    let table = c.args.self.now.table.items in
    let place = c.place_of-place.result in
    let held : vec_len c.args.self.now.table ≡ length table = search rules in
    let there : slice_get table place ≡ Some c.index.result.now = slice_get_read table c.len.result place c.index.result.now (c.len.ensures ∙ held) c.if-place-len.true c.index.ensures in
    elim waits [
      | inl placed ↦ inl (placed_on table place (place_of c.args.self.now n) c.index.result.now c.args.file j there (λ same. omega (arith, same, within, c.if-heads-index.true)) placed)
      | inr queued ↦ inr queued
    ]

pub returns-then-heads-index-clause-waits : goal.returns-then-heads-index-clause-waits
returns-then-heads-index-clause-waits c = λ n has.
    let table = c.args.self.now.table.items in
    let place = c.place_of-place.result in
    let e = c.in-Some.is in
    let f = get_or_from_slice_get c.args.heads.now c.args.file (Some n) None has in
    let same : c.in-Some.number ≡ n = cc in
    let at : place ≡ place_of c.args.self.now n = subst (λ m. place ≡ place_of c.args.self.now m) same c.place_of-place.ensures in
    let held : vec_len c.args.self.now.table ≡ length table = search rules in
    let there : slice_get table place ≡ Some c.index.result.now = slice_get_read table c.len.result place c.index.result.now (c.len.ensures ∙ held) c.if-place-len.true c.index.ensures in
    inl (subst (λ p. slice_get (set table place c.args.file) p ≡ Some c.args.file) at (placed_now table place c.args.file (slice_get_within table place c.index.result.now there)))

pub returns-in_ok-push-clause-others : goal.returns-in_ok-push-clause-others
returns-in_ok-push-clause-others c = λ n j within waits. elim waits [
  | inl placed ↦ inl placed
  | inr queued ↦ inr (queued_on (heap_items c.args.self.now.queue) (heap_items c.push.new.self) _ c.in_ok-push.ensures.permutation n j queued)
]

pub returns-in_ok-push-clause-waits : goal.returns-in_ok-push-clause-waits
returns-in_ok-push-clause-waits c = λ n has. let e = c.in-Some.is in let f = get_or_from_slice_get c.args.heads.now c.args.file (Some n) None has in inr (queued_now (heap_items c.args.self.now.queue) (heap_items c.push.new.self) _ n c.args.file c.in_ok-push.ensures.permutation (cc) refl)

pub returns-in_default-clause-waits : goal.returns-in_default-clause-waits
returns-in_default-clause-waits c = λ n has. let e = c.in_default.is in let f = get_or_from_slice_get c.args.heads.now c.args.file (Some n) None has in absurd (cc)

pub returns-else-file-heads-clause-waits : goal.returns-else-file-heads-clause-waits
returns-else-file-heads-clause-waits c = λ n has. let within = slice_get_within c.args.heads.now c.args.file (Some n) has in absurd (omega (arith, within, c.if-file-heads.false))
