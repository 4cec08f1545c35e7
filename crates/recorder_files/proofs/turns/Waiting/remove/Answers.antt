use Rattle.std.proofs.Common.{◌≡◌, Some, inl, inr, ◌∙◌, slice_get, length, vec_len, rules, heap_items}
use Rattle.std.proofs.lemmas.Option.{slice_get_read}
use Rattle.recorder_files.specs.inner.Turns.{place_of}
use Rattle.recorder_files.proofs.Waiting.{others_stay, placed_on}
use Rattle.recorder_files.proofs.turns.Waiting.remove.Goals as goal

pub returns-in-Some-clause-others : goal.returns-in-Some-clause-others
returns-in-Some-clause-others c = λ n j other waits. elim waits [
  | inl placed ↦ inl placed
  | inr queued ↦ inr (others_stay (heap_items c.args.self.now.queue) (heap_items c.pop-first.new.self) c.in-Some.field-0 c.in-Some.ensures.permutation n j other queued)
]

pub returns-clause-others : goal.returns-clause-others
returns-clause-others c = λ n j other waits.
    let table = c.args.self.now.table.items in
    let place = c.place_of-place.result in
    let held : vec_len c.args.self.now.table ≡ length table = search rules in
    let there : slice_get table place ≡ Some c.index-file.result.now = slice_get_read table c.len.result place c.index-file.result.now (c.len.ensures ∙ held) c.if-place-len.false c.index-file.ensures in
    elim waits [
      | inl placed ↦ inl (placed_on table place (place_of c.args.self.now n) c.index-file.result.now 18446744073709551615 j there other placed)
      | inr queued ↦ inr queued
    ]
