use Rattle.std.proofs.Common.{◌≡◌, ◌+◌, ◌<◌, ◌≤◌, ◌⊎◌, inl, inr, List, length, refl, ap, arith}
use Rattle.migration_types.specs.declared.records.PagerRec.{PagerRec}
use Rattle.page_facts.proofs.Looking.{look_further, look_same, noted_start}
use Rattle.page_facts.proofs.looks.take_look.Goals as goal
use Rattle.page_facts.proofs.looks.take_look.Goals.{then-seen-records, else-seen-records}

pub note_reached-requires-clause-noted : goal.note_reached-requires-clause-noted
note_reached-requires-clause-noted c = noted_start c.args.session.now c.args.n c.args.looks.now c.requires.looks

pub returns-then-looks-to : goal.returns-then-looks-to
returns-then-looks-to c =
    let s = c.args.session.now in
    let k = c.args.placement in
    let to = c.if-seen-records.to in
    let all = ap (λ (xs : List PagerRec). length xs) c.pager-records.ensures in
    let reach : ((k < length s.pager) × (to ≡ k + 1)) ⊎ ((length s.pager ≤ k) × (to ≡ length s.pager)) =
    elim c.if-seen-records.branch [ then-seen-records w ↦ inl (omega (arith, all, w.if-seen-records), omega (arith, all, w.to-is)) | else-seen-records w ↦ inr (omega (arith, all, w.if-seen-records), omega (arith, all, w.to-is)) ] in
    look_further s c.args.n k to reach c.args.looks.now _ c.requires.looks c.if-looks-to.true (elim reach [ inl h ↦ omega (arith, h.0, h.1) | inr h ↦ omega (arith, h.1) ]) c.note_reached.ensures refl

pub returns-else-looks-to : goal.returns-else-looks-to
returns-else-looks-to c =
    let s = c.args.session.now in
    let k = c.args.placement in
    let to = c.if-seen-records.to in
    let all = ap (λ (xs : List PagerRec). length xs) c.pager-records.ensures in
    let reach : ((k < length s.pager) × (to ≡ k + 1)) ⊎ ((length s.pager ≤ k) × (to ≡ length s.pager)) =
    elim c.if-seen-records.branch [ then-seen-records w ↦ inl (omega (arith, all, w.if-seen-records), omega (arith, all, w.to-is)) | else-seen-records w ↦ inr (omega (arith, all, w.if-seen-records), omega (arith, all, w.to-is)) ] in
    look_same s c.args.n k to reach c.args.looks.now c.requires.looks c.if-looks-to.false
