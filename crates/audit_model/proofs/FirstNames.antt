-- The first names of an order, one after another.
use Rattle.std.proofs.Common.{◌≡◌, ℕ, suc, cond, ◌+◌, ◌<◌, ◌≤◌, true, false, List, length, take, drop, get_or, refl, sym, ap, ◌∙◌, subst, arith, eqb-true, eq-eqb}
use Rattle.std.specs.Prelude.{Option, Some, None, nat_lt, ◌==◌}
use Rattle.std.specs.Bool.{Decides}
use Rattle.std.proofs.lemmas.Bool.{and_from, and_parts, lt-ltb, ltb-true}
use Rattle.std.proofs.lemmas.List.{take_more, take_all}
use Rattle.std.proofs.Math.Seq.{split_at}
use Rattle.migration_types.specs.declared.records.LogName.{LogName}
use Rattle.migration_types.specs.declared.records.LogName.TheVariants.{Guest, Source, Link, Lane, Pager}
use Rattle.migration_types.specs.Receipts.{Name}
use Rattle.migration_types.specs.Sessions.{Recorded}
use Rattle.audit_model.specs.Names.{log_length, receipt, same_log}
use Rattle.audit_model.specs.Mergings.{StandsAfter, IsMerging, Cursors, at_start}
use Rattle.audit_model.specs.Walks.{next, cursors_from, MayFollow, Walks}
use Rattle.audit_model.specs.FoundOrder.{is_received}
use Rattle.audit_model.specs.inner.MergingTests.{may, all_taken}
use Rattle.audit_model.proofs.Cuts.{cursors_push, may_follow}
use Rattle.audit_model.proofs.Grown.{walks_push}
use Rattle.audit_model.proofs.Walked.{merging_is_walk, walk_is_merging}

pub stands_here : (order : List Name) (at : ℕ) (d : Name) → at < length order → StandsAfter order (take at order) (get_or order at d)
stands_here order at d lt = (drop (suc at) order, split_at order at d lt)

pub cursors_more : (order : List Name) (at : ℕ) (d : Name) → at < length order → cursors_from at_start (take (at + 1) order) ≡ next (cursors_from at_start (take at order)) (get_or order at d).0
cursors_more order at d lt = ap (λ names. cursors_from at_start names) (take_more order at d lt) ∙ cursors_push at_start (take at order) (get_or order at d)

-- whether a name counts for a log
pub counts_more : (order : List Name) (at count : ℕ) (d : Name) (log : LogName) → at < length order → count ≡ cursors_from at_start (take at order) log → same_log (get_or order at d).0 log ≡ true → count + 1 ≡ cursors_from at_start (take (at + 1) order) log
counts_more order at count d log lt is same =
    let e = ap (λ (c : Cursors). c log) (cursors_more order at d lt) in
    let f = ap (λ b. cond b (suc (cursors_from at_start (take at order) log)) (cursors_from at_start (take at order) log)) same in
    omega (arith, e, f, is)

pub counts_same : (order : List Name) (at count : ℕ) (d : Name) (log : LogName) → at < length order → count ≡ cursors_from at_start (take at order) log → same_log (get_or order at d).0 log ≡ false → count ≡ cursors_from at_start (take (at + 1) order) log
counts_same order at count d log lt is other =
    let e = ap (λ (c : Cursors). c log) (cursors_more order at d lt) in
    let f = ap (λ b. cond b (suc (cursors_from at_start (take at order) log)) (cursors_from at_start (take at order) log)) other in
    omega (arith, e, f, is)

received_Decides : (c : Cursors) (o : Option Name) → Decides (is_received c o) ((sent : Name) → o ≡ Some sent → sent.1 < c sent.0)
received_Decides c None = (λ e sent is. absurd (cc), λ f. refl)
received_Decides c (Some name) = (
  λ e sent is. let same : name ≡ sent = cc in subst (λ k. k.1 < c k.0) same (ltb-true name.1 (c name.0) e),
  λ f. lt-ltb name.1 (c name.0) (f name refl),
)

pub may_Decides : (s : Recorded) (c : Cursors) (name : Name) → Decides (may s c name) (MayFollow s c name)
may_Decides s c name = (
  λ e.
      let a = and_parts (name.1 == c name.0) _ e in
      let b = and_parts (nat_lt name.1 (log_length s name.0)) _ a.1 in
      record { is_next = eqb-true _ _ a.0; is_there = ltb-true _ _ b.0; sent_before = (received_Decides c (receipt s name)).0 b.1 },
  λ m. and_from (name.1 == c name.0) _ (eq-eqb _ _ m.is_next)
      (and_from (nat_lt name.1 (log_length s name.0)) _ (lt-ltb _ _ m.is_there) ((received_Decides c (receipt s name)).1 m.sent_before)),
)

pub walks_more : (s : Recorded) (order : List Name) (at : ℕ) (d : Name) → at < length order → Walks s at_start (take at order) → may s (cursors_from at_start (take at order)) (get_or order at d) ≡ true → Walks s at_start (take (at + 1) order)
walks_more s order at d lt walks e =
    subst (λ names. Walks s at_start names) (sym (take_more order at d lt))
    (walks_push s at_start (take at order) (get_or order at d) walks ((may_Decides s (cursors_from at_start (take at order)) (get_or order at d)).0 e))

-- a name that may not follow stands in no merging
pub no_merging : (s : Recorded) (order : List Name) (at : ℕ) (d : Name) → at < length order → may s (cursors_from at_start (take at order)) (get_or order at d) ≡ false → IsMerging s order → ⊥
no_merging s order at d lt e merging =
    let stands = stands_here order at d lt in
    let m = may_follow s (take at order) (get_or order at d) stands.0 (subst (λ names. IsMerging s names) stands.1 merging) in
    let f = (may_Decides s (cursors_from at_start (take at order)) (get_or order at d)).1 m in
    absurd (cc)

all_taken_Decides : (s : Recorded) (c : Cursors) → Decides (all_taken s c) ((l : LogName) → c l ≡ log_length s l)
all_taken_Decides s c = (
  λ e l.
      let a = and_parts (c Guest == log_length s Guest) _ e in
      let b = and_parts (c Source == log_length s Source) _ a.1 in
      let d = and_parts (c Link == log_length s Link) _ b.1 in
      let e = and_parts (c Lane == log_length s Lane) _ d.1 in
      each (eqb-true _ _ a.0) (eqb-true _ _ b.0) (eqb-true _ _ d.0) (eqb-true _ _ e.0) (eqb-true _ _ e.1) l,
  λ f. and_from (c Guest == log_length s Guest) _ (eq-eqb _ _ (f Guest))
      (and_from (c Source == log_length s Source) _ (eq-eqb _ _ (f Source))
      (and_from (c Link == log_length s Link) _ (eq-eqb _ _ (f Link))
      (and_from (c Lane == log_length s Lane) _ (eq-eqb _ _ (f Lane)) (eq-eqb _ _ (f Pager))))),
)
  where
    each : c Guest ≡ log_length s Guest → c Source ≡ log_length s Source → c Link ≡ log_length s Link → c Lane ≡ log_length s Lane → c Pager ≡ log_length s Pager → (l : LogName) → c l ≡ log_length s l
    each g s l n p Guest = g
    each g s l n p Source = s
    each g s l n p Link = l
    each g s l n p Lane = n
    each g s l n p Pager = p

-- where each name may follow, the list is a merging exactly where each log is taken to its end
pub whole_Decides : (s : Recorded) (order : List Name) → Walks s at_start order → Decides (all_taken s (cursors_from at_start order)) (IsMerging s order)
whole_Decides s order walks = (
  λ e. walk_is_merging s order (walks, (all_taken_Decides s (cursors_from at_start order)).0 e),
  λ m. (all_taken_Decides s (cursors_from at_start order)).1 (merging_is_walk s order m).1,
)

pub walked_all : (s : Recorded) (order : List Name) (at : ℕ) → length order ≤ at → Walks s at_start (take at order) → Walks s at_start order
walked_all s order at le walks = subst (λ names. Walks s at_start names) (take_all at order le) walks
