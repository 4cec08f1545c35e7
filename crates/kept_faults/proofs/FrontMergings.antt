-- Mergings of logs that are cut to a front.
use Rattle.std.proofs.Common.{◌≡◌, ◌↔◌, ℕ, suc, ◌<◌, ◌≤◌, Bool, true, false, cond, not, List, [], ◌∷◌, ◌++◌, refl, sym, ap, ◌∙◌, subst, arith, Some}
use Rattle.std.specs.Prelude.{min, max}
use Rattle.std.proofs.lemmas.Bool.{lt-ltb, ltb-true, ltb-false}
use Rattle.migration_types.specs.declared.records.LogName.{LogName}
use Rattle.migration_types.specs.Receipts.{Name}
use Rattle.migration_types.specs.Sessions.{Recorded}
use Rattle.audit_model.specs.Names.{receipt, same_log}
use Rattle.audit_model.specs.Mergings.{IsMerging, HasMerging, Cursors, at_start}
use Rattle.audit_model.specs.Walks.{next, cursors_from, MayFollow, Walks}
use Rattle.audit_model.proofs.Cuts.{same_from_test}
use Rattle.audit_model.proofs.Walked.{merging_is_walk, walk_is_merging}
use Rattle.kept_faults.specs.FrontLaws.{IsInFront, is_in_front, in_front, behind_front, KeepsMergings, MergingsGoOn, IsPart}
use Rattle.recorder_files.specs.Fronts.{IsFront, cut_to}
use Rattle.kept_faults.proofs.Named.{sent_there, cut_length, same_receipt}

-- a walk that goes on
pub walks_on : (s : Recorded) (d : Cursors) (names more : List Name) → Walks s d names → Walks s (cursors_from d names) more → Walks s d (names ++ more)
walks_on s d [] more first then = then
walks_on s d (name ∷ names) more first then = (first.0, walks_on s (next d name.0) names more first.1 then)

pub cursors_on : (d : Cursors) (names more : List Name) → cursors_from d (names ++ more) ≡ cursors_from (cursors_from d names) more
cursors_on d [] more = refl
cursors_on d (name ∷ names) more = cursors_on (next d name.0) names more

-- how far a walk is in the front, and how far where the front was taken first
abbrev inside : Cursors → Cursors → Cursors
inside c d log = min (d log) (c log)

abbrev beyond : Cursors → Cursors → Cursors
beyond c d log = max (d log) (c log)

next_inside : (c d : Cursors) (l : LogName) → d l < c l → (m : LogName) → next (inside c d) l m ≡ inside c (next d l) m
next_inside c d l lt m = go (same_log l m) refl
  where
    go : (b : Bool) → same_log l m ≡ b → cond b (suc (inside c d m)) (inside c d m) ≡ min (cond b (suc (d m)) (d m)) (c m)
    go false e = refl
    go true e = let room = subst (λ k. d k < c k) (same_from_test l m e) lt in omega (arith, room)

stays_inside : (c d : Cursors) (l : LogName) → c l ≤ d l → (m : LogName) → inside c d m ≡ inside c (next d l) m
stays_inside c d l le m = go (same_log l m) refl
  where
    go : (b : Bool) → same_log l m ≡ b → min (d m) (c m) ≡ min (cond b (suc (d m)) (d m)) (c m)
    go false e = refl
    go true e = let past = subst (λ k. c k ≤ d k) (same_from_test l m e) le in omega (arith, past)

next_beyond : (c d : Cursors) (l : LogName) → c l ≤ d l → (m : LogName) → next (beyond c d) l m ≡ beyond c (next d l) m
next_beyond c d l le m = go (same_log l m) refl
  where
    go : (b : Bool) → same_log l m ≡ b → cond b (suc (beyond c d m)) (beyond c d m) ≡ max (cond b (suc (d m)) (d m)) (c m)
    go false e = refl
    go true e = let past = subst (λ k. c k ≤ d k) (same_from_test l m e) le in omega (arith, past)

stays_beyond : (c d : Cursors) (l : LogName) → d l < c l → (m : LogName) → beyond c d m ≡ beyond c (next d l) m
stays_beyond c d l lt m = go (same_log l m) refl
  where
    go : (b : Bool) → same_log l m ≡ b → max (d m) (c m) ≡ max (cond b (suc (d m)) (d m)) (c m)
    go false e = refl
    go true e = let room = subst (λ k. d k < c k) (same_from_test l m e) lt in omega (arith, room)

module _ (s : Recorded) (c : Cursors) (front : IsFront s c) where
  -- a record of the front that may follow in the session may follow in the front
  follows_inside : (d : Cursors) (name : Name) → MayFollow s d name → IsInFront c name → MayFollow (cut_to c s) (inside c d) name
  follows_inside d name may lt = record {
    is_next = let e = may.is_next in omega (arith, e, lt);
    is_there = let e = cut_length s c front name.0 in omega (arith, e, lt);
    sent_before = λ sent is.
        let e : receipt s name ≡ Some sent = sym (same_receipt s c front name lt) ∙ is in
        let taken = may.sent_before sent e in
        let there = sent_there s c front name sent lt e in
        omega (arith, taken, there);
  }

  -- a record that the front does not have may follow once the front was taken
  follows_beyond : (d : Cursors) (name : Name) → MayFollow s d name → c name.0 ≤ name.1 → MayFollow s (beyond c d) name
  follows_beyond d name may le = record {
    is_next = let e = may.is_next in omega (arith, e, le);
    is_there = may.is_there;
    sent_before = λ sent is. let taken = may.sent_before sent is in omega (arith, taken);
  }

  -- a record that may follow in the front may follow in the session
  follows_whole : (d : Cursors) (name : Name) → MayFollow (cut_to c s) d name → MayFollow s d name
  follows_whole d name may =
      let e = cut_length s c front name.0 in
      let there = may.is_there in
      let within = front.within name.0 in
      let lt : name.1 < c name.0 = omega (arith, e, there) in
      record {
        is_next = may.is_next;
        is_there = omega (arith, lt, within);
        sent_before = λ sent is. may.sent_before sent (same_receipt s c front name lt ∙ is);
      }

  walks_inside : (d : Cursors) (names : List Name) → Walks s d names → Walks (cut_to c s) (inside c d) (in_front c names) × (cursors_from (inside c d) (in_front c names) ≡ inside c (cursors_from d names))
  walks_inside d [] walks = (tt, refl)
  walks_inside d (name ∷ names) walks = go (walks_inside (next d name.0) names walks.1) (is_in_front c name) refl
    where
      go : Walks (cut_to c s) (inside c (next d name.0)) (in_front c names) × (cursors_from (inside c (next d name.0)) (in_front c names) ≡ inside c (cursors_from (next d name.0) names)) →
          (b : Bool) → is_in_front c name ≡ b →
          Walks (cut_to c s) (inside c d) (cond b (name ∷ in_front c names) (in_front c names)) × (cursors_from (inside c d) (cond b (name ∷ in_front c names) (in_front c names)) ≡ inside c (cursors_from (next d name.0) names))
      go rec true e =
          let lt = ltb-true name.1 (c name.0) e in
          let at = walks.0.is_next in
          let same : next (inside c d) name.0 ≡ inside c (next d name.0) = λ i m. next_inside c d name.0 (omega (arith, lt, at)) m i in (
            (follows_inside d name walks.0 lt, subst (λ (k : Cursors). Walks (cut_to c s) k (in_front c names)) (sym same) rec.0),
            subst (λ (k : Cursors). cursors_from k (in_front c names) ≡ inside c (cursors_from (next d name.0) names)) (sym same) rec.1,
          )
      go rec false e =
          let le = ltb-false name.1 (c name.0) e in
          let at = walks.0.is_next in
          let same : inside c d ≡ inside c (next d name.0) = λ i m. stays_inside c d name.0 (omega (arith, le, at)) m i in (
            subst (λ (k : Cursors). Walks (cut_to c s) k (in_front c names)) (sym same) rec.0,
            subst (λ (k : Cursors). cursors_from k (in_front c names) ≡ inside c (cursors_from (next d name.0) names)) (sym same) rec.1,
          )

  walks_beyond : (d : Cursors) (names : List Name) → Walks s d names → Walks s (beyond c d) (behind_front c names) × (cursors_from (beyond c d) (behind_front c names) ≡ beyond c (cursors_from d names))
  walks_beyond d [] walks = (tt, refl)
  walks_beyond d (name ∷ names) walks = go (walks_beyond (next d name.0) names walks.1) (is_in_front c name) refl
    where
      go : Walks s (beyond c (next d name.0)) (behind_front c names) × (cursors_from (beyond c (next d name.0)) (behind_front c names) ≡ beyond c (cursors_from (next d name.0) names)) →
          (b : Bool) → is_in_front c name ≡ b →
          Walks s (beyond c d) (cond (not b) (name ∷ behind_front c names) (behind_front c names)) × (cursors_from (beyond c d) (cond (not b) (name ∷ behind_front c names) (behind_front c names)) ≡ beyond c (cursors_from (next d name.0) names))
      go rec false e =
          let le = ltb-false name.1 (c name.0) e in
          let at = walks.0.is_next in
          let same : next (beyond c d) name.0 ≡ beyond c (next d name.0) = λ i m. next_beyond c d name.0 (omega (arith, le, at)) m i in (
            (follows_beyond d name walks.0 le, subst (λ (k : Cursors). Walks s k (behind_front c names)) (sym same) rec.0),
            subst (λ (k : Cursors). cursors_from k (behind_front c names) ≡ beyond c (cursors_from (next d name.0) names)) (sym same) rec.1,
          )
      go rec true e =
          let lt = ltb-true name.1 (c name.0) e in
          let at = walks.0.is_next in
          let same : beyond c d ≡ beyond c (next d name.0) = λ i m. stays_beyond c d name.0 (omega (arith, lt, at)) m i in (
            subst (λ (k : Cursors). Walks s k (behind_front c names)) (sym same) rec.0,
            subst (λ (k : Cursors). cursors_from k (behind_front c names) ≡ beyond c (cursors_from (next d name.0) names)) (sym same) rec.1,
          )

  walks_whole : (d : Cursors) (names : List Name) → Walks (cut_to c s) d names → Walks s d names
  walks_whole d [] walks = tt
  walks_whole d (name ∷ names) walks = (follows_whole d name walks.0, walks_whole (next d name.0) names walks.1)

  start_inside : inside c at_start ≡ at_start
  start_inside = λ i m. go (c m) i
    where
      go : (k : ℕ) → min 0 k ≡ 0
      go k = omega arith

  start_beyond : beyond c at_start ≡ c
  start_beyond = λ i m. go (c m) i
    where
      go : (k : ℕ) → max 0 k ≡ k
      go k = omega arith

  pub keeps_mergings : KeepsMergings s c
  keeps_mergings order merging =
      let whole = merging_is_walk s order merging in
      let t = walks_inside at_start order whole.0 in
      let walks : Walks (cut_to c s) at_start (in_front c order) = subst (λ (k : Cursors). Walks (cut_to c s) k (in_front c order)) start_inside t.0 in
      let ends : cursors_from at_start (in_front c order) ≡ inside c (cursors_from at_start order) = subst (λ (k : Cursors). cursors_from k (in_front c order) ≡ inside c (cursors_from at_start order)) start_inside t.1 in
      walk_is_merging (cut_to c s) (in_front c order) (
        walks,
        λ l.
            let e : cursors_from at_start (in_front c order) l ≡ min (cursors_from at_start order l) (c l) = ap (λ (k : Cursors). k l) ends in
            let all = whole.1 l in
            let long = cut_length s c front l in
            let within = front.within l in
            omega (arith, e, all, long, within),
      )

  pub still_merges : HasMerging s → HasMerging (cut_to c s)
  still_merges has = (in_front c has.0, keeps_mergings has.0 has.1)

  pub mergings_go_on : MergingsGoOn s c
  mergings_go_on order whole merging of_whole =
      let part = merging_is_walk (cut_to c s) order merging in
      let all = merging_is_walk s whole of_whole in
      let rest = walks_beyond at_start whole all.0 in
      let at : cursors_from at_start order ≡ c = λ i l. (part.1 l ∙ cut_length s c front l) i in
      let from : beyond c at_start ≡ cursors_from at_start order = start_beyond ∙ sym at in
      let then : Walks s (cursors_from at_start order) (behind_front c whole) = subst (λ (k : Cursors). Walks s k (behind_front c whole)) from rest.0 in
      let ends : cursors_from (cursors_from at_start order) (behind_front c whole) ≡ beyond c (cursors_from at_start whole) = subst (λ (k : Cursors). cursors_from k (behind_front c whole) ≡ beyond c (cursors_from at_start whole)) from rest.1 in
      walk_is_merging s (order ++ behind_front c whole) (
        walks_on s at_start order (behind_front c whole) (walks_whole at_start order part.0) then,
        λ l.
            let e : cursors_from at_start (order ++ behind_front c whole) l ≡ max (cursors_from at_start whole l) (c l) = ap (λ (k : Cursors). k l) (cursors_on at_start order (behind_front c whole) ∙ ends) in
            let end = all.1 l in
            let within = front.within l in
            omega (arith, e, end, within),
      )

  -- ---- a merging of the front is what one of the session has there

  none_behind : (names : List Name) → in_front c (behind_front c names) ≡ []
  none_behind [] = refl
  none_behind (name ∷ names) = go (is_in_front c name) refl (none_behind names)
    where
      go : (b : Bool) → is_in_front c name ≡ b → in_front c (behind_front c names) ≡ [] → in_front c (cond (not b) (name ∷ behind_front c names) (behind_front c names)) ≡ []
      go true e rest = rest
      go false e rest = ap (λ b. cond b (name ∷ in_front c (behind_front c names)) (in_front c (behind_front c names))) e ∙ rest

  all_in_front : (d : Cursors) (names more : List Name) → Walks (cut_to c s) d names → in_front c more ≡ [] → in_front c (names ++ more) ≡ names
  all_in_front d [] more walks none = none
  all_in_front d (name ∷ names) more walks none =
      let there = walks.0.is_there in
      let long = cut_length s c front name.0 in
      ap (λ b. cond b (name ∷ in_front c (names ++ more)) (in_front c (names ++ more))) (lt-ltb name.1 (c name.0) (omega (arith, there, long)))
      ∙ ap (λ (rest : List Name). name ∷ rest) (all_in_front (next d name.0) names more walks.1 none)

  pub is_exactly : (order : List Name) → HasMerging s → IsMerging (cut_to c s) order ↔ IsPart s c order
  is_exactly order has = (
    λ merging. record {
      whole = order ++ behind_front c has.0;
      merging = mergings_go_on order has.0 merging has.1;
      is_part = all_in_front at_start order (behind_front c has.0) (merging_is_walk (cut_to c s) order merging).0 (none_behind has.0);
    },
    λ part. subst (IsMerging (cut_to c s)) part.is_part (keeps_mergings part.whole part.merging),
  )
