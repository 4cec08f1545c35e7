-- What depends on a record stands before it in no order, and what does not stands before it in one.
use Rattle.std.proofs.Common.{◌≡◌, ◌<◌, ◌≤◌, ◌⊎◌, inl, inr, not, List, ◌∷◌, ◌++◌, Some, sym, ap, subst, arith}
use Rattle.std.specs.Prelude.{Contains}
use Rattle.std.specs.List.{filter}
use Rattle.std.proofs.lemmas.Bool.{cases_lt, ltb-true, lt-ltb}
use Rattle.std.proofs.lemmas.List.Elements.{Contains-append_left}
use Rattle.migration_types.specs.Receipts.{Name}
use Rattle.migration_types.specs.Sessions.{Recorded}
use Rattle.audit_model.specs.Names.{log_length, receipt}
use Rattle.audit_model.specs.Mergings.{IsMerging, StandsAfter, Cursors, at_start}
use Rattle.audit_model.specs.Shape.{IsRightShape}
use Rattle.audit_model.specs.Delayed.{IsDelayed, itself, later, receives, is_below, rearranged}
use Rattle.audit_model.specs.Walks.{cursors_from}
use Rattle.audit_model.specs.Worlds.{IsConsistentCut}
use Rattle.audit_model.proofs.Cuts.{taken_before}
use Rattle.audit_model.proofs.Walked.{contains_place}
use Rattle.audit_model.proofs.Orders.{is_at}
use Rattle.audit_model.proofs.Late.{stands_somewhere, receipt_there}
use Rattle.audit_model.proofs.Rearranged.{rearranged_merges, append_stands, filter_stands, contains_filter}
use Rattle.audit_report.specs.Dependence.{NeverBefore}
use Rattle.audit_report.specs.inner.Cuts.{IsCutFor}

module _ (s : Recorded) where
  -- where a record was not taken, nothing that depends on it was
  pub delayed_above : (c : Cursors) → IsConsistentCut s c → (other : Name) → c other.0 ≤ other.1 → {name : Name} → IsDelayed s other name → c name.0 ≤ name.1
  delayed_above c cut other high itself = high
  delayed_above c cut other high (later {a = a} {b = b} d log lt) = let e = delayed_above c cut other high d in let f = ap (λ l. c l) log in omega arith
  delayed_above c cut other high (receives {a = a} {b = b} d named) = go (delayed_above c cut other high d) (cases_lt b.1 (c b.0))
    where
      go : c a.0 ≤ a.1 → (b.1 < c b.0) ⊎ (c b.0 ≤ b.1) → c b.0 ≤ b.1
      go e (inl lt) = absurd (omega (arith, cut.sent_taken b a lt named))
      go e (inr le) = le

  module _ (shape : IsRightShape s) where
    pub never_before : (name other : Name) → IsDelayed s other name → NeverBefore s name other
    never_before name other delayed order earlier merging stands h =
        let at = is_at s shape order merging earlier other stands in
        let high = delayed_above (cursors_from at_start earlier) at.0.cut other (omega (arith, at.1.is_next)) delayed in
        let taken = taken_before s order merging earlier other stands name.0 name.1 h in
        absurd (omega arith)

    module _ (order : List Name) (merging : IsMerging s order) (other : Name) (d : Cursors) (cut : IsCutFor s other d) where
      sent_there : (name sent : Name) → receipt s name ≡ Some sent → sent.1 < log_length s sent.0
      sent_there name sent named =
          let stands = stands_somewhere s order merging name (receipt_there s name sent named) in
          let at = is_at s shape order merging stands.0 name stands.1 in
          omega (arith, at.1.sent_before sent named, at.0.cut.within sent.0)

      closed : (name sent : Name) → name.1 < d name.0 → receipt s name ≡ Some sent → sent.1 < d sent.0
      closed name sent lt named = go (cases_lt sent.1 (d sent.0))
        where
          go : (sent.1 < d sent.0) ⊎ (d sent.0 ≤ sent.1) → sent.1 < d sent.0
          go (inl lt) = lt
          go (inr le) =
              let above = cut.is_delayed sent (sent_there name sent named) le in
              absurd (omega (arith, cut.is_above name (receives above named)))

      abbrev low : List Name
      low = filter (is_below d) order

      abbrev high : List Name
      high = filter (λ y. not (is_below d y)) order

      merges : IsMerging s (rearranged d order)
      merges = rearranged_merges s d closed order merging

      -- what lies below the cut stands before the record in the order that is cut there
      stands_before : (name : Name) → name.1 < log_length s name.0 → name.1 < d name.0 → (past : List Name) → StandsAfter (rearranged d order) past other → Contains past name
      stands_before name there below past stands = go (append_stands low high past other stands.0 stands.1)
        where
          in_order : Contains order name
          in_order = contains_place order name.0 name.1 0 (log_length s name.0) (merging.each_once_in_order name.0) (omega arith) (omega (arith, there))

          go : ((k : List Name) × (low ≡ past ++ other ∷ k)) ⊎ ((k : List Name) × (past ≡ low ++ k) × (high ≡ k ++ other ∷ stands.0)) → Contains past name
          go (inl a) =
              let f = filter_stands (is_below d) order past other a.0 a.1 in
              absurd (omega (arith, ltb-true other.1 (d other.0) f.3, cut.is_above other itself))
          go (inr b) = subst (λ xs. Contains xs name) (sym b.1) (Contains-append_left low b.0 name (contains_filter (is_below d) order name in_order (lt-ltb name.1 (d name.0) below)))

      -- so what is never before the record lies above the cut
      pub above_if_never : (name : Name) → name.1 < log_length s name.0 → other.1 < log_length s other.0 → NeverBefore s name other → d name.0 ≤ name.1
      above_if_never name there other_there never = go (cases_lt name.1 (d name.0))
        where
          go : (name.1 < d name.0) ⊎ (d name.0 ≤ name.1) → d name.0 ≤ name.1
          go (inr le) = le
          go (inl lt) =
              let stands = stands_somewhere s (rearranged d order) merges other other_there in
              absurd (never (rearranged d order) stands.0 merges stands.1 (stands_before name there lt stands.0 stands.1))
