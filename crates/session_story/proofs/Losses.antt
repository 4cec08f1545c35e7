-- Changes of a cell that a read does not show.
use Rattle.std.proofs.Common.{◌≡◌, ℕ, Option, Some, None, MatchOption, sym, ap, ◌∙◌, subst}
use Rattle.std.specs.Prelude.{slice_get}
use Rattle.migration_types.specs.declared.records.GuestRec.TheVariants.{Read}
use Rattle.migration_types.specs.Sessions.{Recorded}
use Rattle.session_story.specs.Losing.{IsLost, IsLostAt, IsOlder}
use Rattle.session_story.specs.Scans.{last_before}
use Rattle.session_story.specs.Values.{sets}
use Rattle.session_story.specs.declared.losing.Lost.{Lost}

module _ (s : Recorded) (n vcpu page cell value : ℕ) (reads : slice_get s.guest n ≡ Some (Read vcpu page cell value)) where
  -- a change that is lost before this read is one of its cell
  changed : (l : Lost) → IsLost s n l → last_before (λ m. sets page cell) s.guest n ≡ Some l.change
  changed l lost =
      let both : Some (Read lost.vcpu lost.page lost.cell lost.value) ≡ Some (Read vcpu page cell value) = sym lost.reads ∙ reads in
      let own : lost.page ≡ page = cc in
      let at : lost.cell ≡ cell = cc in
      subst (λ p. last_before (λ m. sets p cell) s.guest n ≡ Some l.change) own (subst (λ k. last_before (λ m. sets lost.page k) s.guest n ≡ Some l.change) at lost.changes)

  older : (l : Lost) → IsLost s n l → IsOlder s page cell value l.change l.since
  older l lost =
      let both : Some (Read lost.vcpu lost.page lost.cell lost.value) ≡ Some (Read vcpu page cell value) = sym lost.reads ∙ reads in
      let own : lost.page ≡ page = cc in
      let at : lost.cell ≡ cell = cc in
      let has : lost.value ≡ value = cc in
      subst (λ p. IsOlder s p cell value l.change l.since) own (subst (λ k. IsOlder s lost.page k value l.change l.since) at (subst (λ x. IsOlder s lost.page lost.cell x l.change l.since) has lost.older))

  pub none_lost : last_before (λ m. sets page cell) s.guest n ≡ None → (l : Lost) → IsLost s n l → ⊥
  none_lost none l lost = let both : None ≡ Some l.change = sym none ∙ changed l lost in absurd (cc)

  pub is_lost : (change : ℕ) → last_before (λ m. sets page cell) s.guest n ≡ Some change → (found : Option Lost) → MatchOption found ((since : Option ℕ) → IsOlder s page cell value change since → ⊥) (IsLostAt s page cell value change) → MatchOption found ((l : Lost) → IsLost s n l → ⊥) (IsLost s n)
  is_lost change by (Some l) at = record {
    vcpu = vcpu;
    page = page;
    cell = cell;
    value = value;
    reads = reads;
    changes = by ∙ ap (λ (k : ℕ). Some k) (sym at.change_is);
    older = subst (λ k. IsOlder s page cell value k l.since) (sym at.change_is) at.older;
  }
  is_lost change by None none = λ l lost.
      let both : Some change ≡ Some l.change = sym by ∙ changed l lost in
      let same : l.change ≡ change = cc in
      none l.since (subst (λ k. IsOlder s page cell value k l.since) same (older l lost))
