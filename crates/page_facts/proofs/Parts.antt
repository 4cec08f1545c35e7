-- Judged entries of pages that follow those of others.
use Rattle.std.proofs.Common.{◌≡◌, ℕ, ◌+◌, ◌<◌, ◌≤◌, ◌⊎◌, inl, inr, true, false, List, Option, Some, None, length, get_or, refl, sym, subst, arith}
use Rattle.std.specs.Prelude.{slice_get}
use Rattle.std.proofs.lemmas.Bool.{cases_lt}
use Rattle.std.proofs.lemmas.Option.{slice_get-get_or}
use Rattle.migration_types.specs.declared.cert.Entry.{Entry}
use Rattle.migration_types.specs.declared.cert.Entry.TheVariants.{Nothing}
use Rattle.migration_types.specs.Sessions.{Recorded}
use Rattle.audit_model.specs.Certificates.{IsRightEntry}
use Rattle.page_facts.specs.Entries.{AreRight, IsFirstWrong, AreJudged}
use Rattle.page_facts.specs.inner.EntryAt.{IsRightAt}

-- right entries, and behind them more
right_joined : (s : Recorded) (entries : List Entry) (from mid to : ℕ) → AreRight s entries from mid → AreRight s entries mid to → AreRight s entries from to
right_joined s entries from mid to low high page entry above below is = go (cases_lt page mid)
  where
    go : (page < mid) ⊎ (mid ≤ page) → IsRightEntry s page entry
    go (inl lt) = low page entry above lt is
    go (inr le) = high page entry le below is

-- what is found of some entries, and of more behind them where these are right
pub judged_joined : (s : Recorded) (entries : List Entry) (from mid to : ℕ) (next : Option ℕ) → AreRight s entries from mid → AreJudged s entries mid to next → AreJudged s entries from to next
judged_joined s entries from mid to None low high = right_joined s entries from mid to low high
judged_joined s entries from mid to (Some page) low high = record {
  entry = high.entry;
  is = high.is;
  is_wrong = high.is_wrong;
  right_before = right_joined s entries from mid page low high.right_before;
}

-- one more right entry
pub right_more : (s : Recorded) (entries : List Entry) (from count : ℕ) → AreRight s entries from (from + count) → IsRightAt s entries (from + count) true → AreRight s entries from (from + (count + 1))
right_more s entries from count low here page entry above below is = go (cases_lt page (from + count))
  where
    go : (page < from + count) ⊎ (from + count ≤ page) → IsRightEntry s page entry
    go (inl lt) = low page entry above lt is
    go (inr le) =
        let same : from + count ≡ page = omega (arith, le, below) in
        let own : slice_get entries (from + count) ≡ Some entry = subst (λ (k : ℕ). slice_get entries k ≡ Some entry) (sym same) is in
        subst (λ (k : ℕ). IsRightEntry s k entry) same ((here entry own).0 refl)

-- the first that is not right
pub first_wrong : (s : Recorded) (entries : List Entry) (from count : ℕ) → from + count < length entries → AreRight s entries from (from + count) → IsRightAt s entries (from + count) false → IsFirstWrong s entries from (from + count)
first_wrong s entries from count lt low here =
    let own = get_or entries (from + count) no_entry in
    let is = slice_get-get_or entries (from + count) no_entry lt in
    record {
      entry = own;
      is = is;
      is_wrong = λ right. let t = (here own is).1 right in absurd (cc);
      right_before = low;
    }
  where
    no_entry : Entry
    no_entry = Nothing
