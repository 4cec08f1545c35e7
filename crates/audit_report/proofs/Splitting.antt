-- An order's runs, cut in two.
use Rattle.std.proofs.Common.{◌≡◌, ℕ, zero, suc, ◌+◌, ◌-◌, ◌<◌, ◌≤◌, ◌⊎◌, inl, inr, Bool, true, false, not, cond, List, [], ◌∷◌, ◌++◌, take, length, get_or, min, max, refl, sym, ap, ◌∙◌, subst, arith}
use Rattle.std.specs.List.{filter}
use Rattle.std.proofs.lemmas.Bool.{cases_lt, lt-ltb, le-ltb}
use Rattle.std.proofs.lemmas.List.{append_assoc, append-nil, take_all}
use Rattle.std.proofs.lemmas.List.Elements.{filter-append}
use Rattle.migration_types.specs.declared.records.LogName.{LogName}
use Rattle.migration_types.specs.declared.cert.Run.{Run}
use Rattle.migration_types.specs.Receipts.{Name}
use Rattle.migration_types.specs.Sessions.{Recorded}
use Rattle.audit_model.specs.Names.{log_length, same_log}
use Rattle.audit_model.specs.Mergings.{Cursors, run_names, spelled}
use Rattle.audit_model.specs.Delayed.{is_below}
use Rattle.audit_model.proofs.Cuts.{same_from_test}
use Rattle.merge_runs.proofs.Walking.{with_it, cursors_on}
use Rattle.audit_report.specs.inner.Parts.{ends, AreBlocks, IsWithin, AreBelow, AreRearranged}
use Rattle.audit_report.proofs.Blocks.{IsAdded, ends_after, blocks_none}

-- whether the record of this name is above the cut
abbrev is_above : Cursors → Name → Bool
is_above d name = not (is_below d name)

-- the names of a run below the cut
below_names : (d : Cursors) (log : LogName) (place count : ℕ) → filter (is_below d) (run_names log place count) ≡ run_names log place (min count (d log - place))
below_names d log place zero = let e : 0 ≡ min 0 (d log - place) = omega arith in ap (λ k. run_names log place k) e
below_names d log place (suc count) = go (cases_lt place (d log)) (below_names d log (suc place) count)
  where
    rest : List Name
    rest = filter (is_below d) (run_names log (suc place) count)

    go : (place < d log) ⊎ (d log ≤ place) → filter (is_below d) (run_names log (suc place) count) ≡ run_names log (suc place) (min count (d log - suc place)) → cond (is_below d (log, place)) ((log, place) ∷ filter (is_below d) (run_names log (suc place) count)) (filter (is_below d) (run_names log (suc place) count)) ≡ run_names log place (min (suc count) (d log - place))
    go (inl lt) rec =
        let e : suc (min count (d log - suc place)) ≡ min (suc count) (d log - place) = omega arith in
        ap (λ b. cond b ((log, place) ∷ filter (is_below d) (run_names log (suc place) count)) (filter (is_below d) (run_names log (suc place) count))) (lt-ltb place (d log) lt)
        ∙ (ap (λ (ns : List Name). (log, place) ∷ ns) rec ∙ ap (λ k. run_names log place k) e)
    go (inr le) rec =
        let z : min count (d log - suc place) ≡ 0 = omega arith in
        let e : 0 ≡ min (suc count) (d log - place) = omega arith in
        ap (λ b. cond b ((log, place) ∷ filter (is_below d) (run_names log (suc place) count)) (filter (is_below d) (run_names log (suc place) count))) (le-ltb place (d log) le)
        ∙ (rec ∙ (ap (λ k. run_names log (suc place) k) z ∙ ap (λ k. run_names log place k) e))

-- the names of a run above it
above_names : (d : Cursors) (log : LogName) (place count : ℕ) → filter (is_above d) (run_names log place count) ≡ run_names log (max place (d log)) (count - min count (d log - place))
above_names d log place zero = let e : 0 ≡ 0 - min 0 (d log - place) = omega arith in ap (λ k. run_names log (max place (d log)) k) e
above_names d log place (suc count) = go (cases_lt place (d log)) (above_names d log (suc place) count)
  where
    go : (place < d log) ⊎ (d log ≤ place) → filter (is_above d) (run_names log (suc place) count) ≡ run_names log (max (suc place) (d log)) (count - min count (d log - suc place)) → cond (not (is_below d (log, place))) ((log, place) ∷ filter (is_above d) (run_names log (suc place) count)) (filter (is_above d) (run_names log (suc place) count)) ≡ run_names log (max place (d log)) (suc count - min (suc count) (d log - place))
    go (inl lt) rec =
        let e : max (suc place) (d log) ≡ max place (d log) = omega arith in
        let f : count - min count (d log - suc place) ≡ suc count - min (suc count) (d log - place) = omega arith in
        ap (λ b. cond (not b) ((log, place) ∷ filter (is_above d) (run_names log (suc place) count)) (filter (is_above d) (run_names log (suc place) count))) (lt-ltb place (d log) lt)
        ∙ (rec ∙ (ap (λ k. run_names log k (count - min count (d log - suc place))) e ∙ ap (λ k. run_names log (max place (d log)) k) f))
    go (inr le) rec =
        let e : max (suc place) (d log) ≡ suc place = omega arith in
        let f : count - min count (d log - suc place) ≡ count = omega arith in
        let g : place ≡ max place (d log) = omega arith in
        let h : suc count ≡ suc count - min (suc count) (d log - place) = omega arith in
        ap (λ b. cond (not b) ((log, place) ∷ filter (is_above d) (run_names log (suc place) count)) (filter (is_above d) (run_names log (suc place) count))) (le-ltb place (d log) le)
        ∙ (ap (λ (ns : List Name). (log, place) ∷ ns) (rec ∙ (ap (λ k. run_names log k (count - min count (d log - suc place))) e ∙ ap (λ k. run_names log (suc place) k) f))
        ∙ (ap (λ k. run_names log k (suc count)) g ∙ ap (λ k. run_names log (max place (d log)) k) h))

-- an empty row of names has no place
run_from : (log : LogName) (a b n : ℕ) → (0 < n → a ≡ b) → run_names log a n ≡ run_names log b n
run_from log a b zero same = refl
run_from log a b (suc n) same = ap (λ k. run_names log k (suc n)) (same (omega arith))

-- behind the part below the cut, what is above it of the first runs
pub record AreGoing (d : Cursors) (first : List Name) (runs parts : List Run) : Type 0 where
  pub blocks : AreBlocks parts
  pub names : spelled parts ≡ first ++ filter (is_above d) (spelled runs)
  pub ends : (log : LogName) → ends parts log ≡ max (ends runs log) (d log)

module _ (s : Recorded) (runs : List Run) (d : Cursors) (k : ℕ) (x : Run) (lt : k < length runs) where
  abbrev run : Run
  run = get_or runs k x

  abbrev c : Cursors
  c = ends (take k runs)

  -- ---- below

  pub below_on : (parts more : List Run) (n : ℕ) → AreBelow d (take k runs) parts → n ≡ min (get_or runs k x).count (d (get_or runs k x).log - ends (take k runs) (get_or runs k x).log) → IsAdded parts (get_or runs k x).log n more → AreBelow d (take (k + 1) runs) more
  below_on parts more n below is added = record {
    blocks = added.blocks;
    names = names;
    ends = ends_at;
  }
    where
      names : spelled more ≡ filter (is_below d) (spelled (take (k + 1) runs))
      names =
          let at = below.ends run.log in
          added.spelled
          ∙ (ap (λ (ns : List Name). ns ++ run_names run.log (ends parts run.log) n) below.names
          ∙ (ap (λ (ns : List Name). filter (is_below d) (spelled (take k runs)) ++ ns) (run_from run.log (ends parts run.log) (c run.log) n (λ some. omega (arith, at, is, some)))
          ∙ (ap (λ (j : ℕ). filter (is_below d) (spelled (take k runs)) ++ run_names run.log (c run.log) j) is
          ∙ (ap (λ (ns : List Name). filter (is_below d) (spelled (take k runs)) ++ ns) (sym (below_names d run.log (c run.log) run.count))
          ∙ (sym (filter-append (is_below d) (spelled (take k runs)) (run_names run.log (c run.log) run.count))
          ∙ ap (λ (ns : List Name). filter (is_below d) ns) (sym (with_it s runs k x lt)))))))

      ends_at : (log : LogName) → ends more log ≡ min (ends (take (k + 1) runs) log) (d log)
      ends_at log =
          ap (λ (e : Cursors). e log) (ends_after parts more run.log n added.spelled)
          ∙ (go (same_log run.log log) refl
          ∙ ap (λ (e : Cursors). min (e log) (d log)) (sym (cursors_on s runs k x lt)))
        where
          go : (t : Bool) → same_log run.log log ≡ t → cond t (ends parts log + n) (ends parts log) ≡ min (cond t (c log + run.count) (c log)) (d log)
          go true t =
              let same = same_from_test run.log log t in
              let f = ap (λ l. d l) same in
              let g = ap (λ l. c l) same in
              let h = below.ends log in
              omega (arith, f, g, h, is)
          go false t = below.ends log

  -- ---- above

  pub above_on : (first : List Name) (parts more : List Run) (n : ℕ) → AreGoing d first (take k runs) parts → n ≡ (get_or runs k x).count - min (get_or runs k x).count (d (get_or runs k x).log - ends (take k runs) (get_or runs k x).log) → IsAdded parts (get_or runs k x).log n more → AreGoing d first (take (k + 1) runs) more
  above_on first parts more n going is added = record {
    blocks = added.blocks;
    names = names;
    ends = ends_at;
  }
    where
      old : List Name
      old = filter (is_above d) (spelled (take k runs))

      names : spelled more ≡ first ++ filter (is_above d) (spelled (take (k + 1) runs))
      names =
          let at = going.ends run.log in
          added.spelled
          ∙ (ap (λ (ns : List Name). ns ++ run_names run.log (ends parts run.log) n) going.names
          ∙ (append_assoc first (filter (is_above d) (spelled (take k runs))) (run_names run.log (ends parts run.log) n)
          ∙ (ap (λ (j : ℕ). first ++ (filter (is_above d) (spelled (take k runs)) ++ run_names run.log j n)) at
          ∙ (ap (λ (j : ℕ). first ++ (filter (is_above d) (spelled (take k runs)) ++ run_names run.log (max (c run.log) (d run.log)) j)) is
          ∙ (ap (λ (ns : List Name). first ++ (filter (is_above d) (spelled (take k runs)) ++ ns)) (sym (above_names d run.log (c run.log) run.count))
          ∙ (ap (λ (ns : List Name). first ++ ns) (sym (filter-append (is_above d) (spelled (take k runs)) (run_names run.log (c run.log) run.count)))
          ∙ ap (λ (ns : List Name). first ++ filter (is_above d) ns) (sym (with_it s runs k x lt))))))))

      ends_at : (log : LogName) → ends more log ≡ max (ends (take (k + 1) runs) log) (d log)
      ends_at log =
          ap (λ (e : Cursors). e log) (ends_after parts more run.log n added.spelled)
          ∙ (go (same_log run.log log) refl
          ∙ ap (λ (e : Cursors). max (e log) (d log)) (sym (cursors_on s runs k x lt)))
        where
          go : (t : Bool) → same_log run.log log ≡ t → cond t (ends parts log + n) (ends parts log) ≡ max (cond t (c log + run.count) (c log)) (d log)
          go true t =
              let same = same_from_test run.log log t in
              let f = ap (λ l. d l) same in
              let g = ap (λ l. c l) same in
              let h = going.ends log in
              omega (arith, f, g, h, is)
          go false t = going.ends log

-- at the start nothing is there
pub below_none : (d : Cursors) (runs : List Run) → AreBelow d (take 0 runs) []
below_none d runs = record { blocks = blocks_none; names = refl; ends = λ log. omega arith }

-- at the end all of it is
pub below_all : (d : Cursors) (runs : List Run) (k : ℕ) (parts : List Run) → length runs ≤ k → AreBelow d (take k runs) parts → AreBelow d runs parts
below_all d runs k parts le below = subst (λ (rs : List Run). AreBelow d rs parts) (take_all k runs le) below

pub above_none : (s : Recorded) (d : Cursors) (runs parts : List Run) → ((log : LogName) → ends runs log ≡ log_length s log) → IsWithin s d → AreBelow d runs parts → AreGoing d (filter (is_below d) (spelled runs)) (take 0 runs) parts
above_none s d runs parts all within below = record {
  blocks = below.blocks;
  names = below.names ∙ sym (append-nil (filter (is_below d) (spelled runs)));
  ends = λ log. omega (arith, below.ends log, all log, within log);
}

pub above_all : (d : Cursors) (runs : List Run) (k : ℕ) (parts : List Run) → length runs ≤ k → AreGoing d (filter (is_below d) (spelled runs)) (take k runs) parts → AreRearranged d runs parts
above_all d runs k parts le going = record {
  blocks = going.blocks;
  names = going.names ∙ ap (λ (rs : List Run). filter (is_below d) (spelled runs) ++ filter (is_above d) (spelled rs)) (take_all k runs le);
  ends = λ log. going.ends log ∙ ap (λ (rs : List Run). max (ends rs log) (d log)) (take_all k runs le);
}
