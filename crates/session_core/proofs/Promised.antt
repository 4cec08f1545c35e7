-- What is promised of a core that is reached.
use Rattle.audit_model.proofs.Certifying.{has_certificate}
use Rattle.audit_model.proofs.Walked.{merging_is_walk}
use Rattle.audit_model.specs.Laws.{IsCertified, IsFaultless}
use Rattle.audit_model.specs.Mergings.{Cursors, IsMerging, at_start, moved, spelled, spelled_from}
use Rattle.audit_model.specs.Names.{same_log}
use Rattle.audit_model.specs.Walks.{Walks, next}
use Rattle.migration_model.proofs.Reached.{reached_faultless}
use Rattle.migration_model.specs.Books.{Recording, session_of}
use Rattle.migration_model.specs.Promise.{IsReached}
use Rattle.migration_types.specs.Certs.{Certified}
use Rattle.migration_types.specs.Receipts.{Name}
use Rattle.migration_types.specs.Sessions.{Recorded}
use Rattle.migration_types.specs.declared.cert.Run.{Run}
use Rattle.migration_types.specs.declared.records.LogName.{LogName}
use Rattle.session_core.specs.Promised.{IsPromised}
use Rattle.std.proofs.Common.{Bool, List, [], ap, arith, cond, false, refl, subst, suc, sym, true, ℕ, ◌+◌, ◌∙◌, ◌∷◌, ◌≡◌}

-- a run for each name
abbrev ones : List Name → List Run
ones [] = []
ones (name ∷ names) = (record { log = name.0; count = 1 }) ∷ ones names

moved_one : (c : Cursors) (log : LogName) → moved c log 1 ≡ next c log
moved_one c log = λ i other. same (same_log log other) (c other) i
  where
    same : (t : Bool) (n : ℕ) → cond t (n + 1) n ≡ cond t (suc n) n
    same true n = omega arith
    same false n = refl

-- which spell the names where they are a walk
spells : (s : Recorded) (c : Cursors) (order : List Name) → Walks s c order → spelled_from c (ones order) ≡ order
spells s c [] walks = refl
spells s c ((log, place) ∷ names) walks =
    ap (λ (d : Cursors). (log, c log) ∷ spelled_from d (ones names)) (moved_one c log)
    ∙ ap (λ ns. (log, c log) ∷ ns) (spells s (next c log) names walks.1)
    ∙ ap (λ n. (log, n) ∷ names) (sym walks.0.is_next)

-- a faultless session with a merging has a right certificate
certified : (s : Recorded) (order : List Name) → IsFaultless s → IsMerging s order → (c : Certified) × IsCertified s c
certified s order faultless merges =
    let spelled_is : spelled (ones order) ≡ order = spells s at_start order (merging_is_walk s order merges).0 in
    let found = has_certificate s faultless (ones order) (subst (λ names. IsMerging s names) (sym spelled_is) merges) in
    (record { version = s.version; size = s.geometry.size; entries = found.0; runs = ones order }, record { is_session = faultless.is_session; shape = faultless.shape; certificate = found.1 })

pub reached_promised : (core : Recording) → IsReached core → IsPromised (session_of core.books) core.order
reached_promised core k =
    let s = session_of core.books in
    let f = reached_faultless core k in
    record { faultless = f; is_certified = certified s core.order f.faultless f.merging; has_certificate = has_certificate s f.faultless }
