-- The guest's releases behind its resume, with one more record.
use Rattle.std.proofs.Common.{◌≡◌, ◌⊎◌, ◌<◌, ◌≤◌, ℕ, List, [], ◌∷◌, ◌++◌, Option, Some, None, inl, inr, sym, subst, length, arith}
use Rattle.std.specs.Prelude.{IsTrue}
use Rattle.std.specs.List.{list_any, slice_get}
use Rattle.std.proofs.lemmas.List.{take-append-le, take_at}
use Rattle.std.proofs.lemmas.Option.{slice_get_within}
use Rattle.migration_types.specs.declared.records.GuestRec.{GuestRec}
use Rattle.session_commands.specs.Written.{IsLateRelease}
use Rattle.audit_model.specs.Shape.{is_release, is_resume}
use Rattle.session_commands.specs.Facts.{IsBefore, IsFirstLate}
use Rattle.session_commands.proofs.Pushed.{get_last, get_old, get_push}

late_old : (guest : List GuestRec) (rec : GuestRec) (n : ℕ) → IsLateRelease guest n → IsLateRelease (guest ++ rec ∷ []) n
late_old guest rec n h =
    let within = slice_get_within guest n _ h.there in
    record {
      rec = h.rec;
      there = get_old guest rec n _ h.there;
      release = h.release;
      resumed = subst (λ (front : List GuestRec). IsTrue (list_any is_resume front)) (sym (take-append-le n guest (rec ∷ []) (omega arith))) h.resumed;
    }

-- it is one of those before, or the last record
late_push : (guest : List GuestRec) (rec : GuestRec) (n : ℕ) → IsLateRelease (guest ++ rec ∷ []) n → IsLateRelease guest n ⊎ ((n ≡ length guest) × IsTrue (is_release rec) × IsTrue (list_any is_resume guest))
late_push guest rec n h = split (get_push guest rec n _ h.there)
  where
    split : ((slice_get guest n ≡ Some h.rec) ⊎ ((n ≡ length guest) × (rec ≡ h.rec))) → IsLateRelease guest n ⊎ ((n ≡ length guest) × IsTrue (is_release rec) × IsTrue (list_any is_resume guest))
    split (inl old) =
        let within = slice_get_within guest n _ old in
        inl (record {
          rec = h.rec;
          there = old;
          release = h.release;
          resumed = subst (λ (front : List GuestRec). IsTrue (list_any is_resume front)) (take-append-le n guest (rec ∷ []) (omega arith)) h.resumed;
        })
    split (inr last) = inr (
      last.0,
      subst (λ (r : GuestRec). IsTrue (is_release r)) (sym last.1) h.release,
      subst (λ (front : List GuestRec). IsTrue (list_any is_resume front)) (take_at guest (rec ∷ []) n (sym last.0)) h.resumed,
    )

late_last : (guest : List GuestRec) (rec : GuestRec) (n : ℕ) → length guest ≡ n → IsTrue (is_release rec) → IsTrue (list_any is_resume guest) → IsLateRelease (guest ++ rec ∷ []) n
late_last guest rec n at release resumed = record {
  rec = rec;
  there = subst (λ (m : ℕ). slice_get (guest ++ rec ∷ []) m ≡ Some rec) at (get_last guest rec);
  release = release;
  resumed = subst (λ (front : List GuestRec). IsTrue (list_any is_resume front)) (sym (take_at guest (rec ∷ []) n at)) resumed;
}

-- the first one stays the first
pub first_stays : (guest : List GuestRec) (rec : GuestRec) (first : ℕ) → IsFirstLate (Some first) guest → IsFirstLate (Some first) (guest ++ rec ∷ [])
first_stays guest rec first h = (late_old guest rec first h.0, λ n late. split n (late_push guest rec n late))
  where
    split : (n : ℕ) → IsLateRelease guest n ⊎ ((n ≡ length guest) × IsTrue (is_release rec) × IsTrue (list_any is_resume guest)) → first ≤ n
    split n (inl old) = h.1 n old
    split n (inr last) = let within = slice_get_within guest first _ h.0.there in omega (arith, last.0)

-- there is none, if the record is none
pub none_yet : (guest : List GuestRec) (rec : GuestRec) → IsFirstLate None guest → (IsTrue (is_release rec) → IsTrue (list_any is_resume guest) → ⊥) → IsFirstLate None (guest ++ rec ∷ [])
none_yet guest rec none not_now = λ n late. split n (late_push guest rec n late)
  where
    split : (n : ℕ) → IsLateRelease guest n ⊎ ((n ≡ length guest) × IsTrue (is_release rec) × IsTrue (list_any is_resume guest)) → ⊥
    split n (inl old) = none n old
    split n (inr last) = not_now last.1 last.2

-- the record is the first
pub first_now : (guest : List GuestRec) (rec : GuestRec) (n : ℕ) → length guest ≡ n → IsFirstLate None guest → IsTrue (is_release rec) → IsTrue (list_any is_resume guest) → IsFirstLate (Some n) (guest ++ rec ∷ [])
first_now guest rec n at none release resumed = (late_last guest rec n at release resumed, λ m late. split m (late_push guest rec m late))
  where
    split : (m : ℕ) → IsLateRelease guest m ⊎ ((m ≡ length guest) × IsTrue (is_release rec) × IsTrue (list_any is_resume guest)) → n ≤ m
    split m (inl old) = absurd (none m old)
    split m (inr last) = omega (arith, last.0, at)

-- it is in front of a number exactly if one is
pub late_before : (late : Option ℕ) (guest : List GuestRec) (count : ℕ) → IsFirstLate late guest → ((n : ℕ) × (n < count) × IsLateRelease guest n) → IsBefore late count
late_before None guest count none h = none h.0 h.2
late_before (Some first) guest count is h = omega (arith, is.1 h.0 h.2, h.1)

pub before_late : (late : Option ℕ) (guest : List GuestRec) (count : ℕ) → IsFirstLate late guest → IsBefore late count → ((n : ℕ) × (n < count) × IsLateRelease guest n)
before_late None guest count none h = absurd h
before_late (Some first) guest count is h = (first, h, is.0)
