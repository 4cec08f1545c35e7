-- The value of a cell, by the last record that set it.
use Rattle.std.proofs.Common.{◌≡◌, ℕ, zero, suc, ◌+◌, Bool, true, false, cond, List, Option, Some, None, refl, sym, ap, ◌∙◌, arith}
use Rattle.std.specs.Prelude.{◌==◌, ◌&&◌, slice_get}
use Rattle.migration_types.specs.declared.records.GuestRec.{GuestRec}
use Rattle.migration_types.specs.declared.records.GuestRec.TheVariants.{Read, Write, Release, Miss, Halt, Resume, See}
use Rattle.migration_types.specs.Memory.{initial}
use Rattle.migration_types.specs.Sessions.{Recorded}
use Rattle.audit_model.specs.Flat.{cell_after, changed, flat}
use Rattle.audit_model.specs.Shape.{passes}
use Rattle.session_story.specs.Scans.{last_before}
use Rattle.session_story.specs.Values.{sets}
use Rattle.session_story.specs.inner.Cells.{IsPage, set_by}

-- the value that this record gave the cell, or the one that it begins with
abbrev pub value_by : Recorded → ℕ → ℕ → Option ℕ → ℕ
value_by s page cell None = initial s.init page cell
value_by s page cell (Some n) = set_by (slice_get s.guest n)

module _ (s : Recorded) (page cell : ℕ) where
  abbrev last : ℕ → Option ℕ
  last n = last_before (λ m. sets page cell) s.guest n

  pick : (n x : ℕ) (b : Bool) → set_by (slice_get s.guest n) ≡ x → flat s n page cell ≡ value_by s page cell (last n) → cond b x (flat s n page cell) ≡ value_by s page cell (cond b (Some n) (last n))
  pick n x true is same = sym is
  pick n x false is same = same

  step : (n : ℕ) (r : GuestRec) → slice_get s.guest n ≡ Some r → flat s n page cell ≡ value_by s page cell (last n) → cell_after page cell r (flat s n page cell) ≡ value_by s page cell (cond (sets page cell r) (Some n) (last n))
  step n (Read vcpu p c value) is same = same
  step n (Write vcpu p c value) is same = pick n value ((p == page) && (c == cell)) (ap set_by is) same
  step n (Release vcpu p) is same = pick n 0 (p == page) (ap set_by is) same
  step n (Miss vcpu p) is same = same
  step n Halt is same = same
  step n (Resume ready) is same = same
  step n (See placement) is same = same

  -- a cell has the value that the last record that set it gave it
  pub flat_is_set : (n : ℕ) → flat s n page cell ≡ value_by s page cell (last_before (λ m. sets page cell) s.guest n)
  flat_is_set zero = refl
  flat_is_set (suc n) = go (slice_get s.guest n) refl (flat_is_set n)
    where
      go : (o : Option GuestRec) → slice_get s.guest n ≡ o → flat s n page cell ≡ value_by s page cell (last n) → flat s (suc n) page cell ≡ value_by s page cell (last (suc n))
      go None is same =
          ap (λ o. changed (cell_after page cell) o (flat s n page cell)) is
          ∙ same
          ∙ sym (ap (λ o. value_by s page cell (cond (passes (sets page cell) o) (Some n) (last n))) is)
      go (Some r) is same =
          ap (λ o. changed (cell_after page cell) o (flat s n page cell)) is
          ∙ step n r is same
          ∙ sym (ap (λ o. value_by s page cell (cond (passes (sets page cell) o) (Some n) (last n))) is)

-- the page's cells after one more record
pub cells_on : (s : Recorded) (page n count : ℕ) (r : GuestRec) (cells : List ℕ) → slice_get s.guest n ≡ Some r → IsPage cells (λ c. cell_after page c r (flat s n page c)) count → IsPage cells (flat s (n + 1) page) count
cells_on s page n count r cells is on =
    let up : suc n ≡ n + 1 = omega arith in
    record {
      size = on.size;
      same = λ c lt. on.same c lt ∙ ap (λ o. changed (cell_after page c) o (flat s n page c)) (sym is) ∙ ap (λ k. flat s k page c) up;
    }
