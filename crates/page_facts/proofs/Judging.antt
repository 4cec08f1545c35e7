-- One record more of what a pass over a log keeps.
use Rattle.std.proofs.Common.{◌≡◌, ℕ, suc, ◌+◌, Bool, Option, Some, refl, sym, ap, ◌∙◌, arith}
use Rattle.std.specs.Prelude.{slice_get}
use Rattle.migration_types.specs.declared.records.GuestRec.{GuestRec}
use Rattle.migration_types.specs.declared.records.GuestRec.TheVariants.{Halt, Resume}
use Rattle.migration_types.specs.Sessions.{Recorded}
use Rattle.audit_model.specs.declared.home.Home.{Home}
use Rattle.audit_model.specs.Flat.{changed, home_after, home, is_target}
use Rattle.page_store.specs.Tables.{or_here}
use Rattle.page_facts.specs.Machines.{late_after}

-- ---- tables of what earlier records say

-- what the records before this place and this one say of each page
abbrev pub here_by : {A : Type 0} → (ℕ → ℕ → A → Bool) → ℕ → A → (ℕ → Option ℕ) → ℕ → Option ℕ
here_by test n r at page = or_here (at page) (test page n r) n

-- ---- where the guest is

late_more : (h : Home) (r : GuestRec) → late_after r (is_target h) ≡ is_target (home_after r h)
late_more h Halt = refl
late_more h (Resume i) = refl
late_more h _ = refl

pub late_next : (s : Recorded) (n : ℕ) (r : GuestRec) (late : Bool) → slice_get s.guest n ≡ Some r → late ≡ is_target (home s n) → late_after r late ≡ is_target (home s (n + 1))
late_next s n r late is e =
    let one : suc n ≡ n + 1 = omega arith in
    ap (λ b. late_after r b) e ∙ late_more (home s n) r ∙ ap (λ o. is_target (changed home_after o (home s n))) (sym is) ∙ ap (λ k. is_target (home s k)) one
