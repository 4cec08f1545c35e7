-- Initial pages that are held.
use Rattle.std.proofs.Common.{◌≡◌, ◌∙◌, ◌+◌, ◌<◌, ◌≤◌, ℕ, List, [], ◌∷◌, ◌++◌, ap, arith, refl, subst, sym}
use Rattle.std.specs.List.{AllByRecursion}
use Rattle.migration_types.specs.Contents.{IsContent}
use Rattle.migration_types.specs.Extents.{Extent}
use Rattle.migration_types.specs.Pages.{AreInitPages, AreZeros, InitPageFits}
use Rattle.migration_types.specs.declared.pages.InitPage.{InitPage}
use Rattle.migration_types.specs.declared.size.Size.{Size}
use Rattle.migration_types.specs.declared.size.Size.TheVariants.{Large}
use Rattle.migration_types.specs.inner.InitPages.{Rise, rise_increases, rise_of}
use Rattle.walked_sessions.specs.Made.{sized}
use Rattle.walked_sessions.specs.declared.init.HeldInit.{HeldInit}
use Rattle.walked_sessions.specs.Kept.{IsInit, next_after}
use Rattle.walked_sessions.specs.inner.Kept.{IsNoInit}
use Rattle.walked_sessions.proofs.Pushed.{all_front, all_last}
use Rattle.recorder_files.proofs.Elements.{all_push}

rise_push : (a low : ℕ) (ps : List InitPage) (p : InitPage) → Rise a ps low → low ≤ p.page → Rise a (ps ++ p ∷ []) (p.page + 1)
rise_push a low [] p rise le = (omega (arith, rise, le), refl)
rise_push a low (q ∷ ps) p rise le = (rise.0, rise_push (q.page + 1) low ps p rise.1 le)

rise_last : (a low high : ℕ) (ps : List InitPage) (p : InitPage) → Rise a ps low → Rise a (ps ++ p ∷ []) high → low ≤ p.page
rise_last a low high [] p rise longer = let first = longer.0 in omega (arith, rise, first)
rise_last a low high (q ∷ ps) p rise longer = rise_last (q.page + 1) low high ps p rise.1 longer.1

rise_front : (a high : ℕ) (ps : List InitPage) (p : InitPage) → Rise a (ps ++ p ∷ []) high → (low : ℕ) × Rise a ps low
rise_front a high [] p longer = (a, refl)
rise_front a high (q ∷ ps) p longer =
    let rest = rise_front (q.page + 1) high ps p longer.1 in
    (rest.0, (longer.0, rest.1))

-- the numbers rise to the next one
rise_to : (a high : ℕ) (ps : List InitPage) → Rise a ps high → high ≡ next_after a ps
rise_to a high [] rise = sym rise
rise_to a high (q ∷ ps) rise = rise_to (q.page + 1) high ps rise.1

init_rise : (machine : Extent) (init : HeldInit) (pages : List InitPage) → IsInit machine init pages → Rise 0 pages init.low
init_rise machine init pages h =
    let rise = rise_of (sized Large machine) pages (record { each = h.each Large; rising = h.rising }) in
    subst (λ (n : ℕ). Rise 0 pages n) (rise_to 0 rise.0 pages rise.2 ∙ sym h.low) rise.2

-- a machine may have it behind the pages below a number
abbrev pub MayHave : Extent → ℕ → InitPage → Type 0
MayHave machine low p = (low ≤ p.page) × (p.page < machine.pages) × IsContent machine.cells p.cells × (AreZeros p.cells → ⊥)

-- one more page is held
pub init_push : (machine : Extent) (init new : HeldInit) (pages : List InitPage) (page p : InitPage) → IsInit machine init pages → MayHave machine init.low p → page ≡ p → new.pages.items ≡ init.pages.items ++ page ∷ [] → new.low ≡ p.page + 1 → IsInit machine new (pages ++ p ∷ [])
init_push machine init new pages page p h may same items low = let rise = rise_push 0 init.low pages p (init_rise machine init pages h) may.0 in record {
  items = items ∙ ap (λ (xs : List InitPage). xs ++ page ∷ []) h.items ∙ ap (λ (q : InitPage). pages ++ q ∷ []) same;
  each = λ size. all_push (InitPageFits (sized size machine)) pages p (h.each size) (record { page = may.1; content = may.2; not_zeros = may.3 });
  rising = rise_increases 0 (p.page + 1) (pages ++ p ∷ []) rise;
  low = low ∙ rise_to 0 (p.page + 1) (pages ++ p ∷ []) rise;
}

-- memory for more pages changes none of them
pub init_roomy : (machine : Extent) (old new : HeldInit) (pages : List InitPage) → IsInit machine old pages → new.pages.items ≡ old.pages.items → new.low ≡ old.low → IsInit machine new pages
init_roomy machine old new pages h items low = record {
  items = items ∙ h.items;
  each = h.each;
  rising = h.rising;
  low = low ∙ h.low;
}

-- a page that the machine may not have makes them the initial pages of none
pub init_never : (machine : Extent) (init : HeldInit) (pages : List InitPage) (p : InitPage) → IsInit machine init pages → (MayHave machine init.low p → ⊥) → IsNoInit machine (pages ++ p ∷ [])
init_never machine init pages p h not size fits =
    let last = all_last (InitPageFits (sized size machine)) pages p fits.each in
    let rise = rise_of (sized size machine) (pages ++ p ∷ []) fits in
    not (rise_last 0 init.low rise.0 pages p (init_rise machine init pages h) rise.2, last.page, last.content, last.not_zeros)

-- those that are held are the initial pages of a machine with as many pages and cells
pub init_fits : (machine e : Extent) (init : HeldInit) (pages : List InitPage) (size : Size) → machine ≡ sized Large e → IsInit machine init pages → AreInitPages (sized size e) pages
init_fits machine e init pages size at h = record {
  each = subst (λ (m : Extent). AllByRecursion (InitPageFits (sized size m)) pages) at (h.each size);
  rising = h.rising;
}

-- initial pages without the last one are initial pages
pub init_front : (e : Extent) (pages : List InitPage) (p : InitPage) → AreInitPages e (pages ++ p ∷ []) → AreInitPages e pages
init_front e pages p fits =
    let rise = rise_of e (pages ++ p ∷ []) fits in
    let front = rise_front 0 rise.0 pages p rise.2 in
    record { each = all_front (InitPageFits e) pages p fits.each; rising = rise_increases 0 front.0 pages front.1 }
