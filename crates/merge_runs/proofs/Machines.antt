-- Machines and their worlds.
use Rattle.std.proofs.Common.{◌≡◌, ℕ, ◌<◌, ap, arith}
use Rattle.migration_types.specs.Extents.{Extent}
use Rattle.audit_model.specs.World.{World}
use Rattle.merge_runs.specs.declared.moving.Moving.{Moving}
use Rattle.merge_runs.specs.inner.Moving.{IsSized, HasPage, HasCell}

-- worlds with the same parts are the same
pub same_world : (a b : World) → a.home ≡ b.home → a.source ≡ b.source → a.target ≡ b.target → a.resident ≡ b.resident → a.placed ≡ b.placed → a.touched ≡ b.touched → a.ledger ≡ b.ledger → a ≡ b
same_world a b home source target resident placed touched ledger =
    λ i. record { home = home i; source = source i; target = target i; resident = resident i; placed = placed i; touched = touched i; ledger = ledger i }

-- machines of a geometry have its pages and cells
pub has_page : (e : Extent) (m : Moving) (p : ℕ) → IsSized e m → p < e.pages → HasPage m p
has_page e m p sized lt = record {
  frames = let same = ap (λ (x : Extent). x.pages) sized.source.frames in omega arith;
  ledger = let same = ap (λ (x : Extent). x.pages) sized.source.ledger in omega arith;
  target = record {
    frames = let same = ap (λ (x : Extent). x.pages) sized.target.frames in omega arith;
    resident = omega (arith, sized.target.resident);
    placed = omega (arith, sized.target.placed);
    touched = omega (arith, sized.target.touched);
  };
}

has_cell : (e : Extent) (m : Moving) (c : ℕ) → IsSized e m → c < e.cells → HasCell m c
has_cell e m c sized lt = record {
  source = let same = ap (λ (x : Extent). x.cells) sized.source.frames in omega arith;
  target = let same = ap (λ (x : Extent). x.cells) sized.target.frames in omega arith;
}
