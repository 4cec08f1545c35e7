-- What a pass knows, where it meets one more record.
use Rattle.std.proofs.Common.{◌≡◌, ℕ, [], ◌∷◌, ◌++◌, refl, ap, subst, sym}
use Rattle.migration_types.specs.Sessions.{Recorded}
use Rattle.recordings.specs.declared.machine.WideMachine.{WideMachine}
use Rattle.recordings.specs.declared.wide.Wide.{Wide}
use Rattle.recordings.specs.declared.wide.Wide.TheVariants.{Source, Pager}
use Rattle.recordings.specs.declared.wide.WideSource.{WideSource}
use Rattle.recordings.specs.declared.wide.WidePager.{WidePager}
use Rattle.recordings.specs.Seen.{nothing_of, with_record, IsNext}
use Rattle.recordings.specs.Wide.{extent_of, source_of, pager_of}
use Rattle.audit_model.specs.Windows.{Numbers}
use Rattle.windows.specs.declared.marking.Marks.{Marks}
use Rattle.windows.specs.declared.marking.SourceMarks.{SourceMarks}
use Rattle.windows.specs.declared.marking.PagerMarks.{PagerMarks}
use Rattle.windows.specs.inner.Marks.{past}
use Rattle.windows.specs.inner.Guided.{link_by, lane_by}
use Rattle.windows.specs.inner.Met.{IsNothing, SourceFound, PagerFound, Found}
use Rattle.windows.proofs.Lists.{map_nothing}

module _ (number : Numbers) (known : Marks) where
  pub found_nothing : (marks : Marks) (machine : WideMachine) → IsNothing marks → Found number known (record { machine = machine; init = marks.init; guest = marks.guest; source = marks.source; link = marks.link; lane = marks.lane; pager = marks.pager }) (nothing_of machine.version (extent_of machine))
  found_nothing marks machine is = record {
    version = refl;
    extent = refl;
    init = is.init;
    guest = record { misses = ap (λ m. m.misses) is.guest; kept = ap (λ m. m.kept) is.guest; far = ap (λ m. past m.far) is.guest };
    source = record { sendings = ap (λ m. m.sendings) is.source; repeats = ap (λ m. m.repeats) is.source; kept = ap (λ m. m.kept) is.source };
    link = is.link;
    lane = is.lane;
    pager = record { askings = ap (λ m. m.askings) is.pager; placements = ap (λ m. m.placements) is.pager; takings = ap (λ m. m.takings) is.pager; kept = ap (λ m. m.kept) is.pager };
  }

  pub found_source : (marks : Marks) (new : SourceMarks) (d : Recorded) (n : ℕ) (rec : Wide) (r : WideSource) → rec ≡ Source r → IsNext d n rec → Found number known marks d → SourceFound number known new (d.source ++ source_of r ∷ []) → Found number known (record marks { source = new }) (with_record d rec)
  found_source marks new d n rec r is next f g = subst (λ (x : Wide). IsNext d n x → Found number known (record marks { source = new }) (with_record d x)) (sym is) (λ before. record {
    version = f.version;
    extent = f.extent;
    guest = f.guest;
    init = f.init;
    source = g;
    link = map_nothing (link_by known marks.source.repeats) (link_by known new.repeats) d.link marks.link before.0.0 f.link;
    lane = map_nothing (lane_by marks.source.repeats) (lane_by new.repeats) d.lane marks.lane before.0.1.0 f.lane;
    pager = f.pager;
  }) next

  pub found_pager : (marks : Marks) (new : PagerMarks) (d : Recorded) (rec : Wide) (r : WidePager) → rec ≡ Pager r → Found number known marks d → PagerFound number known marks.link marks.lane new (d.pager ++ pager_of r ∷ []) → Found number known (record marks { pager = new }) (with_record d rec)
  found_pager marks new d rec r is f g = subst (λ (x : Wide). Found number known (record marks { pager = new }) (with_record d x)) (sym is) (record { version = f.version; extent = f.extent; init = f.init; guest = f.guest; source = f.source; link = f.link; lane = f.lane; pager = g })
