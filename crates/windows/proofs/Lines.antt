-- Lines of what is kept, where one more record is met.
use Rattle.std.proofs.Common.{◌≡◌, ℕ, Bool, true, false, List, [], ◌∷◌, ◌++◌, length, map, sym, ap, ◌∙◌, subst, refl}
use Rattle.std.specs.Prelude.{if◌then◌else◌}
use Rattle.migration_types.specs.declared.version.Version.{Version}
use Rattle.migration_types.specs.Extents.{Extent}
use Rattle.migration_types.specs.Sessions.{Recorded}
use Rattle.session_grammar.specs.Records.{guest_line, source_line, link_line, lane_line, pager_line}
use Rattle.recordings.specs.Seen.{nothing_of, with_record, IsNext}
use Rattle.recordings.specs.Wide.{guest_of, source_of, link_of, lane_of, pager_of}
use Rattle.recordings.specs.declared.wide.Wide.{Wide}
use Rattle.recordings.specs.declared.wide.Wide.TheVariants.{Guest, Source, Link, Lane, Pager}
use Rattle.recordings.specs.declared.wide.WideGuest.{WideGuest}
use Rattle.recordings.specs.declared.wide.WideSource.{WideSource}
use Rattle.recordings.specs.declared.wide.WideLink.{WideLink}
use Rattle.recordings.specs.declared.wide.WideLane.{WideLane}
use Rattle.recordings.specs.declared.wide.WidePager.{WidePager}
use Rattle.audit_model.specs.Windows.{Numbers}
use Rattle.windows.specs.declared.marking.Marks.{Marks}
use Rattle.windows.specs.declared.sections.Section.{Section}
use Rattle.windows.specs.declared.sections.Sections.{Sections}
use Rattle.windows.specs.inner.Marks.{has_mark}
use Rattle.windows.specs.inner.Guided.{new_guest_by, new_source_by, new_link_by, new_lane_by, new_pager_by, kept_line}
use Rattle.windows.specs.inner.Met.{lines_of, IsSection, IsBlank, Written}
use Rattle.windows.proofs.Lists.{kept_nothing}

module _ {A : Type 0} (line : A → List ℕ) (new : A → A) where
  -- the line of one more record follows, if it is kept
  line_next : (marks : List Bool) (log : List A) (x : A) → lines_of line new marks (log ++ x ∷ []) ≡ lines_of line new marks log ++ (if has_mark marks (length log) then line (new x) ∷ [] else [])
  line_next [] [] x = refl
  line_next [] (y ∷ log) x = refl
  line_next (true ∷ marks) [] x = ap (λ xs. line (new x) ∷ map line (map new xs)) (kept_nothing marks)
  line_next (false ∷ marks) [] x = ap (λ xs. map line (map new xs)) (kept_nothing marks)
  line_next (true ∷ marks) (y ∷ log) x = ap (λ lines. line (new y) ∷ lines) (line_next marks log x)
  line_next (false ∷ marks) (y ∷ log) x = line_next marks log x

  section_next : (marks : List Bool) (log : List A) (x : A) (n : ℕ) (section : Section) → length log ≡ n → IsSection section (lines_of line new marks log ++ (if has_mark marks n then line (new x) ∷ [] else [])) → IsSection section (lines_of line new marks (log ++ x ∷ []))
  section_next marks log x n section at is = subst (IsSection section) (ap (λ k. lines_of line new marks log ++ (if has_mark marks k then line (new x) ∷ [] else [])) (sym at) ∙ sym (line_next marks log x)) is

  test_next : (test : A → Bool) (log : List A) (x : A) → lines_of line new (map test (log ++ x ∷ [])) (log ++ x ∷ []) ≡ lines_of line new (map test log) log ++ (if test x then line (new x) ∷ [] else [])
  test_next test [] x = go (test x)
    where
      go : (b : Bool) → lines_of line new (b ∷ []) (x ∷ []) ≡ (if b then line (new x) ∷ [] else [])
      go true = refl
      go false = refl
  test_next test (y ∷ log) x = go (test y) (test_next test log x)
    where
      go : (b : Bool) → lines_of line new (map test (log ++ x ∷ [])) (log ++ x ∷ []) ≡ lines_of line new (map test log) log ++ (if test x then line (new x) ∷ [] else []) → lines_of line new (b ∷ map test (log ++ x ∷ [])) (y ∷ (log ++ x ∷ [])) ≡ lines_of line new (b ∷ map test log) (y ∷ log) ++ (if test x then line (new x) ∷ [] else [])
      go true rec = ap (λ lines. line (new y) ∷ lines) rec
      go false rec = rec

  pub tested_next : (test : A → Bool) (log : List A) (x : A) (b : Bool) (section : Section) → b ≡ test x → IsSection section (lines_of line new (map test log) log ++ (if b then line (new x) ∷ [] else [])) → IsSection section (lines_of line new (map test (log ++ x ∷ [])) (log ++ x ∷ []))
  tested_next test log x b section has is = subst (IsSection section) (ap (λ c. lines_of line new (map test log) log ++ (if c then line (new x) ∷ [] else [])) has ∙ sym (test_next test log x)) is

  line_nothing : (marks : List Bool) (section : Section) → IsSection section [] → IsSection section (lines_of line new marks [])
  line_nothing marks section is = subst (λ xs. IsSection section (map line (map new xs))) (sym (kept_nothing {A = A} marks)) is

pub written_nothing : (number : Numbers) (known : Marks) (sections : Sections) (version : Version) (e : Extent) → IsBlank sections → Written number known sections (nothing_of version e)
written_nothing number known sections version e is = record {
  init = is.init;
  guest = line_nothing guest_line (new_guest_by number known) known.guest.kept sections.guest is.guest;
  source = line_nothing source_line (new_source_by number known) known.source.kept sections.source is.source;
  link = line_nothing link_line (new_link_by known) known.link sections.link is.link;
  lane = line_nothing lane_line (new_lane_by known) known.lane sections.lane is.lane;
  pager = line_nothing pager_line (new_pager_by number known) known.pager.kept sections.pager is.pager;
}

-- what is written with a record, where the section of its log takes its line, if it is kept
module _ (number : Numbers) (known : Marks) (sections : Sections) (section : Section) (d : Recorded) (n : ℕ) (w : Written number known sections d) where
  pub written_guest : (rec : Wide) (r : WideGuest) → rec ≡ Guest r → IsNext d n rec → IsSection section (lines_of guest_line (new_guest_by number known) known.guest.kept d.guest ++ kept_line number known known.guest.kept n rec) → Written number known (record sections { guest = section }) (with_record d rec)
  written_guest rec r is = subst (λ (x : Wide). IsNext d n x → IsSection section (lines_of guest_line (new_guest_by number known) known.guest.kept d.guest ++ kept_line number known known.guest.kept n x) → Written number known (record sections { guest = section }) (with_record d x)) (sym is) (λ next more. record { init = w.init; guest = section_next guest_line (new_guest_by number known) known.guest.kept d.guest (guest_of r) n section next.1 more; source = w.source; link = w.link; lane = w.lane; pager = w.pager })

  pub written_source : (rec : Wide) (r : WideSource) → rec ≡ Source r → IsNext d n rec → IsSection section (lines_of source_line (new_source_by number known) known.source.kept d.source ++ kept_line number known known.source.kept n rec) → Written number known (record sections { source = section }) (with_record d rec)
  written_source rec r is = subst (λ (x : Wide). IsNext d n x → IsSection section (lines_of source_line (new_source_by number known) known.source.kept d.source ++ kept_line number known known.source.kept n x) → Written number known (record sections { source = section }) (with_record d x)) (sym is) (λ next more. record { init = w.init; guest = w.guest; source = section_next source_line (new_source_by number known) known.source.kept d.source (source_of r) n section next.1 more; link = w.link; lane = w.lane; pager = w.pager })

  pub written_link : (rec : Wide) (r : WideLink) → rec ≡ Link r → IsNext d n rec → IsSection section (lines_of link_line (new_link_by known) known.link d.link ++ kept_line number known known.link n rec) → Written number known (record sections { link = section }) (with_record d rec)
  written_link rec r is = subst (λ (x : Wide). IsNext d n x → IsSection section (lines_of link_line (new_link_by known) known.link d.link ++ kept_line number known known.link n x) → Written number known (record sections { link = section }) (with_record d x)) (sym is) (λ next more. record { init = w.init; guest = w.guest; source = w.source; link = section_next link_line (new_link_by known) known.link d.link (link_of r) n section next.1 more; lane = w.lane; pager = w.pager })

  pub written_lane : (rec : Wide) (r : WideLane) → rec ≡ Lane r → IsNext d n rec → IsSection section (lines_of lane_line (new_lane_by known) known.lane d.lane ++ kept_line number known known.lane n rec) → Written number known (record sections { lane = section }) (with_record d rec)
  written_lane rec r is = subst (λ (x : Wide). IsNext d n x → IsSection section (lines_of lane_line (new_lane_by known) known.lane d.lane ++ kept_line number known known.lane n x) → Written number known (record sections { lane = section }) (with_record d x)) (sym is) (λ next more. record { init = w.init; guest = w.guest; source = w.source; link = w.link; lane = section_next lane_line (new_lane_by known) known.lane d.lane (lane_of r) n section next.1 more; pager = w.pager })

  pub written_pager : (rec : Wide) (r : WidePager) → rec ≡ Pager r → IsNext d n rec → IsSection section (lines_of pager_line (new_pager_by number known) known.pager.kept d.pager ++ kept_line number known known.pager.kept n rec) → Written number known (record sections { pager = section }) (with_record d rec)
  written_pager rec r is = subst (λ (x : Wide). IsNext d n x → IsSection section (lines_of pager_line (new_pager_by number known) known.pager.kept d.pager ++ kept_line number known known.pager.kept n x) → Written number known (record sections { pager = section }) (with_record d x)) (sym is) (λ next more. record { init = w.init; guest = w.guest; source = w.source; link = w.link; lane = w.lane; pager = section_next pager_line (new_pager_by number known) known.pager.kept d.pager (pager_of r) n section next more })
