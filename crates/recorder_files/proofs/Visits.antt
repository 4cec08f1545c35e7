-- What is known of the logs, where one more record comes.
use Rattle.std.proofs.Common.{◌≡◌, List, [], ◌∷◌, ◌++◌, map, Option, refl, sym, ap, subst, ◌∙◌}
use Rattle.migration_types.specs.declared.pages.InitPage.{InitPage}
use Rattle.migration_types.specs.declared.records.LogName.{LogName}
use Rattle.migration_types.specs.declared.records.LogName.TheVariants.{Guest, Source, Link, Lane, Pager}
use Rattle.migration_types.specs.declared.version.Version.{Version}
use Rattle.migration_types.specs.Extents.{Extent}
use Rattle.migration_types.specs.Receipts.{Name}
use Rattle.migration_types.specs.Rows.{guest_row, source_row, link_row, lane_row, pager_row}
use Rattle.migration_types.specs.Sessions.{Recorded}
use Rattle.recordings.specs.Seen.{nothing_of, with_init, with_record}
use Rattle.recordings.specs.Wide.{guest_of, source_of, link_of, lane_of, pager_of, log_of, wide_row}
use Rattle.recordings.specs.declared.wide.Wide.{Wide}
use Rattle.recordings.specs.declared.wide.Wide.TheVariants as wide
use Rattle.recorder_files.specs.declared.naming.Naming.{Naming}
use Rattle.recorder_files.specs.declared.reach.Reach.{Reach}
use Rattle.recorder_files.specs.Named.{IsBlank, IsNaming}
use Rattle.recorder_files.specs.Reaches.{named_first, names_in, IsReach}

map_end : {X : Type 0} (f : X → Option Name) (xs : List X) (x : X) → map f (xs ++ x ∷ []) ≡ map f xs ++ f x ∷ []
map_end f [] x = refl
map_end f (y ∷ xs) x = ap (λ ys. f y ∷ ys) (map_end f xs x)

one_more : {X : Type 0} (reach : Reach) (f : X → Option Name) (xs : List X) (x : X) (named : Option Name) → named ≡ f x → IsReach reach (map f xs ++ named ∷ []) → IsReach reach (map f (xs ++ x ∷ []))
one_more reach f xs x named e is = subst (λ ns. IsReach reach ns) (ap (λ n. map f xs ++ n ∷ []) e ∙ sym (map_end f xs x)) is

pub met_nothing : (naming : Naming) (version : Version) (e : Extent) → IsBlank naming → IsNaming naming (nothing_of version e)
met_nothing naming version e is = record { guest = is.guest; source = is.source; link = is.link; lane = is.lane; pager = is.pager }

pub met_init : (naming : Naming) (d : Recorded) (p : InitPage) → IsNaming naming d → IsNaming naming (with_init d p)
met_init naming d p is = record { guest = is.guest; source = is.source; link = is.link; lane = is.lane; pager = is.pager }

-- what the records of one log name, and what all name with another reach of one log
abbrev pub reach_of : Naming → LogName → Reach
reach_of naming Guest = naming.guest
reach_of naming Source = naming.source
reach_of naming Link = naming.link
reach_of naming Lane = naming.lane
reach_of naming Pager = naming.pager

abbrev pub with_reach : Naming → LogName → Reach → Naming
with_reach naming Guest new = record { guest = new; source = naming.source; link = naming.link; lane = naming.lane; pager = naming.pager }
with_reach naming Source new = record { guest = naming.guest; source = new; link = naming.link; lane = naming.lane; pager = naming.pager }
with_reach naming Link new = record { guest = naming.guest; source = naming.source; link = new; lane = naming.lane; pager = naming.pager }
with_reach naming Lane new = record { guest = naming.guest; source = naming.source; link = naming.link; lane = new; pager = naming.pager }
with_reach naming Pager new = record { guest = naming.guest; source = naming.source; link = naming.link; lane = naming.lane; pager = new }

met_at : (naming : Naming) (new : Reach) (d : Recorded) (rec : Wide) (named : Option Name) → named ≡ named_first (wide_row rec).fields → IsNaming naming d → ((names : List (Option Name)) → IsReach (reach_of naming (log_of rec)) names → IsReach new (names ++ named ∷ [])) → IsNaming (with_reach naming (log_of rec) new) (with_record d rec)
met_at naming new d (wide.Guest r) named e is more = record { guest = one_more new (λ x. named_first (guest_row x).fields) d.guest (guest_of r) named e (more (names_in d Guest) is.guest); source = is.source; link = is.link; lane = is.lane; pager = is.pager }
met_at naming new d (wide.Source r) named e is more = record { guest = is.guest; source = one_more new (λ x. named_first (source_row x).fields) d.source (source_of r) named e (more (names_in d Source) is.source); link = is.link; lane = is.lane; pager = is.pager }
met_at naming new d (wide.Link r) named e is more = record { guest = is.guest; source = is.source; link = one_more new (λ x. named_first (link_row x).fields) d.link (link_of r) named e (more (names_in d Link) is.link); lane = is.lane; pager = is.pager }
met_at naming new d (wide.Lane r) named e is more = record { guest = is.guest; source = is.source; link = is.link; lane = one_more new (λ x. named_first (lane_row x).fields) d.lane (lane_of r) named e (more (names_in d Lane) is.lane); pager = is.pager }
met_at naming new d (wide.Pager r) named e is more = record { guest = is.guest; source = is.source; link = is.link; lane = is.lane; pager = one_more new (λ x. named_first (pager_row x).fields) d.pager (pager_of r) named e (more (names_in d Pager) is.pager) }

pub met_record : (naming : Naming) (new : Reach) (d : Recorded) (rec : Wide) (named : Option Name) (log : LogName) → log ≡ log_of rec → named ≡ named_first (wide_row rec).fields → IsNaming naming d → ((names : List (Option Name)) → IsReach (reach_of naming log) names → IsReach new (names ++ named ∷ [])) → IsNaming (with_reach naming log new) (with_record d rec)
met_record naming new d rec named log at e is = subst (λ (l : LogName). ((names : List (Option Name)) → IsReach (reach_of naming l) names → IsReach new (names ++ named ∷ [])) → IsNaming (with_reach naming l new) (with_record d rec)) (sym at) (met_at naming new d rec named e is)
