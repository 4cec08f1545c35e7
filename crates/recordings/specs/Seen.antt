-- What was read of a recording so far: lists that grow in the order of its text.
use Rattle.std.specs.Prelude.{◌≡◌, ℕ, [], ◌∷◌, ◌++◌, length}
use Rattle.migration_types.specs.declared.pages.InitPage.{InitPage}
use Rattle.migration_types.specs.declared.version.Version.{Version}
use Rattle.migration_types.specs.declared.records.GuestRec.{GuestRec}
use Rattle.migration_types.specs.declared.records.SourceRec.{SourceRec}
use Rattle.migration_types.specs.declared.records.LinkRec.{LinkRec}
use Rattle.migration_types.specs.declared.records.LaneRec.{LaneRec}
use Rattle.migration_types.specs.declared.records.PagerRec.{PagerRec}
use Rattle.migration_types.specs.Extents.{Extent}
use Rattle.migration_types.specs.Sessions.{Recorded}
use Rattle.recordings.specs.Wide.{guest_of, source_of, link_of, lane_of, pager_of}
use Rattle.recordings.specs.declared.wide.Wide.{Wide}
use Rattle.recordings.specs.declared.wide.Wide.TheVariants.{Guest, Source, Link, Lane, Pager}

-- what was read if only the machine was
abbrev pub nothing_of : Version → Extent → Recorded
nothing_of version e = record { version = version; geometry = e; init = []; guest = []; source = []; link = []; lane = []; pager = [] }

-- one more page or record, after those so far
abbrev pub with_init : Recorded → InitPage → Recorded
with_init d p = record { version = d.version; geometry = d.geometry; init = d.init ++ p ∷ []; guest = d.guest; source = d.source; link = d.link; lane = d.lane; pager = d.pager }

abbrev pub with_guest : Recorded → GuestRec → Recorded
with_guest d r = record { version = d.version; geometry = d.geometry; init = d.init; guest = d.guest ++ r ∷ []; source = d.source; link = d.link; lane = d.lane; pager = d.pager }

abbrev pub with_source : Recorded → SourceRec → Recorded
with_source d r = record { version = d.version; geometry = d.geometry; init = d.init; guest = d.guest; source = d.source ++ r ∷ []; link = d.link; lane = d.lane; pager = d.pager }

abbrev pub with_link : Recorded → LinkRec → Recorded
with_link d r = record { version = d.version; geometry = d.geometry; init = d.init; guest = d.guest; source = d.source; link = d.link ++ r ∷ []; lane = d.lane; pager = d.pager }

abbrev pub with_lane : Recorded → LaneRec → Recorded
with_lane d r = record { version = d.version; geometry = d.geometry; init = d.init; guest = d.guest; source = d.source; link = d.link; lane = d.lane ++ r ∷ []; pager = d.pager }

abbrev pub with_pager : Recorded → PagerRec → Recorded
with_pager d r = record { version = d.version; geometry = d.geometry; init = d.init; guest = d.guest; source = d.source; link = d.link; lane = d.lane; pager = d.pager ++ r ∷ [] }

abbrev pub with_record : Recorded → Wide → Recorded
with_record d (Guest rec) = with_guest d (guest_of rec)
with_record d (Source rec) = with_source d (source_of rec)
with_record d (Link rec) = with_link d (link_of rec)
with_record d (Lane rec) = with_lane d (lane_of rec)
with_record d (Pager rec) = with_pager d (pager_of rec)

-- nothing was read of the logs after this one
abbrev pub BeforePager : Recorded → Type 0
BeforePager d = d.pager ≡ []

abbrev pub BeforeLane : Recorded → Type 0
BeforeLane d = (d.lane ≡ []) × BeforePager d

abbrev pub BeforeLink : Recorded → Type 0
BeforeLink d = (d.link ≡ []) × BeforeLane d

abbrev pub BeforeSource : Recorded → Type 0
BeforeSource d = (d.source ≡ []) × BeforeLink d

abbrev pub BeforeGuest : Recorded → Type 0
BeforeGuest d = (d.guest ≡ []) × BeforeSource d

-- the next record may be this one, whose number in its log is given
abbrev pub IsNext : Recorded → ℕ → Wide → Type 0
IsNext d number (Guest rec) = BeforeSource d × (length d.guest ≡ number)
IsNext d number (Source rec) = BeforeLink d × (length d.source ≡ number)
IsNext d number (Link rec) = BeforeLane d × (length d.link ≡ number)
IsNext d number (Lane rec) = BeforePager d × (length d.lane ≡ number)
IsNext d number (Pager rec) = length d.pager ≡ number
