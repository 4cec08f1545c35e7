-- The session that a recording makes.
use Rattle.std.proofs.Common.{◌≡◌, ◌∙◌, ◌≤◌, ℕ, List, arith, subst}
use Rattle.migration_types.specs.Extents.{Extent, IsExtent}
use Rattle.migration_types.specs.Limits.{limits, limits_at_most, HasSize}
use Rattle.migration_types.specs.Sessions.{Recorded, IsSession, LaneRecFits, PagerRecFits, log_length}
use Rattle.migration_types.specs.declared.pages.InitPage.{InitPage}
use Rattle.migration_types.specs.declared.records.GuestRec.{GuestRec}
use Rattle.migration_types.specs.declared.records.LaneRec.{LaneRec}
use Rattle.migration_types.specs.declared.records.LinkRec.{LinkRec}
use Rattle.migration_types.specs.declared.records.PagerRec.{PagerRec}
use Rattle.migration_types.specs.declared.records.SourceRec.{SourceRec}
use Rattle.migration_types.specs.declared.records.LogName.{LogName}
use Rattle.migration_types.specs.declared.records.LogName.TheVariants as log
use Rattle.migration_types.specs.declared.size.Size.{Size}
use Rattle.migration_types.specs.declared.version.Version.{Version}
use Rattle.walked_sessions.specs.Made.{sized}
use Rattle.walked_sessions.specs.declared.kept.Kept.{Kept}
use Rattle.walked_sessions.specs.Fitting.{Fits, GuestFits, LinkFits, SourceFits}
use Rattle.walked_sessions.specs.inner.Fitting.{in_form}
use Rattle.walked_sessions.specs.Kept.{IsKept}
use Rattle.walked_sessions.specs.inner.Kept.{IsWithin}
use Rattle.walked_sessions.proofs.Logging.{fits_log, log_fits}
use Rattle.walked_sessions.proofs.Pages.{init_fits}

-- a recording is within the limits of a version and a size exactly if it is a session of them
own_fits : (d : Recorded) (version : Version) (size : Size) → Fits d version size → (name : LogName) → log_length (in_form version size d) name ≤ (limits size).records
own_fits d version size fits log.Guest = fits.guest.1
own_fits d version size fits log.Source = fits.source.1
own_fits d version size fits log.Link = fits.link.1
own_fits d version size fits log.Lane = fits.lane.1
own_fits d version size fits log.Pager = fits.pager.1

pub fits_session : (d : Recorded) (version : Version) (size : Size) → Fits d version size → IsSession (in_form version size d)
fits_session d version size fits =
    let most = (limits_at_most size).few_records in
    record {
      size = fits.size;
      geometry = fits.geometry;
      init = fits.init;
      few_guest = let few = fits.guest.1 in omega (arith, most, few);
      few_source = let few = fits.source.1 in omega (arith, most, few);
      few_link = let few = fits.link.1 in omega (arith, most, few);
      few_lane = let few = fits.lane.1 in omega (arith, most, few);
      few_pager = let few = fits.pager.1 in omega (arith, most, few);
      own = own_fits d version size fits;
      guest = fits.guest.0;
      source = fits.source.0;
      link = fits.link.0;
      lane = fits.lane.0;
      pager = fits.pager.0;
    }

pub session_fits : (d : Recorded) (version : Version) (size : Size) → IsSession (in_form version size d) → Fits d version size
session_fits d version size session = record {
  size = session.size;
  geometry = session.geometry;
  init = session.init;
  guest = (session.guest, session.own log.Guest);
  source = (session.source, session.own log.Source);
  link = (session.link, session.own log.Link);
  lane = (session.lane, session.own log.Lane);
  pager = (session.pager, session.own log.Pager);
}

-- what is kept is within the limits exactly if each part is
pub kept_fits : (kept : Kept) (d : Recorded) (version : Version) (size : Size) → IsKept kept d → HasSize version size → IsExtent (sized size kept.machine) → IsWithin kept.guest version size → IsWithin kept.source version size → IsWithin kept.link version size → IsWithin kept.lane version size → IsWithin kept.pager version size → Fits d version size
kept_fits kept d version size h has geometry guest source link lane pager = record {
  size = has;
  geometry = subst (λ (m : Extent). IsExtent (sized size m)) h.machine geometry;
  init = init_fits kept.machine d.geometry kept.init d.init size h.machine h.init;
  guest = log_fits GuestFits kept.machine d.geometry kept.guest d.guest version size h.machine h.guest guest;
  source = log_fits SourceFits kept.machine d.geometry kept.source d.source version size h.machine h.source source;
  link = log_fits LinkFits kept.machine d.geometry kept.link d.link version size h.machine h.link link;
  lane = log_fits LaneRecFits kept.machine d.geometry kept.lane d.lane version size h.machine h.lane lane;
  pager = log_fits PagerRecFits kept.machine d.geometry kept.pager d.pager version size h.machine h.pager pager;
}

pub fits_kept : (kept : Kept) (d : Recorded) (version : Version) (size : Size) → IsKept kept d → Fits d version size → IsWithin kept.guest version size × IsWithin kept.source version size × IsWithin kept.link version size × IsWithin kept.lane version size × IsWithin kept.pager version size
fits_kept kept d version size h fits = (
  fits_log GuestFits kept.machine d.geometry kept.guest d.guest version size h.machine h.guest fits.guest,
  fits_log SourceFits kept.machine d.geometry kept.source d.source version size h.machine h.source fits.source,
  fits_log LinkFits kept.machine d.geometry kept.link d.link version size h.machine h.link fits.link,
  fits_log LaneRecFits kept.machine d.geometry kept.lane d.lane version size h.machine h.lane fits.lane,
  fits_log PagerRecFits kept.machine d.geometry kept.pager d.pager version size h.machine h.pager fits.pager,
)

-- a machine of these pages and cells is this one, with that size
pub sized_is : (size : Size) (machine : Extent) (pages cells : ℕ) → pages ≡ machine.pages → cells ≡ machine.cells → record { size = size; pages = pages; cells = cells } ≡ sized size machine
sized_is size machine pages cells at_pages at_cells = cc

-- what has what is kept is the recording
pub made_is : (kept : Kept) (d : Recorded) (version : Version) (size : Size) (machine : Extent) (init : List InitPage) (guest : List GuestRec) (source : List SourceRec) (link : List LinkRec) (lane : List LaneRec) (pager : List PagerRec) → IsKept kept d → machine ≡ sized size d.geometry → init ≡ kept.init.pages.items → guest ≡ kept.guest.items.items → source ≡ kept.source.items.items → link ≡ kept.link.items.items → lane ≡ kept.lane.items.items → pager ≡ kept.pager.items.items → record { version = version; geometry = machine; init = init; guest = guest; source = source; link = link; lane = lane; pager = pager } ≡ in_form version size d
made_is kept d version size machine init guest source link lane pager h at init_at guest_at source_at link_at lane_at pager_at =
    let init_is : init ≡ d.init = init_at ∙ h.init.items in
    let guest_is : guest ≡ d.guest = guest_at ∙ h.guest.items in
    let source_is : source ≡ d.source = source_at ∙ h.source.items in
    let link_is : link ≡ d.link = link_at ∙ h.link.items in
    let lane_is : lane ≡ d.lane = lane_at ∙ h.lane.items in
    let pager_is : pager ≡ d.pager = pager_at ∙ h.pager.items in
    cc
