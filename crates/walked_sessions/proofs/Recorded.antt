-- A recording with one more page or record.
use Rattle.std.proofs.Common.{◌≡◌, arith, Bool, true, false, List, [], ◌∷◌, ◌++◌, ap, map, refl, subst, sym}
use Rattle.std.specs.Prelude.{Result, Ok, Err, IfOk, MatchBool}
use Rattle.std.proofs.lemmas.List.{append-nil}
use Rattle.migration_types.specs.Extents.{Extent}
use Rattle.migration_types.specs.Pages.{AreInitPages}
use Rattle.migration_types.specs.Sessions.{Recorded, LaneRecFits, PagerRecFits}
use Rattle.migration_types.specs.declared.pages.InitPage.{InitPage}
use Rattle.migration_types.specs.declared.records.GuestRec.{GuestRec}
use Rattle.migration_types.specs.declared.records.SourceRec.{SourceRec}
use Rattle.migration_types.specs.declared.records.LinkRec.{LinkRec}
use Rattle.migration_types.specs.declared.records.LaneRec.{LaneRec}
use Rattle.migration_types.specs.declared.records.PagerRec.{PagerRec}
use Rattle.migration_types.specs.declared.size.Size.{Size}
use Rattle.migration_types.specs.declared.size.Size.TheVariants.{Large}
use Rattle.migration_types.specs.declared.version.Version.{Version}
use Rattle.recordings.specs.declared.wide.WideInit.{WideInit}
use Rattle.recordings.specs.declared.wide.Wide.{Wide}
use Rattle.recordings.specs.declared.wide.Wide.TheVariants as wide
use Rattle.recordings.specs.Seen.{with_init, with_record, with_guest, with_source, with_link, with_lane, with_pager}
use Rattle.recordings.specs.Wide.{init_of, guest_of, source_of, link_of, lane_of, pager_of}
use Rattle.walked_sessions.specs.Made.{sized}
use Rattle.walked_sessions.specs.Fitting.{Fits, LogFits, GuestFits, SourceFits, LinkFits}
use Rattle.walked_sessions.specs.inner.Fitting.{with_pages}
use Rattle.walked_sessions.specs.declared.init.HeldInit.{HeldInit}
use Rattle.walked_sessions.specs.declared.kept.Kept.{Kept}
use Rattle.walked_sessions.specs.declared.logs.HeldLog.{HeldLog}
use Rattle.walked_sessions.specs.Kept.{IsInit, IsKept, IsLog}
use Rattle.walked_sessions.specs.inner.Kept.{IsNoInit, IsNoLog}
use Rattle.walked_sessions.proofs.Logging.{no_log}
use Rattle.walked_sessions.proofs.Pushed.{all_front, length_push}
use Rattle.walked_sessions.specs.Needs.{IsNever}
use Rattle.walked_sessions.proofs.Pages.{init_front}

-- what is a session in no version and of no size is none with one more initial page
pub never_init : (d : Recorded) (p : InitPage) → IsNever (Fits d) → IsNever (Fits (with_init d p))
never_init d p never version size fits = never version size (record {
  size = fits.size;
  geometry = fits.geometry;
  init = init_front (sized size d.geometry) d.init p fits.init;
  guest = fits.guest;
  source = fits.source;
  link = fits.link;
  lane = fits.lane;
  pager = fits.pager;
})

-- nor if the machine has no such initial pages
pub init_refused : (machine : Extent) (d : Recorded) (p : InitPage) → machine ≡ sized Large d.geometry → IsNoInit machine (d.init ++ p ∷ []) → IsNever (Fits (with_init d p))
init_refused machine d p at none version size fits = none size (subst (λ (m : Extent). AreInitPages (sized size m) (d.init ++ p ∷ [])) (sym at) fits.init)

-- what a test that failed says
pub refused : (A B : Type 0) (b : Bool) → b ≡ false → MatchBool b A B → B
refused A B true e h = absurd cc
refused A B false e h = h

-- more pages, none and one by one
pub no_pages : (d : Recorded) → with_pages [] d ≡ d
no_pages d = ap (λ (init : List InitPage). record { version = d.version; geometry = d.geometry; init = init; guest = d.guest; source = d.source; link = d.link; lane = d.lane; pager = d.pager }) (append-nil d.init)

mapped : (xs : List InitPage) (ps : List WideInit) (p : WideInit) → (xs ++ map init_of ps) ++ init_of p ∷ [] ≡ xs ++ map init_of (ps ++ p ∷ [])
mapped [] [] p = refl
mapped [] (q ∷ ps) p = ap (λ (ys : List InitPage). init_of q ∷ ys) (mapped [] ps p)
mapped (x ∷ xs) ps p = ap (λ (ys : List InitPage). x ∷ ys) (mapped xs ps p)

pub one_more : (d : Recorded) (ps : List WideInit) (p : WideInit) → with_init (with_pages (map init_of ps) d) (init_of p) ≡ with_pages (map init_of (ps ++ p ∷ [])) d
one_more d ps p = ap (λ (init : List InitPage). record { version = d.version; geometry = d.geometry; init = init; guest = d.guest; source = d.source; link = d.link; lane = d.lane; pager = d.pager }) (mapped d.init ps p)

-- memory for more initial pages changes nothing that is kept
pub roomy : (kept : Kept) (init : HeldInit) (d : Recorded) → IsKept kept d → IsInit kept.machine init d.init → IsKept (record { machine = kept.machine; init = init; guest = kept.guest; source = kept.source; link = kept.link; lane = kept.lane; pager = kept.pager }) d
roomy kept init d before stays = record {
  machine = before.machine;
  init = stays;
  guest = before.guest;
  source = before.source;
  link = before.link;
  lane = before.lane;
  pager = before.pager;
}

-- ---- one more record

log_front : {X : Type 0} (Of : Version → Extent → X → Type 0) (e : Extent) (records : List X) (x : X) (version : Version) (size : Size) → LogFits Of e (records ++ x ∷ []) version size → LogFits Of e records version size
log_front Of e records x version size fits = let more = length_push records x in (all_front (Of version (sized size e)) records x fits.0, let few = fits.1 in omega (arith, more, few))

-- what is a session in no version and of no size is none with one more record
pub never_record : (d : Recorded) (rec : Wide) → IsNever (Fits d) → IsNever (Fits (with_record d rec))
never_record d (wide.Guest r) never version size fits = never version size (record { size = fits.size; geometry = fits.geometry; init = fits.init; guest = log_front GuestFits d.geometry d.guest (guest_of r) version size fits.guest; source = fits.source; link = fits.link; lane = fits.lane; pager = fits.pager })
never_record d (wide.Source r) never version size fits = never version size (record { size = fits.size; geometry = fits.geometry; init = fits.init; guest = fits.guest; source = log_front SourceFits d.geometry d.source (source_of r) version size fits.source; link = fits.link; lane = fits.lane; pager = fits.pager })
never_record d (wide.Link r) never version size fits = never version size (record { size = fits.size; geometry = fits.geometry; init = fits.init; guest = fits.guest; source = fits.source; link = log_front LinkFits d.geometry d.link (link_of r) version size fits.link; lane = fits.lane; pager = fits.pager })
never_record d (wide.Lane r) never version size fits = never version size (record { size = fits.size; geometry = fits.geometry; init = fits.init; guest = fits.guest; source = fits.source; link = fits.link; lane = log_front LaneRecFits d.geometry d.lane (lane_of r) version size fits.lane; pager = fits.pager })
never_record d (wide.Pager r) never version size fits = never version size (record { size = fits.size; geometry = fits.geometry; init = fits.init; guest = fits.guest; source = fits.source; link = fits.link; lane = fits.lane; pager = log_front PagerRecFits d.geometry d.pager (pager_of r) version size fits.pager })

pub on_ok : {A E : Type 0} {P Q : A → Type 0} (r : Result A E) → IfOk r P → ((a : A) → P a → Q a) → IfOk r Q
on_ok (Ok a) p follows = follows a p
on_ok (Err e) p follows = tt

-- a log with one more record is kept, or no session has it
pub took_guest : (kept : Kept) (new : HeldLog GuestRec) (d : Recorded) (x : GuestRec) (taken : Bool) → IsKept kept d → MatchBool taken (IsLog GuestFits kept.machine new (d.guest ++ x ∷ [])) (IsNoLog GuestFits kept.machine (d.guest ++ x ∷ [])) → MatchBool taken (IsKept (record { machine = kept.machine; init = kept.init; guest = new; source = kept.source; link = kept.link; lane = kept.lane; pager = kept.pager }) (with_guest d x)) (IsNever (Fits (with_guest d x)))
took_guest kept new d x true is log = record { machine = is.machine; init = is.init; guest = log; source = is.source; link = is.link; lane = is.lane; pager = is.pager }
took_guest kept new d x false is none = λ version size fits. no_log GuestFits kept.machine d.geometry (d.guest ++ x ∷ []) is.machine none version size fits.guest

pub took_source : (kept : Kept) (new : HeldLog SourceRec) (d : Recorded) (x : SourceRec) (taken : Bool) → IsKept kept d → MatchBool taken (IsLog SourceFits kept.machine new (d.source ++ x ∷ [])) (IsNoLog SourceFits kept.machine (d.source ++ x ∷ [])) → MatchBool taken (IsKept (record { machine = kept.machine; init = kept.init; guest = kept.guest; source = new; link = kept.link; lane = kept.lane; pager = kept.pager }) (with_source d x)) (IsNever (Fits (with_source d x)))
took_source kept new d x true is log = record { machine = is.machine; init = is.init; guest = is.guest; source = log; link = is.link; lane = is.lane; pager = is.pager }
took_source kept new d x false is none = λ version size fits. no_log SourceFits kept.machine d.geometry (d.source ++ x ∷ []) is.machine none version size fits.source

pub took_link : (kept : Kept) (new : HeldLog LinkRec) (d : Recorded) (x : LinkRec) (taken : Bool) → IsKept kept d → MatchBool taken (IsLog LinkFits kept.machine new (d.link ++ x ∷ [])) (IsNoLog LinkFits kept.machine (d.link ++ x ∷ [])) → MatchBool taken (IsKept (record { machine = kept.machine; init = kept.init; guest = kept.guest; source = kept.source; link = new; lane = kept.lane; pager = kept.pager }) (with_link d x)) (IsNever (Fits (with_link d x)))
took_link kept new d x true is log = record { machine = is.machine; init = is.init; guest = is.guest; source = is.source; link = log; lane = is.lane; pager = is.pager }
took_link kept new d x false is none = λ version size fits. no_log LinkFits kept.machine d.geometry (d.link ++ x ∷ []) is.machine none version size fits.link

pub took_lane : (kept : Kept) (new : HeldLog LaneRec) (d : Recorded) (x : LaneRec) (taken : Bool) → IsKept kept d → MatchBool taken (IsLog LaneRecFits kept.machine new (d.lane ++ x ∷ [])) (IsNoLog LaneRecFits kept.machine (d.lane ++ x ∷ [])) → MatchBool taken (IsKept (record { machine = kept.machine; init = kept.init; guest = kept.guest; source = kept.source; link = kept.link; lane = new; pager = kept.pager }) (with_lane d x)) (IsNever (Fits (with_lane d x)))
took_lane kept new d x true is log = record { machine = is.machine; init = is.init; guest = is.guest; source = is.source; link = is.link; lane = log; pager = is.pager }
took_lane kept new d x false is none = λ version size fits. no_log LaneRecFits kept.machine d.geometry (d.lane ++ x ∷ []) is.machine none version size fits.lane

pub took_pager : (kept : Kept) (new : HeldLog PagerRec) (d : Recorded) (x : PagerRec) (taken : Bool) → IsKept kept d → MatchBool taken (IsLog PagerRecFits kept.machine new (d.pager ++ x ∷ [])) (IsNoLog PagerRecFits kept.machine (d.pager ++ x ∷ [])) → MatchBool taken (IsKept (record { machine = kept.machine; init = kept.init; guest = kept.guest; source = kept.source; link = kept.link; lane = kept.lane; pager = new }) (with_pager d x)) (IsNever (Fits (with_pager d x)))
took_pager kept new d x true is log = record { machine = is.machine; init = is.init; guest = is.guest; source = is.source; link = is.link; lane = is.lane; pager = log }
took_pager kept new d x false is none = λ version size fits. no_log PagerRecFits kept.machine d.geometry (d.pager ++ x ∷ []) is.machine none version size fits.pager
