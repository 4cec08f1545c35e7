-- A session that was held, and the text that it has.
use Rattle.std.proofs.Common.{◌≡◌, ◌∙◌, ◌++◌, ℕ, suc, List, [], ◌∷◌, Some, ap, arith, map, refl, subst, sym}
use Rattle.std.specs.Prelude.{IfOk, IfSome, MatchOption, None, Option, Result, Ok, Err}
use Rattle.std.specs.List.{AllByRecursion}
use Rattle.std.proofs.lemmas.List.{take_all}
use Rattle.migration_types.specs.Extents.{Extent}
use Rattle.migration_types.specs.declared.pages.InitPage.{InitPage}
use Rattle.migration_types.specs.declared.records.LaneRec.{LaneRec}
use Rattle.migration_types.specs.declared.records.LogName.{LogName}
use Rattle.migration_types.specs.declared.records.LogName.TheVariants.{Guest, Source, Link, Lane, Pager}
use Rattle.migration_types.specs.declared.size.Size.{Size}
use Rattle.migration_types.specs.declared.size.Size.TheVariants.{Large}
use Rattle.migration_types.specs.declared.version.Version.{Version}
use Rattle.migration_types.specs.declared.version.Version.TheVariants.{Two}
use Rattle.migration_types.specs.Sessions.{IsSession, LaneRecFits, PagerRecFits, Recorded, SourceRecFits, log_length}
use Rattle.text_lines.specs.Text.{IsSpelling, ended}
use Rattle.session_grammar.specs.Grammar.{SpellsSession, session_lines}
use Rattle.recordings.specs.Recordings.{IsGuestRecOf, IsLaneRecOf}
use Rattle.recordings.specs.Wide.{extent_of, guest_of, init_of, lane_of}
use Rattle.recordings.specs.declared.machine.WideMachine.{WideMachine}
use Rattle.recordings.specs.declared.wide.WideGuest.{WideGuest}
use Rattle.recordings.specs.declared.wide.WideGuest.TheVariants.{Read, Write, Release, Miss, Halt, Resume, See}
use Rattle.recordings.specs.declared.wide.WideInit.{WideInit}
use Rattle.recordings.specs.declared.wide.WideLane.{WideLane}
use Rattle.recordings.specs.declared.wide.WideLane.TheVariants.{Down as LaneDown}
use Rattle.recordings.specs.declared.wide.WideSource.TheVariants.{Halted, State, Send, Again, Ask, Done, Back}
use Rattle.recordings.specs.declared.wide.WidePager.TheVariants.{Got, Pull, Ready, Fault, Join, Want, Place, Zero, Skip, All}
use Rattle.recorder_files.specs.Fronts.{cursors_of, cut_to}
use Rattle.recorder_files.specs.Raw.{IsRawPagerOf, IsRawSourceOf}
use Rattle.recorder_files.specs.Told.{numbered_pager, numbered_source}
use Rattle.recorder_files.specs.declared.fronts.Front.{Front}
use Rattle.recorder_files.specs.declared.lines.Party.{Party}
use Rattle.recorder_files.specs.declared.raw.RawPager.{RawPager}
use Rattle.recorder_files.specs.declared.raw.RawPager.TheVariants.{Own as OwnPager, GotSent, PullSent}
use Rattle.recorder_files.specs.declared.raw.RawSource.{RawSource}
use Rattle.recorder_files.specs.declared.raw.RawSource.TheVariants.{Own as OwnSource, AskSent}
use Rattle.walked_sessions.specs.Walks.{AreNumbered, Bytes, IsRecordingOf, TellLog}
use Rattle.session_commands.specs.declared.found.FoundLogs.{FoundLogs}
use Rattle.walked_sessions.specs.Made.{session_of, sized}
use Rattle.session_commands.specs.Files.{IsTextOf, any_machine, bytes_in}
use Rattle.command_words.specs.declared.requests.Lacking.TheVariants.{Refused}
use Rattle.session_commands.specs.declared.making.Known.{Known}
use Rattle.session_commands.specs.inner.Seen.{IsKnown}

-- ---- records of the widest machine that are within a narrower one

abbrev wide : ℕ → ℕ → Extent
wide pages cells = record { size = Large; pages = pages; cells = cells }

abbrev narrow : Size → ℕ → ℕ → Extent
narrow size pages cells = record { size = size; pages = pages; cells = cells }

guests_in : (size : Size) (pages cells : ℕ) (guest : List WideGuest) → AllByRecursion (λ r. IsGuestRecOf (wide pages cells) (guest_of r)) guest → AllByRecursion (λ r. IsGuestRecOf (narrow size pages cells) (guest_of r)) guest
guests_in size pages cells [] each = tt
guests_in size pages cells (rec ∷ guest) each = (one rec each.0, guests_in size pages cells guest each.1)
  where
    one : (r : WideGuest) → IsGuestRecOf (wide pages cells) (guest_of r) → IsGuestRecOf (narrow size pages cells) (guest_of r)
    one (Read vcpu page cell value) is = is
    one (Write vcpu page cell value) is = is
    one (Release vcpu page) is = is
    one (Miss vcpu page) is = is
    one Halt is = is
    one (Resume ready) is = is
    one (See placement) is = is

source_in : (size : Size) (pages cells n : ℕ) (r : RawSource) → IsRawSourceOf (wide pages cells) r → SourceRecFits (narrow size pages cells) (numbered_source n r) → IsRawSourceOf (narrow size pages cells) r
source_in size pages cells n (OwnSource (Halted halt)) is fits = is
source_in size pages cells n (OwnSource State) is fits = is
source_in size pages cells n (OwnSource (Send page contents)) is fits = is
source_in size pages cells n (OwnSource (Again sending)) is fits = is
source_in size pages cells n (OwnSource (Ask up)) is fits = is
source_in size pages cells n (OwnSource Done) is fits = is
source_in size pages cells n (OwnSource Back) is fits = fits
source_in size pages cells n (AskSent asking) is fits = is

pager_in : (version : Version) (size : Size) (pages cells n : ℕ) (r : RawPager) → IsRawPagerOf Two (wide pages cells) r → PagerRecFits version (narrow size pages cells) (numbered_pager n r) → IsRawPagerOf version (narrow size pages cells) r
pager_in version size pages cells n (OwnPager (Got down)) is fits = is
pager_in version size pages cells n (OwnPager (Pull down)) is fits = (fits.0, is.1)
pager_in version size pages cells n (OwnPager Ready) is fits = is
pager_in version size pages cells n (OwnPager (Fault miss)) is fits = is
pager_in version size pages cells n (OwnPager (Join want)) is fits = is
pager_in version size pages cells n (OwnPager (Want page)) is fits = is
pager_in version size pages cells n (OwnPager (Place page got contents)) is fits = is
pager_in version size pages cells n (OwnPager (Zero page)) is fits = is
pager_in version size pages cells n (OwnPager (Skip got)) is fits = is
pager_in version size pages cells n (OwnPager All) is fits = is
pager_in version size pages cells n (GotSent sending) is fits = is
pager_in version size pages cells n (PullSent sending) is fits = is

lanes_in : (version : Version) (size : Size) (pages cells : ℕ) (lane : List WideLane) (more : List LaneRec) → AllByRecursion (λ r. IsLaneRecOf Two (lane_of r)) lane → AllByRecursion (LaneRecFits version (narrow size pages cells)) (map lane_of lane ++ more) → AllByRecursion (λ r. IsLaneRecOf version (lane_of r)) lane
lanes_in version size pages cells [] more each fits = tt
lanes_in version size pages cells (LaneDown sending ∷ lane) more each fits = ((fits.0.0, each.0.1), lanes_in version size pages cells lane more each.1 fits.1)

-- records are within what they are if the records with the numbers of their messages are within what those are
numbered_in : {R S : Type 0} (numbered : ℕ → R → S) (IsNumber : ℕ → R → ℕ → Type 0) (P Q : R → Type 0) (Fits : S → Type 0) → ((n : ℕ) (raw : R) → P raw → Fits (numbered n raw) → Q raw) → (raws : List R) (records : List S) → AreNumbered numbered IsNumber raws records → AllByRecursion P raws → AllByRecursion Fits records → AllByRecursion Q raws
numbered_in numbered IsNumber P Q Fits one [] records are each fits = tt
numbered_in numbered IsNumber P Q Fits one (raw ∷ raws) [] are each fits = let many = are.many in absurd cc
numbered_in {R} {S} numbered IsNumber P Q Fits one (raw ∷ raws) (rec ∷ records) are each fits =
    let first = are.each 0 raw rec refl refl in
    let many = are.many in
    let rest : AreNumbered numbered (λ k r n. IsNumber (suc k) r n) raws records = record { many = omega (arith, many); each = λ k r s there is. are.each (suc k) r s there is } in
    (one first.0 raw each.0 (subst Fits first.2 fits.0), numbered_in numbered (λ k r n. IsNumber (suc k) r n) P Q Fits one raws records rest each.1 fits.1)

-- what files tell of records of one kind, they tell of those of another that are these
tell_in : {X : Type 0} (line : X → List ℕ) (P Q : X → Type 0) (party : Party) (knowns : List (Option (List ℕ))) (records : List X) → TellLog line P party knowns records → (AllByRecursion P records → AllByRecursion Q records) → TellLog line Q party knowns records
tell_in line P Q party knowns records tell each = record { gathering = tell.gathering; hole = tell.hole; say = record { log = tell.say.log; each = each tell.say.each } }

-- ---- the session

-- the files make a recording with a machine and initial pages, if it is a session
narrower : (machine : WideMachine) (init : List WideInit) (bytes : Bytes) (s : Recorded) → IsRecordingOf (any_machine machine.pages machine.cells) [] bytes s → IsSession (session_of machine.version machine.size (map init_of init) s) → IsRecordingOf machine init bytes (session_of machine.version machine.size (map init_of init) s)
narrower machine init bytes s made is =
    let size = machine.size in
    let version = machine.version in
    let e = extent_of machine in
    let geometry : sized size s.geometry ≡ e = ap (sized size) made.geometry in
    let source : AllByRecursion (SourceRecFits e) s.source = subst (λ (f : Extent). AllByRecursion (SourceRecFits f) s.source) geometry is.source in
    let own_lane : AllByRecursion (LaneRecFits version e) s.lane = subst (λ (f : Extent). AllByRecursion (LaneRecFits version f) s.lane) geometry is.lane in
    let pager : AllByRecursion (PagerRecFits version e) s.pager = subst (λ (f : Extent). AllByRecursion (PagerRecFits version f) s.pager) geometry is.pager in
    record {
      guest = made.guest;
      source = made.source;
      link = made.link;
      lane = made.lane;
      pager = made.pager;
      tell_guest = tell_in _ _ _ _ _ made.guest made.tell_guest (guests_in size machine.pages machine.cells made.guest);
      tell_source = tell_in _ _ _ _ _ made.source made.tell_source (λ each. numbered_in _ _ _ _ (SourceRecFits e) (source_in size machine.pages machine.cells) made.source s.source made.sources each source);
      tell_link = made.tell_link;
      tell_lane = tell_in _ _ _ _ _ made.lane made.tell_lane (λ each. lanes_in version size machine.pages machine.cells made.lane _ each (subst (λ (log : List LaneRec). AllByRecursion (LaneRecFits version e) log) made.lanes own_lane));
      tell_pager = tell_in _ _ _ _ _ made.pager made.tell_pager (λ each. numbered_in _ _ _ _ (PagerRecFits version e) (pager_in version size machine.pages machine.cells) made.pager s.pager made.pagers each pager);
      one_link = made.one_link;
      one_lane = made.one_lane;
      version = refl;
      geometry = geometry;
      init = ap (λ (pages : List InitPage). pages ++ map init_of init) made.init;
      guests = made.guests;
      sources = made.sources;
      links = made.links;
      lanes = made.lanes;
      pagers = made.pagers;
    }

-- a front of all the records of a recording cuts nothing of it, nor of what differs in its machine and in its initial pages
uncut : (version : Version) (size : Size) (more : List InitPage) (s : Recorded) (front : Front) → ((log : LogName) → cursors_of front log ≡ log_length s log) → cut_to (cursors_of front) (session_of version size more s) ≡ session_of version size more s
uncut version size more s front all =
    let guest = take_all front.guest s.guest (omega (arith, all Guest)) in
    let source = take_all front.source s.source (omega (arith, all Source)) in
    let link = take_all front.link s.link (omega (arith, all Link)) in
    let lane = take_all front.lane s.lane (omega (arith, all Lane)) in
    let pager = take_all front.pager s.pager (omega (arith, all Pager)) in
    rw (guest, source, link, lane, pager) refl

-- the session of a recording that is known, and of which nothing is lacking, has the text of the files
pub text_of_session : (files : List ℕ → Option (List ℕ)) (logs : FoundLogs) (known : Known) (session : Recorded) (is : IsKnown files logs known) → known.said.items ≡ [] → IsSession session → session ≡ session_of known.machine.version known.machine.size (map init_of known.init.items) is.chosen.seen → (text : List ℕ) × IsTextOf files logs Refused text × IsSpelling SpellsSession session text
text_of_session files logs known session is none fits same =
    let machine = known.machine in
    let seen = is.chosen.seen in
    let s = session_of machine.version machine.size (map init_of known.init.items) seen in (
      ended (session_lines (cut_to (cursors_of known.front) s)),
      record {
        machine = machine;
        init = known.init.items;
        front = known.front;
        chosen = is.chosen;
        whole = λ _. is.whole none;
        s = s;
        made = narrower machine known.init.items (bytes_in files logs) seen is.chosen.made (subst IsSession same fits);
        spelled = refl;
      },
      (session_lines session, (fits, refl), ap (λ (r : Recorded). ended (session_lines r)) (uncut machine.version machine.size (map init_of known.init.items) seen known.front (is.whole none).leaves.all ∙ sym same)),
    )

-- what is said of a session that is found is said in other words
pub found_in_words : {E : Type 0} (found : Result (Option Recorded) E) (P Q : Recorded → Type 0) → ((session : Recorded) → P session → Q session) → IfOk found (λ o. IfSome o P) → IfOk found (λ o. IfSome o Q)
found_in_words (Ok (Some session)) P Q same h = same session h
found_in_words (Ok None) P Q same h = tt
found_in_words (Err fault) P Q same h = tt

-- what is found is what it is said to be
pub found_is : (found : Option Recorded) (session s : Recorded) (N : Type 0) → found ≡ Some session → MatchOption found N (λ x. x ≡ s) → session ≡ s
found_is found session s N there is = subst (λ (o : Option Recorded). MatchOption o N (λ x. x ≡ s)) there is
