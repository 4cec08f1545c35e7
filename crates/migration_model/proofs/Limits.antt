-- The numbers of a session that grows stay within its limits.
use Rattle.std.proofs.lemmas.List.FromFn.{length-map-range_with_len}
use Rattle.audit_model.specs.Shape.{goes_down, goes_up, is_down, is_halt, is_miss, is_placement, is_ready, is_up, passes}
use Rattle.migration_types.specs.Extents.{Extent, IsExtent}
use Rattle.migration_types.specs.Memory.{Memory, initial, page_of, with_cell, with_content, with_zeros}
use Rattle.migration_types.specs.PageSets.{Pages}
use Rattle.migration_types.specs.Pages.{AreInitPages, InitPageFits}
use Rattle.migration_types.specs.Limits.{HasSize, limits, most_records}
use Rattle.migration_types.specs.Sessions.{log_length, GuestRecFits, HasBack, HasLane, IsNumber, IsSession, LaneRecFits, LinkRecFits, PagerRecFits, Recorded, SourceRecFits}
use Rattle.migration_types.specs.declared.pages.InitPage.{InitPage}
use Rattle.migration_types.specs.declared.records.GuestRec.{GuestRec}
use Rattle.migration_types.specs.declared.records.GuestRec.TheVariants.{Halt, Miss, Read, Release, Resume, See, Write}
use Rattle.migration_types.specs.declared.records.LaneRec.{LaneRec}
use Rattle.migration_types.specs.declared.records.LaneRec.TheVariants.{Down as LaneDown}
use Rattle.migration_types.specs.declared.records.LinkRec.{LinkRec}
use Rattle.migration_types.specs.declared.records.LinkRec.TheVariants.{Down, Up}
use Rattle.migration_types.specs.declared.records.PagerRec.{PagerRec}
use Rattle.migration_types.specs.declared.records.PagerRec.TheVariants.{All, Fault, Got, Join, Place, Pull, Ready, Skip, Want, Zero}
use Rattle.migration_types.specs.declared.records.SourceRec.{SourceRec}
use Rattle.migration_types.specs.declared.records.SourceRec.TheVariants.{Again, Ask, Back, Done, Halted, Send, State}
use Rattle.migration_types.specs.declared.records.LogName.{LogName}
use Rattle.migration_types.specs.declared.records.LogName.TheVariants as logs
use Rattle.migration_types.specs.declared.size.Size.{Size}
use Rattle.migration_types.specs.declared.size.Size.TheVariants.{Small}
use Rattle.migration_types.specs.declared.version.Version.{Version}
use Rattle.migration_model.proofs.Cleans.{IsClean}
use Rattle.migration_model.proofs.Grows.{guest_more, links_as, pager_more, source_more}
use Rattle.migration_model.proofs.Lists.{AllAt, all_each, all_push, and_left}
use Rattle.migration_model.proofs.Shapes.{IsNamed, NoBack}
use Rattle.std.proofs.Common.{Bool, List, None, Option, Some, [], arith, cond, false, length, refl, subst, suc, sym, true, zero, ℕ, ◌&&◌, ◌<◌, ◌∷◌, ◌≡◌, ◌≤◌}
use Rattle.std.proofs.lemmas.Bool.{ltb-true}
use Rattle.std.proofs.lemmas.Option.{slice_get_within}
use Rattle.std.specs.List.{AllByRecursion, range_with_len}
use Rattle.std.specs.Prelude.{is_some, map, nat_lt, slice_get, slice_index, ◌==◌, ◌^◌}
use Rattle.migration_types.specs.Contents.{IsContent}

-- what must be seen of a record when it is made: its own numbers, and not those of other records
abbrev pub GuestWithin : Extent → GuestRec → Type 0
GuestWithin e (Resume k) = Unit {0}
GuestWithin e (See k) = Unit {0}
GuestWithin e r = GuestRecFits e r

abbrev pub SourceWithin : Extent → SourceRec → Type 0
SourceWithin e (Send p content) = p < e.pages
SourceWithin e Back = HasBack e.size
SourceWithin e _ = Unit {0}

abbrev pub PagerWithin : Version → Extent → PagerRec → Type 0
PagerWithin version e (Pull down) = HasLane version
PagerWithin version e (Want p) = p < e.pages
PagerWithin version e (Place p got content) = p < e.pages
PagerWithin version e (Zero p) = p < e.pages
PagerWithin version e _ = Unit {0}

pub record IsLimited (s : Recorded) : Type 0 where
  pub extent : IsExtent s.geometry
  pub small : s.geometry.size ≡ Small
  pub init : AreInitPages s.geometry s.init
  pub guest : AllAt (λ n r. GuestWithin s.geometry r) s.guest
  pub source : AllAt (λ n r. SourceWithin s.geometry r) s.source
  pub lane : AllAt (λ n r. HasLane s.version) s.lane
  pub pager : AllAt (λ n r. PagerWithin s.version s.geometry r) s.pager

-- no small machine's source starts the guest again
pub no_back : (s : Recorded) → IsLimited s → NoBack s
no_back s k n r is same = subst HasBack k.small (subst (SourceWithin s.geometry) same (k.source n r is))

-- each cell has 64 bits
abbrev pub IsWide : Memory → Type 0
IsWide memory = (p c : ℕ) → memory p c < 2 ^ 64

pub guest_limits : (r : GuestRec) (s : Recorded) → GuestWithin s.geometry r → IsLimited s → IsLimited (guest_more r s)
guest_limits r s here k = record {
  extent = k.extent;
  small = k.small;
  init = k.init;
  guest = all_push (λ n y. GuestWithin s.geometry y) (λ n y. GuestWithin s.geometry y) s.guest r k.guest (λ n y is h. h) here;
  source = k.source;
  lane = k.lane;
  pager = k.pager;
}

pub source_limits : (r : SourceRec) (s : Recorded) → SourceWithin s.geometry r → IsLimited s → IsLimited (source_more r s)
source_limits r s here k = record {
  extent = k.extent;
  small = k.small;
  init = k.init;
  guest = k.guest;
  source = all_push (λ n y. SourceWithin s.geometry y) (λ n y. SourceWithin s.geometry y) s.source r k.source (λ n y is h. h) here;
  lane = k.lane;
  pager = k.pager;
}

pub links_limits : (link : List LinkRec) (lane : List LaneRec) (s : Recorded) → AllAt (λ n r. HasLane s.version) lane → IsLimited s → IsLimited (links_as link lane s)
links_limits link lane s here k = record { extent = k.extent; small = k.small; init = k.init; guest = k.guest; source = k.source; lane = here; pager = k.pager }

pub pager_limits : (r : PagerRec) (s : Recorded) → PagerWithin s.version s.geometry r → IsLimited s → IsLimited (pager_more r s)
pager_limits r s here k = record {
  extent = k.extent;
  small = k.small;
  init = k.init;
  guest = k.guest;
  source = k.source;
  lane = k.lane;
  pager = all_push (λ n y. PagerWithin s.version s.geometry y) (λ n y. PagerWithin s.version s.geometry y) s.pager r k.pager (λ n y is h. h) here;
}

-- memories
pub wide_cell : (p c x : ℕ) (memory : Memory) → x < 2 ^ 64 → IsWide memory → IsWide (with_cell p c x memory)
wide_cell p c x memory lt wide q d = go ((p == q) && (c == d))
  where
    go : (b : Bool) → cond b x (memory q d) < 2 ^ 64
    go true = lt
    go false = wide q d

pub wide_zeros : (p : ℕ) (memory : Memory) → IsWide memory → IsWide (with_zeros p memory)
wide_zeros p memory wide q d = go (p == q)
  where
    go : (b : Bool) → cond b 0 (memory q d) < 2 ^ 64
    go true = omega arith
    go false = wide q d

index_wide : (xs : List ℕ) (c : ℕ) → AllByRecursion (λ x. x < 2 ^ 64) xs → slice_index xs c < 2 ^ 64
index_wide [] c all = omega arith
index_wide (x ∷ xs) zero all = all.0
index_wide (x ∷ xs) (suc c) all = index_wide xs c all.1

pub wide_content : (p : ℕ) (content : List ℕ) (memory : Memory) → AllByRecursion (λ x. x < 2 ^ 64) content → IsWide memory → IsWide (with_content p content memory)
wide_content p content memory all wide q d = go (p == q)
  where
    go : (b : Bool) → cond b (slice_index content d) (memory q d) < 2 ^ 64
    go true = index_wide content d all
    go false = wide q d

pub wide_initial : (e : Extent) (init : List InitPage) → AllByRecursion (InitPageFits e) init → IsWide (initial init)
wide_initial e [] all p c = omega arith
wide_initial e (x ∷ xs) all p c = wide_content x.page x.cells (initial xs) all.0.content.each (wide_initial e xs all.1) p c

page_wide : (f : ℕ → ℕ) (xs : List ℕ) → ((c : ℕ) → f c < 2 ^ 64) → AllByRecursion (λ x. x < 2 ^ 64) (map f xs)
page_wide f [] wide = tt
page_wide f (c ∷ xs) wide = (wide c, page_wide f xs wide)

pub content_fits : (cells : ℕ) (memory : Memory) (p : ℕ) → IsWide memory → IsContent cells (page_of cells memory p)
content_fits cells memory p wide = record { count = length-map-range_with_len (memory p) 0 cells; each = page_wide (memory p) (range_with_len 0 cells) (wide p) }

-- what a record names is a number of a record, of a host's log
passes_there : {A : Type 0} (test : A → Bool) (xs : List A) (n : ℕ) → length xs ≤ most_records → passes test (slice_get xs n) ≡ true → n < most_records
passes_there {A} test xs n few e = go (slice_get xs n) refl e
  where
    go : (o : Option A) → slice_get xs n ≡ o → passes test o ≡ true → n < most_records
    go None is e = absurd (cc)
    go (Some x) is e = let lt = slice_get_within xs n x is in omega (arith, lt, few)

there_number : {A : Type 0} (xs : List A) (n m : ℕ) (x : A) → length xs ≤ most_records → slice_get xs n ≡ Some x → nat_lt m n ≡ true → m < most_records
there_number xs n m x few is e = let lt = slice_get_within xs n x is in let low : m < n = ltb-true m n e in omega (arith, lt, few, low)

some_there : {A : Type 0} (xs : List A) (n : ℕ) → length xs ≤ most_records → is_some (slice_get xs n) ≡ true → n < most_records
some_there {A} xs n few e = go (slice_get xs n) refl e
  where
    go : (o : Option A) → slice_get xs n ≡ o → is_some o ≡ true → n < most_records
    go None is e = absurd (cc)
    go (Some x) is e = let lt = slice_get_within xs n x is in omega (arith, lt, few)

pub record HasRoom (s : Recorded) : Type 0 where
  pub guest : length s.guest ≤ most_records
  pub source : length s.source ≤ most_records
  pub link : length s.link ≤ most_records
  pub lane : length s.lane ≤ most_records
  pub pager : length s.pager ≤ most_records

module _ (s : Recorded) (room : HasRoom s) (named : IsNamed s) (k : IsLimited s) where
  -- so it is within the limits of the machine's size
  numbered : (n : ℕ) → n < most_records → IsNumber s.geometry.size n
  numbered n lt = subst (λ size. IsNumber size n) (sym k.small) lt

  short : (log : LogName) → log_length s log ≤ most_records
  short logs.Guest = room.guest
  short logs.Source = room.source
  short logs.Link = room.link
  short logs.Lane = room.lane
  short logs.Pager = room.pager

  own : (log : LogName) → log_length s log ≤ (limits s.geometry.size).records
  own log = subst (λ size. log_length s log ≤ (limits size).records) (sym k.small) (short log)

  guest_fit : (n : ℕ) (r : GuestRec) → slice_get s.guest n ≡ Some r → GuestRecFits s.geometry r
  guest_fit n (Read v p c x) is = k.guest n (Read v p c x) is
  guest_fit n (Write v p c x) is = k.guest n (Write v p c x) is
  guest_fit n (Release v p) is = k.guest n (Release v p) is
  guest_fit n (Miss v p) is = k.guest n (Miss v p) is
  guest_fit n Halt is = tt
  guest_fit n (Resume i) is = numbered i (passes_there is_ready s.pager i room.pager (named.guest n (Resume i) is))
  guest_fit n (See i) is = numbered i (passes_there is_placement s.pager i room.pager (named.guest n (See i) is))

  link_fit : (n : ℕ) (r : LinkRec) → slice_get s.link n ≡ Some r → LinkRecFits s.geometry r
  link_fit n (Down i) is = numbered i (passes_there goes_down s.source i room.source (named.link n (Down i) is))
  link_fit n (Up i) is = numbered i (passes_there goes_up s.pager i room.pager (named.link n (Up i) is))

  lane_fit : (n : ℕ) (r : LaneRec) → slice_get s.lane n ≡ Some r → LaneRecFits s.version s.geometry r
  lane_fit n (LaneDown i) is = (k.lane n (LaneDown i) is, numbered i (passes_there goes_down s.source i room.source (named.lane n (LaneDown i) is)))

  module _ (memory : Memory) (ledger : Pages) (wide : IsWide memory) (clean : IsClean s memory ledger) where
    source_fit : (n : ℕ) (r : SourceRec) → slice_get s.source n ≡ Some r → SourceRecFits s.geometry r
    source_fit n (Halted i) is = numbered i (passes_there is_halt s.guest i room.guest (named.source n (Halted i) is))
    source_fit n State is = tt
    source_fit n (Send p content) is = (k.source n (Send p content) is, subst (λ c. IsContent s.geometry.cells c) (sym (clean.source n (Send p content) is).1) (content_fits s.geometry.cells memory p wide))
    source_fit n (Again i) is = numbered i (there_number s.source n i (Again i) room.source is (and_left _ _ (named.source n (Again i) is)))
    source_fit n (Ask i) is = numbered i (passes_there is_up s.link i room.link (named.source n (Ask i) is))
    source_fit n Done is = tt
    source_fit n Back is = k.source n Back is

    pager_fit : (n : ℕ) (r : PagerRec) → slice_get s.pager n ≡ Some r → PagerRecFits s.version s.geometry r
    pager_fit n (Got i) is = numbered i (passes_there is_down s.link i room.link (named.pager n (Got i) is))
    pager_fit n (Pull i) is = (k.pager n (Pull i) is, numbered i (some_there s.lane i room.lane (named.pager n (Pull i) is)))
    pager_fit n Ready is = tt
    pager_fit n (Fault i) is = numbered i (passes_there is_miss s.guest i room.guest (named.pager n (Fault i) is))
    pager_fit n (Join i) is = numbered i (there_number s.pager n i (Join i) room.pager is (and_left _ _ (named.pager n (Join i) is)))
    pager_fit n (Want p) is = k.pager n (Want p) is
    pager_fit n (Place p i content) is = (
      k.pager n (Place p i content) is,
      numbered i (there_number s.pager n i (Place p i content) room.pager is (and_left _ _ (named.pager n (Place p i content) is))),
      subst (λ c. IsContent s.geometry.cells c) (sym (clean.pager n (Place p i content) is).1) (content_fits s.geometry.cells memory p wide),
    )
    pager_fit n (Zero p) is = k.pager n (Zero p) is
    pager_fit n (Skip i) is = numbered i (there_number s.pager n i (Skip i) room.pager is (and_left _ _ (named.pager n (Skip i) is)))
    pager_fit n All is = tt

    pub is_session : IsSession s
    is_session = record {
      size = subst (HasSize s.version) (sym k.small) tt;
      geometry = k.extent;
      init = k.init;
      few_guest = omega (arith, room.guest);
      few_source = omega (arith, room.source);
      few_link = omega (arith, room.link);
      few_lane = omega (arith, room.lane);
      few_pager = omega (arith, room.pager);
      own = own;
      guest = all_each (GuestRecFits s.geometry) s.guest guest_fit;
      source = all_each (SourceRecFits s.geometry) s.source source_fit;
      link = all_each (LinkRecFits s.geometry) s.link link_fit;
      lane = all_each (LaneRecFits s.version s.geometry) s.lane lane_fit;
      pager = all_each (PagerRecFits s.version s.geometry) s.pager pager_fit;
    }
