-- What stays true of the books after the halt where one of them changes and nothing is recorded.
use Rattle.balloon_ledger.specs.Released.{released}
use Rattle.fault_queue.specs.Waiting.{without}
use Rattle.link_book.specs.LinkPart.{LinkPart, with_back, with_front, with_lane, with_up}
use Rattle.link_book.specs.declared.Arrival.{Arrival}
use Rattle.migration_types.specs.PageSets.{with_page}
use Rattle.migration_types.specs.Receipts.{Name}
use Rattle.migration_types.specs.declared.records.LaneRec.TheVariants.{Down as LaneDown}
use Rattle.migration_types.specs.declared.records.LinkRec.TheVariants.{Down, Up}
use Rattle.page_stream.specs.declared.Packet.{Packet}
use Rattle.migration_model.proofs.Lists.{each_kept, each_push}
use Rattle.migration_model.specs.Books.{BooksAfter, session_after, new_names}
use Rattle.std.proofs.Common.{Bool, List, [], cond, false, not, refl, subst, true, ℕ, ◌++◌, ◌∷◌, ◌≡◌}
use Rattle.std.proofs.lemmas.Bool.{eqb-true}
use Rattle.std.specs.List.{AllByRecursion}
use Rattle.std.specs.Prelude.{is_some, ◌==◌}
use Rattle.target_side.specs.TargetPart.{settled as with_settled}
use Rattle.target_side.specs.PagerPart.{PagerPart, settles}
use Rattle.migration_model.proofs.Facts.{Arrives, AwayKept, ChannelKept, DownFact, IsWaitedFor, LaneFact, LinkKept, PagerKept, UpFact, link_kept, released_of}

pub with_link : {o : List Name} (link : LinkPart) (a : BooksAfter) → AwayKept o a → LinkKept (session_after a) (released_of a) link → AwayKept o (record a { link = record link { log = a.link.log; lane_log = a.link.lane_log } })
with_link link a k new =
    link_kept (record link { log = a.link.log; lane_log = a.link.lane_log }) a k
    (record { version = refl; guest = λ n x e. e; source = λ n x e. e; link = λ n x e. e; lane = λ n x e. e; pager = λ n x e. e })
    k.named.link k.named.lane k.limits.lane k.merges (record { down = new.down; up = new.up; lane = new.lane })

pub with_pager : {o : List Name} (pager : PagerPart) (a : BooksAfter) → AwayKept o a → PagerKept (session_after a) (released_of a) pager → ((p : ℕ) → pager.placed p ≡ is_some (a.target.placed p)) → ((p : ℕ) → pager.settled p ≡ true → a.target.freed p ≡ true) → AwayKept o (record a { pager = record pager { log = a.pager.log } })
with_pager pager a k new same settled = record {
  named = k.named;
  started = k.started;
  merges = k.merges;
  clean = k.clean;
  frozen = k.frozen;
  limits = k.limits;
  phase = k.phase;
  resumed_ready = k.resumed_ready;
  source = k.source;
  link = k.link;
  pager = record { geometry = new.geometry; unready = new.unready; ready = new.ready; inbox = new.inbox; outbox = new.outbox; waiting = new.waiting; wants = new.wants };
  placed = same;
  settled = settled;
  target = k.target;
  ends = k.ends;
  vcpus = k.vcpus;
  lanes = k.lanes;
}

-- pages that the guest released where they were absent are settled
settles_keep : {o : List Name} (ps : List ℕ) (a : BooksAfter) → AwayKept o a → AllByRecursion (λ p. a.target.freed p ≡ true) ps → AwayKept o (record a { pager = settles ps a.pager })
settles_keep [] a k all = k
settles_keep (p ∷ ps) a k all =
    let next : PagerPart = record a.pager { settled = with_page p a.pager.settled; waiting = without p a.pager.waiting } in
    settles_keep ps (record a { pager = next })
    (with_pager next a k
    (record {
      geometry = k.pager.geometry;
      unready = k.pager.unready;
      ready = k.pager.ready;
      inbox = k.pager.inbox;
      outbox = k.pager.outbox;
      waiting = each_kept (IsWaitedFor (session_after a)) (λ e. not (p == e.page)) a.pager.waiting k.pager.waiting;
      wants = k.pager.wants;
    })
    k.placed (λ q e. now q (p == q) refl e))
    all.1
  where
    now : (q : ℕ) (b : Bool) → (p == q) ≡ b → cond b true (a.pager.settled q) ≡ true → a.target.freed q ≡ true
    now q true is e = subst (λ j. a.target.freed j ≡ true) (eqb-true p q is) all.0
    now q false is e = k.settled q e

-- the books when the pager has settled all such pages
abbrev pub settled_books : BooksAfter → BooksAfter
settled_books a = record a { pager = settles a.target.unsettled a.pager; target = with_settled a.target }

pub settled_keeps : {o : List Name} (a : BooksAfter) → AwayKept o a → AwayKept o (settled_books a)
settled_keeps a k =
    let new = settles_keep a.target.unsettled a k k.target.unsettled in
    record {
      named = new.named;
      started = new.started;
      merges = new.merges;
      clean = new.clean;
      frozen = new.frozen;
      limits = new.limits;
      phase = new.phase;
      resumed_ready = new.resumed_ready;
      source = new.source;
      link = new.link;
      pager = new.pager;
      placed = new.placed;
      settled = new.settled;
      target = record {
        places = new.target.places;
        frontier = new.target.frontier;
        frames = new.target.frames;
        untouched = new.target.untouched;
        released = new.target.released;
        over = new.target.over;
        unsettled = tt;
        misses = new.target.misses;
        wide = new.target.wide;
      };
      ends = new.ends;
      vcpus = new.vcpus;
      lanes = new.lanes;
    }

-- settling records nothing
pub settles_log : (ps : List ℕ) (b : PagerPart) → (settles ps b).log ≡ b.log
settles_log [] b = refl
settles_log (p ∷ ps) b = settles_log ps (record b { settled = with_page p b.settled; waiting = without p b.waiting })

pub settles_released : (ps : List ℕ) (b : PagerPart) → (settles ps b).released ≡ b.released
settles_released [] b = refl
settles_released (p ∷ ps) b = settles_released ps (record b { settled = with_page p b.settled; waiting = without p b.waiting })

pub settled_arrives : (o : List Name) (a b : BooksAfter) → Arrives o (settled_books a) b → Arrives o a b
settled_arrives o a b k = subst (λ log. AwayKept (o ++ new_names (record (session_after a) { pager = log }) (session_after b)) b) (settles_log a.target.unsettled a.pager) k

-- the lines
pub channel_more : {R : Type 0} (names : ℕ → R) (log : List R) (P : Packet → Type 0) (line : List Packet) (arrivals : List Arrival) (packet : Packet) → P packet → ChannelKept names log P line arrivals → ChannelKept names log P (line ++ packet ∷ []) arrivals
channel_more names log P line arrivals packet fact k = record { under_way = each_push P line packet k.under_way fact; come = k.come }

pub back_keeps : {o : List Name} (packet : Packet) (a : BooksAfter) → AwayKept o a → DownFact (session_after a) (released_of a) packet → AwayKept o (record a { link = with_back packet a.link })
back_keeps packet a k fact = with_link (with_back packet a.link) a k (record {
  down = channel_more Down a.link.log (DownFact (session_after a) (released_of a)) a.link.down a.link.down_arrivals packet fact k.link.down;
  up = k.link.up;
  lane = k.link.lane;
})

pub front_keeps : {o : List Name} (packet : Packet) (a : BooksAfter) → AwayKept o a → DownFact (session_after a) (released_of a) packet → AwayKept o (record a { link = with_front packet a.link })
front_keeps packet a k fact = with_link (with_front packet a.link) a k (record {
  down = record { under_way = (fact, k.link.down.under_way); come = k.link.down.come };
  up = k.link.up;
  lane = k.link.lane;
})

pub up_keeps : {o : List Name} (packet : Packet) (a : BooksAfter) → AwayKept o a → UpFact (session_after a) packet → AwayKept o (record a { link = with_up packet a.link })
up_keeps packet a k fact = with_link (with_up packet a.link) a k (record {
  down = k.link.down;
  up = channel_more Up a.link.log (UpFact (session_after a)) a.link.up a.link.up_arrivals packet fact k.link.up;
  lane = k.link.lane;
})

pub lane_keeps : {o : List Name} (packet : Packet) (a : BooksAfter) → AwayKept o a → LaneFact (session_after a) (released_of a) packet → AwayKept o (record a { link = with_lane packet a.link })
lane_keeps packet a k fact = with_link (with_lane packet a.link) a k (record {
  down = k.link.down;
  up = k.link.up;
  lane = channel_more LaneDown a.link.lane_log (LaneFact (session_after a) (released_of a)) a.link.lane a.link.lane_arrivals packet fact k.link.lane;
})
