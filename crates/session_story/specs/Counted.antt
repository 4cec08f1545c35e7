-- The counts of a session: how many pages came in which way, and how many records there are of some kinds.
use Rattle.std.specs.Prelude.{◌≡◌, ℕ, Bool, true, false, not, ◌==◌, ◌&&◌, ◌||◌, List, length, Option, Some, None, is_some, slice_get}
use Rattle.std.specs.List.{list_any}
use Rattle.migration_types.specs.declared.cert.Entry.{Entry}
use Rattle.migration_types.specs.declared.cert.Entry.TheVariants.{Nothing, Fresh, Source, Balloon}
use Rattle.migration_types.specs.declared.records.GuestRec.{GuestRec}
use Rattle.migration_types.specs.declared.records.SourceRec.{SourceRec}
use Rattle.migration_types.specs.declared.records.SourceRec.TheVariants.{Send, Again, Ask}
use Rattle.migration_types.specs.declared.records.LinkRec.{LinkRec}
use Rattle.migration_types.specs.declared.records.LinkRec.TheVariants.{Down, Up}
use Rattle.migration_types.specs.declared.records.PagerRec.{PagerRec}
use Rattle.migration_types.specs.declared.records.PagerRec.TheVariants.{Want, Join, Skip}
use Rattle.migration_types.specs.PageSets.{size_below}
use Rattle.migration_types.specs.Sessions.{Recorded}
use Rattle.audit_model.specs.Certificates.{is_fresh}
use Rattle.audit_model.specs.Flat.{at_halt, before, in_ledger}
use Rattle.audit_model.specs.Names.{if_there}
use Rattle.audit_model.specs.Shape.{passes, down_sending, goes_down, is_miss, is_resume, is_send_of, is_want, lane_sending}
use Rattle.page_facts.specs.Tables.{first_before}
use Rattle.completeness.specs.Left.{left_pages}
use Rattle.session_story.specs.Pages.{is_access_after}
use Rattle.session_story.specs.Scans.{how_many}
use Rattle.session_story.specs.Values.{is_read}
use Rattle.session_story.specs.declared.counting.Counts.{Counts}

-- the page was neither placed nor used at the target
abbrev pub is_unmoved : Entry → Bool
is_unmoved Nothing = true
is_unmoved _ = false

-- the page was sent by the source
abbrev pub is_sent : Entry → Bool
is_sent (Source send place first) = true
is_sent _ = false

-- the page came back as zeros
abbrev pub is_zeroed : Entry → Bool
is_zeroed (Balloon place first) = true
is_zeroed _ = false

-- the page was read, written or released at the target
abbrev pub is_used : Entry → Bool
is_used Nothing = false
is_used (Fresh first) = true
is_used (Source send place first) = is_some first
is_used (Balloon place first) = is_some first

-- a first sending of some page
abbrev pub is_send : SourceRec → Bool
is_send (Send page content) = true
is_send _ = false

abbrev pub is_again : SourceRec → Bool
is_again (Again sending) = true
is_again _ = false

abbrev pub is_join : PagerRec → Bool
is_join (Join want) = true
is_join _ = false

abbrev pub is_skip : PagerRec → Bool
is_skip (Skip got) = true
is_skip _ = false

-- the page that the pager's record asks for, that a delivery up asks for, and that a record asks the source for
abbrev pub wanted : PagerRec → Option ℕ
wanted (Want page) = Some page
wanted _ = None

abbrev pub brought : Recorded → LinkRec → Option ℕ
brought s (Up asking) = if_there wanted (slice_get s.pager asking)
brought s (Down sending) = None

abbrev pub asked_for : Recorded → SourceRec → Option ℕ
asked_for s (Ask up) = if_there (brought s) (slice_get s.link up)
asked_for s _ = None

-- whether the page is asked for after the source's record, given whether it was before: an `ask` asks for it, and its
-- `send` answers that
abbrev pub asked_after : Recorded → ℕ → SourceRec → Bool → Bool
asked_after s page r asked = passes (λ p. p == page) (asked_for s r) || (asked && not (is_send_of page r))

-- whether an `ask` for the page comes before the source's record n, with no `send` between that answers it
abbrev pub was_asked : Recorded → ℕ → ℕ → Bool
was_asked s page n = before (asked_after s page) false s.source n

-- whether this is a `send` that does not answer a request for its page
abbrev pub is_push : Recorded → ℕ → SourceRec → Bool
is_push s n (Send page content) = not (was_asked s page n)
is_push s n _ = false

-- whether guest record n is a read that comes after the record of this number
abbrev pub is_read_after : ℕ → ℕ → GuestRec → Bool
is_read_after resume n r = is_read r && is_access_after resume n r

-- how many reads come after this resume, if there is one
abbrev pub reads_after : Recorded → Option ℕ → ℕ
reads_after s None = 0
reads_after s (Some resume) = how_many (is_read_after resume) s.guest (length s.guest)

-- the pager's record that a delivery up delivers
abbrev pub up_asking : LinkRec → Option ℕ
up_asking (Up asking) = Some asking
up_asking (Down sending) = None

-- whether the link or the lane delivers source record n; whether the link delivers pager record n
abbrev pub is_delivered_down : Recorded → ℕ → Bool
is_delivered_down s n = list_any (λ r. passes (λ k. k == n) (down_sending r)) s.link || list_any (λ r. lane_sending r == n) s.lane

abbrev pub is_delivered_up : Recorded → ℕ → Bool
is_delivered_up s n = list_any (λ r. passes (λ k. k == n) (up_asking r)) s.link

-- whether source record n is a packet, and is not delivered; whether pager record n asks for a page, and is not
abbrev pub is_undelivered_packet : Recorded → ℕ → SourceRec → Bool
is_undelivered_packet s n r = goes_down r && not (is_delivered_down s n)

abbrev pub is_undelivered_request : Recorded → ℕ → PagerRec → Bool
is_undelivered_request s n r = is_want r && not (is_delivered_up s n)

-- the counts of a session, given its records and the entries of its certificate
pub record IsCounts (s : Recorded) (entries : List Entry) (c : Counts) : Type 0 where
  pub unmoved : c.unmoved ≡ how_many (λ m. is_unmoved) entries (length entries)
  pub fresh : c.fresh ≡ how_many (λ m. is_fresh) entries (length entries)
  pub sent : c.sent ≡ how_many (λ m. is_sent) entries (length entries)
  pub zeroed : c.zeroed ≡ how_many (λ m. is_zeroed) entries (length entries)
  pub misses : c.misses ≡ how_many (λ m. is_miss) s.guest (length s.guest)
  pub sends : c.sends ≡ how_many (λ m. is_send) s.source (length s.source)
  pub pushes : c.pushes ≡ how_many (is_push s) s.source (length s.source)
  pub repeats : c.repeats ≡ how_many (λ m. is_again) s.source (length s.source)
  pub waits : c.waits ≡ how_many (λ m. is_join) s.pager (length s.pager)
  pub dropped : c.dropped ≡ how_many (λ m. is_skip) s.pager (length s.pager)
  pub by_lane : c.by_lane ≡ length s.lane
  pub used : c.used ≡ how_many (λ m. is_used) entries (length entries)
  pub reads : c.reads ≡ reads_after s (first_before (λ m. is_resume) s.guest (length s.guest))
  pub released : c.released ≡ size_below s.geometry.pages (in_ledger s (at_halt s))
  pub left : c.left ≡ left_pages s
  pub undelivered : c.undelivered ≡ how_many (is_undelivered_packet s) s.source (length s.source)
  pub requests : c.requests ≡ how_many (λ m. is_want) s.pager (length s.pager)
  pub unheard : c.unheard ≡ how_many (is_undelivered_request s) s.pager (length s.pager)
