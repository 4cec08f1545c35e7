-- The window of a page that misshapen records do not touch has the right shape.
use Rattle.std.proofs.Common.{◌≡◌, ℕ, suc, ◌+◌, ◌-◌, ◌≤◌, ◌<◌, ◌&&◌, if◌then◌else◌, List, map, Bool, true, false, Option, Some, None, refl, ap, ◌∙◌, subst, arith}
use Rattle.std.specs.Prelude.{slice_get, nat_lt, nat_le}
use Rattle.std.proofs.lemmas.Bool.{leb-true, ltb-true, and_parts}
use Rattle.migration_types.specs.declared.records.LogName.TheVariants.{Guest, Source, Link, Lane, Pager}
use Rattle.migration_types.specs.declared.records.GuestRec.{GuestRec}
use Rattle.migration_types.specs.declared.records.GuestRec.TheVariants.{Read, Write, Release, Miss, Halt, Resume, See}
use Rattle.migration_types.specs.declared.records.SourceRec.{SourceRec}
use Rattle.migration_types.specs.declared.records.SourceRec.TheVariants.{Halted, State, Send, Again, Ask, Done, Back}
use Rattle.migration_types.specs.declared.records.LinkRec.{LinkRec}
use Rattle.migration_types.specs.declared.records.LinkRec.TheVariants.{Down, Up}
use Rattle.migration_types.specs.declared.records.LaneRec.{LaneRec}
use Rattle.migration_types.specs.declared.records.LaneRec.TheVariants.{Down as LaneDown}
use Rattle.migration_types.specs.declared.records.PagerRec.{PagerRec}
use Rattle.migration_types.specs.declared.records.PagerRec.TheVariants.{Got, Pull, Ready, Fault, Join, Want, Place, Zero, Skip, All}
use Rattle.migration_types.specs.Receipts.{Name}
use Rattle.migration_types.specs.Sessions.{Recorded}
use Rattle.audit_model.specs.Shape.{passes, is_or_repeats, is_right, IsRightShape}
use Rattle.audit_model.specs.Windows.{Numbers, numbers_from, is_seen, keeps_sending, keeps_asking, keeps_miss, keeps_link, keeps_lane, keeps_taking, keeps_source, keeps_guest, keeps_pager, marks, is_marked, IsInWindow, window}
use Rattle.audit_model.specs.WindowLaws.{IsRightWithin}
use Rattle.audit_model.proofs.Ranks.{mark_of}
use Rattle.audit_model.proofs.WindowCells.{guest_marked}
use Rattle.audit_model.proofs.WindowFaults.{marked_true}
use Rattle.audit_model.proofs.WindowFits.{contiguous_is_window, window_numbers}
use Rattle.audit_model.proofs.WindowStarts.{right_by_kept}
use Rattle.session_story.specs.Apart.{IsApart}
use Rattle.session_story.specs.Subjects.{guest_about, source_about, link_about, lane_about, pager_about, about_in, page_by, page_within, page_of}
use Rattle.session_story.specs.declared.subjects.About.{About}

module _ (s : Recorded) (number : Numbers) where
  -- a page that a record is about, if there is one, is in the window
  abbrev Seen : Option ℕ → Type 0
  Seen o = (page : ℕ) → o ≡ Some page → is_seen (number page) ≡ true

  seen : (p : ℕ) → is_seen (number p) ≡ true → Seen (Some p)
  seen p e page is = let same : p ≡ page = cc in subst (λ r. is_seen (number r) ≡ true) same e

  named : {X : Type 0} (test : X → Bool) (f : X → About) (k : ℕ) → ((x : X) → test x ≡ true → Seen (page_by (page_within k s) (f x))) → (o : Option X) → passes test o ≡ true → Seen (page_by (page_within k s) (about_in f o))
  named test f k h None e = absurd (cc)
  named test f k h (Some x) e = h x e

  sent : (k : ℕ) (x : SourceRec) → keeps_sending number x ≡ true → Seen (page_by (page_within k s) (source_about x))
  sent k (Send p content) e = seen p e
  sent k State e = λ page is. absurd (cc)
  sent k x e = absurd (cc)

  asked : (k : ℕ) (x : PagerRec) → keeps_asking number x ≡ true → Seen (page_by (page_within k s) (pager_about x))
  asked k (Want p) e = seen p e
  asked k All e = λ page is. absurd (cc)
  asked k x e = absurd (cc)

  missed : (k : ℕ) (x : GuestRec) → keeps_miss number x ≡ true → Seen (page_by (page_within k s) (guest_about x))
  missed k (Miss v p) e = seen p e
  missed k x e = absurd (cc)

  repeated : (k : ℕ) (x : SourceRec) → is_or_repeats s (keeps_sending number) x ≡ true → Seen (page_by (page_within (suc k) s) (source_about x))
  repeated k (Again i) e = named (keeps_sending number) source_about k (sent k) (slice_get s.source i) e
  repeated k (Send p content) e = seen p e
  repeated k State e = λ page is. absurd (cc)
  repeated k x e = absurd (cc)

  over_link : (k : ℕ) (x : LinkRec) → keeps_link s number x ≡ true → Seen (page_by (page_within (suc (suc k)) s) (link_about x))
  over_link k (Down i) e = named (is_or_repeats s (keeps_sending number)) source_about (suc k) (repeated k) (slice_get s.source i) e
  over_link k (Up i) e = named (keeps_asking number) pager_about (suc k) (asked (suc k)) (slice_get s.pager i) e

  over_lane : (k : ℕ) (x : LaneRec) → keeps_lane s number x ≡ true → Seen (page_by (page_within (suc (suc k)) s) (lane_about x))
  over_lane k (LaneDown i) e = named (is_or_repeats s (keeps_sending number)) source_about (suc k) (repeated k) (slice_get s.source i) e

  taken : (k : ℕ) (x : PagerRec) → keeps_taking s number x ≡ true → Seen (page_by (page_within (suc (suc (suc k))) s) (pager_about x))
  taken k (Got i) e = named (keeps_link s number) link_about (suc (suc k)) (over_link k) (slice_get s.link i) e
  taken k (Pull i) e = named (keeps_lane s number) lane_about (suc (suc k)) (over_lane k) (slice_get s.lane i) e
  taken k x e = absurd (cc)

  of_source : (x : SourceRec) → keeps_source s number x ≡ true → Seen (page_by (page_within 4 s) (source_about x))
  of_source (Again i) e = named (keeps_sending number) source_about 3 (sent 3) (slice_get s.source i) e
  of_source (Ask i) e = named (keeps_link s number) link_about 3 (over_link 1) (slice_get s.link i) e
  of_source (Send p content) e = seen p e
  of_source (Halted i) e = λ page is. absurd (cc)
  of_source State e = λ page is. absurd (cc)
  of_source Done e = λ page is. absurd (cc)
  of_source Back e = λ page is. absurd (cc)

  of_pager : (x : PagerRec) → keeps_pager s number x ≡ true → Seen (page_by (page_within 4 s) (pager_about x))
  of_pager (Got i) e = named (keeps_link s number) link_about 3 (over_link 1) (slice_get s.link i) e
  of_pager (Pull i) e = named (keeps_lane s number) lane_about 3 (over_lane 1) (slice_get s.lane i) e
  of_pager (Fault i) e = named (keeps_miss number) guest_about 3 (missed 3) (slice_get s.guest i) e
  of_pager (Join i) e = named (keeps_asking number) pager_about 3 (asked 3) (slice_get s.pager i) e
  of_pager (Skip i) e = named (keeps_taking s number) pager_about 3 (taken 0) (slice_get s.pager i) e
  of_pager (Want p) e = seen p e
  of_pager (Place p got content) e = seen p e
  of_pager (Zero p) e = seen p e
  of_pager Ready e = λ page is. absurd (cc)
  of_pager All e = λ page is. absurd (cc)

  -- a look is in a window by another rule
  of_guest : (n : ℕ) (x : GuestRec) → ((placement : ℕ) → x ≡ See placement → ⊥) → keeps_guest s number n x ≡ true → Seen (page_by (page_within 4 s) (guest_about x))
  of_guest n (Read v p c y) no_look e = seen p e
  of_guest n (Write v p c y) no_look e = seen p e
  of_guest n (Release v p) no_look e = seen p e
  of_guest n (Miss v p) no_look e = seen p e
  of_guest n Halt no_look e = λ page is. absurd (cc)
  of_guest n (Resume i) no_look e = λ page is. absurd (cc)
  of_guest n (See i) no_look e = absurd (no_look i refl)

  logged : {X : Type 0} (keeps : X → Bool) (f : X → About) (log : List X) → ((x : X) → keeps x ≡ true → Seen (page_by (page_within 4 s) (f x))) → (n : ℕ) → is_marked (slice_get (map keeps log) n) ≡ true → Seen (page_by (page_within 4 s) (about_in f (slice_get log n)))
  logged {X} keeps f log h n mark = go (slice_get log n) refl
    where
      go : (o : Option X) → slice_get log n ≡ o → Seen (page_by (page_within 4 s) (about_in f o))
      go None is = λ page e. absurd (cc)
      go (Some x) is = h x (mark_of keeps log n x true is (marked_true (slice_get (map keeps log) n) mark))

  -- a record of the window, other than a look, is about no page or one of the window
  about_seen : (name : Name) → IsInWindow s number name → ((placement : ℕ) → name.0 ≡ Guest → slice_get s.guest name.1 ≡ Some (See placement) → ⊥) → Seen (page_of s name)
  about_seen (Guest, n) mark no_look = go (slice_get s.guest n) refl
    where
      go : (o : Option GuestRec) → slice_get s.guest n ≡ o → Seen (page_by (page_within 4 s) (about_in guest_about o))
      go None is = λ page e. absurd (cc)
      go (Some x) is = of_guest n x (λ placement e. no_look placement refl (is ∙ ap Some e)) (guest_marked s number n x true is (marked_true (slice_get (marks s number Guest) n) mark))
  about_seen (Source, n) mark no_look = logged (keeps_source s number) source_about s.source of_source n mark
  about_seen (Link, n) mark no_look = logged (keeps_link s number) link_about s.link (over_link 2) n mark
  about_seen (Lane, n) mark no_look = logged (keeps_lane s number) lane_about s.lane (over_lane 2) n mark
  about_seen (Pager, n) mark no_look = logged (keeps_pager s number) pager_about s.pager of_pager n mark

-- the one page of its own window
only_page : (page other : ℕ) → is_seen (numbers_from page 1 other) ≡ true → other ≡ page
only_page page other = go (nat_le page other && nat_lt other (page + 1)) refl
  where
    go : (b : Bool) → (nat_le page other && nat_lt other (page + 1)) ≡ b → is_seen (if b then Some (other - page) else None) ≡ true → other ≡ page
    go false e f = absurd (cc)
    go true e f =
        let both = and_parts (nat_le page other) (nat_lt other (page + 1)) e in
        let low : page ≤ other = leb-true page other both.0 in
        let high : other < page + 1 = ltb-true other (page + 1) both.1 in
        omega (arith, low, high)

module _ (s : Recorded) (page : ℕ) (apart : IsApart s page) where
  -- what is in the page's window is right: a misshapen record there would be about the page
  within : IsRightWithin s (numbers_from page 1)
  within reason name mark = go (is_right s reason name) refl
    where
      go : (b : Bool) → is_right s reason name ≡ b → b ≡ true
      go true e = refl
      go false e =
          let wrong = apart.others reason name e in
          let seen = about_seen s (numbers_from page 1) name mark (look name e) wrong.0 wrong.1 in
          absurd (wrong.2 (only_page page wrong.0 seen))
        where
          look : (name : Name) → is_right s reason name ≡ false → (placement : ℕ) → name.0 ≡ Guest → slice_get s.guest name.1 ≡ Some (See placement) → ⊥
          look (Guest, n) e placement at is = let right = apart.looks reason n placement is in cc
          look name e placement at is = cc

  pub apart_window : IsRightShape (window (numbers_from page 1) 1 s)
  apart_window = right_by_kept (numbers_from page 1) (window_numbers (numbers_from page 1) 1 (contiguous_is_window page 1)) s 1 apart.starts within
