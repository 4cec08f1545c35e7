-- Four passes over one recording settle: the fourth finds the marks again that the third found.
use Rattle.std.proofs.Common.{◌≡◌, ℕ, suc, Bool, List, [], ◌∷◌, refl, sym, ap, ◌∙◌}
use Rattle.std.specs.Prelude.{max, nat_lt}
use Rattle.migration_types.specs.declared.records.GuestRec.{GuestRec}
use Rattle.migration_types.specs.declared.records.GuestRec.TheVariants.{Read, Write, Release, Miss, Halt, Resume, See}
use Rattle.migration_types.specs.declared.records.SourceRec.{SourceRec}
use Rattle.migration_types.specs.declared.records.SourceRec.TheVariants.{Halted, State, Send, Again, Ask, Done, Back}
use Rattle.migration_types.specs.declared.records.LinkRec.{LinkRec}
use Rattle.migration_types.specs.declared.records.LinkRec.TheVariants.{Down, Up}
use Rattle.migration_types.specs.declared.records.LaneRec.{LaneRec}
use Rattle.migration_types.specs.declared.records.LaneRec.TheVariants.{Down as LaneDown}
use Rattle.migration_types.specs.declared.records.PagerRec.{PagerRec}
use Rattle.migration_types.specs.declared.records.PagerRec.TheVariants.{Got, Pull, Ready, Fault, Join, Want, Place, Zero, Skip, All}
use Rattle.migration_types.specs.Sessions.{Recorded}
use Rattle.audit_model.specs.Windows.{Numbers, newest}
use Rattle.windows.specs.declared.marking.Marks.{Marks}
use Rattle.windows.specs.inner.Marks.{has_mark, is_mark}
use Rattle.windows.specs.inner.Guided.{repeats_by, source_by, link_by, lane_by, taking_by, pager_by, guest_marks, guest_by, reach_by, further_by}
use Rattle.windows.specs.inner.Met.{Found, AreSame}
use Rattle.windows.proofs.Rights.{map_same}

-- what any two passes find alike
record FirstSame (a b : Marks) : Type 0 where
  sendings : a.source.sendings ≡ b.source.sendings
  askings : a.pager.askings ≡ b.pager.askings
  misses : a.guest.misses ≡ b.guest.misses
  placements : a.pager.placements ≡ b.pager.placements

-- what two passes find alike that went by such marks
record SecondSame (a b : Marks) : Type 0 where
  first : FirstSame a b
  repeats : a.source.repeats ≡ b.source.repeats
  link : a.link ≡ b.link
  lane : a.lane ≡ b.lane
  takings : a.pager.takings ≡ b.pager.takings
  guest : a.guest.kept ≡ b.guest.kept

marks_alike : (a b : List Bool) (n : ℕ) → a ≡ b → has_mark a n ≡ has_mark b n
marks_alike a b n e = ap (λ m. has_mark m n) e

module _ (number : Numbers) (a b : Marks) (same : FirstSame a b) where
  repeat_rec : (r : SourceRec) → repeats_by number a r ≡ repeats_by number b r
  repeat_rec (Halted halt) = refl
  repeat_rec State = refl
  repeat_rec (Send p content) = refl
  repeat_rec (Again sending) = marks_alike a.source.sendings b.source.sendings sending same.sendings
  repeat_rec (Ask up) = refl
  repeat_rec Done = refl
  repeat_rec Back = refl

  link_rec : (own other : List Bool) → own ≡ other → (r : LinkRec) → link_by a own r ≡ link_by b other r
  link_rec own other e (Down sending) = marks_alike own other sending e
  link_rec own other e (Up asking) = marks_alike a.pager.askings b.pager.askings asking same.askings

  reach_rec : (placement : ℕ) → reach_by a placement ≡ reach_by b placement
  reach_rec placement = ap (λ m. newest is_mark m (suc placement)) same.placements

  further_rec : (r : GuestRec) (far : ℕ) → further_by a r far ≡ further_by b r far
  further_rec (Read vcpu p c value) far = refl
  further_rec (Write vcpu p c value) far = refl
  further_rec (Release vcpu p) far = refl
  further_rec (Miss vcpu p) far = refl
  further_rec Halt far = refl
  further_rec (Resume ready) far = refl
  further_rec (See placement) far = ap (max far) (reach_rec placement)

  guest_rec : (far : ℕ) (r : GuestRec) → guest_by number a far r ≡ guest_by number b far r
  guest_rec far (Read vcpu p c value) = refl
  guest_rec far (Write vcpu p c value) = refl
  guest_rec far (Release vcpu p) = refl
  guest_rec far (Miss vcpu p) = refl
  guest_rec far Halt = refl
  guest_rec far (Resume ready) = refl
  guest_rec far (See placement) = ap (nat_lt far) (reach_rec placement)

  guest_log : (far : ℕ) (log : List GuestRec) → guest_marks number a far log ≡ guest_marks number b far log
  guest_log far [] = refl
  guest_log far (r ∷ log) =
      ap (λ m. m ∷ guest_marks number a (further_by a r far) log) (guest_rec far r)
      ∙ ap (λ n. guest_by number b far r ∷ guest_marks number a n log) (further_rec r far)
      ∙ ap (λ ms. guest_by number b far r ∷ ms) (guest_log (further_by b r far) log)

lane_rec : (own other : List Bool) → own ≡ other → (r : LaneRec) → lane_by own r ≡ lane_by other r
lane_rec own other e (LaneDown sending) = marks_alike own other sending e

taking_rec : (link link' lane lane' : List Bool) → link ≡ link' → lane ≡ lane' → (r : PagerRec) → taking_by link lane r ≡ taking_by link' lane' r
taking_rec link link' lane lane' e f (Got down) = marks_alike link link' down e
taking_rec link link' lane lane' e f (Pull down) = marks_alike lane lane' down f
taking_rec link link' lane lane' e f Ready = refl
taking_rec link link' lane lane' e f (Fault miss) = refl
taking_rec link link' lane lane' e f (Join want) = refl
taking_rec link link' lane lane' e f (Want p) = refl
taking_rec link link' lane lane' e f (Place p got content) = refl
taking_rec link link' lane lane' e f (Zero p) = refl
taking_rec link link' lane lane' e f (Skip got) = refl
taking_rec link link' lane lane' e f All = refl

module _ (number : Numbers) (a b : Marks) (same : SecondSame a b) where
  source_rec : (r : SourceRec) → source_by number a r ≡ source_by number b r
  source_rec (Halted halt) = refl
  source_rec State = refl
  source_rec (Send p content) = refl
  source_rec (Again sending) = marks_alike a.source.sendings b.source.sendings sending same.first.sendings
  source_rec (Ask up) = marks_alike a.link b.link up same.link
  source_rec Done = refl
  source_rec Back = refl

  pager_rec : (r : PagerRec) → pager_by number a r ≡ pager_by number b r
  pager_rec (Got down) = marks_alike a.link b.link down same.link
  pager_rec (Pull down) = marks_alike a.lane b.lane down same.lane
  pager_rec Ready = refl
  pager_rec (Fault miss) = marks_alike a.guest.misses b.guest.misses miss same.first.misses
  pager_rec (Join want) = marks_alike a.pager.askings b.pager.askings want same.first.askings
  pager_rec (Want p) = refl
  pager_rec (Place p got content) = refl
  pager_rec (Zero p) = refl
  pager_rec (Skip got) = marks_alike a.pager.takings b.pager.takings got same.takings
  pager_rec All = refl

module _ (number : Numbers) (s : Recorded) (k k' m m' : Marks) (f : Found number k m s) (g : Found number k' m' s) where
  first_same : FirstSame m m'
  first_same = record {
    sendings = f.source.sendings ∙ sym g.source.sendings;
    askings = f.pager.askings ∙ sym g.pager.askings;
    misses = f.guest.misses ∙ sym g.guest.misses;
    placements = f.pager.placements ∙ sym g.pager.placements;
  }

  second_same : FirstSame k k' → SecondSame m m'
  second_same known =
      let repeats : m.source.repeats ≡ m'.source.repeats = f.source.repeats ∙ map_same (repeats_by number k) (repeats_by number k') s.source (repeat_rec number k k' known) ∙ sym g.source.repeats in
      let link : m.link ≡ m'.link = f.link ∙ map_same (link_by k m.source.repeats) (link_by k' m'.source.repeats) s.link (link_rec number k k' known m.source.repeats m'.source.repeats repeats) ∙ sym g.link in
      let lane : m.lane ≡ m'.lane = f.lane ∙ map_same (lane_by m.source.repeats) (lane_by m'.source.repeats) s.lane (lane_rec m.source.repeats m'.source.repeats repeats) ∙ sym g.lane in
      record {
        first = first_same;
        repeats = repeats;
        link = link;
        lane = lane;
        takings = f.pager.takings ∙ map_same (taking_by m.link m.lane) (taking_by m'.link m'.lane) s.pager (taking_rec m.link m'.link m.lane m'.lane link lane) ∙ sym g.pager.takings;
        guest = f.guest.kept ∙ guest_log number k k' known 0 s.guest ∙ sym g.guest.kept;
      }

  third_same : SecondSame k k' → AreSame m m'
  third_same known =
      let second = second_same known.first in
      record {
        misses = second.first.misses;
        guest = second.guest;
        sendings = second.first.sendings;
        repeats = second.repeats;
        source = f.source.kept ∙ map_same (source_by number k) (source_by number k') s.source (source_rec number k k' known) ∙ sym g.source.kept;
        link = second.link;
        lane = second.lane;
        askings = second.first.askings;
        placements = second.first.placements;
        takings = second.takings;
        pager = f.pager.kept ∙ map_same (pager_by number k) (pager_by number k') s.pager (pager_rec number k k' known) ∙ sym g.pager.kept;
      }

-- the fourth pass over one recording finds the marks of the third
pub settled_again : (number : Numbers) (s : Recorded) (m0 m1 m2 m3 m4 : Marks) → Found number m0 m1 s → Found number m1 m2 s → Found number m2 m3 s → Found number m3 m4 s → AreSame m3 m4
settled_again number s m0 m1 m2 m3 m4 f1 f2 f3 f4 =
    let told = first_same number s m0 m1 m1 m2 f1 f2 in
    third_same number s m2 m3 m3 m4 f3 f4 (second_same number s m1 m2 m2 m3 f2 f3 told)
