-- A session that has grown: what its records rest on stays.
use Rattle.audit_model.proofs.Consistent.{there}
use Rattle.audit_model.proofs.Grown.{grown_merges}
use Rattle.audit_model.specs.Mergings.{IsMerging}
use Rattle.audit_model.specs.Names.{if_there, receipt, same_log}
use Rattle.audit_model.specs.Shape.{delivers, delivery, down_sending, guest_named, is_or_repeats, is_send_of, is_state, lane_named, lane_sending, link_named, pager_named, pager_start, passes, source_named, taken_sending}
use Rattle.audit_model.specs.Walks.{IsGrown}
use Rattle.migration_types.specs.Receipts.{Name, guest_receipt, lane_receipt, link_receipt, pager_receipt, source_receipt}
use Rattle.migration_types.specs.Sessions.{Recorded, log_length}
use Rattle.migration_types.specs.declared.records.GuestRec.{GuestRec}
use Rattle.migration_types.specs.declared.records.GuestRec.TheVariants.{Halt, Miss, Read, Release, Resume, See, Write}
use Rattle.migration_types.specs.declared.records.LaneRec.{LaneRec}
use Rattle.migration_types.specs.declared.records.LaneRec.TheVariants.{Down as LaneDown}
use Rattle.migration_types.specs.declared.records.LinkRec.{LinkRec}
use Rattle.migration_types.specs.declared.records.LinkRec.TheVariants.{Down, Up}
use Rattle.migration_types.specs.declared.records.LogName.{LogName}
use Rattle.migration_types.specs.declared.records.LogName.TheVariants.{Guest, Lane, Link, Pager, Source as FromSource}
use Rattle.migration_types.specs.declared.records.PagerRec.{PagerRec}
use Rattle.migration_types.specs.declared.records.PagerRec.TheVariants.{All, Fault, Got, Join, Place, Pull, Ready, Skip, Want, Zero}
use Rattle.migration_types.specs.declared.records.SourceRec.{SourceRec}
use Rattle.migration_types.specs.declared.records.SourceRec.TheVariants.{Again, Ask, Back, Done, Halted, Send, State}
use Rattle.migration_model.proofs.Lists.{and_both, and_left, and_right, get_new, get_old, length_suc, passes_stays, some_stays}
use Rattle.std.proofs.Common.{Bool, List, None, Option, Some, [], ap, arith, cond, length, refl, subst, suc, sym, true, zero, ℕ, ◌++◌, ◌<◌, ◌∙◌, ◌∷◌, ◌≡◌}
use Rattle.std.specs.Option.{option_map}
use Rattle.std.specs.Prelude.{slice_get}

-- one record more in a log
abbrev pub guest_more : GuestRec → Recorded → Recorded
guest_more r s = record s { guest = s.guest ++ r ∷ [] }

abbrev pub source_more : SourceRec → Recorded → Recorded
source_more r s = record s { source = s.source ++ r ∷ [] }

abbrev pub link_more : LinkRec → Recorded → Recorded
link_more r s = record s { link = s.link ++ r ∷ [] }

abbrev pub lane_more : LaneRec → Recorded → Recorded
lane_more r s = record s { lane = s.lane ++ r ∷ [] }

abbrev pub pager_more : PagerRec → Recorded → Recorded
pager_more r s = record s { pager = s.pager ++ r ∷ [] }

-- other logs of the link and of the lane
abbrev pub links_as : List LinkRec → List LaneRec → Recorded → Recorded
links_as link lane s = record s { link = link; lane = lane }

-- t has the records of s, and perhaps more
pub record Extends (s t : Recorded) : Type 0 where
  pub version : s.version ≡ t.version
  pub guest : (n : ℕ) (r : GuestRec) → slice_get s.guest n ≡ Some r → slice_get t.guest n ≡ Some r
  pub source : (n : ℕ) (r : SourceRec) → slice_get s.source n ≡ Some r → slice_get t.source n ≡ Some r
  pub link : (n : ℕ) (r : LinkRec) → slice_get s.link n ≡ Some r → slice_get t.link n ≡ Some r
  pub lane : (n : ℕ) (r : LaneRec) → slice_get s.lane n ≡ Some r → slice_get t.lane n ≡ Some r
  pub pager : (n : ℕ) (r : PagerRec) → slice_get s.pager n ≡ Some r → slice_get t.pager n ≡ Some r

pub guest_extends : (r : GuestRec) (s : Recorded) → Extends s (guest_more r s)
guest_extends r s = record { version = refl; guest = λ n x e. get_old _ _ n x e; source = λ n x e. e; link = λ n x e. e; lane = λ n x e. e; pager = λ n x e. e }

pub source_extends : (r : SourceRec) (s : Recorded) → Extends s (source_more r s)
source_extends r s = record { version = refl; guest = λ n x e. e; source = λ n x e. get_old _ _ n x e; link = λ n x e. e; lane = λ n x e. e; pager = λ n x e. e }

pub link_extends : (r : LinkRec) (s : Recorded) → Extends s (link_more r s)
link_extends r s = record { version = refl; guest = λ n x e. e; source = λ n x e. e; link = λ n x e. get_old _ _ n x e; lane = λ n x e. e; pager = λ n x e. e }

pub lane_extends : (r : LaneRec) (s : Recorded) → Extends s (lane_more r s)
lane_extends r s = record { version = refl; guest = λ n x e. e; source = λ n x e. e; link = λ n x e. e; lane = λ n x e. get_old _ _ n x e; pager = λ n x e. e }

pub pager_extends : (r : PagerRec) (s : Recorded) → Extends s (pager_more r s)
pager_extends r s = record { version = refl; guest = λ n x e. e; source = λ n x e. e; link = λ n x e. e; lane = λ n x e. e; pager = λ n x e. get_old _ _ n x e }

-- the receipts of a log that has grown by one
old_receipts : {A : Type 0} (f : A → Option Name) (xs : List A) (x : A) (n : ℕ) → n < length xs → if_there f (slice_get (xs ++ x ∷ []) n) ≡ if_there f (slice_get xs n)
old_receipts f [] x n lt = absurd (omega arith)
old_receipts f (y ∷ xs) x zero lt = refl
old_receipts f (y ∷ xs) x (suc n) lt = old_receipts f xs x n (omega arith)

new_receipt : {A : Type 0} (f : A → Option Name) (xs : List A) (x : A) → if_there f (slice_get (xs ++ x ∷ []) (length xs)) ≡ f x
new_receipt f xs x = ap (λ o. if_there f o) (get_new xs x)

-- what a record names is there
abbrev pub IsThere : Recorded → Option Name → Type 0
IsThere s named = (sent : Name) → named ≡ Some sent → sent.1 < log_length s sent.0

guest_grown : (r : GuestRec) (s : Recorded) → IsThere s (guest_receipt r) → IsGrown s (guest_more r s) (Guest, length s.guest)
guest_grown r s there = record {
  is_next = refl;
  lengths = lengths;
  receipts = receipts;
  sent_there = λ sent e. there sent (sym (new_receipt guest_receipt s.guest r) ∙ e);
}
  where
    lengths : (l : LogName) → log_length (guest_more r s) l ≡ cond (same_log Guest l) (suc (log_length s l)) (log_length s l)
    lengths Guest = length_suc s.guest r
    lengths FromSource = refl
    lengths Link = refl
    lengths Lane = refl
    lengths Pager = refl

    receipts : (other : Name) → other.1 < log_length s other.0 → receipt (guest_more r s) other ≡ receipt s other
    receipts (Guest, n) lt = old_receipts guest_receipt s.guest r n lt
    receipts (FromSource, n) lt = refl
    receipts (Link, n) lt = refl
    receipts (Lane, n) lt = refl
    receipts (Pager, n) lt = refl

source_grown : (r : SourceRec) (s : Recorded) → IsThere s (source_receipt r) → IsGrown s (source_more r s) (FromSource, length s.source)
source_grown r s there = record {
  is_next = refl;
  lengths = lengths;
  receipts = receipts;
  sent_there = λ sent e. there sent (sym (new_receipt source_receipt s.source r) ∙ e);
}
  where
    lengths : (l : LogName) → log_length (source_more r s) l ≡ cond (same_log FromSource l) (suc (log_length s l)) (log_length s l)
    lengths Guest = refl
    lengths FromSource = length_suc s.source r
    lengths Link = refl
    lengths Lane = refl
    lengths Pager = refl

    receipts : (other : Name) → other.1 < log_length s other.0 → receipt (source_more r s) other ≡ receipt s other
    receipts (Guest, n) lt = refl
    receipts (FromSource, n) lt = old_receipts source_receipt s.source r n lt
    receipts (Link, n) lt = refl
    receipts (Lane, n) lt = refl
    receipts (Pager, n) lt = refl

link_grown : (r : LinkRec) (s : Recorded) → IsThere s (link_receipt r) → IsGrown s (link_more r s) (Link, length s.link)
link_grown r s there = record {
  is_next = refl;
  lengths = lengths;
  receipts = receipts;
  sent_there = λ sent e. there sent (sym (new_receipt link_receipt s.link r) ∙ e);
}
  where
    lengths : (l : LogName) → log_length (link_more r s) l ≡ cond (same_log Link l) (suc (log_length s l)) (log_length s l)
    lengths Guest = refl
    lengths FromSource = refl
    lengths Link = length_suc s.link r
    lengths Lane = refl
    lengths Pager = refl

    receipts : (other : Name) → other.1 < log_length s other.0 → receipt (link_more r s) other ≡ receipt s other
    receipts (Guest, n) lt = refl
    receipts (FromSource, n) lt = refl
    receipts (Link, n) lt = old_receipts link_receipt s.link r n lt
    receipts (Lane, n) lt = refl
    receipts (Pager, n) lt = refl

lane_grown : (r : LaneRec) (s : Recorded) → IsThere s (lane_receipt r) → IsGrown s (lane_more r s) (Lane, length s.lane)
lane_grown r s there = record {
  is_next = refl;
  lengths = lengths;
  receipts = receipts;
  sent_there = λ sent e. there sent (sym (new_receipt lane_receipt s.lane r) ∙ e);
}
  where
    lengths : (l : LogName) → log_length (lane_more r s) l ≡ cond (same_log Lane l) (suc (log_length s l)) (log_length s l)
    lengths Guest = refl
    lengths FromSource = refl
    lengths Link = refl
    lengths Lane = length_suc s.lane r
    lengths Pager = refl

    receipts : (other : Name) → other.1 < log_length s other.0 → receipt (lane_more r s) other ≡ receipt s other
    receipts (Guest, n) lt = refl
    receipts (FromSource, n) lt = refl
    receipts (Link, n) lt = refl
    receipts (Lane, n) lt = old_receipts lane_receipt s.lane r n lt
    receipts (Pager, n) lt = refl

pager_grown : (r : PagerRec) (s : Recorded) → IsThere s (pager_receipt r) → IsGrown s (pager_more r s) (Pager, length s.pager)
pager_grown r s there = record {
  is_next = refl;
  lengths = lengths;
  receipts = receipts;
  sent_there = λ sent e. there sent (sym (new_receipt pager_receipt s.pager r) ∙ e);
}
  where
    lengths : (l : LogName) → log_length (pager_more r s) l ≡ cond (same_log Pager l) (suc (log_length s l)) (log_length s l)
    lengths Guest = refl
    lengths FromSource = refl
    lengths Link = refl
    lengths Lane = refl
    lengths Pager = length_suc s.pager r

    receipts : (other : Name) → other.1 < log_length s other.0 → receipt (pager_more r s) other ≡ receipt s other
    receipts (Guest, n) lt = refl
    receipts (FromSource, n) lt = refl
    receipts (Link, n) lt = refl
    receipts (Lane, n) lt = refl
    receipts (Pager, n) lt = old_receipts pager_receipt s.pager r n lt

-- a recorded order stays a merging
pub guest_merges : (r : GuestRec) (s : Recorded) (order : List Name) → IsThere s (guest_receipt r) → IsMerging s order → IsMerging (guest_more r s) (order ++ (Guest, length s.guest) ∷ [])
guest_merges r s order there m = grown_merges s (guest_more r s) (Guest, length s.guest) order (guest_grown r s there) m

pub source_merges : (r : SourceRec) (s : Recorded) (order : List Name) → IsThere s (source_receipt r) → IsMerging s order → IsMerging (source_more r s) (order ++ (FromSource, length s.source) ∷ [])
source_merges r s order there m = grown_merges s (source_more r s) (FromSource, length s.source) order (source_grown r s there) m

pub link_merges : (r : LinkRec) (s : Recorded) (order : List Name) → IsThere s (link_receipt r) → IsMerging s order → IsMerging (link_more r s) (order ++ (Link, length s.link) ∷ [])
link_merges r s order there m = grown_merges s (link_more r s) (Link, length s.link) order (link_grown r s there) m

pub lane_merges : (r : LaneRec) (s : Recorded) (order : List Name) → IsThere s (lane_receipt r) → IsMerging s order → IsMerging (lane_more r s) (order ++ (Lane, length s.lane) ∷ [])
lane_merges r s order there m = grown_merges s (lane_more r s) (Lane, length s.lane) order (lane_grown r s there) m

pub pager_merges : (r : PagerRec) (s : Recorded) (order : List Name) → IsThere s (pager_receipt r) → IsMerging s order → IsMerging (pager_more r s) (order ++ (Pager, length s.pager) ∷ [])
pager_merges r s order there m = grown_merges s (pager_more r s) (Pager, length s.pager) order (pager_grown r s there) m

-- a record that names nothing, and one that names a record that is there
pub names_none : (s : Recorded) → IsThere s None
names_none s sent e = absurd (cc)

pub names : (s : Recorded) (name : Name) → name.1 < log_length s name.0 → IsThere s (Some name)
names s name lt sent e = let same : name ≡ sent = cc in subst (λ k. k.1 < log_length s k.0) same lt

module _ (s t : Recorded) (x : Extends s t) where
  -- what a record takes the delivery of stays
  pub taken_stays : (r : PagerRec) (n : ℕ) → taken_sending s r ≡ Some n → taken_sending t r ≡ Some n
  taken_stays (Got down) n e = go (slice_get s.link down) refl e
    where
      go : (o : Option LinkRec) → slice_get s.link down ≡ o → if_there down_sending o ≡ Some n → if_there down_sending (slice_get t.link down) ≡ Some n
      go None is e = absurd (cc)
      go (Some d) is e = ap (λ o. if_there down_sending o) (x.link down d is) ∙ e
  taken_stays (Pull down) n e = go (slice_get s.lane down) refl e
    where
      go : (o : Option LaneRec) → slice_get s.lane down ≡ o → option_map lane_sending o ≡ Some n → option_map lane_sending (slice_get t.lane down) ≡ Some n
      go None is e = absurd (cc)
      go (Some d) is e = ap (λ o. option_map lane_sending o) (x.lane down d is) ∙ e
  taken_stays Ready n e = absurd (cc)
  taken_stays (Fault k) n e = absurd (cc)
  taken_stays (Join k) n e = absurd (cc)
  taken_stays (Want p) n e = absurd (cc)
  taken_stays (Place p k c) n e = absurd (cc)
  taken_stays (Zero p) n e = absurd (cc)
  taken_stays (Skip k) n e = absurd (cc)
  taken_stays All n e = absurd (cc)

  -- a delivery stays
  delivery_stays : (got n : ℕ) → delivery s got ≡ Some n → delivery t got ≡ Some n
  delivery_stays got n e = go (slice_get s.pager got) refl e
    where
      go : (o : Option PagerRec) → slice_get s.pager got ≡ o → if_there (taken_sending s) o ≡ Some n → delivery t got ≡ Some n
      go None is e = absurd (cc)
      go (Some r) is e = ap (λ o. if_there (taken_sending t) o) (x.pager got r is) ∙ taken_stays r n e

  repeats_stays : (test : SourceRec → Bool) (r : SourceRec) → is_or_repeats s test r ≡ true → is_or_repeats t test r ≡ true
  repeats_stays test (Again k) e = passes_stays test test s.source t.source k (x.source k) (λ y e. e) e
  repeats_stays test (Halted k) e = e
  repeats_stays test State e = e
  repeats_stays test (Send p c) e = e
  repeats_stays test (Ask k) e = e
  repeats_stays test Done e = e
  repeats_stays test Back e = e

  pub delivers_stays : (test : SourceRec → Bool) (got : ℕ) → delivers s test got ≡ true → delivers t test got ≡ true
  delivers_stays test got e = go (delivery s got) refl e
    where
      go : (o : Option ℕ) → delivery s got ≡ o → passes (λ sending. passes (is_or_repeats s test) (slice_get s.source sending)) o ≡ true → delivers t test got ≡ true
      go None is e = absurd (cc)
      go (Some n) is e =
          ap (λ o. passes (λ sending. passes (is_or_repeats t test) (slice_get t.source sending)) o) (delivery_stays got n is)
          ∙ passes_stays (is_or_repeats s test) (is_or_repeats t test) s.source t.source n (x.source n) (repeats_stays test) e

  pub guest_named_stays : (r : GuestRec) → guest_named s r ≡ true → guest_named t r ≡ true
  guest_named_stays (Resume k) e = passes_stays _ _ s.pager t.pager k (x.pager k) (λ y e. e) e
  guest_named_stays (See k) e = passes_stays _ _ s.pager t.pager k (x.pager k) (λ y e. e) e
  guest_named_stays (Read v p c y) e = refl
  guest_named_stays (Write v p c y) e = refl
  guest_named_stays (Release v p) e = refl
  guest_named_stays (Miss v p) e = refl
  guest_named_stays Halt e = refl

  pub source_named_stays : (n : ℕ) (r : SourceRec) → source_named s n r ≡ true → source_named t n r ≡ true
  source_named_stays n (Halted k) e = passes_stays _ _ s.guest t.guest k (x.guest k) (λ y e. e) e
  source_named_stays n (Ask k) e = passes_stays _ _ s.link t.link k (x.link k) (λ y e. e) e
  source_named_stays n (Again k) e = and_both _ _ (and_left _ _ e) (passes_stays _ _ s.source t.source k (x.source k) (λ y e. e) (and_right _ _ e))
  source_named_stays n State e = refl
  source_named_stays n (Send p c) e = refl
  source_named_stays n Done e = refl
  source_named_stays n Back e = refl

  pub link_named_stays : (r : LinkRec) → link_named s r ≡ true → link_named t r ≡ true
  link_named_stays (Down k) e = passes_stays _ _ s.source t.source k (x.source k) (λ y e. e) e
  link_named_stays (Up k) e = passes_stays _ _ s.pager t.pager k (x.pager k) (λ y e. e) e

  pub lane_named_stays : (r : LaneRec) → lane_named s r ≡ true → lane_named t r ≡ true
  lane_named_stays (LaneDown k) e = passes_stays _ _ s.source t.source k (x.source k) (λ y e. e) e

  pub pager_named_stays : (n : ℕ) (r : PagerRec) → pager_named s n r ≡ true → pager_named t n r ≡ true
  pager_named_stays n (Got k) e = passes_stays _ _ s.link t.link k (x.link k) (λ y e. e) e
  pager_named_stays n (Pull k) e = some_stays s.lane t.lane k (x.lane k) e
  pager_named_stays n (Fault k) e = passes_stays _ _ s.guest t.guest k (x.guest k) (λ y e. e) e
  pager_named_stays n (Join k) e = and_both _ _ (and_left _ _ e) (passes_stays _ _ s.pager t.pager k (x.pager k) (λ y e. e) (and_right _ _ e))
  pager_named_stays n (Skip k) e = and_both _ _ (and_left _ _ e) (passes_stays _ _ s.pager t.pager k (x.pager k) (λ y e. e) (and_right _ _ e))
  pager_named_stays n (Place p k c) e = and_both _ _ (and_left _ _ e) (delivers_stays (is_send_of p) k (and_right _ _ e))
  pager_named_stays n Ready e = refl
  pager_named_stays n (Want p) e = refl
  pager_named_stays n (Zero p) e = refl
  pager_named_stays n All e = refl

  pub pager_start_stays : (n : ℕ) (r : PagerRec) → pager_start s n r ≡ true → pager_start t n r ≡ true
  pager_start_stays zero (Got k) e = delivers_stays is_state 0 e
  pager_start_stays zero (Pull k) e = delivers_stays is_state 0 e
  pager_start_stays zero Ready e = absurd (cc)
  pager_start_stays zero (Fault k) e = absurd (cc)
  pager_start_stays zero (Join k) e = absurd (cc)
  pager_start_stays zero (Want p) e = absurd (cc)
  pager_start_stays zero (Place p k c) e = absurd (cc)
  pager_start_stays zero (Zero p) e = absurd (cc)
  pager_start_stays zero (Skip k) e = absurd (cc)
  pager_start_stays zero All e = absurd (cc)
  pager_start_stays (suc zero) Ready e = refl
  pager_start_stays (suc zero) (Got k) e = absurd (cc)
  pager_start_stays (suc zero) (Pull k) e = absurd (cc)
  pager_start_stays (suc zero) (Fault k) e = absurd (cc)
  pager_start_stays (suc zero) (Join k) e = absurd (cc)
  pager_start_stays (suc zero) (Want p) e = absurd (cc)
  pager_start_stays (suc zero) (Place p k c) e = absurd (cc)
  pager_start_stays (suc zero) (Zero p) e = absurd (cc)
  pager_start_stays (suc zero) (Skip k) e = absurd (cc)
  pager_start_stays (suc zero) All e = absurd (cc)
  pager_start_stays (suc (suc n)) Ready e = absurd (cc)
  pager_start_stays (suc (suc n)) (Got k) e = refl
  pager_start_stays (suc (suc n)) (Pull k) e = refl
  pager_start_stays (suc (suc n)) (Fault k) e = refl
  pager_start_stays (suc (suc n)) (Join k) e = refl
  pager_start_stays (suc (suc n)) (Want p) e = refl
  pager_start_stays (suc (suc n)) (Place p k c) e = refl
  pager_start_stays (suc (suc n)) (Zero p) e = refl
  pager_start_stays (suc (suc n)) (Skip k) e = refl
  pager_start_stays (suc (suc n)) All e = refl
