-- A line tells a record as a recorder writes it.
use Rattle.std.proofs.Common.{◌≡◌, ℕ, ◌<◌, ◌≤◌, ◌^◌, ◌⊎◌, inl, inr, List, ◌++◌, Option, Some, None, get_or, refl, sym, ap, ◌∙◌, arith}
use Rattle.std.specs.Prelude.{codes}
use Rattle.std.specs.Fmt.{decimal}
use Rattle.std.proofs.lemmas.Fmt.{decimal_injective}
use Rattle.migration_types.specs.declared.version.Version.{Version}
use Rattle.migration_types.specs.Extents.{Extent}
use Rattle.migration_types.specs.declared.records.SourceRec.{SourceRec}
use Rattle.migration_types.specs.declared.records.SourceRec.TheVariants.{Halted, State, Send, Again, Ask, Done, Back}
use Rattle.migration_types.specs.declared.records.PagerRec.{PagerRec}
use Rattle.migration_types.specs.declared.records.PagerRec.TheVariants.{Got, Pull, Ready, Fault, Join, Want, Place, Zero, Skip, All}
use Rattle.session_grammar.specs.Records.{source_line, pager_line}
use Rattle.recordings.specs.Recordings.{IsMachine}
use Rattle.recordings.specs.Wide.{source_of, pager_of}
use Rattle.recordings.proofs.Tells.{source_tell, pager_tell}
use Rattle.recorder_files.specs.declared.delivering.Message.{Message}
use Rattle.recorder_files.specs.declared.delivering.Message.TheVariants.{Down, Up}
use Rattle.recorder_files.specs.declared.raw.RawSource.{RawSource}
use Rattle.recorder_files.specs.declared.raw.RawSource.TheVariants.{Own as OwnSource, AskSent}
use Rattle.recorder_files.specs.declared.raw.RawPager.{RawPager}
use Rattle.recorder_files.specs.declared.raw.RawPager.TheVariants.{Own as OwnPager, GotSent, PullSent}
use Rattle.recorder_files.specs.Raw.{lost_number, raw_source_line, raw_pager_line, IsRawSourceOf, IsRawPagerOf}
use Rattle.recorder_files.proofs.Refusing.{cancel}
use Rattle.recorder_files.specs.Told.{lane_packet, link_packet, numbered_pager, numbered_source, request}

-- ---- the source

-- a record of a session, or the number that came with an `ask`
abbrev pub SourceForm : Type 0
SourceForm = SourceRec ⊎ ℕ

abbrev pub source_form : RawSource → SourceForm
source_form (OwnSource rec) = inl (source_of rec)
source_form (AskSent asking) = inr asking

small : (n : ℕ) → n ≤ lost_number → n < 2 ^ 64
small n le = omega arith

-- the fourth letter of no record of a session is a dash
not_ask : (rec : SourceRec) (text : List ℕ) → source_line rec ≡ codes "ask-sent " ++ text → ⊥
not_ask (Halted n) text e = let fourth = ap (λ (l : List ℕ). get_or l 3 0) e in absurd (omega (arith, fourth))
not_ask State text e = let fourth = ap (λ (l : List ℕ). get_or l 3 0) e in absurd (omega (arith, fourth))
not_ask (Send page contents) text e = let fourth = ap (λ (l : List ℕ). get_or l 3 0) e in absurd (omega (arith, fourth))
not_ask (Again n) text e = let fourth = ap (λ (l : List ℕ). get_or l 3 0) e in absurd (omega (arith, fourth))
not_ask (Ask n) text e = let fourth = ap (λ (l : List ℕ). get_or l 3 0) e in absurd (omega (arith, fourth))
not_ask Done text e = let fourth = ap (λ (l : List ℕ). get_or l 3 0) e in absurd (omega (arith, fourth))
not_ask Back text e = let fourth = ap (λ (l : List ℕ). get_or l 3 0) e in absurd (omega (arith, fourth))

pub same_source : (e : Extent) → IsMachine e → (r s : RawSource) → IsRawSourceOf e r → IsRawSourceOf e s → raw_source_line r ≡ raw_source_line s → source_form r ≡ source_form s
same_source e h (OwnSource a) (OwnSource b) p q same = ap (λ (x : SourceRec). inl x) (source_tell e h (source_of a) (source_of b) p q same)
same_source e h (AskSent n) (AskSent m) p q same = ap (λ (x : ℕ). inr x) (decimal_injective n m (small n p) (small m q) (cancel (codes "ask-sent ") (decimal n) (decimal m) same))
same_source e h (OwnSource a) (AskSent m) p q same = absurd (not_ask (source_of a) (decimal m) same)
same_source e h (AskSent n) (OwnSource b) p q same = absurd (not_ask (source_of b) (decimal n) (sym same))

abbrev request_in : ℕ → SourceForm → Option Message
request_in n (inl rec) = None
request_in n (inr asking) = Some (Up asking n)

request_is : (n : ℕ) (r : RawSource) → request n r ≡ request_in n (source_form r)
request_is n (OwnSource rec) = refl
request_is n (AskSent asking) = refl

-- records of one form take one message
pub same_request : (n : ℕ) (r s : RawSource) → source_form r ≡ source_form s → request n r ≡ request n s
same_request n r s same = request_is n r ∙ (ap (request_in n) same ∙ sym (request_is n s))

abbrev source_in : ℕ → SourceForm → SourceRec
source_in n (inl rec) = rec
source_in n (inr asking) = Ask n

source_is : (n : ℕ) (r : RawSource) → numbered_source n r ≡ source_in n (source_form r)
source_is n (OwnSource rec) = refl
source_is n (AskSent asking) = refl

pub same_numbered_source : (n : ℕ) (r s : RawSource) → source_form r ≡ source_form s → numbered_source n r ≡ numbered_source n s
same_numbered_source n r s same = source_is n r ∙ (ap (source_in n) same ∙ sym (source_is n s))

-- ---- the pager

-- a record of a session, or the number that came with a `got` or a `pull`
abbrev pub PagerForm : Type 0
PagerForm = PagerRec ⊎ (ℕ ⊎ ℕ)

abbrev pub pager_form : RawPager → PagerForm
pager_form (OwnPager rec) = inl (pager_of rec)
pager_form (GotSent sending) = inr (inl sending)
pager_form (PullSent sending) = inr (inr sending)

not_got : (rec : PagerRec) (text : List ℕ) → pager_line rec ≡ codes "got-sent " ++ text → ⊥
not_got (Got n) text e = let fourth = ap (λ (l : List ℕ). get_or l 3 0) e in absurd (omega (arith, fourth))
not_got (Pull n) text e = let fourth = ap (λ (l : List ℕ). get_or l 3 0) e in absurd (omega (arith, fourth))
not_got Ready text e = let fourth = ap (λ (l : List ℕ). get_or l 3 0) e in absurd (omega (arith, fourth))
not_got (Fault n) text e = let fourth = ap (λ (l : List ℕ). get_or l 3 0) e in absurd (omega (arith, fourth))
not_got (Join n) text e = let fourth = ap (λ (l : List ℕ). get_or l 3 0) e in absurd (omega (arith, fourth))
not_got (Want n) text e = let fourth = ap (λ (l : List ℕ). get_or l 3 0) e in absurd (omega (arith, fourth))
not_got (Place page got contents) text e = let fourth = ap (λ (l : List ℕ). get_or l 3 0) e in absurd (omega (arith, fourth))
not_got (Zero n) text e = let fourth = ap (λ (l : List ℕ). get_or l 3 0) e in absurd (omega (arith, fourth))
not_got (Skip n) text e = let fourth = ap (λ (l : List ℕ). get_or l 3 0) e in absurd (omega (arith, fourth))
not_got All text e = let fourth = ap (λ (l : List ℕ). get_or l 3 0) e in absurd (omega (arith, fourth))

-- of those that begin with `p`, the fifth letter is no dash
not_pull : (rec : PagerRec) (text : List ℕ) → pager_line rec ≡ codes "pull-sent " ++ text → ⊥
not_pull (Got n) text e = let first = ap (λ (l : List ℕ). get_or l 0 0) e in absurd (omega (arith, first))
not_pull (Pull n) text e = let fifth = ap (λ (l : List ℕ). get_or l 4 0) e in absurd (omega (arith, fifth))
not_pull Ready text e = let first = ap (λ (l : List ℕ). get_or l 0 0) e in absurd (omega (arith, first))
not_pull (Fault n) text e = let first = ap (λ (l : List ℕ). get_or l 0 0) e in absurd (omega (arith, first))
not_pull (Join n) text e = let first = ap (λ (l : List ℕ). get_or l 0 0) e in absurd (omega (arith, first))
not_pull (Want n) text e = let first = ap (λ (l : List ℕ). get_or l 0 0) e in absurd (omega (arith, first))
not_pull (Place page got contents) text e = let fifth = ap (λ (l : List ℕ). get_or l 4 0) e in absurd (omega (arith, fifth))
not_pull (Zero n) text e = let first = ap (λ (l : List ℕ). get_or l 0 0) e in absurd (omega (arith, first))
not_pull (Skip n) text e = let first = ap (λ (l : List ℕ). get_or l 0 0) e in absurd (omega (arith, first))
not_pull All text e = let first = ap (λ (l : List ℕ). get_or l 0 0) e in absurd (omega (arith, first))

got_no_pull : (text other : List ℕ) → codes "got-sent " ++ text ≡ codes "pull-sent " ++ other → ⊥
got_no_pull text other e = let first = ap (λ (l : List ℕ). get_or l 0 0) e in absurd (omega (arith, first))

pub same_pager : (version : Version) (e : Extent) → IsMachine e → (r s : RawPager) → IsRawPagerOf version e r → IsRawPagerOf version e s → raw_pager_line r ≡ raw_pager_line s → pager_form r ≡ pager_form s
same_pager version e h (OwnPager a) (OwnPager b) p q same = ap (λ (x : PagerRec). inl x) (pager_tell version e h (pager_of a) (pager_of b) p q same)
same_pager version e h (GotSent n) (GotSent m) p q same = ap (λ (x : ℕ). inr (inl x)) (decimal_injective n m (small n p) (small m q) (cancel (codes "got-sent ") (decimal n) (decimal m) same))
same_pager version e h (PullSent n) (PullSent m) p q same = ap (λ (x : ℕ). inr (inr x)) (decimal_injective n m (small n p) (small m q) (cancel (codes "pull-sent ") (decimal n) (decimal m) same))
same_pager version e h (OwnPager a) (GotSent m) p q same = absurd (not_got (pager_of a) (decimal m) same)
same_pager version e h (OwnPager a) (PullSent m) p q same = absurd (not_pull (pager_of a) (decimal m) same)
same_pager version e h (GotSent n) (OwnPager b) p q same = absurd (not_got (pager_of b) (decimal n) (sym same))
same_pager version e h (PullSent n) (OwnPager b) p q same = absurd (not_pull (pager_of b) (decimal n) (sym same))
same_pager version e h (GotSent n) (PullSent m) p q same = absurd (got_no_pull (decimal n) (decimal m) same)
same_pager version e h (PullSent n) (GotSent m) p q same = absurd (got_no_pull (decimal m) (decimal n) (sym same))

abbrev link_in : ℕ → PagerForm → Option Message
link_in n (inl rec) = None
link_in n (inr (inl sending)) = Some (Down sending n)
link_in n (inr (inr sending)) = None

abbrev lane_in : ℕ → PagerForm → Option Message
lane_in n (inl rec) = None
lane_in n (inr (inl sending)) = None
lane_in n (inr (inr sending)) = Some (Down sending n)

abbrev pager_in : ℕ → PagerForm → PagerRec
pager_in n (inl rec) = rec
pager_in n (inr (inl sending)) = Got n
pager_in n (inr (inr sending)) = Pull n

pager_is : (n : ℕ) (r : RawPager) → (link_packet n r ≡ link_in n (pager_form r)) × (lane_packet n r ≡ lane_in n (pager_form r)) × (numbered_pager n r ≡ pager_in n (pager_form r))
pager_is n (OwnPager rec) = (refl, refl, refl)
pager_is n (GotSent sending) = (refl, refl, refl)
pager_is n (PullSent sending) = (refl, refl, refl)

-- records of one form take one packet
pub same_link_packet : (n : ℕ) (r s : RawPager) → pager_form r ≡ pager_form s → link_packet n r ≡ link_packet n s
same_link_packet n r s same = (pager_is n r).0 ∙ (ap (link_in n) same ∙ sym (pager_is n s).0)

pub same_lane_packet : (n : ℕ) (r s : RawPager) → pager_form r ≡ pager_form s → lane_packet n r ≡ lane_packet n s
same_lane_packet n r s same = (pager_is n r).1 ∙ (ap (lane_in n) same ∙ sym (pager_is n s).1)

pub same_numbered_pager : (n : ℕ) (r s : RawPager) → pager_form r ≡ pager_form s → numbered_pager n r ≡ numbered_pager n s
same_numbered_pager n r s same = (pager_is n r).2 ∙ (ap (pager_in n) same ∙ sym (pager_is n s).2)
