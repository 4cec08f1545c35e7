-- A tick of the pager.
use Rattle.std.proofs.Common.{◌≡◌, ℕ, zero, suc, ◌+◌, ◌<◌, ◌≤◌, Bool, true, false, cond, ◌||◌, List, [], ◌∷◌, ◌++◌, length, Option, Some, None, ◌⊎◌, inl, inr, refl, sym, ap, ◌∙◌, subst, arith}
use Rattle.std.specs.Prelude.{is_some}
use Rattle.std.specs.List.{range_with_len}
use Rattle.std.proofs.lemmas.Bool.{cases_lt}
use Rattle.migration_types.specs.declared.records.PagerRec.{PagerRec}
use Rattle.migration_types.specs.declared.records.PagerRec.TheVariants.{Want, All}
use Rattle.migration_types.specs.Limits.{most_records}
use Rattle.migration_types.specs.PageSets.{Pages}
use Rattle.page_store.specs.Tables.{Values, pages_of, values, with_value}
use Rattle.fault_queue.specs.Waiting.{Waiting}
use Rattle.page_stream.specs.declared.Packet.{Packet}
use Rattle.page_stream.specs.declared.Packet.TheVariants.{Want as WantPacket, All as AllPacket}
use Rattle.target_side.specs.PagerPart.{PagerPart, Sent, wants_page, oldest, is_released, is_listed, first_absent, ticks, ticks_at}
use Rattle.target_side.specs.PagerLists.{PagerLists, part_of, IsKept}
use Rattle.target_side.specs.inner.Sound.{IsSound}
use Rattle.target_side.proofs.Lists.{length_more}
use Rattle.target_side.proofs.PagerKeeping.{kept_wanting}

-- the least page that is neither listed nor there
none_absent : (k n : ℕ) (list : List ℕ) (there : Pages) → ((p : ℕ) → k ≤ p → p < k + n → (is_listed p list || there p) ≡ true) → first_absent (range_with_len k n) list there ≡ None
none_absent k zero list there all = refl
none_absent k (suc n) list there all =
    ap (λ b. cond b (first_absent (range_with_len (k + 1) n) list there) (Some k)) (all k (omega arith) (omega arith))
    ∙ none_absent (k + 1) n list there (λ p ge lt. all p (omega arith) (omega arith))

least_absent : (k n p : ℕ) (list : List ℕ) (there : Pages) → k ≤ p → p < k + n → ((q : ℕ) → k ≤ q → q < p → (is_listed q list || there q) ≡ true) → (is_listed p list || there p) ≡ false → first_absent (range_with_len k n) list there ≡ Some p
least_absent k zero p list there ge lt all here = absurd (omega arith)
least_absent k (suc n) p list there ge lt all here =
    go (λ below. least_absent (k + 1) n p list there (omega arith) (omega arith) (λ q qge qlt. all q (omega arith) qlt) here) (cases_lt k p)
  where
    go : (k < p → first_absent (range_with_len (k + 1) n) list there ≡ Some p) → (k < p) ⊎ (p ≤ k) → first_absent (range_with_len k (suc n)) list there ≡ Some p
    go rest (inl below) = ap (λ b. cond b (first_absent (range_with_len (k + 1) n) list there) (Some k)) (all k (omega arith) below) ∙ rest below
    go rest (inr above) =
        let same : k ≡ p = omega arith in
        let none : (is_listed k list || there k) ≡ false = subst (λ q. (is_listed q list || there q) ≡ false) (sym same) here in
        ap (λ b. cond b (first_absent (range_with_len (k + 1) n) list there) (Some k)) none ∙ ap (λ q. Some q) same

pub ticks_done : (o : Option (List ℕ)) (b : PagerPart) → is_some o ≡ true → ((p : ℕ) → p < b.geometry.pages → (is_released o p || (b.placed p || b.settled p)) ≡ true) → ticks o b ≡ ticks_at None b
ticks_done None b is all = absurd (cc)
ticks_done (Some list) b is all = ap (λ f. ticks_at f b) (none_absent 0 b.geometry.pages list (λ q. b.placed q || b.settled q) (λ p ge lt. all p (omega arith)))

pub ticks_wanting : (o : Option (List ℕ)) (b : PagerPart) (p : ℕ) → is_some o ≡ true → p < b.geometry.pages → ((q : ℕ) → q < p → (is_released o q || (b.placed q || b.settled q)) ≡ true) → (is_released o p || (b.placed p || b.settled p)) ≡ false → ticks o b ≡ ticks_at (Some p) b
ticks_wanting None b p is fits all here = absurd (cc)
ticks_wanting (Some list) b p is fits all here = ap (λ f. ticks_at f b) (least_absent 0 b.geometry.pages p list (λ q. b.placed q || b.settled q) (omega arith) (omega arith) (λ q ge lt. all q lt) here)

-- what the tick answers
pub said_all : (b : PagerPart) (log : List PagerRec) (n : ℕ) → log ≡ b.log ++ All ∷ [] → n ≡ length b.log → record { book = record b { log = log }; packet = Some (AllPacket n) } ≡ ticks_at None b
said_all b log n grown at = λ i. record { book = record b { log = grown i }; packet = Some (AllPacket (at i)) }

pub said_want : (b : PagerPart) (log : List PagerRec) (wants : ℕ → Option ℕ) (n page p : ℕ) → log ≡ b.log ++ Want page ∷ [] → wants ≡ with_value page (Some (length b.log)) b.wants → n ≡ length b.log → page ≡ oldest b.waiting p → record { book = record b { log = log; wants = wants }; packet = Some (WantPacket n page) } ≡ ticks_at (Some p) b
said_want b log wants n page p grown given at is =
    let same : record { book = record b { log = log; wants = wants }; packet = Some (WantPacket n page) } ≡ record { book = wants_page page b; packet = Some (WantPacket (length b.log) page) } =
    λ i. record { book = record b { log = grown i; wants = given i }; packet = Some (WantPacket (at i) page) }
    in same ∙ ap (λ (q : ℕ). let s : Sent = record { book = wants_page q b; packet = Some (WantPacket (length b.log) q) } in s) is

pub kept_wants : (b : PagerPart) (page : ℕ) (log : List PagerRec) (wants : ℕ → Option ℕ) → is_some b.released ≡ true → page < b.geometry.pages → length b.log + 1 ≤ most_records → log ≡ b.log ++ Want page ∷ [] → wants ≡ with_value page (Some (length b.log)) b.wants → IsKept b → IsKept (record b { log = log; wants = wants })
kept_wants b page log wants is fits few grown given k =
    let e : record b { log = log; wants = wants } ≡ wants_page page b = λ i. record b { log = grown i; wants = given i } in
    subst IsKept (sym e) (kept_wanting page b is fits (omega (arith, length_more b.log (Want page))) k)

-- the bound goes up to a page below which all are released, placed or settled
pub sound_up : {b : PagerLists} {marks : Values Bool} {bound : ℕ} (absent : ℕ) → IsSound b marks bound → absent ≤ b.geometry.pages → ((p : ℕ) → bound ≤ p → p < absent → (values marks p || (values b.placed p || values b.settled p)) ≡ true) → IsSound b marks absent
sound_up {b} {marks} {bound} absent s few more = record {
  kept = s.kept;
  placed_pages = s.placed_pages;
  settled_pages = s.settled_pages;
  wants_pages = s.wants_pages;
  marked_pages = s.marked_pages;
  marked = s.marked;
  in_range = few;
  passed = λ p lt. go p lt (cases_lt p bound);
}
  where
    go : (p : ℕ) → p < absent → (p < bound) ⊎ (bound ≤ p) → (is_released b.released p || (values b.placed p || values b.settled p)) ≡ true
    go p lt (inl below) = s.passed p below
    go p lt (inr above) = sym (ap (λ (at : ℕ → Bool). at p || (values b.placed p || values b.settled p)) s.marked) ∙ more p above lt

pub unsettled : {b : PagerLists} {marks : Values Bool} {bound : ℕ} (p : ℕ) → IsSound b marks bound → (values marks p || (values b.placed p || values b.settled p)) ≡ false → (is_released b.released p || (values b.placed p || values b.settled p)) ≡ false
unsettled {b} {marks} {bound} p s e = sym (ap (λ (at : ℕ → Bool). at p || (values b.placed p || values b.settled p)) s.marked) ∙ e

-- a change of the log, the queues and the wants alone
pub sound_wanting : {b : PagerLists} {marks : Values Bool} {bound : ℕ} (log : List PagerRec) (outbox : List Packet) (waiting : List Waiting) (wants : Values (Option ℕ)) → IsSound b marks bound → pages_of wants ≡ pages_of b.wants → IsKept (part_of (record b { log = log; outbox = outbox; waiting = waiting; wants = wants })) → IsSound (record b { log = log; outbox = outbox; waiting = waiting; wants = wants }) marks bound
sound_wanting log outbox waiting wants s pages k = record {
  kept = k;
  placed_pages = s.placed_pages;
  settled_pages = s.settled_pages;
  wants_pages = pages ∙ s.wants_pages;
  marked_pages = s.marked_pages;
  marked = s.marked;
  in_range = s.in_range;
  passed = s.passed;
}
