-- Pages that were released at the target before they came are settled.
use Rattle.std.proofs.Common.{◌≡◌, ℕ, Bool, true, false, cond, ◌||◌, List, [], ◌∷◌, ◌++◌, length, Option, Some, None, refl, sym, ap, ◌∙◌, subst}
use Rattle.std.specs.Prelude.{◌==◌}
use Rattle.std.specs.List.{AllByRecursion}
use Rattle.migration_types.specs.declared.records.PagerRec.TheVariants.{Fault, Skip}
use Rattle.migration_types.specs.PageSets.{Pages}
use Rattle.page_store.specs.Tables.{Values, pages_of, values}
use Rattle.residency.specs.Placements.{is_resident}
use Rattle.fault_queue.specs.Waiting.{Waiting, is_asked, is_waiting, without, without_all}
use Rattle.target_side.specs.TargetPart.{TargetPart, settled as with_settled, resumes, with_misses}
use Rattle.target_side.specs.declared.access.UntakenMiss.{UntakenMiss}
use Rattle.target_side.specs.declared.incoming.Incoming.{Incoming}
use Rattle.target_side.specs.PagerPart.{PagerPart, Paged, settles, is_listed, is_released, fault_new, fault_join, faults, faults_by, zeroes, next_fault, places, delivers_by, deliver}
use Rattle.target_side.specs.PagerLists.{PagerLists, part_of, IsWanted, IsKept}
use Rattle.target_side.specs.inner.Sound.{IsSound}
use Rattle.target_side.proofs.Branches.{unchanged}
use Rattle.target_side.proofs.Lists.{each_filtered}
use Rattle.target_side.proofs.PagerKeeping.{kept_waiting}

-- the settled pages, with these
abbrev pub with_all : List ℕ → Pages → Pages
with_all ps was q = is_listed q ps || was q

-- all at once
pub settles_is : (ps : List ℕ) (b : PagerPart) → settles ps b ≡ record b { settled = with_all ps b.settled; waiting = without_all ps b.waiting }
settles_is [] b = refl
settles_is (p ∷ ps) b =
    settles_is ps (record b { settled = λ q. cond (p == q) true (b.settled q); waiting = without p b.waiting })
    ∙ (λ i. record b { settled = λ q. either (p == q) (is_listed q ps) (b.settled q) i; waiting = without_all ps (without p b.waiting) })
  where
    either : (c l s : Bool) → (l || cond c true s) ≡ ((c || l) || s)
    either true true s = refl
    either true false s = refl
    either false l s = refl

-- what is settled makes no difference to what else is done
abbrev over : Pages → Paged → Paged
over s g = record { pager = record g.pager { settled = s }; target = with_settled g.target; woken = g.woken }

-- and nothing else settles
abbrev Unsettled : PagerPart → TargetPart → Paged → Type 0
Unsettled b t g = (g.pager.settled ≡ b.settled) × (g.target.unsettled ≡ t.unsettled)

-- both calls leave logs as long as each other's
abbrev pub AreAsLong : Paged → Paged → Type 0
AreAsLong f g = (length f.pager.log ≡ length g.pager.log) × (length f.target.log ≡ length g.target.log)

abbrev pub branches : Bool → Bool → Bool → Bool → Option ℕ → ℕ → ℕ → PagerPart → TargetPart → Paged
branches r w z a o p v b t = cond r (unchanged b t) (cond w (unchanged b t) (cond z (zeroes p b t) (cond a (unchanged (fault_join p v o b) t) (unchanged (fault_new p v b) t))))

branches_over : (r w z a : Bool) (o : Option ℕ) (p v : ℕ) (b : PagerPart) (t : TargetPart) (s : Pages) → branches r w z a o p v (record b { settled = s }) (with_settled t) ≡ over s (branches r w z a o p v b t)
branches_over true w z a o p v b t s = refl
branches_over false true z a o p v b t s = refl
branches_over false false true a o p v b t s = refl
branches_over false false false true None p v b t s = refl
branches_over false false false true (Some want) p v b t s = refl
branches_over false false false false o p v b t s = refl

branches_still : (r w z a : Bool) (o : Option ℕ) (p v : ℕ) (b : PagerPart) (t : TargetPart) → Unsettled b t (branches r w z a o p v b t)
branches_still true w z a o p v b t = (refl, refl)
branches_still false true z a o p v b t = (refl, refl)
branches_still false false true a o p v b t = (refl, refl)
branches_still false false false true None p v b t = (refl, refl)
branches_still false false false true (Some want) p v b t = (refl, refl)
branches_still false false false false o p v b t = (refl, refl)

faults_over : (xs : List UntakenMiss) (b : PagerPart) (t : TargetPart) (s : Pages) → faults xs (record b { settled = s }) (with_settled t) ≡ over s (faults xs b t)
faults_over [] b t s = refl
faults_over (x ∷ rest) b t s =
    branches_over (is_resident (t.placed x.page) (t.freed x.page)) (is_waiting x.vcpu b.waiting) (is_released b.released x.page) (is_asked x.page b.waiting) (b.wants x.page) x.page x.vcpu
    (record b { log = b.log ++ Fault x.number ∷ [] }) (with_misses rest t) s

faults_still : (xs : List UntakenMiss) (b : PagerPart) (t : TargetPart) → Unsettled b t (faults xs b t)
faults_still [] b t = (refl, refl)
faults_still (x ∷ rest) b t =
    branches_still (is_resident (t.placed x.page) (t.freed x.page)) (is_waiting x.vcpu b.waiting) (is_released b.released x.page) (is_asked x.page b.waiting) (b.wants x.page) x.page x.vcpu
    (record b { log = b.log ++ Fault x.number ∷ [] }) (with_misses rest t)

faults_by_over : (o : Option (List ℕ)) (xs : List UntakenMiss) (b : PagerPart) (t : TargetPart) (s : Pages) → faults_by o xs (record b { settled = s }) (with_settled t) ≡ over s (faults_by o xs b t)
faults_by_over None xs b t s = refl
faults_by_over (Some released) xs b t s = faults_over xs b t s

faults_by_still : (o : Option (List ℕ)) (xs : List UntakenMiss) (b : PagerPart) (t : TargetPart) → Unsettled b t (faults_by o xs b t)
faults_by_still None xs b t = (refl, refl)
faults_by_still (Some released) xs b t = faults_still xs b t

abbrev arrives : Bool → Incoming → PagerPart → TargetPart → Paged
arrives r x b t = cond r (record { pager = record b { log = b.log ++ Skip x.got ∷ [] }; target = t; woken = [] }) (places x b t)

abbrev brought : Bool → Bool → List Incoming → PagerPart → TargetPart → Paged
brought runs r [] b t = cond runs (unchanged b t) (unchanged b (resumes t))
brought runs r (x ∷ rest) b t = cond runs (arrives r x (record b { inbox = rest }) t) (unchanged b (resumes t))

brought_over : (runs r : Bool) (xs : List Incoming) (b : PagerPart) (t : TargetPart) (s : Pages) → brought runs r xs (record b { settled = s }) (with_settled t) ≡ over s (brought runs r xs b t)
brought_over true r [] b t s = refl
brought_over true true (x ∷ rest) b t s = refl
brought_over true false (x ∷ rest) b t s = refl
brought_over false r [] b t s = refl
brought_over false r (x ∷ rest) b t s = refl

brought_still : (runs r : Bool) (xs : List Incoming) (b : PagerPart) (t : TargetPart) → Unsettled b t (brought runs r xs b t)
brought_still true r [] b t = (refl, refl)
brought_still true true (x ∷ rest) b t = (refl, refl)
brought_still true false (x ∷ rest) b t = (refl, refl)
brought_still false r [] b t = (refl, refl)
brought_still false r (x ∷ rest) b t = (refl, refl)

-- whether the oldest page that has come is resident
abbrev first_is : List Incoming → TargetPart → Bool
first_is [] t = false
first_is (x ∷ rest) t = is_resident (t.placed x.page) (t.freed x.page)

delivers_brought : (released : List ℕ) (b : PagerPart) (t : TargetPart) (xs : List Incoming) → b.inbox ≡ xs → delivers_by (Some released) b t ≡ brought t.is_resumed (first_is xs t) xs b t
delivers_brought released b t [] e = ap (λ ys. delivers_by (Some released) (record b { inbox = ys }) t) e ∙ ap (λ ys. brought t.is_resumed false [] (record b { inbox = ys }) t) (sym e)
delivers_brought released b t (x ∷ rest) e =
    ap (λ ys. delivers_by (Some released) (record b { inbox = ys }) t) e
    ∙ ap (λ ys. brought t.is_resumed (is_resident (t.placed x.page) (t.freed x.page)) (x ∷ rest) (record b { inbox = ys }) t) (sym e)

same_first : (xs : List Incoming) (t : TargetPart) → first_is xs (with_settled t) ≡ first_is xs t
same_first [] t = refl
same_first (x ∷ rest) t = refl

delivers_over : (o : Option (List ℕ)) (b : PagerPart) (t : TargetPart) (s : Pages) → delivers_by o (record b { settled = s }) (with_settled t) ≡ over s (delivers_by o b t)
delivers_over None b t s = refl
delivers_over (Some released) b t s =
    delivers_brought released (record b { settled = s }) (with_settled t) b.inbox refl
    ∙ ap (λ r. brought t.is_resumed r b.inbox (record b { settled = s }) (with_settled t)) (same_first b.inbox t)
    ∙ brought_over t.is_resumed (first_is b.inbox t) b.inbox b t s
    ∙ ap (over s) (sym (delivers_brought released b t b.inbox refl))

delivers_still : (o : Option (List ℕ)) (b : PagerPart) (t : TargetPart) → Unsettled b t (delivers_by o b t)
delivers_still None b t = (refl, refl)
delivers_still (Some released) b t = subst (Unsettled b t) (sym (delivers_brought released b t b.inbox refl)) (brought_still t.is_resumed (first_is b.inbox t) b.inbox b t)

-- both books after a call, and then settled
pub settled_after : (b : PagerPart) (t : TargetPart) (g : Paged) (after : PagerPart) (there : TargetPart) (woken : List ℕ) → Unsettled b t g → after ≡ record g.pager { settled = with_all g.target.unsettled g.pager.settled } → there ≡ with_settled g.target → woken ≡ g.woken → record { pager = after; target = there; woken = woken } ≡ over (with_all t.unsettled b.settled) g
settled_after b t g after there woken still pager target woke =
    (λ i. record { pager = pager i; target = target i; woken = woke i })
    ∙ (λ i. over (with_all (still.1 i) (still.0 i)) g)

-- the queue without those that wait for the pages, and then the call
abbrev pub dropped : PagerPart → TargetPart → PagerPart
dropped b t = record b { waiting = without_all t.unsettled b.waiting }

pub next_fault_over : (b : PagerPart) (t : TargetPart) → next_fault b t ≡ over (with_all t.unsettled b.settled) (faults_by b.released t.misses (dropped b t) t)
next_fault_over b t =
    ap (λ (a : PagerPart). faults_by b.released t.misses a (with_settled t)) (settles_is t.unsettled b)
    ∙ faults_by_over b.released t.misses (dropped b t) t (with_all t.unsettled b.settled)

pub deliver_over : (b : PagerPart) (t : TargetPart) → deliver b t ≡ over (with_all t.unsettled b.settled) (delivers_by b.released (dropped b t) t)
deliver_over b t =
    ap (λ (a : PagerPart). delivers_by b.released a (with_settled t)) (settles_is t.unsettled b)
    ∙ delivers_over b.released (dropped b t) t (with_all t.unsettled b.settled)

-- which logs a delivery lengthens, the waiters make no difference to
brought_logs : (runs r : Bool) (xs : List Incoming) (b : PagerPart) (t : TargetPart) (left : List Waiting) → AreAsLong (brought runs r xs (record b { waiting = left }) t) (brought runs r xs b t)
brought_logs true r [] b t left = (refl, refl)
brought_logs true true (x ∷ rest) b t left = (refl, refl)
brought_logs true false (x ∷ rest) b t left = (refl, refl)
brought_logs false r [] b t left = (refl, refl)
brought_logs false r (x ∷ rest) b t left = (refl, refl)

delivers_logs : (o : Option (List ℕ)) (b : PagerPart) (t : TargetPart) (left : List Waiting) → AreAsLong (delivers_by o (record b { waiting = left }) t) (delivers_by o b t)
delivers_logs None b t left = (refl, refl)
delivers_logs (Some released) b t left =
    let one = delivers_brought released (record b { waiting = left }) t b.inbox refl in
    let other = delivers_brought released b t b.inbox refl in
    let same = brought_logs t.is_resumed (first_is b.inbox t) b.inbox b t left in
    (ap (λ (g : Paged). length g.pager.log) one ∙ same.0 ∙ sym (ap (λ (g : Paged). length g.pager.log) other), ap (λ (g : Paged). length g.target.log) one ∙ same.1 ∙ sym (ap (λ (g : Paged). length g.target.log) other))

-- the logs are as long as if no page were settled
pub deliver_logs : (b : PagerPart) (t : TargetPart) → AreAsLong (deliver b t) (delivers_by b.released b t)
deliver_logs b t =
    let same = delivers_logs b.released b t (without_all t.unsettled b.waiting) in
    (ap (λ (g : Paged). length g.pager.log) (deliver_over b t) ∙ same.0, ap (λ (g : Paged). length g.target.log) (deliver_over b t) ∙ same.1)

-- where no page is to be settled
pub next_fault_plain : (b : PagerPart) (t : TargetPart) → t.unsettled ≡ [] → next_fault b t ≡ faults_by b.released t.misses b t
next_fault_plain b t e =
    ap (λ ps. faults_by b.released t.misses (settles ps b) (with_settled t)) e
    ∙ ap (λ ps. faults_by b.released t.misses b (record t { unsettled = ps })) (sym e)

pub deliver_plain : (b : PagerPart) (t : TargetPart) → t.unsettled ≡ [] → deliver b t ≡ delivers_by b.released b t
deliver_plain b t e =
    ap (λ ps. delivers_by b.released (settles ps b) (with_settled t)) e
    ∙ ap (λ ps. delivers_by b.released b (record t { unsettled = ps })) (sym e)

-- both calls, from what their parts give
pub next_fault_parts : (b : PagerPart) (t : TargetPart) (mid after : PagerPart) (there last : TargetPart) → record { pager = mid; target = there; woken = [] } ≡ faults_by b.released t.misses (dropped b t) t → after ≡ record mid { settled = with_all there.unsettled mid.settled } → last ≡ with_settled there → record { pager = after; target = last; woken = [] } ≡ next_fault b t
next_fault_parts b t mid after there last is pager target =
    let g : Paged = record { pager = mid; target = there; woken = [] } in
    settled_after b t g after last [] (subst (Unsettled b t) (sym is) (faults_by_still b.released t.misses (dropped b t) t)) pager target refl
    ∙ ap (over (with_all t.unsettled b.settled)) is
    ∙ sym (next_fault_over b t)

pub deliver_parts : (b : PagerPart) (t : TargetPart) (mid after : PagerPart) (there last : TargetPart) (woken : List ℕ) → record { pager = mid; target = there; woken = woken } ≡ delivers_by b.released (dropped b t) t → after ≡ record mid { settled = with_all there.unsettled mid.settled } → last ≡ with_settled there → record { pager = after; target = last; woken = woken } ≡ deliver b t
deliver_parts b t mid after there last woken is pager target =
    let g : Paged = record { pager = mid; target = there; woken = woken } in
    settled_after b t g after last woken (subst (Unsettled b t) (sym is) (delivers_still b.released (dropped b t) t)) pager target refl
    ∙ ap (over (with_all t.unsettled b.settled)) is
    ∙ sym (deliver_over b t)

-- the book, with pages that are settled
pub settled_part : (v w : PagerLists) (s : Values Bool) (ps qs : List ℕ) → v ≡ w → values s ≡ with_all ps (values v.settled) → ps ≡ qs → part_of (record v { settled = s }) ≡ record (part_of w) { settled = with_all qs (part_of w).settled }
settled_part v w s ps qs e are same =
    ap (λ (at : Pages). record (part_of v) { settled = at }) are
    ∙ ap (λ (xs : List ℕ). record (part_of v) { settled = with_all xs (values v.settled) }) same
    ∙ ap (λ (u : PagerLists). record (part_of u) { settled = with_all qs (values u.settled) }) e

-- what the book keeps
each_without : (P : Waiting → Type 0) (ps : List ℕ) (xs : List Waiting) → AllByRecursion P xs → AllByRecursion P (without_all ps xs)
each_without P [] xs all = all
each_without P (p ∷ ps) xs all = each_without P ps (without p xs) (each_filtered P _ xs all)

pub kept_dropped : (ps : List ℕ) (b : PagerPart) → IsKept b → IsKept (record b { waiting = without_all ps b.waiting })
kept_dropped ps b k = kept_waiting (without_all ps b.waiting) b (each_without (IsWanted b.geometry b.wants) ps b.waiting k.tied.waiting) k

pub sound_settled : {b : PagerLists} {marks : Values Bool} {bound : ℕ} (ps : List ℕ) (settled : Values Bool) → IsSound b marks bound → pages_of settled ≡ pages_of b.settled → values settled ≡ with_all ps (values b.settled) → IsSound (record b { settled = settled }) marks bound
sound_settled {b} {marks} {bound} ps settled s pages are = record {
  kept = record { few = s.kept.few; begun = s.kept.begun; last = s.kept.last; tied = record { inbox = s.kept.tied.inbox; outbox = s.kept.tied.outbox; wants = s.kept.tied.wants; waiting = s.kept.tied.waiting; placed = s.kept.tied.placed } };
  placed_pages = s.placed_pages;
  settled_pages = pages ∙ s.settled_pages;
  wants_pages = s.wants_pages;
  marked_pages = s.marked_pages;
  marked = s.marked;
  in_range = s.in_range;
  passed = λ p lt. ap (λ (at : ℕ → Bool). is_released b.released p || (values b.placed p || at p)) are ∙ more (is_released b.released p) (values b.placed p) (is_listed p ps) (values b.settled p) (s.passed p lt);
}
  where
    more : (r a l x : Bool) → (r || (a || x)) ≡ true → (r || (a || (l || x))) ≡ true
    more true a l x e = refl
    more false true l x e = refl
    more false false true x e = refl
    more false false false x e = e

-- the queue as it was before
pub kept_restored : (now mid was : PagerLists) (waiting left : List Waiting) → now ≡ mid → mid ≡ record was { waiting = left } → waiting ≡ was.waiting → IsKept (part_of was) → IsKept (part_of (record now { waiting = waiting }))
kept_restored now mid was waiting left e dropped same k =
    let back : record now { waiting = waiting } ≡ was = ap (λ (v : PagerLists). record v { waiting = waiting }) (e ∙ dropped) ∙ ap (λ (w : List Waiting). record was { waiting = w }) same in
    subst (λ (v : PagerLists). IsKept (part_of v)) (sym back) k
