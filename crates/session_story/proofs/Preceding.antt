-- Orders in which one record stands before another.
use Rattle.std.proofs.Common.{◌≡◌, ℕ, suc, ◌<◌, ◌≤◌, ◌⊎◌, inl, inr, Bool, not, List, [], ◌∷◌, ◌++◌, Option, Some, None, refl, sym, ap, ◌∙◌, subst, arith}
use Rattle.std.specs.Prelude.{Contains, slice_get}
use Rattle.std.specs.List.{filter}
use Rattle.std.proofs.lemmas.Bool.{cases_lt, ltb-true, lt-ltb, le-ltb}
use Rattle.std.proofs.lemmas.List.Elements.{Contains-append_left, Contains-append_right}
use Rattle.migration_types.specs.declared.records.LogName.{LogName}
use Rattle.migration_types.specs.declared.records.LogName.TheVariants.{Guest, Source, Link, Lane, Pager}
use Rattle.migration_types.specs.declared.records.GuestRec.{GuestRec}
use Rattle.migration_types.specs.declared.records.GuestRec.TheVariants.{Read, Write, Release, Miss, Halt, Resume, See}
use Rattle.migration_types.specs.Sessions.{Recorded}
use Rattle.migration_types.specs.Receipts.{Name, guest_receipt}
use Rattle.audit_model.specs.Names.{log_length, receipt, if_there}
use Rattle.audit_model.specs.Mergings.{IsMerging, StandsAfter, Cursors, at_start}
use Rattle.audit_model.specs.Shape.{IsRightShape}
use Rattle.audit_model.specs.Delayed.{is_below, rearranged}
use Rattle.audit_model.specs.Walks.{next, cursors_from}
use Rattle.audit_model.specs.Worlds.{IsConsistentCut}
use Rattle.audit_model.proofs.Consistent.{next_is_cut}
use Rattle.audit_model.proofs.Cuts.{merging_walks, taken_before}
use Rattle.audit_model.proofs.Walked.{contains_here, contains_there, contains_place, passed, walk_at}
use Rattle.audit_model.proofs.Orders.{is_at}
use Rattle.audit_model.proofs.Late.{stands_somewhere}
use Rattle.audit_model.proofs.Rearranged.{rearranged_merges, append_stands, filter_stands, contains_filter}

-- in this order the first of these records stands before the second
abbrev pub Precedes : List Name → Name → Name → Type 0
Precedes order x y = (past : List Name) → StandsAfter order past y → Contains past x

-- two places of one record
two_places : (x : Name) (p1 r1 p2 r2 : List Name) → p1 ++ x ∷ r1 ≡ p2 ++ x ∷ r2 → (p1 ≡ p2) ⊎ (Contains p1 x ⊎ Contains p2 x)
two_places x [] r1 [] r2 e = inl refl
two_places x [] r1 (b ∷ p2) r2 e = let same : b ≡ x = cc in inr (inr (subst (λ z. Contains (z ∷ p2) x) (sym same) (contains_here x p2)))
two_places x (a ∷ p1) r1 [] r2 e = let same : a ≡ x = cc in inr (inl (subst (λ z. Contains (z ∷ p1) x) (sym same) (contains_here x p1)))
two_places x (a ∷ p1) r1 (b ∷ p2) r2 e = go (two_places x p1 r1 p2 r2 (cc))
  where
    same : a ≡ b
    same = cc

    go : (p1 ≡ p2) ⊎ (Contains p1 x ⊎ Contains p2 x) → (a ∷ p1 ≡ b ∷ p2) ⊎ (Contains (a ∷ p1) x ⊎ Contains (b ∷ p2) x)
    go (inl f) = inl (cc)
    go (inr (inl h)) = inr (inl (contains_there a x p1 h))
    go (inr (inr h)) = inr (inr (contains_there b x p2 h))

-- of two records one stands before the other
pub which_first : (x y : Name) (p1 r1 p2 r2 : List Name) → p1 ++ x ∷ r1 ≡ p2 ++ y ∷ r2 → (x ≡ y) ⊎ (Contains p1 y ⊎ Contains p2 x)
which_first x y [] r1 [] r2 e = inl (cc)
which_first x y [] r1 (b ∷ p2) r2 e = let same : b ≡ x = cc in inr (inr (subst (λ z. Contains (z ∷ p2) x) (sym same) (contains_here x p2)))
which_first x y (a ∷ p1) r1 [] r2 e = let same : a ≡ y = cc in inr (inl (subst (λ z. Contains (z ∷ p1) y) (sym same) (contains_here y p1)))
which_first x y (a ∷ p1) r1 (b ∷ p2) r2 e = go (which_first x y p1 r1 p2 r2 (cc))
  where
    go : (x ≡ y) ⊎ (Contains p1 y ⊎ Contains p2 x) → (x ≡ y) ⊎ (Contains (a ∷ p1) y ⊎ Contains (b ∷ p2) x)
    go (inl f) = inl f
    go (inr (inl h)) = inr (inl (contains_there a y p1 h))
    go (inr (inr h)) = inr (inr (contains_there b x p2 h))

module _ (s : Recorded) (order : List Name) (merging : IsMerging s order) where
  -- no record stands before itself
  pub not_before_itself : (past : List Name) (x : Name) → StandsAfter order past x → Contains past x → ⊥
  not_before_itself past x stands h =
      let taken = taken_before s order merging past x stands x.0 x.1 h in
      let at = (walk_at s at_start order past x (merging_walks s order merging) stands).1 in
      absurd (omega (arith, taken, at.is_next))

  one_place : (x : Name) (p1 p2 : List Name) → StandsAfter order p1 x → StandsAfter order p2 x → p1 ≡ p2
  one_place x p1 p2 one two = go (two_places x p1 one.0 p2 two.0 (sym one.1 ∙ two.1))
    where
      go : (p1 ≡ p2) ⊎ (Contains p1 x ⊎ Contains p2 x) → p1 ≡ p2
      go (inl e) = e
      go (inr (inl h)) = absurd (not_before_itself p1 x one h)
      go (inr (inr h)) = absurd (not_before_itself p2 x two h)

  pub precedes_by : (x y : Name) (past : List Name) → StandsAfter order past y → Contains past x → Precedes order x y
  precedes_by x y past stands h other also = subst (λ xs. Contains xs x) (one_place y past other stands also) h

  pub in_order : (x : Name) → x.1 < log_length s x.0 → Contains order x
  in_order x there = contains_place order x.0 x.1 0 (log_length s x.0) (merging.each_once_in_order x.0) (omega arith) (omega (arith, there))

module _ (cut : Cursors) (order : List Name) where
  abbrev low : List Name
  low = filter (is_below cut) order

  abbrev is_above : Name → Bool
  is_above name = not (is_below cut name)

  -- what stands before a record above the cut
  record IsHigh (past : List Name) (y : Name) : Type 0 where
    kept : List Name
    before : List Name
    is : past ≡ low ++ kept
    stands : StandsAfter order before y
    kept_is : kept ≡ filter is_above before

  high_past : (past : List Name) (y : Name) → StandsAfter (rearranged cut order) past y → cut y.0 ≤ y.1 → IsHigh past y
  high_past past y stands high = go (append_stands low (filter is_above order) past y stands.0 stands.1)
    where
      go : ((k : List Name) × (low ≡ past ++ y ∷ k)) ⊎ ((k : List Name) × (past ≡ low ++ k) × (filter is_above order ≡ k ++ y ∷ stands.0)) → IsHigh past y
      go (inl a) =
          let f = filter_stands (is_below cut) order past y a.0 a.1 in
          absurd (omega (arith, ltb-true y.1 (cut y.0) f.3, high))
      go (inr b) =
          let f = filter_stands is_above order b.0 y stands.0 b.2 in
          record { kept = b.0; before = f.0; is = b.1; stands = f.1; kept_is = f.2 }

  -- a record below the cut stands before one above it
  low_first : (x y : Name) → Contains order x → x.1 < cut x.0 → cut y.0 ≤ y.1 → Precedes (rearranged cut order) x y
  low_first x y there below high past stands =
      let h = high_past past y stands high in
      subst (λ xs. Contains xs x) (sym h.is) (Contains-append_left low h.kept x (contains_filter (is_below cut) order x there (lt-ltb x.1 (cut x.0) below)))

  -- records above the cut keep their order
  kept_order : (x y : Name) → cut x.0 ≤ x.1 → cut y.0 ≤ y.1 → Precedes order x y → Precedes (rearranged cut order) x y
  kept_order x y above high precedes past stands =
      let h = high_past past y stands high in
      let c = contains_filter is_above h.before x (precedes h.before h.stands) (ap not (le-ltb x.1 (cut x.0) above)) in
      subst (λ xs. Contains xs x) (sym h.is) (Contains-append_right low h.kept x (subst (λ xs. Contains xs x) (sym h.kept_is) c))

-- cursors with another one for the guest
abbrev with_guest : Cursors → ℕ → Cursors
with_guest c n Guest = n
with_guest c n Source = c Source
with_guest c n Link = c Link
with_guest c n Lane = c Lane
with_guest c n Pager = c Pager

raised : (c : Cursors) (n : ℕ) (l : LogName) (k : ℕ) → c Guest ≤ n → k < c l → k < with_guest c n l
raised c n Guest k le lt = omega arith
raised c n Source k le lt = lt
raised c n Link k le lt = lt
raised c n Lane k le lt = lt
raised c n Pager k le lt = lt

-- the guest receives from the pager alone
pub from_pager : (s : Recorded) (m : ℕ) (sent : Name) → receipt s (Guest, m) ≡ Some sent → sent.0 ≡ Pager
from_pager s m sent e = go (slice_get s.guest m) e
  where
    go : (o : Option GuestRec) → if_there guest_receipt o ≡ Some sent → sent.0 ≡ Pager
    go None e = absurd (cc)
    go (Some (Resume k)) e = sym (ap (λ (x : Option Name). elim x [ None ↦ Pager | Some z ↦ z.0 ]) e)
    go (Some (See k)) e = sym (ap (λ (x : Option Name). elim x [ None ↦ Pager | Some z ↦ z.0 ]) e)
    go (Some (Read v p c x)) e = absurd (cc)
    go (Some (Write v p c x)) e = absurd (cc)
    go (Some (Release v p)) e = absurd (cc)
    go (Some (Miss v p)) e = absurd (cc)
    go (Some Halt) e = absurd (cc)

module _ (s : Recorded) (shape : IsRightShape s) (order : List Name) (merging : IsMerging s order) where
  -- ---- a record of the guest before one of the pager
  module _ (g p : ℕ) (g_there : g < log_length s Guest) (p_there : p < log_length s Pager) where
    -- these stay in their order
    abbrev pub IsLater : Name → Type 0
    IsLater (Guest, m) = g < m
    IsLater (Source, m) = ⊥
    IsLater (Link, m) = ⊥
    IsLater (Lane, m) = ⊥
    IsLater (Pager, m) = p ≤ m

    pub record IsAhead (new : List Name) : Type 0 where
      pub merges : IsMerging s new
      pub is_before : Precedes new (Guest, g) (Pager, p)
      pub keeps : (x y : Name) → IsLater x → IsLater y → Precedes order x y → Precedes new x y

    pub ahead : ((m : ℕ) (sent : Name) → m ≤ g → receipt s (Guest, m) ≡ Some sent → sent.1 < p) → (new : List Name) × IsAhead new
    ahead free = go (cases_lt g (c Guest))
      where
        at : (past : List Name) × StandsAfter order past (Pager, p)
        at = stands_somewhere s order merging (Pager, p) p_there

        c : Cursors
        c = cursors_from at_start at.0

        is_cut : IsConsistentCut s c
        is_cut = (is_at s shape order merging at.0 (Pager, p) at.1).0.cut

        is_next : p ≡ c Pager
        is_next = (is_at s shape order merging at.0 (Pager, p) at.1).1.is_next

        go : (g < c Guest) ⊎ (c Guest ≤ g) → (new : List Name) × IsAhead new
        go (inl lt) =
            let walks = (walk_at s at_start order at.0 (Pager, p) (merging_walks s order merging) at.1).0 in (
              order,
              record {
                merges = merging;
                is_before = precedes_by s order merging (Guest, g) (Pager, p) at.0 at.1 (passed s at.0 (Guest, g) walks lt);
                keeps = λ x y _ _ precedes. precedes;
              },
            )
        go (inr ge) = (
          rearranged cut order,
          record {
            merges = rearranged_merges s cut closed order merging;
            is_before = low_first cut order (Guest, g) (Pager, p) (in_order s order merging (Guest, g) g_there) (omega arith) (omega (arith, is_next));
            keeps = λ x y late later precedes. kept_order cut order x y (above x late) (above y later) precedes;
          },
        )
          where
            cut : Cursors
            cut = with_guest c (suc g)

            above : (x : Name) → IsLater x → cut x.0 ≤ x.1
            above (Guest, m) lt = omega (arith, lt)
            above (Source, m) none = absurd none
            above (Link, m) none = absurd none
            above (Lane, m) none = absurd none
            above (Pager, m) le = omega (arith, le, is_next)

            by_guest : (m : ℕ) (sent : Name) → m < suc g → receipt s (Guest, m) ≡ Some sent → sent.1 < cut sent.0
            by_guest m sent lt e =
                let less : sent.1 < p = free m sent (omega (arith, lt)) e in
                subst (λ l. sent.1 < cut l) (sym (from_pager s m sent e)) (omega (arith, less, is_next))

            other : (name sent : Name) → name.1 < c name.0 → receipt s name ≡ Some sent → sent.1 < cut sent.0
            other name sent lt e = raised c (suc g) sent.0 sent.1 (omega (arith, ge)) (is_cut.sent_taken name sent lt e)

            closed : (name sent : Name) → name.1 < cut name.0 → receipt s name ≡ Some sent → sent.1 < cut sent.0
            closed (Guest, m) sent lt e = by_guest m sent lt e
            closed (Source, m) sent lt e = other (Source, m) sent lt e
            closed (Link, m) sent lt e = other (Link, m) sent lt e
            closed (Lane, m) sent lt e = other (Lane, m) sent lt e
            closed (Pager, m) sent lt e = other (Pager, m) sent lt e

  -- ---- a record of the pager before one of the guest
  module _ (q n : ℕ) (q_there : q < log_length s Pager) (n_there : n < log_length s Guest) where
    abbrev pub IsBehind : Name → Type 0
    IsBehind (Guest, m) = n ≤ m
    IsBehind (Source, m) = ⊥
    IsBehind (Link, m) = ⊥
    IsBehind (Lane, m) = ⊥
    IsBehind (Pager, m) = q < m

    pub record IsBefore (new : List Name) : Type 0 where
      pub merges : IsMerging s new
      pub is_before : Precedes new (Pager, q) (Guest, n)
      pub keeps : (x y : Name) → IsBehind x → IsBehind y → Precedes order x y → Precedes new x y

    pub before : ((name : Name) (g : ℕ) → receipt s name ≡ Some (Guest, g) → (name.0 ≡ Pager → name.1 ≤ q) → g < n) → (new : List Name) × IsBefore new
    before known = go (which_first (Pager, q) (Guest, n) at.0 at.1.0 seen.0 seen.1.0 (sym at.1.1 ∙ seen.1.1))
      where
        at : (past : List Name) × StandsAfter order past (Pager, q)
        at = stands_somewhere s order merging (Pager, q) q_there

        seen : (past : List Name) × StandsAfter order past (Guest, n)
        seen = stands_somewhere s order merging (Guest, n) n_there

        c : Cursors
        c = next (cursors_from at_start at.0) Pager

        is_cut : IsConsistentCut s c
        is_cut =
            let here = is_at s shape order merging at.0 (Pager, q) at.1 in
            next_is_cut s (cursors_from at_start at.0) (Pager, q) here.0.cut here.1

        is_next : suc q ≡ c Pager
        is_next = ap suc (is_at s shape order merging at.0 (Pager, q) at.1).1.is_next

        go : (◌≡◌ {A = Name} (Pager, q) (Guest, n)) ⊎ (Contains at.0 (Guest, n) ⊎ Contains seen.0 (Pager, q)) → (new : List Name) × IsBefore new
        go (inl same) = absurd (let e : Pager ≡ Guest = ap (λ (z : Name). z.0) same in cc)
        go (inr (inr h)) = (
          order,
          record {
            merges = merging;
            is_before = precedes_by s order merging (Pager, q) (Guest, n) seen.0 seen.1 h;
            keeps = λ x y _ _ precedes. precedes;
          },
        )
        go (inr (inl h)) = (
          rearranged cut order,
          record {
            merges = rearranged_merges s cut closed order merging;
            is_before = low_first cut order (Pager, q) (Guest, n) (in_order s order merging (Pager, q) q_there) (omega (arith, is_next)) (omega arith);
            keeps = λ x y late later precedes. kept_order cut order x y (above x late) (above y later) precedes;
          },
        )
          where
            n_taken : n < cursors_from at_start at.0 Guest
            n_taken = taken_before s order merging at.0 (Pager, q) at.1 Guest n h

            cut : Cursors
            cut = with_guest c n

            above : (x : Name) → IsBehind x → cut x.0 ≤ x.1
            above (Guest, m) le = le
            above (Source, m) none = absurd none
            above (Link, m) none = absurd none
            above (Lane, m) none = absurd none
            above (Pager, m) lt = omega (arith, lt, is_next)

            by_guest : (m : ℕ) (sent : Name) → m < n → receipt s (Guest, m) ≡ Some sent → sent.1 < cut sent.0
            by_guest m sent lt e =
                let log = from_pager s m sent e in
                let below : sent.1 < c sent.0 = is_cut.sent_taken (Guest, m) sent (omega (arith, lt, n_taken)) e in
                subst (λ l. sent.1 < cut l) (sym log) (subst (λ l. sent.1 < c l) log below)

            to : (name sent : Name) → receipt s name ≡ Some sent → (name.0 ≡ Pager → name.1 ≤ q) → sent.1 < c sent.0 → sent.1 < cut sent.0
            to name (Guest, g) e of below = known name g e of
            to name (Source, g) e of below = below
            to name (Link, g) e of below = below
            to name (Lane, g) e of below = below
            to name (Pager, g) e of below = below

            closed : (name sent : Name) → name.1 < cut name.0 → receipt s name ≡ Some sent → sent.1 < cut sent.0
            closed (Guest, m) sent lt e = by_guest m sent lt e
            closed (Source, m) sent lt e = to (Source, m) sent e (λ same. absurd (cc)) (is_cut.sent_taken (Source, m) sent lt e)
            closed (Link, m) sent lt e = to (Link, m) sent e (λ same. absurd (cc)) (is_cut.sent_taken (Link, m) sent lt e)
            closed (Lane, m) sent lt e = to (Lane, m) sent e (λ same. absurd (cc)) (is_cut.sent_taken (Lane, m) sent lt e)
            closed (Pager, m) sent lt e = to (Pager, m) sent e (λ same. omega (arith, lt, is_next)) (is_cut.sent_taken (Pager, m) sent lt e)
