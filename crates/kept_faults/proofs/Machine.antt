-- The guest's place, the flat machine and the ledger, with thinned logs.
use Rattle.std.proofs.Common.{◌≡◌, ℕ, zero, suc, ◌<◌, ◌≤◌, ◌⊎◌, inl, inr, ◌==◌, ◌&&◌, ◌||◌, Bool, true, false, cond, List, [], ◌∷◌, length, map, Option, Some, None, refl, sym, ap, ◌∙◌, subst, arith, eqb-true, eq-eqb}
use Rattle.std.specs.Prelude.{slice_get, is_some}
use Rattle.std.specs.List.{range_with_len}
use Rattle.std.proofs.lemmas.Option.{slice_get_within}
use Rattle.std.proofs.lemmas.Bool.{and_parts, and_from, cases_lt}
use Rattle.migration_types.specs.declared.records.GuestRec.{GuestRec}
use Rattle.migration_types.specs.declared.records.GuestRec.TheVariants.{Read, Write, Release, Miss, Halt, Resume, See}
use Rattle.migration_types.specs.declared.records.PagerRec.{PagerRec}
use Rattle.migration_types.specs.declared.records.PagerRec.TheVariants.{Got, Pull, Ready, Fault, Join, Want, Place, Zero, Skip, All}
use Rattle.migration_types.specs.Memory.{initial, page_of}
use Rattle.migration_types.specs.Sessions.{Recorded}
use Rattle.audit_model.specs.declared.home.Home.TheVariants.{AtSource}
use Rattle.audit_model.specs.Flat.{changed, cell_after, released_after, flat, in_ledger, home_after, home, freed_after, freed, halt_place, at_halt}
use Rattle.audit_model.specs.Shape.{is_halt, is_placement_of, earlier}
use Rattle.audit_model.specs.Faults.{looks_at, has_looked}
use Rattle.audit_model.specs.Windows.{kept_in, tallied, rank}
use Rattle.audit_model.proofs.Ranks.{Aligned, rank_cons, kept_at}
use Rattle.kept_faults.specs.Thinned.{thin_pager, thinned, decides, shows, MayGo, IsRepeated, IsOverwritten, IsUnseen, IsMisread, IsThinning}
use Rattle.kept_faults.proofs.Settled.{IsSettled, agrees_at, agrees_behind}
use Rattle.kept_faults.proofs.Kept.{fold_thin, earlier_map, gone_home, gone_freed, gone_look, aligned, must_stay}

-- where the first halt stands, which is kept
halt_place_thin : (marks : List Bool) (log : List GuestRec) → Aligned marks log → ((n : ℕ) → slice_get log n ≡ Some Halt → slice_get marks n ≡ Some true) → halt_place (kept_in marks log) ≡ rank marks (halt_place log)
halt_place_thin [] [] aligned kept = refl
halt_place_thin [] (x ∷ log) aligned kept = let e = aligned 0 in absurd (cc)
halt_place_thin (m ∷ marks) [] aligned kept = refl
halt_place_thin (m ∷ marks) (x ∷ log) aligned kept = at x m (kept 0) (halt_place_thin marks log (λ n. aligned (suc n)) (λ n. kept (suc n)))
  where
    past : (x : GuestRec) → ((rest : List GuestRec) → halt_place (x ∷ rest) ≡ suc (halt_place rest)) → (m : Bool) →
        halt_place (kept_in marks log) ≡ rank marks (halt_place log) → halt_place (kept_in (m ∷ marks) (x ∷ log)) ≡ rank (m ∷ marks) (suc (halt_place log))
    past x one true e = one (kept_in marks log) ∙ ap suc e ∙ sym (rank_cons true marks (halt_place log))
    past x one false e = e ∙ sym (rank_cons false marks (halt_place log))

    at : (x : GuestRec) (m : Bool) → (Some x ≡ Some Halt → Some m ≡ Some true) →
        halt_place (kept_in marks log) ≡ rank marks (halt_place log) → halt_place (kept_in (m ∷ marks) (x ∷ log)) ≡ rank (m ∷ marks) (halt_place (x ∷ log))
    at Halt true kept e = refl
    at Halt false kept e = let f = kept refl in absurd (cc)
    at (Read v p c y) m kept e = past (Read v p c y) (λ rest. refl) m e
    at (Write v p c y) m kept e = past (Write v p c y) (λ rest. refl) m e
    at (Release v p) m kept e = past (Release v p) (λ rest. refl) m e
    at (Miss v p) m kept e = past (Miss v p) (λ rest. refl) m e
    at (Resume i) m kept e = past (Resume i) (λ rest. refl) m e
    at (See i) m kept e = past (See i) (λ rest. refl) m e

-- at the first halt there is a halt, or the log has ended
halt_or_end : (log : List GuestRec) → (slice_get log (halt_place log) ≡ Some Halt) ⊎ (length log ≤ halt_place log)
halt_or_end [] = inr (omega arith)
halt_or_end (x ∷ log) = at x (halt_or_end log)
  where
    past : (x : GuestRec) → (slice_get log (halt_place log) ≡ Some Halt) ⊎ (length log ≤ halt_place log) → (slice_get (x ∷ log) (suc (halt_place log)) ≡ Some Halt) ⊎ (suc (length log) ≤ suc (halt_place log))
    past x (inl e) = inl e
    past x (inr le) = inr (omega (arith, le))

    at : (x : GuestRec) → (slice_get log (halt_place log) ≡ Some Halt) ⊎ (length log ≤ halt_place log) → (slice_get (x ∷ log) (halt_place (x ∷ log)) ≡ Some Halt) ⊎ (suc (length log) ≤ halt_place (x ∷ log))
    at Halt h = inl refl
    at (Read v p c y) h = past (Read v p c y) h
    at (Write v p c y) h = past (Write v p c y) h
    at (Release v p) h = past (Release v p) h
    at (Miss v p) h = past (Miss v p) h
    at (Resume i) h = past (Resume i) h
    at (See i) h = past (See i) h

-- what decides a cell and its page's ledger
decides_cell : (page cell : ℕ) (x : GuestRec) → decides page cell x ≡ true → (v w : ℕ) → cell_after page cell x v ≡ cell_after page cell x w
decides_cell page cell (Write c p d y) e v w = ap (λ b. cond b y v) e ∙ sym (ap (λ b. cond b y w) e)
decides_cell page cell (Release c p) e v w = ap (λ b. cond b 0 v) e ∙ sym (ap (λ b. cond b 0 w) e)
decides_cell page cell x e v w = absurd (cc)

decides_ledger : (page cell : ℕ) (x : GuestRec) → decides page cell x ≡ true → (v w : Bool) → released_after page x v ≡ released_after page x w
decides_ledger page cell (Write c p d y) e v w = let f = (and_parts (p == page) (d == cell) e).0 in ap (λ b. cond b false v) f ∙ sym (ap (λ b. cond b false w) f)
decides_ledger page cell (Release c p) e v w = ap (λ b. cond b true v) e ∙ sym (ap (λ b. cond b true w) e)
decides_ledger page cell x e v w = absurd (cc)

hides_cell : (page cell : ℕ) (x : GuestRec) → decides page cell x ≡ true → shows page cell x ≡ false
hides_cell page cell (Write c p d y) e = refl
hides_cell page cell (Release c p) e = refl
hides_cell page cell x e = absurd (cc)

no_halt : (page cell : ℕ) (x : GuestRec) → shows page cell x ≡ false → is_halt x ≡ false
no_halt page cell (Read v p c y) e = refl
no_halt page cell (Write v p c y) e = refl
no_halt page cell (Release v p) e = refl
no_halt page cell (Miss v p) e = refl
no_halt page cell Halt e = absurd (cc)
no_halt page cell (Resume i) e = refl
no_halt page cell (See i) e = refl

module _ (marks : List Bool) (s : Recorded) (n page cell : ℕ) (over : IsOverwritten marks s n page cell) where
  -- no record up to the one that overwrites shows the cell
  unseen_to : (k : ℕ) (r : GuestRec) → suc n ≤ k → k ≤ over.place → slice_get s.guest k ≡ Some r → shows page cell r ≡ false
  unseen_to k r le to is = go (cases_lt k over.place)
    where
      go : (k < over.place) ⊎ (over.place ≤ k) → shows page cell r ≡ false
      go (inl lt) = over.is_unseen k r (omega (arith, le)) lt is
      go (inr ge) =
          let e : k ≡ over.place = omega (arith, to, ge) in
          let f : Some over.by ≡ Some r = sym over.stands ∙ sym (ap (slice_get s.guest) e) ∙ is in
          let same : over.by ≡ r = cc in
          subst (λ x. shows page cell x ≡ false) same (hides_cell page cell over.by over.is_decided)

  cell_settled : IsSettled marks s.guest (cell_after page cell) (shows page cell) (suc n)
  cell_settled = record {
    place = over.place;
    by = over.by;
    is_later = omega (arith, over.is_later);
    stands = over.stands;
    is_kept = over.is_kept;
    decides = decides_cell page cell over.by over.is_decided;
    is_unseen = unseen_to;
  }

  ledger_settled : IsSettled marks s.guest (released_after page) is_halt (suc n)
  ledger_settled = record {
    place = over.place;
    by = over.by;
    is_later = omega (arith, over.is_later);
    stands = over.stands;
    is_kept = over.is_kept;
    decides = decides_ledger page cell over.by over.is_decided;
    is_unseen = λ k r le to is. no_halt page cell r (unseen_to k r le to is);
  }

-- a page misread before a place was misread before each later one, and before the log's end
pub misread_later : (s : Recorded) (m n page : ℕ) → m ≤ n → IsMisread s m page → IsMisread s n page
misread_later s m n page le bad = record {
  place = bad.place;
  vcpu = bad.vcpu;
  cell = bad.cell;
  value = bad.value;
  is_earlier = omega (arith, le, bad.is_earlier);
  stands = bad.stands;
  is_wrong = bad.is_wrong;
}

pub misread_at_all : (s : Recorded) (n page : ℕ) → IsMisread s n page → IsMisread s (length s.guest) page
misread_at_all s n page bad = record {
  place = bad.place;
  vcpu = bad.vcpu;
  cell = bad.cell;
  value = bad.value;
  is_earlier = slice_get_within s.guest bad.place (Read bad.vcpu page bad.cell bad.value) bad.stands;
  stands = bad.stands;
  is_wrong = bad.is_wrong;
}

module _ (marks : List Bool) (s : Recorded) (thin : IsThinning marks s) where
  pub same_home : (n : ℕ) → home (thinned marks s) (rank marks n) ≡ home s n
  same_home n = fold_thin marks s.guest home_after home_after AtSource (aligned marks s thin) (λ m x v is mark. refl) (λ m x v is mark. gone_home marks s m x v (thin.may_go m x is mark)) n

  pub same_freed : (n page : ℕ) → freed (thinned marks s) (rank marks n) page ≡ freed s n page
  same_freed zero page = refl
  same_freed (suc n) page = go (slice_get marks n) refl (slice_get s.guest n) refl (same_freed n page)
    where
      go : (m : Option Bool) → slice_get marks n ≡ m → (o : Option GuestRec) → slice_get s.guest n ≡ o →
          freed (thinned marks s) (rank marks n) page ≡ freed s n page →
          freed (thinned marks s) (tallied m (rank marks n)) page ≡ changed (freed_after (home s n) page) o (freed s n page)
      go None a None b e = e
      go None a (Some x) b e = let f : false ≡ true = sym (ap is_some a) ∙ aligned marks s thin n ∙ ap is_some b in absurd (cc)
      go (Some m) a None b e = let f : true ≡ false = sym (ap is_some a) ∙ aligned marks s thin n ∙ ap is_some b in absurd (cc)
      go (Some true) a (Some x) b e =
          ap (λ o. changed (freed_after (home (thinned marks s) (rank marks n)) page) o (freed (thinned marks s) (rank marks n) page)) (kept_at marks s.guest n x b a)
          ∙ ap (λ h. freed_after h page x (freed (thinned marks s) (rank marks n) page)) (same_home n)
          ∙ ap (freed_after (home s n) page x) e
      go (Some false) a (Some x) b e = e ∙ gone_freed marks s n (home s n) page x (freed s n page) (thin.may_go n x b a)

  -- the placements are the same
  pub same_placed : (page n : ℕ) → earlier (is_placement_of page) (thinned marks s).pager n ≡ earlier (is_placement_of page) s.pager n
  same_placed page n = earlier_map (thin_pager marks) (is_placement_of page) (is_placement_of page) same s.pager n
    where
      same : (x : PagerRec) → is_placement_of page (thin_pager marks x) ≡ is_placement_of page x
      same (Fault i) = refl
      same (Got i) = refl
      same (Pull i) = refl
      same Ready = refl
      same (Join i) = refl
      same (Want r) = refl
      same (Place r got content) = refl
      same (Zero r) = refl
      same (Skip i) = refl
      same All = refl

  same_look : (page : ℕ) (x : GuestRec) → looks_at (thinned marks s) page x ≡ looks_at s page x
  same_look page (See k) = same_placed page (suc k)
  same_look page (Read v p c y) = refl
  same_look page (Write v p c y) = refl
  same_look page (Release v p) = refl
  same_look page (Miss v p) = refl
  same_look page Halt = refl
  same_look page (Resume i) = refl

  pub same_looked : (page n : ℕ) → has_looked (thinned marks s) page (rank marks n) ≡ has_looked s page n
  same_looked page n =
      fold_thin marks s.guest (λ x found. looks_at s page x || found) (λ x found. looks_at (thinned marks s) page x || found) false (aligned marks s thin)
      (λ m x v is mark. ap (λ b. b || v) (same_look page x))
      (λ m x v is mark. sym (ap (λ b. b || v) (gone_look marks s m page x (thin.may_go m x is mark))))
      n

  -- from this place on, past the first halt, no record shows the cell
  record IsLost (page cell n : ℕ) : Type 0 where
    pub is_past : at_halt s < n
    pub is_hidden : (k : ℕ) (r : GuestRec) → n ≤ k → slice_get s.guest k ≡ Some r → shows page cell r ≡ false

  lost_later : (page cell n : ℕ) → IsLost page cell n → IsLost page cell (suc n)
  lost_later page cell n lost = record { is_past = omega (arith, lost.is_past); is_hidden = λ k r le. lost.is_hidden k r (omega (arith, le)) }

  lost_hides : (page cell n : ℕ) (x : GuestRec) → IsLost page cell n → slice_get s.guest n ≡ Some x → shows page cell x ≡ false
  lost_hides page cell n x lost is = lost.is_hidden n x (omega arith) is

  -- what a record that goes does to a cell
  gone_cell : (page cell bound : ℕ) → (IsMisread s bound page → ⊥) → (n : ℕ) (x : GuestRec) → n < bound → slice_get s.guest n ≡ Some x → slice_get marks n ≡ Some false → (flat s n page cell ≡ cell_after page cell x (flat s n page cell)) ⊎ (IsSettled marks s.guest (cell_after page cell) (shows page cell) (suc n) ⊎ IsLost page cell (suc n))
  gone_cell page cell bound free n x lt is mark = go x (thin.may_go n x is mark)
    where
      write : (p c y : ℕ) → IsRepeated s n p c y ⊎ (IsOverwritten marks s n p c ⊎ (IsUnseen s n p c ⊎ IsMisread s n p)) → (b : Bool) → ((p == page) && (c == cell)) ≡ b → (flat s n page cell ≡ cond b y (flat s n page cell)) ⊎ (IsSettled marks s.guest (cell_after page cell) (shows page cell) (suc n) ⊎ IsLost page cell (suc n))
      write p c y h false e = inl refl
      write p c y (inl repeated) true e =
          let both = and_parts (p == page) (c == cell) e in
          inl (sym (repeated.is_flat ∙ ap (λ q. flat s n q c) (eqb-true p page both.0) ∙ ap (flat s n page) (eqb-true c cell both.1)))
      write p c y (inr (inr (inl unseen))) true e =
          let both = and_parts (p == page) (c == cell) e in
          let here : IsUnseen s n page cell = subst (λ d. IsUnseen s n page d) (eqb-true c cell both.1) (subst (λ q. IsUnseen s n q c) (eqb-true p page both.0) unseen) in
          inr (inr (record { is_past = omega (arith, here.is_past); is_hidden = λ k r le. here.is_hidden k r (omega (arith, le)) }))
      write p c y (inr (inr (inr bad))) true e =
          let both = and_parts (p == page) (c == cell) e in
          absurd (free (misread_later s n bound page (omega (arith, lt)) (subst (λ q. IsMisread s n q) (eqb-true p page both.0) bad)))
      write p c y (inr (inl over)) true e =
          let both = and_parts (p == page) (c == cell) e in
          inr (inl (cell_settled marks s n page cell (subst (λ d. IsOverwritten marks s n page d) (eqb-true c cell both.1) (subst (λ q. IsOverwritten marks s n q c) (eqb-true p page both.0) over))))

      go : (x : GuestRec) → MayGo marks s n x → (flat s n page cell ≡ cell_after page cell x (flat s n page cell)) ⊎ (IsSettled marks s.guest (cell_after page cell) (shows page cell) (suc n) ⊎ IsLost page cell (suc n))
      go (Read v p c y) h = inl refl
      go (Write v p c y) h = write p c y h.1 ((p == page) && (c == cell)) refl
      go (Release v p) h = absurd h
      go (Miss v p) h = absurd h
      go Halt h = absurd h
      go (Resume i) h = absurd h
      go (See i) h = absurd h

  gone_ledger : (page bound : ℕ) → bound ≤ at_halt s → (IsMisread s bound page → ⊥) → (n : ℕ) (x : GuestRec) → n < bound → slice_get s.guest n ≡ Some x → slice_get marks n ≡ Some false → (in_ledger s n page ≡ released_after page x (in_ledger s n page)) ⊎ (IsSettled marks s.guest (released_after page) is_halt (suc n) ⊎ ⊥)
  gone_ledger page bound few free n x lt is mark = go x (thin.may_go n x is mark)
    where
      write : (p c y : ℕ) → IsRepeated s n p c y ⊎ (IsOverwritten marks s n p c ⊎ (IsUnseen s n p c ⊎ IsMisread s n p)) → (b : Bool) → (p == page) ≡ b → (in_ledger s n page ≡ cond b false (in_ledger s n page)) ⊎ (IsSettled marks s.guest (released_after page) is_halt (suc n) ⊎ ⊥)
      write p c y h false e = inl refl
      write p c y (inl repeated) true e = inl (ap (in_ledger s n) (sym (eqb-true p page e)) ∙ repeated.is_owed)
      write p c y (inr (inr (inl unseen))) true e = let past = unseen.is_past in absurd (omega (arith, lt, few, past))
      write p c y (inr (inr (inr bad))) true e = absurd (free (misread_later s n bound page (omega (arith, lt)) (subst (λ q. IsMisread s n q) (eqb-true p page e) bad)))
      write p c y (inr (inl over)) true e = inr (inl (ledger_settled marks s n page c (subst (λ q. IsOverwritten marks s n q c) (eqb-true p page e) over)))

      go : (x : GuestRec) → MayGo marks s n x → (in_ledger s n page ≡ released_after page x (in_ledger s n page)) ⊎ (IsSettled marks s.guest (released_after page) is_halt (suc n) ⊎ ⊥)
      go (Read v p c y) h = inl refl
      go (Write v p c y) h = write p c y h.1 (p == page) refl
      go (Release v p) h = absurd h
      go (Miss v p) h = absurd h
      go Halt h = absurd h
      go (Resume i) h = absurd h
      go (See i) h = absurd h

  -- a read finds the flat machine's cell as it was
  pub same_at_read : (n v page cell y : ℕ) → (IsMisread s n page → ⊥) → slice_get s.guest n ≡ Some (Read v page cell y) → flat (thinned marks s) (rank marks n) page cell ≡ flat s n page cell
  same_at_read n v page cell y free is =
      agrees_at marks s.guest (cell_after page cell) (shows page cell) (initial s.init page cell) (IsLost page cell) (lost_later page cell) (lost_hides page cell) (aligned marks s thin) n (gone_cell page cell n free) n (Read v page cell y) (omega arith) is
      (and_from (page == page) (cell == cell) (eq-eqb page page refl) (eq-eqb cell cell refl))

  pub same_halt : at_halt (thinned marks s) ≡ rank marks (at_halt s)
  same_halt = halt_place_thin marks s.guest (aligned marks s thin) (λ n is. must_stay marks s thin n Halt is (λ h. h))

  -- and so do the halt and the source's sends
  flat_at_halt : (page cell : ℕ) → (IsMisread s (length s.guest) page → ⊥) → flat (thinned marks s) (at_halt (thinned marks s)) page cell ≡ flat s (at_halt s) page cell
  flat_at_halt page cell free = ap (λ n. flat (thinned marks s) n page cell) same_halt ∙ go (halt_or_end s.guest)
    where
      go : (slice_get s.guest (halt_place s.guest) ≡ Some Halt) ⊎ (length s.guest ≤ halt_place s.guest) → flat (thinned marks s) (rank marks (at_halt s)) page cell ≡ flat s (at_halt s) page cell
      go (inl is) = agrees_at marks s.guest (cell_after page cell) (shows page cell) (initial s.init page cell) (IsLost page cell) (lost_later page cell) (lost_hides page cell) (aligned marks s thin) (at_halt s) (gone_cell page cell (at_halt s) (λ bad. free (misread_at_all s (at_halt s) page bad))) (at_halt s) Halt (omega arith) is refl
      go (inr le) = agrees_behind marks s.guest (cell_after page cell) (shows page cell) (initial s.init page cell) (IsLost page cell) (lost_later page cell) (lost_hides page cell) (aligned marks s thin) (at_halt s) (gone_cell page cell (at_halt s) (λ bad. free (misread_at_all s (at_halt s) page bad))) (at_halt s) (omega arith) le (λ lost. let past = lost.is_past in omega (arith, past))

  pub same_page_at_halt : (page : ℕ) → (IsMisread s (length s.guest) page → ⊥) → page_of s.geometry.cells (flat (thinned marks s) (at_halt (thinned marks s))) page ≡ page_of s.geometry.cells (flat s (at_halt s)) page
  same_page_at_halt page free =
      let same : flat (thinned marks s) (at_halt (thinned marks s)) page ≡ flat s (at_halt s) page = λ j d. flat_at_halt page d free j in
      ap (λ f. map f (range_with_len 0 s.geometry.cells)) same

  pub same_ledger_at_halt : (page : ℕ) → (IsMisread s (length s.guest) page → ⊥) → in_ledger (thinned marks s) (at_halt (thinned marks s)) page ≡ in_ledger s (at_halt s) page
  same_ledger_at_halt page free = ap (λ n. in_ledger (thinned marks s) n page) same_halt ∙ go (halt_or_end s.guest)
    where
      go : (slice_get s.guest (halt_place s.guest) ≡ Some Halt) ⊎ (length s.guest ≤ halt_place s.guest) → in_ledger (thinned marks s) (rank marks (at_halt s)) page ≡ in_ledger s (at_halt s) page
      go (inl is) = agrees_at marks s.guest (released_after page) is_halt false (λ n. ⊥) (λ n f. f) (λ n x f is. absurd f) (aligned marks s thin) (at_halt s) (gone_ledger page (at_halt s) (omega arith) (λ bad. free (misread_at_all s (at_halt s) page bad))) (at_halt s) Halt (omega arith) is refl
      go (inr le) = agrees_behind marks s.guest (released_after page) is_halt false (λ n. ⊥) (λ n f. f) (λ n x f is. absurd f) (aligned marks s thin) (at_halt s) (gone_ledger page (at_halt s) (omega arith) (λ bad. free (misread_at_all s (at_halt s) page bad))) (at_halt s) (omega arith) le (λ f. f)
