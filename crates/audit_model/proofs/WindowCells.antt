-- What a session's logs say of a page of a window, through the window.
use Rattle.std.proofs.Common.{◌≡◌, ℕ, zero, suc, ◌+◌, ◌==◌, ◌&&◌, Bool, true, false, cond, List, [], ◌∷◌, length, map, Option, Some, None, refl, sym, ap, ◌∙◌, arith, eqb-true, eq-eqb}
use Rattle.std.specs.Prelude.{slice_get, slice_index}
use Rattle.std.specs.List.{range_with_len}
use Rattle.migration_types.specs.declared.pages.InitPage.{InitPage}
use Rattle.migration_types.specs.declared.records.LogName.TheVariants.{Guest}
use Rattle.migration_types.specs.declared.records.GuestRec.{GuestRec}
use Rattle.migration_types.specs.declared.records.GuestRec.TheVariants.{Read, Write, Release, Miss, Halt, Resume, See}
use Rattle.migration_types.specs.Memory.{initial, page_of}
use Rattle.migration_types.specs.Sessions.{Recorded}
use Rattle.audit_model.specs.Flat.{before, cell_after, released_after, flat, in_ledger, halt_place, at_halt}
use Rattle.audit_model.specs.Shape.{passes}
use Rattle.audit_model.specs.Windows.{Numbers, IsNumbering, is_seen, new_page, kept_in, rank, keeps_guest, marks, moved_to, new_guest, keeps_init, new_init, window}
use Rattle.audit_model.proofs.Ranks.{rank_cons, Aligned, fold_kept}

-- the mark of a record of the guest
place_mark : {A : Type 0} (f : ℕ → Bool) (log : List A) (a n : ℕ) (x : A) → slice_get log n ≡ Some x → slice_get (map f (range_with_len a (length log))) n ≡ Some (f (a + n))
place_mark f [] a n x is = absurd (cc)
place_mark f (y ∷ log) a zero x is = let e : a ≡ a + 0 = omega arith in ap (λ k. Some (f k)) e
place_mark f (y ∷ log) a (suc n) x is = let e : a + 1 + n ≡ a + suc n = omega arith in place_mark f log (a + 1) n x is ∙ ap (λ k. Some (f k)) e

place_aligned : {A : Type 0} (f : ℕ → Bool) (log : List A) (a : ℕ) → Aligned (map f (range_with_len a (length log))) log
place_aligned f [] a n = refl
place_aligned f (x ∷ log) a zero = refl
place_aligned f (x ∷ log) a (suc n) = place_aligned f log (a + 1) n

pub guest_mark : (s : Recorded) (number : Numbers) (n : ℕ) (x : GuestRec) → slice_get s.guest n ≡ Some x → slice_get (marks s number Guest) n ≡ Some (keeps_guest s number n x)
guest_mark s number n x is =
    let e : 0 + n ≡ n = omega arith in
    let at = place_mark (λ k. passes (keeps_guest s number k) (slice_get s.guest k)) s.guest 0 n x is in
    at ∙ ap (λ k. Some (passes (keeps_guest s number k) (slice_get s.guest k))) e ∙ ap (λ o. Some (passes (keeps_guest s number n) o)) is

pub guest_aligned : (s : Recorded) (number : Numbers) → Aligned (marks s number Guest) s.guest
guest_aligned s number = place_aligned (λ k. passes (keeps_guest s number k) (slice_get s.guest k)) s.guest 0

pub guest_marked : (s : Recorded) (number : Numbers) (n : ℕ) (x : GuestRec) (b : Bool) → slice_get s.guest n ≡ Some x → slice_get (marks s number Guest) n ≡ Some b → keeps_guest s number n x ≡ b
guest_marked s number n x b is mark = let e : Some (keeps_guest s number n x) ≡ Some b = sym (guest_mark s number n x is) ∙ mark in cc

module _ (number : Numbers) (ours : IsNumbering number) (p q : ℕ) (at : number p ≡ Some q) where
  -- a page of the window is this one, where its number is
  pub same_page : (r : ℕ) → is_seen (number r) ≡ true → (new_page (number r) == q) ≡ (r == p)
  same_page r seen = go (number r) refl seen
    where
      both : (k : ℕ) → number r ≡ Some k → (a b : Bool) → (k == q) ≡ a → (r == p) ≡ b → (k == q) ≡ (r == p)
      both k is true true e f = e ∙ sym f
      both k is false false e f = e ∙ sym f
      both k is true false e f =
          let same : k ≡ q = eqb-true k q e in
          let one : r ≡ p = ours r p q (is ∙ ap Some same) at in
          absurd (let g = eq-eqb r p one in cc)
      both k is false true e f =
          let one : r ≡ p = eqb-true r p f in
          let g : Some k ≡ Some q = sym is ∙ ap number one ∙ at in
          let same : k ≡ q = cc in
          absurd (let h = eq-eqb k q same in cc)

      go : (o : Option ℕ) → number r ≡ o → is_seen o ≡ true → (new_page o == q) ≡ (r == p)
      go None is e = absurd (cc)
      go (Some k) is e = both k is (k == q) (r == p) refl refl

  -- and one outside is another
  pub other_page : (r : ℕ) → is_seen (number r) ≡ false → (r == p) ≡ false
  other_page r unseen = go (r == p) refl
    where
      go : (b : Bool) → (r == p) ≡ b → b ≡ false
      go false e = refl
      go true e = let f : is_seen (number r) ≡ true = ap (λ k. is_seen (number k)) (eqb-true r p e) ∙ ap is_seen at in absurd (cc)

  -- the page begins as it did
  pub same_start : (init : List InitPage) (cell : ℕ) → initial (map (new_init number) (kept_in (map (keeps_init number) init) init)) q cell ≡ initial init p cell
  same_start [] cell = refl
  same_start (given ∷ rest) cell = go (is_seen (number given.page)) refl (same_start rest cell)
    where
      go : (b : Bool) → is_seen (number given.page) ≡ b →
          initial (map (new_init number) (kept_in (map (keeps_init number) rest) rest)) q cell ≡ initial rest p cell →
          initial (map (new_init number) (kept_in (b ∷ map (keeps_init number) rest) (given ∷ rest))) q cell ≡ initial (given ∷ rest) p cell
      go true seen e = ap (λ b. cond b (slice_index given.cells cell) (initial (map (new_init number) (kept_in (map (keeps_init number) rest) rest)) q cell)) (same_page given.page seen) ∙ ap (cond (given.page == p) (slice_index given.cells cell)) e
      go false unseen e = e ∙ sym (ap (λ b. cond b (slice_index given.cells cell) (initial rest p cell)) (other_page given.page unseen))

  module _ (s : Recorded) (count : ℕ) where
    -- a record that is kept does to the cell what it did
    kept_cell : (cell k : ℕ) (x : GuestRec) (v : ℕ) → keeps_guest s number k x ≡ true → cell_after q cell (new_guest s number x) v ≡ cell_after p cell x v
    kept_cell cell k (Read c r d y) v e = refl
    kept_cell cell k (Write c r d y) v e = ap (λ b. cond (b && (d == cell)) y v) (same_page r e)
    kept_cell cell k (Release c r) v e = ap (λ b. cond b 0 v) (same_page r e)
    kept_cell cell k (Miss c r) v e = refl
    kept_cell cell k Halt v e = refl
    kept_cell cell k (Resume i) v e = refl
    kept_cell cell k (See i) v e = refl

    -- and one that goes does nothing to it
    gone_cell : (cell k : ℕ) (x : GuestRec) (v : ℕ) → keeps_guest s number k x ≡ false → v ≡ cell_after p cell x v
    gone_cell cell k (Read c r d y) v e = refl
    gone_cell cell k (Write c r d y) v e = sym (ap (λ b. cond (b && (d == cell)) y v) (other_page r e))
    gone_cell cell k (Release c r) v e = sym (ap (λ b. cond b 0 v) (other_page r e))
    gone_cell cell k (Miss c r) v e = refl
    gone_cell cell k Halt v e = refl
    gone_cell cell k (Resume i) v e = refl
    gone_cell cell k (See i) v e = refl

    -- the flat machine has the page's cells through the window
    pub same_flat : (n cell : ℕ) → flat (window number count s) (moved_to s number Guest n) q cell ≡ flat s n p cell
    same_flat n cell =
        ap (λ v. before (cell_after q cell) v (window number count s).guest (moved_to s number Guest n)) (same_start s.init cell)
        ∙ fold_kept (new_guest s number) (marks s number Guest) s.guest (cell_after p cell) (cell_after q cell) (initial s.init p cell) (guest_aligned s number)
        (λ m x v is mark. let r = guest_marked s number m x true is mark in kept_cell cell m x v r)
        (λ m x v is mark. let r = guest_marked s number m x false is mark in gone_cell cell m x v r)
        n

    kept_release : (k : ℕ) (x : GuestRec) (v : Bool) → keeps_guest s number k x ≡ true → released_after q (new_guest s number x) v ≡ released_after p x v
    kept_release k (Read c r d y) v e = refl
    kept_release k (Write c r d y) v e = ap (λ b. cond b false v) (same_page r e)
    kept_release k (Release c r) v e = ap (λ b. cond b true v) (same_page r e)
    kept_release k (Miss c r) v e = refl
    kept_release k Halt v e = refl
    kept_release k (Resume i) v e = refl
    kept_release k (See i) v e = refl

    gone_release : (k : ℕ) (x : GuestRec) (v : Bool) → keeps_guest s number k x ≡ false → v ≡ released_after p x v
    gone_release k (Read c r d y) v e = refl
    gone_release k (Write c r d y) v e = sym (ap (λ b. cond b false v) (other_page r e))
    gone_release k (Release c r) v e = sym (ap (λ b. cond b true v) (other_page r e))
    gone_release k (Miss c r) v e = refl
    gone_release k Halt v e = refl
    gone_release k (Resume i) v e = refl
    gone_release k (See i) v e = refl

    -- and the ledger has it through the window
    pub same_ledger : (n : ℕ) → in_ledger (window number count s) (moved_to s number Guest n) q ≡ in_ledger s n p
    same_ledger n =
        fold_kept (new_guest s number) (marks s number Guest) s.guest (released_after p) (released_after q) false (guest_aligned s number)
        (λ m x v is mark. let r = guest_marked s number m x true is mark in kept_release m x v r)
        (λ m x v is mark. let r = guest_marked s number m x false is mark in gone_release m x v r)
        n

-- the halt's place, where the halt is kept
halt_place_kept : (new : GuestRec → GuestRec) → ((x : GuestRec) (rest : List GuestRec) → halt_place (new x ∷ rest) ≡ halt_place (x ∷ rest)) → (marks : List Bool) (log : List GuestRec) → Aligned marks log →
    ((n : ℕ) → slice_get log n ≡ Some Halt → slice_get marks n ≡ Some true) → halt_place (map new (kept_in marks log)) ≡ rank marks (halt_place log)
halt_place_kept new same [] [] aligned kept = refl
halt_place_kept new same [] (x ∷ log) aligned kept = let e = aligned 0 in absurd (cc)
halt_place_kept new same (m ∷ marks) [] aligned kept = refl
halt_place_kept new same (m ∷ marks) (x ∷ log) aligned kept =
    at x m (kept 0) (halt_place_kept new same marks log (λ n. aligned (suc n)) (λ n. kept (suc n)))
  where
    past : (x : GuestRec) → ((rest : List GuestRec) → halt_place (x ∷ rest) ≡ suc (halt_place rest)) → (m : Bool) →
        halt_place (map new (kept_in marks log)) ≡ rank marks (halt_place log) →
        halt_place (map new (kept_in (m ∷ marks) (x ∷ log))) ≡ rank (m ∷ marks) (suc (halt_place log))
    past x one true e = same x (map new (kept_in marks log)) ∙ one (map new (kept_in marks log)) ∙ ap suc e ∙ sym (rank_cons true marks (halt_place log))
    past x one false e = e ∙ sym (rank_cons false marks (halt_place log))

    at : (x : GuestRec) (m : Bool) → (Some x ≡ Some Halt → Some m ≡ Some true) →
        halt_place (map new (kept_in marks log)) ≡ rank marks (halt_place log) →
        halt_place (map new (kept_in (m ∷ marks) (x ∷ log))) ≡ rank (m ∷ marks) (halt_place (x ∷ log))
    at Halt true kept e = same Halt (map new (kept_in marks log))
    at Halt false kept e = let f = kept refl in absurd (cc)
    at (Read v p c y) m kept e = past (Read v p c y) (λ rest. refl) m e
    at (Write v p c y) m kept e = past (Write v p c y) (λ rest. refl) m e
    at (Release v p) m kept e = past (Release v p) (λ rest. refl) m e
    at (Miss v p) m kept e = past (Miss v p) (λ rest. refl) m e
    at (Resume i) m kept e = past (Resume i) (λ rest. refl) m e
    at (See i) m kept e = past (See i) (λ rest. refl) m e

pub same_halt : (s : Recorded) (number : Numbers) (count : ℕ) → at_halt (window number count s) ≡ moved_to s number Guest (at_halt s)
same_halt s number count = halt_place_kept (new_guest s number) same (marks s number Guest) s.guest (guest_aligned s number) (λ n is. guest_mark s number n Halt is)
  where
    same : (x : GuestRec) (rest : List GuestRec) → halt_place (new_guest s number x ∷ rest) ≡ halt_place (x ∷ rest)
    same Halt rest = refl
    same (Read v p c y) rest = refl
    same (Write v p c y) rest = refl
    same (Release v p) rest = refl
    same (Miss v p) rest = refl
    same (Resume i) rest = refl
    same (See i) rest = refl

module _ (number : Numbers) (ours : IsNumbering number) (p q : ℕ) (at : number p ≡ Some q) (s : Recorded) (count : ℕ) where
  -- the page at the halt
  pub same_page_at_halt : page_of (window number count s).geometry.cells (flat (window number count s) (at_halt (window number count s))) q ≡ page_of s.geometry.cells (flat s (at_halt s)) p
  same_page_at_halt =
      let each : (d : ℕ) → flat (window number count s) (at_halt (window number count s)) q d ≡ flat s (at_halt s) p d =
      λ d. ap (λ n. flat (window number count s) n q d) (same_halt s number count) ∙ same_flat number ours p q at s count (at_halt s) d in
      let same : flat (window number count s) (at_halt (window number count s)) q ≡ flat s (at_halt s) p = λ j d. each d j in
      ap (λ f. map f (range_with_len 0 s.geometry.cells)) same

  pub same_ledger_at_halt : in_ledger (window number count s) (at_halt (window number count s)) q ≡ in_ledger s (at_halt s) p
  same_ledger_at_halt = ap (λ n. in_ledger (window number count s) n q) (same_halt s number count) ∙ same_ledger number ours p q at s count (at_halt s)
