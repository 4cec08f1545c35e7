-- What a map from pages to their waiters holds, as entries.
use Rattle.std.proofs.Common.{◌≡◌, ℕ, Bool, true, false, cond, not, ◌||◌, List, [], ◌∷◌, ◌++◌, map, None, Some, is_some, Vec, refl, sym, ap, ◌∙◌, subst}
use Rattle.std.specs.Prelude.{◌==◌, nat_eq}
use Rattle.indexmap.specs.IndexMap.{IndexMap, get, insert_entry}
use Rattle.indexmap.proofs.CallerLemmas.{insert_entry-new}
use Rattle.std.specs.List.{AllByRecursion, AllZip, IsDistinct, find, list_any}
use Rattle.std.specs.Map.{keys_of, values_of, lookup, remove_entry, set_value}
use Rattle.std.specs.Option.{option_map}
use Rattle.std.proofs.lemmas.Bool.{eqb-true}
use Rattle.std.proofs.lemmas.List.{map-append}
use Rattle.std.proofs.lemmas.Map.Keys.{IsDistinct-head, IsDistinct-tail}
use Rattle.fault_queue.proofs.Queues.{absent_joined}
use Rattle.fault_queue.specs.Waiting.{Waiting, is_asked, is_waiting, waiters_of, joined, with_waiter, entry, without}

module _ {A : Type 0} where
  abbrev pub entry_of : ℕ × Vec ℕ A → Waiting
  entry_of e = record { page = e.0; vcpus = e.1.items }

  abbrev pub entries : List (ℕ × Vec ℕ A) → List Waiting
  entries es = map (λ e. record { page = e.0; vcpus = e.1.items }) es

  pub waiters_entries : (page : ℕ) (es : List (ℕ × Vec ℕ A)) → option_map (λ v. v.items) (lookup (λ k. page == k) es) ≡ waiters_of page (entries es)
  waiters_entries page [] = refl
  waiters_entries page (e ∷ es) = go (waiters_entries page es) (page == e.0)
    where
      go : option_map (λ v. v.items) (lookup (λ k. page == k) es) ≡ waiters_of page (entries es) → (b : Bool) → option_map (λ v. v.items) (cond b (Some e.1) (lookup (λ k. page == k) es)) ≡ option_map (λ (w : Waiting). w.vcpus) (cond b (Some (entry_of e)) (find (λ w. page == w.page) (entries es)))
      go rest true = refl
      go rest false = rest

  pub asked_entries : (page : ℕ) (es : List (ℕ × Vec ℕ A)) → is_some (lookup (λ k. page == k) es) ≡ is_asked page (entries es)
  asked_entries page [] = refl
  asked_entries page (e ∷ es) = go (asked_entries page es) (page == e.0)
    where
      go : is_some (lookup (λ k. page == k) es) ≡ is_asked page (entries es) → (b : Bool) → is_some (cond b (Some e.1) (lookup (λ k. page == k) es)) ≡ (b || is_asked page (entries es))
      go rest true = refl
      go rest false = rest

  pub waiting_entries : (vcpu : ℕ) (es : List (ℕ × Vec ℕ A)) → list_any (λ v. list_any (λ x. x == vcpu) v.items) (values_of es) ≡ is_waiting vcpu (entries es)
  waiting_entries vcpu [] = refl
  waiting_entries vcpu (e ∷ es) = ap (λ b. list_any (λ x. x == vcpu) e.1.items || b) (waiting_entries vcpu es)

  pub keys_entries : (es : List (ℕ × Vec ℕ A)) → map (λ w. w.page) (entries es) ≡ keys_of es
  keys_entries [] = refl
  keys_entries (e ∷ es) = ap (λ ks. e.0 ∷ ks) (keys_entries es)

  -- where no entry has the page
  abbrev Absent : ℕ → List (ℕ × Vec ℕ A) → Type 0
  Absent page es = AllByRecursion (λ k. (page == k) ≡ false) (keys_of es)

  without_absent : (page : ℕ) (es : List (ℕ × Vec ℕ A)) → Absent page es → without page (entries es) ≡ entries es
  without_absent page [] h = refl
  without_absent page (e ∷ es) h =
      ap (λ b. cond (not b) (entry_of e ∷ without page (entries es)) (without page (entries es))) h.0
      ∙ ap (λ rest. entry_of e ∷ rest) (without_absent page es h.1)

  joined_absent : (page vcpu : ℕ) (es : List (ℕ × Vec ℕ A)) → Absent page es → joined page vcpu (entries es) ≡ entries es
  joined_absent page vcpu es h = absent_joined page vcpu (entries es) (subst (AllByRecursion (λ k. (page == k) ≡ false)) (sym (keys_entries es)) h)

  -- the entries after the first, where that one has the page
  rest_absent : (page : ℕ) (e : ℕ × Vec ℕ A) (es : List (ℕ × Vec ℕ A)) → IsDistinct (λ a b. a == b) (keys_of (e ∷ es)) → (page == e.0) ≡ true → Absent page es
  rest_absent page e es d is = subst (λ p. Absent p es) (sym (eqb-true page e.0 is)) (IsDistinct-head (λ a b. a == b) e.0 (keys_of es) d)

  pub remove_entries : (page : ℕ) (es : List (ℕ × Vec ℕ A)) → IsDistinct (λ a b. a == b) (keys_of es) → entries (remove_entry (λ k. page == k) es) ≡ without page (entries es)
  remove_entries page [] d = refl
  remove_entries page (e ∷ es) d = go (remove_entries page es (IsDistinct-tail (λ a b. a == b) e.0 (keys_of es) d)) (page == e.0) refl
    where
      go : entries (remove_entry (λ k. page == k) es) ≡ without page (entries es) → (b : Bool) → (page == e.0) ≡ b → entries (cond b es (e ∷ remove_entry (λ k. page == k) es)) ≡ cond (not b) (entry_of e ∷ without page (entries es)) (without page (entries es))
      go rest true is = sym (without_absent page es (rest_absent page e es d is))
      go rest false is = ap (λ others. entry_of e ∷ others) rest

  pub join_entries : (page vcpu : ℕ) (es : List (ℕ × Vec ℕ A)) (v w : Vec ℕ A) → IsDistinct (λ a b. a == b) (keys_of es) → lookup (λ k. page == k) es ≡ Some v → w.items ≡ v.items ++ vcpu ∷ [] → entries (set_value (λ k. page == k) es w) ≡ joined page vcpu (entries es)
  join_entries page vcpu [] v w d found e = absurd (cc)
  join_entries page vcpu (e ∷ es) v w d found more = go (λ at. join_entries page vcpu es v w (IsDistinct-tail (λ a b. a == b) e.0 (keys_of es) d) at more) (page == e.0) refl found
    where
      go : (lookup (λ k. page == k) es ≡ Some v → entries (set_value (λ k. page == k) es w) ≡ joined page vcpu (entries es)) → (b : Bool) → (page == e.0) ≡ b → cond b (Some e.1) (lookup (λ k. page == k) es) ≡ Some v → entries (cond b ((e.0, w) ∷ es) (e ∷ set_value (λ k. page == k) es w)) ≡ cond b (with_waiter vcpu (entry_of e)) (entry_of e) ∷ joined page vcpu (entries es)
      go others true is at =
          let same : e.1 ≡ v = cc in
          let items : w.items ≡ e.1.items ++ vcpu ∷ [] = more ∙ sym (ap (λ (u : Vec ℕ A). u.items ++ vcpu ∷ []) same) in
          let rest = sym (joined_absent page vcpu es (rest_absent page e es d is)) in
          λ i. (record { page = e.0; vcpus = items i }) ∷ rest i
      go others false is at = ap (λ rest. entry_of e ∷ rest) (others at)

  pub kept_entries : (page : ℕ) (es : List (ℕ × Vec ℕ A)) (v w : Vec ℕ A) → lookup (λ k. page == k) es ≡ Some v → w.items ≡ v.items → entries (set_value (λ k. page == k) es w) ≡ entries es
  kept_entries page [] v w found e = absurd (cc)
  kept_entries page (e ∷ es) v w found same = go (λ at. kept_entries page es v w at same) (page == e.0) found
    where
      go : (lookup (λ k. page == k) es ≡ Some v → entries (set_value (λ k. page == k) es w) ≡ entries es) → (b : Bool) → cond b (Some e.1) (lookup (λ k. page == k) es) ≡ Some v → entries (cond b ((e.0, w) ∷ es) (e ∷ set_value (λ k. page == k) es w)) ≡ entry_of e ∷ entries es
      go others true at =
          let is : e.1 ≡ v = cc in
          let items : w.items ≡ e.1.items = same ∙ sym (ap (λ (u : Vec ℕ A). u.items) is) in
          λ i. (record { page = e.0; vcpus = items i }) ∷ entries es
      go others false at = ap (λ rest. entry_of e ∷ rest) (others at)

  new_entries : (page vcpu : ℕ) (es : List (ℕ × Vec ℕ A)) (w : Vec ℕ A) → w.items ≡ vcpu ∷ [] → entries (es ++ (page, w) ∷ []) ≡ entries es ++ entry page vcpu ∷ []
  new_entries page vcpu es w e =
      map-append entry_of es ((page, w) ∷ [])
      ∙ (λ i. entries es ++ (record { page = page; vcpus = e i }) ∷ [])

  -- a new page goes last
  pub insert_entries : {S : Type 0} (old same : IndexMap ℕ (Vec ℕ A) S) (page vcpu : ℕ) (w : Vec ℕ A) → same ≡ old → get nat_eq old page ≡ None → w.items ≡ vcpu ∷ [] → entries (insert_entry nat_eq same.entries page w) ≡ entries old.entries ++ entry page vcpu ∷ []
  insert_entries {S} old same page vcpu w is none items =
      ap (λ (m : IndexMap ℕ (Vec ℕ A) S). entries (insert_entry nat_eq m.entries page w)) is
      ∙ ap entries (insert_entry-new nat_eq old page w none)
      ∙ new_entries page vcpu old.entries w items

  -- the same entries once more
  pub clone_entries : (C : ℕ → ℕ → Type 0) (D : Vec ℕ A → Vec ℕ A → Type 0) → ((x y : ℕ) → C x y → y ≡ x) → ((v w : Vec ℕ A) → D v w → w.items ≡ v.items) → (es fs : List (ℕ × Vec ℕ A)) → AllZip (λ p q. C p.0 q.0 × D p.1 q.1) es fs → entries fs ≡ entries es
  clone_entries C D page items [] [] all = refl
  clone_entries C D page items [] (f ∷ fs) all = absurd all
  clone_entries C D page items (e ∷ es) [] all = absurd all
  clone_entries C D page items (e ∷ es) (f ∷ fs) all =
      let here = page e.0 f.0 all.0.0 in
      let same = items e.1 f.1 all.0.1 in
      let rest = clone_entries C D page items es fs all.1 in
      λ i. (record { page = here i; vcpus = same i }) ∷ rest i
