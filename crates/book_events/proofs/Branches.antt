-- What the calls on the pager's and the target's books leave as it was, and what they use up.
use Rattle.std.proofs.Common.{◌≡◌, ℕ, ◌+◌, ◌<◌, ◌≤◌, Bool, true, false, cond, List, [], ◌∷◌, ◌++◌, length, Option, Some, None, is_some, inl, inr, ◌⊎◌, refl, sym, ap, ◌∙◌, subst, arith}
use Rattle.migration_types.specs.declared.records.PagerRec.TheVariants.{Fault}
use Rattle.residency.specs.Placements.{is_resident}
use Rattle.fault_queue.specs.Waiting.{is_asked, is_waiting}
use Rattle.target_side.specs.TargetPart.{TargetPart, settled as with_settled, resumes, with_zeroed, with_misses}
use Rattle.target_side.specs.declared.access.UntakenMiss.{UntakenMiss}
use Rattle.target_side.specs.declared.incoming.Incoming.{Incoming}
use Rattle.target_side.specs.PagerPart.{PagerPart, Paged, settles, is_released, fault_join, fault_new, zeroes, faults, faults_by, next_fault, delivers_next, delivers_by, deliver}
use Rattle.target_side.proofs.Settling.{settles_is, next_fault_plain, deliver_plain}

pub either : {A : Type 0} (f : Paged → A) (z : A) (c : Bool) (x y : Paged) → f x ≡ z → f y ≡ z → f (cond c x y) ≡ z
either f z true x y p q = p
either f z false x y p q = q

-- ---- a miss that is taken

-- what a page that is placed as zeros leaves as it was
abbrev Stays : {A : Type 0} → (TargetPart → A) → Type 0
Stays f = (p n : ℕ) (t : TargetPart) → f (with_zeroed p n t) ≡ f t

taken : {A : Type 0} (f : TargetPart → A) → Stays f → (x : UntakenMiss) (rest : List UntakenMiss) (b : PagerPart) (t : TargetPart) → f (faults (x ∷ rest) b t).target ≡ f (with_misses rest t)
taken f stays x rest b t =
    let of_target : Paged → _ = λ r. f r.target in
    let after = f (with_misses rest t) in
    let asked = either of_target after (is_asked x.page b.waiting) _ _ refl refl in
    let zeroed = either of_target after (is_released b.released x.page) _ _ (stays x.page (length (b.log ++ Fault x.number ∷ [])) (with_misses rest t)) asked in
    let absent = either of_target after (is_waiting x.vcpu b.waiting) _ _ refl zeroed in
    either of_target after (is_resident (t.placed x.page) (t.freed x.page)) _ _ refl absent

pub faults_log : (o : Option (List ℕ)) (xs : List UntakenMiss) (b : PagerPart) (t : TargetPart) → (faults_by o xs b t).target.log ≡ t.log
faults_log None xs b t = refl
faults_log (Some released) [] b t = refl
faults_log (Some released) (x ∷ rest) b t = taken (λ (u : TargetPart). u.log) (λ p n u. refl) x rest b t

faults_unsettled : (o : Option (List ℕ)) (xs : List UntakenMiss) (b : PagerPart) (t : TargetPart) → (faults_by o xs b t).target.unsettled ≡ t.unsettled
faults_unsettled None xs b t = refl
faults_unsettled (Some released) [] b t = refl
faults_unsettled (Some released) (x ∷ rest) b t = taken (λ (u : TargetPart). u.unsettled) (λ p n u. refl) x rest b t

faults_misses : (released : List ℕ) (xs : List UntakenMiss) (b : PagerPart) (t : TargetPart) → 0 < length xs → length (faults_by (Some released) xs b t).target.misses < length xs
faults_misses released [] b t some = absurd (omega (arith, some))
faults_misses released (x ∷ rest) b t some = let e = ap length (taken (λ (u : TargetPart). u.misses) (λ p n u. refl) x rest b t) in omega (arith, e)

pub fault_settles : (b : PagerPart) (t : TargetPart) → (next_fault b t).target.unsettled ≡ []
fault_settles b t = faults_unsettled b.released t.misses (settles t.unsettled b) (with_settled t)

pub fault_takes : (b : PagerPart) (t : TargetPart) → is_some b.released ≡ true → 0 < length t.misses → length (next_fault b t).target.misses < length t.misses
fault_takes b t ready some = go b.released ready
  where
    go : (o : Option (List ℕ)) → is_some o ≡ true → length (faults_by o t.misses (settles t.unsettled b) (with_settled t)).target.misses < length t.misses
    go None e = absurd (cc)
    go (Some released) e = faults_misses released t.misses (settles t.unsettled b) (with_settled t) some

pub fault_none : (b : PagerPart) (t : TargetPart) (r : Paged) → t.unsettled ≡ [] → faults_by b.released t.misses b t ≡ r → next_fault b t ≡ r
fault_none b t r none same = next_fault_plain b t none ∙ same

-- ---- a page that is delivered

next_unsettled : (xs : List Incoming) (b : PagerPart) (t : TargetPart) → (delivers_next xs b t).target.unsettled ≡ t.unsettled
next_unsettled [] b t = refl
next_unsettled (x ∷ rest) b t = either (λ (r : Paged). r.target.unsettled) t.unsettled (is_resident (t.placed x.page) (t.freed x.page)) _ _ refl refl

delivers_unsettled : (o : Option (List ℕ)) (b : PagerPart) (t : TargetPart) → (delivers_by o b t).target.unsettled ≡ t.unsettled
delivers_unsettled None b t = refl
delivers_unsettled (Some released) b t = either (λ (r : Paged). r.target.unsettled) t.unsettled t.is_resumed _ _ (next_unsettled b.inbox b t) refl

pub deliver_settles : (b : PagerPart) (t : TargetPart) → (deliver b t).target.unsettled ≡ []
deliver_settles b t = delivers_unsettled b.released (settles t.unsettled b) (with_settled t)

next_inbox : (xs : List Incoming) (b : PagerPart) (t : TargetPart) → 0 < length xs → length (delivers_next xs b t).pager.inbox < length xs
next_inbox [] b t some = absurd (omega (arith, some))
next_inbox (x ∷ rest) b t some =
    let left : (delivers_next (x ∷ rest) b t).pager.inbox ≡ rest = either (λ (r : Paged). r.pager.inbox) rest (is_resident (t.placed x.page) (t.freed x.page)) _ _ refl refl in
    let e = ap length left in
    omega (arith, e)

-- the guest resumes, or else a page is taken
abbrev Brings : Bool → List Incoming → Paged → Type 0
Brings runs xs r = ((runs ≡ false) × (r.target.is_resumed ≡ true)) ⊎ (length r.pager.inbox < length xs)

brings_by : (runs : Bool) (xs : List Incoming) (b : PagerPart) (t : TargetPart) → (runs ≡ false) ⊎ (0 < length xs) → Brings runs xs (cond runs (delivers_next xs b t) (record { pager = b; target = resumes t; woken = [] }))
brings_by true xs b t (inl away) = absurd (cc)
brings_by true xs b t (inr some) = inr (next_inbox xs b t some)
brings_by false xs b t way = inl (refl, refl)

pub deliver_brings : (b : PagerPart) (t : TargetPart) → is_some b.released ≡ true → (t.is_resumed ≡ false) ⊎ (0 < length b.inbox) → Brings t.is_resumed b.inbox (deliver b t)
deliver_brings b t ready way = go b.released ready
  where
    same : (settles t.unsettled b).inbox ≡ b.inbox
    same = ap (λ (c : PagerPart). c.inbox) (settles_is t.unsettled b)

    go : (o : Option (List ℕ)) → is_some o ≡ true → Brings t.is_resumed b.inbox (delivers_by o (settles t.unsettled b) (with_settled t))
    go None e = absurd (cc)
    go (Some released) e =
        subst (λ (xs : List Incoming). Brings t.is_resumed xs (delivers_by (Some released) (settles t.unsettled b) (with_settled t))) same
        (brings_by t.is_resumed (settles t.unsettled b).inbox (settles t.unsettled b) (with_settled t) (subst (λ (xs : List Incoming). (t.is_resumed ≡ false) ⊎ (0 < length xs)) (sym same) way))

pub delivery_none : (b : PagerPart) (t : TargetPart) (r : Paged) → t.unsettled ≡ [] → delivers_by b.released b t ≡ r → deliver b t ≡ r
delivery_none b t r none same = deliver_plain b t none ∙ same
