-- The `send` whose contents a page's first placement has.
use Rattle.std.proofs.Common.{◌≡◌, ℕ, ◌⊎◌, inl, inr, Bool, true, false, cond, List, length, Option, Some, None, refl, sym, ap, ◌∙◌}
use Rattle.std.specs.Prelude.{slice_get, ◌==◌}
use Rattle.std.proofs.Common.{eq-eqb}
use Rattle.std.proofs.lemmas.Bool.{eqb-true}
use Rattle.migration_types.specs.declared.records.SourceRec.{SourceRec}
use Rattle.migration_types.specs.declared.records.SourceRec.TheVariants.{Halted, State, Send, Again, Ask, Done, Back}
use Rattle.migration_types.specs.declared.records.PagerRec.{PagerRec}
use Rattle.migration_types.specs.declared.records.PagerRec.TheVariants.{Place, Zero}
use Rattle.migration_types.specs.Sessions.{Recorded}
use Rattle.audit_model.specs.Names.{if_there}
use Rattle.audit_model.specs.Shape.{passes, is_send_of, is_placement_of, delivery}
use Rattle.page_facts.specs.Tables.{first_before}
use Rattle.page_facts.specs.Moved.{sending_of, origin_of, origin_at}
use Rattle.page_facts.proofs.Before.{first_some, IsFirstAt}

-- the pager's record at `place` places the page with the contents of this `send`
pub record IsPlacedFrom (s : Recorded) (page send place : ℕ) : Type 0 where
  pub got : ℕ
  pub content : List ℕ
  pub stands : slice_get s.pager place ≡ Some (Place page got content)
  pub delivered : ℕ
  pub is_delivery : delivery s got ≡ Some delivered
  pub is_the_send : (delivered ≡ send) ⊎ (slice_get s.source delivered ≡ Some (Again send))
  pub sent : List ℕ
  pub is_sent : slice_get s.source send ≡ Some (Send page sent)

send_at : (s : Recorded) (page send : ℕ) → passes (is_send_of page) (slice_get s.source send) ≡ true → (content : List ℕ) × (slice_get s.source send ≡ Some (Send page content))
send_at s page send e = go (slice_get s.source send) refl e
  where
    at : (r : SourceRec) → slice_get s.source send ≡ Some r → is_send_of page r ≡ true → (content : List ℕ) × (slice_get s.source send ≡ Some (Send page content))
    at (Send p content) is t = (content, is ∙ ap (λ q. Some (Send q content)) (eqb-true p page t))
    at _ is t = absurd (cc)

    go : (o : Option SourceRec) → slice_get s.source send ≡ o → passes (is_send_of page) o ≡ true → (content : List ℕ) × (slice_get s.source send ≡ Some (Send page content))
    go None is t = absurd (cc)
    go (Some r) is t = at r is t

-- the delivered record is a `send` of the page, or repeats one
module _ (s : Recorded) (page send : ℕ) where
  record IsSending (d : ℕ) : Type 0 where
    is_the_send : (d ≡ send) ⊎ (slice_get s.source d ≡ Some (Again send))
    sent : List ℕ
    is_sent : slice_get s.source send ≡ Some (Send page sent)

  sends : (d p : ℕ) (content : List ℕ) → slice_get s.source d ≡ Some (Send p content) → (b : Bool) → (p == page) ≡ b → cond b (Some d) None ≡ Some send → IsSending d
  sends d p content is false t e = absurd (cc)
  sends d p content is true t e =
      let same : d ≡ send = cc in
      record { is_the_send = inl same; sent = content; is_sent = ap (λ k. slice_get s.source k) (sym same) ∙ is ∙ ap (λ q. Some (Send q content)) (eqb-true p page t) }

  repeats : (d k : ℕ) → slice_get s.source d ≡ Some (Again k) → (b : Bool) → passes (is_send_of page) (slice_get s.source k) ≡ b → cond b (Some k) None ≡ Some send → IsSending d
  repeats d k is false t e = absurd (cc)
  repeats d k is true t e =
      let same : k ≡ send = cc in
      let sent = send_at s page send (ap (λ i. passes (is_send_of page) (slice_get s.source i)) (sym same) ∙ t) in
      record { is_the_send = inr (is ∙ ap (λ i. Some (Again i)) same); sent = sent.0; is_sent = sent.1 }

  sending : (d : ℕ) → if_there (sending_of s page d) (slice_get s.source d) ≡ Some send → IsSending d
  sending d e = go (slice_get s.source d) refl e
    where
      at : (r : SourceRec) → slice_get s.source d ≡ Some r → sending_of s page d r ≡ Some send → IsSending d
      at (Send p content) is e = sends d p content is (p == page) refl e
      at (Again k) is e = repeats d k is (passes (is_send_of page) (slice_get s.source k)) refl e
      at (Halted h) is e = absurd (cc)
      at State is e = absurd (cc)
      at (Ask i) is e = absurd (cc)
      at Done is e = absurd (cc)
      at Back is e = absurd (cc)

      go : (o : Option SourceRec) → slice_get s.source d ≡ o → if_there (sending_of s page d) o ≡ Some send → IsSending d
      go None is e = absurd (cc)
      go (Some r) is e = at r is e

  -- what it means that the first placement has an origin
  pub placed_from : (place : ℕ) → first_before (λ m. is_placement_of page) s.pager (length s.pager) ≡ Some place → origin_at s page (Some place) ≡ Some send → IsPlacedFrom s page send place
  placed_from place first e = by first_at.by first_at.stands first_at.passes_test (ap (λ o. if_there (origin_of s page) o) (sym first_at.stands) ∙ e)
    where
      first_at : IsFirstAt (λ m. is_placement_of page) s.pager (length s.pager) place
      first_at = first_some (λ m. is_placement_of page) s.pager (length s.pager) place first

      delivered : (got : ℕ) (content : List ℕ) → slice_get s.pager place ≡ Some (Place page got content) → (o : Option ℕ) → delivery s got ≡ o → if_there (λ n. if_there (sending_of s page n) (slice_get s.source n)) o ≡ Some send → IsPlacedFrom s page send place
      delivered got content is None d e = absurd (cc)
      delivered got content is (Some n) d e =
          let at = sending n e in
          record { got = got; content = content; stands = is; delivered = n; is_delivery = d; is_the_send = at.is_the_send; sent = at.sent; is_sent = at.is_sent }

      by : (r : PagerRec) → slice_get s.pager place ≡ Some r → is_placement_of page r ≡ true → origin_of s page r ≡ Some send → IsPlacedFrom s page send place
      by (Place p got content) is t e = delivered got content (is ∙ ap (λ q. Some (Place q got content)) (eqb-true p page t)) (delivery s got) refl e
      by _ is t e = absurd (cc)

-- and such a placement has this origin
pub origin_is : (s : Recorded) (page send place : ℕ) → IsPlacedFrom s page send place → origin_at s page (Some place) ≡ Some send
origin_is s page send place p =
    ap (λ o. if_there (origin_of s page) o) p.stands
    ∙ ap (λ o. if_there (λ n. if_there (sending_of s page n) (slice_get s.source n)) o) p.is_delivery
    ∙ go p.is_the_send
  where
    own : (page == page) ≡ true
    own = eq-eqb page page refl

    go : (p.delivered ≡ send) ⊎ (slice_get s.source p.delivered ≡ Some (Again send)) → if_there (sending_of s page p.delivered) (slice_get s.source p.delivered) ≡ Some send
    go (inl same) =
        ap (λ n. if_there (sending_of s page n) (slice_get s.source n)) same
        ∙ ap (λ o. if_there (sending_of s page send) o) p.is_sent
        ∙ ap (λ b. cond b (Some send) None) own
    go (inr again) =
        ap (λ o. if_there (sending_of s page p.delivered) o) again
        ∙ ap (λ b. cond b (Some send) None) (ap (λ o. passes (is_send_of page) o) p.is_sent ∙ own)

-- a page that is placed as zeros has none
pub no_origin : (s : Recorded) (page place : ℕ) → slice_get s.pager place ≡ Some (Zero page) → origin_at s page (Some place) ≡ None
no_origin s page place is = ap (λ o. if_there (origin_of s page) o) is
