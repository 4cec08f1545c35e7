-- The names of the records by which a session grew.
use Rattle.audit_model.specs.Mergings.{run_names}
use Rattle.migration_types.specs.Receipts.{Name}
use Rattle.migration_types.specs.Sessions.{Recorded}
use Rattle.migration_types.specs.declared.records.GuestRec.{GuestRec}
use Rattle.migration_types.specs.declared.records.LaneRec.{LaneRec}
use Rattle.migration_types.specs.declared.records.LinkRec.{LinkRec}
use Rattle.migration_types.specs.declared.records.LogName.{LogName}
use Rattle.migration_types.specs.declared.records.LogName.TheVariants.{Guest, Lane, Link, Pager, Source as FromSource}
use Rattle.migration_types.specs.declared.records.PagerRec.{PagerRec}
use Rattle.migration_types.specs.declared.records.SourceRec.{SourceRec}
use Rattle.migration_model.proofs.Grows.{guest_more, lane_more, link_more, pager_more, source_more}
use Rattle.migration_model.proofs.Lists.{append_nil, append_two, length_suc}
use Rattle.migration_model.specs.Books.{grown, new_names}
use Rattle.std.proofs.Common.{List, [], ap, arith, length, refl, sym, ◌++◌, ◌∙◌, ◌∷◌, ◌≡◌}
use Rattle.std.specs.Prelude.{◌-◌}

pub grown_none : {A : Type 0} (log : LogName) (xs : List A) → grown log xs xs ≡ []
grown_none log xs = ap (λ n. run_names log (length xs) n) (let e : length xs - length xs ≡ 0 = omega arith in e)

grown_one : {A : Type 0} (log : LogName) (xs : List A) (x : A) → grown log xs (xs ++ x ∷ []) ≡ (log, length xs) ∷ []
grown_one log xs x = ap (λ n. run_names log (length xs) n) (let e : length (xs ++ x ∷ []) - length xs ≡ 1 = omega (arith, length_suc xs x) in e)

grown_two : {A : Type 0} (log : LogName) (xs : List A) (x y : A) → grown log xs ((xs ++ x ∷ []) ++ y ∷ []) ≡ (log, length xs) ∷ (log, length (xs ++ x ∷ [])) ∷ []
grown_two log xs x y =
    ap (λ n. run_names log (length xs) n) (let e : length ((xs ++ x ∷ []) ++ y ∷ []) - length xs ≡ 2 = omega (arith, length_suc xs x, length_suc (xs ++ x ∷ []) y) in e)
    ∙ ap (λ n. (log, length xs) ∷ (log, n) ∷ []) (sym (length_suc xs x))

-- the names of five logs
five : (a b c d e a2 b2 c2 d2 e2 : List Name) → a ≡ a2 → b ≡ b2 → c ≡ c2 → d ≡ d2 → e ≡ e2 → a ++ b ++ c ++ d ++ e ≡ a2 ++ b2 ++ c2 ++ d2 ++ e2
five a b c d e a2 b2 c2 d2 e2 f g h i j = cc

module _ (o : List Name) (s : Recorded) where
  pub order_none : o ++ new_names s s ≡ o
  order_none = ap (λ xs. o ++ xs) (five _ _ _ _ _ [] [] [] [] [] (grown_none Guest s.guest) (grown_none FromSource s.source) (grown_none Link s.link) (grown_none Lane s.lane) (grown_none Pager s.pager)) ∙ append_nil o

  pub order_guest : (r : GuestRec) → o ++ new_names s (guest_more r s) ≡ o ++ (Guest, length s.guest) ∷ []
  order_guest r = ap (λ xs. o ++ xs) (five _ _ _ _ _ ((Guest, length s.guest) ∷ []) [] [] [] [] (grown_one Guest s.guest r) (grown_none FromSource s.source) (grown_none Link s.link) (grown_none Lane s.lane) (grown_none Pager s.pager))

  pub order_guest_two : (r t : GuestRec) → o ++ new_names s (guest_more t (guest_more r s)) ≡ (o ++ (Guest, length s.guest) ∷ []) ++ (Guest, length (s.guest ++ r ∷ [])) ∷ []
  order_guest_two r t =
      ap (λ xs. o ++ xs) (five _ _ _ _ _ ((Guest, length s.guest) ∷ (Guest, length (s.guest ++ r ∷ [])) ∷ []) [] [] [] [] (grown_two Guest s.guest r t) (grown_none FromSource s.source) (grown_none Link s.link) (grown_none Lane s.lane) (grown_none Pager s.pager))
      ∙ append_two o (Guest, length s.guest) (Guest, length (s.guest ++ r ∷ []))

  pub order_source : (r : SourceRec) → o ++ new_names s (source_more r s) ≡ o ++ (FromSource, length s.source) ∷ []
  order_source r = ap (λ xs. o ++ xs) (five _ _ _ _ _ [] ((FromSource, length s.source) ∷ []) [] [] [] (grown_none Guest s.guest) (grown_one FromSource s.source r) (grown_none Link s.link) (grown_none Lane s.lane) (grown_none Pager s.pager))

  pub order_source_two : (r t : SourceRec) → o ++ new_names s (source_more t (source_more r s)) ≡ (o ++ (FromSource, length s.source) ∷ []) ++ (FromSource, length (s.source ++ r ∷ [])) ∷ []
  order_source_two r t =
      ap (λ xs. o ++ xs) (five _ _ _ _ _ [] ((FromSource, length s.source) ∷ (FromSource, length (s.source ++ r ∷ [])) ∷ []) [] [] [] (grown_none Guest s.guest) (grown_two FromSource s.source r t) (grown_none Link s.link) (grown_none Lane s.lane) (grown_none Pager s.pager))
      ∙ append_two o (FromSource, length s.source) (FromSource, length (s.source ++ r ∷ []))

  pub order_link : (r : LinkRec) → o ++ new_names s (link_more r s) ≡ o ++ (Link, length s.link) ∷ []
  order_link r = ap (λ xs. o ++ xs) (five _ _ _ _ _ [] [] ((Link, length s.link) ∷ []) [] [] (grown_none Guest s.guest) (grown_none FromSource s.source) (grown_one Link s.link r) (grown_none Lane s.lane) (grown_none Pager s.pager))

  pub order_lane : (r : LaneRec) → o ++ new_names s (lane_more r s) ≡ o ++ (Lane, length s.lane) ∷ []
  order_lane r = ap (λ xs. o ++ xs) (five _ _ _ _ _ [] [] [] ((Lane, length s.lane) ∷ []) [] (grown_none Guest s.guest) (grown_none FromSource s.source) (grown_none Link s.link) (grown_one Lane s.lane r) (grown_none Pager s.pager))

  pub order_pager : (r : PagerRec) → o ++ new_names s (pager_more r s) ≡ o ++ (Pager, length s.pager) ∷ []
  order_pager r = ap (λ xs. o ++ xs) (five _ _ _ _ _ [] [] [] [] ((Pager, length s.pager) ∷ []) (grown_none Guest s.guest) (grown_none FromSource s.source) (grown_none Link s.link) (grown_none Lane s.lane) (grown_one Pager s.pager r))

  pub order_pager_two : (r t : PagerRec) → o ++ new_names s (pager_more t (pager_more r s)) ≡ (o ++ (Pager, length s.pager) ∷ []) ++ (Pager, length (s.pager ++ r ∷ [])) ∷ []
  order_pager_two r t =
      ap (λ xs. o ++ xs) (five _ _ _ _ _ [] [] [] [] ((Pager, length s.pager) ∷ (Pager, length (s.pager ++ r ∷ [])) ∷ []) (grown_none Guest s.guest) (grown_none FromSource s.source) (grown_none Link s.link) (grown_none Lane s.lane) (grown_two Pager s.pager r t))
      ∙ append_two o (Pager, length s.pager) (Pager, length (s.pager ++ r ∷ []))

-- the halt: the guest's record, and the first two of the source
pub order_halt : (o : List Name) (s : Recorded) (r : GuestRec) (a b : SourceRec) → s.source ≡ [] → o ++ new_names s (source_more b (source_more a (guest_more r s))) ≡ ((o ++ (Guest, length s.guest) ∷ []) ++ (FromSource, length s.source) ∷ []) ++ (FromSource, length (s.source ++ a ∷ [])) ∷ []
order_halt o s r a b e =
    ap (λ xs. o ++ xs) (five _ _ _ _ _ ((Guest, length s.guest) ∷ []) ((FromSource, length s.source) ∷ (FromSource, length (s.source ++ a ∷ [])) ∷ []) [] [] [] (grown_one Guest s.guest r) (grown_two FromSource s.source a b) (grown_none Link s.link) (grown_none Lane s.lane) (grown_none Pager s.pager))
    ∙ three o
  where
    three : (o : List Name) → o ++ ((Guest, length s.guest) ∷ (FromSource, length s.source) ∷ (FromSource, length (s.source ++ a ∷ [])) ∷ []) ≡ ((o ++ (Guest, length s.guest) ∷ []) ++ (FromSource, length s.source) ∷ []) ++ (FromSource, length (s.source ++ a ∷ [])) ∷ []
    three [] = refl
    three (x ∷ o) = ap (λ ys. x ∷ ys) (three o)
