-- Pieces that a taker takes one after another.
use Rattle.std.proofs.Common.{true, ◌∷◌, ◌≡◌, ℕ, ◌+◌, ◌≤◌, ◌⊎◌, inl, inr, append_assoc, List, [], ◌++◌, length, refl, sym, ap, ◌∙◌, subst, length-append, arith}
use Rattle.std.proofs.lemmas.List.{append-nil}
use Rattle.std.specs.Prelude.{codes, Option, Some, None, IfSome, Result, Ok, Err, OnOk}
use Rattle.std.specs.Io.KnownBytes.{Consumes, IsAtEnd}
use Rattle.std.proofs.KnownBytes.{Consumes-all, Consumes-nil, Consumes-trans}
use Rattle.command_texts.specs.Limits.{BeginsWith, MayBeLong, IsWithin, begins_with_digit}
use Rattle.command_texts.specs.Told.{AreRead}
use Rattle.command_texts.specs.inner.Takings.{Takes, TakesAll}
use Rattle.command_texts.proofs.WhatIsRead.{more_taken}

-- nothing came yet
pub takes_nothing : {T : Type 0} (Came : T → List ℕ → Type 0) (most : ℕ) (known : Option (List ℕ)) (taker : T) → Takes Came most most known known taker taker
takes_nothing Came most known taker = record {
  bytes = [];
  within = omega arith;
  consumed = Consumes-nil known;
  taken = λ before came. subst (Came taker) (sym (append-nil before)) came;
}

-- one piece more
pub takes_more : {T : Type 0} (Came : T → List ℕ → Type 0) (most left less : ℕ) (known mid rest : Option (List ℕ)) (old now new : T) (piece : List ℕ) → Takes Came most left known mid old now → Consumes mid rest piece → less + length piece ≡ left → ((text : List ℕ) → Came now text → Came new (text ++ piece)) → Takes Came most less known rest old new
takes_more Came most left less known mid rest old now new piece yet consumed fits taken = record {
  bytes = yet.bytes ++ piece;
  within = omega (arith, yet.within, length-append yet.bytes piece);
  consumed = Consumes-trans known mid rest yet.bytes piece yet.consumed consumed;
  taken = more_taken Came old now new yet.bytes piece yet.taken taken;
}

-- all that was there
pub takes_whole : {T : Type 0} (Came : T → List ℕ → Type 0) (most left : ℕ) (known rest : Option (List ℕ)) (old new : T) → Takes Came most left known rest old new → IsAtEnd rest → TakesAll Came most known old new
takes_whole Came most left known rest old new yet at_end = record {
  bytes = yet.bytes;
  few = omega (arith, yet.within);
  whole = Consumes-all known rest yet.bytes [] yet.bytes yet.consumed at_end refl;
  taken = yet.taken;
}

whole_behind : (known rest : Option (List ℕ)) (front back : List ℕ) → Consumes known rest front → IfSome rest (λ xs. back ≡ xs) → IfSome known (λ xs. front ++ back ≡ xs)
whole_behind None rest front back consumed is = tt
whole_behind (Some xs) None front back consumed is = absurd consumed
whole_behind (Some xs) (Some ys) front back consumed is = ap (λ (l : List ℕ). front ++ l) is ∙ sym consumed

-- some, and then all that was left
pub takes_rest : {T : Type 0} (Came : T → List ℕ → Type 0) (most left : ℕ) (known rest : Option (List ℕ)) (old now new : T) → Takes Came most left known rest old now → TakesAll Came left rest now new → TakesAll Came most known old new
takes_rest Came most left known rest old now new yet all = record {
  bytes = yet.bytes ++ all.bytes;
  few = omega (arith, yet.within, all.few, length-append yet.bytes all.bytes);
  whole = whole_behind known rest yet.bytes all.bytes yet.consumed all.whole;
  taken = more_taken Came old now new yet.bytes all.bytes yet.taken (λ text came. all.taken text came);
}

begins_front : (key front rest : List ℕ) → BeginsWith key front → BeginsWith key (front ++ rest)
begins_front key front rest b = (b.0 ++ rest, ap (λ (l : List ℕ). l ++ rest) b.1 ∙ append_assoc key b.0 rest)

digit_front : (front rest : List ℕ) → begins_with_digit front ≡ true → begins_with_digit (front ++ rest) ≡ true
digit_front [] rest b = absurd (cc)
digit_front (code ∷ front) rest b = b

-- a text may be long where its front says so
long_front : (front rest : List ℕ) → MayBeLong front → MayBeLong (front ++ rest)
long_front front rest (inl b) = inl (begins_front (codes "postcopy-session 3\n") front rest b)
long_front front rest (inr (inl b)) = inr (inl (begins_front (codes "postcopy-certificate 3\n") front rest b))
long_front front rest (inr (inr (inl b))) = inr (inr (inl (begins_front (codes "postcopy-runs 1\n") front rest b)))
long_front front rest (inr (inr (inr (inl b)))) = inr (inr (inr (inl (begins_front (codes "clean\npostcopy-certificate 3\n") front rest b))))
long_front front rest (inr (inr (inr (inr (inl b))))) = inr (inr (inr (inr (inl (begins_front (codes "faulty line ") front rest b)))))
long_front front rest (inr (inr (inr (inr (inr b))))) = inr (inr (inr (inr (inr (digit_front front rest b)))))

-- a first piece that is all that was there is the text that was read
pub first_taken : {T : Type 0} (Came : T → List ℕ → Type 0) (known rest : Option (List ℕ)) (old new : T) (piece : List ℕ) → Consumes known rest piece → IsAtEnd rest → length piece ≤ 268435456 → ((text : List ℕ) → Came old text → Came new (text ++ piece)) → (text : List ℕ) × AreRead known text × (Came old [] → Came new text)
first_taken Came known rest old new piece consumed at_end few taken = (piece, record { few = inl few; whole = Consumes-all known rest piece [] piece consumed at_end refl }, λ came. taken [] came)

-- and so is a first piece with all that was left
pub rest_taken : {E : Type 0} (r : Result (Unit {0}) E) {T : Type 0} (Came : T → List ℕ → Type 0) (left : ℕ) (known mid : Option (List ℕ)) (old now new : T) (piece : List ℕ) → Consumes known mid piece → (left + length piece ≡ 268435456) ⊎ ((left + length piece ≡ 17179869184) × MayBeLong piece) → ((text : List ℕ) → Came old text → Came now (text ++ piece)) → OnOk r (TakesAll Came left mid now new) → OnOk r ((text : List ℕ) × AreRead known text × (Came old [] → Came new text))
rest_taken (Ok v) Came left known mid old now new piece consumed room taken h = (piece ++ h.bytes, record { few = within room; whole = whole_behind known mid piece h.bytes consumed h.whole }, λ came. h.taken piece (taken [] came))
  where
    within : (left + length piece ≡ 268435456) ⊎ ((left + length piece ≡ 17179869184) × MayBeLong piece) → IsWithin (piece ++ h.bytes)
    within (inl e) = inl (omega (arith, e, h.few, length-append piece h.bytes))
    within (inr e) = inr (omega (arith, e.0, h.few, length-append piece h.bytes), long_front piece h.bytes e.1)
rest_taken (Err e) Came left known mid old now new piece consumed room taken h = tt
