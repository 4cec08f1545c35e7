use Rattle.std.proofs.Common.{◌≡◌, ◌⊎◌, ℕ, inl, inr, subst, sym}
use Rattle.std.proofs.lemmas.Bool.{cases_eq}
use Rattle.std.proofs.lemmas.Option.{slice_get_within}
use Rattle.recorder_files.specs.Gathered.{Has}
use Rattle.recorder_files.specs.inner.Turns.{Waits}
use Rattle.recorder_files.proofs.turns.Turns.pass.Goals as goal

pub returns-in_err-add : goal.returns-in_err-add
returns-in_err-add c = record { kept = c.add.ensures.kept; wait = λ j n has other. c.add.ensures.others n j (slice_get_within c.args.heads.now j _ has) (c.requires.wait j n has other) }

pub returns : goal.returns
returns c = record { kept = c.remove-self.ensures.kept; wait = λ j n has other. c.remove-self.ensures.others n j other (go j n has (cases_eq j c.args.self.now.last)) }
  where
    go : (j n : ℕ) → Has c.args.heads.now j n → (j ≡ c.args.self.now.last) ⊎ (j ≡ c.args.self.now.last → ⊥) → Waits c.add.new.self n j
    go j n has (inl same) = subst (λ i. Waits c.add.new.self n i) (sym same) (c.in_ok-add.ensures.waits n (subst (λ i. Has c.args.heads.now i n) same has))
    go j n has (inr other) = c.add.ensures.others n j (slice_get_within c.args.heads.now j _ has) (c.requires.wait j n has other)
