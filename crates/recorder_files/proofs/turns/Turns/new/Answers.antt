use Rattle.std.proofs.Common.{◌≡◌, ◌<◌, ◌≤◌, ◌+◌, ◌⊎◌, ℕ, inl, inr, subst, sym, arith}
use Rattle.std.proofs.lemmas.Bool.{cases_lt}
use Rattle.std.proofs.lemmas.Option.{slice_get_within}
use Rattle.recorder_files.specs.Gathered.{Has}
use Rattle.recorder_files.specs.inner.Turns.{Waits}
use Rattle.recorder_files.proofs.turns.Turns.new.Goals as goal

pub loop-file-preserved : goal.loop-file-preserved
loop-file-preserved c = record { kept = c.add.ensures.kept; wait = λ j n more less has. go j n more less has (cases_lt j c.loop-file.file) }
  where
    go : (j n : ℕ) → 0 < j → j < c.loop-file.file + 1 → Has c.args.heads.now j n → (j < c.loop-file.file) ⊎ (c.loop-file.file ≤ j) → Waits c.add.new.self n j
    go j n more less has (inl lt) = c.add.ensures.others n j (slice_get_within c.args.heads.now j _ has) (c.loop-file.invariant.wait j n more lt has)
    go j n more less has (inr le) = let same : c.loop-file.file ≡ j = omega (arith, less, le) in subst (λ i. Waits c.add.new.self n i) same (c.in_ok-add.ensures.waits n (subst (λ i. Has c.args.heads.now i n) (sym same) has))

pub returns : goal.returns
returns c = record { kept = c.loop-file.invariant.kept; wait = λ j n has other. let within = slice_get_within c.args.heads.now j _ has in c.loop-file.invariant.wait j n (omega (arith, other)) (omega (arith, within, c.loop-file-test.false)) has }
