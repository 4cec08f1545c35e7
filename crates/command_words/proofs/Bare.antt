-- What is found in fewer than two words.
use Rattle.std.proofs.Common.{◌≡◌, ◌≤◌, List, [], ◌∷◌, None, refl, sym, subst, arith, length}
use Rattle.clap.specs.Words.{Text, subcommand_of}
use Rattle.clap.proofs.OnLiterals.{clap_on_literals}
use Rattle.command_words.specs.declared.requests.AnswerKind.TheVariants.{Report}
use Rattle.command_words.specs.declared.requests.Invocation.{Invocation}
use Rattle.command_words.specs.Readings.{IsFound, IsFoundIn}
use Rattle.command_words.specs.Words.{postcopy_words}

-- they enter no command
enters_none : (words : List Text) → length words ≤ 1 → subcommand_of postcopy_words words ≡ None
unfolding clap_on_literals
enters_none [] le = refl
enters_none (word ∷ []) le = refl
enters_none (word ∷ other ∷ rest) le = absurd (omega arith)

abbrev pub nothing : Invocation
nothing = record { intent = None; targets = record { lines = None; output = None; answer = Report } }

none_in_none : IsFoundIn None nothing
none_in_none = record { job = refl; several = refl; folders = refl; alike = refl; targets = record { names = refl; answer = refl } }

pub nothing_found : (words : List Text) → length words ≤ 1 → IsFound words nothing
nothing_found words le = record {
  asks = subst (λ given. IsFoundIn given nothing) (sym (enters_none words le)) none_in_none;
  bare = λ _. refl;
  accepted = λ more. absurd (omega (arith, more, le));
}
