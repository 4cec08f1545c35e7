-- Words that ask for something do not clash; and which error words have that are refused.
use Rattle.std.proofs.Common.{◌≡◌, ◌≢◌, ◌∙◌, ◌<◌, ◌⊎◌, Bool, true, false, List, [], None, Option, Some, inl, inr, refl, sym, subst, cond, length, option_and_then}
use Rattle.std.specs.Option.{option_map_or}
use Rattle.clap.specs.Words.{HasKind, IsAmong, Row, Text, kind_of, subcommand_of}
use Rattle.clap.specs.declared.error.Error.{Error}
use Rattle.clap.specs.declared.error.kind.ErrorKind.{ErrorKind}
use Rattle.clap.specs.declared.error.kind.ErrorKind.TheVariants.{OutOfMemory}
use Rattle.command_words.specs.declared.requests.Request.{Request}
use Rattle.command_words.specs.declared.requests.Lacking.{Lacking}
use Rattle.command_words.specs.declared.requests.Lists.{Lists}
use Rattle.command_words.specs.Words.{AreAccepted, AreRefused, IsKindFor, asked, asked_in, asked_of, clashes, clashing, error_kinds, folders_asked, folders_given, folders_in, postcopy_words, several_asked, several_given, several_in}

-- what is asked for unless something holds, does not hold where it is asked for
unless : {X : Type 0} (b : Bool) (found : Option X) (x : X) → cond b None found ≡ Some x → b ≡ false
unless true found x e = absurd cc
unless false found x e = refl

found_alike : (found : Option (Text × List Row)) (job : Request Text) → option_and_then asked_in found ≡ Some job → option_map_or (λ (given : Text × List Row). clashes given.1) found false ≡ false
found_alike None job e = refl
found_alike (Some given) job e = unless (clashes given.1) (asked_of given) job e

several_alike : (found : Option (Text × List Row)) (several : Lists × List Text) → option_and_then several_in found ≡ Some several → option_map_or (λ (given : Text × List Row). clashes given.1) found false ≡ false
several_alike None several e = refl
several_alike (Some given) several e = unless (clashes given.1) (several_given given) several e

folders_alike : (found : Option (Text × List Row)) (folders : Lacking × List Text) → option_and_then folders_in found ≡ Some folders → option_map_or (λ (given : Text × List Row). clashes given.1) found false ≡ false
folders_alike None folders e = refl
folders_alike (Some given) folders e = unless (clashes given.1) (folders_given given) folders e

-- words that ask for a command
pub asked_alike : (words : List Text) (job : Request Text) → asked words ≡ Some job → clashing words ≡ false
asked_alike words job e = found_alike (subcommand_of postcopy_words words) job e

-- and for the audit of several sessions
pub several_asked_alike : (words : List Text) (several : Lists × List Text) → several_asked words ≡ Some several → clashing words ≡ false
several_asked_alike words several e = several_alike (subcommand_of postcopy_words words) several e

-- and for the session of the files in folders
pub folders_asked_alike : (words : List Text) (folders : Lacking × List Text) → folders_asked words ≡ Some folders → clashing words ≡ false
folders_asked_alike words folders e = folders_alike (subcommand_of postcopy_words words) folders e

-- an error of the command line is one for the words, or memory ran out
pub kind_of_line : (words : List Text) (error : Error) → HasKind (error_kinds words) error → (kind_of error ≡ OutOfMemory) ⊎ IsKindFor words (kind_of error)
kind_of_line words error (inl memory) = inl memory
kind_of_line words error (inr among) = inr (inl among)

-- if memory does not run out, it is one for the words
pub kind_alone : (words : List Text) (kind : ErrorKind) → kind ≢ OutOfMemory → (kind ≡ OutOfMemory) ⊎ IsKindFor words kind → IsKindFor words kind
kind_alone words kind other (inl memory) = absurd (other memory)
kind_alone words kind other (inr is) = is

-- words that are accepted have no error
pub no_kind : (words : List Text) (kind : ErrorKind) → AreAccepted words → IsKindFor words kind → ⊥
no_kind words kind accepted (inl among) = absurd (subst (IsAmong kind) accepted.0 among)
no_kind words kind accepted (inr (none, clashes, why)) = let both : true ≡ false = sym clashes ∙ accepted.1 in absurd cc

-- words that are accepted are not refused
pub not_refused : (words : List Text) (P : Type 0) → (1 < length words → error_kinds words ≡ []) → clashing words ≡ false → AreRefused words → P
not_refused words P accepted alike (more, inl fault) = absurd (fault (accepted more))
not_refused words P accepted alike (more, inr clash) = let clashes : true ≡ false = sym clash ∙ alike in absurd cc
