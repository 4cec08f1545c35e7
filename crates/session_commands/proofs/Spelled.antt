-- The text of a session, as it is made and written.
use Rattle.std.proofs.Common.{◌≡◌, ℕ, List, [], Option, refl}
use Rattle.command_words.specs.declared.requests.Lacking.{Lacking}
use Rattle.command_words.specs.declared.requests.Lacking.TheVariants.{Refused}
use Rattle.walked_sessions.specs.Walks.{IsRecordingOf}
use Rattle.walked_sessions.specs.Written.{text_of, Writes}
use Rattle.session_commands.specs.declared.found.FoundLogs.{FoundLogs}
use Rattle.session_commands.specs.declared.making.Known.{Known}
use Rattle.session_commands.specs.Files.{WritesText, bytes_in}
use Rattle.session_commands.specs.inner.Seen.{IsKnown}

-- what was appended is the text of a session
pub written : (lacking : Lacking) (files : List ℕ → Option (List ℕ)) (logs : FoundLogs) (known : Known) (count : ℕ) (old new : Option (List ℕ)) → IsKnown files logs known → (lacking ≡ Refused → known.said.items ≡ []) → Writes (λ s. IsRecordingOf known.machine known.init.items (bytes_in files logs) s) old new known.front count → WritesText files logs lacking old new
written lacking files logs known count old new is asked w = (
  text_of known.front w.s,
  record {
    machine = known.machine;
    init = known.init.items;
    front = known.front;
    chosen = is.chosen;
    whole = λ refused. is.whole (asked refused);
    s = w.s;
    made = w.is;
    spelled = refl;
  },
  w.text,
)
