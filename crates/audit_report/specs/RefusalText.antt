-- The line that says where a text is refused.
use Rattle.std.specs.Prelude.{ℕ, List, [], ◌∷◌, ◌++◌, codes}
use Rattle.std.specs.Fmt.{decimal}

-- the line for a session's text, as in "session-text line 7"
abbrev pub refusal_text : ℕ → List ℕ
refusal_text line = codes "session-text line " ++ decimal line ++ 10 ∷ []

-- the line for a certificate's text, as in "certificate-text line 7"
abbrev pub certificate_refusal_text : ℕ → List ℕ
certificate_refusal_text line = codes "certificate-text line " ++ decimal line ++ 10 ∷ []
