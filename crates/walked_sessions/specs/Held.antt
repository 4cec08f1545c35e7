-- A recording that is held.
use Rattle.std.specs.Prelude.{◌≡◌, Option, Some, None}
use Rattle.migration_types.specs.Sessions.{Recorded}
use Rattle.walked_sessions.specs.declared.held.HeldRecording.{HeldRecording}
use Rattle.walked_sessions.specs.declared.kept.Kept.{Kept}
use Rattle.walked_sessions.specs.Fitting.{Fits}
use Rattle.walked_sessions.specs.Kept.{IsKept}
use Rattle.walked_sessions.specs.Needs.{IsNever}

-- all of it is kept; or nothing is, and it is a session in no version and of no size
abbrev pub IsKeptIn : Option Kept → Recorded → Type 0
IsKeptIn None d = IsNever (Fits d)
IsKeptIn (Some kept) d = IsKept kept d

-- this recording is held, if a session has room for it
abbrev pub IsHeld : HeldRecording → Recorded → Type 0
IsHeld held d = IsKeptIn held.kept d

-- nothing was met
abbrev pub IsEmpty : HeldRecording → Type 0
IsEmpty held = held.kept ≡ None

-- some recording is held
abbrev pub HasMet : HeldRecording → Type 0
HasMet held = (d : Recorded) × IsHeld held d
