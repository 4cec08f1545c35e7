-- The text of a session, made of its parts.
use Rattle.std.specs.Prelude.{ℕ, List, [], ◌∷◌, ◌++◌, length, map}
use Rattle.std.specs.Fmt.{decimal}
use Rattle.migration_types.specs.declared.version.Version.{Version}
use Rattle.migration_types.specs.declared.version.Version.TheVariants.{One, Two}
use Rattle.migration_types.specs.Sessions.{Recorded}
use Rattle.session_grammar.specs.Grammar.{page_line}
use Rattle.session_grammar.specs.Records.{lane_key, guest_line, source_line, link_line, lane_line, pager_line}
use Rattle.windows.specs.declared.sections.Sections.{Sections}
use Rattle.windows.specs.inner.Met.{IsSection}

-- the lines of this session
pub record AreSections (sections : Sections) (s : Recorded) : Type 0 where
  pub init : IsSection sections.init (map page_line s.init)
  pub guest : IsSection sections.guest (map guest_line s.guest)
  pub source : IsSection sections.source (map source_line s.source)
  pub link : IsSection sections.link (map link_line s.link)
  pub lane : IsSection sections.lane (map lane_line s.lane)
  pub pager : IsSection sections.pager (map pager_line s.pager)

-- the lines of the lane's log, which only the second version has
abbrev pub lane_lines : Version → List (List ℕ) → List (List ℕ)
lane_lines One lines = []
lane_lines Two lines = (lane_key ++ decimal (length lines)) ∷ lines
