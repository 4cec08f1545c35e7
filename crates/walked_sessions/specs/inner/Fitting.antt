-- A recording that is given a version, a size and more pages.
use Rattle.std.specs.Prelude.{List, ◌++◌}
use Rattle.migration_types.specs.declared.pages.InitPage.{InitPage}
use Rattle.migration_types.specs.declared.size.Size.{Size}
use Rattle.migration_types.specs.declared.version.Version.{Version}
use Rattle.migration_types.specs.Sessions.{Recorded}
use Rattle.walked_sessions.specs.Made.{sized}

-- a recording, in this version and of this size
abbrev pub in_form : Version → Size → Recorded → Recorded
in_form version size d = record { version = version; geometry = sized size d.geometry; init = d.init; guest = d.guest; source = d.source; link = d.link; lane = d.lane; pager = d.pager }

-- a recording, with more initial pages after its own
abbrev pub with_pages : List InitPage → Recorded → Recorded
with_pages more d = record { version = d.version; geometry = d.geometry; init = d.init ++ more; guest = d.guest; source = d.source; link = d.link; lane = d.lane; pager = d.pager }
