-- The session that a recording makes.
use Rattle.std.specs.Prelude.{List, ◌++◌}
use Rattle.migration_types.specs.declared.pages.InitPage.{InitPage}
use Rattle.migration_types.specs.declared.size.Size.{Size}
use Rattle.migration_types.specs.declared.version.Version.{Version}
use Rattle.migration_types.specs.Extents.{Extent}
use Rattle.migration_types.specs.Sessions.{Recorded}

-- a machine with as many pages and cells, of this size
abbrev pub sized : Size → Extent → Extent
sized size e = record { size = size; pages = e.pages; cells = e.cells }

-- a recording, in this version and of this size, with more initial pages after its own
abbrev pub session_of : Version → Size → List InitPage → Recorded → Recorded
session_of version size more d = record { version = version; geometry = sized size d.geometry; init = d.init ++ more; guest = d.guest; source = d.source; link = d.link; lane = d.lane; pager = d.pager }
