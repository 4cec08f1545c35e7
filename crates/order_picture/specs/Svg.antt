-- The text of a picture.
use Rattle.std.specs.Prelude.{◌≡◌, ℕ, List, ◌++◌, codes}
use Rattle.migration_types.specs.declared.cert.Run.{Run}
use Rattle.migration_types.specs.Sessions.{Recorded}
use Rattle.audit_report.specs.declared.report.Report.{Report}
use Rattle.migration_types.specs.declared.topic.Topic.{Topic}
use Rattle.order_picture.specs.declared.picture.Picture.{Picture}
use Rattle.order_picture.specs.Pictures.{IsPicture, IsPictureOf}

-- it begins like an element `svg`, and ends like one, followed by a line end
abbrev pub IsSvg : List ℕ → Type 0
IsSvg text = (inside : List ℕ) × (text ≡ codes "<svg " ++ (inside ++ codes "</svg>\n"))

-- There is a picture of the report on a topic, and the text is SVG. Tests check that it shows this picture.
abbrev pub IsPictureText : Recorded → Report → Topic → List ℕ → Type 0
IsPictureText s r topic text = (p : Picture) × IsPicture s r topic p × IsSvg text

-- There is a picture along these runs, on a topic, and the text is SVG. Tests check that it shows this picture.
abbrev pub IsPictureTextAlong : Recorded → Report → Topic → List Run → List ℕ → Type 0
IsPictureTextAlong s r topic runs text = (p : Picture) × IsPictureOf s r topic runs p × IsSvg text
