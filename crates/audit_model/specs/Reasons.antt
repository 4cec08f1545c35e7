-- The reasons of faults, in their order, with the word of each and its place.
use Rattle.std.specs.Prelude.{ℕ, List, [], ◌∷◌, codes}
use Rattle.audit_model.specs.declared.reasons.ShapeReason.{ShapeReason}
use Rattle.audit_model.specs.declared.reasons.ShapeReason.TheVariants.{Phases, Named, Start, SecondSend, Both}
use Rattle.audit_model.specs.declared.reasons.PageReason.{PageReason}
use Rattle.audit_model.specs.declared.reasons.PageReason.TheVariants.{Read, Early, Given, Stale, Twice, Altered, Unfit, Over}

-- the reasons why a record does not have the right shape; if there are several, the first counts
abbrev pub shape_reasons : List ShapeReason
shape_reasons = Phases ∷ Named ∷ Start ∷ SecondSend ∷ Both ∷ []

-- the place of a shape reason among these
abbrev pub rank : ShapeReason → ℕ
rank Phases = 0
rank Named = 1
rank Start = 2
rank SecondSend = 3
rank Both = 4

-- the word of a shape reason
abbrev pub shape_word : ShapeReason → List ℕ
shape_word Phases = codes "phases"
shape_word Named = codes "named"
shape_word Start = codes "start"
shape_word SecondSend = codes "second-send"
shape_word Both = codes "both"

-- the reasons why a record is a fault of its page; if there are several, the first counts
abbrev pub page_reasons : List PageReason
page_reasons = Read ∷ Early ∷ Given ∷ Stale ∷ Twice ∷ Altered ∷ Unfit ∷ Over ∷ []

-- the place of a page reason among these
abbrev pub page_rank : PageReason → ℕ
page_rank Read = 0
page_rank Early = 1
page_rank Given = 2
page_rank Stale = 3
page_rank Twice = 4
page_rank Altered = 5
page_rank Unfit = 6
page_rank Over = 7

-- the word of a page reason
abbrev pub page_word : PageReason → List ℕ
page_word Read = codes "read"
page_word Early = codes "early"
page_word Given = codes "given"
page_word Stale = codes "stale"
page_word Twice = codes "twice"
page_word Altered = codes "altered"
page_word Unfit = codes "unfit"
page_word Over = codes "over"
