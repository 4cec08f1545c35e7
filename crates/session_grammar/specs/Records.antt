-- The lines of the parties' records. Numbers are in decimal, with no leading zero. One space (32) separates them.
-- CONTENTS has sixteen lower-case hexadecimal digits for each cell of a page. NUMBER is the number of another record.
--     the guest's log                  the source's log         the pager's log
--     r VCPU PAGE CELL VALUE           halted NUMBER            got NUMBER
--     w VCPU PAGE CELL VALUE           state                    ready
--     z VCPU PAGE                      send PAGE CONTENTS       fault NUMBER
--     miss VCPU PAGE                   again NUMBER             join NUMBER
--     halt                             ask NUMBER               want PAGE
--     resume NUMBER                    done                     place PAGE NUMBER CONTENTS
--     see NUMBER                       back, in the third       zero PAGE
--                                        version alone          skip NUMBER
--                                      the link's log           all
--                                      down NUMBER              pull NUMBER, in the second version alone
--                                      up NUMBER
--                                      the lane's log
--                                      down NUMBER
use Rattle.std.specs.Prelude.{ℕ, List, ◌∷◌, ◌++◌, codes}
use Rattle.std.specs.Fmt.{decimal}
use Rattle.text_lines.specs.Contents.{contents_text}
use Rattle.migration_types.specs.declared.records.GuestRec.{GuestRec}
use Rattle.migration_types.specs.declared.records.GuestRec.TheVariants.{Read, Write, Release, Miss, Halt, Resume, See}
use Rattle.migration_types.specs.declared.records.SourceRec.{SourceRec}
use Rattle.migration_types.specs.declared.records.SourceRec.TheVariants.{Halted, State, Send, Again, Ask, Done, Back}
use Rattle.migration_types.specs.declared.records.LinkRec.{LinkRec}
use Rattle.migration_types.specs.declared.records.LinkRec.TheVariants.{Down, Up}
use Rattle.migration_types.specs.declared.records.LaneRec.{LaneRec}
use Rattle.migration_types.specs.declared.records.LaneRec.TheVariants.{Down as LaneDown}
use Rattle.migration_types.specs.declared.records.PagerRec.{PagerRec}
use Rattle.migration_types.specs.declared.records.PagerRec.TheVariants.{Got, Pull, Ready, Fault, Join, Want, Place, Zero, Skip, All}

abbrev pub access_text : ℕ → ℕ → ℕ → ℕ → List ℕ
access_text vcpu page cell value = decimal vcpu ++ 32 ∷ (decimal page ++ 32 ∷ (decimal cell ++ 32 ∷ decimal value))

-- a virtual processor and a page
abbrev pub vcpu_page_text : ℕ → ℕ → List ℕ
vcpu_page_text vcpu page = decimal vcpu ++ 32 ∷ decimal page

abbrev pub page_text : ℕ → List ℕ → List ℕ
page_text page contents = decimal page ++ 32 ∷ contents_text contents

abbrev pub placed_text : ℕ → ℕ → List ℕ → List ℕ
placed_text page got contents = decimal page ++ 32 ∷ (decimal got ++ 32 ∷ contents_text contents)

-- the beginning of the line with the number of a log's records, for each log
abbrev pub guest_key : List ℕ
guest_key = codes "guest "

abbrev pub source_key : List ℕ
source_key = codes "source "

abbrev pub guest_line : GuestRec → List ℕ
guest_line (Read vcpu page cell value) = codes "r " ++ access_text vcpu page cell value
guest_line (Write vcpu page cell value) = codes "w " ++ access_text vcpu page cell value
guest_line (Release vcpu page) = codes "z " ++ vcpu_page_text vcpu page
guest_line (Miss vcpu page) = codes "miss " ++ vcpu_page_text vcpu page
guest_line Halt = codes "halt"
guest_line (Resume ready) = codes "resume " ++ decimal ready
guest_line (See placement) = codes "see " ++ decimal placement

abbrev pub source_line : SourceRec → List ℕ
source_line (Halted halt) = codes "halted " ++ decimal halt
source_line State = codes "state"
source_line (Send page contents) = codes "send " ++ page_text page contents
source_line (Again sending) = codes "again " ++ decimal sending
source_line (Ask up) = codes "ask " ++ decimal up
source_line Done = codes "done"
source_line Back = codes "back"

abbrev pub link_key : List ℕ
link_key = codes "link "

abbrev pub lane_key : List ℕ
lane_key = codes "lane "

abbrev pub link_line : LinkRec → List ℕ
link_line (Down sending) = codes "down " ++ decimal sending
link_line (Up asking) = codes "up " ++ decimal asking

abbrev pub lane_line : LaneRec → List ℕ
lane_line (LaneDown sending) = codes "down " ++ decimal sending

abbrev pub pager_line : PagerRec → List ℕ
pager_line (Got down) = codes "got " ++ decimal down
pager_line (Pull down) = codes "pull " ++ decimal down
pager_line Ready = codes "ready"
pager_line (Fault miss) = codes "fault " ++ decimal miss
pager_line (Join want) = codes "join " ++ decimal want
pager_line (Want page) = codes "want " ++ decimal page
pager_line (Place page got contents) = codes "place " ++ placed_text page got contents
pager_line (Zero page) = codes "zero " ++ decimal page
pager_line (Skip got) = codes "skip " ++ decimal got
pager_line All = codes "all"

abbrev pub pager_key : List ℕ
pager_key = codes "pager "
