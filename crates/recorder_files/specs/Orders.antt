-- Orders of the records of a guest, a source and a pager, and the deliveries of a link among them.
use Rattle.std.specs.Prelude.{◌≡◌, ℕ, ◌<◌, ◌⊎◌, List, [], ◌∷◌, ◌++◌, Contains}
use Rattle.std.specs.List.{range_with_len}
use Rattle.recorder_files.specs.declared.delivering.Message.{Message}
use Rattle.recorder_files.specs.declared.delivering.Message.TheVariants.{Down, Up}
use Rattle.recorder_files.specs.Deliveries.{of_pager, delivered}

-- a record, by its number in its log
pub data Rec : Type 0 where
  OfGuest : ℕ → Rec
  OfSource : ℕ → Rec
  OfPager : ℕ → Rec

-- what happens: a record is written, or a message is delivered
pub data Happening : Type 0 where
  Written : Rec → Happening
  Delivered : Message → Happening

-- the record that sends a message
abbrev pub sender : Message → Rec
sender (Down sent taken) = OfSource sent
sender (Up sent taken) = OfPager sent

-- the record that takes it
abbrev pub taker : Message → Rec
taker (Down sent taken) = OfPager taken
taker (Up sent taken) = OfSource taken

-- the numbers of the pager's records in an order
abbrev pub pagers : List Rec → List ℕ
pagers [] = []
pagers (OfGuest n ∷ order) = pagers order
pagers (OfSource n ∷ order) = pagers order
pagers (OfPager n ∷ order) = n ∷ pagers order

-- a record comes before another
abbrev pub Precedes : List Rec → Rec → Rec → Type 0
Precedes [] first next = ⊥
Precedes (r ∷ order) first next = ((r ≡ first) × Contains order next) ⊎ Precedes order first next

-- The pager's records, this many, stand in the order of their log, and each message whose record is among them is sent before it is
-- taken.
pub record IsOrder (messages : List Message) (count : ℕ) (order : List Rec) : Type 0 where
  pub pagers_are : pagers order ≡ range_with_len 0 count
  pub after : (m : Message) → Contains messages m → of_pager m < count → Precedes order (sender m) (taker m)

-- the records among what happens
abbrev pub records_of : List Happening → List Rec
records_of [] = []
records_of (Written r ∷ all) = r ∷ records_of all
records_of (Delivered m ∷ all) = records_of all

-- the messages that are delivered
abbrev pub deliveries_of : List Happening → List Message
deliveries_of [] = []
deliveries_of (Written r ∷ all) = deliveries_of all
deliveries_of (Delivered m ∷ all) = m ∷ deliveries_of all

-- each message is delivered after the record that sends it and before the one that takes it, if these records came before
abbrev pub AreInTime : List Rec → List Happening → Type 0
AreInTime past [] = Unit {0}
AreInTime past (Written r ∷ all) = AreInTime (past ++ r ∷ []) all
AreInTime past (Delivered m ∷ all) = Contains past (sender m) × Contains (records_of all) (taker m) × AreInTime past all

-- the order with the deliveries among its records, each in time
pub record IsWithDeliveries (messages : List Message) (count : ℕ) (order : List Rec) (all : List Happening) : Type 0 where
  pub records : records_of all ≡ order
  pub deliveries : deliveries_of all ≡ delivered messages count
  pub in_time : AreInTime [] all
