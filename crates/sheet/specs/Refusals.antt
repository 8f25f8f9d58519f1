-- The numbers of a sheet's refusals, and their byte places.
use Rattle.std.specs.Prelude.{ℕ}
use Rattle.card.specs.Faults.{fault_number}
use Rattle.sheet.specs.declared.refusal.Refusal.{Refusal}
use Rattle.sheet.specs.declared.refusal.Refusal.TheVariants.{NoSuchPlace, PlaceTaken, PlaceEmpty, Card, NoSuchMark, NothingInStock}

-- the number under which a refusal is reported; a card's fault has its own
abbrev pub refusal_number : Refusal → ℕ
refusal_number NoSuchPlace = 1
refusal_number PlaceTaken = 2
refusal_number PlaceEmpty = 3
refusal_number (Card fault) = fault_number fault.kind
refusal_number NoSuchMark = 9
refusal_number NothingInStock = 10

-- only a card's fault has one
abbrev pub byte_place : Refusal → ℕ
byte_place NoSuchPlace = 0
byte_place PlaceTaken = 0
byte_place PlaceEmpty = 0
byte_place (Card fault) = fault.place
byte_place NoSuchMark = 0
byte_place NothingInStock = 0
