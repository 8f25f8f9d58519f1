-- Faults of a card, and what it is to answer with one.
use Rattle.std.specs.Prelude.{◌≡◌, ℕ, ◌+◌, Bool, cond, Some, None, Ok, Err, Option, Result}
use Rattle.card.specs.Layout.{map_bytes}
use Rattle.card.specs.declared.fault.Fault.{Fault}
use Rattle.card.specs.declared.fault.FaultKind.{FaultKind}
use Rattle.card.specs.declared.fault.FaultKind.TheVariants.{BytesMissing, UnknownBit, RequiredBitAbsent, BytesOver, OutOfRange}

-- the numbers under which faults are reported
abbrev pub fault_number : FaultKind → ℕ
fault_number BytesMissing = 4
fault_number UnknownBit = 5
fault_number RequiredBitAbsent = 6
fault_number BytesOver = 7
fault_number OutOfRange = 8

-- a fault of a kind at a byte of the card
abbrev pub fault : FaultKind → ℕ → Fault
fault kind place = record { kind = kind; place = place }

-- the fault of a number that begins `at` bytes after the map, none where the number is in range
abbrev pub range_fault : Bool → ℕ → Option Fault
range_fault fine at = cond fine None (Some (fault OutOfRange (map_bytes + at)))

-- the first of two faults
abbrev pub first : Option Fault → Option Fault → Option Fault
first None later = later
first (Some e) later = Some e

-- an answer where `found` is the first fault, if any: that fault, or a value that is as it should
-- be
abbrev pub Answers : {T : Type 0} → Option Fault → (T → Type 0) → Result T Fault → Type 0
Answers found Is (Ok x) = (found ≡ None) × Is x
Answers found Is (Err e) = found ≡ Some e
