-- What is taken from a reader and printed on a sink, of which something is known. Where nothing is known
-- of the one or the other, nothing is said of it.
use Rattle.std.specs.Prelude.{◌≡◌, ◌⊎◌, ℕ, ◌≤◌, List, [], ◌++◌, length, Some, Option, IfSome}
use Rattle.std.specs.Io.KnownBytes.{Appends}
use Rattle.rebar.specs.declared.beam.Beam.{Beam}
use Rattle.rebar.specs.declared.cage.Cage.{Cage}
use Rattle.console.specs.Orders.{IsStopped}
use Rattle.console.specs.Printed.{ShowsLightest, IsOnlyText}

-- what is known of a sink grows by what is printed of these bytes: by that text and no other, and
-- every line of its bill shows the lightest cage
pub record Prints (pile : Beam → Cage → ℕ) (stream : List ℕ) (old new : Option (List ℕ))
    : Type 0 where
  pub text : List ℕ
  pub shows : ShowsLightest pile stream text
  pub alone : IsOnlyText pile stream text
  pub printed : Appends old new text

-- the same, where the bytes are known
abbrev pub PrintsKnown :
    (Beam → Cage → ℕ) → Option (List ℕ) → Option (List ℕ) → Option (List ℕ) → Type 0
PrintsKnown pile known old new = IfSome known (λ stream. Prints pile stream old new)

-- these bytes come after a stream, and some are left of them: none, or a letter that no order has has come;
-- before the last piece, of `most` bytes at most, it had not
pub record LeavesUnread (most : ℕ) (stream bytes left : List ℕ) : Type 0 where
  pub front : List ℕ
  pub piece : List ℕ
  pub taken : bytes ≡ (front ++ piece) ++ left
  pub small : length piece ≤ most
  pub going : IsStopped (stream ++ front) → ⊥
  pub ended : (left ≡ []) ⊎ IsStopped (stream ++ (front ++ piece))

-- a reader of known bytes is read to its end, or until a letter has come that no order has
abbrev pub ReadsUntilStop : ℕ → Option (List ℕ) → Option (List ℕ) → Type 0
ReadsUntilStop most known known' =
    IfSome known
    (λ bytes. (left : List ℕ) × ((known' ≡ Some left) × LeavesUnread most [] bytes left))
