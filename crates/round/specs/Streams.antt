-- How a stream of orders stands among others.
use Rattle.std.specs.Prelude.{◌≡◌, ℕ, ◌+◌, ◌*◌, ◌/◌, ◌%◌, ◌<◌, List, [], ◌∷◌, ◌++◌, length, slice_index}

-- how many bytes before a stream tell its length
abbrev pub length_bytes : ℕ
length_bytes = 2

-- a length in two bytes, the high byte first
abbrev pub two_bytes : ℕ → List ℕ
two_bytes n = n / 256 ∷ n % 256 ∷ []

-- the length that the first two of some bytes tell
abbrev pub told_length : List ℕ → ℕ
told_length bytes = slice_index bytes 0 * 256 + slice_index bytes 1

-- some bytes begin with a stream, after its length, and go on with others
abbrev pub StartsWith : List ℕ → List ℕ → List ℕ → Type 0
StartsWith bytes stream after = bytes ≡ two_bytes (length stream) ++ (stream ++ after)

-- some bytes end before the stream that they begin with
abbrev pub IsCut : List ℕ → Type 0
IsCut bytes = length bytes < length_bytes + told_length bytes
