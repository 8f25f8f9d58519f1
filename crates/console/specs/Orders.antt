-- The orders that a stream of bytes spells.
use Rattle.std.specs.Prelude.{◌≡◌, ℕ, Bool, true, false, not, ◌||◌, List, [], ◌∷◌, ◌++◌, length, ◌==◌}
use Rattle.sheet.specs.declared.call.Call.{Call}
use Rattle.sheet.specs.declared.call.Call.TheVariants.{Enter, Correct, Strike, Stock, Design, Read, Count}
use Rattle.console.specs.Letters.{enter_letter, correct_letter, strike_letter, stock_letter, design_letter}

-- a stream begins with the order of this call, and goes on with the rest: a letter, then single
-- bytes; a card has its length before it; a mark goes out where the last byte is 0, and comes in
-- where it is another
abbrev pub Begins : List ℕ → Call → List ℕ → Type 0
Begins stream (Enter p card) rest =
    stream ≡ enter_letter ∷ p ∷ length card.now ∷ (card.now ++ rest)
Begins stream (Correct p card) rest =
    stream ≡ correct_letter ∷ p ∷ length card.now ∷ (card.now ++ rest)
Begins stream (Strike p) rest = stream ≡ strike_letter ∷ p ∷ rest
Begins stream (Stock kind mark is-in) rest =
    (value : ℕ)
    × ((stream ≡ stock_letter ∷ kind ∷ mark ∷ value ∷ rest) × (is-in ≡ not (value == 0)))
Begins stream (Design p) rest = stream ≡ design_letter ∷ p ∷ rest
Begins stream (Read p) rest = ⊥
Begins stream Count rest = ⊥

-- no order stands there whole
abbrev pub NoOrder : List ℕ → Type 0
NoOrder stream = (call : Call) (rest : List ℕ) → Begins stream call rest → ⊥

-- a stream begins with the orders of these calls, one after the other, and goes on with the rest
abbrev pub Leaves : List ℕ → List Call → List ℕ → Type 0
Leaves stream [] rest = stream ≡ rest
Leaves stream (call ∷ calls) rest =
    (mid : List ℕ) × (Begins stream call mid × Leaves mid calls rest)

-- whether an order begins with this letter
abbrev pub is_letter : ℕ → Bool
is_letter b =
    b == enter_letter || b == correct_letter || b == strike_letter || b == stock_letter
    || b == design_letter

-- whether these bytes begin with such a letter, where there are any
abbrev pub begins_known : List ℕ → Bool
begins_known [] = true
begins_known (b ∷ bytes) = is_letter b

-- a stream spells some orders, and then comes a letter that no order has
abbrev pub IsStopped : List ℕ → Type 0
IsStopped stream =
    (calls : List Call)
    × ((rest : List ℕ) × (Leaves stream calls rest × (begins_known rest ≡ false)))
