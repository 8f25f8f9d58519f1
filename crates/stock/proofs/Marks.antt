-- Marks in stock.
use Rattle.std.proofs.Common.{◌≡◌, Bool, true, false, List, [], ◌∷◌, refl}
use Rattle.std.specs.Bool.{beq}
use Rattle.std.specs.List.{list_any}
use Rattle.stock.specs.Stock.{some_in}

-- whether a row contains true is whether some mark of it is in
pub some_from_contains : (marks : List Bool) → list_any (λ y. beq y true) marks ≡ some_in marks
some_from_contains [] = refl
some_from_contains (true ∷ marks) = refl
some_from_contains (false ∷ marks) = some_from_contains marks
