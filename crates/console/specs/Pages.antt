-- A stream in pieces, and what is written of it on a page.
use Rattle.std.specs.Prelude.{ℕ, List, take, Result, IfOk, flat_map}
use Rattle.std.specs.Borrow.{Bor}

-- the bytes of some pieces, one after the other
abbrev pub joined : List (Bor (List ℕ)) → List ℕ
joined = flat_map (λ piece. piece.now)

-- the first bytes of a page, as many as are told, are such a text
abbrev pub OnPage : {E : Type 0} → Result ℕ E → List ℕ → (List ℕ → Type 0) → Type 0
OnPage told page Text = IfOk told (λ n. Text (take n page))
