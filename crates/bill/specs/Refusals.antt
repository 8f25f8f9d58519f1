-- The numbers of a bill's refusals.
use Rattle.std.specs.Prelude.{ℕ}
use Rattle.bill.specs.declared.refusal.Refusal.{Refusal}
use Rattle.bill.specs.declared.refusal.Refusal.TheVariants.{PageShort, NotChosen, Full}

-- the number under which a refusal is reported
abbrev pub refusal_number : Refusal → ℕ
refusal_number PageShort = 11
refusal_number NotChosen = 12
refusal_number Full = 13
