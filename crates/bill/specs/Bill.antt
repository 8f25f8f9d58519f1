-- The bytes of a bill.
use Rattle.std.specs.Prelude.{ℕ, List, ◌++◌, codes, decimal}
use Rattle.rebar.specs.declared.cage.Bars.{Bars}
use Rattle.rebar.specs.declared.cage.Ties.{Ties}
use Rattle.search.specs.declared.decision.Choice.{Choice}
use Rattle.bill.specs.Text.{two}

-- a bill has no more lines than this
abbrev pub most_lines : ℕ
most_lines = 64

-- no line has more steel than this, in mm³
abbrev pub greatest_steel : ℕ
greatest_steel = 4294967295

-- number#mark
abbrev pub bars_text : Bars → List ℕ
bars_text b = decimal b.number ++ (codes "#" ++ decimal b.mark)

-- #mark@spacing
abbrev pub ties_text : Ties → List ℕ
ties_text t = codes "#" ++ (decimal t.mark ++ (codes "@" ++ decimal t.spacing))

-- the line of a chosen cage at a place
abbrev pub line_text : ℕ → Choice → List ℕ
line_text place x =
    two place
    ++ (codes " B " ++ (bars_text x.cage.bottom
    ++ (codes " T " ++ (bars_text x.cage.top
    ++ (codes " S " ++ (ties_text x.cage.ties
    ++ (codes " " ++ (decimal x.steel ++ codes "\n"))))))))

-- the last line: how many lines, and their summed steel
abbrev pub total_text : ℕ → ℕ → List ℕ
total_text lines steel =
    codes "TOTAL " ++ (decimal lines ++ (codes " " ++ (decimal steel ++ codes "\n")))

-- the first line
abbrev pub head_text : List ℕ
head_text = codes "CAGES\n"
