-- How the table of a sheet changes.
use Rattle.std.specs.Prelude.{ℕ, ◌+◌, min, Bool, cond, map, Some, None, Option, slice_index_or, slice_set}
use Rattle.std.specs.Bool.{beq}
use Rattle.rebar.specs.declared.beam.Beam.{Beam}
use Rattle.stock.specs.declared.kind.Kind.{Kind}
use Rattle.search.specs.declared.decision.Decision.{Decision}
use Rattle.stock.specs.Stock.{has, with_mark}
use Rattle.sheet.specs.declared.entry.Entry.{Entry}
use Rattle.sheet.specs.declared.table.Table.{Table}
use Rattle.sheet.specs.Size.{greatest_count}
use Rattle.sheet.specs.Places.{decided, place_reopened}

-- what a place holds
abbrev pub place_at : Table → ℕ → Option Entry
place_at t p = slice_index_or t.places p None

-- a place with another beam, or emptied
abbrev pub with_place : Table → ℕ → Option Entry → Table
with_place t p x = record { places = slice_set t.places p x; stock = t.stock; count = t.count }

-- a mark of a kind set in or out; set as it was, it alters nothing
abbrev pub restocked : Kind → ℕ → Bool → Table → Table
restocked kind mark is-in t =
    cond (beq (has t.stock kind mark) is-in) t
    (record {
      places = map (place_reopened kind mark is-in) t.places;
      stock = with_mark t.stock kind mark is-in;
      count = t.count;
    })

-- a decision put at the place of its beam, and counted; the count stays at its greatest number
abbrev pub settled : ℕ → Beam → Decision → Table → Table
settled p b d t = record {
  places = slice_set t.places p (Some (decided b d));
  stock = t.stock;
  count = min (t.count + 1) greatest_count;
}
