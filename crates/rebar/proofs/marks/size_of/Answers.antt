use Rattle.std.proofs.Common.{◌-◌, sym, arith}
use Rattle.std.proofs.lemmas.List.{get_or-map}
use Rattle.rebar.specs.Marks.{bar_diameter, bar_area}
use Rattle.rebar.specs.declared.marks.Size.{Size}
use Rattle.rebar.specs.declared.marks.TheConstants.{SIZES}
use Rattle.rebar.proofs.marks.size_of.Goals as goal

abbrev no_size : Size
no_size = record { diameter = 0; area = 0 }

pub returns-clause-diameter : goal.returns-clause-diameter
unfolding bar_diameter
returns-clause-diameter c = sym (get_or-map (λ (s : Size). s.diameter) SIZES (c.args.mark - 3) no_size 0 (omega arith))

pub returns-clause-area : goal.returns-clause-area
unfolding bar_area
returns-clause-area c = sym (get_or-map (λ (s : Size). s.area) SIZES (c.args.mark - 3) no_size 0 (omega arith))
