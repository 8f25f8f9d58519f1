use Rattle.std.proofs.Common.{◌≡◌, nat_abs, arith}
use Rattle.std.proofs.lemmas.Int.{to_z-of_z}
use Rattle.loads.proofs.Peaks.{peak}
use Rattle.loads.proofs.Bounds.{Four, four, four_within}
use Rattle.loads.proofs.actions.Actions.of.Goals as goal

found : (c : goal.After-size-2) → Four c.args.loads.now c.unsigned_abs.result c.unsigned_abs-2.result c.size.result c.size-2.result
found c =
    let e = c.of-envelope.ensures in
    let above : c.unsigned_abs.result ≡ nat_abs c.of-envelope.result.moments.most = grind (arith, to_z-of_z) in
    let below : c.unsigned_abs-2.result ≡ nat_abs c.of-envelope.result.moments.least = grind (arith, to_z-of_z) in
    four c.args.loads.now above e.most_moment below e.least_moment c.size.ensures e.most_shear e.least_shear c.size-2.ensures
    e.most_gravity e.least_gravity

pub invariant_of-result : goal.invariant_of-result
invariant_of-result c = record { none_above_its_greatest = four_within c.args.loads.now _ _ _ _ (found c) }

pub returns : goal.returns
returns c =
    let f = found c.before in
    record {
      actions_of_the_loads = f;
      greatest_and_met = record { bottom = peak _ _ f.0; top = peak _ _ f.1; shear = peak _ _ f.2; gravity = peak _ _ f.3 };
    }
