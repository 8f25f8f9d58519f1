-- Facts of the layout, row by row.
use Rattle.std.proofs.Common.{◌≡◌, ℕ, ◌≤◌, true, false, refl, arith}
use Rattle.std.proofs.lemmas.Bool.{le-leb}
use Rattle.rebar.specs.Grades.{is_steel, is_shear_factor}
use Rattle.card.specs.declared.layout.Field.{Field}
use Rattle.card.specs.declared.layout.Field.TheVariants.{Width, Height, Cover, Concrete, Steel, Aggregate, Frame, Span, ShearFactor}
use Rattle.card.specs.Layout.{layout}
use Rattle.card.specs.Map.{stands, required}

-- where all required fields stand, an absent field's default is allowed
pub default_allowed : (f : Field) (least map : ℕ) → least ≤ 40 → required map ≡ true → stands map (layout f).bit ≡ false
    → (layout f).allowed least (layout f).default ≡ true
unfolding required is_steel is_shear_factor
default_allowed Width least map l r s = grind arith
default_allowed Height least map l r s = grind arith
default_allowed Cover least map l r s = rw (le-leb least 40 l) refl
default_allowed Concrete least map l r s = grind arith
default_allowed Steel least map l r s = refl
default_allowed Aggregate least map l r s = refl
default_allowed Frame least map l r s = refl
default_allowed Span least map l r s = grind arith
default_allowed ShearFactor least map l r s = refl
