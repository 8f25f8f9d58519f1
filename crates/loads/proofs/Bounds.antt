-- No combination of loads within their ranges passes 3,800,000, and none of dead and live load alone 2,800,000.
use Rattle.std.proofs.Common.{◌≡◌, ℕ, ◌≤◌, max, List, map, ℤ, pos, negsuc, neg_ℤ, nat_abs, ◌≤ℤ◌, arith}
use Rattle.std.specs.List.{AllByRecursion}
use Rattle.std.proofs.lemmas.Int.{ints}
use Rattle.std.proofs.ByRecursion.{All-append, All-map, All-weaker}
use Rattle.loads.specs.declared.loads.Force.{Force}
use Rattle.loads.specs.declared.loads.Case.{Case}
use Rattle.loads.specs.declared.loads.Loads.{Loads}
use Rattle.loads.specs.Effects.{greatest_effect}
use Rattle.loads.specs.Combinations.{Row, rows, gravity_rows, weighted, unsigned, greatest, least, at_station, combinations, moments, shears, gravity_shears}
use Rattle.loads.proofs.Peaks.{bounded, most_size, least_size, whole_size}

pub record Within (k : ℕ) (z : ℤ) : Type 0 where
  pub low : neg_ℤ (pos k) ≤ℤ z
  pub high : z ≤ℤ pos k

module _ (d l w e : ℤ) (hd : Within greatest_effect d) (hl : Within greatest_effect l) (hw : Within greatest_effect w) (he : Within greatest_effect e) where
  pub all_rows : AllByRecursion (Within 3800000) (map (weighted d l w e) rows)
  unfolding rows
  all_rows = (
    record { low = omega (arith, ints); high = omega (arith, ints) },
    (
      record { low = omega (arith, ints); high = omega (arith, ints) },
      (
        record { low = omega (arith, ints); high = omega (arith, ints) },
        (
          record { low = omega (arith, ints); high = omega (arith, ints) },
          (
            record { low = omega (arith, ints); high = omega (arith, ints) },
            (
              record { low = omega (arith, ints); high = omega (arith, ints) },
              (
                record { low = omega (arith, ints); high = omega (arith, ints) },
                (
                  record { low = omega (arith, ints); high = omega (arith, ints) },
                  (
                    record { low = omega (arith, ints); high = omega (arith, ints) },
                    (record { low = omega (arith, ints); high = omega (arith, ints) }, tt),
                  ),
                ),
              ),
            ),
          ),
        ),
      ),
    ),
  )

  pub gravity_alone : AllByRecursion (Within 2800000) (map (weighted d l w e) gravity_rows)
  unfolding rows
  gravity_alone = (record { low = omega (arith, ints); high = omega (arith, ints) }, (record { low = omega (arith, ints); high = omega (arith, ints) }, tt))

-- the same of every station
module _ (k : ℕ) (some : List Row) (effect : Force → ℤ) (mild : (f : Force) → Within greatest_effect (effect f))
    (each : (d l w e : ℤ) → Within greatest_effect d → Within greatest_effect l → Within greatest_effect w → Within greatest_effect e → AllByRecursion (Within k) (map (weighted d l w e) some)) where
  at : (loads : Loads) (place : Case → Force) → AllByRecursion (Within k) (at_station effect some loads place)
  at loads place = each _ _ _ _ (mild (place loads.dead)) (mild (place loads.live)) (mild (place loads.wind)) (mild (place loads.earthquake))

  pub everywhere : (loads : Loads) → AllByRecursion (Within k) (combinations effect some loads)
  everywhere loads =
      All-append (Within k) _ _ (at loads (λ c. c.left)) (All-append (Within k) _ _ (at loads (λ c. c.mid)) (at loads (λ c. c.right)))

bend : (f : Force) → Within greatest_effect f.moment
bend f = record { low = f.bends.0; high = f.bends.1 }

cut : (f : Force) → Within greatest_effect f.shear
cut f = record { low = f.cuts.0; high = f.cuts.1 }

pub moments_within : (loads : Loads) → AllByRecursion (Within 3800000) (moments loads)
moments_within = everywhere 3800000 rows (λ f. f.moment) bend all_rows

pub shears_within : (loads : Loads) → AllByRecursion (Within 3800000) (shears loads)
shears_within = everywhere 3800000 rows (λ f. f.shear) cut all_rows

pub gravity_within : (loads : Loads) → AllByRecursion (Within 2800000) (gravity_shears loads)
gravity_within = everywhere 2800000 gravity_rows (λ f. f.shear) cut gravity_alone

size_within : (k : ℕ) (z : ℤ) → Within k z → unsigned z ≤ℤ pos k
size_within k (pos n) h = omega (arith, ints)
size_within k (negsuc n) h = omega (arith, ints)

-- so the greatest of them, of their negatives and of their sizes is within the same bound
module _ (k : ℕ) (xs : List ℤ) (all : AllByRecursion (Within k) xs) (r : ℕ) where
  pub greatest_within : pos r ≡ greatest xs → r ≤ k
  greatest_within = bounded k xs r (All-weaker (Within k) (λ x. x ≤ℤ pos k) (λ z h. h.high) xs all)

  pub negated_within : pos r ≡ greatest (map neg_ℤ xs) → r ≤ k
  negated_within = bounded k (map neg_ℤ xs) r (All-map (λ x. x ≤ℤ pos k) neg_ℤ xs (All-weaker (Within k) (λ x. neg_ℤ x ≤ℤ pos k) (λ z h. omega (arith, ints)) xs all))

  pub size_all_within : pos r ≡ greatest (map unsigned xs) → r ≤ k
  size_all_within = bounded k (map unsigned xs) r (All-map (λ x. x ≤ℤ pos k) unsigned xs (All-weaker (Within k) (λ x. unsigned x ≤ℤ pos k) (size_within k) xs all))

-- the four actions of some loads
abbrev pub Four : Loads → ℕ → ℕ → ℕ → ℕ → Type 0
Four loads bottom top shear gravity =
    (pos bottom ≡ greatest (moments loads))
    × (pos top ≡ greatest (map neg_ℤ (moments loads)))
    × (pos shear ≡ greatest (map unsigned (shears loads)))
    × (pos gravity ≡ greatest (map unsigned (gravity_shears loads)))

-- from the extremes of their combinations
pub four : (loads : Loads) {b t s g : ℕ} {mm ml sm sl gm gl : ℤ}
    → b ≡ nat_abs mm → mm ≡ greatest (moments loads)
    → t ≡ nat_abs ml → ml ≡ least (moments loads)
    → s ≡ max (nat_abs sm) (nat_abs sl) → sm ≡ greatest (shears loads) → sl ≡ least (shears loads)
    → g ≡ max (nat_abs gm) (nat_abs gl) → gm ≡ greatest (gravity_shears loads) → gl ≡ least (gravity_shears loads)
    → Four loads b t s g
four loads {b} {t} {s} {g} {mm} {ml} {sm} {sl} {gm} {gl} pb pm pt pl ps psm psl pg pgm pgl = (
  most_size b mm (moments loads) pb pm,
  least_size t ml (moments loads) pt pl,
  whole_size s sm sl (shears loads) ps psm psl,
  whole_size g gm gl (gravity_shears loads) pg pgm pgl,
)

pub four_within : (loads : Loads) (b t s g : ℕ) → Four loads b t s g → (b ≤ 3800000) × (t ≤ 3800000) × (s ≤ 3800000) × (g ≤ 2800000)
four_within loads b t s g f = (
  greatest_within _ (moments loads) (moments_within loads) _ f.0,
  negated_within _ (moments loads) (moments_within loads) _ f.1,
  size_all_within _ (shears loads) (shears_within loads) _ f.2,
  size_all_within _ (gravity_shears loads) (gravity_within loads) _ f.3,
)
