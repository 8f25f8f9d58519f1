-- The bits of a map that no field has.
use Rattle.std.proofs.Common.{◌≡◌, ℕ, zero, suc, ◌+◌, ◌/◌, ◌%◌, ◌^◌, ◌<◌, ◌≤◌, ◌↔◌, false, ◌==◌, refl, sym, ap, ◌∙◌, arith}
use Rattle.std.proofs.Math.Nat.{div-div-eq-div-mul, div-eq_of_lt, pow-le-pow_right}
use Rattle.std.proofs.lemmas.Bool.Decides.{nat_tests}
use Rattle.std.proofs.lemmas.Nat.{pow-add}
use Rattle.card.specs.Layout.{field_count}
use Rattle.card.specs.Map.{stands, unknown}

-- the bits of a number's quotient by a power of two are its higher bits
higher : (m k bit : ℕ) → stands (m / 2 ^ k) bit ≡ stands m (k + bit)
unfolding stands
higher m k bit = ap (λ (x : ℕ). x % 2 == 1) (div-div-eq-div-mul m (2 ^ k) (2 ^ bit) ∙ ap (λ (x : ℕ). m / x) (sym (pow-add 2 k bit)))

even : (m : ℕ) → m / 2 ≡ 0 → stands m 0 ≡ false → m ≡ 0
unfolding stands
even m h off = grind (arith, nat_tests)

-- a number whose bits are all 0
no_bits : (n m : ℕ) → m ≤ n → ((bit : ℕ) → stands m bit ≡ false) → m ≡ 0
no_bits zero m le off = omega arith
no_bits (suc n) m le off =
    let half : m / 2 ≤ n = omega arith in
    even m (no_bits n (m / 2) half (λ bit. higher m 1 bit ∙ off (1 + bit))) (off 0)

low : (map : ℕ) → ((bit : ℕ) → field_count ≤ bit → stands map bit ≡ false) → map < 2 ^ field_count
low map off =
    let all : map / 2 ^ field_count ≤ map / 2 ^ field_count = omega arith in
    let none : map / 2 ^ field_count ≡ 0 = no_bits (map / 2 ^ field_count) (map / 2 ^ field_count) all (λ bit. higher map field_count bit ∙ off (field_count + bit) (omega arith)) in
    omega arith

bits_of_low : (map bit : ℕ) → map < 2 ^ field_count → field_count ≤ bit → stands map bit ≡ false
unfolding stands
bits_of_low map bit lt above =
    let far : 2 ^ field_count ≤ 2 ^ bit = pow-le-pow_right (omega arith) {i = field_count} {j = bit} (omega arith) in
    let none : map / 2 ^ bit ≡ 0 = div-eq_of_lt {n = map} {m = 2 ^ bit} (omega arith) in
    rw none refl

unknown_exactly : (map : ℕ) → (unknown map ≡ false) ↔ (map < 2 ^ field_count)
unknown_exactly map = (λ h. grind (arith, nat_tests), λ h. grind (arith, nat_tests))

-- no bit is set but those of fields exactly where none is unknown
pub known_exactly : (map : ℕ) → (unknown map ≡ false) ↔ ((bit : ℕ) → field_count ≤ bit → stands map bit ≡ false)
known_exactly map =
    let small = unknown_exactly map in
    (λ h bit above. bits_of_low map bit (small.0 h) above, λ off. small.1 (low map off))
