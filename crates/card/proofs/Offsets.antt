-- How the place of a field goes on from bit to bit.
use Rattle.std.proofs.Common.{◌≡◌, ℕ, zero, suc, ◌+◌, ◌-◌, ◌*◌, ◌<◌, ◌≤◌, true, false, cond, get_or, take, refl, ap, ◌∙◌, add-zero, add-one, arith}
use Rattle.std.proofs.lemmas.List.{get_or-take}
use Rattle.rebar.proofs.Table.{below}
use Rattle.card.specs.Layout.{field_count, size, sizes}
use Rattle.card.specs.Map.{stands, offset, Begins}

pub offset_none : (map : ℕ) → offset map 0 ≡ 0
unfolding offset
offset_none map = refl

offset_more : (map k : ℕ) → offset map (k + 1) ≡ offset map k + cond (stands map k) (size k) 0
unfolding offset
offset_more map k = rw add-one refl

pub offset_standing : (map k : ℕ) → stands map k ≡ true → offset map (k + 1) ≡ offset map k + size k
offset_standing map k s = offset_more map k ∙ rw s refl

pub offset_absent : (map k : ℕ) → stands map k ≡ false → offset map (k + 1) ≡ offset map k
offset_absent map k s = let e = offset_more map k in let f : cond (stands map k) (size k) 0 ≡ 0 = rw s refl in omega arith

-- a size that is read among those of the fields below a bit
pub size_below : (bit k : ℕ) → k < bit → get_or (take bit sizes) k 0 ≡ size k
unfolding size
size_below bit k h = get_or-take bit sizes k 0 h

pub size_bound : (k : ℕ) → k < 13 → size k ≤ 24
unfolding size
size_bound k h = below 24 sizes tt k h

pub offset_bound : (map k : ℕ) → k ≤ 13 → offset map k ≤ 24 * k
unfolding offset
offset_bound map zero h = omega arith
offset_bound map (suc k) h =
    let before = offset_bound map k (omega arith) in
    let here = size_bound k (omega arith) in
    grind arith

-- the first of some bytes stands where they begin
pub ruleset shifts = (add-zero)

-- what one more field adds
pub ruleset steps = (offset_none, offset_standing, offset_absent, size_below, size_bound, offset_bound)

offset_far : (map k n : ℕ) → offset map k ≤ offset map (k + n)
offset_far map k zero = rw add-zero (omega arith)
offset_far map k (suc n) =
    let e : offset map (k + suc n) ≡ offset map (k + n + 1) = ap (offset map) (omega arith) in
    let f = offset_more map (k + n) in
    let g = offset_far map k n in
    omega arith

-- a field that stands lies before any later bit's place
offset_within : (map k n : ℕ) → k < n → stands map k ≡ true → offset map k + size k ≤ offset map n
offset_within map k n h s =
    let e : offset map n ≡ offset map (k + 1 + (n - (k + 1))) = ap (offset map) (omega arith) in
    let f = offset_standing map k s in
    let g = offset_far map (k + 1) (n - (k + 1)) in
    omega arith

-- a field that stands begins where the fields below its bit end
pub begins : (map bit k bytes at : ℕ) → k ≡ bit → k < field_count → at ≡ offset map k → stands map bit ≡ true → size bit ≡ bytes → Begins map bit bytes at
begins map bit k bytes at is known a s z =
    let e : at ≡ offset map bit = a ∙ ap (offset map) is in
    let w = offset_within map bit field_count (omega arith) s in
    record { present = s; place = e; whole = omega arith }
