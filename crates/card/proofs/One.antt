-- A card describes one beam at most.
use Rattle.std.proofs.Common.{◌≡◌, ℕ, List, Ok, Err, Result, sym, ◌∙◌}
use Rattle.loads.specs.declared.loads.Case.{Case}
use Rattle.loads.specs.declared.loads.Force.{Force}
use Rattle.loads.proofs.Same.{same_force, same_case, same_loads}
use Rattle.rebar.specs.declared.beam.Beam.{Beam}
use Rattle.rebar.proofs.SameBeam.{same_section, same_materials, same_member, same_beam}
use Rattle.card.specs.declared.fault.Fault.{Fault}
use Rattle.loads.specs.declared.loads.LoadCase.{LoadCase}
use Rattle.card.specs.Card.{BeamIs, CardAs, OfNoOther}
use Rattle.card.specs.Parts.{ForceIs, CaseIs}

-- two numbers that are one and the same
both : {A : Type 0} {x y z : A} → x ≡ z → y ≡ z → x ≡ y
both e f = e ∙ sym f

one_force : (k : LoadCase) (map : ℕ) (rest : List ℕ) (at : ℕ) (f g : Force) → ForceIs k map rest at f → ForceIs k map rest at g → f ≡ g
one_force k map rest at f g h i = same_force f g (both h.0 i.0) (both h.1 i.1)

one_case : (k : LoadCase) (map : ℕ) (rest : List ℕ) (c d : Case) → CaseIs k map rest c → CaseIs k map rest d → c ≡ d
one_case k map rest c d h i =
    same_case c d (one_force k map rest _ c.left d.left h.0 i.0) (one_force k map rest _ c.mid d.mid h.1 i.1) (one_force k map rest _ c.right d.right h.2 i.2)

one_beam : (map : ℕ) (rest : List ℕ) (b c : Beam) → BeamIs map rest b → BeamIs map rest c → b ≡ c
one_beam map rest b c h k =
    same_beam b c (same_section b.section c.section (both h.section.0 k.section.0) (both h.section.1 k.section.1) (both h.section.2 k.section.2))
    (same_materials b.materials c.materials (both h.materials.0 k.materials.0) (both h.materials.1 k.materials.1) (both h.materials.2 k.materials.2))
    (same_member b.member c.member (both h.member.0 k.member.0) (both h.member.1 k.member.1) (both h.member.2 k.member.2))
    (same_loads b.loads c.loads (one_case _ map rest b.loads.dead c.loads.dead h.loads.0 k.loads.0) (one_case _ map rest b.loads.live c.loads.live h.loads.1 k.loads.1)
    (one_case _ map rest b.loads.wind c.loads.wind h.loads.2 k.loads.2) (one_case _ map rest b.loads.earthquake c.loads.earthquake h.loads.3 k.loads.3))

-- so the beam that is read off a card is the only one that it describes
pub only_beam : (card : List ℕ) (r : Result Beam Fault) → CardAs card r → OfNoOther card r
only_beam card (Ok b) h = λ c k. one_beam _ _ c b k.1 h.1
only_beam card (Err e) h = tt
