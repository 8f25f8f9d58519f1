-- Lines and bill on a page, and a stream that comes in pieces.
use Rattle.std.proofs.Common.{◌≡◌, ℕ, ◌+◌, ◌-◌, ◌<◌, ◌≤◌, List, [], ◌∷◌, ◌++◌, length, take, drop, get_or, Some, sym, ap, ◌∙◌, subst, arith, append-nil, length-append}
use Rattle.std.specs.Borrow.{Bor}
use Rattle.std.proofs.lemmas.List.{take_more, take_all, drop-drop}
use Rattle.std.proofs.lemmas.List.Folds.{length-flat_map-take}
use Rattle.std.proofs.lemmas.Grind.{flat_map-append}
use Rattle.rebar.specs.declared.beam.Beam.{Beam}
use Rattle.rebar.specs.declared.cage.Cage.{Cage}
use Rattle.console.specs.Printed.{IsPrinted, ShowsLightest, IsOnlyText, IsTextOfEveryCut}
use Rattle.console.specs.Pages.{joined}
use Rattle.console.specs.Sinks.{Prints}

-- one piece more
pub joined_more : (pieces : List (Bor (List ℕ))) (i : ℕ) (none : Bor (List ℕ)) → i < length pieces
    → joined (take (i + 1) pieces) ≡ joined (take i pieces) ++ (get_or pieces i none).now
joined_more pieces i none below =
    ap joined (take_more pieces i none below) ∙ flat_map-append (λ (p : Bor (List ℕ)). p.now) (take i pieces) (get_or pieces i none ∷ [])
    ∙ ap (λ (v : List ℕ). joined (take i pieces) ++ v) (append-nil (get_or pieces i none).now)

-- and how many bytes there are then
pub length_more : (pieces : List (Bor (List ℕ))) (i : ℕ) (none : Bor (List ℕ)) → i < length pieces
    → length (joined (take (i + 1) pieces)) ≡ length (joined (take i pieces)) + length (get_or pieces i none).now
length_more pieces i none below =
    ap length (joined_more pieces i none below) ∙ length-append (joined (take i pieces)) (get_or pieces i none).now

-- which are not more than there are in all
pub length_part : (pieces : List (Bor (List ℕ))) (i : ℕ) (none : Bor (List ℕ)) → i < length pieces
    → length (joined (take i pieces)) + length (get_or pieces i none).now ≤ length (joined pieces)
length_part pieces i none below = length-flat_map-take (λ (p : Bor (List ℕ)). p.now) pieces i none below

-- all pieces
pub joined_all : (pieces : List (Bor (List ℕ))) (n : ℕ) → length pieces ≤ n → joined (take n pieces) ≡ joined pieces
joined_all pieces n all = ap joined (take_all n pieces all)

-- what lies behind two writes, of which the second ends later
pub behind : (old mid new : List ℕ) (a b : ℕ) → a ≤ b → drop a mid ≡ drop a old → drop b new ≡ drop b mid → drop b new ≡ drop b old
behind old mid new a b later first second =
    let e : a + (b - a) ≡ b = omega arith in
    second ∙ ap (λ (n : ℕ). drop n mid) (sym e) ∙ sym (drop-drop (b - a) a mid) ∙ ap (drop (b - a)) first ∙ drop-drop (b - a) a old
    ∙ ap (λ (n : ℕ). drop n old) e

module _ (pile : Beam → Cage → ℕ) (stream text : List ℕ) (p : Prints pile stream (Some []) (Some text)) where
  pub lightest : ShowsLightest pile stream text
  lightest = subst (λ (v : List ℕ). ShowsLightest pile stream v) (sym p.printed) p.shows

  pub nothing_else : IsOnlyText pile stream text
  nothing_else = λ other q. p.alone other q ∙ sym p.printed

  pub every_cut : IsTextOfEveryCut pile stream text
  every_cut = λ pieces other same q. nothing_else other (subst (λ (v : List ℕ). IsPrinted pile v other) same q)
