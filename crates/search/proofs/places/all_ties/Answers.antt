use Rattle.std.proofs.Common.{◌≡◌, rules}
use Rattle.rebar.specs.Steel.{ties_steel}
use Rattle.search.specs.Search.{ties_place}
use Rattle.search.proofs.FromFn.{made_same}
use Rattle.search.proofs.places.all_ties.Goals as goal

pub returns : goal.returns
returns c =
    let each = made_same _ _ (λ i t. (ties_place t.ties ≡ i) × (t.steel ≡ ties_steel c.args.beam.now t.ties)) (λ i y q h. search rules) _ _
    c.from_fn.ensures.items in
    record { by_place = λ k d lt. (each k d lt).0; weighed = λ k d low lt. (each k d lt).1 }
