use Rattle.std.proofs.Common.{◌≡◌, rules}
use Rattle.rebar.specs.Steel.{bars_steel}
use Rattle.search.specs.Search.{bars_place}
use Rattle.search.proofs.FromFn.{made_same}
use Rattle.search.proofs.places.all_bars.Goals as goal

pub returns : goal.returns
returns c =
    let each = made_same _ _ (λ i t. (bars_place t.bars ≡ i) × (t.steel ≡ bars_steel c.args.beam.now t.bars)) (λ i y q h. search rules) _ _
    c.from_fn.ensures.items in
    record { by_place = λ k d lt. (each k d lt).0; weighed = λ k d low lt. (each k d lt).1 }
