use Rattle.books.proofs.EverySpacing.{of_general, known_refusal, known_none}
use Rattle.books.proofs.general.GeneralBook.refusal_at_every_spacing.Goals as goal

pub returns-in-Err : goal.returns-in-Err
returns-in-Err c =
    let b = c.args.beam.now in
    let k = c.args.cage.now in
    let broken = c.in-Err.ensures in
    record { refusal_of_the_bars = known_refusal b k _ broken.0 broken.1; refused_so_at_every_spacing = of_general b k _ broken.0 broken.1 }

pub returns-in-Ok : goal.returns-in-Ok
returns-in-Ok c = record { refusal_of_the_bars = known_none c.args.beam.now c.args.cage.now c.in-Ok.ensures.0; refused_so_at_every_spacing = tt }
