use Rattle.std.proofs.Common.{rules, ◌≡◌, ◌∙◌, true, sym, subst, ap, ◌+◌, arith, take, cond}
use Rattle.std.proofs.lemmas.List.{take_all}
use Rattle.books.specs.Approved.{IsFor, Allows}
use Rattle.books.proofs.Rows.{told, At, Seen, passed_over, refused, found, ended}
use Rattle.books.proofs.approved.ApprovedBook.check.Goals as goal
use Rattle.books.proofs.approved.ApprovedBook.check.Goals.{then-is_for+else-allows, else-is_for}

pub loop-row-preserved : goal.loop-row-preserved
loop-row-preserved c =
    let at : At c.args.self.now.rows.now c.loop-row.row-index c.row-item.result = record { below = c.loop-row-test.true; is = c.row-item.is } in
    let seen = Seen (take (c.loop-row.row-index + 1) c.args.self.now.rows.now) c.args.beam.now c.args.cage.now in
    elim c.if-is_for.branch [
      | then-is_for+else-allows w ↦
          let same = c.is_for.ensures.whether_it_has_them.0 w.if-is_for.true in
          let exceeds : ¬ Allows c.row-item.result c.args.beam.now.actions =
          λ p. let t = w.allows.ensures.whether_it_allows_them.1 p in let f = w.if-allows.false in cc in
          let known : true ≡ c.if-is_for.is_known = sym w.is_known-is in
          subst seen known (refused _ _ _ _ _ _ at same exceeds c.loop-row.invariant)
      | else-is_for w ↦
          let differs : ¬ IsFor c.row-item.result c.args.beam.now c.args.cage.now =
          λ p. let t = c.is_for.ensures.whether_it_has_them.1 p in let f = w.if-is_for.false in cc
          in subst seen (sym w.is_known-is) (passed_over _ _ _ _ _ _ at differs c.loop-row.invariant)
    ]

pub returns-then-allows : goal.returns-then-allows
returns-then-allows c =
    let at : At c.args.self.now.rows.now c.loop-row.row-index c.row-item.result = record { below = c.loop-row-test.true; is = c.row-item.is } in
    let same : IsFor c.row-item.result c.args.beam.now c.args.cage.now = c.is_for.ensures.whether_it_has_them.0 c.if-is_for.true in
    let allowed : Allows c.row-item.result c.args.beam.now.actions = c.allows.ensures.whether_it_allows_them.0 c.if-allows.true in
    let e = found _ _ _ c.args.beam.now c.args.cage.now at same allowed in
    let t = told _ _ _ 0 e in search rules

pub returns-then-is_known : goal.returns-then-is_known
returns-then-is_known c =
    let all : take c.loop-row.row-index c.args.self.now.rows.now ≡ c.args.self.now.rows.now = take_all _ _ (omega arith) in
    let seen = subst (λ rows. Seen rows c.args.beam.now c.args.cage.now c.loop-row.is_known) all c.loop-row.invariant in
    let e = ap (λ k. cond k 61 60) (sym c.if-is_known.true) ∙ ended _ _ _ _ seen in
    let t = told _ _ _ 61 e in search rules

pub returns-else-is_known : goal.returns-else-is_known
returns-else-is_known c =
    let all : take c.loop-row.row-index c.args.self.now.rows.now ≡ c.args.self.now.rows.now = take_all _ _ (omega arith) in
    let seen = subst (λ rows. Seen rows c.args.beam.now c.args.cage.now c.loop-row.is_known) all c.loop-row.invariant in
    let e = ap (λ k. cond k 61 60) (sym c.if-is_known.false) ∙ ended _ _ _ _ seen in
    let t = told _ _ _ 60 e in search rules
