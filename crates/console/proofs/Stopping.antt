-- What may be printed before the end of a stream, and where its reading stops.
use Rattle.std.proofs.Common.{◌≡◌, ℕ, Bool, true, false, List, [], ◌∷◌, ◌++◌, map, Option, MatchBool, sym, ap, ◌∙◌, subst}
use Rattle.std.proofs.lemmas.Bool.{false≢true}
use Rattle.arrayvec.specs.ArrayString.{ArrayString}
use Rattle.rebar.specs.declared.beam.Beam.{Beam}
use Rattle.rebar.specs.declared.cage.Cage.{Cage}
use Rattle.sheet.specs.declared.table.Table.{Table}
use Rattle.sheet.specs.Law.{call_of}
use Rattle.console.specs.Orders.{IsStopped, begins_known}
use Rattle.console.specs.Streams.{Led, GoesOn, PrintsAlone, TellsStop}
use Rattle.console.specs.declared.console.Console.{Console}
use Rattle.console.proofs.Orders.{unknown, one_leaving}
use Rattle.console.proofs.Only.{alone_so_far}

pub tells : (pile : Beam → Cage → ℕ) (stream text : List ℕ) (t : Table) (pending : List ℕ) (stopped : Bool) → begins_known pending ≡ true
    → Led pile stream text t pending stopped → MatchBool stopped (IsStopped stream) (IsStopped stream → ⊥)
tells pile stream text t pending true known l = (map call_of l.exchanges, (l.rest, (l.whole, l.held)))
tells pile stream text t pending false known l =
    λ s.
    let o = one_leaving stream (map call_of l.exchanges) s.0 l.rest s.1.0 l.whole l.unfinished s.1.1.0 (unknown s.1.0 s.1.1.1) in
    false≢true (sym s.1.1.1 ∙ ap begins_known (sym o.1 ∙ l.held) ∙ known)

module _ {P : Type 0} (pile : Beam → Cage → ℕ) (console : Console P) where
  pub tells_stop : (stopped : Bool) → stopped ≡ console.stopped → begins_known console.pending.items ≡ true → TellsStop pile console stopped
  unfolding TellsStop
  tells_stop stopped is known =
      λ stream text l.
      subst (λ (v : Bool). MatchBool v (IsStopped stream) (IsStopped stream → ⊥)) (sym is)
      (tells pile stream text console.sheet.table console.pending.items console.stopped known l)

  pub prints_alone : (console' : Console P) (b : ℕ) (line : Option ArrayString) → GoesOn pile console b line console' → PrintsAlone pile console b line
  unfolding GoesOn PrintsAlone
  prints_alone console' b line h =
      λ stream text other l q.
      let l' = h stream text l in
      alone_so_far pile (stream ++ b ∷ []) l'.exchanges l'.rest console'.sheet.table l'.course l'.whole l'.unfinished other q ∙ sym l'.printed
