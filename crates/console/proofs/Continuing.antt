-- What the pieces of a stream make of a console and a sink, one after the other.
use Rattle.std.proofs.Common.{◌≡◌, ℕ, Bool, true, false, List, [], ◌∷◌, ◌++◌, map, Some, None, Ok, Err, Option, Result, OnOk, sym, refl, ap, ◌∙◌, subst, append-nil, append_assoc}
use Rattle.std.specs.Io.KnownBytes.{Appends, Keeps, Consumes, IsAtEnd}
use Rattle.arrayvec.specs.ArrayString.{ArrayString}
use Rattle.rebar.specs.declared.beam.Beam.{Beam}
use Rattle.rebar.specs.declared.cage.Cage.{Cage}
use Rattle.sheet.specs.Law.{call_of}
use Rattle.sheet.specs.declared.table.Table.{Table}
use Rattle.console.specs.Streams.{Led, LedTo, text_due, GoesOn, EndsPrinted, EndsLightest, EndsAlone}
use Rattle.console.specs.Feeding.{Continues, ReadsOn, ReadsAll}
use Rattle.console.specs.Sinks.{PrintsKnown}
use Rattle.console.specs.declared.console.Console.{Console}
use Rattle.console.proofs.Orders.{leaves_more, unknown, unknown_more}
use Rattle.console.proofs.Sinks.{nothing, flushed, then}

-- where the reading has stopped the stream may go on
goes_on : (pile : Beam → Cage → ℕ) (stream more text : List ℕ) (t : Table) (pending : List ℕ) (stopped : Bool) → stopped ≡ true → Led pile stream text t pending stopped
    → Led pile (stream ++ more) text t pending stopped
goes_on pile stream more text t pending true on l =
    let h = unknown_more l.rest more l.held in
    record {
      exchanges = l.exchanges;
      rest = l.rest ++ more;
      whole = leaves_more stream (map call_of l.exchanges) l.rest more l.whole;
      unfinished = unknown (l.rest ++ more) h;
      course = l.course;
      printed = l.printed;
      held = h;
    }
goes_on pile stream more text t pending false on l = absurd cc

module _ {P : Type 0} (pile : Beam → Cage → ℕ) where
  pub stays : (console : Console P) (old : Option (List ℕ)) → Continues pile console [] old console old
  unfolding Continues
  stays console old =
      λ stream text l. (
        [],
        (
          subst (λ (s : List ℕ). LedTo pile s (text ++ []) console) (sym (append-nil stream)) (subst (λ (s : List ℕ). LedTo pile stream s console) (sym (append-nil text)) l),
          nothing old,
        ),
      )

  regrouped : (stream front bytes text more last : List ℕ) (console : Console P) → LedTo pile ((stream ++ front) ++ bytes) ((text ++ more) ++ last) console
      → LedTo pile (stream ++ (front ++ bytes)) (text ++ (more ++ last)) console
  regrouped stream front bytes text more last console l =
      subst (λ (s : List ℕ). LedTo pile s (text ++ (more ++ last)) console) (append_assoc stream front bytes)
      (subst (λ (s : List ℕ). LedTo pile ((stream ++ front) ++ bytes) s console) (append_assoc text more last) l)

  pub piece_more : (console mid console' : Console P) (front bytes : List ℕ) (old known new : Option (List ℕ))
      → Continues pile console front old mid known → Continues pile mid bytes known console' new → Continues pile console (front ++ bytes) old console' new
  unfolding Continues
  piece_more console mid console' front bytes old known new h k =
      λ stream text l.
      let i = h stream text l in
      let j = k (stream ++ front) (text ++ i.0) i.1.0 in
      (i.0 ++ j.0, (regrouped stream front bytes text i.0 j.0 console' j.1.0, then old known new i.0 j.0 i.1.1 j.1.1))

  pub byte : (console console' : Console P) (b : ℕ) (line : Option ArrayString) (old new : Option (List ℕ)) → GoesOn pile console b line console'
      → Appends old new (text_due line) → Continues pile console (b ∷ []) old console' new
  unfolding GoesOn Continues
  byte console console' b line old new h a = λ stream text l. (text_due line, (h stream text l, a))

  pub unread : (console console' : Console P) (front rest : List ℕ) (old new : Option (List ℕ)) → console'.stopped ≡ true
      → Continues pile console front old console' new → Continues pile console (front ++ rest) old console' new
  unfolding Continues
  unread console console' front rest old new on h =
      λ stream text l.
      let i = h stream text l in (
        i.0,
        (
          subst (λ (s : List ℕ). LedTo pile s (text ++ i.0) console') (append_assoc stream front rest)
              (goes_on pile (stream ++ front) rest (text ++ i.0) console'.sheet.table console'.pending.items console'.stopped on i.1.0),
          i.1.1,
        ),
      )

  pub reads_begin : (known : Option (List ℕ)) (console : Console P) (old : Option (List ℕ)) → ReadsOn pile known console old known console old
  unfolding ReadsOn
  reads_begin None console old = tt
  reads_begin (Some xs) console old = ([], xs, (refl, (refl, stays console old)))

  pub reads_more : (known known' known'' : Option (List ℕ)) (bytes : List ℕ) (console mid console' : Console P) (old between new : Option (List ℕ))
      → ReadsOn pile known console old known' mid between → Consumes known' known'' bytes → Continues pile mid bytes between console' new
      → ReadsOn pile known console old known'' console' new
  unfolding ReadsOn
  reads_more None known' known'' bytes console mid console' old between new h c k = tt
  reads_more (Some xs) known' known'' bytes console mid console' old between new (front, rest, (is, (all, h))) c k =
      go known'' (subst (λ (v : Option (List ℕ)). Consumes v known'' bytes) is c)
    where
      go : (known'' : Option (List ℕ)) → Consumes (Some rest) known'' bytes → ReadsOn pile (Some xs) console old known'' console' new
      go None c = absurd c
      go (Some ys) c =
          (front ++ bytes, ys, (refl, (all ∙ ap (λ (v : List ℕ). front ++ v) c ∙ sym (append_assoc front bytes ys), piece_more console mid console' front bytes old between new h k)))

  pub reads_kept : (known known' known'' : Option (List ℕ)) (console console' : Console P) (old new : Option (List ℕ))
      → ReadsOn pile known console old known' console' new → Keeps known' known'' → ReadsOn pile known console old known'' console' new
  unfolding ReadsOn
  reads_kept None known' known'' console console' old new h k = tt
  reads_kept (Some xs) known' known'' console console' old new (front, rest, (is, (all, h))) k =
      go known'' (subst (λ (v : Option (List ℕ)). Keeps v known'') is k)
    where
      go : (known'' : Option (List ℕ)) → Keeps (Some rest) known'' → ReadsOn pile (Some xs) console old known'' console' new
      go None k = absurd k
      go (Some ys) k = (front, rest, (ap (λ (v : List ℕ). Some v) k, (all, h)))

  pub reads_end : (known known' known'' : Option (List ℕ)) (bytes : List ℕ) (console console' : Console P) (old new : Option (List ℕ))
      → ReadsOn pile known console old known' console' new → Consumes known' known'' bytes → bytes ≡ [] → IsAtEnd known'' → ReadsAll pile known console old console' new
  unfolding ReadsOn ReadsAll
  reads_end None known' known'' bytes console console' old new h c none end = tt
  reads_end (Some xs) known' known'' bytes console console' old new (front, rest, (is, (all, h))) c none end =
      go known'' (subst (λ (v : Option (List ℕ)). Consumes v known'' bytes) is c) end
    where
      go : (known'' : Option (List ℕ)) → Consumes (Some rest) known'' bytes → IsAtEnd known'' → Continues pile console xs old console' new
      go None c end = absurd c
      go (Some ys) c end =
          let e : xs ≡ front = all ∙ ap (λ (v : List ℕ). front ++ v) (c ∙ ap (λ (v : List ℕ). v ++ ys) none ∙ end) ∙ append-nil front in
          subst (λ (v : List ℕ). Continues pile console v old console' new) (sym e) h

  pub reads_stop : (known known' : Option (List ℕ)) (console console' : Console P) (old new : Option (List ℕ))
      → ReadsOn pile known console old known' console' new → console'.stopped ≡ true → ReadsAll pile known console old console' new
  unfolding ReadsOn ReadsAll
  reads_stop None known' console console' old new h on = tt
  reads_stop (Some xs) known' console console' old new (front, rest, (is, (all, h))) on =
      subst (λ (v : List ℕ). Continues pile console v old console' new) (sym all) (unread console console' front rest old new on h)

  pub all_read : (bytes : List ℕ) (console console' : Console P) (old new : Option (List ℕ)) → Continues pile console bytes old console' new
      → ReadsAll pile (Some bytes) console old console' new
  unfolding ReadsAll
  all_read bytes console console' old new h = h

  -- from the first byte to the bill
  pub prints : (known : Option (List ℕ)) (console console' : Console P) (ending : List ℕ) (old mid last new : Option (List ℕ))
      → LedTo pile [] [] console → ReadsAll pile known console old console' mid
      → EndsPrinted pile console' ending → EndsLightest pile console' ending → EndsAlone pile console' ending
      → Appends mid last ending → Keeps last new → PrintsKnown pile known old new
  unfolding ReadsAll Continues EndsPrinted EndsLightest EndsAlone
  prints None console console' ending old mid last new begun h p s o a f = tt
  prints (Some xs) console console' ending old mid last new begun h p s o a f =
      let i = h [] [] begun in
      record {
        text = i.0 ++ ending;
        shows = s xs i.0 i.1.0;
        alone = λ other q. o xs i.0 other i.1.0 q;
        printed = then old mid new i.0 ending i.1.1 (flushed mid last new ending a f);
      }

-- what holds whatever comes
pub always : {X E : Type 0} {F : Type 0} (r : Result X E) → F → OnOk r F
always (Ok x) f = f
always (Err e) f = tt
