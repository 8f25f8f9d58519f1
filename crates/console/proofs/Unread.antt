-- How far a reader is read.
use Rattle.std.proofs.Common.{◌≡◌, inl, inr, ℕ, ◌≤◌, Bool, true, false, List, [], ◌++◌, length, Some, None, Option, MatchBool, sym, refl, ap, ◌∙◌, subst, arith, append-nil, append_assoc}
use Rattle.std.specs.Io.KnownBytes.{Consumes, IsAtEnd}
use Rattle.rebar.specs.declared.beam.Beam.{Beam}
use Rattle.rebar.specs.declared.cage.Cage.{Cage}
use Rattle.console.specs.Orders.{IsStopped}
use Rattle.console.specs.Streams.{LedTo}
use Rattle.console.specs.Sinks.{ReadsUntilStop}
use Rattle.console.specs.Feeding.{Continues, ReadsOn, ReadsNoFurther}
use Rattle.console.specs.declared.console.Console.{Console}
use Rattle.console.proofs.Stopping.{tells}

module _ {P : Type 0} (pile : Beam → Cage → ℕ) where
  told : (console : Console P) (stream text : List ℕ) → LedTo pile stream text console
      → MatchBool console.stopped (IsStopped stream) (IsStopped stream → ⊥)
  told console stream text l =
      tells pile stream text console.sheet.table console.pending.items console.stopped console.begun l

  going : (console : Console P) (stream text : List ℕ) → console.stopped ≡ false → LedTo pile stream text console → IsStopped stream → ⊥
  going console stream text off l =
      subst (λ (v : Bool). MatchBool v (IsStopped stream) (IsStopped stream → ⊥)) off (told console stream text l)

  come : (console : Console P) (stream text : List ℕ) → console.stopped ≡ true → LedTo pile stream text console → IsStopped stream
  come console stream text on l =
      subst (λ (v : Bool). MatchBool v (IsStopped stream) (IsStopped stream → ⊥)) on (told console stream text l)

  -- the reader has no byte left
  pub to_the_end : (most : ℕ) (known known' known'' : Option (List ℕ)) (bytes : List ℕ) (console console' : Console P) (old new : Option (List ℕ))
      → ReadsOn pile known console old known' console' new → Consumes known' known'' bytes → bytes ≡ [] → IsAtEnd known''
      → console'.stopped ≡ false → ReadsNoFurther most pile known console known''
  unfolding ReadsOn Continues ReadsNoFurther
  to_the_end most None known' known'' bytes console console' old new h c none end off = tt
  to_the_end most (Some xs) known' known'' bytes console console' old new (front, rest, (is, (all, h))) c none end off =
      go known'' (subst (λ (v : Option (List ℕ)). Consumes v known'' bytes) is c) end
    where
      go : (known'' : Option (List ℕ)) → Consumes (Some rest) known'' bytes → IsAtEnd known'' → ReadsNoFurther most pile (Some xs) console known''
      go None c end = absurd c
      go (Some ys) c end =
          λ stream text l.
          let i = h stream text l in (
            ys,
            (
              refl,
              record {
                front = front;
                piece = [];
                taken = all ∙ ap (λ (v : List ℕ). front ++ v) (c ∙ ap (λ (v : List ℕ). v ++ ys) none) ∙ ap (λ (v : List ℕ). v ++ ys) (sym (append-nil front));
                small = omega arith;
                going = going console' (stream ++ front) (text ++ i.0) off i.1.0;
                ended = inl end;
              },
            ),
          )

  -- the reading has stopped within the last piece
  pub to_the_stop : (most : ℕ) (known known' known'' : Option (List ℕ)) (bytes : List ℕ) (console mid console' : Console P) (old between new : Option (List ℕ))
      → ReadsOn pile known console old known' mid between → Consumes known' known'' bytes → Continues pile mid bytes between console' new
      → length bytes ≤ most → mid.stopped ≡ false → console'.stopped ≡ true → ReadsNoFurther most pile known console known''
  unfolding ReadsOn Continues ReadsNoFurther
  to_the_stop most None known' known'' bytes console mid console' old between new h c k small off on = tt
  to_the_stop most (Some xs) known' known'' bytes console mid console' old between new (front, rest, (is, (all, h))) c k small off on =
      go known'' (subst (λ (v : Option (List ℕ)). Consumes v known'' bytes) is c)
    where
      go : (known'' : Option (List ℕ)) → Consumes (Some rest) known'' bytes → ReadsNoFurther most pile (Some xs) console known''
      go None c = absurd c
      go (Some ys) c =
          λ stream text l.
          let i = h stream text l in
          let j = k (stream ++ front) (text ++ i.0) i.1.0 in (
            ys,
            (
              refl,
              record {
                front = front;
                piece = bytes;
                taken = all ∙ ap (λ (v : List ℕ). front ++ v) c ∙ sym (append_assoc front bytes ys);
                small = small;
                going = going mid (stream ++ front) (text ++ i.0) off i.1.0;
                ended =
                    inr (subst IsStopped (append_assoc stream front bytes) (come console' ((stream ++ front) ++ bytes) ((text ++ i.0) ++ j.0) on j.1.0));
              },
            ),
          )

  -- from the first byte on
  pub until_stop : (most : ℕ) (known known' : Option (List ℕ)) (console : Console P) → LedTo pile [] [] console → ReadsNoFurther most pile known console known'
      → ReadsUntilStop most known known'
  unfolding ReadsNoFurther
  until_stop most None known' console l h = tt
  until_stop most (Some bytes) known' console l h = h [] [] l
