-- No article of the frame layer has the number 0, in a frame or not.
use Rattle.std.proofs.Common.{◌≡◌, true, false, cond, [], refl}
use Rattle.rebar.specs.declared.beam.Beam.{Beam}
use Rattle.rebar.specs.declared.cage.Cage.{Cage}
use Rattle.books.specs.General.{articles_for}
use Rattle.books.specs.Frame.{frame, frame_articles_for}
use Rattle.books.specs.Pile.{framed_articles_for}
use Rattle.books.proofs.Reflect.{numbered}

pub frame_numbered : (b : Beam) (c : Cage) → numbered (frame_articles_for b c) ≡ true
frame_numbered b c =
    elim b.member.in_frame as (λ t. numbered (cond t (frame b.section b.materials b.member b.actions c) []) ≡ true) [ true ↦ refl | false ↦ refl ]

-- nor has one of the general book before them
pub both_numbered : (b : Beam) (c : Cage) → numbered (framed_articles_for b c) ≡ true
unfolding framed_articles_for articles_for
both_numbered b c = frame_numbered b c
