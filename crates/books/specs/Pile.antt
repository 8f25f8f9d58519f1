-- The frame layer over the general book: its meaning, and its articles in one list.
use Rattle.std.specs.Prelude.{ℕ, List, ◌++◌}
use Rattle.rebar.specs.declared.beam.Beam.{Beam}
use Rattle.rebar.specs.declared.cage.Cage.{Cage}
use Rattle.books.specs.declared.frame.Frame.{Frame}
use Rattle.books.specs.declared.general.General.{General}
use Rattle.books.specs.contracts.general.General.{the_row}
use Rattle.books.specs.contracts.general.GeneralBook.TheImpl as general-book
use Rattle.books.specs.contracts.frame.FrameBook.TheImpl as frame-book
use Rattle.books.specs.Rules.{Article}
use Rattle.books.specs.General.{articles_for}
use Rattle.books.specs.Frame.{frame_articles_for}

-- the `answer` that the two books themselves declare
abbrev pub framed_answer : Frame General → Beam → Cage → ℕ
framed_answer = (frame-book.ghosts the_row general-book.ghosts general-book.dict).answer

-- the articles of the general book, and after them those of the frame layer
unfoldable pub framed_articles_for : Beam → Cage → List Article
framed_articles_for b c = articles_for b c ++ frame_articles_for b c
