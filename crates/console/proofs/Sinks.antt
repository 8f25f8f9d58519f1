-- What is known of a sink.
use Rattle.std.proofs.Common.{◌≡◌, ℕ, ◌+◌, ◌≤◌, List, [], ◌++◌, length, take, drop, Some, None, Option, sym, ap, ◌∙◌, append-nil, append_assoc, length-append, length-take-le}
use Rattle.std.proofs.Math.Seq.{take-append_seam}
use Rattle.std.specs.Io.KnownBytes.{Appends, Keeps}

pub nothing : (old : Option (List ℕ)) → Appends old old []
nothing None = tt
nothing (Some xs) = sym (append-nil xs)

pub flushed : (old mid new : Option (List ℕ)) (bytes : List ℕ) → Appends old mid bytes → Keeps mid new → Appends old new bytes
flushed None mid new bytes a k = tt
flushed (Some xs) (Some ys) (Some zs) bytes a k = k ∙ a
flushed (Some xs) (Some ys) None bytes a k = k
flushed (Some xs) None new bytes a k = absurd a

pub then : (old mid new : Option (List ℕ)) (more last : List ℕ) → Appends old mid more → Appends mid new last → Appends old new (more ++ last)
then None mid new more last a b = tt
then (Some xs) (Some ys) (Some zs) more last a b = b ∙ ap (λ (v : List ℕ). v ++ last) a ∙ append_assoc xs more last
then (Some xs) (Some ys) None more last a b = b
then (Some xs) None new more last a b = absurd a

-- bytes put on a page after the first w
pub put_on : (page page' more : List ℕ) (w n : ℕ) → n ≡ w + length more → w ≤ length page → page' ≡ take w page ++ (more ++ drop n page)
    → take n page' ≡ take w page ++ more
put_on page page' more w n count fits is =
    let e : length (take w page ++ more) ≡ n = length-append (take w page) more ∙ ap (λ (v : ℕ). v + length more) (length-take-le w page fits) ∙ sym count in
    ap (take n) (is ∙ sym (append_assoc (take w page) more (drop n page)))
    ∙ ap (λ (v : ℕ). take v ((take w page ++ more) ++ drop n page)) (sym e) ∙ take-append_seam (take w page ++ more) (drop n page)
