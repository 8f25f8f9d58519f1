-- The orders of a stream, one after the other, and how it goes on.
use Rattle.std.proofs.Common.{◌≡◌, ℕ, Bool, true, false, cond, not, List, [], ◌∷◌, ◌++◌, length, map, reverse, take, drop, ◌==◌, sym, refl, ap, ◌∙◌, subst, append_assoc}
use Rattle.std.specs.Borrow.{Bor}
use Rattle.std.proofs.lemmas.Bool.{false≢true}
use Rattle.std.proofs.lemmas.List.{reverse-append, reverse-reverse}
use Rattle.std.proofs.Math.Seq.{take-append_seam, drop-append_seam}
use Rattle.sheet.specs.declared.call.Call.{Call}
use Rattle.sheet.specs.declared.call.Call.TheVariants.{Enter, Correct, Strike, Stock, Design, Read, Count}
use Rattle.console.specs.Letters.{enter_letter, correct_letter, strike_letter, stock_letter}
use Rattle.console.specs.Orders.{Begins, NoOrder, Leaves, is_letter, begins_known}
use Rattle.console.proofs.Alike.{nowhere, plain}

-- an order stands whole however the stream goes on
pub begins_more : (stream : List ℕ) (call : Call) (rest more : List ℕ) → Begins stream call rest → Begins (stream ++ more) call (rest ++ more)
begins_more stream (Enter p card) rest more h =
    ap (λ (s : List ℕ). s ++ more) h ∙ ap (λ (s : List ℕ). 69 ∷ p ∷ length card.now ∷ s) (append_assoc card.now rest more)
begins_more stream (Correct p card) rest more h =
    ap (λ (s : List ℕ). s ++ more) h ∙ ap (λ (s : List ℕ). 75 ∷ p ∷ length card.now ∷ s) (append_assoc card.now rest more)
begins_more stream (Strike p) rest more h = ap (λ (s : List ℕ). s ++ more) h
begins_more stream (Stock kind mark is-in) rest more h = (h.0, (ap (λ (s : List ℕ). s ++ more) h.1.0, h.1.1))
begins_more stream (Design p) rest more h = ap (λ (s : List ℕ). s ++ more) h
begins_more stream (Read p) rest more h = absurd h
begins_more stream Count rest more h = absurd h

pub leaves_more : (stream : List ℕ) (calls : List Call) (rest more : List ℕ) → Leaves stream calls rest → Leaves (stream ++ more) calls (rest ++ more)
leaves_more stream [] rest more e = ap (λ (s : List ℕ). s ++ more) e
leaves_more stream (c ∷ calls) rest more h = (h.0 ++ more, (begins_more stream c h.0 more h.1.0, leaves_more h.0 calls rest more h.1.1))

-- one order more
pub one_more : (stream : List ℕ) (calls : List Call) (mid : List ℕ) (call : Call) (rest : List ℕ)
    → Leaves stream calls mid → Begins mid call rest → Leaves stream (calls ++ call ∷ []) rest
one_more stream [] mid call rest e h = (rest, (subst (λ (s : List ℕ). Begins s call rest) (sym e) h, refl))
one_more stream (c ∷ calls) mid call rest b h = (b.0, (b.1.0, one_more b.0 calls mid call rest b.1.1 h))

-- whether there is a letter that an order has
starts : List ℕ → Bool
starts [] = false
starts (b ∷ bytes) = is_letter b

begins_starts : (stream : List ℕ) (call : Call) (rest : List ℕ) → Begins stream call rest → starts stream ≡ true
unfolding starts
begins_starts stream (Enter p card) rest h = ap starts h
begins_starts stream (Correct p card) rest h = ap starts h
begins_starts stream (Strike p) rest h = ap starts h
begins_starts stream (Stock kind mark is-in) rest h = ap starts h.1.0
begins_starts stream (Design p) rest h = ap starts h
begins_starts stream (Read p) rest h = absurd h
begins_starts stream Count rest h = absurd h

-- no order begins with an unknown letter
pub unknown : (bytes : List ℕ) → begins_known bytes ≡ false → NoOrder bytes
unfolding starts
unknown [] e call rest h = absurd (false≢true (sym e))
unknown (b ∷ bytes) e call rest h = false≢true (sym e ∙ begins_starts (b ∷ bytes) call rest h)

pub unknown_more : (bytes more : List ℕ) → begins_known bytes ≡ false → begins_known (bytes ++ more) ≡ false
unknown_more [] more e = absurd (false≢true (sym e))
unknown_more (b ∷ bytes) more e = e

-- nor does one stand where there is no byte
pub no_byte : NoOrder []
unfolding starts
no_byte call rest h = false≢true (begins_starts [] call rest h)

-- the call of the order that a stream begins with, without where its card lies, and what follows it; where no order stands whole
-- it is of no matter
with_card : (ℕ → Bor (List ℕ) → Call) → ℕ → List ℕ → Call × List ℕ
with_card make p [] = (Count, [])
with_card make p (n ∷ rest) = (make p (nowhere (take n rest)), drop n rest)

of_a_mark : ℕ → List ℕ → Call × List ℕ
of_a_mark kind (mark ∷ value ∷ rest) = (Stock kind mark (not (value == 0)), rest)
of_a_mark kind rest = (Count, rest)

first : List ℕ → Call × List ℕ
first (letter ∷ b ∷ rest) =
    cond (letter == enter_letter) (with_card Enter b rest)
    (cond (letter == correct_letter) (with_card Correct b rest)
    (cond (letter == strike_letter) (Strike b, rest) (cond (letter == stock_letter) (of_a_mark b rest) (Design b, rest))))
first rest = (Count, rest)

card_cut : (make : ℕ → Bor (List ℕ) → Call) (p : ℕ) (card rest : List ℕ)
    → with_card make p (length card ∷ (card ++ rest)) ≡ (make p (nowhere card), rest)
unfolding with_card
card_cut make p card rest =
    ap (λ (v : List ℕ). (make p (nowhere v), drop (length card) (card ++ rest))) (take-append_seam card rest)
    ∙ ap (λ (v : List ℕ). (make p (nowhere card), v)) (drop-append_seam card rest)

begins_first : (stream : List ℕ) (call : Call) (rest : List ℕ) → Begins stream call rest → first stream ≡ (plain call, rest)
unfolding first with_card of_a_mark
begins_first stream (Enter p card) rest h = ap first h ∙ card_cut Enter p card.now rest
begins_first stream (Correct p card) rest h = ap first h ∙ card_cut Correct p card.now rest
begins_first stream (Strike p) rest h = ap first h
begins_first stream (Stock kind mark is-in) rest h = ap first h.1.0 ∙ ap (λ (v : Bool). (Stock kind mark v, rest)) (sym h.1.1)
begins_first stream (Design p) rest h = ap first h
begins_first stream (Read p) rest h = absurd h
begins_first stream Count rest h = absurd h

-- a stream begins with one order at most, but for where a card lies
pub one_order : (stream : List ℕ) (c d : Call) (r s : List ℕ) → Begins stream c r → Begins stream d s → (plain c ≡ plain d) × (r ≡ s)
one_order stream c d r s h k =
    let e = sym (begins_first stream c r h) ∙ begins_first stream d s k in
    (ap (λ (v : Call × List ℕ). v.0) e, ap (λ (v : Call × List ℕ). v.1) e)

-- and its orders, up to where none stands whole, are the only ones
pub one_leaving : (stream : List ℕ) (cs ds : List Call) (r s : List ℕ) → Leaves stream cs r → NoOrder r → Leaves stream ds s → NoOrder s
    → (map plain cs ≡ map plain ds) × (r ≡ s)
one_leaving stream [] [] r s h m k n = (refl, sym h ∙ k)
one_leaving stream [] (d ∷ ds) r s h m k n = absurd (m d k.0 (subst (λ (v : List ℕ). Begins v d k.0) h k.1.0))
one_leaving stream (c ∷ cs) [] r s h m k n = absurd (n c h.0 (subst (λ (v : List ℕ). Begins v c h.0) k h.1.0))
one_leaving stream (c ∷ cs) (d ∷ ds) r s h m k n =
    let o = one_order stream c d h.0 k.0 h.1.0 k.1.0 in
    let i = one_leaving k.0 cs ds r s (subst (λ (v : List ℕ). Leaves v cs r) o.1 h.1.1) m k.1.1 n in
    (ap (λ (v : Call). v ∷ map plain cs) o.0 ∙ ap (λ (v : List Call). plain d ∷ v) i.0, i.1)

-- with the last byte off, the same stands
same_front : (xs ys : List ℕ) (x y : ℕ) → xs ++ x ∷ [] ≡ ys ++ y ∷ [] → xs ≡ ys
same_front xs ys x y e =
    let r : x ∷ reverse xs ≡ y ∷ reverse ys = sym (reverse-append xs (x ∷ [])) ∙ ap reverse e ∙ reverse-append ys (y ∷ []) in
    let t : reverse xs ≡ reverse ys = cc in
    sym (reverse-reverse xs) ∙ ap reverse t ∙ reverse-reverse ys

-- an order that stands whole with a byte more after it stands whole without
shorter : (xs : List ℕ) (b : ℕ) (call : Call) (ys : List ℕ) (y : ℕ) → Begins (xs ++ b ∷ []) call (ys ++ y ∷ []) → Begins xs call ys
shorter xs b (Enter p card) ys y h =
    same_front xs (69 ∷ p ∷ length card.now ∷ (card.now ++ ys)) b y (h ∙ ap (λ (s : List ℕ). 69 ∷ p ∷ length card.now ∷ s) (sym (append_assoc card.now ys (y ∷ []))))
shorter xs b (Correct p card) ys y h =
    same_front xs (75 ∷ p ∷ length card.now ∷ (card.now ++ ys)) b y (h ∙ ap (λ (s : List ℕ). 75 ∷ p ∷ length card.now ∷ s) (sym (append_assoc card.now ys (y ∷ []))))
shorter xs b (Strike p) ys y h = same_front xs (88 ∷ p ∷ ys) b y h
shorter xs b (Stock kind mark is-in) ys y h = (h.0, (same_front xs (83 ∷ kind ∷ mark ∷ h.0 ∷ ys) b y h.1.0, h.1.1))
shorter xs b (Design p) ys y h = same_front xs (68 ∷ p ∷ ys) b y h
shorter xs b (Read p) ys y h = absurd h
shorter xs b Count ys y h = absurd h

-- an order that a byte makes whole ends with it
pub ends_here : (xs : List ℕ) (b : ℕ) (call : Call) (after : List ℕ) → NoOrder xs → Begins (xs ++ b ∷ []) call after → after ≡ []
ends_here xs b call after none h = go (reverse after) refl
  where
    go : (turned : List ℕ) → reverse after ≡ turned → after ≡ []
    go [] e = sym (reverse-reverse after) ∙ ap reverse e
    go (y ∷ ys) e =
        let last : after ≡ reverse ys ++ y ∷ [] = sym (reverse-reverse after) ∙ ap reverse e ∙ reverse-append (y ∷ []) ys in
        absurd (none call (reverse ys) (shorter xs b call (reverse ys) y (subst (λ (v : List ℕ). Begins (xs ++ b ∷ []) call v) last h)))
