-- What holds of the table of a sheet after any list of calls.
use Rattle.std.proofs.Common.{◌≡◌, ◌≢◌, ℕ, zero, suc, ◌-◌, ◌<◌, ◌≤◌, min, Bool, true, false, cond, not, ◌&&◌, ◌||◌, List, [], ◌∷◌, length, map, replicate, Some, None, Ok, Option, is_some, ◌==◌, slice_index_or, slice_set, refl, sym, ap, ◌∙◌, subst, arith, ⊎_elim, get_or-set_same, get_or-set_other, eq-eqb, ne_eqb, length-set}
use mathlib.Core.Path.{fun_ext}
use Rattle.std.specs.Bool.{beq}
use Rattle.std.specs.List.{list_any}
use Rattle.std.proofs.lemmas.Bool.{cases_eq, or_parts, false≢true}
use Rattle.std.proofs.lemmas.Option.{none-some}
use Rattle.std.proofs.lemmas.List.{length-map}
use Rattle.rebar.specs.declared.beam.Beam.{Beam}
use Rattle.rebar.specs.declared.cage.Cage.{Cage}
use Rattle.card.specs.Card.{CardAs}
use Rattle.stock.specs.declared.kind.Kind.{Kind}
use Rattle.stock.specs.declared.kind.Kind.TheVariants.{Main, Tie}
use Rattle.stock.specs.declared.stock.Stock.{Stock}
use Rattle.stock.specs.Kinds.{known}
use Rattle.stock.specs.Stock.{has, with_mark, offers_cages}
use Rattle.search.specs.declared.decision.Decision.{Decision}
use Rattle.search.specs.declared.decision.Decision.TheVariants as decision
use Rattle.search.specs.Lightest.{Lightest}
use Rattle.sheet.specs.declared.call.Call.{Call}
use Rattle.sheet.specs.declared.entry.Entry.{Entry}
use Rattle.sheet.specs.declared.table.Table.{Table}
use Rattle.sheet.specs.Places.{beam_of, decided, uses, doubtful, kept, place_reopened}
use Rattle.sheet.specs.Size.{last_place, place_count}
use Rattle.sheet.specs.Table.{place_at, restocked}
use Rattle.sheet.specs.Calls.{why}
use Rattle.sheet.specs.History.{marks, in_after, stocked_after, card_after, why_after, If, Stands, designs_after}
use Rattle.sheet.proofs.StockAfter.{sets, has_set, has_same, offered, stay, no_more}

-- a place holds a beam that has to do with the card there, if any
abbrev pub HoldsBy : (List ℕ → Beam → Type 0) → Option (List ℕ) → Option Entry → Type 0
HoldsBy P None None = Unit {0}
HoldsBy P (Some card) (Some e) = P card e.beam
HoldsBy P None (Some e) = ⊥
HoldsBy P (Some card) None = ⊥

-- it is the card's
abbrev pub Holds : Option (List ℕ) → Option Entry → Type 0
Holds = HoldsBy (λ card b. CardAs card (Ok b))

-- whether a place holds a decision
abbrev pub is_decided : Option Entry → Bool
is_decided None = false
is_decided (Some e) = is_some e.decision

-- a decision that a place holds is right
abbrev pub IsDecidedWell : (Beam → Cage → ℕ) → (Kind → ℕ → Bool) → Beam → Option Decision → Type 0
IsDecidedWell pile got b None = Unit {0}
IsDecidedWell pile got b (Some d) = Lightest pile got b d

abbrev pub Right : (Beam → Cage → ℕ) → (Kind → ℕ → Bool) → Option Entry → Type 0
Right pile got None = Unit {0}
Right pile got (Some e) = IsDecidedWell pile got e.beam e.decision

-- the decision that a place holds
abbrev pub decision_at : Option Entry → Option Decision
decision_at None = None
decision_at (Some e) = e.decision

-- the one decision of which S holds, or that it holds of none
abbrev pub AgreesBy : Option Decision → (Decision → Type 0) → Type 0
AgreesBy None S = (d : Decision) → S d → ⊥
AgreesBy (Some d) S = S d × ((e : Decision) → S e → e ≡ d)

-- what holds of a table, where these cards lie at the places, these marks are in, these decisions stand, and there were so many
-- designs
pub record KeptBy (pile : Beam → Cage → ℕ) (cards : ℕ → Option (List ℕ)) (got : Kind → ℕ → Bool) (S : ℕ → Decision → Type 0) (designs : ℕ) (t : Table) : Type 0 where
  pub places : length t.places ≡ place_count
  pub mains : length t.stock.main ≡ 9
  pub ties : length t.stock.tie ≡ 3
  pub holds : (q : ℕ) → Holds (cards q) (place_at t q)
  pub marks : (k : Kind) (m : ℕ) → has t.stock k m ≡ got k m
  pub stands : (q : ℕ) → AgreesBy (decision_at (place_at t q)) (S q)
  pub right : (q : ℕ) → Right pile (has t.stock) (place_at t q)
  pub count : t.count ≡ min designs 4294967295

abbrev pub Kept : (Beam → Cage → ℕ) → List Call → Table → Type 0
Kept pile calls t = KeptBy pile (card_after calls) (in_after calls) (Stands pile calls) (designs_after calls) t

-- one place is written, and the others stay
placed : (xs : List (Option Entry)) (p : ℕ) (x : Option Entry) → length xs ≡ place_count → p ≤ last_place → (q : ℕ)
    → slice_index_or (slice_set xs p x) q None ≡ cond (p == q) x (slice_index_or xs q None)
placed xs p x l h q =
    let within : p < length xs = omega (arith, l, h) in
    ⊎_elim
    (λ (e : p ≡ q). rw (eq-eqb p q e, ← e) (get_or-set_same xs p x None within))
    (λ (d : p ≢ q). rw (ne_eqb p q d) (get_or-set_other xs p q x None (λ e. d (sym e))))
    (cases_eq p q)

-- a place of a mapped list, past its end too
mapped : (f : Option Entry → Option Entry) → f None ≡ None → (xs : List (Option Entry)) (q : ℕ)
    → slice_index_or (map f xs) q None ≡ f (slice_index_or xs q None)
mapped f e [] q = sym e
mapped f e (x ∷ xs) zero = refl
mapped f e (x ∷ xs) (suc q) = mapped f e xs q

pub all_alike : {A : Type 0} (a : A) (n q : ℕ) → slice_index_or (replicate n a) q a ≡ a
all_alike a zero q = refl
all_alike a (suc n) zero = refl
all_alike a (suc n) (suc q) = all_alike a n q

-- a place that is emptied, or whose beam is open, has no decision that stands
pub ended : (b : Bool) (S : Decision → Type 0) (x y : Option Entry) → decision_at x ≡ None → AgreesBy (decision_at y) S
    → AgreesBy (decision_at (cond b x y)) (λ d. If b ⊥ (S d))
ended true S x y e h = subst (λ (o : Option Decision). AgreesBy o (λ d. ⊥)) (sym e) (λ d s. s)
ended false S x y e h = h

-- a stock order that alters nothing, or gives no cause, leaves the decision
left : (same : Bool) (o : Option Decision) (S : Decision → Type 0) (f : Decision → Bool) → same ≡ true → AgreesBy o S
    → AgreesBy o (λ d. S d × ((not same && f d) ≡ false))
left same None S f e h = λ d s. h d s.0
left same (Some d) S f e h = ((h.0, rw e refl), λ d' s. h.1 d' s.0)

-- one that gives cause ends it
dropped : (same : Bool) (k : Kind) (m : ℕ) (b : Bool) (o : Option Decision) (S : Decision → Type 0) (f : Decision → Bool) → same ≡ false
    → ((d : Decision) → f d ≡ doubtful k m b d) → AgreesBy o S → AgreesBy (kept k m b o) (λ d. S d × ((not same && f d) ≡ false))
dropped same k m b None S f e g h = λ d s. h d s.0
dropped same k m b (Some d) S f e g h = go (doubtful k m b d) refl
  where
    go : (v : Bool) → doubtful k m b d ≡ v → AgreesBy (cond v None (Some d)) (λ d'. S d' × ((not same && f d') ≡ false))
    go true c = λ d' s. false≢true (sym s.1 ∙ rw (e, h.1 d' s.0, g d, c) refl)
    go false c = ((h.0, rw (e, g d, c) refl), λ d' s. h.1 d' s.0)

reopened_decision : (k : Kind) (m : ℕ) (b : Bool) (held : Option Entry) → decision_at (place_reopened k m b held) ≡ kept k m b (decision_at held)
reopened_decision k m b None = refl
reopened_decision k m b (Some e) = refl

either : {A : Type 0} (P : A → Type 0) (b : Bool) (x y : A) → P x → P y → P (cond b x y)
either P true x y h k = h
either P false x y h k = k

-- the place and its card are taken or not alike; chosen alike they stay so; and a place that is decided, or open again, holds
-- the beam that it held
module _ (P : List ℕ → Beam → Type 0) where
  taken : (c : Option (List ℕ)) (held : Option Entry) → HoldsBy P c held → is_some held ≡ is_some c
  taken None None h = refl
  taken (Some card) (Some e) h = refl
  taken None (Some e) h = absurd h
  taken (Some card) None h = absurd h

  pub both : (b : Bool) (c d : Option (List ℕ)) (x y : Option Entry) → HoldsBy P c x → HoldsBy P d y → HoldsBy P (cond b c d) (cond b x y)
  both true c d x y h k = h
  both false c d x y h k = k

  pub same_beam : (card : List ℕ) (x b : Beam) → Some x ≡ Some b → P card x → P card b
  same_beam card x b e h = let same : x ≡ b = cc in subst (P card) same h

  pub swapped : (c : Option (List ℕ)) (held : Option Entry) (b : Beam) (d : Decision) → HoldsBy P c held → beam_of held ≡ Some b
      → HoldsBy P c (Some (decided b d))
  swapped None None b d h e = none-some b e
  swapped (Some card) (Some x) b d h e = same_beam card x.beam b e h
  swapped None (Some x) b d h e = absurd h
  swapped (Some card) None b d h e = absurd h

  still : (k : Kind) (m : ℕ) (b : Bool) (c : Option (List ℕ)) (held : Option Entry) → HoldsBy P c held → HoldsBy P c (place_reopened k m b held)
  still k m b None None h = h
  still k m b (Some card) (Some e) h = h
  still k m b None (Some e) h = h
  still k m b (Some card) None h = h

-- a decision that is kept is right with the marks that are in now
module _ (pile : Beam → Cage → ℕ) (got got' : Kind → ℕ → Bool) (k : Kind) (m : ℕ) (b : Bool)
    (now : (j : Kind) (n : ℕ) → got' j n ≡ cond (sets k m j n) b (got j n)) (beam : Beam) where
  kept_right : (o : Option Decision) → IsDecidedWell pile got beam o → IsDecidedWell pile got' beam (kept k m b o)
  kept_right None r = tt
  kept_right (Some (decision.Impossible n)) r = tt
  kept_right (Some (decision.Chosen x)) r = go (b || uses k m x.cage) refl
    where
      go : (v : Bool) → (b || uses k m x.cage) ≡ v → IsDecidedWell pile got' beam (cond v None (Some (decision.Chosen x)))
      go true h = tt
      go false h =
          let u = or_parts b (uses k m x.cage) h in
          let out = λ (j : Kind) (n : ℕ). now j n ∙ ap (λ v. cond (sets k m j n) v (got j n)) u.0 in
          (stay got got' k m out x.cage u.1 r.0, r.1, r.2, λ d f. r.3 d (no_more got got' k m out d f))

reopened_right : (pile : Beam → Cage → ℕ) (got got' : Kind → ℕ → Bool) (k : Kind) (m : ℕ) (b : Bool)
    → ((j : Kind) (n : ℕ) → got' j n ≡ cond (sets k m j n) b (got j n))
    → (held : Option Entry) → Right pile got held → Right pile got' (place_reopened k m b held)
reopened_right pile got got' k m b now None r = tt
reopened_right pile got got' k m b now (Some e) r = kept_right pile got got' k m b now e.beam e.decision r

mains_after : (s : Stock) (k : Kind) (m : ℕ) (b : Bool) → length s.main ≡ 9 → length (with_mark s k m b).main ≡ 9
mains_after s Main m b l = length-set s.main (m - 3) b ∙ l
mains_after s Tie m b l = l

ties_after : (s : Stock) (k : Kind) (m : ℕ) (b : Bool) → length s.tie ≡ 3 → length (with_mark s k m b).tie ≡ 3
ties_after s Main m b l = l
ties_after s Tie m b l = length-set s.tie (m - 3) b ∙ l

module _ {pile : Beam → Cage → ℕ} {cards : ℕ → Option (List ℕ)} {got : Kind → ℕ → Bool} {S : ℕ → Decision → Type 0} {designs : ℕ} {t : Table}
    (k : KeptBy pile cards got S designs t) where
  -- the table with one place written
  pub written : (p : ℕ) → p ≤ last_place → (x : Option Entry) → Right pile (has t.stock) x
      → (cards' : ℕ → Option (List ℕ)) → ((q : ℕ) → Holds (cards' q) (cond (p == q) x (place_at t q)))
      → (S' : ℕ → Decision → Type 0) → ((q : ℕ) → AgreesBy (decision_at (cond (p == q) x (place_at t q))) (S' q))
      → (n count : ℕ) → count ≡ min n 4294967295
      → KeptBy pile cards' got S' n (record { places = slice_set t.places p x; stock = t.stock; count = count })
  written p h x r cards' hs S' ds n count c =
      let at = placed t.places p x k.places h in
      record {
        places = length-set t.places p x ∙ k.places;
        mains = k.mains;
        ties = k.ties;
        holds = λ q. subst (λ (v : Option Entry). Holds (cards' q) v) (sym (at q)) (hs q);
        marks = k.marks;
        stands = λ q. subst (λ (v : Option Entry). AgreesBy (decision_at v) (S' q)) (sym (at q)) (ds q);
        right = λ q. subst (λ (v : Option Entry). Right pile (has t.stock) v) (sym (at q)) (either (Right pile (has t.stock)) (p == q) x (place_at t q) r (k.right q));
        count = c;
      }

  -- the table with a mark set, where `same` says whether it was set so before
  pub restocked_kept : (j : Kind) (m : ℕ) (b : Bool) → known j m ≡ true → (same : Bool) → same ≡ beq (has t.stock j m) b
      → (f : Decision → Bool) → ((d : Decision) → f d ≡ doubtful j m b d)
      → KeptBy pile cards (λ i n. cond (sets j m i n) b (got i n)) (λ q d. S q d × ((not same && f d) ≡ false)) designs (restocked j m b t)
  restocked_kept j m b fine same is f cause = go (beq (has t.stock j m) b) refl
    where
      go : (v : Bool) → beq (has t.stock j m) b ≡ v
          → KeptBy pile cards (λ i n. cond (sets j m i n) b (got i n)) (λ q d. S q d × ((not same && f d) ≡ false)) designs
          (cond v t (record { places = map (place_reopened j m b) t.places; stock = with_mark t.stock j m b; count = t.count }))
      go true h =
          record {
            places = k.places;
            mains = k.mains;
            ties = k.ties;
            holds = k.holds;
            marks = λ i n. has_same t.stock j m b h i n ∙ ap (λ v. cond (sets j m i n) b v) (k.marks i n);
            stands = λ q. left same (decision_at (place_at t q)) (S q) f (is ∙ h) (k.stands q);
            right = k.right;
            count = k.count;
          }
      go false h =
          let set' = has_set t.stock k.mains k.ties j m b fine in
          let at = mapped (place_reopened j m b) refl t.places in
          record {
            places = length-map t.places (place_reopened j m b) ∙ k.places;
            mains = mains_after t.stock j m b k.mains;
            ties = ties_after t.stock j m b k.ties;
            holds = λ q. subst (λ (v : Option Entry). Holds (cards q) v) (sym (at q)) (still (λ card b. CardAs card (Ok b)) j m b (cards q) (place_at t q) (k.holds q));
            marks = λ i n. set' i n ∙ ap (λ v. cond (sets j m i n) b v) (k.marks i n);
            stands = λ q.
                subst (λ (o : Option Decision). AgreesBy o (λ d. S q d × ((not same && f d) ≡ false)))
                (sym (ap decision_at (at q) ∙ reopened_decision j m b (place_at t q)))
                (dropped same j m b (decision_at (place_at t q)) (S q) f (is ∙ h) cause (k.stands q));
            right = λ q. subst (λ (v : Option Entry). Right pile (has (with_mark t.stock j m b)) v) (sym (at q))
                (reopened_right pile (has t.stock) (has (with_mark t.stock j m b)) j m b set' (place_at t q) (k.right q));
            count = k.count;
          }

module _ (pile : Beam → Cage → ℕ) (calls : List Call) (t : Table) (k : Kept pile calls t) where
  pub marked : has t.stock ≡ in_after calls
  marked = fun_ext (λ j. fun_ext (λ m. k.marks j m))

  -- a call is refused by the table as it is by the calls before it
  pub same_why : (call : Call) → why t call ≡ why_after calls call
  same_why call =
      let places : (λ p. is_some (place_at t p)) ≡ (λ p. is_some (card_after calls p)) = fun_ext (λ p. taken (λ card b. CardAs card (Ok b)) (card_after calls p) (place_at t p) (k.holds p)) in
      let stock : offers_cages t.stock ≡ stocked_after calls =
      offered t.stock k.mains k.ties ∙ ap (λ got. list_any (got Main) marks && list_any (got Tie) marks) marked in
      rw (places, stock) refl
