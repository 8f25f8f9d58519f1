-- Every call keeps what holds of the table, and so the law holds after any list of calls.
use Rattle.std.proofs.Common.{◌≡◌, ℕ, suc, ◌+◌, ◌≤◌, min, Bool, true, false, cond, ◌&&◌, ◌||◌, List, ◌∷◌, length, ◌-◌, Some, None, Ok, Err, Option, Result, is_some, is_none, nat_lt, ◌==◌, slice_index_or, refl, sym, ap, ◌∙◌, subst, arith, eqb-true, eq-eqb, ltb-false}
use mathlib.Core.Path.{fun_ext}
use Rattle.std.specs.Bool.{beq}
use Rattle.std.proofs.lemmas.Bool.{false≢true, false_from_ne_true}
use Rattle.std.proofs.lemmas.Option.{none-some}
use Rattle.rebar.specs.declared.beam.Beam.{Beam}
use Rattle.rebar.specs.declared.cage.Cage.{Cage}
use Rattle.card.specs.Card.{CardAs}
use Rattle.stock.specs.declared.kind.Kind.{Kind}
use Rattle.stock.specs.declared.kind.Kind.TheVariants.{Main, Tie}
use Rattle.stock.specs.Kinds.{kind_number, known}
use Rattle.stock.specs.Stock.{has}
use Rattle.search.specs.declared.decision.Decision.{Decision}
use Rattle.search.specs.declared.decision.Decision.TheVariants as decision
use Rattle.search.specs.Lightest.{Lightest}
use Rattle.search.proofs.One.{one_decision}
use Rattle.card.proofs.One.{only_beam}
use Rattle.sheet.specs.declared.call.Call.{Call}
use Rattle.sheet.specs.declared.call.Call.TheVariants as call
use Rattle.sheet.specs.declared.entry.Entry.{Entry}
use Rattle.sheet.specs.declared.reading.Reading.{Reading}
use Rattle.sheet.specs.declared.reading.Shown.{Shown}
use Rattle.sheet.specs.declared.reading.Shown.TheVariants as shown
use Rattle.sheet.specs.declared.refusal.Refusal.{Refusal}
use Rattle.sheet.specs.declared.refusal.Refusal.TheVariants.{NoSuchPlace, PlaceEmpty, NothingInStock, NoSuchMark}
use Rattle.sheet.specs.declared.table.Table.{Table}
use Rattle.sheet.specs.Places.{beam_of, opened, decided, doubtful, shown_of, shown_by}
use Rattle.sheet.specs.Size.{last_place, place_count}
use Rattle.sheet.specs.Table.{place_at, with_place, restocked, settled}
use Rattle.sheet.specs.Calls.{at_place, why, is_known, PutsCard, Does, Makes, Reads}
use Rattle.sheet.specs.History.{in_after, stocked_after, card_by, card_after, why_after, in_by_number, If, doubts, StandsBy, Stands, designs_by, designs_after, IsBeamAfter}
use Rattle.sheet.specs.Law.{IsRight, IsDecided, IsDecidedByDesign, Lawful}
use Rattle.sheet.specs.Runs.{Run, opened as run_opened, made, Grows, ReadsLawfully, CountsDesigns}
use Rattle.sheet.proofs.Kept.{Holds, IsDecidedWell, Right, decision_at, AgreesBy, KeptBy, Kept, both, ended, same_beam, swapped, all_alike, same_why, marked, written, restocked_kept}

-- a refused call sets no mark
unset : (kind mark : ℕ) (k : Kind) (m : ℕ) → is_known kind mark ≡ false → (kind == kind_number k && (mark == m && known k m)) ≡ false
unset kind mark Main m e = go (kind == 0) (mark == m) refl refl
  where
    go : (v w : Bool) → (kind == 0) ≡ v → (mark == m) ≡ w → (v && (w && known Main m)) ≡ false
    go false w p q = refl
    go true false p q = refl
    go true true p q = false_from_ne_true (known Main m) (λ t. false≢true (sym e ∙ rw (p, eqb-true mark m q, t) refl))
unset kind mark Tie m e = go (kind == 1) (mark == m) refl refl
  where
    go : (v w : Bool) → (kind == 1) ≡ v → (mark == m) ≡ w → (v && (w && known Tie m)) ≡ false
    go false w p q = refl
    go true false p q = refl
    go true true p q = false_from_ne_true (known Tie m) (λ t. false≢true (sym e ∙ rw (eqb-true kind 1 p, eqb-true mark m q, t) refl))

refused_mark : (kind mark : ℕ) (e : Refusal) → cond (is_known kind mark) None (Some NoSuchMark) ≡ Some e → is_known kind mark ≡ false
refused_mark kind mark e h = go (is_known kind mark) refl
  where
    go : (v : Bool) → is_known kind mark ≡ v → is_known kind mark ≡ false
    go true p = absurd (none-some _ (ap (λ v. cond v None (Some NoSuchMark)) (sym p) ∙ h))
    go false p = p

accepted_mark : (kind mark : ℕ) → cond (is_known kind mark) None (Some NoSuchMark) ≡ None → is_known kind mark ≡ true
accepted_mark kind mark h = go (is_known kind mark) refl
  where
    go : (v : Bool) → is_known kind mark ≡ v → is_known kind mark ≡ true
    go true p = p
    go false p = absurd (none-some _ (sym h ∙ ap (λ v. cond v None (Some NoSuchMark)) p))

or_nothing : (x : Bool) → (x || false) ≡ x
or_nothing true = refl
or_nothing false = refl

known_by_number : (k : Kind) (m : ℕ) → is_known (kind_number k) m ≡ known k m
known_by_number Main m = or_nothing (known Main m)
known_by_number Tie m = refl

in_by_its_number : (calls : List Call) (k : Kind) (m : ℕ) → in_by_number calls (kind_number k) m ≡ in_after calls k m
in_by_its_number calls Main m = or_nothing (in_after calls Main m)
in_by_its_number calls Tie m = refl

in_refused : (calls : List Call) (c : Call) (e : Refusal) → why_after calls c ≡ Some e → (k : Kind) (m : ℕ) → in_after calls k m ≡ in_after (c ∷ calls) k m
in_refused calls (call.Stock kind mark b) e h k m = sym (ap (λ v. cond v b (in_after calls k m)) (unset kind mark k m (refused_mark kind mark e h)))
in_refused calls c e h k m = refl

-- a call that is not refused for its place has one
there : (p : ℕ) (o : Option Refusal) → at_place p o ≡ None → p ≤ last_place
there p o h = go (nat_lt last_place p) refl
  where
    go : (v : Bool) → nat_lt last_place p ≡ v → p ≤ last_place
    go true e = absurd (none-some _ (sym h ∙ ap (λ v. cond v (Some NoSuchPlace) o) e))
    go false e = ltb-false last_place p e

one_more : (n m : ℕ) → n ≡ min m 4294967295 → min (n + 1) 4294967295 ≡ min (suc m) 4294967295
one_more n m e = omega (arith, e)

-- the beam at a place that holds the beam of its card
beam_held : (c : Option (List ℕ)) (held : Option Entry) (b : Beam) → Holds c held → beam_of held ≡ Some b → (card : List ℕ) × ((c ≡ Some card) × CardAs card (Ok b))
beam_held (Some card) (Some x) b h e = (card, (refl, same_beam (λ card b. CardAs card (Ok b)) card x.beam b e h))
beam_held None None b h e = absurd (none-some b e)
beam_held (Some card) None b h e = absurd h
beam_held None (Some x) b h e = absurd h

-- two beams of one card, and two decisions that are right for it
same_card : (c d : List ℕ) (o : Option (List ℕ)) → o ≡ Some c → o ≡ Some d → c ≡ d
same_card c d o e f = cc

module _ (pile : Beam → Cage → ℕ) (calls : List Call) (p : ℕ) where
  one_beam : (b c : Beam) → IsBeamAfter calls p b → IsBeamAfter calls p c → c ≡ b
  one_beam b c h k =
      only_beam h.0 (Ok b) h.1.1 c (subst (λ (v : List ℕ). CardAs v (Ok c)) (same_card k.0 h.0 (card_after calls p) k.1.0 h.1.0) k.1.1)

  pub one_right : (b : Beam) (d e : Decision) → IsBeamAfter calls p b → Lightest pile (in_after calls) b d
      → (c : Beam) × (IsBeamAfter calls p c × Lightest pile (in_after calls) c e) → e ≡ d
  one_right b d e is l other =
      one_decision pile (in_after calls) b e d (subst (λ (v : Beam). Lightest pile (in_after calls) v e) (one_beam b other.0 is other.1.0) other.1.1) l

module _ (pile : Beam → Cage → ℕ) (calls : List Call) (t : Table) (k : Kept pile calls t) where
  -- what holds after a call that is not refused
  abbrev After : Call → Table → Type 0
  After c t' =
      KeptBy pile (λ q. card_by c q (card_after calls q)) (in_after (c ∷ calls)) (λ q d. StandsBy pile calls c q d (Stands pile calls q d))
      (designs_by c (designs_after calls)) t'

  -- the beam of a card is put at a place
  puts_card : (p : ℕ) (card : List ℕ) (t' : Table) → p ≤ last_place → PutsCard p card t t'
      → KeptBy pile (λ q. cond (p == q) (Some card) (card_after calls q)) (in_after calls) (λ q d. If (p == q) ⊥ (Stands pile calls q d)) (designs_after calls) t'
  puts_card p card t' h (b, (c, e)) =
      subst (λ (v : Table). KeptBy pile (λ q. cond (p == q) (Some card) (card_after calls q)) (in_after calls) (λ q d. If (p == q) ⊥ (Stands pile calls q d)) (designs_after calls) v) (sym e)
      (written k p h (Some (opened b)) tt _
      (λ q. both (λ card b. CardAs card (Ok b)) (p == q) (Some card) (card_after calls q) (Some (opened b)) (place_at t q) c (k.holds q)) _
      (λ q. ended (p == q) (Stands pile calls q) (Some (opened b)) (place_at t q) refl (k.stands q)) (designs_after calls) t.count k.count)

  empties : (p : ℕ) (t' : Table) → p ≤ last_place → t' ≡ with_place t p None
      → KeptBy pile (λ q. cond (p == q) None (card_after calls q)) (in_after calls) (λ q d. If (p == q) ⊥ (Stands pile calls q d)) (designs_after calls) t'
  empties p t' h e =
      subst (λ (v : Table). KeptBy pile (λ q. cond (p == q) None (card_after calls q)) (in_after calls) (λ q d. If (p == q) ⊥ (Stands pile calls q d)) (designs_after calls) v) (sym e)
      (written k p h None tt _
      (λ q. both (λ card b. CardAs card (Ok b)) (p == q) None (card_after calls q) None (place_at t q) tt (k.holds q)) _
      (λ q. ended (p == q) (Stands pile calls q) None (place_at t q) refl (k.stands q)) (designs_after calls) t.count k.count)

  -- a design order makes this decision, and no other, at this place
  abbrev Designed : ℕ → ℕ → Decision → Type 0
  Designed p q d = If (p == q) ((b : Beam) × (IsBeamAfter calls q b × Lightest pile (in_after calls) b d)) (Stands pile calls q d)

  settles : (p : ℕ) (b : Beam) (d : Decision) (t' : Table) → p ≤ last_place → beam_of (place_at t p) ≡ Some b → Lightest pile (has t.stock) b d → t' ≡ settled p b d t
      → KeptBy pile (card_after calls) (in_after calls) (Designed p) (suc (designs_after calls)) t'
  settles p b d t' h is l e =
      subst (λ (v : Table). KeptBy pile (card_after calls) (in_after calls) (Designed p) (suc (designs_after calls)) v) (sym e)
      (written k p h (Some (decided b d)) l (card_after calls) (λ q. here q (p == q) refl) (Designed p) (λ q. decides q (p == q) refl) (suc (designs_after calls))
      (min (t.count + 1) 4294967295) (one_more t.count (designs_after calls) k.count))
    where
      here : (q : ℕ) (v : Bool) → (p == q) ≡ v → Holds (card_after calls q) (cond v (Some (decided b d)) (place_at t q))
      here q true i =
          subst (λ (j : ℕ). Holds (card_after calls j) (Some (decided b d))) (eqb-true p q i)
          (swapped (λ card b. CardAs card (Ok b)) (card_after calls p) (place_at t p) b d (k.holds p) is)
      here q false i = k.holds q

      beam_here : IsBeamAfter calls p b
      beam_here = beam_held (card_after calls p) (place_at t p) b (k.holds p) is

      right_now : Lightest pile (in_after calls) b d
      right_now = subst (λ (g : Kind → ℕ → Bool). Lightest pile g b d) (marked pile calls t k) l

      decides : (q : ℕ) (v : Bool) → (p == q) ≡ v
          → AgreesBy (decision_at (cond v (Some (decided b d)) (place_at t q)))
          (λ e. If v ((c : Beam) × (IsBeamAfter calls q c × Lightest pile (in_after calls) c e)) (Stands pile calls q e))
      decides q true i =
          subst (λ (j : ℕ). AgreesBy (Some d) (λ e. (c : Beam) × (IsBeamAfter calls j c × Lightest pile (in_after calls) c e))) (eqb-true p q i)
          ((b, (beam_here, right_now)), λ e s. one_right pile calls p b d e beam_here right_now s)
      decides q false i = k.stands q

  restocks : (kind mark : ℕ) (b : Bool) (t' : Table) → is_known kind mark ≡ true → (j : Kind) → kind ≡ kind_number j → t' ≡ restocked j mark b t
      → After (call.Stock kind mark b) t'
  restocks kind mark b t' fine j is e =
      subst (λ (v : Table). After (call.Stock kind mark b) v) (sym e)
      (subst (λ (n : ℕ). After (call.Stock n mark b) (restocked j mark b t)) (sym is)
      (restocked_kept k j mark b known_it (beq (in_by_number calls (kind_number j) mark) b) same (doubts (kind_number j) mark b) (cause j)))
    where
      known_it : known j mark ≡ true
      known_it = sym (known_by_number j mark) ∙ ap (λ n. is_known n mark) (sym is) ∙ fine

      same : beq (in_by_number calls (kind_number j) mark) b ≡ beq (has t.stock j mark) b
      same = ap (λ v. beq v b) (in_by_its_number calls j mark ∙ sym (k.marks j mark))

      cause : (i : Kind) (d : Decision) → doubts (kind_number i) mark b d ≡ doubtful i mark b d
      cause Main d = or_nothing (doubtful Main mark b d)
      cause Tie d = refl

  unchanged : (t' : Table) → t' ≡ t → Kept pile calls t'
  unchanged t' e = subst (λ (v : Table). Kept pile calls v) (sym e) k

  done : (c : Call) (t' : Table) → why_after calls c ≡ None → Does pile t c t' → After c t'
  done (call.Enter p card) t' w d = puts_card p card.now t' (there p _ w) d
  done (call.Correct p card) t' w d = puts_card p card.now t' (there p _ w) d
  done (call.Strike p) t' w d = empties p t' (there p _ w) d
  done (call.Stock kind mark b) t' w d = restocks kind mark b t' (accepted_mark kind mark w) d.0 d.1.0 d.1.1
  done (call.Design p) t' w d = settles p d.0 d.1.0 t' (there p _ w) d.1.1.0 d.1.1.1 d.1.1.2
  done (call.Read p) t' w d = unchanged t' d
  done call.Count t' w d = unchanged t' d

  -- what holds after a call, refused or not
  abbrev Outcome : Call → Table → Option Refusal → Type 0
  Outcome c t' o =
      KeptBy pile (λ q. cond (is_none o) (card_by c q (card_after calls q)) (card_after calls q)) (in_after (c ∷ calls))
      (λ q d. If (is_none o) (StandsBy pile calls c q d (Stands pile calls q d)) (Stands pile calls q d))
      (cond (is_none o) (designs_by c (designs_after calls)) (designs_after calls)) t'

  after : (c : Call) (t' : Table) (o : Option Refusal) → why_after calls c ≡ o → Makes pile t c o t' → Kept pile (c ∷ calls) t'
  after c t' o w m = subst (λ (o : Option Refusal). Outcome c t' o) (sym w) (go o w m)
    where
      go : (o : Option Refusal) → why_after calls c ≡ o → Makes pile t c o t' → Outcome c t' o
      go None w m = done c t' w m.1
      go (Some e) w m =
          subst (λ (g : Kind → ℕ → Bool). KeptBy pile (card_after calls) g (Stands pile calls) (designs_after calls) t')
          (fun_ext (λ j. fun_ext (λ n. in_refused calls c e w j n))) (unchanged t' m.1)

why_is : (pile : Beam → Cage → ℕ) (t : Table) (c : Call) (o : Option Refusal) (t' : Table) → Makes pile t c o t' → why t c ≡ o
why_is pile t c None t' m = m.0
why_is pile t c (Some e) t' m = m.0

pub kept : {pile : Beam → Cage → ℕ} {calls : List Call} {t : Table} → Run pile calls t → Kept pile calls t
unfolding has
kept {pile} {t = t} (run_opened n) =
    let at : (q : ℕ) → place_at t q ≡ None = λ q. ap (λ xs. slice_index_or xs q None) n.0 ∙ all_alike None place_count q in
    record {
      places = ap length n.0;
      mains = ap length n.1.0;
      ties = ap length n.1.1;
      holds = λ q. subst (λ (v : Option Entry). Holds None v) (sym (at q)) tt;
      marks = λ j m. none_in j m;
      stands = λ q. subst (λ (v : Option Entry). AgreesBy (decision_at v) (λ d. ⊥)) (sym (at q)) (λ d s. s);
      right = λ q. subst (λ (v : Option Entry). Right pile (has t.stock) v) (sym (at q)) tt;
      count = n.2;
    }
  where
    no_mark : (x y : Bool) → y ≡ false → (x && y) ≡ false
    no_mark true y e = e
    no_mark false y e = refl

    none_in : (j : Kind) (m : ℕ) → has t.stock j m ≡ false
    none_in Main m = no_mark (known Main m) _ (ap (λ xs. slice_index_or xs (m - 3) false) n.1.0 ∙ all_alike false 9 (m - 3))
    none_in Tie m = no_mark (known Tie m) _ (ap (λ xs. slice_index_or xs (m - 3) false) n.1.1 ∙ all_alike false 3 (m - 3))
kept (made {calls = calls} {t = t} {t' = t'} c o run m) =
    let k = kept run in after _ calls t k c t' o (sym (same_why _ calls t k c) ∙ why_is _ t c o t' m) m

-- a call leads every run on, and is refused as the calls before it determine
pub grows : (pile : Beam → Cage → ℕ) (t : Table) (c : Call) (o : Option Refusal) (t' : Table) → Makes pile t c o t' → Grows pile t c o t'
unfolding Grows
grows pile t c o t' m = λ calls run. (made c o run m, sym (same_why pile calls t (kept run) c) ∙ why_is pile t c o t' m)

-- what a place shows is right, by what it holds
module _ (pile : Beam → Cage → ℕ) (calls : List Call) (p : ℕ) where
  by_decision : (b : Beam) → IsBeamAfter calls p b → (o : Option Decision) → IsDecidedWell pile (in_after calls) b o
      → AgreesBy o (Stands pile calls p) → IsRight pile calls p (shown_by o)
  by_decision b is None r s = ((b, is), s)
  by_decision b is (Some (decision.Chosen x)) r s = ((b, (is, r)), s.0)
  by_decision b is (Some (decision.Impossible n)) r s = ((b, (is, r)), s.0)

  by_holding : (c : Option (List ℕ)) → card_after calls p ≡ c → (held : Option Entry) → Holds c held → Right pile (in_after calls) held
      → AgreesBy (decision_at held) (Stands pile calls p) → IsRight pile calls p (shown_of held)
  by_holding None e None h r s = e
  by_holding (Some card) e (Some x) h r s = by_decision x.beam (card, (e, h)) x.decision r s
  by_holding None e (Some x) h r s = absurd h
  by_holding (Some card) e None h r s = absurd h

  -- where a decision stands, the place is decided
  decided_right : (s : Shown) (d : Decision) → Stands pile calls p d → is_some (card_after calls p) ≡ true → IsRight pile calls p s
      → (b : Beam) × (IsBeamAfter calls p b × IsDecided pile (in_after calls) b s)
  decided_right shown.Empty d h c r = absurd (false≢true (sym (ap is_some r) ∙ c))
  decided_right shown.Open d h c r = absurd (r.1 d h)
  decided_right (shown.Chosen x) d h c r = (r.0.0, (r.0.1.0, λ none. none x.cage r.0.1.1.0 r.0.1.1.1))
  decided_right (shown.Impossible n) d h c r = (r.0.0, (r.0.1.0, λ c f passes. (r.0.1.1.0 c f).0 passes))

-- a design order that is not refused has a card there
designed_card : (calls : List Call) (p : ℕ) → why_after calls (call.Design p) ≡ None → is_some (card_after calls p) ≡ true
designed_card calls p w = go (nat_lt last_place p) (is_some (card_after calls p)) w
  where
    go : (v u : Bool) → cond v (Some NoSuchPlace) (cond u (cond (stocked_after calls) None (Some NothingInStock)) (Some PlaceEmpty)) ≡ None → u ≡ true
    go true u e = absurd (none-some _ (sym e))
    go false true e = refl
    go false false e = absurd (none-some _ (sym e))

-- and makes a decision that stands
designed : (pile : Beam → Cage → ℕ) (calls : List Call) (p : ℕ) (t t' : Table) (o : Option Refusal) → Run pile calls t → Makes pile t (call.Design p) o t'
    → why_after calls (call.Design p) ≡ None → (d : Decision) × Stands pile (call.Design p ∷ calls) p d
designed pile calls p t t' None run m w =
    let k = kept run in
    let b = m.1.0 in
    let d = m.1.1.0 in
    let is = beam_held (card_after calls p) (place_at t p) b (k.holds p) m.1.1.1.0 in
    let l = subst (λ (g : Kind → ℕ → Bool). Lightest pile g b d) (marked pile calls t k) m.1.1.1.1 in
    (d, rw (w, eq-eqb p p refl) (b, (is, l)))
designed pile calls p t t' (Some e) run m w = absurd (none-some _ (sym w ∙ sym (same_why pile calls t (kept run) (call.Design p)) ∙ m.0))

by_design : (pile : Beam → Cage → ℕ) (calls : List Call) (t : Table) → Run pile calls t → (p : ℕ) (s : Shown) → IsRight pile calls p s → IsDecidedByDesign pile calls p s
by_design pile (call.Design q ∷ calls) t (made c o run m) p s r =
    λ same w.
    let d = designed pile calls q _ t o run m w in
    let there : is_some (card_after (call.Design q ∷ calls) p) ≡ true = rw w (ap (λ j. is_some (card_after calls j)) (sym same) ∙ designed_card calls q w) in
    decided_right pile (call.Design q ∷ calls) p s d.0 (subst (λ (j : ℕ). Stands pile (call.Design q ∷ calls) j d.0) same d.1) there r
by_design pile calls t run p s r = tt

pub lawful : (pile : Beam → Cage → ℕ) (calls : List Call) (t : Table) → Run pile calls t → (p : ℕ) → Lawful pile calls p (shown_of (place_at t p))
lawful pile calls t run p =
    let k = kept run in
    let r = by_holding pile calls p (card_after calls p) refl (place_at t p) (k.holds p)
    (subst (λ (g : Kind → ℕ → Bool). Right pile g (place_at t p)) (marked pile calls t k) (k.right p)) (k.stands p) in
    record { right = r; decided = by_design pile calls t run p _ r }

-- so a reading is lawful, and the count is that of the designs
pub reads_lawfully : (pile : Beam → Cage → ℕ) (t : Table) (p : ℕ) (r : Result Reading Refusal) → Reads p t r → ReadsLawfully pile t p r
unfolding ReadsLawfully
reads_lawfully pile t p (Ok reading) h = λ calls run. subst (λ (s : Shown). Lawful pile calls p s) (sym h.2) (lawful pile calls t run p)
reads_lawfully pile t p (Err e) h = tt

pub counts_designs : (pile : Beam → Cage → ℕ) (t : Table) → CountsDesigns pile t t.count
unfolding CountsDesigns
counts_designs pile t = λ calls run. (kept run).count
