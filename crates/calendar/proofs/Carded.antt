-- A card order over a plant.
use Rattle.std.proofs.Common.{◌≡◌, ℕ, suc, ◌+◌, ◌-◌, ◌<◌, ◌≤◌, min, true, false, cond, not, ◌&&◌, ◌||◌, eqb, leb, List, get_or, Err, sym, refl, ap, ◌∙◌, ⊎_elim, arith}
use mathlib.Core.Path.{fun_ext}
use Rattle.std.proofs.lemmas.Bool.{cases_Bool, cases_eq, cases_lt, both_ways, le-leb, leb-true, and_parts, and_from, and_right, not-false, or_parts, ne_eqb, eq-eqb, cond-true, cond-false, cond_both}
use Rattle.calendar.specs.Week.{any, total, later, covers}
use Rattle.calendar.specs.Numbers.{answer_number}
use Rattle.calendar.specs.Meaning.{Meaning, Sound, within, inside, proper, meets, is_held, room_of, live_count, hold_number, after_hold, release_number, after_release, with_run, accepted, put}
use Rattle.calendar.specs.Layers.{carded, card, named, recarded, Order, disordered}
use Rattle.calendar.specs.declared.run.Run.{Run}
use Rattle.calendar.specs.declared.refusal.PlantRefusal.TheVariants.{CellClosed, NoSuchRun}
use Rattle.calendar.proofs.Sums.{any_none, any_intro, any_false, any_empty, total_cong, total_split, total_zero}
use Rattle.calendar.proofs.Permuted.{permuted}
use Rattle.calendar.proofs.Clocked.{both}
use Rattle.calendar.proofs.Plants.{eqb_same, hold_same, release_same, meets_cong, inside_parts, inside_from, proper_parts, after_hold_err, after_release_err}

abbrev relive : Meaning → (ℕ → ℕ → ℕ → ℕ) → Meaning
relive m g = record { links = m.links; channels = m.channels; limit = m.limit; closed = m.closed; live = g }

pub named_parts : (w : ℕ) → named w ≡ true → (1 ≤ w) × (w ≤ 16)
named_parts w h = let p = and_parts (leb 1 w) (leb w 16) h in (leb-true 1 w p.0, leb-true w 16 p.1)

pub named_from : (w : ℕ) → 1 ≤ w → w ≤ 16 → named w ≡ true
named_from w a b = and_from (leb 1 w) (leb w 16) (le-leb 1 w a) (le-leb w 16 b)

dead : (h : ℕ) (f : ℕ) → covers f 0 h ≡ false
unfolding covers
dead h f = any_empty _

-- the entries are in order where the test finds no fault
pub order_of : (e : List ℕ) → disordered e ≡ false → Order e
unfolding disordered
order_of e h = record {
  low = λ k l. (named_parts (get_or e k 0) (good k l)).0;
  high = λ k l. (named_parts (get_or e k 0) (good k l)).1;
  apart = λ j k a b z. ⊎_elim (λ t. t) (λ ne. absurd (⊎_elim (λ lt. fresh j k lt b z) (λ le. fresh k j (omega (arith, le, ne)) a (sym z)) (cases_lt j k))) (cases_eq j k);
} where
  each : (k : ℕ) → k < 16 → (not (named (get_or e k 0)) || any k (λ j. eqb (get_or e j 0) (get_or e k 0))) ≡ false
  each k l = any_none 16 (λ i. not (named (get_or e i 0)) || any i (λ j. eqb (get_or e j 0) (get_or e i 0))) h k l

  good : (k : ℕ) → k < 16 → named (get_or e k 0) ≡ true
  good k l = not-false (named (get_or e k 0)) (or_parts (not (named (get_or e k 0))) _ (each k l)).0

  fresh : (j k : ℕ) → j < k → k < 16 → get_or e j 0 ≡ get_or e k 0 → ⊥
  fresh j k lt l z = both_ways _ (any_none k (λ i. eqb (get_or e i 0) (get_or e k 0)) (or_parts (not (named (get_or e k 0))) _ (each k l)).1 j lt) (eq-eqb (get_or e j 0) (get_or e k 0) z)

module _ (e : List ℕ) (ok : Order e) (m : Meaning) where
  -- two channels have different cards
  pub card_same : (y w : ℕ) → named y ≡ true → named w ≡ true → eqb y w ≡ eqb (card e y) (card e w)
  unfolding card
  card_same y w a b =
      let p = named_parts y a in
      let q = named_parts w b in
      eqb_same y w (card e y) (card e w) (λ z. ap (card e) z) (λ z. let t = ok.apart (y - 1) (w - 1) (omega (arith, p)) (omega (arith, q)) z in omega (arith, p, q, t))

  pub closed_carded : (l w h : ℕ) → named w ≡ true → (carded e m).closed l w h ≡ m.closed l (card e w) h
  unfolding carded
  closed_carded l w h b = cond-true (named w) _ _ b

  pub live_carded : (l w f : ℕ) → named w ≡ true → (carded e m).live l w f ≡ m.live l (card e w) f
  unfolding carded
  live_carded l w f b = cond-true (named w) _ _ b

  pub live_unnamed : (l w f : ℕ) → named w ≡ false → (carded e m).live l w f ≡ 0
  unfolding carded
  live_unnamed l w f b = cond-false (named w) _ _ b

  pub held_carded : (l w h : ℕ) → named w ≡ true → is_held (carded e m) l w h ≡ is_held m l (card e w) h
  unfolding is_held carded
  held_carded l w h b = rw b

  pub held_unnamed : (l w h : ℕ) → named w ≡ false → false ≡ is_held (carded e m) l w h
  unfolding is_held carded
  held_unnamed l w h b = sym (rw b (any_false 168 (λ f. covers f 0 h) (λ f _. dead h f)))

  pub closed_unnamed : (l w h : ℕ) → named w ≡ false → true ≡ (carded e m).closed l w h
  unfolding carded
  closed_unnamed l w h b = sym (cond-false (named w) _ _ b)

  -- the runs that start on a link's channel x
  row : ℕ → ℕ → ℕ
  row l x = total 168 (λ f. min 1 (m.live (suc l) x f))

  count_carded : Sound m → live_count (carded e m) ≡ live_count m
  unfolding live_count carded row card
  count_carded s =
      total_cong m.links _ _ (λ l _.
      total_cong 16 (λ c. total 168 (λ f. min 1 (cond (named (suc c)) (m.live (suc l) (card e (suc c)) f) 0))) (λ c. row l (suc (get_or e c 0 - 1)))
      (λ c q. let n : named (suc c) ≡ true = named_from (suc c) (omega arith) (omega (arith, q)) in
      let a : card e (suc c) ≡ suc (get_or e c 0 - 1) = ap (λ k. get_or e k 0) (let z : suc c - 1 ≡ c = omega arith in z) ∙ (let z : get_or e c 0 ≡ suc (get_or e c 0 - 1) = omega (arith, ok.low c q) in z) in
      total_cong 168 _ _ (λ f _. ap (min 1) (cond-true (named (suc c)) _ _ n ∙ ap (λ x. m.live (suc l) x f) a)))
      ∙ permuted 16 (λ c. get_or e c 0 - 1) (λ i h. omega (arith, ok.low i h, ok.high i h)) (λ i j h k z. ok.apart i j h k (omega (arith, z, ok.low i h, ok.low j k))) (λ x. row l (suc x))
      ∙ shorter l) where
        beyond : (l c f : ℕ) → m.channels ≤ c → m.live (suc l) (suc c) f ≡ 0
        beyond l c f h = ⊎_elim (λ z. z) (λ nz. absurd (let p = inside_parts m (suc l) (suc c) f (s.live_inside (suc l) (suc c) f (omega (arith, nz))) in omega (arith, h, p.3))) (cases_eq (m.live (suc l) (suc c) f) 0)

        shorter : (l : ℕ) → total 16 (λ c. row l (suc c)) ≡ total m.channels (λ c. row l (suc c))
        shorter l =
            let z : m.channels + (16 - m.channels) ≡ 16 = omega (arith, s.few_channels) in
            ap (λ n. total n (λ c. row l (suc c))) (sym z) ∙ total_split m.channels (16 - m.channels) (λ c. row l (suc c))
            ∙ (let t = total_zero (16 - m.channels) (λ i. row l (suc (m.channels + i))) (λ i _. total_zero 168 (λ f. min 1 (m.live (suc l) (suc (m.channels + i)) f)) (λ f _. let q = beyond l (m.channels + i) f (omega arith) in omega (arith, q))) in omega (arith, t))

  pub room_carded : Sound m → room_of (carded e m) ≡ room_of m
  unfolding room_of carded
  room_carded s = ap (λ n. m.limit - n) (count_carded s)

  inside_carded : (l w h : ℕ) → inside m l (card e w) h ≡ true → named w ≡ true → inside (carded e m) l w h ≡ true
  unfolding carded
  inside_carded l w h q b =
      let p = inside_parts m l (card e w) h q in
      let n = named_parts w b in
      inside_from (carded e m) l w h p.0 p.1 n.0 n.1 p.4

  pub carded_sound : Sound m → Sound (carded e m)
  unfolding carded
  carded_sound s = record {
    some_links = s.some_links;
    few_links = s.few_links;
    some_channels = omega arith;
    few_channels = omega arith;
    open_inside = λ l w h z. ⊎_elim (λ b. inside_carded l w h (s.open_inside l (card e w) h (sym (closed_carded l w h b) ∙ z)) b) (λ b. absurd (both_ways _ z (sym (closed_unnamed l w h b)))) (cases_Bool (named w));
    live_inside = λ l w f z. let b = some l w f 0 z in inside_carded l w f (s.live_inside l (card e w) f (rw (live_carded l w f b) at z)) b;
    live_short = λ l w f. cond_both (named w) (m.live l (card e w) f) 0 (λ x. x ≤ 168) (λ _. s.live_short l (card e w) f) (λ _. omega arith);
    apart = λ l w f g i j a b z. let n = some l w f i a in s.apart l (card e w) f g i j (rw (live_carded l w f n) at a) (rw (live_carded l w g n) at b) z;
    few = omega (arith, count_carded s, s.few);
  } where
    some : (l w f i : ℕ) → i < (carded e m).live l w f → named w ≡ true
    some l w f i a = ⊎_elim (λ b. b) (λ b. absurd (omega (arith, a, live_unnamed l w f b))) (cases_Bool (named w))

  pub proper_named : (r : Run) → proper (carded e m) r ≡ true → named r.channel ≡ true
  unfolding carded
  proper_named r h = let p = inside_parts (carded e m) r.link r.channel r.first (proper_parts (carded e m) r h).0 in named_from r.channel p.2 p.3

  pub proper_carded : (r : Run) → proper (carded e m) r ≡ true → card e r.channel ≤ m.channels → proper m (recarded e r) ≡ true
  unfolding carded proper card
  proper_carded r h q =
      let p = proper_parts (carded e m) r h in
      let i = inside_parts (carded e m) r.link r.channel r.first p.0 in
      let low = ok.low (r.channel - 1) (omega (arith, i.2, i.3)) in
      and_from (inside m r.link (card e r.channel) r.first) (leb 1 r.hours && leb r.hours 168)
      (inside_from m r.link (card e r.channel) r.first i.0 i.1 low q i.4)
      (and_from (leb 1 r.hours) (leb r.hours 168) (le-leb 1 r.hours p.1) (le-leb r.hours 168 p.2))

  hold_carded : Sound m → (r : Run) → proper (carded e m) r ≡ true → card e r.channel ≤ m.channels → hold_number (carded e m) r ≡ hold_number m (recarded e r)
  hold_carded s r h q =
      let b = proper_named r h in
      hold_same (carded e m) m r (recarded e r) (h ∙ sym (proper_carded r h q))
      (meets_cong (carded e m).closed m.closed r (recarded e r) refl (λ j _. closed_carded r.link r.channel (later r.first j) b))
      (meets_cong (is_held (carded e m)) (is_held m) r (recarded e r) refl (λ j _. held_carded r.link r.channel (later r.first j) b))
      (room_carded s)

  release_carded : (r : Run) → proper (carded e m) r ≡ true → card e r.channel ≤ m.channels → release_number (carded e m) r ≡ release_number m (recarded e r)
  release_carded r h q = release_same (carded e m) m r (recarded e r) (h ∙ sym (proper_carded r h q)) (live_carded r.link r.channel r.first (proper_named r h)) refl

  put_carded : (r : Run) (n : ℕ) → named r.channel ≡ true → (x y z : ℕ) → put (carded e m).live r.link r.channel r.first n x y z ≡ (carded e (with_run m (recarded e r) n)).live x y z
  unfolding put carded with_run
  put_carded r n b x y z =
      ⊎_elim
      (λ (q : named y ≡ true). let k = card_same y r.channel q b in rw (q, k))
      (λ (q : named y ≡ false).
      let k : eqb y r.channel ≡ false = ne_eqb y r.channel (λ t. both_ways (named y) q (ap named t ∙ b)) in
      rw (q, k) (cond-false (eqb x r.link && false) n 0 (and_right (eqb x r.link) false refl)))
      (cases_Bool (named y))

  with_run_carded : (r : Run) (n : ℕ) → named r.channel ≡ true → with_run (carded e m) r n ≡ carded e (with_run m (recarded e r) n)
  unfolding with_run carded put
  with_run_carded r n b =
      let same : (g h : ℕ → ℕ → ℕ → ℕ) → g ≡ h → ◌≡◌ {A = Meaning} (relive (carded e m) g) (relive (carded e m) h) = λ g h t. ap (relive (carded e m)) t in
      same _ _ (fun_ext (λ x. fun_ext (λ y. fun_ext (λ z. put_carded r n b x y z))))

  -- what the call below answers and leaves is what the card order owes
  pub hold_through : Sound m → (r : Run) → proper (carded e m) r ≡ true → (k : ℕ) → k ≡ card e r.channel → k ≤ m.channels → (a : ℕ) (x : Meaning) → a ≡ hold_number m (record { link = r.link; channel = k; first = r.first; hours = r.hours }) → x ≡ after_hold m (record { link = r.link; channel = k; first = r.first; hours = r.hours }) → record { answer : a ≡ hold_number (carded e m) r; after : carded e x ≡ after_hold (carded e m) r }
  unfolding after_hold
  hold_through s r h k ek q a x p t =
      let le : card e r.channel ≤ m.channels = omega (arith, ek, q) in
      let v = hold_carded s r h le in
      record {
        answer = p ∙ ap (λ c. hold_number m (record { link = r.link; channel = c; first = r.first; hours = r.hours })) ek ∙ sym v;
        after = ap (carded e) (t ∙ ap (λ c. after_hold m (record { link = r.link; channel = c; first = r.first; hours = r.hours })) ek) ∙ sym (rw v (both (carded e) _ _ _ _ (accepted (hold_number m (recarded e r))) (with_run_carded r r.hours (proper_named r h)) refl));
      }

  pub release_through : (r : Run) → proper (carded e m) r ≡ true → (k : ℕ) → k ≡ card e r.channel → k ≤ m.channels → (a : ℕ) (x : Meaning) → a ≡ release_number m (record { link = r.link; channel = k; first = r.first; hours = r.hours }) → x ≡ after_release m (record { link = r.link; channel = k; first = r.first; hours = r.hours }) → record { answer : a ≡ release_number (carded e m) r; after : carded e x ≡ after_release (carded e m) r }
  unfolding after_release
  release_through r h k ek q a x p t =
      let le : card e r.channel ≤ m.channels = omega (arith, ek, q) in
      let v = release_carded r h le in
      record {
        answer = p ∙ ap (λ c. release_number m (record { link = r.link; channel = c; first = r.first; hours = r.hours })) ek ∙ sym v;
        after = ap (carded e) (t ∙ ap (λ c. after_release m (record { link = r.link; channel = c; first = r.first; hours = r.hours })) ek) ∙ sym (rw v (both (carded e) _ _ _ _ (accepted (release_number m (recarded e r))) (with_run_carded r 0 (proper_named r h)) refl));
      }

  -- the plant below lacks the channel
  pub hold_lacking : Sound m → (r : Run) → proper (carded e m) r ≡ true → m.channels < card e r.channel → record { answer : answer_number (Err CellClosed) ≡ hold_number (carded e m) r; after : carded e m ≡ after_hold (carded e m) r }
  unfolding hold_number meets
  hold_lacking s r h q =
      let b = proper_named r h in
      let p = proper_parts (carded e m) r h in
      let shut : m.closed r.link (card e r.channel) (later r.first 0) ≡ true = ⊎_elim (λ t. t) (λ t. absurd (let i = inside_parts m r.link (card e r.channel) (later r.first 0) (s.open_inside _ _ _ t) in omega (arith, i.3, q))) (cases_Bool _) in
      let z : any r.hours (λ j. (carded e m).closed r.link r.channel (later r.first j)) ≡ true = any_intro r.hours (λ j. (carded e m).closed r.link r.channel (later r.first j)) 0 (omega (arith, p.1)) (closed_carded r.link r.channel (later r.first 0) b ∙ shut) in
      let a : hold_number (carded e m) r ≡ 22 = rw (h, z) in
      record { answer = sym a; after = sym (after_hold_err (carded e m) r (ap accepted a)) }

  pub release_lacking : Sound m → (r : Run) → proper (carded e m) r ≡ true → m.channels < card e r.channel → record { answer : answer_number (Err NoSuchRun) ≡ release_number (carded e m) r; after : carded e m ≡ after_release (carded e m) r }
  unfolding release_number
  release_lacking s r h q =
      let b = proper_named r h in
      let p = proper_parts (carded e m) r h in
      let none : m.live r.link (card e r.channel) r.first ≡ 0 = ⊎_elim (λ t. t) (λ nz. absurd (let i = inside_parts m r.link (card e r.channel) r.first (s.live_inside _ _ _ (omega (arith, nz))) in omega (arith, i.3, q))) (cases_eq _ 0) in
      let z : eqb ((carded e m).live r.link r.channel r.first) r.hours ≡ false = ne_eqb _ r.hours (λ t. omega (arith, t, live_carded r.link r.channel r.first b, none, p.1)) in
      let a : release_number (carded e m) r ≡ 25 = rw (h, z) in
      record { answer = sym a; after = sym (after_release_err (carded e m) r (ap accepted a)) }

  pub carded_proper : (r : Run) → proper (carded e m) r ≡ (within m.links 16 r.link r.channel r.first && (leb 1 r.hours && leb r.hours 168))
  unfolding proper carded
  carded_proper r = refl
