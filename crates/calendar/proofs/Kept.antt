-- Holding a free run and releasing a live one keep a plant sound.
use Rattle.std.proofs.Common.{◌≡◌, ℕ, suc, ◌+◌, ◌-◌, ◌<◌, ◌≤◌, min, true, false, ◌&&◌, eqb, ◌⊎◌, sym, refl, ap, ◌∙◌, inl, inr, ⊎_elim, arith}
use Rattle.std.proofs.lemmas.Bool.{cases_eq, cases_lt, both_ways, and_from, and_left, and_right, eq-eqb, ne_eqb, cond-true, cond-false}
use Rattle.calendar.specs.Week.{total, later, covers}
use Rattle.calendar.specs.Meaning.{Meaning, Sound, proper, meets, is_held, live_count, with_run, put}
use Rattle.calendar.specs.declared.run.Run.{Run}
use Rattle.calendar.proofs.Sums.{any_intro, any_none, total_cong, total_point}
use Rattle.calendar.proofs.Plants.{inside_parts, proper_parts}

module _ (g : ℕ → ℕ → ℕ → ℕ) (l c f n : ℕ) where
  pub put_here : put g l c f n l c f ≡ n
  unfolding put
  put_here = cond-true _ n (g l c f) (and_from (eqb l l) (eqb c c && eqb f f) (eq-eqb l l refl) (and_from (eqb c c) (eqb f f) (eq-eqb c c refl) (eq-eqb f f refl)))

  pub put_link : (x y z : ℕ) → (x ≡ l → ⊥) → put g l c f n x y z ≡ g x y z
  unfolding put
  put_link x y z h = cond-false _ n (g x y z) (and_left (eqb x l) (eqb y c && eqb z f) (ne_eqb x l h))

  pub put_channel : (x y z : ℕ) → (y ≡ c → ⊥) → put g l c f n x y z ≡ g x y z
  unfolding put
  put_channel x y z h = cond-false _ n (g x y z) (and_right (eqb x l) (eqb y c && eqb z f) (and_left (eqb y c) (eqb z f) (ne_eqb y c h)))

  pub put_hour : (x y z : ℕ) → (z ≡ f → ⊥) → put g l c f n x y z ≡ g x y z
  unfolding put
  put_hour x y z h = cond-false _ n (g x y z) (and_right (eqb x l) (eqb y c && eqb z f) (and_right (eqb y c) (eqb z f) (ne_eqb z f h)))

  pub put_cases : (x y z : ℕ) → ((x ≡ l) × (y ≡ c) × (z ≡ f)) ⊎ (put g l c f n x y z ≡ g x y z)
  put_cases x y z =
      ⊎_elim (λ p. ⊎_elim (λ q. ⊎_elim (λ r. inl (p, q, r)) (λ r. inr (put_hour x y z r)) (cases_eq z f)) (λ q. inr (put_channel x y z q)) (cases_eq y c)) (λ p. inr (put_link x y z p)) (cases_eq x l)

-- the live runs are counted anew at one place
pub count_put : (m : Meaning) (r : Run) (n a b : ℕ) → r.link ≡ suc a → a < m.links → r.channel ≡ suc b → b < m.channels → r.first < 168 → live_count (with_run m r n) + min 1 (m.live r.link r.channel r.first) ≡ live_count m + min 1 n
unfolding live_count with_run
count_put m r n a b ea la eb lb lf =
    let l = r.link in
    let c = r.channel in
    let f = r.first in
    let F : ℕ → ℕ → ℕ → ℕ = λ x y z. min 1 (put m.live l c f n (suc x) (suc y) z) in
    let G : ℕ → ℕ → ℕ → ℕ = λ x y z. min 1 (m.live (suc x) (suc y) z) in
    let one = total_point m.links (λ x. total m.channels (λ y. total 168 (F x y))) (λ x. total m.channels (λ y. total 168 (G x y))) a la
    (λ x _ ne. total_cong m.channels _ _ (λ y _. total_cong 168 (F x y) (G x y) (λ z _. ap (min 1) (put_link m.live l c f n (suc x) (suc y) z (λ e. ne (omega (arith, e, ea))))))) in
    let two = total_point m.channels (λ y. total 168 (F a y)) (λ y. total 168 (G a y)) b lb
    (λ y _ ne. total_cong 168 (F a y) (G a y) (λ z _. ap (min 1) (put_channel m.live l c f n (suc a) (suc y) z (λ e. ne (omega (arith, e, eb)))))) in
    let three = total_point 168 (F a b) (G a b) f lf (λ z _ ne. ap (min 1) (put_hour m.live l c f n (suc a) (suc b) z ne)) in
    let at : F a b f ≡ min 1 n = ap (λ x. min 1 (put m.live l c f n x (suc b) f)) (sym ea) ∙ ap (λ y. min 1 (put m.live l c f n l y f)) (sym eb) ∙ ap (min 1) (put_here m.live l c f n) in
    let was : G a b f ≡ min 1 (m.live l c f) = ap (λ x. min 1 (m.live x (suc b) f)) (sym ea) ∙ ap (λ y. min 1 (m.live l y f)) (sym eb) in
    omega (arith, one, two, three, at, was)

-- each cell of a live run is held
pub held_by : (m : Meaning) → Sound m → (l c g j : ℕ) → j < m.live l c g → is_held m l c (later g j) ≡ true
unfolding is_held covers
held_by m s l c g j h =
    let p = inside_parts m l c g (s.live_inside l c g (omega arith)) in
    any_intro 168 (λ f. covers f (m.live l c f) (later g j)) g p.4 (any_intro (m.live l c g) (λ i. eqb (later g i) (later g j)) j h (eq-eqb (later g j) (later g j) refl))

module _ (m : Meaning) (s : Sound m) (r : Run) (ok : proper m r ≡ true) where
  place : (1 ≤ r.link) × (r.link ≤ m.links) × (1 ≤ r.channel) × (r.channel ≤ m.channels) × (r.first < 168)
  place = inside_parts m r.link r.channel r.first (proper_parts m r ok).0

  pub count_at : (n : ℕ) → live_count (with_run m r n) + min 1 (m.live r.link r.channel r.first) ≡ live_count m + min 1 n
  count_at n = let p = place in count_put m r n (r.link - 1) (r.channel - 1) (omega (arith, p.0)) (omega (arith, p.0, p.1)) (omega (arith, p.2)) (omega (arith, p.2, p.3)) p.4

  module _ (free : meets (is_held m) r ≡ false) where
    clear : (i : ℕ) → i < r.hours → is_held m r.link r.channel (later r.first i) ≡ false
    unfolding meets
    clear i h = any_none r.hours (λ j. is_held m r.link r.channel (later r.first j)) free i h

    -- no live run shares a cell with it
    new_apart : (g i j : ℕ) → i < r.hours → j < m.live r.link r.channel g → later r.first i ≡ later g j → ⊥
    new_apart g i j a b e = both_ways (is_held m r.link r.channel (later r.first i)) (clear i a) (ap (is_held m r.link r.channel) e ∙ held_by m s r.link r.channel g j b)

    pub none_there : m.live r.link r.channel r.first ≡ 0
    none_there = ⊎_elim (λ q. absurd (new_apart r.first 0 0 (omega (arith, (proper_parts m r ok).1)) q refl)) (λ q. omega (arith, q)) (cases_lt 0 (m.live r.link r.channel r.first))

    pub hold_sound : live_count m < m.limit → Sound (with_run m r r.hours)
    unfolding with_run
    hold_sound room = record {
      some_links = s.some_links;
      few_links = s.few_links;
      some_channels = s.some_channels;
      few_channels = s.few_channels;
      open_inside = s.open_inside;
      live_inside = λ l c f h. ⊎_elim (λ q. rw (q.0, q.1, q.2) (proper_parts m r ok).0) (λ q. s.live_inside l c f (rw q at h)) (put_cases m.live r.link r.channel r.first r.hours l c f);
      live_short = λ l c f. ⊎_elim (λ q. rw (q.0, q.1, q.2, put_here m.live r.link r.channel r.first r.hours) (proper_parts m r ok).2) (λ q. rw q (s.live_short l c f)) (put_cases m.live r.link r.channel r.first r.hours l c f);
      apart = λ l c f g i j a b e.
          ⊎_elim
          (λ p. ⊎_elim
          (λ q. p.2 ∙ sym q.2)
          (λ q. absurd (new_apart g i j (rw (p.0, p.1, p.2, put_here m.live r.link r.channel r.first r.hours) at a) (rw (q, p.0, p.1) at b) (rw p.2 at e)))
          (put_cases m.live r.link r.channel r.first r.hours l c g))
          (λ p. ⊎_elim
          (λ q. absurd (new_apart f j i (rw (q.0, q.1, q.2, put_here m.live r.link r.channel r.first r.hours) at b) (let z : i < m.live l c f = rw p at a in rw (q.0, q.1) at z) (sym (rw q.2 at e))))
          (λ q. s.apart l c f g i j (rw p at a) (rw q at b) e)
          (put_cases m.live r.link r.channel r.first r.hours l c g))
          (put_cases m.live r.link r.channel r.first r.hours l c f);
      few = omega (arith, count_at r.hours, none_there, (proper_parts m r ok).1, room);
    }

  pub release_sound : Sound (with_run m r 0)
  unfolding with_run
  release_sound = record {
    some_links = s.some_links;
    few_links = s.few_links;
    some_channels = s.some_channels;
    few_channels = s.few_channels;
    open_inside = s.open_inside;
    live_inside = λ l c f h. s.live_inside l c f (was l c f 0 h);
    live_short = λ l c f. ⊎_elim (λ q. rw (q.0, q.1, q.2, put_here m.live r.link r.channel r.first 0) (omega arith)) (λ q. rw q (s.live_short l c f)) (put_cases m.live r.link r.channel r.first 0 l c f);
    apart = λ l c f g i j a b e. s.apart l c f g i j (was l c f i a) (was l c g j b) e;
    few = omega (arith, count_at 0, s.few);
  } where
    was : (l c f i : ℕ) → i < put m.live r.link r.channel r.first 0 l c f → i < m.live l c f
    was l c f i h = ⊎_elim (λ q. absurd (let z : i < 0 = rw (q.0, q.1, q.2, put_here m.live r.link r.channel r.first 0) at h in omega (arith, z))) (λ q. rw q at h) (put_cases m.live r.link r.channel r.first 0 l c f)
