-- The tie, kept by putting an order in and taking one out.
use Rattle.std.proofs.Common.{◌≡◌, ℕ, ◌+◌, ◌-◌, ◌<◌, ◌≤◌, Bool, true, false, not, ◌&&◌, ◌||◌, eqb, ltb, leb, List, [], ◌∷◌, length, get_or, vec_len, sum_by, sym, refl, ap, ◌∙◌, subst, ⊎_elim, arith}
use mathlib.Core.Path.{fun_ext}
use Rattle.std.proofs.lemmas.List.Sums.{sum_by-cons}
use Rattle.std.proofs.lemmas.Bool.{cases_Bool, cases_lt, both_ways, and_parts, and_from, or_parts, eqb-true, eq-eqb, cond-true, leb-true, ltb-true}
use Rattle.calendar.specs.Week.{any, later, covers}
use Rattle.calendar.specs.Meaning.{Meaning, Sound, is_held, taken}
use Rattle.calendar.proofs.Sums.{any_elim, any_none}
use Rattle.network.specs.Paths.{crossing, is_path}
use Rattle.network.specs.declared.network.Network.{Network}
use Rattle.ways.specs.Hours.{hours_fit, block_fits}
use Rattle.ways.specs.Ways.{every_link}
use Rattle.ways.proofs.Routes.{path_parts, links_known, links_once, has_any}
use Rattle.orders.specs.Calls.{width_fits}
use Rattle.orders.specs.Standing.{Standing, num, crosses, block_has, takes, in_cell}
use Rattle.orders.proofs.Masks.{with_live, not_held, covers_first, live_grows, held_grows, held_shrinks, live_shrinks}
use Rattle.orders.proofs.Tied.{starting, with_order, blocked, taken_but, fit, Fit, Tied}

pub fit_of : (b : Bool) → num (not b) ≡ 0 → b ≡ true
fit_of true h = refl
fit_of false h = absurd (omega (arith, h))

pub fit_parts : (net : Network) (L C : ℕ) (e : Standing) → fit net L C e ≡ true → Fit net L C e
unfolding fit
fit_parts net L C e t =
    let hop = crossing net every_link in
    let from = e.order.from in let to = e.order.to in
    let W = width_fits e.order.width in
    let H = hours_fit e.order in
    let P = is_path hop net.hops from to e.path in
    let B = block_fits C e.channel e.order.width in
    let a = and_parts (leb (vec_len net.links) L && (W && H)) (P && B) t in
    let b = and_parts (leb (vec_len net.links) L) (W && H) a.0 in
    let w = and_parts W H b.1 in
    let u = and_parts (leb 1 e.order.width) (leb e.order.width 4) w.0 in
    let i = and_parts (ltb e.order.first 168) (leb 1 e.order.hours && leb e.order.hours 168) w.1 in
    let j = and_parts (leb 1 e.order.hours) (leb e.order.hours 168) i.1 in
    let p = and_parts P B a.1 in
    let d = and_parts (leb 1 e.channel) (leb (e.channel + e.order.width) (C + 1)) p.1 in
    let q = path_parts hop net.hops from to e.path p.0 in
    let few = leb-true (vec_len net.links) L b.0 in
    record {
      wide = leb-true 1 e.order.width u.0;
      narrow = leb-true e.order.width 4 u.1;
      hour = ltb-true e.order.first 168 i.0;
      some = leb-true 1 e.order.hours j.0;
      week = leb-true e.order.hours 168 j.1;
      path = p.0;
      known = λ k l. let r = links_known net every_link e.path from to q.arrives k l in (r.0, omega (arith, r.1, few));
      once = λ k l. links_once net every_link e.path from to q.arrives q.once k l;
      low = leb-true 1 e.channel d.0;
      high = leb-true (e.channel + e.order.width) (C + 1) d.1;
    }

-- no cell of a free order is taken
pub blocked_none : (p : ℕ → ℕ → ℕ → Bool) (e : Standing) → blocked p e ≡ false → (l c j : ℕ) → takes e l c ≡ true → j < e.order.hours → p l c (later e.order.first j) ≡ false
unfolding blocked takes
blocked_none p e b l c j t h =
    let a = and_parts (crosses e l) (block_has e.channel e.order.width c) t in
    let w = any_elim (length e.path) (λ i. eqb (get_or e.path i 0) l) (sym (has_any l e.path) ∙ a.0) in
    let k = and_parts (leb e.channel c) (ltb c (e.channel + e.order.width)) a.1 in
    let lo = leb-true e.channel c k.0 in
    let hi = ltb-true c (e.channel + e.order.width) k.1 in
    let one = any_none (length e.path) (λ i. any e.order.width (λ w. any e.order.hours (λ j. p (get_or e.path i 0) (e.channel + w) (later e.order.first j)))) b w.0 w.1 in
    let two = any_none e.order.width (λ x. any e.order.hours (λ j. p (get_or e.path w.0 0) (e.channel + x) (later e.order.first j))) one (c - e.channel) (omega arith) in
    let three = any_none e.order.hours (λ j. p (get_or e.path w.0 0) (e.channel + (c - e.channel)) (later e.order.first j)) two j h in
    let z : e.channel + (c - e.channel) ≡ c = omega arith in
    subst (λ x. p x c (later e.order.first j) ≡ false) (eqb-true (get_or e.path w.0 0) l w.2) (subst (λ x. p (get_or e.path w.0 0) x (later e.order.first j) ≡ false) z three)

-- where no order is, none starts
starting_none : (e : Standing) (l c f : ℕ) → f < 168 → in_cell e l c f ≡ false → starting e l c f ≡ 0
unfolding in_cell starting
starting_none e l c f b h = ⊎_elim
    (λ (t : (takes e l c && eqb f e.order.first) ≡ true). let p = and_parts (takes e l c) (eqb f e.order.first) t in
    rw t (⊎_elim
    (λ (q : 0 < e.order.hours). absurd (both_ways (takes e l c && covers e.order.first e.order.hours f) h (and_from (takes e l c) (covers e.order.first e.order.hours f) p.0 (subst (λ x. covers x e.order.hours f ≡ true) (eqb-true f e.order.first p.1) (covers_first f e.order.hours b q)))))
    (λ (q : e.order.hours ≤ 0). omega arith)
    (cases_lt 0 e.order.hours)))
    (λ (t : (takes e l c && eqb f e.order.first) ≡ false). rw t)
    (cases_Bool (takes e l c && eqb f e.order.first))

num_zero : (b : Bool) → num b ≡ 0 → b ≡ false
num_zero true h = absurd (omega (arith, h))
num_zero false h = refl

pub num_one : (b : Bool) → num b ≤ 1
num_one true = omega arith
num_one false = omega arith

pub sum_starting : (es : List Standing) (l c f : ℕ) → f < 168 → sum_by (λ e. num (in_cell e l c f)) es ≡ 0 → sum_by (λ e. starting e l c f) es ≡ 0
sum_starting [] l c f b h = refl
sum_starting (e ∷ es) l c f b h =
    let z = starting_none e l c f b (num_zero (in_cell e l c f) (omega (arith, h, sum_by-cons (λ x. num (in_cell x l c f)) e es))) in
    omega (arith, sum_by-cons (λ x. starting x l c f) e es, z, sum_starting es l c f b (omega (arith, h, sum_by-cons (λ x. num (in_cell x l c f)) e es)))

module _ (net : Network) (s m : Meaning) (es rest : List Standing) (e : Standing) (t : Tied net s m es) (parts : (g : Standing → ℕ) → sum_by g es ≡ g e + sum_by g rest) where
  pub one_fits : Fit net s.links s.channels e
  one_fits = fit_parts net s.links s.channels e (fit_of (fit net s.links s.channels e) (omega (arith, t.fits, parts (λ x. num (not (fit net s.links s.channels x))))))

  -- the runs of a standing order are live
  pub alive : (l c : ℕ) → takes e l c ≡ true → m.live l c e.order.first ≡ e.order.hours
  unfolding in_cell starting
  alive l c k =
      let f = e.order.first in
      let F = one_fits in
      let i : num (in_cell e l c f) ≡ 1 = rw (k, covers_first f e.order.hours F.hour F.some) in
      let p = parts (λ x. num (in_cell x l c f)) in
      let h = t.held l c f in
      let n = num_one (is_held m l c f) in
      let z = num_zero (is_held s l c f) (omega (arith, i, p, h, n)) in
      let r = sum_starting rest l c f F.hour (omega (arith, i, p, h, n)) in
      let own : starting e l c f ≡ e.order.hours = cond-true _ e.order.hours 0 (and_from (takes e l c) (eqb f f) k (eq-eqb f f refl)) in
      omega (arith, t.live l c f, parts (λ x. starting x l c f), not_held s l c f F.hour z, r, own)

  pub tie_out : Sound m → Tied net s (with_order m e 0) rest
  unfolding with_live in_cell starting
  tie_out so =
      let F = one_fits in
      record {
        links = t.links;
        channels = t.channels;
        limit = t.limit;
        closed = t.closed;
        fits = omega (arith, t.fits, parts (λ x. num (not (fit net s.links s.channels x))));
        live = λ l c f. omega (arith, t.live l c f, parts (λ x. starting x l c f), live_shrinks m so (takes e) e.order.first e.order.hours F.hour alive l c f);
        held = λ l c h. omega (arith, t.held l c h, parts (λ x. num (in_cell x l c h)), held_shrinks m so (takes e) e.order.first e.order.hours F.hour alive F.some l c h);
        shut = λ l c h z. omega (arith, t.shut l c h z, parts (λ x. num (in_cell x l c h)));
      }

  but : (a b c : Bool) → num a ≡ num b + num c → b ≡ (a && not c)
  but true true true h = absurd (omega (arith, h))
  but true true false h = refl
  but true false true h = refl
  but true false false h = absurd (omega (arith, h))
  but false true true h = absurd (omega (arith, h))
  but false true false h = absurd (omega (arith, h))
  but false false true h = absurd (omega (arith, h))
  but false false false h = refl

  -- what is taken once the order is out
  pub taken_out : Sound m → taken (with_order m e 0) ≡ taken_but m (in_cell e)
  unfolding with_live in_cell
  taken_out so =
      let F = one_fits in
      fun_ext (λ l. fun_ext (λ c. fun_ext (λ h. ap (λ x. m.closed l c h || x) (but (is_held m l c h) (is_held (with_order m e 0) l c h) (in_cell e l c h) (held_shrinks m so (takes e) e.order.first e.order.hours F.hour alive F.some l c h)))))

-- no order is in a closed cell
closed_out : (sc mc held : ℕ → ℕ → ℕ → Bool) (e : Standing) → mc ≡ sc → blocked (λ l c h. mc l c h || held l c h) e ≡ false → (l c h : ℕ) → sc l c h ≡ true → takes e l c ≡ true → covers e.order.first e.order.hours h ≡ true → ⊥
unfolding covers
closed_out sc mc held e q free l c h z k cv =
    let w = any_elim e.order.hours (λ j. eqb (later e.order.first j) h) cv in
    let b = (or_parts (mc l c (later e.order.first w.0)) (held l c (later e.order.first w.0)) (blocked_none (λ l c h. mc l c h || held l c h) e free l c w.0 k w.1)).0 in
    both_ways (mc l c h) (sym (ap (mc l c) (eqb-true (later e.order.first w.0) h w.2)) ∙ b) (ap (λ x. x l c h) q ∙ z)

module _ (net : Network) (s m : Meaning) (es more : List Standing) (e : Standing) (t : Tied net s m es) (parts : (g : Standing → ℕ) → sum_by g more ≡ g e + sum_by g es) where
  pub tie_in : fit net s.links s.channels e ≡ true → blocked (taken m) e ≡ false → Tied net s (with_order m e e.order.hours) more
  unfolding with_live in_cell starting
  tie_in ok free =
      let F = fit_parts net s.links s.channels e ok in
      let clear : (l c j : ℕ) → takes e l c ≡ true → j < e.order.hours → is_held m l c (later e.order.first j) ≡ false = λ l c j k b. (or_parts (m.closed l c (later e.order.first j)) (is_held m l c (later e.order.first j)) (blocked_none (taken m) e free l c j k b)).1 in
      let out : (l c h : ℕ) → s.closed l c h ≡ true → in_cell e l c h ≡ false = λ l c h z. ⊎_elim
      (λ i. absurd (
      let p = and_parts (takes e l c) (covers e.order.first e.order.hours h) i in
      closed_out s.closed m.closed (is_held m) e t.closed free l c h z p.0 p.1))
      (λ i. i)
      (cases_Bool (in_cell e l c h)) in
      record {
        links = t.links;
        channels = t.channels;
        limit = t.limit;
        closed = t.closed;
        fits = omega (arith, t.fits, parts (λ x. num (not (fit net s.links s.channels x))), (let z : num (not (fit net s.links s.channels e)) ≡ 0 = rw ok in z));
        live = λ l c f. omega (arith, t.live l c f, parts (λ x. starting x l c f), live_grows m (takes e) e.order.first e.order.hours F.hour F.some clear l c f);
        held = λ l c h. omega (arith, t.held l c h, parts (λ x. num (in_cell x l c h)), held_grows m (takes e) e.order.first e.order.hours F.hour F.some clear l c h);
        shut = λ l c h z. omega (arith, t.shut l c h z, parts (λ x. num (in_cell x l c h)), ap num (out l c h z));
      }
