-- Holding or releasing the runs of an order one by one is the same as all at once.
use Rattle.std.proofs.Common.{◌≡◌, ℕ, zero, suc, ◌+◌, ◌-◌, ◌*◌, ◌<◌, ◌≤◌, Bool, true, false, cond, ◌&&◌, ◌||◌, eqb, leb, length, sym, refl, ap, ◌∙◌, subst, mul-le-mul_right, suc-mul, zero-mul, arith}
use mathlib.Core.Path.{fun_ext}
use Rattle.std.proofs.lemmas.Bool.Decides.{nat_tests}
use Rattle.std.proofs.lemmas.Bool.{and_from, or_parts, eq-eqb, ne_eqb, le-leb}
use Rattle.calendar.specs.Week.{any, later}
use Rattle.calendar.specs.Meaning.{Meaning, Sound, is_held, proper, meets, room_of, live_count, with_run, put, hold_number, after_hold, release_number, after_release, taken}
use Rattle.calendar.specs.declared.run.Run.{Run}
use Rattle.calendar.proofs.Sums.{any_none, any_intro, any_or}
use Rattle.calendar.proofs.Plants.{inside_from, inside_parts, proper_parts, meets_cong}
use Rattle.calendar.proofs.Kept.{count_put}
use Rattle.network.specs.declared.network.Network.{Network}
use Rattle.orders.specs.Runs.{run_of, link_of, on_link, on_links, hold_all, release_all}
use Rattle.orders.specs.Standing.{Standing, crosses, block_has, takes}
use Rattle.orders.proofs.Masks.{mask, with_live, with_mask, mask_off, held_off, none_there}
use Rattle.ways.proofs.Routes.{has_any}
use Rattle.orders.proofs.Tied.{with_order, blocked, Fit}
use Rattle.orders.proofs.Ties.{blocked_none}

-- run w on link i of the order's path, both counted from 0
abbrev nth_run : Standing → ℕ → ℕ → Run
nth_run e i w = run_of e (link_of e i) (e.channel + w)

-- k, and that channel
abbrev grown : (ℕ → ℕ → Bool) → ℕ → ℕ → ℕ → ℕ → Bool
grown k l c x y = k x y || (eqb x l && eqb y c)

put_mask : (a b d k : Bool) (n g : ℕ) → cond (a && (b && d)) n (cond (k && d) n g) ≡ cond ((k || (a && b)) && d) n g
put_mask false b d true n g = refl
put_mask false b d false n g = refl
put_mask true false d true n g = refl
put_mask true false d false n g = refl
put_mask true true true true n g = refl
put_mask true true true false n g = refl
put_mask true true false true n g = refl
put_mask true true false false n g = refl

run_masked : (m : Meaning) (k : ℕ → ℕ → Bool) (r : Run) (n : ℕ) → with_run (with_mask m k r.first n) r n ≡ with_mask m (grown k r.link r.channel) r.first n
unfolding with_run with_live put mask
run_masked m k r n = ap (with_live m) (fun_ext (λ x. fun_ext (λ y. fun_ext (λ z. put_mask (eqb x r.link) (eqb y r.channel) (eqb z r.first) (k x y) n (m.live x y z)))))

hold_ok : (m : Meaning) (r : Run) → proper m r ≡ true → meets m.closed r ≡ false → meets (is_held m) r ≡ false → live_count m < m.limit → after_hold m r ≡ with_run m r r.hours
unfolding after_hold hold_number room_of
hold_ok m r p c h l = rw (p, c, h, ne_eqb (m.limit - live_count m) 0 (λ z. omega arith))

release_ok : (m : Meaning) (r : Run) → proper m r ≡ true → m.live r.link r.channel r.first ≡ r.hours → after_release m r ≡ with_run m r 0
unfolding after_release release_number
release_ok m r p e = rw (p, eq-eqb (m.live r.link r.channel r.first) r.hours e)

proper_mask : (m : Meaning) (k : ℕ → ℕ → Bool) (f n : ℕ) (r : Run) → proper (with_mask m k f n) r ≡ proper m r
unfolding proper with_live
proper_mask m k f n r = refl

-- so far: the runs on the channels of k are in, and they are i
record Held (m : Meaning) (f n : ℕ) (x : Meaning) (k : ℕ → ℕ → Bool) (i : ℕ) : Type 0 where
  pub is : x ≡ with_mask m k f n
  pub count : live_count x ≡ live_count m + i

hold_step : (m x : Meaning) (k : ℕ → ℕ → Bool) (i : ℕ) (r : Run) → Held m r.first r.hours x k i → k r.link r.channel ≡ false → proper m r ≡ true → meets m.closed r ≡ false → meets (is_held m) r ≡ false → m.live r.link r.channel r.first ≡ 0 → live_count m + i < m.limit → Held m r.first r.hours (after_hold x r) (grown k r.link r.channel) (i + 1)
unfolding with_live
hold_step m x k i r s off ok clear free none room =
    let f = r.first in let n = r.hours in let l = r.link in let c = r.channel in
    let M = with_mask m k f n in
    let pM = proper_mask m k f n r ∙ ok in
    let hM : meets (is_held M) r ≡ false = meets_cong (is_held M) (is_held m) r r refl (λ j _. held_off m k f n l c (later f j) off) ∙ free in
    let cM : live_count M ≡ live_count m + i = ap live_count (sym s.is) ∙ s.count in
    let e : after_hold x r ≡ with_run M r n = ap (λ y. after_hold y r) s.is ∙ hold_ok M r pM clear hM (omega (arith, cM, room)) in
    let p = inside_parts M l c f (proper_parts M r pM).0 in
    let q = proper_parts M r pM in
    let was : M.live l c f ≡ 0 = mask_off m.live k f n l c off f ∙ none in
    let cnt = count_put M r n (l - 1) (c - 1) (omega (arith, p.0)) (omega (arith, p.0, p.1)) (omega (arith, p.2)) (omega (arith, p.2, p.3)) p.4 in
    record { is = e ∙ run_masked m k r n; count = ap live_count e ∙ omega (arith, cnt, was, cM, q.1) }

record Freed (m : Meaning) (f : ℕ) (x : Meaning) (k : ℕ → ℕ → Bool) (i : ℕ) : Type 0 where
  pub is : x ≡ with_mask m k f 0
  pub count : live_count x + i ≡ live_count m

release_step : (m x : Meaning) (k : ℕ → ℕ → Bool) (i : ℕ) (r : Run) → Freed m r.first x k i → k r.link r.channel ≡ false → proper m r ≡ true → m.live r.link r.channel r.first ≡ r.hours → Freed m r.first (after_release x r) (grown k r.link r.channel) (i + 1)
unfolding with_live
release_step m x k i r s off ok there =
    let f = r.first in let l = r.link in let c = r.channel in
    let M = with_mask m k f 0 in
    let pM = proper_mask m k f 0 r ∙ ok in
    let q = proper_parts M r pM in
    let p = inside_parts M l c f q.0 in
    let was : M.live l c f ≡ r.hours = mask_off m.live k f 0 l c off f ∙ there in
    let e : after_release x r ≡ with_run M r 0 = ap (λ y. after_release y r) s.is ∙ release_ok M r pM was in
    let cM : live_count M + i ≡ live_count m = ap (λ y. live_count y + i) (sym s.is) ∙ s.count in
    let cnt = count_put M r 0 (l - 1) (c - 1) (omega (arith, p.0)) (omega (arith, p.0, p.1)) (omega (arith, p.2)) (omega (arith, p.2, p.3)) p.4 in
    record { is = e ∙ run_masked m k r 0; count = ap (λ y. live_count y + (i + 1)) e ∙ omega (arith, cnt, was, cM, q.1) }

-- the first i links of the path, and w channels of the next
abbrev part : Standing → ℕ → ℕ → ℕ → ℕ → Bool
part e i w l c = (any i (λ j. eqb (link_of e j) l) && block_has e.channel e.order.width c) || (eqb (link_of e i) l && block_has e.channel w c)

part_next : (A : Bool) (p x a w y : ℕ) → ((A || (eqb p x && block_has a w y)) || (eqb x p && eqb y (a + w))) ≡ (A || (eqb p x && block_has a (suc w) y))
part_next A p x a w y = grind (arith, nat_tests)

part_link : (A : Bool) (p q x a w y : ℕ) → ((A && block_has a w y) || (eqb p x && block_has a w y)) ≡ (((eqb p x || A) && block_has a w y) || (eqb q x && block_has a 0 y))
part_link A p q x a w y = grind (arith, nat_tests)

-- two nested loops over the runs: Inv is kept by each run, k growing
module _ (e : Standing) (F : Meaning → Run → Meaning) (Inv : Meaning → (ℕ → ℕ → Bool) → ℕ → Type 0)
    (step : (i w : ℕ) → i < length e.path → w < e.order.width → (x : Meaning) → Inv x (part e i w) (i * e.order.width + w) → Inv (F x (nth_run e i w)) (grown (part e i w) (link_of e i) (e.channel + w)) (i * e.order.width + w + 1)) where
  loop_link : (i w : ℕ) → i < length e.path → w ≤ e.order.width → (x : Meaning) → Inv x (part e i 0) (i * e.order.width) → Inv (on_link F x e i w) (part e i w) (i * e.order.width + w)
  unfolding on_link
  loop_link i zero li lw x h = subst (Inv x (part e i 0)) (omega arith) h
  loop_link i (suc w) li lw x h =
      subst (Inv (F (on_link F x e i w) (nth_run e i w)) (part e i (suc w))) (omega arith)
      (subst (λ k. Inv (F (on_link F x e i w) (nth_run e i w)) k (i * e.order.width + w + 1))
      (fun_ext (λ l. fun_ext (λ c. part_next (any i (λ j. eqb (link_of e j) l) && block_has e.channel e.order.width c) (link_of e i) l e.channel w c)))
      (step i w li (omega arith) (on_link F x e i w) (loop_link i w li (omega arith) x h)))

  loop_links : (i : ℕ) → i ≤ length e.path → (x : Meaning) → Inv x (part e 0 0) 0 → Inv (on_links F x e i) (part e i 0) (i * e.order.width)
  unfolding on_links any
  loop_links zero li x h = subst (Inv x (part e 0 0)) (sym (zero-mul e.order.width)) h
  loop_links (suc i) li x h =
      subst (Inv (on_link F (on_links F x e i) e i e.order.width) (part e (suc i) 0)) (sym (suc-mul i e.order.width) ∙ refl)
      (subst (λ k. Inv (on_link F (on_links F x e i) e i e.order.width) k (i * e.order.width + e.order.width))
      (fun_ext (λ l. fun_ext (λ c. part_link (any i (λ j. eqb (link_of e j) l)) (link_of e i) (link_of e (suc i)) l e.channel e.order.width c)))
      (loop_link i e.order.width (omega arith) (omega arith) (on_links F x e i) (loop_links i (omega arith) x h)))

part_all : (e : Standing) → part e (length e.path) 0 ≡ takes e
unfolding takes
part_all e = fun_ext (λ l. fun_ext (λ c. ap (λ b. (b && block_has e.channel e.order.width c) || (eqb (link_of e (length e.path)) l && block_has e.channel 0 c)) (sym (has_any l e.path)) ∙ drop_last (crosses e l && block_has e.channel e.order.width c) (link_of e (length e.path)) l e.channel c))
  where
    drop_last : (A : Bool) (p x a y : ℕ) → (A || (eqb p x && block_has a 0 y)) ≡ A
    drop_last A p x a y = grind (arith, nat_tests)

part_none : (e : Standing) → part e 0 0 ≡ (λ _ _. false)
unfolding any
part_none e = fun_ext (λ l. fun_ext (λ c. none (link_of e 0) l e.channel c))
  where
    none : (p x a y : ℕ) → (eqb p x && block_has a 0 y) ≡ false
    none p x a y = grind (arith, nat_tests)

mask_none : (m : Meaning) (f n : ℕ) → with_mask m (λ _ _. false) f n ≡ m
unfolding with_live mask
mask_none m f n = refl

off_part : (A B : Bool) (p a w : ℕ) → A ≡ false → ((A && B) || (eqb p p && block_has a w (a + w))) ≡ false
off_part A B p a w h = rw h (grind (arith, nat_tests))

takes_run : (e : Standing) (i w : ℕ) → i < length e.path → w < e.order.width → takes e (link_of e i) (e.channel + w) ≡ true
unfolding takes
takes_run e i w li lw = and_from (crosses e (link_of e i)) (block_has e.channel e.order.width (e.channel + w)) (has_any (link_of e i) e.path ∙ any_intro (length e.path) (λ j. eqb (link_of e j) (link_of e i)) i li (eq-eqb (link_of e i) (link_of e i) refl)) (grind (arith, nat_tests))

module _ (net : Network) (m : Meaning) (e : Standing) (F : Fit net m.links m.channels e) where
  run_proper : (i w : ℕ) → i < length e.path → w < e.order.width → proper m (nth_run e i w) ≡ true
  unfolding proper
  run_proper i w li lw =
      let p = F.known i li in
      let a = inside_from m (link_of e i) (e.channel + w) e.order.first p.0 p.1 (omega (arith, F.low)) (omega (arith, F.high, lw)) F.hour in
      and_from _ (leb 1 e.order.hours && leb e.order.hours 168) a (and_from (leb 1 e.order.hours) (leb e.order.hours 168) (le-leb 1 e.order.hours F.some) (le-leb e.order.hours 168 F.week))

  run_off : (i w : ℕ) → i < length e.path → part e i w (link_of e i) (e.channel + w) ≡ false
  run_off i w li = off_part (any i (λ j. eqb (link_of e j) (link_of e i))) (block_has e.channel e.order.width (e.channel + w)) (link_of e i) e.channel w (F.once i li)

  freed : ((l c : ℕ) → takes e l c ≡ true → m.live l c e.order.first ≡ e.order.hours) → Freed m e.order.first (release_all m e) (part e (length e.path) 0) (length e.path * e.order.width)
  freed alive =
      let step : (i w : ℕ) → i < length e.path → w < e.order.width → (x : Meaning) → Freed m e.order.first x (part e i w) (i * e.order.width + w) → Freed m e.order.first (after_release x (nth_run e i w)) (grown (part e i w) (link_of e i) (e.channel + w)) (i * e.order.width + w + 1)
      = λ i w li lw x h. release_step m x (part e i w) (i * e.order.width + w) (nth_run e i w) h (run_off i w li) (run_proper i w li lw) (alive (link_of e i) (e.channel + w) (takes_run e i w li lw)) in
      loop_links e after_release (Freed m e.order.first) step (length e.path) (omega arith) m (record { is = sym (mask_none m e.order.first 0) ∙ ap (λ k. with_mask m k e.order.first 0) (sym (part_none e)); count = omega arith })

  pub released : ((l c : ℕ) → takes e l c ≡ true → m.live l c e.order.first ≡ e.order.hours) → release_all m e ≡ with_order m e 0
  released alive = (freed alive).is ∙ ap (λ k. with_mask m k e.order.first 0) (part_all e)

  -- and the room that they leave
  pub room_left : Sound m → ((l c : ℕ) → takes e l c ≡ true → m.live l c e.order.first ≡ e.order.hours) → length e.path * e.order.width ≤ room_of (with_order m e 0)
  unfolding room_of with_live
  room_left so alive = omega (arith, so.few, ap (λ x. live_count x + length e.path * e.order.width) (sym (released alive)) ∙ (freed alive).count)

  run_clear : (p : ℕ → ℕ → ℕ → Bool) → blocked p e ≡ false → (i w : ℕ) → i < length e.path → w < e.order.width → meets p (nth_run e i w) ≡ false
  unfolding meets blocked
  run_clear p b i w li lw =
      any_none e.order.width (λ x. any e.order.hours (λ j. p (link_of e i) (e.channel + x) (later e.order.first j)))
      (any_none (length e.path) (λ i. any e.order.width (λ w. any e.order.hours (λ j. p (link_of e i) (e.channel + w) (later e.order.first j)))) b i li) w lw

  meets_left : (p q : ℕ → ℕ → ℕ → Bool) (r : Run) → meets (λ l c h. p l c h || q l c h) r ≡ false → (meets p r ≡ false) × (meets q r ≡ false)
  unfolding meets
  meets_left p q r h = or_parts _ _ (sym (any_or r.hours (λ j. p r.link r.channel (later r.first j)) (λ j. q r.link r.channel (later r.first j))) ∙ h)

  -- the place of a run among all
  nth : (i w : ℕ) → i < length e.path → w < e.order.width → i * e.order.width + w < length e.path * e.order.width
  nth i w li lw = omega (arith, mul-le-mul_right e.order.width li, suc-mul i e.order.width, lw)

  pub held : blocked (taken m) e ≡ false → length e.path * e.order.width ≤ room_of m → hold_all m e ≡ with_order m e e.order.hours
  unfolding room_of
  held free room =
      let step : (i w : ℕ) → i < length e.path → w < e.order.width → (x : Meaning) → Held m e.order.first e.order.hours x (part e i w) (i * e.order.width + w) → Held m e.order.first e.order.hours (after_hold x (nth_run e i w)) (grown (part e i w) (link_of e i) (e.channel + w)) (i * e.order.width + w + 1)
      = λ i w li lw x h.
      let r = nth_run e i w in
      let b = meets_left m.closed (is_held m) r (run_clear (taken m) free i w li lw) in
      hold_step m x (part e i w) (i * e.order.width + w) r h (run_off i w li) (run_proper i w li lw) b.0 b.1 (none_there m (takes e) e.order.first e.order.hours F.hour F.some (λ l c j k z. (or_parts (m.closed l c (later e.order.first j)) (is_held m l c (later e.order.first j)) (blocked_none (taken m) e free l c j k z)).1) (link_of e i) (e.channel + w) (takes_run e i w li lw)) (omega (arith, nth i w li lw, room)) in
      (loop_links e after_hold (Held m e.order.first e.order.hours) step (length e.path) (omega arith) m (record { is = sym (mask_none m e.order.first e.order.hours) ∙ ap (λ k. with_mask m k e.order.first e.order.hours) (sym (part_none e)); count = omega arith })).is
      ∙ ap (λ k. with_mask m k e.order.first e.order.hours) (part_all e)
