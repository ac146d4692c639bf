-- Lists of link numbers that lead from place to place: what is known of the links in them.
use Rattle.std.proofs.Common.{◌≡◌, ℕ, zero, suc, ◌<◌, ◌≤◌, Bool, true, false, cond, ◌&&◌, eqb, ltb, leb, ◌⊎◌, List, [], ◌∷◌, length, get_or, Some, None, vec_items, vec_len, Option, sym, refl, ap, ◌∙◌, inl, inr, arith}
use Rattle.std.specs.List.{slice_get}
use Rattle.std.proofs.lemmas.Option.{slice_get_past}
use Rattle.std.proofs.lemmas.Bool.{cases_Bool, cases_lt, both_ways, and_parts, and_from, leb-true, le-leb, ltb-true, lt-ltb, eqb-true, eq-eqb, ne_eqb, cond-true, cond-false}
use Rattle.calendar.specs.Week.{any}
use Rattle.calendar.proofs.Sums.{bool_same, any_intro, any_elim, any_none, any_false, any_empty}
use Rattle.network.specs.Paths.{when_there, far_end, crossing, leads, touched, has, no_twice, Allowed, is_path}
use Rattle.network.specs.Places.{link_at}
use Rattle.network.specs.declared.link.Link.{Link}
use Rattle.network.specs.declared.network.Network.{Network}
use Rattle.ways.specs.Ways.{every_link}

-- ---- what may be there or not

pub clash : {X : Type 0} (o : Option X) (x : X) → o ≡ None → o ≡ Some x → ⊥
clash o x e f = let z : ◌≡◌ {A = ℕ} 0 1 = cc in omega arith

pub some_same : {X : Type 0} (x y : X) → Some x ≡ Some y → x ≡ y
some_same x y e = cc

pub there : {X Y : Type 0} (o : Option X) (f : X → Option Y) (y : Y) → when_there o None f ≡ Some y → (x : X) × (o ≡ Some x) × (f x ≡ Some y)
there None f y e = absurd (clash None y refl e)
there (Some x) f y e = (x, refl, e)

pub passes : {X : Type 0} (o : Option X) (f : X → Bool) → when_there o false f ≡ true → (x : X) × (o ≡ Some x) × (f x ≡ true)
passes None f e = absurd (both_ways false refl e)
passes (Some x) f e = (x, refl, e)

-- ---- the test of a path and its parts

module _ (hop : ℕ → ℕ → Option ℕ) (limit s t : ℕ) (p : List ℕ) where
  pub path_parts : is_path hop limit s t p ≡ true → Allowed hop limit s t p
  path_parts e =
      let (a, b) = and_parts (ltb 0 (length p) && leb (length p) limit) (when_there (leads hop s p) false (λ v. eqb v t) && no_twice (touched hop s p)) e in
      let (some, few) = and_parts (ltb 0 (length p)) (leb (length p) limit) a in
      let (arrives, once) = and_parts (when_there (leads hop s p) false (λ v. eqb v t)) (no_twice (touched hop s p)) b in
      let (v, l, h) = passes (leads hop s p) (λ v. eqb v t) arrives in
      record { some = ltb-true 0 (length p) some; few = leb-true (length p) limit few; arrives = l ∙ ap Some (eqb-true v t h); once = once }

  pub path_from : Allowed hop limit s t p → is_path hop limit s t p ≡ true
  path_from a =
      and_from _ _ (and_from _ _ (lt-ltb 0 (length p) a.some) (le-leb (length p) limit a.few))
      (and_from _ _ (ap (λ o. when_there o false (λ v. eqb v t)) a.arrives ∙ eq-eqb t t refl) a.once)

-- ---- a number in a list

pub has_head : (x y : ℕ) (q : List ℕ) → x ≡ y → has x (y ∷ q) ≡ true
has_head x y q e = cond-true (eqb x y) true (has x q) (eq-eqb x y e)

pub has_tail : (x y : ℕ) (q : List ℕ) → has x q ≡ true → has x (y ∷ q) ≡ true
has_tail x y q e = elim (cases_Bool (eqb x y)) [ inl h ↦ cond-true _ _ _ h | inr h ↦ cond-false _ _ _ h ∙ e ]

pub has_cases : (x y : ℕ) (q : List ℕ) → has x (y ∷ q) ≡ true → (x ≡ y) ⊎ (has x q ≡ true)
has_cases x y q e = elim (cases_Bool (eqb x y)) [ inl h ↦ inl (eqb-true x y h) | inr h ↦ inr (sym (cond-false _ _ _ h) ∙ e) ]

pub has_at : (p : List ℕ) (i : ℕ) → i < length p → has (get_or p i 0) p ≡ true
has_at [] i h = absurd (omega arith)
has_at (x ∷ p) zero h = has_head x x p refl
has_at (x ∷ p) (suc i) h = has_tail (get_or p i 0) x p (has_at p i (omega arith))

pub has_index : (l : ℕ) (p : List ℕ) → has l p ≡ true → (i : ℕ) × (i < length p) × (get_or p i 0 ≡ l)
has_index l [] e = absurd (both_ways false refl e)
has_index l (x ∷ p) e =
    elim (has_cases l x p e) [
      | inl h ↦ (0, omega arith, sym h)
      | inr h ↦ let (i, k, s) = has_index l p h in (suc i, omega arith, s)
    ]

pub has_any : (l : ℕ) (p : List ℕ) → has l p ≡ any (length p) (λ i. eqb (get_or p i 0) l)
has_any l p =
    bool_same (has l p) (any (length p) (λ i. eqb (get_or p i 0) l))
    (λ e. let (i, k, s) = has_index l p e in any_intro (length p) (λ i. eqb (get_or p i 0) l) i k (eq-eqb (get_or p i 0) l s))
    (λ e. let (i, k, s) = any_elim (length p) (λ i. eqb (get_or p i 0) l) e in ap (λ x. has x p) (sym (eqb-true (get_or p i 0) l s)) ∙ has_at p i k)

pub no_twice_parts : (x : ℕ) (q : List ℕ) → no_twice (x ∷ q) ≡ true → (has x q ≡ false) × (no_twice q ≡ true)
no_twice_parts x q e =
    elim (cases_Bool (has x q)) [
      | inl h ↦ absurd (both_ways false refl (sym (cond-true (has x q) false (no_twice q) h) ∙ e))
      | inr h ↦ (h, sym (cond-false (has x q) false (no_twice q) h) ∙ e)
    ]

pub no_twice_from : (x : ℕ) (q : List ℕ) → has x q ≡ false → no_twice q ≡ true → no_twice (x ∷ q) ≡ true
no_twice_from x q h e = cond-false (has x q) false (no_twice q) h ∙ e

-- no number of the list stands earlier in it
pub no_twice_at : (p : List ℕ) → no_twice p ≡ true → (i : ℕ) → i < length p → any i (λ j. eqb (get_or p j 0) (get_or p i 0)) ≡ false
no_twice_at [] e i h = absurd (omega arith)
no_twice_at (x ∷ q) e zero h = any_empty (λ j. eqb (get_or (x ∷ q) j 0) x)
no_twice_at (x ∷ q) e (suc i) h =
    let (new, rest) = no_twice_parts x q e in
    let below = no_twice_at q rest i (omega arith) in
    any_false (suc i) (λ j. eqb (get_or (x ∷ q) j 0) (get_or q i 0)) (each new below)
  where
    each : has x q ≡ false → any i (λ j. eqb (get_or q j 0) (get_or q i 0)) ≡ false → (j : ℕ) → j < suc i → eqb (get_or (x ∷ q) j 0) (get_or q i 0) ≡ false
    each new below zero k = ne_eqb x (get_or q i 0) (λ s. both_ways (has x q) new (ap (λ y. has y q) s ∙ has_at q i (omega arith)))
    each new below (suc j) k = any_none i (λ j. eqb (get_or q j 0) (get_or q i 0)) below j (omega arith)

-- ---- one link

opened : (b : Bool) (o : Option ℕ) (w : ℕ) → cond b o None ≡ Some w → (b ≡ true) × (o ≡ Some w)
opened true o w e = (refl, e)
opened false o w e = absurd (clash None w refl e)

across : (l : Link) (v w : ℕ) → far_end l v ≡ Some w → ((v ≡ l.one) × (w ≡ l.two)) ⊎ ((v ≡ l.two) × (w ≡ l.one))
across l v w e =
    elim (cases_Bool (eqb l.one v)) [
      | inl h ↦ inl (sym (eqb-true _ _ h), sym (some_same _ _ (sym (cond-true _ _ _ h) ∙ e)))
      | inr h ↦ (let f = sym (cond-false _ _ _ h) ∙ e in
          elim (cases_Bool (eqb l.two v)) [
            | inl k ↦ inr (sym (eqb-true _ _ k), sym (some_same _ _ (sym (cond-true _ _ _ k) ∙ f)))
            | inr k ↦ absurd (clash None w refl (sym (cond-false _ (Some l.one) None k) ∙ f))
          ])
    ]

numbered : (links : List Link) (i : ℕ) (l : Link) → link_at links i ≡ Some l → (1 ≤ i) × (i ≤ length links)
numbered links zero l e = absurd (clash None l refl e)
numbered links (suc i) l e =
    elim (cases_lt i (length links)) [
      | inl h ↦ (omega arith, omega arith)
      | inr h ↦ absurd (clash (slice_get links i) l (slice_get_past links i h) e)
    ]

-- ---- a list of links, from its first on

pub start_touched : (hop : ℕ → ℕ → Option ℕ) (q : List ℕ) (u : ℕ) → has u (touched hop u q) ≡ true
start_touched hop [] u = has_head u u [] refl
start_touched hop (i ∷ q) u = has_head u u (when_there (hop u i) [] (λ w. touched hop w q)) refl

pub touched_cons : (hop : ℕ → ℕ → Option ℕ) (v i u : ℕ) (q : List ℕ) → hop v i ≡ Some u → touched hop v (i ∷ q) ≡ v ∷ touched hop u q
touched_cons hop v i u q e = ap (λ o. v ∷ when_there o [] (λ w. touched hop w q)) e

pub leads_cons : (hop : ℕ → ℕ → Option ℕ) (v i u : ℕ) (q : List ℕ) → hop v i ≡ Some u → leads hop v (i ∷ q) ≡ leads hop u q
leads_cons hop v i u q e = ap (λ o. when_there o None (λ w. leads hop w q)) e

-- ---- a crossing

module _ (net : Network) (free : ℕ → Bool) where
  abbrev hop : ℕ → ℕ → Option ℕ
  hop = crossing net free

  crossed : (v i w : ℕ) → hop v i ≡ Some w → (l : Link) × (link_at (vec_items net.links) i ≡ Some l) × (free i ≡ true) × (far_end l v ≡ Some w)
  unfolding crossing
  crossed v i w e =
      let (l, a, b) = there (link_at (vec_items net.links) i) (λ l. cond (free i) (far_end l v) None) w e in
      let (f, far) = opened (free i) (far_end l v) w b in
      (l, a, f, far)

  crossing_from : (v i w : ℕ) (l : Link) → link_at (vec_items net.links) i ≡ Some l → free i ≡ true → far_end l v ≡ Some w → hop v i ≡ Some w
  unfolding crossing
  crossing_from v i w l a f far = ap (λ o. when_there o None (λ l. cond (free i) (far_end l v) None)) a ∙ cond-true _ _ _ f ∙ far

  -- a link that is crossed is free, and one of the network's
  pub crossing_free : (v i w : ℕ) → hop v i ≡ Some w → free i ≡ true
  crossing_free v i w e = (crossed v i w e).2

  pub crossing_known : (v i w : ℕ) → hop v i ≡ Some w → (1 ≤ i) × (i ≤ vec_len net.links)
  crossing_known v i w e =
      let (l, a, f, far) = crossed v i w e in
      let (low, high) = numbered (vec_items net.links) i l a in
      (low, omega (arith, high, net.links.ok.0))

  -- two crossings of one link have both ends of it
  one_end : (s x w v u : ℕ) → hop s x ≡ Some w → hop v x ≡ Some u → (s ≡ v) ⊎ (s ≡ u)
  one_end s x w v u e f =
      let (l, a, _, far) = crossed s x w e in
      let (m, b, _, off) = crossed v x u f in
      let same : l ≡ m = some_same l m (sym a ∙ b) in
      elim (across l s w far) [
        | inl h ↦ elim (across m v u off) [ inl k ↦ inl (h.0 ∙ ap (λ l. l.one) same ∙ sym k.0) | inr k ↦ inr (h.0 ∙ ap (λ l. l.one) same ∙ sym k.1) ]
        | inr h ↦ elim (across m v u off) [ inl k ↦ inr (h.0 ∙ ap (λ l. l.two) same ∙ sym k.1) | inr k ↦ inl (h.0 ∙ ap (λ l. l.two) same ∙ sym k.0) ]
      ]

  -- ---- a list of links

  pub links_known : (p : List ℕ) (s t : ℕ) → leads hop s p ≡ Some t → (i : ℕ) → i < length p → (1 ≤ get_or p i 0) × (get_or p i 0 ≤ vec_len net.links)
  links_known [] s t e i h = absurd (omega arith)
  links_known (x ∷ p) s t e zero h = let (w, k, r) = there (hop s x) (λ w. leads hop w p) t e in crossing_known s x w k
  links_known (x ∷ p) s t e (suc i) h = let (w, k, r) = there (hop s x) (λ w. leads hop w p) t e in links_known p w t r i (omega arith)

  pub links_free : (p : List ℕ) (s t : ℕ) → leads hop s p ≡ Some t → (l : ℕ) → has l p ≡ true → free l ≡ true
  links_free [] s t e l h = absurd (both_ways false refl h)
  links_free (x ∷ p) s t e l h =
      let (w, k, r) = there (hop s x) (λ w. leads hop w p) t e in
      elim (has_cases l x p h) [ inl y ↦ ap free y ∙ crossing_free s x w k | inr y ↦ links_free p w t r l y ]

  -- a list that goes over a link touches both of its ends
  end_touched : (q : List ℕ) (v t x s w : ℕ) → leads hop v q ≡ Some t → hop s x ≡ Some w → has x q ≡ true → has s (touched hop v q) ≡ true
  end_touched [] v t x s w e f h = absurd (both_ways false refl h)
  end_touched (i ∷ q) v t x s w e f h =
      let (u, k, r) = there (hop v i) (λ w. leads hop w q) t e in
      ap (has s) (touched_cons hop v i u q k)
      ∙ elim (has_cases x i q h) [
        | inl y ↦ elim (one_end s x w v u f (ap (hop v) y ∙ k)) [
          | inl z ↦ has_head s v (touched hop u q) z
          | inr z ↦ has_tail s v (touched hop u q) (ap (λ y. has y (touched hop u q)) z ∙ start_touched hop q u)
        ]
        | inr y ↦ has_tail s v (touched hop u q) (end_touched q u t x s w r f y)
      ]

  numbers_once : (p : List ℕ) (s t : ℕ) → leads hop s p ≡ Some t → no_twice (touched hop s p) ≡ true → no_twice p ≡ true
  numbers_once [] s t e o = refl
  numbers_once (x ∷ q) s t e o =
      let (w, k, r) = there (hop s x) (λ w. leads hop w q) t e in
      let (new, rest) = no_twice_parts s (touched hop w q) (sym (ap no_twice (touched_cons hop s x w q k)) ∙ o) in
      let fresh : has x q ≡ false = elim (cases_Bool (has x q)) [ inl h ↦ absurd (both_ways _ new (end_touched q w t x s w r k h)) | inr h ↦ h ] in
      no_twice_from x q fresh (numbers_once q w t r rest)

  -- where no place is touched twice no link is crossed twice
  pub links_once : (p : List ℕ) (s t : ℕ) → leads hop s p ≡ Some t → no_twice (touched hop s p) ≡ true → (i : ℕ) → i < length p → any i (λ j. eqb (get_or p j 0) (get_or p i 0)) ≡ false
  links_once p s t e o = no_twice_at p (numbers_once p s t e o)

-- ---- other links may be used

pub path_same : (f g : ℕ → ℕ → Option ℕ) → ((v i : ℕ) → f v i ≡ g v i) → (limit s t : ℕ) (p : List ℕ) → is_path f limit s t p ≡ is_path g limit s t p
path_same f g same limit s t p = ap (λ h. is_path h limit s t p) (λ j v i. same v i j)

module _ (net : Network) (f g : ℕ → Bool) where
  -- a crossing stays where its link may still be used
  pub crossing_kept : (v i w : ℕ) → g i ≡ true → crossing net f v i ≡ Some w → crossing net g v i ≡ Some w
  crossing_kept v i w h e = let (l, a, _, far) = crossed net f v i w e in crossing_from net g v i w l a h far

  crossing_same_at : (v i : ℕ) → ((1 ≤ i) → (i ≤ vec_len net.links) → f i ≡ g i) → (o r : Option ℕ) → crossing net f v i ≡ o → crossing net g v i ≡ r → o ≡ r
  crossing_same_at v i same None None e k = refl
  crossing_same_at v i same None (Some w) e k =
      let (low, high) = crossing_known net g v i w k in
      let (l, a, h, far) = crossed net g v i w k in
      absurd (clash _ w e (crossing_from net f v i w l a (same low high ∙ h) far))
  crossing_same_at v i same (Some w) r e k =
      let (low, high) = crossing_known net f v i w e in
      sym (crossing_kept v i w (sym (same low high) ∙ crossing_free net f v i w e) e) ∙ k

  -- only the network's own links count
  pub crossing_agrees : ((i : ℕ) → 1 ≤ i → i ≤ vec_len net.links → f i ≡ g i) → crossing net f ≡ crossing net g
  crossing_agrees same = λ j v i. crossing_same_at v i (same i) _ _ refl refl j

  pub free_agrees : ((i : ℕ) → 1 ≤ i → i ≤ vec_len net.links → f i ≡ g i) → (limit s t : ℕ) (p : List ℕ) → is_path (crossing net f) limit s t p ≡ is_path (crossing net g) limit s t p
  free_agrees same limit s t p = ap (λ h. is_path h limit s t p) (crossing_agrees same)

  kept_arrives : (p : List ℕ) (s t : ℕ) → ((l : ℕ) → has l p ≡ true → g l ≡ true) → leads (crossing net f) s p ≡ Some t → leads (crossing net g) s p ≡ Some t
  kept_arrives [] s t usable e = e
  kept_arrives (x ∷ q) s t usable e =
      let (w, k, r) = there (crossing net f s x) (λ w. leads (crossing net f) w q) t e in
      leads_cons (crossing net g) s x w q (crossing_kept s x w (usable x (has_head x x q refl)) k) ∙ kept_arrives q w t (λ l h. usable l (has_tail l x q h)) r

  kept_touched : (p : List ℕ) (s t : ℕ) → ((l : ℕ) → has l p ≡ true → g l ≡ true) → leads (crossing net f) s p ≡ Some t → touched (crossing net g) s p ≡ touched (crossing net f) s p
  kept_touched [] s t usable e = refl
  kept_touched (x ∷ q) s t usable e =
      let (w, k, r) = there (crossing net f s x) (λ w. leads (crossing net f) w q) t e in
      touched_cons (crossing net g) s x w q (crossing_kept s x w (usable x (has_head x x q refl)) k)
      ∙ ap (λ vs. s ∷ vs) (kept_touched q w t (λ l h. usable l (has_tail l x q h)) r)
      ∙ sym (touched_cons (crossing net f) s x w q k)

  -- a path stays a path where each of its links may still be used
  pub path_kept : (limit s t : ℕ) (p : List ℕ) → ((l : ℕ) → has l p ≡ true → g l ≡ true) → Allowed (crossing net f) limit s t p → Allowed (crossing net g) limit s t p
  path_kept limit s t p usable a = record {
    some = a.some;
    few = a.few;
    arrives = kept_arrives p s t usable a.arrives;
    once = ap no_twice (kept_touched p s t usable a.arrives) ∙ a.once;
  }

-- a path is a path over all links
pub path_every : (net : Network) (free : ℕ → Bool) (limit s t : ℕ) (p : List ℕ) → is_path (crossing net free) limit s t p ≡ true → is_path (crossing net every_link) limit s t p ≡ true
path_every net free limit s t p e = path_from _ limit s t p (path_kept net free every_link limit s t p (λ l h. refl) (path_parts _ limit s t p e))
