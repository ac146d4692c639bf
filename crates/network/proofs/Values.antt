-- The chosen path is the value that the definition names, and there is one.
use Rattle.std.proofs.Common.{◌≡◌, ℕ, zero, suc, ◌<◌, Bool, true, false, cond, ◌&&◌, eqb, ltb, leb, ◌⊎◌, List, [], ◌∷◌, ◌++◌, map, length, Some, None, filter, Option, sym, refl, ap, ◌∙◌, subst, inl, inr, arith}
use Rattle.std.proofs.lemmas.Bool.{and_parts, and_from, leb-true, le-leb, eqb-true, eqb-false, eq-eqb, ltb-true, lt-ltb, cases_Bool, cond-true, cond-false, both_ways, cases_order}
use Rattle.network.specs.Choice.{each_below, lists, all_lists, dict, before, least_of, chosen, Dict, Before, Chosen, Rightly}
use Rattle.network.specs.Costs.{Laws}
use Rattle.network.specs.Paths.{when_there, Ground, leads, touched, no_twice, total, Allowed, is_path}
use Rattle.network.proofs.Choosing.{clash, some_same, passes, there}
use Rattle.network.proofs.Tables.{Near}

abbrev In : {X : Type 0} → X → List X → Type 0
In x [] = ⊥
In x (y ∷ ys) = (x ≡ y) ⊎ In x ys

in_left : {X : Type 0} (x : X) (xs ys : List X) → In x xs → In x (xs ++ ys)
in_left x [] ys h = absurd h
in_left x (y ∷ xs) ys (inl e) = inl e
in_left x (y ∷ xs) ys (inr h) = inr (in_left x xs ys h)

in_right : {X : Type 0} (x : X) (xs ys : List X) → In x ys → In x (xs ++ ys)
in_right x [] ys h = h
in_right x (y ∷ xs) ys h = inr (in_right x xs ys h)

in_each : {X : Type 0} (x : X) (f : ℕ → List X) (n i : ℕ) → i < n → In x (f i) → In x (each_below f n)
in_each x f zero i l h = absurd (omega arith)
in_each x f (suc n) i l h =
    elim (cases_order i n) [
      | inl e ↦ in_right x (each_below f n) (f n) (subst (λ k. In x (f k)) e h)
      | inr (inl m) ↦ in_left x (each_below f n) (f n) (in_each x f n i m h)
      | inr (inr m) ↦ absurd (omega arith)
    ]

in_map : {X Y : Type 0} (f : X → Y) (x : X) (xs : List X) → In x xs → In (f x) (map f xs)
in_map f x [] h = absurd h
in_map f x (y ∷ xs) (inl e) = inl (ap f e)
in_map f x (y ∷ xs) (inr h) = inr (in_map f x xs h)

in_kept : {X : Type 0} (p : X → Bool) (x : X) (xs : List X) → In x xs → p x ≡ true → In x (filter p xs)
in_kept p x [] h e = absurd h
in_kept p x (y ∷ xs) (inl s) e = rw (sym (ap p s) ∙ e) (inl s)
in_kept p x (y ∷ xs) (inr h) e =
    let r = in_kept p x xs h e in
    elim (cases_Bool (p y)) [ inl b ↦ rw b (inr r) | inr b ↦ rw b r ]

kept_step : {X : Type 0} (p : X → Bool) (x y : X) (rest : List X) (b : Bool) → p y ≡ b → (In x rest → p x ≡ true) → In x (cond b (y ∷ rest) rest) → p x ≡ true
kept_step p x y rest true e ih (inl s) = ap p s ∙ e
kept_step p x y rest true e ih (inr h) = ih h
kept_step p x y rest false e ih h = ih h

kept_in : {X : Type 0} (p : X → Bool) (x : X) (xs : List X) → In x (filter p xs) → p x ≡ true
kept_in p x [] h = absurd h
kept_in p x (y ∷ xs) h = kept_step p x y (filter p xs) (p y) refl (kept_in p x xs) h

least_step : {X : Type 0} (b : X → X → Bool) (x : X) (xs : List X) (y : X) (o : Option X) → least_of b xs ≡ o → ((z : X) → least_of b xs ≡ Some z → In z xs) → when_there o (Some x) (λ z. cond (b x z) (Some x) (Some z)) ≡ Some y → In y (x ∷ xs)
least_step b x xs y None f ih e = inl (sym (some_same x y e))
least_step b x xs y (Some z) f ih e =
    elim (cases_Bool (b x z)) [
      | inl h ↦ inl (sym (some_same x y (sym (cond-true _ _ _ h) ∙ e)))
      | inr h ↦ inr (ih y (f ∙ (sym (cond-false _ _ _ h) ∙ e)))
    ]

least_in : {X : Type 0} (b : X → X → Bool) (xs : List X) (y : X) → least_of b xs ≡ Some y → In y xs
least_in b [] y e = absurd (clash None y refl e)
least_in b (x ∷ xs) y e = least_step b x xs y (least_of b xs) refl (least_in b xs) e

least_head : {X : Type 0} (b : X → X → Bool) (p x : X) (xs : List X) → p ≡ x → (o : Option X) → least_of b xs ≡ o → ((y : X) → In y xs → b p y ≡ true) → when_there o (Some x) (λ y. cond (b x y) (Some x) (Some y)) ≡ Some p
least_head b p x xs s None f all = ap Some (sym s)
least_head b p x xs s (Some y) f all = cond-true _ _ _ (subst (λ z. b z y ≡ true) s (all y (least_in b xs y f))) ∙ ap Some (sym s)

-- what comes before all the others is the least
least_is : {X : Type 0} (b : X → X → Bool) (p : X) (xs : List X) → In p xs → ((x : X) → In x xs → b p x ≡ true) → ((x : X) → In x xs → b x p ≡ true → x ≡ p) → least_of b xs ≡ Some p
least_is b p [] h all one = absurd h
least_is b p (x ∷ xs) (inl s) all one = least_head b p x xs s (least_of b xs) refl (λ y k. all y (inr k))
least_is b p (x ∷ xs) (inr h) all one =
    let r = least_is b p xs h (λ y k. all y (inr k)) (λ y k. one y (inr k)) in
    let last : cond (b x p) (Some x) (Some p) ≡ Some p = elim (cases_Bool (b x p)) [ inl e ↦ cond-true _ _ _ e ∙ ap Some (one x (inl refl) e) | inr e ↦ cond-false _ _ _ e ] in
    ap (λ o. when_there o (Some x) (λ y. cond (b x y) (Some x) (Some y))) r ∙ last

least_none : {X : Type 0} (b : X → X → Bool) (xs : List X) → ((x : X) → In x xs → ⊥) → least_of b xs ≡ None
least_none b [] h = refl
least_none b (x ∷ xs) h = absurd (h x (inl refl))

dict_from : (p q : List ℕ) → Dict p q → dict p q ≡ true
dict_from [] q h = refl
dict_from (x ∷ p) [] h = absurd h
dict_from (x ∷ p) (y ∷ q) h =
    elim (cases_Bool (eqb x y)) [
      | inl e ↦ cond-true _ _ _ e ∙ dict_from p q (h.1 (eqb-true x y e))
      | inr e ↦ cond-false _ _ _ e ∙ lt-ltb x y (omega (arith, h.0, eqb-false x y e))
    ]

dict_to : (p q : List ℕ) → dict p q ≡ true → Dict p q
dict_to [] q e = tt
dict_to (x ∷ p) [] e = absurd (both_ways false refl e)
dict_to (x ∷ p) (y ∷ q) e =
    elim (cases_Bool (eqb x y)) [
      | inl h ↦ (omega (arith, eqb-true x y h), λ s. dict_to p q (sym (cond-true _ _ _ h) ∙ e))
      | inr h ↦ (let l = ltb-true x y (sym (cond-false _ _ _ h) ∙ e) in omega arith, λ s. absurd (eqb-false x y h s))
    ]

dict_same : (p q : List ℕ) → Dict p q → Dict q p → p ≡ q
dict_same [] [] h k = refl
dict_same [] (y ∷ q) h k = absurd k
dict_same (x ∷ p) [] h k = absurd h
dict_same (x ∷ p) (y ∷ q) h k =
    let e : x ≡ y = omega arith in
    let r = dict_same p q (h.1 e) (k.1 (sym e)) in
    cc

module _ {C : Type 0} (g : Ground C) (laws : Laws g.kind) where
  abbrev at_most : C → C → Bool
  at_most = g.kind.at_most

  inner : (p q : List ℕ) → Before g p q → total g p ≡ total g q → cond (eqb (length p) (length q)) (dict p q) (ltb (length p) (length q)) ≡ true
  inner p q h same =
      elim (cases_Bool (eqb (length p) (length q))) [
        | inl l ↦ cond-true _ _ _ l ∙ dict_from p q (h.first same (eqb-true _ _ l))
        | inr l ↦ cond-false _ _ _ l ∙ lt-ltb _ _ (omega (arith, h.short same, eqb-false (length p) (length q) l))
      ]

  before_true : (p q : List ℕ) → Before g p q → before g p q ≡ true
  before_true p q h =
      elim (cases_Bool (at_most (total g q) (total g p))) [
        | inl e ↦ cond-true _ _ _ h.cheap ∙ (cond-true _ _ _ e ∙ inner p q h (laws.antisym _ _ h.cheap e))
        | inr e ↦ cond-true _ _ _ h.cheap ∙ cond-false _ _ _ e
      ]

  before_back : (p q : List ℕ) → Before g p q → before g q p ≡ true → q ≡ p
  before_back p q h e =
      elim (cases_Bool (at_most (total g q) (total g p))) [
        | inl a ↦
            let x : cond (eqb (length q) (length p)) (dict q p) (ltb (length q) (length p)) ≡ true = sym (cond-true _ _ _ h.cheap) ∙ (sym (cond-true _ _ _ a) ∙ e) in
            let same = laws.antisym _ _ h.cheap a in
            elim (cases_Bool (eqb (length q) (length p))) [
              | inl l ↦ dict_same q p (dict_to q p (sym (cond-true _ _ _ l) ∙ x)) (h.first same (sym (eqb-true _ _ l)))
              | inr l ↦ absurd (omega (arith, h.short same, ltb-true (length q) (length p) (sym (cond-false _ _ _ l) ∙ x)))
            ]
        | inr a ↦ absurd (both_ways false refl (sym (cond-false _ _ _ a) ∙ e))
      ]

  before_same : (p q : List ℕ) → Before g p q → Before g q p → p ≡ q
  before_same p q h k =
      let e = laws.antisym _ _ h.cheap k.cheap in
      let l : length p ≡ length q = omega (arith, h.short e, k.short (sym e)) in
      dict_same p q (h.first e l) (k.first (sym e) (sym l))

  one_chosen : (limit s t : ℕ) (p q : List ℕ) → Chosen g limit s t p → Chosen g limit s t q → p ≡ q
  one_chosen limit s t p q a b = before_same p q (a.best q b.path) (b.best p a.path)

  module _ (near : Near g) (limit s t : ℕ) where
    abbrev hop : ℕ → ℕ → Option ℕ
    hop = g.hop

    path_of : (p : List ℕ) → is_path hop limit s t p ≡ true → Allowed hop limit s t p
    path_of p e =
        let (a, b) = and_parts (ltb 0 (length p) && leb (length p) limit) (when_there (leads hop s p) false (λ v. eqb v t) && no_twice (touched hop s p)) e in
        let (c, d) = and_parts (ltb 0 (length p)) (leb (length p) limit) a in
        let (f, g) = and_parts (when_there (leads hop s p) false (λ v. eqb v t)) (no_twice (touched hop s p)) b in
        let (v, h, k) = passes (leads hop s p) (λ v. eqb v t) f in
        record { some = ltb-true 0 (length p) c; few = leb-true (length p) limit d; arrives = h ∙ ap Some (eqb-true v t k); once = g }

    path_to : (p : List ℕ) → Allowed hop limit s t p → is_path hop limit s t p ≡ true
    path_to p w =
        and_from _ _ (and_from _ _ (lt-ltb 0 (length p) w.some) (le-leb (length p) limit w.few))
        (and_from _ _ (ap (λ o. when_there o false (λ v. eqb v t)) w.arrives ∙ eq-eqb t t refl) w.once)

    in_lists : (q : List ℕ) (v : ℕ) → leads hop v q ≡ Some t → In q (lists g.numbers (length q))
    in_lists [] v e = inl refl
    in_lists (i ∷ q) v e =
        let (w, h, k) = there (hop v i) (λ x. leads hop x q) t e in
        in_each (i ∷ q) (λ i. map (λ q. i ∷ q) (lists g.numbers (length q))) g.numbers i (near v i w h) (in_map (λ q. i ∷ q) q (lists g.numbers (length q)) (in_lists q w k))

    in_all : (p : List ℕ) → Allowed hop limit s t p → In p (all_lists g.numbers limit)
    in_all [] w = absurd (omega (arith, w.some))
    in_all (i ∷ q) w = in_each (i ∷ q) (λ k. lists g.numbers (suc k)) limit (length q) w.few (in_lists (i ∷ q) s w.arrives)

    pub chosen_is : (p : List ℕ) → Chosen g limit s t p → chosen g limit s t ≡ Some p
    unfolding chosen
    chosen_is p h =
        least_is (before g) p (filter (is_path hop limit s t) (all_lists g.numbers limit))
        (in_kept (is_path hop limit s t) p (all_lists g.numbers limit) (in_all p h.path) (path_to p h.path))
        (λ x k. before_true p x (h.best x (path_of x (kept_in (is_path hop limit s t) x (all_lists g.numbers limit) k))))
        (λ x k e. before_back p x (h.best x (path_of x (kept_in (is_path hop limit s t) x (all_lists g.numbers limit) k))) e)

    pub chosen_none : ((p : List ℕ) → Allowed hop limit s t p → ⊥) → chosen g limit s t ≡ None
    unfolding chosen
    chosen_none h = least_none (before g) (filter (is_path hop limit s t) (all_lists g.numbers limit)) (λ x k. h x (path_of x (kept_in (is_path hop limit s t) x (all_lists g.numbers limit) k)))

    pub right_some : (p : List ℕ) → Chosen g limit s t p → Rightly g limit s t (chosen g limit s t)
    right_some p h = subst (Rightly g limit s t) (sym (chosen_is p h)) (h, λ q k. one_chosen limit s t q p k h)

    pub right_none : ((p : List ℕ) → Allowed hop limit s t p → ⊥) → Rightly g limit s t (chosen g limit s t)
    right_none h = subst (Rightly g limit s t) (sym (chosen_none h)) h
