-- Options, and the least and the first of what numbers below n give.
use Rattle.std.proofs.Common.{◌≡◌, ℕ, zero, suc, ◌+◌, ◌<◌, ◌≤◌, Bool, true, false, cond, ◌⊎◌, Some, None, Option, sym, refl, ap, ◌∙◌, inl, inr, arith, below_more}
use Rattle.std.specs.List.{find, range_with_len}
use Rattle.std.specs.Option.{unwrap_or}
use Rattle.std.proofs.lemmas.Bool.{cases_Bool, cond-true, cond-false, both_ways, cases_order, cases_lt}
use Rattle.network.specs.Costs.{Kind, Laws}
use Rattle.network.specs.Method.{better, least_below, first_below}
use Rattle.network.specs.Paths.{when_there}

pub clash : {X : Type 0} (o : Option X) (x : X) → o ≡ None → o ≡ Some x → ⊥
clash o x e f = let z : ◌≡◌ {A = ℕ} 0 1 = cc in omega arith

pub some_same : {X : Type 0} (x y : X) → Some x ≡ Some y → x ≡ y
some_same x y e = cc

pub passes : {X : Type 0} (o : Option X) (f : X → Bool) → when_there o false f ≡ true → (x : X) × (o ≡ Some x) × (f x ≡ true)
passes None f e = absurd (both_ways false refl e)
passes (Some x) f e = (x, refl, e)

pub there : {X Y : Type 0} (o : Option X) (f : X → Option Y) (y : Y) → when_there o None f ≡ Some y → (x : X) × (o ≡ Some x) × (f x ≡ Some y)
there None f y e = absurd (clash None y refl e)
there (Some x) f y e = (x, refl, e)

pub or_there : {X : Type 0} (o : Option X) (d : X) → unwrap_or o d ≡ when_there o d (λ x. x)
or_there None d = refl
or_there (Some x) d = refl

-- ---- the least

module _ {C : Type 0} {k : Kind C} (laws : Laws k) where
  abbrev at_most : C → C → Bool
  at_most = k.at_most

  pub itself : (x : C) → at_most x x ≡ true
  itself x = elim (cases_Bool (at_most x x)) [ inl e ↦ e | inr e ↦ laws.total x x e ]

  better_left : (x : C) (o : Option C) → (y : C) × (better at_most (Some x) o ≡ Some y) × (at_most y x ≡ true)
  better_left x None = (x, refl, itself x)
  better_left x (Some z) =
      elim (cases_Bool (at_most x z)) [
        | inl e ↦ (x, cond-true _ _ _ e, itself x)
        | inr e ↦ (z, cond-false _ _ _ e, laws.total x z e)
      ]

  better_right : (o : Option C) (x : C) → (y : C) × (better at_most o (Some x) ≡ Some y) × (at_most y x ≡ true)
  better_right None x = (x, refl, itself x)
  better_right (Some z) x =
      elim (cases_Bool (at_most z x)) [
        | inl e ↦ (z, cond-true _ _ _ e, e)
        | inr e ↦ (x, cond-false _ _ _ e, itself x)
      ]

  better_one : (o p : Option C) (y : C) → better at_most o p ≡ Some y → (o ≡ Some y) ⊎ (p ≡ Some y)
  better_one None p y e = inr e
  better_one (Some x) None y e = inl e
  better_one (Some x) (Some z) y e =
      elim (cases_Bool (at_most x z)) [
        | inl h ↦ inl (sym (cond-true _ _ _ h) ∙ e)
        | inr h ↦ inr (sym (cond-false _ _ _ h) ∙ e)
      ]

  -- the least is at most each
  pub least_low : (f : ℕ → Option C) (n i : ℕ) (x : C) → i < n → f i ≡ Some x → (y : C) × (least_below at_most f n ≡ Some y) × (at_most y x ≡ true)
  least_low f zero i x h e = absurd (omega arith)
  least_low f (suc n) i x h e =
      elim (cases_order i n) [
        | inl j ↦ rw (sym (ap f j) ∙ e) (better_right (least_below at_most f n) x)
        | inr (inl j) ↦
            let (y, r, l) = least_low f n i x j e in
            let (z, s, m) = better_left y (f n) in
            (z, ap (λ o. better at_most o (f n)) r ∙ s, laws.trans z y x m l)
        | inr (inr j) ↦ absurd (omega arith)
      ]

  -- and is one of them
  pub least_hit : (f : ℕ → Option C) (n : ℕ) (y : C) → least_below at_most f n ≡ Some y → (i : ℕ) × (i < n) × (f i ≡ Some y)
  least_hit f zero y e = absurd (clash None y refl e)
  least_hit f (suc n) y e =
      elim (better_one (least_below at_most f n) (f n) y e) [
        | inl h ↦ let (i, l, j) = least_hit f n y h in (i, omega arith, j)
        | inr h ↦ (n, omega arith, h)
      ]

pub least_same : {C : Type 0} (at_most : C → C → Bool) (f g : ℕ → Option C) (n : ℕ) → ((i : ℕ) → f i ≡ g i) → least_below at_most f n ≡ least_below at_most g n
least_same at_most f g zero h = refl
least_same at_most f g (suc n) h = ap (λ x. better at_most x (f n)) (least_same at_most f g n h) ∙ ap (better at_most (least_below at_most g n)) (h n)

pub better_none : {C : Type 0} (at_most : C → C → Bool) (o : Option C) → better at_most o None ≡ o
better_none at_most None = refl
better_none at_most (Some x) = refl

-- ---- the first

pick : (p : ℕ → Bool) (n : ℕ) (o : Option ℕ) (k : ℕ) → when_there o (cond (p n) (Some n) None) (λ k. Some k) ≡ Some k → (o ≡ Some k) ⊎ ((k ≡ n) × (p n ≡ true))
pick p n None k e =
    elim (cases_Bool (p n)) [
      | inl h ↦ inr (sym (some_same n k (sym (cond-true _ _ _ h) ∙ e)), h)
      | inr h ↦ absurd (clash None k refl (sym (cond-false _ (Some n) None h) ∙ e))
    ]
pick p n (Some j) k e = inl e

pub first_good : (p : ℕ → Bool) (n k : ℕ) → first_below p n ≡ Some k → (k < n) × (p k ≡ true)
first_good p zero k e = absurd (clash None k refl e)
first_good p (suc n) k e =
    elim (pick p n (first_below p n) k e) [
      | inl h ↦ let (l, g) = first_good p n k h in (omega arith, g)
      | inr h ↦ (omega (arith, h.0), ap p h.0 ∙ h.1)
    ]

last_one : (p : ℕ → Bool) (n : ℕ) (o : Option ℕ) → first_below p n ≡ o → p n ≡ true → (k : ℕ) × (when_there o (cond (p n) (Some n) None) (λ k. Some k) ≡ Some k) × (k ≤ n)
last_one p n None e g = (n, cond-true _ _ _ g, omega arith)
last_one p n (Some k) e g = (k, refl, omega (arith, (first_good p n k e).0))

pub first_le : (p : ℕ → Bool) (n i : ℕ) → i < n → p i ≡ true → (k : ℕ) × (first_below p n ≡ Some k) × (k ≤ i)
first_le p zero i h g = absurd (omega arith)
first_le p (suc n) i h g =
    elim (cases_order i n) [
      | inl e ↦ let (k, a, l) = last_one p n (first_below p n) refl (sym (ap p e) ∙ g) in (k, a, omega arith)
      | inr (inl l) ↦ let (k, a, m) = first_le p n i l g in (k, ap (λ o. when_there o (cond (p n) (Some n) None) (λ k. Some k)) a, m)
      | inr (inr l) ↦ absurd (omega arith)
    ]

pub first_same : (p q : ℕ → Bool) (n : ℕ) → ((i : ℕ) → p i ≡ q i) → first_below p n ≡ first_below q n
first_same p q zero h = refl
first_same p q (suc n) h = ap (λ o. when_there o (cond (p n) (Some n) None) (λ k. Some k)) (first_same p q n h) ∙ ap (λ b. when_there (first_below q n) (cond b (Some n) None) (λ k. Some k)) (h n)

none_below : (p : ℕ → Bool) (n : ℕ) (o : Option ℕ) → first_below p n ≡ o → ((k : ℕ) → k < n → p k ≡ false) → o ≡ None
none_below p n None e h = refl
none_below p n (Some k) e h = let (l, g) = first_good p n k e in absurd (both_ways (p k) (h k l) g)

-- what is found from a on is the first below the end, where none below a passes
found : (p : ℕ → Bool) (n a : ℕ) → ((k : ℕ) → k < a → p k ≡ false) → find p (range_with_len a n) ≡ first_below p (n + a)
found p zero a h = sym (none_below p (0 + a) _ refl (λ k l. h k (omega arith)))
found p (suc n) a h =
    elim (cases_Bool (p a)) [
      | inl e ↦
          let (k, b, l) = first_le p (suc n + a) a (omega arith) e in
          let low : a ≤ k = elim (cases_lt k a) [ inl m ↦ absurd (both_ways (p k) (h k m) (first_good p (suc n + a) k b).1) | inr m ↦ m ] in
          let same : a ≡ k = omega arith in
          cond-true _ _ _ e ∙ ap Some same ∙ sym b
      | inr e ↦ (let same : n + (a + 1) ≡ suc n + a = omega arith in cond-false _ _ _ e ∙ found p n (a + 1) (below_more _ _ h e) ∙ ap (first_below p) same)
    ]

-- 0 is the number of no link
pub found_first : (p : ℕ → Bool) (n : ℕ) → p 0 ≡ false → find p (range_with_len 1 n) ≡ first_below p (suc n)
found_first p n z = let same : n + 1 ≡ suc n = omega arith in found p n 1 (λ k l. let e : k ≡ 0 = omega arith in ap p e ∙ z) ∙ ap (first_below p) same
