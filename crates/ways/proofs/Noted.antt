-- A table of answers, written one at a time.
use Rattle.std.proofs.Common.{◌≡◌, ℕ, ◌+◌, ◌*◌, ◌<◌, ◌≤◌, Bool, false, ◌≢◌, List, length, set, sym, refl, subst, ◌∙◌, ⊎_elim, arith, get_or-set_other, get_or-set_same}
use Rattle.std.proofs.lemmas.Bool.{cases_eq}
use Rattle.ways.specs.Hours.{cell_at, LinkTold, Told}

-- the answer stands at its own place, and all others as they were
noted_here : (xs : List Bool) (l c : ℕ) (b : Bool) → length xs ≡ 697 → l ≤ 40 → c ≤ 16 → cell_at (set xs (l * 17 + c) b) l c ≡ b
noted_here xs l c b n p q = get_or-set_same xs (l * 17 + c) b false (omega (arith, n, p, q))

noted_there : (xs : List Bool) (l c k d : ℕ) (b : Bool) → c < 17 → d < 17 → (k ≡ l → d ≡ c → ⊥) → cell_at (set xs (l * 17 + c) b) k d ≡ cell_at xs k d
noted_there xs l c k d b p q ne =
    let apart : k * 17 + d ≢ l * 17 + c = λ e. ne (omega (arith, e, p, q)) (omega (arith, e, p, q)) in
    get_or-set_other xs (l * 17 + c) (k * 17 + d) b false apart

module _ (P : ℕ → ℕ → Bool → Type 0) where
  pub link_none : (xs : List Bool) (l : ℕ) → LinkTold P xs xs l 1
  link_none xs l = record { told = λ c a b. absurd (omega (arith, a, b)); kept = λ k c _ _. refl }

  pub link_more : (start xs : List Bool) (l c : ℕ) (b : Bool) → length xs ≡ 697 → l ≤ 40 → c ≤ 16 → LinkTold P start xs l c → P l c b → LinkTold P start (set xs (l * 17 + c) b) l (c + 1)
  link_more start xs l c b n p q r e = record {
    told = λ d a t. ⊎_elim
        (λ (y : d ≡ c). subst (λ v. P l v (cell_at (set xs (l * 17 + c) b) l v)) (sym y) (subst (P l c) (sym (noted_here xs l c b n p q)) e))
        (λ (y : d ≡ c → ⊥). subst (P l d) (sym (noted_there xs l c l d b (omega (arith, q)) (omega (arith, t, q)) (λ _ w. y w))) (r.told d a (omega (arith, t, y))))
        (cases_eq d c);
    kept = λ k d ne t. noted_there xs l c k d b (omega (arith, q)) t (λ w _. ne w) ∙ r.kept k d ne t;
  }

  pub links_more : (xs ys : List Bool) (l n : ℕ) → n ≤ 17 → Told P xs l n → LinkTold P xs ys l n → Told P ys (l + 1) n
  links_more xs ys l n h a r k c p q lo hi =
      ⊎_elim
      (λ (e : k ≡ l). subst (λ v. P v c (cell_at ys v c)) (sym e) (r.told c lo hi))
      (λ (e : k ≡ l → ⊥). subst (P k c) (sym (r.kept k c e (omega (arith, hi, h)))) (a k c p (omega (arith, q, e)) lo hi))
      (cases_eq k l)
