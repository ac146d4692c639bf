-- The calendar's tests, sums and least numbers by index, as the chains over a list of std give them.
use Rattle.std.proofs.Common.{◌≡◌, ℕ, zero, suc, ◌+◌, ◌-◌, ◌≤◌, min, Bool, false, cond, eqb, List, [], ◌∷◌, length, get_or, sum_by, count_by, sym, refl, ◌∙◌, ⊎_elim, arith}
use Rattle.std.specs.List.{list_any, fold}
use Rattle.std.proofs.lemmas.Bool.{cases_eq, eq-eqb, ne_eqb}
use Rattle.std.proofs.lemmas.List.Recursion.{or_is, is_sum_by, is_count_by}
use Rattle.calendar.specs.Week.{any, total, least}
use Rattle.calendar.specs.Rows.{no_run, used}
use Rattle.calendar.specs.declared.run.Run.{Run}
use Rattle.calendar.proofs.Sums.{any_elim, any_none, total_most}
use Rattle.calendar.proofs.Leasts.{least_law, least_none, least_or, least_cong}

pub any_list : {X : Type 0} (p : X → Bool) (xs : List X) (d : X) → any (length xs) (λ i. p (get_or xs i d)) ≡ list_any p xs
any_list p xs d =
    let t : ℕ → Bool = λ i. p (get_or xs i d) in
    or_is (list_any p) p refl (λ _ _. refl) xs d (any (length xs) t) (any_elim (length xs) t) (any_none (length xs) t)

total_front : (n : ℕ) (f : ℕ → ℕ) → total (suc n) f ≡ f 0 + total n (λ i. f (suc i))
unfolding total
total_front zero f = refl
total_front (suc n) f = omega (arith, total_front n f)

pub total_list : {X : Type 0} (f : X → ℕ) (xs : List X) (d : X) → total (length xs) (λ i. f (get_or xs i d)) ≡ sum_by f xs
unfolding total
total_list f xs d = is_sum_by (λ ys. total (length ys) (λ i. f (get_or ys i d))) f refl (λ y ys. total_front (length ys) (λ i. f (get_or (y ∷ ys) i d))) xs

module _ {X : Type 0} (n : ℕ) (g : X → ℕ) (p : X → ℕ → Bool) (each : (x : X) → g x ≡ least n (p x)) where
  fold_least : (xs : List X) (a : ℕ) → a ≤ n → fold (λ b x. min (g x) b) a xs ≡ min a (least n (λ j. list_any (λ x. p x j) xs))
  fold_least [] a h = omega (arith, least_none n (λ _. false) (λ _ _. refl))
  fold_least (x ∷ xs) a h =
      fold_least xs (min (g x) a) (omega arith)
      ∙ (let z = least_or n (p x) (λ j. list_any (λ y. p y j) xs) in omega (arith, each x, z))

  pub least_list : (xs : List X) (d : X) → fold (λ b x. min (g x) b) n xs ≡ least n (λ j. any (length xs) (λ i. p (get_or xs i d) j))
  least_list xs d =
      let q : ℕ → Bool = λ j. list_any (λ x. p x j) xs in
      let z = least_cong n (λ j. any (length xs) (λ i. p (get_or xs i d) j)) q (λ j _. any_list (λ x. p x j) xs d) in
      omega (arith, fold_least xs n (omega arith), z, (least_law n q).most)

-- the rows that are empty, and those in use
pub spare_list : (rows : List Run) → count_by (λ r. eqb r.hours 0) rows ≡ length rows - used rows
unfolding used total
spare_list rows = sym (is_count_by (λ rs. length rs - used rs) (λ r. eqb r.hours 0) refl step rows) where
  step : (r : Run) (rs : List Run) → length (r ∷ rs) - used (r ∷ rs) ≡ cond (eqb r.hours 0) (1 + (length rs - used rs)) (length rs - used rs)
  step r rs =
      let front = total_front (length rs) (λ i. min 1 (get_or (r ∷ rs) i no_run).hours) in
      let most = total_most (length rs) (λ i. min 1 (get_or rs i no_run).hours) (λ k. omega arith) in
      ⊎_elim
      (λ (e : r.hours ≡ 0). rw (eq-eqb r.hours 0 e) (omega (arith, front, most, e)))
      (λ e. rw (ne_eqb r.hours 0 e) (omega (arith, front, most, e)))
      (cases_eq r.hours 0)
