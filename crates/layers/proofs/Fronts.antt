-- A test and a least number over the first places of an array, as a chain over its front gives them.
use Rattle.std.proofs.Common.{◌≡◌, ℕ, ◌≤◌, min, Bool, List, length, get_or, take, sym, ap, ◌∙◌}
use Rattle.std.proofs.lemmas.List.{get_or-take, length-take-le}
use Rattle.std.specs.List.{list_any, fold}
use Rattle.calendar.specs.Week.{any, least}
use Rattle.calendar.proofs.Sums.{any_cong}
use Rattle.calendar.proofs.Leasts.{least_cong}
use Rattle.plant.proofs.Lists.{any_list, least_list}

module _ {X : Type 0} (xs : List X) (k : ℕ) (d : X) (h : k ≤ length xs) where
  any_short : (p : X → Bool) → any (length (take k xs)) (λ i. p (get_or (take k xs) i d)) ≡ any k (λ i. p (get_or xs i d))
  any_short p =
      ap (λ n. any n (λ i. p (get_or (take k xs) i d))) (length-take-le k xs h)
      ∙ any_cong k (λ i. p (get_or (take k xs) i d)) (λ i. p (get_or xs i d)) (λ i l. ap p (get_or-take k xs i d l))

  pub any_front : (p : X → Bool) → list_any p (take k xs) ≡ any k (λ i. p (get_or xs i d))
  any_front p = sym (any_list p (take k xs) d) ∙ any_short p

  pub least_front : (n : ℕ) (g : X → ℕ) (p : X → ℕ → Bool) → ((x : X) → g x ≡ least n (p x)) → fold (λ b x. min (g x) b) n (take k xs) ≡ least n (λ j. any k (λ i. p (get_or xs i d) j))
  least_front n g p each = least_list n g p each (take k xs) d ∙ least_cong n _ (λ j. any k (λ i. p (get_or xs i d) j)) (λ j _. any_short (λ x. p x j))
