-- Turns of the loops over an order's runs.
use Rattle.std.proofs.Common.{◌≡◌, ℕ, ◌+◌, refl, ap, ◌∙◌, add-one}
use Rattle.calendar.specs.Meaning.{Meaning}
use Rattle.calendar.specs.declared.run.Run.{Run}
use Rattle.orders.specs.Runs.{run_of, link_of, on_link, on_links}
use Rattle.orders.specs.Standing.{Standing}

module _ (f : Meaning → Run → Meaning) (m : Meaning) (e : Standing) where
  pub link_none : (i : ℕ) → m ≡ on_link f m e i 0
  unfolding on_link
  link_none i = refl

  pub link_more : (i w l : ℕ) (k n : Meaning) (r : Run) → k ≡ on_link f m e i w → l ≡ link_of e i → r ≡ run_of e l (e.channel + w) → n ≡ f k r → n ≡ on_link f m e i (w + 1)
  unfolding on_link
  link_more i w l k n r a x b c = rw add-one (c ∙ ap (λ y. f y r) a ∙ ap (f (on_link f m e i w)) (b ∙ ap (λ y. run_of e y (e.channel + w)) x))

  pub links_none : m ≡ on_links f m e 0
  unfolding on_links
  links_none = refl

  pub links_more : (i : ℕ) (k n : Meaning) → k ≡ on_links f m e i → n ≡ on_link f k e i e.order.width → n ≡ on_links f m e (i + 1)
  unfolding on_links
  links_more i k n a c = rw add-one (c ∙ ap (λ x. on_link f x e i e.order.width) a)
