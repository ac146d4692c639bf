-- The first cell that is not free.
use Rattle.std.proofs.Common.{◌≡◌, ℕ, zero, suc, ◌+◌, ◌<◌, ◌≤◌, Bool, true, false, cond, not, ◌&&◌, ◌||◌, length, is_some, Some, None, Option, sym, refl, ap, ◌∙◌, ⊎_elim, add-one, arith}
use mathlib.Core.Path.{fun_ext}
use Rattle.std.proofs.lemmas.Bool.{cases_eq}
use Rattle.calendar.specs.Week.{any, later}
use Rattle.calendar.specs.Meaning.{Meaning, is_held, taken}
use Rattle.network.specs.Paths.{when_there}
use Rattle.orders.specs.Runs.{link_of, cell_fault, first_below, run_fault, link_fault, first_fault, own_cells}
use Rattle.orders.specs.Standing.{Standing}
use Rattle.orders.specs.declared.refusal.Refusal.{Refusal}
use Rattle.orders.specs.declared.refusal.Refusal.TheVariants.{CellClosed, CellHeld}
use Rattle.orders.proofs.Tied.{blocked, taken_but}

some_or : (a b : Option Refusal) → is_some (when_there a b (λ x. Some x)) ≡ (is_some b || is_some a)
some_or None None = refl
some_or None (Some y) = refl
some_or (Some x) None = refl
some_or (Some x) (Some y) = refl

some_below : (t : ℕ → Option Refusal) (n : ℕ) → is_some (first_below t n) ≡ any n (λ k. is_some (t k))
unfolding first_below any
some_below t zero = refl
some_below t (suc n) = some_or (first_below t n) (t n) ∙ ap (λ x. is_some (t n) || x) (some_below t n)

module _ (m : Meaning) (own : ℕ → ℕ → ℕ → Bool) where
  some_cell : (l c h : ℕ) → is_some (cell_fault m own l c h) ≡ taken_but m own l c h
  some_cell l c h = either (m.closed l c h) (is_held m l c h && not (own l c h)) (CellClosed (record { link = l; channel = c; hour = h })) (CellHeld (record { link = l; channel = c; hour = h }))
    where
      either : (a b : Bool) (x y : Refusal) → is_some (cond a (Some x) (cond b (Some y) None)) ≡ (a || b)
      either true b x y = refl
      either false true x y = refl
      either false false x y = refl

  -- a fault is found where some cell is not free
  pub some_fault : (e : Standing) → is_some (first_fault m own e) ≡ blocked (taken_but m own) e
  unfolding blocked
  some_fault e =
      some_below (λ i. link_fault m own e i e.order.width) (length e.path)
      ∙ ap (any (length e.path)) (fun_ext (λ i. some_below (λ w. run_fault m own e (link_of e i) (e.channel + w) e.order.hours) e.order.width
      ∙ ap (any e.order.width) (fun_ext (λ w. some_below (λ j. cell_fault m own (link_of e i) (e.channel + w) (later e.order.first j)) e.order.hours
      ∙ ap (any e.order.hours) (fun_ext (λ j. some_cell (link_of e i) (e.channel + w) (later e.order.first j)))))))

and_not_false : (b : Bool) → (b && not false) ≡ b
and_not_false true = refl
and_not_false false = refl

-- where no cell is the order's own
pub taken_all : (m : Meaning) → taken_but m (own_cells None) ≡ taken m
taken_all m = fun_ext (λ l. fun_ext (λ c. fun_ext (λ h. ap (λ x. m.closed l c h || x) (and_not_false (is_held m l c h)))))

-- turns of a loop that looks for the first
pub first_empty : (t : ℕ → Option Refusal) → first_below t 0 ≡ None
unfolding first_below
first_empty t = refl

pub first_next : (t : ℕ → Option Refusal) (i : ℕ) → first_below t i ≡ None → None ≡ t i → first_below t (i + 1) ≡ None
unfolding first_below
first_next t i h e = rw (add-one, h) (sym e)

pub first_found : (t : ℕ → Option Refusal) (n i : ℕ) (x : Refusal) → i < n → first_below t i ≡ None → Some x ≡ t i → Some x ≡ first_below t n
unfolding first_below
first_found t zero i x l h e = absurd (omega arith)
first_found t (suc n) i x l h e = ⊎_elim
    (λ (q : i ≡ n). rw (ap (first_below t) (sym q) ∙ h) (e ∙ ap t q))
    (λ q. rw (sym (first_found t n i x (omega (arith, q)) h e)) refl)
    (cases_eq i n)

pub first_done : (t : ℕ → Option Refusal) (n i : ℕ) → first_below t i ≡ None → i ≤ n → n ≤ i → None ≡ first_below t n
first_done t n i h a b = let q : i ≡ n = omega arith in sym (rw q at h)
