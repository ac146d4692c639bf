-- No number stands twice in a book.
use Rattle.std.proofs.Common.{◌≡◌, ℕ, zero, suc, true, false, eqb, List, [], ◌∷◌, ◌++◌, map, get_or, set, sym, refl, ap, ◌∙◌, ⊎_elim}
use lib.Seq.{map-set_same}
use Rattle.std.specs.List.{remove}
use Rattle.std.proofs.lemmas.List.{map_push}
use Rattle.std.proofs.lemmas.Bool.{cases_Bool, eq-eqb, ne_eqb, both_ways, or_parts}
use Rattle.network.specs.Paths.{has, no_twice}
use Rattle.ways.proofs.Routes.{no_twice_from, no_twice_parts}
use Rattle.orders.specs.Book.{stands, numbers}
use Rattle.orders.specs.Standing.{all_stood}
use Rattle.orders.specs.declared.row.Row.{Row}
use Rattle.orders.proofs.Rows.{removed_map}

-- a number that is not in the list but for its last place
has_push : (x y : ℕ) (xs : List ℕ) → has x xs ≡ false → eqb x y ≡ false → has x (xs ++ (y ∷ [])) ≡ false
has_push x y [] h e = rw e
has_push x y (z ∷ zs) h e = ⊎_elim
    (λ (b : eqb x z ≡ true). absurd (both_ways true (rw b at h) refl))
    (λ (b : eqb x z ≡ false). rw b (has_push x y zs (rw b at h) e))
    (cases_Bool (eqb x z))

not_head : (x y : ℕ) (xs : List ℕ) → has x (y ∷ xs) ≡ false → (eqb x y ≡ false) × (has x xs ≡ false)
not_head x y xs h = ⊎_elim
    (λ (b : eqb x y ≡ true). absurd (both_ways true (rw b at h) refl))
    (λ (b : eqb x y ≡ false). (b, rw b at h))
    (cases_Bool (eqb x y))

turned : (x y : ℕ) → eqb x y ≡ false → eqb y x ≡ false
turned x y e = ne_eqb y x (λ q. both_ways (eqb x y) e (eq-eqb x y (sym q)))

no_twice_push : (y : ℕ) (xs : List ℕ) → no_twice xs ≡ true → has y xs ≡ false → no_twice (xs ++ (y ∷ [])) ≡ true
no_twice_push y [] h n = refl
no_twice_push y (x ∷ xs) h n =
    let p = no_twice_parts x xs h in
    let q = not_head y x xs n in
    no_twice_from x (xs ++ (y ∷ [])) (has_push x y xs p.0 (turned y x q.0)) (no_twice_push y xs p.1 q.1)

has_removed : (x : ℕ) (xs : List ℕ) (i : ℕ) → has x xs ≡ false → has x (remove xs i) ≡ false
has_removed x [] zero h = refl
has_removed x [] (suc i) h = refl
has_removed x (y ∷ ys) zero h = (not_head x y ys h).1
has_removed x (y ∷ ys) (suc i) h = let q = not_head x y ys h in rw q.0 (has_removed x ys i q.1)

no_twice_removed : (xs : List ℕ) (i : ℕ) → no_twice xs ≡ true → no_twice (remove xs i) ≡ true
no_twice_removed [] zero h = refl
no_twice_removed [] (suc i) h = refl
no_twice_removed (x ∷ xs) zero h = (no_twice_parts x xs h).1
no_twice_removed (x ∷ xs) (suc i) h = let p = no_twice_parts x xs h in no_twice_from x (remove xs i) (has_removed x xs i p.0) (no_twice_removed xs i p.1)

-- a number stands where it is one of the rows' numbers
stands_has : (n : ℕ) (rows : List Row) → stands n (all_stood rows) ≡ false → has n (numbers rows) ≡ false
unfolding stands
stands_has n [] h = refl
stands_has n (r ∷ rs) h = let p = or_parts (eqb r.order.number n) (stands n (all_stood rs)) h in rw (turned r.order.number n p.0) (stands_has n rs p.1)

pub apart_push : (rows new : List Row) (r : Row) → no_twice (numbers rows) ≡ true → stands r.order.number (all_stood rows) ≡ false → new ≡ rows ++ (r ∷ []) → no_twice (numbers new) ≡ true
apart_push rows new r h n e = ap (λ xs. no_twice (numbers xs)) e ∙ ap no_twice (map_push (λ (x : Row). x.order.number) rows r) ∙ no_twice_push r.order.number (numbers rows) h (stands_has r.order.number rows n)

pub apart_removed : (rows new : List Row) (i : ℕ) → no_twice (numbers rows) ≡ true → new ≡ remove rows i → no_twice (numbers new) ≡ true
apart_removed rows new i h e = ap (λ xs. no_twice (numbers xs)) e ∙ ap no_twice (removed_map (λ (x : Row). x.order.number) rows i) ∙ no_twice_removed (numbers rows) i h

pub apart_set : (rows : List Row) (i : ℕ) (old new : Row) → no_twice (numbers rows) ≡ true → old ≡ get_or rows i old → new.order.number ≡ old.order.number → no_twice (numbers (set rows i new)) ≡ true
apart_set rows i old new h e same = ap no_twice (map-set_same (λ (x : Row). x.order.number) rows i new old (same ∙ ap (λ (x : Row). x.order.number) e)) ∙ h

-- the same of the orders as the rules speak of them
same_numbers : (rows : List Row) → map (λ e. e.order.number) (all_stood rows) ≡ numbers rows
same_numbers [] = refl
same_numbers (r ∷ rs) = ap (λ ns. r.order.number ∷ ns) (same_numbers rs)

pub stood_apart : (rows : List Row) → no_twice (numbers rows) ≡ true → no_twice (map (λ e. e.order.number) (all_stood rows)) ≡ true
stood_apart rows h = ap no_twice (same_numbers rows) ∙ h
