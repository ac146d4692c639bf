-- Rows of the book as standing orders.
use Rattle.std.proofs.Common.{◌≡◌, ℕ, suc, ◌<◌, ◌==◌, List, [], ◌∷◌, ◌++◌, map, length, get_or, take, drop, set, sym, refl, ap, ◌∙◌, arith}
use Rattle.std.proofs.lemmas.Bool.Decides.{nat_tests}
use lib.Seq.{map-set}
use Rattle.std.specs.List.{remove, list_any}
use Rattle.std.proofs.lemmas.List.{length-map, map-append, take-map, drop-map, get_or-map}
use Rattle.network.specs.Paths.{has}
use Rattle.orders.specs.Book.{nobody, at_hour}
use Rattle.orders.specs.Standing.{stood, all_stood}
use Rattle.orders.specs.declared.row.Row.{Row}

-- a number stands in a list where one of its numbers is that one
pub has_listed : (l : ℕ) (xs : List ℕ) → list_any (λ y. y == l) xs ≡ has l xs
has_listed l [] = refl
has_listed l (x ∷ xs) = grind (arith, nat_tests, has_listed l xs)

pub stood_length : (rows : List Row) → length (all_stood rows) ≡ length rows
stood_length rows = length-map rows stood

pub removed_map : {X Y : Type 0} (f : X → Y) (xs : List X) (i : ℕ) → map f (remove xs i) ≡ remove (map f xs) i
removed_map f xs i =
    map-append f (take i xs) (drop (suc i) xs)
    ∙ ap (λ ys. ys ++ map f (drop (suc i) xs)) (sym (take-map f i xs))
    ∙ ap (λ ys. take i (map f xs) ++ ys) (sym (drop-map f (suc i) xs))

pub row_at : (rows : List Row) (i : ℕ) (r : Row) → i < length rows → r ≡ get_or rows i r → get_or (all_stood rows) i nobody ≡ stood r
row_at rows i r l e = get_or-map stood rows i r nobody l ∙ ap stood (sym e)

pub hour_set : (rows : List Row) (i f : ℕ) (old new : Row) → i < length rows → old ≡ get_or rows i old → stood new ≡ at_hour f (stood old) → all_stood (set rows i new) ≡ set (all_stood rows) i (at_hour f (get_or (all_stood rows) i nobody))
hour_set rows i f old new l e same = map-set stood rows i new ∙ ap (set (all_stood rows) i) (same ∙ ap (at_hour f) (sym (row_at rows i old l e)))
