-- A path's links in eight places, with zeros after the last.
--
--   numbers p          the link numbers of a path
--   Formed p           it has eight places, of which at most eight are in use, with zeros after the last
--   eight_places xs    the numbers xs in eight places
--   padded xs          the path of the numbers xs
use Rattle.std.specs.Prelude.{◌≡◌, ℕ, zero, suc, ◌+◌, ◌-◌, ◌≤◌, List, [], ◌∷◌, ◌++◌, length, take, replicate, slice_index}
use Rattle.std.proofs.Common.{refl, ap, ◌∙◌, arith, length-take}
use Rattle.network.specs.declared.path.Path.TheInside.{Inside}

abbrev pub numbers : Inside → List ℕ
numbers p = take p.count p.links

pub record Formed (p : Inside) : Type 0 where
  pub few : p.count ≤ 8
  pub eight : length p.links ≡ 8
  pub zeros : (i : ℕ) → p.count ≤ i → slice_index p.links i ≡ 0

abbrev pub eight_places : List ℕ → List ℕ
eight_places xs = xs ++ replicate (8 - length xs) 0

abbrev pub padded : List ℕ → Inside
padded xs = record { links = eight_places xs; count = length xs }

all_zeros : (xs : List ℕ) → ((i : ℕ) → slice_index xs i ≡ 0) → replicate (length xs) 0 ≡ xs
all_zeros [] h = refl
all_zeros (x ∷ xs) h = let e : x ≡ 0 = h 0 in let r = all_zeros xs (λ i. h (suc i)) in cc

filled : (n k : ℕ) (xs : List ℕ) → length xs ≡ n + k → ((i : ℕ) → k ≤ i → slice_index xs i ≡ 0) → take k xs ++ replicate n 0 ≡ xs
filled n zero xs e h = let s : n ≡ length xs = omega arith in ap (λ m. replicate m 0) s ∙ all_zeros xs (λ i. h i (omega arith))
filled n (suc k) [] e h = absurd (omega arith)
filled n (suc k) (x ∷ xs) e h = ap (λ ys. x ∷ ys) (filled n k xs (omega arith) (λ i l. h (suc i) (omega arith)))

pub padded_back : (p : Inside) → Formed p → padded (numbers p) ≡ p
padded_back p f =
    let n : length (take p.count p.links) ≡ p.count = omega (arith, length-take p.count p.links, f.few, f.eight) in
    let e : take p.count p.links ++ replicate (8 - p.count) 0 ≡ p.links = filled (8 - p.count) p.count p.links (omega (arith, f.few, f.eight)) f.zeros in
    ap (λ m. record { links = take p.count p.links ++ replicate (8 - m) 0; count = m }) n
    ∙ ap (λ xs. record { links = xs; count = p.count }) e
