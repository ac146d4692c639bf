-- Six words to a row: a write to one row leaves the others.
use Rattle.std.proofs.Common.{◌≡◌, ℕ, ◌+◌, ◌-◌, ◌*◌, ◌/◌, ◌%◌, ◌<◌, ◌≤◌, Bool, ◌⊎◌, List, get_or, sym, ap, ◌∙◌, inl, inr, ⊎_elim, mul_comm, arith}
use Rattle.std.proofs.lemmas.Nat.{mul-add-lt, div-mul-add, mod-mul-add}
use Rattle.std.proofs.lemmas.Bool.{cases_order}
use Rattle.hour_bits.specs.Bits.{bit, row, Stored}
use Rattle.hour_bits.specs.Tables.{base_of, held_in, start_in}
use Rattle.hour_bits.proofs.Tables.{Within, Changed}

-- the last row ends within the words
pub row_fits : (L C l c : ℕ) → Within L C l c → base_of C l c + 6 ≤ L * C * 6
row_fits L C l c w = let m = mul-add-lt (l - 1) C (c - 1) L (omega arith) (omega arith) in let e = mul_comm C L in omega arith

rows_apart : (L C l c x y : ℕ) → Within L C l c → Within L C x y → ((x ≡ l) × (y ≡ c) → ⊥)
    → (base_of C x y + 6 ≤ base_of C l c) ⊎ (base_of C l c + 6 ≤ base_of C x y)
rows_apart L C l c x y w v ne =
    ⊎_elim
    (λ (e : (x - 1) * C + (y - 1) ≡ (l - 1) * C + (c - 1)).
    let p : x - 1 ≡ l - 1 = sym (div-mul-add (x - 1) C (y - 1) (omega arith)) ∙ ap (λ r. r / C) e ∙ div-mul-add (l - 1) C (c - 1) (omega arith) in
    let q : y - 1 ≡ c - 1 = sym (mod-mul-add (x - 1) C (y - 1) (omega arith)) ∙ ap (λ r. r % C) e ∙ mod-mul-add (l - 1) C (c - 1) (omega arith) in
    absurd (ne (omega arith, omega arith)))
    (⊎_elim (λ s. inl (omega arith)) (λ s. inr (omega arith)))
    (cases_order ((x - 1) * C + (y - 1)) ((l - 1) * C + (c - 1)))

row_same : (ws ws' : List ℕ) (b : ℕ) → ((i : ℕ) → b ≤ i → i < b + 3 → get_or ws' i 0 ≡ get_or ws i 0) → (h : ℕ) → h < 168 → row ws' b h ≡ row ws b h
row_same ws ws' b e h p = ap (λ x. bit x (h % 64)) (e (b + h / 64) (omega arith) (omega arith))

-- a row that is written
module _ (L C : ℕ) (ws w : List ℕ) (l c : ℕ) (at : Within L C l c) (u v : ℕ → Bool) (new : Stored ws w (base_of C l c) u v) where
  untouched : (x y : ℕ) → Within L C x y → ((x ≡ l) × (y ≡ c) → ⊥) → (i : ℕ) → base_of C x y ≤ i → i < base_of C x y + 6 → get_or w i 0 ≡ get_or ws i 0
  untouched x y i ne k p q = new.rest k (⊎_elim (λ s. inl (omega arith)) (λ s. inr (omega arith)) (rows_apart L C l c x y at i ne))

  pub held_changed : Changed L C (held_in ws C) (held_in w C) l c u
  held_changed = record { here = new.held_bits; there = λ x y i ne. row_same ws w (base_of C x y) (λ k r s. untouched x y i ne k r (omega arith)) }

  pub start_changed : Changed L C (start_in ws C) (start_in w C) l c v
  start_changed = record { here = new.start_bits; there = λ x y i ne. row_same ws w (base_of C x y + 3) (λ k r s. untouched x y i ne k (omega arith) (omega arith)) }

  -- no word past the rows is written
  pub past_rows : (i : ℕ) → L * C * 6 ≤ i → get_or w i 0 ≡ get_or ws i 0
  past_rows i p = let f = row_fits L C l c at in new.rest i (inr (omega arith))
