-- Room and held cells of a map, as counts of the bits of its rows.
use Rattle.std.proofs.Common.{◌≡◌, ℕ, zero, suc, ◌+◌, ◌-◌, ◌*◌, ◌/◌, ◌%◌, ◌≤◌, List, length, length-drop, take, drop, get_or, sym, ap, ◌∙◌, suc-mul, zero-mul, arith}
use Rattle.std.specs.List.{sum_by}
use Rattle.std.specs.Simd.{first_chunks}
use Rattle.std.proofs.lemmas.List.{get_or-take, get_or-drop, length-take}
use Rattle.std.proofs.lemmas.List.Sums.{sum_by-cons}
use Rattle.calendar.specs.Week.{total}
use Rattle.calendar.specs.Meaning.{live_count, held_count}
use Rattle.calendar.proofs.Sums.{total_cong, total_split, total_empty, total_suc}
use Rattle.hour_bits.specs.Bits.{bit, row, bit_count}
use Rattle.hour_bits.specs.Tables.{mapped, base_of, held_in, start_in, words_mean, Kept}
use Rattle.hour_bits.proofs.Ones.{count_same}
use Rattle.hour_bits.proofs.Mapped.{count_bound, mapped_live, mapped_count, mapped_outside}
use Rattle.hour_bits.proofs.Tables.{Within}
use Rattle.hour_bits.proofs.Keeping.{kept_sounds}

-- rows and columns, counted row by row
total_rows : (L C : ℕ) (g : ℕ → ℕ) → total (L * C) g ≡ total L (λ l. total C (λ c. g (l * C + c)))
unfolding total
total_rows zero C g = ap (λ n. total n g) (zero-mul C)
total_rows (suc L) C g = omega (arith, ap (λ n. total n g) (suc-mul L C), total_split (L * C) C g, total_rows L C g)

module _ (ws : List ℕ) (L C : ℕ) (k : Kept ws L C) where
  pub live_words : live_count (words_mean ws L C) ≡ total (L * C) (λ i. bit_count (row ws (3 + i * 6)))
  live_words =
      mapped_live L C (held_in ws C) (start_in ws C) (kept_sounds ws L C k)
      ∙ total_cong L _ _ (λ l _. total_cong C _ _ (λ c _.
      let e : suc l - 1 ≡ l = omega arith in
      let f = ap (λ x. x * C) e in
      let g : base_of C (suc l) (suc c) + 3 ≡ 3 + (l * C + c) * 6 = omega arith in
      ap (λ b. bit_count (row ws b)) g))
      ∙ sym (total_rows L C (λ i. bit_count (row ws (3 + i * 6))))

  -- no more runs are live than there are cells
  pub live_fits : total (L * C) (λ i. bit_count (row ws (3 + i * 6))) ≤ L * C * 168
  unfolding mapped
  live_fits = let e = live_words in let b = count_bound (words_mean ws L C) in omega (arith, e, b)

  pub count_words : (l : ℕ) → 1 ≤ l → l ≤ L → total C (λ i. bit_count (row ws (base_of C l 1 + i * 6))) ≡ held_count (words_mean ws L C) l
  count_words l p q =
      sym (mapped_count L C (held_in ws C) (start_in ws C) (kept_sounds ws L C k) l p q
      ∙ total_cong C _ _ (λ c _. let g : base_of C l (suc c) ≡ base_of C l 1 + c * 6 = omega arith in ap (λ b. bit_count (row ws b)) g))

  pub count_none : (l : ℕ) → (Within L C l 1 → ⊥) → 0 ≡ held_count (words_mean ws L C) l
  count_none l out = sym (mapped_outside L C (held_in ws C) (start_in ws C) (kept_sounds ws L C k) l out k.some_channels)

-- rows of six words, counted one after another
chunk_count : (at : ℕ) → at ≤ 3 → (k : ℕ) (ws : List ℕ) → sum_by (λ (r : List ℕ). bit_count (row r at)) (first_chunks 6 k ws) ≡ total k (λ i. bit_count (row ws (i * 6 + at)))
chunk_count at p zero ws = sym (total_empty (λ i. bit_count (row ws (i * 6 + at))))
chunk_count at p (suc k) ws =
    let f : ℕ → ℕ = λ i. bit_count (row ws (i * 6 + at)) in
    let one : 1 + k ≡ suc k = omega arith in
    let s = total_split 1 k f in
    let first : bit_count (row (take 6 ws) at) ≡ f 0 = count_same _ _ (λ h l. let e : 0 * 6 + at + h / 64 ≡ at + h / 64 = omega arith in ap (λ x. bit x (h % 64)) (get_or-take 6 ws (at + h / 64) 0 (omega arith) ∙ ap (λ i. get_or ws i 0) (sym e))) in
    let rest : total k (λ i. bit_count (row (drop 6 ws) (i * 6 + at))) ≡ total k (λ i. f (1 + i)) = total_cong k _ _ (λ i _. count_same _ _ (λ h l. let e : 6 + (i * 6 + at + h / 64) ≡ (1 + i) * 6 + at + h / 64 = omega arith in ap (λ x. bit x (h % 64)) (get_or-drop 6 ws (i * 6 + at + h / 64) 0 ∙ ap (λ j. get_or ws j 0) e))) in
    let single : total 1 f ≡ f 0 = total_suc 0 f ∙ omega (arith, total_empty f) in
    let more = chunk_count at p k (drop 6 ws) in
    sum_by-cons (λ (r : List ℕ). bit_count (row r at)) (take 6 ws) (first_chunks 6 k (drop 6 ws)) ∙ omega (arith, first, rest, single, more, s) ∙ ap (λ n. total n f) one

-- the rows of n times six words, from the o-th on
pub part_count : (at : ℕ) → at ≤ 3 → (ws xs : List ℕ) (o n : ℕ) → xs ≡ take (n * 6) (drop o ws) → o + n * 6 ≤ length ws → (g : ℕ → ℕ) → ((i : ℕ) → g i ≡ o + i * 6 + at)
    → sum_by (λ (r : List ℕ). bit_count (row r at)) (first_chunks 6 (length xs / 6) xs) ≡ total n (λ i. bit_count (row ws (g i)))
part_count at p ws xs o n e fits g same =
    let long : length (take (n * 6) (drop o ws)) ≡ n * 6 = simp (length-take, length-drop) (omega arith) in
    let many : length xs / 6 ≡ n = let l = ap length e in omega arith in
    ap (λ k. sum_by (λ (r : List ℕ). bit_count (row r at)) (first_chunks 6 k xs)) many ∙ chunk_count at p n xs
    ∙ total_cong n _ _ (λ i l. count_same _ _ (λ h q.
    let f : o + (i * 6 + at + h / 64) ≡ g i + h / 64 = omega (arith, same i) in
    ap (λ x. bit x (h % 64)) (ap (λ ys. get_or ys (i * 6 + at + h / 64) 0) e ∙ get_or-take (n * 6) (drop o ws) (i * 6 + at + h / 64) 0 (omega arith) ∙ get_or-drop o ws (i * 6 + at + h / 64) 0 ∙ ap (λ j. get_or ws j 0) f)))
