-- The bits of words.
use Rattle.std.proofs.Common.{◌≡◌, ℕ, zero, suc, ◌+◌, ◌-◌, ◌*◌, ◌/◌, ◌%◌, ◌^◌, ◌<◌, ◌≤◌, min, max, true, false, not, ◌&&◌, ◌||◌, eqb, ltb, sym, ap, ◌∙◌, ⊎_elim, mod-eq_of_lt, add-one, arith, lit<, pow_pos, pow_mono, pow-add}
use native.Mathlib.Nat.{div-eq_of_lt, div-eq_of_lt-le}
use lib.Bits.{bit_and, bit_or, bit_xor, and_step, or_step, and_shr, or_shr, and_mask, and_comm, xor_add_and, xor_step, xor_shr, differ}
use lib.Pow.{ones_split, ones_lt, high}
use Rattle.std.proofs.lemmas.Bool.{cases_lt, cases_eq, eqb-true, lt-ltb, le-ltb, eq-eqb, ne_eqb}
use Rattle.std.proofs.lemmas.Bool.Decides.{nat_tests}
use Rattle.hour_bits.specs.Bits.{bit}
use Rattle.hour_bits.proofs.Circle.{ahead, covers_ahead}
use Rattle.calendar.specs.Week.{any, covers}
use Rattle.calendar.proofs.Sums.{any_intro, any_false}
use Rattle.calendar.proofs.Circle.{covers_late}

digit_or : (u v w : ℕ) → u < 2 → v < 2 → w ≡ max u v → eqb w 1 ≡ (eqb u 1 || eqb v 1)
digit_or u v w p q e = grind (arith, nat_tests)

digit_and : (u v w : ℕ) → u < 2 → v < 2 → w ≡ min u v → eqb w 1 ≡ (eqb u 1 && eqb v 1)
digit_and u v w p q e = grind (arith, nat_tests)

pub bit_of_or : (a b k : ℕ) → bit (bit_or a b) k ≡ (bit a k || bit b k)
bit_of_or a b k =
    let s = or_step (a / 2 ^ k) (b / 2 ^ k) in
    rw or_shr (digit_or (a / 2 ^ k % 2) (b / 2 ^ k % 2) _ (omega arith) (omega arith) (omega arith))

pub bit_of_and : (a b k : ℕ) → bit (bit_and a b) k ≡ (bit a k && bit b k)
bit_of_and a b k =
    let s = and_step (a / 2 ^ k) (b / 2 ^ k) in
    rw and_shr (digit_and (a / 2 ^ k % 2) (b / 2 ^ k % 2) _ (omega arith) (omega arith) (omega arith))

-- the m low bits
pub bit_ones : (m k : ℕ) → bit (2 ^ m - 1) k ≡ ltb k m
bit_ones m k = ⊎_elim yes_bit no_bit (cases_lt k m)
  where
    yes_bit : k < m → bit (2 ^ m - 1) k ≡ ltb k m
    yes_bit l =
        let j : ℕ = m - k - 1 in
        let e : m ≡ (j + 1) + k = omega arith in
        let q : (2 ^ m - 1) / 2 ^ k ≡ 2 ^ (j + 1) - 1 =
        ap (λ x. (2 ^ x - 1) / 2 ^ k) e ∙ ap (λ x. x / 2 ^ k) (ones_split (j + 1) k) ∙ high (2 ^ (j + 1) - 1) k (ones_lt k) in
        let o = ones_split j 1 in
        eq-eqb _ 1 (omega arith) ∙ sym (lt-ltb k m l)

    no_bit : m ≤ k → bit (2 ^ m - 1) k ≡ ltb k m
    no_bit l =
        let q : (2 ^ m - 1) / 2 ^ k ≡ 0 = let s = pow_mono l in let t = pow_pos m in div-eq_of_lt (omega arith) in
        ne_eqb _ 1 (λ e. omega arith) ∙ sym (le-ltb k m l)

digit_not : (d w : ℕ) → d < 2 → w ≡ differ 1 d → eqb w 1 ≡ not (eqb d 1)
digit_not zero w p e = eq-eqb w 1 e
digit_not (suc zero) w p e = ne_eqb w 1 (λ i. let z : w ≡ 0 = e in omega arith)
digit_not (suc (suc d)) w p e = absurd (omega arith)

differ_le : (d : ℕ) → d < 2 → differ 1 d < 2
differ_le zero p = lit< tt
differ_le (suc zero) p = lit< tt
differ_le (suc (suc d)) p = absurd (omega arith)

-- every bit turned
pub bit_not : (w x k : ℕ) → x < 2 ^ w → k < w → bit (2 ^ w - 1 - x) k ≡ not (bit x k)
bit_not w x k p l =
    let a : bit_and (2 ^ w - 1) x ≡ x = and_comm (2 ^ w - 1) x ∙ and_mask x w ∙ mod-eq_of_lt p in
    let s = xor_add_and (2 ^ w - 1) x in
    let e : 2 ^ w - 1 - x ≡ bit_xor (2 ^ w - 1) x = omega arith in
    let t = xor_step ((2 ^ w - 1) / 2 ^ k) (x / 2 ^ k) in
    let o : (2 ^ w - 1) / 2 ^ k % 2 ≡ 1 = eqb-true _ 1 (bit_ones w k ∙ lt-ltb k w l) in
    ap (λ y. bit y k) e ∙ ap (λ y. eqb (y % 2) 1) (xor_shr (2 ^ w - 1) x k)
    ∙ digit_not (x / 2 ^ k % 2) _ (omega arith) (let z = ap (λ u. differ u (x / 2 ^ k % 2)) o in let d = differ_le (x / 2 ^ k % 2) (omega arith) in omega arith)

-- a number of w bits that is not 0 has a bit
some_bit : (w x : ℕ) → x < 2 ^ w → 0 < x → (k : ℕ) × (k < w) × (bit x k ≡ true)
some_bit zero x p q = absurd (omega arith)
some_bit (suc w) x p q =
    ⊎_elim
    (λ l. let r = some_bit w x l q in (r.0, omega arith, r.2))
    (λ l. (w, omega arith, eq-eqb _ 1 (let d : x / 2 ^ w ≡ 1 = let s = pow_pos w in let t = pow-add 2 w 1 in let u = ap (λ e. 2 ^ e) (add-one w) in div-eq_of_lt-le (2 ^ w) (omega arith) (omega arith) in omega arith)))
    (cases_lt x (2 ^ w))

pub bit_zero : (k : ℕ) → bit 0 k ≡ false
bit_zero k = let z : 0 / 2 ^ k ≡ 0 = let s = pow_pos k in div-eq_of_lt s in ne_eqb _ 1 (λ e. omega arith)

pub bit_high : (w x k : ℕ) → x < 2 ^ w → w ≤ k → bit x k ≡ false
bit_high w x k p l = let z : x / 2 ^ k ≡ 0 = let s = pow_mono l in div-eq_of_lt (omega arith) in ne_eqb _ 1 (λ e. omega arith)

-- a number is not 0 where it has a bit
pub some_bits : (w x : ℕ) → x < 2 ^ w → not (eqb x 0) ≡ any w (bit x)
some_bits w x p =
    ⊎_elim
    (λ (z : x ≡ 0). rw (eq-eqb x 0 z) (sym (any_false w (bit x) (λ k l. ap (λ y. bit y k) z ∙ bit_zero k))))
    (λ z. let r = some_bit w x p (omega (arith, z)) in rw (ne_eqb x 0 z) (sym (any_intro w (bit x) r.0 r.1 r.2)))
    (cases_eq x 0)

-- the bits of a run in the word j of a row, from the part up to Sunday night and the part after it
module _ (j a n k lo hi w : ℕ) (pa : a < 168) (pn : n ≤ 168) (from : lo ≡ a - 64 * j) (to : hi ≡ min (a + n) 168 - 64 * j) (over : w ≡ a + n - 168 - 64 * j) where
  near_mask : 64 * j + k < 168 → ((ltb k hi && not (ltb k lo)) || ltb k w) ≡ ltb (ahead a (64 * j + k)) n
  near_mask q = grind (arith, nat_tests)

  far_mask : 168 ≤ 64 * j + k → ((ltb k hi && not (ltb k lo)) || ltb k w) ≡ false
  far_mask q = grind (arith, nat_tests)

  pub mask_is : ((ltb k hi && not (ltb k lo)) || ltb k w) ≡ covers a n (64 * j + k)
  mask_is =
      ⊎_elim (λ (q : 64 * j + k < 168). near_mask q ∙ sym (covers_ahead a n (64 * j + k) pa q)) (λ (q : 168 ≤ 64 * j + k). far_mask q ∙ sym (covers_late a n (64 * j + k) q)) (cases_lt (64 * j + k) 168)
