-- The ones of a word, and of the three words of a row, counted.
use Rattle.std.proofs.Common.{◌≡◌, ℕ, zero, suc, ◌+◌, ◌/◌, ◌%◌, ◌^◌, ◌<◌, ◌≤◌, Bool, cond, eqb, List, get_or, sym, refl, ap, ◌∙◌, ⊎_elim, div-one, add-one, one-add, arith, pow-add, shr-shr}
use lib.Count.{ones, ones_step}
use Rattle.std.proofs.lemmas.Bool.{eq-eqb, ne_eqb, cases_eq, cond_both}
use Rattle.calendar.specs.Week.{total}
use Rattle.calendar.proofs.Sums.{total_cong, total_split, total_empty, total_suc, total_most}
use Rattle.hour_bits.specs.Bits.{bit, row, bit_count}
use Rattle.hour_bits.proofs.Rows.{row_at}

count : (ℕ → Bool) → ℕ → ℕ
count p n = total n (λ k. cond (p k) 1 0)

count_cong : (p q : ℕ → Bool) (n : ℕ) → ((k : ℕ) → k < n → p k ≡ q k) → count p n ≡ count q n
unfolding count
count_cong p q n e = total_cong n _ _ (λ k l. ap (λ b. cond b 1 0) (e k l))

count_split : (p : ℕ → Bool) (m n : ℕ) → count p (m + n) ≡ count p m + count (λ k. p (m + k)) n
unfolding count
count_split p m n = total_split m n (λ k. cond (p k) 1 0)

count_one : (p : ℕ → Bool) → count p 1 ≡ cond (p 0) 1 0
unfolding count
count_one p = total_suc 0 (λ k. cond (p k) 1 0) ∙ omega (arith, total_empty (λ k. cond (p k) 1 0))

count_none : (p : ℕ → Bool) → count p 0 ≡ 0
unfolding count
count_none p = total_empty (λ k. cond (p k) 1 0)

digit : (n : ℕ) → cond (bit n 0) 1 0 ≡ n % 2
digit n =
    let e : n / 2 ^ 0 ≡ n = div-one n in
    ⊎_elim
    (λ (q : n % 2 ≡ 1). ap (λ b. cond b 1 0) (eq-eqb (n / 2 ^ 0 % 2) 1 (ap (λ x. x % 2) e ∙ q)) ∙ sym q)
    (λ q. ap (λ b. cond b 1 0) (ne_eqb (n / 2 ^ 0 % 2) 1 (λ r. q (sym (ap (λ x. x % 2) e) ∙ r))) ∙ omega arith)
    (cases_eq (n % 2) 1)

ones_zero : ones 0 ≡ 0
unfolding ones
ones_zero = refl

ones_count : (w n : ℕ) → n < 2 ^ w → ones n ≡ count (bit n) w
ones_count zero n p = let e : n ≡ 0 = omega arith in ap ones e ∙ ones_zero ∙ sym (count_none (bit n))
ones_count (suc w) n p =
    let i = ones_count w (n / 2) (let s = pow-add 2 w 1 in let u = ap (λ e. 2 ^ e) (add-one w) in omega arith) in
    let s = ones_step n in
    let c = count_split (bit n) 1 w in
    let o = ap (count (bit n)) (one-add w) in
    let d = digit n in
    let f = count_one (bit n) in
    let t : count (λ k. bit n (1 + k)) w ≡ count (bit (n / 2)) w = count_cong _ _ w (λ k l. ap (λ x. eqb (x % 2) 1) (sym (shr-shr n 1 k))) in
    omega arith

-- the bits of a row, from its three words
pub row_ones : (ws : List ℕ) → get_or ws 0 0 < 2 ^ 64 → get_or ws 1 0 < 2 ^ 64 → get_or ws 2 0 < 2 ^ 40
    → ones (get_or ws 0 0) + ones (get_or ws 1 0) + ones (get_or ws 2 0) ≡ bit_count (row ws 0)
unfolding bit_count count
row_ones ws fa fb fc =
    let a = ones_count 64 (get_or ws 0 0) fa in
    let b = ones_count 64 (get_or ws 1 0) fb in
    let c = ones_count 40 (get_or ws 2 0) fc in
    let s = count_split (row ws 0) 64 104 in
    let t = count_split (λ k. row ws 0 (64 + k)) 64 40 in
    let x : count (row ws 0) 64 ≡ count (bit (get_or ws 0 0)) 64 = count_cong _ _ 64 (λ k l. row_at ws 0 0 k k l (omega arith)) in
    let y : count (λ k. row ws 0 (64 + k)) 64 ≡ count (bit (get_or ws 1 0)) 64 = count_cong _ _ 64 (λ k l. row_at ws 0 1 k (64 + k) l (omega arith)) in
    let z : count (λ k. row ws 0 (64 + (64 + k))) 40 ≡ count (bit (get_or ws 2 0)) 40 = count_cong _ _ 40 (λ k l. row_at ws 0 2 k (64 + (64 + k)) (omega arith) (omega arith)) in
    omega arith

pub count_most : (p : ℕ → Bool) → bit_count p ≤ 168
unfolding bit_count
count_most p = total_most 168 (λ h. cond (p h) 1 0) (λ h. cond_both (p h) 1 0 (λ x. x ≤ 1) (λ _. omega arith) (λ _. omega arith))

pub count_same : (p q : ℕ → Bool) → ((h : ℕ) → h < 168 → p h ≡ q h) → bit_count p ≡ bit_count q
unfolding bit_count
count_same p q e = total_cong 168 _ _ (λ h l. ap (λ b. cond b 1 0) (e h l))
