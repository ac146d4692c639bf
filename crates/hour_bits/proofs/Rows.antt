-- The three words of a row: its bits by those of the words, and whether it has any.
use Rattle.std.proofs.Common.{◌≡◌, ℕ, ◌+◌, ◌-◌, ◌*◌, ◌/◌, ◌%◌, ◌^◌, ◌<◌, Bool, true, false, not, ◌&&◌, ◌||◌, eqb, List, [], ◌∷◌, length, get_or, sym, refl, ap, ◌∙◌, ⊎_elim, arith}
use Rattle.std.specs.List.{list_all}
use Rattle.std.proofs.lemmas.Bool.{both_ways, cases_lt, or_cases, or_left, or_right}
use Rattle.std.proofs.lemmas.List.{places, same_lists, get_or_past}
use Rattle.calendar.specs.Week.{any}
use Rattle.calendar.proofs.Sums.{bool_same, any_intro, any_elim, any_cong}
use Rattle.hour_bits.specs.Bits.{bit, row}
use Rattle.hour_bits.proofs.Words.{bit_zero, bit_high, some_bits}

-- an hour's bit, in the word that has it
pub row_at : (ws : List ℕ) (base j k h : ℕ) → k < 64 → h ≡ 64 * j + k → row ws base h ≡ bit (get_or ws (base + j) 0) k
row_at ws base j k h p q =
    let e : h / 64 ≡ j = omega arith in
    let f : h % 64 ≡ k = omega arith in
    ap (λ i. bit (get_or ws (base + i) 0) (h % 64)) e ∙ ap (λ i. bit (get_or ws (base + j) 0) i) f

-- a row of three words, by the bits of each
pub row_three : (a b c : ℕ) (p : ℕ → Bool) → ((k : ℕ) → k < 64 → bit a k ≡ p k) → ((k : ℕ) → k < 64 → bit b k ≡ p (64 + k)) → ((k : ℕ) → k < 40 → bit c k ≡ p (128 + k))
    → (h : ℕ) → h < 168 → row (a ∷ b ∷ c ∷ []) 0 h ≡ p h
row_three a b c p fa fb fc h l =
    let ws : List ℕ = a ∷ b ∷ c ∷ [] in
    ⊎_elim
    (λ (q : h < 64). row_at ws 0 0 h h q (omega arith) ∙ fa h q)
    (λ q. ⊎_elim
    (λ (r : h < 128). let e : 64 + (h - 64) ≡ h = omega arith in row_at ws 0 1 (h - 64) h (omega arith) (omega arith) ∙ fb (h - 64) (omega arith) ∙ ap p e)
    (λ r. let e : 128 + (h - 128) ≡ h = omega arith in row_at ws 0 2 (h - 128) h (omega arith) (omega arith) ∙ fc (h - 128) (omega arith) ∙ ap p e)
    (cases_lt h 128))
    (cases_lt h 64)

three : (ws : List ℕ) → length ws ≡ 3 → ws ≡ get_or ws 0 0 ∷ get_or ws 1 0 ∷ get_or ws 2 0 ∷ []
three ws e = same_lists _ _ e (λ k d h. grind (arith, places))

any_split : (m n : ℕ) (p : ℕ → Bool) → any (m + n) p ≡ (any m p || any n (λ k. p (m + k)))
any_split m n p =
    bool_same (any (m + n) p) (any m p || any n (λ k. p (m + k)))
    (λ e. let w = any_elim (m + n) p e in
    ⊎_elim (λ l. or_left (any m p) _ (any_intro m p w.0 l w.2))
    (λ l. let s : m + (w.0 - m) ≡ w.0 = omega arith in let u = w.1 in or_right (any m p) _ (any_intro n (λ k. p (m + k)) (w.0 - m) (omega arith) (ap p s ∙ w.2)))
    (cases_lt w.0 m))
    (λ e. ⊎_elim (λ x. let w = any_elim m p x in let u = w.1 in any_intro (m + n) p w.0 (omega arith) w.2)
    (λ x. let w = any_elim n (λ k. p (m + k)) x in let u = w.1 in any_intro (m + n) p (m + w.0) (omega arith) w.2)
    (or_cases (any m p) _ e))

-- some hour of the week, word by word
any_words : (p : ℕ → Bool) (x y z : Bool) → x ≡ any 64 p → y ≡ any 64 (λ k. p (64 + k)) → z ≡ any 40 (λ k. p (128 + k)) → (x || (y || (z || false))) ≡ any 168 p
any_words p x y z ex ey ez =
    rw (ex, ey, ez, or_none)
    (sym (any_split 64 104 p ∙ ap (λ b. any 64 p || b) (any_split 64 40 (λ k. p (64 + k)) ∙ ap (λ b. any 64 (λ k. p (64 + k)) || b) (any_cong 40 _ _ (λ k l. let e : 64 + (64 + k) ≡ 128 + k = omega arith in ap p e)))))
  where
    or_none : (b : Bool) → (b || false) ≡ b
    or_none true = refl
    or_none false = refl

all_none : (x y z : Bool) → (x && (y && (z && true))) ≡ not (not x || (not y || (not z || false)))
all_none true true true = refl
all_none true true false = refl
all_none true false z = refl
all_none false y z = refl

pub none_set : (ws : List ℕ) → length ws ≡ 3 → get_or ws 0 0 < 2 ^ 64 → get_or ws 1 0 < 2 ^ 64 → get_or ws 2 0 < 2 ^ 40 → list_all (λ w. eqb w 0) ws ≡ not (any 168 (row ws 0))
none_set ws long fa fb fc =
    ap (list_all (λ w. eqb w 0)) (three ws long) ∙ all_none (eqb (get_or ws 0 0) 0) (eqb (get_or ws 1 0) 0) (eqb (get_or ws 2 0) 0)
    ∙ ap not (any_words (row ws 0) _ _ _
    (some_bits 64 (get_or ws 0 0) fa ∙ any_cong 64 _ _ (λ k l. sym (row_at ws 0 0 k k l (omega arith))))
    (some_bits 64 (get_or ws 1 0) fb ∙ any_cong 64 _ _ (λ k l. sym (row_at ws 0 1 k (64 + k) l (omega arith))))
    (some_bits 40 (get_or ws 2 0) fc ∙ any_cong 40 _ _ (λ k l. sym (row_at ws 0 2 k (128 + k) (omega arith) (omega arith)))))

-- no hour past the week
pub within_week : (ws : List ℕ) → length ws ≡ 3 → get_or ws 2 0 < 2 ^ 40 → (h : ℕ) → row ws 0 h ≡ true → h < 168
within_week ws long fc h y =
    ⊎_elim (λ l. l)
    (λ l. absurd (both_ways (row ws 0 h) (⊎_elim
    (λ m. row_at ws 0 2 (h - 128) h (omega arith) (omega arith) ∙ bit_high 40 (get_or ws 2 0) (h - 128) fc (omega arith))
    (λ m. ap (λ x. bit x (h % 64)) (get_or_past ws (0 + h / 64) 0 (omega arith)) ∙ bit_zero (h % 64))
    (cases_lt h 192)) y))
    (cases_lt h 168)
