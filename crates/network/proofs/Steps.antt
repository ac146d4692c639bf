-- The steps of the walk.
use Rattle.std.proofs.Common.{◌≡◌, ℕ, zero, suc, ◌+◌, ◌-◌, ◌<◌, ◌≤◌, Bool, false, cond, List, [], ◌∷◌, ◌++◌, length, ltb, vec_len, Some, None, Option, sym, refl, ap, ◌∙◌, append_assoc, append-nil, arith}
use Rattle.std.proofs.lemmas.Bool.{cond-true, lt-ltb}
use Rattle.std.proofs.lemmas.List.{length_push}
use Rattle.std.specs.List.{find, range_with_len}
use Rattle.network.specs.Costs.{Kind}
use Rattle.network.specs.Method.{first_below, fit, greedy}
use Rattle.network.specs.Paths.{when_there, Ground, ground}
use Rattle.network.specs.declared.network.Network.{Network}
use Rattle.network.proofs.Choosing.{first_same, found_first}
use Rattle.network.proofs.Crossings.{crossing_absent}
use Rattle.network.proofs.Tables.{Within}

-- a link fits by the cost of what is ahead of it, where there is any
pub fit_by : {C : Type 0} (g : Ground C) (bound : C) (ahead : ℕ → Option C) (v : ℕ) (paid : C) (i : ℕ) (o : Option C) → o ≡ when_there (g.hop v i) None ahead
    → fit g bound ahead v paid i ≡ when_there o false (λ c. g.kind.at_most (g.kind.joined (g.kind.joined paid (g.price i)) c) bound)
fit_by g bound ahead v paid i o e = over (g.hop v i) ∙ sym (ap (λ o. when_there o false (λ c. g.kind.at_most (g.kind.joined (g.kind.joined paid (g.price i)) c) bound)) e)
  where
    over : (o : Option ℕ) → when_there o false (λ w. when_there (ahead w) false (λ c. g.kind.at_most (g.kind.joined (g.kind.joined paid (g.price i)) c) bound)) ≡ when_there (when_there o None ahead) false (λ c. g.kind.at_most (g.kind.joined (g.kind.joined paid (g.price i)) c) bound)
    over None = refl
    over (Some w) = refl

pub no_fit : {C : Type 0} (g : Ground C) (bound : C) (ahead : ℕ → Option C) (v : ℕ) (paid : C) (i : ℕ) → g.hop v i ≡ None → fit g bound ahead v paid i ≡ false
no_fit g bound ahead v paid i h = ap (λ o. when_there o false (λ w. when_there (ahead w) false (λ c. g.kind.at_most (g.kind.joined (g.kind.joined paid (g.price i)) c) bound))) h

-- the first number that fits is the one that is found
pub found_fit : {C : Type 0} (k : Kind C) (net : Network) (free : ℕ → Bool) (bound : C) (ahead : ℕ → Option C) (v : ℕ) (paid : C)
    → let over : Ground C = ground k net free in find (fit over bound ahead v paid) (range_with_len 1 (vec_len net.links)) ≡ first_below (fit over bound ahead v paid) over.numbers
found_fit k net free bound ahead v paid =
    found_first (fit (ground k net free) bound ahead v paid) (vec_len net.links) (no_fit (ground k net free) bound ahead v paid 0 (crossing_absent net free 0 refl v))

-- ---- the walk

module _ {C : Type 0} (g : Ground C) (bound : C) (rows : ℕ → ℕ → Option C) (k : ℕ) (whole : List ℕ) where
  abbrev way : ℕ → ℕ → C → List ℕ
  way = greedy g bound rows

  -- the way so far and the way still to go are the whole
  pub record Walked (path : List ℕ) (i v : ℕ) (paid : C) : Type 0 where
    pub long : length path ≡ i
    pub joins : path ++ way (k - i) v paid ≡ whole

  pub walk_more : (path more_path : List ℕ) (i v w n : ℕ) (paid more : C) → k ≤ 8 → i < k → Walked path i v paid
      → Some n ≡ first_below (fit g bound (rows (k - i - 1)) v paid) g.numbers
      → more_path ≡ cond (ltb (length path) 8) (path ++ n ∷ []) path
      → more ≡ g.kind.joined paid (g.price n) → w ≡ when_there (g.hop v n) v (λ w. w)
      → Walked more_path (i + 1) w more
  walk_more path more_path i v w n paid more few h inv f e p q = record { long = ap length one_more ∙ length_push path n ∙ ap (λ x. x + 1) inv.long; joins = joins }
    where
      one_more : more_path ≡ path ++ n ∷ []
      one_more = e ∙ cond-true _ _ _ (lt-ltb (length path) 8 (omega (arith, inv.long)))

      left : k - i ≡ suc (k - i - 1)
      left = omega arith

      then : k - (i + 1) ≡ k - i - 1
      then = omega arith

      joins : more_path ++ way (k - (i + 1)) w more ≡ whole
      joins =
          ap (λ x. x ++ way (k - (i + 1)) w more) one_more
          ∙ append_assoc path (n ∷ []) (way (k - (i + 1)) w more)
          ∙ ap (λ x. path ++ (n ∷ way x w more)) then
          ∙ ap (λ x. path ++ (n ∷ way (k - i - 1) w x)) p
          ∙ ap (λ x. path ++ (n ∷ way (k - i - 1) x (g.kind.joined paid (g.price n)))) q
          ∙ ap (λ o. path ++ when_there o [] (λ n. n ∷ way (k - i - 1) (when_there (g.hop v n) v (λ w. w)) (g.kind.joined paid (g.price n)))) f
          ∙ sym (ap (λ x. path ++ way x v paid) left)
          ∙ inv.joins

  pub walk_stops : (path : List ℕ) (i v : ℕ) (paid : C) → i < k → Walked path i v paid → None ≡ first_below (fit g bound (rows (k - i - 1)) v paid) g.numbers → path ≡ whole
  walk_stops path i v paid h inv f =
      let left : k - i ≡ suc (k - i - 1) = omega arith in
      sym (append-nil path)
      ∙ ap (λ o. path ++ when_there o [] (λ n. n ∷ way (k - i - 1) (when_there (g.hop v n) v (λ w. w)) (g.kind.joined paid (g.price n)))) f
      ∙ sym (ap (λ x. path ++ way x v paid) left)
      ∙ inv.joins

  pub walk_all : (path : List ℕ) (i v : ℕ) (paid : C) → i ≡ k → Walked path i v paid → path ≡ whole
  walk_all path i v paid e inv =
      let none_left : k - i ≡ 0 = omega arith in
      sym (append-nil path) ∙ sym (ap (λ x. path ++ way x v paid) none_left) ∙ inv.joins

-- ---- rows that agree

there_same : {X Y : Type 0} (o : Option X) (d : Y) (f h : X → Y) → ((x : X) → o ≡ Some x → f x ≡ h x) → when_there o d f ≡ when_there o d h
there_same None d f h e = refl
there_same (Some x) d f h e = e x refl

pub greedy_same : {C : Type 0} (g : Ground C) → Within g → (bound : C) (f h : ℕ → ℕ → Option C) (k v : ℕ) (paid : C) → ((j w : ℕ) → j ≤ k → w < 33 → f j w ≡ h j w) → greedy g bound f k v paid ≡ greedy g bound h k v paid
greedy_same g within bound f h zero v paid same = refl
greedy_same g within bound f h (suc j) v paid same =
    ap (λ o. when_there o [] (λ i. i ∷ greedy g bound f j (when_there (g.hop v i) v (λ w. w)) (g.kind.joined paid (g.price i)))) firsts
    ∙ there_same (first_below (fit g bound (h j) v paid) g.numbers) [] _ _ (λ i e. ap (λ p. i ∷ p) (greedy_same g within bound f h j _ _ (λ m w a l. same m w (omega arith) l)))
  where
    firsts : first_below (fit g bound (f j) v paid) g.numbers ≡ first_below (fit g bound (h j) v paid) g.numbers
    firsts = first_same _ _ g.numbers (λ i. there_same (g.hop v i) false _ _ (λ w e. ap (λ o. when_there o false (λ c. g.kind.at_most (g.kind.joined (g.kind.joined paid (g.price i)) c) bound)) (same j w (omega arith) (within v i w e))))
