-- The walk that takes the first link that fits gives the chosen path.
use Rattle.std.proofs.Common.{◌≡◌, ℕ, zero, suc, ◌<◌, ◌≤◌, Bool, true, false, eqb, List, [], ◌∷◌, length, Some, None, Option, sym, refl, ap, ◌∙◌, subst, inl, inr, arith}
use Rattle.std.proofs.lemmas.Bool.{eqb-true, cases_Bool, cond-true, cond-false, both_ways, cases_lt}
use Rattle.network.specs.Choice.{Dict, Chosen}
use Rattle.network.specs.Costs.{Laws}
use Rattle.network.specs.Method.{table, first_below, fit, greedy}
use Rattle.network.specs.Paths.{when_there, Ground, leads, touched, no_twice, total, Allowed}
use Rattle.network.proofs.Choosing.{clash, some_same, passes, there, itself, first_good, first_le}
use Rattle.network.proofs.Tables.{Near, leads_cons, low, hit, cut}

-- p is the first list of j links from v to t that, after what was paid, is within the bound
pub record First {C : Type 0} (g : Ground C) (t : ℕ) (bound : C) (j v : ℕ) (paid : C) (p : List ℕ) : Type 0 where
  pub long : length p ≡ j
  pub arrives : leads g.hop v p ≡ Some t
  pub within : g.kind.at_most (g.kind.joined paid (total g p)) bound ≡ true
  pub least : (q : List ℕ) → length q ≡ j → leads g.hop v q ≡ Some t → g.kind.at_most (g.kind.joined paid (total g q)) bound ≡ true → Dict p q

-- k links are the fewest that reach the least cost within the limit
pub record Picked {C : Type 0} (at_most : C → C → Bool) (rows : ℕ → ℕ → Option C) (limit s k : ℕ) (best : C) : Type 0 where
  pub some : 1 ≤ k
  pub few : k ≤ limit
  pub reached : rows k s ≡ Some best
  pub least : (j : ℕ) (c : C) → 1 ≤ j → j ≤ limit → rows j s ≡ Some c → at_most best c ≡ true
  pub fewest : (j : ℕ) (c : C) → 1 ≤ j → j < k → rows j s ≡ Some c → at_most c best ≡ false

fit_from : {C : Type 0} (g : Ground C) (bound : C) (ahead : ℕ → Option C) (v : ℕ) (paid : C) (i w : ℕ) (c : C)
    → g.hop v i ≡ Some w → ahead w ≡ Some c → g.kind.at_most (g.kind.joined (g.kind.joined paid (g.price i)) c) bound ≡ true → fit g bound ahead v paid i ≡ true
fit_from g bound ahead v paid i w c h r a = rw h (rw r a)

greedy_step : {C : Type 0} (g : Ground C) (bound : C) (rows : ℕ → ℕ → Option C) (j v : ℕ) (paid : C) (i w : ℕ)
    → first_below (fit g bound (rows j) v paid) g.numbers ≡ Some i → g.hop v i ≡ Some w
    → greedy g bound rows (suc j) v paid ≡ i ∷ greedy g bound rows j w (g.kind.joined paid (g.price i))
greedy_step g bound rows j v paid i w e h =
    ap (λ o. when_there o [] (λ i. i ∷ greedy g bound rows j (when_there (g.hop v i) v (λ w. w)) (g.kind.joined paid (g.price i)))) e
    ∙ ap (λ o. i ∷ greedy g bound rows j (when_there o v (λ w. w)) (g.kind.joined paid (g.price i))) h

module _ {C : Type 0} (g : Ground C) (laws : Laws g.kind) (near : Near g) (t : ℕ) where
  abbrev at_most : C → C → Bool
  at_most = g.kind.at_most

  abbrev joined : C → C → C
  joined = g.kind.joined

  abbrev price : ℕ → C
  price = g.price

  abbrev hop : ℕ → ℕ → Option ℕ
  hop = g.hop

  abbrev rows : ℕ → ℕ → Option C
  rows = table g t

  module _ (bound : C) where
    abbrev fits : ℕ → ℕ → C → ℕ → Bool
    fits j = fit g bound (rows j)

    -- the first link of a list within the bound fits
    worth : (i : ℕ) (q : List ℕ) (v : ℕ) (paid : C) → leads hop v (i ∷ q) ≡ Some t → at_most (joined paid (total g (i ∷ q))) bound ≡ true → (i < g.numbers) × (fits (length q) v paid i ≡ true)
    worth i q v paid e a =
        let (w, h, k) = there (hop v i) (λ x. leads hop x q) t e in
        let (c, r, l) = low g laws near t q w k in
        let up : at_most (joined paid (joined (price i) c)) bound ≡ true = laws.trans _ _ _ (laws.keeps_left paid _ _ (laws.keeps_left (price i) c (total g q) l)) a in
        (near v i w h, fit_from g bound (rows (length q)) v paid i w c h r (ap (λ x. at_most x bound) (laws.assoc paid (price i) c) ∙ up))

    some_fits : (j v : ℕ) (paid : C) (q : List ℕ) → length q ≡ suc j → leads hop v q ≡ Some t → at_most (joined paid (total g q)) bound ≡ true → (i : ℕ) × (i < g.numbers) × (fits j v paid i ≡ true)
    some_fits j v paid [] len e a = absurd (omega arith)
    some_fits j v paid (i ∷ q) len e a =
        let (l, f) = worth i q v paid e a in
        let same : length q ≡ j = omega arith in
        (i, l, subst (λ m. fits m v paid i ≡ true) same f)

    -- one link more in front
    grown : (j v : ℕ) (paid : C) (k w : ℕ) (p : List ℕ) → first_below (fits j v paid) g.numbers ≡ Some k → hop v k ≡ Some w → First g t bound j w (joined paid (price k)) p → First g t bound (suc j) v paid (k ∷ p)
    grown j v paid k w p e h f = record {
      long = ap suc f.long;
      arrives = leads_cons hop v k w p (Some t) h f.arrives;
      within = sym (ap (λ x. at_most x bound) (laws.assoc paid (price k) (total g p))) ∙ f.within;
      least = after;
    }
      where
        after : (q : List ℕ) → length q ≡ suc j → leads hop v q ≡ Some t → at_most (joined paid (total g q)) bound ≡ true → Dict (k ∷ p) q
        after [] len r a = absurd (omega arith)
        after (i ∷ q) len r a =
            let same : length q ≡ j = omega arith in
            let (l, fi) = worth i q v paid r a in
            let (m, em, le) = first_le (fits j v paid) g.numbers i l (subst (λ x. fits x v paid i ≡ true) same fi) in
            let mk : m ≡ k = some_same m k (sym em ∙ e) in
            let (x, hx, rx) = there (hop v i) (λ y. leads hop y q) t r in
            (omega arith, λ ki. f.least q same (subst (λ y. leads hop y q ≡ Some t) (some_same x w (sym hx ∙ sym (ap (hop v) ki) ∙ h)) rx) (ap (λ y. at_most y bound) (ap (λ y. joined (joined paid (price y)) (total g q)) ki ∙ laws.assoc paid (price i) (total g q)) ∙ a))

    walk_first : (j v : ℕ) (paid c : C) → rows j v ≡ Some c → at_most (joined paid c) bound ≡ true → First g t bound j v paid (greedy g bound rows j v paid)
    walk_first zero v paid c r a =
        elim (cases_Bool (eqb v t)) [
          | inl h ↦ record {
            long = refl;
            arrives = ap Some (eqb-true v t h);
            within = ap (λ x. at_most (joined paid x) bound) (some_same g.kind.none c (sym (cond-true _ _ _ h) ∙ r)) ∙ a;
            least = λ q len e b. tt;
          }
          | inr h ↦ absurd (clash None c refl (sym (cond-false _ (Some g.kind.none) None h) ∙ r))
        ]
    walk_first (suc j) v paid c r a =
        let (q, len, e, same) = hit g laws near t (suc j) v c r in
        let (i, l, f) = some_fits j v paid q len e (ap (λ x. at_most (joined paid x) bound) same ∙ a) in
        let (k, found, le) = first_le (fits j v paid) g.numbers i l f in
        let (kn, fk) = first_good (fits j v paid) g.numbers k found in
        let (w, h, b) = passes (hop v k) (λ w. when_there (rows j w) false (λ c. at_most (joined (joined paid (price k)) c) bound)) fk in
        let (d, rd, ad) = passes (rows j w) (λ c. at_most (joined (joined paid (price k)) c) bound) b in
        subst (First g t bound (suc j) v paid) (sym (greedy_step g bound rows j v paid k w found h)) (grown j v paid k w (greedy g bound rows j w (joined paid (price k))) found h (walk_first j w (joined paid (price k)) d rd ad))

  module _ (limit s : ℕ) (apart : s ≡ t → ⊥) where
    some_links : (q : List ℕ) → leads hop s q ≡ Some t → 1 ≤ length q
    some_links [] e = absurd (apart (some_same s t e))
    some_links (i ∷ q) e = omega arith

    module _ (k : ℕ) (best : C) (picked : Picked at_most rows limit s k best) where
      -- nothing shorter is as cheap
      not_shorter : (q : List ℕ) → leads hop s q ≡ Some t → length q < k → at_most (total g q) best ≡ true → ⊥
      not_shorter q e l a =
          let (c, r, m) = low g laws near t q s e in
          both_ways (at_most c best) (picked.fewest (length q) c (some_links q e) l r) (laws.trans c (total g q) best m a)

      -- so no place is touched twice: such a list could be cut
      touches_once : (p : List ℕ) → length p ≡ k → leads hop s p ≡ Some t → at_most (total g p) best ≡ true → no_twice (touched hop s p) ≡ true
      touches_once p len e a =
          elim (cases_Bool (no_twice (touched hop s p))) [
            | inl h ↦ h
            | inr h ↦
                let (q, l, f, m) = cut g laws near t p s h e in
                absurd (not_shorter q f (omega arith) (laws.trans _ _ _ m a))
          ]

      first_is_chosen : (p : List ℕ) → First g t best k s g.kind.none p → Chosen g limit s t p
      first_is_chosen p f =
          let cheap : at_most (total g p) best ≡ true = ap (λ x. at_most x best) (sym (laws.left (total g p))) ∙ f.within in
          record {
            path = record {
              some = omega (arith, f.long, picked.some);
              few = omega (arith, f.long, picked.few);
              arrives = f.arrives;
              once = touches_once p f.long f.arrives cheap;
            };
            best = λ q w.
                let (c, r, m) = low g laws near t q s w.arrives in
                record {
                  cheap = laws.trans _ _ _ cheap (laws.trans _ _ _ (picked.least (length q) c w.some w.few r) m);
                  short = λ e. short_of q w.arrives (ap (λ x. at_most x best) (sym e) ∙ cheap);
                  first = λ e len. f.least q (sym len ∙ f.long) w.arrives (ap (λ x. at_most x best) (laws.left (total g q)) ∙ ap (λ x. at_most x best) (sym e) ∙ cheap);
                };
          }
        where
          short_of : (q : List ℕ) → leads hop s q ≡ Some t → at_most (total g q) best ≡ true → length p ≤ length q
          short_of q e a = elim (cases_lt (length q) k) [ inl h ↦ absurd (not_shorter q e h a) | inr h ↦ omega (arith, f.long) ]

      pub walk_is_chosen : Chosen g limit s t (greedy g best rows k s g.kind.none)
      walk_is_chosen =
          first_is_chosen _ (walk_first best k s g.kind.none best picked.reached (ap (λ x. at_most x best) (laws.left best) ∙ itself laws best))

    -- where the rows have nothing there is no path
    pub no_path : ((j : ℕ) → 1 ≤ j → j ≤ limit → rows j s ≡ None) → (p : List ℕ) → Allowed hop limit s t p → ⊥
    no_path h p w =
        let (c, r, m) = low g laws near t p s w.arrives in
        clash (rows (length p) s) c (h (length p) w.some w.few) r
