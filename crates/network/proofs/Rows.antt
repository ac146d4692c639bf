-- The rows of the table, cell by cell.
use Rattle.std.proofs.Common.{◌≡◌, ℕ, ◌+◌, ◌*◌, ◌<◌, ◌≤◌, cond, eqb, List, length, set, Some, None, Option, sym, refl, ap, ◌∙◌, inl, inr, add-one, arith, length-set, get_or-set_other, get_or-set_same, below_more}
use Rattle.std.proofs.lemmas.List.{get_or_past}
use Rattle.std.proofs.lemmas.Bool.{eq-eqb, ne_eqb, cases_eq, cases_lt, cond-true, cond-false}
use Rattle.network.specs.Method.{better, least_below, extended, offer, table, cell_at, Relaxed, NextRow, Tabled}
use Rattle.network.specs.Paths.{when_there, far_end, Ground}
use Rattle.network.specs.declared.link.Link.{Link}
use Rattle.network.proofs.Choosing.{better_none, least_same}
use Rattle.network.proofs.Tables.{Within}

-- ---- one cell

pub cell_same : {C : Type 0} (cells : List (Option C)) (j v : ℕ) (x : Option C) → length cells ≡ 297 → j < 9 → v < 33 → cell_at (set cells (j * 33 + v) x) j v ≡ x
cell_same cells j v x len h k = get_or-set_same cells (j * 33 + v) x None (omega arith)

pub cell_other : {C : Type 0} (cells : List (Option C)) (j v k w : ℕ) (x : Option C) → v < 33 → w < 33 → ((k ≡ j) → (w ≡ v) → ⊥) → cell_at (set cells (j * 33 + v) x) k w ≡ cell_at cells k w
cell_other cells j v k w x h l n =
    get_or-set_other cells (j * 33 + v) (k * 33 + w) x None (λ e. n (omega arith) (omega arith))

-- a cell is empty once cleared, and beyond the rows all along
cell_cleared : {C : Type 0} (cells : List (Option C)) (j v : ℕ) → cell_at (set cells (j * 33 + v) None) j v ≡ None
cell_cleared cells j v =
    elim (cases_lt (j * 33 + v) (length cells)) [
      | inl l ↦ get_or-set_same cells (j * 33 + v) None None l
      | inr l ↦ get_or_past (set cells (j * 33 + v) None) (j * 33 + v) None (omega (arith, length-set cells (j * 33 + v) None))
    ]

-- ---- one link

-- what a link offers, where it may be used: at one end, at the other, and elsewhere
module _ {C : Type 0} (g : Ground C) (i : ℕ) (l : Link) (leads : (v : ℕ) → g.hop v i ≡ far_end l v) (ahead : ℕ → Option C) where
  abbrev over : Option ℕ → Option C
  over o = when_there o None (λ w. extended g.kind.joined (g.price i) (ahead w))

  offer_one : (v : ℕ) → l.one ≡ v → offer g ahead v i ≡ extended g.kind.joined (g.price i) (ahead l.two)
  offer_one v e = ap over (leads v ∙ cond-true _ _ _ (eq-eqb l.one v e))

  offer_two : (v : ℕ) → (l.one ≡ v → ⊥) → l.two ≡ v → offer g ahead v i ≡ extended g.kind.joined (g.price i) (ahead l.one)
  offer_two v n e = ap over (leads v ∙ cond-false _ _ _ (ne_eqb l.one v n) ∙ cond-true _ _ _ (eq-eqb l.two v e))

  offer_none : (v : ℕ) → (l.one ≡ v → ⊥) → (l.two ≡ v → ⊥) → offer g ahead v i ≡ None
  offer_none v n m = ap over (leads v ∙ cond-false _ _ _ (ne_eqb l.one v n) ∙ cond-false _ _ _ (ne_eqb l.two v m))

-- both ends of a link that may be used are offered what is ahead of the other
pub link_relaxed : {C : Type 0} (g : Ground C) (old mid new : List (Option C)) (j i : ℕ) (l : Link) (p : C)
    → length old ≡ 297 → j < 8
    → ((v : ℕ) → g.hop v i ≡ far_end l v) → p ≡ g.price i
    → mid ≡ set old ((j + 1) * 33 + l.one) (better g.kind.at_most (cell_at old (j + 1) l.one) (extended g.kind.joined p (cell_at old j l.two)))
    → new ≡ set mid ((j + 1) * 33 + l.two) (better g.kind.at_most (cell_at mid (j + 1) l.two) (extended g.kind.joined p (cell_at mid j l.one)))
    → Relaxed g old new j i
link_relaxed g old mid new j i l p len h leads price first second = record { here = here; below = below }
  where
    one_in : l.one < 33
    one_in = omega (arith, l.ends)

    two_in : l.two < 33
    two_in = omega (arith, l.ends)

    mid_other : (k w : ℕ) → w < 33 → (k ≡ j + 1 → l.one ≡ w → ⊥) → cell_at mid k w ≡ cell_at old k w
    mid_other k w a n = ap (λ cs. cell_at cs k w) first ∙ cell_other old (j + 1) l.one k w _ one_in a (λ e f. n e (sym f))

    new_other : (k w : ℕ) → w < 33 → (k ≡ j + 1 → l.two ≡ w → ⊥) → cell_at new k w ≡ cell_at mid k w
    new_other k w a n = ap (λ cs. cell_at cs k w) second ∙ cell_other mid (j + 1) l.two k w _ two_in a (λ e f. n e (sym f))

    mid_long : length mid ≡ 297
    mid_long = ap length first ∙ length-set old _ _ ∙ len

    below : (k w : ℕ) → k ≤ j → w < 33 → cell_at new k w ≡ cell_at old k w
    below k w a b = new_other k w b (λ e f. omega arith) ∙ mid_other k w b (λ e f. omega arith)

    here : (v : ℕ) → v < 33 → cell_at new (j + 1) v ≡ better g.kind.at_most (cell_at old (j + 1) v) (offer g (cell_at old j) v i)
    here v a =
        elim (cases_eq l.one v) [
          | inl e ↦
              new_other (j + 1) v a (λ x f. l.apart (e ∙ sym f))
              ∙ ap (cell_at mid (j + 1)) (sym e)
              ∙ ap (λ cs. cell_at cs (j + 1) l.one) first
              ∙ cell_same old (j + 1) l.one _ len (omega arith) one_in
              ∙ ap (λ w. better g.kind.at_most (cell_at old (j + 1) w) (extended g.kind.joined p (cell_at old j l.two))) e
              ∙ ap (λ c. better g.kind.at_most (cell_at old (j + 1) v) (extended g.kind.joined c (cell_at old j l.two))) price
              ∙ ap (better g.kind.at_most (cell_at old (j + 1) v)) (sym (offer_one g i l leads (cell_at old j) v e))
          | inr n ↦
              elim (cases_eq l.two v) [
                | inl e ↦
                    ap (cell_at new (j + 1)) (sym e)
                    ∙ ap (λ cs. cell_at cs (j + 1) l.two) second
                    ∙ cell_same mid (j + 1) l.two _ mid_long (omega arith) two_in
                    ∙ ap (λ c. better g.kind.at_most c (extended g.kind.joined p (cell_at mid j l.one))) (ap (cell_at mid (j + 1)) e ∙ mid_other (j + 1) v a (λ x f. n f))
                    ∙ ap (λ c. better g.kind.at_most (cell_at old (j + 1) v) (extended g.kind.joined p c)) (mid_other j l.one one_in (λ x f. omega arith))
                    ∙ ap (λ c. better g.kind.at_most (cell_at old (j + 1) v) (extended g.kind.joined c (cell_at old j l.one))) price
                    ∙ ap (better g.kind.at_most (cell_at old (j + 1) v)) (sym (offer_two g i l leads (cell_at old j) v n e))
                | inr m ↦
                    new_other (j + 1) v a (λ x f. m f)
                    ∙ mid_other (j + 1) v a (λ x f. n f)
                    ∙ sym (better_none g.kind.at_most (cell_at old (j + 1) v))
                    ∙ ap (better g.kind.at_most (cell_at old (j + 1) v)) (sym (offer_none g i l leads (cell_at old j) v n m))
              ]
        ]

-- a link that leads nowhere changes nothing
pub nothing_relaxed : {C : Type 0} (g : Ground C) (old : List (Option C)) (j i : ℕ) → ((v : ℕ) → g.hop v i ≡ None) → Relaxed g old old j i
nothing_relaxed g old j i leads = record {
  here = λ v h. sym (better_none g.kind.at_most (cell_at old (j + 1) v)) ∙ ap (better g.kind.at_most (cell_at old (j + 1) v)) (sym (ap (λ o. when_there o None (λ w. extended g.kind.joined (g.price i) (cell_at old j w))) (leads v)));
  below = λ k v a b. refl;
}

-- ---- a row

-- rows that agree give the same offers
over_same : {C : Type 0} (joined : C → C → C) (p : C) (f h : ℕ → Option C) (o : Option ℕ) → ((w : ℕ) → o ≡ Some w → f w ≡ h w) → when_there o None (λ w. extended joined p (f w)) ≡ when_there o None (λ w. extended joined p (h w))
over_same joined p f h None e = refl
over_same joined p f h (Some w) e = ap (extended joined p) (e w refl)

offer_same : {C : Type 0} (g : Ground C) → Within g → (f h : ℕ → Option C) → ((w : ℕ) → w < 33 → f w ≡ h w) → (v i : ℕ) → offer g f v i ≡ offer g h v i
offer_same g within f h same v i = over_same g.kind.joined (g.price i) f h (g.hop v i) (λ w e. same w (within v i w e))

-- no link has number 0
pub row_start : {C : Type 0} (g : Ground C) (ahead : ℕ → Option C) (v : ℕ) → g.hop v 0 ≡ None → None ≡ least_below g.kind.at_most (offer g ahead v) 1
row_start g ahead v h = sym (ap (λ o. when_there o None (λ w. extended g.kind.joined (g.price 0) (ahead w))) h)

-- one link more
pub row_more : {C : Type 0} (g : Ground C) → Within g → (old now new : List (Option C)) (j i : ℕ)
    → ((v : ℕ) → v < 33 → cell_at now (j + 1) v ≡ least_below g.kind.at_most (offer g (cell_at old j) v) i)
    → ((k v : ℕ) → k ≤ j → v < 33 → cell_at now k v ≡ cell_at old k v)
    → Relaxed g now new j i
    → ((v : ℕ) → v < 33 → cell_at new (j + 1) v ≡ least_below g.kind.at_most (offer g (cell_at old j) v) (i + 1))
    × ((k v : ℕ) → k ≤ j → v < 33 → cell_at new k v ≡ cell_at old k v)
row_more g within old now new j i here below more = (
  λ v h.
      more.here v h
      ∙ ap (λ c. better g.kind.at_most c (offer g (cell_at now j) v i)) (here v h)
      ∙ ap (better g.kind.at_most (least_below g.kind.at_most (offer g (cell_at old j) v) i)) (offer_same g within (cell_at now j) (cell_at old j) (λ w l. below j w (omega arith) l) v i)
      ∙ sym (ap (least_below g.kind.at_most (offer g (cell_at old j) v)) (add-one i)),
  λ k v a h. more.below k v a h ∙ below k v a h,
)

-- one row more of the table
pub table_more : {C : Type 0} (g : Ground C) → Within g → (t : ℕ) (old new : List (Option C)) (j : ℕ) → Tabled g t old j → NextRow g old new j → Tabled g t new (j + 1)
table_more g within t old new j tabled next k v a h =
    elim (cases_eq k (j + 1)) [
      | inl e ↦
          ap (λ x. cell_at new x v) e
          ∙ next.here v h
          ∙ least_same g.kind.at_most _ _ g.numbers (λ i. offer_same g within (cell_at old j) (table g t j) (λ w l. tabled j w (omega arith) l) v i)
          ∙ sym (ap (λ x. table g t x v) (e ∙ add-one j))
      | inr n ↦ next.below k v (omega arith) h ∙ tabled k v (omega arith) h
    ]

-- a row is done after the last link; the rows before it were left as they were
pub row_all : {C : Type 0} (g : Ground C) → Within g → (old mid new : List (Option C)) (j n : ℕ)
    → ((k v : ℕ) → k ≤ j → v < 33 → cell_at mid k v ≡ cell_at old k v)
    → ((v : ℕ) → v < 33 → cell_at new (j + 1) v ≡ least_below g.kind.at_most (offer g (cell_at mid j) v) n)
    → ((k v : ℕ) → k ≤ j → v < 33 → cell_at new k v ≡ cell_at mid k v)
    → n ≡ g.numbers → NextRow g old new j
row_all g within old mid new j n same here below e = record {
  here = λ v h.
      here v h
      ∙ least_same g.kind.at_most _ _ n (λ i. offer_same g within (cell_at mid j) (cell_at old j) (λ w l. same j w (omega arith) l) v i)
      ∙ ap (least_below g.kind.at_most (offer g (cell_at old j) v)) e;
  below = λ k v a h. below k v a h ∙ same k v a h;
}

-- one cell more is cleared
pub cleared_more : {C : Type 0} (start now new : List (Option C)) (j i : ℕ) → i < 33
    → new ≡ set now (j * 33 + i) None
    → ((v : ℕ) → v < i → cell_at now j v ≡ None)
    → ((k v : ℕ) → k < j → v < 33 → cell_at now k v ≡ cell_at start k v)
    → ((v : ℕ) → v < i + 1 → cell_at new j v ≡ None) × ((k v : ℕ) → k < j → v < 33 → cell_at new k v ≡ cell_at start k v)
cleared_more start now new j i l e here below = (
  below_more _ _
      (λ v a. ap (λ cs. cell_at cs j v) e ∙ cell_other now j i j v None l (omega arith) (λ _ f. omega arith) ∙ here v a)
      (ap (λ cs. cell_at cs j i) e ∙ cell_cleared now j i),
  λ k v a b. ap (λ cs. cell_at cs k v) e ∙ cell_other now j i k v None l b (λ f _. omega arith) ∙ below k v a b,
)

-- the row of no links
pub row_none : {C : Type 0} (none : C) (now new : List (Option C)) (t : ℕ) → length now ≡ 297 → new ≡ set now (0 * 33 + t) (Some none)
    → ((v : ℕ) → v < 33 → cell_at now 0 v ≡ None) → (v : ℕ) → v < 33 → cell_at new 0 v ≡ cond (eqb v t) (Some none) None
row_none none now new t len e clear v l =
    elim (cases_eq v t) [
      | inl s ↦
          ap (λ cs. cell_at cs 0 v) e ∙ ap (cell_at (set now (0 * 33 + t) (Some none)) 0) s
          ∙ cell_same now 0 t (Some none) len (omega arith) (omega arith)
          ∙ sym (cond-true _ _ _ (eq-eqb v t s))
      | inr n ↦
          ap (λ cs. cell_at cs 0 v) e
          ∙ get_or-set_other now (0 * 33 + t) (0 * 33 + v) (Some none) None (λ h. n (omega arith))
          ∙ clear v l
          ∙ sym (cond-false _ _ _ (ne_eqb v t n))
    ]

-- the first row is that of the table
pub table_none : {C : Type 0} (g : Ground C) (t : ℕ) (cells : List (Option C)) → ((v : ℕ) → v < 33 → cell_at cells 0 v ≡ cond (eqb v t) (Some g.kind.none) None) → Tabled g t cells 0
table_none g t cells h j v a l = let e : j ≡ 0 = omega arith in ap (λ x. cell_at cells x v) e ∙ h v l ∙ sym (ap (λ x. table g t x v) e)
