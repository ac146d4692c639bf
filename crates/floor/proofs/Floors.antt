-- Every plan has at least as many channels as the floor.
use Rattle.std.proofs.Common.{◌≡◌, ℕ, suc, ◌+◌, ◌-◌, ◌*◌, ◌<◌, ◌≤◌, Bool, true, false, cond, ◌&&◌, eqb, List, [], ◌∷◌, map, vec_len, sum_by, refl, ⊎_elim, suc-mul, mul_comm, div-lt_iff_lt-mul, arith}
use Rattle.std.specs.List.{AllByRecursion}
use Rattle.std.proofs.lemmas.Bool.{cases_Bool, eqb-false, and_parts, and_from}
use Rattle.calendar.specs.Week.{total}
use Rattle.network.specs.Paths.{has}
use Rattle.network.specs.declared.network.Network.{Network}
use Rattle.orders.specs.Standing.{runs_in}
use Rattle.floor.specs.Floor.{touches, ends_at, share, load, always, links_at, rounded_up, need}
use Rattle.floor.specs.Laws.{FloorByLaw, FloorLaw, EmptyFloor}
use Rattle.floor.specs.Plans.{Placed, on, Apart, Pairwise, Fits, Keeps, channels_of}
use Rattle.floor.proofs.Taken.{width_on, link_bound}
use Rattle.floor.proofs.Paths.{crossed_at}
use Rattle.floor.proofs.Sums.{sum_by_mono, sum_by_zero, sum_by_map, total_term, total_columns, total_times, greatest_least, greatest_zero}

-- ---- rounding up

-- w rounded up over k is the least d with w ≤ k * d
pub rounded_least : (w k d : ℕ) → w ≤ k * d → rounded_up w k ≤ d
rounded_least w k d h =
    ⊎_elim
    (λ (e : eqb k 0 ≡ true). rw e (omega arith))
    (λ (e : eqb k 0 ≡ false).
    let z : (k ≡ 0) → ⊥ = eqb-false k 0 e in
    let pos : 0 < k = omega arith in
    let below : w + (k - 1) < suc d * k = rw suc-mul (omega (arith, mul_comm k d)) in
    rw e (omega (arith, (div-lt_iff_lt-mul {k = k} {x = w + (k - 1)} {y = suc d} pos).1 below)))
    (cases_Bool (eqb k 0))

rounded_zero : (k : ℕ) → rounded_up 0 k ≡ 0
rounded_zero k = omega (arith, rounded_least 0 k 0 (omega arith))

-- ---- one place in one hour

module _ (counts : ℕ → ℕ → Bool) (net : Network) (v h : ℕ) where
  -- link i + 1 counts, and v is one of its ends
  counted : ℕ → Bool
  counted i = counts (suc i) h && touches net (suc i) v

  -- the width that p takes on that link
  part : Placed → ℕ → ℕ
  part p i = cond (counted i) (width_on (suc i) h p) 0

  -- an order that ends at v takes its width on one of the links there
  share_bound : (p : Placed) → Fits net p × Keeps counts p → share p.order v h ≤ total (vec_len net.links) (part p)
  unfolding counted part
  share_bound p (f, keeps) =
      ⊎_elim
      (λ (b : (ends_at p.order v && runs_in p.order h) ≡ true).
      let (at-v, runs) = and_parts (ends_at p.order v) (runs_in p.order h) b in
      let (i, inside, t, there) = crossed_at net p.order v p.path f.joins at-v in
      let o : on p (suc i) h ≡ true = and_from (has (suc i) p.path) (runs_in p.order h) there runs in
      let k : counted i ≡ true = and_from (counts (suc i) h) (touches net (suc i) v) (keeps (suc i) h o) t in
      let w : part p i ≡ p.order.width = rw (k, o) refl in
      rw b (omega (arith, w, total_term (vec_len net.links) (part p) i inside)))
      (λ (b : (ends_at p.order v && runs_in p.order h) ≡ false). rw b (omega arith))
      (cases_Bool (ends_at p.order v && runs_in p.order h))

  part_bound : (ps : List Placed) (i : ℕ) → AllByRecursion (Fits net) ps → Pairwise Apart ps → sum_by (λ p. part p i) ps ≤ cond (counted i) (channels_of ps) 0
  unfolding counted part
  part_bound ps i f a =
      ⊎_elim
      (λ (b : counted i ≡ true). rw b (link_bound net (suc i) h ps f a))
      (λ (b : counted i ≡ false). rw b (omega (arith, sum_by_zero ps)))
      (cases_Bool (counted i))

both : {X : Type 0} (P Q : X → Type 0) (xs : List X) → AllByRecursion P xs → AllByRecursion Q xs → AllByRecursion (λ x. P x × Q x) xs
both P Q [] p q = tt
both P Q (x ∷ xs) p q = ((p.0, q.0), both P Q xs p.1 q.1)

-- the load at a place fits the channels of its links
pub load_bound : (counts : ℕ → ℕ → Bool) (net : Network) (v h : ℕ) (ps : List Placed) → AllByRecursion (Fits net) ps → Pairwise Apart ps → AllByRecursion (Keeps counts) ps → load (map (λ p. p.order) ps) v h ≤ links_at counts net v h * channels_of ps
unfolding counted part
load_bound counts net v h ps f a keeps =
    let links = vec_len net.links in
    omega (
      arith,
      sum_by_map (λ (p : Placed). p.order) (λ o. share o v h) ps,
      sum_by_mono (λ p. Fits net p × Keeps counts p) (λ p. share p.order v h) (λ p. total links (part counts net v h p)) ps (both (Fits net) (Keeps counts) ps f keeps) (share_bound counts net v h),
      total_columns links (part counts net v h) ps (λ i. cond (counted counts net v h i) (channels_of ps) 0) (λ i _. part_bound counts net v h ps i f a),
      total_times links (counted counts net v h) (channels_of ps),
    )

-- ---- the laws

pub floor_by_law : FloorByLaw
floor_by_law counts net orders ps plan keeps =
    greatest_least net.places _ (channels_of ps) (λ v _. greatest_least 168 (λ h. need counts net orders (suc v) h) (channels_of ps) (λ h _. rounded_least (load orders (suc v) h) (links_at counts net (suc v) h) (channels_of ps)
    (rw plan.all at (load_bound counts net (suc v) h ps plan.fit plan.apart keeps))))

all_keep : (ps : List Placed) → AllByRecursion (Keeps always) ps
all_keep [] = tt
all_keep (p ∷ ps) = ((λ l h _. refl), all_keep ps)

pub floor_law : FloorLaw
floor_law net orders ps plan = floor_by_law always net orders ps plan (all_keep ps)

pub empty_floor : EmptyFloor
empty_floor net = greatest_zero net.places _ (λ v. greatest_zero 168 _ (λ h. rounded_zero (links_at always net (suc v) h)))
