-- A timetable's rows.
use Rattle.std.proofs.Common.{◌≡◌, ℕ, suc, ◌+◌, ◌-◌, ◌<◌, ◌≤◌, min, true, false, cond, not, ◌&&◌, eqb, ◌≢◌, List, length, get_or, set, Ok, Err, sym, refl, ap, ◌∙◌, subst, ⊎_elim, arith, length-set, get_or-set_other, get_or-set_same}
use Rattle.std.proofs.lemmas.Bool.{cases_Bool, cases_eq, cases_lt, and_parts, and_from, eqb-true, eq-eqb, ne_eqb, cond-true, cond-false, cond_both, not_from_true, not-false}
use Rattle.calendar.specs.Week.{any, total, later, covers}
use Rattle.calendar.specs.Numbers.{answer_number}
use Rattle.calendar.specs.Meaning.{Meaning, Sound, within, proper, meets, is_held, live_count, room_of, with_run, put, hold_number, after_hold, release_number, after_release}
use Rattle.calendar.specs.Rows.{Kept, no_run, starts, row_live, used, tabled, on_cell}
use Rattle.calendar.specs.declared.run.Run.{Run}
use Rattle.calendar.specs.declared.refusal.PlantRefusal.TheVariants.{CellHeld, NoRoom, NoSuchRun}
use Rattle.calendar.proofs.Sums.{bool_same, any_intro, any_elim, any_false, total_point, total_zero, total_some, total_ones, total_most}
use Rattle.calendar.proofs.Plants.{inside_parts, inside_from, proper_parts}
use Rattle.calendar.proofs.Kept.{count_at, none_there, hold_sound, release_sound}

pub starts_parts : (r : Run) (l c f : ℕ) → starts r l c f ≡ true → (l ≡ r.link) × (c ≡ r.channel) × (f ≡ r.first)
unfolding starts
starts_parts r l c f e =
    let a = and_parts (eqb l r.link) (eqb c r.channel && eqb f r.first) e in
    let b = and_parts (eqb c r.channel) (eqb f r.first) a.1 in
    (eqb-true l r.link a.0, eqb-true c r.channel b.0, eqb-true f r.first b.1)

pub starts_own : (r : Run) → starts r r.link r.channel r.first ≡ true
unfolding starts
starts_own r = and_from (eqb r.link r.link) _ (eq-eqb r.link r.link refl) (and_from (eqb r.channel r.channel) _ (eq-eqb r.channel r.channel refl) (eq-eqb r.first r.first refl))

-- a row's share of what is live at a cell
abbrev share : Run → ℕ → ℕ → ℕ → ℕ
share r l c f = cond (starts r l c f) r.hours 0

share_pos : (r : Run) (l c f : ℕ) → 0 < share r l c f → (starts r l c f ≡ true) × (0 < r.hours)
share_pos r l c f h =
    ⊎_elim (λ e. (e, rw (cond-true (starts r l c f) r.hours 0 e) at h)) (λ e. absurd (let z : share r l c f ≡ 0 = cond-false (starts r l c f) r.hours 0 e in omega (arith, h, z))) (cases_Bool (starts r l c f))

module _ (rows : List Run) (ls cs : ℕ) (k : Kept rows ls cs) where
  m : Meaning
  m = tabled rows ls cs

  pub live_at : (i : ℕ) → i < length rows → 0 < (get_or rows i no_run).hours → row_live rows (get_or rows i no_run).link (get_or rows i no_run).channel (get_or rows i no_run).first ≡ (get_or rows i no_run).hours
  unfolding row_live
  live_at i h p =
      let r = get_or rows i no_run in
      let F : ℕ → ℕ = λ j. share (get_or rows j no_run) r.link r.channel r.first in
      let one = total_point (length rows) F (λ _. 0) i h
      (λ j b ne. ⊎_elim (λ (q : 0 < F j). let w = share_pos (get_or rows j no_run) r.link r.channel r.first q in absurd (ne (k.alone j i b h w.1 p w.0))) (λ q. omega (arith, q)) (cases_lt 0 (F j))) in
      let none = total_zero (length rows) (λ _. 0) (λ _ _. refl) in
      let own : F i ≡ r.hours = cond-true (starts r r.link r.channel r.first) r.hours 0 (starts_own r) in
      omega (arith, one, none, own)

  pub live_from : (l c f : ℕ) → 0 < row_live rows l c f → (i : ℕ) × (i < length rows) × (0 < (get_or rows i no_run).hours) × (starts (get_or rows i no_run) l c f ≡ true)
  unfolding row_live
  live_from l c f h =
      let w = total_some (length rows) (λ j. share (get_or rows j no_run) l c f) h in
      let q = share_pos (get_or rows w.0 no_run) l c f w.2 in
      (w.0, w.1, q.1, q.0)

  pub held_rows : (l c h : ℕ) → is_held (tabled rows ls cs) l c h ≡ any (length rows) (λ i. on_cell (get_or rows i no_run) l c h)
  unfolding is_held covers
  held_rows l c h =
      bool_same (any 168 (λ f. covers f (row_live rows l c f) h)) (any (length rows) (λ i. on_cell (get_or rows i no_run) l c h))
      (λ e.
      let w = any_elim 168 (λ f. covers f (row_live rows l c f) h) e in
      let f = w.0 in
      let z = any_elim (row_live rows l c f) (λ j. eqb (later f j) h) w.2 in
      let q = live_from l c f (omega (arith, z.1)) in
      let r = get_or rows q.0 no_run in
      let s = starts_parts r l c f q.3 in
      let n : row_live rows l c f ≡ r.hours = ap (λ x. row_live rows x c f) s.0 ∙ ap (λ x. row_live rows r.link x f) s.1 ∙ ap (row_live rows r.link r.channel) s.2 ∙ live_at q.0 q.1 q.2 in
      let cov : covers r.first r.hours h ≡ true = subst (λ x. covers x r.hours h ≡ true) s.2 (subst (λ x. covers f x h ≡ true) n w.2) in
      any_intro (length rows) (λ i. on_cell (get_or rows i no_run) l c h) q.0 q.1 (and_from (eqb l r.link && eqb c r.channel) (covers r.first r.hours h) (and_from (eqb l r.link) (eqb c r.channel) (eq-eqb l r.link s.0) (eq-eqb c r.channel s.1)) cov))
      (λ e.
      let w = any_elim (length rows) (λ i. on_cell (get_or rows i no_run) l c h) e in
      let r = get_or rows w.0 no_run in
      let a = and_parts (eqb l r.link && eqb c r.channel) (covers r.first r.hours h) w.2 in
      let b = and_parts (eqb l r.link) (eqb c r.channel) a.0 in
      let z = any_elim r.hours (λ j. eqb (later r.first j) h) a.1 in
      let n = live_at w.0 w.1 (omega (arith, z.1)) in
      let ins = inside_parts (tabled rows ls cs) r.link r.channel r.first (k.sound.live_inside r.link r.channel r.first (omega (arith, n, z.1))) in
      let el = eqb-true l r.link b.0 in
      let ec = eqb-true c r.channel b.1 in
      any_intro 168 (λ f. covers f (row_live rows l c f) h) r.first ins.4 (subst (λ x. covers r.first x h ≡ true) (sym (ap (λ x. row_live rows x c r.first) el ∙ ap (λ x. row_live rows r.link x r.first) ec ∙ n)) a.1))

  pub rows_room : room_of (tabled rows ls cs) ≡ length rows - used rows
  unfolding room_of
  rows_room = ap (λ x. length rows - x) k.counted

-- another row at i
pub live_set : (rows : List Run) (i : ℕ) (r : Run) → i < length rows → (l c f : ℕ) → row_live (set rows i r) l c f + share (get_or rows i no_run) l c f ≡ row_live rows l c f + share r l c f
unfolding row_live
live_set rows i r h l c f =
    let F : ℕ → ℕ = λ j. share (get_or (set rows i r) j no_run) l c f in
    let G : ℕ → ℕ = λ j. share (get_or rows j no_run) l c f in
    let one = total_point (length rows) F G i h (λ j _ ne. ap (λ x. share x l c f) (let d : j ≢ i = ne in get_or-set_other rows i j r no_run d)) in
    let own : F i ≡ share r l c f = ap (λ x. share x l c f) (get_or-set_same rows i r no_run h) in
    let len : total (length (set rows i r)) F ≡ total (length rows) F = ap (λ x. total x F) (length-set rows i r) in
    omega (arith, one, own, len)

pub used_set : (rows : List Run) (i : ℕ) (r : Run) → i < length rows → used (set rows i r) + min 1 (get_or rows i no_run).hours ≡ used rows + min 1 r.hours
unfolding used
used_set rows i r h =
    let F : ℕ → ℕ = λ j. min 1 (get_or (set rows i r) j no_run).hours in
    let G : ℕ → ℕ = λ j. min 1 (get_or rows j no_run).hours in
    let one = total_point (length rows) F G i h (λ j _ ne. ap (λ x. min 1 x.hours) (let d : j ≢ i = ne in get_or-set_other rows i j r no_run d)) in
    let own : F i ≡ min 1 r.hours = ap (λ x. min 1 x.hours) (get_or-set_same rows i r no_run h) in
    let len : total (length (set rows i r)) F ≡ total (length rows) F = ap (λ x. total x F) (length-set rows i r) in
    omega (arith, one, own, len)

share_none : (r : Run) (l c f : ℕ) → r.hours ≡ 0 → share r l c f ≡ 0
share_none r l c f e = cond_both (starts r l c f) r.hours 0 (λ x. x ≡ 0) (λ _. e) (λ _. refl)

equal_runs : (q r : Run) → q.link ≡ r.link → q.channel ≡ r.channel → q.first ≡ r.first → q.hours ≡ r.hours → q ≡ r
equal_runs q r a b c d = λ i. record { link = a i; channel = b i; first = c i; hours = d i }

retable : (rows : List Run) (ls cs n : ℕ) (g : ℕ → ℕ → ℕ → ℕ) → n ≡ length rows → ((l c f : ℕ) → row_live rows l c f ≡ g l c f) → tabled rows ls cs ≡ record { links = ls; channels = cs; limit = n; closed = λ x y h. not (within ls cs x y h); live = g }
retable rows ls cs n g e h = λ i. record { links = ls; channels = cs; limit = sym e i; closed = λ x y h. not (within ls cs x y h); live = λ l c f. h l c f i }

module _ (rows : List Run) (ls cs : ℕ) (k : Kept rows ls cs) (i : ℕ) (h : i < length rows) (r : Run) (ok : proper (tabled rows ls cs) r ≡ true) where
  module _ (empty : (get_or rows i no_run).hours ≡ 0) (free : meets (is_held (tabled rows ls cs)) r ≡ false) where
    vacant : row_live rows r.link r.channel r.first ≡ 0
    vacant = none_there (tabled rows ls cs) k.sound r ok free

    row_put : (l c f : ℕ) → row_live (set rows i r) l c f ≡ put (row_live rows) r.link r.channel r.first r.hours l c f
    unfolding put starts
    row_put l c f =
        let e = live_set rows i r h l c f in
        let z = share_none (get_or rows i no_run) l c f empty in
        ⊎_elim
        (λ (t : starts r l c f ≡ true).
        let p = starts_parts r l c f t in
        let v : row_live rows l c f ≡ 0 = ap (λ x. row_live rows x c f) p.0 ∙ ap (λ x. row_live rows r.link x f) p.1 ∙ ap (row_live rows r.link r.channel) p.2 ∙ vacant in
        let s : share r l c f ≡ r.hours = cond-true (starts r l c f) r.hours 0 t in
        let n : row_live (set rows i r) l c f ≡ r.hours = omega (arith, e, z, v, s) in
        n ∙ sym (cond-true (starts r l c f) r.hours (row_live rows l c f) t))
        (λ (t : starts r l c f ≡ false).
        let s : share r l c f ≡ 0 = cond-false (starts r l c f) r.hours 0 t in
        let n : row_live (set rows i r) l c f ≡ row_live rows l c f = omega (arith, e, z, s) in
        n ∙ sym (cond-false (starts r l c f) r.hours (row_live rows l c f) t))
        (cases_Bool (starts r l c f))

    pub tabled_put : tabled (set rows i r) ls cs ≡ with_run (tabled rows ls cs) r r.hours
    unfolding with_run
    tabled_put = retable (set rows i r) ls cs (length rows) (put (row_live rows) r.link r.channel r.first r.hours) (sym (length-set rows i r)) row_put

    pub hold_kept : live_count (tabled rows ls cs) < length rows → Kept (set rows i r) ls cs
    hold_kept room = record {
      sound = subst Sound (sym tabled_put) (hold_sound (tabled rows ls cs) k.sound r ok free room);
      counted = ap live_count tabled_put ∙ counted_put;
      alone = alone_put;
    } where
      counted_put : live_count (with_run (tabled rows ls cs) r r.hours) ≡ used (set rows i r)
      counted_put =
          omega (arith, count_at (tabled rows ls cs) k.sound r ok r.hours, vacant, k.counted, used_set rows i r h, empty)

      at_place : (j : ℕ) → j < length rows → 0 < (get_or rows j no_run).hours → (get_or rows j no_run).link ≡ r.link → (get_or rows j no_run).channel ≡ r.channel → (get_or rows j no_run).first ≡ r.first → ⊥
      at_place j b p x y z =
          let q = get_or rows j no_run in
          let n = live_at rows ls cs k j b p in
          let e : row_live rows q.link q.channel q.first ≡ 0 = ap (λ v. row_live rows v q.channel q.first) x ∙ ap (λ v. row_live rows r.link v q.first) y ∙ ap (row_live rows r.link r.channel) z ∙ vacant in
          omega (arith, n, e, p)

      alone_put : (a b : ℕ) → a < length (set rows i r) → b < length (set rows i r) → 0 < (get_or (set rows i r) a no_run).hours → 0 < (get_or (set rows i r) b no_run).hours → starts (get_or (set rows i r) a no_run) (get_or (set rows i r) b no_run).link (get_or (set rows i r) b no_run).channel (get_or (set rows i r) b no_run).first ≡ true → a ≡ b
      alone_put a b la lb pa pb t =
          let len = length-set rows i r in
          let same = get_or-set_same rows i r no_run h in
          ⊎_elim
          (λ (ea : a ≡ i). ⊎_elim
          (λ (eb : b ≡ i). ea ∙ sym eb)
          (λ (nb : b ≢ i).
          let ob = get_or-set_other rows i b r no_run nb in
          let ga : get_or (set rows i r) a no_run ≡ r = ap (λ x. get_or (set rows i r) x no_run) ea ∙ same in
          let p = starts_parts r (get_or rows b no_run).link (get_or rows b no_run).channel (get_or rows b no_run).first (rw (ga, ob) at t) in
          absurd (at_place b (omega (arith, lb, len)) (rw ob at pb) p.0 p.1 p.2))
          (cases_eq b i))
          (λ (na : a ≢ i).
          let oa = get_or-set_other rows i a r no_run na in
          ⊎_elim
          (λ (eb : b ≡ i).
          let gb : get_or (set rows i r) b no_run ≡ r = ap (λ x. get_or (set rows i r) x no_run) eb ∙ same in
          let p = starts_parts (get_or rows a no_run) r.link r.channel r.first (rw (oa, gb) at t) in
          absurd (at_place a (omega (arith, la, len)) (rw oa at pa) (sym p.0) (sym p.1) (sym p.2)))
          (λ (nb : b ≢ i).
          let ob = get_or-set_other rows i b r no_run nb in
          k.alone a b (omega (arith, la, len)) (omega (arith, lb, len)) (rw oa at pa) (rw ob at pb) (rw (oa, ob) at t))
          (cases_eq b i))
          (cases_eq a i)

  module _ (there : get_or rows i no_run ≡ r) where
    full : row_live rows r.link r.channel r.first ≡ r.hours
    full = subst (λ x. row_live rows x.link x.channel x.first ≡ x.hours) there (live_at rows ls cs k i h (rw there (omega (arith, (proper_parts (tabled rows ls cs) r ok).1))))

    row_cut : (l c f : ℕ) → row_live (set rows i no_run) l c f ≡ put (row_live rows) r.link r.channel r.first 0 l c f
    unfolding put starts
    row_cut l c f =
        let e = live_set rows i no_run h l c f in
        let z = share_none no_run l c f refl in
        let w : share (get_or rows i no_run) l c f ≡ share r l c f = ap (λ x. share x l c f) there in
        ⊎_elim
        (λ (t : starts r l c f ≡ true).
        let p = starts_parts r l c f t in
        let v : row_live rows l c f ≡ r.hours = ap (λ x. row_live rows x c f) p.0 ∙ ap (λ x. row_live rows r.link x f) p.1 ∙ ap (row_live rows r.link r.channel) p.2 ∙ full in
        let s : share r l c f ≡ r.hours = cond-true (starts r l c f) r.hours 0 t in
        let n : row_live (set rows i no_run) l c f ≡ 0 = omega (arith, e, z, v, s, w) in
        n ∙ sym (cond-true (starts r l c f) 0 (row_live rows l c f) t))
        (λ (t : starts r l c f ≡ false).
        let s : share r l c f ≡ 0 = cond-false (starts r l c f) r.hours 0 t in
        let n : row_live (set rows i no_run) l c f ≡ row_live rows l c f = omega (arith, e, z, s, w) in
        n ∙ sym (cond-false (starts r l c f) 0 (row_live rows l c f) t))
        (cases_Bool (starts r l c f))

    pub tabled_cut : tabled (set rows i no_run) ls cs ≡ with_run (tabled rows ls cs) r 0
    unfolding with_run
    tabled_cut = retable (set rows i no_run) ls cs (length rows) (put (row_live rows) r.link r.channel r.first 0) (sym (length-set rows i no_run)) row_cut

    pub release_kept : Kept (set rows i no_run) ls cs
    release_kept = record {
      sound = subst Sound (sym tabled_cut) (release_sound (tabled rows ls cs) k.sound r ok);
      counted = ap live_count tabled_cut ∙ counted_cut;
      alone = alone_cut;
    } where
      counted_cut : live_count (with_run (tabled rows ls cs) r 0) ≡ used (set rows i no_run)
      counted_cut =
          let t : (get_or rows i no_run).hours ≡ r.hours = ap (λ x. x.hours) there in
          omega (arith, count_at (tabled rows ls cs) k.sound r ok 0, full, k.counted, used_set rows i no_run h, t, (proper_parts (tabled rows ls cs) r ok).1)

      other : (a : ℕ) → 0 < (get_or (set rows i no_run) a no_run).hours → a ≢ i
      other a p = λ e. let g : (get_or (set rows i no_run) a no_run).hours ≡ 0 = ap (λ x. (get_or (set rows i no_run) x no_run).hours) e ∙ ap (λ x. x.hours) (get_or-set_same rows i no_run no_run h) in omega (arith, p, g)

      alone_cut : (a b : ℕ) → a < length (set rows i no_run) → b < length (set rows i no_run) → 0 < (get_or (set rows i no_run) a no_run).hours → 0 < (get_or (set rows i no_run) b no_run).hours → starts (get_or (set rows i no_run) a no_run) (get_or (set rows i no_run) b no_run).link (get_or (set rows i no_run) b no_run).channel (get_or (set rows i no_run) b no_run).first ≡ true → a ≡ b
      alone_cut a b la lb pa pb t =
          let len = length-set rows i no_run in
          let oa = get_or-set_other rows i a no_run no_run (other a pa) in
          let ob = get_or-set_other rows i b no_run no_run (other b pb) in
          k.alone a b (omega (arith, la, len)) (omega (arith, lb, len)) (rw oa at pa) (rw ob at pb) (rw (oa, ob) at t)

-- the answers of a timetable
pub never_closed : (rows : List Run) (ls cs : ℕ) (r : Run) → proper (tabled rows ls cs) r ≡ true → meets (tabled rows ls cs).closed r ≡ false
unfolding meets
never_closed rows ls cs r ok =
    let p = inside_parts (tabled rows ls cs) r.link r.channel r.first (proper_parts (tabled rows ls cs) r ok).0 in
    any_false r.hours (λ j. not (within ls cs r.link r.channel (later r.first j)))
    (λ j _. not_from_true (within ls cs r.link r.channel (later r.first j)) (inside_from (tabled rows ls cs) r.link r.channel (later r.first j) p.0 p.1 p.2 p.3 (omega arith)))

module _ (rows : List Run) (ls cs : ℕ) (k : Kept rows ls cs) (r : Run) (ok : proper (tabled rows ls cs) r ≡ true) where
  pub held_answer : meets (is_held (tabled rows ls cs)) r ≡ true → record { answer : answer_number (Err CellHeld) ≡ hold_number (tabled rows ls cs) r; after : tabled rows ls cs ≡ after_hold (tabled rows ls cs) r }
  unfolding hold_number after_hold
  held_answer t = let e : hold_number (tabled rows ls cs) r ≡ 23 = rw (ok, never_closed rows ls cs r ok, t) in record { answer = sym e; after = rw e }

  module _ (free : meets (is_held (tabled rows ls cs)) r ≡ false) where
    pub full_answer : ((j : ℕ) → j < length rows → 0 < (get_or rows j no_run).hours) → record { answer : answer_number (Err NoRoom) ≡ hold_number (tabled rows ls cs) r; after : tabled rows ls cs ≡ after_hold (tabled rows ls cs) r }
    unfolding hold_number after_hold used
    full_answer all =
        let u : used rows ≡ length rows = total_ones (length rows) (λ j. min 1 (get_or rows j no_run).hours) (λ j l. omega (arith, all j l)) in
        let z : room_of (tabled rows ls cs) ≡ 0 = rows_room rows ls cs k ∙ omega (arith, u) in
        let e : hold_number (tabled rows ls cs) r ≡ 24 = rw (ok, never_closed rows ls cs r ok, free, z) in
        record { answer = sym e; after = rw e }

    module _ (i : ℕ) (h : i < length rows) (empty : (get_or rows i no_run).hours ≡ 0) where
      pub spare : used rows < length rows
      unfolding used
      spare =
          let F : ℕ → ℕ = λ j. min 1 (get_or rows j no_run).hours in
          let one = total_point (length rows) F (λ j. cond (eqb j i) 1 (F j)) i h (λ j _ ne. sym (cond-false (eqb j i) 1 (F j) (ne_eqb j i ne))) in
          let most = total_most (length rows) (λ j. cond (eqb j i) 1 (F j)) (λ j. cond_both (eqb j i) 1 (F j) (λ x. x ≤ 1) (λ _. omega arith) (λ _. omega arith)) in
          let own : cond (eqb i i) 1 (F i) ≡ 1 = cond-true (eqb i i) 1 (F i) (eq-eqb i i refl) in
          let was : F i ≡ 0 = omega (arith, empty) in
          omega (arith, one, most, own, was)

      pub put_answer : record { answer : answer_number (Ok tt) ≡ hold_number (tabled rows ls cs) r; after : tabled (set rows i r) ls cs ≡ after_hold (tabled rows ls cs) r }
      unfolding hold_number after_hold
      put_answer =
          let z : eqb (room_of (tabled rows ls cs)) 0 ≡ false = ne_eqb (room_of (tabled rows ls cs)) 0 (λ q. omega (arith, q, rows_room rows ls cs k, spare)) in
          let e : hold_number (tabled rows ls cs) r ≡ 0 = rw (ok, never_closed rows ls cs r ok, free, z) in
          record { answer = sym e; after = tabled_put rows ls cs k i h r ok empty free ∙ (rw e) }

      pub put_kept : Kept (set rows i r) ls cs
      put_kept = hold_kept rows ls cs k i h r ok empty free (omega (arith, spare, k.counted))

  pub cut_answer : (i : ℕ) → i < length rows → get_or rows i no_run ≡ r → record { answer : answer_number (Ok tt) ≡ release_number (tabled rows ls cs) r; after : tabled (set rows i no_run) ls cs ≡ after_release (tabled rows ls cs) r }
  unfolding release_number after_release
  cut_answer i h there =
      let z : eqb (row_live rows r.link r.channel r.first) r.hours ≡ true = eq-eqb (row_live rows r.link r.channel r.first) r.hours (full rows ls cs k i h r ok there) in
      let e : release_number (tabled rows ls cs) r ≡ 0 = rw (ok, z) in
      record { answer = sym e; after = tabled_cut rows ls cs k i h r ok there ∙ (rw e) }

  pub lost_answer : ((j : ℕ) → j < length rows → get_or rows j no_run ≡ r → ⊥) → record { answer : answer_number (Err NoSuchRun) ≡ release_number (tabled rows ls cs) r; after : tabled rows ls cs ≡ after_release (tabled rows ls cs) r }
  unfolding release_number after_release
  lost_answer none =
      let z : eqb (row_live rows r.link r.channel r.first) r.hours ≡ false = ne_eqb (row_live rows r.link r.channel r.first) r.hours (λ q.
      let w = live_from rows ls cs k r.link r.channel r.first (omega (arith, q, (proper_parts (tabled rows ls cs) r ok).1)) in
      let p = starts_parts (get_or rows w.0 no_run) r.link r.channel r.first w.3 in
      let n = live_at rows ls cs k w.0 w.1 w.2 in
      let s = get_or rows w.0 no_run in
      let hrs : s.hours ≡ r.hours = sym n ∙ sym (ap (λ x. row_live rows x r.channel r.first) p.0 ∙ ap (λ x. row_live rows s.link x r.first) p.1 ∙ ap (row_live rows s.link s.channel) p.2) ∙ q in
      none w.0 w.1 (equal_runs s r (sym p.0) (sym p.1) (sym p.2) hrs)) in
      let e : release_number (tabled rows ls cs) r ≡ 25 = rw (ok, z) in
      record { answer = sym e; after = rw e }

pub dead_rows : (rows : List Run) → ((j : ℕ) → j < length rows → (get_or rows j no_run).hours ≡ 0) → (l c f : ℕ) → row_live rows l c f ≡ 0
unfolding row_live
dead_rows rows none l c f = total_zero (length rows) (λ j. share (get_or rows j no_run) l c f) (λ j h. share_none (get_or rows j no_run) l c f (none j h))

-- rows that are all empty
pub empty_kept : (rows : List Run) (ls cs : ℕ) → 1 ≤ ls → ls ≤ 40 → 1 ≤ cs → cs ≤ 16 → ((j : ℕ) → j < length rows → (get_or rows j no_run).hours ≡ 0) → Kept rows ls cs
unfolding used live_count
empty_kept rows ls cs a b c d none =
    record {
      sound = record {
        some_links = a;
        few_links = b;
        some_channels = c;
        few_channels = d;
        open_inside = λ l q h e. not-false (within ls cs l q h) e;
        live_inside = λ l q f h. absurd (omega (arith, h, dead l q f));
        live_short = λ l q f. omega (arith, dead l q f);
        apart = λ l q f g i j h _ _. absurd (omega (arith, h, dead l q f));
        few = omega (arith, count);
      };
      counted = count ∙ sym (total_zero (length rows) (λ j. min 1 (get_or rows j no_run).hours) (λ j h. omega (arith, none j h)));
      alone = λ i j h _ p _ _. absurd (omega (arith, none i h, p));
    } where
      dead : (l q f : ℕ) → row_live rows l q f ≡ 0
      dead l q f = dead_rows rows none l q f

      count : total ls (λ l. total cs (λ q. total 168 (λ f. min 1 (row_live rows (suc l) (suc q) f)))) ≡ 0
      count = total_zero ls _ (λ l _. total_zero cs _ (λ q _. total_zero 168 (λ f. min 1 (row_live rows (suc l) (suc q) f)) (λ f _. omega (arith, dead (suc l) (suc q) f))))
