-- What the calls of a map answer and leave, by its words.
use Rattle.std.proofs.Common.{◌≡◌, ℕ, ◌+◌, ◌-◌, ◌*◌, ◌<◌, ◌≤◌, Bool, true, false, cond, not, ◌&&◌, ◌||◌, eqb, ltb, leb, List, length, Some, None, sym, refl, ap, ◌∙◌, subst, mul_comm, arith}
use Rattle.std.proofs.lemmas.Nat.{mul-le}
use Rattle.std.proofs.lemmas.Bool.{and_parts, and_left, and_from, le-leb, cond-true, eq-eqb, eqb-true, leb-true, ne_eqb, not-true, not-false, not_from_true}
use Rattle.calendar.specs.Week.{any, least, later, covers}
use Rattle.calendar.specs.Meaning.{size_of, within, fits, proper, meets, is_held, live_count, room_of, with_run, hold_number, after_hold, release_number, after_release, taken, free_hours, first_taken}
use Rattle.calendar.specs.declared.run.Run.{Run}
use Rattle.calendar.specs.declared.run.Size.{Size}
use Rattle.calendar.proofs.Kept.{count_at, none_there}
use Rattle.calendar.proofs.Plants.{proper_size, refused_hold, refused_release}
use Rattle.calendar.proofs.Leasts.{least_cong}
use Rattle.calendar.proofs.Sums.{any_cong, any_false}
use Rattle.hour_bits.specs.Bits.{row, bits, hours_of, has_run, first_set, more_hours, fewer_hours, Shown, Stored, Marked, Unmarked}
use Rattle.hour_bits.specs.declared.row.LiveRuns.{LiveRuns}
use Rattle.hour_bits.specs.Tables.{mapped, base_of, held_in, start_in, words_mean, Kept, Placed, Spare}
use Rattle.hour_bits.proofs.Circle.{free_from}
use Rattle.hour_bits.proofs.Runs.{RunAt, second_false, run_there, hours_some}
use Rattle.hour_bits.proofs.Tables.{Within, Sounds, within_parts, within_from, same_hours, live_hours, hold_means, hold_sounds, release_means, release_sounds}
use Rattle.hour_bits.proofs.Places.{row_fits, held_changed, start_changed, past_rows}
use Rattle.hour_bits.proofs.Mapped.{count_bound, mapped_held}
use Rattle.hour_bits.proofs.Keeping.{kept_sounds, kept_sound}

pub words_proper : (ws : List ℕ) (L C : ℕ) (r : Run) → proper (words_mean ws L C) r ≡ fits L C r
unfolding proper mapped
words_proper ws L C r = refl

-- a run that fits the size that the words tell
pub words_fit : (ws : List ℕ) (L C : ℕ) (r : Run) (s : Size) → s ≡ size_of (words_mean ws L C) → fits L C r ≡ fits s.links s.channels r
words_fit ws L C r s e = sym (proper_size (words_mean ws L C) r s e ∙ words_proper ws L C r)

pub fits_parts : (L C : ℕ) (r : Run) → fits L C r ≡ true → Within L C r.link r.channel × (r.first < 168) × (1 ≤ r.hours) × (r.hours ≤ 168)
fits_parts L C r e =
    let a = and_parts (within L C r.link r.channel r.first) (leb 1 r.hours && leb r.hours 168) e in
    let w = within_parts L C r.link r.channel r.first a.0 in
    let b = and_parts (leb 1 r.hours) (leb r.hours 168) a.1 in
    (w.0, w.1, leb-true 1 r.hours b.0, leb-true r.hours 168 b.1)

pub placed : (ws : List ℕ) (L C : ℕ) (r : Run) → Kept ws L C → fits L C r ≡ true → Placed ws L C r (base_of C r.link r.channel)
placed ws L C r k e =
    let p = fits_parts L C r e in
    record { fit = e; base = refl; room = omega (arith, row_fits L C r.link r.channel p.0, k.enough); first = p.1; some = p.2; most = p.3 }

-- a run of one hour fits where its cell is within the sizes
pub cell_fits : (L C l c h : ℕ) → fits L C (record { link = l; channel = c; first = h; hours = 1 }) ≡ within L C l c h
cell_fits L C l c h = and_true (within L C l c h)
  where
    and_true : (b : Bool) → (b && true) ≡ b
    and_true true = refl
    and_true false = refl

-- the rows of a link end within the words
pub link_fits : (ws : List ℕ) (L C l : ℕ) → Kept ws L C → 1 ≤ l → l ≤ L → base_of C l 1 + C * 6 ≤ length ws
link_fits ws L C l k p q =
    let e : (l - 1) + 1 ≡ l = omega arith in
    let d = mul-le l C L C q (omega arith) in
    let s : l * C ≡ (l - 1) * C + C = sym (ap (λ x. x * C) e) ∙ mul_comm ((l - 1) + 1) C ∙ spread (l - 1) C in
    let enough = k.enough in
    omega arith
  where
    spread : (x y : ℕ) → y * (x + 1) ≡ x * y + y
    spread x y = let e = mul_comm x y in grind arith

open_taken : (w h b : Bool) → w ≡ true → h ≡ b → (not w || h) ≡ b
open_taken w h b e f = ap (λ x. not x || h) e ∙ f

module _ (ws : List ℕ) (L C : ℕ) (k : Kept ws L C) where
  cell_held : (l c h : ℕ) → Within L C l c → h < 168 → is_held (words_mean ws L C) l c h ≡ held_in ws C l c h
  cell_held l c h w p = mapped_held L C (held_in ws C) (start_in ws C) (kept_sounds ws L C k) l c h ∙ ap (λ b. b && held_in ws C l c h) (within_from L C l c h w p)

  pub held_outside : (l c h : ℕ) → within L C l c h ≡ false → false ≡ is_held (words_mean ws L C) l c h
  held_outside l c h e = sym (mapped_held L C (held_in ws C) (start_in ws C) (kept_sounds ws L C k) l c h ∙ and_left (within L C l c h) (held_in ws C l c h) e)

  -- words of the same number keep what the old ones kept, if their rows are sound
  still_kept : (w : List ℕ) → length w ≡ length ws → Sounds L C (held_in w C) (start_in w C) → Kept w L C
  still_kept w same all =
      let enough = k.enough in
      record {
        some_links = k.some_links;
        few_links = k.few_links;
        some_channels = k.some_channels;
        few_channels = k.few_channels;
        enough = omega arith;
        rows = λ x y e. all x y (within_parts L C x y 0 e).0;
      }

  module _ (r : Run) (b : ℕ) (at : Placed ws L C r b) where
    sized : Within L C r.link r.channel
    sized = (fits_parts L C r at.fit).0

    run_held : (j : ℕ) → is_held (words_mean ws L C) r.link r.channel (later r.first j) ≡ row ws b (later r.first j)
    run_held j = cell_held r.link r.channel (later r.first j) sized (omega arith) ∙ ap (λ x. row ws x (later r.first j)) (sym at.base)

    held_bit : row ws b r.first ≡ is_held (words_mean ws L C) r.link r.channel r.first
    held_bit = sym (cell_held r.link r.channel r.first sized at.first ∙ ap (λ x. row ws x r.first) (sym at.base))

    open_cells : meets (words_mean ws L C).closed r ≡ false
    unfolding meets mapped
    open_cells = any_false r.hours _ (λ j _. not_from_true (within L C r.link r.channel (later r.first j)) (within_from L C r.link r.channel (later r.first j) sized (omega arith)))

    held_cells : meets (is_held (words_mean ws L C)) r ≡ any r.hours (λ j. row ws b (later r.first j))
    unfolding meets
    held_cells = any_cong r.hours _ _ (λ j _. run_held j)

    fitting : proper (words_mean ws L C) r ≡ true
    fitting = words_proper ws L C r ∙ at.fit

    -- the first hour that is not free is the first with its held bit set
    first_words : first_set (row ws b) r.first r.hours ≡ first_taken (words_mean ws L C) r
    unfolding first_taken free_hours mapped
    first_words =
        let T : ℕ → Bool = λ j. taken (words_mean ws L C) r.link r.channel (later r.first j) in
        let R : ℕ → Bool = λ j. row ws b (later r.first j) in
        let e : least r.hours T ≡ least r.hours R = least_cong r.hours T R (λ j _. open_taken (within L C r.link r.channel (later r.first j)) _ _ (within_from L C r.link r.channel (later r.first j) sized (omega arith)) (run_held j)) in
        ap (λ x. cond (ltb x r.hours) (Some (later r.first x)) None) (sym e) ∙ sym (cond-true (proper (words_mean ws L C) r) _ _ fitting)

    hold_taken : any r.hours (λ j. row ws b (later r.first j)) ≡ true
        → (hold_number (words_mean ws L C) r ≡ 23) × (after_hold (words_mean ws L C) r ≡ words_mean ws L C)
    unfolding hold_number after_hold
    hold_taken e = let a : hold_number (words_mean ws L C) r ≡ 23 = rw (fitting, open_cells, held_cells ∙ e) in (a, rw a)

    module _ (free : any r.hours (λ j. row ws b (later r.first j)) ≡ false) where
      -- a plant with a free cell has room
      room_left : eqb (room_of (words_mean ws L C)) 0 ≡ false
      unfolding room_of with_run mapped
      room_left =
          let m = words_mean ws L C in
          let s = kept_sound ws L C k in
          let some = at.some in
          let none = none_there m s r fitting (held_cells ∙ free) in
          let count = count_at m s r fitting r.hours in
          let most = count_bound (with_run m r r.hours) in
          let less : live_count m < L * C * 168 = omega (arith, none, count, most, some) in
          ne_eqb (room_of m) 0 (λ e. omega (arith, less, e))

      hold_answer : hold_number (words_mean ws L C) r ≡ 0
      unfolding hold_number
      hold_answer = rw (fitting, open_cells, held_cells ∙ free, room_left)

      hold_done : (w : List ℕ) → length w ≡ length ws → Stored ws w b (more_hours (row ws b) r.first r.hours) (more_hours (row ws (b + 3)) r.first 1)
          → record { kept : Kept w L C; answer : 0 ≡ hold_number (words_mean ws L C) r; after : words_mean w L C ≡ after_hold (words_mean ws L C) r; spare : Spare ws w (L * C * 6) }
      unfolding after_hold
      hold_done w same new =
          let l = r.link in
          let c = r.channel in
          let d = subst (λ x. Stored ws w x (more_hours (row ws x) r.first r.hours) (more_hours (row ws (x + 3)) r.first 1)) at.base new in
          let f = free_from (held_in ws C l c) r.first r.hours at.first (subst (λ x. any r.hours (λ j. row ws x (later r.first j)) ≡ false) at.base free) in
          let ch = held_changed L C ws w l c sized _ _ d in
          let cs = start_changed L C ws w l c sized _ _ d in
          let all = hold_sounds L C _ _ _ _ r sized at.first (kept_sounds ws L C k) at.some at.most f ch cs in
          record {
            kept = still_kept w same all;
            answer = sym hold_answer;
            after = hold_means L C _ _ _ _ r sized at.first (kept_sounds ws L C k) at.some at.most f ch cs ∙ sym (rw hold_answer);
            spare = record { many = same; same = past_rows L C ws w l c sized _ _ d };
          }

    -- the bits tell the run that starts there
    live_bits : (words_mean ws L C).live r.link r.channel r.first ≡ hours_of (row ws b) (row ws (b + 3)) r.first
    unfolding mapped
    live_bits = live_hours L C (held_in ws C) (start_in ws C) r.link r.channel r.first sized at.first ∙ ap (λ x. hours_of (row ws x) (row ws (x + 3)) r.first) (sym at.base)

    release_lost : eqb (hours_of (row ws b) (row ws (b + 3)) r.first) r.hours ≡ false
        → (release_number (words_mean ws L C) r ≡ 25) × (after_release (words_mean ws L C) r ≡ words_mean ws L C)
    unfolding release_number after_release
    release_lost e = let a : release_number (words_mean ws L C) r ≡ 25 = rw (fitting, live_bits, e) in (a, rw a)

    module _ (live : hours_of (row ws b) (row ws (b + 3)) r.first ≡ r.hours) where
      release_answer : release_number (words_mean ws L C) r ≡ 0
      unfolding release_number
      release_answer = rw (fitting, live_bits, eq-eqb (hours_of (row ws b) (row ws (b + 3)) r.first) r.hours live)

      there : RunAt (held_in ws C r.link r.channel) (start_in ws C r.link r.channel) r.first r.hours
      there =
          let some = at.some in
          subst (λ x. RunAt (row ws x) (row ws (x + 3)) r.first r.hours) at.base
          (subst (RunAt (row ws b) (row ws (b + 3)) r.first) live (run_there (row ws b) (row ws (b + 3)) r.first at.first (hours_some (row ws b) (row ws (b + 3)) r.first (omega arith))))

      release_done : (w : List ℕ) → length w ≡ length ws → Stored ws w b (fewer_hours (row ws b) r.first r.hours) (fewer_hours (row ws (b + 3)) r.first 1)
          → record { kept : Kept w L C; answer : 0 ≡ release_number (words_mean ws L C) r; after : words_mean w L C ≡ after_release (words_mean ws L C) r; spare : Spare ws w (L * C * 6) }
      unfolding after_release
      release_done w same new =
          let l = r.link in
          let c = r.channel in
          let d = subst (λ x. Stored ws w x (fewer_hours (row ws x) r.first r.hours) (fewer_hours (row ws (x + 3)) r.first 1)) at.base new in
          let ch = held_changed L C ws w l c sized _ _ d in
          let cs = start_changed L C ws w l c sized _ _ d in
          let all = release_sounds L C _ _ _ _ r sized at.first (kept_sounds ws L C k) there ch cs in
          record {
            kept = still_kept w same all;
            answer = sym release_answer;
            after = release_means L C _ _ _ _ r sized at.first (kept_sounds ws L C k) there ch cs ∙ sym (rw release_answer);
            spare = record { many = same; same = past_rows L C ws w l c sized _ _ d };
          }

    -- the live runs that the bits of the row show
    module _ (old : LiveRuns) (shown : Shown ws b old) where
      same_any : any r.hours (λ j. bits old.held (later r.first j)) ≡ any r.hours (λ j. row ws b (later r.first j))
      same_any = any_cong r.hours _ _ (λ j _. shown.held (later r.first j) (omega arith))

      same_run : hours_of (bits old.held) (bits old.starts) r.first ≡ hours_of (row ws b) (row ws (b + 3)) r.first
      same_run = same_hours (row ws b) (row ws (b + 3)) (bits old.held) (bits old.starts) shown.held shown.start r.first at.first

      -- what the tests of the live runs tell
      pub free_shown : not (any r.hours (λ j. bits old.held (later r.first j))) ≡ true → any r.hours (λ j. row ws b (later r.first j)) ≡ false
      free_shown e = sym same_any ∙ not-true _ e

      pub taken_shown : not (any r.hours (λ j. bits old.held (later r.first j))) ≡ false
          → (hold_number (words_mean ws L C) r ≡ 23) × (after_hold (words_mean ws L C) r ≡ words_mean ws L C)
      taken_shown e = hold_taken (sym same_any ∙ not-false _ e)

      pub live_shown : has_run (bits old.held) (bits old.starts) r.first r.hours ≡ true → hours_of (row ws b) (row ws (b + 3)) r.first ≡ r.hours
      live_shown e = sym same_run ∙ eqb-true _ r.hours (and_parts (leb 1 r.hours && leb r.hours 168) _ e).1

      pub bit_shown : bits old.held r.first ≡ is_held (words_mean ws L C) r.link r.channel r.first
      bit_shown = shown.held r.first at.first ∙ held_bit

      pub first_shown : first_set (bits old.held) r.first r.hours ≡ first_taken (words_mean ws L C) r
      first_shown = ap (λ k. cond (ltb k r.hours) (Some (later r.first k)) None) (least_cong r.hours _ _ (λ j _. shown.held (later r.first j) (omega arith))) ∙ first_words

      pub release_refused : has_run (bits old.held) (bits old.starts) r.first r.hours ≡ false
          → (release_number (words_mean ws L C) r ≡ 25) × (after_release (words_mean ws L C) r ≡ words_mean ws L C)
      release_refused e =
          release_lost (ap (λ n. eqb n r.hours) (sym same_run)
          ∙ second_false (leb 1 r.hours && leb r.hours 168) _ (and_from _ _ (le-leb 1 r.hours at.some) (le-leb r.hours 168 at.most)) e)

      module _ (new : LiveRuns) (w : List ℕ) (same : length w ≡ length ws) (stored : Stored ws w b (bits new.held) (bits new.starts)) where
        pub hold_stored : any r.hours (λ j. row ws b (later r.first j)) ≡ false → Marked old new r.first r.hours
            → record { kept : Kept w L C; answer : 0 ≡ hold_number (words_mean ws L C) r; after : words_mean w L C ≡ after_hold (words_mean ws L C) r; spare : Spare ws w (L * C * 6) }
        hold_stored free marked = hold_done free w same (record {
          held_bits = λ h l. stored.held_bits h l ∙ marked.held h l ∙ ap (λ x. x || covers r.first r.hours h) (shown.held h l);
          start_bits = λ h l. stored.start_bits h l ∙ marked.start h l ∙ ap (λ x. x || covers r.first 1 h) (shown.start h l);
          rest = stored.rest;
        })

        pub release_stored : hours_of (row ws b) (row ws (b + 3)) r.first ≡ r.hours → Unmarked old new r.first r.hours
            → record { kept : Kept w L C; answer : 0 ≡ release_number (words_mean ws L C) r; after : words_mean w L C ≡ after_release (words_mean ws L C) r; spare : Spare ws w (L * C * 6) }
        release_stored live unmarked = release_done live w same (record {
          held_bits = λ h l. stored.held_bits h l ∙ unmarked.held h l ∙ ap (λ x. x && not (covers r.first r.hours h)) (shown.held h l);
          start_bits = λ h l. stored.start_bits h l ∙ unmarked.start h l ∙ ap (λ x. x && not (covers r.first 1 h)) (shown.start h l);
          rest = stored.rest;
        })

-- a run that the plant cannot have
pub hold_out : (ws : List ℕ) (L C : ℕ) (r : Run) → fits L C r ≡ false → (hold_number (words_mean ws L C) r ≡ 21) × (after_hold (words_mean ws L C) r ≡ words_mean ws L C)
hold_out ws L C r e = let o = refused_hold (words_mean ws L C) r (words_proper ws L C r ∙ e) in (sym o.answer, sym o.after)

pub release_out : (ws : List ℕ) (L C : ℕ) (r : Run) → fits L C r ≡ false → (release_number (words_mean ws L C) r ≡ 21) × (after_release (words_mean ws L C) r ≡ words_mean ws L C)
release_out ws L C r e = let o = refused_release (words_mean ws L C) r (words_proper ws L C r ∙ e) in (sym o.answer, sym o.after)
