-- What the words of a map keep, from its making on, and what that says of them.
use Rattle.std.proofs.Common.{◌≡◌, ℕ, ◌+◌, ◌*◌, ◌/◌, ◌%◌, ◌<◌, ◌≤◌, Bool, true, false, cond, not, leb, List, length, get_or, ap, ◌∙◌, ⊎_elim, arith}
use mathlib.Core.Logic.{∥∥₁_elim}
use Rattle.std.proofs.lemmas.Bool.{both_ways, cases_Bool, leb-true, and_left, not_from_false, cond-true, cond-false}
use Rattle.calendar.specs.Week.{any, later}
use Rattle.calendar.specs.Making.{open_plant, sizes_fit, map_number}
use Rattle.calendar.specs.Meaning.{Sound, within}
use Rattle.calendar.proofs.Made.{sizes_parts, map_sizes, map_memory}
use Rattle.calendar.proofs.Props.{le_one, bool_one}
use Rattle.calendar.proofs.Sums.{any_intro}
use Rattle.hour_bits.specs.Bits.{bit, row, goes_on, hours_of, SoundRow}
use Rattle.hour_bits.specs.Tables.{mapped, base_of, held_in, start_in, words_mean, Kept}
use Rattle.hour_bits.proofs.Words.{bit_zero}
use Rattle.hour_bits.proofs.Runs.{hours_none}
use Rattle.hour_bits.proofs.Tables.{Within, within_parts, within_from, Sounds}
use Rattle.hour_bits.proofs.Places.{row_fits}
use Rattle.hour_bits.proofs.Mapped.{mapped_sound}

-- what the words keep has at most one proof, so a map may keep it as a bare fact
row_one : (held start : ℕ → Bool) → IsProp (SoundRow held start)
row_one held start s t = λ i. record {
  starts = λ h p y. bool_one (held h) true (s.starts h p y) (t.starts h p y) i;
  joined = λ h p y z. bool_one (held (later h 167)) true (s.joined h p y z) (t.joined h p y z) i;
  begun = bool_one (any 168 (λ h. not (goes_on held start h))) true s.begun t.begun i;
}

kept_one : (ws : List ℕ) (L C : ℕ) → IsProp (Kept ws L C)
kept_one ws L C s t = λ i. record {
  some_links = le_one 1 L s.some_links t.some_links i;
  few_links = le_one L 40 s.few_links t.few_links i;
  some_channels = le_one 1 C s.some_channels t.some_channels i;
  few_channels = le_one C 16 s.few_channels t.few_channels i;
  enough = le_one (L * C * 6) (length ws) s.enough t.enough i;
  rows = λ l c w. row_one (held_in ws C l c) (start_in ws C l c) (s.rows l c w) (t.rows l c w) i;
}

pub kept_of : (ws : List ℕ) (L C : ℕ) → ∥ Kept ws L C ∥₁ → Kept ws L C
kept_of ws L C k = ∥∥₁_elim k (kept_one ws L C) (λ x. x)

pub kept_sounds : (ws : List ℕ) (L C : ℕ) → Kept ws L C → Sounds L C (held_in ws C) (start_in ws C)
kept_sounds ws L C k l c w = k.rows l c (within_from L C l c 0 w (omega arith))

pub kept_sound : (ws : List ℕ) (L C : ℕ) → Kept ws L C → Sound (words_mean ws L C)
kept_sound ws L C k = mapped_sound L C (held_in ws C) (start_in ws C) (kept_sounds ws L C k) k.some_links k.few_links k.some_channels k.few_channels

pub words_sound : (ws : List ℕ) (L C : ℕ) → ∥ Kept ws L C ∥₁ → Sound (words_mean ws L C)
words_sound ws L C k = kept_sound ws L C (kept_of ws L C k)

-- a map is made over enough words, at sizes within the limits
pub map_sized : (L C n : ℕ) → map_number L C n ≡ 0 → (sizes_fit L C ≡ true) × (L * C * 6 ≤ n)
map_sized L C n e =
    ⊎_elim
    (λ (s : sizes_fit L C ≡ true). ⊎_elim
    (λ (t : leb (L * C * 6) n ≡ true). (s, leb-true (L * C * 6) n t))
    (λ (t : leb (L * C * 6) n ≡ false). let z = map_memory L C n s t in absurd (omega arith))
    (cases_Bool (leb (L * C * 6) n)))
    (λ (s : sizes_fit L C ≡ false). let z = map_sizes L C n s in absurd (omega arith))
    (cases_Bool (sizes_fit L C))

-- words of zeros mean an open plant
module _ (ws : List ℕ) (L C : ℕ) (zeros : (i : ℕ) → i < L * C * 6 → get_or ws i 0 ≡ 0) where
  zero_row : (l c s h : ℕ) → Within L C l c → s ≤ 3 → h < 168 → row ws (base_of C l c + s) h ≡ false
  zero_row l c s h w q p = let f = row_fits L C l c w in ap (λ x. bit x (h % 64)) (zeros (base_of C l c + s + h / 64) (omega arith)) ∙ bit_zero (h % 64)

  zero_held : (l c h : ℕ) → Within L C l c → h < 168 → held_in ws C l c h ≡ false
  zero_held l c h w p = let f = row_fits L C l c w in ap (λ x. bit x (h % 64)) (zeros (base_of C l c + h / 64) (omega arith)) ∙ bit_zero (h % 64)

  pub zero_kept : sizes_fit L C ≡ true → L * C * 6 ≤ length ws → Kept ws L C
  zero_kept fit enough =
      let p = sizes_parts L C fit in
      record {
        some_links = p.0;
        few_links = p.1;
        some_channels = p.2;
        few_channels = p.3;
        enough = enough;
        rows = λ l c e. let w = (within_parts L C l c 0 e).0 in record {
          starts = λ h q y. absurd (both_ways (start_in ws C l c h) (zero_row l c 3 h w (omega arith) q) y);
          joined = λ h q y z. absurd (both_ways (held_in ws C l c h) (zero_held l c h w q) y);
          begun = any_intro 168 (λ h. not (goes_on (held_in ws C l c) (start_in ws C l c) h)) 0 (omega arith) (not_from_false (goes_on (held_in ws C l c) (start_in ws C l c) 0) (and_left (held_in ws C l c 0) _ (zero_held l c 0 w (omega arith))));
        };
      }

  zero_live : (l c f : ℕ) → cond (within L C l c f) (hours_of (held_in ws C l c) (start_in ws C l c) f) 0 ≡ 0
  zero_live l c f =
      ⊎_elim
      (λ t. let w = within_parts L C l c f t in cond-true (within L C l c f) _ 0 t ∙ hours_none (held_in ws C l c) (start_in ws C l c) f (zero_row l c 3 f w.0 (omega arith) w.1))
      (λ t. cond-false (within L C l c f) _ 0 t)
      (cases_Bool (within L C l c f))

  pub zero_open : words_mean ws L C ≡ open_plant L C (L * C * 168)
  unfolding mapped open_plant
  zero_open = λ i. record { links = L; channels = C; limit = L * C * 168; closed = λ x y h. not (within L C x y h); live = λ l c f. zero_live l c f i }
