-- The first hour that is taken, under a card order.
use Rattle.std.proofs.Common.{◌≡◌, ℕ, ◌<◌, ◌≤◌, true, ◌||◌, List, Some, Option, sym, ap, ◌∙◌, ⊎_elim, arith}
use Rattle.std.proofs.lemmas.Bool.{cases_Bool, or_left}
use Rattle.calendar.specs.Week.{later}
use Rattle.calendar.specs.Meaning.{Meaning, Sound, is_held, proper, taken, free_hours, first_taken}
use Rattle.calendar.specs.Layers.{carded, card, named, recarded, Order}
use Rattle.calendar.specs.declared.run.Run.{Run}
use Rattle.calendar.proofs.Leasts.{least_cong, least_is}
use Rattle.calendar.proofs.Plants.{inside_parts, proper_parts}
use Rattle.calendar.proofs.Takens.{taken_at, taken_some}
use Rattle.calendar.proofs.Carded.{closed_carded, held_carded, proper_named, proper_carded}

-- the run on another channel
abbrev pub on_channel : Run → ℕ → Run
on_channel r c = record { link = r.link; channel = c; first = r.first; hours = r.hours }

module _ (e : List ℕ) (ok : Order e) (m : Meaning) where
  taken_carded : (l w h : ℕ) → named w ≡ true → taken (carded e m) l w h ≡ taken m l (card e w) h
  taken_carded l w h b =
      ap (λ t. t || is_held (carded e m) l w h) (closed_carded e ok m l w h b) ∙ ap (λ t. m.closed l (card e w) h || t) (held_carded e ok m l w h b)

  free_carded : (r : Run) → named r.channel ≡ true → free_hours (carded e m) r ≡ free_hours m (recarded e r)
  unfolding free_hours
  free_carded r b = least_cong r.hours _ _ (λ j _. taken_carded r.link r.channel (later r.first j) b)

  first_carded : (r : Run) → proper (carded e m) r ≡ true → card e r.channel ≤ m.channels → first_taken (carded e m) r ≡ first_taken m (recarded e r)
  unfolding first_taken
  first_carded r h q = let p = proper_carded e ok m r h q in let f = free_carded r (proper_named e ok m r h) in rw (h, p, f)

  -- what the plant below answers for the run on the channel k is what the card order owes
  pub taken_through : (r : Run) → proper (carded e m) r ≡ true → (k : ℕ) → k ≡ card e r.channel → k ≤ m.channels → (a : Option ℕ) → a ≡ first_taken m (on_channel r k) → a ≡ first_taken (carded e m) r
  taken_through r h k ek q a t =
      let le : card e r.channel ≤ m.channels = omega (arith, ek, q) in
      t ∙ ap (λ c. first_taken m (on_channel r c)) ek ∙ sym (first_carded r h le)

  -- the plant below lacks the channel: the run is not free from the start
  pub taken_lacking : Sound m → (r : Run) → proper (carded e m) r ≡ true → m.channels < card e r.channel → Some r.first ≡ first_taken (carded e m) r
  unfolding free_hours
  taken_lacking s r h q =
      let b = proper_named e ok m r h in
      let p = proper_parts (carded e m) r h in
      let i = inside_parts (carded e m) r.link r.channel r.first p.0 in
      let at : r.first ≡ later r.first 0 = omega (arith, i.4) in
      let shut : m.closed r.link (card e r.channel) (later r.first 0) ≡ true = ⊎_elim (λ t. t) (λ t. absurd (let z = inside_parts m r.link (card e r.channel) (later r.first 0) (s.open_inside _ _ _ t) in omega (arith, z.3, q))) (cases_Bool _) in
      let none : free_hours (carded e m) r ≡ 0 = least_is r.hours (taken_at (carded e m) r) 0 (record {
        most = omega arith;
        before = λ j z. absurd (omega (arith, z));
        at = λ _. or_left _ _ (closed_carded e ok m r.link r.channel (later r.first 0) b ∙ shut);
      }) in
      ap Some at ∙ taken_some (carded e m) r 0 h (sym none) (omega (arith, p.1))
