-- Where a run and a channel of a card order stand in the plant below.
use Rattle.std.proofs.Common.{◌≡◌, ℕ, ◌<◌, ◌≤◌, true, false, cond, List, Some, None, MatchOption, sym, refl, ap, ◌∙◌, ⊎_elim}
use Rattle.std.proofs.lemmas.Bool.{cases_Bool}
use Rattle.calendar.specs.Meaning.{Meaning, Sound, fits, size_of, proper, hold_number, after_hold, release_number, after_release, first_taken}
use Rattle.calendar.specs.Layers.{carded, card, named, Order}
use Rattle.calendar.specs.declared.run.Run.{Run}
use Rattle.calendar.specs.declared.run.Size.{Size}
use Rattle.calendar.proofs.Carded.{closed_carded, closed_unnamed, held_carded, held_unnamed, carded_proper, hold_through, release_through, hold_lacking, release_lacking}
use Rattle.layers.specs.Below.{ChannelStands, NoChannel, RunStands, AllClosed}
use Rattle.layers.proofs.TakenCarded.{on_channel, taken_through, taken_lacking}

module _ (e : List ℕ) (ok : Order e) (m : Meaning) (sound : Sound m) (r : Run) where
  -- by the size that the plant below tells
  pub proper_sixteen : (s : Size) → s ≡ size_of m → proper (carded e m) r ≡ fits s.links 16 r
  proper_sixteen s q = carded_proper e ok m r ∙ ap (λ z. fits z.links 16 r) (sym q)

  module _ (h : proper (carded e m) r ≡ true) where
    pub stands_at : (k : ℕ) → k ≡ card e r.channel → k ≤ m.channels → RunStands (carded e) m r (on_channel r k) × (first_taken (carded e m) r ≡ first_taken m (on_channel r k))
    stands_at k q b =
        let s = on_channel r k in
        let t = hold_through e ok m sound r h k q b (hold_number m s) (after_hold m s) refl refl in
        let u = release_through e ok m r h k q b (release_number m s) (after_release m s) refl refl in (
          record { held = sym t.answer; after_held = sym t.after; released = sym u.answer; after_released = sym u.after },
          sym (taken_through e ok m r h k q b (first_taken m s) refl),
        )

    pub all_closed : m.channels < card e r.channel → AllClosed (carded e m) r
    all_closed q =
        let t = hold_lacking e ok m sound r h q in
        let u = release_lacking e ok m sound r h q in
        record { held = sym t.answer; after_held = sym t.after; released = sym u.answer; after_released = sym u.after; taken = sym (taken_lacking e ok m sound r h q) }

pub channel_stands : (e : List ℕ) → Order e → (m : Meaning) (w : ℕ) → MatchOption (cond (named w) (Some (card e w)) None) (NoChannel (carded e m) w) (λ k. ChannelStands (carded e) m w k)
channel_stands e ok m w =
    ⊎_elim
    (λ (n : named w ≡ true). rw n (record { closed = λ l h. closed_carded e ok m l w h n; held = λ l h. held_carded e ok m l w h n }))
    (λ (n : named w ≡ false). rw n (record { closed = λ l h. sym (closed_unnamed e ok m l w h n); held = λ l h. sym (held_unnamed e ok m l w h n) }))
    (cases_Bool (named w))
