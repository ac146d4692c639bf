-- What the code finds for book, in the words of the rules.
use Rattle.std.proofs.Common.{◌≡◌, ℕ, ◌+◌, ◌<◌, ◌≤◌, Bool, true, cond, leb, List, Some, None, vec_len, sym, refl, ap, ◌∙◌, subst, arith}
use Rattle.std.proofs.lemmas.Bool.{and_from, le-leb}
use Rattle.calendar.specs.Meaning.{Meaning, Sound, room_of, taken}
use Rattle.network.specs.Costs.{Laws}
use Rattle.network.specs.Flags.{is_number}
use Rattle.ways.specs.Hours.{hours_fit, block_fits, run_free}
use Rattle.ways.specs.Right.{AllowedWay}
use Rattle.ways.specs.Ways.{Wanted, every_link, wanted, chosen_way}
use Rattle.ways.specs.declared.way.Way.{Way}
use Rattle.ways.specs.declared.order.Order.{Order}
use Rattle.ways.proofs.Fits.{fit_same, fits_parts}
use Rattle.ways.proofs.Rightly.{way_found}
use Rattle.orders.specs.Calls.{Rules, order_of, along, way_for, order_fault, runs_needed}
use Rattle.orders.specs.Standing.{Standing}
use Rattle.orders.specs.declared.call.Call.TheVariants.{Book}
use Rattle.orders.specs.declared.refusal.Refusal.TheVariants.{NoWay, NoRoom}
use Rattle.orders.specs.declared.request.Request.{Request}
use Rattle.planner.specs.Taking.{Takes, Refuses}
use Rattle.planner.proofs.Taking.{book_no_way, book_no_room, book_takes}

-- a block that fits a plant lies within 16 channels
pub block_within : (m : Meaning) → Sound m → (a w : ℕ) → block_fits m.channels a w ≡ true → (1 ≤ a) × (a + w ≤ 17)
block_within m so a w e = let p = fits_parts m.channels a w e in (p.0, omega (arith, p.1, so.few_channels))

module _ {C : Type 0} (g : Rules C) (m : Meaning) (es : List Standing) (r : Request) (o : Order) (may : ℕ → Bool)
    (fine : (None ≡ order_fault g m es r) × (o ≡ order_of r)) (all : (i : ℕ) → may i ≡ is_number i) where
  numbered : (l : ℕ) → 1 ≤ l → l ≤ vec_len g.net.links → may l ≡ true
  numbered l lo hi = all l ∙ and_from (leb 1 l) (leb l 40) (le-leb 1 l lo) (le-leb l 40 (omega (arith, hi, g.net.few)))

  -- a search over all links is the one that the rules name
  searched : chosen_way g.fit (wanted g.kind g.net may m o) ≡ way_for g (taken m) m.channels (order_of r)
  unfolding way_for
  searched =
      ap (λ x. cond (hours_fit o) x None) (fit_same g.kind g.net m.channels o may every_link (run_free (taken m) o) (run_free (taken m) o) numbered (λ _ _ _ _ _ _. refl) g.fit)
      ∙ ap (λ x. chosen_way g.fit (record { kind = g.kind; net = g.net; may_use = every_link; free = run_free (taken m) x; channels = m.channels; order = x })) fine.1

  pub found_none : None ≡ chosen_way g.fit (wanted g.kind g.net may m o) → Refuses (record { rules = g; plant = m; standing = es }) (Book r) NoWay
  found_none e = book_no_way g m es r fine.0 (e ∙ searched)

  module _ (w : Way) (found : Some w ≡ chosen_way g.fit (wanted g.kind g.net may m o)) where
    pub found_block : Laws g.kind → Sound m → (1 ≤ w.channel) × (w.channel + o.width ≤ 17)
    found_block laws so =
        let search : Wanted C = wanted g.kind g.net may m o in
        let x : AllowedWay search w = way_found search laws g.fit w (sym found) in
        block_within m so w.channel o.width x.fits

    pub found_no_room : (room needed : ℕ) → room ≡ room_of m → needed ≡ runs_needed (along o w) → room < needed → Refuses (record { rules = g; plant = m; standing = es }) (Book r) NoRoom
    found_no_room room needed a b l = book_no_room g m es r fine.0 w (found ∙ searched) (omega (arith, l, a, b, ap (λ x. runs_needed (along x w)) fine.1))

    pub found_takes : (room needed : ℕ) → room ≡ room_of m → needed ≡ runs_needed (along o w) → needed ≤ room → Takes (record { rules = g; plant = m; standing = es }) (Book r) (along o w)
    found_takes room needed a b l =
        subst (λ x. Takes (record { rules = g; plant = m; standing = es }) (Book r) (along x w)) (sym fine.1)
        (book_takes g m es r fine.0 w (found ∙ searched) (omega (arith, l, a, b, ap (λ x. runs_needed (along x w)) fine.1)))
