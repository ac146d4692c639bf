-- The first hour that is taken, under a clock.
use Rattle.std.proofs.Common.{◌≡◌, ℕ, ◌-◌, ◌<◌, Bool, true, false, cond, ◌||◌, ltb, Some, None, refl, ap, ◌∙◌, arith}
use Rattle.calendar.specs.Week.{later}
use Rattle.calendar.specs.Meaning.{Meaning, is_held, proper, taken, free_hours, first_taken}
use Rattle.calendar.specs.Layers.{clocked, moved}
use Rattle.calendar.specs.declared.run.Run.{Run}
use Rattle.calendar.proofs.Leasts.{least_cong}
use Rattle.calendar.proofs.Clocked.{proper_clocked, closed_clocked, held_clocked}
use Rattle.layers.specs.Below.{unmoved}

module _ (o : ℕ) (small : o < 168) (m : Meaning) where
  taken_clocked : (l c h : ℕ) → h < 168 → taken (clocked o m) l c h ≡ taken m l c (later h o)
  taken_clocked l c h b =
      ap (λ t. t || is_held (clocked o m) l c h) (closed_clocked o small m l c h b) ∙ ap (λ t. m.closed l c (later h o) || t) (held_clocked o small m l c h b)

  free_clocked : (r : Run) → free_hours (clocked o m) r ≡ free_hours m (moved o r)
  unfolding free_hours
  free_clocked r =
      least_cong r.hours _ _ (λ j _.
      taken_clocked r.link r.channel (later r.first j) (omega arith)
      ∙ ap (taken m r.link r.channel) (let e : later (later r.first j) o ≡ later (later r.first o) j = omega arith in e))

  pub first_clocked : (r : Run) → r.first < 168 → first_taken (clocked o m) r ≡ unmoved o (first_taken m (moved o r))
  unfolding first_taken
  first_clocked r b = rw (proper_clocked o small m r b, free_clocked r) (case (free_hours m (moved o r)) (proper m (moved o r)) (ltb (free_hours m (moved o r)) r.hours)) where
    case : (k : ℕ) (p t : Bool) → cond p (cond t (Some (later r.first k)) None) (Some r.first) ≡ unmoved o (cond p (cond t (Some (later (later r.first o) k)) None) (Some (later r.first o)))
    case k true true = ap Some (let e : later r.first k ≡ later (later (later r.first o) k) (168 - o) = omega (arith, small) in e)
    case k true false = refl
    case k false t = ap Some (let e : r.first ≡ later (later r.first o) (168 - o) = omega (arith, small, b) in e)
