use Rattle.std.proofs.Common.{◌≡◌, ℕ, ◌+◌, ◌-◌, ◌%◌, ◌<◌, Bool, not, sym, ap, ◌∙◌, arith, rules}
use Rattle.std.proofs.lemmas.Bool.{both_ways, not-true, not-false, eq-eqb}
use Rattle.calendar.specs.Week.{covers}
use Rattle.hour_bits.specs.Bits.{bits, goes_on}
use Rattle.hour_bits.proofs.Circle.{any_in}
use Rattle.hour_bits.proofs.Rows.{within_week}
use Rattle.hour_bits.proofs.Runs.{not_held, start_between, whole_week, by_end}
use Rattle.hour_bits.proofs.row.LiveRuns.lasts.Goals as goal
use Rattle.hour_bits.proofs.row.LiveRuns.lasts.Goals.{then-is_superset, else-is_superset}

pub returns-then-run-eq168 : goal.returns-then-run-eq168
returns-then-run-eq168 c =
    let H : ℕ → Bool = bits c.args.self.held in
    let S : ℕ → Bool = bits c.args.self.starts in
    let f : ℕ = c.args.run.first in
    let n : ℕ = c.args.run.hours in
    let p : f < 168 = within_week c.args.self.starts.words (search rules) c.args.self.starts.week f c.requires.starts in
    let e : (h : ℕ) → h < 168 → bits c.run-rest.result h ≡ covers ((f + 1) % 168) (n - 1) h = λ h l. c.run-rest.ensures h l ∙ ap (λ x. covers x (n - 1) h) c.hour_after.ensures in
    let held = c.is_superset.ensures ∙ ap not (any_in (λ h. not (H h)) ((f + 1) % 168) (n - 1) (bits c.run-rest.result) e) in
    elim c.if-is_superset.branch [
      | then-is_superset w ↦
          let free = sym (w.meets.ensures ∙ any_in S ((f + 1) % 168) (n - 1) (bits c.run-rest.result) e) ∙ not-true _ (sym w.value-is ∙ c.if-not-meets.true) in
          eq-eqb n 168 c.if-run-eq168.true ∙ whole_week H S f n p c.requires.some c.requires.most c.requires.starts (not-true _ (sym held ∙ w.if-is_superset.true)) free (omega arith)
      | else-is_superset w ↦ absurd (both_ways _ (w.value-is ∙ w.if-is_superset.false) c.if-not-meets.true)
    ]

pub returns-else-run-eq168 : goal.returns-else-run-eq168
returns-else-run-eq168 c =
    let H : ℕ → Bool = bits c.args.self.held in
    let S : ℕ → Bool = bits c.args.self.starts in
    let f : ℕ = c.args.run.first in
    let n : ℕ = c.args.run.hours in
    let p : f < 168 = within_week c.args.self.starts.words (search rules) c.args.self.starts.week f c.requires.starts in
    let e : (h : ℕ) → h < 168 → bits c.run-rest.result h ≡ covers ((f + 1) % 168) (n - 1) h = λ h l. c.run-rest.ensures h l ∙ ap (λ x. covers x (n - 1) h) c.hour_after.ensures in
    let held = c.is_superset.ensures ∙ ap not (any_in (λ h. not (H h)) ((f + 1) % 168) (n - 1) (bits c.run-rest.result) e) in
    elim c.if-is_superset.branch [
      | then-is_superset w ↦
          let free = sym (w.meets.ensures ∙ any_in S ((f + 1) % 168) (n - 1) (bits c.run-rest.result) e) ∙ not-true _ (sym w.value-is ∙ c.if-not-meets.true) in
          ap not (c.goes_on.ensures ∙ ap (λ h. goes_on H S h) c.hour_after-else-run-eq168.ensures)
          ∙ by_end H S f n p c.requires.some c.requires.most c.requires.starts (not-true _ (sym held ∙ w.if-is_superset.true)) free (omega (arith, c.if-run-eq168.false))
      | else-is_superset w ↦ absurd (both_ways _ (w.value-is ∙ w.if-is_superset.false) c.if-not-meets.true)
    ]

pub returns-else-not-meets : goal.returns-else-not-meets
returns-else-not-meets c =
    let H : ℕ → Bool = bits c.args.self.held in
    let S : ℕ → Bool = bits c.args.self.starts in
    let f : ℕ = c.args.run.first in
    let n : ℕ = c.args.run.hours in
    let p : f < 168 = within_week c.args.self.starts.words (search rules) c.args.self.starts.week f c.requires.starts in
    let e : (h : ℕ) → h < 168 → bits c.run-rest.result h ≡ covers ((f + 1) % 168) (n - 1) h = λ h l. c.run-rest.ensures h l ∙ ap (λ x. covers x (n - 1) h) c.hour_after.ensures in
    let held = c.is_superset.ensures ∙ ap not (any_in (λ h. not (H h)) ((f + 1) % 168) (n - 1) (bits c.run-rest.result) e) in
    elim c.if-is_superset.branch [
      | then-is_superset w ↦
          let some = sym (w.meets.ensures ∙ any_in S ((f + 1) % 168) (n - 1) (bits c.run-rest.result) e) ∙ not-false _ (sym w.value-is ∙ c.if-not-meets.false) in
          c.if-not-meets.false ∙ start_between H S f n p c.requires.some c.requires.most c.requires.starts some
      | else-is_superset w ↦ c.if-not-meets.false ∙ not_held H S f n p c.requires.some c.requires.most c.requires.starts (not-false _ (sym held ∙ w.if-is_superset.false))
    ]
