use Rattle.std.proofs.Common.{◌≡◌, ℕ, ◌+◌, ◌%◌, ap, ◌∙◌, arith}
use Rattle.calendar.specs.Week.{covers}
use Rattle.hour_bits.proofs.Circle.{covers_turned}
use Rattle.hour_bits.proofs.Rows.{row_three}
use Rattle.hour_bits.proofs.set.HourSet.run.Goals as goal

pub returns : goal.returns
returns c h l =
    let first : ℕ = c.args.first % 168 in
    let hours : ℕ = c.min-hours.result in
    let zero : (k : ℕ) → 0 + k ≡ k = λ k. omega arith in
    c.of_words.ensures h l
    ∙ row_three _ _ _ (covers first hours)
    (λ k q. c.run_mask.ensures k q ∙ ap (covers first hours) (zero k))
    (λ k q. c.run_mask-2.ensures k q)
    (λ k q. c.run_mask-3.ensures k (omega arith))
    h l
    ∙ ap (λ n. covers first n h) c.min-hours.ensures
    ∙ covers_turned c.args.first c.args.hours h (omega arith) l
