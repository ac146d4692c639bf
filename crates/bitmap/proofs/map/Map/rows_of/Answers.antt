use Rattle.std.proofs.Common.{◌≡◌, ℕ, ◌+◌, ◌-◌, ◌*◌, ◌/◌, false, List, length, take, drop, sym, ap, ◌∙◌, subst, arith}
use Rattle.std.proofs.lemmas.Bool.{both_ways}
use Rattle.std.proofs.lemmas.List.{length-take}
use Rattle.std.specs.List.{sum_by}
use Rattle.std.specs.Simd.{first_chunks}
use Rattle.calendar.specs.Meaning.{fits}
use Rattle.calendar.specs.declared.run.Run.{Run}
use Rattle.calendar.specs.Week.{total}
use Rattle.hour_bits.specs.Bits.{row, bit_count}
use Rattle.hour_bits.specs.Tables.{Placed}
use Rattle.hour_bits.proofs.Calls.{cell_fits, fits_parts, link_fits}
use Rattle.hour_bits.proofs.Counts.{part_count, count_words, count_none}
use Rattle.hour_bits.proofs.Keeping.{kept_of}
use Rattle.hour_bits.proofs.Tables.{within_from}
use Rattle.bitmap.proofs.map.Map.rows_of.Goals as goal

pub returns-in_default : goal.returns-in_default
returns-in_default c = let m = c.args.self.now in let ws = m.words.items in
    let out = subst (λ (r : Run). fits m.links m.channels r ≡ false) c.cell.ensures c.in_default.ensures.1 in record {
      few = omega arith;
      held = count_none ws m.links m.channels (kept_of ws m.links m.channels m.kept) c.args.link
          (λ w. both_ways _ (sym (cell_fits m.links m.channels c.args.link 1 0) ∙ out) (within_from m.links m.channels c.args.link 1 0 w (omega arith)));
    }

pub slice_bounds-as_chunks-end : goal.slice_bounds-as_chunks-end
slice_bounds-as_chunks-end c = let m = c.args.self.now in let ws = m.words.items in
    let cell : Run = record { link = c.args.link; channel = 1; first = 0; hours = 1 } in
    let p = subst (λ (r : Run). Placed ws m.links m.channels r c.in-Ok.base) c.cell.ensures c.in-Ok.ensures in
    let w = (fits_parts m.links m.channels cell p.fit).0 in
    let base = p.base in
    let f = link_fits ws m.links m.channels c.args.link (kept_of ws m.links m.channels m.kept) w.0 w.1 in
    let e = ap length c.deref.ensures.value in
    omega arith

pub returns : goal.returns
returns c = let m = c.args.self.now in let ws = m.words.items in
    let cell : Run = record { link = c.args.link; channel = 1; first = 0; hours = 1 } in
    let p = subst (λ (r : Run). Placed ws m.links m.channels r c.in-Ok.base) c.cell.ensures c.in-Ok.ensures in
    let w = (fits_parts m.links m.channels cell p.fit).0 in
    let base = p.base in
    let f = link_fits ws m.links m.channels c.args.link (kept_of ws m.links m.channels m.kept) w.0 w.1 in
    let xs : List ℕ = take (c.in-Ok.base + m.channels * 6 - c.in-Ok.base) (drop c.in-Ok.base c.deref.result.now) in
    let front : c.as_chunks.result.0.now ≡ first_chunks 6 (length xs / 6) xs = c.as_chunks.ensures.front in
    let n : c.in-Ok.base + m.channels * 6 - c.in-Ok.base ≡ m.channels * 6 = omega arith in
    let k = kept_of ws m.links m.channels m.kept in
    let few = k.few_channels in
    let front_len : length c.as_chunks.result.0.now ≡ length xs / 6 = c.as_chunks.ensures.front_len in
    record {
      few = omega (arith, front_len, length-take (c.in-Ok.base + m.channels * 6 - c.in-Ok.base) (drop c.in-Ok.base c.deref.result.now), few);
      held =
          ap (sum_by (λ (r : List ℕ). bit_count (row r 0))) front
          ∙ part_count 0 (omega arith) ws xs c.in-Ok.base m.channels (ap (λ k. take k (drop c.in-Ok.base c.deref.result.now)) n ∙ ap (λ ys. take (m.channels * 6) (drop c.in-Ok.base ys)) c.deref.ensures.value) (omega arith) (λ i. c.in-Ok.base + i * 6) (λ i. omega arith)
          ∙ ap (λ b. total m.channels (λ i. bit_count (row ws (b + i * 6)))) p.base
          ∙ count_words ws m.links m.channels k c.args.link w.0 w.1;
    }
