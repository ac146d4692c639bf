use Rattle.std.proofs.Common.{◌≡◌, ℕ, ◌+◌, ◌*◌, ◌/◌, List, length, take, sym, ap, ◌∙◌, arith}
use Rattle.std.specs.List.{sum_by}
use Rattle.std.specs.Simd.{first_chunks}
use Rattle.hour_bits.specs.Bits.{row, bit_count}
use Rattle.hour_bits.proofs.Counts.{part_count, live_fits, live_words}
use Rattle.hour_bits.proofs.Keeping.{kept_of}
use Rattle.bitmap.proofs.map.Map.live_count.Goals as goal

pub returns : goal.returns
returns c = let m = c.args.self.now in let ws = m.words.items in
    let k = kept_of ws m.links m.channels m.kept in
    let enough = k.enough in
    let xs : List ℕ = take (m.links * m.channels * 6) c.deref.result.now in
    let front : c.as_chunks.result.0.now ≡ first_chunks 6 (length xs / 6) xs = c.as_chunks.ensures.front in
    let n = c.count_starts.ensures ∙ ap (sum_by (λ (r : List ℕ). bit_count (row r 3))) front
    ∙ part_count 3 (omega arith) ws xs 0 (m.links * m.channels) (ap (take (m.links * m.channels * 6)) c.deref.ensures.value) (omega arith) (λ i. 3 + i * 6) (λ i. omega arith) in
    record { few = omega (arith, n, live_fits ws m.links m.channels k); count = n ∙ sym (live_words ws m.links m.channels k) }
