use Rattle.std.proofs.Common.{◌≡◌, ℕ, ◌*◌, ◌<◌, ◌++◌, length, get_or, take, drop, sym, ap, ◌∙◌, subst, arith, rules}
use Rattle.std.proofs.Math.Seq.{take-append_seam}
use Rattle.calendar.proofs.Made.{sizes_parts}
use Rattle.hour_bits.specs.Tables.{Spare}
use Rattle.hour_bits.proofs.Keeping.{map_sized, zero_kept, zero_open}
use Rattle.bitmap.proofs.map.calls.make.Goals as goal

pub wipe-requires : goal.wipe-requires
wipe-requires c = let s = map_sized c.args.links c.args.channels c.args.words.len c.requires.sized in omega (arith, s.1, c.requires.six)

pub overflow_cast-result : goal.overflow_cast-result
overflow_cast-result c = let p = sizes_parts c.args.links c.args.channels (map_sized c.args.links c.args.channels c.args.words.len c.requires.sized).0 in omega arith

pub overflow_cast-result-2 : goal.overflow_cast-result-2
overflow_cast-result-2 c = let p = sizes_parts c.args.links c.args.channels (map_sized c.args.links c.args.channels c.args.words.len c.requires.sized).0 in omega arith

pub invariant_of-result : goal.invariant_of-result
invariant_of-result c = let L = c.args.links in let C = c.args.channels in let ws = c.args.words.items in let N = c.wipe.new.words in
    let s = map_sized L C c.args.words.len c.requires.sized in
    let enough = s.1 in
    let six = c.requires.six in
    let len : c.args.words.len ≡ length N = search rules in
    let e : take c.args.words.len (N ++ drop (length N) ws) ≡ N = ap (λ k. take k (N ++ drop (length N) ws)) len ∙ take-append_seam N (drop (length N) ws) in
    let zero : (i : ℕ) → i < L * C * 6 → get_or (take c.args.words.len (N ++ drop (length N) ws)) i 0 ≡ 0 = λ i l. ap (λ xs. get_or xs i 0) e ∙ c.wipe.ensures.zero i (omega arith) in
    record { kept = ∣ zero_kept _ L C zero s.0 (omega (arith, ap length e)) ∣₁ }

pub returns : goal.returns
returns c = let L = c.args.links in let C = c.args.channels in let ws = c.args.words.items in let N = c.wipe.new.words in
    let s = map_sized L C c.args.words.len c.requires.sized in
    let enough = s.1 in
    let six = c.requires.six in
    let len : c.args.words.len ≡ length N = search rules in
    let e : take c.args.words.len (N ++ drop (length N) ws) ≡ N = ap (λ k. take k (N ++ drop (length N) ws)) len ∙ take-append_seam N (drop (length N) ws) in
    let zero : (i : ℕ) → i < L * C * 6 → get_or (take c.args.words.len (N ++ drop (length N) ws)) i 0 ≡ 0 = λ i l. ap (λ xs. get_or xs i 0) e ∙ c.wipe.ensures.zero i (omega arith) in
    record {
      means = zero_open _ L C zero;
      spare = subst (Spare ws _) six (subst (λ xs. Spare xs (take c.args.words.len (N ++ drop (length N) ws)) c.args.needed) c.deref_mut.ensures.value (subst (λ ys. Spare c.deref_mut.result.now ys c.args.needed) (sym e) c.wipe.ensures.spare));
    }
