use Rattle.std.proofs.Common.{◌≡◌, ◌++◌, length, take, drop, sym, ap, ◌∙◌, subst, rules}
use Rattle.std.proofs.Math.Seq.{take-append_seam}
use Rattle.hour_bits.specs.Bits.{bits, Shown, Stored}
use Rattle.hour_bits.proofs.Calls.{release_stored}
use Rattle.hour_bits.proofs.Keeping.{kept_of}
use Rattle.bitmap.proofs.map.Map.take_out.Goals as goal

pub invariant_of-self : goal.invariant_of-self
invariant_of-self c = let m = c.args.self.now in let ws = m.words.items in let b = c.args.base in let new = c.release-fewer.result in let N = c.store.new.words in
    let s = subst (λ xs. Shown xs b c.load.result) c.deref.ensures.value c.load.ensures in
    let len : m.words.len ≡ length N = search rules in
    let e : take m.words.len (N ++ drop (length N) ws) ≡ N = ap (λ k. take k (N ++ drop (length N) ws)) len ∙ take-append_seam N (drop (length N) ws) in
    let same : length N ≡ length ws = search rules in
    let t = subst (λ xs. Stored xs (take m.words.len (N ++ drop (length N) ws)) b (bits new.held) (bits new.starts)) c.deref_mut.ensures.value (subst (λ xs. Stored c.deref_mut.result.now xs b (bits new.held) (bits new.starts)) (sym e) c.store.ensures) in
    let d = release_stored ws m.links m.channels (kept_of ws m.links m.channels m.kept) c.args.run b c.requires.place c.load.result s new _ (ap length e ∙ same) t c.requires.live c.release-fewer.ensures in
    record { kept = ∣ d.kept ∣₁ }

pub returns : goal.returns
returns c = let m = c.args.self.now in let ws = m.words.items in let b = c.args.base in let new = c.release-fewer.result in let N = c.store.new.words in
    let s = subst (λ xs. Shown xs b c.load.result) c.deref.ensures.value c.load.ensures in
    let len : m.words.len ≡ length N = search rules in
    let e : take m.words.len (N ++ drop (length N) ws) ≡ N = ap (λ k. take k (N ++ drop (length N) ws)) len ∙ take-append_seam N (drop (length N) ws) in
    let same : length N ≡ length ws = search rules in
    let t = subst (λ xs. Stored xs (take m.words.len (N ++ drop (length N) ws)) b (bits new.held) (bits new.starts)) c.deref_mut.ensures.value (subst (λ xs. Stored c.deref_mut.result.now xs b (bits new.held) (bits new.starts)) (sym e) c.store.ensures) in
    let d = release_stored ws m.links m.channels (kept_of ws m.links m.channels m.kept) c.args.run b c.requires.place c.load.result s new _ (ap length e ∙ same) t c.requires.live c.release-fewer.ensures in
    record { answer = d.answer; after = d.after; spare = d.spare }
