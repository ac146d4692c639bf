use Rattle.std.proofs.Common.{◌≡◌, Err, ◌∙◌, sym, ap, subst, rules}
use Rattle.calendar.specs.Numbers.{refusal_number}
use Rattle.hour_bits.specs.Bits.{Shown}
use Rattle.hour_bits.proofs.Calls.{release_out, release_refused, live_shown}
use Rattle.hour_bits.proofs.Keeping.{kept_of}
use Rattle.bitmap.proofs.map.Map.live_place.Goals as goal

pub returns-in_err-base : goal.returns-in_err-base
returns-in_err-base c = let m = c.args.self.now in
    let e : c.from_residual.result ≡ Err c.in_err-base.field-0.0 = search rules in
    let o = release_out m.words.items m.links m.channels c.args.run c.in_err-base.ensures.1 in
    rw e (o.0 ∙ sym (ap refusal_number c.in_err-base.ensures.0), o.1)

pub returns-then-not-is_live : goal.returns-then-not-is_live
returns-then-not-is_live c = let m = c.args.self.now in let ws = m.words.items in let b = c.in_ok-base.base in
    release_refused ws m.links m.channels (kept_of ws m.links m.channels m.kept) c.args.run b c.in_ok-base.ensures c.load.result (subst (λ xs. Shown xs b c.load.result) c.deref.ensures.value c.load.ensures) (sym c.is_live.ensures ∙ c.if-not-is_live.true)

pub returns : goal.returns
returns c = let m = c.args.self.now in let ws = m.words.items in let b = c.in_ok-base.base in record {
  place = c.in_ok-base.ensures;
  live = live_shown ws m.links m.channels (kept_of ws m.links m.channels m.kept) c.args.run b c.in_ok-base.ensures c.load.result (subst (λ xs. Shown xs b c.load.result) c.deref.ensures.value c.load.ensures) (sym c.is_live.ensures ∙ c.if-not-is_live.false);
}
