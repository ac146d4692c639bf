use Rattle.std.proofs.Common.{◌≡◌, false, Err, ◌∙◌, sym, subst, rules}
use Rattle.calendar.proofs.Takens.{taken_out}
use Rattle.calendar.specs.Meaning.{fits}
use Rattle.hour_bits.specs.Bits.{Shown}
use Rattle.hour_bits.specs.Tables.{words_mean}
use Rattle.hour_bits.proofs.Calls.{words_proper, cell_fits, bit_shown, first_shown, held_outside}
use Rattle.hour_bits.proofs.Keeping.{kept_of}
use Rattle.bitmap.proofs.map.Map.runs_at.Goals as goal

pub returns-in_err-base : goal.returns-in_err-base
returns-in_err-base c = let m = c.args.self.now in let ws = m.words.items in let run = c.args.run in
    let e : c.from_residual.result ≡ Err c.in_err-base.field-0.0 = search rules in
    let out = c.in_err-base.ensures.1 in
    rw e (
      taken_out (words_mean ws m.links m.channels) run (words_proper ws m.links m.channels run ∙ out),
      λ one. held_outside ws m.links m.channels (kept_of ws m.links m.channels m.kept) run.link run.channel run.first
          (sym (cell_fits m.links m.channels run.link run.channel run.first) ∙ subst (λ n. fits m.links m.channels (record { link = run.link; channel = run.channel; first = run.first; hours = n }) ≡ false) one out),
    )

pub returns : goal.returns
returns c = let m = c.args.self.now in let ws = m.words.items in let b = c.in_ok-base.base in
    let s = subst (λ xs. Shown xs b c.load.result) c.deref.ensures.value c.load.ensures in
    let k = kept_of ws m.links m.channels m.kept in (
      bit_shown ws m.links m.channels k c.args.run b c.in_ok-base.ensures c.load.result s,
      first_shown ws m.links m.channels k c.args.run b c.in_ok-base.ensures c.load.result s,
    )
