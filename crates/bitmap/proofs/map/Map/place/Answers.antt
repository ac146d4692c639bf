use Rattle.std.proofs.Common.{sym, refl, ◌∙◌}
use Rattle.hour_bits.proofs.Calls.{words_fit, placed}
use Rattle.hour_bits.proofs.Keeping.{kept_of}
use Rattle.bitmap.proofs.map.Map.place.Goals as goal

pub returns-then-not-fits : goal.returns-then-not-fits
returns-then-not-fits c = let m = c.args.self.now in
    (refl, words_fit m.words.items m.links m.channels c.args.run c.size.result c.size.ensures ∙ sym c.fits.ensures ∙ c.if-not-fits.true)

pub returns : goal.returns
returns c = let m = c.args.self.now in
    placed m.words.items m.links m.channels c.args.run (kept_of m.words.items m.links m.channels m.kept)
    (words_fit m.words.items m.links m.channels c.args.run c.size.result c.size.ensures ∙ sym c.fits.ensures ∙ c.if-not-fits.false)
