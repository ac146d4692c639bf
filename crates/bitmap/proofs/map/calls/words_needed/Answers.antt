use Rattle.std.proofs.Common.{◌*◌, sym, refl, ◌∙◌, arith}
use Rattle.std.proofs.lemmas.Bool.{le-leb, lt-leb}
use Rattle.calendar.proofs.Made.{map_sizes, map_memory, map_made}
use Rattle.bitmap.proofs.map.calls.words_needed.Goals as goal

pub returns-then-not-sizes_fit : goal.returns-then-not-sizes_fit
returns-then-not-sizes_fit c = map_sizes c.args.links c.args.channels c.args.words (sym c.sizes_fit.ensures ∙ c.if-not-sizes_fit.true)

pub returns-then-words-needed : goal.returns-then-words-needed
returns-then-words-needed c =
    map_memory c.args.links c.args.channels c.args.words (sym c.sizes_fit.ensures ∙ c.if-not-sizes_fit.false) (lt-leb (c.args.links * c.args.channels * 6) c.args.words (omega arith))

pub returns : goal.returns
returns c = (map_made c.args.links c.args.channels c.args.words (sym c.sizes_fit.ensures ∙ c.if-not-sizes_fit.false) (le-leb (c.args.links * c.args.channels * 6) c.args.words (omega arith)), refl)
