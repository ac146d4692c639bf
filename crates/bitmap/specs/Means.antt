-- What a map means, and what its calls leave alone.
--
--   map_means m    the plant that the bits of the map's words show
--   Spares m n     the words past those that the map needs, and the number of words, are the same in m and n
use Rattle.std.specs.Prelude.{◌*◌, vec_items}
use Rattle.calendar.specs.Meaning.{Meaning}
use Rattle.hour_bits.specs.Tables.{words_mean, Spare}
use Rattle.bitmap.specs.declared.map.Map.{Map}

abbrev pub map_means : Map → Meaning
map_means m = words_mean (vec_items m.words) m.links m.channels

abbrev pub Spares : Map → Map → Type 0
Spares m n = Spare (vec_items m.words) (vec_items n.words) (m.links * m.channels * 6)
