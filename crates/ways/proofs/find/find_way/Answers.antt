use Rattle.std.proofs.Common.{◌≡◌, ℕ, ◌≤◌, vec_len, sym, refl, ap, ◌∙◌, arith, rules}
use Rattle.std.proofs.lemmas.Bool.{cond-true}
use Rattle.calendar.specs.Meaning.{taken}
use Rattle.network.specs.Flags.{may_use}
use Rattle.ways.specs.Hours.{hours_fit, run_free, cell_at}
use Rattle.ways.specs.Ways.{noted, by_fit}
use Rattle.ways.proofs.Fits.{fit_same}
use Rattle.ways.proofs.find.find_way.Goals as goal

pub returns : goal.returns
returns g c =
    let k = g.C.Cost.kind in
    let m = g.P.Plant.meaning c.args.plant.now in
    let net = c.args.net.now in
    let may = may_use c.args.usable.now in
    let o = c.args.order in
    let xs = c.note.new.self.cells.items in
    let cs : c.size-channels.result.channels ≡ m.channels = ap (λ s. s.channels) c.size-channels.ensures in
    let links = c.link_count.ensures in
    let free : (l ch : ℕ) → 1 ≤ l → l ≤ vec_len net.links → 1 ≤ ch → ch ≤ m.channels → cell_at xs l ch ≡ run_free (taken m) o l ch
    = λ l ch a b p q. (let t = c.note.ensures.told l ch a (omega (arith, b, links)) p (omega (arith, q, cs)) in search rules) in
    c.way_by.ensures
    ∙ ap (λ n. by_fit c.args.fit (noted k net may xs n o)) (c.note.ensures.channels ∙ cs)
    ∙ fit_same k net m.channels o may may (cell_at xs) (run_free (taken m) o) (λ _ _ _. refl) free c.args.fit
    ∙ sym (cond-true (hours_fit o) _ _ (sym c.if-not-hours_fit.ensures))
