-- What an accepted call tells of its order.
use Rattle.std.proofs.Common.{◌≡◌, ℕ, ◌+◌, ◌<◌, ◌≤◌, Bool, true, false, cond, not, ◌&&◌, eqb, ltb, leb, List, length, is_some, Some, None, vec_len, Option, sym, refl, ap, ◌∙◌}
use Rattle.std.proofs.lemmas.Bool.{both_ways, and_parts, and_from, not-true, not-false, ltb-false, leb-false, leb-true, le-leb}
use Rattle.calendar.specs.Week.{any, later}
use Rattle.calendar.specs.Meaning.{Meaning, room_of, taken}
use Rattle.calendar.proofs.Sums.{any_none, any_false}
use Rattle.network.specs.Costs.{Laws}
use Rattle.network.specs.Limits.{is_place, two_places}
use Rattle.network.specs.Paths.{crossing, is_path, has, when_there}
use Rattle.network.specs.declared.network.Network.{Network}
use Rattle.ways.specs.Hours.{hours_fit, block_fits, run_free, block_free}
use Rattle.ways.specs.Right.{AllowedWay}
use Rattle.ways.specs.Routes.{route_numbers, is_route}
use Rattle.ways.specs.Ways.{Wanted, every_link}
use Rattle.ways.specs.declared.way.Way.{Way}
use Rattle.ways.specs.declared.route.Route.{Route}
use Rattle.ways.proofs.Rightly.{way_found}
use Rattle.ways.proofs.Routes.{path_from, has_at}
use Rattle.orders.specs.Book.{stands}
use Rattle.orders.specs.Calls.{Rules, Said, refused, unless, stands_so, order_of, along, given, way_for, number_fits, width_fits, order_fault, runs_needed, if_room, book_answer, place_answer, was_accepted}
use Rattle.orders.specs.Runs.{link_of, first_fault, own_cells}
use Rattle.orders.specs.Standing.{Standing}
use Rattle.orders.specs.declared.refusal.Refusal.{Refusal}
use Rattle.orders.specs.declared.refusal.Refusal.TheVariants.{FewerLinks, BadNumber, BadEnds, BadWidth, BadHours, StandsAlready, BookFull, NoWay, NotAPath, BadBlock, CellClosed, CellHeld, NoRoom, NotStanding}
use Rattle.orders.specs.declared.request.Request.{Request}
use Rattle.orders.proofs.Firsts.{some_fault, taken_all}
use Rattle.orders.proofs.Tied.{blocked, fit}

-- no refusal has the number 0
pub no_refusal : (why : Refusal) → was_accepted (refused why) ≡ true → ⊥
no_refusal FewerLinks h = both_ways false refl h
no_refusal BadNumber h = both_ways false refl h
no_refusal BadEnds h = both_ways false refl h
no_refusal BadWidth h = both_ways false refl h
no_refusal BadHours h = both_ways false refl h
no_refusal StandsAlready h = both_ways false refl h
no_refusal BookFull h = both_ways false refl h
no_refusal NoWay h = both_ways false refl h
no_refusal NotAPath h = both_ways false refl h
no_refusal BadBlock h = both_ways false refl h
no_refusal (CellClosed x) h = both_ways false refl h
no_refusal (CellHeld x) h = both_ways false refl h
no_refusal NoRoom h = both_ways false refl h
no_refusal NotStanding h = both_ways false refl h

-- a check that did not refuse
pub passed : (b : Bool) (why : Refusal) (x : Said) → was_accepted (cond b (refused why) x) ≡ true → (b ≡ false) × (was_accepted x ≡ true)
passed true why x h = absurd (no_refusal why h)
passed false why x h = (refl, h)

pub clear : (o : Option Refusal) (x : Said) → was_accepted (unless o x) ≡ true → (o ≡ None) × (was_accepted x ≡ true)
clear (Some why) x h = absurd (no_refusal why h)
clear None x h = (refl, h)

-- and one of those that book and place share
sound_so_far : (b : Bool) (why : Refusal) (x : Option Refusal) → cond b (Some why) x ≡ None → (b ≡ false) × (x ≡ None)
sound_so_far true why x h = absurd (both_ways false refl (sym (ap is_some h)))
sound_so_far false why x h = (refl, h)

pub record Checked (net : Network) (m : Meaning) (es : List Standing) (r : Request) : Type 0 where
  pub links : leb (vec_len net.links) m.links ≡ true
  pub number : r.number ≤ 9999
  pub ends : (r.from ≤ net.places) × (r.to ≤ net.places)
  pub width : width_fits r.width ≡ true
  pub hours : hours_fit (order_of r) ≡ true
  pub fresh : stands r.number es ≡ false
  pub few : length es < 64

pub checked : {C : Type 0} (g : Rules C) (m : Meaning) (es : List Standing) (r : Request) → order_fault g m es r ≡ None → Checked g.net m es r
checked g m es r h =
    let a = sound_so_far (ltb m.links (vec_len g.net.links)) FewerLinks _ h in
    let b = sound_so_far (not (number_fits r.number)) BadNumber _ a.1 in
    let c = sound_so_far (not (two_places g.net.places r.from r.to)) BadEnds _ b.1 in
    let d = sound_so_far (not (width_fits r.width)) BadWidth _ c.1 in
    let e = sound_so_far (not (hours_fit (order_of r))) BadHours _ d.1 in
    let f = sound_so_far (stands r.number es) StandsAlready _ e.1 in
    let k = sound_so_far (leb 64 (length es)) BookFull None f.1 in
    let n = and_parts (leb 1 r.number) (leb r.number 9999) (not-false (number_fits r.number) b.0) in
    let p = and_parts (is_place g.net.places r.from && is_place g.net.places r.to) (not (eqb r.from r.to)) (not-false (two_places g.net.places r.from r.to) c.0) in
    let q = and_parts (is_place g.net.places r.from) (is_place g.net.places r.to) p.0 in
    let last : (v : ℕ) → is_place g.net.places v ≡ true → v ≤ g.net.places = λ v t. leb-true v g.net.places (and_parts (leb 1 v) (leb v g.net.places) t).1 in
    record {
      number = leb-true r.number 9999 n.1;
      ends = (last r.from q.0, last r.to q.1);
      links = le-leb (vec_len g.net.links) m.links (ltb-false m.links (vec_len g.net.links) a.0);
      width = not-false (width_fits r.width) d.0;
      hours = not-false (hours_fit (order_of r)) e.0;
      fresh = f.0;
      few = leb-false 64 (length es) k.0;
    }

-- the order fits the plant, all its cells are free, and there is room for its runs
pub record Takeable (net : Network) (m : Meaning) (e : Standing) : Type 0 where
  pub fits : fit net m.links m.channels e ≡ true
  pub free : blocked (taken m) e ≡ false
  pub room : runs_needed e ≤ room_of m

fit_from : (net : Network) (m : Meaning) (es : List Standing) (r : Request) (w : Way) → Checked net m es r → is_path (crossing net every_link) net.hops r.from r.to w.path ≡ true → block_fits m.channels w.channel r.width ≡ true → fit net m.links m.channels (along (order_of r) w) ≡ true
unfolding fit
fit_from net m es r w c p b =
    and_from _ _
    (and_from (leb (vec_len net.links) m.links) (width_fits r.width && hours_fit (order_of r)) c.links (and_from (width_fits r.width) (hours_fit (order_of r)) c.width c.hours))
    (and_from (is_path (crossing net every_link) net.hops r.from r.to w.path) (block_fits m.channels w.channel r.width) p b)

pub placed : {C : Type 0} (g : Rules C) (m : Meaning) (es : List Standing) (r : Request) (a : ℕ) (p : Route) → was_accepted (place_answer g m es r a p) ≡ true → Takeable g.net m (along (order_of r) (given a p)) × (length es < 64)
unfolding is_route
placed g m es r a p ok =
    let e = along (order_of r) (given a p) in
    let one = clear (order_fault g m es r) _ ok in
    let c = checked g m es r one.0 in
    let two = passed (not (is_route g.net r.from r.to p)) NotAPath _ one.1 in
    let three = passed (not (block_fits m.channels a r.width)) BadBlock _ two.1 in
    let four = clear (first_fault m (own_cells None) e) _ three.1 in
    let five = passed (ltb (room_of m) (runs_needed e)) NoRoom (stands_so e) four.1 in
    let route = and_parts (eqb (length (route_numbers p)) p.count) (is_path (crossing g.net every_link) g.net.hops r.from r.to (route_numbers p)) (not-false (is_route g.net r.from r.to p) two.0) in (
      record {
        fits = fit_from g.net m es r (given a p) c route.1 (not-false (block_fits m.channels a r.width) three.0);
        free = ap (λ t. blocked t e) (sym (taken_all m)) ∙ sym (some_fault m (own_cells None) e) ∙ ap is_some four.0;
        room = ltb-false (room_of m) (runs_needed e) five.0;
      },
      c.few,
    )

-- a block that is free has no cell that is taken
block_clear : (t : ℕ → ℕ → ℕ → Bool) (e : Standing) → ((l : ℕ) → has l e.path ≡ true → block_free (run_free t e.order) e.order e.channel l ≡ true) → blocked t e ≡ false
unfolding blocked block_free run_free
block_clear t e free =
    any_false (length e.path) _ (λ i li. any_false e.order.width _ (λ w lw.
    let c = e.channel + w in
    let l = link_of e i in
    let b = any_none e.order.width (λ k. not (run_free t e.order l (e.channel + k))) (not-true _ (free l (has_at e.path i li))) w lw in
    not-true (any e.order.hours (λ j. t l c (later e.order.first j))) (not-false (run_free t e.order l c) b)))

pub booked : {C : Type 0} (g : Rules C) → Laws g.kind → (m : Meaning) (es : List Standing) (r : Request) (w : Way) → way_for g (taken m) m.channels (order_of r) ≡ Some w → was_accepted (book_answer g m es r) ≡ true → Takeable g.net m (along (order_of r) w) × (length es < 64)
unfolding way_for
booked {C} g laws m es r w found ok =
    let e = along (order_of r) w in
    let one = clear (order_fault g m es r) _ ok in
    let c = checked g m es r one.0 in
    let search : Wanted C = record { kind = g.kind; net = g.net; may_use = every_link; free = run_free (taken m) (order_of r); channels = m.channels; order = order_of r } in
    let x : AllowedWay search w = way_found search laws g.fit w found in
    let rest : was_accepted (if_room m e) ≡ true = sym (ap (λ o. was_accepted (when_there o (refused NoWay) (λ v. if_room m (along (order_of r) v)))) found) ∙ one.1 in
    let five = passed (ltb (room_of m) (runs_needed e)) NoRoom (stands_so e) rest in (
      record {
        fits = fit_from g.net m es r w c (path_from (crossing g.net every_link) g.net.hops r.from r.to w.path x.path) x.fits;
        free = block_clear (taken m) e x.free;
        room = ltb-false (room_of m) (runs_needed e) five.0;
      },
      c.few,
    )
