-- What the code makes of a way that is given, in the words of the rules.
use Rattle.std.proofs.Common.{◌≡◌, ℕ, ◌+◌, ◌<◌, ◌≤◌, Bool, true, false, cond, List, is_some, Some, None, Option, sym, refl, ap, ◌∙◌, subst, arith}
use Rattle.std.proofs.lemmas.Bool.{both_ways}
use Rattle.calendar.specs.Meaning.{Meaning, Sound, room_of}
use Rattle.ways.specs.Hours.{block_fits}
use Rattle.ways.specs.Routes.{route_numbers, is_route}
use Rattle.ways.specs.declared.order.Order.{Order}
use Rattle.ways.specs.declared.route.Route.{Route}
use Rattle.ways.proofs.Routes.{some_same}
use Rattle.orders.specs.Calls.{Rules, order_of, along, given, order_fault, runs_needed}
use Rattle.orders.specs.Runs.{first_fault, own_cells}
use Rattle.orders.specs.Standing.{Standing}
use Rattle.orders.specs.declared.call.Call.TheVariants.{Place}
use Rattle.orders.specs.declared.refusal.Refusal.{Refusal}
use Rattle.orders.specs.declared.refusal.Refusal.TheVariants.{NotAPath, BadBlock, NoRoom}
use Rattle.orders.specs.declared.request.Request.{Request}
use Rattle.planner.specs.Taking.{Takes, Refuses}
use Rattle.planner.proofs.Found.{block_within}
use Rattle.planner.proofs.Taking.{place_no_path, place_no_block, place_no_cell, place_no_room, place_takes}

-- a test that gives something, or nothing
given_some : {X : Type 0} (b : Bool) (x y : X) → Some x ≡ cond b (Some y) None → (b ≡ true) × (x ≡ y)
given_some true x y e = (refl, some_same x y e)
given_some false x y e = absurd (both_ways false refl (sym (ap is_some e)))

given_none : {X : Type 0} (b : Bool) (y : X) → None ≡ cond b (Some y) None → b ≡ false
given_none true y e = absurd (both_ways false refl (ap is_some e))
given_none false y e = refl

module _ {C : Type 0} (g : Rules C) (m : Meaning) (es : List Standing) (r : Request) (a : ℕ) (p : Route) (o : Order)
    (fine : (None ≡ order_fault g m es r) × (o ≡ order_of r)) where
  routed : (b : Bool) → is_route g.net o.from o.to p ≡ b → is_route g.net r.from r.to p ≡ b
  routed b e = ap (λ (x : Order). is_route g.net x.from x.to p) (sym fine.1) ∙ e

  pub given_no_path : None ≡ cond (is_route g.net o.from o.to p) (Some (route_numbers p)) None → Refuses (record { rules = g; plant = m; standing = es }) (Place r a p) NotAPath
  given_no_path e = place_no_path g m es r fine.0 a p (routed false (given_none (is_route g.net o.from o.to p) (route_numbers p) e))

  module _ (ns : List ℕ) (path : Some ns ≡ cond (is_route g.net o.from o.to p) (Some (route_numbers p)) None) where
    pathed : is_route g.net r.from r.to p ≡ true
    pathed = routed true (given_some (is_route g.net o.from o.to p) ns (route_numbers p) path).0

    fitted : (b : Bool) → block_fits m.channels a o.width ≡ b → block_fits m.channels a r.width ≡ b
    fitted b e = ap (λ (x : Order). block_fits m.channels a x.width) (sym fine.1) ∙ e

    pub given_no_block : None ≡ cond (block_fits m.channels a o.width) (Some a) None → Refuses (record { rules = g; plant = m; standing = es }) (Place r a p) BadBlock
    given_no_block e = place_no_block g m es r fine.0 a p pathed (fitted false (given_none (block_fits m.channels a o.width) a e))

    module _ (c : ℕ) (block : Some c ≡ cond (block_fits m.channels a o.width) (Some a) None) where
      blocked : block_fits m.channels a r.width ≡ true
      blocked = fitted true (given_some (block_fits m.channels a o.width) c a block).0

      -- the row that the code makes is the order with the way given
      same_row : along o (record { channel = c; path = ns }) ≡ along (order_of r) (given a p)
      same_row =
          ap (λ x. along x (record { channel = c; path = ns })) fine.1
          ∙ ap (λ x. along (order_of r) (record { channel = x; path = ns })) (given_some (block_fits m.channels a o.width) c a block).1
          ∙ ap (λ x. along (order_of r) (record { channel = a; path = x })) (given_some (is_route g.net o.from o.to p) ns (route_numbers p) path).1

      pub given_block : Sound m → (1 ≤ c) × (c + o.width ≤ 17)
      given_block so =
          let q = given_some (block_fits m.channels a o.width) c a block in
          subst (λ x. (1 ≤ x) × (x + o.width ≤ 17)) (sym q.1) (block_within m so a o.width q.0)

      faults : (f : Option Refusal) → f ≡ first_fault m (own_cells None) (along o (record { channel = c; path = ns })) → f ≡ first_fault m (own_cells None) (along (order_of r) (given a p))
      faults f e = e ∙ ap (first_fault m (own_cells None)) same_row

      pub given_no_cell : (why : Refusal) → Some why ≡ first_fault m (own_cells None) (along o (record { channel = c; path = ns })) → Refuses (record { rules = g; plant = m; standing = es }) (Place r a p) why
      given_no_cell why e = place_no_cell g m es r fine.0 a p pathed blocked why (faults (Some why) e)

      module _ (free : None ≡ first_fault m (own_cells None) (along o (record { channel = c; path = ns }))) (room needed : ℕ)
          (left : room ≡ room_of m) (wants : needed ≡ runs_needed (along o (record { channel = c; path = ns }))) where
        wanted : needed ≡ runs_needed (along (order_of r) (given a p))
        wanted = wants ∙ ap runs_needed same_row

        pub given_no_room : room < needed → Refuses (record { rules = g; plant = m; standing = es }) (Place r a p) NoRoom
        given_no_room l = place_no_room g m es r fine.0 a p pathed blocked (faults None free) (omega (arith, l, left, wanted))

        pub given_takes : needed ≤ room → Takes (record { rules = g; plant = m; standing = es }) (Place r a p) (along o (record { channel = c; path = ns }))
        given_takes l =
            subst (Takes (record { rules = g; plant = m; standing = es }) (Place r a p)) (sym same_row)
            (place_takes g m es r fine.0 a p pathed blocked (faults None free) (omega (arith, l, left, wanted)))
