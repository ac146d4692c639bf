-- What the checks of a call come to.
use Rattle.std.proofs.Common.{◌≡◌, ℕ, ◌<◌, ◌≤◌, Bool, true, false, cond, not, ◌||◌, ltb, leb, List, [], ◌∷◌, ◌++◌, length, Some, None, Option, sym, refl, ap, ◌∙◌, ⊎_elim}
use Rattle.std.proofs.lemmas.Bool.{cases_Bool, cond-true, cond-false, le-ltb, lt-ltb, lt-leb, or_from}
use Rattle.calendar.specs.Meaning.{Meaning, room_of, taken}
use Rattle.network.specs.Paths.{when_there}
use Rattle.ways.specs.Hours.{block_fits}
use Rattle.ways.specs.Routes.{is_route}
use Rattle.ways.specs.declared.way.Way.{Way}
use Rattle.ways.specs.declared.route.Route.{Route}
use Rattle.orders.specs.Book.{stands, pushed}
use Rattle.orders.specs.Calls.{Rules, State, Said, stands_so, refused, unless, order_of, along, given, way_for, order_fault, runs_needed, if_room, book_answer, place_answer, answer, was_accepted, effect, fed}
use Rattle.orders.specs.Runs.{hold_all, first_fault, own_cells}
use Rattle.orders.specs.Standing.{Standing}
use Rattle.orders.specs.declared.call.Call.{Call}
use Rattle.orders.specs.declared.call.Call.TheVariants.{Book, Place, Cancel, Shift}
use Rattle.orders.specs.declared.refusal.Refusal.{Refusal}
use Rattle.orders.specs.declared.refusal.Refusal.TheVariants.{NoWay, NotAPath, BadBlock, NoRoom}
use Rattle.orders.specs.declared.request.Request.{Request}
use Rattle.orders.proofs.Checks.{Checked, checked, no_refusal}
use Rattle.planner.specs.Taking.{Takes, Refuses}

abbrev pub state_of : {C : Type 0} → Rules C → Meaning → List Standing → State C
state_of g m es = record { rules = g; plant = m; standing = es }

pub same_state : {C : Type 0} (g : Rules C) (m n : Meaning) (es fs : List Standing) → m ≡ n → es ≡ fs → state_of g m es ≡ state_of g n fs
same_state g m n es fs p q = rw (p, q) refl

module _ {C : Type 0} (g : Rules C) (m : Meaning) (es : List Standing) where
  state : State C
  state = record { rules = g; plant = m; standing = es }

  -- a refused call feeds nothing
  fed_refused : (t : ℕ → ℕ → ℕ → Bool) (cs : ℕ) (c : Call) → fed g t cs es c false ≡ es
  fed_refused t cs (Book r) = refl
  fed_refused t cs (Place r a p) = refl
  fed_refused t cs (Cancel n) = refl
  fed_refused t cs (Shift n f) = refl

  not_accepted : (why : Refusal) → was_accepted (refused why) ≡ false
  not_accepted why = ⊎_elim (λ h. absurd (no_refusal why h)) (λ h. h) (cases_Bool (was_accepted (refused why)))

  pub refuses : (c : Call) (why : Refusal) → answer g m es c ≡ refused why → Refuses (record { rules = g; plant = m; standing = es }) c why
  refuses c why e =
      let no : was_accepted (answer g m es c) ≡ false = ap was_accepted e ∙ not_accepted why in
      record {
        answer = sym e;
        state = same_state g m _ es _ (sym (cond-false (was_accepted (answer g m es c)) (effect g m es c) m no)) (sym (ap (fed g (taken m) m.channels es c) no ∙ fed_refused (taken m) m.channels c));
      }

  -- the last checks, once those that book and place share have passed
  pushes : (r : Request) (w : Way) → Checked g.net m es r → pushed es (along (order_of r) w) ≡ es ++ (along (order_of r) w ∷ [])
  pushes r w c =
      cond-false (leb 64 (length es) || stands r.number es) es (es ++ (along (order_of r) w ∷ []))
      (or_from (leb 64 (length es)) (stands r.number es) (lt-leb 64 (length es) c.few) c.fresh)

  roomy : (e : Standing) → runs_needed e ≤ room_of m → if_room m e ≡ stands_so e
  roomy e room = cond-false (ltb (room_of m) (runs_needed e)) (refused NoRoom) (stands_so e) (le-ltb (room_of m) (runs_needed e) room)

  crowded : (e : Standing) → room_of m < runs_needed e → if_room m e ≡ refused NoRoom
  crowded e room = cond-true (ltb (room_of m) (runs_needed e)) (refused NoRoom) (stands_so e) (lt-ltb (room_of m) (runs_needed e) room)

  module _ (r : Request) where
    module _ (fine : None ≡ order_fault g m es r) where
      searched : (o : Option Way) → o ≡ way_for g (taken m) m.channels (order_of r) → book_answer g m es r ≡ when_there o (refused NoWay) (λ w. if_room m (along (order_of r) w))
      searched o f = ap (λ x. unless x (when_there (way_for g (taken m) m.channels (order_of r)) (refused NoWay) (λ w. if_room m (along (order_of r) w)))) (sym fine) ∙ ap (λ x. when_there x (refused NoWay) (λ w. if_room m (along (order_of r) w))) (sym f)

      pub book_no_way : None ≡ way_for g (taken m) m.channels (order_of r) → Refuses (record { rules = g; plant = m; standing = es }) (Book r) NoWay
      book_no_way f = refuses (Book r) NoWay (searched None f)

      module _ (w : Way) (found : Some w ≡ way_for g (taken m) m.channels (order_of r)) where
        pub book_no_room : room_of m < runs_needed (along (order_of r) w) → Refuses (record { rules = g; plant = m; standing = es }) (Book r) NoRoom
        book_no_room room = refuses (Book r) NoRoom (searched (Some w) found ∙ crowded (along (order_of r) w) room)

        pub book_takes : runs_needed (along (order_of r) w) ≤ room_of m → Takes (record { rules = g; plant = m; standing = es }) (Book r) (along (order_of r) w)
        book_takes room =
            let e = along (order_of r) w in
            let a : book_answer g m es r ≡ stands_so e = searched (Some w) found ∙ roomy e room in
            let ok : was_accepted (book_answer g m es r) ≡ true = ap was_accepted a in
            record {
              answer = sym a;
              state = same_state g _ _ _ _
                  (sym (cond-true (was_accepted (book_answer g m es r)) (effect g m es (Book r)) m ok ∙ ap (λ o. when_there o m (λ v. hold_all m (along (order_of r) v))) (sym found)))
                  (pushes r w (checked g m es r (sym fine)) ∙ sym (ap (fed g (taken m) m.channels es (Book r)) ok ∙ ap (λ o. when_there o es (λ v. es ++ (along (order_of r) v ∷ []))) (sym found)));
            }

    module _ (fine : None ≡ order_fault g m es r) (a : ℕ) (p : Route) where
      shared : (x : Said) → place_answer g m es r a p ≡ unless (order_fault g m es r) x → place_answer g m es r a p ≡ x
      shared x e = e ∙ ap (λ o. unless o x) (sym fine)

      pathed : (b : Bool) → is_route g.net r.from r.to p ≡ b → place_answer g m es r a p ≡ cond (not b) (refused NotAPath) (cond (not (block_fits m.channels a r.width)) (refused BadBlock) (unless (first_fault m (own_cells None) (along (order_of r) (given a p))) (if_room m (along (order_of r) (given a p)))))
      pathed b e = shared _ refl ∙ ap (λ t. cond (not t) (refused NotAPath) (cond (not (block_fits m.channels a r.width)) (refused BadBlock) (unless (first_fault m (own_cells None) (along (order_of r) (given a p))) (if_room m (along (order_of r) (given a p)))))) e

      pub place_no_path : is_route g.net r.from r.to p ≡ false → Refuses (record { rules = g; plant = m; standing = es }) (Place r a p) NotAPath
      place_no_path e = refuses (Place r a p) NotAPath (pathed false e)

      module _ (path : is_route g.net r.from r.to p ≡ true) where
        blocked : (b : Bool) → block_fits m.channels a r.width ≡ b → place_answer g m es r a p ≡ cond (not b) (refused BadBlock) (unless (first_fault m (own_cells None) (along (order_of r) (given a p))) (if_room m (along (order_of r) (given a p))))
        blocked b e = pathed true path ∙ ap (λ t. cond (not t) (refused BadBlock) (unless (first_fault m (own_cells None) (along (order_of r) (given a p))) (if_room m (along (order_of r) (given a p))))) e

        pub place_no_block : block_fits m.channels a r.width ≡ false → Refuses (record { rules = g; plant = m; standing = es }) (Place r a p) BadBlock
        place_no_block e = refuses (Place r a p) BadBlock (blocked false e)

        module _ (block : block_fits m.channels a r.width ≡ true) where
          celled : (o : Option Refusal) → o ≡ first_fault m (own_cells None) (along (order_of r) (given a p)) → place_answer g m es r a p ≡ unless o (if_room m (along (order_of r) (given a p)))
          celled o e = blocked true block ∙ ap (λ x. unless x (if_room m (along (order_of r) (given a p)))) (sym e)

          pub place_no_cell : (why : Refusal) → Some why ≡ first_fault m (own_cells None) (along (order_of r) (given a p)) → Refuses (record { rules = g; plant = m; standing = es }) (Place r a p) why
          place_no_cell why e = refuses (Place r a p) why (celled (Some why) e)

          module _ (free : None ≡ first_fault m (own_cells None) (along (order_of r) (given a p))) where
            pub place_no_room : room_of m < runs_needed (along (order_of r) (given a p)) → Refuses (record { rules = g; plant = m; standing = es }) (Place r a p) NoRoom
            place_no_room room = refuses (Place r a p) NoRoom (celled None free ∙ crowded (along (order_of r) (given a p)) room)

            pub place_takes : runs_needed (along (order_of r) (given a p)) ≤ room_of m → Takes (record { rules = g; plant = m; standing = es }) (Place r a p) (along (order_of r) (given a p))
            place_takes room =
                let e = along (order_of r) (given a p) in
                let a' : place_answer g m es r a p ≡ stands_so e = celled None free ∙ roomy e room in
                let ok : was_accepted (place_answer g m es r a p) ≡ true = ap was_accepted a' in
                record {
                  answer = sym a';
                  state = same_state g _ _ _ _ (sym (cond-true (was_accepted (place_answer g m es r a p)) (effect g m es (Place r a p)) m ok))
                      (pushes r (given a p) (checked g m es r (sym fine)) ∙ sym (ap (fed g (taken m) m.channels es (Place r a p)) ok));
                }
