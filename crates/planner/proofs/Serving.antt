-- A list of calls, served one after the other.
use Rattle.std.proofs.Common.{◌≡◌, ℕ, ◌+◌, ◌<◌, ◌≤◌, true, false, List, [], ◌∷◌, ◌++◌, map, length, get_or, take, drop, set, is_some, Some, None, Option, Result, sym, refl, ap, ◌∙◌, subst, arith}
use lib.Seq.{map-set_same}
use Rattle.std.specs.Option.{option_map}
use Rattle.std.proofs.lemmas.Bool.{both_ways}
use Rattle.std.proofs.lemmas.List.{take_more_set, drop-set-lt, drop_more, drop_all, take_all, append_assoc, append-nil, map_push}
use Rattle.calendar.specs.Meaning.{Meaning, Sound}
use Rattle.network.specs.Costs.{Laws}
use Rattle.orders.specs.Calls.{Rules, Said, State, said, answer, was_accepted, plant_after, orders_after}
use Rattle.orders.specs.Lists.{Done, all_answers, after_all, feed, fed_all, standing}
use Rattle.orders.specs.Standing.{Standing}
use Rattle.network.specs.Paths.{when_there, no_twice}
use Rattle.ways.proofs.Routes.{some_same}
use Rattle.orders.specs.declared.call.Accepted.{Accepted}
use Rattle.orders.specs.declared.call.Call.{Call}
use Rattle.orders.specs.declared.call.Slot.{Slot}
use Rattle.orders.specs.declared.refusal.Refusal.{Refusal}
use Rattle.orders.proofs.Kept.{keeps, fed_now, tied_none}
use Rattle.orders.proofs.Tied.{Tied}
use Rattle.floor.specs.Plans.{reported}
use Rattle.floor.specs.declared.report.Report.{Report}
use Rattle.planner.specs.Law.{Served}
use Rattle.planner.specs.Slots.{calls_of, answers_of, done, dones}
use Rattle.planner.proofs.Lawful.{lawful}

abbrev state : {C : Type 0} → Rules C → Meaning → List Standing → State C
state g m es = record { rules = g; plant = m; standing = es }

-- after the first i calls, where ss is the list with their answers in it: what is done and what is still to come
-- make up the whole
pub record Going {C : Type 0} (g : Rules C) (m0 : Meaning) (es0 : List Standing) (ss0 : List Slot) (i : ℕ) (ss : List Slot) (m : Meaning) (es : List Standing) : Type 0 where
  pub calls : calls_of ss ≡ calls_of ss0
  pub told : answers_of (take i ss) ++ map Some (all_answers (state g m es) (calls_of (drop i ss))) ≡ map Some (all_answers (state g m0 es0) (calls_of ss0))
  pub left : after_all (state g m es) (calls_of (drop i ss)) ≡ after_all (state g m0 es0) (calls_of ss0)
  pub tied : es0 ≡ [] → (es ≡ standing g m0 (dones (take i ss))) × Tied g.net m0 m es

fed_push : {C : Type 0} (g : Rules C) (s : Meaning) (es : List Standing) (ds : List Done) (d : Done) → fed_all g s es (ds ++ (d ∷ [])) ≡ feed g s (fed_all g s es ds) d
unfolding fed_all
fed_push g s es [] d = refl
fed_push g s es (x ∷ xs) d = fed_push g s (feed g s es x) xs d

-- a call is done as its answer says
accepted_so : (o : Option (Result Accepted Refusal)) (a : Said) → option_map said o ≡ Some a → when_there o false (λ x. was_accepted (said x)) ≡ was_accepted a
accepted_so None a e = absurd (both_ways false refl (ap is_some e))
accepted_so (Some x) a e = ap was_accepted (some_same (said x) a e)

done_so : (s : Slot) (c : Call) (a : Said) → s.call ≡ c → option_map said s.answer ≡ Some a → done s ≡ record { call = c; ok = was_accepted a }
done_so s c a same says =
    ap (λ x. record { call = x; ok = when_there s.answer false (λ y. was_accepted (said y)) }) same ∙ ap (λ b. record { call = c; ok = b }) (accepted_so s.answer a says)

module _ {C : Type 0} (g : Rules C) (laws : Laws g.kind) (m0 : Meaning) (es0 : List Standing) (ss0 : List Slot) where
  pub going_none : Going g m0 es0 ss0 0 ss0 m0 es0
  unfolding fed_all
  going_none = record { calls = refl; told = refl; left = refl; tied = λ e. (e, subst (Tied g.net m0 m0) (sym e) (tied_none g.net m0)) }

  pub going_more : (i : ℕ) (ss ss' : List Slot) (old new : Slot) (m m' : Meaning) (es es' : List Standing) → Sound m → i < length ss → Going g m0 es0 ss0 i ss m es
      → old ≡ get_or ss i old → new.call ≡ old.call → option_map said new.answer ≡ Some (answer g m es old.call) → ss' ≡ set ss i new
      → m' ≡ plant_after g m es old.call → es' ≡ orders_after g m es old.call → Going g m0 es0 ss0 (i + 1) ss' m' es'
  unfolding all_answers after_all
  going_more i ss ss' old new m m' es es' so l go is same says e p q =
      let c = old.call in
      let D : drop i ss ≡ old ∷ drop (i + 1) ss = drop_more ss i old l ∙ ap (λ x. x ∷ drop (i + 1) ss) (sym is) in
      let t : take (i + 1) ss' ≡ take i ss ++ (new ∷ []) = ap (take (i + 1)) e ∙ take_more_set ss i new l in
      let r : drop (i + 1) ss' ≡ drop (i + 1) ss = ap (drop (i + 1)) e ∙ drop-set-lt (i + 1) ss i new (omega arith) in
      let rest = calls_of (drop (i + 1) ss) in
      let next : State C = state g (plant_after g m es c) (orders_after g m es c) in
      let was : answers_of (take i ss) ++ (Some (answer g m es c) ∷ map Some (all_answers next rest)) ≡ map Some (all_answers (state g m0 es0) (calls_of ss0))
      = ap (λ x. answers_of (take i ss) ++ map Some (all_answers (state g m es) (calls_of x))) (sym D) ∙ go.told in
      let will : after_all next rest ≡ after_all (state g m0 es0) (calls_of ss0) = ap (λ x. after_all (state g m es) (calls_of x)) (sym D) ∙ go.left in
      let now : state g m' es' ≡ next = ap (λ x. state g x es') p ∙ ap (state g (plant_after g m es c)) q in
      let ok : done new ≡ record { call = c; ok = was_accepted (answer g m es c) } = done_so new c (answer g m es c) same says in
      record {
        calls = ap calls_of e ∙ map-set_same (λ (s : Slot). s.call) ss i new old (same ∙ ap (λ (s : Slot). s.call) is) ∙ go.calls;
        told =
            ap (λ x. answers_of x ++ map Some (all_answers (state g m' es') (calls_of (drop (i + 1) ss')))) t
            ∙ ap (λ x. answers_of (take i ss ++ (new ∷ [])) ++ map Some (all_answers (state g m' es') (calls_of x))) r
            ∙ ap (λ x. answers_of (take i ss ++ (new ∷ [])) ++ map Some (all_answers x rest)) now
            ∙ ap (λ x. x ++ map Some (all_answers next rest)) (map_push (λ (s : Slot). option_map said s.answer) (take i ss) new)
            ∙ append_assoc (answers_of (take i ss)) (option_map said new.answer ∷ []) (map Some (all_answers next rest))
            ∙ ap (λ x. answers_of (take i ss) ++ (x ∷ map Some (all_answers next rest))) says
            ∙ was;
        left = ap (λ x. after_all (state g m' es') (calls_of x)) r ∙ ap (λ x. after_all x rest) now ∙ will;
        tied = λ z.
            let k = go.tied z in (
              q ∙ fed_now g laws m0 m so es k.1 c (was_accepted (answer g m es c))
                  ∙ ap (λ x. feed g m0 x (record { call = c; ok = was_accepted (answer g m es c) })) k.0
                  ∙ ap (feed g m0 (standing g m0 (dones (take i ss)))) (sym ok)
                  ∙ sym (fed_push g m0 [] (dones (take i ss)) (done new))
                  ∙ sym (ap (λ x. standing g m0 (dones x)) t ∙ ap (standing g m0) (map_push done (take i ss) new)),
              subst (λ x. Tied g.net m0 x es') (sym p) (subst (Tied g.net m0 (plant_after g m es c)) (sym q) (keeps g laws m0 m so es k.1 c)),
            );
      }

  pub going_all : (i : ℕ) (ss : List Slot) (m : Meaning) (es : List Standing) (r : Report) → length ss ≤ i → Going g m0 es0 ss0 i ss m es → no_twice (map (λ e. e.order.number) es) ≡ true → r ≡ reported g.net es → Served (state g m0 es0) ss0 (state g m es) ss r
  unfolding all_answers after_all
  going_all i ss m es r l go once told =
      let D = drop_all i ss l in
      let T = take_all i ss l in
      record {
        calls = go.calls;
        answers = sym (append-nil (answers_of ss)) ∙ ap (λ x. answers_of x ++ []) (sym T) ∙ ap (λ x. answers_of (take i ss) ++ map Some (all_answers (state g m es) (calls_of x))) (sym D) ∙ go.told;
        state = ap (λ x. after_all (state g m es) (calls_of x)) (sym D) ∙ go.left;
        numbers = once;
        report = told;
        law = λ z.
            let k = go.tied z in
            let same : es ≡ standing g m0 (dones ss) = k.0 ∙ ap (λ x. standing g m0 (dones x)) T in
            lawful g m0 m (standing g m0 (dones ss)) r (subst (Tied g.net m0 m) same k.1) (told ∙ ap (reported g.net) same);
      }
