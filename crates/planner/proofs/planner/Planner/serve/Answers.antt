use Rattle.std.proofs.Common.{◌<◌, ◌≤◌, length, get_or, set, Some, vec_items, sym, refl, ap, ◌∙◌, subst, arith}
use Rattle.orders.specs.Calls.{Rules, State, answer, plant_after, orders_after}
use Rattle.orders.specs.declared.call.Slot.{Slot}
use Rattle.orders.proofs.Numbers.{stood_apart}
use Rattle.floor.specs.Plans.{reported}
use Rattle.planner.specs.Law.{Served}
use Rattle.planner.specs.Seen.{seen}
use Rattle.planner.proofs.Serving.{going_none, going_more, going_all}
use Rattle.planner.proofs.planner.Planner.serve.Goals as goal

pub loop-slot-init : goal.loop-slot-init
loop-slot-init g c =
    let start = seen g.P.Plant.meaning g.C.Cost.kind c.args.self.now in
    (refl, going_none start.rules g.C.Cost.laws start.plant start.standing c.args.slots.now)

pub loop-slot-preserved : goal.loop-slot-preserved
loop-slot-preserved g c =
    let start = seen g.P.Plant.meaning g.C.Cost.kind c.args.self.now in
    let now = seen g.P.Plant.meaning g.C.Cost.kind c.loop-slot.self in
    let then = seen g.P.Plant.meaning g.C.Cost.kind c.call-answer.new.self in
    let i = c.loop-slot.slot-index in
    let ss = c.loop-slot.slots in
    let there : i < length ss = omega arith in
    let old = c.slot-item.result in
    let is = c.slot-item.is in
    let rules = c.loop-slot.invariant.0 in
    let made = rw (← is) at c.call-answer.ensures in
    let kept = ap (λ (x : State _). x.rules) made.state in
    let new : Slot = record { call = (get_or ss i old).call; answer = Some c.call-answer.result } in (
      kept ∙ rules,
      going_more start.rules g.C.Cost.laws start.plant start.standing c.args.slots.now i ss (set ss i new) old new now.plant then.plant now.standing then.standing
          (g.P.Plant.sound c.loop-slot.self.plant) there c.loop-slot.invariant.1 is
          (ap (λ (s : Slot). s.call) (sym is))
          (ap Some (made.answer ∙ ap (λ x. answer x now.plant now.standing old.call) rules)) refl
          (ap (λ (x : State _). x.plant) made.state ∙ ap (λ x. plant_after x now.plant now.standing old.call) rules)
          (ap (λ (x : State _). x.standing) made.state ∙ ap (λ x. orders_after x now.plant now.standing old.call) rules),
    )

pub returns : goal.returns
returns g c =
    let start = seen g.P.Plant.meaning g.C.Cost.kind c.args.self.now in
    let now = seen g.P.Plant.meaning g.C.Cost.kind c.loop-slot.self in
    let rules = c.loop-slot.invariant.0 in
    let end : length c.loop-slot.slots ≤ c.loop-slot.slot-index = omega arith in
    subst (λ x. Served start c.args.slots.now (record { rules = x; plant = now.plant; standing = now.standing }) c.loop-slot.slots c.report.result) (sym rules)
    (going_all start.rules g.C.Cost.laws start.plant start.standing c.args.slots.now c.loop-slot.slot-index c.loop-slot.slots now.plant now.standing c.report.result end c.loop-slot.invariant.1
    (stood_apart (vec_items c.loop-slot.self.book.rows) c.loop-slot.self.book.apart)
    (c.report.ensures ∙ ap (λ (x : Rules _). reported x.net now.standing) rules))
