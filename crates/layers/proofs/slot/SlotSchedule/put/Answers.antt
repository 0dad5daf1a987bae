use Rattle.std.proofs.Common.{◌≡◌, true, Some, sym, ◌∙◌}
use Rattle.schedule.specs.Entries.{accepts}
use Rattle.layers.specs.Slots.{slotted}
use Rattle.layers.proofs.Slots.{accepts_below, could_still, could_follow, gone_below}
use Rattle.layers.proofs.slot.SlotSchedule.put.Goals as goal
use Rattle.layers.proofs.slot.SlotSchedule.put.Goals.{then-woken_while_running, else-woken_while_running}

-- the new bay goes below, or the slot's bay does
pub returns-in-Some-clause-agrees : goal.returns-in-Some-clause-agrees
returns-in-Some-clause-agrees g c a =
    let P = g.P.Schedule in
    let keeps = g.met.P.Schedule.keeps in
    let s = c.args.self.now in
    let b = c.args.bay in
    let m = c.args.woken_while_running in
    let es = P.entries s.below in
    let n = P.places s.below in
    let below' = c.put.new.self in
    let ok : accepts b (slotted s.slot es) n ≡ true = sym c.admits.ensures ∙ c.if-not-admits.false in
    elim c.if-woken_while_running.branch [
      | then-woken_while_running w ↦
          let d : c.in-Some.lower ≡ b = cc in
          let moved = gone_below P keeps s.below below' b m (accepts_below s.slot es n b ok) a.0 (rw (w.self-is, d) at c.put.ensures.items) in (
            (rw w.self-is at c.put.ensures.agrees) a.0,
            rw (w.self-is, rw w.self-is at c.put.ensures.room) (could_still s.slot es (P.entries below') n b ok a.1 moved),
          )
      | else-woken_while_running w ↦
          let f = c.in-Some.lower in
          let d : s.slot ≡ Some f = cc in
          let moved = gone_below P keeps s.below below' f m (rw d at a.1) a.0 (rw w.self-is at c.put.ensures.items) in (
            (rw w.self-is at c.put.ensures.agrees) a.0,
            rw (w.self-is, w.replace-lower.ensures.after, rw w.self-is at c.put.ensures.room) (could_follow f b es (P.entries below') n (rw d at ok) moved),
          )
    ]
