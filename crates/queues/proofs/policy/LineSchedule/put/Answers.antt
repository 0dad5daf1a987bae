use Rattle.std.proofs.Common.{◌≡◌, true, length, deque_items, sym, ap, ◌∙◌, arith}
use Rattle.std.proofs.lemmas.List.Sorted.{length_permutation}
use Rattle.schedule.specs.Entries.{accepts}
use Rattle.schedule.proofs.Entries.{accepted}
use Rattle.queues.specs.Ends.{joined}
use Rattle.queues.specs.Kept.{joined_keeps}
use Rattle.queues.proofs.Lines.{had, joined_distinct, joined_below}
use Rattle.queues.proofs.policy.LineSchedule.put.Goals as goal

-- there is room, so the bay joins
pub invariant_of-self : goal.invariant_of-self
invariant_of-self g c =
    let back = g.E.End.back in
    let b = c.args.bay in
    let s = c.args.self.now in
    let es = deque_items s.bays in
    let a : accepts b es s.places ≡ true = sym c.admits.ensures ∙ c.if-admits.true in
    let free = (accepted b es s.places a).2 in
    let items : deque_items c.join.new.bays ≡ joined back es b = had c.join.result _ (c.join.ensures.room omega (arith, free, s.bays.ok.0)) c.join.ensures.ok in
    let l = length_permutation _ _ (joined_keeps back es b) in
    record {
      single = rw items (joined_distinct back b es s.places a s.single);
      below = rw items (joined_below back b es s.places a s.below);
      fits = let n = ap length items in omega arith;
      reserved = omega arith;
      most = omega arith;
    }
