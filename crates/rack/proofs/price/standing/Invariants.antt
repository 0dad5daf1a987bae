use Rattle.std.proofs.Common.{◌≡◌, ◌≤◌, take}
use Rattle.rack.specs.Law.{standing_in}
use Rattle.rack.proofs.price.standing.Given as goal

-- the bays so far are counted
abbrev pub invariant-loop-bay : goal.invariant-loop-bay
invariant-loop-bay g l = (l.sum ≤ l.bay-index) × (l.sum ≡ standing_in (take l.bay-index l.bays))
