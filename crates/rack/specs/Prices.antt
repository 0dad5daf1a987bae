-- The price list of a history and the bays that it left.
use Rattle.std.specs.Prelude.{◌≡◌, ℕ, ◌+◌, cond, List, length, Some, None, Option, Result, ◌==◌}
use Rattle.cell.specs.declared.call.Call.{Call}
use Rattle.cell.specs.declared.report.Fault.{Fault}
use Rattle.cell.specs.declared.report.Report.{Report}
use Rattle.cell.specs.Keeps.{Cell}
use Rattle.rack.specs.declared.price.Column.{Column}
use Rattle.rack.specs.declared.price.Column.TheVariants.{TakenIn, Delivered, Discarded, Dropped, Lost}
use Rattle.rack.specs.declared.price.PriceList.{PriceList}
use Rattle.rack.specs.History.{Event, history, total}
use Rattle.rack.specs.Law.{taken_in, deliveries, discards, drops, losses, standing_in}

-- what an event adds to a column
abbrev pub column : {F O : Type 0} → Column → Event F O → ℕ
column TakenIn e = taken_in e
column Delivered e = deliveries e
column Discarded e = discards e
column Dropped e = drops e
column Lost e = losses e

-- each column over the whole history, and what stands in the bays
abbrev pub price_list : {F O : Type 0} → List (Event F O) → List (Option (Cell F O)) → PriceList
price_list h bays = record {
  taken_in = total taken_in h;
  delivered = total deliveries h;
  discarded = total discards h;
  dropped = total drops h;
  lost = total losses h;
  standing = standing_in bays;
}

-- there is one only where each call has its report
abbrev pub priced : {F O : Type 0} → List (Call F) → List (Result (Report O) Fault) → List (Option (Cell F O)) → Option PriceList
priced calls said bays = cond (length calls == length said) (Some (price_list (history calls said) bays)) None

-- taken in = delivered + discarded + dropped + lost + standing
abbrev pub Balances : PriceList → Type 0
Balances p = p.taken_in ≡ p.delivered + p.discarded + p.dropped + p.lost + p.standing
