-- A refusal; and a take whose first entry is no bay here whose Runnable waits.
use Rattle.std.proofs.Common.{◌≡◌, ℕ, false, List, length, Some, None, Ok, Err, Option, Result, sym, refl, ap, ◌∙◌, subst}
use Rattle.std.proofs.lemmas.Bool.{cond_both, cond-false}
use Rattle.polls.specs.Step.{Step}
use Rattle.schedule.specs.declared.Schedule.{Ghosts}
use Rattle.schedule.specs.Entries.{first}
use Rattle.cell.specs.declared.call.Call.TheVariants.{Take}
use Rattle.cell.specs.declared.report.Fault.{Fault}
use Rattle.cell.specs.declared.report.Fault.TheVariants as fault
use Rattle.cell.specs.Keeps.{Cell}
use Rattle.rack.specs.Racks.{After, Became, crowded, counted, refusal, take_first, hand_over, waiting_at, decided}

-- a number of bays that is counted is one that a rack may have
pub uncrowded : (n m : ℕ) → Ok m ≡ counted n → crowded n ≡ false
uncrowded n m = cond_both (crowded n) _ _ (λ (y : Result ℕ Fault). Ok m ≡ y → crowded n ≡ false) (λ _ e. absurd cc) (λ t _. t)

-- a refusal leaves the rack as it is
pub refused_so : {F O S : Type 0} (P : Ghosts S) (s : S) (x : After F O) (bays : List (Option (Cell F O))) (e : Fault) → x ≡ refusal bays e → Became P s x (Err e) bays s
refused_so {F = F} {O = O} P s x bays e h =
    subst (λ (y : After F O). Became P s y (Err e) bays s) (sym h) (record { outcome = refl; bays = refl; policy = refl })

pub strays : {F O S : Type 0} (step : F → ℕ → Step F O) (P : Ghosts S) (s : S) (bays : List (Option (Cell F O))) (b m : ℕ)
    → Ok m ≡ counted (length bays) → Some b ≡ first (P.entries s) → None ≡ waiting_at bays b
    → Became P s (decided step (P.entries s) (P.places s) bays Take) (Err fault.StrayEntry) bays s
strays step P s bays b m k e w =
    refused_so P s _ bays fault.StrayEntry (cond-false _ _ _ (uncrowded (length bays) m k) ∙ ap (take_first bays) (sym e) ∙ ap (hand_over bays b) (sym w))
