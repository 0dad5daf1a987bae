-- What a call by handle gives. `Step o` says that the call by number said o.
use Rattle.std.specs.Prelude.{◌≡◌, ℕ, Bool, false, Ok, Err, Result}
use Rattle.cell.specs.declared.report.Fault.{Fault}
use Rattle.cell.specs.declared.report.Report.{Report}
use Rattle.handles.specs.declared.handle.Handle.{Handle}
use Rattle.handles.specs.declared.refused.Refused.{Refused}

-- the bay of a handle, and whether it is spent
abbrev pub bay_of : {K : Type 0} → Handle K → ℕ
bay_of h = h.bay

abbrev pub is_spent : {K : Type 0} → Handle K → Bool
is_spent h = h.spent

-- an unspent handle of this bay
abbrev pub unspent : {K : Type 0} → ℕ → Handle K
unspent bay = record { bay = bay; spent = false; kind = record {} }

-- a call that spends its handle: what its report comes to, or the refusal with the handle, unchanged
abbrev pub Spends : {K O T : Type 0} → Handle K → (Report O → T) → (Result (Report O) Fault → Type 0) → Result T (Refused (Handle K)) → Type 0
Spends {O = O} h give Step (Ok x) = (r : Report O) × Step (Ok r) × (x ≡ give r)
Spends h give Step (Err e) = Step (Err e.fault) × (e.handle ≡ h)

-- a call that spends none: what its report comes to, or the fault
abbrev pub Gives : {O T : Type 0} → (Report O → T) → (Result (Report O) Fault → Type 0) → Result T Fault → Type 0
Gives {O = O} give Step (Ok x) = (r : Report O) × Step (Ok r) × (x ≡ give r)
Gives give Step (Err e) = Step (Err e)
