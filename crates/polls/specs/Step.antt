-- One poll of a future.
use Rattle.std.specs.Prelude.{◌≡◌}
use Rattle.polls.specs.declared.future.Poll.{Poll}
use Rattle.polls.specs.declared.future.Poll.TheVariants.{Pending, Ready}

-- Pending, and the value that is left; or Ready, and the output.
pub data Step (F O : Type 0) : Type 0 where
  pends : F → Step F O
  gives : O → Step F O

-- What a poll answers, and the value that it leaves. Behind a Ready there is no value to speak of.
abbrev pub Polls : {F O : Type 0} → Step F O → F → Poll O → Type 0
Polls (pends f) later r = (r ≡ Pending) × (later ≡ f)
Polls (gives o) later r = r ≡ Ready o
