-- What becomes of a header: its state word and its waiter.
use Rattle.std.specs.Prelude.{ℕ, Bool, cond, not, ◌&&◌, None, Option, ◌==◌}
use Rattle.bits.specs.State.{awaiter}
use Rattle.bits.specs.Words.{Word, clearing, released}
use Rattle.cell.specs.declared.header.Header.{Header}

-- the same with another word
abbrev pub with_state : Word → Header → Header
with_state w h = record { state = w; awaiter = h.awaiter }

-- Telling: if AWAITER is set, the waiter is told and goes, and AWAITER is cleared.
abbrev pub told : Header → Option ℕ
told h = cond h.state.awaiter h.awaiter None

abbrev pub untold : Header → Header
untold h = cond h.state.awaiter (record { state = clearing awaiter h.state; awaiter = None }) h

-- one reference less
abbrev pub letting_go : Header → Header
letting_go h = with_state (released h.state) h

-- no reference is left, and no Task
abbrev pub unheld : Word → Bool
unheld w = w.count == 0 && not w.task
