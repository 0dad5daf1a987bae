-- What stays true of a line when a bay joins it, and in which order a line serves.
use Rattle.std.proofs.Common.{◌≡◌, ℕ, Bool, true, false, List, Ok, Err, Result, IsOk, OnOk, arith}
use Rattle.std.proofs.lemmas.Bool.{lt-ltb, false≢true}
use Rattle.std.proofs.lemmas.Bool.Decides.{nat_tests}
use Rattle.schedule.specs.declared.Schedule.{Ghosts}
use Rattle.schedule.specs.declared.requests.Request.{Request}
use Rattle.schedule.specs.declared.requests.Answer.{Answer}
use Rattle.schedule.specs.Entries.{distinct, below_64, accepts}
use Rattle.schedule.specs.History.{history}
use Rattle.schedule.specs.Requests.{Serves}
use Rattle.schedule.proofs.Entries.{accepted, distinct_push, below_push}
use Rattle.schedule.proofs.Turns.{fifo, lifo}
use Rattle.queues.specs.Ends.{joined, Order}

-- what holds of a value, where there is one
pub had : {T E : Type 0} (r : Result T E) (P : Type 0) → IsOk r → OnOk r P → P
had (Ok x) P k h = h
had (Err e) P k h = absurd (false≢true k)

pub joined_distinct : (back : Bool) (b : ℕ) (es : List ℕ) (n : ℕ) → accepts b es n ≡ true → distinct es ≡ true → distinct (joined back es b) ≡ true
joined_distinct true b es n a d = distinct_push b es (accepted b es n a).1 d
joined_distinct false b es n a d = grind (arith, nat_tests)

pub joined_below : (back : Bool) (b : ℕ) (es : List ℕ) (n : ℕ) → accepts b es n ≡ true → below_64 es ≡ true → below_64 (joined back es b) ≡ true
joined_below true b es n a l = below_push b es (lt-ltb b 64 (accepted b es n a).0) l
joined_below false b es n a l = grind (arith, nat_tests)

pub in_order : {S : Type 0} (P : Ghosts S) (back : Bool) → ((s : S) (b : ℕ) (m : Bool) → P.after s b m ≡ joined back (P.entries s) b)
    → (s s' : S) (requests : List Request) (answers : List Answer) → Serves P s requests answers s' → Order back (history requests answers) (P.entries s')
in_order P true joins s s' requests answers k = fifo P joins s s' (history requests answers) k.from_empty k.in_turn
in_order P false joins s s' requests answers k = lifo P joins s s' (history requests answers) k.from_empty k.in_turn
