-- What happened to a policy: the requests it was given, each with its answer, the newest first.
use Rattle.std.specs.Prelude.{ℕ, ◌-◌, Bool, true, false, List, [], ◌∷◌, ◌++◌, reverse, length, count_by, nat_eq, nat_lt}
use Rattle.schedule.specs.declared.requests.Request.{Request}
use Rattle.schedule.specs.declared.requests.Request.TheVariants.{Put, Take}
use Rattle.schedule.specs.declared.requests.Answer.{Answer}
use Rattle.schedule.specs.declared.requests.Answer.TheVariants.{Accepted, Gave, Empty}

-- a request and its answer
pub data Event : Type 0 where
  event : Request → Answer → Event

-- each request beside its answer
abbrev pub beside : List Request → List Answer → List Event
beside [] answers = []
beside (r ∷ requests) [] = []
beside (r ∷ requests) (a ∷ answers) = event r a ∷ beside requests answers

-- the history of a list of requests, each with its answer
abbrev pub history : List Request → List Answer → List Event
history requests answers = reverse (beside requests answers)

-- the number that an event put in: that of a put that was accepted
abbrev pub put_in : Event → List ℕ
put_in (event (Put b m) (Accepted true)) = b ∷ []
put_in (event (Put b m) (Accepted false)) = []
put_in (event (Put b m) (Gave c)) = []
put_in (event (Put b m) Empty) = []
put_in (event Take a) = []

-- the number that an event took out: that which a take gave
abbrev pub took_out : Event → List ℕ
took_out (event (Put b m) a) = []
took_out (event Take (Accepted t)) = []
took_out (event Take (Gave b)) = b ∷ []
took_out (event Take Empty) = []

-- what each event gives, one after another, the oldest first
abbrev pub in_order : (Event → List ℕ) → List Event → List ℕ
in_order give [] = []
in_order give (e ∷ h) = in_order give h ++ give e

-- the numbers put in, one after another
abbrev pub ins : List Event → List ℕ
ins h = in_order put_in h

-- the numbers taken out, one after another
abbrev pub outs : List Event → List ℕ
outs h = in_order took_out h

-- how often a number stands in a list
abbrev pub times : ℕ → List ℕ → ℕ
times b xs = count_by (λ x. nat_eq x b) xs

-- the number has been put in more often than it was taken out
abbrev pub inside : ℕ → List Event → Bool
inside b h = nat_lt (times b (outs h)) (times b (ins h))

-- how many numbers have been put in and not taken out
abbrev pub held : List Event → ℕ
held h = length (ins h) - length (outs h)

-- something holds of each event, with the history before it
abbrev pub Each : (List Event → Event → Type 0) → List Event → Type 0
Each P [] = Unit {0}
Each P (e ∷ h) = P h e × Each P h
