-- Countdown and Transfer over whole runs.
use Rattle.std.proofs.Common.{◌≡◌, ℕ, ◌+◌, ◌-◌, ◌<◌, ◌≤◌, min, Bool, true, false, cond, eqb, ltb, List, [], ◌∷◌, ◌++◌, length, get_or, take, Some, None, sum, Option, sym, refl, ap, ◌∙◌, arith, MatchOption}
use Rattle.std.proofs.lemmas.Bool.Decides.{nat_tests}
use Rattle.std.proofs.lemmas.List.{take_more, take_all, take-take, length_push, length-take}
use Rattle.std.proofs.lemmas.List.Sums.{sum_by_push, sum_by_more, sum_by-take-le}
use Rattle.polls.specs.Step.{Step, pends, gives}
use Rattle.polls.specs.Through.{standing, finished, through}
use Rattle.polls.specs.Kinds.{countdown_step, countdown_start, transfer_step, transfer_start, played_on, recording}
use Rattle.polls.specs.Runs.{Plays, CountsDown, Transfers, Reached}
use Rattle.polls.specs.declared.runs.Played.{Played}
use Rattle.polls.specs.declared.countdown.Countdown.{Countdown}
use Rattle.polls.specs.declared.transfer.Transfer.{Transfer}
use Rattle.polls.specs.declared.transfer.Recording.{Recording}
use Rattle.polls.proofs.Through.{stands, finishes}

-- the two ways of a test that picks a step
pends_by : {F O : Type 0} (t : Bool) (o : O) (f g : F) → cond t (gives o) (pends f) ≡ pends g → (t ≡ false) × (g ≡ f)
pends_by true o f g e = absurd cc
pends_by false o f g e = (refl, cc)

gives_by : {F O : Type 0} (t : Bool) (o p : O) (f : F) → cond t (gives o) (pends f) ≡ gives p → (t ≡ true) × (p ≡ o)
gives_by true o p f e = (refl, cc)
gives_by false o p f e = absurd cc

-- where a run stopped: the future stood there, and either no word is left or the next one gave Ready
record Stopped {F O : Type 0} (step : F → ℕ → Step F O) (f : F) (ws : List ℕ) (p : ℕ) (out : Option O) : Type 0 where
  here : F
  within : p ≤ length ws
  stood : through step f (take p ws) ≡ standing here
  then : MatchOption out (p ≡ length ws) (λ o. (p < length ws) × (step here (get_or ws p 0) ≡ gives o))

stopped : {F O : Type 0} (step : F → ℕ → Step F O) (f later : F) (ws : List ℕ) (p : ℕ) (out : Option O)
    → MatchOption out ((p ≡ length ws) × (through step f ws ≡ standing later)) (λ o. (p < length ws) × (through step f (take (p + 1) ws) ≡ finished o))
    → Stopped step f ws p out
stopped step f later ws p None (e, t) = record { here = later; within = omega arith; stood = ap (through step f) (take_all p ws (omega arith)) ∙ t; then = e }
stopped step f later ws p (Some o) (l, t) =
    let s = finishes step f (take p ws) (get_or ws p 0) o (ap (through step f) (sym (take_more ws p 0 l)) ∙ t) in
    record { here = s.0; within = omega arith; stood = s.1; then = (l, s.2) }

-- a countdown that stands has one poll fewer left for each word
abbrev Counted : ℕ → List ℕ → Countdown → Type 0
Counted n ws c = (c.from ≡ n) × (c.left + length ws ≡ n)

count_kept : (n : ℕ) (ws : List ℕ) (c : Countdown) (w : ℕ) (d : Countdown) → Counted n ws c → countdown_step c w ≡ pends d → Counted n (ws ++ w ∷ []) d
count_kept n ws c w d i e =
    let p = pends_by (eqb c.left 0) c.from _ d e in
    let a : d.from ≡ c.from = ap (λ x. x.from) p.1 in
    let b : d.left ≡ c.left - 1 = ap (λ x. x.left) p.1 in
    let l = length_push ws w in
    (a ∙ i.0, grind (arith, nat_tests))

counted : (n : ℕ) (ws : List ℕ) (c : Countdown) → through countdown_step (countdown_start n) ws ≡ standing c → Counted n ws c
counted n ws c e = stands countdown_step (Counted n) (count_kept n) ws (countdown_start n) c (refl, omega arith) e

pub counts_down : (n : ℕ) (ws : List ℕ) (r : Played ℕ) (later : Countdown) → Plays countdown_step (countdown_start n) ws r later → CountsDown n ws r
counts_down n ws r later h =
    let s = stopped countdown_step (countdown_start n) later ws r.pending r.output h in
    by_output r.pending r.output s.here (counted n (take r.pending ws) s.here s.stood) s.then
  where
    by_output : (p : ℕ) (out : Option ℕ) (g : Countdown) → Counted n (take p ws) g
        → MatchOption out (p ≡ length ws) (λ o. (p < length ws) × (countdown_step g (get_or ws p 0) ≡ gives o))
        → (p ≡ min n (length ws)) × (out ≡ cond (ltb n (length ws)) (Some n) None)
    by_output p None g c e = let k = length-take p ws in (omega arith, grind (arith, nat_tests))
    by_output p (Some o) g c (l, t) =
        let k = length-take p ws in
        let y = gives_by (eqb g.left 0) g.from o _ t in
        let x : o ≡ n = y.1 ∙ c.0 in
        let q : p ≡ n = grind (arith, nat_tests) in
        let w : ltb n (length ws) ≡ true = grind (arith, nat_tests) in
        (omega arith, ap Some x ∙ sym (ap (λ b. cond b (Some n) None) w))

-- a transfer that stands has played the sum of the words, less than the goal
abbrev Stretched : ℕ → List ℕ → Transfer → Type 0
Stretched goal ws t = (t.goal ≡ goal) × (t.seconds ≡ sum ws) × (t.polls ≡ min (length ws) 4294967295) × (0 < length ws → sum ws < goal)

stretch_kept : (goal : ℕ) (ws : List ℕ) (t : Transfer) (w : ℕ) (u : Transfer) → Stretched goal ws t → transfer_step t w ≡ pends u → Stretched goal (ws ++ w ∷ []) u
stretch_kept goal ws t w u i e =
    let p = pends_by (eqb (played_on t w).seconds t.goal) (recording (played_on t w)) (played_on t w) u e in
    let a : u.goal ≡ t.goal = ap (λ x. x.goal) p.1 in
    let b : u.seconds ≡ min (t.seconds + w) t.goal = ap (λ x. x.seconds) p.1 in
    let c : u.polls ≡ min (t.polls + 1) 4294967295 = ap (λ x. x.polls) p.1 in
    let l = length_push ws w in
    let s = sum_by_push (λ x. x) ws w in
    let less : t.seconds + w < t.goal = grind (arith, nat_tests) in
    (a ∙ i.0, omega arith, omega arith, λ _. omega arith)

stretched : (goal : ℕ) (ws : List ℕ) (t : Transfer) → through transfer_step (transfer_start goal) ws ≡ standing t → Stretched goal ws t
stretched goal ws t e =
    stands transfer_step (Stretched goal) (stretch_kept goal) ws (transfer_start goal) t (refl, refl, refl, λ h. absurd (omega arith)) e

-- while it stands, no word so far has reached the goal
unreached : (goal : ℕ) (ws : List ℕ) (p : ℕ) (t : Transfer) → p ≤ length ws → through transfer_step (transfer_start goal) (take p ws) ≡ standing t
    → (i : ℕ) → i < p → Reached goal ws i → ⊥
unreached goal ws p t l e i h reached =
    let s = stretched goal (take p ws) t e in
    let n = length-take p ws in
    let less : sum (take p ws) < goal = s.3 (omega arith) in
    let part : sum (take (i + 1) (take p ws)) ≤ sum (take p ws) = sum_by-take-le (λ x. x) (take p ws) (i + 1) in
    let same : sum (take (i + 1) (take p ws)) ≡ sum (take (i + 1) ws) = ap sum (take-take (i + 1) p ws (omega arith)) in
    omega arith

pub transfers : (goal : ℕ) (ws : List ℕ) (r : Played Recording) (later : Transfer) → Plays transfer_step (transfer_start goal) ws r later → Transfers goal ws r
transfers goal ws r later h =
    let s = stopped transfer_step (transfer_start goal) later ws r.pending r.output h in (
      unreached goal ws r.pending s.here s.within s.stood,
      by_output r.pending r.output s.here (stretched goal (take r.pending ws) s.here s.stood) s.then,
    )
  where
    by_output : (p : ℕ) (out : Option Recording) (g : Transfer) → Stretched goal (take p ws) g
        → MatchOption out (p ≡ length ws) (λ o. (p < length ws) × (transfer_step g (get_or ws p 0) ≡ gives o))
        → MatchOption out (p ≡ length ws) (λ o. (p < length ws) × Reached goal ws p × (o ≡ record { seconds = goal; polls = min (p + 1) 4294967295 }))
    by_output p None g c e = e
    by_output p (Some o) g c (l, t) =
        let w = get_or ws p 0 in
        let k = length-take p ws in
        let y = gives_by (eqb (played_on g w).seconds g.goal) (recording (played_on g w)) o (played_on g w) t in
        let m : sum (take (p + 1) ws) ≡ sum (take p ws) + w = sum_by_more (λ x. x) ws p 0 l in
        let full : min (g.seconds + w) g.goal ≡ g.goal = grind (arith, nat_tests) in
        let secs : o.seconds ≡ goal = ap (λ x. x.seconds) y.1 ∙ full ∙ c.0 in
        let polls : o.polls ≡ min (p + 1) 4294967295 = ap (λ x. x.polls) y.1 ∙ omega arith in
        (l, omega arith, cc)
