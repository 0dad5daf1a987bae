-- Policies that put last, and policies that put first.
use Rattle.std.proofs.Common.{◌≡◌, ℕ, ◌+◌, Bool, true, false, List, [], ◌∷◌, ◌++◌, sym, refl, ap, ◌∙◌, subst, append_assoc, append-nil, arith}
use Rattle.schedule.specs.declared.Schedule.{Ghosts}
use Rattle.schedule.specs.declared.requests.Request.TheVariants.{Put, Take}
use Rattle.schedule.specs.declared.requests.Answer.TheVariants.{Accepted, Gave, Empty}
use Rattle.schedule.specs.History.{Event, event, put_in, took_out, in_order, ins, outs, times}
use Rattle.schedule.specs.Requests.{Ran}
use Rattle.schedule.specs.Turns.{FirstInFirstOut, IsLast, LastInFirstOut}
use Rattle.schedule.proofs.Happens.{Happens, goes_in, stays_out, comes_out, none_there, happens, along}
use Rattle.schedule.proofs.Times.{times_append}

-- one event more: what stood and what it put in is what it took out and what stands now
fifo_moved : (h : List Event) (e : Event) (es es' : List ℕ) → FirstInFirstOut h es → es ++ put_in e ≡ took_out e ++ es' → FirstInFirstOut (e ∷ h) es'
fifo_moved h e es es' k q =
    ap (λ x. x ++ put_in e) k ∙ append_assoc (outs h) es (put_in e) ∙ ap (λ x. outs h ++ x) q ∙ sym (append_assoc (outs h) (took_out e) es')

module _ {S : Type 0} (P : Ghosts S) (last : (s : S) (b : ℕ) (m : Bool) → P.after s b m ≡ P.entries s ++ b ∷ []) where
  fifo_by : (h : List Event) (e : Event) (s s' : S) → FirstInFirstOut h (P.entries s) → Happens P s s' e → FirstInFirstOut (e ∷ h) (P.entries s')
  fifo_by h e s s' k (goes_in b m t i) = fifo_moved h (event (Put b m) (Accepted true)) (P.entries s) (P.entries s') k (sym (i ∙ last s b m))
  fifo_by h e s s' k (stays_out b m t i) = fifo_moved h (event (Put b m) (Accepted false)) (P.entries s) (P.entries s') k (append-nil (P.entries s) ∙ sym i)
  fifo_by h e s s' k (comes_out b es q i) = fifo_moved h (event Take (Gave b)) (P.entries s) (P.entries s') k (append-nil (P.entries s) ∙ q ∙ ap (λ x. b ∷ x) (sym i))
  fifo_by h e s s' k (none_there q i) = fifo_moved h (event Take Empty) (P.entries s) (P.entries s') k (append-nil (P.entries s) ∙ q ∙ sym i)

  pub fifo : (start s : S) (h : List Event) → P.entries start ≡ [] → Ran P start h s → FirstInFirstOut h (P.entries s)
  fifo start s h e ran =
      along P start (λ l x. FirstInFirstOut l (P.entries x)) (sym e) (λ l x x' r a k y. fifo_by l (event r a) x x' k (happens P x x' r a y)) h s ran

-- a history in two parts
times_in_order : (give : Event → List ℕ) (k : ℕ) (new old : List Event) → times k (in_order give (new ++ old)) ≡ times k (in_order give new) + times k (in_order give old)
times_in_order give k [] old = omega arith
times_in_order give k (e ∷ new) old =
    let ih = times_in_order give k new old in
    let a = times_append k (in_order give (new ++ old)) (give e) in
    let b = times_append k (in_order give new) (give e) in
    omega arith

-- each entry was put in, and all that was put in since and is still inside stands before it
abbrev Piled : List ℕ → List Event → Type 0
Piled [] h = Unit {0}
Piled (b ∷ es) h = (l : IsLast b h) × Piled es l.older

-- an event that puts nothing in and takes nothing out
aside : (es : List ℕ) (e : Event) (h : List Event) → put_in e ≡ [] → took_out e ≡ [] → Piled es h → Piled es (e ∷ h)
aside [] e h i o p = tt
aside (b ∷ es) e h i o (l, rest) = (
  record {
    mark = l.mark;
    since = e ∷ l.since;
    older = l.older;
    put = ap (λ x. e ∷ x) l.put;
    settled = λ k. ap (λ x. times k (ins l.since ++ x)) i ∙ ap (times k) (append-nil (ins l.since)) ∙ l.settled k
        ∙ sym (ap (λ x. times k (outs l.since ++ x)) o ∙ ap (times k) (append-nil (outs l.since)));
  },
  rest,
)

-- the first entry is taken: what stood behind it has nothing before it now
taken : (b : ℕ) (es : List ℕ) (h : List Event) → Piled (b ∷ es) h → Piled es (event Take (Gave b) ∷ h)
taken b [] h p = tt
taken b (c ∷ es) h (l, (n, rest)) =
    let put_b = event (Put b l.mark) (Accepted true) in (
      record {
        mark = n.mark;
        since = event Take (Gave b) ∷ (l.since ++ put_b ∷ n.since);
        older = n.older;
        put = ap (λ x. event Take (Gave b) ∷ x) (l.put ∙ ap (λ x. l.since ++ put_b ∷ x) n.put ∙ sym (append_assoc l.since (put_b ∷ n.since) (event (Put c n.mark) (Accepted true) ∷ n.older)));
        settled = λ k.
            (let i = times_in_order put_in k l.since (put_b ∷ n.since) in
            let o = times_in_order took_out k l.since (put_b ∷ n.since) in
            let i2 = times_append k (ins n.since) (b ∷ []) in
            let o2 = times_append k (outs n.since) [] in
            let i3 = times_append k (ins (l.since ++ put_b ∷ n.since)) [] in
            let o3 = times_append k (outs (l.since ++ put_b ∷ n.since)) (b ∷ []) in
            let x = l.settled k in
            let y = n.settled k in
            omega arith);
      },
      rest,
    )

module _ {S : Type 0} (P : Ghosts S) (top : (s : S) (b : ℕ) (m : Bool) → P.after s b m ≡ b ∷ P.entries s) where
  -- so far each take gave the last number, and the entries stand as they were put
  abbrev Lifo : List Event → S → Type 0
  Lifo h s = LastInFirstOut h × Piled (P.entries s) h

  lifo_by : (h : List Event) (e : Event) (s s' : S) → Lifo h s → Happens P s s' e → Lifo (e ∷ h) s'
  lifo_by h e s s' k (goes_in b m t i) = (
    (tt, k.0),
    subst (λ es. Piled es (event (Put b m) (Accepted true) ∷ h)) (sym (i ∙ top s b m)) (record { mark = m; since = []; older = h; put = refl; settled = λ c. refl }, k.1),
  )
  lifo_by h e s s' k (stays_out b m t i) =
      ((tt, k.0), subst (λ es. Piled es (event (Put b m) (Accepted false) ∷ h)) (sym i) (aside (P.entries s) (event (Put b m) (Accepted false)) h refl refl k.1))
  lifo_by h e s s' k (comes_out b es q i) =
      let p = subst (λ x. Piled x h) q k.1 in
      ((p.0, k.0), subst (λ x. Piled x (event Take (Gave b) ∷ h)) (sym i) (taken b es h p))
  lifo_by h e s s' k (none_there q i) = ((tt, k.0), subst (λ x. Piled x (event Take Empty ∷ h)) (sym i) tt)

  pub lifo : (start s : S) (h : List Event) → P.entries start ≡ [] → Ran P start h s → LastInFirstOut h
  lifo start s h e ran =
      (along P start Lifo (tt, subst (λ es. Piled es []) (sym e) tt) (λ l x x' r a k y. lifo_by l (event r a) x x' k (happens P x x' r a y)) h s ran).0
