-- What goes in comes out once: by induction over the requests.
use Rattle.std.proofs.Common.{◌≡◌, ℕ, ◌+◌, Bool, true, false, not, ◌&&◌, ltb, List, [], ◌∷◌, length, sym, refl, ap, ◌∙◌, arith, length-append}
use Rattle.std.proofs.lemmas.Bool.{eq-eqb}
use Rattle.std.proofs.lemmas.Bool.Decides.{nat_tests}
use Rattle.std.proofs.lemmas.List.Sorted.{length_permutation as length-shuffled}
use Rattle.std.specs.List.Sorted.{IsPermutation}
use Rattle.schedule.specs.declared.Schedule.{Ghosts}
use Rattle.schedule.specs.declared.requests.Request.{Request}
use Rattle.schedule.specs.declared.requests.Request.TheVariants.{Put, Take}
use Rattle.schedule.specs.declared.requests.Answer.{Answer}
use Rattle.schedule.specs.declared.requests.Answer.TheVariants.{Accepted, Gave, Empty}
use Rattle.schedule.specs.Entries.{is_in, distinct, accepts}
use Rattle.schedule.specs.History.{Event, event, put_in, took_out, ins, outs, times, inside, held, Each}
use Rattle.schedule.specs.Requests.{Obeys, Ran, Ruled, Once}
use Rattle.schedule.proofs.Happens.{Happens, goes_in, stays_out, comes_out, none_there, happens, same_places, still_agrees, along}
use Rattle.schedule.proofs.Times.{times_cons, times_append, times_shuffled, is_in_times, distinct_times}

-- what the history says is inside is what the entries are
inside_is : (b : ℕ) (h : List Event) (es : List ℕ) → times b (ins h) ≡ times b (outs h) + times b es → inside b h ≡ is_in b es
inside_is b h es e = let i = is_in_times b es in grind (arith, nat_tests)

held_is : (h : List Event) (es : List ℕ) → length (ins h) ≡ length (outs h) + length es → held h ≡ length es
held_is h es e = omega arith

module _ {S : Type 0} (P : Ghosts S)
    (single : (s : S) → P.agrees s → distinct (P.entries s) ≡ true)
    (keeps : (s : S) (b : ℕ) (m : Bool) → P.agrees s → IsPermutation (b ∷ P.entries s) (P.after s b m)) where
  -- a history in step with the policy that it leaves
  pub record Keeps (n : ℕ) (h : List Event) (s : S) : Type 0 where
    pub agree : P.agrees s
    pub room : P.places s ≡ n
    pub answers : Each (Ruled n) h
    pub balance : (b : ℕ) → times b (ins h) ≡ times b (outs h) + times b (P.entries s)
    pub long : length (ins h) ≡ length (outs h) + length (P.entries s)

  -- a put is accepted by the history exactly if it is by the entries
  answer_is : (n b : ℕ) (h : List Event) (s : S) → Keeps n h s → (t : Bool) → accepts b (P.entries s) (P.places s) ≡ t
      → Accepted t ≡ Accepted (ltb b 64 && (not (inside b h) && ltb (held h) n))
  answer_is n b h s k t e =
      let i = inside_is b h (P.entries s) (k.balance b) in
      let j = held_is h (P.entries s) k.long in
      let r = k.room in
      ap Accepted (sym e ∙ rw (i, j, r) refl)

  -- one event more: what it put in and what was there is what it took out and what is there now
  keeps_more : (n : ℕ) (h : List Event) (e : Event) (s s' : S) → Keeps n h s → P.agrees s' → P.places s' ≡ P.places s → Ruled n h e
      → ((c : ℕ) → times c (put_in e) + times c (P.entries s) ≡ times c (took_out e) + times c (P.entries s'))
      → length (put_in e) + length (P.entries s) ≡ length (took_out e) + length (P.entries s') → Keeps n (e ∷ h) s'
  keeps_more n h e s s' k g p r times_moved long_moved = record {
    agree = g;
    room = p ∙ k.room;
    answers = (r, k.answers);
    balance = λ c.
        (let i = times_append c (ins h) (put_in e) in
        let o = times_append c (outs h) (took_out e) in
        let m = times_moved c in
        let q = k.balance c in
        omega arith);
    long =
        (let i = length-append (ins h) (put_in e) in
        let o = length-append (outs h) (took_out e) in
        omega arith);
  }

  -- by what happens at the event
  kept_by : (n : ℕ) (h : List Event) (e : Event) (s s' : S) → Keeps n h s → P.agrees s' → P.places s' ≡ P.places s → Happens P s s' e → Keeps n (e ∷ h) s'
  kept_by n h e s s' k g p (goes_in b m t i) =
      let sh = keeps s b m k.agree in
      keeps_more n h (event (Put b m) (Accepted true)) s s' k g p (answer_is n b h s k true t)
      (λ c. let v : times c (P.entries s') ≡ times c (b ∷ P.entries s) = ap (times c) i ∙ times_shuffled c _ _ sh in
      let w = times_cons c b (P.entries s) in
      let u = times_cons c b [] in
      omega arith)
      (let y = length-shuffled _ _ sh in let l : length (P.entries s') ≡ length (P.after s b m) = ap length i in omega arith)
  kept_by n h e s s' k g p (stays_out b m t i) =
      keeps_more n h (event (Put b m) (Accepted false)) s s' k g p (answer_is n b h s k false t)
      (λ c. let v : times c (P.entries s') ≡ times c (P.entries s) = ap (times c) i in omega arith)
      (let l : length (P.entries s') ≡ length (P.entries s) = ap length i in omega arith)
  kept_by n h e s s' k g p (comes_out b es q i) =
      let l : length (P.entries s) ≡ length (b ∷ es) = ap length q in
      let l' : length (P.entries s') ≡ length es = ap length i in
      let held_by = held_is h (P.entries s) k.long in
      keeps_more n h (event Take (Gave b)) s s' k g p
      (inside_is b h (P.entries s) (k.balance b) ∙ ap (is_in b) q ∙ (let t = eq-eqb b b refl in rw t refl), omega arith)
      (λ c. let v : times c (P.entries s') ≡ times c es = ap (times c) i in
      let w : times c (P.entries s) ≡ times c (b ∷ es) = ap (times c) q in
      let x = times_cons c b es in
      let u = times_cons c b [] in
      omega arith)
      (omega arith)
  kept_by n h e s s' k g p (none_there q i) =
      let l : length (P.entries s) ≡ 0 = ap length q in
      let l' : length (P.entries s') ≡ 0 = ap length i in
      keeps_more n h (event Take Empty) s s' k g p (held_is h (P.entries s) k.long ∙ l)
      (λ c. let v : times c (P.entries s') ≡ times c (P.entries s) = ap (times c) (i ∙ sym q) in omega arith)
      (omega arith)

  kept : (n : ℕ) (h : List Event) (s s' : S) (r : Request) (a : Answer) → Keeps n h s → Obeys P s r a s' → Keeps n (event r a ∷ h) s'
  kept n h s s' r a k y = kept_by n h (event r a) s s' k (still_agrees P s s' r a y k.agree) (same_places P s s' r a y) (happens P s s' r a y)

  pub once : (start s : S) (h : List Event) → P.entries start ≡ [] → P.agrees start → Ran P start h s → Once (P.places start) h (P.entries s)
  once start s h e g ran =
      let first_keeps : Keeps (P.places start) [] start = record { agree = g; room = refl; answers = tt; balance = λ b. (let t : times b (P.entries start) ≡ 0 = ap (times b) e in omega arith); long = (let l : length (P.entries start) ≡ 0 = ap length e in omega arith) } in
      let k = along P start (Keeps (P.places start)) first_keeps (kept (P.places start)) h s ran in
      record { answers = k.answers; balance = k.balance; single = λ b. distinct_times b (P.entries s) (single s k.agree) }
