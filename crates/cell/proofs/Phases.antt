-- The phases of a task's life, and the cell that each phase is.
use Rattle.std.proofs.Common.{◌≡◌, ℕ, ◌+◌, ◌≤◌, Bool, true, false, cond, not, ◌&&◌, ◌||◌, is_some, Some, None, Option, sym, refl, ap, ◌∙◌, subst}
use Rattle.std.proofs.lemmas.Bool.{and_from, and_parts, not-true, false≢true, true≢false}
use Rattle.bits.specs.Words.{Word}
use Rattle.cell.specs.declared.register.Stage.{Stage}
use Rattle.cell.specs.declared.register.Stage.TheVariants.{Gone, InHand, Waiting, Begun, Polled}
use Rattle.cell.specs.declared.raw.Content.{Content}
use Rattle.cell.specs.declared.raw.Content.TheVariants.{Future, Output, Empty}
use Rattle.cell.specs.Keeps.{is_future, is_output, is_empty, is_polled, exists, held, runs, same, flags_agree, ends_agree, content_agrees, Cell, word, Keeps}

pub data Phase (F O : Type 0) : Type 0 where
  -- open, without a Runnable
  idle : F → Phase F O
  -- its Runnable is in hand, or waits; closed or not
  hand : Bool → F → Phase F O
  wait : Bool → F → Phase F O
  -- its Runnable has begun, or polled a future that is pending or ready; scheduled or not, closed or not
  begun : Bool → Bool → F → Phase F O
  pending : Bool → Bool → F → Phase F O
  ready : Bool → Bool → O → Phase F O
  -- completed, with its output
  done : O → Phase F O
  -- closed, with nothing left; completed or not
  over : Bool → Phase F O

abbrev pub stage_of : {F O : Type 0} → Phase F O → Stage
stage_of (idle f) = Gone
stage_of (hand d f) = InHand
stage_of (wait d f) = Waiting
stage_of (begun s d f) = Begun
stage_of (pending s d f) = Polled
stage_of (ready s d o) = Polled
stage_of (done o) = Gone
stage_of (over c) = Gone

abbrev pub content_of : {F O : Type 0} → Phase F O → Content F O
content_of (idle f) = Future f
content_of (hand d f) = Future f
content_of (wait d f) = Future f
content_of (begun s d f) = Future f
content_of (pending s d f) = Future f
content_of (ready s d o) = Output o
content_of (done o) = Output o
content_of (over c) = Empty

abbrev pub scheduled_in : {F O : Type 0} → Phase F O → Bool
scheduled_in (idle f) = false
scheduled_in (hand d f) = true
scheduled_in (wait d f) = true
scheduled_in (begun s d f) = s
scheduled_in (pending s d f) = s
scheduled_in (ready s d o) = s
scheduled_in (done o) = false
scheduled_in (over c) = false

abbrev pub completed_in : {F O : Type 0} → Phase F O → Bool
completed_in (idle f) = false
completed_in (hand d f) = false
completed_in (wait d f) = false
completed_in (begun s d f) = false
completed_in (pending s d f) = false
completed_in (ready s d o) = false
completed_in (done o) = true
completed_in (over c) = c

abbrev pub closed_in : {F O : Type 0} → Phase F O → Bool
closed_in (idle f) = false
closed_in (hand d f) = d
closed_in (wait d f) = d
closed_in (begun s d f) = d
closed_in (pending s d f) = d
closed_in (ready s d o) = d
closed_in (done o) = false
closed_in (over c) = true

abbrev pub word_at : {F O : Type 0} → Phase F O → Bool → Bool → ℕ → Word
word_at ph t a n = record {
  scheduled = scheduled_in ph;
  running = runs (stage_of ph);
  completed = completed_in ph;
  closed = closed_in ph;
  task = t;
  awaiter = a;
  registering = false;
  notifying = false;
  count = n;
}

-- a cell in this phase, with this count
abbrev pub cell_at : {F O : Type 0} → Phase F O → Bool → ℕ → Option ℕ → ℕ → Cell F O
cell_at ph t m w n = record {
  task = record { header = record { state = word_at ph t (is_some w) n; awaiter = w }; content = content_of ph };
  register = record { stage = stage_of ph; task = t; wakers = m };
}

-- Task and waiter are as the phase allows
abbrev pub Allowed : {F O : Type 0} → Phase F O → Bool → Option ℕ → Type 0
Allowed (idle f) t w = Unit {0}
Allowed (hand d f) t w = Unit {0}
Allowed (wait d f) t w = Unit {0}
Allowed (begun s d f) t w = Unit {0}
Allowed (pending s d f) t w = Unit {0}
Allowed (ready s d o) t w = Unit {0}
Allowed (done o) t w = (t ≡ true) × (w ≡ None)
Allowed (over c) t w = w ≡ None

-- a cell by its phase
pub record Is {F O : Type 0} (c : Cell F O) : Type 0 where
  pub phase : Phase F O
  pub task : Bool
  pub wakers : ℕ
  pub waiter : Option ℕ
  pub is : c ≡ cell_at phase task wakers waiter (wakers + held (stage_of phase))
  pub allowed : Allowed phase task waiter
  pub few : wakers ≤ 65535

same_self : (t : Bool) → same t t ≡ true
same_self true = refl
same_self false = refl

same_is : (a b : Bool) → same a b ≡ true → a ≡ b
same_is true b e = sym e
same_is false b e = sym (not-true b e)

none : (w : Option ℕ) → is_some w ≡ false → w ≡ None
none None e = refl
none (Some x) e = absurd (true≢false e)

module _ {F O : Type 0} where
  -- every phase keeps what a cell keeps
  flags_kept : (ph : Phase F O) (t : Bool) (m : ℕ) (w : Option ℕ) (n : ℕ) → flags_agree (word_at ph t (is_some w) n) w (record { stage = stage_of ph; task = t; wakers = m }) ≡ true
  flags_kept ph t m w n = and_from _ _ (same_self t) (and_from _ _ (same_self (is_some w)) (rest ph))
    where
      rest : (ph : Phase F O)
          → (same (word_at ph t (is_some w) n).running (runs (stage_of ph))
          && (same ((word_at ph t (is_some w) n).running || (word_at ph t (is_some w) n).scheduled) (exists (stage_of ph))
          && (not (exists (stage_of ph) && (word_at ph t (is_some w) n).completed)
          && (not (word_at ph t (is_some w) n).registering && not (word_at ph t (is_some w) n).notifying)))) ≡ true
      rest (idle f) = refl
      rest (hand d f) = refl
      rest (wait d f) = refl
      rest (begun s d f) = refl
      rest (pending s d f) = refl
      rest (ready s d o) = refl
      rest (done o) = refl
      rest (over c) = refl

  ends_kept : (ph : Phase F O) (t : Bool) (m : ℕ) (w : Option ℕ) (n : ℕ) → Allowed ph t w
      → (ends_agree (word_at ph t (is_some w) n) (record { stage = stage_of ph; task = t; wakers = m }) && content_agrees (word_at ph t (is_some w) n) (stage_of ph) (content_of ph)) ≡ true
  ends_kept (idle f) t m w n a = refl
  ends_kept (hand d f) t m w n a = refl
  ends_kept (wait d f) t m w n a = refl
  ends_kept (begun s d f) t m w n a = refl
  ends_kept (pending s d f) t m w n a = refl
  ends_kept (ready s d o) t m w n a = refl
  ends_kept (done o) t m w n a = rw (a.0, a.1) refl
  ends_kept (over true) t m w n a = rw a refl
  ends_kept (over false) t m w n a = rw a refl

  pub is_kept : (c : Cell F O) → Is c → Keeps c
  is_kept c i =
      let ph = i.phase in
      let n = i.wakers + held (stage_of ph) in
      rw i.is (i.few, refl, and_from _ _ (flags_kept ph i.task i.wakers i.waiter n) (ends_kept ph i.task i.wakers i.waiter n i.allowed))

  -- the phase of these flags, this stage and this content
  record Found (st : Stage) (s c d t a : Bool) (x : Content F O) : Type 0 where
    phase : Phase F O
    stage : st ≡ stage_of phase
    scheduled : s ≡ scheduled_in phase
    completed : c ≡ completed_in phase
    closed : d ≡ closed_in phase
    content : x ≡ content_of phase
    allowed : (w : Option ℕ) → is_some w ≡ a → Allowed phase t w

  find : (st : Stage) (u s c d t a : Bool) (x : Content F O) → u ≡ runs st → same (u || s) (exists st) ≡ true → not (exists st && c) ≡ true
      → (((not (c && not d) || t) && not ((c || (not (exists st) && d)) && a))
      && cond (c && not d) (is_output x) (cond (not (exists st) && d) (is_empty x) (is_future x || (is_output x && is_polled st)))) ≡ true
      → Found st s c d t a x
  find Gone true s c d t a x e p q o = absurd (true≢false e)
  find Gone false true c d t a x e p q o = absurd (false≢true p)
  find Gone false false true true t true x e p q o = absurd (false≢true o)
  find Gone false false true true t false (Future f) e p q o = absurd (false≢true o)
  find Gone false false true true t false (Output v) e p q o = absurd (false≢true o)
  find Gone false false true true t false Empty e p q o = record { phase = over true; stage = refl; scheduled = refl; completed = refl; closed = refl; content = refl; allowed = none }
  find Gone false false true false false a x e p q o = absurd (false≢true o)
  find Gone false false true false true true x e p q o = absurd (false≢true o)
  find Gone false false true false true false (Future f) e p q o = absurd (false≢true o)
  find Gone false false true false true false Empty e p q o = absurd (false≢true o)
  find Gone false false true false true false (Output v) e p q o = record { phase = done v; stage = refl; scheduled = refl; completed = refl; closed = refl; content = refl; allowed = λ w z. (refl, none w z) }
  find Gone false false false true t true x e p q o = absurd (false≢true o)
  find Gone false false false true t false (Future f) e p q o = absurd (false≢true o)
  find Gone false false false true t false (Output v) e p q o = absurd (false≢true o)
  find Gone false false false true t false Empty e p q o = record { phase = over false; stage = refl; scheduled = refl; completed = refl; closed = refl; content = refl; allowed = none }
  find Gone false false false false t a (Future f) e p q o = record { phase = idle f; stage = refl; scheduled = refl; completed = refl; closed = refl; content = refl; allowed = λ w z. tt }
  find Gone false false false false t a (Output v) e p q o = absurd (false≢true o)
  find Gone false false false false t a Empty e p q o = absurd (false≢true o)
  find InHand true s c d t a x e p q o = absurd (true≢false e)
  find InHand false false c d t a x e p q o = absurd (false≢true p)
  find InHand false true true d t a x e p q o = absurd (false≢true q)
  find InHand false true false d t a (Future f) e p q o = record { phase = hand d f; stage = refl; scheduled = refl; completed = refl; closed = refl; content = refl; allowed = λ w z. tt }
  find InHand false true false d t a (Output v) e p q o = absurd (false≢true o)
  find InHand false true false d t a Empty e p q o = absurd (false≢true o)
  find Waiting true s c d t a x e p q o = absurd (true≢false e)
  find Waiting false false c d t a x e p q o = absurd (false≢true p)
  find Waiting false true true d t a x e p q o = absurd (false≢true q)
  find Waiting false true false d t a (Future f) e p q o = record { phase = wait d f; stage = refl; scheduled = refl; completed = refl; closed = refl; content = refl; allowed = λ w z. tt }
  find Waiting false true false d t a (Output v) e p q o = absurd (false≢true o)
  find Waiting false true false d t a Empty e p q o = absurd (false≢true o)
  find Begun false s c d t a x e p q o = absurd (false≢true e)
  find Begun true s true d t a x e p q o = absurd (false≢true q)
  find Begun true s false d t a (Future f) e p q o = record { phase = begun s d f; stage = refl; scheduled = refl; completed = refl; closed = refl; content = refl; allowed = λ w z. tt }
  find Begun true s false d t a (Output v) e p q o = absurd (false≢true o)
  find Begun true s false d t a Empty e p q o = absurd (false≢true o)
  find Polled false s c d t a x e p q o = absurd (false≢true e)
  find Polled true s true d t a x e p q o = absurd (false≢true q)
  find Polled true s false d t a (Future f) e p q o = record { phase = pending s d f; stage = refl; scheduled = refl; completed = refl; closed = refl; content = refl; allowed = λ w z. tt }
  find Polled true s false d t a (Output v) e p q o = record { phase = ready s d v; stage = refl; scheduled = refl; completed = refl; closed = refl; content = refl; allowed = λ w z. tt }
  find Polled true s false d t a Empty e p q o = absurd (false≢true o)

  joined : (s u c d t a g n : Bool) (k : ℕ) (w : Option ℕ) (x : Content F O) (st : Stage) (r : Bool) (m : ℕ) (ph : Phase F O)
      → t ≡ r → a ≡ is_some w → u ≡ runs (stage_of ph) → g ≡ false → n ≡ false → k ≡ m + held (stage_of ph) → st ≡ stage_of ph → s ≡ scheduled_in ph → c ≡ completed_in ph → d ≡ closed_in ph → x ≡ content_of ph
      → ◌≡◌ {A = Cell F O}
      (record {
        task = record {
          header = record { state = record { scheduled = s; running = u; completed = c; closed = d; task = t; awaiter = a; registering = g; notifying = n; count = k }; awaiter = w };
          content = x;
        };
        register = record { stage = st; task = r; wakers = m };
      }) (cell_at ph r m w (m + held (stage_of ph)))
  joined s u c d t a g n k w x st r m ph e₁ e₂ e₃ e₄ e₅ e₆ e₇ e₈ e₉ e₁₀ e₁₁ = cc

  -- and a cell that keeps it is in a phase
  pub kept_is : (c : Cell F O) → Keeps c → Is c
  kept_is c k =
      let w = word c in
      let r = c.register in
      let all = and_parts _ _ k.2 in
      let flags = and_parts _ _ all.0 in
      let flags₁ = and_parts _ _ flags.1 in
      let flags₂ = and_parts _ _ flags₁.1 in
      let flags₃ = and_parts _ _ flags₂.1 in
      let flags₄ = and_parts _ _ flags₃.1 in
      let flags₅ = and_parts _ _ flags₄.1 in
      let task : w.task ≡ r.task = same_is _ _ flags.0 in
      let waiter : w.awaiter ≡ is_some c.task.header.awaiter = same_is _ _ flags₁.0 in
      let running : w.running ≡ runs r.stage = same_is _ _ flags₂.0 in
      let x = find r.stage w.running w.scheduled w.completed w.closed w.task w.awaiter c.task.content running flags₃.0 flags₄.0 all.1 in
      record {
        phase = x.phase;
        task = r.task;
        wakers = r.wakers;
        waiter = c.task.header.awaiter;
        is =
            joined w.scheduled w.running w.completed w.closed w.task w.awaiter w.registering w.notifying w.count c.task.header.awaiter c.task.content r.stage r.task r.wakers x.phase
            task waiter (running ∙ ap runs x.stage) (not-true _ flags₅.0) (not-true _ flags₅.1) (k.1 ∙ ap (λ s. r.wakers + held s) x.stage) x.stage x.scheduled x.completed x.closed x.content;
        allowed = subst (λ t. Allowed x.phase t c.task.header.awaiter) task (x.allowed c.task.header.awaiter (sym waiter));
        few = k.0;
      }
