-- What each call does to a cell, phase by phase.
use Rattle.std.proofs.Common.{◌≡◌, ℕ, ◌+◌, ◌-◌, ◌<◌, ◌≤◌, min, Bool, true, false, cond, not, ◌&&◌, ◌||◌, eqb, leb, ◌⊎◌, is_some, Some, None, Ok, Option, Result, sym, refl, ap, ◌∙◌, subst, inl, inr, add-zero, zero-add, arith}
use Rattle.std.proofs.lemmas.Bool.{cases_Bool, cond-true, cond-false, and_parts, and_left, and_right, or_right, ne_eqb, eqb-true, eqb-false, leb-false, not-true, not_from_true, not_from_false, false≢true, true≢false}
use Rattle.std.specs.Option.{IfSome}
use Rattle.std.specs.Result.{IfOk}
use Rattle.polls.specs.Step.{Step, pends, gives}
use Rattle.cell.specs.declared.call.Kind.TheVariants as kind
use Rattle.cell.specs.declared.call.Act.{Act}
use Rattle.cell.specs.declared.call.Act.TheVariants as act
use Rattle.cell.specs.declared.register.Stage.{Stage}
use Rattle.cell.specs.declared.register.Stage.TheVariants.{Gone, InHand, Waiting, Begun, Polled}
use Rattle.cell.specs.declared.register.Register.{Register}
use Rattle.cell.specs.declared.report.Answer.{Answer}
use Rattle.cell.specs.declared.report.Answer.TheVariants as answer
use Rattle.cell.specs.declared.report.Fate.{Fate}
use Rattle.cell.specs.declared.report.Fate.TheVariants.{Kept, FutureDropped, OutputDropped}
use Rattle.cell.specs.declared.report.Fault.{Fault}
use Rattle.cell.specs.declared.report.Fault.TheVariants as fault
use Rattle.cell.specs.declared.report.Report.{Report}
use Rattle.cell.specs.declared.raw.Content.TheVariants.{Empty}
use Rattle.cell.specs.declared.table.Supply.TheVariants.{OrHeld, OrRunning}
use Rattle.cell.specs.Table.{act_kind, supplied}
use Rattle.cell.specs.Registers.{advanced, from}
use Rattle.cell.specs.Cells.{unheld}
use Rattle.cell.specs.Keeps.{held, Cell, word, Keeps}
use Rattle.cell.specs.Steps.{leaves, says, retired, polled, let_rest, registered, notified, parted, drop_task_step, followed, either, wake_by_ref_step, wake_step, drop_waker_step, cancel_step, detach_step, and_then}
use Rattle.cell.specs.declared.raw.RawTask.{RawTask}
use Rattle.cell.specs.declared.raw.Outcome.{Outcome}
use Rattle.cell.specs.Acts.{is_waiting, spawned, moved, turned, barred, carried, acted, has_ended}
use Rattle.cell.specs.declared.act.Move.{Move}
use Rattle.cell.specs.Events.{not_for_policy, waits, weight, whereabouts, delivers, hands_out, takes_back, task_after, polled_with, awake_after, asked_after}
use Rattle.cell.proofs.Phases.{Phase, idle, hand, wait, begun, pending, ready, done, over, stage_of, content_of, word_at, cell_at, Allowed, Is, is_kept, kept_is}
use Rattle.cell.proofs.Rows.{alert, spent, after_step, Follows, HandsOver, Goes, Ends, Does, denied, goes, ends, settle}

-- a Runnable that moves from nowhere to nowhere stays where it is
from_same : (s : Stage) → from Gone Gone s ≡ s
from_same Gone = refl
from_same InHand = refl
from_same Waiting = refl
from_same Begun = refl
from_same Polled = refl

either_none : {A : Type 0} (o : Option A) → either o None ≡ o
either_none None = refl
either_none (Some x) = refl

-- a future that was polled is not awake any more
unwoken : (s x : Bool) → (s || not (x && false)) ≡ true
unwoken true x = refl
unwoken false true = refl
unwoken false false = refl

module _ {F O : Type 0} (step : F → ℕ → Step F O) where
  -- the task of a cell in a phase
  abbrev raw_at : Phase F O → Bool → Option ℕ → ℕ → RawTask F O
  raw_at ph t w n = record { header = record { state = word_at ph t (is_some w) n; awaiter = w }; content = content_of ph }

  standing : (ph : Phase F O) (t : Bool) (m : ℕ) (w : Option ℕ) (n : ℕ) → n ≡ m + held (stage_of ph) → Allowed ph t w → m ≤ 65535 → Is (cell_at ph t m w n)
  standing ph t m w n e a l = record { phase = ph; task = t; wakers = m; waiter = w; is = ap (cell_at ph t m w) e; allowed = a; few = l }

  abbrev DoesAt : Act → Phase F O → Bool → ℕ → Option ℕ → ℕ → Type 0
  DoesAt a ph t m w n = Does step a (cell_at ph t m w n) (acted step (cell_at ph t m w n) a)

  schedule_does : (ph : Phase F O) (t : Bool) (m : ℕ) (w : Option ℕ) (n : ℕ) → n ≡ m + held (stage_of ph) → m ≤ 65535 → DoesAt act.Schedule ph t m w n
  schedule_does (idle f) t m w n e l = denied fault.WrongStage refl
  schedule_does (hand d f) t m w n e l = goes _ _ (record {
    is = standing (wait d f) t m w n e tt l;
    stays = refl;
    stage = refl;
    task = refl;
    wakers = refl;
    live = λ h. h;
    content = inl refl;
    waiter = inr refl;
    told = inl refl;
    woken = λ b h. refl;
    balance = refl;
    hands = tt;
    waiting = refl;
    put_once = refl;
  })
  schedule_does (wait d f) t m w n e l = denied fault.WrongStage refl
  schedule_does (begun s d f) t m w n e l = denied fault.WrongStage refl
  schedule_does (pending s d f) t m w n e l = denied fault.WrongStage refl
  schedule_does (ready s d o) t m w n e l = denied fault.WrongStage refl
  schedule_does (done o) t m w n e l = denied fault.WrongStage refl
  schedule_does (over c) t m w n e l = denied fault.WrongStage refl

  -- the report of a Runnable's end, and the end itself, with the waiter told
  abbrev ended : Fate → Answer O → Bool → Option ℕ → ℕ → Report O
  ended fate x t w n = record { answer = x; put = None; fate = fate; woken = w; cleared = eqb (n - 1) 0 && not t }

  retired_is : (ph : Phase F O) (t : Bool) (w : Option ℕ) (n : ℕ) (fate : Fate) (x : Answer O)
      → retired (raw_at ph t w n) fate x ≡ leaves (raw_at ph t None (n - 1)) (ended fate x t w n)
  retired_is ph t None n fate x = refl
  retired_is ph t (Some v) n fate x = refl

  -- a call that ends the Runnable at this phase, and leaves that one
  record Retires (a : Act) (ph ph' : Phase F O) (t : Bool) (m : ℕ) (fate : Fate) (x : Answer O) : Type 0 where
    gone : stage_of ph' ≡ Gone
    allowed : Allowed ph' t None
    next : advanced (record { stage = stage_of ph; task = t; wakers = m }) (act_kind a) false (has_ended x) ≡ record { stage = Gone; task = t; wakers = m }
    where_now : (r : Report O) → r.answer ≡ x → r.put ≡ None → whereabouts a r (stage_of ph) ≡ Gone
    task : task_after a t ≡ t
    back : takes_back a ≡ 0
    out : hands_out a ≡ 0
    unpolled : polled_with a ≡ None
    content : (content_of ph' ≡ content_of ph) ⊎ (content_of ph' ≡ Empty)
    calm' : (b : Bool) (n : ℕ) → alert b (cell_at ph' t m None n) ≡ true
    balance : (r : Report O) → r.answer ≡ x → r.fate ≡ fate → weight (content_of ph) ≡ weight (content_of ph') + spent r
    empty : t ≡ false → weight (content_of ph') ≡ 0
    hands : HandsOver (delivers x) (content_of ph)
    waited : waits (stage_of ph) ≡ false

  -- it does so, or clears the bay
  retire_does : (a : Act) (ph ph' : Phase F O) (t : Bool) (m : ℕ) (w : Option ℕ) (n : ℕ) (fate : Fate) (x : Answer O)
      → n ≡ m + 1 → m ≤ 65535 → Retires a ph ph' t m fate x
      → Does step a (cell_at ph t m w n) (Ok (moved (cell_at ph t m w n).register a (retired (raw_at ph' t w n) fate x)))
  retire_does a ph ph' t m w n fate x e l y =
      subst (λ z. Does step a (cell_at ph t m w n) (Ok (moved (cell_at ph t m w n).register a z))) (sym (retired_is ph' t w n fate x))
      (settle step a (cell_at ph t m w n) (leaves (raw_at ph' t None (n - 1)) (ended fate x t w n)) stay clear)
    where
      now : ◌≡◌ {A = Cell F O} (record { task = raw_at ph' t None (n - 1); register = advanced (record { stage = stage_of ph; task = t; wakers = m }) (act_kind a) false (has_ended x) }) (cell_at ph' t m None (n - 1))
      now = ap (λ r. record { task = raw_at ph' t None (n - 1); register = r }) (y.next ∙ ap (λ s. record { stage = s; task = t; wakers = m }) (sym y.gone))

      stay : (eqb (n - 1) 0 && not t) ≡ false → Goes step a (cell_at ph t m w n) (record { task = raw_at ph' t None (n - 1); register = advanced (record { stage = stage_of ph; task = t; wakers = m }) (act_kind a) false (has_ended x) }) (ended fate x t w n)
      stay h =
          let z : held (stage_of ph') ≡ 0 = ap held y.gone in
          let k = ap (λ r. r.wakers) y.next in
          let b = y.back in
          record {
            is = subst Is (sym now) (standing ph' t m None (n - 1) (omega arith) y.allowed l);
            stays = h;
            stage = ap (λ r. r.stage) y.next ∙ sym (y.where_now (ended fate x t w n) refl refl);
            task = ap (λ r. r.task) y.next ∙ sym y.task;
            wakers = omega arith;
            live = λ _. h;
            content = subst (λ p. Follows step p (content_of ph) (content_of ph')) (sym y.unpolled) y.content;
            waiter = inl refl;
            told = inr refl;
            woken = λ b _. subst (λ c. alert (awake_after a b) c ≡ true) (sym now) (y.calm' (awake_after a b) (n - 1));
            balance = y.balance (ended fate x t w n) refl refl;
            hands = y.hands;
            waiting = ap (λ r. waits r.stage) y.next ∙ sym y.waited;
            put_once = refl;
          }

      clear : (eqb (n - 1) 0 && not t) ≡ true → Ends a (cell_at ph t m w n) (ended fate x t w n)
      clear h =
          let p = and_parts (eqb (n - 1) 0) (not t) h in
          let z = eqb-true (n - 1) 0 p.0 in
          let q : t ≡ false = not-true t p.1 in
          let v = y.empty q in
          let u = y.balance (ended fate x t w n) refl refl in
          record {
            clears = h;
            unput = refl;
            unpolled = y.unpolled;
            stage = y.where_now (ended fate x t w n) refl refl;
            task = y.task ∙ q;
            wakers = omega arith;
            told = inr refl;
            balance = omega arith;
            hands = y.hands;
            waited = y.waited;
          }

  -- it leaves nothing
  empties : (a : Act) (ph : Phase F O) (c t : Bool) (m : ℕ) (fate : Fate) (x : Answer O)
      → advanced (record { stage = stage_of ph; task = t; wakers = m }) (act_kind a) false (has_ended x) ≡ record { stage = Gone; task = t; wakers = m }
      → ((r : Report O) → r.answer ≡ x → r.put ≡ None → whereabouts a r (stage_of ph) ≡ Gone)
      → task_after a t ≡ t → takes_back a ≡ 0 → hands_out a ≡ 0 → polled_with a ≡ None
      → ((r : Report O) → r.answer ≡ x → r.fate ≡ fate → weight (content_of ph) ≡ spent r) → HandsOver (delivers x) (content_of ph) → waits (stage_of ph) ≡ false
      → Retires a ph (over c) t m fate x
  empties a ph c t m fate x next where_now ta back out unpolled balance hands waited = record {
    gone = refl;
    allowed = refl;
    next = next;
    where_now = where_now;
    task = ta;
    back = back;
    out = out;
    unpolled = unpolled;
    content = inr refl;
    calm' = λ b n. refl;
    balance = λ r a q. balance r a q ∙ sym (zero-add (spent r));
    empty = λ _. refl;
    hands = hands;
    waited = waited;
  }

  begin_does : (ph : Phase F O) (t : Bool) (m : ℕ) (w : Option ℕ) (n : ℕ) → n ≡ m + held (stage_of ph) → m ≤ 65535 → DoesAt act.Begin ph t m w n
  begin_does (idle f) t m w n e l = denied fault.WrongStage refl
  begin_does (hand true f) t m w n e l = retire_does act.Begin (hand true f) (over false) t m w n FutureDropped answer.Ended e l
      (empties act.Begin (hand true f) false t m FutureDropped answer.Ended refl (λ r a p. rw (a, p) refl) refl refl refl refl (λ r a q. rw (a, q) refl) tt refl)
  begin_does (hand false f) t m w n e l = goes _ _ (record {
    is = standing (begun false false f) t m w n e tt l;
    stays = refl;
    stage = refl;
    task = refl;
    wakers = refl;
    live = λ h. h;
    content = inl refl;
    waiter = inr refl;
    told = inl refl;
    woken = λ b h. refl;
    balance = refl;
    hands = tt;
    waiting = refl;
    put_once = refl;
  })
  begin_does (wait d f) t m w n e l = denied fault.WrongStage refl
  begin_does (begun s d f) t m w n e l = denied fault.WrongStage refl
  begin_does (pending s d f) t m w n e l = denied fault.WrongStage refl
  begin_does (ready s d o) t m w n e l = denied fault.WrongStage refl
  begin_does (done o) t m w n e l = denied fault.WrongStage refl
  begin_does (over c) t m w n e l = denied fault.WrongStage refl

  drop_runnable_does : (ph : Phase F O) (t : Bool) (m : ℕ) (w : Option ℕ) (n : ℕ) → n ≡ m + held (stage_of ph) → m ≤ 65535 → DoesAt act.DropRunnable ph t m w n
  drop_runnable_does (idle f) t m w n e l = denied fault.WrongStage refl
  drop_runnable_does (hand d f) t m w n e l =
      retire_does act.DropRunnable (hand d f) (over false) t m w n FutureDropped answer.Done e l
      (empties act.DropRunnable (hand d f) false t m FutureDropped answer.Done refl (λ r a p. rw p refl) refl refl refl refl (λ r a q. rw (a, q) refl) tt refl)
  drop_runnable_does (wait d f) t m w n e l = denied fault.WrongStage refl
  drop_runnable_does (begun s d f) t m w n e l = denied fault.WrongStage refl
  drop_runnable_does (pending s d f) t m w n e l = denied fault.WrongStage refl
  drop_runnable_does (ready s d o) t m w n e l = denied fault.WrongStage refl
  drop_runnable_does (done o) t m w n e l = denied fault.WrongStage refl
  drop_runnable_does (over c) t m w n e l = denied fault.WrongStage refl

  poll_does : (v : ℕ) (ph : Phase F O) (t : Bool) (m : ℕ) (w : Option ℕ) (n : ℕ) → n ≡ m + held (stage_of ph) → m ≤ 65535 → DoesAt (act.Poll v) ph t m w n
  poll_does v (idle f) t m w n e l = denied fault.WrongStage refl
  poll_does v (hand d f) t m w n e l = denied fault.WrongStage refl
  poll_does v (wait d f) t m w n e l = denied fault.WrongStage refl
  poll_does v (begun s d f) t m w n e l = by_step (step f v) refl
    where
      by_step : (x : Step F O) → step f v ≡ x
          → Does step (act.Poll v) (cell_at (begun s d f) t m w n) (Ok (moved (cell_at {O = O} (begun s d f) t m w n).register (act.Poll v) (polled (cell_at {O = O} (begun s d f) t m w n).task.header x)))
      by_step (pends g) q = goes _ _ (record {
        is = standing (pending s d g) t m w n e tt l;
        stays = refl;
        stage = refl;
        task = refl;
        wakers = refl;
        live = λ h. h;
        content = (f, refl, ap after_step (sym q));
        waiter = inr refl;
        told = inl refl;
        woken = λ b h. unwoken s (not d && true);
        balance = refl;
        hands = tt;
        waiting = refl;
        put_once = refl;
      })
      by_step (gives o) q = goes _ _ (record {
        is = standing (ready s d o) t m w n e tt l;
        stays = refl;
        stage = refl;
        task = refl;
        wakers = refl;
        live = λ h. h;
        content = (f, refl, ap after_step (sym q));
        waiter = inr refl;
        told = inl refl;
        woken = λ b h. unwoken s (not d && true);
        balance = refl;
        hands = tt;
        waiting = refl;
        put_once = refl;
      })
  poll_does v (pending s d f) t m w n e l = denied fault.WrongStage refl
  poll_does v (ready s d o) t m w n e l = denied fault.WrongStage refl
  poll_does v (done o) t m w n e l = denied fault.WrongStage refl
  poll_does v (over c) t m w n e l = denied fault.WrongStage refl

  complete_does : (s d : Bool) (o : O) (t : Bool) (m : ℕ) (w : Option ℕ) (n : ℕ) → n ≡ m + 1 → m ≤ 65535 → DoesAt act.Finish (ready s d o) t m w n
  complete_does s d o false m w n e l =
      retire_does act.Finish (ready s d o) (over true) false m w n OutputDropped answer.False e l
      (empties act.Finish (ready s d o) true false m OutputDropped answer.False refl (λ r a p. rw (a, p) refl) refl refl refl refl (λ r a q. rw (a, q) refl) tt refl)
  complete_does s true o true m w n e l =
      retire_does act.Finish (ready s true o) (over true) true m w n OutputDropped answer.False e l
      (empties act.Finish (ready s true o) true true m OutputDropped answer.False refl (λ r a p. rw (a, p) refl) refl refl refl refl (λ r a q. rw (a, q) refl) tt refl)
  complete_does s false o true m w n e l =
      retire_does act.Finish (ready s false o) (done o) true m w n Kept answer.False e l (record {
        gone = refl;
        allowed = (refl, refl);
        next = refl;
        where_now = λ r a p. rw (a, p) refl;
        task = refl;
        back = refl;
        out = refl;
        unpolled = refl;
        content = inl refl;
        calm' = λ b n. refl;
        balance = λ r a q. rw (a, q) refl;
        empty = λ h. absurd (true≢false h);
        hands = tt;
        waited = refl;
      })

  suspend_does : (s d : Bool) (f : F) (t : Bool) (m : ℕ) (w : Option ℕ) (n : ℕ) → n ≡ m + 1 → m ≤ 65535 → DoesAt act.Finish (pending s d f) t m w n
  suspend_does s true f t m w n e l =
      retire_does act.Finish (pending s true f) (over false) t m w n FutureDropped answer.False e l
      (empties act.Finish (pending s true f) false t m FutureDropped answer.False refl (λ r a p. rw (a, p) refl) refl refl refl refl (λ r a q. rw (a, q) refl) tt refl)
  suspend_does true false f t m w n e l = goes _ _ (record {
    is = standing (wait false f) t m w n e tt l;
    stays = refl;
    stage = refl;
    task = refl;
    wakers = refl;
    live = λ h. h;
    content = inl refl;
    waiter = inr refl;
    told = inl refl;
    woken = λ b h. refl;
    balance = refl;
    hands = tt;
    waiting = refl;
    put_once = refl;
  })
  suspend_does false false f t m w n e l =
      settle step act.Finish (cell_at (pending false false f) t m w n) (let_rest (raw_at (idle f) t w n))
      (λ h. record {
        is = standing (idle f) t m w (n - 1) (omega arith) tt l;
        stays = h;
        stage = refl;
        task = refl;
        wakers = refl;
        live = λ _. h;
        content = inl refl;
        waiter = inr refl;
        told = inl refl;
        woken = λ b x. x;
        balance = rw h refl;
        hands = tt;
        waiting = refl;
        put_once = refl;
      })
      (λ h.
      let p = and_parts (eqb (n - 1) 0) (not t) h in
      let z = eqb-true (n - 1) 0 p.0 in
      record {
        clears = h;
        unput = refl;
        unpolled = refl;
        stage = refl;
        task = not-true t p.1;
        wakers = omega arith;
        told = inl refl;
        balance = rw h refl;
        hands = tt;
        waited = refl;
      })

  finish_does : (ph : Phase F O) (t : Bool) (m : ℕ) (w : Option ℕ) (n : ℕ) → n ≡ m + held (stage_of ph) → m ≤ 65535 → DoesAt act.Finish ph t m w n
  finish_does (idle f) t m w n e l = denied fault.WrongStage refl
  finish_does (hand d f) t m w n e l = denied fault.WrongStage refl
  finish_does (wait d f) t m w n e l = denied fault.WrongStage refl
  finish_does (begun s d f) t m w n e l = denied fault.WrongStage refl
  finish_does (pending s d f) t m w n e l = suspend_does s d f t m w n e l
  finish_does (ready s d o) t m w n e l = complete_does s d o t m w n e l
  finish_does (done o) t m w n e l = denied fault.WrongStage refl
  finish_does (over c) t m w n e l = denied fault.WrongStage refl

  -- a call that is refused if b, or else tested further
  unless : (a : Act) (c : Cell F O) (b : Bool) (x : Fault) (o : Option Fault) → not_for_policy x ≡ true
      → (b ≡ false → Does step a c (carried o (moved c.register a (turned step a c.task))))
      → Does step a c (carried (cond b (Some x) o) (moved c.register a (turned step a c.task)))
  unless a c true x o h k = denied x h
  unless a c false x o h k = k refl

  clone_does : (ph : Phase F O) (t : Bool) (m : ℕ) (w : Option ℕ) (n : ℕ) → n ≡ m + held (stage_of ph) → Allowed ph t w → m ≤ 65535 → DoesAt act.Clone ph t m w n
  clone_does ph t m w n e al l =
      unless act.Clone (cell_at ph t m w n) (not (supplied OrHeld (stage_of ph)) && eqb m 0) fault.NoWaker (cond (leb 65535 n) (Some fault.TooMany) None) refl
      (λ _. unless act.Clone (cell_at ph t m w n) (leb 65535 n) fault.TooMany None refl (λ h. goes _ _ (one_more (leb-false 65535 n h))))
    where
      one_more : n < 65535 → Goes step act.Clone (cell_at ph t m w n) (cell_at ph t (min (m + 1) 4294967295) w (min (n + 1) 16777215)) (says answer.Done)
      one_more h = record {
        is = standing ph t (min (m + 1) 4294967295) w (min (n + 1) 16777215) (omega arith) al (omega arith);
        stays = refl;
        stage = refl;
        task = refl;
        wakers = omega arith;
        live = λ _. and_left _ _ (ne_eqb (min (n + 1) 16777215) 0 (omega arith));
        content = inl refl;
        waiter = inr refl;
        told = inl refl;
        woken = λ b x. x;
        balance = sym (add-zero (weight (content_of ph)));
        hands = tt;
        waiting = refl;
        put_once = refl;
      }

  -- a cell whose register is that of a phase
  by : {a : Act} {c : Cell F O} {r : Report O} (ph : Phase F O) (t : Bool) (m : ℕ) (w : Option ℕ) (n : ℕ) {g : Register} → g ≡ record { stage = stage_of ph; task = t; wakers = m }
      → Goes step a c (cell_at ph t m w n) r → Goes step a c (record { task = raw_at ph t w n; register = g }) r
  by {a = a} {c = c} {r = r} ph t m w n q h = subst (λ x. Goes step a c (record { task = raw_at ph t w n; register = x }) r) (sym q) h

  -- a call that moves the Runnable by a put alone
  record Plain (a : Act) : Type 0 where
    out : hands_out a ≡ 0
    unpolled : polled_with a ≡ None
    where_now : (r : Report O) (s : Stage) → whereabouts a r s ≡ cond (is_some r.put) Waiting s
    asked : (r : Report O) (w : Option ℕ) → asked_after a r w ≡ cond (is_some r.woken) None w

  abbrev reported : Option Bool → Fate → Option ℕ → Report O
  reported p fate v = record { answer = answer.Done; put = p; fate = fate; woken = v; cleared = false }

  plain : (a : Act) → Plain a → (ph ph' : Phase F O) (t : Bool) (m : ℕ) (w : Option ℕ) (n : ℕ) (t' : Bool) (m' : ℕ) (w' : Option ℕ) (n' : ℕ) (p : Option Bool) (fate : Fate) (v : Option ℕ)
      → n' ≡ m' + held (stage_of ph') → Allowed ph' t' w' → m' ≤ 65535
      → stage_of ph' ≡ cond (is_some p) Waiting (stage_of ph) → t' ≡ task_after a t → m' + takes_back a ≡ m
      → (unheld (word_at ph t (is_some w) n) ≡ false → unheld (word_at ph' t' (is_some w') n') ≡ false)
      → (content_of ph' ≡ content_of ph) ⊎ (content_of ph' ≡ Empty)
      → (w' ≡ None) ⊎ (w' ≡ cond (is_some v) None w) → (v ≡ None) ⊎ (v ≡ w)
      → ((b : Bool) → alert b (cell_at ph t m w n) ≡ true → alert (awake_after a b) (cell_at ph' t' m' w' n') ≡ true)
      → weight (content_of ph) ≡ weight (content_of ph') + spent (reported p fate v)
      → (is_some p && waits (stage_of ph)) ≡ false
      → Goes step a (cell_at ph t m w n) (cell_at ph' t' m' w' n') (reported p fate v)
  plain a y ph ph' t m w n t' m' w' n' p fate v e al l stage task wakers live content waiter told woken balance once =
      record {
        is = standing ph' t' m' w' n' e al l;
        stays = refl;
        stage = stage ∙ sym (y.where_now (reported p fate v) (stage_of ph));
        task = task;
        wakers = omega arith;
        live = live;
        content = subst (λ x. Follows step x (content_of ph) (content_of ph')) (sym y.unpolled) content;
        waiter = elim waiter [ inl z ↦ inl z | inr z ↦ inr (z ∙ sym (y.asked (reported p fate v) w)) ];
        told = told;
        woken = woken;
        balance = balance;
        hands = tt;
        waiting = ap waits stage ∙ put_waits (is_some p) (stage_of ph);
        put_once = once;
      }
    where
      put_waits : (b : Bool) (s : Stage) → waits (cond b Waiting s) ≡ (b || waits s)
      put_waits true s = refl
      put_waits false s = refl

  wake_ref_plain : Plain act.WakeByRef
  wake_ref_plain = record { out = refl; unpolled = refl; where_now = λ r s. refl; asked = λ r w. refl }

  wake_plain : Plain act.Wake
  wake_plain = record { out = refl; unpolled = refl; where_now = λ r s. refl; asked = λ r w. refl }

  drop_waker_plain : Plain act.DropWaker
  drop_waker_plain = record { out = refl; unpolled = refl; where_now = λ r s. refl; asked = λ r w. refl }

  cancel_plain : Plain act.Cancel
  cancel_plain = record { out = refl; unpolled = refl; where_now = λ r s. refl; asked = λ r w. refl }

  detach_plain : Plain act.Detach
  detach_plain = record { out = refl; unpolled = refl; where_now = λ r s. refl; asked = λ r w. refl }

  drop_task_plain : Plain act.DropTask
  drop_task_plain = record { out = refl; unpolled = refl; where_now = λ r s. refl; asked = λ r w. refl }

  -- a Runnable that is not put is where it was
  abbrev Stays : Phase F O → Type 0
  Stays ph = (t : Bool) (m : ℕ) → ◌≡◌ {A = Register} (record { stage = from Gone Gone (stage_of ph); task = t; wakers = m }) (record { stage = stage_of ph; task = t; wakers = m })

  stays_there : (ph : Phase F O) → Stays ph
  stays_there ph t m = ap (λ s. record { stage = s; task = t; wakers = m }) (from_same (stage_of ph))

  wake_ref_same : (ph : Phase F O) (t : Bool) (m : ℕ) (w : Option ℕ) (n : ℕ) → n ≡ m + held (stage_of ph) → Allowed ph t w → m ≤ 65535 → alert true (cell_at ph t m w n) ≡ true
      → Does step act.WakeByRef (cell_at ph t m w n) (Ok (moved (cell_at ph t m w n).register act.WakeByRef (leaves (raw_at ph t w n) (says answer.Done))))
  wake_ref_same ph t m w n e al l h =
      goes _ _ (by ph t m w n (stays_there ph t m)
      (plain act.WakeByRef wake_ref_plain ph ph t m w n t m w n None Kept None e al l refl refl (add-zero m) (λ x. x) (inl refl) (inr refl) (inl refl) (λ b _. h) (sym (add-zero (weight (content_of ph)))) refl))

  -- a running task is marked, and its phase changes in that alone
  wake_ref_marked : (ph ph' : Phase F O) (t : Bool) (m : ℕ) (w : Option ℕ) (n : ℕ) → n ≡ m + held (stage_of ph) → Allowed ph' t w → m ≤ 65535
      → stage_of ph' ≡ stage_of ph → content_of ph' ≡ content_of ph → alert true (cell_at ph' t m w n) ≡ true
      → Does step act.WakeByRef (cell_at ph t m w n) (Ok (moved (cell_at ph t m w n).register act.WakeByRef (leaves (raw_at ph' t w n) (says answer.Done))))
  wake_ref_marked ph ph' t m w n e al l s x h =
      goes _ _ (by ph' t m w n (stays_there ph t m ∙ ap (λ y. record { stage = y; task = t; wakers = m }) (sym s))
      (plain act.WakeByRef wake_ref_plain ph ph' t m w n t m w n None Kept None (e ∙ ap (λ y. m + held y) (sym s)) al l s refl (add-zero m) (λ y. y) (inl x) (inr refl) (inl refl) (λ b _. h)
      (ap weight (sym x) ∙ sym (add-zero (weight (content_of ph')))) refl))

  wake_ref_turn : (ph : Phase F O) (t : Bool) (m : ℕ) (w : Option ℕ) (n : ℕ) → n ≡ m + held (stage_of ph) → Allowed ph t w → m ≤ 65535
      → Does step act.WakeByRef (cell_at ph t m w n) (Ok (moved (cell_at ph t m w n).register act.WakeByRef (wake_by_ref_step (raw_at ph t w n))))
  wake_ref_turn (idle f) t m w n e al l =
      goes _ _ (plain act.WakeByRef wake_ref_plain (idle f) (wait false f) t m w n t m w (min (n + 1) 16777215) (Some false) Kept None (omega arith) tt l refl refl (add-zero m)
      (λ _. and_left _ _ (ne_eqb (min (n + 1) 16777215) 0 (omega arith))) (inl refl) (inr refl) (inl refl) (λ b _. refl) refl refl)
  wake_ref_turn (hand d f) t m w n e al l = wake_ref_same (hand d f) t m w n e al l refl
  wake_ref_turn (wait d f) t m w n e al l = wake_ref_same (wait d f) t m w n e al l refl
  wake_ref_turn (begun true d f) t m w n e al l = wake_ref_same (begun true d f) t m w n e al l refl
  wake_ref_turn (begun false true f) t m w n e al l = wake_ref_same (begun false true f) t m w n e al l refl
  wake_ref_turn (begun false false f) t m w n e al l = wake_ref_marked (begun false false f) (begun true false f) t m w n e al l refl refl refl
  wake_ref_turn (pending true d f) t m w n e al l = wake_ref_same (pending true d f) t m w n e al l refl
  wake_ref_turn (pending false true f) t m w n e al l = wake_ref_same (pending false true f) t m w n e al l refl
  wake_ref_turn (pending false false f) t m w n e al l = wake_ref_marked (pending false false f) (pending true false f) t m w n e al l refl refl refl
  wake_ref_turn (ready true d o) t m w n e al l = wake_ref_same (ready true d o) t m w n e al l refl
  wake_ref_turn (ready false true o) t m w n e al l = wake_ref_same (ready false true o) t m w n e al l refl
  wake_ref_turn (ready false false o) t m w n e al l = wake_ref_marked (ready false false o) (ready true false o) t m w n e al l refl refl refl
  wake_ref_turn (done o) t m w n e al l = wake_ref_same (done o) t m w n e al l refl
  wake_ref_turn (over c) t m w n e al l = wake_ref_same (over c) t m w n e al l refl

  wake_ref_does : (ph : Phase F O) (t : Bool) (m : ℕ) (w : Option ℕ) (n : ℕ) → n ≡ m + held (stage_of ph) → Allowed ph t w → m ≤ 65535 → DoesAt act.WakeByRef ph t m w n
  wake_ref_does ph t m w n e al l =
      unless act.WakeByRef (cell_at ph t m w n) (not (supplied OrRunning (stage_of ph)) && eqb m 0) fault.NoWaker None refl (λ _. wake_ref_turn ph t m w n e al l)

  -- drop_waker: something still holds the task
  lets_is : (ph : Phase F O) (t : Bool) (w : Option ℕ) (n : ℕ) → unheld (word_at ph t (is_some w) (n - 1)) ≡ false
      → drop_waker_step (raw_at ph t w n) ≡ leaves (raw_at ph t w (n - 1)) (says answer.Done)
  lets_is ph t w n h = cond-true _ _ _ (not_from_false _ h)

  -- or nothing does, and the task is closed
  clears_is : (c t : Bool) (w : Option ℕ) (n : ℕ) → unheld (word_at {F = F} {O = O} (over c) t (is_some w) (n - 1)) ≡ true
      → drop_waker_step (raw_at (over c) t w n) ≡ leaves (raw_at (over c) t w (n - 1)) (record { answer = answer.Done; put = None; fate = Kept; woken = None; cleared = true })
  clears_is c t w n h = cond-false _ _ _ (not_from_true _ h)

  abbrev Turns : Act → Phase F O → Bool → ℕ → Option ℕ → ℕ → Outcome F O → Type 0
  Turns a ph t m w n x = Does step a (cell_at ph t m w n) (Ok (moved (cell_at ph t m w n).register a x))

  drop_waker_held : (ph : Phase F O) (t : Bool) (m : ℕ) (w : Option ℕ) (n : ℕ) → n ≡ m + held (stage_of ph) → Allowed ph t w → m ≤ 65535 → (m ≡ 0 → ⊥)
      → unheld (word_at ph t (is_some w) (n - 1)) ≡ false → Turns act.DropWaker ph t m w n (drop_waker_step (raw_at ph t w n))
  drop_waker_held ph t m w n e al l k h =
      subst (Turns act.DropWaker ph t m w n) (sym (lets_is ph t w n h))
      (goes _ _ (by ph t (m - 1) w (n - 1) (stays_there ph t (m - 1))
      (plain act.DropWaker drop_waker_plain ph ph t m w n t (m - 1) w (n - 1) None Kept None (omega arith) al (omega arith) refl refl (omega arith) (λ _. h) (inl refl) (inr refl) (inl refl) (λ b x. x)
      (sym (add-zero (weight (content_of ph)))) refl)))

  -- the last waker of a task whose Task and Runnable are gone
  drop_waker_last : (ph : Phase F O) (t : Bool) (m : ℕ) (w : Option ℕ) (n : ℕ) → n ≡ m + held (stage_of ph) → Allowed ph t w → m ≤ 65535 → (m ≡ 0 → ⊥)
      → n - 1 ≡ 0 → t ≡ false → unheld (word_at ph t (is_some w) (n - 1)) ≡ true → Turns act.DropWaker ph t m w n (drop_waker_step (raw_at ph t w n))
  drop_waker_last (idle f) true m w n e al l k z q h = absurd (true≢false q)
  drop_waker_last (idle f) false m w n e al l k z q h =
      subst (Turns act.DropWaker (idle f) false m w n) (sym (cond-false _ _ _ (not_from_true _ h)))
      (goes _ _ (plain act.DropWaker drop_waker_plain (idle f) (wait true f) false m w n false (m - 1) None 1 (Some false) Kept None (omega arith) tt (omega arith) refl refl (omega arith) (λ _. refl)
      (inl refl) (inl refl) (inl refl) (λ b _. refl) refl refl))
  drop_waker_last (hand d f) t m w n e al l k z q h = absurd (omega arith)
  drop_waker_last (wait d f) t m w n e al l k z q h = absurd (omega arith)
  drop_waker_last (begun s d f) t m w n e al l k z q h = absurd (omega arith)
  drop_waker_last (pending s d f) t m w n e al l k z q h = absurd (omega arith)
  drop_waker_last (ready s d o) t m w n e al l k z q h = absurd (omega arith)
  drop_waker_last (done o) t m w n e al l k z q h = absurd (true≢false (sym al.0 ∙ q))
  drop_waker_last (over c) t m w n e al l k z q h =
      subst (Turns act.DropWaker (over c) t m w n) (sym (clears_is c t w n h))
      (ends _ (record { clears = refl; unput = refl; unpolled = refl; stage = refl; task = q; wakers = omega arith; told = inl refl; balance = refl; hands = tt; waited = refl }))

  drop_waker_does : (ph : Phase F O) (t : Bool) (m : ℕ) (w : Option ℕ) (n : ℕ) → n ≡ m + held (stage_of ph) → Allowed ph t w → m ≤ 65535 → DoesAt act.DropWaker ph t m w n
  drop_waker_does ph t m w n e al l =
      unless act.DropWaker (cell_at ph t m w n) (eqb m 0) fault.NoWaker None refl
      (λ h. elim (cases_Bool (unheld (word_at ph t (is_some w) (n - 1)))) [
        | inl y ↦
            (let p = and_parts (eqb (n - 1) 0) (not t) y in
            drop_waker_last ph t m w n e al l (eqb-false m 0 h) (eqb-true (n - 1) 0 p.0) (not-true t p.1) y)
        | inr y ↦ drop_waker_held ph t m w n e al l (eqb-false m 0 h) y
      ])

  -- wake: what wake_by_ref leaves, with one reference less
  wake_held : (ph ph' : Phase F O) (p : Option Bool) (t : Bool) (m : ℕ) (w : Option ℕ) (n n' : ℕ) → m ≤ 65535 → (m ≡ 0 → ⊥)
      → wake_by_ref_step (raw_at ph t w n) ≡ leaves (raw_at ph' t w n') (reported p Kept None)
      → n' ≡ m + held (stage_of ph') → Allowed ph' t w → unheld (word_at ph' t (is_some w) (n' - 1)) ≡ false
      → from Gone (cond (is_some p) Waiting Gone) (stage_of ph) ≡ stage_of ph' → stage_of ph' ≡ cond (is_some p) Waiting (stage_of ph)
      → content_of ph' ≡ content_of ph → alert true (cell_at ph' t (m - 1) w (n' - 1)) ≡ true → (is_some p && waits (stage_of ph)) ≡ false
      → Turns act.Wake ph t m w n (wake_step (raw_at ph t w n))
  wake_held ph ph' p t m w n n' l k q e al h next stage x y once =
      subst (λ z. Turns act.Wake ph t m w n (and_then z drop_waker_step)) (sym q)
      (subst (λ z. Turns act.Wake ph t m w n (leaves z.task (followed (reported p Kept None) z.report))) (sym (lets_is ph' t w n' h))
      (subst (λ z. Turns act.Wake ph t m w n (leaves (raw_at ph' t w (n' - 1)) (reported z Kept None))) (sym (either_none p))
      (goes _ _ (by ph' t (m - 1) w (n' - 1) (ap (λ s. record { stage = s; task = t; wakers = m - 1 }) next)
      (plain act.Wake wake_plain ph ph' t m w n t (m - 1) w (n' - 1) p Kept None (omega arith) al (omega arith) stage refl (omega arith) (λ _. h) (inl x) (inr refl) (inl refl) (λ b _. y)
      (ap weight (sym x) ∙ sym (add-zero (weight (content_of ph')))) once)))))

  -- a task that something holds besides this waker
  wake_same : (ph : Phase F O) (t : Bool) (m : ℕ) (w : Option ℕ) (n : ℕ) → n ≡ m + held (stage_of ph) → Allowed ph t w → m ≤ 65535 → (m ≡ 0 → ⊥)
      → wake_by_ref_step (raw_at ph t w n) ≡ leaves (raw_at ph t w n) (says answer.Done) → unheld (word_at ph t (is_some w) (n - 1)) ≡ false → alert true (cell_at ph t (m - 1) w (n - 1)) ≡ true
      → Turns act.Wake ph t m w n (wake_step (raw_at ph t w n))
  wake_same ph t m w n e al l k q h y = wake_held ph ph None t m w n n l k q e al h (from_same (stage_of ph)) refl refl y refl

  held_still : (t : Bool) (m n : ℕ) → n ≡ m + 1 → (m ≡ 0 → ⊥) → (eqb (n - 1) 0 && not t) ≡ false
  held_still t m n e k = and_left _ _ (ne_eqb (n - 1) 0 (omega arith))

  wake_over : (c t : Bool) (m : ℕ) (w : Option ℕ) (n : ℕ) → n ≡ m + 0 → w ≡ None → m ≤ 65535 → (m ≡ 0 → ⊥) → Turns act.Wake (over c) t m w n (wake_step (raw_at (over c) t w n))
  wake_over c t m w n e al l k =
      elim (cases_Bool (unheld (word_at {F = F} {O = O} (over c) t (is_some w) (n - 1)))) [
        | inl y ↦
            (let p = and_parts (eqb (n - 1) 0) (not t) y in
            let z = eqb-true (n - 1) 0 p.0 in
            subst (λ x. Turns act.Wake (over c) t m w n (leaves x.task (followed (says answer.Done) x.report))) (sym (clears_is c t w n y))
            (ends _ (record { clears = refl; unput = refl; unpolled = refl; stage = refl; task = not-true t p.1; wakers = omega arith; told = inl refl; balance = refl; hands = tt; waited = refl })))
        | inr y ↦ wake_same (over c) t m w n e al l k refl y refl
      ]

  wake_turn : (ph : Phase F O) (t : Bool) (m : ℕ) (w : Option ℕ) (n : ℕ) → n ≡ m + held (stage_of ph) → Allowed ph t w → m ≤ 65535 → (m ≡ 0 → ⊥) → Turns act.Wake ph t m w n (wake_step (raw_at ph t w n))
  wake_turn (idle f) t m w n e al l k =
      wake_held (idle f) (wait false f) (Some false) t m w n (min (n + 1) 16777215) l k refl (omega arith) tt (and_left _ _ (ne_eqb (min (n + 1) 16777215 - 1) 0 (omega arith))) refl refl refl refl refl
  wake_turn (hand d f) t m w n e al l k = wake_same (hand d f) t m w n e al l k refl (held_still t m n e k) refl
  wake_turn (wait d f) t m w n e al l k = wake_same (wait d f) t m w n e al l k refl (held_still t m n e k) refl
  wake_turn (begun true d f) t m w n e al l k = wake_same (begun true d f) t m w n e al l k refl (held_still t m n e k) refl
  wake_turn (begun false true f) t m w n e al l k = wake_same (begun false true f) t m w n e al l k refl (held_still t m n e k) refl
  wake_turn (begun false false f) t m w n e al l k = wake_held (begun false false f) (begun true false f) None t m w n n l k refl e al (held_still t m n e k) refl refl refl refl refl
  wake_turn (pending true d f) t m w n e al l k = wake_same (pending true d f) t m w n e al l k refl (held_still t m n e k) refl
  wake_turn (pending false true f) t m w n e al l k = wake_same (pending false true f) t m w n e al l k refl (held_still t m n e k) refl
  wake_turn (pending false false f) t m w n e al l k = wake_held (pending false false f) (pending true false f) None t m w n n l k refl e al (held_still t m n e k) refl refl refl refl refl
  wake_turn (ready true d o) t m w n e al l k = wake_same (ready true d o) t m w n e al l k refl (held_still t m n e k) refl
  wake_turn (ready false true o) t m w n e al l k = wake_same (ready false true o) t m w n e al l k refl (held_still t m n e k) refl
  wake_turn (ready false false o) t m w n e al l k = wake_held (ready false false o) (ready true false o) None t m w n n l k refl e al (held_still t m n e k) refl refl refl refl refl
  wake_turn (done o) t m w n e al l k = wake_same (done o) t m w n e al l k refl (and_right _ _ (not_from_true _ al.0)) refl
  wake_turn (over c) t m w n e al l k = wake_over c t m w n e al l k

  wake_does : (ph : Phase F O) (t : Bool) (m : ℕ) (w : Option ℕ) (n : ℕ) → n ≡ m + held (stage_of ph) → Allowed ph t w → m ≤ 65535 → DoesAt act.Wake ph t m w n
  wake_does ph t m w n e al l =
      unless act.Wake (cell_at ph t m w n) (eqb m 0) fault.NoWaker None refl (λ h. wake_turn ph t m w n e al l (eqb-false m 0 h))

  -- poll_task: the waiter is registered
  asks : (v : ℕ) (ph : Phase F O) (m : ℕ) (w : Option ℕ) (n : ℕ) → n ≡ m + held (stage_of ph) → Allowed ph true (Some v) → m ≤ 65535 → Turns (act.PollTask v) ph true m w n (registered v (raw_at ph true w n))
  asks v ph m w n e al l = goes _ _ (record {
    is = standing ph true m (Some v) n e al l;
    stays = refl;
    stage = refl;
    task = refl;
    wakers = refl;
    live = λ h. h;
    content = inl refl;
    waiter = inr refl;
    told = inl refl;
    woken = λ b x. x;
    balance = sym (add-zero (weight (content_of ph)));
    hands = tt;
    waiting = refl;
    put_once = refl;
  })

  poll_task_does : (v : ℕ) (ph : Phase F O) (t : Bool) (m : ℕ) (w : Option ℕ) (n : ℕ) → n ≡ m + held (stage_of ph) → Allowed ph t w → m ≤ 65535 → DoesAt (act.PollTask v) ph t m w n
  poll_task_does v ph false m w n e al l = denied fault.NoTask refl
  poll_task_does v (idle f) true m w n e al l = asks v (idle f) m w n e tt l
  poll_task_does v (hand true f) true m w n e al l = asks v (hand true f) m w n e tt l
  poll_task_does v (hand false f) true m w n e al l = asks v (hand false f) m w n e tt l
  poll_task_does v (wait true f) true m w n e al l = asks v (wait true f) m w n e tt l
  poll_task_does v (wait false f) true m w n e al l = asks v (wait false f) m w n e tt l
  poll_task_does v (begun s true f) true m w n e al l = asks v (begun s true f) m w n e tt l
  poll_task_does v (begun s false f) true m w n e al l = asks v (begun s false f) m w n e tt l
  poll_task_does v (pending s true f) true m w n e al l = asks v (pending s true f) m w n e tt l
  poll_task_does v (pending s false f) true m w n e al l = asks v (pending s false f) m w n e tt l
  poll_task_does v (ready s true o) true m w n e al l = asks v (ready s true o) m w n e tt l
  poll_task_does v (ready s false o) true m w n e al l = asks v (ready s false o) m w n e tt l
  poll_task_does v (done o) true m (Some u) n e al l = absurd (true≢false (ap is_some al.1))
  poll_task_does v (done o) true m None n e al l = goes _ _ (record {
    is = standing (over true) true m None n e refl l;
    stays = refl;
    stage = refl;
    task = refl;
    wakers = refl;
    live = λ h. h;
    content = inr refl;
    waiter = inl refl;
    told = inl refl;
    woken = λ b x. refl;
    balance = refl;
    hands = refl;
    waiting = refl;
    put_once = refl;
  })
  poll_task_does v (over c) true m (Some u) n e al l = absurd (true≢false (ap is_some al))
  poll_task_does v (over c) true m None n e al l = goes _ _ (record {
    is = standing (over c) true m None n e refl l;
    stays = refl;
    stage = refl;
    task = refl;
    wakers = refl;
    live = λ h. h;
    content = inl refl;
    waiter = inl refl;
    told = inl refl;
    woken = λ b x. refl;
    balance = refl;
    hands = tt;
    waiting = refl;
    put_once = refl;
  })

  -- cancel: the waiter is told
  notified_is : (ph : Phase F O) (t : Bool) (w : Option ℕ) (n : ℕ) (p : Option Bool) → notified (raw_at ph t w n) p ≡ leaves (raw_at ph t None n) (reported p Kept w)
  notified_is ph t None n p = refl
  notified_is ph t (Some v) n p = refl

  -- an open task ph becomes the closed one ph', with a put or without
  record Closes (ph ph' : Phase F O) (p : Option Bool) (m n n' : ℕ) : Type 0 where
    step_is : (w : Option ℕ) → cancel_step (raw_at ph true w n) ≡ notified (raw_at ph' true w n') p
    parts_is : detach_step (raw_at ph' true None n') ≡ leaves (raw_at ph' false None n') (record { answer = answer.Done; put = None; fate = Kept; woken = None; cleared = eqb n' 0 })
    counted : n' ≡ m + held (stage_of ph')
    some : eqb n' 0 ≡ false
    allowed : (t : Bool) → Allowed ph' t None
    next : from Gone (cond (is_some p) Waiting Gone) (stage_of ph) ≡ stage_of ph'
    stage : stage_of ph' ≡ cond (is_some p) Waiting (stage_of ph)
    content : content_of ph' ≡ content_of ph
    calm' : (b t : Bool) → alert b (cell_at ph' t m None n') ≡ true
    once : (is_some p && waits (stage_of ph)) ≡ false

  cancel_open : (ph ph' : Phase F O) (p : Option Bool) (m : ℕ) (w : Option ℕ) (n n' : ℕ) → m ≤ 65535 → Closes ph ph' p m n n' → Turns act.Cancel ph true m w n (cancel_step (raw_at ph true w n))
  cancel_open ph ph' p m w n n' l y =
      subst (Turns act.Cancel ph true m w n) (sym (y.step_is w ∙ notified_is ph' true w n' p))
      (goes _ _ (by ph' true m None n' (ap (λ s. record { stage = s; task = true; wakers = m }) y.next)
      (plain act.Cancel cancel_plain ph ph' true m w n true m None n' p Kept w y.counted (y.allowed true) l y.stage refl (add-zero m) (λ _. and_right _ _ refl) (inl y.content) (inl refl) (inr refl)
      (λ b _. y.calm' b true) (ap weight (sym y.content) ∙ sym (add-zero (weight (content_of ph')))) y.once)))

  drop_open : (ph ph' : Phase F O) (p : Option Bool) (m : ℕ) (w : Option ℕ) (n n' : ℕ) → m ≤ 65535 → Closes ph ph' p m n n' → Turns act.DropTask ph true m w n (drop_task_step (raw_at ph true w n))
  drop_open ph ph' p m w n n' l y =
      subst (λ z. Turns act.DropTask ph true m w n (and_then z detach_step)) (sym (y.step_is w ∙ notified_is ph' true w n' p))
      (subst (λ z. Turns act.DropTask ph true m w n (leaves z.task (followed (reported p Kept w) z.report))) (sym y.parts_is)
      (subst (Turns act.DropTask ph true m w n) (sym report_is)
      (goes _ _ (by ph' false m None n' (ap (λ s. record { stage = s; task = false; wakers = m }) y.next)
      (plain act.DropTask drop_task_plain ph ph' true m w n false m None n' p Kept w y.counted (y.allowed false) l y.stage refl (add-zero m) (λ _. and_left _ _ y.some) (inl y.content) (inl refl) (inr refl)
      (λ b _. y.calm' b false) (ap weight (sym y.content) ∙ sym (add-zero (weight (content_of ph')))) y.once)))))
    where
      report_is : ◌≡◌ {A = Outcome F O} (leaves (raw_at ph' false None n') (record { answer = answer.Done; put = either p None; fate = Kept; woken = either w None; cleared = eqb n' 0 })) (leaves (raw_at ph' false None n') (reported p Kept w))
      report_is = let a = either_none p in let b = either_none w in let c = y.some in rw (a, b, c) refl

  -- what cancel does to a task: it closes an open one, or leaves it as it is
  data Cancels (ph : Phase F O) (m n : ℕ) : Type 0 where
    closes : (ph' : Phase F O) (p : Option Bool) (n' : ℕ) → Closes ph ph' p m n n' → Cancels ph m n
    spares : ((w : Option ℕ) → cancel_step (raw_at ph true w n) ≡ leaves (raw_at ph true w n) (says answer.Done)) → Cancels ph m n

  -- where a Runnable exists, it stays where it is
  marks : (ph ph' : Phase F O) (m n : ℕ) → n ≡ m + 1 → held (stage_of ph') ≡ 1 → stage_of ph' ≡ stage_of ph → content_of ph' ≡ content_of ph
      → ((w : Option ℕ) → cancel_step (raw_at ph true w n) ≡ notified (raw_at ph' true w n) None)
      → detach_step (raw_at ph' true None n) ≡ leaves (raw_at ph' false None n) (record { answer = answer.Done; put = None; fate = Kept; woken = None; cleared = eqb n 0 })
      → ((t : Bool) → Allowed ph' t None) → ((b t : Bool) → alert b (cell_at ph' t m None n) ≡ true) → Cancels ph m n
  marks ph ph' m n e one stage content step_is parts_is allowed calm' = closes ph' None n (record {
    step_is = step_is;
    parts_is = parts_is;
    counted = omega arith;
    some = ne_eqb n 0 (omega arith);
    allowed = allowed;
    next = from_same (stage_of ph) ∙ sym stage;
    stage = stage;
    content = content;
    calm' = calm';
    once = refl;
  })

  cancels : (ph : Phase F O) (m n : ℕ) → n ≡ m + held (stage_of ph) → m ≤ 65535 → Cancels ph m n
  cancels (idle f) m n e l = closes (wait true f) (Some false) (min (n + 1) 16777215) (record {
    step_is = λ w. refl;
    parts_is = refl;
    counted = omega arith;
    some = ne_eqb (min (n + 1) 16777215) 0 (omega arith);
    allowed = λ t. tt;
    next = refl;
    stage = refl;
    content = refl;
    calm' = λ b t. refl;
    once = refl;
  })
  cancels (hand true f) m n e l = spares (λ w. refl)
  cancels (hand false f) m n e l = marks (hand false f) (hand true f) m n e refl refl refl (λ w. refl) refl (λ t. tt) (λ b t. refl)
  cancels (wait true f) m n e l = spares (λ w. refl)
  cancels (wait false f) m n e l = marks (wait false f) (wait true f) m n e refl refl refl (λ w. refl) refl (λ t. tt) (λ b t. refl)
  cancels (begun s true f) m n e l = spares (λ w. refl)
  cancels (begun s false f) m n e l = marks (begun s false f) (begun s true f) m n e refl refl refl (λ w. refl) refl (λ t. tt) (λ b t. refl)
  cancels (pending s true f) m n e l = spares (λ w. refl)
  cancels (pending s false f) m n e l = marks (pending s false f) (pending s true f) m n e refl refl refl (λ w. refl) refl (λ t. tt) (λ b t. or_right s _ refl)
  cancels (ready s true o) m n e l = spares (λ w. refl)
  cancels (ready s false o) m n e l = marks (ready s false o) (ready s true o) m n e refl refl refl (λ w. refl) refl (λ t. tt) (λ b t. or_right s _ refl)
  cancels (done o) m n e l = spares (λ w. refl)
  cancels (over c) m n e l = spares (λ w. refl)

  -- a task that is not open stays as it is
  cancel_shut : (ph : Phase F O) (m : ℕ) (w : Option ℕ) (n : ℕ) → n ≡ m + held (stage_of ph) → Allowed ph true w → m ≤ 65535 → Turns act.Cancel ph true m w n (leaves (raw_at ph true w n) (says answer.Done))
  cancel_shut ph m w n e al l =
      goes _ _ (by ph true m w n (stays_there ph true m)
      (plain act.Cancel cancel_plain ph ph true m w n true m w n None Kept None e al l refl refl (add-zero m) (λ x. x) (inl refl) (inr refl) (inl refl) (λ b x. x) (sym (add-zero (weight (content_of ph)))) refl))

  cancel_does : (ph : Phase F O) (t : Bool) (m : ℕ) (w : Option ℕ) (n : ℕ) → n ≡ m + held (stage_of ph) → Allowed ph t w → m ≤ 65535 → DoesAt act.Cancel ph t m w n
  cancel_does ph false m w n e al l = denied fault.NoTask refl
  cancel_does ph true m w n e al l = elim (cancels ph m n e l) [
    | closes ph' p n' y ↦ cancel_open ph ph' p m w n n' l y
    | spares q ↦ subst (Turns act.Cancel ph true m w n) (sym (q w)) (cancel_shut ph m w n e al l)
  ]

  -- detach and drop_task let the Task go
  record Parts (a : Act) : Type 0 where
    moves : Plain a
    task : task_after a true ≡ false
    back : takes_back a ≡ 0
    awake : (b : Bool) → awake_after a b ≡ b
    next : (s : Stage) (m : ℕ) (put : Bool) → advanced (record { stage = s; task = true; wakers = m }) (act_kind a) put false ≡ record { stage = from Gone (cond put Waiting Gone) s; task = false; wakers = m }

  detach_parts : Parts act.Detach
  detach_parts = record { moves = detach_plain; task = refl; back = refl; awake = λ b. refl; next = λ s m p. refl }

  drop_task_parts : Parts act.DropTask
  drop_task_parts = record { moves = drop_task_plain; task = refl; back = refl; awake = λ b. refl; next = λ s m p. refl }

  module _ (a : Act) (y : Parts a) where
    -- something else still holds the task
    part_held : (ph ph' : Phase F O) (m : ℕ) (w : Option ℕ) (n : ℕ) (fate : Fate) → n ≡ m + held (stage_of ph') → Allowed ph' false w → m ≤ 65535 → eqb n 0 ≡ false
        → stage_of ph' ≡ stage_of ph → (content_of ph' ≡ content_of ph) ⊎ (content_of ph' ≡ Empty)
        → ((b : Bool) → alert b (cell_at ph true m w n) ≡ true → alert b (cell_at ph' false m w n) ≡ true)
        → weight (content_of ph) ≡ weight (content_of ph') + spent (reported None fate None)
        → Turns a ph true m w n (leaves (raw_at ph' false w n) (reported None fate None))
    part_held ph ph' m w n fate e al l h s x woken balance =
        let b = y.back in
        goes _ _ (by ph' false m w n (y.next (stage_of ph) m false ∙ stays_there ph false m ∙ ap (λ z. record { stage = z; task = false; wakers = m }) (sym s))
        (plain a y.moves ph ph' true m w n false m w n None fate None e al l s (sym y.task) (omega arith) (λ _. and_left _ _ h) x (inr refl) (inl refl)
        (λ b z. subst (λ c. alert c (cell_at ph' false m w n) ≡ true) (sym (y.awake b)) (woken b z)) balance refl))

    -- the step, where there is a reference left
    parted_is : (ph : Phase F O) (w : Option ℕ) (n : ℕ) (fate : Fate) → eqb n 0 ≡ false → parted fate (raw_at ph true w n) ≡ leaves (raw_at ph false w n) (reported None fate None)
    parted_is ph w n fate h =
        cond-false _ _ _ (and_right _ _ h)
        ∙ ap (λ b. leaves (raw_at ph false w n) (record { answer = answer.Done; put = None; fate = fate; woken = None; cleared = b })) h

    part_same : (ph : Phase F O) (m : ℕ) (w : Option ℕ) (n : ℕ) → n ≡ m + held (stage_of ph) → Allowed ph false w → m ≤ 65535 → eqb n 0 ≡ false → Turns a ph true m w n (parted Kept (raw_at ph true w n))
    part_same ph m w n e al l h =
        subst (Turns a ph true m w n) (sym (parted_is ph w n Kept h))
        (part_held ph ph m w n Kept e al l h refl (inl refl) (λ b x. x) (sym (add-zero (weight (content_of ph)))))

    part_idle : (f : F) (m : ℕ) (w : Option ℕ) (n : ℕ) → n ≡ m + 0 → m ≤ 65535 → Turns a (idle f) true m w n (parted Kept (raw_at (idle f) true w n))
    part_idle f m w n e l =
        elim (cases_Bool (eqb n 0)) [
          | inl h ↦
              (let z = eqb-true n 0 h in
              let b = y.back in
              subst (Turns a (idle f) true m w n) (sym (cond-true _ _ _ h))
              (goes _ _ (by (wait true f) false m None 1 (y.next Gone m true)
              (plain a y.moves (idle f) (wait true f) true m w n false m None 1 (Some false) Kept None (omega arith) tt l refl (sym y.task) (omega arith) (λ _. refl) (inl refl) (inl refl) (inl refl) (λ b _. refl) refl refl))))
          | inr h ↦ part_same (idle f) m w n e tt l h
        ]

    -- nothing is left in the task: it goes if nothing else holds it
    part_over : (ph : Phase F O) (c : Bool) (m n : ℕ) (fate : Fate) → n ≡ m + 0 → m ≤ 65535 → stage_of ph ≡ Gone
        → weight (content_of ph) ≡ spent (reported None fate None)
        → Turns a ph true m None n (leaves (raw_at (over c) false None n) (record { answer = answer.Done; put = None; fate = fate; woken = None; cleared = eqb n 0 }))
    part_over ph c m n fate e l s balance =
        elim (cases_Bool (eqb n 0)) [
          | inl h ↦
              (let z = eqb-true n 0 h in
              let b = y.back in
              subst (λ k. Turns a ph true m None n (leaves (raw_at (over c) false None n) (record { answer = answer.Done; put = None; fate = fate; woken = None; cleared = k }))) (sym h)
              (ends _ (record {
                clears = refl;
                unput = refl;
                unpolled = y.moves.unpolled;
                stage = y.moves.where_now (record { answer = answer.Done; put = None; fate = fate; woken = None; cleared = true }) (stage_of ph) ∙ s;
                task = y.task;
                wakers = omega arith;
                told = inl refl;
                balance = balance;
                hands = tt;
                waited = ap waits s;
              })))
          | inr h ↦
              (let q = balance in
              subst (λ k. Turns a ph true m None n (leaves (raw_at (over c) false None n) (record { answer = answer.Done; put = None; fate = fate; woken = None; cleared = k }))) (sym h)
              (part_held ph (over c) m None n fate e refl l h (sym s) (inr refl) (λ b _. refl) (omega arith)))
        ]

    some_left : (m n : ℕ) → n ≡ m + 1 → eqb n 0 ≡ false
    some_left m n e = ne_eqb n 0 (omega arith)

    part_turn : (ph : Phase F O) (m : ℕ) (w : Option ℕ) (n : ℕ) → n ≡ m + held (stage_of ph) → Allowed ph true w → m ≤ 65535 → Turns a ph true m w n (detach_step (raw_at ph true w n))
    part_turn (idle f) m w n e al l = part_idle f m w n e l
    part_turn (hand d f) m w n e al l = part_same (hand d f) m w n e tt l (some_left m n e)
    part_turn (wait d f) m w n e al l = part_same (wait d f) m w n e tt l (some_left m n e)
    part_turn (begun s d f) m w n e al l = part_same (begun s d f) m w n e tt l (some_left m n e)
    part_turn (pending s d f) m w n e al l = part_same (pending s d f) m w n e tt l (some_left m n e)
    part_turn (ready s d o) m w n e al l = part_same (ready s d o) m w n e tt l (some_left m n e)
    part_turn (done o) m (Some u) n e al l = absurd (true≢false (ap is_some al.1))
    part_turn (done o) m None n e al l = part_over (done o) true m n OutputDropped e l refl refl
    part_turn (over c) m (Some u) n e al l = absurd (true≢false (ap is_some al))
    part_turn (over true) m None n e al l = part_over (over true) true m n Kept e l refl refl
    part_turn (over false) m None n e al l = part_over (over false) false m n Kept e l refl refl

  detach_does : (ph : Phase F O) (t : Bool) (m : ℕ) (w : Option ℕ) (n : ℕ) → n ≡ m + held (stage_of ph) → Allowed ph t w → m ≤ 65535 → DoesAt act.Detach ph t m w n
  detach_does ph false m w n e al l = denied fault.NoTask refl
  detach_does ph true m w n e al l = part_turn act.Detach detach_parts ph m w n e al l

  drop_task_does : (ph : Phase F O) (t : Bool) (m : ℕ) (w : Option ℕ) (n : ℕ) → n ≡ m + held (stage_of ph) → Allowed ph t w → m ≤ 65535 → DoesAt act.DropTask ph t m w n
  drop_task_does ph false m w n e al l = denied fault.NoTask refl
  drop_task_does ph true m w n e al l = elim (cancels ph m n e l) [
    | closes ph' p n' y ↦ drop_open ph ph' p m w n n' l y
    | spares q ↦ subst (λ z. Turns act.DropTask ph true m w n (and_then z detach_step)) (sym (q w)) (part_turn act.DropTask drop_task_parts ph m w n e al l)
  ]

  does_at : (a : Act) (ph : Phase F O) (t : Bool) (m : ℕ) (w : Option ℕ) (n : ℕ) → n ≡ m + held (stage_of ph) → Allowed ph t w → m ≤ 65535 → DoesAt a ph t m w n
  does_at act.Schedule ph t m w n e al l = schedule_does ph t m w n e l
  does_at act.Begin ph t m w n e al l = begin_does ph t m w n e l
  does_at (act.Poll v) ph t m w n e al l = poll_does v ph t m w n e l
  does_at act.Finish ph t m w n e al l = finish_does ph t m w n e l
  does_at act.DropRunnable ph t m w n e al l = drop_runnable_does ph t m w n e l
  does_at act.Clone ph t m w n e al l = clone_does ph t m w n e al l
  does_at act.WakeByRef ph t m w n e al l = wake_ref_does ph t m w n e al l
  does_at act.Wake ph t m w n e al l = wake_does ph t m w n e al l
  does_at act.DropWaker ph t m w n e al l = drop_waker_does ph t m w n e al l
  does_at (act.PollTask v) ph t m w n e al l = poll_task_does v ph t m w n e al l
  does_at act.Cancel ph t m w n e al l = cancel_does ph t m w n e al l
  does_at act.Detach ph t m w n e al l = detach_does ph t m w n e al l
  does_at act.DropTask ph t m w n e al l = drop_task_does ph t m w n e al l

  -- what comes of any call on any cell
  pub does : (a : Act) (c : Cell F O) → Is c → Does step a c (acted step c a)
  does a c i = subst (λ x. Does step a x (acted step x a)) (sym i.is) (does_at a i.phase i.task i.wakers i.waiter (i.wakers + held (stage_of i.phase)) refl i.allowed i.few)

  -- and so a cell that stays keeps what every cell keeps
  pub act_keeps : (a : Act) (c : Cell F O) → Keeps c → (y : Outcome F O) → y ≡ turned step a c.task → barred a c.register (word c).count ≡ None → y.report.cleared ≡ false
      → Keeps (record { task = y.task; register = advanced c.register (act_kind a) (is_some y.report.put) (has_ended y.report.answer) })
  act_keeps a c k y q b h =
      subst (λ x. IfOk x (λ m. IfSome m.bay Keeps))
      (ap (λ o. carried o (moved c.register a (turned step a c.task))) b ∙ ap (λ z. Ok (moved c.register a z)) (sym q) ∙ ap (λ x. Ok (record { bay = x; report = y.report })) (cond-false _ _ _ h))
      (left (does a c (kept_is c k)))
    where
      left : {x : Result (Move F O) Fault} → Does step a c x → IfOk x (λ m. IfSome m.bay Keeps)
      left (denied e z) = tt
      left (goes c' r g) = is_kept c' g.is
      left (ends r g) = tt

module _ {F O : Type 0} where
  -- the cell with its Runnable in hand, where it waits
  abbrev pub in_hand : Cell F O → Cell F O
  in_hand c = record { task = c.task; register = advanced c.register kind.Take false false }

  pub take_is : (c : Cell F O) → Is c → is_waiting c.register.stage ≡ true → Is (in_hand c)
  take_is c i h = subst (λ x. Is (in_hand x)) (sym i.is) (at i.phase (ap (λ x. is_waiting x.register.stage) (sym i.is) ∙ h))
    where
      at : (ph : Phase F O) → is_waiting (stage_of ph) ≡ true → Is (in_hand (cell_at ph i.task i.wakers i.waiter (i.wakers + held (stage_of ph))))
      at (idle f) h = absurd (false≢true h)
      at (hand d f) h = absurd (false≢true h)
      at (wait d f) h = record { phase = hand d f; task = i.task; wakers = i.wakers; waiter = i.waiter; is = refl; allowed = tt; few = i.few }
      at (begun s d f) h = absurd (false≢true h)
      at (pending s d f) h = absurd (false≢true h)
      at (ready s d o) h = absurd (false≢true h)
      at (done o) h = absurd (false≢true h)
      at (over c) h = absurd (false≢true h)

  pub spawn_is : (f : F) → Is {O = O} (spawned f)
  spawn_is f = record { phase = hand false f; task = true; wakers = 0; waiter = None; is = refl; allowed = tt; few = omega arith }
