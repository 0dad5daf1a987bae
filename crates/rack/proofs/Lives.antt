-- A cell and the life of its bay go together.
use Rattle.std.proofs.Common.{◌≡◌, ℕ, ◌+◌, Bool, true, false, cond, not, ◌&&◌, ◌||◌, eqb, ltb, ◌⊎◌, List, [], ◌∷◌, ◌++◌, is_some, Some, None, Ok, Option, sym, refl, ap, ◌∙◌, subst, inl, inr, arith}
use Rattle.std.proofs.lemmas.Bool.{lt-ltb, le-ltb, cond-true, and_cases, not-false, eqb-false, or_left, or_right, or_from}
use Rattle.polls.specs.Step.{Step, pends, gives}
use Rattle.polls.specs.Through.{Through, through, standing, finished, poll_on}
use Rattle.polls.specs.Through as run
use Rattle.polls.proofs.Through.{polls_push}
use Rattle.cell.specs.declared.call.Kind.TheVariants as kind
use Rattle.cell.specs.declared.call.Act.{Act}
use Rattle.cell.specs.declared.call.Call.TheVariants.{Spawn, Take, At}
use Rattle.cell.specs.declared.register.Stage.{Stage}
use Rattle.cell.specs.declared.register.Stage.TheVariants.{Gone, InHand, Waiting, Begun, Polled}
use Rattle.cell.specs.declared.report.Report.{Report}
use Rattle.cell.specs.declared.raw.Content.{Content}
use Rattle.cell.specs.Cells.{unheld}
use Rattle.cell.specs.Keeps.{exists, held, runs, Cell, word}
use Rattle.cell.specs.Acts.{spawned, is_waiting}
use Rattle.cell.specs.Events.{is, is_pending, word_of, polled_with, asked_after, whereabouts, task_after, to_run}
use Rattle.cell.proofs.Phases.{Phase, idle, hand, wait, begun, pending, ready, done, over, stage_of, scheduled_in, Is, is_kept}
use Rattle.cell.proofs.Rows.{Follows, after_step, alert, Goes, Ends}
use Rattle.cell.proofs.Doing.{in_hand, take_is, spawn_is}
use Rattle.rack.specs.History.{Event, event, runnable, handed_out, taken_back, task_out, alive, future_of, and_word, words, awake, asked}
use Rattle.rack.specs.Law.{CameOf}

-- the flags of a cell that tell of its handles
module _ {F O : Type 0} where
  pub task_is : (c : Cell F O) → Is c → (word c).task ≡ c.register.task
  task_is c i = ap (λ x. (word x).task) i.is ∙ sym (ap (λ x. x.register.task) i.is)

  pub runs_is : (c : Cell F O) → Is c → ((word c).scheduled || (word c).running) ≡ exists c.register.stage
  runs_is c i = ap (λ x. (word x).scheduled || (word x).running) i.is ∙ at i.phase ∙ sym (ap (λ x. exists x.register.stage) i.is)
    where
      at : (ph : Phase F O) → (scheduled_in ph || runs (stage_of ph)) ≡ exists (stage_of ph)
      at (idle f) = refl
      at (hand d f) = refl
      at (wait d f) = refl
      at (begun s d f) = or_right s _ refl
      at (pending s d f) = or_right s _ refl
      at (ready s d o) = or_right s _ refl
      at (done o) = refl
      at (over c) = refl

module _ {F O : Type 0} (step : F → ℕ → Step F O) where
  -- the cell of an occupied bay, by the bay's life
  pub record Fits (l : List (Event F O)) (c : Cell F O) : Type 0 where
    pub is : Is c
    pub stage : c.register.stage ≡ runnable l
    pub task : c.register.task ≡ task_out l
    pub wakers : c.register.wakers + taken_back l ≡ handed_out l
    pub live : unheld (word c) ≡ false
    pub holds : (f : F) × (future_of l ≡ Some f) × CameOf step f (words l) c.task.content
    pub waiter : (c.task.header.awaiter ≡ None) ⊎ (c.task.header.awaiter ≡ asked l)
    pub awakes : alert (awake l) c ≡ true

  -- one poll more, or none
  came_after : (f : F) (ws : List ℕ) (p : Option ℕ) (x x' : Content F O) → CameOf step f ws x → Follows step p x x' → CameOf step f (and_word p ws) x'
  came_after f ws None x x' h (inl e) = subst (CameOf step f ws) (sym e) h
  came_after f ws None x x' h (inr e) = subst (CameOf step f ws) (sym e) tt
  came_after f ws (Some w) x x' h y =
      let stood : through step f ws ≡ standing y.0 = subst (CameOf step f ws) y.1 h in
      subst (CameOf step f (ws ++ w ∷ [])) (sym y.2) (by (step y.0 w) (polls_push step (standing f) ws w ∙ ap (λ t. poll_on step t w) stood))
    where
      by : (s : Step F O) → through step f (ws ++ w ∷ []) ≡ run.after_step s → CameOf step f (ws ++ w ∷ []) (after_step s)
      by (pends g) q = q
      by (gives o) q = q

  -- the waiter, where one more call was made
  still_asked : (a : Act) (r : Report O) (w w' v : Option ℕ) → (w ≡ None) ⊎ (w ≡ v) → (w' ≡ None) ⊎ (w' ≡ asked_after a r w) → (w' ≡ None) ⊎ (w' ≡ asked_after a r v)
  still_asked a r w w' v x (inl e) = inl e
  still_asked a r w w' v (inr q) (inr e) = inr (e ∙ ap (asked_after a r) q)
  still_asked a r w w' v (inl q) (inr e) = by_test (is kind.PollTask a && is_pending r.answer) (is_some r.woken) (Some (word_of a)) (e ∙ ap (asked_after a r) q)
    where
      by_test : (x y : Bool) (u : Option ℕ) → w' ≡ cond x u (cond y None None) → (w' ≡ None) ⊎ (w' ≡ cond x u (cond y None v))
      by_test true y u e = inr e
      by_test false true u e = inl e
      by_test false false u e = inl e

  -- a call that leaves the bay occupied
  pub fits_on : (b : ℕ) (a : Act) (l : List (Event F O)) (c c' : Cell F O) (r : Report O) → Fits l c → Goes step a c c' r → Fits (event (At b a) (Ok r) ∷ l) c'
  fits_on b a l c c' r f g =
      record {
        is = g.is;
        stage = g.stage ∙ ap (whereabouts a r) f.stage;
        task = g.task ∙ ap (task_after a) f.task;
        wakers = omega arith;
        live = g.live f.live;
        holds = (f.holds.0, f.holds.1, came_after f.holds.0 (words l) (polled_with a) c.task.content c'.task.content f.holds.2 g.content);
        waiter = still_asked a r c.task.header.awaiter c'.task.header.awaiter (asked l) f.waiter g.waiter;
        awakes = g.woken (awake l) f.awakes;
      }

  -- a vacant bay, by its life
  pub record Empties (l : List (Event F O)) : Type 0 where
    pub gone : runnable l ≡ Gone
    pub spent : task_out l ≡ false
    pub repaid : taken_back l ≡ handed_out l

  abbrev pub Meets : List (Event F O) → Option (Cell F O) → Type 0
  Meets l None = Empties l
  Meets l (Some c) = Fits l c

  -- a call that clears the bay
  pub empties_on : (b : ℕ) (a : Act) (l : List (Event F O)) (c : Cell F O) (r : Report O) → Fits l c → Ends a c r → Empties (event (At b a) (Ok r) ∷ l)
  empties_on b a l c r f g =
      record { gone = ap (whereabouts a r) (sym f.stage) ∙ g.stage; spent = ap (task_after a) (sym f.task) ∙ g.task; repaid = omega arith }

  -- a spawn
  pub fits_spawn : (b : ℕ) (f : F) (r : Report O) → Fits (event (Spawn b f) (Ok r) ∷ []) (spawned f)
  fits_spawn b f r = record {
    is = spawn_is f;
    stage = refl;
    task = refl;
    wakers = refl;
    live = refl;
    holds = (f, refl, refl);
    waiter = inl refl;
    awakes = refl;
  }

  -- a take that finds the bay
  pub fits_take : (l : List (Event F O)) (c : Cell F O) (r : Report O) → Fits l c → is_waiting c.register.stage ≡ true → Fits (event Take (Ok r) ∷ l) (in_hand c)
  fits_take l c r f h =
      let e : (in_hand c).register.stage ≡ InHand = cond-true _ _ _ h in
      record {
        is = take_is c f.is h;
        stage = e;
        task = f.task;
        wakers = omega arith;
        live = f.live;
        holds = f.holds;
        waiter = f.waiter;
        awakes = or_left _ _ (ap (λ s. to_run s (word c).scheduled) e);
      }

  -- a bay is occupied exactly if something of it is out
  pub alive_is : (l : List (Event F O)) (x : Option (Cell F O)) → Meets l x → is_some x ≡ alive l
  alive_is l None m = sym (or_from _ _ m.spent (or_from _ _ (ap exists m.gone) (le-ltb (taken_back l) (handed_out l) (let e = m.repaid in omega arith))))
  alive_is l (Some c) m = sym (elim (and_cases (eqb (word c).count 0) (not (word c).task) m.live) [
    | inl e ↦ or_right (task_out l) _ (some_out c.register.stage m.stage (counted e))
    | inr e ↦ or_left _ _ (sym m.task ∙ sym (task_is c m.is) ∙ not-false _ e)
  ])
    where
      counted : eqb (word c).count 0 ≡ false → (c.register.wakers + held c.register.stage ≡ 0 → ⊥)
      counted e z = eqb-false (word c).count 0 e ((is_kept c m.is).1 ∙ z)

      some_out : (s : Stage) → s ≡ runnable l → (c.register.wakers + held s ≡ 0 → ⊥) → (exists (runnable l) || ltb (taken_back l) (handed_out l)) ≡ true
      some_out Gone e z = or_right (exists (runnable l)) _ (lt-ltb (taken_back l) (handed_out l) (omega arith))
      some_out InHand e z = or_left _ _ (ap exists (sym e))
      some_out Waiting e z = or_left _ _ (ap exists (sym e))
      some_out Begun e z = or_left _ _ (ap exists (sym e))
      some_out Polled e z = or_left _ _ (ap exists (sym e))
