-- The law, from what every list of calls keeps.
use Rattle.std.proofs.Common.{◌≡◌, ℕ, ◌+◌, ◌<◌, ◌≤◌, Bool, true, false, cond, not, ◌&&◌, ◌||◌, eqb, ltb, ◌⊎◌, List, [], ◌∷◌, length, get_or, set, replicate, Some, None, Ok, Err, Option, Result, sym, refl, ap, ◌∙◌, subst, inl, inr, arith}
use Rattle.std.proofs.lemmas.Bool.Decides.{nat_tests}
use Rattle.std.proofs.lemmas.List.{get_or-set_other, length-replicate, get_or-replicate, get_or_past}
use Rattle.std.proofs.lemmas.Bool.{cases_lt, cond_both, eqb-false}
use Rattle.std.proofs.lemmas.List.Folds.{sum_by-replicate}
use Rattle.std.specs.List.Sorted.{IsPermutation}
use Rattle.polls.specs.Step.{Step}
use Rattle.schedule.specs.declared.Schedule.{Ghosts}
use Rattle.schedule.specs.Entries.{distinct, first}
use Rattle.schedule.specs.History.{times}
use Rattle.schedule.proofs.Times.{is_in_times}
use Rattle.bits.specs.Words.{still_open}
use Rattle.cell.specs.declared.call.Act.{Act}
use Rattle.cell.specs.declared.call.Call.{Call}
use Rattle.cell.specs.declared.call.Call.TheVariants.{Spawn, Take, At}
use Rattle.cell.specs.declared.report.Fault.{Fault}
use Rattle.cell.specs.declared.report.Report.{Report}
use Rattle.cell.specs.Keeps.{exists, held, Cell, word}
use Rattle.cell.specs.Acts.{acted}
use Rattle.cell.specs.declared.act.Move.{Move}
use Rattle.cell.specs.Events.{waits, to_run}
use Rattle.cell.proofs.Phases.{is_kept}
use Rattle.rack.specs.Racks.{After, Stepped, located, settled, spawn_into, act_on, hand_over, waiting_in, take_first, decided}
use Rattle.rack.specs.History.{Event, event, concerns, life, runnable, awake}
use Rattle.rack.specs.Law.{Ran, none, more, Alone, in_bay, standing_in, Law}
use Rattle.rack.proofs.Lives.{Fits, Meets, alive_is, runs_is}
use Rattle.rack.proofs.Kept.{standing_is, Kept, kept_more}

one_some : (t : Bool) → ltb 0 (cond t 1 0) ≡ t
one_some true = refl
one_some false = refl

-- an open bay that was woken is to run
woken_runs : (run opened woke : Bool) → (run || not (opened && woke)) ≡ true → opened ≡ true → woke ≡ true → run ≡ true
woken_runs run opened woke h p q = grind (arith, nat_tests)

module _ {F O S : Type 0} (step : F → ℕ → Step F O) (P : Ghosts S) where
  module _ (adds : (s : S) (b : ℕ) (m : Bool) → P.agrees s → IsPermutation (b ∷ P.entries s) (P.after s b m)) where
    ran_kept : (bays₀ : List (Option (Cell F O))) (s₀ : S) → Kept step P [] bays₀ s₀ → (h : List (Event F O)) (bays : List (Option (Cell F O))) (s : S) → Ran step P bays₀ s₀ h bays s → Kept step P h bays s
    ran_kept bays₀ s₀ k h bays s none = k
    ran_kept bays₀ s₀ k h bays s (more {h = h₁} {bays = bays₁} {s = s₁} c o ran y al) = kept_more step P adds h₁ bays₁ s₁ (ran_kept bays₀ s₀ k h₁ bays₁ s₁ ran) c o bays s y

    -- a rack after its opening
    opened_kept : (n : ℕ) (s : S) → 1 ≤ n → n ≤ 64 → n ≤ P.places s → P.entries s ≡ [] → P.agrees s → Kept step P [] (replicate {A = Option (Cell F O)} n None) s
    opened_kept n s some few room e agree = record {
      slots = λ k. subst (Meets step []) (sym (vacant k (cases_lt k n))) (record { gone = refl; spent = refl; repaid = refl });
      policy = λ k. ap (times k) e;
      agree = agree;
      some = rw long some;
      few = rw long few;
      room = rw long room;
      price = sym (ap (λ x. 0 + 0 + 0 + 0 + x) none_standing);
      reports = tt;
    }
      where
        long : length (replicate {A = Option (Cell F O)} n None) ≡ n
        long = length-replicate n None

        vacant : (k : ℕ) → (k < n) ⊎ (n ≤ k) → get_or (replicate {A = Option (Cell F O)} n None) k None ≡ None
        vacant k (inl l) = get_or-replicate n k None None l
        vacant k (inr g) = get_or_past (replicate {A = Option (Cell F O)} n None) k None (rw long g)

        none_standing : standing_in (replicate {A = Option (Cell F O)} n None) ≡ 0
        none_standing = standing_is (replicate n None) ∙ sum_by-replicate in_bay n None ∙ omega arith

  -- what is kept is the law
  law_of : ((s : S) → P.agrees s → distinct (P.entries s) ≡ true) → (h : List (Event F O)) (bays : List (Option (Cell F O))) (s : S) → Kept step P h bays s → Law step P h bays s
  law_of single h bays s kept = record {
    counts = λ k c e.
        (let f = fits k c e in
        let n = (is_kept c f.is).1 in
        let r : ◌≡◌ {A = ℕ} (cond ((word c).scheduled || (word c).running) 1 0) (held c.register.stage) = ap (λ t. cond t 1 0) (runs_is c f.is) in
        omega arith);
    runs = λ k c e. (let f = fits k c e in runs_is c f.is ∙ ap exists f.stage);
    waiting = λ k. is_in_times k (P.entries s) ∙ ap (ltb 0) (kept.policy k) ∙ one_some (waits (runnable (life k h)));
    once = single s kept.agree;
    woken = λ k c e. (let f = fits k c e in woken_runs (to_run (runnable (life k h)) (word c).scheduled) (still_open (word c)) (awake (life k h)) (subst (λ u. (to_run u (word c).scheduled || not (still_open (word c) && awake (life k h))) ≡ true) f.stage f.awakes));
    price = kept.price;
    contents = λ k c e. (fits k c e).holds;
    occupied = λ k. alive_is step (life k h) (get_or bays k None) (kept.slots k);
    reports = kept.reports;
  }
    where
      fits : (k : ℕ) (c : Cell F O) → get_or bays k None ≡ Some c → Fits step (life k h) c
      fits k c e = subst (Meets step (life k h)) e (kept.slots k)

  -- a bay that a call does not concern stays as it was
  module _ (bays : List (Option (Cell F O))) where
    abbrev Apart : Call F → After F O → Type 0
    Apart c x = (k : ℕ) → concerns k (event c x.outcome) ≡ false → get_or x.bays k None ≡ get_or bays k None

    others : (b : ℕ) (x : Option (Cell F O)) (k : ℕ) → eqb b k ≡ false → get_or (set bays b x) k None ≡ get_or bays k None
    others b x k q = get_or-set_other bays b k x None (λ e. eqb-false b k q (sym e))

    apart_settled : (es : List ℕ) (n b : ℕ) (a : Act) (m : Result (Move F O) Fault) → Apart (At b a) (settled es n bays b m)
    apart_settled es n b a (Err e) k q = refl
    apart_settled es n b a (Ok m) k q =
        cond_both _ _ _ (Apart (At b a)) (λ _ _ _. refl) (λ _ k q. others b m.bay k q) k q

    apart_at : (es : List ℕ) (n b : ℕ) (a : Act) (x : Result (Option (Cell F O)) Fault) → Apart (At b a) (act_on step es n bays b a x)
    apart_at es n b a (Err e) k q = refl
    apart_at es n b a (Ok None) k q = refl
    apart_at es n b a (Ok (Some c)) k q = apart_settled es n b a (acted step c a) k q

    apart_spawn : (b : ℕ) (f : F) (x : Result (Option (Cell F O)) Fault) → Apart (Spawn b f) (spawn_into bays b f x)
    apart_spawn b f (Err e) k q = refl
    apart_spawn b f (Ok (Some c)) k q = refl
    apart_spawn b f (Ok None) k q = others b _ k q

    apart_over : (b : ℕ) (x : Option (Cell F O)) → Apart Take (hand_over bays b x)
    apart_over b None k q = refl
    apart_over b (Some c) k q = others b (Some c) k q

    apart_first : (x : Option ℕ) → Apart Take (take_first bays x)
    apart_first None k q = refl
    apart_first (Some b) k q = apart_over b (waiting_in (get_or bays b None)) k q

    apart : (es : List ℕ) (n : ℕ) (c : Call F) → Apart c (decided step es n bays c)
    apart es n (Spawn b f) k q = apart_spawn b f (located bays b) k q
    apart es n Take k q =
        cond_both _ _ _ (Apart Take) (λ _ _ _. refl) (λ _. apart_first (first es)) k q
    apart es n (At b a) k q = apart_at es n b a (located bays b) k q

  pub alone : (bays : List (Option (Cell F O))) (s : S) (c : Call F) (o : Result (Report O) Fault) (bays' : List (Option (Cell F O))) (s' : S) → Stepped step P bays s c o bays' s' → Alone (event c o) bays bays'
  alone bays s c o bays' s' y k q =
      ap (λ x. get_or x k None) y.bays ∙ apart bays (P.entries s) (P.places s) c k (sym (ap (λ (x : Result (Report O) Fault). concerns k (event c x)) y.outcome) ∙ q)

  -- the law of a rack that was opened and called
  pub law : ((s : S) (b : ℕ) (m : Bool) → P.agrees s → IsPermutation (b ∷ P.entries s) (P.after s b m)) → ((s : S) → P.agrees s → distinct (P.entries s) ≡ true)
      → (n : ℕ) (s₀ : S) → 1 ≤ n → n ≤ 64 → n ≤ P.places s₀ → P.entries s₀ ≡ [] → P.agrees s₀
      → (h : List (Event F O)) (bays : List (Option (Cell F O))) (s : S) → Ran step P (replicate n None) s₀ h bays s → Law step P h bays s
  law adds single n s₀ some few room e agree h bays s ran = law_of single h bays s (ran_kept adds (replicate n None) s₀ (opened_kept adds n s₀ some few room e agree) h bays s ran)
