-- What every list of calls keeps: the bays in step with their lives, the policy with the bays that wait, and the price list.
use Rattle.std.proofs.Common.{◌≡◌, ℕ, ◌+◌, ◌<◌, ◌≤◌, Bool, true, false, cond, not, ◌&&◌, ◌||◌, leb, ◌⊎◌, List, [], ◌∷◌, length, get_or, drop, set, is_some, Some, None, Ok, Err, Option, Result, sym, refl, ap, ◌∙◌, subst, inl, inr, arith}
use Rattle.std.proofs.lemmas.List.{get_or-set_same, get_or-set_other, length-set, get_or_past}
use Rattle.std.proofs.lemmas.Bool.{cases_eq, cases_lt, cond_both, cond-true, cond-false, eq-eqb, ne_eqb, lt-ltb, le-ltb, leb-false, and_from, and_left, and_right, not_from_true, not_from_false, or_from, false≢true, true≢false}
use Rattle.std.proofs.Math.Bool.{and-not_self}
use Rattle.std.proofs.lemmas.List.Recursion.{is_sum_by}
use Rattle.std.proofs.lemmas.List.Sums.{sum_by-set}
use Rattle.std.proofs.lemmas.Option.{none-some}
use Rattle.std.specs.List.{sum_by}
use Rattle.std.specs.List.Sorted.{IsPermutation}
use Rattle.polls.specs.Step.{Step}
use Rattle.polls.specs.Through.{through, standing, finished}
use Rattle.schedule.specs.declared.Schedule.{Ghosts}
use Rattle.schedule.specs.Entries.{first, accepts}
use Rattle.schedule.specs.History.{times}
use Rattle.schedule.proofs.Times.{times_own, times_other, times_shuffled, is_in_times}
use Rattle.cell.specs.declared.call.Act.{Act}
use Rattle.cell.specs.declared.call.Call.{Call}
use Rattle.cell.specs.declared.call.Call.TheVariants.{Spawn, Take, At}
use Rattle.cell.specs.declared.register.Stage.{Stage}
use Rattle.cell.specs.declared.register.Stage.TheVariants.{Gone, InHand, Waiting, Begun, Polled}
use Rattle.cell.specs.declared.report.Answer.TheVariants as answer
use Rattle.cell.specs.declared.report.Fault.{Fault}
use Rattle.cell.specs.declared.report.Fault.TheVariants as fault
use Rattle.cell.specs.declared.report.Report.{Report}
use Rattle.cell.specs.declared.raw.Content.TheVariants.{Output}
use Rattle.cell.specs.Steps.{says}
use Rattle.cell.specs.Acts.{spawned, is_waiting}
use Rattle.cell.specs.Keeps.{Cell}
use Rattle.cell.specs.declared.act.Move.{Move}
use Rattle.cell.specs.Events.{not_for_policy, waits, delivers, polled_with}
use Rattle.cell.proofs.Rows.{Goes, Ends, Does, denied, goes, ends, Follows, HandsOver}
use Rattle.cell.proofs.Doing.{does, in_hand}
use Rattle.rack.specs.Racks.{After, Shifted, Stepped, shifted, crowded, located, refusal, settled, spawn_into, act_on, hand_over, waiting_in, take_first, decided}
use Rattle.rack.specs.History.{Event, event, acted_on, names, concerns, is_spawn, life, runnable, alive, future_of, poll_word, words, asked, total}
use Rattle.rack.specs.Law.{TrueEvent, Each, taken_in, deliveries, discards, drops, losses, in_bay, standing_in, CameOf}
use Rattle.rack.proofs.Lives.{Fits, Empties, Meets, fits_on, empties_on, fits_spawn, fits_take, alive_is}
use Rattle.rack.proofs.Pigeon.{pigeon}

abbrev one : Bool → ℕ
one t = cond t 1 0

one_le : (t : Bool) → one t ≤ 1
one_le true = omega arith
one_le false = omega arith

module _ {F O : Type 0} where
  -- the life of a bay, one event later
  life_other : (k : ℕ) (e : Event F O) (h : List (Event F O)) → concerns k e ≡ false → life k (e ∷ h) ≡ life k h
  life_other k e h q = cond-false _ _ _ q

  life_own : (k : ℕ) (e : Event F O) (h : List (Event F O)) → concerns k e ≡ true → life k (e ∷ h) ≡ e ∷ cond (is_spawn e) [] (life k h)
  life_own k e h q = cond-true _ _ _ q

  -- what stands in the bays is a sum over them
  pub standing_is : (bays : List (Option (Cell F O))) → standing_in bays ≡ sum_by in_bay bays
  standing_is bays = is_sum_by standing_in in_bay refl (λ _ _. refl) bays

  standing_set : (bays : List (Option (Cell F O))) (b : ℕ) (x : Option (Cell F O)) → b < length bays → standing_in (set bays b x) + in_bay (get_or bays b None) ≡ standing_in bays + in_bay x
  standing_set bays b x l = let was = standing_is bays in let now = standing_is (set bays b x) in let p = sum_by-set in_bay bays b x None l in omega arith

module _ {F O S : Type 0} (step : F → ℕ → Step F O) (P : Ghosts S) where
  -- the price list after a history and with these bays
  abbrev Balanced : List (Event F O) → List (Option (Cell F O)) → Type 0
  Balanced h bays = total taken_in h ≡ total deliveries h + total discards h + total drops h + total losses h + standing_in bays

  pub record Kept (h : List (Event F O)) (bays : List (Option (Cell F O))) (s : S) : Type 0 where
    pub slots : (k : ℕ) → Meets step (life k h) (get_or bays k None)
    pub policy : (k : ℕ) → times k (P.entries s) ≡ one (waits (runnable (life k h)))
    pub agree : P.agrees s
    pub some : 1 ≤ length bays
    pub few : length bays ≤ 64
    pub room : length bays ≤ P.places s
    pub price : Balanced h bays
    pub reports : Each (TrueEvent step) h

  -- a refusal that is none for the policy's sake keeps all
  kept_refused : (h : List (Event F O)) (bays : List (Option (Cell F O))) (s : S) (c : Call F) (e : Fault) → not_for_policy e ≡ true → Kept h bays s → Kept (event c (Err e) ∷ h) bays s
  kept_refused h bays s c e q k = record {
    slots = k.slots;
    policy = k.policy;
    agree = k.agree;
    some = k.some;
    few = k.few;
    room = k.room;
    price = unpriced c k.price;
    reports = (q, k.reports);
  }
    where
      unpriced : (c : Call F) → Balanced h bays → Balanced (event c (Err e) ∷ h) bays
      unpriced (Spawn b f) p = omega arith
      unpriced Take p = omega arith
      unpriced (At b a) p = omega arith

  -- What a call that acts on the bay b tells is true, if it is true of the life of that bay.
  record Tells (l : List (Event F O)) (c : Call F) (r : Report O) : Type 0 where
    told : (w : ℕ) → r.woken ≡ Some w → asked l ≡ Some w
    delivered : (o : O) → delivers r.answer ≡ Some o → (f : F) × (future_of l ≡ Some f) × (through step f (words l) ≡ finished o)
    polled : (w : ℕ) → poll_word c ≡ Some w → (f g : F) × (future_of l ≡ Some f) × (through step f (words l) ≡ standing g)

  -- a call that changes the bay b, and no other
  kept_changed : (h : List (Event F O)) (bays : List (Option (Cell F O))) (s s' : S) (c : Call F) (r : Report O) (b : ℕ) (x : Option (Cell F O))
      → Kept h bays s → b < length bays → acted_on c r ≡ Some b → Meets step (life b (event c (Ok r) ∷ h)) x
      → ((k : ℕ) → times k (P.entries s') ≡ one (waits (runnable (life k (event c (Ok r) ∷ h))))) → P.agrees s' → P.places s' ≡ P.places s
      → taken_in (event c (Ok r)) + in_bay (get_or bays b None) ≡ deliveries (event c (Ok r)) + discards (event c (Ok r)) + drops (event c (Ok r)) + losses (event c (Ok r)) + in_bay x
      → Tells (life b h) c r → r.cleared ≡ (is_some (get_or bays b None) && not (is_some x))
      → Kept (event c (Ok r) ∷ h) (set bays b x) s'
  kept_changed h bays s s' c r b x k l on meets policy agree places balance tells clear = record {
    slots = λ j. slot j (cases_eq j b);
    policy = policy;
    agree = agree;
    some = subst (λ m. 1 ≤ m) (sym (length-set bays b x)) k.some;
    few = subst (λ m. m ≤ 64) (sym (length-set bays b x)) k.few;
    room = subst (λ m. m ≤ P.places s') (sym (length-set bays b x)) (subst (λ n. length bays ≤ n) (sym places) k.room);
    price = (let q = standing_set bays b x l in omega arith);
    reports = (
      record {
        told = λ j w q. subst (λ i. r.woken ≡ Some w → asked (life i h) ≡ Some w) (same j q) (tells.told w);
        delivered = λ j o q. subst (λ i. delivers r.answer ≡ Some o → (f : F) × (future_of (life i h) ≡ Some f) × (through step f (words (life i h)) ≡ finished o)) (same j q) (tells.delivered o);
        polled = λ j w q. subst (λ i. poll_word c ≡ Some w → (f g : F) × (future_of (life i h) ≡ Some f) × (through step f (words (life i h)) ≡ standing g)) (same j q) (tells.polled w);
        cleared = λ j. cleared j (cases_eq j b);
      },
      k.reports,
    );
  }
    where
      same : (j : ℕ) → acted_on c r ≡ Some j → b ≡ j
      same j q = let z : Some b ≡ Some j = sym on ∙ q in cc

      mine : concerns b (event c (Ok r)) ≡ true
      mine = ap (names b) on ∙ eq-eqb b b refl

      aside : (j : ℕ) → (j ≡ b → ⊥) → concerns j (event c (Ok r)) ≡ false
      aside j d = ap (names j) on ∙ ne_eqb b j (λ e. d (sym e))

      slot : (j : ℕ) → (j ≡ b) ⊎ (j ≡ b → ⊥) → Meets step (life j (event c (Ok r) ∷ h)) (get_or (set bays b x) j None)
      slot j (inl e) =
          subst (λ i. Meets step (life i (event c (Ok r) ∷ h)) (get_or (set bays b x) i None)) (sym e)
          (subst (Meets step (life b (event c (Ok r) ∷ h))) (sym (get_or-set_same bays b x None l)) meets)
      slot j (inr d) =
          subst (λ y. Meets step (life j (event c (Ok r) ∷ h)) y) (sym (get_or-set_other bays b j x None d))
          (subst (λ m. Meets step m (get_or bays j None)) (sym (life_other j (event c (Ok r)) h (aside j d))) (k.slots j))

      cleared : (j : ℕ) → (j ≡ b) ⊎ (j ≡ b → ⊥) → (names j (acted_on c r) && r.cleared) ≡ (alive (life j h) && not (alive (life j (event c (Ok r) ∷ h))))
      cleared j (inl e) =
          let y = alive_is step (life b h) (get_or bays b None) (k.slots b) in
          let z = alive_is step (life b (event c (Ok r) ∷ h)) x meets in
          subst (λ i. (names i (acted_on c r) && r.cleared) ≡ (alive (life i h) && not (alive (life i (event c (Ok r) ∷ h))))) (sym e)
          (ap (λ t. t && r.cleared) mine ∙ clear ∙ ap (λ t. t && not (is_some x)) y ∙ ap (λ t. alive (life b h) && not t) z)
      cleared j (inr d) =
          ap (λ t. t && r.cleared) (aside j d) ∙ sym (and-not_self (alive (life j h)))
          ∙ ap (λ m. alive (life j h) && not (alive m)) (sym (life_other j (event c (Ok r)) h (aside j d)))

  -- What the report of a call on a cell tells, by the life of its bay.
  abbrev Told : List (Event F O) → Option ℕ → Type 0
  Told l v = (w : ℕ) → v ≡ Some w → asked l ≡ Some w

  told_by : (l : List (Event F O)) (v w : Option ℕ) → (v ≡ None) ⊎ (v ≡ w) → (w ≡ None) ⊎ (w ≡ asked l) → Told l v
  told_by l v w (inl e) q x z = absurd (none-some x (sym e ∙ z))
  told_by l v w (inr e) (inl q) x z = absurd (none-some x (sym q ∙ sym e ∙ z))
  told_by l v w (inr e) (inr q) x z = sym q ∙ sym e ∙ z

  abbrev Handed : List (Event F O) → Option O → Type 0
  Handed l v = (o : O) → v ≡ Some o → (f : F) × (future_of l ≡ Some f) × (through step f (words l) ≡ finished o)

  handed_by : (l : List (Event F O)) (c : Cell F O) (v : Option O) → Fits step l c → HandsOver v c.task.content → Handed l v
  handed_by l c v f h o q =
      let there : c.task.content ≡ Output o = subst (λ y. HandsOver y c.task.content) q h in
      (f.holds.0, f.holds.1, subst (CameOf step f.holds.0 (words l)) there f.holds.2)

  polled_by : (l : List (Event F O)) (c c' : Cell F O) (p : Option ℕ) → Fits step l c → Follows step p c.task.content c'.task.content
      → (w : ℕ) → p ≡ Some w → (f g : F) × (future_of l ≡ Some f) × (through step f (words l) ≡ standing g)
  polled_by l c c' p f y w q =
      let z = subst (λ o. Follows step o c.task.content c'.task.content) q y in
      (f.holds.0, z.0, f.holds.1, subst (CameOf step f.holds.0 (words l)) z.1 f.holds.2)

  goes_tells : (b : ℕ) (a : Act) (l : List (Event F O)) (c c' : Cell F O) (r : Report O) → Fits step l c → Goes step a c c' r → Tells l (At b a) r
  goes_tells b a l c c' r f g = record {
    told = told_by l r.woken c.task.header.awaiter g.told f.waiter;
    delivered = handed_by l c (delivers r.answer) f g.hands;
    polled = polled_by l c c' (polled_with a) f g.content;
  }

  ends_tells : (b : ℕ) (a : Act) (l : List (Event F O)) (c : Cell F O) (r : Report O) → Fits step l c → Ends a c r → Tells l (At b a) r
  ends_tells b a l c r f g = record {
    told = told_by l r.woken c.task.header.awaiter g.told f.waiter;
    delivered = handed_by l c (delivers r.answer) f g.hands;
    polled = λ w q. absurd (none-some w (sym g.unpolled ∙ q));
  }

  -- the policy, where nothing is put or taken, where the bay is put, and where it is taken
  module _ (h : List (Event F O)) (bays : List (Option (Cell F O))) (s : S) (c : Call F) (r : Report O) (b : ℕ) (kept : Kept h bays s) (on : acted_on c r ≡ Some b) where
    elsewhere : (k : ℕ) → (k ≡ b → ⊥) → runnable (life k (event c (Ok r) ∷ h)) ≡ runnable (life k h)
    elsewhere k d = ap runnable (life_other k (event c (Ok r)) h (ap (names k) on ∙ ne_eqb b k (λ e. d (sym e))))

    policy_same : waits (runnable (life b (event c (Ok r) ∷ h))) ≡ waits (runnable (life b h)) → (k : ℕ) → times k (P.entries s) ≡ one (waits (runnable (life k (event c (Ok r) ∷ h))))
    policy_same w k = kept.policy k ∙ ap one (go (cases_eq k b))
      where
        go : (k ≡ b) ⊎ (k ≡ b → ⊥) → waits (runnable (life k h)) ≡ waits (runnable (life k (event c (Ok r) ∷ h)))
        go (inl e) = subst (λ i. waits (runnable (life i h)) ≡ waits (runnable (life i (event c (Ok r) ∷ h)))) (sym e) (sym w)
        go (inr d) = ap waits (sym (elsewhere k d))

    policy_put : (es' : List ℕ) → IsPermutation (b ∷ P.entries s) es' → waits (runnable (life b h)) ≡ false → waits (runnable (life b (event c (Ok r) ∷ h))) ≡ true
        → (k : ℕ) → times k es' ≡ one (waits (runnable (life k (event c (Ok r) ∷ h))))
    policy_put es' p was now k = times_shuffled k (b ∷ P.entries s) es' p ∙ go (cases_eq k b)
      where
        go : (k ≡ b) ⊎ (k ≡ b → ⊥) → times k (b ∷ P.entries s) ≡ one (waits (runnable (life k (event c (Ok r) ∷ h))))
        go (inl e) =
            let here : times b (b ∷ P.entries s) ≡ one (waits (runnable (life b (event c (Ok r) ∷ h)))) =
            (let x = times_own b (P.entries s) in let z = kept.policy b ∙ ap one was in let t = ap one now in omega arith) in
            subst (λ i. times i (b ∷ P.entries s) ≡ one (waits (runnable (life i (event c (Ok r) ∷ h))))) (sym e) here
        go (inr d) =
            let x = times_other k b (P.entries s) d in
            let z = kept.policy k in
            let t = ap (λ u. one (waits u)) (elsewhere k d) in
            omega arith

    policy_take : (es' : List ℕ) → P.entries s ≡ b ∷ es' → waits (runnable (life b (event c (Ok r) ∷ h))) ≡ false → (k : ℕ) → times k es' ≡ one (waits (runnable (life k (event c (Ok r) ∷ h))))
    policy_take es' p now k = go (cases_eq k b)
      where
        go : (k ≡ b) ⊎ (k ≡ b → ⊥) → times k es' ≡ one (waits (runnable (life k (event c (Ok r) ∷ h))))
        go (inl e) =
            let here : times b es' ≡ one (waits (runnable (life b (event c (Ok r) ∷ h)))) =
            (let w = ap (times b) p in let x = times_own b es' in let z = kept.policy b in let u = one_le (waits (runnable (life b h))) in let t = ap one now in omega arith) in
            subst (λ i. times i es' ≡ one (waits (runnable (life i (event c (Ok r) ∷ h))))) (sym e) here
        go (inr d) =
            let w = ap (times k) p in
            let x = times_other k b es' d in
            let z = kept.policy k in
            let t = ap (λ u. one (waits u)) (elsewhere k d) in
            omega arith

  -- past the bays no Runnable waits
  past_gone : (h : List (Event F O)) (bays : List (Option (Cell F O))) (s : S) (k : ℕ) → Kept h bays s → length bays ≤ k → runnable (life k h) ≡ Gone
  past_gone h bays s k kept l = let m : Empties step (life k h) = subst (Meets step (life k h)) (get_or_past bays k None l) (kept.slots k) in m.gone

  -- a bay that does not wait can be put
  free : (h : List (Event F O)) (bays : List (Option (Cell F O))) (s : S) (b : ℕ) → Kept h bays s → b < length bays → waits (runnable (life b h)) ≡ false → accepts b (P.entries s) (P.places s) ≡ true
  free h bays s b kept l w =
      let z : times b (P.entries s) ≡ 0 = kept.policy b ∙ ap one w in
      let p = pigeon (P.entries s) (length bays) b (λ k. let x = kept.policy k in let y = one_le (waits (runnable (life k h))) in omega arith)
      (λ k g. kept.policy k ∙ ap (λ u. one (waits u)) (past_gone h bays s k kept g)) z l in
      and_from _ _ (lt-ltb b 64 (omega arith))
      (and_from _ _ (not_from_false _ (is_in_times b (P.entries s) ∙ le-ltb 0 (times b (P.entries s)) (omega arith))) (lt-ltb (length (P.entries s)) (P.places s) (omega arith)))

  -- what is left to show of a call: that what it leaves is kept
  abbrev Keeps : List (Event F O) → List (Option (Cell F O)) → S → Call F → After F O → Type 0
  Keeps h bays s c x = (s' : S) → Shifted P x.shift s s' → Kept (event c x.outcome ∷ h) x.bays s'

  keeps_refused : (h : List (Event F O)) (bays : List (Option (Cell F O))) (s : S) (c : Call F) (e : Fault) → not_for_policy e ≡ true → Kept h bays s → Keeps h bays s c (refusal bays e)
  keeps_refused h bays s c e q kept s' z = subst (Kept (event c (Err e) ∷ h) bays) (sym z) (kept_refused h bays s c e q kept)

  module _ (adds : (s : S) (b : ℕ) (m : Bool) → P.agrees s → IsPermutation (b ∷ P.entries s) (P.after s b m))
      (h : List (Event F O)) (bays : List (Option (Cell F O))) (s : S) (kept : Kept h bays s) where
    -- a call on the cell of the bay b
    module _ (b : ℕ) (a : Act) (c : Cell F O) (l : b < length bays) (there : get_or bays b None ≡ Some c) (fits : Fits step (life b h) c) where
      own : (r : Report O) → life b (event (At b a) (Ok r) ∷ h) ≡ event (At b a) (Ok r) ∷ life b h
      own r = life_own b (event (At b a) (Ok r)) h (eq-eqb b b refl)

      -- the bay stays occupied
      module _ (c' : Cell F O) (r : Report O) (g : Goes step a c c' r) where
        fits_now : Fits step (event (At b a) (Ok r) ∷ life b h) c'
        fits_now = fits_on step b a (life b h) c c' r fits g

        waits_now : waits (runnable (life b (event (At b a) (Ok r) ∷ h))) ≡ (is_some r.put || waits c.register.stage)
        waits_now = ap (λ m. waits (runnable m)) (own r) ∙ ap waits (sym fits_now.stage) ∙ g.waiting

        stays_kept : (s' : S) → ((k : ℕ) → times k (P.entries s') ≡ one (waits (runnable (life k (event (At b a) (Ok r) ∷ h))))) → P.agrees s' → P.places s' ≡ P.places s
            → Kept (event (At b a) (Ok r) ∷ h) (set bays b (Some c')) s'
        stays_kept s' policy agree places =
            kept_changed h bays s s' (At b a) r b (Some c') kept l refl (subst (λ m. Meets step m (Some c')) (sym (own r)) fits_now) policy agree places
            (let x = ap in_bay there in omega arith) (goes_tells b a (life b h) c c' r fits g)
            (g.stays ∙ sym (ap (λ o. is_some o && false) there))

        by_put : (p : Option Bool) → r.put ≡ p → (s' : S) → Shifted P (shifted b p) s s' → Kept (event (At b a) (Ok r) ∷ h) (set bays b (Some c')) s'
        by_put None e s' z =
            subst (Kept (event (At b a) (Ok r) ∷ h) (set bays b (Some c'))) (sym z)
            (stays_kept s (policy_same h bays s (At b a) r b kept refl (waits_now ∙ ap (λ o. is_some o || waits c.register.stage) e ∙ ap waits fits.stage)) kept.agree refl)
        by_put (Some mark) e s' z =
            stays_kept s'
            (policy_put h bays s (At b a) r b kept refl (P.entries s') (subst (IsPermutation (b ∷ P.entries s)) (sym z.0) (adds s b mark kept.agree))
            (ap waits (sym fits.stage) ∙ sym (ap (λ o. is_some o && waits c.register.stage) e) ∙ g.put_once)
            (waits_now ∙ ap (λ o. is_some o || waits c.register.stage) e))
            (z.2 kept.agree) z.1

        unrefused : (p : Option Bool) → r.put ≡ p → (is_some r.put && not (accepts b (P.entries s) (P.places s))) ≡ false
        unrefused None e = and_left _ _ (ap is_some e)
        unrefused (Some mark) e =
            and_right _ _ (not_from_true _ (free h bays s b kept l (ap waits (sym fits.stage) ∙ sym (ap (λ o. is_some o && waits c.register.stage) e) ∙ g.put_once)))

      keeps_settled : {m : Result (Move F O) Fault} → Does step a c m → Keeps h bays s (At b a) (settled (P.entries s) (P.places s) bays b m)
      keeps_settled (denied e q) = keeps_refused h bays s (At b a) e q kept
      keeps_settled (goes c' r g) =
          subst (Keeps h bays s (At b a)) (sym (cond-false _ _ _ (unrefused c' r g r.put refl))) (λ s' z. by_put c' r g r.put refl s' z)
      keeps_settled (ends r g) =
          subst (Keeps h bays s (At b a)) (sym (cond-false _ _ _ (and_left _ _ g.unput))) (λ s' z. subst (Kept (event (At b a) (Ok r) ∷ h) (set bays b None)) (sym (unshifted r.put g.unput s' z)) vacated)
        where
          unshifted : (p : Option Bool) → is_some p ≡ false → (s' : S) → Shifted P (shifted b p) s s' → s' ≡ s
          unshifted None e s' z = z
          unshifted (Some mark) e s' z = absurd (true≢false e)

          empties : Empties step (event (At b a) (Ok r) ∷ life b h)
          empties = empties_on step b a (life b h) c r fits g

          vacated : Kept (event (At b a) (Ok r) ∷ h) (set bays b None) s
          vacated =
              kept_changed h bays s s (At b a) r b None kept l refl (subst (λ m. Meets step m None) (sym (own r)) empties)
              (policy_same h bays s (At b a) r b kept refl (ap (λ m. waits (runnable m)) (own r) ∙ ap waits empties.gone ∙ sym (ap waits (sym fits.stage) ∙ g.waited))) kept.agree refl
              (let x = ap in_bay there in omega arith) (ends_tells b a (life b h) c r fits g)
              (g.clears ∙ sym (ap (λ o. is_some o && true) there))

    on_bay : (b : ℕ) (a : Act) → b < length bays → (x : Option (Cell F O)) → get_or bays b None ≡ x → Keeps h bays s (At b a) (act_on step (P.entries s) (P.places s) bays b a (Ok x))
    on_bay b a l None e = keeps_refused h bays s (At b a) fault.Vacant refl kept
    on_bay b a l (Some c) e =
        let fits : Fits step (life b h) c = subst (Meets step (life b h)) e (kept.slots b) in
        keeps_settled b a c l e fits (does step a c fits.is)

    into_bay : (b : ℕ) (f : F) → b < length bays → (x : Option (Cell F O)) → get_or bays b None ≡ x → Keeps h bays s (Spawn b f) (spawn_into bays b f (Ok x))
    into_bay b f l (Some c) e s' z = keeps_refused h bays s (Spawn b f) fault.Occupied refl kept s' z
    into_bay b f l None e s' z =
        let r : Report O = says answer.Done in
        let new : life b (event (Spawn b f) (Ok r) ∷ h) ≡ event (Spawn b f) (Ok r) ∷ [] = life_own b (event (Spawn b f) (Ok r)) h (eq-eqb b b refl) in
        let empty : Empties step (life b h) = subst (Meets step (life b h)) e (kept.slots b) in
        subst (Kept (event (Spawn b f) (Ok (says answer.Done)) ∷ h) (set bays b (Some (spawned f)))) (sym z)
        (kept_changed h bays s s (Spawn b f) (says answer.Done) b (Some (spawned f)) kept l refl (subst (λ m. Meets step m (Some (spawned f))) (sym new) (fits_spawn step b f r))
        (policy_same h bays s (Spawn b f) r b kept refl (ap (λ m. waits (runnable m)) new ∙ sym (ap waits empty.gone))) kept.agree refl
        (let x = ap in_bay e in omega arith)
        (record { told = λ w q. absurd (none-some w q); delivered = λ o q. absurd (none-some o q); polled = λ w q. absurd (none-some w q) })
        (sym (ap (λ o. is_some o && false) e)))

    -- the bay of a number is there, or the call is refused
    finds_bay : (b : ℕ) (c : Call F) (go : Result (Option (Cell F O)) Fault → After F O) → ((e : Fault) → go (Err e) ≡ refusal bays e)
        → (b < length bays → Keeps h bays s c (go (Ok (get_or bays b None)))) → Keeps h bays s c (go (located bays b))
    finds_bay b c go refuses there =
        cond_both (crowded (length bays)) _ _ (λ y. Keeps h bays s c (go y)) (λ _. no fault.BayCount refl)
        (λ _. cond_both (leb (length bays) b) _ _ (λ y. Keeps h bays s c (go y)) (λ _. no fault.NoSuchBay refl) (λ q. there (leb-false (length bays) b q)))
      where
        no : (e : Fault) → not_for_policy e ≡ true → Keeps h bays s c (go (Err e))
        no e q = subst (Keeps h bays s c) (sym (refuses e)) (keeps_refused h bays s c e q kept)

    keeps_at : (b : ℕ) (a : Act) → Keeps h bays s (At b a) (decided step (P.entries s) (P.places s) bays (At b a))
    keeps_at b a = finds_bay b (At b a) (act_on step (P.entries s) (P.places s) bays b a) (λ e. refl) (λ l. on_bay b a l (get_or bays b None) refl)

    keeps_spawn : (b : ℕ) (f : F) → Keeps h bays s (Spawn b f) (decided step (P.entries s) (P.places s) bays (Spawn b f))
    keeps_spawn b f = finds_bay b (Spawn b f) (spawn_into bays b f) (λ e. refl) (λ l. into_bay b f l (get_or bays b None) refl)

    uncrowded : crowded (length bays) ≡ false
    uncrowded =
        or_from _ _ (ne_eqb (length bays) 0 (omega arith)) (le-ltb 64 (length bays) kept.few)

    -- a take that finds nobody waiting
    keeps_nobody : Keeps h bays s Take (take_first bays None)
    keeps_nobody s' z = subst (Kept (event Take (Ok (says answer.Nothing)) ∷ h) bays) (sym z) (record {
      slots = kept.slots;
      policy = kept.policy;
      agree = kept.agree;
      some = kept.some;
      few = kept.few;
      room = kept.room;
      price = omega arith;
      reports = (
        record {
          told = λ k w q. absurd (none-some k q);
          delivered = λ k o q. absurd (none-some k q);
          polled = λ k w q. absurd (none-some k q);
          cleared = λ k. sym (and-not_self (alive (life k h)));
        },
        kept.reports,
      );
    })

    -- the first entry is a bay whose Runnable waits
    keeps_found : (b : ℕ) (es : List ℕ) → P.entries s ≡ b ∷ es → Keeps h bays s Take (take_first bays (Some b))
    keeps_found b es first_is =
        let here : 1 ≤ one (waits (runnable (life b h))) =
        (let x = kept.policy b in let z = times_own b es in let u = ap (times b) first_is in omega arith) in
        let w : waits (runnable (life b h)) ≡ true = one_true _ here in
        let l : b < length bays = within w (cases_lt b (length bays)) in
        at (get_or bays b None) refl w l
      where
        one_true : (t : Bool) → 1 ≤ one t → t ≡ true
        one_true true l = refl
        one_true false l = absurd (omega arith)

        within : waits (runnable (life b h)) ≡ true → (b < length bays) ⊎ (length bays ≤ b) → b < length bays
        within w (inl l) = l
        within w (inr g) = absurd (true≢false (sym w ∙ ap waits (past_gone h bays s b kept g)))

        waiting_is : (u : Stage) → waits u ≡ true → is_waiting u ≡ true
        waiting_is Gone e = absurd (false≢true e)
        waiting_is InHand e = absurd (false≢true e)
        waiting_is Waiting e = refl
        waiting_is Begun e = absurd (false≢true e)
        waiting_is Polled e = absurd (false≢true e)

        at : (x : Option (Cell F O)) → get_or bays b None ≡ x → waits (runnable (life b h)) ≡ true → b < length bays → Keeps h bays s Take (hand_over bays b (waiting_in x))
        at None e w l =
            let empty : Empties step (life b h) = subst (Meets step (life b h)) e (kept.slots b) in
            absurd (true≢false (sym w ∙ ap waits empty.gone))
        at (Some c) e w l =
            let f : Fits step (life b h) c = subst (Meets step (life b h)) e (kept.slots b) in
            let i : is_waiting c.register.stage ≡ true = waiting_is c.register.stage (ap waits f.stage ∙ w) in
            let r : Report O = says (answer.Found b) in
            let own_life : life b (event Take (Ok r) ∷ h) ≡ event Take (Ok r) ∷ life b h = life_own b (event Take (Ok r)) h (eq-eqb b b refl) in
            subst (λ y. Keeps h bays s Take (hand_over bays b y)) (sym (cond-true _ _ _ i))
            (λ s' z.
            kept_changed h bays s s' Take (says (answer.Found b)) b (Some (in_hand c)) kept l refl (subst (λ m. Meets step m (Some (in_hand c))) (sym own_life) (fits_take step (life b h) c r f i))
            (policy_take h bays s Take r b kept refl (P.entries s') (first_is ∙ ap (λ y. b ∷ y) (sym (z.0 ∙ ap (drop 1) first_is))) (ap (λ m. waits (runnable m)) own_life))
            (z.2 kept.agree) z.1
            (let x = ap in_bay e in omega arith)
            (record { told = λ v q. absurd (none-some v q); delivered = λ o q. absurd (none-some o q); polled = λ v q. absurd (none-some v q) })
            (sym (ap (λ o. is_some o && false) e)))

    keeps_first : (es : List ℕ) → P.entries s ≡ es → Keeps h bays s Take (take_first bays (first es))
    keeps_first [] e = keeps_nobody
    keeps_first (b ∷ es) e = keeps_found b es e

    keeps_take : Keeps h bays s Take (decided step (P.entries s) (P.places s) bays Take)
    keeps_take = subst (Keeps h bays s Take) (sym (cond-false _ _ _ uncrowded)) (keeps_first (P.entries s) refl)

    keeps_call : (c : Call F) → Keeps h bays s c (decided step (P.entries s) (P.places s) bays c)
    keeps_call (Spawn b f) = keeps_spawn b f
    keeps_call Take = keeps_take
    keeps_call (At b a) = keeps_at b a

    pub kept_more : (c : Call F) (o : Result (Report O) Fault) (bays' : List (Option (Cell F O))) (s' : S) → Stepped step P bays s c o bays' s' → Kept (event c o ∷ h) bays' s'
    kept_more c o bays' s' y =
        subst (λ x. Kept (event c x ∷ h) bays' s') (sym y.outcome)
        (subst (λ b. Kept (event c (decided step (P.entries s) (P.places s) bays c).outcome ∷ h) b s') (sym y.bays) (keeps_call c s' y.policy))
