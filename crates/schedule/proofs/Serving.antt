-- A list of requests, taken one more at a time.
use Rattle.std.proofs.Common.{◌≡◌, ℕ, ◌+◌, ◌<◌, List, [], ◌∷◌, ◌++◌, reverse, length, get_or, take, sym, refl, ap, ◌∙◌, subst, arith}
use Rattle.std.proofs.lemmas.List.{reverse-append, take_more, length-take}
use Rattle.schedule.specs.declared.Schedule.{Ghosts}
use Rattle.schedule.specs.declared.requests.Request.{Request}
use Rattle.schedule.specs.declared.requests.Answer.{Answer}
use Rattle.schedule.specs.History.{event, beside, history}
use Rattle.schedule.specs.Requests.{Obeys, Ran, more}

-- one request more at the end of a list is one event more at the head of its history
beside_push : (os : List Request) (ans : List Answer) (o : Request) (a : Answer) → length ans ≡ length os → beside (os ++ o ∷ []) (ans ++ a ∷ []) ≡ beside os ans ++ event o a ∷ []
beside_push [] [] o a e = refl
beside_push [] (b ∷ ans) o a e = absurd (omega arith)
beside_push (p ∷ os) [] o a e = absurd (omega arith)
beside_push (p ∷ os) (b ∷ ans) o a e = ap (λ r. event p b ∷ r) (beside_push os ans o a (omega arith))

history_push : (os : List Request) (ans : List Answer) (o : Request) (a : Answer) → length ans ≡ length os → history (os ++ o ∷ []) (ans ++ a ∷ []) ≡ event o a ∷ history os ans
history_push os ans o a e = ap reverse (beside_push os ans o a e) ∙ reverse-append (beside os ans) (event o a ∷ [])

-- one request more of a list, and its answer
pub ran_more : {S : Type 0} (P : Ghosts S) (start : S) (os : List Request) (i : ℕ) (d : Request) (ans ans' : List Answer) (a : Answer) (s s' : S)
    → i < length os → length ans ≡ i → ans' ≡ ans ++ a ∷ []
    → Ran P start (history (take i os) ans) s → Obeys P s (get_or os i d) a s' → Ran P start (history (take (i + 1) os) ans') s'
ran_more P start os i d ans ans' a s s' h n q r y =
    let l = length-take i os in
    let o = get_or os i d in
    let w : history (take (i + 1) os) ans' ≡ event o a ∷ history (take i os) ans =
    ap (λ x. history x ans') (take_more os i d h) ∙ ap (history (take i os ++ o ∷ [])) q ∙ history_push (take i os) ans o a (omega arith) in
    subst (λ x. Ran P start x s') (sym w) (more o a r y)
