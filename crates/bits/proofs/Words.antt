-- How the parts of a word change with it.
use Rattle.std.proofs.Common.{◌≡◌, ℕ, zero, suc, ◌+◌, ◌-◌, ◌*◌, ◌/◌, ◌%◌, ◌^◌, ◌<◌, ◌≤◌, min, Bool, true, false, cond, not, ◌&&◌, ◌||◌, eqb, ltb, sym, ap, ◌∙◌, add-zero, one-mul, zero-mul, arith, lit<}
use lib.Bits.{bit_and, and_mod, and_le_r}
use Rattle.std.proofs.Math.Bool.{or_comm, and_comm, or-false}
use Rattle.std.proofs.lemmas.Nat.{pow_pos, mod-pow-add}
use Rattle.std.proofs.lemmas.Bool.Decides.{nat_tests}
use Rattle.std.proofs.lemmas.Nat.Bits.{bit_at_and, bit_at-lt}
use Rattle.std.specs.Int.{bit_at}
use Rattle.bits.specs.State.{has, count, with_flags, without_flags}
use Rattle.bits.specs.Words.{Word, read, number, or_if, any_of, Whole, setting, clearing, referenced, released}
use Rattle.bits.proofs.Bits.{has_bit, sets, clears}

pub read_with : (w f : ℕ) → w < 2 ^ 32 → f < 256 → read (with_flags w f) ≡ setting f (read w)
read_with w f h l =
    let p = sets w f h l in
    let at : (k : ℕ) → k < 8 → has (with_flags w f) (2 ^ k) ≡ (has f (2 ^ k) || has w (2 ^ k)) = λ k i. p.0 k i ∙ or_comm (has w (2 ^ k)) (has f (2 ^ k)) in
    let a : has (with_flags w f) 1 ≡ (has f 1 || has w 1) = at 0 (lit< tt) in
    let b : has (with_flags w f) 2 ≡ (has f 2 || has w 2) = at 1 (lit< tt) in
    let c : has (with_flags w f) 4 ≡ (has f 4 || has w 4) = at 2 (lit< tt) in
    let d : has (with_flags w f) 8 ≡ (has f 8 || has w 8) = at 3 (lit< tt) in
    let e : has (with_flags w f) 16 ≡ (has f 16 || has w 16) = at 4 (lit< tt) in
    let g : has (with_flags w f) 32 ≡ (has f 32 || has w 32) = at 5 (lit< tt) in
    let i : has (with_flags w f) 64 ≡ (has f 64 || has w 64) = at 6 (lit< tt) in
    let j : has (with_flags w f) 128 ≡ (has f 128 || has w 128) = at 7 (lit< tt) in
    let n : count (with_flags w f) ≡ count w = p.1 in
    cc

pub read_without : (w f : ℕ) → w < 2 ^ 32 → f < 256 → read (without_flags w f) ≡ clearing f (read w)
read_without w f h l =
    let p = clears w f h l in
    let at : (k : ℕ) → k < 8 → has (without_flags w f) (2 ^ k) ≡ (not (has f (2 ^ k)) && has w (2 ^ k)) = λ k i. p.0 k i ∙ and_comm (has w (2 ^ k)) (not (has f (2 ^ k))) in
    let a : has (without_flags w f) 1 ≡ (not (has f 1) && has w 1) = at 0 (lit< tt) in
    let b : has (without_flags w f) 2 ≡ (not (has f 2) && has w 2) = at 1 (lit< tt) in
    let c : has (without_flags w f) 4 ≡ (not (has f 4) && has w 4) = at 2 (lit< tt) in
    let d : has (without_flags w f) 8 ≡ (not (has f 8) && has w 8) = at 3 (lit< tt) in
    let e : has (without_flags w f) 16 ≡ (not (has f 16) && has w 16) = at 4 (lit< tt) in
    let g : has (without_flags w f) 32 ≡ (not (has f 32) && has w 32) = at 5 (lit< tt) in
    let i : has (without_flags w f) 64 ≡ (not (has f 64) && has w 64) = at 6 (lit< tt) in
    let j : has (without_flags w f) 128 ≡ (not (has f 128) && has w 128) = at 7 (lit< tt) in
    let n : count (without_flags w f) ≡ count w = p.1 in
    cc

-- words with the same low byte have the same flags
has_low : (w v m : ℕ) → m < 256 → w % 256 ≡ v % 256 → has w m ≡ has v m
has_low w v m h e = ap (ltb 0) (small w ∙ ap (λ x. bit_and x (m % 256)) e ∙ sym (small v))
  where
    small : (w : ℕ) → bit_and w m ≡ bit_and (w % 256) (m % 256)
    small w =
        let s : bit_and w m ≤ m = and_le_r w m in
        let e : bit_and w m ≡ bit_and w m % 256 = omega arith in
        e ∙ and_mod w m 8

-- a word that differs in its count alone
read_count : (w v n : ℕ) → v % 256 ≡ w % 256 → count v ≡ n → read v ≡ record {
  scheduled = has w 1;
  running = has w 2;
  completed = has w 4;
  closed = has w 8;
  task = has w 16;
  awaiter = has w 32;
  registering = has w 64;
  notifying = has w 128;
  count = n;
}
read_count w v n e c =
    let at : (m : ℕ) → m < 256 → has v m ≡ has w m = λ m h. has_low v w m h e in
    let a = at 1 (lit< tt) in
    let b = at 2 (lit< tt) in
    let d = at 4 (lit< tt) in
    let f = at 8 (lit< tt) in
    let g = at 16 (lit< tt) in
    let i = at 32 (lit< tt) in
    let j = at 64 (lit< tt) in
    let k = at 128 (lit< tt) in
    cc

pub read_more : (w : ℕ) → w / 256 < 16777215 → read (w + 256) ≡ referenced (read w)
read_more w h = read_count w (w + 256) (min (count w + 1) 16777215) (omega arith) (omega arith)

pub read_less : (w : ℕ) → (w / 256 ≡ 0 → ⊥) → read (w - 256) ≡ released (read w)
read_less w h = read_count w (w - 256) (count w - 1) (omega arith) (omega arith)

-- a flag's part of a word is its bit
flag_bit : (w k : ℕ) → cond (has w (2 ^ k)) (2 ^ k) 0 ≡ bit_at w k * 2 ^ k
flag_bit w k = ap (λ t. cond t (2 ^ k) 0) (has_bit w k) ∙ by_bit (bit_at w k) (2 ^ k) (bit_at-lt w k)
  where
    by_bit : (b p : ℕ) → b < 2 → cond (eqb b 1) p 0 ≡ b * p
    by_bit zero p h = sym (zero-mul p)
    by_bit (suc zero) p h = sym (one-mul p)
    by_bit (suc (suc b)) p h = absurd (omega arith)

-- one flag more of the low bits
flag_more : (w k : ℕ) → w % 2 ^ (1 + k) ≡ cond (has w (2 ^ k)) (2 ^ k) 0 + w % 2 ^ k
flag_more w k = mod-pow-add w 1 k ∙ ap (λ x. x + w % 2 ^ k) (sym (flag_bit w k))

adds_up : (w q a b c d e f g h m₂ m₃ m₄ m₅ m₆ m₇ m₈ : ℕ)
    → m₂ ≡ b + a → m₃ ≡ c + m₂ → m₄ ≡ d + m₃ → m₅ ≡ e + m₄ → m₆ ≡ f + m₅ → m₇ ≡ g + m₆ → m₈ ≡ h + m₇ → w ≡ 256 * q + m₈
    → 256 * q + a + b + c + d + e + f + g + h ≡ w
adds_up w q a b c d e f g h m₂ m₃ m₄ m₅ m₆ m₇ m₈ p₂ p₃ p₄ p₅ p₆ p₇ p₈ p = omega arith

-- a word is the sum of its parts
pub number_read : Whole
number_read w =
    let first : w % 2 ≡ cond (has w 1) 1 0 = flag_more w 0 ∙ (let z : w % 1 ≡ 0 = omega arith in ap (λ x. cond (has w 1) 1 0 + x) z ∙ add-zero (cond (has w 1) 1 0)) in
    adds_up w (w / 256) _ _ _ _ _ _ _ _ (w % 4) (w % 8) (w % 16) (w % 32) (w % 64) (w % 128) (w % 256)
    (flag_more w 1 ∙ ap (λ x. cond (has w 2) 2 0 + x) first)
    (flag_more w 2) (flag_more w 3) (flag_more w 4) (flag_more w 5) (flag_more w 6) (flag_more w 7) (omega arith)

-- flags of w that are among those of f: a word is not 0 if one of them is set
flag_on : (v w f k : ℕ) (rest : Bool) (n : ℕ) → has v (2 ^ k) ≡ (has w (2 ^ k) && has f (2 ^ k)) → ltb 0 n ≡ rest
    → ltb 0 (n + cond (has v (2 ^ k)) (2 ^ k) 0) ≡ or_if (has f (2 ^ k)) (has w (2 ^ k)) rest
flag_on v w f k rest n e p = by_flag (has v (2 ^ k)) (has w (2 ^ k)) (has f (2 ^ k)) rest n (2 ^ k) (pow_pos k) e p
  where
    by_flag : (x a b rest : Bool) (n m : ℕ) → 0 < m → x ≡ (a && b) → ltb 0 n ≡ rest → ltb 0 (n + cond x m 0) ≡ or_if b a rest
    by_flag x true true rest n m q e p = ap (λ x. ltb 0 (n + cond x m 0)) e ∙ (let z : 0 < n + m = omega arith in grind (arith, nat_tests))
    by_flag x false true rest n m q e p = ap (λ x. ltb 0 (n + cond x m 0)) e ∙ ap (ltb 0) (add-zero n) ∙ p ∙ sym (or-false rest)
    by_flag x true false rest n m q e p = ap (λ x. ltb 0 (n + cond x m 0)) e ∙ ap (ltb 0) (add-zero n) ∙ p
    by_flag x false false rest n m q e p = ap (λ x. ltb 0 (n + cond x m 0)) e ∙ ap (ltb 0) (add-zero n) ∙ p

pub has_any : (w f : ℕ) → f < 256 → has w f ≡ any_of f (read w)
has_any w f h =
    let v = bit_and w f in
    let l : v ≤ f = and_le_r w f in
    let q : 256 * (v / 256) ≡ 0 = omega arith in
    let at : (k : ℕ) → has v (2 ^ k) ≡ (has w (2 ^ k) && has f (2 ^ k)) = λ k. has_bit v k ∙ (let e = bit_at_and w f k in let a = has_bit w k in let b = has_bit f k in grind (arith, nat_tests)) in
    let on = λ (k : ℕ). flag_on v w f k in
    ap (ltb 0) (sym (number_read v))
    ∙ on 7 _ _ (at 7) (on 6 _ _ (at 6) (on 5 _ _ (at 5) (on 4 _ _ (at 4) (on 3 _ _ (at 3) (on 2 _ _ (at 2) (on 1 _ _ (at 1) (on 0 false _ (at 0) (ap (ltb 0) q))))))))

-- The parts of a word by its number, for a word v that is seen by the parts p.
pub number_is : (v : ℕ) (p : Word) → read v ≡ p → v ≡ number p
number_is v p e = sym (ap number (sym e) ∙ number_read v)
