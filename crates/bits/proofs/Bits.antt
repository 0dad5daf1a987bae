-- The flags of a word, one by one, and the count above them.
use Rattle.std.proofs.Common.{◌≡◌, ℕ, zero, suc, ◌-◌, ◌*◌, ◌/◌, ◌^◌, ◌<◌, eqb, ltb, ap, ◌∙◌, zero-mul, arith}
use lib.Bits.{bit_and, bit_or, and_shr, or_shr, and_mask, or_zero_r}
use Rattle.std.proofs.lemmas.Nat.{pow_pos}
use Rattle.std.proofs.lemmas.Nat.Bits.{bit_at_and, bit_at_or, bit_at_not, bit_at-lt, and_pow}
use Rattle.std.proofs.lemmas.Bool.Decides.{nat_tests}
use Rattle.std.specs.Int.{bit_at, w32}
use Rattle.bits.specs.State.{has, without_flags, SetsOnly, ClearsOnly}

-- a flag is set where its one bit is
pub has_bit : (w k : ℕ) → has w (2 ^ k) ≡ eqb (bit_at w k) 1
has_bit w k = ap (ltb 0) (and_pow w k) ∙ at (bit_at w k) (2 ^ k) (bit_at-lt w k) (pow_pos k)
  where
    at : (b p : ℕ) → b < 2 → 0 < p → ltb 0 (b * p) ≡ eqb b 1
    at zero p h q = ap (ltb 0) (zero-mul p)
    at (suc zero) p h q = grind (arith, nat_tests)
    at (suc (suc b)) p h q = absurd (omega arith)

pub sets : SetsOnly
sets w f h l = (λ k _. has_bit (bit_or w f) k ∙ (let e = bit_at_or w f k in let a = has_bit w k in let b = has_bit f k in grind (arith, nat_tests)), or_shr w f 8 ∙ (let z : f / 256 ≡ 0 = omega arith in ap (bit_or (w / 256)) z ∙ or_zero_r (w / 256)))

pub clears : ClearsOnly
clears w f h l = (
  (λ k b. has_bit (without_flags w f) k ∙ (let e = bit_at_and w (4294967295 - f) k in let o : bit_at (4294967295 - f) k ≡ 1 - bit_at f k = bit_at_not w32 f k (omega arith) (omega arith) in let a = has_bit w k in let b = has_bit f k in grind (arith, nat_tests))),
  and_shr w (4294967295 - f) 8 ∙ (let z : (4294967295 - f) / 256 ≡ 2 ^ 24 - 1 = omega arith in ap (bit_and (w / 256)) z ∙ and_mask (w / 256) 24 ∙ omega arith),
)
