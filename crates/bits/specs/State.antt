-- The state word of a task cell: a number of 32 bits.
use Rattle.std.specs.Prelude.{◌≡◌, ℕ, ◌-◌, ◌/◌, ◌^◌, ◌<◌, Bool, not, ◌&&◌, ◌||◌, List, [], ◌∷◌, bit_and, bit_or, nat_lt}

-- the flags, each a bit of the low byte
abbrev pub scheduled : ℕ
scheduled = 1

abbrev pub running : ℕ
running = 2

abbrev pub completed : ℕ
completed = 4

abbrev pub closed : ℕ
closed = 8

abbrev pub task : ℕ
task = 16

abbrev pub awaiter : ℕ
awaiter = 32

abbrev pub registering : ℕ
registering = 64

abbrev pub notifying : ℕ
notifying = 128

abbrev pub all_flags : List ℕ
all_flags = scheduled ∷ running ∷ completed ∷ closed ∷ task ∷ awaiter ∷ registering ∷ notifying ∷ []

-- one reference
abbrev pub reference : ℕ
reference = 256

-- one of these flags is set in the word
abbrev pub has : ℕ → ℕ → Bool
has word flags = nat_lt 0 (bit_and word flags)

-- the number of references
abbrev pub count : ℕ → ℕ
count word = word / reference

-- neither completed nor closed
abbrev pub is_open : ℕ → Bool
is_open word = not (has word completed) && not (has word closed)

-- the word with these flags set
abbrev pub with_flags : ℕ → ℕ → ℕ
with_flags word flags = bit_or word flags

-- the word with these flags cleared
abbrev pub without_flags : ℕ → ℕ → ℕ
without_flags word flags = bit_and word (4294967295 - flags)

-- Setting flags sets these, and leaves each of the others and the count.
abbrev pub SetsOnly : Type 0
SetsOnly = (word flags : ℕ) → word < 2 ^ 32 → flags < 256
    → ((k : ℕ) → k < 8 → has (with_flags word flags) (2 ^ k) ≡ (has word (2 ^ k) || has flags (2 ^ k)))
    × (count (with_flags word flags) ≡ count word)

-- Clearing flags clears these, and leaves each of the others and the count.
abbrev pub ClearsOnly : Type 0
ClearsOnly = (word flags : ℕ) → word < 2 ^ 32 → flags < 256
    → ((k : ℕ) → k < 8 → has (without_flags word flags) (2 ^ k) ≡ (has word (2 ^ k) && not (has flags (2 ^ k))))
    × (count (without_flags word flags) ≡ count word)
