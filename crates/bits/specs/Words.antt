-- A state word by its parts: the eight flags and the count.
use Rattle.std.specs.Prelude.{◌≡◌, ℕ, ◌+◌, ◌-◌, ◌*◌, min, Bool, true, false, cond, not, ◌&&◌, ◌||◌}
use Rattle.bits.specs.State.{has, count}

pub record Word : Type 0 where
  pub scheduled : Bool
  pub running : Bool
  pub completed : Bool
  pub closed : Bool
  pub task : Bool
  pub awaiter : Bool
  pub registering : Bool
  pub notifying : Bool
  pub count : ℕ

-- the parts of a word
abbrev pub read : ℕ → Word
read w = record {
  scheduled = has w 1;
  running = has w 2;
  completed = has w 4;
  closed = has w 8;
  task = has w 16;
  awaiter = has w 32;
  registering = has w 64;
  notifying = has w 128;
  count = count w;
}

-- a flag's part of the word
abbrev flag : Bool → ℕ → ℕ
flag b value = cond b value 0

-- the word of these parts
abbrev pub number : Word → ℕ
number w =
    256 * w.count
    + flag w.scheduled 1 + flag w.running 2 + flag w.completed 4 + flag w.closed 8
    + flag w.task 16 + flag w.awaiter 32 + flag w.registering 64 + flag w.notifying 128

-- A word is the sum of its parts, so two words with the same parts are the same.
abbrev pub Whole : Type 0
Whole = (word : ℕ) → number (read word) ≡ word

-- a flag counts where it is among those asked for
abbrev pub or_if : Bool → Bool → Bool → Bool
or_if true flag rest = rest || flag
or_if false flag rest = rest

-- one of these flags is set
abbrev pub any_of : ℕ → Word → Bool
any_of flags w =
    or_if (has flags 128) w.notifying
    (or_if (has flags 64) w.registering
    (or_if (has flags 32) w.awaiter
    (or_if (has flags 16) w.task
    (or_if (has flags 8) w.closed
    (or_if (has flags 4) w.completed
    (or_if (has flags 2) w.running
    (or_if (has flags 1) w.scheduled false)))))))

-- the word with these flags set
abbrev pub setting : ℕ → Word → Word
setting flags w = record {
  scheduled = has flags 1 || w.scheduled;
  running = has flags 2 || w.running;
  completed = has flags 4 || w.completed;
  closed = has flags 8 || w.closed;
  task = has flags 16 || w.task;
  awaiter = has flags 32 || w.awaiter;
  registering = has flags 64 || w.registering;
  notifying = has flags 128 || w.notifying;
  count = w.count;
}

-- the word with these flags cleared
abbrev pub clearing : ℕ → Word → Word
clearing flags w = record {
  scheduled = not (has flags 1) && w.scheduled;
  running = not (has flags 2) && w.running;
  completed = not (has flags 4) && w.completed;
  closed = not (has flags 8) && w.closed;
  task = not (has flags 16) && w.task;
  awaiter = not (has flags 32) && w.awaiter;
  registering = not (has flags 64) && w.registering;
  notifying = not (has flags 128) && w.notifying;
  count = w.count;
}

abbrev counting : ℕ → Word → Word
counting n w = record {
  scheduled = w.scheduled;
  running = w.running;
  completed = w.completed;
  closed = w.closed;
  task = w.task;
  awaiter = w.awaiter;
  registering = w.registering;
  notifying = w.notifying;
  count = n;
}

-- one reference more, as far as a word of 32 bits can count
abbrev pub referenced : Word → Word
referenced w = counting (min (w.count + 1) 16777215) w

-- one reference less, if there is one
abbrev pub released : Word → Word
released w = counting (w.count - 1) w

-- neither completed nor closed
abbrev pub still_open : Word → Bool
still_open w = not w.closed && not w.completed
