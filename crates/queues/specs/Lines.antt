-- What a line means.
use Rattle.std.specs.Prelude.{ℕ, List}
use Rattle.std.specs.VecDeque.{deque_items}
use Rattle.queues.specs.declared.line.End
use Rattle.queues.specs.declared.line.Line.{Line}

-- the bays in a line, the next to be taken first
abbrev pub in_line : {E : Type 0} {e : End.Ghosts E} → Line E e → List ℕ
in_line l = deque_items l.bays

abbrev pub line_places : {E : Type 0} {e : End.Ghosts E} → Line E e → ℕ
line_places l = l.places
