-- The words of the law that ties the two kinds of histories.
use Rattle.std.specs.Prelude.{◌≡◌}
use Rattle.shelf_begin.specs.Answer.{begin_lent}
use Rattle.shelf_laws.specs.History.{after_all, log_of}
use Rattle.shelf_histories.specs.Numbers.{in_numbers}
use Rattle.shelf_histories.specs.History.{Loan, Sized, state_of, History, left_after, lines_after, log_after}

-- after a history at the boundary the record that the numbers are, and the store, are those after the layer's history of the same
-- calls; every answer is the number for that history's answer; and the log that the numbers tell is that history's
pub record SameHistory (h : History) : Type 0 where
  pub state : state_of (left_after h) ≡ after_all h.calls
  pub answers : lines_after h ≡ in_numbers (log_of h.calls)
  pub log : log_after h ≡ log_of h.calls

-- so it is of every history; and a beginning on numbers and a store of the right sizes is accepted
abbrev pub OneHistory : Type 0
OneHistory = ((l : Loan) → Sized l → (begin_lent l.words l.store).code ≡ 0) × ((h : History) → SameHistory h)
