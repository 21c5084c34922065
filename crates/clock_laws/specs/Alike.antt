-- Two calls answered alike: equal answers, and equal records after them.
use Rattle.std.specs.Prelude.{◌≡◌}
use Rattle.clock_record.specs.Book.{Same}
use Rattle.clock.specs.Answered.{Answered}

pub record AnsweredAlike {A : Type 0} (x y : Answered A) : Type 0 where
  pub answer : x.answer ≡ y.answer
  pub book : Same x.book y.book
