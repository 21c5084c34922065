-- What a call on a clock answers, and what the record then says.
use Rattle.std.specs.Prelude.{Result}
use Rattle.refusal.specs.declared.Refusal.{Refusal}
use Rattle.clock_record.specs.Book.{Book}

pub record Answered (A : Type 0) : Type 0 where
  pub answer : Result A Refusal
  pub book : Book
