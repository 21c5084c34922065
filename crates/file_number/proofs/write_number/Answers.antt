-- `file_number::write_number` meets its promise: the groups that were put stand at the front of the output.
use borrow.Author.Rules.{rules}
use Rattle.file_number.proofs.Writing.{small-1, small-2, small-3, put_1, put_2, put_3}
use Rattle.file_number.proofs.write_number.Goals as goal

pub returns-then-room-lt1 : goal.returns-then-room-lt1
returns-then-room-lt1 c = search (rules, small-1)

pub returns-then-n-lt-SECOND : goal.returns-then-n-lt-SECOND
returns-then-n-lt-SECOND c = search (rules, put_1)

pub returns-then-room-lt2 : goal.returns-then-room-lt2
returns-then-room-lt2 c = search (rules, small-2)

pub returns-then-rest-lt-SECOND : goal.returns-then-rest-lt-SECOND
returns-then-rest-lt-SECOND c = search (rules, put_2)

pub returns-then-room-lt3 : goal.returns-then-room-lt3
returns-then-room-lt3 c = search (rules, small-3)

pub returns : goal.returns
returns c = search (rules, put_3)
