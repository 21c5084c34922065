-- `file_number::read_number` meets its promise: at each `return` the groups that were seen say which number it is, or that it is none.
use borrow.Author.Rules.{rules}
use Rattle.file_number.proofs.Reading.{none_1, none_2, none-3, zero-2, zero-3, above-3, one, two, three}
use Rattle.file_number.proofs.read_number.Goals as goal

pub returns-then-end-at : goal.returns-then-end-at
returns-then-end-at c = search (rules, none_1)

pub returns-then-low-lt-GROUP : goal.returns-then-low-lt-GROUP
returns-then-low-lt-GROUP c = search (rules, one)

pub returns-then-end-second : goal.returns-then-end-second
returns-then-end-second c = search (rules, none_2)

pub returns-then-middle-eq0 : goal.returns-then-middle-eq0
returns-then-middle-eq0 c = search (rules, zero-2)

pub returns-then-middle-lt-GROUP : goal.returns-then-middle-lt-GROUP
returns-then-middle-lt-GROUP c = search (rules, two)

pub returns-then-end-third : goal.returns-then-end-third
returns-then-end-third c = search (rules, none-3)

pub returns-then-high-eq0 : goal.returns-then-high-eq0
returns-then-high-eq0 c = search (rules, zero-3)

pub returns-then-high-gt-HIGHEST_THIRD : goal.returns-then-high-gt-HIGHEST_THIRD
returns-then-high-gt-HIGHEST_THIRD c = search (rules, above-3)

pub returns : goal.returns
returns c = search (rules, three)
