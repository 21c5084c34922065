-- `trigger_belongs` meets its promise: by the three numbers of the id, where the numbers can be this payload's.
use borrow.Author.Rules.{rules}
use native.Mathlib.Omega.{arith}
use Rattle.base.proofs.Tests.{told}
use Rattle.trigger_answers.proofs.Laws.{read-long, belongs-not, belongs-by}
use Rattle.trigger_answers.proofs.trigger_belongs.Goals as goal

pub bounds-fields-0 : goal.bounds-fields-0
bounds-fields-0 c = let l = read-long _ _ (told c.can_be_read.ensures c.if-can_be_read.true) in omega (arith, l)

pub bounds-fields-2 : goal.bounds-fields-2
bounds-fields-2 c = let l = read-long _ _ (told c.can_be_read.ensures c.if-can_be_read.true) in omega (arith, l)

pub bounds-fields-3 : goal.bounds-fields-3
bounds-fields-3 c = let l = read-long _ _ (told c.can_be_read.ensures c.if-can_be_read.true) in omega (arith, l)

pub returns-then-can_be_read : goal.returns-then-can_be_read
returns-then-can_be_read c = belongs-by _ _ _ c.can_be_read.ensures c.if-can_be_read.true (search rules) (search rules) c.belongs.ensures

pub returns : goal.returns
returns c = belongs-not _ _ _ c.can_be_read.ensures c.if-can_be_read.false
