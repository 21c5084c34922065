-- `shelf_check::place_spoiled` meets its promise: each `return` is a case of the definition.
use borrow.Author.Rules.{rules}
use native.Mathlib.Omega.{arith}
use Prim.Native.Nat.{◌+◌}
use Rattle.shelf_check.proofs.Whole.{free-place, high-version, high-last, none-held, of-lengths}
use Rattle.shelf_check.proofs.place_spoiled.Goals as goal

pub returns-then-words-p-ne1 : goal.returns-then-words-p-ne1
returns-then-words-p-ne1 c = free-place _ (search rules) _ (search rules) c.if-words-p-ne1.true

pub returns-then-version_of-gt-HIGHEST_VERSION : goal.returns-then-version_of-gt-HIGHEST_VERSION
returns-then-version_of-gt-HIGHEST_VERSION c = high-version _ (search rules) _ (search rules) c.if-words-p-ne1.false c.version_of.ensures (search rules)

pub returns-then-last_of-gt-HIGHEST_LAST : goal.returns-then-last_of-gt-HIGHEST_LAST
returns-then-last_of-gt-HIGHEST_LAST c = high-last _ (search rules) _ (search rules) c.if-words-p-ne1.false c.version_of.ensures (search rules) c.last_of.ensures (search rules)

pub returns-then-words-p-eq0 : goal.returns-then-words-p-eq0
returns-then-words-p-eq0 c = none-held _ (search rules) _ (search rules) c.if-words-p-ne1.false c.version_of.ensures (search rules) c.last_of.ensures (search rules) c.if-words-p-eq0.true

pub returns : goal.returns
returns c = of-lengths _ (search rules) _ (search rules) c.if-words-p-ne1.false c.version_of.ensures (search rules) c.last_of.ensures (search rules) (omega (arith, c.fits-words (80 + c.args.p))) c.if-words-p-eq0.false c.any_wrong.ensures
