-- `shelf::place_of_said` meets its promise: a list is looked for by all of its key, and of any other table the first place with the key's number is the one.
use borrow.Author.Rules.{rules}
use Prim.Native.Nat.{◌+◌, ◌*◌}
use mathlib.Core.Path.{◌≡◌, sym, ◌∙◌}
use mathlib.Core.Bool.{true, false}
use native.Mathlib.Omega.{arith}
use lib.Dec.{eqb}
use Rattle.base.specs.Below.{lowest}
use Rattle.base.proofs.Cases.{unlike}
use Rattle.shelf.specs.Layout.{key_number}
use Rattle.shelf.proofs.Numbers.{among-place, place_none}
use Rattle.shelf.proofs.Alike.{others-place}
use Rattle.shelf.proofs.place_of_said.Goals as goal

pub returns-in_default : goal.returns-in_default
returns-in_default c = (
  λ q.
      sym
      (place_none _ _
      (λ n. let t : false ≡ true = rw c.in_default.is at (c.try_from.ensures.0 n) in unlike (sym t))),
  search rules,
)

pub returns-then-key-eq-NRT_IT : goal.returns-then-key-eq-NRT_IT
returns-then-key-eq-NRT_IT c = let whole = c.in-Ok.ensures.1 in (
  λ q.
      c.place_of_list.ensures.0
      ∙ rw whole.same (sym (among-place c.args.words.now _ whole.long)),
  c.place_of_list.ensures.1,
)

pub returns : goal.returns
returns c = let whole = c.in-Ok.ensures.1 in
    let first : c.first_alike.result ≡ lowest 4 (λ k. eqb (key_number c.args.words.now k) c.number_for-number.result) = rw whole.same at c.first_alike.ensures.0 in (
      λ q.
          others-place c.args.words.now whole.long (λ k. omega (arith, c.type_inv.words (64 + 4 * k))) _ c.number_for-number.ensures.1
          c.number_for-number.ensures.0 first c.first_alike.ensures.1 c.if-key-eq-NRT_IT.false q
          ∙ sym (among-place _ _ whole.long),
      c.first_alike.ensures.1,
    )
