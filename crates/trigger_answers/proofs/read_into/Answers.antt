-- `read_into` meets its promise: what `trigger::read_trigger` refuses is handed on, and else the numbers fit or they do not.
use borrow.Author.Rules.{rules}
use native.Mathlib.Omega.{arith}
use mathlib.Core.Path.{◌≡◌, sym, ap, ◌∙◌}
use mathlib.Core.List.{◌++◌}
use lib.ListN.{drop}
use Rattle.std.specs.Prelude.{Ok}
use Rattle.refusal.proofs.Numbers.{handed_on}
use Rattle.answers.specs.Answers.{out, done}
use Rattle.trigger.specs.Trigger.{read_of}
use Rattle.trigger_answers.proofs.Places.{narrow}
use Rattle.trigger_answers.proofs.Laws.{lent-refused, lent-short, lent-put}
use Rattle.trigger_answers.proofs.read_into.Goals as goal

pub returns-in_err-trigger : goal.returns-in_err-trigger
returns-in_err-trigger c = ap (λ r. out (done r) c.args.fields.now) (handed_on c.from_residual.result c.from_residual.ensures.1)
    ∙ lent-refused c.args.payload.now c.args.fields.now _ (sym (search rules))

pub returns-then-fields-lt-NUMBERS : goal.returns-then-fields-lt-NUMBERS
returns-then-fields-lt-NUMBERS c = let e : Ok c.in_ok-trigger.trigger ≡ read_of c.args.payload.now = search rules in
    lent-short _ _ _ (sym e) c.if-fields-lt-NUMBERS.true

pub numbers_of-requires : goal.numbers_of-requires
numbers_of-requires c = let e : Ok c.in_ok-trigger.trigger ≡ read_of c.args.payload.now = search rules in
    narrow c.args.payload.now (λ k. omega (arith, c.type_inv.payload k)) _ (sym e)

pub returns : goal.returns
returns c = let e : Ok c.in_ok-trigger.trigger ≡ read_of c.args.payload.now = search rules in
    lent-put _ _ _ (sym e) c.if-fields-lt-NUMBERS.false (ap (λ front. front ++ drop 11 c.args.fields.now) (c.copy_from_slice.ensures.after ∙ c.numbers_of.ensures))
