-- `fresh` puts a fresh clock's words in place of the record's.
use borrow.Author.Rules.{rules}
use mathlib.Core.Path.{◌≡◌, sym, ap, ◌∙◌}
use lib.ListN.{length}
use Rattle.std.specs.Prelude.{Err}
use Rattle.refusal.proofs.Numbers.{handed_on}
use Rattle.clock.specs.declared.Clock.{Clock}
use Rattle.clock_answers.specs.Calls.{Left}
use Rattle.clock_answers.proofs.Calls.{is-record, no-record, fresh-35, fresh-put}
use Rattle.clock_answers.proofs.fresh.Goals as goal

pub returns-in_err-record_in-clause-value : goal.returns-in_err-record_in-clause-value
returns-in_err-record_in-clause-value c = let w = c.args.words.now in
    let n = no-record w (sym c.in_err-record_in.was ∙ c.record_in.ensures) in
    handed_on c.from_residual.result c.from_residual.ensures.1 ∙ ap Err n.1 ∙ ap (λ (x : Left (Unit {0})). x.answer) (fresh-35 w n.0)

pub returns-in_err-record_in-clause-words_after : goal.returns-in_err-record_in-clause-words_after
returns-in_err-record_in-clause-words_after c = let w = c.args.words.now in
    let n = no-record w (sym c.in_err-record_in.was ∙ c.record_in.ensures) in
    ap (λ (x : Left (Unit {0})). x.words) (fresh-35 w n.0)

pub copy_from_slice-requires : goal.copy_from_slice-requires
copy_from_slice-requires c =
    let y = is-record c.args.words.now (sym c.in_ok-record_in.was ∙ c.record_in.ensures) in
    let e : length c.fresh.result.words ≡ 67 = search rules in y.0 ∙ sym e

pub returns-clause-value : goal.returns-clause-value
returns-clause-value c = let w = c.args.words.now in
    let y = is-record w (sym c.in_ok-record_in.was ∙ c.record_in.ensures) in
    ap (λ (x : Left (Unit {0})). x.answer) (fresh-put w y.0)

pub returns-clause-words_after : goal.returns-clause-words_after
returns-clause-words_after c = let w = c.args.words.now in
    let y = is-record w (sym c.in_ok-record_in.was ∙ c.record_in.ensures) in
    c.copy_from_slice.ensures.after ∙ ap (λ (x : Clock). x.words) c.fresh.ensures ∙ ap (λ (x : Left (Unit {0})). x.words) (fresh-put w y.0)
