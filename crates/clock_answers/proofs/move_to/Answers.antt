-- `move_to` leaves by the ways of its meaning.
use borrow.Author.Rules.{rules}
use mathlib.Core.Path.{◌≡◌, sym, ap, ◌∙◌}
use Prim.Native.Nat.{ℕ}
use lib.ListN.{length}
use Rattle.std.specs.Prelude.{Err}
use Rattle.refusal.proofs.Numbers.{handed_on}
use Rattle.clock.specs.declared.Clock.{Clock}
use Rattle.clock.specs.Move.{move_in}
use Rattle.clock.specs.Record.{book_of}
use Rattle.clock_answers.specs.Calls.{Left}
use Rattle.clock_answers.proofs.Calls.{is-record, no-record, kept, move-told, move-35, move-answered}
use Rattle.clock_answers.proofs.move_to.Goals as goal

pub returns-in_err-clock-clause-value : goal.returns-in_err-clock-clause-value
returns-in_err-clock-clause-value c = let w = c.args.words.now in
    let n = no-record w (sym c.in_err-clock.was ∙ c.record_in.ensures) in
    handed_on c.from_residual.result c.from_residual.ensures.1 ∙ ap Err n.1 ∙ ap (λ (x : Left ℕ). x.answer) (move-35 w c.args.to n.0)

pub returns-in_err-clock-clause-words_after : goal.returns-in_err-clock-clause-words_after
returns-in_err-clock-clause-words_after c = let w = c.args.words.now in
    let n = no-record w (sym c.in_err-clock.was ∙ c.record_in.ensures) in
    ap (λ (x : Left ℕ). x.words) (move-35 w c.args.to n.0)

pub returns-in_err-applied-clause-value : goal.returns-in_err-applied-clause-value
returns-in_err-applied-clause-value c = let w = c.args.words.now in
    let y = is-record w (sym c.in_ok-clock.was ∙ c.record_in.ensures) in
    handed_on c.from_residual-in_err-applied.result c.from_residual-in_err-applied.ensures.1
    ∙ sym c.in_err-applied.was
    ∙ (move-told _ _ _ c.move_to-next.ensures).0
    ∙ ap (λ (x : Left ℕ). x.answer) (move-answered w c.args.to y.0 c.in_ok-clock.clock y.1)

pub returns-in_err-applied-clause-words_after : goal.returns-in_err-applied-clause-words_after
returns-in_err-applied-clause-words_after c = let w = c.args.words.now in
    let y = is-record w (sym c.in_ok-clock.was ∙ c.record_in.ensures) in
    let r = move_in (book_of c.in_ok-clock.clock) c.args.to in
    sym (ap (λ (x : Clock). x.words) (kept c.in_ok-clock.clock r.answer r.book _ (sym (move-told _ _ _ c.move_to-next.ensures).0 ∙ c.in_err-applied.was) ∙ y.1))
    ∙ ap (λ (x : Left ℕ). x.words) (move-answered w c.args.to y.0 c.in_ok-clock.clock y.1)

pub copy_from_slice-requires : goal.copy_from_slice-requires
copy_from_slice-requires c =
    let y = is-record c.args.words.now (sym c.in_ok-clock.was ∙ c.record_in.ensures) in
    let e : length c.move_to-next.result.clock.words ≡ 67 = search rules in y.0 ∙ sym e

pub returns-clause-value : goal.returns-clause-value
returns-clause-value c = let w = c.args.words.now in
    let y = is-record w (sym c.in_ok-clock.was ∙ c.record_in.ensures) in
    sym c.in_ok-applied.was
    ∙ (move-told _ _ _ c.move_to-next.ensures).0
    ∙ ap (λ (x : Left ℕ). x.answer) (move-answered w c.args.to y.0 c.in_ok-clock.clock y.1)

pub returns-clause-words_after : goal.returns-clause-words_after
returns-clause-words_after c = let w = c.args.words.now in
    let y = is-record w (sym c.in_ok-clock.was ∙ c.record_in.ensures) in
    c.copy_from_slice.ensures.after
    ∙ ap (λ (x : Clock). x.words) (move-told _ _ _ c.move_to-next.ensures).1
    ∙ ap (λ (x : Left ℕ). x.words) (move-answered w c.args.to y.0 c.in_ok-clock.clock y.1)
