-- `advance` leaves by the ways of its meaning.
use borrow.Author.Rules.{rules}
use mathlib.Core.Path.{sym, ap, ◌∙◌}
use Prim.Native.Nat.{ℕ}
use Rattle.std.specs.Prelude.{Ok, Err}
use Rattle.refusal.proofs.Numbers.{handed_on}
use Rattle.clock.specs.Answered.{Answered}
use Rattle.clock.specs.Record.{book_of, left_by}
use Rattle.clock.proofs.Exits.{unsound, sound, move-35, move-31, move-advances, moved}
use Rattle.clock.proofs.Clock.advance.Goals as goal

pub returns-in_err-sound-clause-value : goal.returns-in_err-sound-clause-value
returns-in_err-sound-clause-value c = let b = book_of c.args.self.now in
    let e = unsound b (sym c.in_err-sound.was ∙ c.sound.ensures) in
    handed_on c.from_residual.result c.from_residual.ensures.1 ∙ ap Err e.1 ∙ sym (ap (λ (x : Answered ℕ). x.answer) (move-35 b c.args.to e.0))

pub returns-in_err-sound-clause-record_after : goal.returns-in_err-sound-clause-record_after
returns-in_err-sound-clause-record_after c = let b = book_of c.args.self.now in
    let e = unsound b (sym c.in_err-sound.was ∙ c.sound.ensures) in
    sym (ap (left_by c.args.self.now) (move-35 b c.args.to e.0))

pub returns-then-to-self-clause-value : goal.returns-then-to-self-clause-value
returns-then-to-self-clause-value c = let b = book_of c.args.self.now in sym (ap (λ (x : Answered ℕ). x.answer) (move-31 b c.args.to (sound b (search rules)) c.if-to-self.true))

pub returns-then-to-self-clause-record_after : goal.returns-then-to-self-clause-record_after
returns-then-to-self-clause-record_after c = let b = book_of c.args.self.now in sym (ap (left_by c.args.self.now) (move-31 b c.args.to (sound b (search rules)) c.if-to-self.true))

pub returns-clause-value : goal.returns-clause-value
returns-clause-value c = let b = book_of c.args.self.now in
    ap Ok c.run-ran.ensures.count ∙ sym (ap (λ (x : Answered ℕ). x.answer) (move-advances b c.args.to (sound b (search rules)) c.if-to-self.false))

pub returns-clause-record_after : goal.returns-clause-record_after
returns-clause-record_after c = let b = book_of c.args.self.now in
    moved c.args.self.now c.args.to c.run-ran.result c.keep-self.result (move-advances b c.args.to (sound b (search rules)) c.if-to-self.false) c.run-ran.ensures c.keep-self.ensures
