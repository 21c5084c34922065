-- `hear` leaves by the ways of its meaning.
use borrow.Author.Rules.{rules}
use mathlib.Core.Path.{sym, ap, ◌∙◌}
use mathlib.Core.List.{List}
use native.Mathlib.Omega.{arith}
use Rattle.std.specs.Prelude.{Err}
use Rattle.refusal.proofs.Numbers.{handed_on}
use Rattle.base.proofs.Tests.{told}
use Rattle.clock_rule.specs.declared.App.{App}
use Rattle.clock_rule.specs.Rule.{applied}
use Rattle.clock_states.specs.States.{states_word}
use Rattle.clock.specs.declared.Heard.{Heard}
use Rattle.clock.specs.Answered.{Answered}
use Rattle.clock.specs.Record.{book_of, left_by}
use Rattle.clock.proofs.Exits.{unsound, sound, offer-35, offer-30, offer-32, offer-33, offer-34, offer-applies, offer-waits, few, heard-applied, heard-waiting}
use Rattle.clock.proofs.Clock.hear.Goals as goal

pub returns-in_err-sound-clause-value : goal.returns-in_err-sound-clause-value
returns-in_err-sound-clause-value c = let b = book_of c.args.self.now in let a = c.args.a in
    let e = unsound b (sym c.in_err-sound.was ∙ c.sound.ensures) in
    handed_on c.from_residual.result c.from_residual.ensures.1 ∙ ap Err e.1 ∙ sym (ap (λ (x : Answered Heard). x.answer) (offer-35 b a e.0))

pub returns-in_err-sound-clause-record_after : goal.returns-in_err-sound-clause-record_after
returns-in_err-sound-clause-record_after c = let b = book_of c.args.self.now in let a = c.args.a in
    let e = unsound b (sym c.in_err-sound.was ∙ c.sound.ensures) in
    sym (ap (left_by c.args.self.now) (offer-35 b a e.0))

pub returns-then-is_above-clause-value : goal.returns-then-is_above-clause-value
returns-then-is_above-clause-value c = let b = book_of c.args.self.now in let a = c.args.a in
    sym (ap (λ (x : Answered Heard). x.answer) (offer-30 b a (sound b (search rules)) (told c.is_above.ensures c.if-is_above.true)))

pub returns-then-is_above-clause-record_after : goal.returns-then-is_above-clause-record_after
returns-then-is_above-clause-record_after c = let b = book_of c.args.self.now in let a = c.args.a in
    sym (ap (left_by c.args.self.now) (offer-30 b a (sound b (search rules)) (told c.is_above.ensures c.if-is_above.true)))

pub returns-then-is_past-clause-value : goal.returns-then-is_past-clause-value
returns-then-is_past-clause-value c = let b = book_of c.args.self.now in let a = c.args.a in
    sym (ap (λ (x : Answered Heard). x.answer) (offer-32 b a (sound b (search rules)) (told c.is_above.ensures c.if-is_above.false) (told c.is_past.ensures c.if-is_past.true)))

pub returns-then-is_past-clause-record_after : goal.returns-then-is_past-clause-record_after
returns-then-is_past-clause-record_after c = let b = book_of c.args.self.now in let a = c.args.a in
    sym (ap (left_by c.args.self.now) (offer-32 b a (sound b (search rules)) (told c.is_above.ensures c.if-is_above.false) (told c.is_past.ensures c.if-is_past.true)))

pub returns-then-is_held-clause-value : goal.returns-then-is_held-clause-value
returns-then-is_held-clause-value c = let b = book_of c.args.self.now in let a = c.args.a in
    sym (ap (λ (x : Answered Heard). x.answer) (offer-33 b a (sound b (search rules)) (told c.is_above.ensures c.if-is_above.false) (told c.is_past.ensures c.if-is_past.false) (told c.is_held.ensures c.if-is_held.true)))

pub returns-then-is_held-clause-record_after : goal.returns-then-is_held-clause-record_after
returns-then-is_held-clause-record_after c = let b = book_of c.args.self.now in let a = c.args.a in
    sym (ap (left_by c.args.self.now) (offer-33 b a (sound b (search rules)) (told c.is_above.ensures c.if-is_above.false) (told c.is_past.ensures c.if-is_past.false) (told c.is_held.ensures c.if-is_held.true)))

pub returns-then-within-ge-HELD-clause-value : goal.returns-then-within-ge-HELD-clause-value
returns-then-within-ge-HELD-clause-value c = let b = book_of c.args.self.now in let a = c.args.a in
    let many = few c.args.self.now.words c.within.result c.within.ensures in
    sym (ap (λ (x : Answered Heard). x.answer) (offer-34 b a (sound b (search rules)) (told c.is_above.ensures c.if-is_above.false) (told c.is_past.ensures c.if-is_past.false) (told c.is_held.ensures c.if-is_held.false) (omega (arith, c.if-within-ge-HELD.true))))

pub returns-then-within-ge-HELD-clause-record_after : goal.returns-then-within-ge-HELD-clause-record_after
returns-then-within-ge-HELD-clause-record_after c = let b = book_of c.args.self.now in let a = c.args.a in
    let many = few c.args.self.now.words c.within.result c.within.ensures in
    sym (ap (left_by c.args.self.now) (offer-34 b a (sound b (search rules)) (told c.is_above.ensures c.if-is_above.false) (told c.is_past.ensures c.if-is_past.false) (told c.is_held.ensures c.if-is_held.false) (omega (arith, c.if-within-ge-HELD.true))))

pub returns-then-a-now-clause-value : goal.returns-then-a-now-clause-value
returns-then-a-now-clause-value c = let b = book_of c.args.self.now in let a = c.args.a in
    let many = few c.args.self.now.words c.within.result c.within.ensures in
    sym (ap (λ (x : Answered Heard). x.answer) (offer-applies b a (sound b (search rules)) (told c.is_above.ensures c.if-is_above.false) (told c.is_past.ensures c.if-is_past.false) (told c.is_held.ensures c.if-is_held.false) (omega (arith, c.if-within-ge-HELD.false)) c.if-a-now.true))

pub returns-then-a-now-clause-record_after : goal.returns-then-a-now-clause-record_after
returns-then-a-now-clause-record_after c = let b = book_of c.args.self.now in let a = c.args.a in
    let many = few c.args.self.now.words c.within.result c.within.ensures in
    heard-applied c.args.self.now a c.within.result c.within.ensures c.if-within-ge-HELD.false c.states_word.result c.hold-self.result
    (offer-applies b a (sound b (search rules)) (told c.is_above.ensures c.if-is_above.false) (told c.is_past.ensures c.if-is_past.false) (told c.is_held.ensures c.if-is_held.false) (omega (arith, c.if-within-ge-HELD.false)) c.if-a-now.true)
    (c.states_word.ensures
    ∙ ap states_word (c.apply-apps.ensures ∙ ap (λ (l : List App). applied l a.application a.action) c.apps_in.ensures))
    c.hold-self.ensures

pub returns-clause-value : goal.returns-clause-value
returns-clause-value c = let b = book_of c.args.self.now in let a = c.args.a in
    let many = few c.args.self.now.words c.within.result c.within.ensures in
    sym (ap (λ (x : Answered Heard). x.answer) (offer-waits b a (sound b (search rules)) (told c.is_above.ensures c.if-is_above.false) (told c.is_past.ensures c.if-is_past.false) (told c.is_held.ensures c.if-is_held.false) (omega (arith, c.if-within-ge-HELD.false)) c.if-a-now.false))

pub returns-clause-record_after : goal.returns-clause-record_after
returns-clause-record_after c = let b = book_of c.args.self.now in let a = c.args.a in
    let many = few c.args.self.now.words c.within.result c.within.ensures in
    heard-waiting c.args.self.now a c.within.result c.within.ensures c.if-within-ge-HELD.false c.states_in.result c.hold-self-2.result
    (offer-waits b a (sound b (search rules)) (told c.is_above.ensures c.if-is_above.false) (told c.is_past.ensures c.if-is_past.false) (told c.is_held.ensures c.if-is_held.false) (omega (arith, c.if-within-ge-HELD.false)) c.if-a-now.false)
    c.states_in.ensures c.hold-self-2.ensures
