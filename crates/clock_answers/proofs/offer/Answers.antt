-- `offer` leaves by the ways of its meaning.
use borrow.Author.Rules.{rules}
use mathlib.Core.Path.{◌≡◌, sym, ap, ◌∙◌}
use lib.ListN.{length}
use Rattle.std.specs.Prelude.{Err}
use Rattle.refusal.proofs.Numbers.{handed_on}
use Rattle.clock.specs.declared.Clock.{Clock}
use Rattle.clock.specs.declared.Heard.{Heard}
use Rattle.clock_answers.specs.Calls.{Left}
use Rattle.clock_answers.proofs.Calls.{is-record, no-record, is-action, no-action, kept, offer-told, offer-255, offer-35, heard, offer-answered}
use Rattle.clock_answers.proofs.offer.Goals as goal

pub returns-in_err-action-clause-value : goal.returns-in_err-action-clause-value
returns-in_err-action-clause-value c = let g = c.args in
    let n = no-action g.action (sym c.in_err-action.was ∙ c.try_from.ensures) in
    handed_on c.from_residual.result c.from_residual.ensures.1
    ∙ ap Err n.1
    ∙ ap (λ (x : Left Heard). x.answer) (offer-255 g.words.now g.application g.event g.action g.time n.0)

pub returns-in_err-action-clause-words_after : goal.returns-in_err-action-clause-words_after
returns-in_err-action-clause-words_after c = let g = c.args in
    let n = no-action g.action (sym c.in_err-action.was ∙ c.try_from.ensures) in
    ap (λ (x : Left Heard). x.words) (offer-255 g.words.now g.application g.event g.action g.time n.0)

pub returns-in_err-clock-clause-value : goal.returns-in_err-clock-clause-value
returns-in_err-clock-clause-value c = let g = c.args in
    let a = is-action g.action (sym c.in_ok-action.was ∙ c.try_from.ensures) in
    let n = no-record g.words.now (sym c.in_err-clock.was ∙ c.record_in.ensures) in
    handed_on c.from_residual-in_err-clock.result c.from_residual-in_err-clock.ensures.1
    ∙ ap Err n.1
    ∙ ap (λ (x : Left Heard). x.answer) (offer-35 g.words.now g.application g.event g.action g.time a.0 n.0)

pub returns-in_err-clock-clause-words_after : goal.returns-in_err-clock-clause-words_after
returns-in_err-clock-clause-words_after c = let g = c.args in
    let a = is-action g.action (sym c.in_ok-action.was ∙ c.try_from.ensures) in
    let n = no-record g.words.now (sym c.in_err-clock.was ∙ c.record_in.ensures) in
    ap (λ (x : Left Heard). x.words) (offer-35 g.words.now g.application g.event g.action g.time a.0 n.0)

pub returns-in_err-heard-clause-value : goal.returns-in_err-heard-clause-value
returns-in_err-heard-clause-value c = let g = c.args in
    let a = is-action g.action (sym c.in_ok-action.was ∙ c.try_from.ensures) in
    let y = is-record g.words.now (sym c.in_ok-clock.was ∙ c.record_in.ensures) in
    handed_on c.from_residual-in_err-heard.result c.from_residual-in_err-heard.ensures.1
    ∙ sym c.in_err-heard.was
    ∙ (offer-told _ _ _ c.offer-next.ensures).0
    ∙ ap (λ (x : Left Heard). x.answer)
    (offer-answered g.words.now g.application g.event g.action g.time a.0 y.0 c.in_ok-clock.clock y.1 c.in_ok-action.action a.1)

pub returns-in_err-heard-clause-words_after : goal.returns-in_err-heard-clause-words_after
returns-in_err-heard-clause-words_after c = let g = c.args in
    let a = is-action g.action (sym c.in_ok-action.was ∙ c.try_from.ensures) in
    let y = is-record g.words.now (sym c.in_ok-clock.was ∙ c.record_in.ensures) in
    let q = a.1 in
    let r = heard g.words.now g.application g.event g.action g.time a.0 y.0 c.in_ok-clock.clock y.1 c.in_ok-action.action q in
    sym (ap (λ (x : Clock). x.words) (kept c.in_ok-clock.clock r.answer r.book _ (sym (offer-told _ _ _ c.offer-next.ensures).0 ∙ c.in_err-heard.was) ∙ y.1))
    ∙ ap (λ (x : Left Heard). x.words)
    (offer-answered g.words.now g.application g.event g.action g.time a.0 y.0 c.in_ok-clock.clock y.1 c.in_ok-action.action q)

pub copy_from_slice-requires : goal.copy_from_slice-requires
copy_from_slice-requires c =
    let y = is-record c.args.words.now (sym c.in_ok-clock.was ∙ c.record_in.ensures) in
    let e : length c.offer-next.result.clock.words ≡ 67 = search rules in y.0 ∙ sym e

pub returns-clause-value : goal.returns-clause-value
returns-clause-value c = let g = c.args in
    let a = is-action g.action (sym c.in_ok-action.was ∙ c.try_from.ensures) in
    let y = is-record g.words.now (sym c.in_ok-clock.was ∙ c.record_in.ensures) in
    sym c.in_ok-heard.was
    ∙ (offer-told _ _ _ c.offer-next.ensures).0
    ∙ ap (λ (x : Left Heard). x.answer)
    (offer-answered g.words.now g.application g.event g.action g.time a.0 y.0 c.in_ok-clock.clock y.1 c.in_ok-action.action a.1)

pub returns-clause-words_after : goal.returns-clause-words_after
returns-clause-words_after c = let g = c.args in
    let a = is-action g.action (sym c.in_ok-action.was ∙ c.try_from.ensures) in
    let y = is-record g.words.now (sym c.in_ok-clock.was ∙ c.record_in.ensures) in
    c.copy_from_slice.ensures.after
    ∙ ap (λ (x : Clock). x.words) (offer-told _ _ _ c.offer-next.ensures).1
    ∙ ap (λ (x : Left Heard). x.words)
    (offer-answered g.words.now g.application g.event g.action g.time a.0 y.0 c.in_ok-clock.clock y.1 c.in_ok-action.action a.1)
