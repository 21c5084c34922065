-- `shelf_offer::held_step` meets its promise: each `return` is a case of the definition, by what was read in the numbers.
-- a held length that is not the payload's
use mathlib.Core.Path.{◌≡◌, sym, ◌∙◌}
use Rattle.shelf.specs.Record.{place_at, length_at}
use Rattle.shelf.specs.Layout.{shelf_in}
use Rattle.shelf.proofs.Numbers.{taken_at, version-same, version-other, last-same, last-other, length-same}
use Rattle.shelf.proofs.Words.{sound-place}
use Rattle.shelf_offer.proofs.Stands.{stood, other_length}
use Rattle.shelf_offer.proofs.Steps.{held-again, held-last, held-adds, held-repeats, held-differs}
use borrow.Author.Rules.{rules}
use Rattle.shelf_offer.proofs.held_step.Goals as goal

pub returns-then-version_of-from : goal.returns-then-version_of-from
returns-then-version_of-from c = λ s.
    let a = c.args in
    held-again _ _ _ _ _ (version-other a.words.now a.p (search rules) (search rules) (search rules) c.from.ensures c.version_of.ensures c.if-version_of-from.true)

pub returns-then-last_of-from : goal.returns-then-last_of-from
returns-then-last_of-from c = λ s.
    let a = c.args in
    held-last _ _ _ _ _ (version-same a.words.now a.p (search rules) (search rules) (search rules) c.from.ensures c.version_of.ensures c.if-version_of-from.false) (last-other a.words.now a.p (search rules) (search rules) (search rules) c.from-2.ensures c.last_of.ensures c.if-last_of-from.true)

pub returns-then-length-eq0 : goal.returns-then-length-eq0
returns-then-length-eq0 c = λ s.
    let a = c.args in
    let n : c.from-length.result ≡ length_at (place_at (shelf_in a.words.now) a.p) a.header.number = c.from-length.ensures ∙ length-same a.words.now a.p (search rules) (search rules) (search rules) a.header.number (search rules) c.from-number.ensures c.length_of.ensures in
    held-adds _ _ _ _ _ (version-same a.words.now a.p (search rules) (search rules) (search rules) c.from.ensures c.version_of.ensures c.if-version_of-from.false) (last-same a.words.now a.p (search rules) (search rules) (search rules) c.from-2.ensures c.last_of.ensures c.if-last_of-from.false) (sym n ∙ c.if-length-eq0.true)

-- a held length that is not the payload's
pub returns-then-length-payload : goal.returns-then-length-payload
returns-then-length-payload c = λ s.
    let a = c.args in
    let n : c.from-length.result ≡ length_at (place_at (shelf_in a.words.now) a.p) a.header.number = c.from-length.ensures ∙ length-same a.words.now a.p (search rules) (search rules) (search rules) a.header.number (search rules) c.from-number.ensures c.length_of.ensures in
    held-differs _ _ _ _ _ (version-same a.words.now a.p (search rules) (search rules) (search rules) c.from.ensures c.version_of.ensures c.if-version_of-from.false) (last-same a.words.now a.p (search rules) (search rules) (search rules) c.from-2.ensures c.last_of.ensures c.if-last_of-from.false) (λ z. c.if-length-eq0.false (n ∙ z))
    (other_length a.store.now a.p (search rules) (search rules) a.header.number (search rules) _ _ ((sound-place (shelf_in a.words.now) s a.p (search rules) (taken_at a.words.now a.p (search rules) ∙ search rules)).most a.header.number (search rules)) (λ z. c.if-length-payload.true (n ∙ z)))

pub returns-then-stands : goal.returns-then-stands
returns-then-stands c = λ s.
    let a = c.args in
    let n : c.from-length.result ≡ length_at (place_at (shelf_in a.words.now) a.p) a.header.number = c.from-length.ensures ∙ length-same a.words.now a.p (search rules) (search rules) (search rules) a.header.number (search rules) c.from-number.ensures c.length_of.ensures in
    held-repeats _ _ _ _ _ (version-same a.words.now a.p (search rules) (search rules) (search rules) c.from.ensures c.version_of.ensures c.if-version_of-from.false) (last-same a.words.now a.p (search rules) (search rules) (search rules) c.from-2.ensures c.last_of.ensures c.if-last_of-from.false) (λ z. c.if-length-eq0.false (n ∙ z))
    (stood a.store.now a.p (search rules) (search rules) a.header.number (search rules) _ _ ((sound-place (shelf_in a.words.now) s a.p (search rules) (taken_at a.words.now a.p (search rules) ∙ search rules)).most a.header.number (search rules)) c.from-number.ensures (sym c.if-length-payload.false ∙ n) c.stands.ensures c.if-stands.true)

pub returns : goal.returns
returns c = λ s.
    let a = c.args in
    let n : c.from-length.result ≡ length_at (place_at (shelf_in a.words.now) a.p) a.header.number = c.from-length.ensures ∙ length-same a.words.now a.p (search rules) (search rules) (search rules) a.header.number (search rules) c.from-number.ensures c.length_of.ensures in
    held-differs _ _ _ _ _ (version-same a.words.now a.p (search rules) (search rules) (search rules) c.from.ensures c.version_of.ensures c.if-version_of-from.false) (last-same a.words.now a.p (search rules) (search rules) (search rules) c.from-2.ensures c.last_of.ensures c.if-last_of-from.false) (λ z. c.if-length-eq0.false (n ∙ z))
    (stood a.store.now a.p (search rules) (search rules) a.header.number (search rules) _ _ ((sound-place (shelf_in a.words.now) s a.p (search rules) (taken_at a.words.now a.p (search rules) ∙ search rules)).most a.header.number (search rules)) c.from-number.ensures (sym c.if-length-payload.false ∙ n) c.stands.ensures c.if-stands.false)
