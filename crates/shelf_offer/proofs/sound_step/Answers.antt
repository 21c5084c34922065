-- `shelf_offer::sound_step` meets its promise: the key's place, or the free place, is the definition's.
use mathlib.Core.Path.{◌≡◌, refl, sym, ap, ◌∙◌}
use lib.ListN.{length}
use Rattle.shelf.specs.Record.{spoiled_of}
use Rattle.shelf.proofs.Numbers.{at_count}
use Rattle.shelf_offer.proofs.On.{placed, place_found, free-found}
use Rattle.shelf_offer.proofs.Steps.{sound-held, sound-begins, sound-full}
use borrow.Author.Rules.{rules}
use Rattle.shelf_offer.proofs.sound_step.Goals as goal

pub held_step-requires-clause-p_lt_places : goal.held_step-requires-clause-p_lt_places
held_step-requires-clause-p_lt_places c = let a = c.args in
    let n : length a.words.now ≡ 96 = search rules in
    (search rules, placed a.words.now n a.header refl (c.place_of_said-p.ensures.0 c.requires.proper) (search rules))

pub returns-then-p-lt-PLACES : goal.returns-then-p-lt-PLACES
returns-then-p-lt-PLACES c = λ s.
    let a = c.args in
    let n : length a.words.now ≡ 96 = search rules in
    sound-held _ _ _ _ (place_found a.words.now n a.header refl (c.place_of_said-p.ensures.0 c.requires.proper)) (search rules) (rw (at_count a.words.now n) (c.held_step.ensures (ap spoiled_of (sym (at_count a.words.now n)) ∙ s)))

pub returns-then-free-lt-PLACES : goal.returns-then-free-lt-PLACES
returns-then-free-lt-PLACES c = λ s.
    let a = c.args in
    let n : length a.words.now ≡ 96 = search rules in
    sound-begins _ _ _ _ (place_found a.words.now n a.header refl (c.place_of_said-p.ensures.0 c.requires.proper)) (search rules) (search rules) (free-found a.words.now n c.free_of-free.ensures.0) (search rules)

pub returns : goal.returns
returns c = λ s.
    let a = c.args in
    let n : length a.words.now ≡ 96 = search rules in
    sound-full _ _ _ _ (place_found a.words.now n a.header refl (c.place_of_said-p.ensures.0 c.requires.proper)) (search rules) (search rules) (free-found a.words.now n c.free_of-free.ensures.0) (search rules) (search rules)
