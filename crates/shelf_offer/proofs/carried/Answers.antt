-- `shelf_offer::carried` meets its promise: each step, done.
use mathlib.Core.Path.{ap, ◌∙◌}
use native.Mathlib.Omega.{arith}
use Rattle.std.specs.Prelude.{Ok}
use Rattle.section.proofs.Laws.{sound-facts}
use Rattle.shelf_offer.proofs.Left.{repeat-lent, wrote-added, wrote-begun, wrote-again}
use Rattle.shelf_offer.proofs.carried.Goals as goal

pub returns-in-Repeats : goal.returns-in-Repeats
returns-in-Repeats c = repeat-lent _ _ _ (c.requires.is_step ∙ ap Ok c.in-Repeats.is) c.code_of.ensures

pub returns-in-Begins : goal.returns-in-Begins
returns-in-Begins c =
    wrote-begun _ _ _ _ (c.requires.is_step ∙ ap Ok c.in-Begins.is) c.begin.ensures.words_after c.begin.ensures.store_after c.code_of-in-Begins.ensures

pub returns-in-BeginsAgain : goal.returns-in-BeginsAgain
returns-in-BeginsAgain c =
    wrote-again _ _ _ _ (c.requires.is_step ∙ ap Ok c.in-BeginsAgain.is) c.mask_of-going.ensures
    c.begin-in-BeginsAgain.ensures.words_after c.begin-in-BeginsAgain.ensures.store_after c.code_of-in-BeginsAgain.ensures

pub bounds-payload-6 : goal.bounds-payload-6
bounds-payload-6 c = omega (arith, (sound-facts _ _ c.requires.sound).least)

pub add-requires : goal.add-requires
add-requires c = (sound-facts _ _ c.requires.sound).most

pub returns-in-Adds : goal.returns-in-Adds
returns-in-Adds c =
    wrote-added _ _ _ _ (c.requires.is_step ∙ ap Ok c.in-Adds.is) c.from.ensures c.add.ensures.words_after c.add.ensures.store_after
    c.code_of-in-Adds.ensures
