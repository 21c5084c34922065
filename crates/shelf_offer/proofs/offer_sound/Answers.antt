-- `shelf_offer::offer_sound` meets its promise: the step that was found settles the offer, or is carried out.
use mathlib.Core.Path.{ap, ◌∙◌}
use native.Mathlib.Omega.{arith}
use Rattle.std.specs.Prelude.{Ok}
use Rattle.key.proofs.Keys.{from_proper}
use Rattle.section.proofs.Laws.{sound-facts}
use Rattle.shelf_offer.proofs.Left.{settles-refused, settles-repeat, step-found, header-found}
use Rattle.shelf_offer.proofs.offer_sound.Goals as goal

pub sound_step-requires-clause-number_lt_sections : goal.sound_step-requires-clause-number_lt_sections
sound_step-requires-clause-number_lt_sections c = let pre = c.requires in
    let f = sound-facts _ _ pre.words_len.2 in
    (omega (arith, f.number, f.last), f.version, omega (arith, f.last), f.most)

pub sound_step-requires-clause-proper : goal.sound_step-requires-clause-proper
sound_step-requires-clause-proper c = let pre = c.requires in
    let f = sound-facts _ _ pre.words_len.2 in
    rw f.header (from_proper _ _ _ _)

pub returns-in-Err : goal.returns-in-Err
returns-in-Err c = let pre = c.requires in
    settles-refused _ _ _ pre.words_len.1 _ pre.words_len.2 c.sound_step.ensures _ c.in-Err.is c.code_of.ensures c.settle.ensures

pub returns-in-Ok-Repeats : goal.returns-in-Ok-Repeats
returns-in-Ok-Repeats c = let pre = c.requires in
    settles-repeat _ _ _ pre.words_len.1 _ pre.words_len.2 c.sound_step.ensures (c.in-Ok-Repeats.is ∙ ap Ok c.in-Ok-Repeats.field-0-is) c.code_of-in-Ok-Repeats.ensures c.settle-in-Ok-Repeats.ensures

pub carry_out-requires : goal.carry_out-requires
carry_out-requires c =
    let pre = c.requires in
    let u = pre.words_value c.if-passed.true in
    record {
      store_len = (pre.words_len.1, u);
      sound = header-found _ _ _ pre.words_len.1 _ pre.words_len.2 c.sound_step.ensures;
      is_step = step-found _ _ _ pre.words_len.1 _ pre.words_len.2 c.sound_step.ensures c.in-Ok.is u;
    }

pub ask_first-requires : goal.ask_first-requires
ask_first-requires c =
    let pre = c.requires in
    record {
      store_len = pre.words_len.1;
      sound = header-found _ _ _ pre.words_len.1 _ pre.words_len.2 c.sound_step.ensures;
      is_step = step-found _ _ _ pre.words_len.1 _ pre.words_len.2 c.sound_step.ensures c.in-Ok.is;
    }
