-- `trigger::trigger_of` meets its contract: each field is what its part promises. Assumes nothing.
use borrow.Author.Rules.{rules}
use mathlib.Core.Path.{◌≡◌, sym, ap, ◌∙◌}
use Rattle.base.specs.Bytes.{word}
use Rattle.trigger_faults.specs.Fields.{target_at, user_at}
use Rattle.trigger.specs.Trigger.{trigger_of}
use Rattle.trigger_faults.proofs.Exits.{head-sound, user-sound}
use Rattle.trigger.proofs.trigger_of.Goals as goal

pub word_at-idlength-requires : goal.word_at-idlength-requires
word_at-idlength-requires c = (head-sound _ c.requires.0.head).sized

pub id_of-id-requires : goal.id_of-id-requires
id_of-id-requires c = λ e. (head-sound _ c.requires.0.head).allowed (sym c.word_at-idlength.ensures ∙ e)

pub word_at-requires : goal.word_at-requires
word_at-requires c = rw c.requires.1 (user-sound _ _ c.requires.0.user).sized

pub returns : goal.returns
unfolding trigger_of
returns c = let at : c.args.placed.target ≡ target_at c.args.payload.now = ap (λ p. p.target) c.requires.1 in
    let tail : c.args.placed.user ≡ user_at c.args.payload.now = ap (λ p. p.user) c.requires.1 in
    let given : c.from-length.result ≡ word c.args.payload.now c.args.placed.user = search rules in
    rw (
      c.description_of-description.ensures,
      c.id_of-id.ensures,
      c.target_of-target.ensures,
      given,
      c.word_at-idlength.ensures,
      at,
      tail,
    )
