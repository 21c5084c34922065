-- `trigger_faults::is_uri` meets its contract. Assumes nothing.
use mathlib.Core.Logic.{⊎_elim}
use Rattle.trigger_faults.specs.Fields.{is_uri}
use Rattle.trigger_faults.proofs.Types.{no-uri}
use Rattle.trigger_faults.proofs.is_uri.Goals as goal

pub returns-in-AbsoluteUri : goal.returns-in-AbsoluteUri
unfolding is_uri
returns-in-AbsoluteUri c = ⊎_elim (λ e. rw e) (⊎_elim (λ e. rw e) (λ e. rw e)) c.in-AbsoluteUri.is

pub returns-in_default : goal.returns-in_default
returns-in_default c = no-uri _ c.in_default.not-AbsoluteUri c.in_default.not-LidUri c.in_default.not-HttpUri
