-- What is answered after a history at the boundary, by what the layer answers after the same calls.
--   reply-after, reply-refusal     to a question, and the low 8 bits of it
--   next-answer, next-reply        to any call, and to a question after it
use mathlib.Core.Path.{◌≡◌, ap, ◌∙◌}
use mathlib.Core.List.{[], ◌∷◌}
use Rattle.answers.specs.Answers.{refusal_in}
use Rattle.shelf_laws.specs.State.{State}
use Rattle.shelf_laws.specs.History.{OfBytes, Question, Call, reply, reply_no, entry, step, after_all, ask}
use Rattle.shelf_laws.proofs.Ranges.{ReplyRange, range}
use Rattle.shelf_laws.proofs.Histories.{holds-all}
use Rattle.shelf_histories.specs.Numbers.{replied, answered}
use Rattle.shelf_histories.specs.History.{state_of, reply_to, answer_to, left_by, History, left_after, reply_after}
use Rattle.shelf_histories.proofs.Ties.{left-state, same_answer}
use Rattle.shelf_histories.proofs.Back.{reply-number}
use Rattle.shelf_histories.proofs.OneHistory.{one-history}

module _ (h : History) where
  abbrev layer : State
  layer = after_all h.calls

  same-state : state_of (left_after h) ≡ layer
  same-state = (one-history.1 h).state

  pub reply-range : (q : Question) → ReplyRange (reply layer q)
  reply-range q = range layer (holds-all h.calls).good (ask q)

  pub next-answer : (c : Call) → answer_to (left_after h) c ≡ answered (entry layer c)
  next-answer c = same_answer (left_after h) c ∙ ap (λ s. answered (entry s c)) same-state

  pub reply-after : (q : Question) → reply_after h q ≡ replied (reply layer q)
  reply-after q = next-answer (ask q)

  pub reply-refusal : (q : Question) → refusal_in (reply_after h q).code ≡ reply_no (reply layer q)
  reply-refusal q = ap (λ a. refusal_in a.code) (reply-after q) ∙ reply-number (reply layer q)

  -- a question after one more call
  module _ (c : Call) (b : OfBytes (c ∷ [])) where
    pub next-reply : (q : Question) → reply_to (left_by (left_after h) c) q ≡ replied (reply (step layer c) q)
    next-reply q =
        same_answer (left_by (left_after h) c) (ask q)
        ∙ ap (λ s. replied (reply s q)) (left-state (left_after h) c [] b ∙ ap (λ s. step s c) same-state)
