-- A history of calls at the boundary is the layer's history of the same calls.
--   one-history
use mathlib.Core.Path.{◌≡◌, refl, sym, ap, ◌∙◌}
use mathlib.Core.List.{List, [], ◌∷◌}
use Rattle.shelf_laws.specs.State.{State}
use Rattle.shelf_laws.specs.History.{OfBytes, Call, Entry, entry, step, after, logged, log_of, start}
use Rattle.shelf_laws.proofs.Octets.{others}
use Rattle.shelf_histories.specs.Numbers.{Line, line, line_of, called, answered, in_numbers, log_in}
use Rattle.shelf_histories.specs.History.{Loan, state_of, answer_to, left_by, begun, left_from, lines_from, History, lines_after}
use Rattle.shelf_histories.specs.Laws.{SameHistory, OneHistory}
use Rattle.shelf_histories.proofs.Ties.{begun-state, begun-code, left-state, same_answer}
use Rattle.shelf_histories.proofs.Back.{log_back}

-- an entry is one of its call
its-call : (s : State) (c : Call) → called (entry s c) ≡ c
its-call s (Call.offer payload) = refl
its-call s (Call.load file) = refl
its-call s (Call.release key) = refl
its-call s (Call.ask question) = refl

-- the first call of a history
module _ (l : Loan) (s : State) (e : state_of l ≡ s) where
  first-line : (c : Call) → line c (answer_to l c) ≡ line_of (entry s c)
  first-line c =
      ap (line c) (same_answer l c)
      ∙ ap (λ k. line k (answered (entry (state_of l) c))) (sym (its-call (state_of l) c))
      ∙ ap (λ x. line_of (entry x c)) e

  first-state : (c : Call) (cs : List Call) → OfBytes (c ∷ cs) → state_of (left_by l c) ≡ step s c
  first-state c cs b = left-state l c cs b ∙ ap (λ x. step x c) e

left-from : (l : Loan) (s : State) → state_of l ≡ s → (h : List Call) → OfBytes h → state_of (left_from l h) ≡ after s h
left-from l s e [] b = e
left-from l s e (c ∷ cs) b = left-from (left_by l c) (step s c) (first-state l s e c cs b) cs (others c cs b)

lines-from : (l : Loan) (s : State) → state_of l ≡ s → (lines : List Line) (log : List Entry) → lines ≡ in_numbers log → (h : List Call) → OfBytes h
    → lines_from l lines h ≡ in_numbers (logged s log h)
lines-from l s e lines log same [] b = same
lines-from l s e lines log same (c ∷ cs) b =
    lines-from (left_by l c) (step s c) (first-state l s e c cs b) (line c (answer_to l c) ∷ lines) (entry s c ∷ log)
    (ap (λ x. x ∷ lines) (first-line l s e c) ∙ ap (λ x. line_of (entry s c) ∷ x) same) cs (others c cs b)

same-history : (h : History) → SameHistory h
same-history h =
    let begins = begun-state h.lent h.sizes in
    let same : lines_after h ≡ in_numbers (log_of h.calls) = lines-from (begun h.lent) start begins [] [] refl h.calls h.bytes in
    record {
      state = left-from (begun h.lent) start begins h.calls h.bytes;
      answers = same;
      log = ap log_in same ∙ log_back h.calls;
    }

pub one-history : OneHistory
one-history = (begun-code, same-history)
